mod Callable
