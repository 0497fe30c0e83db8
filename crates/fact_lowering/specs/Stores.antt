-- Memories that are stored to.
use Rattle.std.specs.Prelude.{ℕ, ◌^◌, ◌<◌, List, length}

-- Memories are so short that each address and each length in them has its place in the bytes of a pointer, beside the tag of a text.
abbrev pub IsShort : List ℕ → Type 0
IsShort bytes = length bytes < 2 ^ 31
