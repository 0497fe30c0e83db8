use Rattle.std.proofs.Common.{◌+◌, ◌*◌}
use Rattle.fact_emit.specs.StringPaths.{path_of}
use Rattle.fact_emit.proofs.PathLaws.{path_size}
use Rattle.fact_emit.proofs.strings.+paths.Given as goal

abbrev pub decreases-put_path : goal.decreases-put_path
decreases-put_path l = 2 * path_size (path_of l.path.now)

abbrev pub decreases-put_choice : goal.decreases-put_choice
decreases-put_choice l = 2 * path_size (path_of l.if_true.now) + 2 * path_size (path_of l.if_false.now) + 1
