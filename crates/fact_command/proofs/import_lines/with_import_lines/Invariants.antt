use Rattle.std.proofs.Common.{◌≡◌, ◌++◌, string_bytes, take}
use Rattle.fact_command.specs.ImportLines.{import_lines}
use Rattle.fact_command.proofs.import_lines.with_import_lines.Given as goal

abbrev pub invariant-loop-import : goal.invariant-loop-import
invariant-loop-import l = string_bytes l.text ≡ string_bytes l.initial.text ++ import_lines (take l.import-index l.imports)
