use Rattle.std.proofs.Common.{◌≡◌, string_bytes, take}
use Rattle.std.specs.List.{flat_map}
use Rattle.fact_explain.specs.Shown.{shown_char}
use Rattle.fact_explain.proofs.shown.shown_text.Given as goal

abbrev pub invariant-loop-c : goal.invariant-loop-c
invariant-loop-c l = string_bytes l.shown ≡ flat_map shown_char (take l.c-index l.c-items)
