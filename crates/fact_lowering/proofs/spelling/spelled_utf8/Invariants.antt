use Rattle.std.proofs.Common.{◌≡◌, ◌++◌, drop}
use Rattle.std.specs.Prelude.{string_bytes}
use Rattle.fact_types.specs.declared.outside.FixedEncoding.TheVariants.{Utf8}
use Rattle.fact_values.specs.Texts.{spelled_text}
use Rattle.fact_lowering.proofs.spelling.spelled_utf8.Given as goal

abbrev pub invariant-loop-c : goal.invariant-loop-c
invariant-loop-c l = string_bytes l.spelling ++ spelled_text Utf8 (drop l.c-index l.text) ≡ spelled_text Utf8 l.text
