use Rattle.std.proofs.Common.{◌≡◌, ◌++◌, drop}
use Rattle.fact_types.specs.declared.outside.FixedEncoding.TheVariants.{Utf16}
use Rattle.fact_values.specs.Texts.{spelled_text}
use Rattle.fact_lowering.proofs.spelling.spelled_utf16.Given as goal

abbrev pub invariant-loop-c : goal.invariant-loop-c
invariant-loop-c l = l.bytes.items ++ spelled_text Utf16 (drop l.c-index l.text) ≡ spelled_text Utf16 l.text
