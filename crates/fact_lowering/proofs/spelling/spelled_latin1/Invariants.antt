use Rattle.std.proofs.Common.{◌≡◌, ◌++◌, drop}
use Rattle.fact_types.specs.declared.outside.FixedEncoding.TheVariants.{Latin1}
use Rattle.fact_values.specs.Texts.{AreSpelled, spelled_text}
use Rattle.fact_lowering.proofs.spelling.spelled_latin1.Given as goal

abbrev pub invariant-loop-c : goal.invariant-loop-c
invariant-loop-c l = record {
  so_far : l.bytes.items ++ spelled_text Latin1 (drop l.c-index l.text) ≡ spelled_text Latin1 l.text;
  can : AreSpelled Latin1 (drop l.c-index l.text);
}
