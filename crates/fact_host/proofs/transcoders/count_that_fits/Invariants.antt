use Rattle.std.proofs.Common.{◌≡◌, ◌≤◌, length, take}
use Rattle.fact_types.specs.declared.outside.FixedEncoding.TheVariants.{Utf8}
use Rattle.fact_values.specs.Texts.{spelled_text}
use Rattle.fact_host.proofs.transcoders.count_that_fits.Given as goal

abbrev pub invariant-loop-place : goal.invariant-loop-place
invariant-loop-place l = record { used_is : l.used ≡ length (spelled_text Utf8 (take l.place l.text)); fits : l.used ≤ l.room }
