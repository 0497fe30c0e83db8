use Rattle.std.proofs.Common.{◌↔◌, drop}
use Rattle.std.specs.Char.{IsScalar}
use Rattle.std.specs.List.{AllByRecursion}
use Rattle.fact_abi.proofs.belonging.are_characters.Given as goal

abbrev pub invariant-loop-place : goal.invariant-loop-place
invariant-loop-place l = AllByRecursion IsScalar l.chars ↔ AllByRecursion IsScalar (drop l.place l.chars)
