use Rattle.std.proofs.Common.{◌≤◌, length, drop}
use Rattle.fact_builder.proofs.FlattenLaws.{Going}
use Rattle.fact_builder.proofs.builder.ComponentTypesBuilder.flatten_types.Given as goal

abbrev pub invariant-loop-ty : goal.invariant-loop-ty
invariant-loop-ty l = record {
  going : Going l.self.tables l.memory64 l.max l.tys (drop l.ty-index l.tys) l.values;
  few : length l.values ≤ l.max;
}
