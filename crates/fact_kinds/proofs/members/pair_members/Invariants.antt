use Rattle.fact_types.specs.declared.interface.InterfaceType.TheVariants.{Tuple as t_tuple}
use Rattle.fact_types.specs.Shapes.{Members, k_tuple}
use Rattle.fact_types.specs.Tables.{HasMembers, placed}
use Rattle.fact_kinds.proofs.MemberPairs.{PairsTo, IsPairOf}
use Rattle.fact_kinds.proofs.SourceMembers.{MembersAhead, IsPlaceFrom}
use Rattle.fact_kinds.proofs.members.pair_members.Given as goal

abbrev pub invariant-loop-at : goal.invariant-loop-at
invariant-loop-at l = record {
  paired : PairsTo (IsPairOf l.types (t_tuple l.fn.from) (t_tuple l.fn.to) k_tuple) (placed 0 l.members) l.pairs.items l.at;
  ahead : (ms : Members) → HasMembers l.types (placed 0 l.sources) ms → MembersAhead l.types (placed 0 l.sources) (IsPlaceFrom l.at) ms l.at l.end;
}
