use Rattle.std.proofs.lemmas.Result.{IfOk-weaker}
use Rattle.fact_types.specs.declared.interface.InterfaceType.TheVariants as ty
use Rattle.fact_types.specs.Shapes.{k_record}
use Rattle.fact_kinds.specs.MemberPairs.{place_named, ArePairsOf}
use Rattle.fact_kinds.proofs.MemberPairs.{fields_paired}
use Rattle.fact_kinds.proofs.members.pair_fields.Goals as goal

pub returns : goal.returns
returns c =
    let (s, h, d) = c.canonical_abi-source.ensures.shaped in
    let (u, k, e) = c.canonical_abi-whole.ensures.shaped in
    IfOk-weaker c.pairs_by_name-pairs.result _ (λ pairs. ArePairsOf c.args.types.now (ty.Record c.args.from) (ty.Record c.args.to) k_record pairs.items) (λ pairs are.
    fields_paired c.reveal.ensures.sound c.args.from c.args.to c.index.result.now c.index.ensures _ c.as_slice.ensures (place_named c.in_ok-places.places) pairs.items are s h c.in_ok-places.ensures
    c.canonical_abi-whole.result.now c.canonical_abi-whole.ensures.within u k (c.canonical_abi-whole.ensures.laid u k)) c.pairs_by_name-pairs.ensures
