use Rattle.std.proofs.Common.{◌≡◌, ℕ, ◌+◌, ◌<◌, List, length, get_or, Some, ◌∙◌, ap, sym, subst, arith}
use Rattle.std.specs.Prelude.{slice_get}
use Rattle.std.proofs.lemmas.Option.{slice_get-get_or}
use Rattle.fact_types.specs.declared.interface.InterfaceType.{InterfaceType}
use Rattle.fact_types.specs.declared.interface.InterfaceType.TheVariants as ty
use Rattle.fact_types.specs.Shapes.{Members, layout_of, IsWithin, k_tuple, s_node}
use Rattle.fact_types.specs.Tables.{HasShape, placed}
use Rattle.fact_types.proofs.HeightLaws.{tuple_within}
use Rattle.fact_kinds.specs.declared.members.MemberPair.{MemberPair}
use Rattle.fact_kinds.proofs.MemberPairs.{PairsTo, IsPairOf, NextPair, type_at, behind_places, next_found, next_none, member_paired, members_paired}
use Rattle.fact_kinds.proofs.SourceMembers.{opened, fits32, fits64}
use Rattle.fact_kinds.proofs.TypeKinds.{tuple_kind, tuple_members}
use Rattle.fact_kinds.proofs.members.pair_members.Goals as goal
use Rattle.fact_kinds.proofs.members.pair_members.Goals.{in-Some, in-None}

-- an item that was got
item_got : (ys : List InterfaceType) (i : ℕ) (y : InterfaceType) → i < length ys → y ≡ get_or ys i y → slice_get ys i ≡ Some y
item_got ys i y lt is = slice_get-get_or ys i y lt ∙ ap Some (sym is)

pub canonical_abi-requires : goal.canonical_abi-requires
canonical_abi-requires c =
    let got = item_got c.as_slice-sources.result.now c.loop-at.at c.in-Some.source.now c.in-Some.ensures.lookup.3.0 (c.in-Some.ensures.lookup.3.1 _) in
    (tuple_within c.args.types.now c.reveal.ensures.sound c.args.from c.index.result.now c.index.ensures c.loop-at.at _ (ap (λ ys. slice_get ys c.loop-at.at) (sym c.as_slice-sources.ensures) ∙ got)).live

pub take-requires-clause-fits32 : goal.take-requires-clause-fits32
take-requires-clause-fits32 c =
    let (s, h, d) = c.canonical_abi-source.ensures.shaped in
    let (ms, is) = tuple_kind c.args.types.now c.args.from s h in
    let has = tuple_members c.args.types.now c.args.from c.index.result.now c.index.ensures _ c.as_slice-sources.ensures ms (subst (HasShape c.args.types.now (ty.Tuple c.args.from)) is h) in
    let y = c.in-Some.source.now in
    let at = type_at c.as_slice-sources.result.now c.loop-at.at y (item_got c.as_slice-sources.result.now c.loop-at.at y c.in-Some.ensures.lookup.3.0 (c.in-Some.ensures.lookup.3.1 _)) in
    let r = c.loop-at.invariant.ahead ms has in
    let p = opened _ y at r in
    fits32 _ y at r c.canonical_abi.result.now (subst IsWithin (c.canonical_abi-source.ensures.laid s h ∙ ap layout_of is) c.canonical_abi-source.ensures.within) (c.canonical_abi.ensures.laid p.shape p.shaped)

pub take-requires-clause-fits64 : goal.take-requires-clause-fits64
take-requires-clause-fits64 c =
    let (s, h, d) = c.canonical_abi-source.ensures.shaped in
    let (ms, is) = tuple_kind c.args.types.now c.args.from s h in
    let has = tuple_members c.args.types.now c.args.from c.index.result.now c.index.ensures _ c.as_slice-sources.ensures ms (subst (HasShape c.args.types.now (ty.Tuple c.args.from)) is h) in
    let y = c.in-Some.source.now in
    let at = type_at c.as_slice-sources.result.now c.loop-at.at y (item_got c.as_slice-sources.result.now c.loop-at.at y c.in-Some.ensures.lookup.3.0 (c.in-Some.ensures.lookup.3.1 _)) in
    let r = c.loop-at.invariant.ahead ms has in
    let p = opened _ y at r in
    fits64 _ y at r c.canonical_abi.result.now (subst IsWithin (c.canonical_abi-source.ensures.laid s h ∙ ap layout_of is) c.canonical_abi-source.ensures.within) (c.canonical_abi.ensures.laid p.shape p.shaped)

pub loop-at-preserved : goal.loop-at-preserved
loop-at-preserved c =
    let t = c.args.types.now in
    let n = c.loop-at.at in
    let ss = c.as_slice-sources.result.now in
    let ys = c.as_slice-members.result.now in
    let y = get_or ys n ty.Bool in
    let got : slice_get ys n ≡ Some y = slice_get-get_or ys n ty.Bool c.loop-at-test.true in
    let sources = λ (ms : Members) (h : HasShape t (ty.Tuple c.args.from) (s_node k_tuple ms)). tuple_members t c.args.from c.index.result.now c.index.ensures _ c.as_slice-sources.ensures ms h in
    let passed : NextPair t c.args.from ss n c.match-get.found c.match-get.end = elim c.match-get.branch [
      | in-Some w ↦
          let z = w.in-Some.source.now in
          let here = item_got ss n z w.in-Some.ensures.lookup.3.0 (w.in-Some.ensures.lookup.3.1 _) in
          let live = (tuple_within t c.reveal.ensures.sound c.args.from c.index.result.now c.index.ensures n z (ap (λ ys. slice_get ys n) (sym c.as_slice-sources.ensures) ∙ here)).live in
          next_found t c.args.from ss n c.loop-at.end z here live w.canonical_abi.result.now w.canonical_abi.ensures.laid c.loop-at.invariant.ahead sources
          (w.found-is ∙ ap Some w.take.ensures.place) (w.end-is ∙ w.take.ensures.end)
      | in-None w ↦ next_none t c.args.from ss n c.loop-at.end (behind_places n ss w.in-None.ensures.lookup.3) c.loop-at.invariant.ahead sources w.found-is w.end-is
    ] in
    record {
      paired = subst (λ (ps : List MemberPair). PairsTo (IsPairOf t (ty.Tuple c.args.from) (ty.Tuple c.args.to) k_tuple) (placed 0 ys) ps (n + 1)) (sym c.in_ok-push.ensures.items)
          (member_paired c.reveal.ensures.sound c.args.from c.args.to c.index-2.result.now c.index-2.ensures ys c.as_slice-members.ensures c.loop-at.invariant.paired y c.match-get.found got passed.live passed.finds);
      ahead = passed.ahead;
    }

pub returns : goal.returns
returns c =
    let (u, k, e) = c.canonical_abi-whole.ensures.shaped in
    members_paired c.reveal.ensures.sound c.args.from c.args.to c.index-2.result.now c.index-2.ensures c.as_slice-members.result.now c.as_slice-members.ensures c.loop-at.invariant.paired
    (omega (arith, c.loop-at-test.false, c.loop-at.auto.at-end)) c.canonical_abi-whole.result.now c.canonical_abi-whole.ensures.within u k (c.canonical_abi-whole.ensures.laid u k)
