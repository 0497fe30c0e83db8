use Rattle.std.proofs.Common.{◌≤◌, All, [], ◌∷◌, ◌++◌, take, sym, ◌∙◌, ap, subst, arith}
use Rattle.std.specs.Prelude.{Ok, length}
use Rattle.std.specs.List.{AllZip}
use Rattle.std.proofs.lemmas.Option.{get_or_from_slice_get}
use Rattle.std.proofs.lemmas.Result.{err_from_is_err_and}
use Rattle.fact_source.specs.Live.{IsValueBelow}
use Rattle.fact_convert.specs.Converted.{IsTypeFrom}
use Rattle.fact_convert.specs.Progress.{Comes}
use Rattle.fact_convert.specs.Tasks.{value_tasks, member_types}
use Rattle.fact_convert.proofs.Coming.{comes_none, comes_out, comes_to_nothing, comes_ready}
use Rattle.fact_convert.proofs.EntryLaws.{defined_comes, defined_fails}
use Rattle.fact_convert.proofs.Listing.{one_more_type, types_live}
use Rattle.fact_convert.proofs.Looping.{one_more_came, one_failed, one_lost, all_came}
use Rattle.fact_convert.proofs.Making.{many_from, all_live}
use Rattle.fact_convert.proofs.Measures.{height, heights, members_lower, members_live, one_no_higher}
use Rattle.fact_convert.proofs.Opening.{comes_named}
use Rattle.fact_convert.proofs.values.+values.Goals as goal

-- ---- a defined type

pub type_of_defined-types_of_values-requires : goal.type_of_defined-types_of_values-requires
type_of_defined-types_of_values-requires t c =
    let at = sym c.in-Some.ensures.value in
    let lower = subst (λ vs. heights vs ≤ c.args.id.number) (sym c.in_ok-named.ensures) (members_lower c.args.types.now c.reveal.ensures c.args.id.number c.in-Some.entry.now at) in
    let live = subst (λ vs. All (IsValueBelow (length c.args.types.now.defined)) vs) (sym c.in_ok-named.ensures) (members_live c.args.types.now c.reveal.ensures c.args.id.number c.in-Some.entry.now at c.requires.live) in
    (omega (arith, c.decreases, ap heights c.as_slice.ensures, lower), (c.requires.ready, subst (All (IsValueBelow (length c.args.types.now.defined))) (sym c.as_slice.ensures) live))

pub type_of_defined-type_of_entry-requires-clause-live : goal.type_of_defined-type_of_entry-requires-clause-live
type_of_defined-type_of_entry-requires-clause-live t c =
    all_live c.types_of_values.new.builder.tables c.in_ok-members.members _ c.as_slice-2.ensures (types_live c.args.types.now c.types_of_values.new.builder (c.in_ok-members.ensures.kept_live c.requires.ready.kept) c.as_slice.result.now c.in_ok-members.members c.in_ok-members.ensures.converts.1)

pub type_of_defined-type_of_entry-requires-clause-many : goal.type_of_defined-type_of_entry-requires-clause-many
type_of_defined-type_of_entry-requires-clause-many t c =
    ap length c.as_slice-2.ensures ∙ many_from _ _ _ c.in_ok-members.ensures.converts.1 ∙ ap length (c.as_slice.ensures ∙ c.in_ok-named.ensures)

pub type_of_defined-returns-in_err-named : goal.type_of_defined-returns-in_err-named
type_of_defined-returns-in_err-named t c = comes_out _ _ _ _ _ c.from_residual.result _ (err_from_is_err_and c.from_residual.result c.from_residual.ensures.1) (comes_to_nothing _ _ _ _)

pub type_of_defined-returns-in_err-members : goal.type_of_defined-returns-in_err-members
type_of_defined-returns-in_err-members t c =
    comes_out _ _ _ _ _ c.from_residual-in_err-members.result _ (err_from_is_err_and c.from_residual-in_err-members.result c.from_residual-in_err-members.ensures.1)
    (defined_fails c.args.types.now c.reveal.ensures _ _ c.args.id c.requires.live c.in-Some.entry.now (sym c.in-Some.ensures.value) _ (c.as_slice.ensures ∙ c.in_ok-named.ensures) _ _ _ c.in_err-members.ensures)

pub type_of_defined-returns : goal.type_of_defined-returns
type_of_defined-returns t c =
    defined_comes c.args.types.now c.reveal.ensures _ _ _ c.args.id c.requires.live c.in-Some.entry.now (sym c.in-Some.ensures.value) _ (c.as_slice.ensures ∙ c.in_ok-named.ensures) _ _ c.in_ok-members.ensures
    (λ a. c.type_of_entry.ensures c.args.types.now (subst (λ ts. AllZip (IsTypeFrom c.args.types.now c.types_of_values.new.builder) (member_types c.in-Some.entry.now) ts) (sym c.as_slice-2.ensures) a))

-- ---- types one by one

pub types_of_values-type_of_value-requires : goal.types_of_values-type_of_value-requires
types_of_values-type_of_value-requires t c =
    let is = sym (get_or_from_slice_get c.args.tys.now c.loop-i.i c.value_at-ty.result c.value_at-ty.result c.value_at-ty.ensures) in (
      omega (arith, c.decreases, one_no_higher c.args.tys.now c.loop-i.i c.value_at-ty.result c.loop-i-test.true, ap height is),
      (comes_ready _ _ _ _ _ _ c.loop-i.invariant c.requires.ready, subst (IsValueBelow (length c.args.types.now.defined)) (sym is) (c.requires.live c.loop-i.i c.value_at-ty.result c.loop-i-test.true)),
    )

pub types_of_values-loop-i-init : goal.types_of_values-loop-i-init
types_of_values-loop-i-init t c = subst (λ m. Comes c.args.types.now c.args.builder.now [] (λ c' ts. AllZip (IsTypeFrom c.args.types.now c') [] ts) c.args.builder.now (Ok m)) (sym c.new-value_types.ensures) (comes_none _ _ _ [] tt)

pub types_of_values-loop-i-preserved : goal.types_of_values-loop-i-preserved
types_of_values-loop-i-preserved t c =
    one_more_came c.args.types.now c.args.builder.now c.loop-i.builder c.type_of_value.new.builder (value_tasks c.args.types.now) c.args.tys.now c.loop-i.i c.value_at-ty.result (λ vs c' ts. AllZip (IsTypeFrom c.args.types.now c') vs ts) (λ c' t. IsTypeFrom c.args.types.now c' c.value_at-ty.result t) c.loop-i.value_types c.push.new.self c.in_ok-next.next
    c.loop-i-test.true (sym (get_or_from_slice_get c.args.tys.now c.loop-i.i c.value_at-ty.result c.value_at-ty.result c.value_at-ty.ensures)) c.loop-i.invariant c.in_ok-next.ensures
    (λ g k h. subst (λ ts. AllZip (IsTypeFrom c.args.types.now c.type_of_value.new.builder) (take c.loop-i.i c.args.tys.now ++ c.value_at-ty.result ∷ []) ts) (sym c.in_ok-push.ensures.ok) (one_more_type c.args.types.now c.loop-i.builder c.type_of_value.new.builder g (take c.loop-i.i c.args.tys.now) c.loop-i.value_types c.value_at-ty.result c.in_ok-next.next k h))

pub types_of_values-returns-in_err-next : goal.types_of_values-returns-in_err-next
types_of_values-returns-in_err-next t c =
    comes_out _ _ _ _ _ c.from_residual.result _ (err_from_is_err_and c.from_residual.result c.from_residual.ensures.1)
    (one_failed c.args.types.now _ _ _ (value_tasks c.args.types.now) c.args.tys.now c.loop-i.i c.value_at-ty.result _ _ _ _ _ c.loop-i-test.true (sym (get_or_from_slice_get c.args.tys.now c.loop-i.i c.value_at-ty.result c.value_at-ty.result c.value_at-ty.ensures)) c.loop-i.invariant c.in_err-next.ensures)

pub types_of_values-returns-in_err-push : goal.types_of_values-returns-in_err-push
types_of_values-returns-in_err-push t c =
    comes_out _ _ _ _ _ c.from_residual-in_err-push.result _ (err_from_is_err_and c.from_residual-in_err-push.result c.from_residual-in_err-push.ensures.1)
    (one_lost c.args.types.now _ _ _ (value_tasks c.args.types.now) c.args.tys.now c.loop-i.i c.value_at-ty.result _ _ _ _ _ c.loop-i-test.true (sym (get_or_from_slice_get c.args.tys.now c.loop-i.i c.value_at-ty.result c.value_at-ty.result c.value_at-ty.ensures)) c.loop-i.invariant c.in_ok-next.ensures)

pub types_of_values-returns : goal.types_of_values-returns
types_of_values-returns t c = all_came c.args.types.now _ _ (value_tasks c.args.types.now) c.args.tys.now c.loop-i.i (λ vs c' ts. AllZip (IsTypeFrom c.args.types.now c') vs ts) _ c.loop-i-test.false c.loop-i.invariant

-- ---- a type of values

pub type_of_value-type_of_defined-requires : goal.type_of_value-type_of_defined-requires
type_of_value-type_of_defined-requires t c = (omega (arith, c.decreases, ap height c.in-Defined.is), (c.requires.ready, subst (IsValueBelow (length c.args.types.now.defined)) c.in-Defined.is c.requires.live))

pub type_of_value-returns-in-Primitive : goal.type_of_value-returns-in-Primitive
type_of_value-returns-in-Primitive t c = comes_named c.args.types.now _ _ (value_tasks c.args.types.now) (λ v c' t. IsTypeFrom c.args.types.now c' v t) _ _ _ c.in-Primitive.is (c.type_of_primitive.ensures c.args.types.now)

pub type_of_value-returns-in-Defined : goal.type_of_value-returns-in-Defined
type_of_value-returns-in-Defined t c = comes_named c.args.types.now _ _ (value_tasks c.args.types.now) (λ v c' t. IsTypeFrom c.args.types.now c' v t) _ _ _ c.in-Defined.is c.type_of_defined.ensures
