use Rattle.std.proofs.Common.{Err, refl, ap, ◌∙◌, sym, subst, List, All}
use Rattle.std.proofs.lemmas.Result.{err_from_is_err_and}
use Rattle.fact_types.specs.declared.interface.InterfaceType.{InterfaceType}
use Rattle.fact_types.specs.Shapes.{k_tuple}
use Rattle.fact_types.specs.Tables.{placed, HasMembers, IsLive}
use Rattle.fact_builder.specs.Makes.{Makes}
use Rattle.fact_plan.specs.declared.plan.PlanType.TheVariants as entry
use Rattle.fact_plan_types.specs.Adding.{AddsEntry}
use Rattle.fact_plan_types.specs.PlanShapes.{places_of}
use Rattle.fact_plan_types.proofs.AddLaws.{makes_adds}
use Rattle.fact_plan_types.proofs.MemberLaws.{placed_members}
use Rattle.fact_plan_types.proofs.ReadyLaws.{no_memory_adds, none_of}
use Rattle.fact_plan_types.proofs.TupleLaws.{made_tuples}
use Rattle.fact_plan_types.proofs.entries.add_tuple.Goals as goal

pub types_of-requires : goal.types_of-requires
types_of-requires c = none_of _ c.args.members.now c.requires.known

pub make_tuple-requires : goal.make_tuple-requires
make_tuple-requires c = subst (All (IsLive c.args.builder.now.tables)) (sym c.from_vec.ensures) (c.in_ok-members.ensures.live c.args.builder.now.tables c.requires.live)

pub returns-in_err-members : goal.returns-in_err-members
returns-in_err-members c =
    let p = err_from_is_err_and c.from_residual.result c.from_residual.ensures.1 in
    no_memory_adds _ _ _ _ _ (p.1 ∙ ap Err p.2)

pub returns-in_err-tuple : goal.returns-in_err-tuple
returns-in_err-tuple c =
    let t = c.args.builder.now.tables in
    let e = entry.Tuple c.args.members.now in
    let p = err_from_is_err_and c.from_residual-in_err-tuple.result c.from_residual-in_err-tuple.ensures.1 in
    let m = subst (Makes c.args.builder.now c.make_tuple.new.builder k_tuple (placed 0 c.from_vec.result)) c.in_err-tuple.was c.make_tuple.ensures in
    subst (AddsEntry c.args.builder.now c.make_tuple.new.builder c.args.types.now e) (sym (p.1 ∙ ap Err p.2))
    (makes_adds _ _ c.args.types.now e k_tuple _ (λ ss. places_of ss 0 c.args.members.now) _ m
    (λ ss h. subst (λ (xs : List InterfaceType). HasMembers t (placed 0 xs) (places_of ss 0 c.args.members.now)) (sym c.from_vec.ensures) (placed_members t ss 0 _ c.args.members.now (c.in_ok-members.ensures.shaped t ss h)))
    (λ ss h. refl) (λ ss h. refl) (λ ss. tt) tt)

pub returns : goal.returns
returns c =
    let t = c.args.builder.now.tables in
    let m = c.in_ok-tuple.ensures in
    makes_adds _ _ c.args.types.now (entry.Tuple c.args.members.now) k_tuple _ (λ ss. places_of ss 0 c.args.members.now) _ m
    (λ ss h. subst (λ (xs : List InterfaceType). HasMembers t (placed 0 xs) (places_of ss 0 c.args.members.now)) (sym c.from_vec.ensures) (placed_members t ss 0 _ c.args.members.now (c.in_ok-members.ensures.shaped t ss h)))
    (λ ss h. refl) (λ ss h. refl) (λ ss. tt)
    (λ ss h. made_tuples _ _ _ _ (places_of ss 0 c.args.members.now) m
    (subst (λ (xs : List InterfaceType). HasMembers t (placed 0 xs) (places_of ss 0 c.args.members.now)) (sym c.from_vec.ensures) (placed_members t ss 0 _ c.args.members.now (c.in_ok-members.ensures.shaped t ss h)))
    c.reveal.ensures.one_index)
