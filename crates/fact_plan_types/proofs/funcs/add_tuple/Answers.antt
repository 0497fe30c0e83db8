use Rattle.std.proofs.Common.{◌∙◌, ap, List, Ok, subst, sym, All}
use Rattle.std.proofs.lemmas.Result.{err_from_is_err_and}
use Rattle.fact_types.specs.declared.interface.InterfaceType.{InterfaceType}
use Rattle.fact_types.specs.Functions.{HaveShapes}
use Rattle.fact_types.specs.Tables.{IsLive}
use Rattle.fact_plan_types.specs.PlanShapes.{shapes_of}
use Rattle.fact_plan_types.proofs.FuncLaws.{always_tuple, tuple_made, tuple_unmade}
use Rattle.fact_plan_types.proofs.funcs.add_tuple.Goals as goal

pub make_tuple-requires : goal.make_tuple-requires
make_tuple-requires c = subst (All (IsLive c.args.builder.now.tables)) (sym c.from_vec.ensures) (c.in_ok-members.ensures.live c.args.builder.now.tables c.requires.live)

pub returns-in_err-tuple : goal.returns-in_err-tuple
returns-in_err-tuple c =
    let t = c.args.builder.now.tables in
    let p = err_from_is_err_and c.from_residual-in_err-tuple.result c.from_residual-in_err-tuple.ensures.1 in
    tuple_unmade _ _ c.args.types.now c.args.refs.now _ _ _ _ _ c.in_err-tuple.was c.make_tuple.ensures
    (λ ss h. subst (λ (xs : List InterfaceType). HaveShapes t xs (shapes_of ss c.args.refs.now)) (sym c.from_vec.ensures) (c.in_ok-members.ensures.shaped t ss h)) p.1 p.2

pub unreachable-requires : goal.unreachable-requires
unreachable-requires c =
    let t = c.args.builder.now.tables in
    always_tuple _ _ _ _ _ c.reveal.ensures.sound (subst (All (IsLive t)) (sym c.from_vec.ensures) (c.in_ok-members.ensures.live t c.requires.live)) c.in_ok-tuple.was c.make_tuple.ensures c.in_default.not-Tuple

pub returns : goal.returns
returns c =
    let t = c.args.builder.now.tables in
    tuple_made _ _ c.args.types.now c.args.refs.now _ c.in-Tuple.index _ (c.in_ok-tuple.was ∙ ap Ok c.in-Tuple.is) c.make_tuple.ensures c.reveal-2.ensures.one_index
    (λ ss h. subst (λ (xs : List InterfaceType). HaveShapes t xs (shapes_of ss c.args.refs.now)) (sym c.from_vec.ensures) (c.in_ok-members.ensures.shaped t ss h))
