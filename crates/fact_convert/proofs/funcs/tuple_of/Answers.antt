use Rattle.std.proofs.Common.{◌∙◌, subst}
use Rattle.fact_types.specs.Tables.{IsLive}
use Rattle.std.proofs.lemmas.Result.{err_from_is_err_and}
use Rattle.fact_convert.proofs.Coming.{comes_out, comes_to_nothing}
use Rattle.fact_convert.proofs.GrowthLaws.{grows_none}
use Rattle.fact_convert.proofs.Making.{tuple_at, tuple_refused, types_now, all_live}
use Rattle.fact_convert.proofs.funcs.tuple_of.Goals as goal

pub make_tuple-requires : goal.make_tuple-requires
make_tuple-requires c = all_live c.args.builder.now.tables c.args.types.now _ (c.from_vec.ensures ∙ c.in_ok-listed.ensures.items_if_clones_equal (λ x y h. h)) c.requires

pub returns-in_err-listed-clause-comes : goal.returns-in_err-listed-clause-comes
returns-in_err-listed-clause-comes c = λ s vs a. comes_out _ _ _ _ _ c.from_residual.result _ (err_from_is_err_and c.from_residual.result c.from_residual.ensures.1) (comes_to_nothing _ _ _ _)

pub returns-in_err-listed-clause-keeps : goal.returns-in_err-listed-clause-keeps
returns-in_err-listed-clause-keeps c = (grows_none c.args.builder.now).types

pub returns-in_err-tuple-clause-comes : goal.returns-in_err-tuple-clause-comes
returns-in_err-tuple-clause-comes c = λ s vs a.
    comes_out _ _ _ _ _ c.from_residual-in_err-tuple.result _ (err_from_is_err_and c.from_residual-in_err-tuple.result c.from_residual-in_err-tuple.ensures.1)
    (tuple_refused s _ c.make_tuple.new.builder vs _ _ _ (types_now s c.args.builder.now vs c.args.types.now _ (c.from_vec.ensures ∙ c.in_ok-listed.ensures.items_if_clones_equal (λ x y h. h)) a) c.in_err-tuple.ensures)

pub returns-in_err-tuple-clause-keeps : goal.returns-in_err-tuple-clause-keeps
returns-in_err-tuple-clause-keeps c = c.make_tuple.ensures.keeps

pub returns-clause-comes : goal.returns-clause-comes
returns-clause-comes c = λ s vs a.
    tuple_at s _ c.make_tuple.new.builder vs _ _ c.in-Tuple.index c.in-Tuple.is (types_now s c.args.builder.now vs c.args.types.now _ (c.from_vec.ensures ∙ c.in_ok-listed.ensures.items_if_clones_equal (λ x y h. h)) a) c.in_ok-tuple.ensures

pub returns-clause-keeps : goal.returns-clause-keeps
returns-clause-keeps c = c.make_tuple.ensures.keeps

-- what was made is a tuple
pub unreachable-requires : goal.unreachable-requires
unreachable-requires c = c.in_default.not-Tuple _ c.in_ok-tuple.ensures.placed.of_kind

pub returns-clause-live : goal.returns-clause-live
returns-clause-live c = subst (IsLive c.make_tuple.new.builder.tables) c.in-Tuple.is c.in_ok-tuple.ensures.live
