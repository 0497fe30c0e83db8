use Rattle.std.proofs.Common.{[], ◌∷◌, ◌∙◌}
use Rattle.std.proofs.lemmas.Result.{err_from_is_err_and}
use Rattle.fact_builder.specs.declared.error.BuildError.TheVariants.{NoInstance}
use Rattle.fact_source.specs.declared.defined.ComponentDefinedType.TheVariants as defined
use Rattle.fact_convert.specs.Tasks.{makes_type, makes_handles}
use Rattle.fact_convert.proofs.Coming.{comes_out, comes_at_once, comes_then}
use Rattle.fact_convert.proofs.Growing.{member_stays}
use Rattle.fact_convert.proofs.HandleLaws.{stream_made, stream_full, stream_table_made, stream_table_full}
use Rattle.fact_convert.proofs.Opening.{comes_still}
use Rattle.fact_convert.proofs.handles.type_of_streams.Goals as goal

pub returns-in_err-ty : goal.returns-in_err-ty
returns-in_err-ty c = λ s p m.
    (comes_still s _ _ c.add_stream_type.new.self _ _ _ c.in_err-ty.ensures.refused
    (comes_out _ _ _ _ _ c.from_residual.result _ (err_from_is_err_and c.from_residual.result c.from_residual.ensures.1)
    (stream_full s _ p c.args.payload _ _ c.add_stream_type.result _ m c.in_err-ty.was c.add_stream_type.ensures.too_large)))

pub returns-in_err-instance : goal.returns-in_err-instance
returns-in_err-instance c = λ s p m.
    let made = stream_made s _ c.add_stream_type.new.self p c.args.payload c.in_ok-ty.ty m c.in_ok-ty.ensures.interned c.in_ok-ty.ensures.entry c.in_ok-ty.ensures.rest c.in_ok-ty.ensures.keeps c.in_ok-ty.ensures.too_large in
    (comes_out _ _ _ _ _ c.from_residual-in_err-instance.result _ (let q = err_from_is_err_and c.from_residual-in_err-instance.result c.from_residual-in_err-instance.ensures.1 in (q.0, q.1, q.2 ∙ c.in_err-instance.ensures.none.0))
    (comes_then s _ _ _ (makes_type (defined.Stream p) ∷ []) (makes_handles (defined.Stream p) ∷ []) _ _ _ _ made (comes_at_once s _ (makes_handles (defined.Stream p) ∷ []) _ NoInstance c.in_err-instance.ensures.none.1)))

pub returns-in_err-index : goal.returns-in_err-index
returns-in_err-index c = λ s p m.
    let made = stream_made s _ c.add_stream_type.new.self p c.args.payload c.in_ok-ty.ty m c.in_ok-ty.ensures.interned c.in_ok-ty.ensures.entry c.in_ok-ty.ensures.rest c.in_ok-ty.ensures.keeps c.in_ok-ty.ensures.too_large in
    (comes_still s _ _ c.add_stream_table_type.new.self _ _ _ c.in_err-index.ensures.refused
    (comes_out _ _ _ _ _ c.from_residual-in_err-index.result _ (err_from_is_err_and c.from_residual-in_err-index.result c.from_residual-in_err-index.ensures.1)
    (comes_then s _ _ _ (makes_type (defined.Stream p) ∷ []) (makes_handles (defined.Stream p) ∷ []) _ _ _ _ made (stream_table_full s _ p c.args.payload c.in_ok-ty.ty c.in_ok-instance.instance _ c.add_stream_table_type.result _ (member_stays s _ _ made.grows p c.args.payload m) c.in_ok-instance.ensures.set c.in_ok-ty.ensures.entry c.in_err-index.was c.add_stream_table_type.ensures.too_large))))

pub returns : goal.returns
returns c = λ s p m.
    let made = stream_made s _ c.add_stream_type.new.self p c.args.payload c.in_ok-ty.ty m c.in_ok-ty.ensures.interned c.in_ok-ty.ensures.entry c.in_ok-ty.ensures.rest c.in_ok-ty.ensures.keeps c.in_ok-ty.ensures.too_large in
    (comes_then s _ _ _ (makes_type (defined.Stream p) ∷ []) (makes_handles (defined.Stream p) ∷ []) _ _ _ _ made (stream_table_made s _ c.add_stream_table_type.new.self p c.args.payload c.in_ok-ty.ty c.in_ok-instance.instance c.in_ok-index.index (member_stays s _ _ made.grows p c.args.payload m) c.in_ok-instance.ensures.set c.in_ok-ty.ensures.entry c.in_ok-index.ensures.interned c.in_ok-index.ensures.entry c.in_ok-index.ensures.rest c.in_ok-index.ensures.keeps c.in_ok-index.ensures.too_large))
