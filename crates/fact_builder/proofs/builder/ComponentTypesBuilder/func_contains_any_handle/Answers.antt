use Rattle.std.proofs.Common.{sym, ◌∙◌, ap}
use Rattle.std.specs.Prelude.{◌||◌, slice_get}
use Rattle.fact_types.specs.Handles.{any_handle}
use Rattle.fact_types.specs.Tuples.{tuple_of}
use Rattle.fact_builder.proofs.HandleLaws.{tuple_handle, params_shape, results_shape}
use Rattle.fact_builder.proofs.builder.ComponentTypesBuilder.func_contains_any_handle.Goals as goal

pub returns-then-has_handle : goal.returns-then-has_handle
returns-then-has_handle c = λ ps rs h.
    let p = c.has_handle.ensures (tuple_of ps) (params_shape _ _ (ap (λ b. b.tables) c.self.view_is) c.args.ty _ (ap (λ t. slice_get t.functions c.args.ty.number) (sym c.tables.ensures) ∙ c.index-func.ensures) ps rs h) ∙ tuple_handle ps in
    c.if-has_handle.true ∙ (λ i. (sym c.if-has_handle.true ∙ p) i || any_handle rs)

pub returns-else-has_handle : goal.returns-else-has_handle
returns-else-has_handle c = λ ps rs h.
    let p = c.has_handle.ensures (tuple_of ps) (params_shape _ _ (ap (λ b. b.tables) c.self.view_is) c.args.ty _ (ap (λ t. slice_get t.functions c.args.ty.number) (sym c.tables.ensures) ∙ c.index-func.ensures) ps rs h) ∙ tuple_handle ps in
    let r = c.has_handle-else-has_handle.ensures (tuple_of rs) (results_shape _ _ (ap (λ b. b.tables) c.self.view_is) c.args.ty _ (ap (λ t. slice_get t.functions c.args.ty.number) (sym c.tables.ensures) ∙ c.index-func.ensures) ps rs h) ∙ tuple_handle rs in
    r ∙ (λ i. (sym c.if-has_handle.false ∙ p) i || any_handle rs)
