use Rattle.std.proofs.Common.{ap, sym, ◌∙◌, length}
use Rattle.std.specs.Prelude.{is_some, nat_eq}
use Rattle.fact_actions.specs.Adapters.{lowered_flats}
use Rattle.fact_compound.proofs.FunctionShapes.{none_lowered}
use Rattle.fact_compound.proofs.tuples.are_flat_results.Goals as goal

pub returns-then-async_ : goal.returns-then-async_
returns-then-async_ c = λ m ss h counted.
    c.is_empty.ensures ∙ ap (λ xs. nat_eq (length xs) 0) c.as_slice.ensures ∙ none_lowered _ _ m ss c.index.ensures h ∙ ap (λ b. is_some (lowered_flats b m ss)) (sym c.if-async_.true)

pub returns-else-async_ : goal.returns-else-async_
returns-else-async_ c = λ m ss h counted. c.are_flat_values.ensures m ss h counted ∙ ap (λ b. is_some (lowered_flats b m ss)) (sym c.if-async_.false)
