use Rattle.std.proofs.Common.{ℕ, ◌∷◌, sym, ap, ◌∙◌}
use Rattle.std.proofs.lemmas.Result.{err_from_is_err_and}
use Rattle.fact_wasm.specs.declared.instr.BlockType.TheVariants as block
use Rattle.fact_binary.proofs.Items.{passes}
use Rattle.fact_binary.proofs.Unique.{type-unique, type-begins}
use Rattle.fact_binary.proofs.read_code.block_type_at.Goals as goal

pub returns-in_err-byte-clause-only : goal.returns-in_err-byte-clause-only
returns-in_err-byte-clause-only c t rest p e =
    let q = err_from_is_err_and c.from_residual.result c.from_residual.ensures.1 in
    let f = type-begins t rest in
    rw (q.1, q.2) (passes c.in_err-byte.field-0.0 _ _ (c.in_err-byte.ensures.only f.0 f.1 (e ∙ f.2)))

pub returns-then-byte-eq64-clause-only : goal.returns-then-byte-eq64-clause-only
returns-then-byte-eq64-clause-only c t rest p e =
    type-unique block.Empty t c.in_ok-byte.rest.now rest tt p (ap (λ (b : ℕ). b ∷ c.in_ok-byte.rest.now) (sym c.if-byte-eq64.true) ∙ sym c.in_ok-byte.ensures.found ∙ e)

pub returns-in-Some-clause-only : goal.returns-in-Some-clause-only
returns-in-Some-clause-only c t rest p e =
    type-unique (block.Result c.in-Some.ty) t c.in_ok-byte.rest.now rest tt p (ap (λ (b : ℕ). b ∷ c.in_ok-byte.rest.now) c.in-Some.ensures.found ∙ sym c.in_ok-byte.ensures.found ∙ e)
