use Rattle.std.proofs.Common.{◌∙◌, ◌≡◌, ℕ, IfOk, ap, length, subst}
use Rattle.fact_compound.proofs.EntryFacts.{any_number, number_of_none, number_of_some}
use Rattle.fact_compound.proofs.entries.results_number.Goals as goal

pub returns-then-lower : goal.returns-then-lower
returns-then-lower c = λ s h valid. c.whether_any.ensures ∙ any_number c.results_of-results.result.now h c.if-lower.true (c.results_of-results.ensures.shaped s.params s.results h.signature)

pub returns-in-Some : goal.returns-in-Some
returns-in-Some c = λ s h valid.
    let sized = rw c.component_types.ensures at c.results_size-bytes.ensures in
    let flat = c.in_ok-flats.ensures s.results (c.results_of-results.ensures.shaped s.params s.results h.signature) in
    let count = ap length c.as_slice.ensures ∙ number_of_some h c.if-lower.false valid (sized s.params s.results h.signature) flat c.in-Some.is in
    subst (λ (k : ℕ). IfOk c.count_of-count.result (λ n. n ≡ k)) count c.count_of-count.ensures

pub returns-in-None : goal.returns-in-None
returns-in-None c = λ s h valid.
    let sized = rw c.component_types.ensures at c.results_size-bytes.ensures in
    let flat = c.in_ok-flats.ensures s.results (c.results_of-results.ensures.shaped s.params s.results h.signature) in
    number_of_none h c.if-lower.false valid (sized s.params s.results h.signature) flat c.in-None.is
