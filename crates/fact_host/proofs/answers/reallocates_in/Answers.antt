use Rattle.std.proofs.Common.{[], ◌++◌, ◌∷◌, ◌≡◌, ◌∙◌, ap, refl, subst, sym, true}
use Rattle.fact_types.specs.Signatures.{address}
use Rattle.fact_machine.specs.Typing.{address_operand}
use Rattle.fact_machine.specs.declared.types.Answer.TheVariants.{Returns}
use Rattle.fact_host.specs.Allocator.{asked_by}
use Rattle.fact_host.specs.Hosts.{event_by}
use Rattle.fact_host.specs.Rules.{AreOfCoreTypes, ReallocsIn, raised}
use Rattle.fact_host.proofs.Answering.{as_asked, asked_is, reallocs_given}
use Rattle.fact_host.proofs.answers.reallocates_in.Goals as goal

pub returns-clause-answers : goal.returns-clause-answers
returns-clause-answers c = λ func.
    let k = c.args.known.now in
    let n = c.args.memory in
    let request = c.request_of-request.result in
    let results = c.push.new.self in
    let e = event_by func c.args.args.now c.args.state.now (Returns results c.in_ok-state.state) in
    let store = c.reallocate.new.store in
    let none : c.new-results.result ≡ [] = c.new-results.ensures in
    let value : c.in_ok-address_of.field-0 ≡ address_operand c.args.memory64 c.in-Some.at = c.in_ok-address_of.ensures.value in
    let pushed : results ≡ c.new-results.result ++ c.in_ok-address_of.field-0 ∷ [] = c.in_ok-push.ensures.ok in
    let gives = rw c.in-Some.is at c.in_ok-at.ensures.gives in
    subst (λ b. ReallocsIn k n c.args.memory64 b e c.raise.new.self) (sym c.if-not-is_destination.false)
    (as_asked (asked_by request) k n c.args.memory64 true e c.raise.new.self (asked_is request e c.request_of-request.ensures.old c.request_of-request.ensures.align c.request_of-request.ensures.size)
    (reallocs_given k c.raise.new.self n c.in_ok-store.store.cursor c.in_ok-store.store.bytes.items c.args.memory64 (asked_by request) e c.in-Some.at store.cursor store.bytes.items results c.in_ok-state.state refl
    (c.in_ok-store.ensures.cursor ∙ c.cursor_of.ensures) (c.in_ok-store.ensures.bytes ∙ c.memory_at.ensures) gives
    (pushed ∙ (λ i. none i ++ value i ∷ []))
    (subst (λ rs. AreOfCoreTypes (address c.args.memory64 ∷ []) rs) (sym (pushed ∙ ap (λ l. l ++ c.in_ok-address_of.field-0 ∷ []) none)) (c.in_ok-address_of.ensures.typed, tt))
    c.in_ok-state.ensures (c.raise.ensures ∙ ap (λ l. raised (record k { live = l }) n store.cursor) c.in_ok-live.ensures)))
