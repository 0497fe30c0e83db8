use Rattle.std.proofs.Common.{◌≡◌, ◌∙◌, ap, refl, subst}
use Rattle.std.specs.Prelude.{is_some}
use Rattle.fact_machine.specs.World.{put_at}
use Rattle.fact_machine.specs.declared.types.Answer.TheVariants.{Returns, Traps}
use Rattle.fact_host.specs.Hosts.{IsTranscodedByHost, both_listed, event_by}
use Rattle.fact_host.specs.Rules.{MustStop, memory_at, with_memory_at}
use Rattle.fact_host.proofs.Answering.{as_told, told_is, transcodes_made, transcodes_stop}
use Rattle.fact_host.proofs.answers.transcodes.Goals as goal

pub returns-in_default : goal.returns-in_default
returns-in_default c = λ func k.
    let t = c.told_of-asked.result in
    let e = event_by func c.args.args.now c.args.state.now Traps in
    as_told t k c.args.op c.args.from.0 c.args.from.1 c.args.to.0 c.args.to.1 e k (told_is t e c.told_of-asked.ensures.from c.told_of-asked.ensures.units c.told_of-asked.ensures.to c.told_of-asked.ensures.room c.told_of-asked.ensures.latin1)
    (transcodes_stop t k c.args.op c.args.from.0 c.args.from.1 c.args.to.0 c.args.to.1 e refl
    (subst (λ s. MustStop c.args.op s (memory_at c.args.state.now c.args.to.0) t) c.memory_at.ensures
    (subst (λ d. MustStop c.args.op c.memory_at.result.now d t) c.memory_at-destination.ensures (c.in_ok-transcoded.ensures.stops (ap is_some c.in_default.is)))))

pub returns : goal.returns
returns c = λ func k.
    let t = c.told_of-asked.result in
    let transcoded = c.in-Some.transcoded in
    let e = event_by func c.args.args.now c.args.state.now (Returns c.in_ok-results.results c.in_ok-state.state) in
    let there : c.in_ok-store.store.bytes.items ≡ memory_at c.args.state.now c.args.to.0 = c.in_ok-store.ensures.bytes ∙ c.memory_at-destination.ensures in
    let slice : c.as_slice.result.now ≡ transcoded.bytes.items = c.as_slice.ensures.value in
    let makes = rw c.in-Some.is at c.in_ok-transcoded.ensures.makes in
    as_told t k c.args.op c.args.from.0 c.args.from.1 c.args.to.0 c.args.to.1 e k (told_is t e c.told_of-asked.ensures.from c.told_of-asked.ensures.units c.told_of-asked.ensures.to c.told_of-asked.ensures.room c.told_of-asked.ensures.latin1)
    (transcodes_made t k c.args.op c.args.from.0 c.args.from.1 c.args.to.0 c.args.to.1 e transcoded.bytes.items transcoded.first transcoded.second c.in_ok-results.results c.in_ok-state.state refl
    (subst (λ s. IsTranscodedByHost c.args.op s (memory_at c.args.state.now c.args.to.0) t transcoded.bytes.items (both_listed transcoded.first transcoded.second)) c.memory_at.ensures
    (subst (λ d. IsTranscodedByHost c.args.op c.memory_at.result.now d t transcoded.bytes.items (both_listed transcoded.first transcoded.second)) c.memory_at-destination.ensures makes))
    c.in_ok-results.ensures.bits c.in_ok-results.ensures.typed
    (c.in_ok-state.ensures ∙ ap (with_memory_at c.args.state.now c.args.to.0) (c.put.ensures.bytes ∙ (λ i. put_at (there i) t.to (slice i)))))
