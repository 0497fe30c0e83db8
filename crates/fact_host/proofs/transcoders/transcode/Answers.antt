use Rattle.std.proofs.Common.{ap, arith, subst}
use Rattle.std.specs.Prelude.{is_some}
use Rattle.fact_host.specs.Hosts.{IsMadeOf, both_listed}
use Rattle.fact_host.specs.Rules.{AreWrittenBytes}
use Rattle.fact_host.proofs.Transcoded.{stops_outside, stops_widening}
use Rattle.fact_host.proofs.Transcoding.{made_is}
use Rattle.fact_host.proofs.transcoders.transcode.Goals as goal

pub returns-in_default-clause-stops : goal.returns-in_default-clause-stops
returns-in_default-clause-stops c = λ h. c.in_ok-text.ensures.none (ap is_some c.in_default.is) c.args.destination.now

pub returns-in_default-2-clause-stops : goal.returns-in_default-2-clause-stops
returns-in_default-2-clause-stops c = λ h.
    let decodes = rw c.in-Some.is at c.in_ok-text.ensures.text in
    stops_widening c.args.op c.args.source.now c.args.destination.now c.as_slice.result.now c.in-Some.text c.args.told.now decodes c.as_slice.ensures (c.in_ok-made.ensures.none (ap is_some c.in_default-2.is))

pub returns-then-end-destination-clause-stops : goal.returns-then-end-destination-clause-stops
returns-then-end-destination-clause-stops c = λ h.
    let spelled = rw c.in-Some.is at c.in_ok-text.ensures.spelled in
    let made = rw c.in-Some-2.is at c.in_ok-made.ensures.made in
    stops_outside c.args.op c.args.source.now c.args.destination.now c.as_slice.result.now c.in-Some.text c.in-Some-2.made.bytes.items (both_listed c.in-Some-2.made.first c.in-Some-2.made.second) c.args.told.now spelled.0 c.as_slice.ensures made
    (omega (arith, c.from.ensures, c.len.ensures, c.if-end-destination.true))

pub returns-clause-makes : goal.returns-clause-makes
returns-clause-makes c =
    let spelled = rw c.in-Some.is at c.in_ok-text.ensures.spelled in
    let decodes = rw c.in-Some.is at c.in_ok-text.ensures.text in
    let there = rw c.in-Some.is at c.in_ok-text.ensures.there in
    let made = rw c.in-Some-2.is at c.in_ok-made.ensures.made in
    let within = rw c.in-Some-2.is at c.in_ok-made.ensures.within in
    let numbers = both_listed c.in-Some-2.made.first c.in-Some-2.made.second in
    made_is c.args.op c.args.source.now c.args.destination.now c.args.told.now c.in-Some.text c.in-Some-2.made.bytes.items numbers spelled.0 spelled.1 decodes there
    (subst (λ s. IsMadeOf c.args.op s c.args.destination.now c.args.told.now c.in-Some-2.made.bytes.items numbers) c.as_slice.ensures made) within (omega (arith, c.from.ensures, c.len.ensures, c.if-end-destination.false))
    (subst AreWrittenBytes c.as_slice-2.ensures.value c.read_bytes.ensures)
