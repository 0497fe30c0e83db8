use Rattle.std.proofs.Common.{◌+◌, ◌++◌, ◌/◌, ◌≡◌, ◌≤◌, ◌∙◌, ap, arith, drop, inr, length, take}
use Rattle.fact_types.specs.declared.outside.FixedEncoding.TheVariants.{Utf16}
use Rattle.fact_values.specs.Texts.{spelled_text, units_of_text}
use Rattle.fact_actions.specs.Transcoders.{widened}
use Rattle.fact_host.proofs.Transcoded.{widened_units}
use Rattle.fact_host.proofs.Transcoding.{made_widening}
use Rattle.fact_host.proofs.transcoders.widening.Goals as goal

pub returns-then-units-told-clause-none : goal.returns-then-units-told-clause-none
returns-then-units-told-clause-none c = λ h.
    let t = c.args.told.now in
    let destination = c.args.destination.now in
    let within : t.to + t.latin1 ≤ length destination = omega (arith, c.from.ensures, c.in-Some.ensures.some.0) in
    let front : c.in_ok-bytes.bytes.items ≡ widened (take t.latin1 (drop t.to destination)) = c.in_ok-bytes.ensures ∙ ap widened (c.in-Some.ensures.some.1 ∙ ap (λ n. take n (drop t.to destination)) c.from.ensures) in
    let more : c.as_slice.result.now ≡ spelled_text Utf16 c.args.text.now = c.as_slice.ensures.value ∙ c.in_ok-more.ensures in
    let is : c.extend_from_slice.new.self.items ≡ widened (take t.latin1 (drop t.to destination)) ++ spelled_text Utf16 c.args.text.now = c.in_ok-extend_from_slice.ensures.items ∙ (λ i. front i ++ more i) in
    let units : c.len.result / 2 ≡ t.latin1 + units_of_text Utf16 c.args.text.now = widened_units destination c.args.text.now c.extend_from_slice.new.self.items t.to t.latin1 c.len.result within is (omega (arith, c.len.ensures)) in
    inr (omega (arith, units, c.if-units-told.true))

pub returns-clause-made : goal.returns-clause-made
returns-clause-made c =
    let t = c.args.told.now in
    let destination = c.args.destination.now in
    let within : t.to + t.latin1 ≤ length destination = omega (arith, c.from.ensures, c.in-Some.ensures.some.0) in
    let front : c.in_ok-bytes.bytes.items ≡ widened (take t.latin1 (drop t.to destination)) = c.in_ok-bytes.ensures ∙ ap widened (c.in-Some.ensures.some.1 ∙ ap (λ n. take n (drop t.to destination)) c.from.ensures) in
    let more : c.as_slice.result.now ≡ spelled_text Utf16 c.args.text.now = c.as_slice.ensures.value ∙ c.in_ok-more.ensures in
    let is : c.extend_from_slice.new.self.items ≡ widened (take t.latin1 (drop t.to destination)) ++ spelled_text Utf16 c.args.text.now = c.in_ok-extend_from_slice.ensures.items ∙ (λ i. front i ++ more i) in
    let units : c.len.result / 2 ≡ t.latin1 + units_of_text Utf16 c.args.text.now = widened_units destination c.args.text.now c.extend_from_slice.new.self.items t.to t.latin1 c.len.result within is (omega (arith, c.len.ensures)) in
    made_widening c.args.op c.args.text.now c.extend_from_slice.new.self.items destination t (c.len.result / 2) c.requires.kind c.requires.spelled within is units (omega (arith, c.if-units-told.false))
