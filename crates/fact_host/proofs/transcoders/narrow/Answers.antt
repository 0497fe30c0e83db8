use Rattle.std.proofs.Common.{◌≡◌, ℕ, [], ◌∷◌, ◌∙◌, ap, length, refl, subst, sym, take}
use Rattle.fact_values.specs.Texts.{AreSpelled, units_of_text}
use Rattle.fact_actions.specs.Transcoders.{from_encoding}
use Rattle.fact_host.specs.Hosts.{IsMadeOf, both_listed}
use Rattle.fact_host.proofs.Transcoding.{front_can, made_narrow}
use Rattle.fact_host.proofs.transcoders.narrow.Goals as goal

pub front_written-requires-clause-read : goal.front_written-requires-clause-read
front_written-requires-clause-read c = subst (λ z. AreSpelled z (take c.count_of_low.result c.args.text.now)) (sym c.from_encoding.ensures) (front_can (from_encoding c.args.op) c.args.text.now c.count_of_low.result c.requires.spelled)

pub returns : goal.returns
returns c =
    let n : ℕ = c.count_of_low.result in
    let made = c.in_ok-made.made in
    let read : ℕ = units_of_text (from_encoding c.args.op) (take n c.args.text.now) in
    let numbers : both_listed made.first made.second ≡ read ∷ length made.bytes.items ∷ [] =
    c.in_ok-made.ensures.numbers ∙ ap (λ e. units_of_text e (take n c.args.text.now) ∷ length made.bytes.items ∷ []) c.from_encoding.ensures in
    λ destination t. subst (IsMadeOf c.args.op c.args.text.now destination t made.bytes.items) (sym numbers)
    (made_narrow c.args.op c.args.text.now made.bytes.items n read (length made.bytes.items) c.requires.kind c.requires.spelled c.count_of_low.ensures.within c.count_of_low.ensures.low c.count_of_low.ensures.next c.in_ok-made.ensures.bytes refl refl destination t)
