use Rattle.std.proofs.Common.{◌∙◌, ◌++◌, ◌∷◌, [], sym, ap, append_assoc, append-nil}
use Rattle.fact_kinds.specs.FlagPlaces.{bit_places_of}
use Rattle.fact_kinds.proofs.flags.bit_places.Goals as goal

pub loop-name-preserved : goal.loop-name-preserved
loop-name-preserved c =
    let so_far = c.loop-name.places.items in
    let left = bit_places_of c.args.names.now.keys in
    ap (λ ps. ps ++ left c.next.new.self) c.in_ok-push.ensures.items ∙ append_assoc so_far (c.bit_place.result ∷ []) (left c.next.new.self) ∙ ap (λ p. so_far ++ p ∷ left c.next.new.self) c.bit_place.ensures
    ∙ ap (λ ns. so_far ++ left ns) (sym c.in-Some.ensures.steps) ∙ c.loop-name.invariant

pub returns : goal.returns
returns c = sym (append-nil c.loop-name.places.items) ∙ ap (λ ns. c.loop-name.places.items ++ bit_places_of c.args.names.now.keys ns) (sym c.in-None.ensures.steps.0) ∙ c.loop-name.invariant
