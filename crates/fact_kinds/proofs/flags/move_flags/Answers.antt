use Rattle.std.proofs.Common.{◌≡◌, ◌∙◌, ap, arith, length, min, sym}
use Rattle.fact_types.specs.Ordered.{FlagsType}
use Rattle.fact_kinds.specs.FlagPlaces.{bit_places_of}
use Rattle.fact_kinds.specs.Kinds.{flags_number_of}
use Rattle.fact_kinds.proofs.FlagMoves.{flags_copied, flags_placed, flags_short}
use Rattle.fact_kinds.proofs.FlagNames.{are_bit_places, same_lists}
use Rattle.fact_kinds.proofs.flags.move_flags.Goals as goal

pub returns-in_ok-move_number : goal.returns-in_ok-move_number
returns-in_ok-move_number c =
    let names = λ (e : FlagsType). e.names in
    let count = λ (e : FlagsType). length e.names in
    let here : c.as_slice.result.now ≡ c.index.result.now.names = c.as_slice.ensures.keys ∙ ap names c.behind-types.view_is in
    let there : c.as_slice-2.result.now ≡ c.index-2.result.now.names = c.as_slice-2.ensures.keys ∙ ap names c.behind-types-2.view_is in
    flags_copied c.args.types.now c.args.from c.args.to c.index.result.now c.index-2.result.now c.index.ensures c.index-2.ensures
    (sym here ∙ same_lists _ _ (sym c.eq.ensures ∙ c.if-eq.true) ∙ there)
    (c.flags_number-number.ensures ∙ ap flags_number_of (c.len.ensures.len ∙ ap count c.behind-types.view_is))
    (c.min.ensures ∙ ap (λ k. min k 32) (c.len-then-eq.ensures.len ∙ ap count c.behind-types.view_is)) c.in_ok-move_number.ensures

pub returns-in_ok-move_bits : goal.returns-in_ok-move_bits
returns-in_ok-move_bits c =
    let names = λ (e : FlagsType). e.names in
    let count = λ (e : FlagsType). length e.names in
    flags_placed c.args.types.now c.args.from c.args.to c.index.result.now c.index-2.result.now c.index.ensures c.index-2.ensures
    (c.deref.ensures.value ∙ c.in_ok-places.ensures ∙ (λ i. bit_places_of (names (c.behind-types.view_is i)) (names (c.behind-types-2.view_is i))))
    (c.flags_number-number.ensures ∙ ap flags_number_of (c.len.ensures.len ∙ ap count c.behind-types.view_is)) c.in_ok-move_bits.ensures

pub move_bits-requires-clause-short : goal.move_bits-requires-clause-short
move_bits-requires-clause-short c = λ e. flags_short c.len.result (sym c.flags_number-number.ensures ∙ e)

pub move_bits-requires-clause-places : goal.move_bits-requires-clause-places
move_bits-requires-clause-places c =
    are_bit_places c.behind-types.inside.names.keys c.behind-types-2.inside.names.keys c.deref.result.now (c.deref.ensures.value ∙ c.in_ok-places.ensures) (omega (arith, ap length c.deref.ensures.value, c.len-else-eq.ensures, c.if-len-gt32.false))
