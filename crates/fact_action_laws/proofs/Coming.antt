-- What lifts at a source, as the parameters and the results of fact_values, is what comes in there.
use Rattle.std.proofs.Common.{◌≡◌, ℕ, Bool, true, List, [], ◌∷◌, ◌++◌, length, map, take, Option, Some, None, refl, sym, ap, ◌∙◌, subst, append-nil}
use Rattle.std.proofs.lemmas.Bool.{false≢true}
use Rattle.fact_wasm.specs.declared.types.ValType.{ValType}
use Rattle.fact_types.specs.declared.flats.FlatType.{FlatType}
use Rattle.fact_types.specs.Flat.{value_type}
use Rattle.fact_types.specs.FlatShapes.{flat_all}
use Rattle.fact_types.specs.Shapes.{Shape}
use Rattle.fact_types.specs.Signatures.{address, flat_values, flat_or, flat_params}
use Rattle.fact_machine.specs.declared.types.CoreValue.{CoreValue}
use Rattle.fact_types.specs.Tuples.{tuple_members}
use Rattle.fact_machine.specs.Typed.{is_value, are_values}
use Rattle.fact_values.specs.Lift.{bits_of}
use Rattle.fact_types.specs.Adapters.{is_wide}
use Rattle.fact_actions.specs.Sides.{width_of_side, Values}
use Rattle.fact_values.specs.declared.value.Value.{Value}
use Rattle.fact_values.specs.Tuples.{lift_all, behind_only, where_flat, flat_or_behind}
use Rattle.fact_action_laws.specs.Faithful.{AreInBounds}
use Rattle.fact_action_laws.proofs.MoveLaws.{AreFit}
use Rattle.fact_action_laws.specs.MoveTerms.{AreWellFormed, moving}
use Rattle.fact_action_laws.specs.Places.{from_side, HasSideMemory, AreInRange}
use Rattle.fact_action_laws.specs.Regions.{TransferSetting}
use Rattle.fact_action_laws.proofs.Landed.{flat_of}
use Rattle.fact_action_laws.proofs.Landing.{behind_typed}
use Rattle.fact_action_laws.proofs.Targets.{left_true, right_true}
use Rattle.fact_action_laws.proofs.Transfers.{ComeBy, AreInLimits}
use Rattle.fact_action_laws.proofs.Tupled.{come_flat, come_behind, leading_same}
use Rattle.fact_action_laws.proofs.TypedArgs.{AreNumeric, typed_in_range, in_range_leading}

-- as many core values as types
pub take_typed : (vs : List CoreValue) (ts : List ValType) → are_values vs ts ≡ true → take (length ts) vs ≡ vs
take_typed [] [] h = refl
take_typed [] (t ∷ ts) h = refl
take_typed (v ∷ vs) [] h = absurd (false≢true h)
take_typed (v ∷ vs) (t ∷ ts) h = ap (λ l. v ∷ l) (take_typed vs ts (right_true (is_value v t) _ h))

module _ (c : TransferSetting) (ts us : List Shape) (formed : AreWellFormed (tuple_members ts)) (limit : ℕ) (rs : List Value) where
  abbrev leading : List ValType
  leading = flat_params (is_wide c.transfer.from.memory) limit ts

  -- Values of leading typed core values come in by them.
  pub come : (args : List CoreValue) (others : List ValType) → AreNumeric (leading ++ others) → are_values args (leading ++ others) ≡ true → (flat_values (is_wide c.transfer.from.memory) limit ts ≡ None → HasSideMemory c.transfer.from)
      → flat_or_behind (from_side c) c.source limit ts (take (length leading) args) ≡ Some rs → ComeBy c ts us (flat_values (is_wide c.transfer.from.memory) limit ts) args rs
  come args others numeric typed memory h = go (flat_all (width_of_side c.transfer.from) limit ts) typed (typed_in_range args (leading ++ others) numeric typed) memory h
    where
      wide : Bool
      wide = is_wide c.transfer.from.memory

      behind_first : (args : List CoreValue) → are_values args (address (is_wide c.transfer.from.memory) ∷ others) ≡ true → HasSideMemory c.transfer.from → behind_only (from_side c) c.source ts (take 1 args) ≡ Some rs → ComeBy c ts us None args rs
      behind_first [] typed there h = absurd (false≢true typed)
      behind_first (v ∷ vs) typed there h =
          come_behind c ts formed (bits_of v) rs there (sym (behind_typed (is_wide c.transfer.from.memory) c.transfer.from.encoding c.source ts v (left_true (is_value v (address (is_wide c.transfer.from.memory))) _ typed)) ∙ h)

      go : (o : Option (List FlatType)) → are_values args (flat_or (address (is_wide c.transfer.from.memory) ∷ []) (flat_of o) ++ others) ≡ true → AreInRange args → (flat_of o ≡ None → HasSideMemory c.transfer.from)
          → where_flat o (lift_all (from_side c) c.source ts (take (length (flat_or (address (is_wide c.transfer.from.memory) ∷ []) (flat_of o))) args)) (behind_only (from_side c) c.source ts (take (length (flat_or (address (is_wide c.transfer.from.memory) ∷ []) (flat_of o))) args)) ≡ Some rs
          → ComeBy c ts us (flat_of o) args rs
      go (Some fs) typed range memory h = come_flat c ts formed (length (map value_type fs)) args rs (in_range_leading (length (map value_type fs)) args range) h
      go None typed range memory h = behind_first args typed (memory refl) h

  -- Values of typed core values, where no others follow.
  pub come_all : (given : List CoreValue) → AreNumeric leading → are_values given leading ≡ true → (flat_values (is_wide c.transfer.from.memory) limit ts ≡ None → HasSideMemory c.transfer.from)
      → flat_or_behind (from_side c) c.source limit ts given ≡ Some rs → ComeBy c ts us (flat_values (is_wide c.transfer.from.memory) limit ts) given rs
  come_all given numeric typed memory h =
      come given [] (subst AreNumeric (sym (append-nil leading)) numeric) (subst (λ l. are_values given l ≡ true) (sym (append-nil leading)) typed) memory
      (subst (λ l. flat_or_behind (from_side c) c.source limit ts l ≡ Some rs) (sym (take_typed given leading typed)) h)

  -- What is within limits as values is so as what comes in.
  pub within : (args : List CoreValue) → flat_or_behind (from_side c) c.source limit ts (take (length leading) args) ≡ Some rs
      → AreInBounds (moving c) (flat_all (width_of_side c.transfer.from) limit ts) ts us (take (length leading) args) → AreInLimits c ts us (flat_values (is_wide c.transfer.from.memory) limit ts) args
  within args h b = go (flat_all (width_of_side c.transfer.from) limit ts) h b
    where
      behind : (args : List CoreValue) → AreInBounds (moving c) None ts us (take 1 args) → AreInLimits c ts us None args
      behind [] b = b
      behind (v ∷ vs) b = b

      go : (o : Option (List FlatType)) → where_flat o (lift_all (from_side c) c.source ts (take (length (flat_or (address (is_wide c.transfer.from.memory) ∷ []) (flat_of o))) args)) (behind_only (from_side c) c.source ts (take (length (flat_or (address (is_wide c.transfer.from.memory) ∷ []) (flat_of o))) args)) ≡ Some rs
          → AreInBounds (moving c) o ts us (take (length (flat_or (address (is_wide c.transfer.from.memory) ∷ []) (flat_of o))) args) → AreInLimits c ts us (flat_of o) args
      go (Some fs) h b = subst (λ l. AreFit c (tuple_members ts) (tuple_members us) (Values l)) (sym (leading_same c ts formed (length (map value_type fs)) args rs h)) b
      go None h b = behind args b

  -- where no others follow
  pub within_all : (given : List CoreValue) → are_values given leading ≡ true → flat_or_behind (from_side c) c.source limit ts given ≡ Some rs
      → AreInBounds (moving c) (flat_all (width_of_side c.transfer.from) limit ts) ts us given → AreInLimits c ts us (flat_values (is_wide c.transfer.from.memory) limit ts) given
  within_all given typed h b =
      let same = sym (take_typed given leading typed) in
      within given (subst (λ l. flat_or_behind (from_side c) c.source limit ts l ≡ Some rs) same h) (subst (λ l. AreInBounds (moving c) (flat_all (width_of_side c.transfer.from) limit ts) ts us l) same b)
