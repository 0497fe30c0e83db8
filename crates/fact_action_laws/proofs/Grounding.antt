-- What a typed state, typed arguments and checked types give a transfer to stand on.
use Rattle.std.proofs.Common.{◌≡◌, ℕ, zero, suc, ◌<◌, true, List, [], ◌∷◌, ◌++◌, length, take, map, Option, Some, None, refl, sym, ap, ◌∙◌, subst, arith}
use Rattle.std.specs.Prelude.{get_or, nat_lt, ◌||◌}
use Rattle.std.specs.List.{AllByRecursion, list_all}
use Rattle.std.proofs.lemmas.Bool.{ltb-true}
use Rattle.std.proofs.lemmas.List.{length-map, length-append, length-take}
use Rattle.std.proofs.lemmas.Option.{get_or_from_slice_get}
use Rattle.fact_wasm.specs.declared.types.ValType.{ValType}
use Rattle.fact_types.specs.declared.flats.FlatType.{FlatType}
use Rattle.fact_types.specs.declared.outside.MemoryOption.{MemoryOption}
use Rattle.fact_types.specs.Adapters.{is_wide}
use Rattle.fact_types.specs.Flat.{value_type}
use Rattle.fact_types.specs.FlatShapes.{flat_all}
use Rattle.fact_types.specs.PointerPairs.{has_pointer_pair, have_pointer_pair, any_pointer_pair}
use Rattle.fact_types.specs.Shapes.{Shape}
use Rattle.fact_types.specs.Signatures.{address, flat_values, flat_or, flat_params}
use Rattle.fact_types.specs.Tuples.{members_from}
use Rattle.fact_types.specs.Valid.{IsValid, AreRuled}
use Rattle.fact_types.proofs.ShapeLaws.{none_some}
use Rattle.fact_machine.specs.declared.types.CoreValue.{CoreValue}
use Rattle.fact_machine.specs.declared.types.CoreValue.TheVariants.{I32, I64, F32, F64, Func}
use Rattle.fact_machine.specs.declared.types.MachineState.{MachineState}
use Rattle.fact_machine.specs.Typed.{are_memories, is_memory, are_values}
use Rattle.fact_values.specs.Bytes.{AreBytes, AreCores}
use Rattle.fact_actions.specs.Calls.{side_memory}
use Rattle.fact_actions.specs.Running.{ImportPlaces, is_state}
use Rattle.fact_actions.specs.Sides.{LiftLowerOptions, Values, width_of_side}
use Rattle.fact_actions.proofs.States.{zip_at}
use Rattle.fact_action_laws.specs.Places.{IsSource, AreInRange, HasKnownMemory}
use Rattle.fact_action_laws.specs.Regions.{TransferSetting, AreBytesOf}
use Rattle.fact_action_laws.proofs.Landed.{flat_of}
use Rattle.fact_action_laws.proofs.Landing.{all_each}
use Rattle.fact_action_laws.proofs.Targets.{left_true, right_true, values_length}
use Rattle.fact_action_laws.proofs.Transfers.{flats_are, leading}
use Rattle.fact_action_laws.proofs.TypedArgs.{AreNumeric, typed_in_range, in_range_leading}

-- ---- memories of typed states

bytes_below : (bytes : List ℕ) → list_all (λ b. nat_lt b 256) bytes ≡ true → AreBytes bytes
bytes_below [] h = tt
bytes_below (b ∷ bytes) h = (ltb-true b 256 (left_true (nat_lt b 256) _ h), bytes_below bytes (right_true (nat_lt b 256) _ h))

pub byte_below : (bytes : List ℕ) (j : ℕ) → AreBytes bytes → get_or bytes j 0 < 256
byte_below [] j h = omega arith
byte_below (b ∷ bytes) zero h = h.0
byte_below (b ∷ bytes) (suc j) h = byte_below bytes j h.1

-- the memory of a side in a typed state
pub record HasBytes (p : ImportPlaces) (o : LiftLowerOptions) (s : MachineState) : Type 0 where
  pub there : AreBytesOf p o s (side_memory p o s)
  pub bytes : AreBytes (side_memory p o s)

has_bytes_by : (p : ImportPlaces) (o : LiftLowerOptions) (memory : Option MemoryOption) (s : MachineState) → HasKnownMemory p memory → is_state p s ≡ true → HasBytes p (record o { memory = memory }) s
has_bytes_by p o None s known typed = record { there = refl; bytes = tt }
has_bytes_by p o (Some m) s known typed =
    let at = zip_at (λ t bytes. is_memory t.0 t.1 bytes) p.memory_types s.memories (p.memory m.def) (m.memory64, known.page) (left_true (are_memories p.memory_types s.memories) _ typed) known.is in
    let same : get_or s.memories (p.memory m.def) [] ≡ at.0 = get_or_from_slice_get s.memories (p.memory m.def) at.0 [] at.1 in
    record {
      there = at.1 ∙ ap (λ l. Some l) (sym same);
      bytes = subst AreBytes (sym same) (bytes_below at.0 (left_true (list_all (λ b. nat_lt b 256) at.0) _ at.2));
    }

pub has_bytes : (p : ImportPlaces) (o : LiftLowerOptions) (s : MachineState) → HasKnownMemory p o.memory → is_state p s ≡ true → HasBytes p o s
has_bytes p o s known typed = has_bytes_by p o o.memory s known typed

-- in a state with the same memories
pub still_there : (p : ImportPlaces) (o : LiftLowerOptions) (s s' : MachineState) (bytes : List ℕ) → s'.memories ≡ s.memories → AreBytesOf p o s bytes → AreBytesOf p o s' bytes
still_there p o s s' bytes same are = subst (λ ms. AreBytesOf p o (record { memories = ms; globals = s'.globals }) bytes) (sym same) are

-- ---- typed core values

pub cores_in_range : (vs : List CoreValue) → AreInRange vs → AreCores vs
cores_in_range [] h = tt
cores_in_range (I32 n ∷ vs) h = (let lt = h.0 in omega (arith, lt), cores_in_range vs h.1)
cores_in_range (I64 n ∷ vs) h = (h.0, cores_in_range vs h.1)
cores_in_range (F32 n ∷ vs) h = (let lt = h.0 in omega (arith, lt), cores_in_range vs h.1)
cores_in_range (F64 n ∷ vs) h = (h.0, cores_in_range vs h.1)
cores_in_range (Func f ∷ vs) h = absurd h.0

-- leading typed core values are a source of flat values
pub source_typed : (c : TransferSetting) (ts us : List Shape) (limit : ℕ) (args : List CoreValue) (others : List ValType) → AreNumeric (flat_params (is_wide c.transfer.from.memory) limit ts ++ others) → are_values args (flat_params (is_wide c.transfer.from.memory) limit ts ++ others) ≡ true
    → (flats : List ValType) → flat_values (is_wide c.transfer.from.memory) limit ts ≡ Some flats → IsSource c (leading c ts us) (Values (take (leading c ts us) args))
source_typed c ts us limit args others numeric typed flats e = go (flat_all (width_of_side c.transfer.from) limit ts) refl typed (typed_in_range args _ numeric typed) e
  where
    go : (o : Option (List FlatType)) → flat_all (width_of_side c.transfer.from) limit ts ≡ o → are_values args (flat_or (address (is_wide c.transfer.from.memory) ∷ []) (flat_of o) ++ others) ≡ true → AreInRange args → flat_of o ≡ Some flats → IsSource c (leading c ts us) (Values (take (leading c ts us) args))
    go None k typed range e = absurd (none_some None flats refl e)
    go (Some fs) k typed range e =
        let same = flats_are (width_of_side c.transfer.from) 0 ts fs (all_each (width_of_side c.transfer.from) limit ts fs k) in
        let long : leading c ts us ≡ length (map value_type fs) = ap length same ∙ sym (length-map fs value_type) in
        let all = values_length args (map value_type fs ++ others) typed in
        (omega (arith, long, all, length-append (map value_type fs) others, length-take (leading c ts us) args), in_range_leading (leading c ts us) args range)

-- ---- types

pub members_ruled : (n : ℕ) (ss : List Shape) → AllByRecursion IsValid ss → AreRuled (members_from n ss)
members_ruled n [] h = tt
members_ruled n (s ∷ ss) h = (h.0.ruled, members_ruled (suc n) ss h.1)

pub members_have_pointers : (n : ℕ) (ss : List Shape) → have_pointer_pair (members_from n ss) ≡ any_pointer_pair ss
members_have_pointers n [] = refl
members_have_pointers n (s ∷ ss) = ap (λ b. has_pointer_pair s || b) (members_have_pointers (suc n) ss)
