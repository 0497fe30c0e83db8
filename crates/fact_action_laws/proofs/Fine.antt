-- Parts of moves that stay in ranges wherever they begin.
use Rattle.std.proofs.Common.{◌≡◌, ℕ, zero, suc, ◌+◌, ◌%◌, ◌^◌, Bool, true, false, List, [], ◌∷◌, ◌++◌, length, Option, Some, None, refl, sym, subst}
use Rattle.std.specs.Prelude.{slice_get, slice_set, nat_eq, nat_le, nat_lt, ◌&&◌, if◌then◌else◌}
use Rattle.fact_wasm.specs.declared.types.ValType.{ValType}
use Rattle.fact_wasm.specs.declared.types.ValType.TheVariants as val
use Rattle.fact_types.specs.declared.import.Import.{Import}
use Rattle.fact_types.specs.declared.import.Import.TheVariants as import
use Rattle.fact_types.specs.declared.outside.CoreDef.{CoreDef}
use Rattle.fact_types.specs.declared.outside.MemoryOption.{MemoryOption}
use Rattle.fact_types.specs.declared.outside.Trap.{Trap as TrapCode}
use Rattle.fact_types.specs.declared.outside.UnsafeIntrinsic.TheVariants as slot
use Rattle.fact_types.proofs.ShapeLaws.{none_some, same_some}
use Rattle.fact_machine.specs.declared.types.Answer.TheVariants.{Returns}
use Rattle.fact_machine.specs.declared.types.CoreValue.{CoreValue}
use Rattle.fact_machine.specs.declared.types.CoreValue.TheVariants.{I32, I64, F32, F64, Func}
use Rattle.fact_machine.specs.declared.types.MachineState.{MachineState}
use Rattle.fact_machine.specs.Typed.{are_values, are_memories, are_globals, is_grown}
use Rattle.fact_machine.specs.World.{World}
use Rattle.fact_values.specs.Lift.{bits_of}
use Rattle.fact_actions.specs.Actions.{Action, Give, Visit, GetFlags, SetFlags, Ask, Unreachable, ◌>>=◌, unless, each_from}
use Rattle.fact_actions.specs.Calls.{is_import_of}
use Rattle.fact_actions.specs.Order.{HaveTwoMemories}
use Rattle.fact_actions.specs.Regions.{Region, Position}
use Rattle.fact_actions.specs.Running.{ImportPlaces, Call, is_state, is_answer}
use Rattle.fact_actions.specs.Sides.{LiftLowerOptions, Source, Values, AtAddress, Target, Slots, Into, with_memory, low_half, in_value, read_number, write_number, bytes_of_addresses, nth_part, nth_spot, read_pair, write_pair, check_region, get_slots, set_slots, reallocate, first_bits, address_value, type_of_addresses}
use Rattle.fact_actions.proofs.States.{and_left, and_right}
use Rattle.fact_action_laws.specs.Regions.{TransferSetting, regions_by}
use Rattle.fact_action_laws.specs.Places.{IsKnownMemory, HasKnownMemory}
use Rattle.fact_action_laws.proofs.Answered.{position, MovesAlong, other_stays, realloc_moves}
use Rattle.fact_action_laws.proofs.Ranging.{StaysRanged, ranged_give, ranged_stop, ranged_visit, ranged_get_flags, ranged_set_flags, ranged_read, ranged_length, ranged_write, ranged_ask, ranged_unless, ranged_bind}
use Rattle.fact_action_laws.proofs.Served.{IsServedBy}
use Rattle.fact_action_laws.proofs.States.{kind_there}

-- ---- memories that are there

-- a side's memory is there, where it has one
pub record SideIsThere (p : ImportPlaces) (o : LiftLowerOptions) (s : MachineState) : Type 0 where
  pub at : (m : MemoryOption) → o.memory ≡ Some m → (bytes : List ℕ) × (slice_get s.memories (p.memory m.def) ≡ Some bytes)

pub record BothAreThere (p : ImportPlaces) (o q : LiftLowerOptions) (s : MachineState) : Type 0 where
  pub from : SideIsThere p o s
  pub to : SideIsThere p q s

pub known_at : (p : ImportPlaces) (x : Option MemoryOption) (m : MemoryOption) → x ≡ Some m → HasKnownMemory p x → IsKnownMemory p m
known_at p None m e k = absurd (none_some None m refl e)
known_at p (Some n) m e k = subst (λ z. IsKnownMemory p z) (same_some (Some n) n m refl e) k

-- in typed states
pub typed_is_there : (p : ImportPlaces) (o : LiftLowerOptions) (s : MachineState) → HasKnownMemory p o.memory → is_state p s ≡ true → SideIsThere p o s
typed_is_there p o s known typed = record {
  at = λ m is.
      let k = known_at p o.memory m is known in
      kind_there p.memory_types s.memories (p.memory m.def) (m.memory64, k.page) (and_left (are_memories p.memory_types s.memories) (are_globals p.global_types s.globals) typed) k.is;
}

-- a memory that is there stays so when one is set
set_stays : (ms : List (List ℕ)) (j i : ℕ) (y old : List ℕ) → slice_get ms i ≡ Some old → (new : List ℕ) × (slice_get (slice_set ms j y) i ≡ Some new)
set_stays [] j i y old h = absurd (none_some None old refl h)
set_stays (x ∷ ms) zero zero y old h = (y, refl)
set_stays (x ∷ ms) (suc j) zero y old h = (x, refl)
set_stays (x ∷ ms) zero (suc i) y old h = (old, h)
set_stays (x ∷ ms) (suc j) (suc i) y old h = set_stays ms j i y old h

pub there_set : (p : ImportPlaces) (o : LiftLowerOptions) (s s' : MachineState) (j : ℕ) (y : List ℕ) → s'.memories ≡ slice_set s.memories j y → SideIsThere p o s → SideIsThere p o s'
there_set p o s s' j y is h = record { at = λ m e. let b = h.at m e in subst (λ ms. (bytes : List ℕ) × (slice_get ms (p.memory m.def) ≡ Some bytes)) (sym is) (set_stays s.memories j (p.memory m.def) y b.0 b.1) }

pub there_same : (p : ImportPlaces) (o : LiftLowerOptions) (s s' : MachineState) → s'.memories ≡ s.memories → SideIsThere p o s → SideIsThere p o s'
there_same p o s s' is h = record { at = λ m e. subst (λ ms. (bytes : List ℕ) × (slice_get ms (p.memory m.def) ≡ Some bytes)) (sym is) (h.at m e) }

-- The module knows the memories of both sides, which are two.
pub record HasKnownSides (c : TransferSetting) : Type 0 where
  pub from : HasKnownMemory c.places c.transfer.from.memory
  pub to : HasKnownMemory c.places c.transfer.to.memory
  pub two : HaveTwoMemories c.places c.transfer.from c.transfer.to

module _ (c : TransferSetting) (next : Call → Position → Position) (steps : MovesAlong c next) (known : HasKnownSides c) where
  -- a transfer that has come to live regions, and both memories are there
  pub record Arrived (y : Position) (s : MachineState) : Type 0 where
    pub live : List Region
    pub is : y ≡ position c live
    pub there : BothAreThere c.places c.transfer.from c.transfer.to s

  abbrev pub Stays : {A : Type 0} → List Region → Action A → World → Type 0
  Stays gs q w = StaysRanged c.places next (position c gs) (λ y a w'. Arrived y w'.state) q w

  -- an action that stays in ranges, wherever it begins
  pub record Fine {A : Type 0} (q : Action A) : Type 0 where
    pub by : (gs : List Region) (w : World) → BothAreThere c.places c.transfer.from c.transfer.to w.state → Stays gs q w

  pub answered_there : (ts : List ValType) (rs : List CoreValue) (s s' : MachineState) → is_answer c.places ts s rs s' ≡ true → BothAreThere c.places c.transfer.from c.transfer.to s'
  answered_there ts rs s s' typed =
      let state : is_state c.places s' ≡ true = and_left (is_state c.places s') (is_grown s.memories s'.memories) (and_right (are_values rs ts) (is_state c.places s' && is_grown s.memories s'.memories) typed) in
      record { from = typed_is_there c.places c.transfer.from s' known.from state; to = typed_is_there c.places c.transfer.to s' known.to state }

  module _ {A : Type 0} where
    pub fine_give : (a : A) → Fine (Give a)
    fine_give a = record { by = λ gs w there. ranged_give c.places next (record { live = gs; is = refl; there = there }) }

    pub fine_stop : Fine {A = A} Unreachable
    fine_stop = record { by = λ gs w there. ranged_stop c.places next }

    pub fine_visit : (n : ℕ) (q : Action A) → Fine q → Fine (Visit n q)
    fine_visit n q h = record { by = λ gs w there. ranged_visit c.places next (h.by gs w there) }

    pub fine_unless : (t : TrapCode) (b : Bool) (q : Action A) → (b ≡ true → Fine q) → Fine (unless t b q)
    fine_unless t b q h = record { by = λ gs w there. ranged_unless c.places next t b (λ yes. (h yes).by gs w there) }

    -- a call of a function that is neither a transcoder nor a core function
    pub fine_ask : (i : Import) (args : List CoreValue) (ts : List ValType) (k : List CoreValue → Action A) → ((x : Position) (a : Call) → IsServedBy i c.places x a) → ((d : CoreDef) → is_import_of d i ≡ false)
        → ((rs : List CoreValue) → Fine (k rs)) → Fine (Ask i args ts k)
    fine_ask i args ts k other apart h = record {
      by = λ gs w there. ranged_ask c.places next (λ a. other (position c gs) _) (λ rs w' typed.
          subst (λ y. StaysRanged c.places next y (λ y a w'. Arrived y w'.state) (k rs) w') (sym (other_stays steps (record { what = i; args = args; before = w.state; answer = Returns rs w'.state }) (position c gs) apart))
          ((h rs).by gs w' (answered_there ts rs w.state w'.state typed)));
    }

    pub fine_get_flags : (i : ℕ) (k : ℕ → Action A) → ((n : ℕ) → Fine (k n)) → Fine (GetFlags i k)
    fine_get_flags i k h = record { by = λ gs w there. ranged_get_flags c.places next (λ n. (h n).by gs w there) }

    pub fine_set_flags : (i n : ℕ) (q : Action A) → Fine q → Fine (SetFlags i n q)
    fine_set_flags i n q h = record {
      by = λ gs w there. ranged_set_flags c.places next (λ w' same. h.by gs w' (record {
        from = there_same c.places c.transfer.from w.state w'.state same there.from;
        to = there_same c.places c.transfer.to w.state w'.state same there.to;
      }));
    }

    -- what needs a side's memory
    pub fine_with : (o : LiftLowerOptions) (k : MemoryOption → Action A) → ((m : MemoryOption) → o.memory ≡ Some m → Fine (k m)) → Fine (with_memory o k)
    fine_with o k h = by_memory o.memory (λ m e. h m e)
      where
        by_memory : (x : Option MemoryOption) → ((m : MemoryOption) → x ≡ Some m → Fine (k m)) → Fine (elim x [ None ↦ Unreachable | Some m ↦ k m ])
        by_memory None g = fine_stop
        by_memory (Some m) g = g m refl

    fine_low : (debug : Bool) (v : CoreValue) (k : ℕ → Action A) → ((n : ℕ) → Fine (k n)) → Fine (low_half debug v k)
    fine_low true (I64 n) k h = fine_unless _ (nat_lt n (2 ^ 32)) _ (λ yes. h _)
    fine_low true (I32 n) k h = h _
    fine_low true (F32 n) k h = h _
    fine_low true (F64 n) k h = fine_unless _ (nat_lt n (2 ^ 32)) _ (λ yes. h _)
    fine_low true (Func f) k h = h _
    fine_low false v k h = h _

    fine_value : (debug : Bool) (size : ℕ) (vs : List CoreValue) (k : ℕ → Action A) → ((n : ℕ) → Fine (k n)) → Fine (in_value debug size vs k)
    fine_value debug size [] k h = fine_stop
    fine_value debug size (v ∷ vs) k h = by_size (nat_eq size 8)
      where
        by_size : (b : Bool) → Fine (if b then k (bits_of v) else low_half debug v k)
        by_size true = h _
        by_size false = fine_low debug v k h

    pub fine_read : (size : ℕ) (s : Source) (k : ℕ → Action A) → ((n : ℕ) → Fine (k n)) → Fine (read_number c.transfer.debug c.transfer.from size s k)
    fine_read size (Values vs) k h = fine_value c.transfer.debug size vs k h
    fine_read size (AtAddress a) k h = fine_with c.transfer.from _ (λ m e. record { by = λ gs w there. ranged_read c.places next (λ x. (h x).by gs w there) })

    pub fine_pair : (s : Source) (k : ℕ → ℕ → Action A) → ((p n : ℕ) → Fine (k p n)) → Fine (read_pair c.transfer.debug c.transfer.from s k)
    fine_pair s k h = fine_read (bytes_of_addresses c.transfer.from) (nth_part 1 (bytes_of_addresses c.transfer.from) 0 s) _ (λ p. fine_read (bytes_of_addresses c.transfer.from) (nth_part 1 (bytes_of_addresses c.transfer.from) 1 s) _ (λ n. h p n))

    pub fine_check : (o : LiftLowerOptions) (t : TrapCode) (p n align : ℕ) (q : Action A) → ((m : MemoryOption) → o.memory ≡ Some m → Fine q) → Fine (check_region o t p n align q)
    fine_check o t p n align q h =
        fine_unless _ (nat_eq (p % align) 0) _ (λ aligned. fine_with o _ (λ m e. record {
          by = λ gs w there. ranged_length c.places next (λ bytes is.
              ranged_unless c.places next t (nat_le (p + n) (length bytes)) (λ within. (h m e).by gs w there));
        }))

    pub fine_get : (b : Bool) (k : List CoreValue → List CoreValue → Action A) → ((x y : List CoreValue) → Fine (k x y)) → Fine (get_slots b k)
    fine_get false k h = h [] []
    fine_get true k h =
        fine_ask (import.UnsafeIntrinsic slot.ContextGetI32_0) [] (val.I32 ∷ []) _ (λ x a. tt) (λ d. refl) (λ x. fine_ask (import.UnsafeIntrinsic slot.ContextGetI32_1) [] (val.I32 ∷ []) _ (λ x a. tt) (λ d. refl) (λ y. h x y))

    pub fine_set : (b : Bool) (x y : List CoreValue) (q : Action A) → Fine q → Fine (set_slots b x y q)
    fine_set false x y q h = h
    fine_set true x y q h =
        fine_ask (import.UnsafeIntrinsic slot.ContextSetI32_0) x [] _ (λ x a. tt) (λ d. refl) (λ r. fine_ask (import.UnsafeIntrinsic slot.ContextSetI32_1) y [] _ (λ x a. tt) (λ d. refl) (λ s. h))

    fine_request : (f : CoreDef) (args : List CoreValue) (ts : List ValType) (k : List CoreValue → Action A) → c.transfer.to.realloc ≡ Some f → ((rs : List CoreValue) → Fine (k rs)) → Fine (Ask (import.CoreDef f) args ts k)
    fine_request f args ts k is h = record {
      by = λ gs w there. ranged_ask c.places next (λ a. tt) (λ rs w' typed.
          subst (λ y. StaysRanged c.places next y (λ y a w'. Arrived y w'.state) (k rs) w') (sym (realloc_moves steps f args rs w.state w'.state gs is))
          ((h rs).by (regions_by (import.CoreDef f) args (Returns rs w'.state) gs) w' (answered_there ts rs w.state w'.state typed)));
    }

    -- realloc, behind which the destination has a memory
    pub fine_reallocate : (t : TrapCode) (old old_size align size : ℕ) (k : ℕ → Action A) → ((f : CoreDef) → c.transfer.to.realloc ≡ Some f → (m : MemoryOption) → c.transfer.to.memory ≡ Some m → (q : ℕ) → Fine (k q))
        → Fine (reallocate c.transfer.concurrency c.transfer.to t old old_size align size k)
    fine_reallocate t old old_size align size k h = by_realloc c.transfer.to.realloc (λ f e. e)
      where
        b : Bool
        b = c.transfer.concurrency

        o : LiftLowerOptions
        o = c.transfer.to

        by_realloc : (r : Option CoreDef) → ((f : CoreDef) → r ≡ Some f → c.transfer.to.realloc ≡ Some f) → Fine (elim r [
          | None ↦ Unreachable
          | Some f ↦
              get_slots c.transfer.concurrency (λ x y. set_slots c.transfer.concurrency (I32 0 ∷ []) (I32 0 ∷ [])
              (Ask (import.CoreDef f) (address_value c.transfer.to old ∷ address_value c.transfer.to old_size ∷ address_value c.transfer.to align ∷ address_value c.transfer.to size ∷ []) (type_of_addresses c.transfer.to ∷ []) (λ rs.
              set_slots c.transfer.concurrency x y (check_region c.transfer.to t (first_bits rs) size align (k (first_bits rs))))))
        ])
        by_realloc None is = fine_stop
        by_realloc (Some f) is =
            fine_get c.transfer.concurrency _ (λ x y. fine_set c.transfer.concurrency (I32 0 ∷ []) (I32 0 ∷ []) _ (fine_request f _ (type_of_addresses c.transfer.to ∷ []) _ (is f refl) (λ rs.
            fine_set c.transfer.concurrency x y _ (fine_check c.transfer.to t (first_bits rs) size align _ (λ m e. h f (is f refl) m e (first_bits rs))))))

    pub fine_either : (b : Bool) (q r : Action A) → Fine q → Fine r → Fine (if b then q else r)
    fine_either true q r h k = h
    fine_either false q r h k = k

  pub fine_bind : {A B : Type 0} (q : Action A) (f : A → Action B) → Fine q → ((a : A) → Fine (f a)) → Fine (q >>= f)
  fine_bind q f h g = record {
    by = λ gs w there. ranged_bind c.places next q f w (h.by gs w there) (λ y a w' arrived.
        subst (λ y. StaysRanged c.places next y (λ y b w'. Arrived y w'.state) (f a) w') (sym arrived.is) ((g a).by arrived.live w' arrived.there));
  }

  pub fine_write : (size : ℕ) (d : Target) (n : ℕ) → Fine (write_number c.transfer.to size d n)
  fine_write size (Slots []) n = fine_give []
  fine_write size (Slots (t ∷ ts)) n = fine_give _
  fine_write size (Into a) n = fine_with c.transfer.to _ (λ m e. record {
    by = λ gs w there. ranged_write c.places next (λ bytes w' is.
        ranged_give c.places next (record {
          live = gs;
          is = refl;
          there = record {
            from = there_set c.places c.transfer.from w.state w'.state (c.places.memory m.def) bytes is there.from;
            to = there_set c.places c.transfer.to w.state w'.state (c.places.memory m.def) bytes is there.to;
          };
        }));
  })

  pub fine_write_pair : (d : Target) (p n : ℕ) → Fine (write_pair c.transfer.to d p n)
  fine_write_pair d p n =
      fine_bind _ _ (fine_write (bytes_of_addresses c.transfer.to) (nth_spot 1 (bytes_of_addresses c.transfer.to) 0 d) p) (λ us.
      fine_bind _ _ (fine_write (bytes_of_addresses c.transfer.to) (nth_spot 1 (bytes_of_addresses c.transfer.to) 1 d) n) (λ vs. fine_give (us ++ vs)))

  pub fine_each_from : {A : Type 0} (i n : ℕ) (f : ℕ → Action (List A)) → ((j : ℕ) → Fine (f j)) → Fine (each_from i n f)
  fine_each_from i zero f h = fine_give []
  fine_each_from i (suc n) f h = fine_bind (f i) _ (h i) (λ xs. fine_bind (each_from (suc i) n f) _ (fine_each_from (suc i) n f h) (λ ys. fine_give (xs ++ ys)))
