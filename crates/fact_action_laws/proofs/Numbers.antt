-- Numbers at sources and at targets.
use Rattle.std.proofs.Common.{◌≡◌, ℕ, ◌+◌, ◌%◌, ◌^◌, ◌≤◌, ◌<◌, Bool, true, false, List, [], ◌∷◌, length, Option, Some, None, refl, sym, ap, ◌∙◌, subst, arith}
use Rattle.std.specs.Prelude.{slice_set, nat_eq, if◌then◌else◌, ◌&&◌, ◌≢◌}
use Rattle.std.proofs.lemmas.Bool.{false≢true, lt-ltb}
use Rattle.std.proofs.Math.Nat.{mod-eq_of_lt}
use Rattle.fact_wasm.specs.declared.types.ValType.{ValType}
use Rattle.fact_wasm.specs.declared.types.ValType.TheVariants as val
use Rattle.fact_types.specs.declared.flats.FlatType.{FlatType}
use Rattle.fact_types.specs.declared.flats.FlatType.TheVariants as flat_type
use Rattle.fact_types.proofs.ShapeLaws.{same_some, none_some}
use Rattle.fact_machine.specs.declared.types.CoreValue.{CoreValue}
use Rattle.fact_machine.specs.declared.types.MachineState.{MachineState}
use Rattle.fact_machine.specs.World.{World, Stop as Stopped, with_number}
use Rattle.fact_actions.specs.Actions.{Action, Give, Read, Write}
use Rattle.fact_actions.specs.Running.{Call}
use Rattle.fact_machine.specs.Typed.{is_value}
use Rattle.fact_actions.specs.Sides.{LiftLowerOptions, Source, Values, AtAddress, Target, Slots, Into, core_value, with_memory, read_number, write_number}
use Rattle.fact_types.specs.declared.outside.MemoryOption.{MemoryOption}
use Rattle.fact_values.specs.Lift.{bits_of, number_as}
use Rattle.fact_values.specs.Numbers.{number_in}
use Rattle.fact_actions.specs.Regions.{Region}
use Rattle.fact_action_laws.specs.Regions.{TransferSetting, IsInHand, AreBytesOf}
use Rattle.fact_action_laws.specs.Places.{HasSideMemory, IsSource, can_hold, IsTarget, IsAtTarget, IsGiven, HoldsMemories, IsGrounded}
use Rattle.fact_action_laws.specs.Footprints.{HasChanged}
use Rattle.fact_action_laws.proofs.Bytes.{placed_number, get_set_same, get_set_other}
use Rattle.fact_action_laws.proofs.Judges.{does_read, does_write, does_give}
use Rattle.fact_action_laws.proofs.Placing.{placed_nothing}
use Rattle.fact_action_laws.specs.Judged.{RunsHonestly}

-- the number of so many bytes at a source
abbrev pub number_at_source : TransferSetting → ℕ → Source → Option ℕ
number_at_source c size (Values []) = None
number_at_source c size (Values (v ∷ vs)) = Some (if nat_eq size 8 then bits_of v else bits_of v % 2 ^ 32)
number_at_source c size (AtAddress a) = number_in c.source size a

module _ {c : TransferSetting} {gs : List Region} {A : Type 0} {H : Stopped → List Call → Type 0} {P : ℕ → List Call → A → World → Type 0} where
  reads_in : (o : LiftLowerOptions) (m : Option MemoryOption) (size a x : ℕ) (k : ℕ → Action A) (w : World) → HasSideMemory (record o { memory = m }) → AreBytesOf c.places (record o { memory = m }) w.state c.source → number_in c.source size a ≡ Some x
      → RunsHonestly c gs H P (k x) w → RunsHonestly c gs H P (with_memory (record o { memory = m }) (λ n. Read size n.def a k)) w
  reads_in o None size a x k w there are i d = absurd there
  reads_in o (Some n) size a x k w there are i d = does_read are i d

  -- a number is read from a source
  pub does_read_number : (size x n : ℕ) (s : Source) (k : ℕ → Action A) (w : World) → IsSource c n s → AreBytesOf c.places c.transfer.from w.state c.source → number_at_source c size s ≡ Some x
      → RunsHonestly c gs H P (k x) w → RunsHonestly c gs H P (read_number false c.transfer.from size s k) w
  does_read_number size x n (AtAddress a) k w there are i d = reads_in c.transfer.from c.transfer.from.memory size a x k w there are i d
  does_read_number size x n (Values []) k w there are i d = absurd (none_some None x refl i)
  does_read_number size x n (Values (v ∷ vs)) k w there are i d = go (nat_eq size 8) i
    where
      go : (b : Bool) → Some (if b then bits_of v else bits_of v % 2 ^ 32) ≡ Some x → RunsHonestly c gs H P (if b then k (bits_of v) else k (bits_of v % 2 ^ 32)) w
      go true e = subst (λ y. RunsHonestly c gs H P (k y) w) (same_some (Some x) x (bits_of v) refl (sym e)) d
      go false e = subst (λ y. RunsHonestly c gs H P (k y) w) (same_some (Some x) x (bits_of v % 2 ^ 32) refl (sym e)) d

  -- the same with debug checks off
  pub reads_number : IsGrounded c → (size x n : ℕ) (s : Source) (k : ℕ → Action A) (w : World) → IsSource c n s → AreBytesOf c.places c.transfer.from w.state c.source → number_at_source c size s ≡ Some x
      → RunsHonestly c gs H P (k x) w → RunsHonestly c gs H P (read_number c.transfer.debug c.transfer.from size s k) w
  reads_number g size x n s k w there are i d = subst (λ b. RunsHonestly c gs H P (read_number b c.transfer.from size s k) w) (sym g.quiet) (does_read_number size x n s k w there are i d)

and_left : (a b : Bool) → a && b ≡ true → a ≡ true
and_left true b h = refl
and_left false b h = h

and_false : (a : Bool) → a && false ≡ false
and_false true = refl
and_false false = refl

-- the greatest number that a flat type holds, and one more
abbrev pub flat_bound : FlatType → ℕ
flat_bound flat_type.I32 = 2 ^ 32
flat_bound flat_type.I64 = 2 ^ 64
flat_bound flat_type.F32 = 2 ^ 32
flat_bound flat_type.F64 = 2 ^ 64

-- A number stands at a target: as a core value that can stand for a flat type, or by its lowest bytes in memory.
abbrev pub IsNumberAt : (size : ℕ) → FlatType → ℕ → Target → List CoreValue → List ℕ → Type 0
IsNumberAt size f x (Slots ts) vs bytes = (v : CoreValue) × (vs ≡ v ∷ []) × (bits_of v ≡ x) × (number_as f v ≡ x)
IsNumberAt size f x (Into a) vs bytes = number_in bytes size a ≡ Some (x % 256 ^ size)

-- a slot that can hold a flat type keeps its numbers
pub record Keeps (f : FlatType) (x : ℕ) (v : CoreValue) (t : ValType) : Type 0 where
  pub typed : is_value v t ≡ true
  pub bits : bits_of v ≡ x
  pub as_flat : number_as f v ≡ x

slot_keeps : (f : FlatType) (t : ValType) (x : ℕ) → can_hold f t ≡ true → x < flat_bound f → Keeps f x (core_value t x) t
slot_keeps flat_type.I32 val.I32 x h lt = record { typed = lt-ltb x (2 ^ 32) lt; bits = refl; as_flat = mod-eq_of_lt lt }
slot_keeps flat_type.I32 val.I64 x h lt = record { typed = lt-ltb x (2 ^ 64) (omega (arith, lt)); bits = refl; as_flat = mod-eq_of_lt lt }
slot_keeps flat_type.I32 val.F32 x h lt = absurd (false≢true h)
slot_keeps flat_type.I32 val.F64 x h lt = absurd (false≢true h)
slot_keeps flat_type.I32 val.FuncRef x h lt = absurd (false≢true h)
slot_keeps flat_type.I64 val.I32 x h lt = absurd (false≢true h)
slot_keeps flat_type.I64 val.I64 x h lt = record { typed = lt-ltb x (2 ^ 64) lt; bits = refl; as_flat = refl }
slot_keeps flat_type.I64 val.F32 x h lt = absurd (false≢true h)
slot_keeps flat_type.I64 val.F64 x h lt = absurd (false≢true h)
slot_keeps flat_type.I64 val.FuncRef x h lt = absurd (false≢true h)
slot_keeps flat_type.F32 val.I32 x h lt = record { typed = lt-ltb x (2 ^ 32) lt; bits = refl; as_flat = mod-eq_of_lt lt }
slot_keeps flat_type.F32 val.I64 x h lt = record { typed = lt-ltb x (2 ^ 64) (omega (arith, lt)); bits = refl; as_flat = mod-eq_of_lt lt }
slot_keeps flat_type.F32 val.F32 x h lt = record { typed = lt-ltb x (2 ^ 32) lt; bits = refl; as_flat = mod-eq_of_lt lt }
slot_keeps flat_type.F32 val.F64 x h lt = absurd (false≢true h)
slot_keeps flat_type.F32 val.FuncRef x h lt = absurd (false≢true h)
slot_keeps flat_type.F64 val.I32 x h lt = absurd (false≢true h)
slot_keeps flat_type.F64 val.I64 x h lt = record { typed = lt-ltb x (2 ^ 64) lt; bits = refl; as_flat = refl }
slot_keeps flat_type.F64 val.F32 x h lt = absurd (false≢true h)
slot_keeps flat_type.F64 val.F64 x h lt = record { typed = lt-ltb x (2 ^ 64) lt; bits = refl; as_flat = refl }
slot_keeps flat_type.F64 val.FuncRef x h lt = absurd (false≢true h)

-- what a write of a number gives
pub record Wrote (c : TransferSetting) (gs : List Region) (m : List ℕ) (size : ℕ) (f : FlatType) (x : ℕ) (d : Target) (n : ℕ) (cs : List Call) (vs : List CoreValue) (w : World) : Type 0 where
  pub weightless : n ≡ 0
  pub quiet : cs ≡ []
  pub given : IsGiven d vs
  pub leaves : HasChanged c gs m (IsAtTarget size d) (λ b. IsNumberAt size f x d vs b) cs w

-- the memory of the source behind a write into that of the destination
source_stays : (c : TransferSetting) → (from to : Option MemoryOption) (o : LiftLowerOptions) (n : MemoryOption) (after : List ℕ) (state : MachineState) → ((k : MemoryOption) → from ≡ Some k → c.places.memory k.def ≢ c.places.memory n.def) → AreBytesOf c.places (record o { memory = from }) state c.source
    → AreBytesOf c.places (record o { memory = from }) (record { memories = slice_set state.memories (c.places.memory n.def) after; globals = state.globals }) c.source
source_stays c None to o n after state apart are = are
source_stays c (Some k) to o n after state apart are = get_set_other state.memories (c.places.memory n.def) (c.places.memory k.def) after (apart k refl) ∙ are

module _ {c : TransferSetting} {gs : List Region} {H : Stopped → List Call → Type 0} (g : IsGrounded c) (m : List ℕ) where
  writes_in : (o : Option MemoryOption) (size a x : ℕ) (f : FlatType) (w : World) → HasSideMemory (record c.transfer.to { memory = o }) → AreBytesOf c.places (record c.transfer.to { memory = o }) w.state m
      → (o ≡ c.transfer.to.memory) → AreBytesOf c.places c.transfer.from w.state c.source → a + size ≤ length m
      → RunsHonestly c gs H (Wrote c gs m size f x (Into a)) (with_memory (record c.transfer.to { memory = o }) (λ n. Write size n.def a x (Give []))) w
  writes_in None size a x f w there are is from le = absurd there
  writes_in (Some n) size a x f w there are is from le =
      does_write are le (does_give (record {
        weightless = refl;
        quiet = refl;
        given = refl;
        leaves = record {
          now = with_number size m a x;
          ready = record {
            from = source_stays c c.transfer.from.memory (Some n) c.transfer.from n (with_number size m a x) w.state (λ k e. g.apart k n e (sym is)) from;
            to = subst (λ o. AreBytesOf c.places (record c.transfer.to { memory = o }) (record { memories = slice_set w.state.memories (c.places.memory n.def) (with_number size m a x); globals = w.state.globals }) (with_number size m a x)) is
                (get_set_same w.state.memories (c.places.memory n.def) m _ are);
          };
          placed = placed_number m size a x (IsInHand c gs) le;
        };
      }))

  -- a number is written to a target
  pub does_write_number : (size x : ℕ) (f : FlatType) (d : Target) (w : World) (live : ℕ → Type 0) → HoldsMemories c m w → IsTarget c (f ∷ []) size live m d → x < flat_bound f
      → RunsHonestly c gs H (Wrote c gs m size f x d) (write_number c.transfer.to size d x) w
  does_write_number size x f (Into a) w live ready t lt = writes_in c.transfer.to.memory size a x f w t.0 ready.to refl ready.from t.1
  does_write_number size x f (Slots []) w live ready t lt = absurd (false≢true t)
  does_write_number size x f (Slots (t1 ∷ [])) w live ready t lt =
      let k = slot_keeps f t1 x (and_left (can_hold f t1) true t) lt in
      does_give (record {
        weightless = refl;
        quiet = refl;
        given = ap (λ b. b && true) k.typed;
        leaves = record { now = m; ready = ready; placed = placed_nothing _ (λ b. (core_value t1 x, refl, k.bits, k.as_flat)) };
      })
  does_write_number size x f (Slots (t1 ∷ (t2 ∷ ts))) w live ready t lt = absurd (false≢true (sym (and_false (can_hold f t1)) ∙ t))
