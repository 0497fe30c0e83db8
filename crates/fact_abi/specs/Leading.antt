-- Cited by private clauses alone.
-- How many leading core values stand for flat types.
use Rattle.std.specs.Prelude.{◌≡◌, ℕ, ◌+◌, ◌-◌, ◌*◌, ◌^◌, max, List, [], ◌∷◌, ◌++◌, length, drop, replicate, Option, Some, None, Bool, true, false, if◌then◌else◌, ◌&&◌, option_map}
use Rattle.fact_machine.specs.declared.types.CoreValue.{CoreValue}
use Rattle.fact_types.specs.declared.flats.FlatType.{FlatType}
use Rattle.fact_types.specs.declared.flats.FlatType.TheVariants.{I32, I64, F32, F64}
use Rattle.fact_types.specs.declared.interface.InterfaceType.{InterfaceType}
use Rattle.fact_types.specs.declared.extents.MemoryWidth.{MemoryWidth}
use Rattle.fact_types.specs.FlatShapes.{flat_members, flat_any, times}
use Rattle.fact_types.specs.Shapes.{Members}
use Rattle.fact_types.specs.Tables.{Tables}
use Rattle.fact_machine.specs.World.{number_of}
use Rattle.fact_values.specs.declared.side.SideAbi.{SideAbi}
use Rattle.fact_values.specs.declared.value.Value.{Value}
use Rattle.fact_values.specs.Lift.{can_stand, numbers_as, each_of, lift_members}
use Rattle.fact_abi.specs.Nodes.{AreOf}
use Rattle.fact_values.specs.Numbers.{number_of_words}
use Rattle.fact_values.specs.Places.{width_of}

-- Flat types of 32 bits.
abbrev pub IsHalf : FlatType → Type 0
IsHalf I32 = Unit {0}
IsHalf F32 = Unit {0}
IsHalf I64 = ⊥
IsHalf F64 = ⊥

-- The leading core values stand for flat types, one by one.
abbrev pub can_lead : List FlatType → List CoreValue → Bool
can_lead [] cs = true
can_lead (f ∷ fs) [] = false
can_lead (f ∷ fs) (c ∷ cs) = can_stand f c && can_lead fs cs

-- How many core values stand for flat types, none where the leading ones do not.
abbrev pub leading : List FlatType → List CoreValue → Option ℕ
leading fs cs = if can_lead fs cs then Some (length fs) else None

-- In front of the member of a place, with so many core values before it.
pub record Adding (t : Tables) (w : MemoryWidth) (cs : List CoreValue) (ms : Members) (types : List (Option InterfaceType)) (i total : ℕ) : Type 0 where
  pub rest : Members
  pub has : AreOf t (drop i types) rest
  pub same : leading (flat_members w ms) cs ≡ option_map (λ n. total + n) (leading (flat_members w rest) (drop total cs))

-- In front of the case of a place, with this the most core values of the payloads before it.
pub record IsWidening (t : Tables) (w : MemoryWidth) (cs : List CoreValue) (ms : Members) (types : List (Option InterfaceType)) (i most : ℕ) : Type 0 where
  pub rest : Members
  pub has : AreOf t (drop i types) rest
  pub same : leading (flat_any w ms) cs ≡ option_map (λ n. max most n) (leading (flat_any w rest) cs)

-- In front of an element, with so many core values before it.
pub record Counting (fs : List FlatType) (count i total : ℕ) (cs : List CoreValue) : Type 0 where
  pub same : leading (times count fs) cs ≡ option_map (λ n. total + n) (leading (times (count - i) fs) (drop total cs))

-- In front of the member of a place, with these values lifted before it, and the core values from a place on left.
pub record Lifted (t : Tables) (side : SideAbi) (bytes : List ℕ) (cs : List CoreValue) (ms : Members) (types : List (Option InterfaceType)) (i at : ℕ) (values : List Value) : Type 0 where
  pub rest : Members
  pub has : AreOf t (drop i types) rest
  pub stand : can_lead (flat_members (width_of side) rest) (drop at cs) ≡ true
  pub same : lift_members side bytes ms cs ≡ option_map (λ vs. values ++ vs) (lift_members side bytes rest (drop at cs))

-- In front of an element, with these values lifted before it.
pub record LiftedEach (fs : List FlatType) (f : List CoreValue → Option Value) (count i at : ℕ) (cs : List CoreValue) (values : List Value) : Type 0 where
  pub stand : can_lead (times (count - i) fs) (drop at cs) ≡ true
  pub same : each_of count (length fs) f cs ≡ option_map (λ vs. values ++ vs) (each_of (count - i) (length fs) f (drop at cs))

-- In front of a core value, with the bytes of those before it.
pub record Wording (count i : ℕ) (cs : List CoreValue) (bytes : List ℕ) : Type 0 where
  pub same : option_map number_of_words (numbers_as (replicate count I32) cs) ≡ option_map (λ ws. number_of bytes + 256 ^ length bytes * number_of_words ws) (numbers_as (replicate (count - i) I32) (drop i cs))
