-- Cited by private clauses alone.
-- What is read of parts that may be missing, and where a walk over the members of a record stands.
use Rattle.std.specs.Prelude.{◌≡◌, ℕ, ◌+◌, ◌-◌, ◌*◌, ◌^◌, ◌<◌, ◌≤◌, Bool, max, List, ◌++◌, drop, Option, option_map}
use Rattle.fact_types.specs.declared.interface.InterfaceType.{InterfaceType}
use Rattle.fact_types.specs.Layout.{extents, payloads, greatest_align}
use Rattle.fact_types.specs.Shapes.{Members, layouts_of, ends_of}
use Rattle.fact_types.specs.Options.{◌>>=◌}
use Rattle.fact_types.specs.Tables.{Tables}
use Rattle.fact_values.specs.declared.side.SideAbi.{SideAbi}
use Rattle.fact_values.specs.declared.value.Value.{Value}
use Rattle.fact_values.specs.Load.{text_value, entry_of, load_members}
use Rattle.fact_abi.specs.Nodes.{AreOf}
use Rattle.fact_values.specs.Numbers.{flags_of_number}
use Rattle.fact_machine.specs.World.{number_of}
use Rattle.fact_values.specs.Places.{width_of, Pair, each_at}

-- The text of a pointer and a length, where they are there.
abbrev pub text_of_pair : SideAbi → List ℕ → Option Pair → Option Value
text_of_pair side bytes q = q >>= (λ p. text_value side bytes p)

-- The entry of the members of an entry, where they are there.
abbrev pub entry_of_members : Option (List Value) → Option (Value × Value)
entry_of_members members = members >>= (λ vs. entry_of vs)

-- In front of the member of a place, behind so many bytes, with these values before it.
pub record Loading (t : Tables) (side : SideAbi) (bytes : List ℕ) (ms : Members) (types : List (Option InterfaceType)) (i n a : ℕ) (values : List Value) : Type 0 where
  pub rest : Members
  pub has : AreOf t (drop i types) rest
  pub ends : ends_of (width_of side) ms 0 ≡ ends_of (width_of side) rest n
  pub same : load_members side bytes ms a 0 ≡ option_map (λ vs. values ++ vs) (load_members side bytes rest a n)

-- In front of the case of a place, with this the greatest alignment of the payloads before it.
pub record Aligning (t : Tables) (side : SideAbi) (ms : Members) (types : List (Option InterfaceType)) (i align : ℕ) : Type 0 where
  pub rest : Members
  pub has : AreOf t (drop i types) rest
  pub greatest : max align (greatest_align (extents (width_of side) (payloads (layouts_of rest)))) ≡ greatest_align (extents (width_of side) (payloads (layouts_of ms)))

-- In front of an element, with these before it.
pub record Repeating {A : Type 0} (f : ℕ → Option A) (count size i at address : ℕ) (values : List A) : Type 0 where
  pub place : at ≡ address + i * size
  pub same : each_at count size f address ≡ option_map (λ vs. values ++ vs) (each_at (count - i) size f at)

-- In front of the name of a place, with the flags of the names before it: so many bits of a byte are left, and then the bytes
-- from an index on.
pub record Flagging (names items : List (List ℕ)) (bytes : List ℕ) (i index left byte : ℕ) (flags : List (List ℕ × Bool)) : Type 0 where
  pub same : flags_of_number names (number_of bytes) ≡ flags ++ flags_of_number (drop i items) (byte + 2 ^ left * number_of (drop index bytes))
  pub below : byte < 2 ^ left
  pub few : left ≤ 8
  pub behind : index ≤ i
