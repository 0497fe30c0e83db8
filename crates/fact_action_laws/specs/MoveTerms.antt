-- The terms of the law of moves (`IsLawfulMove` of MoveLaws.antt): what it asks of types and sides, and what a move comes to by honest answers.
use Rattle.std.specs.Prelude.{◌≡◌, ℕ, ◌+◌, List, [], ◌∷◌, ◌++◌, Some, None, true}
use Rattle.fact_types.specs.Agrees.{names_of}
use Rattle.fact_types.specs.Layout.{extent}
use Rattle.fact_types.specs.Shapes.{Kind, k_record, k_list, k_tuple, k_map, k_flags, k_enum, k_option, k_result, k_fixed, Shape, s_plain, s_node, Members, no_members, bare, typed, layout_of, none_name, some_name, ok_name, error_name}
use Rattle.fact_machine.specs.declared.types.CoreValue.{CoreValue}
use Rattle.fact_machine.specs.World.{World, Stop, Trap, Throw, Lack}
use Rattle.fact_actions.specs.Running.{Call}
use Rattle.fact_actions.specs.Sides.{LiftLowerOptions, Source, Values, AtAddress, Target, width_of_side}
use Rattle.fact_values.specs.declared.value.Value.{Value}
use Rattle.fact_values.specs.Carry.{take_number}
use Rattle.fact_values.specs.Handles.{cross}
use Rattle.fact_values.specs.Limits.{Moving, IsWithinLimits, IsWithinAt}
use Rattle.fact_values.specs.Numbers.{Plain, nothing, plain_of}
use Rattle.fact_values.specs.Weight.{weight}
use Rattle.fact_action_laws.specs.Footprints.{HasChanged}
use Rattle.fact_action_laws.specs.Items.{ValueItem, items, numbers, AreItemCalls, BeginItemCalls}
use Rattle.fact_action_laws.specs.Places.{from_side, to_side, HasSideMemory, IsAtTarget, IsGiven, StandsAtTarget}
use Rattle.fact_actions.specs.Regions.{Region}
use Rattle.fact_action_laws.specs.Regions.{TransferSetting}
use Rattle.fact_values.specs.Formed.{AreBare}
use Rattle.fact_types.specs.PointerPairs.{has_pointer_pair, have_pointer_pair}

-- ---- what is known of types

abbrev pub HasRealloc : LiftLowerOptions → Type 0
HasRealloc o = elim o.realloc [ None ↦ ⊥ | Some f ↦ Unit {0} ]

-- a side with a memory, in which it has regions given
pub record CanAllocate (o : LiftLowerOptions) : Type 0 where
  pub memory : HasSideMemory o
  pub realloc : HasRealloc o

-- Strings, lists and maps go from a side to another: both have a memory, and the second one a realloc.
pub record HasPointers (source destination : LiftLowerOptions) : Type 0 where
  pub from : HasSideMemory source
  pub to : HasSideMemory destination
  pub realloc : HasRealloc destination

-- They can where a source type holds strings, lists or maps; so can those of members.
abbrev pub IsSupplied : TransferSetting → Shape → Type 0
IsSupplied c t = has_pointer_pair t ≡ true → HasPointers c.transfer.from c.transfer.to

abbrev pub AreSupplied : TransferSetting → Members → Type 0
AreSupplied c ms = have_pointer_pair ms ≡ true → HasPointers c.transfer.from c.transfer.to

-- members that all have types
abbrev pub AreTyped : Members → Type 0
AreTyped no_members = Unit {0}
AreTyped (bare x ms) = ⊥
AreTyped (typed x s ms) = AreTyped ms

-- names that are places, from a place on
abbrev pub ArePlaces : ℕ → List (List ℕ) → Type 0
ArePlaces n [] = Unit {0}
ArePlaces n (x ∷ xs) = (x ≡ n ∷ []) × ArePlaces (1 + n) xs

-- The members of a kind have the form that types give them: those of tuples are named by their places, those of maps, lists,
-- options and results by the kind, and flags and enums have names alone.
abbrev pub IsWellFormedBy : Kind → Members → Type 0
IsWellFormedBy k_record ms = AreTyped ms
IsWellFormedBy k_tuple ms = ArePlaces 0 (names_of ms) × AreTyped ms
IsWellFormedBy k_list ms = (names_of ms ≡ [] ∷ []) × AreTyped ms
IsWellFormedBy k_map ms = (names_of ms ≡ (0 ∷ []) ∷ (1 ∷ []) ∷ []) × AreTyped ms
IsWellFormedBy (k_fixed n) ms = (names_of ms ≡ [] ∷ []) × AreTyped ms
IsWellFormedBy k_option ms = names_of ms ≡ none_name ∷ some_name ∷ []
IsWellFormedBy k_result ms = names_of ms ≡ ok_name ∷ error_name ∷ []
IsWellFormedBy k_flags ms = AreBare ms
IsWellFormedBy k_enum ms = AreBare ms
IsWellFormedBy k ms = Unit {0}

-- a plain type is one that has values
abbrev pub HasValues : Plain → Type 0
HasValues nothing = ⊥
HasValues p = Unit {0}

abbrev mutual
  pub IsWellFormed : Shape → Type 0
  IsWellFormed (s_plain q) = HasValues (plain_of q)
  IsWellFormed (s_node k ms) = IsWellFormedBy k ms × AreWellFormed ms

  pub AreWellFormed : Members → Type 0
  AreWellFormed no_members = Unit {0}
  AreWellFormed (bare x ms) = AreWellFormed ms
  AreWellFormed (typed x s ms) = IsWellFormed s × AreWellFormed ms

-- ---- what a move comes to

-- the bytes of a value on a side
abbrev pub size_on : LiftLowerOptions → Shape → ℕ
size_on o u = (extent (width_of_side o) (layout_of u)).size

-- what stands at a source is within limits
abbrev pub moving : TransferSetting → Moving
moving c = record { from = from_side c; to = to_side c; bytes = c.source }

abbrev pub IsFit : TransferSetting → (t u : Shape) → Source → Type 0
IsFit c t u (Values vs) = IsWithinLimits (moving c) t u vs
IsFit c t u (AtAddress a) = IsWithinAt (moving c) t u a

-- How a value has become another: handles by the numbers that the calls answered; the calls are those that it calls for; and
-- so many nodes were moved.
pub record HasCarried (c : TransferSetting) (t u : Shape) (v out : Value) (n : ℕ) (cs : List Call) : Type 0 where
  pub crosses : (rest : List ℕ) → cross take_number t u v (numbers cs ++ rest) ≡ Some (out, rest)
  pub told : AreItemCalls (items (to_side c) t u v) cs
  pub weighs : n ≡ weight t v

-- A move of a value has ended: its carry stands at the target, canonically, and all else that was live is as it was.
pub record IsMoved (c : TransferSetting) (gs : List Region) (m : List ℕ) (t u : Shape) (d : Target) (v : Value) (n : ℕ) (cs : List Call) (vs : List CoreValue) (w : World) : Type 0 where
  pub out : Value
  pub carried : HasCarried c t u v out n cs
  pub given : IsGiven d vs
  pub leaves : HasChanged c gs m (IsAtTarget (size_on c.transfer.to u) d) (λ b. StandsAtTarget c u out d vs b) cs w

-- A move stops: by a trap only where the value is not within limits, and where an answer is lacking the calls so far begin
-- those that the value calls for.
abbrev pub MayStop : Type 0 → List ValueItem → Stop → List Call → Type 0
MayStop Fit is Trap cs = Fit → ⊥
MayStop Fit is Throw cs = ⊥
MayStop Fit is Lack cs = BeginItemCalls is cs
