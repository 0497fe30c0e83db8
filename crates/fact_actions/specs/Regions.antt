-- Regions of memory that realloc gave, and which of its answers are honest (canonical ABI, "Canonical ABI options",
-- `realloc`).
use Rattle.std.specs.Prelude.{◌≡◌, ℕ, ◌+◌, ◌%◌, ◌<◌, ◌≤◌, ◌⊎◌, Bool, ◌&&◌, nat_eq, List, [], ◌∷◌, ◌++◌, length, get_or, Some, None, if◌then◌else◌}
use Rattle.std.specs.List.{AllByRecursion}
use Rattle.fact_machine.specs.declared.types.CoreValue.{CoreValue}
use Rattle.fact_machine.specs.declared.types.MachineState.{MachineState}
use Rattle.fact_types.specs.Adapters.{LinkedAdapter}
use Rattle.fact_actions.specs.Sides.{LiftLowerOptions, options_of}
use Rattle.fact_actions.specs.Running.{ImportPlaces, Call}
use Rattle.fact_actions.specs.Adapters.{last_bits, flat_results}
use Rattle.fact_types.specs.Tuples.{tuple_members}
use Rattle.fact_actions.specs.Moves.{entry_extent}
use Rattle.fact_actions.specs.Calls.{is_call_of, is_call_of_any, arg_number, nth_number, results, state_after, side_memory}

-- so many bytes from an address on, which is to be a multiple of an alignment
pub record Region : Type 0 where
  pub at : ℕ
  pub size : ℕ
  pub align : ℕ

abbrev pub IsIn : Region → ℕ → Type 0
IsIn r j = (r.at ≤ j) × (j < r.at + r.size)

abbrev pub IsInAny : List Region → ℕ → Type 0
IsInAny [] j = ⊥
IsInAny (r ∷ rs) j = IsIn r j ⊎ IsInAny rs j

-- Regions are apart where no byte is in both; so an empty one is apart from all.
abbrev pub AreApart : Region → List Region → Type 0
AreApart r rs = (j : ℕ) → IsIn r j → IsInAny rs j → ⊥

abbrev pub byte : List ℕ → ℕ → ℕ
byte bytes j = get_or bytes j 0

-- ---- transfers

-- A transfer of values: the side that they come from and the one that they go to, and where there is one, the return area,
-- which lies in the memory that they go to.
pub record Landing : Type 0 where
  pub from : LiftLowerOptions
  pub to : LiftLowerOptions
  pub area : List Region

-- How far a transfer has come: the regions that are live, the newest first.
pub record Position : Type 0 where
  pub landing : Landing
  pub live : List Region

abbrev pub landed : Landing → Position
landed l = record { landing = l; live = [] }

-- what the results of a side are written to where its return pointer is the last argument
abbrev pub return_area : LinkedAdapter → (args : List CoreValue) → List Region
return_area a args =
    elim (flat_results a.lower) [
      | Some flats ↦ []
      | None ↦
          let e = entry_extent (options_of a.lower) (tuple_members a.lower.results) in
          record { at = last_bits args; size = e.size; align = e.align } ∷ []
    ]

abbrev pub params_landing : LinkedAdapter → Landing
params_landing a = record { from = options_of a.lower; to = options_of a.lift; area = [] }

abbrev pub results_landing : LinkedAdapter → (args : List CoreValue) → Landing
results_landing a args = record { from = options_of a.lift; to = options_of a.lower; area = return_area a args }

-- ---- calls of realloc

abbrev pub is_request : Landing → Call → Bool
is_request l c = is_call_of_any l.to.realloc c

-- the region that a call of realloc is to give up, and the one that it gives
abbrev pub given_up : Call → Region
given_up c = record { at = arg_number c 0; size = arg_number c 1; align = arg_number c 2 }

abbrev pub given_region : Call → Region
given_region c = record { at = nth_number (results c) 0; size = arg_number c 3; align = arg_number c 2 }

-- without one region at this place and of this size
abbrev pub without : Region → List Region → List Region
without r [] = []
without r (s ∷ rs) = if nat_eq s.at r.at && nat_eq s.size r.size then rs else s ∷ without r rs

-- behind a call of the transfer
abbrev pub moved_on : Call → Position → Position
moved_on c x = if is_request x.landing c then record x { live = given_region c ∷ without (given_up c) x.live } else x

-- The same in a whole sync adapter, where with the call of the callee the transfer of results begins.
abbrev pub sync_moved_on : LinkedAdapter → (args : List CoreValue) → Call → Position → Position
sync_moved_on a args c x = if is_call_of a.callee c then landed (results_landing a args) else moved_on c x

-- the regions that are in use beside the one that a call gives: the others that are live, and the return area
abbrev pub in_use : Position → Call → List Region
in_use x c = without (given_up c) x.live ++ x.landing.area

-- a region is aligned and lies within a memory of so many bytes
pub record IsSoundRegion (bytes : ℕ) (r : Region) : Type 0 where
  pub aligned : r.at % r.align ≡ 0
  pub inside : r.at + r.size ≤ bytes

-- The return area, where there is one, is aligned and lies within the memory of its side.
abbrev pub IsAreaSound : ImportPlaces → LinkedAdapter → (args : List CoreValue) → MachineState → Type 0
IsAreaSound p a args state = AllByRecursion (IsSoundRegion (length (side_memory p (options_of a.lower) state))) (return_area a args)

-- An honest answer of realloc. The region is sound and apart from what is in use, holds the bytes of the one given up as far as
-- there is room, and nothing else that is in use has changed, nor the memory that values come from.
pub record IsHonestRegion (p : ImportPlaces) (x : Position) (c : Call) : Type 0 where
  pub sound : IsSoundRegion (length (side_memory p x.landing.to (state_after c))) (given_region c)
  pub apart : AreApart (given_region c) (in_use x c)
  pub holds : (j : ℕ) → j < arg_number c 1 → j < arg_number c 3 → byte (side_memory p x.landing.to (state_after c)) ((given_region c).at + j) ≡ byte (side_memory p x.landing.to c.before) (arg_number c 0 + j)
  pub others : (j : ℕ) → IsInAny (in_use x c) j → byte (side_memory p x.landing.to (state_after c)) j ≡ byte (side_memory p x.landing.to c.before) j
  pub source : side_memory p x.landing.from (state_after c) ≡ side_memory p x.landing.from c.before
