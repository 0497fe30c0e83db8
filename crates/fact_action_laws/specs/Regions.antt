-- What a transfer stands on, and the regions that realloc has given to it (canonical ABI, "Canonical ABI options", `realloc`).
use Rattle.std.specs.Prelude.{ℕ, ◌≡◌, ◌⊎◌, List, [], ◌∷◌, Some, None, slice_get}
use Rattle.fact_types.specs.declared.import.Import.{Import}
use Rattle.fact_types.specs.declared.import.Import.TheVariants as import
use Rattle.fact_machine.specs.declared.types.MachineState.{MachineState}
use Rattle.fact_machine.specs.declared.types.CoreValue.{CoreValue}
use Rattle.fact_machine.specs.declared.types.Answer.{Answer}
use Rattle.fact_machine.specs.declared.types.Answer.TheVariants.{Returns}
use Rattle.fact_actions.specs.Calls.{nth_number}
use Rattle.fact_actions.specs.Regions.{Region, IsInAny, without}
use Rattle.fact_actions.specs.Requests.{Request}
use Rattle.fact_actions.specs.Running.{ImportPlaces, Call}
use Rattle.fact_actions.specs.Sides.{LiftLowerOptions, Transfer, first_bits}

-- What a transfer stands on: where its module has memories and functions, its sides, the return area where there is one, and
-- the bytes of the memory of the source, which stay as they are.
pub record TransferSetting : Type 0 where
  pub places : ImportPlaces
  pub transfer : Transfer
  pub area : List Region
  pub source : List ℕ

-- the bytes at these addresses belong to the transfer: they lie in a live region or in the return area
abbrev pub IsInHand : TransferSetting → List Region → ℕ → Type 0
IsInHand c rs j = IsInAny rs j ⊎ IsInAny c.area j

-- ---- calls of realloc

-- what a call of realloc asks for, by its arguments
abbrev pub request_by : List CoreValue → Request
request_by args = record { old = nth_number args 0; old_size = nth_number args 1; align = nth_number args 2; new_size = nth_number args 3 }

-- the region that is to be given up, and the one that is given at an address
abbrev pub old_region : Request → Region
old_region r = record { at = r.old; size = r.old_size; align = r.align }

abbrev pub region_from : Request → ℕ → Region
region_from r q = record { at = q; size = r.new_size; align = r.align }

-- Within a transfer a call of a core function is one of realloc. It gives up a region and puts one among the others.
abbrev pub regions_by : Import → List CoreValue → Answer → List Region → List Region
regions_by (import.CoreDef f) args (Returns rs after) gs = region_from (request_by args) (first_bits rs) ∷ without (old_region (request_by args)) gs
regions_by _ args answer gs = gs

-- the live regions behind calls
abbrev pub regions_after : List Region → List Call → List Region
regions_after gs [] = gs
regions_after gs (x ∷ cs) = regions_after (regions_by x.what x.args x.answer gs) cs

-- ---- memories of sides

-- these are the bytes of a side's memory, none where it has no memory
abbrev pub AreBytesOf : ImportPlaces → LiftLowerOptions → MachineState → List ℕ → Type 0
AreBytesOf p o s bytes = elim o.memory [ None ↦ bytes ≡ [] | Some m ↦ slice_get s.memories (p.memory m.def) ≡ Some bytes ]
