-- What a call hands over to its caller, into buffers of the caller's own.
use Rattle.std.specs.Prelude.{ℕ, ◌≡◌, ◌≤◌, ◌⊎◌, Bool, List, [], ◌++◌, length, drop, string_bytes}
use Rattle.fact_command.specs.Command.{least_fuel, most_fuel}
use Rattle.fact_command.specs.Status.{exit_status_of}
use Rattle.fact_plan.specs.Inputs.{HoldsBadPlan, HoldsNoJson, IsTooLong}
use Rattle.fact_adapter_rules.specs.Inputs.{HoldsFaultless, HoldsRefusal}
use Rattle.fact_plan.specs.declared.fault.PlanFault.{PlanFault}
use Rattle.fact_plan_types.specs.declared.error.Place.{Place}
use Rattle.fact_plan_types.specs.Faults.{Fault}
use Rattle.fact_library.specs.declared.compiling.Compiled.{Compiled}
use Rattle.fact_library.specs.declared.errors.CompileError.{CompileError}
use Rattle.fact_library.specs.declared.giving.Sizes.{Sizes}
use Rattle.fact_records.specs.declared.records.ImportRecord.{ImportRecord}
use Rattle.fact_library.specs.Compiling.{HoldsModule, IsCompiled, IsErrorOf, line_of_error, status_of_error}

-- the numbers of the statuses that the program has not: the fuel is none, and a buffer has no room
abbrev pub no_fuel : ℕ
no_fuel = 2

abbrev pub no_room : ℕ
no_room = 10

-- what there is to hand over: the number of a status, and what the three buffers are to begin with
pub record Gift : Type 0 where
  pub status : ℕ
  pub bytes : List ℕ
  pub records : List ImportRecord
  pub text : List ℕ

abbrev pub sizes_of : Gift → Sizes
sizes_of g = record { bytes = length g.bytes; records = length g.records; text = length g.text }

-- ---- what the bytes of a plan come to

-- the bytes of a module, the records of its imports, and the text that these point into
abbrev pub gift_of_module : Compiled → Gift
gift_of_module c = record { status = 0; bytes = c.fused.bytes; records = c.records.items; text = string_bytes c.text }

-- the line that tells why there is no module
abbrev pub gift_of_error : CompileError → Gift
gift_of_error e = record { status = exit_status_of (status_of_error e); bytes = []; records = []; text = line_of_error e }

-- nothing, where the fuel is none
abbrev pub no_gift : Gift
no_gift = record { status = no_fuel; bytes = []; records = []; text = [] }

-- a fuel that a caller may ask for
pub record IsFuel (n : ℕ) : Type 0 where
  pub least : least_fuel ≤ n
  pub most : n ≤ most_fuel

-- what is handed over of the bytes of a plan: the module that they come to
pub record GivesModule (debug : Bool) (fuel : ℕ) (plan : List ℕ) (g : Gift) : Type 0 where
  pub may : IsFuel fuel
  pub compiled : Compiled
  pub holds : HoldsModule debug fuel plan compiled.fused
  pub is_compiled : IsCompiled compiled compiled.fused
  pub is : g ≡ gift_of_module compiled

-- or why they come to none
pub record GivesLine (fuel : ℕ) (plan : List ℕ) (g : Gift) : Type 0 where
  pub may : IsFuel fuel
  pub error : CompileError
  pub why : IsErrorOf plan error
  pub is : g ≡ gift_of_error error

-- or nothing
pub record GivesNothing (fuel : ℕ) (g : Gift) : Type 0 where
  pub may_not : IsFuel fuel → ⊥
  pub is : g ≡ no_gift

abbrev pub IsGiftOf : (debug : Bool) (fuel : ℕ) (plan : List ℕ) → Gift → Type 0
IsGiftOf debug fuel plan g = GivesModule debug fuel plan g ⊎ (GivesLine fuel plan g ⊎ GivesNothing fuel g)

-- ---- how it is handed over

-- The buffers have room for all of it.
pub record HasRoom (g : Gift) (b : List ℕ) (r : List ImportRecord) (t : List ℕ) : Type 0 where
  pub bytes : length g.bytes ≤ length b
  pub records : length g.records ≤ length r
  pub text : length g.text ≤ length t

-- a buffer that begins with what is given, and is behind it what it was
abbrev pub over : {A : Type 0} → (given old : List A) → List A
over given old = given ++ drop (length given) old

-- There is room, and all of it was written.
pub record IsWritten (g : Gift) (b b' : List ℕ) (r r' : List ImportRecord) (t t' : List ℕ) (n : ℕ) : Type 0 where
  pub has_room : HasRoom g b r t
  pub status : n ≡ g.status
  pub bytes : b' ≡ over g.bytes b
  pub records : r' ≡ over g.records r
  pub text : t' ≡ over g.text t

-- There is none, and nothing was written.
pub record IsNotWritten (g : Gift) (b b' : List ℕ) (r r' : List ImportRecord) (t t' : List ℕ) (n : ℕ) : Type 0 where
  pub lacks_room : HasRoom g b r t → ⊥
  pub status : n ≡ no_room
  pub bytes : b' ≡ b
  pub records : r' ≡ r
  pub text : t' ≡ t

-- The caller is told how much there is to hand over, and has it all in its buffers of bytes, of records and of text, or is told that there is
-- no room.
pub record IsHandedOver (g : Gift) (told : Sizes) (b b' : List ℕ) (r r' : List ImportRecord) (t t' : List ℕ) (n : ℕ) : Type 0 where
  pub sizes : told ≡ sizes_of g
  pub is_so : IsWritten g b b' r r' t t' n ⊎ IsNotWritten g b b' r r' t t' n

-- What there is of the bytes of a plan was handed over.
pub record IsGiven (debug : Bool) (fuel : ℕ) (plan : List ℕ) (sizes : Sizes) (b b' : List ℕ) (r r' : List ImportRecord) (t t' : List ℕ) (n : ℕ) : Type 0 where
  pub gift : Gift
  pub gives : IsGiftOf debug fuel plan gift
  pub handed_over : IsHandedOver gift sizes b b' r r' t t' n

-- ---- the other way round

-- The status has this number, or there was no memory, or no room.
abbrev pub IsNumber : (wanted status : ℕ) → Type 0
IsNumber wanted s = (s ≡ wanted) ⊎ ((s ≡ 9) ⊎ (s ≡ no_room))

-- What the bytes hold leads to the status of its kind; too many bytes never to that of a want of memory.
pub record LeadsTo (bytes : List ℕ) (s : ℕ) : Type 0 where
  pub too_long : IsTooLong bytes → (s ≡ 5) ⊎ (s ≡ no_room)
  pub not_json : HoldsNoJson bytes → IsNumber 6 s
  pub bad_plan : ((f : PlanFault) × HoldsBadPlan bytes f) → IsNumber 7 s
  pub refused : ((f : Fault) × (place : Place) × HoldsRefusal bytes f place) → IsNumber 8 s
  pub faultless : HoldsFaultless bytes → IsNumber 0 s
