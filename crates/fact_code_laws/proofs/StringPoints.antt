-- Where a path of a string's code stands: what its temporaries hold and what its code needs; and what is said of each of its steps.
use Rattle.std.proofs.Common.{◌≡◌, ◌≢◌, ℕ, zero, suc, ◌+◌, ◌<◌, ◌≤◌, Bool, true, false, ◌&&◌, List, [], ◌∷◌, ◌++◌, Option, Some, refl, ap, ◌∙◌, arith, slice_get}
use Rattle.std.specs.Prelude.{nat_lt, nat_eq, if◌then◌else◌}
use Rattle.std.proofs.lemmas.Bool.{ltb-true, eqb-false}
use Rattle.fact_wasm.specs.declared.types.ValType.{ValType}
use Rattle.fact_wasm.specs.declared.types.ValType.TheVariants as val
use Rattle.fact_wasm.specs.declared.instr.Instr.{Instr}
use Rattle.fact_wasm.specs.declared.module.WasmModule.{WasmModule}
use Rattle.fact_types.specs.declared.outside.CoreDef.{CoreDef}
use Rattle.fact_types.specs.declared.outside.MemoryOption.{MemoryOption}
use Rattle.fact_types.specs.declared.outside.Transcode.{Transcode}
use Rattle.fact_types.specs.declared.outside.Trap.TheVariants.{StringOutOfBounds}
use Rattle.fact_types.specs.declared.import.Import.TheVariants as import
use Rattle.fact_types.specs.Adapters.{is_wide}
use Rattle.fact_machine.specs.declared.types.CoreValue.TheVariants.{I64}
use Rattle.fact_machine.specs.Typing.{address_type}
use Rattle.fact_machine.proofs.Tests.{first_of, second_of}
use Rattle.fact_actions.specs.Actions.{Action}
use Rattle.fact_actions.specs.Paths.{Amount, Test, AllRead, WrittenIs, HasNoTag, KeepsUnits}
use Rattle.fact_actions.specs.Running.{ImportPlaces}
use Rattle.fact_actions.specs.Sides.{LiftLowerOptions, Transfer, reallocate}
use Rattle.fact_actions.specs.Strings.{PathPoint, amount, transcode, most_string_bytes}
use Rattle.fact_actions.specs.Transcoders.{TranscodeKind, AllUnits, Counted, Fitting, Narrow, Tagged, Widening, transcode_kind}
use Rattle.fact_code_laws.specs.Does.{Locals, Onward, Does}
use Rattle.fact_code_laws.specs.Knows.{KnowsFunction, KnowsMemory}
use Rattle.fact_code_laws.specs.Places.{Setting, SideMemory, KeepsLocals, is_on, limit_of}
use Rattle.fact_code_laws.specs.StringCode.{StringMove, resize_code, pass_code}
use Rattle.fact_code_laws.specs.Tests.{pointer_of_width}
use Rattle.fact_code_laws.proofs.Rules.{IsSet}
use Rattle.fact_code_laws.proofs.Numbers.{set_keeps}
use Rattle.fact_code_laws.proofs.Keeping.{keeps_then}
use Rattle.fact_code_laws.proofs.Temporaries.{Temporaries, Facts, Standing}

-- ---- temporaries

-- the temporaries by their numbers: those of an i64, and the two of the slots of the context
abbrev pub string_temp : StringMove → ℕ → ℕ
string_temp m zero = m.temporaries.source
string_temp m (suc zero) = m.temporaries.units
string_temp m (suc (suc zero)) = m.temporaries.read
string_temp m (suc (suc (suc zero))) = m.temporaries.region
string_temp m (suc (suc (suc (suc zero)))) = m.temporaries.written
string_temp m (suc (suc (suc (suc (suc zero))))) = m.temporaries.bytes
string_temp m (suc (suc (suc (suc (suc (suc zero)))))) = m.temporaries.before
string_temp m (suc (suc (suc (suc (suc (suc (suc zero))))))) = m.temporaries.length
string_temp m (suc (suc (suc (suc (suc (suc (suc (suc zero)))))))) = m.slots.saved0
string_temp m (suc (suc (suc (suc (suc (suc (suc (suc (suc i))))))))) = m.slots.saved1

abbrev pub string_type : ℕ → ValType
string_type i = if nat_lt i 8 then val.I64 else val.I32

-- ---- what code of strings needs

-- the memory of a side, with its page size
pub record StringMemory (M : WasmModule) (p : ImportPlaces) (o : LiftLowerOptions) (memory64 : Bool) (memory : ℕ) (log2 : Option ℕ) (option : MemoryOption) : Type 0 where
  pub is : o.memory ≡ Some option
  pub wide : option.memory64 ≡ memory64
  pub has : KnowsMemory M p option.def memory memory64 log2

abbrev pub memory_side : {M : WasmModule} {p : ImportPlaces} {o : LiftLowerOptions} {memory64 : Bool} {memory : ℕ} {log2 : Option ℕ} {option : MemoryOption} → StringMemory M p o memory64 memory log2 option → SideMemory M p o memory64 memory
memory_side {log2 = log2} {option} h = record { option = option; is = h.is; wide = h.wide; log2 = log2; has = h.has }

pub memory_is_wide : {M : WasmModule} {p : ImportPlaces} {o : LiftLowerOptions} {memory64 : Bool} {memory : ℕ} {log2 : Option ℕ} {option : MemoryOption} → StringMemory M p o memory64 memory log2 option → is_wide o.memory ≡ memory64
memory_is_wide h = ap is_wide h.is ∙ h.wide

-- realloc of a side, which has one
abbrev pub KnowsRealloc : WasmModule → ImportPlaces → (memory64 : Bool) → Option CoreDef → Option ℕ → Type 0
KnowsRealloc M p memory64 (Some f) (Some place) = KnowsFunction M p (import.CoreDef f) place (address_type memory64 ∷ address_type memory64 ∷ address_type memory64 ∷ address_type memory64 ∷ []) (address_type memory64 ∷ [])
KnowsRealloc M p memory64 _ _ = ⊥

-- the transfer that a string's code does in a setting
abbrev pub string_transfer : Setting → StringMove → Transfer
string_transfer S m = record { from = S.from; to = S.to; concurrency = m.concurrency; debug = is_on m.checks }

-- What a string's code needs of its setting, whatever its path: the memories `a` and `b` of the two sides, realloc, and temporaries.
pub record IsStringMove (S : Setting) (used : ℕ → Bool) (m : StringMove) (a b : MemoryOption) : Type 0 where
  pub temps : Temporaries S.locals used 10 (string_temp m) string_type
  pub side1 : StringMemory S.whole S.places S.from m.from64 m.from_memory m.from_log2 a
  pub side2 : StringMemory S.whole S.places S.to m.to64 m.to_memory m.to_log2 b
  pub realloc : KnowsRealloc S.whole S.places m.to64 S.to.realloc m.realloc

-- ---- points

-- The temporaries hold where a path stands, behind the test of the length: numbers of the source are addresses of its memory, the others
-- of that of the destination.
pub record AtPoint (used : ℕ → Bool) (m : StringMove) (first : Locals) (v : PathPoint) (ls : Locals) : Type 0 where
  pub keeps : KeepsLocals used first ls
  pub source : slice_get ls m.temporaries.source ≡ Some (Some (I64 v.source))
  pub units : slice_get ls m.temporaries.units ≡ Some (Some (I64 v.length))
  pub read : slice_get ls m.temporaries.read ≡ Some (Some (I64 v.read))
  pub region : slice_get ls m.temporaries.region ≡ Some (Some (I64 v.region))
  pub written : slice_get ls m.temporaries.written ≡ Some (Some (I64 v.written))
  pub few : v.length ≤ most_string_bytes
  pub source_below : v.source < limit_of (pointer_of_width m.from64)
  pub read_below : v.read < limit_of (pointer_of_width m.from64)
  pub region_below : v.region < limit_of (pointer_of_width m.to64)
  pub written_below : v.written < limit_of (pointer_of_width m.to64)

-- what the temporaries hold, as facts
abbrev pub point_facts : PathPoint → Facts
point_facts v = (4, I64 v.written) ∷ (3, I64 v.region) ∷ (2, I64 v.read) ∷ (1, I64 v.length) ∷ (0, I64 v.source) ∷ []

pub point_stands : {used : ℕ → Bool} {m : StringMove} {first ls : Locals} {v : PathPoint} → AtPoint used m first v ls → Standing used 10 (string_temp m) first ls (point_facts v)
point_stands h = record {
  keeps = h.keeps;
  below = (omega arith, (omega arith, (omega arith, (omega arith, (omega arith, tt)))));
  holds = (h.written, (h.region, (h.read, (h.units, (h.source, tt)))));
}

pub point_here : {used : ℕ → Bool} {m : StringMove} {first ls : Locals} {v : PathPoint} → Standing used 10 (string_temp m) first ls (point_facts v) → v.length ≤ most_string_bytes
    → v.source < limit_of (pointer_of_width m.from64) → v.read < limit_of (pointer_of_width m.from64) → v.region < limit_of (pointer_of_width m.to64) → v.written < limit_of (pointer_of_width m.to64) → AtPoint used m first v ls
point_here s few a b c d = record {
  keeps = s.keeps;
  source = s.holds.1.1.1.1.0;
  units = s.holds.1.1.1.0;
  read = s.holds.1.1.0;
  region = s.holds.1.0;
  written = s.holds.0;
  few = few;
  source_below = a;
  read_below = b;
  region_below = c;
  written_below = d;
}

-- ---- temporaries that are set

abbrev below_ten : ℕ → Bool
below_ten j = nat_lt j 10

module _ (m : StringMove) {locals : List ValType} {used : ℕ → Bool} (t : Temporaries locals used 10 (string_temp m) string_type) where
  -- temporaries of two numbers are two locals
  temps_apart : (i j : ℕ) → (below_ten i && below_ten j) ≡ true → nat_eq i j ≡ false → string_temp m i ≢ string_temp m j
  temps_apart i j lt ne same =
      eqb-false i j ne (t.distinct i j (ltb-true i 10 (first_of (below_ten i) (below_ten j) lt)) (ltb-true j 10 (second_of (below_ten i) (below_ten j) lt)) same)

  -- what is written becomes another number
  pub point_written : {first ls ls' : Locals} {v : PathPoint} → AtPoint used m first v ls → (x : ℕ) → x < limit_of (pointer_of_width m.to64) → IsSet m.temporaries.written (I64 x) ls ls' → AtPoint used m first (record v { written = x }) ls'
  point_written h x lt s = record {
    keeps = keeps_then h.keeps (set_keeps (t.free 4 (omega arith)) s);
    source = s.others m.temporaries.source (temps_apart 0 4 refl refl) ∙ h.source;
    units = s.others m.temporaries.units (temps_apart 1 4 refl refl) ∙ h.units;
    read = s.others m.temporaries.read (temps_apart 2 4 refl refl) ∙ h.read;
    region = s.others m.temporaries.region (temps_apart 3 4 refl refl) ∙ h.region;
    written = s.here;
    few = h.few;
    source_below = h.source_below;
    read_below = h.read_below;
    region_below = h.region_below;
    written_below = lt;
  }

-- ---- what is said of steps

-- the most steps that a request of memory takes
abbrev pub resize_steps : ℕ
resize_steps = 56

-- those of a transcoder: what it is told of its source and its destination, the call, and its answer
abbrev pub source_steps : (rest : Bool) → ℕ
source_steps false = 4
source_steps true = 12

abbrev pub target_steps : TranscodeKind → (rest : Bool) → ℕ
target_steps Fitting false = 9
target_steps Fitting true = 13
target_steps Widening rest = 10
target_steps AllUnits rest = 2
target_steps Counted rest = 2
target_steps Narrow rest = 2
target_steps Tagged rest = 2

abbrev pub answer_steps : TranscodeKind → (rest : Bool) → ℕ
answer_steps Fitting false = 4
answer_steps Fitting true = 12
answer_steps Narrow rest = 4
answer_steps AllUnits rest = 2
answer_steps Counted rest = 2
answer_steps Tagged rest = 2
answer_steps Widening rest = 2

abbrev pub pass_steps : Transcode → (rest : Bool) → ℕ
pass_steps o rest = source_steps rest + (target_steps (transcode_kind o) rest + (1 + answer_steps (transcode_kind o) rest))

-- those of a test
abbrev pub test_steps : Test → ℕ
test_steps AllRead = 3
test_steps (WrittenIs factor) = 7
test_steps HasNoTag = 6
test_steps KeepsUnits = 5

-- The code of a transcoder does its action, from any point.
abbrev pub DoesPass : Setting → (ℕ → Bool) → StringMove → (first : Locals) → Transcode → (rest : Bool) → (room : ℕ) → Type 0
DoesPass S used m first o rest room =
    (v : PathPoint) (ls : Locals) → AtPoint used m first v ls
    → Does S.whole S.places Onward (pass_steps o rest) 0 [] ls (pass_code m o rest room) (transcode (string_transfer S m) o rest room v) (λ u. []) (λ u ls'. AtPoint used m first u ls')

-- The code of a request of memory does its action, from any point, in front of code that goes on from the point with the new region.
abbrev pub DoesResize : Setting → (ℕ → Bool) → StringMove → (first : Locals) → (align : ℕ) → (from to : Amount) → Type 0
DoesResize S used m first align x y =
    (v : PathPoint) (ls : Locals) (extra : ℕ) (c : List Instr) (k : ℕ → Action PathPoint) → AtPoint used m first v ls
    → ((q : ℕ) (ls' : Locals) → AtPoint used m first (record v { region = q }) ls' → Does S.whole S.places Onward extra 0 [] ls' c (k q) (λ u. []) (λ u ls''. AtPoint used m first u ls''))
    → Does S.whole S.places Onward (resize_steps + extra) 0 [] ls (resize_code m align x y ++ c)
    (reallocate m.concurrency S.to StringOutOfBounds v.region (amount (string_transfer S m) x v) align (amount (string_transfer S m) y v) k) (λ u. []) (λ u ls''. AtPoint used m first u ls'')
