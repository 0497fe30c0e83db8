-- The code of strings as the writing functions put it, between the memories of two sides.
use Rattle.std.specs.Prelude.{◌≡◌, ℕ, ◌<◌, true, List, [], ◌∷◌, length}
use Rattle.fact_wasm.specs.declared.types.ValType.{ValType}
use Rattle.fact_wasm.specs.declared.types.ValType.TheVariants as val
use Rattle.fact_wasm.specs.declared.instr.Instr.{Instr}
use Rattle.fact_wasm.specs.declared.module.WasmModule.{WasmModule}
use Rattle.fact_types.specs.declared.outside.CoreDef.{CoreDef}
use Rattle.fact_types.specs.declared.outside.Transcode.{Transcode}
use Rattle.fact_types.specs.declared.outside.Trap.{Trap}
use Rattle.fact_types.specs.declared.import.Import.TheVariants as import
use Rattle.fact_actions.specs.Running.{ImportPlaces}
use Rattle.fact_code_laws.specs.Places.{From, Slot, To, is_on}
use Rattle.fact_code_laws.specs.StringCode.{StringMove, string_code}
use Rattle.fact_code_laws.specs.StringNeeds.{Needs, NeedsEncoded, NeedsTrap}
use Rattle.fact_code_laws.specs.Tests.{pointer_of_width}
use Rattle.fact_emit.specs.declared.places.LinearMemory.{LinearMemory}
use Rattle.fact_emit.specs.declared.places.Sides.{Sides}
use Rattle.fact_emit.specs.declared.string_locals.StringLocals.{StringLocals}
use Rattle.fact_emit.specs.declared.transcoders.Transcoder.{Transcoder}
use Rattle.fact_emit.specs.declared.writer.Writer.{Writer}
use Rattle.fact_emit.specs.ImportSection.{HasMemoryWidth}
use Rattle.fact_emit.specs.Numbers.{HasUpperAt}
use Rattle.fact_emit.specs.Pairs.{length_from, length_to}
use Rattle.fact_emit.specs.Places.{checks_at}
use Rattle.fact_emit.specs.Requests.{IsReallocImported}
use Rattle.fact_emit.specs.RuntimeCalls.{slots_of}
use Rattle.fact_emit.specs.States.{ModuleSoFar, memories_of}
use Rattle.fact_emit.specs.Writers.{Wrote}

-- ---- the sides

-- a side's memory, where it has one, is among the memories that were imported
pub record IsMemoryImported (m : LinearMemory) (s : ModuleSoFar) : Type 0 where
  pub below : m.has_memory ≡ true → m.memory < length (memories_of s)

-- it has addresses of the width that code takes them to have
pub record IsMemoryWide (m : LinearMemory) (s : ModuleSoFar) : Type 0 where
  pub wide : m.has_memory ≡ true → HasMemoryWidth s.section m.memory m.memory64

-- What code of moves between two sides calls and names is imported.
pub record AreSidesImported (sides : Sides) (s : ModuleSoFar) : Type 0 where
  pub realloc : IsReallocImported sides.to s
  pub from_memory : IsMemoryImported sides.from s
  pub to_memory : IsMemoryImported sides.to s
  pub from_wide : IsMemoryWide sides.from s
  pub to_wide : IsMemoryWide sides.to s

-- ---- the locals

-- the locals of a string, and their types
abbrev pub string_slots : StringLocals → List Slot
string_slots l =
    (l.source, val.I64) ∷ (l.units, val.I64) ∷ (l.read, val.I64) ∷ (l.region, val.I64) ∷ (l.written, val.I64) ∷ (l.bytes, val.I64) ∷ (l.before, val.I64) ∷ (l.length, val.I64)
    ∷ (l.context.first, val.I32) ∷ (l.context.second, val.I32) ∷ []

abbrev pub string_numbers : StringLocals → List ℕ
string_numbers l = l.source ∷ l.units ∷ l.read ∷ l.region ∷ l.written ∷ l.bytes ∷ l.before ∷ l.length ∷ l.context.first ∷ l.context.second ∷ []

-- ---- the code

-- A string's move between the memories of two definitions, in a module whose imports have these places.
abbrev pub string_move : Sides → StringLocals → ImportPlaces → (from to : CoreDef) → StringMove
string_move sides l p d e = record {
  from64 = sides.from.memory64;
  from_memory = sides.from.memory;
  from_log2 = sides.from.page_size_log2;
  to64 = sides.to.memory64;
  to_memory = sides.to.memory;
  to_log2 = sides.to.page_size_log2;
  realloc = sides.to.realloc;
  concurrency = sides.concurrency;
  slots = slots_of p l.context;
  checks = checks_at sides.debug p;
  trap = λ t. p.function (import.Trap t);
  transcoder = λ o. p.function (import.Transcode o d sides.from.memory64 e sides.to.memory64);
  temporaries = record { source = l.source; units = l.units; read = l.read; region = l.region; written = l.written; bytes = l.bytes; before = l.before; length = l.length };
}

-- Both sides have memories, and these are their definitions.
pub record HaveMemories (sides : Sides) (p : ImportPlaces) (from to : CoreDef) : Type 0 where
  pub from_there : sides.from.has_memory ≡ true
  pub to_there : sides.to.has_memory ≡ true
  pub from_place : p.memory from ≡ sides.from.memory
  pub to_place : p.memory to ≡ sides.to.memory

-- what two pieces of code call
abbrev pub NeedsBoth : Needs → Needs → Needs
NeedsBoth N O m M p d e = N m M p d e × O m M p d e

-- a test of debug checks calls its trap where they are on
abbrev pub NeedsTrapIf : Trap → Needs
NeedsTrapIf t m M p d e = is_on m.checks ≡ true → NeedsTrap t m M p d e

-- The code of a part of a string's move, wherever both sides have memories; and the functions that it calls are there.
pub record StringPiece (sides : Sides) (l : StringLocals) (part : StringMove → List Instr) (needs : Needs) (M : WasmModule) (p : ImportPlaces) (locals : List ValType) (code : List Instr) : Type 0 where
  pub is : (d e : CoreDef) → HaveMemories sides p d e → code ≡ part (string_move sides l p d e)
  pub has : (d e : CoreDef) → HaveMemories sides p d e → needs (string_move sides l p d e) M p d e

-- Code was put there that calls no function: this part, wherever the module's imports stand.
abbrev pub WroteStringPart : (sides : Sides) → StringLocals → (part : StringMove → List Instr) → (old new : Writer) → Type 0
WroteStringPart sides l part old new = (p : ImportPlaces) (d e : CoreDef) → Wrote old new (part (string_move sides l p d e))

-- Code that was written aside is this part, wherever the module's imports stand.
pub record IsPart (sides : Sides) (l : StringLocals) (part : StringMove → List Instr) (code : List Instr) : Type 0 where
  pub is : (p : ImportPlaces) (d e : CoreDef) → code ≡ part (string_move sides l p d e)

-- a transcoder between the memories of both sides, by their places
abbrev pub transcoder_between : Sides → Transcode → Transcoder
transcoder_between sides o = record {
  from_memory = record { table = _; number = sides.from.memory };
  from_memory64 = sides.from.memory64;
  to_memory = record { table = _; number = sides.to.memory };
  to_memory64 = sides.to.memory64;
  op = o;
}

-- The whole code of a string's move. The functions that it calls are there.
pub record WroteString (sides : Sides) (l : StringLocals) (src : From) (dst : To) (M : WasmModule) (p : ImportPlaces) (locals : List ValType) (code : List Instr) : Type 0 where
  pub has_pointer : HasUpperAt M p (checks_at sides.debug p) (pointer_of_width sides.from.memory64) src
  pub has_length : HasUpperAt M p (checks_at sides.debug p) (pointer_of_width sides.from.memory64) (length_from sides.from.memory64 src)
  pub is : (d e : CoreDef) → HaveMemories sides p d e
      → code ≡ string_code (string_move sides l p d e) sides.from.encoding sides.to.encoding src (length_from sides.from.memory64 src) dst (length_to sides.to.memory64 dst)
  pub has : (d e : CoreDef) → HaveMemories sides p d e → NeedsEncoded sides.from.encoding sides.to.encoding (string_move sides l p d e) M p d e
