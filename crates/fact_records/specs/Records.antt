-- What the record of an import says, with the texts that it points into.
use Rattle.std.specs.Prelude.{◌≡◌, ℕ, Bool, List, Option, Some, None, if◌then◌else◌}
use Rattle.fact_wasm.specs.declared.module.WasmImport.{WasmImport}
use Rattle.fact_types.specs.declared.outside.CoreDef.{CoreDef}
use Rattle.fact_types.specs.declared.outside.CoreDef.TheVariants as def
use Rattle.fact_types.specs.declared.outside.FixedEncoding.TheVariants.{Utf8, Utf16, Latin1}
use Rattle.fact_types.specs.declared.outside.Transcode.{Transcode}
use Rattle.fact_types.specs.declared.outside.Transcode.TheVariants as op
use Rattle.fact_types.specs.declared.outside.UnsafeIntrinsic.{UnsafeIntrinsic}
use Rattle.fact_types.specs.declared.outside.UnsafeIntrinsic.TheVariants as slot
use Rattle.fact_types.specs.declared.import.Import.{Import}
use Rattle.fact_types.specs.declared.import.Import.TheVariants as known
use Rattle.fact_emit.specs.Runtime.{trap_number}
use Rattle.fact_command.specs.ImportLines.{import_line}
use Rattle.fact_records.specs.declared.definitions.Definition.{Definition}
use Rattle.fact_records.specs.declared.records.ImportRecord.{ImportRecord}
use Rattle.fact_records.specs.Texts.{HasTextAt}

-- ---- definitions

-- in place of a definition where there is none
abbrev pub nothing : Definition
nothing = record { kind = 0; number = 0; width = 0; name = record { at = 0; size = 0 } }

-- how many bits the addresses of a memory have
abbrev pub width_of : Bool → ℕ
width_of wide = if wide then 64 else 32

-- an export, by the number of its core instance, and by its name, which stands in the text
pub record TellsExport (text : List ℕ) (bits instance : ℕ) (called : List ℕ) (d : Definition) : Type 0 where
  pub kind : d.kind ≡ 1
  pub number : d.number ≡ instance
  pub width : d.width ≡ bits
  pub name : HasTextAt text d.name called

-- a definition, and of a memory how many bits its addresses have
abbrev pub TellsDef : (text : List ℕ) (width : ℕ) → CoreDef → Definition → Type 0
TellsDef text width (def.Export i name) d = TellsExport text width i.number name d
TellsDef text width (def.InstanceFlags i) d = d ≡ record nothing { kind = 2; number = i.number; width = width }
TellsDef text width (def.Trampoline t) d = d ≡ record nothing { kind = 3; number = t.number; width = width }

abbrev pub TellsOptional : (text : List ℕ) → Option CoreDef → Definition → Type 0
TellsOptional text None d = d ≡ nothing
TellsOptional text (Some x) d = TellsDef text 0 x d

-- ---- imports

-- what an import stands for
abbrev pub kind_of : Import → ℕ
kind_of (known.CoreDef d) = 0
kind_of (known.Transcode how from from64 to to64) = 1
kind_of known.ResourceTransferOwn = 2
kind_of known.ResourceTransferBorrow = 3
kind_of (known.PrepareCall memory) = 4
kind_of (known.StartCall callback post_return) = 5
kind_of known.FutureTransfer = 6
kind_of known.StreamTransfer = 7
kind_of known.ErrorContextTransfer = 8
kind_of (known.Trap t) = 9
kind_of known.EnterSyncCall = 10
kind_of known.ExitSyncCall = 11
kind_of (known.UnsafeIntrinsic i) = 12

-- what a transcoder does
abbrev pub transcode_number : Transcode → ℕ
transcode_number (op.Copy Utf8) = 0
transcode_number (op.Copy Utf16) = 1
transcode_number (op.Copy Latin1) = 2
transcode_number op.Latin1ToUtf16 = 3
transcode_number op.Utf8ToUtf16 = 4
transcode_number op.Utf16ToUtf8 = 5
transcode_number op.Latin1ToUtf8 = 6
transcode_number op.Utf8ToLatin1 = 7
transcode_number op.Utf16ToLatin1 = 8
transcode_number op.Utf8ToCompactUtf16 = 9
transcode_number op.Utf16ToCompactUtf16 = 10
transcode_number op.Utf16ToCompactProbablyUtf16 = 11

-- which slot of the context is read or written
abbrev pub slot_number : UnsafeIntrinsic → ℕ
slot_number slot.ContextGetI32_0 = 0
slot_number slot.ContextGetI32_1 = 1
slot_number slot.ContextSetI32_0 = 2
slot_number slot.ContextSetI32_1 = 3

-- what an import does, of those of one kind that do one of several things
abbrev pub operation_of : Import → ℕ
operation_of (known.CoreDef d) = 0
operation_of (known.Transcode how from from64 to to64) = transcode_number how
operation_of known.ResourceTransferOwn = 0
operation_of known.ResourceTransferBorrow = 0
operation_of (known.PrepareCall memory) = 0
operation_of (known.StartCall callback post_return) = 0
operation_of known.FutureTransfer = 0
operation_of known.StreamTransfer = 0
operation_of known.ErrorContextTransfer = 0
operation_of (known.Trap t) = trap_number t
operation_of known.EnterSyncCall = 0
operation_of known.ExitSyncCall = 0
operation_of (known.UnsafeIntrinsic i) = slot_number i

-- the definitions that an import names: of a transcoder the memory that it reads and the one that it writes, of a start-call the
-- callback and the post-return
abbrev pub TellsBoth : (text : List ℕ) → Import → (first second : Definition) → Type 0
TellsBoth text (known.CoreDef x) first second = TellsDef text 0 x first × (second ≡ nothing)
TellsBoth text (known.Transcode how from from64 to to64) first second = TellsDef text (width_of from64) from first × TellsDef text (width_of to64) to second
TellsBoth text known.ResourceTransferOwn first second = (first ≡ nothing) × (second ≡ nothing)
TellsBoth text known.ResourceTransferBorrow first second = (first ≡ nothing) × (second ≡ nothing)
TellsBoth text (known.PrepareCall memory) first second = TellsOptional text memory first × (second ≡ nothing)
TellsBoth text (known.StartCall callback post_return) first second = TellsOptional text callback first × TellsOptional text post_return second
TellsBoth text known.FutureTransfer first second = (first ≡ nothing) × (second ≡ nothing)
TellsBoth text known.StreamTransfer first second = (first ≡ nothing) × (second ≡ nothing)
TellsBoth text known.ErrorContextTransfer first second = (first ≡ nothing) × (second ≡ nothing)
TellsBoth text (known.Trap t) first second = (first ≡ nothing) × (second ≡ nothing)
TellsBoth text known.EnterSyncCall first second = (first ≡ nothing) × (second ≡ nothing)
TellsBoth text known.ExitSyncCall first second = (first ≡ nothing) × (second ≡ nothing)
TellsBoth text (known.UnsafeIntrinsic i) first second = (first ≡ nothing) × (second ≡ nothing)

-- The record has what the import stands for, and the line that `factc --imports` prints of it, with its newline.
pub record Means (text : List ℕ) (r : ImportRecord) (i : Import) : Type 0 where
  pub kind : r.kind ≡ kind_of i
  pub operation : r.operation ≡ operation_of i
  pub both : TellsBoth text i r.first r.second
  pub line : HasTextAt text r.line (import_line i)

-- It has the two names of the import.
pub record Names (text : List ℕ) (r : ImportRecord) (w : WasmImport) : Type 0 where
  pub origin : HasTextAt text r.module w.module
  pub own : HasTextAt text r.name w.name
