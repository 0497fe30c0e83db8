-- The printed lines of what a module imports.
use Rattle.std.specs.Prelude.{ℕ, Bool, List, [], ◌∷◌, ◌++◌, Option, Some, None, codes, if◌then◌else◌}
use Rattle.std.specs.List.{flat_map}
use Rattle.std.specs.Fmt.{decimal}
use Rattle.hex.specs.Hex.{encode_lower}
use Rattle.fact_types.specs.declared.outside.CoreDef.{CoreDef}
use Rattle.fact_types.specs.declared.outside.CoreDef.TheVariants as def
use Rattle.fact_types.specs.declared.import.Import.{Import}
use Rattle.fact_types.specs.declared.import.Import.TheVariants as known
use Rattle.fact_types.specs.TranscoderNames.{transcode_name}
use Rattle.fact_emit.specs.Runtime.{slot_name, trap_number}

-- a core definition: an export by its instance and its name in lower-case hex
abbrev pub def_text : CoreDef → List ℕ
def_text (def.Export i name) = codes "export " ++ (decimal i.number ++ (codes " " ++ encode_lower name))
def_text (def.InstanceFlags i) = codes "instance-flags " ++ decimal i.number
def_text (def.Trampoline i) = codes "trampoline " ++ decimal i.number

abbrev pub optional_text : Option CoreDef → List ℕ
optional_text None = codes "none"
optional_text (Some d) = def_text d

-- the width of a memory's pointers in bits
abbrev pub width_text : Bool → List ℕ
width_text wide = if wide then codes "64" else codes "32"

-- a memory, behind the width of its pointers
abbrev pub memory_text : Bool → CoreDef → List ℕ
memory_text wide d = width_text wide ++ (codes " " ++ def_text d)

-- an import, by what it stands for
abbrev pub import_text : Import → List ℕ
import_text (known.CoreDef d) = codes "core-def " ++ def_text d
import_text (known.Transcode how from from64 to to64) =
    codes "transcode " ++ (transcode_name how ++ (codes " " ++ (memory_text from64 from ++ (codes " " ++ memory_text to64 to))))
import_text known.ResourceTransferOwn = codes "resource-transfer-own"
import_text known.ResourceTransferBorrow = codes "resource-transfer-borrow"
import_text (known.PrepareCall memory) = codes "prepare-call " ++ optional_text memory
import_text (known.StartCall callback post_return) = codes "start-call " ++ (optional_text callback ++ (codes " " ++ optional_text post_return))
import_text known.FutureTransfer = codes "future-transfer"
import_text known.StreamTransfer = codes "stream-transfer"
import_text known.ErrorContextTransfer = codes "error-context-transfer"
import_text (known.Trap t) = codes "trap " ++ decimal (trap_number t)
import_text known.EnterSyncCall = codes "enter-sync-call"
import_text known.ExitSyncCall = codes "exit-sync-call"
import_text (known.UnsafeIntrinsic i) = codes "unsafe-intrinsic " ++ slot_name i

abbrev pub import_line : Import → List ℕ
import_line i = import_text i ++ 10 ∷ []

-- one line an import, in order
abbrev pub import_lines : List Import → List ℕ
import_lines is = flat_map import_line is
