-- The code of strings: the check of the source, and the steps of the path between two forms (`fact_actions`, Paths), by one recursion for
-- every pair of widths of addresses (canonical ABI, "Storing", `store_string_into_range`).
use Rattle.std.specs.Prelude.{ℕ, ◌+◌, ◌-◌, ◌/◌, Bool, true, false, List, [], ◌∷◌, ◌++◌, Option, Some, None, if◌then◌else◌}
use Rattle.fact_wasm.specs.declared.types.FuncType.{FuncType}
use Rattle.fact_wasm.specs.declared.types.ValType.{ValType}
use Rattle.fact_wasm.specs.declared.types.ValType.TheVariants as val
use Rattle.fact_wasm.specs.declared.instr.FuncName.TheVariants as func
use Rattle.fact_wasm.specs.declared.instr.Instr.{Instr}
use Rattle.fact_wasm.specs.declared.instr.Instr.TheVariants as I
use Rattle.fact_types.specs.declared.outside.StringEncoding.{StringEncoding}
use Rattle.fact_types.specs.declared.outside.StringEncoding.TheVariants as string
use Rattle.fact_types.specs.declared.outside.Transcode.{Transcode}
use Rattle.fact_types.specs.declared.outside.Trap.{Trap}
use Rattle.fact_types.specs.declared.outside.Trap.TheVariants.{StringOutOfBounds, UnalignedPointer}
use Rattle.fact_types.specs.Signatures.{address}
use Rattle.fact_values.specs.Texts.{unit_bytes, utf16_tag}
use Rattle.fact_actions.specs.Paths.{Amount, SourceUnits, WrittenUnits, Test, AllRead, WrittenIs, HasNoTag, KeepsUnits, Path, End, Limit, Resize, Pass, If, Tag, Assert, TextForm, AsUtf8, AsUtf16, AsCompactLatin1, AsCompactUtf16, align_of, path}
use Rattle.fact_actions.specs.Strings.{most_string_bytes}
use Rattle.fact_actions.specs.Transcoders.{TranscodeKind, AllUnits, Counted, Fitting, Narrow, Tagged, Widening, transcode_kind, from_encoding, transcode_types}
use Rattle.fact_code_laws.specs.Code.{cases_code, guard_code, scaled_code}
use Rattle.fact_code_laws.specs.Context.{ContextSlots, save_code, restore_code}
use Rattle.fact_code_laws.specs.Lists.{address_code, const_code, put_code}
use Rattle.fact_code_laws.specs.Places.{From, To, narrow, widen, DebugChecks, is_on}
use Rattle.fact_code_laws.specs.Tests.{pointer_of_width, read_into, region_code}

-- ---- what stands in the code of a string's move

-- Locals of type i64: the pointer and the units of the source, how many units are read, the region, what is written, the bytes of the
-- region and of the one before it, and the length of a memory. Numbers of the source are below 2 to the power of the width of the
-- source's addresses, and the region and what is written below that of the destination's.
pub record StringTemporaries : Type 0 where
  pub source : ℕ
  pub units : ℕ
  pub read : ℕ
  pub region : ℕ
  pub written : ℕ
  pub bytes : ℕ
  pub before : ℕ
  pub length : ℕ

-- The memories of both sides, the realloc of the destination, whether the slots of the context are saved around it, where debug checks
-- are on, and the places of the functions of traps and of transcoders between the two memories.
pub record StringMove : Type 0 where
  pub from64 : Bool
  pub from_memory : ℕ
  pub from_log2 : Option ℕ
  pub to64 : Bool
  pub to_memory : ℕ
  pub to_log2 : Option ℕ
  pub realloc : Option ℕ
  pub concurrency : Bool
  pub slots : ContextSlots
  pub checks : DebugChecks
  pub trap : Trap → ℕ
  pub transcoder : Transcode → ℕ
  pub temporaries : StringTemporaries

-- ---- numbers

-- an i64 modulo 2 to the power of the width of addresses
abbrev pub wrap_code : Bool → List Instr
wrap_code true = []
wrap_code false = I.I32WrapI64 ∷ I.I64ExtendI32U ∷ []

-- an i64 as an address
abbrev pub to_address : Bool → List Instr
to_address memory64 = narrow (pointer_of_width memory64) val.I64

-- an address as an i64
abbrev pub from_address : Bool → List Instr
from_address memory64 = widen (pointer_of_width memory64) val.I64

-- so many times what a local holds, modulo the width
abbrev pub times_code : Bool → (factor local : ℕ) → List Instr
times_code memory64 factor local = I.LocalGet local ∷ (scaled_code factor ++ wrap_code memory64)

abbrev pub amount_code : StringMove → Amount → List Instr
amount_code m (SourceUnits factor) = times_code m.to64 factor m.temporaries.units
amount_code m (WrittenUnits factor) = times_code m.to64 factor m.temporaries.written

-- ---- tests, each as an i32 that is not 0 where it holds

-- whether bit 31 of what a local holds is not set
abbrev pub no_tag_code : ℕ → List Instr
no_tag_code local = I.LocalGet local ∷ I.I64Const 31 ∷ I.I64ShrU ∷ I.I64Const 1 ∷ I.I64And ∷ I.I64Eqz ∷ []

abbrev pub test_code : StringMove → Test → List Instr
test_code m AllRead = I.LocalGet m.temporaries.read ∷ I.LocalGet m.temporaries.units ∷ I.I64Eq ∷ []
test_code m (WrittenIs factor) = I.LocalGet m.temporaries.written ∷ (times_code m.to64 factor m.temporaries.units ++ I.I64Eq ∷ [])
test_code m HasNoTag = no_tag_code m.temporaries.written
test_code m KeepsUnits = I.LocalGet m.temporaries.written ∷ I.I64Const (utf16_tag - 1) ∷ I.I64And ∷ I.LocalGet m.temporaries.units ∷ I.I64Eq ∷ []

-- whether so many times the length of the source is no more than the greatest length of a string in bytes
abbrev pub limit_code : (units factor : ℕ) → List Instr
limit_code units factor = I.LocalGet units ∷ I.I64Const (most_string_bytes / factor + 1) ∷ I.I64LtU ∷ []

-- one code or another, by a test
abbrev pub either_code : (test if_true if_false : List Instr) → List Instr
either_code test if_true if_false = cases_code test (0 ∷ []) 1 (if_false ∷ if_true ∷ [])

-- a test of debug checks alone
abbrev pub assert_code : StringMove → Trap → Test → List Instr
assert_code m t test = if is_on m.checks then guard_code (test_code m test) (m.trap t) else []

-- ---- the region

-- realloc of the region, from as many bytes as one local holds to as many as another, where there is one
abbrev pub regrow_code : Option ℕ → (memory64 : Bool) → (region before align bytes : ℕ) → List Instr
regrow_code None memory64 region before align bytes = I.Unreachable ∷ []
regrow_code (Some place) memory64 region before align bytes =
    address_code memory64 region ++ (address_code memory64 before ++ (const_code memory64 align ∷ (address_code memory64 bytes ++ I.Call (func.Import place) ∷ [])))

-- with the slots of the context saved around it; what it answers is checked
abbrev pub resize_code : StringMove → (align : ℕ) → (from to : Amount) → List Instr
resize_code m align x y =
    amount_code m x ++ (I.LocalSet m.temporaries.before ∷ (amount_code m y ++ (I.LocalSet m.temporaries.bytes
    ∷ (save_code m.concurrency m.slots ++ (regrow_code m.realloc m.to64 m.temporaries.region m.temporaries.before align m.temporaries.bytes ++ (restore_code m.concurrency m.slots
    ++ (from_address m.to64 ++ (I.LocalSet m.temporaries.region
    ∷ region_code m.to_memory m.to64 m.to_log2 align m.temporaries.region m.temporaries.bytes m.temporaries.length (m.trap UnalignedPointer) (m.trap StringOutOfBounds)))))))))

-- ---- calls of transcoders

-- The types of what a transcoder is told of the destination: where it begins, and for some the room there, and whether this is the
-- first pass or how many bytes are there.
abbrev pub target_types : TranscodeKind → (to64 : Bool) → List ValType
target_types Fitting to64 = address to64 ∷ address to64 ∷ val.I32 ∷ []
target_types Widening to64 = address to64 ∷ address to64 ∷ address to64 ∷ []
target_types AllUnits to64 = address to64 ∷ []
target_types Counted to64 = address to64 ∷ []
target_types Narrow to64 = address to64 ∷ []
target_types Tagged to64 = address to64 ∷ []

-- the source and its length in code units come first
abbrev pub transcoder_type : Transcode → (from64 to64 : Bool) → FuncType
transcoder_type o from64 to64 = record {
  params = address from64 ∷ address from64 ∷ target_types (transcode_kind o) to64;
  results = transcode_types (transcode_kind o) from64 to64;
}

-- where the source begins, and how many units it has; of the rest, behind those that are read
abbrev pub source_code : StringMove → Transcode → (rest : Bool) → List Instr
source_code m o false = address_code m.from64 m.temporaries.source ++ address_code m.from64 m.temporaries.units
source_code m o true =
    I.LocalGet m.temporaries.source ∷ (times_code m.from64 (unit_bytes (from_encoding o)) m.temporaries.read ++ (I.I64Add ∷ (to_address m.from64
    ++ (I.LocalGet m.temporaries.units ∷ I.LocalGet m.temporaries.read ∷ I.I64Sub ∷ to_address m.from64))))

-- where the destination begins, the room there, and whether this is the first pass or how many bytes are there
abbrev pub target_code : StringMove → TranscodeKind → (rest : Bool) → (room : ℕ) → List Instr
target_code m Fitting false room = address_code m.to64 m.temporaries.region ++ (amount_code m (SourceUnits room) ++ (to_address m.to64 ++ I.I32Const 1 ∷ []))
target_code m Fitting true room =
    I.LocalGet m.temporaries.region ∷ I.LocalGet m.temporaries.written ∷ I.I64Add ∷ (to_address m.to64
    ++ (amount_code m (SourceUnits room) ++ (I.LocalGet m.temporaries.written ∷ I.I64Sub ∷ (to_address m.to64 ++ I.I32Const 0 ∷ []))))
target_code m Widening rest room = address_code m.to64 m.temporaries.region ++ (amount_code m (SourceUnits room) ++ (to_address m.to64 ++ address_code m.to64 m.temporaries.written))
target_code m AllUnits rest room = address_code m.to64 m.temporaries.region
target_code m Counted rest room = address_code m.to64 m.temporaries.region
target_code m Narrow rest room = address_code m.to64 m.temporaries.region
target_code m Tagged rest room = address_code m.to64 m.temporaries.region

-- an answer becomes what a local holds, or is added to it
abbrev pub keep_code : Bool → ℕ → List Instr
keep_code memory64 local = from_address memory64 ++ I.LocalSet local ∷ []

abbrev pub add_to_code : Bool → ℕ → List Instr
add_to_code memory64 local = from_address memory64 ++ (I.LocalGet local ∷ I.I64Add ∷ (wrap_code memory64 ++ I.LocalSet local ∷ []))

-- what is read and written, by what a transcoder answers: the last answer stands on top
abbrev pub answer_code : StringMove → TranscodeKind → (rest : Bool) → List Instr
answer_code m AllUnits rest = I.LocalGet m.temporaries.units ∷ I.LocalSet m.temporaries.written ∷ []
answer_code m Fitting true = add_to_code m.to64 m.temporaries.written ++ add_to_code m.from64 m.temporaries.read
answer_code m Fitting false = keep_code m.to64 m.temporaries.written ++ keep_code m.from64 m.temporaries.read
answer_code m Narrow rest = keep_code m.to64 m.temporaries.written ++ keep_code m.from64 m.temporaries.read
answer_code m Counted rest = keep_code m.to64 m.temporaries.written
answer_code m Tagged rest = keep_code m.to64 m.temporaries.written
answer_code m Widening rest = keep_code m.to64 m.temporaries.written

abbrev pub pass_code : StringMove → Transcode → (rest : Bool) → (room : ℕ) → List Instr
pass_code m o rest room =
    source_code m o rest ++ (target_code m (transcode_kind o) rest room ++ (I.Call (func.Import (m.transcoder o)) ∷ answer_code m (transcode_kind o) rest))

-- the tag of UTF-16 in what is written
abbrev pub tag_written_code : StringMove → List Instr
tag_written_code m = I.LocalGet m.temporaries.written ∷ I.I64Const utf16_tag ∷ I.I64Or ∷ I.LocalSet m.temporaries.written ∷ []

-- ---- paths

-- the steps of a path, to a text that is written with an alignment
abbrev pub path_code : StringMove → (align : ℕ) → Path → List Instr
path_code m align End = []
path_code m align (Limit factor p) = guard_code (limit_code m.temporaries.units factor) (m.trap StringOutOfBounds) ++ path_code m align p
path_code m align (Resize x y p) = resize_code m align x y ++ path_code m align p
path_code m align (Pass o rest room p) = pass_code m o rest room ++ path_code m align p
path_code m align (If test q r p) = either_code (test_code m test) (path_code m align q) (path_code m align r) ++ path_code m align p
path_code m align (Tag p) = tag_written_code m ++ path_code m align p
path_code m align (Assert t test p) = assert_code m t test ++ path_code m align p

-- ---- whole texts

-- the bytes of a code unit of a text at its source, and its alignment
abbrev pub bytes_of_form : TextForm → ℕ
bytes_of_form AsUtf8 = 1
bytes_of_form AsUtf16 = 2
bytes_of_form AsCompactLatin1 = 1
bytes_of_form AsCompactUtf16 = 2

abbrev pub align_of_form : TextForm → ℕ
align_of_form AsUtf8 = 1
align_of_form AsUtf16 = 2
align_of_form AsCompactLatin1 = 2
align_of_form AsCompactUtf16 = 2

-- the check of a source, whose bytes are taken modulo the width of its addresses
abbrev pub check_text_code : StringMove → TextForm → List Instr
check_text_code m f =
    times_code m.from64 (bytes_of_form f) m.temporaries.units ++ (I.LocalSet m.temporaries.bytes
    ∷ region_code m.from_memory m.from64 m.from_log2 (align_of_form f) m.temporaries.source m.temporaries.bytes m.temporaries.length (m.trap UnalignedPointer) (m.trap StringOutOfBounds))

-- nothing is read, there is no region, and nothing is written
abbrev pub begin_path_code : StringMove → List Instr
begin_path_code m = I.I64Const 0 ∷ I.LocalSet m.temporaries.read ∷ I.I64Const 0 ∷ I.LocalSet m.temporaries.region ∷ I.I64Const 0 ∷ I.LocalSet m.temporaries.written ∷ []

-- a text of a form goes to a region in an encoding
abbrev pub text_code : StringMove → TextForm → StringEncoding → List Instr
text_code m f to = check_text_code m f ++ (begin_path_code m ++ path_code m (align_of to) (path f to))

-- the tag of UTF-16 is taken off the units of the source
abbrev pub untag_code : ℕ → List Instr
untag_code units = I.LocalGet units ∷ I.I64Const utf16_tag ∷ I.I64Sub ∷ I.LocalSet units ∷ []

-- a text of an encoding: in the compact form it is UTF-16 where the length has the tag, and else Latin-1
abbrev pub encoded_code : StringMove → (from to : StringEncoding) → List Instr
encoded_code m string.Utf8 to = text_code m AsUtf8 to
encoded_code m string.Utf16 to = text_code m AsUtf16 to
encoded_code m string.CompactUtf16 to = either_code (no_tag_code m.temporaries.units) (text_code m AsCompactLatin1 to) (untag_code m.temporaries.units ++ text_code m AsCompactUtf16 to)

-- the pointer and the length are read, the text goes to its region, and the region and what is written are put in their places
abbrev pub string_code : StringMove → (from to : StringEncoding) → (pointer1 length1 : From) → (pointer2 length2 : To) → List Instr
string_code m from to pointer1 length1 pointer2 length2 =
    read_into m.checks m.from64 pointer1 m.temporaries.source ++ (read_into m.checks m.from64 length1 m.temporaries.units
    ++ (encoded_code m from to ++ (put_code m.to64 m.temporaries.region pointer2 ++ put_code m.to64 m.temporaries.written length2)))
