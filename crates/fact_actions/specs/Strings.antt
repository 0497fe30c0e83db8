-- Moving a text: what the steps of a path come to (canonical ABI, "Loading", `load_string_from_range`, and "Storing",
-- `store_string_into_range`).
use Rattle.std.specs.Prelude.{ℕ, ◌+◌, ◌*◌, ◌-◌, ◌/◌, ◌%◌, ◌^◌, Bool, true, false, List, [], ◌∷◌, ◌++◌, drop, nat_eq, nat_le, not, bit_or, if◌then◌else◌}
use Rattle.fact_types.specs.declared.outside.StringEncoding.{StringEncoding}
use Rattle.fact_types.specs.declared.outside.StringEncoding.TheVariants as string
use Rattle.fact_types.specs.declared.outside.Transcode.{Transcode}
use Rattle.fact_types.specs.declared.outside.Trap.{Trap}
use Rattle.fact_types.specs.declared.outside.Trap.TheVariants.{StringOutOfBounds}
use Rattle.fact_types.specs.Adapters.{is_wide}
use Rattle.fact_machine.specs.declared.types.CoreValue.{CoreValue}
use Rattle.fact_machine.specs.declared.types.CoreValue.TheVariants.{I32}
use Rattle.fact_types.specs.declared.import.Import.TheVariants as import
use Rattle.fact_machine.specs.Typing.{address_bits}
use Rattle.fact_values.specs.Texts.{unit_bytes, Form, has_tag, form_of, byte_length}
use Rattle.fact_actions.specs.Actions.{Action, Give, Ask, ◌>>=◌, unless}
use Rattle.fact_actions.specs.Sides.{LiftLowerOptions, Transfer, Source, Target, address_value, wrap, first_bits, with_memory, check_region, reallocate, read_pair, write_pair}
use Rattle.fact_actions.specs.Transcoders.{TranscodeKind, AllUnits, Counted, Fitting, Narrow, Tagged, Widening, transcode_kind, from_encoding, transcode_types}
use Rattle.fact_actions.specs.Paths.{Amount, SourceUnits, WrittenUnits, Test, AllRead, WrittenIs, HasNoTag, KeepsUnits, Path, End, Limit, Resize, Pass, If, Tag, Assert, TextForm, AsUtf8, AsUtf16, AsCompactLatin1, AsCompactUtf16, align_of, path}

-- Where a path stands: the source's pointer and length, how many of its units are read, the region, and what is written, in
-- code units of the destination.
pub record PathPoint : Type 0 where
  pub source : ℕ
  pub length : ℕ
  pub read : ℕ
  pub region : ℕ
  pub written : ℕ

abbrev pub path_start : (source length : ℕ) → PathPoint
path_start p n = record { source = p; length = n; read = 0; region = 0; written = 0 }

-- the difference modulo the width of addresses
abbrev pub minus : LiftLowerOptions → ℕ → ℕ → ℕ
minus o m n = wrap o (m + (2 ^ address_bits (is_wide o.memory) - n))

-- Numbers of the source are modulo the width of the source's addresses, all others modulo that of the destination's.
abbrev pub amount : Transfer → Amount → PathPoint → ℕ
amount tr (SourceUnits c) v = wrap tr.to (c * v.length)
amount tr (WrittenUnits c) v = wrap tr.to (c * v.written)

abbrev pub holds : Transfer → Test → PathPoint → Bool
holds tr AllRead v = nat_eq v.read v.length
holds tr (WrittenIs c) v = nat_eq v.written (wrap tr.to (c * v.length))
holds tr HasNoTag v = not (has_tag v.written)
holds tr KeepsUnits v = nat_eq (v.written % 2 ^ 31) v.length

-- with the tag of UTF-16
abbrev pub with_tag : PathPoint → PathPoint
with_tag v = record v { written = bit_or v.written (2 ^ 31) }

-- ---- transcoders

-- what a transcoder is told of the source: where it begins, and how many units it has
abbrev pub source_args : Transfer → Transcode → (rest : Bool) → PathPoint → List CoreValue
source_args tr o false v = address_value tr.from v.source ∷ address_value tr.from v.length ∷ []
source_args tr o true v =
    address_value tr.from (wrap tr.from (v.source + unit_bytes (from_encoding o) * v.read)) ∷ address_value tr.from (minus tr.from v.length v.read) ∷ []

-- what it is told of the destination: where it begins, the room there, and whether this is the first pass or how many bytes
-- are there
abbrev pub target_args : Transfer → TranscodeKind → (rest : Bool) → (room : ℕ) → PathPoint → List CoreValue
target_args tr Fitting false room v = address_value tr.to v.region ∷ address_value tr.to (amount tr (SourceUnits room) v) ∷ I32 1 ∷ []
target_args tr Fitting true room v =
    address_value tr.to (wrap tr.to (v.region + v.written)) ∷ address_value tr.to (minus tr.to (amount tr (SourceUnits room) v) v.written) ∷ I32 0 ∷ []
target_args tr Widening rest room v = address_value tr.to v.region ∷ address_value tr.to (amount tr (SourceUnits room) v) ∷ address_value tr.to v.written ∷ []
target_args tr AllUnits rest room v = address_value tr.to v.region ∷ []
target_args tr Counted rest room v = address_value tr.to v.region ∷ []
target_args tr Narrow rest room v = address_value tr.to v.region ∷ []
target_args tr Tagged rest room v = address_value tr.to v.region ∷ []

-- where a path stands behind a transcoder's answer
abbrev pub passed : Transfer → TranscodeKind → (rest : Bool) → List CoreValue → PathPoint → PathPoint
passed tr AllUnits rest rs v = record v { written = v.length }
passed tr Fitting false rs v = record v { read = first_bits rs; written = first_bits (drop 1 rs) }
passed tr Fitting true rs v = record v { read = wrap tr.from (v.read + first_bits rs); written = wrap tr.to (v.written + first_bits (drop 1 rs)) }
passed tr Narrow rest rs v = record v { read = first_bits rs; written = first_bits (drop 1 rs) }
passed tr Counted rest rs v = record v { written = first_bits rs }
passed tr Tagged rest rs v = record v { written = first_bits rs }
passed tr Widening rest rs v = record v { written = first_bits rs }

abbrev pub transcode : Transfer → Transcode → (rest : Bool) → (room : ℕ) → PathPoint → Action PathPoint
transcode tr o rest room v =
    with_memory tr.from (λ m. with_memory tr.to (λ n.
    Ask (import.Transcode o m.def m.memory64 n.def n.memory64)
    (source_args tr o rest v ++ target_args tr (transcode_kind o) rest room v)
    (transcode_types (transcode_kind o) m.memory64 n.memory64)
    (λ rs. Give (passed tr (transcode_kind o) rest rs v))))

-- ---- paths

-- the greatest length of a string in bytes
abbrev pub most_string_bytes : ℕ
most_string_bytes = 2147483647

abbrev pub asserted : {A : Type 0} → (debug : Bool) → Trap → Bool → Action A → Action A
asserted false t b p = p
asserted true t b p = unless t b p

abbrev pub choose_action : {A : Type 0} → Bool → (if_true if_false : Action A) → Action A
choose_action true p q = p
choose_action false p q = q

abbrev pub walk : Transfer → Path → PathPoint → Action PathPoint
walk tr End v = Give v
walk tr (Limit factor p) v = unless StringOutOfBounds (nat_le v.length (most_string_bytes / factor)) (walk tr p v)
walk tr (Resize x y p) v =
    reallocate tr.concurrency tr.to StringOutOfBounds v.region (amount tr x v) (align_of tr.to.encoding) (amount tr y v) (λ q. walk tr p (record v { region = q }))
walk tr (Pass o rest room p) v = transcode tr o rest room v >>= (λ u. walk tr p u)
walk tr (If test q r p) v = choose_action (holds tr test v) (walk tr q v) (walk tr r v) >>= (λ u. walk tr p u)
walk tr (Tag p) v = walk tr p (with_tag v)
walk tr (Assert t test p) v = asserted tr.debug t (holds tr test v) (walk tr p v)

-- ---- whole texts

-- the form of a text, by its encoding and the length that is given
abbrev pub form_in : StringEncoding → (length : ℕ) → TextForm
form_in string.Utf8 n = AsUtf8
form_in string.Utf16 n = AsUtf16
form_in string.CompactUtf16 n = if has_tag n then AsCompactUtf16 else AsCompactLatin1

-- The source of a text is checked. Its bytes may wrap, and then there are more units than the limit that follows lets pass.
abbrev pub check_text : {A : Type 0} → LiftLowerOptions → Form → (pointer : ℕ) → Action A → Action A
check_text o f p k = check_region o StringOutOfBounds p (wrap o (byte_length f)) f.align k

abbrev pub move_string : Transfer → Source → Target → Action (List CoreValue)
move_string tr s d =
    read_pair tr.debug tr.from s (λ p n.
    let form = form_of tr.from.encoding n in
    check_text tr.from form p (
    walk tr (path (form_in tr.from.encoding n) tr.to.encoding) (path_start p form.units) >>= (λ v. write_pair tr.to d v.region v.written)))
