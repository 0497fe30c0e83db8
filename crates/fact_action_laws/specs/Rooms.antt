-- How many bytes the regions take that values ask for, each with its alignment: by what stands at their source, and by the values (canonical
-- ABI, "Storing").
use Rattle.std.specs.Prelude.{ℕ, ◌+◌, ◌*◌, ◌≤◌, Bool, true, false, nat_le, List, [], ◌∷◌, length, if◌then◌else◌}
use Rattle.fact_types.specs.declared.outside.StringEncoding.{StringEncoding}
use Rattle.fact_actions.specs.Paths.{Amount, SourceUnits, WrittenUnits, Path, End, Limit, Resize, Pass, If, Tag, Assert, align_of, path}
use Rattle.fact_machine.specs.declared.types.CoreValue.{CoreValue}
use Rattle.fact_actions.specs.Requests.{Request, RequestPart, RegionPart, TextPart}
use Rattle.fact_actions.specs.Sides.{Transfer, first_bits}
use Rattle.fact_actions.specs.Strings.{PathPoint, path_start, amount, holds, with_tag, passed}
use Rattle.fact_actions.specs.Transcoders.{transcode_kind}
use Rattle.fact_action_laws.specs.Items.{ValueItem, HandleItem, RegionItem, TextItem}

-- A region that is asked for by the units of the source, so many. One that is cut to what was written takes nothing more.
abbrev pub region_bytes : (align : ℕ) → Amount → (units : ℕ) → ℕ
region_bytes align (SourceUnits k) n = align + k * n
region_bytes align (WrittenUnits k) n = 0

-- Those along a path, on both of its ways where it parts.
abbrev pub path_bytes : (align : ℕ) → Path → (units : ℕ) → ℕ
path_bytes align End n = 0
path_bytes align (Limit factor p) n = path_bytes align p n
path_bytes align (Resize x y p) n = region_bytes align y n + path_bytes align p n
path_bytes align (Pass o rest room p) n = path_bytes align p n
path_bytes align (If test q r p) n = path_bytes align q n + (path_bytes align r n + path_bytes align p n)
path_bytes align (Tag p) n = path_bytes align p n
path_bytes align (Assert t test p) n = path_bytes align p n

-- What the parts of values take, of which texts go to an encoding.
abbrev pub part_bytes : StringEncoding → RequestPart → ℕ
part_bytes to (RegionPart align size) = align + size
part_bytes to (TextPart form pointer units) = path_bytes (align_of to) (path form to) units

abbrev pub parts_bytes : StringEncoding → List RequestPart → ℕ
parts_bytes to [] = 0
parts_bytes to (x ∷ xs) = part_bytes to x + parts_bytes to xs

-- What values take on their way: a text 8 bytes, and 16 for each scalar value.
abbrev pub item_bytes : ValueItem → ℕ
item_bytes (HandleItem x) = 0
item_bytes (RegionItem align size) = align + size
item_bytes (TextItem chars) = 8 + 16 * length chars

abbrev pub items_bytes : List ValueItem → ℕ
items_bytes [] = 0
items_bytes (i ∷ is) = item_bytes i + items_bytes is

-- ---- requests

-- What a request takes: nothing where it is for no more bytes than the region had.
abbrev pub request_bytes : Request → ℕ
request_bytes r = if nat_le r.new_size r.old_size then 0 else r.align + r.new_size

abbrev pub requests_bytes : List Request → ℕ
requests_bytes [] = 0
requests_bytes (r ∷ rs) = request_bytes r + requests_bytes rs

-- A region that is cut to what was written does not grow.
abbrev pub DoesNotGrow : Amount → (from to : ℕ) → Type 0
DoesNotGrow (SourceUnits k) from to = Unit {0}
DoesNotGrow (WrittenUnits k) from to = to ≤ from

-- What holds of the next answer and of those behind it, where there is one.
abbrev pub OfNext : List (List CoreValue) → (List CoreValue → List (List CoreValue) → Type 0) → Type 0
OfNext [] K = Unit {0}
OfNext (rs ∷ more) K = K rs more

abbrev pub OfEither : Bool → (IfTrue IfFalse : Type 0) → Type 0
OfEither true P Q = P
OfEither false P Q = Q

-- So it is with each that a path cuts by these answers, and something holds where the path ends.
abbrev pub CutsShrink : Transfer → Path → PathPoint → (answers : List (List CoreValue)) → (PathPoint → List (List CoreValue) → Type 0) → Type 0
CutsShrink tr End v answers K = K v answers
CutsShrink tr (Limit factor p) v answers K = CutsShrink tr p v answers K
CutsShrink tr (Resize x y p) v answers K = DoesNotGrow y (amount tr x v) (amount tr y v) × OfNext answers (λ rs more. CutsShrink tr p (record v { region = first_bits rs }) more K)
CutsShrink tr (Pass o rest room p) v answers K = OfNext answers (λ rs more. CutsShrink tr p (passed tr (transcode_kind o) rest rs v) more K)
CutsShrink tr (If test q r p) v answers K =
    OfEither (holds tr test v) (CutsShrink tr q v answers (λ u more. CutsShrink tr p u more K)) (CutsShrink tr r v answers (λ u more. CutsShrink tr p u more K))
CutsShrink tr (Tag p) v answers K = CutsShrink tr p (with_tag v) answers K
CutsShrink tr (Assert t test p) v answers K = CutsShrink tr p v answers K

-- So it is with the texts among parts.
abbrev pub AllCutsShrink : Transfer → List RequestPart → (answers : List (List CoreValue)) → Type 0
AllCutsShrink tr [] answers = Unit {0}
AllCutsShrink tr (RegionPart align size ∷ parts) answers = OfNext answers (λ rs more. AllCutsShrink tr parts more)
AllCutsShrink tr (TextPart f p n ∷ parts) answers = CutsShrink tr (path f tr.to.encoding) (path_start 0 n) answers (λ v more. AllCutsShrink tr parts more)
