-- What the parts of a value ask of realloc (canonical ABI, "Storing").
use Rattle.std.specs.Prelude.{◌≡◌, ◌||◌, ℕ, ◌*◌, Bool, true, false, List, [], ◌∷◌, map}
use Rattle.std.specs.List.{filter}
use Rattle.fact_types.specs.Shapes.{Shape, Members}
use Rattle.fact_types.specs.declared.import.Import.{Import}
use Rattle.fact_types.specs.declared.import.Import.TheVariants as import
use Rattle.fact_machine.specs.declared.types.CoreValue.{CoreValue}
use Rattle.fact_machine.specs.Trace.{Grows}
use Rattle.fact_actions.specs.Sides.{LiftLowerOptions, Transfer, first_bits}
use Rattle.fact_actions.specs.Transcoders.{transcode_kind}
use Rattle.fact_actions.specs.Paths.{Path, End, Limit, Resize, Pass, If, Tag, Assert, TextForm, align_of, path}
use Rattle.fact_actions.specs.Strings.{PathPoint, path_start, amount, holds, with_tag, passed}
use Rattle.fact_actions.specs.Moves.{entry_extent}
use Rattle.fact_types.specs.Tuples.{tuple_members}
use Rattle.fact_actions.specs.Running.{Call}
use Rattle.fact_actions.specs.Calls.{arg_number, results}
use Rattle.fact_actions.specs.Regions.{Landing, is_request}

-- a region to be given up, an alignment, and so many bytes to be given
pub record Request : Type 0 where
  pub old : ℕ
  pub old_size : ℕ
  pub align : ℕ
  pub new_size : ℕ

-- the requests of a transfer's calls
abbrev pub request_of : Call → Request
request_of c = record { old = arg_number c 0; old_size = arg_number c 1; align = arg_number c 2; new_size = arg_number c 3 }

abbrev pub requests_in : Landing → List Call → List Request
requests_in l cs = map request_of (filter (is_request l) cs)

-- What of the values of a transfer asks for regions, in the order of the destination and the outer before the inner: a tuple that
-- is passed through a new pointer, a list or a map asks for so many bytes, and a text, of so many units in a form at a pointer, for
-- those of its path.
pub data RequestPart : Type 0 where
  RegionPart : (align size : ℕ) → RequestPart
  TextPart : TextForm → (pointer units : ℕ) → RequestPart

abbrev pub tuple_part : LiftLowerOptions → List Shape → RequestPart
tuple_part o ts = RegionPart (entry_extent o (tuple_members ts)).align (entry_extent o (tuple_members ts)).size

-- so many elements or entries, which at their destination have these members
abbrev pub list_part : LiftLowerOptions → Members → (length : ℕ) → RequestPart
list_part o ns n = RegionPart (entry_extent o ns).align (n * (entry_extent o ns).size)

-- a region is asked for where none was before
abbrev pub new_region : (align size : ℕ) → Request
new_region align size = record { old = 0; old_size = 0; align = align; new_size = size }

-- ---- texts

-- Answers to calls of realloc and of transcoders, in order. Where they run out nothing more is asked for.
abbrev pub next_answer : List (List CoreValue) → (List CoreValue → List (List CoreValue) → List Request) → List Request
next_answer [] k = []
next_answer (rs ∷ more) k = k rs more

abbrev pub either : Bool → (if_true if_false : List Request) → List Request
either true p q = p
either false p q = q

-- what a path asks for at a point, and what then comes
abbrev pub path_requests : Transfer → Path → PathPoint → (answers : List (List CoreValue)) → (PathPoint → List (List CoreValue) → List Request) → List Request
path_requests tr End v answers k = k v answers
path_requests tr (Limit factor p) v answers k = path_requests tr p v answers k
path_requests tr (Resize x y p) v answers k =
    record { old = v.region; old_size = amount tr x v; align = align_of tr.to.encoding; new_size = amount tr y v }
    ∷ next_answer answers (λ rs more. path_requests tr p (record v { region = first_bits rs }) more k)
path_requests tr (Pass o rest room p) v answers k = next_answer answers (λ rs more. path_requests tr p (passed tr (transcode_kind o) rest rs v) more k)
path_requests tr (If test q r p) v answers k =
    either (holds tr test v) (path_requests tr q v answers (λ u more. path_requests tr p u more k)) (path_requests tr r v answers (λ u more. path_requests tr p u more k))
path_requests tr (Tag p) v answers k = path_requests tr p (with_tag v) answers k
path_requests tr (Assert t test p) v answers k = path_requests tr p v answers k

-- a text of so many units in a form, by the answers so far
abbrev pub text_requests : Transfer → TextForm → (units : ℕ) → (answers : List (List CoreValue)) → List Request
text_requests tr f n answers = path_requests tr (path f tr.to.encoding) (path_start 0 n) answers (λ v more. [])

-- ---- whole transfers

-- what parts ask for, one behind the other, by the answers so far
abbrev pub parts_requests : Transfer → List RequestPart → (answers : List (List CoreValue)) → List Request
parts_requests tr [] answers = []
parts_requests tr (RegionPart align size ∷ parts) answers = new_region align size ∷ next_answer answers (λ rs more. parts_requests tr parts more)
parts_requests tr (TextPart f p n ∷ parts) answers = path_requests tr (path f tr.to.encoding) (path_start 0 n) answers (λ v more. parts_requests tr parts more)

abbrev pub is_transcode : Import → Bool
is_transcode (import.Transcode o from from64 to to64) = true
is_transcode i = false

-- the answers of such calls
abbrev pub answers_in : Landing → List Call → List (List CoreValue)
answers_in l calls = map results (filter (λ c. is_request l c || is_transcode c.what) calls)

-- The calls of realloc of a transfer are those that its parts ask for; or they are the first of them.
abbrev pub AreRequests : Transfer → Landing → List RequestPart → List Call → Type 0
AreRequests tr l parts calls = requests_in l calls ≡ parts_requests tr parts (answers_in l calls)

abbrev pub BeginRequests : Transfer → Landing → List RequestPart → List Call → Type 0
BeginRequests tr l parts calls = Grows (requests_in l calls) (parts_requests tr parts (answers_in l calls))
