-- The keys of an object and the names of flags, read one after another.
use Rattle.std.proofs.Common.{◌≡◌, ℕ, zero, suc, List, [], ◌∷◌, ◌++◌, ◌<◌, length, drop, Option, Some, None, refl, sym, ap, ◌∙◌, arith, true, false, cond, not, option_map, find, Bool, String, Global, string_bytes}
use Rattle.std.specs.Prelude.{slice_get, ◌==◌, if◌then◌else◌, Result, Ok, Err, ⊤}
use Rattle.std.specs.List.{zip}
use Rattle.std.specs.Map.{keys_of}
use Rattle.serde_json.specs.Data.{Data, Items, Members, null, boolean, number, string, array, object}
use Rattle.serde_json.specs.Find.{as_object}
use Rattle.serde_json.specs.View.{view, items_view, members_view}
use Rattle.serde_json.specs.declared.value.Value.{Value}
use Rattle.fact_types.proofs.ShapeLaws.{same_some, none_some}
use Rattle.fact_plan.specs.declared.fault.PlanFault.{PlanFault}
use Rattle.fact_plan.specs.Fault.{UnlessMemory, ◌>>=◌}
use Rattle.fact_plan.specs.Parts.{is_known, first_unknown, items_from, known_keys, list_in, no_unknown, required_keys}
use Rattle.fact_plan.specs.declared.fault.PlanFault.TheVariants.{WrongKind}
use Rattle.fact_value_json.specs.Reading.{count_items, items_in, of_length, counted_items, only_of, only_member, fields_in, places_in, flags_given}
use Rattle.fact_values.specs.declared.value.Value.{Value as Read}
use Rattle.fact_values.specs.declared.value.Value.TheVariants as value
use Rattle.fact_value_json.proofs.StepLaws.{append_one, append_none, first_failed, same_failed}

here_or_later : (b : Bool) (k : String Global) (later : Option (String Global)) → cond b (option_map string_bytes later) (Some (string_bytes k)) ≡ option_map string_bytes (cond (not b) (Some k) later)
here_or_later true k later = refl
here_or_later false k later = refl

-- the first unknown key, found among the members themselves
find_unknown : (known : List (List ℕ)) (es : List (String Global × Value)) → first_unknown known (members_view es) ≡ option_map string_bytes (find (λ k. not (is_known known (string_bytes k))) (keys_of es))
find_unknown known [] = refl
find_unknown known (e ∷ es) = rw (find_unknown known es) (here_or_later (is_known known (string_bytes e.0)) e.0 _)

-- a value that gives members is their object
object_of : (d : Data) (ms : Members) → Some ms ≡ as_object d → d ≡ object ms
object_of null ms e = cc
object_of (boolean b) ms e = cc
object_of (number n) ms e = cc
object_of (string s) ms e = cc
object_of (array ds) ms e = cc
object_of (object found) ms e = cc

-- what is found among the members says whether the keys of their object are known
pub known_found : (known : List (List ℕ)) (d : Data) (es : List (String Global × Value)) (found : Option (String Global)) → Some (members_view es) ≡ as_object d
    → found ≡ find (λ k. not (is_known known (string_bytes k))) (keys_of es) → known_keys known d ≡ no_unknown (option_map string_bytes found)
known_found known d es found e h = ap (known_keys known) (object_of d _ e) ∙ ap no_unknown (find_unknown known es ∙ ap (option_map string_bytes) (sym h))

count_view : (vs : List Value) → count_items (items_view vs) ≡ length vs
count_view [] = refl
count_view (v ∷ vs) = omega (arith, count_view vs)

-- a list of so many items, and one of more or fewer
pub all_counted : (d : Data) (vs : List Value) (n : ℕ) → items_in d ≡ Ok (items_view vs) → length vs ≡ n → counted_items n d ≡ Ok (items_view vs)
all_counted d vs n e l =
    let b : (count_items (items_view vs) == n) ≡ true = grind (arith, count_view vs, l) in
    ap (λ r. r >>= of_length n) e ∙ ap (λ (b : Bool). if b then Ok (items_view vs) else Err (WrongKind [])) b

pub not_counted : (d : Data) (vs : List Value) (n : ℕ) → items_in d ≡ Ok (items_view vs) → (length vs ≡ n → ⊥) → counted_items n d ≡ Err (WrongKind [])
not_counted d vs n e l =
    let b : (count_items (items_view vs) == n) ≡ false = grind (arith, count_view vs, l) in
    ap (λ r. r >>= of_length n) e ∙ ap (λ (b : Bool). if b then Ok (items_view vs) else Err (WrongKind [])) b

-- a list that is read is its items, read one after another
pub list_by_items : {T : Type 0} (f : Data → Result T PlanFault) (d : Data) → list_in f d ≡ items_in d >>= (λ ds. items_from f 0 ds)
unfolding list_in items_in
list_by_items f null = refl
list_by_items f (boolean b) = refl
list_by_items f (number n) = refl
list_by_items f (string s) = refl
list_by_items f (array ds) = refl
list_by_items f (object ms) = refl

-- ---- the one key of an object

only_of_one : (es : List (String Global × Value)) (e : String Global × Value) → length es ≡ 1 → slice_get es 0 ≡ Some e → only_of (members_view es) ≡ Ok (string_bytes e.0, view e.1)
only_of_one [] e one at = absurd (omega (arith, one))
only_of_one (x ∷ []) e one at = ap (λ (e : String Global × Value). Ok (string_bytes e.0, view e.1)) (same_some (Some x) x e refl at)
only_of_one (x ∷ y ∷ es) e one at = absurd (omega (arith, one))

only_of_more : (es : List (String Global × Value)) → (length es ≡ 1 → ⊥) → only_of (members_view es) ≡ Err (WrongKind [])
only_of_more [] more = refl
only_of_more (x ∷ []) more = absurd (more refl)
only_of_more (x ∷ y ∷ es) more = refl

pub one_member : (d : Data) (es : List (String Global × Value)) (e : String Global × Value) → Some (members_view es) ≡ as_object d → length es ≡ 1 → slice_get es 0 ≡ Some e → only_member d ≡ Ok (string_bytes e.0, view e.1)
unfolding only_member
one_member d es e is one at = ap only_member (object_of d _ is) ∙ only_of_one es e one at

pub more_members : (d : Data) (es : List (String Global × Value)) → Some (members_view es) ≡ as_object d → (length es ≡ 1 → ⊥) → only_member d ≡ Err (WrongKind [])
unfolding only_member
more_members d es is more = ap only_member (object_of d _ is) ∙ only_of_more es more

-- ---- flags, one after another

dropped_at : {X : Type 0} (xs : List X) (i : ℕ) (x : X) → slice_get xs i ≡ Some x → drop i xs ≡ x ∷ drop (suc i) xs
dropped_at [] i x e = absurd (none_some None x refl e)
dropped_at (y ∷ xs) zero x e = ap (λ y. y ∷ xs) (same_some (Some y) y x refl e)
dropped_at (y ∷ xs) (suc i) x e = dropped_at xs i x e

dropped_all : {X : Type 0} (xs : List X) (i : ℕ) → (i < length xs → ⊥) → drop i xs ≡ []
dropped_all [] zero h = refl
dropped_all [] (suc i) h = refl
dropped_all (x ∷ xs) zero h = absurd (h (omega arith))
dropped_all (x ∷ xs) (suc i) h = dropped_all xs i (λ l. h (omega (arith, l)))

-- The flags that were made, and those of the names that are left.
abbrev pub FlagsMade : (names given : List (List ℕ)) → ℕ → List (List ℕ × Bool) → Type 0
FlagsMade names given i flags = flags_given names given ≡ flags ++ flags_given (drop i names) given

pub one_flag_made : (names given : List (List ℕ)) (i : ℕ) (n : List ℕ) (b : Bool) (flags more : List (List ℕ × Bool)) → slice_get names i ≡ Some n → b ≡ is_known given n → more ≡ flags ++ (n, b) ∷ [] → FlagsMade names given i flags → FlagsMade names given (suc i) more
one_flag_made names given i n b flags more at is e h =
    h ∙ ap (λ l. flags ++ flags_given l given) (dropped_at names i n at) ∙ append_one flags (n, is_known given n) (flags_given (drop (suc i) names) given)
    ∙ (λ j. (flags ++ (n, sym is j) ∷ []) ++ flags_given (drop (suc i) names) given) ∙ ap (λ l. l ++ flags_given (drop (suc i) names) given) (sym e)

pub all_flags_made : (names given : List (List ℕ)) (i : ℕ) (flags : List (List ℕ × Bool)) → (i < length names → ⊥) → FlagsMade names given i flags → flags ≡ flags_given names given
all_flags_made names given i flags h made = sym (made ∙ ap (λ l. flags ++ flags_given l given) (dropped_all names i h) ∙ append_none flags)

-- ---- lists that are read, and that are not

pub list_read : {X : Type 0} (f : Data → Result X PlanFault) (d : Data) (ds : Items) (xs : List X) → items_in d ≡ Ok ds → items_from f 0 ds ≡ Ok xs → list_in f d ≡ Ok xs
list_read f d ds xs e g = list_by_items f d ∙ ap (λ r. r >>= (λ ds. items_from f 0 ds)) e ∙ g

pub list_failed : {X Y : Type 0} (f : Data → Result X PlanFault) (d : Data) (ds : Items) (k : List X → Result Y PlanFault) (e : PlanFault) → items_in d ≡ Ok ds → UnlessMemory e (items_from f 0 ds ≡ Err e) → UnlessMemory e (list_in f d >>= k ≡ Err e)
list_failed f d ds k e is h = first_failed (list_in f d) k e (same_failed (list_in f d) (items_from f 0 ds) e (list_by_items f d ∙ ap (λ r. r >>= (λ ds. items_from f 0 ds)) is) h)

pub no_list : {X Y : Type 0} (f : Data → Result X PlanFault) (d : Data) (k : List X → Result Y PlanFault) (e : PlanFault) → UnlessMemory e (items_in d ≡ Err e) → UnlessMemory e (list_in f d >>= k ≡ Err e)
no_list f d k e h = first_failed (list_in f d) k e (same_failed (list_in f d) (items_in d >>= (λ ds. items_from f 0 ds)) e (list_by_items f d) (first_failed (items_in d) (λ ds. items_from f 0 ds) e h))

-- ---- lists of as many as there are members

pub places_by : (n k : ℕ) (d : Data) (ds : Items) (f : ℕ → Items → Result (List Read) PlanFault) → n ≡ k → counted_items k d ≡ Ok ds → places_in n f d ≡ f 0 ds
places_by n k d ds f e is = ap (λ n. places_in n f d) e ∙ ap (λ r. r >>= (λ ds. f 0 ds)) is

pub no_places : (n k : ℕ) (d : Data) (f : ℕ → Items → Result (List Read) PlanFault) (e : PlanFault) → n ≡ k → UnlessMemory e (counted_items k d ≡ Err e) → UnlessMemory e (places_in n f d ≡ Err e)
no_places n k d f e same h = first_failed (counted_items n d) (λ ds. f 0 ds) e (same_failed (counted_items n d) (counted_items k d) e (ap (λ n. counted_items n d) same) h)

-- ---- records

module _ (names ns : List (List ℕ)) (f : Data → Result (List Read) PlanFault) (d : Data) where
  pub no_known : (e : PlanFault) → names ≡ ns → UnlessMemory e (known_keys names d ≡ Err e) → UnlessMemory e (fields_in ns f d ≡ Err e)
  no_known e same h = first_failed (known_keys ns d) (λ _. required_keys ns d >>= (λ _. f d >>= (λ vs. Ok (value.Record (zip ns vs))))) e (same_failed (known_keys ns d) (known_keys names d) e (ap (λ l. known_keys l d) (sym same)) h)

  pub no_required : (u : ⊤) (e : PlanFault) → names ≡ ns → known_keys ns d ≡ Ok u → UnlessMemory e (required_keys names d ≡ Err e) → UnlessMemory e (fields_in ns f d ≡ Err e)
  no_required u e same known h =
      same_failed (fields_in ns f d) (required_keys ns d >>= (λ _. f d >>= (λ vs. Ok (value.Record (zip ns vs))))) e (ap (λ r. r >>= (λ _. required_keys ns d >>= (λ _. f d >>= (λ vs. Ok (value.Record (zip ns vs)))))) known)
      (first_failed (required_keys ns d) (λ _. f d >>= (λ vs. Ok (value.Record (zip ns vs)))) e (same_failed (required_keys ns d) (required_keys names d) e (ap (λ l. required_keys l d) (sym same)) h))

  by_fields : (u w : ⊤) → known_keys ns d ≡ Ok u → required_keys ns d ≡ Ok w → fields_in ns f d ≡ (f d >>= (λ vs. Ok (value.Record (zip ns vs))))
  by_fields u w known required =
      ap (λ r. r >>= (λ _. required_keys ns d >>= (λ _. f d >>= (λ vs. Ok (value.Record (zip ns vs)))))) known
      ∙ ap (λ r. r >>= (λ _. f d >>= (λ vs. Ok (value.Record (zip ns vs))))) required

  pub no_fields : (u w : ⊤) (e : PlanFault) → known_keys ns d ≡ Ok u → required_keys ns d ≡ Ok w → UnlessMemory e (f d ≡ Err e) → UnlessMemory e (fields_in ns f d ≡ Err e)
  no_fields u w e known required h = same_failed (fields_in ns f d) (f d >>= (λ vs. Ok (value.Record (zip ns vs)))) e (by_fields u w known required) (first_failed (f d) (λ vs. Ok (value.Record (zip ns vs))) e h)

  pub fields_read : (u w : ⊤) (vs : List Read) (fs : List (List ℕ × Read)) → names ≡ ns → known_keys ns d ≡ Ok u → required_keys ns d ≡ Ok w → f d ≡ Ok vs → fs ≡ zip names vs → fields_in ns f d ≡ Ok (value.Record fs)
  fields_read u w vs fs same known required read e =
      by_fields u w known required ∙ ap (λ r. r >>= (λ vs. Ok (value.Record (zip ns vs)))) read ∙ ap (λ fs. Ok (value.Record fs)) (ap (λ l. zip l vs) (sym same) ∙ sym e)
