-- Distinct names; objects that have a member at each of them; flags by the names of those that are set.
use Rattle.std.proofs.Common.{◌≡◌, ℕ, suc, ◌+◌, List, [], ◌∷◌, ◌++◌, map, Option, Some, None, Ok, Err, Bool, true, false, ◌||◌, refl, sym, ap, ◌∙◌, arith}
use Rattle.std.specs.Prelude.{slice_get, if◌then◌else◌}
use Rattle.std.specs.List.{AllByRecursion, zip}
use Rattle.std.specs.Ordering.{nat_cmp, match_ordering}
use Rattle.std.specs.declared.cmp.Ordering.{Ordering}
use Rattle.std.specs.declared.cmp.Ordering.TheVariants.{Less, Equal, Greater}
use Rattle.std.specs.Cmp.Lexicographic.{slice_cmp}
use Rattle.std.specs.Str.{bytes_eq}
use Rattle.serde_json.specs.Data as json
use Rattle.serde_json.specs.Data.{Data, string, object, put}
use Rattle.serde_json.specs.Find.{get, get_member}
use Rattle.serde_json.specs.View.{items_of}
use Rattle.serde_json.proofs.Views.{get_member-put, get_member-put_other}
use Rattle.fact_types.specs.Agrees.{names_of}
use Rattle.fact_types.specs.Shapes.{Members, no_members, bare, typed}
use Rattle.fact_types.specs.Valid.{AreDistinct}
use Rattle.fact_types.proofs.ShapeLaws.{none_some}
use Rattle.fact_plan.specs.declared.fault.PlanFault.TheVariants.{OutOfRange}
use Rattle.fact_plan.specs.Fault.{at_step, place_step, ◌>>=◌}
use Rattle.fact_plan.specs.Parts.{is_known, first_unknown, known_keys, no_unknown, required_keys, required_value, text_in}
use Rattle.fact_values.specs.declared.value.Value.{Value}
use Rattle.fact_values.specs.IsA.{IsA, AreMembers}
use Rattle.fact_values.specs.Places.{typed_names}
use Rattle.fact_values.proofs.IsALaws.{bytes_are, bytes_same}
use Rattle.fact_value_json.specs.Printing.{data_of, data_places, object_of, set_names}
use Rattle.fact_value_json.specs.Reading.{flags_given, names_from, new_name}
use Rattle.fact_value_json.proofs.StepLaws.{append_one, append_none}

-- ---- distinct names

-- A name is none of these.
abbrev pub IsAbsent : List ℕ → List (List ℕ) → Type 0
IsAbsent n [] = Unit {0}
IsAbsent n (x ∷ xs) = (n ≡ x → ⊥) × IsAbsent n xs

abbrev pub AreApart : List (List ℕ) → Type 0
AreApart [] = Unit {0}
AreApart (n ∷ ns) = IsAbsent n ns × AreApart ns

absent : (n : List ℕ) (xs : List (List ℕ)) → ((j : ℕ) → slice_get xs j ≡ Some n → ⊥) → IsAbsent n xs
absent n [] f = tt
absent n (x ∷ xs) f = (λ e. f 0 (ap (λ x. Some x) (sym e)), absent n xs (λ j e. f (suc j) e))

pub apart : (ns : List (List ℕ)) → AreDistinct ns → AreApart ns
apart [] d = tt
apart (n ∷ ns) d = (absent n ns (λ j e. absurd (omega (arith, d 0 (suc j) n refl e))), apart ns (λ i j x p q. omega (arith, d (suc i) (suc j) x p q)))

pub not_same : (n x : List ℕ) → (n ≡ x → ⊥) → bytes_eq n x ≡ false
not_same n x f = go (bytes_eq n x) refl
  where
    go : (b : Bool) → bytes_eq n x ≡ b → b ≡ false
    go true e = absurd (f (bytes_are n x e))
    go false e = refl

pub unknown : (xs : List (List ℕ)) (n : List ℕ) → IsAbsent n xs → is_known xs n ≡ false
unknown [] n a = refl
unknown (x ∷ xs) n a = ap (λ b. b || is_known xs n) (not_same n x a.0) ∙ unknown xs n a.1

known_first : (n : List ℕ) (xs : List (List ℕ)) → is_known (n ∷ xs) n ≡ true
known_first n xs = ap (λ b. b || is_known xs n) (bytes_same n)

pub or_true : (b c : Bool) → c ≡ true → (b || c) ≡ true
or_true true c e = refl
or_true false c e = e

known_later : (x n : List ℕ) (xs : List (List ℕ)) → is_known xs n ≡ true → is_known (x ∷ xs) n ≡ true
known_later x n xs e = or_true (bytes_eq n x) (is_known xs n) e

-- Each of these names is one of those.
abbrev pub AreKnown : (known names : List (List ℕ)) → Type 0
AreKnown known names = AllByRecursion (λ n. is_known known n ≡ true) names

known_more : (x : List ℕ) (xs ns : List (List ℕ)) → AreKnown xs ns → AreKnown (x ∷ xs) ns
known_more x xs [] h = tt
known_more x xs (n ∷ ns) h = (known_later x n xs h.0, known_more x xs ns h.1)

pub all_known : (ns : List (List ℕ)) → AreKnown ns ns
all_known [] = tt
all_known (n ∷ ns) = (known_first n ns, known_more n ns ns (all_known ns))

-- ---- the members of an object

known_split : (b : Bool) (o : Option (List ℕ)) (k : List ℕ) → (if b then o else Some k) ≡ None → (b ≡ true) × (o ≡ None)
known_split true o k e = (refl, e)
known_split false o k e = absurd (none_some (Some k) k e refl)

known_member : (names : List (List ℕ)) (k : List ℕ) (d : Data) (ms : json.Members) → is_known names k ≡ true → first_unknown names ms ≡ None → first_unknown names (json.member k d ms) ≡ None
known_member names k d ms known none = ap (λ b. if b then first_unknown names ms else Some k) known ∙ none

known_put_at : (names : List (List ℕ)) (k l : List ℕ) (d e : Data) (ms : json.Members) (o : Ordering) → is_known names k ≡ true → first_unknown names (json.member l e ms) ≡ None → (first_unknown names ms ≡ None → first_unknown names (put k d ms) ≡ None)
    → first_unknown names (match_ordering o (json.member k d (json.member l e ms)) (json.member l d ms) (json.member l e (put k d ms))) ≡ None
known_put_at names k l d e ms Less known none f = known_member names k d (json.member l e ms) known none
known_put_at names k l d e ms Equal known none f = none
known_put_at names k l d e ms Greater known none f =
    let (here, more) = known_split (is_known names l) (first_unknown names ms) l none in
    known_member names l e (put k d ms) here (f more)

known_put : (names : List (List ℕ)) (k : List ℕ) (d : Data) (ms : json.Members) → is_known names k ≡ true → first_unknown names ms ≡ None → first_unknown names (put k d ms) ≡ None
known_put names k d json.no_members known none = known_member names k d json.no_members known refl
known_put names k d (json.member l e ms) known none = known_put_at names k l d e ms (slice_cmp nat_cmp k l) known none (λ more. known_put names k d ms known more)

known_object : (names ns : List (List ℕ)) (ds : List Data) (ms : json.Members) → AreKnown names ns → first_unknown names ms ≡ None → first_unknown names (object_of (zip ns ds) ms) ≡ None
known_object names [] ds ms h none = none
known_object names (n ∷ ns) [] ms h none = none
known_object names (n ∷ ns) (d ∷ ds) ms h none = known_object names ns ds (put n d ms) h.1 (known_put names n d ms h.0 none)

pub keys_known : (ns : List (List ℕ)) (ds : List Data) → known_keys ns (object (object_of (zip ns ds) json.no_members)) ≡ Ok tt
keys_known ns ds = ap no_unknown (known_object ns ns ds json.no_members (all_known ns) refl)

untouched : (n : List ℕ) (ns : List (List ℕ)) (ds : List Data) (ms : json.Members) → IsAbsent n ns → get_member n (object_of (zip ns ds) ms) ≡ get_member n ms
untouched n [] ds ms a = refl
untouched n (k ∷ ns) [] ms a = refl
untouched n (k ∷ ns) (d ∷ ds) ms a = untouched n ns ds (put k d ms) a.1 ∙ get_member-put_other n k d ms a.0

-- Each member that has a type stands at its name, as its value is printed.
abbrev pub AreAtNames : Members → List Value → Data → Type 0
AreAtNames no_members vs d = Unit {0}
AreAtNames (bare n ms) vs d = AreAtNames ms vs d
AreAtNames (typed n s ms) [] d = Unit {0}
AreAtNames (typed n s ms) (v ∷ vs) d = (get n d ≡ Some (data_of s v)) × AreAtNames ms vs d

pub fields_at_names : (ms : Members) (vs : List Value) (es : json.Members) → AreApart (typed_names ms) → AreMembers ms vs → AreAtNames ms vs (object (object_of (zip (typed_names ms) (data_places ms vs)) es))
unfolding data_places IsA
fields_at_names no_members vs es a h = tt
fields_at_names (bare n ms) vs es a h = fields_at_names ms vs es a h
fields_at_names (typed n s ms) [] es a h = absurd h
fields_at_names (typed n s ms) (v ∷ vs) es a h = (untouched n (typed_names ms) (data_places ms vs) (put n (data_of s v) es) a.0 ∙ get_member-put n (data_of s v) es, fields_at_names ms vs (put n (data_of s v) es) a.1 h.1)

pub names_required : (ms : Members) (vs : List Value) (d : Data) → AreMembers ms vs → AreAtNames ms vs d → required_keys (typed_names ms) d ≡ Ok tt
unfolding IsA
names_required no_members vs d h f = refl
names_required (bare n ms) vs d h f = names_required ms vs d h f
names_required (typed n s ms) [] d h f = absurd h
names_required (typed n s ms) (v ∷ vs) d h f = ap (λ o. required_value n o >>= (λ _. required_keys (typed_names ms) d)) f.0 ∙ names_required ms vs d h.1 f.1

typed_absent : (n : List ℕ) (ms : Members) → IsAbsent n (names_of ms) → IsAbsent n (typed_names ms)
typed_absent n no_members a = tt
typed_absent n (bare x ms) a = typed_absent n ms a.1
typed_absent n (typed x s ms) a = (a.0, typed_absent n ms a.1)

pub typed_apart : (ms : Members) → AreApart (names_of ms) → AreApart (typed_names ms)
typed_apart no_members a = tt
typed_apart (bare n ms) a = typed_apart ms a.1
typed_apart (typed n s ms) a = (typed_absent n ms a.0, typed_apart ms a.1)

-- ---- flags

fresh_more : (given : List (List ℕ)) (s t : List ℕ) → IsAbsent t given → (s ≡ t → ⊥) → IsAbsent t (given ++ s ∷ [])
fresh_more [] s t a f = (λ e. f (sym e), tt)
fresh_more (x ∷ xs) s t a f = (a.0, fresh_more xs s t a.1 f)

all_fresh : (given : List (List ℕ)) (s : List ℕ) (ss : List (List ℕ)) → AllByRecursion (λ t. IsAbsent t given) ss → IsAbsent s ss → AllByRecursion (λ t. IsAbsent t (given ++ s ∷ [])) ss
all_fresh given s [] h a = tt
all_fresh given s (t ∷ ss) h a = (fresh_more given s t h.0 a.0, all_fresh given s ss h.1 a.1)

none_given : (ss : List (List ℕ)) → AllByRecursion (λ t. IsAbsent t []) ss
none_given [] = tt
none_given (s ∷ ss) = (tt, none_given ss)

new_name_is : (names given : List (List ℕ)) (s : List ℕ) → is_known names s ≡ true → is_known given s ≡ false → new_name names given s ≡ Ok s
new_name_is names given s known new =
    ap (λ b. if b then (if is_known given s then Err (OutOfRange []) else Ok s) else Err (OutOfRange [])) known ∙ ap (λ b. if b then Err (OutOfRange []) else Ok s) new

names_back : (names given ss : List (List ℕ)) (i : ℕ) → AreKnown names ss → AllByRecursion (λ t. IsAbsent t given) ss → AreApart ss → names_from names given i (items_of (map (λ n. string n) ss)) ≡ Ok (given ++ ss)
unfolding text_in
names_back names given [] i known fresh a = ap (λ l. Ok l) (sym (append_none given))
names_back names given (s ∷ ss) i known fresh a =
    ap (λ r. at_step (place_step i) r >>= (λ s. names_from names (given ++ s ∷ []) (i + 1) (items_of (map (λ n. string n) ss)))) (new_name_is names given s known.0 (unknown given s fresh.0))
    ∙ names_back names (given ++ s ∷ []) ss (i + 1) known.1 (all_fresh given s ss fresh.1 a.0) a.1
    ∙ ap (λ l. Ok l) (sym (append_one given s ss))

set_absent : (n : List ℕ) (fs : List (List ℕ × Bool)) → IsAbsent n (map (λ f. f.0) fs) → IsAbsent n (set_names fs)
set_absent n [] a = tt
set_absent n ((x, true) ∷ fs) a = (a.0, set_absent n fs a.1)
set_absent n ((x, false) ∷ fs) a = set_absent n fs a.1

set_apart : (fs : List (List ℕ × Bool)) → AreApart (map (λ f. f.0) fs) → AreApart (set_names fs)
set_apart [] a = tt
set_apart ((x, true) ∷ fs) a = (set_absent x fs a.0, set_apart fs a.1)
set_apart ((x, false) ∷ fs) a = set_apart fs a.1

set_known : (fs : List (List ℕ × Bool)) → AreKnown (map (λ f. f.0) fs) (set_names fs)
set_known [] = tt
set_known ((x, true) ∷ fs) = (known_first x (map (λ f. f.0) fs), known_more x (map (λ f. f.0) fs) (set_names fs) (set_known fs))
set_known ((x, false) ∷ fs) = known_more x (map (λ f. f.0) fs) (set_names fs) (set_known fs)

-- Each of these flags is set where it is among the names given.
abbrev AreSetBy : (given : List (List ℕ)) → List (List ℕ × Bool) → Type 0
AreSetBy given fs = AllByRecursion (λ f. is_known given f.0 ≡ f.1) fs

set_more : (x : List ℕ) (given : List (List ℕ)) (fs : List (List ℕ × Bool)) → IsAbsent x (map (λ f. f.0) fs) → AreSetBy given fs → AreSetBy (x ∷ given) fs
set_more x given [] a h = tt
set_more x given (f ∷ fs) a h = (ap (λ b. b || is_known given f.0) (not_same f.0 x (λ e. a.0 (sym e))) ∙ h.0, set_more x given fs a.1 h.1)

set_by : (fs : List (List ℕ × Bool)) → AreApart (map (λ f. f.0) fs) → AreSetBy (set_names fs) fs
set_by [] a = tt
set_by ((x, true) ∷ fs) a = (known_first x (set_names fs), set_more x (set_names fs) fs a.0 (set_by fs a.1))
set_by ((x, false) ∷ fs) a = (unknown (set_names fs) x (set_absent x fs a.0), set_by fs a.1)

flags_are : (given : List (List ℕ)) (fs : List (List ℕ × Bool)) → AreSetBy given fs → flags_given (map (λ f. f.0) fs) given ≡ fs
flags_are given [] h = refl
flags_are given ((x, b) ∷ fs) h = (λ j. (x, h.0 j) ∷ flags_are given fs h.1 j)

-- the names of flags that are set are read, and give the flags
pub set_names_back : (fs : List (List ℕ × Bool)) → AreApart (map (λ f. f.0) fs) → names_from (map (λ f. f.0) fs) [] 0 (items_of (map (λ n. string n) (set_names fs))) ≡ Ok (set_names fs)
set_names_back fs a = names_back (map (λ f. f.0) fs) [] (set_names fs) 0 (set_known fs) (none_given (set_names fs)) (set_apart fs a)

pub flags_back : (fs : List (List ℕ × Bool)) → AreApart (map (λ f. f.0) fs) → flags_given (map (λ f. f.0) fs) (set_names fs) ≡ fs
flags_back fs a = flags_are (set_names fs) fs (set_by fs a)
