-- A list and the keys of an object, read one after another.
use Rattle.std.proofs.Common.{◌≡◌, ℕ, List, [], ◌∷◌, ◌++◌, ◌<◌, length, drop, map, Option, Some, Result, Ok, Err, refl, sym, ap, ◌∙◌, arith, Bor, true, false, cond, not, ◌||◌, option_map, find, Bool, String, Global, string_bytes}
use Rattle.std.specs.List.{list_any}
use Rattle.std.specs.Map.{keys_of}
use Rattle.std.specs.Str.{bytes_eq}
use Rattle.serde_json.specs.Data.{Data, Members, null, boolean, number, string, array, object}
use Rattle.serde_json.specs.Find.{as_object}
use Rattle.serde_json.specs.View.{items_view, members_view}
use Rattle.serde_json.specs.declared.value.Value.{Value}
use Rattle.fact_plan.specs.declared.fault.PlanFault.{PlanFault}
use Rattle.fact_plan.specs.declared.fault.PlanFault.TheVariants.{OutOfMemory, Missing, UnknownKey, WrongKind, OutOfRange}
use Rattle.fact_plan.specs.Fault.{UnlessMemory, ◌>>=◌}
use Rattle.fact_plan.specs.Entries.{one_key, one_member}
use Rattle.fact_plan.specs.Parts.{items_from, is_known, first_unknown, known_keys, no_unknown}

-- these items, and then those of the result
abbrev pub prepend : {T : Type 0} → List T → Result (List T) PlanFault → Result (List T) PlanFault
prepend xs r = r >>= (λ ys. Ok (xs ++ ys))

-- what is read from place i on
abbrev pub rest_of : {T : Type 0} → (Data → Result T PlanFault) → List Value → ℕ → Result (List T) PlanFault
rest_of f vs i = items_from f i (items_view (drop i vs))

any_known : (known : List (Bor (List ℕ))) (k : List ℕ) → is_known (map (λ x. x.now) known) k ≡ list_any (λ x. bytes_eq k x.now) known
any_known [] k = refl
any_known (x ∷ known) k = ap (λ b. bytes_eq k x.now || b) (any_known known k)

here_or_later : (b : Bool) (k : String Global) (later : Option (String Global)) → cond b (option_map string_bytes later) (Some (string_bytes k)) ≡ option_map string_bytes (cond (not b) (Some k) later)
here_or_later true k later = refl
here_or_later false k later = refl

-- the first unknown key, found among the members themselves
find_unknown : (known : List (Bor (List ℕ))) (es : List (String Global × Value))
    → first_unknown (map (λ x. x.now) known) (members_view es) ≡ option_map string_bytes (find (λ k. not (list_any (λ x. bytes_eq (string_bytes k) x.now) known)) (keys_of es))
find_unknown known [] = refl
find_unknown known (e ∷ es) =
    rw (any_known known (string_bytes e.0), find_unknown known es) (here_or_later _ e.0 _)

-- a value that gives members is their object
object_of : (d : Data) (ms : Members) → Some ms ≡ as_object d → d ≡ object ms
object_of null ms e = cc
object_of (boolean b) ms e = cc
object_of (number n) ms e = cc
object_of (string s) ms e = cc
object_of (array ds) ms e = cc
object_of (object found) ms e = cc

-- what is found among the members says whether the keys of their object are known
pub known_keys-find : (known : List (Bor (List ℕ))) (d : Data) (es : List (String Global × Value)) (found : Option (String Global)) → Some (members_view es) ≡ as_object d
    → found ≡ find (λ k. not (list_any (λ x. bytes_eq (string_bytes k) x.now) known)) (keys_of es) → known_keys (map (λ x. x.now) known) d ≡ no_unknown (option_map string_bytes found)
known_keys-find known d es found e h =
    ap (known_keys _) (object_of d _ e) ∙ ap no_unknown (find_unknown known es ∙ ap (option_map string_bytes) (sym h))

one_member-one : (es : List (String Global × Value)) → length es ≡ 1 → one_member (members_view es) ≡ Ok tt
one_member-one [] e = absurd (omega (arith, e))
one_member-one (x ∷ []) e = refl
one_member-one (x ∷ y ∷ es) e = absurd (omega (arith, e))

one_member-more : (es : List (String Global × Value)) → 1 < length es → one_member (members_view es) ≡ Err (WrongKind [])
one_member-more [] e = absurd (omega (arith, e))
one_member-more (x ∷ []) e = absurd (omega (arith, e))
one_member-more (x ∷ y ∷ es) e = refl

-- an object of one member
pub one_key-one : (d : Data) (es : List (String Global × Value)) → Some (members_view es) ≡ as_object d → length es ≡ 1 → one_key d ≡ Ok tt
one_key-one d es e one = ap one_key (object_of d _ e) ∙ one_member-one es one

-- an object of several members
pub one_key-more : (d : Data) (es : List (String Global × Value)) → Some (members_view es) ≡ as_object d → 1 < length es → one_key d ≡ Err (WrongKind [])
one_key-more d es e more = ap one_key (object_of d _ e) ∙ one_member-more es more

-- what follows from what is said of each fault but want of memory
pub unless_memory : (fault : PlanFault) {P Q : Type 0} → (P → Q) → UnlessMemory fault P → UnlessMemory fault Q
unless_memory OutOfMemory f p = tt
unless_memory (Missing path) f p = f p
unless_memory (UnknownKey path) f p = f p
unless_memory (WrongKind path) f p = f p
unless_memory (OutOfRange path) f p = f p
