-- Objects of exactly one key: the entries of a plan's types, and core definitions.
use Rattle.std.specs.Prelude.{ℕ, List, [], ◌∷◌, Option, Some, None, Result, Ok, Err, codes, ⊤}
use Rattle.serde_json.specs.Data.{Data, Members, no_members, member, null, boolean, number, string, array, object}
use Rattle.serde_json.specs.Find.{get}
use Rattle.fact_types.specs.declared.outside.CoreDef.{CoreDef}
use Rattle.fact_types.specs.declared.outside.CoreDef.TheVariants.{Export, Trampoline}
use Rattle.fact_plan.specs.declared.plan.PlanType.{PlanType}
use Rattle.fact_plan.specs.declared.plan.PlanType.TheVariants as ty
use Rattle.fact_plan.specs.declared.fault.PlanFault.{PlanFault}
use Rattle.fact_plan.specs.declared.fault.PlanFault.TheVariants.{WrongKind, Missing}
use Rattle.fact_plan.specs.Fault.{at_step, key_step, ◌>>=◌}
use Rattle.fact_plan.specs.Parts.{known_keys, u32_in, text_in, list_in, nullable, pair_in}
use Rattle.fact_plan.specs.Words.{ref_in}

-- exactly one member: none is a missing key, more are the wrong kind
abbrev pub one_member : Members → Result ⊤ PlanFault
one_member no_members = Err (Missing [])
one_member (member k d no_members) = Ok tt
one_member (member k d (member l e ms)) = Err (WrongKind [])

-- an object of exactly one key
abbrev pub one_key : Data → Result ⊤ PlanFault
one_key null = Err (WrongKind [])
one_key (boolean b) = Err (WrongKind [])
one_key (number n) = Err (WrongKind [])
one_key (string s) = Err (WrongKind [])
one_key (array ds) = Err (WrongKind [])
one_key (object ms) = one_member ms

-- what is made of the value that was found at a key, and where none was found what comes next
abbrev pub found_or : {S T : Type 0} → List ℕ → (Data → Result S PlanFault) → (S → T) → Option Data → Result T PlanFault → Result T PlanFault
found_or k f make None next = next
found_or k f make (Some e) next = at_step (key_step k) (f e) >>= (λ x. Ok (make x))

-- what is made of the value at a key, and where the key is not there what comes next
abbrev pub at_or : {S T : Type 0} → List ℕ → (Data → Result S PlanFault) → (S → T) → Data → Result T PlanFault → Result T PlanFault
at_or k f make d next = found_or k f make (get k d) next

-- the keys of the entries of a plan's types
abbrev pub entry_keys : List (List ℕ)
entry_keys =
    codes "record" ∷ codes "variant" ∷ codes "tuple" ∷ codes "list" ∷ codes "option" ∷ codes "map" ∷ codes "result" ∷ codes "flags"
    ∷ codes "enum" ∷ codes "fixed-list" ∷ codes "own" ∷ codes "borrow" ∷ codes "future" ∷ codes "stream" ∷ codes "error-context" ∷ []

-- a handle, by the first of its keys that is there
unfoldable pub handle_by_key : Data → Result PlanType PlanFault
handle_by_key d =
    at_or (codes "own") u32_in ty.Own d
    (at_or (codes "borrow") u32_in ty.Borrow d
    (at_or (codes "future") (pair_in (nullable ref_in) u32_in) (λ p. ty.Future p.0 p.1) d
    (at_or (codes "stream") (pair_in (nullable ref_in) u32_in) (λ p. ty.Stream p.0 p.1) d
    (at_or (codes "error-context") u32_in ty.ErrorContext d (Err (Missing []))))))

-- what follows the options among the entries, by the first of its keys that is there
unfoldable pub later_by_key : Data → Result PlanType PlanFault
later_by_key d =
    at_or (codes "map") (pair_in ref_in ref_in) (λ p. ty.Map p.0 p.1) d
    (at_or (codes "result") (pair_in (nullable ref_in) (nullable ref_in)) (λ p. ty.Result p.0 p.1) d
    (at_or (codes "flags") (list_in text_in) ty.Flags d
    (at_or (codes "enum") (list_in text_in) ty.Enum d
    (at_or (codes "fixed-list") (pair_in ref_in u32_in) (λ p. ty.FixedList p.0 p.1) d (handle_by_key d)))))

-- an entry, by the first of the keys that is there
unfoldable pub entry_by_key : Data → Result PlanType PlanFault
entry_by_key d =
    at_or (codes "record") (list_in (pair_in text_in ref_in)) ty.Record d
    (at_or (codes "variant") (list_in (pair_in text_in (nullable ref_in))) ty.Variant d
    (at_or (codes "tuple") (list_in ref_in) ty.Tuple d
    (at_or (codes "list") ref_in ty.List d
    (at_or (codes "option") ref_in ty.Option d (later_by_key d)))))

-- an entry of the plan's types
unfoldable pub entry_in : Data → Result PlanType PlanFault
entry_in d = do
  _ ← known_keys entry_keys d
  _ ← one_key d
  entry_by_key d

-- the keys of core definitions
abbrev pub def_keys : List (List ℕ)
def_keys = codes "export" ∷ codes "trampoline" ∷ []

-- a core definition, by the first of the keys that is there
unfoldable pub def_by_key : Data → Result CoreDef PlanFault
def_by_key d =
    at_or (codes "export") (pair_in u32_in text_in) (λ p. Export (record { table = _; number = p.0 }) p.1) d
    (at_or (codes "trampoline") u32_in (λ n. Trampoline (record { table = _; number = n })) d (Err (Missing [])))

-- a core definition
unfoldable pub core_def_in : Data → Result CoreDef PlanFault
core_def_in d = do
  _ ← known_keys def_keys d
  _ ← one_key d
  def_by_key d
