-- The forms of the adapters of a generated plan, each by its types, its parameters and its results.
use Rattle.std.specs.Prelude.{ℕ, zero, suc, ◌+◌, ◌*◌, ◌/◌, ◌%◌, Bool, true, false, List, [], ◌∷◌, ◌++◌, Option, Some, None, codes, get_or, map}
use Rattle.std.specs.List.{range_with_len}
use Rattle.std.specs.Fmt.{decimal}
use Rattle.fact_source.specs.declared.defined.PrimitiveValType.TheVariants as word
use Rattle.fact_plan.specs.declared.plan.PlanRef.{PlanRef}
use Rattle.fact_plan.specs.declared.plan.PlanRef.TheVariants.{Word, Entry}
use Rattle.fact_plan.specs.declared.plan.PlanType.{PlanType}
use Rattle.fact_plan.specs.declared.plan.PlanType.TheVariants as entry
use Rattle.fact_generate.specs.declared.form.AdapterForm.{AdapterForm}
use Rattle.fact_generate.specs.declared.form.AdapterForm.TheVariants as form

-- the forms in turn, tuples nested so deep
abbrev pub adapter_forms : (depth : ℕ) → List AdapterForm
adapter_forms depth = form.Number ∷ form.Chars ∷ form.Record ∷ form.Text ∷ form.List ∷ form.Variant ∷ form.Nest depth ∷ form.Many ∷ []

-- the form of adapter k
abbrev pub adapter_form : ℕ → AdapterForm
adapter_form k = get_or (adapter_forms (1 + (k / 8) % 10)) (k % 8) form.Number

-- ---- types: those that a side needs, the first of them at a place of the plan's types

-- Fields and cases stand in another order on the side that lifts.
abbrev pub fields_for : (lifts : Bool) → List (List ℕ × PlanRef)
fields_for false = (codes "a", Word word.U8) ∷ (codes "b", Word word.U32) ∷ []
fields_for true = (codes "b", Word word.U32) ∷ (codes "a", Word word.U8) ∷ []

abbrev pub cases_for : (lifts : Bool) → List (List ℕ × Option PlanRef)
cases_for false = (codes "p", Some (Word word.Float32)) ∷ (codes "q", Some (Word word.Float64)) ∷ (codes "r", None) ∷ []
cases_for true = (codes "r", None) ∷ (codes "q", Some (Word word.Float64)) ∷ (codes "p", Some (Word word.Float32)) ∷ []

-- The innermost type is u32. One that is nested once more is a tuple of what was there and a list of the same entry, which
-- stands before it.
abbrev pub nest_ref : (place depth : ℕ) → PlanRef
nest_ref place zero = Word word.U32
nest_ref place (suc d) = Entry (place + (2 * d + 1))

abbrev pub nest_types : (place depth : ℕ) → List PlanType
nest_types place zero = []
nest_types place (suc d) = nest_types place d ++ entry.List (nest_ref place d) ∷ entry.Tuple (nest_ref place d ∷ Entry (place + 2 * d) ∷ []) ∷ []

abbrev pub types_for : (lifts : Bool) → AdapterForm → (place : ℕ) → List PlanType
types_for lifts form.Record place = entry.Record (fields_for lifts) ∷ []
types_for lifts form.List place = entry.List (Word word.U16) ∷ []
types_for lifts form.Variant place = entry.Variant (cases_for lifts) ∷ []
types_for lifts (form.Nest depth) place = nest_types place depth
types_for lifts form.Many place = entry.Option (Word word.U64) ∷ entry.Result (Some (Word word.String)) (Some (Entry place)) ∷ []
types_for lifts _ place = []

-- ---- functions, over the types of a side, the first of which is at a place

-- one parameter x
abbrev pub x_alone : PlanRef → List (List ℕ × PlanRef)
x_alone ty = (codes "x", ty) ∷ []

-- the parameters x0 to x16
abbrev pub many_params : List (List ℕ × PlanRef)
many_params = map (λ i. (codes "x" ++ decimal i, Word word.U32)) (range_with_len 0 17)

abbrev pub params_for : AdapterForm → (place : ℕ) → List (List ℕ × PlanRef)
params_for form.Number place = x_alone (Word word.U32)
params_for form.Chars place = (codes "x", Word word.Char) ∷ (codes "y", Word word.S8) ∷ []
params_for form.Record place = x_alone (Entry place)
params_for form.Text place = x_alone (Word word.String)
params_for form.List place = x_alone (Entry place)
params_for form.Variant place = x_alone (Entry place)
params_for (form.Nest depth) place = x_alone (nest_ref place depth)
params_for form.Many place = many_params

abbrev pub results_for : AdapterForm → (place : ℕ) → List PlanRef
results_for form.Chars place = Word word.Bool ∷ []
results_for form.Text place = Word word.String ∷ []
results_for form.List place = Entry place ∷ []
results_for form.Many place = Entry (place + 1) ∷ []
results_for _ place = []

-- Adapters of numbers need no memory, all others have one on both sides.
abbrev pub needs_memory : AdapterForm → Bool
needs_memory form.Number = false
needs_memory _ = true
