-- The shapes that the types of generated plans stand for.
use Rattle.std.proofs.Common.{◌≡◌, ℕ, zero, suc, ◌+◌, ◌*◌, Bool, true, false, List, [], ◌∷◌, ◌++◌, length, map, Option, Some, None, slice_get, unwrap_or, refl, sym, ◌∙◌, ap, subst, arith, append_assoc, append-nil, length-append}
use Rattle.fact_types.specs.declared.interface.InterfaceType.TheVariants as type
use Rattle.fact_types.specs.Shapes.{Shape, s_plain, s_node, k_result, k_tuple, no_members, typed, ok_name, error_name}
use Rattle.fact_plan.specs.declared.plan.PlanRef.TheVariants.{Entry}
use Rattle.fact_plan.specs.declared.plan.PlanType.{PlanType}
use Rattle.fact_plan.specs.declared.plan.PlanType.TheVariants as entry
use Rattle.fact_plan.specs.declared.plan.FusePlan.{FusePlan}
use Rattle.fact_plan_types.specs.PlanShapes.{HandleTables, entry_shape, no_handle_tables, plan_shapes, shape_of, shapes_from, shapes_of, tables_with}
use Rattle.fact_plan_types.specs.TypeRules.{instance_in, param_shapes, result_shapes}
use Rattle.fact_generate.specs.declared.form.AdapterForm.{AdapterForm}
use Rattle.fact_generate.specs.declared.form.AdapterForm.TheVariants as form
use Rattle.fact_generate.specs.Forms.{adapter_form, nest_ref, nest_types, params_for, results_for, types_for}
use Rattle.fact_generate.specs.Generated.{func_for, generated, with_function, with_types}
use Rattle.fact_generate.specs.Linked.{list_shape, nest_shape, option_shape, params_shaped, record_shape, result_shape, results_shaped, variant_shape}
use Rattle.fact_generate.proofs.Fronts.{get-at}

-- ---- types that make no handle tables

abbrev pub MakesNoTables : List PlanType → Type 0
MakesNoTables [] = Unit {0}
MakesNoTables (e ∷ es) = (instance_in e ≡ None) × MakesNoTables es

pub no-tables-append : (es fs : List PlanType) → MakesNoTables es → MakesNoTables fs → MakesNoTables (es ++ fs)
no-tables-append [] fs a b = b
no-tables-append (e ∷ es) fs a b = (a.0, no-tables-append es fs a.1 b)

tables-stay : (before : List Shape) (t : HandleTables) (e : PlanType) → instance_in e ≡ None → tables_with before t e ≡ t
tables-stay before t (entry.Future p i) n = absurd (cc)
tables-stay before t (entry.Stream p i) n = absurd (cc)
tables-stay before t (entry.ErrorContext i) n = absurd (cc)
tables-stay before t _ n = refl

-- types behind types
pub shapes-append : (es fs : List PlanType) (before : List Shape) (t : HandleTables) → MakesNoTables es → shapes_from before t (es ++ fs) ≡ shapes_from (shapes_from before t es) t fs
shapes-append [] fs before t n = refl
shapes-append (e ∷ es) fs before t n =
    let after = before ++ entry_shape before t e ∷ [] in
    let same = tables-stay before t e n.0 in
    ap (λ (u : HandleTables). shapes_from after u (es ++ fs)) same ∙ shapes-append es fs after t n.1 ∙ ap (λ (u : HandleTables). shapes_from (shapes_from after u es) t fs) (sym same)

-- as many shapes as types
pub shapes-count : (es : List PlanType) (before : List Shape) (t : HandleTables) → length (shapes_from before t es) ≡ length before + length es
shapes-count [] before t = omega arith
shapes-count (e ∷ es) before t = omega (arith, shapes-count es (before ++ entry_shape before t e ∷ []) (tables_with before t e), length-append before (entry_shape before t e ∷ []))

pub plan-count : (p : FusePlan) → length p.types ≡ length (plan_shapes p)
plan-count p = omega (arith, shapes-count p.types [] no_handle_tables)

-- ---- the shapes of the types of a side

abbrev pub nest_shapes : ℕ → List Shape
nest_shapes zero = []
nest_shapes (suc d) = nest_shapes d ++ list_shape (nest_shape d) ∷ nest_shape (suc d) ∷ []

abbrev pub shapes_added : (lifts : Bool) → AdapterForm → List Shape
shapes_added lifts form.Record = record_shape lifts ∷ []
shapes_added lifts form.List = list_shape (s_plain type.U16) ∷ []
shapes_added lifts form.Variant = variant_shape lifts ∷ []
shapes_added lifts (form.Nest depth) = nest_shapes depth
shapes_added lifts form.Many = option_shape ∷ result_shape ∷ []
shapes_added lifts _ = []

nest-makes-no-tables : (place d : ℕ) → MakesNoTables (nest_types place d)
nest-makes-no-tables place zero = tt
nest-makes-no-tables place (suc d) = no-tables-append (nest_types place d) _ (nest-makes-no-tables place d) (refl, (refl, tt))

pub types-make-no-tables : (lifts : Bool) (form : AdapterForm) (place : ℕ) → MakesNoTables (types_for lifts form place)
types-make-no-tables lifts form.Number place = tt
types-make-no-tables lifts form.Chars place = tt
types-make-no-tables lifts form.Record place = (refl, tt)
types-make-no-tables lifts form.Text place = tt
types-make-no-tables lifts form.List place = (refl, tt)
types-make-no-tables lifts form.Variant place = (refl, tt)
types-make-no-tables lifts (form.Nest depth) place = nest-makes-no-tables place depth
types-make-no-tables lifts form.Many place = (refl, (refl, tt))

-- ---- tuples within tuples

pub nest-count : (d : ℕ) → length (nest_shapes d) ≡ 2 * d
nest-count zero = omega arith
nest-count (suc d) = omega (arith, nest-count d, length-append (nest_shapes d) (list_shape (nest_shape d) ∷ nest_shape (suc d) ∷ []))

-- what stands at a place is the shape of the entry that names it
there : (ss : List Shape) (j : ℕ) (s : Shape) → slice_get ss j ≡ Some s → shape_of ss (Entry j) ≡ s
there ss j s h = ap (λ (o : Option Shape). unwrap_or o (s_plain type.Bool)) h

-- the shape that the innermost so many types stand for, whatever follows
pub nest-names : (d : ℕ) (before more : List Shape) → shape_of (before ++ (nest_shapes d ++ more)) (nest_ref (length before) d) ≡ nest_shape d
nest-names zero before more = refl
nest-names (suc d) before more =
    let inner = nest_shapes d ++ list_shape (nest_shape d) ∷ [] in
    let split : before ++ ((nest_shapes d ++ list_shape (nest_shape d) ∷ nest_shape (suc d) ∷ []) ++ more) ≡ (before ++ inner) ++ nest_shape (suc d) ∷ more = simp append_assoc in
    let count : length before + (2 * d + 1) ≡ length (before ++ inner) = omega (arith, length-append before inner, length-append (nest_shapes d) (list_shape (nest_shape d) ∷ []), nest-count d) in
    there (before ++ (nest_shapes (suc d) ++ more)) (length before + (2 * d + 1)) (nest_shape (suc d)) (subst (λ (l : List Shape). slice_get l (length before + (2 * d + 1)) ≡ Some (nest_shape (suc d))) (sym split) (get-at (before ++ inner) more (nest_shape (suc d)) (length before + (2 * d + 1)) count))

-- the list of what the innermost so many types stand for, as the tuple around it names it
list-named : (d : ℕ) (before more : List Shape) → shape_of ((before ++ nest_shapes d) ++ list_shape (nest_shape d) ∷ more) (Entry (length before + 2 * d)) ≡ list_shape (nest_shape d)
list-named d before more =
    there ((before ++ nest_shapes d) ++ list_shape (nest_shape d) ∷ more) (length before + 2 * d) (list_shape (nest_shape d))
    (get-at (before ++ nest_shapes d) more (list_shape (nest_shape d)) (length before + 2 * d) (omega (arith, length-append before (nest_shapes d), nest-count d)))

nest-at-end : (d : ℕ) (before : List Shape) → shape_of (before ++ nest_shapes d) (nest_ref (length before) d) ≡ nest_shape d
nest-at-end d before = ap (λ (l : List Shape). shape_of (before ++ l) (nest_ref (length before) d)) (sym (append-nil (nest_shapes d))) ∙ nest-names d before []

nest-behind : (d : ℕ) (before more : List Shape) → shape_of ((before ++ nest_shapes d) ++ more) (nest_ref (length before) d) ≡ nest_shape d
nest-behind d before more = ap (λ (l : List Shape). shape_of l (nest_ref (length before) d)) (append_assoc before (nest_shapes d) more) ∙ nest-names d before more

abbrev nested : Shape → Shape → Shape
nested s z = s_node k_tuple (typed (0 ∷ []) s (typed (1 ∷ []) z no_members))

-- one list and one tuple more
nest-step : (d : ℕ) (before : List Shape)
    → shapes_from (before ++ nest_shapes d) no_handle_tables (entry.List (nest_ref (length before) d) ∷ entry.Tuple (nest_ref (length before) d ∷ Entry (length before + 2 * d) ∷ []) ∷ []) ≡ before ++ nest_shapes (suc d)
nest-step d before =
    let ss = before ++ nest_shapes d in
    let l = list_shape (nest_shape d) in
    ap (λ (s : Shape). (ss ++ list_shape s ∷ []) ++ nested (shape_of (ss ++ list_shape s ∷ []) (nest_ref (length before) d)) (shape_of (ss ++ list_shape s ∷ []) (Entry (length before + 2 * d))) ∷ []) (nest-at-end d before)
    ∙ ap (λ (s : Shape). (ss ++ l ∷ []) ++ nested s (shape_of (ss ++ l ∷ []) (Entry (length before + 2 * d))) ∷ []) (nest-behind d before (l ∷ []))
    ∙ ap (λ (s : Shape). (ss ++ l ∷ []) ++ nested (nest_shape d) s ∷ []) (list-named d before [])
    ∙ simp append_assoc

nest-added : (d : ℕ) (before : List Shape) → shapes_from before no_handle_tables (nest_types (length before) d) ≡ before ++ nest_shapes d
nest-added zero before = sym (append-nil before)
nest-added (suc d) before =
    let two = entry.List (nest_ref (length before) d) ∷ entry.Tuple (nest_ref (length before) d ∷ Entry (length before + 2 * d) ∷ []) ∷ [] in
    shapes-append (nest_types (length before) d) two before no_handle_tables (nest-makes-no-tables (length before) d)
    ∙ ap (λ (ss : List Shape). shapes_from ss no_handle_tables two) (nest-added d before)
    ∙ nest-step d before

-- ---- the types of every form

abbrev result_over : Shape → Shape
result_over s = s_node k_result (typed ok_name (s_plain type.String) (typed error_name s no_members))

many-added : (before : List Shape) → shapes_from before no_handle_tables (types_for true form.Many (length before)) ≡ before ++ option_shape ∷ result_shape ∷ []
many-added before = ap (λ (s : Shape). (before ++ option_shape ∷ []) ++ result_over s ∷ []) (there (before ++ option_shape ∷ []) (length before) option_shape (get-at before [] option_shape (length before) refl)) ∙ append_assoc before (option_shape ∷ []) (result_shape ∷ [])

pub types-added : (lifts : Bool) (form : AdapterForm) (before : List Shape) → shapes_from before no_handle_tables (types_for lifts form (length before)) ≡ before ++ shapes_added lifts form
types-added lifts form.Number before = sym (append-nil before)
types-added lifts form.Chars before = sym (append-nil before)
types-added false form.Record before = refl
types-added true form.Record before = refl
types-added lifts form.Text before = sym (append-nil before)
types-added lifts form.List before = refl
types-added false form.Variant before = refl
types-added true form.Variant before = refl
types-added lifts (form.Nest depth) before = nest-added depth before
types-added lifts form.Many before = many-added before

pub types-stand-behind : (lifts : Bool) (form : AdapterForm) (p : FusePlan) → MakesNoTables p.types → plan_shapes (with_types lifts form p) ≡ plan_shapes p ++ shapes_added lifts form
types-stand-behind lifts form p n =
    shapes-append p.types (types_for lifts form (length p.types)) [] no_handle_tables n
    ∙ ap (λ (c : ℕ). shapes_from (plan_shapes p) no_handle_tables (types_for lifts form c)) (plan-count p)
    ∙ types-added lifts form (plan_shapes p)

pub function-makes-no-tables : (lifts : Bool) (form : AdapterForm) (p : FusePlan) → MakesNoTables p.types → MakesNoTables (with_function lifts form p).types
function-makes-no-tables lifts form p n = no-tables-append p.types (types_for lifts form (length p.types)) n (types-make-no-tables lifts form (length p.types))

pub generated-makes-no-tables : (k : ℕ) → MakesNoTables (generated k).types
unfolding generated
generated-makes-no-tables zero = tt
generated-makes-no-tables (suc k) = function-makes-no-tables true (adapter_form k) (with_function false (adapter_form k) (generated k)) (function-makes-no-tables false (adapter_form k) (generated k) (generated-makes-no-tables k))

pub types-stand : (k : ℕ) → plan_shapes (generated (suc k)) ≡ plan_shapes (generated k) ++ (shapes_added false (adapter_form k) ++ shapes_added true (adapter_form k))
unfolding generated
types-stand k =
    types-stand-behind true (adapter_form k) (with_function false (adapter_form k) (generated k)) (function-makes-no-tables false (adapter_form k) (generated k) (generated-makes-no-tables k))
    ∙ ap (λ (ss : List Shape). ss ++ shapes_added true (adapter_form k)) (types-stand-behind false (adapter_form k) (generated k) (generated-makes-no-tables k))
    ∙ append_assoc (plan_shapes (generated k)) (shapes_added false (adapter_form k)) (shapes_added true (adapter_form k))

-- ---- the parameters and the results of every form, whatever follows

entry-named : (before more : List Shape) (s : Shape) → shapes_of (before ++ s ∷ more) (Entry (length before) ∷ []) ≡ s ∷ []
entry-named before more s = ap (λ (z : Shape). z ∷ []) (there (before ++ s ∷ more) (length before) s (get-at before more s (length before) refl))

params-named : (lifts : Bool) (form : AdapterForm) (before more : List Shape) → shapes_of (before ++ (shapes_added lifts form ++ more)) (map (λ x. x.1) (params_for form (length before))) ≡ params_shaped lifts form
params-named lifts form.Number before more = refl
params-named lifts form.Chars before more = refl
params-named lifts form.Record before more = entry-named before more (record_shape lifts)
params-named lifts form.Text before more = refl
params-named lifts form.List before more = entry-named before more (list_shape (s_plain type.U16))
params-named lifts form.Variant before more = entry-named before more (variant_shape lifts)
params-named lifts (form.Nest depth) before more = ap (λ (s : Shape). s ∷ []) (nest-names depth before more)
params-named lifts form.Many before more = refl

many-named : (before more : List Shape) → shapes_of (before ++ (option_shape ∷ result_shape ∷ more)) (Entry (length before + 1) ∷ []) ≡ result_shape ∷ []
many-named before more =
    let inner = before ++ option_shape ∷ [] in
    let count : length before + 1 ≡ length inner = omega (arith, length-append before (option_shape ∷ [])) in
    let here = subst (λ (l : List Shape). slice_get l (length before + 1) ≡ Some result_shape) (append_assoc before (option_shape ∷ []) (result_shape ∷ more)) (get-at inner more result_shape (length before + 1) count) in
    ap (λ (s : Shape). s ∷ []) (there (before ++ option_shape ∷ result_shape ∷ more) (length before + 1) result_shape here)

results-named : (lifts : Bool) (form : AdapterForm) (before more : List Shape) → shapes_of (before ++ (shapes_added lifts form ++ more)) (results_for form (length before)) ≡ results_shaped form
results-named lifts form.Number before more = refl
results-named lifts form.Chars before more = refl
results-named lifts form.Record before more = refl
results-named lifts form.Text before more = refl
results-named lifts form.List before more = entry-named before more (list_shape (s_plain type.U16))
results-named lifts form.Variant before more = refl
results-named lifts (form.Nest depth) before more = refl
results-named lifts form.Many before more = many-named before more

-- the function of a side, over the types of any plan that begin with those of the side
pub params-within : (lifts : Bool) (form : AdapterForm) (p q : FusePlan) (more : List Shape) → plan_shapes q ≡ plan_shapes p ++ (shapes_added lifts form ++ more) → param_shapes q (func_for form (length p.types)) ≡ params_shaped lifts form
params-within lifts form p q more e =
    ap (λ (c : ℕ). shapes_of (plan_shapes q) (map (λ x. x.1) (params_for form c))) (plan-count p)
    ∙ ap (λ (ss : List Shape). shapes_of ss (map (λ x. x.1) (params_for form (length (plan_shapes p))))) e
    ∙ params-named lifts form (plan_shapes p) more

pub results-within : (lifts : Bool) (form : AdapterForm) (p q : FusePlan) (more : List Shape) → plan_shapes q ≡ plan_shapes p ++ (shapes_added lifts form ++ more) → result_shapes q (func_for form (length p.types)) ≡ results_shaped form
results-within lifts form p q more e =
    ap (λ (c : ℕ). shapes_of (plan_shapes q) (results_for form c)) (plan-count p)
    ∙ ap (λ (ss : List Shape). shapes_of ss (results_for form (length (plan_shapes p)))) e
    ∙ results-named lifts form (plan_shapes p) more

-- behind its own types
nothing-more : (lifts : Bool) (form : AdapterForm) (p : FusePlan) → MakesNoTables p.types → plan_shapes (with_types lifts form p) ≡ plan_shapes p ++ (shapes_added lifts form ++ [])
nothing-more lifts form p n = types-stand-behind lifts form p n ∙ ap (λ (ss : List Shape). plan_shapes p ++ ss) (sym (append-nil (shapes_added lifts form)))

pub params-stand : (lifts : Bool) (form : AdapterForm) (p : FusePlan) → MakesNoTables p.types → param_shapes (with_types lifts form p) (func_for form (length p.types)) ≡ params_shaped lifts form
params-stand lifts form p n = params-within lifts form p (with_types lifts form p) [] (nothing-more lifts form p n)

pub results-stand : (lifts : Bool) (form : AdapterForm) (p : FusePlan) → MakesNoTables p.types → result_shapes (with_types lifts form p) (func_for form (length p.types)) ≡ results_shaped form
results-stand lifts form p n = results-within lifts form p (with_types lifts form p) [] (nothing-more lifts form p n)
