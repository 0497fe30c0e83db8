-- The shapes of a plan's entries one by one, and the first fault at an entry.
use Rattle.std.proofs.Common.{◌≡◌, ◌<◌, ◌≤◌, ◌+◌, ℕ, zero, suc, List, [], ◌∷◌, ◌++◌, length, drop, Option, Some, None, refl, sym, ◌∙◌, ap, subst, arith, inl, inr}
use Rattle.std.specs.Prelude.{slice_get, IfSome, IsSomeAnd}
use Rattle.std.proofs.lemmas.Bool.{cases_lt}
use Rattle.std.proofs.lemmas.List.{drop_more}
use Rattle.std.proofs.lemmas.Option.{get_or_from_slice_get, slice_get_past, slice_get_within}
use Rattle.fact_types.specs.Shapes.{Shape}
use Rattle.fact_types.specs.Valid.{nesting}
use Rattle.fact_plan.specs.declared.plan.PlanType.{PlanType}
use Rattle.fact_plan.specs.declared.plan.PlanFunc.{PlanFunc}
use Rattle.fact_plan.specs.declared.plan.FusePlan.{FusePlan}
use Rattle.fact_plan_types.specs.declared.rules.Rule.{Rule}
use Rattle.fact_plan_types.specs.declared.rules.Rule.TheVariants as rule
use Rattle.fact_plan_types.specs.Adding.{AreTuplesTooWide, IsTooWide}
use Rattle.fact_plan_types.specs.Faults.{Fault, rank, unknown_index, bad_type, too_large, bad_options, type_mismatch, bad_memory, bad_signature, import_conflict, duplicate_name, IsFirstFault}
use Rattle.fact_plan_types.specs.PlanShapes.{HandleTables, entry_shape, plan_shapes, shapes_from, tables_with}
use Rattle.fact_plan_types.specs.Reached.{FuncBreaksFirst}
use Rattle.fact_plan_types.specs.BrokenRules.{Breaks, fault_of}
use Rattle.fact_plan_types.specs.TypeRules.{HasFuncFault, HasTypeFault, IsTooLarge, IsUnknown, LacksTable, FuncHas, TypeHas, param_shapes, result_shapes}

-- ---- the shapes of entries
pub drop_here : {X : Type 0} (xs : List X) (k : ℕ) (x : X) → slice_get xs k ≡ Some x → drop k xs ≡ x ∷ drop (k + 1) xs
drop_here xs k x h = drop_more xs k x (slice_get_within xs k x h) ∙ ap (λ (y : _). y ∷ drop (k + 1) xs) (get_or_from_slice_get xs k x x h)

still_there : {X : Type 0} (xs ys : List X) (j : ℕ) (x : X) → slice_get xs j ≡ Some x → slice_get (xs ++ ys) j ≡ Some x
still_there [] ys j x h = absurd (cc)
still_there (y ∷ xs) ys zero x h = h
still_there (y ∷ xs) ys (suc j) x h = still_there xs ys j x h

last_there : {X : Type 0} (xs : List X) (x : X) → slice_get (xs ++ x ∷ []) (length xs) ≡ Some x
last_there [] x = refl
last_there (y ∷ xs) x = last_there xs x

-- a shape stays, whatever entries follow
shape_stays : (es : List PlanType) (before : List Shape) (h : HandleTables) (j : ℕ) (s : Shape) → slice_get before j ≡ Some s → slice_get (shapes_from before h es) j ≡ Some s
shape_stays [] before h j s e = e
shape_stays (x ∷ es) before h j s e = shape_stays es (before ++ entry_shape before h x ∷ []) (tables_with before h x) j s (still_there before _ j s e)

pub shape_at : (p : FusePlan) (k : ℕ) (before : List Shape) (h : HandleTables) (e : PlanType) → shapes_from before h (drop k p.types) ≡ plan_shapes p → length before ≡ k → slice_get p.types k ≡ Some e
    → slice_get (plan_shapes p) k ≡ Some (entry_shape before h e)
shape_at p k before h e whole count here =
    let after = before ++ entry_shape before h e ∷ [] in
    let rest = tables_with before h e in
    let there = shape_stays (drop (k + 1) p.types) after rest (length before) (entry_shape before h e) (last_there before (entry_shape before h e)) in
    ap (λ (ss : List Shape). slice_get ss k) (sym whole ∙ ap (shapes_from before h) (drop_here p.types k e here)) ∙ ap (slice_get (shapes_from after rest (drop (k + 1) p.types))) (sym count) ∙ there

pub whole_next : (p : FusePlan) (k : ℕ) (before : List Shape) (h : HandleTables) (e : PlanType) → shapes_from before h (drop k p.types) ≡ plan_shapes p → slice_get p.types k ≡ Some e
    → shapes_from (before ++ entry_shape before h e ∷ []) (tables_with before h e) (drop (k + 1) p.types) ≡ plan_shapes p
whole_next p k before h e whole here = sym (ap (shapes_from before h) (drop_here p.types k e here)) ∙ whole

-- ---- what an entry has
some_and : {X : Type 0} (P : X → Type 0) (o : Option X) (x : X) → o ≡ Some x → P x → IsSomeAnd o P
some_and P o x e h = subst (λ (q : Option _). IsSomeAnd q P) (sym e) h

and_some : {X : Type 0} (P : X → Type 0) (o : Option X) (x : X) → o ≡ Some x → IsSomeAnd o P → P x
and_some P o x e h = subst (λ (q : Option _). IsSomeAnd q P) e h

pub has_type_fault : (p : FusePlan) (k : ℕ) (e : PlanType) (o : Option Shape) (g : Fault) → slice_get p.types k ≡ Some e → slice_get (plan_shapes p) k ≡ o → TypeHas p k e o g → HasTypeFault p k g
has_type_fault p k e o g here shape h = some_and _ _ e here (subst (λ (q : Option Shape). TypeHas p k e q g) (sym shape) h)

pub type_fault_has : (p : FusePlan) (k : ℕ) (e : PlanType) (o : Option Shape) (g : Fault) → slice_get p.types k ≡ Some e → slice_get (plan_shapes p) k ≡ o → HasTypeFault p k g → TypeHas p k e o g
type_fault_has p k e o g here shape h = subst (λ (q : Option Shape). TypeHas p k e q g) shape (and_some (λ (x : PlanType). TypeHas p k x (slice_get (plan_shapes p) k) g) _ e here h)

pub has_func_fault : (p : FusePlan) (k : ℕ) (f : PlanFunc) (g : Fault) → slice_get p.funcs k ≡ Some f → FuncHas p k f (param_shapes p f) (result_shapes p f) g → HasFuncFault p k g
has_func_fault p k f g here h = some_and (λ (x : PlanFunc). FuncHas p k x (param_shapes p x) (result_shapes p x) g) _ f here h

pub func_fault_has : (p : FusePlan) (k : ℕ) (f : PlanFunc) (g : Fault) → slice_get p.funcs k ≡ Some f → HasFuncFault p k g → FuncHas p k f (param_shapes p f) (result_shapes p f) g
func_fault_has p k f g here h = and_some (λ (x : PlanFunc). FuncHas p k x (param_shapes p x) (result_shapes p x) g) _ f here h

pub none_past : {X : Type 0} (xs : List X) (P : X → Type 0) (j : ℕ) → length xs ≤ j → IsSomeAnd (slice_get xs j) P → ⊥
none_past xs P j l h = subst (λ (q : Option _). IsSomeAnd q P) (slice_get_past xs j l) h

-- ---- the rules that are looked for before one
pub before_bad : (Has : Fault → Type 0) → (Has unknown_index → ⊥) → (g : Fault) → rank g < rank bad_type → Has g → ⊥
before_bad Has u unknown_index l h = u h
before_bad Has u bad_type l h = omega arith
before_bad Has u too_large l h = omega arith
before_bad Has u bad_options l h = omega arith
before_bad Has u type_mismatch l h = omega arith
before_bad Has u bad_memory l h = omega arith
before_bad Has u bad_signature l h = omega arith
before_bad Has u import_conflict l h = omega arith
before_bad Has u duplicate_name l h = omega arith

pub before_large : (Has : Fault → Type 0) → (Has unknown_index → ⊥) → (Has bad_type → ⊥) → (g : Fault) → rank g < rank too_large → Has g → ⊥
before_large Has u b unknown_index l h = u h
before_large Has u b bad_type l h = b h
before_large Has u b too_large l h = omega arith
before_large Has u b bad_options l h = omega arith
before_large Has u b type_mismatch l h = omega arith
before_large Has u b bad_memory l h = omega arith
before_large Has u b bad_signature l h = omega arith
before_large Has u b import_conflict l h = omega arith
before_large Has u b duplicate_name l h = omega arith

pub first_fault : (Has : ℕ → Fault → Type 0) (k : ℕ) (f : Fault) → Has k f → ((g : Fault) → rank g < rank f → Has k g → ⊥) → ((j : ℕ) (g : Fault) → j < k → Has j g → ⊥) → IsFirstFault Has k f
first_fault Has k f h r n = record { has = h; no_rule_before = r; no_entry_before = n }

-- an entry that breaks a rule of those that look at it alone
pub rule_first : (p : FusePlan) (k : ℕ) (e : PlanType) (r : Rule) → slice_get p.types k ≡ Some e → ((j : ℕ) (g : Fault) → j < k → HasTypeFault p j g → ⊥) → Breaks p k e (Some r) → IsFirstFault (HasTypeFault p) k (fault_of r)
rule_first p k e rule.UnknownIndex here n b = first_fault _ k _ (has_type_fault p k e _ unknown_index here refl b) (λ g l h. omega (arith, l)) n
rule_first p k e rule.BadType here n b = first_fault _ k _ (has_type_fault p k e _ bad_type here refl b.1)
    (before_bad (HasTypeFault p k) (λ h. b.0 (type_fault_has p k e _ unknown_index here refl h))) n
rule_first p k e rule.TooLarge here n b = first_fault _ k _ (has_type_fault p k e _ too_large here refl (inl b.2))
    (before_large (HasTypeFault p k) (λ h. b.0 (type_fault_has p k e _ unknown_index here refl h)) (λ h. b.1 (type_fault_has p k e _ bad_type here refl h))) n

-- an entry whose type is too large
pub large_first : (p : FusePlan) (k : ℕ) (e : PlanType) (s : Shape) → slice_get p.types k ≡ Some e → slice_get (plan_shapes p) k ≡ Some s → ((j : ℕ) (g : Fault) → j < k → HasTypeFault p j g → ⊥) → Breaks p k e None → IsTooLarge s
    → IsFirstFault (HasTypeFault p) k too_large
large_first p k e s here shape n b l = first_fault _ k _ (has_type_fault p k e (Some s) too_large here shape (inr l))
    (before_large (HasTypeFault p k) (λ h. b.0 (type_fault_has p k e _ unknown_index here shape h)) (λ h. b.1 (type_fault_has p k e _ bad_type here shape h))) n

pub wide_large : (s : Shape) → IsTooWide s → IsTooLarge s
wide_large s w = elim w [ inl p ↦ inl p | inr q ↦ inr (inl q) ]

not_large : (s : Shape) → (IsTooWide s → ⊥) → nesting s ≤ 100 → IsTooLarge s → ⊥
not_large s w n l = elim l [ inl p ↦ w (inl p) | inr q ↦ elim q [ inl r ↦ w (inr r) | inr d ↦ omega (arith, d, n) ] ]

pub no_type_fault : (p : FusePlan) (k : ℕ) (e : PlanType) (s : Shape) → Breaks p k e None → (IsTooWide s → ⊥) → nesting s ≤ 100 → (g : Fault) → TypeHas p k e (Some s) g → ⊥
no_type_fault p k e s b w n unknown_index h = b.0 h
no_type_fault p k e s b w n bad_type h = b.1 h
no_type_fault p k e s b w n too_large h = elim h [ inl l ↦ b.2 l | inr l ↦ not_large s w n l ]
no_type_fault p k e s b w n bad_options h = h
no_type_fault p k e s b w n type_mismatch h = h
no_type_fault p k e s b w n bad_memory h = h
no_type_fault p k e s b w n bad_signature h = h
no_type_fault p k e s b w n import_conflict h = h
no_type_fault p k e s b w n duplicate_name h = h

-- ---- functions
pub func_rule_first : (p : FusePlan) (k : ℕ) (f : PlanFunc) (r : Rule) → slice_get p.funcs k ≡ Some f → ((j : ℕ) (g : Fault) → j < k → HasFuncFault p j g → ⊥) → FuncBreaksFirst p k f (result_shapes p f) (Some r) → IsFirstFault (HasFuncFault p) k (fault_of r)
func_rule_first p k f rule.UnknownIndex here n b = first_fault _ k _ (has_func_fault p k f unknown_index here b) (λ g l h. omega (arith, l)) n
func_rule_first p k f rule.BadType here n b = first_fault _ k _ (has_func_fault p k f bad_type here b.1)
    (before_bad (HasFuncFault p k) (λ h. b.0 (func_fault_has p k f unknown_index here h))) n
func_rule_first p k f rule.TooLarge here n b = first_fault _ k _ (has_func_fault p k f too_large here (inl b.2))
    (before_large (HasFuncFault p k) (λ h. b.0 (func_fault_has p k f unknown_index here h)) (λ h. b.1 (func_fault_has p k f bad_type here h))) n

pub func_large_first : (p : FusePlan) (k : ℕ) (f : PlanFunc) → slice_get p.funcs k ≡ Some f → ((j : ℕ) (g : Fault) → j < k → HasFuncFault p j g → ⊥) → FuncBreaksFirst p k f (result_shapes p f) None → AreTuplesTooWide f (plan_shapes p) → IsFirstFault (HasFuncFault p) k too_large
func_large_first p k f here n b w = first_fault _ k _ (has_func_fault p k f too_large here (inr w))
    (before_large (HasFuncFault p k) (λ h. b.0 (func_fault_has p k f unknown_index here h)) (λ h. b.1 (func_fault_has p k f bad_type here h))) n

pub no_func_fault : (p : FusePlan) (k : ℕ) (f : PlanFunc) → FuncBreaksFirst p k f (result_shapes p f) None → (AreTuplesTooWide f (plan_shapes p) → ⊥) → (g : Fault) → FuncHas p k f (param_shapes p f) (result_shapes p f) g → ⊥
no_func_fault p k f b w unknown_index h = b.0 h
no_func_fault p k f b w bad_type h = b.1 h
no_func_fault p k f b w too_large h = elim h [ inl l ↦ b.2 l | inr l ↦ w l ]
no_func_fault p k f b w bad_options h = h
no_func_fault p k f b w type_mismatch h = h
no_func_fault p k f b w bad_memory h = h
no_func_fault p k f b w bad_signature h = h
no_func_fault p k f b w import_conflict h = h
no_func_fault p k f b w duplicate_name h = h

-- ---- one more entry without fault
pub one_more : (Has : ℕ → Fault → Type 0) (k : ℕ) → ((j : ℕ) (g : Fault) → j < k → Has j g → ⊥) → ((g : Fault) → Has k g → ⊥) → (j : ℕ) (g : Fault) → j < k + 1 → Has j g → ⊥
one_more Has k n here j g l h = elim (cases_lt j k) [
  | inl b ↦ n j g b h
  | inr a ↦ let e : j ≡ k = omega (arith, a, l) in here g (subst (λ (i : ℕ). Has i g) e h)
]

-- a plan that does not lack a table has it
pub table_there : (p : FusePlan) (o : Option ℕ) → (IsSomeAnd o (LacksTable p) → ⊥) → IfSome o (λ n. n < length p.tables)
table_there p None n = tt
table_there p (Some i) n = elim (cases_lt i (length p.tables)) [
  | inl l ↦ l
  | inr l ↦ absurd (n (subst (IsUnknown p.instances) (sym (slice_get_past p.tables i l)) tt))
]
