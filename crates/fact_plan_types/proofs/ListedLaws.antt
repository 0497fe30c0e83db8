-- Fields, cases and names that are listed one by one.
use Rattle.std.proofs.Common.{◌≡◌, ◌<◌, ◌+◌, ℕ, List, [], ◌∷◌, ◌++◌, length, map, take, get_or, Option, Some, Bool, true, false, ◌||◌, if◌then◌else◌, refl, sym, ◌∙◌, ap, subst, arith, length-take}
use Rattle.std.specs.Prelude.{nat_eq}
use Rattle.std.specs.List.{list_any}
use Rattle.std.specs.Cmp.Lexicographic.{pointwise}
use Rattle.std.proofs.lemmas.Bool.{eqb-true, true≢false}
use Rattle.std.proofs.lemmas.List.{get_or-take, get_or-map, length-map, map-append, take-map, take_more}
use Rattle.std.proofs.lemmas.List.Folds.{Any-from_list_any}
use Rattle.indexmap.proofs.IndexTableLemmas.Writes.{index_any_default}
use Rattle.indexmap.specs.IndexMap.{insert_entry}
use Rattle.indexmap.specs.IndexSet.{insert_key}
use Rattle.fact_types.specs.declared.interface.InterfaceType.{InterfaceType}
use Rattle.fact_types.specs.declared.kinds.RecordField.{RecordField}
use Rattle.fact_types.specs.Exact.{exact_list}
use Rattle.fact_types.specs.Shapes.{Shape}
use Rattle.fact_types.specs.Tables.{Tables, HasMembers, HasShape}
use Rattle.fact_plan.specs.declared.plan.PlanRef.{PlanRef}
use Rattle.fact_plan_types.specs.PlanShapes.{cases_of, fields_of, payload_of, shape_of}
use Rattle.fact_plan_types.specs.Standing.{PayloadStands}
use Rattle.fact_plan_types.specs.TypeRules.{IsRepeated}
use Rattle.fact_plan_types.proofs.MemberLaws.{case_more, field_more}

-- the items up to one, with it
abbrev up_to : {X : Type 0} (xs : List X) (i : ℕ) (x : X) → i < length xs → x ≡ get_or xs i x → take (i + 1) xs ≡ take i xs ++ x ∷ []
up_to xs i x within is = take_more xs i x within ∙ ap (λ (y : _). take i xs ++ y ∷ []) (sym is)

-- ---- fields
abbrev pub named : RecordField → List ℕ × Option InterfaceType
named f = (f.name, Some f.ty)

pub next_field : (t : Tables) (ss : List Shape) (found more : List RecordField) (name : List ℕ) (ty : InterfaceType) (fs : List (List ℕ × PlanRef)) (i : ℕ) (f : List ℕ × PlanRef)
    → more ≡ found ++ record { name = name; ty = ty } ∷ [] → i < length fs → f ≡ get_or fs i f → name ≡ f.0 → HasMembers t (map named found) (fields_of ss (take i fs)) → HasShape t ty (shape_of ss f.1)
    → HasMembers t (map named more) (fields_of ss (take (i + 1) fs))
next_field t ss found more name ty fs i f e within is same h s =
    let xs : map named more ≡ map named found ++ (f.0, Some ty) ∷ [] = ap (map named) e ∙ map-append named found _ ∙ ap (λ (n : List ℕ). map named found ++ (n, Some ty) ∷ []) same in
    subst (λ (us : List (List ℕ × Option InterfaceType)). HasMembers t us (fields_of ss (take (i + 1) fs))) (sym xs)
    (subst (λ (us : List (List ℕ × PlanRef)). HasMembers t (map named found ++ (f.0, Some ty) ∷ []) (fields_of ss us)) (sym (up_to fs i f within is))
    (field_more t (map named found) ss (take i fs) f ty h s))

-- ---- names that are distinct
same_text : (x y : List ℕ) → pointwise nat_eq x y ≡ true → x ≡ y
same_text = exact_list nat_eq (λ a b h. eqb-true a b h)

seen_before : (names : List (List ℕ)) (i : ℕ) (x : List ℕ) → i < length names → x ≡ get_or names i x → list_any (pointwise nat_eq x) (take i names) ≡ true → IsRepeated names
seen_before names i x within is h pairs =
    let found = Any-from_list_any (pointwise nat_eq x) (take i names) h in
    let k = found.0 in
    let y = found.1 in
    let before : k < i = omega (arith, found.2, length-take i names) in
    let at_k : get_or names k x ≡ y = index_any_default names k x y (omega (arith, before, within)) ∙ sym (get_or-take i names k y before) ∙ found.3 in
    pairs k i x before within (at_k ∙ sym (same_text x y found.4) ∙ is)

not_true : (b : Bool) → (b ≡ true → ⊥) → b ≡ false
not_true true n = absurd (n refl)
not_true false n = refl

fresh : (names : List (List ℕ)) → (IsRepeated names → ⊥) → (i : ℕ) (x : List ℕ) → i < length names → x ≡ get_or names i x → list_any (pointwise nat_eq x) (take i names) ≡ false
fresh names d i x within is = not_true _ (λ h. d (seen_before names i x within is h))

pub next_name : (names keys more : List (List ℕ)) (i : ℕ) (x name : List ℕ) → (IsRepeated names → ⊥) → i < length names → x ≡ get_or names i x → name ≡ x → keys ≡ take i names → more ≡ insert_key (pointwise nat_eq) keys name → more ≡ take (i + 1) names
next_name names keys more i x name d within is same e m =
    let new = fresh names d i x within is in
    m ∙ (λ j. insert_key (pointwise nat_eq) (e j) (same j)) ∙ ap (λ (b : Bool). if b then take i names else (take i names ++ x ∷ [])) new ∙ sym (up_to names i x within is)

-- ---- cases
or_first : (a b : Bool) → a || b ≡ false → a ≡ false
or_first true b h = h
or_first false b h = refl

or_second : (a b : Bool) → a || b ≡ false → b ≡ false
or_second true b h = absurd (true≢false h)
or_second false b h = h

insert_new : {K V : Type 0} (eq : K → K → Bool) (k : K) (v : V) (es : List (K × V)) → list_any (eq k) (map (λ e. e.0) es) ≡ false → insert_entry eq es k v ≡ es ++ (k, v) ∷ []
insert_new eq k v [] h = refl
insert_new eq k v (e ∷ es) h =
    let rest = insert_new eq k v es (or_second (eq k e.0) _ h) in
    ap (λ (b : Bool). if b then ((e.0, v) ∷ es) else (e ∷ insert_entry eq es k v)) (or_first (eq k e.0) _ h) ∙ ap (λ (us : List _). e ∷ us) rest

abbrev pub case_names : {P : Type 0} → List (List ℕ × P) → List (List ℕ)
case_names cs = map (λ c. c.0) cs

pub put_case : (found more : List (List ℕ × Option InterfaceType)) (name : List ℕ) (p : Option InterfaceType) (cs : List (List ℕ × Option PlanRef)) (i : ℕ) (c : List ℕ × Option PlanRef)
    → (IsRepeated (case_names cs) → ⊥) → i < length cs → c ≡ get_or cs i c → name ≡ c.0 → case_names found ≡ case_names (take i cs) → more ≡ insert_entry (pointwise nat_eq) found name p
    → more ≡ found ++ (c.0, p) ∷ []
put_case found more name p cs i c d within is same names m =
    let here : c.0 ≡ get_or (case_names cs) i c.0 = ap (λ (x : List ℕ × Option PlanRef). x.0) is ∙ sym (get_or-map (λ (x : List ℕ × Option PlanRef). x.0) cs i c c.0 within) in
    let new = fresh (case_names cs) d i c.0 (simp length-map within) here in
    let absent : list_any (pointwise nat_eq c.0) (case_names found) ≡ false = ap (list_any (pointwise nat_eq c.0)) (names ∙ sym (take-map (λ (x : List ℕ × Option PlanRef). x.0) i cs)) ∙ new in
    m ∙ ap (λ (n : List ℕ). insert_entry (pointwise nat_eq) found n p) same ∙ insert_new (pointwise nat_eq) c.0 p found absent

pub next_case : (t : Tables) (ss : List Shape) (found more : List (List ℕ × Option InterfaceType)) (p : Option InterfaceType) (cs : List (List ℕ × Option PlanRef)) (i : ℕ) (c : List ℕ × Option PlanRef)
    → more ≡ found ++ (c.0, p) ∷ [] → i < length cs → c ≡ get_or cs i c → HasMembers t found (cases_of ss (take i cs)) → PayloadStands t p (payload_of ss c.1) → HasMembers t more (cases_of ss (take (i + 1) cs))
next_case t ss found more p cs i c e within is h s =
    subst (λ (us : List (List ℕ × Option InterfaceType)). HasMembers t us (cases_of ss (take (i + 1) cs))) (sym e)
    (subst (λ (us : List (List ℕ × Option PlanRef)). HasMembers t (found ++ (c.0, p) ∷ []) (cases_of ss us)) (sym (up_to cs i c within is))
    (case_more t found ss (take i cs) c p h s))

pub next_case_names : (found more : List (List ℕ × Option InterfaceType)) (p : Option InterfaceType) (cs : List (List ℕ × Option PlanRef)) (i : ℕ) (c : List ℕ × Option PlanRef)
    → more ≡ found ++ (c.0, p) ∷ [] → i < length cs → c ≡ get_or cs i c → case_names found ≡ case_names (take i cs) → case_names more ≡ case_names (take (i + 1) cs)
next_case_names found more p cs i c e within is names =
    ap case_names e ∙ map-append (λ (x : List ℕ × Option InterfaceType). x.0) found _ ∙ ap (λ (ns : List (List ℕ)). ns ++ c.0 ∷ []) names
    ∙ sym (map-append (λ (x : List ℕ × Option PlanRef). x.0) (take i cs) (c ∷ [])) ∙ sym (ap case_names (up_to cs i c within is))
