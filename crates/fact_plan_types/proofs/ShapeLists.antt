-- Types that stand for shapes one by one.
use Rattle.std.proofs.Common.{◌≡◌, ◌<◌, ◌≤◌, ℕ, zero, suc, List, [], ◌∷◌, ◌++◌, length, get_or, take, ◌+◌, sym, subst, arith, unwrap_or}
use Rattle.std.proofs.lemmas.List.{map_more}
use Rattle.fact_plan.specs.declared.plan.PlanRef.{PlanRef}
use Rattle.std.specs.Prelude.{slice_get, All}
use Rattle.fact_types.specs.declared.interface.InterfaceType.{InterfaceType}
use Rattle.fact_types.specs.Functions.{HaveShapes}
use Rattle.fact_types.specs.Shapes.{Shape}
use Rattle.fact_types.specs.Tables.{Tables, HasShape}
use Rattle.fact_plan_types.specs.PlanShapes.{shape_of, shapes_of}

-- the type at a place stands for the shape there
pub shape-at : (t : Tables) (types : List InterfaceType) (ss : List Shape) (d : InterfaceType) (e : Shape) (k : ℕ) → HaveShapes t types ss → k < length types → HasShape t (get_or types k d) (unwrap_or (slice_get ss k) e)
shape-at t [] [] d e k h within = absurd (omega (arith, within))
shape-at t [] (s ∷ ss) d e k h within = absurd h
shape-at t (x ∷ xs) [] d e k h within = absurd h
shape-at t (x ∷ xs) (s ∷ ss) d e zero h within = h.0
shape-at t (x ∷ xs) (s ∷ ss) d e (suc k) h within = shape-at t xs ss d e k h.1 (omega (arith, within))

pub below : (k n : ℕ) → (n ≤ k → ⊥) → k < n
below k n h = omega (arith, h)

-- one more type stands for one more shape
pub more-shapes : (t : Tables) (types : List InterfaceType) (ss : List Shape) (ty : InterfaceType) (s : Shape) → HaveShapes t types ss → HasShape t ty s → HaveShapes t (types ++ ty ∷ []) (ss ++ s ∷ [])
more-shapes t [] [] ty s h here = (here, h)
more-shapes t [] (_ ∷ ss) ty s h here = absurd h
more-shapes t (x ∷ xs) [] ty s h here = absurd h
more-shapes t (x ∷ xs) (r ∷ rs) ty s h here = (h.0, more-shapes t xs rs ty s h.1 here)

-- the type found next stands for the shape that the next entry names
pub one-more : (t : Tables) (ss : List Shape) (found more : List InterfaceType) (ty : InterfaceType) (rs : List PlanRef) (i : ℕ) (d : PlanRef) → more ≡ found ++ ty ∷ [] → i < length rs → HaveShapes t found (shapes_of ss (take i rs)) → HasShape t ty (shape_of ss (get_or rs i d)) → HaveShapes t more (shapes_of ss (take (i + 1) rs))
one-more t ss found more ty rs i d e within h here =
    subst (λ z. HaveShapes t z (shapes_of ss (take (i + 1) rs))) (sym e)
    (subst (λ z. HaveShapes t (found ++ ty ∷ []) z) (sym (map_more (shape_of ss) rs i d within)) (more-shapes t found _ ty _ h here))

all-pushed : {X : Type 0} (P : X → Type 0) (xs : List X) (y : X) → All P xs → P y → (k : ℕ) (d : X) → k < length (xs ++ y ∷ []) → P (get_or (xs ++ y ∷ []) k d)
all-pushed P [] y h here zero d within = here
all-pushed P [] y h here (suc k) d within = absurd (omega (arith, within))
all-pushed P (x ∷ xs) y h here zero d within = h zero d (omega arith)
all-pushed P (x ∷ xs) y h here (suc k) d within = all-pushed P xs y (λ j e b. h (suc j) e (omega (arith, b))) here k d (omega (arith, within))

-- what all have, all have with one more that has it
pub all-more : {X : Type 0} (P : X → Type 0) (xs more : List X) (y : X) → more ≡ xs ++ y ∷ [] → All P xs → P y → All P more
all-more P xs more y e h here = subst (All P) (sym e) (all-pushed P xs y h here)
