-- Members of types, as they stand in the tables.
use Rattle.std.proofs.Common.{◌≡◌, ℕ, suc, List, [], ◌∷◌, ◌++◌, length, map, Option, Some, None, refl, ap, subst, All}
use Rattle.fact_types.specs.declared.interface.InterfaceType.{InterfaceType}
use Rattle.fact_types.specs.Functions.{HaveShapes}
use Rattle.fact_types.specs.Layout.{payloads}
use Rattle.fact_types.specs.Shapes.{Shape, Members, no_members, layout_of, layouts_of}
use Rattle.fact_types.specs.Tables.{Tables, placed, HasShape, HasMembers, IsLive}
use Rattle.fact_types.proofs.ShapeLaws.{more}
use Rattle.fact_builder.specs.Keeps.{Keeps}
use Rattle.fact_plan.specs.declared.plan.PlanRef.{PlanRef}
use Rattle.fact_plan_types.specs.PlanShapes.{shape_of, shapes_of, member_of, fields_of, cases_of, places_of, names_alone, payload_of}
use Rattle.fact_plan_types.specs.Standing.{PayloadStands}

-- a member that may have no type
pub payload_members : (t : Tables) (p : Option InterfaceType) (before : List Shape) (r : Option PlanRef) (name : List ℕ) (xs : List (List ℕ × Option InterfaceType)) (ms : Members)
    → PayloadStands t p (payload_of before r) → HasMembers t xs ms → HasMembers t ((name, p) ∷ xs) (member_of before name r ms)
payload_members t None before None name xs ms h k = (refl, refl, k)
payload_members t None before (Some r) name xs ms h k = absurd h
payload_members t (Some ty) before None name xs ms h k = absurd h
payload_members t (Some ty) before (Some r) name xs ms h k = (refl, (ty, refl, h), k)

pub field_more : (t : Tables) (xs : List (List ℕ × Option InterfaceType)) (before : List Shape) (fs : List (List ℕ × PlanRef)) (f : List ℕ × PlanRef) (ty : InterfaceType)
    → HasMembers t xs (fields_of before fs) → HasShape t ty (shape_of before f.1) → HasMembers t (xs ++ (f.0, Some ty) ∷ []) (fields_of before (fs ++ f ∷ []))
field_more t [] before [] f ty h s = (refl, (ty, refl, s), tt)
field_more t [] before (g ∷ fs) f ty h s = absurd h
field_more t (x ∷ xs) before [] f ty h s = absurd h
field_more t (x ∷ xs) before (g ∷ fs) f ty h s = (h.0, h.1, field_more t xs before fs f ty h.2 s)

pub case_more : (t : Tables) (xs : List (List ℕ × Option InterfaceType)) (before : List Shape) (cs : List (List ℕ × Option PlanRef)) (c : List ℕ × Option PlanRef) (p : Option InterfaceType)
    → HasMembers t xs (cases_of before cs) → PayloadStands t p (payload_of before c.1) → HasMembers t (xs ++ (c.0, p) ∷ []) (cases_of before (cs ++ c ∷ []))
case_more t [] before [] c p h s = payload_members t p before c.1 c.0 [] no_members s tt
case_more t [] before ((n, None) ∷ cs) c p h s = absurd h
case_more t [] before ((n, Some r) ∷ cs) c p h s = absurd h
case_more t (x ∷ xs) before [] c p h s = absurd h
case_more t (x ∷ xs) before ((n, None) ∷ cs) c p h s = (h.0, h.1, case_more t xs before cs c p h.2 s)
case_more t (x ∷ xs) before ((n, Some r) ∷ cs) c p h s = (h.0, h.1, case_more t xs before cs c p h.2 s)

-- types that are named by their places
pub placed_members : (t : Tables) (before : List Shape) (n : ℕ) (xs : List InterfaceType) (rs : List PlanRef) → HaveShapes t xs (shapes_of before rs) → HasMembers t (placed n xs) (places_of before n rs)
placed_members t before n [] [] h = tt
placed_members t before n [] (r ∷ rs) h = absurd h
placed_members t before n (x ∷ xs) [] h = absurd h
placed_members t before n (x ∷ xs) (r ∷ rs) h = (refl, (x, refl, h.0), placed_members t before (suc n) xs rs h.1)

some_is : {X : Type 0} (x y : X) → Some x ≡ Some y → y ≡ x
some_is x y h = cc

pub members_placed : (t : Tables) (before : List Shape) (n : ℕ) (xs : List InterfaceType) (rs : List PlanRef) → HasMembers t (placed n xs) (places_of before n rs) → HaveShapes t xs (shapes_of before rs)
members_placed t before n [] [] h = tt
members_placed t before n [] (r ∷ rs) h = absurd h
members_placed t before n (x ∷ xs) [] h = absurd h
members_placed t before n (x ∷ xs) (r ∷ rs) h =
    (subst (λ (ty : InterfaceType). HasShape t ty (shape_of before r)) (some_is x h.1.0 h.1.1) h.1.2, members_placed t before (suc n) xs rs h.2)

pub names_members : (t : Tables) (ns : List (List ℕ)) → HasMembers t (map (λ n. (n, None)) ns) (names_alone ns)
names_members t [] = tt
names_members t (n ∷ ns) = (refl, refl, names_members t ns)

-- how many members there are, and the layouts of those that are named by their places
pub names_count : (ns : List (List ℕ)) → length (layouts_of (names_alone ns)) ≡ length ns
names_count [] = refl
names_count (n ∷ ns) = ap suc (names_count ns)

pub cases_count : (before : List Shape) (cs : List (List ℕ × Option PlanRef)) → length (layouts_of (cases_of before cs)) ≡ length cs
cases_count before [] = refl
cases_count before ((n, None) ∷ cs) = ap suc (cases_count before cs)
cases_count before ((n, Some r) ∷ cs) = ap suc (cases_count before cs)

pub places_layouts : (before : List Shape) (n : ℕ) (rs : List PlanRef) → payloads (layouts_of (places_of before n rs)) ≡ map layout_of (shapes_of before rs)
places_layouts before n [] = refl
places_layouts before n (r ∷ rs) = more _ _ _ _ refl (places_layouts before (suc n) rs)

-- what a builder keeps when it grows
pub shapes_keep : (t u : Tables) → Keeps t u → (xs : List InterfaceType) (ss : List Shape) → HaveShapes t xs ss → HaveShapes u xs ss
shapes_keep t u k [] [] h = h
shapes_keep t u k [] (s ∷ ss) h = h
shapes_keep t u k (x ∷ xs) [] h = h
shapes_keep t u k (x ∷ xs) (s ∷ ss) h = (k.shapes x s h.0, shapes_keep t u k xs ss h.1)

pub live_keep : (t u : Tables) → Keeps t u → (xs : List InterfaceType) → All (IsLive t) xs → All (IsLive u) xs
live_keep t u k xs a i d l = k.live _ (a i d l)
