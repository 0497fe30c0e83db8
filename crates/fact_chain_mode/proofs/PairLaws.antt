-- Pairs of adapters: types that are the same one by one, and where the one leads to the other.
use Rattle.std.proofs.Common.{◌≡◌, ◌⊎◌, inl, inr, ℕ, suc, Bool, true, false, ◌&&◌, List, [], ◌∷◌, Option, Some, None, refl, sym, ap, ◌∙◌, subst}
use Rattle.std.specs.Prelude.{nat_eq}
use Rattle.std.specs.Bool.{Decides}
use Rattle.std.specs.Cmp.{first_so, second_so}
use Rattle.std.specs.Cmp.Lexicographic.{pointwise}
use Rattle.std.specs.Str.{bytes_eq}
use Rattle.std.proofs.lemmas.Bool.{false≢true, true≢false}
use Rattle.std.proofs.lemmas.Slice.Eq.{slice_eq-Decides}
use Rattle.fact_types.specs.declared.interface.InterfaceType.{InterfaceType}
use Rattle.fact_types.specs.contracts.interface.InterfaceTypePartialEq.TheImpl as type_eq
use Rattle.fact_types.specs.contracts.interface.InterfaceTypeEq.TheImpl.Laws.{laws-law as type_laws}
use Rattle.fact_types.specs.Adapters.{LinkedAdapter}
use Rattle.fact_types.specs.Exact.{exact_type}
use Rattle.fact_types.specs.Functions.{HaveShapes}
use Rattle.fact_types.specs.Shapes.{Shape}
use Rattle.fact_types.specs.Tables.{Tables, HasShape}
use Rattle.fact_types.specs.Tuples.{members_from, tuple_of}
use Rattle.fact_types.proofs.ShapeLaws.{none_some}
use Rattle.fact_plan.specs.declared.plan.FusePlan.{FusePlan}
use Rattle.fact_plan_types.specs.PlanShapes.{same_members, same_shape}
use Rattle.fact_plan_types.proofs.HandleLaws.{same_shape-exact, same_shape-refl}
use Rattle.fact_plan_types.proofs.TupleLaws.{OneIndex}
use Rattle.fact_adapter_rules.specs.Adapters.{adapters_of}
use Rattle.fact_host.specs.declared.calling.HostCall.{HostCall}
use Rattle.fact_chain.specs.Between.{AreJoined}
use Rattle.fact_actions.specs.Running.{ImportPlaces}
use Rattle.fact_host.specs.Describes.{DescribesHostSide}
use Rattle.fact_call_laws.proofs.Setting.{one_shapes}
use Rattle.fact_call_mode.specs.Calls.{callable_named}
use Rattle.fact_chain_mode.specs.ChainReplies.{LacksOneName}
use Rattle.fact_chain_mode.specs.ChainTexts.{LeadsNowhere, are_same_types, leads_to}

-- ---- types that are the same

same_type : (a b : InterfaceType) → Decides (type_eq.ghosts.eq a b) (a ≡ b)
same_type a b = (exact_type a b, λ e. ap (type_eq.ghosts.eq a) (sym e) ∙ type_laws.refl a)

same_types : (xs ys : List InterfaceType) (b : Bool) → b ≡ pointwise type_eq.ghosts.eq xs ys → Decides b (xs ≡ ys)
same_types = slice_eq-Decides same_type

-- types of the same shapes, one by one, are one
types_by_members : (t : Tables) → OneIndex t → (n : ℕ) (xs ys : List InterfaceType) (ss zs : List Shape) → HaveShapes t xs ss → HaveShapes t ys zs → same_members (members_from n ss) (members_from n zs) ≡ true → xs ≡ ys
types_by_members t one n [] [] ss zs h g e = refl
types_by_members t one n [] (y ∷ ys) [] [] h g e = absurd g
types_by_members t one n [] (y ∷ ys) [] (z ∷ zs) h g e = absurd (false≢true e)
types_by_members t one n [] (y ∷ ys) (s ∷ ss) zs h g e = absurd h
types_by_members t one n (x ∷ xs) [] [] zs h g e = absurd h
types_by_members t one n (x ∷ xs) [] (s ∷ ss) [] h g e = absurd (false≢true e)
types_by_members t one n (x ∷ xs) [] (s ∷ ss) (z ∷ zs) h g e = absurd g
types_by_members t one n (x ∷ xs) (y ∷ ys) [] zs h g e = absurd h
types_by_members t one n (x ∷ xs) (y ∷ ys) (s ∷ ss) [] h g e = absurd g
types_by_members t one n (x ∷ xs) (y ∷ ys) (s ∷ ss) (z ∷ zs) h g e =
    let r = second_so (bytes_eq (n ∷ []) (n ∷ [])) (same_shape s z && same_members (members_from (suc n) ss) (members_from (suc n) zs)) e in
    let shape : s ≡ z = same_shape-exact s z (first_so (same_shape s z) (same_members (members_from (suc n) ss) (members_from (suc n) zs)) r) in
    let head : x ≡ y = one x y z (subst (HasShape t x) shape h.0) g.0 in
    let tail : xs ≡ ys = types_by_members t one (suc n) xs ys ss zs h.1 g.1 (second_so (same_shape s z) (same_members (members_from (suc n) ss) (members_from (suc n) zs)) r) in
    λ i. head i ∷ tail i

pub types_by_shapes : (t : Tables) → OneIndex t → (xs ys : List InterfaceType) (ss zs : List Shape) → HaveShapes t xs ss → HaveShapes t ys zs → are_same_types ss zs ≡ true → xs ≡ ys
types_by_shapes t one xs ys ss zs h g e = types_by_members t one 0 xs ys ss zs h g e

-- a test of lists of types tells whether their shapes are the same
pub tested : (t : Tables) → OneIndex t → (xs ys : List InterfaceType) (b : Bool) → b ≡ pointwise type_eq.ghosts.eq xs ys → (ss zs : List Shape) → HaveShapes t xs ss → HaveShapes t ys zs → b ≡ are_same_types ss zs
tested t one xs ys true is ss zs h g =
    let same : xs ≡ ys = (same_types xs ys true is).0 refl in
    let shapes : ss ≡ zs = one_shapes t ys ss zs (subst (λ l. HaveShapes t l ss) same h) g in
    sym (subst (λ l. are_same_types ss l ≡ true) shapes (same_shape-refl (tuple_of ss)))
tested t one xs ys false is ss zs h g = by (are_same_types ss zs) refl
  where
    by : (b : Bool) → are_same_types ss zs ≡ b → false ≡ are_same_types ss zs
    by true e = absurd (false≢true ((same_types xs ys false is).1 (types_by_shapes t one xs ys ss zs h g e)))
    by false e = sym e

-- ---- adapters that lead to others

all_true : (x y z : Bool) → x && (y && z) ≡ true → (y ≡ true) × (z ≡ true)
all_true true true true e = (refl, refl)
all_true true true false e = absurd (false≢true e)
all_true true false z e = absurd (false≢true e)
all_true false y z e = absurd (false≢true e)

-- two calls of adapters, the first of which leads to the second
pub calls_are_joined : (t : Tables) → OneIndex t → (p : ImportPlaces) (a b : LinkedAdapter) (first second : HostCall) → DescribesHostSide t first.lift p a.lift → DescribesHostSide t second.lower p b.lower → leads_to a b ≡ true → AreJoined first second
calls_are_joined t one p a b first second lift lower e =
    let same = all_true _ (are_same_types a.lift.params b.lower.params) (are_same_types a.lift.results b.lower.results) e in
    record {
      params = types_by_shapes t one first.lift.params second.lower.params a.lift.params b.lower.params lift.params lower.params same.0;
      results = types_by_shapes t one first.lift.results second.lower.results a.lift.results b.lower.results lift.results lower.results same.1;
    }

-- one of two names is that of no adapter
nowhere_by : (first second : Option LinkedAdapter) → (first ≡ None) ⊎ (second ≡ None) → LeadsNowhere first second
nowhere_by None second h = tt
nowhere_by (Some a) None h = tt
nowhere_by (Some a) (Some b) (inl e) = absurd (none_some (Some a) a e refl)
nowhere_by (Some a) (Some b) (inr e) = absurd (none_some (Some b) b e refl)

pub lacks_one : (p : FusePlan) (first second : List ℕ) → LacksOneName p first second → LeadsNowhere (callable_named first (adapters_of p)) (callable_named second (adapters_of p))
lacks_one p first second h = nowhere_by (callable_named first (adapters_of p)) (callable_named second (adapters_of p)) h

-- the one does not lead to the other
pub apart : (o q : Option LinkedAdapter) (a b : LinkedAdapter) → o ≡ Some a → q ≡ Some b → leads_to a b ≡ false → LeadsNowhere o q
apart o q a b e g h = subst (λ x. LeadsNowhere x q) (sym e) (subst (λ x. LeadsNowhere (Some a) x) (sym g) h)

-- what comes of three tests one after another
params_same : (x y z : Bool) → x ≡ true → y ≡ true → z ≡ x && (y && z)
params_same true true z e g = refl
params_same true false z e g = absurd (false≢true g)
params_same false y z e g = absurd (false≢true e)

params_other : (x y z : Bool) → x ≡ true → y ≡ false → y ≡ x && (y && z)
params_other true false z e g = refl
params_other true true z e g = absurd (true≢false g)
params_other false y z e g = absurd (false≢true e)

-- so two adapters are tested
module _ (a b : LinkedAdapter) (x y z : Bool) (there : x ≡ nat_eq a.lift.instance b.lower.instance) (params : y ≡ are_same_types a.lift.params b.lower.params) (results : z ≡ are_same_types a.lift.results b.lower.results) where
  by_tests : x && (y && z) ≡ leads_to a b
  by_tests = λ i. there i && (params i && results i)

  pub tested_results : x ≡ true → y ≡ true → z ≡ leads_to a b
  tested_results e g = params_same x y z e g ∙ by_tests

  pub tested_params : x ≡ true → y ≡ false → y ≡ leads_to a b
  tested_params e g = params_other x y z e g ∙ by_tests
