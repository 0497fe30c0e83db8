-- How a side passes values, and what it needs, where there was memory to tell.
use Rattle.std.proofs.Common.{◌≡◌, ℕ, Bool, true, false, List, [], ◌∷◌, ◌++◌, length, Option, Some, None, refl, ap, ◌∙◌, codes}
use Rattle.std.proofs.Math.Dec.{eqb-suc-zero}
use Rattle.std.specs.Prelude.{is_none, not, nat_eq}
use Rattle.fact_types.specs.declared.flats.FlatType.{FlatType}
use Rattle.fact_types.specs.declared.interface.InterfaceType.{InterfaceType}
use Rattle.fact_types.specs.Functions.{HaveShapes}
use Rattle.fact_types.specs.Shapes.{Shape}
use Rattle.fact_types.specs.Signatures.{lowered_flat_types, value_types_of, width}
use Rattle.fact_types.specs.Tables.{Tables}
use Rattle.fact_plan.specs.declared.plan.PlanSide.{PlanSide}
use Rattle.fact_explain.specs.declared.sides.Needs.{Needs}
use Rattle.fact_explain.specs.declared.sides.Role.{Role}
use Rattle.fact_explain.specs.declared.sides.Role.TheVariants as role
use Rattle.fact_explain.specs.CoreTypes.{signature_text}
use Rattle.fact_explain.specs.Needs.{is_wide_memory, options_line, passed_line}
use Rattle.fact_explain.specs.Roles.{HasNeeds, key_text, needs_by, signature_by, text_by}
use Rattle.fact_explain.specs.Sides.{side_head}

-- value types are there where flat types are
pub none-flat : (o : Option (List FlatType)) → is_none (value_types_of o) ≡ is_none o
none-flat None = refl
none-flat (Some fs) = refl

-- a list of types is empty as that of their shapes is
pub some-lowered : (t : Tables) (xs : List InterfaceType) (ss : List Shape) (wide b : Bool) → b ≡ nat_eq (length xs) 0 → HaveShapes t xs ss → not b ≡ is_none (lowered_flat_types true (width wide) ss)
some-lowered t [] [] wide b e h = ap not e
some-lowered t [] (s ∷ ss) wide b e h = absurd h
some-lowered t (x ∷ xs) [] wide b e h = absurd h
some-lowered t (x ∷ xs) (s ∷ ss) wide b e h = ap not (e ∙ eqb-suc-zero (length xs))

pub some-passed : (t : Tables) (xs : List InterfaceType) (ss : List Shape) (what : List ℕ) (wide : Bool) → nat_eq (length xs) 0 ≡ false → HaveShapes t xs ss → codes "    " ++ (what ++ codes " as core values\n") ≡ passed_line what wide false ss
some-passed t [] [] what wide e h = absurd (no e)
  where
    no : true ≡ false → ⊥
    no e = cc
some-passed t [] (s ∷ ss) what wide e h = absurd h
some-passed t (x ∷ xs) [] what wide e h = absurd h
some-passed t (x ∷ xs) (s ∷ ss) what wide e h = refl

-- ---- what a side needs, and its lines

pub needs-told : (r : Role) (s : PlanSide) (ps rs : List Shape) (n : Needs) (wide : Bool) (params results options whole : List ℕ) → HasNeeds r s ps rs n → wide ≡ is_wide_memory s.memory
    → params ≡ passed_line (codes "parameters") wide n.params_by_pointer ps → results ≡ passed_line (codes "results") wide n.results_by_pointer rs → options ≡ options_line s n.memory n.realloc
    → whole ≡ params ++ (results ++ options) → whole ≡ needs_by r s ps rs
needs-told role.Lift s ps rs n wide params results options whole h w p q o e = rw (p, q, o, w, h.params, h.results, h.memory, h.realloc) at e
needs-told role.Lower s ps rs n wide params results options whole h w p q o e = rw (p, q, o, w, h.params, h.results, h.memory, h.realloc) at e

pub side-told : (r : Role) (k : ℕ) (s : PlanSide) (ps rs : List Shape) (function head core needs whole : List ℕ) → head ≡ side_head (key_text r) k s function → core ≡ signature_text (signature_by r s ps rs) → needs ≡ needs_by r s ps rs
    → whole ≡ head ++ (codes "    core_type " ++ (core ++ 10 ∷ needs)) → whole ≡ text_by r k s ps rs function
side-told role.Lift k s ps rs function head core needs whole h c n e = rw (h, c, n) at e
side-told role.Lower k s ps rs function head core needs whole h c n e = rw (h, c, n) at e
