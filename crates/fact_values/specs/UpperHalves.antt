-- At each node of the value that core values stand for, an i64 in the place of a flat type of 32 bits has an upper half of 0: what
-- debug checks ask of values that stand in core values. The canonical ABI, "Flat Lifting", reads such an i64 by its low half alone
-- (`wrap_i64_to_i32`); that the upper one is 0 is this project's.
use Rattle.std.specs.Prelude.{ℕ, zero, suc, ◌*◌, ◌<◌, List, [], ◌∷◌, length, take, drop}
use Rattle.fact_machine.specs.declared.types.CoreValue.{CoreValue}
use Rattle.fact_types.specs.declared.flats.FlatType.{FlatType}
use Rattle.fact_types.specs.declared.flats.FlatType.TheVariants.{I32}
use Rattle.fact_types.specs.declared.extents.MemoryWidth.{MemoryWidth}
use Rattle.fact_types.specs.FlatShapes.{flat, flat_members}
use Rattle.fact_types.specs.Shapes.{Kind, k_record, k_variant, k_tuple, k_option, k_result, k_fixed, Shape, s_plain, s_node, Members, no_members, bare, typed}
use Rattle.fact_values.specs.Canonical.{IsNarrow}
use Rattle.fact_values.specs.Lift.{number_as}

-- Leading core values in the places of flat types have no bits beyond those of the flat types, one by one, as far as there are both.
abbrev pub AreNarrowAlong : List FlatType → List CoreValue → Type 0
AreNarrowAlong [] cs = Unit {0}
AreNarrowAlong (f ∷ fs) [] = Unit {0}
AreNarrowAlong (f ∷ fs) (c ∷ cs) = IsNarrow f c × AreNarrowAlong fs cs

-- Of the parts of a node: Fields says it of the members of a record or a tuple, Case of the payload of the case of a number,
-- and Element of an element of a list of fixed length.
pub record NarrowParts : Type 1 where
  pub Fields : List CoreValue → Type 0
  pub Case : ℕ → List CoreValue → Type 0
  pub Element : List CoreValue → Type 0

-- The payload of the case that a discriminant names stands behind it.
abbrev pub IsNarrowPayload : (ℕ → List CoreValue → Type 0) → List CoreValue → Type 0
IsNarrowPayload Case [] = Unit {0}
IsNarrowPayload Case (c ∷ cs) = Case (number_as I32 c) cs

-- The elements of lists and maps stand in memory, where values have their own sizes.
abbrev pub AreNarrowParts : MemoryWidth → Kind → Members → NarrowParts → List CoreValue → Type 0
AreNarrowParts w k_record ms x cs = x.Fields cs
AreNarrowParts w k_tuple ms x cs = x.Fields cs
AreNarrowParts w (k_fixed n) ms x cs = (i : ℕ) → i < n → x.Element (take (length (flat_members w ms)) (drop (i * length (flat_members w ms)) cs))
AreNarrowParts w k_variant ms x cs = IsNarrowPayload x.Case cs
AreNarrowParts w k_option ms x cs = IsNarrowPayload x.Case cs
AreNarrowParts w k_result ms x cs = IsNarrowPayload x.Case cs
AreNarrowParts w _ ms x cs = Unit {0}

unfoldable mutual
  -- At each node of the value that leading core values stand for, those in the places of its flat types are narrow.
  pub IsNarrowThroughout : MemoryWidth → Shape → List CoreValue → Type 0
  IsNarrowThroughout w (s_plain p) cs = AreNarrowAlong (flat w (s_plain p)) cs
  IsNarrowThroughout w (s_node k ms) cs = AreNarrowAlong (flat w (s_node k ms)) cs × AreNarrowParts w k ms (record {
    Fields = λ us. AreNarrowThroughout w ms us;
    Case = λ x us. IsNarrowCase w ms x us;
    Element = λ us. AreNarrowThroughout w ms us;
  }) cs

  -- the members that have a type, one behind the other
  pub AreNarrowThroughout : MemoryWidth → Members → List CoreValue → Type 0
  AreNarrowThroughout w no_members cs = Unit {0}
  AreNarrowThroughout w (bare n ms) cs = AreNarrowThroughout w ms cs
  AreNarrowThroughout w (typed n s ms) cs =
      IsNarrowThroughout w s (take (length (flat w s)) cs) × AreNarrowThroughout w ms (drop (length (flat w s)) cs)

  -- the payload of the case of a number
  pub IsNarrowCase : MemoryWidth → Members → ℕ → List CoreValue → Type 0
  IsNarrowCase w no_members x cs = Unit {0}
  IsNarrowCase w (bare n ms) zero cs = Unit {0}
  IsNarrowCase w (typed n s ms) zero cs = IsNarrowThroughout w s (take (length (flat w s)) cs)
  IsNarrowCase w (bare n ms) (suc x) cs = IsNarrowCase w ms x cs
  IsNarrowCase w (typed n s ms) (suc x) cs = IsNarrowCase w ms x cs
