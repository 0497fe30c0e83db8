-- A type made of members that were converted is from its source.
use Rattle.std.proofs.Common.{◌≡◌, ℕ, List, [], ◌∷◌, Option, Some, None, refl}
use Rattle.fact_source.specs.declared.defined.ComponentValType.{ComponentValType}
use Rattle.fact_source.specs.declared.defined.ComponentDefinedType.{ComponentDefinedType}
use Rattle.fact_source.specs.SourceTables.{SourceTables}
use Rattle.fact_types.specs.declared.interface.InterfaceType.{InterfaceType}
use Rattle.fact_types.specs.Shapes.{Kind, s_node, Members, no_members, bare, typed}
use Rattle.fact_types.specs.Tables.{HasMembers}
use Rattle.fact_convert.specs.Conversion.{BuilderGrows}
use Rattle.fact_convert.specs.Converted.{IsTypeFrom}
use Rattle.fact_convert.specs.BuilderTables.{tables_of}
use Rattle.fact_builder.specs.Builder.{Builder}
use Rattle.fact_convert.specs.Performing.{IsMemberFrom, AreMembersFrom, MakesFrom}
use Rattle.fact_convert.specs.SourceShapes.{of_kind, source_node, defined_of, HaveSourceShapes}
use Rattle.fact_convert.proofs.Growing.{members_stay}

-- what members of the source and those that were made of them have in common
abbrev AreShaped : SourceTables → Builder → List (List ℕ × Option ComponentValType) → List (List ℕ × Option InterfaceType) → Type 0
AreShaped s c xs ms = (sh : Members) × HasMembers (tables_of c) ms sh × HaveSourceShapes s c xs sh

one_shaped : (s : SourceTables) (c : Builder) (m x : List ℕ) (p : Option InterfaceType) (o : Option ComponentValType) (ms : List (List ℕ × Option InterfaceType)) (xs : List (List ℕ × Option ComponentValType)) → m ≡ x → IsMemberFrom s c o p → AreShaped s c xs ms → AreShaped s c ((x, o) ∷ xs) ((m, p) ∷ ms)
one_shaped s c m x None None ms xs n k (sh, h, q) = (bare x sh, (n, refl, h), (refl, refl, q))
one_shaped s c m x (Some t) (Some v) ms xs n (z, h, q) (sh, i, r) = (typed x z sh, (n, (t, refl, h), i), (refl, (v, refl, q), r))
one_shaped s c m x (Some t) None ms xs n k r = absurd k
one_shaped s c m x None (Some v) ms xs n k r = absurd k

pub members_shaped : (s : SourceTables) (c : Builder) (xs : List (List ℕ × Option ComponentValType)) (ms : List (List ℕ × Option InterfaceType)) → AreMembersFrom s c xs ms → AreShaped s c xs ms
members_shaped s c [] [] a = (no_members, tt, tt)
members_shaped s c [] (m ∷ ms) a = absurd a
members_shaped s c (x ∷ xs) [] a = absurd a
members_shaped s c (x ∷ xs) (m ∷ ms) (h, a) = one_shaped s c m.0 x.0 m.1 x.1 ms xs h.0 h.1 (members_shaped s c xs ms a)

-- the type that was made of members of a defined type is from it
pub type_made : (s : SourceTables) (a b : Builder) → BuilderGrows a b → (v : ComponentValType) (d : ComponentDefinedType) (k : Kind) (xs : List (List ℕ × Option ComponentValType)) → defined_of s v ≡ Some d → source_node d ≡ Some (record { kind = of_kind k; members = xs }) → (m : MakesFrom s a k xs b) → IsTypeFrom s b v m.ty
type_made s a b g v d k xs e n m =
    let (sh, h, q) = members_shaped s a xs m.members m.from in
    (s_node k sh, m.makes.shaped sh h, (d, record { kind = of_kind k; members = xs }, e, n, refl, members_stay s a b g xs sh q))
