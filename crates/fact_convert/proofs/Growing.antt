-- What a type of the source has become stays so while a builder grows.
use Rattle.std.proofs.Common.{ℕ, List, [], ◌∷◌, Option, Some, None, ◌∙◌}
use Rattle.std.specs.List.{AllZip}
use Rattle.fact_source.specs.declared.defined.PrimitiveValType.TheVariants as word
use Rattle.fact_source.specs.declared.defined.ComponentValType.{ComponentValType}
use Rattle.fact_source.specs.declared.defined.ComponentDefinedType.{ComponentDefinedType}
use Rattle.fact_source.specs.declared.defined.ComponentDefinedType.TheVariants as ty
use Rattle.fact_source.specs.SourceTables.{SourceTables}
use Rattle.fact_types.specs.declared.interface.InterfaceType.{InterfaceType}
use Rattle.fact_types.specs.declared.interface.InterfaceType.TheVariants as plain
use Rattle.fact_types.specs.Shapes.{Kind, k_future, k_stream, Shape, s_plain, s_node, Members, no_members, bare, typed}
use Rattle.fact_convert.specs.Conversion.{BuilderGrows}
use Rattle.fact_convert.specs.Converted.{IsTypeFrom}
use Rattle.fact_builder.specs.Builder.{Builder}
use Rattle.fact_convert.specs.Performing.{IsMemberFrom}
use Rattle.fact_convert.specs.SourceShapes.{SourceKind, of_kind, of_future, of_stream, IsPlainFrom, IsKindFrom, HasSourceShape, HaveSourceShapes}

-- a table of futures or streams is of the instance that is set, and that stays
kind_stays : (a b : Builder) → BuilderGrows a b → (k : SourceKind) (l : Kind) → IsKindFrom a k l → IsKindFrom b k l
kind_stays a b g (of_kind k) l h = h
kind_stays a b g of_future (k_future t i) (n, h, e) = (n, g.instance ∙ h, e)
kind_stays a b g of_stream (k_stream t i) (n, h, e) = (n, g.instance ∙ h, e)
kind_stays a b g k l h = absurd h

plain_stays : (a b : Builder) → BuilderGrows a b → (e : ComponentDefinedType) (q : InterfaceType) → IsPlainFrom a e q → IsPlainFrom b e q
plain_stays a b g (ty.Primitive word.ErrorContext) (plain.ErrorContext i) (n, h, e) = (n, g.instance ∙ h, g.tables.error_context_tables i.number _ e)
plain_stays a b g (ty.Own r) (plain.Own i) h = g.kept r i h
plain_stays a b g (ty.Borrow r) (plain.Borrow i) h = g.kept r i h
plain_stays a b g e q h = h

mutual
  pub shape_stays : (s : SourceTables) (a b : Builder) → BuilderGrows a b → (v : ComponentValType) (sh : Shape) → HasSourceShape s a v sh → HasSourceShape s b v sh
  shape_stays s a b g v (s_plain p) (e, d, h) = (e, d, plain_stays a b g e p h)
  shape_stays s a b g v (s_node k ms) (e, n, d, q, h, m) = (e, n, d, q, kind_stays a b g n.kind k h, members_stay s a b g n.members ms m)

  pub members_stay : (s : SourceTables) (a b : Builder) → BuilderGrows a b → (xs : List (List ℕ × Option ComponentValType)) (ms : Members) → HaveSourceShapes s a xs ms → HaveSourceShapes s b xs ms
  members_stay s a b g [] no_members h = tt
  members_stay s a b g (x ∷ xs) no_members h = absurd h
  members_stay s a b g [] (bare n ms) h = absurd h
  members_stay s a b g (x ∷ xs) (bare n ms) (h, k, m) = (h, k, members_stay s a b g xs ms m)
  members_stay s a b g [] (typed n t ms) h = absurd h
  members_stay s a b g (x ∷ xs) (typed n t ms) (h, (v, e, k), m) = (h, (v, e, shape_stays s a b g v t k), members_stay s a b g xs ms m)

-- a type that was converted is still from its source
pub type_stays : (s : SourceTables) (a b : Builder) → BuilderGrows a b → (v : ComponentValType) (t : InterfaceType) → IsTypeFrom s a v t → IsTypeFrom s b v t
type_stays s a b g v t (sh, h, k) = (sh, g.types.shapes t sh h, shape_stays s a b g v sh k)

-- so are all types of a list
pub types_stay : (s : SourceTables) (a b : Builder) → BuilderGrows a b → (vs : List ComponentValType) (ts : List InterfaceType) → AllZip (IsTypeFrom s a) vs ts → AllZip (IsTypeFrom s b) vs ts
types_stay s a b g [] [] h = tt
types_stay s a b g [] (t ∷ ts) h = absurd h
types_stay s a b g (v ∷ vs) [] h = absurd h
types_stay s a b g (v ∷ vs) (t ∷ ts) (h, k) = (type_stays s a b g v t h, types_stay s a b g vs ts k)

-- so is a payload, where there is one
pub member_stays : (s : SourceTables) (a b : Builder) → BuilderGrows a b → (p : Option ComponentValType) (q : Option InterfaceType) → IsMemberFrom s a p q → IsMemberFrom s b p q
member_stays s a b g None None h = tt
member_stays s a b g None (Some t) h = absurd h
member_stays s a b g (Some v) None h = absurd h
member_stays s a b g (Some v) (Some t) h = type_stays s a b g v t h
