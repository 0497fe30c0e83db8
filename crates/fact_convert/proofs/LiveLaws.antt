-- A type that is from the source is live where each table that is kept is there.
use Rattle.std.proofs.Common.{◌≡◌, Some, sym, subst}
use Rattle.std.proofs.lemmas.Option.{slice_get_within}
use Rattle.fact_source.specs.declared.defined.PrimitiveValType.TheVariants as word
use Rattle.fact_source.specs.declared.defined.ComponentDefinedType.{ComponentDefinedType}
use Rattle.fact_source.specs.declared.defined.ComponentDefinedType.TheVariants as ty
use Rattle.fact_source.specs.declared.defined.ComponentValType.{ComponentValType}
use Rattle.fact_source.specs.SourceTables.{SourceTables}
use Rattle.fact_types.specs.declared.interface.InterfaceType.{InterfaceType}
use Rattle.fact_types.specs.declared.interface.InterfaceType.TheVariants as plain
use Rattle.fact_types.specs.Shapes.{s_plain, s_node}
use Rattle.fact_types.specs.Tables.{Tables, IsLive}
use Rattle.fact_builder.proofs.KeptLaws.{live_kept}
use Rattle.fact_builder.specs.Known.{AreKeptLive}
use Rattle.fact_builder.proofs.TableLaws.{kept_is_live}
use Rattle.fact_convert.specs.Converted.{IsTypeFrom}
use Rattle.fact_convert.specs.BuilderTables.{tables_of}
use Rattle.fact_builder.specs.Builder.{Builder}
use Rattle.fact_convert.specs.SourceShapes.{IsPlainFrom}

-- the type of a scalar is live in all tables
scalar_live : (t : Tables) (p q : InterfaceType) → Some p ≡ Some q → IsLive t p → IsLive t q
scalar_live t p q h l = let same : p ≡ q = cc in subst (IsLive t) same l

plain_live : (c : Builder) → AreKeptLive c.resources (tables_of c) → (e : ComponentDefinedType) (q : InterfaceType) → IsPlainFrom c e q → IsLive (tables_of c) q
plain_live c k (ty.Primitive word.ErrorContext) (plain.ErrorContext i) (n, h, at) = slice_get_within (tables_of c).error_context_tables i.number _ at
plain_live c k (ty.Primitive word.ErrorContext) q h = cc
plain_live c k (ty.Primitive word.Bool) q h = scalar_live (tables_of c) plain.Bool q h tt
plain_live c k (ty.Primitive word.S8) q h = scalar_live (tables_of c) plain.S8 q h tt
plain_live c k (ty.Primitive word.U8) q h = scalar_live (tables_of c) plain.U8 q h tt
plain_live c k (ty.Primitive word.S16) q h = scalar_live (tables_of c) plain.S16 q h tt
plain_live c k (ty.Primitive word.U16) q h = scalar_live (tables_of c) plain.U16 q h tt
plain_live c k (ty.Primitive word.S32) q h = scalar_live (tables_of c) plain.S32 q h tt
plain_live c k (ty.Primitive word.U32) q h = scalar_live (tables_of c) plain.U32 q h tt
plain_live c k (ty.Primitive word.S64) q h = scalar_live (tables_of c) plain.S64 q h tt
plain_live c k (ty.Primitive word.U64) q h = scalar_live (tables_of c) plain.U64 q h tt
plain_live c k (ty.Primitive word.Float32) q h = scalar_live (tables_of c) plain.Float32 q h tt
plain_live c k (ty.Primitive word.Float64) q h = scalar_live (tables_of c) plain.Float64 q h tt
plain_live c k (ty.Primitive word.Char) q h = scalar_live (tables_of c) plain.Char q h tt
plain_live c k (ty.Primitive word.String) q h = scalar_live (tables_of c) plain.String q h tt
plain_live c k (ty.Own r) (plain.Own i) h = kept_is_live c.resources (tables_of c) r i k h
plain_live c k (ty.Borrow r) (plain.Borrow i) h = kept_is_live c.resources (tables_of c) r i k h
plain_live c k e q h = absurd h

pub type_live : (s : SourceTables) (c : Builder) → AreKeptLive c.resources (tables_of c) → (v : ComponentValType) (t : InterfaceType) → IsTypeFrom s c v t → IsLive (tables_of c) t
type_live s c k v t (s_plain p, (same, is), (e, q, h)) = subst (IsLive (tables_of c)) (sym same) (plain_live c k e p h)
type_live s c k v t (s_node kind ms, (n, at, is, members), h) = live_kept (tables_of c) t n at
