-- One conversion after another, and the conversion of an entry that stands in the tables of the source.
use Rattle.std.proofs.Common.{◌≡◌, ◌<◌, List, [], ◌∷◌, ◌++◌, Some, None, true, length, refl, sym, ◌∙◌, ap, subst}
use Rattle.std.specs.Prelude.{slice_get, flat_map, Result, Ok, Err}
use Rattle.std.specs.List.{AllZip}
use Rattle.fact_entity.specs.declared.id.Id.{Id}
use Rattle.fact_entity.specs.declared.table.SourceDefinedTypes.{SourceDefinedTypes}
use Rattle.fact_entity.specs.declared.table.SourceResources.{SourceResources}
use Rattle.fact_entity.specs.declared.table.TypeComponentLocalErrorContextTables.{TypeComponentLocalErrorContextTables}
use Rattle.fact_entity.specs.declared.table.TypeResourceTables.{TypeResourceTables}
use Rattle.fact_source.specs.declared.defined.PrimitiveValType.{PrimitiveValType}
use Rattle.fact_source.specs.declared.defined.PrimitiveValType.TheVariants as word
use Rattle.fact_source.specs.declared.defined.ComponentDefinedType.{ComponentDefinedType}
use Rattle.fact_source.specs.declared.defined.ComponentDefinedType.TheVariants as ty
use Rattle.fact_source.specs.declared.defined.ComponentValType.{ComponentValType}
use Rattle.fact_source.specs.declared.defined.ComponentValType.TheVariants as val
use Rattle.fact_source.specs.Live.{IsSoundSource}
use Rattle.fact_source.specs.SourceTables.{SourceTables}
use Rattle.fact_types.specs.declared.interface.InterfaceType.{InterfaceType}
use Rattle.fact_types.specs.declared.interface.InterfaceType.TheVariants as plain
use Rattle.fact_types.specs.Tables.{is_plain}
use Rattle.fact_types.specs.Shapes.{Shape, s_plain, s_node}
use Rattle.fact_builder.specs.declared.error.BuildError.{BuildError}
use Rattle.fact_builder.specs.Known.{kept_table}
use Rattle.fact_convert.specs.Conversion.{ConvertsBy}
use Rattle.fact_convert.specs.Converted.{IsTypeFrom}
use Rattle.fact_builder.specs.Builder.{Builder}
use Rattle.fact_convert.specs.SourceShapes.{HasSourceShape, IsPlainFrom, interface_of, source_node}
use Rattle.fact_convert.specs.Progress.{IsShapeOf, IsMadeFrom, Comes}
use Rattle.fact_convert.specs.Tasks.{Task, member_types, own_tasks, value_tasks, makes_error_context}
use Rattle.fact_convert.proofs.Coming.{comes_then, comes_not, comes_as, comes_for, comes_none, comes_with, comes_failed}
use Rattle.fact_convert.proofs.Composing.{performs_more, ends_in_first, ends_in_second}
use Rattle.fact_convert.proofs.Enough.{defined_tasks}

-- ---- one after another: the first answers, or ends both

pub converts_then : {X Y : Type 0} (s : SourceTables) (a b c : Builder) (ms ns : List Task) (F : Builder → X → Type 0) (G : Builder → Y → Type 0) (x : X) (r : Result Y BuildError) → ConvertsBy s a ms F b (Ok x) → ConvertsBy s b ns G c r → ConvertsBy s a (ms ++ ns) G c r
converts_then s a b c ms ns F G x (Ok y) p q = (performs_more s a b c ms ns p.0 q.0, q.1)
converts_then s a b c ms ns F G x (Err e) p q = ends_in_second s a b c ms ns e p.0 q

pub converts_not : {X Y : Type 0} (s : SourceTables) (a b : Builder) (ms ns : List Task) (F : Builder → X → Type 0) (G : Builder → Y → Type 0) (e : BuildError) → ConvertsBy s a ms F b (Err e) → ConvertsBy s a (ms ++ ns) G b (Err e)
converts_not s a b ms ns F G e h = ends_in_first s a b ms ns e h

-- ---- an entry that stands in the tables

shape_of_entry : (s : SourceTables) (c : Builder) (i : Id SourceDefinedTypes) (e : ComponentDefinedType) → slice_get s.defined i.number ≡ Some e → (sh : Shape) → IsShapeOf s c e sh → HasSourceShape s c (val.Defined i) sh
shape_of_entry s c i e q (s_plain p) h = (e, q, h)
shape_of_entry s c i e q (s_node k ms) (n, m, l, h) = (e, n, q, m, l, h)

pub type_of_entry : (s : SourceTables) (c : Builder) (i : Id SourceDefinedTypes) (e : ComponentDefinedType) → slice_get s.defined i.number ≡ Some e → (t : InterfaceType) → IsMadeFrom s c e t → IsTypeFrom s c (val.Defined i) t
type_of_entry s c i e q t (sh, h, k) = (sh, h, shape_of_entry s c i e q sh k)

-- ---- a defined type: its members, and then the type of what they became

pub defined_comes : (s : SourceTables) → IsSoundSource s → (a b c : Builder) (i : Id SourceDefinedTypes) → i.number < length s.defined → (e : ComponentDefinedType) → slice_get s.defined i.number ≡ Some e → (named : List ComponentValType) → named ≡ member_types e → (ts : List InterfaceType) (r : Result InterfaceType BuildError)
    → Comes s a (flat_map (value_tasks s) named) (λ c ts. AllZip (IsTypeFrom s c) named ts) b (Ok ts) → (AllZip (IsTypeFrom s b) (member_types e) ts → Comes s b (own_tasks e) (λ c t. IsMadeFrom s c e t) c r) → Comes s a (value_tasks s (val.Defined i)) (λ c t. IsTypeFrom s c (val.Defined i) t) c r
defined_comes s k a b c i l e q named same ts r p f =
    let own = comes_for s b c (own_tasks e) (λ c t. IsMadeFrom s c e t) (λ c t. IsTypeFrom s c (val.Defined i) t) r (type_of_entry s c i e q) (f (subst (λ vs. AllZip (IsTypeFrom s b) vs ts) same p.converts.1)) in
    comes_as s a c _ _ (λ c t. IsTypeFrom s c (val.Defined i) t) r (ap (λ vs. flat_map (value_tasks s) vs ++ own_tasks e) same ∙ sym (defined_tasks s k i l e q))
    (comes_then s a b c (flat_map (value_tasks s) named) (own_tasks e) (λ c ts. AllZip (IsTypeFrom s c) named ts) (λ c t. IsTypeFrom s c (val.Defined i) t) ts r p own)

pub defined_fails : {X Y : Type 0} (s : SourceTables) → IsSoundSource s → (a b : Builder) (i : Id SourceDefinedTypes) → i.number < length s.defined → (e : ComponentDefinedType) → slice_get s.defined i.number ≡ Some e → (named : List ComponentValType) → named ≡ member_types e → (F : Builder → X → Type 0) (G : Builder → Y → Type 0) (x : BuildError)
    → Comes s a (flat_map (value_tasks s) named) F b (Err x) → Comes s a (value_tasks s (val.Defined i)) G b (Err x)
defined_fails s k a b i l e q named same F G x p =
    comes_as s a b _ _ G (Err x) (ap (λ vs. flat_map (value_tasks s) vs ++ own_tasks e) same ∙ sym (defined_tasks s k i l e q)) (comes_not s a b (flat_map (value_tasks s) named) (own_tasks e) F G x p)

-- ---- a primitive type

-- one without a table
pub plain_comes : (s : SourceTables) (a : Builder) (p : PrimitiveValType) (q : InterfaceType) → interface_of p ≡ Some q → Comes s a (value_tasks s (val.Primitive p)) (λ c t. IsTypeFrom s c (val.Primitive p) t) a (Ok q)
plain_comes s a p q h =
    let (none, plain, from) = plainly p q h in
    comes_as s a a [] (value_tasks s (val.Primitive p)) _ _ (sym none) (comes_none s a (λ c t. IsTypeFrom s c (val.Primitive p) t) q (s_plain q, (refl, plain), (ty.Primitive p, refl, from a)))
  where
    at : (p : PrimitiveValType) (x q : InterfaceType) → is_plain x ≡ true → Some x ≡ Some q → is_plain q ≡ true
    at p x q h e = let same : x ≡ q = cc in subst (λ y. is_plain y ≡ true) same h

    plainly : (p : PrimitiveValType) (q : InterfaceType) → interface_of p ≡ Some q → (own_tasks (ty.Primitive p) ≡ []) × (is_plain q ≡ true) × ((c : Builder) → IsPlainFrom c (ty.Primitive p) q)
    plainly word.ErrorContext q h = cc
    plainly word.Bool q h = (refl, at word.Bool plain.Bool q refl h, λ c. h)
    plainly word.S8 q h = (refl, at word.S8 plain.S8 q refl h, λ c. h)
    plainly word.U8 q h = (refl, at word.U8 plain.U8 q refl h, λ c. h)
    plainly word.S16 q h = (refl, at word.S16 plain.S16 q refl h, λ c. h)
    plainly word.U16 q h = (refl, at word.U16 plain.U16 q refl h, λ c. h)
    plainly word.S32 q h = (refl, at word.S32 plain.S32 q refl h, λ c. h)
    plainly word.U32 q h = (refl, at word.U32 plain.U32 q refl h, λ c. h)
    plainly word.S64 q h = (refl, at word.S64 plain.S64 q refl h, λ c. h)
    plainly word.U64 q h = (refl, at word.U64 plain.U64 q refl h, λ c. h)
    plainly word.Float32 q h = (refl, at word.Float32 plain.Float32 q refl h, λ c. h)
    plainly word.Float64 q h = (refl, at word.Float64 plain.Float64 q refl h, λ c. h)
    plainly word.Char q h = (refl, at word.Char plain.Char q refl h, λ c. h)
    plainly word.String q h = (refl, at word.String plain.String q refl h, λ c. h)

only_error_context : (p : PrimitiveValType) → interface_of p ≡ None → p ≡ word.ErrorContext
only_error_context word.ErrorContext h = refl
only_error_context word.Bool h = cc
only_error_context word.S8 h = cc
only_error_context word.U8 h = cc
only_error_context word.S16 h = cc
only_error_context word.U16 h = cc
only_error_context word.S32 h = cc
only_error_context word.U32 h = cc
only_error_context word.S64 h = cc
only_error_context word.U64 h = cc
only_error_context word.Float32 h = cc
only_error_context word.Float64 h = cc
only_error_context word.Char h = cc
only_error_context word.String h = cc

-- that of an error context
pub context_comes : (s : SourceTables) (a b : Builder) (p : PrimitiveValType) (i : Id TypeComponentLocalErrorContextTables) → interface_of p ≡ None → Comes s a (makes_error_context ∷ []) (λ c i. IsPlainFrom c (ty.Primitive word.ErrorContext) (plain.ErrorContext i)) b (Ok i)
    → Comes s a (value_tasks s (val.Primitive p)) (λ c t. IsTypeFrom s c (val.Primitive p) t) b (Ok (plain.ErrorContext i))
context_comes s a b p i n h =
    subst (λ q. Comes s a (value_tasks s (val.Primitive q)) (λ c t. IsTypeFrom s c (val.Primitive q) t) b (Ok (plain.ErrorContext i))) (sym (only_error_context p n))
    (comes_with s a b (makes_error_context ∷ []) (λ c i. IsPlainFrom c (ty.Primitive word.ErrorContext) (plain.ErrorContext i)) (λ c t. IsTypeFrom s c (val.Primitive word.ErrorContext) t) i (plain.ErrorContext i)
    (λ k. (s_plain (plain.ErrorContext i), (refl, refl), (ty.Primitive word.ErrorContext, refl, k))) h)

pub context_fails : {X : Type 0} (s : SourceTables) (a b : Builder) (p : PrimitiveValType) (F : Builder → X → Type 0) (e : BuildError) → interface_of p ≡ None → Comes s a (makes_error_context ∷ []) F b (Err e) → Comes s a (value_tasks s (val.Primitive p)) (λ c t. IsTypeFrom s c (val.Primitive p) t) b (Err e)
context_fails s a b p F e n h =
    subst (λ q. Comes s a (value_tasks s (val.Primitive q)) (λ c t. IsTypeFrom s c (val.Primitive q) t) b (Err e)) (sym (only_error_context p n))
    (comes_failed s a b (makes_error_context ∷ []) F (λ c t. IsTypeFrom s c (val.Primitive word.ErrorContext) t) e h)

-- as an entry
pub primitive_made : (s : SourceTables) (c : Builder) (p : PrimitiveValType) (t : InterfaceType) → IsTypeFrom s c (val.Primitive p) t → IsMadeFrom s c (ty.Primitive p) t
primitive_made s c p t (s_plain q, at, (e, d, h)) = let same : ty.Primitive p ≡ e = cc in (s_plain q, at, subst (λ x. IsPlainFrom c x q) (sym same) h)
primitive_made s c p t (s_node k ms, at, (e, n, d, q, h, m)) = let same : ty.Primitive p ≡ e = cc in let none : None ≡ Some n = ap source_node same ∙ q in cc

-- handles of a resource
pub own_made : (s : SourceTables) (c : Builder) (r : Id SourceResources) (i : Id TypeResourceTables) → kept_table c.resources r ≡ Some i → IsMadeFrom s c (ty.Own r) (plain.Own i)
own_made s c r i h = (s_plain (plain.Own i), (refl, refl), h)

pub borrow_made : (s : SourceTables) (c : Builder) (r : Id SourceResources) (i : Id TypeResourceTables) → kept_table c.resources r ≡ Some i → IsMadeFrom s c (ty.Borrow r) (plain.Borrow i)
borrow_made s c r i h = (s_plain (plain.Borrow i), (refl, refl), h)
