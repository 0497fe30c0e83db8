-- The end of a builder: the exports of a component, each with the type of its item.
use Rattle.std.proofs.Common.{◌≡◌, ◌<◌, ◌≤◌, ◌+◌, ◌↔◌, ℕ, inl, inr, List, [], ◌∷◌, ◌++◌, length, take, get_or, map, Some, All, refl, sym, ◌∙◌, ap, subst}
use Rattle.std.specs.Prelude.{nat_eq, slice_get, Result, Ok, Err}
use Rattle.std.proofs.lemmas.Option.{get_or_from_slice_get, slice_get_within}
use Rattle.std.specs.List.{AllZip}
use Rattle.std.specs.Cmp.Lexicographic.{pointwise}
use Rattle.std.proofs.lemmas.List.{take_more, take_all, map-append}
use Rattle.indexmap.specs.IndexMap.{insert_entry}
use Rattle.fact_entity.specs.declared.id.Id.{Id}
use Rattle.fact_entity.specs.declared.error.PushError.{PushError}
use Rattle.fact_entity.specs.declared.error.PushError.TheVariants as push
use Rattle.fact_entity.specs.declared.table.Exports.{Exports}
use Rattle.fact_entity.specs.declared.table.TypeComponents.{TypeComponents}
use Rattle.fact_types.specs.declared.externs.ComponentExtern.{ComponentExtern}
use Rattle.fact_types.specs.declared.externs.ComponentExternData.{ComponentExternData}
use Rattle.fact_types.specs.declared.interface.TypeDef.{TypeDef}
use Rattle.fact_types.specs.Externs.{ComponentType}
use Rattle.fact_types.specs.Tables.{Tables, IsLiveDef, AreLiveExterns}
use Rattle.fact_builder.specs.Builder.{Builder}
use Rattle.fact_builder.specs.declared.error.BuildError.{BuildError}
use Rattle.fact_builder.specs.declared.error.BuildError.TheVariants.{OutOfMemory}
use Rattle.fact_builder.specs.Errors.{build_error}
use Rattle.fact_convert.specs.declared.component.Component.{Component}
use Rattle.fact_convert.specs.declared.component.Export.{Export}
use Rattle.fact_convert.specs.Finished.{type_of_export, IsExternOf, IsComponentTypeOf, FinishesWith}
use Rattle.fact_convert.specs.Interning.{CanGrow}
use Rattle.fact_convert.specs.Merging.{merged}
use Rattle.fact_convert.specs.Progress.{AreKeyed}
use Rattle.fact_convert.proofs.Merged.{each_merged, each_all, all_each, zip_right, both_put, one_more_merged, zip_so}

abbrev pub ExportEntry : Type 0
ExportEntry = List ℕ × Id Exports × ComponentExternData

pub index_there : (c : Component) (xs : List ExportEntry) → xs ≡ c.exports → (i : ℕ) (x : ExportEntry) → i < length xs → x ≡ get_or xs i x → All (λ x. x.1.number < length c.export_items) c.exports → x.1.number < length c.export_items
index_there c xs e i x l is a = subst (λ (y : ExportEntry). y.1.number < length c.export_items) (sym is) (subst (λ ys. All (λ (y : ExportEntry). y.1.number < length c.export_items) ys) (sym e) a i x l)

-- what an export and its type have in common, beside the name
abbrev IsValueOf : List Export → Id Exports × ComponentExternData → ComponentExtern → Type 0
IsValueOf items v y = (y.extern_data ≡ v.1) × ((e : Export) × (slice_get items v.0.number ≡ Some e) × (y.ty ≡ type_of_export e))

to_keyed : (items : List Export) (xs : List (List ℕ × (Id Exports × ComponentExternData))) (ys : List (List ℕ × ComponentExtern)) → AllZip (IsExternOf items) xs ys → AreKeyed (IsValueOf items) xs ys
to_keyed items xs ys a = zip_so _ _ xs ys (λ x y h. (h.name, (h.told, h.ty))) a

from_keyed : (items : List Export) (xs : List (List ℕ × (Id Exports × ComponentExternData))) (ys : List (List ℕ × ComponentExtern)) → AreKeyed (IsValueOf items) xs ys → AllZip (IsExternOf items) xs ys
from_keyed items xs ys a = zip_so _ _ xs ys (λ x y h. record { name = h.0; told = h.1.0; ty = h.1.1 }) a

next_keyed : (xs : List ExportEntry) (i : ℕ) (x : ExportEntry) → i < length xs → x ≡ get_or xs i x → merged {V = Id Exports × ComponentExternData} (map (λ x. (x.0, (x.1, x.2))) (take (i + 1) xs)) ≡ insert_entry (pointwise nat_eq) (merged (map (λ x. (x.0, (x.1, x.2))) (take i xs))) x.0 (x.1, x.2)
next_keyed xs i x l is =
    ap (λ ys. merged (map (λ (x : ExportEntry). (x.0, (x.1, x.2))) ys)) (take_more xs i x l ∙ ap (λ z. take i xs ++ z ∷ []) (sym is))
    ∙ ap merged (map-append (λ (x : ExportEntry). (x.0, (x.1, x.2))) (take i xs) (x ∷ []))
    ∙ one_more_merged (pointwise nat_eq) (map (λ (x : ExportEntry). (x.0, (x.1, x.2))) (take i xs)) (x.0, (x.1, x.2))

pub one_more_export : (items : List Export) (xs : List ExportEntry) (i : ℕ) (x : ExportEntry) (ty : TypeDef) (e : Export) (told : ComponentExternData) (old new : List (List ℕ × ComponentExtern)) → i < length xs → x ≡ get_or xs i x
    → AllZip (IsExternOf items) (merged (map (λ x. (x.0, (x.1, x.2))) (take i xs))) old → ty ≡ type_of_export e → slice_get items x.1.number ≡ Some e → told ≡ x.2 → new ≡ insert_entry (pointwise nat_eq) old x.0 (record { extern_data = told; ty = ty })
    → AllZip (IsExternOf items) (merged (map (λ x. (x.0, (x.1, x.2))) (take (i + 1) xs))) new
one_more_export items xs i x ty e told old new l is a is_type there same put =
    subst (λ es. AllZip (IsExternOf items) es new) (sym (next_keyed xs i x l is))
    (subst (λ es. AllZip (IsExternOf items) (insert_entry (pointwise nat_eq) (merged (map (λ (x : ExportEntry). (x.0, (x.1, x.2))) (take i xs))) x.0 (x.1, x.2)) es) (sym put)
    (from_keyed items _ _ (both_put (pointwise nat_eq) (IsValueOf items) _ old x.0 x.0 (x.1, x.2) (record { extern_data = told; ty = ty }) (to_keyed items _ old a) refl (same, (e, there, is_type)))))

pub all_exports : (items : List Export) (xs ys : List ExportEntry) → xs ≡ ys → (i : ℕ) (made : List (List ℕ × ComponentExtern)) → length xs ≤ i → AllZip (IsExternOf items) (merged (map (λ x. (x.0, (x.1, x.2))) (take i xs))) made → AllZip (IsExternOf items) (merged (map (λ x. (x.0, (x.1, x.2))) ys)) made
all_exports items xs ys e i made l a = subst (λ zs. AllZip (IsExternOf items) (merged (map (λ (x : ExportEntry). (x.0, (x.1, x.2))) zs)) made) (take_all i xs l ∙ e) a

-- ---- what a component names is live

merged_each : {V : Type 0} (P : V → Type 0) (xs : List (List ℕ × V)) → All (λ x. P x.1) xs → All (λ x. P x.1) (merged xs)
merged_each P xs a = each_all P (merged xs) (each_merged (pointwise nat_eq) P [] xs tt (all_each P xs a))

pub imports_live : (t : Tables) (xs made : List (List ℕ × ComponentExtern)) → made ≡ merged xs → AreLiveExterns t xs → AreLiveExterns t made
imports_live t xs made e a = subst (AreLiveExterns t) (sym e) (merged_each (λ (y : ComponentExtern). IsLiveDef t y.ty) xs a)

export_live : (t : Tables) (items : List Export) → All (λ x. IsLiveDef t (type_of_export x)) items → (v : Id Exports × ComponentExternData) (y : ComponentExtern) → IsValueOf items v y → IsLiveDef t y.ty
export_live t items a v y (told, (e, there, is)) = subst (IsLiveDef t) (sym is) (subst (λ (x : Export). IsLiveDef t (type_of_export x)) (get_or_from_slice_get items v.0.number e e there) (a v.0.number e (slice_get_within items v.0.number e there)))

pub exports_live : (t : Tables) (items : List Export) (xs : List (List ℕ × (Id Exports × ComponentExternData))) → All (λ x. IsLiveDef t (type_of_export x)) items → (made : List (List ℕ × ComponentExtern)) → AllZip (IsExternOf items) xs made → AreLiveExterns t made
exports_live t items xs a made z = zip_right (IsExternOf items) (λ y. IsLiveDef t y.1.ty) (λ x y h. export_live t items a x.1 y.1 (h.told, h.ty)) xs made z

-- ---- the type of the whole component stands behind the last one, or the builder is as it was

pub whole_pushed : (b new : Builder) (c : Component) (e : ComponentType) (i : Id TypeComponents) → IsComponentTypeOf c e → CanGrow b.tables.components → new ≡ record b { tables = record b.tables { components = b.tables.components ++ e ∷ [] } } → i.number ≡ length b.tables.components → FinishesWith b c new (Ok i)
whole_pushed b new c e i is grow added place = (e, is, grow, added, place)

pub whole_short : (b : Builder) (c : Component) (r : Result (Id TypeComponents) BuildError) → (y : BuildError) × (r ≡ Err y) × (y ≡ OutOfMemory) → FinishesWith b c b r
whole_short b c r (y, q, same) = subst (FinishesWith b c b) (sym (q ∙ ap Err same)) (refl, inl refl)

refused_by : (b : Builder) (c : Component) (e : PushError) → (e ≡ push.TooLarge → length b.tables.components ≡ 4294967295) → FinishesWith b c b (Err (build_error e))
refused_by b c push.OutOfMemory h = (refl, inl refl)
refused_by b c push.TooLarge h = (refl, inr (refl, h refl))

pub whole_refused : {K : Type 0} (b new : Builder) (c : Component) (res : Result K PushError) (e : PushError) → res ≡ Err e → ((res ≡ Err push.TooLarge) ↔ (length b.tables.components ≡ 4294967295)) → (r : Result (Id TypeComponents) BuildError) → (y : BuildError) × (r ≡ Err y) × (y ≡ build_error e) → new ≡ b → FinishesWith b c new r
whole_refused b new c res e was t r (y, q, same) w =
    subst (λ z. FinishesWith b c z r) (sym w) (subst (FinishesWith b c b) (sym (q ∙ ap Err same)) (refused_by b c e (λ k. t.0 (was ∙ ap Err k))))
