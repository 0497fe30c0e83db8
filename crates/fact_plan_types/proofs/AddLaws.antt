-- What a call that makes a type of its members does for an entry of a plan.
use Rattle.std.proofs.Common.{◌⊎◌, map, ◌≡◌, ◌≤◌, ◌+◌, ℕ, List, length, Option, Ok, Err, refl, sym, ◌∙◌, ap, subst, arith, inl, inr}
use Rattle.std.specs.Prelude.{IfOk}
use Rattle.std.specs.List.{AllZip}
use Rattle.std.proofs.lemmas.Bool.{cases_lt}
use Rattle.fact_types.specs.declared.abi.CanonicalAbiInfo.{CanonicalAbiInfo}
use Rattle.fact_types.specs.declared.interface.InterfaceType.{InterfaceType}
use Rattle.fact_types.specs.declared.kinds.TypeFuture.{TypeFuture}
use Rattle.fact_types.specs.declared.kinds.TypeFutureTable.{TypeFutureTable}
use Rattle.fact_types.specs.declared.kinds.TypeStream.{TypeStream}
use Rattle.fact_types.specs.declared.kinds.TypeStreamTable.{TypeStreamTable}
use Rattle.fact_types.specs.declared.kinds.TypeErrorContextTable.{TypeErrorContextTable}
use Rattle.fact_types.specs.Functions.{HaveShapes}
use Rattle.fact_types.specs.Layout.{payloads}
use Rattle.fact_types.specs.Shapes.{Kind, k_record, k_variant, k_list, k_tuple, k_map, k_flags, k_enum, k_option, k_result, k_fixed, k_future, k_stream, Shape, s_node, Members, layout_of, layouts_of, IsWithin}
use Rattle.fact_types.specs.Tables.{Tables, HasMembers, HasShape, entries}
use Rattle.fact_types.specs.Valid.{IsEntryWithin}
use Rattle.fact_builder.specs.Builder.{Builder}
use Rattle.fact_builder.specs.Keeps.{Keeps}
use Rattle.fact_builder.specs.Kinds.{count_of}
use Rattle.fact_builder.specs.Makes.{AreFew, FitsBytes, Makes, with_table_of}
use Rattle.fact_plan.specs.declared.plan.PlanType.{PlanType}
use Rattle.fact_plan_types.specs.Adding.{AddsEntry, IsFilled, IsTooWide}
use Rattle.fact_plan_types.specs.PlanShapes.{HandleTable, HandleTables, entry_shape, tables_with, with_tuple}
use Rattle.fact_plan_types.specs.PlanTypes.{HasTuples}
use Rattle.fact_plan_types.specs.Standing.{IsHandleTable, IsFutureTable, IsStreamTable, Stand}
use Rattle.fact_plan_types.specs.TypeRules.{IsEntryPast, IsPast}
use Rattle.fact_plan_types.proofs.HandleLaws.{payload_keeps, zip_map}
use Rattle.fact_plan_types.proofs.MemberLaws.{shapes_keep, live_keep}
use Rattle.fact_plan_types.proofs.TupleLaws.{tuples_stay}

-- ---- values that fit
pub within_or_past : (c : CanonicalAbiInfo) → IsWithin c ⊎ IsPast c
within_or_past c = elim (cases_lt 4294967295 c.size32) [
  | inl h ↦ inr (inl h)
  | inr h ↦ elim (cases_lt 4294967295 c.size64) [
    | inl g ↦ inr (inr g)
    | inr g ↦ inl (record { memory32 = h; memory64 = g })
  ]
]

pub not_past : (c : CanonicalAbiInfo) → IsWithin c → IsPast c → ⊥
not_past c w p = elim p [ inl h ↦ omega (arith, w.memory32, h) | inr h ↦ omega (arith, w.memory64, h) ]

pub entry_within_or_past : (k : Kind) (ms : Members) → IsEntryWithin k (payloads (layouts_of ms)) ⊎ IsEntryPast (s_node k ms)
entry_within_or_past k_map ms = within_or_past _
entry_within_or_past k ms = inl tt

pub entry_not_past : (k : Kind) (ms : Members) → IsEntryWithin k (payloads (layouts_of ms)) → IsEntryPast (s_node k ms) → ⊥
entry_not_past k_map ms w p = not_past _ w p
entry_not_past k ms w p = p

pub fits_not_wide : (k : Kind) (ms : Members) → FitsBytes k ms → IsTooWide (s_node k ms) → ⊥
fits_not_wide k ms f w = elim w [ inl p ↦ not_past _ f.within p | inr p ↦ entry_not_past k ms f.entry_within p ]

pub unfit_wide : (k : Kind) (ms : Members) → (FitsBytes k ms → ⊥) → AreFew k (length (layouts_of ms)) → IsTooWide (s_node k ms)
unfit_wide k ms n few = elim (within_or_past (layout_of (s_node k ms))) [
  | inl w ↦ elim (entry_within_or_past k ms) [
    | inl e ↦ absurd (n (record { within = w; entry_within = e; few = few }))
    | inr p ↦ inr p
  ]
  | inr p ↦ inl p
]

-- ---- what stands goes on standing
module _ {E F : Type 0} (ty instance : E → ℕ) (payload : F → Option InterfaceType) where
  pub handles_kept : (t u : Tables) → Keeps t u → (fs gs : List F) (es ds : List E) (ys : List HandleTable) → gs ≡ fs → ds ≡ es
      → AllZip (λ (e : E) (y : HandleTable). IsHandleTable ty instance payload t fs e y) es ys → AllZip (λ (e : E) (y : HandleTable). IsHandleTable ty instance payload u gs e y) ds ys
  handles_kept t u k fs gs es ds ys p q z =
      let moved = zip_map (λ (e : E) (y : HandleTable). IsHandleTable ty instance payload t fs e y) (λ (e : E) (y : HandleTable). IsHandleTable ty instance payload u fs e y)
      (λ e y h. record { payload_stands = payload_keeps t u k.shapes _ _ h.payload_stands; same_instance = h.same_instance }) es ys z in
      subst (λ (us : List F). AllZip (λ (e : E) (y : HandleTable). IsHandleTable ty instance payload u us e y) ds ys) (sym p)
      (subst (λ (us : List E). AllZip (λ (e : E) (y : HandleTable). IsHandleTable ty instance payload u fs e y) us ys) (sym q) moved)

pub futures_kept : (t u : Tables) → Keeps t u → (ys : List HandleTable) → u.futures ≡ t.futures → u.future_tables ≡ t.future_tables → AllZip (IsFutureTable t) t.future_tables ys → AllZip (IsFutureTable u) u.future_tables ys
futures_kept t u k ys p q z = handles_kept (λ (e : TypeFutureTable). e.ty.number) (λ (e : TypeFutureTable). e.instance.number) (λ (f : TypeFuture). f.payload) t u k _ _ _ _ ys p q z

pub streams_kept : (t u : Tables) → Keeps t u → (ys : List HandleTable) → u.streams ≡ t.streams → u.stream_tables ≡ t.stream_tables → AllZip (IsStreamTable t) t.stream_tables ys → AllZip (IsStreamTable u) u.stream_tables ys
streams_kept t u k ys p q z = handles_kept (λ (e : TypeStreamTable). e.ty.number) (λ (e : TypeStreamTable). e.instance.number) (λ (f : TypeStream). f.payload) t u k _ _ _ _ ys p q z

pub stand_kept : (t u : Tables) (types : List InterfaceType) (shapes : List Shape) (h : HandleTables) → Keeps t u → u.futures ≡ t.futures → u.future_tables ≡ t.future_tables
    → u.streams ≡ t.streams → u.stream_tables ≡ t.stream_tables → u.error_context_tables ≡ t.error_context_tables → Stand t types shapes h → Stand u types shapes h
stand_kept t u types shapes h k f ft s st e z = record {
  live = live_keep t u k types z.live;
  shaped = shapes_keep t u k types shapes z.shaped;
  futures = futures_kept t u k h.futures f ft z.futures;
  streams = streams_kept t u k h.streams s st z.streams;
  error_contexts = ap (λ (es : List TypeErrorContextTable). map (λ (e : TypeErrorContextTable). e.instance.number) es) e ∙ z.error_contexts;
}

-- ---- entries with members
-- a builder with the tables of types with members of another
abbrev with_members_of : Builder → Builder → Builder
with_members_of old new = record old {
  tables = record old.tables {
    records = new.tables.records;
    variants = new.tables.variants;
    tuples = new.tables.tuples;
    flags = new.tables.flags;
    enums = new.tables.enums;
    options = new.tables.options;
    results = new.tables.results;
    lists = new.tables.lists;
    maps = new.tables.maps;
    fixed_length_lists = new.tables.fixed_length_lists;
  };
}

one_table : (old new between : Builder) → new ≡ between → between ≡ with_members_of old between → new ≡ with_members_of old new
one_table old new between e r = subst (λ (b : Builder). b ≡ with_members_of old b) (sym e) r

others : (k : Kind) (old new : Builder) → new ≡ with_table_of k old new → new ≡ with_members_of old new
others k_record old new e = one_table old new _ e refl
others k_variant old new e = one_table old new _ e refl
others k_list old new e = one_table old new _ e refl
others k_tuple old new e = one_table old new _ e refl
others k_map old new e = one_table old new _ e refl
others k_flags old new e = one_table old new _ e refl
others k_enum old new e = one_table old new _ e refl
others k_option old new e = one_table old new _ e refl
others k_result old new e = one_table old new _ e refl
others (k_fixed size) old new e = one_table old new _ e refl
others (k_future table instance) old new e = one_table old new _ e refl
others (k_stream table instance) old new e = one_table old new _ e refl

-- the types of a kind are no more than all
kind_few : (k : Kind) (t : Tables) → count_of k t ≤ entries t
kind_few k_record t = omega arith
kind_few k_variant t = omega arith
kind_few k_list t = omega arith
kind_few k_tuple t = omega arith
kind_few k_map t = omega arith
kind_few k_flags t = omega arith
kind_few k_enum t = omega arith
kind_few k_option t = omega arith
kind_few k_result t = omega arith
kind_few (k_fixed size) t = omega arith
kind_few (k_future table instance) t = omega arith
kind_few (k_stream table instance) t = omega arith

filled_more : (t u : Tables) (n : ℕ) → entries u ≤ entries t + 1 → u.functions ≡ t.functions → u.futures ≡ t.futures → u.streams ≡ t.streams → u.error_context_tables ≡ t.error_context_tables → IsFilled n t → IsFilled (n + 1) u
filled_more t u n g a b c d f = record {
  members = omega (arith, g, f.members);
  functions = omega (arith, ap length a, f.functions);
  futures = omega (arith, ap length b, f.futures);
  streams = omega (arith, ap length c, f.streams);
  error_contexts = omega (arith, ap length d, f.error_contexts);
}

pub makes_fills : (old new : Builder) (k : Kind) (xs : List (List ℕ × Option InterfaceType)) (result : _) → Makes old new k xs result → (n : ℕ) → IsFilled n old.tables → IsFilled (n + 1) new.tables
makes_fills old new k xs result m n f =
    let r = others k old new m.rest in
    filled_more old.tables new.tables n m.grows (ap (λ (b : Builder). b.tables.functions) r) (ap (λ (b : Builder). b.tables.futures) r) (ap (λ (b : Builder). b.tables.streams) r) (ap (λ (b : Builder). b.tables.error_context_tables) r) f

makes_stand : (old new : Builder) (k : Kind) (xs : List (List ℕ × Option InterfaceType)) (result : _) → Makes old new k xs result → (types : List InterfaceType) (shapes : List Shape) (h : HandleTables) → Stand old.tables types shapes h → Stand new.tables types shapes h
makes_stand old new k xs result m types shapes h z =
    let r = others k old new m.rest in
    stand_kept old.tables new.tables types shapes h m.keeps (ap (λ (b : Builder). b.tables.futures) r) (ap (λ (b : Builder). b.tables.future_tables) r) (ap (λ (b : Builder). b.tables.streams) r) (ap (λ (b : Builder). b.tables.stream_tables) r) (ap (λ (b : Builder). b.tables.error_context_tables) r) z

-- the tuples when a type of this shape is added
abbrev pub AddsTuples : (old new : Builder) → List InterfaceType → (List Shape → Shape) → Type 0
AddsTuples old new types s = (shapes : List Shape) → HaveShapes old.tables types shapes → (ts : List Shape) → HasTuples old.tables ts → HasTuples new.tables (with_tuple ts (s shapes))

pub no_tuples : (old new : Builder) (types : List InterfaceType) (k : Kind) (xs : List (List ℕ × Option InterfaceType)) (ms : List Shape → Members) (result : _) → Makes old new k xs result → new.tables.tuples ≡ old.tables.tuples
    → ((ts : List Shape) (shapes : List Shape) → with_tuple ts (s_node k (ms shapes)) ≡ ts) → IfOk result (λ ty. AddsTuples old new types (λ ss. s_node k (ms ss)))
no_tuples old new types k xs ms (Ok ty) m e same = λ shapes h ts z. subst (HasTuples new.tables) (sym (same ts shapes)) (tuples_stay old.tables new.tables m.keeps e ts z)
no_tuples old new types k xs ms (Err x) m e same = tt

pub makes_adds : (old new : Builder) (types : List InterfaceType) (e : PlanType) (k : Kind) (xs : List (List ℕ × Option InterfaceType)) (ms : List Shape → Members) (result : _)
    → Makes old new k xs result
    → ((shapes : List Shape) → HaveShapes old.tables types shapes → HasMembers old.tables xs (ms shapes))
    → ((shapes : List Shape) (h : HandleTables) → entry_shape shapes h e ≡ s_node k (ms shapes))
    → ((shapes : List Shape) (h : HandleTables) → tables_with shapes h e ≡ h)
    → ((shapes : List Shape) → AreFew k (length (layouts_of (ms shapes))))
    → IfOk result (λ ty. AddsTuples old new types (λ ss. s_node k (ms ss)))
    → AddsEntry old new types e result
makes_adds old new types e k xs ms (Ok ty) m has shape same few tuples = record {
  live = m.live;
  shaped = λ shapes h z. subst (HasShape new.tables ty) (sym (shape shapes h)) (m.shaped (ms shapes) (has shapes z.shaped));
  stands = λ shapes h z. subst (Stand new.tables types shapes) (sym (same shapes h)) (makes_stand old new k xs _ m types shapes h z);
  tuples = λ shapes h z ts u. subst (λ (s : Shape). HasTuples new.tables (with_tuple ts s)) (sym (shape shapes h)) (tuples shapes z.shaped ts u);
  fits = λ shapes h z w. fits_not_wide k (ms shapes) (m.fits (ms shapes) (has shapes z.shaped)) (subst IsTooWide (shape shapes h) w);
  too_large = λ q. absurd (cc);
  fills = makes_fills old new k xs _ m;
  rest = ap (λ (b : Builder). b.tables.resource_tables) (others k old new m.rest);
}
makes_adds old new types e k xs ms (Err x) m has shape same few tuples = record {
  live = tt;
  shaped = tt;
  stands = tt;
  tuples = tt;
  fits = tt;
  too_large = λ q n l f shapes h z. subst IsTooWide (sym (shape shapes h)) (elim (m.too_large q) [
    | inl u ↦ unfit_wide k (ms shapes) (u (ms shapes) (has shapes z.shaped)) (few shapes)
    | inr full ↦ absurd (omega (arith, full.1, kind_few k old.tables, l, f.members))
  ]);
  fills = tt;
  rest = tt;
}
