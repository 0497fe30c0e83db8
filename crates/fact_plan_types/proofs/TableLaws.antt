-- What adding a table of handles does for an entry of a plan.
use Rattle.std.proofs.Common.{◌≡◌, ◌<◌, ◌≤◌, ◌+◌, ℕ, List, [], ◌∷◌, ◌++◌, length, map, Option, Some, Result, Ok, Err, Bool, true, false, cond, ◌||◌, if◌then◌else◌, refl, sym, ◌∙◌, ap, subst, arith, inl, inr, lit≤, All, length-append}
use Rattle.std.specs.Prelude.{nat_eq, not, slice_get, option_map}
use Rattle.std.specs.List.{AllZip, IsDistinct, list_any, position_or_len}
use Rattle.std.proofs.lemmas.Bool.{true≢false}
use Rattle.std.proofs.lemmas.List.{map-append}
use Rattle.std.proofs.lemmas.Option.{slice_get_within}
use Rattle.indexmap.specs.IndexSet.{insert_key}
use Rattle.fact_entity.specs.Places.{IsInterned}
use Rattle.fact_entity.specs.declared.error.PushError.{PushError}
use Rattle.fact_entity.specs.declared.error.PushError.TheVariants.{TooLarge}
use Rattle.fact_entity.specs.declared.id.Id.{Id}
use Rattle.fact_entity.specs.declared.table.RuntimeComponentInstances.{RuntimeComponentInstances}
use Rattle.fact_entity.specs.declared.table.TypeComponentLocalErrorContextTables.{TypeComponentLocalErrorContextTables}
use Rattle.fact_entity.specs.declared.table.TypeFutures.{TypeFutures}
use Rattle.fact_entity.specs.declared.table.TypeFutureTables.{TypeFutureTables}
use Rattle.fact_entity.specs.declared.table.TypeResourceTables.{TypeResourceTables}
use Rattle.fact_entity.specs.declared.table.TypeStreams.{TypeStreams}
use Rattle.fact_entity.specs.declared.table.TypeStreamTables.{TypeStreamTables}
use Rattle.fact_types.specs.declared.interface.InterfaceType.{InterfaceType}
use Rattle.fact_types.specs.declared.interface.InterfaceType.TheVariants.{Own as t_own, Borrow as t_borrow, Future as t_future, Stream as t_stream, ErrorContext as t_error_context}
use Rattle.fact_types.specs.declared.kinds.TypeFuture.{TypeFuture}
use Rattle.fact_types.specs.declared.kinds.TypeFutureTable.{TypeFutureTable}
use Rattle.fact_types.specs.declared.kinds.TypeStream.{TypeStream}
use Rattle.fact_types.specs.declared.kinds.TypeStreamTable.{TypeStreamTable}
use Rattle.fact_types.specs.declared.kinds.TypeErrorContextTable.{TypeErrorContextTable}
use Rattle.fact_types.specs.contracts.kinds.TypeFuturePartialEq.TheImpl as future_eq
use Rattle.fact_types.specs.contracts.kinds.TypeFutureEq.TheImpl.Laws.{laws-law as future_laws}
use Rattle.fact_types.specs.contracts.kinds.TypeFutureTablePartialEq.TheImpl as future_table_eq
use Rattle.fact_types.specs.contracts.kinds.TypeStreamPartialEq.TheImpl as stream_eq
use Rattle.fact_types.specs.contracts.kinds.TypeStreamEq.TheImpl.Laws.{laws-law as stream_laws}
use Rattle.fact_types.specs.contracts.kinds.TypeStreamTablePartialEq.TheImpl as stream_table_eq
use Rattle.fact_types.specs.contracts.kinds.TypeErrorContextTablePartialEq.TheImpl as error_context_table_eq
use Rattle.fact_types.specs.Functions.{HaveShapes}
use Rattle.fact_types.specs.Layout.{scalar_layout}
use Rattle.fact_types.specs.Shapes.{IsWithin, k_future, k_stream, Shape, s_node, no_members, layout_of}
use Rattle.fact_types.specs.Tables.{Tables, of_future_tables, of_stream_tables, future_node, stream_node, HasShape, IsSound, entries, payload_in}
use Rattle.fact_builder.specs.Builder.{Builder}
use Rattle.fact_builder.specs.Keeps.{Keeps}
use Rattle.fact_plan.specs.declared.plan.PlanRef.{PlanRef}
use Rattle.fact_plan.specs.declared.plan.PlanType.{PlanType}
use Rattle.fact_plan.specs.declared.plan.PlanType.TheVariants as entry
use Rattle.fact_plan_types.specs.Adding.{AddsEntry, IsFilled, IsTooWide}
use Rattle.fact_plan_types.specs.PlanShapes.{HandleTable, HandleTables, handle_table, entry_shape, member_of, payload_of, same_table}
use Rattle.fact_plan_types.specs.TypeRules.{IsEntryPast}
use Rattle.fact_builder.proofs.IndexLaws.{once}
use Rattle.fact_plan_types.specs.Standing.{IsHandleTable, PayloadStands, Stand}
use Rattle.fact_plan_types.proofs.AddLaws.{not_past, futures_kept, handles_kept, streams_kept}
use Rattle.fact_plan_types.proofs.HandleLaws.{added_table, all_kept, payload_keeps}
use Rattle.fact_plan_types.proofs.MemberLaws.{live_keep, payload_members, shapes_keep}
use Rattle.fact_plan_types.proofs.TupleLaws.{tuples_stay}

-- ---- how a table grows
grown : {X : Type 0} (b : Bool) (xs : List X) (v : X) → length (if b then xs else xs ++ v ∷ []) ≤ length xs + 1
grown true xs v = omega arith
grown false xs v = omega (arith, length-append xs (v ∷ []))

pub interned_grows : {X : Type 0} (eq : X → X → Bool) (old new : List X) (v : X) (i : ℕ) → IsInterned eq old new v i → length new ≤ length old + 1
interned_grows eq old new v i d = subst (λ (xs : List _). length xs ≤ length old + 1) (sym d.list) (grown (list_any (eq v) old) old v)

longer : {X : Type 0} (b : Bool) (xs : List X) (v : X) → length xs ≤ length (if b then xs else xs ++ v ∷ [])
longer true xs v = omega arith
longer false xs v = omega (arith, length-append xs (v ∷ []))

interned_longer : {X : Type 0} (eq : X → X → Bool) (old new : List X) (v : X) (i : ℕ) → IsInterned eq old new v i → length old ≤ length new
interned_longer eq old new v i d = subst (λ (xs : List _). length old ≤ length xs) (sym d.list) (longer (list_any (eq v) old) old v)

-- ---- a refusal that is no want of room
err_tells : (x y : PushError) (r s : Result InterfaceType PushError) → r ≡ Err x → s ≡ Err y → r ≡ s → x ≡ y
err_tells x y r s p q e = cc

pub refused_adds : (old new : Builder) (types : List InterfaceType) (e : PlanType) (x : PushError) → (x ≡ TooLarge → (n : ℕ) → n < 4294967295 → IsFilled n old.tables → ⊥) → AddsEntry old new types e (Err x)
refused_adds old new types e x f = record {
  live = tt;
  shaped = tt;
  stands = tt;
  tuples = tt;
  fits = tt;
  too_large = λ q n l z shapes h s. absurd (f (err_tells x TooLarge _ _ refl refl q) n l z);
  fills = tt;
  rest = tt;
}

-- a refusal that came through `?`
pub full_adds : (old new : Builder) (types : List InterfaceType) (e : PlanType) (result : Result InterfaceType PushError) (x y : PushError) → result ≡ Err y → y ≡ x
    → (x ≡ TooLarge → (n : ℕ) → n < 4294967295 → IsFilled n old.tables → ⊥) → AddsEntry old new types e result
full_adds old new types e result x y p q f = subst (AddsEntry old new types e) (sym (p ∙ ap Err q)) (refused_adds old new types e x f)

pub both_keep : (t u v : Tables) → Keeps t u → Keeps u v → Keeps t v
both_keep t u v k l = record {
  live = λ ty h. l.live ty (k.live ty h);
  shapes = λ ty s h. l.shapes ty s (k.shapes ty s h);
  signatures = λ i params results h. l.signatures i params results (k.signatures i params results h);
}

-- handles take 4 bytes
small_not_wide : (s : Shape) → layout_of s ≡ scalar_layout 4 → (IsEntryPast s → ⊥) → IsTooWide s → ⊥
small_not_wide s e f w = elim w [ inl p ↦ not_past _ (subst IsWithin (sym e) (record { memory32 = lit≤ tt; memory64 = lit≤ tt })) p | inr p ↦ f p ]

-- ---- tables of futures
abbrev future_type : TypeFutureTable → ℕ
future_type e = e.ty.number

abbrev future_instance : TypeFutureTable → ℕ
future_instance e = e.instance.number

abbrev future_payload : TypeFuture → Option InterfaceType
future_payload f = f.payload

futures_once : (fs : List TypeFuture) → IsDistinct future_eq.ghosts.eq fs → (i j : ℕ) (f g : TypeFuture) → slice_get fs i ≡ Some f → slice_get fs j ≡ Some g → future_payload f ≡ future_payload g → i ≡ j
futures_once fs d i j f g p q e =
    let same : g ≡ f = λ k. record { payload = sym e k } in
    once future_eq.ghosts.eq future_laws.refl fs d i j f p (q ∙ ap Some same)

-- A future type was looked for or added, and then its table in an instance.
pub record AddedFuture (old mid new : Builder) (p : Option InterfaceType) (ty : Id TypeFutures) (table : Id TypeFutureTables) (instance : Id RuntimeComponentInstances) : Type 0 where
  pub sound : IsSound old.tables
  pub type_interned : IsInterned future_eq.ghosts.eq old.tables.futures mid.tables.futures (record { payload = p }) ty.number
  pub type_entry : slice_get mid.tables.futures ty.number ≡ Some (record { payload = p })
  pub type_rest : mid ≡ record old { tables = record old.tables { futures = mid.tables.futures } }
  pub type_keeps : Keeps old.tables mid.tables
  pub one_index : (a b : InterfaceType) (s : Shape) → HasShape mid.tables a s → HasShape mid.tables b s → a ≡ b
  pub distinct : IsDistinct future_eq.ghosts.eq mid.tables.futures
  pub table_interned : IsInterned future_table_eq.ghosts.eq mid.tables.future_tables new.tables.future_tables (record { ty = ty; instance = instance }) table.number
  pub table_entry : slice_get new.tables.future_tables table.number ≡ Some (record { ty = ty; instance = instance })
  pub table_rest : new ≡ record mid { tables = record mid.tables { future_tables = new.tables.future_tables } }
  pub table_keeps : Keeps mid.tables new.tables

future_numbered : (old mid new : Builder) (p : Option InterfaceType) (ty : Id TypeFutures) (table : Id TypeFutureTables) (instance : Id RuntimeComponentInstances) → AddedFuture old mid new p ty table instance
    → (x : HandleTable) → PayloadStands old.tables p x.payload → instance.number ≡ x.instance
    → (ys : List HandleTable) → AllZip (IsHandleTable future_type future_instance future_payload old.tables old.tables.futures) old.tables.future_tables ys
    → (table.number ≡ position_or_len (same_table x) ys) × AllZip (IsHandleTable future_type future_instance future_payload mid.tables mid.tables.futures) new.tables.future_tables (insert_key same_table ys x)
future_numbered old mid new p ty table instance a x h i ys z =
    let v : TypeFutureTable = record { ty = ty; instance = instance } in
    let tables : mid.tables.future_tables ≡ old.tables.future_tables = ap (λ (b : Builder). b.tables.future_tables) a.type_rest in
    let linked : All (λ (e : TypeFutureTable). future_type e < length old.tables.futures) old.tables.future_tables = a.sound.held_live of_future_tables in
    let kept = all_kept future_table_eq.ghosts.eq future_type future_instance future_payload old.tables mid.tables a.type_keeps.shapes old.tables.futures mid.tables.futures a.type_interned.keeps old.tables.future_tables ys linked z in
    let longer = interned_longer future_eq.ghosts.eq old.tables.futures mid.tables.futures _ ty.number a.type_interned in
    let payload : payload_in future_payload (slice_get mid.tables.futures ty.number) ≡ p = ap (payload_in future_payload) a.type_entry in
    added_table future_table_eq.ghosts.eq future_type future_instance future_payload (λ e f. refl) mid.tables a.one_index mid.tables.futures (futures_once mid.tables.futures a.distinct)
    old.tables.future_tables new.tables.future_tables ys v x table.number
    (λ j d l. omega (arith, linked j d l, longer)) kept (slice_get_within _ _ _ a.type_entry)
    (record { payload_stands = subst (λ (o : Option InterfaceType). PayloadStands mid.tables o x.payload) (sym payload) (payload_keeps old.tables mid.tables a.type_keeps.shapes p x.payload h); same_instance = i })
    (subst (λ (es : List TypeFutureTable). IsInterned future_table_eq.ghosts.eq es new.tables.future_tables v table.number) tables a.table_interned)

future_filled : (old mid new : Builder) (p : Option InterfaceType) (ty : Id TypeFutures) (table : Id TypeFutureTables) (instance : Id RuntimeComponentInstances) → AddedFuture old mid new p ty table instance
    → (n : ℕ) → IsFilled n old.tables → IsFilled (n + 1) new.tables
future_filled old mid new p ty table instance a n f =
    let r = a.type_rest in
    let q = a.table_rest in
    let g = interned_grows future_table_eq.ghosts.eq mid.tables.future_tables new.tables.future_tables _ table.number a.table_interned in
    let types = interned_grows future_eq.ghosts.eq old.tables.futures mid.tables.futures _ ty.number a.type_interned in
    let before : entries mid.tables ≡ entries old.tables = ap (λ (b : Builder). entries b.tables) r in
    let after : entries (record mid.tables { future_tables = new.tables.future_tables }) ≤ entries mid.tables + 1 = omega (arith, g) in
    let whole : entries new.tables ≡ entries (record mid.tables { future_tables = new.tables.future_tables }) = ap (λ (b : Builder). entries b.tables) q in
    record {
      members = omega (arith, whole, after, before, f.members);
      functions = omega (arith, ap (λ (b : Builder). length b.tables.functions) q, ap (λ (b : Builder). length b.tables.functions) r, f.functions);
      futures = omega (arith, ap (λ (b : Builder). length b.tables.futures) q, types, f.futures);
      streams = omega (arith, ap (λ (b : Builder). length b.tables.streams) q, ap (λ (b : Builder). length b.tables.streams) r, f.streams);
      error_contexts = omega (arith, ap (λ (b : Builder). length b.tables.error_context_tables) q, ap (λ (b : Builder). length b.tables.error_context_tables) r, f.error_contexts);
    }

future_stands : (old mid new : Builder) (p : Option InterfaceType) (ty : Id TypeFutures) (table : Id TypeFutureTables) (instance : Id RuntimeComponentInstances) → AddedFuture old mid new p ty table instance
    → (x : HandleTable) → PayloadStands old.tables p x.payload → instance.number ≡ x.instance
    → (types : List InterfaceType) (shapes : List Shape) (h : HandleTables) → Stand old.tables types shapes h → Stand new.tables types shapes (record h { futures = insert_key same_table h.futures x })
future_stands old mid new p ty table instance a x ps i types shapes h z =
    let r = a.type_rest in
    let q = a.table_rest in
    let numbered = future_numbered old mid new p ty table instance a x ps i h.futures z.futures in
    let types_at : new.tables.futures ≡ mid.tables.futures = ap (λ (b : Builder). b.tables.futures) q in
    let streams_at : new.tables.streams ≡ old.tables.streams = ap (λ (b : Builder). b.tables.streams) q ∙ ap (λ (b : Builder). b.tables.streams) r in
    let stream_tables_at : new.tables.stream_tables ≡ old.tables.stream_tables = ap (λ (b : Builder). b.tables.stream_tables) q ∙ ap (λ (b : Builder). b.tables.stream_tables) r in
    let contexts_at : new.tables.error_context_tables ≡ old.tables.error_context_tables = ap (λ (b : Builder). b.tables.error_context_tables) q ∙ ap (λ (b : Builder). b.tables.error_context_tables) r in
    let keeps = both_keep old.tables mid.tables new.tables a.type_keeps a.table_keeps in
    record {
      live = live_keep old.tables new.tables keeps types z.live;
      shaped = shapes_keep old.tables new.tables keeps types shapes z.shaped;
      futures = handles_kept future_type future_instance future_payload mid.tables new.tables a.table_keeps _ _ _ _ (insert_key same_table h.futures x) types_at refl numbered.1;
      streams = streams_kept old.tables new.tables keeps h.streams streams_at stream_tables_at z.streams;
      error_contexts = ap (λ (es : List TypeErrorContextTable). map (λ (e : TypeErrorContextTable). e.instance.number) es) contexts_at ∙ z.error_contexts;
    }

-- the shape of a table at its number
future_shaped : (old mid new : Builder) (p : Option InterfaceType) (ty : Id TypeFutures) (table : Id TypeFutureTables) (instance : Id RuntimeComponentInstances) → AddedFuture old mid new p ty table instance
    → (before : List Shape) (o : Option PlanRef) → PayloadStands old.tables p (payload_of before o) → HasShape new.tables (t_future table) (s_node (k_future table.number instance.number) (member_of before [] o no_members))
future_shaped old mid new p ty table instance a before o ps =
    let v : TypeFutureTable = record { ty = ty; instance = instance } in
    let types_at : new.tables.futures ≡ mid.tables.futures = ap (λ (b : Builder). b.tables.futures) a.table_rest in
    let payload : payload_in future_payload (slice_get new.tables.futures ty.number) ≡ p = ap (λ (fs : List TypeFuture). payload_in future_payload (slice_get fs ty.number)) types_at ∙ ap (payload_in future_payload) a.type_entry in
    let keeps = both_keep old.tables mid.tables new.tables a.type_keeps a.table_keeps in
    let stands = subst (λ (o' : Option InterfaceType). PayloadStands new.tables o' (payload_of before o)) (sym payload) (payload_keeps old.tables new.tables keeps.shapes p (payload_of before o) ps) in
    (future_node new.tables.futures table.number v, ap (option_map (future_node new.tables.futures table.number)) a.table_entry, refl, payload_members new.tables _ before o [] [] no_members stands tt)

-- a table that was added is that of the entry
pub future_adds : (old mid new : Builder) (p : Option InterfaceType) (ty : Id TypeFutures) (table : Id TypeFutureTables) (instance : Id RuntimeComponentInstances) → AddedFuture old mid new p ty table instance
    → (types : List InterfaceType) (o : Option PlanRef) (i : ℕ) → instance.number ≡ i → ((shapes : List Shape) → HaveShapes old.tables types shapes → PayloadStands old.tables p (payload_of shapes o))
    → AddsEntry old new types (entry.Future o i) (Ok (t_future table))
future_adds old mid new p ty table instance a types o i e has = record {
  live = slice_get_within _ _ _ a.table_entry;
  shaped = λ shapes h z.
      let x = handle_table shapes o i in
      let numbered = future_numbered old mid new p ty table instance a x (has shapes z.shaped) e h.futures z.futures in
      subst (λ (s : Shape). HasShape new.tables (t_future table) s) (λ k. s_node (k_future (numbered.0 k) (e k)) (member_of shapes [] o no_members))
      (future_shaped old mid new p ty table instance a shapes o (has shapes z.shaped));
  stands = λ shapes h z. future_stands old mid new p ty table instance a (handle_table shapes o i) (has shapes z.shaped) e types shapes h z;
  tuples = λ shapes h z. tuples_stay old.tables new.tables (both_keep old.tables mid.tables new.tables a.type_keeps a.table_keeps) (ap (λ (b : Builder). b.tables.tuples) a.table_rest ∙ ap (λ (b : Builder). b.tables.tuples) a.type_rest);
  fits = λ shapes h z. small_not_wide (entry_shape shapes h (entry.Future o i)) refl (λ w. w);
  too_large = λ q. absurd (cc);
  fills = future_filled old mid new p ty table instance a;
  rest = ap (λ (b : Builder). b.tables.resource_tables) a.table_rest ∙ ap (λ (b : Builder). b.tables.resource_tables) a.type_rest;
}

-- ---- tables of streams
abbrev stream_type : TypeStreamTable → ℕ
stream_type e = e.ty.number

abbrev stream_instance : TypeStreamTable → ℕ
stream_instance e = e.instance.number

abbrev stream_payload : TypeStream → Option InterfaceType
stream_payload f = f.payload

streams_once : (fs : List TypeStream) → IsDistinct stream_eq.ghosts.eq fs → (i j : ℕ) (f g : TypeStream) → slice_get fs i ≡ Some f → slice_get fs j ≡ Some g → stream_payload f ≡ stream_payload g → i ≡ j
streams_once fs d i j f g p q e =
    let same : g ≡ f = λ k. record { payload = sym e k } in
    once stream_eq.ghosts.eq stream_laws.refl fs d i j f p (q ∙ ap Some same)

-- A stream type was looked for or added, and then its table in an instance.
pub record AddedStream (old mid new : Builder) (p : Option InterfaceType) (ty : Id TypeStreams) (table : Id TypeStreamTables) (instance : Id RuntimeComponentInstances) : Type 0 where
  pub sound : IsSound old.tables
  pub type_interned : IsInterned stream_eq.ghosts.eq old.tables.streams mid.tables.streams (record { payload = p }) ty.number
  pub type_entry : slice_get mid.tables.streams ty.number ≡ Some (record { payload = p })
  pub type_rest : mid ≡ record old { tables = record old.tables { streams = mid.tables.streams } }
  pub type_keeps : Keeps old.tables mid.tables
  pub one_index : (a b : InterfaceType) (s : Shape) → HasShape mid.tables a s → HasShape mid.tables b s → a ≡ b
  pub distinct : IsDistinct stream_eq.ghosts.eq mid.tables.streams
  pub table_interned : IsInterned stream_table_eq.ghosts.eq mid.tables.stream_tables new.tables.stream_tables (record { ty = ty; instance = instance }) table.number
  pub table_entry : slice_get new.tables.stream_tables table.number ≡ Some (record { ty = ty; instance = instance })
  pub table_rest : new ≡ record mid { tables = record mid.tables { stream_tables = new.tables.stream_tables } }
  pub table_keeps : Keeps mid.tables new.tables

stream_numbered : (old mid new : Builder) (p : Option InterfaceType) (ty : Id TypeStreams) (table : Id TypeStreamTables) (instance : Id RuntimeComponentInstances) → AddedStream old mid new p ty table instance
    → (x : HandleTable) → PayloadStands old.tables p x.payload → instance.number ≡ x.instance
    → (ys : List HandleTable) → AllZip (IsHandleTable stream_type stream_instance stream_payload old.tables old.tables.streams) old.tables.stream_tables ys
    → (table.number ≡ position_or_len (same_table x) ys) × AllZip (IsHandleTable stream_type stream_instance stream_payload mid.tables mid.tables.streams) new.tables.stream_tables (insert_key same_table ys x)
stream_numbered old mid new p ty table instance a x h i ys z =
    let v : TypeStreamTable = record { ty = ty; instance = instance } in
    let tables : mid.tables.stream_tables ≡ old.tables.stream_tables = ap (λ (b : Builder). b.tables.stream_tables) a.type_rest in
    let linked : All (λ (e : TypeStreamTable). stream_type e < length old.tables.streams) old.tables.stream_tables = a.sound.held_live of_stream_tables in
    let kept = all_kept stream_table_eq.ghosts.eq stream_type stream_instance stream_payload old.tables mid.tables a.type_keeps.shapes old.tables.streams mid.tables.streams a.type_interned.keeps old.tables.stream_tables ys linked z in
    let longer = interned_longer stream_eq.ghosts.eq old.tables.streams mid.tables.streams _ ty.number a.type_interned in
    let payload : payload_in stream_payload (slice_get mid.tables.streams ty.number) ≡ p = ap (payload_in stream_payload) a.type_entry in
    added_table stream_table_eq.ghosts.eq stream_type stream_instance stream_payload (λ e f. refl) mid.tables a.one_index mid.tables.streams (streams_once mid.tables.streams a.distinct)
    old.tables.stream_tables new.tables.stream_tables ys v x table.number
    (λ j d l. omega (arith, linked j d l, longer)) kept (slice_get_within _ _ _ a.type_entry)
    (record { payload_stands = subst (λ (o : Option InterfaceType). PayloadStands mid.tables o x.payload) (sym payload) (payload_keeps old.tables mid.tables a.type_keeps.shapes p x.payload h); same_instance = i })
    (subst (λ (es : List TypeStreamTable). IsInterned stream_table_eq.ghosts.eq es new.tables.stream_tables v table.number) tables a.table_interned)

stream_filled : (old mid new : Builder) (p : Option InterfaceType) (ty : Id TypeStreams) (table : Id TypeStreamTables) (instance : Id RuntimeComponentInstances) → AddedStream old mid new p ty table instance
    → (n : ℕ) → IsFilled n old.tables → IsFilled (n + 1) new.tables
stream_filled old mid new p ty table instance a n f =
    let r = a.type_rest in
    let q = a.table_rest in
    let g = interned_grows stream_table_eq.ghosts.eq mid.tables.stream_tables new.tables.stream_tables _ table.number a.table_interned in
    let types = interned_grows stream_eq.ghosts.eq old.tables.streams mid.tables.streams _ ty.number a.type_interned in
    let before : entries mid.tables ≡ entries old.tables = ap (λ (b : Builder). entries b.tables) r in
    let after : entries (record mid.tables { stream_tables = new.tables.stream_tables }) ≤ entries mid.tables + 1 = omega (arith, g) in
    let whole : entries new.tables ≡ entries (record mid.tables { stream_tables = new.tables.stream_tables }) = ap (λ (b : Builder). entries b.tables) q in
    record {
      members = omega (arith, whole, after, before, f.members);
      functions = omega (arith, ap (λ (b : Builder). length b.tables.functions) q, ap (λ (b : Builder). length b.tables.functions) r, f.functions);
      streams = omega (arith, ap (λ (b : Builder). length b.tables.streams) q, types, f.streams);
      futures = omega (arith, ap (λ (b : Builder). length b.tables.futures) q, ap (λ (b : Builder). length b.tables.futures) r, f.futures);
      error_contexts = omega (arith, ap (λ (b : Builder). length b.tables.error_context_tables) q, ap (λ (b : Builder). length b.tables.error_context_tables) r, f.error_contexts);
    }

stream_stands : (old mid new : Builder) (p : Option InterfaceType) (ty : Id TypeStreams) (table : Id TypeStreamTables) (instance : Id RuntimeComponentInstances) → AddedStream old mid new p ty table instance
    → (x : HandleTable) → PayloadStands old.tables p x.payload → instance.number ≡ x.instance
    → (types : List InterfaceType) (shapes : List Shape) (h : HandleTables) → Stand old.tables types shapes h → Stand new.tables types shapes (record h { streams = insert_key same_table h.streams x })
stream_stands old mid new p ty table instance a x ps i types shapes h z =
    let r = a.type_rest in
    let q = a.table_rest in
    let numbered = stream_numbered old mid new p ty table instance a x ps i h.streams z.streams in
    let types_at : new.tables.streams ≡ mid.tables.streams = ap (λ (b : Builder). b.tables.streams) q in
    let futures_at : new.tables.futures ≡ old.tables.futures = ap (λ (b : Builder). b.tables.futures) q ∙ ap (λ (b : Builder). b.tables.futures) r in
    let future_tables_at : new.tables.future_tables ≡ old.tables.future_tables = ap (λ (b : Builder). b.tables.future_tables) q ∙ ap (λ (b : Builder). b.tables.future_tables) r in
    let contexts_at : new.tables.error_context_tables ≡ old.tables.error_context_tables = ap (λ (b : Builder). b.tables.error_context_tables) q ∙ ap (λ (b : Builder). b.tables.error_context_tables) r in
    let keeps = both_keep old.tables mid.tables new.tables a.type_keeps a.table_keeps in
    record {
      live = live_keep old.tables new.tables keeps types z.live;
      shaped = shapes_keep old.tables new.tables keeps types shapes z.shaped;
      streams = handles_kept stream_type stream_instance stream_payload mid.tables new.tables a.table_keeps _ _ _ _ (insert_key same_table h.streams x) types_at refl numbered.1;
      futures = futures_kept old.tables new.tables keeps h.futures futures_at future_tables_at z.futures;
      error_contexts = ap (λ (es : List TypeErrorContextTable). map (λ (e : TypeErrorContextTable). e.instance.number) es) contexts_at ∙ z.error_contexts;
    }

-- the shape of a table at its number
stream_shaped : (old mid new : Builder) (p : Option InterfaceType) (ty : Id TypeStreams) (table : Id TypeStreamTables) (instance : Id RuntimeComponentInstances) → AddedStream old mid new p ty table instance
    → (before : List Shape) (o : Option PlanRef) → PayloadStands old.tables p (payload_of before o) → HasShape new.tables (t_stream table) (s_node (k_stream table.number instance.number) (member_of before [] o no_members))
stream_shaped old mid new p ty table instance a before o ps =
    let v : TypeStreamTable = record { ty = ty; instance = instance } in
    let types_at : new.tables.streams ≡ mid.tables.streams = ap (λ (b : Builder). b.tables.streams) a.table_rest in
    let payload : payload_in stream_payload (slice_get new.tables.streams ty.number) ≡ p = ap (λ (fs : List TypeStream). payload_in stream_payload (slice_get fs ty.number)) types_at ∙ ap (payload_in stream_payload) a.type_entry in
    let keeps = both_keep old.tables mid.tables new.tables a.type_keeps a.table_keeps in
    let stands = subst (λ (o' : Option InterfaceType). PayloadStands new.tables o' (payload_of before o)) (sym payload) (payload_keeps old.tables new.tables keeps.shapes p (payload_of before o) ps) in
    (stream_node new.tables.streams table.number v, ap (option_map (stream_node new.tables.streams table.number)) a.table_entry, refl, payload_members new.tables _ before o [] [] no_members stands tt)

-- a table that was added is that of the entry
pub stream_adds : (old mid new : Builder) (p : Option InterfaceType) (ty : Id TypeStreams) (table : Id TypeStreamTables) (instance : Id RuntimeComponentInstances) → AddedStream old mid new p ty table instance
    → (types : List InterfaceType) (o : Option PlanRef) (i : ℕ) → instance.number ≡ i → ((shapes : List Shape) → HaveShapes old.tables types shapes → PayloadStands old.tables p (payload_of shapes o))
    → AddsEntry old new types (entry.Stream o i) (Ok (t_stream table))
stream_adds old mid new p ty table instance a types o i e has = record {
  live = slice_get_within _ _ _ a.table_entry;
  shaped = λ shapes h z.
      let x = handle_table shapes o i in
      let numbered = stream_numbered old mid new p ty table instance a x (has shapes z.shaped) e h.streams z.streams in
      subst (λ (s : Shape). HasShape new.tables (t_stream table) s) (λ k. s_node (k_stream (numbered.0 k) (e k)) (member_of shapes [] o no_members))
      (stream_shaped old mid new p ty table instance a shapes o (has shapes z.shaped));
  stands = λ shapes h z. stream_stands old mid new p ty table instance a (handle_table shapes o i) (has shapes z.shaped) e types shapes h z;
  tuples = λ shapes h z. tuples_stay old.tables new.tables (both_keep old.tables mid.tables new.tables a.type_keeps a.table_keeps) (ap (λ (b : Builder). b.tables.tuples) a.table_rest ∙ ap (λ (b : Builder). b.tables.tuples) a.type_rest);
  fits = λ shapes h z. small_not_wide (entry_shape shapes h (entry.Stream o i)) refl (λ w. w);
  too_large = λ q. absurd (cc);
  fills = stream_filled old mid new p ty table instance a;
  rest = ap (λ (b : Builder). b.tables.resource_tables) a.table_rest ∙ ap (λ (b : Builder). b.tables.resource_tables) a.type_rest;
}

-- ---- tables of error contexts
position-map : {A B : Type 0} (f : A → B) (q : B → Bool) (xs : List A) → position_or_len (λ x. q (f x)) xs ≡ position_or_len q (map f xs)
position-map f q [] = refl
position-map f q (x ∷ xs) = let e = position-map f q xs in λ i. cond (not (q (f x))) (1 + e i) 0

any-map : {A B : Type 0} (f : A → B) (q : B → Bool) (xs : List A) → list_any (λ x. q (f x)) xs ≡ list_any q (map f xs)
any-map f q [] = refl
any-map f q (x ∷ xs) = let e = any-map f q xs in λ i. q (f x) || e i

insert-map : {A B : Type 0} (f : A → B) (b c : Bool) (xs : List A) (v : A) → b ≡ c → map f (if b then xs else xs ++ v ∷ []) ≡ (if c then map f xs else map f xs ++ f v ∷ [])
insert-map f true true xs v e = refl
insert-map f false false xs v e = map-append f xs (v ∷ [])
insert-map f true false xs v e = absurd (true≢false e)
insert-map f false true xs v e = absurd (true≢false (sym e))

abbrev context_instance : TypeErrorContextTable → ℕ
context_instance e = e.instance.number

pub record AddedErrorContext (old new : Builder) (table : Id TypeComponentLocalErrorContextTables) (instance : Id RuntimeComponentInstances) : Type 0 where
  pub interned : IsInterned error_context_table_eq.ghosts.eq old.tables.error_context_tables new.tables.error_context_tables (record { instance = instance }) table.number
  pub entry_there : slice_get new.tables.error_context_tables table.number ≡ Some (record { instance = instance })
  pub rest : new ≡ record old { tables = record old.tables { error_context_tables = new.tables.error_context_tables } }
  pub keeps : Keeps old.tables new.tables

context_number : (old new : Builder) (table : Id TypeComponentLocalErrorContextTables) (instance : Id RuntimeComponentInstances) → AddedErrorContext old new table instance
    → (i : ℕ) → instance.number ≡ i → (ys : List ℕ) → map context_instance old.tables.error_context_tables ≡ ys → table.number ≡ position_or_len (nat_eq i) ys
context_number old new table instance a i e ys z =
    a.interned.place ∙ position-map context_instance (nat_eq instance.number) old.tables.error_context_tables ∙ (λ k. position_or_len (nat_eq (e k)) (z k))

context_instances : (old new : Builder) (table : Id TypeComponentLocalErrorContextTables) (instance : Id RuntimeComponentInstances) → AddedErrorContext old new table instance
    → (i : ℕ) → instance.number ≡ i → (ys : List ℕ) → map context_instance old.tables.error_context_tables ≡ ys → map context_instance new.tables.error_context_tables ≡ insert_key nat_eq ys i
context_instances old new table instance a i e ys z =
    ap (map context_instance) a.interned.list
    ∙ insert-map context_instance _ _ old.tables.error_context_tables _ (any-map context_instance (nat_eq instance.number) old.tables.error_context_tables)
    ∙ (λ k. insert_key nat_eq (z k) (e k))

pub error_context_adds : (old new : Builder) (table : Id TypeComponentLocalErrorContextTables) (instance : Id RuntimeComponentInstances) → AddedErrorContext old new table instance
    → (types : List InterfaceType) (i : ℕ) → instance.number ≡ i → AddsEntry old new types (entry.ErrorContext i) (Ok (t_error_context table))
error_context_adds old new table instance a types i e =
    let r = a.rest in
    record {
      live = slice_get_within _ _ _ a.entry_there;
      shaped = λ shapes h z. (ap (λ (n : ℕ). t_error_context (record { number = n; table = table.table })) (context_number old new table instance a i e h.error_contexts z.error_contexts), refl);
      stands = λ shapes h z. record {
        live = live_keep old.tables new.tables a.keeps types z.live;
        shaped = shapes_keep old.tables new.tables a.keeps types shapes z.shaped;
        futures = futures_kept old.tables new.tables a.keeps h.futures (ap (λ (b : Builder). b.tables.futures) r) (ap (λ (b : Builder). b.tables.future_tables) r) z.futures;
        streams = streams_kept old.tables new.tables a.keeps h.streams (ap (λ (b : Builder). b.tables.streams) r) (ap (λ (b : Builder). b.tables.stream_tables) r) z.streams;
        error_contexts = context_instances old new table instance a i e h.error_contexts z.error_contexts;
      };
      tuples = λ shapes h z. tuples_stay old.tables new.tables a.keeps (ap (λ (b : Builder). b.tables.tuples) r);
      fits = λ shapes h z. small_not_wide (entry_shape shapes h (entry.ErrorContext i)) refl (λ w. w);
      too_large = λ q. absurd (cc);
      fills = λ n f. record {
        members = omega (arith, ap (λ (b : Builder). entries b.tables) r, f.members);
        functions = omega (arith, ap (λ (b : Builder). length b.tables.functions) r, f.functions);
        futures = omega (arith, ap (λ (b : Builder). length b.tables.futures) r, f.futures);
        streams = omega (arith, ap (λ (b : Builder). length b.tables.streams) r, f.streams);
        error_contexts = omega (arith, interned_grows error_context_table_eq.ghosts.eq _ _ _ table.number a.interned, f.error_contexts);
      };
      rest = ap (λ (b : Builder). b.tables.resource_tables) r;
    }

-- ---- owns and borrows
filled_up : (t : Tables) (n : ℕ) → IsFilled n t → IsFilled (n + 1) t
filled_up t n f = record {
  members = omega (arith, f.members);
  functions = omega (arith, f.functions);
  futures = omega (arith, f.futures);
  streams = omega (arith, f.streams);
  error_contexts = omega (arith, f.error_contexts);
}

pub own_adds : (b : Builder) (types : List InterfaceType) (n : ℕ) (i : Id TypeResourceTables) → i ≡ record { number = n; table = _ } → n < length b.tables.resource_tables → AddsEntry b b types (entry.Own n) (Ok (t_own i))
own_adds b types n i e l = record {
  live = omega (arith, ap (λ (j : Id TypeResourceTables). j.number) e, l);
  shaped = λ shapes h z. (ap t_own e, refl);
  stands = λ shapes h z. z;
  tuples = λ shapes h z ts u. u;
  fits = λ shapes h z. small_not_wide (entry_shape shapes h (entry.Own n)) refl (λ w. w);
  too_large = λ q. absurd (cc);
  fills = filled_up b.tables;
  rest = refl;
}

pub borrow_adds : (b : Builder) (types : List InterfaceType) (n : ℕ) (i : Id TypeResourceTables) → i ≡ record { number = n; table = _ } → n < length b.tables.resource_tables → AddsEntry b b types (entry.Borrow n) (Ok (t_borrow i))
borrow_adds b types n i e l = record {
  live = omega (arith, ap (λ (j : Id TypeResourceTables). j.number) e, l);
  shaped = λ shapes h z. (ap t_borrow e, refl);
  stands = λ shapes h z. z;
  tuples = λ shapes h z ts u. u;
  fits = λ shapes h z. small_not_wide (entry_shape shapes h (entry.Borrow n)) refl (λ w. w);
  too_large = λ q. absurd (cc);
  fills = filled_up b.tables;
  rest = refl;
}
