-- Lists of fixed length of the types in tables, by the code of their elements.
use Rattle.std.proofs.Common.{◌≡◌, ◌≢◌, ℕ, ◌<◌, Bool, true, List, [], Some, sym, ap, ◌∙◌, subst, arith, slice_get, refl}
use Rattle.std.specs.List.{AllByRecursion}
use Rattle.fact_entity.specs.declared.id.Id.{Id}
use Rattle.fact_entity.specs.declared.table.TypeFixedLengthLists.{TypeFixedLengthLists}
use Rattle.fact_wasm.specs.declared.instr.Instr.{Instr}
use Rattle.fact_wasm.specs.Ranges.{AreRanged}
use Rattle.fact_types.specs.declared.interface.InterfaceType.{InterfaceType}
use Rattle.fact_types.specs.declared.interface.InterfaceType.TheVariants as ty
use Rattle.fact_types.specs.declared.kinds.TypeFixedLengthList.{TypeFixedLengthList}
use Rattle.fact_types.specs.FlatShapes.{IsCounted}
use Rattle.fact_types.specs.Heights.{height}
use Rattle.fact_types.specs.Layout.{extent}
use Rattle.fact_types.specs.Shapes.{k_fixed, Shape, s_plain, s_node, Members, layout_of}
use Rattle.fact_types.specs.Signatures.{width}
use Rattle.fact_types.specs.Tables.{Tables, HasShape}
use Rattle.fact_code_laws.specs.Places.{From, InMemory, To, ToMemory}
use Rattle.fact_emit.specs.declared.places.Address.{Address}
use Rattle.fact_emit.specs.declared.places.SourcePlace.{SourcePlace}
use Rattle.fact_emit.specs.declared.places.SourcePlace.TheVariants as source
use Rattle.fact_emit.specs.declared.places.TargetPlace.{TargetPlace}
use Rattle.fact_emit.specs.declared.places.TargetPlace.TheVariants as target
use Rattle.fact_emit.specs.declared.places.Sides.{Sides}
use Rattle.fact_emit.specs.declared.writer.Writer.{Writer}
use Rattle.fact_emit.specs.Emits.{EmitsAsking}
use Rattle.fact_emit.specs.Fitting.{MovesNode}
use Rattle.fact_emit.specs.Movable.{CanMove}
use Rattle.fact_emit.specs.Places.{from_of, to_of}
use Rattle.fact_emit.specs.Writers.{AreDistinctNumbers, Began, TookAll, FreedAll, Wrote, taken_in}
use Rattle.fact_emit.proofs.Emitting.{emits_as, grew_wrote}
use Rattle.fact_emit.proofs.ImportLaws.{extended_none}
use Rattle.fact_kinds.specs.declared.fixed.FixedElements.{FixedElements}
use Rattle.fact_kinds.specs.declared.fixed.FixedLocals.{FixedLocals}
use Rattle.fact_kinds.specs.FixedLists.{ClosesFixed, fixed_begin_code, fixed_numbers, fixed_slots}
use Rattle.fact_kinds.specs.Moved.{MovedNode, MovedValue}
use Rattle.fact_kinds.specs.MovedFixed.{AreFixedElements, MovedElements, fixed_of}
use Rattle.fact_kinds.specs.declared.fuel.Fuel.{Fuel}
use Rattle.fact_kinds.specs.Translations.{IsRouteOf}
use Rattle.fact_kinds.proofs.Asking.{asked_below, asked_later}
use Rattle.fact_kinds.proofs.FixedJoin.{fixed_emits, fixed_grew, fixed_taken}
use Rattle.fact_kinds.proofs.ListMembers.{list_element, single, single_moved, takes_bytes}
use Rattle.fact_emit.proofs.FreedLocals.{all_distinct}
use Rattle.fact_kinds.proofs.TypeKinds.{fixed_kind, fixed_members, fixed_size, fixed_type}
use Rattle.fact_kinds.proofs.Translating.{then_none, translated_at, translated_with}
use Rattle.fact_kinds.proofs.TranslatedShapes.{times_are, translated_shapes}
use Rattle.fact_actions.specs.Outlining.{Route, translates, translates_times, turns_of}

-- ---- by a loop

module _ {t : Tables} {sides : Sides} {a b c d e f : Writer} {x : FixedElements} {l : FixedLocals} {outer : List Instr} {y z : InterfaceType} {before after : Fuel} (from to : Address)
    (took : TookAll a b (fixed_slots sides.from.memory64 sides.to.memory64 l)) (opened : Wrote b c (fixed_begin_code sides.from.memory64 sides.to.memory64 x l from to)) (began : Began c d outer)
    (moved : MovedValue t y z sides (InMemory sides.from.memory l.source 0) (ToMemory sides.to.memory l.target 0) before after d e) (closed : ClosesFixed sides x l outer e f) where
  -- the locals are still in use when they are freed
  pub fixed_locals_taken : AllByRecursion (λ i. taken_in f i ≡ true) (fixed_numbers l) × AreDistinctNumbers (fixed_numbers l)
  fixed_locals_taken = (fixed_taken from to took opened began closed moved.grew, all_distinct (fixed_slots sides.from.memory64 sides.to.memory64 l) took.distinct)

  -- Elements were moved by a loop.
  pub loop_moved : {g : Writer} → FreedAll f g (fixed_numbers l) → MovedElements t y z x 1 sides (InMemory sides.from.memory from.local from.offset) (ToMemory sides.to.memory to.local to.offset) before after a g
  loop_moved freed = record {
    grew = fixed_grew from to took opened began closed freed moved.grew;
    asks = moved.asks;
    asked = asked_later (extended_none (freed.imports ∙ closed.imports)) moved.asks moved.asked;
    emits = λ s u hs hu cs cu can elements. fixed_emits from to took opened began closed freed elements (emits_as (single_moved s u cs cu) (moved.emits s u hs hu cs cu can));
    translated = λ s u hs hu cs cu can. translated_with (λ i r n route. sym (then_none (translates i r s u) n)) (translated_at refl refl (moved.translated s u hs hu cs cu can));
  }

-- the same of places that are in memory
pub loop_at : {t : Tables} {sides : Sides} {x : FixedElements} {y z : InterfaceType} {s : SourcePlace} {d : TargetPlace} {before after : Fuel} {a g : Writer} (from to : Address) → s ≡ source.Memory from → d ≡ target.Memory to
    → MovedElements t y z x 1 sides (InMemory sides.from.memory from.local from.offset) (ToMemory sides.to.memory to.local to.offset) before after a g → MovedElements t y z x 1 sides (from_of sides.from s) (to_of sides.to d) before after a g
loop_at {t} {sides} {x} {y} {z} {s} {d} {before} {after} {a} {g} from to is is' m =
    subst (λ s. MovedElements t y z x 1 sides (from_of sides.from s) (to_of sides.to d) before after a g) (sym is)
    (subst (λ d. MovedElements t y z x 1 sides (from_of sides.from (source.Memory from)) (to_of sides.to d) before after a g) (sym is') m)

-- ---- a list

-- the bytes of an element of a type, where it takes some
pub record HasElementSize (t : Tables) (memory64 : Bool) (y : InterfaceType) (size : ℕ) : Type 0 where
  pub some : 0 < size
  pub is : (s : Shape) → HasShape t y s → 0 < (extent (width memory64) (layout_of s)).size → size ≡ (extent (width memory64) (layout_of s)).size

-- A list was moved by its elements.
pub fixed_moved : {t : Tables} {sides : Sides} {src : From} {dst : To} {a g : Writer} {x : FixedElements} {y z : TypeFixedLengthList} {turns : ℕ} {before after : Fuel} → MovedElements t y.element z.element x turns sides src dst before after a g → x.count ≡ z.size
    → ((r : Route) → IsRouteOf r src dst → turns ≡ turns_of r x.count)
    → HasElementSize t sides.from.memory64 y.element x.from_size → HasElementSize t sides.to.memory64 z.element x.to_size
    → (i j : Id TypeFixedLengthLists) → slice_get t.fixed_length_lists i.number ≡ Some y → slice_get t.fixed_length_lists j.number ≡ Some z → height t z.element < height t (ty.FixedLengthList j) → MovedNode t (ty.FixedLengthList i) (ty.FixedLengthList j) sides src dst before after a g
fixed_moved {t} {sides} {src} {dst} {a} {g} {x} {y} {z} {turns} {before} {after} m count_is turns_are from to i j is js lower = record {
  grew = m.grew;
  asks = m.asks;
  asked = asked_below (omega (arith, lower)) m.asks m.asked;
  emits = λ s u hs hu cs cu can.
      let (k, ms, is_s) = fixed_kind t i s hs in
      let (n, ns, is_u) = fixed_kind t j u hu in
      let hs' = subst (HasShape t (ty.FixedLengthList i)) is_s hs in
      let hu' = subst (HasShape t (ty.FixedLengthList j)) is_u hu in
      let (s1, hs1, ms_is) = list_element t y.element ms (fixed_members t i y is k ms hs') in
      let (u1, hu1, ns_is) = list_element t z.element ns (fixed_members t j z js n ns hu') in
      let n_is : n ≡ x.count = fixed_size t j z js n ns hu' ∙ sym count_is in
      let can' : CanMove (s_node (k_fixed k) ms) (s_node (k_fixed n) ns) = subst (CanMove (s_node (k_fixed k) ms)) is_u (subst (λ s. CanMove s u) is_s can) in
      let k_is : k ≡ x.count = can'.0 ∙ n_is in
      let s_is : s ≡ fixed_of x.count s1 = is_s ∙ ap (λ ms. s_node (k_fixed k) ms) ms_is ∙ ap (λ k. s_node (k_fixed k) (single s1)) k_is in
      let u_is : u ≡ fixed_of x.count u1 = is_u ∙ ap (λ ns. s_node (k_fixed n) ns) ns_is ∙ ap (λ n. s_node (k_fixed n) (single u1)) n_is in
      let counted : IsCounted (fixed_of x.count s1) = subst IsCounted s_is cs in
      let counted' : IsCounted (fixed_of x.count u1) = subst IsCounted u_is cu in
      let all : CanMove (fixed_of x.count s1) (fixed_of x.count u1) = subst (CanMove (fixed_of x.count s1)) u_is (subst (λ s. CanMove s u) s_is can) in
      let elements : AreFixedElements sides x s1 u1 = record {
        some = counted'.0.1;
        from = from.is s1 hs1 (takes_bytes (width sides.from.memory64) s1 all.1.from_bytes);
        to = to.is u1 hu1 (takes_bytes (width sides.to.memory64) u1 all.1.to_bytes);
        from_some = from.some;
        to_some = to.some;
      } in
      subst (λ s. EmitsAsking m.asks a g (MovesNode sides src dst (taken_in a) s u)) (sym s_is) (subst (λ u. EmitsAsking m.asks a g (MovesNode sides src dst (taken_in a) (fixed_of x.count s1) u)) (sym u_is)
      (m.emits s1 u1 hs1 hu1 counted.1.0 counted'.1.0 all.1.fields.0 elements));
  translated = λ s u hs hu cs cu can.
      let (k, ms, is_s) = fixed_kind t i s hs in
      let (n, ns, is_u) = fixed_kind t j u hu in
      let hs' = subst (HasShape t (ty.FixedLengthList i)) is_s hs in
      let hu' = subst (HasShape t (ty.FixedLengthList j)) is_u hu in
      let (s1, hs1, ms_is) = list_element t y.element ms (fixed_members t i y is k ms hs') in
      let (u1, hu1, ns_is) = list_element t z.element ns (fixed_members t j z js n ns hu') in
      let n_is : n ≡ x.count = fixed_size t j z js n ns hu' ∙ sym count_is in
      let can' : CanMove (s_node (k_fixed k) ms) (s_node (k_fixed n) ns) = subst (CanMove (s_node (k_fixed k) ms)) is_u (subst (λ s. CanMove s u) is_s can) in
      let k_is : k ≡ x.count = can'.0 ∙ n_is in
      let s_is : s ≡ fixed_of x.count s1 = is_s ∙ ap (λ ms. s_node (k_fixed k) ms) ms_is ∙ ap (λ k. s_node (k_fixed k) (single s1)) k_is in
      let u_is : u ≡ fixed_of x.count u1 = is_u ∙ ap (λ ns. s_node (k_fixed n) ns) ns_is ∙ ap (λ n. s_node (k_fixed n) (single u1)) n_is in
      let counted : IsCounted (fixed_of x.count s1) = subst IsCounted s_is cs in
      let counted' : IsCounted (fixed_of x.count u1) = subst IsCounted u_is cu in
      let all : CanMove (fixed_of x.count s1) (fixed_of x.count u1) = subst (CanMove (fixed_of x.count s1)) u_is (subst (λ s. CanMove s u) s_is can) in
      translated_shapes s_is u_is (translated_with (λ i r n route. ap (λ k. translates_times k (translates i r s1 u1) n) (turns_are r route) ∙ times_are i r s1 u1 (turns_of r x.count) n)
      (m.translated s1 u1 hs1 hu1 counted.1.0 counted'.1.0 all.1.fields.0));
}

-- a list at a type of another kind, whose values are not moved
pub fixed_alone : {t : Tables} {from : InterfaceType} {sides : Sides} {src : From} {dst : To} {first last : Writer} {before : Fuel} {xs : List Instr} → AreRanged 0 0 xs → (i : Id TypeFixedLengthLists) (to : InterfaceType) → from ≡ ty.FixedLengthList i → ((j : Id TypeFixedLengthLists) → to ≢ ty.FixedLengthList j)
    → Wrote first last xs → MovedNode t from to sides src dst before before first last
fixed_alone {t} ranged i to is other w = record {
  grew = grew_wrote ranged w;
  asks = [];
  asked = record { each = tt };
  emits = λ s u hs hu cs cu can. let (n, ms, is_s) = fixed_kind t i s (subst (λ y. HasShape t y s) is hs) in absurd (alone n ms u hu (subst (λ s. CanMove s u) is_s can));
  translated = λ s u hs hu cs cu can. let (n, ms, is_s) = fixed_kind t i s (subst (λ y. HasShape t y s) is hs) in absurd (alone n ms u hu (subst (λ s. CanMove s u) is_s can));
}
  where
    alone : (n : ℕ) (ms : Members) (u : Shape) → HasShape t to u → CanMove (s_node (k_fixed n) ms) u → ⊥
    alone n ms (s_plain b) hu can = can
    alone n ms (s_node (k_fixed m) ns) hu can = let (j, at) = fixed_type t to m ns hu in other j at
    alone n ms (s_node _ ns) hu can = can
