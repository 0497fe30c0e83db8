-- What was written for the tuples of parameters and results.
use Rattle.std.proofs.Common.{◌≡◌, ℕ, suc, ◌+◌, ◌≤◌, Bool, true, false, List, [], ◌∷◌, ◌++◌, refl, sym, ap, ◌∙◌, subst, arith, length, get_or}
use Rattle.std.specs.Prelude.{is_some}
use Rattle.fact_entity.specs.declared.id.Id.{Id}
use Rattle.fact_entity.specs.declared.table.TypeTuples.{TypeTuples}
use Rattle.fact_types.specs.FlatShapes.{AreCounted}
use Rattle.fact_types.specs.Functions.{HasSignature}
use Rattle.fact_types.specs.Layout.{extent}
use Rattle.fact_types.specs.Shapes.{Shape, IsWithin, layout_of}
use Rattle.fact_types.specs.Signatures.{width, flat_values, lift_results_limit, lower_limit}
use Rattle.fact_types.specs.Tables.{Tables, HasShape}
use Rattle.fact_types.specs.Tuples.{tuple_members, tuple_of}
use Rattle.fact_types.specs.declared.abi.CanonicalAbiInfo.{CanonicalAbiInfo}
use Rattle.fact_types.specs.declared.interface.InterfaceType.TheVariants as ty
use Rattle.fact_actions.specs.Adapters.{lowered_flats}
use Rattle.fact_code_laws.specs.Places.{Slot, From, To}
use Rattle.fact_emit.specs.Areas.{ChecksArea}
use Rattle.fact_wasm.specs.declared.instr.Instr.{Instr}
use Rattle.fact_emit.specs.Emits.{Emits, EmitsAsking}
use Rattle.fact_emit.specs.NewAreas.{AsksArea}
use Rattle.fact_emit.specs.Fitting.{MovesTuple}
use Rattle.fact_emit.specs.Pieces.{Piece}
use Rattle.fact_emit.specs.Places.{slots_of_locals}
use Rattle.fact_emit.specs.Writers.{taken_in}
use Rattle.fact_emit.specs.declared.places.LinearMemory.{LinearMemory}
use Rattle.fact_emit.specs.declared.places.Sides.{Sides}
use Rattle.fact_emit.specs.declared.places.TypedLocal.{TypedLocal}
use Rattle.fact_emit.specs.declared.writer.Writer.{Writer}
use Rattle.fact_emit.proofs.Emitting.{emits_then, emits_nothing, grew_on}
use Rattle.fact_kinds.specs.Moved.{MovedTuple}
use Rattle.fact_kinds.specs.declared.fuel.Fuel.{Fuel}
use Rattle.fact_compound.specs.Described.{linear_of}
use Rattle.fact_compound.specs.Passed.{params_sides, results_sides, MovedParams, AskedTuple, CheckedTuple, MovedResults, PassedParams}
use Rattle.fact_compound.specs.Passing.{last_local, tuple_from, tuple_to, tuple_size, tuple_align, AsksTuple, ChecksTuple}
use Rattle.fact_compound.specs.declared.adapters.AdapterData.{AdapterData}
use Rattle.fact_compound.proofs.KeyLaws.{translates_tuple}
use Rattle.fact_compound.proofs.AsksLaws.{asks_behind, asks_none, asks_of_moves, emits_new, new_none}

pub last_is : (xs : List TypedLocal) (n : ℕ) (d : TypedLocal) → length xs ≡ n + 1 → (get_or xs n d).local ≡ last_local (slots_of_locals xs)
last_is [] n d e = absurd (omega (arith, e))
last_is (x ∷ []) n d e = let first : n ≡ 0 = omega (arith, e) in ap (λ n. (get_or (x ∷ []) n d).local) first
last_is (x ∷ y ∷ ys) n d e =
    let next : n ≡ suc (length ys) = omega (arith, e) in
    ap (λ n. (get_or (x ∷ y ∷ ys) n d).local) next ∙ last_is (y ∷ ys) (length ys) d (omega arith)

pub params_moved_on : {t : Tables} {d : AdapterData} {debug concurrency passed : Bool} {params core : List Slot} {before after : Fuel} {a b : Writer} → passed ≡ false → MovedParams t d debug concurrency params core before after a b
    → PassedParams t d debug concurrency passed params core before after a b
params_moved_on {t} {d} {debug} {concurrency} {passed} {params} {core} {before} {after} {a} {b} e m = subst (λ p. PassedParams t d debug concurrency p params core before after a b) (sym e) (record {
  asks = m.asks;
  translated = λ f. m.translated;
  none = λ f. absurd (let no : false ≡ true = f in cc);
  grew = m.grew;
  asked = m.asked;
  emits = m.emits;
})

pub params_passed_on : {t : Tables} {d : AdapterData} {debug concurrency passed : Bool} {params core : List Slot} {before : Fuel} {a : Writer} → passed ≡ true → PassedParams t d debug concurrency passed params core before before a a
params_passed_on {t} {d} {debug} {concurrency} {passed} {params} {core} {before} {a} e = subst (λ p. PassedParams t d debug concurrency p params core before before a a) (sym e) (record {
  asks = [];
  translated = λ f. absurd (let no : true ≡ false = f in cc);
  none = λ f. (refl, refl);
  grew = (emits_nothing {P = λ M p locals code. code ≡ []} (λ M p locals. refl)).grew;
  asked = asks_none (new_none refl);
  emits = λ ps rs qs ss h k can. emits_nothing (λ M p locals. refl);
})

-- ---- areas

-- the bytes of a layout and its alignment in a width
abbrev HasExtent : Bool → CanonicalAbiInfo → (size align : ℕ) → Type 0
HasExtent m l size align = (size ≡ (extent (width m) l).size) × (align ≡ (extent (width m) l).align)

pub width64 : (l : CanonicalAbiInfo) → HasExtent true l l.size64 l.align64
width64 l = (refl, refl)

pub width32 : (l : CanonicalAbiInfo) → HasExtent false l l.size32 l.align32
width32 l = (refl, refl)

within : (m : Bool) (l : CanonicalAbiInfo) → IsWithin l → (extent (width m) l).size ≤ 4294967295
within true l h = h.memory64
within false l h = h.memory32

-- what is written for an area of so many bytes is written for the tuple's
module _ {t : Tables} {tuple : Id TypeTuples} {l : CanonicalAbiInfo} (m : LinearMemory) (laid : (s : Shape) → HasShape t (ty.Tuple tuple) s → l ≡ layout_of s) (small : IsWithin l) where
  area_small : (ss : List Shape) → HasShape t (ty.Tuple tuple) (tuple_of ss) → tuple_size m.memory64 ss ≤ 4294967295
  area_small ss h = subst (λ (l : CanonicalAbiInfo). (extent (width m.memory64) l).size ≤ 4294967295) (laid (tuple_of ss) h) (within m.memory64 l small)

  area_written : {size align : ℕ} {old new : Writer} (P : (size align : ℕ) → Piece) (wide : Bool) → m.memory64 ≡ wide → HasExtent wide l size align → Emits old new (P size align) → (ss : List Shape) → HasShape t (ty.Tuple tuple) (tuple_of ss)
      → Emits old new (P (tuple_size m.memory64 ss) (tuple_align m.memory64 ss))
  area_written {size} {align} {old} {new} P wide is e x ss h =
      let sized : size ≡ tuple_size m.memory64 ss = e.0 ∙ ap (λ b. (extent (width b) l).size) (sym is) ∙ ap (λ (l : CanonicalAbiInfo). (extent (width m.memory64) l).size) (laid (tuple_of ss) h) in
      let aligned : align ≡ tuple_align m.memory64 ss = e.1 ∙ ap (λ b. (extent (width b) l).align) (sym is) ∙ ap (λ (l : CanonicalAbiInfo). (extent (width m.memory64) l).align) (laid (tuple_of ss) h) in
      subst (λ n. Emits old new (P (tuple_size m.memory64 ss) n)) aligned (subst (λ n. Emits old new (P n align)) sized x)

  pub checked_tuple : {address size align : ℕ} {flat : Bool} {old new : Writer} (wide : Bool) → m.memory64 ≡ wide → flat ≡ false → HasExtent wide l size align → Emits old new (ChecksArea m (taken_in old) address size align) → CheckedTuple t tuple m flat address old new
  checked_tuple {address} {old = old} {new} wide is none e x = record {
    grew = x.grew;
    none_asked = emits_new x;
    size = area_small;
    emits = λ ss h. subst (λ b. Emits old new (ChecksTuple m (taken_in old) b address (tuple_size m.memory64 ss) (tuple_align m.memory64 ss))) (sym none) (area_written (λ size align. ChecksArea m (taken_in old) address size align) wide is e x ss h);
  }

  -- no code where the values are flat
  pub unchecked_tuple : {address : ℕ} {flat : Bool} {old : Writer} → flat ≡ true → CheckedTuple t tuple m flat address old old
  unchecked_tuple {address} {old = old} all = record {
    grew = (emits_nothing {P = λ M p locals code. code ≡ []} (λ M p locals. refl)).grew;
    none_asked = new_none refl;
    size = area_small;
    emits = λ ss h. subst (λ b. Emits old old (ChecksTuple m (taken_in old) b address (tuple_size m.memory64 ss) (tuple_align m.memory64 ss))) (sym all) (emits_nothing (λ M p locals. refl));
  }

  pub asked_tuple : {concurrency : Bool} {address size align : ℕ} {flat : Bool} {old new : Writer} (wide : Bool) → m.memory64 ≡ wide → flat ≡ false → HasExtent wide l size align → Emits old new (AsksArea concurrency m (taken_in old) address size align)
      → AskedTuple t tuple concurrency m flat address old new
  asked_tuple {concurrency} {address} {old = old} {new} wide is none e x = record {
    grew = x.grew;
    none_asked = emits_new x;
    size = area_small;
    emits = λ ss h. subst (λ b. Emits old new (AsksTuple concurrency m (taken_in old) b address (tuple_size m.memory64 ss) (tuple_align m.memory64 ss))) (sym none) (area_written (λ size align. AsksArea concurrency m (taken_in old) address size align) wide is e x ss h);
  }

  pub unasked_tuple : {concurrency : Bool} {address : ℕ} {flat : Bool} {old : Writer} → flat ≡ true → AskedTuple t tuple concurrency m flat address old old
  unasked_tuple {concurrency} {address} {old = old} all = record {
    grew = (emits_nothing {P = λ M p locals code. code ≡ []} (λ M p locals. refl)).grew;
    none_asked = new_none refl;
    size = area_small;
    emits = λ ss h. subst (λ b. Emits old old (AsksTuple concurrency m (taken_in old) b address (tuple_size m.memory64 ss) (tuple_align m.memory64 ss))) (sym all) (emits_nothing (λ M p locals. refl));
  }

-- both checks and the move
results_by : {t : Tables} (d : AdapterData) (debug concurrency : Bool) (given results args : List Slot) (from to : Id TypeTuples) (address address' : ℕ) {src : From} {dst : To} {lift_flat lower_flat : Bool} {before after : Fuel} {a b c e : Writer} → address ≡ last_local given → address' ≡ last_local args
    → src ≡ tuple_from (linear_of d.lift) lift_flat given → dst ≡ tuple_to (linear_of d.lower) lower_flat results args
    → ((memory64 : Bool) (ss : List Shape) → HasShape t (ty.Tuple from) (tuple_of ss) → AreCounted (tuple_members ss) → lift_flat ≡ is_some (flat_values memory64 (lift_results_limit d.lift.options.async_) ss))
    → ((memory64 : Bool) (ss : List Shape) → HasShape t (ty.Tuple to) (tuple_of ss) → AreCounted (tuple_members ss) → lower_flat ≡ is_some (lowered_flats d.lower.options.async_ memory64 ss))
    → ((qs ss : List Shape) → HasSignature t d.lift.ty qs ss → HasShape t (ty.Tuple from) (tuple_of ss)) → ((ps rs : List Shape) → HasSignature t d.lower.ty ps rs → HasShape t (ty.Tuple to) (tuple_of rs))
    → CheckedTuple t from (linear_of d.lift) lift_flat address a b → CheckedTuple t to (linear_of d.lower) lower_flat address' b c → MovedTuple t (ty.Tuple from) (ty.Tuple to) (results_sides d debug concurrency) src dst before after c e → MovedResults t d debug concurrency given results args before after a e
results_by d debug concurrency given results args from to address address' {src} {dst} {lift_flat} {lower_flat} {before} {after} {a} {b} {c} {e} first second is is' lift lower sx sy x y z = record {
  grew = grew_on x.grew (grew_on y.grew z.grew);
  asks = z.asks;
  translated = λ ps rs qs ss h k can.
      translates_tuple (linear_of d.lift) (linear_of d.lower) given results args (is_some (flat_values (linear_of d.lift).memory64 (lift_results_limit d.lift.options.async_) ss)) (is_some (lowered_flats d.lower.options.async_ (linear_of d.lower).memory64 rs)) ss rs is is'
      (lift (linear_of d.lift).memory64 ss (sx qs ss k) can.from_counted) (lower (linear_of d.lower).memory64 rs (sy ps rs h) can.to_counted)
      (z.translated (tuple_of ss) (tuple_of rs) (sx qs ss k) (sy ps rs h) (tt, can.from_counted) (tt, can.to_counted) can.members);
  asked = asks_behind x.none_asked (asks_behind y.none_asked (asks_of_moves z.asked z.grew));
  lift_size = λ qs ss h. x.size ss (sx qs ss h);
  lower_size = λ ps rs h. y.size rs (sy ps rs h);
  emits = λ ps rs qs ss h k can.
      let f : Bool = is_some (flat_values (linear_of d.lift).memory64 (lift_results_limit d.lift.options.async_) ss) in
      let g : Bool = is_some (lowered_flats d.lower.options.async_ (linear_of d.lower).memory64 rs) in
      let f_is : lift_flat ≡ f = lift (linear_of d.lift).memory64 ss (sx qs ss k) can.from_counted in
      let g_is : lower_flat ≡ g = lower (linear_of d.lower).memory64 rs (sy ps rs h) can.to_counted in
      let from_b : taken_in b ≡ taken_in a = λ j. λ i. (x.grew.still i) j in
      let from_c : taken_in c ≡ taken_in a = (λ j. λ i. (y.grew.still i) j) ∙ from_b in
      let one : Emits a b (ChecksTuple (linear_of d.lift) (taken_in a) f (last_local given) (tuple_size (linear_of d.lift).memory64 ss) (tuple_align (linear_of d.lift).memory64 ss)) =
      subst (λ n. Emits a b (ChecksTuple (linear_of d.lift) (taken_in a) f n (tuple_size (linear_of d.lift).memory64 ss) (tuple_align (linear_of d.lift).memory64 ss))) first
      (subst (λ b'. Emits a b (ChecksTuple (linear_of d.lift) (taken_in a) b' address (tuple_size (linear_of d.lift).memory64 ss) (tuple_align (linear_of d.lift).memory64 ss))) f_is (x.emits ss (sx qs ss k))) in
      let two : Emits b c (ChecksTuple (linear_of d.lower) (taken_in a) g (last_local args) (tuple_size (linear_of d.lower).memory64 rs) (tuple_align (linear_of d.lower).memory64 rs)) =
      subst (λ taken. Emits b c (ChecksTuple (linear_of d.lower) taken g (last_local args) (tuple_size (linear_of d.lower).memory64 rs) (tuple_align (linear_of d.lower).memory64 rs))) from_b
      (subst (λ n. Emits b c (ChecksTuple (linear_of d.lower) (taken_in b) g n (tuple_size (linear_of d.lower).memory64 rs) (tuple_align (linear_of d.lower).memory64 rs))) second
      (subst (λ b'. Emits b c (ChecksTuple (linear_of d.lower) (taken_in b) b' address' (tuple_size (linear_of d.lower).memory64 rs) (tuple_align (linear_of d.lower).memory64 rs))) g_is (y.emits rs (sy ps rs h)))) in
      let source : src ≡ tuple_from (linear_of d.lift) f given = is ∙ ap (λ q. tuple_from (linear_of d.lift) q given) f_is in
      let target : dst ≡ tuple_to (linear_of d.lower) g results args = is' ∙ ap (λ q. tuple_to (linear_of d.lower) q results args) g_is in
      let three : EmitsAsking z.asks c e (MovesTuple (results_sides d debug concurrency) (tuple_from (linear_of d.lift) f given) (tuple_to (linear_of d.lower) g results args) (taken_in a) (tuple_of ss) (tuple_of rs)) =
      subst (λ taken. EmitsAsking z.asks c e (MovesTuple (results_sides d debug concurrency) (tuple_from (linear_of d.lift) f given) (tuple_to (linear_of d.lower) g results args) taken (tuple_of ss) (tuple_of rs))) from_c
      (subst (λ dst. EmitsAsking z.asks c e (MovesTuple (results_sides d debug concurrency) (tuple_from (linear_of d.lift) f given) dst (taken_in c) (tuple_of ss) (tuple_of rs))) target
      (subst (λ src. EmitsAsking z.asks c e (MovesTuple (results_sides d debug concurrency) src dst (taken_in c) (tuple_of ss) (tuple_of rs))) source
      (z.emits (tuple_of ss) (tuple_of rs) (sx qs ss k) (sy ps rs h) (tt, can.from_counted) (tt, can.to_counted) can.members))) in
      emits_then
      {P = ChecksTuple (linear_of d.lift) (taken_in a) f (last_local given) (tuple_size (linear_of d.lift).memory64 ss) (tuple_align (linear_of d.lift).memory64 ss)}
      {Q = λ M p locals k. (c2 : List Instr) × (c3 : List Instr) × (k ≡ c2 ++ c3)
      × ChecksTuple (linear_of d.lower) (taken_in a) g (last_local args) (tuple_size (linear_of d.lower).memory64 rs) (tuple_align (linear_of d.lower).memory64 rs) M p locals c2
      × MovesTuple (results_sides d debug concurrency) (tuple_from (linear_of d.lift) f given) (tuple_to (linear_of d.lower) g results args) (taken_in a) (tuple_of ss) (tuple_of rs) M p locals c3}
      (λ M p locals c1 k q r. record { lift_check = c1; lower_check = r.0; move = r.1; is = ap (λ k. c1 ++ k) r.2; checks_lift = q; checks_lower = r.3; moves = r.4 })
      one
      (emits_then (λ M p locals c2 c3 q r. (c2, c3, refl, q, r)) two three);
}

pub moved_results : {t : Tables} (d : AdapterData) (debug concurrency : Bool) {sides : Sides} → sides ≡ results_sides d debug concurrency → (given results args : List Slot) (from to : Id TypeTuples) (address address' : ℕ) {src : From} {dst : To} {lift_flat lower_flat : Bool} {before after : Fuel} {a b c e : Writer} → address ≡ last_local given → address' ≡ last_local args
    → src ≡ tuple_from sides.from lift_flat given → dst ≡ tuple_to sides.to lower_flat results args
    → ((memory64 : Bool) (ss : List Shape) → HasShape t (ty.Tuple from) (tuple_of ss) → AreCounted (tuple_members ss) → lift_flat ≡ is_some (flat_values memory64 (lift_results_limit d.lift.options.async_) ss))
    → ((memory64 : Bool) (ss : List Shape) → HasShape t (ty.Tuple to) (tuple_of ss) → AreCounted (tuple_members ss) → lower_flat ≡ is_some (lowered_flats d.lower.options.async_ memory64 ss))
    → ((qs ss : List Shape) → HasSignature t d.lift.ty qs ss → HasShape t (ty.Tuple from) (tuple_of ss)) → ((ps rs : List Shape) → HasSignature t d.lower.ty ps rs → HasShape t (ty.Tuple to) (tuple_of rs))
    → CheckedTuple t from sides.from lift_flat address a b → CheckedTuple t to sides.to lower_flat address' b c → MovedTuple t (ty.Tuple from) (ty.Tuple to) sides src dst before after c e → MovedResults t d debug concurrency given results args before after a e
moved_results {t} d debug concurrency {sides} same given results args from to address address' {src} {dst} {lift_flat} {lower_flat} {before} {after} {a} {b} {c} {e} first second is is' lift lower sx sy x y z =
    results_by d debug concurrency given results args from to address address' first second (subst (λ (s : Sides). src ≡ tuple_from s.from lift_flat given) same is) (subst (λ (s : Sides). dst ≡ tuple_to s.to lower_flat results args) same is')
    lift lower sx sy (subst (λ (s : Sides). CheckedTuple t from s.from lift_flat address a b) same x) (subst (λ (s : Sides). CheckedTuple t to s.to lower_flat address' b c) same y) (subst (λ s. MovedTuple t (ty.Tuple from) (ty.Tuple to) s src dst before after c e) same z)

-- the check, the request and the move of parameters
params_by : {t : Tables} (d : AdapterData) (debug concurrency : Bool) (params core : List Slot) (from to : Id TypeTuples) (address address' : ℕ) {src : From} {dst : To} {lower_flat lift_flat : Bool} {before after : Fuel} {a b c e : Writer} → address ≡ last_local params → address' ≡ last_local core
    → src ≡ tuple_from (linear_of d.lower) lower_flat params → dst ≡ tuple_to (linear_of d.lift) lift_flat core core
    → ((memory64 : Bool) (ss : List Shape) → HasShape t (ty.Tuple from) (tuple_of ss) → AreCounted (tuple_members ss) → lower_flat ≡ is_some (flat_values memory64 (lower_limit d.lower.options.async_) ss))
    → ((memory64 : Bool) (ss : List Shape) → HasShape t (ty.Tuple to) (tuple_of ss) → AreCounted (tuple_members ss) → lift_flat ≡ is_some (flat_values memory64 16 ss))
    → ((ps rs : List Shape) → HasSignature t d.lower.ty ps rs → HasShape t (ty.Tuple from) (tuple_of ps)) → ((qs ss : List Shape) → HasSignature t d.lift.ty qs ss → HasShape t (ty.Tuple to) (tuple_of qs))
    → CheckedTuple t from (linear_of d.lower) lower_flat address a b → AskedTuple t to concurrency (linear_of d.lift) lift_flat address' b c → MovedTuple t (ty.Tuple from) (ty.Tuple to) (params_sides d debug concurrency) src dst before after c e → MovedParams t d debug concurrency params core before after a e
params_by d debug concurrency params core from to address address' {src} {dst} {lower_flat} {lift_flat} {before} {after} {a} {b} {c} {e} first second is is' lower lift sx sy x y z = record {
  grew = grew_on x.grew (grew_on y.grew z.grew);
  asks = z.asks;
  translated = λ ps rs qs ss h k can.
      translates_tuple (linear_of d.lower) (linear_of d.lift) params core core (is_some (flat_values (linear_of d.lower).memory64 (lower_limit d.lower.options.async_) ps)) (is_some (flat_values (linear_of d.lift).memory64 16 qs)) ps qs is is'
      (lower (linear_of d.lower).memory64 ps (sx ps rs h) can.from_counted) (lift (linear_of d.lift).memory64 qs (sy qs ss k) can.to_counted)
      (z.translated (tuple_of ps) (tuple_of qs) (sx ps rs h) (sy qs ss k) (tt, can.from_counted) (tt, can.to_counted) can.members);
  asked = asks_behind x.none_asked (asks_behind y.none_asked (asks_of_moves z.asked z.grew));
  emits = λ ps rs qs ss h k can.
      let m = linear_of d.lower in
      let m' = linear_of d.lift in
      let f : Bool = is_some (flat_values m.memory64 (lower_limit d.lower.options.async_) ps) in
      let g : Bool = is_some (flat_values m'.memory64 16 qs) in
      let f_is : lower_flat ≡ f = lower m.memory64 ps (sx ps rs h) can.from_counted in
      let g_is : lift_flat ≡ g = lift m'.memory64 qs (sy qs ss k) can.to_counted in
      let from_b : taken_in b ≡ taken_in a = λ j. λ i. (x.grew.still i) j in
      let from_c : taken_in c ≡ taken_in a = (λ j. λ i. (y.grew.still i) j) ∙ from_b in
      let one : Emits a b (ChecksTuple m (taken_in a) f (last_local params) (tuple_size m.memory64 ps) (tuple_align m.memory64 ps)) =
      subst (λ n. Emits a b (ChecksTuple m (taken_in a) f n (tuple_size m.memory64 ps) (tuple_align m.memory64 ps))) first
      (subst (λ b'. Emits a b (ChecksTuple m (taken_in a) b' address (tuple_size m.memory64 ps) (tuple_align m.memory64 ps))) f_is (x.emits ps (sx ps rs h))) in
      let two : Emits b c (AsksTuple concurrency m' (taken_in a) g (last_local core) (tuple_size m'.memory64 qs) (tuple_align m'.memory64 qs)) =
      subst (λ taken. Emits b c (AsksTuple concurrency m' taken g (last_local core) (tuple_size m'.memory64 qs) (tuple_align m'.memory64 qs))) from_b
      (subst (λ n. Emits b c (AsksTuple concurrency m' (taken_in b) g n (tuple_size m'.memory64 qs) (tuple_align m'.memory64 qs))) second
      (subst (λ b'. Emits b c (AsksTuple concurrency m' (taken_in b) b' address' (tuple_size m'.memory64 qs) (tuple_align m'.memory64 qs))) g_is (y.emits qs (sy qs ss k)))) in
      let source : src ≡ tuple_from m f params = is ∙ ap (λ q. tuple_from m q params) f_is in
      let target : dst ≡ tuple_to m' g core core = is' ∙ ap (λ q. tuple_to m' q core core) g_is in
      let three : EmitsAsking z.asks c e (MovesTuple (params_sides d debug concurrency) (tuple_from m f params) (tuple_to m' g core core) (taken_in a) (tuple_of ps) (tuple_of qs)) =
      subst (λ taken. EmitsAsking z.asks c e (MovesTuple (params_sides d debug concurrency) (tuple_from m f params) (tuple_to m' g core core) taken (tuple_of ps) (tuple_of qs))) from_c
      (subst (λ dst. EmitsAsking z.asks c e (MovesTuple (params_sides d debug concurrency) (tuple_from m f params) dst (taken_in c) (tuple_of ps) (tuple_of qs))) target
      (subst (λ src. EmitsAsking z.asks c e (MovesTuple (params_sides d debug concurrency) src dst (taken_in c) (tuple_of ps) (tuple_of qs))) source
      (z.emits (tuple_of ps) (tuple_of qs) (sx ps rs h) (sy qs ss k) (tt, can.from_counted) (tt, can.to_counted) can.members))) in
      let small = x.size ps (sx ps rs h) in
      let small' = y.size qs (sy qs ss k) in
      emits_then
      {P = ChecksTuple m (taken_in a) f (last_local params) (tuple_size m.memory64 ps) (tuple_align m.memory64 ps)}
      {Q = λ M p locals k. (c2 : List Instr) × (c3 : List Instr) × (k ≡ c2 ++ c3)
      × AsksTuple concurrency m' (taken_in a) g (last_local core) (tuple_size m'.memory64 qs) (tuple_align m'.memory64 qs) M p locals c2
      × MovesTuple (params_sides d debug concurrency) (tuple_from m f params) (tuple_to m' g core core) (taken_in a) (tuple_of ps) (tuple_of qs) M p locals c3}
      (λ M p locals c1 k q r. record { lower_check = c1; lift_request = r.0; move = r.1; is = ap (λ k. c1 ++ k) r.2; lower_size = small; lift_size = small'; checks_lower = q; asks_lift = r.3; moves = r.4 })
      one
      (emits_then (λ M p locals c2 c3 q r. (c2, c3, refl, q, r)) two three);
}

pub moved_params : {t : Tables} (d : AdapterData) (debug concurrency : Bool) {sides : Sides} → sides ≡ params_sides d debug concurrency → (params core : List Slot) (from to : Id TypeTuples) (address address' : ℕ) {src : From} {dst : To} {lower_flat lift_flat : Bool} {before after : Fuel} {a b c e : Writer} → address ≡ last_local params → address' ≡ last_local core
    → src ≡ tuple_from sides.from lower_flat params → dst ≡ tuple_to sides.to lift_flat core core
    → ((memory64 : Bool) (ss : List Shape) → HasShape t (ty.Tuple from) (tuple_of ss) → AreCounted (tuple_members ss) → lower_flat ≡ is_some (flat_values memory64 (lower_limit d.lower.options.async_) ss))
    → ((memory64 : Bool) (ss : List Shape) → HasShape t (ty.Tuple to) (tuple_of ss) → AreCounted (tuple_members ss) → lift_flat ≡ is_some (flat_values memory64 16 ss))
    → ((ps rs : List Shape) → HasSignature t d.lower.ty ps rs → HasShape t (ty.Tuple from) (tuple_of ps)) → ((qs ss : List Shape) → HasSignature t d.lift.ty qs ss → HasShape t (ty.Tuple to) (tuple_of qs))
    → CheckedTuple t from sides.from lower_flat address a b → AskedTuple t to concurrency sides.to lift_flat address' b c → MovedTuple t (ty.Tuple from) (ty.Tuple to) sides src dst before after c e → MovedParams t d debug concurrency params core before after a e
moved_params {t} d debug concurrency {sides} same params core from to address address' {src} {dst} {lower_flat} {lift_flat} {before} {after} {a} {b} {c} {e} first second is is' lower lift sx sy x y z =
    params_by d debug concurrency params core from to address address' first second (subst (λ (s : Sides). src ≡ tuple_from s.from lower_flat params) same is) (subst (λ (s : Sides). dst ≡ tuple_to s.to lift_flat core core) same is')
    lower lift sx sy (subst (λ (s : Sides). CheckedTuple t from s.from lower_flat address a b) same x) (subst (λ (s : Sides). AskedTuple t to concurrency s.to lift_flat address' b c) same y) (subst (λ s. MovedTuple t (ty.Tuple from) (ty.Tuple to) s src dst before after c e) same z)
