-- How cases and elements are loaded.
use Rattle.std.proofs.Common.{◌≡◌, ℕ, zero, suc, ◌+◌, ◌*◌, ◌-◌, ◌^◌, ◌<◌, ◌≤◌, max, List, [], ◌∷◌, ◌++◌, length, drop, get_or, Option, Some, None, refl, sym, ap, ◌∙◌, subst, arith}
use Rattle.std.specs.Prelude.{Bool, true, false, option_map, slice_get, nat_le, ◌==◌, ◌&&◌, ◌%◌, if◌then◌else◌}
use Rattle.std.proofs.lemmas.Bool.{true≢false}
use Rattle.std.specs.Int.{next_multiple_of}
use Rattle.std.proofs.Math.Nat.{mul-le-mul_right}
use Rattle.std.proofs.lemmas.List.{drop_all}
use Rattle.fact_types.specs.declared.abi.CanonicalAbiInfo.{CanonicalAbiInfo}
use Rattle.fact_types.specs.declared.interface.InterfaceType.{InterfaceType}
use Rattle.fact_types.specs.declared.extents.Extent.{Extent}
use Rattle.fact_types.specs.declared.extents.MemoryWidth.{MemoryWidth}
use Rattle.fact_types.specs.declared.extents.MemoryWidth.TheVariants.{Memory32, Memory64}
use Rattle.fact_types.specs.Agrees.{names_of}
use Rattle.fact_types.specs.Layout as Layout
use Rattle.fact_types.specs.Layout.{extent, extents, aligned, greatest_align, greatest_size, payloads, payload_offset, variant_extent, discriminant_size, discriminant_bytes}
use Rattle.fact_types.specs.Shapes.{Kind, k_list, k_fixed, k_future, k_stream, Shape, s_node, Members, no_members, bare, typed, layout_of, layouts_of}
use Rattle.fact_types.specs.Options.{◌>>=◌}
use Rattle.fact_types.specs.Tables.{Tables, HasShape, IsSound, abi_at}
use Rattle.fact_types.proofs.AlignLaws.{aligned_bounds, aligned_by_rest}
use Rattle.fact_types.proofs.FieldLaws.{greatest_align_pos}
use Rattle.fact_types.proofs.ShapeLaws.{same_some, none_some, layout_is}
use Rattle.fact_abi.specs.declared.nodes.NodeKind.{NodeKind}
use Rattle.fact_abi.specs.declared.nodes.NodeKind.TheVariants as is
use Rattle.fact_values.specs.declared.side.SideAbi.{SideAbi}
use Rattle.fact_values.specs.declared.value.HandleKind.TheVariants.{Future, Stream}
use Rattle.fact_values.specs.declared.value.Value.{Value}
use Rattle.fact_values.specs.declared.value.Value.TheVariants as value
use Rattle.fact_values.specs.Load.{load, load_case, load_element, load_variant, list_value}
use Rattle.fact_values.specs.Texts.{lies_aligned}
use Rattle.fact_values.specs.Formed.{AreBare}
use Rattle.fact_abi.specs.Loading.{Aligning, Repeating}
use Rattle.fact_abi.specs.Nodes.{kind_of, IsVariantKind, AreOf}
use Rattle.fact_values.specs.Numbers.{number_in}
use Rattle.fact_values.specs.Places.{width_of, count_of_members, case_bytes, payload_place, Pair, pair_at, each_at}
use Rattle.fact_abi.specs.Rooms.{RoomFor, RoomForCases}
use Rattle.fact_abi.proofs.LoadLaws.{split_typed, split_bare, front}
use Rattle.fact_abi.proofs.TextLaws.{one_more, none_left, all_read, starts}

-- ---- where payloads begin

pub aligning_starts : (t : Tables) (side : SideAbi) (ms : Members) (types : List (Option InterfaceType)) → AreOf t types ms → Aligning t side ms types 0 1
aligning_starts t side ms types h = record { rest = ms; has = h; greatest = omega (arith, greatest_align_pos (extents (width_of side) (payloads (layouts_of ms)))) }

pub aligning_past : (t : Tables) (side : SideAbi) (ms : Members) (types : List (Option InterfaceType)) (i align : ℕ) → i < length types → get_or types i None ≡ None → Aligning t side ms types i align → Aligning t side ms types (i + 1) align
aligning_past t side ms types i align lt e g =
    let p = split_bare t (drop (i + 1) types) g.rest (subst (λ xs. AreOf t xs g.rest) (front types i None lt e) g.has) in
    record { rest = p.rest; has = p.has; greatest = ap (λ r. max align (greatest_align (extents (width_of side) (payloads (layouts_of r))))) (sym p.is) ∙ g.greatest }

pub aligning_on : (t : Tables) (side : SideAbi) (ms : Members) (types : List (Option InterfaceType)) (i align own align' : ℕ) (y : InterfaceType) → i < length types → get_or types i None ≡ Some y
    → ((s : Shape) → HasShape t y s → own ≡ (extent (width_of side) (layout_of s)).align) → align' ≡ max own align → Aligning t side ms types i align → Aligning t side ms types (i + 1) align'
aligning_on t side ms types i align own align' y lt e is greater g =
    let p = split_typed t y (drop (i + 1) types) g.rest (subst (λ xs. AreOf t xs g.rest) (front types i (Some y) lt e) g.has) in
    let all : max align (max (extent (width_of side) (layout_of p.shape)).align (greatest_align (extents (width_of side) (payloads (layouts_of p.rest))))) ≡ greatest_align (extents (width_of side) (payloads (layouts_of ms))) =
    ap (λ r. max align (greatest_align (extents (width_of side) (payloads (layouts_of r))))) (sym p.is) ∙ g.greatest in
    record { rest = p.rest; has = p.has; greatest = omega (arith, greater, is p.shape p.shaped, all) }

pub aligning_ends : (t : Tables) (side : SideAbi) (ms : Members) (types : List (Option InterfaceType)) (i align : ℕ) → length types ≤ i → 1 ≤ align → Aligning t side ms types i align → align ≡ greatest_align (extents (width_of side) (payloads (layouts_of ms)))
aligning_ends t side ms types i align ge some g = omega (arith, g.greatest, some, last g.rest (subst (λ xs. AreOf t xs g.rest) (drop_all i types ge) g.has))
  where
    last : (r : Members) → AreOf t [] r → greatest_align (extents (width_of side) (payloads (layouts_of r))) ≡ 1
    last no_members h = refl
    last (bare n r) h = absurd h
    last (typed n s r) h = absurd h

pub offset_told : (r size align : ℕ) (es : List Extent) → r ≡ next_multiple_of size align → 1 ≤ align → align ≡ greatest_align es → r ≡ payload_offset size es
offset_told r size align es is some at = is ∙ aligned_by_rest size align (omega (arith, some)) ∙ ap (aligned size) at

-- ---- the case of a number

pub count_told : (t : Tables) (types : List (Option InterfaceType)) (ms : Members) → AreOf t types ms → length types ≡ count_of_members ms
count_told t [] no_members h = refl
count_told t (x ∷ xs) no_members h = absurd h
count_told t [] (bare n ms) h = absurd h
count_told t (x ∷ xs) (bare n ms) h = ap suc (count_told t xs ms h.1)
count_told t [] (typed n s ms) h = absurd h
count_told t (x ∷ xs) (typed n s ms) h = ap suc (count_told t xs ms h.1)

pub no_case : (t : Tables) (side : SideAbi) (bytes : List ℕ) (types : List (Option InterfaceType)) (ms : Members) (x a : ℕ) → AreOf t types ms → slice_get types x ≡ None → None ≡ load_case side bytes ms x a
unfolding load
no_case t side bytes [] no_members x a h e = refl
no_case t side bytes (y ∷ ys) no_members x a h e = absurd h
no_case t side bytes [] (bare n ms) x a h e = absurd h
no_case t side bytes (y ∷ ys) (bare n ms) zero a h e = absurd (none_some (Some y) y e refl)
no_case t side bytes (y ∷ ys) (bare n ms) (suc x) a h e = no_case t side bytes ys ms x a h.1 e
no_case t side bytes [] (typed n s ms) x a h e = absurd h
no_case t side bytes (y ∷ ys) (typed n s ms) zero a h e = absurd (none_some (Some y) y e refl)
no_case t side bytes (y ∷ ys) (typed n s ms) (suc x) a h e = no_case t side bytes ys ms x a h.1 e

pub no_case_name : (side : SideAbi) (bytes : List ℕ) (ms : Members) (x a : ℕ) → slice_get (names_of ms) x ≡ None → None ≡ load_case side bytes ms x a
unfolding load
no_case_name side bytes no_members x a e = refl
no_case_name side bytes (bare n ms) zero a e = absurd (none_some (Some n) n e refl)
no_case_name side bytes (bare n ms) (suc x) a e = no_case_name side bytes ms x a e
no_case_name side bytes (typed n s ms) zero a e = absurd (none_some (Some n) n e refl)
no_case_name side bytes (typed n s ms) (suc x) a e = no_case_name side bytes ms x a e

pub bare_case_loads : (t : Tables) (side : SideAbi) (bytes : List ℕ) (types : List (Option InterfaceType)) (ms : Members) (x a : ℕ) (n : List ℕ) → AreOf t types ms → slice_get types x ≡ Some None → slice_get (names_of ms) x ≡ Some n
    → load_case side bytes ms x a ≡ Some (value.Case n [])
unfolding load
bare_case_loads t side bytes [] no_members x a n h e m = absurd (none_some None n refl m)
bare_case_loads t side bytes (y ∷ ys) no_members x a n h e m = absurd h
bare_case_loads t side bytes [] (bare k ms) x a n h e m = absurd h
bare_case_loads t side bytes (y ∷ ys) (bare k ms) zero a n h e m = ap (λ n. Some (value.Case n [])) (same_some (Some k) k n refl m)
bare_case_loads t side bytes (y ∷ ys) (bare k ms) (suc x) a n h e m = bare_case_loads t side bytes ys ms x a n h.1 e m
bare_case_loads t side bytes [] (typed k s ms) x a n h e m = absurd h
bare_case_loads t side bytes (y ∷ ys) (typed k s ms) zero a n h e m = absurd (none_some y h.0.0 (same_some (Some y) y None refl e) h.0.1)
bare_case_loads t side bytes (y ∷ ys) (typed k s ms) (suc x) a n h e m = bare_case_loads t side bytes ys ms x a n h.1 e m

pub record Payload (t : Tables) (side : SideAbi) (bytes : List ℕ) (ms : Members) (x a : ℕ) (n : List ℕ) (y : InterfaceType) : Type 0 where
  pub shape : Shape
  pub shaped : HasShape t y shape
  pub loads : load_case side bytes ms x a ≡ option_map (λ w. value.Case n (w ∷ [])) (load side bytes shape a)

pub typed_case_loads : (t : Tables) (side : SideAbi) (bytes : List ℕ) (types : List (Option InterfaceType)) (ms : Members) (x a : ℕ) (n : List ℕ) (y : InterfaceType) → AreOf t types ms → slice_get types x ≡ Some (Some y) → slice_get (names_of ms) x ≡ Some n
    → Payload t side bytes ms x a n y
unfolding load
typed_case_loads t side bytes [] no_members x a n y h e m = absurd (none_some None n refl m)
typed_case_loads t side bytes (z ∷ zs) no_members x a n y h e m = absurd h
typed_case_loads t side bytes [] (bare k ms) x a n y h e m = absurd h
typed_case_loads t side bytes (z ∷ zs) (bare k ms) zero a n y h e m = absurd (none_some z y h.0 (same_some (Some z) z (Some y) refl e))
typed_case_loads t side bytes (z ∷ zs) (bare k ms) (suc x) a n y h e m = let p = typed_case_loads t side bytes zs ms x a n y h.1 e m in record { shape = p.shape; shaped = p.shaped; loads = p.loads }
typed_case_loads t side bytes [] (typed k s ms) x a n y h e m = absurd h
typed_case_loads t side bytes (z ∷ zs) (typed k s ms) zero a n y h e m = record {
  shape = s;
  shaped = subst (λ y. HasShape t y s) (same_some z h.0.0 y h.0.1 (same_some (Some z) z (Some y) refl e)) h.0.2;
  loads = ap (λ n. option_map (λ w. value.Case n (w ∷ [])) (load side bytes s a)) (same_some (Some k) k n refl m);
}
typed_case_loads t side bytes (z ∷ zs) (typed k s ms) (suc x) a n y h e m = let p = typed_case_loads t side bytes zs ms x a n y h.1 e m in record { shape = p.shape; shaped = p.shaped; loads = p.loads }

-- ---- several elements

pub repeating_starts : {A : Type 0} (f : ℕ → Option A) (count size address : ℕ) → Repeating f count size 0 address address []
repeating_starts f count size address = record { place = omega arith; same = let e : count - 0 ≡ count = omega arith in starts (each_at count size f address) ∙ ap (λ n. option_map (λ vs. [] ++ vs) (each_at n size f address)) (sym e) }

next_each : {A : Type 0} (f : ℕ → Option A) (count size i at : ℕ) → i < count → each_at (count - i) size f at ≡ f at >>= (λ v. each_at (count - (i + 1)) size f (at + size) >>= (λ vs. Some (v ∷ vs)))
next_each f count size i at lt = let e : count - i ≡ suc (count - (i + 1)) = omega (arith, lt) in ap (λ n. each_at n size f at) e

pub repeating_on : {A : Type 0} (f : ℕ → Option A) (count size i at address at' : ℕ) (values values' : List A) (o : Option A) (v : A) → i < count → o ≡ f at → o ≡ Some v → values' ≡ values ++ v ∷ [] → at' ≡ at + size
    → Repeating f count size i at address values → Repeating f count size (i + 1) at' address values'
repeating_on f count size i at address at' values values' o v lt read there pushed moved g = record {
  place = omega (arith, moved, g.place);
  same = one_more _ _ (each_at (count - (i + 1)) size f at') values values' v g.same
      (next_each f count size i at lt ∙ ap (λ o. o >>= (λ v. each_at (count - (i + 1)) size f (at + size) >>= (λ vs. Some (v ∷ vs)))) (sym read ∙ there)
      ∙ ap (λ b. each_at (count - (i + 1)) size f b >>= (λ vs. Some (v ∷ vs))) (sym moved)) pushed;
}

pub not_repeated : {A : Type 0} (f : ℕ → Option A) (count size i at address : ℕ) (values : List A) (o : Option A) → i < count → o ≡ f at → o ≡ None → Repeating f count size i at address values → None ≡ each_at count size f address
not_repeated f count size i at address values o lt read none g =
    none_left _ _ values g.same (next_each f count size i at lt ∙ ap (λ o. o >>= (λ v. each_at (count - (i + 1)) size f (at + size) >>= (λ vs. Some (v ∷ vs)))) (sym read ∙ none))

pub all_repeated : {A : Type 0} (f : ℕ → Option A) (count size i at address : ℕ) (values : List A) → count ≤ i → Repeating f count size i at address values → Some values ≡ each_at count size f address
all_repeated f count size i at address values ge g = let e : count - i ≡ 0 = omega (arith, ge) in all_read _ _ values g.same (ap (λ n. each_at n size f at) e)

-- ---- lists

module _ (side : SideAbi) (bytes : List ℕ) where
  -- the elements of a list behind a pointer
  list_typed : (n : List ℕ) (s : Shape) (rest : Members) (p : Pair) (size align : ℕ) (o : Option (List Value)) → size ≡ (extent (width_of side) (layout_of s)).size → align ≡ (extent (width_of side) (layout_of s)).align
      → lies_aligned bytes align p.pointer (p.count * size) ≡ true → o ≡ each_at p.count size (λ b. load side bytes s b) p.pointer → option_map (λ vs. value.List vs) o ≡ list_value side bytes (typed n s rest) (λ b. load_element side bytes (typed n s rest) b) p
  unfolding load
  list_typed n s rest p size align o is_s is_a inside read =
      let inside' : lies_aligned bytes (extent (width_of side) (layout_of s)).align p.pointer (p.count * (extent (width_of side) (layout_of s)).size) ≡ true = sym (λ i. lies_aligned bytes (is_a i) p.pointer (p.count * is_s i)) ∙ inside in
      ap (option_map (λ vs. value.List vs)) (read ∙ ap (λ z. each_at p.count z (λ b. load side bytes s b) p.pointer) is_s)
      ∙ sym (ap (λ b. option_map (λ vs. value.List vs) (if b then each_at p.count (extent (width_of side) (layout_of s)).size (λ b. load side bytes s b) p.pointer else None)) inside')

  no_range_typed : (n : List ℕ) (s : Shape) (rest : Members) (p : Pair) (size align : ℕ) → size ≡ (extent (width_of side) (layout_of s)).size → align ≡ (extent (width_of side) (layout_of s)).align
      → lies_aligned bytes align p.pointer (p.count * size) ≡ false → None ≡ list_value side bytes (typed n s rest) (λ b. load_element side bytes (typed n s rest) b) p
  unfolding load
  no_range_typed n s rest p size align is_s is_a outside =
      let outside' : lies_aligned bytes (extent (width_of side) (layout_of s)).align p.pointer (p.count * (extent (width_of side) (layout_of s)).size) ≡ false = sym (λ i. lies_aligned bytes (is_a i) p.pointer (p.count * is_s i)) ∙ outside in
      sym (ap (λ b. option_map (λ vs. value.List vs) (if b then each_at p.count (extent (width_of side) (layout_of s)).size (λ b. load side bytes s b) p.pointer else None)) outside')

  -- a list whose pointer and length stand at an address
  pub list_stands : (a : ℕ) (ms : Members) (p : Pair) (o : Option Value) → Some p ≡ pair_at side bytes a → o ≡ list_value side bytes ms (λ b. load_element side bytes ms b) p → o ≡ load side bytes (s_node k_list ms) a
  unfolding load
  list_stands a ms p o pair is = is ∙ ap (λ o. o >>= (λ q. list_value side bytes ms (λ b. load_element side bytes ms b) q)) pair

  pub no_pair : (a : ℕ) (ms : Members) → None ≡ pair_at side bytes a → None ≡ load side bytes (s_node k_list ms) a
  unfolding load
  no_pair a ms none = ap (λ o. o >>= (λ q. list_value side bytes ms (λ b. load_element side bytes ms b) q)) none

  fixed_typed : (a count : ℕ) (n : List ℕ) (s : Shape) (rest : Members) (size : ℕ) (o : Option (List Value)) → size ≡ (extent (width_of side) (layout_of s)).size → o ≡ each_at count size (λ b. load side bytes s b) a
      → option_map (λ vs. value.List vs) o ≡ load side bytes (s_node (k_fixed count) (typed n s rest)) a
  unfolding load
  fixed_typed a count n s rest size o is_s read = ap (option_map (λ vs. value.List vs)) (read ∙ ap (λ z. each_at count z (λ b. load side bytes s b) a) is_s)

  module _ (t : Tables) (e : InterfaceType) (ms : Members) (are : AreOf t (Some e ∷ []) ms) (size align : ℕ)
      (is_s : (s : Shape) → HasShape t e s → size ≡ (extent (width_of side) (layout_of s)).size) (is_a : (s : Shape) → HasShape t e s → align ≡ (extent (width_of side) (layout_of s)).align) where
    pub list_loads : (p : Pair) (o : Option (List Value)) → lies_aligned bytes align p.pointer (p.count * size) ≡ true
        → ((s : Shape) → HasShape t e s → o ≡ each_at p.count size (λ b. load side bytes s b) p.pointer) → option_map (λ vs. value.List vs) o ≡ list_value side bytes ms (λ b. load_element side bytes ms b) p
    list_loads p o inside read =
        let q = split_typed t e [] ms are in
        subst (λ ms. option_map (λ vs. value.List vs) o ≡ list_value side bytes ms (λ b. load_element side bytes ms b) p) (sym q.is)
        (list_typed q.name q.shape q.rest p size align o (is_s q.shape q.shaped) (is_a q.shape q.shaped) inside (read q.shape q.shaped))

    pub no_range : (p : Pair) → lies_aligned bytes align p.pointer (p.count * size) ≡ false → None ≡ list_value side bytes ms (λ b. load_element side bytes ms b) p
    no_range p outside =
        let q = split_typed t e [] ms are in
        subst (λ ms. None ≡ list_value side bytes ms (λ b. load_element side bytes ms b) p) (sym q.is) (no_range_typed q.name q.shape q.rest p size align (is_s q.shape q.shaped) (is_a q.shape q.shaped) outside)

    pub fixed_list_loads : (a count : ℕ) (o : Option (List Value)) → ((s : Shape) → HasShape t e s → o ≡ each_at count size (λ b. load side bytes s b) a) → option_map (λ vs. value.List vs) o ≡ load side bytes (s_node (k_fixed count) ms) a
    fixed_list_loads a count o read =
        let q = split_typed t e [] ms are in
        subst (λ ms. option_map (λ vs. value.List vs) o ≡ load side bytes (s_node (k_fixed count) ms) a) (sym q.is) (fixed_typed a count q.name q.shape q.rest size o (is_s q.shape q.shaped) (read q.shape q.shaped))

-- a range that is in bounds ends within 64 bits
pub range_small : (bytes : List ℕ) (align pointer count : ℕ) → lies_aligned bytes align pointer count ≡ true → pointer + count ≤ length bytes
range_small bytes align pointer count e = second (pointer % align == 0) (nat_le (pointer + count) (length bytes)) refl e
  where
    second : (a b : Bool) → nat_le (pointer + count) (length bytes) ≡ b → (a && b) ≡ true → pointer + count ≤ length bytes
    second true true q e = grind (arith, q)
    second true false q e = absurd (true≢false (sym e))
    second false b q e = absurd (true≢false (sym e))

-- ---- handles

pub future_loads : (side : SideAbi) (bytes : List ℕ) (a table instance : ℕ) (ms : Members) (o : Option Value) → o ≡ option_map (λ n. value.Handle Future table n) (number_in bytes 4 a) → o ≡ load side bytes (s_node (k_future table instance) ms) a
unfolding load
future_loads side bytes a table instance ms o e = e

pub stream_loads : (side : SideAbi) (bytes : List ℕ) (a table instance : ℕ) (ms : Members) (o : Option Value) → o ≡ option_map (λ n. value.Handle Stream table n) (number_in bytes 4 a) → o ≡ load side bytes (s_node (k_stream table instance) ms) a
unfolding load
stream_loads side bytes a table instance ms o e = e

-- ---- variants

pub variant_loads : (side : SideAbi) (bytes : List ℕ) (a : ℕ) (k : NodeKind) (ms : Members) (o : Option Value) → IsVariantKind k → o ≡ load_variant side bytes ms (λ x b. load_case side bytes ms x b) a → o ≡ load side bytes (s_node (kind_of k) ms) a
unfolding load
variant_loads side bytes a is.Variant ms o v e = e
variant_loads side bytes a is.Enum ms o v e = e
variant_loads side bytes a is.Option ms o v e = e
variant_loads side bytes a is.Result ms o v e = e
variant_loads side bytes a _ ms o v e = absurd v

-- the payload has room where the whole has
extent_is : (w : MemoryWidth) (ls : List (Option CanonicalAbiInfo)) → extent w (Layout.variant_layout ls) ≡ variant_extent (discriminant_bytes (discriminant_size (length ls))) (extents w (payloads ls))
extent_is Memory32 ls = refl
extent_is Memory64 ls = refl

payload_fits : (d : ℕ) (es : List Extent) → payload_offset d es + greatest_size es ≤ (variant_extent d es).size
payload_fits d es = let pos : 0 < max d (greatest_align es) = omega (arith, greatest_align_pos es) in (aligned_bounds (payload_offset d es + greatest_size es) (max d (greatest_align es)) pos).0

payload_size : (t : Tables) (w : MemoryWidth) (types : List (Option InterfaceType)) (ms : Members) (i : ℕ) (y : InterfaceType) → AreOf t types ms → slice_get types i ≡ Some (Some y)
    → (s : Shape) × HasShape t y s × ((extent w (layout_of s)).size ≤ greatest_size (extents w (payloads (layouts_of ms))))
payload_size t w [] no_members i y h e = absurd (none_some None (Some y) refl e)
payload_size t w (x ∷ xs) no_members i y h e = absurd h
payload_size t w [] (bare n ms) i y h e = absurd h
payload_size t w (x ∷ xs) (bare n ms) zero y h e = absurd (none_some x y h.0 (same_some (Some x) x (Some y) refl e))
payload_size t w (x ∷ xs) (bare n ms) (suc i) y h e = payload_size t w xs ms i y h.1 e
payload_size t w [] (typed n s ms) i y h e = absurd h
payload_size t w (x ∷ xs) (typed n s ms) zero y h e =
    (s, subst (λ y. HasShape t y s) (same_some x h.0.0 y h.0.1 (same_some (Some x) x (Some y) refl e)) h.0.2, omega arith)
payload_size t w (x ∷ xs) (typed n s ms) (suc i) y h e = let (z, k, le) = payload_size t w xs ms i y h.1 e in (z, k, omega (arith, le))

pub cases_room : (t : Tables) → IsSound t → (side : SideAbi) (a : ℕ) (y : InterfaceType) (types : List (Option InterfaceType)) (whole : CanonicalAbiInfo) (s : Shape) (k : Kind) (ms : Members) → AreOf t types ms → s ≡ s_node k ms
    → layout_of (s_node k ms) ≡ Layout.variant_layout (layouts_of ms) → whole ≡ abi_at t y → whole ≡ layout_of s → RoomFor t (width_of side) a y → RoomForCases t side a types
cases_room t sound side a y types whole s k ms are is alike at laid room = record { members = ms; are = are; payload = record { each = each } }
  where
    each : (i : ℕ) (z : InterfaceType) → slice_get types i ≡ Some (Some z) → RoomFor t (width_of side) (a + payload_place side ms) z
    each i z e =
        let (q, h, le) = payload_size t (width_of side) types ms i z are e in
        let own : (extent (width_of side) (abi_at t z)).size ≡ (extent (width_of side) (layout_of q)).size = ap (λ (l : CanonicalAbiInfo). (extent (width_of side) l).size) (layout_is t sound q z h) in
        let size : (extent (width_of side) (abi_at t y)).size ≡ (variant_extent (case_bytes ms) (extents (width_of side) (payloads (layouts_of ms)))).size =
        ap (λ (l : CanonicalAbiInfo). (extent (width_of side) l).size) (sym at ∙ laid ∙ ap layout_of is ∙ alike) ∙ ap (λ (x : Extent). x.size) (extent_is (width_of side) (layouts_of ms)) in
        omega (arith, own, le, size, payload_fits (case_bytes ms) (extents (width_of side) (payloads (layouts_of ms))), room)

-- an enum has no payloads
bare_types : (t : Tables) (types : List (Option InterfaceType)) (ms : Members) (i : ℕ) (y : InterfaceType) → AreOf t types ms → AreBare ms → slice_get types i ≡ Some (Some y) → ⊥
bare_types t [] no_members i y h b e = none_some None (Some y) refl e
bare_types t (x ∷ xs) no_members i y h b e = h
bare_types t [] (bare n ms) i y h b e = h
bare_types t (x ∷ xs) (bare n ms) zero y h b e = none_some x y h.0 (same_some (Some x) x (Some y) refl e)
bare_types t (x ∷ xs) (bare n ms) (suc i) y h b e = bare_types t xs ms i y h.1 b e
bare_types t xs (typed n s ms) i y h b e = b

pub no_payloads : (t : Tables) (side : SideAbi) (a : ℕ) (types : List (Option InterfaceType)) (ms : Members) → AreOf t types ms → AreBare ms → RoomForCases t side a types
no_payloads t side a types ms are b = record { members = ms; are = are; payload = record { each = λ i y e. absurd (bare_types t types ms i y are b e) } }

-- without a discriminant there is no value
pub no_number : (side : SideAbi) (bytes : List ℕ) (a : ℕ) (ms : Members) (size : ℕ) (o : Option ℕ) (n : ℕ) → discriminant_bytes (discriminant_size n) ≡ case_bytes ms → size ≡ discriminant_bytes (discriminant_size n) → o ≡ number_in bytes size a → o ≡ None
    → None ≡ load_variant side bytes ms (λ x b. load_case side bytes ms x b) a
no_number side bytes a ms size o n is told read none =
    ap (λ o. o >>= (λ x. load_case side bytes ms x (a + payload_place side ms))) (sym none ∙ read ∙ ap (λ z. number_in bytes z a) (told ∙ is))

-- an element has room where the whole list has
pub element_room : (t : Tables) (w : MemoryWidth) (a : ℕ) (y : InterfaceType) (count size i at : ℕ) → i < count → size ≡ (extent w (abi_at t y)).size → a + count * size ≤ 2 ^ 90 → at ≡ a + i * size → RoomFor t w at y
element_room t w a y count size i at lt is room place = let more : (i + 1) * size ≤ count * size = mul-le-mul_right size (omega (arith, lt)) in omega (arith, is, room, place, more)

-- a value with a discriminant is the case of that number
pub place_told : (side : SideAbi) (ms : Members) (size n place : ℕ) → discriminant_bytes (discriminant_size n) ≡ case_bytes ms → size ≡ discriminant_bytes (discriminant_size n)
    → place ≡ payload_offset size (extents (width_of side) (payloads (layouts_of ms))) → place ≡ payload_place side ms
place_told side ms size n place is told at = at ∙ ap (λ d. payload_offset d (extents (width_of side) (payloads (layouts_of ms)))) (told ∙ is)

pub number_loads : (side : SideAbi) (bytes : List ℕ) (a : ℕ) (ms : Members) (size n place x : ℕ) (v : Option Value) → discriminant_bytes (discriminant_size n) ≡ case_bytes ms → size ≡ discriminant_bytes (discriminant_size n)
    → Some x ≡ number_in bytes size a → place ≡ payload_offset size (extents (width_of side) (payloads (layouts_of ms))) → v ≡ load_case side bytes ms x (a + place) → v ≡ load_variant side bytes ms (λ x b. load_case side bytes ms x b) a
number_loads side bytes a ms size n place x v is told read at loads =
    loads ∙ ap (λ z. load_case side bytes ms x (a + z)) (place_told side ms size n place is told at)
    ∙ ap (λ o. o >>= (λ x. load_case side bytes ms x (a + payload_place side ms))) (read ∙ ap (λ z. number_in bytes z a) (told ∙ is))

pub range_told : (bytes : List ℕ) (r : Bool) (align' align pointer count' count size' size : ℕ) (b : Bool) → r ≡ lies_aligned bytes align' pointer (count' * size') → align' ≡ align → count' ≡ count → size' ≡ size → r ≡ b
    → lies_aligned bytes align pointer (count * size) ≡ b
range_told bytes r align' align pointer count' count size' size b is a c s e = sym (λ i. lies_aligned bytes (a i) pointer (c i * s i)) ∙ sym is ∙ e

-- the elements of a list of a fixed length have room where the list has
fixed_of : (t : Tables) → IsSound t → (w : MemoryWidth) (y : InterfaceType) (n : ℕ) (name : List ℕ) (z : Shape) (rest : Members) → HasShape t y z
    → (extent w (layout_of (s_node (k_fixed n) (typed name z rest)))).size ≡ (extent w (abi_at t y)).size * n
fixed_of t sound Memory32 y n name z rest h = ap (λ (l : CanonicalAbiInfo). (extent Memory32 l).size * n) (sym (layout_is t sound z y h))
fixed_of t sound Memory64 y n name z rest h = ap (λ (l : CanonicalAbiInfo). (extent Memory64 l).size * n) (sym (layout_is t sound z y h))

pub fixed_room : (t : Tables) → IsSound t → (w : MemoryWidth) (a : ℕ) (y e : InterfaceType) (n : ℕ) (whole : CanonicalAbiInfo) (s : Shape) (ms : Members) → AreOf t (Some e ∷ []) ms → s ≡ s_node (k_fixed n) ms
    → whole ≡ abi_at t y → whole ≡ layout_of s → RoomFor t w a y → a + n * (extent w (abi_at t e)).size ≤ 2 ^ 90
fixed_room t sound w a y e n whole s ms are is at laid room =
    let q = split_typed t e [] ms are in
    let size : (extent w (abi_at t y)).size ≡ (extent w (abi_at t e)).size * n =
    ap (λ (l : CanonicalAbiInfo). (extent w l).size) (sym at ∙ laid ∙ ap layout_of (is ∙ ap (s_node (k_fixed n)) q.is)) ∙ fixed_of t sound w e n q.name q.shape q.rest q.shaped in
    omega (arith, size, room)

pub next_element : (a size i at r : ℕ) → at ≡ a + i * size → r ≡ size → at + r ≡ a + (i + 1) * size
next_element a size i at r place is = omega (arith, place, is)

pub element_fits : (a count size i at r : ℕ) → i < count → a + count * size ≤ 2 ^ 90 → at ≡ a + i * size → r ≡ size → at + r < 2 ^ 128
element_fits a count size i at r lt room place is = let more : (i + 1) * size ≤ count * size = mul-le-mul_right size (omega (arith, lt)) in omega (arith, is, room, place, more)

-- a case of a payload, and one of none
pub typed_case : (n name : List ℕ) (values : List Value) (v : Value) (o r : Option Value) → name ≡ n → values ≡ v ∷ [] → Some v ≡ o → r ≡ option_map (λ w. value.Case n (w ∷ [])) o → Some (value.Case name values) ≡ r
typed_case n name values v o r called one there is = ap (λ n. Some (value.Case n values)) called ∙ ap (λ vs. Some (value.Case n vs)) one ∙ ap (option_map (λ w. value.Case n (w ∷ []))) there ∙ sym is

pub bare_case : (n name : List ℕ) (values : List Value) (r : Option Value) → name ≡ n → values ≡ [] → r ≡ Some (value.Case n []) → Some (value.Case name values) ≡ r
bare_case n name values r called none is = ap (λ n. Some (value.Case n values)) called ∙ ap (λ vs. Some (value.Case n vs)) none ∙ sym is
