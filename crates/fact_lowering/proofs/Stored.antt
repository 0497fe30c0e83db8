-- Values that are read where their parts were stored.
use Rattle.std.proofs.Common.{◌≡◌, ℕ, zero, suc, ◌+◌, ◌*◌, ◌^◌, ◌≤◌, ◌<◌, Bool, true, false, List, [], ◌∷◌, length, map, take, drop, Option, Some, None, refl, sym, ap, ◌∙◌, subst, arith}
use Rattle.std.specs.Prelude.{option_map, ◌==◌, ◌&&◌, ◌%◌, nat_le, if◌then◌else◌}
use Rattle.std.specs.List.{zip}
use Rattle.std.proofs.lemmas.Bool.{le-leb}
use Rattle.fact_types.specs.declared.interface.InterfaceType.{InterfaceType}
use Rattle.fact_types.specs.declared.interface.InterfaceType.TheVariants as ty
use Rattle.fact_types.specs.declared.extents.MemoryWidth.{MemoryWidth}
use Rattle.fact_types.specs.declared.extents.MemoryWidth.TheVariants.{Memory32, Memory64}
use Rattle.fact_types.specs.Agrees.{names_of}
use Rattle.fact_types.specs.Shapes.{Kind, k_record, k_variant, k_list, k_tuple, k_map, k_flags, k_enum, k_option, k_result, k_fixed, k_future, k_stream, Shape, s_plain, s_node, Members, no_members, bare, typed}
use Rattle.fact_types.specs.Options.{◌>>=◌}
use Rattle.fact_machine.specs.World.{with_number}
use Rattle.fact_types.specs.Signatures.{pointer_bytes}
use Rattle.fact_values.specs.declared.side.SideAbi.{SideAbi}
use Rattle.fact_values.specs.declared.value.HandleKind.TheVariants.{Future, Stream}
use Rattle.fact_values.specs.declared.value.Value.{Value}
use Rattle.fact_values.specs.declared.value.Value.TheVariants as value
use Rattle.fact_values.specs.Canonical.{ThereIs, EachAt}
use Rattle.fact_values.specs.Load.{load, load_plain, load_members, load_case, load_element, load_node, load_variant, entry_of, text_value, list_value, map_value}
use Rattle.fact_values.specs.Numbers.{Plain, boolean, unsigned, signed, float32, float64, character, text, handle, nothing, plain_of, value_of_number, flags_of_number, number_in}
use Rattle.fact_values.specs.Places.{width_of, extent_on, flags_bytes, element_extent, typed_names, Pair, pair_at, each_at}
use Rattle.fact_values.specs.Texts.{lies_aligned}
use Rattle.fact_lowering.specs.Lowered.{AgreeWithin, IsWritten, ReadsAt, ReadsMembers, ReadsEach, ReadsEntries, ReadsBehind}
use Rattle.fact_lowering.specs.Lowerings.{ReadsCase}
use Rattle.fact_lowering.specs.TextForms.{IsByFormAt, AreByFormAt, IsElementByFormAt, IsPlainByForm, StandsByForm, AreElementsByForm}
use Rattle.fact_lowering.proofs.Agreeing.{written_both, written_also, number_written}
use Rattle.fact_lowering.proofs.OwnRooms.{IsCaseKind}

-- ---- a pointer and a length

pub pair_is : (side : SideAbi) (b : List ℕ) (a p n : ℕ) → number_in b (pointer_bytes (width_of side)) a ≡ Some p → number_in b (pointer_bytes (width_of side)) (a + pointer_bytes (width_of side)) ≡ Some n
    → pair_at side b a ≡ Some (record { pointer = p; count = n })
pair_is side b a p n h k =
    ap (λ o. o >>= (λ p. number_in b (pointer_bytes (width_of side)) (a + pointer_bytes (width_of side)) >>= (λ n. Some (record { pointer = p; count = n })))) h
    ∙ ap (λ o. o >>= (λ n. Some (record { pointer = p; count = n }))) k

small_number : (w : MemoryWidth) (x : ℕ) → x < 2 ^ 32 → x < 256 ^ pointer_bytes w
small_number Memory32 x h = omega (arith, h)
small_number Memory64 x h = omega (arith, h)

pub pair_written : (side : SideAbi) (m : List ℕ) (a p n cursor : ℕ) → a + (pointer_bytes (width_of side) + pointer_bytes (width_of side)) ≤ cursor → cursor ≤ length m → p < 2 ^ 32 → n < 2 ^ 32
    → IsWritten (λ b. pair_at side b a ≡ Some (record { pointer = p; count = n })) a (pointer_bytes (width_of side) + pointer_bytes (width_of side)) cursor cursor 0 m
    (with_number (pointer_bytes (width_of side)) (with_number (pointer_bytes (width_of side)) m a p) (a + pointer_bytes (width_of side)) n)
pair_written side m a p n cursor le inside lp ln =
    let k : ℕ = pointer_bytes (width_of side) in
    let first = number_written m k a p cursor (omega (arith, le)) inside (small_number (width_of side) p lp) in
    let second = number_written (with_number k m a p) k (a + k) n cursor (omega (arith, le)) first.rises.inside (small_number (width_of side) n ln) in
    written_also (written_both a (k + k) (omega arith) (omega arith) (omega arith) (omega (arith, le)) first second) (λ b l r. pair_is side b a p n r.0 r.1)

-- ---- values without members

abbrev pub IsNoText : Plain → Type 0
IsNoText text = ⊥
IsNoText _ = Unit {0}

plain_loads : (side : SideAbi) (b : List ℕ) (p : InterfaceType) (q : Plain) (a n : ℕ) (v : Value) → IsNoText q → number_in b (extent_on side (s_plain p)).size a ≡ Some n → value_of_number q n ≡ Some v → load_plain side b p q a ≡ Some v
plain_loads side b p text a n v t h k = absurd t
plain_loads side b p boolean a n v t h k = ap (λ o. o >>= (λ n. value_of_number boolean n)) h ∙ k
plain_loads side b p (unsigned bits) a n v t h k = ap (λ o. o >>= (λ n. value_of_number (unsigned bits) n)) h ∙ k
plain_loads side b p (signed bits) a n v t h k = ap (λ o. o >>= (λ n. value_of_number (signed bits) n)) h ∙ k
plain_loads side b p float32 a n v t h k = ap (λ o. o >>= (λ n. value_of_number float32 n)) h ∙ k
plain_loads side b p float64 a n v t h k = ap (λ o. o >>= (λ n. value_of_number float64 n)) h ∙ k
plain_loads side b p character a n v t h k = ap (λ o. o >>= (λ n. value_of_number character n)) h ∙ k
plain_loads side b p (handle kind table) a n v t h k = ap (λ o. o >>= (λ n. value_of_number (handle kind table) n)) h ∙ k
plain_loads side b p nothing a n v t h k = ap (λ o. o >>= (λ n. value_of_number nothing n)) h ∙ k

plain_by_form : (side : SideAbi) (b : List ℕ) (q : Plain) (o : Option Pair) → IsNoText q → IsPlainByForm side b q o
plain_by_form side b text o t = absurd t
plain_by_form side b _ o t = tt

pub reads_number : (side : SideAbi) (b : List ℕ) (y : InterfaceType) (a n : ℕ) (v : Value) → IsNoText (plain_of y) → number_in b (extent_on side (s_plain y)).size a ≡ Some n → value_of_number (plain_of y) n ≡ Some v → ReadsAt side (s_plain y) v a b
unfolding load IsByFormAt
reads_number side b y a n v t h k = (plain_loads side b y (plain_of y) a n v t h k, plain_by_form side b (plain_of y) (pair_at side b a) t)

pub there_is : {A : Type 0} (o : Option A) (x : A) (P : A → Type 0) → o ≡ Some x → P x → ThereIs o P
there_is o x P e h = subst (λ o. ThereIs o P) (sym e) h

pub reads_text : (side : SideAbi) (b : List ℕ) (y q : InterfaceType) (a : ℕ) (p : Pair) (v : Value) → plain_of y ≡ text → pair_at side b a ≡ Some p → ReadsBehind side (s_plain q) v p b → ReadsAt side (s_plain y) v a b
unfolding load IsByFormAt
reads_text side b y q a p v t h r = (
  ap (λ k. load_plain side b y k a) t ∙ ap (λ o. o >>= (λ p. text_value side b p)) h ∙ r.0,
  subst (λ k. IsPlainByForm side b k (pair_at side b a)) (sym t) (there_is (pair_at side b a) p (StandsByForm side.encoding b) h r.1),
)

-- ---- values with members

zipped : (names : List (List ℕ)) (fs : List (List ℕ × Value)) → map (λ f. f.0) fs ≡ names → zip names (map (λ f. f.1) fs) ≡ fs
zipped names fs e = ap (λ ns. zip ns (map (λ f. f.1) fs)) (sym e) ∙ go fs
  where
    go : (fs : List (List ℕ × Value)) → zip (map (λ f. f.0) fs) (map (λ f. f.1) fs) ≡ fs
    go [] = refl
    go (f ∷ fs) = ap (λ l. f ∷ l) (go fs)

pub reads_record : (side : SideAbi) (b : List ℕ) (ms : Members) (a : ℕ) (fs : List (List ℕ × Value)) → map (λ f. f.0) fs ≡ typed_names ms → ReadsMembers side ms (map (λ f. f.1) fs) a 0 b → ReadsAt side (s_node k_record ms) (value.Record fs) a b
unfolding load IsByFormAt
reads_record side b ms a fs e r = (ap (option_map (λ vs. value.Record (zip (typed_names ms) vs))) r.0 ∙ ap (λ fs. Some (value.Record fs)) (zipped (typed_names ms) fs e), r.1)

pub reads_tuple : (side : SideAbi) (b : List ℕ) (ms : Members) (a : ℕ) (vs : List Value) → ReadsMembers side ms vs a 0 b → ReadsAt side (s_node k_tuple ms) (value.Tuple vs) a b
unfolding load IsByFormAt
reads_tuple side b ms a vs r = (ap (option_map (λ vs. value.Tuple vs)) r.0, r.1)

pub reads_fixed : (side : SideAbi) (b : List ℕ) (count : ℕ) (n : List ℕ) (s : Shape) (rest : Members) (a : ℕ) (vs : List Value) → length vs ≡ count
    → ReadsEach side s (element_extent side (k_fixed count) (typed n s rest)).size vs a b → ReadsAt side (s_node (k_fixed count) (typed n s rest)) (value.List vs) a b
unfolding load IsByFormAt
reads_fixed side b count n s rest a vs e r = (
  ap (λ k. option_map (λ vs. value.List vs) (each_at k (element_extent side (k_fixed count) (typed n s rest)).size (λ c. load side b s c) a)) (sym e) ∙ ap (option_map (λ vs. value.List vs)) r.0,
  subst (λ k. EachAt k (element_extent side (k_fixed count) (typed n s rest)).size (λ c. IsByFormAt side b s c) a) e r.1,
)

pub reads_list : (side : SideAbi) (b : List ℕ) (ms : Members) (a : ℕ) (p : Pair) (v : Value) → pair_at side b a ≡ Some p → ReadsBehind side (s_node k_list ms) v p b → ReadsAt side (s_node k_list ms) v a b
unfolding load IsByFormAt
reads_list side b ms a p v h r = (
  ap (λ o. o >>= (λ q. list_value side b ms (λ c. load_element side b ms c) q)) h ∙ r.0,
  there_is (pair_at side b a) p (AreElementsByForm side k_list ms (λ c. IsElementByFormAt side b ms c)) h r.1,
)

pub reads_map : (side : SideAbi) (b : List ℕ) (ms : Members) (a : ℕ) (p : Pair) (v : Value) → pair_at side b a ≡ Some p → ReadsBehind side (s_node k_map ms) v p b → ReadsAt side (s_node k_map ms) v a b
unfolding load IsByFormAt
reads_map side b ms a p v h r = (
  ap (λ o. o >>= (λ q. map_value side b ms (λ c. load_members side b ms c 0) q)) h ∙ r.0,
  there_is (pair_at side b a) p (AreElementsByForm side k_map ms (λ c. AreByFormAt side b ms c 0)) h r.1,
)

pub reads_flags : (side : SideAbi) (b : List ℕ) (ms : Members) (a n : ℕ) (fs : List (List ℕ × Bool)) → number_in b (flags_bytes ms) a ≡ Some n → flags_of_number (names_of ms) n ≡ fs → ReadsAt side (s_node k_flags ms) (value.Flags fs) a b
unfolding load IsByFormAt
reads_flags side b ms a n fs h e = (ap (option_map (λ n. value.Flags (flags_of_number (names_of ms) n))) h ∙ ap (λ fs. Some (value.Flags fs)) e, tt)

pub reads_future : (side : SideAbi) (b : List ℕ) (table instance : ℕ) (ms : Members) (a n : ℕ) → number_in b 4 a ≡ Some n → ReadsAt side (s_node (k_future table instance) ms) (value.Handle Future table n) a b
unfolding load IsByFormAt
reads_future side b table instance ms a n h = (ap (option_map (λ n. value.Handle Future table n)) h, tt)

pub reads_stream : (side : SideAbi) (b : List ℕ) (table instance : ℕ) (ms : Members) (a n : ℕ) → number_in b 4 a ≡ Some n → ReadsAt side (s_node (k_stream table instance) ms) (value.Handle Stream table n) a b
unfolding load IsByFormAt
reads_stream side b table instance ms a n h = (ap (option_map (λ n. value.Handle Stream table n)) h, tt)

-- the four kinds of variants
pub reads_case : (side : SideAbi) (b : List ℕ) (k : Kind) (ms : Members) (a : ℕ) (x : List ℕ) (vs : List Value) → IsCaseKind k → ReadsCase side ms x vs a b → ReadsAt side (s_node k ms) (value.Case x vs) a b
unfolding load IsByFormAt
reads_case side b k_variant ms a x vs h r = r
reads_case side b k_enum ms a x vs h r = (r.0, tt)
reads_case side b k_option ms a x vs h r = r
reads_case side b k_result ms a x vs h r = r
reads_case side b k_record ms a x vs h r = absurd h
reads_case side b k_list ms a x vs h r = absurd h
reads_case side b k_tuple ms a x vs h r = absurd h
reads_case side b k_map ms a x vs h r = absurd h
reads_case side b k_flags ms a x vs h r = absurd h
reads_case side b (k_fixed n) ms a x vs h r = absurd h
reads_case side b (k_future table instance) ms a x vs h r = absurd h
reads_case side b (k_stream table instance) ms a x vs h r = absurd h

-- ---- what stands behind pointers

pub lies : (b : List ℕ) (align pointer count : ℕ) → pointer % align ≡ 0 → pointer + count ≤ length b → lies_aligned b align pointer count ≡ true
lies b align pointer count al le = ap (λ n. n == 0 && nat_le (pointer + count) (length b)) al ∙ le-leb (pointer + count) (length b) le

pub reads_elements : (side : SideAbi) (b : List ℕ) (n : List ℕ) (s : Shape) (rest : Members) (pointer : ℕ) (vs : List Value) → pointer % (element_extent side k_list (typed n s rest)).align ≡ 0
    → pointer + length vs * (element_extent side k_list (typed n s rest)).size ≤ length b → ReadsEach side s (element_extent side k_list (typed n s rest)).size vs pointer b
    → ReadsBehind side (s_node k_list (typed n s rest)) (value.List vs) (record { pointer = pointer; count = length vs }) b
unfolding load IsByFormAt
reads_elements side b n s rest pointer vs al le r =
    let e = element_extent side k_list (typed n s rest) in (
      ap (λ (c : Bool). option_map (λ vs. value.List vs) (if c then each_at (length vs) e.size (λ c. load side b s c) pointer else None)) (lies b e.align pointer (length vs * e.size) al le)
          ∙ ap (option_map (λ vs. value.List vs)) r.0,
      r.1,
    )

pub reads_entries : (side : SideAbi) (b : List ℕ) (ms : Members) (pointer : ℕ) (es : List (Value × Value)) → pointer % (element_extent side k_map ms).align ≡ 0 → pointer + length es * (element_extent side k_map ms).size ≤ length b
    → ReadsEntries side ms (element_extent side k_map ms).size es pointer b → ReadsBehind side (s_node k_map ms) (value.Map es) (record { pointer = pointer; count = length es }) b
reads_entries side b ms pointer es al le r =
    let e = element_extent side k_map ms in (
      ap (λ (c : Bool). option_map (λ es. value.Map es) (if c then each_at (length es) e.size (λ a. load_members side b ms a 0 >>= (λ vs. entry_of vs)) pointer else None)) (lies b e.align pointer (length es * e.size) al le)
          ∙ ap (option_map (λ es. value.Map es)) r.0,
      r.1,
    )
