-- How the functions that store values come to what they say.
use Rattle.std.proofs.Common.{◌≡◌, ℕ, zero, suc, ◌+◌, ◌*◌, ◌%◌, ◌^◌, ◌≤◌, ◌<◌, max, Bool, true, false, List, [], ◌∷◌, length, map, Option, Some, None, refl, sym, ap, ◌∙◌, subst, arith}
use Rattle.std.specs.Prelude.{slice_get, sum_by}
use Rattle.std.specs.List.{AllByRecursion}
use Rattle.fact_types.specs.declared.interface.InterfaceType.{InterfaceType}
use Rattle.fact_types.specs.declared.interface.InterfaceType.TheVariants as ty
use Rattle.fact_types.specs.declared.extents.MemoryWidth.{MemoryWidth}
use Rattle.fact_types.specs.declared.extents.MemoryWidth.TheVariants.{Memory32, Memory64}
use Rattle.fact_types.specs.Agrees.{chosen}
use Rattle.fact_types.specs.Heights.{height, IsMemberOf}
use Rattle.fact_types.specs.Layout.{extent}
use Rattle.fact_types.specs.Shapes.{Kind, k_record, k_variant, k_list, k_tuple, k_map, k_flags, k_enum, k_option, k_result, k_fixed, k_future, k_stream, Shape, s_plain, s_node, Members, layout_of}
use Rattle.fact_types.specs.Tables.{Tables, IsLive, HasShape}
use Rattle.fact_types.proofs.ShapeLaws.{same_some, none_some, one_shape}
use Rattle.fact_abi.specs.Nodes.{AreLower}
use Rattle.fact_types.specs.Signatures.{pointer_bytes}
use Rattle.fact_values.specs.declared.side.SideAbi.{SideAbi}
use Rattle.fact_values.specs.declared.value.Value.{Value, out-Value}
use Rattle.fact_values.specs.declared.value.Value.TheVariants as value
use Rattle.fact_values.specs.IsA.{IsA}
use Rattle.fact_values.specs.Numbers.{Plain, text, plain_of, number_in}
use Rattle.fact_values.specs.Places.{width_of, extent_on, Pair, pair_at}
use Rattle.fact_lowering.specs.Lowered.{CanStore, IsPut, IsStored, IsWritten, LacksRoom, ReadsAt, ReadsBehind, own_room}
use Rattle.fact_lowering.specs.Storings.{AreLiveMembers, HasSpace, IsBehindPair, IsStorable, height_over}
use Rattle.fact_lowering.proofs.Agreeing.{written_also, written_both, written_elsewhere, written_wider}
use Rattle.fact_lowering.proofs.Stored.{reads_list, reads_map, reads_text}

-- ---- answers

pub chosen_also : {P P' Q Q' : Type 0} (b : Bool) → (P → P') → (Q → Q') → chosen b P Q → chosen b P' Q'
chosen_also true f g h = f h
chosen_also false f g h = g h

pub chosen_true : (P Q : Type 0) (b : Bool) → b ≡ true → chosen b P Q → P
chosen_true P Q b e h = subst (λ b. chosen b P Q) e h

pub chosen_false : (P Q : Type 0) (b : Bool) → b ≡ false → chosen b P Q → Q
chosen_false P Q b e h = subst (λ b. chosen b P Q) e h

-- ---- heights

pub member_below : (t : Tables) (types : List (Option InterfaceType)) (i : ℕ) (y : InterfaceType) → slice_get types i ≡ Some (Some y) → height t y < height_over t types
member_below t [] i y e = absurd (none_some None (Some y) refl e)
member_below t (None ∷ xs) zero y e = absurd (none_some None y refl (same_some (Some None) None (Some y) refl e))
member_below t (None ∷ xs) (suc i) y e = member_below t xs i y e
member_below t (Some z ∷ xs) zero y e = let q : z ≡ y = same_some (Some z) z y refl (same_some (Some (Some z)) (Some z) (Some y) refl e) in omega (arith, ap (height t) q)
member_below t (Some z ∷ xs) (suc i) y e = omega (arith, member_below t xs i y e)

pub all_below : (t : Tables) (owner : InterfaceType) (types : List (Option InterfaceType)) → AreLower t owner types → height_over t types ≤ height t owner
all_below t owner types w = go types w.each
  where
    go : (xs : List (Option InterfaceType)) → ((i : ℕ) (m : InterfaceType) → slice_get xs i ≡ Some (Some m) → IsMemberOf t m owner) → height_over t xs ≤ height t owner
    go [] f = omega arith
    go (None ∷ xs) f = go xs (λ i m e. f (suc i) m e)
    go (Some y ∷ xs) f = omega (arith, (f 0 y refl).lower, go xs (λ i m e. f (suc i) m e))

pub all_live : (t : Tables) (owner : InterfaceType) (types : List (Option InterfaceType)) → AreLower t owner types → AreLiveMembers t types
all_live t owner types w = record { each = λ i y e. (w.each i y e).live }

-- ---- a type has one shape

pub of_shape : (t : Tables) (y : InterfaceType) (s : Shape) (P : Shape → Type 0) → HasShape t y s → P s → (z : Shape) → HasShape t y z → P z
of_shape t y s P h p z k = subst P (one_shape t s z y h k) p

-- ---- behind a pointer and a length

-- types whose values stand behind a pointer and a length
abbrev pub IsBehind : Shape → Type 0
IsBehind (s_plain p) = p ≡ ty.String
IsBehind (s_node k ms) = IsBehindPair k

reads_behind : (side : SideAbi) (b : List ℕ) (s : Shape) (a : ℕ) (p : Pair) (v : Value) → IsBehind s → pair_at side b a ≡ Some p → ReadsBehind side s v p b → ReadsAt side s v a b
reads_behind side b (s_plain q) a p v h e r = reads_text side b q q a p v (ap plain_of h) e r
reads_behind side b (s_node k_list ms) a p v h e r = reads_list side b ms a p v e r
reads_behind side b (s_node k_map ms) a p v h e r = reads_map side b ms a p v e r
reads_behind side b (s_node k_record ms) a p v h e r = absurd h
reads_behind side b (s_node k_variant ms) a p v h e r = absurd h
reads_behind side b (s_node k_tuple ms) a p v h e r = absurd h
reads_behind side b (s_node k_flags ms) a p v h e r = absurd h
reads_behind side b (s_node k_enum ms) a p v h e r = absurd h
reads_behind side b (s_node k_option ms) a p v h e r = absurd h
reads_behind side b (s_node k_result ms) a p v h e r = absurd h
reads_behind side b (s_node (k_fixed n) ms) a p v h e r = absurd h
reads_behind side b (s_node (k_future table instance) ms) a p v h e r = absurd h
reads_behind side b (s_node (k_stream table instance) ms) a p v h e r = absurd h

pub behind_size : (side : SideAbi) (s : Shape) → IsBehind s → (extent_on side s).size ≡ pointer_bytes (width_of side) + pointer_bytes (width_of side)
behind_size side s h = go (width_of side) s h
  where
    pairs : (w : MemoryWidth) → (extent w (layout_of (s_plain ty.String))).size ≡ pointer_bytes w + pointer_bytes w
    pairs Memory32 = refl
    pairs Memory64 = refl

    go : (w : MemoryWidth) (s : Shape) → IsBehind s → (extent w (layout_of s)).size ≡ pointer_bytes w + pointer_bytes w
    go w (s_plain p) h = ap (λ p. (extent w (layout_of (s_plain p))).size) h ∙ pairs w
    go w (s_node k_list ms) h = pairs w
    go w (s_node k_map ms) h = pairs w
    go w (s_node k_record ms) h = absurd h
    go w (s_node k_variant ms) h = absurd h
    go w (s_node k_tuple ms) h = absurd h
    go w (s_node k_flags ms) h = absurd h
    go w (s_node k_enum ms) h = absurd h
    go w (s_node k_option ms) h = absurd h
    go w (s_node k_result ms) h = absurd h
    go w (s_node (k_fixed n) ms) h = absurd h
    go w (s_node (k_future table instance) ms) h = absurd h
    go w (s_node (k_stream table instance) ms) h = absurd h

-- a pointer and a length that were put at a place before what they point to
pub pair_stored : (side : SideAbi) (s : Shape) (v : Value) (p : Pair) (a low high : ℕ) (m m' m'' : List ℕ) → IsBehind s → a + (extent_on side s).size ≤ low → IsPut side s v p low high m m'
    → IsWritten (λ b. pair_at side b a ≡ Some p) a (pointer_bytes (width_of side) + pointer_bytes (width_of side)) high high 0 m' m'' → IsStored side s v a low high m m''
pair_stored side s v p a low high m m' m'' behind le put w =
    let size = behind_size side s behind in
    written_wider a (extent_on side s).size (own_room side s v) (omega arith) (omega arith) (omega arith)
    (written_also (written_both a (extent_on side s).size (omega arith) (omega arith) (omega (arith, size)) (omega (arith, le, size)) (written_elsewhere a put.written) w)
    (λ b l r. reads_behind side b s a p v behind r.1 r.0))

-- ---- items that are there, or not

pub past_none : {X : Type 0} (xs : List X) (i : ℕ) → length xs ≤ i → slice_get xs i ≡ None
past_none [] i le = refl
past_none (x ∷ xs) zero le = absurd (omega (arith, le))
past_none (x ∷ xs) (suc i) le = past_none xs i (omega (arith, le))
