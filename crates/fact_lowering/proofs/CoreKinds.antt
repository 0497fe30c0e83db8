-- How values are lowered that have no members, or have them behind a pointer, and cases.
use Rattle.std.proofs.Common.{◌≡◌, ℕ, zero, suc, ◌+◌, ◌*◌, ◌-◌, ◌^◌, ◌<◌, ◌≤◌, List, [], ◌∷◌, ◌++◌, length, map, take, drop, Option, Some, None, refl, sym, ap, ◌∙◌, subst, arith}
use Rattle.std.specs.Prelude.{Bool, All, replicate}
use Rattle.std.specs.Char.{IsScalar}
use Rattle.std.specs.List.{AllByRecursion, AllZip}
use Rattle.std.proofs.lemmas.List.Elements.{All-head, All-tail}
use Rattle.fact_machine.specs.declared.types.CoreValue.{CoreValue}
use Rattle.fact_machine.specs.Typed.{IsValue}
use Rattle.fact_types.specs.declared.flats.FlatType.{FlatType}
use Rattle.fact_types.specs.declared.flats.FlatType.TheVariants.{I32}
use Rattle.fact_types.specs.declared.interface.InterfaceType.{InterfaceType}
use Rattle.fact_types.specs.declared.interface.InterfaceType.TheVariants as ty
use Rattle.fact_types.specs.declared.extents.MemoryWidth.{MemoryWidth}
use Rattle.fact_types.specs.declared.extents.MemoryWidth.TheVariants.{Memory32, Memory64}
use Rattle.fact_types.specs.Agrees.{names_of}
use Rattle.fact_types.specs.Flat.{join, value_type}
use Rattle.fact_types.specs.FlatShapes.{flat, flat_any, flat_plain, joined, pointer}
use Rattle.fact_types.specs.Layout.{flags_flat, flags_size}
use Rattle.fact_types.specs.Shapes.{Kind, k_variant, k_list, k_map, k_flags, k_enum, k_option, k_result, k_future, k_stream, Shape, s_plain, s_node, Members, no_members, bare, typed, plain_layout}
use Rattle.fact_types.specs.Tables.{Tables, HasShape}
use Rattle.fact_types.proofs.ShapeLaws.{none_some}
use Rattle.fact_values.specs.declared.side.SideAbi.{SideAbi}
use Rattle.fact_values.specs.declared.value.HandleKind.{HandleKind}
use Rattle.fact_values.specs.declared.value.HandleKind.TheVariants.{Future, Stream}
use Rattle.fact_values.specs.declared.value.Value.{Value, out-Value}
use Rattle.fact_values.specs.declared.value.Value.TheOpen.{Value-F}
use Rattle.fact_values.specs.declared.value.Value.TheOpen as o
use Rattle.fact_values.specs.declared.value.Value.TheVariants as value
use Rattle.fact_values.specs.IsA.{IsA, IsCase, IsFlags, IsHandle, IsPlainValue, HasCase}
use Rattle.fact_values.specs.Numbers.{text, plain_of, value_of_number}
use Rattle.fact_values.specs.Places.{Pair, count_of_members, width_of}
use Rattle.fact_values.proofs.FormedLaws.{formed}
use Rattle.fact_abi.specs.declared.nodes.NodeKind.{NodeKind}
use Rattle.fact_abi.specs.declared.nodes.NodeKind.TheVariants as is
use Rattle.fact_abi.specs.Nodes.{IsVariantKind, kind_of}
use Rattle.fact_values.specs.Opened.{flags_in, number_of_handle}
use Rattle.fact_abi.proofs.LeadingLaws.{bare_any, from_place}
use Rattle.fact_lowering.specs.CoreSteps.{IsHandleKind, IsLowerable}
use Rattle.fact_lowering.specs.Lowered.{AreWideFor, BeginWideFor, IsLowered, IsPut, LacksRoom, own_room}
use Rattle.fact_lowering.specs.Lowerings.{AreFlagWords, IsNumberOf, core_of, cores_of}
use Rattle.fact_lowering.specs.Room.{measured, text_in, where_there}
use Rattle.fact_lowering.specs.declared.places.Pair.{Pair as PointerPair}
use Rattle.fact_lowering.specs.Storings.{IsBehindPair, PutOr, pair_of}
use Rattle.fact_lowering.proofs.CoreNumbers.{AreBitsOf, IsBitsOf, cores_typed}
use Rattle.fact_lowering.proofs.CorePushes.{one_pushed}
use Rattle.fact_lowering.proofs.CoreReads.{flags_read, future_reads, list_reads, map_reads, number_flat, number_reads, stream_reads, text_reads, text_type}
use Rattle.fact_lowering.proofs.CoreWrites.{lowered_within, pushed_lowered, put_lowered}
use Rattle.fact_lowering.proofs.OwnRooms.{IsCaseKind}
use Rattle.fact_lowering.proofs.WideLaws.{first_of_flats, rest_of_flats, wide_begins}

-- ---- types without members

-- the number of a value fits its one flat type
bits_fit : (q : InterfaceType) (v : Value) (n : ℕ) → value_of_number (plain_of q) n ≡ Some v → n < 2 ^ 64 → ((plain_layout q).size32 ≤ 4 → n < 2 ^ 32) → IsBitsOf (number_flat q) n
bits_fit ty.Bool v n e h k = k (let le : (plain_layout ty.Bool).size32 ≤ 4 = omega arith in le)
bits_fit ty.S8 v n e h k = k (let le : (plain_layout ty.S8).size32 ≤ 4 = omega arith in le)
bits_fit ty.U8 v n e h k = k (let le : (plain_layout ty.U8).size32 ≤ 4 = omega arith in le)
bits_fit ty.S16 v n e h k = k (let le : (plain_layout ty.S16).size32 ≤ 4 = omega arith in le)
bits_fit ty.U16 v n e h k = k (let le : (plain_layout ty.U16).size32 ≤ 4 = omega arith in le)
bits_fit ty.S32 v n e h k = k (let le : (plain_layout ty.S32).size32 ≤ 4 = omega arith in le)
bits_fit ty.U32 v n e h k = k (let le : (plain_layout ty.U32).size32 ≤ 4 = omega arith in le)
bits_fit ty.Float32 v n e h k = k (let le : (plain_layout ty.Float32).size32 ≤ 4 = omega arith in le)
bits_fit ty.Char v n e h k = k (let le : (plain_layout ty.Char).size32 ≤ 4 = omega arith in le)
bits_fit ty.S64 v n e h k = h
bits_fit ty.U64 v n e h k = h
bits_fit ty.Float64 v n e h k = h
bits_fit (ty.Own i) v n e h k = k (let le : (plain_layout (ty.Own i)).size32 ≤ 4 = omega arith in le)
bits_fit (ty.Borrow i) v n e h k = k (let le : (plain_layout (ty.Borrow i)).size32 ≤ 4 = omega arith in le)
bits_fit (ty.ErrorContext i) v n e h k = k (let le : (plain_layout (ty.ErrorContext i)).size32 ≤ 4 = omega arith in le)
bits_fit _ v n e h k = absurd (none_some None v refl e)

one_flat : (w : MemoryWidth) (q : InterfaceType) (v : Value) (n : ℕ) → value_of_number (plain_of q) n ≡ Some v → flat_plain w q ≡ number_flat q ∷ []
one_flat w ty.Bool v n e = refl
one_flat w ty.S8 v n e = refl
one_flat w ty.U8 v n e = refl
one_flat w ty.S16 v n e = refl
one_flat w ty.U16 v n e = refl
one_flat w ty.S32 v n e = refl
one_flat w ty.U32 v n e = refl
one_flat w ty.S64 v n e = refl
one_flat w ty.U64 v n e = refl
one_flat w ty.Float32 v n e = refl
one_flat w ty.Float64 v n e = refl
one_flat w ty.Char v n e = refl
one_flat w (ty.Own i) v n e = refl
one_flat w (ty.Borrow i) v n e = refl
one_flat w (ty.ErrorContext i) v n e = refl
one_flat w _ v n e = absurd (none_some None v refl e)

module _ (t : Tables) (side : SideAbi) (q : InterfaceType) (v : Value) (slots : List FlatType) (cursor : ℕ) (bytes : List ℕ) (out out' : List CoreValue) (l : IsLowerable t side q v slots cursor bytes) (plain : (s : Shape) → HasShape t q s → s ≡ s_plain q) where
  wide_plain : AreWideFor (flat_plain (width_of side) q) slots
  wide_plain = subst (λ s. AreWideFor (flat (width_of side) s) slots) (plain l.shape l.shaped) l.wide

  pub plain_is : IsPlainValue (plain_of q) (out-Value v)
  unfolding IsA
  plain_is = subst (λ s. IsA s v) (plain l.shape l.shaped) l.is

  pub number_room : (n : ℕ) → IsNumberOf q v n → 1 ≤ length slots
  number_room n is = omega (arith, wide_plain.0, ap length (one_flat (width_of side) q v n is.whole))

  pub number_lowered : (n : ℕ) → IsNumberOf q v n → out' ≡ out ++ cores_of slots (n ∷ []) → (s : Shape) → HasShape t q s → IsLowered side s v slots cursor cursor bytes bytes out out'
  number_lowered n is pushed s h =
      let fits = bits_fit q v n is.whole is.small is.half in
      let wide = subst (λ fs. AreWideFor fs slots) (one_flat (width_of side) q v n is.whole) wide_plain in
      let le : 0 ≤ own_room side (s_plain q) v = omega arith in
      subst (λ s. IsLowered side s v slots cursor cursor bytes bytes out out') (sym (plain s h))
      (lowered_within le (pushed_lowered (cores_of slots (n ∷ [])) slots pushed (cores_typed (number_flat q ∷ []) slots (n ∷ []) wide (fits, tt))
      (λ other. number_reads side q v n slots other (wide_begins (flat_plain (width_of side) q) slots wide_plain) fits is.whole) l.can.inside))

-- a value of a type of texts is a text
text_form : (w : Value-F Value) → IsPlainValue text w → text_in w ≡ None → ⊥
text_form (o.Str cs) h e = none_some (Some cs) cs e refl
text_form _ h e = h

pub no_text : (q : InterfaceType) (v : Value) → IsPlainValue (plain_of q) (out-Value v) → plain_of q ≡ text → text_in (out-Value v) ≡ None → ⊥
no_text q v h e none = text_form (out-Value v) (subst (λ p. IsPlainValue p (out-Value v)) e h) none

-- ---- what stands behind a pointer

pointer_fits : (w : MemoryWidth) (n : ℕ) → n < 2 ^ 32 → IsBitsOf (pointer w) n
pointer_fits Memory32 n h = h
pointer_fits Memory64 n h = omega (arith, h)

pair_typed : (side : SideAbi) (p : Pair) (slots : List FlatType) → AreWideFor (pointer (width_of side) ∷ pointer (width_of side) ∷ []) slots → p.pointer < 2 ^ 32 → p.count < 2 ^ 32 → AllZip (λ c t. IsValue c t) (cores_of slots (p.pointer ∷ p.count ∷ [])) (map value_type slots)
pair_typed side p slots w h k = cores_typed (pointer (width_of side) ∷ pointer (width_of side) ∷ []) slots (p.pointer ∷ p.count ∷ []) w (pointer_fits (width_of side) p.pointer h, (pointer_fits (width_of side) p.count k, tt))

-- the two slots of a text
pub text_wide : (t : Tables) (side : SideAbi) (q : InterfaceType) (cs : List ℕ) (slots : List FlatType) (cursor : ℕ) (bytes : List ℕ) → IsLowerable t side q (value.Str cs) slots cursor bytes → ((s : Shape) → HasShape t q s → s ≡ s_plain q)
    → (q ≡ ty.String) × AreWideFor (pointer (width_of side) ∷ pointer (width_of side) ∷ []) slots
text_wide t side q cs slots cursor bytes l plain =
    let is : q ≡ ty.String = text_type q cs (subst (IsPlainValue (plain_of q)) (value.outs-Str cs) (plain_is t side q (value.Str cs) slots cursor bytes [] [] l plain)) in
    (is, subst (λ q. AreWideFor (flat_plain (width_of side) q) slots) is (wide_plain t side q (value.Str cs) slots cursor bytes [] [] l plain))

-- a text has scalar values
pub text_scalars : (t : Tables) (side : SideAbi) (q : InterfaceType) (cs : List ℕ) (slots : List FlatType) (cursor : ℕ) (bytes : List ℕ) → IsLowerable t side q (value.Str cs) slots cursor bytes → ((s : Shape) → HasShape t q s → s ≡ s_plain q) → AllByRecursion IsScalar cs
text_scalars t side q cs slots cursor bytes l plain =
    subst (IsPlainValue text) (value.outs-Str cs) (subst (λ q. IsPlainValue (plain_of q) (out-Value (value.Str cs))) (text_wide t side q cs slots cursor bytes l plain).0 (plain_is t side q (value.Str cs) slots cursor bytes [] [] l plain))

module _ (t : Tables) (side : SideAbi) (q : InterfaceType) (cs : List ℕ) (slots : List FlatType) (low : ℕ) (before : List ℕ) (l : IsLowerable t side q (value.Str cs) slots low before) (plain : (s : Shape) → HasShape t q s → s ≡ s_plain q) where
  text_shape : (s : Shape) → HasShape t q s → s ≡ s_plain ty.String
  text_shape s h = plain s h ∙ ap s_plain (text_wide t side q cs slots low before l plain).0

  pub text_lowered : (p : Pair) (high : ℕ) (after : List ℕ) (out out' : List CoreValue) → IsPut side (s_plain ty.String) (value.Str cs) p low high before after → out' ≡ out ++ cores_of slots (p.pointer ∷ p.count ∷ [])
      → (s : Shape) → HasShape t q s → IsLowered side s (value.Str cs) slots low high before after out out'
  text_lowered p high after out out' put pushed s h =
      let wide = (text_wide t side q cs slots low before l plain).1 in
      subst (λ s. IsLowered side s (value.Str cs) slots low high before after out out') (sym (text_shape s h))
      (put_lowered (cores_of slots (p.pointer ∷ p.count ∷ [])) slots put pushed (pair_typed side p slots wide put.pointer_small put.count_small)
      (λ other r. text_reads side (value.Str cs) p slots other (wide_begins (pointer (width_of side) ∷ pointer (width_of side) ∷ []) slots wide) (pointer_fits (width_of side) p.pointer put.pointer_small) (pointer_fits (width_of side) p.count put.count_small) r))

  pub text_lacks : LacksRoom low (8 + 16 * length cs) before → (s : Shape) → HasShape t q s → LacksRoom low (own_room side s (value.Str cs)) before
  unfolding measured
  text_lacks lacks s h =
      let room : own_room side (s_plain ty.String) (value.Str cs) ≡ 8 + 16 * length cs = ap (λ w. where_there (text_in w) (λ cs. 8 + 16 * length cs)) (value.outs-Str cs) in
      subst (λ s. LacksRoom low (own_room side s (value.Str cs)) before) (sym (text_shape s h)) (subst (λ n. LacksRoom low n before) (sym room) lacks)

-- a list or a map
pub behind_wide : (side : SideAbi) (k : Kind) (ms : Members) (slots : List FlatType) → IsBehindPair k → AreWideFor (flat (width_of side) (s_node k ms)) slots → AreWideFor (pointer (width_of side) ∷ pointer (width_of side) ∷ []) slots
behind_wide side k_list ms slots b w = w
behind_wide side k_map ms slots b w = w
behind_wide side _ ms slots b w = absurd b

pub behind_lowered : (side : SideAbi) (k : Kind) (ms : Members) (v : Value) (p : Pair) (slots : List FlatType) (low high : ℕ) (before after : List ℕ) (out out' : List CoreValue) → IsBehindPair k → AreWideFor (flat (width_of side) (s_node k ms)) slots → IsPut side (s_node k ms) v p low high before after
    → out' ≡ out ++ cores_of slots (p.pointer ∷ p.count ∷ []) → IsLowered side (s_node k ms) v slots low high before after out out'
behind_lowered side k_list ms v p slots low high before after out out' b w put pushed =
    put_lowered (cores_of slots (p.pointer ∷ p.count ∷ [])) slots put pushed (pair_typed side p slots w put.pointer_small put.count_small)
    (λ other r. list_reads side ms v p slots other (wide_begins (pointer (width_of side) ∷ pointer (width_of side) ∷ []) slots w) (pointer_fits (width_of side) p.pointer put.pointer_small) (pointer_fits (width_of side) p.count put.count_small) r)
behind_lowered side k_map ms v p slots low high before after out out' b w put pushed =
    put_lowered (cores_of slots (p.pointer ∷ p.count ∷ [])) slots put pushed (pair_typed side p slots w put.pointer_small put.count_small)
    (λ other r. map_reads side ms v p slots other (wide_begins (pointer (width_of side) ∷ pointer (width_of side) ∷ []) slots w) (pointer_fits (width_of side) p.pointer put.pointer_small) (pointer_fits (width_of side) p.count put.count_small) r)
behind_lowered side _ ms v p slots low high before after out out' b w put pushed = absurd b

-- ---- flags and handles

flags_many : (side : SideAbi) (ms : Members) (flags : List (List ℕ × Bool)) (words : List ℕ) → map (λ f. f.0) flags ≡ names_of ms → AreFlagWords flags words → length words ≡ length (flat (width_of side) (s_node k_flags ms))
flags_many side ms flags words named are = are.0 ∙ ap (λ n. flags_flat (flags_size n)) (sym (length_mapped flags) ∙ ap length named ∙ count_names ms) ∙ sym (length_same (flags_flat (flags_size (count_of_members ms))))
  where
    length_mapped : (fs : List (List ℕ × Bool)) → length (map (λ f. f.0) fs) ≡ length fs
    length_mapped [] = refl
    length_mapped (f ∷ fs) = ap suc (length_mapped fs)

    count_names : (ms : Members) → length (names_of ms) ≡ count_of_members ms
    count_names no_members = refl
    count_names (bare n ms) = ap suc (count_names ms)
    count_names (typed n s ms) = ap suc (count_names ms)

    length_same : (n : ℕ) → length (replicate n I32) ≡ n
    length_same zero = refl
    length_same (suc n) = ap suc (length_same n)

words_fit : (n : ℕ) (ws : List ℕ) → length ws ≡ length (replicate n I32) → All (λ w. w < 2 ^ 32) ws → AreBitsOf (replicate n I32) ws
words_fit zero [] e a = tt
words_fit zero (w ∷ ws) e a = absurd (omega (arith, e))
words_fit (suc n) [] e a = absurd (omega (arith, e))
words_fit (suc n) (w ∷ ws) e a = (All-head (λ w. w < 2 ^ 32) w ws a, words_fit n ws (omega (arith, e)) (All-tail (λ w. w < 2 ^ 32) w ws a))

pub flags_lowered : (side : SideAbi) (ms : Members) (flags : List (List ℕ × Bool)) (words : List ℕ) (slots : List FlatType) (cursor : ℕ) (bytes : List ℕ) (out out' : List CoreValue) → IsA (s_node k_flags ms) (value.Flags flags) → AreFlagWords flags words → AreWideFor (flat (width_of side) (s_node k_flags ms)) slots
    → cursor ≤ length bytes → out' ≡ out ++ cores_of slots words → IsLowered side (s_node k_flags ms) (value.Flags flags) slots cursor cursor bytes bytes out out'
unfolding IsA
flags_lowered side ms flags words slots cursor bytes out out' is are wide inside pushed =
    let named = subst (IsFlags ms) (value.outs-Flags flags) is in
    let many = flags_many side ms flags words named are in
    let le : 0 ≤ own_room side (s_node k_flags ms) (value.Flags flags) = omega arith in
    lowered_within le (pushed_lowered (cores_of slots words) slots pushed (cores_typed (flat (width_of side) (s_node k_flags ms)) slots words wide (words_fit (flags_flat (flags_size (count_of_members ms))) words many are.1))
    (λ other. flags_read side ms flags words slots other named are (wide_begins (flat (width_of side) (s_node k_flags ms)) slots wide)) inside)

pub flags_room : (side : SideAbi) (ms : Members) (flags : List (List ℕ × Bool)) (words : List ℕ) (slots : List FlatType) → IsA (s_node k_flags ms) (value.Flags flags) → AreFlagWords flags words → AreWideFor (flat (width_of side) (s_node k_flags ms)) slots → length words ≤ length slots
unfolding IsA
flags_room side ms flags words slots is are wide = omega (arith, flags_many side ms flags words (subst (IsFlags ms) (value.outs-Flags flags) is) are, wide.0)

-- the kinds of handles
abbrev pub IsHandles : Kind → Type 0
IsHandles (k_future table instance) = Unit {0}
IsHandles (k_stream table instance) = Unit {0}
IsHandles _ = ⊥

pub handle_room : (side : SideAbi) (k : Kind) (ms : Members) (slots : List FlatType) → IsHandles k → AreWideFor (flat (width_of side) (s_node k ms)) slots → 1 ≤ length slots
handle_room side (k_future table instance) ms slots b w = omega (arith, w.0)
handle_room side (k_stream table instance) ms slots b w = omega (arith, w.0)
handle_room side _ ms slots b w = absurd b

same_handle : (kind : HandleKind) (table : ℕ) (k : HandleKind) (t n : ℕ) → IsHandle kind table (out-Value (value.Handle k t n)) → (k ≡ kind) × (t ≡ table) × (n < 2 ^ 32)
same_handle kind table k t n h = subst (IsHandle kind table) (value.outs-Handle k t n) h

handle_form : (kind : HandleKind) (table : ℕ) (w : Value-F Value) → IsHandle kind table w → number_of_handle w ≡ None → ⊥
handle_form kind table (o.Handle k t n) h e = none_some (Some n) n e refl
handle_form kind table _ h e = h

pub no_handles : (k : Kind) (ms : Members) (v : Value) → IsHandles k → IsA (s_node k ms) v → number_of_handle (out-Value v) ≡ None → ⊥
unfolding IsA
no_handles (k_future table instance) ms v b h none = handle_form Future table (out-Value v) h none
no_handles (k_stream table instance) ms v b h none = handle_form Stream table (out-Value v) h none
no_handles _ ms v b h none = b

flags_form : (ms : Members) (w : Value-F Value) → IsFlags ms w → flags_in w ≡ None → ⊥
flags_form ms (o.Flags fs) h e = none_some (Some fs) fs e refl
flags_form ms _ h e = h

pub no_flags : (ms : Members) (v : Value) → IsA (s_node k_flags ms) v → flags_in (out-Value v) ≡ None → ⊥
unfolding IsA
no_flags ms v h none = flags_form ms (out-Value v) h none

pub handle_lowered : (side : SideAbi) (k : Kind) (ms : Members) (kind : HandleKind) (table n : ℕ) (slots : List FlatType) (cursor : ℕ) (bytes : List ℕ) (out out' : List CoreValue) → IsHandles k → IsA (s_node k ms) (value.Handle kind table n) → AreWideFor (flat (width_of side) (s_node k ms)) slots
    → cursor ≤ length bytes → out' ≡ out ++ cores_of slots (n ∷ []) → IsLowered side (s_node k ms) (value.Handle kind table n) slots cursor cursor bytes bytes out out'
unfolding IsA
handle_lowered side (k_future own instance) ms kind table n slots cursor bytes out out' b is wide inside pushed =
    let same = same_handle Future own kind table n is in
    let le : 0 ≤ own_room side (s_node (k_future own instance) ms) (value.Handle Future own n) = omega arith in
    subst (λ w. IsLowered side (s_node (k_future own instance) ms) w slots cursor cursor bytes bytes out out') (λ i. value.Handle (sym same.0 i) (sym same.1 i) n)
    (lowered_within le (pushed_lowered (cores_of slots (n ∷ [])) slots pushed (cores_typed (I32 ∷ []) slots (n ∷ []) wide (same.2, tt)) (λ other. future_reads side ms own instance n slots other (wide_begins (I32 ∷ []) slots wide) same.2) inside))
handle_lowered side (k_stream own instance) ms kind table n slots cursor bytes out out' b is wide inside pushed =
    let same = same_handle Stream own kind table n is in
    let le : 0 ≤ own_room side (s_node (k_stream own instance) ms) (value.Handle Stream own n) = omega arith in
    subst (λ w. IsLowered side (s_node (k_stream own instance) ms) w slots cursor cursor bytes bytes out out') (λ i. value.Handle (sym same.0 i) (sym same.1 i) n)
    (lowered_within le (pushed_lowered (cores_of slots (n ∷ [])) slots pushed (cores_typed (I32 ∷ []) slots (n ∷ []) wide (same.2, tt)) (λ other. stream_reads side ms own instance n slots other (wide_begins (I32 ∷ []) slots wide) same.2) inside))
handle_lowered side _ ms kind table n slots cursor bytes out out' b is wide inside pushed = absurd b

-- ---- the slots of a case

pub case_value : (k : Kind) (ms : Members) (v : Value) → IsCaseKind k → IsA (s_node k ms) v → IsCase (λ x vs. HasCase ms x vs) (out-Value v)
unfolding IsA
case_value k_variant ms v c h = h
case_value k_enum ms v c h = h
case_value k_option ms v c h = h
case_value k_result ms v c h = h
case_value _ ms v c h = absurd c

pub case_is : (k : Kind) (ms : Members) (x : List ℕ) (vs : List Value) → IsCaseKind k → IsA (s_node k ms) (value.Case x vs) → HasCase ms x vs
case_is k ms x vs c h = subst (IsCase (λ x vs. HasCase ms x vs)) (value.outs-Case x vs) (case_value k ms (value.Case x vs) c h)

-- A discriminant, and the slots of all payloads joined.
pub record CaseSlots (side : SideAbi) (ms : Members) (slots : List FlatType) : Type 0 where
  pub slot : FlatType
  pub rest : List FlatType
  pub are : slots ≡ slot ∷ rest
  pub wide : join I32 slot ≡ slot
  pub rest_wide : BeginWideFor (flat_any (width_of side) ms) rest

slots_of : (side : SideAbi) (ms : Members) (slots : List FlatType) → AreWideFor (I32 ∷ flat_any (width_of side) ms) slots → CaseSlots side ms slots
slots_of side ms [] w = absurd (omega (arith, w.0))
slots_of side ms (f ∷ fs) w = record {
  slot = f;
  rest = fs;
  are = refl;
  wide = first_of_flats (join I32 f) f (joined (flat_any (width_of side) ms) fs) fs w.1;
  rest_wide = (omega (arith, w.0), rest_of_flats (join I32 f) f (joined (flat_any (width_of side) ms) fs) fs w.1);
}

pub case_slots : (t : Tables) (q : InterfaceType) (side : SideAbi) (k : Kind) (ms : Members) (slots : List FlatType) → IsCaseKind k → HasShape t q (s_node k ms) → AreWideFor (flat (width_of side) (s_node k ms)) slots → CaseSlots side ms slots
case_slots t q side k_variant ms slots c h w = slots_of side ms slots w
case_slots t q side k_option ms slots c h w = slots_of side ms slots w
case_slots t q side k_result ms slots c h w = slots_of side ms slots w
case_slots t q side k_enum ms slots c h w = slots_of side ms slots (subst (λ fs. AreWideFor (I32 ∷ fs) slots) (sym (bare_any (width_of side) ms (formed t q (s_node k_enum ms) h).0)) w)
case_slots t q side _ ms slots c h w = absurd c

pub variant_kind : (k : NodeKind) → IsVariantKind k → IsCaseKind (kind_of k)
variant_kind is.Variant h = tt
variant_kind is.Enum h = tt
variant_kind is.Option h = tt
variant_kind is.Result h = tt
variant_kind _ h = absurd h

pub handle_kind : (k : NodeKind) → IsHandleKind k → IsHandles (kind_of k)
handle_kind (is.Future table instance) h = tt
handle_kind (is.Stream table instance) h = tt
handle_kind _ h = absurd h

-- the discriminant in the first slot
pub case_told : {side : SideAbi} {ms : Members} {slots : List FlatType} (c : CaseSlots side ms slots) (n : ℕ) (out out' : List CoreValue) → out' ≡ out ++ cores_of slots (n ∷ []) → out' ≡ out ++ core_of c.slot n ∷ []
case_told {side} {ms} {slots} c n out out' e = e ∙ ap (λ l. out ++ l) (one_pushed slots c.rest c.slot n c.are)

-- the slots behind it
pub case_rest : {side : SideAbi} {ms : Members} {slots : List FlatType} (c : CaseSlots side ms slots) → take (length slots - 1) (drop 1 slots) ≡ c.rest
case_rest {side} {ms} {slots} c = from_place 1 slots ∙ ap (drop 1) c.are

-- what was put, and that there was less room
pub put_there : (o : Option PointerPair) (p : PointerPair) (Put : Pair → Type 0) (Lacks : Type 0) → o ≡ Some p → PutOr o Put Lacks → Put (pair_of p)
put_there o p Put Lacks e h = subst (λ o. PutOr o Put Lacks) e h

pub put_lacks : (o : Option PointerPair) (Put : Pair → Type 0) (Lacks : Type 0) → o ≡ None → PutOr o Put Lacks → Lacks
put_lacks o Put Lacks e h = subst (λ o. PutOr o Put Lacks) e h
