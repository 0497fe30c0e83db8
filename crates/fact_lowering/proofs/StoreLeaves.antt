-- What the functions that store pointers, flags and handles come to.
use Rattle.std.proofs.Common.{◌≡◌, ℕ, zero, suc, ◌+◌, ◌%◌, ◌^◌, ◌≤◌, ◌<◌, Bool, List, [], ◌∷◌, length, map, take, drop, Option, Some, None, refl, sym, ap, ◌∙◌, subst, arith}
use Rattle.std.specs.Prelude.{Result, Ok, Err, OnOk, IsNone, IfSome}
use Rattle.std.proofs.lemmas.List.{take_all}
use Rattle.fact_types.specs.Agrees.{names_of}
use Rattle.fact_types.specs.declared.outside.StringEncoding.{StringEncoding}
use Rattle.fact_types.specs.declared.outside.StringEncoding.TheVariants as of_side
use Rattle.fact_types.specs.Layout.{aligned, flags_extent, flags_size}
use Rattle.fact_types.proofs.AlignLaws.{aligned_bounds, aligned_multiple}
use Rattle.fact_types.specs.Shapes.{k_flags, s_node, Members, no_members, bare, typed}
use Rattle.fact_machine.specs.World.{number_of, number_at, put_at, with_number}
use Rattle.fact_abi.proofs.BelongLaws.{length_mapped}
use Rattle.fact_types.specs.Signatures.{pointer_bytes}
use Rattle.fact_values.specs.declared.side.SideAbi.{SideAbi}
use Rattle.fact_values.specs.declared.value.HandleKind.{HandleKind}
use Rattle.fact_values.specs.declared.value.Value.{Value, out-Value}
use Rattle.fact_values.specs.declared.value.Value.TheVariants as value
use Rattle.fact_values.specs.IsA.{IsFlags, IsHandle}
use Rattle.fact_values.specs.Numbers.{number_in, flags_of_number}
use Rattle.fact_values.specs.Places.{Pair, pair_at, width_of, extent_on, flags_bytes, count_of_members}
use Rattle.fact_lowering.specs.Lowered.{CanStore, IsStored, IsWritten, ReadsAt, own_room}
use Rattle.fact_lowering.specs.Lowerings.{AreFlagBytes}
use Rattle.fact_lowering.specs.Storings.{HasSpace, text_align}
use Rattle.fact_lowering.proofs.Agreeing.{bytes_written, number_within, number_written, written_also, written_wider}
use Rattle.fact_lowering.proofs.Stored.{pair_written, reads_flags}
use Rattle.fact_lowering.proofs.StoreNodes.{flags_size_is}

pub on_ok : {A E : Type 0} {P Q : Type 0} (r : Result A E) → (P → Q) → OnOk r P → OnOk r Q
on_ok (Ok a) f h = f h
on_ok (Err e) f h = tt

-- a pointer and a length, one behind the other
pub pair_put : (side : SideAbi) (m m' m'' : List ℕ) (a p n low size : ℕ) → size ≡ pointer_bytes (width_of side) → HasSpace (pointer_bytes (width_of side) + pointer_bytes (width_of side)) a low m → p < 2 ^ 32 → n < 2 ^ 32
    → m' ≡ with_number size m a p → m'' ≡ with_number size m' (a + size) n
    → IsWritten (λ b. pair_at side b a ≡ Some (record { pointer = p; count = n })) a (pointer_bytes (width_of side) + pointer_bytes (width_of side)) low low 0 m m''
pair_put side m m' m'' a p n low size is room lp ln first second =
    let k : ℕ = pointer_bytes (width_of side) in
    let all : m'' ≡ with_number k (with_number k m a p) (a + k) n = second ∙ (λ i. with_number (is i) (first i) (a + is i) n) ∙ ap (λ z. with_number k (with_number z m a p) (a + k) n) is in
    subst (λ l. IsWritten (λ b. pair_at side b a ≡ Some (record { pointer = p; count = n })) a (k + k) low low 0 m l) (sym all) (pair_written side m a p n low room.below room.can.inside lp ln)

-- ---- flags

flags_is : (ms : Members) (v : Value) (fs : List (List ℕ × Bool)) → v ≡ value.Flags fs → IsFlags ms (out-Value v) → map (λ f. f.0) fs ≡ names_of ms
flags_is ms v fs e h = subst (IsFlags ms) (ap out-Value e ∙ value.outs-Flags fs) h

names_count : (ms : Members) → length (names_of ms) ≡ count_of_members ms
names_count no_members = refl
names_count (bare n ms) = ap suc (names_count ms)
names_count (typed n s ms) = ap suc (names_count ms)

flags_long : (ms : Members) (v : Value) (fs : List (List ℕ × Bool)) (bs : List ℕ) → v ≡ value.Flags fs → IsFlags ms (out-Value v) → AreFlagBytes fs bs → length bs ≡ flags_bytes ms
flags_long ms v fs bs e h f = f.0 ∙ ap (λ n. (flags_extent (flags_size n)).size) (sym (length_mapped (λ f. f.0) fs) ∙ ap length (flags_is ms v fs e h) ∙ names_count ms)

pub flags_fit : (v : Value) (fs : List (List ℕ × Bool)) (bs : List ℕ) (a low : ℕ) (m : List ℕ) → v ≡ value.Flags fs → AreFlagBytes fs bs → ((ms : Members) × IsFlags ms (out-Value v) × HasSpace (flags_bytes ms) a low m) → a + length bs ≤ length m
flags_fit v fs bs a low m e f (ms, h, room) = omega (arith, flags_long ms v fs bs e h f, room.below, room.can.inside)

pub flags_stored : (side : SideAbi) (v : Value) (fs : List (List ℕ × Bool)) (bs : List ℕ) (a low high : ℕ) (m m' : List ℕ) → v ≡ value.Flags fs → AreFlagBytes fs bs → ((ms : Members) × IsFlags ms (out-Value v) × HasSpace (flags_bytes ms) a low m) → m' ≡ put_at m a bs → high ≡ low
    → (ms : Members) → IsFlags ms (out-Value v) → IsStored side (s_node k_flags ms) v a low high m m'
flags_stored side v fs bs a low high m m' e f (ns, k, room) put same ms h =
    let fits : a + length bs ≤ low = omega (arith, flags_long ns v fs bs e k f, room.below) in
    let long = flags_long ms v fs bs e h f in
    let whole : number_of bs ≡ number_at (length bs) bs 0 = ap number_of (sym (take_all (length bs) bs (omega arith))) in
    let w = bytes_written m a low bs fits room.can.inside in
    subst (λ n. IsStored side (s_node k_flags ms) v a low n m m') (sym same) (subst (λ l. IsStored side (s_node k_flags ms) v a low low m l) (sym put)
    (written_wider a (extent_on side (s_node k_flags ms)).size (own_room side (s_node k_flags ms) v) (omega arith) (omega (arith, long, flags_size_is side ms)) (omega arith)
    (written_also w (λ b l r. subst (λ v. ReadsAt side (s_node k_flags ms) v a b) (sym e)
    (reads_flags side b ms a (number_of bs) fs (ap (λ n. number_in b n a) (sym long) ∙ number_within b (length bs) a (omega (arith, fits, room.can.inside, l)) ∙ ap (λ l. Some (number_of l)) r)
    (ap (λ ns. flags_of_number ns (number_of bs)) (sym (flags_is ms v fs e h)) ∙ ap (flags_of_number (map (λ f. f.0) fs)) whole ∙ f.1))))))

-- ---- handles

handle_is : (kind k : HandleKind) (table t n : ℕ) (v : Value) → v ≡ value.Handle k t n → IsHandle kind table (out-Value v) → (k ≡ kind) × (t ≡ table) × (n < 2 ^ 32)
handle_is kind k table t n v e h = subst (IsHandle kind table) (ap out-Value e ∙ value.outs-Handle k t n) h

pub handle_stored : (v : Value) (k : HandleKind) (t n x a low high : ℕ) (m m' : List ℕ) → v ≡ value.Handle k t n → x ≡ n → HasSpace 4 a low m → m' ≡ with_number 4 m a x → high ≡ low
    → (kind : HandleKind) (table : ℕ) → IsHandle kind table (out-Value v) → (y : ℕ) × (v ≡ value.Handle kind table y) × IsWritten (λ b. number_in b 4 a ≡ Some y) a 4 low high 0 m m'
handle_stored v k t n x a low high m m' e is room put same kind table h =
    let q = handle_is kind k table t n v e h in
    let w = number_written m 4 a n low room.below room.can.inside (omega (arith, q.2)) in (
      n,
      e ∙ (λ i. value.Handle (q.0 i) (q.1 i) n),
      subst (λ z. IsWritten (λ b. number_in b 4 a ≡ Some n) a 4 low z 0 m m') (sym same) (subst (λ l. IsWritten (λ b. number_in b 4 a ≡ Some n) a 4 low low 0 m l) (sym (put ∙ ap (with_number 4 m a) is)) w),
    )

-- ---- answers that may be missing

pub none_is : {A : Type 0} (o : Option A) → o ≡ None → IsNone o
none_is o e = subst (λ o. IsNone o) (sym e) refl

pub if_some : {A : Type 0} (P : A → Type 0) (o : Option A) (x : A) → o ≡ Some x → IfSome o P → P x
if_some P o x e h = subst (λ o. IfSome o P) e h

-- ---- regions at the cursor

-- where a region begins that was taken
pub taken : (low align pointer : ℕ) → pointer ≡ aligned low align → 1 ≤ align → (low ≤ pointer) × (pointer < low + align) × (pointer % align ≡ 0)
taken low align pointer is some =
    let q = aligned_bounds low align (omega (arith, some)) in
    (omega (arith, is, q.0), omega (arith, is, q.1), ap (λ n. n % align) is ∙ aligned_multiple low align)

pub text_align_some : (e : StringEncoding) → 1 ≤ text_align e
text_align_some of_side.Utf8 = omega arith
text_align_some of_side.Utf16 = omega arith
text_align_some of_side.CompactUtf16 = omega arith
