-- Values without members that are stored.
use Rattle.std.proofs.Common.{◌≡◌, ℕ, ◌+◌, ◌%◌, ◌^◌, ◌≤◌, ◌<◌, List, length, Option, Some, None, refl, sym, ap, ◌∙◌, subst, arith}
use Rattle.std.specs.Char.{IsScalar}
use Rattle.std.specs.List.{AllByRecursion}
use Rattle.fact_types.specs.declared.interface.InterfaceType.{InterfaceType}
use Rattle.fact_types.specs.declared.interface.InterfaceType.TheVariants as ty
use Rattle.fact_types.specs.declared.extents.MemoryWidth.{MemoryWidth}
use Rattle.fact_types.specs.Layout.{extent}
use Rattle.fact_types.specs.Shapes.{s_plain, plain_layout}
use Rattle.fact_types.proofs.ShapeLaws.{none_some}
use Rattle.fact_machine.specs.World.{with_number}
use Rattle.fact_types.specs.Signatures.{pointer_bytes}
use Rattle.fact_values.specs.declared.side.SideAbi.{SideAbi}
use Rattle.fact_values.specs.declared.value.Value.{Value, out-Value}
use Rattle.fact_values.specs.declared.value.Value.TheOpen as o
use Rattle.fact_values.specs.declared.value.Value.TheVariants as value
use Rattle.fact_values.specs.IsA.{IsPlainValue}
use Rattle.fact_values.specs.Numbers.{Plain, boolean, unsigned, signed, float32, float64, character, text, handle, nothing, plain_of, number_in, value_of_number}
use Rattle.fact_values.specs.Places.{width_of, extent_on, Pair, pair_at}
use Rattle.fact_lowering.specs.Lowered.{CanStore, IsPut, IsStored, IsWritten, ReadsAt, own_room}
use Rattle.fact_lowering.specs.Lowerings.{IsNumberOf, IsNumberFor}
use Rattle.fact_lowering.specs.Storings.{HasSpace}
use Rattle.fact_lowering.proofs.Agreeing.{number_put, written_also, written_wider}
use Rattle.fact_lowering.proofs.Stored.{IsNoText, reads_number}
use Rattle.fact_lowering.proofs.StoreSteps.{behind_size, pair_stored}

-- ---- texts

text_type : (y : InterfaceType) → plain_of y ≡ text → y ≡ ty.String
text_type ty.String e = refl
text_type ty.Bool e = cc
text_type ty.S8 e = cc
text_type ty.U8 e = cc
text_type ty.S16 e = cc
text_type ty.U16 e = cc
text_type ty.S32 e = cc
text_type ty.U32 e = cc
text_type ty.S64 e = cc
text_type ty.U64 e = cc
text_type ty.Float32 e = cc
text_type ty.Float64 e = cc
text_type ty.Char e = cc
text_type (ty.Own i) e = cc
text_type (ty.Borrow i) e = cc
text_type (ty.ErrorContext i) e = cc
text_type _ e = cc

text_of : (q : Plain) (cs : List ℕ) → IsPlainValue q (o.Str cs) → (q ≡ text) × AllByRecursion IsScalar cs
text_of text cs h = (refl, h)
text_of boolean cs h = absurd h
text_of (unsigned bits) cs h = absurd h
text_of (signed bits) cs h = absurd h
text_of float32 cs h = absurd h
text_of float64 cs h = absurd h
text_of character cs h = absurd h
text_of (handle kind table) cs h = absurd h
text_of nothing cs h = absurd h

pub text_is : (y : InterfaceType) (v : Value) (cs : List ℕ) → v ≡ value.Str cs → IsPlainValue (plain_of y) (out-Value v) → (y ≡ ty.String) × AllByRecursion IsScalar cs
text_is y v cs e h =
    let q = text_of (plain_of y) cs (subst (IsPlainValue (plain_of y)) (ap out-Value e ∙ value.outs-Str cs) h) in
    (text_type y q.0, q.1)

-- a text's pointer and length have room where the text has
pub text_room_is : (side : SideAbi) (y : InterfaceType) (a low : ℕ) (m : List ℕ) → y ≡ ty.String → HasSpace (extent_on side (s_plain y)).size a low m → a + (pointer_bytes (width_of side) + pointer_bytes (width_of side)) ≤ low
text_room_is side y a low m e h = omega (arith, behind_size side (s_plain y) e, h.below)

pub text_stored : (side : SideAbi) (y : InterfaceType) (v : Value) (cs : List ℕ) (p : Pair) (a low high : ℕ) (m m' m'' : List ℕ) → v ≡ value.Str cs → y ≡ ty.String → HasSpace (extent_on side (s_plain y)).size a low m → IsPut side (s_plain ty.String) (value.Str cs) p low high m m'
    → IsWritten (λ b. pair_at side b a ≡ Some p) a (pointer_bytes (width_of side) + pointer_bytes (width_of side)) high high 0 m' m'' → IsStored side (s_plain y) v a low high m m''
text_stored side y v cs p a low high m m' m'' e is room put w =
    pair_stored side (s_plain y) v p a low high m m' m'' is room.below (subst (λ v. IsPut side (s_plain y) v p low high m m') (sym e) (subst (λ y. IsPut side (s_plain y) (value.Str cs) p low high m m') (sym is) put)) w

-- ---- numbers

is_no_text : (q : Plain) → (q ≡ text → ⊥) → IsNoText q
is_no_text text f = f refl
is_no_text _ f = tt

number_of_some : (y : InterfaceType) (v : Value) (q : Option ℕ) (n : ℕ) → q ≡ Some n → IsNumberFor y v q → IsNumberOf y v n
number_of_some y v q n e h = subst (IsNumberFor y v) e h

-- a value that has a number is no text
pub never_text : (y : InterfaceType) (v : Value) (q : Option ℕ) (n : ℕ) → q ≡ Some n → IsNumberFor y v q → plain_of y ≡ text → ⊥
never_text y v q n e h is = none_some (value_of_number text n) v refl (subst (λ k. value_of_number k n ≡ Some v) is (number_of_some y v q n e h).whole)

pub number_stored : (side : SideAbi) (y : InterfaceType) (v : Value) (q : Option ℕ) (n size a low : ℕ) (m : List ℕ) → q ≡ Some n → IsNumberFor y v q → (plain_of y ≡ text → ⊥) → ((w : MemoryWidth) → (plain_of y ≡ text → ⊥) → size ≡ (extent w (plain_layout y)).size)
    → HasSpace (extent_on side (s_plain y)).size a low m → IsStored side (s_plain y) v a low low m (with_number size m a n)
number_stored side y v q n size a low m e h never sized room =
    let is : size ≡ (extent_on side (s_plain y)).size = sized (width_of side) never in
    let num = number_of_some y v q n e h in
    written_wider a (extent_on side (s_plain y)).size (own_room side (s_plain y) v) (omega arith) (omega arith) (omega arith)
    (subst (λ k. IsWritten (ReadsAt side (s_plain y) v a) a k low low 0 m (with_number size m a n)) is
    (written_also (number_put m size a n low (omega (arith, is, room.below)) room.can.inside)
    (λ b l r. reads_number side b y a (n % 256 ^ size) v (is_no_text (plain_of y) never) (subst (λ k. number_in b k a ≡ Some (n % 256 ^ size)) is r) (subst (λ k. value_of_number (plain_of y) (n % 256 ^ k) ≡ Some v) (sym is) (num.in_memory (width_of side))))))
