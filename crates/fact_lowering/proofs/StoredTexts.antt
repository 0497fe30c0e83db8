-- Texts that are stored at the cursor.
use Rattle.std.proofs.Common.{◌≡◌, ℕ, ◌+◌, ◌-◌, ◌*◌, ◌/◌, ◌%◌, ◌^◌, ◌≤◌, ◌<◌, Bool, true, false, List, [], ◌∷◌, length, take, drop, Option, Some, None, refl, sym, ap, ◌∙◌, subst, arith}
use Rattle.std.specs.Prelude.{option_map, ◌==◌, ◌&&◌, nat_le, if◌then◌else◌}
use Rattle.std.specs.Char.{IsScalar}
use Rattle.std.specs.List.{AllByRecursion}
use Rattle.std.proofs.lemmas.Bool.{le-leb}
use Rattle.fact_types.specs.declared.interface.InterfaceType.{InterfaceType}
use Rattle.fact_types.specs.declared.interface.InterfaceType.TheVariants as ty
use Rattle.fact_types.specs.declared.outside.FixedEncoding.{FixedEncoding}
use Rattle.fact_types.specs.declared.outside.FixedEncoding.TheVariants.{Utf8, Utf16, Latin1}
use Rattle.fact_types.specs.declared.outside.StringEncoding.{StringEncoding}
use Rattle.fact_types.specs.declared.outside.StringEncoding.TheVariants as of_side
use Rattle.fact_types.specs.Shapes.{s_plain}
use Rattle.fact_machine.specs.World.{put_at}
use Rattle.fact_actions.specs.Transcoders.{all_latin1}
use Rattle.fact_values.specs.declared.side.SideAbi.{SideAbi}
use Rattle.fact_values.specs.declared.value.Value.{Value}
use Rattle.fact_values.specs.declared.value.Value.TheVariants as value
use Rattle.fact_values.specs.Canonical.{ThereIs}
use Rattle.fact_values.specs.Places.{Pair}
use Rattle.fact_values.specs.Texts.{Form, form_of, byte_length, text_of_form, text_at, decoded, lies_aligned, has_tag, utf16_tag, unit_bytes, units_of_text, spelled_text}
use Rattle.fact_lowering.specs.Lowered.{CanStore, IsPut, IsWritten, LacksRoom, ReadsBehind, own_measure, own_room}
use Rattle.fact_lowering.specs.Room.{measured, where_there, text_in}
use Rattle.fact_lowering.specs.Storings.{tagged_count, text_align}
use Rattle.fact_lowering.specs.TextForms.{stored_in, StandsByForm}
use Rattle.fact_lowering.proofs.Agreeing.{bytes_written, written_also, written_taken}
use Rattle.fact_lowering.proofs.Decoded.{decodes}
use Rattle.fact_lowering.proofs.SpellingLaws.{stored_spells, text_units, text_few}
use Rattle.fact_lowering.proofs.Stored.{lies}

pub text_room : (side : SideAbi) (cs : List ℕ) → own_room side (s_plain ty.String) (value.Str cs) ≡ 8 + 16 * length cs
unfolding measured
text_room side cs = ap (λ w. where_there (text_in w) (λ cs. 8 + 16 * length cs)) (value.outs-Str cs)

pub text_room_of : (side : SideAbi) (y : InterfaceType) (v : Value) (cs : List ℕ) → y ≡ ty.String → v ≡ value.Str cs → own_room side (s_plain y) v ≡ 8 + 16 * length cs
text_room_of side y v cs is e = (λ i. own_room side (s_plain (is i)) (e i)) ∙ text_room side cs

-- ---- the form of a text by its length

pub record IsFormOf (e : StringEncoding) (cs : List ℕ) (units : ℕ) (f : Form) : Type 0 where
  pub encoding : f.encoding ≡ stored_in e cs
  pub align : f.align ≡ text_align e
  pub units_are : f.units ≡ units

no_tag : (n : ℕ) → n < 2 ^ 31 → has_tag n ≡ false
no_tag n lt = let e : n / utf16_tag ≡ 0 = omega (arith, lt) in ap (λ k. k % 2 == 1) e

tag : (n : ℕ) → n < 2 ^ 31 → has_tag (n + utf16_tag) ≡ true
tag n lt = let e : (n + utf16_tag) / utf16_tag ≡ 1 = omega (arith, lt) in ap (λ k. k % 2 == 1) e

pub form_is : (e : StringEncoding) (cs : List ℕ) (units : ℕ) → units < 2 ^ 31 → IsFormOf e cs units (form_of e (tagged_count e (stored_in e cs) units))
form_is of_side.Utf8 cs units lt = record { encoding = refl; align = refl; units_are = refl }
form_is of_side.Utf16 cs units lt = record { encoding = refl; align = refl; units_are = refl }
form_is of_side.CompactUtf16 cs units lt = go (all_latin1 cs) refl
  where
    go : (b : Bool) → all_latin1 cs ≡ b → IsFormOf of_side.CompactUtf16 cs units (form_of of_side.CompactUtf16 (tagged_count of_side.CompactUtf16 (if all_latin1 cs then Latin1 else Utf16) units))
    go true e = subst (λ b. IsFormOf of_side.CompactUtf16 cs units (form_of of_side.CompactUtf16 (tagged_count of_side.CompactUtf16 (if b then Latin1 else Utf16) units))) (sym e)
        (let yes : Form = record { encoding = Utf16; align = 2; units = units - utf16_tag } in
        let no : Form = record { encoding = Latin1; align = 2; units = units } in
        subst (λ (b : Bool). IsFormOf of_side.CompactUtf16 cs units (if b then yes else no)) (sym (no_tag units lt))
        (record { encoding = sym (ap (λ (b : Bool). if b then Latin1 else Utf16) e); align = refl; units_are = refl }))
    go false e = subst (λ b. IsFormOf of_side.CompactUtf16 cs units (form_of of_side.CompactUtf16 (tagged_count of_side.CompactUtf16 (if b then Latin1 else Utf16) units))) (sym e)
        (let yes : Form = record { encoding = Utf16; align = 2; units = (units + utf16_tag) - utf16_tag } in
        let no : Form = record { encoding = Latin1; align = 2; units = units + utf16_tag } in
        subst (λ (b : Bool). IsFormOf of_side.CompactUtf16 cs units (if b then yes else no)) (sym (tag units lt))
        (record { encoding = sym (ap (λ (b : Bool). if b then Latin1 else Utf16) e); align = refl; units_are = omega arith }))

-- ---- what is read

reads_form : (b : List ℕ) (pointer : ℕ) (f : Form) (e : FixedEncoding) (cs bs : List ℕ) → f.encoding ≡ e → f.units * unit_bytes e ≡ length bs → pointer % f.align ≡ 0 → pointer + length bs ≤ length b → take (length bs) (drop pointer b) ≡ bs → decoded e bs ≡ Some cs
    → text_of_form b pointer f ≡ Some cs
reads_form b pointer f e cs bs is long al le there read =
    let size : byte_length f ≡ length bs = ap (λ e. f.units * unit_bytes e) is ∙ long in
    ap (λ (c : Bool). if c then decoded f.encoding (take (byte_length f) (drop pointer b)) else None) (lies b f.align pointer (byte_length f) al (omega (arith, le, size)))
    ∙ (λ i. decoded (is i) (take (size i) (drop pointer b))) ∙ ap (decoded e) there ∙ read

by_form : (e : StringEncoding) (b : List ℕ) (p : Pair) (cs : List ℕ) → text_at e b p.pointer p.count ≡ Some cs → (form_of e p.count).encoding ≡ stored_in e cs → StandsByForm e b p
by_form of_side.Utf8 b p cs t f = tt
by_form of_side.Utf16 b p cs t f = tt
by_form of_side.CompactUtf16 b p cs t f = subst (λ o. ThereIs o (λ cs. (form_of of_side.CompactUtf16 p.count).encoding ≡ stored_in of_side.CompactUtf16 cs)) (sym t) f

pub reads_spelled : (side : SideAbi) (b : List ℕ) (cs : List ℕ) (pointer units : ℕ) → AllByRecursion IsScalar cs → units < 2 ^ 31 → units * unit_bytes (stored_in side.encoding cs) ≡ length (spelled_text (stored_in side.encoding cs) cs) → pointer % text_align side.encoding ≡ 0
    → pointer + length (spelled_text (stored_in side.encoding cs) cs) ≤ length b → take (length (spelled_text (stored_in side.encoding cs) cs)) (drop pointer b) ≡ spelled_text (stored_in side.encoding cs) cs
    → ReadsBehind side (s_plain ty.String) (value.Str cs) (record { pointer = pointer; count = tagged_count side.encoding (stored_in side.encoding cs) units }) b
reads_spelled side b cs pointer units scalar few long al le there =
    let e : FixedEncoding = stored_in side.encoding cs in
    let f = form_is side.encoding cs units few in
    let read : text_at side.encoding b pointer (tagged_count side.encoding e units) ≡ Some cs =
    reads_form b pointer (form_of side.encoding (tagged_count side.encoding e units)) e cs (spelled_text e cs) f.encoding (ap (λ n. n * unit_bytes e) f.units_are ∙ long) (ap (λ n. pointer % n) f.align ∙ al) le there (decodes e cs (stored_spells side.encoding cs scalar)) in
    (ap (option_map (λ cs. value.Str cs)) read, by_form side.encoding b (record { pointer = pointer; count = tagged_count side.encoding e units }) cs read f.encoding)

-- ---- what is put

align_few : (e : StringEncoding) → text_align e ≤ 2
align_few of_side.Utf8 = omega arith
align_few of_side.Utf16 = omega arith
align_few of_side.CompactUtf16 = omega arith

by_unit : (e : FixedEncoding) (n k units : ℕ) → k ≡ n * unit_bytes e → units ≡ k / unit_bytes e → (units * unit_bytes e ≡ k) × (units ≤ k)
by_unit Utf8 n k units le is = (omega (arith, le, is), omega (arith, le, is))
by_unit Utf16 n k units le is = (omega (arith, le, is), omega (arith, le, is))
by_unit Latin1 n k units le is = (omega (arith, le, is), omega (arith, le, is))

module _ (side : SideAbi) (cs : List ℕ) (low : ℕ) (m : List ℕ) where
  abbrev pub spelled_on : List ℕ
  spelled_on = spelled_text (stored_in side.encoding cs) cs

  pub text_lacks : LacksRoom low (text_align side.encoding + length spelled_on) m → LacksRoom low (8 + 16 * length cs) m
  text_lacks l = omega (arith, l, align_few side.encoding, text_few (stored_in side.encoding cs) cs)

  pub units_told : (units : ℕ) → units ≡ length spelled_on / unit_bytes (stored_in side.encoding cs) → (units * unit_bytes (stored_in side.encoding cs) ≡ length spelled_on) × (units ≤ length spelled_on)
  units_told units is = by_unit (stored_in side.encoding cs) (units_of_text (stored_in side.encoding cs) cs) (length spelled_on) units (text_units (stored_in side.encoding cs) cs) is

  pub text_put : (pointer high units : ℕ) (m' : List ℕ) → AllByRecursion IsScalar cs → CanStore low m → low ≤ pointer → pointer < low + text_align side.encoding → pointer % text_align side.encoding ≡ 0 → pointer + length spelled_on ≤ length m
      → high ≡ pointer + length spelled_on → m' ≡ put_at m pointer spelled_on → units * unit_bytes (stored_in side.encoding cs) ≡ length spelled_on → units ≤ length spelled_on
      → IsPut side (s_plain ty.String) (value.Str cs) (record { pointer = pointer; count = tagged_count side.encoding (stored_in side.encoding cs) units }) low high m m'
  text_put pointer high units m' scalar can ge near al le is put long few =
      let w = bytes_written m pointer high spelled_on (omega (arith, is)) (omega (arith, is, le)) in
      let small : units < 2 ^ 31 = omega (arith, few, le, can.short) in
      record {
        written = subst (λ m'. IsWritten (ReadsBehind side (s_plain ty.String) (value.Str cs) (record { pointer = pointer; count = tagged_count side.encoding (stored_in side.encoding cs) units })) low 0 low high (own_room side (s_plain ty.String) (value.Str cs)) m m') (sym put)
            (written_taken low (own_room side (s_plain ty.String) (value.Str cs)) ge is (omega (arith, near, is, align_few side.encoding, text_few (stored_in side.encoding cs) cs, text_room side cs))
            (written_also w (λ b l r. reads_spelled side b cs pointer units scalar small long al (omega (arith, le, l, w.changed.same_length)) r)));
        pointer_small = omega (arith, le, can.short);
        count_small = omega (arith, small, count_few side.encoding (stored_in side.encoding cs) units);
      }
    where
      count_few : (e : StringEncoding) (f : FixedEncoding) (n : ℕ) → tagged_count e f n ≤ n + 2 ^ 31
      count_few of_side.Utf8 f n = omega arith
      count_few of_side.Utf16 f n = omega arith
      count_few of_side.CompactUtf16 Utf8 n = omega arith
      count_few of_side.CompactUtf16 Utf16 n = omega arith
      count_few of_side.CompactUtf16 Latin1 n = omega arith

-- The same, by the steps that come to it.
pub text_steps : (side : SideAbi) (cs : List ℕ) (low : ℕ) (m m1 m' : List ℕ) (e : FixedEncoding) (bs given : List ℕ) (align size pointer mid high ub units count : ℕ) → e ≡ stored_in side.encoding cs → bs ≡ spelled_text e cs → given ≡ bs → align ≡ text_align side.encoding → size ≡ length bs
    → AllByRecursion IsScalar cs → CanStore low m → low ≤ pointer → pointer < low + align → pointer % align ≡ 0 → pointer + size ≤ length m → mid ≡ pointer + size → high ≡ mid → m1 ≡ m → m' ≡ put_at m1 pointer given
    → ub ≡ unit_bytes e → units ≡ size / ub → count ≡ tagged_count side.encoding e units → IsPut side (s_plain ty.String) (value.Str cs) (record { pointer = pointer; count = count }) low high m m'
text_steps side cs low m m1 m' e bs given align size pointer mid high ub units count is spelled same al sized scalar can ge near on le mid_is high_is m_is put ub_is units_are count_is =
    let whole : bs ≡ spelled_on side cs low m = spelled ∙ ap (λ e. spelled_text e cs) is in
    let long : size ≡ length (spelled_on side cs low m) = sized ∙ ap length whole in
    let few = units_told side cs low m units (units_are ∙ (λ i. long i / (ub_is ∙ ap unit_bytes is) i)) in
    subst (λ (k : ℕ). IsPut side (s_plain ty.String) (value.Str cs) (record { pointer = pointer; count = k }) low high m m') (sym (count_is ∙ ap (λ e. tagged_count side.encoding e units) is))
    (text_put side cs low m pointer high units m' scalar can ge (omega (arith, near, al)) (ap (λ z. pointer % z) (sym al) ∙ on) (omega (arith, le, long)) (omega (arith, high_is, mid_is, long))
    (put ∙ (λ i. put_at (m_is i) pointer ((same ∙ whole) i))) few.0 few.1)
