-- A walk over the members of a source, which finds the place of each.
use Rattle.std.proofs.Common.{◌≡◌, ◌≢◌, ℕ, ◌+◌, ◌≤◌, List, [], ◌∷◌, length, drop, Option, Some, None, cond, is_some, refl, sym, ap, ◌∙◌, subst, arith, Bool, true, false, true≢false}
use Rattle.std.specs.Prelude.{if◌then◌else◌, ◌&&◌}
use Rattle.std.specs.Str.{bytes_eq}
use Rattle.std.proofs.lemmas.Bool.{eq-eqb, ne_eqb}
use Rattle.std.proofs.lemmas.List.{drop_all}
use Rattle.std.proofs.lemmas.Slice.Eq.{bytes_eq-Decides}
use Rattle.fact_types.specs.declared.abi.CanonicalAbiInfo.{CanonicalAbiInfo}
use Rattle.fact_types.specs.declared.fields.FieldPlace.{FieldPlace}
use Rattle.fact_types.specs.declared.interface.InterfaceType.{InterfaceType}
use Rattle.fact_types.specs.declared.extents.MemoryWidth.TheVariants.{Memory32, Memory64}
use Rattle.fact_types.specs.Fields.{Field, find, field_of, Finds}
use Rattle.fact_types.specs.Fits.{FieldFits}
use Rattle.fact_types.specs.Flat.{flat_within, add_flat}
use Rattle.fact_types.specs.FlatShapes.{flat, IsCounted, AreCounted}
use Rattle.fact_types.specs.Layout.{extent, aligned}
use Rattle.fact_types.specs.Shapes.{k_record, s_node, Members, no_members, bare, typed, layout_of, place_of, next_of, ends_of, IsWithin}
use Rattle.fact_types.specs.Tables.{Tables, IsLive, HasMembers}
use Rattle.fact_types.proofs.CountLaws.{count_is_length, add_is}
use Rattle.fact_types.proofs.PlaceLaws.{ends_grow, ends_within, sound_in}
use Rattle.fact_types.proofs.ShapeLaws.{same_some, none_some}
use Rattle.fact_kinds.specs.declared.members.MembersEnd.{MembersEnd}
use Rattle.fact_kinds.specs.MemberPairs.{Member, place_behind, end_behind}
use Rattle.fact_kinds.proofs.MemberRuns.{IsAt, NextMember, next_member}

abbrev pub no_end : MembersEnd
no_end = record { flat_place = Some 0; bytes32 = 0; bytes64 = 0 }

-- Where the walk stands: the members from here on, behind so many flat types and bytes, give of each of these names what all of
-- them give.
pub record MembersAhead (t : Tables) (xs : List Member) (Sought : List ℕ → Type 0) (ms : Members) (i : ℕ) (end : MembersEnd) : Type 0 where
  pub rest : Members
  pub before : ℕ
  pub has : HasMembers t (drop i xs) rest
  pub same : (x : List ℕ) → Sought x → field_of x ms ≡ find x rest before end.bytes32 end.bytes64
  pub counted : AreCounted ms → AreCounted rest × (end.flat_place ≡ flat_within before)
  pub ends32 : ends_of Memory32 ms 0 ≡ ends_of Memory32 rest end.bytes32
  pub ends64 : ends_of Memory64 ms 0 ≡ ends_of Memory64 rest end.bytes64

pub ahead_of_all : {t : Tables} {xs : List Member} {Sought : List ℕ → Type 0} (ms : Members) → HasMembers t xs ms → MembersAhead t xs Sought ms 0 no_end
ahead_of_all ms h = record { rest = ms; before = 0; has = h; same = λ x s. refl; counted = λ c. (c, refl); ends32 = refl; ends64 = refl }

module _ {t : Tables} {xs : List Member} {Sought : List ℕ → Type 0} {ms : Members} {i : ℕ} {end : MembersEnd} (name : List ℕ) (y : InterfaceType) (at : IsAt xs i name y) (r : MembersAhead t xs Sought ms i end) where
  -- the member at hand
  pub opened : NextMember t xs i name y r.rest
  opened = next_member {xs = xs} {i = i} r.rest at r.has

  -- it ends within all of them
  ends_before32 : next_of Memory32 opened.shape end.bytes32 ≤ ends_of Memory32 ms 0
  ends_before32 = omega (arith, ends_grow Memory32 opened.more (next_of Memory32 opened.shape end.bytes32), r.ends32, ap (λ m. ends_of Memory32 m end.bytes32) opened.is)

  ends_before64 : next_of Memory64 opened.shape end.bytes64 ≤ ends_of Memory64 ms 0
  ends_before64 = omega (arith, ends_grow Memory64 opened.more (next_of Memory64 opened.shape end.bytes64), r.ends64, ap (λ m. ends_of Memory64 m end.bytes64) opened.is)

  pub fits32 : (abi : CanonicalAbiInfo) → IsWithin (layout_of (s_node k_record ms)) → abi ≡ layout_of opened.shape → FieldFits (extent Memory32 abi) end.bytes32
  fits32 abi whole is =
      subst (λ (abi : CanonicalAbiInfo). FieldFits (extent Memory32 abi) end.bytes32) (sym is)
      (record { power = (sound_in Memory32 opened.shape).power; within = omega (arith, ends_before32, ends_within Memory32 ms, whole.memory32) })

  pub fits64 : (abi : CanonicalAbiInfo) → IsWithin (layout_of (s_node k_record ms)) → abi ≡ layout_of opened.shape → FieldFits (extent Memory64 abi) end.bytes64
  fits64 abi whole is =
      subst (λ (abi : CanonicalAbiInfo). FieldFits (extent Memory64 abi) end.bytes64) (sym is)
      (record { power = (sound_in Memory64 opened.shape).power; within = omega (arith, ends_before64, ends_within Memory64 ms, whole.memory64) })

  abbrev here : Field
  here = record { shape = opened.shape; flat_place = r.before; place32 = place_of Memory32 opened.shape end.bytes32; place64 = place_of Memory64 opened.shape end.bytes64 }

  abbrev behind : List ℕ → Option Field
  behind x = find x opened.more (r.before + length (flat Memory32 opened.shape)) (next_of Memory32 opened.shape end.bytes32) (next_of Memory64 opened.shape end.bytes64)

  at_hand : (x : List ℕ) → Sought x → field_of x ms ≡ (if bytes_eq name x then Some here else behind x)
  at_hand x s = r.same x s ∙ ap (λ m. find x m r.before end.bytes32 end.bytes64) opened.is

  counted_here : AreCounted ms → IsCounted opened.shape × AreCounted opened.more × (end.flat_place ≡ flat_within r.before)
  counted_here c = let k = r.counted c in let both = subst AreCounted opened.is k.0 in (both.0, both.1, k.1)

  module _ (abi : CanonicalAbiInfo) (is : abi ≡ layout_of opened.shape) where
    -- past it, for other names
    pub goes_on : {Left : List ℕ → Type 0} → ((x : List ℕ) → Left x → Sought x × (bytes_eq name x ≡ false)) → MembersAhead t xs Left ms (i + 1) (end_behind end abi)
    goes_on others =
        let here32 : aligned end.bytes32 abi.align32 + abi.size32 ≡ next_of Memory32 opened.shape end.bytes32 = ap (λ (l : CanonicalAbiInfo). aligned end.bytes32 l.align32 + l.size32) is in
        let here64 : aligned end.bytes64 abi.align64 + abi.size64 ≡ next_of Memory64 opened.shape end.bytes64 = ap (λ (l : CanonicalAbiInfo). aligned end.bytes64 l.align64 + l.size64) is in
        record {
          rest = opened.more;
          before = r.before + length (flat Memory32 opened.shape);
          has = opened.has;
          same = λ x s.
              let (sought, other) = others x s in
              at_hand x sought ∙ ap (λ (q : Bool). if q then Some here else behind x) other
              ∙ ap (λ n. find x opened.more (r.before + length (flat Memory32 opened.shape)) n (next_of Memory64 opened.shape end.bytes64)) (sym here32)
              ∙ ap (λ n. find x opened.more (r.before + length (flat Memory32 opened.shape)) (aligned end.bytes32 abi.align32 + abi.size32) n) (sym here64);
          counted = λ k.
              let n = counted_here k in (
                n.1,
                ap (λ (l : CanonicalAbiInfo). add_flat end.flat_place l.flat_count) is ∙ ap (λ (o : Option ℕ). add_flat o (layout_of opened.shape).flat_count) n.2
                    ∙ ap (add_flat (flat_within r.before)) (count_is_length Memory32 opened.shape n.0) ∙ add_is r.before (length (flat Memory32 opened.shape)),
              );
          ends32 = r.ends32 ∙ ap (λ m. ends_of Memory32 m end.bytes32) opened.is ∙ ap (ends_of Memory32 opened.more) (sym here32);
          ends64 = r.ends64 ∙ ap (λ m. ends_of Memory64 m end.bytes64) opened.is ∙ ap (ends_of Memory64 opened.more) (sym here64);
        }

    -- its place, by its name
    pub is_there : IsLive t y → (x : List ℕ) → Sought x → bytes_eq name x ≡ true → Finds t ms (Some (place_behind end abi y)) (field_of x ms)
    is_there live x s named =
        subst (λ g. Finds t ms (Some (place_behind end abi y)) g) (sym (at_hand x s ∙ ap (λ (q : Bool). if q then Some here else behind x) named)) (record {
          live = live;
          shaped = opened.shaped;
          flat_place = λ c. (counted_here c).2;
          place32 = ap (λ (l : CanonicalAbiInfo). aligned end.bytes32 l.align32) is;
          place64 = ap (λ (l : CanonicalAbiInfo). aligned end.bytes64 l.align64) is;
          within32 = ends_before32;
          within64 = ends_before64;
        })

-- ---- behind the last

none_left : (t : Tables) (x : List ℕ) (rest : Members) (n c d : ℕ) → HasMembers t [] rest → find x rest n c d ≡ None
none_left t x no_members n c d h = refl
none_left t x (bare m ns) n c d h = absurd h
none_left t x (typed m s ns) n c d h = absurd h

module _ {t : Tables} {xs : List Member} {Sought : List ℕ → Type 0} {ms : Members} {i : ℕ} {end : MembersEnd} (past : length xs ≤ i) (r : MembersAhead t xs Sought ms i end) where
  pub not_there : (x : List ℕ) → Sought x → Finds t ms None (field_of x ms)
  not_there x s =
      subst (λ g. Finds t ms None g) (sym (r.same x s ∙ none_left t x r.rest r.before end.bytes32 end.bytes64 (subst (λ xs. HasMembers t xs r.rest) (drop_all i xs past) r.has))) tt

  pub stays : {Left : List ℕ → Type 0} → ((x : List ℕ) → Left x → Sought x) → MembersAhead t xs Left ms (i + 1) end
  stays fewer =
      let none : drop i xs ≡ drop (i + 1) xs = drop_all i xs past ∙ sym (drop_all (i + 1) xs (omega (arith, past))) in
      record { rest = r.rest; before = r.before; has = subst (λ xs. HasMembers t xs r.rest) none r.has; same = λ x s. r.same x (fewer x s); counted = r.counted; ends32 = r.ends32; ends64 = r.ends64 }

-- ---- the members of a record, by their names

-- Of the members so far, each is found by its name, but for one of an earlier name.
pub record FieldsRead (t : Tables) (xs : List Member) (found : List ℕ → Option FieldPlace) (ms : Members) (i : ℕ) (end : MembersEnd) : Type 0 where
  pub ahead : MembersAhead t xs (λ x. found x ≡ None) ms i end
  pub there : (x : List ℕ) (p : FieldPlace) → found x ≡ Some p → Finds t ms (Some p) (field_of x ms)

pub none_read : {t : Tables} {xs : List Member} {found : List ℕ → Option FieldPlace} (ms : Members) → HasMembers t xs ms → ((x : List ℕ) → found x ≡ None) → FieldsRead t xs found ms 0 no_end
none_read {found = found} ms h none = record { ahead = ahead_of_all ms h; there = λ x p e. absurd (none_some (found x) p (none x) e) }

module _ {t : Tables} {xs : List Member} {found : List ℕ → Option FieldPlace} {ms : Members} {i : ℕ} {end : MembersEnd} (name : List ℕ) (y : InterfaceType) (at : IsAt xs i name y) (r : FieldsRead t xs found ms i end) (abi : CanonicalAbiInfo) (is : abi ≡ layout_of (opened name y at r.ahead).shape) where
  -- one more, of a name that is known
  pub known_read : (is_some (found name) ≡ true) → FieldsRead t xs found ms (i + 1) (end_behind end abi)
  known_read known = record { ahead = goes_on name y at r.ahead abi is (λ x none. (none, other x none (bytes_eq name x) refl)); there = r.there }
    where
      other : (x : List ℕ) → found x ≡ None → (b : Bool) → bytes_eq name x ≡ b → b ≡ false
      other x none false e = refl
      other x none true e = absurd (true≢false (sym known ∙ ap (λ z. is_some (found z)) ((bytes_eq-Decides name x).0 e) ∙ ap is_some none))

  -- and of a new one
  pub new_read : (then' : List ℕ → Option FieldPlace) → IsLive t y → is_some (found name) ≡ false → ((x : List ℕ) → then' x ≡ cond (bytes_eq name x) (Some (place_behind end abi y)) (found x)) → FieldsRead t xs then' ms (i + 1) (end_behind end abi)
  new_read then' live absent puts = record {
    ahead = goes_on name y at r.ahead abi is (λ x none. left x (bytes_eq name x) refl (sym (puts x) ∙ none));
    there = λ x p e. got x p (bytes_eq name x) refl (sym (puts x) ∙ e);
  }
    where
      left : (x : List ℕ) (b : Bool) → bytes_eq name x ≡ b → cond b (Some (place_behind end abi y)) (found x) ≡ None → (found x ≡ None) × (bytes_eq name x ≡ false)
      left x true b none = absurd (none_some (Some (place_behind end abi y)) (place_behind end abi y) none refl)
      left x false b none = (none, b)

      no_value : (o : Option FieldPlace) → is_some o ≡ false → o ≡ None
      no_value None e = refl
      no_value (Some p) e = absurd (true≢false e)

      got : (x : List ℕ) (p : FieldPlace) (b : Bool) → bytes_eq name x ≡ b → cond b (Some (place_behind end abi y)) (found x) ≡ Some p → Finds t ms (Some p) (field_of x ms)
      got x p true b e =
          let none : found x ≡ None = ap found (sym ((bytes_eq-Decides name x).0 b)) ∙ no_value (found name) absent in
          subst (λ (p : FieldPlace). Finds t ms (Some p) (field_of x ms)) (same_some (Some (place_behind end abi y)) (place_behind end abi y) p refl e) (is_there name y at r.ahead abi is live x none b)
      got x p false b e = r.there x p e

-- all of them
pub all_read : {t : Tables} {xs : List Member} {found : List ℕ → Option FieldPlace} {ms : Members} {i : ℕ} {end : MembersEnd} → length xs ≤ i → FieldsRead t xs found ms i end → (x : List ℕ) → Finds t ms (found x) (field_of x ms)
all_read {t} {xs} {found} {ms} {i} {end} past r x = told (found x) refl
  where
    told : (o : Option FieldPlace) → found x ≡ o → Finds t ms o (field_of x ms)
    told None e = not_there past r.ahead x e
    told (Some p) e = r.there x p e

-- ---- the members of a tuple, by their places

-- names that are places are the same where the places are
pub same_place : (a b : ℕ) → a ≡ b → bytes_eq (a ∷ []) (b ∷ []) ≡ true
same_place a b e = ap (λ q. q && true) (eq-eqb a b e)

pub other_place : (a b : ℕ) → a ≢ b → bytes_eq (a ∷ []) (b ∷ []) ≡ false
other_place a b ne = ap (λ q. q && true) (ne_eqb a b ne)

-- a name that is a place from here on
pub record IsPlaceFrom (i : ℕ) (x : List ℕ) : Type 0 where
  pub place : ℕ
  pub from : i ≤ place
  pub is : x ≡ place ∷ []

pub from_here : (i : ℕ) → IsPlaceFrom i (i ∷ [])
from_here i = record { place = i; from = omega arith; is = refl }

pub from_later : (i : ℕ) (x : List ℕ) → IsPlaceFrom (i + 1) x → IsPlaceFrom i x
from_later i x p = record { place = p.place; from = omega (arith, p.from); is = p.is }

pub later_places : (i : ℕ) (x : List ℕ) → IsPlaceFrom (i + 1) x → IsPlaceFrom i x × (bytes_eq (i ∷ []) x ≡ false)
later_places i x p = (from_later i x p, ap (bytes_eq (i ∷ [])) p.is ∙ other_place i p.place (λ e. omega (arith, p.from, e)))
