-- The cases of a source and those of their names at a destination.
use Rattle.std.proofs.Common.{◌≡◌, ℕ, zero, suc, ◌≤◌, ◌⊎◌, inl, inr, Bool, true, false, List, [], ◌∷◌, length, map, Option, Some, None, refl, sym, ap, ◌∙◌, subst, arith}
use Rattle.std.specs.Prelude.{slice_get, if◌then◌else◌, option_map}
use Rattle.std.specs.Str.{bytes_eq}
use Rattle.fact_types.specs.declared.abi.CanonicalAbiInfo.{CanonicalAbiInfo}
use Rattle.fact_types.specs.declared.interface.InterfaceType.{InterfaceType}
use Rattle.fact_types.specs.declared.variants.VariantInfo.{VariantInfo}
use Rattle.fact_types.specs.Agrees.{chosen}
use Rattle.fact_types.specs.FlatShapes.{IsCounted, AreCounted}
use Rattle.fact_types.specs.Layout.{variant_info}
use Rattle.fact_types.specs.Shapes.{Kind, k_variant, k_option, k_result, Shape, s_node, Members, no_members, bare, typed, layouts_of, Parts, no_parts, case_parts, entry_parts, parts_by}
use Rattle.fact_types.specs.Heights.{height}
use Rattle.fact_types.specs.Tables.{Tables, Node, node_of, IsLive, IsLiveMember, HasShape, HasMembers, IsSound, abi_at}
use Rattle.fact_types.proofs.HeightLaws.{member_within}
use Rattle.fact_types.proofs.ShapeLaws.{layouts_are, same_some, none_some}
use Rattle.fact_values.specs.Canonical.{ThereIs}
use Rattle.fact_values.specs.Limits.{CaseType, case_type}
use Rattle.fact_values.specs.Places.{count_of_members, case_bytes}
use Rattle.fact_actions.specs.Actions.{Action, Give, ◌>>=◌}
use Rattle.fact_actions.specs.Actions as action
use Rattle.fact_actions.specs.Moves.{padded, write_case, move, move_case}
use Rattle.fact_actions.specs.Sides.{Transfer, Source, Target, write_number}
use Rattle.fact_actions.specs.Outlining.{Route, translates, translates_case, translates_none}
use Rattle.fact_kinds.specs.declared.sums.NumberedCase.{NumberedCase}
use Rattle.fact_kinds.specs.declared.sums.PairedCase.{PairedCase}
use Rattle.fact_kinds.specs.declared.sums.Sum.{Sum}
use Rattle.fact_emit.specs.Movable.{CanMoveMember, CanMoveCase}
use Rattle.fact_translate.specs.MovedSums.{IsLiveNumbered, HasPayloadShape, numbered_height, payload_height}
use Rattle.fact_kinds.specs.Sums.{numbered_case, case_at_name, paired_case, paired_cases, IsSumKind, IsSumOf}
use Rattle.fact_translate.proofs.SumRoom.{IsPayload, bare_payload, typed_payload}
use Rattle.fact_kinds.proofs.TypeKinds.{node_members}

-- ---- the case of a name

there_is : {A : Type 0} (o : Option A) (P : A → Type 0) → ThereIs o P → (a : A) × (o ≡ Some a) × P a
there_is None P h = absurd h
there_is (Some a) P h = (a, refl, h)

module _ (t : Tables) (c : CaseType) where
  -- it carries nothing, as the case at the source
  pub record FoundBare (all ns : Members) (n : ℕ) (found : Option NumberedCase) : Type 0 where
    pub number : ℕ
    pub none : c.payload ≡ None
    pub is : found ≡ Some (numbered_case number None)
    pub moves : (tr : Transfer) (ms : Members) (s : Source) (d : Target) → move_case tr ms all c ns n s d ≡ write_number tr.to (case_bytes all) d number >>= (λ tag. Give (padded d tag))

  -- both have a payload
  pub record FoundTyped (all ns : Members) (n : ℕ) (found : Option NumberedCase) : Type 0 where
    pub number : ℕ
    pub from : Shape
    pub to : Shape
    pub type : InterfaceType
    pub some : c.payload ≡ Some from
    pub is : found ≡ Some (numbered_case number (Some type))
    pub shaped : HasShape t type to
    pub counted : IsCounted to
    pub can : CanMoveMember from to
    pub among : IsPayload ns to
    pub moves : (tr : Transfer) (ms : Members) (s : Source) (d : Target) → move_case tr ms all c ns n s d ≡ write_case tr ms all s d number (Some from) (Some to) (λ p s' d'. move tr p to s' d')
    pub translated : (i : ℕ) (r : Route) (m : ℕ) → translates_case i r c.name from ns m ≡ translates i r from to m

  abbrev Found : (all ns : Members) (n : ℕ) (ys : List (List ℕ × Option InterfaceType)) → Type 0
  Found all ns n ys = FoundBare all ns n (case_at_name c.name n ys) ⊎ FoundTyped all ns n (case_at_name c.name n ys)

  -- the case is the first one of a name, or it is among the others
  abbrev found_at : (b : Bool) (n : ℕ) (q : Option InterfaceType) (ys : List (List ℕ × Option InterfaceType)) → Option NumberedCase
  found_at b n q ys = if b then Some (numbered_case n q) else case_at_name c.name (suc n) ys

  bare_later : (all ns : Members) (x : List ℕ) (n : ℕ) (q : Option InterfaceType) (ys : List (List ℕ × Option InterfaceType)) → bytes_eq x c.name ≡ false → Found all ns (suc n) ys
      → FoundBare all (bare x ns) n (found_at false n q ys) ⊎ FoundTyped all (bare x ns) n (found_at false n q ys)
  unfolding move translates_case
  bare_later all ns x n q ys e (inl f) = inl (record {
    number = f.number;
    none = f.none;
    is = f.is;
    moves = λ tr ms s d.
        ap (λ (b : Bool). if b then write_case tr ms all s d n c.payload None (λ p s' d'. action.Unreachable) else move_case tr ms all c ns (suc n) s d) e ∙ f.moves tr ms s d;
  })
  bare_later all ns x n q ys e (inr f) = inr (record {
    number = f.number;
    from = f.from;
    to = f.to;
    type = f.type;
    some = f.some;
    is = f.is;
    shaped = f.shaped;
    counted = f.counted;
    can = f.can;
    among = record { place = suc f.among.place; case = f.among.case; there = f.among.there; payload = f.among.payload };
    moves = λ tr ms s d.
        ap (λ (b : Bool). if b then write_case tr ms all s d n c.payload None (λ p s' d'. action.Unreachable) else move_case tr ms all c ns (suc n) s d) e ∙ f.moves tr ms s d;
    translated = λ i r m. ap (λ (b : Bool). if b then translates_none m else translates_case i r c.name f.from ns m) e ∙ f.translated i r m;
  })

  typed_later : (all ns : Members) (x : List ℕ) (u : Shape) (n : ℕ) (q : Option InterfaceType) (ys : List (List ℕ × Option InterfaceType)) → bytes_eq x c.name ≡ false → Found all ns (suc n) ys
      → FoundBare all (typed x u ns) n (found_at false n q ys) ⊎ FoundTyped all (typed x u ns) n (found_at false n q ys)
  unfolding move translates_case
  typed_later all ns x u n q ys e (inl f) = inl (record {
    number = f.number;
    none = f.none;
    is = f.is;
    moves = λ tr ms s d.
        ap (λ (b : Bool). if b then write_case tr ms all s d n c.payload (Some u) (λ p s' d'. move tr p u s' d') else move_case tr ms all c ns (suc n) s d) e ∙ f.moves tr ms s d;
  })
  typed_later all ns x u n q ys e (inr f) = inr (record {
    number = f.number;
    from = f.from;
    to = f.to;
    type = f.type;
    some = f.some;
    is = f.is;
    shaped = f.shaped;
    counted = f.counted;
    can = f.can;
    among = record { place = suc f.among.place; case = f.among.case; there = f.among.there; payload = f.among.payload };
    moves = λ tr ms s d.
        ap (λ (b : Bool). if b then write_case tr ms all s d n c.payload (Some u) (λ p s' d'. move tr p u s' d') else move_case tr ms all c ns (suc n) s d) e ∙ f.moves tr ms s d;
    translated = λ i r m. ap (λ (b : Bool). if b then translates i r f.from u m else translates_case i r c.name f.from ns m) e ∙ f.translated i r m;
  })

  bare_here : (all ns : Members) (x : List ℕ) (n : ℕ) (q : Option InterfaceType) (ys : List (List ℕ × Option InterfaceType)) → bytes_eq x c.name ≡ true → q ≡ None → c.payload ≡ None → FoundBare all (bare x ns) n (found_at true n q ys)
  unfolding move
  bare_here all ns x n q ys e none empty = record {
    number = n;
    none = empty;
    is = ap (λ (q : Option InterfaceType). Some (numbered_case n q)) none;
    moves = λ tr ms s d.
        ap (λ (b : Bool). if b then write_case tr ms all s d n c.payload None (λ p s' d'. action.Unreachable) else move_case tr ms all c ns (suc n) s d) e
        ∙ ap (λ (o : Option Shape). write_case tr ms all s d n o None (λ p s' d'. action.Unreachable)) empty;
  }

  typed_here : (all ns : Members) (x : List ℕ) (u : Shape) (n : ℕ) (q : Option InterfaceType) (y : InterfaceType) (ys : List (List ℕ × Option InterfaceType)) → bytes_eq x c.name ≡ true → q ≡ Some y → HasShape t y u → IsCounted u → (p : Shape) → c.payload ≡ Some p → CanMoveMember p u
      → FoundTyped all (typed x u ns) n (found_at true n q ys)
  unfolding move translates_case
  typed_here all ns x u n q y ys e some shaped counted p full can = record {
    number = n;
    from = p;
    to = u;
    type = y;
    some = full;
    is = ap (λ (q : Option InterfaceType). Some (numbered_case n q)) some;
    shaped = shaped;
    counted = counted;
    can = can;
    among = record { place = 0; case = record { name = x; payload = Some u }; there = refl; payload = refl };
    moves = λ tr ms s d.
        ap (λ (b : Bool). if b then write_case tr ms all s d n c.payload (Some u) (λ p s' d'. move tr p u s' d') else move_case tr ms all c ns (suc n) s d) e
        ∙ ap (λ (o : Option Shape). write_case tr ms all s d n o (Some u) (λ p s' d'. move tr p u s' d')) full;
    translated = λ i r m. ap (λ (b : Bool). if b then translates i r p u m else translates_case i r c.name p ns m) e;
  }

  -- A case that can be moved has a case of its name.
  pub found_case : (all ns : Members) (ys : List (List ℕ × Option InterfaceType)) (n : ℕ) → HasMembers t ys ns → AreCounted ns → CanMoveCase c ns → Found all ns n ys
  found_case all no_members ys n h k can = absurd can
  found_case all (bare x ns) [] n h k can = absurd h
  found_case all (typed x u ns) [] n h k can = absurd h
  found_case all (bare x ns) (y ∷ ys) n h k can = go (bytes_eq x c.name) refl can (λ can'. found_case all ns ys (suc n) h.2 k can')
    where
      name_is : (b : Bool) → bytes_eq x c.name ≡ b → found_at b n y.1 ys ≡ case_at_name c.name n (y ∷ ys)
      name_is b e = ap (λ (b : Bool). found_at b n y.1 ys) (sym e ∙ ap (λ z. bytes_eq z c.name) (sym h.0))

      go : (b : Bool) → bytes_eq x c.name ≡ b → chosen b (c.payload ≡ None) (CanMoveCase c ns) → (CanMoveCase c ns → Found all ns (suc n) ys) → Found all (bare x ns) n (y ∷ ys)
      go true e can rest = inl (subst (FoundBare all (bare x ns) n) (name_is true e) (bare_here all ns x n y.1 ys e h.1 can))
      go false e can rest = subst (λ f. FoundBare all (bare x ns) n f ⊎ FoundTyped all (bare x ns) n f) (name_is false e) (bare_later all ns x n y.1 ys e (rest can))
  found_case all (typed x u ns) (y ∷ ys) n h k can = go (bytes_eq x c.name) refl can (λ can'. found_case all ns ys (suc n) h.2 k.1 can')
    where
      name_is : (b : Bool) → bytes_eq x c.name ≡ b → found_at b n y.1 ys ≡ case_at_name c.name n (y ∷ ys)
      name_is b e = ap (λ (b : Bool). found_at b n y.1 ys) (sym e ∙ ap (λ z. bytes_eq z c.name) (sym h.0))

      go : (b : Bool) → bytes_eq x c.name ≡ b → chosen b (ThereIs c.payload (λ p. CanMoveMember p u)) (CanMoveCase c ns) → (CanMoveCase c ns → Found all ns (suc n) ys) → Found all (typed x u ns) n (y ∷ ys)
      go true e can rest =
          let (p, full, moves) = there_is c.payload (λ p. CanMoveMember p u) can in
          inr (subst (FoundTyped all (typed x u ns) n) (name_is true e) (typed_here all ns x u n y.1 h.1.0 ys e h.1.1 h.1.2 k.0 p full moves))
      go false e can rest = subst (λ f. FoundBare all (typed x u ns) n f ⊎ FoundTyped all (typed x u ns) n f) (name_is false e) (typed_later all ns x u n y.1 ys e (rest can))

-- the payload of a case is counted where those of all members are
pub case_counted : (ms : Members) (n : ℕ) (c : CaseType) (p : Shape) → case_type ms n ≡ Some c → c.payload ≡ Some p → AreCounted ms → IsCounted p
case_counted no_members n c p h e k = absurd (none_some None c refl h)
case_counted (bare x ms) zero c p h e k = absurd (bare_payload h e)
case_counted (bare x ms) (suc n) c p h e k = case_counted ms n c p h e k
case_counted (typed x s ms) zero c p h e k = subst IsCounted (typed_payload h e) k.0
case_counted (typed x s ms) (suc n) c p h e k = case_counted ms n c p h e k.1

-- ---- the cases of a source, in order

module _ (t : Tables) (ys : List (List ℕ × Option InterfaceType)) where
  -- a case of a source with its pair
  pub record PairedWith (ms : Members) (n : ℕ) (paired : PairedCase) : Type 0 where
    pub case : CaseType
    pub there : case_type ms n ≡ Some case
    pub payload : HasPayloadShape t paired.payload case.payload
    pub found : paired.found ≡ case_at_name case.name 0 ys

  pub paired_with : (xs : List (List ℕ × Option InterfaceType)) (ms : Members) (n : ℕ) (paired : PairedCase) → HasMembers t xs ms → slice_get (paired_cases xs ys) n ≡ Some paired → PairedWith ms n paired
  paired_with [] ms n paired h e = absurd (none_some None paired refl e)
  paired_with (x ∷ xs) no_members n paired h e = absurd h
  paired_with (x ∷ xs) (bare m ms) zero paired h e =
      let is : paired_case ys x ≡ paired = same_some (Some (paired_case ys x)) (paired_case ys x) paired refl e in
      record {
        case = record { name = m; payload = None };
        there = refl;
        payload = subst (λ (p : PairedCase). HasPayloadShape t p.payload None) is (subst (λ q. HasPayloadShape t q None) (sym h.1) tt);
        found = ap (λ (p : PairedCase). p.found) (sym is) ∙ ap (λ z. case_at_name z 0 ys) h.0;
      }
  paired_with (x ∷ xs) (bare m ms) (suc n) paired h e = let r = paired_with xs ms n paired h.2 e in record { case = r.case; there = r.there; payload = r.payload; found = r.found }
  paired_with (x ∷ xs) (typed m s ms) zero paired h e =
      let is : paired_case ys x ≡ paired = same_some (Some (paired_case ys x)) (paired_case ys x) paired refl e in
      record {
        case = record { name = m; payload = Some s };
        there = refl;
        payload = subst (λ (p : PairedCase). HasPayloadShape t p.payload (Some s)) is (subst (λ q. HasPayloadShape t q (Some s)) (sym h.1.1) h.1.2);
        found = ap (λ (p : PairedCase). p.found) (sym is) ∙ ap (λ z. case_at_name z 0 ys) h.0;
      }
  paired_with (x ∷ xs) (typed m s ms) (suc n) paired h e = let r = paired_with xs ms n paired h.2 e in record { case = r.case; there = r.there; payload = r.payload; found = r.found }

  pub paired_count : (xs : List (List ℕ × Option InterfaceType)) (ms : Members) → HasMembers t xs ms → length (paired_cases xs ys) ≡ count_of_members ms
  paired_count [] no_members h = refl
  paired_count [] (bare m ms) h = absurd h
  paired_count [] (typed m s ms) h = absurd h
  paired_count (x ∷ xs) no_members h = absurd h
  paired_count (x ∷ xs) (bare m ms) h = ap suc (paired_count xs ms h.2)
  paired_count (x ∷ xs) (typed m s ms) h = ap suc (paired_count xs ms h.2)

  -- where it stands among the members
  pub paired_from : (xs : List (List ℕ × Option InterfaceType)) (n : ℕ) (paired : PairedCase) → slice_get (paired_cases xs ys) n ≡ Some paired → (x : List ℕ × Option InterfaceType) × (slice_get xs n ≡ Some x) × (paired ≡ paired_case ys x)
  paired_from [] n paired e = absurd (none_some None paired refl e)
  paired_from (x ∷ xs) zero paired e = (x, refl, same_some (Some paired) paired (paired_case ys x) refl (sym e))
  paired_from (x ∷ xs) (suc n) paired e = paired_from xs n paired e

-- what a loop over cases reads where there is none
abbrev pub bare_case : PairedCase
bare_case = record { payload = None; found = None }

-- the member that a name finds
named_from : (x : List ℕ) (n : ℕ) (ys : List (List ℕ × Option InterfaceType)) (f : NumberedCase) → case_at_name x n ys ≡ Some f → (i : ℕ) × (y : List ℕ × Option InterfaceType) × (slice_get ys i ≡ Some y) × (f.payload ≡ y.1)
named_from x n [] f e = absurd (none_some None f refl e)
named_from x n (y ∷ ys) f e = go (bytes_eq y.0 x) e (named_from x (suc n) ys f)
  where
    go : (b : Bool) → (if b then Some (numbered_case n y.1) else case_at_name x (suc n) ys) ≡ Some f → (case_at_name x (suc n) ys ≡ Some f → (i : ℕ) × (z : List ℕ × Option InterfaceType) × (slice_get ys i ≡ Some z) × (f.payload ≡ z.1))
        → (i : ℕ) × (z : List ℕ × Option InterfaceType) × (slice_get (y ∷ ys) i ≡ Some z) × (f.payload ≡ z.1)
    go true e rest = (0, y, refl, ap (λ (f : NumberedCase). f.payload) (same_some (Some f) f (numbered_case n y.1) refl (sym e)))
    go false e rest = let r = rest e in (suc r.0, r.1, r.2, r.3)

-- ---- what stands in the tables

abbrev info_of : VariantInfo → Parts → VariantInfo
info_of d no_parts = d
info_of d (case_parts i) = i
info_of d (entry_parts a b c) = d

module _ (t : Tables) (sound : IsSound t) where
  -- the places of the parts of a type of cases are those of its shape
  pub sum_info : (y : InterfaceType) (n : Node) (k : Kind) (ms : Members) (i : VariantInfo) → node_of t y ≡ Some n → IsSumKind n.kind → n.parts ≡ case_parts i → HasShape t y (s_node k ms) → i ≡ variant_info (layouts_of ms)
  sum_info y n k ms i is kind parts h =
      let stands = sound.stands y n is in
      let layouts = layouts_are t sound ms n.members (node_members t y n is k ms h) in
      ap (info_of i) (sym parts ∙ stands.parts ∙ by_kind n.kind (map (λ (m : List ℕ × Option InterfaceType). option_map (abi_at t) m.1) n.members) kind ∙ ap (λ ls. case_parts (variant_info ls)) layouts)
    where
      by_kind : (k : Kind) (ls : List (Option CanonicalAbiInfo)) → IsSumKind k → parts_by k ls ≡ case_parts (variant_info ls)
      by_kind k_variant ls h = refl
      by_kind k_option ls h = refl
      by_kind k_result ls h = refl
      by_kind _ ls h = absurd h

  -- payloads are live, and lower than their types
  pub record PairFits (to : InterfaceType) (paired : PairedCase) : Type 0 where
    pub from_live : IsLiveMember t paired.payload
    pub to_live : IsLiveNumbered t paired.found
    pub lower : numbered_height t paired.found ≤ height t to

  pub pair_fits : (from to : InterfaceType) (s : Sum) → IsLive t from → IsLive t to → IsSumOf t from to s → (i : ℕ) (paired : PairedCase) → slice_get s.cases.items i ≡ Some paired → PairFits to paired
  pair_fits from to s from_live to_live sum i paired e =
      let (x, there, is) = paired_from t sum.destination.members sum.source.members i paired (subst (λ ps. slice_get ps i ≡ Some paired) sum.cases e) in
      let found = numbered x.0 (case_at_name x.0 0 sum.destination.members) refl in
      record {
        from_live = subst (λ (p : PairedCase). IsLiveMember t p.payload) (sym is) (live sum.source from from_live sum.source_is i x there);
        to_live = subst (λ (p : PairedCase). IsLiveNumbered t p.found) (sym is) found.0;
        lower = subst (λ (p : PairedCase). numbered_height t p.found ≤ height t to) (sym is) found.1;
      }
    where
      live : (n : Node) (y : InterfaceType) → IsLive t y → node_of t y ≡ Some n → (i : ℕ) (x : List ℕ × Option InterfaceType) → slice_get n.members i ≡ Some x → IsLiveMember t x.1
      live n y l is i (x, None) there = tt
      live n y l is i (x, Some m) there = (member_within t sound y n l is i x m there).live

      low : (n : Node) (y : InterfaceType) → IsLive t y → node_of t y ≡ Some n → (i : ℕ) (x : List ℕ × Option InterfaceType) → slice_get n.members i ≡ Some x → payload_height t x.1 ≤ height t y
      low n y l is i (x, None) there = omega arith
      low n y l is i (x, Some m) there = let w = member_within t sound y n l is i x m there in omega (arith, w.lower)

      numbered : (z : List ℕ) (o : Option NumberedCase) → case_at_name z 0 sum.destination.members ≡ o → IsLiveNumbered t o × (numbered_height t o ≤ height t to)
      numbered z None e = (tt, omega arith)
      numbered z (Some f) e =
          let (i, y, there, is) = named_from z 0 sum.destination.members f e in
          (subst (IsLiveMember t) (sym is) (live sum.destination to to_live sum.destination_is i y there), subst (λ q. payload_height t q ≤ height t to) (sym is) (low sum.destination to to_live sum.destination_is i y there))
