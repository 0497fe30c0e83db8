-- The shapes of the keys that a translation asks for, from those of all values: on the operand stack they have no more flat types, and they hold texts, lists
-- or maps only where all values do.
use Rattle.std.proofs.Common.{◌≡◌, ℕ, zero, suc, ◌+◌, ◌-◌, ◌≤◌, ◌&&◌, ◌||◌, not, nat_eq, nat_lt, Bool, true, false, List, [], ◌∷◌, ◌++◌, Option, Some, None, refl, ap, ◌∙◌, subst, arith, length, length-append}
use Rattle.std.specs.Prelude.{if◌then◌else◌}
use Rattle.std.specs.List.{AllByRecursion}
use Rattle.std.specs.Str.{bytes_eq}
use Rattle.fact_wasm.proofs.Ranged.{all-append}
use Rattle.fact_types.specs.declared.flats.FlatType.{FlatType}
use Rattle.fact_types.specs.declared.extents.MemoryWidth.{MemoryWidth}
use Rattle.fact_types.specs.Agrees.{chosen}
use Rattle.fact_types.specs.Fields.{Field, field_of}
use Rattle.fact_types.specs.FlatShapes.{AreCounted, IsCounted, flat, flat_any, flat_members, joined, times}
use Rattle.fact_types.specs.PointerPairs.{has_pointer_pair, have_pointer_pair}
use Rattle.fact_types.specs.Shapes.{Kind, k_record, k_variant, k_list, k_tuple, k_map, k_flags, k_enum, k_fixed, k_option, k_result, k_future, k_stream, Shape, s_plain, s_node, Members, no_members, bare, typed}
use Rattle.fact_values.specs.Canonical.{ThereIs}
use Rattle.fact_actions.specs.Outlining.{HelperKey, Route, Translated, Translating, Stack, Memory, cost, in_memories, translates, translates_case, translates_cases, translates_fields, translates_none, translates_then, translates_times, turns_of}
use Rattle.fact_emit.specs.Movable.{CanMove, CanMoveCase, CanMoveFields, CanMoveMember, EachCaseOf}
use Rattle.fact_kinds.specs.Translations.{FitsKey, translates_inside}
use Rattle.fact_kinds.proofs.Found.{among, holds_found}
use Rattle.fact_kinds.proofs.TranslatedShapes.{fields_are, named_found}

-- ---- lengths

joined_left : (xs ys : List FlatType) → length xs ≤ length (joined xs ys)
joined_left [] ys = omega arith
joined_left (x ∷ xs) [] = omega arith
joined_left (x ∷ xs) (y ∷ ys) = let h = joined_left xs ys in omega (arith, h)

joined_right : (xs ys : List FlatType) → length ys ≤ length (joined xs ys)
joined_right [] ys = omega arith
joined_right (x ∷ xs) [] = omega arith
joined_right (x ∷ xs) (y ∷ ys) = let h = joined_right xs ys in omega (arith, h)

times_once : (n : ℕ) (xs : List FlatType) → 1 ≤ n → length xs ≤ length (times n xs)
times_once zero xs h = absurd (omega (arith, h))
times_once (suc n) xs h = omega (arith, length-append xs (times n xs))

no_stack : (e : Memory ≡ Stack) → ⊥
no_stack e = cc

or_first : (a b : Bool) → a ≡ true → (a || b) ≡ true
or_first true b e = refl
or_first false b e = cc

or_second : (a b : Bool) → b ≡ true → (a || b) ≡ true
or_second true b e = refl
or_second false b e = e

-- ---- keys one behind another

module _ (w v : MemoryWidth) (pairs : Bool) where
  abbrev Fit : Translated → Type 0
  Fit x = AllByRecursion (FitsKey w v pairs) x.asked

  then_fit : (f g : Translating) → ((n : ℕ) → Fit (f n)) → ((n : ℕ) → Fit (g n)) → (n : ℕ) → Fit (translates_then f g n)
  then_fit f g a b n = all-append (FitsKey w v pairs) (f n).asked (g (f n).left).asked (a n) (b (f n).left)

  times_fit : (k : ℕ) (f : Translating) → ((n : ℕ) → Fit (f n)) → (n : ℕ) → Fit (translates_times k f n)
  times_fit zero f a n = tt
  times_fit (suc k) f a n = then_fit f (translates_times k f) a (times_fit k f a) n

  abbrev asks_or : ℕ → HelperKey → Translated → Bool → Translated
  asks_or n key x b = if b then record { left = n; asked = key ∷ [] } else x

  pair_fit : (b : Bool) (n : ℕ) (key : HelperKey) (x : Translated) → FitsKey w v pairs key → Fit x → Fit (asks_or n key x b)
  pair_fit true n key x f g = (f, tt)
  pair_fit false n key x f g = g

  -- what is known of a source and of a destination along a route
  pub record SourceFits (r : Route) (s : Shape) : Type 0 where
    pub counted : IsCounted s
    pub few : r.from.place ≡ Stack → length (flat w s) ≤ 16
    pub holds : has_pointer_pair s ≡ true → pairs ≡ true

  pub record TargetFits (r : Route) (u : Shape) : Type 0 where
    pub counted : IsCounted u
    pub few : r.to.place ≡ Stack → length (flat v u) ≤ 16

  -- the same of the members of records and tuples, and of those that values have one of
  pub record SourcesFit (r : Route) (ms : Members) (flats : List FlatType) : Type 0 where
    pub counted : AreCounted ms
    pub few : r.from.place ≡ Stack → length flats ≤ 16
    pub holds : have_pointer_pair ms ≡ true → pairs ≡ true

  pub record TargetsFit (r : Route) (ns : Members) (flats : List FlatType) : Type 0 where
    pub counted : AreCounted ns
    pub few : r.to.place ≡ Stack → length flats ≤ 16

  -- ---- members

  there_is : {A : Type 0} (o : Option A) (P : A → Type 0) → ThereIs o P → (a : A) × (o ≡ Some a) × P a
  there_is None P h = absurd h
  there_is (Some a) P h = (a, refl, h)

  source_field : {r : Route} {ms : Members} (x : List ℕ) (f : Field) → field_of x ms ≡ Some f → SourcesFit r ms (flat_members w ms) → SourceFits r f.shape
  source_field {r} {ms} x f is h = record {
    counted = (among w x ms 0 0 0 f is).counted h.counted;
    few = λ stack.
        let there = among w x ms 0 0 0 f is in
        let lengths : length (flat_members w ms) ≡ length there.front + (length (flat w f.shape) + length there.rest) =
        ap (λ (fs : List FlatType). length fs) there.is ∙ length-append there.front (flat w f.shape ++ there.rest) ∙ ap (λ n. length there.front + n) (length-append (flat w f.shape) there.rest) in
        omega (arith, lengths, h.few stack);
    holds = λ e. h.holds (holds_found x ms 0 0 0 f is e);
  }

  target_first : {r : Route} (x : List ℕ) (u : Shape) (ns : Members) → TargetsFit r (typed x u ns) (flat_members v (typed x u ns)) → TargetFits r u
  target_first x u ns h = record { counted = h.counted.0; few = λ stack. omega (arith, h.few stack, length-append (flat v u) (flat_members v ns)) }

  targets_behind : {r : Route} (x : List ℕ) (u : Shape) (ns : Members) → TargetsFit r (typed x u ns) (flat_members v (typed x u ns)) → TargetsFit r ns (flat_members v ns)
  targets_behind x u ns h = record { counted = h.counted.1; few = λ stack. omega (arith, h.few stack, length-append (flat v u) (flat_members v ns)) }

  -- ---- cases

  sources_later : {r : Route} (x : List ℕ) (s : Shape) (ms : Members) → SourcesFit r (typed x s ms) (flat_any w (typed x s ms)) → SourcesFit r ms (flat_any w ms)
  sources_later x s ms h = record {
    counted = h.counted.1;
    few = λ stack. omega (arith, h.few stack, joined_right (flat w s) (flat_any w ms));
    holds = λ e. h.holds (or_second (has_pointer_pair s) (have_pointer_pair ms) e);
  }

  source_first : {r : Route} (x : List ℕ) (s : Shape) (ms : Members) → SourcesFit r (typed x s ms) (flat_any w (typed x s ms)) → SourceFits r s
  source_first x s ms h = record {
    counted = h.counted.0;
    few = λ stack. omega (arith, h.few stack, joined_left (flat w s) (flat_any w ms));
    holds = λ e. h.holds (or_first (has_pointer_pair s) (have_pointer_pair ms) e);
  }

  cases_fit : (r : Route) (ns : Members) (payload : List ℕ → Shape → Translating) → ((x : List ℕ) (s : Shape) → SourceFits r s → CanMoveCase (record { name = x; payload = Some s }) ns → (n : ℕ) → Fit (payload x s n))
      → (ms : Members) → SourcesFit r ms (flat_any w ms) → EachCaseOf ms (λ c. CanMoveCase c ns) → (n : ℕ) → Fit (translates_cases ms payload n)
  cases_fit r ns payload one no_members h can n = tt
  cases_fit r ns payload one (bare x ms) h can n = cases_fit r ns payload one ms (record { counted = h.counted; few = h.few; holds = h.holds }) (λ k c is. can (suc k) c is) n
  cases_fit r ns payload one (typed x s ms) h can n =
      then_fit (payload x s) (translates_cases ms payload) (one x s (source_first {r = r} x s ms h) (can 0 (record { name = x; payload = Some s }) refl))
      (cases_fit r ns payload one ms (sources_later {r = r} x s ms h) (λ k c is. can (suc k) c is)) n

  -- ---- a pair of one kind

  inside_memories : (r : Route) (ms : Members) → AreCounted ms → (have_pointer_pair ms ≡ true → pairs ≡ true) → SourcesFit (in_memories r) ms (flat_members w ms)
  inside_memories r ms counted holds = record { counted = counted; few = λ e. absurd (no_stack e); holds = holds }

  outside_memories : (r : Route) (ns : Members) → AreCounted ns → TargetsFit (in_memories r) ns (flat_members v ns)
  outside_memories r ns counted = record { counted = counted; few = λ e. absurd (no_stack e) }

  members_fit : (i : ℕ) (r : Route) (s : Shape) (k : Kind) (ns : Members) → SourceFits r s → TargetFits r (s_node k ns) → CanMove s (s_node k ns)
      → ((r' : Route) (ms : Members) → SourcesFit r' ms (flat_members w ms) → TargetsFit r' ns (flat_members v ns) → CanMoveFields ms ns → (n : ℕ) → Fit (translates_fields i r' ms ns n))
      → ((x : List ℕ) (t : Shape) → SourceFits r t → TargetsFit r ns (flat_any v ns) → CanMoveCase (record { name = x; payload = Some t }) ns → (n : ℕ) → Fit (translates_case i r x t ns n))
      → (n : ℕ) → Fit (translates_inside i r s (s_node k ns) n)
  members_fit i r (s_node k_record ms) k_record ns f g can fields case n = fields r ms (record { counted = f.counted.1; few = f.few; holds = f.holds }) (record { counted = g.counted.1; few = g.few }) can n
  members_fit i r (s_node k_tuple ms) k_tuple ns f g can fields case n = fields r ms (record { counted = f.counted.1; few = f.few; holds = f.holds }) (record { counted = g.counted.1; few = g.few }) can n
  members_fit i r (s_node k_list ms) k_list ns f g can fields case n = fields (in_memories r) ms (inside_memories r ms f.counted.1 (λ e. f.holds refl)) (outside_memories r ns g.counted.1) can.fields n
  members_fit i r (s_node k_map ms) k_map ns f g can fields case n = fields (in_memories r) ms (inside_memories r ms f.counted.1 (λ e. f.holds refl)) (outside_memories r ns g.counted.1) can.fields n
  members_fit i r (s_node (k_fixed a) ms) (k_fixed b) ns f g can fields case n =
      times_fit (turns_of r b) (λ m. translates_fields i r ms ns m)
      (fields r ms (record { counted = f.counted.1; few = λ stack. omega (arith, f.few stack, times_once a (flat_members w ms) f.counted.0.1); holds = f.holds })
      (record { counted = g.counted.1; few = λ stack. omega (arith, g.few stack, times_once b (flat_members v ns) g.counted.0.1) }) can.1.fields) n
  members_fit i r (s_node k_variant ms) k_variant ns f g can fields case n =
      cases_fit r ns (λ x t m. translates_case i r x t ns m) (λ x t h can'. case x t h (record { counted = g.counted.1; few = λ stack. omega (arith, g.few stack) }) can') ms
      (record { counted = f.counted.1; few = λ stack. omega (arith, f.few stack); holds = f.holds }) can n
  members_fit i r (s_node k_option ms) k_option ns f g can fields case n =
      cases_fit r ns (λ x t m. translates_case i r x t ns m) (λ x t h can'. case x t h (record { counted = g.counted.1; few = λ stack. omega (arith, g.few stack) }) can') ms
      (record { counted = f.counted.1; few = λ stack. omega (arith, f.few stack); holds = f.holds }) can n
  members_fit i r (s_node k_result ms) k_result ns f g can fields case n =
      cases_fit r ns (λ x t m. translates_case i r x t ns m) (λ x t h can'. case x t h (record { counted = g.counted.1; few = λ stack. omega (arith, g.few stack) }) can') ms
      (record { counted = f.counted.1; few = λ stack. omega (arith, f.few stack); holds = f.holds }) can n
  members_fit i r (s_node k_flags ms) k_flags ns f g can fields case n = tt
  members_fit i r (s_node k_enum ms) k_enum ns f g can fields case n = tt
  members_fit i r (s_node (k_future a b) ms) (k_future c d) ns f g can fields case n = tt
  members_fit i r (s_node (k_stream a b) ms) (k_stream c d) ns f g can fields case n = tt
  members_fit i r _ _ ns f g can fields case n = absurd can

  -- ---- all of them

  mutual
    unfolding translates

    -- Each key that a pair asks for.
    pub keys_fit : (i : ℕ) (r : Route) (s u : Shape) → SourceFits r s → TargetFits r u → CanMove s u → (n : ℕ) → Fit (translates i r s u n)
    keys_fit i r s (s_plain p) f g can n =
        pair_fit (nat_lt n (cost s) && not (nat_eq n i)) n (record { source = s; destination = s_plain p; route = r }) (translates_none (n - cost s)) (record { source_few = f.few; destination_few = g.few; pairs = f.holds }) tt
    keys_fit i r s (s_node k ns) f g can n =
        pair_fit (nat_lt n (cost s) && not (nat_eq n i)) n (record { source = s; destination = s_node k ns; route = r }) (translates_inside i r s (s_node k ns) (n - cost s))
        (record { source_few = f.few; destination_few = g.few; pairs = f.holds })
        (members_fit i r s k ns f g can (λ r' ms f' g' can' m. fields_fit i r' ms ns f' g' can' m) (λ x t f' g' can' m. case_fit i r x t ns f' g' can' m) (n - cost s))

    -- The members of a record or a tuple.
    pub fields_fit : (i : ℕ) (r : Route) (ms ns : Members) → SourcesFit r ms (flat_members w ms) → TargetsFit r ns (flat_members v ns) → CanMoveFields ms ns → (n : ℕ) → Fit (translates_fields i r ms ns n)
    fields_fit i r ms no_members f g can n = tt
    fields_fit i r ms (bare x ns) f g can n = fields_fit i r ms ns f (record { counted = g.counted; few = g.few }) can n
    fields_fit i r ms (typed x u ns) f g can n =
        let (k, field_is, can') = there_is (field_of x ms) (λ (k : Field). CanMoveMember k.shape u) can.0 in
        subst Fit (fields_are i r ms x k.shape u ns n (named_found x ms 0 0 0 k field_is))
        (then_fit (translates i r k.shape u) (translates_fields i r ms ns) (keys_fit i r k.shape u (source_field {r = r} {ms = ms} x k field_is f) (target_first {r = r} x u ns g) can'.moves) (fields_fit i r ms ns f (targets_behind {r = r} x u ns g) can.1) n)

    -- A payload.
    case_fit : (i : ℕ) (r : Route) (x : List ℕ) (s : Shape) (ns : Members) → SourceFits r s → TargetsFit r ns (flat_any v ns) → CanMoveCase (record { name = x; payload = Some s }) ns → (n : ℕ) → Fit (translates_case i r x s ns n)
    case_fit i r x s no_members f g can n = tt
    case_fit i r x s (bare y ns) f g can n = go (bytes_eq y x) can (λ can'. case_fit i r x s ns f (record { counted = g.counted; few = g.few }) can' n)
      where
        go : (b : Bool) → chosen b (Some s ≡ None) (CanMoveCase (record { name = x; payload = Some s }) ns) → (CanMoveCase (record { name = x; payload = Some s }) ns → Fit (translates_case i r x s ns n))
            → Fit (if b then translates_none n else translates_case i r x s ns n)
        go true can' later = tt
        go false can' later = later can'
    case_fit i r x s (typed y u ns) f g can n =
        go (bytes_eq y x) can
        (λ can'. keys_fit i r s u f (record { counted = g.counted.0; few = λ stack. omega (arith, g.few stack, joined_left (flat v u) (flat_any v ns)) }) can'.moves n)
        (λ can'. case_fit i r x s ns f (record { counted = g.counted.1; few = λ stack. omega (arith, g.few stack, joined_right (flat v u) (flat_any v ns)) }) can' n)
      where
        go : (b : Bool) → chosen b (CanMoveMember s u) (CanMoveCase (record { name = x; payload = Some s }) ns) → (CanMoveMember s u → Fit (translates i r s u n))
            → (CanMoveCase (record { name = x; payload = Some s }) ns → Fit (translates_case i r x s ns n)) → Fit (if b then translates i r s u n else translates_case i r x s ns n)
        go true can' here later = here can'
        go false can' here later = later can'
