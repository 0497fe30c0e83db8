-- Where the values of the keys stand that a translation asks for: in memory only where all values do, or where these hold texts, lists or maps.
use Rattle.std.proofs.Common.{◌≡◌, ℕ, zero, suc, ◌-◌, ◌&&◌, ◌||◌, not, nat_eq, nat_lt, Bool, true, false, List, [], ◌∷◌, ◌++◌, Option, Some, None, refl, subst}
use Rattle.std.specs.Prelude.{if◌then◌else◌}
use Rattle.std.specs.List.{AllByRecursion}
use Rattle.std.specs.Str.{bytes_eq}
use Rattle.fact_wasm.proofs.Ranged.{all-append}
use Rattle.fact_types.specs.Agrees.{chosen}
use Rattle.fact_types.specs.Fields.{Field, field_of}
use Rattle.fact_types.specs.PointerPairs.{has_pointer_pair, have_pointer_pair}
use Rattle.fact_types.specs.Shapes.{Kind, k_record, k_variant, k_list, k_tuple, k_map, k_flags, k_enum, k_fixed, k_option, k_result, k_future, k_stream, Shape, s_plain, s_node, Members, no_members, bare, typed}
use Rattle.fact_values.specs.Canonical.{ThereIs}
use Rattle.fact_actions.specs.Outlining.{HelperKey, Route, Translated, Translating, Memory, cost, in_memories, translates, translates_case, translates_cases, translates_fields, translates_none, translates_then, translates_times, turns_of}
use Rattle.fact_emit.specs.Movable.{CanMove, CanMoveCase, CanMoveFields, CanMoveMember, EachCaseOf}
use Rattle.fact_kinds.specs.Translations.{translates_inside}
use Rattle.fact_kinds.proofs.Found.{holds_found}
use Rattle.fact_kinds.proofs.TranslatedShapes.{fields_are, named_found}

or_first : (a b : Bool) → a ≡ true → (a || b) ≡ true
or_first true b e = refl
or_first false b e = cc

or_second : (a b : Bool) → b ≡ true → (a || b) ≡ true
or_second true b e = refl
or_second false b e = e

there_is : {A : Type 0} (o : Option A) (P : A → Type 0) → ThereIs o P → (a : A) × (o ≡ Some a) × P a
there_is None P h = absurd h
there_is (Some a) P h = (a, refl, h)

-- Values of a route that stand in memory do so where such a side has values in memory.
pub record IsRouteIn (in_from in_to : Bool) (r : Route) : Type 0 where
  pub from : r.from.place ≡ Memory → in_from ≡ true
  pub to : r.to.place ≡ Memory → in_to ≡ true

module _ (in_from in_to pairs : Bool) (more : pairs ≡ true → (in_from ≡ true) × (in_to ≡ true)) where
  abbrev StandIn : Translated → Type 0
  StandIn x = AllByRecursion (λ (k : HelperKey). IsRouteIn in_from in_to k.route) x.asked

  then_in : (f g : Translating) → ((n : ℕ) → StandIn (f n)) → ((n : ℕ) → StandIn (g n)) → (n : ℕ) → StandIn (translates_then f g n)
  then_in f g a b n = all-append (λ (k : HelperKey). IsRouteIn in_from in_to k.route) (f n).asked (g (f n).left).asked (a n) (b (f n).left)

  times_in : (k : ℕ) (f : Translating) → ((n : ℕ) → StandIn (f n)) → (n : ℕ) → StandIn (translates_times k f n)
  times_in zero f a n = tt
  times_in (suc k) f a n = then_in f (translates_times k f) a (times_in k f a) n

  abbrev asks_or : ℕ → HelperKey → Translated → Bool → Translated
  asks_or n key x b = if b then record { left = n; asked = key ∷ [] } else x

  pair_in : (b : Bool) (n : ℕ) (key : HelperKey) (x : Translated) → IsRouteIn in_from in_to key.route → StandIn x → StandIn (asks_or n key x b)
  pair_in true n key x f g = (f, tt)
  pair_in false n key x f g = g

  memories_in : (r : Route) → pairs ≡ true → IsRouteIn in_from in_to (in_memories r)
  memories_in r p = record { from = λ e. (more p).0; to = λ e. (more p).1 }

  cases_in : (ns : Members) (payload : List ℕ → Shape → Translating) → ((x : List ℕ) (s : Shape) → (has_pointer_pair s ≡ true → pairs ≡ true) → CanMoveCase (record { name = x; payload = Some s }) ns → (n : ℕ) → StandIn (payload x s n))
      → (ms : Members) → (have_pointer_pair ms ≡ true → pairs ≡ true) → EachCaseOf ms (λ c. CanMoveCase c ns) → (n : ℕ) → StandIn (translates_cases ms payload n)
  cases_in ns payload one no_members h can n = tt
  cases_in ns payload one (bare x ms) h can n = cases_in ns payload one ms h (λ k c is. can (suc k) c is) n
  cases_in ns payload one (typed x s ms) h can n =
      then_in (payload x s) (translates_cases ms payload) (one x s (λ e. h (or_first (has_pointer_pair s) (have_pointer_pair ms) e)) (can 0 (record { name = x; payload = Some s }) refl))
      (cases_in ns payload one ms (λ e. h (or_second (has_pointer_pair s) (have_pointer_pair ms) e)) (λ k c is. can (suc k) c is)) n

  members_in : (i : ℕ) (r : Route) (s : Shape) (k : Kind) (ns : Members) → IsRouteIn in_from in_to r → (has_pointer_pair s ≡ true → pairs ≡ true) → CanMove s (s_node k ns)
      → ((r' : Route) (ms : Members) → IsRouteIn in_from in_to r' → (have_pointer_pair ms ≡ true → pairs ≡ true) → CanMoveFields ms ns → (n : ℕ) → StandIn (translates_fields i r' ms ns n))
      → ((x : List ℕ) (t : Shape) → (has_pointer_pair t ≡ true → pairs ≡ true) → CanMoveCase (record { name = x; payload = Some t }) ns → (n : ℕ) → StandIn (translates_case i r x t ns n))
      → (n : ℕ) → StandIn (translates_inside i r s (s_node k ns) n)
  members_in i r (s_node k_record ms) k_record ns f h can fields case n = fields r ms f h can n
  members_in i r (s_node k_tuple ms) k_tuple ns f h can fields case n = fields r ms f h can n
  members_in i r (s_node k_list ms) k_list ns f h can fields case n = fields (in_memories r) ms (memories_in r (h refl)) (λ e. h refl) can.fields n
  members_in i r (s_node k_map ms) k_map ns f h can fields case n = fields (in_memories r) ms (memories_in r (h refl)) (λ e. h refl) can.fields n
  members_in i r (s_node (k_fixed a) ms) (k_fixed b) ns f h can fields case n = times_in (turns_of r b) (λ m. translates_fields i r ms ns m) (fields r ms f h can.1.fields) n
  members_in i r (s_node k_variant ms) k_variant ns f h can fields case n = cases_in ns (λ x t m. translates_case i r x t ns m) case ms h can n
  members_in i r (s_node k_option ms) k_option ns f h can fields case n = cases_in ns (λ x t m. translates_case i r x t ns m) case ms h can n
  members_in i r (s_node k_result ms) k_result ns f h can fields case n = cases_in ns (λ x t m. translates_case i r x t ns m) case ms h can n
  members_in i r (s_node k_flags ms) k_flags ns f h can fields case n = tt
  members_in i r (s_node k_enum ms) k_enum ns f h can fields case n = tt
  members_in i r (s_node (k_future a b) ms) (k_future c d) ns f h can fields case n = tt
  members_in i r (s_node (k_stream a b) ms) (k_stream c d) ns f h can fields case n = tt
  members_in i r _ _ ns f h can fields case n = absurd can

  mutual
    unfolding translates

    -- Each key that a pair asks for.
    pub keys_in : (i : ℕ) (r : Route) (s u : Shape) → IsRouteIn in_from in_to r → (has_pointer_pair s ≡ true → pairs ≡ true) → CanMove s u → (n : ℕ) → StandIn (translates i r s u n)
    keys_in i r s (s_plain p) f h can n = pair_in (nat_lt n (cost s) && not (nat_eq n i)) n (record { source = s; destination = s_plain p; route = r }) (translates_none (n - cost s)) f tt
    keys_in i r s (s_node k ns) f h can n =
        pair_in (nat_lt n (cost s) && not (nat_eq n i)) n (record { source = s; destination = s_node k ns; route = r }) (translates_inside i r s (s_node k ns) (n - cost s)) f
        (members_in i r s k ns f h can (λ r' ms f' h' can' m. fields_in i r' ms ns f' h' can' m) (λ x t h' can' m. case_in i r x t ns f h' can' m) (n - cost s))

    -- The members of a record or a tuple.
    pub fields_in : (i : ℕ) (r : Route) (ms ns : Members) → IsRouteIn in_from in_to r → (have_pointer_pair ms ≡ true → pairs ≡ true) → CanMoveFields ms ns → (n : ℕ) → StandIn (translates_fields i r ms ns n)
    fields_in i r ms no_members f h can n = tt
    fields_in i r ms (bare x ns) f h can n = fields_in i r ms ns f h can n
    fields_in i r ms (typed x u ns) f h can n =
        let (k, field_is, can') = there_is (field_of x ms) (λ (k : Field). CanMoveMember k.shape u) can.0 in
        subst StandIn (fields_are i r ms x k.shape u ns n (named_found x ms 0 0 0 k field_is))
        (then_in (translates i r k.shape u) (translates_fields i r ms ns) (keys_in i r k.shape u f (λ e. h (holds_found x ms 0 0 0 k field_is e)) can'.moves) (fields_in i r ms ns f h can.1) n)

    -- A payload.
    case_in : (i : ℕ) (r : Route) (x : List ℕ) (s : Shape) (ns : Members) → IsRouteIn in_from in_to r → (has_pointer_pair s ≡ true → pairs ≡ true) → CanMoveCase (record { name = x; payload = Some s }) ns → (n : ℕ) → StandIn (translates_case i r x s ns n)
    case_in i r x s no_members f h can n = tt
    case_in i r x s (bare y ns) f h can n = go (bytes_eq y x) can (λ can'. case_in i r x s ns f h can' n)
      where
        go : (b : Bool) → chosen b (Some s ≡ None) (CanMoveCase (record { name = x; payload = Some s }) ns) → (CanMoveCase (record { name = x; payload = Some s }) ns → StandIn (translates_case i r x s ns n))
            → StandIn (if b then translates_none n else translates_case i r x s ns n)
        go true can' later = tt
        go false can' later = later can'
    case_in i r x s (typed y u ns) f h can n = go (bytes_eq y x) can (λ can'. keys_in i r s u f h can'.moves n) (λ can'. case_in i r x s ns f h can' n)
      where
        go : (b : Bool) → chosen b (CanMoveMember s u) (CanMoveCase (record { name = x; payload = Some s }) ns) → (CanMoveMember s u → StandIn (translates i r s u n))
            → (CanMoveCase (record { name = x; payload = Some s }) ns → StandIn (translates_case i r x s ns n)) → StandIn (if b then translates i r s u n else translates_case i r x s ns n)
        go true can' here later = here can'
        go false can' here later = later can'
