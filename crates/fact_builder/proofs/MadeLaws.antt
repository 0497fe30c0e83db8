-- What a call that makes a type of its members does, by what the call that adds its entry says.
use Rattle.std.proofs.Common.{◌≡◌, ◌<◌, ◌≤◌, ◌+◌, ℕ, zero, suc, List, [], ◌∷◌, ◌++◌, length, Option, Some, None, Ok, Err, Bool, true, false, cond, ◌||◌, ◌⊎◌, if◌then◌else◌, refl, sym, ◌∙◌, ap, subst, arith, inl, inr, length-append}
use Rattle.std.specs.Prelude.{Result, slice_get, option_map, position, ◌↔◌, not, is_ok, IsOk, IsSome, OnErr, All}
use Rattle.std.proofs.lemmas.Bool.{true≢false, false≢true, lt-ltb, le-ltb}
use Rattle.std.proofs.lemmas.Option.{slice_get_within}
use Rattle.std.specs.List.{list_any, position_or_len}
use Rattle.fact_entity.specs.Places.{IsInterned}
use Rattle.fact_entity.specs.declared.error.PushError.{PushError}
use Rattle.fact_entity.specs.declared.error.PushError.TheVariants.{TooLarge}
use Rattle.fact_types.specs.declared.interface.InterfaceType.{InterfaceType}
use Rattle.fact_types.specs.declared.kinds.TypeFixedLengthList.{TypeFixedLengthList}
use Rattle.fact_types.specs.declared.kinds.TypeList.{TypeList}
use Rattle.fact_types.specs.declared.kinds.TypeMap.{TypeMap}
use Rattle.fact_types.specs.declared.kinds.TypeOption.{TypeOption}
use Rattle.fact_types.specs.declared.kinds.TypeRecord.{TypeRecord}
use Rattle.fact_types.specs.declared.kinds.TypeResult.{TypeResult}
use Rattle.fact_types.specs.declared.kinds.TypeTuple.{TypeTuple}
use Rattle.fact_types.specs.contracts.kinds.TypeRecordEq.TheImpl.Laws.{laws-law as record_laws}
use Rattle.fact_types.specs.contracts.kinds.TypeRecordPartialEq.TheImpl as record_eq
use Rattle.fact_types.specs.contracts.ordered.TypeVariantEq.TheImpl.Laws.{laws-law as variant_laws}
use Rattle.fact_types.specs.contracts.ordered.TypeVariantPartialEq.TheImpl as variant_eq
use Rattle.fact_types.specs.contracts.kinds.TypeTupleEq.TheImpl.Laws.{laws-law as tuple_laws}
use Rattle.fact_types.specs.contracts.kinds.TypeTuplePartialEq.TheImpl as tuple_eq
use Rattle.fact_types.specs.contracts.ordered.TypeFlagsEq.TheImpl.Laws.{laws-law as flags_laws}
use Rattle.fact_types.specs.contracts.ordered.TypeFlagsPartialEq.TheImpl as flags_eq
use Rattle.fact_types.specs.contracts.ordered.TypeEnumEq.TheImpl.Laws.{laws-law as enum_laws}
use Rattle.fact_types.specs.contracts.ordered.TypeEnumPartialEq.TheImpl as enum_eq
use Rattle.fact_types.specs.contracts.kinds.TypeOptionEq.TheImpl.Laws.{laws-law as option_laws}
use Rattle.fact_types.specs.contracts.kinds.TypeOptionPartialEq.TheImpl as option_eq
use Rattle.fact_types.specs.contracts.kinds.TypeResultEq.TheImpl.Laws.{laws-law as result_laws}
use Rattle.fact_types.specs.contracts.kinds.TypeResultPartialEq.TheImpl as result_eq
use Rattle.fact_types.specs.contracts.kinds.TypeListEq.TheImpl.Laws.{laws-law as list_laws}
use Rattle.fact_types.specs.contracts.kinds.TypeListPartialEq.TheImpl as list_eq
use Rattle.fact_types.specs.contracts.kinds.TypeMapEq.TheImpl.Laws.{laws-law as map_laws}
use Rattle.fact_types.specs.contracts.kinds.TypeMapPartialEq.TheImpl as map_eq
use Rattle.fact_types.specs.contracts.kinds.TypeFixedLengthListEq.TheImpl.Laws.{laws-law as fixed_length_list_laws}
use Rattle.fact_types.specs.contracts.kinds.TypeFixedLengthListPartialEq.TheImpl as fixed_length_list_eq
use Rattle.fact_types.specs.Ordered.{VariantType, FlagsType, EnumType}
use Rattle.fact_types.specs.Shapes.{Kind, k_record, k_variant, k_list, k_tuple, k_map, k_flags, k_enum, k_option, k_result, k_fixed, k_future, k_stream, Members, no_members, bare, typed}
use Rattle.fact_types.specs.Tables.{Tables, Node, node_of, record_node, variant_node, tuple_node, flags_node, enum_node, option_node, result_node, list_node, map_node, fixed_length_list_node, IsLive, IsLiveMember, HasMembers, Stands, IsSound, entries}
use Rattle.fact_types.proofs.ShapeLaws.{same_some, shaped_members}
use Rattle.fact_builder.specs.Builder.{Builder}
use Rattle.fact_builder.specs.Keeps.{Keeps}
use Rattle.fact_builder.specs.Kinds.{count_of, type_at}
use Rattle.fact_builder.proofs.IndexLaws.{IsTold, entry_in, is_named, one_node, record_told, variant_told, tuple_told, flags_told, enum_told, option_told, result_told, list_told, map_told, fixed_length_list_told}
use Rattle.fact_builder.specs.Makes.{FitsBytes, IsNew, IsPlaced, CannotBeMade, Makes, with_table_of}
use Rattle.fact_builder.proofs.MakingLaws.{PassesTest, laid, fits_where, passes_where}

-- ---- a value that is looked for in a list
or_parts : (a b : Bool) → a || b ≡ false → (a ≡ false) × (b ≡ false)
or_parts true b h = absurd (true≢false h)
or_parts false b h = (refl, h)

behind_all : {X : Type 0} (p : X → Bool) (xs : List X) → list_any p xs ≡ false → position_or_len p xs ≡ length xs
behind_all p [] h = refl
behind_all p (x ∷ xs) h =
    let q = or_parts (p x) (list_any p xs) h in
    let rest = behind_all p xs q.1 in
    ap (λ (b : Bool). cond (not b) (1 + position_or_len p xs) 0) q.0 ∙ omega (arith, rest)

holds_before : {X : Type 0} (p : X → Bool) (xs : List X) (i : ℕ) (x : X) → slice_get xs i ≡ Some x → p x ≡ true → position_or_len p xs < length xs
holds_before p [] i x h e = cc
holds_before p (y ∷ ys) zero x h e = omega (arith, ap (λ (b : Bool). cond (not b) (1 + position_or_len p ys) 0) (ap p (same_some (Some y) y x refl h) ∙ e))
holds_before p (y ∷ ys) (suc i) x h e = omega (arith, no_more (p y) (position_or_len p ys), holds_before p ys i x h e)
  where
    no_more : (b : Bool) (n : ℕ) → cond (not b) (1 + n) 0 ≤ n + 1
    no_more true n = omega arith
    no_more false n = omega arith

-- where a value is not found, it equals none of the list
not_there : {X : Type 0} (p : X → Bool) (xs : List X) (i : ℕ) (x : X) → position p xs ≡ None → slice_get xs i ≡ Some x → p x ≡ true → ⊥
not_there p xs i x n h e =
    let k = position_or_len p xs in
    let found : position p xs ≡ Some k = ap (λ (b : Bool). cond b (Some k) None) (lt-ltb k (length xs) (holds_before p xs i x h e)) in
    cc

none_found : {X : Type 0} (p : X → Bool) (xs : List X) → list_any p xs ≡ false → position p xs ≡ None
none_found p xs h =
    let k = position_or_len p xs in
    ap (λ (b : Bool). cond b (Some k) None) (le-ltb k (length xs) (omega (arith, behind_all p xs h)))

-- a value that is looked for stands in the list as it was, or behind its last one
looked_by : {X : Type 0} (b : Bool) (p : X → Bool) (xs ys : List X) (v : X) (i : ℕ) → list_any p xs ≡ b → i ≡ position_or_len p xs → ys ≡ (if b then xs else xs ++ v ∷ [])
    → (ys ≡ xs) ⊎ ((position p xs ≡ None) × (i ≡ length xs) × (length ys ≡ length xs + 1))
looked_by true p xs ys v i any e n = inl n
looked_by false p xs ys v i any e n = inr (none_found p xs any, e ∙ behind_all p xs any, ap length n ∙ length-append xs (v ∷ []))

looked_for : {X : Type 0} (eq : X → X → Bool) (xs ys : List X) (v : X) (i : ℕ) → IsInterned eq xs ys v i → (ys ≡ xs) ⊎ ((position (eq v) xs ≡ None) × (i ≡ length xs) × (length ys ≡ length xs + 1))
looked_for eq xs ys v i d = looked_by (list_any (eq v) xs) (eq v) xs ys v i refl d.place d.list

-- ---- what stays
-- members go on having their shapes
members_keep : (t u : Tables) → Keeps t u → (ms : Members) (xs : List (List ℕ × Option InterfaceType)) → HasMembers t xs ms → HasMembers u xs ms
members_keep t u k no_members [] h = h
members_keep t u k no_members (x ∷ xs) h = h
members_keep t u k (bare n ms) [] h = h
members_keep t u k (bare n ms) (x ∷ xs) h = (h.0, h.1, members_keep t u k ms xs h.2)
members_keep t u k (typed n s ms) [] h = h
members_keep t u k (typed n s ms) (x ∷ xs) h = (h.0, (h.1.0, h.1.1, k.shapes h.1.0 s h.1.2), members_keep t u k ms xs h.2)

nothing_lost : (t : Tables) → Keeps t t
nothing_lost t = record { live = λ ty l. l; shapes = λ ty s h. h; signatures = λ i params results h. h }

-- a builder is itself with any of its tables
same_table : (k : Kind) (old : Builder) → old ≡ with_table_of k old old
same_table k_record old = refl
same_table k_variant old = refl
same_table k_list old = refl
same_table k_tuple old = refl
same_table k_map old = refl
same_table k_flags old = refl
same_table k_enum old = refl
same_table k_option old = refl
same_table k_result old = refl
same_table (k_fixed size) old = refl
same_table (k_future table instance) old = refl
same_table (k_stream table instance) old = refl

-- ---- answers
ok_no_err : {A E : Type 0} (x : A) (e : E) → Ok x ≡ Err e → ⊥
ok_no_err x e h = cc

err_no_ok : {A E : Type 0} (r : Result A E) (e : E) → r ≡ Err e → IsOk r → ⊥
err_no_ok r e h o = false≢true (sym (ap is_ok h) ∙ o)

same_err : {A E : Type 0} (x y : E) (r : Result A E) → r ≡ Err x → r ≡ Err y → x ≡ y
same_err x y r h e = cc

not_some : {X : Type 0} (o : Option X) → (IsSome o → ⊥) → o ≡ None
not_some None h = refl
not_some (Some x) h = absurd (h refl)

-- ---- the entries of a kind: when two are equal, and that no two have one node
pub record Entries (X : Type 0) : Type 0 where
  pub eq : X → X → Bool
  pub same : (x : X) → eq x x ≡ true
  pub node : X → Node
  pub told : IsTold node

abbrev pub records : Entries TypeRecord
records = record { eq = record_eq.ghosts.eq; same = record_laws.refl; node = record_node; told = record_told }

abbrev pub variants : Entries VariantType
variants = record { eq = variant_eq.ghosts.eq; same = variant_laws.refl; node = variant_node; told = variant_told }

abbrev pub tuples : Entries TypeTuple
tuples = record { eq = tuple_eq.ghosts.eq; same = tuple_laws.refl; node = tuple_node; told = tuple_told }

abbrev pub flags : Entries FlagsType
flags = record { eq = flags_eq.ghosts.eq; same = flags_laws.refl; node = flags_node; told = flags_told }

abbrev pub enums : Entries EnumType
enums = record { eq = enum_eq.ghosts.eq; same = enum_laws.refl; node = enum_node; told = enum_told }

abbrev pub options : Entries TypeOption
options = record { eq = option_eq.ghosts.eq; same = option_laws.refl; node = option_node; told = option_told }

abbrev pub results : Entries TypeResult
results = record { eq = result_eq.ghosts.eq; same = result_laws.refl; node = result_node; told = result_told }

abbrev pub lists : Entries TypeList
lists = record { eq = list_eq.ghosts.eq; same = list_laws.refl; node = list_node; told = list_told }

abbrev pub maps : Entries TypeMap
maps = record { eq = map_eq.ghosts.eq; same = map_laws.refl; node = map_node; told = map_told }

abbrev pub fixed_length_lists : Entries TypeFixedLengthList
fixed_length_lists = record { eq = fixed_length_list_eq.ghosts.eq; same = fixed_length_list_laws.refl; node = fixed_length_list_node; told = fixed_length_list_told }

-- ---- the table of a kind before and after a call
pub record Lies {X : Type 0} (f : X → Node) (k : Kind) (old new : Builder) (xs ys : List X) : Type 0 where
  pub before : (i : ℕ) → node_of old.tables (type_at k i) ≡ option_map f (slice_get xs i)
  pub after : (i : ℕ) → node_of new.tables (type_at k i) ≡ option_map f (slice_get ys i)
  pub live : (i : ℕ) → i < length ys → IsLive new.tables (type_at k i)
  pub had : count_of k old.tables ≡ length xs
  pub has : count_of k new.tables ≡ length ys
  pub unchanged : ys ≡ xs → new ≡ old
  pub counted : entries new.tables + length xs ≡ entries old.tables + length ys
  pub rest : new ≡ with_table_of k old new

counted_by : (n m a b : ℕ) → n ≡ m → m + a ≡ b → n + a ≡ b
counted_by n m a b e h = omega (arith, e, h)

pub records_lie : (old new : Builder) → new ≡ with_table_of k_record old new → Lies record_node k_record old new old.tables.records new.tables.records
records_lie old new r = record {
  before = λ i. refl;
  after = λ i. refl;
  live = λ i l. l;
  had = refl;
  has = refl;
  unchanged = λ q. r ∙ ap (λ (us : List TypeRecord). record old { tables = record old.tables { records = us } }) q;
  counted = counted_by _ _ _ _ (ap (λ (b : Builder). entries b.tables) r) (omega arith);
  rest = r;
}

pub variants_lie : (old new : Builder) → new ≡ with_table_of k_variant old new → Lies variant_node k_variant old new old.tables.variants new.tables.variants
variants_lie old new r = record {
  before = λ i. refl;
  after = λ i. refl;
  live = λ i l. l;
  had = refl;
  has = refl;
  unchanged = λ q. r ∙ ap (λ (us : List VariantType). record old { tables = record old.tables { variants = us } }) q;
  counted = counted_by _ _ _ _ (ap (λ (b : Builder). entries b.tables) r) (omega arith);
  rest = r;
}

pub tuples_lie : (old new : Builder) → new ≡ with_table_of k_tuple old new → Lies tuple_node k_tuple old new old.tables.tuples new.tables.tuples
tuples_lie old new r = record {
  before = λ i. refl;
  after = λ i. refl;
  live = λ i l. l;
  had = refl;
  has = refl;
  unchanged = λ q. r ∙ ap (λ (us : List TypeTuple). record old { tables = record old.tables { tuples = us } }) q;
  counted = counted_by _ _ _ _ (ap (λ (b : Builder). entries b.tables) r) (omega arith);
  rest = r;
}

pub flags_lie : (old new : Builder) → new ≡ with_table_of k_flags old new → Lies flags_node k_flags old new old.tables.flags new.tables.flags
flags_lie old new r = record {
  before = λ i. refl;
  after = λ i. refl;
  live = λ i l. l;
  had = refl;
  has = refl;
  unchanged = λ q. r ∙ ap (λ (us : List FlagsType). record old { tables = record old.tables { flags = us } }) q;
  counted = counted_by _ _ _ _ (ap (λ (b : Builder). entries b.tables) r) (omega arith);
  rest = r;
}

pub enums_lie : (old new : Builder) → new ≡ with_table_of k_enum old new → Lies enum_node k_enum old new old.tables.enums new.tables.enums
enums_lie old new r = record {
  before = λ i. refl;
  after = λ i. refl;
  live = λ i l. l;
  had = refl;
  has = refl;
  unchanged = λ q. r ∙ ap (λ (us : List EnumType). record old { tables = record old.tables { enums = us } }) q;
  counted = counted_by _ _ _ _ (ap (λ (b : Builder). entries b.tables) r) (omega arith);
  rest = r;
}

pub options_lie : (old new : Builder) → new ≡ with_table_of k_option old new → Lies option_node k_option old new old.tables.options new.tables.options
options_lie old new r = record {
  before = λ i. refl;
  after = λ i. refl;
  live = λ i l. l;
  had = refl;
  has = refl;
  unchanged = λ q. r ∙ ap (λ (us : List TypeOption). record old { tables = record old.tables { options = us } }) q;
  counted = counted_by _ _ _ _ (ap (λ (b : Builder). entries b.tables) r) (omega arith);
  rest = r;
}

pub results_lie : (old new : Builder) → new ≡ with_table_of k_result old new → Lies result_node k_result old new old.tables.results new.tables.results
results_lie old new r = record {
  before = λ i. refl;
  after = λ i. refl;
  live = λ i l. l;
  had = refl;
  has = refl;
  unchanged = λ q. r ∙ ap (λ (us : List TypeResult). record old { tables = record old.tables { results = us } }) q;
  counted = counted_by _ _ _ _ (ap (λ (b : Builder). entries b.tables) r) (omega arith);
  rest = r;
}

pub lists_lie : (old new : Builder) → new ≡ with_table_of k_list old new → Lies list_node k_list old new old.tables.lists new.tables.lists
lists_lie old new r = record {
  before = λ i. refl;
  after = λ i. refl;
  live = λ i l. l;
  had = refl;
  has = refl;
  unchanged = λ q. r ∙ ap (λ (us : List TypeList). record old { tables = record old.tables { lists = us } }) q;
  counted = counted_by _ _ _ _ (ap (λ (b : Builder). entries b.tables) r) (omega arith);
  rest = r;
}

pub maps_lie : (old new : Builder) → new ≡ with_table_of k_map old new → Lies map_node k_map old new old.tables.maps new.tables.maps
maps_lie old new r = record {
  before = λ i. refl;
  after = λ i. refl;
  live = λ i l. l;
  had = refl;
  has = refl;
  unchanged = λ q. r ∙ ap (λ (us : List TypeMap). record old { tables = record old.tables { maps = us } }) q;
  counted = counted_by _ _ _ _ (ap (λ (b : Builder). entries b.tables) r) (omega arith);
  rest = r;
}

pub fixed_length_lists_lie : (size : ℕ) (old new : Builder) → new ≡ with_table_of (k_fixed size) old new → Lies fixed_length_list_node (k_fixed size) old new old.tables.fixed_length_lists new.tables.fixed_length_lists
fixed_length_lists_lie size old new r = record {
  before = λ i. refl;
  after = λ i. refl;
  live = λ i l. l;
  had = refl;
  has = refl;
  unchanged = λ q. r ∙ ap (λ (us : List TypeFixedLengthList). record old { tables = record old.tables { fixed_length_lists = us } }) q;
  counted = counted_by _ _ _ _ (ap (λ (b : Builder). entries b.tables) r) (omega arith);
  rest = r;
}

-- ---- what a call does, and that nothing else is too large
pub record Ends (old new : Builder) (k : Kind) (xs : List (List ℕ × Option InterfaceType)) (result : Result InterfaceType PushError) : Type 0 where
  pub makes : Makes old new k xs result
  pub exact : result ≡ Err TooLarge ↔ CannotBeMade old.tables k xs

-- a layout that passes its test fits
never_unfit : (t : Tables) (k : Kind) (xs : List (List ℕ × Option InterfaceType)) → IsSound t → All (λ m. IsLiveMember t m.1) xs → PassesTest k (laid t xs) → ((ms : Members) → HasMembers t xs ms → FitsBytes k ms → ⊥) → ⊥
never_unfit t k xs s l p u = let (ms, h, b) = shaped_members t s xs l in u ms h (fits_where t k xs s p ms h)

-- a refusal
refused : (old : Builder) (k : Kind) (xs : List (List ℕ × Option InterfaceType)) (y : PushError) → (y ≡ TooLarge → CannotBeMade old.tables k xs) → Makes old old k xs (Err y)
refused old k xs y w = record {
  live = tt;
  shaped = tt;
  placed = tt;
  fits = tt;
  too_large = λ e. w (same_err y TooLarge (Err y) refl e);
  refuses = λ v. refl;
  refused = refl;
  keeps = nothing_lost old.tables;
  grows = omega arith;
  rest = same_table k old;
}

pub does_not_fit : (old : Builder) (k : Kind) (xs : List (List ℕ × Option InterfaceType)) → IsSound old.tables → (PassesTest k (laid old.tables xs) → ⊥) → Ends old old k xs (Err TooLarge)
does_not_fit old k xs s n =
    let large : CannotBeMade old.tables k xs = inl (λ ms h f. n (passes_where old.tables k xs s ms h f)) in
    record { makes = refused old k xs TooLarge (λ e. large); exact = (λ e. large, λ v. refl) }

module _ {X : Type 0} (xs_of : Entries X) (old new : Builder) (xs ys : List X) (v : X) (lies : Lies xs_of.node (xs_of.node v).kind old new xs ys) (sound : IsSound old.tables) (stands : Stands old.tables (xs_of.node v)) (passes : PassesTest (xs_of.node v).kind (laid old.tables (xs_of.node v).members)) where
  -- the kind and the members of the entry
  abbrev k : Kind
  k = (xs_of.node v).kind

  abbrev ms : List (List ℕ × Option InterfaceType)
  ms = (xs_of.node v).members

  is_new : position (xs_of.eq v) xs ≡ None → IsNew old.tables k ms
  is_new none ty n e same_kind same_members =
      let (i, names) = is_named old.tables ty n e in
      let one = one_node old.tables n (xs_of.node v) (sound.stands ty n e) stands same_kind same_members in
      let here = sym (lies.before i) ∙ ap (λ (c : Kind). node_of old.tables (type_at c i)) (sym same_kind) ∙ ap (node_of old.tables) (sym names) ∙ e ∙ ap Some one in
      let (x, at, is) = entry_in xs_of.node (slice_get xs i) (xs_of.node v) here in
      not_there (xs_of.eq v) xs i x none at (ap (xs_of.eq v) (xs_of.told x v is) ∙ xs_of.same v)

  unfit : ((us : Members) → HasMembers old.tables ms us → FitsBytes k us → ⊥) → ⊥
  unfit = never_unfit old.tables k ms sound stands.live passes

  placed_at : (i : ℕ) → i < length ys → (ys ≡ xs) ⊎ ((position (xs_of.eq v) xs ≡ None) × (i ≡ length xs) × (length ys ≡ length xs + 1)) → IsPlaced old new k ms (type_at k i)
  placed_at i within (inl same) = record {
    place = i;
    of_kind = refl;
    found_or_added = inl (lies.unchanged same, omega (arith, within, ap length same, lies.had));
  }
  placed_at i within (inr (none, at, one_more)) = record {
    place = i;
    of_kind = refl;
    found_or_added = inr (at ∙ sym lies.had, lies.has ∙ one_more ∙ ap (λ (n : ℕ). n + 1) (sym lies.had), is_new none);
  }

  grows : (i : ℕ) → (ys ≡ xs) ⊎ ((position (xs_of.eq v) xs ≡ None) × (i ≡ length xs) × (length ys ≡ length xs + 1)) → entries new.tables ≤ entries old.tables + 1
  grows i (inl same) = omega (arith, lies.counted, ap length same)
  grows i (inr (none, at, one_more)) = omega (arith, lies.counted, one_more)

  never_large : {J : Type 0} (i : ℕ) (j : J) → slice_get ys i ≡ Some v → (Ok j ≡ Err TooLarge ↔ ((position (xs_of.eq v) xs ≡ None) × (length xs ≡ 4294967295)))
      → (ys ≡ xs) ⊎ ((position (xs_of.eq v) xs ≡ None) × (i ≡ length xs) × (length ys ≡ length xs + 1)) → CannotBeMade old.tables k ms → ⊥
  never_large i j e t l (inl u) = unfit u
  never_large i j e t (inl same) (inr (apart, full)) = apart (type_at k i) (xs_of.node v) (lies.before i ∙ ap (option_map xs_of.node) (ap (λ (us : List X). slice_get us i) (sym same) ∙ e)) refl refl
  never_large i j e t (inr (none, at, one_more)) (inr (apart, full)) = absurd (ok_no_err j TooLarge (t.1 (none, sym lies.had ∙ full)))

  -- the entry was found or added
  pub entered : {J : Type 0} (i : ℕ) (j : J) → Keeps old.tables new.tables → IsInterned xs_of.eq xs ys v i → slice_get ys i ≡ Some v → (Ok j ≡ Err TooLarge ↔ ((position (xs_of.eq v) xs ≡ None) × (length xs ≡ 4294967295)))
      → Ends old new k ms (Ok (type_at k i))
  entered i j keeps d e t =
      let node : node_of new.tables (type_at k i) ≡ Some (xs_of.node v) = lies.after i ∙ ap (option_map xs_of.node) e in
      let within = slice_get_within ys i v e in
      let looked = looked_for xs_of.eq xs ys v i d in
      record {
        makes = record {
          live = lies.live i within;
          shaped = λ us h. (xs_of.node v, node, refl, members_keep old.tables new.tables keeps us ms h);
          placed = placed_at i within looked;
          fits = λ us h. fits_where old.tables k ms sound passes us h;
          too_large = λ q. absurd (ok_no_err _ _ q);
          refuses = λ w. absurd (never_large i j e t looked w);
          refused = tt;
          keeps = keeps;
          grows = grows i looked;
          rest = lies.rest;
        };
        exact = (λ q. absurd (ok_no_err _ _ q), λ w. absurd (never_large i j e t looked w));
      }

  -- the entry was refused, and so is the type
  pub turned_away : {J : Type 0} (added : Result J PushError) (e y : PushError) (result : Result InterfaceType PushError) (later : Builder) → added ≡ Err e → result ≡ Err y → y ≡ e → OnErr added (later ≡ old)
      → (IsSome (position (xs_of.eq v) xs) → IsOk added) → (added ≡ Err TooLarge ↔ ((position (xs_of.eq v) xs ≡ None) × (length xs ≡ 4294967295))) → Ends old later k ms result
  turned_away added e y result later was is same stayed found t =
      let none : position (xs_of.eq v) xs ≡ None = not_some (position (xs_of.eq v) xs) (λ q. err_no_ok added e was (found q)) in
      let large : y ≡ TooLarge → CannotBeMade old.tables k ms = λ q. let p = t.0 (was ∙ ap Err (sym same ∙ q)) in inr (is_new p.0, lies.had ∙ p.1) in
      let ends : Ends old old k ms (Err y) = record {
        makes = refused old k ms y large;
        exact = (
          λ q. large (same_err y TooLarge (Err y) refl q),
          λ w. elim w [
            | inl u ↦ absurd (unfit u)
            | inr p ↦ ap Err (same ∙ same_err e TooLarge added was (t.1 (none, sym lies.had ∙ p.1)))
          ],
        );
      } in
      let back : later ≡ old = subst (λ (r : Result _ PushError). OnErr r (later ≡ old)) was stayed in
      subst (Ends old later k ms) (sym is) (subst (λ (b : Builder). Ends old b k ms (Err y)) (sym back) ends)
