-- Lists of flat types that are put together, of which one above 16 is none.
use Rattle.std.proofs.Common.{◌≡◌, ℕ, zero, suc, ◌+◌, ◌-◌, ◌<◌, ◌≤◌, max, List, [], ◌∷◌, ◌++◌, length, length-append, take, drop, get_or, Option, Some, None, refl, sym, ap, ◌∙◌, subst, arith, add-one, append_assoc}
use Rattle.std.specs.Prelude.{Bool, true, false, nat_le, cond, replicate, slice_get}
use Rattle.std.proofs.Math.Seq.{drop-cons}
use Rattle.std.proofs.lemmas.Bool.{le-leb, leb-true, leb-false}
use Rattle.std.proofs.lemmas.List.{drop_all, take_all}
use Rattle.fact_types.specs.declared.flats.FlatType.{FlatType}
use Rattle.fact_types.specs.declared.flats.FlatType.TheVariants.{I32}
use Rattle.fact_types.specs.declared.interface.InterfaceType.{InterfaceType}
use Rattle.fact_types.specs.declared.interface.InterfaceType.TheVariants.{S64 as t_s64, U64 as t_u64, Float32 as t_float32, Float64 as t_float64, String as t_string}
use Rattle.fact_types.specs.declared.extents.MemoryWidth.{MemoryWidth}
use Rattle.fact_types.specs.Agrees.{names_of}
use Rattle.fact_types.specs.Flat.{join}
use Rattle.fact_types.specs.FlatShapes.{after_flat, flat, flat_all, flat_any, flat_each, flat_members, flat_plain, flat_types, joined, times, upto, when_upto}
use Rattle.fact_types.specs.Functions.{HaveShapes}
use Rattle.fact_types.specs.Layout.{flags_flat, flags_size}
use Rattle.fact_types.specs.Shapes.{k_enum, k_fixed, k_flags, Shape, s_plain, s_node, Members, no_members, bare, typed, layouts_of}
use Rattle.fact_types.specs.Tables.{Tables, HasShape}
use Rattle.fact_types.proofs.JoinLaws.{joined_joins}
use Rattle.fact_types.proofs.ShapeLaws.{same_some, none_some}
use Rattle.fact_abi.specs.Nodes.{AreOf}
use Rattle.fact_abi.proofs.LeadingLaws.{append_nil}
use Rattle.fact_abi.proofs.LoadLaws.{front, split_bare, split_typed}

-- ---- up to a length

pub within : {X : Type 0} (n : ℕ) (xs : List X) → length xs ≤ n → upto n xs ≡ Some xs
within n xs h = ap (λ b. cond b (Some xs) None) (le-leb (length xs) n h)

pub beyond : {X : Type 0} (n : ℕ) (xs : List X) → n < length xs → upto n xs ≡ None
beyond n xs h = go (nat_le (length xs) n) refl
  where
    go : (b : Bool) → nat_le (length xs) n ≡ b → cond b (Some xs) None ≡ None
    go true is = absurd (omega (arith, h, leb-true (length xs) n is))
    go false is = refl

pub is_within : {X : Type 0} (n : ℕ) (xs ys : List X) → Some ys ≡ upto n xs → (ys ≡ xs) × (length xs ≤ n)
is_within n xs ys e = go (nat_le (length xs) n) refl e
  where
    go : (b : Bool) → nat_le (length xs) n ≡ b → Some ys ≡ cond b (Some xs) None → (ys ≡ xs) × (length xs ≤ n)
    go true is e = (same_some (Some ys) ys xs refl e, leb-true (length xs) n is)
    go false is e = absurd (none_some (Some ys) ys e refl)

pub is_beyond : {X : Type 0} (n : ℕ) (xs : List X) → None ≡ upto n xs → n < length xs
is_beyond n xs e = go (nat_le (length xs) n) refl e
  where
    go : (b : Bool) → nat_le (length xs) n ≡ b → None ≡ cond b (Some xs) None → n < length xs
    go true is e = absurd (none_some (Some xs) xs (sym e) refl)
    go false is e = leb-false (length xs) n is

-- ---- types without members

few_plain : (w : MemoryWidth) (y : InterfaceType) → length (flat_plain w y) ≤ 16
few_plain w t_s64 = omega arith
few_plain w t_u64 = omega arith
few_plain w t_float32 = omega arith
few_plain w t_float64 = omega arith
few_plain w t_string = omega arith
few_plain w _ = omega arith

pub plain_is : (w : MemoryWidth) (y : InterfaceType) (s : Shape) (fs : List FlatType) → s ≡ s_plain y → fs ≡ flat_plain w y → Some fs ≡ flat_types w s
plain_is w y s fs is e = ap Some e ∙ sym (within 16 (flat_plain w y) (few_plain w y)) ∙ ap (flat_types w) (sym is)

-- ---- members one behind the other

-- In front of the member of a place, with these flat types of those before it.
pub record Flattened (t : Tables) (w : MemoryWidth) (ms : Members) (types : List (Option InterfaceType)) (i : ℕ) (all : List FlatType) : Type 0 where
  pub rest : Members
  pub has : AreOf t (drop i types) rest
  pub same : flat_members w ms ≡ all ++ flat_members w rest

pub flattened_starts : (t : Tables) (w : MemoryWidth) (ms : Members) (types : List (Option InterfaceType)) (all : List FlatType) → AreOf t types ms → all ≡ [] → Flattened t w ms types 0 all
flattened_starts t w ms types all h e = record { rest = ms; has = h; same = ap (λ l. l ++ flat_members w ms) (sym e) }

-- the flat types of a member that may be without type
abbrev pub TellsFlat : Tables → MemoryWidth → Option InterfaceType → Option (List FlatType) → Type 0
TellsFlat t w x o = (x ≡ None → o ≡ Some []) × ((y : InterfaceType) → x ≡ Some y → (s : Shape) → HasShape t y s → o ≡ flat_types w s)

module _ (t : Tables) (w : MemoryWidth) (ms : Members) (types : List (Option InterfaceType)) (i : ℕ) (all : List FlatType) (o : Option (List FlatType)) (lt : i < length types) where
  pub flattened_on : (x : Option InterfaceType) → get_or types i None ≡ x → TellsFlat t w x o → (fs : List FlatType) → o ≡ Some fs → (all' : List FlatType) → all' ≡ all ++ fs → Flattened t w ms types i all → Flattened t w ms types (i + 1) all'
  flattened_on None is tells fs there all' more g =
      let p = split_bare t (drop (i + 1) types) g.rest (subst (λ xs. AreOf t xs g.rest) (front types i None lt is) g.has) in
      let none : fs ≡ [] = same_some o fs [] there (tells.0 refl) in
      record {
        rest = p.rest;
        has = p.has;
        same = g.same ∙ ap (λ r. all ++ flat_members w r) p.is ∙ ap (λ l. l ++ flat_members w p.rest) (sym (append_nil all) ∙ ap (λ l. all ++ l) (sym none) ∙ sym more);
      }
  flattened_on (Some y) is tells fs there all' more g =
      let p = split_typed t y (drop (i + 1) types) g.rest (subst (λ xs. AreOf t xs g.rest) (front types i (Some y) lt is) g.has) in
      let own : fs ≡ flat w p.shape = (is_within 16 (flat w p.shape) fs (sym there ∙ tells.1 y refl p.shape p.shaped)).0 in
      record {
        rest = p.rest;
        has = p.has;
        same = g.same ∙ ap (λ r. all ++ flat_members w r) p.is ∙ sym (append_assoc all (flat w p.shape) (flat_members w p.rest)) ∙ ap (λ l. l ++ flat_members w p.rest) (ap (λ l. all ++ l) (sym own) ∙ sym more);
      }

  pub not_flattened : (x : Option InterfaceType) → get_or types i None ≡ x → TellsFlat t w x o → o ≡ None → Flattened t w ms types i all → None ≡ upto 16 (flat_members w ms)
  not_flattened None is tells none g = absurd (none_some o [] none (tells.0 refl))
  not_flattened (Some y) is tells none g =
      let p = split_typed t y (drop (i + 1) types) g.rest (subst (λ xs. AreOf t xs g.rest) (front types i (Some y) lt is) g.has) in
      let long = is_beyond 16 (flat w p.shape) (sym none ∙ tells.1 y refl p.shape p.shaped) in
      let whole = g.same ∙ ap (λ r. all ++ flat_members w r) p.is in
      sym (beyond 16 (flat_members w ms) (omega (arith, long, ap length whole, length-append all (flat w p.shape ++ flat_members w p.rest), length-append (flat w p.shape) (flat_members w p.rest))))

pub too_many : (t : Tables) (w : MemoryWidth) (ms : Members) (types : List (Option InterfaceType)) (i : ℕ) (all : List FlatType) → 16 < length all → Flattened t w ms types i all → None ≡ upto 16 (flat_members w ms)
too_many t w ms types i all long g = sym (beyond 16 (flat_members w ms) (omega (arith, long, ap length g.same, length-append all (flat_members w g.rest))))

nothing_behind : (t : Tables) (w : MemoryWidth) (r : Members) → AreOf t [] r → flat_members w r ≡ []
nothing_behind t w no_members h = refl
nothing_behind t w (bare n r) h = absurd h
nothing_behind t w (typed n s r) h = absurd h

pub all_flattened : (t : Tables) (w : MemoryWidth) (ms : Members) (types : List (Option InterfaceType)) (i : ℕ) (all : List FlatType) → length types ≤ i → length all ≤ 16 → Flattened t w ms types i all → Some all ≡ upto 16 (flat_members w ms)
all_flattened t w ms types i all ge few g =
    let whole : flat_members w ms ≡ all = g.same ∙ ap (λ l. all ++ l) (nothing_behind t w g.rest (subst (λ xs. AreOf t xs g.rest) (drop_all i types ge) g.has)) ∙ append_nil all in
    sym (ap (upto 16) whole ∙ within 16 all few)

-- ---- payloads joined

joined_nil : (xs : List FlatType) → joined xs [] ≡ xs
joined_nil [] = refl
joined_nil (x ∷ xs) = refl

pub joined_length : (xs ys : List FlatType) → length (joined xs ys) ≡ max (length xs) (length ys)
joined_length [] ys = omega arith
joined_length (x ∷ xs) [] = omega arith
joined_length (x ∷ xs) (y ∷ ys) = omega (arith, joined_length xs ys)

pub record Widened (t : Tables) (w : MemoryWidth) (ms : Members) (types : List (Option InterfaceType)) (i : ℕ) (any : List FlatType) : Type 0 where
  pub rest : Members
  pub has : AreOf t (drop i types) rest
  pub same : flat_any w ms ≡ joined any (flat_any w rest)

pub widened_starts : (t : Tables) (w : MemoryWidth) (ms : Members) (types : List (Option InterfaceType)) (any : List FlatType) → AreOf t types ms → any ≡ [] → Widened t w ms types 0 any
widened_starts t w ms types any h e = record { rest = ms; has = h; same = ap (λ l. joined l (flat_any w ms)) (sym e) }

module _ (t : Tables) (w : MemoryWidth) (ms : Members) (types : List (Option InterfaceType)) (i : ℕ) (any : List FlatType) (o : Option (List FlatType)) (lt : i < length types) where
  pub widened_on : (x : Option InterfaceType) → get_or types i None ≡ x → TellsFlat t w x o → (fs : List FlatType) → o ≡ Some fs → (any' : List FlatType) → any' ≡ joined any fs → Widened t w ms types i any → Widened t w ms types (i + 1) any'
  widened_on None is tells fs there any' more g =
      let p = split_bare t (drop (i + 1) types) g.rest (subst (λ xs. AreOf t xs g.rest) (front types i None lt is) g.has) in
      let none : fs ≡ [] = same_some o fs [] there (tells.0 refl) in
      record {
        rest = p.rest;
        has = p.has;
        same = g.same ∙ ap (λ r. joined any (flat_any w r)) p.is ∙ ap (λ l. joined l (flat_any w p.rest)) (sym (joined_nil any) ∙ ap (joined any) (sym none) ∙ sym more);
      }
  widened_on (Some y) is tells fs there any' more g =
      let p = split_typed t y (drop (i + 1) types) g.rest (subst (λ xs. AreOf t xs g.rest) (front types i (Some y) lt is) g.has) in
      let own : fs ≡ flat w p.shape = (is_within 16 (flat w p.shape) fs (sym there ∙ tells.1 y refl p.shape p.shaped)).0 in
      record {
        rest = p.rest;
        has = p.has;
        same = g.same ∙ ap (λ r. joined any (flat_any w r)) p.is ∙ sym (joined_joins any (flat w p.shape) (flat_any w p.rest)) ∙ ap (λ l. joined l (flat_any w p.rest)) (ap (joined any) (sym own) ∙ sym more);
      }

  pub not_widened : (x : Option InterfaceType) → get_or types i None ≡ x → TellsFlat t w x o → o ≡ None → Widened t w ms types i any → None ≡ upto 16 (I32 ∷ flat_any w ms)
  not_widened None is tells none g = absurd (none_some o [] none (tells.0 refl))
  not_widened (Some y) is tells none g =
      let p = split_typed t y (drop (i + 1) types) g.rest (subst (λ xs. AreOf t xs g.rest) (front types i (Some y) lt is) g.has) in
      let long = is_beyond 16 (flat w p.shape) (sym none ∙ tells.1 y refl p.shape p.shaped) in
      let whole = g.same ∙ ap (λ r. joined any (flat_any w r)) p.is in
      sym (beyond 16 (I32 ∷ flat_any w ms) (omega (arith, long, ap length whole, joined_length any (joined (flat w p.shape) (flat_any w p.rest)), joined_length (flat w p.shape) (flat_any w p.rest))))

nothing_joined : (t : Tables) (w : MemoryWidth) (r : Members) → AreOf t [] r → flat_any w r ≡ []
nothing_joined t w no_members h = refl
nothing_joined t w (bare n r) h = absurd h
nothing_joined t w (typed n s r) h = absurd h

pub all_widened : (t : Tables) (w : MemoryWidth) (ms : Members) (types : List (Option InterfaceType)) (i : ℕ) (any : List FlatType) → length types ≤ i → Widened t w ms types i any → any ≡ flat_any w ms
all_widened t w ms types i any ge g = sym (g.same ∙ ap (joined any) (nothing_joined t w g.rest (subst (λ xs. AreOf t xs g.rest) (drop_all i types ge) g.has)) ∙ joined_nil any)

-- ---- joined place by place

pub joined_past : (xs ys : List FlatType) (i : ℕ) → slice_get xs i ≡ None → slice_get (joined xs ys) i ≡ slice_get ys i
joined_past [] ys i e = refl
joined_past (x ∷ xs) [] zero e = absurd (none_some (Some x) x e refl)
joined_past (x ∷ xs) [] (suc i) e = e
joined_past (x ∷ xs) (y ∷ ys) zero e = absurd (none_some (Some x) x e refl)
joined_past (x ∷ xs) (y ∷ ys) (suc i) e = joined_past xs ys i e

pub joined_alone : (xs ys : List FlatType) (i : ℕ) → slice_get ys i ≡ None → slice_get (joined xs ys) i ≡ slice_get xs i
joined_alone [] ys i e = e
joined_alone (x ∷ xs) [] i e = refl
joined_alone (x ∷ xs) (y ∷ ys) zero e = absurd (none_some (Some y) y e refl)
joined_alone (x ∷ xs) (y ∷ ys) (suc i) e = joined_alone xs ys i e

pub joined_both : (xs ys : List FlatType) (i : ℕ) (a b : FlatType) → slice_get xs i ≡ Some a → slice_get ys i ≡ Some b → slice_get (joined xs ys) i ≡ Some (join a b)
joined_both [] ys i a b e f = absurd (none_some None a refl e)
joined_both (x ∷ xs) [] i a b e f = absurd (none_some None b refl f)
joined_both (x ∷ xs) (y ∷ ys) zero a b e f = λ j. Some (join (same_some (Some x) x a refl e j) (same_some (Some y) y b refl f j))
joined_both (x ∷ xs) (y ∷ ys) (suc i) a b e f = joined_both xs ys i a b e f

take_next_suc : {X : Type 0} (xs : List X) (i : ℕ) (x : X) → slice_get xs i ≡ Some x → take (suc i) xs ≡ take i xs ++ x ∷ []
take_next_suc [] i x e = absurd (none_some None x refl e)
take_next_suc (y ∷ xs) zero x e = ap (λ y. y ∷ []) (same_some (Some y) y x refl e)
take_next_suc (y ∷ xs) (suc i) x e = ap (λ l. y ∷ l) (take_next_suc xs i x e)

pub take_next : {X : Type 0} (xs : List X) (i : ℕ) (x : X) → slice_get xs i ≡ Some x → take (i + 1) xs ≡ take i xs ++ x ∷ []
take_next xs i x e = ap (λ n. take n xs) (add-one i) ∙ take_next_suc xs i x e

take_past_suc : {X : Type 0} (xs : List X) (i : ℕ) → slice_get xs i ≡ None → take (suc i) xs ≡ take i xs
take_past_suc [] zero e = refl
take_past_suc [] (suc i) e = refl
take_past_suc (y ∷ xs) zero e = absurd (none_some (Some y) y e refl)
take_past_suc (y ∷ xs) (suc i) e = ap (λ l. y ∷ l) (take_past_suc xs i e)

pub take_past : {X : Type 0} (xs : List X) (i : ℕ) → slice_get xs i ≡ None → take (i + 1) xs ≡ take i xs
take_past xs i e = ap (λ n. take n xs) (add-one i) ∙ take_past_suc xs i e

pub all_joined : (xs ys : List FlatType) (i : ℕ) → max (length xs) (length ys) ≤ i → take i (joined xs ys) ≡ joined xs ys
all_joined xs ys i ge = take_all i (joined xs ys) (omega (arith, ge, joined_length xs ys))

-- ---- so many times

no_times : (n : ℕ) → times {X = FlatType} n [] ≡ []
no_times zero = refl
no_times (suc n) = no_times n

pub times_nothing : (n : ℕ) (fs : List FlatType) → length fs ≡ 0 → Some [] ≡ upto 16 (times n fs)
times_nothing n [] e = ap (upto 16) (sym (no_times n))
times_nothing n (f ∷ fs) e = absurd (omega (arith, e))

pub times_on : (n i : ℕ) (fs all all' whole : List FlatType) → i < n → all' ≡ all ++ fs → all ++ times (n - i) fs ≡ whole → all' ++ times (n - (i + 1)) fs ≡ whole
times_on n i fs all all' whole lt more g =
    let e : n - i ≡ suc (n - (i + 1)) = omega (arith, lt) in
    ap (λ l. l ++ times (n - (i + 1)) fs) more ∙ append_assoc all fs (times (n - (i + 1)) fs) ∙ ap (λ k. all ++ times k fs) (sym e) ∙ g

pub all_times : (n i : ℕ) (fs all whole : List FlatType) → n ≤ i → all ++ times (n - i) fs ≡ whole → all ≡ whole
all_times n i fs all whole ge g = let e : n - i ≡ 0 = omega (arith, ge) in sym (append_nil all) ∙ ap (λ k. all ++ times k fs) (sym e) ∙ g

pub times_zero : (count : ℕ) (fs : List FlatType) → count ≡ 0 → Some [] ≡ upto 16 (times count fs)
times_zero count fs e = ap (λ n. upto 16 (times n fs)) (sym e)

pub long_times : (count : ℕ) (fs : List FlatType) → (count ≡ 0 → ⊥) → 16 < length fs → None ≡ upto 16 (times count fs)
long_times zero fs some long = absurd (some refl)
long_times (suc n) fs some long = sym (beyond 16 (fs ++ times n fs) (omega (arith, long, length-append fs (times n fs))))

-- more than fit so far
pub long_so_far : (all rest whole : List FlatType) → all ++ rest ≡ whole → 16 < length all → None ≡ upto 16 whole
long_so_far all rest whole e long = sym (beyond 16 whole (omega (arith, long, ap length e, length-append all rest)))

-- ---- whole types

pub enum_is : (w : MemoryWidth) (ms : Members) (fs : List FlatType) → fs ≡ I32 ∷ [] → Some fs ≡ flat_types w (s_node k_enum ms)
enum_is w ms fs e = ap Some e

pub flags_are : (w : MemoryWidth) (ms : Members) (names : List (List ℕ)) (n : ℕ) (o : Option (List FlatType)) → names ≡ names_of ms → n ≡ length names → o ≡ upto 16 (replicate (flags_flat (flags_size n)) I32) → o ≡ flat_types w (s_node k_flags ms)
flags_are w ms names n o is count e = e ∙ ap (λ k. upto 16 (replicate (flags_flat (flags_size k)) I32)) (count ∙ ap length is ∙ count_names ms)
  where
    count_names : (ms : Members) → length (names_of ms) ≡ length (layouts_of ms)
    count_names no_members = refl
    count_names (bare n ms) = ap suc (count_names ms)
    count_names (typed n s ms) = ap suc (count_names ms)

pub fixed_list_is : (t : Tables) (w : MemoryWidth) (e : InterfaceType) (count : ℕ) (ms : Members) (o : Option (List FlatType)) → AreOf t (Some e ∷ []) ms → ((s : Shape) → HasShape t e s → o ≡ upto 16 (times count (flat w s))) → o ≡ flat_types w (s_node (k_fixed count) ms)
fixed_list_is t w e count no_members o are is = absurd are
fixed_list_is t w e count (bare n ms) o are is = absurd (none_some (Some e) e are.0 refl)
fixed_list_is t w e count (typed n s (bare m ms)) o are is = absurd are.1
fixed_list_is t w e count (typed n s (typed m z ms)) o are is = absurd are.1
fixed_list_is t w e count (typed n s no_members) o are is =
    is s (subst (λ y. HasShape t y s) (sym (same_some (Some e) e are.0.0 refl are.0.1)) are.0.2) ∙ ap (λ fs. upto 16 (times count fs)) (sym (append_nil (flat w s)))

-- ---- several types

pub record AllFlat (t : Tables) (w : MemoryWidth) (ss : List Shape) (tys : List InterfaceType) (i : ℕ) (all : List FlatType) : Type 0 where
  pub rest : List Shape
  pub has : HaveShapes t (drop i tys) rest
  pub same : flat_each w ss ≡ after_flat (Some all) (flat_each w rest)

after_nothing : (o : Option (List FlatType)) → after_flat (Some []) o ≡ o
after_nothing None = refl
after_nothing (Some fs) = refl

pub all_flat_starts : (t : Tables) (w : MemoryWidth) (ss : List Shape) (tys : List InterfaceType) (all : List FlatType) → HaveShapes t tys ss → all ≡ [] → AllFlat t w ss tys 0 all
all_flat_starts t w ss tys all h e = record { rest = ss; has = h; same = sym (after_nothing (flat_each w ss)) ∙ ap (λ l. after_flat (Some l) (flat_each w ss)) (sym e) }

pub record FirstShape (t : Tables) (y : InterfaceType) (tys : List InterfaceType) (ss : List Shape) : Type 0 where
  pub shape : Shape
  pub rest : List Shape
  pub is : ss ≡ shape ∷ rest
  pub shaped : HasShape t y shape
  pub has : HaveShapes t tys rest

pub first_shape : (t : Tables) (y : InterfaceType) (tys : List InterfaceType) (ss : List Shape) → HaveShapes t (y ∷ tys) ss → FirstShape t y tys ss
first_shape t y tys [] h = absurd h
first_shape t y tys (s ∷ ss) h = record { shape = s; rest = ss; is = refl; shaped = h.0; has = h.1 }

pub type_front : (tys : List InterfaceType) (i : ℕ) (d : InterfaceType) → i < length tys → drop i tys ≡ get_or tys i d ∷ drop (i + 1) tys
type_front tys i d lt = drop-cons tys i d lt ∙ ap (λ k. get_or tys i d ∷ drop k tys) (sym (add-one i))

after_both : (all fs : List FlatType) (o : Option (List FlatType)) → after_flat (Some all) (after_flat (Some fs) o) ≡ after_flat (Some (all ++ fs)) o
after_both all fs None = refl
after_both all fs (Some gs) = ap Some (sym (append_assoc all fs gs))

module _ (t : Tables) (w : MemoryWidth) (ss : List Shape) (tys : List InterfaceType) (i : ℕ) (all : List FlatType) (y : InterfaceType) (o : Option (List FlatType)) (at : drop i tys ≡ y ∷ drop (i + 1) tys) (tells : (s : Shape) → HasShape t y s → o ≡ flat_types w s) (g : AllFlat t w ss tys i all) where
  here : FirstShape t y (drop (i + 1) tys) g.rest
  here = first_shape t y (drop (i + 1) tys) g.rest (subst (λ ys. HaveShapes t ys g.rest) at g.has)

  pub all_flat_on : (fs : List FlatType) → o ≡ Some fs → (all' : List FlatType) → all' ≡ all ++ fs → AllFlat t w ss tys (i + 1) all'
  all_flat_on fs there all' more = record {
    rest = here.rest;
    has = here.has;
    same = g.same ∙ ap (λ r. after_flat (Some all) (flat_each w r)) here.is ∙ ap (λ o. after_flat (Some all) (after_flat o (flat_each w here.rest))) (sym (tells here.shape here.shaped) ∙ there) ∙ after_both all fs (flat_each w here.rest)
        ∙ ap (λ l. after_flat (Some l) (flat_each w here.rest)) (sym more);
  }

  pub not_all_flat : o ≡ None → (limit : ℕ) → None ≡ flat_all w limit ss
  not_all_flat none limit = sym (ap (when_upto limit) (g.same ∙ ap (λ r. after_flat (Some all) (flat_each w r)) here.is ∙ ap (λ o. after_flat (Some all) (after_flat o (flat_each w here.rest))) (sym (tells here.shape here.shaped) ∙ none)))

pub all_are_flat : (t : Tables) (w : MemoryWidth) (ss : List Shape) (tys : List InterfaceType) (i : ℕ) (all : List FlatType) → length tys ≤ i → AllFlat t w ss tys i all → (limit : ℕ) → flat_all w limit ss ≡ upto limit all
all_are_flat t w ss tys i all ge g limit = ap (when_upto limit) (g.same ∙ ap (after_flat (Some all)) (none_left g.rest (subst (λ ys. HaveShapes t ys g.rest) (drop_all i tys ge) g.has))) ∙ ap (upto limit) (append_nil all)
  where
    none_left : (r : List Shape) → HaveShapes t [] r → flat_each w r ≡ Some []
    none_left [] h = refl
    none_left (s ∷ r) h = absurd h
