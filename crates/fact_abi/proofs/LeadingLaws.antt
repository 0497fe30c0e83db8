-- How many leading core values stand for flat types that are put together.
use Rattle.std.proofs.Common.{◌≡◌, ℕ, zero, suc, ◌+◌, ◌-◌, ◌<◌, ◌≤◌, max, List, [], ◌∷◌, ◌++◌, length, length-append, take, drop, get_or, Option, Some, None, refl, sym, ap, ◌∙◌, subst, arith, add-one}
use Rattle.std.specs.Prelude.{Bool, true, false, ◌&&◌, if◌then◌else◌, option_map, replicate, IfSome}
use Rattle.std.proofs.Math.Seq.{drop-cons}
use Rattle.std.proofs.lemmas.Bool.{true≢false}
use Rattle.std.proofs.lemmas.List.{drop-drop, drop_all, length-drop, take_all}
use Rattle.fact_machine.specs.declared.types.CoreValue.{CoreValue}
use Rattle.fact_machine.specs.declared.types.CoreValue.TheVariants as core
use Rattle.fact_types.specs.declared.flats.FlatType.{FlatType}
use Rattle.fact_types.specs.declared.flats.FlatType.TheVariants.{I32, I64, F32, F64}
use Rattle.fact_types.specs.declared.interface.InterfaceType.{InterfaceType}
use Rattle.fact_types.specs.declared.extents.MemoryWidth.{MemoryWidth}
use Rattle.fact_types.specs.Flat.{join}
use Rattle.fact_types.specs.Agrees.{names_of}
use Rattle.fact_types.specs.FlatShapes.{flat, flat_plain, flat_members, flat_any, joined, times}
use Rattle.fact_types.specs.Layout.{flags_size, flags_flat}
use Rattle.fact_types.specs.Shapes.{k_flags, k_enum, k_fixed, Shape, s_plain, s_node, Members, no_members, bare, typed, layouts_of}
use Rattle.fact_types.specs.Options.{◌>>=◌}
use Rattle.fact_types.specs.Tables.{Tables, HasShape}
use Rattle.fact_types.proofs.ShapeLaws.{same_some, none_some}
use Rattle.fact_values.specs.Formed.{AreBare}
use Rattle.fact_abi.specs.Leading.{can_lead, leading, Adding, IsWidening, Counting}
use Rattle.fact_values.specs.Lift.{can_stand, can_stand_all}
use Rattle.fact_abi.specs.Nodes.{AreOf}
use Rattle.fact_abi.proofs.LoadLaws.{split_typed, split_bare, front}

-- ---- one list behind another

and_assoc : (a b c : Bool) → (a && (b && c)) ≡ ((a && b) && c)
and_assoc true b c = refl
and_assoc false b c = refl

pub both_lead : (xs ys : List FlatType) (cs : List CoreValue) → can_lead (xs ++ ys) cs ≡ (can_lead xs cs && can_lead ys (drop (length xs) cs))
both_lead [] ys cs = refl
both_lead (x ∷ xs) ys [] = refl
both_lead (x ∷ xs) ys (c ∷ cs) = ap (λ b. can_stand x c && b) (both_lead xs ys cs) ∙ and_assoc (can_stand x c) (can_lead xs cs) (can_lead ys (drop (length xs) cs))

leading_both : (xs ys : List FlatType) (cs : List CoreValue) → leading (xs ++ ys) cs ≡ leading xs cs >>= (λ n. option_map (λ m. n + m) (leading ys (drop n cs)))
leading_both xs ys cs = ap (λ (b : Bool). if b then Some (length (xs ++ ys)) else None) (both_lead xs ys cs) ∙ split (can_lead xs cs)
  where
    last : (b : Bool) → (if b then Some (length (xs ++ ys)) else None) ≡ option_map (λ m. length xs + m) (if b then Some (length ys) else None)
    last true = ap Some (length-append xs ys)
    last false = refl

    split : (a : Bool) → (if (a && can_lead ys (drop (length xs) cs)) then Some (length (xs ++ ys)) else None) ≡ (if a then Some (length xs) else None) >>= (λ n. option_map (λ m. n + m) (leading ys (drop n cs)))
    split true = last (can_lead ys (drop (length xs) cs))
    split false = refl

-- ---- one list or another

-- the join is a least upper bound
pub can_stand_join : (x y : FlatType) (c : CoreValue) → can_stand (join x y) c ≡ (can_stand x c && can_stand y c)
can_stand_join I32 I32 (core.I32 n) = refl
can_stand_join I32 I64 (core.I32 n) = refl
can_stand_join I32 F32 (core.I32 n) = refl
can_stand_join I32 F64 (core.I32 n) = refl
can_stand_join I64 I32 (core.I32 n) = refl
can_stand_join I64 I64 (core.I32 n) = refl
can_stand_join I64 F32 (core.I32 n) = refl
can_stand_join I64 F64 (core.I32 n) = refl
can_stand_join F32 I32 (core.I32 n) = refl
can_stand_join F32 I64 (core.I32 n) = refl
can_stand_join F32 F32 (core.I32 n) = refl
can_stand_join F32 F64 (core.I32 n) = refl
can_stand_join F64 I32 (core.I32 n) = refl
can_stand_join F64 I64 (core.I32 n) = refl
can_stand_join F64 F32 (core.I32 n) = refl
can_stand_join F64 F64 (core.I32 n) = refl
can_stand_join x y c = refl

and_true : (b : Bool) → b ≡ (b && true)
and_true true = refl
and_true false = refl

crossed : (a b p q : Bool) → ((a && b) && (p && q)) ≡ ((a && p) && (b && q))
crossed true true true q = refl
crossed true true false q = refl
crossed true false true q = refl
crossed true false false q = refl
crossed false b p q = refl

pub joined_lead : (xs ys : List FlatType) (cs : List CoreValue) → can_lead (joined xs ys) cs ≡ (can_lead xs cs && can_lead ys cs)
joined_lead [] ys cs = refl
joined_lead (x ∷ xs) [] cs = and_true (can_lead (x ∷ xs) cs)
joined_lead (x ∷ xs) (y ∷ ys) [] = refl
joined_lead (x ∷ xs) (y ∷ ys) (c ∷ cs) = (λ i. can_stand_join x y c i && joined_lead xs ys cs i) ∙ crossed (can_stand x c) (can_stand y c) (can_lead xs cs) (can_lead ys cs)

joined_length : (xs ys : List FlatType) → length (joined xs ys) ≡ max (length xs) (length ys)
joined_length [] ys = omega arith
joined_length (x ∷ xs) [] = omega arith
joined_length (x ∷ xs) (y ∷ ys) = omega (arith, joined_length xs ys)

leading_joined : (xs ys : List FlatType) (cs : List CoreValue) → leading (joined xs ys) cs ≡ leading xs cs >>= (λ n. option_map (λ m. max n m) (leading ys cs))
leading_joined xs ys cs = ap (λ (b : Bool). if b then Some (length (joined xs ys)) else None) (joined_lead xs ys cs) ∙ split (can_lead xs cs)
  where
    last : (b : Bool) → (if b then Some (length (joined xs ys)) else None) ≡ option_map (λ m. max (length xs) m) (if b then Some (length ys) else None)
    last true = ap Some (joined_length xs ys)
    last false = refl

    split : (a : Bool) → (if (a && can_lead ys cs) then Some (length (joined xs ys)) else None) ≡ (if a then Some (length xs) else None) >>= (λ n. option_map (λ m. max n m) (leading ys cs))
    split true = last (can_lead ys cs)
    split false = refl

-- the cases of an enum have no payloads
pub bare_any : (w : MemoryWidth) (ms : Members) → AreBare ms → flat_any w ms ≡ []
bare_any w no_members b = refl
bare_any w (bare n ms) b = bare_any w ms b
bare_any w (typed n s ms) b = absurd b

pub append_nil : {X : Type 0} (xs : List X) → xs ++ [] ≡ xs
append_nil [] = refl
append_nil (x ∷ xs) = ap (λ l. x ∷ l) (append_nil xs)

-- ---- steps of a walk

plus_none : (o : Option ℕ) → o ≡ option_map (λ n. 0 + n) o
plus_none None = refl
plus_none (Some n) = ap Some (omega arith)

max_none : (o : Option ℕ) → o ≡ option_map (λ n. max 0 n) o
max_none None = refl
max_none (Some n) = ap Some (omega arith)

plus_plus : (a b : ℕ) (o : Option ℕ) → option_map (λ n. a + n) (option_map (λ n. b + n) o) ≡ option_map (λ n. (a + b) + n) o
plus_plus a b None = refl
plus_plus a b (Some n) = ap Some (omega arith)

max_max : (a b : ℕ) (o : Option ℕ) → option_map (λ n. max a n) (option_map (λ n. max b n) o) ≡ option_map (λ n. max (max b a) n) o
max_max a b None = refl
max_max a b (Some n) = ap Some (omega arith)

add_one : (all : Option ℕ) (fs gs : List FlatType) (cs : List CoreValue) (total count total' : ℕ) → all ≡ option_map (λ n. total + n) (leading (fs ++ gs) (drop total cs)) → Some count ≡ leading fs (drop total cs) → total' ≡ total + count
    → all ≡ option_map (λ n. total' + n) (leading gs (drop total' cs))
add_one all fs gs cs total count total' same is moved =
    same ∙ ap (option_map (λ n. total + n)) (leading_both fs gs (drop total cs) ∙ ap (λ o. o >>= (λ n. option_map (λ m. n + m) (leading gs (drop n (drop total cs))))) (sym is))
    ∙ plus_plus total count (leading gs (drop count (drop total cs)))
    ∙ ap (λ ds. option_map (λ n. (total + count) + n) (leading gs ds)) (drop-drop count total cs)
    ∙ ap (λ k. option_map (λ n. k + n) (leading gs (drop k cs))) (sym moved)

add_none : (all : Option ℕ) (fs gs : List FlatType) (cs : List CoreValue) (total : ℕ) → all ≡ option_map (λ n. total + n) (leading (fs ++ gs) (drop total cs)) → None ≡ leading fs (drop total cs) → None ≡ all
add_none all fs gs cs total same none =
    sym (same ∙ ap (option_map (λ n. total + n)) (leading_both fs gs (drop total cs) ∙ ap (λ o. o >>= (λ n. option_map (λ m. n + m) (leading gs (drop n (drop total cs))))) (sym none)))

add_all : (all : Option ℕ) (fs : List FlatType) (cs : List CoreValue) (total : ℕ) → fs ≡ [] → all ≡ option_map (λ n. total + n) (leading fs (drop total cs)) → Some total ≡ all
add_all all fs cs total is same = sym (same ∙ ap (λ fs. option_map (λ n. total + n) (leading fs (drop total cs))) is ∙ ap Some (omega arith))

-- ---- members

module _ (t : Tables) (w : MemoryWidth) (cs : List CoreValue) (ms : Members) (types : List (Option InterfaceType)) where
  pub adding_starts : AreOf t types ms → Adding t w cs ms types 0 0
  adding_starts h = record { rest = ms; has = h; same = plus_none (leading (flat_members w ms) cs) }

  pub adding_past : (i total : ℕ) → i < length types → get_or types i None ≡ None → Adding t w cs ms types i total → Adding t w cs ms types (i + 1) total
  adding_past i total lt e g =
      let p = split_bare t (drop (i + 1) types) g.rest (subst (λ xs. AreOf t xs g.rest) (front types i None lt e) g.has) in
      record { rest = p.rest; has = p.has; same = g.same ∙ ap (λ r. option_map (λ n. total + n) (leading (flat_members w r) (drop total cs))) p.is }

  pub adding_on : (i total count total' : ℕ) (y : InterfaceType) → i < length types → get_or types i None ≡ Some y → ((s : Shape) → HasShape t y s → Some count ≡ leading (flat w s) (drop total cs)) → total' ≡ total + count
      → Adding t w cs ms types i total → Adding t w cs ms types (i + 1) total'
  adding_on i total count total' y lt e is moved g =
      let p = split_typed t y (drop (i + 1) types) g.rest (subst (λ xs. AreOf t xs g.rest) (front types i (Some y) lt e) g.has) in
      record {
        rest = p.rest;
        has = p.has;
        same = add_one _ (flat w p.shape) (flat_members w p.rest) cs total count total' (g.same ∙ ap (λ r. option_map (λ n. total + n) (leading (flat_members w r) (drop total cs))) p.is) (is p.shape p.shaped) moved;
      }

  pub not_added : (i total : ℕ) (y : InterfaceType) → i < length types → get_or types i None ≡ Some y → ((s : Shape) → HasShape t y s → None ≡ leading (flat w s) (drop total cs)) → Adding t w cs ms types i total → None ≡ leading (flat_members w ms) cs
  not_added i total y lt e is g =
      let p = split_typed t y (drop (i + 1) types) g.rest (subst (λ xs. AreOf t xs g.rest) (front types i (Some y) lt e) g.has) in
      add_none _ (flat w p.shape) (flat_members w p.rest) cs total (g.same ∙ ap (λ r. option_map (λ n. total + n) (leading (flat_members w r) (drop total cs))) p.is) (is p.shape p.shaped)

  pub all_added : (i total : ℕ) → length types ≤ i → Adding t w cs ms types i total → Some total ≡ leading (flat_members w ms) cs
  all_added i total ge g = add_all _ (flat_members w g.rest) cs total (last g.rest (subst (λ xs. AreOf t xs g.rest) (drop_all i types ge) g.has)) g.same
    where
      last : (r : Members) → AreOf t [] r → flat_members w r ≡ []
      last no_members h = refl
      last (bare n r) h = absurd h
      last (typed n s r) h = absurd h

  -- ---- payloads

  pub widening_starts : AreOf t types ms → IsWidening t w cs ms types 0 0
  widening_starts h = record { rest = ms; has = h; same = max_none (leading (flat_any w ms) cs) }

  pub widening_past : (i most : ℕ) → i < length types → get_or types i None ≡ None → IsWidening t w cs ms types i most → IsWidening t w cs ms types (i + 1) most
  widening_past i most lt e g =
      let p = split_bare t (drop (i + 1) types) g.rest (subst (λ xs. AreOf t xs g.rest) (front types i None lt e) g.has) in
      record { rest = p.rest; has = p.has; same = g.same ∙ ap (λ r. option_map (λ n. max most n) (leading (flat_any w r) cs)) p.is }

  pub widening_on : (i most count most' : ℕ) (y : InterfaceType) → i < length types → get_or types i None ≡ Some y → ((s : Shape) → HasShape t y s → Some count ≡ leading (flat w s) cs) → most' ≡ max count most
      → IsWidening t w cs ms types i most → IsWidening t w cs ms types (i + 1) most'
  widening_on i most count most' y lt e is greater g =
      let p = split_typed t y (drop (i + 1) types) g.rest (subst (λ xs. AreOf t xs g.rest) (front types i (Some y) lt e) g.has) in
      record {
        rest = p.rest;
        has = p.has;
        same = g.same ∙ ap (λ r. option_map (λ n. max most n) (leading (flat_any w r) cs)) p.is
            ∙ ap (option_map (λ n. max most n)) (leading_joined (flat w p.shape) (flat_any w p.rest) cs ∙ ap (λ o. o >>= (λ n. option_map (λ m. max n m) (leading (flat_any w p.rest) cs))) (sym (is p.shape p.shaped)))
            ∙ max_max most count (leading (flat_any w p.rest) cs) ∙ ap (λ k. option_map (λ n. max k n) (leading (flat_any w p.rest) cs)) (sym greater);
      }

  pub not_widened : (i most : ℕ) (y : InterfaceType) → i < length types → get_or types i None ≡ Some y → ((s : Shape) → HasShape t y s → None ≡ leading (flat w s) cs) → IsWidening t w cs ms types i most → None ≡ leading (flat_any w ms) cs
  not_widened i most y lt e is g =
      let p = split_typed t y (drop (i + 1) types) g.rest (subst (λ xs. AreOf t xs g.rest) (front types i (Some y) lt e) g.has) in
      sym (g.same ∙ ap (λ r. option_map (λ n. max most n) (leading (flat_any w r) cs)) p.is
      ∙ ap (option_map (λ n. max most n)) (leading_joined (flat w p.shape) (flat_any w p.rest) cs ∙ ap (λ o. o >>= (λ n. option_map (λ m. max n m) (leading (flat_any w p.rest) cs))) (sym (is p.shape p.shaped))))

  pub all_widened : (i most : ℕ) → length types ≤ i → IsWidening t w cs ms types i most → Some most ≡ leading (flat_any w ms) cs
  all_widened i most ge g = sym (g.same ∙ ap (λ fs. option_map (λ n. max most n) (leading fs cs)) (last g.rest (subst (λ xs. AreOf t xs g.rest) (drop_all i types ge) g.has)) ∙ ap Some (omega arith))
    where
      last : (r : Members) → AreOf t [] r → flat_any w r ≡ []
      last no_members h = refl
      last (bare n r) h = absurd h
      last (typed n s r) h = absurd h

-- ---- elements

module _ (fs : List FlatType) (count : ℕ) (cs : List CoreValue) where
  pub counting_starts : Counting fs count 0 0 cs
  counting_starts = record { same = plus_none (leading (times count fs) cs) ∙ ap (λ k. option_map (λ n. 0 + n) (leading (times k fs) cs)) (let e : count ≡ count - 0 = omega arith in e) }

  next_times : (i total : ℕ) → i < count → Counting fs count i total cs → leading (times count fs) cs ≡ option_map (λ n. total + n) (leading (fs ++ times (count - (i + 1)) fs) (drop total cs))
  next_times i total lt g = g.same ∙ ap (λ k. option_map (λ n. total + n) (leading (times k fs) (drop total cs))) (let e : count - i ≡ suc (count - (i + 1)) = omega (arith, lt) in e)

  pub counting_on : (i total size total' : ℕ) → i < count → Some size ≡ leading fs (drop total cs) → total' ≡ total + size → Counting fs count i total cs → Counting fs count (i + 1) total' cs
  counting_on i total size total' lt is moved g = record { same = add_one _ fs (times (count - (i + 1)) fs) cs total size total' (next_times i total lt g) is moved }

  pub not_counted : (i total : ℕ) → i < count → None ≡ leading fs (drop total cs) → Counting fs count i total cs → None ≡ leading (times count fs) cs
  not_counted i total lt is g = add_none _ fs (times (count - (i + 1)) fs) cs total (next_times i total lt g) is

  pub all_counted : (i total : ℕ) → count ≤ i → Counting fs count i total cs → Some total ≡ leading (times count fs) cs
  all_counted i total ge g = add_all _ (times (count - i) fs) cs total (let e : count - i ≡ 0 = omega (arith, ge) in ap (λ k. times k fs) e) g.same

-- ---- one flat type so many times

pub drop_at : {X : Type 0} (i : ℕ) (xs : List X) (x : X) → i < length xs → x ≡ get_or xs i x → drop i xs ≡ x ∷ drop (i + 1) xs
drop_at i xs x lt at = drop-cons xs i x lt ∙ ap (λ y. y ∷ drop (suc i) xs) (sym at) ∙ ap (λ k. x ∷ drop k xs) (sym (add-one i))

-- what is left to lead of a flat type so many times
abbrev pub Repeats : FlatType → (count i : ℕ) → List CoreValue → Type 0
Repeats f count i cs = (can_lead (replicate count f) cs ≡ can_lead (replicate (count - i) f) (drop i cs)) × (i ≤ length cs)

module _ (f : FlatType) (count : ℕ) (cs : List CoreValue) where
  pub repeats_starts : Repeats f count 0 cs
  repeats_starts = (ap (λ k. can_lead (replicate k f) cs) (let e : count ≡ count - 0 = omega arith in e), omega arith)

  more_left : (i : ℕ) → i < count → count - i ≡ suc (count - (i + 1))
  more_left i lt = omega (arith, lt)

  here : (i : ℕ) (c : CoreValue) → i < count → i < length cs → c ≡ get_or cs i c → can_lead (replicate (count - i) f) (drop i cs) ≡ (can_stand f c && can_lead (replicate (count - (i + 1)) f) (drop (i + 1) cs))
  here i c lt less at = (λ j. can_lead (replicate (more_left i lt j) f) (drop_at i cs c less at j))

  pub repeats_on : (i : ℕ) (c : CoreValue) → i < count → i < length cs → c ≡ get_or cs i c → can_stand f c ≡ true → Repeats f count i cs → Repeats f count (i + 1) cs
  repeats_on i c lt less at stands g = (g.0 ∙ here i c lt less at ∙ ap (λ b. b && can_lead (replicate (count - (i + 1)) f) (drop (i + 1) cs)) stands, omega (arith, less))

  unled : can_lead (replicate count f) cs ≡ false → None ≡ leading (replicate count f) cs
  unled e = sym (ap (λ (b : Bool). if b then Some (length (replicate count f)) else None) e)

  pub not_repeated : (i : ℕ) (c : CoreValue) → i < count → i < length cs → c ≡ get_or cs i c → can_stand f c ≡ false → Repeats f count i cs → None ≡ leading (replicate count f) cs
  not_repeated i c lt less at stands g = unled (g.0 ∙ here i c lt less at ∙ ap (λ b. b && can_lead (replicate (count - (i + 1)) f) (drop (i + 1) cs)) stands)

  pub none_repeated : (i : ℕ) → i < count → length cs ≤ i → Repeats f count i cs → None ≡ leading (replicate count f) cs
  none_repeated i lt ge g = unled (g.0 ∙ (λ j. can_lead (replicate (more_left i lt j) f) (drop_all i cs ge j)))

  length_replicate : (n : ℕ) → length (replicate n f) ≡ n
  length_replicate zero = refl
  length_replicate (suc n) = ap suc (length_replicate n)

  pub all_repeated : (i : ℕ) → count ≤ i → Repeats f count i cs → Some count ≡ leading (replicate count f) cs
  all_repeated i ge g =
      let none : count - i ≡ 0 = omega (arith, ge) in
      ap Some (sym (length_replicate count)) ∙ sym (ap (λ (b : Bool). if b then Some (length (replicate count f)) else None) (g.0 ∙ ap (λ k. can_lead (replicate k f) (drop i cs)) none))

-- ---- a discriminant with payloads

pub discriminant_leads : (fs : List FlatType) (c : CoreValue) (cs : List CoreValue) (o : Option ℕ) → can_stand I32 c ≡ true → o ≡ leading fs cs → option_map (λ n. 1 + n) o ≡ leading (I32 ∷ fs) (c ∷ cs)
discriminant_leads fs c cs o stands is = ap (option_map (λ n. 1 + n)) is ∙ more (can_lead fs cs) ∙ ap (λ (b : Bool). if (b && can_lead fs cs) then Some (suc (length fs)) else None) (sym stands)
  where
    more : (b : Bool) → option_map (λ n. 1 + n) (if b then Some (length fs) else None) ≡ (if b then Some (suc (length fs)) else None)
    more true = ap Some (omega arith)
    more false = refl

pub no_discriminant : (fs : List FlatType) (c : CoreValue) (cs : List CoreValue) → can_stand I32 c ≡ false → None ≡ leading (I32 ∷ fs) (c ∷ cs)
no_discriminant fs c cs e = ap (λ (b : Bool). if (b && can_lead fs cs) then Some (suc (length fs)) else None) (sym e)

-- ---- all core values

-- core values stand for flat types one by one where as many lead as there are
pub stand_all : (fs : List FlatType) (cs : List CoreValue) → leading fs cs ≡ Some (length cs) → can_stand_all fs cs ≡ true
stand_all [] [] e = refl
stand_all [] (c ∷ cs) e = absurd (omega (arith, same_some _ 0 (suc (length cs)) refl e))
stand_all (f ∷ fs) [] e = absurd (none_some None 0 refl e)
stand_all (f ∷ fs) (c ∷ cs) e = go (can_stand f c) (can_lead fs cs) refl e (λ h. stand_all fs cs h)
  where
    go : (a b : Bool) → can_lead fs cs ≡ b → (if (a && b) then Some (suc (length fs)) else None) ≡ Some (suc (length cs)) → (leading fs cs ≡ Some (length cs) → can_stand_all fs cs ≡ true) → (a && can_stand_all fs cs) ≡ true
    go true true q e rest =
        let same : length fs ≡ length cs = omega (arith, same_some _ (suc (length fs)) (suc (length cs)) refl e) in
        rest (ap (λ (b : Bool). if b then Some (length fs) else None) q ∙ ap Some same)
    go true false q e rest = absurd (none_some None (suc (length cs)) refl e)
    go false b q e rest = absurd (none_some None (suc (length cs)) refl e)

pub as_many : (fs : List FlatType) (cs : List CoreValue) → can_stand_all fs cs ≡ true → leading fs cs ≡ Some (length cs)
as_many [] [] e = refl
as_many [] (c ∷ cs) e = absurd (true≢false (sym e))
as_many (f ∷ fs) [] e = absurd (true≢false (sym e))
as_many (f ∷ fs) (c ∷ cs) e = go (can_stand f c) refl e (λ h. as_many fs cs h)
  where
    more : (b : Bool) → (if b then Some (length fs) else None) ≡ Some (length cs) → (if b then Some (suc (length fs)) else None) ≡ Some (suc (length cs))
    more true e = ap Some (ap suc (same_some _ (length fs) (length cs) refl e))
    more false e = absurd (none_some None (length cs) refl e)

    go : (a : Bool) → can_stand f c ≡ a → (a && can_stand_all fs cs) ≡ true → (can_stand_all fs cs ≡ true → leading fs cs ≡ Some (length cs)) → leading (f ∷ fs) (c ∷ cs) ≡ Some (suc (length cs))
    go true p e rest = ap (λ (b : Bool). if (b && can_lead fs cs) then Some (suc (length fs)) else None) p ∙ more (can_lead fs cs) (rest e)
    go false p e rest = absurd (true≢false (sym e))

-- ---- whole types

module _ (w : MemoryWidth) (cs : List CoreValue) where
  pub plain_leads : (y : InterfaceType) (s : Shape) (o : Option ℕ) → s ≡ s_plain y → o ≡ leading (flat_plain w y) cs → o ≡ leading (flat w s) cs
  plain_leads y s o is e = e ∙ ap (λ s. leading (flat w s) cs) (sym is)

  pub enum_leads : (ms : Members) (o : Option ℕ) → AreBare ms → o ≡ leading (I32 ∷ flat_any w ms) cs → o ≡ leading (flat w (s_node k_enum ms)) cs
  enum_leads ms o b e = e ∙ ap (λ fs. leading (I32 ∷ fs) cs) (bare_any w ms b)

  pub flags_lead : (ms : Members) (names : List (List ℕ)) (n : ℕ) (o : Option ℕ) → names ≡ names_of ms → n ≡ flags_flat (flags_size (length names)) → o ≡ leading (replicate n I32) cs → o ≡ leading (flat w (s_node k_flags ms)) cs
  flags_lead ms names n o is words e = e ∙ ap (λ k. leading (replicate k I32) cs) (words ∙ ap (λ ns. flags_flat (flags_size (length ns))) is ∙ ap (λ k. flags_flat (flags_size k)) (count_names ms))
    where
      count_names : (ms : Members) → length (names_of ms) ≡ length (layouts_of ms)
      count_names no_members = refl
      count_names (bare n ms) = ap suc (count_names ms)
      count_names (typed n s ms) = ap suc (count_names ms)

  pub fixed_list_leads : (t : Tables) (e : InterfaceType) (count : ℕ) (ms : Members) (o : Option ℕ) → AreOf t (Some e ∷ []) ms → ((s : Shape) → HasShape t e s → o ≡ leading (times count (flat w s)) cs) → o ≡ leading (flat w (s_node (k_fixed count) ms)) cs
  fixed_list_leads t e count no_members o are leads = absurd are
  fixed_list_leads t e count (bare n ms) o are leads = absurd (none_some (Some e) e are.0 refl)
  fixed_list_leads t e count (typed n s (bare m ms)) o are leads = absurd are.1
  fixed_list_leads t e count (typed n s (typed m z ms)) o are leads = absurd are.1
  fixed_list_leads t e count (typed n s no_members) o are leads =
      leads s (subst (λ y. HasShape t y s) (sym (same_some (Some e) e are.0.0 refl are.0.1)) are.0.2) ∙ ap (λ fs. leading (times count fs) cs) (sym (append_nil (flat w s)))

-- ---- bounds

pub at_some : (o : Option ℕ) (n m : ℕ) → o ≡ Some n → IfSome o (λ n. n ≤ m) → n ≤ m
at_some None n m e h = absurd (none_some None n refl e)
at_some (Some k) n m e h = subst (λ n. n ≤ m) (same_some (Some k) k n refl e) h

-- the core values from a place on, as a slice
pub from_place : {X : Type 0} (n : ℕ) (xs : List X) → take (length xs - n) (drop n xs) ≡ drop n xs
from_place n xs = let long : length xs - n ≡ length (drop n xs) = sym (length-drop n xs) in ap (λ k. take k (drop n xs)) long ∙ take_all (length (drop n xs)) (drop n xs) (omega arith)

pub split_first : {X : Type 0} (d : X) (xs : List X) → 1 ≤ length xs → xs ≡ get_or xs 0 d ∷ take (length xs - 1) (drop 1 xs)
split_first d [] some = absurd (omega (arith, some))
split_first d (x ∷ xs) some = ap (λ ys. x ∷ ys) (sym (from_place 1 (x ∷ xs)))

pub still_within : (cs : List CoreValue) (total count total' : ℕ) (o : Option ℕ) → total ≤ length cs → o ≡ Some count → IfSome o (λ n. n ≤ length (take (length cs - total) (drop total cs))) → total' ≡ total + count → total' ≤ length cs
still_within cs total count total' o le is few moved =
    omega (arith, le, moved, at_some o count (length (take (length cs - total) (drop total cs))) is few, ap length (from_place total cs), length-drop total cs)
