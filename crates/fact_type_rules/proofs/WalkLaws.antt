-- The walk over types: what holds of the types that were met, and what follows at its end.
use Rattle.std.proofs.Common.{◌≡◌, ◌⊎◌, ◌<◌, ◌≤◌, ◌+◌, ℕ, suc, Bool, true, false, List, [], ◌∷◌, ◌++◌, length, map, take, drop, get_or, Option, Some, None, inl, inr, refl, sym, ◌∙◌, ap, subst, arith, add-one, All, Contains, if◌then◌else◌}
use Rattle.std.specs.Prelude.{slice_get}
use Rattle.std.specs.List.{Any, list_any, sum_by}
use Rattle.std.proofs.lemmas.List.{append-nil, take-append-le, take_all, drop-append-le, append_assoc}
use Rattle.std.proofs.lemmas.List.Elements.{All-append, All-cons, All-nil, All-push, Contains-append_left, Contains-append_right, Contains-append_cases}
use Rattle.std.proofs.lemmas.List.Sums.{sum_by-append, sum_by-drop_more, sum_by_push}
use Rattle.std.proofs.lemmas.Option.{slice_get_within, get_or_from_slice_get}
use Rattle.std.proofs.lemmas.Map.Views.{Contains-from_any}
use Rattle.std.proofs.Math.Seq.{take-suc}
use Rattle.indexmap.specs.IndexSet.{insert_key}
use Rattle.fact_types.specs.declared.interface.InterfaceType.{InterfaceType}
use Rattle.fact_types.specs.contracts.interface.InterfaceTypePartialEq.TheImpl as type_eq
use Rattle.fact_types.specs.Exact.{exact_type}
use Rattle.fact_types.specs.Functions.{HaveShapes}
use Rattle.fact_types.specs.Layout.{payloads}
use Rattle.fact_types.specs.Shapes.{Shape, s_plain, s_node, Members, no_members, bare, typed, depth}
use Rattle.fact_types.specs.Tables.{Tables, Node, node_of, IsLive, IsLiveMember, HasShape, HasMembers, IsSound, entries}
use Rattle.fact_types.proofs.ShapeLaws.{no_node, same_some, none_some, one_shape}
use Rattle.fact_type_rules.specs.declared.rules.Rules.{Rules}
use Rattle.fact_type_rules.specs.TypeFaults.{AnyIn, AnyAmong}
use Rattle.fact_type_rules.specs.Walk.{PutsBehind, BreaksRules, EndsAt, IsClean, IsFaulty, Looked, types_of_node}
use Rattle.fact_type_rules.proofs.ListLaws.{all-contained, all-of, any-cases, any-contained, any-here, any-none, any-there, contains-at, contains-cases, contains-here, contains-none, contains-there}
use Rattle.fact_type_rules.proofs.WeightLaws.{weight, weighs}

abbrev pub same_type : InterfaceType → InterfaceType → Bool
same_type = type_eq.ghosts.eq

-- ---- types that are put behind others

pub nothing-added : (clean old : List InterfaceType) → PutsBehind clean old old []
nothing-added clean old = record {
  added = [];
  behind = sym (append-nil old);
  of_given = λ ty h. h;
  reached = λ ty h. absurd (contains-none ty h);
  lighter = λ w. omega arith;
}

-- one that is there already, or is clean
pub known-added : (clean old new given : List InterfaceType) (ty : InterfaceType) → PutsBehind clean old new given → Contains new ty ⊎ Contains clean ty → PutsBehind clean old new (given ++ ty ∷ [])
known-added clean old new given ty a known = record {
  added = a.added;
  behind = a.behind;
  of_given = λ x h. Contains-append_left given (ty ∷ []) x (a.of_given x h);
  reached = λ x h. elim (Contains-append_cases given (ty ∷ []) x h) [ inl g ↦ a.reached x g | inr g ↦ one x (contains-cases ty x [] g) ];
  lighter = λ w. omega (arith, a.lighter w, sum_by_push w given ty);
}
  where
    one : (x : InterfaceType) → (ty ≡ x) ⊎ Contains [] x → Contains new x ⊎ Contains clean x
    one x (inl e) = subst (λ y. Contains new y ⊎ Contains clean y) e known
    one x (inr h) = absurd (contains-none x h)

-- a new one
new-added : (clean old new given : List InterfaceType) (ty : InterfaceType) → PutsBehind clean old new given → PutsBehind clean old (new ++ ty ∷ []) (given ++ ty ∷ [])
new-added clean old new given ty a = record {
  added = a.added ++ ty ∷ [];
  behind = ap (λ xs. xs ++ ty ∷ []) a.behind ∙ append_assoc old a.added (ty ∷ []);
  of_given = λ x h. elim (Contains-append_cases a.added (ty ∷ []) x h) [ inl g ↦ Contains-append_left given (ty ∷ []) x (a.of_given x g) | inr g ↦ Contains-append_right given (ty ∷ []) x g ];
  reached = λ x h. elim (Contains-append_cases given (ty ∷ []) x h) [ inl g ↦ before x (a.reached x g) | inr g ↦ inl (Contains-append_right new (ty ∷ []) x g) ];
  lighter = λ w. omega (arith, a.lighter w, sum_by_push w given ty, sum_by_push w a.added ty);
}
  where
    before : (x : InterfaceType) → Contains new x ⊎ Contains clean x → Contains (new ++ ty ∷ []) x ⊎ Contains clean x
    before x (inl h) = inl (Contains-append_left new (ty ∷ []) x h)
    before x (inr h) = inr h

pub one-added : (clean old new given : List InterfaceType) (ty : InterfaceType) → PutsBehind clean old new given → PutsBehind clean old (insert_key same_type new ty) (given ++ ty ∷ [])
one-added clean old new given ty a = by (list_any (same_type ty) new) refl
  where
    by : (b : Bool) → list_any (same_type ty) new ≡ b → PutsBehind clean old (insert_key same_type new ty) (given ++ ty ∷ [])
    by true e = subst (λ ks. PutsBehind clean old ks (given ++ ty ∷ [])) (sym (ap (λ c. if c then new else new ++ ty ∷ []) e)) (known-added clean old new given ty a (inl (Contains-from_any exact_type ty new e)))
    by false e = subst (λ ks. PutsBehind clean old ks (given ++ ty ∷ [])) (sym (ap (λ c. if c then new else new ++ ty ∷ []) e)) (new-added clean old new given ty a)

-- each of them has a property that the old and the given ones have
pub added-all : (P : InterfaceType → Type 0) (clean old new given : List InterfaceType) → PutsBehind clean old new given → All P old → All P given → All P new
added-all P clean old new given a h g = subst (All P) (sym a.behind) (All-append P old a.added h (all-of P a.added (λ x w. all-contained P given x g (a.of_given x w))))

pub all-inserted : (P : InterfaceType → Type 0) (ks : List InterfaceType) (ty : InterfaceType) → All P ks → P ty → All P (insert_key same_type ks ty)
all-inserted P ks ty a h = by (list_any (same_type ty) ks) refl
  where
    by : (b : Bool) → list_any (same_type ty) ks ≡ b → All P (insert_key same_type ks ty)
    by true e = subst (All P) (sym (ap (λ c. if c then ks else ks ++ ty ∷ []) e)) a
    by false e = subst (All P) (sym (ap (λ c. if c then ks else ks ++ ty ∷ []) e)) (All-push P ks ty a h)

-- ---- members

-- the types of the members of a live type are live
payloads_live : (t : Tables) (xs : List (List ℕ × Option InterfaceType)) → All (λ m. IsLiveMember t m.1) xs → All (IsLive t) (payloads (map (λ m. m.1) xs))
payloads_live t [] a = All-nil (IsLive t)
payloads_live t ((n, None) ∷ xs) a = payloads_live t xs (λ k d l. a (suc k) d (omega (arith, l)))
payloads_live t ((n, Some ty) ∷ xs) a = All-cons (IsLive t) ty _ (a 0 (n, Some ty) (omega arith)) (payloads_live t xs (λ k d l. a (suc k) d (omega (arith, l))))

pub members_live : (t : Tables) → IsSound t → (ty : InterfaceType) → All (IsLive t) (types_of_node (node_of t ty))
members_live t k ty = by (node_of t ty) refl
  where
    by : (o : Option Node) → node_of t ty ≡ o → All (IsLive t) (types_of_node o)
    by None e = All-nil (IsLive t)
    by (Some n) e = payloads_live t n.members (k.stands ty n e).live

-- what is in a member is in the type
among : (P : Shape → Type 0) (t : Tables) (ms : Members) (xs : List (List ℕ × Option InterfaceType)) (m : InterfaceType) (z : Shape)
    → HasMembers t xs ms → Contains (payloads (map (λ m. m.1) xs)) m → HasShape t m z → AnyIn P z → AnyAmong P ms
among P t no_members [] m z h c k a = absurd (contains-none m c)
among P t no_members (x ∷ xs) m z h c k a = absurd h
among P t (bare n ms) [] m z h c k a = absurd h
among P t (bare n ms) ((y, None) ∷ xs) m z h c k a = among P t ms xs m z h.2 c k a
among P t (bare n ms) ((y, Some ty) ∷ xs) m z h c k a = absurd (none_some _ ty h.1 refl)
among P t (typed n s ms) [] m z h c k a = absurd h
among P t (typed n s ms) ((y, None) ∷ xs) m z h c k a = absurd (none_some _ h.1.0 refl h.1.1)
among P t (typed n s ms) ((y, Some ty) ∷ xs) m z h c k a = by (contains-cases ty m _ c) (λ d. among P t ms xs m z h.2 d k a)
  where
    by : (ty ≡ m) ⊎ Contains (payloads (map (λ m. m.1) xs)) m → (Contains (payloads (map (λ m. m.1) xs)) m → AnyAmong P ms) → AnyIn P s ⊎ AnyAmong P ms
    by (inl e) rest =
        let is : h.1.0 ≡ m = sym (same_some (Some ty) ty h.1.0 refl h.1.1) ∙ e in
        inl (subst (AnyIn P) (one_shape t z s m k (subst (λ ty. HasShape t ty s) is h.1.2)) a)
    by (inr d) rest = inr (rest d)

pub rises : (t : Tables) (r : Rules) → IsSound t → (ty : InterfaceType) → IsLive t ty → (m : InterfaceType) → Contains (types_of_node (node_of t ty)) m → IsFaulty t r m → IsFaulty t r ty
rises t r k ty l m c f = go (k.shaped ty l)
  where
    go : ((s : Shape) × HasShape t ty s × (depth s ≤ entries t)) → IsFaulty t r ty
    go (s_plain p, h, b) = absurd (contains-none m (subst (λ o. Contains (types_of_node o) m) (ap (node_of t) h.0 ∙ no_node t p h.1) c))
    go (s_node kd ms, h, b) = (s_node kd ms, h, inr (among (BreaksRules r) t ms h.0.members m f.0 h.3 (subst (λ o. Contains (types_of_node o) m) h.1 c) f.1 f.2))

any_here : (P : Shape → Type 0) (s : Shape) → P s → AnyIn P s
any_here P (s_plain p) h = h
any_here P (s_node k ms) h = inl h

faulty_here : (t : Tables) (r : Rules) → IsSound t → (ty : InterfaceType) → IsLive t ty → ((s : Shape) → HasShape t ty s → BreaksRules r s) → IsFaulty t r ty
faulty_here t r k ty l f = go (k.shaped ty l)
  where
    go : ((s : Shape) × HasShape t ty s × (depth s ≤ entries t)) → IsFaulty t r ty
    go (s, h, b) = (s, h, any_here (BreaksRules r) s (f s h))

-- ---- the walk

-- a type was looked at, with all types in it met or clean
pub record IsDone (t : Tables) (r : Rules) (met clean : List InterfaceType) (ty : InterfaceType) : Type 0 where
  pub kept : (s : Shape) → HasShape t ty s → BreaksRules r s → ⊥
  pub reached : (m : InterfaceType) → Contains (types_of_node (node_of t ty)) m → Contains met m ⊎ Contains clean m

-- a walk from some types has met types, and has looked at those before a place
pub record IsWalk (t : Tables) (r : Rules) (from met clean : List InterfaceType) (at : ℕ) : Type 0 where
  pub live : All (IsLive t) met
  pub begun : (ty : InterfaceType) → Contains from ty → Contains met ty
  pub done : All (IsDone t r met clean) (take at met)
  pub led : (ty : InterfaceType) → Contains met ty → IsFaulty t r ty → Any (IsFaulty t r) from

pub walk-begins : (t : Tables) (r : Rules) (from clean : List InterfaceType) → All (IsLive t) from → IsWalk t r from from clean 0
walk-begins t r from clean l = record {
  live = l;
  begun = λ ty h. h;
  done = All-nil _;
  led = λ ty c f. any-contained (IsFaulty t r) from ty c f;
}

still-done : (t : Tables) (r : Rules) (met new clean : List InterfaceType) (ty : InterfaceType) → ((x : InterfaceType) → Contains met x → Contains new x) → IsDone t r met clean ty → IsDone t r new clean ty
still-done t r met new clean ty more d = record { kept = d.kept; reached = λ m c. by m (d.reached m c) }
  where
    by : (m : InterfaceType) → Contains met m ⊎ Contains clean m → Contains new m ⊎ Contains clean m
    by m (inl h) = inl (more m h)
    by m (inr h) = inr h

pub walk-goes-on : (t : Tables) (r : Rules) (from met new clean : List InterfaceType) (at : ℕ) (ty : InterfaceType)
    → IsSound t → IsWalk t r from met clean at → slice_get met at ≡ Some ty → Looked t r clean met new ty → IsWalk t r from new clean (at + 1)
walk-goes-on t r from met new clean at ty k w here looked = record {
  live = added-all (IsLive t) clean met new _ looked.adds w.live (members_live t k ty);
  begun = λ x c. more x (w.begun x c);
  done = subst (All (IsDone t r new clean)) (sym looked_at) (All-push (IsDone t r new clean) (take at met) ty before now);
  led = λ x c f. by x f (Contains-append_cases met looked.adds.added x (subst (λ l. Contains l x) looked.adds.behind c));
}
  where
    within : at < length met
    within = slice_get_within met at ty here

    more : (x : InterfaceType) → Contains met x → Contains new x
    more x c = subst (λ l. Contains l x) (sym looked.adds.behind) (Contains-append_left met looked.adds.added x c)

    looked_at : take (at + 1) new ≡ take at met ++ ty ∷ []
    looked_at =
        ap (take (at + 1)) looked.adds.behind ∙ take-append-le (at + 1) met looked.adds.added (omega (arith, within))
        ∙ ap (λ n. take n met) (add-one at) ∙ take-suc met at ty within ∙ ap (λ x. take at met ++ x ∷ []) (get_or_from_slice_get met at ty ty here)

    before : All (IsDone t r new clean) (take at met)
    before i d l = still-done t r met new clean _ more (w.done i d l)

    now : IsDone t r new clean ty
    now = record { kept = looked.kept; reached = looked.adds.reached }

    by : (x : InterfaceType) → IsFaulty t r x → Contains met x ⊎ Contains looked.adds.added x → Any (IsFaulty t r) from
    by x f (inl c) = w.led x c f
    by x f (inr c) = w.led ty (contains-at met at ty here) (rises t r k ty (all-contained (IsLive t) met ty w.live (contains-at met at ty here)) x (looked.adds.of_given x c) f)

-- the types that are still to be looked at weigh less
pub walk-lighter : (t : Tables) (r : Rules) (met new clean : List InterfaceType) (at : ℕ) (ty : InterfaceType)
    → IsSound t → All (IsLive t) met → slice_get met at ≡ Some ty → Looked t r clean met new ty → sum_by (weight t) (drop (at + 1) new) < sum_by (weight t) (drop at met)
walk-lighter t r met new clean at ty k live here looked =
    let within : at < length met = slice_get_within met at ty here in
    let first : sum_by (weight t) (drop at met) ≡ weight t (get_or met at ty) + sum_by (weight t) (drop (at + 1) met) = sum_by-drop_more (weight t) met at ty within in
    let is : weight t (get_or met at ty) ≡ weight t ty = ap (weight t) (get_or_from_slice_get met at ty ty here) in
    let left : sum_by (weight t) (drop (at + 1) new) ≡ sum_by (weight t) (drop (at + 1) met) + sum_by (weight t) looked.adds.added =
    ap (λ l. sum_by (weight t) (drop (at + 1) l)) looked.adds.behind
    ∙ ap (sum_by (weight t)) (drop-append-le (at + 1) met looked.adds.added (omega (arith, within)))
    ∙ sum_by-append (weight t) (drop (at + 1) met) looked.adds.added in
    omega (arith, first, is, left, looked.adds.lighter (weight t), weighs t k ty (all-contained (IsLive t) met ty live (contains-at met at ty here)))

pub walk-finds : (t : Tables) (r : Rules) (from met new clean : List InterfaceType) (at : ℕ) (ty : InterfaceType)
    → IsSound t → IsWalk t r from met clean at → slice_get met at ≡ Some ty → ((s : Shape) → HasShape t ty s → BreaksRules r s) → Any (IsFaulty t r) from
walk-finds t r from met new clean at ty k w here f =
    let c = contains-at met at ty here in
    w.led ty c (faulty_here t r k ty (all-contained (IsLive t) met ty w.live c) f)

-- where all types that were met are looked at, none of them is faulty
mutual
  all_clean : (t : Tables) (r : Rules) (met clean : List InterfaceType) → All (IsDone t r met clean) met → All (IsClean t r) clean
      → (s : Shape) (ty : InterfaceType) → HasShape t ty s → Contains met ty ⊎ Contains clean ty → AnyIn (BreaksRules r) s → ⊥
  all_clean t r met clean d c (s_plain p) ty h (inl w) a = (all-contained (IsDone t r met clean) met ty d w).kept (s_plain p) h a
  all_clean t r met clean d c (s_plain p) ty h (inr w) a = all-contained (IsClean t r) clean ty c w (s_plain p) h a
  all_clean t r met clean d c (s_node k ms) ty h (inr w) a = all-contained (IsClean t r) clean ty c w (s_node k ms) h a
  all_clean t r met clean d c (s_node k ms) ty h (inl w) (inl a) = (all-contained (IsDone t r met clean) met ty d w).kept (s_node k ms) h a
  all_clean t r met clean d c (s_node k ms) ty h (inl w) (inr a) =
      members_clean t r met clean d c ms h.0.members h.3 (λ m g. (all-contained (IsDone t r met clean) met ty d w).reached m (subst (λ o. Contains (types_of_node o) m) (sym h.1) g)) a

  members_clean : (t : Tables) (r : Rules) (met clean : List InterfaceType) → All (IsDone t r met clean) met → All (IsClean t r) clean
      → (ms : Members) (xs : List (List ℕ × Option InterfaceType)) → HasMembers t xs ms → ((m : InterfaceType) → Contains (payloads (map (λ m. m.1) xs)) m → Contains met m ⊎ Contains clean m) → AnyAmong (BreaksRules r) ms → ⊥
  members_clean t r met clean d c no_members xs h g a = a
  members_clean t r met clean d c (bare n ms) [] h g a = h
  members_clean t r met clean d c (bare n ms) ((y, None) ∷ xs) h g a = members_clean t r met clean d c ms xs h.2 g a
  members_clean t r met clean d c (bare n ms) ((y, Some ty) ∷ xs) h g a = none_some _ ty h.1 refl
  members_clean t r met clean d c (typed n s ms) [] h g a = h
  members_clean t r met clean d c (typed n s ms) ((y, None) ∷ xs) h g a = none_some _ h.1.0 refl h.1.1
  members_clean t r met clean d c (typed n s ms) ((y, Some ty) ∷ xs) h g (inl a) =
      let e : ty ≡ h.1.0 = same_some (Some ty) ty h.1.0 refl h.1.1 in
      all_clean t r met clean d c s ty (subst (λ ty. HasShape t ty s) (sym e) h.1.2) (g ty (contains-here ty _)) a
  members_clean t r met clean d c (typed n s ms) ((y, Some ty) ∷ xs) h g (inr a) =
      members_clean t r met clean d c ms xs h.2 (λ m w. g m (contains-there ty m _ w)) a

pub walk-ends : (t : Tables) (r : Rules) (from met clean : List InterfaceType) (at : ℕ) → IsWalk t r from met clean at → length met ≤ at → All (IsClean t r) clean → EndsAt t r from met false
walk-ends t r from met clean at w past c =
    let done : All (IsDone t r met clean) met = subst (All (IsDone t r met clean)) (take_all at met past) w.done in
    (all-of (IsClean t r) met (λ ty h s hs a. all_clean t r met clean done c s ty hs (inl h) a), w.begun)

-- ---- types of a list, by their shapes

pub any-listed : (P : Shape → Type 0) (t : Tables) (xs : List InterfaceType) (ss : List Shape) (ty : InterfaceType) → HaveShapes t xs ss → Contains xs ty → ((s : Shape) → HasShape t ty s → P s) → Any P ss
any-listed P t [] ss ty h c f = absurd (contains-none ty c)
any-listed P t (x ∷ xs) [] ty h c f = absurd h
any-listed P t (x ∷ xs) (s ∷ ss) ty h c f = by (contains-cases x ty xs c) (λ d. any-listed P t xs ss ty h.1 d f)
  where
    by : (x ≡ ty) ⊎ Contains xs ty → (Contains xs ty → Any P ss) → Any P (s ∷ ss)
    by (inl e) rest = any-here P s ss (f s (subst (λ x. HasShape t x s) e h.0))
    by (inr d) rest = any-there P s ss (rest d)

pub none-listed : (P : Shape → Type 0) (t : Tables) (xs : List InterfaceType) (ss : List Shape) → HaveShapes t xs ss → All (λ ty. (s : Shape) → HasShape t ty s → P s → ⊥) xs → Any P ss → ⊥
none-listed P t [] [] h c a = any-none P a
none-listed P t [] (s ∷ ss) h c a = h
none-listed P t (x ∷ xs) [] h c a = h
none-listed P t (x ∷ xs) (s ∷ ss) h c a = by (any-cases P s ss a) (none-listed P t xs ss h.1 (λ k d l. c (suc k) d (omega (arith, l))))
  where
    by : P s ⊎ Any P ss → (Any P ss → ⊥) → ⊥
    by (inl f) rest = c 0 x (omega arith) s h.0 f
    by (inr f) rest = rest f

-- the answers of a walk that began with the types of a list that are not clean
pub faulty-listed : (t : Tables) (r : Rules) (clean met given : List InterfaceType) → PutsBehind clean [] met given → Any (IsFaulty t r) met
    → (ss : List Shape) → HaveShapes t given ss → Any (AnyIn (BreaksRules r)) ss
faulty-listed t r clean met given a (i, ty, l, e, f) ss hs =
    let c : Contains met ty = (i, l, e) in
    any-listed (AnyIn (BreaksRules r)) t given ss ty hs (a.of_given ty (subst (λ l. Contains l ty) a.behind c)) (λ z hz. subst (AnyIn (BreaksRules r)) (one_shape t f.0 z ty f.1 hz) f.2)

pub clean-listed : (t : Tables) (r : Rules) (clean met end given : List InterfaceType) → PutsBehind clean [] met given → All (IsClean t r) clean → EndsAt t r met end false
    → (ss : List Shape) → HaveShapes t given ss → Any (AnyIn (BreaksRules r)) ss → ⊥
clean-listed t r clean met end given a c ends ss hs =
    none-listed (AnyIn (BreaksRules r)) t given ss hs (all-of (IsClean t r) given (λ ty w. by ty (a.reached ty w)))
  where
    by : (ty : InterfaceType) → Contains met ty ⊎ Contains clean ty → IsClean t r ty
    by ty (inl w) = all-contained (IsClean t r) end ty ends.0 (ends.1 ty w)
    by ty (inr w) = all-contained (IsClean t r) clean ty c w
