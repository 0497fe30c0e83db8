-- Laws of shapes: the layout in the tables is that of the shape, shapes stay where the tables grow, and a type has one.
use Rattle.std.proofs.Common.{◌≡◌, ◌<◌, ◌≤◌, ℕ, zero, suc, List, [], ◌∷◌, max, length, get_or, Option, Some, None, true, refl, sym, ◌∙◌, ap, subst, arith, All}
use Rattle.std.specs.Prelude.{map, slice_get, option_map}
use Rattle.std.proofs.lemmas.Bool.{true≢false}
use Rattle.fact_types.specs.declared.abi.CanonicalAbiInfo.{CanonicalAbiInfo}
use Rattle.fact_types.specs.declared.interface.InterfaceType.{InterfaceType}
use Rattle.fact_types.specs.declared.interface.InterfaceType.TheVariants.{Record as t_record, Variant as t_variant, List as t_list, Tuple as t_tuple, Map as t_map, Flags as t_flags, Enum as t_enum, Option as t_option, Result as t_result, Future as t_future, Stream as t_stream, FixedLengthList as t_fixed_length_list}
use Rattle.fact_types.specs.Shapes.{Kind, Shape, s_plain, s_node, Members, no_members, bare, typed, plain_layout, layout_by, parts_by, layout_of, layouts_of, deepest}
use Rattle.fact_types.specs.Tables.{Tables, Node, node_of, record_node, variant_node, tuple_node, flags_node, enum_node, option_node, result_node, list_node, map_node, fixed_length_list_node, future_node, stream_node, IsLive, IsLiveMember, is_plain, abi_of_node, abi_at, HasShape, HasMembers, Stands, IsSound, entries}

pub more : {X : Type 0} (x y : X) (xs ys : List X) → x ≡ y → xs ≡ ys → (x ∷ xs) ≡ (y ∷ ys)
more x y xs ys e f = λ i. e i ∷ f i

pub same_some : {X : Type 0} (a : Option X) (x y : X) → a ≡ Some x → a ≡ Some y → x ≡ y
same_some a x y p q = cc

pub none_some : {X : Type 0} (a : Option X) (x : X) → a ≡ None → a ≡ Some x → ⊥
none_some a x p q = cc

-- a plain type names no entry
pub no_node : (t : Tables) (ty : InterfaceType) → is_plain ty ≡ true → node_of t ty ≡ None
no_node t (t_record i) h = absurd (true≢false (sym h))
no_node t (t_variant i) h = absurd (true≢false (sym h))
no_node t (t_list i) h = absurd (true≢false (sym h))
no_node t (t_tuple i) h = absurd (true≢false (sym h))
no_node t (t_map i) h = absurd (true≢false (sym h))
no_node t (t_flags i) h = absurd (true≢false (sym h))
no_node t (t_enum i) h = absurd (true≢false (sym h))
no_node t (t_option i) h = absurd (true≢false (sym h))
no_node t (t_result i) h = absurd (true≢false (sym h))
no_node t (t_future i) h = absurd (true≢false (sym h))
no_node t (t_stream i) h = absurd (true≢false (sym h))
no_node t (t_fixed_length_list i) h = absurd (true≢false (sym h))
no_node t ty h = refl

some_there : {X Y : Type 0} (f : X → Y) (xs : List X) (i : ℕ) → i < length xs → option_map f (slice_get xs i) ≡ None → ⊥
some_there f [] i l h = omega arith
some_there f (x ∷ xs) zero l h = cc
some_there f (x ∷ xs) (suc i) l h = some_there f xs i (omega (arith, l)) h

-- a live type that names no entry is plain
live_plain : (t : Tables) (ty : InterfaceType) → IsLive t ty → node_of t ty ≡ None → is_plain ty ≡ true
live_plain t (t_record i) l h = absurd (some_there record_node t.records i.number l h)
live_plain t (t_variant i) l h = absurd (some_there variant_node t.variants i.number l h)
live_plain t (t_list i) l h = absurd (some_there list_node t.lists i.number l h)
live_plain t (t_tuple i) l h = absurd (some_there tuple_node t.tuples i.number l h)
live_plain t (t_map i) l h = absurd (some_there map_node t.maps i.number l h)
live_plain t (t_flags i) l h = absurd (some_there flags_node t.flags i.number l h)
live_plain t (t_enum i) l h = absurd (some_there enum_node t.enums i.number l h)
live_plain t (t_option i) l h = absurd (some_there option_node t.options i.number l h)
live_plain t (t_result i) l h = absurd (some_there result_node t.results i.number l h)
live_plain t (t_future i) l h = absurd (some_there (future_node t.futures i.number) t.future_tables i.number l h)
live_plain t (t_stream i) l h = absurd (some_there (stream_node t.streams i.number) t.stream_tables i.number l h)
live_plain t (t_fixed_length_list i) l h = absurd (some_there fixed_length_list_node t.fixed_length_lists i.number l h)
live_plain t ty l h = refl

-- ---- the layout in the tables is that of each shape of the type
mutual
  pub layout_is : (t : Tables) → IsSound t → (s : Shape) (ty : InterfaceType) → HasShape t ty s → abi_at t ty ≡ layout_of s
  layout_is t l (s_plain p) ty h = ap (abi_at t) h.0 ∙ ap (abi_of_node (plain_layout p)) (no_node t p h.1)
  layout_is t l (s_node k ms) ty h = ap (abi_of_node (plain_layout ty)) h.1 ∙ (l.stands ty h.0 h.1).laid ∙ ap (layout_by h.0.kind) (layouts_are t l ms h.0.members h.3) ∙ ap (λ (k : Kind). layout_by k (layouts_of ms)) h.2

  pub layouts_are : (t : Tables) → IsSound t → (ms : Members) (xs : List (List ℕ × Option InterfaceType)) → HasMembers t xs ms → map (λ m. option_map (abi_at t) m.1) xs ≡ layouts_of ms
  layouts_are t l no_members [] h = refl
  layouts_are t l no_members (x ∷ xs) h = absurd h
  layouts_are t l (bare n ms) [] h = absurd h
  layouts_are t l (bare n ms) (x ∷ xs) h = more _ _ _ _ (ap (option_map (abi_at t)) h.1) (layouts_are t l ms xs h.2)
  layouts_are t l (typed n s ms) [] h = absurd h
  layouts_are t l (typed n s ms) (x ∷ xs) h = more _ _ _ _ (ap (option_map (abi_at t)) h.1.1 ∙ ap Some (layout_is t l s h.1.0 h.1.2)) (layouts_are t l ms xs h.2)

-- ---- tables that grew: entries keep their places
pub record Grows (t u : Tables) : Type 0 where
  pub nodes : (ty : InterfaceType) (n : Node) → node_of t ty ≡ Some n → node_of u ty ≡ Some n
  pub live : (ty : InterfaceType) → IsLive t ty → IsLive u ty

-- types keep their shapes
mutual
  pub keeps_shape : (t u : Tables) → Grows t u → (s : Shape) (ty : InterfaceType) → HasShape t ty s → HasShape u ty s
  keeps_shape t u g (s_plain p) ty h = h
  keeps_shape t u g (s_node k ms) ty h = (h.0, g.nodes ty h.0 h.1, h.2, keeps_members t u g ms h.0.members h.3)

  pub keeps_members : (t u : Tables) → Grows t u → (ms : Members) (xs : List (List ℕ × Option InterfaceType)) → HasMembers t xs ms → HasMembers u xs ms
  keeps_members t u g no_members [] h = h
  keeps_members t u g no_members (x ∷ xs) h = h
  keeps_members t u g (bare n ms) [] h = h
  keeps_members t u g (bare n ms) (x ∷ xs) h = (h.0, h.1, keeps_members t u g ms xs h.2)
  keeps_members t u g (typed n s ms) [] h = h
  keeps_members t u g (typed n s ms) (x ∷ xs) h = (h.0, (h.1.0, h.1.1, keeps_shape t u g s h.1.0 h.1.2), keeps_members t u g ms xs h.2)

-- the layout of a live type stays
same_stored : (d : CanonicalAbiInfo) (a b : Option Node) → ((n : Node) → a ≡ Some n → b ≡ Some n) → (a ≡ None → b ≡ None) → abi_of_node d b ≡ abi_of_node d a
same_stored d None b f g = ap (abi_of_node d) (g refl)
same_stored d (Some n) b f g = ap (abi_of_node d) (f n refl)

pub same_abi : (t u : Tables) → Grows t u → (ty : InterfaceType) → IsLive t ty → abi_at u ty ≡ abi_at t ty
same_abi t u g ty l = same_stored (plain_layout ty) (node_of t ty) (node_of u ty) (g.nodes ty) (λ h. no_node u ty (live_plain t ty l h))

still_live : (t u : Tables) → Grows t u → (o : Option InterfaceType) → IsLiveMember t o → IsLiveMember u o
still_live t u g None l = tt
still_live t u g (Some ty) l = g.live ty l

same_member : (t u : Tables) → Grows t u → (o : Option InterfaceType) → IsLiveMember t o → option_map (abi_at u) o ≡ option_map (abi_at t) o
same_member t u g None l = refl
same_member t u g (Some ty) l = ap Some (same_abi t u g ty l)

same_members : (t u : Tables) → Grows t u → (xs : List (List ℕ × Option InterfaceType)) → All (λ m. IsLiveMember t m.1) xs → map (λ m. option_map (abi_at u) m.1) xs ≡ map (λ m. option_map (abi_at t) m.1) xs
same_members t u g [] a = refl
same_members t u g (x ∷ xs) a = more _ _ _ _ (same_member t u g x.1 (a 0 x (omega arith))) (same_members t u g xs (λ i d l. a (suc i) d (omega (arith, l))))

-- an entry that stands goes on standing
pub stays : (t u : Tables) → Grows t u → (n : Node) → Stands t n → Stands u n
stays t u g n s =
    let same = sym (same_members t u g n.members s.live) in
    record {
      live = λ k d l. still_live t u g (get_or n.members k d).1 (s.live k d l);
      laid = s.laid ∙ ap (layout_by n.kind) same;
      parts = s.parts ∙ ap (parts_by n.kind) same;
    }

max_le : (a b c : ℕ) → a ≤ c → b ≤ c → max a b ≤ c
max_le a b c p q = grind (arith, p, q)

-- live members have shapes
pub shaped_members : (t : Tables) → IsSound t → (xs : List (List ℕ × Option InterfaceType)) → All (λ m. IsLiveMember t m.1) xs → (ms : Members) × HasMembers t xs ms × (deepest ms ≤ entries t)
shaped_members t k [] a = (no_members, tt, omega arith)
shaped_members t k ((n, None) ∷ xs) a =
    let (ms, hs, b) = shaped_members t k xs (λ i d l. a (suc i) d (omega (arith, l))) in (bare n ms, (refl, refl, hs), b)
shaped_members t k ((n, Some ty) ∷ xs) a =
    let (s, h, d) = k.shaped ty (a 0 (n, Some ty) (omega arith)) in
    let (ms, hs, b) = shaped_members t k xs (λ i d l. a (suc i) d (omega (arith, l))) in
    (typed n s ms, (refl, (ty, refl, h), hs), max_le _ _ _ d b)

-- ---- a type stands for one shape
mutual
  pub one_shape : (t : Tables) (s z : Shape) (ty : InterfaceType) → HasShape t ty s → HasShape t ty z → s ≡ z
  one_shape t (s_plain p) (s_plain q) ty h k = ap s_plain (sym h.0 ∙ k.0)
  one_shape t (s_plain p) (s_node b ns) ty h k = absurd (none_some (node_of t ty) k.0 (ap (node_of t) h.0 ∙ no_node t p h.1) k.1)
  one_shape t (s_node a ms) (s_plain q) ty h k = absurd (none_some (node_of t ty) h.0 (ap (node_of t) k.0 ∙ no_node t q k.1) h.1)
  one_shape t (s_node a ms) (s_node b ns) ty h k =
      let e : h.0 ≡ k.0 = same_some (node_of t ty) h.0 k.0 h.1 k.1 in
      let f : a ≡ b = sym h.2 ∙ ap (λ (n : Node). n.kind) e ∙ k.2 in
      let m : ms ≡ ns = one_members t ms ns h.0.members h.3 (subst (λ (n : Node). HasMembers t n.members ns) (sym e) k.3) in
      λ i. s_node (f i) (m i)

  pub one_members : (t : Tables) (ms ns : Members) (xs : List (List ℕ × Option InterfaceType)) → HasMembers t xs ms → HasMembers t xs ns → ms ≡ ns
  one_members t no_members no_members [] h k = refl
  one_members t no_members (bare n ns) [] h k = absurd k
  one_members t no_members (typed n s ns) [] h k = absurd k
  one_members t no_members ns (x ∷ xs) h k = absurd h
  one_members t (bare n ms) ns [] h k = absurd h
  one_members t (typed n s ms) ns [] h k = absurd h
  one_members t (bare n ms) no_members (x ∷ xs) h k = absurd k
  one_members t (typed n s ms) no_members (x ∷ xs) h k = absurd k
  one_members t (bare n ms) (bare m ns) (x ∷ xs) h k =
      let e = sym h.0 ∙ k.0 in let f = one_members t ms ns xs h.2 k.2 in λ i. bare (e i) (f i)
  one_members t (bare n ms) (typed m z ns) (x ∷ xs) h k = absurd (none_some x.1 k.1.0 h.1 k.1.1)
  one_members t (typed n s ms) (bare m ns) (x ∷ xs) h k = absurd (none_some x.1 h.1.0 k.1 h.1.1)
  one_members t (typed n s ms) (typed m z ns) (x ∷ xs) h k =
      let e = sym h.0 ∙ k.0 in
      let w : h.1.0 ≡ k.1.0 = same_some x.1 h.1.0 k.1.0 h.1.1 k.1.1 in
      let g : s ≡ z = one_shape t s z h.1.0 h.1.2 (subst (λ (ty : InterfaceType). HasShape t ty z) (sym w) k.1.2) in
      let f = one_members t ms ns xs h.2 k.2 in
      λ i. typed (e i) (g i) (f i)
