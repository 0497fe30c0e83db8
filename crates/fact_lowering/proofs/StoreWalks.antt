-- Values that are stored one behind the other: the members of a record, the elements of a list, the entries of a map.
use Rattle.std.proofs.Common.{◌≡◌, ℕ, zero, suc, ◌+◌, ◌-◌, ◌*◌, ◌≤◌, ◌<◌, List, [], ◌∷◌, length, drop, get_or, Option, Some, None, refl, sym, ap, ◌∙◌, subst, arith, add-one}
use Rattle.std.specs.Prelude.{slice_get, sum_by}
use Rattle.std.specs.List.{AllByRecursion}
use Rattle.std.proofs.lemmas.List.{drop_all}
use Rattle.std.proofs.lemmas.List.Sums.{sum_by-cons}
use Rattle.fact_types.specs.declared.interface.InterfaceType.{InterfaceType}
use Rattle.fact_types.specs.Shapes.{Shape, Members, no_members, bare, typed, layout_of, place_of, next_of, ends_of}
use Rattle.fact_types.specs.Layout.{extent}
use Rattle.fact_types.specs.Options.{◌>>=◌}
use Rattle.fact_types.specs.Tables.{Tables, HasShape}
use Rattle.fact_types.proofs.AlignLaws.{aligned_bounds}
use Rattle.fact_types.proofs.PlaceLaws.{align_pos, ends_grow}
use Rattle.fact_types.proofs.ShapeLaws.{same_some, none_some}
use Rattle.fact_abi.specs.Nodes.{AreOf}
use Rattle.fact_abi.proofs.BelongLaws.{slice_front, slice_past}
use Rattle.fact_abi.proofs.LoadLaws.{front, split_bare, split_typed}
use Rattle.fact_values.specs.declared.side.SideAbi.{SideAbi}
use Rattle.fact_values.specs.declared.value.Value.{Value}
use Rattle.fact_values.specs.Canonical.{EachAt}
use Rattle.fact_values.specs.IsA.{IsA, AreMembers}
use Rattle.fact_values.specs.Load.{load, load_members, entry_of}
use Rattle.fact_values.specs.Places.{width_of, extent_on, each_at}
use Rattle.fact_lowering.specs.Lowered.{CanStore, IsStored, IsWritten, LacksRoom, ReadsAt, ReadsMembers, Rises, own_room, own_rooms}
use Rattle.fact_lowering.specs.Storings.{HasSpace, IsStorable}
use Rattle.fact_lowering.specs.Stores.{IsShort}
use Rattle.fact_lowering.specs.TextForms.{IsByFormAt, AreByFormAt}
use Rattle.fact_lowering.proofs.Agreeing.{written_nothing, written_also, written_both, written_wider}
use Rattle.fact_lowering.proofs.OwnRooms.{own_sum, rooms_sum}

-- ---- memories that were written to

pub can_still : {R : List ℕ → Type 0} {place size low high most : ℕ} {m m' : List ℕ} → CanStore low m → IsWritten R place size low high most m m' → CanStore high m'
can_still h w = record { inside = w.rises.inside; short = omega (arith, h.short, w.changed.same_length) }

-- what lacks room behind what was written
pub lacks_behind : {R : List ℕ → Type 0} {place size low high most : ℕ} {m m' : List ℕ} (more all : ℕ) → IsWritten R place size low high most m m' → most + more ≤ all → LacksRoom high more m' → LacksRoom low all m
lacks_behind more all w le h = omega (arith, w.changed.same_length, w.rises.few, le, h)

-- ---- members

-- In front of the member of a place, behind so many bytes, with so many values before it.
pub record Storing (t : Tables) (side : SideAbi) (ms : Members) (types : List (Option InterfaceType)) (vs : List Value) (i n at a low high : ℕ) (m m' : List ℕ) : Type 0 where
  pub rest : Members
  pub has : AreOf t (drop i types) rest
  pub are : AreMembers rest (drop at vs)
  pub ends : ends_of (width_of side) ms 0 ≡ ends_of (width_of side) rest n
  pub spent : ℕ
  pub room : own_sum side ms vs ≡ spent + own_sum side rest (drop at vs)
  pub written : IsWritten (λ b. ReadsMembers side rest (drop at vs) a n b → ReadsMembers side ms vs a 0 b) a n low high spent m m'

-- The same, where that member has a type.
pub record StoringHere (t : Tables) (side : SideAbi) (ms : Members) (types : List (Option InterfaceType)) (vs : List Value) (i n at a low high : ℕ) (m m' : List ℕ) (y : InterfaceType) : Type 0 where
  pub name : List ℕ
  pub shape : Shape
  pub rest : Members
  pub shaped : HasShape t y shape
  pub has : AreOf t (drop (i + 1) types) rest
  pub are : AreMembers (typed name shape rest) (drop at vs)
  pub ends : ends_of (width_of side) ms 0 ≡ ends_of (width_of side) rest (next_of (width_of side) shape n)
  pub spent : ℕ
  pub room : own_sum side ms vs ≡ spent + own_sum side (typed name shape rest) (drop at vs)
  pub written : IsWritten (λ b. ReadsMembers side (typed name shape rest) (drop at vs) a n b → ReadsMembers side ms vs a 0 b) a n low high spent m m'

reads_typed : (side : SideAbi) (b : List ℕ) (x : List ℕ) (s : Shape) (rest : Members) (v : Value) (vs : List Value) (a n : ℕ) → ReadsAt side s v (a + place_of (width_of side) s n) b → ReadsMembers side rest vs a (next_of (width_of side) s n) b → ReadsMembers side (typed x s rest) (v ∷ vs) a n b
unfolding load IsByFormAt
reads_typed side b x s rest v vs a n r q = (
  ap (λ o. o >>= (λ v. load_members side b rest a (next_of (width_of side) s n) >>= (λ vs. Some (v ∷ vs)))) r.0 ∙ ap (λ o. o >>= (λ vs. Some (v ∷ vs))) q.0,
  (r.1, q.1),
)

-- no member is left
nothing_left : (t : Tables) (side : SideAbi) (a : ℕ) (r : Members) (l : List Value) (n : ℕ) (b : List ℕ) → AreOf t [] r → AreMembers r l → (ReadsMembers side r l a n b) × (ends_of (width_of side) r n ≡ n) × (own_sum side r l ≡ 0)
unfolding load IsByFormAt IsA
nothing_left t side a no_members [] n b h k = ((refl, tt), refl, refl)
nothing_left t side a no_members (v ∷ l) n b h k = absurd k
nothing_left t side a (bare x r) l n b h k = absurd h
nothing_left t side a (typed x s r) l n b h k = absurd h

module _ {t : Tables} {side : SideAbi} {ms : Members} {types : List (Option InterfaceType)} {vs : List Value} {a low : ℕ} {m : List ℕ} where
  pub storing_starts : AreOf t types ms → AreMembers ms vs → low ≤ length m → Storing t side ms types vs 0 0 0 a low low m m
  storing_starts h k le = record {
    rest = ms;
    has = h;
    are = k;
    ends = refl;
    spent = 0;
    room = omega arith;
    written = written_nothing _ a 0 low m le (λ b l r. r);
  }

  -- a member without a type is passed over
  past : (i n at high : ℕ) (m' : List ℕ) (x : List ℕ) (r : Members) → AreOf t (drop (i + 1) types) r → AreMembers (bare x r) (drop at vs) → ends_of (width_of side) ms 0 ≡ ends_of (width_of side) (bare x r) n → (spent : ℕ) → own_sum side ms vs ≡ spent + own_sum side (bare x r) (drop at vs)
      → IsWritten (λ b. ReadsMembers side (bare x r) (drop at vs) a n b → ReadsMembers side ms vs a 0 b) a n low high spent m m' → Storing t side ms types vs (i + 1) n at a low high m m'
  unfolding load IsByFormAt IsA
  past i n at high m' x r h k e spent q w = record { rest = r; has = h; are = k; ends = e; spent = spent; room = q; written = w }

  module _ {i n at high : ℕ} {m' : List ℕ} where
    pub storing_past : i < length types → get_or types i None ≡ None → Storing t side ms types vs i n at a low high m m' → Storing t side ms types vs (i + 1) n at a low high m m'
    storing_past lt e g =
        let p = split_bare t (drop (i + 1) types) g.rest (subst (λ xs. AreOf t xs g.rest) (front types i None lt e) g.has) in
        past i n at high m' p.name p.rest p.has (subst (λ r. AreMembers r (drop at vs)) p.is g.are) (g.ends ∙ ap (λ r. ends_of (width_of side) r n) p.is) g.spent (g.room ∙ ap (λ r. g.spent + own_sum side r (drop at vs)) p.is)
        (subst (λ r. IsWritten (λ b. ReadsMembers side r (drop at vs) a n b → ReadsMembers side ms vs a 0 b) a n low high g.spent m m') p.is g.written)

    pub storing_here : (y : InterfaceType) → i < length types → get_or types i None ≡ Some y → Storing t side ms types vs i n at a low high m m' → StoringHere t side ms types vs i n at a low high m m' y
    storing_here y lt e g =
        let p = split_typed t y (drop (i + 1) types) g.rest (subst (λ xs. AreOf t xs g.rest) (front types i (Some y) lt e) g.has) in
        record {
          name = p.name;
          shape = p.shape;
          rest = p.rest;
          shaped = p.shaped;
          has = p.has;
          are = subst (λ r. AreMembers r (drop at vs)) p.is g.are;
          ends = g.ends ∙ ap (λ r. ends_of (width_of side) r n) p.is;
          spent = g.spent;
          room = g.room ∙ ap (λ r. g.spent + own_sum side r (drop at vs)) p.is;
          written = subst (λ r. IsWritten (λ b. ReadsMembers side r (drop at vs) a n b → ReadsMembers side ms vs a 0 b) a n low high g.spent m m') p.is g.written;
        }

    -- the value of that member
    module _ {y : InterfaceType} (h : StoringHere t side ms types vs i n at a low high m m' y) where
      pub here_missing : slice_get vs at ≡ None → ⊥
      unfolding IsA
      here_missing e = subst (λ l. AreMembers (typed h.name h.shape h.rest) l) (slice_past vs at e) h.are

      pub here_fits : next_of (width_of side) h.shape n ≤ ends_of (width_of side) ms 0
      here_fits = omega (arith, ends_grow (width_of side) h.rest (next_of (width_of side) h.shape n), h.ends)

      module _ (v : Value) (there : slice_get vs at ≡ Some v) where
        pub here_are : IsA h.shape v × AreMembers h.rest (drop (suc at) vs)
        unfolding IsA
        here_are = subst (λ l. AreMembers (typed h.name h.shape h.rest) l) (slice_front vs at v there) h.are

        pub here_room : own_sum side ms vs ≡ h.spent + (own_room side h.shape v + own_sum side h.rest (drop (suc at) vs))
        here_room = h.room ∙ ap (λ l. h.spent + own_sum side (typed h.name h.shape h.rest) l) (slice_front vs at v there)

        pub storable_here : (place : ℕ) → place ≡ a + place_of (width_of side) h.shape n → HasSpace (ends_of (width_of side) ms 0) a low m → IsStorable t side y v place high m'
        storable_here place is room = record {
          shape = h.shape;
          shaped = h.shaped;
          is = here_are.0;
          room = record { below = omega (arith, is, room.below, here_fits, h.written.rises.up); can = can_still room.can h.written };
        }

        pub lacks_here : LacksRoom high (own_room side h.shape v) m' → LacksRoom low (own_rooms side ms vs) m
        lacks_here l = lacks_behind (own_room side h.shape v) (own_rooms side ms vs) h.written (omega (arith, here_room, rooms_sum side ms vs)) l

        pub storing_on : (n' at' place high' : ℕ) (m'' : List ℕ) → place ≡ a + place_of (width_of side) h.shape n → n' ≡ next_of (width_of side) h.shape n → at' ≡ at + 1 → a + ends_of (width_of side) ms 0 ≤ low
            → IsStored side h.shape v place high high' m' m'' → Storing t side ms types vs (i + 1) n' at' a low high' m m''
        storing_on n' at' place high' m'' is moved more fits w =
            let wide = (aligned_bounds n (extent (width_of side) (layout_of h.shape)).align (align_pos (width_of side) h.shape)).0 in
            let all = written_both a n' (omega arith) (omega (arith, is, wide)) (omega (arith, is, moved)) (omega (arith, is, fits, here_fits)) h.written w in
            let counted : at' ≡ suc at = more ∙ add-one at in
            record {
              rest = h.rest;
              has = h.has;
              are = subst (λ k. AreMembers h.rest (drop k vs)) (sym counted) here_are.1;
              ends = h.ends ∙ ap (ends_of (width_of side) h.rest) (sym moved);
              spent = h.spent + own_room side h.shape v;
              room = subst (λ k. own_sum side ms vs ≡ (h.spent + own_room side h.shape v) + own_sum side h.rest (drop k vs)) (sym counted) (omega (arith, here_room));
              written = written_also all (λ b l r q. r.0 (subst (λ l. ReadsMembers side (typed h.name h.shape h.rest) l a n b) (sym (slice_front vs at v there))
                  (reads_typed side b h.name h.shape h.rest v (drop (suc at) vs) a n (subst (λ k. ReadsAt side h.shape v k b) is r.1)
                  (subst (λ k. ReadsMembers side h.rest (drop k vs) a (next_of (width_of side) h.shape n) b) counted (subst (λ k. ReadsMembers side h.rest (drop at' vs) a k b) moved q)))));
            }

  pub all_stored : {i n at high : ℕ} {m' : List ℕ} → length types ≤ i → Storing t side ms types vs i n at a low high m m' → IsWritten (ReadsMembers side ms vs a 0) a (ends_of (width_of side) ms 0) low high (own_rooms side ms vs) m m'
  all_stored {i} {n} {at} {high} {m'} ge g =
      let has = subst (λ xs. AreOf t xs g.rest) (drop_all i types ge) g.has in
      let last = λ (b : List ℕ). nothing_left t side a g.rest (drop at vs) n b has g.are in
      written_wider a (ends_of (width_of side) ms 0) (own_rooms side ms vs) (omega arith) (omega (arith, g.ends, (last m').1)) (omega (arith, g.room, rooms_sum side ms vs))
      (written_also g.written (λ b l f. f (last b).0))

-- ---- items of one kind, each so many bytes behind the one before

-- items that are read one by one
abbrev pub ReadsAll : {X : Type 0} → (List ℕ → ℕ → Option X) → (List ℕ → ℕ → Type 0) → (stride : ℕ) → List X → ℕ → List ℕ → Type 0
ReadsAll f P stride xs a b = (each_at (length xs) stride (f b) a ≡ Some xs) × EachAt (length xs) stride (P b) a

module _ {X : Type 0} (f : List ℕ → ℕ → Option X) (P : List ℕ → ℕ → Type 0) (room : X → ℕ) (stride : ℕ) (xs : List X) (a low : ℕ) (m : List ℕ) where
  -- In front of an item, with these before it.
  pub record Itemwise (i at high : ℕ) (m' : List ℕ) : Type 0 where
    pub place : at ≡ a + i * stride
    pub spent : ℕ
    pub sum : sum_by room xs ≡ spent + sum_by room (drop i xs)
    pub written : IsWritten (λ b. ReadsAll f P stride (drop i xs) at b → ReadsAll f P stride xs a b) a (i * stride) low high spent m m'

  pub items_start : low ≤ length m → Itemwise 0 a low m
  items_start le = record { place = omega arith; spent = 0; sum = omega arith; written = written_nothing _ a (0 * stride) low m le (λ b l r. r) }

  one_read : (b : List ℕ) (x : X) (ys : List X) (c : ℕ) → (f b c ≡ Some x) × P b c → ReadsAll f P stride ys (c + stride) b → ReadsAll f P stride (x ∷ ys) c b
  one_read b x ys c r q = (ap (λ o. o >>= (λ v. each_at (length ys) stride (f b) (c + stride) >>= (λ vs. Some (v ∷ vs)))) r.0 ∙ ap (λ o. o >>= (λ vs. Some (x ∷ vs))) q.0, (r.1, q.1))

  module _ {i at high : ℕ} {m' : List ℕ} (g : Itemwise i at high m') where
    module _ (x : X) (there : slice_get xs i ≡ Some x) where
      items_room : sum_by room xs ≡ g.spent + (room x + sum_by room (drop (suc i) xs))
      items_room = g.sum ∙ ap (λ l. g.spent + sum_by room l) (slice_front xs i x there) ∙ ap (λ k. g.spent + k) (sum_by-cons room x (drop (suc i) xs))

      pub items_lack : LacksRoom high (room x) m' → LacksRoom low (sum_by room xs) m
      items_lack l = lacks_behind (room x) (sum_by room xs) g.written (omega (arith, items_room)) l

      pub items_on : (size at' high' : ℕ) (m'' : List ℕ) → size ≤ stride → at' ≡ at + stride → (i + 1) * stride + a ≤ low → IsWritten (λ b. (f b at ≡ Some x) × P b at) at size high high' (room x) m' m'' → Itemwise (i + 1) at' high' m''
      items_on size at' high' m'' few moved fits w =
          let all = written_both a ((i + 1) * stride) (omega arith) (omega (arith, g.place)) (omega (arith, g.place, few)) (omega (arith, g.place, few, fits)) g.written w in
          let e = add-one i in
          record {
            place = omega (arith, g.place, moved);
            spent = g.spent + room x;
            sum = subst (λ k. sum_by room xs ≡ (g.spent + room x) + sum_by room (drop k xs)) (sym e) (omega (arith, items_room));
            written = written_also all (λ b l r q. r.0 (subst (λ l. ReadsAll f P stride l at b) (sym (slice_front xs i x there))
                (one_read b x (drop (suc i) xs) at r.1 (subst (λ k. ReadsAll f P stride (drop k xs) (at + stride) b) e (subst (λ k. ReadsAll f P stride (drop (i + 1) xs) k b) moved q)))));
          }

    pub items_end : length xs ≤ i → i ≤ length xs → IsWritten (ReadsAll f P stride xs a) a (length xs * stride) low high (sum_by room xs) m m'
    items_end ge le =
        let none = drop_all i xs ge in
        let count : i ≡ length xs = omega (arith, ge, le) in
        let last = λ (b : List ℕ). subst (λ l. ReadsAll f P stride l at b) (sym none) (refl, tt) in
        subst (λ k. IsWritten (ReadsAll f P stride xs a) a (k * stride) low high (sum_by room xs) m m') count
        (written_wider a (i * stride) (sum_by room xs) (omega arith) (omega arith) (omega (arith, g.sum))
        (written_also g.written (λ b l h. h (last b))))

-- what holds of each holds of one
pub one_of_all : {X : Type 0} (Is : X → Type 0) (xs : List X) (i : ℕ) (x : X) → slice_get xs i ≡ Some x → AllByRecursion Is xs → Is x
one_of_all Is [] i x e h = absurd (none_some None x refl e)
one_of_all Is (y ∷ xs) zero x e h = subst Is (same_some (Some y) y x refl e) h.0
one_of_all Is (y ∷ xs) (suc i) x e h = one_of_all Is xs i x e h.1

-- ---- elements and entries

abbrev pub element_reads : SideAbi → Shape → List ℕ → ℕ → Option Value
element_reads side s b a = load side b s a

abbrev pub element_forms : SideAbi → Shape → List ℕ → ℕ → Type 0
element_forms side s b a = IsByFormAt side b s a

abbrev pub entry_reads : SideAbi → Members → List ℕ → ℕ → Option (Value × Value)
entry_reads side ms b a = load_members side b ms a 0 >>= (λ vs. entry_of vs)

abbrev pub entry_forms : SideAbi → Members → List ℕ → ℕ → Type 0
entry_forms side ms b a = AreByFormAt side b ms a 0

abbrev pub entry_room : SideAbi → Members → Value × Value → ℕ
entry_room side ms e = own_rooms side ms (e.0 ∷ e.1 ∷ [])

-- the entry of a key and a value that are read
pub entry_read : (side : SideAbi) (ms : Members) (e : Value × Value) (a : ℕ) (b : List ℕ) → ReadsMembers side ms (e.0 ∷ e.1 ∷ []) a 0 b → (entry_reads side ms b a ≡ Some e) × entry_forms side ms b a
entry_read side ms e a b r = (ap (λ o. o >>= (λ vs. entry_of vs)) r.0, r.1)
