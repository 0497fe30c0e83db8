-- What is known of memories while a path is walked, and what realloc and transcoders do to it.
use Rattle.std.proofs.Common.{◌≡◌, ℕ, zero, suc, ◌+◌, ◌*◌, ◌-◌, ◌%◌, ◌^◌, ◌≤◌, ◌<◌, ⊎_elim, Bool, true, false, List, [], ◌∷◌, ◌++◌, length, take, drop, get_or, refl, sym, ap, ◌∙◌, subst, arith, length-append, length-take, length-drop}
use Rattle.std.specs.Prelude.{min, nat_eq, map, ◌&&◌, if◌then◌else◌}
use Rattle.std.proofs.lemmas.Bool.{cases_lt, eq-eqb}
use Rattle.std.proofs.lemmas.List.{get_or-take, get_or-drop, get_or-append-add, get_or_append_left, drop-drop, drop-take, take_min, length-take-le}
use Rattle.std.proofs.Math.Nat.{mod-eq_of_lt, add-mod_left}
use Rattle.fact_types.specs.declared.outside.FixedEncoding.{FixedEncoding}
use Rattle.fact_types.specs.declared.outside.Transcode.{Transcode}
use Rattle.fact_machine.specs.declared.types.CoreValue.{CoreValue}
use Rattle.fact_machine.specs.declared.types.MachineState.{MachineState}
use Rattle.fact_actions.specs.Paths.{align_of, Amount, SourceUnits, WrittenUnits}
use Rattle.fact_actions.specs.Sides.{LiftLowerOptions, Transfer, wrap, first_bits}
use Rattle.fact_types.specs.Adapters.{is_wide}
use Rattle.fact_machine.specs.Typing.{address_bits}
use Rattle.fact_values.specs.Lift.{bits_of}
use Rattle.fact_actions.specs.Strings.{PathPoint, minus, amount}
use Rattle.fact_values.specs.Texts.{unit_bytes, spelled_text, units_of_text}
use Rattle.fact_actions.specs.Transcoders.{TranscodeKind, AllUnits, Counted, Fitting, Narrow, Tagged, Widening, transcode_kind, from_encoding, to_encoding, Room, StopsBy, widened, IsHonestTranscoding, IsHonestPass}
use Rattle.fact_actions.specs.Regions.{IsIn, Region, without}
use Rattle.fact_action_laws.specs.Regions.{TransferSetting, IsInHand}
use Rattle.fact_action_laws.proofs.Equipped.{IsEquipped}
use Rattle.fact_action_laws.proofs.Stages.{Stage, amount_at}
use Rattle.fact_action_laws.proofs.States.{from_bytes, to_bytes, There}
use Rattle.fact_action_laws.proofs.ReadCalls.{SpellsSome}
use Rattle.fact_action_laws.proofs.WalkReallocs.{Got}

-- ---- numbers modulo a width

pub wrap_small : (o : LiftLowerOptions) (x : ℕ) → x < 2 ^ 32 → wrap o x ≡ x
wrap_small o x h = go (is_wide o.memory)
  where
    go : (b : Bool) → x % 2 ^ (elim b [ false ↦ 32 | true ↦ 64 ]) ≡ x
    go true = mod-eq_of_lt (omega (arith, h))
    go false = mod-eq_of_lt h

pub wrap_fits : (o : LiftLowerOptions) (x : ℕ) → x < 2 ^ address_bits (is_wide o.memory) → wrap o x ≡ x
wrap_fits o x h = mod-eq_of_lt h

pub minus_is : (o : LiftLowerOptions) (x y : ℕ) → y ≤ x → x < 2 ^ 32 → minus o x y ≡ x - y
minus_is o x y le h = go (is_wide o.memory)
  where
    go : (b : Bool) → (x + (2 ^ (elim b [ false ↦ 32 | true ↦ 64 ]) - y)) % 2 ^ (elim b [ false ↦ 32 | true ↦ 64 ]) ≡ x - y
    go true = let e : x + (2 ^ 64 - y) ≡ 2 ^ 64 + (x - y) = omega (arith, le, h) in ap (λ k. k % 2 ^ 64) e ∙ add-mod_left (2 ^ 64) (x - y) ∙ mod-eq_of_lt (omega (arith, h))
    go false = let e : x + (2 ^ 32 - y) ≡ 2 ^ 32 + (x - y) = omega (arith, le, h) in ap (λ k. k % 2 ^ 32) e ∙ add-mod_left (2 ^ 32) (x - y) ∙ mod-eq_of_lt (omega (arith, h))

pub amount_is : (tr : Transfer) (x : Amount) (v : PathPoint) (n : ℕ) (s : Stage) → v.length ≡ n → v.written ≡ s.written → amount_at n x s < 2 ^ 32 → amount tr x v ≡ amount_at n x s
amount_is tr (SourceUnits c) v n s e f h = ap (λ k. wrap tr.to (c * k)) e ∙ wrap_small tr.to (c * n) h
amount_is tr (WrittenUnits c) v n s e f h = ap (λ k. wrap tr.to (c * k)) f ∙ wrap_small tr.to (c * s.written) h

-- ---- bytes

-- bytes that stand at an address
abbrev pub StandAt : List ℕ → ℕ → List ℕ → Type 0
StandAt m q bytes = (i : ℕ) → i < length bytes → get_or m (q + i) 0 ≡ get_or bytes i 0

pub take_same : (k : ℕ) (xs ys : List ℕ) → k ≤ length xs → k ≤ length ys → ((i : ℕ) → i < k → get_or xs i 0 ≡ get_or ys i 0) → take k xs ≡ take k ys
take_same zero xs ys h g e = refl
take_same (suc k) [] ys h g e = absurd (omega (arith, h))
take_same (suc k) (x ∷ xs) [] h g e = absurd (omega (arith, g))
take_same (suc k) (x ∷ xs) (y ∷ ys) h g e = ap (λ z. z ∷ take k xs) (e 0 (omega arith)) ∙ ap (λ l. y ∷ l) (take_same k xs ys (omega (arith, h)) (omega (arith, g)) (λ i lt. e (suc i) (omega (arith, lt))))

pub mul_split : (u n r : ℕ) → r ≤ n → u * r + u * (n - r) ≡ u * n
mul_split u n r le = let e : r + (n - r) ≡ n = omega (arith, le) in let d : u * (r + (n - r)) ≡ u * r + u * (n - r) = omega arith in sym d ∙ ap (λ k. u * k) e

-- what is read from the rth unit on
pub rest_of : (m us : List ℕ) (p u n r : ℕ) → length us ≡ u * n → take (length us) (drop p m) ≡ us → r ≤ n → take (u * (n - r)) (drop (p + u * r) m) ≡ drop (u * r) us
rest_of m us p u n r long h le =
    let split : u * r + u * (n - r) ≡ length us = mul_split u n r le ∙ sym long in
    ap (λ l. take (u * (n - r)) l) (sym (drop-drop (u * r) p m)) ∙ sym (drop-take (u * r) (u * (n - r)) (drop p m)) ∙ ap (λ k. drop (u * r) (take k (drop p m))) split ∙ ap (λ l. drop (u * r) l) h

-- what stands behind a pass: what stood before its offset, and what it wrote
pub stand_over : (m m' : List ℕ) (q o : ℕ) (have wrote : List ℕ) → o ≤ length have → StandAt m q have → StandAt m' (q + o) wrote → ((i : ℕ) → (IsIn (record { at = q + o; size = length wrote; align = 1 }) i → ⊥) → get_or m' i 0 ≡ get_or m i 0) → StandAt m' q (take o have ++ wrote)
stand_over m m' q o have wrote le st new same i lt =
    let front : length (take o have) ≡ o = length-take-le o have le in
    ⊎_elim
    (λ l. same (q + i) (λ in1. omega (arith, in1.0, l)) ∙ st i (omega (arith, l, le)) ∙ sym (get_or-take o have i 0 l) ∙ sym (get_or_append_left (take o have) wrote 0 i (omega (arith, l, front))))
    (λ g. let j : o + (i - o) ≡ i = omega (arith, g) in
    let at : q + o + (i - o) ≡ q + i = omega (arith, g) in
    let lt2 : i < length (take o have) + length wrote = omega (arith, lt, length-append (take o have) wrote) in
    ap (λ k. get_or m' k 0) (sym at) ∙ new (i - o) (omega (arith, front, lt2, g)) ∙ sym (get_or-append-add (take o have) wrote (i - o) 0) ∙ ap (λ k. get_or (take o have ++ wrote) k 0) (let e : length (take o have) + (i - o) ≡ i = omega (arith, front, g) in e))
    (cases_lt i o)

-- ---- transcoders

-- the room that a pass is told, as its kind sees it
abbrev pub SameRoom : TranscodeKind → Room → Room → Type 0
SameRoom Fitting g g' = g.room ≡ g'.room
SameRoom Widening g g' = (g.room ≡ g'.room) × (g.latin1_bytes ≡ g'.latin1_bytes)
SameRoom _ g g' = Unit {0}

pub in_room : (k : TranscodeKind) (f t : FixedEncoding) (g g' : Room) (source bytes numbers : List ℕ) → SameRoom k g g' → IsHonestPass k f t g source bytes numbers → IsHonestPass k f t g' source bytes numbers
in_room AllUnits f t g g' source bytes numbers e h = record { text = h.text; rest = h.rest; reads = h.reads; can_read = h.can_read; can_write = h.can_write; stops = h.stops; writes = h.writes; answers = h.answers }
in_room Counted f t g g' source bytes numbers e h = record { text = h.text; rest = h.rest; reads = h.reads; can_read = h.can_read; can_write = h.can_write; stops = h.stops; writes = h.writes; answers = h.answers }
in_room Narrow f t g g' source bytes numbers e h = record { text = h.text; rest = h.rest; reads = h.reads; can_read = h.can_read; can_write = h.can_write; stops = h.stops; writes = h.writes; answers = h.answers }
in_room Tagged f t g g' source bytes numbers e h = record { text = h.text; rest = h.rest; reads = h.reads; can_read = h.can_read; can_write = h.can_write; stops = h.stops; writes = h.writes; answers = h.answers }
in_room Fitting f t g g' source bytes numbers e h = record {
  text = h.text;
  rest = h.rest;
  reads = h.reads;
  can_read = h.can_read;
  can_write = h.can_write;
  stops = subst (λ m. StopsBy Fitting f t (record g' { room = m }) h.text h.rest) e h.stops;
  writes = h.writes;
  answers = h.answers;
}
in_room Widening f t g g' source bytes numbers e h = record {
  text = h.text;
  rest = h.rest;
  reads = h.reads;
  can_read = h.can_read;
  can_write = h.can_write;
  stops = (h.stops.0, (let le = h.stops.1 in let l = ap length e.1 in omega (arith, le, l, e.0)));
  writes = h.writes ∙ ap (λ l. widened l ++ spelled_text t h.text) e.1;
  answers = h.answers ∙ ap (λ l. (length l + units_of_text t h.text) ∷ []) e.1;
}

-- an honest answer of a transcoder, by what its operation is
pub of_operation : (o : Transcode) (g g' : Room) (source bytes numbers : List ℕ) → SameRoom (transcode_kind o) g g' → IsHonestTranscoding o g source bytes numbers → IsHonestPass (transcode_kind o) (from_encoding o) (to_encoding o) g' source bytes numbers
of_operation o g g' source bytes numbers e h = in_room (transcode_kind o) (from_encoding o) (to_encoding o) g g' source bytes numbers e
    (record { text = h.text; rest = h.rest; reads = h.reads; can_read = h.can_read; can_write = h.can_write; stops = h.stops; writes = h.writes; answers = h.answers })

pub first_is : (rs : List CoreValue) → first_bits rs ≡ get_or (map (λ v. bits_of v) rs) 0 0
first_is [] = refl
first_is (v ∷ rs) = refl

pub second_is : (rs : List CoreValue) → first_bits (drop 1 rs) ≡ get_or (map (λ v. bits_of v) rs) 1 0
second_is [] = refl
second_is (v ∷ []) = refl
second_is (v ∷ (u ∷ rs)) = refl

-- ---- regions

same_number : (x : ℕ) → nat_eq x x ≡ true
same_number x = eq-eqb x x refl

pub without_first : (r : Region) (gs : List Region) → without r (r ∷ gs) ≡ gs
without_first r gs = ap (λ b. if b && nat_eq r.size r.size then gs else r ∷ without r gs) (same_number r.at) ∙ ap (λ b. if b then gs else r ∷ without r gs) (same_number r.size)

-- ---- the invariant

-- bytes at a pointer of a memory spell a text
abbrev pub SourceSpells : FixedEncoding → (p size : ℕ) → (memory : List ℕ) → Type 0
SourceSpells f p size memory = SpellsSome f (take size (drop p memory))

-- The source has n units of an encoding in so many bytes from p0 on, gs are the other live regions, and base and first are the memories of the destination
-- and of the source in the beginning.
module _ {c : TransferSetting} (e : IsEquipped c) (Kept Good : Type 0) (kept : Good → Kept) (f : FixedEncoding) (n p0 size0 : ℕ) (gs : List Region) (base first : List ℕ) where
  abbrev pub region_of : Stage → PathPoint → Region
  region_of st v = record { at = v.region; size = st.size; align = align_of c.transfer.to.encoding }

  -- a region that realloc gave
  pub record IsGivenRegion (live : List Region) (st : Stage) (v : PathPoint) (s : MachineState) : Type 0 where
    pub live_is : live ≡ region_of st v ∷ gs
    pub from_cap : length (from_bytes e s) ≤ 2 ^ address_bits (is_wide c.transfer.from.memory)
    pub to_cap : length (to_bytes e s) ≤ 2 ^ address_bits (is_wide c.transfer.to.memory)

  pub record Inv (live : List Region) (us : List ℕ) (st : Stage) (v : PathPoint) (s : MachineState) : Type 0 where
    pub there : There e s
    pub length_is : v.length ≡ n
    pub source_is : v.source ≡ p0
    pub size_is : length us ≡ size0
    pub read_is : v.read ≡ st.read
    pub written_is : v.written ≡ st.written
    pub source_aligned : v.source % unit_bytes f ≡ 0
    pub source : take (length us) (drop v.source (from_bytes e s)) ≡ us
    pub source_in : v.source + length us ≤ length (from_bytes e s)
    pub others : without (region_of st v) live ≡ gs
    pub given : st.given ≡ true → IsGivenRegion live st v s
    pub aligned : v.region % align_of c.transfer.to.encoding ≡ 0
    pub below : v.region < 2 ^ address_bits (is_wide c.transfer.to.memory)
    pub inside : v.region + st.size ≤ length (to_bytes e s)
    pub apart : Kept → (j : ℕ) → IsIn (region_of st v) j → IsInHand c gs j → ⊥
    pub stand : StandAt (to_bytes e s) v.region st.have
    pub long : length st.have ≤ st.size
    pub small : st.size < 2 ^ 32
    pub frame : Kept → (j : ℕ) → IsInHand c gs j → get_or (to_bytes e s) j 0 ≡ get_or base j 0
    pub grown : length base ≤ length (to_bytes e s)
    pub same : Kept → from_bytes e s ≡ first
    -- where the source spells a text, what is left of it does
    pub left : Kept → SourceSpells f p0 size0 first → SpellsSome f (drop (unit_bytes f * st.read) us)

  -- the whole source, where nothing of it has changed
  pub whole_source : (live : List Region) (us : List ℕ) (st : Stage) (v : PathPoint) (s : MachineState) → Inv live us st v s → Kept → SourceSpells f p0 size0 first → SpellsSome f us
  whole_source live us st v s inv z t =
      subst (SpellsSome f)
      (sym (sym inv.source ∙ ap (λ k. take k (drop v.source (from_bytes e s))) inv.size_is ∙ ap (λ a. take size0 (drop a (from_bytes e s))) inv.source_is ∙ ap (λ m. take size0 (drop p0 m)) (inv.same z))) t

  -- Behind realloc the source and what stands in the region may have changed, unless it is honest.
  pub record Resized (us : List ℕ) (st : Stage) (v : PathPoint) (s : MachineState) (q new : ℕ) : Type 0 where
    pub us2 : List ℕ
    pub have : List ℕ
    pub l1 : length us2 ≡ length us
    pub l2 : length have ≡ min new (length st.have)
    pub same : Kept → us2 ≡ us
    pub keeps : Kept → have ≡ take new st.have
    pub inv : Inv (record { at = q; size = new; align = align_of c.transfer.to.encoding } ∷ gs) us2 (record st { size = new; given = true; have = have }) (record v { region = q }) s

  pub resize : (live : List Region) (us : List ℕ) (st : Stage) (v : PathPoint) (s s1 : MachineState) (q new : ℕ) → new < 2 ^ 32 → Inv live us st v s → Got e Kept Good kept live v.region st.size new q s s1 → Resized us st v s1 q new
  resize live us st v s s1 q new small inv g =
      let other : (j : ℕ) → IsInHand c gs j → IsInHand c (without (region_of st v) live) j = λ j l. subst (λ r. IsInHand c r j) (sym inv.others) l in
      let from = from_bytes e s1 in
      let to = to_bytes e s1 in
      let us2 = take (length us) (drop v.source from) in
      let k = min new (length st.have) in
      let have = take k (drop q to) in
      let size2 : length us2 ≡ length us = omega (arith, length-take (length us) (drop v.source from), length-drop v.source from, inv.source_in, g.later.from_longer) in
      let long2 : length have ≡ k = omega (arith, length-take k (drop q to), length-drop q to, g.inside) in
      let kept_units : Kept → us2 ≡ us = λ z. ap (λ m. take (length us) (drop v.source m)) (g.honest z).source ∙ inv.source in
      record {
        us2 = us2;
        have = have;
        l1 = size2;
        l2 = long2;
        same = kept_units;
        keeps = λ z. take_same k (drop q to) st.have (omega (arith, length-drop q to, g.inside)) (omega arith)
            (λ i lt. get_or-drop q to i 0 ∙ (g.honest z).holds i (omega (arith, lt, inv.long)) (omega (arith, lt)) ∙ inv.stand i (omega (arith, lt))) ∙ take_min new st.have;
        inv = record {
          there = g.later.there;
          length_is = inv.length_is;
          source_is = inv.source_is;
          size_is = size2 ∙ inv.size_is;
          read_is = inv.read_is;
          written_is = inv.written_is;
          source_aligned = inv.source_aligned;
          source = ap (λ k. take k (drop v.source from)) size2;
          source_in = omega (arith, size2, inv.source_in, g.later.from_longer);
          others = without_first (record { at = q; size = new; align = align_of c.transfer.to.encoding }) gs;
          given = λ yes. record { live_is = refl; from_cap = g.later.from_cap; to_cap = g.later.to_cap };
          aligned = g.aligned;
          below = g.below;
          inside = g.inside;
          apart = λ z j a l. (g.honest z).apart j a (other j l);
          stand = λ i lt. sym (get_or-take k (drop q to) i 0 (omega (arith, lt, long2)) ∙ get_or-drop q to i 0);
          long = omega (arith, long2);
          small = small;
          frame = λ z j l. (g.honest z).others j (other j l) ∙ inv.frame z j l;
          grown = omega (arith, inv.grown, g.later.to_longer);
          same = λ z. (g.honest z).source ∙ inv.same z;
          left = λ z t. subst (λ l. SpellsSome f (drop (unit_bytes f * st.read) l)) (sym (kept_units z)) (inv.left z t);
        };
      }
