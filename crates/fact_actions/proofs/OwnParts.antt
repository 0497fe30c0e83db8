-- The parts of actions write into regions of their own.
use Rattle.std.proofs.Common.{◌≡◌, ◌≢◌, ℕ, ◌+◌, ◌<◌, ◌≤◌, ◌%◌, ◌^◌, Bool, true, false, List, [], ◌∷◌, ◌++◌, Option, Some, None, refl, sym, ap, ◌∙◌, subst, inl, inr, arith, length}
use Rattle.std.proofs.lemmas.Bool.{leb-true, eqb-true, eq-eqb}
use Rattle.std.proofs.lemmas.Slice.Eq.{bytes_eq-Decides}
use Rattle.fact_types.specs.declared.outside.CoreDef.TheVariants as def
use Rattle.std.specs.Prelude.{◌⊎◌, nat_eq, nat_lt, nat_le, get_or, if◌then◌else◌}
use Rattle.fact_wasm.specs.declared.types.ValType.{ValType}
use Rattle.fact_types.specs.declared.outside.CoreDef.{CoreDef}
use Rattle.fact_types.specs.declared.outside.Trap.{Trap as Reason}
use Rattle.fact_types.specs.declared.outside.Trap.TheVariants.{UnalignedPointer, DebugAssertUpperBitsUnset}
use Rattle.fact_machine.specs.declared.types.CoreValue.{CoreValue}
use Rattle.fact_machine.specs.declared.types.CoreValue.TheVariants.{I32, I64, F32, F64, Func}
use Rattle.fact_machine.specs.Typing.{address_operand}
use Rattle.fact_machine.specs.World.{World}
use Rattle.fact_types.specs.declared.import.Import.{Import}
use Rattle.fact_types.specs.declared.import.Import.TheVariants as import
use Rattle.fact_types.specs.declared.outside.MemoryOption.{MemoryOption}
use Rattle.fact_types.specs.Adapters.{is_wide, same_def}
use Rattle.fact_values.specs.Lift.{bits_of}
use Rattle.fact_actions.specs.Actions.{Action, Ask, Unreachable, trap, unless}
use Rattle.fact_actions.specs.Running.{ImportPlaces, Call}
use Rattle.fact_actions.specs.Sides.{LiftLowerOptions, Source, Values, AtAddress, address_value, bytes_of_addresses, type_of_addresses, first_bits, low_half, in_value, with_memory, nth_part, read_number, read_pair, check_region, get_slots, set_slots, reallocate}
use Rattle.fact_actions.specs.Calls.{is_import_of, is_call_of, is_call_of_any, nth_number}
use Rattle.fact_actions.specs.Regions.{Region, Landing, Position, is_request, given_region, given_up, without, moved_on, IsSoundRegion}
use Rattle.fact_actions.specs.Confined.{LiesInSound, IsLiveRegion}
use Rattle.fact_actions.proofs.Owned.{at, room, made, Writes, writes_stop, writes_read, writes_length, writes_ask, own_more, own_left, own_right, own_sides, own_without}
use Rattle.fact_actions.proofs.States.{both, false_true}

-- ---- numbers of addresses

pub bits_address : (o : LiftLowerOptions) (n : ℕ) → bits_of (address_value o n) ≡ n
bits_address o n = by_width (is_wide o.memory)
  where
    by_width : (b : Bool) → bits_of (address_operand b n) ≡ n
    by_width false = refl
    by_width true = refl

pub first_number : (rs : List CoreValue) → nth_number rs 0 ≡ first_bits rs
first_number [] = refl
first_number (v ∷ vs) = refl

abbrev record_of : (at size align : ℕ) → Region
record_of a n m = record { at = a; size = n; align = m }

-- one core item is itself
pub same_self : (d : CoreDef) → same_def d d ≡ true
same_self (def.Export i x) = both (eq-eqb i.number i.number refl) ((bytes_eq-Decides x x).1 refl)
same_self (def.InstanceFlags i) = eq-eqb i.number i.number refl
same_self (def.Trampoline i) = eq-eqb i.number i.number refl

same_region : {a a' n n' m m' : ℕ} → a ≡ a' → n ≡ n' → m ≡ m' → record_of a n m ≡ record_of a' n' m'
same_region {a'} {n} {n'} {m} e f g = ap (λ x. record_of x n m) e ∙ ap (λ x. record_of a' x m) f ∙ ap (λ x. record_of a' n' x) g

module _ (p : ImportPlaces) (next : Call → Position → Position) (l : Landing) (callee : CoreDef) (plain_next : (c : Call) (x : Position) → is_call_of callee c ≡ false → next c x ≡ moved_on c x) where
  abbrev pub W : {A : Type 0} → List Region → World → Action A → (A → List Region → World → Type 0) → Type 0
  W live w q Q = Writes p next l live w q Q

  abbrev pub rm : World → ℕ
  rm w = room p next l w

  -- ---- calls that ask for no memory

  abbrev moved : Bool → List Region → List Region → Position
  moved b live more = if b then record { landing = l; live = more } else record { landing = l; live = live }

  landing_stays : (b : Bool) (live more : List Region) → moved b live more ≡ record { landing = l; live = (moved b live more).live }
  landing_stays true live more = refl
  landing_stays false live more = refl

  moves_on : (c : Call) (live : List Region) → is_call_of callee c ≡ false → next c (at p next l live) ≡ at p next l (moved_on c (at p next l live)).live
  moves_on c live e = plain_next c (at p next l live) e ∙ landing_stays (is_request l c) live (given_region c ∷ without (given_up c) live)

  no_request : (r : Option CoreDef) (c : Call) → ((d : CoreDef) → is_import_of d c.what ≡ false) → is_call_of_any r c ≡ false
  no_request None c h = refl
  no_request (Some d) c h = h d

  pub other : {A : Type 0} (live : List Region) (w : World) (i : Import) (args : List CoreValue) (ts : List ValType) (k : List CoreValue → Action A) (Q : A → List Region → World → Type 0)
      → ((d : CoreDef) → is_import_of d i ≡ false) → ((rs : List CoreValue) (u : World) → rm w ≤ rm u → W live u (k rs) Q) → W live w (Ask i args ts k) Q
  other live w i args ts k Q apart h = writes_ask p next l live w i args ts k Q (λ a. moves_on (record { what = i; args = args; before = w.state; answer = a }) live (apart callee))
      (λ a yes. false_true (sym (no_request l.to.realloc (record { what = i; args = args; before = w.state; answer = a }) apart) ∙ yes)) (λ rs state answers trace g.
      let u : World = record { state = state; answers = answers; trace = trace } in
      let c = made p next l i args w rs state in
      subst (λ b. W (moved b live (given_region c ∷ without (given_up c) live)).live u (k rs) Q) (sym (no_request l.to.realloc c apart)) (h rs u g))

  pub trapped : {A : Type 0} (live : List Region) (w : World) (t : Reason) (Q : A → List Region → World → Type 0) → W live w (trap t) Q
  trapped live w t Q = other live w (import.Trap t) [] [] _ Q (λ d. refl) (λ rs u g. writes_stop p next l live u Q)

  pub unless_w : {A : Type 0} (live : List Region) (w : World) (t : Reason) (b : Bool) (q : Action A) (Q : A → List Region → World → Type 0) → (b ≡ true → W live w q Q) → W live w (unless t b q) Q
  unless_w live w t true q Q h = h refl
  unless_w live w t false q Q h = trapped live w t Q

  -- ---- reads

  pub memory_w : {A : Type 0} (live : List Region) (w : World) (o : LiftLowerOptions) (k : MemoryOption → Action A) (Q : A → List Region → World → Type 0) → ((m : MemoryOption) → o.memory ≡ Some m → W live w (k m) Q) → W live w (with_memory o k) Q
  memory_w live w o k Q h = by_memory o.memory h
    where
      by_memory : (x : Option MemoryOption) → ((m : MemoryOption) → x ≡ Some m → W live w (k m) Q) → W live w (elim x [ None ↦ Unreachable | Some m ↦ k m ]) Q
      by_memory None g = writes_stop p next l live w Q
      by_memory (Some m) g = g m refl

  low_w : {A : Type 0} (live : List Region) (w : World) (debug : Bool) (v : CoreValue) (k : ℕ → Action A) (Q : A → List Region → World → Type 0) → ((n : ℕ) → W live w (k n) Q) → W live w (low_half debug v k) Q
  low_w live w true (I32 n) k Q h = h _
  low_w live w true (I64 n) k Q h = unless_w live w DebugAssertUpperBitsUnset (nat_lt n (2 ^ 32)) (k (n % 2 ^ 32)) Q (λ t. h _)
  low_w live w true (F32 n) k Q h = h _
  low_w live w true (F64 n) k Q h = unless_w live w DebugAssertUpperBitsUnset (nat_lt n (2 ^ 32)) (k (n % 2 ^ 32)) Q (λ t. h _)
  low_w live w true (Func f) k Q h = h _
  low_w live w false v k Q h = h _

  value_w : {A : Type 0} (live : List Region) (w : World) (debug : Bool) (size : ℕ) (vs : List CoreValue) (k : ℕ → Action A) (Q : A → List Region → World → Type 0) → ((n : ℕ) → W live w (k n) Q) → W live w (in_value debug size vs k) Q
  value_w live w debug size [] k Q h = writes_stop p next l live w Q
  value_w live w debug size (v ∷ vs) k Q h = by_size (nat_eq size 8)
    where
      by_size : (b : Bool) → W live w (if b then k (bits_of v) else low_half debug v k) Q
      by_size true = h _
      by_size false = low_w live w debug v k Q h

  pub read_w : {A : Type 0} (live : List Region) (w : World) (debug : Bool) (o : LiftLowerOptions) (size : ℕ) (s : Source) (k : ℕ → Action A) (Q : A → List Region → World → Type 0) → ((n : ℕ) → W live w (k n) Q) → W live w (read_number debug o size s k) Q
  read_w live w debug o size (Values vs) k Q h = value_w live w debug size vs k Q h
  read_w live w debug o size (AtAddress a) k Q h = memory_w live w o _ Q (λ m e. writes_read p next l live w size m.def a k Q h)

  pub pair_w : {A : Type 0} (live : List Region) (w : World) (debug : Bool) (o : LiftLowerOptions) (s : Source) (k : ℕ → ℕ → Action A) (Q : A → List Region → World → Type 0) → ((a n : ℕ) → W live w (k a n) Q) → W live w (read_pair debug o s k) Q
  pair_w live w debug o s k Q h =
      read_w live w debug o (bytes_of_addresses o) (nth_part 1 (bytes_of_addresses o) 0 s) _ Q (λ a.
      read_w live w debug o (bytes_of_addresses o) (nth_part 1 (bytes_of_addresses o) 1 s) (k a) Q (λ n. h a n))

  pub region_w : {A : Type 0} (live : List Region) (w : World) (o : LiftLowerOptions) (t : Reason) (pointer bytes align : ℕ) (q : Action A) (Q : A → List Region → World → Type 0) → W live w q Q → W live w (check_region o t pointer bytes align q) Q
  region_w live w o t pointer bytes align q Q h =
      unless_w live w UnalignedPointer (nat_eq (pointer % align) 0) _ Q (λ e.
      memory_w live w o _ Q (λ m f.
      writes_length p next l live w m.def _ Q (λ x g.
      unless_w live w t (nat_le (pointer + bytes) x) q Q (λ e'. h))))

  -- of the memory that values go to, with what the check tells
  pub checked_w : {A : Type 0} (live : List Region) (w : World) (t : Reason) (pointer bytes align : ℕ) (q : Action A) (Q : A → List Region → World → Type 0)
      → (IsSoundRegion (rm w) (record { at = pointer; size = bytes; align = align }) → W live w q Q) → W live w (check_region l.to t pointer bytes align q) Q
  checked_w live w t pointer bytes align q Q h =
      unless_w live w UnalignedPointer (nat_eq (pointer % align) 0) _ Q (λ aligned.
      memory_w live w l.to _ Q (λ m is_to.
      writes_length p next l live w m.def _ Q (λ x is_length.
      unless_w live w t (nat_le (pointer + bytes) x) q Q (λ inside.
      h (record { aligned = eqb-true (pointer % align) 0 aligned; inside = let i = leb-true (pointer + bytes) x inside in let e : rm w ≡ x = whole m is_to ∙ sym is_length in omega arith })))))
    where
      whole : (m : MemoryOption) → l.to.memory ≡ Some m → rm w ≡ length (get_or w.state.memories (p.memory m.def) [])
      whole m e = ap (λ o. length (elim o as (λ x. List ℕ) [ None ↦ [] | Some n ↦ get_or w.state.memories (p.memory n.def) [] ])) e

  -- ---- what is kept

  abbrev pub hand : List Region → List Region
  hand live = live ++ l.area

  -- the memory has not become shorter, and own places that hold bytes are own still
  pub record Kept (r : ℕ) (live : List Region) (r' : ℕ) (live' : List Region) : Type 0 where
    pub more : r ≤ r'
    pub keeps : (a n : ℕ) → 0 < n → LiesInSound r (hand live) a n → LiesInSound r' (hand live') a n

  pub kept_more : (r r' : ℕ) (live : List Region) → r ≤ r' → Kept r live r' live
  kept_more r r' live g = record { more = g; keeps = λ a n z o. own_more r r' (hand live) a n g o }

  pub kept_on : {r r' r'' : ℕ} {live live' live'' : List Region} → Kept r live r' live' → Kept r' live' r'' live'' → Kept r live r'' live''
  kept_on h g = record { more = let x = h.more in let y = g.more in omega arith; keeps = λ a n z o. g.keeps a n z (h.keeps a n z o) }

  -- one more region, where one without bytes was given up
  pub kept_given : (r : ℕ) (live : List Region) (g h : Region) → g.size ≡ 0 → Kept r live r (h ∷ without g live)
  kept_given r live g h e = record {
    more = omega arith;
    keeps = λ a n z o. elim (own_sides r live l.area a n o) [
      | inl x ↦ inr (own_left r (without g live) l.area a n (own_without r g live a n e z x))
      | inr x ↦ inr (own_right r (without g live) l.area a n x)
    ];
  }

  abbrev pub Fine : {A : Type 0} → List Region → World → A → List Region → World → Type 0
  Fine live w a live' w' = Kept (rm w) live (rm w') live'

  -- ---- realloc

  get_w : {A : Type 0} (live : List Region) (w : World) (b : Bool) (k : List CoreValue → List CoreValue → Action A) (Q : A → List Region → World → Type 0) → ((x y : List CoreValue) (u : World) → rm w ≤ rm u → W live u (k x y) Q) → W live w (get_slots b k) Q
  get_w live w false k Q h = h [] [] w (omega arith)
  get_w live w true k Q h = other live w _ [] _ _ Q (λ d. refl) (λ x u g. other live u _ [] _ _ Q (λ d. refl) (λ y v g'. h x y v (omega arith)))

  set_w : {A : Type 0} (live : List Region) (w : World) (b : Bool) (x y : List CoreValue) (q : Action A) (Q : A → List Region → World → Type 0) → ((u : World) → rm w ≤ rm u → W live u q Q) → W live w (set_slots b x y q) Q
  set_w live w false x y q Q h = h w (omega arith)
  set_w live w true x y q Q h = other live w _ x [] _ Q (λ d. refl) (λ r u g. other live u _ y [] _ Q (λ d. refl) (λ s v g'. h v (omega arith)))

  abbrev pub region : (at size align : ℕ) → Region
  region a n align = record { at = a; size = n; align = align }

  -- what is given up: nothing, or a live region of the alignment that is asked for, which is not 0
  abbrev pub IsOwn : List Region → (old old_size align : ℕ) → Type 0
  IsOwn live old old_size align = (align ≢ 0) × (((old ≡ 0) × (old_size ≡ 0)) ⊎ IsLiveRegion live old old_size align)

  -- the call itself, behind which one region is live in place of another
  request_w : {A : Type 0} (live : List Region) (w : World) (f : CoreDef) (old old_size align new : ℕ) (ts : List ValType) (k : List CoreValue → Action A) (Q : A → List Region → World → Type 0)
      → l.to.realloc ≡ Some f → same_def callee f ≡ false → IsOwn live old old_size align
      → ((rs : List CoreValue) (u : World) → rm w ≤ rm u → W (region (first_bits rs) new align ∷ without (region old old_size align) live) u (k rs) Q)
      → W live w (Ask (import.CoreDef f) (address_value l.to old ∷ address_value l.to old_size ∷ address_value l.to align ∷ address_value l.to new ∷ []) ts k) Q
  request_w live w f old old_size align new ts k Q is_f apart own h =
      writes_ask p next l live w (import.CoreDef f) _ ts k Q (λ a. moves_on _ live apart)
      (λ a yes. subst (λ x. IsOwn live x (bits_of (address_value l.to old_size)) (bits_of (address_value l.to align))) (sym (bits_address l.to old)) (subst (λ y. IsOwn live old y (bits_of (address_value l.to align))) (sym (bits_address l.to old_size)) (subst (λ z. IsOwn live old old_size z) (sym (bits_address l.to align)) own))) (λ rs state answers trace g.
      let u : World = record { state = state; answers = answers; trace = trace } in
      let c = made p next l (import.CoreDef f) (address_value l.to old ∷ address_value l.to old_size ∷ address_value l.to align ∷ address_value l.to new ∷ []) w rs state in
      subst (λ b. W (moved b live (given_region c ∷ without (given_up c) live)).live u (k rs) Q) (sym (ap (λ o. is_call_of_any o c) is_f ∙ same_self f))
      (subst (λ r. W (given_region c ∷ without r live) u (k rs) Q) (sym (same_region (bits_address l.to old) (bits_address l.to old_size) (bits_address l.to align)))
      (subst (λ r. W (r ∷ without (region old old_size align) live) u (k rs) Q) (sym (same_region (first_number rs) (bits_address l.to new) (bits_address l.to align))) (h rs u g))))

  -- realloc, whose answer is checked: the region that it gave is live in place of the one that was given up
  pub reallocate_w : {A : Type 0} (live : List Region) (w : World) (b : Bool) (t : Reason) (old old_size align new : ℕ) (k : ℕ → Action A) (Q : A → List Region → World → Type 0)
      → ((f : CoreDef) → l.to.realloc ≡ Some f → same_def callee f ≡ false) → IsOwn live old old_size align
      → ((q : ℕ) (u : World) → rm w ≤ rm u → IsSoundRegion (rm u) (region q new align) → W (region q new align ∷ without (region old old_size align) live) u (k q) Q)
      → W live w (reallocate b l.to t old old_size align new k) Q
  reallocate_w live w b t old old_size align new k Q apart own h = by_realloc l.to.realloc (λ f e. e)
    where
      by_realloc : (r : Option CoreDef) → ((f : CoreDef) → r ≡ Some f → l.to.realloc ≡ Some f) → W live w (elim r [
        | None ↦ Unreachable
        | Some f ↦
            get_slots b (λ x y. set_slots b (I32 0 ∷ []) (I32 0 ∷ [])
            (Ask (import.CoreDef f) (address_value l.to old ∷ address_value l.to old_size ∷ address_value l.to align ∷ address_value l.to new ∷ []) (type_of_addresses l.to ∷ []) (λ rs.
            set_slots b x y (check_region l.to t (first_bits rs) new align (k (first_bits rs))))))
      ]) Q
      by_realloc None is = writes_stop p next l live w Q
      by_realloc (Some f) is =
          get_w live w b _ Q (λ x y w1 g1.
          set_w live w1 b (I32 0 ∷ []) (I32 0 ∷ []) _ Q (λ w2 g2.
          request_w live w2 f old old_size align new _ _ Q (is f refl) (apart f (is f refl)) own (λ rs w3 g3.
          set_w _ w3 b x y _ Q (λ w4 g4.
          checked_w _ w4 t (first_bits rs) new align (k (first_bits rs)) Q (λ sound. h (first_bits rs) w4 (omega arith) sound)))))
