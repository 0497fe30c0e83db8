-- A call of realloc on a walk along the path of a text (`Walks`), with what stands around it, and the check of its answer.
use Rattle.std.proofs.Common.{◌≡◌, ℕ, ◌+◌, ◌%◌, ◌^◌, ◌≤◌, ◌<◌, Bool, true, false, List, [], ◌∷◌, length, Some, None, refl, sym, ◌∙◌, subst, arith}
use Rattle.std.specs.Prelude.{slice_get, nat_eq, nat_le, ◌&&◌}
use Rattle.std.proofs.lemmas.Bool.{false≢true, leb-true, le-leb, eqb-true, eq-eqb}
use Rattle.fact_wasm.specs.declared.types.ValType.{ValType}
use Rattle.fact_wasm.specs.declared.types.ValType.TheVariants as val
use Rattle.fact_types.specs.declared.outside.CoreDef.{CoreDef}
use Rattle.fact_types.specs.declared.outside.Trap.{Trap as TrapCode}
use Rattle.fact_types.specs.declared.outside.UnsafeIntrinsic.{UnsafeIntrinsic}
use Rattle.fact_types.specs.declared.outside.UnsafeIntrinsic.TheVariants as slot
use Rattle.fact_machine.specs.declared.types.CoreValue.{CoreValue}
use Rattle.fact_machine.specs.declared.types.CoreValue.TheVariants.{I32}
use Rattle.fact_machine.specs.declared.types.MachineState.{MachineState}
use Rattle.fact_machine.specs.World.{World}
use Rattle.fact_types.specs.declared.import.Import.TheVariants as import
use Rattle.fact_actions.specs.Actions as action
use Rattle.fact_actions.specs.Actions.{Action, Ask, MemoryLength, unless}
use Rattle.fact_actions.specs.Paths.{align_of}
use Rattle.fact_machine.specs.Typed.{are_values, is_grown}
use Rattle.fact_actions.specs.Running.{is_state, Call}
use Rattle.fact_actions.specs.Sides.{LiftLowerOptions, with_memory, address_value, type_of_addresses, first_bits, check_region, get_slots, set_slots, reallocate}
use Rattle.fact_types.specs.declared.outside.MemoryOption.{MemoryOption}
use Rattle.fact_machine.specs.Typing.{address_bits}
use Rattle.fact_action_laws.specs.HonestMoves.{IsHonestRealloc}
use Rattle.fact_actions.specs.Regions.{Region, without, Position}
use Rattle.fact_action_laws.specs.Regions.{TransferSetting, old_region, region_from}
use Rattle.fact_actions.specs.Requests.{Request}
use Rattle.fact_actions.proofs.States.{and_left}
use Rattle.fact_action_laws.proofs.Answered.{position, MovesAlong, other_stays, realloc_moves}
use Rattle.fact_action_laws.proofs.Equipped.{IsEquipped}
use Rattle.fact_action_laws.proofs.States.{from_bytes, to_bytes, There, Later, typed_later, request_is, answer_below}
use Rattle.fact_action_laws.proofs.Trails.{Walks, walks_more, walks_ask, walks_length, walks_unless}
use Rattle.fact_types.specs.Adapters.{is_wide}

-- ---- checks of regions

module _ {c : TransferSetting} {next : Call → Position → Position} {Kept Good Text : Type 0} {A : Type 0} {gs : List Region} {P : List Region → A → World → Type 0} {most : ℕ} where
  pub walks_with : (o : LiftLowerOptions) (m : MemoryOption) (k : MemoryOption → Action A) (w : World) → o.memory ≡ Some m → Walks c next Kept Good Text most gs P (k m) w → Walks c next Kept Good Text most gs P (with_memory o k) w
  walks_with o m k w is h = subst (λ x. Walks c next Kept Good Text most gs P (elim x [ None ↦ action.Unreachable | Some m ↦ k m ]) w) (sym is) h

  pub walks_check : (o : LiftLowerOptions) (m : MemoryOption) (t : TrapCode) (pointer bytes align : ℕ) (q : Action A) (w : World) (memory : List ℕ) → o.memory ≡ Some m → slice_get w.state.memories (c.places.memory m.def) ≡ Some memory
      → (Good → (pointer % align ≡ 0) × (pointer + bytes ≤ length memory)) → (pointer % align ≡ 0 → pointer + bytes ≤ length memory → Walks c next Kept Good Text most gs P q w)
      → Walks c next Kept Good Text most gs P (check_region o t pointer bytes align q) w
  walks_check o m t pointer bytes align q w memory is there good behind =
      walks_unless _ (nat_eq (pointer % align) 0) (λ no g. false≢true (sym no ∙ eq-eqb (pointer % align) 0 (good g).0)) (λ yes.
      walks_with o m (λ m. MemoryLength m.def (λ length. unless t (nat_le (pointer + bytes) length) q)) w is
      (walks_length there (walks_unless t (nat_le (pointer + bytes) (length memory)) (λ no g. false≢true (sym no ∙ le-leb (pointer + bytes) (length memory) (good g).1)) (λ yes2.
      behind (eqb-true (pointer % align) 0 yes) (leb-true (pointer + bytes) (length memory) yes2)))))

-- ---- the slots of the context

module _ {c : TransferSetting} (e : IsEquipped c) (Kept Good : Type 0) (kept : Good → Kept) where
  -- behind calls that change no memory, if Kept
  record Behind (s s' : MachineState) : Type 0 where
    there : There e s'
    from_longer : length (from_bytes e s) ≤ length (from_bytes e s')
    to_longer : length (to_bytes e s) ≤ length (to_bytes e s')
    from_cap : length (from_bytes e s) ≤ 2 ^ address_bits (is_wide c.transfer.from.memory) → length (from_bytes e s') ≤ 2 ^ address_bits (is_wide c.transfer.from.memory)
    to_cap : length (to_bytes e s) ≤ 2 ^ address_bits (is_wide c.transfer.to.memory) → length (to_bytes e s') ≤ 2 ^ address_bits (is_wide c.transfer.to.memory)
    same : Kept → s'.memories ≡ s.memories

  behind_none : (s : MachineState) → There e s → Behind s s
  behind_none s there = record { there = there; from_longer = omega arith; to_longer = omega arith; from_cap = λ h. h; to_cap = λ h. h; same = λ k. refl }

  behind_later : (s s' : MachineState) → Later e s s' → (Kept → s'.memories ≡ s.memories) → Behind s s'
  behind_later s s' l same = record { there = l.there; from_longer = l.from_longer; to_longer = l.to_longer; from_cap = λ h. l.from_cap; to_cap = λ h. l.to_cap; same = same }

  behind_then : (s s1 s2 : MachineState) → Behind s s1 → Behind s1 s2 → Behind s s2
  behind_then s s1 s2 a b = record {
    there = b.there;
    from_longer = omega (arith, a.from_longer, b.from_longer);
    to_longer = omega (arith, a.to_longer, b.to_longer);
    from_cap = λ h. b.from_cap (a.from_cap h);
    to_cap = λ h. b.to_cap (a.to_cap h);
    same = λ k. b.same k ∙ a.same k;
  }

  module _ {next : Call → Position → Position} (steps : MovesAlong c next) {A Text : Type 0} {gs : List Region} {P : List Region → A → World → Type 0} where
    walks_slot : {n : ℕ} (i : UnsafeIntrinsic) (args : List CoreValue) (ts : List ValType) (k : List CoreValue → Action A) (w : World) → There e w.state
        → ((rs : List CoreValue) (w' : World) → Behind w.state w'.state → Walks c next Kept Good Text n gs P (k rs) w') → Walks c next Kept Good Text (1 + n) gs P (Ask (import.UnsafeIntrinsic i) args ts k) w
    walks_slot {n} i args ts k w there on = walks_ask {b = n} (omega arith) refl (λ a. tt) (λ a z t. tt) (λ rs after. other_stays steps _ (position c gs) (λ d. refl)) (λ rs w' typed honest. on rs w' (behind_later w.state w'.state (typed_later e ts rs w.state w'.state there typed) honest))

    walks_get_slots : {n : ℕ} (b : Bool) (k : List CoreValue → List CoreValue → Action A) (w : World) → There e w.state
        → ((x y : List CoreValue) (w' : World) → Behind w.state w'.state → Walks c next Kept Good Text n gs P (k x y) w') → Walks c next Kept Good Text (2 + n) gs P (get_slots b k) w
    walks_get_slots {n} false k w there on = walks_more {a = n} (omega arith) (λ rs x w' p. p) (on [] [] w (behind_none w.state there))
    walks_get_slots {n} true k w there on =
        walks_more {a = 1 + (1 + n)} (omega arith) (λ rs x w' p. p) (walks_slot slot.ContextGetI32_0 [] (val.I32 ∷ []) (λ a. Ask (import.UnsafeIntrinsic slot.ContextGetI32_1) [] (val.I32 ∷ []) (λ b. k a b)) w there (λ x w1 h1.
        walks_slot slot.ContextGetI32_1 [] (val.I32 ∷ []) (λ b. k x b) w1 h1.there (λ y w2 h2. on x y w2 (behind_then w.state w1.state w2.state h1 h2))))

    walks_set_slots : {n : ℕ} (b : Bool) (x y : List CoreValue) (q : Action A) (w : World) → There e w.state
        → ((w' : World) → Behind w.state w'.state → Walks c next Kept Good Text n gs P q w') → Walks c next Kept Good Text (2 + n) gs P (set_slots b x y q) w
    walks_set_slots {n} false x y q w there on = walks_more {a = n} (omega arith) (λ rs x w' p. p) (on w (behind_none w.state there))
    walks_set_slots {n} true x y q w there on =
        walks_more {a = 1 + (1 + n)} (omega arith) (λ rs x w' p. p) (walks_slot slot.ContextSetI32_0 x [] (λ r. Ask (import.UnsafeIntrinsic slot.ContextSetI32_1) y [] (λ s. q)) w there (λ r w1 h1.
        walks_slot slot.ContextSetI32_1 y [] (λ s. q) w1 h1.there (λ r2 w2 h2. on w2 (behind_then w.state w1.state w2.state h1 h2))))

  -- ---- realloc

  -- a region of a size at q, for one that is given up
  pub record Got (gs : List Region) (p old new q : ℕ) (s s' : MachineState) : Type 0 where
    pub aligned : q % align_of c.transfer.to.encoding ≡ 0
    pub below : q < 2 ^ address_bits (is_wide c.transfer.to.memory)
    pub inside : q + new ≤ length (to_bytes e s')
    pub later : Later e s s'
    pub honest : Kept → IsHonestRealloc c gs (record { old = p; old_size = old; align = align_of c.transfer.to.encoding; new_size = new }) q s s'

  -- an answer by the memories alone
  honest_by : (gs : List Region) (r : Request) (q : ℕ) (ms ns : List (List ℕ)) (g g' h h' : List CoreValue) → IsHonestRealloc c gs r q (record { memories = ms; globals = g }) (record { memories = ns; globals = g' })
      → IsHonestRealloc c gs r q (record { memories = ms; globals = h }) (record { memories = ns; globals = h' })
  honest_by gs r q ms ns g g' h h' x = record { aligned = x.aligned; inside = x.inside; apart = x.apart; holds = x.holds; others = x.others; source = x.source }

  honest_same : (gs : List Region) (r : Request) (q : ℕ) (s s1 s2 s3 : MachineState) → s1.memories ≡ s.memories → s3.memories ≡ s2.memories → IsHonestRealloc c gs r q s1 s2 → IsHonestRealloc c gs r q s s3
  honest_same gs r q s s1 s2 s3 a b x =
      subst (λ ms. IsHonestRealloc c gs r q (record { memories = ms; globals = s.globals }) s3) a
      (subst (λ ns. IsHonestRealloc c gs r q (record { memories = s1.memories; globals = s.globals }) (record { memories = ns; globals = s3.globals })) (sym b)
      (honest_by gs r q s1.memories s2.memories s1.globals s2.globals s.globals s3.globals x))

  got : (gs : List Region) (p old new q : ℕ) (s s1 s2 s3 : MachineState) → Behind s s1 → Later e s1 s2 → Behind s2 s3 → q < 2 ^ address_bits (is_wide c.transfer.to.memory)
      → (Kept → IsHonestRealloc c gs (record { old = p; old_size = old; align = align_of c.transfer.to.encoding; new_size = new }) q s1 s2)
      → q % align_of c.transfer.to.encoding ≡ 0 → q + new ≤ length (to_bytes e s3) → Got gs p old new q s s3
  got gs p old new q s s1 s2 s3 a l b below honest aligned inside = record {
    aligned = aligned;
    below = below;
    inside = inside;
    later = record { there = b.there; from_longer = omega (arith, a.from_longer, l.from_longer, b.from_longer); to_longer = omega (arith, a.to_longer, l.to_longer, b.to_longer); from_cap = b.from_cap l.from_cap; to_cap = b.to_cap l.to_cap };
    honest = λ k. honest_same gs _ q s s1 s2 s3 (a.same k) (b.same k) (honest k);
  }

  module _ {next : Call → Position → Position} (steps : MovesAlong c next) {A Text : Type 0} {gs : List Region} {P : List Region → A → World → Type 0} where
    pub walks_reallocate : {n : ℕ} (t : TrapCode) (p old new : ℕ) (k : ℕ → Action A) (w : World) → There e w.state
        → ((q : ℕ) (w' : World) → Got gs p old new q w.state w'.state → Walks c next Kept Good Text n (record { at = q; size = new; align = align_of c.transfer.to.encoding } ∷ without (record { at = p; size = old; align = align_of c.transfer.to.encoding }) gs) P (k q) w')
        → Walks c next Kept Good Text (7 + n) gs P (reallocate c.transfer.concurrency c.transfer.to t p old (align_of c.transfer.to.encoding) new k) w
    walks_reallocate {n} t p old new k w there on =
        subst (λ r. Walks c next Kept Good Text (7 + n) gs P (elim r [ None ↦ action.Unreachable | Some f ↦ called f ]) w) (sym e.realloc_is)
        (walks_more {a = 2 + (2 + (1 + (2 + n)))} (omega arith) (λ rs x w' h. h)
        (walks_get_slots steps c.transfer.concurrency (λ a b. set_slots c.transfer.concurrency (I32 0 ∷ []) (I32 0 ∷ []) (asked e.realloc a b)) w there (λ x y w1 h1.
        walks_set_slots steps c.transfer.concurrency (I32 0 ∷ []) (I32 0 ∷ []) (asked e.realloc x y) w1 h1.there (λ w2 h2.
        walks_ask {b = 2 + n} (omega arith) refl (λ a. tt) (λ a z t. tt) (λ rs after. realloc_moves steps e.realloc _ rs w2.state after gs e.realloc_is) (λ rs w3 typed honest.
        let l = typed_later e (type_of_addresses c.transfer.to ∷ []) rs w2.state w3.state h2.there typed in
        let q = first_bits rs in
        let below = answer_below c.transfer.to rs (and_left (are_values rs (type_of_addresses c.transfer.to ∷ [])) (is_state c.places w3.state && is_grown w2.state.memories w3.state.memories) typed) in
        let is = request_is c.transfer.to p old (align_of c.transfer.to.encoding) new in
        let clean : Kept → IsHonestRealloc c gs (record { old = p; old_size = old; align = align_of c.transfer.to.encoding; new_size = new }) q w2.state w3.state = λ z. subst (λ r. IsHonestRealloc c gs r q w2.state w3.state) is (honest z) in
        subst (λ r. Walks c next Kept Good Text (2 + n) (region_from r q ∷ without (old_region r) gs) P (set_slots c.transfer.concurrency x y (checked q)) w3) (sym is)
        (walks_set_slots steps c.transfer.concurrency x y (checked q) w3 l.there (λ w4 h4.
        let a = behind_then w.state w1.state w2.state h1 h2 in
        walks_check c.transfer.to e.to t q new (align_of c.transfer.to.encoding) (k q) w4 (to_bytes e w4.state) e.to_is h4.there.to
        (λ g. let z = honest_same gs _ q w2.state w2.state w3.state w4.state refl (h4.same (kept g)) (clean (kept g)) in (z.aligned, z.inside))
        (λ al le. on q w4 (got gs p old new q w.state w2.state w3.state w4.state a l h4 below clean al le)))))))))
      where
        checked : ℕ → Action A
        checked q = check_region c.transfer.to t q new (align_of c.transfer.to.encoding) (k q)

        asked : CoreDef → List CoreValue → List CoreValue → Action A
        asked f a b = Ask (import.CoreDef f) (address_value c.transfer.to p ∷ address_value c.transfer.to old ∷ address_value c.transfer.to (align_of c.transfer.to.encoding) ∷ address_value c.transfer.to new ∷ []) (type_of_addresses c.transfer.to ∷ [])
            (λ rs. set_slots c.transfer.concurrency a b (checked (first_bits rs)))

        called : CoreDef → Action A
        called f = get_slots c.transfer.concurrency (λ a b. set_slots c.transfer.concurrency (I32 0 ∷ []) (I32 0 ∷ []) (asked f a b))
