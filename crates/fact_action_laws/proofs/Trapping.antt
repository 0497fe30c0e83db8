-- Runs that give nothing and end at one trap, where all but traps is honest: one rule for each form of action.
use Rattle.std.proofs.Common.{◌≡◌, ℕ, ◌+◌, ◌%◌, ◌≤◌, ◌⊎◌, inl, inr, Bool, true, false, List, [], ◌∷◌, ◌++◌, length, Some, None, refl, sym, ap, ◌∙◌, subst}
use Rattle.std.specs.Prelude.{slice_get, nat_eq, nat_le, if◌then◌else◌}
use Rattle.std.proofs.lemmas.Bool.{eq-eqb, le-leb}
use Rattle.fact_wasm.specs.declared.types.ValType.{ValType}
use Rattle.fact_wasm.specs.declared.types.ValType.TheVariants as val
use Rattle.fact_types.proofs.ShapeLaws.{same_some, none_some}
use Rattle.fact_types.specs.declared.import.Import.{Import}
use Rattle.fact_types.specs.declared.import.Import.TheVariants as import
use Rattle.fact_types.specs.declared.outside.CoreDef.{CoreDef}
use Rattle.fact_types.specs.declared.outside.MemoryOption.{MemoryOption}
use Rattle.fact_types.specs.declared.outside.Trap.{Trap as TrapCode}
use Rattle.fact_types.specs.declared.outside.Trap.TheVariants.{UnalignedPointer}
use Rattle.fact_types.specs.declared.outside.UnsafeIntrinsic.{UnsafeIntrinsic}
use Rattle.fact_types.specs.declared.outside.UnsafeIntrinsic.TheVariants as slot
use Rattle.fact_machine.specs.declared.types.Answer.{Answer}
use Rattle.fact_machine.specs.declared.types.Answer.TheVariants.{Returns, Traps, Throws}
use Rattle.fact_machine.specs.declared.types.CoreValue.{CoreValue}
use Rattle.fact_machine.specs.declared.types.CoreValue.TheVariants.{I32}
use Rattle.fact_machine.specs.declared.types.MachineState.{MachineState}
use Rattle.fact_machine.specs.declared.types.TraceEntry.TheVariants.{Called}
use Rattle.fact_machine.specs.World.{World, Done, Halt, Stop, Trap, Lack, read, number_at}
use Rattle.fact_machine.specs.World as machine
use Rattle.fact_values.specs.Numbers.{number_in}
use Rattle.fact_actions.specs.Actions as action
use Rattle.fact_actions.specs.Actions.{Action, MemoryLength, Read, Ask, ◌>>=◌, trap, unless}
use Rattle.fact_actions.specs.Calls.{side_memory}
use Rattle.fact_actions.specs.Regions.{Region}
use Rattle.fact_actions.specs.Running.{Call, Ended, Gave, Halted, Strayed, heavier, later, then_ended, or_strayed, ended, if_typed, is_answer, with_answer, call_of, run}
use Rattle.fact_actions.specs.Sides.{LiftLowerOptions, address_value, type_of_addresses, first_bits, with_memory, check_region, get_slots, set_slots, reallocate}
use Rattle.fact_actions.proofs.Binds.{binds_run}
use Rattle.fact_action_laws.specs.HonestMoves.{IsHonestRealloc}
use Rattle.fact_action_laws.specs.Regions.{TransferSetting, regions_by}
use Rattle.fact_action_laws.specs.PastLimits.{IsHonestOrTrap, AreHonestOrTraps, IsLastOf, EndsAtTrap}
use Rattle.fact_action_laws.proofs.Equipped.{IsEquipped}
use Rattle.fact_action_laws.proofs.States.{from_bytes, to_bytes, There, typed_later, request_is}

-- ---- ends

behind_one : (t : TrapCode) (x : Call) (s : Stop) (ds : List Call) → (s ≡ Lack) ⊎ IsLastOf t ds → (s ≡ Lack) ⊎ IsLastOf t (x ∷ ds)
behind_one t x s ds (inl h) = inl h
behind_one t x s [] (inr h) = absurd h
behind_one t x s (d ∷ ds) (inr h) = inr h

module _ (c : TransferSetting) where
  -- calls before others are honest where all are
  honest_front : (gs : List Region) (cs ds : List Call) → AreHonestOrTraps c gs (cs ++ ds) → AreHonestOrTraps c gs cs
  honest_front gs [] ds h = tt
  honest_front gs (x ∷ cs) ds h = (h.0, honest_front (regions_by x.what x.args x.answer gs) cs ds h.1)

  module _ (t : TrapCode) {A : Type 0} (gs : List Region) where
    ends_later : (x : Call) (e : Ended A) → (IsHonestOrTrap c gs x.what x.args x.before x.answer → EndsAtTrap c t (regions_by x.what x.args x.answer gs) e) → EndsAtTrap c t gs (later (x ∷ []) e)
    ends_later x (Gave n ds a w) f = λ o. f o.0 o.1
    ends_later x (Halted n ds s w) f = λ o. behind_one t x s ds (f o.0 o.1)
    ends_later x (Strayed n ds w) f = tt

    -- what would follow does not
    ends_before : (n : ℕ) (cs : List Call) (e : Ended A) → (AreHonestOrTraps c gs cs → ⊥) → EndsAtTrap c t gs (heavier n (later cs e))
    ends_before n cs (Gave m ds a w) h = λ o. h (honest_front gs cs ds o)
    ends_before n cs (Halted m ds s w) h = λ o. absurd (h (honest_front gs cs ds o))
    ends_before n cs (Strayed m ds w) h = tt

    pub record Trapping (q : Action A) (w : World) : Type 0 where
      pub by : EndsAtTrap c t gs (run c.places q w)

-- ---- actions

module _ {c : TransferSetting} {t : TrapCode} where
  module _ {A : Type 0} {gs : List Region} where
    -- a call whose answer is neither a trap nor a throw
    pub traps_ask : {i : Import} {args : List CoreValue} {ts : List ValType} {k : List CoreValue → Action A} {w : World}
        → (IsHonestOrTrap c gs i args w.state Traps → ⊥) → (IsHonestOrTrap c gs i args w.state Throws → ⊥)
        → ((rs : List CoreValue) (w' : World) → is_answer c.places ts w.state rs w'.state ≡ true → IsHonestOrTrap c gs i args w.state (Returns rs w'.state) → Trapping c t (regions_by i args (Returns rs w'.state) gs) (k rs) w')
        → Trapping c t gs (Ask i args ts k) w
    traps_ask {i} {args} {ts} {k} {w} no_trap no_throw behind = record { by = go w.answers }
      where
        if_so : (b : Bool) (x : Call) (w' : World) (e : Ended A) → (b ≡ true → IsHonestOrTrap c gs x.what x.args x.before x.answer → EndsAtTrap c t (regions_by x.what x.args x.answer gs) e) → EndsAtTrap c t gs (later (x ∷ []) (if_typed b w' e))
        if_so true x w' e h = ends_later c t gs x e (h refl)
        if_so false x w' e h = tt

        returned : List CoreValue → MachineState → List Answer → World
        returned rs after l = record { state = after; answers = l; trace = w.trace ++ Called (record { func = c.places.function i; args = args; before = w.state; answer = Returns rs after }) ∷ [] }

        go : (l : List Answer) → EndsAtTrap c t gs (later (call_of i args w.state l) (with_answer c.places ts w (machine.asked (c.places.function i) args w l) (λ rs w'. run c.places (k rs) w')))
        go [] = λ o. inl refl
        go (Returns rs after ∷ l) =
            if_so (is_answer c.places ts w.state rs after) (record { what = i; args = args; before = w.state; answer = Returns rs after }) (returned rs after l) (run c.places (k rs) (returned rs after l))
            (λ typed honest. (behind rs (returned rs after l) typed honest).by)
        go (Traps ∷ l) = λ o. absurd (no_trap o.0)
        go (Throws ∷ l) = λ o. absurd (no_throw o.0)

    -- the trap, whatever is answered
    pub traps_so : {w : World} → Trapping c t gs (trap {A = A} t) w
    traps_so {w} = record { by = go w.answers }
      where
        if_so : (b : Bool) (x : Call) (w' : World) → x.what ≡ import.Trap t → EndsAtTrap c t {A = A} gs (later (x ∷ []) (if_typed b w' (Halted 0 [] Trap w')))
        if_so true x w' is = λ o. inr is
        if_so false x w' is = tt

        go : (l : List Answer) → EndsAtTrap c t {A = A} gs (later (call_of (import.Trap t) [] w.state l) (with_answer c.places [] w (machine.asked (c.places.function (import.Trap t)) [] w l) (λ rs w'. run c.places action.Unreachable w')))
        go [] = λ o. inl refl
        go (Returns rs after ∷ l) = if_so (is_answer c.places [] w.state rs after) _ _ refl
        go (Traps ∷ l) = λ o. inr refl
        go (Throws ∷ l) = λ o. inr refl

    -- a test that fails, and one that holds
    pub traps_unless : (b : Bool) (q : Action A) {w : World} → b ≡ false → Trapping c t gs (unless t b q) w
    traps_unless b q {w} fails = subst (λ b. Trapping c t gs (unless t b q) w) (sym fails) traps_so

    pub traps_behind : (u : TrapCode) (b : Bool) (q : Action A) {w : World} → b ≡ true → Trapping c t gs q w → Trapping c t gs (unless u b q) w
    traps_behind u b q {w} holds h = subst (λ b. Trapping c t gs (unless u b q) w) (sym holds) h

    traps_length : {m : CoreDef} {k : ℕ → Action A} {w : World} {bytes : List ℕ} → slice_get w.state.memories (c.places.memory m) ≡ Some bytes → Trapping c t gs (k (length bytes)) w → Trapping c t gs (MemoryLength m k) w
    traps_length {m} {k} {w} {bytes} e h = record { by = subst (λ o. EndsAtTrap c t gs (or_strayed w o (λ bytes. run c.places (k (length bytes)) w))) (sym e) h.by }

    pub traps_read : {n a x : ℕ} {m : CoreDef} {k : ℕ → Action A} {w : World} {bytes : List ℕ} → slice_get w.state.memories (c.places.memory m) ≡ Some bytes → number_in bytes n a ≡ Some x → Trapping c t gs (k x) w → Trapping c t gs (Read n m a k) w
    traps_read {n} {a} {x} {m} {k} {w} {bytes} e i h =
        record { by = subst (λ o. EndsAtTrap c t gs (or_strayed w o (λ bytes. ended (read n bytes a w) (λ x w'. run c.places (k x) w')))) (sym e) (go (nat_le (a + n) (length bytes)) i) }
      where
        go : (b : Bool) → (if b then Some (number_at n bytes a) else None) ≡ Some x → EndsAtTrap c t gs (ended (if b then Done (number_at n bytes a) w else Halt Trap w) (λ x w'. run c.places (k x) w'))
        go true e = subst (λ x. EndsAtTrap c t gs (run c.places (k x) w)) (same_some (Some x) x (number_at n bytes a) refl (sym e)) h.by
        go false e = absurd (none_some None x refl e)

    pub traps_with : (o : LiftLowerOptions) (m : MemoryOption) (k : MemoryOption → Action A) {w : World} → o.memory ≡ Some m → Trapping c t gs (k m) w → Trapping c t gs (with_memory o k) w
    traps_with o m k {w} is h = subst (λ x. Trapping c t gs (elim x [ None ↦ action.Unreachable | Some m ↦ k m ]) w) (sym is) h

    -- the check of a region that is in order
    pub traps_check : (o : LiftLowerOptions) (m : MemoryOption) (u : TrapCode) (pointer bytes align : ℕ) (q : Action A) (w : World) (memory : List ℕ) → o.memory ≡ Some m → slice_get w.state.memories (c.places.memory m.def) ≡ Some memory
        → pointer % align ≡ 0 → pointer + bytes ≤ length memory → Trapping c t gs q w → Trapping c t gs (check_region o u pointer bytes align q) w
    traps_check o m u pointer bytes align q w memory is there aligned inside h =
        traps_behind UnalignedPointer (nat_eq (pointer % align) 0) _ (eq-eqb (pointer % align) 0 aligned)
        (traps_with o m (λ m. MemoryLength m.def (λ length. unless u (nat_le (pointer + bytes) length) q)) is
        (traps_length there (traps_behind u (nat_le (pointer + bytes) (length memory)) q (le-leb (pointer + bytes) (length memory) inside) h)))

  -- one action after one that traps
  pub traps_first : {A B : Type 0} {gs : List Region} (q : Action A) (f : A → Action B) (w : World) → Trapping c t gs q w → Trapping c t gs (q >>= f) w
  traps_first {A} {B} {gs} q f w h = record { by = subst (EndsAtTrap c t gs) (sym (binds_run c.places q f w)) (go (run c.places q w) h.by) }
    where
      go : (e : Ended A) → EndsAtTrap c t gs e → EndsAtTrap c t gs (then_ended e (λ a w'. run c.places (f a) w'))
      go (Gave n cs a w') h = ends_before c t gs n cs (run c.places (f a) w') h
      go (Halted n cs s w') h = h
      go (Strayed n cs w') h = tt

-- ---- calls of a transfer

module _ {c : TransferSetting} (e : IsEquipped c) where
  -- both memories are there, and that of the source has the bytes that it had
  pub record Ready (w : World) : Type 0 where
    pub there : There e w.state
    pub same : from_bytes e w.state ≡ c.source

  pub ready_later : (ts : List ValType) (rs : List CoreValue) (w w' : World) → Ready w → is_answer c.places ts w.state rs w'.state ≡ true → from_bytes e w'.state ≡ from_bytes e w.state → Ready w'
  ready_later ts rs w w' r typed same = record { there = (typed_later e ts rs w.state w'.state r.there typed).there; same = same ∙ r.same }

  same_from : (s s' : MachineState) → s'.memories ≡ s.memories → from_bytes e s' ≡ from_bytes e s
  same_from s s' h = ap (λ ms. side_memory c.places c.transfer.from (record { memories = ms; globals = s.globals })) h

  same_to : (s s' : MachineState) → s'.memories ≡ s.memories → to_bytes e s' ≡ to_bytes e s
  same_to s s' h = ap (λ ms. side_memory c.places c.transfer.to (record { memories = ms; globals = s.globals })) h

  module _ {t : TrapCode} {A : Type 0} {gs : List Region} where
    traps_slot : (i : UnsafeIntrinsic) (args : List CoreValue) (ts : List ValType) (k : List CoreValue → Action A) (w : World) → Ready w
        → ((rs : List CoreValue) (w' : World) → Ready w' → w'.state.memories ≡ w.state.memories → Trapping c t gs (k rs) w') → Trapping c t gs (Ask (import.UnsafeIntrinsic i) args ts k) w
    traps_slot i args ts k w r on = traps_ask (λ h. h) (λ h. h) (λ rs w' typed honest. on rs w' (ready_later ts rs w w' r typed (same_from w.state w'.state honest)) honest)

    traps_get_slots : (b : Bool) (k : List CoreValue → List CoreValue → Action A) (w : World) → Ready w
        → ((x y : List CoreValue) (w' : World) → Ready w' → w'.state.memories ≡ w.state.memories → Trapping c t gs (k x y) w') → Trapping c t gs (get_slots b k) w
    traps_get_slots false k w r on = on [] [] w r refl
    traps_get_slots true k w r on =
        traps_slot slot.ContextGetI32_0 [] (val.I32 ∷ []) (λ a. Ask (import.UnsafeIntrinsic slot.ContextGetI32_1) [] (val.I32 ∷ []) (λ b. k a b)) w r (λ x w1 r1 h1.
        traps_slot slot.ContextGetI32_1 [] (val.I32 ∷ []) (λ b. k x b) w1 r1 (λ y w2 r2 h2. on x y w2 r2 (h2 ∙ h1)))

    traps_set_slots : (b : Bool) (x y : List CoreValue) (q : Action A) (w : World) → Ready w
        → ((w' : World) → Ready w' → w'.state.memories ≡ w.state.memories → Trapping c t gs q w') → Trapping c t gs (set_slots b x y q) w
    traps_set_slots false x y q w r on = on w r refl
    traps_set_slots true x y q w r on =
        traps_slot slot.ContextSetI32_0 x [] (λ z. Ask (import.UnsafeIntrinsic slot.ContextSetI32_1) y [] (λ s. q)) w r (λ z w1 r1 h1.
        traps_slot slot.ContextSetI32_1 y [] (λ s. q) w1 r1 (λ s w2 r2 h2. on w2 r2 (h2 ∙ h1)))

  -- an honest region
  pub traps_reallocate : {t : TrapCode} {A : Type 0} {gs : List Region} (u : TrapCode) (old size align new : ℕ) (k : ℕ → Action A) (w : World) → Ready w
      → ((gs' : List Region) (q : ℕ) (w' : World) → Ready w' → Trapping c t gs' (k q) w') → Trapping c t gs (reallocate c.transfer.concurrency c.transfer.to u old size align new k) w
  traps_reallocate {t} {A} {gs} u old size align new k w r on =
      subst (λ o. Trapping c t gs (elim o [ None ↦ action.Unreachable | Some f ↦ called f ]) w) (sym e.realloc_is)
      (traps_get_slots c.transfer.concurrency (λ a b. set_slots c.transfer.concurrency (I32 0 ∷ []) (I32 0 ∷ []) (asked e.realloc a b)) w r (λ x y w1 r1 h1.
      traps_set_slots c.transfer.concurrency (I32 0 ∷ []) (I32 0 ∷ []) (asked e.realloc x y) w1 r1 (λ w2 r2 h2.
      traps_ask (λ h. h) (λ h. h) (λ rs w3 typed honest.
      let q = first_bits rs in
      let clean : IsHonestRealloc c gs (record { old = old; old_size = size; align = align; new_size = new }) q w2.state w3.state = subst (λ r. IsHonestRealloc c gs r q w2.state w3.state) (request_is c.transfer.to old size align new) honest in
      let r3 = ready_later (type_of_addresses c.transfer.to ∷ []) rs w2 w3 r2 typed clean.source in
      traps_set_slots c.transfer.concurrency x y (checked q) w3 r3 (λ w4 r4 h4.
      traps_check c.transfer.to e.to u q new align (k q) w4 (to_bytes e w4.state) e.to_is r4.there.to clean.aligned (subst (λ l. q + new ≤ length l) (sym (same_to w3.state w4.state h4)) clean.inside) (on _ q w4 r4))))))
    where
      checked : ℕ → Action A
      checked q = check_region c.transfer.to u q new align (k q)

      asked : CoreDef → List CoreValue → List CoreValue → Action A
      asked f a b = Ask (import.CoreDef f) (address_value c.transfer.to old ∷ address_value c.transfer.to size ∷ address_value c.transfer.to align ∷ address_value c.transfer.to new ∷ []) (type_of_addresses c.transfer.to ∷ [])
          (λ rs. set_slots c.transfer.concurrency a b (checked (first_bits rs)))

      called : CoreDef → Action A
      called f = get_slots c.transfer.concurrency (λ a b. set_slots c.transfer.concurrency (I32 0 ∷ []) (I32 0 ∷ []) (asked f a b))
