-- A walk of a path asks of realloc what the path says, by the answers so far.
use Rattle.std.proofs.Common.{◌≡◌, ℕ, ◌+◌, ◌/◌, ◌%◌, Bool, true, false, List, [], ◌∷◌, Option, Some, None, refl, ap, ◌∙◌}
use Rattle.std.specs.Prelude.{nat_eq, nat_le}
use Rattle.fact_wasm.specs.declared.types.ValType.TheVariants as val
use Rattle.fact_types.specs.declared.import.Import.TheVariants as import
use Rattle.fact_types.specs.declared.outside.CoreDef.{CoreDef}
use Rattle.fact_types.specs.declared.outside.Transcode.{Transcode}
use Rattle.fact_types.specs.declared.outside.Trap.{Trap as TrapCode}
use Rattle.fact_types.specs.declared.outside.Trap.TheVariants.{StringOutOfBounds}
use Rattle.fact_types.specs.declared.outside.UnsafeIntrinsic.TheVariants as slot
use Rattle.fact_machine.specs.declared.types.CoreValue.{CoreValue}
use Rattle.fact_machine.specs.declared.types.CoreValue.TheVariants.{I32}
use Rattle.fact_actions.specs.Actions.{Action, Ask, Unreachable}
use Rattle.fact_actions.specs.Paths.{Amount, SourceUnits, WrittenUnits, Test, AllRead, WrittenIs, HasNoTag, KeepsUnits, Path, End, Limit, Resize, Pass, If, Tag, Assert, align_of}
use Rattle.fact_actions.specs.Requests.{Request, next_answer, either, path_requests}
use Rattle.fact_actions.specs.Sides.{LiftLowerOptions, Transfer, first_bits, address_value, type_of_addresses, check_region, get_slots, set_slots, reallocate}
use Rattle.fact_actions.specs.Strings.{PathPoint, amount, holds, with_tag, passed, transcode, most_string_bytes, asserted, choose_action, walk}
use Rattle.fact_actions.specs.Transcoders.{TranscodeKind, AllUnits, Counted, Fitting, Narrow, Tagged, Widening, transcode_kind, transcode_types}
use Rattle.fact_action_laws.specs.Regions.{TransferSetting}
use Rattle.fact_action_laws.proofs.Asking.{Answers, Asks, asks_give, asks_stop, asks_other, asks_transcode, asks_realloc, asks_unless, asks_with, asks_length, asks_bind}
use Rattle.fact_action_laws.proofs.Fine.{HasKnownSides}
use Rattle.fact_action_laws.proofs.States.{request_is}

module _ (c : TransferSetting) (known : HasKnownSides c) where
  -- ---- realloc

  module _ {A K : Type 0} {app : K → A → Answers → List Request} where
    pub asks_check : (S : Answers → K → List Request) (o : LiftLowerOptions) (t : TrapCode) (pointer bytes align : ℕ) (q : Action A) → Asks c known app S q → Asks c known app S (check_region o t pointer bytes align q)
    asks_check S o t pointer bytes align q h =
        asks_unless c known S _ (nat_eq (pointer % align) 0) _ (λ e. asks_with c known S o _ (λ m is. asks_length c known S m.def _ (λ length. asks_unless c known S t (nat_le (pointer + bytes) length) q (λ e2. h))))

    asks_get : (S : Answers → K → List Request) (b : Bool) (k : List CoreValue → List CoreValue → Action A) → ((x y : List CoreValue) → Asks c known app S (k x y)) → Asks c known app S (get_slots b k)
    asks_get S false k h = h [] []
    asks_get S true k h =
        asks_other c known S (import.UnsafeIntrinsic slot.ContextGetI32_0) [] (val.I32 ∷ []) _ (λ d. refl) refl (λ x. asks_other c known S (import.UnsafeIntrinsic slot.ContextGetI32_1) [] (val.I32 ∷ []) _ (λ d. refl) refl (λ y. h x y))

    asks_set : (S : Answers → K → List Request) (b : Bool) (x y : List CoreValue) (q : Action A) → Asks c known app S q → Asks c known app S (set_slots b x y q)
    asks_set S false x y q h = h
    asks_set S true x y q h =
        asks_other c known S (import.UnsafeIntrinsic slot.ContextSetI32_0) x [] _ (λ d. refl) refl (λ r. asks_other c known S (import.UnsafeIntrinsic slot.ContextSetI32_1) y [] _ (λ d. refl) refl (λ s. h))

    -- realloc is asked once
    pub asks_reallocate : (S : Answers → K → List Request) (T : ℕ → Answers → K → List Request) (t : TrapCode) (old old_size align new_size : ℕ) (k : ℕ → Action A)
        → ((l : Answers) (z : K) → S l z ≡ record { old = old; old_size = old_size; align = align; new_size = new_size } ∷ next_answer l (λ rs more. T (first_bits rs) more z))
        → ((q : ℕ) → Asks c known app (T q) (k q)) → Asks c known app S (reallocate c.transfer.concurrency c.transfer.to t old old_size align new_size k)
    asks_reallocate S T t old old_size align new_size k says on = by_realloc c.transfer.to.realloc (λ f e. e)
      where
        by_realloc : (r : Option CoreDef) → ((f : CoreDef) → r ≡ Some f → c.transfer.to.realloc ≡ Some f) → Asks c known app S (elim r [
          | None ↦ Unreachable
          | Some f ↦
              get_slots c.transfer.concurrency (λ x y. set_slots c.transfer.concurrency (I32 0 ∷ []) (I32 0 ∷ [])
              (Ask (import.CoreDef f) (address_value c.transfer.to old ∷ address_value c.transfer.to old_size ∷ address_value c.transfer.to align ∷ address_value c.transfer.to new_size ∷ []) (type_of_addresses c.transfer.to ∷ []) (λ rs.
              set_slots c.transfer.concurrency x y (check_region c.transfer.to t (first_bits rs) new_size align (k (first_bits rs))))))
        ])
        by_realloc None is = asks_stop c known S
        by_realloc (Some f) is =
            asks_get S c.transfer.concurrency _ (λ x y. asks_set S c.transfer.concurrency (I32 0 ∷ []) (I32 0 ∷ []) _
            (asks_realloc c known S (λ rs. T (first_bits rs)) f _ (type_of_addresses c.transfer.to ∷ []) _ (record { old = old; old_size = old_size; align = align; new_size = new_size }) (is f refl)
            (λ before after rs. request_is c.transfer.to old old_size align new_size) says (λ rs.
            asks_set (T (first_bits rs)) c.transfer.concurrency x y _ (asks_check (T (first_bits rs)) c.transfer.to t (first_bits rs) new_size align _ (on (first_bits rs))))))

  -- ---- paths

  abbrev Behind : Type 0
  Behind = PathPoint → Answers → List Request

  -- what a point of a path hands on
  abbrev pub at_point : Behind → PathPoint → Answers → List Request
  at_point k v more = k v more

  transcoder_asks : (o : Transcode) (rest : Bool) (room : ℕ) (v : PathPoint) → Asks c known at_point (λ l k. next_answer l (λ rs more. k (passed c.transfer (transcode_kind o) rest rs v) more)) (transcode c.transfer o rest room v)
  transcoder_asks o rest room v =
      asks_with c known _ c.transfer.from _ (λ m is_m. asks_with c known _ c.transfer.to _ (λ n is_n.
      asks_transcode c known _ (λ rs l k. k (passed c.transfer (transcode_kind o) rest rs v) l) (import.Transcode o m.def m.memory64 n.def n.memory64) _ (transcode_types (transcode_kind o) m.memory64 n.memory64) _ (λ d. refl) refl (λ l z. refl)
      (λ rs. asks_give c known (passed c.transfer (transcode_kind o) rest rs v))))

  branch_asks : (S T : Answers → Behind → List Request) (b : Bool) (q r : Action PathPoint) → Asks c known at_point S q → Asks c known at_point T r → Asks c known at_point (λ l k. either b (S l k) (T l k)) (choose_action b q r)
  branch_asks S T true q r h k = h
  branch_asks S T false q r h k = k

  asserted_asks : (S : Answers → Behind → List Request) (debug : Bool) (t : TrapCode) (b : Bool) (q : Action PathPoint) → Asks c known at_point S q → Asks c known at_point S (asserted debug t b q)
  asserted_asks S true t b q h = asks_unless c known S t b q (λ e. h)
  asserted_asks S false t b q h = h

  pub walk_asks : (p : Path) (v : PathPoint) → Asks c known at_point (λ l k. path_requests c.transfer p v l k) (walk c.transfer p v)
  walk_asks End v = asks_give c known v
  walk_asks (Limit most p) v = asks_unless c known _ StringOutOfBounds (nat_le v.length (most_string_bytes / most)) (walk c.transfer p v) (λ e. walk_asks p v)
  walk_asks (Resize x y p) v =
      asks_reallocate (λ l k. path_requests c.transfer (Resize x y p) v l k) (λ q l k. path_requests c.transfer p (record v { region = q }) l k) StringOutOfBounds v.region (amount c.transfer x v) (align_of c.transfer.to.encoding) (amount c.transfer y v)
      (λ q. walk c.transfer p (record v { region = q })) (λ l z. refl) (λ q. walk_asks p (record v { region = q }))
  walk_asks (Pass o rest room p) v =
      asks_bind c known (λ l k. next_answer l (λ rs more. k (passed c.transfer (transcode_kind o) rest rs v) more)) (λ u l k. path_requests c.transfer p u l k) (λ k u more. path_requests c.transfer p u more k) (λ k u more. refl)
      (transcode c.transfer o rest room v) (λ u. walk c.transfer p u) (transcoder_asks o rest room v) (λ u. walk_asks p u)
  walk_asks (If test q r p) v =
      asks_bind c known (λ l k. either (holds c.transfer test v) (path_requests c.transfer q v l k) (path_requests c.transfer r v l k)) (λ u l k. path_requests c.transfer p u l k) (λ k u more. path_requests c.transfer p u more k) (λ k u more. refl)
      (choose_action (holds c.transfer test v) (walk c.transfer q v) (walk c.transfer r v)) (λ u. walk c.transfer p u)
      (branch_asks (λ l k. path_requests c.transfer q v l k) (λ l k. path_requests c.transfer r v l k) (holds c.transfer test v) (walk c.transfer q v) (walk c.transfer r v) (walk_asks q v) (walk_asks r v)) (λ u. walk_asks p u)
  walk_asks (Tag p) v = walk_asks p (with_tag v)
  walk_asks (Assert t test p) v = asserted_asks (λ l k. path_requests c.transfer p v l k) c.transfer.debug t (holds c.transfer test v) (walk c.transfer p v) (walk_asks p v)

-- ---- what is asked for does not depend on where the source lies

module _ (tr : Transfer) (a : ℕ) where
  abbrev pub moved : PathPoint → PathPoint
  moved v = record v { source = a }

  amount_same : (x : Amount) (v : PathPoint) → amount tr x (moved v) ≡ amount tr x v
  amount_same (SourceUnits n) v = refl
  amount_same (WrittenUnits n) v = refl

  pub holds_same : (t : Test) (v : PathPoint) → holds tr t (moved v) ≡ holds tr t v
  holds_same AllRead v = refl
  holds_same (WrittenIs n) v = refl
  holds_same HasNoTag v = refl
  holds_same KeepsUnits v = refl

  pub passed_same : (k : TranscodeKind) (rest : Bool) (rs : List CoreValue) (v : PathPoint) → passed tr k rest rs (moved v) ≡ moved (passed tr k rest rs v)
  passed_same AllUnits rest rs v = refl
  passed_same Counted rest rs v = refl
  passed_same Narrow rest rs v = refl
  passed_same Tagged rest rs v = refl
  passed_same Widening rest rs v = refl
  passed_same Fitting true rs v = refl
  passed_same Fitting false rs v = refl

  pub next_same : (l : List (List CoreValue)) (f g : List CoreValue → List (List CoreValue) → List Request) → ((rs : List CoreValue) (more : List (List CoreValue)) → f rs more ≡ g rs more) → next_answer l f ≡ next_answer l g
  next_same [] f g h = refl
  next_same (rs ∷ more) f g h = h rs more

  either_same : (b : Bool) (x y x2 y2 : List Request) → x ≡ x2 → y ≡ y2 → either b x y ≡ either b x2 y2
  either_same true x y x2 y2 h k = h
  either_same false x y x2 y2 h k = k

  pub source_apart : (path : Path) (v : PathPoint) (l : List (List CoreValue)) (f g : PathPoint → List (List CoreValue) → List Request) → ((u : PathPoint) (more : List (List CoreValue)) → f (moved u) more ≡ g u more) → path_requests tr path (moved v) l f ≡ path_requests tr path v l g
  source_apart End v l f g h = h v l
  source_apart (Limit most path) v l f g h = source_apart path v l f g h
  source_apart (Resize x y path) v l f g h =
      ap (λ n. record { old = v.region; old_size = n; align = align_of tr.to.encoding; new_size = amount tr y (moved v) } ∷ next_answer l (λ rs more. path_requests tr path (record (moved v) { region = first_bits rs }) more f)) (amount_same x v)
      ∙ ap (λ n. record { old = v.region; old_size = amount tr x v; align = align_of tr.to.encoding; new_size = n } ∷ next_answer l (λ rs more. path_requests tr path (record (moved v) { region = first_bits rs }) more f)) (amount_same y v)
      ∙ ap (λ rs. record { old = v.region; old_size = amount tr x v; align = align_of tr.to.encoding; new_size = amount tr y v } ∷ rs) (next_same l _ _ (λ rs more. source_apart path (record v { region = first_bits rs }) more f g h))
  source_apart (Pass o rest room path) v l f g h =
      next_same l _ _ (λ rs more. ap (λ u. path_requests tr path u more f) (passed_same (transcode_kind o) rest rs v) ∙ source_apart path (passed tr (transcode_kind o) rest rs v) more f g h)
  source_apart (If t q r path) v l f g h =
      ap (λ b. either b (path_requests tr q (moved v) l (λ u more. path_requests tr path u more f)) (path_requests tr r (moved v) l (λ u more. path_requests tr path u more f))) (holds_same t v)
      ∙ either_same (holds tr t v) _ _ _ _ (source_apart q v l _ _ (λ u more. source_apart path u more f g h)) (source_apart r v l _ _ (λ u more. source_apart path u more f g h))
  source_apart (Tag path) v l f g h = source_apart path (with_tag v) l f g h
  source_apart (Assert t test path) v l f g h = source_apart path v l f g h
