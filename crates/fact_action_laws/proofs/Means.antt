-- Without memories of both sides and a realloc no transcoder is called.
use Rattle.std.proofs.Common.{◌≡◌, ℕ, zero, suc, ◌+◌, ◌%◌, ◌^◌, Bool, true, false, List, [], ◌∷◌, ◌++◌, Option, Some, None, refl, sym, subst}
use Rattle.std.specs.Prelude.{nat_eq, nat_le, nat_lt, if◌then◌else◌}
use Rattle.fact_wasm.specs.declared.types.ValType.{ValType}
use Rattle.fact_types.specs.Adapters.{LinkedAdapter, is_wide}
use Rattle.fact_types.specs.Shapes.{Shape}
use Rattle.fact_types.specs.Signatures.{flat_values, lower_limit, lift_results_limit}
use Rattle.fact_types.specs.Tuples.{tuple_members}
use Rattle.fact_types.specs.declared.import.Import.{Import}
use Rattle.fact_types.specs.declared.import.Import.TheVariants as import
use Rattle.fact_types.specs.declared.outside.CoreDef.{CoreDef}
use Rattle.fact_types.specs.declared.outside.MemoryOption.{MemoryOption}
use Rattle.fact_types.specs.declared.outside.Trap.{Trap as TrapCode}
use Rattle.fact_types.specs.declared.outside.Trap.TheVariants.{MemoryOutOfBounds, StringOutOfBounds}
use Rattle.fact_machine.specs.declared.types.CoreValue.{CoreValue}
use Rattle.fact_machine.specs.declared.types.CoreValue.TheVariants.{I32, I64, F32, F64, Func}
use Rattle.fact_values.specs.Lift.{bits_of}
use Rattle.fact_values.specs.Texts.{form_of}
use Rattle.fact_actions.specs.Actions.{Action, Give, Ask, Unreachable, ◌>>◌, unless, each_from}
use Rattle.fact_actions.specs.Adapters.{AdapterTunables, results_transfer, check_tuple, from_values, into_params, flat_results, move_params, move_results}
use Rattle.fact_actions.specs.Moves.{entry_extent, move_fields}
use Rattle.fact_actions.specs.Paths.{TextForm, align_of, path}
use Rattle.fact_actions.specs.Requests.{is_transcode}
use Rattle.fact_actions.specs.Running.{ImportPlaces, Call}
use Rattle.fact_actions.specs.Sides.{LiftLowerOptions, Source, Values, AtAddress, Target, Slots, Into, options_of, first_bits, address_value, type_of_addresses, with_memory, low_half, in_value, bytes_of_addresses, nth_part, nth_spot, read_number, write_number, read_pair, write_pair, check_region, get_slots, set_slots, reallocate}
use Rattle.fact_actions.specs.Strings.{PathPoint, path_start, amount, walk, form_in, move_string}
use Rattle.fact_action_laws.specs.FaithfulLaws.{setting_of_params, setting_of_results}
use Rattle.fact_action_laws.specs.Regions.{TransferSetting}
use Rattle.fact_action_laws.proofs.Called.{AllCalled, Calls, calls_give, calls_stop, calls_visit, calls_ask, calls_read, calls_write, calls_length, calls_bind, calls_slots, calls_slots_set, all_called}
use Rattle.fact_action_laws.specs.AdapterValueLaws.{AreOfNoTranscoder, TranscodersNeedMeans}
use Rattle.fact_action_laws.specs.Premises.{HasMeans}
use Rattle.fact_action_laws.proofs.AllPaths.{limited}
use Rattle.fact_action_laws.proofs.AllRuled.{AreRules, fields_ruled}

abbrev IsOther : Import → Type 0
IsOther i = is_transcode i ≡ false

abbrev S : {A : Type 0} → Action A → Type 0
S q = Calls IsOther q

-- ---- parts

silent_unless : {A : Type 0} (t : TrapCode) (b : Bool) (q : Action A) → (b ≡ true → S q) → S (unless t b q)
silent_unless t true q h = h refl
silent_unless t false q h = calls_ask (import.Trap t) [] [] refl (λ rs. calls_stop)

silent_with : {A : Type 0} (o : LiftLowerOptions) (k : MemoryOption → Action A) → ((m : MemoryOption) → o.memory ≡ Some m → S (k m)) → S (with_memory o k)
silent_with o k h = by_memory o.memory (λ m e. h m e)
  where
    by_memory : (x : Option MemoryOption) → ((m : MemoryOption) → x ≡ Some m → S (k m)) → S (elim x [ None ↦ Unreachable | Some m ↦ k m ])
    by_memory None g = calls_stop
    by_memory (Some m) g = g m refl

silent_check : {A : Type 0} (o : LiftLowerOptions) (t : TrapCode) (p n align : ℕ) (q : Action A) → ((m : MemoryOption) → o.memory ≡ Some m → S q) → S (check_region o t p n align q)
silent_check o t p n align q h = silent_unless _ (nat_eq (p % align) 0) _ (λ aligned. silent_with o _ (λ m e. calls_length m.def (λ l. silent_unless t (nat_le (p + n) l) q (λ within. h m e))))

silent_low : {A : Type 0} (debug : Bool) (v : CoreValue) (k : ℕ → Action A) → ((n : ℕ) → S (k n)) → S (low_half debug v k)
silent_low true (I64 n) k h = silent_unless _ (nat_lt n (2 ^ 32)) _ (λ yes. h _)
silent_low true (I32 n) k h = h _
silent_low true (F32 n) k h = h _
silent_low true (F64 n) k h = silent_unless _ (nat_lt n (2 ^ 32)) _ (λ yes. h _)
silent_low true (Func f) k h = h _
silent_low false v k h = h _

silent_value : {A : Type 0} (debug : Bool) (size : ℕ) (vs : List CoreValue) (k : ℕ → Action A) → ((n : ℕ) → S (k n)) → S (in_value debug size vs k)
silent_value debug size [] k h = calls_stop
silent_value debug size (v ∷ vs) k h = by_size (nat_eq size 8)
  where
    by_size : (b : Bool) → S (if b then k (bits_of v) else low_half debug v k)
    by_size true = h _
    by_size false = silent_low debug v k h

silent_either : {A : Type 0} (b : Bool) (q r : Action A) → S q → S r → S (if b then q else r)
silent_either true q r h k = h
silent_either false q r h k = k

silent_each : {A : Type 0} (i n : ℕ) (f : ℕ → Action (List A)) → ((j : ℕ) → S (f j)) → S (each_from i n f)
silent_each i zero f h = calls_give []
silent_each i (suc n) f h = calls_bind (f i) _ (h i) (λ xs. calls_bind (each_from (suc i) n f) _ (silent_each (suc i) n f h) (λ ys. calls_give (xs ++ ys)))

module _ (c : TransferSetting) where
  silent_read : {A : Type 0} (size : ℕ) (s : Source) (k : ℕ → Action A) → ((n : ℕ) → S (k n)) → S (read_number c.transfer.debug c.transfer.from size s k)
  silent_read size (Values vs) k h = silent_value c.transfer.debug size vs k h
  silent_read size (AtAddress a) k h = silent_with c.transfer.from _ (λ m e. calls_read size m.def a h)

  silent_pair : {A : Type 0} (s : Source) (k : ℕ → ℕ → Action A) → ((p n : ℕ) → S (k p n)) → S (read_pair c.transfer.debug c.transfer.from s k)
  silent_pair s k h =
      let b = bytes_of_addresses c.transfer.from in
      silent_read b (nth_part 1 b 0 s) _ (λ p. silent_read b (nth_part 1 b 1 s) _ (λ n. h p n))

  silent_write : (size : ℕ) (d : Target) (n : ℕ) → S (write_number c.transfer.to size d n)
  silent_write size (Slots []) n = calls_give []
  silent_write size (Slots (t ∷ ts)) n = calls_give _
  silent_write size (Into a) n = silent_with c.transfer.to _ (λ m e. calls_write size m.def a n (calls_give []))

  silent_write_pair : (d : Target) (p n : ℕ) → S (write_pair c.transfer.to d p n)
  silent_write_pair d p n =
      let b = bytes_of_addresses c.transfer.to in
      calls_bind _ _ (silent_write b (nth_spot 1 b 0 d) p) (λ us. calls_bind _ _ (silent_write b (nth_spot 1 b 1 d) n) (λ vs. calls_give (us ++ vs)))

  -- realloc, behind which the destination has a memory
  silent_reallocate : {A : Type 0} (t : TrapCode) (old old_size align size : ℕ) (k : ℕ → Action A) → ((f : CoreDef) → c.transfer.to.realloc ≡ Some f → (m : MemoryOption) → c.transfer.to.memory ≡ Some m → (q : ℕ) → S (k q))
      → S (reallocate c.transfer.concurrency c.transfer.to t old old_size align size k)
  silent_reallocate t old old_size align size k h = by_realloc c.transfer.to.realloc (λ f e. e)
    where
      by_realloc : (r : Option CoreDef) → ((f : CoreDef) → r ≡ Some f → c.transfer.to.realloc ≡ Some f) → S (elim r [
        | None ↦ Unreachable
        | Some f ↦
            get_slots c.transfer.concurrency (λ x y. set_slots c.transfer.concurrency (I32 0 ∷ []) (I32 0 ∷ [])
            (Ask (import.CoreDef f) (address_value c.transfer.to old ∷ address_value c.transfer.to old_size ∷ address_value c.transfer.to align ∷ address_value c.transfer.to size ∷ []) (type_of_addresses c.transfer.to ∷ []) (λ rs.
            set_slots c.transfer.concurrency x y (check_region c.transfer.to t (first_bits rs) size align (k (first_bits rs))))))
      ])
      by_realloc None is = calls_stop
      by_realloc (Some f) is =
          calls_slots IsOther (λ t. refl) (λ s. refl) c.transfer.concurrency (λ x y. calls_slots_set IsOther (λ t. refl) (λ s. refl) c.transfer.concurrency (I32 0 ∷ []) (I32 0 ∷ []) (calls_ask (import.CoreDef f) _ (type_of_addresses c.transfer.to ∷ []) refl (λ rs.
          calls_slots_set IsOther (λ t. refl) (λ s. refl) c.transfer.concurrency x y (silent_check c.transfer.to t (first_bits rs) size align _ (λ m e. h f (is f refl) m e (first_bits rs))))))

  -- ---- texts, and all types

  module _ (never : HasMeans c.transfer.from c.transfer.to → ⊥) where
    -- a path stops before its first transcoder
    silent_walk : (m : MemoryOption) → c.transfer.from.memory ≡ Some m → (form : TextForm) (v : PathPoint) → S (walk c.transfer (path form c.transfer.to.encoding) v)
    silent_walk m is_m form v =
        let l = limited form c.transfer.to.encoding in
        subst (λ q. S (walk c.transfer q v)) (sym l.is) (silent_unless StringOutOfBounds _ _ (λ few.
        subst (λ q. S (walk c.transfer q v)) (sym l.begins)
        (silent_reallocate StringOutOfBounds v.region (amount c.transfer l.none v) (align_of c.transfer.to.encoding) (amount c.transfer l.size v) (λ q. walk c.transfer l.behind (record v { region = q }))
        (λ f is_f n is_n q. absurd (never (record { memory = m; room = n; realloc = f; memory_is = is_m; room_is = is_n; realloc_is = is_f }))))))

    silent_string : (s : Source) (d : Target) → S (move_string c.transfer s d)
    silent_string s d = silent_pair s _ (λ p n.
        silent_check c.transfer.from StringOutOfBounds p _ _ _ (λ m e.
        calls_bind (walk c.transfer (path (form_in c.transfer.from.encoding n) c.transfer.to.encoding) (path_start p (form_of c.transfer.from.encoding n).units)) _ (silent_walk m e (form_in c.transfer.from.encoding n) _) (λ v. silent_write_pair d v.region v.written)))

    silent_rules : AreRules c (λ A q. S q)
    silent_rules = record {
      gives = λ A a. calls_give a;
      stops = λ A. calls_stop;
      visits = λ A n q h. calls_visit n h;
      tests = λ A t b q h. silent_unless t b q h;
      values = λ A i args ts k plain h. calls_ask i args ts plain.other h;
      reads = λ A size s k h. silent_read size s k h;
      pairs = λ A s k h. silent_pair s k h;
      checks = λ A o t p n align q h. silent_check o t p n align q (λ m e. h);
      requests = λ A t align size k h. silent_reallocate t 0 0 align size k (λ f is_f m is_m q. h q);
      eithers = λ A b q r h k. silent_either b q r h k;
      binds = λ A B q f h g. calls_bind q f h g;
      writes = λ size d n. silent_write size d n;
      write_pairs = λ d p n. silent_write_pair d p n;
      eachs = λ A i n f h. silent_each i n f h;
      strings = λ s d. silent_string s d;
    }

    -- ---- tuples

    silent_from : (limit : ℕ) (ts : List Shape) (vs : List CoreValue) (k : Source → Action (List CoreValue)) → ((s : Source) → S (k s)) → S (from_values c.transfer.from limit ts vs k)
    silent_from limit ts vs k h = by_flats (flat_values (is_wide c.transfer.from.memory) limit ts)
      where
        by_flats : (x : Option (List ValType)) → S (elim x [ Some flats ↦ k (Values vs) | None ↦ check_tuple c.transfer.from ts (first_bits vs) (k (AtAddress (first_bits vs))) ])
        by_flats (Some flats) = h (Values vs)
        by_flats None = silent_check c.transfer.from MemoryOutOfBounds (first_bits vs) (entry_extent c.transfer.from (tuple_members ts)).size (entry_extent c.transfer.from (tuple_members ts)).align _ (λ m e. h (AtAddress (first_bits vs)))

    silent_into : (ts : List Shape) (k : Target → Action (List CoreValue)) → ((d : Target) → S (k d)) → S (into_params c.transfer ts k)
    silent_into ts k h = by_flats (flat_values (is_wide c.transfer.to.memory) 16 ts)
      where
        by_flats : (x : Option (List ValType)) → S (elim x [
          | Some flats ↦ k (Slots flats)
          | None ↦
              let e = entry_extent c.transfer.to (tuple_members ts) in
              reallocate c.transfer.concurrency c.transfer.to MemoryOutOfBounds 0 0 e.align e.size (λ q. k (Into q) >> Give (address_value c.transfer.to q ∷ []))
        ])
        by_flats (Some flats) = h (Slots flats)
        by_flats None =
            let e = entry_extent c.transfer.to (tuple_members ts) in
            silent_reallocate MemoryOutOfBounds 0 0 e.align e.size (λ q. k (Into q) >> Give (address_value c.transfer.to q ∷ []))
            (λ f is_f m is_m q. calls_bind (k (Into q)) (λ vs. Give (address_value c.transfer.to q ∷ [])) (h (Into q)) (λ vs. calls_give (address_value c.transfer.to q ∷ [])))

-- ---- the transfers

module _ (p : ImportPlaces) (u : AdapterTunables) (a : LinkedAdapter) where
  silent_params : (HasMeans (options_of a.lower) (options_of a.lift) → ⊥) → (args : List CoreValue) → S (move_params u a args)
  silent_params never args =
      let c = setting_of_params p u a [] in
      silent_from c never (lower_limit a.lower.async_side) a.lower.params args _ (λ s. silent_into c never a.lift.params _ (λ d.
      fields_ruled c (λ A q. S q) (silent_rules c never) (tuple_members a.lift.params) (tuple_members a.lower.params) 0 s d))

  silent_results : (HasMeans (options_of a.lift) (options_of a.lower) → ⊥) → (given : List CoreValue) (pointer : ℕ) → S (move_results u a given pointer)
  silent_results never given pointer = silent_from c never (lift_results_limit a.lift.async_side) a.lift.results given _ (λ s. by_flats s (flat_results a.lower))
    where
      c : TransferSetting
      c = setting_of_results p u a [] []

      by_flats : (s : Source) (x : Option (List ValType)) → S (elim x [
        | Some flats ↦ move_fields (results_transfer u a) (tuple_members a.lift.results) (tuple_members a.lower.results) 0 s (Slots flats)
        | None ↦ check_tuple (options_of a.lower) a.lower.results pointer (move_fields (results_transfer u a) (tuple_members a.lift.results) (tuple_members a.lower.results) 0 s (Into pointer))
      ])
      by_flats s (Some flats) = fields_ruled c (λ A q. S q) (silent_rules c never) (tuple_members a.lower.results) (tuple_members a.lift.results) 0 s (Slots flats)
      by_flats s None =
          silent_check (options_of a.lower) MemoryOutOfBounds pointer (entry_extent (options_of a.lower) (tuple_members a.lower.results)).size (entry_extent (options_of a.lower) (tuple_members a.lower.results)).align _
          (λ m e. fields_ruled c (λ A q. S q) (silent_rules c never) (tuple_members a.lower.results) (tuple_members a.lift.results) 0 s (Into pointer))

of_none : (cs : List Call) → AllCalled IsOther cs → AreOfNoTranscoder cs
of_none [] h = tt
of_none (c ∷ cs) h = (h.0, of_none cs h.1)

pub transcoders_need_means : TranscodersNeedMeans
transcoders_need_means p u a w = (
  λ args never. of_none _ (all_called IsOther p (move_params u a args) w (silent_params p u a never args)),
  λ given pointer never. of_none _ (all_called IsOther p (move_results u a given pointer) w (silent_results p u a never given pointer)),
)
