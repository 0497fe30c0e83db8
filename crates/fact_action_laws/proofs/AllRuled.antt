-- What holds of the parts of moves, and of texts, holds of moves of all types.
use Rattle.std.proofs.Common.{◌≡◌, ℕ, suc, ◌+◌, ◌*◌, ◌^◌, Bool, true, false, List, [], ◌∷◌, ◌++◌, Option, Some, None, refl}
use Rattle.std.specs.Prelude.{nat_lt, if◌then◌else◌}
use Rattle.std.specs.Str.{bytes_eq}
use Rattle.fact_types.specs.Agrees.{names_of}
use Rattle.fact_wasm.specs.declared.types.ValType.{ValType}
use Rattle.fact_wasm.specs.declared.types.ValType.TheVariants as val
use Rattle.fact_types.specs.Fields.{Field, field_of}
use Rattle.fact_types.specs.Shapes.{Kind, k_record, k_variant, k_list, k_tuple, k_map, k_flags, k_enum, k_option, k_result, k_fixed, k_future, k_stream, Shape, s_plain, s_node, Members, no_members, bare, typed, next_of}
use Rattle.fact_types.specs.declared.import.Import.{Import}
use Rattle.fact_types.specs.declared.import.Import.TheVariants as import
use Rattle.fact_types.specs.declared.interface.InterfaceType.{InterfaceType}
use Rattle.fact_types.specs.declared.interface.InterfaceType.TheVariants as ty
use Rattle.fact_types.specs.declared.outside.CoreDef.{CoreDef}
use Rattle.fact_types.specs.declared.outside.Trap.{Trap as TrapCode}
use Rattle.fact_types.specs.declared.outside.Trap.TheVariants.{ListOutOfBounds, InvalidChar, InvalidDiscriminant}
use Rattle.fact_machine.specs.declared.types.CoreValue.{CoreValue}
use Rattle.fact_values.specs.Limits.{CaseType, case_type}
use Rattle.fact_values.specs.Numbers.{is_scalar_value}
use Rattle.fact_values.specs.Places.{count_of_members, flags_bytes, case_bytes, payload_place}
use Rattle.fact_actions.specs.Actions.{Action, Give, Visit, Ask, Unreachable, ◌>>=◌, trap, unless, each, each_from}
use Rattle.fact_actions.specs.Calls.{is_import_of}
use Rattle.fact_actions.specs.Moves.{canonical_number, plain_size, move_number, move_char, move_handle, move_enum, write_case, entry_extent, move_list, move_plain, move_to_plain, aligned_source, aligned_target, aligned_node, MovingMembers, move_sum, move_node, move_to_node, weight_of, with_field, part, spot, past, payload_part, payload_spot, padded, move, move_fields, move_case, bits_named}
use Rattle.fact_actions.specs.Regions.{Position}
use Rattle.fact_actions.specs.Requests.{is_transcode}
use Rattle.fact_actions.specs.Running.{ImportPlaces, Call}
use Rattle.fact_actions.specs.Sides.{LiftLowerOptions, Source, Values, AtAddress, Target, Slots, Into, width_of_side, first_bits, read_number, write_number, read_pair, write_pair, check_region, reallocate, side_abi}
use Rattle.fact_actions.specs.Strings.{move_string}
use Rattle.fact_action_laws.specs.Regions.{TransferSetting}
use Rattle.fact_action_laws.proofs.Served.{IsServedBy}

-- Calls that are of no transcoder and of no core function.
pub record IsPlainCall (i : Import) : Type 0 where
  pub ranged : (p : ImportPlaces) (x : Position) (a : Call) → IsServedBy i p x a
  pub apart : (d : CoreDef) → is_import_of d i ≡ false
  pub other : is_transcode i ≡ false

-- What is to hold of the parts of moves, and of texts, that it holds of moves of all types.
pub record AreRules (c : TransferSetting) (F : (A : Type 0) → Action A → Type 0) : Type 1 where
  pub gives : (A : Type 0) (a : A) → F A (Give a)
  pub stops : (A : Type 0) → F A Unreachable
  pub visits : (A : Type 0) (n : ℕ) (q : Action A) → F A q → F A (Visit n q)
  pub tests : (A : Type 0) (t : TrapCode) (b : Bool) (q : Action A) → (b ≡ true → F A q) → F A (unless t b q)
  pub values : (A : Type 0) (i : Import) (args : List CoreValue) (ts : List ValType) (k : List CoreValue → Action A) → IsPlainCall i → ((rs : List CoreValue) → F A (k rs)) → F A (Ask i args ts k)
  pub reads : (A : Type 0) (size : ℕ) (s : Source) (k : ℕ → Action A) → ((n : ℕ) → F A (k n)) → F A (read_number c.transfer.debug c.transfer.from size s k)
  pub pairs : (A : Type 0) (s : Source) (k : ℕ → ℕ → Action A) → ((p n : ℕ) → F A (k p n)) → F A (read_pair c.transfer.debug c.transfer.from s k)
  pub checks : (A : Type 0) (o : LiftLowerOptions) (t : TrapCode) (p n align : ℕ) (q : Action A) → F A q → F A (check_region o t p n align q)
  pub requests : (A : Type 0) (t : TrapCode) (align size : ℕ) (k : ℕ → Action A) → ((q : ℕ) → F A (k q)) → F A (reallocate c.transfer.concurrency c.transfer.to t 0 0 align size k)
  pub eithers : (A : Type 0) (b : Bool) (q r : Action A) → F A q → F A r → F A (if b then q else r)
  pub binds : (A B : Type 0) (q : Action A) (f : A → Action B) → F A q → ((a : A) → F B (f a)) → F B (q >>= f)
  pub writes : (size : ℕ) (d : Target) (n : ℕ) → F (List CoreValue) (write_number c.transfer.to size d n)
  pub write_pairs : (d : Target) (p n : ℕ) → F (List CoreValue) (write_pair c.transfer.to d p n)
  pub eachs : (A : Type 0) (i n : ℕ) (f : ℕ → Action (List A)) → ((j : ℕ) → F (List A) (f j)) → F (List A) (each_from i n f)
  pub strings : (s : Source) (d : Target) → F (List CoreValue) (move_string c.transfer s d)

module _ (c : TransferSetting) (Ruled : (A : Type 0) → Action A → Type 0) (r : AreRules c Ruled) where
  abbrev F : {A : Type 0} → Action A → Type 0
  F {A} q = Ruled A q

  -- ---- plain types

  ruled_number : (from_size to_size : ℕ) (f : ℕ → ℕ) (s : Source) (d : Target) → F (move_number c.transfer from_size to_size f s d)
  ruled_number from_size to_size f s d = r.reads _ from_size s _ (λ n. r.writes to_size d (f n))

  ruled_handle : (f : Import) (from to : ℕ) (s : Source) (d : Target) → IsPlainCall f → F (move_handle c.transfer f from to s d)
  ruled_handle f from to s d plain = r.reads _ 4 s _ (λ n. r.values _ f _ (val.I32 ∷ []) _ plain (λ rs. r.writes 4 d (first_bits rs)))

  ruled_char : (s : Source) (d : Target) → F (move_char c.transfer s d)
  ruled_char s d = r.reads _ 4 s _ (λ n. r.tests _ InvalidChar (is_scalar_value n) _ (λ yes. r.writes 4 d n))

  ruled_string : (s : Source) (d : Target) → F (move_string c.transfer s d)
  ruled_string s d = r.strings s d

  -- ---- nodes

  ruled_node : (t u : Shape) (s : Source) (d : Target) (q : Action (List CoreValue)) → F q → F (aligned_node c.transfer t u s d q)
  ruled_node t u s d q h = source_side c.transfer.debug s _ (target_side c.transfer.debug d)
    where
      target_side : (b : Bool) (d2 : Target) → F (aligned_target b c.transfer.to u d2 q)
      target_side true (Into a) = r.tests _ _ _ q (λ yes. h)
      target_side true (Slots ts) = h
      target_side false d2 = h

      source_side : (b : Bool) (s2 : Source) (q2 : Action (List CoreValue)) → F q2 → F (aligned_source b c.transfer.from t s2 q2)
      source_side true (AtAddress a) q2 k = r.tests _ _ _ q2 (λ yes. k)
      source_side true (Values vs) q2 k = k
      source_side false s2 q2 k = k

  ruled_list : (ms ns : Members) (element : Source → Target → Action (List CoreValue)) (s : Source) (d : Target) → ((s2 : Source) (d2 : Target) → F (element s2 d2)) → F (move_list c.transfer ms ns element s d)
  ruled_list ms ns element s d h =
      let x = entry_extent c.transfer.from ms in
      let y = entry_extent c.transfer.to ns in
      r.pairs _ s _ (λ p n. r.tests _ ListOutOfBounds (nat_lt (n * x.size) (2 ^ 32)) _ (λ a. r.tests _ ListOutOfBounds (nat_lt (n * y.size) (2 ^ 32)) _ (λ b. r.checks _ c.transfer.from ListOutOfBounds p (n * x.size) x.align _
      (r.requests _ ListOutOfBounds y.align (n * y.size) _ (λ q. r.binds _ _ (each n (λ i. element (AtAddress (p + i * x.size)) (Into (q + i * y.size)))) _ (r.eachs _ 0 n _ (λ i. h (AtAddress (p + i * x.size)) (Into (q + i * y.size))))
      (λ vs. r.write_pairs d q n))))))

  ruled_case : (ms ns : Members) (s : Source) (d : Target) (n : ℕ) (p q : Option Shape) (go : Shape → Source → Target → Action (List CoreValue)) → ((t : Shape) (s2 : Source) (d2 : Target) → F (go t s2 d2)) → F (write_case c.transfer ms ns s d n p q go)
  ruled_case ms ns s d n (Some p) (Some q) go h = r.binds _ _ (write_number c.transfer.to (case_bytes ns) d n) _ (r.writes (case_bytes ns) d n)
      (λ tag. r.binds _ _ (go p (payload_part c.transfer.from p (payload_place (side_abi c.transfer.from) ms) s) (payload_spot c.transfer.to q (payload_place (side_abi c.transfer.to) ns) d)) _ (h p _ _) (λ vs. r.gives _ (padded d (tag ++ vs))))
  ruled_case ms ns s d n None None go h = r.binds _ _ (write_number c.transfer.to (case_bytes ns) d n) _ (r.writes (case_bytes ns) d n) (λ tag. r.gives _ (padded d tag))
  ruled_case ms ns s d n (Some p) None go h = r.stops _
  ruled_case ms ns s d n None (Some q) go h = r.stops _

  ruled_plain : (t u : InterfaceType) (s : Source) (d : Target) → F (move_plain c.transfer t u s d)
  ruled_plain ty.Char ty.Char s d = ruled_char s d
  ruled_plain ty.String ty.String s d = ruled_string s d
  ruled_plain (ty.Own i) (ty.Own j) s d = ruled_handle import.ResourceTransferOwn i.number j.number s d (record { ranged = λ p x a. tt; apart = λ d. refl; other = refl })
  ruled_plain (ty.Borrow i) (ty.Borrow j) s d = ruled_handle import.ResourceTransferBorrow i.number j.number s d (record { ranged = λ p x a. tt; apart = λ d. refl; other = refl })
  ruled_plain (ty.ErrorContext i) (ty.ErrorContext j) s d = ruled_handle import.ErrorContextTransfer i.number j.number s d (record { ranged = λ p x a. tt; apart = λ d. refl; other = refl })
  ruled_plain t u s d = ruled_number (plain_size t) (plain_size u) (canonical_number t) s d

  -- ---- kinds of types

  ruled_enum : (ms ns : Members) (s : Source) (d : Target) → F (move_enum c.transfer ms ns s d)
  ruled_enum ms ns s d = r.reads _ (case_bytes ms) s _ (λ n. r.tests _ InvalidDiscriminant (nat_lt n (count_of_members ms)) _ (λ yes. r.writes (case_bytes ns) d n))

  ruled_sum : (ms : Members) (m : MovingMembers) (s : Source) (d : Target) → ((k : CaseType) → F (m.case ms k s d)) → F (move_sum c.transfer ms m s d)
  ruled_sum ms m s d h = r.reads _ (case_bytes ms) s _ (λ n. go (case_type ms n))
    where
      go : (o : Option CaseType) → F {A = List CoreValue} (elim o [ None ↦ trap InvalidDiscriminant | Some k ↦ m.case ms k s d ])
      go None = r.tests _ InvalidDiscriminant false Unreachable (λ yes. r.stops _)
      go (Some k) = h k

  -- the moves of members, of source members in their places
  record AreRuled (m : MovingMembers) : Type 0 where
    fields : (ms : Members) (s : Source) (d : Target) → F (m.fields ms s d)
    case : (ms : Members) (k : CaseType) (s : Source) (d : Target) → F (m.case ms k s d)

  ruled_kinds : (k : Kind) (ms : Members) (l : Kind) (ns : Members) (m : MovingMembers) (s : Source) (d : Target) → AreRuled m → F (move_node c.transfer k ms l ns m s d)
  ruled_kinds k_record ms k_record ns m s d h = h.fields ms s d
  ruled_kinds k_tuple ms k_tuple ns m s d h = h.fields ms s d
  ruled_kinds k_variant ms k_variant ns m s d h = ruled_sum ms m s d (λ k. h.case ms k s d)
  ruled_kinds k_option ms k_option ns m s d h = ruled_sum ms m s d (λ k. h.case ms k s d)
  ruled_kinds k_result ms k_result ns m s d h = ruled_sum ms m s d (λ k. h.case ms k s d)
  ruled_kinds k_enum ms k_enum ns m s d h = ruled_enum ms ns s d
  ruled_kinds k_flags ms k_flags ns m s d h = ruled_number (flags_bytes ms) (flags_bytes ns) (bits_named (names_of ms) (names_of ns)) s d
  ruled_kinds k_list ms k_list ns m s d h = ruled_list ms ns (m.fields ms) s d (λ s2 d2. h.fields ms s2 d2)
  ruled_kinds k_map ms k_map ns m s d h = ruled_list ms ns (m.fields ms) s d (λ s2 d2. h.fields ms s2 d2)
  ruled_kinds (k_fixed n) ms (k_fixed n') ns m s d h = r.eachs _ 0 n' _ (λ i. h.fields ms _ _)
  ruled_kinds (k_future t i) ms (k_future u j) ns m s d h = ruled_handle import.FutureTransfer t u s d (record { ranged = λ p x a. tt; apart = λ d. refl; other = refl })
  ruled_kinds (k_stream t i) ms (k_stream u j) ns m s d h = ruled_handle import.StreamTransfer t u s d (record { ranged = λ p x a. tt; apart = λ d. refl; other = refl })
  ruled_kinds k ms l ns m s d h = r.stops _

  -- ---- all types

  to_plain : (t : Shape) (u : InterfaceType) (s : Source) (d : Target) → F (move c.transfer t (s_plain u) s d)
  unfolding move
  to_plain t u s d = ruled_node t (s_plain u) s d _ (r.visits _ 1 _ (go t))
    where
      go : (t : Shape) → F (move_to_plain c.transfer t u s d)
      go (s_plain p) = ruled_plain p u s d
      go (s_node k ms) = r.stops _

  to_node : (t : Shape) (l : Kind) (ns : Members) (s : Source) (d : Target) → ((ms : Members) (s2 : Source) (d2 : Target) → F (move_fields c.transfer ms ns 0 s2 d2))
      → ((ms : Members) (k : CaseType) (s2 : Source) (d2 : Target) → F (move_case c.transfer ms ns k ns 0 s2 d2)) → F (move c.transfer t (s_node l ns) s d)
  unfolding move
  to_node t l ns s d fields case = ruled_node t (s_node l ns) s d _ (go t)
    where
      m : MovingMembers
      m = record { fields = λ ms s2 d2. move_fields c.transfer ms ns 0 s2 d2; case = λ ms k s2 d2. move_case c.transfer ms ns k ns 0 s2 d2 }

      go : (t : Shape) → F (move_to_node c.transfer t l ns m s d)
      go (s_plain p) = r.stops _
      go (s_node k ms) = r.visits _ (weight_of k ms) _ (ruled_kinds k ms l ns m s d (record { fields = fields; case = case }))

  no_fields : (ms : Members) (end : ℕ) (s : Source) (d : Target) → F (move_fields c.transfer ms no_members end s d)
  unfolding move_fields
  no_fields ms end s d = r.gives _ []

  bare_fields : (ms ns : Members) (x : List ℕ) (end : ℕ) (s : Source) (d : Target) → F (move_fields c.transfer ms ns end s d) → F (move_fields c.transfer ms (bare x ns) end s d)
  unfolding move_fields
  bare_fields ms ns x end s d h = h

  typed_fields : (ms ns : Members) (x : List ℕ) (u : Shape) (end : ℕ) (s : Source) (d : Target) → ((t : Shape) (s2 : Source) (d2 : Target) → F (move c.transfer t u s2 d2)) → ((d2 : Target) → F (move_fields c.transfer ms ns (next_of (width_of_side c.transfer.to) u end) s d2))
      → F (move_fields c.transfer ms (typed x u ns) end s d)
  unfolding move_fields
  typed_fields ms ns x u end s d one others = go (field_of x ms)
    where
      step : Field → Action (List CoreValue)
      step f = move c.transfer f.shape u (part c.transfer.from f s) (spot c.transfer.to u end d) >>= (λ vs. move_fields c.transfer ms ns (next_of (width_of_side c.transfer.to) u end) s (past c.transfer.to u d) >>= (λ us. Give (vs ++ us)))

      go : (o : Option Field) → F (with_field o step)
      go None = r.stops _
      go (Some f) = r.binds _ _ (move c.transfer f.shape u (part c.transfer.from f s) (spot c.transfer.to u end d)) _ (one f.shape _ _) (λ vs. r.binds _ _ (move_fields c.transfer ms ns (next_of (width_of_side c.transfer.to) u end) s (past c.transfer.to u d)) _ (others _) (λ us. r.gives _ (vs ++ us)))

  no_case : (ms all : Members) (k : CaseType) (n : ℕ) (s : Source) (d : Target) → F (move_case c.transfer ms all k no_members n s d)
  unfolding move_case
  no_case ms all k n s d = r.stops _

  bare_case : (ms all ns : Members) (x : List ℕ) (k : CaseType) (n : ℕ) (s : Source) (d : Target) → F (move_case c.transfer ms all k ns (suc n) s d) → F (move_case c.transfer ms all k (bare x ns) n s d)
  unfolding move_case
  bare_case ms all ns x k n s d h = r.eithers _ (bytes_eq x k.name) _ _ (ruled_case ms all s d n k.payload None _ (λ t s2 d2. r.stops _)) h

  typed_case : (ms all ns : Members) (x : List ℕ) (u : Shape) (k : CaseType) (n : ℕ) (s : Source) (d : Target) → ((t : Shape) (s2 : Source) (d2 : Target) → F (move c.transfer t u s2 d2)) → F (move_case c.transfer ms all k ns (suc n) s d) → F (move_case c.transfer ms all k (typed x u ns) n s d)
  unfolding move_case
  typed_case ms all ns x u k n s d one h = r.eithers _ (bytes_eq x k.name) _ _ (ruled_case ms all s d n k.payload (Some u) _ one) h

  mutual
    pub move_ruled : (u t : Shape) (s : Source) (d : Target) → F (move c.transfer t u s d)
    move_ruled (s_plain q) t s d = to_plain t q s d
    move_ruled (s_node l ns) t s d = to_node t l ns s d (λ ms s2 d2. fields_ruled ns ms 0 s2 d2) (λ ms k s2 d2. cases_ruled ns ms ns k 0 s2 d2)

    pub fields_ruled : (ns ms : Members) (end : ℕ) (s : Source) (d : Target) → F (move_fields c.transfer ms ns end s d)
    fields_ruled no_members ms end s d = no_fields ms end s d
    fields_ruled (bare x ns) ms end s d = bare_fields ms ns x end s d (fields_ruled ns ms end s d)
    fields_ruled (typed x u ns) ms end s d = typed_fields ms ns x u end s d (λ t s2 d2. move_ruled u t s2 d2) (λ d2. fields_ruled ns ms (next_of (width_of_side c.transfer.to) u end) s d2)

    cases_ruled : (ns ms all : Members) (k : CaseType) (n : ℕ) (s : Source) (d : Target) → F (move_case c.transfer ms all k ns n s d)
    cases_ruled no_members ms all k n s d = no_case ms all k n s d
    cases_ruled (bare x ns) ms all k n s d = bare_case ms all ns x k n s d (cases_ruled ns ms all k (suc n) s d)
    cases_ruled (typed x u ns) ms all k n s d = typed_case ms all ns x u k n s d (λ t s2 d2. move_ruled u t s2 d2) (cases_ruled ns ms all k (suc n) s d)
