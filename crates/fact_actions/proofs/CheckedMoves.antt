-- What adapters do with debug checks is what they do without them, or stops at a check that fails.
use Rattle.std.proofs.Common.{◌≡◌, ℕ, suc, ◌+◌, ◌*◌, ◌^◌, Bool, true, false, List, [], ◌∷◌, Option, Some, None, refl}
use Rattle.std.specs.Prelude.{nat_lt, ◌&&◌, is_some, if◌then◌else◌}
use Rattle.std.specs.Str.{bytes_eq}
use Rattle.fact_wasm.specs.declared.types.ValType.{ValType}
use Rattle.fact_types.specs.declared.import.Import.{Import}
use Rattle.fact_types.specs.declared.import.Import.TheVariants as import
use Rattle.fact_types.specs.declared.interface.InterfaceType.{InterfaceType}
use Rattle.fact_types.specs.declared.interface.InterfaceType.TheVariants as ty
use Rattle.fact_types.specs.declared.outside.StringEncoding.{StringEncoding}
use Rattle.fact_types.specs.declared.outside.StringEncoding.TheVariants as string
use Rattle.fact_types.specs.declared.outside.Trap.{Trap as Reason}
use Rattle.fact_types.specs.declared.outside.Trap.TheVariants.{ListOutOfBounds, StringOutOfBounds, MemoryOutOfBounds, InvalidDiscriminant}
use Rattle.fact_types.specs.Adapters.{Side, LinkedAdapter, is_wide}
use Rattle.fact_types.specs.Fields.{Field, field_of}
use Rattle.fact_types.specs.Shapes.{Kind, k_record, k_variant, k_list, k_tuple, k_map, k_flags, k_enum, k_option, k_result, k_fixed, k_future, k_stream, Shape, s_plain, s_node, Members, no_members, bare, typed}
use Rattle.fact_types.specs.Signatures.{flat_values, lower_limit, lift_results_limit}
use Rattle.fact_machine.specs.declared.types.CoreValue.{CoreValue}
use Rattle.fact_values.specs.Limits.{CaseType, case_type}
use Rattle.fact_values.specs.Places.{case_bytes, flags_bytes}
use Rattle.fact_values.specs.Texts.{form_of}
use Rattle.fact_actions.specs.Actions.{Action, Give, Unreachable, ◌>>◌, trap}
use Rattle.fact_actions.specs.Adapters.{into_params, into_results, enter_call, exit_call, AdapterTunables, params_transfer, results_transfer, check_tuple, from_values, flat_results, move_params, move_results, last_bits, make_call, cleared, read_slots, sync, async_start, async_return, lift_signature_of}
use Rattle.fact_types.specs.Tuples.{tuple_members}
use Rattle.fact_actions.specs.Moves.{MovingMembers, entry_extent, canonical_number, plain_size, aligned_source, aligned_target, aligned_node, move_number, move_char, move_handle, write_case, move_list, move_fixed, move_plain, move_to_plain, move_sum, move_node, move_to_node, with_field, move, move_fields, move_case}
use Rattle.fact_actions.specs.Paths.{Path, End, Limit, Resize, Pass, If, Tag, Assert, TextForm, AsUtf8, AsUtf16, AsCompactLatin1, AsCompactUtf16, path}
use Rattle.fact_actions.specs.Sides.{write_pair, LiftLowerOptions, Transfer, Source, Values, AtAddress, Target, Slots, Into, options_of, first_bits, address_value, reallocate}
use Rattle.fact_actions.specs.Strings.{PathPoint, path_start, holds, with_tag, asserted, choose_action, transcode, walk, form_in, move_string}
use Rattle.fact_actions.specs.AdapterLaws.{is_check, EachChecked}
use Rattle.fact_actions.proofs.Checks.{Checks, same, visits, gets, sets, checks_bind, checks_unless, checks_more, checks_each, checks_number, checks_pair, checks_region, checks_realloc, checks_run}

-- ---- texts

checks_asserted : {A : Type 0} (debug : Bool) (t : Reason) (b : Bool) {q r : Action A} → is_check t ≡ true → Checks q r → Checks (asserted debug t b q) r
checks_asserted false t b e h = h
checks_asserted true t b e h = checks_more t b e h

checks_branch : {A : Type 0} (b : Bool) {q r q' r' : Action A} → Checks q q' → Checks r r' → Checks (choose_action b q r) (choose_action b q' r')
checks_branch true h g = h
checks_branch false h g = g

-- each assertion of a path is a check
AssertsChecks : Path → Type 0
AssertsChecks End = Unit {0}
AssertsChecks (Limit n p) = AssertsChecks p
AssertsChecks (Resize x y p) = AssertsChecks p
AssertsChecks (Pass o rest room p) = AssertsChecks p
AssertsChecks (If test q r p) = AssertsChecks q × AssertsChecks r × AssertsChecks p
AssertsChecks (Tag p) = AssertsChecks p
AssertsChecks (Assert t test p) = (is_check t ≡ true) × AssertsChecks p

asserts_checks : (f : TextForm) (e : StringEncoding) → AssertsChecks (path f e)
unfolding AssertsChecks
asserts_checks AsUtf8 string.Utf8 = tt
asserts_checks AsUtf8 string.Utf16 = (tt, tt, tt)
asserts_checks AsUtf8 string.CompactUtf16 = ((tt, tt, tt), (tt, tt, tt), tt)
asserts_checks AsUtf16 string.Utf8 = ((refl, tt), (refl, (tt, tt, tt)), tt)
asserts_checks AsUtf16 string.Utf16 = tt
asserts_checks AsUtf16 string.CompactUtf16 = ((tt, tt, tt), (tt, tt, tt), tt)
asserts_checks AsCompactLatin1 string.Utf8 = ((refl, tt), (refl, (tt, tt, tt)), tt)
asserts_checks AsCompactLatin1 string.Utf16 = tt
asserts_checks AsCompactLatin1 string.CompactUtf16 = tt
asserts_checks AsCompactUtf16 string.Utf8 = ((refl, tt), (refl, (tt, tt, tt)), tt)
asserts_checks AsCompactUtf16 string.Utf16 = tt
asserts_checks AsCompactUtf16 string.CompactUtf16 = (refl, (tt, tt, tt))

module _ (tr : Transfer) where
  abbrev off : Transfer
  off = record tr { debug = false }

  checks_walk : (p : Path) (v : PathPoint) → AssertsChecks p → Checks (walk tr p v) (walk off p v)
  unfolding AssertsChecks
  checks_walk End v h = same _
  checks_walk (Limit n p) v h = checks_unless StringOutOfBounds _ (checks_walk p v h)
  checks_walk (Resize x y p) v h = checks_realloc tr.concurrency tr.to StringOutOfBounds _ _ _ _ (λ q. checks_walk p (record v { region = q }) h)
  checks_walk (Pass o rest room p) v h = checks_bind (same (transcode tr o rest room v)) (λ u. checks_walk p u h)
  checks_walk (If test q r p) v h = checks_bind (checks_branch (holds tr test v) (checks_walk q v h.0) (checks_walk r v h.1)) (λ u. checks_walk p u h.2)
  checks_walk (Tag p) v h = checks_walk p (with_tag v) h
  checks_walk (Assert t test p) v h = checks_asserted tr.debug t (holds tr test v) h.0 (checks_walk p v h.1)

  checks_string : (s : Source) (d : Target) → Checks (move_string tr s d) (move_string off s d)
  checks_string s d =
      checks_pair tr.debug tr.from s (λ p n.
      let f = form_in tr.from.encoding n in
      checks_region tr.from StringOutOfBounds p _ _
      (checks_bind (checks_walk (path f tr.to.encoding) (path_start p (form_of tr.from.encoding n).units) (asserts_checks f tr.to.encoding)) (λ v. same _)))

  -- ---- plain types

  checks_move_number : (m n : ℕ) (f : ℕ → ℕ) (s : Source) (d : Target) → Checks (move_number tr m n f s d) (move_number off m n f s d)
  checks_move_number m n f s d = checks_number tr.debug tr.from m s (λ x. same _)

  checks_char : (s : Source) (d : Target) → Checks (move_char tr s d) (move_char off s d)
  checks_char s d = checks_number tr.debug tr.from 4 s (λ n. same _)

  checks_handle : (i : Import) (t u : ℕ) (s : Source) (d : Target) → Checks (move_handle tr i t u s d) (move_handle off i t u s d)
  checks_handle i t u s d = checks_number tr.debug tr.from 4 s (λ n. same _)

  checks_plain : (t u : InterfaceType) (s : Source) (d : Target) → Checks (move_plain tr t u s d) (move_plain off t u s d)
  checks_plain ty.Char ty.Char s d = checks_char s d
  checks_plain ty.String ty.String s d = checks_string s d
  checks_plain (ty.Own i) (ty.Own j) s d = checks_handle import.ResourceTransferOwn i.number j.number s d
  checks_plain (ty.Borrow i) (ty.Borrow j) s d = checks_handle import.ResourceTransferBorrow i.number j.number s d
  checks_plain (ty.ErrorContext i) (ty.ErrorContext j) s d = checks_handle import.ErrorContextTransfer i.number j.number s d
  checks_plain t u s d = checks_move_number (plain_size t) (plain_size u) (canonical_number t) s d

  checks_to_plain : (t : Shape) (u : InterfaceType) (s : Source) (d : Target) → Checks (move_to_plain tr t u s d) (move_to_plain off t u s d)
  checks_to_plain (s_plain t) u s d = checks_plain t u s d
  checks_to_plain (s_node k ms) u s d = same _

  -- ---- nodes

  source_checks : {A : Type 0} (debug : Bool) (t : Shape) (s : Source) {q r : Action A} → Checks q r → Checks (aligned_source debug tr.from t s q) r
  source_checks true t (Values vs) h = h
  source_checks true t (AtAddress a) h = checks_more _ _ refl h
  source_checks false t s h = h

  target_checks : {A : Type 0} (debug : Bool) (u : Shape) (d : Target) {q r : Action A} → Checks q r → Checks (aligned_target debug tr.to u d q) r
  target_checks true u (Slots ts) h = h
  target_checks true u (Into a) h = checks_more _ _ refl h
  target_checks false u d h = h

  node_checks : {A : Type 0} (t u : Shape) (s : Source) (d : Target) {q r : Action A} → Checks q r → Checks (aligned_node tr t u s d q) r
  node_checks t u s d h = source_checks tr.debug t s (target_checks tr.debug u d h)

  checks_field : {k l : Field → Action (List CoreValue)} (o : Option Field) → ((f : Field) → Checks (k f) (l f)) → Checks (with_field o k) (with_field o l)
  checks_field None h = same _
  checks_field (Some f) h = h f

  checks_write_case : (ms ns : Members) (s : Source) (d : Target) (n : ℕ) (p q : Option Shape) {f g : Shape → Source → Target → Action (List CoreValue)}
      → ((t : Shape) (s' : Source) (d' : Target) → Checks (f t s' d') (g t s' d')) → Checks (write_case tr ms ns s d n p q f) (write_case off ms ns s d n p q g)
  checks_write_case ms ns s d n (Some p) (Some u) h = checks_bind (same _) (λ tag. checks_bind (h p _ _) (λ vs. same _))
  checks_write_case ms ns s d n None None h = same _
  checks_write_case ms ns s d n (Some p) None h = same _
  checks_write_case ms ns s d n None (Some u) h = same _

  checks_if : {A : Type 0} (b : Bool) {q r q' r' : Action A} → Checks q q' → Checks r r' → Checks (if b then q else r) (if b then q' else r')
  checks_if true h g = h
  checks_if false h g = g

  -- how members are moved, with checks and without them
  record ChecksMembers (m n : MovingMembers) : Type 0 where
    fields : (ms : Members) (s : Source) (d : Target) → Checks (m.fields ms s d) (n.fields ms s d)
    case : (ms : Members) (c : CaseType) (s : Source) (d : Target) → Checks (m.case ms c s d) (n.case ms c s d)

  checks_sum : (ms : Members) (m n : MovingMembers) (s : Source) (d : Target) → ChecksMembers m n → Checks (move_sum tr ms m s d) (move_sum off ms n s d)
  checks_sum ms m n s d h = checks_number tr.debug tr.from (case_bytes ms) s (λ x. by_case (case_type ms x))
    where
      by_case : (o : Option CaseType) → Checks {A = List CoreValue} (elim o [ None ↦ trap InvalidDiscriminant | Some c ↦ m.case ms c s d ]) (elim o [ None ↦ trap InvalidDiscriminant | Some c ↦ n.case ms c s d ])
      by_case None = same _
      by_case (Some c) = h.case ms c s d

  checks_list : (ms ns : Members) (m n : MovingMembers) (s : Source) (d : Target) → ChecksMembers m n → Checks (move_list tr ms ns (m.fields ms) s d) (move_list off ms ns (n.fields ms) s d)
  checks_list ms ns m n s d h =
      let e = entry_extent tr.from ms in
      let f = entry_extent tr.to ns in
      checks_pair tr.debug tr.from s (λ p x.
      checks_unless ListOutOfBounds (nat_lt (x * e.size) (2 ^ 32)) (
      checks_unless ListOutOfBounds (nat_lt (x * f.size) (2 ^ 32)) (
      checks_region tr.from ListOutOfBounds p (x * e.size) e.align (
      checks_realloc tr.concurrency tr.to ListOutOfBounds 0 0 f.align (x * f.size) (λ q.
      checks_bind {f = λ vs. write_pair tr.to d q x} {g = λ vs. write_pair tr.to d q x}
      (checks_each 0 x (λ i. m.fields ms (AtAddress (p + i * e.size)) (Into (q + i * f.size))) (λ i. n.fields ms (AtAddress (p + i * e.size)) (Into (q + i * f.size))) (λ i. h.fields ms (AtAddress (p + i * e.size)) (Into (q + i * f.size))))
      (λ vs. same _))))))

  checks_fixed : (j : ℕ) (ms ns : Members) (m n : MovingMembers) (s : Source) (d : Target) → ChecksMembers m n → Checks (move_fixed tr j ms ns (m.fields ms) s d) (move_fixed off j ms ns (n.fields ms) s d)
  checks_fixed j ms ns m n s d h = checks_each 0 j _ _ (λ x. h.fields ms _ _)

  checks_node : (k : Kind) (ms : Members) (l : Kind) (ns : Members) (m n : MovingMembers) (s : Source) (d : Target) → ChecksMembers m n → Checks (move_node tr k ms l ns m s d) (move_node off k ms l ns n s d)
  checks_node k_record ms k_record ns m n s d h = h.fields ms s d
  checks_node k_tuple ms k_tuple ns m n s d h = h.fields ms s d
  checks_node k_variant ms k_variant ns m n s d h = checks_sum ms m n s d h
  checks_node k_option ms k_option ns m n s d h = checks_sum ms m n s d h
  checks_node k_result ms k_result ns m n s d h = checks_sum ms m n s d h
  checks_node k_enum ms k_enum ns m n s d h = checks_number tr.debug tr.from (case_bytes ms) s (λ x. same _)
  checks_node k_flags ms k_flags ns m n s d h = checks_move_number (flags_bytes ms) (flags_bytes ns) _ s d
  checks_node k_list ms k_list ns m n s d h = checks_list ms ns m n s d h
  checks_node k_map ms k_map ns m n s d h = checks_list ms ns m n s d h
  checks_node (k_fixed i) ms (k_fixed j) ns m n s d h = checks_fixed j ms ns m n s d h
  checks_node (k_future t i) ms (k_future u j) ns m n s d h = checks_handle import.FutureTransfer t u s d
  checks_node (k_stream t i) ms (k_stream u j) ns m n s d h = checks_handle import.StreamTransfer t u s d
  checks_node k ms l ns m n s d h = same _

  checks_to_node : (t : Shape) (l : Kind) (ns : Members) (m n : MovingMembers) (s : Source) (d : Target) → ChecksMembers m n → Checks (move_to_node tr t l ns m s d) (move_to_node off t l ns n s d)
  checks_to_node (s_plain t) l ns m n s d h = same _
  checks_to_node (s_node k ms) l ns m n s d h = visits _ (checks_node k ms l ns m n s d h)

  -- ---- all types

  mutual
    unfolding move

    pub checks_move : (t u : Shape) (s : Source) (d : Target) → Checks (move tr t u s d) (move off t u s d)
    checks_move t (s_plain u) s d = node_checks t (s_plain u) s d (visits 1 (checks_to_plain t u s d))
    checks_move t (s_node l ns) s d =
        node_checks t (s_node l ns) s d
        (checks_to_node t l ns _ _ s d (record { fields = λ ms s' d'. checks_fields ms ns 0 s' d'; case = λ ms c s' d'. checks_case ms ns c ns 0 s' d' }))

    pub checks_fields : (ms ns : Members) (end : ℕ) (s : Source) (d : Target) → Checks (move_fields tr ms ns end s d) (move_fields off ms ns end s d)
    checks_fields ms no_members end s d = same _
    checks_fields ms (bare x ns) end s d = checks_fields ms ns end s d
    checks_fields ms (typed x u ns) end s d =
        checks_field (field_of x ms) (λ f. checks_bind (checks_move f.shape u _ _) (λ vs. checks_bind (checks_fields ms ns _ s _) (λ us. same _)))

    checks_case : (ms all : Members) (c : CaseType) (ns : Members) (n : ℕ) (s : Source) (d : Target) → Checks (move_case tr ms all c ns n s d) (move_case off ms all c ns n s d)
    checks_case ms all c no_members n s d = same _
    checks_case ms all c (bare x ns) n s d = checks_if (bytes_eq x c.name) (checks_write_case ms all s d n c.payload None (λ p s' d'. same Unreachable)) (checks_case ms all c ns (suc n) s d)
    checks_case ms all c (typed x u ns) n s d =
        checks_if (bytes_eq x c.name) (checks_write_case ms all s d n c.payload (Some u) (λ p s' d'. checks_move p u s' d')) (checks_case ms all c ns (suc n) s d)

-- ---- adapters

checks_from : {A : Type 0} (o : LiftLowerOptions) (limit : ℕ) (ts : List Shape) (vs : List CoreValue) {k l : Source → Action A} → ((s : Source) → Checks (k s) (l s)) → Checks (from_values o limit ts vs k) (from_values o limit ts vs l)
checks_from o limit ts vs {k} {l} h = by_flats (flat_values (is_wide o.memory) limit ts)
  where
    by_flats : (x : Option (List ValType)) → Checks (elim x [ Some flats ↦ k (Values vs) | None ↦ check_tuple o ts (first_bits vs) (k (AtAddress (first_bits vs))) ]) (elim x [ Some flats ↦ l (Values vs) | None ↦ check_tuple o ts (first_bits vs) (l (AtAddress (first_bits vs))) ])
    by_flats (Some flats) = h (Values vs)
    by_flats None = checks_region o MemoryOutOfBounds (first_bits vs) _ _ (h (AtAddress (first_bits vs)))

checks_into_params : (tr : Transfer) (ts : List Shape) {k l : Target → Action (List CoreValue)} → ((d : Target) → Checks (k d) (l d)) → Checks (into_params tr ts k) (into_params (record tr { debug = false }) ts l)
checks_into_params tr ts {k} {l} h = by_flats (flat_values (is_wide tr.to.memory) 16 ts)
  where
    by_flats : (x : Option (List ValType)) → Checks
        (elim x [ Some flats ↦ k (Slots flats) | None ↦ let e = entry_extent tr.to (tuple_members ts) in reallocate tr.concurrency tr.to MemoryOutOfBounds 0 0 e.align e.size (λ q. k (Into q) >> Give (address_value tr.to q ∷ [])) ])
        (elim x [ Some flats ↦ l (Slots flats) | None ↦ let e = entry_extent tr.to (tuple_members ts) in reallocate tr.concurrency tr.to MemoryOutOfBounds 0 0 e.align e.size (λ q. l (Into q) >> Give (address_value tr.to q ∷ [])) ])
    by_flats (Some flats) = h (Slots flats)
    by_flats None = checks_realloc tr.concurrency tr.to MemoryOutOfBounds 0 0 _ _ {k = λ q. k (Into q) >> Give (address_value tr.to q ∷ [])} {l = λ q. l (Into q) >> Give (address_value tr.to q ∷ [])} (λ q. checks_bind (h (Into q)) (λ vs. same _))

checks_into_results : (s : Side) (pointer : ℕ) {k l : Target → Action (List CoreValue)} → ((d : Target) → Checks (k d) (l d)) → Checks (into_results s pointer k) (into_results s pointer l)
checks_into_results s pointer {k} {l} h = by_flats (flat_results s)
  where
    by_flats : (x : Option (List ValType)) → Checks (elim x [ Some flats ↦ k (Slots flats) | None ↦ check_tuple (options_of s) s.results pointer (k (Into pointer)) ]) (elim x [ Some flats ↦ l (Slots flats) | None ↦ check_tuple (options_of s) s.results pointer (l (Into pointer)) ])
    by_flats (Some flats) = h (Slots flats)
    by_flats None = checks_region (options_of s) MemoryOutOfBounds pointer _ _ (h (Into pointer))

module _ (u : AdapterTunables) (a : LinkedAdapter) where
  abbrev unchecked : AdapterTunables
  unchecked = record u { debug = false }

  checks_params : (args : List CoreValue) → Checks (move_params u a args) (move_params unchecked a args)
  checks_params args = checks_from (options_of a.lower) (lower_limit a.lower.async_side) a.lower.params args (λ s. checks_into_params (params_transfer u a) a.lift.params (λ d. checks_fields (params_transfer u a) (tuple_members a.lower.params) (tuple_members a.lift.params) 0 s d))

  checks_results : (given : List CoreValue) (pointer : ℕ) → Checks (move_results u a given pointer) (move_results unchecked a given pointer)
  checks_results given pointer = checks_from (options_of a.lift) (lift_results_limit a.lift.async_side) a.lift.results given (λ s. checks_into_results a.lower pointer (λ d. checks_fields (results_transfer u a) (tuple_members a.lift.results) (tuple_members a.lower.results) 0 s d))

  checks_cleared : {A : Type 0} (i saved : ℕ) {q r : Action A} → Checks q r → Checks (cleared i saved q) (cleared i saved r)
  checks_cleared i saved h = sets i 0 (checks_bind h (λ x. same _))

  pub checks_sync : (args : List CoreValue) → Checks (sync u a args) (sync unchecked a args)
  checks_sync args =
      gets a.lower.instance (λ saved.
      checks_bind (same _) (λ x.
      checks_bind (same (enter_call u a)) (λ y.
      gets a.lift.instance (λ lift_saved.
      checks_bind (checks_cleared a.lift.instance lift_saved (checks_params args)) (λ core.
      checks_bind (same (make_call (import.CoreDef a.callee) core (lift_signature_of a).results)) (λ given.
      checks_bind (same (read_slots (u.concurrency && is_some a.lift.post_return))) (λ context.
      checks_bind (same (exit_call u a)) (λ z.
      checks_bind (checks_cleared a.lower.instance saved (checks_results given (last_bits args))) (λ results. same _)))))))))

  pub checks_start : (args : List CoreValue) → Checks (async_start u a args) (async_start unchecked a args)
  checks_start args = gets a.lift.instance (λ saved. checks_cleared a.lift.instance saved (checks_params args))

  pub checks_return : (args : List CoreValue) → Checks (async_return u a args) (async_return unchecked a args)
  checks_return args = gets a.lower.instance (λ saved. checks_cleared a.lower.instance saved (checks_results args (last_bits args)))

pub sync_checked : EachChecked sync
sync_checked p u a args w = checks_run p (checks_sync u a args) w

pub start_checked : EachChecked async_start
start_checked p u a args w = checks_run p (checks_start u a args) w

pub return_checked : EachChecked async_return
return_checked p u a args w = checks_run p (checks_return u a args) w
