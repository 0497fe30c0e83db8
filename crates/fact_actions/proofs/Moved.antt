-- What holds of the parts of actions by which values are moved holds of moving any value.
use Rattle.std.proofs.Common.{◌≡◌, ℕ, suc, ◌+◌, ◌*◌, ◌≤◌, Bool, true, false, List, [], ◌∷◌, Option, Some, None, refl, arith}
use Rattle.std.specs.Prelude.{nat_le, ◌/◌}
use Rattle.std.specs.Str.{bytes_eq}
use Rattle.fact_types.specs.declared.interface.InterfaceType.{InterfaceType}
use Rattle.fact_types.specs.declared.interface.InterfaceType.TheVariants as ty
use Rattle.fact_types.specs.declared.outside.StringEncoding.{StringEncoding}
use Rattle.fact_types.specs.declared.outside.StringEncoding.TheVariants as string
use Rattle.fact_types.specs.declared.outside.Transcode.{Transcode}
use Rattle.fact_types.specs.declared.outside.Trap.{Trap}
use Rattle.fact_types.specs.declared.outside.Trap.TheVariants.{StringOutOfBounds, ListOutOfBounds, InvalidDiscriminant, InvalidChar}
use Rattle.fact_types.specs.Shapes.{Kind, k_record, k_variant, k_list, k_tuple, k_map, k_flags, k_enum, k_option, k_result, k_fixed, k_future, k_stream, Shape, s_plain, s_node, Members, no_members, bare, typed}
use Rattle.fact_types.specs.Fields.{Field, field_of}
use Rattle.fact_machine.specs.declared.types.CoreValue.{CoreValue}
use Rattle.fact_types.specs.declared.import.Import.{Import}
use Rattle.fact_types.specs.declared.import.Import.TheVariants as import
use Rattle.fact_values.specs.Limits.{CaseType, case_type}
use Rattle.fact_values.specs.Places.{case_bytes}
use Rattle.fact_values.specs.Texts.{form_of}
use Rattle.fact_actions.specs.Actions.{Action, trap}
use Rattle.fact_actions.specs.Sides.{LiftLowerOptions, Transfer, Source, Target, Values, AtAddress, Slots, Into}
use Rattle.fact_actions.specs.Transcoders.{transcode_kind}
use Rattle.fact_actions.specs.Paths.{Path, End, Limit, Resize, Pass, If, Tag, Assert, TextForm, AsUtf8, AsUtf16, AsCompactLatin1, AsCompactUtf16, path}
use Rattle.fact_actions.specs.Strings.{PathPoint, path_start, most_string_bytes, holds, asserted, choose_action, with_tag, passed, transcode, walk, form_in, move_string}
use Rattle.fact_actions.specs.Moves.{read_case, write_case, MovingMembers, move, move_fields, move_case, move_node, move_to_node, plain_size, canonical_number, move_plain, move_to_plain, move_number, move_char, move_handle, move_enum, move_list, move_fixed, move_sum, aligned_node, aligned_source, aligned_target, weight_of, entry_extent, with_field}
use Rattle.fact_actions.specs.Order.{IsValueCall}
use Rattle.fact_actions.specs.TypedAnswers.{result_types}
use Rattle.fact_wasm.specs.declared.types.ValType.{ValType}
use Rattle.fact_wasm.specs.declared.types.ValType.TheVariants as val
use Rattle.fact_types.specs.declared.outside.CoreDef.{CoreDef}
use Rattle.fact_actions.proofs.Kept.{IsKept, from_none, unless_kept, if_kept, memory_kept, from_read, write_kept, from_pair, write_pair_kept, from_region, each_kept}

-- the calls that a path makes at most, traps aside
abbrev pub path_calls : Path → ℕ
path_calls End = 0
path_calls (Limit factor p) = path_calls p
path_calls (Resize x y p) = 7 + path_calls p
path_calls (Pass o rest room p) = 1 + path_calls p
path_calls (If test q r p) = (path_calls q + path_calls r) + path_calls p
path_calls (Tag p) = path_calls p
path_calls (Assert t test p) = path_calls p

-- no text takes more calls than a node may make
pub few_calls : (f : TextForm) (e : StringEncoding) → path_calls (path f e) ≤ 30
few_calls AsUtf8 string.Utf8 = omega arith
few_calls AsUtf8 string.Utf16 = omega arith
few_calls AsUtf8 string.CompactUtf16 = omega arith
few_calls AsUtf16 string.Utf8 = omega arith
few_calls AsUtf16 string.Utf16 = omega arith
few_calls AsUtf16 string.CompactUtf16 = omega arith
few_calls AsCompactLatin1 string.Utf8 = omega arith
few_calls AsCompactLatin1 string.Utf16 = omega arith
few_calls AsCompactLatin1 string.CompactUtf16 = omega arith
few_calls AsCompactUtf16 string.Utf8 = omega arith
few_calls AsCompactUtf16 string.Utf16 = omega arith
few_calls AsCompactUtf16 string.CompactUtf16 = omega arith

module _ {tr : Transfer} {P : ℕ → (A : Type 0) → Action A → Type 0} (kept : IsKept tr P) where
  -- ---- texts

  asserted_kept : (c : ℕ) (A : Type 0) (debug : Bool) (t : Trap) (b : Bool) (q : Action A) → P c A q → P c A (asserted debug t b q)
  asserted_kept c A false t b q h = h
  asserted_kept c A true t b q h = unless_kept kept.plain c A t b q h

  branch_kept : (c : ℕ) (A : Type 0) (b : Bool) (q r : Action A) → P c A q → P c A r → P c A (choose_action b q r)
  branch_kept c A true q r h g = h
  branch_kept c A false q r h g = g

  transcode_kept : (o : Transcode) (rest : Bool) (room : ℕ) (v : PathPoint) → P 1 PathPoint (transcode tr o rest room v)
  transcode_kept o rest room v =
      memory_kept kept.plain 1 PathPoint tr.from _ (λ m e. memory_kept kept.plain 1 PathPoint tr.to _ (λ n f.
      kept.values 0 PathPoint (import.Transcode o m.def m.memory64 n.def n.memory64) _ _ _ (record { memory = m; memory_is = e; def_is = refl; width_is = refl }, record { memory = n; memory_is = f; def_is = refl; width_is = refl }) (λ core path_start. refl) (λ rs. kept.plain.gives PathPoint (passed tr (transcode_kind o) rest rs v))))

  walk_kept : (p : Path) (v : PathPoint) → P (path_calls p) PathPoint (walk tr p v)
  walk_kept End v = kept.plain.gives PathPoint v
  walk_kept (Limit factor p) v = unless_kept kept.plain _ PathPoint StringOutOfBounds (nat_le v.length (most_string_bytes / factor)) (walk tr p v) (walk_kept p v)
  walk_kept (Resize x y p) v = kept.requests (path_calls p) PathPoint StringOutOfBounds _ _ _ _ _ (λ q. walk_kept p (record v { region = q }))
  walk_kept (Pass o rest room p) v = kept.binds 1 (path_calls p) _ _ _ _ (transcode_kept o rest room v) (λ u. walk_kept p u)
  walk_kept (If test q r p) v =
      kept.binds (path_calls q + path_calls r) (path_calls p) _ _ _ _
      (branch_kept _ PathPoint (holds tr test v) (walk tr q v) (walk tr r v) (kept.plain.more (path_calls q) _ _ _ (omega arith) (walk_kept q v)) (kept.plain.more (path_calls r) _ _ _ (omega arith) (walk_kept r v)))
      (λ u. walk_kept p u)
  walk_kept (Tag p) v = walk_kept p (with_tag v)
  walk_kept (Assert t test p) v = asserted_kept _ PathPoint tr.debug t (holds tr test v) (walk tr p v) (walk_kept p v)

  string_kept : (s : Source) (d : Target) → P 30 (List CoreValue) (move_string tr s d)
  string_kept s d =
      from_pair kept 30 _ s _ (λ p n.
      let f = form_in tr.from.encoding n in
      from_region kept 30 _ StringOutOfBounds p _ _ _ (
      kept.plain.more (path_calls (path f tr.to.encoding) + 0) 30 _ _ (few f)
      (kept.binds (path_calls (path f tr.to.encoding)) 0 _ _ _ _ (walk_kept (path f tr.to.encoding) (path_start p (form_of tr.from.encoding n).units)) (λ v. write_pair_kept kept d v.region v.written))))
    where
      few : (f : TextForm) → path_calls (path f tr.to.encoding) + 0 ≤ 30
      few f = let h = few_calls f tr.to.encoding in omega arith

  -- ---- numbers

  number_kept : (size size' : ℕ) (f : ℕ → ℕ) (s : Source) (d : Target) → P 30 (List CoreValue) (move_number tr size size' f s d)
  number_kept size size' f s d = from_read kept 30 _ size s _ (λ n. from_none kept.plain 30 _ _ (write_kept kept size' d (f n)))

  char_kept : (s : Source) (d : Target) → P 30 (List CoreValue) (move_char tr s d)
  char_kept s d = from_read kept 30 _ 4 s _ (λ n. unless_kept kept.plain 30 _ InvalidChar _ _ (from_none kept.plain 30 _ _ (write_kept kept 4 d n)))

  handle_kept : (i : Import) (t u : ℕ) (s : Source) (d : Target) → IsValueCall tr.from tr.to i → ((core : CoreDef → List ValType) (path_start : (callback post_return : Option CoreDef) → List ValType) → (val.I32 ∷ []) ≡ result_types core path_start i) → P 30 (List CoreValue) (move_handle tr i t u s d)
  handle_kept i t u s d h e =
      from_read kept 30 _ 4 s _ (λ n.
      kept.plain.more 1 30 _ _ (omega arith) (kept.values 0 _ i _ _ _ h e (λ rs. write_kept kept 4 d _)))

  plain_kept : (t u : InterfaceType) (s : Source) (d : Target) → P 30 (List CoreValue) (move_plain tr t u s d)
  plain_kept ty.Char ty.Char s d = char_kept s d
  plain_kept ty.String ty.String s d = string_kept s d
  plain_kept (ty.Own i) (ty.Own j) s d = handle_kept import.ResourceTransferOwn i.number j.number s d tt (λ core path_start. refl)
  plain_kept (ty.Borrow i) (ty.Borrow j) s d = handle_kept import.ResourceTransferBorrow i.number j.number s d tt (λ core path_start. refl)
  plain_kept (ty.ErrorContext i) (ty.ErrorContext j) s d = handle_kept import.ErrorContextTransfer i.number j.number s d tt (λ core path_start. refl)
  plain_kept t u s d = number_kept (plain_size t) (plain_size u) (canonical_number t) s d

  to_plain_kept : (t : Shape) (u : InterfaceType) (s : Source) (d : Target) → P 30 (List CoreValue) (move_to_plain tr t u s d)
  to_plain_kept (s_plain t) u s d = plain_kept t u s d
  to_plain_kept (s_node k ms) u s d = from_none kept.plain 30 _ _ (kept.plain.stops _)

  -- ---- places, in debug checks

  source_kept : (A : Type 0) (debug : Bool) (o : LiftLowerOptions) (t : Shape) (s : Source) (q : Action A) → P 0 A q → P 0 A (aligned_source debug o t s q)
  source_kept A true o t (Values vs) q h = h
  source_kept A true o t (AtAddress a) q h = unless_kept kept.plain 0 A _ _ q h
  source_kept A false o t s q h = h

  target_kept : (A : Type 0) (debug : Bool) (o : LiftLowerOptions) (t : Shape) (d : Target) (q : Action A) → P 0 A q → P 0 A (aligned_target debug o t d q)
  target_kept A true o t (Slots ts) q h = h
  target_kept A true o t (Into a) q h = unless_kept kept.plain 0 A _ _ q h
  target_kept A false o t d q h = h

  placed_kept : (t u : Shape) (s : Source) (d : Target) (q : Action (List CoreValue)) → P 0 (List CoreValue) q → P 0 (List CoreValue) (aligned_node tr t u s d q)
  placed_kept t u s d q h = source_kept _ tr.debug tr.from t s _ (target_kept _ tr.debug tr.to u d q h)

  -- ---- sums

  case_kept : (c : ℕ) (ms : Members) (s : Source) (k : CaseType → Action (List CoreValue)) → ((x : CaseType) → P c (List CoreValue) (k x)) → P c (List CoreValue) (read_case tr ms s k)
  case_kept c ms s k h = from_read kept c _ (case_bytes ms) s _ (λ n. found (case_type ms n))
    where
      found : (x : Option CaseType) → P c (List CoreValue) (elim x [ None ↦ trap InvalidDiscriminant | Some y ↦ k y ])
      found None = from_none kept.plain c _ _ (kept.plain.traps _ InvalidDiscriminant)
      found (Some y) = h y

  enum_kept : (ms ns : Members) (s : Source) (d : Target) → P 30 (List CoreValue) (move_enum tr ms ns s d)
  enum_kept ms ns s d = from_read kept 30 _ (case_bytes ms) s _ (λ n. unless_kept kept.plain 30 _ InvalidDiscriminant _ _ (from_none kept.plain 30 _ _ (write_kept kept (case_bytes ns) d n)))

  write_case_kept : (ms ns : Members) (s : Source) (d : Target) (n : ℕ) (p q : Option Shape) (m : Shape → Source → Target → Action (List CoreValue))
      → ((x : Shape) (s' : Source) (d' : Target) → P 0 (List CoreValue) (m x s' d')) → P 0 (List CoreValue) (write_case tr ms ns s d n p q m)
  write_case_kept ms ns s d n (Some p) (Some q) m h =
      kept.binds 0 0 _ _ _ _ (write_kept kept (case_bytes ns) d n) (λ tag. kept.binds 0 0 _ _ _ _ (h p _ _) (λ vs. kept.plain.gives _ _))
  write_case_kept ms ns s d n None None m h = kept.binds 0 0 _ _ _ _ (write_kept kept (case_bytes ns) d n) (λ tag. kept.plain.gives _ _)
  write_case_kept ms ns s d n (Some p) None m h = kept.plain.stops _
  write_case_kept ms ns s d n None (Some q) m h = kept.plain.stops _

  -- ---- lists

  list_kept : (ms ns : Members) (f : Source → Target → Action (List CoreValue)) (s : Source) (d : Target)
      → ((s' : Source) (d' : Target) → P 0 (List CoreValue) (f s' d')) → P 30 (List CoreValue) (move_list tr ms ns f s d)
  list_kept ms ns f s d h =
      from_pair kept 30 _ s _ (λ p n.
      unless_kept kept.plain 30 _ ListOutOfBounds _ _ (unless_kept kept.plain 30 _ ListOutOfBounds _ _ (from_region kept 30 _ ListOutOfBounds p _ _ _ (
      kept.plain.more 7 30 _ _ (omega arith) (kept.requests 0 _ ListOutOfBounds _ _ _ _ _ (λ q.
      kept.binds 0 0 _ _ _ _ (each_kept kept _ 0 n _ (λ i. h (AtAddress (p + i * (entry_extent tr.from ms).size)) (Into (q + i * (entry_extent tr.to ns).size)))) (λ vs. write_pair_kept kept d q n)))))))

  fixed_kept : (n : ℕ) (ms ns : Members) (f : Source → Target → Action (List CoreValue)) (s : Source) (d : Target)
      → ((s' : Source) (d' : Target) → P 0 (List CoreValue) (f s' d')) → P 30 (List CoreValue) (move_fixed tr n ms ns f s d)
  fixed_kept n ms ns f s d h = from_none kept.plain 30 _ _ (each_kept kept _ 0 n _ (λ i. h _ _))

  -- ---- all types

  record AreKept (m : MovingMembers) : Type 0 where
    fields : (ms : Members) (s : Source) (d : Target) → P 0 (List CoreValue) (m.fields ms s d)
    case : (ms : Members) (c : CaseType) (s : Source) (d : Target) → P 0 (List CoreValue) (m.case ms c s d)

  sum_kept : (ms : Members) (m : MovingMembers) (s : Source) (d : Target) → AreKept m → P 30 (List CoreValue) (move_sum tr ms m s d)
  sum_kept ms m s d h = case_kept 30 ms s _ (λ c. from_none kept.plain 30 _ _ (h.case ms c s d))

  node_kept : (k : Kind) (ms : Members) (l : Kind) (ns : Members) (m : MovingMembers) (s : Source) (d : Target) → AreKept m → P 30 (List CoreValue) (move_node tr k ms l ns m s d)
  node_kept k_record ms k_record ns m s d h = from_none kept.plain 30 _ _ (h.fields ms s d)
  node_kept k_tuple ms k_tuple ns m s d h = from_none kept.plain 30 _ _ (h.fields ms s d)
  node_kept k_variant ms k_variant ns m s d h = sum_kept ms m s d h
  node_kept k_option ms k_option ns m s d h = sum_kept ms m s d h
  node_kept k_result ms k_result ns m s d h = sum_kept ms m s d h
  node_kept k_enum ms k_enum ns m s d h = enum_kept ms ns s d
  node_kept k_flags ms k_flags ns m s d h = number_kept _ _ _ s d
  node_kept k_list ms k_list ns m s d h = list_kept ms ns _ s d (λ s' d'. h.fields ms s' d')
  node_kept k_map ms k_map ns m s d h = list_kept ms ns _ s d (λ s' d'. h.fields ms s' d')
  node_kept (k_fixed n) ms (k_fixed n') ns m s d h = fixed_kept n' ms ns _ s d (λ s' d'. h.fields ms s' d')
  node_kept (k_future t i) ms (k_future u j) ns m s d h = handle_kept import.FutureTransfer t u s d tt (λ core path_start. refl)
  node_kept (k_stream t i) ms (k_stream u j) ns m s d h = handle_kept import.StreamTransfer t u s d tt (λ core path_start. refl)
  node_kept k ms l ns m s d h = from_none kept.plain 30 _ _ (kept.plain.stops _)

  weighs : (k : Kind) (ms : Members) → 1 ≤ weight_of k ms
  weighs k_variant ms = omega arith
  weighs k_option ms = omega arith
  weighs k_result ms = omega arith
  weighs k ms = omega arith

  to_node_kept : (t : Shape) (l : Kind) (ns : Members) (m : MovingMembers) (s : Source) (d : Target) → AreKept m → P 0 (List CoreValue) (move_to_node tr t l ns m s d)
  to_node_kept (s_plain t) l ns m s d h = kept.plain.stops _
  to_node_kept (s_node k ms) l ns m s d h = kept.visits (weight_of k ms) _ _ (weighs k ms) (node_kept k ms l ns m s d h)

  field_kept : (o : Option Field) (k : Field → Action (List CoreValue)) → ((f : Field) → P 0 (List CoreValue) (k f)) → P 0 (List CoreValue) (with_field o k)
  field_kept None k h = kept.plain.stops _
  field_kept (Some f) k h = h f

  mutual
    unfolding move

    pub move_kept : (t u : Shape) (s : Source) (d : Target) → P 0 (List CoreValue) (move tr t u s d)
    move_kept t (s_plain u) s d = placed_kept t (s_plain u) s d _ (kept.visits 1 _ _ (omega arith) (to_plain_kept t u s d))
    move_kept t (s_node l ns) s d =
        placed_kept t (s_node l ns) s d _ (to_node_kept t l ns _ s d (record { fields = λ ms s' d'. fields_kept ms ns 0 s' d'; case = λ ms c s' d'. case_by_name ms ns c ns 0 s' d' }))

    pub fields_kept : (ms ns : Members) (end : ℕ) (s : Source) (d : Target) → P 0 (List CoreValue) (move_fields tr ms ns end s d)
    fields_kept ms no_members end s d = kept.plain.gives _ []
    fields_kept ms (bare x ns) end s d = fields_kept ms ns end s d
    fields_kept ms (typed x u ns) end s d =
        field_kept (field_of x ms) _ (λ f. kept.binds 0 0 _ _ _ _ (move_kept f.shape u _ _) (λ vs. kept.binds 0 0 _ _ _ _ (fields_kept ms ns _ s _) (λ us. kept.plain.gives _ _)))

    case_by_name : (ms all : Members) (c : CaseType) (ns : Members) (n : ℕ) (s : Source) (d : Target) → P 0 (List CoreValue) (move_case tr ms all c ns n s d)
    case_by_name ms all c no_members n s d = kept.plain.stops _
    case_by_name ms all c (bare x ns) n s d = if_kept kept.plain 0 _ (bytes_eq x c.name) _ _ (write_case_kept ms all s d n c.payload None _ (λ p s' d'. kept.plain.stops _)) (case_by_name ms all c ns (suc n) s d)
    case_by_name ms all c (typed x u ns) n s d =
        if_kept kept.plain 0 _ (bytes_eq x c.name) _ _ (write_case_kept ms all s d n c.payload (Some u) _ (λ p s' d'. move_kept p u s' d')) (case_by_name ms all c ns (suc n) s d)
