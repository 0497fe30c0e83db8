-- Moves of all types ask of realloc what the parts of their values do.
use Rattle.std.proofs.Common.{◌≡◌, ℕ, suc, ◌+◌, ◌*◌, ◌^◌, Bool, true, false, List, [], ◌∷◌, ◌++◌, Option, Some, None, refl, sym, ap, subst}
use Rattle.std.specs.Prelude.{nat_lt}
use Rattle.std.specs.Str.{bytes_eq}
use Rattle.fact_types.specs.Agrees.{names_of}
use Rattle.fact_wasm.specs.declared.types.ValType.TheVariants as val
use Rattle.fact_types.specs.Fields.{Field, field_of}
use Rattle.fact_types.specs.Shapes.{Kind, k_record, k_variant, k_list, k_tuple, k_map, k_flags, k_enum, k_option, k_result, k_fixed, k_future, k_stream, Shape, s_plain, s_node, Members, no_members, bare, typed, next_of}
use Rattle.fact_types.specs.Options.{◌>>=◌ as and_then}
use Rattle.fact_types.specs.declared.flats.FlatType.TheVariants as flat
use Rattle.fact_types.specs.declared.import.Import.{Import}
use Rattle.fact_types.specs.declared.import.Import.TheVariants as import
use Rattle.fact_types.specs.declared.interface.InterfaceType.{InterfaceType}
use Rattle.fact_types.specs.declared.interface.InterfaceType.TheVariants as ty
use Rattle.fact_types.specs.declared.outside.CoreDef.{CoreDef}
use Rattle.fact_types.specs.declared.outside.Trap.TheVariants.{ListOutOfBounds, InvalidChar, InvalidDiscriminant}
use Rattle.fact_types.proofs.ShapeLaws.{none_some, same_some}
use Rattle.fact_machine.specs.declared.types.CoreValue.{CoreValue}
use Rattle.fact_values.specs.Handles.{members_of}
use Rattle.fact_values.specs.Lift.{number_as}
use Rattle.fact_values.specs.Limits.{CaseType, case_type}
use Rattle.fact_values.specs.Numbers.{is_scalar_value}
use Rattle.fact_values.specs.Places.{count_of_members, flags_bytes, case_bytes, payload_place}
use Rattle.fact_actions.specs.Actions.{Action, Give, Unreachable, ◌>>=◌, trap, each}
use Rattle.fact_actions.specs.Calls.{is_import_of}
use Rattle.fact_actions.specs.Moves.{canonical_number, plain_size, move_number, move_char, move_handle, move_enum, write_case, entry_extent, element_flats, move_list, move_fixed, move_plain, move_to_plain, aligned_source, aligned_target, aligned_node, MovingMembers, move_sum, move_node, move_to_node, weight_of, with_field, part, spot, past, payload_part, payload_spot, padded, move, move_fields, move_case, bits_named}
use Rattle.fact_actions.specs.Requests.{RequestPart, is_transcode}
use Rattle.fact_actions.specs.Sides.{Source, Values, AtAddress, Target, Slots, Into, width_of_side, first_bits, write_number, nth_part, side_abi}
use Rattle.fact_action_laws.specs.Regions.{TransferSetting}
use Rattle.fact_action_laws.proofs.Variants.{sum_number}
use Rattle.fact_action_laws.specs.Parts.{case_of_source, parts_of_some, parts_of_plain, parts_of_list, parts_of_fixed, parts_of_node, parts_to_plain, parts_of, parts_of_fields, parts_of_case}
use Rattle.fact_action_laws.proofs.Fine.{HasKnownSides}
use Rattle.fact_action_laws.proofs.PartAsks.{AsksParts, number_of_source, parts_give, parts_stop, parts_visit, parts_unless, parts_check, parts_other, parts_reallocate, parts_either, parts_number, parts_pair, parts_bind, parts_first, parts_each, parts_write, parts_write_pair, parts_string}

module _ (c : TransferSetting) (known : HasKnownSides c) where
  abbrev A : List RequestPart → Action (List CoreValue) → Type 0
  A xs q = AsksParts c known xs q

  -- ---- plain types

  number_asks : (from_size to_size : ℕ) (f : ℕ → ℕ) (s : Source) (d : Target) → A [] (move_number c.transfer from_size to_size f s d)
  number_asks from_size to_size f s d = parts_number c known from_size s (λ n e. parts_write c known to_size d (f n))

  handle_asks : (f : Import) (from to : ℕ) (s : Source) (d : Target) → ((d : CoreDef) → is_import_of d f ≡ false) → is_transcode f ≡ false → A [] (move_handle c.transfer f from to s d)
  handle_asks f from to s d apart other = parts_number c known 4 s (λ n e. parts_other c known f _ (val.I32 ∷ []) apart other (λ rs. parts_write c known 4 d (first_bits rs)))

  char_asks : (s : Source) (d : Target) → A [] (move_char c.transfer s d)
  char_asks s d = parts_number c known 4 s (λ n e. parts_unless c known InvalidChar (is_scalar_value n) (λ yes. parts_write c known 4 d n))

  plain_asks : (t u : InterfaceType) (s : Source) (d : Target) → A (parts_of_plain c t u s) (move_plain c.transfer t u s d)
  plain_asks ty.Char ty.Char s d = char_asks s d
  plain_asks ty.String ty.String s d = parts_string c known s d
  plain_asks (ty.Own i) (ty.Own j) s d = handle_asks import.ResourceTransferOwn i.number j.number s d (λ d. refl) refl
  plain_asks (ty.Borrow i) (ty.Borrow j) s d = handle_asks import.ResourceTransferBorrow i.number j.number s d (λ d. refl) refl
  plain_asks (ty.ErrorContext i) (ty.ErrorContext j) s d = handle_asks import.ErrorContextTransfer i.number j.number s d (λ d. refl) refl
  plain_asks t u s d = number_asks (plain_size t) (plain_size u) (canonical_number t) s d

  -- ---- nodes

  node_asks : (t u : Shape) (s : Source) (d : Target) {xs : List RequestPart} (q : Action (List CoreValue)) → A xs q → A xs (aligned_node c.transfer t u s d q)
  node_asks t u s d {xs} q h = source_side c.transfer.debug s _ (target_side c.transfer.debug d)
    where
      target_side : (b : Bool) (d2 : Target) → A xs (aligned_target b c.transfer.to u d2 q)
      target_side true (Into a) = parts_unless c known _ _ (λ yes. h)
      target_side true (Slots ts) = h
      target_side false d2 = h

      source_side : (b : Bool) (s2 : Source) (q2 : Action (List CoreValue)) → A xs q2 → A xs (aligned_source b c.transfer.from t s2 q2)
      source_side true (AtAddress a) q2 k = parts_unless c known _ _ (λ yes. k)
      source_side true (Values vs) q2 k = k
      source_side false s2 q2 k = k

  list_asks : (ms ns : Members) (element : Source → Target → Action (List CoreValue)) (xs : Source → List RequestPart) (s : Source) (d : Target) → ((s2 : Source) (d2 : Target) → A (xs s2) (element s2 d2)) → A (parts_of_list c ms ns xs s) (move_list c.transfer ms ns element s d)
  list_asks ms ns element xs s d h =
      let x = entry_extent c.transfer.from ms in
      let y = entry_extent c.transfer.to ns in
      parts_pair c known s _ _ (λ q. parts_unless c known ListOutOfBounds (nat_lt (q.count * x.size) (2 ^ 32)) (λ a. parts_unless c known ListOutOfBounds (nat_lt (q.count * y.size) (2 ^ 32)) (λ b.
      parts_check c known c.transfer.from ListOutOfBounds q.pointer (q.count * x.size) x.align (parts_reallocate c known ListOutOfBounds y.align (q.count * y.size) (λ p.
      parts_first c known (each q.count (λ i. element (AtAddress (q.pointer + i * x.size)) (Into (p + i * y.size)))) _
      (parts_each c known 0 q.count _ (λ i. xs (AtAddress (q.pointer + i * x.size))) (λ i. h (AtAddress (q.pointer + i * x.size)) (Into (p + i * y.size)))) (λ vs. parts_write_pair c known d p q.count))))))

  fixed_asks : (n : ℕ) (ms ns : Members) (element : Source → Target → Action (List CoreValue)) (xs : Source → List RequestPart) (s : Source) (d : Target) → ((s2 : Source) (d2 : Target) → A (xs s2) (element s2 d2)) → A (parts_of_fixed c n ms ns xs s) (move_fixed c.transfer n ms ns element s d)
  fixed_asks n ms ns element xs s d h = parts_each c known 0 n _ (λ i. xs (nth_part (element_flats c.transfer.from ms) (entry_extent c.transfer.from ms).size i s)) (λ i. h _ _)

  -- a case with a payload on both sides, or on none
  case_asks : (ms ns : Members) (s : Source) (d : Target) (n : ℕ) (p : Option Shape) (u : Shape) (go : Shape → Source → Target → Action (List CoreValue)) (xs : Shape → Source → List RequestPart) → ((t : Shape) (s2 : Source) (d2 : Target) → A (xs t s2) (go t s2 d2))
      → A (parts_of_some p (λ t. xs t (payload_part c.transfer.from t (payload_place (side_abi c.transfer.from) ms) s))) (write_case c.transfer ms ns s d n p (Some u) go)
  case_asks ms ns s d n (Some p) u go xs h = parts_bind c known (write_number c.transfer.to (case_bytes ns) d n) _ (parts_write c known (case_bytes ns) d n)
      (λ tag. parts_first c known (go p (payload_part c.transfer.from p (payload_place (side_abi c.transfer.from) ms) s) (payload_spot c.transfer.to u (payload_place (side_abi c.transfer.to) ns) d)) _ (h p _ _) (λ vs. parts_give c known (padded d (tag ++ vs))))
  case_asks ms ns s d n None u go xs h = parts_stop c known []

  bare_asks : (ms ns : Members) (s : Source) (d : Target) (n : ℕ) (p : Option Shape) (go : Shape → Source → Target → Action (List CoreValue)) → A [] (write_case c.transfer ms ns s d n p None go)
  bare_asks ms ns s d n None go = parts_first c known (write_number c.transfer.to (case_bytes ns) d n) _ (parts_write c known (case_bytes ns) d n) (λ tag. parts_give c known (padded d tag))
  bare_asks ms ns s d n (Some p) go = parts_stop c known []

  -- ---- kinds of types

  enum_asks : (ms ns : Members) (s : Source) (d : Target) → A [] (move_enum c.transfer ms ns s d)
  enum_asks ms ns s d = parts_number c known (case_bytes ms) s (λ n e. parts_unless c known InvalidDiscriminant (nat_lt n (count_of_members ms)) (λ yes. parts_write c known (case_bytes ns) d n))

  -- the case that is read is the one at the source
  case_read : (ms : Members) (s : Source) (n : ℕ) → number_of_source c known (case_bytes ms) s ≡ Some n → case_of_source c ms s ≡ case_type ms n
  case_read ms (Values []) n e = absurd (none_some None n refl e)
  case_read ms (Values (v ∷ vs)) n e = ap (case_type ms) (same_some _ (number_as flat.I32 v) n (sum_number ms v vs c) e)
  case_read ms (AtAddress a) n e = ap (λ o. and_then o (λ n. case_type ms n)) e

  sum_asks : (ms : Members) (m : MovingMembers) (xs : CaseType → Source → List RequestPart) (s : Source) (d : Target) → ((k : CaseType) → A (xs k s) (m.case ms k s d)) → A (parts_of_some (case_of_source c ms s) (λ x. xs x s)) (move_sum c.transfer ms m s d)
  sum_asks ms m xs s d h = parts_number c known (case_bytes ms) s (λ n e. subst (λ o. A (parts_of_some o (λ x. xs x s)) (elim (case_type ms n) [ None ↦ trap InvalidDiscriminant | Some k ↦ m.case ms k s d ])) (sym (case_read ms s n e)) (by_case (case_type ms n)))
    where
      by_case : (o : Option CaseType) → A (parts_of_some o (λ x. xs x s)) (elim o [ None ↦ trap InvalidDiscriminant | Some k ↦ m.case ms k s d ])
      by_case None = parts_unless c known InvalidDiscriminant false {q = Unreachable} (λ yes. parts_stop c known [])
      by_case (Some k) = h k

  -- the moves of members, of source members in their places
  record AreAsked (m : MovingMembers) (fields_of : Members → Source → List RequestPart) (case_of : Members → CaseType → Source → List RequestPart) : Type 0 where
    fields : (ms : Members) (s : Source) (d : Target) → A (fields_of ms s) (m.fields ms s d)
    case : (ms : Members) (k : CaseType) (s : Source) (d : Target) → A (case_of ms k s) (m.case ms k s d)

  kinds_ask : (k : Kind) (ms : Members) (l : Kind) (ns : Members) (m : MovingMembers) (f : Members → Source → List RequestPart) (g : Members → CaseType → Source → List RequestPart) (s : Source) (d : Target) → AreAsked m f g
      → A (parts_of_node c ms l ns (λ s2. f ms s2) (λ x s2. g ms x s2) s) (move_node c.transfer k ms l ns m s d)
  kinds_ask k_record ms k_record ns m f g s d h = h.fields ms s d
  kinds_ask k_tuple ms k_tuple ns m f g s d h = h.fields ms s d
  kinds_ask k_variant ms k_variant ns m f g s d h = sum_asks ms m (λ x s2. g ms x s2) s d (λ k. h.case ms k s d)
  kinds_ask k_option ms k_option ns m f g s d h = sum_asks ms m (λ x s2. g ms x s2) s d (λ k. h.case ms k s d)
  kinds_ask k_result ms k_result ns m f g s d h = sum_asks ms m (λ x s2. g ms x s2) s d (λ k. h.case ms k s d)
  kinds_ask k_enum ms k_enum ns m f g s d h = enum_asks ms ns s d
  kinds_ask k_flags ms k_flags ns m f g s d h = number_asks (flags_bytes ms) (flags_bytes ns) (bits_named (names_of ms) (names_of ns)) s d
  kinds_ask k_list ms k_list ns m f g s d h = list_asks ms ns (m.fields ms) (f ms) s d (λ s2 d2. h.fields ms s2 d2)
  kinds_ask k_map ms k_map ns m f g s d h = list_asks ms ns (m.fields ms) (f ms) s d (λ s2 d2. h.fields ms s2 d2)
  kinds_ask (k_fixed n) ms (k_fixed n') ns m f g s d h = fixed_asks n' ms ns (m.fields ms) (f ms) s d (λ s2 d2. h.fields ms s2 d2)
  kinds_ask (k_future t i) ms (k_future u j) ns m f g s d h = handle_asks import.FutureTransfer t u s d (λ d. refl) refl
  kinds_ask (k_stream t i) ms (k_stream u j) ns m f g s d h = handle_asks import.StreamTransfer t u s d (λ d. refl) refl
  kinds_ask k ms l ns m f g s d h = parts_stop c known _

  -- ---- all types

  to_plain : (t : Shape) (u : InterfaceType) (s : Source) (d : Target) → A (parts_of c t (s_plain u) s) (move c.transfer t (s_plain u) s d)
  unfolding move parts_of
  to_plain t u s d = node_asks t (s_plain u) s d _ (parts_visit c known 1 (by_source t))
    where
      by_source : (t : Shape) → A (parts_to_plain c t u s) (move_to_plain c.transfer t u s d)
      by_source (s_plain p) = plain_asks p u s d
      by_source (s_node k ms) = parts_stop c known []

  to_node : (t : Shape) (l : Kind) (ns : Members) (s : Source) (d : Target) → ((ms : Members) (s2 : Source) (d2 : Target) → A (parts_of_fields c ms ns s2) (move_fields c.transfer ms ns 0 s2 d2))
      → ((ms : Members) (k : CaseType) (s2 : Source) (d2 : Target) → A (parts_of_case c ms k ns s2) (move_case c.transfer ms ns k ns 0 s2 d2)) → A (parts_of c t (s_node l ns) s) (move c.transfer t (s_node l ns) s d)
  unfolding move parts_of
  to_node t l ns s d fields case = node_asks t (s_node l ns) s d _ (by_source t)
    where
      m : MovingMembers
      m = record { fields = λ ms s2 d2. move_fields c.transfer ms ns 0 s2 d2; case = λ ms k s2 d2. move_case c.transfer ms ns k ns 0 s2 d2 }

      by_source : (t : Shape) → A (parts_of_node c (members_of t) l ns (λ s2. parts_of_fields c (members_of t) ns s2) (λ x s2. parts_of_case c (members_of t) x ns s2) s) (move_to_node c.transfer t l ns m s d)
      by_source (s_plain p) = parts_stop c known _
      by_source (s_node k ms) = parts_visit c known (weight_of k ms) (kinds_ask k ms l ns m (λ ms s2. parts_of_fields c ms ns s2) (λ ms x s2. parts_of_case c ms x ns s2) s d (record { fields = fields; case = case }))

  no_fields : (ms : Members) (end : ℕ) (s : Source) (d : Target) → A (parts_of_fields c ms no_members s) (move_fields c.transfer ms no_members end s d)
  unfolding move_fields parts_of_fields
  no_fields ms end s d = parts_give c known []

  bare_fields : (ms ns : Members) (x : List ℕ) (end : ℕ) (s : Source) (d : Target) → A (parts_of_fields c ms ns s) (move_fields c.transfer ms ns end s d) → A (parts_of_fields c ms (bare x ns) s) (move_fields c.transfer ms (bare x ns) end s d)
  unfolding move_fields parts_of_fields
  bare_fields ms ns x end s d h = h

  typed_fields : (ms ns : Members) (x : List ℕ) (u : Shape) (end : ℕ) (s : Source) (d : Target) → ((t : Shape) (s2 : Source) (d2 : Target) → A (parts_of c t u s2) (move c.transfer t u s2 d2)) → ((d2 : Target) → A (parts_of_fields c ms ns s) (move_fields c.transfer ms ns (next_of (width_of_side c.transfer.to) u end) s d2))
      → A (parts_of_fields c ms (typed x u ns) s) (move_fields c.transfer ms (typed x u ns) end s d)
  unfolding move_fields parts_of_fields
  typed_fields ms ns x u end s d one others = by_field (field_of x ms)
    where
      step : Field → Action (List CoreValue)
      step f = move c.transfer f.shape u (part c.transfer.from f s) (spot c.transfer.to u end d) >>= (λ vs. move_fields c.transfer ms ns (next_of (width_of_side c.transfer.to) u end) s (past c.transfer.to u d) >>= (λ us. Give (vs ++ us)))

      by_field : (o : Option Field) → A (parts_of_some o (λ f. parts_of c f.shape u (part c.transfer.from f s)) ++ parts_of_fields c ms ns s) (with_field o step)
      by_field None = parts_stop c known _
      by_field (Some f) = parts_bind c known (move c.transfer f.shape u (part c.transfer.from f s) (spot c.transfer.to u end d)) _ (one f.shape _ _) (λ vs. parts_first c known (move_fields c.transfer ms ns (next_of (width_of_side c.transfer.to) u end) s (past c.transfer.to u d)) _ (others _) (λ us. parts_give c known (vs ++ us)))

  no_case : (ms all : Members) (k : CaseType) (n : ℕ) (s : Source) (d : Target) → A (parts_of_case c ms k no_members s) (move_case c.transfer ms all k no_members n s d)
  unfolding move_case parts_of_case
  no_case ms all k n s d = parts_stop c known _

  bare_case : (ms all ns : Members) (x : List ℕ) (k : CaseType) (n : ℕ) (s : Source) (d : Target) → A (parts_of_case c ms k ns s) (move_case c.transfer ms all k ns (suc n) s d) → A (parts_of_case c ms k (bare x ns) s) (move_case c.transfer ms all k (bare x ns) n s d)
  unfolding move_case parts_of_case
  bare_case ms all ns x k n s d h = parts_either c known (bytes_eq x k.name) (bare_asks ms all s d n k.payload _) h

  typed_case : (ms all ns : Members) (x : List ℕ) (u : Shape) (k : CaseType) (n : ℕ) (s : Source) (d : Target) → ((t : Shape) (s2 : Source) (d2 : Target) → A (parts_of c t u s2) (move c.transfer t u s2 d2))
      → A (parts_of_case c ms k ns s) (move_case c.transfer ms all k ns (suc n) s d) → A (parts_of_case c ms k (typed x u ns) s) (move_case c.transfer ms all k (typed x u ns) n s d)
  unfolding move_case parts_of_case
  typed_case ms all ns x u k n s d one h = parts_either c known (bytes_eq x k.name) (case_asks ms all s d n k.payload u _ (λ t s2. parts_of c t u s2) one) h

  mutual
    pub move_asks : (u t : Shape) (s : Source) (d : Target) → A (parts_of c t u s) (move c.transfer t u s d)
    move_asks (s_plain q) t s d = to_plain t q s d
    move_asks (s_node l ns) t s d = to_node t l ns s d (λ ms s2 d2. fields_ask ns ms 0 s2 d2) (λ ms k s2 d2. cases_ask ns ms ns k 0 s2 d2)

    pub fields_ask : (ns ms : Members) (end : ℕ) (s : Source) (d : Target) → A (parts_of_fields c ms ns s) (move_fields c.transfer ms ns end s d)
    fields_ask no_members ms end s d = no_fields ms end s d
    fields_ask (bare x ns) ms end s d = bare_fields ms ns x end s d (fields_ask ns ms end s d)
    fields_ask (typed x u ns) ms end s d = typed_fields ms ns x u end s d (λ t s2 d2. move_asks u t s2 d2) (λ d2. fields_ask ns ms (next_of (width_of_side c.transfer.to) u end) s d2)

    cases_ask : (ns ms all : Members) (k : CaseType) (n : ℕ) (s : Source) (d : Target) → A (parts_of_case c ms k ns s) (move_case c.transfer ms all k ns n s d)
    cases_ask no_members ms all k n s d = no_case ms all k n s d
    cases_ask (bare x ns) ms all k n s d = bare_case ms all ns x k n s d (cases_ask ns ms all k (suc n) s d)
    cases_ask (typed x u ns) ms all k n s d = typed_case ms all ns x u k n s d (λ t s2 d2. move_asks u t s2 d2) (cases_ask ns ms all k (suc n) s d)
