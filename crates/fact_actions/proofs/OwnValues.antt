-- Moving a value of any type writes into its place, or into regions that were given for it.
use Rattle.std.proofs.Common.{◌≡◌, ℕ, zero, suc, ◌+◌, ◌*◌, ◌<◌, ◌≤◌, ◌^◌, Bool, true, false, List, [], ◌++◌, Option, Some, None, refl, sym, ap, subst, inl, arith}
use Rattle.std.specs.Prelude.{nat_lt, if◌then◌else◌}
use Rattle.std.specs.Str.{bytes_eq}
use Rattle.fact_types.specs.declared.interface.InterfaceType.{InterfaceType}
use Rattle.fact_types.specs.declared.interface.InterfaceType.TheVariants as ty
use Rattle.fact_types.specs.declared.outside.CoreDef.{CoreDef}
use Rattle.fact_types.specs.declared.outside.Trap.TheVariants.{ListOutOfBounds, InvalidChar, InvalidDiscriminant}
use Rattle.fact_types.specs.Shapes.{Kind, k_record, k_variant, k_list, k_tuple, k_map, k_flags, k_enum, k_option, k_result, k_fixed, k_future, k_stream, Shape, s_plain, s_node, Members, no_members, bare, typed, place_of, next_of, ends_of}
use Rattle.fact_types.specs.Fields.{Field, field_of}
use Rattle.fact_machine.specs.declared.types.CoreValue.{CoreValue}
use Rattle.fact_machine.specs.World.{World}
use Rattle.fact_types.specs.declared.import.Import.{Import}
use Rattle.fact_types.specs.declared.import.Import.TheVariants as import
use Rattle.fact_values.specs.Limits.{CaseType, case_type}
use Rattle.fact_values.specs.Places.{case_bytes, payload_place, flags_bytes}
use Rattle.fact_actions.specs.Actions.{Action, Unreachable, trap, each_from}
use Rattle.fact_actions.specs.Running.{ImportPlaces, Call}
use Rattle.fact_actions.specs.Sides.{LiftLowerOptions, Transfer, Source, Values, AtAddress, Target, Slots, Into, width_of_side, bytes_of_addresses, nth_spot, write_number, write_pair, side_abi}
use Rattle.fact_actions.specs.Moves.{payload_part, payload_spot, spot, past, part, read_case, write_case, MovingMembers, move, move_fields, move_case, move_node, move_to_node, move_plain, move_to_plain, plain_size, canonical_number, move_number, move_char, move_handle, move_enum, move_list, move_fixed, move_sum, element_flats, entry_extent, aligned_node, aligned_source, aligned_target, weight_of, with_field}
use Rattle.fact_types.specs.Adapters.{same_def}
use Rattle.fact_actions.specs.Calls.{is_import_of, is_call_of}
use Rattle.fact_actions.specs.Regions.{Region, Landing, Position, moved_on}
use Rattle.fact_actions.specs.Confined.{LiesInSound, node_size, HasRoomBy, HasRoom, HaveRoom}
use Rattle.fact_actions.proofs.Owned.{Writes, writes_so, writes_bind, writes_give, writes_stop, writes_visit, own_part}
use Rattle.fact_actions.proofs.OwnParts as parts
use Rattle.fact_actions.proofs.OwnParts.{Kept, kept_more, kept_on, kept_given}
use Rattle.fact_actions.proofs.OwnMoves as own
use Rattle.fact_actions.proofs.Rooms.{plain_room, pair_room, four_room, enum_room, flags_room, sum_bytes, sum_is, tag_room, greatest_of, payload_room, greatest_head, greatest_bare, member_room, record_room, times_in, entry_aligned}

none_some : (u : Shape) → None ≡ Some u → ⊥
none_some u e = subst IsNone e tt
  where
    IsNone : Option Shape → Type 0
    IsNone None = Unit {0}
    IsNone (Some x) = ⊥

module _ (p : ImportPlaces) (next : Call → Position → Position) (tr : Transfer) (area : List Region) (callee : CoreDef)
    (plain_next : (c : Call) (x : Position) → is_call_of callee c ≡ false → next c x ≡ moved_on c x)
    (apart : (f : CoreDef) → tr.to.realloc ≡ Some f → same_def callee f ≡ false) where
  abbrev l : Landing
  l = record { from = tr.from; to = tr.to; area = area }

  abbrev W : {A : Type 0} → List Region → World → Action A → (A → List Region → World → Type 0) → Type 0
  W live w q Q = Writes p next l live w q Q

  abbrev rm : World → ℕ
  rm w = parts.rm p next l callee plain_next w

  abbrev Owned : List Region → World → Target → ℕ → Type 0
  Owned live w (Slots ts) n = Unit {0}
  Owned live w (Into a) n = LiesInSound (rm w) (live ++ area) a n

  abbrev K : ℕ → List Region → ℕ → List Region → Type 0
  K r live r' live' = Kept p next l callee plain_next r live r' live'

  abbrev Fine : {A : Type 0} → List Region → World → A → List Region → World → Type 0
  Fine live w a live' w' = K (rm w) live (rm w') live'

  -- an action of a value, in place of so many bytes
  abbrev Moves : List Region → World → Action (List CoreValue) → Type 0
  Moves live w q = W live w q (Fine live w)

  on : {r r' r'' : ℕ} {live live' live'' : List Region} → K r live r' live' → K r' live' r'' live'' → K r live r'' live''
  on h g = kept_on p next l callee plain_next h g

  stays : (live : List Region) (w u : World) → rm w ≤ rm u → K (rm w) live (rm u) live
  stays live w u g = kept_more p next l callee plain_next (rm w) (rm u) live g

  stop_w : (live : List Region) (w : World) → Moves live w Unreachable
  stop_w live w = writes_stop p next l live w _

  less : (live : List Region) (w : World) (d : Target) (m n : ℕ) → m ≤ n → Owned live w d n → Owned live w d m
  less live w (Slots ts) m n h o = tt
  less live w (Into a) m n h o = own_part (rm w) (live ++ area) a n a m (omega arith) (omega arith) o

  later_owned : (live : List Region) (w : World) (live' : List Region) (w' : World) (d : Target) (n : ℕ) → 0 < n → K (rm w) live (rm w') live' → Owned live w d n → Owned live' w' d n
  later_owned live w live' w' (Slots ts) n z k o = tt
  later_owned live w live' w' (Into a) n z k o = k.keeps a n z o

  -- ---- plain types

  written_w : (live : List Region) (w : World) (size : ℕ) (d : Target) (n : ℕ) → Owned live w d size → Moves live w (write_number tr.to size d n)
  written_w live w size (Slots ts) n o = own.number_w p next tr area callee plain_next apart live w size (Slots ts) n tt
  written_w live w size (Into a) n o = own.number_w p next tr area callee plain_next apart live w size (Into a) n o

  number_w : (live : List Region) (w : World) (size size' : ℕ) (f : ℕ → ℕ) (s : Source) (d : Target) → Owned live w d size' → Moves live w (move_number tr size size' f s d)
  number_w live w size size' f s d o = parts.read_w p next l callee plain_next live w tr.debug tr.from size s _ _ (λ n. written_w live w size' d (f n) o)

  handle_w : (live : List Region) (w : World) (i : Import) (t u : ℕ) (s : Source) (d : Target) → ((c : CoreDef) → is_import_of c i ≡ false) → Owned live w d 4 → Moves live w (move_handle tr i t u s d)
  handle_w live w i t u s d no_core o =
      parts.read_w p next l callee plain_next live w tr.debug tr.from 4 s _ _ (λ n.
      parts.other p next l callee plain_next live w i _ _ _ _ no_core (λ rs v g.
      writes_so p next l (written_w live v 4 d _ (later_owned live w live v d 4 (omega arith) (stays live w v g) o)) (λ vs live' w' k. on (stays live w v g) k)))

  char_w : (live : List Region) (w : World) (s : Source) (d : Target) → Owned live w d 4 → Moves live w (move_char tr s d)
  char_w live w s d o = parts.read_w p next l callee plain_next live w tr.debug tr.from 4 s _ _ (λ n. parts.unless_w p next l callee plain_next live w InvalidChar _ _ _ (λ e. written_w live w 4 d n o))

  string_w : (live : List Region) (w : World) (s : Source) (d : Target) → Owned live w d (2 * bytes_of_addresses tr.to) → Moves live w (move_plain tr ty.String ty.String s d)
  string_w live w s (Slots ts) o = own.string_w p next tr area callee plain_next apart live w s (Slots ts) tt
  string_w live w s (Into a) o = own.string_w p next tr area callee plain_next apart live w s (Into a) o

  plain_w : (live : List Region) (w : World) (t u : InterfaceType) (s : Source) (d : Target) → Owned live w d (node_size tr.to (s_plain u)) → Moves live w (move_plain tr t u s d)
  plain_w live w ty.Char ty.Char s d o = char_w live w s d (less live w d 4 _ (four_room tr.to) o)
  plain_w live w ty.String ty.String s d o = string_w live w s d (less live w d (2 * bytes_of_addresses tr.to) _ (pair_room tr.to) o)
  plain_w live w (ty.Own i) (ty.Own j) s d o = handle_w live w import.ResourceTransferOwn i.number j.number s d (λ c. refl) (less live w d 4 _ (four_room tr.to) o)
  plain_w live w (ty.Borrow i) (ty.Borrow j) s d o = handle_w live w import.ResourceTransferBorrow i.number j.number s d (λ c. refl) (less live w d 4 _ (four_room tr.to) o)
  plain_w live w (ty.ErrorContext i) (ty.ErrorContext j) s d o = handle_w live w import.ErrorContextTransfer i.number j.number s d (λ c. refl) (less live w d 4 _ (four_room tr.to) o)
  plain_w live w t u s d o = number_w live w (plain_size t) (plain_size u) (canonical_number t) s d (less live w d (plain_size u) (node_size tr.to (s_plain u)) (plain_room tr.to u) o)

  to_plain_w : (live : List Region) (w : World) (t : Shape) (u : InterfaceType) (s : Source) (d : Target) → Owned live w d (node_size tr.to (s_plain u)) → Moves live w (move_to_plain tr t u s d)
  to_plain_w live w (s_plain t) u s d o = plain_w live w t u s d o
  to_plain_w live w (s_node k ms) u s d o = stop_w live w

  -- ---- places, in debug checks

  source_w : (live : List Region) (w : World) (debug : Bool) (o : LiftLowerOptions) (t : Shape) (s : Source) (q : Action (List CoreValue)) → Moves live w q → Moves live w (aligned_source debug o t s q)
  source_w live w true o t (Values vs) q h = h
  source_w live w true o t (AtAddress a) q h = parts.unless_w p next l callee plain_next live w _ _ q _ (λ e. h)
  source_w live w false o t s q h = h

  target_w : (live : List Region) (w : World) (debug : Bool) (o : LiftLowerOptions) (t : Shape) (d : Target) (q : Action (List CoreValue)) → Moves live w q → Moves live w (aligned_target debug o t d q)
  target_w live w true o t (Slots ts) q h = h
  target_w live w true o t (Into a) q h = parts.unless_w p next l callee plain_next live w _ _ q _ (λ e. h)
  target_w live w false o t d q h = h

  placed_w : (live : List Region) (w : World) (t u : Shape) (s : Source) (d : Target) (q : Action (List CoreValue)) → Moves live w q → Moves live w (aligned_node tr t u s d q)
  placed_w live w t u s d q h = source_w live w tr.debug tr.from t s _ (target_w live w tr.debug tr.to u d q h)

  -- ---- sums

  enum_w : (live : List Region) (w : World) (ms ns : Members) (s : Source) (d : Target) → Owned live w d (case_bytes ns) → Moves live w (move_enum tr ms ns s d)
  enum_w live w ms ns s d o = parts.read_w p next l callee plain_next live w tr.debug tr.from (case_bytes ms) s _ _ (λ n. parts.unless_w p next l callee plain_next live w InvalidDiscriminant _ _ _ (λ e. written_w live w (case_bytes ns) d n o))

  case_read_w : (live : List Region) (w : World) (ms : Members) (s : Source) (k : CaseType → Action (List CoreValue)) → ((c : CaseType) → Moves live w (k c)) → Moves live w (read_case tr ms s k)
  case_read_w live w ms s k h = parts.read_w p next l callee plain_next live w tr.debug tr.from (case_bytes ms) s _ _ (λ n. found (case_type ms n))
    where
      found : (x : Option CaseType) → Moves live w (elim x [ None ↦ trap InvalidDiscriminant | Some y ↦ k y ])
      found None = parts.trapped p next l callee plain_next live w InvalidDiscriminant _
      found (Some y) = h y

  payload_owned : (live : List Region) (w : World) (ns : Members) (q : Shape) (d : Target) → node_size tr.to q ≤ greatest_of tr.to ns → Owned live w d (sum_bytes tr.to ns) → Owned live w (payload_spot tr.to q (payload_place (side_abi tr.to) ns) d) (node_size tr.to q)
  payload_owned live w ns q (Slots ts) h o = tt
  payload_owned live w ns q (Into a) h o = own_part (rm w) (live ++ area) a (sum_bytes tr.to ns) (a + payload_place (side_abi tr.to) ns) (node_size tr.to q) (omega arith) (omega (arith, payload_room tr.to ns)) o

  case_written_w : (live : List Region) (w : World) (ms ns : Members) (s : Source) (d : Target) (n : ℕ) (c q : Option Shape) (m : Shape → Source → Target → Action (List CoreValue))
      → 0 < sum_bytes tr.to ns → Owned live w d (sum_bytes tr.to ns)
      → ((t : Shape) (u : Shape) → q ≡ Some u → node_size tr.to u ≤ greatest_of tr.to ns)
      → ((t u : Shape) (live' : List Region) (w' : World) (s' : Source) (d' : Target) → q ≡ Some u → Owned live' w' d' (node_size tr.to u) → Moves live' w' (m t s' d'))
      → Moves live w (write_case tr ms ns s d n c q m)
  case_written_w live w ms ns s d n (Some t) (Some u) m z o fits h =
      writes_bind p next l (write_number tr.to (case_bytes ns) d n) _ (λ vs live' w'. Fine live w vs live' w') _ (written_w live w (case_bytes ns) d n (less live w d (case_bytes ns) _ (tag_room tr.to ns) o)) (λ tag live' w' k.
      writes_bind p next l (m t (payload_part tr.from t (payload_place (side_abi tr.from) ms) s) (payload_spot tr.to u (payload_place (side_abi tr.to) ns) d)) _ (λ vs live'' w''. Fine live' w' vs live'' w'') _
      (h t u live' w' _ _ refl (payload_owned live' w' ns u d (fits t u refl) (later_owned live w live' w' d (sum_bytes tr.to ns) z k o))) (λ vs live'' w'' k'.
      writes_give p next l live'' w'' _ _ (on k k')))
  case_written_w live w ms ns s d n None None m z o fits h =
      writes_bind p next l (write_number tr.to (case_bytes ns) d n) _ (λ vs live' w'. Fine live w vs live' w') _ (written_w live w (case_bytes ns) d n (less live w d (case_bytes ns) _ (tag_room tr.to ns) o)) (λ tag live' w' k.
      writes_give p next l live' w' _ _ k)
  case_written_w live w ms ns s d n (Some t) None m z o fits h = stop_w live w
  case_written_w live w ms ns s d n None (Some u) m z o fits h = stop_w live w

  -- ---- lists

  each_w : (live : List Region) (w : World) (i n : ℕ) (f : ℕ → Action (List CoreValue)) → ((j : ℕ) (live' : List Region) (w' : World) → K (rm w) live (rm w') live' → j < i + n → Moves live' w' (f j)) → Moves live w (each_from i n f)
  each_w live w i zero f h = writes_give p next l live w [] _ (stays live w w (omega arith))
  each_w live w i (suc n) f h =
      writes_bind p next l (f i) _ (λ vs live' w'. Fine live w vs live' w') _ (h i live w (stays live w w (omega arith)) (omega arith)) (λ xs live' w' k.
      writes_bind p next l (each_from (suc i) n f) _ (λ vs live'' w''. Fine live' w' vs live'' w'') _ (each_w live' w' (suc i) n f (λ j live'' w'' k' b. h j live'' w'' (on k k') (omega arith))) (λ ys live'' w'' k'.
      writes_give p next l live'' w'' _ _ (on k k')))

  -- what moves the members of a value, in place of so many bytes
  abbrev FieldsOwn : Members → (Source → Target → Action (List CoreValue)) → Type 0
  FieldsOwn ns f =
      (live : List Region) (w : World) (s : Source) (d : Target) (n : ℕ) → ends_of (width_of_side tr.to) ns 0 ≤ n → 0 < n → Owned live w d n → Moves live w (f s d)

  list_w : (live : List Region) (w : World) (ms ns : Members) (f : Source → Target → Action (List CoreValue)) (s : Source) (d : Target)
      → 1 ≤ (entry_extent tr.to ns).size → FieldsOwn ns f → Owned live w d (2 * bytes_of_addresses tr.to) → Moves live w (move_list tr ms ns f s d)
  list_w live w ms ns f s d some h o =
      let size = (entry_extent tr.to ns).size in
      let align = (entry_extent tr.to ns).align in
      parts.pair_w p next l callee plain_next live w tr.debug tr.from s _ _ (λ a n.
      parts.unless_w p next l callee plain_next live w ListOutOfBounds (nat_lt (n * (entry_extent tr.from ms).size) (2 ^ 32)) _ _ (λ e.
      parts.unless_w p next l callee plain_next live w ListOutOfBounds (nat_lt (n * size) (2 ^ 32)) _ _ (λ e'.
      parts.region_w p next l callee plain_next live w tr.from ListOutOfBounds a _ _ _ _ (
      parts.reallocate_w p next l callee plain_next live w tr.concurrency ListOutOfBounds 0 0 align (n * size) _ _ apart (entry_aligned tr.to ns, inl (refl, refl)) (λ q u more sound.
      let given : K (rm w) live (rm u) _ = on (stays live w u more) (kept_given p next l callee plain_next (rm u) live (record { at = 0; size = 0; align = align }) (record { at = q; size = n * size; align = align }) refl) in
      writes_bind p next l (each_from 0 n (λ i. f (AtAddress (a + i * (entry_extent tr.from ms).size)) (Into (q + i * size)))) _ (λ vs live' w'. Fine _ u vs live' w') _
      (each_w _ u 0 n _ (λ j live' w' k b.
      let room = times_in j n size (omega arith) in
      h live' w' _ _ size (record_room tr.to ns) (omega arith)
      (own_part (rm w') (live' ++ area) q (n * size) (q + j * size) size (omega arith) (omega arith) (k.keeps q (n * size) (omega arith) (inl (sound, (omega arith, omega arith)))))))
      (λ vs live' w' k.
      writes_so p next l (pair_written live' w' d q n (later_owned live w live' w' d (2 * bytes_of_addresses tr.to) (omega (arith, own.some_bytes p next tr area callee plain_next apart tr.to)) (on given k) o)) (λ us live'' w'' k'. on given (on k k'))))))))
    where
      pair_written : (live : List Region) (w : World) (d : Target) (a n : ℕ) → Owned live w d (2 * bytes_of_addresses tr.to) → Moves live w (write_pair tr.to d a n)
      pair_written live w (Slots ts) a n o' = own.write_pair_w p next tr area callee plain_next apart live w (Slots ts) a n tt
      pair_written live w (Into b) a n o' = own.write_pair_w p next tr area callee plain_next apart live w (Into b) a n o'

  fixed_w : (live : List Region) (w : World) (n : ℕ) (ms ns : Members) (f : Source → Target → Action (List CoreValue)) (s : Source) (d : Target) (size : ℕ)
      → 1 ≤ (entry_extent tr.to ns).size → n * (entry_extent tr.to ns).size ≤ size → 1 ≤ size → FieldsOwn ns f → Owned live w d size → Moves live w (move_fixed tr n ms ns f s d)
  fixed_w live w n ms ns f s d size one fits some h o =
      each_w live w 0 n _ (λ j live' w' k b.
      h live' w' _ _ (entry_extent tr.to ns).size (record_room tr.to ns) (omega arith)
      (part_owned live' w' d j (omega arith) (later_owned live w live' w' d size (omega arith) k o)))
    where
      part_owned : (live : List Region) (w : World) (d : Target) (j : ℕ) → j < n → Owned live w d size → Owned live w (nth_spot (element_flats tr.to ns) (entry_extent tr.to ns).size j d) (entry_extent tr.to ns).size
      part_owned live w (Slots ts) j b o' = tt
      part_owned live w (Into a) j b o' =
          let room = times_in j n (entry_extent tr.to ns).size b in
          own_part (rm w) (live ++ area) a size (a + j * (entry_extent tr.to ns).size) (entry_extent tr.to ns).size (omega arith) (omega arith) o'

  -- ---- all types

  record AreOwn (ns : Members) (m : MovingMembers) : Type 0 where
    fields : (ms : Members) → FieldsOwn ns (m.fields ms)
    case : (ms : Members) (c : CaseType) (live : List Region) (w : World) (s : Source) (d : Target) → 0 < sum_bytes tr.to ns → Owned live w d (sum_bytes tr.to ns) → Moves live w (m.case ms c s d)

  sum_w : (live : List Region) (w : World) (ms ns : Members) (m : MovingMembers) (s : Source) (d : Target) → AreOwn ns m → 0 < sum_bytes tr.to ns → Owned live w d (sum_bytes tr.to ns) → Moves live w (move_sum tr ms m s d)
  sum_w live w ms ns m s d h z o = case_read_w live w ms s _ (λ c. h.case ms c live w s d z o)

  sized : (live : List Region) (w : World) (d : Target) (m n : ℕ) → n ≡ m → Owned live w d m → Owned live w d n
  sized live w d m n e o = less live w d n m (omega arith) o

  node_w : (live : List Region) (w : World) (k : Kind) (ms : Members) (k' : Kind) (ns : Members) (m : MovingMembers) (s : Source) (d : Target)
      → 1 ≤ node_size tr.to (s_node k' ns) → HasRoomBy tr.to k' ns → AreOwn ns m → Owned live w d (node_size tr.to (s_node k' ns)) → Moves live w (move_node tr k ms k' ns m s d)
  node_w live w k_record ms k_record ns m s d z r h o = h.fields ms live w s d _ (record_room tr.to ns) (omega arith) o
  node_w live w k_tuple ms k_tuple ns m s d z r h o = h.fields ms live w s d _ (record_room tr.to ns) (omega arith) o
  node_w live w k_variant ms k_variant ns m s d z r h o = sum_w live w ms ns m s d h (omega (arith, sum_is tr.to ns)) (sized live w d _ _ (sum_is tr.to ns) o)
  node_w live w k_option ms k_option ns m s d z r h o = sum_w live w ms ns m s d h (omega (arith, sum_is tr.to ns)) (sized live w d _ _ (sum_is tr.to ns) o)
  node_w live w k_result ms k_result ns m s d z r h o = sum_w live w ms ns m s d h (omega (arith, sum_is tr.to ns)) (sized live w d _ _ (sum_is tr.to ns) o)
  node_w live w k_enum ms k_enum ns m s d z r h o = enum_w live w ms ns s d (less live w d (case_bytes ns) _ (enum_room tr.to ns) o)
  node_w live w k_flags ms k_flags ns m s d z r h o = number_w live w _ _ _ s d (less live w d (flags_bytes ns) _ (flags_room tr.to ns) o)
  node_w live w k_list ms k_list ns m s d z r h o = list_w live w ms ns _ s d r (h.fields ms) (less live w d (2 * bytes_of_addresses tr.to) _ (pair_room tr.to) o)
  node_w live w k_map ms k_map ns m s d z r h o = list_w live w ms ns _ s d r (h.fields ms) (less live w d (2 * bytes_of_addresses tr.to) _ (pair_room tr.to) o)
  node_w live w (k_fixed n) ms (k_fixed n') ns m s d z r h o = fixed_w live w n' ms ns _ s d (node_size tr.to (s_node (k_fixed n') ns)) r.0 r.1 z (h.fields ms) o
  node_w live w (k_future t i) ms (k_future u j) ns m s d z r h o = handle_w live w import.FutureTransfer t u s d (λ c. refl) (less live w d 4 _ (four_room tr.to) o)
  node_w live w (k_stream t i) ms (k_stream u j) ns m s d z r h o = handle_w live w import.StreamTransfer t u s d (λ c. refl) (less live w d 4 _ (four_room tr.to) o)
  node_w live w k ms k' ns m s d z r h o = stop_w live w

  to_node_w : (live : List Region) (w : World) (t : Shape) (k : Kind) (ns : Members) (m : MovingMembers) (s : Source) (d : Target)
      → 1 ≤ node_size tr.to (s_node k ns) → HasRoomBy tr.to k ns → AreOwn ns m → Owned live w d (node_size tr.to (s_node k ns)) → Moves live w (move_to_node tr t k ns m s d)
  to_node_w live w (s_plain t) k ns m s d z r h o = stop_w live w
  to_node_w live w (s_node k' ms) k ns m s d z r h o = writes_visit p next l live w (weight_of k' ms) _ _ (node_w live w k' ms k ns m s d z r h o)

  field_w : (live : List Region) (w : World) (o : Option Field) (k : Field → Action (List CoreValue)) → ((f : Field) → Moves live w (k f)) → Moves live w (with_field o k)
  field_w live w None k h = stop_w live w
  field_w live w (Some f) k h = h f

  if_w : (live : List Region) (w : World) (b : Bool) (q r : Action (List CoreValue)) → Moves live w q → Moves live w r → Moves live w (if b then q else r)
  if_w live w true q r h g = h
  if_w live w false q r h g = g

  spot_owned : (live : List Region) (w : World) (x : List ℕ) (u : Shape) (ns : Members) (end n : ℕ) (d : Target) → ends_of (width_of_side tr.to) (typed x u ns) end ≤ n → Owned live w d n → Owned live w (spot tr.to u end d) (node_size tr.to u)
  spot_owned live w x u ns end n (Slots ts) h o = tt
  spot_owned live w x u ns end n (Into a) h o = own_part (rm w) (live ++ area) a n (a + place_of (width_of_side tr.to) u end) (node_size tr.to u) (omega arith) (omega (arith, member_room tr.to x u ns end)) o

  past_owned : (live : List Region) (w : World) (u : Shape) (n : ℕ) (d : Target) → Owned live w d n → Owned live w (past tr.to u d) n
  past_owned live w u n (Slots ts) o = tt
  past_owned live w u n (Into a) o = o

  same_payload : (u v : Shape) → Some u ≡ Some v → u ≡ v
  same_payload u v e = ap (λ o. elim o [ None ↦ u | Some x ↦ x ]) e

  mutual
    unfolding move

    pub move_w : (live : List Region) (w : World) (t u : Shape) (s : Source) (d : Target) → HasRoom tr.to u → Owned live w d (node_size tr.to u) → Moves live w (move tr t u s d)
    move_w live w t (s_plain u) s d r o = placed_w live w t (s_plain u) s d _ (writes_visit p next l live w 1 _ _ (to_plain_w live w t u s d o))
    move_w live w t (s_node k ns) s d r o =
        placed_w live w t (s_node k ns) s d _ (to_node_w live w t k ns _ s d r.0 r.1
        (record {
          fields = λ ms live' w' s' d' n e z o'. fields_w live' w' ms ns 0 s' d' n e z r.2 o';
          case = λ ms c live' w' s' d' z o'. case_w live' w' ms ns c ns 0 s' d' (omega arith) r.2 z o';
        }) o)

    pub fields_w : (live : List Region) (w : World) (ms ns : Members) (end : ℕ) (s : Source) (d : Target) (n : ℕ)
        → ends_of (width_of_side tr.to) ns end ≤ n → 0 < n → HaveRoom tr.to ns → Owned live w d n → Moves live w (move_fields tr ms ns end s d)
    fields_w live w ms no_members end s d n e z r o = writes_give p next l live w [] _ (stays live w w (omega arith))
    fields_w live w ms (bare x ns) end s d n e z r o = fields_w live w ms ns end s d n e z r o
    fields_w live w ms (typed x u ns) end s d n e z r o =
        field_w live w (field_of x ms) _ (λ f.
        writes_bind p next l (move tr f.shape u (part tr.from f s) (spot tr.to u end d)) _ (λ vs live' w'. Fine live w vs live' w') _
        (move_w live w f.shape u (part tr.from f s) (spot tr.to u end d) r.0 (spot_owned live w x u ns end n d e o)) (λ vs live' w' k.
        writes_bind p next l (move_fields tr ms ns (next_of (width_of_side tr.to) u end) s (past tr.to u d)) _ (λ us live'' w''. Fine live' w' us live'' w'') _
        (fields_w live' w' ms ns (next_of (width_of_side tr.to) u end) s (past tr.to u d) n e z r.1 (past_owned live' w' u n d (later_owned live w live' w' d n z k o))) (λ us live'' w'' k'.
        writes_give p next l live'' w'' _ _ (on k k'))))

    case_w : (live : List Region) (w : World) (ms all : Members) (c : CaseType) (ns : Members) (n : ℕ) (s : Source) (d : Target)
        → greatest_of tr.to ns ≤ greatest_of tr.to all → HaveRoom tr.to ns → 0 < sum_bytes tr.to all → Owned live w d (sum_bytes tr.to all) → Moves live w (move_case tr ms all c ns n s d)
    case_w live w ms all c no_members n s d g r z o = stop_w live w
    case_w live w ms all c (bare x ns) n s d g r z o =
        if_w live w (bytes_eq x c.name) _ _
        (case_written_w live w ms all s d n c.payload None _ z o (λ t u e. absurd (none_some u e)) (λ t u live' w' s' d' e o'. stop_w live' w'))
        (case_w live w ms all c ns (suc n) s d (omega (arith, greatest_bare tr.to x ns)) r z o)
    case_w live w ms all c (typed x u ns) n s d g r z o =
        let h = greatest_head tr.to x u ns in
        if_w live w (bytes_eq x c.name) _ _
        (case_written_w live w ms all s d n c.payload (Some u) _ z o
        (λ t v e. subst (λ y. node_size tr.to y ≤ greatest_of tr.to all) (same_payload u v e) (omega (arith, h.0)))
        (λ t v live' w' s' d' e o'. move_w live' w' t u s' d' r.0 (subst (λ y. Owned live' w' d' (node_size tr.to y)) (sym (same_payload u v e)) o')))
        (case_w live w ms all c ns (suc n) s d (omega (arith, h.1)) r.1 z o)
