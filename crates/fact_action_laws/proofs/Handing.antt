-- Characters and handles are moved as the law says.
use Rattle.std.proofs.Common.{◌≡◌, ℕ, ◌+◌, ◌^◌, ◌<◌, inl, Bool, true, false, List, [], ◌∷◌, ◌++◌, length, Some, None, refl, sym, ap, ◌∙◌, subst, arith, lit<, mod-eq_of_lt}
use Rattle.std.specs.Prelude.{if◌then◌else◌, option_map}
use Rattle.fact_wasm.specs.declared.types.ValType.TheVariants as val
use Rattle.fact_entity.specs.declared.id.Id.{Id}
use Rattle.fact_entity.specs.declared.table.TypeResourceTables.{TypeResourceTables}
use Rattle.fact_entity.specs.declared.table.TypeComponentLocalErrorContextTables.{TypeComponentLocalErrorContextTables}
use Rattle.fact_types.specs.Layout.{extent, scalar_layout}
use Rattle.fact_types.specs.declared.extents.MemoryWidth.TheVariants.{Memory32, Memory64}
use Rattle.fact_types.specs.declared.flats.FlatType.TheVariants as flat_type
use Rattle.fact_types.specs.declared.interface.InterfaceType.TheVariants as ty
use Rattle.fact_types.specs.declared.outside.Trap.TheVariants.{InvalidChar}
use Rattle.fact_types.specs.declared.extents.MemoryWidth.{MemoryWidth}
use Rattle.fact_types.specs.FlatShapes.{flat}
use Rattle.fact_types.specs.Shapes.{k_future, k_stream, Shape, s_plain, s_node, Members}
use Rattle.fact_types.proofs.ShapeLaws.{same_some, none_some}
use Rattle.fact_machine.specs.declared.types.CoreValue.{CoreValue}
use Rattle.fact_machine.specs.declared.types.CoreValue.TheVariants.{I32}
use Rattle.fact_machine.specs.declared.types.MachineState.{MachineState}
use Rattle.fact_machine.specs.declared.types.Answer.TheVariants.{Returns}
use Rattle.fact_machine.specs.World.{World, Stop, Lack}
use Rattle.fact_types.specs.declared.import.Import.{Import}
use Rattle.fact_types.specs.declared.import.Import.TheVariants as import
use Rattle.fact_actions.specs.Actions.{Ask, Visit, unless}
use Rattle.fact_actions.specs.Moves.{move, move_char, move_handle}
use Rattle.fact_values.specs.Numbers.{is_scalar_value, value_of_number, plain_of, number_in}
use Rattle.fact_actions.specs.Running.{Call}
use Rattle.fact_machine.specs.Typed.{are_values, is_value}
use Rattle.fact_actions.specs.Sides.{Source, Values, AtAddress, Target, Slots, Into, width_of_side, first_bits, write_number}
use Rattle.fact_values.specs.declared.value.HandleKind.{HandleKind}
use Rattle.fact_values.specs.declared.value.HandleKind.TheVariants.{Own, Borrow, Future, Stream, ErrorContext}
use Rattle.fact_values.specs.declared.value.Value.{Value, out-Value}
use Rattle.fact_values.specs.declared.value.Value.TheVariants as value
use Rattle.fact_values.specs.Canonical.{IsCanonicalAt, IsCanonicalFlat, AreNarrow}
use Rattle.fact_values.specs.Carry.{take_number}
use Rattle.fact_values.specs.Handles.{cross, cross_handle, given, then_step, done_step}
use Rattle.fact_values.specs.Lift.{lift_leading, one_number, number_as}
use Rattle.fact_values.specs.Load.{load}
use Rattle.fact_values.specs.Opened.{number_of_handle}
use Rattle.fact_values.specs.Weight.{weight}
use Rattle.fact_action_laws.specs.Footprints.{HasPlaced}
use Rattle.fact_action_laws.specs.HonestMoves.{IsHonestResult}
use Rattle.fact_action_laws.specs.Items.{HandleItem, items, handle_item, of_some, numbers, crossings, requests, AreItemCalls}
use Rattle.fact_action_laws.specs.MoveTerms.{size_on, IsFit, IsMoved, MayStop}
use Rattle.fact_action_laws.specs.Places.{to_side, value_at_source, IsSource, IsTarget, IsAtTarget, StandsAtTarget, IsGrounded}
use Rattle.fact_actions.specs.Regions.{Region}
use Rattle.fact_action_laws.specs.Regions.{TransferSetting, IsInHand, regions_after, regions_by}
use Rattle.fact_action_laws.proofs.Judges.{does_visit, does_more, does_ask}
use Rattle.fact_action_laws.proofs.Numbers.{number_at_source, reads_number, does_write_number, IsNumberAt}
use Rattle.fact_action_laws.proofs.Numeric.{char_is, own_is, borrow_is, error_context_is}
use Rattle.fact_action_laws.proofs.Placing.{leaves_wider}
use Rattle.fact_action_laws.proofs.Plain.{source_number, number_stands, does_aligned, reads_flat}
use Rattle.fact_action_laws.proofs.Products.{mapped}
use Rattle.fact_action_laws.proofs.NewRegions.{does_pass, ready_later, narrow_value}
use Rattle.fact_action_laws.proofs.Targets.{left_true}
use Rattle.fact_action_laws.proofs.Telling.{told_one}
use Rattle.fact_action_laws.specs.Judged.{RunsHonestly}
use Rattle.fact_action_laws.specs.MoveLaws.{IsLawfulMove}

-- ---- characters

same_scalars : (n : ℕ) → is_scalar_value n ≡ is_scalar_value n
same_scalars n = refl

scalar_true : (n : ℕ) (v : Value) → value_of_number (plain_of ty.Char) n ≡ Some v → is_scalar_value n ≡ true
scalar_true n v h = go (is_scalar_value n) refl h
  where
    go : (b : Bool) → is_scalar_value n ≡ b → (if b then Some (value.Char n) else None) ≡ Some v → is_scalar_value n ≡ true
    go true e h = e
    go false e h = absurd (none_some None v refl h)

pub char_law : (c : TransferSetting) → IsGrounded c → IsLawfulMove c (s_plain ty.Char) (s_plain ty.Char)
unfolding move cross items weight
char_law c g = record {
  by = λ s d v gs w m is h ready target.
      let x = source_number g char_is s _ v is h in
      does_aligned g (s_plain ty.Char) (s_plain ty.Char) s d (Visit 1 (move_char c.transfer s d)) w
      (does_visit
      (reads_number g 4 x.number _ s (λ n. unless InvalidChar (is_scalar_value n) (write_number c.transfer.to 4 d n)) w is ready.from x.at
      (does_pass InvalidChar (is_scalar_value x.number) (write_number c.transfer.to 4 d x.number) w (scalar_true x.number v x.value)
      (does_more (λ t cs o k. absurd k)
      (λ k cs us w' o r. record {
        out = v;
        carried = record { crosses = λ rest. ap (λ l. Some (v, numbers l ++ rest)) r.quiet; told = r.quiet; weighs = omega (arith, r.weightless) };
        given = r.given;
        leaves = leaves_wider (λ j a. subst (λ z. IsAtTarget z d j) (sym (char_is.sized (width_of_side c.transfer.to))) a) (λ b a. number_stands g char_is x.number v d us b x.below x.value a) r.leaves;
      })
      (does_write_number {H = λ t cs. ⊥} g m 4 x.number flat_type.I32 d w (IsInHand c gs) ready (subst (λ z. IsTarget c (flat_type.I32 ∷ []) z (IsInHand c gs) m d) (char_is.sized (width_of_side c.transfer.to)) target) x.below)))));
}

-- ---- handles

abbrev call_of : Import → List CoreValue → MachineState → List CoreValue → MachineState → Call
call_of f args before rs after = record { what = f; args = args; before = before; answer = Returns rs after }

abbrev handle_args : (number from to : ℕ) → List CoreValue
handle_args n from to = I32 n ∷ I32 from ∷ I32 to ∷ []

-- An import that moves a handle of a kind to another table.
pub record MovesHandles (f : Import) (kind : HandleKind) : Type 0 where
  pub quiet : (c : TransferSetting) (gs : List Region) (args rs : List CoreValue) (before after : MachineState) → IsHonestResult c gs f args rs before after → after.memories ≡ before.memories
  pub keeps : (args rs : List CoreValue) (after : MachineState) (gs : List Region) → regions_by f args (Returns rs after) gs ≡ gs
  pub crosses : (n from to : ℕ) (before after : MachineState) (rs : List CoreValue) → crossings (call_of f (handle_args n from to) before rs after ∷ []) ≡ record { kind = kind; number = n; from = from; to = to } ∷ []
  pub asks : (n from to : ℕ) (before after : MachineState) (rs : List CoreValue) → requests (call_of f (handle_args n from to) before rs after ∷ []) ≡ []
  pub answers : (n from to : ℕ) (before after : MachineState) (rs : List CoreValue) → numbers (call_of f (handle_args n from to) before rs after ∷ []) ≡ first_bits rs ∷ []

own_moves : MovesHandles import.ResourceTransferOwn Own
own_moves = record { quiet = λ c gs args rs b a h. h; keeps = λ args rs a gs. refl; crosses = λ n f t b a rs. refl; asks = λ n f t b a rs. refl; answers = λ n f t b a rs. refl }

borrow_moves : MovesHandles import.ResourceTransferBorrow Borrow
borrow_moves = record { quiet = λ c gs args rs b a h. h; keeps = λ args rs a gs. refl; crosses = λ n f t b a rs. refl; asks = λ n f t b a rs. refl; answers = λ n f t b a rs. refl }

error_context_moves : MovesHandles import.ErrorContextTransfer ErrorContext
error_context_moves = record { quiet = λ c gs args rs b a h. h; keeps = λ args rs a gs. refl; crosses = λ n f t b a rs. refl; asks = λ n f t b a rs. refl; answers = λ n f t b a rs. refl }

future_moves : MovesHandles import.FutureTransfer Future
future_moves = record { quiet = λ c gs args rs b a h. h; keeps = λ args rs a gs. refl; crosses = λ n f t b a rs. refl; asks = λ n f t b a rs. refl; answers = λ n f t b a rs. refl }

stream_moves : MovesHandles import.StreamTransfer Stream
stream_moves = record { quiet = λ c gs args rs b a h. h; keeps = λ args rs a gs. refl; crosses = λ n f t b a rs. refl; asks = λ n f t b a rs. refl; answers = λ n f t b a rs. refl }

-- a handle at a source
pub record HandleTaken (c : TransferSetting) (kind : HandleKind) (from : ℕ) (s : Source) (v : Value) : Type 0 where
  pub number : ℕ
  pub at : number_at_source c 4 s ≡ Some number
  pub is : v ≡ value.Handle kind from number

-- Two types of handles of a kind, each in its table.
pub record AreHandles (c : TransferSetting) (t u : Shape) (f : Import) (kind : HandleKind) (from to : ℕ) : Type 1 where
  pub takes : (s : Source) (v : Value) → IsSource c (length (flat (width_of_side c.transfer.from) t)) s → value_at_source c t s ≡ Some v → HandleTaken c kind from s v
  pub stands : (x : ℕ) (d : Target) (us : List CoreValue) (b : List ℕ) → x < 2 ^ 32 → IsNumberAt 4 flat_type.I32 x d us b → StandsAtTarget c u (value.Handle kind to x) d us b
  pub flats : flat (width_of_side c.transfer.to) u ≡ flat_type.I32 ∷ []
  pub sized : size_on c.transfer.to u ≡ 4
  pub crosses : (v : Value) (ns : List ℕ) → cross take_number t u v ns ≡ cross_handle take_number kind from to v ns
  pub asks : (v : Value) → items (to_side c) t u v ≡ handle_item kind from to v
  pub weighs : (v : Value) → weight t v ≡ 1
  pub does : {gs : List Region} {H : Stop → List Call → Type 0} {P : ℕ → List Call → List CoreValue → World → Type 0} (s : Source) (d : Target) (w : World)
      → RunsHonestly c gs H P (Visit 1 (move_handle c.transfer f from to s d)) w → RunsHonestly c gs H P (move c.transfer t u s d) w

number_of : (kind : HandleKind) (table n : ℕ) → number_of_handle (out-Value (value.Handle kind table n)) ≡ Some n
number_of kind table n = ap number_of_handle (value.outs-Handle kind table n)

pub handle_law : (c : TransferSetting) → IsGrounded c → (t u : Shape) (f : Import) (kind : HandleKind) (from to : ℕ) → MovesHandles f kind → AreHandles c t u f kind from to → IsLawfulMove c t u
handle_law c g t u f kind from to mv h = record {
  by = λ s d v gs w m is taken_v ready target.
      let x = h.takes s v is taken_v in
      let item = HandleItem (record { kind = kind; number = x.number; from = from; to = to }) in
      let its : items (to_side c) t u v ≡ item ∷ [] = h.asks v ∙ ap (handle_item kind from to) x.is ∙ ap (λ o. of_some o (λ n. HandleItem (record { kind = kind; number = n; from = from; to = to }) ∷ [])) (number_of kind from x.number) in
      h.does s d w (does_visit
      (reads_number g 4 x.number _ s (λ n. Ask f (handle_args n from to) (val.I32 ∷ []) (λ rs. write_number c.transfer.to 4 d (first_bits rs))) w is ready.from x.at
      (does_ask (subst (λ is. MayStop (IsFit c t u s) is Lack []) (sym its) (inl refl))
      (λ rs w' typed honest.
      let one = call_of f (handle_args x.number from to) w.state rs w'.state in
      let small : first_bits rs < 2 ^ 32 = answer_small rs (left_true (are_values rs (val.I32 ∷ [])) _ typed) in
      let still = ready_later c m w w' (mv.quiet c gs (handle_args x.number from to) rs w.state w'.state honest) ready in
      let same = mv.keeps (handle_args x.number from to) rs w'.state gs in
      subst (λ rs2. RunsHonestly c rs2 (λ t2 ds. MayStop (IsFit c t u s) (items (to_side c) t u v) t2 (one ∷ ds)) (λ n ds us w''. IsMoved c gs m t u d v (1 + n) (one ∷ ds) us w'') (write_number c.transfer.to 4 d (first_bits rs)) w') (sym same)
      (does_more (λ t2 ds o k. absurd k)
      (λ n ds us w'' o r. record {
        out = value.Handle kind to (first_bits rs);
        carried = record {
          crosses = λ rest.
              h.crosses v (numbers (one ∷ ds) ++ rest)
              ∙ ap (λ l. cross_handle take_number kind from to v (numbers (one ∷ l) ++ rest)) r.quiet
              ∙ ap (λ l. cross_handle take_number kind from to v (l ++ rest)) (mv.answers x.number from to w.state w'.state rs)
              ∙ ap (λ v. cross_handle take_number kind from to v (first_bits rs ∷ rest)) x.is
              ∙ ap (λ o. given o (λ n. then_step (take_number (record { kind = kind; number = n; from = from; to = to })) (λ m. done_step (value.Handle kind to m))) (first_bits rs ∷ rest)) (number_of kind from x.number);
          told = subst (λ l. AreItemCalls (items (to_side c) t u v) (one ∷ l)) (sym r.quiet) (subst (λ is. AreItemCalls is (one ∷ [])) (sym its)
              (told_one item (one ∷ []) (record { crosses = mv.crosses x.number from to w.state w'.state rs; asks = mv.asks x.number from to w.state w'.state rs; few = refl })));
          weighs = omega (arith, r.weightless, h.weighs v);
        };
        given = r.given;
        leaves = leaves_wider (λ j a. subst (λ z. IsAtTarget z d j) (sym h.sized) a) (λ b a. h.stands (first_bits rs) d us b small a)
            (record { now = r.leaves.now; ready = r.leaves.ready; placed = subst (λ rs2. HasPlaced m r.leaves.now (IsInHand c gs) (IsInHand c (regions_after rs2 ds)) (IsAtTarget 4 d) (λ b. IsNumberAt 4 flat_type.I32 (first_bits rs) d us b)) (sym same) r.leaves.placed });
      })
      (does_write_number {H = λ t cs. ⊥} g m 4 (first_bits rs) flat_type.I32 d w' (IsInHand c gs) still
      (subst (λ fs. IsTarget c fs 4 (IsInHand c gs) m d) h.flats (subst (λ z. IsTarget c (flat (width_of_side c.transfer.to) u) z (IsInHand c gs) m d) h.sized target)) small))))));
}
  where
    answer_small : (rs : List CoreValue) → are_values rs (val.I32 ∷ []) ≡ true → first_bits rs < 2 ^ 32
    answer_small [] h = lit< tt
    answer_small (v ∷ vs) h = narrow_value v (left_true (is_value v val.I32) _ h)

-- own, borrow and error context
module _ (c : TransferSetting) (g : IsGrounded c) where
  pub own_law : (i j : Id TypeResourceTables) → IsLawfulMove c (s_plain (ty.Own i)) (s_plain (ty.Own j))
  unfolding move cross items weight
  own_law i j = handle_law c g (s_plain (ty.Own i)) (s_plain (ty.Own j)) import.ResourceTransferOwn Own i.number j.number own_moves (record {
    takes = λ s v is h. let x = source_number g (own_is i) s _ v is h in record { number = x.number; at = x.at; is = same_some (Some v) v (value.Handle Own i.number x.number) refl (sym x.value) };
    stands = λ x d us b lt n. number_stands g (own_is j) x (value.Handle Own j.number x) d us b lt refl n;
    flats = refl;
    sized = (own_is j).sized (width_of_side c.transfer.to);
    crosses = λ v ns. refl;
    asks = λ v. refl;
    weighs = λ v. refl;
    does = λ s d w h. does_aligned g (s_plain (ty.Own i)) (s_plain (ty.Own j)) s d (Visit 1 (move_handle c.transfer import.ResourceTransferOwn i.number j.number s d)) w h;
  })

  pub borrow_law : (i j : Id TypeResourceTables) → IsLawfulMove c (s_plain (ty.Borrow i)) (s_plain (ty.Borrow j))
  unfolding move cross items weight
  borrow_law i j = handle_law c g (s_plain (ty.Borrow i)) (s_plain (ty.Borrow j)) import.ResourceTransferBorrow Borrow i.number j.number borrow_moves (record {
    takes = λ s v is h. let x = source_number g (borrow_is i) s _ v is h in record { number = x.number; at = x.at; is = same_some (Some v) v (value.Handle Borrow i.number x.number) refl (sym x.value) };
    stands = λ x d us b lt n. number_stands g (borrow_is j) x (value.Handle Borrow j.number x) d us b lt refl n;
    flats = refl;
    sized = (borrow_is j).sized (width_of_side c.transfer.to);
    crosses = λ v ns. refl;
    asks = λ v. refl;
    weighs = λ v. refl;
    does = λ s d w h. does_aligned g (s_plain (ty.Borrow i)) (s_plain (ty.Borrow j)) s d (Visit 1 (move_handle c.transfer import.ResourceTransferBorrow i.number j.number s d)) w h;
  })

  pub error_context_law : (i j : Id TypeComponentLocalErrorContextTables) → IsLawfulMove c (s_plain (ty.ErrorContext i)) (s_plain (ty.ErrorContext j))
  unfolding move cross items weight
  error_context_law i j = handle_law c g (s_plain (ty.ErrorContext i)) (s_plain (ty.ErrorContext j)) import.ErrorContextTransfer ErrorContext i.number j.number error_context_moves (record {
    takes = λ s v is h. let x = source_number g (error_context_is i) s _ v is h in record { number = x.number; at = x.at; is = same_some (Some v) v (value.Handle ErrorContext i.number x.number) refl (sym x.value) };
    stands = λ x d us b lt n. number_stands g (error_context_is j) x (value.Handle ErrorContext j.number x) d us b lt refl n;
    flats = refl;
    sized = (error_context_is j).sized (width_of_side c.transfer.to);
    crosses = λ v ns. refl;
    asks = λ v. refl;
    weighs = λ v. refl;
    does = λ s d w h. does_aligned g (s_plain (ty.ErrorContext i)) (s_plain (ty.ErrorContext j)) s d (Visit 1 (move_handle c.transfer import.ErrorContextTransfer i.number j.number s d)) w h;
  })

-- ---- futures and streams

sized_four : (w : MemoryWidth) → (extent w (scalar_layout 4)).size ≡ 4
sized_four Memory32 = refl
sized_four Memory64 = refl

reads_four : (c : TransferSetting) (v : CoreValue) (vs : List CoreValue) → number_at_source c 4 (Values (v ∷ vs)) ≡ one_number flat_type.I32 (v ∷ vs)
reads_four c v vs = ap (λ n. Some n) (reads_flat flat_type.I32 v)

module _ (c : TransferSetting) (g : IsGrounded c) (t i u j : ℕ) (ms ns : Members) where
  future_taken : (s : Source) (v : Value) → value_at_source c (s_node (k_future t i) ms) s ≡ Some v → HandleTaken c Future t s v
  unfolding load lift_leading
  future_taken (AtAddress a) v h = let r = mapped (number_in c.source 4 a) (λ n. value.Handle Future t n) v h in record { number = r.mid; at = r.first; is = sym r.is }
  future_taken (Values []) v h = absurd (none_some None v refl h)
  future_taken (Values (x ∷ xs)) v h = record { number = number_as flat_type.I32 x; at = reads_four c x xs; is = same_some (Some v) v (value.Handle Future t (number_as flat_type.I32 x)) refl (sym h) }

  stream_taken : (s : Source) (v : Value) → value_at_source c (s_node (k_stream t i) ms) s ≡ Some v → HandleTaken c Stream t s v
  unfolding load lift_leading
  stream_taken (AtAddress a) v h = let r = mapped (number_in c.source 4 a) (λ n. value.Handle Stream t n) v h in record { number = r.mid; at = r.first; is = sym r.is }
  stream_taken (Values []) v h = absurd (none_some None v refl h)
  stream_taken (Values (x ∷ xs)) v h = record { number = number_as flat_type.I32 x; at = reads_four c x xs; is = same_some (Some v) v (value.Handle Stream t (number_as flat_type.I32 x)) refl (sym h) }

  future_stands : (x : ℕ) (d : Target) (us : List CoreValue) (b : List ℕ) → x < 2 ^ 32 → IsNumberAt 4 flat_type.I32 x d us b → StandsAtTarget c (s_node (k_future u j) ns) (value.Handle Future u x) d us b
  unfolding load lift_leading IsCanonicalAt IsCanonicalFlat
  future_stands x (Into a) us b lt h = (ap (option_map (λ n. value.Handle Future u n)) (h ∙ ap (λ k. Some k) (mod-eq_of_lt lt)), tt)
  future_stands x (Slots ts) us b lt h =
      (ap (λ us. option_map (λ n. value.Handle Future u n) (one_number flat_type.I32 us)) h.1 ∙ ap (λ k. Some (value.Handle Future u k)) h.3, subst (AreNarrow (flat_type.I32 ∷ [])) (sym h.1) (h.2 ∙ sym h.3, tt))

  stream_stands : (x : ℕ) (d : Target) (us : List CoreValue) (b : List ℕ) → x < 2 ^ 32 → IsNumberAt 4 flat_type.I32 x d us b → StandsAtTarget c (s_node (k_stream u j) ns) (value.Handle Stream u x) d us b
  unfolding load lift_leading IsCanonicalAt IsCanonicalFlat
  stream_stands x (Into a) us b lt h = (ap (option_map (λ n. value.Handle Stream u n)) (h ∙ ap (λ k. Some k) (mod-eq_of_lt lt)), tt)
  stream_stands x (Slots ts) us b lt h =
      (ap (λ us. option_map (λ n. value.Handle Stream u n) (one_number flat_type.I32 us)) h.1 ∙ ap (λ k. Some (value.Handle Stream u k)) h.3, subst (AreNarrow (flat_type.I32 ∷ [])) (sym h.1) (h.2 ∙ sym h.3, tt))

  pub future_law : IsLawfulMove c (s_node (k_future t i) ms) (s_node (k_future u j) ns)
  unfolding move cross items weight
  future_law = handle_law c g (s_node (k_future t i) ms) (s_node (k_future u j) ns) import.FutureTransfer Future t u future_moves (record {
    takes = λ s v is h. future_taken s v h;
    stands = future_stands;
    flats = refl;
    sized = sized_four (width_of_side c.transfer.to);
    crosses = λ v a. refl;
    asks = λ v. refl;
    weighs = λ v. refl;
    does = λ s d w h. does_aligned g (s_node (k_future t i) ms) (s_node (k_future u j) ns) s d (Visit 1 (move_handle c.transfer import.FutureTransfer t u s d)) w h;
  })

  pub stream_law : IsLawfulMove c (s_node (k_stream t i) ms) (s_node (k_stream u j) ns)
  unfolding move cross items weight
  stream_law = handle_law c g (s_node (k_stream t i) ms) (s_node (k_stream u j) ns) import.StreamTransfer Stream t u stream_moves (record {
    takes = λ s v is h. stream_taken s v h;
    stands = stream_stands;
    flats = refl;
    sized = sized_four (width_of_side c.transfer.to);
    crosses = λ v a. refl;
    asks = λ v. refl;
    weighs = λ v. refl;
    does = λ s d w h. does_aligned g (s_node (k_stream t i) ms) (s_node (k_stream u j) ns) s d (Visit 1 (move_handle c.transfer import.StreamTransfer t u s d)) w h;
  })
