-- The code that was written for a function of an async adapter that moves values does that part of the adapter.
use Rattle.std.proofs.Common.{◌≡◌, ℕ, ◌+◌, ◌^◌, ◌<◌, ◌≤◌, Bool, true, false, List, [], ◌∷◌, ◌++◌, Option, Some, refl, sym, ap, ◌∙◌, subst, arith, append-nil, append_assoc, length, reverse, slice_get}
use Rattle.std.specs.Prelude.{is_some}
use Rattle.fact_wasm.specs.declared.types.ValType.{ValType}
use Rattle.fact_wasm.specs.declared.types.ValType.TheVariants as val
use Rattle.fact_wasm.specs.declared.instr.Instr.{Instr}
use Rattle.fact_wasm.specs.declared.module.WasmModule.{WasmModule}
use Rattle.fact_types.specs.Adapters.{LinkedAdapter, is_wide}
use Rattle.fact_types.specs.Signatures.{address, flat_params, flat_values, lift_by, lower_limit}
use Rattle.fact_types.specs.Tables.{Tables}
use Rattle.fact_machine.specs.Machine.{have_types}
use Rattle.fact_machine.specs.declared.types.CoreValue.{CoreValue}
use Rattle.fact_machine.specs.declared.types.CoreValue.TheVariants.{I32}
use Rattle.fact_actions.specs.Actions.{Action, Give, ◌>>=◌}
use Rattle.fact_actions.specs.Adapters.{AdapterTunables, async_return, async_start, cleared, flat_results, get_flags, last_bits, lift_signature_of, move_params, move_results}
use Rattle.fact_actions.specs.Running.{ImportPlaces}
use Rattle.fact_code_laws.specs.Does.{Locals, Onward, held_types, Does}
use Rattle.fact_code_laws.specs.Knows.{KnowsFlags}
use Rattle.fact_code_laws.specs.PieceLaws.{HaveResultTypes}
use Rattle.fact_code_laws.specs.Places.{Slot, AreHeld, AreLocals, AreUsed, KeepsLocals, IsNone}
use Rattle.fact_code_laws.specs.Typed.{OnStack, IsTyped}
use Rattle.fact_code_laws.proofs.Blocks.{alone, same_run, weaker}
use Rattle.fact_code_laws.proofs.Primitives as primitive
use Rattle.fact_code_laws.proofs.Rules.{within, in_turn, local_set, done}
use Rattle.fact_code_laws.proofs.TypedRows.{takes_global_get, takes_local_set}
use Rattle.fact_code_laws.proofs.TypingLaws.{typed_then, typed_next}
use Rattle.fact_emit.specs.Asked.{AskedHelper}
use Rattle.fact_emit.specs.Emits.{Grew, EmitsAsking}
use Rattle.fact_emit.specs.Pieces.{Is, Piece}
use Rattle.fact_emit.specs.Places.{AreDistinctSlots}
use Rattle.fact_emit.specs.Writers.{Wrote, taken_in}
use Rattle.fact_emit.specs.declared.writer.Writer.{Writer}
use Rattle.fact_emit.proofs.Emitting.{emits_as, emits_then, emits_wrote, grew_on, wrote_then}
use Rattle.fact_emit.proofs.NamedLaws.{ranged_append}
use Rattle.fact_kinds.specs.declared.fuel.Fuel.{Fuel}
use Rattle.fact_compound.specs.AsyncParts.{PartSlots, part_type}
use Rattle.fact_compound.specs.Asyncs.{EmitsPart, HasPartLocals, part_flags}
use Rattle.fact_steps.proofs.RangedSteps.{back_ranged, pushed_ranged, started_ranged}
use Rattle.fact_steps.specs.Code.{back_code, pushed_code, saved_code, started_code}
use Rattle.fact_compound.specs.Code.{cleared_code, slot_types}
use Rattle.fact_compound.specs.Described.{DescribesTransfers, KnowsAdapterData, linear_of}
use Rattle.fact_compound.specs.Passed.{MovedPart, MovesParams, MovesResults, TranslatesParams, TranslatesResults}
use Rattle.fact_compound.specs.Passing.{tuple_size}
use Rattle.fact_compound.specs.declared.adapters.AdapterData.{AdapterData}
use Rattle.fact_compound.specs.declared.asyncs.AsyncPart.{AsyncPart}
use Rattle.fact_compound.specs.declared.asyncs.AsyncPart.TheVariants as part
use Rattle.fact_compound.proofs.Flats.{are_flat, lowered_flat}
use Rattle.fact_compound.proofs.KeptLocals.{among_self, among_used, distinct_behind, distinct_front, locals_behind, locals_front, none_of, unused_behind, used_behind, used_front}
use Rattle.fact_compound.proofs.ParamMoves.{ParamLocals, params_moved, params_typed}
use Rattle.fact_compound.proofs.ResultPlaces.{ResultPlaces, lower_pointer_flat, lower_results_flat, results_code_typed, results_do, results_front}
use Rattle.fact_compound.proofs.Slots.{held_parts}
use Rattle.fact_compound.proofs.StepRules.{clears, held_others, pushes}
use Rattle.fact_compound.proofs.SyncBodies.{few_slots, flat_few}
use Rattle.fact_compound.proofs.SyncSteps.{AreUnused, among, held_have_types}
use Rattle.fact_compound.proofs.SyncTyping.{typed_cleared, typed_pushed}
use Rattle.fact_compound.proofs.AsksLaws.{asks_before, asks_behind, new_none}

-- the flags are kept, the values are moved with the flags at 0, and what is given stands on the stack
abbrev pub part_code : (flags saved : ℕ) → (given : List Slot) → (moves : List Instr) → List Instr
part_code flags saved given moves = saved_code flags saved ++ (cleared_code flags saved moves ++ pushed_code given)

-- ---- the steps

-- Locals of the arguments and of the saved flags are kept, and the values are moved to those of what is given.
module _ {M : WasmModule} {p : ImportPlaces} {locals : List ValType} {instance flags saved : ℕ} (slots given : List Slot) (moves : List Instr) (has : KnowsFlags M p instance flags) (typed : slice_get locals saved ≡ Some val.I32) where
  part_does : {kept : ℕ → Bool} (ls : Locals) (args : List CoreValue) (q : Action (List CoreValue)) → kept saved ≡ true → IsNone saved slots → length given ≤ 16 → held_types ls ≡ locals → AreHeld ls slots args
      → ((ls1 : Locals) → held_types ls1 ≡ locals → AreHeld ls1 slots args → Does M p Onward 464 0 [] ls1 moves q (λ vs. []) (λ vs ls'. AreHeld ls' given vs × KeepsLocals kept ls1 ls'))
      → Does M p Onward 1000 0 [] ls (part_code flags saved given moves) (get_flags instance >>= (λ n. cleared instance n q)) reverse (λ vs ls'. AreHeld ls' given vs)
  part_does {kept} ls args q used apart few e h moved =
      within (omega (arith, few)) (primitive.get_flags has (λ n small. local_set val.I32 (ap (λ t. slice_get t saved) e ∙ typed) refl (λ ls1 set. inner n small ls1 (set.types ∙ e) (held_others set slots args apart h) set.here)))
    where
      pushed : (vs : List CoreValue) (ls' : Locals) → AreHeld ls' given vs → Does M p Onward (length given + 0) 0 [] ls' (pushed_code given) (Give vs) reverse (λ vs ls'. AreHeld ls' given vs)
      pushed vs ls' there = subst (λ c. Does M p Onward (length given + 0) 0 [] ls' c (Give vs) reverse (λ vs ls'. AreHeld ls' given vs)) (append-nil (pushed_code given)) (pushes given vs [] there (done (sym (append-nil (reverse vs))) there))

      inner : (n : ℕ) → n < 2 ^ 32 → (ls1 : Locals) → held_types ls1 ≡ locals → AreHeld ls1 slots args → slice_get ls1 saved ≡ Some (Some (I32 n))
          → Does M p Onward (4 + 464 + (length given + 0)) 0 [] ls1 (cleared_code flags saved moves ++ pushed_code given) (cleared instance n q) reverse (λ vs ls'. AreHeld ls' given vs)
      inner n small ls1 e h there = same_run (alone p (cleared instance n q)) (in_turn (clears has small (moved ls1 e h) (λ vs ls2 r. r.1.same saved used ∙ there)) (λ vs ls2 r. pushed vs ls2 r.0))

  part_typed : AreLocals locals given → IsTyped M locals [] moves [] (OnStack []) → IsTyped M locals [] (part_code flags saved given moves) [] (OnStack (reverse (slot_types given)))
  part_typed l x =
      typed_next (takes_global_get has) (typed_next (takes_local_set typed) (typed_then (typed_cleared saved has typed x) (subst (λ us. IsTyped M locals [] (pushed_code given) [] (OnStack us)) (append-nil (reverse (slot_types given))) (typed_pushed given [] l))))

-- ---- the locals

module _ (x : AsyncPart) (a : LinkedAdapter) (l : PartSlots) {taken : ℕ → Bool} {locals : List ValType} (room : HasPartLocals x a l taken locals) where
  abbrev front : List Slot
  front = l.args ++ (l.saved, val.I32) ∷ []

  abbrev kept : ℕ → Bool
  kept = among front

  all_are : l.args ++ (l.saved, val.I32) ∷ l.given ≡ front ++ l.given
  all_are = sym (append_assoc l.args ((l.saved, val.I32) ∷ []) l.given)

  all_typed : AreLocals locals (front ++ l.given)
  all_typed = subst (λ ss. AreLocals locals ss) all_are room.typed

  all_used : AreUsed taken (front ++ l.given)
  all_used = subst (λ ss. AreUsed taken ss) all_are room.used

  all_distinct : AreDistinctSlots (front ++ l.given)
  all_distinct = subst (λ ss. AreDistinctSlots ss) all_are room.distinct

  args_local : AreLocals locals l.args
  args_local = locals_front locals l.args _ room.typed

  saved_typed : slice_get locals l.saved ≡ Some val.I32
  saved_typed = (locals_behind locals l.args _ room.typed).0

  given_local : AreLocals locals l.given
  given_local = locals_behind locals front l.given all_typed

  args_kept : AreUsed kept l.args
  args_kept = used_front kept l.args _ (among_self front)

  saved_kept : kept l.saved ≡ true
  saved_kept = (used_behind kept l.args ((l.saved, val.I32) ∷ []) (among_self front)).0

  saved_apart : IsNone l.saved l.args
  saved_apart = none_of l.saved l.args (unused_behind l.args ((l.saved, val.I32) ∷ []) (distinct_front front l.given all_distinct)).0

  given_unused : AreUnused kept l.given
  given_unused = unused_behind front l.given all_distinct

  given_used : AreUsed taken l.given
  given_used = used_behind taken front l.given all_used

  given_distinct : AreDistinctSlots l.given
  given_distinct = distinct_behind front l.given all_distinct

  inside : (i : ℕ) → kept i ≡ true → taken i ≡ true
  inside = among_used taken front (used_front taken front l.given all_used)

-- ---- the parameters

-- the callee's core parameters hang on no mark
pub lift_params_are : (a : LinkedAdapter) → (lift_signature_of a).params ≡ flat_params (is_wide a.lift.memory) 16 a.lift.params
lift_params_are a = by_mark a.lift.async_side
  where
    by_mark : (b : Bool) → (lift_by b (is_some a.lift.callback) (is_wide a.lift.memory) a.lift.params a.lift.results).params ≡ flat_params (is_wide a.lift.memory) 16 a.lift.params
    by_mark true = refl
    by_mark false = refl

module _ {t : Tables} {d : AdapterData} {debug concurrency : Bool} {u : AdapterTunables} {a : LinkedAdapter} (h : DescribesTransfers t d debug u a) (same : concurrency ≡ u.concurrency) {M : WasmModule} {p : ImportPlaces} {locals : List ValType} {taken : ℕ → Bool} (links : KnowsAdapterData M p d a) (l : PartSlots) {moves : List Instr} where
  module _ (room : HasPartLocals part.Start a l taken locals) (k : MovesParams d debug concurrency l.values l.given taken a.lower.params a.lift.params M p locals moves) where
    abbrev lower_flats : Option (List ValType)
    lower_flats = flat_values (is_wide a.lower.memory) (lower_limit a.lower.async_side) a.lower.params

    abbrev lift_flats : Option (List ValType)
    lift_flats = flat_values (is_wide a.lift.memory) 16 a.lift.params

    start_locals : ParamLocals a lower_flats lift_flats l.values l.given locals (kept part.Start a l room) taken
    start_locals = record {
      lower_is = refl;
      lift_is = refl;
      params_types = room.values_types;
      core_types = room.given_types ∙ lift_params_are a;
      params_typed = locals_front locals l.values room.rest (subst (λ ss. AreLocals locals ss) room.args (args_local part.Start a l room));
      core_typed = given_local part.Start a l room;
      params_kept = used_front (kept part.Start a l room) l.values room.rest (subst (λ ss. AreUsed (kept part.Start a l room) ss) room.args (args_kept part.Start a l room));
      core_unused = given_unused part.Start a l room;
      core_taken = given_used part.Start a l room;
      core_distinct = given_distinct part.Start a l room;
      inside = inside part.Start a l room;
    }

    given_few : length l.given ≤ 16
    given_few = few_slots 16 lift_flats (address (is_wide a.lift.memory) ∷ []) l.given (omega arith) (λ gs e. flat_few (is_wide a.lift.memory) 16 gs (are_flat (is_wide a.lift.memory) 16 a.lift.params gs e)) (room.given_types ∙ lift_params_are a)

    pub start_does : (args : List CoreValue) (ls : Locals) → held_types ls ≡ locals → AreHeld ls l.args args → Does M p Onward 1000 0 [] ls (part_code d.lift.flags.number l.saved l.given moves) (async_start u a args) reverse (HaveResultTypes (part_type part.Start a))
    start_does args ls e held =
        weaker (λ vs. refl) (λ vs ls' r. ap (have_types vs) (sym room.given_types) ∙ held_have_types ls' l.given vs r)
        (part_does l.args l.given moves links.lift.flags (saved_typed part.Start a l room) ls args (move_params u a args) (saved_kept part.Start a l room) (saved_apart part.Start a l room) given_few e held (λ ls1 e1 h1.
        within (omega arith) (params_moved h same l.values l.given k lower_flats lift_flats start_locals links.params_lists links.params_memory links.params_area room.rest ls1 args e1 (subst (λ ss. AreHeld ls1 ss args) room.args h1))))

    pub start_typed : IsTyped M locals [] (part_code d.lift.flags.number l.saved l.given moves) [] (OnStack (reverse (part_type part.Start a).results))
    start_typed =
        subst (λ ts. IsTyped M locals [] (part_code d.lift.flags.number l.saved l.given moves) [] (OnStack (reverse ts))) room.given_types
        (part_typed l.args l.given moves links.lift.flags (saved_typed part.Start a l room) (given_local part.Start a l room) (params_typed h same l.values l.given k lower_flats lift_flats start_locals links.params_lists links.params_memory links.params_area))

  -- ---- the results

  module _ (room : HasPartLocals part.Return a l taken locals) (lift_size : tuple_size (linear_of d.lift).memory64 a.lift.results ≤ 4294967295) (lower_size : tuple_size (linear_of d.lower).memory64 a.lower.results ≤ 4294967295) (k : MovesResults d debug concurrency l.values l.given l.args taken a.lift.results a.lower.results M p locals moves) where
    values_local : AreLocals locals l.values
    values_local = locals_front locals l.values room.rest (subst (λ ss. AreLocals locals ss) room.args (args_local part.Return a l room))

    return_places : ResultPlaces a l.values l.given l.args locals (kept part.Return a l room) taken
    return_places = record {
      front = l.values;
      rest = room.rest;
      args_are = room.args;
      given_types = room.values_types;
      results_types = room.given_types ∙ lower_results_flat a.lower.async_side (is_wide a.lower.memory) a.lower.results;
      rest_types = room.rest_types ∙ lower_pointer_flat a.lower.async_side (is_wide a.lower.memory) a.lower.results;
      given_typed = values_local;
      results_typed = given_local part.Return a l room;
      args_typed = args_local part.Return a l room;
      given_kept = used_front (kept part.Return a l room) l.values room.rest (subst (λ ss. AreUsed (kept part.Return a l room) ss) room.args (args_kept part.Return a l room));
      args_kept = args_kept part.Return a l room;
      results_unused = given_unused part.Return a l room;
      results_taken = given_used part.Return a l room;
      results_distinct = given_distinct part.Return a l room;
      inside = inside part.Return a l room;
    }

    results_few : length l.given ≤ 16
    results_few = few_slots 16 (flat_results a.lower) [] l.given (omega arith) (λ gs e. flat_few (is_wide a.lower.memory) 16 gs (lowered_flat (is_wide a.lower.memory) a.lower.async_side a.lower.results gs e)) return_places.results_types

    pub return_does : (args : List CoreValue) (ls : Locals) → held_types ls ≡ locals → AreHeld ls l.args args → Does M p Onward 1000 0 [] ls (part_code d.lower.flags.number l.saved l.given moves) (async_return u a args) reverse (HaveResultTypes (part_type part.Return a))
    return_does args ls e held =
        weaker (λ vs. refl) (λ vs ls' r. ap (have_types vs) (sym room.given_types) ∙ held_have_types ls' l.given vs r)
        (part_does l.args l.given moves links.lower.flags (saved_typed part.Return a l room) ls args (move_results u a args (last_bits args)) (saved_kept part.Return a l room) (saved_apart part.Return a l room) results_few e held (λ ls1 e1 h1.
        let parts = held_parts ls1 l.values room.rest args (subst (λ ss. AreHeld ls1 ss args) room.args h1) in
        let same_move : move_results u a parts.front (last_bits args) ≡ move_results u a args (last_bits args) =
        sym (results_front u a ls1 l.values parts.front parts.rest (last_bits args) h.results.from_counted room.values_types parts.in_front parts.long) ∙ ap (λ vs. move_results u a vs (last_bits args)) (sym parts.all) in
        subst (λ q. Does M p Onward 464 0 [] ls1 moves q (λ vs. []) (λ vs ls'. AreHeld ls' l.given vs × KeepsLocals (kept part.Return a l room) ls1 ls')) same_move
        (results_do h same links l.values l.given l.args return_places lift_size lower_size k ls1 args parts.front e1 h1 parts.in_front)))

    pub return_typed : IsTyped M locals [] (part_code d.lower.flags.number l.saved l.given moves) [] (OnStack (reverse (part_type part.Return a).results))
    return_typed =
        subst (λ ts. IsTyped M locals [] (part_code d.lower.flags.number l.saved l.given moves) [] (OnStack (reverse ts))) room.given_types
        (part_typed l.args l.given moves links.lower.flags (saved_typed part.Return a l room) (given_local part.Return a l room) (results_code_typed h same links l.values l.given l.args return_places lift_size lower_size k))

-- ---- as it is written

-- the flags are kept and cleared, values are moved, the flags are set back, and what is given is pushed
part_emits : {asks : List AskedHelper} {P : Piece} {a b c e f : Writer} (flags saved : ℕ) (given : List Slot) → Wrote a b (started_code flags saved) → EmitsAsking asks b c P → Wrote c e (back_code flags saved) → Wrote e f (pushed_code given)
    → EmitsAsking (asks ++ []) a f (λ M p locals code. (moves : List Instr) × (code ≡ part_code flags saved given moves) × P M p locals moves)
part_emits {P = P} flags saved given x1 x2 x3 x4 =
    let front = emits_wrote (started_ranged flags saved) x1 in
    let back = emits_wrote (ranged_append 0 0 (back_code flags saved) (pushed_code given) (back_ranged flags saved) (pushed_ranged given)) (wrote_then x3 x4) in
    emits_then {P = Is (started_code flags saved)} {Q = λ M p locals code. (moves : List Instr) × (code ≡ moves ++ (back_code flags saved ++ pushed_code given)) × P M p locals moves}
    (λ M p locals code more y z. (z.0, (λ i. y i ++ z.1 i) ∙ ap (λ c. started_code flags saved ++ c) (sym (append_assoc z.0 (back_code flags saved) (pushed_code given))), z.2))
    front
    (emits_then {Q = Is (back_code flags saved ++ pushed_code given)} (λ M p locals code more y z. (code, ap (λ c. code ++ c) z, y)) x2 back)

-- What was written does that part of the adapter.
pub emits_part : {t : Tables} {d : AdapterData} {debug concurrency : Bool} (x : AsyncPart) (l : PartSlots) {before after : Fuel} {a b c e f : Writer} → Wrote a b (started_code (part_flags x d) l.saved) → MovedPart t d debug concurrency x l before after b c
    → Wrote c e (back_code (part_flags x d) l.saved) → Wrote e f (pushed_code l.given) → EmitsPart t d debug concurrency x l before after a f
emits_part {t} {d} {debug} {concurrency} part.Start l {before} {after} {a} {b} {c} {e} {f} x1 x2 x3 x4 = record {
  grew = grew_on front (grew_on x2.grew back);
  asks = x2.asks ++ [];
  translated = subst (λ (xs : List AskedHelper). TranslatesParams t d debug concurrency before after xs) (sym (append-nil x2.asks)) x2.translated;
  asked = asks_behind (new_none x1.imports) (asks_before back.imports x2.asked (new_none (x4.imports ∙ x3.imports)));
  emits = λ u s h on.
      let moved : EmitsAsking x2.asks b c (MovesParams d debug concurrency l.values l.given (taken_in a) s.lower.params s.lift.params) =
      subst (λ taken. EmitsAsking x2.asks b c (MovesParams d debug concurrency l.values l.given taken s.lower.params s.lift.params)) taken_b (x2.emits s.lower.params s.lower.results s.lift.params s.lift.results h.lower.signature h.lift.signature h.params) in
      emits_as (λ M p locals code r. record {
        does = λ links room args ls held there. subst (λ k. Does M p Onward 1000 0 [] ls k (async_start u s args) reverse (HaveResultTypes (part_type part.Start s))) (sym r.1) (start_does h (sym on) links l room r.2 args ls held there);
        typed = λ links room. subst (λ k. IsTyped M locals [] k [] (OnStack (reverse (part_type part.Start s).results))) (sym r.1) (start_typed h (sym on) links l room r.2);
      }) (part_emits d.lift.flags.number l.saved l.given x1 moved x3 x4);
}
  where
    front : Grew a b
    front = (emits_wrote (started_ranged d.lift.flags.number l.saved) x1).grew

    back : Grew c f
    back = (emits_wrote (ranged_append 0 0 (back_code d.lift.flags.number l.saved) (pushed_code l.given) (back_ranged d.lift.flags.number l.saved) (pushed_ranged l.given)) (wrote_then x3 x4)).grew

    taken_b : taken_in b ≡ taken_in a
    taken_b = λ n. λ i. (front.still i) n
emits_part {t} {d} {debug} {concurrency} part.Return l {before} {after} {a} {b} {c} {e} {f} x1 x2 x3 x4 = record {
  grew = grew_on front (grew_on x2.grew back);
  asks = x2.asks ++ [];
  translated = subst (λ (xs : List AskedHelper). TranslatesResults t d debug concurrency before after xs) (sym (append-nil x2.asks)) x2.translated;
  asked = asks_behind (new_none x1.imports) (asks_before back.imports x2.asked (new_none (x4.imports ∙ x3.imports)));
  emits = λ u s h on.
      let moved : EmitsAsking x2.asks b c (MovesResults d debug concurrency l.values l.given l.args (taken_in a) s.lift.results s.lower.results) =
      subst (λ taken. EmitsAsking x2.asks b c (MovesResults d debug concurrency l.values l.given l.args taken s.lift.results s.lower.results)) taken_b (x2.emits s.lower.params s.lower.results s.lift.params s.lift.results h.lower.signature h.lift.signature h.results) in
      let lift_size = x2.lift_size s.lift.params s.lift.results h.lift.signature in
      let lower_size = x2.lower_size s.lower.params s.lower.results h.lower.signature in
      emits_as (λ M p locals code r. record {
        does = λ links room args ls held there. subst (λ k. Does M p Onward 1000 0 [] ls k (async_return u s args) reverse (HaveResultTypes (part_type part.Return s))) (sym r.1) (return_does h (sym on) links l room lift_size lower_size r.2 args ls held there);
        typed = λ links room. subst (λ k. IsTyped M locals [] k [] (OnStack (reverse (part_type part.Return s).results))) (sym r.1) (return_typed h (sym on) links l room lift_size lower_size r.2);
      }) (part_emits d.lower.flags.number l.saved l.given x1 moved x3 x4);
}
  where
    front : Grew a b
    front = (emits_wrote (started_ranged d.lower.flags.number l.saved) x1).grew

    back : Grew c f
    back = (emits_wrote (ranged_append 0 0 (back_code d.lower.flags.number l.saved) (pushed_code l.given) (back_ranged d.lower.flags.number l.saved) (pushed_ranged l.given)) (wrote_then x3 x4)).grew

    taken_b : taken_in b ≡ taken_in a
    taken_b = λ n. λ i. (front.still i) n

-- the flags are those of the instance that values go to
pub emits_part_by : {t : Tables} {d : AdapterData} {debug concurrency : Bool} (x : AsyncPart) (l : PartSlots) {flags : ℕ} {before after : Fuel} {a b c e f : Writer} → flags ≡ part_flags x d → Wrote a b (started_code flags l.saved) → MovedPart t d debug concurrency x l before after b c
    → Wrote c e (back_code flags l.saved) → Wrote e f (pushed_code l.given) → EmitsPart t d debug concurrency x l before after a f
emits_part_by x l {a = a} {b} {c} {e} {f} same x1 x2 x3 x4 = emits_part x l (subst (λ n. Wrote a b (started_code n l.saved)) same x1) x2 (subst (λ n. Wrote c e (back_code n l.saved)) same x3) x4
