-- The code that moves results over what is known of the locals: of the callee's results, of the adapter's results, and of all arguments,
-- whose last one is the return pointer, where there is one.
use Rattle.std.proofs.Common.{◌≡◌, ℕ, ◌≤◌, Bool, true, false, List, [], ◌∷◌, ◌++◌, Option, Some, None, refl, sym, ap, ◌∙◌, subst, length, slice_get}
use Rattle.std.specs.Prelude.{is_some}
use Rattle.fact_wasm.specs.declared.types.ValType.{ValType}
use Rattle.fact_wasm.specs.declared.instr.Instr.{Instr}
use Rattle.fact_wasm.specs.declared.module.WasmModule.{WasmModule}
use Rattle.fact_types.specs.Adapters.{LinkedAdapter, is_wide}
use Rattle.fact_types.specs.FlatShapes.{AreCounted, flat_members}
use Rattle.fact_types.specs.Shapes.{Shape}
use Rattle.fact_types.specs.Signatures.{width, address, flat_values, flat_or, unless_flat, lift_results_limit, lower_pointer, lower_results}
use Rattle.fact_types.specs.Tables.{Tables}
use Rattle.fact_types.specs.Tuples.{tuple_members}
use Rattle.fact_machine.specs.Typing.{address_type}
use Rattle.fact_machine.specs.declared.types.CoreValue.{CoreValue}
use Rattle.fact_actions.specs.Adapters.{AdapterTunables, results_transfer, flat_results, lowered_flats, last_bits, move_results}
use Rattle.fact_actions.specs.Running.{ImportPlaces}
use Rattle.fact_actions.specs.Sides.{AtAddress, options_of, first_bits}
use Rattle.fact_code_laws.specs.Does.{Locals, Onward, held_types, Does}
use Rattle.fact_code_laws.specs.Places.{Slot, FromUsed, ToUsed, AreHeld, AreLocals, AreUsed, KeepsLocals}
use Rattle.fact_code_laws.specs.Typed.{OnStack, IsTyped}
use Rattle.fact_emit.specs.Places.{AreDistinctSlots, TargetTaken, HasDistinctSlots, Using}
use Rattle.fact_compound.specs.Described.{DescribesTransfers, KnowsAdapterData, HasTupleMemory, linear_of}
use Rattle.fact_compound.specs.Passed.{MovesResults}
use Rattle.fact_compound.specs.Passing.{last_local, tuple_from, tuple_to, tuple_size}
use Rattle.fact_compound.specs.declared.adapters.AdapterData.{AdapterData}
use Rattle.fact_compound.proofs.Addresses.{pointed, pointed_local, last_slot, last_value}
use Rattle.fact_compound.proofs.Flats.{given_flat}
use Rattle.fact_compound.proofs.Fronts.{fields_front}
use Rattle.fact_compound.proofs.KeptLocals.{used_behind, locals_behind}
use Rattle.fact_compound.proofs.ParamMoves.{first_same, last_used}
use Rattle.fact_compound.proofs.ResultMoves.{IsPassed, IsReached, Pointed, ResultLocals, fields, passed, passed_to, results_are, results_moved, results_typed}
use Rattle.fact_compound.proofs.Slots.{held_parts, slots_long, values_long}
use Rattle.fact_compound.proofs.SyncSteps.{slot_types, AreUnused}

-- the core results of a lower side, and its return pointer, by its flat results
pub lower_results_flat : (mark m : Bool) (rs : List Shape) → lower_results mark m rs ≡ flat_or [] (lowered_flats mark m rs)
lower_results_flat false m rs = refl
lower_results_flat true m [] = refl
lower_results_flat true m (r ∷ rs) = refl

pub lower_pointer_flat : (mark m : Bool) (rs : List Shape) → lower_pointer mark m rs ≡ unless_flat (address m ∷ []) (lowered_flats mark m rs)
lower_pointer_flat false m rs = refl
lower_pointer_flat true m [] = refl
lower_pointer_flat true m (r ∷ rs) = refl

no_slots : (ss : List Slot) → slot_types ss ≡ [] → ss ≡ []
no_slots [] e = refl
no_slots (s ∷ ss) e = cc

one_held : (ls : Locals) (ss : List Slot) (vs : List CoreValue) (t : ValType) → slot_types ss ≡ t ∷ [] → AreHeld ls ss vs → (v : CoreValue) × (vs ≡ v ∷ [])
one_held ls [] vs t e h = cc
one_held ls (s ∷ r ∷ ss) vs t e h = cc
one_held ls (s ∷ []) [] t e h = absurd h
one_held ls (s ∷ []) (v ∷ []) t e h = (v, refl)
one_held ls (s ∷ []) (v ∷ w ∷ vs) t e h = absurd h.1

-- the callee's results, flat or through a pointer
abbrev pub given_flats : LinkedAdapter → Option (List ValType)
given_flats a = flat_values (is_wide a.lift.memory) (lift_results_limit a.lift.async_side) a.lift.results

-- The locals have the types of these values. Those of the callee's results and of the arguments are kept, and those of the adapter's own
-- results are not. Behind the first arguments stands the return pointer, where there is one.
pub record ResultPlaces (a : LinkedAdapter) (given results args : List Slot) (locals : List ValType) (kept taken : ℕ → Bool) : Type 0 where
  pub front : List Slot
  pub rest : List Slot
  pub args_are : args ≡ front ++ rest
  pub given_types : slot_types given ≡ flat_or (address (is_wide a.lift.memory) ∷ []) (given_flats a)
  pub results_types : slot_types results ≡ flat_or [] (flat_results a.lower)
  pub rest_types : slot_types rest ≡ unless_flat (address (is_wide a.lower.memory) ∷ []) (flat_results a.lower)
  pub given_typed : AreLocals locals given
  pub results_typed : AreLocals locals results
  pub args_typed : AreLocals locals args
  pub given_kept : AreUsed kept given
  pub args_kept : AreUsed kept args
  pub results_unused : AreUnused kept results
  pub results_taken : AreUsed taken results
  pub results_distinct : AreDistinctSlots results
  pub inside : (i : ℕ) → kept i ≡ true → taken i ≡ true

module _ {t : Tables} {d : AdapterData} {debug concurrency : Bool} {u : AdapterTunables} {a : LinkedAdapter} (h : DescribesTransfers t d debug u a) (same : concurrency ≡ u.concurrency) {M : WasmModule} {p : ImportPlaces} {locals : List ValType} {kept taken : ℕ → Bool} (links : KnowsAdapterData M p d a) (given results args : List Slot)
    (x : ResultPlaces a given results args locals kept taken) (lift_size : tuple_size (linear_of d.lift).memory64 a.lift.results ≤ 4294967295) (lower_size : tuple_size (linear_of d.lower).memory64 a.lower.results ≤ 4294967295) {code : List Instr}
    (r : MovesResults d debug concurrency given results args taken a.lift.results a.lower.results M p locals code) where
  abbrev lift_flats : Option (List ValType)
  lift_flats = given_flats a

  abbrev lower_flats : Option (List ValType)
  lower_flats = flat_results a.lower

  abbrev lift_flat : Bool
  lift_flat = is_some (flat_values (linear_of d.lift).memory64 (lift_results_limit d.lift.options.async_) a.lift.results)

  abbrev lower_flat : Bool
  lower_flat = is_some (lowered_flats d.lower.options.async_ (linear_of d.lower).memory64 a.lower.results)

  lift_flat_is : lift_flat ≡ is_some lift_flats
  lift_flat_is = sym (λ i. is_some (flat_values (h.lift.wide i) (lift_results_limit (h.lift.mark i)) a.lift.results))

  lower_flat_is : lower_flat ≡ is_some lower_flats
  lower_flat_is = sym (λ i. is_some (lowered_flats (h.lower.mark i) (h.lower.wide i) a.lower.results))

  rest_kept : AreUsed kept x.rest
  rest_kept = used_behind kept x.front x.rest (subst (λ ss. AreUsed kept ss) x.args_are x.args_kept)

  rest_typed : AreLocals locals x.rest
  rest_typed = locals_behind locals x.front x.rest (subst (λ ss. AreLocals locals ss) x.args_are x.args_typed)

  lift_passed : (flats : Option (List ValType)) → HasTupleMemory M p d.lift a.lift flats → slot_types given ≡ flat_or (address (is_wide a.lift.memory) ∷ []) flats → (ls : Locals) (rs : List CoreValue) → AreHeld ls given rs
      → IsPassed flats M p (options_of a.lift) (linear_of d.lift) locals kept ls (last_local given) (first_bits rs)
  lift_passed (Some fs) m e ls rs g = record { by = tt }
  lift_passed None m e ls rs g = record {
    by = (m, subst (λ b. Pointed b locals kept ls (last_local given) (first_bits rs)) h.lift.wide (pointed (is_wide a.lift.memory) locals kept ls given rs e x.given_typed x.given_kept g));
  }

  -- the pointer is the last argument
  last_is : slot_types x.rest ≡ address (is_wide a.lower.memory) ∷ [] → last_local args ≡ last_local x.rest
  last_is e = ap last_local x.args_are ∙ last_slot x.front x.rest (address (is_wide a.lower.memory)) e

  lower_passed : (flats : Option (List ValType)) → HasTupleMemory M p d.lower a.lower flats → slot_types x.rest ≡ unless_flat (address (is_wide a.lower.memory) ∷ []) flats → (ls : Locals) (vs : List CoreValue) → AreHeld ls args vs
      → IsPassed flats M p (options_of a.lower) (linear_of d.lower) locals kept ls (last_local args) (last_bits vs)
  lower_passed (Some fs) m e ls vs g = record { by = tt }
  lower_passed None m e ls vs g =
      let parts = held_parts ls x.front x.rest vs (subst (λ ss. AreHeld ls ss vs) x.args_are g) in
      let (v, one) = one_held ls x.rest parts.rest (address (is_wide a.lower.memory)) e parts.in_rest in
      let is : last_bits vs ≡ first_bits parts.rest = ap last_bits parts.all ∙ last_value parts.front parts.rest v one in
      let point = pointed (is_wide a.lower.memory) locals kept ls x.rest parts.rest e rest_typed rest_kept parts.in_rest in
      record {
        by = (
          m,
          subst (λ b. Pointed b locals kept ls (last_local args) (last_bits vs)) h.lower.wide
              (subst (λ i. Pointed (is_wide a.lower.memory) locals kept ls i (last_bits vs)) (sym (last_is e)) (subst (λ n. Pointed (is_wide a.lower.memory) locals kept ls (last_local x.rest) n) (sym is) point)),
        );
      }

  from_kept : (flats : Option (List ValType)) (flat : Bool) → flat ≡ is_some flats → slot_types given ≡ flat_or (address (is_wide a.lift.memory) ∷ []) flats → FromUsed kept (tuple_from (linear_of d.lift) flat given)
  from_kept flats true f e = x.given_kept
  from_kept (Some fs) false f e = absurd (let no : false ≡ true = f in cc)
  from_kept None false f e = last_used kept given (address (is_wide a.lift.memory)) e x.given_kept

  to_kept : (flats : Option (List ValType)) (flat : Bool) → flat ≡ is_some flats → slot_types x.rest ≡ unless_flat (address (is_wide a.lower.memory) ∷ []) flats → ToUsed kept (tuple_to (linear_of d.lower) flat results args)
  to_kept flats true f e = tt
  to_kept (Some fs) false f e = absurd (let no : false ≡ true = f in cc)
  to_kept None false f e = ap kept (last_is e) ∙ last_used kept x.rest (address (is_wide a.lower.memory)) e rest_kept

  to_taken : (flat : Bool) → TargetTaken taken (tuple_to (linear_of d.lower) flat results args)
  to_taken true = x.results_taken
  to_taken false = tt

  to_distinct : (flat : Bool) → HasDistinctSlots (tuple_to (linear_of d.lower) flat results args)
  to_distinct true = x.results_distinct
  to_distinct false = tt

  result_locals : ResultLocals a lift_flats lower_flats given results locals kept
  result_locals = record {
    lift_is = refl;
    lower_is = refl;
    given_types = λ ts e. x.given_types ∙ ap (flat_or (address (is_wide a.lift.memory) ∷ [])) e;
    results_types = λ ts e. x.results_types ∙ ap (flat_or []) e;
    no_results = λ e. no_slots results (x.results_types ∙ ap (flat_or []) e);
    given_typed = x.given_typed;
    results_typed = x.results_typed;
    results_unused = x.results_unused;
  }

  results_using : Using taken kept (tuple_from (linear_of d.lift) lift_flat given) (tuple_to (linear_of d.lower) lower_flat results args)
  results_using = record {
    within = x.inside;
    from = from_kept lift_flats lift_flat lift_flat_is x.given_types;
    to = to_kept lower_flats lower_flat lower_flat_is x.rest_types;
    target = to_taken lower_flat;
    distinct = to_distinct lower_flat;
  }

  -- The code moves what the callee gave.
  pub results_do : (ls : Locals) (vs rs : List CoreValue) → held_types ls ≡ locals → AreHeld ls args vs → AreHeld ls given rs
      → Does M p Onward 464 0 [] ls code (move_results u a rs (last_bits vs)) (λ vs. []) (λ vs ls'. AreHeld ls' results vs × KeepsLocals kept ls ls')
  results_do ls vs rs held there g =
      subst (λ c. Does M p Onward 464 0 [] ls c (move_results u a rs (last_bits vs)) (λ vs. []) (λ vs ls'. AreHeld ls' results vs × KeepsLocals kept ls ls')) (sym r.is)
      (results_moved h same r.lift_check r.lower_check r.move lift_flats lower_flats lift_flat lower_flat given results args lift_flat_is lower_flat_is result_locals lift_size lower_size r.checks_lift r.checks_lower r.moves
      results_using links.results_lists ls rs (last_bits vs) held x.given_kept g (lift_passed lift_flats links.results_memory x.given_types ls rs g) (lower_passed lower_flats links.return_memory x.rest_types ls vs there))

  lift_reached : (flats : Option (List ValType)) → HasTupleMemory M p d.lift a.lift flats → slot_types given ≡ flat_or (address (is_wide a.lift.memory) ∷ []) flats → IsReached flats M p (options_of a.lift) (linear_of d.lift) locals (last_local given)
  lift_reached (Some fs) m e = record { by = tt }
  lift_reached None m e = record { by = (m, subst (λ b. slice_get locals (last_local given) ≡ Some (address_type b)) h.lift.wide (pointed_local (is_wide a.lift.memory) locals given e x.given_typed)) }

  lower_reached : (flats : Option (List ValType)) → HasTupleMemory M p d.lower a.lower flats → slot_types x.rest ≡ unless_flat (address (is_wide a.lower.memory) ∷ []) flats → IsReached flats M p (options_of a.lower) (linear_of d.lower) locals (last_local args)
  lower_reached (Some fs) m e = record { by = tt }
  lower_reached None m e =
      record { by = (m, ap (slice_get locals) (last_is e) ∙ subst (λ b. slice_get locals (last_local x.rest) ≡ Some (address_type b)) h.lower.wide (pointed_local (is_wide a.lower.memory) locals x.rest e rest_typed)) }

  pub results_code_typed : IsTyped M locals [] code [] (OnStack [])
  results_code_typed =
      subst (λ c. IsTyped M locals [] c [] (OnStack [])) (sym r.is)
      (results_typed h same r.lift_check r.lower_check r.move lift_flats lower_flats lift_flat lower_flat given results args lift_flat_is lower_flat_is result_locals lift_size lower_size r.checks_lift r.checks_lower r.moves
      results_using (lift_reached lift_flats links.results_memory x.given_types) (lower_reached lower_flats links.return_memory x.rest_types) links.results_lists)

-- ---- values behind those of the results

-- The move reads the callee's results alone, whatever values stand behind them.
pub results_front : (u : AdapterTunables) (a : LinkedAdapter) (ls : Locals) (given : List Slot) (rs more : List CoreValue) (pointer : ℕ) → AreCounted (tuple_members a.lift.results) → slot_types given ≡ flat_or (address (is_wide a.lift.memory) ∷ []) (given_flats a) → AreHeld ls given rs → length rs ≡ length given
    → move_results u a (rs ++ more) pointer ≡ move_results u a rs pointer
results_front u a ls given rs more pointer counted types g long = go (given_flats a) refl types
  where
    go : (fs : Option (List ValType)) → given_flats a ≡ fs → slot_types given ≡ flat_or (address (is_wide a.lift.memory) ∷ []) fs → move_results u a (rs ++ more) pointer ≡ move_results u a rs pointer
    go (Some flats) e types =
        let gs = flat_results a.lower in
        let one = given_flat (is_wide a.lift.memory) a.lift.async_side a.lift.results flats e in
        let same = fields_front (results_transfer u a) (tuple_members a.lift.results) (tuple_members a.lower.results) 0 rs more (passed_to gs pointer) counted one.few
        (long ∙ sym (slots_long given) ∙ ap length (types ∙ one.are) ∙ values_long (flat_members (width (is_wide a.lift.memory)) (tuple_members a.lift.results))) in
        results_are u a (rs ++ more) pointer (Some flats) gs e refl ∙ ap (passed gs (options_of a.lower) a.lower.results pointer) same ∙ sym (results_are u a rs pointer (Some flats) gs e refl)
    go None e types =
        let gs = flat_results a.lower in
        let first : first_bits (rs ++ more) ≡ first_bits rs = first_same rs more ls given (address (is_wide a.lift.memory)) types g in
        results_are u a (rs ++ more) pointer None gs e refl
        ∙ ap (λ n. passed None (options_of a.lift) a.lift.results n (passed gs (options_of a.lower) a.lower.results pointer (fields u a (AtAddress n) (passed_to gs pointer)))) first
        ∙ sym (results_are u a rs pointer None gs e refl)
