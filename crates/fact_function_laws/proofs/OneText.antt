-- The worked module of a list of texts: its run is computed, and all that is asked of it holds.
use Rattle.std.proofs.Common.{◌≡◌, ℕ, false, true, Some, List, [], ◌∷◌, ◌++◌, refl, sym, ap, ◌∙◌, subst, arith, inl, inr}
use Rattle.std.specs.Prelude.{codes}
use Rattle.std.specs.Char.{encode_utf8}
use Rattle.std.specs.Fmt.{digits}
use Rattle.std.specs.List.{AllByRecursion}
use Rattle.std.specs.Str.{chars, is_utf8}
use Rattle.std.proofs.lemmas.Bool.{leb-true}
use Rattle.std.proofs.lemmas.List.Elements.{All-from_recursion}
use Rattle.fact_wasm.specs.declared.instr.BlockType.TheVariants.{Empty}
use Rattle.fact_wasm.specs.declared.instr.FuncName.TheVariants as func
use Rattle.fact_wasm.specs.declared.instr.Instr.TheVariants as I
use Rattle.fact_machine.specs.declared.types.Answer.TheVariants.{Returns}
use Rattle.fact_machine.specs.declared.types.CoreValue.TheVariants.{I32}
use Rattle.fact_machine.specs.declared.types.End.TheVariants.{Returned, Going}
use Rattle.fact_machine.specs.declared.types.Event.{Event}
use Rattle.fact_machine.specs.declared.types.MachineState.{MachineState}
use Rattle.fact_machine.specs.declared.types.Outcome.{Outcome}
use Rattle.fact_machine.specs.Machine.{run_of}
use Rattle.fact_machine.specs.Typed.{TypedAnswer}
use Rattle.fact_machine.proofs.TypedTests.{answer_decided, state_decided, values_decided}
use Rattle.fact_types.specs.declared.import.Import.{Import}
use Rattle.fact_types.specs.declared.import.Import.TheVariants as known
use Rattle.fact_types.specs.declared.outside.FixedEncoding.TheVariants.{Utf8}
use Rattle.fact_types.specs.declared.outside.Transcode.TheVariants.{Copy}
use Rattle.fact_types.specs.Layout.{aligned}
use Rattle.fact_values.specs.declared.value.Value.TheVariants as value
use Rattle.fact_values.specs.Lift.{bits_of, lift_leading, lift_members}
use Rattle.fact_values.specs.Limits.{AreWithinAt, AreWithinLimits}
use Rattle.fact_values.specs.Load.{load_members}
use Rattle.fact_values.specs.UpperHalves.{IsNarrowThroughout}
use Rattle.fact_values.specs.Weight.{weight, weight_members}
use Rattle.fact_actions.specs.Adapters.{AdapterTunables}
use Rattle.fact_actions.specs.Calls.{is_import_of}
use Rattle.fact_actions.specs.Honest.{AreHonestSync, IsHonestTranscode}
use Rattle.fact_actions.specs.Regions.{IsHonestRegion, Region, params_landing}
use Rattle.fact_actions.specs.Running.{ImportPlaces, Call}
use Rattle.fact_action_laws.specs.Faithful.{IsInLimits, ResultsAreThere, whole_weight}
use Rattle.fact_action_laws.specs.PassingChecks.{PassChecks}
use Rattle.fact_emit.specs.ImportSection.{Callee, Flags, NamesImports, Realloc, Storage}
use Rattle.fact_function_laws.specs.Names.{places_in, AreCalls}
use Rattle.fact_function_laws.specs.Runs.{IsHonestSoFar}
use Rattle.fact_function_laws.specs.WorkedTexts.{OneTextArrives, list_moved, none_moved, place, pointer_and_length, text_moved, texts_adapter, texts_answers, texts_args, texts_callee, texts_calls, texts_export, texts_imports, texts_module, texts_realloc, texts_state, texts_transcoder, texts_list_aligned, texts_list_fits, texts_list_within, texts_may_leave, texts_region_aligned, texts_region_within, texts_text_fits, texts_text_region_within, texts_text_within, texts_turn, texts_turns}
use Rattle.fact_function_laws.proofs.FineRuns.{IsFine, fine_run, in_middle}
use Rattle.fact_function_laws.proofs.NamedImports.{imports_apart, no_start_calls, transcoders_named, types_apart}
use Rattle.fact_function_laws.proofs.Replayed.{Row, row, run_by}

abbrev p : ImportPlaces
p = places_in texts_module texts_imports

abbrev first : MachineState
first = texts_state 1 none_moved

-- ---- the run

abbrev first_rows : List Row
first_rows =
    row _ (I.outs-Block Empty texts_may_leave) ∷ row _ (I.outs-GlobalGet 1) ∷ row _ (I.outs-LocalTee 2) ∷ row _ (I.outs-BrIf 0)
    ∷ row _ (I.outs-GlobalGet 0) ∷ row _ (I.outs-LocalSet 3) ∷ row _ (I.outs-I32Const 0) ∷ row _ (I.outs-GlobalSet 0) ∷ row _ (I.outs-LocalGet 0)
    ∷ row _ I.outs-I64ExtendI32U ∷ row _ (I.outs-LocalSet 6) ∷ row _ (I.outs-LocalGet 1) ∷ row _ I.outs-I64ExtendI32U ∷ row _ (I.outs-LocalSet 7)
    ∷ row _ (I.outs-Block Empty texts_list_fits) ∷ row _ (I.outs-LocalGet 7) ∷ row _ (I.outs-I64Const 536870912) ∷ row _ I.outs-I64LtU
    ∷ row _ (I.outs-BrIf 0) ∷ row _ (I.outs-Block Empty texts_list_fits) ∷ row _ (I.outs-LocalGet 7) ∷ row _ (I.outs-I64Const 536870912)
    ∷ row _ I.outs-I64LtU ∷ row _ (I.outs-BrIf 0) ∷ row _ (I.outs-LocalGet 7) ∷ row _ (I.outs-I64Const 8) ∷ row _ I.outs-I64Mul
    ∷ row _ (I.outs-LocalSet 8) ∷ row _ (I.outs-Block Empty texts_list_aligned) ∷ row _ (I.outs-LocalGet 6) ∷ row _ (I.outs-I64Const 3)
    ∷ row _ I.outs-I64And ∷ row _ I.outs-I64Eqz ∷ row _ (I.outs-BrIf 0) ∷ row _ (I.outs-MemorySize 1) ∷ row _ I.outs-I64ExtendI32U
    ∷ row _ (I.outs-I64Const 1) ∷ row _ I.outs-I64Mul ∷ row _ (I.outs-LocalSet 10) ∷ row _ (I.outs-Block Empty texts_list_within)
    ∷ row _ (I.outs-LocalGet 10) ∷ row _ (I.outs-LocalGet 8) ∷ row _ I.outs-I64GeU ∷ row _ (I.outs-LocalGet 10) ∷ row _ (I.outs-LocalGet 8)
    ∷ row _ I.outs-I64Sub ∷ row _ (I.outs-LocalGet 6) ∷ row _ I.outs-I64GeU ∷ row _ I.outs-I32And ∷ row _ (I.outs-BrIf 0) ∷ row _ (I.outs-LocalGet 7)
    ∷ row _ (I.outs-I64Const 8) ∷ row _ I.outs-I64Mul ∷ row _ (I.outs-LocalSet 8) ∷ row _ (I.outs-I32Const 0) ∷ row _ (I.outs-I32Const 0)
    ∷ row _ (I.outs-I32Const 4) ∷ row _ (I.outs-LocalGet 8) ∷ row _ I.outs-I32WrapI64 ∷ row _ (I.outs-Call (func.Import 0))
    ∷ row _ I.outs-I64ExtendI32U ∷ row _ (I.outs-LocalSet 9) ∷ row _ (I.outs-Block Empty texts_region_aligned) ∷ row _ (I.outs-LocalGet 9)
    ∷ row _ (I.outs-I64Const 3) ∷ row _ I.outs-I64And ∷ row _ I.outs-I64Eqz ∷ row _ (I.outs-BrIf 0) ∷ row _ (I.outs-MemorySize 0)
    ∷ row _ I.outs-I64ExtendI32U ∷ row _ (I.outs-I64Const 1) ∷ row _ I.outs-I64Mul ∷ row _ (I.outs-LocalSet 10)
    ∷ row _ (I.outs-Block Empty texts_region_within) ∷ row _ (I.outs-LocalGet 10) ∷ row _ (I.outs-LocalGet 8) ∷ row _ I.outs-I64GeU
    ∷ row _ (I.outs-LocalGet 10) ∷ row _ (I.outs-LocalGet 8) ∷ row _ I.outs-I64Sub ∷ row _ (I.outs-LocalGet 9) ∷ row _ I.outs-I64GeU
    ∷ row _ I.outs-I32And ∷ row _ (I.outs-BrIf 0) ∷ row _ (I.outs-LocalGet 6) ∷ row _ I.outs-I32WrapI64 ∷ row _ (I.outs-LocalSet 12)
    ∷ row _ (I.outs-LocalGet 9) ∷ row _ I.outs-I32WrapI64 ∷ row _ (I.outs-LocalSet 13) ∷ row _ (I.outs-LocalGet 7) ∷ row _ (I.outs-LocalSet 11)
    ∷ row _ (I.outs-Block Empty texts_turns) ∷ row _ (I.outs-Loop Empty texts_turn) ∷ row _ (I.outs-LocalGet 11) ∷ row _ I.outs-I64Eqz
    ∷ row _ (I.outs-BrIf 1) ∷ row _ (I.outs-LocalGet 12) ∷ row _ (I.outs-I32Load (place 0 2 1)) ∷ row _ I.outs-I64ExtendI32U
    ∷ row _ (I.outs-LocalSet 16) ∷ row _ (I.outs-LocalGet 12) ∷ row _ (I.outs-I32Load (place 4 2 1)) ∷ row _ I.outs-I64ExtendI32U
    ∷ row _ (I.outs-LocalSet 17) ∷ row _ (I.outs-LocalGet 17) ∷ row _ (I.outs-I64Const 1) ∷ row _ I.outs-I64Mul ∷ row _ I.outs-I32WrapI64
    ∷ row _ I.outs-I64ExtendI32U ∷ row _ (I.outs-LocalSet 21) ∷ row _ (I.outs-MemorySize 1) ∷ row _ I.outs-I64ExtendI32U ∷ row _ (I.outs-I64Const 1)
    ∷ row _ I.outs-I64Mul ∷ row _ (I.outs-LocalSet 23) ∷ row _ (I.outs-Block Empty texts_text_within) ∷ row _ (I.outs-LocalGet 23)
    ∷ row _ (I.outs-LocalGet 21) ∷ row _ I.outs-I64GeU ∷ row _ (I.outs-LocalGet 23) ∷ row _ (I.outs-LocalGet 21) ∷ row _ I.outs-I64Sub
    ∷ row _ (I.outs-LocalGet 16) ∷ row _ I.outs-I64GeU ∷ row _ I.outs-I32And ∷ row _ (I.outs-BrIf 0) ∷ row _ (I.outs-I64Const 0)
    ∷ row _ (I.outs-LocalSet 18) ∷ row _ (I.outs-I64Const 0) ∷ row _ (I.outs-LocalSet 19) ∷ row _ (I.outs-I64Const 0) ∷ row _ (I.outs-LocalSet 20)
    ∷ row _ (I.outs-Block Empty texts_text_fits) ∷ row _ (I.outs-LocalGet 17) ∷ row _ (I.outs-I64Const 2147483648) ∷ row _ I.outs-I64LtU
    ∷ row _ (I.outs-BrIf 0) ∷ row _ (I.outs-LocalGet 17) ∷ row _ (I.outs-I64Const 0) ∷ row _ I.outs-I64Mul ∷ row _ I.outs-I32WrapI64
    ∷ row _ I.outs-I64ExtendI32U ∷ row _ (I.outs-LocalSet 22) ∷ row _ (I.outs-LocalGet 17) ∷ row _ (I.outs-I64Const 1) ∷ row _ I.outs-I64Mul
    ∷ row _ I.outs-I32WrapI64 ∷ row _ I.outs-I64ExtendI32U ∷ row _ (I.outs-LocalSet 21) ∷ row _ (I.outs-LocalGet 19) ∷ row _ I.outs-I32WrapI64
    ∷ row _ (I.outs-LocalGet 22) ∷ row _ I.outs-I32WrapI64 ∷ row _ (I.outs-I32Const 1) ∷ row _ (I.outs-LocalGet 21) ∷ row _ I.outs-I32WrapI64
    ∷ row _ (I.outs-Call (func.Import 0)) ∷ row _ I.outs-I64ExtendI32U ∷ row _ (I.outs-LocalSet 19) ∷ row _ (I.outs-MemorySize 0)
    ∷ row _ I.outs-I64ExtendI32U ∷ row _ (I.outs-I64Const 1) ∷ row _ I.outs-I64Mul ∷ row _ (I.outs-LocalSet 23)
    ∷ row _ (I.outs-Block Empty texts_text_region_within) ∷ row _ (I.outs-LocalGet 23) ∷ row _ (I.outs-LocalGet 21) ∷ row _ I.outs-I64GeU
    ∷ row _ (I.outs-LocalGet 23) ∷ row _ (I.outs-LocalGet 21) ∷ row _ I.outs-I64Sub ∷ row _ (I.outs-LocalGet 19) ∷ row _ I.outs-I64GeU
    ∷ row _ I.outs-I32And ∷ row _ (I.outs-BrIf 0) ∷ row _ (I.outs-LocalGet 16) ∷ row _ I.outs-I32WrapI64 ∷ row _ (I.outs-LocalGet 17)
    ∷ row _ I.outs-I32WrapI64 ∷ row _ (I.outs-LocalGet 19) ∷ row _ I.outs-I32WrapI64 ∷ row _ (I.outs-Call (func.Import 6))
    ∷ row _ (I.outs-LocalGet 17) ∷ row _ (I.outs-LocalSet 20) ∷ row _ (I.outs-LocalGet 13) ∷ row _ (I.outs-LocalGet 19) ∷ row _ I.outs-I32WrapI64
    ∷ row _ (I.outs-I32Store (place 0 2 0)) ∷ row _ (I.outs-LocalGet 13) ∷ row _ (I.outs-LocalGet 20) ∷ row _ I.outs-I32WrapI64
    ∷ row _ (I.outs-I32Store (place 4 2 0)) ∷ row _ (I.outs-LocalGet 12) ∷ row _ (I.outs-I32Const 8) ∷ row _ I.outs-I32Add
    ∷ row _ (I.outs-LocalSet 12) ∷ row _ (I.outs-LocalGet 13) ∷ row _ (I.outs-I32Const 8) ∷ row _ I.outs-I32Add ∷ row _ (I.outs-LocalSet 13)
    ∷ row _ (I.outs-LocalGet 11) ∷ row _ (I.outs-I64Const 1) ∷ row _ I.outs-I64Sub ∷ row _ (I.outs-LocalSet 11) ∷ row _ (I.outs-Br 0)
    ∷ row _ (I.outs-Loop Empty texts_turn) ∷ row _ (I.outs-LocalGet 11) ∷ row _ I.outs-I64Eqz ∷ row _ (I.outs-BrIf 1) ∷ row _ (I.outs-LocalGet 9)
    ∷ row _ I.outs-I32WrapI64 ∷ row _ (I.outs-LocalSet 4) ∷ row _ (I.outs-LocalGet 7) ∷ row _ I.outs-I32WrapI64 ∷ row _ (I.outs-LocalSet 5)
    ∷ row _ (I.outs-LocalGet 4) ∷ row _ (I.outs-LocalGet 5) ∷ row _ (I.outs-LocalGet 3) ∷ row _ (I.outs-GlobalSet 0)
    ∷ row _ (I.outs-Call (func.Import 1)) ∷ row _ (I.outs-I32Const 0) ∷ row _ (I.outs-GlobalSet 1) ∷ row _ (I.outs-LocalGet 2) ∷ []

abbrev last_row : List Row
last_row = row _ (I.outs-GlobalSet 1) ∷ []

abbrev events : List Event
events =
    record { func = 0; args = I32 0 ∷ I32 0 ∷ I32 4 ∷ I32 8 ∷ []; before = texts_state 0 none_moved; answer = Returns (I32 0 ∷ []) (texts_state 0 none_moved) }
    ∷ record { func = 0; args = I32 0 ∷ I32 0 ∷ I32 1 ∷ I32 1 ∷ []; before = texts_state 0 none_moved; answer = Returns (I32 8 ∷ []) (texts_state 0 none_moved) }
    ∷ record { func = 6; args = I32 8 ∷ I32 1 ∷ I32 8 ∷ []; before = texts_state 0 none_moved; answer = Returns [] (texts_state 0 text_moved) }
    ∷ record { func = 1; args = I32 0 ∷ I32 1 ∷ []; before = texts_state 1 list_moved; answer = Returns [] (texts_state 1 list_moved) }
    ∷ []

abbrev returned : Outcome
returned = record { end = Returned []; state = texts_state 1 list_moved; log = events }

ran : run_of texts_module 0 texts_args first texts_answers 225 ≡ returned
ran = run_by texts_module 0 texts_args first texts_answers (first_rows ++ last_row) 225 refl refl

goes_on : (run_of texts_module 0 texts_args first texts_answers 224).end ≡ Going
goes_on = ap (λ (x : Outcome). x.end) (run_by texts_module 0 texts_args first texts_answers first_rows 224 refl refl)

-- ---- honest answers

abbrev IsGiven : (size align q : ℕ) → (live : List Region) → Type 0
IsGiven size align q live =
    IsHonestRegion p (record { landing = params_landing texts_adapter; live = live })
    (record { what = known.CoreDef texts_realloc; args = I32 0 ∷ I32 0 ∷ I32 align ∷ I32 size ∷ []; before = texts_state 0 none_moved; answer = Returns (I32 q ∷ []) (texts_state 0 none_moved) })

-- the region of the list, where there is none yet, and that of the text, which is apart from it
list_given : IsGiven 8 4 0 []
unfolding aligned
list_given = record { sound = record { aligned = refl; inside = leb-true 8 9 refl }; apart = λ j i k. k; holds = λ j i k. omega (arith, i); others = λ j k. absurd k; source = refl }

text_given : IsGiven 1 1 8 (record { at = 0; size = 8; align = 4 } ∷ [])
unfolding aligned
text_given = record {
  sound = record { aligned = refl; inside = leb-true 9 9 refl };
  apart = λ j i k. elim k [ inl l ↦ omega (arith, i.0, l.1) | inr none ↦ none ];
  holds = λ j i k. omega (arith, i);
  others = λ j k. refl;
  source = refl;
}

abbrev copy_call : Call
copy_call = record { what = texts_transcoder; args = I32 8 ∷ I32 1 ∷ I32 8 ∷ []; before = texts_state 0 none_moved; answer = Returns [] (texts_state 0 text_moved) }

text_copied : IsHonestTranscode p (Copy Utf8) (texts_export 0 (codes "memory")) (texts_export 1 (codes "memory")) copy_call
unfolding encode_utf8
text_copied = record {
  bytes = 0x61 ∷ [];
  transcoding = record { text = 0x61 ∷ []; rest = []; reads = refl; can_read = (refl, tt); can_write = (refl, tt); stops = refl; writes = refl; answers = refl };
  inside = leb-true 9 9 refl;
  written = refl;
}

are_honest : AreHonestSync p texts_adapter texts_args texts_calls
are_honest = (
  tt,
  (λ e. list_given, λ e. let bad : false ≡ true = e in cc),
  (tt, (λ e. text_given, λ e. let bad : false ≡ true = e in cc), (tt, text_copied, (tt, (λ e. let bad : false ≡ true = e in cc, λ e. let bad : false ≡ true = e in cc), tt))),
)

abbrev honest : IsHonestSoFar texts_module texts_imports texts_adapter texts_args first events
honest = record {
  typed = record {
    state = (state_decided texts_module first).0 refl;
    arguments = (values_decided texts_args pointer_and_length.params).0 refl;
    answers = All-from_recursion (λ (e : Event). TypedAnswer texts_module e.func e.before e.answer) events (
      (answer_decided texts_module 0 (texts_state 0 none_moved) (Returns (I32 0 ∷ []) (texts_state 0 none_moved))).0 refl,
      (
        (answer_decided texts_module 0 (texts_state 0 none_moved) (Returns (I32 8 ∷ []) (texts_state 0 none_moved))).0 refl,
        ((answer_decided texts_module 6 (texts_state 0 none_moved) (Returns [] (texts_state 0 text_moved))).0 refl, ((answer_decided texts_module 1 (texts_state 1 list_moved) (Returns [] (texts_state 1 list_moved))).0 refl, tt)),
      ),
    );
  };
  calls = texts_calls;
  are_calls = (
    record { what = refl; args = refl; before = refl; answer = refl },
    (record { what = refl; args = refl; before = refl; answer = refl }, (record { what = refl; args = refl; before = refl; answer = refl }, (record { what = refl; args = refl; before = refl; answer = refl }, tt))),
  );
  honest = are_honest;
}

-- ---- within limits, and as debug checks ask

abbrev IsThere : Call → Type 0
IsThere c = c.what ≡ known.CoreDef texts_callee → ResultsAreThere p texts_adapter c

is_other : (i : Import) → is_import_of texts_callee i ≡ false → i ≡ known.CoreDef texts_callee → ⊥
is_other i other e = let bad : false ≡ true = sym other ∙ ap (is_import_of texts_callee) e in cc

limits : IsInLimits p texts_adapter texts_args first texts_calls
unfolding aligned lift_leading lift_members load_members AreWithinLimits AreWithinAt encode_utf8 chars is_utf8
limits = record {
  may_leave = λ e. let bad : 1 ≡ 0 = ap bits_of e in omega (arith, bad);
  params = record {
    values = value.List (value.Str (0x61 ∷ []) ∷ []) ∷ [];
    there = refl;
    bounds = (record { source = leb-true 9 4294967296 refl; destination = leb-true 9 4294967296 refl; each = (leb-true 1 2147483647 refl, tt) }, tt);
  };
  area = tt;
  results = λ before c behind e. in_middle IsThere before c behind (subst (AllByRecursion IsThere) e (
    λ what. absurd (is_other (known.CoreDef texts_realloc) refl what),
    (λ what. absurd (is_other (known.CoreDef texts_realloc) refl what), (λ what. absurd (is_other texts_transcoder refl what), (λ what. record { values = []; there = refl; bounds = tt }, tt))),
  ));
}

checks : (u : AdapterTunables) (calls : List Call) → PassChecks u texts_adapter texts_args calls
unfolding IsNarrowThroughout
checks u calls = record { params = λ debug. (((refl, (refl, tt)), tt), tt); results = λ debug before callee behind e what. tt }

weighs : whole_weight p texts_adapter texts_args first texts_calls ≡ 2
unfolding aligned lift_leading lift_members load_members weight weight_members encode_utf8 chars is_utf8
weighs = simp (value.outs-List)

-- ---- names

names : NamesImports texts_module texts_imports (texts_adapter ∷ [])
unfolding digits
names = record {
  defs = refl;
  named = (
    (Flags 1, (0, leb-true 1 6 refl, refl), refl),
    (
      (Storage false 0, (1, leb-true 2 6 refl, refl), refl),
      (
        (Realloc false, (2, leb-true 3 6 refl, refl), record { is_from = refl; is_named = refl; is_typed = refl }),
        (
          (Flags 0, (3, leb-true 4 6 refl, refl), refl),
          (
            (Storage false 0, (4, leb-true 5 6 refl, refl), refl),
            ((Callee texts_adapter.name pointer_and_length, (5, leb-true 6 6 refl, refl), record { is_from = refl; is_named = refl; is_typed = refl }), (record { is_from = refl; is_named = refl; is_typed = refl }, (record { is_from = refl; is_named = refl; is_typed = refl }, (record { is_from = refl; is_named = refl; is_typed = refl }, (record { is_from = refl; is_named = refl; is_typed = refl }, (refl, tt)))))),
          ),
        ),
      ),
    ),
  );
  transcoders = transcoders_named texts_module.types texts_module.imports texts_imports (
    tt,
    (tt, (tt, (tt, (tt, (tt, (tt, (tt, (tt, (tt, (record { from_place = 1; to_place = 0; from_there = refl; to_there = refl; from_wide = record { page = Some 0; imported = refl }; to_wide = record { page = Some 0; imported = refl }; is = record { is_from = refl; is_named = refl; is_typed = refl } }, tt)))))))))),
  );
  task_calls = record {
    starts = no_start_calls texts_module.types (texts_adapter ∷ []) texts_module.imports texts_imports (tt, (tt, (tt, (tt, (tt, (tt, (tt, (tt, (tt, (tt, (tt, tt))))))))))) (refl, tt);
    prepares = tt;
  };
  once = imports_apart texts_imports refl;
  signatures = types_apart texts_module.types refl;
}

-- ---- the whole

fine : (steps : ℕ) → IsFine texts_module texts_imports texts_adapter texts_args first (run_of texts_module 0 texts_args first texts_answers steps).log
fine = fine_run texts_module texts_imports texts_adapter texts_args first 0 texts_answers 225 returned ran (λ e. let bad : Returned [] ≡ Going = e in cc) (honest, limits)

pub one_text_arrives : OneTextArrives
one_text_arrives = record {
  names = names;
  honest = λ steps. (fine steps).0;
  checks = λ u steps. checks u (fine steps).0.calls;
  limits = λ steps. (fine steps).1;
  going = goes_on;
  returned = ap (λ (x : Outcome). x.end) ran;
  are_calls = subst (λ (x : Outcome). AreCalls texts_module texts_imports x.log texts_calls) (sym ran) honest.are_calls;
  weighs = weighs;
  bound = leb-true 225 3000 refl;
}
