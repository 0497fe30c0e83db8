-- Worked adapters at work, with honest answers: what the laws of sync adapters ask of a run holds of each, so that they say
-- something of it.
use Rattle.std.proofs.Common.{◌≡◌, ℕ, zero, suc, ◌<◌, ◌≤◌, true, false, List, [], ◌∷◌, ◌++◌, map, Option, None, refl, sym, ap, subst, arith}
use Rattle.std.specs.Prelude.{codes, replicate}
use Rattle.std.specs.List.{AllByRecursion, Contains}
use Rattle.std.proofs.lemmas.Bool.{leb-true}
use Rattle.fact_entity.specs.declared.id.Id.{Id}
use Rattle.fact_entity.specs.declared.table.RuntimeInstances.{RuntimeInstances}
use Rattle.fact_types.specs.declared.import.Import.{Import}
use Rattle.fact_types.specs.declared.import.Import.TheVariants as import
use Rattle.fact_types.specs.declared.interface.InterfaceType.TheVariants as ty
use Rattle.fact_types.specs.declared.outside.StringEncoding.{StringEncoding}
use Rattle.fact_types.specs.declared.outside.StringEncoding.TheVariants as string
use Rattle.fact_types.specs.declared.outside.Trap.TheVariants as trap
use Rattle.fact_types.specs.Adapters.{LinkedAdapter}
use Rattle.fact_types.specs.Layout.{aligned}
use Rattle.fact_types.proofs.ShapeLaws.{none_some}
use Rattle.fact_types.specs.Shapes.{Shape}
use Rattle.fact_machine.specs.declared.types.CoreValue.{CoreValue}
use Rattle.fact_machine.specs.declared.types.CoreValue.TheVariants.{I32}
use Rattle.fact_machine.specs.declared.types.MachineState.{MachineState}
use Rattle.fact_machine.specs.declared.types.Answer.{Answer}
use Rattle.fact_machine.specs.declared.types.Answer.TheVariants.{Returns}
use Rattle.fact_machine.specs.declared.types.End.{End}
use Rattle.fact_machine.specs.declared.types.End.TheVariants.{Returned, Trapped}
use Rattle.fact_machine.specs.Exits.{first_world}
use Rattle.fact_values.specs.Lift.{lift_leading, bits_of}
use Rattle.fact_values.specs.Limits.{AreWithinLimits}
use Rattle.fact_values.specs.Tuples.{lift_result_values}
use Rattle.fact_values.specs.declared.value.Value.{Value}
use Rattle.fact_actions.specs.Calls.{is_import_of, is_call_of, results, state_after, side_memory}
use Rattle.fact_actions.specs.Honest.{IsHonestRun}
use Rattle.fact_actions.specs.Moves.{move_fields}
use Rattle.fact_actions.specs.Order.{asks}
use Rattle.fact_actions.specs.Plain.{ended_sync, named_outcome}
use Rattle.fact_actions.specs.Regions.{Region, params_landing, IsHonestRegion}
use Rattle.fact_actions.specs.Running.{ImportPlaces, Call, Ended, calls_in}
use Rattle.fact_actions.specs.Sides.{options_of}
use Rattle.fact_action_laws.specs.Faithful.{params_given, ParamsAreThere, IsInLimits}
use Rattle.fact_action_laws.specs.FaithfulLaws.{IsCheckedAdapter, HasSyncSides}
use Rattle.fact_action_laws.proofs.WorkedAdapters.{exported, taking, places, state, words, off, fields, list, x_y, z_y_x, shorts_fine, a_b_fine, b_a_fine, x_y_fine, z_y_x_fine, x_alone, x_or_text, x_alone_fine, x_or_text_fine, taking_checked}

module _ (instances : Id RuntimeInstances) where
  abbrev pub at : ImportPlaces
  at = places instances

  abbrev pub of_run : LinkedAdapter → (args : List CoreValue) → MachineState → (answers : List Answer) → Ended (List CoreValue)
  of_run a args s answers = ended_sync at off a args (first_world s answers)

  -- what the laws ask of a run, beside that texts move as they are to
  pub record MeetsLaws (a : LinkedAdapter) (args : List CoreValue) (s : MachineState) (answers : List Answer) : Type 0 where
    pub checked : IsCheckedAdapter at a
    pub sides : HasSyncSides a
    pub honest : IsHonestRun at a args s (of_run a args s answers)
    pub limits : IsInLimits at a args s (calls_in (of_run a args s answers))

  -- how a run ends, and the calls that it made
  abbrev pub shown : Ended (List CoreValue) → End × List (Import × List CoreValue)
  shown e = ((named_outcome e).end, map asks (calls_in e))

  abbrev pub callee_of : List CoreValue → Import × List CoreValue
  callee_of args = (import.CoreDef (exported instances 1 (codes "run")), args)

  abbrev pub realloc_of : List ℕ → Import × List CoreValue
  realloc_of args = (import.CoreDef (exported instances 1 (codes "realloc")), words args)

  -- ---- within limits

  -- the callee gives nothing, where a call is its
  abbrev pub GivesNone : Call → Type 0
  GivesNone k = is_call_of (exported instances 1 (codes "run")) k ≡ true → results k ≡ []

  in_middle : (before : List Call) (k : Call) (behind : List Call) → AllByRecursion GivesNone (before ++ (k ∷ behind)) → GivesNone k
  in_middle [] k behind h = h.0
  in_middle (x ∷ before) k behind h = in_middle before k behind h.1

  pub within_by : (from to : StringEncoding) (ts us : List Shape) (args : List CoreValue) (lift lower : List ℕ) (calls : List Call) → ParamsAreThere at (taking instances from to ts us) args (state 1 1 lift lower) → AllByRecursion GivesNone calls
      → IsInLimits at (taking instances from to ts us) args (state 1 1 lift lower) calls
  unfolding AreWithinLimits
  within_by from to ts us args lift lower calls params all = record {
    may_leave = λ e. let bad : 1 ≡ 0 = ap bits_of e in omega (arith, bad);
    params = params;
    area = tt;
    results = λ before k behind e is.
        let none : results k ≡ [] = in_middle before k behind (subst (AllByRecursion GivesNone) e all) (ap (is_import_of (exported instances 1 (codes "run"))) is) in
        record { values = []; there = ap (λ vs. results_of (side_memory at (options_of (taking instances from to ts us).lift) (state_after k)) to vs) none; bounds = tt };
  }
    where
      results_of : List ℕ → StringEncoding → List CoreValue → Option (List Value)
      results_of bytes to vs = lift_result_values false (record { memory64 = false; encoding = to }) bytes [] vs

  -- ---- records and variants

  abbrev plain_state : MachineState
  plain_state = state 1 1 [] []

  abbrev turned : LinkedAdapter
  turned = taking instances string.Utf8 string.Utf8 (fields (codes "a") ty.U8 (codes "b") ty.U32 ∷ []) (fields (codes "b") ty.U32 (codes "a") ty.U8 ∷ [])

  record_arrives : shown (of_run turned (words (511 ∷ 7 ∷ [])) plain_state (Returns [] plain_state ∷ [])) ≡ (Returned [], callee_of (words (7 ∷ 255 ∷ [])) ∷ [])
  unfolding move_fields aligned
  record_arrives = refl

  record_meets : MeetsLaws turned (words (511 ∷ 7 ∷ [])) plain_state (Returns [] plain_state ∷ [])
  unfolding move_fields aligned lift_leading AreWithinLimits
  record_meets = record {
    checked = taking_checked instances string.Utf8 string.Utf8 _ _ a_b_fine b_a_fine (record { fields = ((refl, (refl, tt))); names = names }, tt);
    sides = record { lower = refl; lift = refl };
    honest = record { state_typed = refl; args_typed = refl; typed = tt; honest = (tt, (λ e. let bad : false ≡ true = e in cc, λ e. let bad : false ≡ true = e in cc), tt) };
    limits = within_by string.Utf8 string.Utf8 _ _ (words (511 ∷ 7 ∷ [])) [] [] _ (record { values = _; there = refl; bounds = ((tt, (tt, tt)), tt) }) (λ e. refl, tt);
  }
    where
      names : (x : List ℕ) → Contains (codes "a" ∷ codes "b" ∷ []) x → Contains (codes "b" ∷ codes "a" ∷ []) x
      names x (zero, lt, e) = (1, leb-true 2 2 refl, e)
      names x (suc zero, lt, e) = (0, leb-true 1 2 refl, e)
      names x (suc (suc k), lt, e) = absurd (omega (arith, lt))

  abbrev more_cases : LinkedAdapter
  more_cases = taking instances string.Utf8 string.Utf8 (x_y ∷ []) (z_y_x ∷ [])

  cases_arrive : (map (λ args. shown (of_run more_cases args plain_state (Returns [] plain_state ∷ []))) (words (0 ∷ 9 ∷ []) ∷ words (1 ∷ 5 ∷ []) ∷ words (2 ∷ 0 ∷ []) ∷ []))
      ≡ (Returned [], callee_of (words (2 ∷ 9 ∷ [])) ∷ []) ∷ (Returned [], callee_of (words (1 ∷ 0 ∷ [])) ∷ []) ∷ (Trapped, (import.Trap trap.InvalidDiscriminant, []) ∷ []) ∷ []
  unfolding move_fields aligned
  cases_arrive = refl

  first_case_meets : MeetsLaws more_cases (words (0 ∷ 9 ∷ [])) plain_state (Returns [] plain_state ∷ [])
  unfolding move_fields aligned lift_leading AreWithinLimits
  first_case_meets = record {
    checked = taking_checked instances string.Utf8 string.Utf8 _ _ x_y_fine z_y_x_fine ((refl, (refl, tt)), tt);
    sides = record { lower = refl; lift = refl };
    honest = record { state_typed = refl; args_typed = refl; typed = tt; honest = (tt, (λ e. let bad : false ≡ true = e in cc, λ e. let bad : false ≡ true = e in cc), tt) };
    limits = within_by string.Utf8 string.Utf8 _ _ (words (0 ∷ 9 ∷ [])) [] [] _ (record { values = _; there = refl; bounds = (tt, tt) }) (λ e. refl, tt);
  }

  -- the third case is none: an honest run, of no values
  no_case : IsHonestRun at more_cases (words (2 ∷ 0 ∷ [])) plain_state (of_run more_cases (words (2 ∷ 0 ∷ [])) plain_state (Returns [] (state 0 1 [] []) ∷ [])) × (params_given at more_cases (words (2 ∷ 0 ∷ [])) plain_state ≡ None)
  unfolding move_fields aligned lift_leading
  no_case = (record { state_typed = refl; args_typed = refl; typed = tt; honest = (tt, refl, tt) }, refl)

  -- A side has the memory that its own types need: this one has none, and the other side's texts ask for none.
  abbrev without_memory : LinkedAdapter
  without_memory = let a = taking instances string.Utf8 string.Utf8 (x_alone ∷ []) (x_or_text ∷ []) in record a { lower = record a.lower { memory = None; realloc = None } }

  without_memory_meets : MeetsLaws without_memory (words (0 ∷ 9 ∷ [])) plain_state (Returns [] plain_state ∷ [])
  unfolding move_fields aligned lift_leading AreWithinLimits
  without_memory_meets = record {
    checked =
        let t = taking_checked instances string.Utf8 string.Utf8 _ _ x_alone_fine x_or_text_fine ((refl, tt), tt) in
        record {
          lower_params = t.lower_params;
          lower_results = t.lower_results;
          lift_params = t.lift_params;
          lift_results = t.lift_results;
          params_agree = t.params_agree;
          results_agree = t.results_agree;
          params_supplied = λ e. let bad : false ≡ true = e in cc;
          results_supplied = λ e. let bad : false ≡ true = e in cc;
          params_behind = λ e. absurd (none_some None _ refl (sym e));
          params_into = t.params_into;
          results_behind = t.results_behind;
          results_into = λ e. absurd (none_some None _ refl (sym e));
          memories = λ m n e f k. absurd (none_some None m refl e);
          lower_memory = tt;
          lift_memory = t.lift_memory;
          own_callee = record { lift_realloc = t.own_callee.lift_realloc; lower_realloc = λ f e. absurd (none_some None f refl e); post_return = t.own_callee.post_return };
        };
    sides = record { lower = refl; lift = refl };
    honest = record { state_typed = refl; args_typed = refl; typed = tt; honest = (tt, (λ e. let bad : false ≡ true = e in cc, λ e. let bad : false ≡ true = e in cc), tt) };
    limits = record {
      may_leave = λ e. let bad : 1 ≡ 0 = ap bits_of e in omega (arith, bad);
      params = record { values = _; there = refl; bounds = (tt, tt) };
      area = tt;
      results = λ before k behind e is.
          let none : results k ≡ [] = in_middle before k behind (subst (AllByRecursion GivesNone) e (λ e. refl, tt)) (ap (is_import_of (exported instances 1 (codes "run"))) is) in
          record { values = []; there = ap (λ vs. lift_result_values false (record { memory64 = false; encoding = string.Utf8 }) (side_memory at (options_of without_memory.lift) (state_after k)) [] vs) none; bounds = tt };
    };
  }

  -- ---- lists

  -- an honest answer of realloc for a region of a transfer that has no other
  abbrev pub IsGivenRegion : LinkedAdapter → (request : List ℕ) → (q : ℕ) → (live : List Region) → (before after : MachineState) → Type 0
  IsGivenRegion a args q live before after =
      IsHonestRegion at (record { landing = params_landing a; live = live }) (record { what = import.CoreDef (exported instances 1 (codes "realloc")); args = words args; before = before; answer = Returns (I32 q ∷ []) after })

  pub below_two : (P : ℕ → Type 0) → P 0 → P 1 → (j : ℕ) → j < 2 → P j
  below_two P a b zero lt = a
  below_two P a b (suc zero) lt = b
  below_two P a b (suc (suc j)) lt = absurd (omega (arith, lt))

  abbrev shorts : LinkedAdapter
  shorts = taking instances string.Utf8 string.Utf8 (list ty.U16 ∷ []) (list ty.U16 ∷ [])

  -- memories of 16 bytes, with the flag of the lift side
  abbrev zeros : ℕ → MachineState
  zeros n = state n 1 (replicate 16 0) (replicate 16 0)

  abbrev list_answers : List Answer
  list_answers = Returns (I32 0 ∷ []) (zeros 0) ∷ Returns [] (zeros 1) ∷ []

  -- an empty list may stand at the end of the memory, and not where it is not aligned
  lists_arrive : shown (of_run shorts (words (16 ∷ 0 ∷ [])) (zeros 1) list_answers) ∷ shown (of_run shorts (words (1 ∷ 0 ∷ [])) (zeros 1) (Returns [] (zeros 0) ∷ [])) ∷ []
      ≡ (Returned [], realloc_of (0 ∷ 0 ∷ 2 ∷ 0 ∷ []) ∷ callee_of (words (0 ∷ 0 ∷ [])) ∷ []) ∷ (Trapped, (import.Trap trap.UnalignedPointer, []) ∷ []) ∷ []
  unfolding move_fields aligned
  lists_arrive = refl

  -- a region that ends behind the memory is refused, and is no honest answer
  list_refused : shown (of_run shorts (words (0 ∷ 2 ∷ [])) (zeros 1) (Returns (I32 14 ∷ []) (zeros 0) ∷ Returns [] (zeros 0) ∷ [])) ≡ (Trapped, realloc_of (0 ∷ 0 ∷ 2 ∷ 4 ∷ []) ∷ (import.Trap trap.ListOutOfBounds, []) ∷ [])
  unfolding move_fields aligned
  list_refused = refl

  not_given : IsGivenRegion shorts (0 ∷ 0 ∷ 2 ∷ 4 ∷ []) 14 [] (zeros 0) (zeros 0) → ⊥
  not_given h = let n : 18 ≤ 16 = h.sound.inside in omega (arith, n)

  list_meets : MeetsLaws shorts (words (16 ∷ 0 ∷ [])) (zeros 1) list_answers
  unfolding move_fields aligned lift_leading AreWithinLimits
  list_meets = record {
    checked = taking_checked instances string.Utf8 string.Utf8 _ _ shorts_fine shorts_fine ((refl, tt), tt);
    sides = record { lower = refl; lift = refl };
    honest = record { state_typed = refl; args_typed = refl; typed = tt; honest = (tt, (λ e. given, λ e. let bad : false ≡ true = e in cc), (tt, (λ e. let bad : false ≡ true = e in cc, λ e. let bad : false ≡ true = e in cc), tt)) };
    limits = within_by string.Utf8 string.Utf8 _ _ (words (16 ∷ 0 ∷ [])) (replicate 16 0) (replicate 16 0) _ (record { values = _; there = refl; bounds = (record { source = leb-true 1 4294967296 refl; destination = leb-true 1 4294967296 refl; each = tt }, tt) })
        (λ e. (let bad : false ≡ true = e in cc), (λ e. refl, tt));
  }
    where
      given : IsGivenRegion shorts (0 ∷ 0 ∷ 2 ∷ 0 ∷ []) 0 [] (zeros 0) (zeros 0)
      given = record { sound = record { aligned = refl; inside = leb-true 0 16 refl }; apart = λ j i k. k; holds = λ j i k. omega (arith, i); others = λ j k. absurd k; source = refl }
