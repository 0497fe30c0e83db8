-- Sync adapters at work whose results go behind a return pointer, and whose memories have addresses of 64 bits: what the laws of
-- sync adapters ask of a run holds of each.
use Rattle.std.proofs.Common.{◌≡◌, ℕ, ◌-◌, true, false, List, [], ◌∷◌, ◌++◌, map, None, Some, refl, sym, ap, ◌∙◌, subst, arith}
use Rattle.std.specs.Prelude.{codes, replicate}
use Rattle.std.specs.List.{AllByRecursion}
use Rattle.std.proofs.lemmas.Bool.{false≢true, leb-true}
use Rattle.fact_entity.specs.declared.id.Id.{Id}
use Rattle.fact_entity.specs.declared.table.RuntimeInstances.{RuntimeInstances}
use Rattle.fact_types.specs.declared.import.Import.TheVariants as import
use Rattle.fact_types.specs.declared.interface.InterfaceType.TheVariants as ty
use Rattle.fact_types.specs.declared.outside.StringEncoding.TheVariants as string
use Rattle.fact_types.specs.Adapters.{LinkedAdapter}
use Rattle.fact_types.specs.Layout.{aligned}
use Rattle.fact_machine.specs.declared.types.CoreValue.{CoreValue}
use Rattle.fact_machine.specs.declared.types.CoreValue.TheVariants.{I32, I64}
use Rattle.fact_machine.specs.declared.types.MachineState.{MachineState}
use Rattle.fact_machine.specs.declared.types.Answer.{Answer}
use Rattle.fact_machine.specs.declared.types.Answer.TheVariants.{Returns}
use Rattle.fact_machine.specs.declared.types.End.TheVariants.{Returned}
use Rattle.fact_machine.specs.Exits.{first_world}
use Rattle.fact_values.specs.Lift.{bits_of, lift_leading, lift_members}
use Rattle.fact_values.specs.Load.{load_members}
use Rattle.fact_values.specs.Limits.{AreWithinAt, AreWithinLimits}
use Rattle.fact_actions.specs.Calls.{is_import_of}
use Rattle.fact_actions.specs.Honest.{IsHonestRun}
use Rattle.fact_actions.specs.Moves.{move_fields}
use Rattle.fact_actions.specs.Plain.{ended_sync, named_outcome}
use Rattle.fact_actions.specs.Running.{ImportPlaces, Call, Ended, calls_in}
use Rattle.fact_action_laws.specs.Faithful.{IsInLimits, ResultsAreThere}
use Rattle.fact_action_laws.specs.FaithfulLaws.{IsCheckedAdapter, HasSyncSides}
use Rattle.fact_action_laws.proofs.HonestRows.{MeetsLaws}
use Rattle.fact_action_laws.proofs.WorkedAdapters.{exported, taking, places, state, words, off, list, pair, pair_fine, bytes_fine, none_fine, taking_checked}

-- what holds of all calls holds of one in their middle
in_middle : (P : Call → Type 0) (before : List Call) (k : Call) (behind : List Call) → AllByRecursion P (before ++ (k ∷ behind)) → P k
in_middle P [] k behind h = h.0
in_middle P (x ∷ before) k behind h = in_middle P before k behind h.1

module _ (instances : Id RuntimeInstances) where
  abbrev at : ImportPlaces
  at = places instances

  -- ---- results behind a return pointer

  -- two results, which are one too many for core values
  abbrev giving : LinkedAdapter
  giving = let a = taking instances string.Utf8 string.Utf8 [] [] in record a { lower = record a.lower { results = pair }; lift = record a.lift { results = pair } }

  giving_checked : IsCheckedAdapter at giving
  giving_checked =
      let t = taking_checked instances string.Utf8 string.Utf8 [] [] none_fine none_fine tt in
      record {
        lower_params = none_fine;
        lower_results = pair_fine;
        lift_params = none_fine;
        lift_results = pair_fine;
        params_agree = tt;
        results_agree = (refl, (refl, tt));
        params_supplied = t.params_supplied;
        results_supplied = λ e. record { from = tt; to = tt; realloc = tt };
        params_behind = λ e. tt;
        params_into = λ e. record { memory = tt; realloc = tt };
        results_behind = λ e. tt;
        results_into = λ e. tt;
        memories = t.memories;
        lower_memory = t.lower_memory;
        lift_memory = t.lift_memory;
        own_callee = record { lift_realloc = t.own_callee.lift_realloc; lower_realloc = t.own_callee.lower_realloc; post_return = t.own_callee.post_return };
      }

  -- the callee's results stand at 8 in its memory, and there are 24 bytes on the other side
  abbrev before_results : MachineState
  before_results = state 1 1 (replicate 8 0 ++ (5 ∷ 0 ∷ 0 ∷ 0 ∷ 7 ∷ 0 ∷ 0 ∷ 0 ∷ [])) (replicate 24 9)

  abbrev results_at_8 : List Answer
  results_at_8 = Returns (I32 8 ∷ []) before_results ∷ []

  abbrev callee_at_8 : Call
  callee_at_8 = record { what = import.CoreDef (exported instances 1 (codes "run")); args = []; before = before_results; answer = Returns (I32 8 ∷ []) before_results }

  -- with the return pointer 16: the first one is written as one byte, and the second one four bytes behind it
  results_arrive : named_outcome (ended_sync at off giving (words (16 ∷ [])) (first_world before_results results_at_8))
      ≡ record {
        end = Returned [];
        state = state 1 1 (replicate 8 0 ++ (5 ∷ 0 ∷ 0 ∷ 0 ∷ 7 ∷ 0 ∷ 0 ∷ 0 ∷ [])) (replicate 16 9 ++ (5 ∷ 9 ∷ 9 ∷ 9 ∷ 7 ∷ 0 ∷ 0 ∷ 0 ∷ []));
        log = callee_at_8 ∷ [];
      }
  unfolding move_fields aligned
  results_arrive = refl

  results_meet : MeetsLaws instances giving (words (16 ∷ [])) before_results results_at_8
  unfolding move_fields aligned lift_leading lift_members load_members AreWithinLimits AreWithinAt
  results_meet = record {
    checked = giving_checked;
    sides = record { lower = refl; lift = refl };
    honest = record { state_typed = refl; args_typed = refl; typed = tt; honest = (tt, (λ e. let bad : false ≡ true = e in cc, λ e. let bad : false ≡ true = e in cc), tt) };
    limits = record {
      may_leave = λ e. let bad : 1 ≡ 0 = ap bits_of e in omega (arith, bad);
      params = record { values = []; there = refl; bounds = tt };
      area = (record { aligned = refl; inside = leb-true 24 24 refl }, tt);
      results = λ before k behind e is. in_middle IsThere before k behind (subst (AllByRecursion IsThere) e (λ i. record { values = _; there = refl; bounds = (tt, (tt, tt)) }, tt)) is;
    };
  }
    where
      IsThere : Call → Type 0
      IsThere k = k.what ≡ import.CoreDef (exported instances 1 (codes "run")) → ResultsAreThere at giving k

  -- ---- addresses of 64 bits

  abbrev wide_at : ImportPlaces
  wide_at = record at { memory_types = (true, Some 0) ∷ (true, Some 0) ∷ [] }

  abbrev wide : LinkedAdapter
  wide =
      let a = taking instances string.Utf8 string.Utf8 (list ty.U8 ∷ []) (list ty.U8 ∷ []) in
      record a {
        lower = record a.lower { memory = Some (record { def = exported instances 0 (codes "memory"); memory64 = true; shared = false; page_size_log2 = 0 }) };
        lift = record a.lift { memory = Some (record { def = exported instances 1 (codes "memory"); memory64 = true; shared = false; page_size_log2 = 0 }) };
      }

  wide_checked : IsCheckedAdapter wide_at wide
  wide_checked =
      let t = taking_checked instances string.Utf8 string.Utf8 _ _ bytes_fine bytes_fine ((refl, tt), tt) in
      record {
        lower_params = bytes_fine;
        lower_results = none_fine;
        lift_params = bytes_fine;
        lift_results = none_fine;
        params_agree = ((refl, tt), tt);
        results_agree = tt;
        params_supplied = λ e. record { from = tt; to = tt; realloc = tt };
        results_supplied = λ e. record { from = tt; to = tt; realloc = tt };
        params_behind = λ e. tt;
        params_into = λ e. record { memory = tt; realloc = tt };
        results_behind = λ e. tt;
        results_into = λ e. tt;
        memories = λ m n e f k.
            let one : 1 ≡ wide_at.memory m.def = ap (λ o. elim o [ None ↦ 1 | Some x ↦ wide_at.memory x.def ]) e in
            let two : 0 ≡ wide_at.memory n.def = ap (λ o. elim o [ None ↦ 0 | Some x ↦ wide_at.memory x.def ]) f in
            let bad : 1 ≡ 0 = one ∙ k ∙ sym two in
            omega (arith, bad);
        lower_memory = record { page = Some 0; is = refl };
        lift_memory = record { page = Some 0; is = refl };
        own_callee = record { lift_realloc = t.own_callee.lift_realloc; lower_realloc = t.own_callee.lower_realloc; post_return = t.own_callee.post_return };
      }

  abbrev long_words : List ℕ → List CoreValue
  long_words ns = map (λ n. I64 n) ns

  -- two bytes go to six
  abbrev bytes_in : (lift_flags : ℕ) → (lift : List ℕ) → MachineState
  bytes_in n bytes = state n 1 bytes (3 ∷ 4 ∷ [])

  abbrev region_at_4 : List Answer
  region_at_4 = Returns (I64 4 ∷ []) (bytes_in 0 (replicate 6 0)) ∷ Returns [] (bytes_in 1 (replicate 4 0 ++ (3 ∷ 4 ∷ []))) ∷ []

  abbrev wide_run : Ended (List CoreValue)
  wide_run = ended_sync wide_at off wide (long_words (0 ∷ 2 ∷ [])) (first_world (bytes_in 1 (replicate 6 0)) region_at_4)

  -- realloc is asked in words of 64 bits, and so is the callee, to which the bytes have come
  bytes_arrive : named_outcome wide_run
      ≡ record {
        end = Returned [];
        state = bytes_in 1 (replicate 4 0 ++ (3 ∷ 4 ∷ []));
        log =
            record { what = import.CoreDef (exported instances 1 (codes "realloc")); args = long_words (0 ∷ 0 ∷ 1 ∷ 2 ∷ []); before = bytes_in 0 (replicate 6 0); answer = Returns (I64 4 ∷ []) (bytes_in 0 (replicate 6 0)) }
            ∷ record { what = import.CoreDef (exported instances 1 (codes "run")); args = long_words (4 ∷ 2 ∷ []); before = bytes_in 1 (replicate 4 0 ++ (3 ∷ 4 ∷ [])); answer = Returns [] (bytes_in 1 (replicate 4 0 ++ (3 ∷ 4 ∷ []))) }
            ∷ [];
      }
  unfolding move_fields aligned
  bytes_arrive = refl

  wide_meets : IsHonestRun wide_at wide (long_words (0 ∷ 2 ∷ [])) (bytes_in 1 (replicate 6 0)) wide_run × HasSyncSides wide × IsInLimits wide_at wide (long_words (0 ∷ 2 ∷ [])) (bytes_in 1 (replicate 6 0)) (calls_in wide_run)
  unfolding move_fields aligned lift_leading lift_members load_members AreWithinLimits AreWithinAt
  wide_meets = (
    record {
      state_typed = refl;
      args_typed = refl;
      typed = tt;
      honest = (
        tt,
        (
          λ e. record { sound = record { aligned = refl; inside = leb-true 6 6 refl }; apart = λ j i k. k; holds = λ j i k. omega (arith, i); others = λ j k. absurd k; source = refl },
          λ e. let bad : false ≡ true = e in cc,
        ),
        (tt, (λ e. let bad : false ≡ true = e in cc, λ e. let bad : false ≡ true = e in cc), tt),
      );
    },
    record { lower = refl; lift = refl },
    record {
      may_leave = λ e. let bad : 1 ≡ 0 = ap bits_of e in omega (arith, bad);
      params = record { values = _; there = refl; bounds = (record { source = leb-true 3 4294967296 refl; destination = leb-true 3 4294967296 refl; each = (tt, (tt, tt)) }, tt) };
      area = tt;
      results = λ before k behind e is. in_middle IsThere before k behind (subst (AllByRecursion IsThere) e (λ i. absurd (is_other i), (λ i. record { values = []; there = refl; bounds = tt }, tt))) is;
    },
  )
    where
      IsThere : Call → Type 0
      IsThere k = k.what ≡ import.CoreDef (exported instances 1 (codes "run")) → ResultsAreThere wide_at wide k

      is_other : import.CoreDef (exported instances 1 (codes "realloc")) ≡ import.CoreDef (exported instances 1 (codes "run")) → ⊥
      is_other i = false≢true (ap (λ x. is_import_of (exported instances 1 (codes "run")) x) i)
