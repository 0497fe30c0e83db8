-- Bodies that ask realloc for more than their values call for, or ask the realloc of the other side, and do all else as they are to:
-- each is an action, of which an honest run, or one that is honest until a trap, is shown whose requests are not those that the law of
-- requests promises.
use Rattle.std.proofs.Common.{◌≡◌, inl, inr, ℕ, suc, ◌+◌, Bool, true, false, List, [], ◌∷◌, ◌++◌, Some, None, length, map, cond, filter, refl, sym, ap, ◌∙◌, subst, arith, append-nil}
use Rattle.std.specs.Prelude.{codes, replicate}
use Rattle.std.specs.Char.{encode_utf8}
use Rattle.std.specs.List.{AllByRecursion}
use Rattle.std.proofs.lemmas.Bool.{false≢true, leb-true}
use Rattle.fact_entity.specs.declared.id.Id.{Id}
use Rattle.fact_entity.specs.declared.table.RuntimeInstances.{RuntimeInstances}
use Rattle.fact_wasm.specs.declared.types.ValType.TheVariants as val
use Rattle.fact_types.specs.declared.import.Import.TheVariants as import
use Rattle.fact_types.specs.declared.interface.InterfaceType.TheVariants as ty
use Rattle.fact_types.specs.declared.outside.CoreDef.{CoreDef}
use Rattle.fact_types.specs.declared.outside.StringEncoding.TheVariants as string
use Rattle.fact_types.specs.declared.outside.Transcode.TheVariants as op
use Rattle.fact_types.specs.Adapters.{LinkedAdapter, same_def}
use Rattle.fact_types.specs.Layout.{aligned}
use Rattle.fact_types.specs.Shapes.{s_plain}
use Rattle.fact_types.proofs.ShapeLaws.{none_some}
use Rattle.fact_machine.specs.declared.types.CoreValue.{CoreValue}
use Rattle.fact_machine.specs.declared.types.CoreValue.TheVariants.{I32}
use Rattle.fact_machine.specs.declared.types.MachineState.{MachineState}
use Rattle.fact_machine.specs.declared.types.Answer.TheVariants.{Returns, Traps}
use Rattle.fact_machine.specs.Exits.{first_world}
use Rattle.fact_machine.specs.World.{Trap}
use Rattle.fact_values.specs.Lift.{bits_of}
use Rattle.fact_actions.specs.Actions.{Action, Give, Read, Write, SetFlags, Ask, ◌>>=◌, ◌>>◌, each}
use Rattle.fact_actions.specs.Adapters.{params_transfer}
use Rattle.fact_actions.specs.Calls.{is_import_of}
use Rattle.fact_actions.specs.Honest.{IsHonestRun}
use Rattle.fact_actions.specs.Regions.{Landing, params_landing, is_request}
use Rattle.fact_actions.specs.Requests.{Request, request_of, requests_in, parts_requests}
use Rattle.fact_actions.specs.Running.{ImportPlaces, Call, Ended, run}
use Rattle.fact_actions.specs.Sides.{first_bits, options_of}
use Rattle.fact_action_laws.specs.FaithfulLaws.{IsCheckedAdapter}
use Rattle.fact_action_laws.proofs.WorkedAdapters.{exported, taking, places, state, words, off, list, bytes_fine, string_fine, none_fine, taking_checked}
use Rattle.fact_action_laws.specs.Parts.{parts_of, parts_of_fields}
use Rattle.fact_action_laws.specs.Requested.{params_parts, IsOutsideTransfers, AreOutsideTransfers, AreFromCallee, IsOwnRealloc, CallOwnRealloc, HaveAskedForAll, HaveAskedSoFar, StopsEntering, StopsInParams, StopsCalling, StopsInResults, StopsFinishing, AsksForValues}
use Rattle.fact_action_laws.specs.Trapped.{IsHonestUntilTrap}
use Rattle.fact_action_laws.proofs.FirstRequest.{first_request_is_called_for}

-- the size of the first of requests
abbrev size_in : List Request → ℕ
size_in [] = 0
size_in (r ∷ rs) = r.new_size

-- a call is no request of that size
abbrev AsksNot : Landing → ℕ → Call → Type 0
AsksNot l n c = is_request l c ≡ true → (request_of c).new_size ≡ n → ⊥

-- where no call is one, the first request has another size
none_first : (l : Landing) (n : ℕ) (calls others : List Call) → AllByRecursion (AsksNot l (suc n)) (calls ++ others) → size_in (requests_in l calls) ≡ suc n → ⊥
none_first l n [] others h e = omega (arith, e)
none_first l n (c ∷ cs) others h e = by_request (is_request l c) h.0 (none_first l n cs others h.1) e
  where
    by_request : (b : Bool) → (b ≡ true → (request_of c).new_size ≡ suc n → ⊥) → (size_in (requests_in l cs) ≡ suc n → ⊥) → size_in (map request_of (cond b (c ∷ filter (is_request l) cs) (filter (is_request l) cs))) ≡ suc n → ⊥
    by_request true other none e = other refl e
    by_request false other none e = none e

-- what holds of all calls holds of the last ones
of_last : (P : Call → Type 0) (calls last : List Call) → AllByRecursion P (calls ++ last) → AllByRecursion P last
of_last P [] last h = h
of_last P (c ∷ cs) last h = of_last P cs last h.1

module _ (instances : Id RuntimeInstances) where
  abbrev at : ImportPlaces
  at = places instances

  -- An adapter that the checks of plans let pass, an honest run of a body, and the law of requests, which is false of it.
  record ExcludesRequests (a : LinkedAdapter) (args : List CoreValue) (s : MachineState) (e : Ended (List CoreValue)) : Type 0 where
    checked : IsCheckedAdapter at a
    honest : IsHonestRun at a args s e
    broken : AsksForValues at off a args s e → ⊥

  -- The parameters call for so many bytes first, which no call asks for.
  not_asked : (a : LinkedAdapter) (args : List CoreValue) (s : MachineState) (calls : List Call) (n : ℕ) → AllByRecursion (AsksNot (params_landing a) (suc n)) calls
      → ((answers : List (List CoreValue)) → size_in (parts_requests (params_transfer off a) (params_parts at off a args s) answers) ≡ suc n) → HaveAskedForAll at off a args s calls → ⊥
  not_asked a args s calls n all called_for f =
      let t = f.answered.passed in
      none_first (params_landing a) n t.params _ (of_last (AsksNot (params_landing a) (suc n)) t.enter _ (subst (AllByRecursion (AsksNot (params_landing a) (suc n))) f.calls_are all)) (ap size_in t.params_ask ∙ called_for _)

  abbrev callee : CoreDef
  callee = exported instances 1 (codes "run")

  abbrev lift_memory : CoreDef
  lift_memory = exported instances 1 (codes "memory")

  abbrev lower_memory : CoreDef
  lower_memory = exported instances 0 (codes "memory")

  abbrev realloc_asked : List ℕ → (ℕ → Action (List CoreValue)) → Action (List CoreValue)
  realloc_asked args k = Ask (import.CoreDef (exported instances 1 (codes "realloc"))) (words args) (val.I32 ∷ []) (λ rs. k (first_bits rs))

  -- the flag of the lift side is 0 while a body moves parameters, and then the callee is called
  abbrev moving : Action (List CoreValue) → Action (List CoreValue)
  moving p = SetFlags 1 0 (p >>= (λ args. SetFlags 1 1 (Ask (import.CoreDef callee) args [] (λ rs. Give []))))

  -- ---- lists

  abbrev bytes_passed : LinkedAdapter
  bytes_passed = taking instances string.Utf8 string.Utf8 (list ty.U8 ∷ []) (list ty.U8 ∷ [])

  -- two bytes go to eight
  abbrev with_bytes : (lift_flags : ℕ) → (lift : List ℕ) → MachineState
  with_bytes n bytes = state n 1 bytes (3 ∷ 4 ∷ [])

  -- Five bytes are asked for, and two moved.
  abbrev asks_five : Action (List CoreValue)
  asks_five = moving (realloc_asked (0 ∷ 0 ∷ 1 ∷ 5 ∷ []) (λ q. each {A = CoreValue} 2 (λ i. Read 1 lower_memory i (λ x. Write 1 lift_memory (q + i) x (Give []))) >> Give (words (q ∷ 2 ∷ []))))

  abbrev asked_five : Ended (List CoreValue)
  asked_five = run at asks_five (first_world (with_bytes 1 (replicate 8 0)) (Returns (I32 0 ∷ []) (with_bytes 0 (replicate 8 0)) ∷ Returns [] (with_bytes 1 (3 ∷ 4 ∷ replicate 6 0)) ∷ []))

  more_for_list : ExcludesRequests bytes_passed (words (0 ∷ 2 ∷ [])) (with_bytes 1 (replicate 8 0)) asked_five
  unfolding aligned parts_of parts_of_fields
  more_for_list = record {
    checked = taking_checked instances string.Utf8 string.Utf8 _ _ bytes_fine bytes_fine ((refl, tt), tt);
    honest = record {
      state_typed = refl;
      args_typed = refl;
      typed = tt;
      honest = (
        tt,
        (
          λ e. record { sound = record { aligned = refl; inside = leb-true 5 8 refl }; apart = λ j i k. k; holds = λ j i k. omega (arith, i); others = λ j k. absurd k; source = refl },
          λ e. let bad : false ≡ true = e in cc,
        ),
        (tt, (λ e. let bad : false ≡ true = e in cc, λ e. let bad : false ≡ true = e in cc), tt),
      );
    };
    broken = not_asked bytes_passed (words (0 ∷ 2 ∷ [])) (with_bytes 1 (replicate 8 0)) _ 1 (λ i n. (let bad : 5 ≡ 2 = n in omega (arith, bad)), (λ i n. (let bad : false ≡ true = i in cc), tt)) (λ answers. refl);
  }

  -- ---- texts

  abbrev texts : LinkedAdapter
  texts = taking instances string.Utf16 string.Utf8 (s_plain ty.String ∷ []) (s_plain ty.String ∷ [])

  -- "aé" in UTF-16 goes to eight bytes
  abbrev with_text : (lift_flags : ℕ) → (lift : List ℕ) → MachineState
  with_text n bytes = state n 1 bytes (0x61 ∷ 0 ∷ 0xE9 ∷ 0 ∷ [])

  -- The most that the text can take is asked for at once, and not first as many bytes as it has units; then the region is cut.
  abbrev asks_most : Action (List CoreValue)
  asks_most = moving (realloc_asked (0 ∷ 0 ∷ 1 ∷ 6 ∷ []) (λ q. Ask (import.Transcode op.Utf16ToUtf8 lower_memory false lift_memory false) (words (0 ∷ 2 ∷ q ∷ 6 ∷ 1 ∷ [])) (val.I32 ∷ val.I32 ∷ []) (λ rs.
      realloc_asked (q ∷ 6 ∷ 1 ∷ 3 ∷ []) (λ d. Give (words (d ∷ 3 ∷ []))))))

  abbrev spelled : List ℕ
  spelled = 0x61 ∷ 0xC3 ∷ 0xA9 ∷ replicate 5 0

  abbrev asked_most : Ended (List CoreValue)
  asked_most = run at asks_most (first_world (with_text 1 (replicate 8 0))
      (Returns (I32 0 ∷ []) (with_text 0 (replicate 8 0)) ∷ Returns (words (2 ∷ 3 ∷ [])) (with_text 0 spelled) ∷ Returns (I32 0 ∷ []) (with_text 0 spelled) ∷ Returns [] (with_text 1 spelled) ∷ []))

  more_for_text : ExcludesRequests texts (words (0 ∷ 2 ∷ [])) (with_text 1 (replicate 8 0)) asked_most
  unfolding aligned encode_utf8 parts_of parts_of_fields
  more_for_text = record {
    checked = taking_checked instances string.Utf16 string.Utf8 _ _ string_fine string_fine (refl, tt);
    honest = record {
      state_typed = refl;
      args_typed = refl;
      typed = tt;
      honest = (
        tt,
        (
          λ e. record { sound = record { aligned = refl; inside = leb-true 6 8 refl }; apart = λ j i k. k; holds = λ j i k. omega (arith, i); others = λ j k. absurd k; source = refl },
          λ e. let bad : false ≡ true = e in cc,
        ),
        (
          tt,
          record {
            bytes = 0x61 ∷ 0xC3 ∷ 0xA9 ∷ [];
            transcoding = record { text = 0x61 ∷ 0xE9 ∷ []; rest = []; reads = refl; can_read = (refl, (refl, tt)); can_write = (refl, (refl, tt)); stops = (leb-true 3 6 refl, inl refl); writes = refl; answers = refl };
            inside = leb-true 3 8 refl;
            written = refl;
          },
          (
            tt,
            (
              λ e. record { sound = record { aligned = refl; inside = leb-true 3 8 refl }; apart = λ j i k. k; holds = λ j i k. refl; others = λ j k. absurd k; source = refl },
              λ e. let bad : false ≡ true = e in cc,
            ),
            (tt, (λ e. let bad : false ≡ true = e in cc, λ e. let bad : false ≡ true = e in cc), tt),
          ),
        ),
      );
    };
    broken = not_asked texts (words (0 ∷ 2 ∷ [])) (with_text 1 (replicate 8 0)) _ 1
        (λ i n. (let bad : 6 ≡ 2 = n in omega (arith, bad)), (λ i n. (let bad : false ≡ true = i in cc), (λ i n. (let bad : 3 ≡ 2 = n in omega (arith, bad)), (λ i n. (let bad : false ≡ true = i in cc), tt)))) (λ answers. refl);
  }

  -- ---- a request that traps

  -- Nearly all that a memory can hold is asked for first, where a text of two units calls for two bytes; the call traps, and nothing
  -- comes behind it.
  abbrev asked_all : Ended (List CoreValue)
  asked_all = run at (moving (realloc_asked (0 ∷ 0 ∷ 1 ∷ 4294967295 ∷ []) (λ q. Give []))) (first_world (with_text 1 (replicate 8 0)) (Traps ∷ []))

  abbrev all_asked : Call
  all_asked = record { what = import.CoreDef (exported instances 1 (codes "realloc")); args = words (0 ∷ 0 ∷ 1 ∷ 4294967295 ∷ []); before = with_text 0 (replicate 8 0); answer = Traps }

  -- The run is honest until the trap, and the law of requests is false of it.
  record ExcludesTrapped (a : LinkedAdapter) (args : List CoreValue) (s : MachineState) (e : Ended (List CoreValue)) : Type 0 where
    checked : IsCheckedAdapter at a
    honest : IsHonestUntilTrap at a args s e
    broken : AsksForValues at off a args s e → ⊥

  all_at_once : ExcludesTrapped texts (words (0 ∷ 2 ∷ [])) (with_text 1 (replicate 8 0)) asked_all
  unfolding aligned parts_of parts_of_fields
  all_at_once = record {
    checked = fine;
    honest = record { state_typed = refl; args_typed = refl; typed = tt; honest = inr (record { front = []; last = all_asked; calls_are = refl; front_honest = tt; last_traps = refl }) };
    broken = λ f.
        let b = first_request_is_called_for at off texts (words (0 ∷ 2 ∷ [])) (with_text 1 (replicate 8 0)) 0 Trap (first_world (with_text 0 (replicate 8 0)) []) all_asked (exported instances 1 (codes "realloc")) fine.own_callee
        (λ e. let bad : 1 ≡ 0 = ap bits_of e in omega (arith, bad)) refl refl refl f in
        let bad : 2 ≡ 4294967295 = ap size_in b.is in
        omega (arith, bad);
  }
    where
      fine : IsCheckedAdapter at texts
      fine = taking_checked instances string.Utf16 string.Utf8 _ _ string_fine string_fine (refl, tt)

  -- ---- the other realloc

  abbrev idle : LinkedAdapter
  idle = taking instances string.Utf8 string.Utf8 [] []

  abbrev at_first : MachineState
  at_first = state 1 1 (replicate 8 0) (replicate 8 0)

  abbrev meanwhile : MachineState
  meanwhile = state 0 1 (replicate 8 0) (replicate 8 0)

  abbrev other_asked : Call
  other_asked = record { what = import.CoreDef (exported instances 0 (codes "realloc")); args = words (0 ∷ 0 ∷ 1 ∷ 2 ∷ []); before = meanwhile; answer = Returns (I32 0 ∷ []) meanwhile }

  -- While parameters are moved, the lower side's realloc is asked for two bytes; the callee then has no answer.
  abbrev asked_other : Ended (List CoreValue)
  asked_other = run at (moving (Ask (import.CoreDef (exported instances 0 (codes "realloc"))) (words (0 ∷ 0 ∷ 1 ∷ 2 ∷ [])) (val.I32 ∷ []) (λ rs. Give []))) (first_world at_first (Returns (I32 0 ∷ []) meanwhile ∷ []))

  -- what comes behind the calls of parameters begins with the callee's
  abbrev BeginsAtCallee : List Call → Type 0
  BeginsAtCallee [] = Unit {0}
  BeginsAtCallee (c ∷ cs) = c.what ≡ import.CoreDef callee

  same_first : (x y : Call) (xs ys : List Call) → x ∷ xs ≡ y ∷ ys → x ≡ y
  same_first x y xs ys e = ap first e
    where
      first : List Call → Call
      first [] = x
      first (c ∷ cs) = c

  -- it stands nowhere
  nowhere : (enter params others : List Call) → other_asked ∷ [] ≡ enter ++ (params ++ others) → AreOutsideTransfers None enter → CallOwnRealloc (options_of idle.lift) params → BeginsAtCallee others → ⊥
  nowhere (c ∷ enter) params others e out own from = none_some None _ refl (subst (λ k. IsOutsideTransfers None k.what) (sym (same_first other_asked c [] (enter ++ (params ++ others)) e)) out.0)
  nowhere [] (c ∷ params) others e out own from = not_own (subst (λ k. IsOwnRealloc (options_of idle.lift) k.what) (sym (same_first other_asked c [] (params ++ others) e)) own.0)
    where
      not_own : IsOwnRealloc (options_of idle.lift) other_asked.what → ⊥
      not_own (d, is, same) = false≢true (ap (λ o. elim o [ None ↦ false | Some f ↦ same_def f (exported instances 0 (codes "realloc")) ]) is ∙ same)
  nowhere [] [] (c ∷ others) e out own from = false≢true (ap (λ i. is_import_of callee i) (ap (λ k. k.what) (same_first other_asked c [] others e) ∙ from))
  nowhere [] [] [] e out own from = let bad : 1 ≡ 0 = ap length e in omega (arith, bad)

  other_realloc : ExcludesRequests idle [] at_first asked_other
  other_realloc = record {
    checked = taking_checked instances string.Utf8 string.Utf8 [] [] none_fine none_fine tt;
    honest = record { state_typed = refl; args_typed = refl; typed = tt; honest = (tt, (λ e. let bad : false ≡ true = e in cc, λ e. let bad : false ≡ true = e in cc), tt) };
    broken = λ f. not_so_far (f (λ e. let bad : 1 ≡ 0 = ap bits_of e in omega (arith, bad)));
  }
    where
      not_so_far : HaveAskedSoFar at off idle [] at_first (other_asked ∷ []) → ⊥
      not_so_far (StopsEntering out) = none_some None _ refl out.0
      not_so_far (StopsInParams enter params out calls own begin shrink) = nowhere enter params [] (calls ∙ ap (λ l. enter ++ l) (sym (append-nil params))) out own tt
      not_so_far (StopsCalling t others from calls) = nowhere t.enter t.params others calls t.enter_is t.params_are (at_callee others from)
        where
          at_callee : (cs : List Call) → AreFromCallee idle cs → BeginsAtCallee cs
          at_callee [] h = tt
          at_callee (c ∷ cs) h = h.0
      not_so_far (StopsInResults t back calls own begin shrink) = nowhere t.passed.enter t.passed.params _ calls t.passed.enter_is t.passed.params_are t.callee_is
      not_so_far (StopsFinishing t) = let q = t.answered in nowhere q.passed.enter q.passed.params _ t.calls_are q.passed.enter_is q.passed.params_are q.callee_is
