-- Bodies that an adapter may not have. Each is an action, of which one run is shown that a law of adapters speaks of: all that the
-- law asks of the adapter and of the outside holds of it, and what it promises is false.
--
-- | Body | What is false of a run |
-- |---|---|
-- | traps at once, also with a text to move | ComesToEnd |
-- | calls the callee, or another import, on and on | ComesToEnd |
-- | calls the callee twice | IsFaithful |
-- | never looks at the flag of the lower side | IsFaithful |
-- | hands on a pointer without copying | IsFaithful |
-- | hands on fields by their places | IsFaithful |
-- | hands on flags by their places | IsFaithful |
-- | hands on a char that is none | IsFaithful |
-- | hands on bits behind the last flag | IsFaithful |
-- | writes where realloc said, unchecked | IsConfined (answers may be any) |
-- | computes the bytes of a list in 32 bits | IsConfined |
-- | transcodes to where a text was before it moved | AreRangedSync (transcoders are honest) |
-- | restores the lower side's flag behind post-return | AreOrderedCalls |
-- | starts with a bare trap | EndsInFew |
-- | takes a function to give what it does not, or reads a memory that is not there | EndsTyped (answers are typed) |
use Rattle.std.proofs.Common.{◌≡◌, inl, inr, ℕ, zero, suc, ◌+◌, ◌*◌, ◌%◌, ◌^◌, ◌≤◌, ◌<◌, Bool, true, false, List, [], ◌∷◌, ◌++◌, length, map, drop, filter, cond, Option, Some, None, if◌then◌else◌, refl, sym, ap, ◌∙◌, subst, arith}
use Rattle.std.specs.Prelude.{codes, replicate, nat_abs, pos}
use Rattle.std.specs.List.{Contains, zip}
use Rattle.std.specs.Char.{encode_utf8}
use Rattle.std.specs.Char.Utf16.{utf16_chars}
use Rattle.std.proofs.lemmas.List.{length-append, length-map}
use Rattle.std.proofs.lemmas.List.Elements.{filter-append}
use Rattle.std.proofs.lemmas.Bool.{false≢true, leb-true}
use Rattle.fact_entity.specs.declared.id.Id.{Id}
use Rattle.fact_entity.specs.declared.table.RuntimeInstances.{RuntimeInstances}
use Rattle.fact_wasm.specs.declared.types.ValType.{ValType}
use Rattle.fact_wasm.specs.declared.types.ValType.TheVariants as val
use Rattle.fact_types.specs.declared.import.Import.TheVariants as import
use Rattle.fact_types.specs.declared.outside.CoreDef.{CoreDef}
use Rattle.fact_types.specs.declared.interface.InterfaceType.TheVariants as ty
use Rattle.fact_types.specs.declared.outside.StringEncoding.TheVariants as string
use Rattle.fact_types.specs.declared.outside.Transcode.TheVariants as op
use Rattle.fact_types.specs.Adapters.{LinkedAdapter, same_def}
use Rattle.fact_types.specs.FlatShapes.{flat_all}
use Rattle.fact_types.specs.Layout.{aligned}
use Rattle.fact_types.specs.Shapes.{Shape, s_plain}
use Rattle.fact_types.specs.Tuples.{tuple_members}
use Rattle.fact_types.proofs.ShapeLaws.{same_some, none_some}
use Rattle.fact_machine.specs.declared.types.CoreValue.{CoreValue}
use Rattle.fact_machine.specs.declared.types.CoreValue.TheVariants.{I32}
use Rattle.fact_machine.specs.declared.types.MachineState.{MachineState}
use Rattle.fact_machine.specs.declared.types.Answer.TheVariants.{Returns}
use Rattle.fact_machine.specs.Exits.{first_world}
use Rattle.fact_machine.specs.World.{World}
use Rattle.fact_values.specs.declared.value.Value.{Value, out-Value}
use Rattle.fact_values.specs.declared.value.Value.TheVariants as value
use Rattle.fact_values.specs.declared.value.Value.TheOpen.{Value-F}
use Rattle.fact_values.specs.declared.value.Value.TheOpen as o
use Rattle.fact_values.specs.Canonical.{AreCanonicalFlat, IsCanonicalFlat}
use Rattle.fact_values.specs.Carry.{take_number}
use Rattle.fact_values.specs.Handles.{cross, cross_fields, cross_places, flags_named, given as given_step, then_step, done_step, members_of}
use Rattle.fact_types.specs.Options.{◌>>=◌}
use Rattle.fact_values.specs.Lift.{lift_leading, lift_members}
use Rattle.fact_values.specs.Opened.{fields_in, flags_in}
use Rattle.fact_values.specs.Lift.{bits_of}
use Rattle.fact_values.specs.Limits.{AreWithinLimits}
use Rattle.fact_values.specs.Weight.{weight_members}
use Rattle.fact_actions.specs.Actions.{Action, Give, Read, Write, SetFlags, Ask, Unreachable, ◌>>◌, each}
use Rattle.fact_actions.specs.AdapterLaws.{EndsTyped}
use Rattle.fact_actions.specs.Calls.{HasOwnCallee, is_import_of, is_call_of, state_after, side_memory}
use Rattle.fact_actions.specs.Confined.{HasRoomForValues, IsConfined, HaveHonestTranscoders, AreRangedSync}
use Rattle.fact_actions.specs.Honest.{AreHonest, IsHonestRun, IsHonestStart, IsStraight}
use Rattle.fact_actions.specs.Order.{AskedCall, HaveTwoMemories, asks, KeepsGlobals, flag_in, with_flag, AreOrderedCalls}
use Rattle.fact_actions.specs.Regions.{Position, landed, params_landing, results_landing, sync_moved_on}
use Rattle.fact_actions.specs.Running.{ImportPlaces, Call, Ended, calls_in, is_state, run}
use Rattle.fact_actions.specs.Sides.{options_of, side_abi, width_of_side, first_bits}
use Rattle.fact_actions.specs.TypedAnswers.{HasPlaces, HaveCoreTypes, result_types}
use Rattle.fact_action_laws.specs.Faithful.{AreCanonical, IsTransferred, IsFaithful, WhereGiven, params_given, params_passed, IsInLimits, ComesToEnd, ParamsAreThere, ResultsAreThere, weight_of_values}
use Rattle.fact_action_laws.specs.FaithfulLaws.{IsCheckedAdapter}
use Rattle.fact_action_laws.specs.Places.{HasKnownMemory}
use Rattle.fact_action_laws.specs.TransferLaws.{EndsInFew}
use Rattle.fact_action_laws.proofs.WorkedAdapters.{exported, taking, places, state, words, off, fields, list, three_flags, turned_flags, char_fine, string_fine, bytes_fine, longs_fine, a_b_fine, b_a_fine, flags_fine, turned_fine, none_fine, taking_checked}

-- the number of the first field of the first of values
abbrev int_in : Value-F Value → ℕ
int_in (o.Int i) = nat_abs i
int_in _ = 0

abbrev field_number : Option (List (List ℕ × Value)) → ℕ
field_number (Some (f ∷ fs)) = int_in (out-Value f.1)
field_number _ = 0

abbrev first_number : List Value → ℕ
first_number [] = 0
first_number (v ∷ vs) = field_number (fields_in (out-Value v))

abbrev crossed_number : Option (List Value × List ℕ) → ℕ
crossed_number None = 0
crossed_number (Some r) = first_number r.0

record_number : (x : List ℕ) (n : ℕ) (rest : List (List ℕ × Value)) → first_number (value.Record ((x, value.Int (pos n)) ∷ rest) ∷ []) ≡ n
record_number x n rest = ap (λ v. field_number (fields_in v)) (value.outs-Record ((x, value.Int (pos n)) ∷ rest)) ∙ ap int_in (value.outs-Int (pos n))

-- whether the first flag of the first of values is set, as a number
abbrev flag_number : Option (List (List ℕ × Bool)) → ℕ
flag_number (Some (f ∷ fs)) = if f.1 then 1 else 0
flag_number _ = 2

abbrev first_flag : List Value → ℕ
first_flag [] = 2
first_flag (v ∷ vs) = flag_number (flags_in (out-Value v))

abbrev crossed_flag : Option (List Value × List ℕ) → ℕ
crossed_flag None = 2
crossed_flag (Some r) = first_flag r.0

first_flag_is : (x : List ℕ) (b : Bool) (rest : List (List ℕ × Bool)) → first_flag (value.Flags ((x, b) ∷ rest) ∷ []) ≡ (if b then 1 else 0)
first_flag_is x b rest = ap (λ v. flag_number (flags_in v)) (value.outs-Flags ((x, b) ∷ rest))

-- the one call of a run is the callee's
record IsOnly (c k : Call) (before : List Call) : Type 0 where
  none : before ≡ []
  is : k ≡ c

only_call : (c k : Call) (before behind : List Call) → c ∷ [] ≡ before ++ (k ∷ behind) → IsOnly c k before
only_call c k [] behind e = record { none = refl; is = sym (ap (λ l. first l) e) }
  where
    first : List Call → Call
    first [] = c
    first (x ∷ xs) = x
only_call c k (x ∷ xs) behind e = let l : 1 ≡ suc (length (xs ++ (k ∷ behind))) = ap length e in absurd (omega (arith, l, length-append xs (k ∷ behind)))

module _ (instances : Id RuntimeInstances) where
  abbrev adapter : (lower lift : List Shape) → LinkedAdapter
  adapter ts us = taking instances string.Utf8 string.Utf8 ts us

  abbrev at : ImportPlaces
  at = places instances

  -- ---- what is handed on as it is

  -- the callee gets the very arguments
  abbrev handing_on : (args : List CoreValue) → Action (List CoreValue)
  handing_on args = Ask (import.CoreDef (exported instances 1 (codes "run"))) args [] (λ rs. Give [])

  -- in this state, which the callee leaves as it is
  abbrev handed_on : MachineState → (args : List CoreValue) → Ended (List CoreValue)
  handed_on s args = run at (handing_on args) (first_world s (Returns [] s ∷ []))

  abbrev call_of : MachineState → (args : List CoreValue) → Call
  call_of s args = record { what = import.CoreDef (exported instances 1 (codes "run")); args = args; before = s; answer = Returns [] s }

  abbrev IsFaithfulRun : LinkedAdapter → MachineState → (args : List CoreValue) → Ended (List CoreValue) → Type 0
  IsFaithfulRun a s args e = WhereGiven e (λ cs vs w. IsFaithful at a args s cs vs w.state)

  -- An adapter that the checks of plans let pass, a run of a body by honest answers alone, and a promise that is false of it.
  record Excludes (a : LinkedAdapter) (args : List CoreValue) (s : MachineState) (e : Ended (List CoreValue)) (Promise : Type 0) : Type 0 where
    checked : IsCheckedAdapter at a
    honest : IsHonestRun at a args s e
    broken : Promise → ⊥

  -- the values that the callee was given are those that came in
  carried_on : (a : LinkedAdapter) (s : MachineState) (args : List CoreValue) → IsFaithful at a args s (call_of s args ∷ []) [] s
      → IsTransferred a.lower.params a.lift.params (params_given at a args s) (params_passed at a (call_of s args)) []
  carried_on a s args f =
      let o = only_call (call_of s args) f.once.callee f.once.before f.once.behind f.once.calls_are in
      subst (λ l. IsTransferred a.lower.params a.lift.params (params_given at a args s) (params_passed at a (call_of s args)) l) o.none
      (subst (λ k. IsTransferred a.lower.params a.lift.params (params_given at a args s) (params_passed at a k) f.once.before) o.is f.params)

  -- and what it was given is canonical
  canonical_on : (a : LinkedAdapter) (s : MachineState) (args : List CoreValue) → IsFaithful at a args s (call_of s args ∷ []) [] s
      → AreCanonical (side_abi (options_of a.lift)) (side_memory at (options_of a.lift) s) (flat_all (width_of_side (options_of a.lift)) 16 a.lift.params) a.lift.params args (first_bits args)
  canonical_on a s args f =
      let o = only_call (call_of s args) f.once.callee f.once.before f.once.behind f.once.calls_are in
      subst (λ k. AreCanonical (side_abi (options_of a.lift)) (side_memory at (options_of a.lift) k.before) (flat_all (width_of_side (options_of a.lift)) 16 a.lift.params) a.lift.params k.args (first_bits k.args)) o.is f.params_canonical

  -- A char is handed on that is none: 0xD800.
  abbrev chars : LinkedAdapter
  chars = adapter (s_plain ty.Char ∷ []) (s_plain ty.Char ∷ [])

  no_char : Excludes chars (I32 0xD800 ∷ []) (state 1 1 [] []) (handed_on (state 1 1 [] []) (I32 0xD800 ∷ [])) (IsFaithfulRun chars (state 1 1 [] []) (I32 0xD800 ∷ []) (handed_on (state 1 1 [] []) (I32 0xD800 ∷ [])))
  unfolding lift_leading
  no_char = record {
    checked = taking_checked instances string.Utf8 string.Utf8 _ _ char_fine char_fine (refl, tt);
    honest = record { state_typed = refl; args_typed = refl; typed = tt; honest = (tt, (λ e. let bad : false ≡ true = e in cc, λ e. let bad : false ≡ true = e in cc), tt) };
    broken = λ f. let t = carried_on chars (state 1 1 [] []) (I32 0xD800 ∷ []) f in none_some None t.values refl t.there;
  }

  -- Fields are handed on by their places: the callee takes a for b.
  abbrev fields_turned : LinkedAdapter
  fields_turned = adapter (fields (codes "a") ty.U8 (codes "b") ty.U32 ∷ []) (fields (codes "b") ty.U32 (codes "a") ty.U8 ∷ [])

  fields_by_place : Excludes fields_turned (words (1 ∷ 2 ∷ [])) (state 1 1 [] []) (handed_on (state 1 1 [] []) (words (1 ∷ 2 ∷ []))) (IsFaithfulRun fields_turned (state 1 1 [] []) (words (1 ∷ 2 ∷ [])) (handed_on (state 1 1 [] []) (words (1 ∷ 2 ∷ []))))
  unfolding lift_leading lift_members cross cross_fields cross_places
  fields_by_place = record {
    checked = taking_checked instances string.Utf8 string.Utf8 _ _ a_b_fine b_a_fine (record { fields = ((refl, (refl, tt))); names = names }, tt);
    honest = record { state_typed = refl; args_typed = refl; typed = tt; honest = (tt, (λ e. let bad : false ≡ true = e in cc, λ e. let bad : false ≡ true = e in cc), tt) };
    broken = λ f.
        let t = carried_on fields_turned (state 1 1 [] []) (words (1 ∷ 2 ∷ [])) f in
        let are : cross_places take_number (tuple_members fields_turned.lower.params) (given ∷ []) (tuple_members fields_turned.lift.params) [] ≡ Some (t.outs, []) =
        subst (λ vs. cross_places take_number (tuple_members fields_turned.lower.params) vs (tuple_members fields_turned.lift.params) [] ≡ Some (t.outs, [])) (sym (same_some (Some (given ∷ [])) (given ∷ []) t.values refl t.there)) t.carried.are in
        let carried : 2 ≡ first_number t.outs = sym (record_number (codes "b") 2 ((codes "a", value.Int (pos 1)) ∷ [])) ∙ ap crossed_number (sym crosses ∙ are) in
        let stands : first_number t.outs ≡ 1 = ap (λ q. elim q [ None ↦ 1 | Some vs ↦ first_number vs ]) (sym t.stand) ∙ record_number (codes "b") 1 ((codes "a", value.Int (pos 2)) ∷ []) in
        let bad : 2 ≡ 1 = carried ∙ stands in
        omega (arith, bad);
  }
    where
      given : Value
      given = value.Record ((codes "a", value.Int (pos 1)) ∷ (codes "b", value.Int (pos 2)) ∷ [])

      crosses : cross_places take_number (tuple_members fields_turned.lower.params) (given ∷ []) (tuple_members fields_turned.lift.params) [] ≡ Some (value.Record ((codes "b", value.Int (pos 2)) ∷ (codes "a", value.Int (pos 1)) ∷ []) ∷ [], [])
      crosses =
          ap (λ x. given_step (fields_in x) (λ fs. then_step (cross_fields take_number (members_of (fields (codes "a") ty.U8 (codes "b") ty.U32)) fs (members_of (fields (codes "b") ty.U32 (codes "a") ty.U8))) (λ us. done_step (value.Record (zip (codes "b" ∷ codes "a" ∷ []) us)))) [] >>= (λ r. Some (r.0 ∷ [], r.1)))
          (value.outs-Record ((codes "a", value.Int (pos 1)) ∷ (codes "b", value.Int (pos 2)) ∷ []))

      names : (x : List ℕ) → Contains (codes "a" ∷ codes "b" ∷ []) x → Contains (codes "b" ∷ codes "a" ∷ []) x
      names x (zero, lt, e) = (1, leb-true 2 2 refl, e)
      names x (suc zero, lt, e) = (0, leb-true 1 2 refl, e)
      names x (suc (suc k), lt, e) = absurd (omega (arith, lt))

  -- Flags are handed on by their places: the callee takes a for c.
  abbrev flags_turned : LinkedAdapter
  flags_turned = adapter (three_flags ∷ []) (turned_flags ∷ [])

  flags_by_place : Excludes flags_turned (I32 3 ∷ []) (state 1 1 [] []) (handed_on (state 1 1 [] []) (I32 3 ∷ [])) (IsFaithfulRun flags_turned (state 1 1 [] []) (I32 3 ∷ []) (handed_on (state 1 1 [] []) (I32 3 ∷ [])))
  unfolding lift_leading lift_members cross cross_places
  flags_by_place = record {
    checked = taking_checked instances string.Utf8 string.Utf8 _ _ flags_fine turned_fine (record { given = given_names; asked = asked_names }, tt);
    honest = record { state_typed = refl; args_typed = refl; typed = tt; honest = (tt, (λ e. let bad : false ≡ true = e in cc, λ e. let bad : false ≡ true = e in cc), tt) };
    broken = λ f.
        let t = carried_on flags_turned (state 1 1 [] []) (I32 3 ∷ []) f in
        let are : cross_places take_number (tuple_members flags_turned.lower.params) (given ∷ []) (tuple_members flags_turned.lift.params) [] ≡ Some (t.outs, []) =
        subst (λ vs. cross_places take_number (tuple_members flags_turned.lower.params) vs (tuple_members flags_turned.lift.params) [] ≡ Some (t.outs, [])) (sym (same_some (Some (given ∷ [])) (given ∷ []) t.values refl t.there)) t.carried.are in
        let carried : 0 ≡ first_flag t.outs = sym (first_flag_is (codes "c") false ((codes "b", true) ∷ (codes "a", true) ∷ [])) ∙ ap crossed_flag (sym crosses ∙ are) in
        let stands : first_flag t.outs ≡ 1 = ap (λ q. elim q [ None ↦ 1 | Some vs ↦ first_flag vs ]) (sym t.stand) ∙ first_flag_is (codes "c") true ((codes "b", true) ∷ (codes "a", false) ∷ []) in
        let bad : 0 ≡ 1 = carried ∙ stands in
        omega (arith, bad);
  }
    where
      given : Value
      given = value.Flags ((codes "a", true) ∷ (codes "b", true) ∷ (codes "c", false) ∷ [])

      crosses : cross_places take_number (tuple_members flags_turned.lower.params) (given ∷ []) (tuple_members flags_turned.lift.params) [] ≡ Some (value.Flags ((codes "c", false) ∷ (codes "b", true) ∷ (codes "a", true) ∷ []) ∷ [], [])
      crosses =
          ap (λ x. given_step (flags_in x) (λ fs. given_step (flags_named (codes "c" ∷ codes "b" ∷ codes "a" ∷ []) fs) (λ gs. done_step (value.Flags gs))) [] >>= (λ r. Some (r.0 ∷ [], r.1)))
          (value.outs-Flags ((codes "a", true) ∷ (codes "b", true) ∷ (codes "c", false) ∷ []))

      given_names : (x : List ℕ) → Contains (codes "a" ∷ codes "b" ∷ codes "c" ∷ []) x → Contains (codes "c" ∷ codes "b" ∷ codes "a" ∷ []) x
      given_names x (zero, lt, e) = (2, leb-true 3 3 refl, e)
      given_names x (suc zero, lt, e) = (1, leb-true 2 3 refl, e)
      given_names x (suc (suc zero), lt, e) = (0, leb-true 1 3 refl, e)
      given_names x (suc (suc (suc k)), lt, e) = absurd (omega (arith, lt))

      asked_names : (x : List ℕ) → Contains (codes "c" ∷ codes "b" ∷ codes "a" ∷ []) x → Contains (codes "a" ∷ codes "b" ∷ codes "c" ∷ []) x
      asked_names x (zero, lt, e) = (2, leb-true 3 3 refl, e)
      asked_names x (suc zero, lt, e) = (1, leb-true 2 3 refl, e)
      asked_names x (suc (suc zero), lt, e) = (0, leb-true 1 3 refl, e)
      asked_names x (suc (suc (suc k)), lt, e) = absurd (omega (arith, lt))

  -- A pointer is handed on, and nothing copied: nothing stands there in the other memory.
  abbrev bytes_passed : LinkedAdapter
  bytes_passed = adapter (list ty.U8 ∷ []) (list ty.U8 ∷ [])

  pointer_kept : Excludes bytes_passed (words (0 ∷ 2 ∷ [])) (state 1 1 [] (3 ∷ 4 ∷ [])) (handed_on (state 1 1 [] (3 ∷ 4 ∷ [])) (words (0 ∷ 2 ∷ []))) (IsFaithfulRun bytes_passed (state 1 1 [] (3 ∷ 4 ∷ [])) (words (0 ∷ 2 ∷ [])) (handed_on (state 1 1 [] (3 ∷ 4 ∷ [])) (words (0 ∷ 2 ∷ []))))
  unfolding lift_leading
  pointer_kept = record {
    checked = taking_checked instances string.Utf8 string.Utf8 _ _ bytes_fine bytes_fine ((refl, tt), tt);
    honest = record { state_typed = refl; args_typed = refl; typed = tt; honest = (tt, (λ e. let bad : false ≡ true = e in cc, λ e. let bad : false ≡ true = e in cc), tt) };
    broken = λ f. let t = carried_on bytes_passed (state 1 1 [] (3 ∷ 4 ∷ [])) (words (0 ∷ 2 ∷ [])) f in none_some None t.outs refl t.stand;
  }

  -- Bits behind the last of three flags are handed on.
  abbrev flags_passed : LinkedAdapter
  flags_passed = adapter (three_flags ∷ []) (three_flags ∷ [])

  stray_bits : Excludes flags_passed (I32 255 ∷ []) (state 1 1 [] []) (handed_on (state 1 1 [] []) (I32 255 ∷ [])) (IsFaithfulRun flags_passed (state 1 1 [] []) (I32 255 ∷ []) (handed_on (state 1 1 [] []) (I32 255 ∷ [])))
  unfolding AreCanonicalFlat IsCanonicalFlat
  stray_bits = record {
    checked = taking_checked instances string.Utf8 string.Utf8 _ _ flags_fine flags_fine (record { given = λ x c. c; asked = λ x c. c }, tt);
    honest = record { state_typed = refl; args_typed = refl; typed = tt; honest = (tt, (λ e. let bad : false ≡ true = e in cc, λ e. let bad : false ≡ true = e in cc), tt) };
    broken = λ f. let few : 255 < 8 = (canonical_on flags_passed (state 1 1 [] []) (I32 255 ∷ []) f).0.1 in omega (arith, few);
  }

  -- The flag of the lower side is never looked at: it is 0, so the side may not be left.
  abbrev idle : LinkedAdapter
  idle = adapter [] []

  flag_never_read : Excludes idle [] (state 1 0 [] []) (handed_on (state 1 0 [] []) []) (IsFaithfulRun idle (state 1 0 [] []) [] (handed_on (state 1 0 [] []) []))
  flag_never_read = record {
    checked = taking_checked instances string.Utf8 string.Utf8 [] [] none_fine none_fine tt;
    honest = record { state_typed = refl; args_typed = refl; typed = tt; honest = (tt, (λ e. let bad : false ≡ true = e in cc, λ e. let bad : false ≡ true = e in cc), tt) };
    broken = λ f. f.may_leave refl;
  }

  -- ---- bodies that come to no end

  idle_checked : IsCheckedAdapter at idle
  idle_checked = taking_checked instances string.Utf8 string.Utf8 [] [] none_fine none_fine tt

  -- where the callee is never called, the idle adapter is within limits
  idle_limits : (calls : List Call) → ((before : List Call) (k : Call) (behind : List Call) → calls ≡ before ++ (k ∷ behind) → k.what ≡ import.CoreDef (exported instances 1 (codes "run")) → ⊥) → IsInLimits at idle [] (state 1 1 [] []) calls
  unfolding AreWithinLimits
  idle_limits calls never = record {
    may_leave = λ e. let bad : 1 ≡ 0 = ap bits_of e in omega (arith, bad);
    params = record { values = []; there = refl; bounds = tt };
    area = tt;
    results = λ before k behind e is. absurd (never before k behind e is);
  }

  -- A bare trap.
  abbrev trapped : Ended (List CoreValue)
  trapped = run at Unreachable (first_world (state 1 1 [] []) [])

  traps_at_once : Excludes idle [] (state 1 1 [] []) trapped (IsInLimits at idle [] (state 1 1 [] []) (calls_in trapped) → ComesToEnd at idle [] (state 1 1 [] []) trapped)
  traps_at_once = record {
    checked = idle_checked;
    honest = record { state_typed = refl; args_typed = refl; typed = tt; honest = tt };
    broken = λ f. (f (idle_limits [] (λ before k behind e is. let l : 0 ≡ length (before ++ (k ∷ behind)) = ap length e in omega (arith, l, length-append before (k ∷ behind))))).ends;
  }

  -- The runtime is told on and on of a call: as often as one likes, and here 31 times.
  abbrev told : Call
  told = record { what = import.EnterSyncCall; args = words (0 ∷ 1 ∷ []); before = state 1 1 [] []; answer = Returns [] (state 1 1 [] []) }

  abbrev tells : ℕ → Action (List CoreValue)
  tells zero = Give []
  tells (suc n) = Ask import.EnterSyncCall (words (0 ∷ 1 ∷ [])) [] (λ rs. tells n)

  abbrev telling : Ended (List CoreValue)
  telling = run at (tells 31) (first_world (state 1 1 [] []) (replicate 31 (Returns [] (state 1 1 [] []))))

  -- among calls that are all one there is no other
  only_one : (c : Call) (n : ℕ) (before : List Call) (k : Call) (behind : List Call) → replicate n c ≡ before ++ (k ∷ behind) → k ≡ c
  only_one c zero before k behind e = let l : 0 ≡ length (before ++ (k ∷ behind)) = ap length e in absurd (omega (arith, l, length-append before (k ∷ behind)))
  only_one c (suc n) [] k behind e = ap first (sym e)
    where
      first : List Call → Call
      first [] = c
      first (x ∷ xs) = x
  only_one c (suc n) (x ∷ before) k behind e = only_one c n before k behind (ap (drop 1) e)

  all_honest : (n : ℕ) (x : Position) → AreHonest at idle (sync_moved_on idle []) x (replicate n told)
  all_honest zero x = tt
  all_honest (suc n) x = (tt, refl, all_honest n (sync_moved_on idle [] told x))

  calls_on_and_on : Excludes idle [] (state 1 1 [] []) telling (IsInLimits at idle [] (state 1 1 [] []) (calls_in telling) → ComesToEnd at idle [] (state 1 1 [] []) telling)
  unfolding weight_members
  calls_on_and_on = record {
    checked = idle_checked;
    honest = record { state_typed = refl; args_typed = refl; typed = tt; honest = all_honest 31 (landed (params_landing idle)) };
    broken = λ f. let few : 31 ≤ 30 = (f (idle_limits (replicate 31 told) (λ before k behind e is. other (ap (λ c. c.what) (sym (only_one told 31 before k behind e)) ∙ is)))).few in omega (arith, few);
  }
    where
      other : import.EnterSyncCall ≡ import.CoreDef (exported instances 1 (codes "run")) → ⊥
      other e = false≢true (ap (λ i. is_import_of (exported instances 1 (codes "run")) i) e)

  -- The callee is called on and on.
  abbrev calls_callee : ℕ → Action (List CoreValue)
  calls_callee zero = Give []
  calls_callee (suc n) = Ask (import.CoreDef (exported instances 1 (codes "run"))) [] [] (λ rs. calls_callee n)

  abbrev calling_on : Ended (List CoreValue)
  calling_on = run at (calls_callee 31) (first_world (state 1 1 [] []) (replicate 31 (Returns [] (state 1 1 [] []))))

  callees_honest : (n : ℕ) → AreHonest at idle (sync_moved_on idle []) (landed (results_landing idle [])) (replicate n (call_of (state 1 1 [] []) []))
  callees_honest zero = tt
  callees_honest (suc n) = (tt, (λ e. let bad : false ≡ true = e in cc, λ e. let bad : false ≡ true = e in cc), callees_honest n)

  callee_on_and_on : Excludes idle [] (state 1 1 [] []) calling_on (IsInLimits at idle [] (state 1 1 [] []) (calls_in calling_on) → ComesToEnd at idle [] (state 1 1 [] []) calling_on)
  unfolding weight_members AreWithinLimits
  callee_on_and_on = record {
    checked = idle_checked;
    honest = record { state_typed = refl; args_typed = refl; typed = tt; honest = (tt, (λ e. let bad : false ≡ true = e in cc, λ e. let bad : false ≡ true = e in cc), callees_honest 30) };
    broken = λ f. let few : 31 ≤ 30 = (f in_limits).few in omega (arith, few);
  }
    where
      in_limits : IsInLimits at idle [] (state 1 1 [] []) (replicate 31 (call_of (state 1 1 [] []) []))
      in_limits = record {
        may_leave = λ e. let bad : 1 ≡ 0 = ap bits_of e in omega (arith, bad);
        params = record { values = []; there = refl; bounds = tt };
        area = tt;
        results = λ before k behind e is. subst (λ c. ResultsAreThere at idle c) (sym (only_one (call_of (state 1 1 [] []) []) 31 before k behind e)) (record { values = []; there = refl; bounds = tt });
      }

  -- The callee is called twice.
  abbrev calling_twice : Ended (List CoreValue)
  calling_twice = run at (handing_on [] >> handing_on []) (first_world (state 1 1 [] []) (Returns [] (state 1 1 [] []) ∷ Returns [] (state 1 1 [] []) ∷ []))

  callee_twice : Excludes idle [] (state 1 1 [] []) calling_twice (IsFaithfulRun idle (state 1 1 [] []) [] calling_twice)
  callee_twice = record {
    checked = idle_checked;
    honest = record { state_typed = refl; args_typed = refl; typed = tt; honest = (tt, (λ e. let bad : false ≡ true = e in cc, λ e. let bad : false ≡ true = e in cc), (tt, (λ e. let bad : false ≡ true = e in cc, λ e. let bad : false ≡ true = e in cc), tt)) };
    broken = λ f.
        let two : 2 ≡ length (filter (is_call_of idle.callee) (f.once.before ++ (f.once.callee ∷ f.once.behind))) = ap (λ l. length (filter (is_call_of idle.callee) l)) f.once.calls_are in
        let parts = ap length (filter-append (is_call_of idle.callee) f.once.before (f.once.callee ∷ f.once.behind)) ∙ length-append (filter (is_call_of idle.callee) f.once.before) _ in
        let none = ap length f.once.none_before in
        let one = at_most (is_call_of idle.callee f.once.callee) f.once.callee (filter (is_call_of idle.callee) f.once.behind) (ap length f.once.none_behind) in
        omega (arith, two, parts, none, one);
  }
    where
      at_most : (b : Bool) (c : Call) (cs : List Call) → length cs ≡ 0 → length (cond b (c ∷ cs) cs) ≤ 1
      at_most true c cs e = omega (arith, e)
      at_most false c cs e = omega (arith, e)

  -- The function that moves parameters is a bare trap.
  record ExcludesStart (a : LinkedAdapter) (args : List CoreValue) (s : MachineState) (e : Ended (List CoreValue)) : Type 0 where
    checked : IsCheckedAdapter at a
    honest : IsHonestStart at a args s e
    params : ParamsAreThere at a args s
    broken : EndsInFew (weight_of_values a.lower.params (params_given at a args s)) e → ⊥

  starts_with_trap : ExcludesStart idle [] (state 1 1 [] []) trapped
  unfolding AreWithinLimits
  starts_with_trap = record {
    checked = idle_checked;
    honest = record { state_typed = refl; args_typed = refl; typed = tt; honest = tt };
    params = record { values = []; there = refl; bounds = tt };
    broken = λ f. f.ends;
  }

  -- ---- bodies that go astray

  -- A module has what the adapter names, core functions give what it takes them to give, and answers are typed.
  record ExcludesStray (p : ImportPlaces) (a : LinkedAdapter) (core : CoreDef → List ValType) (start : (callback post_return : Option CoreDef) → List ValType) (w : World) (e : Ended (List CoreValue)) : Type 0 where
    has_places : HasPlaces p a
    have_types : HaveCoreTypes core a
    broken : EndsTyped p (result_types core start) w e → ⊥

  -- the callee gives nothing, and realloc a pointer
  abbrev gives : CoreDef → List ValType
  gives d = if same_def (exported instances 1 (codes "run")) d then [] else (val.I32 ∷ [])

  idle_places : HasPlaces at idle
  idle_places = record {
    lift_memory = λ m e. let none : 0 ≡ at.memory m.def = ap (λ o. elim o [ None ↦ 0 | Some x ↦ at.memory x.def ]) e in omega (arith, none);
    lower_memory = λ m e. let one : 1 ≡ at.memory m.def = ap (λ o. elim o [ None ↦ 1 | Some x ↦ at.memory x.def ]) e in omega (arith, one);
    lift_flags = refl;
    lower_flags = refl;
  }

  idle_types : HaveCoreTypes gives idle
  idle_types = record {
    callee = refl;
    lift_realloc = λ f e. ap (λ o. elim o [ None ↦ val.I32 ∷ [] | Some g ↦ gives g ]) (sym e);
    lower_realloc = λ f e. ap (λ o. elim o [ None ↦ val.I32 ∷ [] | Some g ↦ gives g ]) (sym e);
    post_return = λ f e. absurd (none_some None f refl e);
  }

  -- The callee is taken to give a number of 64 bits.
  abbrev mistaken : Ended (List CoreValue)
  mistaken = run at (Ask (import.CoreDef (exported instances 1 (codes "run"))) [] (val.I64 ∷ []) (λ rs. Give [])) (first_world (state 1 1 [] []) (Returns [] (state 1 1 [] []) ∷ []))

  results_mistaken : ExcludesStray at idle gives (λ callback post_return. []) (first_world (state 1 1 [] []) (Returns [] (state 1 1 [] []) ∷ [])) mistaken
  results_mistaken = record { has_places = idle_places; have_types = idle_types; broken = λ h. (h refl (refl, tt)).0 }

  -- A memory is read, where no side has one and the module none.
  abbrev without_memories : LinkedAdapter
  without_memories = record idle { lower = record idle.lower { memory = None; realloc = None }; lift = record idle.lift { memory = None; realloc = None } }

  abbrev at_flags : ImportPlaces
  at_flags = record at { memory_types = [] }

  abbrev flags_alone : World
  flags_alone = first_world (record { memories = []; globals = I32 1 ∷ I32 1 ∷ [] }) []

  memory_mistaken : ExcludesStray at_flags without_memories gives (λ callback post_return. []) flags_alone (run at_flags (Read 1 (exported instances 1 (codes "memory")) 0 (λ x. Give [])) flags_alone)
  memory_mistaken = record {
    has_places = record { lift_memory = λ m e. absurd (none_some None m refl e); lower_memory = λ m e. absurd (none_some None m refl e); lift_flags = refl; lower_flags = refl };
    have_types = record { callee = refl; lift_realloc = λ f e. absurd (none_some None f refl e); lower_realloc = λ f e. absurd (none_some None f refl e); post_return = λ f e. absurd (none_some None f refl e) };
    broken = λ h. (h refl tt).0;
  }

  -- ---- regions

  abbrev realloc_asked : (align size : ℕ) → (List CoreValue → Action (List CoreValue)) → Action (List CoreValue)
  realloc_asked align size k = Ask (import.CoreDef (exported instances 1 (codes "realloc"))) (words (0 ∷ 0 ∷ align ∷ size ∷ [])) (val.I32 ∷ []) k

  abbrev lift_memory : CoreDef
  lift_memory = exported instances 1 (codes "memory")

  abbrev lower_memory : CoreDef
  lower_memory = exported instances 0 (codes "memory")

  -- Two bytes are to be at 3, in a memory of four bytes: the first is written all the same.
  abbrev wrote_unchecked : Ended (List CoreValue)
  wrote_unchecked = run at (realloc_asked 1 2 (λ rs. Write 1 lift_memory (first_bits rs) 3 (Give []))) (first_world (state 0 1 (replicate 4 0) (3 ∷ 4 ∷ [])) (Returns (I32 3 ∷ []) (state 0 1 (replicate 4 0) (3 ∷ 4 ∷ [])) ∷ []))

  -- what the law of writes asks of an adapter, whatever is answered
  record ExcludesWrites (a : LinkedAdapter) (args : List CoreValue) (s : MachineState) (e : Ended (List CoreValue)) : Type 0 where
    own_callee : HasOwnCallee a
    room : HasRoomForValues a
    broken : IsConfined at a args s e → ⊥

  realloc_unchecked : ExcludesWrites bytes_passed (words (0 ∷ 2 ∷ [])) (state 0 1 (replicate 4 0) (3 ∷ 4 ∷ [])) wrote_unchecked
  unfolding aligned
  realloc_unchecked = record {
    own_callee = (taking_checked instances string.Utf8 string.Utf8 _ _ bytes_fine bytes_fine ((refl, tt), tt)).own_callee;
    room = record {
      params = ((leb-true 1 8 refl, leb-true 1 1 refl, (tt, tt)), tt);
      results = tt;
      params_tuple = λ e. leb-true 1 8 refl;
      results_tuple = λ e. absurd (none_some None _ refl (sym e));
    };
    broken = λ h. elim h.0.own [ inl k ↦ (let n : 5 ≤ 4 = k.0.inside in omega (arith, n)) | inr k ↦ k ];
  }

  -- 2 ^ 29 elements of eight bytes are none in 32 bits: the first is written where nothing was given.
  abbrev longs_passed : LinkedAdapter
  longs_passed = adapter (list ty.U64 ∷ []) (list ty.U64 ∷ [])

  abbrev in_32_bits : (count : ℕ) → Action (List CoreValue)
  in_32_bits count = realloc_asked 8 (count * 8 % 2 ^ 32) (λ rs. each count (λ i. Read 8 lower_memory (i * 8) (λ x. Write 8 lift_memory (first_bits rs + i * 8) x (Give []))))

  abbrev wrote_first : Ended (List CoreValue)
  wrote_first = run at (in_32_bits 536870912) (first_world (state 1 1 (replicate 16 0) (replicate 8 7)) (Returns (I32 0 ∷ []) (state 1 1 (replicate 16 0) (replicate 8 7)) ∷ []))

  length_in_32_bits : Excludes longs_passed (words (0 ∷ 536870912 ∷ [])) (state 1 1 (replicate 16 0) (replicate 8 7)) wrote_first (IsConfined at longs_passed (words (0 ∷ 536870912 ∷ [])) (state 1 1 (replicate 16 0) (replicate 8 7)) wrote_first)
  length_in_32_bits = record {
    checked = taking_checked instances string.Utf8 string.Utf8 _ _ longs_fine longs_fine ((refl, tt), tt);
    honest = record {
      state_typed = refl;
      args_typed = refl;
      typed = tt;
      honest = (
        tt,
        (
          λ e. record { sound = record { aligned = refl; inside = leb-true 0 16 refl }; apart = λ j i k. k; holds = λ j i k. omega (arith, i); others = λ j k. absurd k; source = refl },
          λ e. let bad : false ≡ true = e in cc,
        ),
        tt,
      );
    };
    broken = λ h. elim h.0.own [ inl k ↦ (let n : 8 ≤ 0 = k.1.1 in omega (arith, n)) | inr k ↦ k ];
  }

  -- ---- texts

  abbrev texts : LinkedAdapter
  texts = taking instances string.Utf16 string.Utf8 (s_plain ty.String ∷ []) (s_plain ty.String ∷ [])

  -- "aé" in UTF-16, and so many bytes where it goes
  abbrev with_text : (lift : List ℕ) → MachineState
  with_text bytes = state 0 1 bytes (0x61 ∷ 0 ∷ 0xE9 ∷ 0 ∷ [])

  texts_checked : IsCheckedAdapter at texts
  texts_checked = taking_checked instances string.Utf16 string.Utf8 _ _ string_fine string_fine (refl, tt)

  -- A bare trap where a text is to be moved.
  text_given_up : Excludes texts (words (0 ∷ 2 ∷ [])) (state 1 1 [] (0x61 ∷ 0 ∷ 0xE9 ∷ 0 ∷ [])) (run at Unreachable (first_world (state 1 1 [] (0x61 ∷ 0 ∷ 0xE9 ∷ 0 ∷ [])) []))
      (IsInLimits at texts (words (0 ∷ 2 ∷ [])) (state 1 1 [] (0x61 ∷ 0 ∷ 0xE9 ∷ 0 ∷ [])) [] → ComesToEnd at texts (words (0 ∷ 2 ∷ [])) (state 1 1 [] (0x61 ∷ 0 ∷ 0xE9 ∷ 0 ∷ [])) (run at Unreachable (first_world (state 1 1 [] (0x61 ∷ 0 ∷ 0xE9 ∷ 0 ∷ [])) [])))
  unfolding lift_leading AreWithinLimits utf16_chars
  text_given_up = record {
    checked = texts_checked;
    honest = record { state_typed = refl; args_typed = refl; typed = tt; honest = tt };
    broken = λ f. (f (record {
      may_leave = λ e. let bad : 1 ≡ 0 = ap bits_of e in omega (arith, bad);
      params = record { values = value.Str (0x61 ∷ 0xE9 ∷ []) ∷ []; there = refl; bounds = (leb-true 2 715827882 refl, tt) };
      area = tt;
      results = λ before k behind e is. let l : 0 ≡ length (before ++ (k ∷ behind)) = ap length e in absurd (omega (arith, l, length-append before (k ∷ behind)));
    })).ends;
  }

  -- "é" is written behind the "a" where that was before realloc moved it.
  abbrev to_utf8 : List ℕ → (List CoreValue → Action (List CoreValue)) → Action (List CoreValue)
  to_utf8 args k = Ask (import.Transcode op.Utf16ToUtf8 lower_memory false lift_memory false) (words args) (val.I32 ∷ val.I32 ∷ []) k

  abbrev at_old_pointer : Ended (List CoreValue)
  at_old_pointer = run at (realloc_asked 1 2 (λ a. to_utf8 (0 ∷ 2 ∷ first_bits a ∷ 2 ∷ 1 ∷ []) (λ b.
      Ask (import.CoreDef (exported instances 1 (codes "realloc"))) (words (first_bits a ∷ 2 ∷ 1 ∷ 6 ∷ [])) (val.I32 ∷ []) (λ d. to_utf8 (2 ∷ 1 ∷ (first_bits a + 1) ∷ 5 ∷ 0 ∷ []) (λ e. Give [])))))
      (first_world (with_text (replicate 8 0)) (Returns (I32 0 ∷ []) (with_text (replicate 8 0)) ∷ Returns (words (1 ∷ 1 ∷ [])) (with_text (0x61 ∷ replicate 7 0))
      ∷ Returns (I32 2 ∷ []) (with_text (0x61 ∷ 0 ∷ 0x61 ∷ replicate 5 0)) ∷ Returns (words (1 ∷ 2 ∷ [])) (with_text (0x61 ∷ 0xC3 ∷ 0xA9 ∷ replicate 5 0)) ∷ []))

  -- what the law of ranges asks of a run, whatever all but transcoders answer
  record ExcludesRanges (a : LinkedAdapter) (args : List CoreValue) (s : MachineState) (e : Ended (List CoreValue)) : Type 0 where
    own_callee : HasOwnCallee a
    lower_memory : HasKnownMemory at a.lower.memory
    lift_memory : HasKnownMemory at a.lift.memory
    memories : HaveTwoMemories at (options_of a.lower) (options_of a.lift)
    state_typed : is_state at s ≡ true
    typed : IsStraight e
    honest : HaveHonestTranscoders at (calls_in e)
    broken : AreRangedSync at a args (calls_in e) → ⊥

  old_pointer : ExcludesRanges texts (words (0 ∷ 2 ∷ [])) (with_text (replicate 8 0)) at_old_pointer
  unfolding encode_utf8
  old_pointer = record {
    own_callee = texts_checked.own_callee;
    lower_memory = texts_checked.lower_memory;
    lift_memory = texts_checked.lift_memory;
    memories = texts_checked.memories;
    state_typed = refl;
    typed = tt;
    honest = (
      tt,
      (
        λ r. record {
          bytes = 0x61 ∷ [];
          transcoding = record { text = 0x61 ∷ []; rest = 0xE9 ∷ 0 ∷ []; reads = refl; can_read = (refl, tt); can_write = (refl, tt); stops = (leb-true 1 2 refl, inr (record { next = 0xE9; more = []; can = refl; begins = refl; full = leb-true 3 3 refl })); writes = refl; answers = refl };
          inside = leb-true 1 8 refl;
          written = refl;
        },
        (
          tt,
          (
            λ r. record {
              bytes = 0xC3 ∷ 0xA9 ∷ [];
              transcoding = record { text = 0xE9 ∷ []; rest = []; reads = refl; can_read = (refl, tt); can_write = (refl, tt); stops = (leb-true 2 5 refl, inl refl); writes = refl; answers = refl };
              inside = leb-true 3 8 refl;
              written = refl;
            },
            tt,
          ),
        ),
      ),
    );
    broken = λ h. elim h.1.1.1.0.2.own [ inl k ↦ (let n : 2 ≤ 1 = k.1.0 in omega (arith, n)) | inr k ↦ k ];
  }

  -- ---- flags

  -- The flag of the lower side is 0 while post-return runs, and restored behind it.
  abbrev posting : LinkedAdapter
  posting = record idle { lift = record idle.lift { post_return = Some (exported instances 1 (codes "post-return")) } }

  abbrev restored_late : Ended (List CoreValue)
  restored_late = run at (Ask (import.CoreDef (exported instances 1 (codes "run"))) [] [] (λ rs. SetFlags 0 0 (Ask (import.CoreDef (exported instances 1 (codes "post-return"))) [] [] (λ x. SetFlags 0 1 (Give [])))))
      (first_world (state 1 1 [] []) (Returns [] (state 1 1 [] []) ∷ Returns [] (state 1 0 [] []) ∷ []))

  abbrev callee_call : Call
  callee_call = record { what = import.CoreDef (exported instances 1 (codes "run")); args = []; before = state 1 1 [] []; answer = Returns [] (state 1 1 [] []) }

  abbrev post_call : Call
  post_call = record { what = import.CoreDef (exported instances 1 (codes "post-return")); args = []; before = state 1 0 [] []; answer = Returns [] (state 1 0 [] []) }

  -- with one call of post-return, nothing else is called behind the callee
  late : (enter params : List Call) (callee : Call) (reads exit back finish : List Call) → callee_call ∷ post_call ∷ [] ≡ enter ++ (params ++ (callee ∷ (reads ++ (exit ++ (back ++ finish)))))
      → length enter ≡ 0 → length reads ≡ 0 → length exit ≡ 0 → length finish ≡ 1 → (before behind : List CoreValue) → KeepsGlobals (state_after callee).globals (reads ++ exit) before → KeepsGlobals (with_flag at 0 (I32 0) before) back behind
      → (last : List CoreValue) → KeepsGlobals (with_flag at 0 (I32 1) behind) finish last → ⊥
  late (x ∷ enter) params callee reads exit back finish e n r x' f before behind g h last k = omega (arith, n)
  late [] params callee (x ∷ reads) exit back finish e n r x' f before behind g h last k = omega (arith, r)
  late [] params callee [] (x ∷ exit) back finish e n r x' f before behind g h last k = omega (arith, x')
  late [] params callee [] [] back [] e n r x' f before behind g h last k = omega (arith, f)
  late [] params callee [] [] back (y ∷ z ∷ finish) e n r x' f before behind g h last k = omega (arith, f)
  late [] (x ∷ params) callee [] [] back (y ∷ []) e n r x' f before behind g h last k =
      let l : 2 ≡ suc (length (params ++ (callee ∷ (back ++ (y ∷ []))))) = ap length e in omega (arith, l, length-append params (callee ∷ (back ++ (y ∷ []))), length-append back (y ∷ []))
  late [] [] callee [] [] (x ∷ back) (y ∷ []) e n r x' f before behind g h last k =
      let l : 2 ≡ suc (suc (length (back ++ (y ∷ [])))) = ap length e in omega (arith, l, length-append back (y ∷ []))
  late [] [] callee [] [] [] (y ∷ []) e n r x' f before behind g h last k =
      let post : post_call ≡ y = ap (λ l. nth l 1) e in
      let first : callee_call ≡ callee = ap (λ l. nth l 0) e in
      let globals : with_flag at 0 (I32 1) (with_flag at 0 (I32 0) (state_after callee).globals) ≡ y.before.globals = ap (λ l. with_flag at 0 (I32 1) (with_flag at 0 (I32 0) l)) (sym g) ∙ ap (λ l. with_flag at 0 (I32 1) l) (sym h) ∙ sym k.0 in
      let bad : 1 ≡ 0 = ap (λ l. bits_of (flag_in at 0 l)) (ap (λ c. with_flag at 0 (I32 1) (with_flag at 0 (I32 0) (state_after c).globals)) first ∙ globals ∙ ap (λ c. c.before.globals) (sym post)) in
      omega (arith, bad)
    where
      nth : List Call → ℕ → Call
      nth [] i = post_call
      nth (c ∷ cs) zero = c
      nth (c ∷ cs) (suc i) = nth cs i

  flag_restored_late : Excludes posting [] (state 1 1 [] []) restored_late (WhereGiven restored_late (λ cs vs w. AreOrderedCalls at off posting (state 1 1 [] []) cs w.state))
  flag_restored_late = record {
    checked = record {
      lower_params = none_fine;
      lower_results = none_fine;
      lift_params = none_fine;
      lift_results = none_fine;
      params_agree = tt;
      results_agree = tt;
      params_supplied = idle_checked.params_supplied;
      results_supplied = idle_checked.results_supplied;
      params_behind = idle_checked.params_behind;
      params_into = idle_checked.params_into;
      results_behind = idle_checked.results_behind;
      results_into = idle_checked.results_into;
      memories = idle_checked.memories;
      lower_memory = idle_checked.lower_memory;
      lift_memory = idle_checked.lift_memory;
      own_callee = record {
        lift_realloc = idle_checked.own_callee.lift_realloc;
        lower_realloc = idle_checked.own_callee.lower_realloc;
        post_return = λ f e. ap (λ o. elim o [ None ↦ false | Some g ↦ same_def posting.callee g ]) (sym e);
      };
    };
    honest = record {
      state_typed = refl;
      args_typed = refl;
      typed = tt;
      honest = (tt, (λ e. let bad : false ≡ true = e in cc, λ e. let bad : false ≡ true = e in cc), (tt, (λ e. let bad : false ≡ true = e in cc, λ e. refl), tt));
    };
    broken = λ o.
        late o.enter o.params o.callee o.reads o.exit o.results_moved o.finish o.calls_are (as_many o.enter [] o.enter_is) (as_many o.reads [] o.reads_are) (as_many o.exit [] o.exit_is) (as_many o.finish _ o.finish_is)
        o.before_results o.behind_results o.to_results o.in_results _ o.to_end;
  }
    where
      as_many : (cs : List Call) (xs : List AskedCall) → map asks cs ≡ xs → length cs ≡ length xs
      as_many cs xs e = sym (length-map cs asks) ∙ ap length e
