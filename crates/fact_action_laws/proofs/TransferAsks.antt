-- The transfers of adapters ask of realloc what the parts of their values do, and read whole texts where those of the parts are there.
use Rattle.std.proofs.Common.{◌≡◌, ℕ, List, [], ◌∷◌, ◌++◌, Option, Some, None, sym, ap, ◌∙◌, subst}
use Rattle.std.proofs.lemmas.List.{append-nil}
use Rattle.fact_wasm.specs.declared.types.ValType.{ValType}
use Rattle.fact_types.specs.Adapters.{LinkedAdapter, is_wide}
use Rattle.fact_types.specs.Shapes.{Shape}
use Rattle.fact_types.specs.Signatures.{flat_values, lower_limit, lift_results_limit}
use Rattle.fact_types.specs.Tuples.{tuple_members}
use Rattle.fact_types.specs.declared.outside.Trap.TheVariants.{MemoryOutOfBounds}
use Rattle.fact_machine.specs.Trace.{Grows}
use Rattle.fact_machine.specs.World.{World}
use Rattle.fact_machine.specs.declared.types.CoreValue.{CoreValue}
use Rattle.fact_actions.specs.Actions.{Action, Give, ◌>>◌}
use Rattle.fact_actions.specs.Adapters.{AdapterTunables, check_tuple, from_values, into_params, flat_results, results_transfer, move_params, move_results}
use Rattle.fact_actions.specs.Moves.{entry_extent, move_fields}
use Rattle.fact_actions.specs.Regions.{Region}
use Rattle.fact_actions.specs.Requests.{RequestPart, tuple_part, requests_in, parts_requests}
use Rattle.fact_actions.specs.Running.{ImportPlaces, Ended, Gave, Halted, Strayed, calls_in, run}
use Rattle.fact_actions.specs.Sides.{Source, Values, AtAddress, Target, Slots, Into, options_of, first_bits, address_value, reallocate}
use Rattle.fact_action_laws.specs.FaithfulLaws.{setting_of_params, setting_of_results}
use Rattle.fact_action_laws.specs.HonestMoves.{AreHonestCalls}
use Rattle.fact_action_laws.specs.Regions.{TransferSetting, AreBytesOf}
use Rattle.fact_action_laws.specs.Parts.{source_of_types, parts_of_fields, parts_of_params, parts_of_results}
use Rattle.fact_action_laws.specs.Premises.{KnowsMemories}
use Rattle.fact_action_laws.specs.Requested.{AsksForParts}
use Rattle.fact_action_laws.specs.ReadTexts.{ReadTexts}
use Rattle.fact_action_laws.specs.Rooms.{AllCutsShrink}
use Rattle.fact_action_laws.specs.Trapped.{AreHonestUntilTrap, answers_so_far}
use Rattle.fact_action_laws.proofs.AllAsked.{fields_ask}
use Rattle.fact_action_laws.proofs.Answered.{position}
use Rattle.fact_action_laws.proofs.Asking.{Answers, AsksEnd}
use Rattle.fact_action_laws.proofs.Cutting.{TellsEnd}
use Rattle.fact_action_laws.proofs.Fine.{HasKnownSides}
use Rattle.fact_action_laws.proofs.PartTexts.{AreTextsThere}
use Rattle.fact_action_laws.proofs.ReadRuns.{IsSet, ReadsEnd}
use Rattle.fact_action_laws.proofs.PartAsks.{AsksParts, anything, parts_then, parts_alone, handed, parts_give, parts_check, parts_reallocate, parts_first}
use Rattle.fact_action_laws.proofs.Trapped.{GivesReturned, gives_returned, all_honest, all_answers}

-- ---- ends

-- What the calls of an end ask for, where they are honest until a trap: all that parts ask for, or so far a front of it.
abbrev pub HonestlyAsks : TransferSetting → List RequestPart → Ended (List CoreValue) → Type 0
HonestlyAsks c xs e = AreHonestUntilTrap (AreHonestCalls c []) (calls_in e) → AsksForParts c.transfer (position c []).landing xs e

-- What transcoders read until an end, where its calls are honest until a trap: whole texts.
abbrev pub HonestlyReads : TransferSetting → Ended (List CoreValue) → Type 0
HonestlyReads c (Gave n cs vs w) = AreHonestUntilTrap (AreHonestCalls c []) cs → ReadTexts c.places cs
HonestlyReads c (Halted n cs s w) = AreHonestUntilTrap (AreHonestCalls c []) cs → ReadTexts c.places cs
HonestlyReads c (Strayed n cs w) = Unit {0}

module _ (c : TransferSetting) (known : HasKnownSides c) where
  abbrev A : List RequestPart → Action (List CoreValue) → Type 0
  A xs q = AsksParts c known xs q

  -- nothing is told, and nothing asked for, behind the last of the parts
  parts_are : (xs : List RequestPart) (l : Answers) → parts_then c.transfer xs (l ++ []) (λ more. []) ≡ parts_requests c.transfer xs l
  parts_are xs l = ap (λ l. parts_then c.transfer xs l (λ more. [])) (append-nil l) ∙ parts_alone c.transfer xs l

  pub asks_for : (xs : List RequestPart) (q : Action (List CoreValue)) (w : World) → A xs q → AreBytesOf c.places c.transfer.from w.state c.source → HonestlyAsks c xs (run c.places q w)
  asks_for xs q w h bytes = by_end (run c.places q w) (gives_returned c.places q w) (h.asks.by [] w bytes) ((h.cuts []).by [] w bytes)
    where
      cuts_are : (l : Answers) → AllCutsShrink c.transfer (xs ++ []) l → AllCutsShrink c.transfer xs l
      cuts_are l h = subst (λ xs. AllCutsShrink c.transfer xs l) (append-nil xs) h

      by_end : (e : Ended (List CoreValue)) → GivesReturned e → AsksEnd c known handed [] (λ l k. parts_then c.transfer xs l k) e → TellsEnd c known anything (λ a. AllCutsShrink c.transfer []) [] (AllCutsShrink c.transfer (xs ++ [])) e → HonestlyAsks c xs e
      by_end (Gave n cs vs w') returned j t = λ o.
          let l = (position c []).landing in
          let asked = (j (all_honest (AreHonestCalls c []) cs returned o)).0 [] (λ more. []) in
          let cut = (t (all_honest (AreHonestCalls c []) cs returned o)).1 [] tt in (
            sym (append-nil (requests_in l cs)) ∙ sym asked ∙ parts_are xs (answers_so_far l cs) ∙ ap (parts_requests c.transfer xs) (all_answers l cs returned),
            subst (AllCutsShrink c.transfer xs) (append-nil (answers_so_far l cs) ∙ all_answers l cs returned) (cuts_are (answers_so_far l cs ++ []) cut),
          )
      by_end (Halted n cs s w') returned j t = λ o.
          let l = (position c []).landing in
          (subst (λ l2. Grows (requests_in l cs) l2) (parts_are xs (answers_so_far l cs)) (j o [] (λ more. [])), cuts_are (answers_so_far l cs) (t o))
      by_end (Strayed n cs w') returned j t = λ o. tt

  pub reads_for : (xs : List RequestPart) (q : Action (List CoreValue)) (w : World) → A xs q → AreTextsThere c xs → IsSet c known w.state → HonestlyReads c (run c.places q w)
  reads_for xs q w h there set = by_end (run c.places q w) (gives_returned c.places q w) ((h.reads there).by [] w set)
    where
      by_end : (e : Ended (List CoreValue)) → GivesReturned e → ReadsEnd c known [] e → HonestlyReads c e
      by_end (Gave n cs vs w') returned j = λ o. (j (all_honest (AreHonestCalls c []) cs returned o)).0
      by_end (Halted n cs s w') returned j = j
      by_end (Strayed n cs w') returned j = tt

  -- ---- tuples

  from_asks : (limit : ℕ) (ts : List Shape) (vs : List CoreValue) (xs : Source → List RequestPart) (k : Source → Action (List CoreValue)) → ((s : Source) → A (xs s) (k s)) → A (xs (source_of_types c.transfer.from limit ts vs)) (from_values c.transfer.from limit ts vs k)
  from_asks limit ts vs xs k h = by_flats (flat_values (is_wide c.transfer.from.memory) limit ts)
    where
      by_flats : (x : Option (List ValType)) → A (xs (elim x [ Some flats ↦ Values vs | None ↦ AtAddress (first_bits vs) ])) (elim x [ Some flats ↦ k (Values vs) | None ↦ check_tuple c.transfer.from ts (first_bits vs) (k (AtAddress (first_bits vs))) ])
      by_flats (Some flats) = h (Values vs)
      by_flats None = parts_check c known c.transfer.from MemoryOutOfBounds (first_bits vs) (entry_extent c.transfer.from (tuple_members ts)).size (entry_extent c.transfer.from (tuple_members ts)).align (h (AtAddress (first_bits vs)))

  into_asks : (ts : List Shape) (xs : List RequestPart) (k : Target → Action (List CoreValue)) → ((d : Target) → A xs (k d)) → A (elim (flat_values (is_wide c.transfer.to.memory) 16 ts) [ Some flats ↦ xs | None ↦ tuple_part c.transfer.to ts ∷ xs ]) (into_params c.transfer ts k)
  into_asks ts xs k h = by_flats (flat_values (is_wide c.transfer.to.memory) 16 ts)
    where
      by_flats : (x : Option (List ValType)) → A (elim x [ Some flats ↦ xs | None ↦ tuple_part c.transfer.to ts ∷ xs ]) (elim x [
        | Some flats ↦ k (Slots flats)
        | None ↦
            let e = entry_extent c.transfer.to (tuple_members ts) in
            reallocate c.transfer.concurrency c.transfer.to MemoryOutOfBounds 0 0 e.align e.size (λ q. k (Into q) >> Give (address_value c.transfer.to q ∷ []))
      ])
      by_flats (Some flats) = h (Slots flats)
      by_flats None =
          let e = entry_extent c.transfer.to (tuple_members ts) in
          parts_reallocate c known MemoryOutOfBounds e.align e.size {k = λ q. k (Into q) >> Give (address_value c.transfer.to q ∷ [])}
          (λ q. parts_first c known (k (Into q)) (λ vs. Give (address_value c.transfer.to q ∷ [])) (h (Into q)) (λ vs. parts_give c known (address_value c.transfer.to q ∷ [])))

-- ---- the transfers

module _ (p : ImportPlaces) (u : AdapterTunables) (a : LinkedAdapter) (known : KnowsMemories p a) (source : List ℕ) where
  pub params_sides : HasKnownSides (setting_of_params p u a source)
  params_sides = record { from = known.lower; to = known.lift; two = known.two }

  pub results_sides : (area : List Region) → HasKnownSides (setting_of_results p u a area source)
  results_sides area = record { from = known.lift; to = known.lower; two = λ m n e f same. known.two n m f e (sym same) }

  pub params_ask : (args : List CoreValue) → AsksParts (setting_of_params p u a source) params_sides (parts_of_params (setting_of_params p u a source) a args) (move_params u a args)
  params_ask args =
      let c = setting_of_params p u a source in
      from_asks c params_sides (lower_limit a.lower.async_side) a.lower.params args
      (λ s. elim (flat_values (is_wide a.lift.memory) 16 a.lift.params) [ Some flats ↦ parts_of_fields c (tuple_members a.lower.params) (tuple_members a.lift.params) s | None ↦ tuple_part (options_of a.lift) a.lift.params ∷ parts_of_fields c (tuple_members a.lower.params) (tuple_members a.lift.params) s ]) _ (λ s.
      into_asks c params_sides a.lift.params (parts_of_fields c (tuple_members a.lower.params) (tuple_members a.lift.params) s) _ (λ d. fields_ask c params_sides (tuple_members a.lift.params) (tuple_members a.lower.params) 0 s d))

  pub results_ask : (area : List Region) (given : List CoreValue) (pointer : ℕ) → AsksParts (setting_of_results p u a area source) (results_sides area) (parts_of_results (setting_of_results p u a area source) a given) (move_results u a given pointer)
  results_ask area given pointer =
      from_asks c (results_sides area) (lift_results_limit a.lift.async_side) a.lift.results given (λ s. parts_of_fields c (tuple_members a.lift.results) (tuple_members a.lower.results) s) _ (λ s. by_flats s (flat_results a.lower))
    where
      c : TransferSetting
      c = setting_of_results p u a area source

      by_flats : (s : Source) (x : Option (List ValType)) → AsksParts c (results_sides area) (parts_of_fields c (tuple_members a.lift.results) (tuple_members a.lower.results) s) (elim x [
        | Some flats ↦ move_fields (results_transfer u a) (tuple_members a.lift.results) (tuple_members a.lower.results) 0 s (Slots flats)
        | None ↦ check_tuple (options_of a.lower) a.lower.results pointer (move_fields (results_transfer u a) (tuple_members a.lift.results) (tuple_members a.lower.results) 0 s (Into pointer))
      ])
      by_flats s (Some flats) = fields_ask c (results_sides area) (tuple_members a.lower.results) (tuple_members a.lift.results) 0 s (Slots flats)
      by_flats s None = parts_check c (results_sides area) (options_of a.lower) MemoryOutOfBounds pointer (entry_extent (options_of a.lower) (tuple_members a.lower.results)).size (entry_extent (options_of a.lower) (tuple_members a.lower.results)).align (fields_ask c (results_sides area) (tuple_members a.lower.results) (tuple_members a.lift.results) 0 s (Into pointer))
