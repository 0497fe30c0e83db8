-- What holds of the parts of actions holds of passing the parameters and the results of an adapter.
use Rattle.std.proofs.Common.{◌≡◌, ℕ, List, [], ◌∷◌, Option, Some, None}
use Rattle.fact_wasm.specs.declared.types.ValType.{ValType}
use Rattle.fact_types.specs.declared.outside.Trap.TheVariants.{MemoryOutOfBounds}
use Rattle.fact_types.specs.Shapes.{Shape}
use Rattle.fact_types.specs.Signatures.{flat_values, lower_limit, lift_results_limit}
use Rattle.fact_machine.specs.declared.types.CoreValue.{CoreValue}
use Rattle.fact_types.specs.declared.outside.MemoryOption.{MemoryOption}
use Rattle.fact_types.specs.Adapters.{Side, LinkedAdapter, is_wide}
use Rattle.fact_actions.specs.Actions.{Action, Give, ◌>>◌}
use Rattle.fact_actions.specs.Sides.{LiftLowerOptions, Transfer, Source, Values, AtAddress, Target, Slots, Into, address_value, first_bits, reallocate, options_of}
use Rattle.fact_actions.specs.Adapters.{AdapterTunables, params_transfer, results_transfer, check_tuple, from_values, into_params, flat_results, into_results, move_params, move_results}
use Rattle.fact_types.specs.Tuples.{tuple_members}
use Rattle.fact_actions.specs.Moves.{entry_extent}
use Rattle.fact_actions.proofs.Kept.{IsPlain, IsKept, from_none, region_kept, from_seen, to_seen}
use Rattle.fact_types.specs.declared.outside.CoreDef.{CoreDef}
use Rattle.fact_actions.proofs.Moved.{fields_kept}

module _ {P : ℕ → (A : Type 0) → Action A → Type 0} where
  tuple_kept : {Has : CoreDef → Type 0} → IsPlain Has P → (c : ℕ) (A : Type 0) (o : LiftLowerOptions) → ((m : MemoryOption) → o.memory ≡ Some m → Has m.def) → (ts : List Shape) (pointer : ℕ) (q : Action A) → P c A q → P c A (check_tuple o ts pointer q)
  tuple_kept plain c A o see ts pointer q h = region_kept plain c A o see MemoryOutOfBounds pointer (entry_extent o (tuple_members ts)).size (entry_extent o (tuple_members ts)).align q h

  from_kept : {Has : CoreDef → Type 0} → IsPlain Has P → (c : ℕ) (A : Type 0) (o : LiftLowerOptions) → ((m : MemoryOption) → o.memory ≡ Some m → Has m.def) → (limit : ℕ) (ts : List Shape) (vs : List CoreValue) (k : Source → Action A) → ((s : Source) → P c A (k s)) → P c A (from_values o limit ts vs k)
  from_kept plain c A o see limit ts vs k h = by_flats (flat_values (is_wide o.memory) limit ts)
    where
      by_flats : (x : Option (List ValType)) → P c A (elim x [ Some flats ↦ k (Values vs) | None ↦ check_tuple o ts (first_bits vs) (k (AtAddress (first_bits vs))) ])
      by_flats (Some flats) = h (Values vs)
      by_flats None = tuple_kept plain c A o see ts (first_bits vs) _ (h (AtAddress (first_bits vs)))

  into_params_kept : {tr : Transfer} → IsKept tr P → (ts : List Shape) (k : Target → Action (List CoreValue)) → ((d : Target) → P 0 (List CoreValue) (k d)) → P 7 (List CoreValue) (into_params tr ts k)
  into_params_kept {tr} kept ts k h = by_flats (flat_values (is_wide tr.to.memory) 16 ts)
    where
      by_flats : (x : Option (List ValType)) → P 7 (List CoreValue) (elim x [
        | Some flats ↦ k (Slots flats)
        | None ↦
            let e = entry_extent tr.to (tuple_members ts) in
            reallocate tr.concurrency tr.to MemoryOutOfBounds 0 0 e.align e.size (λ q. k (Into q) >> Give (address_value tr.to q ∷ []))
      ])
      by_flats (Some flats) = from_none kept.plain 7 _ _ (h (Slots flats))
      by_flats None = kept.requests 0 _ MemoryOutOfBounds 0 0 (entry_extent tr.to (tuple_members ts)).align (entry_extent tr.to (tuple_members ts)).size _ (λ q. kept.binds 0 0 _ _ (k (Into q)) _ (h (Into q)) (λ vs. kept.plain.gives _ (address_value tr.to q ∷ [])))

  into_results_kept : {Has : CoreDef → Type 0} → IsPlain Has P → (s : Side) → ((m : MemoryOption) → s.memory ≡ Some m → Has m.def) → (pointer : ℕ) (k : Target → Action (List CoreValue)) → ((d : Target) → P 0 (List CoreValue) (k d)) → P 0 (List CoreValue) (into_results s pointer k)
  into_results_kept plain s see pointer k h = by_flats (flat_results s)
    where
      by_flats : (x : Option (List ValType)) → P 0 (List CoreValue) (elim x [ Some flats ↦ k (Slots flats) | None ↦ check_tuple (options_of s) s.results pointer (k (Into pointer)) ])
      by_flats (Some flats) = h (Slots flats)
      by_flats None = tuple_kept plain 0 _ (options_of s) see s.results pointer _ (h (Into pointer))

  pub params_kept : (u : AdapterTunables) (a : LinkedAdapter) → IsKept (params_transfer u a) P → (args : List CoreValue) → P 7 (List CoreValue) (move_params u a args)
  params_kept u a kept args =
      from_kept kept.plain 7 _ (options_of a.lower) (from_seen kept) (lower_limit a.lower.async_side) a.lower.params args _ (λ s.
      into_params_kept kept a.lift.params _ (λ d. fields_kept kept (tuple_members a.lower.params) (tuple_members a.lift.params) 0 s d))

  pub results_kept : (u : AdapterTunables) (a : LinkedAdapter) → IsKept (results_transfer u a) P → (given : List CoreValue) (pointer : ℕ) → P 0 (List CoreValue) (move_results u a given pointer)
  results_kept u a kept given pointer =
      from_kept kept.plain 0 _ (options_of a.lift) (from_seen kept) (lift_results_limit a.lift.async_side) a.lift.results given _ (λ s.
      into_results_kept kept.plain a.lower (to_seen kept) pointer _ (λ d. fields_kept kept (tuple_members a.lift.results) (tuple_members a.lower.results) 0 s d))
