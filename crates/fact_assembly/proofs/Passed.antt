-- What adapters have that the checks let pass.
use Rattle.std.proofs.Common.{◌≡◌, ℕ, ◌≤◌, Bool, true, false, List, [], ◌∷◌, length, Option, Some, refl, sym, ap, ◌∙◌, subst, arith, inl, inr}
use Rattle.std.specs.Cmp.{first_so, second_so}
use Rattle.std.specs.List.{AllByRecursion}
use Rattle.std.proofs.lemmas.Bool.{true≢false}
use Rattle.std.proofs.lemmas.Slice.Eq.{bytes_eq-Decides}
use Rattle.fact_wasm.specs.declared.types.FuncType.{FuncType}
use Rattle.fact_wasm.specs.contracts.types.FuncTypePartialEq.TheImpl as func_eq
use Rattle.fact_wasm.specs.contracts.types.FuncTypeEq.TheImpl.Laws.{laws-law}
use Rattle.fact_wasm.proofs.Signatures.{exact_func}
use Rattle.fact_types.specs.declared.outside.CoreDef.{CoreDef}
use Rattle.fact_types.specs.declared.outside.CoreDef.TheVariants as def
use Rattle.fact_types.specs.declared.signature.Signature.{Signature}
use Rattle.fact_types.specs.Adapters.{LinkedAdapter, same_def}
use Rattle.fact_types.specs.Agrees.{names_of}
use Rattle.fact_types.specs.Exact.{exact_key}
use Rattle.fact_types.specs.Layout.{payloads}
use Rattle.fact_types.specs.Shapes.{Kind, k_list, k_map, Shape, s_plain, s_node, Members, no_members, bare, typed, layouts_of}
use Rattle.fact_types.specs.Valid.{IsValid}
use Rattle.fact_agreement.specs.Lists.{AgreeAll}
use Rattle.fact_builder.specs.Builder.{Builder}
use Rattle.fact_plan_types.specs.Faults.{bad_memory, bad_signature, import_conflict, type_mismatch}
use Rattle.fact_adapter_rules.specs.declared.adapter.Adapter.{Adapter}
use Rattle.fact_adapter_rules.specs.AdapterRules.{CannotUseMemory, Differs, IsCalleeTwice, IsSameAs, SharesMemory, lift_side_signature, lower_side_signature}
use Rattle.fact_actions.specs.Calls.{HasOwnCallee}
use Rattle.fact_actions.specs.Confined.{AreValidTypes, HasElements, HasElementsBy, HaveElements}
use Rattle.fact_action_laws.specs.FaithfulLaws.{AreWellFormedTypes}
use Rattle.fact_action_laws.specs.MoveTerms.{AreTyped, IsWellFormed, IsWellFormedBy, AreWellFormed}
use Rattle.fact_action_laws.proofs.PointerPairs.{own_memories_serve}
use Rattle.fact_action_laws.proofs.Shaped.{shapes_are_well_formed, tuples_agree}
use Rattle.fact_assembly.specs.Sound.{HasPassed, IsSoundAdapter, PassedAreSound, SoundAreChecked}
use Rattle.fact_assembly.proofs.Memories.{lift_can_allocate, lift_memory, lift_pages, lower_memory, lower_pages, own_memories, results_into_memory, two_definitions}
use Rattle.fact_assembly.proofs.Stable.{stable_all}

-- ---- definitions that are equal by content

same_exact : (a b : CoreDef) → same_def a b ≡ true → a ≡ b
same_exact (def.Export i x) (def.Export j y) h =
    let e1 = exact_key i j (first_so _ _ h) in
    let e2 = (bytes_eq-Decides x y).0 (second_so _ _ h) in
    λ k. def.Export (e1 k) (e2 k)
same_exact (def.InstanceFlags i) (def.InstanceFlags j) h = ap def.InstanceFlags (exact_key i j h)
same_exact (def.Trampoline i) (def.Trampoline j) h = ap def.Trampoline (exact_key i j h)
same_exact a b h = absurd (true≢false (sym h))

-- a definition that is not the one of an option
is_other : (d : CoreDef) (o : Option CoreDef) → (IsSameAs d o → ⊥) → (f : CoreDef) → o ≡ Some f → same_def d f ≡ false
is_other d o h f e = go (same_def d f) refl
  where
    go : (b : Bool) → same_def d f ≡ b → same_def d f ≡ false
    go false e = e
    go true s = absurd (h (subst (λ o. IsSameAs d o) (sym e) (same_exact d f s)))

-- ---- types

same_type : (ty : FuncType) (s : Signature) → (Differs ty s → ⊥) → ty ≡ record { params = s.params; results = s.results }
same_type ty s h = decide (func_eq.ghosts.eq ty other) refl
  where
    other : FuncType
    other = record { params = s.params; results = s.results }

    decide : (b : Bool) → func_eq.ghosts.eq ty other ≡ b → ty ≡ other
    decide true e = exact_func ty other e
    decide false e = absurd (h (record { differs = λ same. true≢false (sym (laws-law.refl other) ∙ ap (λ t. func_eq.ghosts.eq t other) (sym same) ∙ e) }))

-- lists and maps have elements
some_payload : (x : List ℕ) (xs : List (List ℕ)) (ms : Members) → names_of ms ≡ x ∷ xs → AreTyped ms → 1 ≤ length (payloads (layouts_of ms))
some_payload x xs no_members e h = cc
some_payload x xs (bare n ms) e h = absurd h
some_payload x xs (typed n s ms) e h = omega arith

elements_by : (k : Kind) (ms : Members) → IsWellFormedBy k ms → HasElementsBy k ms
elements_by k_list ms h = some_payload _ _ ms h.0 h.1
elements_by k_map ms h = some_payload _ _ ms h.0 h.1
elements_by k ms h = tt

mutual
  elements : (s : Shape) → IsWellFormed s → HasElements s
  elements (s_plain p) h = tt
  elements (s_node k ms) h = (elements_by k ms h.0, have_elements ms h.1)

  have_elements : (ms : Members) → AreWellFormed ms → HaveElements ms
  have_elements no_members h = tt
  have_elements (bare n ms) h = have_elements ms h
  have_elements (typed n s ms) h = (elements s h.0, have_elements ms h.1)

valid_types : (ts : List Shape) → AllByRecursion IsValid ts → AllByRecursion IsWellFormed ts → AreValidTypes ts
valid_types [] v f = tt
valid_types (t ∷ ts) v f = (v.0, elements t f.0, valid_types ts v.1 f.1)

-- ---- an adapter that passed

module _ (b : Builder) (x : Adapter) (concurrency : Bool) (before : List LinkedAdapter) (a : LinkedAdapter) (h : HasPassed b x concurrency before a) where
  params_agree : AgreeAll a.lower.params a.lift.params
  params_agree = stable_all a.lower.params a.lift.params (λ n. h.faultless type_mismatch (inr (inl n)))

  results_agree : AgreeAll a.lift.results a.lower.results
  results_agree = stable_all a.lift.results a.lower.results (λ n. h.faultless type_mismatch (inr (inr (inl n))))

  lower_params : AreWellFormedTypes a.lower.params
  lower_params = record { valid = h.types.lower_params; formed = shapes_are_well_formed b.tables _ a.lower.params h.sides.lower.signature.takes }

  lower_results : AreWellFormedTypes a.lower.results
  lower_results = record { valid = h.types.lower_results; formed = shapes_are_well_formed b.tables _ a.lower.results h.sides.lower.signature.gives }

  lift_params : AreWellFormedTypes a.lift.params
  lift_params = record { valid = h.types.lift_params; formed = shapes_are_well_formed b.tables _ a.lift.params h.sides.lift.signature.takes }

  lift_results : AreWellFormedTypes a.lift.results
  lift_results = record { valid = h.types.lift_results; formed = shapes_are_well_formed b.tables _ a.lift.results h.sides.lift.signature.gives }

  usable : CannotUseMemory a → ⊥
  usable bad = h.faultless bad_memory (inl bad)

  unshared : SharesMemory before a → ⊥
  unshared bad = h.faultless bad_memory (inr bad)

  called_once : IsCalleeTwice a → ⊥
  called_once bad = h.faultless import_conflict (inl bad)

  own_callee : HasOwnCallee a
  own_callee = record {
    lift_realloc = is_other a.callee a.lift.realloc (λ s. called_once (inl s));
    lower_realloc = is_other a.callee a.lower.realloc (λ s. called_once (inr (inl s)));
    post_return = is_other a.callee a.lift.post_return (λ s. called_once (inr (inr s)));
  }

  pub is_sound : IsSoundAdapter a
  is_sound =
      let params = tuples_agree a.lower.params a.lift.params params_agree in
      let results = tuples_agree a.lift.results a.lower.results results_agree in
      let supplied = own_memories_serve a lower_params lower_results lift_params lift_results params results (own_memories a usable) in
      record {
        valid = record {
          lower_params = valid_types a.lower.params lower_params.valid lower_params.formed;
          lower_results = valid_types a.lower.results lower_results.valid lower_results.formed;
          lift_params = valid_types a.lift.params lift_params.valid lift_params.formed;
          lift_results = valid_types a.lift.results lift_results.valid lift_results.formed;
        };
        lower_params = lower_params;
        lower_results = lower_results;
        lift_params = lift_params;
        lift_results = lift_results;
        params_agree = params;
        results_agree = results;
        lower_core_type = same_type a.lower.core_type (lower_side_signature a.lower) (λ d. h.faultless bad_signature (inr d));
        lift_core_type = same_type a.lift.core_type (lift_side_signature a.lift) (λ d. h.faultless bad_signature (inl d));
        params_supplied = supplied.0;
        results_supplied = supplied.1;
        params_behind = λ n. lower_memory a usable (inl n);
        params_into = λ n. lift_can_allocate a usable (inl n) (inl n);
        results_behind = λ n. lift_memory a usable (inr (inl n));
        results_into = results_into_memory a usable;
        lower_pages = lower_pages a usable;
        lift_pages = lift_pages a usable;
        memories = two_definitions before a unshared;
        own_callee = own_callee;
      }

pub passed_are_sound : PassedAreSound
passed_are_sound b x concurrency before a h = is_sound b x concurrency before a h

-- ---- in a module

pub sound_are_checked : SoundAreChecked
sound_are_checked p a h crossing tells = record {
  lower_params = h.lower_params;
  lower_results = h.lower_results;
  lift_params = h.lift_params;
  lift_results = h.lift_results;
  params_agree = h.params_agree;
  results_agree = h.results_agree;
  params_supplied = h.params_supplied;
  results_supplied = h.results_supplied;
  params_behind = h.params_behind;
  params_into = h.params_into;
  results_behind = h.results_behind;
  results_into = h.results_into;
  memories = λ m n is_m is_n same. h.memories crossing m n is_m is_n (tells.apart m n is_m is_n same);
  lower_memory = tells.lower;
  lift_memory = tells.lift;
  own_callee = h.own_callee;
}
