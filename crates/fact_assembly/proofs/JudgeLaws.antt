-- The first fault of an adapter behind those that were taken: by its types and its numbers first, then by what it is linked to.
use Rattle.std.proofs.Common.{◌≡◌, ℕ, ◌<◌, ◌≤◌, Bool, List, Some, ap, arith, refl, slice_get, subst, ◌∙◌, inl, inr}
use Rattle.std.specs.Prelude.{IfSome, Option}
use Rattle.std.proofs.lemmas.Option.{IfSome_then}
use Rattle.fact_entity.specs.declared.id.Id.{Id}
use Rattle.fact_entity.specs.declared.table.Adapters.{Adapters}
use Rattle.fact_builder.specs.Builder.{Builder}
use Rattle.fact_plan_types.specs.Faults.{Fault, unknown_index, bad_type, too_large, bad_options, type_mismatch, bad_memory, bad_signature, import_conflict, duplicate_name, rank}
use Rattle.fact_plan_types.specs.declared.error.Place.{Place}
use Rattle.fact_plan_types.specs.declared.error.Place.TheVariants.{Adapter as at_adapter}
use Rattle.fact_adapter_rules.specs.declared.adapter.Adapter.{Adapter}
use Rattle.fact_adapter_rules.specs.declared.sides.Candidate.{Candidate}
use Rattle.fact_types.specs.Adapters.{LinkedAdapter}
use Rattle.fact_adapter_rules.specs.AdapterRules.{LinkedHas}
use Rattle.fact_adapter_rules.specs.Linked.{IsLinked}
use Rattle.fact_assembly.specs.Sound.{HasValidSides}
use Rattle.fact_assembly.proofs.RulesValid.{sides_valid}
use Rattle.fact_assembly.specs.declared.dfg.ComponentDfg.{ComponentDfg}
use Rattle.fact_assembly.specs.declared.taken.TakenAdapter.{TakenAdapter}
use Rattle.fact_assembly.specs.Adapted.{HasFaultFor, IsFirst, OfAdapter, TypesHave, is_marked}
use Rattle.fact_assembly.specs.Collected.{AreTaken, Collected, taken_of}
use Rattle.fact_assembly.specs.Taking.{IsFirstBehind}
use Rattle.fact_assembly.specs.Typed.{HasSoundTypes, TypesHaveFirst}
use Rattle.fact_assembly.proofs.TakeLaws.{is-linked, is-taken}

-- ---- types are looked at before what is linked

types-low : (b : Builder) (k : ℕ) (a : Adapter) (f : Fault) → TypesHave b k a f → rank f ≤ 2
types-low b k a unknown_index h = omega arith
types-low b k a bad_type h = omega arith
types-low b k a too_large h = omega arith
types-low b k a _ h = absurd h

linked-high : (on : Bool) (before : List LinkedAdapter) (a : LinkedAdapter) (f : Fault) → LinkedHas on before a f → 3 ≤ rank f
linked-high on before a unknown_index h = absurd h
linked-high on before a bad_type h = absurd h
linked-high on before a too_large h = absurd h
linked-high on before a bad_options h = omega arith
linked-high on before a type_mismatch h = omega arith
linked-high on before a bad_memory h = omega arith
linked-high on before a bad_signature h = omega arith
linked-high on before a import_conflict h = omega arith
linked-high on before a duplicate_name h = omega arith

pub types-first : (c : Collected) (k : ℕ) (t : TakenAdapter) (f : Fault) → TypesHaveFirst c.builder k t.adapter f → IsFirst c k t f
types-first c k t f first = record { has = inl first.has; none_before = none }
  where
    none : (g : Fault) → rank g < rank f → HasFaultFor c k t g → ⊥
    none g less (inl h) = first.none_before g less h
    none g less (inr h) =
        let low = types-low c.builder k t.adapter f first.has in
        let high = linked-high c.tunables.concurrency_support h.before h.linked g h.has in
        absurd (omega (arith, low, high, less))

-- ---- an adapter of sound types

-- its types are valid, however they are looked up
pub valid-sides : (b : Builder) (k : ℕ) (candidate : Candidate) → HasSoundTypes b k candidate.adapter.now → (a : LinkedAdapter) → IsLinked b candidate a → HasValidSides a
valid-sides b k candidate types a h =
    let lift = h.sides.lift.signature in
    let lower = h.sides.lower.signature in
    sides_valid b candidate.adapter.now a h.sides
    (λ q. types.sound bad_type (inl (record { params = a.lift.params; results = a.lift.results; signature = lift; is_bad = q })))
    (λ q. types.sound too_large (inl (inl (record { params = a.lift.params; results = a.lift.results; signature = lift; is_large = q }))))
    (λ q. types.sound bad_type (inr (record { params = a.lower.params; results = a.lower.results; signature = lower; is_bad = q })))
    (λ q. types.sound too_large (inl (inr (record { params = a.lower.params; results = a.lower.results; signature = lower; is_large = q }))))

module _ (c : Collected) (k : ℕ) (candidate : Candidate) (types : HasSoundTypes c.builder k candidate.adapter.now) where
  linked : LinkedAdapter
  linked = record { name = candidate.name.now; callee = types.linked.callee; transparent = candidate.transparent; lift = types.linked.lift; lower = types.linked.lower }

  linked-is : IsLinked c.builder candidate linked
  unfolding linked
  linked-is = record { sides = record { lift = types.sides.lift; lower = types.sides.lower; callee = types.sides.callee }; name = refl; transparent = refl }

  pub linked-first : (before : List LinkedAdapter) → AreTaken c before → (f : Fault) → IsFirstBehind c candidate f → IsFirst c k (taken_of candidate) f
  linked-first before taken f first = record {
    has = inr (record { before = before; linked = linked; taken = taken; is_linked = is-taken c.builder candidate linked linked-is; has = (first before linked taken linked-is).0 });
    none_before = none;
  }
    where
      none : (g : Fault) → rank g < rank f → HasFaultFor c k (taken_of candidate) g → ⊥
      none g less (inl h) = types.sound g h
      none g less (inr h) = (first h.before h.linked h.taken (is-linked c.builder candidate h.linked h.is_linked)).1 g less h.has

-- ---- the adapter of a component

module _ (component : ComponentDfg) (id : Id Adapters) (name : List ℕ) (t : TakenAdapter) (P : TakenAdapter → Type 0)
    (is : (a : Adapter) → slice_get component.adapters id.number ≡ Some a → t ≡ record { name = name; transparent = is_marked id component.transparent_adapters; adapter = a }) where
  pub of-adapter : P t → OfAdapter component id name P
  of-adapter p a there = subst P (is a there) p

-- the first fault that is told of it, by a module that was this one
module _ (now old : Collected) (component : ComponentDfg) (id : Id Adapters) (name : List ℕ) (candidate : Candidate) (k : ℕ) (same : now ≡ old) (number : k ≡ id.number)
    (is : (a : Adapter) → slice_get component.adapters id.number ≡ Some a → taken_of candidate ≡ record { name = name; transparent = is_marked id component.transparent_adapters; adapter = a }) where
  Told : Collected → Fault × Place → Type 0
  Told new x = (new ≡ old) × OfAdapter component id name (λ t. IsFirst old id.number t x.0) × (x.1 ≡ at_adapter id.number)

  told-first : (new : Collected) (x : Fault × Place) → new ≡ now → IsFirst now k (taken_of candidate) x.0 → x.1 ≡ at_adapter k → Told new x
  unfolding Told
  told-first new x stays first place =
      let of_old = subst (λ v. IsFirst v id.number (taken_of candidate) x.0) same (subst (λ n. IsFirst now n (taken_of candidate) x.0) number first) in
      (stays ∙ same, of-adapter component id name (taken_of candidate) (λ t. IsFirst old id.number t x.0) is of_old, place ∙ ap at_adapter number)

  pub types-told : (o : Option (Fault × Place)) → IfSome o (λ x. TypesHaveFirst now.builder k candidate.adapter.now x.0 × (x.1 ≡ at_adapter k))
      → IfSome o (λ x. (now ≡ old) × OfAdapter component id name (λ t. IsFirst old id.number t x.0) × (x.1 ≡ at_adapter id.number))
  unfolding Told
  types-told o h = IfSome_then o h (λ x t. told-first now x refl (types-first now k (taken_of candidate) x.0 t.0) t.1)

  pub behind-told : (before : List LinkedAdapter) → AreTaken now before → HasSoundTypes now.builder k candidate.adapter.now → (new : Collected) (o : Option (Fault × Place))
      → IfSome o (λ x. (new ≡ now) × IsFirstBehind now candidate x.0 × (x.1 ≡ at_adapter k))
      → IfSome o (λ x. (new ≡ old) × OfAdapter component id name (λ t. IsFirst old id.number t x.0) × (x.1 ≡ at_adapter id.number))
  unfolding Told
  behind-told before taken types new o h = IfSome_then o h (λ x t. told-first new x t.0 (linked-first now k candidate types before taken x.0 t.1) t.2)
