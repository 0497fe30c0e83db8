-- Adapters of a plan over the types of the plan.
use Rattle.std.proofs.Common.{◌≡◌, ℕ, ◌<◌, ◌≤◌, List, length, get_or, inl, inr, refl, sym, arith}
use Rattle.std.proofs.lemmas.Option.{MatchOption-at_some, slice_get_read, slice_get_within}
use Rattle.std.proofs.lemmas.Slice.Zip.{AllZip-left, AllZip-long}
use Rattle.std.specs.List.{AllZip}
use Rattle.std.specs.Prelude.{IsSomeAnd, None, Option, Some, slice_get}
use Rattle.fact_entity.specs.declared.id.Id.{Id}
use Rattle.fact_entity.specs.declared.table.TypeFuncs.{TypeFuncs}
use Rattle.fact_builder.specs.Builder.{Builder}
use Rattle.fact_plan.specs.declared.plan.FusePlan.{FusePlan}
use Rattle.fact_plan.specs.declared.plan.PlanAdapter.{PlanAdapter}
use Rattle.fact_plan.specs.declared.plan.PlanSide.{PlanSide}
use Rattle.fact_plan_types.specs.PlanTypes.{AreTypesOf}
use Rattle.fact_plan_types.specs.TypeRules.{param_shapes, result_shapes}
use Rattle.fact_plan_types.specs.declared.plan_types.PlanTypes.{PlanTypes}
use Rattle.fact_adapter_rules.specs.AdapterRules.{SideLacks}
use Rattle.fact_types.specs.Adapters.{LinkedAdapter}
use Rattle.fact_adapter_rules.specs.Adapters.{named_def, named_memory}
use Rattle.fact_adapter_rules.specs.Linked.{HasSides, NamesTypesOf}
use Rattle.fact_adapter_rules.specs.PlanLinks.{LinksAdapter, LinksSide}
use Rattle.fact_adapter_rules.specs.declared.adapter.Adapter.{Adapter}
use Rattle.fact_adapter_rules.specs.declared.adapter.AdapterOptionsDfg.{AdapterOptionsDfg}

-- the value that is there
pub some_and : {A : Type 0} (o : Option A) (P : A → Type 0) → IsSomeAnd o P → (x : A) × (o ≡ Some x) × P x
some_and None P h = absurd h
some_and (Some x) P h = (x, refl, h)

-- what stands in the second list where the first one has an item
pub beside : {A B : Type 0} (R : A → B → Type 0) (xs : List A) (ys : List B) → AllZip R xs ys
    → (k : ℕ) (x : A) → slice_get xs k ≡ Some x → (y : B) × (slice_get ys k ≡ Some y) × R x y
beside R xs ys h k x at = some_and (slice_get ys k) (R x) (MatchOption-at_some _ _ x at (AllZip-left R xs ys h k))

-- an item of a list that is read and copied
pub copied : {A : Type 0} (xs ys : List A) (k : ℕ) (x y : A) → ys ≡ xs → (length xs ≤ k → ⊥) → x ≡ get_or ys k x → y ≡ x → slice_get xs k ≡ Some y
copied xs ys k x y same there read copy = rw copy (slice_get_read xs (length xs) k x refl (omega arith) (rw same at read))

-- ---- a side that names nothing that the plan lacks

pub core_type-there : (p : FusePlan) (t : PlanTypes) (s : PlanSide) → AreTypesOf p t → (SideLacks p s → ⊥) → s.core_type < length t.core_types
core_type-there p t s h there =
    let same = AllZip-long _ _ _ h.core_types in
    let absent : length p.core_types ≤ s.core_type → ⊥ = λ past. there (inr (inl past)) in
    omega arith

pub func-there : (p : FusePlan) (t : PlanTypes) (s : PlanSide) → AreTypesOf p t → (SideLacks p s → ⊥) → s.ty < length t.funcs
func-there p t s h there =
    let same = AllZip-long _ _ _ h.funcs in
    let absent : length p.funcs ≤ s.ty → ⊥ = λ past. there (inl past) in
    omega arith

-- options that are copied from a side
pub side-links : (p : FusePlan) (t : PlanTypes) (s : PlanSide) (ty : Id TypeFuncs) (o : AdapterOptionsDfg) → AreTypesOf p t
    → slice_get t.funcs s.ty ≡ Some ty → slice_get t.core_types s.core_type ≡ Some o.core_type
    → named_memory p s.memory ≡ Some o.memory → named_def p s.realloc ≡ Some o.realloc → named_def p s.callback ≡ Some o.callback → named_def p s.post_return ≡ Some o.post_return
    → o.instance.number ≡ s.instance → o.string_encoding ≡ s.encoding → o.async_ ≡ s.async_
    → LinksSide p t.builder s ty o
side-links p t s ty o h at_func at_core memory realloc callback post_return instance encoding async_side =
    let func = beside _ _ _ h.funcs s.ty ty at_func in
    let core = beside _ _ _ h.core_types s.core_type o.core_type at_core in
    record {
      linked = record {
        instance = s.instance;
        params = param_shapes p func.0;
        results = result_shapes p func.0;
        async_type = func.0.async_;
        core_type = core.0;
        encoding = s.encoding;
        async_side = s.async_;
        memory = o.memory;
        realloc = o.realloc;
        callback = o.callback;
        post_return = o.post_return;
      };
      is_side = rw (func.1, core.1, memory, realloc, callback, post_return) refl;
      stands = record {
        signature = func.2.signature;
        async_type = sym func.2.mark;
        core_type = core.2;
        instance = sym instance;
        encoding = sym encoding;
        async_side = sym async_side;
        memory = refl;
        realloc = refl;
        callback = refl;
        post_return = refl;
      };
    }

-- an adapter of two such sides
pub adapter-links : (p : FusePlan) (b : Builder) (x : PlanAdapter) (a : Adapter) → slice_get p.core_defs x.func ≡ Some a.func
    → LinksSide p b x.lift a.lift_ty a.lift_options → LinksSide p b x.lower a.lower_ty a.lower_options → LinksAdapter p b x a
adapter-links p b x a callee lift lower = record {
  linked = record { name = x.name; callee = a.func; transparent = x.transparent; lift = lift.linked; lower = lower.linked };
  is_adapter = rw (callee, lift.is_side, lower.is_side) refl;
  stands = record { lift = lift.stands; lower = lower.stands; callee = refl };
  name = refl;
  transparent = refl;
}

-- what an adapter with sides names is in the builder
pub sides-typed : (b : Builder) (a : Adapter) (linked : LinkedAdapter) → HasSides b a linked → NamesTypesOf b a
sides-typed b a linked h = record {
  lift = slice_get_within _ _ _ h.lift.signature.func_there;
  lower = slice_get_within _ _ _ h.lower.signature.func_there;
  lift_core = slice_get_within _ _ _ h.lift.core_type;
  lower_core = slice_get_within _ _ _ h.lower.core_type;
}
