-- The first adapter of a plan that has a name and can be called.
use Rattle.std.proofs.Common.{◌≡◌, ℕ, suc, ◌+◌, ◌<◌, ◌≤◌, inl, inr, Bool, true, false, ◌&&◌, ◌||◌, List, drop, length, Option, Some, None, cond, refl, sym, ap, ◌∙◌, add-one, arith}
use Rattle.std.specs.Prelude.{not, nat_eq, slice_get}
use Rattle.std.specs.List.{cons_option, filter_map}
use Rattle.std.specs.Option.{option_map_or}
use Rattle.std.specs.Str.{bytes_eq}
use Rattle.std.proofs.lemmas.List.{drop_all}
use Rattle.fact_wasm.specs.declared.types.FuncType.{FuncType}
use Rattle.fact_types.specs.declared.outside.CoreDef.{CoreDef}
use Rattle.fact_types.specs.declared.outside.MemoryOption.{MemoryOption}
use Rattle.fact_types.specs.Adapters.{LinkedAdapter, Side, is_crossing}
use Rattle.fact_types.specs.Options.{◌>>=◌}
use Rattle.fact_types.proofs.ShapeLaws.{none_some}
use Rattle.fact_plan.specs.declared.plan.FusePlan.{FusePlan}
use Rattle.fact_plan.specs.declared.plan.PlanAdapter.{PlanAdapter}
use Rattle.fact_plan.specs.declared.plan.PlanFunc.{PlanFunc}
use Rattle.fact_plan.specs.declared.plan.PlanMemory.{PlanMemory}
use Rattle.fact_plan.specs.declared.plan.PlanSide.{PlanSide}
use Rattle.fact_plan_types.specs.Faults.{unknown_index}
use Rattle.fact_plan_types.specs.TypeRules.{param_shapes, result_shapes}
use Rattle.fact_plan_types.proofs.HandleLaws.{there}
use Rattle.fact_adapter_rules.specs.Adapters.{adapter_of, adapters_of, named_def, named_memory, side_of}
use Rattle.fact_adapter_rules.specs.AdapterRules.{AdapterLacks, IsPastList, SideLacks, memory_def}
use Rattle.fact_adapter_rules.specs.FirstFault.{IsFaultlessPlan}
use Rattle.fact_abi.proofs.BelongLaws.{slice_front}
use Rattle.fact_call_mode.specs.Calls.{callable_named, is_callable}
use Rattle.fact_call_mode.specs.Replies.{AreLinked, IsAtPlace, is_free}

-- ---- an adapter that lacks nothing has all that it names

below : (n k : ℕ) → (n ≤ k → ⊥) → k < n
below n k known = omega arith

def_there : (p : FusePlan) (o : Option ℕ) → (IsPastList (length p.core_defs) o → ⊥) → (d : Option CoreDef) × (named_def p o ≡ Some d)
def_there p None known = (None, refl)
def_there p (Some k) known = let d = there p.core_defs k (below (length p.core_defs) k known) in (Some d.0, rw d.1 refl)

memory_there : (p : FusePlan) (o : Option PlanMemory) → (IsPastList (length p.core_defs) (memory_def o) → ⊥) → (m : Option MemoryOption) × (named_memory p o ≡ Some m)
memory_there p None known = (None, refl)
memory_there p (Some m) known =
    let d = there p.core_defs m.def (below (length p.core_defs) m.def known) in
    (Some (record { def = d.0; memory64 = m.memory64; shared = m.shared; page_size_log2 = m.page_size_log2 }), rw d.1 refl)

side_there : (p : FusePlan) (s : PlanSide) → (SideLacks p s → ⊥) → (z : Side) × (side_of p s ≡ Some z)
side_there p s known =
    let func = there p.funcs s.ty (below (length p.funcs) s.ty (λ past. known (inl past))) in
    let core = there p.core_types s.core_type (below (length p.core_types) s.core_type (λ past. known (inr (inl past)))) in
    let memory = memory_there p s.memory (λ past. known (inr (inr (inr (inl past))))) in
    let realloc = def_there p s.realloc (λ past. known (inr (inr (inr (inr (inl past)))))) in
    let callback = def_there p s.callback (λ past. known (inr (inr (inr (inr (inr (inl past))))))) in
    let post_return = def_there p s.post_return (λ past. known (inr (inr (inr (inr (inr (inr past))))))) in (
      record {
        instance = s.instance;
        params = param_shapes p func.0;
        results = result_shapes p func.0;
        async_type = func.0.async_;
        core_type = core.0;
        encoding = s.encoding;
        async_side = s.async_;
        memory = memory.0;
        realloc = realloc.0;
        callback = callback.0;
        post_return = post_return.0;
      },
      rw (func.1, core.1, memory.1, realloc.1, callback.1, post_return.1) refl,
    )

adapter_there : (p : FusePlan) (x : PlanAdapter) → (AdapterLacks p x → ⊥) → (a : LinkedAdapter) × (adapter_of p x ≡ Some a)
adapter_there p x known =
    let callee = there p.core_defs x.func (below (length p.core_defs) x.func (λ past. known (inl past))) in
    let lift = side_there p x.lift (λ lacks. known (inr (inl lacks))) in
    let lower = side_there p x.lower (λ lacks. known (inr (inr lacks))) in
    (record { name = x.name; callee = callee.0; transparent = x.transparent; lift = lift.0; lower = lower.0 }, rw (callee.1, lift.1, lower.1) refl)

pub linked_all : (p : FusePlan) → IsFaultlessPlan p → AreLinked p
linked_all p faultless k x at = adapter_there p x (λ lacks. faultless.adapters k unknown_index (rw at lacks))

-- ---- an adapter of a plan, and what is linked of it

abbrev built_side : FusePlan → PlanSide → PlanFunc → FuncType → Option MemoryOption → (realloc callback post_return : Option CoreDef) → Side
built_side p s func ty memory realloc callback post_return = record {
  instance = s.instance;
  params = param_shapes p func;
  results = result_shapes p func;
  async_type = func.async_;
  core_type = ty;
  encoding = s.encoding;
  async_side = s.async_;
  memory = memory;
  realloc = realloc;
  callback = callback;
  post_return = post_return;
}

abbrev type_mark : FusePlan → PlanSide → Bool
type_mark p s = option_map_or (λ f. f.async_) (slice_get p.funcs s.ty) false

record IsAlikeSide (p : FusePlan) (s : PlanSide) (z : Side) : Type 0 where
  instance : s.instance ≡ z.instance
  async_side : s.async_ ≡ z.async_side
  async_type : type_mark p s ≡ z.async_type

side_alike : (p : FusePlan) (s : PlanSide) (z : Side) → side_of p s ≡ Some z → IsAlikeSide p s z
side_alike p s z e =
    go (slice_get p.funcs s.ty) (slice_get p.core_types s.core_type) (named_memory p s.memory) (named_def p s.realloc) (named_def p s.callback) (named_def p s.post_return) refl e
  where
    go : (f : Option PlanFunc) (c : Option FuncType) (m : Option (Option MemoryOption)) (r k q : Option (Option CoreDef)) → slice_get p.funcs s.ty ≡ f
        → f >>= (λ func. c >>= (λ ty. m >>= (λ memory. r >>= (λ realloc. k >>= (λ callback. q >>= (λ post_return. Some (built_side p s func ty memory realloc callback post_return))))))) ≡ Some z → IsAlikeSide p s z
    go None c m r k q g e = absurd (none_some None z refl e)
    go (Some f) None m r k q g e = absurd (none_some None z refl e)
    go (Some f) (Some c) None r k q g e = absurd (none_some None z refl e)
    go (Some f) (Some c) (Some m) None k q g e = absurd (none_some None z refl e)
    go (Some f) (Some c) (Some m) (Some r) None q g e = absurd (none_some None z refl e)
    go (Some f) (Some c) (Some m) (Some r) (Some k) None g e = absurd (none_some None z refl e)
    go (Some f) (Some c) (Some m) (Some r) (Some k) (Some q) g e =
        let same : built_side p s f c m r k q ≡ z = cc in
        record {
          instance = ap (λ (y : Side). y.instance) same;
          async_side = ap (λ (y : Side). y.async_side) same;
          async_type = ap (λ (o : Option PlanFunc). option_map_or (λ f. f.async_) o false) g ∙ ap (λ (y : Side). y.async_type) same;
        }

record IsAlike (p : FusePlan) (x : PlanAdapter) (a : LinkedAdapter) : Type 0 where
  name : x.name ≡ a.name
  lift : IsAlikeSide p x.lift a.lift
  lower : IsAlikeSide p x.lower a.lower

alike : (p : FusePlan) (x : PlanAdapter) (a : LinkedAdapter) → adapter_of p x ≡ Some a → IsAlike p x a
alike p x a e = go (slice_get p.core_defs x.func) (side_of p x.lift) (side_of p x.lower) refl refl e
  where
    go : (d : Option CoreDef) (l m : Option Side) → side_of p x.lift ≡ l → side_of p x.lower ≡ m
        → d >>= (λ callee. l >>= (λ lift. m >>= (λ lower. Some (record { name = x.name; callee = callee; transparent = x.transparent; lift = lift; lower = lower })))) ≡ Some a → IsAlike p x a
    go None l m g h e = absurd (none_some None a refl e)
    go (Some d) None m g h e = absurd (none_some None a refl e)
    go (Some d) (Some l) None g h e = absurd (none_some None a refl e)
    go (Some d) (Some l) (Some m) g h e =
        let same : record { name = x.name; callee = d; transparent = x.transparent; lift = l; lower = m } ≡ a = cc in
        record {
          name = ap (λ (y : LinkedAdapter). y.name) same;
          lift = side_alike p x.lift a.lift (g ∙ ap (λ (y : LinkedAdapter). Some y.lift) same);
          lower = side_alike p x.lower a.lower (h ∙ ap (λ (y : LinkedAdapter). Some y.lower) same);
        }

-- the marks of the sides, and those of their types
any_of : (ls lt ws wt : Bool) → (ls || lt) || (ws || wt) ≡ ls || ws || lt || wt
any_of true lt ws wt = refl
any_of false true true wt = refl
any_of false true false wt = refl
any_of false false true wt = refl
any_of false false false wt = refl

free_is : (p : FusePlan) (x : PlanAdapter) (a : LinkedAdapter) → IsAlike p x a → is_free p x ≡ is_callable a
free_is p x a h =
    (λ k. not (nat_eq (h.lift.instance k) (h.lower.instance k)) && not ((h.lift.async_side k || h.lift.async_type k) || (h.lower.async_side k || h.lower.async_type k)))
    ∙ ap (λ b. is_crossing a && not b) (any_of a.lift.async_side a.lift.async_type a.lower.async_side a.lower.async_type)

test_is : (p : FusePlan) (name : List ℕ) (x : PlanAdapter) (a : LinkedAdapter) → adapter_of p x ≡ Some a → bytes_eq x.name name && is_free p x ≡ bytes_eq a.name name && is_callable a
test_is p name x a e =
    let h = alike p x a e in
    let free = free_is p x a h in
    λ k. bytes_eq (h.name k) name && free k

-- ---- the first of a name

-- those from a place on
abbrev rest_of : FusePlan → ℕ → List LinkedAdapter
rest_of p k = filter_map (adapter_of p) (drop k p.adapters)

-- none before a place is the one
abbrev pub IsSoughtFrom : FusePlan → List ℕ → ℕ → Type 0
IsSoughtFrom p name k = callable_named name (adapters_of p) ≡ callable_named name (rest_of p k)

pub sought_first : (p : FusePlan) (name : List ℕ) → IsSoughtFrom p name 0
sought_first p name = refl

module _ (p : FusePlan) (name : List ℕ) (k : ℕ) (x : PlanAdapter) (linked : AreLinked p) (at : slice_get p.adapters k ≡ Some x) (sought : IsSoughtFrom p name k) where
  here : (b : Bool) → bytes_eq x.name name && is_free p x ≡ b → callable_named name (adapters_of p) ≡ cond b (Some ((linked k x at).0)) (callable_named name (rest_of p (suc k)))
  here b test =
      let a = linked k x at in
      sought ∙ ap (λ xs. callable_named name (filter_map (adapter_of p) xs)) (slice_front p.adapters k x at)
      ∙ ap (λ o. callable_named name (cons_option o (rest_of p (suc k)))) a.1
      ∙ ap (λ b. cond b (Some a.0) (callable_named name (rest_of p (suc k)))) (sym (test_is p name x a.0 a.1) ∙ test)

  pub sought_past : bytes_eq x.name name && is_free p x ≡ false → IsSoughtFrom p name (k + 1)
  sought_past test = here false test ∙ ap (λ j. callable_named name (rest_of p j)) (sym (add-one k))

  pub found_at : bytes_eq x.name name && is_free p x ≡ true → IsAtPlace p name k
  found_at test = record { adapter = x; there = at; linked = (linked k x at).0; is_linked = (linked k x at).1; named = here true test }

pub none_found : (p : FusePlan) (name : List ℕ) (k : ℕ) → length p.adapters ≤ k → IsSoughtFrom p name k → callable_named name (adapters_of p) ≡ None
none_found p name k past sought = sought ∙ ap (λ xs. callable_named name (filter_map (adapter_of p) xs)) (drop_all k p.adapters past)
