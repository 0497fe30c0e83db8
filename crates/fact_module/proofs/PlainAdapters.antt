-- What the imports of the adapters of a plan without faults hang on: instances of 32 bits, memories of usual pages, and core types of
-- numbers alone.
use Rattle.std.proofs.Common.{◌≡◌, ℕ, suc, zero, ◌<◌, ◌≤◌, ◌^◌, ◌⊎◌, inl, inr, Bool, true, false, List, [], ◌∷◌, ◌++◌, Option, Some, None, Contains, refl, sym, ap, ◌∙◌, subst, arith, slice_get}
use Rattle.std.specs.Prelude.{All, cond, filter, is_some}
use Rattle.std.specs.List.{AllByRecursion, flat_map, list_all}
use Rattle.std.proofs.lemmas.Bool.{cases_lt, false≢true}
use Rattle.std.proofs.lemmas.List.Elements.{All-contains, All-from_recursion}
use Rattle.fact_wasm.specs.declared.types.FuncType.{FuncType}
use Rattle.fact_wasm.specs.declared.types.ValType.{ValType}
use Rattle.fact_machine.specs.Typing.{is_number}
use Rattle.fact_types.specs.declared.outside.CoreDef.{CoreDef}
use Rattle.fact_types.specs.declared.outside.MemoryOption.{MemoryOption}
use Rattle.fact_types.specs.declared.signature.Signature.{Signature}
use Rattle.fact_types.specs.Adapters.{LinkedAdapter, Side, is_wide}
use Rattle.fact_types.specs.Shapes.{Shape}
use Rattle.fact_types.specs.Signatures.{address, flat_params, flat_values, lift_by, lower_by, return_pointer, unless_flat}
use Rattle.fact_types.specs.Options.{◌>>=◌}
use Rattle.fact_types.proofs.ShapeLaws.{none_some, same_some}
use Rattle.fact_plan.specs.declared.plan.FusePlan.{FusePlan}
use Rattle.fact_plan.specs.declared.plan.PlanAdapter.{PlanAdapter}
use Rattle.fact_plan.specs.declared.plan.PlanFunc.{PlanFunc}
use Rattle.fact_plan.specs.declared.plan.PlanSide.{PlanSide}
use Rattle.fact_plan_types.specs.Faults.{Fault, bad_memory, bad_signature, too_large}
use Rattle.fact_plan_types.specs.TypeRules.{param_shapes, result_shapes}
use Rattle.fact_adapter_rules.specs.Adapters.{adapter_of, adapters_before, adapters_of, named_def, named_memory, side_of}
use Rattle.fact_adapter_rules.specs.AdapterRules.{AdapterHas, CannotUseMemory, Differs, HasAdapterFault, lift_side_signature, lower_side_signature, most_instance}
use Rattle.fact_adapter_rules.specs.FirstFault.{IsFaultlessPlan}
use Rattle.fact_compound.proofs.Runs.{numbers_append}
use Rattle.fact_compound.proofs.WholeFunctions.{address_numbers, flats_numbers, unless_numbers}
use Rattle.fact_emit.specs.ImportSection.{Callback, Callee, Flags, Mention, PostReturn, Realloc, Role, Storage, adapter_mentions, is_awaited, memory_mention, mention, mentions, side_mentions}
use Rattle.fact_emit.proofs.Mentions.{giver, in-mentions}
use Rattle.fact_assembly.specs.Sound.{HasUsualPages}
use Rattle.fact_assembly.proofs.Memories.{lift_pages as lift_usual, lower_pages as lower_usual}
use Rattle.fact_check.specs.Imports.{AreNumbers}

-- ---- an adapter

abbrev pub IsOfNumbers : FuncType → Type 0
IsOfNumbers ty = AreNumbers ty.params × AreNumbers ty.results

pub record IsPlainAdapter (a : LinkedAdapter) : Type 0 where
  pub lift_instance : a.lift.instance < 2 ^ 32
  pub lower_instance : a.lower.instance < 2 ^ 32
  pub lift_pages : HasUsualPages a.lift.memory
  pub lower_pages : HasUsualPages a.lower.memory
  pub lift_numbers : IsOfNumbers a.lift.core_type
  pub lower_numbers : IsOfNumbers a.lower.core_type

-- ---- core signatures are of numbers alone

pointer_numbers : (wide : Bool) (rs : List Shape) → AreNumbers (return_pointer wide rs)
pointer_numbers wide [] = refl
pointer_numbers wide (r ∷ rs) = address_numbers wide

lower_by_numbers : (async wide : Bool) (ps rs : List Shape) → AreNumbers (lower_by async wide ps rs).params × AreNumbers (lower_by async wide ps rs).results
lower_by_numbers true wide ps rs = (numbers_append (flat_params wide 4 ps) (return_pointer wide rs) (flats_numbers wide 4 ps (address wide ∷ []) (address_numbers wide)) (pointer_numbers wide rs), refl)
lower_by_numbers false wide ps rs = (
  numbers_append (flat_params wide 16 ps) (unless_flat (address wide ∷ []) (flat_values wide 1 rs)) (flats_numbers wide 16 ps (address wide ∷ []) (address_numbers wide)) (unless_numbers (flat_values wide 1 rs) (address wide ∷ []) (address_numbers wide)),
  flats_numbers wide 1 rs [] refl,
)

lift_by_numbers : (async callback wide : Bool) (ps rs : List Shape) → AreNumbers (lift_by async callback wide ps rs).params × AreNumbers (lift_by async callback wide ps rs).results
lift_by_numbers true true wide ps rs = (flats_numbers wide 16 ps (address wide ∷ []) (address_numbers wide), refl)
lift_by_numbers true false wide ps rs = (flats_numbers wide 16 ps (address wide ∷ []) (address_numbers wide), refl)
lift_by_numbers false callback wide ps rs = (flats_numbers wide 16 ps (address wide ∷ []) (address_numbers wide), flats_numbers wide 1 rs (address wide ∷ []) (address_numbers wide))

-- a type that does not differ from such a signature is of numbers alone
same_numbers : (ty : FuncType) (s : Signature) → (Differs ty s → ⊥) → (of : FuncType → List ValType) → AreNumbers (of (record { params = s.params; results = s.results })) → AreNumbers (of ty)
same_numbers ty s h of numbers = go (list_all is_number (of ty)) refl
  where
    go : (b : Bool) → list_all is_number (of ty) ≡ b → list_all is_number (of ty) ≡ true
    go true e = e
    go false e = absurd (h (record { differs = λ same. false≢true (sym e ∙ ap (λ (t : FuncType). list_all is_number (of t)) same ∙ numbers) }))

-- ---- an adapter of a plan

-- a side has the instance that the plan says
abbrev built_side : FusePlan → PlanSide → PlanFunc → FuncType → Option MemoryOption → (realloc callback post_return : Option CoreDef) → Side
built_side p s func ty memory realloc callback post_return = record {
  instance = s.instance;
  params = param_shapes p func;
  results = result_shapes p func;
  async_type = func.async_;
  core_type = ty;
  encoding = s.encoding;
  async_side = s.async_;
  memory = memory;
  realloc = realloc;
  callback = callback;
  post_return = post_return;
}

side_instance : (p : FusePlan) (s : PlanSide) (z : Side) → side_of p s ≡ Some z → s.instance ≡ z.instance
side_instance p s z e =
    go (slice_get p.funcs s.ty) (slice_get p.core_types s.core_type) (named_memory p s.memory) (named_def p s.realloc) (named_def p s.callback) (named_def p s.post_return) e
  where
    go : (f : Option PlanFunc) (c : Option FuncType) (m : Option (Option MemoryOption)) (r k q : Option (Option CoreDef))
        → f >>= (λ func. c >>= (λ ty. m >>= (λ memory. r >>= (λ realloc. k >>= (λ callback. q >>= (λ post_return. Some (built_side p s func ty memory realloc callback post_return))))))) ≡ Some z → s.instance ≡ z.instance
    go None c m r k q e = absurd (none_some None z refl e)
    go (Some f) None m r k q e = absurd (none_some None z refl e)
    go (Some f) (Some c) None r k q e = absurd (none_some None z refl e)
    go (Some f) (Some c) (Some m) None k q e = absurd (none_some None z refl e)
    go (Some f) (Some c) (Some m) (Some r) None q e = absurd (none_some None z refl e)
    go (Some f) (Some c) (Some m) (Some r) (Some k) None e = absurd (none_some None z refl e)
    go (Some f) (Some c) (Some m) (Some r) (Some k) (Some q) e = ap (λ (y : Side). y.instance) (same_some (Some (built_side p s f c m r k q)) (built_side p s f c m r k q) z refl e)

record AreInstancesOf (x : PlanAdapter) (a : LinkedAdapter) : Type 0 where
  lift : x.lift.instance ≡ a.lift.instance
  lower : x.lower.instance ≡ a.lower.instance

instances_of : (p : FusePlan) (x : PlanAdapter) (a : LinkedAdapter) → adapter_of p x ≡ Some a → AreInstancesOf x a
instances_of p x a e = go (slice_get p.core_defs x.func) (side_of p x.lift) (side_of p x.lower) refl refl e
  where
    go : (d : Option CoreDef) (l m : Option Side) → side_of p x.lift ≡ l → side_of p x.lower ≡ m
        → d >>= (λ callee. l >>= (λ lift. m >>= (λ lower. Some (record { name = x.name; callee = callee; transparent = x.transparent; lift = lift; lower = lower })))) ≡ Some a → AreInstancesOf x a
    go None l m g h e = absurd (none_some None a refl e)
    go (Some d) None m g h e = absurd (none_some None a refl e)
    go (Some d) (Some l) None g h e = absurd (none_some None a refl e)
    go (Some d) (Some l) (Some m) g h e =
        let same : record { name = x.name; callee = d; transparent = x.transparent; lift = l; lower = m } ≡ a = cc in
        record { lift = side_instance p x.lift l g ∙ ap (λ (y : LinkedAdapter). y.lift.instance) same; lower = side_instance p x.lower m h ∙ ap (λ (y : LinkedAdapter). y.lower.instance) same }

small_instance : (n k : ℕ) → n ≡ k → (most_instance < n → ⊥) → k < 2 ^ 32
small_instance n k e h = elim (cases_lt most_instance n) [
  | inl past ↦ absurd (h past)
  | inr within ↦ omega (arith, e, within)
]

module _ (p : FusePlan) (k : ℕ) (x : PlanAdapter) (a : LinkedAdapter) (there : slice_get p.adapters k ≡ Some x) (is : adapter_of p x ≡ Some a) (faultless : IsFaultlessPlan p) where
  faulty : (f : Fault) → AdapterHas p k x f → ⊥
  faulty f h = let has : HasAdapterFault p k f = rw there h in faultless.adapters k f has

  usable : CannotUseMemory a → ⊥
  usable bad = faulty bad_memory (rw is (inl bad))

  lift_same : Differs a.lift.core_type (lift_side_signature a.lift) → ⊥
  lift_same d = faulty bad_signature (rw is (inl d))

  lower_same : Differs a.lower.core_type (lower_side_signature a.lower) → ⊥
  lower_same d = faulty bad_signature (rw is (inr d))

  pub plain_adapter : IsPlainAdapter a
  plain_adapter =
      let instances = instances_of p x a is in
      let lifts = lift_by_numbers a.lift.async_side (is_some a.lift.callback) (is_wide a.lift.memory) a.lift.params a.lift.results in
      let lowers = lower_by_numbers a.lower.async_side (is_wide a.lower.memory) a.lower.params a.lower.results in
      record {
        lift_instance = small_instance x.lift.instance a.lift.instance instances.lift (λ past. faulty too_large (inr (inl past)));
        lower_instance = small_instance x.lower.instance a.lower.instance instances.lower (λ past. faulty too_large (inr (inr past)));
        lift_pages = lift_usual a usable;
        lower_pages = lower_usual a usable;
        lift_numbers = (
          same_numbers a.lift.core_type (lift_side_signature a.lift) lift_same (λ (t : FuncType). t.params) lifts.0,
          same_numbers a.lift.core_type (lift_side_signature a.lift) lift_same (λ (t : FuncType). t.results) lifts.1,
        );
        lower_numbers = (
          same_numbers a.lower.core_type (lower_side_signature a.lower) lower_same (λ (t : FuncType). t.params) lowers.0,
          same_numbers a.lower.core_type (lower_side_signature a.lower) lower_same (λ (t : FuncType). t.results) lowers.1,
        );
      }

-- ---- the adapters of a plan

-- each of these adapters is so
pub record ArePlain (adapters : List LinkedAdapter) : Type 0 where
  pub each : (k : ℕ) (a : LinkedAdapter) → slice_get adapters k ≡ Some a → IsPlainAdapter a

pub plain_adapters : (p : FusePlan) → IsFaultlessPlan p → ArePlain (adapters_of p)
plain_adapters p faultless = record {
  each = λ m a e. let (k, x, there, is) = giver (adapter_of p) p.adapters m a e in plain_adapter p k x a there is faultless;
}

plain_rest : (a : LinkedAdapter) (adapters : List LinkedAdapter) → ArePlain (a ∷ adapters) → ArePlain adapters
plain_rest a adapters h = record { each = λ k b e. h.each (suc k) b e }

plain_cons : (a : LinkedAdapter) (adapters : List LinkedAdapter) → IsPlainAdapter a → ArePlain adapters → ArePlain (a ∷ adapters)
plain_cons a adapters here rest = record { each = at }
  where
    at : (k : ℕ) (x : LinkedAdapter) → slice_get (a ∷ adapters) k ≡ Some x → IsPlainAdapter x
    at zero x e = subst IsPlainAdapter (same_some (Some a) a x refl e) here
    at (suc k) x e = rest.each k x e

-- so are some of them
pub plain_some : (test : LinkedAdapter → Bool) (adapters : List LinkedAdapter) → ArePlain adapters → ArePlain (filter test adapters)
plain_some test [] h = h
plain_some test (a ∷ adapters) h = by (test a) (plain_some test adapters (plain_rest a adapters h))
  where
    by : (b : Bool) → ArePlain (filter test adapters) → ArePlain (cond b (a ∷ filter test adapters) (filter test adapters))
    by false rest = rest
    by true rest = plain_cons a (filter test adapters) (h.each 0 a refl) rest

-- ---- what they mention

abbrev pub IsPlainRole : Role → Type 0
IsPlainRole (Flags i) = i < 2 ^ 32
IsPlainRole (Storage wide k) = (k ≡ 0) ⊎ (k ≡ 16)
IsPlainRole (Callee adapter ty) = IsOfNumbers ty
IsPlainRole (PostReturn adapter results) = AreNumbers results
IsPlainRole _ = Unit {0}

abbrev ArePlainRoles : List Mention → Type 0
ArePlainRoles ms = AllByRecursion (λ (m : Mention). IsPlainRole m.role) ms

joined : (ms ns : List Mention) → ArePlainRoles ms → ArePlainRoles ns → ArePlainRoles (ms ++ ns)
joined [] ns h g = g
joined (m ∷ ms) ns h g = (h.0, joined ms ns h.1 g)

plain_mention : (r : Role) (d : Option CoreDef) → IsPlainRole r → ArePlainRoles (mention r d)
plain_mention r None h = tt
plain_mention r (Some d) h = (h, tt)

plain_memory : (m : Option MemoryOption) → HasUsualPages m → ArePlainRoles (memory_mention m)
plain_memory None h = tt
plain_memory (Some m) h = (h, tt)

plain_side : (s : Side) → s.instance < 2 ^ 32 → HasUsualPages s.memory → ArePlainRoles (side_mentions s)
plain_side s small pages =
    let realloc : ArePlainRoles (mention (Realloc (is_wide s.memory)) s.realloc) = plain_mention (Realloc (is_wide s.memory)) s.realloc tt in
    let callback : ArePlainRoles (mention Callback s.callback) = plain_mention Callback s.callback tt in
    (small, joined (memory_mention s.memory) (mention (Realloc (is_wide s.memory)) s.realloc ++ mention Callback s.callback) (plain_memory s.memory pages) (joined (mention (Realloc (is_wide s.memory)) s.realloc) (mention Callback s.callback) realloc callback))

plain_mentions_of : (a : LinkedAdapter) → IsPlainAdapter a → ArePlainRoles (adapter_mentions a)
plain_mentions_of a h =
    joined (side_mentions a.lift) _ (plain_side a.lift h.lift_instance h.lift_pages)
    (joined (side_mentions a.lower) _ (plain_side a.lower h.lower_instance h.lower_pages)
    (h.lift_numbers, plain_mention (PostReturn a.name a.lift.core_type.results) a.lift.post_return h.lift_numbers.1))

all_mentions : (adapters : List LinkedAdapter) → ArePlain adapters → ArePlainRoles (flat_map adapter_mentions adapters)
all_mentions [] h = tt
all_mentions (a ∷ adapters) h = joined (adapter_mentions a) (flat_map adapter_mentions adapters) (plain_mentions_of a (h.each 0 a refl)) (all_mentions adapters (plain_rest a adapters h))

-- each role in which these adapters mention a definition
pub plain_roles : (adapters : List LinkedAdapter) → ArePlain adapters → (r : Mention) → Contains (mentions adapters) r → IsPlainRole r.role
plain_roles adapters h r c =
    let all = flat_map adapter_mentions adapters in
    All-contains (λ (m : Mention). IsPlainRole m.role) all r (All-from_recursion (λ (m : Mention). IsPlainRole m.role) all (all_mentions adapters h)) (in-mentions [] all r c)
