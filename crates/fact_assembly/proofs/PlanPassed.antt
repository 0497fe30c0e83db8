-- The adapters of a plan without faults have passed: their types are those of the plan, which are valid.
use Rattle.std.proofs.Common.{◌≡◌, ℕ, List, [], ◌∷◌, Option, Some, None, refl, sym, ap, ◌∙◌, subst, slice_get, arith}
use Rattle.std.specs.Prelude.{All, unwrap_or}
use Rattle.std.specs.List.{AllByRecursion}
use Rattle.std.proofs.lemmas.Option.{get_or_from_slice_get, slice_get_within}
use Rattle.fact_wasm.specs.declared.types.FuncType.{FuncType}
use Rattle.fact_types.specs.declared.interface.InterfaceType.TheVariants as type
use Rattle.fact_types.specs.declared.outside.CoreDef.{CoreDef}
use Rattle.fact_types.specs.declared.outside.MemoryOption.{MemoryOption}
use Rattle.fact_types.specs.Adapters.{LinkedAdapter, Side}
use Rattle.fact_types.specs.Shapes.{Shape, s_plain}
use Rattle.fact_types.specs.Options.{◌>>=◌}
use Rattle.fact_types.specs.Valid.{IsValid}
use Rattle.fact_types.proofs.ShapeLaws.{none_some}
use Rattle.fact_source.specs.declared.defined.PrimitiveValType.{PrimitiveValType}
use Rattle.fact_source.specs.declared.defined.PrimitiveValType.TheVariants as word
use Rattle.fact_plan.specs.declared.plan.FusePlan.{FusePlan}
use Rattle.fact_plan.specs.declared.plan.PlanAdapter.{PlanAdapter}
use Rattle.fact_plan.specs.declared.plan.PlanFunc.{PlanFunc}
use Rattle.fact_plan.specs.declared.plan.PlanRef.{PlanRef}
use Rattle.fact_plan.specs.declared.plan.PlanRef.TheVariants.{Entry, Word}
use Rattle.fact_plan.specs.declared.plan.PlanSide.{PlanSide}
use Rattle.fact_plan_types.specs.Faults.{Fault, bad_memory, bad_options, bad_signature, duplicate_name, import_conflict, type_mismatch}
use Rattle.fact_plan_types.specs.PlanShapes.{plan_shapes, shape_of, shapes_of, word_type}
use Rattle.fact_plan_types.specs.TypeRules.{param_shapes, param_types, result_shapes}
use Rattle.fact_adapter_rules.specs.Adapters.{adapter_of, adapters_before, named_def, named_memory, side_of}
use Rattle.fact_adapter_rules.specs.AdapterRules.{AdapterHas, HasAdapterFault, LinkedHas}
use Rattle.fact_assembly.specs.Sound.{FaultlessHavePassed, PlanSidesAreValid}

-- ---- types of a plan

word_valid : (w : PrimitiveValType) → IsValid (s_plain (word_type w))
word_valid word.Bool = record { ruled = tt; nested = omega arith }
word_valid word.S8 = record { ruled = tt; nested = omega arith }
word_valid word.U8 = record { ruled = tt; nested = omega arith }
word_valid word.S16 = record { ruled = tt; nested = omega arith }
word_valid word.U16 = record { ruled = tt; nested = omega arith }
word_valid word.S32 = record { ruled = tt; nested = omega arith }
word_valid word.U32 = record { ruled = tt; nested = omega arith }
word_valid word.S64 = record { ruled = tt; nested = omega arith }
word_valid word.U64 = record { ruled = tt; nested = omega arith }
word_valid word.Float32 = record { ruled = tt; nested = omega arith }
word_valid word.Float64 = record { ruled = tt; nested = omega arith }
word_valid word.Char = record { ruled = tt; nested = omega arith }
word_valid word.String = record { ruled = tt; nested = omega arith }
word_valid word.ErrorContext = record { ruled = tt; nested = omega arith }

module _ (ss : List Shape) (valid : All IsValid ss) where
  type_valid : (r : PlanRef) → IsValid (shape_of ss r)
  type_valid (Word w) = word_valid w
  type_valid (Entry k) = found (slice_get ss k) refl
    where
      found : (o : Option Shape) → slice_get ss k ≡ o → IsValid (unwrap_or o (s_plain type.Bool))
      found None e = word_valid word.Bool
      found (Some s) e = subst IsValid (get_or_from_slice_get ss k s s e) (valid k s (slice_get_within ss k s e))

  types_valid : (rs : List PlanRef) → AllByRecursion IsValid (shapes_of ss rs)
  types_valid [] = tt
  types_valid (r ∷ rs) = (type_valid r, types_valid rs)

-- ---- sides of a plan

-- the function of a side
record IsSideOfFunc (p : FusePlan) (z : Side) : Type 0 where
  func : PlanFunc
  params : z.params ≡ param_shapes p func
  results : z.results ≡ result_shapes p func

abbrev built_side : FusePlan → PlanSide → PlanFunc → FuncType → Option MemoryOption → (realloc callback post_return : Option CoreDef) → Side
built_side p s func ty memory realloc callback post_return = record {
  instance = s.instance;
  params = param_shapes p func;
  results = result_shapes p func;
  async_type = func.async_;
  core_type = ty;
  encoding = s.encoding;
  async_side = s.async_;
  memory = memory;
  realloc = realloc;
  callback = callback;
  post_return = post_return;
}

side_func : (p : FusePlan) (s : PlanSide) (z : Side) → side_of p s ≡ Some z → IsSideOfFunc p z
side_func p s z e =
    go (slice_get p.funcs s.ty) (slice_get p.core_types s.core_type) (named_memory p s.memory) (named_def p s.realloc) (named_def p s.callback) (named_def p s.post_return) e
  where
    go : (f : Option PlanFunc) (c : Option FuncType) (m : Option (Option MemoryOption)) (r k q : Option (Option CoreDef))
        → f >>= (λ func. c >>= (λ ty. m >>= (λ memory. r >>= (λ realloc. k >>= (λ callback. q >>= (λ post_return. Some (built_side p s func ty memory realloc callback post_return))))))) ≡ Some z → IsSideOfFunc p z
    go None c m r k q e = absurd (none_some None z refl e)
    go (Some f) None m r k q e = absurd (none_some None z refl e)
    go (Some f) (Some c) None r k q e = absurd (none_some None z refl e)
    go (Some f) (Some c) (Some m) None k q e = absurd (none_some None z refl e)
    go (Some f) (Some c) (Some m) (Some r) None q e = absurd (none_some None z refl e)
    go (Some f) (Some c) (Some m) (Some r) (Some k) None e = absurd (none_some None z refl e)
    go (Some f) (Some c) (Some m) (Some r) (Some k) (Some q) e =
        let same : built_side p s f c m r k q ≡ z = cc in
        record { func = f; params = sym (ap (λ (y : Side). y.params) same); results = sym (ap (λ (y : Side). y.results) same) }

-- the sides of an adapter that names nothing that is lacking
record AreSidesOf (p : FusePlan) (x : PlanAdapter) (a : LinkedAdapter) : Type 0 where
  lift : side_of p x.lift ≡ Some a.lift
  lower : side_of p x.lower ≡ Some a.lower

sides_of : (p : FusePlan) (x : PlanAdapter) (a : LinkedAdapter) → adapter_of p x ≡ Some a → AreSidesOf p x a
sides_of p x a e = go (slice_get p.core_defs x.func) (side_of p x.lift) (side_of p x.lower) refl refl e
  where
    go : (d : Option CoreDef) (l m : Option Side) → side_of p x.lift ≡ l → side_of p x.lower ≡ m
        → d >>= (λ callee. l >>= (λ lift. m >>= (λ lower. Some (record { name = x.name; callee = callee; transparent = x.transparent; lift = lift; lower = lower })))) ≡ Some a → AreSidesOf p x a
    go None l m g h e = absurd (none_some None a refl e)
    go (Some d) None m g h e = absurd (none_some None a refl e)
    go (Some d) (Some l) None g h e = absurd (none_some None a refl e)
    go (Some d) (Some l) (Some m) g h e =
        let same : record { name = x.name; callee = d; transparent = x.transparent; lift = l; lower = m } ≡ a = cc in
        record { lift = g ∙ ap (λ (y : LinkedAdapter). Some y.lift) same; lower = h ∙ ap (λ (y : LinkedAdapter). Some y.lower) same }

pub plan_sides_are_valid : PlanSidesAreValid
plan_sides_are_valid p t x a types e =
    let valid = types.valid in
    let sides = sides_of p x a e in
    let lift = side_func p x.lift a.lift sides.lift in
    let lower = side_func p x.lower a.lower sides.lower in
    record {
      lower_params = subst (AllByRecursion IsValid) (sym lower.params) (types_valid (plan_shapes p) valid (param_types lower.func));
      lower_results = subst (AllByRecursion IsValid) (sym lower.results) (types_valid (plan_shapes p) valid lower.func.results);
      lift_params = subst (AllByRecursion IsValid) (sym lift.params) (types_valid (plan_shapes p) valid (param_types lift.func));
      lift_results = subst (AllByRecursion IsValid) (sym lift.results) (types_valid (plan_shapes p) valid lift.func.results);
    }

-- ---- faults of a plan

module _ (p : FusePlan) (k : ℕ) (x : PlanAdapter) (a : LinkedAdapter) (there : slice_get p.adapters k ≡ Some x) (is : adapter_of p x ≡ Some a) where
  here : (f : Fault) → AdapterHas p k x f → HasAdapterFault p k f
  here f h = rw there h

  -- what the adapter has with all that it names looked up
  has_fault : (f : Fault) → LinkedHas p.tunables.concurrency (adapters_before p k) a f → HasAdapterFault p k f
  has_fault bad_options h = here bad_options (rw is h)
  has_fault type_mismatch h = here type_mismatch (rw is h)
  has_fault bad_memory h = here bad_memory (rw is h)
  has_fault bad_signature h = here bad_signature (rw is h)
  has_fault import_conflict h = here import_conflict (rw is h)
  has_fault duplicate_name h = here duplicate_name (rw is h)
  has_fault _ h = absurd h

pub faultless_have_passed : FaultlessHavePassed
faultless_have_passed p t k x y types faultless there links = record {
  sides = links.stands;
  types = plan_sides_are_valid p t x links.linked types links.is_adapter;
  faultless = λ f h. faultless.adapters k f (has_fault p k x links.linked there links.is_adapter f h);
}
