-- The types and the functions of a plan in a builder, and the first fault among them.
use Rattle.std.specs.Prelude.{◌≡◌, ℕ, ◌+◌, ◌∷◌, [], ◌++◌, All, List, max, Option, Some, None, slice_get, map, take, length}
use Rattle.std.specs.List.{AllZip, flat_map, position_or_len}
use Rattle.fact_entity.specs.declared.id.Id.{Id}
use Rattle.fact_entity.specs.declared.table.TypeFuncs.{TypeFuncs}
use Rattle.fact_types.specs.declared.interface.InterfaceType.TheVariants.{Tuple as t_tuple}
use Rattle.fact_types.specs.declared.kinds.TypeFunc.{TypeFunc}
use Rattle.fact_types.specs.declared.kinds.TypeResourceTable.{TypeResourceTable}
use Rattle.fact_types.specs.declared.kinds.TypeResourceTable.TheVariants.{Concrete}
use Rattle.fact_types.specs.Functions.{HasSignature, HaveShapes}
use Rattle.fact_types.specs.Shapes.{Shape}
use Rattle.fact_types.specs.Tables.{Tables, HasShape}
use Rattle.fact_types.specs.Valid.{IsValid}
use Rattle.fact_plan.specs.declared.plan.PlanFunc.{PlanFunc}
use Rattle.fact_plan.specs.declared.plan.PlanRef.{PlanRef}
use Rattle.fact_plan.specs.declared.plan.PlanType.{PlanType}
use Rattle.fact_plan.specs.declared.plan.FusePlan.{FusePlan}
use Rattle.fact_plan_types.specs.declared.error.Place.{Place}
use Rattle.fact_plan_types.specs.declared.error.Place.TheVariants.{TypeEntry, Func, Adapter}
use Rattle.fact_plan_types.specs.declared.error.FuseError.{FuseError}
use Rattle.fact_plan_types.specs.declared.error.FuseError.TheVariants as error
use Rattle.fact_plan_types.specs.declared.plan_types.PlanTypes.{PlanTypes}
use Rattle.fact_plan_types.specs.Faults.{Fault, unknown_index, bad_type, too_large, bad_options, type_mismatch, bad_memory, bad_signature, import_conflict, duplicate_name, IsFirstFault, HaveNoFault}
use Rattle.fact_plan_types.specs.PlanShapes.{plan_shapes, same_shape, tuple_shape, tuples_among}
use Rattle.fact_plan_types.specs.TypeRules.{HasTypeFault, HasFuncFault, param_shapes, param_types, result_shapes, table_in}

-- ---- what stands in the builder

-- An index is that of a function type for a function of the plan: its mark, the names of its parameters, and the shapes of
-- its parameters and results.
pub record IsFuncOf (p : FusePlan) (t : Tables) (i : Id TypeFuncs) (f : PlanFunc) : Type 0 where
  pub signature : HasSignature t i (param_shapes p f) (result_shapes p f)
  pub mark : signature.func.async_ ≡ f.async_
  pub names : signature.func.param_names ≡ map (λ x. x.0) f.params

-- ---- tuples

-- The tuples of the tables stand for these shapes, one by one.
pub record HasTuples (t : Tables) (ss : List Shape) : Type 0 where
  pub count : length t.tuples ≡ length ss
  pub each : (i : ℕ) (s : Shape) → slice_get ss i ≡ Some s → HasShape t (t_tuple (record { number = i; table = _ })) s

-- the tuples of functions: of each that of its parameters, and then that of its results
abbrev pub func_tuples : List Shape → List PlanFunc → List Shape
func_tuples ss fs = flat_map (λ f. tuple_shape ss (param_types f) ∷ tuple_shape ss f.results ∷ []) fs

-- The tuples of a plan in the order in which they are numbered: those among its types, and then those of its functions, each
-- once, at its first place.
abbrev pub plan_tuples : FusePlan → List Shape
plan_tuples p = tuples_among [] (plan_shapes p ++ func_tuples (plan_shapes p) p.funcs)

-- the number of the tuple of types among those of the plan
abbrev pub tuple_number : FusePlan → List PlanRef → ℕ
tuple_number p rs = position_or_len (same_shape (tuple_shape (plan_shapes p) rs)) (plan_tuples p)

-- The tuples of the parameters and of the results of a function have their numbers among those of the plan.
abbrev pub HasTupleNumbers : FusePlan → Tables → Id TypeFuncs → PlanFunc → Type 0
HasTupleNumbers p t i f =
    (g : TypeFunc) → slice_get t.functions i.number ≡ Some g → (g.params.number ≡ tuple_number p (param_types f)) × (g.results.number ≡ tuple_number p f.results)

-- ---- resource tables

-- the resource table of a plan's entry: the numbers of its resource and of its instance
abbrev pub resource_table : ℕ × ℕ → TypeResourceTable
resource_table x = Concrete (record { table = _; number = x.0 }) (record { table = _; number = x.1 })

-- how many resource tables there are up to the one that is named, where one is
abbrev pub tables_up_to : Option ℕ → ℕ
tables_up_to None = 0
tables_up_to (Some n) = n + 1

-- how many there are up to the last one that a type names
abbrev pub tables_named : List PlanType → ℕ
tables_named [] = 0
tables_named (e ∷ es) = max (tables_up_to (table_in e)) (tables_named es)

-- The types, functions and core types of a plan, in order, as they stand in the builder. All types are valid. The builder's
-- tuples are those of the plan, and its resource tables the first ones, up to the last one that a type names.
pub record AreTypesOf (p : FusePlan) (t : PlanTypes) : Type 0 where
  pub types : HaveShapes t.builder.tables t.types (plan_shapes p)
  pub valid : All IsValid (plan_shapes p)
  pub funcs : AllZip (IsFuncOf p t.builder.tables) t.funcs p.funcs
  pub tuples : HasTuples t.builder.tables (plan_tuples p)
  pub numbers : AllZip (HasTupleNumbers p t.builder.tables) t.funcs p.funcs
  pub core_types : AllZip (λ i ty. slice_get t.builder.module_types i.number ≡ Some ty) t.core_types p.core_types
  pub resource_tables : t.builder.tables.resource_tables ≡ map resource_table (take (tables_named p.types) p.tables)

-- ---- the first fault

-- the fault that an error tells, with its place: none for a want of memory
abbrev pub told : FuseError → Option (Fault × Place)
told error.OutOfMemory = None
told (error.UnknownIndex place) = Some (unknown_index, place)
told (error.BadType place) = Some (bad_type, place)
told (error.TooLarge place) = Some (too_large, place)
told (error.BadOptions place) = Some (bad_options, place)
told (error.TypeMismatch place) = Some (type_mismatch, place)
told (error.BadMemory place) = Some (bad_memory, place)
told (error.BadSignature place) = Some (bad_signature, place)
told (error.ImportConflict place) = Some (import_conflict, place)
told (error.DuplicateName place) = Some (duplicate_name, place)

-- The types and functions of a plan have no fault.
pub record HasFaultlessTypes (p : FusePlan) : Type 0 where
  pub types : HaveNoFault (HasTypeFault p)
  pub funcs : HaveNoFault (HasFuncFault p)

-- The first fault of a plan is this one, and stands among its types or, where these have none, among its functions.
abbrev pub IsFirstOfTypes : FusePlan → Fault → Place → Type 0
IsFirstOfTypes p f (TypeEntry k) = IsFirstFault (HasTypeFault p) k f
IsFirstOfTypes p f (Func k) = HaveNoFault (HasTypeFault p) × IsFirstFault (HasFuncFault p) k f
IsFirstOfTypes p f (Adapter k) = ⊥
