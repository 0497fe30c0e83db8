use Rattle.std.proofs.Common.{[], take, sym, ap, subst, refl, arith}
use Rattle.std.proofs.lemmas.Result.{err_from_is_err_and}
use Rattle.fact_source.specs.Live.{reach_of, IsLiveEntity, AreLiveItems}
use Rattle.fact_builder.specs.declared.error.BuildError.TheVariants.{ValuesNotSupported}
use Rattle.fact_convert.specs.Appended.{size_of, IsDefMade}
use Rattle.fact_convert.specs.BuilderTables.{tables_of}
use Rattle.fact_convert.specs.Progress.{AreItemsMade}
use Rattle.fact_convert.specs.Tasks.{tasks_of, item_tasks}
use Rattle.fact_convert.proofs.Appending.{instance_made, instance_full, component_made, component_full, one_more_item, instance_comes, instance_fails, component_comes, imports_fail, exports_fail}
use Rattle.fact_convert.proofs.Coming.{comes_none, comes_out, comes_then, comes_not, comes_lost, comes_with, comes_failed, comes_at_once, comes_ready}
use Rattle.fact_convert.proofs.Looping.{one_more_done, one_failed, one_lost, all_came}
use Rattle.fact_convert.proofs.Measures.{reach_of_items, one_reaches_no_further, exports_lower, items_lower}
use Rattle.fact_convert.proofs.Sizes.{performs_all_sizes, one_more_last, items_in_turn, exports_in_turn}
use Rattle.fact_convert.proofs.Within.{items_in, items_live, items_stay}
use Rattle.fact_convert.proofs.Opening.{comes_named, comes_still, comes_to}
use Rattle.fact_convert.proofs.items.+items.Goals as goal

pub def_of_entity-module_type-requires : goal.def_of_entity-module_type-requires
def_of_entity-module_type-requires t c = subst (IsLiveEntity c.args.types.now) c.in-Module.is c.requires.live

pub def_of_entity-returns-in_err-module-in-Module : goal.def_of_entity-returns-in_err-module-in-Module
def_of_entity-returns-in_err-module-in-Module t c = comes_named _ _ _ (tasks_of c.args.types.now) (λ e c' d. IsDefMade c.args.types.now c' e d) _ _ _ c.in-Module.is (comes_out _ _ _ _ _ c.from_residual.result _ (err_from_is_err_and c.from_residual.result c.from_residual.ensures.1) (comes_failed _ _ _ _ _ _ _ c.in_err-module-in-Module.ensures))

pub def_of_entity-returns-in_ok-module-in-Module : goal.def_of_entity-returns-in_ok-module-in-Module
def_of_entity-returns-in_ok-module-in-Module t c = comes_named _ _ _ (tasks_of c.args.types.now) (λ e c' d. IsDefMade c.args.types.now c' e d) _ _ _ c.in-Module.is (comes_with _ _ _ _ _ _ _ _ (λ h. h) c.in_ok-module-in-Module.ensures)

pub def_of_entity-func_type-requires-clause-live : goal.def_of_entity-func_type-requires-clause-live
def_of_entity-func_type-requires-clause-live t c = subst (IsLiveEntity c.args.types.now) c.in-Func.is c.requires.live

pub def_of_entity-returns-in_err-func-in-Func : goal.def_of_entity-returns-in_err-func-in-Func
def_of_entity-returns-in_err-func-in-Func t c = comes_named _ _ _ (tasks_of c.args.types.now) (λ e c' d. IsDefMade c.args.types.now c' e d) _ _ _ c.in-Func.is (comes_out _ _ _ _ _ c.from_residual-in_err-func-in-Func.result _ (err_from_is_err_and c.from_residual-in_err-func-in-Func.result c.from_residual-in_err-func-in-Func.ensures.1) (comes_failed _ _ _ _ _ _ _ c.in_err-func-in-Func.ensures))

pub def_of_entity-returns-in_ok-func-in-Func : goal.def_of_entity-returns-in_ok-func-in-Func
def_of_entity-returns-in_ok-func-in-Func t c = comes_named _ _ _ (tasks_of c.args.types.now) (λ e c' d. IsDefMade c.args.types.now c' e d) _ _ _ c.in-Func.is (comes_with _ _ _ _ _ _ _ _ (λ h. (h, tt)) c.in_ok-func-in-Func.ensures)

pub def_of_entity-instance_type-requires : goal.def_of_entity-instance_type-requires
def_of_entity-instance_type-requires t c = (omega (arith, c.decreases, ap (reach_of c.args.types.now) c.in-Instance.is), (c.requires.ready, subst (IsLiveEntity c.args.types.now) c.in-Instance.is c.requires.live))

pub def_of_entity-returns-in_err-instance-in-Instance : goal.def_of_entity-returns-in_err-instance-in-Instance
def_of_entity-returns-in_err-instance-in-Instance t c = comes_named _ _ _ (tasks_of c.args.types.now) (λ e c' d. IsDefMade c.args.types.now c' e d) _ _ _ c.in-Instance.is (comes_out _ _ _ _ _ c.from_residual-in_err-instance-in-Instance.result _ (err_from_is_err_and c.from_residual-in_err-instance-in-Instance.result c.from_residual-in_err-instance-in-Instance.ensures.1) (comes_failed _ _ _ _ _ _ _ c.in_err-instance-in-Instance.ensures))

pub def_of_entity-returns-in_ok-instance-in-Instance : goal.def_of_entity-returns-in_ok-instance-in-Instance
def_of_entity-returns-in_ok-instance-in-Instance t c = comes_named _ _ _ (tasks_of c.args.types.now) (λ e c' d. IsDefMade c.args.types.now c' e d) _ _ _ c.in-Instance.is (comes_with _ _ _ _ _ _ _ _ (λ h. h) c.in_ok-instance-in-Instance.ensures)

pub def_of_entity-component_type-requires : goal.def_of_entity-component_type-requires
def_of_entity-component_type-requires t c = (omega (arith, c.decreases, ap (reach_of c.args.types.now) c.in-Component.is), (c.requires.ready, subst (IsLiveEntity c.args.types.now) c.in-Component.is c.requires.live))

pub def_of_entity-returns-in_err-component-in-Component : goal.def_of_entity-returns-in_err-component-in-Component
def_of_entity-returns-in_err-component-in-Component t c = comes_named _ _ _ (tasks_of c.args.types.now) (λ e c' d. IsDefMade c.args.types.now c' e d) _ _ _ c.in-Component.is (comes_out _ _ _ _ _ c.from_residual-in_err-component-in-Component.result _ (err_from_is_err_and c.from_residual-in_err-component-in-Component.result c.from_residual-in_err-component-in-Component.ensures.1) (comes_failed _ _ _ _ _ _ _ c.in_err-component-in-Component.ensures))

pub def_of_entity-returns-in_ok-component-in-Component : goal.def_of_entity-returns-in_ok-component-in-Component
def_of_entity-returns-in_ok-component-in-Component t c = comes_named _ _ _ (tasks_of c.args.types.now) (λ e c' d. IsDefMade c.args.types.now c' e d) _ _ _ c.in-Component.is (comes_with _ _ _ _ _ _ _ _ (λ h. h) c.in_ok-component-in-Component.ensures)

pub def_of_entity-def_of_type-requires-clause-live : goal.def_of_entity-def_of_type-requires-clause-live
def_of_entity-def_of_type-requires-clause-live t c = subst (IsLiveEntity c.args.types.now) c.in-AnyType.is c.requires.live

pub def_of_entity-returns-in-AnyType : goal.def_of_entity-returns-in-AnyType
def_of_entity-returns-in-AnyType t c = comes_named _ _ _ (tasks_of c.args.types.now) (λ e c' d. IsDefMade c.args.types.now c' e d) _ _ _ c.in-AnyType.is c.def_of_type.ensures

pub def_of_entity-returns-in-Value : goal.def_of_entity-returns-in-Value
def_of_entity-returns-in-Value t c = comes_named _ _ _ (tasks_of c.args.types.now) (λ e c' d. IsDefMade c.args.types.now c' e d) _ _ _ c.in-Value.is (comes_at_once _ _ _ _ ValuesNotSupported refl)

-- ---- with what is said beside

pub extern_of_item-def_of_entity-requires : goal.extern_of_item-def_of_entity-requires
extern_of_item-def_of_entity-requires t c = (omega (arith, c.decreases), (c.requires.ready, c.requires.live))

pub extern_of_item-returns-in_err-ty : goal.extern_of_item-returns-in_err-ty
extern_of_item-returns-in_err-ty t c = comes_out _ _ _ _ _ c.from_residual.result _ (err_from_is_err_and c.from_residual.result c.from_residual.ensures.1) (comes_failed _ _ _ _ _ _ _ c.in_err-ty.ensures)

pub extern_of_item-returns-in_err-extern_data : goal.extern_of_item-returns-in_err-extern_data
extern_of_item-returns-in_err-extern_data t c = comes_out _ _ _ _ _ c.from_residual-in_err-extern_data.result _ (err_from_is_err_and c.from_residual-in_err-extern_data.result c.from_residual-in_err-extern_data.ensures.1) (comes_lost _ _ _ _ _ _ _ c.in_ok-ty.ensures)

pub extern_of_item-returns : goal.extern_of_item-returns
extern_of_item-returns t c = comes_with _ _ _ _ _ _ _ _ (λ h. (c.in_ok-extern_data.ensures.implements, c.in_ok-extern_data.ensures.external_id, h)) c.in_ok-ty.ensures

pub registered_extern-extern_of_item-requires : goal.registered_extern-extern_of_item-requires
registered_extern-extern_of_item-requires t c = (omega (arith, c.decreases), (comes_ready _ _ _ _ _ _ c.in_ok-register_abstract.ensures c.requires.ready, c.requires.live))

pub registered_extern-returns-in_err-register_abstract : goal.registered_extern-returns-in_err-register_abstract
registered_extern-returns-in_err-register_abstract t c = comes_out _ _ _ _ _ c.from_residual.result _ (err_from_is_err_and c.from_residual.result c.from_residual.ensures.1) (comes_not _ _ _ _ _ _ _ _ c.in_err-register_abstract.ensures)

pub registered_extern-returns : goal.registered_extern-returns
registered_extern-returns t c = comes_then _ _ _ _ _ _ _ _ _ _ c.in_ok-register_abstract.ensures c.extern_of_item.ensures

-- ---- instances

pub instance_type-externs_of_items-requires : goal.instance_type-externs_of_items-requires
instance_type-externs_of_items-requires t c =
    let low = exports_lower c.args.types.now c.reveal.ensures c.args.id c.in-Some.instance.now (sym c.in-Some.ensures.value) in
    (omega (arith, c.decreases, low.0, ap (reach_of_items c.args.types.now) c.as_slice.ensures), (c.requires.ready, subst (AreLiveItems c.args.types.now) (sym c.as_slice.ensures) low.1))

pub instance_type-push_component_instance-requires : goal.instance_type-push_component_instance-requires
instance_type-push_component_instance-requires t c = items_live c.args.types.now _ (c.in_ok-exports.ensures.kept_live c.requires.ready.kept) c.as_slice.result.now c.in_ok-exports.exports.entries c.in_ok-exports.ensures.converts.1.0

pub instance_type-returns-in_err-exports : goal.instance_type-returns-in_err-exports
instance_type-returns-in_err-exports t c = comes_out _ _ _ _ _ c.from_residual.result _ (err_from_is_err_and c.from_residual.result c.from_residual.ensures.1) (instance_fails c.args.types.now c.reveal.ensures _ _ c.args.id c.in-Some.instance.now (sym c.in-Some.ensures.value) _ c.as_slice.ensures _ _ _ c.in_err-exports.ensures)

pub instance_type-returns-in_err-index : goal.instance_type-returns-in_err-index
instance_type-returns-in_err-index t c = comes_out _ _ _ _ _ c.from_residual-in_err-index.result _ (err_from_is_err_and c.from_residual-in_err-index.result c.from_residual-in_err-index.ensures.1) (instance_comes c.args.types.now c.reveal.ensures _ _ _ c.args.id c.in-Some.instance.now (sym c.in-Some.ensures.value) _ c.as_slice.ensures _ _ _ _ c.in_ok-exports.ensures ((comes_still _ _ _ _ _ _ _ c.in_err-index.ensures.refused (instance_full c.args.types.now _ c.in-Some.instance.now _ c.push_component_instance.result _ c.in_err-index.was c.push_component_instance.ensures.too_large))))

pub instance_type-returns : goal.instance_type-returns
instance_type-returns t c =
    instance_comes c.args.types.now c.reveal.ensures _ _ _ c.args.id c.in-Some.instance.now (sym c.in-Some.ensures.value) _ c.as_slice.ensures _ _ _ _ c.in_ok-exports.ensures
    ((instance_made c.args.types.now c.reveal.ensures _ c.push_component_instance.new.self c.args.id c.in-Some.instance.now (record { exports = c.in_ok-exports.exports.entries }) c.in_ok-index.index (sym c.in-Some.ensures.value) (items_in c.args.types.now _ _ _ c.as_slice.ensures c.in_ok-exports.exports.entries c.in_ok-exports.ensures.converts.1.0)
    (exports_in_turn c.args.types.now _ _ _ _ c.as_slice.ensures c.in_ok-exports.exports.entries c.in_ok-exports.ensures.converts.0 c.in_ok-exports.ensures.converts.1.1) c.in_ok-index.ensures.table c.in_ok-index.ensures.keeps c.in_ok-index.ensures.too_large c.in_ok-index.ensures.key))

-- ---- components

pub component_type-externs_of_items-requires : goal.component_type-externs_of_items-requires
component_type-externs_of_items-requires t c =
    let low = (items_lower c.args.types.now c.reveal.ensures c.args.id c.in-Some.component.now (sym c.in-Some.ensures.value)).0 in
    (omega (arith, c.decreases, low.0, ap (reach_of_items c.args.types.now) c.as_slice.ensures), (c.requires.ready, subst (AreLiveItems c.args.types.now) (sym c.as_slice.ensures) low.1))

pub component_type-externs_of_items-requires-2 : goal.component_type-externs_of_items-requires-2
component_type-externs_of_items-requires-2 t c =
    let low = (items_lower c.args.types.now c.reveal.ensures c.args.id c.in-Some.component.now (sym c.in-Some.ensures.value)).1 in
    (omega (arith, c.decreases, low.0, ap (reach_of_items c.args.types.now) c.as_slice-2.ensures), (comes_ready _ _ _ _ _ _ c.in_ok-imports.ensures c.requires.ready, subst (AreLiveItems c.args.types.now) (sym c.as_slice-2.ensures) low.1))

pub component_type-push_component-requires : goal.component_type-push_component-requires
component_type-push_component-requires t c =
    let kept = c.in_ok-exports.ensures.kept_live (c.in_ok-imports.ensures.kept_live c.requires.ready.kept) in record {
      imports = items_live c.args.types.now _ kept c.as_slice.result.now c.in_ok-imports.imports.entries (items_stay c.args.types.now _ _ c.in_ok-exports.ensures.grows c.as_slice.result.now c.in_ok-imports.imports.entries c.in_ok-imports.ensures.converts.1.0);
      exports = items_live c.args.types.now _ kept c.as_slice-2.result.now c.in_ok-exports.exports.entries c.in_ok-exports.ensures.converts.1.0;
    }

pub component_type-returns-in_err-imports : goal.component_type-returns-in_err-imports
component_type-returns-in_err-imports t c = comes_out _ _ _ _ _ c.from_residual.result _ (err_from_is_err_and c.from_residual.result c.from_residual.ensures.1) (imports_fail c.args.types.now c.reveal.ensures _ _ c.args.id c.in-Some.component.now (sym c.in-Some.ensures.value) _ c.as_slice.ensures _ _ _ c.in_err-imports.ensures)

pub component_type-returns-in_err-exports : goal.component_type-returns-in_err-exports
component_type-returns-in_err-exports t c = comes_out _ _ _ _ _ c.from_residual-in_err-exports.result _ (err_from_is_err_and c.from_residual-in_err-exports.result c.from_residual-in_err-exports.ensures.1) (exports_fail c.args.types.now c.reveal.ensures _ _ _ c.args.id c.in-Some.component.now (sym c.in-Some.ensures.value) _ _ c.as_slice.ensures c.as_slice-2.ensures _ _ _ _ _ c.in_ok-imports.ensures c.in_err-exports.ensures)

pub component_type-returns-in_err-index : goal.component_type-returns-in_err-index
component_type-returns-in_err-index t c = comes_out _ _ _ _ _ c.from_residual-in_err-index.result _ (err_from_is_err_and c.from_residual-in_err-index.result c.from_residual-in_err-index.ensures.1) (component_comes c.args.types.now c.reveal.ensures _ _ _ _ c.args.id c.in-Some.component.now (sym c.in-Some.ensures.value) _ _ c.as_slice.ensures c.as_slice-2.ensures _ _ _ _ _ _ c.in_ok-imports.ensures c.in_ok-exports.ensures ((comes_still _ _ _ _ _ _ _ c.in_err-index.ensures.refused (component_full c.args.types.now _ c.in-Some.component.now _ c.push_component.result _ c.in_err-index.was c.push_component.ensures.too_large))))

pub component_type-returns : goal.component_type-returns
component_type-returns t c =
    component_comes c.args.types.now c.reveal.ensures _ _ _ _ c.args.id c.in-Some.component.now (sym c.in-Some.ensures.value) _ _ c.as_slice.ensures c.as_slice-2.ensures _ _ _ _ _ _ c.in_ok-imports.ensures c.in_ok-exports.ensures
    ((component_made c.args.types.now c.reveal.ensures _ c.push_component.new.self c.args.id c.in-Some.component.now (record { imports = c.in_ok-imports.imports.entries; exports = c.in_ok-exports.exports.entries }) c.in_ok-index.index (sym c.in-Some.ensures.value)
    (items_in c.args.types.now _ _ _ c.as_slice.ensures c.in_ok-imports.imports.entries (items_stay c.args.types.now _ _ c.in_ok-exports.ensures.grows c.as_slice.result.now c.in_ok-imports.imports.entries c.in_ok-imports.ensures.converts.1.0))
    (items_in c.args.types.now _ _ _ c.as_slice-2.ensures c.in_ok-exports.exports.entries c.in_ok-exports.ensures.converts.1.0)
    (items_in_turn c.args.types.now _ _ _ _ _ _ _ c.as_slice.ensures c.as_slice-2.ensures c.in_ok-imports.imports.entries c.in_ok-exports.exports.entries c.in_ok-imports.ensures.converts.0 c.in_ok-exports.ensures.converts.0 c.in_ok-imports.ensures.converts.1.1 c.in_ok-exports.ensures.converts.1.1)
    c.in_ok-index.ensures.table c.in_ok-index.ensures.keeps c.in_ok-index.ensures.too_large c.in_ok-index.ensures.key))

-- ---- imports and exports one by one

pub externs_of_items-registered_extern-requires : goal.externs_of_items-registered_extern-requires
externs_of_items-registered_extern-requires t c = (
  omega (arith, c.decreases, one_reaches_no_further c.args.types.now c.args.items.now c.loop-name.name-index c.loop-name-item.result c.loop-name-test.true, ap (λ x. reach_of c.args.types.now x.1.ty) c.loop-name-item.is),
  (comes_ready _ _ _ _ _ _ c.loop-name.invariant c.requires.ready, subst (λ x. IsLiveEntity c.args.types.now x.1.ty) (sym c.loop-name-item.is) (c.requires.live c.loop-name.name-index c.loop-name-item.result c.loop-name-test.true)),
)

pub externs_of_items-loop-name-init : goal.externs_of_items-loop-name-init
externs_of_items-loop-name-init t c = comes_to _ _ _ _ _ [] _ c.new-externs.ensures.empty (comes_none _ _ _ [] (tt, tt))

pub externs_of_items-loop-name-preserved : goal.externs_of_items-loop-name-preserved
externs_of_items-loop-name-preserved t c =
    one_more_done c.args.types.now c.args.builder.now c.loop-name.builder c.registered_extern.new.builder (item_tasks c.args.types.now (tasks_of c.args.types.now)) c.args.items.now c.loop-name.name-index c.loop-name-item.result (λ xs c' externs. AreItemsMade c.args.types.now c.args.builder.now c' xs externs) _ _ _ _ c.loop-name-test.true c.loop-name-item.is c.loop-name.invariant c.in_ok-next.ensures
    (λ done g k h. (
      one_more_item c.args.types.now _ _ g (take c.loop-name.name-index c.args.items.now) c.loop-name-item.result _ _ _ k.0 (h.0, h.1, h.2.0) c.in_ok-put.ensures,
      one_more_last c.args.types.now (size_of (tables_of c.args.builder.now)) c.registered_extern.new.builder (take c.loop-name.name-index c.args.items.now) c.loop-name-item.result _ _ _ k.1 (performs_all_sizes c.args.types.now _ _ _ done) h.2.1 c.in_ok-put.ensures,
    ))

pub externs_of_items-returns-in_err-next : goal.externs_of_items-returns-in_err-next
externs_of_items-returns-in_err-next t c = comes_out _ _ _ _ _ c.from_residual.result _ (err_from_is_err_and c.from_residual.result c.from_residual.ensures.1) (one_failed c.args.types.now _ _ _ (item_tasks c.args.types.now (tasks_of c.args.types.now)) c.args.items.now c.loop-name.name-index c.loop-name-item.result _ _ _ _ _ c.loop-name-test.true c.loop-name-item.is c.loop-name.invariant c.in_err-next.ensures)

pub externs_of_items-returns-in_err-put : goal.externs_of_items-returns-in_err-put
externs_of_items-returns-in_err-put t c = comes_out _ _ _ _ _ c.from_residual-in_err-put.result _ (err_from_is_err_and c.from_residual-in_err-put.result c.from_residual-in_err-put.ensures.1) (one_lost c.args.types.now _ _ _ (item_tasks c.args.types.now (tasks_of c.args.types.now)) c.args.items.now c.loop-name.name-index c.loop-name-item.result _ _ _ _ _ c.loop-name-test.true c.loop-name-item.is c.loop-name.invariant c.in_ok-next.ensures)

pub externs_of_items-returns : goal.externs_of_items-returns
externs_of_items-returns t c = comes_with c.args.types.now _ _ _ (λ c' externs. AreItemsMade c.args.types.now c.args.builder.now c' c.args.items.now externs) _ c.loop-name.externs.entries _ (λ h. h) (all_came c.args.types.now _ _ (item_tasks c.args.types.now (tasks_of c.args.types.now)) c.args.items.now c.loop-name.name-index (λ xs c' externs. AreItemsMade c.args.types.now c.args.builder.now c' xs externs) _ c.loop-name-test.false c.loop-name.invariant)
