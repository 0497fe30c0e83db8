-- Both sides, the callee and the adapter, each behind what was there.
use Rattle.std.proofs.Common.{◌≡◌, [], ◌∷◌, ◌++◌, false, true, ap, ◌∙◌}
use Rattle.std.proofs.lemmas.Result.{on_ok_weaker}
use Rattle.fact_types.specs.declared.outside.CoreDef.{CoreDef}
use Rattle.fact_plan.specs.declared.plan.PlanAdapter.{PlanAdapter}
use Rattle.fact_generate.specs.Generated.{export_of, adapter_name}
use Rattle.fact_generate.proofs.Adding.{adapter-is, lift-fits, lower-fits, side-fits}
use Rattle.fact_generate.proofs.plan.add_adapter.Goals as goal

pub add_function-requires : goal.add_function-requires
add_function-requires c = side-fits false c.args.k c.args.plan.now (lower-fits c.args.k c.args.plan.now c.requires.number c.requires.before)

pub add_function-requires-2 : goal.add_function-requires-2
add_function-requires-2 c = side-fits true c.args.k c.add_function.new.plan (lift-fits c.args.k c.args.plan.now c.add_function.new.plan c.requires.number c.requires.before c.in_ok-add_function.ensures)

pub returns : goal.returns
returns c =
    let p = c.add_function-2.new.plan in
    let def : c.push.new.self ≡ p.core_defs ++ export_of 1 (adapter_name c.args.k) ∷ [] =
    c.in_ok-push.ensures.ok ∙ ap (λ (d : CoreDef). p.core_defs ++ d ∷ []) (c.in_ok-export_of.ensures ∙ ap (export_of 1) (c.as_str.ensures ∙ c.in_ok-name.ensures)) in
    on_ok_weaker c.push-2.result
    (λ pushed. adapter-is c.args.k c.args.plan.now c.add_function.new.plan p c.push.new.self c.push-2.new.self c.requires.before c.in_ok-add_function.ensures c.in_ok-add_function-2.ensures def
    (pushed ∙ ap (λ (a : PlanAdapter). p.adapters ++ a ∷ []) c.in_ok-adapter_for.ensures))
    c.push-2.ensures.ok
