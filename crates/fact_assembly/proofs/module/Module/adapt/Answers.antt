use Rattle.std.proofs.Common.{◌∙◌, ap, refl}
use Rattle.std.proofs.lemmas.Result.{IfErr-weaker}
use Rattle.fact_plan_types.specs.PlanTypes.{told}
use Rattle.fact_assembly.specs.Collected.{Collected}
use Rattle.fact_assembly.proofs.JudgeLaws.{behind-told, types-told, valid-sides}
use Rattle.fact_assembly.proofs.module.Module.adapt.Goals as goal

pub returns-else-is_memory-clause-refused : goal.returns-else-is_memory-clause-refused
returns-else-is_memory-clause-refused c =
    types-told _ _ c.args.component.now c.args.adapter c.args.name.now c.candidate-candidate.result _ c.self.view_is c.as_u32-number.ensures c.candidate-candidate.ensures (told _) c.in-Err.ensures.refused

pub take-requires-clause-valid : goal.take-requires-clause-valid
take-requires-clause-valid c = valid-sides _ _ c.candidate-candidate.result c.in_default.ensures.sound

pub returns-clause-refused : goal.returns-clause-refused
returns-clause-refused c =
    IfErr-weaker c.take.result _ _ (λ e. behind-told _ _ c.args.component.now c.args.adapter c.args.name.now c.candidate-candidate.result _ c.self.view_is c.as_u32-number.ensures c.candidate-candidate.ensures c.self.invariant.0.some.0 c.self.invariant.0.some.1 c.in_default.ensures.sound _ (told e)) c.take.ensures.refused

pub returns-then-not-self-clause-keeps : goal.returns-then-not-self-clause-keeps
returns-then-not-self-clause-keeps c = record { builder = refl; tunables = refl; features = refl }

pub returns-then-not-self-clause-refused : goal.returns-then-not-self-clause-refused
returns-then-not-self-clause-refused c = tt

pub returns-then-not-self-clause-spent : goal.returns-then-not-self-clause-spent
returns-then-not-self-clause-spent c = λ e. refl

pub returns-then-is_memory-clause-keeps : goal.returns-then-is_memory-clause-keeps
returns-then-is_memory-clause-keeps c = record {
  builder = ap (λ (v : Collected). v.builder) c.self.view_is;
  tunables = ap (λ (v : Collected). v.tunables) c.self.view_is;
  features = ap (λ (v : Collected). v.features) c.self.view_is;
}

pub returns-then-is_memory-clause-lost : goal.returns-then-is_memory-clause-lost
returns-then-is_memory-clause-lost c = λ e. refl

pub returns-else-is_memory-clause-keeps : goal.returns-else-is_memory-clause-keeps
returns-else-is_memory-clause-keeps c = record {
  builder = ap (λ (v : Collected). v.builder) c.self.view_is;
  tunables = ap (λ (v : Collected). v.tunables) c.self.view_is;
  features = ap (λ (v : Collected). v.features) c.self.view_is;
}

pub returns-clause-keeps : goal.returns-clause-keeps
returns-clause-keeps c = record {
  builder = c.take.ensures.keeps.builder ∙ ap (λ (v : Collected). v.builder) c.self.view_is;
  tunables = c.take.ensures.keeps.tunables ∙ ap (λ (v : Collected). v.tunables) c.self.view_is;
  features = c.take.ensures.keeps.features ∙ ap (λ (v : Collected). v.features) c.self.view_is;
}
