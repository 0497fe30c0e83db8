use Rattle.std.proofs.Common.{[], ◌∷◌, ◌++◌, ap, sym, ◌∙◌, subst, refl}
use Rattle.fact_types.specs.Tables.{IsSound, Tables}
use Rattle.fact_plan_types.specs.PlanTypes.{told}
use Rattle.fact_types.specs.Adapters.{LinkedAdapter}
use Rattle.fact_adapter_rules.specs.Linked.{IsLinked, NamesTypesOf}
use Rattle.fact_assembly.specs.Sound.{HasValidSides}
use Rattle.fact_assembly.specs.Collected.{Collected, taken_of}
use Rattle.fact_assembly.specs.Taking.{IsSoundBehind}
use Rattle.fact_assembly.proofs.TakeLaws.{extends-more, helpers-here, importable-here, linked-of, made-more, refused-behind, sound-behind}
use Rattle.fact_assembly.proofs.module.Module.take.Goals as goal

pub returns-else-is_memory-clause-refused : goal.returns-else-is_memory-clause-refused
returns-else-is_memory-clause-refused c = refused-behind _ _ _ c.self.inside.state.sections _ _ (told _) c.self.view_is c.self.invariant.0 c.requires.whole c.in-Err.ensures.refused

pub take_checked-requires-clause-importable : goal.take_checked-requires-clause-importable
take_checked-requires-clause-importable c =
    let whole = ap (λ (v : Collected). v.whole) c.self.view_is ∙ c.requires.whole in
    let typed = subst (λ (v : Collected). NamesTypesOf v.builder c.args.candidate.now.adapter.now) (sym c.self.view_is) c.requires.typed in
    let valid = subst (λ (v : Collected). (a : LinkedAdapter) → IsLinked v.builder c.args.candidate.now a → HasValidSides a) (sym c.self.view_is) c.requires.valid in
    let sound = subst (λ (t : Tables). IsSound t) c.component_types.ensures c.reveal-2.ensures.sound in
    importable-here _ c.self.inside.checks c.check.new.self c.self.inside.state.sections c.self.inside.state.sections c.args.candidate.now c.self.invariant.0 whole sound typed valid c.in_default.ensures.sound

pub take_checked-requires-clause-linked : goal.take_checked-requires-clause-linked
take_checked-requires-clause-linked c =
    let typed = subst (λ (v : Collected). NamesTypesOf v.builder c.args.candidate.now.adapter.now) (sym c.self.view_is) c.requires.typed in
    let sound = subst (λ (t : Tables). IsSound t) c.component_types.ensures c.reveal-2.ensures.sound in
    linked-of c.self.inside.state.builder.now sound c.args.candidate.now typed

pub take_checked-requires-clause-helpers : goal.take_checked-requires-clause-helpers
take_checked-requires-clause-helpers c =
    let whole = ap (λ (v : Collected). v.whole) c.self.view_is ∙ c.requires.whole in
    helpers-here _ c.self.inside.checks c.self.inside.state.sections c.self.invariant.0 whole

pub invariant_of-self-in-Ok : goal.invariant_of-self-in-Ok
invariant_of-self-in-Ok c =
    let whole = ap (λ (v : Collected). v.whole) c.self.view_is ∙ c.requires.whole in
    let typed = subst (λ (v : Collected). NamesTypesOf v.builder c.args.candidate.now.adapter.now) (sym c.self.view_is) c.requires.typed in
    let valid = subst (λ (v : Collected). (a : LinkedAdapter) → IsLinked v.builder c.args.candidate.now a → HasValidSides a) (sym c.self.view_is) c.requires.valid in
    let sound = subst (λ (t : Tables). IsSound t) c.component_types.ensures c.reveal-2.ensures.sound in
    let kept = c.take_checked.ensures.keeps in
    let made = made-more _ c.self.inside.checks c.check.new.self c.self.inside.state.sections c.take_checked.new.state.sections c.args.candidate.now c.self.invariant.0 whole sound typed valid c.in_default.ensures.sound
    _ kept.builder kept.tunables kept.features c.in-Ok.ensures.taken c.in_default.ensures.builder c.in_default.ensures.concurrency c.in-Ok.ensures.emitted in
    (made, c.self.invariant.1 ∙ sym kept.builder)

pub returns-in-Ok-clause-taken : goal.returns-in-Ok-clause-taken
returns-in-Ok-clause-taken c =
    record {
      taken = c.in-Ok.ensures.taken ∙ ap (λ (v : Collected). v.taken ++ taken_of c.args.candidate.now ∷ []) c.self.view_is;
      whole = ap (λ (v : Collected). v.whole) c.self.view_is ∙ c.requires.whole;
    }

pub returns-in-Ok-clause-extends : goal.returns-in-Ok-clause-extends
returns-in-Ok-clause-extends c =
    let whole = ap (λ (v : Collected). v.whole) c.self.view_is ∙ c.requires.whole in
    let typed = subst (λ (v : Collected). NamesTypesOf v.builder c.args.candidate.now.adapter.now) (sym c.self.view_is) c.requires.typed in
    let valid = subst (λ (v : Collected). (a : LinkedAdapter) → IsLinked v.builder c.args.candidate.now a → HasValidSides a) (sym c.self.view_is) c.requires.valid in
    let sound = subst (λ (t : Tables). IsSound t) c.component_types.ensures c.reveal-2.ensures.sound in
    rw (← c.self.view_is)
    (extends-more _ c.self.inside.checks c.check.new.self c.self.inside.state.sections c.take_checked.new.state.sections c.args.candidate.now c.self.invariant.0 whole sound typed valid c.in_default.ensures.sound
    _ _ refl refl refl refl c.in-Ok.ensures.emitted)

pub returns-in-Ok-clause-sound : goal.returns-in-Ok-clause-sound
returns-in-Ok-clause-sound c =
    let whole = ap (λ (v : Collected). v.whole) c.self.view_is ∙ c.requires.whole in
    let typed = subst (λ (v : Collected). NamesTypesOf v.builder c.args.candidate.now.adapter.now) (sym c.self.view_is) c.requires.typed in
    let valid = subst (λ (v : Collected). (a : LinkedAdapter) → IsLinked v.builder c.args.candidate.now a → HasValidSides a) (sym c.self.view_is) c.requires.valid in
    let sound = subst (λ (t : Tables). IsSound t) c.component_types.ensures c.reveal-2.ensures.sound in
    subst (λ (v : Collected). IsSoundBehind v c.args.candidate.now) c.self.view_is
    (sound-behind _ c.self.inside.checks c.check.new.self c.self.inside.state.sections c.self.inside.state.sections c.args.candidate.now c.self.invariant.0 whole sound typed valid c.in_default.ensures.sound)

pub returns-then-is_memory-clause-keeps : goal.returns-then-is_memory-clause-keeps
returns-then-is_memory-clause-keeps c = record {
  builder = ap (λ (v : Collected). v.builder) c.self.view_is;
  tunables = ap (λ (v : Collected). v.tunables) c.self.view_is;
  features = ap (λ (v : Collected). v.features) c.self.view_is;
}

pub returns-then-is_memory-clause-lost : goal.returns-then-is_memory-clause-lost
returns-then-is_memory-clause-lost c = λ e. refl

pub returns-else-is_memory-clause-keeps : goal.returns-else-is_memory-clause-keeps
returns-else-is_memory-clause-keeps c = record {
  builder = ap (λ (v : Collected). v.builder) c.self.view_is;
  tunables = ap (λ (v : Collected). v.tunables) c.self.view_is;
  features = ap (λ (v : Collected). v.features) c.self.view_is;
}

pub returns-in-Err-take_checked-clause-keeps : goal.returns-in-Err-take_checked-clause-keeps
returns-in-Err-take_checked-clause-keeps c = record {
  builder = c.take_checked.ensures.keeps.builder ∙ ap (λ (v : Collected). v.builder) c.self.view_is;
  tunables = c.take_checked.ensures.keeps.tunables ∙ ap (λ (v : Collected). v.tunables) c.self.view_is;
  features = c.take_checked.ensures.keeps.features ∙ ap (λ (v : Collected). v.features) c.self.view_is;
}

pub returns-in-Err-take_checked-clause-lost : goal.returns-in-Err-take_checked-clause-lost
returns-in-Err-take_checked-clause-lost c = λ e. refl

pub returns-in-Err-take_checked-clause-refused : goal.returns-in-Err-take_checked-clause-refused
returns-in-Err-take_checked-clause-refused c = tt

pub returns-in-Ok-clause-keeps : goal.returns-in-Ok-clause-keeps
returns-in-Ok-clause-keeps c = record {
  builder = c.take_checked.ensures.keeps.builder ∙ ap (λ (v : Collected). v.builder) c.self.view_is;
  tunables = c.take_checked.ensures.keeps.tunables ∙ ap (λ (v : Collected). v.tunables) c.self.view_is;
  features = c.take_checked.ensures.keeps.features ∙ ap (λ (v : Collected). v.features) c.self.view_is;
}

pub returns-in-Ok-clause-refused : goal.returns-in-Ok-clause-refused
returns-in-Ok-clause-refused c = tt
