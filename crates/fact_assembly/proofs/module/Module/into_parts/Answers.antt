use Rattle.std.proofs.Common.{ap, ◌∙◌, refl}
use Rattle.fact_assembly.specs.Collected.{Collected}
use Rattle.fact_assembly.proofs.TakeLaws.{keeps-promises, of-parts, promised-of}
use Rattle.fact_assembly.proofs.module.Module.into_parts.Goals as goal

pub returns-clause-parts : goal.returns-clause-parts
returns-clause-parts c =
    of-parts _ c.into_parts.result c.into_parts.ensures.parts (λ tree imports tree_is imports_is. (tree_is ∙ ap (λ (v : Collected). v.tree) c.self.view_is, imports_is ∙ ap (λ (v : Collected). v.imports) c.self.view_is))

pub returns-clause-in_range : goal.returns-clause-in_range
returns-clause-in_range c =
    let whole = ap (λ (v : Collected). v.whole) c.self.view_is ∙ c.requires in
    let kept = keeps-promises _ c.self.inside.checks c.self.inside.state.sections c.self.invariant.0 refl refl whole c.into_parts.ensures.numbered in
    of-parts _ c.into_parts.result c.into_parts.ensures.parts (λ tree imports tree_is imports_is. rw tree_is kept.in_range)

pub returns-clause-promised : goal.returns-clause-promised
returns-clause-promised c =
    let whole = ap (λ (v : Collected). v.whole) c.self.view_is ∙ c.requires in
    of-parts _ c.into_parts.result c.into_parts.ensures.parts
    (λ tree imports tree_is imports_is. rw (← c.self.view_is, tree_is) (promised-of _ c.self.inside.checks c.self.inside.state.sections c.self.invariant.0 refl refl whole))
