use Rattle.std.proofs.Common.{◌≡◌, ◌+◌, None, refl, sym, ◌∙◌}
use Rattle.std.specs.Map.{lookup}
use Rattle.indexmap.proofs.CallerLemmas.{insert_entry-new}
use Rattle.fact_emit.specs.contracts.helpers.HelperPartialEq.TheImpl as helper_eq
use Rattle.fact_emit.specs.contracts.sections.ModuleSections.{the_view}
use Rattle.fact_emit.proofs.HelperLaws.{helper-added, helper-before, helper-indexed, helper-keeps, helper-once}
use Rattle.fact_emit.proofs.ImportLaws.{extended_none}
use Rattle.fact_emit.proofs.sections.ModuleSections.helper.Goals as goal

pub returns-in-Some-clause-asked : goal.returns-in-Some-clause-asked
returns-in-Some-clause-asked c =
    helper-before (the_view c.self.inside) c.args.self.now c.self.view_is _ _ _ c.self.invariant c.args.helper c.in-Some.number (sym c.get.ensures.value ∙ sym c.copied.ensures ∙ c.in-Some.is)

pub invariant_of-self-2 : goal.invariant_of-self-2
invariant_of-self-2 c =
    let none : lookup (helper_eq.ghosts.eq c.args.helper) c.self.inside.helpers.entries ≡ None = sym c.get.ensures.value ∙ sym c.copied.ensures ∙ c.in_default.is in
    helper-indexed (the_view c.self.inside) c.args.self.now c.self.view_is c.args.helper c.next_number-number.result c.insert.new.self.entries (c.next_number-number.result + 1) none
    (c.in_ok-insert.ensures.entries ∙ insert_entry-new helper_eq.ghosts.eq c.self.inside.helpers c.args.helper c.next_number-number.result none) c.next_number-number.ensures refl _ _ _ c.self.invariant (c.is_full.ensures c.if-is_full.false)

pub returns-clause-asked : goal.returns-clause-asked
returns-clause-asked c =
    let none : lookup (helper_eq.ghosts.eq c.args.helper) c.self.inside.helpers.entries ≡ None = sym c.get.ensures.value ∙ sym c.copied.ensures ∙ c.in_default.is in
    helper-added (the_view c.self.inside) c.args.self.now c.self.view_is c.args.helper c.next_number-number.result c.insert.new.self.entries (c.next_number-number.result + 1) none
    (c.in_ok-insert.ensures.entries ∙ insert_entry-new helper_eq.ghosts.eq c.self.inside.helpers c.args.helper c.next_number-number.result none) c.next_number-number.ensures refl

pub returns-clause-keeps : goal.returns-clause-keeps
returns-clause-keeps c =
    let none : lookup (helper_eq.ghosts.eq c.args.helper) c.self.inside.helpers.entries ≡ None = sym c.get.ensures.value ∙ sym c.copied.ensures ∙ c.in_default.is in
    helper-keeps (the_view c.self.inside) c.args.self.now c.self.view_is c.args.helper c.next_number-number.result c.insert.new.self.entries (c.next_number-number.result + 1) none
    (c.in_ok-insert.ensures.entries ∙ insert_entry-new helper_eq.ghosts.eq c.self.inside.helpers c.args.helper c.next_number-number.result none) c.next_number-number.ensures refl

pub returns-clause-once : goal.returns-clause-once
returns-clause-once c =
    let none : lookup (helper_eq.ghosts.eq c.args.helper) c.self.inside.helpers.entries ≡ None = sym c.get.ensures.value ∙ sym c.copied.ensures ∙ c.in_default.is in
    helper-once (the_view c.self.inside) c.args.self.now c.self.view_is c.args.helper c.next_number-number.result c.insert.new.self.entries (c.next_number-number.result + 1) none
    (c.in_ok-insert.ensures.entries ∙ insert_entry-new helper_eq.ghosts.eq c.self.inside.helpers c.args.helper c.next_number-number.result none) c.next_number-number.ensures refl

pub returns-in-Some-clause-keeps : goal.returns-in-Some-clause-keeps
returns-in-Some-clause-keeps c = extended_none refl

pub returns-in-Some-clause-once : goal.returns-in-Some-clause-once
returns-in-Some-clause-once c = λ o. o

pub returns-then-is_full-clause-keeps : goal.returns-then-is_full-clause-keeps
returns-then-is_full-clause-keeps c = extended_none refl

pub returns-then-is_full-clause-once : goal.returns-then-is_full-clause-once
returns-then-is_full-clause-once c = λ o. o
