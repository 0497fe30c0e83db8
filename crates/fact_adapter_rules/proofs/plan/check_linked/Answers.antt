use Rattle.std.proofs.lemmas.Option.{IfSome_then}
use Rattle.std.proofs.lemmas.Result.{IfErr-weaker, on_ok_weaker}
use Rattle.fact_plan_types.specs.PlanTypes.{told}
use Rattle.fact_adapter_rules.proofs.LinkLaws.{sides-typed}
use Rattle.fact_adapter_rules.proofs.PlanLaws.{refused-here, sound-next}
use Rattle.fact_adapter_rules.proofs.plan.check_linked.Goals as goal

pub check-requires : goal.check-requires
check-requires c =
    let links = c.requires.links in
    rw (c.requires.at.builder, c.candidate_of-candidate.ensures.linked) (sides-typed _ _ links.linked links.stands)

pub returns-clause-sound : goal.returns-clause-sound
returns-clause-sound c =
    on_ok_weaker c.check.result
    (sound-next _ _ _ _ _ c.candidate_of-candidate.result c.requires.at c.requires.there (rw c.candidate_of-candidate.ensures.linked c.requires.links)
    c.candidate_of-candidate.ensures.name c.candidate_of-candidate.ensures.transparent c.requires.known c.requires.small _ c.check.ensures.builder c.check.ensures.concurrency)
    c.check.ensures.sound

pub returns-clause-refused : goal.returns-clause-refused
returns-clause-refused c =
    IfErr-weaker c.check.result _ _
    (λ e h. IfSome_then (told e) h (λ x. refused-here _ _ _ _ _ c.candidate_of-candidate.result c.requires.at c.requires.there (rw c.candidate_of-candidate.ensures.linked c.requires.links)
    c.candidate_of-candidate.ensures.name c.candidate_of-candidate.ensures.transparent c.requires.known c.requires.small x.0 x.1))
    c.check.ensures.refused
