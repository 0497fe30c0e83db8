use Rattle.std.proofs.Common.{refl}
use Rattle.std.proofs.lemmas.Option.{IfSome_then}
use Rattle.std.proofs.lemmas.Result.{IfErr-weaker}
use Rattle.fact_plan_types.specs.PlanTypes.{told}
use Rattle.fact_module.proofs.FuseLaws.{on-both, refused-next, taken-next, typed-here, valid-here}
use Rattle.fact_module.proofs.TupleLaws.{tuple-made}
use Rattle.fact_module.proofs.fusion.take_adapter.Goals as goal

pub take-taken-requires-clause-typed : goal.take-taken-requires-clause-typed
take-taken-requires-clause-typed c =
    let made = c.candidate_of-candidate in
    typed-here _ _ _ _ _ made.result c.requires.at c.requires.there (rw made.ensures.linked c.in_ok-linked.ensures.links) made.ensures.name made.ensures.transparent c.in_ok-linked.ensures.known c.in_ok-linked.ensures.small

pub take-taken-requires-clause-valid : goal.take-taken-requires-clause-valid
take-taken-requires-clause-valid c =
    let made = c.candidate_of-candidate in
    valid-here _ _ _ _ _ made.result c.requires.at c.requires.there (rw made.ensures.linked c.in_ok-linked.ensures.links) made.ensures.name made.ensures.transparent c.in_ok-linked.ensures.known c.in_ok-linked.ensures.small
    c.args.types.now c.requires.types refl

pub returns-clause-taken : goal.returns-clause-taken
returns-clause-taken c =
    let made = c.candidate_of-candidate in
    on-both c.take-taken.result
    (λ has sound. taken-next _ _ _ _ _ made.result c.requires.at c.requires.there (rw made.ensures.linked c.in_ok-linked.ensures.links) made.ensures.name made.ensures.transparent c.in_ok-linked.ensures.known c.in_ok-linked.ensures.small _ c.take-taken.ensures.keeps has
    (tuple-made _ _ _ _ _ made.result.adapter.now made.ensures.linked c.requires.types c.requires.there c.in_ok-linked.ensures.links c.in_ok-linked.ensures.lift_ty) sound)
    c.take-taken.ensures.taken c.take-taken.ensures.sound

pub returns-clause-refused : goal.returns-clause-refused
returns-clause-refused c =
    let made = c.candidate_of-candidate in
    IfErr-weaker c.take-taken.result _ _
    (λ e h. IfSome_then (told e) h (λ x told.
    refused-next _ _ _ _ _ made.result c.requires.at c.requires.there (rw made.ensures.linked c.in_ok-linked.ensures.links) made.ensures.name made.ensures.transparent c.in_ok-linked.ensures.known c.in_ok-linked.ensures.small x.0 x.1 told.1 told.2))
    c.take-taken.ensures.refused
