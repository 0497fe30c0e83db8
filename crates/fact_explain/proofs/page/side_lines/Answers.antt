use Rattle.std.proofs.Common.{sym}
use Rattle.fact_explain.specs.Roles.{text_by}
use Rattle.fact_explain.proofs.Live.{func-live, func-there}
use Rattle.fact_explain.proofs.Paged.{side-told}
use Rattle.fact_explain.proofs.page.side_lines.Goals as goal

pub side_text-requires : goal.side_text-requires
side_text-requires c = func-live c.args.plan.now c.args.types.now _ _ c.requires (sym c.in-Some-get.ensures.value)

pub returns-in_default-get : goal.returns-in_default-get
returns-in_default-get c = λ f there. absurd (func-there c.args.plan.now c.args.types.now _ f c.requires (sym c.in_default-get.ensures.value) there)

pub returns : goal.returns
returns c =
    side-told c.side_text.result (text_by c.args.role c.args.k c.args.side.now) c.args.plan.now c.args.types.now c.args.side.now _ _ c.requires (sym c.in-Some-get.ensures.value) c.side_text.ensures
