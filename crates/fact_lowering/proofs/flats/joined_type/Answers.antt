use Rattle.std.proofs.Common.{◌∙◌, ap, sym, Some}
use Rattle.fact_lowering.proofs.FlatLaws.{joined_alone, joined_both, joined_past}
use Rattle.fact_lowering.proofs.flats.joined_type.Goals as goal

pub returns-in_default : goal.returns-in_default
returns-in_default c = c.type_at-in_default.ensures ∙ sym (joined_past c.args.first.now c.args.second.now c.args.place (sym c.type_at.ensures ∙ c.in_default.is))

pub returns-in-Some-type_at : goal.returns-in-Some-type_at
returns-in-Some-type_at c =
    ap Some c.join.ensures
    ∙ sym (joined_both c.args.first.now c.args.second.now c.args.place c.in-Some.own c.in-Some-type_at.other (sym c.type_at.ensures ∙ c.in-Some.is) (sym c.type_at-2.ensures ∙ c.in-Some-type_at.is))

pub returns-in-None : goal.returns-in-None
returns-in-None c = sym c.in-Some.is ∙ c.type_at.ensures ∙ sym (joined_alone c.args.first.now c.args.second.now c.args.place (sym c.type_at-2.ensures ∙ c.in-None.is))
