use Rattle.std.proofs.Common.{sym, ◌∙◌}
use Rattle.fact_value_json.proofs.ReadLaws.{one_member, more_members}
use Rattle.fact_value_json.proofs.reading.only_member.Goals as goal

pub returns-then-len-ne1 : goal.returns-then-len-ne1
returns-then-len-ne1 c =
    rw c.wrong_kind-then-len-ne1.ensures (more_members _ c.in-Some.members.now.entries c.in-Some.ensures (λ e. c.if-len-ne1.true (c.len.ensures.len ∙ e)))

pub returns-in-Some-first_key_value : goal.returns-in-Some-first_key_value
returns-in-Some-first_key_value c =
    rw c.as_str.ensures.value (one_member _ c.in-Some.members.now.entries (c.in-Some-first_key_value.name.now, c.in-Some-first_key_value.payload.now) c.in-Some.ensures (sym c.len.ensures.len ∙ c.if-len-ne1.false) c.in-Some-first_key_value.ensures.first)
