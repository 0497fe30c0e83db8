use Rattle.std.proofs.Common.{◌∙◌, sym}
use Rattle.std.proofs.lemmas.Result.{on_ok_weaker}
use Rattle.fact_emit.proofs.StringParts.{first_there, second_there, without_memory}
use Rattle.fact_emit.proofs.passes.put_pass.Goals as goal

pub put_pass_between-requires : goal.put_pass_between-requires
put_pass_between-requires c = record {
  sides = c.requires.sides;
  from_there = first_there _ c.args.sides.to.has_memory (sym c.have_memories-there.ensures ∙ c.if-there.true);
  to_there = second_there c.args.sides.from.has_memory _ (sym c.have_memories-there.ensures ∙ c.if-there.true);
}

pub returns-else-there : goal.returns-else-there
returns-else-there c = on_ok_weaker _ (without_memory (sym c.have_memories-there.ensures ∙ c.if-there.false)) c.put.ensures
