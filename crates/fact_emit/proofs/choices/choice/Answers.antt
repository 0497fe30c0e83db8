use Rattle.std.proofs.Common.{◌<◌, ◌∙◌, ap, subst, arith}
use Rattle.fact_code_laws.specs.Code.{sum_code}
use Rattle.fact_emit.proofs.ChunkBodies.{chosen_in_chunks, fewer_codes}
use Rattle.fact_emit.proofs.choices.choice.Goals as goal

pub table_with_trap-requires-2 : goal.table_with_trap-requires-2
table_with_trap-requires-2 c =
    omega (arith, fewer_codes c.in_ok-codes.ensures (subst (λ n. 64 < n) (c.len.ensures ∙ c.args.bodies.ok.0) c.if-len-le64.false), c.requires)

pub returns : goal.returns
returns c =
    chosen_in_chunks c.in_ok-codes.ensures (subst (λ n. 64 < n) (c.len.ensures ∙ c.args.bodies.ok.0) c.if-len-le64.false)
    (c.in_ok-code-2.ensures ∙ ap (λ n. sum_code n c.args.place c.in_ok-codes.codes.items) c.in_ok-number-2.ensures)
