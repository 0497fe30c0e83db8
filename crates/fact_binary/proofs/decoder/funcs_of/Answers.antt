use Rattle.std.proofs.Common.{arith, ◌≡◌, map, sym, ◌∙◌}
use Rattle.std.proofs.lemmas.Grind.{common_steps}
use Rattle.fact_binary.specs.Owned.{type_index, body_of}
use Rattle.fact_binary.proofs.OneModule.{funcs_same}
use Rattle.fact_binary.proofs.decoder.funcs_of.Goals as goal

pub returns-clause-only : goal.returns-clause-only
returns-clause-only c fs p q =
    let types : map type_index c.loop-code.funcs ≡ c.args.types.now = grind (arith, common_steps) in
    let bodies : map body_of c.loop-code.funcs ≡ c.args.bodies = grind (arith, common_steps) in
    funcs_same c.loop-code.funcs fs (types ∙ sym p) (bodies ∙ sym q)
