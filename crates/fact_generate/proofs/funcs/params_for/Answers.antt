-- The types of a nest are two a level.
use Rattle.std.proofs.Common.{◌+◌, ◌≤◌, false, length, subst, arith}
use Rattle.fact_generate.specs.declared.form.AdapterForm.{AdapterForm}
use Rattle.fact_generate.specs.Forms.{nest_types, types_for}
use Rattle.fact_generate.proofs.FormTypes.{length-nest_types}
use Rattle.fact_generate.proofs.funcs.params_for.Goals as goal

pub nest_ref-requires : goal.nest_ref-requires
nest_ref-requires c =
    let fits : c.args.place + length (nest_types c.args.place c.in-Nest.depth) ≤ 4294967295 =
    subst (λ (f : AdapterForm). c.args.place + length (types_for false f c.args.place) ≤ 4294967295) c.in-Nest.is c.requires in
    omega (arith, length-nest_types c.args.place c.in-Nest.depth)
