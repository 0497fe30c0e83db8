-- The types of a nest are two a level.
use Rattle.std.proofs.Common.{◌+◌, ◌≤◌, length, subst, arith}
use Rattle.fact_generate.specs.declared.form.AdapterForm.{AdapterForm}
use Rattle.fact_generate.specs.Forms.{nest_types, types_for}
use Rattle.fact_generate.proofs.FormTypes.{length-nest_types}
use Rattle.fact_generate.proofs.types.add_types.Goals as goal

pub add_nest_types-requires : goal.add_nest_types-requires
add_nest_types-requires c =
    let place = length c.args.types.now in
    let fits : place + length (nest_types place c.in-Nest.depth) ≤ 4294967295 =
    subst (λ (f : AdapterForm). place + length (types_for c.args.lifts f place) ≤ 4294967295) c.in-Nest.is c.requires in
    omega (arith, length-nest_types place c.in-Nest.depth)
