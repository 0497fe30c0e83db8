use Rattle.std.proofs.Common.{refl}
use Rattle.fact_compound.proofs.SameInstanceFunctions.{trap_function}
use Rattle.fact_compound.proofs.same_instance.trap_function.Goals as goal

pub returns : goal.returns
returns c = trap_function c.in_ok-place.ensures.imported c.in_ok-place.ensures.place c.in_ok-place.ensures.keeps c.in_ok-place.ensures.once refl c.new-locals.ensures c.in_ok-body.ensures
