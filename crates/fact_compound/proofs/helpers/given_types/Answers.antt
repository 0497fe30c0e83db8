use Rattle.fact_compound.proofs.HelperFunctions.{given_on_stack}
use Rattle.fact_compound.proofs.helpers.given_types.Goals as goal

pub returns-in-Stack : goal.returns-in-Stack
returns-in-Stack c = given_on_stack _ c.args.side.now.loc c.in-Stack.is c.flat_types.result c.flat_types.ensures
