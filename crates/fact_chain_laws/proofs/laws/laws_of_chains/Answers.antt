use Rattle.fact_chain_laws.proofs.Chains.{chain_comes, chain_ends}
use Rattle.fact_chain_laws.proofs.laws.laws_of_chains.Goals as goal

pub returns-clause-carry : goal.returns-clause-carry
returns-clause-carry c = λ m is u adapters a b f g t first second s z args results chained promised_a promised_b calls_a calls_b callable_a callable_b joined args_are results_are fit is_chained.
    chain_comes m is u adapters a b f g t first second s z args results promised_a promised_b calls_a calls_b callable_a callable_b joined args_are results_are c.laws_of_calls.ensures.carry c.laws_of_calls.ensures.ask chained is_chained fit

pub returns-clause-end : goal.returns-clause-end
returns-clause-end c = λ m is u adapters a b f g t first second s z args results error promised_a promised_b calls_a calls_b callable_a callable_b joined args_are results_are cause.
    chain_ends m is u adapters a b f g t first second s z args results promised_a promised_b calls_a calls_b callable_a callable_b joined args_are results_are c.laws_of_calls.ensures.carry c.laws_of_calls.ensures.ask error cause
