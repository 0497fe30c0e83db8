-- What a program prints of a call of an adapter: its values carried, and how many calls its run makes.
use Rattle.std.specs.Prelude.{ℕ, zero, suc, ◌+◌, List, [], ◌∷◌, length, Option, option_map}
use Rattle.fact_types.specs.Shapes.{Shape}
use Rattle.fact_types.specs.Tuples.{tuple_members}
use Rattle.fact_values.specs.declared.value.Value.{Value}
use Rattle.fact_values.specs.Carry.{take_number}
use Rattle.fact_values.specs.Handles.{cross_places}
use Rattle.fact_action_laws.specs.Faithful.{all_handles}

-- so many numbers from one on
abbrev pub numbers_from : ℕ → ℕ → List ℕ
numbers_from n zero = []
numbers_from n (suc count) = n ∷ numbers_from (suc n) count

-- how many handles cross with values
abbrev pub handle_count : (source destination : List Shape) → List Value → ℕ
handle_count ts us vs = length (all_handles ts us vs)

-- values carried with the numbers from one on
abbrev pub carried_from : ℕ → (source destination : List Shape) → List Value → Option (List Value)
carried_from n ts us vs = option_map (λ r. r.0) (cross_places take_number (tuple_members ts) vs (tuple_members us) (numbers_from n (handle_count ts us vs)))

-- what the callee is given: the arguments, whose handles have the numbers from 1 on
abbrev pub called_params : (lower lift : List Shape) → (args : List Value) → Option (List Value)
called_params lower lift args = carried_from 1 lower lift args

-- what the caller gets: the results, whose handles have the numbers behind those
abbrev pub called_results : (lower_params lift_params lift_results lower_results : List Shape) → (args results : List Value) → Option (List Value)
called_results ps qs rs us args results = carried_from (1 + handle_count ps qs args) rs us results
