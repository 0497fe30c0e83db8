-- The values of the parameters and of the results of a function, as the core values of a side stand for them.
-- Component Model, canonical ABI, "Flattening" (`flatten_functype`) and "Lifting and Lowering Values".
use Rattle.std.specs.Prelude.{ℕ, List, [], ◌∷◌, length, take, drop, Option, Some, None, Bool, true, false, if◌then◌else◌}
use Rattle.fact_machine.specs.declared.types.CoreValue.{CoreValue}
use Rattle.fact_types.specs.declared.flats.FlatType.{FlatType}
use Rattle.fact_types.specs.FlatShapes.{pointer, flat, flat_all}
use Rattle.fact_types.specs.Shapes.{Shape}
use Rattle.fact_types.specs.Signatures.{flat_params, lower_limit, lift_results_limit}
use Rattle.fact_types.specs.Options.{◌>>=◌}
use Rattle.fact_types.specs.Tuples.{tuple_members, tuple_of}
use Rattle.fact_values.specs.declared.side.SideAbi.{SideAbi}
use Rattle.fact_values.specs.declared.value.Value.{Value}
use Rattle.fact_values.specs.Lift.{can_stand, number_as, lift}
use Rattle.fact_values.specs.Load.{load_members}
use Rattle.fact_values.specs.Places.{width_of, extent_on}
use Rattle.fact_values.specs.Texts.{lies_aligned}

-- Values of types one behind the other, each lifted from as many core values as it has flat types.
abbrev pub lift_all : SideAbi → List ℕ → List Shape → List CoreValue → Option (List Value)
lift_all side bytes [] [] = Some []
lift_all side bytes [] (c ∷ cs) = None
lift_all side bytes (s ∷ ss) cs =
    lift side bytes s (take (length (flat (width_of side) s)) cs) >>= (λ v.
    lift_all side bytes ss (drop (length (flat (width_of side) s)) cs) >>= (λ vs. Some (v ∷ vs)))

-- The values of a tuple that stands at a place of a memory, aligned and all there.
abbrev pub load_tuple : SideAbi → List ℕ → List Shape → ℕ → Option (List Value)
load_tuple side bytes ss p =
    if lies_aligned bytes (extent_on side (tuple_of ss)).align p (extent_on side (tuple_of ss)).size
    then load_members side bytes (tuple_members ss) p 0 else None

-- The values behind a core value that is a pointer.
abbrev pub behind : SideAbi → List ℕ → List Shape → CoreValue → Option (List Value)
behind side bytes ss c =
    if can_stand (pointer (width_of side)) c then load_tuple side bytes ss (number_as (pointer (width_of side)) c) else None

-- The values behind the one core value that there is, and behind the last of several.
abbrev pub behind_only : SideAbi → List ℕ → List Shape → List CoreValue → Option (List Value)
behind_only side bytes ss (c ∷ []) = behind side bytes ss c
behind_only side bytes ss _ = None

abbrev pub behind_last : SideAbi → List ℕ → List Shape → List CoreValue → Option (List Value)
behind_last side bytes ss [] = None
behind_last side bytes ss (c ∷ []) = behind side bytes ss c
behind_last side bytes ss (c ∷ d ∷ cs) = behind_last side bytes ss (d ∷ cs)

-- The first where there are flat types, and else the second.
abbrev pub where_flat : {A : Type 0} → Option (List FlatType) → A → A → A
where_flat None flat_one other = other
where_flat (Some fs) flat_one other = flat_one

-- The values of a tuple that is flat up to a limit, and else behind a pointer.
abbrev pub flat_or_behind : SideAbi → List ℕ → ℕ → List Shape → List CoreValue → Option (List Value)
flat_or_behind side bytes limit ss cs =
    where_flat (flat_all (width_of side) limit ss) (lift_all side bytes ss cs) (behind_only side bytes ss cs)

-- The parameters of the side that lowers the function: the leading core arguments, before a return pointer.
abbrev pub lower_param_values : Bool → SideAbi → List ℕ → List Shape → List CoreValue → Option (List Value)
lower_param_values async side bytes ps args =
    flat_or_behind side bytes (lower_limit async) ps (take (length (flat_params side.memory64 (lower_limit async) ps)) args)

-- The parameters of the side that lifts it: all core arguments.
abbrev pub lift_param_values : SideAbi → List ℕ → List Shape → List CoreValue → Option (List Value)
lift_param_values side bytes ps args = flat_or_behind side bytes 16 ps args

-- The results of a sync side that lowers the function: flat, or behind the return pointer, its last core argument.
abbrev pub sync_lower_results : SideAbi → List ℕ → List Shape → (args results : List CoreValue) → Option (List Value)
sync_lower_results side bytes rs args results =
    where_flat (flat_all (width_of side) 1 rs) (lift_all side bytes rs results) (behind_last side bytes rs args)

-- Those of an async one stand behind its return pointer, where there are any.
abbrev pub async_lower_results : SideAbi → List ℕ → List Shape → (args : List CoreValue) → Option (List Value)
async_lower_results side bytes [] args = Some []
async_lower_results side bytes (r ∷ rs) args = behind_last side bytes (r ∷ rs) args

abbrev pub lower_result_values : Bool → SideAbi → List ℕ → List Shape → (args results : List CoreValue) → Option (List Value)
lower_result_values false side bytes rs args results = sync_lower_results side bytes rs args results
lower_result_values true side bytes rs args results = async_lower_results side bytes rs args

-- The results of the side that lifts the function, as it gives them: a sync side by its core results, an async one by the
-- core values that it hands over in the end (`task.return`).
abbrev pub lift_result_values : Bool → SideAbi → List ℕ → List Shape → List CoreValue → Option (List Value)
lift_result_values async side bytes rs results = flat_or_behind side bytes (lift_results_limit async) rs results
