-- Which types hold strings, lists or maps, whose values stand in memory behind a pointer and a length. The payloads of
-- futures and streams are not looked into.
use Rattle.std.specs.Prelude.{Bool, true, false, ◌||◌, List, [], ◌∷◌}
use Rattle.fact_types.specs.declared.interface.InterfaceType.{InterfaceType}
use Rattle.fact_types.specs.declared.interface.InterfaceType.TheVariants.{String as t_string}
use Rattle.fact_types.specs.Shapes.{Kind, k_list, k_map, k_future, k_stream, Shape, s_plain, s_node, Members, no_members, bare, typed}

abbrev pub is_string : InterfaceType → Bool
is_string t_string = true
is_string p = false

-- A kind of type is a list or a map, or one of its members holds a string, a list or a map.
abbrev pub pointer_pair_by : Kind → Bool → Bool
pointer_pair_by k_list members = true
pointer_pair_by k_map members = true
pointer_pair_by (k_future table instance) members = false
pointer_pair_by (k_stream table instance) members = false
pointer_pair_by k members = members

abbrev mutual
  pub has_pointer_pair : Shape → Bool
  has_pointer_pair (s_plain p) = is_string p
  has_pointer_pair (s_node k ms) = pointer_pair_by k (have_pointer_pair ms)

  pub have_pointer_pair : Members → Bool
  have_pointer_pair no_members = false
  have_pointer_pair (bare n ms) = have_pointer_pair ms
  have_pointer_pair (typed n s ms) = has_pointer_pair s || have_pointer_pair ms

-- One of several types is or holds a string, a list or a map.
abbrev pub any_pointer_pair : List Shape → Bool
any_pointer_pair [] = false
any_pointer_pair (s ∷ ss) = has_pointer_pair s || any_pointer_pair ss
