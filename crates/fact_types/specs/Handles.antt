-- Which types hold handles. A handle is an own, a borrow, a future, a stream or an error context. The payloads of futures
-- and streams are not looked into.
use Rattle.std.specs.Prelude.{Bool, true, false, ◌||◌, List, [], ◌∷◌}
use Rattle.fact_types.specs.declared.interface.InterfaceType.{InterfaceType}
use Rattle.fact_types.specs.declared.interface.InterfaceType.TheVariants.{Own as t_own, Borrow as t_borrow, Future as t_future, Stream as t_stream, ErrorContext as t_error_context}
use Rattle.fact_types.specs.Shapes.{Kind, k_future, k_stream, Shape, s_plain, s_node, Members, no_members, bare, typed}

abbrev pub is_handle : InterfaceType → Bool
is_handle (t_own i) = true
is_handle (t_borrow i) = true
is_handle (t_future i) = true
is_handle (t_stream i) = true
is_handle (t_error_context i) = true
is_handle ty = false

abbrev pub is_borrow : InterfaceType → Bool
is_borrow (t_borrow i) = true
is_borrow p = false

-- A kind of type is a handle, or one of its members holds one.
abbrev pub handle_by : Kind → Bool → Bool
handle_by (k_future table instance) members = true
handle_by (k_stream table instance) members = true
handle_by k members = members

-- One of the members holds a borrow.
abbrev pub borrow_by : Kind → Bool → Bool
borrow_by (k_future table instance) members = false
borrow_by (k_stream table instance) members = false
borrow_by k members = members

abbrev mutual
  pub has_handle : Shape → Bool
  has_handle (s_plain p) = is_handle p
  has_handle (s_node k ms) = handle_by k (have_handle ms)

  pub have_handle : Members → Bool
  have_handle no_members = false
  have_handle (bare n ms) = have_handle ms
  have_handle (typed n s ms) = has_handle s || have_handle ms

abbrev mutual
  pub has_borrow : Shape → Bool
  has_borrow (s_plain p) = is_borrow p
  has_borrow (s_node k ms) = borrow_by k (have_borrow ms)

  pub have_borrow : Members → Bool
  have_borrow no_members = false
  have_borrow (bare n ms) = have_borrow ms
  have_borrow (typed n s ms) = has_borrow s || have_borrow ms

-- One of several types holds a handle.
abbrev pub any_handle : List Shape → Bool
any_handle [] = false
any_handle (s ∷ ss) = has_handle s || any_handle ss
