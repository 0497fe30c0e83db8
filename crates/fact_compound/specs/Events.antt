-- What sync adapters ask for that not every adapter has: the runtime is told of the call, the context that the callee leaves is kept for its
-- post-return, and what is thrown becomes a trap.
use Rattle.std.specs.Prelude.{◌≡◌, Bool, not, ◌&&◌, ◌||◌, List, is_some}
use Rattle.std.specs.List.{list_any}
use Rattle.fact_types.specs.Adapters.{LinkedAdapter}
use Rattle.fact_types.specs.Functions.{HasSignature}
use Rattle.fact_types.specs.Handles.{has_borrow}
use Rattle.fact_types.specs.Shapes.{Shape}
use Rattle.fact_types.specs.Tables.{Tables}
use Rattle.fact_actions.specs.Adapters.{AdapterTunables, enters}
use Rattle.fact_compound.specs.declared.adapters.AdapterData.{AdapterData}
use Rattle.fact_compound.specs.declared.syncs.CallOptions.{CallOptions}

-- Whether the slots of the context are saved around calls of realloc, whether the runtime is told of the adapter's calls, whether the
-- context is kept for its post-return, and whether what is thrown becomes a trap.
pub record AreCallOptions (o : CallOptions) (u : AdapterTunables) (a : LinkedAdapter) : Type 0 where
  pub concurrency : o.concurrency ≡ u.concurrency
  pub told : o.told ≡ enters u a
  pub context : o.context ≡ (u.concurrency && is_some a.lift.post_return)
  pub barrier : o.barrier ≡ u.exceptions

-- What an adapter asks for by its data, where the tunables are these: the runtime is told of it with concurrency on unless it has the
-- mark as transparent, and where its parameters lend.
pub record AsksCalls (t : Tables) (d : AdapterData) (concurrency exceptions : Bool) (o : CallOptions) : Type 0 where
  pub same_concurrency : o.concurrency ≡ concurrency
  pub told : (ps rs : List Shape) → HasSignature t d.lower.ty ps rs → o.told ≡ ((concurrency && not d.transparent) || list_any has_borrow ps)
  pub context : o.context ≡ (concurrency && is_some d.lift.post_return)
  pub barrier : o.barrier ≡ exceptions

-- the tunables have these switches
pub record AreSetTo (concurrency exceptions : Bool) (u : AdapterTunables) : Type 0 where
  pub concurrency_is : u.concurrency ≡ concurrency
  pub exceptions_are : u.exceptions ≡ exceptions
