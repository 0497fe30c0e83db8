-- Cited by private clauses alone.
-- The pointer to results.
use Rattle.std.specs.Prelude.{Bool, false, List, [], ◌∷◌, ◌++◌}
use Rattle.fact_wasm.specs.declared.types.ValType.{ValType}
use Rattle.fact_types.specs.declared.signature.Signature.{Signature}
use Rattle.fact_types.specs.Shapes.{Shape}
use Rattle.fact_types.specs.Signatures.{address, lower_pointer, lower_results}

-- A pointer where there is anything to point at.
abbrev pub pointer_where_any : {X : Type 0} → Bool → List X → List ValType
pointer_where_any memory64 [] = []
pointer_where_any memory64 (x ∷ xs) = address memory64 ∷ []

-- Core parameters, and behind them the return pointer of a sync side that lowers results of these types, where it has one; and its
-- flat results.
abbrev pub with_results : List ValType → Bool → List Shape → Signature
with_results params memory64 rs = record { params = params ++ lower_pointer false memory64 rs; results = lower_results false memory64 rs }
