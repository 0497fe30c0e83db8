-- Signatures of given values; a function has as many results as shapes of them.
use Rattle.std.proofs.Common.{◌≡◌, Bool, List, [], ◌∷◌, refl}
use Rattle.fact_wasm.specs.declared.types.ValType.{ValType}
use Rattle.fact_types.specs.declared.interface.InterfaceType.{InterfaceType}
use Rattle.fact_types.specs.declared.signature.Signature.{Signature}
use Rattle.fact_types.specs.Functions.{HaveShapes}
use Rattle.fact_types.specs.Shapes.{Shape}
use Rattle.fact_types.specs.Signatures.{return_pointer}
use Rattle.fact_types.specs.Tables.{Tables}
use Rattle.fact_builder.specs.Pointers.{pointer_where_any}

abbrev pub signature : List ValType → List ValType → Signature
signature ps rs = record { params = ps; results = rs }

pub same_pointer : (t : Tables) (memory64 : Bool) (tys : List InterfaceType) (ss : List Shape) → HaveShapes t tys ss → pointer_where_any memory64 tys ≡ return_pointer memory64 ss
same_pointer t memory64 [] [] h = refl
same_pointer t memory64 [] (s ∷ ss) h = absurd h
same_pointer t memory64 (ty ∷ tys) [] h = absurd h
same_pointer t memory64 (ty ∷ tys) (s ∷ ss) h = refl
