-- Functions of the tables, with the shapes of their parameters and results.
use Rattle.std.specs.Prelude.{◌≡◌, List, [], ◌∷◌, Some, slice_get}
use Rattle.fact_entity.specs.declared.id.Id.{Id}
use Rattle.fact_entity.specs.declared.table.TypeFuncs.{TypeFuncs}
use Rattle.fact_types.specs.declared.interface.InterfaceType.{InterfaceType}
use Rattle.fact_types.specs.declared.kinds.TypeFunc.{TypeFunc}
use Rattle.fact_types.specs.declared.kinds.TypeTuple.{TypeTuple}
use Rattle.fact_types.specs.Shapes.{Shape}
use Rattle.fact_types.specs.Tables.{Tables, HasShape}

-- Types stand for shapes, one by one.
abbrev pub HaveShapes : Tables → List InterfaceType → List Shape → Type 0
HaveShapes t [] [] = Unit {0}
HaveShapes t [] (s ∷ ss) = ⊥
HaveShapes t (x ∷ xs) [] = ⊥
HaveShapes t (x ∷ xs) (s ∷ ss) = HasShape t x s × HaveShapes t xs ss

-- The function of an index has parameters and results of these shapes.
pub record HasSignature (t : Tables) (i : Id TypeFuncs) (params results : List Shape) : Type 0 where
  pub func : TypeFunc
  pub func_there : slice_get t.functions i.number ≡ Some func
  pub taken : TypeTuple
  pub taken_there : slice_get t.tuples func.params.number ≡ Some taken
  pub takes : HaveShapes t taken.types params
  pub given : TypeTuple
  pub given_there : slice_get t.tuples func.results.number ≡ Some given
  pub gives : HaveShapes t given.types results
