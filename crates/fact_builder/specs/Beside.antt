-- Closures that are told a path of names, with something else beside it.
use Rattle.std.specs.Prelude.{◌≡◌}
use Rattle.std.specs.Borrow.{Bor}
use Rattle.std.specs.Fn.{Mut, Called}

-- A call at a & to the path and one to what stands beside it.
pub record CalledBeside {F A B R : Type 0} (g : Mut F (Bor A × (Bor B × Unit {0})) R) (beside : B) (f : F) (path : A) (r : R) (f' : F) : Type 0 where
  pub first : Bor A
  pub second : Bor B
  pub shows : (first.now ≡ path) × (second.now ≡ beside)
  pub called : Called g f (first, (second, tt)) r f'
