-- What a module that is being made is made with.
use Rattle.std.specs.Prelude.{◌≡◌}
use Rattle.fact_compound.specs.declared.state.ModuleState.{ModuleState}

-- At most its sections changed.
pub record OnlySectionsChanged (old new : ModuleState) : Type 0 where
  pub builder : new.builder.now ≡ old.builder.now
  pub tunables : new.tunables.now ≡ old.tunables.now
  pub features : new.features ≡ old.features
