-- What the options of both sides of an adapter name is imported, for moves in both directions and in every later module.
use Rattle.std.proofs.Common.{◌≡◌, ◌<◌, Bool, Option, Some, None, ap, arith, length, length-append, sym, subst}
use Rattle.std.specs.Prelude.{IfSome}
use Rattle.fact_entity.specs.declared.id.Id.{Id}
use Rattle.fact_entity.specs.declared.table.Funcs.{Funcs}
use Rattle.fact_types.specs.Tables.{Tables}
use Rattle.fact_emit.specs.Imports.{Extended}
use Rattle.fact_emit.specs.States.{ModuleSoFar, functions_of}
use Rattle.fact_emit.specs.StringPieces.{AreSidesImported}
use Rattle.fact_emit.proofs.SidesImported.{memory_later, realloc_later, wide_later}
use Rattle.fact_compound.specs.Described.{AreOptionsImported, CanBeCompiled}
use Rattle.fact_compound.specs.Passed.{params_sides, results_sides}
use Rattle.fact_compound.specs.declared.adapters.AdapterData.{AdapterData}

pub options_later : {d : AdapterData} {s s' : ModuleSoFar} → Extended s s' → AreOptionsImported d s → AreOptionsImported d s'
options_later x h = record {
  lift = realloc_later x h.lift;
  lower = realloc_later x h.lower;
  lift_memory = memory_later x h.lift_memory;
  lower_memory = memory_later x h.lower_memory;
  wide = record { lift = wide_later x h.wide.lift; lower = wide_later x h.wide.lower };
}

pub options_same : {d : AdapterData} {s s' : ModuleSoFar} → s' ≡ s → AreOptionsImported d s → AreOptionsImported d s'
options_same {d} e h = subst (AreOptionsImported d) (sym e) h

pub params_imported : {d : AdapterData} {debug concurrency : Bool} {s : ModuleSoFar} → AreOptionsImported d s → AreSidesImported (params_sides d debug concurrency) s
params_imported h = record { realloc = h.lift; from_memory = h.lower_memory; to_memory = h.lift_memory; from_wide = h.wide.lower; to_wide = h.wide.lift }

pub results_imported : {d : AdapterData} {debug concurrency : Bool} {s : ModuleSoFar} → AreOptionsImported d s → AreSidesImported (results_sides d debug concurrency) s
results_imported h = record { realloc = h.lower; from_memory = h.lift_memory; to_memory = h.lower_memory; from_wide = h.wide.lift; to_wide = h.wide.lower }

-- what can be compiled can be in every later module, and where the imports are the same
pub post_there : (o : Option (Id Funcs)) (s s' : ModuleSoFar) → Extended s s' → IfSome o (λ (f : Id Funcs). f.number < length (functions_of s)) → IfSome o (λ (f : Id Funcs). f.number < length (functions_of s'))
post_there None s s' x h = tt
post_there (Some f) s s' x h = omega (arith, h, ap length x.functions.is, length-append (functions_of s) x.functions.more)

pub can_later : {t : Tables} {d : AdapterData} {s s' : ModuleSoFar} → Extended s s' → CanBeCompiled t d s → CanBeCompiled t d s'
can_later {d = d} {s} {s'} x h = record {
  lower_live = h.lower_live;
  lift_live = h.lift_live;
  callee = omega (arith, h.callee, ap length x.functions.is, length-append (functions_of s) x.functions.more);
  options_imported = options_later x h.options_imported;
  post_return = post_there d.lift.post_return s s' x h.post_return;
}

pub can_same : {t : Tables} {d : AdapterData} {s s' : ModuleSoFar} → s' ≡ s → CanBeCompiled t d s → CanBeCompiled t d s'
can_same {t} {d} e h = subst (CanBeCompiled t d) (sym e) h
