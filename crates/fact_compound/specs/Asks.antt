-- The helpers that the code of adapters asks for, and modules that have them.
use Rattle.std.specs.Prelude.{◌≡◌, ℕ, suc, ◌+◌, ◌<◌, ◌≤◌, Bool, List, [], ◌∷◌, ◌++◌, length, map}
use Rattle.std.specs.List.{AllByRecursion, Contains}
use Rattle.fact_wasm.specs.declared.module.WasmModule.{WasmModule}
use Rattle.fact_machine.specs.Trace.{Grows}
use Rattle.fact_types.specs.Tables.{Tables, IsLive}
use Rattle.fact_actions.specs.Running.{ImportPlaces}
use Rattle.fact_emit.specs.declared.helpers.Helper.{Helper}
use Rattle.fact_emit.specs.Asked.{AskedHelper, entry_of}
use Rattle.fact_emit.specs.Imports.{Serves}
use Rattle.fact_emit.specs.States.{ModuleSoFar, next_number}
use Rattle.fact_emit.specs.StringPieces.{AreSidesImported}
use Rattle.fact_emit.specs.Options.{linear_of_options}
use Rattle.fact_emit.specs.declared.places.Sides.{Sides}

-- the sides that a helper moves values between
abbrev pub sides_between : Helper → (debug concurrency : Bool) → Sides
sides_between k debug concurrency = record { from = linear_of_options k.src.opts; to = linear_of_options k.dst.opts; debug = debug; concurrency = concurrency }

-- A helper can be written: its types are live, and what its code calls and names is imported.
pub record CanBeWritten (t : Tables) (debug concurrency : Bool) (s : ModuleSoFar) (k : Helper) : Type 0 where
  pub from_live : IsLive t k.src.ty
  pub to_live : IsLive t k.dst.ty
  pub imported : AreSidesImported (sides_between k debug concurrency) s

-- helpers whose functions have the numbers from one on
abbrev pub helpers_from : ℕ → List Helper → List (Helper × ℕ)
helpers_from n [] = []
helpers_from n (k ∷ ks) = (k, n) ∷ helpers_from (suc n) ks

-- The helpers that are new in a module have the next numbers, and these are asked for.
pub record AreNewAsked (asks : List AskedHelper) (old new : ModuleSoFar) : Type 0 where
  pub more : List Helper
  pub helpers : new.helpers ≡ old.helpers ++ helpers_from (next_number old) more
  pub next : next_number new ≡ next_number old + length more
  pub asked : (n : ℕ) → next_number old ≤ n → n < next_number new → Contains (map (λ (a : AskedHelper). a.number) asks) n

-- Code over these tables asks for a helper for which the module that is being made has a number.
pub record IsAskedHere (t : Tables) (debug concurrency : Bool) (s : ModuleSoFar) (a : AskedHelper) : Type 0 where
  pub tables : a.tables ≡ t
  pub debug_is : a.debug ≡ debug
  pub concurrency_is : a.concurrency ≡ concurrency
  pub there : Contains s.helpers (entry_of a)
  pub writable : CanBeWritten t debug concurrency s a.key

-- What was written asks for these, and no other helper is new.
pub record AsksFor (t : Tables) (debug concurrency : Bool) (asks : List AskedHelper) (old new : ModuleSoFar) : Type 0 where
  pub asked : AllByRecursion (IsAskedHere t debug concurrency new) asks
  pub new_asked : AreNewAsked asks old new

-- A later module: it has what was imported, and the types and functions behind which its own may stand.
pub record IsLaterModule (M : WasmModule) (p : ImportPlaces) (s : ModuleSoFar) : Type 0 where
  pub serves : Serves M p s
  pub types : Grows s.types M.types
  pub functions : Grows s.functions M.funcs

-- what a module has to have for code that was written
abbrev pub Having : Type 1
Having = WasmModule → ImportPlaces → Type 0
