-- The imports of a module that is being made, as those of core definitions that adapters mention.
use Rattle.std.specs.Prelude.{◌≡◌, ◌≢◌, ℕ, List, [], ◌∷◌, AllPairs, filter, map}
use Rattle.std.specs.List.{filter_map}
use Rattle.fact_types.specs.Adapters.{LinkedAdapter}
use Rattle.fact_emit.specs.ImportSection.{AreNamed, AreTaskCallsNamed, AreTranscodersNamed, Mention, def_of, is_made_once}
use Rattle.fact_emit.specs.DefImports.{IsDefImported}
use Rattle.fact_emit.specs.States.{ModuleSoFar}

-- Its imports have the names and types of what they are, each once, the core definitions among them are those of these mentions, the calls by
-- which async adapters hand their calls to the runtime are those of these adapters, and no type stands twice.
pub record ListsMentions (s : ModuleSoFar) (ms : List Mention) (adapters : List LinkedAdapter) : Type 0 where
  pub defs : filter_map def_of s.imports ≡ map (λ r. r.def) ms
  pub named : AreNamed s.types ms [] s.section s.imports
  pub transcoders : AreTranscodersNamed s.types s.section s.imports
  pub task_calls : AreTaskCallsNamed s.types adapters s.section s.imports
  pub once : AllPairs (λ i j. i ≢ j) (filter is_made_once s.imports)
  pub signatures : AllPairs (λ t u. t ≢ u) s.types

-- The core definitions of these mentions are imported one after another, each where it was not imported before.
abbrev pub AreImportedInTurn : (old new : ModuleSoFar) → List Mention → Type 0
AreImportedInTurn old new [] = new ≡ old
AreImportedInTurn old new (r ∷ rs) = (next : ModuleSoFar) × (place : ℕ) × IsDefImported old next r.role r.def place × AreImportedInTurn next new rs
