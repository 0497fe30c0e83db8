-- What adapters that the checks let pass have for the code that is written for them.
use Rattle.std.proofs.Common.{◌≡◌, Option, Some, None, refl, sym, ◌∙◌}
use Rattle.fact_types.specs.Adapters.{LinkedAdapter, Side}
use Rattle.fact_types.specs.declared.outside.CoreDef.{CoreDef}
use Rattle.fact_types.specs.declared.outside.MemoryOption.{MemoryOption}
use Rattle.fact_actions.specs.Sides.{LiftLowerOptions, options_of}
use Rattle.fact_action_laws.specs.MoveTerms.{HasRealloc}
use Rattle.fact_action_laws.specs.Places.{HasSideMemory}
use Rattle.fact_action_laws.proofs.Grounding.{members_have_pointers}
use Rattle.fact_compound.specs.Placed.{HasMemoriesFor, HasMemoryOption, HasReallocOption}
use Rattle.fact_assembly.specs.Sound.{IsSoundAdapter}
use Rattle.fact_assembly.specs.Writable.{SoundAreWritable}
use Rattle.fact_assembly.proofs.Moving.{counted_from, tuple_moves}

-- ---- memories and reallocs

memory_there : (o : LiftLowerOptions) (m : Option MemoryOption) → HasSideMemory (record o { memory = m }) → (n : MemoryOption) × (m ≡ Some n)
memory_there o None h = absurd h
memory_there o (Some n) h = (n, refl)

realloc_there : (o : LiftLowerOptions) (r : Option CoreDef) → HasRealloc (record o { realloc = r }) → (f : CoreDef) × (r ≡ Some f)
realloc_there o None h = absurd h
realloc_there o (Some f) h = (f, refl)

memory_of : (s : Side) → HasSideMemory (options_of s) → HasMemoryOption s
memory_of s h = memory_there (options_of s) s.memory h

realloc_of : (s : Side) → HasRealloc (options_of s) → HasReallocOption s
realloc_of s h = realloc_there (options_of s) s.realloc h

-- Each side has the memories and reallocs that its values are moved through.
memories_for : (a : LinkedAdapter) → IsSoundAdapter a → HasMemoriesFor a
memories_for a h = record {
  lift_results = λ none. memory_of a.lift (h.results_behind none);
  lower_results = λ none. memory_of a.lower (h.results_into none);
  lower_params = λ none. memory_of a.lower (h.params_behind none);
  lift_params = λ none. let can = h.params_into none in (memory_of a.lift can.memory, realloc_of a.lift can.realloc);
  params_lists = λ some. let has = h.params_supplied (sym (members_have_pointers 0 a.lower.params) ∙ some) in (memory_of a.lower has.from, memory_of a.lift has.to, realloc_of a.lift has.realloc);
  results_lists = λ some. let has = h.results_supplied (sym (members_have_pointers 0 a.lift.results) ∙ some) in (memory_of a.lift has.from, memory_of a.lower has.to, realloc_of a.lower has.realloc);
}

-- ---- adapters

pub sound_are_writable : SoundAreWritable
sound_are_writable a h = record {
  counted = record {
    lower_params = counted_from 0 a.lower.params h.lower_params.valid;
    lower_results = counted_from 0 a.lower.results h.lower_results.valid;
    lift_params = counted_from 0 a.lift.params h.lift_params.valid;
    lift_results = counted_from 0 a.lift.results h.lift_results.valid;
  };
  params = tuple_moves a.lower.params a.lift.params h.params_agree h.lower_params h.lift_params;
  results = tuple_moves a.lift.results a.lower.results h.results_agree h.lift_results h.lower_results;
  memories = memories_for a h;
}
