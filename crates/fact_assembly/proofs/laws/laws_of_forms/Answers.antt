use Rattle.fact_assembly.proofs.Passed.{passed_are_sound, sound_are_checked}
use Rattle.fact_assembly.proofs.PlanPassed.{faultless_have_passed, plan_sides_are_valid}
use Rattle.fact_assembly.proofs.Telling.{known_tell_memories}
use Rattle.fact_assembly.proofs.Uses.{passed_are_used_alike}
use Rattle.fact_assembly.proofs.Written.{sound_are_writable}
use Rattle.fact_assembly.proofs.laws.laws_of_forms.Goals as goal

pub returns : goal.returns
returns c = record {
  plan_sides_are_valid = plan_sides_are_valid;
  faultless_have_passed = faultless_have_passed;
  passed_are_sound = passed_are_sound;
  passed_are_used_alike = passed_are_used_alike;
  sound_are_checked = sound_are_checked;
  known_tell_memories = known_tell_memories;
  sound_are_writable = sound_are_writable;
}
