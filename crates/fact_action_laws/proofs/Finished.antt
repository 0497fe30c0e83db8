-- Adapters move texts, and so whole runs of theirs are faithful.
use Rattle.fact_action_laws.specs.FaithfulLaws.{setting_of_params, setting_of_results, quiet}
use Rattle.fact_action_laws.proofs.FaithfulRuns.{runs_are_faithful, runs_weigh}
use Rattle.fact_action_laws.specs.AdapterValueLaws.{TextsAreMoved, TextsMoveInAdapters, AdaptersAreFaithful, AdaptersWeigh}
use Rattle.fact_action_laws.proofs.ForTypes.{texts}

pub texts_are_moved : TextsAreMoved
texts_are_moved c g from to = texts c g from to

pub texts_move : TextsMoveInAdapters
texts_move p u a k = record {
  params = λ source g. texts (setting_of_params p (quiet u) a source) g k.lower_memory k.lift_memory;
  results = λ area source g. texts (setting_of_results p (quiet u) a area source) g k.lift_memory k.lower_memory;
}

pub adapters_are_faithful : AdaptersAreFaithful
adapters_are_faithful p u a args w k sync honest = runs_are_faithful p u a args w k sync (texts_move p u a k) honest

pub adapters_weigh : AdaptersWeigh
adapters_weigh p u a args w k sync honest = runs_weigh p u a args w k sync (texts_move p u a k) honest
