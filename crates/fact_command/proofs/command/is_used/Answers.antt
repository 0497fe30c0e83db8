use Rattle.std.proofs.Common.{◌∙◌}
use Rattle.clap.specs.Matches.{found_of}
use Rattle.fact_command.proofs.Words.{used}
use Rattle.fact_command.proofs.command.is_used.Goals as goal

pub returns : goal.returns
returns c = c.is_from_words.ensures ∙ used (found_of c.args.matches.now) c.args.name.now c.value_source.result c.value_source.ensures
