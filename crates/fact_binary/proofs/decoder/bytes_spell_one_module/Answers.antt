use Rattle.fact_binary.proofs.OneModule.{in_range_one}
use Rattle.fact_binary.proofs.decoder.bytes_spell_one_module.Goals as goal

pub returns : goal.returns
returns c = in_range_one
