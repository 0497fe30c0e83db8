use Rattle.fact_emit.proofs.SidesImported.{sides_on}
use Rattle.fact_emit.proofs.StringTexts.{wrote_string}
use Rattle.fact_emit.proofs.strings.move_string_by.Goals as goal

pub put_encoded-requires : goal.put_encoded-requires
put_encoded-requires c = record { sides = sides_on c.requires.sides c.in_ok-read_pair.ensures.grew }

pub returns : goal.returns
returns c = wrote_string c.in_ok-read_pair.ensures c.in_ok-put_encoded.ensures c.in_ok-write_pair.ensures
