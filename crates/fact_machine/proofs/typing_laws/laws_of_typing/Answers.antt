use Rattle.std.proofs.Common.{refl}
use Rattle.fact_machine.proofs.TypingRows.{sequence_is}
use Rattle.fact_machine.proofs.TypingFrames.{code_framed, below_kept, outside_kept}
use Rattle.fact_machine.proofs.typing_laws.laws_of_typing.Goals as goal

pub returns : goal.returns
returns c = record {
  nothing_is_typed = λ G s. refl;
  sequence_is_typed = sequence_is;
  frame_is_kept = code_framed;
  operands_below = below_kept;
  labels_outside = outside_kept;
}
