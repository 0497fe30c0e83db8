use Rattle.std.proofs.Common.{arith, length-drop}
use Rattle.std.proofs.lemmas.List.{take_rest}
use Rattle.fact_io.proofs.Pieces.{on_err, AppendsFront-kept, Appends-more}
use Rattle.fact_io.proofs.transfers.write_text.Goals as goal

pub returns-in_err-count-clause-part : goal.returns-in_err-count-clause-part
returns-in_err-count-clause-part g c =
    on_err c.from_residual.result (AppendsFront-kept _ _ _ c.args.text.now c.pieces.at c.pieces.invariant.appended c.in_err-count.ensures.bytes)

pub pieces-preserved : goal.pieces-preserved
pieces-preserved g c = record {
  within = omega (arith, c.in_ok-count.ensures.bound, length-drop c.pieces.at c.args.text.now);
  appended = Appends-more _ _ _ c.args.text.now c.pieces.at c.in_ok-count.count c.pieces.invariant.appended (rw (← take_rest c.args.text.now c.pieces.at) c.in_ok-count.ensures.bytes);
  no_fault = omega (arith, c.pieces.invariant.no_fault, c.in_ok-count.ensures.no_fault);
}
