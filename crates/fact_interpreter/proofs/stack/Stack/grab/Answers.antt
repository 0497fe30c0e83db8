use Rattle.std.proofs.Common.{◌≡◌, length, ap, sym, ◌∙◌, arith}
use Rattle.std.proofs.lemmas.List.{length-reverse}
use Rattle.fact_interpreter.proofs.Cuts.{cut_none, cut_some}
use Rattle.fact_interpreter.proofs.stack.Stack.grab.Goals as goal

pub returns-then-len-count : goal.returns-then-len-count
returns-then-len-count c =
    let items = c.self.inside.items in
    let len : length c.args.self.now ≡ c.len-len.result = ap length (sym c.self.view_is) ∙ length-reverse items.items ∙ sym items.ok.0 ∙ sym c.len-len.ensures in
    cut_none c.args.count c.args.self.now c.args.self.now (omega arith)

pub returns : goal.returns
returns c =
    let items = c.self.inside.items in
    let len : length items.items ≡ c.len-len.result = sym items.ok.0 ∙ sym c.len-len.ensures in
    rw (← c.self.view_is) (cut_some c.args.count items.items c.in_ok-items.items.items c.split_off.new.self.items (omega arith) (rw len c.in_ok-items.ensures.tail) (rw len c.in_ok-items.ensures.items))
