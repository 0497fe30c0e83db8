use Rattle.std.proofs.Common.{◌∙◌, ap, subst, sym}
use Rattle.std.proofs.lemmas.Result.{on_ok_weaker}
use Rattle.fact_host.specs.Begun.{AreMade, first_length}
use Rattle.fact_host.proofs.FirstLoops.{made_function, made_global, made_memory}
use Rattle.fact_host.proofs.beginning.add_first.Goals as goal

pub returns-in-Func : goal.returns-in-Func
returns-in-Func c = λ imports i j w next lt is ty made. made_function c.args.call.now imports i j next w lt is c.args.memories.now c.args.globals.now _ (ty ∙ c.in-Func.is) made

pub returns-in_ok-bytes-in-Memory : goal.returns-in_ok-bytes-in-Memory
returns-in_ok-bytes-in-Memory c =
    on_ok_weaker c.push.result
    (λ pushed. λ imports i j w next lt is ty made.
    subst (λ ms. AreMade c.args.call.now imports j ms c.args.globals.now) (sym pushed)
    (made_memory c.args.call.now imports i j next w lt is c.args.memories.now c.args.globals.now _ _ _ c.in_ok-bytes-in-Memory.bytes (ty ∙ c.in-Memory.is) (c.in_ok-bytes-in-Memory.ensures.length ∙ ap (first_length c.args.call.now) c.len.ensures) c.in_ok-bytes-in-Memory.ensures.zeros made))
    c.push.ensures.ok

pub returns-in-Global : goal.returns-in-Global
returns-in-Global c =
    on_ok_weaker c.push-in-Global.result
    (λ pushed. λ imports i j w next lt is ty made.
    subst (λ gs. AreMade c.args.call.now imports j c.args.memories.now gs) (sym pushed)
    (made_global c.args.call.now imports i j next w lt is c.args.memories.now c.args.globals.now c.in-Global.ty _ c.first_value.result (ty ∙ c.in-Global.is) c.first_value.ensures made))
    c.push-in-Global.ensures.ok
