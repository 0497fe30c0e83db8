use Rattle.std.proofs.Common.{◌∙◌, ◌++◌, ◌∷◌, [], sym, ap, append_assoc, append-nil}
use Rattle.fact_kinds.specs.declared.sums.PairedCase.{PairedCase}
use Rattle.fact_kinds.specs.Sums.{paired_cases}
use Rattle.fact_kinds.proofs.sums.pair_cases.Goals as goal

pub loop-name-preserved : goal.loop-name-preserved
loop-name-preserved c =
    let so_far = c.loop-name.cases.items in
    let next = paired_cases c.next.new.self c.args.to.now.entries in
    let pair : PairedCase = record { payload = c.in-Some.payload.now; found = c.in_ok-found.found } in
    ap (λ cs. cs ++ next) c.in_ok-push.ensures.items ∙ append_assoc so_far (pair ∷ []) next ∙ ap (λ f. so_far ++ record { payload = c.in-Some.payload.now; found = f } ∷ next) c.in_ok-found.ensures
    ∙ ap (λ ns. so_far ++ paired_cases ns c.args.to.now.entries) (sym c.in-Some.ensures.steps) ∙ c.loop-name.invariant

pub returns : goal.returns
returns c = sym (append-nil c.loop-name.cases.items) ∙ ap (λ ns. c.loop-name.cases.items ++ paired_cases ns c.args.to.now.entries) (sym c.in-None.ensures.steps.0) ∙ c.loop-name.invariant
