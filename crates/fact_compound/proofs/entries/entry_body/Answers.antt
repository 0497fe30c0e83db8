use Rattle.std.proofs.Common.{List, [], ◌∷◌, ◌++◌, ap, ◌∙◌}
use Rattle.fact_wasm.specs.declared.instr.FuncName.TheVariants as func
use Rattle.fact_wasm.specs.declared.instr.Instr.{Instr}
use Rattle.fact_wasm.specs.declared.instr.Instr.TheVariants as I
use Rattle.fact_compound.specs.Entries.{arguments_code, constants_code}
use Rattle.fact_compound.proofs.EntryFunctions.{entry_joined}
use Rattle.fact_compound.proofs.entries.entry_body.Goals as goal

pub returns : goal.returns
returns c =
    let e = c.args.places in
    let told : List Instr = constants_code c.args.told.now in
    let arguments : List Instr = arguments_code 0 c.args.params in
    let started : List Instr = constants_code c.args.started.now in
    let a : Instr = I.RefFunc (func.Defined e.start) in
    let b : Instr = I.RefFunc (func.Defined e.return_) in
    let p : Instr = I.Call (func.Import e.prepare_call) in
    let r : Instr = I.RefFunc (func.Import e.callee) in
    let s : Instr = I.Call (func.Import e.start_call) in
    c.from_vec.ensures ∙ c.in_ok-push-5.ensures.items ∙ ap (λ k. k ++ s ∷ []) (c.in_ok-push_constants-2.ensures ∙ ap (λ k. k ++ started) (c.in_ok-push-4.ensures.items ∙ ap (λ k. k ++ r ∷ []) (c.in_ok-push-3.ensures.items
    ∙ ap (λ k. k ++ p ∷ []) (c.in_ok-push_arguments.ensures ∙ ap (λ k. k ++ arguments) (c.in_ok-push_constants.ensures ∙ ap (λ k. k ++ told) (c.in_ok-push-2.ensures.items ∙ ap (λ k. k ++ b ∷ []) (c.in_ok-push.ensures.items ∙ ap (λ k. k ++ a ∷ []) c.new-code.ensures.items)))))))
    ∙ entry_joined a b told arguments p r started s
