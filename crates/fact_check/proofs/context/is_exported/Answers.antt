use Rattle.std.proofs.Common.{◌≡◌, true, sym, ap, ◌∙◌, subst}
use Rattle.std.specs.Prelude.{is_some}
use Rattle.fact_wasm.specs.declared.instr.FuncName.TheVariants as func
use Rattle.fact_machine.specs.Typing.{function_type, is_exported}
use Rattle.fact_check.proofs.Exports.{marked, import_within, defined_within}
use Rattle.fact_check.proofs.context.is_exported.Goals as goal

pub returns-in-Import : goal.returns-in-Import
returns-in-Import c =
    let M = c.args.context.now.module.now in
    let n = c.in-Import.n in
    c.is_marked.ensures ∙ marked _ func.Import _ n M.exports c.requires.context.exported.of_imports (import_within M n (subst (λ f. is_some (function_type M f) ≡ true) c.in-Import.is c.requires.there)) ∙ ap (λ f. is_exported f M.exports) (sym c.in-Import.is)

pub returns-in-Defined : goal.returns-in-Defined
returns-in-Defined c =
    let M = c.args.context.now.module.now in
    let n = c.in-Defined.n in
    c.is_marked-in-Defined.ensures ∙ marked _ func.Defined _ n M.exports c.requires.context.exported.of_defined (defined_within M n (subst (λ f. is_some (function_type M f) ≡ true) c.in-Defined.is c.requires.there)) ∙ ap (λ f. is_exported f M.exports) (sym c.in-Defined.is)
