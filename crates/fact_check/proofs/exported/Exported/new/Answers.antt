use Rattle.std.proofs.Common.{[], sym, subst}
use Rattle.fact_wasm.specs.declared.instr.FuncName.TheVariants as func
use Rattle.fact_check.specs.Sections.{AreMarks}
use Rattle.fact_check.proofs.Exports.{unmarked}
use Rattle.fact_check.proofs.exported.Exported.new.Goals as goal

pub returns : goal.returns
returns c = record {
  of_imports = subst (λ ms. AreMarks ms func.Import c.args.imports []) (sym c.in_ok-imports.ensures) (unmarked func.Import c.args.imports);
  of_defined = subst (λ ms. AreMarks ms func.Defined c.args.defined []) (sym c.in_ok-defined.ensures) (unmarked func.Defined c.args.defined);
}
