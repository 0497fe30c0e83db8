use Rattle.std.proofs.Common.{[], ◌∷◌, ◌++◌, sym, subst}
use Rattle.fact_check.specs.Sections.{IsExportedOf}
use Rattle.fact_check.proofs.Exports.{import_exported, defined_exported}
use Rattle.fact_check.proofs.exported.Exported.add.Goals as goal

pub returns-in-Import : goal.returns-in-Import
returns-in-Import c imports defined before h =
    subst (λ ms. IsExportedOf (record { imports = ms; defined = c.args.self.now.defined }) imports defined (before ++ c.args.export.now ∷ [])) (sym c.mark.ensures)
    (import_exported c.args.self.now imports defined c.in-Import.n before c.args.export.now h c.in-Import.is)

pub returns-in-Defined : goal.returns-in-Defined
returns-in-Defined c imports defined before h =
    subst (λ ms. IsExportedOf (record { imports = c.args.self.now.imports; defined = ms }) imports defined (before ++ c.args.export.now ∷ [])) (sym c.mark-in-Defined.ensures)
    (defined_exported c.args.self.now imports defined c.in-Defined.n before c.args.export.now h c.in-Defined.is)
