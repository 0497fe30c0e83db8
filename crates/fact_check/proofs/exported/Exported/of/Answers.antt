use Rattle.std.proofs.Common.{◌≡◌, Some, refl, subst, length, take, slice_get}
use Rattle.std.proofs.lemmas.Option.{slice_get_read}
use Rattle.fact_check.specs.Sections.{IsExportedOf}
use Rattle.fact_check.proofs.Loops.{took}
use Rattle.fact_check.proofs.exported.Exported.of.Goals as goal

pub loop-export-preserved : goal.loop-export-preserved
loop-export-preserved c =
    let es = c.args.exports.now in
    let i = c.loop-export.export-index in
    let e = c.export-item.result in
    let there : slice_get es i ≡ Some e = slice_get_read es (length es) i e refl c.loop-export-test.true c.export-item.is in
    subst (IsExportedOf c.add.new.self c.args.imports c.args.defined) (took es i e there) (c.add.ensures c.args.imports c.args.defined (take i es) c.loop-export.invariant)
