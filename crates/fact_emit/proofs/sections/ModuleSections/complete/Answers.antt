use Rattle.std.proofs.Common.{◌++◌, ap, ◌∙◌}
use Rattle.std.proofs.lemmas.Result.{on_ok_weaker}
use Rattle.fact_emit.specs.States.{ModuleSoFar}
use Rattle.fact_emit.proofs.sections.ModuleSections.complete.Goals as goal

pub returns : goal.returns
returns c =
    let m = c.args.«module».now in
    let s : ModuleSoFar = c.args.self.now in
    on_ok_weaker c.add_exports.result
    (λ added i. record m {
      types = (c.replace.ensures.after ∙ c.in_ok-types.ensures ∙ ap (λ (t : ModuleSoFar). t.types) c.self.view_is) i;
      exports = (added ∙ ap (λ es. m.exports ++ es) (c.as_slice.ensures ∙ ap (λ (t : ModuleSoFar). t.callees) c.self.view_is)) i;
    })
    c.add_exports.ensures
