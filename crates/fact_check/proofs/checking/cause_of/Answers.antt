use Rattle.std.proofs.Common.{ℕ, length, subst}
use Rattle.std.specs.Prelude.{MatchOption}
use Rattle.fact_check.specs.Accepted.{AreAdapterImports, AreTypedFunctions, IsFirstForeign, IsFirstIllTyped, IsFirstRepeated, IsRepeatedExport}
use Rattle.fact_check.specs.Sections.{IsSectionOf}
use Rattle.fact_check.proofs.checking.cause_of.Goals as goal

pub returns : goal.returns
returns c =
    let m = c.args.module.now in
    let imports : AreAdapterImports m (length m.imports) × IsSectionOf c.first_foreign.new.section m.imports =
    subst (λ o. MatchOption o (AreAdapterImports m (length m.imports) × IsSectionOf c.first_foreign.new.section m.imports) (IsFirstForeign m)) c.in_default.is c.in_ok-place.ensures
    in
    let functions : AreTypedFunctions m (length m.funcs) = subst (λ o. MatchOption o (AreTypedFunctions m (length m.funcs)) (IsFirstIllTyped m)) c.in_default-2.is c.in_ok-place-2.ensures in
    let exports : (n : ℕ) → IsRepeatedExport c.as_slice.result.now n → ⊥ = subst (λ o. MatchOption o ((n : ℕ) → IsRepeatedExport c.as_slice.result.now n → ⊥) (IsFirstRepeated c.as_slice.result.now)) c.in_default-3.is c.in_ok-place-3.ensures in
    record { imports = imports.0; functions = functions; exports = subst (λ es. (n : ℕ) → IsRepeatedExport es n → ⊥) c.as_slice.ensures exports }
