use Rattle.std.proofs.Common.{◌≡◌, sym, subst}
use Rattle.fact_emit.specs.Imports.{AreOnce}
use Rattle.fact_emit.specs.States.{ModuleSoFar, nothing_so_far}
use Rattle.fact_emit.proofs.HelperLaws.{nothing-indexed}
use Rattle.fact_emit.proofs.Once.{once_nothing}
use Rattle.fact_emit.proofs.sections.ModuleSections.new.Goals as goal

pub invariant_of-result : goal.invariant_of-result
invariant_of-result c =
    let empty : ◌≡◌ {A = ModuleSoFar} (record { types = c.new.result; section = c.new-6.result; imports = c.new-9.result; functions = c.new-7.result; exports = c.new-8.result; callees = c.new-10.result; helpers = c.new-11.result.entries; numbered = 0 }) nothing_so_far =
    λ k. record { types = c.new.ensures k; section = c.new-6.ensures k; imports = c.new-9.ensures k; functions = c.new-7.ensures k; exports = c.new-8.ensures k; callees = c.new-10.ensures k; helpers = c.new-11.ensures.empty k; numbered = 0 } in
    nothing-indexed _ empty _ _ _ c.new-2.ensures c.new-3.ensures c.new-4.ensures

pub returns-clause-once : goal.returns-clause-once
returns-clause-once c =
    let empty : ◌≡◌ {A = ModuleSoFar} (record { types = c.new.result; section = c.new-6.result; imports = c.new-9.result; functions = c.new-7.result; exports = c.new-8.result; callees = c.new-10.result; helpers = c.new-11.result.entries; numbered = 0 }) nothing_so_far =
    λ k. record { types = c.new.ensures k; section = c.new-6.ensures k; imports = c.new-9.ensures k; functions = c.new-7.ensures k; exports = c.new-8.ensures k; callees = c.new-10.ensures k; helpers = c.new-11.ensures.empty k; numbered = 0 } in
    subst AreOnce (sym empty) once_nothing
