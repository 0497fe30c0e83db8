use Rattle.std.proofs.Common.{ℕ, ap, sym, subst}
use Rattle.fact_emit.specs.ImportSection.{Callee}
use Rattle.fact_emit.specs.DefImports.{IsDefImported}
use Rattle.fact_emit.proofs.ImportLaws.{extended_on}
use Rattle.fact_emit.proofs.SidesImported.{memory_later, realloc_later}
use Rattle.fact_assembly.proofs.ImportingLaws.{adapter-imported, function-below, options-wide}
use Rattle.fact_assembly.proofs.importing.import_adapter.Goals as goal

pub returns-clause-imported : goal.returns-clause-imported
returns-clause-imported c a is =
    let callee = subst (λ (n : ℕ). IsDefImported c.import_side-2.new.sections c.callee.new.self (Callee c.args.candidate.now.name.now c.index-core_type.result.now) c.args.candidate.now.adapter.now.func n) (sym (ap (λ i. i.number) c.from_u32.ensures)) c.in_ok-callee.ensures.imported in
    adapter-imported is _ c.index-core_type.result.now c.index-core_type.ensures c.in_ok-lift.ensures.imported c.in_ok-lower.ensures.imported callee (rw c.as_slice.ensures at c.in_ok-lift-2.ensures.imported)

pub returns-clause-callee : goal.returns-clause-callee
returns-clause-callee c =
    let callee = subst (λ (n : ℕ). IsDefImported c.import_side-2.new.sections c.callee.new.self (Callee c.args.candidate.now.name.now c.index-core_type.result.now) c.args.candidate.now.adapter.now.func n) (sym (ap (λ i. i.number) c.from_u32.ensures)) c.in_ok-callee.ensures.imported in
    function-below c.args.candidate.now.name.now c.index-core_type.result.now callee c.import_post_return.ensures.keeps

pub returns-clause-options : goal.returns-clause-options
returns-clause-options c =
    let behind = extended_on c.in_ok-callee.ensures.keeps c.import_post_return.ensures.keeps in
    let before = extended_on c.in_ok-lower.ensures.keeps behind in
    record {
      lift = realloc_later before c.in_ok-lift.ensures.realloc;
      lower = realloc_later behind c.in_ok-lower.ensures.realloc;
      lift_memory = memory_later before c.in_ok-lift.ensures.memory;
      lower_memory = memory_later behind c.in_ok-lower.ensures.memory;
      wide = options-wide c.requires.importable _ c.in_ok-lift.ensures.described.memory64 c.in_ok-lower.ensures.described.memory64 (returns-clause-imported c);
    }

pub returns-clause-keeps : goal.returns-clause-keeps
returns-clause-keeps c = extended_on c.in_ok-lift.ensures.keeps (extended_on c.in_ok-lower.ensures.keeps (extended_on c.in_ok-callee.ensures.keeps c.import_post_return.ensures.keeps))
