use Rattle.std.proofs.Common.{◌≡◌, ap, arith, length, rules, sym, ◌∙◌}
use Rattle.std.proofs.lemmas.Bool.{eqb-false}
use Rattle.fact_emit.specs.States.{ModuleSoFar}
use Rattle.fact_compound.proofs.CompiledAdapters.{own_in_parts, own_in_sync, own_within}
use Rattle.fact_compound.proofs.OptionsImported.{can_later, options_later}
use Rattle.fact_compound.proofs.functions.compile_own.Goals as goal

pub compile_async-requires-clause-options_imported : goal.compile_async-requires-clause-options_imported
compile_async-requires-clause-options_imported c = options_later c.in_ok-number_functions-2.ensures.keeps c.requires.can.options_imported

pub compile_async-requires-clause-ahead : goal.compile_async-requires-clause-ahead
compile_async-requires-clause-ahead c =
    let is = c.in_ok-number_functions-2.ensures.numbered in
    omega (arith, ap (λ (s : ModuleSoFar). s.numbered) is, ap (λ (s : ModuleSoFar). length s.functions) is)

pub compile_sync-requires-clause-can : goal.compile_sync-requires-clause-can
compile_sync-requires-clause-can c = can_later c.in_ok-number_functions-3.ensures.keeps c.requires.can

pub compile_sync-requires-clause-ahead : goal.compile_sync-requires-clause-ahead
compile_sync-requires-clause-ahead c =
    let is = c.in_ok-number_functions-3.ensures.numbered in
    omega (arith, ap (λ (s : ModuleSoFar). s.numbered) is, ap (λ (s : ModuleSoFar). length s.functions) is)

pub returns-then-eq-clause-own : goal.returns-then-eq-clause-own
returns-then-eq-clause-own c =
    let d = c.args.adapter.now in
    let same : d.lift.instance.number ≡ d.lower.instance.number = search rules in
    own_within same (rw c.in_ok-number_functions.ensures.numbered at c.in_ok-compile_same_instance.ensures)

pub returns-then-is_async-clause-own : goal.returns-then-is_async-clause-own
returns-then-is_async-clause-own c =
    let told = sym c.is_async.ensures ∙ c.if-is_async.true in
    let async = rw c.component_types.ensures at told in
    own_in_parts (eqb-false c.args.adapter.now.lift.instance.number c.args.adapter.now.lower.instance.number (sym c.if-eq.ensures)) async (rw c.in_ok-number_functions-2.ensures.numbered at c.in_ok-compile_async.ensures)

pub returns-clause-own : goal.returns-clause-own
returns-clause-own c =
    let told = sym c.is_async.ensures ∙ c.if-is_async.false in
    let sync = rw c.component_types.ensures at told in
    own_in_sync (eqb-false c.args.adapter.now.lift.instance.number c.args.adapter.now.lower.instance.number (sym c.if-eq.ensures)) sync (rw c.in_ok-number_functions-3.ensures.numbered at c.in_ok-compile_sync.ensures)
