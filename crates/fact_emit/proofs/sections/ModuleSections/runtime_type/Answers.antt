use Rattle.std.proofs.Common.{◌≡◌, Some, slice_get, subst}
use Rattle.std.specs.Prelude.{IfOk, OnOk}
use Rattle.fact_wasm.specs.declared.types.FuncType.{FuncType}
use Rattle.fact_emit.specs.States.{HasType}
use Rattle.fact_emit.proofs.sections.ModuleSections.runtime_type.Goals as goal

pub returns-clause-place : goal.returns-clause-place
returns-clause-place c = subst (λ (t : FuncType). IfOk c.function.result (λ n. slice_get c.function.new.self.types n ≡ Some t)) c.types_of.ensures c.function.ensures.place

pub returns-clause-types : goal.returns-clause-types
returns-clause-types c = subst (λ (t : FuncType). OnOk c.function.result (HasType c.args.self.now c.function.new.self t)) c.types_of.ensures c.function.ensures.types

pub returns-clause-keeps : goal.returns-clause-keeps
returns-clause-keeps c = c.function.ensures.keeps

pub returns-clause-once : goal.returns-clause-once
returns-clause-once c = c.function.ensures.once
