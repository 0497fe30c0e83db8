use Rattle.std.proofs.lemmas.Result.{IfOk-weaker}
use Rattle.fact_emit.specs.contracts.sections.ModuleSections.{the_view}
use Rattle.fact_emit.proofs.StateLaws.{global-untyped, leaves-function, leaves-global, leaves-memory, memory-untyped, typed-there}
use Rattle.fact_emit.proofs.sections.ModuleSections.import.Goals as goal

pub invariant_of-self : goal.invariant_of-self
invariant_of-self c = (leaves-function (the_view c.self.inside) c.args.self.now c.self.view_is _ _ _ c.self.invariant _ _ c.in-Ok.ensures c.args.item c.requires.may _ _ _ c.in-Func.field-0 c.in-Func.is _ c.is_full-has_room.ensures c.find_or_add.ensures.step).indexed

pub returns-in-Func-clause-imported : goal.returns-in-Func-clause-imported
returns-in-Func-clause-imported c = IfOk-weaker c.find_or_add.result _ _ (leaves-function (the_view c.self.inside) c.args.self.now c.self.view_is _ _ _ c.self.invariant _ _ c.in-Ok.ensures c.args.item c.requires.may _ _ _ c.in-Func.field-0 c.in-Func.is _ c.is_full-has_room.ensures c.find_or_add.ensures.step).imported c.find_or_add.ensures.place

pub returns-in-Func-clause-keeps : goal.returns-in-Func-clause-keeps
returns-in-Func-clause-keeps c = (leaves-function (the_view c.self.inside) c.args.self.now c.self.view_is _ _ _ c.self.invariant _ _ c.in-Ok.ensures c.args.item c.requires.may _ _ _ c.in-Func.field-0 c.in-Func.is _ c.is_full-has_room.ensures c.find_or_add.ensures.step).keeps

pub returns-in-Func-clause-once : goal.returns-in-Func-clause-once
returns-in-Func-clause-once c = (leaves-function (the_view c.self.inside) c.args.self.now c.self.view_is _ _ _ c.self.invariant _ _ c.in-Ok.ensures c.args.item c.requires.may _ _ _ c.in-Func.field-0 c.in-Func.is _ c.is_full-has_room.ensures c.find_or_add.ensures.step).once

pub invariant_of-self-in-Memory : goal.invariant_of-self-in-Memory
invariant_of-self-in-Memory c = (leaves-memory (the_view c.self.inside) c.args.self.now c.self.view_is _ _ _ c.self.invariant _ _ c.in-Ok.ensures c.args.item c.requires.may _ _ _ _ _ _ c.in-Memory.is c.find_or_add-in-Memory.ensures.step).indexed

pub returns-in-Memory-clause-imported : goal.returns-in-Memory-clause-imported
returns-in-Memory-clause-imported c = IfOk-weaker c.find_or_add-in-Memory.result _ _ (leaves-memory (the_view c.self.inside) c.args.self.now c.self.view_is _ _ _ c.self.invariant _ _ c.in-Ok.ensures c.args.item c.requires.may _ _ _ _ _ _ c.in-Memory.is c.find_or_add-in-Memory.ensures.step).imported c.find_or_add-in-Memory.ensures.place

pub returns-in-Memory-clause-keeps : goal.returns-in-Memory-clause-keeps
returns-in-Memory-clause-keeps c = (leaves-memory (the_view c.self.inside) c.args.self.now c.self.view_is _ _ _ c.self.invariant _ _ c.in-Ok.ensures c.args.item c.requires.may _ _ _ _ _ _ c.in-Memory.is c.find_or_add-in-Memory.ensures.step).keeps

pub returns-in-Memory-clause-once : goal.returns-in-Memory-clause-once
returns-in-Memory-clause-once c = (leaves-memory (the_view c.self.inside) c.args.self.now c.self.view_is _ _ _ c.self.invariant _ _ c.in-Ok.ensures c.args.item c.requires.may _ _ _ _ _ _ c.in-Memory.is c.find_or_add-in-Memory.ensures.step).once

pub invariant_of-self-in-Global : goal.invariant_of-self-in-Global
invariant_of-self-in-Global c = (leaves-global (the_view c.self.inside) c.args.self.now c.self.view_is _ _ _ c.self.invariant _ _ c.in-Ok.ensures c.args.item c.requires.may _ _ _ _ _ c.in-Global.is c.find_or_add-in-Global.ensures.step).indexed

pub returns-in-Global-clause-imported : goal.returns-in-Global-clause-imported
returns-in-Global-clause-imported c = IfOk-weaker c.find_or_add-in-Global.result _ _ (leaves-global (the_view c.self.inside) c.args.self.now c.self.view_is _ _ _ c.self.invariant _ _ c.in-Ok.ensures c.args.item c.requires.may _ _ _ _ _ c.in-Global.is c.find_or_add-in-Global.ensures.step).imported c.find_or_add-in-Global.ensures.place

pub returns-in-Global-clause-keeps : goal.returns-in-Global-clause-keeps
returns-in-Global-clause-keeps c = (leaves-global (the_view c.self.inside) c.args.self.now c.self.view_is _ _ _ c.self.invariant _ _ c.in-Ok.ensures c.args.item c.requires.may _ _ _ _ _ c.in-Global.is c.find_or_add-in-Global.ensures.step).keeps

pub returns-in-Global-clause-once : goal.returns-in-Global-clause-once
returns-in-Global-clause-once c = (leaves-global (the_view c.self.inside) c.args.self.now c.self.view_is _ _ _ c.self.invariant _ _ c.in-Ok.ensures c.args.item c.requires.may _ _ _ _ _ c.in-Global.is c.find_or_add-in-Global.ensures.step).once

pub returns-in-Func-clause-typed : goal.returns-in-Func-clause-typed
returns-in-Func-clause-typed c = IfOk-weaker c.find_or_add.result _ _ (λ n at. typed-there _ _ _ _ (leaves-function (the_view c.self.inside) c.args.self.now c.self.view_is _ _ _ c.self.invariant _ _ c.in-Ok.ensures c.args.item c.requires.may _ _ _ c.in-Func.field-0 c.in-Func.is _ c.is_full-has_room.ensures c.find_or_add.ensures.step).indexed c.args.item n at) c.find_or_add.ensures.place

pub returns-in-Memory-clause-typed : goal.returns-in-Memory-clause-typed
returns-in-Memory-clause-typed c = IfOk-weaker c.find_or_add-in-Memory.result _ _ (λ n at f e. absurd (memory-untyped c.args.self.now.types c.in-Ok.ensures c.in-Memory.is (c.requires.may.typed f e))) c.find_or_add-in-Memory.ensures.place

pub returns-in-Global-clause-typed : goal.returns-in-Global-clause-typed
returns-in-Global-clause-typed c = IfOk-weaker c.find_or_add-in-Global.result _ _ (λ n at f e. absurd (global-untyped c.args.self.now.types c.in-Ok.ensures c.in-Global.is (c.requires.may.typed f e))) c.find_or_add-in-Global.ensures.place
