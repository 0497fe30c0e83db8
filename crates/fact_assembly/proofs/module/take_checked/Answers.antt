use Rattle.std.proofs.Common.{Result, Ok, Err, refl}
use Rattle.std.specs.Prelude.{OnOk, OnErr}
use Rattle.fact_assembly.proofs.module.take_checked.Goals as goal

-- what holds anyway
on_ok : {A E P : Type 0} (r : Result A E) → P → OnOk r P
on_ok (Ok x) p = p
on_ok (Err e) p = tt

on_err : {A E P : Type 0} (r : Result A E) → P → OnErr r P
on_err (Ok x) p = tt
on_err (Err e) p = p

pub returns-in_err-add_adapter-clause-keeps : goal.returns-in_err-add_adapter-clause-keeps
returns-in_err-add_adapter-clause-keeps c = c.add_adapter.ensures.keeps

pub returns-in_err-add_adapter-clause-refused : goal.returns-in_err-add_adapter-clause-refused
returns-in_err-add_adapter-clause-refused c = on_err c.from_residual.result refl

pub returns-clause-taken : goal.returns-clause-taken
returns-clause-taken c = c.push_taken.ensures.taken

pub returns-clause-emitted : goal.returns-clause-emitted
returns-clause-emitted c = on_ok c.push_taken.result c.in_ok-add_adapter.ensures.added

pub returns-clause-keeps : goal.returns-clause-keeps
returns-clause-keeps c = c.add_adapter.ensures.keeps

pub returns-clause-refused : goal.returns-clause-refused
returns-clause-refused c = c.push_taken.ensures.refused
