use Rattle.std.proofs.Common.{◌++◌}
use Rattle.std.proofs.lemmas.Result.{err_from_is_err_and}
use Rattle.fact_binary.specs.Grammar.{list}
use Rattle.fact_binary.specs.Spelling.{section, func_type, import_item}
use Rattle.fact_binary.proofs.Items.{passes}
use Rattle.fact_binary.proofs.decoder.front_at.Goals as goal

pub returns-in_err-rest-clause-only : goal.returns-in_err-rest-clause-only
returns-in_err-rest-clause-only c ts js rest s =
    let q = err_from_is_err_and c.from_residual.result c.from_residual.ensures.1 in
    rw (q.1, q.2) (passes c.in_err-rest.field-0.0 _ _ (c.in_err-rest.ensures.only (section 0x01 (list func_type ts) ++ (section 0x02 (list import_item js) ++ rest)) s.spelled))

pub returns-in_err-types-clause-only : goal.returns-in_err-types-clause-only
returns-in_err-types-clause-only c ts js rest s =
    let q = err_from_is_err_and c.from_residual-in_err-types.result c.from_residual-in_err-types.ensures.1 in
    let h = c.in_ok-rest.ensures.only (section 0x01 (list func_type ts) ++ (section 0x02 (list import_item js) ++ rest)) s.spelled in
    rw (q.1, q.2) (passes c.in_err-types.field-0.0 _ _ (c.in_err-types.ensures.only ts (section 0x02 (list import_item js) ++ rest) s.type_bytes s.types h))

pub returns-in_err-imports-clause-only : goal.returns-in_err-imports-clause-only
returns-in_err-imports-clause-only c ts js rest s =
    let q = err_from_is_err_and c.from_residual-in_err-imports.result c.from_residual-in_err-imports.ensures.1 in
    let h = c.in_ok-rest.ensures.only (section 0x01 (list func_type ts) ++ (section 0x02 (list import_item js) ++ rest)) s.spelled in
    let t = c.in_ok-types.ensures.only ts (section 0x02 (list import_item js) ++ rest) s.type_bytes s.types h in
    rw (q.1, q.2) (passes c.in_err-imports.field-0.0 _ _ (c.in_err-imports.ensures.only js rest s.import_bytes s.imports t.1))

pub returns-clause-only : goal.returns-clause-only
returns-clause-only c ts js rest s =
    let h = c.in_ok-rest.ensures.only (section 0x01 (list func_type ts) ++ (section 0x02 (list import_item js) ++ rest)) s.spelled in
    let t = c.in_ok-types.ensures.only ts (section 0x02 (list import_item js) ++ rest) s.type_bytes s.types h in
    let i = c.in_ok-imports.ensures.only js rest s.import_bytes s.imports t.1 in
    (t.0, i.0, i.1)
