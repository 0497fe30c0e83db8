use Rattle.std.proofs.Common.{◌≡◌, ℕ, List, ◌++◌, sym, ap, ◌∙◌, append_assoc}
use Rattle.std.proofs.lemmas.Result.{err_from_is_err_and}
use Rattle.fact_wasm.specs.declared.module.WasmImport.{WasmImport}
use Rattle.fact_binary.specs.Spelling.{name, import_type, import_item}
use Rattle.fact_binary.proofs.Items.{passes}
use Rattle.fact_binary.proofs.Parts.{import_unique}
use Rattle.fact_binary.proofs.decoder.ImportsReadItemWasmImport.read.Goals as goal

-- the three parts, one behind another
parts : (i : WasmImport) (bytes rest : List ℕ) → bytes ≡ import_item i ++ rest → bytes ≡ name i.module ++ (name i.name ++ (import_type i.ty ++ rest))
parts i bytes rest e = e ∙ append_assoc (name i.module) (name i.name ++ import_type i.ty) rest ∙ ap (λ (t : List ℕ). name i.module ++ t) (append_assoc (name i.name) (import_type i.ty) rest)

whole : (i : WasmImport) (bytes a b rest : List ℕ) → bytes ≡ name i.module ++ a → a ≡ name i.name ++ b → b ≡ import_type i.ty ++ rest → bytes ≡ import_item i ++ rest
whole i bytes a b rest p q r =
    p ∙ ap (λ (t : List ℕ). name i.module ++ t) (q ∙ ap (λ (t : List ℕ). name i.name ++ t) r ∙ sym (append_assoc (name i.name) (import_type i.ty) rest)) ∙ sym (append_assoc (name i.module) (name i.name ++ import_type i.ty) rest)

pub returns-in_err-module-clause-only : goal.returns-in_err-module-clause-only
returns-in_err-module-clause-only c y rest p e =
    let q = err_from_is_err_and c.from_residual.result c.from_residual.ensures.1 in
    rw (q.1, q.2) (passes c.in_err-module.field-0.0 _ _ (c.in_err-module.ensures.only y.module _ p.0 (parts y _ rest e)))

pub returns-in_err-name-clause-only : goal.returns-in_err-name-clause-only
returns-in_err-name-clause-only c y rest p e =
    let q = err_from_is_err_and c.from_residual-in_err-name.result c.from_residual-in_err-name.ensures.1 in
    let m = c.in_ok-module.ensures.only y.module _ p.0 (parts y _ rest e) in
    rw (q.1, q.2) (passes c.in_err-name.field-0.0 _ _ (c.in_err-name.ensures.only y.name _ p.1 m.1))

pub returns-in_err-ty-clause-only : goal.returns-in_err-ty-clause-only
returns-in_err-ty-clause-only c y rest p e =
    let q = err_from_is_err_and c.from_residual-in_err-ty.result c.from_residual-in_err-ty.ensures.1 in
    let m = c.in_ok-module.ensures.only y.module _ p.0 (parts y _ rest e) in
    let n = c.in_ok-name.ensures.only y.name _ p.1 m.1 in
    rw (q.1, q.2) (passes c.in_err-ty.field-0.0 _ _ (c.in_err-ty.ensures.only y.ty rest p.2 n.1))

pub returns-clause-found : goal.returns-clause-found
returns-clause-found c =
    let read : WasmImport = record { «module» = c.in_ok-module.module; name = c.in_ok-name.name; ty = c.in_ok-ty.ty } in
    let f = c.in_ok-module.ensures.found in
    let g = c.in_ok-name.ensures.found in
    let h = c.in_ok-ty.ensures.found in
    ((f.0, g.0, h.0), whole read _ _ _ _ f.1 g.1 h.1)

pub returns-clause-only : goal.returns-clause-only
returns-clause-only c y rest p e =
    let read : WasmImport = record { «module» = c.in_ok-module.module; name = c.in_ok-name.name; ty = c.in_ok-ty.ty } in
    let f = returns-clause-found c in
    import_unique read y c.in_ok-ty.rest.now rest f.0 p (sym f.1 ∙ e)
