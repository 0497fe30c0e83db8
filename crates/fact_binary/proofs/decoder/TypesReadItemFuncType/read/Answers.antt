use Rattle.std.proofs.Common.{◌≡◌, ℕ, List, ◌∷◌, ◌++◌, sym, ap, ◌∙◌, append_assoc}
use Rattle.std.proofs.lemmas.Result.{err_from_is_err_and}
use Rattle.fact_wasm.specs.declared.types.FuncType.{FuncType}
use Rattle.fact_binary.specs.Spelling.{value_types, func_type}
use Rattle.fact_binary.proofs.Items.{passes}
use Rattle.fact_binary.proofs.Parts.{heads, func_type_unique}
use Rattle.fact_binary.proofs.decoder.TypesReadItemFuncType.read.Goals as goal

-- the form, the parameters and the results, one behind another
parts : (t : FuncType) (bytes rest : List ℕ) → bytes ≡ func_type t ++ rest → bytes ≡ 0x60 ∷ (value_types t.params ++ (value_types t.results ++ rest))
parts t bytes rest e = e ∙ ap (λ (r : List ℕ). 0x60 ∷ r) (append_assoc (value_types t.params) (value_types t.results) rest)

pub returns-in_err-form-clause-only : goal.returns-in_err-form-clause-only
returns-in_err-form-clause-only c y rest p e =
    let q = err_from_is_err_and c.from_residual.result c.from_residual.ensures.1 in
    rw (q.1, q.2) (passes c.in_err-form.field-0.0 _ _ (c.in_err-form.ensures.only 0x60 _ (parts y _ rest e)))

pub returns-then-form-ne96-clause-only : goal.returns-then-form-ne96-clause-only
returns-then-form-ne96-clause-only c y rest p e = c.if-form-ne96.true (heads _ _ _ _ (sym c.in_ok-form.ensures.found ∙ parts y _ rest e)).0

pub returns-in_err-params-clause-only : goal.returns-in_err-params-clause-only
returns-in_err-params-clause-only c y rest p e =
    let q = err_from_is_err_and c.from_residual-in_err-params.result c.from_residual-in_err-params.ensures.1 in
    let h = heads _ _ _ _ (sym c.in_ok-form.ensures.found ∙ parts y _ rest e) in
    rw (q.1, q.2) (passes c.in_err-params.field-0.0 _ _ (c.in_err-params.ensures.only y.params _ p.0 h.1))

pub returns-in_err-results-clause-only : goal.returns-in_err-results-clause-only
returns-in_err-results-clause-only c y rest p e =
    let q = err_from_is_err_and c.from_residual-in_err-results.result c.from_residual-in_err-results.ensures.1 in
    let h = heads _ _ _ _ (sym c.in_ok-form.ensures.found ∙ parts y _ rest e) in
    let m = c.in_ok-params.ensures.only y.params _ p.0 h.1 in
    rw (q.1, q.2) (passes c.in_err-results.field-0.0 _ _ (c.in_err-results.ensures.only y.results rest p.1 m.1))

pub returns-clause-only : goal.returns-clause-only
returns-clause-only c y rest p e =
    let ps = c.in_ok-params.params in
    let rs = c.in_ok-results.results in
    let read : FuncType = record { params = ps; results = rs } in
    let f = c.in_ok-params.ensures.found in
    let g = c.in_ok-results.ensures.found in
    let after = f.1 ∙ ap (λ (t : List ℕ). value_types ps ++ t) g.1 ∙ sym (append_assoc (value_types ps) (value_types rs) c.in_ok-results.rest.now) in
    let spelled : c.args.bytes.now ≡ func_type read ++ c.in_ok-results.rest.now =
    c.in_ok-form.ensures.found ∙ ap (λ (b : ℕ). b ∷ c.in_ok-form.rest.now) c.if-form-ne96.false ∙ ap (λ (t : List ℕ). 0x60 ∷ t) after in
    func_type_unique read y c.in_ok-results.rest.now rest (f.0, g.0) p (sym spelled ∙ e)
