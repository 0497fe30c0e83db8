use Rattle.std.proofs.Common.{◌≡◌, ℕ, List, map, sym, ap, ◌∙◌}
use Rattle.std.specs.Prelude.{count_by}
use Rattle.std.proofs.lemmas.Result.{err_from_is_err_and}
use Rattle.fact_wasm.specs.declared.module.WasmImport.{WasmImport}
use Rattle.fact_wasm.specs.declared.module.WasmModule.{WasmModule}
use Rattle.fact_wasm.specs.Ranges.{is_function}
use Rattle.fact_binary.specs.Spelling.{Fits}
use Rattle.fact_binary.specs.Owned.{IsBack, IsOwn, type_index, body_of}
use Rattle.fact_binary.proofs.Items.{passes}
use Rattle.fact_binary.proofs.OneModule.{rest_of, front_of, back_of, module_back, one_module}
use Rattle.fact_binary.proofs.decoder.module_of.Goals as goal

pub returns-in_err-types-clause-only : goal.returns-in_err-types-clause-only
returns-in_err-types-clause-only c m o s =
    let q = err_from_is_err_and c.from_residual.result c.from_residual.ensures.1 in
    rw (q.1, q.2) (passes c.in_err-types.field-0.0 _ _ (c.in_err-types.ensures.only m.types m.imports (rest_of m) (front_of c.args.bytes.now m s)))

-- the other three sections of a module that the bytes spell, at the count and the place that were read
back_here : (n : ℕ) (rest : List ℕ) (is : List WasmImport) (m : WasmModule) → n ≡ count_by is_function is → is ≡ m.imports → rest ≡ rest_of m → IsOwn m → Fits m → IsBack n rest (map type_index m.funcs) m.exports (map body_of m.funcs)
back_here n rest is m e i r o f = rw r (back_of n m (e ∙ ap (count_by is_function) i) o f)

pub returns-in_err-type_indices-clause-only : goal.returns-in_err-type_indices-clause-only
returns-in_err-type_indices-clause-only c m o s =
    let q = err_from_is_err_and c.from_residual-in_err-type_indices.result c.from_residual-in_err-type_indices.ensures.1 in
    let f = c.in_ok-types.ensures.only m.types m.imports (rest_of m) (front_of c.args.bytes.now m s) in
    let count = rw c.as_slice.ensures at c.count_functions-count.ensures in
    let b = back_here c.count_functions-count.result c.in_ok-types.rest.now c.in_ok-types.imports m count f.1 f.2 o s.fits in
    rw (q.1, q.2) (passes c.in_err-type_indices.field-0.0 _ _ (c.in_err-type_indices.ensures.only (map type_index m.funcs) m.exports (map body_of m.funcs) b))

pub returns-in_err-funcs-clause-only : goal.returns-in_err-funcs-clause-only
returns-in_err-funcs-clause-only c m o s =
    let q = err_from_is_err_and c.from_residual-in_err-funcs.result c.from_residual-in_err-funcs.ensures.1 in
    let f = c.in_ok-types.ensures.only m.types m.imports (rest_of m) (front_of c.args.bytes.now m s) in
    let count = rw c.as_slice.ensures at c.count_functions-count.ensures in
    let b = back_here c.count_functions-count.result c.in_ok-types.rest.now c.in_ok-types.imports m count f.1 f.2 o s.fits in
    let r = c.in_ok-type_indices.ensures.only (map type_index m.funcs) m.exports (map body_of m.funcs) b in
    rw (q.1, q.2) (passes c.in_err-funcs.field-0.0 _ _ (c.in_err-funcs.ensures.only m.funcs (sym (c.as_slice-2.ensures ∙ r.0)) (sym r.2)))

pub returns-clause-found : goal.returns-clause-found
returns-clause-found c =
    let fs = c.in_ok-funcs.ensures.found in
    let count = rw c.as_slice.ensures at c.count_functions-count.ensures in
    module_back c.args.bytes.now c.in_ok-types.rest.now c.count_functions-count.result
    (record { types = c.in_ok-types.types; imports = c.in_ok-types.imports; funcs = c.in_ok-funcs.funcs; exports = c.in_ok-type_indices.exports })
    count c.in_ok-types.ensures.found (rw (fs.0, c.as_slice-2.ensures, fs.1) c.in_ok-type_indices.ensures.found)

pub returns-clause-only : goal.returns-clause-only
returns-clause-only c m o s =
    let f = returns-clause-found c in
    one_module c.args.bytes.now _ m f.0 o f.1 s
