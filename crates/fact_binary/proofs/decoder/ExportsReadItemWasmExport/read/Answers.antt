use Rattle.std.proofs.Common.{◌≡◌, ℕ, List, ◌∷◌, ◌++◌, sym, ◌∙◌, append_assoc}
use Rattle.std.proofs.lemmas.Result.{err_from_is_err_and}
use Rattle.fact_wasm.specs.declared.module.WasmExport.{WasmExport}
use Rattle.fact_binary.specs.Numbers.{unsigned}
use Rattle.fact_binary.specs.Grammar.{function_index}
use Rattle.fact_binary.specs.Spelling.{name, export_item}
use Rattle.fact_binary.proofs.Items.{passes}
use Rattle.fact_binary.proofs.Parts.{heads}
use Rattle.fact_binary.proofs.decoder.ExportsReadItemWasmExport.read.Goals as goal

-- the name, the kind and the index, one behind another
parts : (n : ℕ) (x : WasmExport) (bytes rest : List ℕ) → bytes ≡ export_item n x ++ rest → bytes ≡ name x.name ++ 0x00 ∷ (unsigned (function_index n x.func) ++ rest)
parts n x bytes rest e = e ∙ append_assoc (name x.name) (0x00 ∷ unsigned (function_index n x.func)) rest

pub returns-in_err-name-clause-only : goal.returns-in_err-name-clause-only
returns-in_err-name-clause-only c y rest p e =
    let q = err_from_is_err_and c.from_residual.result c.from_residual.ensures.1 in
    rw (q.1, q.2) (passes c.in_err-name.field-0.0 _ _ (c.in_err-name.ensures.only y.name _ p.0.0 (parts c.args.imports y _ rest e)))

pub returns-in_err-kind-clause-only : goal.returns-in_err-kind-clause-only
returns-in_err-kind-clause-only c y rest p e =
    let q = err_from_is_err_and c.from_residual-in_err-kind.result c.from_residual-in_err-kind.ensures.1 in
    let m = c.in_ok-name.ensures.only y.name _ p.0.0 (parts c.args.imports y _ rest e) in
    rw (q.1, q.2) (passes c.in_err-kind.field-0.0 _ _ (c.in_err-kind.ensures.only 0x00 _ m.1))

pub returns-in_err-index-clause-only : goal.returns-in_err-index-clause-only
returns-in_err-index-clause-only c y rest p e =
    let q = err_from_is_err_and c.from_residual-in_err-index.result c.from_residual-in_err-index.ensures.1 in
    let m = c.in_ok-name.ensures.only y.name _ p.0.0 (parts c.args.imports y _ rest e) in
    let k = sym c.in_ok-kind.ensures.found ∙ m.1 in
    rw (q.1, q.2) (passes c.in_err-index.field-0.0 _ _ (c.in_err-index.ensures.only (function_index c.args.imports y.func) rest p.0.1 (heads _ _ _ _ k).1))
