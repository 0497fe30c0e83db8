use Rattle.std.proofs.Common.{◌≡◌, ℕ, ◌+◌, ◌<◌, List, [], ◌∷◌, ◌++◌, length, take, get_or, sym, ap, ◌∙◌, append_assoc}
use Rattle.std.proofs.lemmas.List.{take_more}
use Rattle.fact_wasm.specs.declared.module.WasmExport.{WasmExport}
use Rattle.fact_emit.proofs.sections.add_exports.Goals as goal

-- a copy of one export more
copied-more : (begun copied after all : List WasmExport) (k : ℕ) (x copy : WasmExport) → k < length all → x ≡ get_or all k x → copied ≡ begun ++ take k all → after ≡ copied ++ copy ∷ [] → copy ≡ x → after ≡ begun ++ take (k + 1) all
copied-more begun copied after all k x copy below at so_far pushed same =
    pushed ∙ ap (λ es. es ++ copy ∷ []) so_far ∙ append_assoc begun (take k all) (copy ∷ []) ∙ ap (λ e. begun ++ (take k all ++ e ∷ [])) (same ∙ at) ∙ ap (λ es. begun ++ es) (sym (take_more all k x below))

pub loop-export-preserved : goal.loop-export-preserved
loop-export-preserved c =
    let x : WasmExport = c.export-item.result in
    copied-more c.args.exports.now c.loop-export.exports _ c.args.more.now c.loop-export.export-index x (record { name = c.in_ok-name.name; func = x.func }) c.loop-export-test.true c.export-item.is c.loop-export.invariant c.in_ok-push.ensures.ok
    (λ i. record { name = c.in_ok-name.ensures i; func = x.func })
