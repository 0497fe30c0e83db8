-- A start-call of one callback, one post-return and one type is the imported function of one number.
use Rattle.std.proofs.Common.{◌≡◌, ℕ, List, Option, sym, ap, ◌∙◌}
use Rattle.fact_wasm.specs.declared.types.ValType.{ValType}
use Rattle.fact_types.specs.Adapters.{LinkedAdapter}
use Rattle.fact_types.specs.declared.import.Import.TheVariants as known
use Rattle.fact_types.specs.declared.outside.CoreDef.{CoreDef}
use Rattle.fact_emit.specs.ImportSection.{imported_type, mentions}
use Rattle.fact_emit.specs.Imports.{HasImport}
use Rattle.fact_emit.specs.Listed.{ListsMentions}
use Rattle.fact_emit.specs.States.{ModuleSoFar}
use Rattle.fact_emit.proofs.SectionPlaces.{functions_before, stands_in}

pub starts-once : (s : ModuleSoFar) (adapters : List LinkedAdapter) → ListsMentions s (mentions adapters) adapters → (i j : ℕ) (callback post_return : Option CoreDef) (params results : List ValType)
    → HasImport s (known.StartCall callback post_return) i params results → HasImport s (known.StartCall callback post_return) j params results → i ≡ j
starts-once s adapters lists i j callback post_return params results g h =
    let x = stands_in s.section s.imports i (known.StartCall callback post_return) g.type_at g.there g.imported in
    let y = stands_in s.section s.imports j (known.StartCall callback post_return) h.type_at h.there h.imported in
    let typed : imported_type s.types x.entry.ty ≡ imported_type s.types y.entry.ty = ap (imported_type s.types) x.type_is ∙ g.type_is ∙ sym (ap (imported_type s.types) y.type_is ∙ h.type_is) in
    let same : x.position ≡ y.position = lists.task_calls.starts.once x.position y.position x.entry y.entry callback post_return x.entry_there y.entry_there x.import_there y.import_there typed in
    x.number ∙ ap (λ m. functions_before m s.section) same ∙ sym y.number
