use Rattle.std.proofs.Common.{◌≡◌, ℕ, List, ◌∷◌, ◌++◌, Bool, Option, sym, ap, ◌∙◌}
use Rattle.std.proofs.lemmas.Result.{err_from_is_err_and}
use Rattle.fact_wasm.specs.declared.types.ValType.{ValType}
use Rattle.fact_wasm.specs.declared.module.ImportType.{ImportType}
use Rattle.fact_wasm.specs.declared.module.ImportType.TheVariants as import
use Rattle.fact_binary.specs.Grammar.{val_type}
use Rattle.fact_binary.specs.Spelling.{import_type, IsImportType, memory_type, IsMemoryType, mutability}
use Rattle.fact_binary.proofs.Items.{passes}
use Rattle.fact_binary.proofs.Parts.{import_type_unique}
use Rattle.fact_binary.proofs.decoder.import_type_at.Goals as goal

memory_only : (t : ImportType) (b : ℕ) (tail rest : List ℕ) → b ≡ 0x02 → IsImportType t → b ∷ tail ≡ import_type t ++ rest → (l : ℕ) × (w : Bool) × (p : Option ℕ) × IsMemoryType l p × (tail ≡ memory_type l w p ++ rest)
memory_only (import.Memory l w p) b tail rest h k e = (l, w, p, k, (cc))
memory_only (import.Func a) b tail rest h k e = absurd cc
memory_only (import.Global t m) b tail rest h k e = absurd cc

global_only : (t : ImportType) (b : ℕ) (tail rest : List ℕ) → b ≡ 0x03 → b ∷ tail ≡ import_type t ++ rest → (ty : ValType) × (m : Bool) × (tail ≡ val_type ty ∷ mutability m ∷ rest)
global_only (import.Global ty m) b tail rest h e = (ty, m, (cc))
global_only (import.Func a) b tail rest h e = absurd cc
global_only (import.Memory l w p) b tail rest h e = absurd cc

pub returns-in_err-minimum-in-2-clause-only : goal.returns-in_err-minimum-in-2-clause-only
returns-in_err-minimum-in-2-clause-only c t rest p e =
    let q = err_from_is_err_and c.from_residual-in_err-minimum-in-2.result c.from_residual-in_err-minimum-in-2.ensures.1 in
    let m = memory_only t c.in_ok-form.form c.in_ok-form.rest.now rest c.in-2.is p (sym c.in_ok-form.ensures.found ∙ e) in
    rw (q.1, q.2) (passes c.in_err-minimum-in-2.field-0.0 _ _ (c.in_err-minimum-in-2.ensures.only m.0 m.1 m.2 rest m.3 m.4))

pub returns-in_err-mutable-in-3-clause-only : goal.returns-in_err-mutable-in-3-clause-only
returns-in_err-mutable-in-3-clause-only c t rest p e =
    let q = err_from_is_err_and c.from_residual-in_err-mutable-in-3.result c.from_residual-in_err-mutable-in-3.ensures.1 in
    let g = global_only t c.in_ok-form.form c.in_ok-form.rest.now rest c.in-3.is (sym c.in_ok-form.ensures.found ∙ e) in
    let o = c.in_ok-ty-in-3.ensures.only g.0 (mutability g.1 ∷ rest) g.2 in
    rw (q.1, q.2) (passes c.in_err-mutable-in-3.field-0.0 _ _ (c.in_err-mutable-in-3.ensures.only g.1 rest o.1))

pub returns-in_ok-minimum-in-2-clause-only : goal.returns-in_ok-minimum-in-2-clause-only
returns-in_ok-minimum-in-2-clause-only c t rest p e =
    let a = c.in_ok-minimum-in-2 in
    let read = import.Memory a.minimum a.memory64 a.page_size_log2 in
    let f = a.ensures.found in
    let spelled : c.args.bytes.now ≡ import_type read ++ a.rest.now = c.in_ok-form.ensures.found ∙ ap (λ (b : ℕ). b ∷ c.in_ok-form.rest.now) c.in-2.is ∙ ap (λ (r : List ℕ). 0x02 ∷ r) f.1 in
    import_type_unique read t a.rest.now rest f.0 p (sym spelled ∙ e)
