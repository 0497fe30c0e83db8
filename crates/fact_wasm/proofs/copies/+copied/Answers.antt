use Rattle.std.proofs.Common.{◌≡◌, ℕ, List, Option, true, refl, sym, ◌∙◌}
use Rattle.fact_wasm.specs.declared.instr.BlockType.{BlockType}
use Rattle.fact_wasm.specs.declared.instr.Instr.{Instr, Instr-F, out-Instr, roll-Instr, roll-out-Instr}
use Rattle.fact_wasm.specs.declared.instr.Instr.TheOpen as o
use Rattle.fact_wasm.specs.declared.instr.Instr.TheVariants.{Block, Loop, If, BrTable, TryTable, rolls-Block, rolls-Loop, rolls-If, rolls-BrTable, rolls-TryTable}
use Rattle.fact_wasm.specs.Copies.{is_flat}
use Rattle.fact_wasm.proofs.copies.+copied.Goals as goal

-- an instruction without lists, by its outermost layer
module _ (i : Instr)
    (not-block : (t : BlockType) (b : List Instr) → i ≡ Block t b → ⊥)
    (not-loop : (t : BlockType) (b : List Instr) → i ≡ Loop t b → ⊥)
    (not-if : (t : BlockType) (b : List Instr) (e : Option (List Instr)) → i ≡ If t b e → ⊥)
    (not-br_table : (ls : List ℕ) (l : ℕ) → i ≡ BrTable ls l → ⊥)
    (not-try_table : (t : BlockType) (ls : List ℕ) (b : List Instr) → i ≡ TryTable t ls b → ⊥) where
  flat : (x : Instr-F Instr) → i ≡ roll-Instr x → is_flat x ≡ true
  flat (o.Block t b) e = absurd (not-block t b (e ∙ rolls-Block t b))
  flat (o.Loop t b) e = absurd (not-loop t b (e ∙ rolls-Loop t b))
  flat (o.If t b u) e = absurd (not-if t b u (e ∙ rolls-If t b u))
  flat (o.BrTable ls l) e = absurd (not-br_table ls l (e ∙ rolls-BrTable ls l))
  flat (o.TryTable t ls b) e = absurd (not-try_table t ls b (e ∙ rolls-TryTable t ls b))
  flat _ e = refl

pub copy_instr-copy_flat-requires : goal.copy_instr-copy_flat-requires
copy_instr-copy_flat-requires t c =
    let i = c.args.instr.now in
    let other = c.in_default in
    flat i other.not-Block other.not-Loop other.not-If other.not-BrTable other.not-TryTable (out-Instr i) (sym (roll-out-Instr i))
