-- The constants of an instruction by its outermost layer, at which the definitions compute.
use Rattle.std.proofs.Common.{◌≡◌, ℕ, List, ◌++◌, Some, None, sym, ap, ◌∙◌, subst}
use Rattle.fact_wasm.specs.declared.instr.BlockType.{BlockType}
use Rattle.fact_wasm.specs.declared.instr.Instr.{Instr, Instr-F, roll-Instr, map-Instr, fold-roll-Instr}
use Rattle.fact_wasm.specs.declared.instr.Instr.TheVariants.{Block, Loop, TryTable, If}
use Rattle.fact_wasm.specs.declared.instr.Instr.TheVariants as v
use Rattle.fact_machine.specs.declared.types.CoreValue.{CoreValue}
use Rattle.fact_machine.specs.Typed.{IsBits}
use Rattle.fact_check.specs.Constants.{AreBits, AreTypedConstants, constants, constants_row}
use Rattle.fact_check.proofs.Bits.{body_constants, joined, together}

layer : (i : Instr) (x : Instr-F Instr) → roll-Instr x ≡ i → constants i ≡ constants_row (map-Instr Instr (List CoreValue) constants x)
layer i x e = ap constants (sym e) ∙ fold-roll-Instr (List CoreValue) constants_row x

pub constants-block : (t : BlockType) (body : List Instr) → constants (Block t body) ≡ body_constants body
constants-block t body = layer _ _ (v.rolls-Block t body)

pub constants-loop : (t : BlockType) (body : List Instr) → constants (Loop t body) ≡ body_constants body
constants-loop t body = layer _ _ (v.rolls-Loop t body)

pub constants-try_table : (t : BlockType) (ls : List ℕ) (body : List Instr) → constants (TryTable t ls body) ≡ body_constants body
constants-try_table t ls body = layer _ _ (v.rolls-TryTable t ls body)

pub constants-if : (t : BlockType) (body : List Instr) → constants (If t body None) ≡ body_constants body
constants-if t body = layer _ _ (v.rolls-If t body None)

pub constants-else : (t : BlockType) (body other : List Instr) → constants (If t body (Some other)) ≡ body_constants body ++ body_constants other
constants-else t body other = layer _ _ (v.rolls-If t body (Some other))

-- what was read of a body, or of two, is what an instruction has
pub one_body : (i : Instr) (body slice : List Instr) → constants i ≡ body_constants body → slice ≡ body → AreTypedConstants slice → AreBits (constants i)
one_body i body slice e same h = subst AreBits (sym e) (together body (subst AreTypedConstants same h))

pub two_bodies : (i : Instr) (body other slice more : List Instr) → constants i ≡ body_constants body ++ body_constants other → slice ≡ body → more ≡ other → AreTypedConstants slice → AreTypedConstants more → AreBits (constants i)
two_bodies i body other slice more e same also h g =
    subst AreBits (sym e) (joined IsBits (body_constants body) (body_constants other) (together body (subst AreTypedConstants same h)) (together other (subst AreTypedConstants also g)))
