-- Products in 64 bits with a number. None is taken where the number is 1.
use Rattle.std.proofs.Common.{◌≡◌, ℕ, ◌^◌, ◌<◌, ◌≤◌, Bool, true, false, List, [], ◌∷◌, refl, sym, ap, ◌∙◌, arith}
use Rattle.std.specs.Prelude.{nat_eq, if◌then◌else◌}
use Rattle.std.proofs.lemmas.Bool.{eqb-true}
use Rattle.fact_wasm.specs.declared.types.ValType.{ValType}
use Rattle.fact_wasm.specs.declared.types.ValType.TheVariants as val
use Rattle.fact_wasm.specs.declared.instr.Instr.TheVariants as I
use Rattle.fact_wasm.specs.declared.instr.Instr.TheOpen as o
use Rattle.fact_wasm.specs.declared.module.WasmModule.{WasmModule}
use Rattle.fact_machine.specs.declared.types.CoreValue.{CoreValue}
use Rattle.fact_machine.specs.declared.types.CoreValue.TheVariants.{I64}
use Rattle.fact_machine.specs.Exits.{Falls, Leaves}
use Rattle.fact_machine.specs.Numerics.{imul}
use Rattle.fact_machine.specs.World.{World}
use Rattle.fact_machine.proofs.Laws.{leaves_next, leaves_none, leaves_as}
use Rattle.fact_machine.proofs.NumericLaws.{leaves_i64_const, leaves_i64_mul}
use Rattle.fact_code_laws.specs.Code.{scaled_code}
use Rattle.fact_code_laws.specs.Does.{Locals}
use Rattle.fact_code_laws.specs.Typed.{OnStack, IsTyped}
use Rattle.fact_code_laws.proofs.TypingLaws.{typed_done, typed_next, typed_one}
use Rattle.fact_code_laws.proofs.TypedRows.{takes_plain}

-- the steps of a product
abbrev pub scaled_steps : ℕ → ℕ
scaled_steps factor = if nat_eq factor 1 then 0 else 2

pub scaled_few : (factor : ℕ) → scaled_steps factor ≤ 2
scaled_few factor = by_one (nat_eq factor 1)
  where
    by_one : (one : Bool) → (if one then 0 else 2) ≤ 2
    by_one true = omega arith
    by_one false = omega arith

pub leaves_scaled : {M : WasmModule} {w : World} {vs : List CoreValue} {ls : Locals} (factor x : ℕ) → (factor ≡ 1 → x < 2 ^ 64) → Leaves M (scaled_steps factor) (scaled_code factor) w (I64 x ∷ vs) ls (Falls w (I64 (imul 64 x factor) ∷ vs) ls)
leaves_scaled {M} {w} {vs} {ls} factor x below = by_one (nat_eq factor 1) refl
  where
    by_one : (one : Bool) → nat_eq factor 1 ≡ one → Leaves M (if one then 0 else 2) (if one then [] else (I.I64Const factor ∷ I.I64Mul ∷ [])) w (I64 x ∷ vs) ls (Falls w (I64 (imul 64 x factor) ∷ vs) ls)
    by_one true is =
        let one : factor ≡ 1 = eqb-true factor 1 is in
        let less : x < 2 ^ 64 = below one in
        let same : x ≡ imul 64 x 1 = omega (arith, less) in
        leaves_as (ap (λ n. Falls w (I64 n ∷ vs) ls) (same ∙ ap (imul 64 x) (sym one))) leaves_none
    by_one false is = leaves_next leaves_i64_const leaves_i64_mul

pub typed_scaled : {M : WasmModule} {locals : List ValType} {labels : List (List ValType)} {ins : List ValType} (factor : ℕ) → IsTyped M locals labels (scaled_code factor) (val.I64 ∷ ins) (OnStack (val.I64 ∷ ins))
typed_scaled {M} {locals} {labels} {ins} factor = by_one (nat_eq factor 1)
  where
    by_one : (one : Bool) → IsTyped M locals labels (if one then [] else (I.I64Const factor ∷ I.I64Mul ∷ [])) (val.I64 ∷ ins) (OnStack (val.I64 ∷ ins))
    by_one true = typed_done
    by_one false = typed_next (takes_plain (o.I64Const _) (I.outs-I64Const _) refl) (typed_one (takes_plain o.I64Mul I.outs-I64Mul refl))
