-- Numbers of strings' code on the operand stack: products, sums and differences in 64 bits, taken modulo the width of addresses.
use Rattle.std.proofs.Common.{◌≡◌, ℕ, suc, ◌+◌, ◌-◌, ◌*◌, ◌%◌, ◌^◌, ◌<◌, ◌≤◌, Bool, true, false, List, ◌∷◌, ◌++◌, Some, sym, ap, ◌∙◌, subst, arith, slice_get}
use Rattle.std.proofs.Math.Nat.{mod-eq_of_lt}
use Rattle.std.proofs.lemmas.Nat.{mod_below}
use Rattle.std.proofs.Common.{lit<}
use Rattle.fact_wasm.specs.declared.instr.Instr.{Instr}
use Rattle.fact_wasm.specs.declared.instr.Instr.TheVariants as I
use Rattle.fact_wasm.specs.declared.module.WasmModule.{WasmModule}
use Rattle.fact_machine.specs.declared.types.CoreValue.{CoreValue}
use Rattle.fact_machine.specs.declared.types.CoreValue.TheVariants.{I64}
use Rattle.fact_machine.specs.Exits.{Falls, Leaves}
use Rattle.fact_machine.specs.Numerics.{iadd, isub, imul}
use Rattle.fact_machine.specs.Typing.{address_bits, address_operand}
use Rattle.fact_machine.specs.World.{World}
use Rattle.fact_machine.proofs.Laws.{leaves_then, leaves_next, leaves_none, leaves_as}
use Rattle.fact_machine.proofs.RowLaws.{leaves_local_get}
use Rattle.fact_machine.proofs.NumericLaws.{leaves_i64_add, leaves_i64_sub, leaves_i32_wrap_i64, leaves_i64_extend_i32_u}
use Rattle.fact_actions.specs.Actions.{Action}
use Rattle.fact_actions.specs.Running.{ImportPlaces}
use Rattle.fact_code_laws.specs.Does.{Locals, Way, Does, PushesValue}
use Rattle.fact_code_laws.specs.Places.{limit_of}
use Rattle.fact_code_laws.specs.StringCode.{wrap_code, times_code, to_address}
use Rattle.fact_code_laws.specs.Tests.{pointer_of_width}
use Rattle.fact_code_laws.proofs.Rules.{within, stretch, step, pushing}
use Rattle.fact_code_laws.proofs.Scaled.{scaled_steps, scaled_few, leaves_scaled}

-- ---- numbers modulo the width

pub below_width : (memory64 : Bool) (x : ℕ) → x % 2 ^ address_bits memory64 < limit_of (pointer_of_width memory64)
below_width true x = mod_below x (2 ^ 64) (lit< tt)
below_width false x = mod_below x (2 ^ 32) (lit< tt)

-- a number modulo 2 to the power of 64 is the same modulo the width
pub wide_first : (memory64 : Bool) (x : ℕ) → (x % 2 ^ 64) % 2 ^ address_bits memory64 ≡ x % 2 ^ address_bits memory64
wide_first true x = omega arith
wide_first false x = omega arith

pub width_same : (memory64 : Bool) (x : ℕ) → x < limit_of (pointer_of_width memory64) → x % 2 ^ address_bits memory64 ≡ x
width_same true x lt = mod-eq_of_lt lt
width_same false x lt = mod-eq_of_lt lt

pub sum_width : (memory64 : Bool) (a b : ℕ) → iadd 64 a (b % 2 ^ address_bits memory64) % 2 ^ address_bits memory64 ≡ (a + b) % 2 ^ address_bits memory64
sum_width true a b = omega arith
sum_width false a b = omega arith

-- a difference in 64 bits is that of the width
pub difference_width : (memory64 : Bool) (a b : ℕ) → b < limit_of (pointer_of_width memory64) → isub 64 a b % 2 ^ address_bits memory64 ≡ (a + (2 ^ address_bits memory64 - b)) % 2 ^ address_bits memory64
difference_width true a b lt = omega arith
difference_width false a b lt = omega (arith, lt)

-- ---- wraps

-- the steps that a number takes to the width
abbrev pub wrap_steps : Bool → ℕ
wrap_steps true = 0
wrap_steps false = 2

pub wrap_few : (memory64 : Bool) → wrap_steps memory64 ≤ 2
wrap_few true = omega arith
wrap_few false = omega arith

pub leaves_wrap : {M : WasmModule} {w : World} {vs : List CoreValue} {ls : Locals} (memory64 : Bool) (x : ℕ) → x < 2 ^ 64 → Leaves M (wrap_steps memory64) (wrap_code memory64) w (I64 x ∷ vs) ls (Falls w (I64 (x % 2 ^ address_bits memory64) ∷ vs) ls)
leaves_wrap {w = w} {vs} {ls} true x lt = leaves_as (ap (λ n. Falls w (I64 n ∷ vs) ls) (sym (mod-eq_of_lt lt))) leaves_none
leaves_wrap false x lt = leaves_next leaves_i32_wrap_i64 leaves_i64_extend_i32_u

-- so many times what a local holds
abbrev pub times_steps : Bool → (factor : ℕ) → ℕ
times_steps memory64 factor = suc (scaled_steps factor + wrap_steps memory64)

pub times_few : (memory64 : Bool) (factor : ℕ) → times_steps memory64 factor ≤ 5
times_few memory64 factor = omega (arith, scaled_few factor, wrap_few memory64)

pub pushes_times : {M : WasmModule} {ls : Locals} (memory64 : Bool) (factor local x : ℕ) → slice_get ls local ≡ Some (Some (I64 x)) → x < 2 ^ 64
    → PushesValue M (times_steps memory64 factor) ls (times_code memory64 factor local) (I64 ((factor * x) % 2 ^ address_bits memory64))
pushes_times {ls = ls} memory64 factor local x h lt =
    let is : imul 64 x factor % 2 ^ address_bits memory64 ≡ (factor * x) % 2 ^ address_bits memory64 = wide_first memory64 (x * factor) ∙ ap (λ n. n % 2 ^ address_bits memory64) (omega arith) in
    record {
      by = λ w vs.
          leaves_next (leaves_local_get h) (leaves_then (leaves_scaled factor x (λ one. lt))
          (leaves_as (ap (λ n. Falls w (I64 n ∷ vs) ls) is) (leaves_wrap memory64 (imul 64 x factor) (mod_below (x * factor) (2 ^ 64) (lit< tt)))));
    }

-- ---- in front of other code

module _ {A : Type 0} {M : WasmModule} {p : ImportPlaces} {way : Way} {extra spare : ℕ} {ins : List CoreValue} {ls : Locals} {c : List Instr} {q : Action A} {out : A → List CoreValue} {Holds : A → Locals → Type 0} where
  pub gets_times : (memory64 : Bool) (factor local x : ℕ) → slice_get ls local ≡ Some (Some (I64 x)) → x < 2 ^ 64 → Does M p way extra spare (I64 ((factor * x) % 2 ^ address_bits memory64) ∷ ins) ls c q out Holds
      → Does M p way (5 + extra) spare ins ls (times_code memory64 factor local ++ c) q out Holds
  gets_times memory64 factor local x h lt d = within (omega (arith, times_few memory64 factor)) (pushing (pushes_times memory64 factor local x h lt) d)

  pub wraps : (memory64 : Bool) (x : ℕ) → x < 2 ^ 64 → Does M p way extra spare (I64 (x % 2 ^ address_bits memory64) ∷ ins) ls c q out Holds → Does M p way (2 + extra) spare (I64 x ∷ ins) ls (wrap_code memory64 ++ c) q out Holds
  wraps memory64 x lt d = within (omega (arith, wrap_few memory64)) (stretch (λ w below. leaves_wrap memory64 x lt) d)

  -- a number becomes an address
  pub to_addresses : (memory64 : Bool) (x : ℕ) → x < 2 ^ 64 → Does M p way extra spare (address_operand memory64 (x % 2 ^ address_bits memory64) ∷ ins) ls c q out Holds
      → Does M p way (1 + extra) spare (I64 x ∷ ins) ls (to_address memory64 ++ c) q out Holds
  to_addresses true x lt d = within (omega arith) (subst (λ n. Does M p way extra spare (I64 n ∷ ins) ls c q out Holds) (mod-eq_of_lt lt) d)
  to_addresses false x lt d = within (omega arith) (step (λ w below. leaves_i32_wrap_i64) d)

  -- two locals' sum, and their difference, as addresses
  pub adds : {x y : ℕ} → Does M p way extra spare (I64 (iadd 64 x y) ∷ ins) ls c q out Holds → Does M p way (1 + extra) spare (I64 y ∷ I64 x ∷ ins) ls (I.I64Add ∷ c) q out Holds
  adds d = within (omega arith) (step (λ w below. leaves_i64_add) d)

  pub subtracts : {x y : ℕ} → Does M p way extra spare (I64 (isub 64 x y) ∷ ins) ls c q out Holds → Does M p way (1 + extra) spare (I64 y ∷ I64 x ∷ ins) ls (I.I64Sub ∷ c) q out Holds
  subtracts d = within (omega arith) (step (λ w below. leaves_i64_sub) d)
