-- The code of moves of bits: what it leaves, its types, and the piece that moves a number by it.
use Rattle.std.proofs.Common.{◌≡◌, ℕ, suc, ◌+◌, ◌-◌, ◌*◌, ◌^◌, ◌<◌, ◌≤◌, Bool, true, false, List, [], ◌∷◌, ◌++◌, length, Some, refl, sym, ap, ◌∙◌, subst, arith, slice_get}
use Rattle.std.specs.Prelude.{nat_lt, if◌then◌else◌}
use Rattle.fact_wasm.specs.declared.instr.Instr.{Instr}
use Rattle.fact_wasm.specs.declared.instr.Instr.TheOpen as o
use Rattle.fact_wasm.specs.declared.instr.Instr.TheVariants as I
use Rattle.fact_wasm.specs.declared.module.WasmModule.{WasmModule}
use Rattle.fact_wasm.specs.declared.types.ValType.{ValType}
use Rattle.fact_wasm.specs.declared.types.ValType.TheVariants as val
use Rattle.fact_machine.specs.declared.types.CoreValue.{CoreValue}
use Rattle.fact_machine.specs.declared.types.CoreValue.TheVariants.{I32}
use Rattle.fact_machine.specs.Exits.{Falls, Leaves}
use Rattle.fact_machine.specs.Numerics.{ishl, ishr_u}
use Rattle.fact_machine.specs.World.{World}
use Rattle.fact_machine.proofs.Laws.{leaves_next, leaves_none, leaves_then}
use Rattle.fact_machine.proofs.RowLaws.{leaves_i32_const, leaves_local_get}
use Rattle.fact_machine.proofs.NumericLaws.{leaves_i32_and, leaves_i32_or, leaves_i32_shl, leaves_i32_shr_u}
use Rattle.fact_actions.specs.Actions.{Visit}
use Rattle.fact_actions.specs.Moves.{move_number}
use Rattle.fact_actions.specs.Sides.{Source, Target, write_number}
use Rattle.fact_code_laws.specs.Does.{Locals, Onward, held_types, Does}
use Rattle.fact_code_laws.specs.Places.{Setting, transfer, FitsNumber, From, To, StandsAt, MayGo, Stood, KeepsLocals, Moves, read_code, code_before, code_behind, ToUsed, DebugChecks, Number, size_of, limit_of}
use Rattle.fact_code_laws.specs.Typed.{OnStack, IsTyped}
use Rattle.fact_code_laws.proofs.Keeping.{writes_later}
use Rattle.fact_code_laws.proofs.Numbers.{reads, begins, set_keeps, below_number}
use Rattle.fact_code_laws.proofs.Rules.{within, visit, pushing, local_set}
use Rattle.fact_code_laws.proofs.Scalars.{IsNarrow}
use Rattle.fact_code_laws.proofs.Tested.{Temporary}
use Rattle.fact_code_laws.proofs.TypedPlaces.{typed_read, typed_before, typed_behind, below_type}
use Rattle.fact_code_laws.proofs.TypedRows.{takes_plain, takes_local_get, takes_local_set}
use Rattle.fact_code_laws.proofs.TypingLaws.{typed_done, typed_then, typed_next, typed_one}
use Rattle.fact_emit.specs.declared.bits.BitMove.{BitMove}
use Rattle.fact_emit.specs.PlacedBits.{shifted, moved_bits, shift_code, bit_moves_code}

-- ---- steps

abbrev shift_steps : (from to : ℕ) → ℕ
shift_steps from to = if nat_lt to from then 2 else (if nat_lt from to then 2 else 0)

abbrev bits_steps : List BitMove → ℕ
bits_steps [] = 1
bits_steps (m ∷ ms) = bits_steps ms + suc (shift_steps m.from m.to + 3)

shift_few : (from to : ℕ) → shift_steps from to ≤ 2
shift_few from to = go (nat_lt to from) (nat_lt from to)
  where
    go : (a b : Bool) → (if a then 2 else (if b then 2 else 0)) ≤ 2
    go true b = omega arith
    go false true = omega arith
    go false false = omega arith

steps_by_count : (ms : List BitMove) → bits_steps ms ≤ 1 + 6 * length ms
steps_by_count [] = omega arith
steps_by_count (m ∷ ms) = let h = steps_by_count ms in let s = shift_few m.from m.to in omega (arith, h, s)

-- ---- what it leaves

module _ {M : WasmModule} {ls : Locals} where
  shift_leaves : (from to x : ℕ) (w : World) (vs : List CoreValue) → Leaves M (shift_steps from to) (shift_code from to) w (I32 x ∷ vs) ls (Falls w (I32 (shifted from to x) ∷ vs) ls)
  shift_leaves from to x w vs = go (nat_lt to from) (nat_lt from to)
    where
      go : (a b : Bool)
          → Leaves M (if a then 2 else (if b then 2 else 0)) (if a then (I.I32Const (from - to) ∷ I.I32ShrU ∷ []) else (if b then (I.I32Const (to - from) ∷ I.I32Shl ∷ []) else [])) w (I32 x ∷ vs) ls
          (Falls w (I32 (if a then ishr_u 32 x (from - to) else (if b then ishl 32 x (to - from) else x)) ∷ vs) ls)
      go true b = leaves_next leaves_i32_const leaves_i32_shr_u
      go false true = leaves_next leaves_i32_const leaves_i32_shl
      go false false = leaves_none

  module _ (temp x : ℕ) (held : slice_get ls temp ≡ Some (Some (I32 x))) where
    bits_leave : (ms : List BitMove) (w : World) (vs : List CoreValue) → Leaves M (bits_steps ms) (bit_moves_code temp ms) w vs ls (Falls w (I32 (moved_bits ms x) ∷ vs) ls)
    bits_leave [] w vs = leaves_i32_const
    bits_leave (m ∷ ms) w vs =
        leaves_then (bits_leave ms w vs)
        (leaves_next (leaves_local_get held) (leaves_then (shift_leaves m.from m.to x w (I32 (moved_bits ms x) ∷ vs)) (leaves_next leaves_i32_const (leaves_next leaves_i32_and leaves_i32_or))))

-- ---- its types

module _ {M : WasmModule} {locals : List ValType} {labels : List (List ValType)} where
  shift_typed : (from to : ℕ) {ins : List ValType} → IsTyped M locals labels (shift_code from to) (val.I32 ∷ ins) (OnStack (val.I32 ∷ ins))
  shift_typed from to {ins} = go (nat_lt to from) (nat_lt from to)
    where
      go : (a b : Bool) → IsTyped M locals labels (if a then (I.I32Const (from - to) ∷ I.I32ShrU ∷ []) else (if b then (I.I32Const (to - from) ∷ I.I32Shl ∷ []) else [])) (val.I32 ∷ ins) (OnStack (val.I32 ∷ ins))
      go true b = typed_next (takes_plain (o.I32Const _) (I.outs-I32Const _) refl) (typed_one (takes_plain o.I32ShrU I.outs-I32ShrU refl))
      go false true = typed_next (takes_plain (o.I32Const _) (I.outs-I32Const _) refl) (typed_one (takes_plain o.I32Shl I.outs-I32Shl refl))
      go false false = typed_done

  module _ (temp : ℕ) (h : slice_get locals temp ≡ Some val.I32) where
    bits_typed : (ms : List BitMove) {ins : List ValType} → IsTyped M locals labels (bit_moves_code temp ms) ins (OnStack (val.I32 ∷ ins))
    bits_typed [] = typed_one (takes_plain (o.I32Const _) (I.outs-I32Const _) refl)
    bits_typed (m ∷ ms) =
        typed_then (bits_typed ms)
        (typed_next (takes_local_get h)
        (typed_then (shift_typed m.from m.to)
        (typed_next (takes_plain (o.I32Const _) (I.outs-I32Const _) refl) (typed_next (takes_plain o.I32And I.outs-I32And refl) (typed_one (takes_plain o.I32Or I.outs-I32Or refl))))))

-- ---- the move

-- a number through a temporary local
abbrev pub bits_code : DebugChecks → Number → List BitMove → (temp : ℕ) → From → To → List Instr
bits_code checks n ms temp from to = code_before to ++ (read_code checks n from ++ (I.LocalSet temp ∷ (bit_moves_code temp ms ++ code_behind n to)))

module _ (S : Setting) (used : ℕ → Bool) (from : From) (to : To) (temp : ℕ) (n : Number) (narrow : IsNarrow n) (h : FitsNumber S n from to) (u : ToUsed used to) (t : Temporary S used temp val.I32) (ms : List BitMove) (few : length ms ≤ 32) (small : (x : ℕ) → moved_bits ms x < 2 ^ 32) where
  bits_do : (ls : Locals) (s : Source) (d : Target) → held_types ls ≡ S.locals → StandsAt ls S.from64 from s → MayGo used ls S.to64 to d
      → Does S.whole S.places Onward 300 0 [] ls (bits_code S.checks n ms temp from to) (move_number (transfer S) (size_of n) (size_of n) (moved_bits ms) s d) (λ vs. []) (λ vs ls'. Stood ls' to vs × KeepsLocals used ls ls')
  bits_do ls s d e st g =
      let steps : bits_steps ms ≤ 193 = let c = steps_by_count ms in omega (arith, c, few) in
      let below : (x : ℕ) → moved_bits ms x < limit_of n = λ x. subst (λ k. moved_bits ms x < k) (sym narrow.below) (small x) in
      within (omega (arith, steps)) (begins S.to64 used to d g (reads S.checks n S.from S.from64 from s h.readable st (λ x lt.
      subst (λ v. Does S.whole S.places Onward 280 0 (v ∷ below_number S.to64 used ls to d g) ls (I.LocalSet temp ∷ (bit_moves_code temp ms ++ code_behind n to)) (write_number S.to (size_of n) d (moved_bits ms x)) (λ vs. []) (λ vs ls'. Stood ls' to vs × KeepsLocals used ls ls')) (sym (narrow.value x))
      (within (omega (arith, steps)) (local_set val.I32 (ap (λ l. slice_get l temp) e ∙ t.local) refl (λ ls1 set.
      pushing (record { by = λ w vs. bits_leave temp x set.here ms w vs })
      (subst (λ v. Does S.whole S.places Onward 2 0 (v ∷ below_number S.to64 used ls to d g) ls1 (code_behind n to) (write_number S.to (size_of n) d (moved_bits ms x)) (λ vs. []) (λ vs ls'. Stood ls' to vs × KeepsLocals used ls ls')) (narrow.value (moved_bits ms x))
      (writes_later used n S.to S.to64 to d h.writable (set_keeps t.free set) u g (below x)))))))))

  -- A number is read, and that of the bits that moves take of it written, within 300 steps.
  pub moves_bits : Moves S used 0 600 from to (λ s d. Visit 1 (move_number (transfer S) (size_of n) (size_of n) (moved_bits ms) s d)) (bits_code S.checks n ms temp from to)
  moves_bits = record {
    effect = λ ls s d e st g rooms. visit (omega arith) (bits_do ls s d e st g);
    typed =
        typed_then (typed_before S.to64 to h.to_typed) (typed_then (typed_read S.places S.checks S.from S.from64 n from h.readable h.from_typed)
        (subst (λ v. IsTyped S.whole S.locals [] (I.LocalSet temp ∷ (bit_moves_code temp ms ++ code_behind n to)) (v ∷ (below_type S.to64 to ++ [])) (OnStack [])) (sym narrow.type)
        (typed_next (takes_local_set t.local) (typed_then (bits_typed temp t.local ms)
        (subst (λ v. IsTyped S.whole S.locals [] (code_behind n to) (v ∷ (below_type S.to64 to ++ [])) (OnStack [])) narrow.type (typed_behind S.places S.to S.to64 n to h.writable h.to_typed))))));
  }
