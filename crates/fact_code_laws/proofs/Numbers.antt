-- Numbers read from places and written to places.
use Rattle.std.proofs.Common.{◌≡◌, ℕ, suc, ◌+◌, ◌%◌, ◌^◌, ◌<◌, ◌≤◌, Bool, true, false, List, [], ◌∷◌, ◌++◌, Option, Some, None, refl, sym, ap, ◌∙◌, subst, arith, slice_get, ◌/◌, append_assoc}
use Rattle.std.specs.Prelude.{nat_lt, nat_eq}
use Rattle.std.proofs.lemmas.Bool.{ltb-true, lt-ltb, eqb-true, eq-eqb}
use Rattle.std.proofs.lemmas.Nat.{mod_below}
use Rattle.std.proofs.Common.{lit<}
use Rattle.std.proofs.Math.Nat.{mod-eq_of_lt}
use Rattle.fact_wasm.specs.declared.types.ValType.{ValType}
use Rattle.fact_wasm.specs.declared.types.ValType.TheVariants as val
use Rattle.fact_wasm.specs.declared.instr.Instr.{Instr}
use Rattle.fact_wasm.specs.declared.instr.Instr.TheVariants as I
use Rattle.fact_wasm.specs.declared.module.WasmModule.{WasmModule}
use Rattle.fact_machine.specs.declared.types.CoreValue.{CoreValue}
use Rattle.fact_machine.specs.declared.types.CoreValue.TheVariants.{I32, I64, F32, F64}
use Rattle.fact_machine.specs.World.{World}
use Rattle.fact_machine.specs.Machine.{has_type}
use Rattle.fact_machine.proofs.Laws.{leaves_next, leaves_none, leaves_as}
use Rattle.fact_machine.proofs.RowLaws.{leaves_local_get}
use Rattle.fact_machine.proofs.NumericLaws.{leaves_i32_wrap_i64, leaves_i32_reinterpret_f32, leaves_i64_reinterpret_f64, leaves_i64_extend_i32_u, leaves_f32_reinterpret_i32, leaves_f64_reinterpret_i64, leaves_i64_const, leaves_i64_shr_u, leaves_i64_eqz}
use Rattle.fact_machine.specs.Typing.{address_operand}
use Rattle.fact_types.specs.declared.outside.CoreDef.{CoreDef}
use Rattle.fact_values.specs.Lift.{bits_of}
use Rattle.fact_actions.specs.Actions as action
use Rattle.fact_actions.specs.Actions.{Action, Give, Read, Write, unless}
use Rattle.fact_actions.specs.Running.{ImportPlaces}
use Rattle.fact_types.specs.declared.outside.MemoryOption.{MemoryOption}
use Rattle.fact_actions.specs.Sides.{LiftLowerOptions, Source, Values, AtAddress, Target, Slots, Into, core_value, in_value, read_number, write_number, low_half}
use Rattle.fact_code_laws.specs.Does.{Locals, Way, Onward, held_types, Does, PushesValue}
use Rattle.fact_code_laws.specs.Knows.{KnowsMemory}
use Rattle.fact_code_laws.specs.Places.{Readable, Writable, From, InLocals, InMemory, To, ToLocals, ToMemory, AreHeld, StandsAt, MayGo, Stood, KeepsLocals, Number, N8, N16, N32, N64, size_of, stacked, limit_of, MayHoldI32, MayHoldI64, MayHold, to_i32, to_i64, from_i32, from_i64, narrow, widen, memarg_at, read_code, code_before, code_behind, DebugChecks, Off, On, is_on, is_halved, HasUpper, upper_test, upper_check, load_of}
use Rattle.fact_code_laws.specs.Rows.{LoadU8, LoadU16, LoadI32, LoadI64, StoreI8, StoreI16, StoreI32, StoreI64, load_code, load_align}
use Rattle.fact_code_laws.proofs.Rules.{IsSet, within, stretch, pushing, done, local_get, local_set}
use Rattle.fact_code_laws.proofs.Primitives.{load, store}
use Rattle.fact_code_laws.proofs.Blocks.{weaker, guard}
use Rattle.fact_machine.specs.Exits.{Falls, Leaves}
use Rattle.fact_machine.specs.Typed.{is_bits, is_value}
use Rattle.fact_machine.proofs.Tests.{first_of, second_of}
use Rattle.std.specs.Cmp.{both_ways}
use Rattle.fact_types.specs.declared.outside.Trap.TheVariants.{DebugAssertUpperBitsUnset}
use Rattle.fact_machine.specs.Numerics.{truth}
use Rattle.fact_code_laws.specs.Code.{guard_code}

-- ---- values as numbers

-- the number of so many bytes that stands in a value
abbrev pub number_in : Number → CoreValue → ℕ
number_in N64 v = bits_of v
number_in _ v = bits_of v % 2 ^ 32

low_same : (n : ℕ) → nat_lt n (2 ^ 32) ≡ true → n ≡ n % 2 ^ 32
low_same n h = sym (mod-eq_of_lt (ltb-true n (2 ^ 32) h))

pub value_type : (v : CoreValue) (t : ValType) → is_value v t ≡ true → has_type v t ≡ true
value_type v t h = first_of (has_type v t) (is_bits v) h

-- ---- out of a local

-- a local, and code behind it, that push a value in at most two steps
pub record Gets (M : WasmModule) (ls : Locals) (i : ℕ) (code : List Instr) (v : CoreValue) : Type 0 where
  pub steps : ℕ
  pub few : steps ≤ 2
  pub pushes : PushesValue M steps ls (I.LocalGet i ∷ code) v

module _ {M : WasmModule} {ls : Locals} {i : ℕ} where
  gets : {v u : CoreValue} → v ≡ u → slice_get ls i ≡ Some (Some v) → Gets M ls i [] u
  gets {v} {u} e h = record { steps = 1; few = omega arith; pushes = record { by = λ w vs. leaves_as (ap (λ x. Falls w (x ∷ vs) ls) e) (leaves_next (leaves_local_get h) leaves_none) } }

  as_i32 : (t : ValType) (v : CoreValue) → MayHoldI32 t → is_value v t ≡ true → has_type v t ≡ true → slice_get ls i ≡ Some (Some v) → Gets M ls i (to_i32 t) (I32 (bits_of v % 2 ^ 32))
  as_i32 val.F64 v m h e there = absurd m
  as_i32 val.FuncRef v m h e there = absurd m
  as_i32 val.I32 (I32 n) m h e there = gets (ap (λ x. I32 x) (low_same n h)) there
  as_i32 val.I64 (I64 n) m h e there = record { steps = 2; few = omega arith; pushes = record { by = λ w vs. leaves_next (leaves_local_get there) leaves_i32_wrap_i64 } }
  as_i32 val.F32 (F32 n) m h e there = record { steps = 2; few = omega arith; pushes = record { by = λ w vs. leaves_next (leaves_local_get there) (leaves_as (ap (λ x. Falls w (I32 x ∷ vs) ls) (low_same n h)) leaves_i32_reinterpret_f32) } }
  as_i32 _ _ m h e there = cc

  as_i64 : (t : ValType) (v : CoreValue) → MayHoldI64 t → has_type v t ≡ true → slice_get ls i ≡ Some (Some v) → Gets M ls i (to_i64 t) (I64 (bits_of v))
  as_i64 val.I32 v m e there = absurd m
  as_i64 val.F32 v m e there = absurd m
  as_i64 val.FuncRef v m e there = absurd m
  as_i64 val.I64 (I64 n) m e there = gets refl there
  as_i64 val.F64 (F64 n) m e there = record { steps = 2; few = omega arith; pushes = record { by = λ w vs. leaves_next (leaves_local_get there) leaves_i64_reinterpret_f64 } }
  as_i64 _ _ m e there = cc

  -- a number out of a local
  pub out_of_local : (n : Number) (t : ValType) (v : CoreValue) → MayHold n t → is_value v t ≡ true → slice_get ls i ≡ Some (Some v) → Gets M ls i (narrow n t) (stacked n (number_in n v))
  out_of_local N8 t v m h there = as_i32 t v m h (value_type v t h) there
  out_of_local N16 t v m h there = as_i32 t v m h (value_type v t h) there
  out_of_local N32 t v m h there = as_i32 t v m h (value_type v t h) there
  out_of_local N64 t v m h there = as_i64 t v m (value_type v t h) there

bits_bound : (v : CoreValue) (t : ValType) → MayHoldI64 t → has_type v t ≡ true → is_value v t ≡ true → bits_of v < 2 ^ 64
bits_bound v val.I32 m e h = absurd m
bits_bound v val.F32 m e h = absurd m
bits_bound v val.FuncRef m e h = absurd m
bits_bound (I64 n) t m e h = ltb-true n (2 ^ 64) (second_of (has_type (I64 n) t) (nat_lt n (2 ^ 64)) h)
bits_bound (F64 n) t m e h = ltb-true n (2 ^ 64) (second_of (has_type (F64 n) t) (nat_lt n (2 ^ 64)) h)
bits_bound _ _ m e h = cc

number_limit : (n : Number) (t : ValType) (v : CoreValue) → MayHold n t → is_value v t ≡ true → number_in n v < limit_of n
number_limit N8 t v m h = mod_below (bits_of v) (2 ^ 32) (lit< tt)
number_limit N16 t v m h = mod_below (bits_of v) (2 ^ 32) (lit< tt)
number_limit N32 t v m h = mod_below (bits_of v) (2 ^ 32) (lit< tt)
number_limit N64 t v m h = bits_bound v t m (value_type v t h) h

-- ---- numbers that are read

module _ {A : Type 0} {M : WasmModule} {p : ImportPlaces} {way : Way} {extra spare : ℕ} {ins : List CoreValue} {ls : Locals} {c : List Instr} {out : A → List CoreValue} {Holds : A → Locals → Type 0} {k : ℕ → Action A} where
  from_memory : (n : Number) {d : CoreDef} {memory64 : Bool} {log2 : Option ℕ} (memory base offset start a : ℕ) → KnowsMemory M p d memory memory64 log2 → slice_get ls base ≡ Some (Some (address_operand memory64 start)) → a ≡ start + offset
      → ((x : ℕ) → x < limit_of n → Does M p way extra spare (stacked n x ∷ ins) ls c (k x) out Holds)
      → Does M p way (suc (suc extra)) spare ins ls ((I.LocalGet base ∷ load_code (load_of n) (memarg_at (load_align (load_of n)) offset memory) ∷ []) ++ c) (Read (size_of n) d a k) out Holds
  from_memory N8 memory base offset start a h there is go = local_get there (load LoadU8 (memarg_at 0 offset memory) start h is (λ x lt. go x (omega arith)))
  from_memory N16 memory base offset start a h there is go = local_get there (load LoadU16 (memarg_at 1 offset memory) start h is (λ x lt. go x (omega arith)))
  from_memory N32 memory base offset start a h there is go = local_get there (load LoadI32 (memarg_at 2 offset memory) start h is (λ x lt. go x (omega arith)))
  from_memory N64 memory base offset start a h there is go = local_get there (load LoadI64 (memarg_at 3 offset memory) start h is (λ x lt. go x (omega arith)))

-- ---- numbers of locals

upper_is : (x : ℕ) → nat_eq (x / 2 ^ 32) 0 ≡ nat_lt x (2 ^ 32)
upper_is x = both_ways _ _ up down
  where
    up : nat_eq (x / 2 ^ 32) 0 ≡ true → nat_lt x (2 ^ 32) ≡ true
    up h = let none : x / 2 ^ 32 ≡ 0 = eqb-true (x / 2 ^ 32) 0 h in lt-ltb x (2 ^ 32) (omega arith)

    down : nat_lt x (2 ^ 32) ≡ true → nat_eq (x / 2 ^ 32) 0 ≡ true
    down h = let few : x < 2 ^ 32 = ltb-true x (2 ^ 32) h in eq-eqb (x / 2 ^ 32) 0 (omega arith)

pushes_upper : {M : WasmModule} {ls : Locals} (i x : ℕ) → slice_get ls i ≡ Some (Some (I64 x)) → PushesValue M 4 ls (upper_test i) (I32 (truth (nat_lt x (2 ^ 32))))
pushes_upper {M} {ls} i x h = record {
  by = λ w vs. leaves_next (leaves_local_get h) (leaves_next leaves_i64_const (leaves_next leaves_i64_shr_u (leaves_as (ap (λ b. Falls w (I32 (truth b) ∷ vs) ls) (upper_is x)) leaves_i64_eqz)));
}

-- a value of a type of 64 bits
wide_value : (v : CoreValue) → has_type v val.I64 ≡ true → (x : ℕ) × (v ≡ I64 x)
wide_value (I64 x) h = (x, refl)
wide_value _ h = cc

halved_value : (n : Number) (t : ValType) (v : CoreValue) → has_type v t ≡ true → is_halved n t ≡ true → (x : ℕ) × (v ≡ I64 x)
halved_value N64 t v h e = cc
halved_value N8 val.I64 v h e = wide_value v h
halved_value N16 val.I64 v h e = wide_value v h
halved_value N32 val.I64 v h e = wide_value v h
halved_value _ _ v h e = cc

module _ {A : Type 0} (vs : List CoreValue) (k : ℕ → Action A) where
  -- what is read where no half is left out
  value_read : (n : Number) (v : CoreValue) → in_value false (size_of n) (v ∷ vs) k ≡ k (number_in n v)
  value_read N8 v = refl
  value_read N16 v = refl
  value_read N32 v = refl
  value_read N64 v = refl

  low_read : (t : ValType) (v : CoreValue) → MayHoldI32 t → has_type v t ≡ true → is_halved N32 t ≡ false → low_half true v k ≡ k (bits_of v % 2 ^ 32)
  low_read val.I64 v m h e = cc
  low_read val.F64 v m h e = absurd m
  low_read val.FuncRef v m h e = absurd m
  low_read val.I32 (I32 x) m h e = refl
  low_read val.F32 (F32 x) m h e = refl
  low_read _ _ m h e = cc

  whole_read : (n : Number) (t : ValType) (v : CoreValue) → MayHold n t → has_type v t ≡ true → is_halved n t ≡ false → in_value true (size_of n) (v ∷ vs) k ≡ k (number_in n v)
  whole_read N64 t v m h e = refl
  whole_read N8 t v m h e = low_read t v m h e
  whole_read N16 t v m h e = low_read t v m h e
  whole_read N32 t v m h e = low_read t v m h e

  -- and where one is
  half_read : (n : Number) (t : ValType) (x : ℕ) → is_halved n t ≡ true → in_value true (size_of n) (I64 x ∷ vs) k ≡ unless DebugAssertUpperBitsUnset (nat_lt x (2 ^ 32)) (k (number_in n (I64 x)))
  half_read N64 t x e = cc
  half_read N8 t x e = refl
  half_read N16 t x e = refl
  half_read N32 t x e = refl

module _ {A : Type 0} {M : WasmModule} {p : ImportPlaces} {way : Way} {extra spare : ℕ} {ins : List CoreValue} {ls : Locals} {c : List Instr} {out : A → List CoreValue} {Holds : A → Locals → Type 0} {k : ℕ → Action A}
    (n : Number) (i : ℕ) (t : ValType) (v : CoreValue) (vs : List CoreValue) (may : MayHold n t) (value : is_value v t ≡ true) (there : slice_get ls i ≡ Some (Some v))
    (go : (x : ℕ) → x < limit_of n → Does M p way extra spare (stacked n x ∷ ins) ls c (k x) out Holds) where
  unchecked : Does M p way (2 + extra) spare ins ls (I.LocalGet i ∷ (narrow n t ++ c)) (k (number_in n v)) out Holds
  unchecked = let g = out_of_local n t v may value there in within (omega (arith, g.few)) (pushing g.pushes (go (number_in n v) (number_limit n t v may value)))

  local_reads : (checks : DebugChecks) (halved : Bool) → is_halved n t ≡ halved → HasUpper M p checks halved
      → Does M p way (8 + extra) spare ins ls (upper_check checks halved i ++ (I.LocalGet i ∷ (narrow n t ++ c))) (in_value (is_on checks) (size_of n) (v ∷ vs) k) out Holds
  local_reads Off halved e h = subst (λ q. Does M p way (8 + extra) spare ins ls (I.LocalGet i ∷ (narrow n t ++ c)) q out Holds) (sym (value_read vs k n v)) (within (omega arith) unchecked)
  local_reads (On upper aligned) false e h = subst (λ q. Does M p way (8 + extra) spare ins ls (I.LocalGet i ∷ (narrow n t ++ c)) q out Holds) (sym (whole_read vs k n t v may (value_type v t value) e)) (within (omega arith) unchecked)
  local_reads (On upper aligned) true e h =
      let x = halved_value n t v (value_type v t value) e in
      let is : in_value true (size_of n) (v ∷ vs) k ≡ unless DebugAssertUpperBitsUnset (nat_lt x.0 (2 ^ 32)) (k (number_in n v)) =
      ap (λ u. in_value true (size_of n) (u ∷ vs) k) x.1 ∙ half_read vs k n t x.0 e ∙ ap (λ u. unless DebugAssertUpperBitsUnset (nat_lt x.0 (2 ^ 32)) (k (number_in n u))) (sym x.1) in
      subst (λ q. Does M p way (8 + extra) spare ins ls (guard_code (upper_test i) upper ++ (I.LocalGet i ∷ (narrow n t ++ c))) q out Holds) (sym is)
      (within (omega arith) (guard (nat_lt x.0 (2 ^ 32)) h (pushes_upper i x.0 (there ∙ ap (λ u. Some (Some u)) x.1)) (λ good. unchecked)))

-- The number at a place, in front of other code.
pub reads : {A : Type 0} {M : WasmModule} {p : ImportPlaces} {way : Way} {extra spare : ℕ} {ins : List CoreValue} {ls : Locals} {c : List Instr} {out : A → List CoreValue} {Holds : A → Locals → Type 0} {k : ℕ → Action A}
    (checks : DebugChecks) (n : Number) (o : LiftLowerOptions) (memory64 : Bool) (from : From) (s : Source) → Readable M p checks o memory64 n from → StandsAt ls memory64 from s
    → ((x : ℕ) → x < limit_of n → Does M p way extra spare (stacked n x ∷ ins) ls c (k x) out Holds)
    → Does M p way (8 + extra) spare ins ls (read_code checks n from ++ c) (read_number (is_on checks) o (size_of n) s k) out Holds
reads checks n o memory64 (InLocals []) s h st go = absurd h
reads checks n o memory64 (InLocals (slot ∷ slots)) (AtAddress a) h st go = absurd st
reads checks n o memory64 (InLocals (slot ∷ slots)) (Values []) h st go = absurd st
reads {M = M} {p} {way} {extra} {spare} {ins} {ls} {c} {out} {Holds} {k} checks n o memory64 (InLocals (slot ∷ slots)) (Values (v ∷ vs)) h st go =
    subst (λ code. Does M p way (8 + extra) spare ins ls code (in_value (is_on checks) (size_of n) (v ∷ vs) k) out Holds) (sym (append_assoc (upper_check checks (is_halved n slot.1) slot.0) (I.LocalGet slot.0 ∷ narrow n slot.1) c))
    (local_reads n slot.0 slot.1 v vs h.0 st.0.value st.0.there go checks (is_halved n slot.1) refl h.1)
reads checks n o memory64 (InMemory memory base offset) (Values vs) h st go = absurd st
reads {A} {M} {p} {way} {extra} {spare} {ins} {ls} {c} {out} {Holds} {k} checks n o memory64 (InMemory memory base offset) (AtAddress a) h st go =
    subst (λ q. Does M p way (8 + extra) spare ins ls (read_code checks n (InMemory memory base offset) ++ c) q out Holds)
    (sym (ap (λ x. elim x as (λ (x : Option MemoryOption). Action A) [ None ↦ action.Unreachable | Some m ↦ Read (size_of n) m.def a k ]) h.is))
    (within (omega arith) (from_memory n memory base offset st.start a h.has st.there st.is go))

-- ---- numbers that are written

-- code that makes one value of another in at most one step
pub record Makes (M : WasmModule) (ls : Locals) (code : List Instr) (u v : CoreValue) : Type 0 where
  pub steps : ℕ
  pub few : steps ≤ 1
  pub leaves : (w : World) (vs : List CoreValue) → Leaves M steps code w (u ∷ vs) ls (Falls w (v ∷ vs) ls)

module _ {M : WasmModule} {ls : Locals} (x : ℕ) where
  out_of_i32 : (t : ValType) → MayHoldI32 t → Makes M ls (from_i32 t) (I32 x) (core_value t x)
  out_of_i32 val.I32 m = record { steps = 0; few = omega arith; leaves = λ w vs. leaves_none }
  out_of_i32 val.I64 m = record { steps = 1; few = omega arith; leaves = λ w vs. leaves_i64_extend_i32_u }
  out_of_i32 val.F32 m = record { steps = 1; few = omega arith; leaves = λ w vs. leaves_f32_reinterpret_i32 }
  out_of_i32 val.F64 m = absurd m
  out_of_i32 val.FuncRef m = absurd m

  out_of_i64 : (t : ValType) → MayHoldI64 t → Makes M ls (from_i64 t) (I64 x) (core_value t x)
  out_of_i64 val.I32 m = absurd m
  out_of_i64 val.I64 m = record { steps = 0; few = omega arith; leaves = λ w vs. leaves_none }
  out_of_i64 val.F32 m = absurd m
  out_of_i64 val.F64 m = record { steps = 1; few = omega arith; leaves = λ w vs. leaves_f64_reinterpret_i64 }
  out_of_i64 val.FuncRef m = absurd m

  pub out_of_stack : (n : Number) (t : ValType) → MayHold n t → Makes M ls (widen n t) (stacked n x) (core_value t x)
  out_of_stack N8 t m = out_of_i32 t m
  out_of_stack N16 t m = out_of_i32 t m
  out_of_stack N32 t m = out_of_i32 t m
  out_of_stack N64 t m = out_of_i64 t m

module _ (x : ℕ) where
  value_of_i32 : (t : ValType) → MayHoldI32 t → x < 2 ^ 32 → is_value (core_value t x) t ≡ true
  value_of_i32 val.I32 m lt = lt-ltb x (2 ^ 32) lt
  value_of_i32 val.I64 m lt = lt-ltb x (2 ^ 64) (omega arith)
  value_of_i32 val.F32 m lt = lt-ltb x (2 ^ 32) lt
  value_of_i32 val.F64 m lt = absurd m
  value_of_i32 val.FuncRef m lt = absurd m

  value_of_i64 : (t : ValType) → MayHoldI64 t → x < 2 ^ 64 → is_value (core_value t x) t ≡ true
  value_of_i64 val.I32 m lt = absurd m
  value_of_i64 val.I64 m lt = lt-ltb x (2 ^ 64) lt
  value_of_i64 val.F32 m lt = absurd m
  value_of_i64 val.F64 m lt = lt-ltb x (2 ^ 64) lt
  value_of_i64 val.FuncRef m lt = absurd m

  -- it is a value of the local's type
  pub value_stands : (n : Number) (t : ValType) → MayHold n t → x < limit_of n → is_value (core_value t x) t ≡ true
  value_stands N8 t m lt = value_of_i32 t m lt
  value_stands N16 t m lt = value_of_i32 t m lt
  value_stands N32 t m lt = value_of_i32 t m lt
  value_stands N64 t m lt = value_of_i64 t m lt

-- what is below the number, where it goes to memory
abbrev pub below_number : (memory64 : Bool) (used : ℕ → Bool) (ls : Locals) (to : To) (d : Target) → MayGo used ls memory64 to d → List CoreValue
below_number memory64 used ls (ToLocals slots) d g = []
below_number memory64 used ls (ToMemory memory base offset) (Into a) g = address_operand memory64 g.start ∷ []
below_number memory64 used ls (ToMemory memory base offset) (Slots ts) g = []

-- The address of a target in front of the number.
pub begins : {A : Type 0} {M : WasmModule} {p : ImportPlaces} {way : Way} {extra spare : ℕ} {ls : Locals} {c : List Instr} {q : Action A} {out : A → List CoreValue} {Holds : A → Locals → Type 0}
    (memory64 : Bool) (used : ℕ → Bool) (to : To) (d : Target) (g : MayGo used ls memory64 to d) → Does M p way extra spare (below_number memory64 used ls to d g) ls c q out Holds → Does M p way (1 + extra) spare [] ls (code_before to ++ c) q out Holds
begins memory64 used (ToLocals slots) d g go = within (omega arith) go
begins memory64 used (ToMemory memory base offset) (Slots ts) g go = absurd g
begins memory64 used (ToMemory memory base offset) (Into a) g go = within (omega arith) (local_get g.there go)

-- a local that is set keeps those in use
pub set_keeps : {used : ℕ → Bool} {i : ℕ} {v : CoreValue} {ls ls' : Locals} → used i ≡ false → IsSet i v ls ls' → KeepsLocals used ls ls'
set_keeps {used} {i} free s = record { same = λ j u. s.others j (λ e. let no : false ≡ true = sym free ∙ ap used (sym e) ∙ u in cc); types = s.types }

module _ {M : WasmModule} {p : ImportPlaces} {ls : Locals} where
  to_memory : (n : Number) {d : CoreDef} {memory64 : Bool} {log2 : Option ℕ} (memory base offset start a x : ℕ) → KnowsMemory M p d memory memory64 log2 → a ≡ start + offset
      → Does M p Onward 1 0 (stacked n x ∷ address_operand memory64 start ∷ []) ls (code_behind n (ToMemory memory base offset)) (Write (size_of n) d a x (Give [])) (λ (vs : List CoreValue). []) (λ vs ls'. (vs ≡ []) × (ls' ≡ ls))
  to_memory N8 memory base offset start a x h is = store StoreI8 (memarg_at 0 offset memory) start x h is (done refl (refl, refl))
  to_memory N16 memory base offset start a x h is = store StoreI16 (memarg_at 1 offset memory) start x h is (done refl (refl, refl))
  to_memory N32 memory base offset start a x h is = store StoreI32 (memarg_at 2 offset memory) start x h is (done refl (refl, refl))
  to_memory N64 memory base offset start a x h is = store StoreI64 (memarg_at 3 offset memory) start x h is (done refl (refl, refl))

-- A number on the stack, into its place.
pub writes : {M : WasmModule} {p : ImportPlaces} {ls : Locals} {x : ℕ} (used : ℕ → Bool) (n : Number) (o : LiftLowerOptions) (memory64 : Bool) (to : To) (d : Target) → Writable M p o memory64 n to → (g : MayGo used ls memory64 to d) → x < limit_of n
    → Does M p Onward 2 0 (stacked n x ∷ below_number memory64 used ls to d g) ls (code_behind n to) (write_number o (size_of n) d x) (λ vs. []) (λ vs ls'. Stood ls' to vs × KeepsLocals used ls ls')
writes used n o memory64 (ToLocals []) d h g lt = absurd h
writes used n o memory64 (ToLocals (a ∷ b ∷ slots)) d h g lt = absurd h
writes used n o memory64 (ToLocals (slot ∷ [])) (Into a) h g lt = absurd g
writes used n o memory64 (ToLocals (slot ∷ [])) (Slots []) h g lt = absurd g
writes {M} {p} {ls} {x} used n o memory64 (ToLocals (slot ∷ [])) (Slots (t ∷ ts)) h g lt =
    let made = out_of_stack {M = M} {ls = ls} x n slot.1 h in
    let stands = value_stands x n slot.1 h lt in
    let set : Does M p Onward (made.steps + 1) 0 (stacked n x ∷ []) ls (widen n slot.1 ++ I.LocalSet slot.0 ∷ []) (Give (core_value slot.1 x ∷ [])) (λ vs. []) (λ vs ls'. AreHeld ls' (slot ∷ []) vs × KeepsLocals used ls ls') =
    stretch (λ w below. made.leaves w below) (local_set slot.1 (g.1 ∙ ap (λ t. Some t) (sym g.0)) (value_type (core_value slot.1 x) slot.1 stands) (λ ls' s.
    done refl ((record { there = s.here; value = stands }, tt), set_keeps g.2 s))) in
    subst (λ t. Does M p Onward 2 0 (stacked n x ∷ []) ls (widen n slot.1 ++ I.LocalSet slot.0 ∷ []) (Give (core_value t x ∷ [])) (λ vs. []) (λ vs ls'. AreHeld ls' (slot ∷ []) vs × KeepsLocals used ls ls')) g.0
    (within (omega (arith, made.few)) set)
writes used n o memory64 (ToMemory memory base offset) (Slots ts) h g lt = absurd g
writes {M} {p} {ls} {x} used n o memory64 (ToMemory memory base offset) (Into a) h g lt =
    subst (λ q. Does M p Onward 2 0 (stacked n x ∷ address_operand memory64 g.start ∷ []) ls (code_behind n (ToMemory memory base offset)) q (λ vs. []) (λ vs ls'. (vs ≡ []) × KeepsLocals used ls ls'))
    (sym (ap (λ y. elim y as (λ (y : Option MemoryOption). Action (List CoreValue)) [ None ↦ action.Unreachable | Some m ↦ Write (size_of n) m.def a x (Give []) ]) h.is))
    (within (omega arith) (weaker (λ vs. refl) (λ vs ls' e. (e.0, record { same = λ j u. ap (λ l. slice_get l j) e.1; types = ap held_types e.1 })) (to_memory n memory base offset g.start a x h.has g.is)))
