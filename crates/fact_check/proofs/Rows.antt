-- Instructions that change the operands, the locals, the globals and the memories, in a typed machine.
use Rattle.std.proofs.Common.{◌≡◌, ℕ, zero, suc, ◌+◌, ◌≤◌, ◌/◌, ◌^◌, Bool, true, false, ◌&&◌, List, [], ◌∷◌, ◌++◌, Option, Some, None, refl, sym, ap, ◌∙◌, subst, length, slice_get, arith}
use Rattle.std.specs.Prelude.{nat_le, nat_lt, slice_set, option_and_then, if◌then◌else◌}
use Rattle.std.proofs.lemmas.Bool.{false≢true, leb-true, lt-ltb}
use Rattle.std.proofs.Math.Nat.{div-le_self}
use Rattle.fact_wasm.specs.declared.types.ValType.{ValType}
use Rattle.fact_wasm.specs.declared.types.ValType.TheVariants as val
use Rattle.fact_wasm.specs.declared.instr.MemArg.{MemArg}
use Rattle.fact_wasm.specs.declared.instr.Instr.{Instr}
use Rattle.fact_wasm.specs.declared.module.WasmModule.{WasmModule}
use Rattle.fact_machine.specs.declared.types.CoreValue.{CoreValue}
use Rattle.fact_machine.specs.declared.types.CoreValue.TheVariants.{I32, I64, F32, F64, Func}
use Rattle.fact_machine.specs.World.{World, Done, Halt, Trap, read, write, written, with_number, number_at, set_global}
use Rattle.fact_machine.specs.Operands.{unary_i32, unary_i64, unary_f32, unary_f64, binary_i32, binary_i64, drop_one, alike, pick, select_one}
use Rattle.fact_machine.specs.Machine.{Around, At, Did, Goes, or_stuck, check, on_res, has_type, have_types, type_of, may_follow, with_top, with_i32, with_i64, with_address, set_local, memory_import, page_bytes, size_value, load, store, memory_size}
use Rattle.fact_machine.specs.Typed.{FitsWidth}
use Rattle.fact_machine.specs.Typing.{Operands, Known, only_if, is_number, same_type, pop, change, drop_operand, choose, ends, address_bits, address_type, address_at, load_typing, store_typing, global_import, code_typing}
use Rattle.fact_machine.proofs.Tests.{first_of, second_of, both}
use Rattle.fact_machine.proofs.Places.{store_keeps_length}
use Rattle.fact_check.proofs.Known.{some_of, some_if, same_is, GoesOn, changes, takes_one, found, allowed}
use Rattle.fact_check.proofs.Invariant.{context, Stands, LeadsOn}
use Rattle.fact_check.proofs.States.{type_is, alike_is, local_at, local_set, memory_kept, global_kept}

module _ (M : WasmModule) (w : World) (ls : List (Option CoreValue)) (rest : List Instr) (k : Around) (locals : List ValType) (labels : List (List ValType)) (gives : List ValType) (s : Stands M w ls k locals labels gives) where
  -- what stands behind
  abbrev pub go : Operands → Option Operands
  go z = code_typing (context M locals labels) rest z

  abbrev pub OnFrom : List ValType → Type 0
  OnFrom us = ends gives (go (Known us)) ≡ true

  -- with other operands alone it goes on
  pub goes : (vs : List CoreValue) (us : List ValType) → have_types vs us ≡ true → OnFrom us → LeadsOn M (Goes (At w vs ls rest k))
  goes vs us h e typed = record { locals = locals; labels = labels; gives = gives; operands = us; stands = s; values = h; behind = e }

  -- values of the types that are left when these are taken
  taken : (ins outs us : List ValType) (vs : List CoreValue) → have_types vs us ≡ true → GoesOn gives go (change ins outs (Known us)) → (left : List ValType) × (have_types vs (ins ++ left) ≡ true) × OnFrom (outs ++ left)
  taken ins outs us vs h e = let r = changes gives ins outs us go e in (r.0, subst (λ l. have_types vs l ≡ true) r.1 h, r.2)

  -- ---- operands

  abbrev Operated : Option (List CoreValue) → Type 0
  Operated o = LeadsOn M (or_stuck w o (λ us. Goes (At w us ls rest k)))

  pub constant : (v : CoreValue) (t : ValType) → has_type v t ≡ true → (vs : List CoreValue) (us : List ValType) → have_types vs us ≡ true → GoesOn gives go (change [] (t ∷ []) (Known us)) → Operated (Some (v ∷ vs))
  constant v t q vs us h e = let r = taken [] (t ∷ []) us vs h e in goes (v ∷ vs) (t ∷ r.0) (both q r.1) r.2

  module _ (t : ValType) where
    one_i32 : (f : ℕ → CoreValue) → ((i : ℕ) → has_type (f i) t ≡ true) → (vs : List CoreValue) (left : List ValType) → have_types vs (val.I32 ∷ left) ≡ true → OnFrom (t ∷ left) → Operated (unary_i32 f vs)
    one_i32 f each (I32 i ∷ vs) left h e = goes (f i ∷ vs) (t ∷ left) (both (each i) h) e
    one_i32 f each _ left h e = cc

    one_i64 : (f : ℕ → CoreValue) → ((i : ℕ) → has_type (f i) t ≡ true) → (vs : List CoreValue) (left : List ValType) → have_types vs (val.I64 ∷ left) ≡ true → OnFrom (t ∷ left) → Operated (unary_i64 f vs)
    one_i64 f each (I64 i ∷ vs) left h e = goes (f i ∷ vs) (t ∷ left) (both (each i) h) e
    one_i64 f each _ left h e = cc

    one_f32 : (f : ℕ → CoreValue) → ((i : ℕ) → has_type (f i) t ≡ true) → (vs : List CoreValue) (left : List ValType) → have_types vs (val.F32 ∷ left) ≡ true → OnFrom (t ∷ left) → Operated (unary_f32 f vs)
    one_f32 f each (F32 i ∷ vs) left h e = goes (f i ∷ vs) (t ∷ left) (both (each i) h) e
    one_f32 f each _ left h e = cc

    one_f64 : (f : ℕ → CoreValue) → ((i : ℕ) → has_type (f i) t ≡ true) → (vs : List CoreValue) (left : List ValType) → have_types vs (val.F64 ∷ left) ≡ true → OnFrom (t ∷ left) → Operated (unary_f64 f vs)
    one_f64 f each (F64 i ∷ vs) left h e = goes (f i ∷ vs) (t ∷ left) (both (each i) h) e
    one_f64 f each _ left h e = cc

    two_i32 : (f : ℕ → ℕ → CoreValue) → ((i j : ℕ) → has_type (f i j) t ≡ true) → (vs : List CoreValue) (left : List ValType) → have_types vs (val.I32 ∷ val.I32 ∷ left) ≡ true → OnFrom (t ∷ left) → Operated (binary_i32 f vs)
    two_i32 f each (I32 j ∷ I32 i ∷ vs) left h e = goes (f i j ∷ vs) (t ∷ left) (both (each i j) h) e
    two_i32 f each _ left h e = cc

    two_i64 : (f : ℕ → ℕ → CoreValue) → ((i j : ℕ) → has_type (f i j) t ≡ true) → (vs : List CoreValue) (left : List ValType) → have_types vs (val.I64 ∷ val.I64 ∷ left) ≡ true → OnFrom (t ∷ left) → Operated (binary_i64 f vs)
    two_i64 f each (I64 j ∷ I64 i ∷ vs) left h e = goes (f i j ∷ vs) (t ∷ left) (both (each i j) h) e
    two_i64 f each _ left h e = cc

    module _ (vs : List CoreValue) (us : List ValType) (h : have_types vs us ≡ true) where
      pub unary32 : (f : ℕ → CoreValue) → ((i : ℕ) → has_type (f i) t ≡ true) → GoesOn gives go (change (val.I32 ∷ []) (t ∷ []) (Known us)) → Operated (unary_i32 f vs)
      unary32 f each e = let r = taken (val.I32 ∷ []) (t ∷ []) us vs h e in one_i32 f each vs r.0 r.1 r.2

      pub unary64 : (f : ℕ → CoreValue) → ((i : ℕ) → has_type (f i) t ≡ true) → GoesOn gives go (change (val.I64 ∷ []) (t ∷ []) (Known us)) → Operated (unary_i64 f vs)
      unary64 f each e = let r = taken (val.I64 ∷ []) (t ∷ []) us vs h e in one_i64 f each vs r.0 r.1 r.2

      pub of_f32 : (f : ℕ → CoreValue) → ((i : ℕ) → has_type (f i) t ≡ true) → GoesOn gives go (change (val.F32 ∷ []) (t ∷ []) (Known us)) → Operated (unary_f32 f vs)
      of_f32 f each e = let r = taken (val.F32 ∷ []) (t ∷ []) us vs h e in one_f32 f each vs r.0 r.1 r.2

      pub of_f64 : (f : ℕ → CoreValue) → ((i : ℕ) → has_type (f i) t ≡ true) → GoesOn gives go (change (val.F64 ∷ []) (t ∷ []) (Known us)) → Operated (unary_f64 f vs)
      of_f64 f each e = let r = taken (val.F64 ∷ []) (t ∷ []) us vs h e in one_f64 f each vs r.0 r.1 r.2

      pub binary32 : (f : ℕ → ℕ → CoreValue) → ((i j : ℕ) → has_type (f i j) t ≡ true) → GoesOn gives go (change (val.I32 ∷ val.I32 ∷ []) (t ∷ []) (Known us)) → Operated (binary_i32 f vs)
      binary32 f each e = let r = taken (val.I32 ∷ val.I32 ∷ []) (t ∷ []) us vs h e in two_i32 f each vs r.0 r.1 r.2

      pub binary64 : (f : ℕ → ℕ → CoreValue) → ((i j : ℕ) → has_type (f i j) t ≡ true) → GoesOn gives go (change (val.I64 ∷ val.I64 ∷ []) (t ∷ []) (Known us)) → Operated (binary_i64 f vs)
      binary64 f each e = let r = taken (val.I64 ∷ val.I64 ∷ []) (t ∷ []) us vs h e in two_i64 f each vs r.0 r.1 r.2

  pub drops : (vs : List CoreValue) (us : List ValType) → have_types vs us ≡ true → GoesOn gives go (drop_operand (Known us)) → Operated (drop_one vs)
  drops vs [] h e = cc
  drops [] (u ∷ us) h e = cc
  drops (v ∷ vs) (u ∷ us) h e = goes vs us (second_of (has_type v u) (have_types vs us) h) e

  -- either of two values of a type
  picked : (c : ℕ) (u v : CoreValue) (t : ValType) → has_type u t ≡ true → has_type v t ≡ true → has_type (pick c u v) t ≡ true
  picked zero u v t p q = q
  picked (suc c) u v t p q = p

  pub selects : (vs : List CoreValue) (us : List ValType) → have_types vs us ≡ true → GoesOn gives go (option_and_then choose (pop val.I32 (Known us))) → Operated (select_one vs)
  selects vs us h e = let r = takes_one gives val.I32 us go choose e in by_types vs r.0 (subst (λ l. have_types vs l ≡ true) r.1 h) r.2
    where
      by_values : (c : ℕ) (v u : CoreValue) (vs : List CoreValue) (t : ValType) (left : List ValType) → has_type v t ≡ true → has_type u t ≡ true → have_types vs left ≡ true → is_number t ≡ true → OnFrom (t ∷ left) → Operated (select_one (I32 c ∷ v ∷ u ∷ vs))
      by_values c v u vs t left p q h n e =
          let same : alike u v ≡ true = alike_is u v (type_is u t q ∙ sym (type_is v t p)) (ap is_number (type_is u t q) ∙ n) in
          subst (λ b. Operated (if b then Some (pick c u v ∷ vs) else None)) (sym same) (goes (pick c u v ∷ vs) (t ∷ left) (both (picked c u v t q p) h) e)

      by_types : (vs : List CoreValue) (left : List ValType) → have_types vs (val.I32 ∷ left) ≡ true → GoesOn gives go (choose (Known left)) → Operated (select_one vs)
      by_types vs [] h e = cc
      by_types vs (t ∷ []) h e = cc
      by_types (I32 c ∷ v ∷ u ∷ vs) (t ∷ t' ∷ left) h e =
          let a = allowed gives go (is_number t && same_type t t') (Some (Known (t ∷ left))) e in
          let same : t ≡ t' = same_is t t' (second_of (is_number t) (same_type t t') a.0) in
          let rest = second_of (has_type v t) (has_type u t' && have_types vs left) h in
          by_values c v u vs t left (first_of (has_type v t) (has_type u t' && have_types vs left) h) (subst (λ x. has_type u x ≡ true) (sym same) (first_of (has_type u t') (have_types vs left) rest))
          (second_of (has_type u t') (have_types vs left) rest) (first_of (is_number t) (same_type t t') a.0) a.1
      by_types (I32 c ∷ v ∷ []) (t ∷ t' ∷ left) h e = absurd (false≢true (second_of (has_type v t) false h))
      by_types (I32 c ∷ []) (t ∷ t' ∷ left) h e = absurd (false≢true h)
      by_types [] (t ∷ t' ∷ left) h e = absurd (false≢true h)
      by_types (I64 c ∷ vs) (t ∷ t' ∷ left) h e = absurd (false≢true h)
      by_types (F32 c ∷ vs) (t ∷ t' ∷ left) h e = absurd (false≢true h)
      by_types (F64 c ∷ vs) (t ∷ t' ∷ left) h e = absurd (false≢true h)
      by_types (Func c ∷ vs) (t ∷ t' ∷ left) h e = absurd (false≢true h)

  -- ---- what is taken off the operands

  pub takes_top : (vs : List CoreValue) (t : ValType) (left : List ValType) (f : CoreValue → List CoreValue → Did) → have_types vs (t ∷ left) ≡ true → ((v : CoreValue) (vs' : List CoreValue) → has_type v t ≡ true → have_types vs' left ≡ true → LeadsOn M (f v vs')) → LeadsOn M (with_top w vs f)
  takes_top [] t left f h each = cc
  takes_top (v ∷ vs) t left f h each = each v vs (first_of (has_type v t) (have_types vs left) h) (second_of (has_type v t) (have_types vs left) h)

  pub takes_i32 : (vs : List CoreValue) (left : List ValType) (f : ℕ → List CoreValue → Did) → have_types vs (val.I32 ∷ left) ≡ true → ((i : ℕ) (vs' : List CoreValue) → have_types vs' left ≡ true → LeadsOn M (f i vs')) → LeadsOn M (with_i32 w vs f)
  takes_i32 (I32 i ∷ vs) left f h each = each i vs h
  takes_i32 _ left f h each = cc

  takes_i64 : (vs : List CoreValue) (left : List ValType) (f : ℕ → List CoreValue → Did) → have_types vs (val.I64 ∷ left) ≡ true → ((i : ℕ) (vs' : List CoreValue) → have_types vs' left ≡ true → LeadsOn M (f i vs')) → LeadsOn M (with_i64 w vs f)
  takes_i64 (I64 i ∷ vs) left f h each = each i vs h
  takes_i64 _ left f h each = cc

  takes_address : (wide : Bool) (vs : List CoreValue) (left : List ValType) (f : ℕ → List CoreValue → Did) → have_types vs (address_type wide ∷ left) ≡ true → ((i : ℕ) (vs' : List CoreValue) → have_types vs' left ≡ true → LeadsOn M (f i vs')) → LeadsOn M (with_address wide w vs f)
  takes_address true vs left f h each = takes_i64 vs left f h each
  takes_address false vs left f h each = takes_i32 vs left f h each

  -- what is there is no reason to be stuck
  pub there : {A : Type 0} (o : Option A) (a : A) (f : A → Did) → o ≡ Some a → LeadsOn M (f a) → LeadsOn M (or_stuck w o f)
  there o a f e h = subst (λ x. LeadsOn M (or_stuck w x f)) (sym e) h

  pub passes : (b : Bool) (d : Did) → b ≡ true → LeadsOn M d → LeadsOn M (check w b d)
  passes b d e h = subst (λ x. LeadsOn M (check w x d)) (sym e) h

  -- ---- locals

  pub gets_local : (n : ℕ) (vs : List CoreValue) (us : List ValType) → have_types vs us ≡ true → GoesOn gives go (option_and_then (λ t. change [] (t ∷ []) (Known us)) (slice_get locals n))
      → LeadsOn M (or_stuck w (slice_get ls n) (λ o. or_stuck w o (λ v. Goes (At w (v ∷ vs) ls rest k))))
  gets_local n vs us h e =
      let f = found gives go (λ t. change [] (t ∷ []) (Known us)) (slice_get locals n) e in
      let l = local_at ls locals n f.0 s.holds f.1 in
      let r = taken [] (f.0 ∷ []) us vs h f.2 in
      there (slice_get ls n) (Some l.value) (λ o. or_stuck w o (λ v. Goes (At w (v ∷ vs) ls rest k))) l.there (goes (l.value ∷ vs) (f.0 ∷ r.0) (both l.typed r.1) r.2)

  -- a value in a local, with the operands that are then
  puts_local : (n : ℕ) (t : ValType) (v : CoreValue) (vs : List CoreValue) (us : List ValType) → slice_get locals n ≡ Some t → has_type v t ≡ true → have_types vs us ≡ true → OnFrom us → LeadsOn M (set_local w n v ls (λ ls'. Goes (At w vs ls' rest k)))
  puts_local n t v vs us at q h e =
      let l = local_at ls locals n t s.holds at in
      let follows : has_type v (type_of l.value) ≡ true = subst (λ x. has_type v x ≡ true) (sym (type_is l.value t l.typed)) q in
      there (slice_get ls n) (Some l.value) (λ old. check w (may_follow old v) (Goes (At w vs (slice_set ls n (Some v)) rest k))) l.there
      (passes (has_type v (type_of l.value)) (Goes (At w vs (slice_set ls n (Some v)) rest k)) follows (λ typed.
      record { locals = locals; labels = labels; gives = gives; operands = us; stands = record { state = s.state; holds = local_set ls locals n t v s.holds at q; around = s.around }; values = h; behind = e }))

  pub sets_local : (n : ℕ) (vs : List CoreValue) (us : List ValType) → have_types vs us ≡ true → GoesOn gives go (option_and_then (λ t. change (t ∷ []) [] (Known us)) (slice_get locals n))
      → LeadsOn M (with_top w vs (λ v vs'. set_local w n v ls (λ ls'. Goes (At w vs' ls' rest k))))
  sets_local n vs us h e =
      let f = found gives go (λ t. change (t ∷ []) [] (Known us)) (slice_get locals n) e in
      let r = taken (f.0 ∷ []) [] us vs h f.2 in
      takes_top vs f.0 r.0 (λ v vs'. set_local w n v ls (λ ls'. Goes (At w vs' ls' rest k))) r.1 (λ v vs' q h'. puts_local n f.0 v vs' r.0 f.1 q h' r.2)

  pub tees_local : (n : ℕ) (vs : List CoreValue) (us : List ValType) → have_types vs us ≡ true → GoesOn gives go (option_and_then (λ t. change (t ∷ []) (t ∷ []) (Known us)) (slice_get locals n))
      → LeadsOn M (with_top w vs (λ v vs'. set_local w n v ls (λ ls'. Goes (At w vs ls' rest k))))
  tees_local n vs us h e =
      let f = found gives go (λ t. change (t ∷ []) (t ∷ []) (Known us)) (slice_get locals n) e in
      let r = taken (f.0 ∷ []) (f.0 ∷ []) us vs h f.2 in
      takes_top vs f.0 r.0 (λ v vs'. set_local w n v ls (λ ls'. Goes (At w vs ls' rest k))) r.1 (λ v vs' q h'. puts_local n f.0 v vs (f.0 ∷ r.0) f.1 q r.1 r.2)

  -- ---- globals

  pub gets_global : (n : ℕ) (vs : List CoreValue) (us : List ValType) → have_types vs us ≡ true → GoesOn gives go (option_and_then (λ g. change [] (g.0 ∷ []) (Known us)) (global_import M.imports n))
      → LeadsOn M (or_stuck w (slice_get w.state.globals n) (λ v. Goes (At w (v ∷ vs) ls rest k)))
  gets_global n vs us h e =
      let f = found gives go (λ (g : ValType × Bool). change [] (g.0 ∷ []) (Known us)) (global_import M.imports n) e in
      let g = s.state.global n f.0 f.1 in
      let r = taken [] (f.0.0 ∷ []) us vs h f.2 in
      there (slice_get w.state.globals n) g.value (λ v. Goes (At w (v ∷ vs) ls rest k)) g.there (goes (g.value ∷ vs) (f.0.0 ∷ r.0) (both g.typed r.1) r.2)

  pub sets_global : (n : ℕ) (vs : List CoreValue) (us : List ValType) → have_types vs us ≡ true → GoesOn gives go (option_and_then (λ g. only_if g.1 (change (g.0 ∷ []) [] (Known us))) (global_import M.imports n))
      → LeadsOn M (with_top w vs (λ v vs'. or_stuck w (slice_get w.state.globals n) (λ old. check w (has_type v (type_of old)) (Goes (At (set_global n v w) vs' ls rest k)))))
  sets_global n vs us h e =
      let f = found gives go (λ (g : ValType × Bool). only_if g.1 (change (g.0 ∷ []) [] (Known us))) (global_import M.imports n) e in
      let a = allowed gives go f.0.1 (change (f.0.0 ∷ []) [] (Known us)) f.2 in
      let g = s.state.global n f.0 f.1 in
      let r = taken (f.0.0 ∷ []) [] us vs h a.1 in
      takes_top vs f.0.0 r.0 (λ v vs'. or_stuck w (slice_get w.state.globals n) (λ old. check w (has_type v (type_of old)) (Goes (At (set_global n v w) vs' ls rest k)))) r.1 (λ v vs' q h'.
      let follows : has_type v (type_of g.value) ≡ true = subst (λ x. has_type v x ≡ true) (sym (type_is g.value f.0.0 g.typed)) q in
      there (slice_get w.state.globals n) g.value (λ old. check w (has_type v (type_of old)) (Goes (At (set_global n v w) vs' ls rest k))) g.there
      (passes (has_type v (type_of g.value)) (Goes (At (set_global n v w) vs' ls rest k)) follows (λ typed.
      record {
        locals = locals;
        labels = labels;
        gives = gives;
        operands = r.0;
        stands = record { state = global_kept M w.state n g.value v s.state g.there follows; holds = s.holds; around = s.around };
        values = h';
        behind = r.2;
      })))

  -- ---- memories

  -- the type of an address is that of a memory that is there
  address_is : (natural : ℕ) (m : MemArg) (a : ValType) → address_at (context M locals labels) natural m ≡ Some a → (kind : Bool × Option ℕ) × (memory_import M.imports m.memory_index ≡ Some kind) × (a ≡ address_type kind.0)
  address_is natural m a e =
      let f : (kind : Bool × Option ℕ) → Option ValType = λ kind. only_if (nat_le m.align natural && nat_lt m.offset (2 ^ address_bits kind.0)) (Some (address_type kind.0)) in
      let x = some_of (memory_import M.imports m.memory_index) f a e in
      let y = some_if (nat_le m.align natural && nat_lt m.offset (2 ^ address_bits x.0.0)) (Some (address_type x.0.0)) a x.2 in
      let same : a ≡ address_type x.0.0 = cc in
      (x.0, x.1, same)

  -- a read goes on or traps
  reads : {A : Type 0} (b : Bool) (a : A) (f : A → World → Did) → LeadsOn M (f a w) → LeadsOn M (on_res (if b then Done a w else Halt Trap w) ls k f)
  reads true a f h = h
  reads false a f h = tt

  pub loads : (n natural : ℕ) (value : ℕ → CoreValue) (t : ValType) → ((i : ℕ) → has_type (value i) t ≡ true) → (m : MemArg) (vs : List CoreValue) (us : List ValType) → have_types vs us ≡ true
      → GoesOn gives go (load_typing natural t m (context M locals labels) (Known us)) → LeadsOn M (load M n value m w vs ls rest k)
  loads n natural value t each m vs us h e =
      let f = found gives go (λ a. change (a ∷ []) (t ∷ []) (Known us)) (address_at (context M locals labels) natural m) e in
      let d = address_is natural m f.0 f.1 in
      let x = s.state.memory m.memory_index d.0 d.1 in
      let r = taken (f.0 ∷ []) (t ∷ []) us vs h f.2 in
      let ready : have_types vs (address_type d.0.0 ∷ r.0) ≡ true = subst (λ a. have_types vs (a ∷ r.0) ≡ true) d.2 r.1 in
      let last : List ℕ → ℕ → List CoreValue → Did = λ bytes base vs'. on_res (read n bytes (base + m.offset) w) ls k (λ number w'. Goes (At w' (value number ∷ vs') ls rest k)) in
      there (memory_import M.imports m.memory_index) d.0 (λ kind. with_address kind.0 w vs (λ base vs'. or_stuck w (slice_get w.state.memories m.memory_index) (λ bytes. last bytes base vs'))) d.1
      (takes_address d.0.0 vs r.0 (λ base vs'. or_stuck w (slice_get w.state.memories m.memory_index) (λ bytes. last bytes base vs')) ready (λ base vs' h'.
      there (slice_get w.state.memories m.memory_index) x.bytes (λ bytes. last bytes base vs') x.there
      (reads (nat_le (base + m.offset + n) (length x.bytes)) (number_at n x.bytes (base + m.offset)) (λ number w'. Goes (At w' (value number ∷ vs') ls rest k))
      (goes (value (number_at n x.bytes (base + m.offset)) ∷ vs') (t ∷ r.0) (both (each (number_at n x.bytes (base + m.offset))) h') r.2))))

  -- a write goes on, in a memory of the same length, or traps
  writes : (n index : ℕ) (bytes : List ℕ) (address value : ℕ) (vs : List CoreValue) (us : List ValType) → slice_get w.state.memories index ≡ Some bytes → have_types vs us ≡ true → OnFrom us
      → LeadsOn M (on_res (write n index bytes address value w) ls k (λ done w'. Goes (At w' vs ls rest k)))
  writes n index bytes address value vs us at h e = by_room (nat_le (address + n) (length bytes)) refl
    where
      by_room : (b : Bool) → nat_le (address + n) (length bytes) ≡ b → LeadsOn M (on_res (if b then Done tt (written n index bytes address value w) else Halt Trap w) ls k (λ (done : Unit {0}) w'. Goes (At w' vs ls rest k)))
      by_room false room = tt
      by_room true room = λ typed.
          record {
            locals = locals;
            labels = labels;
            gives = gives;
            operands = us;
            stands = record {
              state = memory_kept M w.state index bytes (with_number n bytes address value) s.state at (store_keeps_length bytes n address value (leb-true (address + n) (length bytes) room));
              holds = s.holds;
              around = s.around;
            };
            values = h;
            behind = e;
          }

  pub stores : (n natural : ℕ) (number : CoreValue → Option ℕ) (t : ValType) → ((v : CoreValue) → has_type v t ≡ true → (i : ℕ) × (number v ≡ Some i)) → (m : MemArg) (vs : List CoreValue) (us : List ValType) → have_types vs us ≡ true
      → GoesOn gives go (store_typing natural t m (context M locals labels) (Known us)) → LeadsOn M (store M n number m w vs ls rest k)
  stores n natural number t each m vs us h e =
      let f = found gives go (λ a. change (t ∷ a ∷ []) [] (Known us)) (address_at (context M locals labels) natural m) e in
      let d = address_is natural m f.0 f.1 in
      let x = s.state.memory m.memory_index d.0 d.1 in
      let r = taken (t ∷ f.0 ∷ []) [] us vs h f.2 in
      let ready : have_types vs (t ∷ address_type d.0.0 ∷ r.0) ≡ true = subst (λ a. have_types vs (t ∷ a ∷ r.0) ≡ true) d.2 r.1 in
      let last : ℕ → List ℕ → ℕ → List CoreValue → Did = λ value bytes base vs''. on_res (write n m.memory_index bytes (base + m.offset) value w) ls k (λ done w'. Goes (At w' vs'' ls rest k)) in
      let third : ℕ → List CoreValue → Bool × Option ℕ → Did = λ value vs' kind. with_address kind.0 w vs' (λ base vs''. or_stuck w (slice_get w.state.memories m.memory_index) (λ bytes. last value bytes base vs'')) in
      takes_top vs t (address_type d.0.0 ∷ r.0) (λ v vs'. or_stuck w (number v) (λ value. or_stuck w (memory_import M.imports m.memory_index) (λ kind. third value vs' kind))) ready (λ v vs' q h'.
      let i = each v q in
      there (number v) i.0 (λ value. or_stuck w (memory_import M.imports m.memory_index) (λ kind. third value vs' kind)) i.1
      (there (memory_import M.imports m.memory_index) d.0 (λ kind. third i.0 vs' kind) d.1
      (takes_address d.0.0 vs' r.0 (λ base vs''. or_stuck w (slice_get w.state.memories m.memory_index) (λ bytes. last i.0 bytes base vs'')) h' (λ base vs'' h''.
      there (slice_get w.state.memories m.memory_index) x.bytes (λ bytes. last i.0 bytes base vs'') x.there (writes n m.memory_index x.bytes (base + m.offset) i.0 vs'' r.0 x.there h'' r.2)))))

  -- a number of pages of a memory that fits is a value of its addresses' type
  size_is : (wide : Bool) (bytes pages : ℕ) → pages ≤ bytes → FitsWidth wide bytes pages → (v : CoreValue) × (size_value wide pages ≡ Some v) × (has_type v (address_type wide) ≡ true)
  size_is true bytes pages le fits = (I64 pages, ap (λ b. if b then Some (I64 pages) else None) (lt-ltb pages (2 ^ 64) (omega arith)), refl)
  size_is false bytes pages le fits = (I32 pages, ap (λ b. if b then Some (I32 pages) else None) (lt-ltb pages (2 ^ 32) fits.1), refl)

  pub sizes : (n : ℕ) (vs : List CoreValue) (us : List ValType) → have_types vs us ≡ true → GoesOn gives go (option_and_then (λ kind. change [] (address_type kind.0 ∷ []) (Known us)) (memory_import M.imports n)) → LeadsOn M (memory_size M n w vs ls rest k)
  sizes n vs us h e =
      let f = found gives go (λ (kind : Bool × Option ℕ). change [] (address_type kind.0 ∷ []) (Known us)) (memory_import M.imports n) e in
      let x = s.state.memory n f.0 f.1 in
      let r = taken [] (address_type f.0.0 ∷ []) us vs h f.2 in
      let pages : ℕ = length x.bytes / page_bytes f.0.1 in
      let v = size_is f.0.0 (length x.bytes) pages (div-le_self (length x.bytes) (page_bytes f.0.1)) x.fits in
      there (memory_import M.imports n) f.0 (λ kind. or_stuck w (slice_get w.state.memories n) (λ bytes. or_stuck w (size_value kind.0 (length bytes / page_bytes kind.1)) (λ v. Goes (At w (v ∷ vs) ls rest k)))) f.1
      (there (slice_get w.state.memories n) x.bytes (λ bytes. or_stuck w (size_value f.0.0 (length bytes / page_bytes f.0.1)) (λ v. Goes (At w (v ∷ vs) ls rest k))) x.there
      (there (size_value f.0.0 pages) v.0 (λ v. Goes (At w (v ∷ vs) ls rest k)) v.1 (goes (v.0 ∷ vs) (address_type f.0.0 ∷ r.0) (both v.2 r.1) r.2)))
