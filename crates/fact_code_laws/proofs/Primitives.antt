-- The rules of instructions that read or change what is outside of their frames, each in front of the rest of the code.
use Rattle.std.proofs.Common.{◌≡◌, ℕ, suc, ◌+◌, ◌^◌, ◌<◌, ◌≤◌, Bool, true, false, ◌&&◌, List, [], ◌∷◌, ◌++◌, Option, refl, sym, ap, ◌∙◌, subst, arith, append_assoc, length, reverse, slice_get}
use Rattle.std.specs.Prelude.{nat_le, if◌then◌else◌}
use Rattle.std.proofs.lemmas.Bool.{leb-true}
use Rattle.fact_wasm.specs.declared.types.ValType.{ValType}
use Rattle.fact_wasm.specs.declared.instr.MemArg.{MemArg}
use Rattle.fact_wasm.specs.declared.instr.FuncName.TheVariants as func
use Rattle.fact_wasm.specs.declared.instr.Instr.{Instr}
use Rattle.fact_wasm.specs.declared.instr.Instr.TheVariants as I
use Rattle.fact_wasm.specs.declared.module.WasmModule.{WasmModule}
use Rattle.fact_types.specs.declared.outside.CoreDef.{CoreDef}
use Rattle.fact_types.specs.declared.outside.Trap.{Trap}
use Rattle.fact_machine.specs.declared.types.CoreValue.{CoreValue}
use Rattle.fact_machine.specs.declared.types.CoreValue.TheVariants.{I32}
use Rattle.fact_machine.specs.declared.types.Answer.{Answer}
use Rattle.fact_machine.specs.declared.types.Answer.TheVariants as answer
use Rattle.fact_machine.specs.World.{World, Res, Done, Halt, read, write, written, number_at, asked, outside, set_global}
use Rattle.fact_machine.specs.World as stopped
use Rattle.fact_machine.specs.Machine.{At, Goes, have_types, i32_of}
use Rattle.fact_machine.proofs.Laws.{leaves_early}
use Rattle.fact_machine.proofs.RowLaws.{leaves_global_get, leaves_global_set}
use Rattle.fact_machine.proofs.MemoryRows as machine
use Rattle.fact_machine.specs.Typing.{address_operand}
use Rattle.fact_machine.proofs.MemoryRows.{leaves_i32_load, leaves_i64_load, leaves_i32_load8_u, leaves_i32_load16_u, leaves_i32_store, leaves_i64_store, leaves_i32_store8, leaves_i32_store16}
use Rattle.fact_machine.proofs.Worlds.{world_at_zero}
use Rattle.fact_machine.proofs.OutsideCalls.{leaves_import}
use Rattle.fact_types.specs.declared.import.Import.{Import}
use Rattle.fact_types.specs.declared.import.Import.TheVariants as import
use Rattle.fact_actions.specs.Actions.{Action, Read, Write, GetFlags, SetFlags, Ask, trap}
use Rattle.fact_actions.specs.Running.{ImportPlaces, Ended, is_state, is_answer, later, call_of, or_strayed, ended, if_typed, run}
use Rattle.fact_code_laws.specs.Code.{trap_code}
use Rattle.fact_code_laws.specs.Does.{Locals, Way, Strays, EndsOn, Does}
use Rattle.fact_code_laws.specs.Knows.{KnowsFunction, KnowsMemory, KnowsFlags}
use Rattle.fact_code_laws.specs.Rows.{Load, LoadI32, LoadI64, LoadU8, LoadU16, load_code, load_size, loaded_value, Store, StoreI32, StoreI64, StoreI8, StoreI16, store_code, store_size, stored_value}
use Rattle.fact_code_laws.proofs.Runs.{no_heavier}
use Rattle.fact_code_laws.proofs.Rules.{ends_after, ends_later, stop}
use Rattle.fact_code_laws.proofs.Worlds.{TypedMemory, typed_memory, number_bound, put_typed, typed_flags, set_typed}
use Rattle.fact_machine.specs.Exits.{Falls, Leaves, res_exit, CallsImport}
use Rattle.fact_machine.specs.Typed.{is_grown, are_values}
use Rattle.fact_machine.proofs.Tests.{first_of, second_of}

-- ---- primitives

-- where a primitive stops, the state is typed
abbrev pub StopsTyped : {B : Type 0} → ImportPlaces → Res B → Type 0
StopsTyped p (Done b w) = Unit {0}
StopsTyped p (Halt s w) = is_state p w.state ≡ true

module _ {A B : Type 0} {M : WasmModule} {p : ImportPlaces} {way : Way} {extra spare : ℕ} {w : World} {vs : List CoreValue} {ls : Locals} {i : Instr} {c : List Instr} {below : List CoreValue} {out : A → List CoreValue} {Holds : A → Locals → Type 0} where
  -- an instruction that acts by a primitive, in front of other code
  acts : (outs : B → List CoreValue) (f : B → World → Ended A) (r : Res B) → Leaves M 1 (i ∷ []) w vs ls (res_exit r ls (λ b w'. Falls w' (outs b) ls)) → StopsTyped p r
      → ((b : B) (w' : World) → r ≡ Done b w' → EndsOn M p way extra spare w' (outs b) ls c below out Holds (f b w'))
      → EndsOn M p way (suc extra) spare w vs ls (i ∷ c) below out Holds (ended r f)
  acts outs f (Done b w') l t d = subst (EndsOn M p way (suc extra) spare w vs ls (i ∷ c) below out Holds) (no_heavier (f b w')) (ends_after 0 (f b w') (omega arith) l (d b w' refl))
  acts outs f (Halt stopped.Trap w') l t d = record { by = record { steps = 1; locals = ls; typed = t; leaves = leaves_early c tt l } }
  acts outs f (Halt stopped.Throw w') l t d = record { by = record { steps = 1; locals = ls; typed = t; leaves = leaves_early c tt l } }
  acts outs f (Halt stopped.Lack w') l t d = record { by = record { steps = 1; locals = ls; typed = t; leaves = leaves_early c tt l } }

-- ---- loads and stores

abbrev pub memory_of : {M : WasmModule} {p : ImportPlaces} {d : CoreDef} {place : ℕ} {memory64 : Bool} {log2 : Option ℕ} {w : World} → KnowsMemory M p d place memory64 log2 → (m : TypedMemory (memory64, log2) w.state.memories place) → machine.HasMemory M w place memory64 m.bytes
memory_of {log2 = log2} h m = record { log2 = log2; imported = h.imported; there = m.there }

leaves_load : (kind : Load) (m : MemArg) {M : WasmModule} {w : World} {vs : List CoreValue} {ls : Locals} {memory64 : Bool} {bytes : List ℕ} (a : ℕ) → machine.HasMemory M w m.memory_index memory64 bytes
    → Leaves M 1 (load_code kind m ∷ []) w (address_operand memory64 a ∷ vs) ls (res_exit (read (load_size kind) bytes (a + m.offset) w) ls (λ n w'. Falls w' (loaded_value kind n ∷ vs) ls))
leaves_load LoadI32 m a h = leaves_i32_load a h
leaves_load LoadI64 m a h = leaves_i64_load a h
leaves_load LoadU8 m a h = leaves_i32_load8_u a h
leaves_load LoadU16 m a h = leaves_i32_load16_u a h

leaves_store : (kind : Store) (m : MemArg) {M : WasmModule} {w : World} {vs : List CoreValue} {ls : Locals} {memory64 : Bool} {bytes : List ℕ} (a n : ℕ) → machine.HasMemory M w m.memory_index memory64 bytes
    → Leaves M 1 (store_code kind m ∷ []) w (stored_value kind n ∷ address_operand memory64 a ∷ vs) ls (res_exit (write (store_size kind) m.memory_index bytes (a + m.offset) n w) ls (λ u w'. Falls w' vs ls))
leaves_store StoreI32 m a n h = leaves_i32_store a h
leaves_store StoreI64 m a n h = leaves_i64_store a h
leaves_store StoreI8 m a n h = leaves_i32_store8 a h
leaves_store StoreI16 m a n h = leaves_i32_store16 a h

read_stops : (p : ImportPlaces) (n a : ℕ) (bytes : List ℕ) (w : World) → is_state p w.state ≡ true → StopsTyped p (read n bytes a w)
read_stops p n a bytes w ty = go (nat_le (a + n) (length bytes))
  where
    go : (b : Bool) → StopsTyped p (if b then Done (number_at n bytes a) w else Halt stopped.Trap w)
    go true = tt
    go false = ty

-- a read that is done
read_done : (n a : ℕ) (bytes : List ℕ) (w : World) (x : ℕ) (w' : World) → read n bytes a w ≡ Done x w' → (a + n ≤ length bytes) × (x ≡ number_at n bytes a) × (w' ≡ w)
read_done n a bytes w x w' e = go (nat_le (a + n) (length bytes)) refl e
  where
    go : (b : Bool) → nat_le (a + n) (length bytes) ≡ b → (if b then Done (number_at n bytes a) w else Halt stopped.Trap w) ≡ Done x w' → (a + n ≤ length bytes) × (x ≡ number_at n bytes a) × (w' ≡ w)
    go true h e = (leb-true (a + n) (length bytes) h, cc, cc)
    go false h e = cc

write_stops : (p : ImportPlaces) (n i a v : ℕ) (bytes : List ℕ) (w : World) → is_state p w.state ≡ true → StopsTyped p (write n i bytes a v w)
write_stops p n i a v bytes w ty = go (nat_le (a + n) (length bytes))
  where
    go : (b : Bool) → StopsTyped p (if b then Done (tt {0}) (written n i bytes a v w) else Halt stopped.Trap w)
    go true = tt
    go false = ty

write_done : (n i a v : ℕ) (bytes : List ℕ) (w : World) (u : Unit {0}) (w' : World) → write n i bytes a v w ≡ Done u w' → (a + n ≤ length bytes) × (w' ≡ written n i bytes a v w)
write_done n i a v bytes w u w' e = go (nat_le (a + n) (length bytes)) refl e
  where
    go : (b : Bool) → nat_le (a + n) (length bytes) ≡ b → (if b then Done (tt {0}) (written n i bytes a v w) else Halt stopped.Trap w) ≡ Done u w' → (a + n ≤ length bytes) × (w' ≡ written n i bytes a v w)
    go true h e = (leb-true (a + n) (length bytes) h, cc)
    go false h e = cc

module _ {A : Type 0} {M : WasmModule} {p : ImportPlaces} {way : Way} {extra spare : ℕ} {ins : List CoreValue} {ls : Locals} {c : List Instr} {out : A → List CoreValue} {Holds : A → Locals → Type 0} {d : CoreDef} {memory64 : Bool} {log2 : Option ℕ} where
  -- A load reads at the address on the stack and its offset. It gives a number below the bound of its bytes.
  pub load : (kind : Load) (m : MemArg) (base : ℕ) {at : ℕ} {k : ℕ → Action A} → KnowsMemory M p d m.memory_index memory64 log2 → at ≡ base + m.offset
      → ((n : ℕ) → n < 256 ^ load_size kind → Does M p way extra spare (loaded_value kind n ∷ ins) ls c (k n) out Holds)
      → Does M p way (suc extra) spare (address_operand memory64 base ∷ ins) ls (load_code kind m ∷ c) (Read (load_size kind) d at k) out Holds
  load kind m base {at} {k} h place go = record {
    by = λ w. record {
      by = λ ty below.
          let t = typed_memory p w m.memory_index (memory64, log2) ty h.kind in
          let r = read (load_size kind) t.bytes (base + m.offset) w in
          let is : run p (Read (load_size kind) d at k) w ≡ ended r (λ x w'. run p (k x) w') =
          ap (λ a. run p (Read (load_size kind) d a k) w) place
          ∙ ap (λ i. or_strayed w (slice_get w.state.memories i) (λ bytes. ended (read (load_size kind) bytes (base + m.offset) w) (λ x w'. run p (k x) w'))) h.placed
          ∙ ap (λ o. or_strayed w o (λ bytes. ended (read (load_size kind) bytes (base + m.offset) w) (λ x w'. run p (k x) w'))) t.there in
          subst (EndsOn M p way (suc extra) spare w (address_operand memory64 base ∷ (ins ++ below)) ls (load_code kind m ∷ c) below out Holds) (sym is)
          (acts (λ n. loaded_value kind n ∷ (ins ++ below)) (λ x w'. run p (k x) w') r (leaves_load kind m base (memory_of h t)) (read_stops p (load_size kind) (base + m.offset) t.bytes w ty) (λ n w' e.
          let x = read_done (load_size kind) (base + m.offset) t.bytes w n w' e in
          let lt : n < 256 ^ load_size kind = subst (λ j. j < 256 ^ load_size kind) (sym x.1) (number_bound (memory64, log2) t.bytes t.typed (load_size kind) (base + m.offset) x.0) in
          ((go n lt).by w').by (subst (λ (v : World). is_state p v.state ≡ true) (sym x.2) ty) below));
    };
  }

  -- A store writes there.
  pub store : (kind : Store) (m : MemArg) (base n : ℕ) {at : ℕ} {q : Action A} → KnowsMemory M p d m.memory_index memory64 log2 → at ≡ base + m.offset → Does M p way extra spare ins ls c q out Holds
      → Does M p way (suc extra) spare (stored_value kind n ∷ address_operand memory64 base ∷ ins) ls (store_code kind m ∷ c) (Write (store_size kind) d at n q) out Holds
  store kind m base n {at} {q} h place go = record {
    by = λ w. record {
      by = λ ty below.
          let t = typed_memory p w m.memory_index (memory64, log2) ty h.kind in
          let r = write (store_size kind) m.memory_index t.bytes (base + m.offset) n w in
          let is : run p (Write (store_size kind) d at n q) w ≡ ended r (λ u w'. run p q w') =
          ap (λ a. run p (Write (store_size kind) d a n q) w) place
          ∙ ap (λ i. or_strayed w (slice_get w.state.memories i) (λ bytes. ended (write (store_size kind) i bytes (base + m.offset) n w) (λ u w'. run p q w'))) h.placed
          ∙ ap (λ o. or_strayed w o (λ bytes. ended (write (store_size kind) m.memory_index bytes (base + m.offset) n w) (λ u w'. run p q w'))) t.there in
          subst (EndsOn M p way (suc extra) spare w (stored_value kind n ∷ address_operand memory64 base ∷ (ins ++ below)) ls (store_code kind m ∷ c) below out Holds) (sym is)
          (acts (λ u. ins ++ below) (λ u w'. run p q w') r (leaves_store kind m base n (memory_of h t)) (write_stops p (store_size kind) m.memory_index (base + m.offset) n t.bytes w ty) (λ u w' e.
          let x = write_done (store_size kind) m.memory_index (base + m.offset) n t.bytes w u w' e in
          (go.by w').by (subst (λ (v : World). is_state p v.state ≡ true) (sym x.1) (put_typed p w m.memory_index (memory64, log2) t.bytes (store_size kind) (base + m.offset) n ty h.kind t.typed x.0)) below));
    };
  }

-- ---- flags

module _ {A : Type 0} {M : WasmModule} {p : ImportPlaces} {way : Way} {extra spare : ℕ} {ins : List CoreValue} {ls : Locals} {c : List Instr} {out : A → List CoreValue} {Holds : A → Locals → Type 0} {i place : ℕ} where
  pub get_flags : {k : ℕ → Action A} → KnowsFlags M p i place → ((n : ℕ) → n < 2 ^ 32 → Does M p way extra spare (I32 n ∷ ins) ls c (k n) out Holds)
      → Does M p way (suc extra) spare ins ls (I.GlobalGet place ∷ c) (GetFlags i k) out Holds
  get_flags {k} h go = record {
    by = λ w. record {
      by = λ ty below.
          let t = typed_flags p w place ty h.kind in
          let is : run p (GetFlags i k) w ≡ run p (k t.number) w =
          ap (λ j. or_strayed w (slice_get w.state.globals j) (λ v. or_strayed w (i32_of v) (λ n. run p (k n) w))) h.placed
          ∙ ap (λ o. or_strayed w o (λ v. or_strayed w (i32_of v) (λ n. run p (k n) w))) t.there in
          subst (EndsOn M p way (suc extra) spare w (ins ++ below) ls (I.GlobalGet place ∷ c) below out Holds) (no_heavier (run p (k t.number) w) ∙ sym is)
          (ends_after 0 (run p (k t.number) w) (omega arith) (leaves_global_get t.there) (((go t.number t.below).by w).by ty below));
    };
  }

  pub set_flags : {n : ℕ} {q : Action A} → KnowsFlags M p i place → n < 2 ^ 32 → Does M p way extra spare ins ls c q out Holds
      → Does M p way (suc extra) spare (I32 n ∷ ins) ls (I.GlobalSet place ∷ c) (SetFlags i n q) out Holds
  set_flags {n} {q} h lt go = record {
    by = λ w. record {
      by = λ ty below.
          let t = typed_flags p w place ty h.kind in
          let w' = set_global place (I32 n) w in
          let is : run p (SetFlags i n q) w ≡ run p q w' =
          ap (λ j. or_strayed w (slice_get w.state.globals j) (λ v. run p q (set_global j (I32 n) w))) h.placed
          ∙ ap (λ o. or_strayed w o (λ v. run p q w')) t.there in
          subst (EndsOn M p way (suc extra) spare w (I32 n ∷ (ins ++ below)) ls (I.GlobalSet place ∷ c) below out Holds) (no_heavier (run p q w') ∙ sym is)
          (ends_after 0 (run p q w') (omega arith) (leaves_global_set t.there refl) ((go.by w').by (set_typed p w place n ty h.kind lt) below));
    };
  }

-- ---- calls of imports

asked_stops : (p : ImportPlaces) (f : ℕ) (args : List CoreValue) (w : World) (left : List Answer) → is_state p w.state ≡ true → StopsTyped p (asked f args w left)
asked_stops p f args w [] ty = ty
asked_stops p f args w (answer.Returns rs state ∷ more) ty = tt
asked_stops p f args w (answer.Traps ∷ more) ty = ty
asked_stops p f args w (answer.Throws ∷ more) ty = ty

pub strays_here : {M : WasmModule} {w : World} {vs : List CoreValue} {ls : Locals} {c : List Instr} → Strays M w vs ls c w
strays_here {M} {w} {vs} {ls} {c} = record { steps = 0; by = λ rest k. world_at_zero M (Goes (At w vs ls (c ++ rest) k)) }

tested : {A : Type 0} {M : WasmModule} {p : ImportPlaces} {way : Way} {extra spare : ℕ} {ls : Locals} {c : List Instr} {out : A → List CoreValue} {Holds : A → Locals → Type 0} {w : World} {vs below : List CoreValue} (b : Bool) (e : Ended A)
    → (b ≡ true → EndsOn M p way extra spare w vs ls c below out Holds e) → EndsOn M p way extra spare w vs ls c below out Holds (if_typed b w e)
tested true e h = h refl
tested false e h = record { by = strays_here }

module _ {A : Type 0} {M : WasmModule} {p : ImportPlaces} {way : Way} {extra spare : ℕ} {ins : List CoreValue} {ls : Locals} {c : List Instr} {out : A → List CoreValue} {Holds : A → Locals → Type 0} where
  -- a call of an import gives values of its results' types, or goes astray
  pub ask : {i : Import} {place : ℕ} {params results : List ValType} (args : List CoreValue) {k : List CoreValue → Action A} → KnowsFunction M p i place params results → have_types args params ≡ true
      → ((rs : List CoreValue) → are_values rs results ≡ true → Does M p way extra spare (reverse rs ++ ins) ls c (k rs) out Holds)
      → Does M p way (suc extra) spare (reverse args ++ ins) ls (I.Call (func.Import place) ∷ c) (Ask i args results k) out Holds
  ask {i} {place} {params} {results} args {k} h t go = record {
    by = λ w. record {
      by = λ ty below.
          let f : List CoreValue → World → Ended A = λ rs w'. if_typed (is_answer p results w.state rs w'.state) w' (run p (k rs) w') in
          let before = call_of i args w.state w.answers in
          let is : run p (Ask i args results k) w ≡ later before (ended (outside place args w) f) = ap (λ j. later before (ended (outside j args w) f)) h.placed in
          let calls : CallsImport M place args = record { type_at = h.type_at; ty = record { params = params; results = results }; import_is = h.imported; type_is = h.type_is; typed = t } in
          let stack = append_assoc (reverse args) ins below in
          subst (EndsOn M p way (suc extra) spare w ((reverse args ++ ins) ++ below) ls (I.Call (func.Import place) ∷ c) below out Holds) (sym is)
          (subst (λ vs. EndsOn M p way (suc extra) spare w vs ls (I.Call (func.Import place) ∷ c) below out Holds (later before (ended (outside place args w) f))) (sym stack)
          (ends_later before (ended (outside place args w) f) (acts (λ rs. reverse rs ++ (ins ++ below)) f (outside place args w) (leaves_import (ins ++ below) calls) (asked_stops p place args w w.answers ty) (λ rs w' e.
          tested (is_answer p results w.state rs w'.state) (run p (k rs) w') (λ b.
          subst (λ vs. EndsOn M p way extra spare w' vs ls c below out Holds (run p (k rs) w')) (append_assoc (reverse rs) ins below)
          (let state = first_of (is_state p w'.state) (is_grown w.state.memories w'.state.memories) (second_of (are_values rs results) (is_state p w'.state && is_grown w.state.memories w'.state.memories) b) in
          ((go rs (first_of (are_values rs results) (is_state p w'.state && is_grown w.state.memories w'.state.memories) b)).by w').by state below))))));
    };
  }

pub calls_trap : {A : Type 0} {M : WasmModule} {p : ImportPlaces} {way : Way} {extra spare : ℕ} {ins : List CoreValue} {ls : Locals} {c : List Instr} {out : A → List CoreValue} {Holds : A → Locals → Type 0} {t : Trap} {place : ℕ}
    → KnowsFunction M p (import.Trap t) place [] [] → Does M p way (suc extra) spare ins ls (trap_code place ++ c) (trap t) out Holds
calls_trap h = ask [] h refl (λ rs e. stop)
