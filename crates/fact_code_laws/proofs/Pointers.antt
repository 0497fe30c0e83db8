-- Pointers and lengths as wide as the addresses of a side, kept as i64 in temporaries.
use Rattle.std.proofs.Common.{◌≡◌, ◌≢◌, ℕ, ◌+◌, ◌-◌, ◌%◌, ◌^◌, ◌<◌, ◌≤◌, Bool, true, false, List, [], ◌∷◌, ◌++◌, Option, Some, None, refl, sym, ap, ◌∙◌, subst, arith, append_assoc, slice_get}
use Rattle.std.specs.Prelude.{nat_le, nat_eq, bit_and}
use Rattle.std.proofs.lemmas.Bool.{lt-ltb, leb-true}
use Rattle.std.proofs.Math.Nat.{mod-eq_of_lt}
use Rattle.fact_wasm.specs.declared.types.ValType.{ValType}
use Rattle.fact_wasm.specs.declared.types.ValType.TheVariants as val
use Rattle.fact_wasm.specs.declared.instr.Instr.{Instr}
use Rattle.fact_wasm.specs.declared.instr.Instr.TheVariants as I
use Rattle.fact_wasm.specs.declared.module.WasmModule.{WasmModule}
use Rattle.fact_types.specs.declared.outside.Trap.{Trap}
use Rattle.fact_machine.specs.declared.types.CoreValue.{CoreValue}
use Rattle.fact_machine.specs.declared.types.CoreValue.TheVariants.{I32, I64}
use Rattle.fact_machine.specs.Machine.{has_type}
use Rattle.fact_machine.specs.Typing.{address_operand}
use Rattle.fact_types.specs.declared.import.Import.TheVariants as import
use Rattle.fact_actions.specs.Actions as action
use Rattle.fact_actions.specs.Actions.{Action, MemoryLength, unless}
use Rattle.fact_actions.specs.Running.{ImportPlaces}
use Rattle.fact_types.specs.declared.outside.MemoryOption.{MemoryOption}
use Rattle.fact_actions.specs.Sides.{LiftLowerOptions, Source, read_number, check_region, with_memory}
use Rattle.fact_code_laws.specs.Code.{guard_code, length_code}
use Rattle.fact_code_laws.specs.Does.{Locals, Way, held_types, Does}
use Rattle.fact_code_laws.specs.Knows.{KnowsFunction}
use Rattle.fact_code_laws.specs.Places.{From, MayHold, Readable, FromUsed, SideMemory, StandsAt, N32, N64, size_of, stacked, limit_of, narrow, widen, read_code, DebugChecks, is_on}
use Rattle.fact_code_laws.proofs.Rules.{within, stretch, pushing, local_set}
use Rattle.fact_code_laws.proofs.Blocks.{guard}
use Rattle.fact_code_laws.proofs.Lengths.{IsLength, measure}
use Rattle.fact_code_laws.proofs.Numbers.{Gets, out_of_local, out_of_stack, reads}
use Rattle.fact_code_laws.proofs.Keeping.{stands_kept}
use Rattle.fact_code_laws.proofs.Temporaries.{Temporaries, Facts, without, Standing, temp_type, standing_set, set_temp}
use Rattle.fact_code_laws.proofs.Regions.{pushes_bounds}
use Rattle.fact_code_laws.specs.Tests.{bounds_code, aligned_guard, HasUnaligned, pointer_of_width, read_into, region_code}
use Rattle.fact_code_laws.proofs.Guards.{checks_aligned}
use Rattle.fact_code_laws.specs.Lists.{address_code}

pub address_is : (memory64 : Bool) (x : ℕ) → stacked (pointer_of_width memory64) x ≡ address_operand memory64 x
address_is true x = refl
address_is false x = refl

pub limit_wide : (memory64 : Bool) → limit_of (pointer_of_width memory64) ≤ 2 ^ 64
limit_wide true = omega arith
limit_wide false = omega arith

pub pushes_address : {M : WasmModule} {ls : Locals} (memory64 : Bool) (i x : ℕ) → x < limit_of (pointer_of_width memory64) → slice_get ls i ≡ Some (Some (I64 x)) → Gets M ls i (narrow (pointer_of_width memory64) val.I64) (stacked (pointer_of_width memory64) x)
pushes_address true i x lt h = out_of_local N64 val.I64 (I64 x) tt (lt-ltb x (2 ^ 64) lt) h
pushes_address {M} {ls} false i x lt h =
    subst (λ n. Gets M ls i (narrow N32 val.I64) (I32 n)) (mod-eq_of_lt lt) (out_of_local N32 val.I64 (I64 x) tt (lt-ltb x (2 ^ 64) (omega arith)) h)

-- an address out of an i64, in front of other code
pub gets_address : {A : Type 0} {M : WasmModule} {p : ImportPlaces} {way : Way} {extra spare : ℕ} {ins : List CoreValue} {ls : Locals} {c : List Instr} {q : Action A} {out : A → List CoreValue} {Holds : A → Locals → Type 0}
    (memory64 : Bool) (i x : ℕ) → x < limit_of (pointer_of_width memory64) → slice_get ls i ≡ Some (Some (I64 x)) → Does M p way extra spare (address_operand memory64 x ∷ ins) ls c q out Holds
    → Does M p way (2 + extra) spare ins ls (address_code memory64 i ++ c) q out Holds
gets_address {M = M} {p} {way} {extra} {spare} {ins} {ls} {c} {q} {out} {Holds} memory64 i x lt h d =
    let got = pushes_address {M = M} {ls = ls} memory64 i x lt h in
    within (omega (arith, got.few)) (pushing got.pushes (subst (λ v. Does M p way extra spare (v ∷ ins) ls c q out Holds) (sym (address_is memory64 x)) d))

pub may_hold : (memory64 : Bool) → MayHold (pointer_of_width memory64) val.I64
may_hold true = tt
may_hold false = tt

module _ {locals : List ValType} {used : ℕ → Bool} {count : ℕ} {temp : ℕ → ℕ} {type : ℕ → ValType} (t : Temporaries locals used count temp type) {first ls : Locals} (e : held_types first ≡ locals) {fs : Facts} (s : Standing used count temp first ls fs)
    {A : Type 0} {M : WasmModule} {p : ImportPlaces} {way : Way} {extra spare : ℕ} {ins : List CoreValue} {c : List Instr} {out : A → List CoreValue} {Holds : A → Locals → Type 0} where
  -- a number on the stack, as wide as addresses, into a temporary
  pub keep_number : {q : Action A} (memory64 : Bool) (j x : ℕ) → j < count → type j ≡ val.I64
      → ((ls' : Locals) → Standing used count temp first ls' ((j, I64 x) ∷ without j fs) → Does M p way extra spare ins ls' c q out Holds)
      → Does M p way (2 + extra) spare (stacked (pointer_of_width memory64) x ∷ ins) ls ((widen (pointer_of_width memory64) val.I64 ++ I.LocalSet (temp j) ∷ []) ++ c) q out Holds
  keep_number {q} memory64 j x lt wide go =
      let made = out_of_stack {M = M} {ls = ls} x (pointer_of_width memory64) val.I64 (may_hold memory64) in
      let set = set_temp t e {M = M} {p = p} {way = way} {extra = extra} {spare = spare} {ins = ins} {c = c} {q = q} {out = out} {Holds = Holds} {v = I64 x} j lt (ap (has_type (I64 x)) wide) s go in
      subst (λ code. Does M p way (2 + extra) spare (stacked (pointer_of_width memory64) x ∷ ins) ls code q out Holds) (sym (append_assoc (widen (pointer_of_width memory64) val.I64) (I.LocalSet (temp j) ∷ []) c))
      (within (omega (arith, made.few)) (stretch (λ w below. made.leaves w (ins ++ below)) set))

  pub reads_into : {k : ℕ → Action A} (checks : DebugChecks) (o : LiftLowerOptions) (memory64 : Bool) (from : From) (src : Source) (j : ℕ) → j < count → type j ≡ val.I64 → Readable M p checks o memory64 (pointer_of_width memory64) from → FromUsed used from → StandsAt first memory64 from src
      → ((x : ℕ) → x < limit_of (pointer_of_width memory64) → (ls' : Locals) → Standing used count temp first ls' ((j, I64 x) ∷ without j fs) → Does M p way extra spare ins ls' c (k x) out Holds)
      → Does M p way (10 + extra) spare ins ls (read_into checks memory64 from (temp j) ++ c) (read_number (is_on checks) o (size_of (pointer_of_width memory64)) src k) out Holds
  reads_into {k} checks o memory64 from src j lt wide h u st go =
      subst (λ code. Does M p way (10 + extra) spare ins ls code (read_number (is_on checks) o (size_of (pointer_of_width memory64)) src k) out Holds) (sym (append_assoc (read_code checks (pointer_of_width memory64) from) _ c))
      (within (omega arith) (reads checks (pointer_of_width memory64) o memory64 from src h (stands_kept s.keeps memory64 from src u st) (λ x below. keep_number memory64 j x lt wide (go x below))))

-- ---- regions

length_wide : (memory64 : Bool) (n : ℕ) → IsLength memory64 n → n < 2 ^ 64
length_wide true n h = h
length_wide false n h = let le : n ≤ 2 ^ 32 = h in omega arith

module _ {locals : List ValType} {used : ℕ → Bool} {count : ℕ} {temp : ℕ → ℕ} {type : ℕ → ValType} (t : Temporaries locals used count temp type) {first ls : Locals} (e : held_types first ≡ locals) {fs : Facts} (s : Standing used count temp first ls fs)
    {A : Type 0} {M : WasmModule} {p : ImportPlaces} {way : Way} {extra spare : ℕ} {ins : List CoreValue} {c : List Instr} {q : Action A} {out : A → List CoreValue} {Holds : A → Locals → Type 0} where
  pub region : (o : LiftLowerOptions) (memory64 : Bool) (memory align : ℕ) (side : SideMemory M p o memory64 memory) (trap : Trap) (x b l unaligned outside at bytes : ℕ) → x < count → b < count → l < count → x ≢ l → b ≢ l → type l ≡ val.I64
      → ((n : ℕ) → bit_and n (align - 1) ≡ n % align) → at < 2 ^ 64 → bytes < 2 ^ 64 → slice_get ls (temp x) ≡ Some (Some (I64 at)) → slice_get ls (temp b) ≡ Some (Some (I64 bytes))
      → HasUnaligned (nat_eq align 1) M p unaligned → KnowsFunction M p (import.Trap trap) outside [] []
      → ((length : ℕ) → IsLength memory64 length → at + bytes ≤ length → (ls' : Locals) → Standing used count temp first ls' ((l, I64 length) ∷ without l fs) → Does M p way extra spare ins ls' c q out Holds)
      → Does M p way (22 + extra) spare ins ls (region_code memory memory64 side.log2 align (temp x) (temp b) (temp l) unaligned outside ++ c) (check_region o trap at bytes align q) out Holds
  region o memory64 memory align side trap x b l unaligned outside at bytes lx lb ll nx nb wide masks ha hb hx hbytes traps traps' go =
      let checked : (length : ℕ) → IsLength memory64 length → Does M p way (1 + (11 + extra)) spare (I64 length ∷ ins) ls (I.LocalSet (temp l) ∷ (guard_code (bounds_code (temp x) (temp b) (temp l)) outside ++ c)) (unless trap (nat_le (at + bytes) length) q) out Holds = λ length fits.
      within (omega arith) (local_set (type l) (temp_type t e l ll s) (ap (has_type (I64 length)) wide) (λ ls' set.
      guard (nat_le (at + bytes) length) traps'
      (pushes_bounds (temp x) (temp b) (temp l) at bytes length ha hb (length_wide memory64 length fits)
      (set.others (temp x) (λ same. nx (t.distinct x l lx ll same)) ∙ hx) (set.others (temp b) (λ same. nb (t.distinct b l lb ll same)) ∙ hbytes) set.here)
      (λ good. go length fits (leb-true (at + bytes) length good) ls' (standing_set t e l ll s set)))) in
      let measured = measure {log2 = side.log2} {k = λ length. unless trap (nat_le (at + bytes) length) q} memory side.has checked in
      let is : MemoryLength side.option.def (λ length. unless trap (nat_le (at + bytes) length) q) ≡ with_memory o (λ m. MemoryLength m.def (λ length. unless trap (nat_le (at + bytes) length) q)) =
      sym (ap (λ y. elim y as (λ (y : Option MemoryOption). Action A) [ None ↦ action.Unreachable | Some m ↦ MemoryLength m.def (λ length. unless trap (nat_le (at + bytes) length) q) ]) side.is) in
      let rest = subst (λ r. Does M p way (4 + (1 + (11 + extra))) spare ins ls (length_code memory memory64 side.log2 ++ (I.LocalSet (temp l) ∷ (guard_code (bounds_code (temp x) (temp b) (temp l)) outside ++ c))) r out Holds) is measured in
      let all = checks_aligned (nat_eq align 1) (temp x) at align unaligned refl traps masks hx rest in
      within (omega arith) (subst (λ code. Does M p way (6 + (4 + (1 + (11 + extra)))) spare ins ls code (check_region o trap at bytes align q) out Holds) (same_code (aligned_guard (nat_eq align 1) (temp x) align unaligned) (length_code memory memory64 side.log2)) all)
    where
      same_code : (a d : List Instr) → (a ++ (d ++ (I.LocalSet (temp l) ∷ (guard_code (bounds_code (temp x) (temp b) (temp l)) outside ++ c)))) ≡ ((a ++ (d ++ (I.LocalSet (temp l) ∷ guard_code (bounds_code (temp x) (temp b) (temp l)) outside))) ++ c)
      same_code a d =
          let checked = I.LocalSet (temp l) ∷ guard_code (bounds_code (temp x) (temp b) (temp l)) outside in
          ap (λ r. a ++ r) (sym (append_assoc d checked c)) ∙ sym (append_assoc a (d ++ checked) c)
