-- The code of lists, its action, and its parts.
use Rattle.std.proofs.Common.{◌≡◌, ◌≢◌, ℕ, suc, ◌+◌, ◌*◌, ◌^◌, ◌<◌, Bool, true, false, List, [], ◌∷◌, ◌++◌, Some, refl, sym, ap, ◌∙◌, subst, arith, append_assoc, append-nil, reverse, slice_get}
use Rattle.std.specs.List.{AllByRecursion}
use Rattle.std.specs.Prelude.{nat_lt}
use Rattle.std.proofs.lemmas.Bool.{ltb-true}
use Rattle.std.proofs.Math.Nat.{mod-eq_of_lt}
use Rattle.fact_wasm.specs.declared.types.ValType.{ValType}
use Rattle.fact_wasm.specs.declared.types.ValType.TheVariants as val
use Rattle.fact_wasm.specs.declared.instr.FuncName.TheVariants as func
use Rattle.fact_wasm.specs.declared.instr.Instr.{Instr}
use Rattle.fact_wasm.specs.declared.instr.Instr.TheVariants as I
use Rattle.fact_wasm.specs.declared.module.WasmModule.{WasmModule}
use Rattle.fact_types.specs.declared.outside.CoreDef.{CoreDef}
use Rattle.fact_types.specs.declared.outside.Trap.TheVariants.{ListOutOfBounds}
use Rattle.fact_machine.specs.declared.types.CoreValue.{CoreValue}
use Rattle.fact_machine.specs.declared.types.CoreValue.TheVariants.{I32, I64}
use Rattle.fact_machine.specs.Numerics.{ieqz, iadd, isub}
use Rattle.fact_machine.specs.Machine.{has_type}
use Rattle.fact_machine.proofs.Laws.{leaves_next, leaves_as}
use Rattle.fact_machine.proofs.RowLaws.{leaves_local_get, leaves_i32_const}
use Rattle.fact_machine.proofs.NumericLaws.{leaves_i64_const, leaves_i32_add, leaves_i64_add, leaves_i64_sub, leaves_i64_eqz}
use Rattle.fact_types.specs.declared.import.Import.TheVariants as import
use Rattle.fact_values.specs.Lift.{bits_of}
use Rattle.fact_actions.specs.Actions.{Action, Give, Ask, ◌>>=◌, unless, each}
use Rattle.fact_actions.specs.Running.{ImportPlaces}
use Rattle.fact_actions.specs.Sides.{LiftLowerOptions, get_slots, set_slots, Source, AtAddress, Target, Into, first_bits, read_number, write_number, check_region}
use Rattle.fact_code_laws.specs.Does.{Locals, Way, Onward, held_types, Does, PushesValue}
use Rattle.fact_code_laws.specs.Knows.{KnowsFunction}
use Rattle.fact_code_laws.specs.Places.{To, Writable, ToUsed, MayGo, Stood, KeepsLocals, size_of, stacked, limit_of, widen}
use Rattle.fact_machine.specs.Typing.{address_type, address_operand}
use Rattle.fact_code_laws.proofs.Rules.{IsSet, within, in_turn, pushing, local_set, done}
use Rattle.fact_code_laws.proofs.Primitives.{ask}
use Rattle.fact_code_laws.proofs.Blocks.{weaker}
use Rattle.fact_code_laws.proofs.Numbers.{begins, writes, value_type}
use Rattle.fact_code_laws.proofs.Keeping.{keeps_then, goes_kept}
use Rattle.fact_code_laws.proofs.Temporaries.{Temporaries, Facts, without, Standing, standing_kept}
use Rattle.fact_code_laws.proofs.Slots.{ContextSlots, HasSlotsIf, others, in_slots, save_code, restore_code, slots_do}
use Rattle.fact_code_laws.proofs.Pointers.{address_is, pushes_address, gets_address, keep_number}
use Rattle.fact_code_laws.specs.Tests.{pointer_of_width}
use Rattle.fact_machine.specs.Exits.{Falls}
use Rattle.fact_machine.specs.Typed.{is_value, are_values}
use Rattle.fact_machine.proofs.Tests.{first_of, second_of, both}
use Rattle.fact_code_laws.specs.Lists.{const_code, add_code, bump_code, count_code, left_code, address_code, ask_code, put_code}

-- ---- the action

-- what realloc is told: the old pointer, the old size, the alignment and the new size
abbrev pub realloc_args : (memory64 : Bool) → (old size align bytes : ℕ) → List CoreValue
realloc_args memory64 old size align bytes = address_operand memory64 old ∷ address_operand memory64 size ∷ address_operand memory64 align ∷ address_operand memory64 bytes ∷ []

-- realloc is called, with the slots of the context saved around the call
abbrev pub realloc_action : {A : Type 0} (concurrency memory64 : Bool) (realloc : CoreDef) (args : List CoreValue) → (List CoreValue → Action A) → Action A
realloc_action concurrency memory64 realloc args k =
    get_slots concurrency (λ a b. set_slots concurrency (I32 0 ∷ []) (I32 0 ∷ []) (Ask (import.CoreDef realloc) args (address_type memory64 ∷ []) (λ rs. set_slots concurrency a b (k rs))))

-- a new region is asked for
abbrev pub region_action : {A : Type 0} (concurrency memory64 : Bool) (realloc : CoreDef) (align bytes : ℕ) → (List CoreValue → Action A) → Action A
region_action concurrency memory64 realloc align bytes k = realloc_action concurrency memory64 realloc (realloc_args memory64 0 0 align bytes) k

-- what a list's move does, over the places of its pointer and its length
abbrev pub list_action : (debug concurrency w1 w2 : Bool) (o1 o2 : LiftLowerOptions) (realloc : CoreDef) (e1 a1 e2 a2 : ℕ) → (Source → Target → Action (List CoreValue)) → (pointer1 length1 : Source) (pointer2 length2 : Target) → Action (List CoreValue)
list_action debug concurrency w1 w2 o1 o2 realloc e1 a1 e2 a2 element pointer1 length1 pointer2 length2 =
    read_number debug o1 (size_of (pointer_of_width w1)) pointer1 (λ p.
    read_number debug o1 (size_of (pointer_of_width w1)) length1 (λ n.
    unless ListOutOfBounds (nat_lt (n * e1) (2 ^ 32)) (
    unless ListOutOfBounds (nat_lt (n * e2) (2 ^ 32)) (
    check_region o1 ListOutOfBounds p (n * e1) a1 (
    region_action concurrency w2 realloc a2 (n * e2) (λ rs.
    check_region o2 ListOutOfBounds (first_bits rs) (n * e2) a2 (
    each n (λ i. element (AtAddress (p + i * e1)) (Into (first_bits rs + i * e2))) >>= (λ vs.
    write_number o2 (size_of (pointer_of_width w2)) pointer2 (first_bits rs) >>= (λ a.
    write_number o2 (size_of (pointer_of_width w2)) length2 n >>= (λ b. Give (a ++ b)))))))))))

-- ---- the code

-- with the slots saved around it, and its address is kept
abbrev pub realloc_code : (concurrency : Bool) → ContextSlots → Bool → (align bytes address place : ℕ) → List Instr
realloc_code concurrency s memory64 align bytes address place =
    (save_code concurrency s ++ (ask_code memory64 align bytes place ++ restore_code concurrency s)) ++ (widen (pointer_of_width memory64) val.I64 ++ I.LocalSet address ∷ [])

-- ---- parts

pushes_const : {M : WasmModule} {ls : Locals} (memory64 : Bool) (n : ℕ) → PushesValue M 1 ls (const_code memory64 n ∷ []) (address_operand memory64 n)
pushes_const true n = record { by = λ w vs. leaves_i64_const }
pushes_const false n = record { by = λ w vs. leaves_i32_const }

-- past the last element the address may wrap, and nothing is said of it
pub pushes_wrapped : {M : WasmModule} {ls : Locals} (memory64 : Bool) (local a size : ℕ) → slice_get ls local ≡ Some (Some (address_operand memory64 a))
    → (x : ℕ) × PushesValue M 3 ls (I.LocalGet local ∷ const_code memory64 size ∷ add_code memory64 ∷ []) (address_operand memory64 x) × (a + size < limit_of (pointer_of_width memory64) → x ≡ a + size)
pushes_wrapped true local a size h = (iadd 64 a size, record { by = λ w vs. leaves_next (leaves_local_get h) (leaves_next leaves_i64_const leaves_i64_add) }, λ lt. mod-eq_of_lt lt)
pushes_wrapped false local a size h = (iadd 32 a size, record { by = λ w vs. leaves_next (leaves_local_get h) (leaves_next leaves_i32_const leaves_i32_add) }, λ lt. mod-eq_of_lt lt)

pub address_typed : (memory64 : Bool) (x : ℕ) → has_type (address_operand memory64 x) (address_type memory64) ≡ true
address_typed true x = refl
address_typed false x = refl

-- a local of an address is bumped
pub bumps : {A : Type 0} {M : WasmModule} {p : ImportPlaces} {way : Way} {extra spare : ℕ} {ins : List CoreValue} {ls : Locals} {c : List Instr} {q : Action A} {out : A → List CoreValue} {Holds : A → Locals → Type 0}
    (memory64 : Bool) (local a size : ℕ) → slice_get ls local ≡ Some (Some (address_operand memory64 a)) → slice_get (held_types ls) local ≡ Some (address_type memory64)
    → ((x : ℕ) → (a + size < limit_of (pointer_of_width memory64) → x ≡ a + size) → (ls' : Locals) → IsSet local (address_operand memory64 x) ls ls' → Does M p way extra spare ins ls' c q out Holds)
    → Does M p way (4 + extra) spare ins ls (bump_code memory64 local size ++ c) q out Holds
bumps memory64 local a size h t go =
    let b = pushes_wrapped memory64 local a size h in
    within (omega arith) (pushing b.1 (local_set (address_type memory64) t (address_typed memory64 b.0) (λ ls' set. go b.0 b.2 ls' set)))

-- one turn less
pub counts : {A : Type 0} {M : WasmModule} {p : ImportPlaces} {way : Way} {extra spare : ℕ} {ins : List CoreValue} {ls : Locals} {c : List Instr} {q : Action A} {out : A → List CoreValue} {Holds : A → Locals → Type 0}
    (local k : ℕ) → suc k < 2 ^ 64 → slice_get ls local ≡ Some (Some (I64 (suc k))) → slice_get (held_types ls) local ≡ Some val.I64
    → ((ls' : Locals) → IsSet local (I64 k) ls ls' → Does M p way extra spare ins ls' c q out Holds) → Does M p way (4 + extra) spare ins ls (count_code local ++ c) q out Holds
counts {M = M} {ls = ls} local k lt h t go =
    let less : isub 64 (suc k) 1 ≡ k = omega arith in
    let pushed : PushesValue M 3 ls (I.LocalGet local ∷ I.I64Const 1 ∷ I.I64Sub ∷ []) (I64 k) =
    record { by = λ w vs. leaves_next (leaves_local_get h) (leaves_next leaves_i64_const (leaves_as (ap (λ n. Falls w (I64 n ∷ vs) ls) less) leaves_i64_sub)) } in
    within (omega arith) (pushing pushed (local_set val.I64 t refl go))

pub pushes_left : {M : WasmModule} {ls : Locals} (local k : ℕ) → slice_get ls local ≡ Some (Some (I64 k)) → PushesValue M 2 ls (left_code local) (I32 (ieqz k))
pushes_left local k h = record { by = λ w vs. leaves_next (leaves_local_get h) leaves_i64_eqz }

pub one_value : (memory64 : Bool) (v : CoreValue) → is_value v (address_type memory64) ≡ true → has_type v (address_type memory64) ≡ true → (v ≡ address_operand memory64 (bits_of v)) × (bits_of v < limit_of (pointer_of_width memory64))
one_value true (I64 n) h t = (refl, ltb-true n (2 ^ 64) h)
one_value false (I32 n) h t = (refl, ltb-true n (2 ^ 32) h)
one_value _ _ h t = cc

-- the address that an answer of realloc is
pub answer_is : (memory64 : Bool) (rs : List CoreValue) → are_values rs (address_type memory64 ∷ []) ≡ true → (rs ≡ address_operand memory64 (first_bits rs) ∷ []) × (first_bits rs < limit_of (pointer_of_width memory64))
answer_is memory64 [] h = cc
answer_is memory64 (v ∷ []) h =
    let value = first_of (is_value v (address_type memory64)) true h in
    let one = one_value memory64 v value (value_type v (address_type memory64) value) in
    (ap (λ u. u ∷ []) one.0, one.1)
answer_is memory64 (v ∷ u ∷ rs) h = let no : false ≡ true = second_of (is_value v (address_type memory64)) false h in cc

-- Realloc is called: code pushes the old pointer and the old size, and a local holds the new size.
pub asks_realloc : {M : WasmModule} {p : ImportPlaces} {ls : Locals} {a b : List Instr} {s t : ℕ} (memory64 : Bool) (realloc : CoreDef) (place old size align local bytes : ℕ) → bytes < limit_of (pointer_of_width memory64) → slice_get ls local ≡ Some (Some (I64 bytes))
    → PushesValue M s ls a (address_operand memory64 old) → PushesValue M t ls b (address_operand memory64 size)
    → KnowsFunction M p (import.CoreDef realloc) place (address_type memory64 ∷ address_type memory64 ∷ address_type memory64 ∷ address_type memory64 ∷ []) (address_type memory64 ∷ [])
    → Does M p Onward (s + (t + 4)) 0 [] ls (a ++ (b ++ (const_code memory64 align ∷ (address_code memory64 local ++ I.Call (func.Import place) ∷ [])))) (Ask (import.CoreDef realloc) (realloc_args memory64 old size align bytes) (address_type memory64 ∷ []) (λ rs. Give rs))
    reverse (λ rs l. (are_values rs (address_type memory64 ∷ []) ≡ true) × (l ≡ ls))
asks_realloc memory64 realloc place old size align local bytes small hb pushed pushed' h =
    let types = both (address_typed memory64 old) (both (address_typed memory64 size) (both (address_typed memory64 align) (both (address_typed memory64 bytes) refl))) in
    pushing pushed (pushing pushed' (within (omega arith) (pushing (pushes_const memory64 align) (gets_address memory64 local bytes small hb
    (ask (realloc_args memory64 old size align bytes) h types (λ rs v. done (sym (append-nil (reverse rs))) (v, refl)))))))

asks_region : {M : WasmModule} {p : ImportPlaces} {ls : Locals} (memory64 : Bool) (realloc : CoreDef) (place align local bytes : ℕ) → bytes < limit_of (pointer_of_width memory64) → slice_get ls local ≡ Some (Some (I64 bytes))
    → KnowsFunction M p (import.CoreDef realloc) place (address_type memory64 ∷ address_type memory64 ∷ address_type memory64 ∷ address_type memory64 ∷ []) (address_type memory64 ∷ [])
    → Does M p Onward 6 0 [] ls (ask_code memory64 align local place) (Ask (import.CoreDef realloc) (address_operand memory64 0 ∷ address_operand memory64 0 ∷ address_operand memory64 align ∷ address_operand memory64 bytes ∷ []) (address_type memory64 ∷ []) (λ rs. Give rs))
    reverse (λ rs l. (are_values rs (address_type memory64 ∷ []) ≡ true) × (l ≡ ls))
asks_region memory64 realloc place align local bytes small hb h = asks_realloc memory64 realloc place 0 0 align local bytes small hb (pushes_const memory64 0) (pushes_const memory64 0) h

slots_then : {A : Type 0} (concurrency memory64 : Bool) (realloc : CoreDef) (args : List CoreValue) (k : List CoreValue → Action A)
    → (in_slots concurrency (Ask (import.CoreDef realloc) args (address_type memory64 ∷ []) (λ rs. Give rs)) >>= k) ≡ realloc_action concurrency memory64 realloc args k
slots_then false memory64 realloc args k = refl
slots_then true memory64 realloc args k = refl

-- realloc is called: the answer is an address, which a temporary keeps
module _ {locals : List ValType} {used : ℕ → Bool} {count : ℕ} {temp : ℕ → ℕ} {type : ℕ → ValType} (t : Temporaries locals used count temp type) {first ls : Locals} (e : held_types first ≡ locals) {fs : Facts} (s : Standing used count temp first ls fs)
    (concurrency : Bool) (slots : ContextSlots) {A : Type 0} {M : WasmModule} {p : ImportPlaces} {way : Way} {extra spare : ℕ} {c : List Instr} {out : A → List CoreValue} {Holds : A → Locals → Type 0} where
  -- by any code that calls it, whatever the locals of the slots hold
  pub calls_realloc : {k : List CoreValue → Action A} {code : List Instr} {n : ℕ} → HasSlotsIf concurrency M p slots → slots.saved0 ≢ slots.saved1 → slice_get locals slots.saved0 ≡ Some val.I32 → slice_get locals slots.saved1 ≡ Some val.I32
      → ((i : ℕ) → used i ≡ true → others slots i ≡ true) → AllByRecursion (λ f. others slots (temp f.0) ≡ true) fs
      → (memory64 : Bool) (realloc : CoreDef) (args : List CoreValue) (j : ℕ) → j < count → type j ≡ val.I64
      → ((ls' : Locals) → KeepsLocals (others slots) ls ls' → Does M p Onward n 0 [] ls' code (Ask (import.CoreDef realloc) args (address_type memory64 ∷ []) (λ rs. Give rs)) reverse (λ rs l. (are_values rs (address_type memory64 ∷ []) ≡ true) × (l ≡ ls')))
      → ((rs : List CoreValue) → first_bits rs < limit_of (pointer_of_width memory64) → (ls' : Locals) → Standing used count temp first ls' ((j, I64 (first_bits rs)) ∷ without j fs) → Does M p way extra spare [] ls' c (k rs) out Holds)
      → Does M p way (14 + n + extra) spare [] ls (((save_code concurrency slots ++ (code ++ restore_code concurrency slots)) ++ (widen (pointer_of_width memory64) val.I64 ++ I.LocalSet (temp j) ∷ [])) ++ c) (realloc_action concurrency memory64 realloc args k) out Holds
  calls_realloc {k} {code} {n} has apart t0 t1 outside free memory64 realloc args j lt wide called go =
      let keep = widen (pointer_of_width memory64) val.I64 ++ I.LocalSet (temp j) ∷ [] in
      let around = save_code concurrency slots ++ (code ++ restore_code concurrency slots) in
      let types : held_types ls ≡ locals = s.keeps.types ∙ e in
      let asked = slots_do concurrency slots has apart (ap (λ l. slice_get l slots.saved0) types ∙ t0) (ap (λ l. slice_get l slots.saved1) types ∙ t1) called in
      let all = in_turn asked (λ rs ls' r.
      let a = answer_is memory64 rs r.0 in
      let stack : stacked (pointer_of_width memory64) (first_bits rs) ∷ [] ≡ reverse rs = ap (λ u. u ∷ []) (address_is memory64 (first_bits rs)) ∙ ap reverse (sym a.0) in
      subst (λ us. Does M p way (2 + extra) spare us ls' (keep ++ c) (k rs) out Holds) stack (keep_number t e (standing_kept s r.1 outside free) memory64 j (first_bits rs) lt wide (λ l st. go rs a.1 l st))) in
      subst (λ r. Does M p way (14 + n + extra) spare [] ls r (realloc_action concurrency memory64 realloc args k) out Holds) (sym (append_assoc around keep c))
      (subst (λ q. Does M p way (14 + n + extra) spare [] ls (around ++ (keep ++ c)) q out Holds) (slots_then concurrency memory64 realloc args k) (within (omega arith) all))

  -- a new region is asked for
  pub reallocates : {k : List CoreValue → Action A} → HasSlotsIf concurrency M p slots → slots.saved0 ≢ slots.saved1 → slice_get locals slots.saved0 ≡ Some val.I32 → slice_get locals slots.saved1 ≡ Some val.I32
      → ((i : ℕ) → used i ≡ true → others slots i ≡ true) → AllByRecursion (λ f. others slots (temp f.0) ≡ true) fs
      → (memory64 : Bool) (realloc : CoreDef) (place align b j bytes : ℕ) → j < count → type j ≡ val.I64 → bytes < limit_of (pointer_of_width memory64) → slice_get ls (temp b) ≡ Some (Some (I64 bytes)) → others slots (temp b) ≡ true
      → KnowsFunction M p (import.CoreDef realloc) place (address_type memory64 ∷ address_type memory64 ∷ address_type memory64 ∷ address_type memory64 ∷ []) (address_type memory64 ∷ [])
      → ((rs : List CoreValue) → first_bits rs < limit_of (pointer_of_width memory64) → (ls' : Locals) → Standing used count temp first ls' ((j, I64 (first_bits rs)) ∷ without j fs) → Does M p way extra spare [] ls' c (k rs) out Holds)
      → Does M p way (20 + extra) spare [] ls (realloc_code concurrency slots memory64 align (temp b) (temp j) place ++ c) (region_action concurrency memory64 realloc align bytes k) out Holds
  reallocates has apart t0 t1 outside free memory64 realloc place align b j bytes lt wide small hb hb' h go =
      calls_realloc has apart t0 t1 outside free memory64 realloc (realloc_args memory64 0 0 align bytes) j lt wide (λ ls' k'. asks_region memory64 realloc place align (temp b) bytes small (k'.same (temp b) hb' ∙ hb) h) go

-- the same without slots of the context
module _ {locals : List ValType} {used : ℕ → Bool} {count : ℕ} {temp : ℕ → ℕ} {type : ℕ → ValType} (t : Temporaries locals used count temp type) {first ls : Locals} (e : held_types first ≡ locals) {fs : Facts} (s : Standing used count temp first ls fs)
    {A : Type 0} {M : WasmModule} {p : ImportPlaces} {way : Way} {extra spare : ℕ} {c : List Instr} {out : A → List CoreValue} {Holds : A → Locals → Type 0} where
  pub reallocates_alone : {k : List CoreValue → Action A} (memory64 : Bool) (realloc : CoreDef) (place align b j bytes : ℕ) → j < count → type j ≡ val.I64 → bytes < limit_of (pointer_of_width memory64) → slice_get ls (temp b) ≡ Some (Some (I64 bytes))
      → KnowsFunction M p (import.CoreDef realloc) place (address_type memory64 ∷ address_type memory64 ∷ address_type memory64 ∷ address_type memory64 ∷ []) (address_type memory64 ∷ [])
      → ((rs : List CoreValue) → first_bits rs < limit_of (pointer_of_width memory64) → (ls' : Locals) → Standing used count temp first ls' ((j, I64 (first_bits rs)) ∷ without j fs) → Does M p way extra spare [] ls' c (k rs) out Holds)
      → Does M p way (8 + extra) spare [] ls (ask_code memory64 align (temp b) place ++ ((widen (pointer_of_width memory64) val.I64 ++ I.LocalSet (temp j) ∷ []) ++ c)) (region_action false memory64 realloc align bytes k) out Holds
  reallocates_alone {k} memory64 realloc place align b j bytes lt wide small hb h go =
      let keep = widen (pointer_of_width memory64) val.I64 ++ I.LocalSet (temp j) ∷ [] in
      let asked = asks_region {M = M} {p = p} {ls = ls} memory64 realloc place align (temp b) bytes small hb h in
      within (omega arith) (in_turn asked (λ rs ls' r.
      let a = answer_is memory64 rs r.0 in
      let stack : stacked (pointer_of_width memory64) (first_bits rs) ∷ [] ≡ reverse rs = ap (λ u. u ∷ []) (address_is memory64 (first_bits rs)) ∙ ap reverse (sym a.0) in
      subst (λ us. Does M p way (2 + extra) spare us ls' (keep ++ c) (k rs) out Holds) stack
      (keep_number t e (subst (λ l. Standing used count temp first l fs) (sym r.1) s) memory64 j (first_bits rs) lt wide (λ l st. go rs a.1 l st))))

-- a number as wide as addresses is put into a place
pub puts : {M : WasmModule} {p : ImportPlaces} {first ls : Locals} (used : ℕ → Bool) (o : LiftLowerOptions) (memory64 : Bool) (to : To) (d : Target) (local x : ℕ) → Writable M p o memory64 (pointer_of_width memory64) to → ToUsed used to → MayGo used first memory64 to d → KeepsLocals used first ls
    → x < limit_of (pointer_of_width memory64) → slice_get ls local ≡ Some (Some (I64 x))
    → Does M p Onward 5 0 [] ls (put_code memory64 local to) (write_number o (size_of (pointer_of_width memory64)) d x) (λ vs. []) (λ vs ls'. Stood ls' to vs × KeepsLocals used first ls')
puts {M} {p} {first} {ls} used o memory64 to d local x h u g k lt there =
    let got = pushes_address memory64 local x lt there in
    let g' = goes_kept k memory64 to d u g in
    within (omega (arith, got.few)) (begins memory64 used to d g' (pushing got.pushes
    (weaker (λ vs. refl) (λ vs ls' r. (r.0, keeps_then k r.1)) (writes used (pointer_of_width memory64) o memory64 to d h g' lt))))
