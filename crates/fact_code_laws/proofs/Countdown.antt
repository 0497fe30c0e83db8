-- A loop that runs as often as an i32 says, at least once, and counts it down.
use Rattle.std.proofs.Common.{◌≡◌, ℕ, zero, suc, ◌+◌, ◌-◌, ◌^◌, ◌<◌, ◌≤◌, List, [], ◌∷◌, ◌++◌, Some, refl, sym, ap, ◌∙◌, subst, arith, slice_get}
use Rattle.fact_wasm.specs.declared.instr.BlockType.TheVariants.{Empty}
use Rattle.fact_wasm.specs.declared.instr.Instr.{Instr}
use Rattle.fact_wasm.specs.declared.instr.Instr.TheVariants as I
use Rattle.fact_wasm.specs.declared.instr.Instr.TheOpen as o
use Rattle.fact_wasm.specs.declared.types.ValType.{ValType}
use Rattle.fact_wasm.specs.declared.types.ValType.TheVariants as val
use Rattle.fact_wasm.specs.declared.module.WasmModule.{WasmModule}
use Rattle.fact_machine.specs.declared.types.CoreValue.{CoreValue}
use Rattle.fact_machine.specs.declared.types.CoreValue.TheVariants.{I32}
use Rattle.fact_machine.specs.Exits.{Falls}
use Rattle.fact_machine.specs.Numerics.{iadd}
use Rattle.fact_machine.specs.World.{World}
use Rattle.fact_machine.proofs.Laws.{leaves_next, leaves_as}
use Rattle.fact_machine.proofs.NumericLaws.{leaves_i32_add}
use Rattle.fact_machine.proofs.RowLaws.{leaves_local_get, leaves_i32_const}
use Rattle.fact_machine.proofs.Structure.{enters_empty, leaves_loop}
use Rattle.fact_actions.specs.Actions.{Action, Give, ◌>>=◌, each_from, each}
use Rattle.fact_actions.specs.Running.{ImportPlaces, Ended, Gave, Halted, Strayed, run}
use Rattle.fact_code_laws.specs.Does.{Locals, Onward, Outward, held_types, EndsOn, Does, PushesValue}
use Rattle.fact_code_laws.specs.FixedLists.{again_code, countdown_code}
use Rattle.fact_code_laws.specs.Typed.{OnStack, IsTyped}
use Rattle.fact_code_laws.proofs.Blocks.{strays_into, mapped, weaker, same_run, alone}
use Rattle.fact_code_laws.proofs.Loops.{into_loop, stopped_loop, turn}
use Rattle.fact_code_laws.proofs.Rules.{IsSet, within, in_turn, pushing, local_tee, br_if_zero, branch_if, done}
use Rattle.fact_code_laws.proofs.TypedRows.{takes_plain, takes_local_get, takes_local_tee, takes_br_if}
use Rattle.fact_code_laws.proofs.TypedShapes.{takes_loop, typed_anywhere}
use Rattle.fact_code_laws.proofs.TypingLaws.{typed_then, typed_next, typed_one}

-- ---- the last turn

module _ {A : Type 0} {M : WasmModule} {p : ImportPlaces} {body : List Instr} {ls : Locals} {Holds : A → Locals → Type 0} {extra spare : ℕ} where
  ends_falling : {w : World} {vs : List CoreValue} (e : Ended A) → EndsOn M p Onward extra spare w [] ls body [] (λ a. []) Holds e → EndsOn M p Onward (suc extra) spare w vs ls (I.Loop Empty body ∷ []) vs (λ a. []) Holds e
  ends_falling (Gave n cs a w') d = record {
    by = record {
      steps = suc d.by.steps;
      locals = d.by.locals;
      under = [];
      holds = d.by.holds;
      typed = d.by.typed;
      bound = omega (arith, d.by.bound);
      leaves = leaves_loop enters_empty tt d.by.leaves;
    };
  }
  ends_falling (Halted m cs s w') d = record { by = record { steps = suc d.by.steps; locals = d.by.locals; typed = d.by.typed; leaves = stopped_loop s w' d.by.locals d.by.leaves } }
  ends_falling (Strayed m cs w') d = record { by = strays_into into_loop d.by }

  -- a turn of a loop that falls out of it
  falling_turn : {q : Action A} → Does M p Onward extra spare [] ls body q (λ a. []) Holds → Does M p Onward (suc extra) spare [] ls (I.Loop Empty body ∷ []) q (λ a. []) Holds
  falling_turn {q} d = record { by = λ w. record { by = λ ty below. ends_falling (run p q w) ((d.by w).by ty []) } }

-- ---- the count

pushes_less : {M : WasmModule} {ls : Locals} (left k : ℕ) → suc k < 2 ^ 32 → slice_get ls left ≡ Some (Some (I32 (suc k))) → PushesValue M 3 ls (I.LocalGet left ∷ I.I32Const 4294967295 ∷ I.I32Add ∷ []) (I32 k)
pushes_less {ls = ls} left k lt h =
    let less : iadd 32 (suc k) 4294967295 ≡ k = omega arith in
    record { by = λ w vs. leaves_next (leaves_local_get h) (leaves_next leaves_i32_const (leaves_as (ap (λ n. Falls w (I32 n ∷ vs) ls) less) leaves_i32_add)) }

module _ {A : Type 0} {M : WasmModule} {p : ImportPlaces} {ls : Locals} {Holds : A → Locals → Type 0} {a : A} (left : ℕ) (typed : slice_get (held_types ls) left ≡ Some val.I32) where
  goes_back : (k : ℕ) → suc (suc k) < 2 ^ 32 → slice_get ls left ≡ Some (Some (I32 (suc (suc k)))) → ((ls' : Locals) → IsSet left (I32 (suc k)) ls ls' → Holds a ls') → Does M p (Outward 0) 5 0 [] ls (again_code left) (Give a) (λ x. []) Holds
  goes_back k lt h go = pushing (pushes_less left (suc k) lt h) (local_tee val.I32 typed refl (λ ls' set. branch_if refl (go ls' set)))

  goes_out : slice_get ls left ≡ Some (Some (I32 1)) → ((ls' : Locals) → IsSet left (I32 0) ls ls' → Holds a ls') → Does M p Onward 5 0 [] ls (again_code left) (Give a) (λ x. []) Holds
  goes_out h go = pushing (pushes_less left 0 (omega arith) h) (local_tee val.I32 typed refl (λ ls' set. br_if_zero (done refl (go ls' set))))

-- ---- the loop

-- What holds behind the body of the turn of a number, before the count: nothing was given, the count is as before the turn, and with
-- one less in it all is as before the next turn.
pub record IsTurned {B : Type 0} (left n : ℕ) (Inv : ℕ → Locals → Type 0) (i : ℕ) (xs : List B) (ls : Locals) : Type 0 where
  pub none : xs ≡ []
  pub typed : slice_get (held_types ls) left ≡ Some val.I32
  pub count : slice_get ls left ≡ Some (Some (I32 (n - i)))
  pub next : (ls' : Locals) → IsSet left (I32 (n - suc i)) ls ls' → Inv (suc i) ls'

module _ {B : Type 0} {M : WasmModule} {p : ImportPlaces} {body : List Instr} {extra spare : ℕ} (left n : ℕ) (small : n < 2 ^ 32) (f : ℕ → Action (List B)) (Inv : ℕ → Locals → Type 0) (room : extra + 6 ≤ spare)
    (each_turn : (i : ℕ) (ls : Locals) → suc i ≤ n → Inv i ls → Does M p Onward extra spare [] ls body (f i) (λ xs. []) (λ xs ls'. IsTurned left n Inv i xs ls')) where
  -- nothing is given by all turns
  record IsDone (m : ℕ) (xs : List B) (ls : Locals) : Type 0 where
    pub none : xs ≡ []
    pub holds : Inv m ls

  last_one : (i : ℕ) (ls : Locals) → i + 1 ≡ n → Inv i ls → Does M p Onward (extra + 5) (spare + 0) [] ls (body ++ again_code left) (f i >>= (λ xs. Give (xs ++ []))) (λ xs. []) (λ xs ls'. IsDone n xs ls')
  last_one i ls e inv = in_turn (each_turn i ls (omega arith) inv) (λ xs ls1 t.
      let one : n - i ≡ 1 = omega arith in
      let none : n - suc i ≡ 0 = omega arith in
      let end : suc i ≡ n = omega arith in
      goes_out left t.typed (t.count ∙ ap (λ m. Some (Some (I32 m))) one) (λ ls2 set. record {
        none = ap (λ l. l ++ []) t.none;
        holds = subst (λ m. Inv m ls2) end (t.next ls2 (subst (λ m. IsSet left (I32 m) ls1 ls2) (sym none) set));
      }))

  one_more : (i k : ℕ) (ls : Locals) → i + suc (suc k) ≡ n → Inv i ls → Does M p (Outward 0) (extra + 5) (spare + 0) [] ls (body ++ again_code left) (f i >>= (λ xs. Give xs)) (λ xs. []) (λ xs ls'. IsDone (suc i) xs ls')
  one_more i k ls e inv = in_turn (each_turn i ls (omega arith) inv) (λ xs ls1 t.
      let more : n - i ≡ suc (suc k) = omega arith in
      let less : n - suc i ≡ suc k = omega arith in
      goes_back left t.typed k (omega arith) (t.count ∙ ap (λ m. Some (Some (I32 m))) more) (λ ls2 set. record { none = t.none; holds = t.next ls2 (subst (λ m. IsSet left (I32 m) ls1 ls2) (sym less) set) }))

  turns : (k i : ℕ) (ls : Locals) → i + suc k ≡ n → Inv i ls → Does M p Onward 0 0 [] ls (countdown_code left body) (each_from i (suc k) f) (λ xs. []) (λ xs ls'. IsDone n xs ls')
  turns zero i ls e inv = within (omega (arith, room)) (falling_turn (last_one i ls e inv))
  turns (suc k) i ls e inv =
      within (omega (arith, room)) (turn (same_run (alone p (f i)) (one_more i k ls e inv)) (λ xs ls' d.
      mapped (λ ys. xs ++ ys) (λ ys. refl) (λ ys l g. record { none = ap (λ l. l ++ ys) d.none ∙ g.none; holds = g.holds }) (turns k (suc i) ls' (omega arith) d.holds)))

  -- a turn for each number below one that is not 0
  pub counted_down : (ls : Locals) → 0 < n → Inv 0 ls → Does M p Onward 0 0 [] ls (countdown_code left body) (each n f) (λ xs. []) (λ xs ls'. (xs ≡ []) × Inv n ls')
  counted_down ls some inv = by_count n refl
    where
      by_count : (m : ℕ) → m ≡ n → Does M p Onward 0 0 [] ls (countdown_code left body) (each m f) (λ xs. []) (λ xs ls'. (xs ≡ []) × Inv n ls')
      by_count zero e = absurd (omega arith)
      by_count (suc m) e = weaker (λ xs. refl) (λ xs ls' d. (d.none, d.holds)) (turns m 0 ls (omega arith) inv)

-- ---- what it is typed as

module _ {M : WasmModule} {locals : List ValType} {labels : List (List ValType)} {ins : List ValType} where
  -- a body of any labels, counted down
  pub typed_countdown : {body : List Instr} (left : ℕ) → slice_get locals left ≡ Some val.I32 → IsTyped M locals [] body [] (OnStack []) → IsTyped M locals labels (countdown_code left body) ins (OnStack ins)
  typed_countdown {body} left h x =
      let again : IsTyped M locals ([] ∷ labels) (again_code left) [] (OnStack []) =
      typed_next (takes_local_get h) (typed_next (takes_plain (o.I32Const _) (I.outs-I32Const _) refl) (typed_next (takes_plain o.I32Add I.outs-I32Add refl) (typed_next (takes_local_tee h) (typed_one (takes_br_if refl))))) in
      typed_one (takes_loop tt (typed_then (typed_anywhere ([] ∷ labels) x) again))
