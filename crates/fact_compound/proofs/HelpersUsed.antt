-- All helpers of a module can be used: what is asked for anew can, and helpers that are written in turn ask for others that can.
use Rattle.std.proofs.Common.{◌≡◌, ℕ, suc, ◌+◌, ◌<◌, ◌≤◌, ◌⊎◌, Bool, List, [], ◌∷◌, ◌++◌, Some, refl, sym, ap, ◌∙◌, subst, arith, inl, inr, length, map, slice_get}
use Rattle.std.specs.List.{AllByRecursion, Contains}
use Rattle.std.proofs.lemmas.List.Elements.{Contains-append_cases, Contains-push_cases}
use Rattle.fact_wasm.specs.declared.module.WasmModule.{WasmModule}
use Rattle.fact_wasm.specs.declared.module.WasmFunc.{WasmFunc}
use Rattle.fact_types.specs.Tables.{Tables}
use Rattle.fact_actions.specs.Running.{ImportPlaces}
use Rattle.fact_emit.specs.Asked.{AskedHelper, entry_of}
use Rattle.fact_emit.specs.States.{ModuleSoFar, next_number}
use Rattle.fact_emit.specs.declared.helpers.Helper.{Helper}
use Rattle.fact_compound.specs.Asks.{AsksFor, IsAskedHere, helpers_from}
use Rattle.fact_compound.specs.Helpers.{AreWrittenInTurn, NoneWaits, OneIsNext}
use Rattle.fact_compound.proofs.HelperUses.{HasUse, HaveUses, helper_uses}
use Rattle.fact_compound.proofs.WaitingHelpers.{get_in}

-- each helper can be used, and its function's number is below the next one
abbrev pub AreUsed : Tables → WasmModule → ImportPlaces → ModuleSoFar → Type 0
AreUsed t M p s = (e : Helper × ℕ) → Contains s.helpers e → HasUse t M p e.0 × (e.1 < next_number s)

-- ---- helpers whose functions have the numbers from one on

pub record IsAmong (n : ℕ) (ks : List Helper) (e : Helper × ℕ) : Type 0 where
  pub place : ℕ
  pub below : place < length ks
  pub number : e.1 ≡ n + place
  pub key : slice_get ks place ≡ Some e.0

none_there : (e : Helper × ℕ) → Contains [] e → ⊥
none_there e c = omega (arith, c.1)

pub only : (x e : Helper × ℕ) → Contains (x ∷ []) e → x ≡ e
only x e c = elim (Contains-push_cases [] x e c) [
  | inl none ↦ absurd (none_there e none)
  | inr is ↦ is
]

pub among : (n : ℕ) (ks : List Helper) (e : Helper × ℕ) → Contains (helpers_from n ks) e → IsAmong n ks e
among n [] e c = absurd (none_there e c)
among n (k ∷ ks) e c = elim (Contains-append_cases ((k, n) ∷ []) (helpers_from (suc n) ks) e c) [
  | inl first ↦
      let is : (k, n) ≡ e = only (k, n) e first in
      let number : n ≡ e.1 = ap (λ (x : Helper × ℕ). x.1) is in
      record { place = 0; below = omega arith; number = omega (arith, number); key = ap (λ (x : Helper × ℕ). Some x.0) is }
  | inr later ↦
      let x = among (suc n) ks e later in
      record { place = suc x.place; below = omega (arith, x.below); number = omega (arith, x.number); key = x.key }
]

-- ---- what is asked for

record IsAskedAs (t : Tables) (M : WasmModule) (p : ImportPlaces) (s : ModuleSoFar) (n : ℕ) : Type 0 where
  key : Helper
  used : HasUse t M p key
  there : Contains s.helpers (key, n)

only_number : (n k : ℕ) → Contains (n ∷ []) k → n ≡ k
only_number n k c = elim (Contains-push_cases [] n k c) [
  | inl none ↦ absurd (omega (arith, none.1))
  | inr is ↦ is
]

asked_as : (t : Tables) (debug concurrency : Bool) (M : WasmModule) (p : ImportPlaces) (s : ModuleSoFar) (asks : List AskedHelper) (n : ℕ) → AllByRecursion (IsAskedHere t debug concurrency s) asks → HaveUses t M p asks → Contains (map (λ (a : AskedHelper). a.number) asks) n → IsAskedAs t M p s n
asked_as t debug concurrency M p s [] n asked uses c = absurd (omega (arith, c.1))
asked_as t debug concurrency M p s (a ∷ asks) n asked uses c = elim (Contains-append_cases (a.number ∷ []) (map (λ (x : AskedHelper). x.number) asks) n c) [
  | inl first ↦ let is : a.number ≡ n = only_number a.number n first in record { key = a.key; used = uses.0; there = subst (λ k. Contains s.helpers (a.key, k)) is asked.0.there }
  | inr later ↦ asked_as t debug concurrency M p s asks n asked.1 uses.1 later
]

-- What is new is asked for.
pub uses_more : {t : Tables} {debug concurrency : Bool} {M : WasmModule} {p : ImportPlaces} {old new : ModuleSoFar} (asks : List AskedHelper) → AsksFor t debug concurrency asks old new → HaveUses t M p asks → AreUsed t M p old → AreUsed t M p new
uses_more {t} {debug} {concurrency} {M} {p} {old} {new} asks x uses all e c =
    let more : List Helper = x.new_asked.more in
    elim (Contains-append_cases old.helpers (helpers_from (next_number old) more) e (subst (λ es. Contains es e) x.new_asked.helpers c)) [
      | inl before ↦ let was = all e before in (was.0, omega (arith, was.1, x.new_asked.next))
      | inr anew ↦
          let is = among (next_number old) more e anew in
          let top : e.1 < next_number new = omega (arith, is.number, is.below, x.new_asked.next) in
          let a = asked_as t debug concurrency M p new asks e.1 x.asked uses (x.new_asked.asked e.1 (omega (arith, is.number)) top) in
          (same is a.used (Contains-append_cases old.helpers (helpers_from (next_number old) more) (a.key, e.1) (subst (λ es. Contains es (a.key, e.1)) x.new_asked.helpers a.there)), top)
    ]
  where
    same : {k : Helper} → IsAmong (next_number old) x.new_asked.more e → HasUse t M p k → Contains old.helpers (k, e.1) ⊎ Contains (helpers_from (next_number old) x.new_asked.more) (k, e.1) → HasUse t M p e.0
    same {k} is h (inl before) = absurd (let lt = (all (k, e.1) before).1 in omega (arith, lt, is.number))
    same {k} is h (inr anew) =
        let other = among (next_number old) x.new_asked.more (k, e.1) anew in
        let place : other.place ≡ is.place = omega (arith, is.number, other.number) in
        let keys : Some k ≡ Some e.0 = sym other.key ∙ ap (slice_get x.new_asked.more) place ∙ is.key in
        let key : k ≡ e.0 = cc in
        subst (HasUse t M p) key h

-- Helpers that are written in turn.
pub uses_in_turn : {t : Tables} {debug concurrency : Bool} {fuel : ℕ} {end s : ModuleSoFar} {waiting : List ℕ} {order : List (ℕ × WasmFunc)} {M : WasmModule} {p : ImportPlaces} → AreWrittenInTurn t debug concurrency fuel end s waiting order → AreUsed t M p s → AreUsed t M p end
uses_in_turn NoneWaits used = used
uses_in_turn (OneIsNext s s' waiting place e f order at w rest) used =
    let one = (used e (get_in s.helpers place e at)).0 in
    uses_in_turn rest (uses_more w.asks w.asked (helper_uses w one.0 one.1) used)
