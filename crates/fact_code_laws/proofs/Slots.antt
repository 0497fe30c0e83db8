-- The slots of the context around a call: with concurrency on they are saved, 0 during the call, and set back behind it.
use Rattle.std.proofs.Common.{◌≡◌, ◌≢◌, ℕ, suc, ◌+◌, Bool, true, false, List, [], ◌∷◌, ◌++◌, Some, refl, sym, ap, ◌∙◌, subst, arith, reverse, slice_get}
use Rattle.std.specs.Prelude.{nat_eq, if◌then◌else◌}
use Rattle.std.proofs.lemmas.Bool.{eq-eqb}
use Rattle.fact_wasm.specs.declared.types.ValType.{ValType}
use Rattle.fact_wasm.specs.declared.types.ValType.TheVariants as val
use Rattle.fact_wasm.specs.declared.instr.FuncName.TheVariants as func
use Rattle.fact_wasm.specs.declared.instr.Instr.{Instr}
use Rattle.fact_wasm.specs.declared.instr.Instr.TheVariants as I
use Rattle.fact_wasm.specs.declared.instr.Instr.TheOpen as o
use Rattle.fact_wasm.specs.declared.module.WasmModule.{WasmModule}
use Rattle.fact_machine.specs.declared.types.CoreValue.{CoreValue}
use Rattle.fact_machine.specs.declared.types.CoreValue.TheVariants.{I32}
use Rattle.fact_machine.specs.Machine.{have_types}
use Rattle.fact_machine.proofs.RowLaws.{leaves_i32_const}
use Rattle.fact_types.specs.declared.import.Import.{Import}
use Rattle.fact_actions.specs.Actions.{Action, Give, Ask, ◌>>=◌}
use Rattle.fact_actions.specs.Running.{ImportPlaces}
use Rattle.fact_actions.specs.Sides.{get_slots, set_slots}
use Rattle.fact_code_laws.specs.Does.{Locals, Way, Onward, held_types, Does, PushesValue}
pub use Rattle.fact_code_laws.specs.Context.{ContextSlots, save_code, restore_code, HasContextSlots, HasSlotsIf}
use Rattle.fact_code_laws.specs.Knows.{KnowsFunction}
use Rattle.fact_code_laws.specs.Places.{KeepsLocals}
use Rattle.fact_code_laws.specs.Typed.{OnStack, IsTyped}
use Rattle.fact_code_laws.proofs.Rules.{within, in_turn, pushing, local_get, local_set, done}
use Rattle.fact_code_laws.proofs.Primitives.{ask}
use Rattle.fact_code_laws.proofs.Numbers.{set_keeps, value_type}
use Rattle.fact_code_laws.proofs.Keeping.{keeps_all, keeps_then}
use Rattle.fact_code_laws.proofs.TypingLaws.{typed_done, typed_then, typed_next, typed_one}
use Rattle.fact_code_laws.proofs.TypedRows.{takes_plain, takes_local_get, takes_local_set, takes_import}
use Rattle.fact_machine.specs.Typed.{is_value, are_values}
use Rattle.fact_machine.proofs.Tests.{first_of, second_of}

-- ---- code and action

-- an action with the slots saved around it
abbrev pub in_slots : Bool → Action (List CoreValue) → Action (List CoreValue)
in_slots concurrency q = get_slots concurrency (λ a b. set_slots concurrency (I32 0 ∷ []) (I32 0 ∷ []) (q >>= (λ rs. set_slots concurrency a b (Give rs))))

-- all locals but the two temporaries
abbrev pub others : ContextSlots → ℕ → Bool
others s i = if nat_eq i s.saved0 then false else (if nat_eq i s.saved1 then false else true)

-- ---- what it does

one_i32 : (rs : List CoreValue) → are_values rs (val.I32 ∷ []) ≡ true → (x : ℕ) × (rs ≡ I32 x ∷ [])
one_i32 (I32 x ∷ []) h = (x, refl)
one_i32 [] h = cc
one_i32 (v ∷ u ∷ rs) h = let no : false ≡ true = second_of (is_value v val.I32) false h in cc
one_i32 (v ∷ []) h = let no = value_type v val.I32 (first_of (is_value v val.I32) true h) in cc

pub no_values : (rs : List CoreValue) → are_values rs [] ≡ true → rs ≡ []
no_values [] h = refl
no_values (v ∷ rs) h = cc

module _ {A : Type 0} {M : WasmModule} {p : ImportPlaces} {way : Way} {extra spare : ℕ} {ins : List CoreValue} {ls : Locals} {c : List Instr} {out : A → List CoreValue} {Holds : A → Locals → Type 0} {i : Import} {place : ℕ} {params : List ValType} (args : List CoreValue) {k : List CoreValue → Action A} where
  -- a call that gives an i32
  pub ask_i32 : KnowsFunction M p i place params (val.I32 ∷ []) → have_types args params ≡ true → ((x : ℕ) → Does M p way extra spare (I32 x ∷ ins) ls c (k (I32 x ∷ [])) out Holds)
      → Does M p way (suc extra) spare (reverse args ++ ins) ls (I.Call (func.Import place) ∷ c) (Ask i args (val.I32 ∷ []) k) out Holds
  ask_i32 h t go = ask args h t (λ rs v. let x = one_i32 rs v in subst (λ us. Does M p way extra spare (reverse us ++ ins) ls c (k us) out Holds) (sym x.1) (go x.0))

  -- a call that gives nothing
  pub ask_none : KnowsFunction M p i place params [] → have_types args params ≡ true → Does M p way extra spare ins ls c (k []) out Holds
      → Does M p way (suc extra) spare (reverse args ++ ins) ls (I.Call (func.Import place) ∷ c) (Ask i args [] k) out Holds
  ask_none h t go = ask args h t (λ rs v. subst (λ us. Does M p way extra spare (reverse us ++ ins) ls c (k us) out Holds) (sym (no_values rs v)) go)

saved_free0 : (s : ContextSlots) → others s s.saved0 ≡ false
saved_free0 s = ap (λ b. if b then false else (if nat_eq s.saved0 s.saved1 then false else true)) (eq-eqb s.saved0 s.saved0 refl)

saved_free1 : (s : ContextSlots) → others s s.saved1 ≡ false
saved_free1 s = either (nat_eq s.saved1 s.saved0)
  where
    either : (b : Bool) → (if b then false else (if nat_eq s.saved1 s.saved1 then false else true)) ≡ false
    either true = refl
    either false = ap (λ b. if b then false else true) (eq-eqb s.saved1 s.saved1 refl)

pushes_zero : {M : WasmModule} {ls : Locals} → PushesValue M 1 ls (I.I32Const 0 ∷ []) (I32 0)
pushes_zero = record { by = λ w vs. leaves_i32_const }

-- Code of an action with the slots saved around it. It changes the two temporaries alone.
pub slots_do : {M : WasmModule} {p : ImportPlaces} {ls : Locals} {extra spare : ℕ} {code : List Instr} {q : Action (List CoreValue)} {ts : List ValType} (concurrency : Bool) (s : ContextSlots) → HasSlotsIf concurrency M p s → s.saved0 ≢ s.saved1
    → slice_get (held_types ls) s.saved0 ≡ Some val.I32 → slice_get (held_types ls) s.saved1 ≡ Some val.I32
    → ((ls' : Locals) → KeepsLocals (others s) ls ls' → Does M p Onward extra spare [] ls' code q reverse (λ rs l. (are_values rs ts ≡ true) × (l ≡ ls')))
    → Does M p Onward (12 + extra) spare [] ls (save_code concurrency s ++ (code ++ restore_code concurrency s)) (in_slots concurrency q) reverse (λ rs l. (are_values rs ts ≡ true) × KeepsLocals (others s) ls l)
slots_do {M} {p} {ls} {extra} {spare} {code} {q} {ts} false s h apart t0 t1 inner =
    within (omega arith) (in_turn (inner ls keeps_all) (λ rs l r. done refl (r.0, subst (λ l. KeepsLocals (others s) ls l) (sym r.1) keeps_all)))
slots_do {M} {p} {ls} {extra} {spare} {code} {q} {ts} true s h apart t0 t1 inner =
    within (omega arith) (ask_i32 [] h.reads.gets0 refl (λ x. local_set val.I32 t0 refl (λ ls1 set0.
    ask_i32 [] h.reads.gets1 refl (λ y. local_set val.I32 (ap (λ l. slice_get l s.saved1) set0.types ∙ t1) refl (λ ls2 set1.
    pushing pushes_zero (ask_none (I32 0 ∷ []) h.writes.sets0 refl (pushing pushes_zero (ask_none (I32 0 ∷ []) h.writes.sets1 refl (
    let k = keeps_then (set_keeps (saved_free0 s) set0) (set_keeps (saved_free1 s) set1) in
    in_turn (inner ls2 k) (λ rs l r.
    let there0 : slice_get l s.saved0 ≡ Some (Some (I32 x)) = ap (λ l. slice_get l s.saved0) r.1 ∙ set1.others s.saved0 apart ∙ set0.here in
    let there1 : slice_get l s.saved1 ≡ Some (Some (I32 y)) = ap (λ l. slice_get l s.saved1) r.1 ∙ set1.here in
    local_get there0 (ask_none (I32 x ∷ []) h.writes.sets0 refl (local_get there1 (ask_none (I32 y ∷ []) h.writes.sets1 refl
    (done refl (r.0, subst (λ l. KeepsLocals (others s) ls l) (sym r.1) k)))))))))))))))

-- ---- its types

pub typed_save : {M : WasmModule} {locals : List ValType} {labels : List (List ValType)} (p : ImportPlaces) (concurrency : Bool) (s : ContextSlots) → HasSlotsIf concurrency M p s → slice_get locals s.saved0 ≡ Some val.I32 → slice_get locals s.saved1 ≡ Some val.I32
    → {ins : List ValType} → IsTyped M locals labels (save_code concurrency s) ins (OnStack ins)
typed_save p false s h t0 t1 = typed_done
typed_save p true s h t0 t1 {ins} =
    typed_next (takes_import ins h.reads.gets0) (typed_next (takes_local_set t0) (typed_next (takes_import ins h.reads.gets1) (typed_next (takes_local_set t1)
    (typed_next (takes_plain (o.I32Const 0) (I.outs-I32Const 0) refl) (typed_next (takes_import ins h.writes.sets0) (typed_next (takes_plain (o.I32Const 0) (I.outs-I32Const 0) refl) (typed_one (takes_import ins h.writes.sets1))))))))

pub typed_restore : {M : WasmModule} {locals : List ValType} {labels : List (List ValType)} (p : ImportPlaces) (concurrency : Bool) (s : ContextSlots) → HasSlotsIf concurrency M p s → slice_get locals s.saved0 ≡ Some val.I32 → slice_get locals s.saved1 ≡ Some val.I32
    → {ins : List ValType} → IsTyped M locals labels (restore_code concurrency s) ins (OnStack ins)
typed_restore p false s h t0 t1 = typed_done
typed_restore p true s h t0 t1 {ins} =
    typed_next (takes_local_get t0) (typed_next (takes_import ins h.writes.sets0) (typed_next (takes_local_get t1) (typed_one (takes_import ins h.writes.sets1))))

-- code with the slots saved around it is typed where it is
pub typed_slots : {M : WasmModule} {locals : List ValType} {labels : List (List ValType)} {ins outs : List ValType} {code : List Instr} (p : ImportPlaces) (concurrency : Bool) (s : ContextSlots) → HasSlotsIf concurrency M p s → slice_get locals s.saved0 ≡ Some val.I32
    → slice_get locals s.saved1 ≡ Some val.I32 → IsTyped M locals labels code ins (OnStack outs) → IsTyped M locals labels (save_code concurrency s ++ (code ++ restore_code concurrency s)) ins (OnStack outs)
typed_slots p concurrency s h t0 t1 x = typed_then (typed_save p concurrency s h t0 t1) (typed_then x (typed_restore p concurrency s h t0 t1))
