-- The slots of a task's context are read into locals, and written out of them, in front of other code.
use Rattle.std.proofs.Common.{◌≡◌, ℕ, ◌+◌, Bool, true, false, List, [], ◌∷◌, ◌++◌, Some, refl, sym, ap, ◌∙◌, subst, arith, slice_get}
use Rattle.std.specs.Prelude.{nat_eq}
use Rattle.std.proofs.lemmas.Bool.{eqb-false}
use Rattle.fact_wasm.specs.declared.types.ValType.{ValType}
use Rattle.fact_wasm.specs.declared.types.ValType.TheVariants as val
use Rattle.fact_wasm.specs.declared.instr.Instr.{Instr}
use Rattle.fact_wasm.specs.declared.module.WasmModule.{WasmModule}
use Rattle.fact_machine.specs.declared.types.CoreValue.{CoreValue}
use Rattle.fact_machine.specs.declared.types.CoreValue.TheVariants.{I32}
use Rattle.fact_actions.specs.Actions.{Action, ◌>>=◌}
use Rattle.fact_actions.specs.Adapters.{Slotted, read_slots, write_slots}
use Rattle.fact_actions.specs.Running.{ImportPlaces}
use Rattle.fact_code_laws.specs.Context.{ContextSlots, read_slots_code, restore_code, CanReadSlotsIf, CanWriteSlotsIf}
use Rattle.fact_code_laws.specs.Does.{Locals, Way, held_types, Does}
use Rattle.fact_code_laws.specs.Places.{KeepsLocals}
use Rattle.fact_code_laws.specs.Typed.{OnStack, IsTyped}
use Rattle.fact_code_laws.proofs.Keeping.{keeps_all, keeps_then}
use Rattle.fact_code_laws.proofs.Numbers.{set_keeps}
use Rattle.fact_code_laws.proofs.Rules.{within, local_get, local_set}
use Rattle.fact_code_laws.proofs.Slots.{ask_i32, ask_none}
use Rattle.fact_code_laws.proofs.TypingLaws.{typed_done, typed_next, typed_one}
use Rattle.fact_code_laws.proofs.TypedRows.{takes_local_get, takes_local_set, takes_import}

-- ---- what the slots held, in locals

pub record AreSlotsHeld (ls : Locals) (s : ContextSlots) (x : Slotted) : Type 0 where
  pub first : ℕ
  pub second : ℕ
  pub is : x ≡ record { first = I32 first ∷ []; second = I32 second ∷ [] }
  pub there0 : slice_get ls s.saved0 ≡ Some (Some (I32 first))
  pub there1 : slice_get ls s.saved1 ≡ Some (Some (I32 second))

abbrev pub AreSlotsHeldIf : Bool → Locals → ContextSlots → Slotted → Type 0
AreSlotsHeldIf false ls s x = Unit {0}
AreSlotsHeldIf true ls s x = AreSlotsHeld ls s x

-- two locals that may be set to them: distinct ones of type i32, neither of which is kept
pub record MayHoldSlots (used : ℕ → Bool) (locals : List ValType) (s : ContextSlots) : Type 0 where
  pub typed0 : slice_get locals s.saved0 ≡ Some val.I32
  pub typed1 : slice_get locals s.saved1 ≡ Some val.I32
  pub free0 : used s.saved0 ≡ false
  pub free1 : used s.saved1 ≡ false
  pub apart : nat_eq s.saved0 s.saved1 ≡ false

abbrev pub MayHoldSlotsIf : Bool → (ℕ → Bool) → List ValType → ContextSlots → Type 0
MayHoldSlotsIf false used locals s = Unit {0}
MayHoldSlotsIf true used locals s = MayHoldSlots used locals s

-- both are kept
pub record AreSlotsKept (used : ℕ → Bool) (s : ContextSlots) : Type 0 where
  pub kept0 : used s.saved0 ≡ true
  pub kept1 : used s.saved1 ≡ true

abbrev pub AreSlotsKeptIf : Bool → (ℕ → Bool) → ContextSlots → Type 0
AreSlotsKeptIf false used s = Unit {0}
AreSlotsKeptIf true used s = AreSlotsKept used s

pub slots_kept : (b : Bool) (s : ContextSlots) (x : Slotted) {used : ℕ → Bool} {ls ls' : Locals} → AreSlotsKeptIf b used s → KeepsLocals used ls ls' → AreSlotsHeldIf b ls s x → AreSlotsHeldIf b ls' s x
slots_kept false s x u k h = tt
slots_kept true s x u k h = record { first = h.first; second = h.second; is = h.is; there0 = k.same s.saved0 u.kept0 ∙ h.there0; there1 = k.same s.saved1 u.kept1 ∙ h.there1 }

-- ---- what the code does

module _ {A : Type 0} {M : WasmModule} {p : ImportPlaces} {way : Way} {extra spare : ℕ} {ins : List CoreValue} {ls : Locals} {c : List Instr} {out : A → List CoreValue} {Holds : A → Locals → Type 0} (b : Bool) (s : ContextSlots) where
  pub reads_slots : {k : Slotted → Action A} (used : ℕ → Bool) → CanReadSlotsIf b M p s → MayHoldSlotsIf b used (held_types ls) s
      → ((x : Slotted) (ls' : Locals) → AreSlotsHeldIf b ls' s x → KeepsLocals used ls ls' → Does M p way extra spare ins ls' c (k x) out Holds)
      → Does M p way (4 + extra) spare ins ls (read_slots_code b s ++ c) (read_slots b >>= k) out Holds
  reads_slots {k} used h may go = by_flag b h may go
    where
      by_flag : (b : Bool) → CanReadSlotsIf b M p s → MayHoldSlotsIf b used (held_types ls) s
          → ((x : Slotted) (ls' : Locals) → AreSlotsHeldIf b ls' s x → KeepsLocals used ls ls' → Does M p way extra spare ins ls' c (k x) out Holds)
          → Does M p way (4 + extra) spare ins ls (read_slots_code b s ++ c) (read_slots b >>= k) out Holds
      by_flag false h may go = within (omega arith) (go (record { first = []; second = [] }) ls tt keeps_all)
      by_flag true h may go =
          within (omega arith) (ask_i32 [] h.gets0 refl (λ x. local_set val.I32 may.typed0 refl (λ ls1 set0.
          ask_i32 [] h.gets1 refl (λ y. local_set val.I32 (ap (λ l. slice_get l s.saved1) set0.types ∙ may.typed1) refl (λ ls2 set1.
          go (record { first = I32 x ∷ []; second = I32 y ∷ [] }) ls2
          (record { first = x; second = y; is = refl; there0 = set1.others s.saved0 (eqb-false s.saved0 s.saved1 may.apart) ∙ set0.here; there1 = set1.here })
          (keeps_then (set_keeps may.free0 set0) (set_keeps may.free1 set1)))))))

  pub writes_slots : {q : Action A} (x : Slotted) → CanWriteSlotsIf b M p s → AreSlotsHeldIf b ls s x → Does M p way extra spare ins ls c q out Holds
      → Does M p way (4 + extra) spare ins ls (restore_code b s ++ c) (write_slots b x >>= (λ r. q)) out Holds
  writes_slots {q} x h held d = by_flag b h held
    where
      by_flag : (b : Bool) → CanWriteSlotsIf b M p s → AreSlotsHeldIf b ls s x → Does M p way (4 + extra) spare ins ls (restore_code b s ++ c) (write_slots b x >>= (λ r. q)) out Holds
      by_flag false h held = within (omega arith) d
      by_flag true h held =
          subst (λ y. Does M p way (4 + extra) spare ins ls (restore_code true s ++ c) (write_slots true y >>= (λ r. q)) out Holds) (sym held.is)
          (within (omega arith) (local_get held.there0 (ask_none (I32 held.first ∷ []) h.sets0 refl (local_get held.there1 (ask_none (I32 held.second ∷ []) h.sets1 refl d)))))

-- ---- its types

module _ {M : WasmModule} {locals : List ValType} {labels : List (List ValType)} {ins : List ValType} (p : ImportPlaces) (b : Bool) (s : ContextSlots) where
  pub typed_reads : (used : ℕ → Bool) → CanReadSlotsIf b M p s → MayHoldSlotsIf b used locals s → IsTyped M locals labels (read_slots_code b s) ins (OnStack ins)
  typed_reads used h may = by_flag b h may
    where
      by_flag : (b : Bool) → CanReadSlotsIf b M p s → MayHoldSlotsIf b used locals s → IsTyped M locals labels (read_slots_code b s) ins (OnStack ins)
      by_flag false h may = typed_done
      by_flag true h may = typed_next (takes_import ins h.gets0) (typed_next (takes_local_set may.typed0) (typed_next (takes_import ins h.gets1) (typed_one (takes_local_set may.typed1))))

  pub typed_writes : (used : ℕ → Bool) → CanWriteSlotsIf b M p s → MayHoldSlotsIf b used locals s → IsTyped M locals labels (restore_code b s) ins (OnStack ins)
  typed_writes used h may = by_flag b h may
    where
      by_flag : (b : Bool) → CanWriteSlotsIf b M p s → MayHoldSlotsIf b used locals s → IsTyped M locals labels (restore_code b s) ins (OnStack ins)
      by_flag false h may = typed_done
      by_flag true h may = typed_next (takes_local_get may.typed0) (typed_next (takes_import ins h.sets0) (typed_next (takes_local_get may.typed1) (typed_one (takes_import ins h.sets1))))
