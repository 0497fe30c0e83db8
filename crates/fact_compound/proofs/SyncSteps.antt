-- A whole sync adapter from its steps.
use Rattle.std.proofs.Common.{◌≡◌, ℕ, suc, ◌+◌, ◌^◌, ◌<◌, ◌≤◌, Bool, true, false, ◌||◌, ◌&&◌, List, [], ◌∷◌, ◌++◌, Option, Some, None, refl, sym, ap, ◌∙◌, subst, arith, append_assoc, append-nil, length, reverse, slice_get}
use Rattle.std.specs.Prelude.{nat_eq, not, is_some}
use Rattle.std.proofs.lemmas.Bool.{eqb-false}
use Rattle.fact_wasm.specs.declared.types.ValType.{ValType}
use Rattle.fact_wasm.specs.declared.types.ValType.TheVariants as val
use Rattle.fact_wasm.specs.declared.instr.FuncName.TheVariants as func
use Rattle.fact_wasm.specs.declared.instr.Instr.{Instr}
use Rattle.fact_wasm.specs.declared.instr.Instr.TheVariants as I
use Rattle.fact_wasm.specs.declared.module.WasmModule.{WasmModule}
use Rattle.fact_types.specs.Adapters.{LinkedAdapter}
use Rattle.fact_types.specs.declared.import.Import.TheVariants as import
use Rattle.fact_types.specs.declared.outside.CoreDef.{CoreDef}
use Rattle.fact_types.specs.declared.outside.Trap.TheVariants.{CannotLeaveComponent}
use Rattle.fact_machine.specs.Numerics.{truth}
use Rattle.fact_machine.specs.World.{World}
use Rattle.fact_machine.specs.declared.types.CoreValue.{CoreValue}
use Rattle.fact_machine.specs.declared.types.CoreValue.TheVariants.{I32}
use Rattle.fact_machine.specs.Machine.{have_types}
use Rattle.fact_machine.specs.Typed.{is_value, are_values}
use Rattle.fact_machine.proofs.Tests.{first_of, second_of, both}
use Rattle.fact_actions.specs.Actions.{Action, Give, SetFlags, ◌>>=◌, unless}
use Rattle.fact_actions.proofs.Binds.{binds_associate}
use Rattle.fact_actions.specs.Adapters.{AdapterTunables, Slotted, cleared, enters, enter_call, exit_call, finish_call, get_flags, make_call, none, read_slots, write_slots, when_due, sync, move_params, move_results, last_bits, lift_signature_of}
use Rattle.fact_actions.specs.Plain.{ended_sync, guarded_if}
use Rattle.fact_actions.specs.Running.{ImportPlaces, Ended, Gave, Halted, Strayed, run}
use Rattle.fact_code_laws.specs.Context.{ContextSlots, read_slots_code, restore_code, CanReadSlotsIf, CanWriteSlotsIf}
use Rattle.fact_code_laws.specs.Does.{Locals, Onward, held_types, EndsOn, EndsSo, Does}
use Rattle.fact_code_laws.specs.Knows.{KnowsFunction, KnowsFlags}
use Rattle.fact_code_laws.specs.Places.{Slot, AreHeld, KeepsLocals, AreLocals, AreUsed, IsNone}
use Rattle.fact_code_laws.proofs.Blocks.{alone, same_run}
use Rattle.fact_code_laws.proofs.ContextSteps.{AreSlotsHeldIf, MayHoldSlotsIf, AreSlotsKeptIf, slots_kept, reads_slots, writes_slots}
use Rattle.fact_code_laws.proofs.Functions.{bars_then}
use Rattle.fact_code_laws.proofs.Keeping.{held_kept}
use Rattle.fact_code_laws.proofs.Numbers.{value_type}
use Rattle.fact_code_laws.proofs.Primitives as primitive
use Rattle.fact_code_laws.proofs.Primitives.{set_flags, ask}
use Rattle.fact_machine.proofs.RowLaws.{leaves_i32_const}
use Rattle.fact_code_laws.proofs.Rules.{within, ends_within, in_turn, local_get, local_set, pushing, done}
use Rattle.fact_code_laws.proofs.Slots.{ask_none}
use Rattle.fact_emit.specs.Places.{AreDistinctSlots}
use Rattle.fact_steps.specs.Code.{call_code, enter_code, exit_code, finish_code, may_leave_code, popped_code, pushed_code, started_code}
use Rattle.fact_compound.specs.Code.{SyncParts, call_steps_code, return_steps_code, with_barrier, cleared_code, steps_code, sync_code}
pub use Rattle.fact_compound.specs.Code.{slot_types}
use Rattle.fact_compound.specs.Written.{KnowsUncaught}
use Rattle.fact_compound.proofs.FlagGuards.{guards_flags}
use Rattle.fact_compound.proofs.StepRules.{pushes, MayBeSet, held_others, pops, clears, unless_binds}

-- ---- locals by their slots

-- whether a local is that of a slot
abbrev pub among : List Slot → ℕ → Bool
among [] i = false
among (s ∷ ss) i = nat_eq i s.0 || among ss i

pub held_have_types : (ls : Locals) (ss : List Slot) (vs : List CoreValue) → AreHeld ls ss vs → have_types vs (slot_types ss) ≡ true
held_have_types ls [] [] h = refl
held_have_types ls [] (v ∷ vs) h = absurd h
held_have_types ls (s ∷ ss) [] h = absurd h
held_have_types ls (s ∷ ss) (v ∷ vs) h = both (value_type v s.1 h.0.value) (held_have_types ls ss vs h.1)

-- no slot is one of those whose locals are kept
abbrev pub AreUnused : (ℕ → Bool) → List Slot → Type 0
AreUnused used [] = Unit {0}
AreUnused used (s ∷ ss) = (used s.0 ≡ false) × AreUnused used ss

pub may_be_set : (used : ℕ → Bool) (locals : List ValType) (ss : List Slot) (vs : List CoreValue) → AreLocals locals ss → AreUnused used ss → AreDistinctSlots ss → are_values vs (slot_types ss) ≡ true → MayBeSet used locals ss vs
may_be_set used locals [] [] l u d h = tt
may_be_set used locals [] (v ∷ vs) l u d h = cc
may_be_set used locals (s ∷ ss) [] l u d h = cc
may_be_set used locals (s ∷ ss) (v ∷ vs) l u d h =
    (l.0, first_of (is_value v s.1) (are_values vs (slot_types ss)) h, u.0, d.0, may_be_set used locals ss vs l.1 u.1 d.1 (second_of (is_value v s.1) (are_values vs (slot_types ss)) h))

-- what is kept is kept with more
abbrev KeptWithin : (less more : ℕ → Bool) → Type 0
KeptWithin less more = (i : ℕ) → less i ≡ true → more i ≡ true

used_more : {less more : ℕ → Bool} → KeptWithin less more → (ss : List Slot) → AreUsed less ss → AreUsed more ss
used_more h [] u = tt
used_more h (s ∷ ss) u = (h s.0 u.0, used_more h ss u.1)

slots_more : {less more : ℕ → Bool} (b : Bool) (s : ContextSlots) → KeptWithin less more → AreSlotsKeptIf b less s → AreSlotsKeptIf b more s
slots_more false s h u = tt
slots_more true s h u = record { kept0 = h s.saved0 u.kept0; kept1 = h s.saved1 u.kept1 }

-- ---- the steps

-- The locals of a sync adapter. Those of the arguments and of the two flags are kept from the first step on, then those of what the
-- callee gave, of the context that it left, and of the results; each step writes others.
pub record SyncLocals (s : SyncParts) (args : List Slot) (kept with_given with_slots with_results : ℕ → Bool) (locals : List ValType) : Type 0 where
  pub args_used : AreUsed kept args
  pub saved_used : kept s.saved ≡ true
  pub lift_saved_used : kept s.lift_saved ≡ true
  pub saved_apart : IsNone s.saved args
  pub lift_saved_apart : IsNone s.lift_saved args
  pub flags_apart : nat_eq s.lift_saved s.saved ≡ false
  pub saved_typed : slice_get locals s.saved ≡ Some val.I32
  pub lift_saved_typed : slice_get locals s.lift_saved ≡ Some val.I32
  pub given_typed : AreLocals locals s.given
  pub given_unused : AreUnused kept s.given
  pub given_distinct : AreDistinctSlots s.given
  pub more_given : (i : ℕ) → kept i ≡ true → with_given i ≡ true
  pub given_used : AreUsed with_given s.given
  pub callee_slots : MayHoldSlotsIf s.context with_given locals s.callee_slots
  pub more_slots : (i : ℕ) → with_given i ≡ true → with_slots i ≡ true
  pub slots_used : AreSlotsKeptIf s.context with_slots s.callee_slots
  pub more_results : (i : ℕ) → with_slots i ≡ true → with_results i ≡ true
  pub results_used : AreUsed with_results s.results
  pub own_slots : MayHoldSlotsIf s.context with_results locals s.own_slots

-- the functions that the runtime is told by
abbrev pub TellsIf : Bool → WasmModule → ImportPlaces → (enter exit : ℕ) → Type 0
TellsIf false M p enter exit = Unit {0}
TellsIf true M p enter exit = KnowsFunction M p import.EnterSyncCall enter (val.I32 ∷ val.I32 ∷ []) [] × KnowsFunction M p import.ExitSyncCall exit [] []

-- the post-return, where there is one, takes what the callee gives
abbrev pub IsPostReturn : WasmModule → ImportPlaces → List ValType → Option CoreDef → (place : Option ℕ) → Type 0
IsPostReturn M p given None None = Unit {0}
IsPostReturn M p given (Some f) (Some n) = KnowsFunction M p (import.CoreDef f) n given []
IsPostReturn M p given _ _ = ⊥

-- what it calls, by its place
pub record SyncImports (M : WasmModule) (p : ImportPlaces) (u : AdapterTunables) (a : LinkedAdapter) (s : SyncParts) : Type 0 where
  pub lower_flags : KnowsFlags M p a.lower.instance s.lower_flags
  pub lift_flags : KnowsFlags M p a.lift.instance s.lift_flags
  pub may_leave : KnowsFunction M p (import.Trap CannotLeaveComponent) s.may_leave [] []
  pub callee : KnowsFunction M p (import.CoreDef a.callee) s.callee (slot_types s.core) (lift_signature_of a).results
  pub given : slot_types s.given ≡ (lift_signature_of a).results
  pub unmarked : a.lift.async_type ≡ false
  pub instance_is : s.instance ≡ a.lift.instance
  pub told_is : s.told ≡ enters u a
  pub tells : TellsIf s.told M p s.enter s.exit
  pub context_is : s.context ≡ (u.concurrency && is_some a.lift.post_return)
  pub post_return : IsPostReturn M p (lift_signature_of a).results a.lift.post_return s.post_return
  pub reads : CanReadSlotsIf s.context M p s.callee_slots
  pub writes : CanWriteSlotsIf s.context M p s.callee_slots
  pub reads_own : CanReadSlotsIf s.context M p s.own_slots
  pub writes_own : CanWriteSlotsIf s.context M p s.own_slots
  pub barrier : KnowsUncaught u.exceptions M p s.uncaught

-- a wider bound of an end
pub ends_so_within : {A : Type 0} {M : WasmModule} {p : ImportPlaces} {extra extra' spare spare' : ℕ} {w : World} {ins : List CoreValue} {ls : Locals} {c : List Instr} {out : A → List CoreValue} {Holds : A → Locals → Type 0} {e : Ended A}
    → extra + spare' ≤ extra' + spare → EndsSo M p Onward extra spare w ins ls c out Holds e → EndsSo M p Onward extra' spare' w ins ls c out Holds e
ends_so_within {e = e} le d = record { by = λ ty below. ends_within e le (d.by ty below) }

-- less is said of it
pub ends_so_holds : {A : Type 0} {M : WasmModule} {p : ImportPlaces} {extra spare : ℕ} {w : World} {ins : List CoreValue} {ls : Locals} {c : List Instr} {out : A → List CoreValue} {Holds Holds' : A → Locals → Type 0} {e : Ended A}
    → ((a : A) (ls' : Locals) → Holds a ls' → Holds' a ls') → EndsSo M p Onward extra spare w ins ls c out Holds e → EndsSo M p Onward extra spare w ins ls c out Holds' e
ends_so_holds {A} {M} {p} {extra} {spare} {w} {ins} {ls} {c} {out} {Holds} {Holds'} {e} h d = record { by = λ ty below. less e (d.by ty below) }
  where
    less : {below : List CoreValue} (e : Ended A) → EndsOn M p Onward extra spare w (ins ++ below) ls c below out Holds e → EndsOn M p Onward extra spare w (ins ++ below) ls c below out Holds' e
    less (Gave n cs a w') d = record { by = record { steps = d.by.steps; locals = d.by.locals; under = d.by.under; holds = h a d.by.locals d.by.holds; typed = d.by.typed; bound = d.by.bound; leaves = d.by.leaves } }
    less (Halted m cs s w') d = record { by = d.by }
    less (Strayed m cs w') d = record { by = d.by }

-- the steps up to the call, and those behind it
pub steps_assoc : (s : SyncParts) (params results : List Instr) → call_steps_code s params ++ return_steps_code s results ≡ steps_code s params results
steps_assoc s params results =
    let may_leave : List Instr = may_leave_code s.lower_flags s.saved s.may_leave in
    let enter : List Instr = enter_code s.told s.instance s.enter in
    let started : List Instr = started_code s.lift_flags s.lift_saved in
    let call : List Instr = call_code s.core s.lift_flags s.lift_saved s.callee s.given in
    let return : List Instr = return_steps_code s results in
    append_assoc may_leave (enter ++ (started ++ (params ++ call))) return
    ∙ ap (λ c. may_leave ++ c) (append_assoc enter (started ++ (params ++ call)) return ∙ ap (λ c. enter ++ c) (append_assoc started (params ++ call) return ∙ ap (λ c. started ++ c) (append_assoc params call return)))

and_true : (b : Bool) → (b && true) ≡ b
and_true true = refl
and_true false = refl

module _ {M : WasmModule} {p : ImportPlaces} {locals : List ValType} {slots : List Slot} {kept with_given with_slots with_results : ℕ → Bool} {pc rc : List Instr} {px rx : ℕ} (u : AdapterTunables) (a : LinkedAdapter) (s : SyncParts) (args : List CoreValue)
    (has : SyncImports M p u a s) (l : SyncLocals s slots kept with_given with_slots with_results locals)
    (params : (ls : Locals) → held_types ls ≡ locals → AreHeld ls slots args → Does M p Onward px 0 [] ls pc (move_params u a args) (λ vs. []) (λ vs ls'. AreHeld ls' s.core vs × KeepsLocals kept ls ls'))
    (results : (ls : Locals) (rs : List CoreValue) → held_types ls ≡ locals → AreHeld ls slots args → AreHeld ls s.given rs
    → Does M p Onward rx 0 [] ls rc (move_results u a rs (last_bits args)) (λ vs. []) (λ vs ls'. AreHeld ls' s.results vs × KeepsLocals with_slots ls ls')) where
  abbrev Ends : List CoreValue → Locals → Type 0
  Ends vs ls = AreHeld ls s.results vs

  abbrev given_types : List ValType
  given_types = (lift_signature_of a).results

  within_slots : KeptWithin kept with_slots
  within_slots i h = l.more_slots i (l.more_given i h)

  -- what is left of the action behind each step
  abbrev from_results : (n : ℕ) (rs : List CoreValue) → Slotted → Action (List CoreValue)
  from_results n rs x = cleared a.lower.instance n (move_results u a rs (last_bits args)) >>= (λ vs. finish_call u.concurrency a.lift.post_return rs x >>= (λ r. Give vs))

  abbrev from_slots : (n : ℕ) (rs : List CoreValue) → Action (List CoreValue)
  from_slots n rs = read_slots (u.concurrency && is_some a.lift.post_return) >>= (λ x. exit_call u a >>= (λ r. from_results n rs x))

  abbrev from_call : (n : ℕ) (core : List CoreValue) → Action (List CoreValue)
  from_call n core = make_call (import.CoreDef a.callee) core given_types >>= (λ rs. from_slots n rs)

  abbrev from_params : (n : ℕ) → Action (List CoreValue)
  from_params n = get_flags a.lift.instance >>= (λ m. cleared a.lift.instance m (move_params u a args) >>= (λ core. from_call n core))

  -- and of the code
  abbrev results_on : List Instr
  results_on = cleared_code s.lower_flags s.saved rc ++ finish_code s.context s.post_return s.callee_slots s.own_slots s.given

  abbrev slots_on : List Instr
  slots_on = read_slots_code s.context s.callee_slots ++ (exit_code s.told s.exit ++ results_on)

  abbrev call_on : List Instr
  call_on = call_code s.core s.lift_flags s.lift_saved s.callee s.given ++ slots_on

  -- ---- the post-return

  -- it is called with what the callee gave, in the context that the callee left
  post_returns : (f : CoreDef) (n : ℕ) → KnowsFunction M p (import.CoreDef f) n given_types [] → (ls : Locals) (rs vs : List CoreValue) (x : Slotted) → held_types ls ≡ locals → AreHeld ls s.given rs → AreSlotsHeldIf s.context ls s.callee_slots x → AreHeld ls s.results vs
      → Does M p Onward (13 + length s.given) 0 [] ls (finish_code s.context (Some n) s.callee_slots s.own_slots s.given) (finish_call s.context (Some f) rs x >>= (λ r. Give vs)) (λ vs. []) Ends
  post_returns f n h ls rs vs x e g held there =
      let call : List Instr = pushed_code s.given ++ I.Call (func.Import n) ∷ restore_code s.context s.own_slots in
      let own_back : Slotted → Action (List CoreValue) = λ own. write_slots s.context own >>= (λ r. Give vs) in
      let own_then : Slotted → Action (List CoreValue) = λ own. write_slots s.context x >>= (λ r. make_call (import.CoreDef f) rs [] >>= (λ r. own_back own)) in
      let may = subst (λ ts. MayHoldSlotsIf s.context with_results ts s.own_slots) (sym e) l.own_slots in
      let does : Does M p Onward (4 + (9 + length s.given)) 0 [] ls (read_slots_code s.context s.own_slots ++ (restore_code s.context s.callee_slots ++ call)) (read_slots s.context >>= own_then) (λ vs. []) Ends =
      reads_slots s.context s.own_slots with_results has.reads_own may (λ own ls1 held1 k.
      let g1 : AreHeld ls1 s.given rs = held_kept k s.given rs (used_more (λ i t. l.more_results i (l.more_slots i t)) s.given l.given_used) g in
      let back : Does M p Onward (4 + 0) 0 [] ls1 (restore_code s.context s.own_slots ++ []) (own_back own) (λ vs. []) Ends =
      writes_slots s.context s.own_slots own has.writes_own held1 (done refl (held_kept k s.results vs l.results_used there)) in
      let called : Does M p Onward 5 0 (reverse rs ++ []) ls1 (I.Call (func.Import n) ∷ restore_code s.context s.own_slots) (make_call (import.CoreDef f) rs [] >>= (λ r. own_back own)) (λ vs. []) Ends =
      ask_none rs h (ap (have_types rs) (sym has.given) ∙ held_have_types ls1 s.given rs g1) (subst (λ c. Does M p Onward 4 0 [] ls1 c (own_back own) (λ vs. []) Ends) (append-nil (restore_code s.context s.own_slots)) back) in
      within (omega arith) (writes_slots s.context s.callee_slots x has.writes (slots_kept s.context s.callee_slots x (slots_more s.context s.callee_slots l.more_results l.slots_used) k held) (pushes s.given rs [] g1 called))) in
      within (omega arith) (subst (λ q. Does M p Onward (4 + (9 + length s.given)) 0 [] ls (finish_code s.context (Some n) s.callee_slots s.own_slots s.given) q (λ vs. []) Ends) (same s.context) does)
    where
      same : (b : Bool) → (read_slots b >>= (λ own. write_slots b x >>= (λ r. make_call (import.CoreDef f) rs [] >>= (λ r. write_slots b own >>= (λ r. Give vs))))) ≡ (finish_call b (Some f) rs x >>= (λ r. Give vs))
      same true = refl
      same false = refl

  finishes : (ls : Locals) (rs vs : List CoreValue) (x : Slotted) → held_types ls ≡ locals → AreHeld ls s.given rs → AreSlotsHeldIf s.context ls s.callee_slots x → AreHeld ls s.results vs
      → Does M p Onward (13 + length s.given) 0 [] ls (finish_code s.context s.post_return s.callee_slots s.own_slots s.given) (finish_call u.concurrency a.lift.post_return rs x >>= (λ r. Give vs)) (λ vs. []) Ends
  finishes ls rs vs x e g held there = by_post a.lift.post_return s.post_return has.context_is has.post_return
    where
      by_post : (o : Option CoreDef) (n : Option ℕ) → s.context ≡ (u.concurrency && is_some o) → IsPostReturn M p given_types o n
          → Does M p Onward (13 + length s.given) 0 [] ls (finish_code s.context n s.callee_slots s.own_slots s.given) (finish_call u.concurrency o rs x >>= (λ r. Give vs)) (λ vs. []) Ends
      by_post None None on h = within (omega arith) (done refl there)
      by_post (Some f) (Some n) on h =
          subst (λ b. Does M p Onward (13 + length s.given) 0 [] ls (finish_code s.context (Some n) s.callee_slots s.own_slots s.given) (finish_call b (Some f) rs x >>= (λ r. Give vs)) (λ vs. []) Ends) (on ∙ and_true u.concurrency)
          (post_returns f n h ls rs vs x e g held there)
      by_post None (Some n) on h = absurd h
      by_post (Some f) None on h = absurd h

  -- ---- the results

  results_then : (ls : Locals) (rs : List CoreValue) (x : Slotted) (n : ℕ) → n < 2 ^ 32 → held_types ls ≡ locals → AreHeld ls slots args → AreHeld ls s.given rs → AreSlotsHeldIf s.context ls s.callee_slots x → slice_get ls s.saved ≡ Some (Some (I32 n))
      → Does M p Onward (17 + rx + length s.given) 0 [] ls results_on (from_results n rs x) (λ vs. []) Ends
  results_then ls rs x n lt e h g held there =
      within (omega arith) (in_turn (clears has.lower_flags lt (results ls rs e h g) (λ vs ls' r. r.1.same s.saved (within_slots s.saved l.saved_used) ∙ there)) (λ vs ls' r.
      finishes ls' rs vs x (r.1.types ∙ e) (held_kept r.1 s.given rs (used_more l.more_slots s.given l.given_used) g) (slots_kept s.context s.callee_slots x l.slots_used r.1 held) r.0))

  -- the runtime is told that the callee returned
  exits : {ls : Locals} {c : List Instr} {q : Action (List CoreValue)} {extra : ℕ} → Does M p Onward extra 0 [] ls c q (λ vs. []) Ends → Does M p Onward (1 + extra) 0 [] ls (exit_code s.told s.exit ++ c) (exit_call u a >>= (λ r. q)) (λ vs. []) Ends
  exits {ls} {c} {q} {extra} d =
      subst (λ b. Does M p Onward (1 + extra) 0 [] ls (exit_code s.told s.exit ++ c) (when_due b (make_call import.ExitSyncCall [] []) >>= (λ r. q)) (λ vs. []) Ends) has.told_is (by_flag s.told has.tells)
    where
      by_flag : (b : Bool) → TellsIf b M p s.enter s.exit → Does M p Onward (1 + extra) 0 [] ls (exit_code b s.exit ++ c) (when_due b (make_call import.ExitSyncCall [] []) >>= (λ r. q)) (λ vs. []) Ends
      by_flag false h = within (omega arith) d
      by_flag true h = within (omega arith) (ask_none [] h.1 refl d)

  -- the context that the callee left is read
  slots_then : (ls : Locals) (rs : List CoreValue) (n : ℕ) → n < 2 ^ 32 → held_types ls ≡ locals → AreHeld ls slots args → AreHeld ls s.given rs → slice_get ls s.saved ≡ Some (Some (I32 n))
      → Does M p Onward (22 + rx + length s.given) 0 [] ls slots_on (from_slots n rs) (λ vs. []) Ends
  slots_then ls rs n lt e h g there =
      let may = subst (λ ts. MayHoldSlotsIf s.context with_given ts s.callee_slots) (sym e) l.callee_slots in
      let does : Does M p Onward (4 + (18 + rx + length s.given)) 0 [] ls slots_on (read_slots s.context >>= (λ x. exit_call u a >>= (λ r. from_results n rs x))) (λ vs. []) Ends =
      reads_slots s.context s.callee_slots with_given has.reads may (λ x ls1 held k.
      within (omega arith) (exits (results_then ls1 rs x n lt (k.types ∙ e) (held_kept k slots args (used_more l.more_given slots l.args_used) h) (held_kept k s.given rs l.given_used g) held (k.same s.saved (l.more_given s.saved l.saved_used) ∙ there)))) in
      within (omega arith) (subst (λ b. Does M p Onward (4 + (18 + rx + length s.given)) 0 [] ls slots_on (read_slots b >>= (λ x. exit_call u a >>= (λ r. from_results n rs x))) (λ vs. []) Ends) has.context_is does)

  -- ---- the call

  -- the lift side's flags are what they were, and the callee is called with what was moved
  call_then : (ls : Locals) (vs : List CoreValue) (n m : ℕ) → n < 2 ^ 32 → m < 2 ^ 32 → held_types ls ≡ locals → AreHeld ls slots args → AreHeld ls s.core vs → slice_get ls s.saved ≡ Some (Some (I32 n)) → slice_get ls s.lift_saved ≡ Some (Some (I32 m))
      → Does M p Onward (25 + rx + (length s.core + length s.given + length s.given)) 0 [] ls call_on (SetFlags a.lift.instance m (from_call n vs)) (λ vs. []) Ends
  call_then ls vs n m lt small e h g there lift_there =
      let call : List Instr = I.LocalGet s.lift_saved ∷ I.GlobalSet s.lift_flags ∷ I.Call (func.Import s.callee) ∷ popped_code s.given in
      let q : Action (List CoreValue) = SetFlags a.lift.instance m (from_call n vs) in
      let answered : (rs : List CoreValue) → are_values rs given_types ≡ true → Does M p Onward (length s.given + (22 + rx + length s.given)) 0 (reverse rs ++ []) ls (popped_code s.given ++ slots_on) (from_slots n rs) (λ vs. []) Ends = λ rs h'.
      let may = may_be_set kept locals s.given rs l.given_typed l.given_unused l.given_distinct (ap (are_values rs) has.given ∙ h') in
      pops kept s.given rs [] e may (λ ls' g' k. slots_then ls' rs n lt (k.types ∙ e) (held_kept k slots args l.args_used h) g' (k.same s.saved l.saved_used ∙ there)) in
      let called : Does M p Onward (suc (length s.given + (22 + rx + length s.given))) 0 (reverse vs ++ []) ls (I.Call (func.Import s.callee) ∷ (popped_code s.given ++ slots_on)) (from_call n vs) (λ vs. []) Ends =
      ask vs has.callee (held_have_types ls s.core vs g) answered in
      let restored : Does M p Onward (3 + (length s.given + (22 + rx + length s.given))) 0 (reverse vs ++ []) ls (call ++ slots_on) q (λ vs. []) Ends = within (omega arith) (local_get lift_there (set_flags has.lift_flags small called)) in
      within (omega arith) (subst (λ c. Does M p Onward (length s.core + (3 + (length s.given + (22 + rx + length s.given)))) 0 [] ls c q (λ vs. []) Ends) (sym (append_assoc (pushed_code s.core) call slots_on)) (pushes s.core vs [] g restored))

  -- ---- the parameters

  params_then : (ls : Locals) (n : ℕ) → n < 2 ^ 32 → held_types ls ≡ locals → AreHeld ls slots args → slice_get ls s.saved ≡ Some (Some (I32 n))
      → Does M p Onward (29 + px + rx + (length s.core + length s.given + length s.given)) 0 [] ls (started_code s.lift_flags s.lift_saved ++ (pc ++ call_on)) (from_params n) (λ vs. []) Ends
  params_then ls n lt e h there =
      let next : List CoreValue → Action (List CoreValue) = λ core. from_call n core in
      let code : List Instr = pc ++ call_on in
      within (omega arith) (primitive.get_flags has.lift_flags (λ m small. local_set val.I32 (ap (λ t. slice_get t s.lift_saved) e ∙ l.lift_saved_typed) refl (λ ls1 set.
      let h1 : AreHeld ls1 slots args = held_others set slots args l.lift_saved_apart h in
      let there1 : slice_get ls1 s.saved ≡ Some (Some (I32 n)) = set.others s.saved (λ same. eqb-false s.lift_saved s.saved l.flags_apart (sym same)) ∙ there in
      let moved : Does M p Onward (px + (25 + rx + (length s.core + length s.given + length s.given))) 0 [] ls1 code (move_params u a args >>= (λ core. SetFlags a.lift.instance m (next core))) (λ vs. []) Ends =
      within (omega arith) (in_turn (params ls1 (set.types ∙ e) h1) (λ vs ls2 r.
      call_then ls2 vs n m lt small (r.1.types ∙ set.types ∙ e) (held_kept r.1 slots args l.args_used h1) r.0 (r.1.same s.saved l.saved_used ∙ there1) (r.1.same s.lift_saved l.lift_saved_used ∙ set.here))) in
      let whole : move_params u a args >>= (λ core. SetFlags a.lift.instance m (next core)) ≡ (move_params u a args >>= (λ vs. SetFlags a.lift.instance m (Give vs))) >>= next = sym (binds_associate (move_params u a args) (λ vs. SetFlags a.lift.instance m (Give vs)) next) in
      pushing (record { by = λ w vs. leaves_i32_const }) (set_flags has.lift_flags (omega arith)
      (subst (λ q. Does M p Onward (px + (25 + rx + (length s.core + length s.given + length s.given))) 0 [] ls1 code q (λ vs. []) Ends) whole moved)))))

  -- the runtime is told of the call
  enter_is : {ls : Locals} {c : List Instr} {q : Action (List CoreValue)} {extra : ℕ} → Does M p Onward extra 0 [] ls c q (λ vs. []) Ends → Does M p Onward (3 + extra) 0 [] ls (enter_code s.told s.instance s.enter ++ c) (enter_call u a >>= (λ r. q)) (λ vs. []) Ends
  enter_is {ls} {c} {q} {extra} d =
      subst (λ b. Does M p Onward (3 + extra) 0 [] ls (enter_code s.told s.instance s.enter ++ c) (when_due b (make_call import.EnterSyncCall (I32 (truth a.lift.async_type) ∷ I32 a.lift.instance ∷ []) []) >>= (λ r. q)) (λ vs. []) Ends) has.told_is
      (subst (λ i. Does M p Onward (3 + extra) 0 [] ls (enter_code s.told s.instance s.enter ++ c) (when_due s.told (make_call import.EnterSyncCall (I32 (truth a.lift.async_type) ∷ I32 i ∷ []) []) >>= (λ r. q)) (λ vs. []) Ends) has.instance_is
      (subst (λ t. Does M p Onward (3 + extra) 0 [] ls (enter_code s.told s.instance s.enter ++ c) (when_due s.told (make_call import.EnterSyncCall (I32 (truth t) ∷ I32 s.instance ∷ []) []) >>= (λ r. q)) (λ vs. []) Ends) (sym has.unmarked) (by_flag s.told has.tells)))
    where
      by_flag : (b : Bool) → TellsIf b M p s.enter s.exit → Does M p Onward (3 + extra) 0 [] ls (enter_code b s.instance s.enter ++ c) (when_due b (make_call import.EnterSyncCall (I32 0 ∷ I32 s.instance ∷ []) []) >>= (λ r. q)) (λ vs. []) Ends
      by_flag false h = within (omega arith) d
      by_flag true h = within (omega arith) (pushing {a = I.I32Const 0 ∷ []} {t = 1} (record { by = λ w vs. leaves_i32_const }) (pushing {a = I.I32Const s.instance ∷ []} {t = 1} (record { by = λ w vs. leaves_i32_const }) (ask_none (I32 0 ∷ I32 s.instance ∷ []) h.0 refl d)))

  -- ---- the whole

  -- The steps, which leave the results in their locals.
  pub steps_do : (ls : Locals) → held_types ls ≡ locals → AreHeld ls slots args
      → Does M p Onward (36 + px + rx + (length s.core + length s.given + length s.given)) 0 [] ls (steps_code s pc rc) (sync u a args) (λ vs. []) Ends
  steps_do ls e h =
      let entered : ℕ → Action (List CoreValue) = λ n. enter_call u a >>= (λ r. from_params n) in
      let guarded : Does M p Onward (36 + px + rx + (length s.core + length s.given + length s.given)) 0 [] ls (steps_code s pc rc) (get_flags a.lower.instance >>= (λ n. unless CannotLeaveComponent (not (nat_eq n 0)) (entered n))) (λ vs. []) Ends =
      within (omega arith) (guards_flags has.lower_flags has.may_leave (ap (λ t. slice_get t s.saved) e ∙ l.saved_typed)
      (λ n lt ls1 set. enter_is (params_then ls1 n lt (set.types ∙ e) (held_others set slots args l.saved_apart h) set.here))) in
      subst (λ (f : ℕ → Action (List CoreValue)). Does M p Onward (36 + px + rx + (length s.core + length s.given + length s.given)) 0 [] ls (steps_code s pc rc) (get_flags a.lower.instance >>= f) (λ vs. []) Ends)
      (λ i n. sym (unless_binds CannotLeaveComponent (not (nat_eq n 0)) none (λ r. entered n)) i) guarded

  -- The whole adapter, in its barrier. Its results are in their locals too.
  pub syncs : (ls : Locals) → held_types ls ≡ locals → AreHeld ls slots args → (w : World)
      → EndsSo M p Onward (40 + px + rx + (length s.core + length s.given + length s.given + length s.results)) 0 w [] ls (sync_code s pc rc) reverse Ends (ended_sync p u a args w)
  syncs ls e h w = by_flag u.exceptions s.uncaught has.barrier
    where
      pushed : (vs : List CoreValue) (ls' : Locals) → Ends vs ls' → Does M p Onward (length s.results + 0) 0 [] ls' (pushed_code s.results) (Give vs) reverse Ends
      pushed vs ls' there = subst (λ c. Does M p Onward (length s.results + 0) 0 [] ls' c (Give vs) reverse Ends) (append-nil (pushed_code s.results)) (pushes s.results vs [] there (done (sym (append-nil (reverse vs))) there))

      by_flag : (b : Bool) (n : Option ℕ) → KnowsUncaught b M p n → EndsSo M p Onward (40 + px + rx + (length s.core + length s.given + length s.given + length s.results)) 0 w [] ls (with_barrier n (steps_code s pc rc) ++ pushed_code s.results) reverse Ends (guarded_if b p (run p (sync u a args) w))
      by_flag false None barrier = (within {q = sync u a args} (omega arith) (same_run (alone p (sync u a args)) (in_turn (steps_do ls e h) pushed))).by w
      by_flag true (Some n) barrier = ends_so_within (omega arith) (bars_then barrier (steps_do ls e h) pushed w)
      by_flag false (Some n) barrier = absurd barrier
      by_flag true None barrier = absurd barrier
