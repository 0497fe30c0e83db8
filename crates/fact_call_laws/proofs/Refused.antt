-- No call of a run is of what a host refuses, but for traps.
use Rattle.std.proofs.Common.{◌≡◌, ℕ, ◌⊎◌, inl, inr, Bool, true, false, Option, Some, None, refl, sym, ap, ◌∙◌, slice_get}
use Rattle.std.specs.Prelude.{nat_eq, option_map, if◌then◌else◌}
use Rattle.std.proofs.lemmas.Bool.{eq-eqb, true≢false}
use Rattle.fact_wasm.specs.declared.module.WasmImport.{WasmImport}
use Rattle.fact_types.specs.declared.outside.CoreDef.{CoreDef}
use Rattle.fact_types.specs.declared.outside.Trap.{Trap}
use Rattle.fact_types.specs.declared.outside.UnsafeIntrinsic.TheVariants as slot
use Rattle.fact_types.specs.declared.import.Import.{Import}
use Rattle.fact_types.specs.declared.import.Import.TheVariants as import
use Rattle.fact_types.proofs.ShapeLaws.{none_some}
use Rattle.fact_host.specs.declared.calling.HostCall.{HostCall}
use Rattle.fact_host.specs.declared.roles.Role.TheVariants as role
use Rattle.fact_host.specs.Roles.{IsNamedRole, function_imports, is_place, role_by_place}
use Rattle.fact_emit.specs.ImportSection.{a_function, imports_of, mentions}
use Rattle.fact_call_laws.proofs.Bridge.{is_what, stands_so}
use Rattle.fact_call_laws.proofs.Naming.{SaysOf, is_transcoder, names_say}
use Rattle.fact_call_laws.proofs.Segments.{core_stands, no_prepare, no_start}
use Rattle.fact_call_laws.proofs.Setting.{Called, Setting, names, places}
use Rattle.fact_call_laws.proofs.Standing.{Stands, apart, placed}
use Rattle.fact_call_laws.proofs.Trapped.{AtTrap, before, it_stands, last_call}

-- ---- what a call names has a role by its place

is_there : (o : Option ℕ) (n : ℕ) → o ≡ Some n → is_place o n ≡ true
is_there None n e = absurd (none_some None n refl e)
is_there (Some k) n e = let same : k ≡ n = cc in eq-eqb k n same

by_place : (x y z u : Bool) → (if x then Some role.Callee else (if y then Some role.LiftRealloc else (if z then Some role.LowerRealloc else (if u then Some role.PostReturn else None)))) ≡ None → (x ≡ false) × (y ≡ false) × (z ≡ false) × (u ≡ false)
by_place true y z u h = absurd cc
by_place false true z u h = absurd cc
by_place false false true u h = absurd cc
by_place false false false true h = absurd cc
by_place false false false false h = (refl, refl, refl, refl)

no_place : (c : HostCall) (n : ℕ) → role_by_place c n ≡ None → (c.callee ≡ n) ⊎ ((c.lift.realloc ≡ Some n) ⊎ ((c.lower.realloc ≡ Some n) ⊎ (c.post_return ≡ Some n))) → ⊥
no_place c n none e = by (by_place (nat_eq c.callee n) (is_place c.lift.realloc n) (is_place c.lower.realloc n) (is_place c.post_return n) none) e
  where
    by : (nat_eq c.callee n ≡ false) × (is_place c.lift.realloc n ≡ false) × (is_place c.lower.realloc n ≡ false) × (is_place c.post_return n ≡ false)
        → (c.callee ≡ n) ⊎ ((c.lift.realloc ≡ Some n) ⊎ ((c.lower.realloc ≡ Some n) ⊎ (c.post_return ≡ Some n))) → ⊥
    by q (inl e) = true≢false (sym (eq-eqb c.callee n e) ∙ q.0)
    by q (inr (inl e)) = true≢false (sym (is_there c.lift.realloc n e) ∙ q.1)
    by q (inr (inr (inl e))) = true≢false (sym (is_there c.lower.realloc n e) ∙ q.2)
    by q (inr (inr (inr e))) = true≢false (sym (is_there c.post_return n e) ∙ q.3)

module _ (x : Setting) (h : Called x) (t : AtTrap x h) (w : WasmImport) (there : slice_get (function_imports x.code) t.event.func ≡ Some w) (none : role_by_place x.call t.event.func ≡ None) (refused : IsNamedRole x.code w role.Refused)
    (no_trap : (r : Trap) → names x t.event.func ≡ import.Trap r → ⊥) where
  at_number : Stands x.code.types (mentions x.adapters) x.code.imports x.imports (imports_of a_function x.code.imports x.imports) t.event.func w
  at_number = stands_so x.code x.imports x.adapters h.promised.names h.callable.adapter x.types x.call x.adapter x.function h.calls t.event.func w there

  is_it : names x t.event.func ≡ at_number.what
  unfolding at_number
  is_it = is_what x.code x.imports x.adapters h.promised.names h.callable.adapter x.types x.call x.adapter x.function h.calls t.event.func w there

  -- a core definition is that of a place that the call names
  core : (d : CoreDef) → at_number.what ≡ import.CoreDef d → ⊥
  core d e = no_place x.call t.event.func none (by (core_stands (places x) x.tunables x.adapter h.outcome.args h.outcome.first d (before x h t) (last_call x h t) (is_it ∙ e) (it_stands x h t)))
    where
      at : (places x).function (import.CoreDef d) ≡ t.event.func
      at = placed a_function x.code.imports x.imports (apart x.imports h.promised.names.once) t.event.func (import.CoreDef d) refl (at_number.there ∙ ap Some e)

      named : (o : Option CoreDef) (k : Option ℕ) → option_map (λ z. (places x).function (import.CoreDef z)) o ≡ k → o ≡ Some d → k ≡ Some t.event.func
      named o k f g = sym f ∙ ap (option_map (λ z. (places x).function (import.CoreDef z))) g ∙ ap Some at

      by : (x.adapter.callee ≡ d) ⊎ ((x.adapter.lift.realloc ≡ Some d) ⊎ ((x.adapter.lower.realloc ≡ Some d) ⊎ (x.adapter.lift.post_return ≡ Some d)))
          → (x.call.callee ≡ t.event.func) ⊎ ((x.call.lift.realloc ≡ Some t.event.func) ⊎ ((x.call.lower.realloc ≡ Some t.event.func) ⊎ (x.call.post_return ≡ Some t.event.func)))
      by (inl g) = inl (sym h.calls.callee ∙ ap (λ z. (places x).function (import.CoreDef z)) g ∙ at)
      by (inr (inl g)) = inr (inl (named x.adapter.lift.realloc x.call.lift.realloc h.calls.lift.realloc g))
      by (inr (inr (inl g))) = inr (inr (inl (named x.adapter.lower.realloc x.call.lower.realloc h.calls.lower.realloc g)))
      by (inr (inr (inr g))) = inr (inr (inr (named x.adapter.lift.post_return x.call.post_return h.calls.post_return g)))

  pub never : ⊥
  never = by at_number.what refl (names_say x.code x.imports x.adapters h.promised.names at_number.what at_number.place at_number.before w at_number.entry_there at_number.what_there at_number.named)
    where
      by : (i : Import) → at_number.what ≡ i → SaysOf w i → ⊥
      by (import.CoreDef d) e s = core d e
      by (import.Transcode o d d64 g g64) e s =
          let found = is_transcoder x.code x.imports x.adapters h.promised.names (apart x.imports h.promised.names.once) h.callable.adapter at_number.place w o d g d64 g64 at_number.entry_there (at_number.what_there ∙ ap Some e) in
          refused.3 o found.0 d64 found.1 g64 found.2
      by import.ResourceTransferOwn e s = true≢false (sym s.transfer_is ∙ refused.0)
      by import.ResourceTransferBorrow e s = true≢false (sym s.transfer_is ∙ refused.0)
      by import.FutureTransfer e s = true≢false (sym s.transfer_is ∙ refused.0)
      by import.StreamTransfer e s = true≢false (sym s.transfer_is ∙ refused.0)
      by import.ErrorContextTransfer e s = true≢false (sym s.transfer_is ∙ refused.0)
      by (import.PrepareCall memory) e s = no_prepare (places x) x.tunables x.adapter h.outcome.args h.outcome.first memory (before x h t) (last_call x h t) (is_it ∙ e) (it_stands x h t)
      by (import.StartCall callback post_return) e s = no_start (places x) x.tunables x.adapter h.outcome.args h.outcome.first callback post_return (before x h t) (last_call x h t) (is_it ∙ e) (it_stands x h t)
      by (import.Trap r) e s = no_trap r (is_it ∙ e)
      by import.EnterSyncCall e s = true≢false (sym s.told_is ∙ refused.2)
      by import.ExitSyncCall e s = true≢false (sym s.told_is ∙ refused.2)
      by (import.UnsafeIntrinsic slot.ContextGetI32_0) e s = true≢false (sym s.slot_is ∙ refused.1)
      by (import.UnsafeIntrinsic slot.ContextGetI32_1) e s = true≢false (sym s.slot_is ∙ refused.1)
      by (import.UnsafeIntrinsic slot.ContextSetI32_0) e s = true≢false (sym s.told_is ∙ refused.2)
      by (import.UnsafeIntrinsic slot.ContextSetI32_1) e s = true≢false (sym s.told_is ∙ refused.2)
