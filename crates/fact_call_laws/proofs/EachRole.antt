-- Each imported function has a role: that of the place which the call names, or of what the module imports there.
use Rattle.std.proofs.Common.{◌≡◌, ℕ, zero, suc, Bool, true, false, cond, filter, List, [], ◌∷◌, Option, Some, None, refl, sym, ap, ◌∙◌, subst, slice_get}
use Rattle.fact_wasm.specs.declared.module.ImportType.{ImportType}
use Rattle.fact_wasm.specs.declared.module.ImportType.TheVariants as import
use Rattle.fact_wasm.specs.declared.module.WasmImport.{WasmImport}
use Rattle.fact_types.specs.declared.import.Import.{Import}
use Rattle.fact_types.specs.declared.import.Import.TheVariants as known
use Rattle.fact_types.specs.declared.outside.UnsafeIntrinsic.TheVariants as slot
use Rattle.fact_machine.specs.Machine.{func_import}
use Rattle.fact_host.specs.declared.roles.Role.{Role}
use Rattle.fact_host.specs.declared.roles.Role.TheVariants as role
use Rattle.fact_host.specs.Roles.{IsNamedRole, IsRoleBy, function_imports, is_function, role_by_place}
use Rattle.fact_emit.specs.ImportSection.{a_function, imports_of, mentions}
use Rattle.fact_call_laws.proofs.Bridge.{stands_so}
use Rattle.fact_call_laws.proofs.Naming.{Says, SaysOf, is_transcoder, names_say}
use Rattle.fact_call_laws.proofs.Setting.{Called, Named, Setting}
use Rattle.fact_call_laws.proofs.Standing.{Stands, apart}

-- an imported function that has a type stands among the imported functions
pub function_there : (ws : List WasmImport) (n t : ℕ) → func_import ws n ≡ Some t → (w : WasmImport) × (slice_get (filter is_function ws) n ≡ Some w)
function_there [] n t h = absurd cc
function_there (w ∷ ws) n t h = by w.ty n h (λ k e. function_there ws k t e)
  where
    by : (ty : ImportType) (n : ℕ)
        → elim ty as (λ (x : ImportType). Option ℕ) [ import.Func u ↦ elim n [ zero ↦ Some u | suc k ↦ func_import ws k ] | import.Memory a b c ↦ func_import ws n | import.Global a b ↦ func_import ws n ] ≡ Some t
        → ((k : ℕ) → func_import ws k ≡ Some t → (v : WasmImport) × (slice_get (filter is_function ws) k ≡ Some v))
        → (v : WasmImport) × (slice_get (cond (elim ty as (λ (x : ImportType). Bool) [ import.Func u ↦ true | import.Memory a b c ↦ false | import.Global a b ↦ false ]) (w ∷ filter is_function ws) (filter is_function ws)) n ≡ Some v)
    by (import.Func u) zero h more = (w, refl)
    by (import.Func u) (suc k) h more = more k h
    by (import.Memory a b c) k h more = more k h
    by (import.Global a b) k h more = more k h

module _ (x : Setting) (h : Called x) (n : ℕ) (w : WasmImport) (there : slice_get (function_imports x.code) n ≡ Some w) where
  at_number : Stands x.code.types (mentions x.adapters) x.code.imports x.imports (imports_of a_function x.code.imports x.imports) n w
  at_number = stands_so x.code x.imports x.adapters h.promised.names h.callable.adapter x.types x.call x.adapter x.function h.calls n w there

  -- what says nothing of itself is refused
  refused : Says w false false false → IsNamedRole x.code w role.Refused
  refused s = (s.transfer_is, s.slot_is, s.told_is, λ o from from64 to to64 t. s.no_transcoder t.origin)

  by_import : (i : Import) → at_number.what ≡ i → SaysOf w i → (r : Role) × IsNamedRole x.code w r
  by_import (known.CoreDef d) e s = (role.Refused, refused s)
  by_import (known.Transcode o d d64 g g64) e s =
      let found = is_transcoder x.code x.imports x.adapters h.promised.names (apart x.imports h.promised.names.once) h.callable.adapter at_number.place w o d g d64 g64 at_number.entry_there (at_number.what_there ∙ ap Some e) in
      (role.Transcoder o found.0 d64 found.1 g64, found.2)
  by_import known.ResourceTransferOwn e s = (role.Transfer, s.transfer_is)
  by_import known.ResourceTransferBorrow e s = (role.Transfer, s.transfer_is)
  by_import known.FutureTransfer e s = (role.Transfer, s.transfer_is)
  by_import known.StreamTransfer e s = (role.Transfer, s.transfer_is)
  by_import known.ErrorContextTransfer e s = (role.Transfer, s.transfer_is)
  by_import (known.PrepareCall memory) e s = (role.Refused, refused s)
  by_import (known.StartCall callback post_return) e s = (role.Refused, refused s)
  by_import (known.Trap t) e s = (role.Refused, refused s)
  by_import known.EnterSyncCall e s = (role.Told, s.told_is)
  by_import known.ExitSyncCall e s = (role.Told, s.told_is)
  by_import (known.UnsafeIntrinsic slot.ContextGetI32_0) e s = (role.Slot, s.slot_is)
  by_import (known.UnsafeIntrinsic slot.ContextGetI32_1) e s = (role.Slot, s.slot_is)
  by_import (known.UnsafeIntrinsic slot.ContextSetI32_0) e s = (role.Told, s.told_is)
  by_import (known.UnsafeIntrinsic slot.ContextSetI32_1) e s = (role.Told, s.told_is)

  by_names : (r : Role) × IsNamedRole x.code w r
  by_names = by_import at_number.what refl (names_say x.code x.imports x.adapters h.promised.names at_number.what at_number.place at_number.before w at_number.entry_there at_number.what_there at_number.named)

  pub has_role : (r : Role) × Named x n r
  has_role = by (role_by_place x.call n) refl
    where
      by : (o : Option Role) → role_by_place x.call n ≡ o → (r : Role) × Named x n r
      by (Some r) q =
          let own : r ≡ r = refl in
          (r, (w, there, subst (IsRoleBy x.code w r) (sym q) own))
      by None q = (by_names.0, (w, there, subst (IsRoleBy x.code w by_names.0) (sym q) by_names.1))
