-- An adapter's description fits a call of it: what a host takes the imported functions for is what the module imports them as.
use Rattle.std.proofs.Common.{◌≡◌, ℕ, Bool, true, false, List, [], ◌∷◌, Option, Some, None, refl, sym, ap, ◌∙◌, subst, inl, inr, get_or, slice_get}
use Rattle.std.specs.Prelude.{nat_eq, option_map, if◌then◌else◌}
use Rattle.std.proofs.lemmas.Bool.{eqb-true, true≢false}
use Rattle.std.proofs.lemmas.Option.{get_or_from_slice_get}
use Rattle.fact_wasm.specs.declared.module.WasmImport.{WasmImport}
use Rattle.fact_wasm.specs.declared.module.WasmModule.{WasmModule}
use Rattle.fact_machine.specs.declared.types.Event.{Event}
use Rattle.fact_check.specs.Accepted.{IsAdapterModule}
use Rattle.fact_types.specs.Adapters.{LinkedAdapter}
use Rattle.fact_types.specs.Tables.{Tables}
use Rattle.fact_types.specs.declared.import.Import.{Import}
use Rattle.fact_types.specs.declared.import.Import.TheVariants as known
use Rattle.fact_types.specs.declared.outside.CoreDef.{CoreDef}
use Rattle.fact_types.specs.declared.outside.Transcode.{Transcode}
use Rattle.fact_types.specs.declared.outside.UnsafeIntrinsic.TheVariants as slot
use Rattle.fact_types.proofs.ShapeLaws.{same_some, none_some}
use Rattle.fact_actions.specs.Calls.{HasOwnCallee}
use Rattle.fact_actions.specs.Running.{ImportPlaces, Call}
use Rattle.fact_host.specs.declared.calling.HostCall.{HostCall}
use Rattle.fact_host.specs.declared.roles.Role.{Role}
use Rattle.fact_host.specs.declared.roles.Role.TheVariants as role
use Rattle.fact_host.specs.Describes.{Describes, IsImportOf, named_calls}
use Rattle.fact_host.specs.Roles.{IsNamedRole, IsRole, IsRoleBy, IsTranscoder, function_imports, is_place, is_slot, is_told, is_transfer, role_by_place}
use Rattle.fact_emit.specs.ImportSection.{NamesImports, a_function, imports_of, mentions}
use Rattle.fact_emit.proofs.PlacesOfLaws.{placed_is}
use Rattle.fact_function_laws.specs.Names.{AreCalls, places_in}
use Rattle.fact_call_laws.specs.Carrying.{CallsAdapter}
use Rattle.fact_call_laws.proofs.Naming.{SaysOf, names_say, transcoder_is}
use Rattle.fact_call_laws.proofs.Standing.{Stands, apart, stands}

-- the import of the nth imported function
abbrev pub names_in : WasmModule → List Import → ℕ → Import
names_in m is n = get_or (imports_of a_function m.imports is) n known.EnterSyncCall

-- the events of a log are the calls of those
pub are_named : (m : WasmModule) (is : List Import) (log : List Event) (calls : List Call) → AreCalls m is log calls → AreCalls m is log (named_calls (names_in m is) log)
are_named m is [] calls h = tt
are_named m is (e ∷ log) [] h = absurd h
are_named m is (e ∷ log) (c ∷ calls) h = (
  record {
    what = h.0.what ∙ ap Some (sym (get_or_from_slice_get (imports_of a_function m.imports is) e.func c.what known.EnterSyncCall h.0.what));
    args = refl;
    before = refl;
    answer = refl;
  },
  are_named m is log calls h.1,
)

-- ---- places

-- the place that a call names for a role
abbrev pub IsAt : HostCall → ℕ → Role → Type 0
IsAt c n role.Callee = c.callee ≡ n
IsAt c n role.LiftRealloc = c.lift.realloc ≡ Some n
IsAt c n role.LowerRealloc = c.lower.realloc ≡ Some n
IsAt c n role.PostReturn = c.post_return ≡ Some n
IsAt c n (role.Transcoder o from from64 to to64) = ⊥
IsAt c n role.Transfer = ⊥
IsAt c n role.Slot = ⊥
IsAt c n role.Told = ⊥
IsAt c n role.Refused = ⊥

place_is : (o : Option ℕ) (n : ℕ) → is_place o n ≡ true → o ≡ Some n
place_is None n h = absurd (true≢false (sym h))
place_is (Some k) n h = ap Some (eqb-true k n h)

pub at_place : (c : HostCall) (n : ℕ) (r : Role) → role_by_place c n ≡ Some r → IsAt c n r
at_place c n r h = by (nat_eq c.callee n) (is_place c.lift.realloc n) (is_place c.lower.realloc n) (is_place c.post_return n) refl refl refl refl h
  where
    by : (x y z u : Bool) → nat_eq c.callee n ≡ x → is_place c.lift.realloc n ≡ y → is_place c.lower.realloc n ≡ z → is_place c.post_return n ≡ u
        → (if x then Some role.Callee else (if y then Some role.LiftRealloc else (if z then Some role.LowerRealloc else (if u then Some role.PostReturn else None)))) ≡ Some r → IsAt c n r
    by true y z u d e f g h = subst (IsAt c n) (same_some (Some role.Callee) role.Callee r refl h) (eqb-true c.callee n d)
    by false true z u d e f g h = subst (IsAt c n) (same_some (Some role.LiftRealloc) role.LiftRealloc r refl h) (place_is c.lift.realloc n e)
    by false false true u d e f g h = subst (IsAt c n) (same_some (Some role.LowerRealloc) role.LowerRealloc r refl h) (place_is c.lower.realloc n f)
    by false false false true d e f g h = subst (IsAt c n) (same_some (Some role.PostReturn) role.PostReturn r refl h) (place_is c.post_return n g)
    by false false false false d e f g h = absurd (none_some None r refl h)

-- ---- names

transfer_named : (p : ImportPlaces) (a : LinkedAdapter) (w : WasmImport) (i : Import) → SaysOf w i → is_transfer w ≡ true → IsImportOf p a role.Transfer i
transfer_named p a w (known.CoreDef d) s h = absurd (true≢false (sym h ∙ s.transfer_is))
transfer_named p a w (known.Transcode o from from64 to to64) s h = absurd (true≢false (sym h ∙ s.transfer_is))
transfer_named p a w known.ResourceTransferOwn s h = inl refl
transfer_named p a w known.ResourceTransferBorrow s h = inr (inl refl)
transfer_named p a w known.FutureTransfer s h = inr (inr (inl refl))
transfer_named p a w known.StreamTransfer s h = inr (inr (inr (inl refl)))
transfer_named p a w known.ErrorContextTransfer s h = inr (inr (inr (inr refl)))
transfer_named p a w (known.PrepareCall memory) s h = absurd (true≢false (sym h ∙ s.transfer_is))
transfer_named p a w (known.StartCall callback post_return) s h = absurd (true≢false (sym h ∙ s.transfer_is))
transfer_named p a w (known.Trap t) s h = absurd (true≢false (sym h ∙ s.transfer_is))
transfer_named p a w known.EnterSyncCall s h = absurd (true≢false (sym h ∙ s.transfer_is))
transfer_named p a w known.ExitSyncCall s h = absurd (true≢false (sym h ∙ s.transfer_is))
transfer_named p a w (known.UnsafeIntrinsic slot.ContextGetI32_0) s h = absurd (true≢false (sym h ∙ s.transfer_is))
transfer_named p a w (known.UnsafeIntrinsic slot.ContextGetI32_1) s h = absurd (true≢false (sym h ∙ s.transfer_is))
transfer_named p a w (known.UnsafeIntrinsic slot.ContextSetI32_0) s h = absurd (true≢false (sym h ∙ s.transfer_is))
transfer_named p a w (known.UnsafeIntrinsic slot.ContextSetI32_1) s h = absurd (true≢false (sym h ∙ s.transfer_is))

slot_named : (p : ImportPlaces) (a : LinkedAdapter) (w : WasmImport) (i : Import) → SaysOf w i → is_slot w ≡ true → IsImportOf p a role.Slot i
slot_named p a w (known.CoreDef d) s h = absurd (true≢false (sym h ∙ s.slot_is))
slot_named p a w (known.Transcode o from from64 to to64) s h = absurd (true≢false (sym h ∙ s.slot_is))
slot_named p a w known.ResourceTransferOwn s h = absurd (true≢false (sym h ∙ s.slot_is))
slot_named p a w known.ResourceTransferBorrow s h = absurd (true≢false (sym h ∙ s.slot_is))
slot_named p a w known.FutureTransfer s h = absurd (true≢false (sym h ∙ s.slot_is))
slot_named p a w known.StreamTransfer s h = absurd (true≢false (sym h ∙ s.slot_is))
slot_named p a w known.ErrorContextTransfer s h = absurd (true≢false (sym h ∙ s.slot_is))
slot_named p a w (known.PrepareCall memory) s h = absurd (true≢false (sym h ∙ s.slot_is))
slot_named p a w (known.StartCall callback post_return) s h = absurd (true≢false (sym h ∙ s.slot_is))
slot_named p a w (known.Trap t) s h = absurd (true≢false (sym h ∙ s.slot_is))
slot_named p a w known.EnterSyncCall s h = absurd (true≢false (sym h ∙ s.slot_is))
slot_named p a w known.ExitSyncCall s h = absurd (true≢false (sym h ∙ s.slot_is))
slot_named p a w (known.UnsafeIntrinsic slot.ContextGetI32_0) s h = inl refl
slot_named p a w (known.UnsafeIntrinsic slot.ContextGetI32_1) s h = inr refl
slot_named p a w (known.UnsafeIntrinsic slot.ContextSetI32_0) s h = absurd (true≢false (sym h ∙ s.slot_is))
slot_named p a w (known.UnsafeIntrinsic slot.ContextSetI32_1) s h = absurd (true≢false (sym h ∙ s.slot_is))

told_named : (p : ImportPlaces) (a : LinkedAdapter) (w : WasmImport) (i : Import) → SaysOf w i → is_told w ≡ true → IsImportOf p a role.Told i
told_named p a w (known.CoreDef d) s h = absurd (true≢false (sym h ∙ s.told_is))
told_named p a w (known.Transcode o from from64 to to64) s h = absurd (true≢false (sym h ∙ s.told_is))
told_named p a w known.ResourceTransferOwn s h = absurd (true≢false (sym h ∙ s.told_is))
told_named p a w known.ResourceTransferBorrow s h = absurd (true≢false (sym h ∙ s.told_is))
told_named p a w known.FutureTransfer s h = absurd (true≢false (sym h ∙ s.told_is))
told_named p a w known.StreamTransfer s h = absurd (true≢false (sym h ∙ s.told_is))
told_named p a w known.ErrorContextTransfer s h = absurd (true≢false (sym h ∙ s.told_is))
told_named p a w (known.PrepareCall memory) s h = absurd (true≢false (sym h ∙ s.told_is))
told_named p a w (known.StartCall callback post_return) s h = absurd (true≢false (sym h ∙ s.told_is))
told_named p a w (known.Trap t) s h = absurd (true≢false (sym h ∙ s.told_is))
told_named p a w known.EnterSyncCall s h = inr (inr (inl refl))
told_named p a w known.ExitSyncCall s h = inr (inr (inr refl))
told_named p a w (known.UnsafeIntrinsic slot.ContextGetI32_0) s h = absurd (true≢false (sym h ∙ s.told_is))
told_named p a w (known.UnsafeIntrinsic slot.ContextGetI32_1) s h = absurd (true≢false (sym h ∙ s.told_is))
told_named p a w (known.UnsafeIntrinsic slot.ContextSetI32_0) s h = inl refl
told_named p a w (known.UnsafeIntrinsic slot.ContextSetI32_1) s h = inr (inl refl)

-- ---- the whole

module _ (m : WasmModule) (is : List Import) (adapters : List LinkedAdapter) (names : NamesImports m is adapters) (adapter : IsAdapterModule m) (t : Tables) (c : HostCall) (a : LinkedAdapter) (f : ℕ) (h : CallsAdapter m is t c a f) where
  -- what stands at the number of an imported function
  pub stands_so : (n : ℕ) (w : WasmImport) → slice_get (function_imports m) n ≡ Some w → Stands m.types (mentions adapters) m.imports is (imports_of a_function m.imports is) n w
  stands_so n w e = stands m.types (mentions adapters) [] m.imports is n w names.named e

  pub is_what : (n : ℕ) (w : WasmImport) (e : slice_get (function_imports m) n ≡ Some w) → names_in m is n ≡ (stands_so n w e).what
  is_what n w e = let s = stands_so n w e in get_or_from_slice_get (imports_of a_function m.imports is) n s.what known.EnterSyncCall s.there

  -- a core definition at its place
  pub core_is : (d : CoreDef) (n : ℕ) (w : WasmImport) → slice_get (function_imports m) n ≡ Some w → (places_in m is).function (known.CoreDef d) ≡ n → names_in m is n ≡ known.CoreDef d
  core_is d n w e at =
      let s = stands_so n w e in
      is_what n w e ∙ placed_is (known.CoreDef d) s.what (imports_of a_function m.imports is) (ap (slice_get (imports_of a_function m.imports is)) at ∙ s.there)

  option_is : (o : Option CoreDef) (k : Option ℕ) (n : ℕ) (w : WasmImport) → slice_get (function_imports m) n ≡ Some w → option_map (λ d. (places_in m is).function (known.CoreDef d)) o ≡ k → k ≡ Some n
      → option_map (λ d. known.CoreDef d) o ≡ Some (names_in m is n)
  option_is None k n w e q at = absurd (none_some None n refl (q ∙ at))
  option_is (Some d) k n w e q at = ap Some (sym (core_is d n w e (same_some (Some ((places_in m is).function (known.CoreDef d))) ((places_in m is).function (known.CoreDef d)) n refl (q ∙ at))))

  by_place : (n : ℕ) (w : WasmImport) (r : Role) → slice_get (function_imports m) n ≡ Some w → IsAt c n r → IsImportOf (places_in m is) a r (names_in m is n)
  by_place n w role.Callee e at = core_is a.callee n w e (h.callee ∙ at)
  by_place n w role.LiftRealloc e at = option_is a.lift.realloc c.lift.realloc n w e h.lift.realloc at
  by_place n w role.LowerRealloc e at = option_is a.lower.realloc c.lower.realloc n w e h.lower.realloc at
  by_place n w role.PostReturn e at = option_is a.lift.post_return c.post_return n w e h.post_return at
  by_place n w (role.Transcoder o from from64 to to64) e at = absurd at
  by_place n w role.Transfer e at = absurd at
  by_place n w role.Slot e at = absurd at
  by_place n w role.Told e at = absurd at
  by_place n w role.Refused e at = absurd at

  transcoder_named : (k : ℕ) (w : WasmImport) (i : Import) (o : Transcode) (from : ℕ) (from64 : Bool) (to : ℕ) (to64 : Bool) → slice_get m.imports k ≡ Some w → slice_get is k ≡ Some i → SaysOf w i
      → IsTranscoder m w o from from64 to to64 → IsImportOf (places_in m is) a (role.Transcoder o from from64 to to64) i
  transcoder_named k w (known.Transcode q d d64 e e64) o from from64 to to64 at is_it s x =
      let z = transcoder_is m is adapters names (apart is names.once) adapter k w q o d e d64 from64 e64 to64 from to at is_it x in
      (d, e, (λ j. known.Transcode (z.operation j) d (z.from_wide j) e (z.to_wide j)), z.from_at, z.to_at)
  transcoder_named k w (known.CoreDef d) o from from64 to to64 at is_it s x = absurd (s.no_transcoder x.origin)
  transcoder_named k w known.ResourceTransferOwn o from from64 to to64 at is_it s x = absurd (s.no_transcoder x.origin)
  transcoder_named k w known.ResourceTransferBorrow o from from64 to to64 at is_it s x = absurd (s.no_transcoder x.origin)
  transcoder_named k w known.FutureTransfer o from from64 to to64 at is_it s x = absurd (s.no_transcoder x.origin)
  transcoder_named k w known.StreamTransfer o from from64 to to64 at is_it s x = absurd (s.no_transcoder x.origin)
  transcoder_named k w known.ErrorContextTransfer o from from64 to to64 at is_it s x = absurd (s.no_transcoder x.origin)
  transcoder_named k w (known.PrepareCall memory) o from from64 to to64 at is_it s x = absurd (s.no_transcoder x.origin)
  transcoder_named k w (known.StartCall callback post_return) o from from64 to to64 at is_it s x = absurd (s.no_transcoder x.origin)
  transcoder_named k w (known.Trap r) o from from64 to to64 at is_it s x = absurd (s.no_transcoder x.origin)
  transcoder_named k w known.EnterSyncCall o from from64 to to64 at is_it s x = absurd (s.no_transcoder x.origin)
  transcoder_named k w known.ExitSyncCall o from from64 to to64 at is_it s x = absurd (s.no_transcoder x.origin)
  transcoder_named k w (known.UnsafeIntrinsic slot.ContextGetI32_0) o from from64 to to64 at is_it s x = absurd (s.no_transcoder x.origin)
  transcoder_named k w (known.UnsafeIntrinsic slot.ContextGetI32_1) o from from64 to to64 at is_it s x = absurd (s.no_transcoder x.origin)
  transcoder_named k w (known.UnsafeIntrinsic slot.ContextSetI32_0) o from from64 to to64 at is_it s x = absurd (s.no_transcoder x.origin)
  transcoder_named k w (known.UnsafeIntrinsic slot.ContextSetI32_1) o from from64 to to64 at is_it s x = absurd (s.no_transcoder x.origin)

  by_name : (w : WasmImport) (r : Role) (k : ℕ) (i : Import) → slice_get m.imports k ≡ Some w → slice_get is k ≡ Some i → SaysOf w i → IsNamedRole m w r → IsImportOf (places_in m is) a r i
  by_name w role.Callee k i at is_it s x = absurd x
  by_name w role.LiftRealloc k i at is_it s x = absurd x
  by_name w role.LowerRealloc k i at is_it s x = absurd x
  by_name w role.PostReturn k i at is_it s x = absurd x
  by_name w (role.Transcoder o from from64 to to64) k i at is_it s x = transcoder_named k w i o from from64 to to64 at is_it s x
  by_name w role.Transfer k i at is_it s x = transfer_named (places_in m is) a w i s x
  by_name w role.Slot k i at is_it s x = slot_named (places_in m is) a w i s x
  by_name w role.Told k i at is_it s x = told_named (places_in m is) a w i s x
  by_name w role.Refused k i at is_it s x = tt

  -- what a host takes an imported function for, the module imports it as
  pub is_import : (n : ℕ) (w : WasmImport) (r : Role) → slice_get (function_imports m) n ≡ Some w → IsRole m c n w r → IsImportOf (places_in m is) a r (names_in m is n)
  is_import n w r e x = by (role_by_place c n) refl x
    where
      by : (o : Option Role) → role_by_place c n ≡ o → IsRoleBy m w r o → IsImportOf (places_in m is) a r (names_in m is n)
      by (Some q) g x = subst (λ z. IsImportOf (places_in m is) a z (names_in m is n)) (sym x) (by_place n w q e (at_place c n q g))
      by None g x =
          let s = stands_so n w e in
          subst (IsImportOf (places_in m is) a r) (sym (is_what n w e)) (by_name w r s.place s.what s.entry_there s.what_there (names_say m is adapters names s.what s.place s.before w s.entry_there s.what_there s.named) x)

  pub describes : HasOwnCallee a → Describes m t c (places_in m is) a (names_in m is)
  describes own = record {
    lower = h.lower;
    lift = h.lift;
    callee = h.callee;
    post_return = h.post_return;
    own_callee = own;
    memory_types = refl;
    global_types = refl;
    functions = is_import;
  }
