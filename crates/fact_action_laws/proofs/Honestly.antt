-- Answers that are honest as fact_actions says are so as the law wants it.
use Rattle.std.proofs.Common.{◌≡◌, ℕ, ◌⊎◌, inl, inr, true, false, List, [], ◌∷◌, ◌++◌, Option, Some, None, refl, sym, ap, subst, ◌∙◌}
use Rattle.std.specs.Prelude.{if◌then◌else◌}
use Rattle.fact_types.specs.declared.outside.CoreDef.{CoreDef}
use Rattle.fact_machine.specs.declared.types.CoreValue.{CoreValue}
use Rattle.fact_machine.specs.declared.types.MachineState.{MachineState}
use Rattle.fact_machine.specs.declared.types.Answer.{Answer}
use Rattle.fact_machine.specs.declared.types.Answer.TheVariants.{Returns, Traps, Throws}
use Rattle.fact_types.specs.declared.import.Import.{Import}
use Rattle.fact_types.specs.declared.import.Import.TheVariants as import
use Rattle.fact_types.specs.Adapters.{LinkedAdapter, same_def}
use Rattle.fact_actions.specs.Calls.{nth_number, is_import_of, is_call_of_any}
use Rattle.fact_actions.specs.Honest.{AreHonest}
use Rattle.fact_actions.specs.Running.{Call, calls_in, run, ImportPlaces}
use Rattle.fact_actions.specs.Sides.{first_bits, LiftLowerOptions, options_of}
use Rattle.fact_action_laws.specs.HonestMoves.{IsHonestRealloc, AreHonestCalls}
use Rattle.fact_actions.specs.Regions.{Region, Position, IsInAny, IsHonestRegion, given_up, given_region, without, moved_on}
use Rattle.fact_action_laws.specs.Regions.{TransferSetting, request_by, old_region, region_from, regions_by}
use Rattle.fact_actions.specs.Order.{HaveTwoMemories, IsMemoryOf, IsValueCall}
use Rattle.fact_action_laws.proofs.Transcoded.{transcoded}
use Rattle.fact_action_laws.proofs.Called.{AllCalled, params_called, results_called}
use Rattle.fact_actions.proofs.OwnParts.{same_self}
use Rattle.fact_actions.specs.Adapters.{AdapterTunables, move_params, move_results}
use Rattle.fact_machine.specs.World.{World}

first_is : (vs : List CoreValue) → first_bits vs ≡ nth_number vs 0
first_is [] = refl
first_is (v ∷ vs) = refl

in_more : (rs qs : List Region) (j : ℕ) → IsInAny rs j ⊎ IsInAny qs j → IsInAny (rs ++ qs) j
in_more [] qs j h = elim h [ inl i ↦ absurd i | inr i ↦ i ]
in_more (r ∷ rs) qs j h = elim h [ inl (inl i) ↦ inl i | inl (inr i) ↦ inr (in_more rs qs j (inl i)) | inr i ↦ inr (in_more rs qs j (inr i)) ]

-- a call of a transfer: of realloc, of a transcoder between the memories of its sides, or of what moves handles
abbrev pub IsOfTransfer : (from to : LiftLowerOptions) → Import → Type 0
IsOfTransfer from to i = elim i [
  | import.CoreDef f ↦ (d : CoreDef) × (to.realloc ≡ Some d) × (same_def d f ≡ true)
  | import.Transcode o read read64 written written64 ↦ IsMemoryOf from read read64 × IsMemoryOf to written written64
  | import.PrepareCall memory ↦ ⊥
  | import.StartCall callback function ↦ ⊥
  | import.ResourceTransferOwn ↦ Unit {0}
  | import.ResourceTransferBorrow ↦ Unit {0}
  | import.FutureTransfer ↦ Unit {0}
  | import.StreamTransfer ↦ Unit {0}
  | import.ErrorContextTransfer ↦ Unit {0}
  | import.Trap t ↦ Unit {0}
  | import.EnterSyncCall ↦ Unit {0}
  | import.ExitSyncCall ↦ Unit {0}
  | import.UnsafeIntrinsic s ↦ Unit {0}
]

-- so are all calls of a transfer
value_call : (from to : LiftLowerOptions) (i : Import) → IsValueCall from to i → IsOfTransfer from to i
value_call from to (import.CoreDef d) h = absurd h
value_call from to (import.Transcode o read read64 written written64) h = h
value_call from to (import.PrepareCall m) h = absurd h
value_call from to (import.StartCall f g) h = absurd h
value_call from to import.ResourceTransferOwn h = tt
value_call from to import.ResourceTransferBorrow h = tt
value_call from to import.FutureTransfer h = tt
value_call from to import.StreamTransfer h = tt
value_call from to import.ErrorContextTransfer h = tt
value_call from to (import.Trap t) h = absurd h
value_call from to import.EnterSyncCall h = absurd h
value_call from to import.ExitSyncCall h = absurd h
value_call from to (import.UnsafeIntrinsic s) h = absurd h

module _ (u : AdapterTunables) (a : LinkedAdapter) (p : ImportPlaces) (w : World) where
  pub params_of_transfer : (args : List CoreValue) → AllCalled (IsOfTransfer (options_of a.lower) (options_of a.lift)) (calls_in (run p (move_params u a args) w))
  params_of_transfer args =
      params_called (IsOfTransfer (options_of a.lower) (options_of a.lift)) (λ t. tt) (λ s. tt) u a (λ f e. (f, e, same_self f)) (value_call (options_of a.lower) (options_of a.lift)) args p w

  pub results_of_transfer : (given : List CoreValue) (pointer : ℕ) → AllCalled (IsOfTransfer (options_of a.lift) (options_of a.lower)) (calls_in (run p (move_results u a given pointer) w))
  results_of_transfer given pointer =
      results_called (IsOfTransfer (options_of a.lift) (options_of a.lower)) (λ t. tt) (λ s. tt) u a (λ f e. (f, e, same_self f)) (value_call (options_of a.lift) (options_of a.lower)) given pointer p w

-- how far a transfer of this setting has come
abbrev pub position : TransferSetting → (live : List Region) → Position
position c live = record { landing = record { from = c.transfer.from; to = c.transfer.to; area = c.area }; live = live }

module _ (c : TransferSetting) (apart : HaveTwoMemories c.places c.transfer.from c.transfer.to) where
  -- an honest answer of realloc
  realloc_is : (live : List Region) (f : CoreDef) (args rs : List CoreValue) (before later : MachineState) → IsHonestRegion c.places (position c live) (record { what = import.CoreDef f; args = args; before = before; answer = Returns rs later })
      → IsHonestRealloc c live (request_by args) (first_bits rs) before later
  realloc_is live f args rs before later h =
      let used : List Region = without (old_region (request_by args)) live in
      subst (λ q. IsHonestRealloc c live (request_by args) q before later) (sym (first_is rs)) (record {
        aligned = h.sound.aligned;
        inside = h.sound.inside;
        apart = λ j i l. h.apart j i (in_more used c.area j l);
        holds = h.holds;
        others = λ j l. h.others j (in_more used c.area j l);
        source = h.source;
      })

  no_request : (i : Import) (r : Option CoreDef) (args : List CoreValue) (before : MachineState) (answer : Answer) → ((d : CoreDef) → is_import_of d i ≡ false) → is_call_of_any r (record { what = i; args = args; before = before; answer = answer }) ≡ false
  no_request i None args before answer h = refl
  no_request i (Some d) args before answer h = h d

  module _ (a : LinkedAdapter) where
    abbrev Theirs : (live : List Region) → List Call → Type 0
    Theirs live cs = AreHonest c.places a moved_on (position c live) cs

    -- behind a call that asks for no region
    quiet : (i : Import) (args : List CoreValue) (before : MachineState) (answer : Answer) (live : List Region) (cs : List Call) → ((d : CoreDef) → is_import_of d i ≡ false)
        → AreHonest c.places a moved_on (moved_on (record { what = i; args = args; before = before; answer = answer }) (position c live)) cs → Theirs live cs
    quiet i args before answer live cs h =
        subst (λ b. AreHonest c.places a moved_on (if b then record (position c live) { live = given_region (record { what = i; args = args; before = before; answer = answer }) ∷ without (given_up (record { what = i; args = args; before = before; answer = answer })) live } else position c live) cs)
        (no_request i c.transfer.to.realloc args before answer h)

    -- behind a call of realloc
    asked : (f : CoreDef) (args rs : List CoreValue) (before later : MachineState) (live : List Region) (cs : List Call) → is_call_of_any c.transfer.to.realloc (record { what = import.CoreDef f; args = args; before = before; answer = Returns rs later }) ≡ true
        → AreHonest c.places a moved_on (moved_on (record { what = import.CoreDef f; args = args; before = before; answer = Returns rs later }) (position c live)) cs
        → Theirs (given_region (record { what = import.CoreDef f; args = args; before = before; answer = Returns rs later }) ∷ without (given_up (record { what = import.CoreDef f; args = args; before = before; answer = Returns rs later })) live) cs
    asked f args rs before later live cs h =
        subst (λ b. AreHonest c.places a moved_on (if b then record (position c live) { live = given_region (record { what = import.CoreDef f; args = args; before = before; answer = Returns rs later }) ∷ without (given_up (record { what = import.CoreDef f; args = args; before = before; answer = Returns rs later })) live } else position c live) cs) h

    regions_are : (f : CoreDef) (args rs : List CoreValue) (before later : MachineState) (live : List Region)
        → regions_by (import.CoreDef f) args (Returns rs later) live ≡ given_region (record { what = import.CoreDef f; args = args; before = before; answer = Returns rs later }) ∷ without (given_up (record { what = import.CoreDef f; args = args; before = before; answer = Returns rs later })) live
    regions_are f args rs before later live = ap (λ x. region_from (request_by args) x ∷ without (old_region (request_by args)) live) (first_is rs)

    step : (i : Import) (args : List CoreValue) (before : MachineState) (answer : Answer) (live : List Region) (cs : List Call) → IsOfTransfer c.transfer.from c.transfer.to i
        → Theirs live (record { what = i; args = args; before = before; answer = answer } ∷ cs) → ((l : List Region) → Theirs l cs → AreHonestCalls c l cs) → AreHonestCalls c live (record { what = i; args = args; before = before; answer = answer } ∷ cs)
    step i args before Traps live cs o h more = absurd h.0
    step i args before Throws live cs o h more = absurd h.0
    step (import.CoreDef f) args before (Returns rs later) live cs o h more =
        (realloc_is live f args rs before later (h.1.0 (request o)), subst (λ gs. AreHonestCalls c gs cs) (sym (regions_are f args rs before later live)) (more _ (asked f args rs before later live cs (request o) h.2)))
      where
        request : (d : CoreDef) × (c.transfer.to.realloc ≡ Some d) × (same_def d f ≡ true) → is_call_of_any c.transfer.to.realloc (record { what = import.CoreDef f; args = args; before = before; answer = Returns rs later }) ≡ true
        request o = ap (λ r. is_call_of_any r (record { what = import.CoreDef f; args = args; before = before; answer = Returns rs later })) o.1 ∙ o.2
    step (import.Transcode q from from64 to to64) args before (Returns rs later) live cs o h more = (
      transcoded c q from from64 to to64 (record { what = import.Transcode q from from64 to to64; args = args; before = before; answer = Returns rs later }) apart o.0 o.1 h.1,
      more live (quiet (import.Transcode q from from64 to to64) args before (Returns rs later) live cs (λ d. refl) h.2),
    )
    step (import.PrepareCall memory) args before (Returns rs later) live cs o h more = absurd o
    step (import.StartCall callback function) args before (Returns rs later) live cs o h more = absurd o
    step import.ResourceTransferOwn args before (Returns rs later) live cs o h more = (h.1, more live (quiet import.ResourceTransferOwn args before (Returns rs later) live cs (λ d. refl) h.2))
    step import.ResourceTransferBorrow args before (Returns rs later) live cs o h more = (h.1, more live (quiet import.ResourceTransferBorrow args before (Returns rs later) live cs (λ d. refl) h.2))
    step import.FutureTransfer args before (Returns rs later) live cs o h more = (h.1, more live (quiet import.FutureTransfer args before (Returns rs later) live cs (λ d. refl) h.2))
    step import.StreamTransfer args before (Returns rs later) live cs o h more = (h.1, more live (quiet import.StreamTransfer args before (Returns rs later) live cs (λ d. refl) h.2))
    step import.ErrorContextTransfer args before (Returns rs later) live cs o h more = (h.1, more live (quiet import.ErrorContextTransfer args before (Returns rs later) live cs (λ d. refl) h.2))
    step (import.Trap t) args before (Returns rs later) live cs o h more = (h.1, more live (quiet (import.Trap t) args before (Returns rs later) live cs (λ d. refl) h.2))
    step import.EnterSyncCall args before (Returns rs later) live cs o h more = (h.1, more live (quiet import.EnterSyncCall args before (Returns rs later) live cs (λ d. refl) h.2))
    step import.ExitSyncCall args before (Returns rs later) live cs o h more = (h.1, more live (quiet import.ExitSyncCall args before (Returns rs later) live cs (λ d. refl) h.2))
    step (import.UnsafeIntrinsic s) args before (Returns rs later) live cs o h more = (h.1, more live (quiet (import.UnsafeIntrinsic s) args before (Returns rs later) live cs (λ d. refl) h.2))

    -- Honest calls of a transfer are honest as the law wants them.
    pub honest_are : (live : List Region) (cs : List Call) → AllCalled (IsOfTransfer c.transfer.from c.transfer.to) cs → Theirs live cs → AreHonestCalls c live cs
    honest_are live [] o h = tt
    honest_are live (k ∷ cs) o h = step k.what k.args k.before k.answer live cs o.0 h (λ l t. honest_are l cs o.1 t)
