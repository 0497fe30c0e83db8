-- No request of realloc is answered by a trap.
use Rattle.std.proofs.Common.{◌≡◌, ℕ, ◌+◌, ◌≤◌, ◌⊎◌, inl, inr, Bool, true, false, List, [], ◌∷◌, ◌++◌, Option, Some, None, refl, sym, ap, ◌∙◌, arith, cond, length}
use Rattle.std.specs.Prelude.{◌&&◌, nat_eq}
use Rattle.std.proofs.lemmas.Bool.{eq-eqb, true≢false}
use Rattle.fact_types.specs.declared.outside.CoreDef.{CoreDef}
use Rattle.fact_types.specs.declared.import.Import.{Import}
use Rattle.fact_types.specs.declared.import.Import.TheVariants as import
use Rattle.fact_types.specs.Adapters.{same_def}
use Rattle.fact_types.proofs.ShapeLaws.{none_some}
use Rattle.fact_machine.specs.Trace.{Grows}
use Rattle.fact_actions.specs.Calls.{is_call_of, is_call_of_any, is_import_of, nth_number}
use Rattle.fact_actions.specs.Confined.{IsLiveRegion, is_beside}
use Rattle.fact_actions.specs.Regions.{Landing, Region, is_request}
use Rattle.fact_actions.specs.Requests.{Request, request_of, requests_in}
use Rattle.fact_actions.specs.Running.{Call}
use Rattle.fact_actions.proofs.OwnParts.{same_self}
use Rattle.fact_action_laws.specs.Requested.{AreOutsideTransfers, IsOutsideTransfers}
use Rattle.fact_action_laws.specs.Rooms.{request_bytes, requests_bytes}
use Rattle.fact_host.specs.Rules.{MustRefuse, NoAlignment, NoRoom, NotLive, OtherTransfer, cursor_of, is_live, is_old_live, memory_at}
use Rattle.fact_host.proofs.LiveLaws.{has, kept, live_is_has}
use Rattle.fact_call_laws.proofs.Cursors.{Told, next_fits, not_beside, request_none, told}
use Rattle.fact_call_laws.proofs.Positions.{position_after}
use Rattle.fact_call_laws.proofs.Setting.{Called, Setting, described, names, places}
use Rattle.fact_call_laws.proofs.Steps.{ask, call_by, landing_by, side_to}
use Rattle.fact_call_laws.proofs.Trapped.{AtTrap, before, gives_up_last, holds, last_call, next, start}

-- ---- regions that are live

live_has : (live : List Region) (place size align : ℕ) → IsLiveRegion live place size align → has (record { at = place; size = size; align = align }) live ≡ true
live_has [] place size align h = absurd h
live_has (r ∷ live) place size align h = by (λ g. live_has live place size align g) (nat_eq r.at place) (nat_eq r.size size) refl refl h
  where
    by : (IsLiveRegion live place size align → has (record { at = place; size = size; align = align }) live ≡ true) → (b c : Bool) → nat_eq r.at place ≡ b → nat_eq r.size size ≡ c → ((r.at ≡ place) × (r.size ≡ size) × (r.align ≡ align)) ⊎ IsLiveRegion live place size align → cond (b && c) true (has (record { at = place; size = size; align = align }) live) ≡ true
    by more true true e f h = refl
    by more false c e f (inl g) = absurd (true≢false (sym (eq-eqb r.at place g.0) ∙ e))
    by more true false e f (inl g) = absurd (true≢false (sym (eq-eqb r.size size g.1) ∙ f))
    by more false c e f (inr g) = more g
    by more true false e f (inr g) = more g

either : (b c : Bool) → c ≡ true → cond b true c ≡ true
either true c e = refl
either false c e = e

-- ---- requests of lists

pub bytes_on : (xs ys : List Request) → requests_bytes (xs ++ ys) ≡ requests_bytes xs + requests_bytes ys
bytes_on [] ys = omega arith
bytes_on (r ∷ xs) ys = omega (arith, bytes_on xs ys)

pub grown_bytes : (xs ys : List Request) → Grows xs ys → requests_bytes xs ≤ requests_bytes ys
grown_bytes xs ys g = omega (arith, ap requests_bytes g.is, bytes_on xs g.more)

-- calls beside transfers ask for nothing
no_import : (d : CoreDef) (i : Import) → IsOutsideTransfers None i → is_import_of d i ≡ false
no_import d (import.CoreDef e) h = absurd (none_some None e refl h)
no_import d (import.Transcode o from from64 to to64) h = absurd h
no_import d import.ResourceTransferOwn h = absurd h
no_import d import.ResourceTransferBorrow h = absurd h
no_import d import.FutureTransfer h = absurd h
no_import d import.StreamTransfer h = absurd h
no_import d import.ErrorContextTransfer h = absurd h
no_import d (import.PrepareCall memory) h = absurd h
no_import d (import.StartCall callback post_return) h = absurd h
no_import d (import.Trap r) h = absurd h
no_import d import.EnterSyncCall h = refl
no_import d import.ExitSyncCall h = refl
no_import d (import.UnsafeIntrinsic s) h = refl

no_request : (r : Option CoreDef) (z : Call) → IsOutsideTransfers None z.what → is_call_of_any r z ≡ false
no_request None z h = refl
no_request (Some d) z h = no_import d z.what h

pub outside_none : (l : Landing) (cs : List Call) → AreOutsideTransfers None cs → requests_in l cs ≡ []
outside_none l [] h = refl
outside_none l (z ∷ cs) h = request_none l z cs (no_request l.to.realloc z h.0) ∙ outside_none l cs h.1

-- ---- the last call

module _ (x : Setting) (h : Called x) (t : AtTrap x h) where
  -- A request that is for the side that values go to, and for which there is room, is not refused.
  pub not_refused : (b dest : Bool) (n : ℕ) (f : CoreDef) → (side_to b x.call).memory ≡ Some n → names x t.event.func ≡ import.CoreDef f → (landing_by b x.adapter h.outcome.args).to.realloc ≡ Some f → same_def x.adapter.callee f ≡ false
      → t.last.returned ≡ b → dest ≡ true → cursor_of t.last n + request_bytes (request_of (last_call x h t)) ≤ length (memory_at t.event.before n)
      → MustRefuse t.last n dest (memory_at t.event.before n) (ask t.event.args) → ⊥
  not_refused b dest n f here what is_f not_callee phase is_dest room must = by must
    where
      request : is_request (position_after (next x h) (start x h) (before x h t)).landing (last_call x h t) ≡ true
      request =
          ap (λ (l : Landing). is_request l (last_call x h t)) ((holds x h t).landing ∙ ap (λ z. landing_by z x.adapter h.outcome.args) phase)
          ∙ ap (λ o. is_call_of_any o (last_call x h t)) is_f ∙ ap (λ z. is_call_of f (call_by z t.event.args t.event.before t.event.answer)) what ∙ same_self f

      beside : is_beside x.adapter (last_call x h t) ≡ false
      beside = not_beside x.code x.types x.call (places x) x.adapter (names x) (described x h) h.callable.once h.outcome.args b f (names x t.event.func) t.event.args t.event.before t.event.answer what is_f not_callee

      knows : Told x.code x.types x.call (places x) x.adapter (names x) (described x h) h.callable.once h.outcome.args t.event.args
      knows = told x.code x.types x.call (places x) x.adapter (names x) (described x h) h.callable.once h.outcome.args (position_after (next x h) (start x h) (before x h t)) (names x t.event.func) t.event.args t.event.before t.event.answer (holds x h t).aligned request (gives_up_last x h t beside)

      -- what is given up is known to be live
      live : ((nth_number t.event.args 0 ≡ 0) × (nth_number t.event.args 1 ≡ 0)) ⊎ IsLiveRegion (position_after (next x h) (start x h) (before x h t)).live (nth_number t.event.args 0) (nth_number t.event.args 1) (nth_number t.event.args 2)
          → is_old_live t.last (ask t.event.args) ≡ true
      live (inl z) = ap (λ y. cond (y && nat_eq (nth_number t.event.args 1) 0) true (is_live (ask t.event.args).old t.last.live)) (eq-eqb (nth_number t.event.args 0) 0 z.0) ∙ ap (λ y. cond y true (is_live (ask t.event.args).old t.last.live)) (eq-eqb (nth_number t.event.args 1) 0 z.1)
      live (inr z) =
          let old : Region = record { at = nth_number t.event.args 0; size = nth_number t.event.args 1; align = nth_number t.event.args 2 } in
          let held : is_live (kept old) t.last.live ≡ true = ap (is_live (kept old)) (sym (holds x h t).live) ∙ live_is_has old (position_after (next x h) (start x h) (before x h t)).live ∙ live_has (position_after (next x h) (start x h) (before x h t)).live (nth_number t.event.args 0) (nth_number t.event.args 1) (nth_number t.event.args 2) z in
          either (nat_eq (nth_number t.event.args 0) 0 && nat_eq (nth_number t.event.args 1) 0) (is_live (kept old) t.last.live) held

      by : MustRefuse t.last n dest (memory_at t.event.before n) (ask t.event.args) → ⊥
      by (OtherTransfer e) = true≢false (sym is_dest ∙ e)
      by (NoAlignment e) = knows.some e
      by (NotLive e) = true≢false (sym (live (gives_up_last x h t beside request).1) ∙ e)
      by (NoRoom st lt) = let fit = next_fits t.last n t.event.args knows.some knows.old_aligned st in omega (arith, fit.1, room, lt)
