-- The last call of a run is no transcoder's that was answered by a trap, where it reads a whole text.
use Rattle.std.proofs.Common.{◌≡◌, ℕ, ◌+◌, ◌≤◌, inl, inr, Bool, List, [], ◌∷◌, ◌++◌, Option, Some, None, refl, sym, ap, ◌∙◌, subst, arith, length, get_or}
use Rattle.fact_types.specs.declared.outside.CoreDef.{CoreDef}
use Rattle.fact_types.specs.declared.outside.Transcode.{Transcode}
use Rattle.fact_types.specs.declared.outside.Transcode.TheVariants as op
use Rattle.fact_types.specs.declared.import.Import.{Import}
use Rattle.fact_types.specs.declared.import.Import.TheVariants as import
use Rattle.fact_types.specs.Adapters.{LinkedAdapter}
use Rattle.fact_machine.specs.declared.types.Answer.{Answer}
use Rattle.fact_machine.specs.declared.types.Answer.TheVariants.{Traps}
use Rattle.fact_machine.specs.declared.types.MachineState.{MachineState}
use Rattle.fact_machine.specs.Causes.{answers_of}
use Rattle.fact_actions.specs.Calls.{arg_number, side_memory}
use Rattle.fact_actions.specs.Confined.{AreRangedCalls, HaveHonestTranscoders, IsHonestTranscoder, IsRangedBy, LiesInSound, room_bytes}
use Rattle.fact_actions.specs.Honest.{AreHonest, HasReturned, IsHonestBy}
use Rattle.fact_actions.specs.Order.{IsMemoryOf}
use Rattle.fact_actions.specs.Regions.{Position, Region}
use Rattle.fact_actions.specs.Running.{ImportPlaces, Call}
use Rattle.fact_actions.specs.Sides.{LiftLowerOptions, options_of}
use Rattle.fact_actions.specs.Transcoders.{from_encoding}
use Rattle.fact_action_laws.specs.ReadTexts.{ReadsText}
use Rattle.fact_action_laws.proofs.Spelled.{SpellsText}
use Rattle.fact_host.specs.declared.roles.Role.TheVariants as role
use Rattle.fact_host.specs.Describes.{IsImportOf}
use Rattle.fact_host.specs.Rules.{MustStop, memory_at, told_of, units_read}
use Rattle.fact_call_laws.proofs.Positions.{position_after}
use Rattle.fact_call_laws.proofs.Setting.{Called, Setting, are_calls, calls, is_import, log, names, places, typed}
use Rattle.fact_call_laws.proofs.Trapped.{AtTrap, before, calls_are, last_call, next, start}
use Rattle.fact_call_laws.proofs.Unstopped.{IsSafe, told_bytes, unstopped}

-- ---- honest transcoders

honest_by : (i : Import) (p : ImportPlaces) (lower : LiftLowerOptions) (post_return : Option CoreDef) (x : Position) (c : Call) → IsHonestBy i p lower post_return x c → IsHonestTranscoder i p c
honest_by (import.Transcode o from from64 to to64) p lower post_return x c h = λ r. h
honest_by _ p lower post_return x c h = tt

trapped_by : (i : Import) (p : ImportPlaces) (c : Call) → c.answer ≡ Traps → IsHonestTranscoder i p c
trapped_by (import.Transcode o from from64 to to64) p c e = λ r. absurd (subst (λ (z : Answer). HasReturned (record c { answer = z })) e r)
trapped_by _ p c e = tt

pub honest_transcoders : (p : ImportPlaces) (a : LinkedAdapter) (next : Call → Position → Position) (x : Position) (cs : List Call) (z : Call) → AreHonest p a next x cs → z.answer ≡ Traps → HaveHonestTranscoders p (cs ++ z ∷ [])
honest_transcoders p a next x [] z h e = (trapped_by z.what p z e, tt)
honest_transcoders p a next x (c ∷ cs) z h e = (honest_by c.what p (options_of a.lower) a.lift.post_return x c h.1, honest_transcoders p a next (next c x) cs z h.2 e)

ranged_last : (p : ImportPlaces) (next : Call → Position → Position) (x : Position) (cs : List Call) (z : Call) → AreRangedCalls p next x (cs ++ z ∷ []) → IsRangedBy z.what p (position_after next x cs) z
ranged_last p next x [] z h = h.0
ranged_last p next x (c ∷ cs) z h = ranged_last p next (next c x) cs z h.1

-- ---- its ranges

-- the memory of a side, by its name
named_memory : (p : ImportPlaces) (o : LiftLowerOptions) (def : CoreDef) (memory64 : Bool) (s : MachineState) → IsMemoryOf o def memory64 → side_memory p o s ≡ get_or s.memories (p.memory def) []
named_memory p o def memory64 s h =
    ap (λ q. elim q [ None ↦ [] | Some m ↦ get_or s.memories (p.memory m.def) [] ]) h.memory_is ∙ ap (λ d. get_or s.memories (p.memory d) []) h.def_is

within_sound : (room : ℕ) (rs : List Region) (address size : ℕ) → LiesInSound room rs address size → address + size ≤ room
within_sound room [] address size h = absurd h
within_sound room (r ∷ rs) address size (inl h) = omega (arith, h.0.inside, h.1.1)
within_sound room (r ∷ rs) address size (inr h) = within_sound room rs address size h

-- the room that a call tells of
same_room : (o : Transcode) (func : ℕ) (c : Call) → room_bytes o c ≡ told_bytes o (told_of (record { func = func; args = c.args; before = c.before; answer = c.answer }))
same_room (op.Copy e) func c = refl
same_room op.Latin1ToUtf16 func c = refl
same_room op.Utf8ToUtf16 func c = refl
same_room op.Latin1ToUtf8 func c = refl
same_room op.Utf16ToUtf8 func c = refl
same_room op.Utf8ToLatin1 func c = refl
same_room op.Utf16ToLatin1 func c = refl
same_room op.Utf16ToCompactProbablyUtf16 func c = refl
same_room op.Utf8ToCompactUtf16 func c = refl
same_room op.Utf16ToCompactUtf16 func c = refl

-- ---- the last call

module _ (x : Setting) (h : Called x) (t : AtTrap x h) where
  ranged : IsRangedBy (names x t.event.func) (places x) (position_after (next x h) (start x h) (before x h t)) (last_call x h t)
  ranged =
      let honest : HaveHonestTranscoders (places x) (calls x) = subst (HaveHonestTranscoders (places x)) (sym (calls_are x h t)) (honest_transcoders (places x) x.adapter (next x h) (start x h) (before x h t) (last_call x h t) t.honest t.traps) in
      ranged_last (places x) (next x h) (start x h) (before x h t) (last_call x h t)
      (subst (AreRangedCalls (places x) (next x h) (start x h)) (calls_are x h t)
      (h.promised.behaves.is_ranged h.outcome.args h.outcome.first (answers_of (log x)) x.steps (calls x) (typed x h) (are_calls x h) honest))

  pub goes_on : (o : Transcode) (from : ℕ) (from64 : Bool) (to : ℕ) (to64 : Bool) → t.role ≡ role.Transcoder o from from64 to to64
      → ((d : CoreDef) (e : CoreDef) → names x t.event.func ≡ import.Transcode o d from64 e to64 → ReadsText (places x) o d (last_call x h t))
      → MustStop o (memory_at t.event.before from) (memory_at t.event.before to) (told_of t.event) → ⊥
  goes_on o from from64 to to64 is reads must = by (subst (λ r. IsImportOf (places x) x.adapter r (names x t.event.func)) is (is_import x h t.event.func t.role t.named))
    where
      by : IsImportOf (places x) x.adapter (role.Transcoder o from from64 to to64) (names x t.event.func) → ⊥
      by q =
          let d : CoreDef = q.0 in
          let e : CoreDef = q.1 in
          let what = q.2 in
          let from_is = q.3 in
          let to_is = q.4 in
          let read = reads d e what in
          let r = subst (λ i. IsRangedBy i (places x) (position_after (next x h) (start x h) (before x h t)) (last_call x h t)) what ranged in
          let source : side_memory (places x) (position_after (next x h) (start x h) (before x h t)).landing.from t.event.before ≡ memory_at t.event.before from =
          named_memory (places x) (position_after (next x h) (start x h) (before x h t)).landing.from d from64 t.event.before r.0 ∙ ap (memory_at t.event.before) from_is in
          let target : side_memory (places x) (position_after (next x h) (start x h) (before x h t)).landing.to t.event.before ≡ memory_at t.event.before to =
          named_memory (places x) (position_after (next x h) (start x h) (before x h t)).landing.to e to64 t.event.before r.1 ∙ ap (memory_at t.event.before) to_is in
          let own = within_sound _ (position_after (next x h) (start x h) (before x h t)).live (arg_number (last_call x h t) 2) (room_bytes o (last_call x h t)) r.2.own in
          let safe : IsSafe o (memory_at t.event.before from) (memory_at t.event.before to) (told_of t.event) = record {
            text = read.text;
            spells = subst (λ n. SpellsText (from_encoding o) (units_read o (memory_at t.event.before n) (told_of t.event)) read.text) from_is (record { can = read.can; is = read.is });
            inside = omega (arith, r.2.inside, ap length source);
            room = omega (arith, own, ap length target, same_room o t.event.func (last_call x h t));
            fits = read.fits;
          } in
          unstopped o (memory_at t.event.before from) (memory_at t.event.before to) (told_of t.event) safe must
