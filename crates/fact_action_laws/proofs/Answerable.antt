-- A transcoder that stays in its ranges, and has room for what is there and for the rest, can be answered.
use Rattle.std.proofs.Common.{◌≡◌, ℕ, ◌+◌, ◌*◌, ◌≤◌, inl, inr, ⊎_elim, Bool, true, List, [], ◌∷◌, length, drop, get_or, Some, None, refl, sym, ap, ◌∙◌, subst, arith, length-take, length-drop}
use Rattle.std.specs.Prelude.{slice_set}
use Rattle.fact_types.specs.declared.import.Import.{Import}
use Rattle.fact_types.specs.declared.import.Import.TheVariants as import
use Rattle.fact_types.specs.declared.outside.CoreDef.{CoreDef}
use Rattle.fact_types.specs.declared.outside.Transcode.{Transcode}
use Rattle.fact_machine.specs.declared.types.Answer.{Answer}
use Rattle.fact_machine.specs.declared.types.Answer.TheVariants.{Returns}
use Rattle.fact_machine.specs.declared.types.MachineState.{MachineState}
use Rattle.fact_machine.specs.Typed.{are_globals, are_memories}
use Rattle.fact_machine.specs.World.{put_at}
use Rattle.fact_values.specs.Texts.{unit_bytes}
use Rattle.fact_actions.specs.Calls.{arg_number, side_memory}
use Rattle.fact_actions.specs.Confined.{LiesInSound, room_bytes}
use Rattle.fact_actions.specs.Honest.{room_of}
use Rattle.fact_actions.specs.Order.{IsMemoryOf}
use Rattle.fact_actions.specs.Regions.{Region, Position}
use Rattle.fact_actions.specs.Running.{ImportPlaces, Call, is_state}
use Rattle.fact_actions.specs.Sides.{LiftLowerOptions}
use Rattle.fact_actions.specs.Transcoders.{TranscodeKind, AllUnits, Counted, Fitting, Narrow, Tagged, Widening, IsHonestTranscoding, from_encoding, transcode_kind}
use Rattle.fact_actions.proofs.States.{and_left}
use Rattle.fact_action_laws.specs.Answerable.{CanBeAnswered, CanBeAnsweredBy, HasHonestAnswer, bytes_to_read}
use Rattle.fact_action_laws.proofs.HonestPasses.{has_pass}
use Rattle.fact_action_laws.proofs.Served.{IsServed, IsServedBy, AreServedCalls}
use Rattle.fact_action_laws.proofs.Spelled.{SpellsText}
use Rattle.fact_action_laws.proofs.Splits.{spells_or_not}
use Rattle.fact_action_laws.proofs.TextTransfers.{counts}
use Rattle.fact_action_laws.proofs.TypedTexts.{are_bytes, bytes_drop, bytes_memory, bytes_take, put_typed}

-- the memory of a side, by its name
named_memory : (p : ImportPlaces) (o : LiftLowerOptions) (def : CoreDef) (memory64 : Bool) (s : MachineState) → IsMemoryOf o def memory64 → side_memory p o s ≡ get_or s.memories (p.memory def) []
named_memory p o def memory64 s h =
    ap (λ q. elim q [ None ↦ [] | Some m ↦ get_or s.memories (p.memory m.def) [] ]) h.memory_is ∙ ap (λ d. get_or s.memories (p.memory d) []) h.def_is

within_sound : (room : ℕ) (rs : List Region) (address size : ℕ) → LiesInSound room rs address size → address + size ≤ room
within_sound room [] address size h = absurd h
within_sound room (r ∷ rs) address size h = ⊎_elim (λ x. let s = x.0.inside in let w = x.1.1 in omega (arith, s, w)) (λ k. within_sound room rs address size k) h

-- the bytes that are there
told_bytes : (k : TranscodeKind) (c : Call) (there : List ℕ) → are_bytes there ≡ true → are_bytes (room_of k c there).latin1_bytes ≡ true
told_bytes AllUnits c there h = refl
told_bytes Counted c there h = refl
told_bytes Fitting c there h = refl
told_bytes Narrow c there h = refl
told_bytes Tagged c there h = refl
told_bytes Widening c there h = bytes_take (arg_number c 4) there h

-- what a transcoder is told hangs on no answer
room_before : (k : TranscodeKind) (c : Call) (a : Answer) (there : List ℕ) → room_of k c there ≡ room_of k (record c { answer = a }) there
room_before AllUnits c a there = refl
room_before Counted c a there = refl
room_before Fitting c a there = refl
room_before Narrow c a there = refl
room_before Tagged c a there = refl
room_before Widening c a there = refl

module _ (p : ImportPlaces) (x : Position) (o : Transcode) (from : CoreDef) (from64 : Bool) (to : CoreDef) (to64 : Bool) (c : Call)
    (of_from : IsMemoryOf x.landing.from from from64) (of_to : IsMemoryOf x.landing.to to to64) (h : IsServed p x o c) where
  abbrev target : List ℕ
  target = get_or c.before.memories (p.memory to) []

  abbrev there : List ℕ
  there = drop (arg_number c 2) target

  long : length (bytes_to_read p o from c) ≡ unit_bytes (from_encoding o) * arg_number c 1
  long =
      let size = unit_bytes (from_encoding o) * arg_number c 1 in
      let memory = get_or c.before.memories (p.memory from) [] in
      let inside : arg_number c 0 + size ≤ length memory = subst (λ m. arg_number c 0 + size ≤ length m) (named_memory p x.landing.from from from64 c.before of_from) h.ranged.inside in
      let t = length-take size (drop (arg_number c 0) memory) in
      let d = length-drop (arg_number c 0) memory in
      omega (arith, inside, t, d)

  room : arg_number c 2 + room_bytes o c ≤ length target
  room = subst (λ m. arg_number c 2 + room_bytes o c ≤ length m) (named_memory p x.landing.to to to64 c.before of_to) (within_sound _ x.live (arg_number c 2) (room_bytes o c) h.ranged.own)

  target_bytes : is_state p c.before ≡ true → are_bytes target ≡ true
  target_bytes typed = bytes_memory p.memory_types c.before.memories (p.memory to) (and_left (are_memories p.memory_types c.before.memories) (are_globals p.global_types c.before.globals) typed)

  answered : (text : List ℕ) → SpellsText (from_encoding o) (bytes_to_read p o from c) text → HasHonestAnswer p o from from64 to to64 c
  answered text spells =
      let count = counts (from_encoding o) (bytes_to_read p o from c) text (arg_number c 1) long spells.is in
      let pass = has_pass o c there (bytes_to_read p o from c) text spells.can spells.is count h.small h.fits in
      let v = pass.values from64 to64 in
      let inside : arg_number c 2 + length pass.bytes ≤ length target = (let s = pass.short in omega (arith, s, room)) in
      let after : MachineState = record c.before { memories = slice_set c.before.memories (p.memory to) (put_at target (arg_number c 2) pass.bytes) } in
      record {
        values = v.values;
        after = after;
        typed = v.typed;
        state_typed = λ typed. put_typed p c.before (p.memory to) (arg_number c 2) pass.bytes inside (pass.in_bytes (told_bytes (transcode_kind o) c there (bytes_drop (arg_number c 2) target (target_bytes typed)))) typed;
        honest = record {
          bytes = pass.bytes;
          transcoding =
              subst (λ ns. IsHonestTranscoding o (room_of (transcode_kind o) (record c { answer = Returns v.values after }) there) (bytes_to_read p o from c) pass.bytes ns) (sym v.are)
              (subst (λ g. IsHonestTranscoding o g (bytes_to_read p o from c) pass.bytes pass.numbers) (room_before (transcode_kind o) c (Returns v.values after) there) pass.pass);
          inside = inside;
          written = refl;
        };
      }

  can_be_answered : CanBeAnsweredBy (import.Transcode o from from64 to to64) p c
  can_be_answered = ⊎_elim (λ s. inl (answered s.0 s.1)) (λ m. inr m) (spells_or_not (from_encoding o) (bytes_to_read p o from c))

answered_by : (i : Import) (p : ImportPlaces) (x : Position) (c : Call) → IsServedBy i p x c → CanBeAnsweredBy i p c
answered_by (import.Transcode o from from64 to to64) p x c h = can_be_answered p x o from from64 to to64 c h.0 h.1 h.2
answered_by _ p x c h = tt

pub answered_calls : (p : ImportPlaces) (next : Call → Position → Position) (x : Position) (cs : List Call) → AreServedCalls p next x cs → CanBeAnswered p cs
answered_calls p next x [] h = tt
answered_calls p next x (c ∷ cs) h = (answered_by c.what p x c h.0, answered_calls p next (next c x) cs h.1)
