-- How a host answers the calls of other functions than the callee's is as its rules say.
use Rattle.std.proofs.Common.{◌≡◌, ℕ, zero, suc, ◌+◌, Bool, true, false, List, [], ◌∷◌, Option, Some, None, length, refl, sym, ap, ◌∙◌, subst, arith, map, slice_get}
use Rattle.std.specs.Prelude.{cond, IfOk, not, Result, Ok, Err, slice_set, if◌then◌else◌}
use Rattle.std.proofs.lemmas.List.{set-get_or}
use Rattle.std.proofs.lemmas.Bool.{true≢false}
use Rattle.fact_types.specs.declared.outside.Transcode.{Transcode}
use Rattle.fact_types.specs.Signatures.{address}
use Rattle.fact_machine.specs.declared.types.Answer.{Answer}
use Rattle.fact_machine.specs.declared.types.Answer.TheVariants.{Returns, Traps, Throws}
use Rattle.fact_machine.specs.declared.types.CoreValue.{CoreValue}
use Rattle.fact_machine.specs.declared.types.Event.{Event}
use Rattle.fact_machine.specs.declared.types.MachineState.{MachineState}
use Rattle.fact_machine.specs.Typing.{address_operand, address_type}
use Rattle.fact_machine.specs.World.{put_at}
use Rattle.fact_actions.specs.Transcoders.{TranscodeKind, AllUnits, Counted, Fitting, Narrow, Tagged, Widening, IsHonestPass, Room, from_encoding, numbers_answered, to_encoding, transcode_kind, transcode_types}
use Rattle.fact_types.specs.declared.outside.FixedEncoding.{FixedEncoding}
use Rattle.fact_actions.specs.Calls.{nth_number}
use Rattle.fact_values.specs.Lift.{bits_of}
use Rattle.fact_host.specs.declared.allocator.Request.{Request}
use Rattle.fact_host.specs.declared.known.Known.{Known}
use Rattle.fact_host.specs.declared.transcoders.Told.{Told}
use Rattle.fact_host.specs.Allocator.{alone, asked_by, GivesRegion}
use Rattle.fact_values.specs.declared.value.Value.{Value}
use Rattle.fact_host.specs.declared.calling.HostCall.{HostCall}
use Rattle.fact_host.specs.declared.calling.HostSide.{HostSide}
use Rattle.fact_host.specs.declared.roles.Role.{Role}
use Rattle.fact_host.specs.declared.roles.Role.TheVariants as of
use Rattle.fact_host.specs.Hosts.{IsTranscodedByHost, both_listed, event_by, number_types}
use Rattle.fact_host.specs.Rules.{Answers, AreWrittenBytes, AreOfCoreTypes, CallShapes, memory_at, with_memory_at, cursor_of, raised, live_without, AskedRegion, asked_of, stays, next_region, given_at, after_region, bytes_after_region, MustRefuse, OtherTransfer, NoAlignment, NotLive, NoRoom, MustStop, told_of, IsHonestlyMade, LeavesKnown, AnswersBy, ReallocsBy, ReallocsIn, TranscodesBy}

-- ---- answers

pub returned_same : (rs vs : List CoreValue) (s t : MachineState) → Returns rs s ≡ Returns vs t → (rs ≡ vs) × (s ≡ t)
returned_same rs vs s t e = (cc, cc)

-- a call that must be answered by a trap, and is
pub by_trap : {Must : Type 0} {Leave : LeavesKnown} (k k' : Known) (e : Event) → e.answer ≡ Traps → Must → AnswersBy Must Leave k e k'
by_trap k k' e is must = record {
  traps = ((λ q. must), (λ m. is));
  returns = λ results after q. (let z : Returns results after ≡ Traps = sym q ∙ is in absurd cc);
  never_throws = λ q. (let z : Throws ≡ Traps = sym q ∙ is in absurd cc);
}

-- one that must not, and is answered so
pub by_return : {Must : Type 0} {Leave : LeavesKnown} (k k' : Known) (e : Event) (results : List CoreValue) (after : MachineState) → e.answer ≡ Returns results after → (Must → ⊥) → Leave after results k' → AnswersBy Must Leave k e k'
by_return {Must} {Leave} k k' e results after is never leaves = record {
  traps = ((λ q. (let z : Returns results after ≡ Traps = sym is ∙ q in absurd cc)), (λ m. absurd (never m)));
  returns = λ rs s q.
      (let z : Returns results after ≡ Returns rs s = sym is ∙ q in
      let b = returned_same results rs after s z in
      subst (λ x. Leave x rs k') b.1 (subst (λ x. Leave after x k') b.0 leaves));
  never_throws = λ q. (let z : Returns results after ≡ Throws = sym is ∙ q in absurd cc);
}

-- ---- addresses

pub address_is : (b : Bool) → address_type b ≡ address b
address_is true = refl
address_is false = refl

-- ---- realloc

-- to a side whose transfer is under way, or not
pub to_lift : (k k' : Known) (side : HostSide) (b : Bool) (e : Event) → b ≡ not k.returned → ReallocsBy k side b e k' → ReallocsBy k side (if k.returned then false else true) e k'
to_lift k k' side b e is h = subst (λ z. ReallocsBy k side z e k') (is ∙ flipped k.returned) h
  where
    flipped : (c : Bool) → not c ≡ (if c then false else true)
    flipped true = refl
    flipped false = refl

-- by what is asked for
abbrev pub ReallocsAs : AskedRegion → Known → (n : ℕ) → (memory64 is_destination : Bool) → Event → Known → Type 0
ReallocsAs q k n memory64 is_destination e k' =
    AnswersBy (MustRefuse k n is_destination (memory_at e.before n) q)
    (λ after rs j. (after ≡ with_memory_at e.before n (bytes_after_region k n q (memory_at e.before n))) × AreOfCoreTypes (address memory64 ∷ []) rs × (rs ≡ address_operand memory64 (given_at k n q) ∷ []) × (j ≡ after_region k n q)) k e k'

-- what is asked for, as it was read
pub asked_is : (r : Request) (e : Event) → r.old ≡ record { at = nth_number e.args 0; size = nth_number e.args 1 } → r.align ≡ nth_number e.args 2 → r.size ≡ nth_number e.args 3 → asked_by r ≡ asked_of e
asked_is r e old align size = λ i. record { old = old i; align = align i; size = size i }

pub as_asked : (q : AskedRegion) (k : Known) (n : ℕ) (memory64 is_destination : Bool) (e : Event) (k' : Known) → q ≡ asked_of e → ReallocsAs q k n memory64 is_destination e k' → ReallocsIn k n memory64 is_destination e k'
as_asked q k n memory64 is_destination e k' is h = subst (λ z. ReallocsAs z k n memory64 is_destination e k') is h

never_refused : (k : Known) (n : ℕ) (bytes : List ℕ) (q : AskedRegion) (at after : ℕ) (bytes_after : List ℕ) → GivesRegion (cursor_of k n) k.live bytes q at after bytes_after → MustRefuse k n true bytes q → ⊥
never_refused k n bytes q at after bytes_after g (OtherTransfer e) = true≢false e
never_refused k n bytes q at after bytes_after g (NoAlignment e) = g.aligns e
never_refused k n bytes q at after bytes_after g (NotLive e) = true≢false (sym g.old_live ∙ e)
never_refused k n bytes q at after bytes_after g (NoRoom e lt) = let le = g.room e in absurd (omega (arith, lt, le))

-- the host with one memory answers as the one with all of them
same_at : (k : Known) (n : ℕ) (q : AskedRegion) → given_at (alone (cursor_of k n) k.live) 0 q ≡ given_at k n q
same_at k n q = refl

same_bytes : (k : Known) (n : ℕ) (q : AskedRegion) (bytes : List ℕ) → bytes_after_region (alone (cursor_of k n) k.live) 0 q bytes ≡ bytes_after_region k n q bytes
same_bytes k n q bytes = refl

-- what is known then, by whether the region stays
abbrev pub known_by : Known → ℕ → AskedRegion → (next : ℕ) → Bool → Known
known_by k n q next b = record (cond b k (raised k n (next + q.size))) { live = record { at = cond b q.old.at next; size = q.size } ∷ live_without q.old k.live }

known_after : (k : Known) (n : ℕ) (q : AskedRegion) (at after : ℕ) → at ≡ given_at k n q → after ≡ cursor_of (after_region (alone (cursor_of k n) k.live) 0 q) 0
    → raised (record k { live = record { at = at; size = q.size } ∷ live_without q.old k.live }) n after ≡ after_region k n q
known_after k n q at after is end = by (stays q) refl end
  where
    by : (b : Bool) → stays q ≡ b → after ≡ cursor_of (known_by (alone (cursor_of k n) k.live) 0 q (next_region k n q) b) 0 → raised (record k { live = record { at = at; size = q.size } ∷ live_without q.old k.live }) n after ≡ after_region k n q
    by true e same =
        (λ i. record { cursors = (ap (λ z. slice_set k.cursors n z) same ∙ set-get_or k.cursors n 0) i; live = record { at = (is ∙ ap (λ b. cond b q.old.at (next_region k n q)) e) i; size = q.size } ∷ live_without q.old k.live; returned = k.returned; transfers = k.transfers })
        ∙ sym (ap (known_by k n q (next_region k n q)) e)
    by false e same =
        (λ i. record { cursors = slice_set k.cursors n (same i); live = record { at = (is ∙ ap (λ b. cond b q.old.at (next_region k n q)) e) i; size = q.size } ∷ live_without q.old k.live; returned = k.returned; transfers = k.transfers })
        ∙ sym (ap (known_by k n q (next_region k n q)) e)

pub reallocs_given : (k k' : Known) (n cursor : ℕ) (bytes : List ℕ) (memory64 : Bool) (q : AskedRegion) (e : Event) (at after : ℕ) (bytes_after : List ℕ) (results : List CoreValue) (state : MachineState)
    → e.answer ≡ Returns results state → cursor ≡ cursor_of k n → bytes ≡ memory_at e.before n → GivesRegion cursor k.live bytes q at after bytes_after
    → results ≡ address_operand memory64 at ∷ [] → AreOfCoreTypes (address memory64 ∷ []) results → state ≡ with_memory_at e.before n bytes_after
    → k' ≡ raised (record k { live = record { at = at; size = q.size } ∷ live_without q.old k.live }) n after → ReallocsAs q k n memory64 true e k'
reallocs_given k k' n cursor bytes memory64 q e at after bytes_after results state is at_cursor of gives rs typed left known =
    let g : GivesRegion (cursor_of k n) k.live (memory_at e.before n) q at after bytes_after = subst (λ z. GivesRegion z k.live (memory_at e.before n) q at after bytes_after) at_cursor (subst (λ z. GivesRegion cursor k.live z q at after bytes_after) of gives) in
    by_return k k' e results state is (never_refused k n (memory_at e.before n) q at after bytes_after g) (
      left ∙ ap (with_memory_at e.before n) (g.bytes_are ∙ same_bytes k n q (memory_at e.before n)),
      typed,
      rs ∙ ap (λ a. address_operand memory64 a ∷ []) (g.at_is ∙ same_at k n q),
      known ∙ known_after k n q at after (g.at_is ∙ same_at k n q) g.cursor_is,
    )

-- ---- transcoders

-- the types of numbers are those of a kind that answers so many
of_kind : (k : TranscodeKind) (f t : FixedEncoding) (g : Room) (text : List ℕ) (from64 to64 : Bool) (first second : Option ℕ) → both_listed first second ≡ numbers_answered k f t g text → number_types from64 to64 first second ≡ transcode_types k from64 to64
of_kind k f t g text from64 to64 first second e = by k first second (ap length e)
  where
    by : (k : TranscodeKind) (a b : Option ℕ) → length (both_listed a b) ≡ length (numbers_answered k f t g text) → number_types from64 to64 a b ≡ transcode_types k from64 to64
    by AllUnits None None h = refl
    by AllUnits (Some a) None h = absurd (omega (arith, h))
    by AllUnits None (Some b) h = absurd (omega (arith, h))
    by AllUnits (Some a) (Some b) h = absurd (omega (arith, h))
    by Counted None None h = absurd (omega (arith, h))
    by Counted (Some a) None h = refl
    by Counted None (Some b) h = refl
    by Counted (Some a) (Some b) h = absurd (omega (arith, h))
    by Fitting None None h = absurd (omega (arith, h))
    by Fitting (Some a) None h = absurd (omega (arith, h))
    by Fitting None (Some b) h = absurd (omega (arith, h))
    by Fitting (Some a) (Some b) h = refl
    by Narrow None None h = absurd (omega (arith, h))
    by Narrow (Some a) None h = absurd (omega (arith, h))
    by Narrow None (Some b) h = absurd (omega (arith, h))
    by Narrow (Some a) (Some b) h = refl
    by Tagged None None h = absurd (omega (arith, h))
    by Tagged (Some a) None h = refl
    by Tagged None (Some b) h = refl
    by Tagged (Some a) (Some b) h = absurd (omega (arith, h))
    by Widening None None h = absurd (omega (arith, h))
    by Widening (Some a) None h = refl
    by Widening None (Some b) h = refl
    by Widening (Some a) (Some b) h = absurd (omega (arith, h))

-- numbers that an honest answer has, as values of these types
pub numbers_typed : (o : Transcode) (g : Room) (source bytes : List ℕ) (from64 to64 : Bool) (first second : Option ℕ) (results : List CoreValue)
    → IsHonestPass (transcode_kind o) (from_encoding o) (to_encoding o) g source bytes (both_listed first second) → AreOfCoreTypes (number_types from64 to64 first second) results
    → AreOfCoreTypes (transcode_types (transcode_kind o) from64 to64) results
numbers_typed o g source bytes from64 to64 first second results h typed =
    subst (λ ts. AreOfCoreTypes ts results) (of_kind (transcode_kind o) (from_encoding o) (to_encoding o) g h.text from64 to64 first second h.answers) typed

abbrev pub TranscodesAs : Told → Known → Transcode → (from : ℕ) → (from64 : Bool) → (to : ℕ) → (to64 : Bool) → Event → Known → Type 0
TranscodesAs t k o from from64 to to64 e k' =
    AnswersBy (MustStop o (memory_at e.before from) (memory_at e.before to) t)
    (λ after rs j. (bytes : List ℕ) × IsHonestlyMade o (memory_at e.before from) (memory_at e.before to) t bytes (map bits_of rs)
    × AreWrittenBytes bytes × AreOfCoreTypes (transcode_types (transcode_kind o) from64 to64) rs × (after ≡ with_memory_at e.before to (put_at (memory_at e.before to) t.to bytes)) × (j ≡ k)) k e k'

-- what a transcoder is told, as it was read
pub told_is : (t : Told) (e : Event) → t.from ≡ nth_number e.args 0 → t.units ≡ nth_number e.args 1 → t.to ≡ nth_number e.args 2 → t.room ≡ nth_number e.args 3 → t.latin1 ≡ nth_number e.args 4 → t ≡ told_of e
told_is t e from units to room latin1 = λ i. record { from = from i; units = units i; to = to i; room = room i; latin1 = latin1 i }

pub as_told : (t : Told) (k : Known) (o : Transcode) (from : ℕ) (from64 : Bool) (to : ℕ) (to64 : Bool) (e : Event) (k' : Known) → t ≡ told_of e → TranscodesAs t k o from from64 to to64 e k' → TranscodesBy k o from from64 to to64 e k'
as_told t k o from from64 to to64 e k' is h = subst (λ z. TranscodesAs z k o from from64 to to64 e k') is h

pub transcodes_stop : (t : Told) (k : Known) (o : Transcode) (from : ℕ) (from64 : Bool) (to : ℕ) (to64 : Bool) (e : Event) → e.answer ≡ Traps → MustStop o (memory_at e.before from) (memory_at e.before to) t → TranscodesAs t k o from from64 to to64 e k
transcodes_stop t k o from from64 to to64 e is must = by_trap k k e is must

pub transcodes_made : (t : Told) (k : Known) (o : Transcode) (from : ℕ) (from64 : Bool) (to : ℕ) (to64 : Bool) (e : Event) (bytes : List ℕ) (first second : Option ℕ) (results : List CoreValue) (state : MachineState)
    → e.answer ≡ Returns results state → IsTranscodedByHost o (memory_at e.before from) (memory_at e.before to) t bytes (both_listed first second) → map bits_of results ≡ both_listed first second
    → AreOfCoreTypes (number_types from64 to64 first second) results → state ≡ with_memory_at e.before to (put_at (memory_at e.before to) t.to bytes) → TranscodesAs t k o from from64 to to64 e k
transcodes_made t k o from from64 to to64 e bytes first second results state is made bits typed left =
    by_return k k e results state is made.goes_on
    (bytes, subst (λ z. IsHonestlyMade o (memory_at e.before from) (memory_at e.before to) t bytes z) (sym bits) made.honest, made.are_bytes, numbers_typed o _ _ bytes from64 to64 first second results made.honest typed, left, refl)

-- ---- numbers of arguments

pub nth_there : (vs : List CoreValue) (i : ℕ) (v : CoreValue) → slice_get vs i ≡ Some v → bits_of v ≡ nth_number vs i
nth_there [] i v e = cc
nth_there (u ∷ vs) zero v e = let same : u ≡ v = cc in ap bits_of (sym same)
nth_there (u ∷ vs) (suc i) v e = nth_there vs i v e

pub nth_none : (vs : List CoreValue) (i : ℕ) → slice_get vs i ≡ None → 0 ≡ nth_number vs i
nth_none [] i e = refl
nth_none (u ∷ vs) zero e = cc
nth_none (u ∷ vs) (suc i) e = nth_none vs i e

-- ---- answers by roles

module _ {E : Type 0} (r : Result Answer E) (k k' : Known) (c : HostCall) (role : Role) where
  -- what is answered, if anything, by the rules
  abbrev pub AnswersSo : (args : List CoreValue) → MachineState → Type 0
  AnswersSo args state = IfOk r (λ answer. (func : ℕ) (s : CallShapes) (values : Option (List Value)) → Answers c s values role k (event_by func args state answer) k')

module _ {E : Type 0} where
  pub lift_answers : (r : Result Answer E) (k k' : Known) (c : HostCall) (role : Role) (b : Bool) (args : List CoreValue) (state : MachineState) → role ≡ of.LiftRealloc → b ≡ not k.returned
      → IfOk r (λ answer. (func : ℕ) → ReallocsBy k c.lift b (event_by func args state answer) k') → AnswersSo r k k' c role args state
  lift_answers (Ok answer) k k' c role b args state is same h = λ func s values. subst (λ x. Answers c s values x k (event_by func args state answer) k') (sym is) (to_lift k k' c.lift b (event_by func args state answer) same (h func))
  lift_answers (Err error) k k' c role b args state is same h = tt

  pub lower_answers : (r : Result Answer E) (k k' : Known) (c : HostCall) (role : Role) (args : List CoreValue) (state : MachineState) → role ≡ of.LowerRealloc
      → IfOk r (λ answer. (func : ℕ) → ReallocsBy k c.lower k.returned (event_by func args state answer) k') → AnswersSo r k k' c role args state
  lower_answers (Ok answer) k k' c role args state is h = λ func s values. subst (λ x. Answers c s values x k (event_by func args state answer) k') (sym is) (h func)
  lower_answers (Err error) k k' c role args state is h = tt

  pub transcoder_answers : (r : Result Answer E) (k : Known) (c : HostCall) (role : Role) (o : Transcode) (from : ℕ) (from64 : Bool) (to : ℕ) (to64 : Bool) (args : List CoreValue) (state : MachineState) → role ≡ of.Transcoder o from from64 to to64
      → IfOk r (λ answer. (func : ℕ) (known : Known) → TranscodesBy known o from from64 to to64 (event_by func args state answer) known) → AnswersSo r k k c role args state
  transcoder_answers (Ok answer) k c role o from from64 to to64 args state is h = λ func s values. subst (λ x. Answers c s values x k (event_by func args state answer) k) (sym is) (h func k)
  transcoder_answers (Err error) k c role o from from64 to to64 args state is h = tt
