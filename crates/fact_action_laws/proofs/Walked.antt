-- Where a walk begins, and what it leaves behind where all answers are honest.
use Rattle.std.proofs.Common.{◌≡◌, ℕ, ◌+◌, ◌*◌, ◌^◌, ◌≤◌, ◌<◌, inl, inr, List, [], ◌∷◌, length, take, drop, Some, sym, ap, ◌∙◌, subst, arith}
use Rattle.fact_types.specs.declared.outside.FixedEncoding.{FixedEncoding}
use Rattle.fact_types.specs.declared.outside.StringEncoding.{StringEncoding}
use Rattle.fact_types.specs.declared.outside.StringEncoding.TheVariants as string
use Rattle.fact_types.proofs.ShapeLaws.{same_some}
use Rattle.fact_machine.specs.declared.types.CoreValue.{CoreValue}
use Rattle.fact_machine.specs.declared.types.MachineState.{MachineState}
use Rattle.fact_machine.specs.declared.types.Answer.{Answer}
use Rattle.fact_machine.specs.declared.types.Answer.TheVariants.{Returns, Traps, Throws}
use Rattle.fact_machine.specs.World.{World}
use Rattle.fact_types.specs.declared.import.Import.{Import}
use Rattle.fact_types.specs.declared.import.Import.TheVariants as import
use Rattle.fact_actions.specs.Actions.{Action}
use Rattle.fact_actions.specs.Paths.{align_of}
use Rattle.fact_actions.specs.Running.{Call, Ended, Gave, Halted, Strayed, run}
use Rattle.fact_actions.specs.Strings.{PathPoint}
use Rattle.fact_values.specs.Texts.{unit_bytes, decoded, text_at}
use Rattle.fact_action_laws.specs.Footprints.{HasPlaced}
use Rattle.fact_action_laws.specs.HonestMoves.{IsHonestResult, IsHonestAnswer, AreHonestCalls}
use Rattle.fact_actions.specs.Regions.{Region, IsIn, without, moved_on}
use Rattle.fact_action_laws.specs.Regions.{TransferSetting, IsInHand, regions_by, regions_after}
use Rattle.fact_action_laws.proofs.Equipped.{IsEquipped}
use Rattle.fact_action_laws.proofs.Answered.{IsReturnHonest, IsAnswerHonest, AreAnswersHonest}
use Rattle.fact_action_laws.proofs.Stages.{Stage, StandsAs, Moved}
use Rattle.fact_action_laws.proofs.States.{from_bytes, to_bytes}
use Rattle.fact_action_laws.proofs.Trails.{Trail, MayEnd, Judged, Walks}
use Rattle.fact_action_laws.proofs.Invariant.{StandAt}
use Rattle.fact_action_laws.proofs.Beginning.{no_region, live_stays, Known}
use Rattle.fact_action_laws.proofs.Decoded.{decodes}
use Rattle.fact_action_laws.proofs.Reading.{read_back}
use Rattle.fact_action_laws.specs.Judged.{Judged as JudgedBy, RunsHonestly}
use Rattle.fact_action_laws.proofs.Stopping.{AreReturned}
use Rattle.fact_actions.specs.Honest.{HasReturned}

-- ---- all answers are honest

honest_return : (c : TransferSetting) (gs : List Region) (i : Import) (args rs : List CoreValue) (before after : MachineState) → IsHonestResult c gs i args rs before after → IsReturnHonest (Unit {0}) c gs i args rs before after
honest_return c gs (import.Transcode o from from64 to to64) args rs before after h = λ of_from of_to. h
honest_return c gs (import.CoreDef f) args rs before after h = λ k. h
honest_return c gs import.ResourceTransferOwn args rs before after h = λ k. h
honest_return c gs import.ResourceTransferBorrow args rs before after h = λ k. h
honest_return c gs (import.PrepareCall m) args rs before after h = λ k. h
honest_return c gs (import.StartCall callback post_return) args rs before after h = λ k. h
honest_return c gs import.FutureTransfer args rs before after h = λ k. h
honest_return c gs import.StreamTransfer args rs before after h = λ k. h
honest_return c gs import.ErrorContextTransfer args rs before after h = λ k. h
honest_return c gs (import.Trap t) args rs before after h = λ k. h
honest_return c gs import.EnterSyncCall args rs before after h = λ k. h
honest_return c gs import.ExitSyncCall args rs before after h = λ k. h
honest_return c gs (import.UnsafeIntrinsic s) args rs before after h = λ k. h

honest_answer : (c : TransferSetting) (gs : List Region) (i : Import) (args : List CoreValue) (before : MachineState) (a : Answer) → IsHonestAnswer c gs i args before a → IsAnswerHonest (Unit {0}) c gs i args before a
honest_answer c gs i args before (Returns rs after) h = honest_return c gs i args rs before after h
honest_answer c gs i args before Traps h = tt
honest_answer c gs i args before Throws h = absurd h

returned_answer : (c : TransferSetting) (gs : List Region) (i : Import) (args : List CoreValue) (before : MachineState) (a : Answer) → IsHonestAnswer c gs i args before a → HasReturned (record { what = i; args = args; before = before; answer = a })
returned_answer c gs i args before (Returns rs after) h = tt
returned_answer c gs i args before Traps h = h
returned_answer c gs i args before Throws h = h

returned_calls : (c : TransferSetting) (gs : List Region) (cs : List Call) → AreHonestCalls c gs cs → AreReturned cs
returned_calls c gs [] h = tt
returned_calls c gs (x ∷ cs) h = (returned_answer c gs x.what x.args x.before x.answer h.0, returned_calls c (regions_by x.what x.args x.answer gs) cs h.1)

pub honest_calls : (c : TransferSetting) (gs : List Region) (cs : List Call) → AreHonestCalls c gs cs → AreAnswersHonest (Unit {0}) c gs cs
honest_calls c gs [] h = tt
honest_calls c gs (x ∷ cs) h = (honest_answer c gs x.what x.args x.before x.answer h.0, honest_calls c (regions_by x.what x.args x.answer gs) cs h.1)

pub does_walk : {c : TransferSetting} {Good Text : Type 0} {A : Type 0} {most : ℕ} {gs : List Region} {P : List Region → A → World → Type 0} {q : Action A} {w : World} → Walks c moved_on (Unit {0}) Good Text most gs P q w
    → RunsHonestly c gs (λ s cs. AreReturned cs × MayEnd c moved_on (Unit {0}) Good Text most gs s cs) (λ n cs a w'. (n ≡ 0) × Trail c moved_on (Unit {0}) Good Text most gs cs × P (regions_after gs cs) a w') q w
does_walk {c} {Good} {Text} {A} {most} {gs} {P} {q} {w} h = record { judged = record { by = go (run c.places q w) h.judged } }
  where
    go : (e : Ended A) → Judged c moved_on (Unit {0}) Good Text most gs P e → JudgedBy c gs (λ s cs. AreReturned cs × MayEnd c moved_on (Unit {0}) Good Text most gs s cs) (λ n cs a w'. (n ≡ 0) × Trail c moved_on (Unit {0}) Good Text most gs cs × P (regions_after gs cs) a w') e
    go (Gave n cs a w') j = λ o. j (honest_calls c gs cs o)
    go (Halted n cs s w') j = λ o. (returned_calls c gs cs o, j (honest_calls c gs cs o))
    go (Strayed n cs w') j = tt

-- ---- what is left behind

module _ {c : TransferSetting} (e : IsEquipped c) (Good : Type 0) (f : FixedEncoding) (n p : ℕ) (gs : List Region) (s : MachineState) where
  abbrev pub HonestKnown : List Region → List ℕ → Stage → PathPoint → MachineState → Type 0
  HonestKnown live us st v s1 = Known e (Unit {0}) Good (λ g. tt) f n p gs s live us st v s1

  -- the text that was moved is the one that stood at the source
  pub text_decoded : (gs1 : List Region) (us : List ℕ) (st : Stage) (v : PathPoint) (s1 : MachineState) → HonestKnown gs1 us st v s1 → (h : Moved f c.transfer.to.encoding us st) → decoded f (take (unit_bytes f * n) (drop p (from_bytes e s))) ≡ Some h.text
  text_decoded gs1 us st v s1 inv h =
      let units : us ≡ take (unit_bytes f * n) (drop p (from_bytes e s)) =
      sym inv.source ∙ ap (λ k. take k (drop v.source (from_bytes e s1))) inv.size_is ∙ ap (λ a. take (unit_bytes f * n) (drop a (from_bytes e s1))) inv.source_is ∙ ap (λ m. take (unit_bytes f * n) (drop p m)) (inv.same tt) in
      ap (decoded f) (sym units ∙ h.source.is) ∙ decodes f h.text h.source.can

module _ {c : TransferSetting} (e : IsEquipped c) (Good : Type 0) (f : FixedEncoding) (n p : ℕ) (gs : List Region) (s : MachineState) (chars : List ℕ) (is : decoded f (take (unit_bytes f * n) (drop p (from_bytes e s))) ≡ Some chars) where
  abbrev HereKnown : List Region → List ℕ → Stage → PathPoint → MachineState → Type 0
  HereKnown live us st v s1 = HonestKnown e Good f n p gs s live us st v s1

  text_is : (gs1 : List Region) (us : List ℕ) (st : Stage) (v : PathPoint) (s1 : MachineState) → HereKnown gs1 us st v s1 → (h : Moved f c.transfer.to.encoding us st) → h.text ≡ chars
  text_is gs1 us st v s1 inv h = same_some _ h.text chars (text_decoded e Good f n p gs s gs1 us st v s1 inv h) is

  pub reads_text : (gs1 : List Region) (us : List ℕ) (st : Stage) (v : PathPoint) (s1 : MachineState) (m : List ℕ) → HereKnown gs1 us st v s1 → Moved f c.transfer.to.encoding us st → v.region + st.size ≤ length m → StandAt m v.region st.have
      → text_at c.transfer.to.encoding m v.region v.written ≡ Some chars
  reads_text gs1 us st v s1 m inv h le stand =
      ap (λ w. text_at c.transfer.to.encoding m v.region w) inv.written_is ∙ read_back c.transfer.to.encoding h.text st m v.region h.stands inv.aligned le inv.long stand ∙ ap (λ t. Some t) (text_is gs1 us st v s1 inv h)

  -- the text rests on its own region
  pub text_placed : (gs1 : List Region) (us : List ℕ) (st : Stage) (v : PathPoint) (s1 : MachineState) → HereKnown gs1 us st v s1 → Moved f c.transfer.to.encoding us st
      → HasPlaced (to_bytes e s) (to_bytes e s1) (IsInHand c gs) (IsInHand c gs1) (λ j. ⊥) (λ m. text_at c.transfer.to.encoding m v.region v.written ≡ Some chars)
  text_placed gs1 us st v s1 inv h =
      let live = (inv.given h.given).live_is in
      record {
        frame = λ j l out. inv.frame tt j (live_stays c gs j l);
        grows = λ j l. subst (λ r. IsInHand c r j) (sym live) (more j (live_stays c gs j l));
        room = inv.grown;
        stands = record {
          holds = λ m a. reads_text gs1 us st v s1 m inv h (omega (arith, inv.inside, a.room))
              (λ i lt. a.same (v.region + i) (inr (own live i lt, λ l. inv.apart tt (v.region + i) (inside i lt) (live_stays c gs (v.region + i) l))) ∙ inv.stand i lt);
        };
      }
    where
      more : (j : ℕ) → IsInHand c (without (no_region c.transfer.to.encoding) gs) j → IsInHand c (record { at = v.region; size = st.size; align = align_of c.transfer.to.encoding } ∷ without (no_region c.transfer.to.encoding) gs) j
      more j (inl h) = inl (inr h)
      more j (inr h) = inr h

      inside : (i : ℕ) → i < length st.have → IsIn (record { at = v.region; size = st.size; align = align_of c.transfer.to.encoding }) (v.region + i)
      inside i lt = (omega arith, omega (arith, lt, inv.long))

      own : gs1 ≡ record { at = v.region; size = st.size; align = align_of c.transfer.to.encoding } ∷ without (no_region c.transfer.to.encoding) gs → (i : ℕ) → i < length st.have → IsInHand c gs1 (v.region + i)
      own live i lt = subst (λ r. IsInHand c r (v.region + i)) (sym live) (inl (inl (inside i lt)))

  -- the length of a text is below 2 to the power of 32
  pub written_small : (gs1 : List Region) (us : List ℕ) (st : Stage) (v : PathPoint) (s1 : MachineState) → HereKnown gs1 us st v s1 → Moved f c.transfer.to.encoding us st → v.written < 2 ^ 32
  written_small gs1 us st v s1 inv h = go c.transfer.to.encoding h.stands
    where
      go : (enc : StringEncoding) → StandsAs enc h.text st → v.written < 2 ^ 32
      go string.Utf8 k = let r = k.room in omega (arith, r, inv.small, inv.written_is)
      go string.Utf16 k = let r = k.room in omega (arith, r, inv.small, inv.written_is)
      go string.CompactUtf16 (inl k) = let r = k.1 in omega (arith, r, inv.written_is)
      go string.CompactUtf16 (inr k) = let a = k.1 in let b = k.2 in omega (arith, a, b, inv.written_is)
