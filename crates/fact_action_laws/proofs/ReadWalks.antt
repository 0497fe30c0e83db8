-- A walk along the path of a text that stands at its source reads whole texts.
use Rattle.std.proofs.Common.{◌≡◌, ℕ, ◌*◌, inl, inr, List, [], ◌∷◌, ◌++◌, Some, sym, ap, ◌∙◌, subst}
use Rattle.std.specs.Prelude.{slice_get}
use Rattle.std.proofs.lemmas.Option.{get_or_from_slice_get}
use Rattle.fact_types.proofs.ShapeLaws.{same_some}
use Rattle.fact_machine.specs.World.{World, Stop, Trap, Throw, Lack}
use Rattle.fact_machine.specs.declared.types.Answer.{Answer}
use Rattle.fact_machine.specs.declared.types.MachineState.{MachineState}
use Rattle.fact_values.specs.Texts.{unit_bytes}
use Rattle.fact_actions.specs.Paths.{TextForm, path}
use Rattle.fact_actions.specs.Regions.{Region, moved_on, without}
use Rattle.fact_actions.specs.Running.{Call, Ended, Gave, Halted, Strayed, run}
use Rattle.fact_actions.specs.Strings.{PathPoint, path_start, walk}
use Rattle.fact_action_laws.specs.HonestMoves.{AreHonestCalls}
use Rattle.fact_action_laws.specs.Regions.{TransferSetting, regions_after, regions_by}
use Rattle.fact_action_laws.specs.ReadTexts.{ReadTexts}
use Rattle.fact_action_laws.specs.Trapped.{AreHonestUntilTrap}
use Rattle.fact_action_laws.proofs.AllPaths.{path_leads}
use Rattle.fact_action_laws.proofs.Answered.{IsAnswerHonest, AreAnswersHonest}
use Rattle.fact_action_laws.proofs.Asking.{HasBytesOf}
use Rattle.fact_action_laws.proofs.Beginning.{no_region, units_at, length_units, known_first}
use Rattle.fact_action_laws.proofs.Equipped.{IsEquipped}
use Rattle.fact_action_laws.proofs.Fine.{HasKnownSides}
use Rattle.fact_action_laws.proofs.ForTypes.{equipped}
use Rattle.fact_action_laws.proofs.Invariant.{SourceSpells}
use Rattle.fact_action_laws.proofs.PartTexts.{TextStands, IsTextThere}
use Rattle.fact_action_laws.proofs.ReadRuns.{IsSet, ReadsEnd, Reads}
use Rattle.fact_action_laws.proofs.Reading.{unit_aligned}
use Rattle.fact_action_laws.proofs.Spelled.{form_encoding}
use Rattle.fact_action_laws.proofs.Stages.{beginning, Moved}
use Rattle.fact_action_laws.proofs.States.{from_bytes, to_bytes, There, from_are, there_of}
use Rattle.fact_action_laws.proofs.TextLaw.{own_steps}
use Rattle.fact_action_laws.proofs.Trails.{MayEnd, Judged, Walks, walks_more}
use Rattle.fact_action_laws.proofs.Walked.{honest_calls}
use Rattle.fact_action_laws.proofs.Walking.{reads_in, few_calls, WalkReached, walks_path}

-- ---- calls that are honest until a trap

honest_join : (c : TransferSetting) (gs : List Region) (cs ds : List Call) → AreAnswersHonest (Unit {0}) c gs cs → AreAnswersHonest (Unit {0}) c (regions_after gs cs) ds → AreAnswersHonest (Unit {0}) c gs (cs ++ ds)
honest_join c gs [] ds h k = k
honest_join c gs (x ∷ cs) ds h k = (h.0, honest_join c (regions_by x.what x.args x.answer gs) cs ds h.1 k)

-- a trap is the last of them
until_calls : (c : TransferSetting) (gs : List Region) (cs : List Call) → AreHonestUntilTrap (AreHonestCalls c gs) cs → AreAnswersHonest (Unit {0}) c gs cs
until_calls c gs cs (inl h) = honest_calls c gs cs h
until_calls c gs cs (inr t) =
    subst (AreAnswersHonest (Unit {0}) c gs) (sym t.calls_are)
    (honest_join c gs t.front (t.last ∷ []) (honest_calls c gs t.front t.front_honest) (subst (λ (a : Answer). IsAnswerHonest (Unit {0}) c (regions_after gs t.front) t.last.what t.last.args t.last.before a) (sym t.last_traps) tt, tt))

-- ---- a text

module _ (c : TransferSetting) (known : HasKnownSides c) (form : TextForm) (p n : ℕ) (text : IsTextThere c form p n) where
  abbrev e : IsEquipped c
  e = equipped c text.supplied known.from known.to

  there_so : (s : MachineState) → IsSet c known s → There e s
  there_so s set = there_of e s (set.there.from.at e.from e.from_is) (set.there.to.at e.to e.to_is)

  source_so : (s : MachineState) → IsSet c known s → from_bytes e s ≡ c.source
  source_so s set = from_are e s ∙ get_or_from_slice_get s.memories (c.places.memory e.from.def) c.source [] (subst (HasBytesOf c.places s c.source) e.from_is set.bytes)

  -- both memories are there
  set_so : (s : MachineState) → There e s → from_bytes e s ≡ c.source → IsSet c known s
  set_so s there same = record {
    bytes = subst (HasBytesOf c.places s c.source) (sym e.from_is) (there.from ∙ ap (λ l. Some l) same);
    there = record {
      from = record { at = λ m is. (from_bytes e s, subst (λ x. slice_get s.memories (c.places.memory x.def) ≡ Some (from_bytes e s)) (same_some c.transfer.from.memory e.from m e.from_is is) there.from) };
      to = record { at = λ m is. (to_bytes e s, subst (λ x. slice_get s.memories (c.places.memory x.def) ≡ Some (to_bytes e s)) (same_some c.transfer.to.memory e.to m e.to_is is) there.to) };
    };
  }

  module _ (gs : List Region) (w : World) (set : IsSet c known w.state) where
    abbrev size : ℕ
    size = unit_bytes (form_encoding form) * n

    abbrev Text : Type 0
    Text = SourceSpells (form_encoding form) p size (from_bytes e w.state)

    abbrev Arrives : List Region → PathPoint → World → Type 0
    Arrives live v w1 = WalkReached e (Unit {0}) ⊥ (λ k. tt) (form_encoding form) n p size (without (no_region c.transfer.to.encoding) gs) (to_bytes e w.state) (from_bytes e w.state) (λ us st. Unit {0} → Moved (form_encoding form) c.transfer.to.encoding us st) live v w1

    stands : TextStands (from_bytes e w.state) form p n
    stands = subst (λ b. TextStands b form p n) (sym (source_so w.state set)) text.stands

    spelled : Text
    spelled = (stands.text, stands.spells)

    walks : Walks c moved_on (Unit {0}) ⊥ Text 29 gs Arrives (walk c.transfer (path form c.transfer.to.encoding) (path_start p n)) w
    walks =
        walks_more (few_calls form c.transfer.to.encoding) (λ rs v w1 h. h)
        (walks_path e (Unit {0}) ⊥ (λ k. tt) (form_encoding form) n p size (without (no_region c.transfer.to.encoding) gs) (to_bytes e w.state) (from_bytes e w.state) (own_steps c) (path form c.transfer.to.encoding) gs
        (units_at e (Unit {0}) ⊥ (λ k. tt) (form_encoding form) n p gs w.state) beginning (path_start p n) w
        (λ us st. Unit {0} → Moved (form_encoding form) c.transfer.to.encoding us st) (reads_in form c.transfer.to.encoding)
        (path_leads (Unit {0}) ⊥ n _ form c.transfer.to.encoding (λ g. absurd g) (length_units e (Unit {0}) ⊥ (λ k. tt) (form_encoding form) n p gs w.state stands.inside))
        (known_first e (Unit {0}) ⊥ (λ k. tt) (form_encoding form) n p gs w.state (there_so w.state set) (unit_aligned form p stands.aligned) stands.inside))

    stops : (s : Stop) (cs : List Call) → MayEnd c moved_on (Unit {0}) ⊥ Text 29 gs s cs → ReadTexts c.places cs
    stops Trap cs h = h.1 tt spelled
    stops Throw cs h = absurd (h.1 tt)
    stops Lack cs h = h.reads tt spelled

    read_to_end : (d : Ended PathPoint) → Judged c moved_on (Unit {0}) ⊥ Text 29 gs Arrives d → ReadsEnd c known gs d
    read_to_end (Gave m cs v w1) j = λ o. let k = j (honest_calls c gs cs o) in (k.1.reads tt spelled, set_so w1.state k.2.inv.there (k.2.inv.same tt ∙ source_so w.state set))
    read_to_end (Halted m cs s w1) j = λ o. stops s cs (j (until_calls c gs cs o))
    read_to_end (Strayed m cs w1) j = tt

  pub walk_reads : Reads c known (walk c.transfer (path form c.transfer.to.encoding) (path_start p n))
  walk_reads = record { by = λ gs w set. read_to_end gs w set (run c.places (walk c.transfer (path form c.transfer.to.encoding) (path_start p n)) w) (walks gs w set).judged }
