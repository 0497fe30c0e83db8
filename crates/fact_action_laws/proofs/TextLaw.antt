-- The law of moves for texts.
use Rattle.std.proofs.Common.{◌≡◌, ℕ, ◌+◌, ◌*◌, ◌^◌, ◌≤◌, ◌<◌, inl, ⊎_elim, Bool, true, false, List, [], ◌∷◌, ◌++◌, length, Option, Some, None, refl, sym, ap, ◌∙◌, subst, arith}
use Rattle.std.specs.Prelude.{slice_get, option_map, get_or}
use Rattle.std.proofs.lemmas.List.{append-nil}
use Rattle.std.proofs.lemmas.Option.{get_or_from_slice_get}
use Rattle.std.proofs.Math.Nat.{mod-le}
use Rattle.fact_types.specs.declared.interface.InterfaceType.TheVariants as ty
use Rattle.fact_types.specs.declared.outside.FixedEncoding.{FixedEncoding}
use Rattle.fact_types.specs.declared.outside.Trap.TheVariants.{StringOutOfBounds}
use Rattle.fact_types.specs.FlatShapes.{pointer}
use Rattle.fact_types.specs.Layout.{extent}
use Rattle.fact_types.specs.Shapes.{s_plain, layout_of}
use Rattle.fact_types.specs.Signatures.{pointer_bytes, width}
use Rattle.fact_machine.specs.declared.types.CoreValue.{CoreValue}
use Rattle.fact_machine.specs.declared.types.MachineState.{MachineState}
use Rattle.fact_machine.specs.World.{World, Stop, Trap, Throw, Lack}
use Rattle.fact_actions.specs.Actions.{Action, Visit, ◌>>=◌}
use Rattle.fact_actions.specs.Moves.{move}
use Rattle.fact_actions.specs.Paths.{TextForm, path}
use Rattle.fact_actions.specs.Running.{ImportPlaces, Call}
use Rattle.fact_actions.specs.Sides.{LiftLowerOptions, Source, Values, AtAddress, Target, Slots, Into, width_of_side, bytes_of_addresses, wrap, write_pair}
use Rattle.fact_types.specs.declared.outside.MemoryOption.{MemoryOption}
use Rattle.fact_types.specs.Adapters.{is_wide}
use Rattle.fact_machine.specs.Typing.{address_bits}
use Rattle.fact_actions.specs.Strings.{PathPoint, path_start, form_in, check_text, walk, move_string}
use Rattle.fact_values.specs.Texts.{unit_bytes, Form, form_of, byte_length, text_of_form, text_at}
use Rattle.fact_values.specs.declared.value.Value.{Value, out-Value}
use Rattle.fact_values.specs.declared.value.Value.TheVariants as value
use Rattle.fact_values.specs.Canonical.{IsCanonicalAt, IsCanonicalFlat, ThereIs, IsCanonicalByte, AreNarrow}
use Rattle.fact_values.specs.Carry.{take_number}
use Rattle.fact_values.specs.Handles.{Crossing, cross}
use Rattle.fact_values.specs.Lift.{lift_leading, number_as, leading_pair}
use Rattle.fact_values.specs.Limits.{IsFewUnits, IsTextWithin, IsWithinLimits, IsWithinAt, most_units}
use Rattle.fact_values.specs.Load.{load, text_value}
use Rattle.fact_types.specs.Options.{◌>>=◌ as and_then}
use Rattle.fact_values.specs.Numbers.{text, number_in}
use Rattle.fact_values.specs.Places.{Pair, pair_at}
use Rattle.fact_values.specs.Weight.{weight}
use Rattle.fact_action_laws.specs.Footprints.{HasPlaced}
use Rattle.fact_action_laws.specs.Items.{TextItem, chars_in, of_some, items, crossing, crossings, number_if, numbers, AreItemCalls, BeginItemCalls}
use Rattle.fact_action_laws.specs.MoveTerms.{moving, IsFit, IsMoved, MayStop}
use Rattle.fact_action_laws.specs.Places.{from_side, to_side, value_at_source, IsSource, IsTarget, IsAtTarget, StandsAtTarget, HoldsMemories, IsGrounded}
use Rattle.fact_actions.specs.Regions.{Region, without, moved_on}
use Rattle.fact_action_laws.specs.Regions.{TransferSetting, IsInHand, regions_after}
use Rattle.fact_action_laws.proofs.Bytes.{number_within, number_tells}
use Rattle.fact_action_laws.proofs.Judges.{does_bind, does_more, does_visit}
use Rattle.fact_action_laws.proofs.Numbers.{flat_bound}
use Rattle.fact_action_laws.proofs.Pairs.{pair_taken, reads_pair, IsPairAt, does_write_pair, address_bound}
use Rattle.fact_action_laws.proofs.Placing.{leaves_wider, leaves_then}
use Rattle.fact_action_laws.proofs.Plain.{both, does_aligned}
use Rattle.fact_action_laws.proofs.Products.{mapped}
use Rattle.fact_action_laws.proofs.NewRegions.{does_check}
use Rattle.fact_action_laws.proofs.Stopping.{AreReturned}
use Rattle.fact_action_laws.proofs.Sums.{target_later}
use Rattle.fact_action_laws.proofs.Targets.{at_live}
use Rattle.fact_action_laws.proofs.Telling.{told_one}
use Rattle.fact_action_laws.proofs.Equipped.{IsEquipped}
use Rattle.fact_action_laws.proofs.AllPaths.{path_leads}
use Rattle.fact_action_laws.proofs.Reading.{unit_aligned, form_is, TextRead, text_read}
use Rattle.fact_action_laws.proofs.Invariant.{SourceSpells}
use Rattle.fact_action_laws.proofs.Stages.{Moved}
use Rattle.fact_action_laws.proofs.States.{from_bytes, to_bytes, There}
use Rattle.fact_action_laws.proofs.Trails.{Trail, MayEnd, walks_more}
use Rattle.fact_action_laws.proofs.Walked.{does_walk, text_placed, written_small}
use Rattle.fact_action_laws.proofs.Beginning.{no_region, units_at, length_units, known_first}
use Rattle.fact_action_laws.proofs.Answered.{MovesAlong}
use Rattle.fact_action_laws.proofs.Walking.{reads_in, few_calls, WalkReached, walks_path}
use Rattle.fact_action_laws.proofs.Spelled.{form_align, form_encoding, in_form}
use Rattle.fact_action_laws.specs.Judged.{RunsHonestly}
use Rattle.fact_action_laws.specs.MoveLaws.{IsLawfulMove}

-- ---- texts at sources

pub record TextTaken (c : TransferSetting) (s : Source) (v : Value) : Type 0 where
  pub pair : Pair
  pub at : pair_taken c s ≡ Some pair
  pub chars : List ℕ
  pub there : text_at c.transfer.from.encoding c.source pair.pointer pair.count ≡ Some chars
  pub is : value.Str chars ≡ v

text_from : (c : TransferSetting) (s : Source) (v : Value) (o : Option Pair) → pair_taken c s ≡ o → and_then o (λ q. text_value (from_side c) c.source q) ≡ Some v → TextTaken c s v
text_from c s v o at h =
    let b = both o (λ q. text_value (from_side c) c.source q) v h in
    let m = mapped (text_at c.transfer.from.encoding c.source b.mid.pointer b.mid.count) (λ cs. value.Str cs) v b.last in
    record { pair = b.mid; at = at ∙ b.first; chars = m.mid; there = m.first; is = m.is }

pub text_taken : (c : TransferSetting) (s : Source) (v : Value) → value_at_source c (s_plain ty.String) s ≡ Some v → TextTaken c s v
unfolding load lift_leading
text_taken c (Values vs) v h = text_from c (Values vs) v (leading_pair (from_side c) vs) refl h
text_taken c (AtAddress a) v h = text_from c (AtAddress a) v (pair_at (from_side c) c.source a) refl h

text_fit : (c : TransferSetting) (s : Source) (q : Pair) → pair_taken c s ≡ Some q → IsFit c (s_plain ty.String) (s_plain ty.String) s → IsFewUnits (moving c) (form_of c.transfer.from.encoding q.count)
unfolding IsWithinLimits IsWithinAt
text_fit c (Values vs) q at fit = subst (λ o. ThereIs o (IsTextWithin (moving c))) at fit
text_fit c (AtAddress a) q at fit = subst (λ o. ThereIs o (IsTextWithin (moving c))) at fit

-- ---- texts at targets

pub string_size : (o : LiftLowerOptions) → (extent (width_of_side o) (layout_of (s_plain ty.String))).size ≡ 2 * bytes_of_addresses o
string_size o = go (is_wide o.memory)
  where
    go : (b : Bool) → (extent (width b) (layout_of (s_plain ty.String))).size ≡ 2 * pointer_bytes (width b)
    go true = refl
    go false = refl

pair_bytes : (o : LiftLowerOptions) → (extent (width_of_side o) (layout_of (s_plain ty.String))).size ≡ pointer_bytes (width_of_side o) + pointer_bytes (width_of_side o)
pair_bytes o = go (is_wide o.memory)
  where
    go : (b : Bool) → (extent (width b) (layout_of (s_plain ty.String))).size ≡ pointer_bytes (width b) + pointer_bytes (width b)
    go true = refl
    go false = refl

text_stands : (c : TransferSetting) (chars : List ℕ) (q n : ℕ) (d : Target) (us : List CoreValue) (b : List ℕ) → text_at c.transfer.to.encoding b q n ≡ Some chars → IsPairAt c q n d us b → StandsAtTarget c (s_plain ty.String) (value.Str chars) d us b
unfolding load lift_leading IsCanonicalAt IsCanonicalFlat
text_stands c chars q n (Into a) us b t h =
    let k = pointer_bytes (width_of_side c.transfer.to) in
    let first = both (number_in b k a) _ _ h in
    let second = both (number_in b k (a + k)) _ _ first.last in
    let le : a + (k + k) ≤ length b = (let w = (number_tells b k (a + k) second.mid second.first).within in omega (arith, w)) in (
      ap (λ o. and_then o (λ q. text_value (to_side c) b q)) h ∙ ap (option_map (λ cs. value.Str cs)) t,
      subst (λ z. ThereIs (number_in b z a) (IsCanonicalByte text)) (sym (pair_bytes c.transfer.to)) (subst (λ o. ThereIs o (IsCanonicalByte text)) (sym (number_within b (k + k) a le)) tt),
    )
text_stands c chars q n (Slots ts) us b t h =
    let f = pointer (width_of_side c.transfer.to) in
    let is : leading_pair (to_side c) us ≡ Some (record { pointer = q; count = n }) = ap (leading_pair (to_side c)) h.2 ∙ ap (λ p. Some (record { pointer = p; count = number_as f h.1 })) h.4 ∙ ap (λ k. Some (record { pointer = q; count = k })) h.6 in (
      ap (λ o. and_then o (λ q. text_value (to_side c) b q)) is ∙ ap (option_map (λ cs. value.Str cs)) t,
      (subst (AreNarrow (f ∷ f ∷ [])) (sym h.2) (h.3 ∙ sym h.4, (h.5 ∙ sym h.6, tt)), tt),
    )

-- ---- what a text calls for

pub chars_of : (chars : List ℕ) → chars_in (out-Value (value.Str chars)) ≡ Some chars
chars_of chars = ap chars_in (value.outs-Str chars)

text_items : (c : TransferSetting) (chars : List ℕ) → items (to_side c) (s_plain ty.String) (s_plain ty.String) (value.Str chars) ≡ TextItem chars ∷ []
unfolding items
text_items c chars = ap (λ o. of_some o (λ cs. TextItem cs ∷ [])) (chars_of chars)

text_crosses : (v : Value) (ns : List ℕ) → cross take_number (s_plain ty.String) (s_plain ty.String) v ns ≡ Some (v, ns)
unfolding cross
text_crosses v ns = refl

text_weighs : (v : Value) → weight (s_plain ty.String) v ≡ 1
unfolding weight
text_weighs v = refl

-- calls that move no handles answer no numbers
numbers_none : (cs : List Call) → crossings cs ≡ [] → numbers cs ≡ []
numbers_none [] h = refl
numbers_none (x ∷ cs) h = go (crossing x.what x.args) h (numbers_none cs)
  where
    go : (l : List Crossing) → l ++ crossings cs ≡ [] → (crossings cs ≡ [] → numbers cs ≡ []) → number_if l x.answer ++ numbers cs ≡ []
    go [] h f = f h
    go (y ∷ ys) h f = absurd (let l = ap length h in omega (arith, l))

-- ---- memories

-- a memory that has these bytes, and one that is there
abbrev TestHolds : ImportPlaces → MachineState → List ℕ → Option MemoryOption → Type 0
TestHolds p state bytes o = elim o [ None ↦ bytes ≡ [] | Some k ↦ slice_get state.memories (p.memory k.def) ≡ Some bytes ]

abbrev pub SideIsThere : Option MemoryOption → Type 0
SideIsThere o = elim o [ None ↦ ⊥ | Some k ↦ Unit {0} ]

module _ {c : TransferSetting} (e : IsEquipped c) (m : List ℕ) (w : World) (ready : HoldsMemories c m w) where
  from_there : slice_get w.state.memories (c.places.memory e.from.def) ≡ Some c.source
  from_there = subst (TestHolds c.places w.state c.source) e.from_is ready.from

  to_there : slice_get w.state.memories (c.places.memory e.to.def) ≡ Some m
  to_there = subst (TestHolds c.places w.state m) e.to_is ready.to

  pub source_bytes : from_bytes e w.state ≡ c.source
  source_bytes = ap (λ o. elim o [ None ↦ [] | Some k ↦ get_or w.state.memories (c.places.memory k.def) [] ]) e.from_is ∙ get_or_from_slice_get w.state.memories (c.places.memory e.from.def) c.source [] from_there

  pub target_bytes : to_bytes e w.state ≡ m
  target_bytes = ap (λ o. elim o [ None ↦ [] | Some k ↦ get_or w.state.memories (c.places.memory k.def) [] ]) e.to_is ∙ get_or_from_slice_get w.state.memories (c.places.memory e.to.def) m [] to_there

  pub both_there : There e w.state
  both_there = record { from = from_there ∙ ap (λ l. Some l) (sym source_bytes); to = to_there ∙ ap (λ l. Some l) (sym target_bytes) }

pub ready_of : {c : TransferSetting} (e : IsEquipped c) (w : World) → There e w.state → from_bytes e w.state ≡ c.source → HoldsMemories c (to_bytes e w.state) w
ready_of {c} e w there same = record {
  from = subst (TestHolds c.places w.state c.source) (sym e.from_is) (there.from ∙ ap (λ l. Some l) same);
  to = subst (TestHolds c.places w.state (to_bytes e w.state)) (sym e.to_is) there.to;
}

-- the bytes of units
pub turned_bytes : (e : FixedEncoding) (units : ℕ) → units * unit_bytes e ≡ unit_bytes e * units
turned_bytes e units = omega arith

-- ---- the law

-- a transfer alone
pub own_steps : (c : TransferSetting) → MovesAlong c moved_on
own_steps c = record { by_other = λ k x apart. refl; by_realloc = λ k x f is e. refl }

module _ {c : TransferSetting} (g : IsGrounded c) (e : IsEquipped c) (s : Source) (d : Target) (chars : List ℕ) (gs : List Region) (w : World) (m : List ℕ) (ready : HoldsMemories c m w)
    (target : IsTarget c (pointer (width (is_wide c.transfer.to.memory)) ∷ pointer (width (is_wide c.transfer.to.memory)) ∷ []) (2 * bytes_of_addresses c.transfer.to) (IsInHand c gs) m d) where
  abbrev Fit : Type 0
  Fit = IsFit c (s_plain ty.String) (s_plain ty.String) s

  abbrev Stopped : Stop → List Call → Type 0
  Stopped t cs = MayStop Fit (items (to_side c) (s_plain ty.String) (s_plain ty.String) (value.Str chars)) t cs

  abbrev Ended : ℕ → List Call → List CoreValue → World → Type 0
  Ended n cs vs w' = IsMoved c gs m (s_plain ty.String) (s_plain ty.String) d (value.Str chars) (1 + n) cs vs w'

  text_begun : (cs : List Call) → crossings cs ≡ [] → length cs ≤ 29 → Stopped Lack cs
  text_begun cs quiet few = subst (λ is. BeginItemCalls is cs) (sym (text_items c chars)) (inl (record { crosses = quiet; few = few }))

  stops : (Text : Type 0) (gs1 : List Region) (t : Stop) (cs : List Call) → AreReturned cs × MayEnd c moved_on (Unit {0}) Fit Text 29 gs1 t cs → Stopped t cs
  stops Text gs1 Trap cs h = h.1.2 h.0
  stops Text gs1 Throw cs h = absurd (h.1.1 tt)
  stops Text gs1 Lack cs h = text_begun cs h.1.crosses h.1.few

  -- where the walk has ended, the pointer and the length are written
  module _ (form : TextForm) (p units : ℕ) (there : There e w.state) (read : TextRead (from_bytes e w.state) p (form_encoding form) (form_align form) units chars) where
    abbrev Walked : List Region → PathPoint → World → Type 0
    Walked live v w1 = WalkReached e (Unit {0}) Fit (λ k. tt) (form_encoding form) units p (unit_bytes (form_encoding form) * units) (without (no_region c.transfer.to.encoding) gs) (to_bytes e w.state) (from_bytes e w.state) (λ us st. Unit {0} → Moved (form_encoding form) c.transfer.to.encoding us st) live v w1

    abbrev SourceText : Type 0
    SourceText = SourceSpells (form_encoding form) p (unit_bytes (form_encoding form) * units) (from_bytes e w.state)

    written : (n : ℕ) (cs : List Call) (v : PathPoint) (w1 : World) → n ≡ 0 → Trail c moved_on (Unit {0}) Fit SourceText 29 gs cs → Walked (regions_after gs cs) v w1
        → RunsHonestly c (regions_after gs cs) (λ t ds. Stopped t (cs ++ ds)) (λ k ds us w2. Ended (n + k) (cs ++ ds) us w2) (write_pair c.transfer.to d v.region v.written) w1
    written n cs v w1 weightless trail r =
        let now = to_bytes e w1.state in
        let moved = r.holds tt in
        let placed = subst (λ b. HasPlaced b now (IsInHand c gs) (IsInHand c (regions_after gs cs)) (λ j. ⊥) (λ b. text_at c.transfer.to.encoding b v.region v.written ≡ Some chars)) (target_bytes e m w ready)
        (text_placed e Fit (form_encoding form) units p gs w.state chars read.is (regions_after gs cs) r.us r.stage v w1.state r.inv moved) in
        let ready1 = ready_of e w1 r.inv.there (r.inv.same tt ∙ source_bytes e m w ready) in
        let fs = pointer (width (is_wide c.transfer.to.memory)) ∷ pointer (width (is_wide c.transfer.to.memory)) ∷ [] in
        let small = written_small e Fit (form_encoding form) units p gs w.state chars read.is (regions_after gs cs) r.us r.stage v w1.state r.inv moved in
        does_more (λ t ds o h. absurd h)
        (λ k ds us w2 o z.
        let all : cs ++ ds ≡ cs = ap (λ l. cs ++ l) z.quiet ∙ append-nil cs in
        record {
          out = value.Str chars;
          carried = record {
            crosses = λ rest. text_crosses (value.Str chars) (numbers (cs ++ ds) ++ rest) ∙ ap (λ l. Some (value.Str chars, l ++ rest)) (ap numbers all ∙ numbers_none cs trail.crosses);
            told = subst (λ is. AreItemCalls is (cs ++ ds)) (sym (text_items c chars)) (subst (AreItemCalls (TextItem chars ∷ [])) (sym all) (told_one (TextItem chars) cs (record { crosses = trail.crosses; few = trail.few })));
            weighs = omega (arith, weightless, z.weightless, text_weighs (value.Str chars));
          };
          given = z.given;
          leaves = leaves_wider (λ j. ⊎_elim (λ h. absurd h) (λ h. subst (λ k. IsAtTarget k d j) (sym (string_size c.transfer.to)) h)) (λ b h. text_stands c chars v.region v.written d us b h.0 h.1)
              (leaves_then (λ j h k. h) (λ j h. absurd h) (λ j h. at_live c fs (2 * bytes_of_addresses c.transfer.to) (IsInHand c gs) m d target j h) (record { now = now; ready = ready1; placed = placed }) z.leaves);
        })
        (does_write_pair {H = λ t ds. ⊥} g v.region v.written d now w1 ready1
        (target_later c fs (2 * bytes_of_addresses c.transfer.to) (IsInHand c gs) (IsInHand c (regions_after gs cs)) m now d placed.room placed.grows target)
        (subst (λ b. v.region < b) (address_bound (is_wide c.transfer.to.memory)) r.inv.below)
        (wide_enough (is_wide c.transfer.to.memory) small))
      where
        wide_enough : (b : Bool) → v.written < 2 ^ 32 → v.written < flat_bound (pointer (width b))
        wide_enough true h = omega (arith, h)
        wide_enough false h = h

    moved_text : (Fit → units ≤ most_units (form_encoding form) c.transfer.to.encoding) → RunsHonestly c gs Stopped Ended (check_text c.transfer.from (in_form form units) p (walk c.transfer (path form c.transfer.to.encoding) (path_start p units) >>= (λ v. write_pair c.transfer.to d v.region v.written))) w
    moved_text fits =
        let from = from_bytes e w.state in
        let bytes = wrap c.transfer.from (byte_length (in_form form units)) in
        does_check c.transfer.from c.transfer.from.memory StringOutOfBounds p bytes (form_align form) (walk c.transfer (path form c.transfer.to.encoding) (path_start p units) >>= (λ v. write_pair c.transfer.to d v.region v.written)) w c.source
        (subst SideIsThere (sym e.from_is) tt) ready.from read.aligned
        (subst (λ l. p + bytes ≤ length l) (source_bytes e m w ready) (let le = mod-le (byte_length (in_form form units)) (2 ^ address_bits (is_wide c.transfer.from.memory)) in let within = read.inside in let turned = turned_bytes (form_encoding form) units in omega (arith, le, within, turned)))
        (does_bind (walk c.transfer (path form c.transfer.to.encoding) (path_start p units)) (λ v. write_pair c.transfer.to d v.region v.written) w
        (does_walk (walks_more (few_calls form c.transfer.to.encoding) (λ rs v w1 h. h)
        (walks_path e (Unit {0}) Fit (λ k. tt) (form_encoding form) units p (unit_bytes (form_encoding form) * units) _ (to_bytes e w.state) from (own_steps c) (path form c.transfer.to.encoding) gs (units_at e (Unit {0}) Fit (λ k. tt) (form_encoding form) units p gs w.state) _ (path_start p units) w
        (λ us st. Unit {0} → Moved (form_encoding form) c.transfer.to.encoding us st) (reads_in form c.transfer.to.encoding)
        (path_leads (Unit {0}) Fit units _ form c.transfer.to.encoding fits (length_units e (Unit {0}) Fit (λ k. tt) (form_encoding form) units p gs w.state read.inside))
        (known_first e (Unit {0}) Fit (λ k. tt) (form_encoding form) units p gs w.state there (unit_aligned form p read.aligned) read.inside))))
        (λ t cs h. stops SourceText gs t cs h)
        (λ n cs v w1 o h. written n cs v w1 h.0 h.1 h.2))

  -- from the source on
  string_moves : (q : Pair) (k : ℕ) → IsSource c k s → pair_taken c s ≡ Some q → text_at c.transfer.from.encoding c.source q.pointer q.count ≡ Some chars → RunsHonestly c gs Stopped Ended (move_string c.transfer s d) w
  string_moves q k is at there =
      reads_pair g k s q (λ p n. checked (form_in c.transfer.from.encoding n) (form_of c.transfer.from.encoding n) p) w is ready.from at
      (subst (λ f. RunsHonestly c gs Stopped Ended (checked form f q.pointer) w) (sym same)
      (moved_text form q.pointer f.units (both_there e m w ready)
      (subst (λ b. TextRead b q.pointer (form_encoding form) (form_align form) f.units chars) (sym (source_bytes e m w ready)) (text_read c.source q.pointer (form_encoding form) (form_align form) f.units chars (sym (ap (text_of_form c.source q.pointer) same) ∙ there)))
      (λ fit. subst (λ x. x.units ≤ most_units x.encoding c.transfer.to.encoding) same (text_fit c s q at fit))))
    where
      checked : TextForm → Form → ℕ → Action (List CoreValue)
      checked form f p = check_text c.transfer.from f p (walk c.transfer (path form c.transfer.to.encoding) (path_start p f.units) >>= (λ v. write_pair c.transfer.to d v.region v.written))

      form : TextForm
      form = form_in c.transfer.from.encoding q.count

      f : Form
      f = form_of c.transfer.from.encoding q.count

      same : form_of c.transfer.from.encoding q.count ≡ in_form (form_in c.transfer.from.encoding q.count) (form_of c.transfer.from.encoding q.count).units
      same = form_is c.transfer.from.encoding q.count

pub text_law : (c : TransferSetting) → IsGrounded c → IsEquipped c → IsLawfulMove c (s_plain ty.String) (s_plain ty.String)
unfolding move
text_law c g e = record {
  by = λ s d v gs w m is h ready target.
      let t = text_taken c s v h in
      subst (λ v. RunsHonestly c gs (MayStop (IsFit c (s_plain ty.String) (s_plain ty.String) s) (items (to_side c) (s_plain ty.String) (s_plain ty.String) v)) (IsMoved c gs m (s_plain ty.String) (s_plain ty.String) d v) (move c.transfer (s_plain ty.String) (s_plain ty.String) s d) w) t.is
      (does_aligned g (s_plain ty.String) (s_plain ty.String) s d (Visit 1 (move_string c.transfer s d)) w
      (does_visit (string_moves g e s d t.chars gs w m ready
      (subst (λ z. IsTarget c (pointer (width (is_wide c.transfer.to.memory)) ∷ pointer (width (is_wide c.transfer.to.memory)) ∷ []) z (IsInHand c gs) m d) (string_size c.transfer.to) target)
      t.pair _ is t.at t.there)));
}
