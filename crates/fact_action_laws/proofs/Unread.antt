-- Where no text stands at a source, a move of it never gives anything.
use Rattle.std.proofs.Common.{◌≡◌, ℕ, ◌+◌, ◌*◌, ◌/◌, ◌%◌, ◌≤◌, List, length, take, drop, Option, Some, None, refl, sym, ap, ◌∙◌, subst}
use Rattle.std.specs.Prelude.{nat_le, option_map}
use Rattle.std.proofs.lemmas.Bool.{leb-true}
use Rattle.fact_types.specs.declared.interface.InterfaceType.TheVariants as ty
use Rattle.fact_types.specs.declared.outside.Trap.TheVariants.{StringOutOfBounds}
use Rattle.fact_types.specs.Shapes.{s_plain}
use Rattle.fact_types.proofs.ShapeLaws.{none_some}
use Rattle.fact_machine.specs.World.{World}
use Rattle.fact_actions.specs.Actions.{Visit, ◌>>=◌}
use Rattle.fact_actions.specs.Moves.{move}
use Rattle.fact_actions.specs.Paths.{TextForm, path}
use Rattle.fact_actions.specs.Sides.{Source, Values, AtAddress, Target, wrap, write_pair}
use Rattle.fact_actions.specs.Strings.{path_start, form_in, most_string_bytes, walk, check_text, move_string}
use Rattle.fact_values.specs.Texts.{byte_length, form_of, unit_bytes, text_of_form, text_at, decoded}
use Rattle.fact_values.specs.declared.value.Value.TheVariants as value
use Rattle.fact_values.specs.Lift.{lift_leading, leading_pair}
use Rattle.fact_values.specs.Load.{load, text_value}
use Rattle.fact_types.specs.Options.{◌>>=◌ as and_then}
use Rattle.fact_values.specs.Places.{Pair, pair_at}
use Rattle.fact_action_laws.specs.Places.{from_side, value_at_source, IsSource, HoldsMemories, IsGrounded}
use Rattle.fact_actions.specs.Regions.{Region}
use Rattle.fact_action_laws.specs.Regions.{TransferSetting}
use Rattle.fact_action_laws.proofs.Judges.{does_more}
use Rattle.fact_action_laws.proofs.Never.{never_unless, never_check, never_first}
use Rattle.fact_action_laws.proofs.Pairs.{pair_taken, reads_pair}
use Rattle.fact_action_laws.proofs.Plain.{does_aligned}
use Rattle.fact_action_laws.proofs.Refusals.{never_visit}
use Rattle.fact_action_laws.proofs.NoList.{never_pair}
use Rattle.fact_action_laws.proofs.Equipped.{IsEquipped}
use Rattle.fact_action_laws.proofs.AllPaths.{limited}
use Rattle.fact_action_laws.proofs.Invariant.{wrap_small}
use Rattle.fact_action_laws.proofs.Limited.{walks_limited}
use Rattle.fact_action_laws.proofs.Reading.{unit_aligned, form_is, text_missing}
use Rattle.fact_action_laws.proofs.TextLaw.{SideIsThere, own_steps, turned_bytes, source_bytes, both_there}
use Rattle.fact_action_laws.proofs.Walked.{does_walk, text_decoded}
use Rattle.fact_action_laws.proofs.Spelled.{form_align, form_encoding, in_form}
use Rattle.fact_action_laws.specs.Judged.{GivesNothing}
use Rattle.fact_action_laws.specs.MoveLaws.{Refuses}

-- ---- a source without a text

-- there is no pair, or no text where it points
data TextMissing (c : TransferSetting) (s : Source) : Type 0 where
  no_pair : pair_taken c s ≡ None → TextMissing c s
  no_text : (q : Pair) → pair_taken c s ≡ Some q → text_at c.transfer.from.encoding c.source q.pointer q.count ≡ None → TextMissing c s

none_mapped : {A B : Type 0} (f : A → B) (q : Option A) → option_map f q ≡ None → q ≡ None
none_mapped f None h = refl
none_mapped f (Some a) h = absurd (none_some None (f a) refl (sym h))

missing_from : (c : TransferSetting) (s : Source) (o : Option Pair) → pair_taken c s ≡ o → and_then o (λ q. text_value (from_side c) c.source q) ≡ None → TextMissing c s
missing_from c s None at h = no_pair at
missing_from c s (Some q) at h = no_text q at (none_mapped (λ cs. value.Str cs) (text_at c.transfer.from.encoding c.source q.pointer q.count) h)

text_lacks : (c : TransferSetting) (s : Source) → value_at_source c (s_plain ty.String) s ≡ None → TextMissing c s
unfolding load lift_leading
text_lacks c (Values vs) h = missing_from c (Values vs) (leading_pair (from_side c) vs) refl h
text_lacks c (AtAddress a) h = missing_from c (AtAddress a) (pair_at (from_side c) c.source a) refl h

module _ {c : TransferSetting} (g : IsGrounded c) (e : IsEquipped c) (gs : List Region) (d : Target) (w : World) (m : List ℕ) (ready : HoldsMemories c m w) where
  -- the walk is followed by nothing, since it would have moved a text
  never_walked : (form : TextForm) (p units : ℕ) → text_of_form c.source p (in_form form units) ≡ None → p % form_align form ≡ 0 → p + wrap c.transfer.from (byte_length (in_form form units)) ≤ length c.source
      → GivesNothing c gs (walk c.transfer (path form c.transfer.to.encoding) (path_start p units)) w
  never_walked form p units missing aligned inside =
      let l = limited form c.transfer.to.encoding in
      let bytes = source_bytes e m w ready in
      subst (λ q. GivesNothing c gs (walk c.transfer q (path_start p units)) w) (sym l.is)
      (never_unless StringOutOfBounds (nat_le units (most_string_bytes / l.most)) (walk c.transfer l.rest (path_start p units)) w (λ yes.
      let le = leb-true units (most_string_bytes / l.most) yes in
      let all : p + unit_bytes (form_encoding form) * units ≤ length c.source =
      subst (λ b. p + b ≤ length c.source) (ap (wrap c.transfer.from) (turned_bytes (form_encoding form) units) ∙ wrap_small c.transfer.from (unit_bytes (form_encoding form) * units) (l.small units le)) inside in
      let none = text_missing c.source p (form_encoding form) (form_align form) units missing aligned all in
      does_more (λ s cs o h. tt) (λ n cs v w1 o h. none_some None _ refl
      (sym (subst (λ b. decoded (form_encoding form) (take (unit_bytes (form_encoding form) * units) (drop p b)) ≡ None) (sym bytes) none) ∙ text_decoded e ⊥ (form_encoding form) units p gs w.state _ h.2.us h.2.stage v w1.state h.2.inv (h.2.holds tt)))
      (does_walk (walks_limited e (Unit {0}) ⊥ (λ g. tt) (λ g. absurd g) form units p gs w (own_steps c) (both_there e m w ready) (unit_aligned form p aligned) (subst (λ b. p + unit_bytes (form_encoding form) * units ≤ length b) (sym bytes) all) le))))

  never_checked : (form : TextForm) (p units : ℕ) → text_of_form c.source p (in_form form units) ≡ None
      → GivesNothing c gs (check_text c.transfer.from (in_form form units) p (walk c.transfer (path form c.transfer.to.encoding) (path_start p units) >>= (λ v. write_pair c.transfer.to d v.region v.written))) w
  never_checked form p units missing =
      never_check c.transfer.from c.transfer.from.memory StringOutOfBounds p (wrap c.transfer.from (byte_length (in_form form units))) (form_align form) _ w c.source ready.from (subst SideIsThere (sym e.from_is) tt)
      (λ aligned inside. never_first (walk c.transfer (path form c.transfer.to.encoding) (path_start p units)) (λ v. write_pair c.transfer.to d v.region v.written) w (never_walked form p units missing aligned inside))

  never_string : (s : Source) → IsSource c 2 s → TextMissing c s → GivesNothing c gs (move_string c.transfer s d) w
  never_string s is (no_pair h) = never_pair c g s _ w is ready.from h
  never_string s is (no_text q at h) =
      let form = form_in c.transfer.from.encoding q.count in
      let f = form_of c.transfer.from.encoding q.count in
      let same = form_is c.transfer.from.encoding q.count in
      reads_pair g 2 s q _ w is ready.from at
      (subst (λ f. GivesNothing c gs (check_text c.transfer.from f q.pointer (walk c.transfer (path form c.transfer.to.encoding) (path_start q.pointer f.units) >>= (λ v. write_pair c.transfer.to d v.region v.written))) w) (sym same)
      (never_checked form q.pointer f.units (sym (ap (text_of_form c.source q.pointer) same) ∙ h)))

pub text_refuses : (c : TransferSetting) → IsGrounded c → IsEquipped c → Refuses c (s_plain ty.String) (s_plain ty.String)
unfolding move
text_refuses c g e = record {
  by = λ s d gs w m is h ready target.
      does_aligned g (s_plain ty.String) (s_plain ty.String) s d (Visit 1 (move_string c.transfer s d)) w
      (never_visit 1 (move_string c.transfer s d) w (never_string g e gs d w m ready s is (text_lacks c s h)));
}
