-- The transcoder calls of a text's move stay in their ranges.
use Rattle.std.proofs.Common.{◌≡◌, ℕ, ◌+◌, ◌*◌, ◌/◌, ◌%◌, ◌≤◌, List, [], ◌∷◌, length, Option, Some, None, refl, sym, ap, ◌∙◌, subst, arith}
use Rattle.std.specs.Prelude.{slice_get, nat_eq, nat_le}
use Rattle.std.proofs.lemmas.Bool.{eqb-true, leb-true}
use Rattle.fact_types.specs.declared.import.Import.{Import}
use Rattle.fact_types.specs.declared.import.Import.TheVariants as import
use Rattle.fact_types.specs.declared.outside.CoreDef.{CoreDef}
use Rattle.fact_types.specs.declared.outside.MemoryOption.{MemoryOption}
use Rattle.fact_types.specs.declared.outside.Trap.TheVariants.{StringOutOfBounds}
use Rattle.fact_types.proofs.ShapeLaws.{none_some, same_some}
use Rattle.fact_machine.specs.declared.types.Answer.{Answer}
use Rattle.fact_machine.specs.declared.types.Answer.TheVariants.{Returns, Traps, Throws}
use Rattle.fact_machine.specs.declared.types.CoreValue.{CoreValue}
use Rattle.fact_machine.specs.declared.types.MachineState.{MachineState}
use Rattle.fact_machine.specs.World.{World, Stop, Trap, Throw, Lack}
use Rattle.fact_values.specs.Texts.{unit_bytes, form_of, byte_length}
use Rattle.fact_actions.specs.Actions.{Action, ◌>>=◌}
use Rattle.fact_actions.specs.Confined.{IsHonestTranscoder, HaveHonestTranscoders}
use Rattle.fact_actions.specs.Paths.{TextForm, align_of, path}
use Rattle.fact_actions.specs.Regions.{Region, Position}
use Rattle.fact_actions.specs.Running.{Call, Ended, Gave, Halted, Strayed, run}
use Rattle.fact_actions.specs.Sides.{Source, Target, wrap, write_pair}
use Rattle.fact_actions.specs.Strings.{PathPoint, path_start, amount, most_string_bytes, walk, form_in, check_text, move_string}
use Rattle.fact_action_laws.specs.Regions.{TransferSetting, regions_by, regions_after}
use Rattle.fact_action_laws.proofs.Equipped.{IsEquipped}
use Rattle.fact_action_laws.proofs.Spelled.{form_encoding, form_align, in_form}
use Rattle.fact_action_laws.proofs.AllPaths.{limited}
use Rattle.fact_action_laws.proofs.Answered.{IsAnswerHonest, AreAnswersHonest, position, MovesAlong}
use Rattle.fact_action_laws.proofs.Fine.{BothAreThere, known_at, HasKnownSides, Arrived, Stays, Fine, fine_unless, fine_with, fine_pair, fine_reallocate, fine_write_pair}
use Rattle.fact_action_laws.proofs.Invariant.{wrap_small}
use Rattle.fact_action_laws.proofs.Limited.{walks_limited}
use Rattle.fact_action_laws.proofs.Transcoded.{transcoded}
use Rattle.fact_action_laws.proofs.Ranging.{IsRangedEnd, StaysRanged, ranged_length, ranged_unless, ranged_bind}
use Rattle.fact_action_laws.proofs.Reading.{form_is, unit_aligned}
use Rattle.fact_action_laws.proofs.Served.{AreServedCalls}
use Rattle.fact_action_laws.proofs.States.{from_bytes, to_bytes, There, there_of}
use Rattle.fact_action_laws.proofs.Trails.{Judged, Walks, MayEnd}

module _ (c : TransferSetting) (next : Call → Position → Position) (steps : MovesAlong c next) (known : HasKnownSides c) where
  -- ---- honest transcoders, and anything else

  honest_answer : (gs : List Region) (i : Import) (args : List CoreValue) (before : MachineState) (a : Answer) → IsHonestTranscoder i c.places (record { what = i; args = args; before = before; answer = a }) → IsAnswerHonest ⊥ c gs i args before a
  honest_answer gs i args before Traps h = tt
  honest_answer gs i args before Throws h = λ k. k
  honest_answer gs (import.Transcode o from from64 to to64) args before (Returns rs after) h = λ of_from of_to. transcoded c o from from64 to to64 (record { what = import.Transcode o from from64 to to64; args = args; before = before; answer = Returns rs after }) known.two of_from of_to (h tt)
  honest_answer gs (import.CoreDef f) args before (Returns rs after) h = λ k. absurd k
  honest_answer gs import.ResourceTransferOwn args before (Returns rs after) h = λ k. absurd k
  honest_answer gs import.ResourceTransferBorrow args before (Returns rs after) h = λ k. absurd k
  honest_answer gs (import.PrepareCall m) args before (Returns rs after) h = λ k. absurd k
  honest_answer gs (import.StartCall callback post_return) args before (Returns rs after) h = λ k. absurd k
  honest_answer gs import.FutureTransfer args before (Returns rs after) h = λ k. absurd k
  honest_answer gs import.StreamTransfer args before (Returns rs after) h = λ k. absurd k
  honest_answer gs import.ErrorContextTransfer args before (Returns rs after) h = λ k. absurd k
  honest_answer gs (import.Trap t) args before (Returns rs after) h = λ k. absurd k
  honest_answer gs import.EnterSyncCall args before (Returns rs after) h = λ k. absurd k
  honest_answer gs import.ExitSyncCall args before (Returns rs after) h = λ k. absurd k
  honest_answer gs (import.UnsafeIntrinsic s) args before (Returns rs after) h = λ k. absurd k

  honest_calls : (gs : List Region) (cs : List Call) → HaveHonestTranscoders c.places cs → AreAnswersHonest ⊥ c gs cs
  honest_calls gs [] h = tt
  honest_calls gs (k ∷ cs) h = (honest_answer gs k.what k.args k.before k.answer h.0, honest_calls (regions_by k.what k.args k.answer gs) cs h.1)

  -- a walk of a path
  walked_ranged : {A Text : Type 0} {most : ℕ} {gs : List Region} {Q : List Region → A → World → Type 0} {q : Action A} {w : World}
      → ((rs : List Region) (a : A) (w' : World) → Q rs a w' → BothAreThere c.places c.transfer.from c.transfer.to w'.state) → Walks c next ⊥ ⊥ Text most gs Q q w → Stays c next steps known gs q w
  walked_ranged {A} {Text} {most} {gs} {Q} {q} {w} f h = record { by = by_end (run c.places q w) h.judged }
    where
      stops : (s : Stop) (cs : List Call) → MayEnd c next ⊥ ⊥ Text most gs s cs → AreServedCalls c.places next (position c gs) cs
      stops Trap cs h = h.0
      stops Throw cs h = h.0
      stops Lack cs h = h.ranged

      by_end : (d : Ended A) → Judged c next ⊥ ⊥ Text most gs Q d → IsRangedEnd c.places next (position c gs) (λ y a w'. Arrived c next steps known y w'.state) d
      by_end (Gave n cs a w') j = λ o. let k = j (honest_calls gs cs o) in (k.1.ranged, record { live = regions_after gs cs; is = k.1.moved; there = f (regions_after gs cs) a w' k.2 })
      by_end (Halted n cs s w') j = λ o. stops s cs (j (honest_calls gs cs o))
      by_end (Strayed n cs w') j = tt

  -- ---- sides that have what a text needs

  abbrev equipped : (m n : MemoryOption) (f : CoreDef) → c.transfer.from.memory ≡ Some m → c.transfer.to.memory ≡ Some n → c.transfer.to.realloc ≡ Some f → IsEquipped c
  equipped m n f is_m is_n is_f =
      let k = known_at c.places c.transfer.from.memory m is_m known.from in
      let l = known_at c.places c.transfer.to.memory n is_n known.to in
      record { from = m; to = n; realloc = f; from_page = k.page; to_page = l.page; from_is = is_m; to_is = is_n; realloc_is = is_f; from_known = k.is; to_known = l.is }

  still_there : (e : IsEquipped c) (s : MachineState) → There e s → BothAreThere c.places c.transfer.from c.transfer.to s
  still_there e s h = record {
    from = record { at = λ m is. (from_bytes e s, subst (λ x. slice_get s.memories (c.places.memory x.def) ≡ Some (from_bytes e s)) (same_some c.transfer.from.memory e.from m e.from_is is) h.from) };
    to = record { at = λ m is. (to_bytes e s, subst (λ x. slice_get s.memories (c.places.memory x.def) ≡ Some (to_bytes e s)) (same_some c.transfer.to.memory e.to m e.to_is is) h.to) };
  }

  -- where one of them is missing, a path stops before its first transcoder
  missing_fine : ((f : CoreDef) → c.transfer.to.realloc ≡ Some f → (n : MemoryOption) → c.transfer.to.memory ≡ Some n → ⊥) → (form : TextForm) (v : PathPoint)
      → Fine c next steps known (walk c.transfer (limited form c.transfer.to.encoding).rest v)
  missing_fine never form v =
      let l = limited form c.transfer.to.encoding in
      subst (λ q. Fine c next steps known (walk c.transfer q v)) (sym l.begins)
      (fine_reallocate c next steps known StringOutOfBounds v.region (amount c.transfer l.none v) (align_of c.transfer.to.encoding) (amount c.transfer l.size v) (λ q. walk c.transfer l.behind (record v { region = q }))
      (λ f is_f n is_n q. absurd (never f is_f n is_n)))

  module _ (form : TextForm) (p units : ℕ) where
    -- the path behind its limit, on a source that is there; where something is missing no transcoder is called
    rest_ranged : (gs : List Region) (w : World) (m : MemoryOption) (bytes : List ℕ) → c.transfer.from.memory ≡ Some m → slice_get w.state.memories (c.places.memory m.def) ≡ Some bytes → BothAreThere c.places c.transfer.from c.transfer.to w.state
        → p % form_align form ≡ 0 → p + unit_bytes (form_encoding form) * units ≤ length bytes → units ≤ most_string_bytes / (limited form c.transfer.to.encoding).most
        → (r : Option CoreDef) (x : Option MemoryOption) → c.transfer.to.realloc ≡ r → c.transfer.to.memory ≡ x
        → Stays c next steps known gs (walk c.transfer (limited form c.transfer.to.encoding).rest (path_start p units)) w
    rest_ranged gs w m bytes is_m at there aligned inside le (Some f) (Some n) is_f is_n =
        let e = equipped m n f is_m is_n is_f in
        let t : There e w.state = there_of e w.state (bytes, at) (there.to.at n is_n) in
        walked_ranged (λ rs v w' r. still_there e w'.state r.inv.there)
        (walks_limited e ⊥ ⊥ (λ g. g) (λ g. g) form units p gs w steps t (unit_aligned form p aligned)
        (subst (λ b. p + unit_bytes (form_encoding form) * units ≤ length b) (same_some _ bytes (from_bytes e w.state) at t.from) inside) le)
    rest_ranged gs w m bytes is_m at there aligned inside le None x is_f is_n =
        (missing_fine (λ f is_f2 n is_n2. none_some c.transfer.to.realloc f is_f is_f2) form (path_start p units)).by gs w there
    rest_ranged gs w m bytes is_m at there aligned inside le (Some f) None is_f is_n =
        (missing_fine (λ f is_f2 n is_n2. none_some c.transfer.to.memory n is_n is_n2) form (path_start p units)).by gs w there

    -- a text of a form, whatever stands at its pointer
    text_fine : (d : Target) → Fine c next steps known (check_text c.transfer.from (in_form form units) p (walk c.transfer (path form c.transfer.to.encoding) (path_start p units) >>= (λ v. write_pair c.transfer.to d v.region v.written)))
    text_fine d =
        let l = limited form c.transfer.to.encoding in
        fine_unless c next steps known _ (nat_eq (p % form_align form) 0) _ (λ aligned. fine_with c next steps known c.transfer.from _ (λ m is_m. record {
          by = λ gs w there. ranged_length c.places next (λ bytes at.
              ranged_unless c.places next StringOutOfBounds (nat_le (p + size) (length bytes)) (λ within.
              ranged_bind c.places next (walk c.transfer (path form c.transfer.to.encoding) (path_start p units)) _ w
              (subst (λ q. Stays c next steps known gs (walk c.transfer q (path_start p units)) w) (sym l.is)
              (ranged_unless c.places next StringOutOfBounds (nat_le units (most_string_bytes / l.most)) (λ few.
              let le = leb-true units (most_string_bytes / l.most) few in
              let whole : size ≡ unit_bytes (form_encoding form) * units = ap (wrap c.transfer.from) (turned (form_encoding form)) ∙ wrap_small c.transfer.from (unit_bytes (form_encoding form) * units) (l.small units le) in
              rest_ranged gs w m bytes is_m at there (eqb-true (p % form_align form) 0 aligned) (subst (λ b. p + b ≤ length bytes) whole (leb-true (p + size) (length bytes) within)) le c.transfer.to.realloc c.transfer.to.memory refl refl)))
              (λ y v w' arrived. subst (λ y. StaysRanged c.places next y (λ y b w'. Arrived c next steps known y w'.state) (write_pair c.transfer.to d v.region v.written) w') (sym arrived.is)
              ((fine_write_pair c next steps known d v.region v.written).by arrived.live w' arrived.there))));
        }))
      where
        size : ℕ
        size = wrap c.transfer.from (byte_length (in_form form units))

        turned : (e : _) → units * unit_bytes e ≡ unit_bytes e * units
        turned e = omega arith

  pub string_fine : (s : Source) (d : Target) → Fine c next steps known (move_string c.transfer s d)
  string_fine s d =
      fine_pair c next steps known s _ (λ p n.
      subst (λ f. Fine c next steps known (check_text c.transfer.from f p (walk c.transfer (path (form_in c.transfer.from.encoding n) c.transfer.to.encoding) (path_start p f.units) >>= (λ v. write_pair c.transfer.to d v.region v.written))))
      (sym (form_is c.transfer.from.encoding n)) (text_fine (form_in c.transfer.from.encoding n) p (form_of c.transfer.from.encoding n).units d))
