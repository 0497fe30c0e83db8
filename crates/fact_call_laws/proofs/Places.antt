-- The parts of a run: what holds of all of it holds of its parts.
use Rattle.std.proofs.Common.{◌≡◌, ℕ, false, List, [], ◌∷◌, ◌++◌, Option, Some, None, refl, sym, ap, ◌∙◌, subst, cond, map}
use Rattle.std.proofs.lemmas.Bool.{true≢false}
use Rattle.fact_types.specs.declared.outside.CoreDef.{CoreDef}
use Rattle.fact_types.specs.declared.import.Import.{Import}
use Rattle.fact_types.specs.declared.import.Import.TheVariants as import
use Rattle.fact_types.specs.Adapters.{LinkedAdapter, same_def}
use Rattle.fact_types.specs.Tables.{Tables}
use Rattle.fact_types.proofs.ShapeLaws.{none_some}
use Rattle.fact_wasm.specs.declared.module.WasmModule.{WasmModule}
use Rattle.fact_machine.specs.declared.types.Answer.TheVariants.{Returns}
use Rattle.fact_machine.specs.declared.types.CoreValue.{CoreValue}
use Rattle.fact_machine.specs.declared.types.Event.{Event}
use Rattle.fact_values.specs.declared.value.Value.{Value}
use Rattle.fact_actions.specs.Calls.{is_call_of}
use Rattle.fact_actions.specs.Confined.{GiveUpLive}
use Rattle.fact_actions.specs.Honest.{AreHonest, HasReturned, IsHonestBy}
use Rattle.fact_actions.specs.Regions.{Position, Region, landed, moved_on, results_landing, sync_moved_on}
use Rattle.fact_actions.specs.Running.{ImportPlaces, Call}
use Rattle.fact_actions.specs.Sides.{LiftLowerOptions, options_of}
use Rattle.fact_actions.proofs.OwnParts.{same_self}
use Rattle.fact_action_laws.specs.Requested.{AreOutsideTransfers, CallOwnRealloc, IsOutsideTransfers, IsOwnRealloc}
use Rattle.fact_host.specs.declared.calling.HostCall.{HostCall}
use Rattle.fact_host.specs.declared.known.Known.{Known}
use Rattle.fact_host.specs.declared.roles.Role.{Role}
use Rattle.fact_host.specs.Contract.{NamesEachOnce}
use Rattle.fact_host.specs.Describes.{Describes, IsImportOf, named_calls}
use Rattle.fact_host.specs.Hosts.{AreAnswersUntil}
use Rattle.fact_host.specs.Rules.{Answers, AreOfCoreTypes, CallShapes, StoresResults}
use Rattle.fact_types.specs.Signatures.{sync_lift}
use Rattle.fact_call_laws.proofs.Positions.{Answered, answered_so, position_after, region_returned}
use Rattle.fact_call_laws.proofs.Steps.{Did, DidNothing, DidRealloc, DidCall, call_by, landing_by, same_exact}

-- ---- lists of images

pub record Parts {A B : Type 0} (f : A → B) (xs : List A) (ys : List B) (y : B) (zs : List B) : Type 0 where
  pub front : List A
  pub middle : A
  pub behind : List A
  pub is : xs ≡ front ++ (middle ∷ behind)
  pub front_is : map f front ≡ ys
  pub middle_is : f middle ≡ y
  pub behind_is : map f behind ≡ zs

pub parts : {A B : Type 0} (f : A → B) (xs : List A) (ys : List B) (y : B) (zs : List B) → map f xs ≡ ys ++ (y ∷ zs) → Parts f xs ys y zs
parts f [] [] y zs e = absurd cc
parts f [] (w ∷ ys) y zs e = absurd cc
parts f (x ∷ xs) [] y zs e =
    let first : f x ≡ y = cc in
    let rest : map f xs ≡ zs = cc in
    record { front = []; middle = x; behind = xs; is = refl; front_is = refl; middle_is = first; behind_is = rest }
parts f (x ∷ xs) (w ∷ ys) y zs e =
    let first : f x ≡ w = cc in
    let rest : map f xs ≡ ys ++ (y ∷ zs) = cc in
    let p = parts f xs ys y zs rest in
    record { front = x ∷ p.front; middle = p.middle; behind = p.behind; is = ap (λ l. x ∷ l) p.is; front_is = (λ k. first k ∷ p.front_is k); middle_is = p.middle_is; behind_is = p.behind_is }

-- ---- events that are answered by the rules

pub record Ruled (Named : ℕ → Role → Type 0) (c : HostCall) (s : CallShapes) (answered : Option (List Value)) (k last : Known) (front : List Event) (e : Event) (behind : List Event) : Type 0 where
  pub known : Known
  pub front_ruled : AreAnswersUntil Named c s answered k front known
  pub role : Role
  pub named : Named e.func role
  pub known_behind : Known
  pub rule : Answers c s answered role known e known_behind
  pub behind_ruled : AreAnswersUntil Named c s answered known_behind behind last

pub ruled_parts : (Named : ℕ → Role → Type 0) (c : HostCall) (s : CallShapes) (answered : Option (List Value)) (k last : Known) (front : List Event) (e : Event) (behind : List Event)
    → AreAnswersUntil Named c s answered k (front ++ (e ∷ behind)) last → Ruled Named c s answered k last front e behind
ruled_parts Named c s answered k last [] e behind h = record { known = k; front_ruled = refl; role = h.0; named = h.1; known_behind = h.2; rule = h.3; behind_ruled = h.4 }
ruled_parts Named c s answered k last (v ∷ front) e behind h =
    let r = ruled_parts Named c s answered h.2 last front e behind h.4 in
    record { known = r.known; front_ruled = (h.0, h.1, h.2, h.3, r.front_ruled); role = r.role; named = r.named; known_behind = r.known_behind; rule = r.rule; behind_ruled = r.behind_ruled }

-- ---- honest calls, and what they give up

pub record HonestParts (p : ImportPlaces) (a : LinkedAdapter) (next : Call → Position → Position) (x : Position) (front : List Call) (z : Call) (behind : List Call) : Type 0 where
  pub front_honest : AreHonest p a next x front
  pub returned : HasReturned z
  pub honest : IsHonestBy z.what p (options_of a.lower) a.lift.post_return (position_after next x front) z
  pub behind_honest : AreHonest p a next (next z (position_after next x front)) behind

pub honest_parts : (p : ImportPlaces) (a : LinkedAdapter) (next : Call → Position → Position) (x : Position) (front : List Call) (z : Call) (behind : List Call) → AreHonest p a next x (front ++ (z ∷ behind)) → HonestParts p a next x front z behind
honest_parts p a next x [] z behind h = record { front_honest = tt; returned = h.0; honest = h.1; behind_honest = h.2 }
honest_parts p a next x (c ∷ front) z behind h =
    let r = honest_parts p a next (next c x) front z behind h.2 in
    record { front_honest = (h.0, h.1, r.front_honest); returned = r.returned; honest = r.honest; behind_honest = r.behind_honest }

pub gives_behind : (a : LinkedAdapter) (next : Call → Position → Position) (x : Position) (front : List Call) (z : Call) (behind : List Call) → GiveUpLive a next x (front ++ (z ∷ behind)) → GiveUpLive a next (next z (position_after next x front)) behind
gives_behind a next x [] z behind h = h.1
gives_behind a next x (c ∷ front) z behind h = gives_behind a next (next c x) front z behind h.1

-- ---- calls of which none is the callee's

abbrev pub NoCallee : LinkedAdapter → List Call → Type 0
NoCallee a [] = Unit {0}
NoCallee a (z ∷ cs) = (z.what ≡ import.CoreDef a.callee → ⊥) × NoCallee a cs

pub outside_no_callee : (a : LinkedAdapter) (cs : List Call) → AreOutsideTransfers None cs → NoCallee a cs
outside_no_callee a [] h = tt
outside_no_callee a (z ∷ cs) h = ((λ e. none_some None a.callee refl (subst (IsOutsideTransfers None) e h.0)), outside_no_callee a cs h.1)

pub own_no_callee : (a : LinkedAdapter) (o : LiftLowerOptions) (cs more : List Call) → ((f : CoreDef) → o.realloc ≡ Some f → same_def a.callee f ≡ false) → CallOwnRealloc o (cs ++ more) → NoCallee a cs
own_no_callee a o [] more own h = tt
own_no_callee a o (z ∷ cs) more own h = (
  (λ e.
      let x = subst (IsOwnRealloc o) e h.0 in
      true≢false (sym (same_self a.callee) ∙ own a.callee (x.1 ∙ ap Some (same_exact x.0 a.callee x.2)))),
  own_no_callee a o cs more own h.1,
)

pub no_callee_on : (a : LinkedAdapter) (cs ds : List Call) → NoCallee a cs → NoCallee a ds → NoCallee a (cs ++ ds)
no_callee_on a [] ds h g = g
no_callee_on a (z ∷ cs) ds h g = (h.0, no_callee_on a cs ds h.1 g)

module _ (m : WasmModule) (t : Tables) (c : HostCall) (p : ImportPlaces) (a : LinkedAdapter) (names : ℕ → Import) (d : Describes m t c p a names) (once : NamesEachOnce c) (args : List CoreValue) (s : CallShapes) (answered : Option (List Value)) (Named : ℕ → Role → Type 0)
    (is : (n : ℕ) (r : Role) → Named n r → IsImportOf p a r (names n)) where
  -- then it was not called meanwhile
  pub uncalled : (k last : Known) (x : Position) (log : List Event) → AreAnswersUntil Named c s answered k log last → AreHonest p a (sync_moved_on a args) x (named_calls names log) → NoCallee a (named_calls names log) → last.returned ≡ k.returned
  uncalled k last x [] rules honest none = ap (λ (z : Known). z.returned) rules
  uncalled k last x (v ∷ es) rules honest none =
      let one = answered_so m t c p a names d once args s answered Named is k rules.2 v rules.0 rules.1 rules.3 honest.0 in
      uncalled rules.2 last (sync_moved_on a args (call_by (names v.func) v.args v.before v.answer) x) es rules.4 honest.2 none.1 ∙ by rules.2 one one.did
    where
      by : (k' : Known) (one : Answered m t c p a names d once args s answered k k' v) → Did m t c p a names d once args s answered k k' (names v.func) v.args one.results v.before one.after → k'.returned ≡ k.returned
      by k' one (DidCall values e called answers core stores) = absurd (none.0 e)
      by k' one (DidNothing same still) = same.returned
      by k' one (DidRealloc r) = ap (λ (z : Known). z.returned) r.known ∙ region_returned m t c p a names d once args k r.memory v.args

  -- What the callee's call did.
  pub record CalleeDid (k k' : Known) (e : Event) (one : Answered m t c p a names d once args s answered k k' e) : Type 0 where
    pub values : List Value
    pub first : k.returned ≡ false
    pub answer_is : answered ≡ Some values
    pub core : AreOfCoreTypes (sync_lift c.lift.abi.memory64 s.lift_params s.lift_results).results one.results
    pub stores : StoresResults k c s.lift_results s.lower_results values e.before one.after one.results k'

  pub callee_did : (k k' : Known) (e : Event) (one : Answered m t c p a names d once args s answered k k' e) → names e.func ≡ import.CoreDef a.callee → CalleeDid k k' e one
  callee_did k k' e one what = by one.did
    where
      by : Did m t c p a names d once args s answered k k' (names e.func) e.args one.results e.before one.after → CalleeDid k k' e one
      by (DidCall values w first answer_is core stores) = record { values = values; first = first; answer_is = answer_is; core = core; stores = stores }
      by (DidRealloc r) =
          let same : import.CoreDef a.callee ≡ import.CoreDef r.realloc = sym what ∙ r.what in
          let q : a.callee ≡ r.realloc = cc in
          absurd (true≢false (sym (same_self a.callee) ∙ ap (same_def a.callee) q ∙ r.not_callee))
      by (DidNothing same still) =
          let region : Region = record { at = 0; size = 0; align = 0 } in
          let there : Position = record { landing = landing_by k.returned a args; live = region ∷ [] } in
          let moved : sync_moved_on a args (call_by (names e.func) e.args e.before (Returns one.results one.after)) there ≡ landed (results_landing a args) =
          ap (λ z. cond (is_call_of a.callee (call_by z e.args e.before (Returns one.results one.after))) (landed (results_landing a args)) (moved_on (call_by (names e.func) e.args e.before (Returns one.results one.after)) there)) what
          ∙ ap (λ z. cond z (landed (results_landing a args)) (moved_on (call_by (names e.func) e.args e.before (Returns one.results one.after)) there)) (same_self a.callee) in
          let none : [] ≡ region ∷ [] = ap (λ (y : Position). y.live) (sym moved ∙ still there refl) in
          absurd cc
