-- How a run ends, by what was read and written.
use Rattle.std.proofs.Common.{◌≡◌, ℕ, ◌≤◌, List, Option, None, Some, Result, Ok, Err, IfErr, IfOk, refl, sym, subst, ap, string_bytes, option_map}
use Rattle.std.specs.Prelude.{IsSomeAnd}
use Rattle.fact_plan.specs.declared.plan.FusePlan.{FusePlan}
use Rattle.fact_command.specs.declared.command.CommandOptions.{CommandOptions}
use Rattle.fact_command.specs.declared.status.Status.{Status}
use Rattle.fact_command.specs.declared.status.Status.TheVariants as status
use Rattle.fact_command.specs.Command.{reading}
use Rattle.fact_module.specs.declared.fusion.Fused.{Fused}
use Rattle.fact_module.specs.Fused.{IsFused}
use Rattle.fact_run.specs.Run.{IsPlanMode, Read, ReadsPlan, configured}
use Rattle.fact_explain.specs.declared.ending.Ending.{Ending}
use Rattle.fact_explain.specs.Explained.{HoldsFaultlessPlan, IsEnd, IsEndUnmade, IsEndWithout, AreModuleBytes, IsPlanUnder, ReadsFaultless, TellsPlan, text_in, plain_line}
use Rattle.fact_explain.specs.Pages.{IsPage}
use Rattle.fact_explain.specs.Endings.{IsEndBy, IsEndWith, IsUnasked, ending_text}

-- ---- words

pub reads : (words : List (List ℕ)) (o : CommandOptions) → reading words ≡ Some o → IsPlanMode o → ReadsPlan words
reads words o e m = let P : Option CommandOptions → Type 0 = λ r. IsSomeAnd r IsPlanMode in subst P (sym e) m

pub reads-none : (words : List (List ℕ)) → reading words ≡ None → ReadsPlan words → ⊥
reads-none words e r = let P : Option CommandOptions → Type 0 = λ o. IsSomeAnd o IsPlanMode in subst P e r

pub reads-else : (words : List (List ℕ)) (o : CommandOptions) → reading words ≡ Some o → (IsPlanMode o → ⊥) → ReadsPlan words → ⊥
reads-else words o e n r = let P : Option CommandOptions → Type 0 = λ x. IsSomeAnd x IsPlanMode in n (subst P e r)

asked : (words : List (List ℕ)) (left left' : Option (List ℕ)) (read : Type 0) (s : Status) (text : List ℕ) → ReadsPlan words → IsEndWithout left left' read s text → IsEndUnmade words left left' read s text
asked words left left' read status.Usage text r h = absurd h
asked words left left' read status.OutOfMemory text r h = h
asked words left left' read s text r h = (r, h)

pub unasked : (words : List (List ℕ)) (left left' : Option (List ℕ)) (read : Type 0) (s : Status) → IsUnasked words s → IsEndUnmade words left left' read s (plain_line s)
unasked words left left' read status.Usage h = (h, refl)
unasked words left left' read status.OutOfMemory h = refl
unasked words left left' read s h = absurd h

-- ---- a plan that is read as the words ask

-- a plan without faults, with the tunables of the options
abbrev pub IsConfigured : CommandOptions → (left left' : Option (List ℕ)) → FusePlan → Type 0
IsConfigured o left left' p = (q : FusePlan) × Read left left' (λ bytes. HoldsFaultlessPlan bytes q) × (p ≡ configured o q)

pub plan-under : (words : List (List ℕ)) (o : CommandOptions) (left left' : Option (List ℕ)) (r : Result FusePlan Ending) → reading words ≡ Some o → IsPlanMode o → IfOk r (λ p. IsConfigured o left left' p)
    → IfOk r (λ p. IsPlanUnder words left left' p)
plan-under words o left left' (Ok p) e m h = record { options = o; is_read = e; mode = m; plan = h.0; holds = h.1; is_configured = h.2 }
plan-under words o left left' (Err x) e m h = tt

pub fueled : (o : CommandOptions) (left left' : Option (List ℕ)) (r : Result FusePlan Ending) → 1 ≤ o.fuel → IfOk r (λ p. IsConfigured o left left' p) → IfOk r (λ p. 1 ≤ p.tunables.fuel)
fueled o left left' (Ok p) f h = let P : FusePlan → Type 0 = λ q. 1 ≤ q.tunables.fuel in subst P (sym h.2) f
fueled o left left' (Err x) f h = tt

pub end-under : (words : List (List ℕ)) (o : CommandOptions) (left left' : Option (List ℕ)) (read : Type 0) (r : Result FusePlan Ending) → reading words ≡ Some o → IsPlanMode o
    → IfErr r (λ e. IsEndWithout left left' read e.status (ending_text e)) → IfErr r (λ e. IsEndUnmade words left left' read e.status (ending_text e))
end-under words o left left' read (Ok p) e m h = tt
end-under words o left left' read (Err x) e m h = asked words left left' read x.status (ending_text x) (reads words o e m) h

-- such a run tells no usage
pub no-usage : (left left' : Option (List ℕ)) (read P : Type 0) (r : Result FusePlan Ending) → IfErr r (λ e. IsEndWithout left left' read e.status (ending_text e)) → IfErr r (λ e. e.status ≡ status.Usage → P)
no-usage left left' read P (Ok p) h = tt
no-usage left left' read P (Err x) h = λ is. let Q : Status → Type 0 = λ s. IsEndWithout left left' read s (ending_text x) in absurd (subst Q is h)

pub no-usage-with : (write P : Type 0) (e : Ending) → IsEndWith write e → e.status ≡ status.Usage → P
no-usage-with write P e h is = let Q : Status → Type 0 = λ s. IsEndBy write s in absurd (subst Q is h.by)

-- ---- both

by-status : (words : List (List ℕ)) (left left' : Option (List ℕ)) (read write : Type 0) (s : Status) → ReadsPlan words → ReadsFaultless left left' → IsEndBy write s → IsEnd words left left' read write s (plain_line s)
by-status words left left' read write status.Done a r h = (a, r, refl)
by-status words left left' read write status.WriteFault a r h = (a, h, r, refl)
by-status words left left' read write status.OutOfMemory a r h = refl
by-status words left left' read write s a r h = absurd h

-- a page of the plan that was asked for
pub with-plan : (words : List (List ℕ)) (left left' : Option (List ℕ)) (read write : Type 0) (p : FusePlan) (e : Ending) → IsPlanUnder words left left' p → IsEndWith write e
    → IsEnd words left left' read write e.status (ending_text e)
with-plan words left left' read write p e u h =
    let P : Option (List ℕ) → Type 0 = λ o. IsEnd words left left' read write e.status (text_in e.status o) in
    subst P (sym (ap (option_map string_bytes) h.plain)) (by-status words left left' read write e.status (reads words u.options u.is_read u.mode) (u.plan, u.holds) h.by)

-- no page
pub unmade : (words : List (List ℕ)) (left left' : Option (List ℕ)) (read write : Type 0) (s : Status) (text : List ℕ) → IsEndUnmade words left left' read s text → IsEnd words left left' read write s text
unmade words left left' read write status.Done text h = absurd h.1
unmade words left left' read write status.WriteFault text h = absurd h.1
unmade words left left' read write s text h = h

-- such an end is none that comes of a page
pub not-done : (words : List (List ℕ)) (left left' : Option (List ℕ)) (read P : Type 0) (s : Status) (text : List ℕ) → IsEndUnmade words left left' read s text → s ≡ status.Done → P
not-done words left left' read P s text h is = let Q : Status → Type 0 = λ t. IsEndUnmade words left left' read t text in let k = subst Q is h in absurd k.1

pub not-written : (words : List (List ℕ)) (left left' : Option (List ℕ)) (read P : Type 0) (s : Status) (text : List ℕ) → IsEndUnmade words left left' read s text → s ≡ status.WriteFault → P
not-written words left left' read P s text h is = let Q : Status → Type 0 = λ t. IsEndUnmade words left left' read t text in let k = subst Q is h in absurd k.1

-- the module of the plan that was asked for
pub with-module : (words : List (List ℕ)) (left left' : Option (List ℕ)) (p : FusePlan) (f : Fused) (bytes : List ℕ) → IsPlanUnder words left left' p → IsFused f p → bytes ≡ f.bytes → AreModuleBytes words left left' bytes
with-module words left left' p f bytes u is e = record { plan = p; is_plan = u; fused = f; is_fused = is; is_bytes = e }

-- what was sent of a page
pub tells-plan : (words : List (List ℕ)) (left left' : Option (List ℕ)) (p : FusePlan) (Sent : List ℕ → Type 0) → IsPlanUnder words left left' p → (page : List ℕ) × IsPage p page × Sent page → TellsPlan words left left' Sent
tells-plan words left left' p Sent u h = record { plan = p; is_plan = u; page = h.0; is_page = h.1; sent = h.2 }
