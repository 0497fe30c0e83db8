-- What the bytes of a plan come to, and the ends to which they lead.
use Rattle.std.proofs.Common.{◌≡◌, ℕ, ◌≤◌, Bool, List, Some, Result, Ok, Err, ◌⊎◌, inl, inr, ap, sym, subst, ◌∙◌, arith, [], IfOk, IfErr, OnOk, MatchResult, length, refl}
use Rattle.serde_json.specs.Data.{Data}
use Rattle.fact_plan.specs.declared.plan.FusePlan.{FusePlan}
use Rattle.fact_plan.specs.declared.fault.PlanFault.{PlanFault}
use Rattle.fact_plan.specs.declared.fault.PlanFault.TheVariants as fault
use Rattle.fact_plan.specs.Fault.{IsNotMemory, UnlessMemory}
use Rattle.fact_plan.specs.Plan.{plan_of}
use Rattle.fact_plan.specs.Reading.{value_in}
use Rattle.fact_command.specs.declared.status.Status.{Status}
use Rattle.fact_command.specs.declared.status.Status.TheVariants as status
use Rattle.fact_command.specs.Command.{least_fuel, most_fuel}
use Rattle.fact_command.specs.Status.{exit_status_of}
use Rattle.fact_plan_types.specs.declared.error.Place.{Place}
use Rattle.fact_plan_types.specs.Faults.{Fault}
use Rattle.fact_adapter_rules.specs.FirstFault.{IsFaultlessPlan, IsFirstAt}
use Rattle.fact_adapter_rules.proofs.FaultLaws.{faultless-first}
use Rattle.fact_types.proofs.ShapeLaws.{none_some}
use Rattle.fact_emit.proofs.Named.{named-lengths}
use Rattle.fact_module.specs.declared.fusion.Fused.{Fused}
use Rattle.fact_plan.specs.Inputs.{HoldsBadPlan, HoldsNoJson, HoldsPlan, IsTooLong, limit}
use Rattle.fact_adapter_rules.specs.Inputs.{HoldsFaultless, HoldsRefusal}
use Rattle.fact_library.specs.declared.compiling.Compiled.{Compiled}
use Rattle.fact_library.specs.declared.errors.CompileError.{CompileError}
use Rattle.fact_library.specs.declared.errors.CompileError.TheVariants as error
use Rattle.fact_library.specs.declared.giving.Sizes.{Sizes}
use Rattle.fact_records.specs.declared.records.ImportRecord.{ImportRecord}
use Rattle.fact_library.specs.Giving.{Gift, IsFuel, IsGiven, IsHandedOver, IsNumber, LeadsTo, gift_of_error, gift_of_module, no_gift, no_room}
use Rattle.fact_library.specs.Compiling.{EndsAs, HoldsModule, IsCompiled, IsErrorOf, IsModuleOf, IsOrMemory, status_in, status_of_error}
use Rattle.fact_library.specs.Errors.{EndsAsFault, IsErrorOfPlan}

-- said of a fault that is no want of memory
unless : (f : PlanFault) (P : Type 0) → IsNotMemory f → UnlessMemory f P → P
unless fault.OutOfMemory P n h = absurd n
unless (fault.Missing path) P n h = h
unless (fault.UnknownKey path) P n h = h
unless (fault.WrongKind path) P n h = h
unless (fault.OutOfRange path) P n h = h

-- a fault that the bytes hold
pub error-of-fault : (bytes : List ℕ) (v : Data) (f : PlanFault) (e : CompileError) → length bytes ≤ limit → value_in bytes ≡ Some v → UnlessMemory f (plan_of v ≡ Err f) → EndsAsFault f e → IsErrorOf bytes e
error-of-fault bytes v f (error.BadPlan line) within j h e = (f, record { within = within; value = v; is_json = j; is_fault = unless f (plan_of v ≡ Err f) e.0 h }, e.1)
error-of-fault bytes v f error.OutOfMemory within j h e = within
error-of-fault bytes v f error.TooLong within j h e = absurd e
error-of-fault bytes v f error.NotJson within j h e = absurd e
error-of-fault bytes v f (error.Refused line) within j h e = absurd e

-- a plan that the bytes hold, and that has a fault
pub error-of-plan : (bytes : List ℕ) (p : FusePlan) (e : CompileError) → HoldsPlan bytes p → IsErrorOfPlan p e → IsErrorOf bytes e
error-of-plan bytes p (error.Refused line) h e = (e.0, e.1, record { plan = p; is_plan = h; is_first = e.2 }, e.3)
error-of-plan bytes p error.OutOfMemory h e = h.within
error-of-plan bytes p error.TooLong h e = absurd e
error-of-plan bytes p error.NotJson h e = absurd e
error-of-plan bytes p (error.BadPlan line) h e = absurd e

-- ---- a module

-- the module of a plan that the bytes hold, or why it has none
pub module-in : (debug : Bool) (fuel : ℕ) (bytes : List ℕ) (p : FusePlan) (r : Result Fused CompileError) → HoldsPlan bytes p → OnOk r (IsFaultlessPlan p) → IfOk r (λ f. IsModuleOf debug fuel p f) → IfErr r (λ e. IsErrorOfPlan p e)
    → MatchResult r (λ f. HoldsModule debug fuel bytes f) (λ e. IsErrorOf bytes e)
module-in debug fuel bytes p (Ok f) h sound made other = record { plan = p; holds = h; faultless = sound; made = made }
module-in debug fuel bytes p (Err e) h sound made other = error-of-plan bytes p e h other

-- its section has one import for each that is known
pub even : (debug : Bool) (fuel : ℕ) (bytes : List ℕ) (f : Fused) → HoldsModule debug fuel bytes f → length f.module.imports ≡ length f.imports
even debug fuel bytes f h = named-lengths f.module.types _ [] f.module.imports f.imports h.made.fused.promised.faithful.imports.named

-- what holds of it holds of it with its records
pub holds-compiled : (debug : Bool) (fuel : ℕ) (bytes : List ℕ) (f : Fused) (c : Compiled) → HoldsModule debug fuel bytes f → IsCompiled c f → HoldsModule debug fuel bytes c.fused
holds-compiled debug fuel bytes f c h is = subst (HoldsModule debug fuel bytes) (sym is.fused) h

pub own-records : (f : Fused) (c : Compiled) → IsCompiled c f → IsCompiled c c.fused
own-records f c is = subst (IsCompiled c) (sym is.fused) is

-- ---- the other way round: the bytes hold one of these

too-long : (bytes : List ℕ) (e : CompileError) → IsErrorOf bytes e → IsTooLong bytes → status_of_error e ≡ status.TooLong
too-long bytes error.TooLong h x = refl
too-long bytes error.NotJson h x = absurd (omega (arith, h.within))
too-long bytes (error.BadPlan line) h x = absurd (omega (arith, h.1.within))
too-long bytes (error.Refused line) h x = absurd (omega (arith, h.2.is_plan.within))
too-long bytes error.OutOfMemory h x = absurd (omega (arith, h))

not-json : (bytes : List ℕ) (e : CompileError) → IsErrorOf bytes e → HoldsNoJson bytes → IsOrMemory status.NotJson (status_of_error e)
not-json bytes error.TooLong h x = absurd (omega (arith, x.within))
not-json bytes error.NotJson h x = inl refl
not-json bytes (error.BadPlan line) h x = absurd (none_some (value_in bytes) h.1.value x.no_json h.1.is_json)
not-json bytes (error.Refused line) h x = absurd (none_some (value_in bytes) h.2.is_plan.value x.no_json h.2.is_plan.is_json)
not-json bytes error.OutOfMemory h x = inr refl

-- the bytes hold no value that is a plan and has a fault
not-both : (bytes : List ℕ) (f : PlanFault) (p : FusePlan) → HoldsBadPlan bytes f → HoldsPlan bytes p → ⊥
not-both bytes f p h k =
    let values : h.value ≡ k.value = cc (h.is_json, k.is_json) in
    err_ok f p (sym h.is_fault ∙ ap plan_of values ∙ k.is_input)
  where
    err_ok : (f : PlanFault) (p : FusePlan) → Err f ≡ Ok p → ⊥
    err_ok f p e = cc

-- they hold one plan
one-plan : (bytes : List ℕ) (p q : FusePlan) → HoldsPlan bytes p → HoldsPlan bytes q → p ≡ q
one-plan bytes p q h k =
    let values : h.value ≡ k.value = cc (h.is_json, k.is_json) in
    cc (h.is_input, k.is_input, ap plan_of values)

-- and none that has a fault and none
not-sound : (bytes : List ℕ) (p : FusePlan) (f : Fault) (place : Place) → HoldsPlan bytes p → IsFaultlessPlan p → HoldsRefusal bytes f place → ⊥
not-sound bytes p f place h sound r = faultless-first p f place sound (subst (λ x. IsFirstAt x f place) (one-plan bytes r.plan p r.is_plan h) r.is_first)

bad-plan : (bytes : List ℕ) (e : CompileError) → IsErrorOf bytes e → ((f : PlanFault) × HoldsBadPlan bytes f) → IsOrMemory status.BadPlan (status_of_error e)
bad-plan bytes error.TooLong h x = absurd (omega (arith, x.1.within))
bad-plan bytes error.NotJson h x = absurd (none_some (value_in bytes) x.1.value h.no_json x.1.is_json)
bad-plan bytes (error.BadPlan line) h x = inl refl
bad-plan bytes (error.Refused line) h x = absurd (not-both bytes x.0 h.2.plan x.1 h.2.is_plan)
bad-plan bytes error.OutOfMemory h x = inr refl

-- a plan that the bytes hold, where there is another error than a refusal
not-plan : (bytes : List ℕ) (p : FusePlan) (e : CompileError) → IsErrorOf bytes e → HoldsPlan bytes p → (status_of_error e ≡ status.Refused) ⊎ (status_of_error e ≡ status.OutOfMemory)
not-plan bytes p error.TooLong h x = absurd (omega (arith, x.within))
not-plan bytes p error.NotJson h x = absurd (none_some (value_in bytes) x.value h.no_json x.is_json)
not-plan bytes p (error.BadPlan line) h x = absurd (not-both bytes h.0 p h.1 x)
not-plan bytes p (error.Refused line) h x = inl refl
not-plan bytes p error.OutOfMemory h x = inr refl

not-refused : (bytes : List ℕ) (e : CompileError) → IsErrorOf bytes e → HoldsFaultless bytes → status_of_error e ≡ status.OutOfMemory
not-refused bytes error.TooLong h x = absurd (omega (arith, x.is_plan.within))
not-refused bytes error.NotJson h x = absurd (none_some (value_in bytes) x.is_plan.value h.no_json x.is_plan.is_json)
not-refused bytes (error.BadPlan line) h x = absurd (not-both bytes h.0 x.plan h.1 x.is_plan)
not-refused bytes (error.Refused line) h x = absurd (not-sound bytes x.plan h.0 h.1 x.is_plan x.faultless h.2)
not-refused bytes error.OutOfMemory h x = refl

-- what the bytes hold decides the end
pub ends-as : (debug : Bool) (fuel : ℕ) (bytes : List ℕ) (r : Result Compiled CompileError) → IfOk r (λ c. HoldsModule debug fuel bytes c.fused) → IfErr r (λ e. IsErrorOf bytes e) → EndsAs bytes (status_in r)
ends-as debug fuel bytes (Ok c) h k = record {
  too_long = λ x. absurd (omega (arith, h.holds.within));
  not_json = λ x. absurd (none_some (value_in bytes) h.holds.value x.no_json h.holds.is_json);
  bad_plan = λ x. absurd (not-both bytes x.0 h.plan x.1 h.holds);
  refused = λ x. absurd (not-sound bytes h.plan x.0 x.1 h.holds h.faultless x.2);
  faultless = λ x. inl refl;
}
ends-as debug fuel bytes (Err e) h k = record {
  too_long = too-long bytes e k;
  not_json = not-json bytes e k;
  bad_plan = bad-plan bytes e k;
  refused = λ x. not-plan bytes x.2.plan e k x.2.is_plan;
  faultless = λ x. inr (not-refused bytes e k x);
}

-- ---- numbers of statuses

-- where it is no want of memory
number-alone : (wanted s : Status) (n : ℕ) → (n ≡ exit_status_of s) ⊎ (n ≡ no_room) → s ≡ wanted → (n ≡ exit_status_of wanted) ⊎ (n ≡ no_room)
number-alone wanted s n (inl e) same = inl (e ∙ ap exit_status_of same)
number-alone wanted s n (inr e) same = inr e

number-of : (wanted s : Status) (n : ℕ) → (n ≡ exit_status_of s) ⊎ (n ≡ no_room) → IsOrMemory wanted s → IsNumber (exit_status_of wanted) n
number-of wanted s n (inl e) (inl same) = inl (e ∙ ap exit_status_of same)
number-of wanted s n (inl e) (inr memory) = inr (inl (e ∙ ap exit_status_of memory))
number-of wanted s n (inr e) h = inr (inr e)

leads-to : (bytes : List ℕ) (s : Status) (n : ℕ) → (n ≡ exit_status_of s) ⊎ (n ≡ no_room) → EndsAs bytes s → LeadsTo bytes n
leads-to bytes s n e h = record {
  too_long = λ x. number-alone status.TooLong s n e (h.too_long x);
  not_json = λ x. number-of status.NotJson s n e (h.not_json x);
  bad_plan = λ x. number-of status.BadPlan s n e (h.bad_plan x);
  refused = λ x. number-of status.Refused s n e (h.refused x);
  faultless = λ x. number-of status.Done s n e (h.faultless x);
}

-- the number of what was handed over, or that there was no room
number-given : (g : Gift) (sizes : Sizes) (bytes bytes' : List ℕ) (records records' : List ImportRecord) (text text' : List ℕ) (n : ℕ) → IsHandedOver g sizes bytes bytes' records records' text text' n
    → (n ≡ g.status) ⊎ (n ≡ no_room)
number-given g sizes bytes bytes' records records' text text' n h = elim h.is_so [ inl written ↦ inl written.status | inr kept ↦ inr kept.status ]

-- ---- what is handed over

pub given_module : {debug : Bool} {fuel : ℕ} {plan : List ℕ} {c : Compiled} {told : Sizes} {b b' : List ℕ} {r r' : List ImportRecord} {t t' : List ℕ} {n : ℕ}
    → IsHandedOver (gift_of_module c) told b b' r r' t t' n → HoldsModule debug fuel plan c.fused → IsCompiled c c.fused → least_fuel ≤ fuel → fuel ≤ most_fuel → IsGiven debug fuel plan told b b' r r' t t' n
given_module {c = c} g h is least most = record {
  gift = gift_of_module c;
  gives = inl (record { may = record { least = least; most = most }; compiled = c; holds = h; is_compiled = is; is = refl });
  handed_over = g;
}

pub given_line : {debug : Bool} {fuel : ℕ} {plan : List ℕ} (e : CompileError) {told : Sizes} {b b' : List ℕ} {r r' : List ImportRecord} {t t' : List ℕ} {n : ℕ}
    → IsHandedOver (gift_of_error e) told b b' r r' t t' n → IsErrorOf plan e → least_fuel ≤ fuel → fuel ≤ most_fuel → IsGiven debug fuel plan told b b' r r' t t' n
given_line e g why least most = record {
  gift = gift_of_error e;
  gives = inr (inl (record { may = record { least = least; most = most }; error = e; why = why; is = refl }));
  handed_over = g;
}

pub given_nothing : {debug : Bool} {fuel : ℕ} {plan : List ℕ} {told : Sizes} {b b' : List ℕ} {r r' : List ImportRecord} {t t' : List ℕ} {n : ℕ}
    → IsHandedOver no_gift told b b' r r' t t' n → (IsFuel fuel → ⊥) → IsGiven debug fuel plan told b b' r r' t t' n
given_nothing g none = record { gift = no_gift; gives = inr (inr (record { may_not = none; is = refl })); handed_over = g }

-- the number of what was handed over is that of the end to which the bytes lead
pub leads_given : {plan : List ℕ} {s : Status} {g : Gift} {told : Sizes} {b b' : List ℕ} {r r' : List ImportRecord} {t t' : List ℕ} {n : ℕ}
    → IsHandedOver g told b b' r r' t t' n → EndsAs plan s → g.status ≡ exit_status_of s → LeadsTo plan n
leads_given {plan = plan} {s = s} {g = g} {told = told} {b = b} {b' = b'} {r = r} {r' = r'} {t = t} {t' = t'} {n = n} h ends same =
    leads-to plan s n (elim (number-given g told b b' r r' t t' n h) [ inl e ↦ inl (e ∙ same) | inr e ↦ inr e ]) ends
