-- No call of a run is answered by a trap, where transcoders read whole texts and no trap is called.
use Rattle.std.proofs.Common.{◌≡◌, ◌⊎◌, inl, inr, Bool, Some, None, refl}
use Rattle.fact_types.specs.declared.outside.CoreDef.{CoreDef}
use Rattle.fact_types.specs.declared.outside.Transcode.{Transcode}
use Rattle.fact_types.specs.declared.import.Import.TheVariants as import
use Rattle.fact_machine.specs.Typed.{TypedState}
use Rattle.fact_action_laws.specs.ReadTexts.{ReadsText}
use Rattle.fact_host.specs.declared.roles.Role.{Role}
use Rattle.fact_host.specs.declared.roles.Role.TheVariants as role
use Rattle.fact_host.specs.Describes.{IsImportOf}
use Rattle.fact_host.specs.Roles.{IsNamedRole, role_by_place}
use Rattle.fact_host.specs.Rules.{Answers}
use Rattle.fact_call_laws.proofs.Back.{lower_realloc}
use Rattle.fact_call_laws.proofs.Bridge.{IsAt}
use Rattle.fact_call_laws.proofs.Calling.{callee}
use Rattle.fact_call_laws.proofs.Fits.{lift_realloc}
use Rattle.fact_call_laws.proofs.Reading.{goes_on}
use Rattle.fact_call_laws.proofs.Refused.{never}
use Rattle.fact_call_laws.proofs.Setting.{Called, Setting, is_import, names, places}
use Rattle.fact_call_laws.proofs.Trapped.{AtTrap, last_call, role_is}
use Rattle.fact_call_laws.proofs.Untrapped.{no_trap}

module _ (x : Setting) (h : Called x) (t : AtTrap x h) where
  -- If the last call is a transcoder's, it is to read a whole text.
  abbrev pub ReadsWhole : Type 0
  ReadsWhole = (o : Transcode) (from : CoreDef) (from64 : Bool) (to : CoreDef) (to64 : Bool) → names x t.event.func ≡ import.Transcode o from from64 to to64 → ReadsText (places x) o from (last_call x h t)

  -- a role of a place is at it
  placed : (r : Role) → (IsNamedRole x.code t.named.0 r → ⊥) → IsAt x.call t.event.func r ⊎ (IsNamedRole x.code t.named.0 r × (role_by_place x.call t.event.func ≡ None)) → IsAt x.call t.event.func r
  placed r none (inl at) = at
  placed r none (inr by) = absurd (none by.0)

  pub never_trapped : TypedState x.code t.event.before → ReadsWhole → ⊥
  never_trapped seen reads = by t.role refl (is_import x h t.event.func t.role t.named) (role_is x.code x.call t.event.func t.named.0 t.role t.named.2) t.rule
    where
      by : (r : Role) → t.role ≡ r → IsImportOf (places x) x.adapter r (names x t.event.func) → IsAt x.call t.event.func r ⊎ (IsNamedRole x.code t.named.0 r × (role_by_place x.call t.event.func ≡ None)) → Answers x.call x.shapes (Some x.answered) r t.last t.event t.behind → ⊥
      by role.Callee e what at rule = callee x h t what rule
      by role.LiftRealloc e what at rule = lift_realloc x h t what (placed role.LiftRealloc (λ z. z) at) rule
      by role.LowerRealloc e what at rule = lower_realloc x h t what (placed role.LowerRealloc (λ z. z) at) rule
      by role.PostReturn e what at rule = rule.traps.0 t.traps
      by (role.Transcoder o from from64 to to64) e what at rule = goes_on x h t o from from64 to to64 e (λ d g is. reads o d from64 g to64 is) (rule.traps.0 t.traps)
      by role.Transfer e what at rule = rule.traps.0 t.traps
      by role.Slot e what at rule = rule.traps.0 t.traps
      by role.Told e what at rule = rule.traps.0 t.traps
      by role.Refused e what (inl at) rule = at
      by role.Refused e what (inr named) rule = never x h t t.named.0 t.named.1 named.1 named.0 (no_trap x h t seen)
