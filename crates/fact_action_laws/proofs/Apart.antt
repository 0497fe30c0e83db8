-- The calls of an honest run, taken apart: those of each transfer are honest by themselves, and those around leave memories.
use Rattle.std.proofs.Common.{◌≡◌, ℕ, false, List, [], ◌∷◌, ◌++◌, Option, Some, None, refl, ap, ◌∙◌, subst}
use Rattle.std.specs.Prelude.{if◌then◌else◌}
use Rattle.fact_types.specs.declared.outside.CoreDef.{CoreDef}
use Rattle.fact_types.proofs.ShapeLaws.{none_some}
use Rattle.fact_machine.specs.declared.types.CoreValue.{CoreValue}
use Rattle.fact_types.specs.declared.import.Import.{Import}
use Rattle.fact_types.specs.declared.import.Import.TheVariants as import
use Rattle.fact_types.specs.Adapters.{LinkedAdapter}
use Rattle.fact_actions.specs.Calls.{is_import_of, is_call_of_any, state_after}
use Rattle.fact_actions.specs.Honest.{AreHonest, IsHonestBy, LeavesMemories}
use Rattle.fact_actions.specs.Regions.{Position, landed, results_landing, given_region, given_up, without, moved_on, sync_moved_on}
use Rattle.fact_actions.specs.Running.{ImportPlaces, Call}
use Rattle.fact_action_laws.proofs.Framed.{Follow, IsAround, AreAround}
use Rattle.fact_actions.specs.Sides.{options_of}
use Rattle.fact_action_laws.proofs.Once.{NoneCalls}

-- how far a transfer has come behind calls
abbrev pub advance : (next : Call → Position → Position) → Position → List Call → Position
advance next x [] = x
advance next x (c ∷ cs) = advance next (next c x) cs

module _ (p : ImportPlaces) (a : LinkedAdapter) where
  pub honest_apart : (next : Call → Position → Position) (x : Position) (cs ds : List Call) → AreHonest p a next x (cs ++ ds) → AreHonest p a next x cs × AreHonest p a next (advance next x cs) ds
  honest_apart next x [] ds h = (tt, h)
  honest_apart next x (c ∷ cs) ds h = let r = honest_apart next (next c x) cs ds h.2 in ((h.0, h.1, r.0), r.1)

  module _ (args : List CoreValue) where
    -- calls of which none is of the callee go on with their transfer
    pub within_transfer : (x : Position) (cs : List Call) → NoneCalls a cs → AreHonest p a (sync_moved_on a args) x cs → AreHonest p a moved_on x cs
    within_transfer x [] n h = tt
    within_transfer x (c ∷ cs) n h =
        (h.0, h.1, within_transfer (moved_on c x) cs n.1 (subst (λ b. AreHonest p a (sync_moved_on a args) (if b then landed (results_landing a args) else moved_on c x) cs) n.0 h.2))

    -- ---- calls around

    no_def : (i : Import) (d : CoreDef) → IsAround None i → is_import_of d i ≡ false
    no_def (import.CoreDef e) d h = absurd (none_some None e refl h)
    no_def (import.Transcode o from from64 to to64) d h = refl
    no_def (import.PrepareCall m) d h = refl
    no_def (import.StartCall f g) d h = refl
    no_def import.ResourceTransferOwn d h = refl
    no_def import.ResourceTransferBorrow d h = refl
    no_def import.FutureTransfer d h = refl
    no_def import.StreamTransfer d h = refl
    no_def import.ErrorContextTransfer d h = refl
    no_def (import.Trap t) d h = refl
    no_def import.EnterSyncCall d h = refl
    no_def import.ExitSyncCall d h = refl
    no_def (import.UnsafeIntrinsic s) d h = refl

    no_request : (r : Option CoreDef) (c : Call) → IsAround None c.what → is_call_of_any r c ≡ false
    no_request None c h = refl
    no_request (Some d) c h = no_def c.what d h

    stays : (x : Position) (c : Call) → IsAround None c.what → sync_moved_on a args c x ≡ x
    stays x c h =
        ap (λ b. if b then landed (results_landing a args) else moved_on c x) (no_def c.what a.callee h)
        ∙ ap (λ b. if b then record x { live = given_region c ∷ without (given_up c) x.live } else x) (no_request x.landing.to.realloc c h)

    pub around_stays : (x : Position) (cs : List Call) → AreAround None cs → advance (sync_moved_on a args) x cs ≡ x
    around_stays x [] h = refl
    around_stays x (c ∷ cs) h = ap (λ y. advance (sync_moved_on a args) y cs) (stays x c h.0) ∙ around_stays x cs h.1

    leaves : (i : Import) (x : Position) (c : Call) → IsAround None i → IsHonestBy i p (options_of a.lower) a.lift.post_return x c → LeavesMemories c
    leaves (import.CoreDef e) x c h k = absurd (none_some None e refl h)
    leaves (import.Transcode o from from64 to to64) x c h k = absurd h
    leaves (import.PrepareCall m) x c h k = absurd h
    leaves (import.StartCall f g) x c h k = absurd h
    leaves import.ResourceTransferOwn x c h k = k
    leaves import.ResourceTransferBorrow x c h k = k
    leaves import.FutureTransfer x c h k = k
    leaves import.StreamTransfer x c h k = k
    leaves import.ErrorContextTransfer x c h k = k
    leaves (import.Trap t) x c h k = k
    leaves import.EnterSyncCall x c h k = k
    leaves import.ExitSyncCall x c h k = k
    leaves (import.UnsafeIntrinsic s) x c h k = k

    -- What is called before and between transfers leaves the memories.
    pub around_leaves : (next : Call → Position → Position) (x : Position) (first : List (List ℕ)) (cs : List Call) (last : List (List ℕ)) → AreAround None cs → Follow first cs last → AreHonest p a next x cs → last ≡ first
    around_leaves next x first [] last h f k = f
    around_leaves next x first (c ∷ cs) last h f k = around_leaves next (next c x) (state_after c).memories cs last h.1 f.1 k.2 ∙ leaves c.what x c h.0 k.1 ∙ f.0
