-- Honest answers of transcoders, and of all else where that is asked; and how a transfer goes on from call to call.
use Rattle.std.proofs.Common.{◌≡◌, false, List, [], ◌∷◌, Option, Some, None, refl, ap, ◌∙◌}
use Rattle.std.specs.Prelude.{if◌then◌else◌}
use Rattle.fact_types.specs.declared.import.Import.{Import}
use Rattle.fact_types.specs.declared.import.Import.TheVariants as import
use Rattle.fact_types.specs.declared.outside.CoreDef.{CoreDef}
use Rattle.fact_machine.specs.declared.types.Answer.{Answer}
use Rattle.fact_machine.specs.declared.types.Answer.TheVariants.{Returns, Traps, Throws}
use Rattle.fact_machine.specs.declared.types.CoreValue.{CoreValue}
use Rattle.fact_machine.specs.declared.types.MachineState.{MachineState}
use Rattle.fact_actions.specs.Calls.{is_import_of, is_call_of_any}
use Rattle.fact_actions.specs.Order.{IsMemoryOf}
use Rattle.fact_actions.specs.Regions.{Region, Position, given_region, given_up, without, moved_on}
use Rattle.fact_actions.proofs.OwnParts.{same_self, first_number}
use Rattle.fact_actions.specs.Running.{Call}
use Rattle.fact_action_laws.specs.HonestMoves.{IsTranscoded, IsHonestResult}
use Rattle.fact_action_laws.specs.Regions.{TransferSetting, request_by, old_region, region_from, regions_by}

-- Honest answers of transcoders between the memories of the two sides; and of all else where Kept holds, which then does not throw. A call
-- that traps is the last of a run.
abbrev pub IsReturnHonest : (Kept : Type 0) → TransferSetting → List Region → Import → (args results : List CoreValue) → (before after : MachineState) → Type 0
IsReturnHonest Kept c gs (import.Transcode o from from64 to to64) args rs before after =
    IsMemoryOf c.transfer.from from from64 → IsMemoryOf c.transfer.to to to64 → IsTranscoded c o (record { what = import.Transcode o from from64 to to64; args = args; before = before; answer = Returns rs after })
IsReturnHonest Kept c gs i args rs before after = Kept → IsHonestResult c gs i args rs before after

abbrev pub IsAnswerHonest : (Kept : Type 0) → TransferSetting → List Region → Import → List CoreValue → MachineState → Answer → Type 0
IsAnswerHonest Kept c gs i args before (Returns rs after) = IsReturnHonest Kept c gs i args rs before after
IsAnswerHonest Kept c gs i args before Traps = Unit {0}
IsAnswerHonest Kept c gs i args before Throws = Kept → ⊥

abbrev pub AreAnswersHonest : (Kept : Type 0) → TransferSetting → List Region → List Call → Type 0
AreAnswersHonest Kept c gs [] = Unit {0}
AreAnswersHonest Kept c gs (x ∷ cs) = IsAnswerHonest Kept c gs x.what x.args x.before x.answer × AreAnswersHonest Kept c (regions_by x.what x.args x.answer gs) cs

-- ---- from call to call

-- how far a transfer has come, by what realloc gave
abbrev pub position : TransferSetting → List Region → Position
position c gs = record { landing = record { from = c.transfer.from; to = c.transfer.to; area = c.area }; live = gs }

abbrev pub position_after : (next : Call → Position → Position) → Position → List Call → Position
position_after next x [] = x
position_after next x (k ∷ cs) = position_after next (next k x) cs

-- The calls of a transfer lead on from place to place as it says.
pub record MovesAlong (c : TransferSetting) (next : Call → Position → Position) : Type 0 where
  pub by_other : (k : Call) (x : Position) → ((d : CoreDef) → is_import_of d k.what ≡ false) → next k x ≡ moved_on k x
  pub by_realloc : (k : Call) (x : Position) (f : CoreDef) → c.transfer.to.realloc ≡ Some f → k.what ≡ import.CoreDef f → next k x ≡ moved_on k x

-- ---- one call

no_request : (r : Option CoreDef) (k : Call) → ((d : CoreDef) → is_import_of d k.what ≡ false) → is_call_of_any r k ≡ false
no_request None k h = refl
no_request (Some d) k h = h d

-- a call that asks for no region
pub other_stays : {c : TransferSetting} {next : Call → Position → Position} (steps : MovesAlong c next) (k : Call) (x : Position) → ((d : CoreDef) → is_import_of d k.what ≡ false) → next k x ≡ x
other_stays steps k x h =
    steps.by_other k x h ∙ ap (λ b. if b then record x { live = given_region k ∷ without (given_up k) x.live } else x) (no_request x.landing.to.realloc k h)

-- one that asks for one
pub realloc_moves : {c : TransferSetting} {next : Call → Position → Position} (steps : MovesAlong c next) (f : CoreDef) (args rs : List CoreValue) (before after : MachineState) (gs : List Region) → c.transfer.to.realloc ≡ Some f
    → next (record { what = import.CoreDef f; args = args; before = before; answer = Returns rs after }) (position c gs) ≡ position c (regions_by (import.CoreDef f) args (Returns rs after) gs)
realloc_moves {c} steps f args rs before after gs is =
    steps.by_realloc k (position c gs) f is refl
    ∙ ap (λ b. if b then record (position c gs) { live = given_region k ∷ without (given_up k) gs } else position c gs) (ap (λ o. is_call_of_any o k) is ∙ same_self f)
    ∙ ap (λ q. position c (region_from (request_by args) q ∷ without (old_region (request_by args)) gs)) (first_number rs)
  where
    k : Call
    k = record { what = import.CoreDef f; args = args; before = before; answer = Returns rs after }
