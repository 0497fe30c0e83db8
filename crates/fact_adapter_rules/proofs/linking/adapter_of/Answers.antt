use Rattle.std.proofs.Common.{◌≡◌, inl, inr}
use Rattle.std.proofs.lemmas.Option.{slice_get-get_or}
use Rattle.std.specs.Prelude.{Some, slice_get}
use Rattle.fact_adapter_rules.proofs.LinkLaws.{adapter-links, copied, func-there}
use Rattle.fact_adapter_rules.proofs.linking.adapter_of.Goals as goal

pub bounds-as_slice-adapter-2 : goal.bounds-as_slice-adapter-2
bounds-as_slice-adapter-2 c = rw c.as_slice-2.ensures (func-there _ _ c.args.adapter.now.lift c.requires.types (λ h. c.requires.there (inr (inl h))))

pub bounds-as_slice-adapter-3 : goal.bounds-as_slice-adapter-3
bounds-as_slice-adapter-3 c = rw c.as_slice-3.ensures (func-there _ _ c.args.adapter.now.lower c.requires.types (λ h. c.requires.there (inr (inr h))))

pub returns-clause-links : goal.returns-clause-links
returns-clause-links c =
    let callee : slice_get c.args.plan.now.core_defs c.args.adapter.now.func ≡ Some c.in_ok-func.func = copied _ _ _ _ _ c.as_slice.ensures (λ h. c.requires.there (inl h)) c.index-as_slice-adapter.is c.in_ok-func.ensures in
    let lift = func-there _ _ c.args.adapter.now.lift c.requires.types (λ h. c.requires.there (inr (inl h))) in
    let lower = func-there _ _ c.args.adapter.now.lower c.requires.types (λ h. c.requires.there (inr (inr h))) in
    adapter-links _ _ _ _ callee
    (c.in-Ok.ensures _ (rw c.as_slice-2.ensures (slice_get-get_or _ _ _ lift)))
    (c.in-Ok-options_of.ensures _ (rw c.as_slice-3.ensures (slice_get-get_or _ _ _ lower)))

pub returns-clause-lift_ty : goal.returns-clause-lift_ty
returns-clause-lift_ty c =
    let lift = func-there _ _ c.args.adapter.now.lift c.requires.types (λ h. c.requires.there (inr (inl h))) in
    rw c.as_slice-2.ensures (slice_get-get_or _ _ _ lift)
