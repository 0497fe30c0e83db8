use Rattle.std.proofs.Common.{◌++◌, ◌∷◌, [], None, sym, ap, ◌∙◌, take, List, add-one, Vec, Global}
use Rattle.std.proofs.Math.Seq.{take-suc}
use Rattle.fact_types.specs.declared.interface.InterfaceType.{InterfaceType}
use Rattle.fact_types.specs.Layout.{payloads}
use Rattle.fact_type_rules.proofs.ListLaws.{payloads-none, payloads-some}
use Rattle.fact_type_rules.proofs.members.payloads_of.Goals as goal
use Rattle.fact_type_rules.proofs.members.payloads_of.Goals.{in-Some+in_ok-push, in_default}

items : Vec InterfaceType Global → List InterfaceType
items v = v.items

pub loop-payload-preserved : goal.loop-payload-preserved
unfolding items
loop-payload-preserved c =
    let os = c.as_slice-payload-items.result.now in
    let i = c.loop-payload.payload-index in
    let more = ap (λ n. payloads (take n os)) (add-one i) ∙ ap payloads (take-suc os i None c.loop-payload-test.true) in
    elim c.match-payload.branch [
      | in-Some+in_ok-push w ↦
          ap items w.types-is ∙ w.in_ok-push.ensures.items ∙ ap (λ ts. ts ++ w.in-Some.ty ∷ []) c.loop-payload.invariant
          ∙ sym (more ∙ ap (λ o. payloads (take i os ++ o ∷ [])) w.in-Some.is ∙ payloads-some (take i os) w.in-Some.ty)
      | in_default w ↦ ap items w.types-is ∙ c.loop-payload.invariant ∙ sym (more ∙ ap (λ o. payloads (take i os ++ o ∷ [])) w.in_default.is ∙ payloads-none (take i os))
    ]
