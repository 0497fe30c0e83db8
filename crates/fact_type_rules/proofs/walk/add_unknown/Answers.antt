use Rattle.std.proofs.Common.{◌≡◌, ◌++◌, ◌+◌, ◌∷◌, [], inr, sym, ap, subst, ◌∙◌, take, get_or, add-one}
use Rattle.std.proofs.Math.Seq.{take-suc}
use Rattle.std.proofs.lemmas.Map.Views.{Contains-from_any}
use Rattle.fact_types.specs.Exact.{exact_type}
use Rattle.fact_types.specs.declared.interface.InterfaceType.TheVariants as ty
use Rattle.fact_type_rules.specs.Walk.{PutsBehind}
use Rattle.fact_type_rules.proofs.WalkLaws.{known-added, one-added}
use Rattle.fact_type_rules.proofs.walk.add_unknown.Goals as goal
use Rattle.fact_type_rules.proofs.walk.add_unknown.Goals.{then-not-contains+in_ok-insert, else-not-contains}

pub loop-ty-preserved : goal.loop-ty-preserved
loop-ty-preserved c =
    let given = c.args.types.now in
    let i = c.loop-ty.ty-index in
    let x = get_or given i ty.Bool in
    let clean = c.args.clean.now.keys in
    let old = c.args.met.now.keys in
    let more : take i given ++ x ∷ [] ≡ take (i + 1) given = sym (ap (λ n. take n given) (add-one i) ∙ take-suc given i ty.Bool c.loop-ty-test.true) in
    elim c.if-not-contains.branch [
      | then-not-contains+in_ok-insert w ↦
          subst (λ keys. PutsBehind clean old keys (take (i + 1) given)) (sym (ap (λ s. s.keys) w.met-is ∙ w.in_ok-insert.ensures.keys))
          (subst (PutsBehind clean old _) more (one-added clean old c.loop-ty.met.keys (take i given) x c.loop-ty.invariant))
      | else-not-contains w ↦
          subst (λ keys. PutsBehind clean old keys (take (i + 1) given)) (sym (ap (λ s. s.keys) w.met-is))
          (subst (PutsBehind clean old _) more (known-added clean old c.loop-ty.met.keys (take i given) x c.loop-ty.invariant
          (inr (Contains-from_any exact_type x clean (sym c.contains.ensures ∙ w.if-not-contains.false)))))
    ]
