use Rattle.std.proofs.Common.{◌≡◌, ◌∙◌, List, ap, get_or, subst, sym}
use Rattle.std.proofs.lemmas.Bool.{false≢true}
use Rattle.std.proofs.lemmas.Option.{get_or_from_slice_get}
use Rattle.fact_types.specs.declared.interface.InterfaceType.{InterfaceType}
use Rattle.fact_types.specs.declared.interface.InterfaceType.TheVariants as ty
use Rattle.fact_types.specs.Tables.{HasShape, Tables, node_of}
use Rattle.fact_type_rules.specs.Walk.{PutsBehind, types_of_node}
use Rattle.fact_type_rules.proofs.walk.finds_fault.Goals as goal

pub returns-then-branch : goal.returns-then-branch
returns-then-branch c = λ x at s h.
    let is : get_or c.as_slice.result.now c.args.at ty.Bool ≡ x = rw c.as_slice.ensures.keys (get_or_from_slice_get c.args.met.now.keys c.args.at x ty.Bool at) in
    (c.in_ok-are_broken_by.ensures s (subst (λ (y : InterfaceType). HasShape c.args.builder.now.tables y s) (sym is) h)).0 c.if-branch.true

pub returns : goal.returns
returns c = λ x at.
    let t = c.args.builder.now.tables in
    let is : get_or c.as_slice.result.now c.args.at ty.Bool ≡ x = rw c.as_slice.ensures.keys (get_or_from_slice_get c.args.met.now.keys c.args.at x ty.Bool at) in
    record {
      kept = λ s h b. false≢true (sym c.if-branch.false ∙ (c.in_ok-are_broken_by.ensures s (subst (λ (y : InterfaceType). HasShape t y s) (sym is) h)).1 b);
      adds = subst (λ (given : List InterfaceType). PutsBehind c.args.clean.now.keys c.args.met.now.keys c.add_unknown.new.met.keys given)
          (c.as_slice-2.ensures.value ∙ c.in_ok-members.ensures ∙ ap (λ (u : Tables). types_of_node (node_of u (get_or c.as_slice.result.now c.args.at ty.Bool))) c.component_types.ensures ∙ ap (λ (y : InterfaceType). types_of_node (node_of t y)) is)
          c.in_ok-add_unknown.ensures;
    }
