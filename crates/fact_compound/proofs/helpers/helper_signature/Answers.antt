use Rattle.std.proofs.Common.{ap, subst, sym, ◌++◌, ◌∙◌}
use Rattle.fact_types.specs.Tables.{HasShape, IsLive}
use Rattle.fact_compound.specs.Helpers.{target_params}
use Rattle.fact_compound.proofs.HelperFunctions.{side_params}
use Rattle.fact_compound.proofs.helpers.helper_signature.Goals as goal

pub helper_params-requires : goal.helper_params-requires
helper_params-requires c = subst (λ t. IsLive t c.args.helper.now.src.ty) (sym c.component_types.ensures) c.requires.from_live

pub returns : goal.returns
returns c = record {
  params = λ x h counted few.
      let k = c.args.helper.now in
      let shaped = subst (λ t. HasShape t k.src.ty x) (sym c.component_types.ensures) h in
      c.in_ok-add_address.ensures ∙ ap (λ ts. ts ++ target_params k.dst.loc k.dst.opts.linear.memory64) (c.in_ok-params.ensures x shaped ∙ side_params k.src x counted few);
  results = c.in_ok-results.ensures;
}
