use Rattle.std.proofs.Common.{sym, ◌∙◌, ap}
use Rattle.std.specs.Prelude.{flat_map, option_to_list}
use Rattle.fact_convert.specs.Tasks.{member_types}
use Rattle.fact_convert.proofs.Listing.{answered_as}
use Rattle.fact_convert.proofs.members.member_types.Goals as goal

pub returns-in-Variant : goal.returns-in-Variant
returns-in-Variant c = answered_as _ _ _ (ap (flat_map (λ x. option_to_list x.1)) c.as_slice-in-Variant.ensures ∙ ap member_types (sym c.in-Variant.is)) c.payloads_of.ensures

pub returns-in-Tuple : goal.returns-in-Tuple
returns-in-Tuple c = answered_as _ _ _ (c.as_slice-in-Tuple.ensures ∙ ap member_types (sym c.in-Tuple.is)) c.copied.ensures
