use Rattle.std.proofs.Common.{◌∙◌, ap, subst, sym}
use Rattle.fact_values.specs.Texts.{AreSpelled, spelled_text}
use Rattle.fact_host.proofs.Transcoding.{all_can, made_all}
use Rattle.fact_host.proofs.transcoders.all_units.Goals as goal

pub spelled-requires : goal.spelled-requires
spelled-requires c = λ e. subst (λ z. AreSpelled z c.args.text.now) (sym c.to_encoding.ensures ∙ e) (all_can c.args.op c.args.text.now c.requires.kind c.requires.spelled)

pub returns : goal.returns
returns c = made_all c.args.op c.args.text.now c.in_ok-spelled.field-0.items c.requires.kind c.requires.spelled (c.in_ok-spelled.ensures ∙ ap (λ e. spelled_text e c.args.text.now) c.to_encoding.ensures)
