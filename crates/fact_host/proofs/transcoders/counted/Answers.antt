use Rattle.std.proofs.Common.{◌≡◌, ◌∙◌, ap, arith, subst, sym}
use Rattle.fact_values.specs.Texts.{AreSpelled, spelled_text, unit_bytes}
use Rattle.fact_actions.specs.Transcoders.{to_encoding}
use Rattle.fact_host.proofs.Transcoded.{units_are}
use Rattle.fact_host.proofs.Transcoding.{counted_can, made_counted}
use Rattle.fact_host.proofs.transcoders.counted.Goals as goal

pub spelled-requires : goal.spelled-requires
spelled-requires c = λ e. subst (λ z. AreSpelled z c.args.text.now) (sym c.to_encoding-to.ensures ∙ e) (counted_can c.args.op c.args.text.now c.requires.kind c.requires.spelled)

pub returns : goal.returns
returns c =
    let is : c.in_ok-bytes.bytes.items ≡ spelled_text (to_encoding c.args.op) c.args.text.now = c.in_ok-bytes.ensures ∙ ap (λ e. spelled_text e c.args.text.now) c.to_encoding-to.ensures in
    made_counted c.args.op c.args.text.now c.in_ok-bytes.bytes.items _ c.requires.kind c.requires.spelled is
    (units_are (to_encoding c.args.op) c.in_ok-bytes.bytes.items c.args.text.now c.len.result c.unit_bytes.result is (omega (arith, c.len.ensures)) (c.unit_bytes.ensures.value ∙ ap unit_bytes c.to_encoding-to.ensures))
