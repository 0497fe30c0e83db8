use Rattle.std.proofs.Common.{◌*◌, ◌≡◌, ◌∙◌, ap, drop, sym, take}
use Rattle.fact_actions.specs.Transcoders.{from_encoding}
use Rattle.fact_values.specs.Texts.{decoded, unit_bytes}
use Rattle.fact_host.specs.Rules.{units_read}
use Rattle.fact_host.proofs.Transcoded.{spelled_read}
use Rattle.fact_host.proofs.transcoders.text_read.Goals as goal

pub returns-clause-spelled : goal.returns-clause-spelled
returns-clause-spelled c =
    let count : c.from.result * c.from-2.result ≡ unit_bytes (from_encoding c.args.op) * c.args.told.now.units = cc in
    let same : units_read c.args.op c.args.source.now c.args.told.now ≡ c.in-Some.bytes.now = ap (λ n. take n (drop c.args.told.now.from c.args.source.now)) (sym count) ∙ sym c.in-Some.ensures.some.1 in
    spelled_read (from_encoding c.args.op) c.in-Some.bytes.now (units_read c.args.op c.args.source.now c.args.told.now) c.in_ok-text.text (c.in_ok-text.ensures ∙ ap (λ e. decoded e c.in-Some.bytes.now) c.from_encoding-encoding.ensures) c.read_bytes.ensures same
