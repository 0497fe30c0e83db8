use Rattle.std.proofs.Common.{◌≡◌, ◌∙◌, ◌+◌, ◌*◌, ◌≤◌, ap, sym, [], ◌∷◌, length, arith, length-append}
use Rattle.fact_types.specs.Layout.{flags_extent, flags_size}
use Rattle.fact_lowering.proofs.FlagBytes.{bytes_on, bytes_end}
use Rattle.fact_lowering.proofs.storing.flag_bytes.Goals as goal

pub loop-index-preserved : goal.loop-index-preserved
loop-index-preserved c = (
  omega (arith, ap length c.in_ok-push.ensures.items, length-append c.loop-index.bytes.items (c.flag_byte.result ∷ []), c.loop-index.invariant.0),
  bytes_on c.args.flags.now c.loop-index.bytes.items c.push.new.self.items (c.loop-index.index * 8) c.flag_byte.result (omega (arith, c.loop-index.invariant.0)) c.in_ok-push.ensures.items c.flag_byte.ensures c.loop-index.invariant.1,
)

pub returns : goal.returns
returns c =
    let count : c.in_ok-count_of.field-0 ≡ length c.args.flags.now = c.in_ok-count_of.ensures.0 in
    bytes_end c.args.flags.now c.loop-index.bytes.items c.flags_size_of-size.result (omega (arith, c.loop-index.invariant.0, c.loop-index-test.false, c.loop-index.auto.index-end))
    (c.flags_size_of-size.ensures.value ∙ ap (λ k. (flags_extent (flags_size k)).size) count) (omega (arith, c.flags_size_of-size.ensures.all, count)) c.loop-index.invariant.1
