use Rattle.std.proofs.Common.{◌∙◌, ap, subst, length, arith}
use Rattle.fact_machine.specs.World.{put_at}
use Rattle.fact_lowering.specs.Lowerings.{AreFlagBytes}
use Rattle.fact_lowering.proofs.StoreLeaves.{flags_fit, flags_stored}
use Rattle.fact_lowering.proofs.storing.store_flags.Goals as goal

pub put-requires : goal.put-requires
put-requires c =
    let f = subst (λ fs. AreFlagBytes fs c.in_ok-bytes.bytes.items) c.as_slice.ensures c.in_ok-bytes.ensures in
    omega (arith, flags_fit c.args.value.now c.in-Flags.flags c.in_ok-bytes.bytes.items c.args.address c.args.store.now.cursor c.args.store.now.bytes.items c.in-Flags.is f c.requires, ap length c.as_slice-2.ensures.value)

pub returns : goal.returns
returns c =
    let f = subst (λ fs. AreFlagBytes fs c.in_ok-bytes.bytes.items) c.as_slice.ensures c.in_ok-bytes.ensures in
    flags_stored c.args.to.now.side c.args.value.now c.in-Flags.flags c.in_ok-bytes.bytes.items c.args.address c.args.store.now.cursor c.put.new.self.cursor c.args.store.now.bytes.items c.put.new.self.bytes.items c.in-Flags.is f c.requires
    (c.put.ensures.bytes ∙ ap (put_at c.args.store.now.bytes.items c.args.address) c.as_slice-2.ensures.value) c.put.ensures.cursor
