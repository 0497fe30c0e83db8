use Rattle.std.proofs.Common.{refl}
use Rattle.fact_types.specs.Shapes.{s_node}
use Rattle.fact_abi.specs.Nodes.{kind_of}
use Rattle.fact_lowering.specs.Lowered.{IsLowered, IsPut, LacksRoom, own_room}
use Rattle.fact_lowering.specs.Storings.{pair_of}
use Rattle.fact_lowering.proofs.CoreKinds.{behind_lowered, put_there}
use Rattle.fact_lowering.proofs.CoreNodes.{by_members, opened}
use Rattle.fact_lowering.proofs.lowering.lower_behind.Goals as goal

pub returns : goal.returns
returns c =
    by_members c.args.node.now.kind c.requires.told refl (λ s. IsLowered c.args.to.now.side s c.args.value.now c.args.slots.now c.args.store.now.cursor _ c.args.store.now.bytes.items _ c.args.out.now _)
    (λ ms h. behind_lowered c.args.to.now.side (kind_of c.args.node.now.kind) ms c.args.value.now (pair_of c.in-Some.pair) c.args.slots.now c.args.store.now.cursor _ c.args.store.now.bytes.items _ c.args.out.now _ c.requires.kind (opened c.args.node.now.kind c.requires.told refl c.args.to.now.side c.args.value.now c.args.slots.now c.args.store.now.cursor c.args.store.now.bytes.items c.requires.lowerable ms h).wide
    (put_there c.in_ok-pair.field-0 c.in-Some.pair (λ p. IsPut c.args.to.now.side (s_node (kind_of c.args.node.now.kind) ms) c.args.value.now p c.args.store.now.cursor _ c.args.store.now.bytes.items _) (LacksRoom c.args.store.now.cursor (own_room c.args.to.now.side (s_node (kind_of c.args.node.now.kind) ms) c.args.value.now) c.args.store.now.bytes.items) c.in-Some.is (c.in_ok-pair.ensures (s_node (kind_of c.args.node.now.kind) ms) h))
    c.in_ok-push_numbers.ensures)
