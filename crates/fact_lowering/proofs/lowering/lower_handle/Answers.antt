use Rattle.std.proofs.Common.{subst, sym, refl}
use Rattle.fact_types.specs.Shapes.{s_node}
use Rattle.fact_abi.specs.Nodes.{kind_of}
use Rattle.fact_values.specs.IsA.{IsA}
use Rattle.fact_lowering.specs.Lowered.{IsLowered, LacksRoom, own_room}
use Rattle.fact_lowering.proofs.CoreKinds.{handle_kind, handle_lowered, no_handles}
use Rattle.fact_lowering.proofs.CoreNodes.{by_members, opened}
use Rattle.fact_lowering.proofs.lowering.lower_handle.Goals as goal

pub returns-in_default : goal.returns-in_default
returns-in_default c =
    by_members c.args.node.now.kind c.requires.told refl (λ s. LacksRoom c.args.store.now.cursor (own_room c.args.to.now.side s c.args.value.now) c.args.store.now.bytes.items)
    (λ ms h. absurd (no_handles (kind_of c.args.node.now.kind) ms c.args.value.now (handle_kind c.args.node.now.kind c.requires.kind) (opened c.args.node.now.kind c.requires.told refl c.args.to.now.side c.args.value.now c.args.slots.now c.args.store.now.cursor c.args.store.now.bytes.items c.requires.lowerable ms h).is (c.tell_forms.ensures.handle c.in_default.not-Handle)))

pub returns : goal.returns
returns c =
    by_members c.args.node.now.kind c.requires.told refl (λ s. IsLowered c.args.to.now.side s c.args.value.now c.args.slots.now c.args.store.now.cursor c.args.store.now.cursor c.args.store.now.bytes.items c.args.store.now.bytes.items c.args.out.now c.push_numbers.new.out)
    (λ ms h. let seen = opened c.args.node.now.kind c.requires.told refl c.args.to.now.side c.args.value.now c.args.slots.now c.args.store.now.cursor c.args.store.now.bytes.items c.requires.lowerable ms h in
    subst (λ v. IsLowered c.args.to.now.side (s_node (kind_of c.args.node.now.kind) ms) v c.args.slots.now c.args.store.now.cursor c.args.store.now.cursor c.args.store.now.bytes.items c.args.store.now.bytes.items c.args.out.now c.push_numbers.new.out) (sym c.in-Handle.is)
    (handle_lowered c.args.to.now.side (kind_of c.args.node.now.kind) ms c.in-Handle.kind c.in-Handle.table c.in-Handle.number c.args.slots.now c.args.store.now.cursor c.args.store.now.bytes.items c.args.out.now _ (handle_kind c.args.node.now.kind c.requires.kind) (subst (IsA (s_node (kind_of c.args.node.now.kind) ms)) c.in-Handle.is seen.is) seen.wide c.requires.lowerable.can.inside c.in_ok-push_numbers.ensures))
