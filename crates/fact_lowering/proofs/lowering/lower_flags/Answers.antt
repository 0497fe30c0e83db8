use Rattle.std.proofs.Common.{◌++◌, length, ap, ◌∙◌, subst, sym, arith}
use Rattle.fact_types.specs.Shapes.{k_flags, s_node}
use Rattle.fact_abi.specs.declared.nodes.NodeKind.TheVariants as is
use Rattle.fact_values.specs.IsA.{IsA}
use Rattle.fact_lowering.specs.Lowered.{IsLowered, LacksRoom, own_room}
use Rattle.fact_lowering.specs.Lowerings.{AreFlagWords, cores_of}
use Rattle.fact_lowering.proofs.CoreKinds.{flags_lowered, flags_room, no_flags}
use Rattle.fact_lowering.proofs.CoreNodes.{by_members, opened, some_members}
use Rattle.fact_lowering.proofs.lowering.lower_flags.Goals as goal

pub returns-in_default : goal.returns-in_default
returns-in_default c =
    by_members is.Flags c.requires.node.told c.requires.node.kind (λ s. LacksRoom c.args.store.now.cursor (own_room c.args.to.now.side s c.args.value.now) c.args.store.now.bytes.items)
    (λ ms h. absurd (no_flags ms c.args.value.now (opened is.Flags c.requires.node.told c.requires.node.kind c.args.to.now.side c.args.value.now c.args.slots.now c.args.store.now.cursor c.args.store.now.bytes.items c.requires.lowerable ms h).is (c.tell_forms.ensures.flags c.in_default.not-Flags)))

pub push_numbers-requires : goal.push_numbers-requires
push_numbers-requires c =
    let some = some_members is.Flags c.requires.node.told c.requires.node.kind c.requires.lowerable.shape c.requires.lowerable.shaped in
    let seen = opened is.Flags c.requires.node.told c.requires.node.kind c.args.to.now.side c.args.value.now c.args.slots.now c.args.store.now.cursor c.args.store.now.bytes.items c.requires.lowerable some.0 some.1 in
    omega (arith, ap length c.as_slice-2.ensures, flags_room c.args.to.now.side some.0 c.in-Flags.flags c.in_ok-words.words c.args.slots.now (subst (IsA (s_node k_flags some.0)) c.in-Flags.is seen.is) (subst (λ fs. AreFlagWords fs c.in_ok-words.words) c.as_slice.ensures c.in_ok-words.ensures) seen.wide)

pub returns : goal.returns
returns c =
    by_members is.Flags c.requires.node.told c.requires.node.kind (λ s. IsLowered c.args.to.now.side s c.args.value.now c.args.slots.now c.args.store.now.cursor c.args.store.now.cursor c.args.store.now.bytes.items c.args.store.now.bytes.items c.args.out.now c.push_numbers.new.out)
    (λ ms h. let seen = opened is.Flags c.requires.node.told c.requires.node.kind c.args.to.now.side c.args.value.now c.args.slots.now c.args.store.now.cursor c.args.store.now.bytes.items c.requires.lowerable ms h in
    subst (λ v. IsLowered c.args.to.now.side (s_node k_flags ms) v c.args.slots.now c.args.store.now.cursor c.args.store.now.cursor c.args.store.now.bytes.items c.args.store.now.bytes.items c.args.out.now c.push_numbers.new.out) (sym c.in-Flags.is)
    (flags_lowered c.args.to.now.side ms c.in-Flags.flags c.in_ok-words.words c.args.slots.now c.args.store.now.cursor c.args.store.now.bytes.items c.args.out.now _ (subst (IsA (s_node k_flags ms)) c.in-Flags.is seen.is) (subst (λ fs. AreFlagWords fs c.in_ok-words.words) c.as_slice.ensures c.in_ok-words.ensures) seen.wide c.requires.lowerable.can.inside (c.in_ok-push_numbers.ensures ∙ ap (λ ws. c.args.out.now ++ cores_of c.args.slots.now ws) c.as_slice-2.ensures)))
