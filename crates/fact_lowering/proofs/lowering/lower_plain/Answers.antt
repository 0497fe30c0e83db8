use Rattle.fact_lowering.proofs.CoreKinds.{no_text, number_lowered, plain_is}
use Rattle.fact_lowering.proofs.lowering.lower_plain.Goals as goal

pub returns-in_default-number_of_value : goal.returns-in_default-number_of_value
returns-in_default-number_of_value c = λ s h. absurd (no_text c.args.ty.now c.args.value.now (plain_is c.args.to.now.types.now c.args.to.now.side c.args.ty.now c.args.value.now c.args.slots.now c.args.store.now.cursor c.args.store.now.bytes.items c.args.out.now c.args.out.now c.requires.lowerable c.requires.plain) (c.in_default-number_of_value.ensures (plain_is c.args.to.now.types.now c.args.to.now.side c.args.ty.now c.args.value.now c.args.slots.now c.args.store.now.cursor c.args.store.now.bytes.items c.args.out.now c.args.out.now c.requires.lowerable c.requires.plain)) (c.tell_forms.ensures.text c.in_default.not-Str))

pub returns : goal.returns
returns c = λ s h. number_lowered c.args.to.now.types.now c.args.to.now.side c.args.ty.now c.args.value.now c.args.slots.now c.args.store.now.cursor c.args.store.now.bytes.items c.args.out.now _ c.requires.lowerable c.requires.plain c.in-Some.number (c.in-Some.ensures (plain_is c.args.to.now.types.now c.args.to.now.side c.args.ty.now c.args.value.now c.args.slots.now c.args.store.now.cursor c.args.store.now.bytes.items c.args.out.now c.args.out.now c.requires.lowerable c.requires.plain)) c.in_ok-push_numbers.ensures s h
