use Rattle.std.proofs.Common.{ℕ, List, ◌+◌, ◌*◌, length, arith, subst, sym}
use Rattle.std.specs.Char.{IsScalar}
use Rattle.std.specs.List.{AllByRecursion}
use Rattle.fact_types.specs.declared.interface.InterfaceType.TheVariants as ty
use Rattle.fact_types.specs.Shapes.{s_plain}
use Rattle.fact_values.specs.declared.value.Value.TheVariants as value
use Rattle.fact_lowering.specs.Lowered.{IsPut, LacksRoom}
use Rattle.fact_lowering.specs.Storings.{pair_of}
use Rattle.fact_lowering.proofs.CoreKinds.{put_lacks, put_there, text_lacks, text_lowered, text_scalars, text_wide}
use Rattle.fact_lowering.proofs.lowering.lower_text.Goals as goal

pub store_text-requires-clause-scalars : goal.store_text-requires-clause-scalars
store_text-requires-clause-scalars c =
    subst (λ (cs : List ℕ). AllByRecursion IsScalar cs) (sym c.as_slice.ensures) (text_scalars c.args.to.now.types.now c.args.to.now.side c.args.ty.now c.args.text.now c.args.slots.now c.args.store.now.cursor c.args.store.now.bytes.items c.requires.lowerable c.requires.plain)

pub returns-in_default : goal.returns-in_default
returns-in_default c = λ s h.
    text_lacks c.args.to.now.types.now c.args.to.now.side c.args.ty.now c.args.text.now c.args.slots.now c.args.store.now.cursor c.args.store.now.bytes.items c.requires.lowerable c.requires.plain
    (subst (λ (cs : List ℕ). LacksRoom c.args.store.now.cursor (8 + 16 * length cs) c.args.store.now.bytes.items) c.as_slice.ensures
    (put_lacks c.in_ok-pair.field-0 (λ p. IsPut c.args.to.now.side (s_plain ty.String) (value.Str c.as_slice.result.now) p c.args.store.now.cursor c.store_text.new.store.cursor c.args.store.now.bytes.items c.store_text.new.store.bytes.items) (LacksRoom c.args.store.now.cursor (8 + 16 * length c.as_slice.result.now) c.args.store.now.bytes.items) c.in_default.is c.in_ok-pair.ensures)) s h

pub push_numbers-requires : goal.push_numbers-requires
push_numbers-requires c = omega (arith, (text_wide c.args.to.now.types.now c.args.to.now.side c.args.ty.now c.args.text.now c.args.slots.now c.args.store.now.cursor c.args.store.now.bytes.items c.requires.lowerable c.requires.plain).1.0)

pub returns : goal.returns
returns c = λ s h.
    text_lowered c.args.to.now.types.now c.args.to.now.side c.args.ty.now c.args.text.now c.args.slots.now c.args.store.now.cursor c.args.store.now.bytes.items c.requires.lowerable c.requires.plain (pair_of c.in-Some.pair) _ _ c.args.out.now _
    (subst (λ (cs : List ℕ). IsPut c.args.to.now.side (s_plain ty.String) (value.Str cs) (pair_of c.in-Some.pair) c.args.store.now.cursor c.store_text.new.store.cursor c.args.store.now.bytes.items c.store_text.new.store.bytes.items) c.as_slice.ensures
    (put_there c.in_ok-pair.field-0 c.in-Some.pair (λ p. IsPut c.args.to.now.side (s_plain ty.String) (value.Str c.as_slice.result.now) p c.args.store.now.cursor c.store_text.new.store.cursor c.args.store.now.bytes.items c.store_text.new.store.bytes.items) (LacksRoom c.args.store.now.cursor (8 + 16 * length c.as_slice.result.now) c.args.store.now.bytes.items) c.in-Some.is c.in_ok-pair.ensures))
    c.in_ok-push_numbers.ensures s h
