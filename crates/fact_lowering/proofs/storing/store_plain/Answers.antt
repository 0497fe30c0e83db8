use Rattle.std.proofs.Common.{◌≡◌, ◌∙◌, ◌+◌, ◌*◌, ap, sym, subst, length, arith}
use Rattle.std.specs.Char.{IsScalar}
use Rattle.std.specs.List.{AllByRecursion}
use Rattle.fact_types.specs.declared.interface.InterfaceType.TheVariants as a_type
use Rattle.fact_types.specs.Shapes.{s_plain}
use Rattle.fact_values.specs.declared.value.Value.TheVariants as a_value
use Rattle.fact_lowering.specs.Lowered.{IsPut, IsStored, LacksRoom}
use Rattle.fact_lowering.specs.Storings.{pair_of}
use Rattle.fact_lowering.proofs.StoredPlain.{text_is, text_stored, never_text, number_stored}
use Rattle.fact_lowering.proofs.StoredTexts.{text_room_of}
use Rattle.fact_lowering.proofs.StoreNodes.{put_is, not_put}
use Rattle.fact_lowering.proofs.storing.store_plain.Goals as goal

pub store_text-requires-clause-scalars : goal.store_text-requires-clause-scalars
store_text-requires-clause-scalars c = subst (AllByRecursion IsScalar) (sym c.as_slice.ensures) (text_is c.args.ty.now c.args.value.now c.in-Str.text c.in-Str.is c.requires.value).1

pub returns-in_default-2 : goal.returns-in_default-2
returns-in_default-2 c =
    let is = (text_is c.args.ty.now c.args.value.now c.in-Str.text c.in-Str.is c.requires.value).0 in
    let lacks = not_put c.args.to.now.side (s_plain a_type.String) (a_value.Str c.as_slice.result.now) c.args.store.now.cursor c.store_text.new.store.cursor c.args.store.now.bytes.items c.store_text.new.store.bytes.items (LacksRoom c.args.store.now.cursor (8 + 16 * length c.as_slice.result.now) c.args.store.now.bytes.items) c.in_ok-pair.field-0 c.in_default-2.is c.in_ok-pair.ensures in
    omega (arith, lacks, text_room_of c.args.to.now.side c.args.ty.now c.args.value.now c.in-Str.text is c.in-Str.is, ap length c.as_slice.ensures)

pub returns-in-Str : goal.returns-in-Str
returns-in-Str c =
    let is = (text_is c.args.ty.now c.args.value.now c.in-Str.text c.in-Str.is c.requires.value).0 in
    let put = put_is c.args.to.now.side (s_plain a_type.String) (a_value.Str c.as_slice.result.now) c.args.store.now.cursor c.store_text.new.store.cursor c.args.store.now.bytes.items c.store_text.new.store.bytes.items (LacksRoom c.args.store.now.cursor (8 + 16 * length c.as_slice.result.now) c.args.store.now.bytes.items) c.in_ok-pair.field-0 c.in-Some.pair c.in-Some.is c.in_ok-pair.ensures in
    subst (λ n. IsStored c.args.to.now.side (s_plain c.args.ty.now) c.args.value.now c.args.address c.args.store.now.cursor n c.args.store.now.bytes.items c.put_pair.new.store.bytes.items) (sym c.put_pair.ensures.cursor)
    (text_stored c.args.to.now.side c.args.ty.now c.args.value.now c.in-Str.text (pair_of c.in-Some.pair) c.args.address c.args.store.now.cursor c.store_text.new.store.cursor c.args.store.now.bytes.items c.store_text.new.store.bytes.items c.put_pair.new.store.bytes.items c.in-Str.is is c.requires.room
    (subst (λ cs. IsPut c.args.to.now.side (s_plain a_type.String) (a_value.Str cs) (pair_of c.in-Some.pair) c.args.store.now.cursor c.store_text.new.store.cursor c.args.store.now.bytes.items c.store_text.new.store.bytes.items) c.as_slice.ensures put) c.in_ok-put_pair.ensures.written)

pub returns : goal.returns
returns c =
    let h = c.number_of_value.ensures c.requires.value in
    let never = never_text c.args.ty.now c.args.value.now c.number_of_value.result c.in-Some-number_of_value.number c.in-Some-number_of_value.is h in
    let stored = number_stored c.args.to.now.side c.args.ty.now c.args.value.now c.number_of_value.result c.in-Some-number_of_value.number c.plain_size.result c.args.address c.args.store.now.cursor c.args.store.now.bytes.items c.in-Some-number_of_value.is h never c.plain_size.ensures.value c.requires.room in
    subst (λ z. IsStored c.args.to.now.side (s_plain c.args.ty.now) c.args.value.now c.args.address c.args.store.now.cursor z c.args.store.now.bytes.items c.put_number.new.self.bytes.items) (sym c.in_ok-put_number.ensures.cursor)
    (subst (λ l. IsStored c.args.to.now.side (s_plain c.args.ty.now) c.args.value.now c.args.address c.args.store.now.cursor c.args.store.now.cursor c.args.store.now.bytes.items l) (sym c.in_ok-put_number.ensures.bytes) stored)
