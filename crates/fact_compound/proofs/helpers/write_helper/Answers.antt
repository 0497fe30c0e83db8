use Rattle.std.proofs.Common.{arith, subst, sym, ◌∙◌}
use Rattle.fact_types.specs.Tables.{IsLive}
use Rattle.fact_builder.proofs.RegisterLaws.{on_ok}
use Rattle.fact_emit.proofs.SidesImported.{sides_later, sides_same}
use Rattle.fact_compound.specs.Translated.{IsFullFuel}
use Rattle.fact_compound.proofs.HelperFunctions.{wrote_helper}
use Rattle.fact_compound.proofs.helpers.write_helper.Goals as goal

pub write_helper_body-body_written-requires : goal.write_helper_body-body_written-requires
write_helper_body-body_written-requires c = record {
  from_live = subst (λ t. IsLive t c.args.helper.now.src.ty) (sym c.component_types-types.ensures) c.requires.from_live;
  to_live = subst (λ t. IsLive t c.args.helper.now.dst.ty) (sym c.component_types-types.ensures) c.requires.to_live;
  imported = sides_same (c.over-w.ensures.sections ∙ c.replace.ensures.value) (sides_later c.in_ok-ty.ensures.keeps c.requires.imported);
  tables = sym c.component_types-types.ensures;
  no_code = c.over-w.ensures.code;
  no_locals = c.over-w.ensures.locals;
}

pub returns : goal.returns
returns c =
    let full : IsFullFuel c.full-fuel.result = record { full = c.full-fuel.ensures.left ∙ sym c.full-fuel.ensures.initial; small = omega (arith, c.full-fuel.ensures.initial, c.ranges.fuel) } in
    let written = on_ok _ c.write_helper_body-body_written.result c.in_ok-function.ensures.written c.write_helper_body-body_written.ensures in
    let body = rw c.component_types-types.ensures at written in
    let locals = rw c.len.ensures at c.in_ok-function.ensures.locals in
    let place = rw (c.as_slice.ensures, c.as_slice-2.ensures) at c.in_ok-ty.ensures.place in
    let has = rw (c.as_slice.ensures, c.as_slice-2.ensures) at c.in_ok-ty.ensures.types in
    wrote_helper full c.full-fuel.ensures.initial c.in_ok-signature.ensures body place has c.in_ok-ty.ensures.keeps c.in_ok-ty.ensures.once (c.over-w.ensures.sections ∙ c.replace.ensures.value) c.in_ok-function.ensures.sections _
    c.in_ok-function.ensures.ty c.in_ok-function.ensures.body locals
