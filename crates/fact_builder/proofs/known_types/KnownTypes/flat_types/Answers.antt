use Rattle.std.proofs.Common.{◌≡◌, sym, ◌∙◌, ap, subst, length}
use Rattle.std.specs.Prelude.{Some, option_map, unwrap_or}
use Rattle.fact_types.specs.declared.extents.MemoryWidth.TheVariants.{Memory32, Memory64}
use Rattle.fact_types.specs.Tables.{Tables, IsLive}
use Rattle.fact_builder.specs.declared.information.TypeInformation.{TypeInformation}
use Rattle.fact_builder.specs.Information.{plain_information}
use Rattle.fact_builder.proofs.BalanceLaws.{balanced, plain_few}
use Rattle.fact_builder.proofs.InformationLaws.{known_at}
use Rattle.fact_builder.proofs.known_types.KnownTypes.flat_types.Goals as goal

pub flat_types-requires : goal.flat_types-requires
flat_types-requires c =
    subst (λ (x : TypeInformation). option_map length x.flat32 ≡ option_map length x.flat64) (sym (λ i. unwrap_or (c.in-Some.ensures.value i) (plain_information c.args.ty.now)))
    (balanced _ _ c.self.invariant c.reveal.ensures.sound c.args.ty.now (subst (λ (t : Tables). IsLive t c.args.ty.now) (sym c.self.view_is) c.requires))

pub returns-in-Some-clause-memory32 : goal.returns-in-Some-clause-memory32
returns-in-Some-clause-memory32 c = λ s h.
    c.flat_types.ensures.memory32
    ∙ ap (λ x. x.flat32) ((λ i. unwrap_or (c.in-Some.ensures.value i) (plain_information c.args.ty.now)) ∙ known_at _ _ c.self.view_is _ c.self.invariant s c.args.ty.now h)

pub returns-in-Some-clause-memory64 : goal.returns-in-Some-clause-memory64
returns-in-Some-clause-memory64 c = λ s h.
    c.flat_types.ensures.memory64
    ∙ ap (λ x. x.flat64) ((λ i. unwrap_or (c.in-Some.ensures.value i) (plain_information c.args.ty.now)) ∙ known_at _ _ c.self.view_is _ c.self.invariant s c.args.ty.now h)

pub returns-in-None-clause-memory32 : goal.returns-in-None-clause-memory32
returns-in-None-clause-memory32 c = λ s h.
    ap Some c.plain_flat_types.ensures.memory32 ∙ sym (plain_few Memory32 c.args.ty.now)
    ∙ ap (λ x. x.flat32) ((λ i. unwrap_or (c.in-None.ensures.value i) (plain_information c.args.ty.now)) ∙ known_at _ _ c.self.view_is _ c.self.invariant s c.args.ty.now h)

pub returns-in-None-clause-memory64 : goal.returns-in-None-clause-memory64
returns-in-None-clause-memory64 c = λ s h.
    ap Some c.plain_flat_types.ensures.memory64 ∙ sym (plain_few Memory64 c.args.ty.now)
    ∙ ap (λ x. x.flat64) ((λ i. unwrap_or (c.in-None.ensures.value i) (plain_information c.args.ty.now)) ∙ known_at _ _ c.self.view_is _ c.self.invariant s c.args.ty.now h)
