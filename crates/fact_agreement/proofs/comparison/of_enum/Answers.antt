use Rattle.std.proofs.Common.{◌≡◌, ◌∙◌, ap, refl, subst}
use Rattle.std.specs.Prelude.{option_map, slice_get}
use Rattle.std.specs.Cmp.Lexicographic.{pointwise}
use Rattle.std.specs.Str.{bytes_eq}
use Rattle.fact_types.specs.Ordered.{EnumType}
use Rattle.fact_types.specs.declared.interface.InterfaceType.TheVariants.{Enum as from_kind}
use Rattle.fact_types.specs.Tables.{node_of, enum_node, IsLive}
use Rattle.fact_agreement.proofs.KindLaws.{other_kind}
use Rattle.fact_agreement.proofs.MemberLaws.{by_members, only_names}
use Rattle.fact_agreement.proofs.comparison.of_enum.Goals as goal

pub returns-in-Enum : goal.returns-in-Enum
returns-in-Enum c =
    let t = c.args.types.now in
    let names = λ (e : EnumType). e.names in
    let same : c.as_slice.result.now ≡ c.index.result.now.names = c.as_slice.ensures.keys ∙ ap names c.behind-types.view_is in
    let other : c.as_slice-in-Enum.result.now ≡ c.index-in-Enum.result.now.names = c.as_slice-in-Enum.ensures.keys ∙ ap names c.behind-types-in-Enum.view_is in
    by_members t _ c.args.to.now (enum_node c.index.result.now) (enum_node c.index-in-Enum.result.now) (ap (option_map enum_node) c.index.ensures)
    (ap (node_of t) c.in-Enum.is ∙ ap (option_map enum_node) c.index-in-Enum.ensures) c.eq.result
    (only_names t _ _ c.eq.result (c.eq.ensures ∙ (λ i. pointwise bytes_eq (same i) (other i))))

pub index-requires-in-Enum : goal.index-requires-in-Enum
index-requires-in-Enum c = subst (IsLive c.args.types.now) c.in-Enum.is c.requires.to_live

pub returns-in_default : goal.returns-in_default
returns-in_default c =
    let t = c.args.types.now in
    other_kind t (from_kind c.args.i) c.args.to.now enum_node (slice_get t.enums c.args.i.number) refl refl (λ e is_of. c.in_default.not-Enum is_of.0 is_of.1)
