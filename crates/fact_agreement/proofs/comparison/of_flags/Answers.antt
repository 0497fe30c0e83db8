use Rattle.std.proofs.Common.{◌∙◌, ap, refl, subst}
use Rattle.std.specs.Prelude.{option_map, slice_get, ◌&&◌}
use Rattle.std.specs.List.{list_all, list_any}
use Rattle.std.specs.Str.{bytes_eq}
use Rattle.fact_types.specs.Ordered.{FlagsType}
use Rattle.fact_types.specs.declared.interface.InterfaceType.TheVariants.{Flags as from_kind}
use Rattle.fact_types.specs.Tables.{node_of, flags_node, IsLive}
use Rattle.fact_agreement.proofs.KindLaws.{other_kind}
use Rattle.fact_agreement.proofs.MemberLaws.{by_members}
use Rattle.fact_agreement.proofs.NameSets.{same_sets}
use Rattle.fact_agreement.proofs.comparison.of_flags.Goals as goal

pub returns-in-Flags : goal.returns-in-Flags
returns-in-Flags c =
    let t = c.args.types.now in
    let names = λ (e : FlagsType). e.names in
    by_members t _ c.args.to.now (flags_node c.index.result.now) (flags_node c.index-in-Flags.result.now) (ap (option_map flags_node) c.index.ensures)
    (ap (node_of t) c.in-Flags.is ∙ ap (option_map flags_node) c.index-in-Flags.ensures) c.eq.result
    (same_sets t _ _ c.eq.result
    (c.eq.ensures ∙ (λ i. list_all (λ x. list_any (bytes_eq x) (names (c.behind-types-in-Flags.view_is i))) (names (c.behind-types.view_is i)) && list_all (λ x. list_any (bytes_eq x) (names (c.behind-types.view_is i))) (names (c.behind-types-in-Flags.view_is i)))))

pub index-requires-in-Flags : goal.index-requires-in-Flags
index-requires-in-Flags c = subst (IsLive c.args.types.now) c.in-Flags.is c.requires.to_live

pub returns-in_default : goal.returns-in_default
returns-in_default c =
    let t = c.args.types.now in
    other_kind t (from_kind c.args.i) c.args.to.now flags_node (slice_get t.flags c.args.i.number) refl refl (λ e is_of. c.in_default.not-Flags is_of.0 is_of.1)
