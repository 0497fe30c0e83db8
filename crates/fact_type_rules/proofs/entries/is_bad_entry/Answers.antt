use Rattle.std.proofs.Common.{refl, sym, subst, ap, length, map, IsTrue, ◌∙◌}
use Rattle.std.specs.Prelude.{◌↔◌, nat_eq, nat_lt, option_map}
use Rattle.std.specs.List.{IsDistinct}
use Rattle.std.specs.Str.{bytes_eq}
use Rattle.std.proofs.lemmas.Result.{IfOk-weaker}
use Rattle.std.proofs.lemmas.List.{length-map}
use Rattle.fact_types.specs.Ordered.{VariantType, FlagsType, EnumType}
use Rattle.fact_types.specs.Shapes.{k_record}
use Rattle.fact_types.specs.Tables.{record_node, variant_node, flags_node, enum_node}
use Rattle.fact_type_rules.specs.TypeFaults.{IsBadKind}
use Rattle.fact_type_rules.proofs.KindLaws.{Member, bare-names, by-node, field-names, many-flags, no-places, none-named}
use Rattle.fact_type_rules.proofs.entries.is_bad_entry.Goals as goal

pub returns-in-Record : goal.returns-in-Record
returns-in-Record c =
    let e = c.index.result.now in
    rw c.in-Record.is
    (IfOk-weaker c.is_bad_record.result (λ found. IsTrue found ↔ IsBadKind k_record (map (λ f. f.name) e.fields)) _
    (λ found h. by-node (IsTrue found) _ (record_node e) _ (ap (option_map record_node) c.index.ensures) (field-names e.fields) h)
    c.is_bad_record.ensures)

pub returns-in-Variant : goal.returns-in-Variant
returns-in-Variant c =
    let e = c.index-in-Variant.result.now in
    let names = map (λ (m : Member). m.0) e.cases in
    let n = c.len.result in
    rw c.in-Variant.is
    (by-node (IsTrue (nat_eq n 0)) _ (variant_node e) names (ap (option_map variant_node) c.index-in-Variant.ensures) refl
    (none-named names n
    (subst (λ (v : VariantType). IsDistinct bytes_eq (map (λ (m : Member). m.0) v.cases)) c.behind-types.view_is c.len.ensures.unique)
    (c.len.ensures.len ∙ ap (λ (v : VariantType). length v.cases) c.behind-types.view_is ∙ sym (length-map e.cases (λ (m : Member). m.0)))))

pub returns-in-Tuple : goal.returns-in-Tuple
returns-in-Tuple c = rw c.in-Tuple.is (no-places c.args.types.now c.in-Tuple.i c.index-in-Tuple.result.now c.len-in-Tuple.result c.index-in-Tuple.ensures c.len-in-Tuple.ensures)

pub returns-else-count-eq0 : goal.returns-else-count-eq0
returns-else-count-eq0 c =
    let e = c.index-in-Flags.result.now in
    let n = c.len-count.result in
    rw c.in-Flags.is
    (by-node (IsTrue (nat_lt 32 n)) _ (flags_node e) e.names (ap (option_map flags_node) c.index-in-Flags.ensures) (bare-names e.names)
    (many-flags e.names n
    (subst (λ (v : FlagsType). IsDistinct bytes_eq v.names) c.behind-types-in-Flags.view_is c.len-count.ensures.unique)
    (c.len-count.ensures.len ∙ ap (λ (v : FlagsType). length v.names) c.behind-types-in-Flags.view_is)
    c.if-count-eq0.false))

pub returns-in-Enum : goal.returns-in-Enum
returns-in-Enum c =
    let e = c.index-in-Enum.result.now in
    let n = c.len-in-Enum.result in
    rw c.in-Enum.is
    (by-node (IsTrue (nat_eq n 0)) _ (enum_node e) e.names (ap (option_map enum_node) c.index-in-Enum.ensures) (bare-names e.names)
    (none-named e.names n
    (subst (λ (v : EnumType). IsDistinct bytes_eq v.names) c.behind-types-in-Enum.view_is c.len-in-Enum.ensures.unique)
    (c.len-in-Enum.ensures.len ∙ ap (λ (v : EnumType). length v.names) c.behind-types-in-Enum.view_is)))
