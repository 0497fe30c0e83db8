use Rattle.std.proofs.Common.{◌≡◌, ◌<◌, ◌≤◌, ℕ, length, replicate, None, refl, ◌∙◌, ap, arith}
use Rattle.std.proofs.lemmas.Result.{err_from_is_err_and}
use Rattle.fact_types.specs.Layout.{enum_layout, variant_info}
use Rattle.fact_types.specs.Shapes.{k_enum}
use Rattle.fact_types.proofs.StandLaws.{bare_names, enum_stands, names_count}
use Rattle.fact_builder.proofs.MadeLaws.{enums, enums_lie, does_not_fit, entered, turned_away}
use Rattle.fact_builder.proofs.MakingLaws.{few_of, enum_info, laid}
use Rattle.fact_builder.proofs.sums.make_enum.Goals as goal

pub returns-in_default : goal.returns-in_default
returns-in_default c =
    let many : 4294967295 < c.len-count.result = c.from_count.ensures.none.0 c.in_default.is in
    let len : c.len-count.result ≡ length c.args.names.keys = c.len-count.ensures.len in
    let count = names_count c.args.builder.now.tables c.args.names.keys in
    let r = does_not_fit c.args.builder.now k_enum _ c.reveal.ensures.sound (λ p. omega (arith, p, many, len, count)) in
    record { makes = r.makes; too_large = r.exact }

pub add_enum_type-requires : goal.add_enum_type-requires
add_enum_type-requires c =
    let len : c.len-count.result ≡ length c.args.names.keys = c.len-count.ensures.len in
    let info = enum_info c.len-count.result c.in-Some.size _ _ c.in-Some.ensures.size c.byte_size.ensures c.byte_size-2.ensures in
    enum_stands c.args.builder.now.tables _ (c.enum_-abi.ensures ∙ ap enum_layout len) (info ∙ ap (λ (n : ℕ). variant_info (replicate n None)) len)

pub returns-in_err-index : goal.returns-in_err-index
returns-in_err-index c =
    let old = c.args.builder.now in
    let few : c.len-count.result ≤ 4294967295 = few_of c.in-Some.size c.len-count.result c.in-Some.ensures.none in
    let len : c.len-count.result ≡ length c.args.names.keys = c.len-count.ensures.len in
    let count = names_count c.args.builder.now.tables c.args.names.keys in
    let p : length (laid old.tables (bare_names c.args.names.keys)) ≤ 4294967295 = omega (arith, few, len, count) in
    let info = enum_info c.len-count.result c.in-Some.size _ _ c.in-Some.ensures.size c.byte_size.ensures c.byte_size-2.ensures in
    let stands = enum_stands old.tables _ (c.enum_-abi.ensures ∙ ap enum_layout len) (info ∙ ap (λ (n : ℕ). variant_info (replicate n None)) len) in
    let q = err_from_is_err_and c.from_residual.result c.from_residual.ensures.1 in
    let a = c.add_enum_type.ensures in
    let r = turned_away enums old old _ _ _ (enums_lie old old refl) c.reveal.ensures.sound stands p _ _ _ _ _ c.in_err-index.was q.1 q.2 a.refused a.found a.too_large in
    record { makes = r.makes; too_large = r.exact }

pub returns : goal.returns
returns c =
    let old = c.args.builder.now in
    let new = c.add_enum_type.new.self in
    let few : c.len-count.result ≤ 4294967295 = few_of c.in-Some.size c.len-count.result c.in-Some.ensures.none in
    let len : c.len-count.result ≡ length c.args.names.keys = c.len-count.ensures.len in
    let count = names_count c.args.builder.now.tables c.args.names.keys in
    let p : length (laid old.tables (bare_names c.args.names.keys)) ≤ 4294967295 = omega (arith, few, len, count) in
    let info = enum_info c.len-count.result c.in-Some.size _ _ c.in-Some.ensures.size c.byte_size.ensures c.byte_size-2.ensures in
    let stands = enum_stands old.tables _ (c.enum_-abi.ensures ∙ ap enum_layout len) (info ∙ ap (λ (n : ℕ). variant_info (replicate n None)) len) in
    let a = c.in_ok-index.ensures in
    let r = entered enums old new _ _ _ (enums_lie old new a.rest) c.reveal.ensures.sound stands p _ c.in_ok-index.index a.keeps a.interned a.entry a.too_large in
    record { makes = r.makes; too_large = r.exact }
