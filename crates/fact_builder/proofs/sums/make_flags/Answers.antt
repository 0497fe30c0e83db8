use Rattle.std.proofs.Common.{◌≡◌, ◌≤◌, length, refl, ◌∙◌, ap, arith}
use Rattle.std.proofs.lemmas.Result.{err_from_is_err_and}
use Rattle.fact_types.specs.Layout.{flags_layout}
use Rattle.fact_types.specs.Shapes.{k_flags}
use Rattle.fact_types.proofs.StandLaws.{bare_names, flags_stands, names_count}
use Rattle.fact_builder.proofs.MadeLaws.{flags, flags_lie, does_not_fit, entered, turned_away}
use Rattle.fact_builder.proofs.MakingLaws.{failed, passed, laid}
use Rattle.fact_builder.proofs.sums.make_flags.Goals as goal

pub returns-then-not-flags_fits : goal.returns-then-not-flags_fits
returns-then-not-flags_fits c =
    let len : c.len-count.result ≡ length c.args.names.keys = c.len-count.ensures.len in
    let count = names_count c.args.builder.now.tables c.args.names.keys in
    let r = does_not_fit c.args.builder.now k_flags _ c.reveal.ensures.sound (λ p. failed c.if-not-flags_fits.ensures (omega (arith, p, len, count))) in
    record { makes = r.makes; too_large = r.exact }

pub add_flags_type-requires : goal.add_flags_type-requires
add_flags_type-requires c = flags_stands c.args.builder.now.tables _ (c.flags-abi.ensures ∙ ap flags_layout c.len-count.ensures.len)

pub returns-in_err-index : goal.returns-in_err-index
returns-in_err-index c =
    let old = c.args.builder.now in
    let few : c.len-count.result ≤ 8160 = passed c.if-not-flags_fits.ensures in
    let len : c.len-count.result ≡ length c.args.names.keys = c.len-count.ensures.len in
    let count = names_count c.args.builder.now.tables c.args.names.keys in
    let p : length (laid old.tables (bare_names c.args.names.keys)) ≤ 8160 = omega (arith, few, len, count) in
    let stands = flags_stands old.tables _ (c.flags-abi.ensures ∙ ap flags_layout c.len-count.ensures.len) in
    let q = err_from_is_err_and c.from_residual.result c.from_residual.ensures.1 in
    let a = c.add_flags_type.ensures in
    let r = turned_away flags old old _ _ _ (flags_lie old old refl) c.reveal.ensures.sound stands p _ _ _ _ _ c.in_err-index.was q.1 q.2 a.refused a.found a.too_large in
    record { makes = r.makes; too_large = r.exact }

pub returns : goal.returns
returns c =
    let old = c.args.builder.now in
    let new = c.add_flags_type.new.self in
    let few : c.len-count.result ≤ 8160 = passed c.if-not-flags_fits.ensures in
    let len : c.len-count.result ≡ length c.args.names.keys = c.len-count.ensures.len in
    let count = names_count c.args.builder.now.tables c.args.names.keys in
    let p : length (laid old.tables (bare_names c.args.names.keys)) ≤ 8160 = omega (arith, few, len, count) in
    let stands = flags_stands old.tables _ (c.flags-abi.ensures ∙ ap flags_layout c.len-count.ensures.len) in
    let a = c.in_ok-index.ensures in
    let r = entered flags old new _ _ _ (flags_lie old new a.rest) c.reveal.ensures.sound stands p _ c.in_ok-index.index a.keeps a.interned a.entry a.too_large in
    record { makes = r.makes; too_large = r.exact }
