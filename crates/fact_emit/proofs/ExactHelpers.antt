-- Helpers that are equal by `==` are the same.
use Rattle.std.proofs.Common.{◌≡◌, true, refl, sym}
use Rattle.std.specs.Cmp.{first_so, second_so}
use Rattle.std.proofs.lemmas.Bool.{eqb-true, true≢false}
use Rattle.fact_types.specs.declared.outside.StringEncoding.{StringEncoding}
use Rattle.fact_types.specs.declared.outside.StringEncoding.TheVariants as string
use Rattle.fact_types.specs.contracts.outside.StringEncodingPartialEq.TheImpl as string_eq
use Rattle.fact_types.specs.contracts.interface.InterfaceTypePartialEq.TheImpl as type_eq
use Rattle.fact_types.specs.Exact.{exact_bool, exact_key, exact_option, exact_type}
use Rattle.fact_emit.specs.declared.helpers.Helper.{Helper}
use Rattle.fact_emit.specs.contracts.helpers.HelperPartialEq.TheImpl as helper_eq
use Rattle.fact_emit.specs.declared.helpers.HelperLocation.{HelperLocation}
use Rattle.fact_emit.specs.declared.helpers.HelperLocation.TheVariants as location
use Rattle.fact_emit.specs.contracts.helpers.HelperLocationPartialEq.TheImpl as location_eq
use Rattle.fact_emit.specs.declared.helpers.HelperType.{HelperType}
use Rattle.fact_emit.specs.contracts.helpers.HelperTypePartialEq.TheImpl as side_eq
use Rattle.fact_emit.specs.declared.options.LinearMemoryOptions.{LinearMemoryOptions}
use Rattle.fact_emit.specs.contracts.options.LinearMemoryOptionsPartialEq.TheImpl as linear_eq
use Rattle.fact_emit.specs.declared.options.Options.{Options}
use Rattle.fact_emit.specs.contracts.options.OptionsPartialEq.TheImpl as options_eq

exact_string : (a b : StringEncoding) → string_eq.ghosts.eq a b ≡ true → a ≡ b
exact_string string.Utf8 string.Utf8 h = refl
exact_string string.Utf16 string.Utf16 h = refl
exact_string string.CompactUtf16 string.CompactUtf16 h = refl
exact_string a b h = absurd (true≢false (sym h))

exact_linear : (a b : LinearMemoryOptions) → linear_eq.ghosts.eq a b ≡ true → a ≡ b
exact_linear a b h =
    let e1 = exact_option _ exact_key a.memory b.memory (first_so _ _ h) in
    let r1 = second_so _ _ h in
    let e2 = exact_bool a.memory64 b.memory64 (first_so _ _ r1) in
    let r2 = second_so _ _ r1 in
    let e3 = eqb-true a.page_size_log2 b.page_size_log2 (first_so _ _ r2) in
    let e4 = exact_option _ exact_key a.realloc b.realloc (second_so _ _ r2) in
    λ i. record { memory = e1 i; memory64 = e2 i; page_size_log2 = e3 i; realloc = e4 i }

exact_options : (a b : Options) → options_eq.ghosts.eq a b ≡ true → a ≡ b
exact_options a b h =
    let e1 = exact_string a.string_encoding b.string_encoding (first_so _ _ h) in
    let r1 = second_so (string_eq.ghosts.eq a.string_encoding b.string_encoding) _ h in
    let e2 = exact_linear a.linear b.linear (first_so _ _ r1) in
    let r2 = second_so (linear_eq.ghosts.eq a.linear b.linear) _ r1 in
    let e3 = exact_option _ exact_key a.callback b.callback (first_so _ _ r2) in
    let r3 = second_so _ _ r2 in
    let e4 = exact_bool a.async_ b.async_ (first_so _ _ r3) in
    let e5 = exact_key a.core_type b.core_type (second_so _ _ r3) in
    λ i. record { string_encoding = e1 i; linear = e2 i; callback = e3 i; async_ = e4 i; core_type = e5 i }

exact_location : (a b : HelperLocation) → location_eq.ghosts.eq a b ≡ true → a ≡ b
exact_location location.Stack location.Stack h = refl
exact_location location.Memory location.Memory h = refl
exact_location a b h = absurd (true≢false (sym h))

exact_side : (a b : HelperType) → side_eq.ghosts.eq a b ≡ true → a ≡ b
exact_side a b h =
    let e1 = exact_type a.ty b.ty (first_so _ _ h) in
    let r1 = second_so (type_eq.ghosts.eq a.ty b.ty) _ h in
    let e2 = exact_options a.opts b.opts (first_so _ _ r1) in
    let e3 = exact_location a.loc b.loc (second_so (options_eq.ghosts.eq a.opts b.opts) _ r1) in
    λ i. record { ty = e1 i; opts = e2 i; loc = e3 i }

pub exact_helper : (a b : Helper) → helper_eq.ghosts.eq a b ≡ true → a ≡ b
exact_helper a b h =
    let e1 = exact_side a.src b.src (first_so _ _ h) in
    let e2 = exact_side a.dst b.dst (second_so (side_eq.ghosts.eq a.src b.src) _ h) in
    λ i. record { src = e1 i; dst = e2 i }
