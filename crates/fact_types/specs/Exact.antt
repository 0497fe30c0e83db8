-- Values that are equal by their tests are the same.
use Rattle.std.specs.Prelude.{◌≡◌, ℕ, List, [], ◌∷◌, Option, Some, None, true, false, refl, Bool, nat_eq}
use Rattle.std.proofs.Common.{ap, sym}
use Rattle.std.proofs.lemmas.Bool.{eqb-true, true≢false}
use Rattle.std.specs.Bool.{beq}
use Rattle.std.specs.Cmp.{first_so, second_so}
use Rattle.std.specs.Option.{option_eq}
use Rattle.std.specs.Cmp.Lexicographic.{pointwise}
use Rattle.fact_entity.specs.declared.id.Id.{Id}
use Rattle.fact_types.specs.declared.abi.CanonicalAbiInfo.{CanonicalAbiInfo}
use Rattle.fact_types.specs.declared.interface.InterfaceType.{InterfaceType}
use Rattle.fact_types.specs.declared.interface.InterfaceType.TheVariants.{Bool as t_bool, S8 as t_s8, U8 as t_u8, S16 as t_s16, U16 as t_u16, S32 as t_s32, U32 as t_u32, S64 as t_s64, U64 as t_u64, Float32 as t_float32, Float64 as t_float64, Char as t_char, String as t_string, Record as t_record, Variant as t_variant, List as t_list, Tuple as t_tuple, Map as t_map, Flags as t_flags, Enum as t_enum, Option as t_option, Result as t_result, Own as t_own, Borrow as t_borrow, Future as t_future, Stream as t_stream, ErrorContext as t_error_context, FixedLengthList as t_fixed_length_list}
use Rattle.fact_types.specs.declared.outside.CoreDef.{CoreDef}
use Rattle.fact_types.specs.declared.outside.CoreDef.TheVariants as def
use Rattle.fact_types.specs.declared.sizes.DiscriminantSize.{DiscriminantSize}
use Rattle.fact_types.specs.declared.sizes.DiscriminantSize.TheVariants.{Size1 as one_byte, Size2 as two_bytes, Size4 as four_bytes}
use Rattle.fact_types.specs.declared.variants.VariantInfo.{VariantInfo}
use Rattle.fact_types.specs.Ordered.{VariantType, FlagsType, EnumType}
use Rattle.fact_types.specs.Equality.{case_eq, texts_eq, variant_eq, flags_eq, enum_eq}
use Rattle.fact_types.specs.contracts.interface.InterfaceTypePartialEq.TheImpl as type_eq
use Rattle.fact_types.specs.contracts.variants.VariantInfoPartialEq.TheImpl as info_eq
use Rattle.fact_types.specs.contracts.sizes.DiscriminantSizePartialEq.TheImpl as size_eq
use Rattle.fact_types.specs.contracts.abi.CanonicalAbiInfoPartialEq.TheImpl as abi_eq
use Rattle.fact_types.specs.contracts.outside.CoreDefPartialEq.TheImpl as def_eq

pub exact_type : (a b : InterfaceType) → type_eq.ghosts.eq a b ≡ true → a ≡ b
exact_type t_bool t_bool h = refl
exact_type t_s8 t_s8 h = refl
exact_type t_u8 t_u8 h = refl
exact_type t_s16 t_s16 h = refl
exact_type t_u16 t_u16 h = refl
exact_type t_s32 t_s32 h = refl
exact_type t_u32 t_u32 h = refl
exact_type t_s64 t_s64 h = refl
exact_type t_u64 t_u64 h = refl
exact_type t_float32 t_float32 h = refl
exact_type t_float64 t_float64 h = refl
exact_type t_char t_char h = refl
exact_type t_string t_string h = refl
exact_type (t_record i) (t_record j) h = ap (λ (n : ℕ). t_record (record { number = n; table = i.table })) (eqb-true i.number j.number h)
exact_type (t_variant i) (t_variant j) h = ap (λ (n : ℕ). t_variant (record { number = n; table = i.table })) (eqb-true i.number j.number h)
exact_type (t_list i) (t_list j) h = ap (λ (n : ℕ). t_list (record { number = n; table = i.table })) (eqb-true i.number j.number h)
exact_type (t_tuple i) (t_tuple j) h = ap (λ (n : ℕ). t_tuple (record { number = n; table = i.table })) (eqb-true i.number j.number h)
exact_type (t_map i) (t_map j) h = ap (λ (n : ℕ). t_map (record { number = n; table = i.table })) (eqb-true i.number j.number h)
exact_type (t_flags i) (t_flags j) h = ap (λ (n : ℕ). t_flags (record { number = n; table = i.table })) (eqb-true i.number j.number h)
exact_type (t_enum i) (t_enum j) h = ap (λ (n : ℕ). t_enum (record { number = n; table = i.table })) (eqb-true i.number j.number h)
exact_type (t_option i) (t_option j) h = ap (λ (n : ℕ). t_option (record { number = n; table = i.table })) (eqb-true i.number j.number h)
exact_type (t_result i) (t_result j) h = ap (λ (n : ℕ). t_result (record { number = n; table = i.table })) (eqb-true i.number j.number h)
exact_type (t_own i) (t_own j) h = ap (λ (n : ℕ). t_own (record { number = n; table = i.table })) (eqb-true i.number j.number h)
exact_type (t_borrow i) (t_borrow j) h = ap (λ (n : ℕ). t_borrow (record { number = n; table = i.table })) (eqb-true i.number j.number h)
exact_type (t_future i) (t_future j) h = ap (λ (n : ℕ). t_future (record { number = n; table = i.table })) (eqb-true i.number j.number h)
exact_type (t_stream i) (t_stream j) h = ap (λ (n : ℕ). t_stream (record { number = n; table = i.table })) (eqb-true i.number j.number h)
exact_type (t_error_context i) (t_error_context j) h = ap (λ (n : ℕ). t_error_context (record { number = n; table = i.table })) (eqb-true i.number j.number h)
exact_type (t_fixed_length_list i) (t_fixed_length_list j) h = ap (λ (n : ℕ). t_fixed_length_list (record { number = n; table = i.table })) (eqb-true i.number j.number h)
exact_type a b h = absurd (true≢false (sym h))

pub exact_option : {X : Type 0} (E : X → X → Bool) → ((a b : X) → E a b ≡ true → a ≡ b) → (x y : Option X) → option_eq E x y ≡ true → x ≡ y
exact_option E f None None h = refl
exact_option E f None (Some y) h = cc
exact_option E f (Some x) None h = cc
exact_option E f (Some x) (Some y) h = ap Some (f x y h)

pub exact_list : {X : Type 0} (E : X → X → Bool) → ((a b : X) → E a b ≡ true → a ≡ b) → (xs ys : List X) → pointwise E xs ys ≡ true → xs ≡ ys
exact_list E f [] [] h = refl
exact_list E f [] (y ∷ ys) h = cc
exact_list E f (x ∷ xs) [] h = cc
exact_list E f (x ∷ xs) (y ∷ ys) h =
    let p = f x y (first_so (E x y) (pointwise E xs ys) h) in
    let q = exact_list E f xs ys (second_so (E x y) (pointwise E xs ys) h) in
    cc

pub exact_text : (a b : List ℕ) → pointwise nat_eq a b ≡ true → a ≡ b
exact_text = exact_list nat_eq (λ a b h. eqb-true a b h)

pub exact_texts : (a b : List (List ℕ)) → texts_eq a b ≡ true → a ≡ b
exact_texts = exact_list (pointwise nat_eq) exact_text

pub exact_abi : (a b : CanonicalAbiInfo) → abi_eq.ghosts.eq a b ≡ true → a ≡ b
exact_abi a b h =
    let e1 = eqb-true a.size32 b.size32 (first_so _ _ h) in
    let r1 = second_so _ _ h in
    let e2 = eqb-true a.align32 b.align32 (first_so _ _ r1) in
    let r2 = second_so _ _ r1 in
    let e3 = eqb-true a.size64 b.size64 (first_so _ _ r2) in
    let r3 = second_so _ _ r2 in
    let e4 = eqb-true a.align64 b.align64 (first_so _ _ r3) in
    let e5 = exact_option nat_eq (λ x y k. eqb-true x y k) a.flat_count b.flat_count (second_so _ _ r3) in
    λ i. record { size32 = e1 i; align32 = e2 i; size64 = e3 i; align64 = e4 i; flat_count = e5 i }

exact_size : (a b : DiscriminantSize) → size_eq.ghosts.eq a b ≡ true → a ≡ b
exact_size one_byte one_byte h = refl
exact_size two_bytes two_bytes h = refl
exact_size four_bytes four_bytes h = refl
exact_size a b h = absurd (true≢false (sym h))

pub exact_info : (a b : VariantInfo) → info_eq.ghosts.eq a b ≡ true → a ≡ b
exact_info a b h =
    let e1 = exact_size a.size b.size (first_so _ _ h) in
    let r1 = second_so (size_eq.ghosts.eq a.size b.size) _ h in
    let e2 = eqb-true a.payload_offset32 b.payload_offset32 (first_so _ _ r1) in
    let e3 = eqb-true a.payload_offset64 b.payload_offset64 (second_so _ _ r1) in
    λ i. record { size = e1 i; payload_offset32 = e2 i; payload_offset64 = e3 i }

exact_case : (p q : List ℕ × Option InterfaceType) → case_eq p q ≡ true → p ≡ q
exact_case p q h =
    let e1 = exact_text p.0 q.0 (first_so _ _ h) in
    let e2 = exact_option type_eq.ghosts.eq exact_type p.1 q.1 (second_so _ _ h) in
    λ i. (e1 i, e2 i)

pub exact_variant : (a b : VariantType) → variant_eq a b ≡ true → a ≡ b
exact_variant a b h =
    let e1 = exact_list case_eq exact_case a.cases b.cases (first_so _ _ h) in
    let r1 = second_so (pointwise case_eq a.cases b.cases) _ h in
    let e2 = exact_abi a.abi b.abi (first_so _ _ r1) in
    let e3 = exact_info a.info b.info (second_so (abi_eq.ghosts.eq a.abi b.abi) _ r1) in
    λ i. record { cases = e1 i; abi = e2 i; info = e3 i }

pub exact_flags : (a b : FlagsType) → flags_eq a b ≡ true → a ≡ b
exact_flags a b h =
    let e1 = exact_texts a.names b.names (first_so _ _ h) in
    let e2 = exact_abi a.abi b.abi (second_so (texts_eq a.names b.names) _ h) in
    λ i. record { names = e1 i; abi = e2 i }

pub exact_enum : (a b : EnumType) → enum_eq a b ≡ true → a ≡ b
exact_enum a b h =
    let e1 = exact_texts a.names b.names (first_so _ _ h) in
    let r1 = second_so (texts_eq a.names b.names) _ h in
    let e2 = exact_abi a.abi b.abi (first_so _ _ r1) in
    let e3 = exact_info a.info b.info (second_so (abi_eq.ghosts.eq a.abi b.abi) _ r1) in
    λ i. record { names = e1 i; abi = e2 i; info = e3 i }

pub exact_bool : (a b : Bool) → beq a b ≡ true → a ≡ b
exact_bool true true h = refl
exact_bool false false h = refl
exact_bool a b h = absurd (true≢false (sym h))

pub exact_key : {T : Type 0} (a b : Id T) → nat_eq a.number b.number ≡ true → a ≡ b
exact_key a b h = ap (λ (n : ℕ). record { number = n; table = a.table }) (eqb-true a.number b.number h)

pub exact_def : (a b : CoreDef) → def_eq.ghosts.eq a b ≡ true → a ≡ b
exact_def (def.Export i x) (def.Export j y) h =
    let e1 = exact_key i j (first_so _ _ h) in
    let e2 = exact_text x y (second_so _ _ h) in
    λ k. def.Export (e1 k) (e2 k)
exact_def (def.InstanceFlags i) (def.InstanceFlags j) h = ap def.InstanceFlags (exact_key i j h)
exact_def (def.Trampoline i) (def.Trampoline j) h = ap def.Trampoline (exact_key i j h)
exact_def a b h = absurd (true≢false (sym h))
