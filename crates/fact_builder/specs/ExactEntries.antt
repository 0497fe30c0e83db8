-- Cited by private clauses alone.
-- Entries that are equal by `==` are the same.
use Rattle.std.specs.Prelude.{◌≡◌, [], Option, true, nat_eq}
use Rattle.std.proofs.lemmas.Bool.{eqb-true}
use Rattle.std.specs.Bool.{beq}
use Rattle.std.specs.Cmp.{first_so, second_so}
use Rattle.std.specs.Cmp.Lexicographic.{pointwise}
use Rattle.std.specs.Option.{option_eq}
use Rattle.fact_types.specs.declared.interface.InterfaceType.{InterfaceType}
use Rattle.fact_types.specs.declared.kinds.TypeFunc.{TypeFunc}
use Rattle.fact_types.specs.declared.kinds.RecordField.{RecordField}
use Rattle.fact_types.specs.declared.kinds.TypeRecord.{TypeRecord}
use Rattle.fact_types.specs.declared.kinds.TypeTuple.{TypeTuple}
use Rattle.fact_types.specs.declared.kinds.TypeFixedLengthList.{TypeFixedLengthList}
use Rattle.fact_types.specs.declared.kinds.TypeOption.{TypeOption}
use Rattle.fact_types.specs.declared.kinds.TypeResult.{TypeResult}
use Rattle.fact_types.specs.declared.kinds.TypeList.{TypeList}
use Rattle.fact_types.specs.declared.kinds.TypeMap.{TypeMap}
use Rattle.fact_types.specs.declared.kinds.TypeFuture.{TypeFuture}
use Rattle.fact_types.specs.declared.kinds.TypeFutureTable.{TypeFutureTable}
use Rattle.fact_types.specs.declared.kinds.TypeStream.{TypeStream}
use Rattle.fact_types.specs.declared.kinds.TypeStreamTable.{TypeStreamTable}
use Rattle.fact_types.specs.declared.kinds.TypeErrorContextTable.{TypeErrorContextTable}
use Rattle.fact_types.specs.Exact.{exact_bool, exact_text, exact_abi, exact_type, exact_option, exact_list, exact_enum}
use Rattle.fact_types.specs.contracts.interface.InterfaceTypePartialEq.TheImpl as type_eq
use Rattle.fact_types.specs.contracts.abi.CanonicalAbiInfoPartialEq.TheImpl as abi_eq
use Rattle.fact_types.specs.contracts.kinds.TypeFuncPartialEq.TheImpl as func_eq
use Rattle.fact_types.specs.contracts.kinds.RecordFieldPartialEq.TheImpl as field_eq
use Rattle.fact_types.specs.contracts.kinds.TypeRecordPartialEq.TheImpl as record_eq
use Rattle.fact_types.specs.contracts.kinds.TypeTuplePartialEq.TheImpl as tuple_eq
use Rattle.fact_types.specs.contracts.kinds.TypeFixedLengthListPartialEq.TheImpl as fixed_length_list_eq
use Rattle.fact_types.specs.contracts.kinds.TypeOptionPartialEq.TheImpl as option_type_eq
use Rattle.fact_types.specs.contracts.kinds.TypeResultPartialEq.TheImpl as result_eq
use Rattle.fact_types.specs.contracts.kinds.TypeListPartialEq.TheImpl as list_eq
use Rattle.fact_types.specs.contracts.kinds.TypeMapPartialEq.TheImpl as map_eq
use Rattle.fact_types.specs.contracts.kinds.TypeFuturePartialEq.TheImpl as future_eq
use Rattle.fact_types.specs.contracts.kinds.TypeFutureTablePartialEq.TheImpl as future_table_eq
use Rattle.fact_types.specs.contracts.kinds.TypeStreamPartialEq.TheImpl as stream_eq
use Rattle.fact_types.specs.contracts.kinds.TypeStreamTablePartialEq.TheImpl as stream_table_eq
use Rattle.fact_types.specs.contracts.kinds.TypeErrorContextTablePartialEq.TheImpl as error_context_table_eq

pub exact_func : (a b : TypeFunc) → func_eq.ghosts.eq a b ≡ true → a ≡ b
exact_func a b h =
    let e1 = exact_bool a.async_ b.async_ (first_so _ _ h) in
    let r1 = second_so (beq a.async_ b.async_) _ h in
    let e2 = exact_list (pointwise nat_eq) exact_text a.param_names b.param_names (first_so _ _ r1) in
    let r2 = second_so (pointwise (pointwise nat_eq) a.param_names b.param_names) _ r1 in
    let e3 = eqb-true a.params.number b.params.number (first_so _ _ r2) in
    let e4 = eqb-true a.results.number b.results.number (second_so _ _ r2) in
    λ i. record { async_ = e1 i; param_names = e2 i; params = record { number = e3 i; table = a.params.table }; results = record { number = e4 i; table = a.results.table } }

exact_field : (a b : RecordField) → field_eq.ghosts.eq a b ≡ true → a ≡ b
exact_field a b h =
    let e1 = exact_text a.name b.name (first_so _ _ h) in
    let e2 = exact_type a.ty b.ty (second_so (pointwise nat_eq a.name b.name) _ h) in
    λ i. record { name = e1 i; ty = e2 i }

pub exact_record : (a b : TypeRecord) → record_eq.ghosts.eq a b ≡ true → a ≡ b
exact_record a b h =
    let e1 = exact_list field_eq.ghosts.eq exact_field a.fields b.fields (first_so _ _ h) in
    let e2 = exact_abi a.abi b.abi (second_so (pointwise field_eq.ghosts.eq a.fields b.fields) _ h) in
    λ i. record { fields = e1 i; abi = e2 i }

pub exact_tuple : (a b : TypeTuple) → tuple_eq.ghosts.eq a b ≡ true → a ≡ b
exact_tuple a b h =
    let e1 = exact_list type_eq.ghosts.eq exact_type a.types b.types (first_so _ _ h) in
    let e2 = exact_abi a.abi b.abi (second_so (pointwise type_eq.ghosts.eq a.types b.types) _ h) in
    λ i. record { types = e1 i; abi = e2 i }

pub exact_fixed_length_list : (a b : TypeFixedLengthList) → fixed_length_list_eq.ghosts.eq a b ≡ true → a ≡ b
exact_fixed_length_list a b h =
    let e1 = exact_type a.element b.element (first_so _ _ h) in
    let r1 = second_so (type_eq.ghosts.eq a.element b.element) _ h in
    let e2 = eqb-true a.size b.size (first_so _ _ r1) in
    let e3 = exact_abi a.abi b.abi (second_so (nat_eq a.size b.size) _ r1) in
    λ i. record { element = e1 i; size = e2 i; abi = e3 i }

pub exact_option_type : (a b : TypeOption) → option_type_eq.ghosts.eq a b ≡ true → a ≡ b
exact_option_type a b h =
    let e1 = exact_type a.ty b.ty (first_so _ _ h) in
    let e2 = exact_enum (record { names = []; abi = a.abi; info = a.info }) (record { names = []; abi = b.abi; info = b.info }) (second_so (type_eq.ghosts.eq a.ty b.ty) _ h) in
    λ i. record { ty = e1 i; abi = (e2 i).abi; info = (e2 i).info }

exact_payload : (a b : Option InterfaceType) → option_eq type_eq.ghosts.eq a b ≡ true → a ≡ b
exact_payload = exact_option type_eq.ghosts.eq exact_type

pub exact_result : (a b : TypeResult) → result_eq.ghosts.eq a b ≡ true → a ≡ b
exact_result a b h =
    let e1 = exact_payload a.ok b.ok (first_so _ _ h) in
    let r1 = second_so (option_eq type_eq.ghosts.eq a.ok b.ok) _ h in
    let e2 = exact_payload a.err b.err (first_so _ _ r1) in
    let r2 = second_so (option_eq type_eq.ghosts.eq a.err b.err) _ r1 in
    let e3 = exact_enum (record { names = []; abi = a.abi; info = a.info }) (record { names = []; abi = b.abi; info = b.info }) r2 in
    λ i. record { ok = e1 i; err = e2 i; abi = (e3 i).abi; info = (e3 i).info }

pub exact_list_type : (a b : TypeList) → list_eq.ghosts.eq a b ≡ true → a ≡ b
exact_list_type a b h = let e = exact_type a.element b.element h in λ i. record { element = e i }

pub exact_map : (a b : TypeMap) → map_eq.ghosts.eq a b ≡ true → a ≡ b
exact_map a b h =
    let e1 = exact_type a.key b.key (first_so _ _ h) in
    let r1 = second_so (type_eq.ghosts.eq a.key b.key) _ h in
    let e2 = exact_type a.value b.value (first_so _ _ r1) in
    let r2 = second_so (type_eq.ghosts.eq a.value b.value) _ r1 in
    let e3 = exact_abi a.entry_abi b.entry_abi (first_so _ _ r2) in
    let r3 = second_so (abi_eq.ghosts.eq a.entry_abi b.entry_abi) _ r2 in
    let e4 = eqb-true a.value_offset32 b.value_offset32 (first_so _ _ r3) in
    let e5 = eqb-true a.value_offset64 b.value_offset64 (second_so _ _ r3) in
    λ i. record { key = e1 i; value = e2 i; entry_abi = e3 i; value_offset32 = e4 i; value_offset64 = e5 i }

pub exact_future : (a b : TypeFuture) → future_eq.ghosts.eq a b ≡ true → a ≡ b
exact_future a b h = let e = exact_payload a.payload b.payload h in λ i. record { payload = e i }

pub exact_future_table : (a b : TypeFutureTable) → future_table_eq.ghosts.eq a b ≡ true → a ≡ b
exact_future_table a b h =
    let e1 = eqb-true a.ty.number b.ty.number (first_so _ _ h) in
    let e2 = eqb-true a.instance.number b.instance.number (second_so _ _ h) in
    λ i. record { ty = record { number = e1 i; table = a.ty.table }; instance = record { number = e2 i; table = a.instance.table } }

pub exact_stream : (a b : TypeStream) → stream_eq.ghosts.eq a b ≡ true → a ≡ b
exact_stream a b h = let e = exact_payload a.payload b.payload h in λ i. record { payload = e i }

pub exact_stream_table : (a b : TypeStreamTable) → stream_table_eq.ghosts.eq a b ≡ true → a ≡ b
exact_stream_table a b h =
    let e1 = eqb-true a.ty.number b.ty.number (first_so _ _ h) in
    let e2 = eqb-true a.instance.number b.instance.number (second_so _ _ h) in
    λ i. record { ty = record { number = e1 i; table = a.ty.table }; instance = record { number = e2 i; table = a.instance.table } }

pub exact_error_context_table : (a b : TypeErrorContextTable) → error_context_table_eq.ghosts.eq a b ≡ true → a ≡ b
exact_error_context_table a b h =
    let e = eqb-true a.instance.number b.instance.number h in
    λ i. record { instance = record { number = e i; table = a.instance.table } }
