-- What is worked out from the parts of an entry is what its members make of it.
use Rattle.std.proofs.Common.{◌≡◌, ℕ, suc, List, [], ◌∷◌, length, map, Option, Some, None, refl, sym, ◌∙◌, ap}
use Rattle.std.specs.Prelude.{option_map, unwrap_or}
use Rattle.fact_types.specs.declared.interface.InterfaceType.{InterfaceType}
use Rattle.fact_types.specs.declared.kinds.RecordField.{RecordField}
use Rattle.fact_types.specs.declared.kinds.TypeRecord.{TypeRecord}
use Rattle.fact_types.specs.declared.kinds.TypeTuple.{TypeTuple}
use Rattle.fact_types.specs.Layout.{payloads, flags_size, flags_flat}
use Rattle.fact_types.specs.Ordered.{VariantType, FlagsType, EnumType}
use Rattle.fact_types.specs.Tables.{Tables, abi_at, record_node, tuple_node, variant_node, flags_node, enum_node, placed, Stands}
use Rattle.fact_builder.specs.declared.information.TypeInformation.{TypeInformation}
use Rattle.fact_builder.specs.Information.{nothing, product_from, sum_from, tagged, with_flat, words, known, known_field, known_payload, known_members, made_of}
use Rattle.fact_builder.proofs.KeptLaws.{Kept}

fields_known : (kept : Kept) (fs : List RecordField) → map (known_field kept) fs ≡ payloads (map (λ (m : List ℕ × Option InterfaceType). option_map (known kept) m.1) (map (λ (f : RecordField). (f.name, Some f.ty)) fs))
fields_known kept [] = refl
fields_known kept (f ∷ fs) = ap (λ ks. known_field kept f ∷ ks) (fields_known kept fs)

pub record_told : (kept : Kept) (e : TypeRecord) → product_from nothing (map (known_field kept) e.fields) ≡ made_of (record_node e).kind (known_members kept (record_node e))
record_told kept e = ap (product_from nothing) (fields_known kept e.fields)

types_known : (kept : Kept) (n : ℕ) (tys : List InterfaceType) → map (known kept) tys ≡ payloads (map (λ (m : List ℕ × Option InterfaceType). option_map (known kept) m.1) (placed n tys))
types_known kept n [] = refl
types_known kept n (ty ∷ tys) = ap (λ ks. known kept ty ∷ ks) (types_known kept (suc n) tys)

pub tuple_told : (kept : Kept) (e : TypeTuple) → product_from nothing (map (known kept) e.types) ≡ made_of (tuple_node e).kind (known_members kept (tuple_node e))
tuple_told kept e = ap (product_from nothing) (types_known kept 0 e.types)

payloads_known : (kept : Kept) (cs : List (List ℕ × Option InterfaceType)) → map (known_payload kept) (map (λ c. c.1) cs) ≡ map (λ (m : List ℕ × Option InterfaceType). option_map (known kept) m.1) cs
payloads_known kept [] = refl
payloads_known kept (c ∷ cs) = ap (λ ks. known_payload kept c.1 ∷ ks) (payloads_known kept cs)

pub variant_told : (kept : Kept) (e : VariantType) → tagged (sum_from nothing (map (known_payload kept) (map (λ c. c.1) e.cases))) ≡ made_of (variant_node e).kind (known_members kept (variant_node e))
variant_told kept e = ap (λ ks. tagged (sum_from nothing ks)) (payloads_known kept e.cases)

names_known : (kept : Kept) (a : TypeInformation) (ns : List (List ℕ)) → sum_from a (map (λ (m : List ℕ × Option InterfaceType). option_map (known kept) m.1) (map (λ n. (n, None)) ns)) ≡ a
names_known kept a [] = refl
names_known kept a (n ∷ ns) = names_known kept a ns

pub enum_told : (kept : Kept) (e : EnumType) → with_flat (words 1) nothing ≡ made_of (enum_node e).kind (known_members kept (enum_node e))
enum_told kept e = ap (with_flat (words 1)) (sym (names_known kept nothing e.names))

name_count : {X : Type 0} (f : List ℕ × Option InterfaceType → X) (ns : List (List ℕ)) → length (map f (map (λ n. (n, None)) ns)) ≡ length ns
name_count f [] = refl
name_count f (n ∷ ns) = ap suc (name_count f ns)

pub flags_told : (t : Tables) (kept : Kept) (e : FlagsType) → Stands t (flags_node e) → with_flat (words (unwrap_or e.abi.flat_count 0)) nothing ≡ made_of (flags_node e).kind (known_members kept (flags_node e))
flags_told t kept e s =
    (λ i. with_flat (words (unwrap_or (s.laid i).flat_count 0)) nothing)
    ∙ (λ i. with_flat (words (flags_flat (flags_size (same i)))) (sym (names_known kept nothing e.names) i))
  where
    same : length (map (λ (m : List ℕ × Option InterfaceType). option_map (abi_at t) m.1) (flags_node e).members) ≡ length (known_members kept (flags_node e))
    same = name_count (λ m. option_map (abi_at t) m.1) e.names ∙ sym (name_count (λ m. option_map (known kept) m.1) e.names)
