-- What types cost, by their entries.
use Rattle.std.proofs.lemmas.Bool.Decides.{nat_tests}
use Rattle.std.proofs.Common.{◌≡◌, ◌≤◌, ◌-◌, ◌||◌, ◌&&◌, not, min, nat_eq, nat_lt, nat_le, Bool, true, false, arith, ℕ, suc, List, [], ◌∷◌, length, map, Option, Some, None, refl, ap, ◌∙◌, subst}
use Rattle.std.specs.Prelude.{option_map, slice_get}
use Rattle.fact_entity.specs.declared.id.Id.{Id}
use Rattle.fact_entity.specs.declared.table.TypeRecords.{TypeRecords}
use Rattle.fact_entity.specs.declared.table.TypeTuples.{TypeTuples}
use Rattle.fact_entity.specs.declared.table.TypeFixedLengthLists.{TypeFixedLengthLists}
use Rattle.fact_entity.specs.declared.table.TypeFlags.{TypeFlags as FlagsTable}
use Rattle.fact_entity.specs.declared.table.TypeEnums.{TypeEnums}
use Rattle.fact_entity.specs.declared.table.TypeVariants.{TypeVariants}
use Rattle.fact_types.specs.declared.interface.InterfaceType.{InterfaceType}
use Rattle.fact_types.specs.declared.interface.InterfaceType.TheVariants as ty
use Rattle.fact_types.specs.declared.kinds.TypeFixedLengthList.{TypeFixedLengthList}
use Rattle.fact_types.specs.declared.kinds.TypeTuple.{TypeTuple}
use Rattle.fact_types.specs.Agrees.{names_of}
use Rattle.fact_types.specs.declared.kinds.TypeRecord.{TypeRecord}
use Rattle.fact_types.specs.Ordered.{FlagsType, EnumType, VariantType}
use Rattle.fact_types.specs.Shapes.{k_record, k_variant, k_tuple, k_flags, k_enum, Shape, Members, no_members, bare, typed}
use Rattle.fact_types.specs.Tables.{Tables, record_node, variant_node, tuple_node, flags_node, enum_node, placed, HasShape, HasMembers}
use Rattle.fact_actions.specs.Outlining.{cost, cost_of_flags}
use Rattle.fact_kinds.proofs.TypeKinds.{record_kind, tuple_kind, list_kind, map_kind, fixed_kind, flags_kind, enum_kind, variant_kind, option_kind, result_kind, future_kind, stream_kind, node_members, fixed_size}

mapped : {A B : Type 0} (f : A → B) (xs : List A) → length (map f xs) ≡ length xs
mapped f [] = refl
mapped f (x ∷ xs) = ap suc (mapped f xs)

placed_count : (n : ℕ) (ys : List InterfaceType) → length (placed n ys) ≡ length ys
placed_count n [] = refl
placed_count n (y ∷ ys) = ap suc (placed_count (suc n) ys)

module _ (t : Tables) where
  names_counted : (xs : List (List ℕ × Option InterfaceType)) (ms : Members) → HasMembers t xs ms → length (names_of ms) ≡ length xs
  names_counted [] no_members h = refl
  names_counted [] (bare x ms) h = absurd h
  names_counted [] (typed x s ms) h = absurd h
  names_counted (y ∷ xs) no_members h = absurd h
  names_counted (y ∷ xs) (bare x ms) h = ap suc (names_counted xs ms h.2)
  names_counted (y ∷ xs) (typed x s ms) h = ap suc (names_counted xs ms h.2)

  pub record_cost : (i : Id TypeRecords) (e : TypeRecord) → slice_get t.records i.number ≡ Some e → (s : Shape) → HasShape t (ty.Record i) s → cost s ≡ length e.fields
  record_cost i e is s h =
      let (ms, kind) = record_kind t i s h in
      ap cost kind
      ∙ names_counted (map (λ f. (f.name, Some f.ty)) e.fields) ms (node_members t (ty.Record i) (record_node e) (ap (option_map record_node) is) k_record ms (subst (HasShape t (ty.Record i)) kind h))
      ∙ mapped (λ f. (f.name, Some f.ty)) e.fields

  pub tuple_cost : (i : Id TypeTuples) (e : TypeTuple) → slice_get t.tuples i.number ≡ Some e → (s : Shape) → HasShape t (ty.Tuple i) s → cost s ≡ length e.types
  tuple_cost i e is s h =
      let (ms, kind) = tuple_kind t i s h in
      ap cost kind
      ∙ names_counted (placed 0 e.types) ms (node_members t (ty.Tuple i) (tuple_node e) (ap (option_map tuple_node) is) k_tuple ms (subst (HasShape t (ty.Tuple i)) kind h))
      ∙ placed_count 0 e.types

  pub variant_cost : (i : Id TypeVariants) (e : VariantType) → slice_get t.variants i.number ≡ Some e → (s : Shape) → HasShape t (ty.Variant i) s → cost s ≡ length e.cases
  variant_cost i e is s h =
      let (ms, kind) = variant_kind t i s h in
      ap cost kind
      ∙ names_counted e.cases ms (node_members t (ty.Variant i) (variant_node e) (ap (option_map variant_node) is) k_variant ms (subst (HasShape t (ty.Variant i)) kind h))

  pub enum_cost : (i : Id TypeEnums) (e : EnumType) → slice_get t.enums i.number ≡ Some e → (s : Shape) → HasShape t (ty.Enum i) s → cost s ≡ length e.names
  enum_cost i e is s h =
      let (ms, kind) = enum_kind t i s h in
      ap cost kind
      ∙ names_counted (map (λ n. (n, None)) e.names) ms (node_members t (ty.Enum i) (enum_node e) (ap (option_map enum_node) is) k_enum ms (subst (HasShape t (ty.Enum i)) kind h))
      ∙ mapped (λ n. (n, None)) e.names

  pub flags_cost : (i : Id FlagsTable) (e : FlagsType) → slice_get t.flags i.number ≡ Some e → (s : Shape) → HasShape t (ty.Flags i) s → cost s ≡ cost_of_flags (length e.names)
  flags_cost i e is s h =
      let (ms, kind) = flags_kind t i s h in
      ap cost kind
      ∙ ap cost_of_flags
      (names_counted (map (λ n. (n, None)) e.names) ms (node_members t (ty.Flags i) (flags_node e) (ap (option_map flags_node) is) k_flags ms (subst (HasShape t (ty.Flags i)) kind h))
      ∙ mapped (λ n. (n, None)) e.names)

  pub fixed_cost : (i : Id TypeFixedLengthLists) (e : TypeFixedLengthList) → slice_get t.fixed_length_lists i.number ≡ Some e → (s : Shape) → HasShape t (ty.FixedLengthList i) s → cost s ≡ e.size
  fixed_cost i e is s h =
      let (n, ms, kind) = fixed_kind t i s h in
      ap cost kind ∙ fixed_size t i e is n ms (subst (HasShape t (ty.FixedLengthList i)) kind h)

  pub list_cost : (i : _) (s : Shape) → HasShape t (ty.List i) s → cost s ≡ 40
  list_cost i s h = ap cost (list_kind t i s h).1

  pub map_cost : (i : _) (s : Shape) → HasShape t (ty.Map i) s → cost s ≡ 40
  map_cost i s h = ap cost (map_kind t i s h).1

  pub option_cost : (i : _) (s : Shape) → HasShape t (ty.Option i) s → cost s ≡ 2
  option_cost i s h = ap cost (option_kind t i s h).1

  pub result_cost : (i : _) (s : Shape) → HasShape t (ty.Result i) s → cost s ≡ 2
  result_cost i s h = ap cost (result_kind t i s h).1

  pub future_cost : (i : _) (s : Shape) → HasShape t (ty.Future i) s → cost s ≡ 1
  future_cost i s h = ap cost (future_kind t i s h).2

  pub stream_cost : (i : _) (s : Shape) → HasShape t (ty.Stream i) s → cost s ≡ 1
  stream_cost i s h = ap cost (stream_kind t i s h).2

-- Costs above 4,294,967,295 do not matter: a fuel that is not full is below them.
pub covers_truly : (c left initial : ℕ) → left ≤ initial → initial ≤ 4294967295 → (nat_le (min c 4294967295) left || nat_eq left initial) ≡ not (nat_lt left c && not (nat_eq left initial))
covers_truly c left initial within small = go (nat_lt left c) (nat_eq left initial) (nat_le (min c 4294967295) left) refl refl refl
  where
    go : (costs full covered : Bool) → nat_lt left c ≡ costs → nat_eq left initial ≡ full → nat_le (min c 4294967295) left ≡ covered → (covered || full) ≡ not (costs && not full)
    go false full true x y z = refl
    go false true false x y z = refl
    go false false false x y z = absurd (grind (arith, nat_tests, within, small, x, y, z))
    go true true true x y z = refl
    go true true false x y z = refl
    go true false true x y z = absurd (grind (arith, nat_tests, within, small, x, y, z))
    go true false false x y z = refl

pub takes_truly : (c left : ℕ) → left ≤ 4294967295 → left - min c 4294967295 ≡ left - c
takes_truly c left small = omega (arith, small)
