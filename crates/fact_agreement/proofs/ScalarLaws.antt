-- Scalars: numbers, characters and strings, each of which agrees with itself alone.
use Rattle.std.proofs.Common.{◌≡◌, ◌↔◌, Bool, true, refl, sym, ◌∙◌, ap, subst}
use Rattle.std.specs.Prelude.{IsTrue}
use Rattle.fact_entity.specs.declared.id.Id.{Id}
use Rattle.fact_entity.specs.declared.table.TypeComponentLocalErrorContextTables.{TypeComponentLocalErrorContextTables}
use Rattle.fact_entity.specs.declared.table.TypeEnums.{TypeEnums}
use Rattle.fact_entity.specs.declared.table.TypeFixedLengthLists.{TypeFixedLengthLists}
use Rattle.fact_entity.specs.declared.table.TypeFlags.{TypeFlags}
use Rattle.fact_entity.specs.declared.table.TypeFutureTables.{TypeFutureTables}
use Rattle.fact_entity.specs.declared.table.TypeLists.{TypeLists}
use Rattle.fact_entity.specs.declared.table.TypeMaps.{TypeMaps}
use Rattle.fact_entity.specs.declared.table.TypeOptions.{TypeOptions}
use Rattle.fact_entity.specs.declared.table.TypeRecords.{TypeRecords}
use Rattle.fact_entity.specs.declared.table.TypeResourceTables.{TypeResourceTables}
use Rattle.fact_entity.specs.declared.table.TypeResults.{TypeResults}
use Rattle.fact_entity.specs.declared.table.TypeStreamTables.{TypeStreamTables}
use Rattle.fact_entity.specs.declared.table.TypeTuples.{TypeTuples}
use Rattle.fact_entity.specs.declared.table.TypeVariants.{TypeVariants}
use Rattle.fact_types.specs.declared.interface.InterfaceType.{InterfaceType}
use Rattle.fact_types.specs.declared.interface.InterfaceType.TheVariants.{Record as t_record, Variant as t_variant, List as t_list, Tuple as t_tuple, Map as t_map, Flags as t_flags, Enum as t_enum, Option as t_option, Result as t_result, Future as t_future, Stream as t_stream, FixedLengthList as t_fixed_length_list, Own as t_own, Borrow as t_borrow, ErrorContext as t_error_context}
use Rattle.fact_types.specs.Agrees.{Agrees, AgreesPlain}
use Rattle.fact_types.specs.Shapes.{Shape, s_plain, s_node}
use Rattle.fact_types.specs.Tables.{Tables, node_of, is_plain, HasShape}
use Rattle.fact_types.proofs.ShapeLaws.{none_some, no_node}
use Rattle.fact_types.specs.contracts.interface.InterfaceTypePartialEq.TheImpl as type_eq
use Rattle.fact_types.specs.contracts.interface.InterfaceTypeEq.TheImpl.Laws.{laws-law as type_laws}
use Rattle.fact_types.specs.Exact.{exact_type}
use Rattle.fact_agreement.specs.Told.{Tells}
use Rattle.fact_agreement.proofs.KindLaws.{not_node}
use Rattle.fact_agreement.proofs.MemberLaws.{both_ways, other_way}

-- a type of no kind that has members is plain
pub plain_left : (p : InterfaceType)
    → ((x : Id TypeRecords) → p ≡ t_record x → ⊥)
    → ((x : Id TypeVariants) → p ≡ t_variant x → ⊥)
    → ((x : Id TypeLists) → p ≡ t_list x → ⊥)
    → ((x : Id TypeTuples) → p ≡ t_tuple x → ⊥)
    → ((x : Id TypeMaps) → p ≡ t_map x → ⊥)
    → ((x : Id TypeFlags) → p ≡ t_flags x → ⊥)
    → ((x : Id TypeEnums) → p ≡ t_enum x → ⊥)
    → ((x : Id TypeOptions) → p ≡ t_option x → ⊥)
    → ((x : Id TypeResults) → p ≡ t_result x → ⊥)
    → ((x : Id TypeFutureTables) → p ≡ t_future x → ⊥)
    → ((x : Id TypeStreamTables) → p ≡ t_stream x → ⊥)
    → ((x : Id TypeFixedLengthLists) → p ≡ t_fixed_length_list x → ⊥)
    → is_plain p ≡ true
plain_left (t_record x) a b c d e f g h i j k l = absurd (a x refl)
plain_left (t_variant x) a b c d e f g h i j k l = absurd (b x refl)
plain_left (t_list x) a b c d e f g h i j k l = absurd (c x refl)
plain_left (t_tuple x) a b c d e f g h i j k l = absurd (d x refl)
plain_left (t_map x) a b c d e f g h i j k l = absurd (e x refl)
plain_left (t_flags x) a b c d e f g h i j k l = absurd (f x refl)
plain_left (t_enum x) a b c d e f g h i j k l = absurd (g x refl)
plain_left (t_option x) a b c d e f g h i j k l = absurd (h x refl)
plain_left (t_result x) a b c d e f g h i j k l = absurd (i x refl)
plain_left (t_future x) a b c d e f g h i j k l = absurd (j x refl)
plain_left (t_stream x) a b c d e f g h i j k l = absurd (k x refl)
plain_left (t_fixed_length_list x) a b c d e f g h i j k l = absurd (l x refl)
plain_left p a b c d e f g h i j k l = refl

-- where it is no handle either, it agrees with itself alone
module _ (p : InterfaceType) (no_own : (x : Id TypeResourceTables) → p ≡ t_own x → ⊥) (no_borrow : (x : Id TypeResourceTables) → p ≡ t_borrow x → ⊥)
    (no_context : (x : Id TypeComponentLocalErrorContextTables) → p ≡ t_error_context x → ⊥) where
  agrees_alone : (q : InterfaceType) → AgreesPlain q (s_plain p) ↔ (p ≡ q)
  agrees_alone q = go q p no_own no_borrow no_context
    where
      go : (q p : InterfaceType) → ((x : Id TypeResourceTables) → p ≡ t_own x → ⊥) → ((x : Id TypeResourceTables) → p ≡ t_borrow x → ⊥) → ((x : Id TypeComponentLocalErrorContextTables) → p ≡ t_error_context x → ⊥)
          → AgreesPlain q (s_plain p) ↔ (p ≡ q)
      go (t_own j) (t_own i) a b c = absurd (a i refl)
      go (t_borrow j) (t_borrow i) a b c = absurd (b i refl)
      go (t_error_context j) (t_error_context i) a b c = absurd (c i refl)
      go q p a b c = (λ e. e, λ e. e)

  pub scalar : (t : Tables) (to : InterfaceType) (b : Bool) → is_plain p ≡ true → b ≡ type_eq.ghosts.eq p to → Tells t p to b
  scalar t to b k is s d h g = go s h d g
    where
      same : IsTrue b ↔ (p ≡ to)
      same = (λ e. exact_type p to (sym is ∙ e), λ e. is ∙ ap (type_eq.ghosts.eq p) (sym e) ∙ type_laws.refl p)

      go : (s : Shape) → HasShape t p s → (d : Shape) → HasShape t to d → (IsTrue b ↔ Agrees s d)
      go (s_node l ms) h d g = absurd (none_some (node_of t p) h.0 (no_node t p k) h.1)
      go (s_plain x) h (s_plain y) g = subst (λ x. IsTrue b ↔ AgreesPlain y (s_plain x)) h.0 (subst (λ y. IsTrue b ↔ AgreesPlain y (s_plain p)) g.0 (both_ways same (other_way (agrees_alone to))))
      go (s_plain x) h (s_node l ns) g = (λ e. absurd (none_some (node_of t to) g.0 (ap (node_of t) (sym (same.0 e)) ∙ no_node t p k) g.1), λ a. absurd (not_node x l ns a))
