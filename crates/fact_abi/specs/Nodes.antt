-- What a walk over the values of a type knows of it: its kind and its members.
use Rattle.std.specs.Prelude.{◌≡◌, ℕ, List, [], ◌∷◌, map, Option, Some, None, slice_get}
use Rattle.fact_types.specs.declared.interface.InterfaceType.{InterfaceType}
use Rattle.fact_types.specs.declared.kinds.RecordField.{RecordField}
use Rattle.fact_types.specs.Agrees.{names_of}
use Rattle.fact_types.specs.Heights.{IsMemberOf}
use Rattle.fact_types.specs.Shapes.{Kind, k_record, k_variant, k_list, k_tuple, k_map, k_flags, k_enum, k_option, k_result, k_fixed, k_future, k_stream, Shape, s_plain, s_node, Members, no_members, bare, typed}
use Rattle.fact_types.specs.Tables.{Tables, HasShape}
use Rattle.fact_abi.specs.declared.nodes.NodeKind.{NodeKind}
use Rattle.fact_abi.specs.declared.nodes.NodeKind.TheVariants as is
use Rattle.fact_abi.specs.declared.nodes.Node.{Node}
use Rattle.fact_values.specs.Places.{typed_names}

abbrev pub kind_of : NodeKind → Kind
kind_of is.Record = k_record
kind_of is.Variant = k_variant
kind_of (is.List e) = k_list
kind_of is.Tuple = k_tuple
kind_of (is.Map k v) = k_map
kind_of is.Flags = k_flags
kind_of is.Enum = k_enum
kind_of is.Option = k_option
kind_of is.Result = k_result
kind_of (is.FixedList n e) = k_fixed n
kind_of (is.Future table instance) = k_future table instance
kind_of (is.Stream table instance) = k_stream table instance

-- Variants, and the kinds that are read as variants.
abbrev pub IsVariantKind : NodeKind → Type 0
IsVariantKind is.Variant = Unit {0}
IsVariantKind is.Enum = Unit {0}
IsVariantKind is.Option = Unit {0}
IsVariantKind is.Result = Unit {0}
IsVariantKind _ = ⊥

-- The types of members, each where it has one.
abbrev pub AreOf : Tables → List (Option InterfaceType) → Members → Type 0
AreOf t [] no_members = Unit {0}
AreOf t (x ∷ xs) no_members = ⊥
AreOf t [] (bare n ms) = ⊥
AreOf t (x ∷ xs) (bare n ms) = (x ≡ None) × AreOf t xs ms
AreOf t [] (typed n s ms) = ⊥
AreOf t (x ∷ xs) (typed n s ms) = ((ty : InterfaceType) × (x ≡ Some ty) × HasShape t ty s) × AreOf t xs ms

-- The members of a kind that a walk needs: names where they pair up by name, and types where values have some.
abbrev pub AreTold : NodeKind → Tables → List (List ℕ) → List (Option InterfaceType) → Members → Type 0
AreTold is.Record t names types ms = (names ≡ typed_names ms) × AreOf t types ms
AreTold is.Variant t names types ms = (names ≡ names_of ms) × AreOf t types ms
AreTold is.Enum t names types ms = (names ≡ names_of ms) × AreOf t types ms
AreTold is.Option t names types ms = (names ≡ names_of ms) × AreOf t types ms
AreTold is.Result t names types ms = (names ≡ names_of ms) × AreOf t types ms
AreTold is.Flags t names types ms = names ≡ names_of ms
AreTold (is.List e) t names types ms = (types ≡ Some e ∷ []) × AreOf t types ms
AreTold is.Tuple t names types ms = AreOf t types ms
AreTold (is.Map k v) t names types ms = (types ≡ Some k ∷ Some v ∷ []) × AreOf t types ms
AreTold (is.FixedList n e) t names types ms = (types ≡ Some e ∷ []) × AreOf t types ms
AreTold (is.Future table instance) t names types ms = Unit {0}
AreTold (is.Stream table instance) t names types ms = Unit {0}

-- The members of a shape of a kind.
pub record IsOfKind (t : Tables) (k : NodeKind) (names : List (List ℕ)) (types : List (Option InterfaceType)) (s : Shape) : Type 0 where
  pub members : Members
  pub is : s ≡ s_node (kind_of k) members
  pub told : AreTold k t names types members

-- Types of members are live, and lower than a type.
pub record AreLower (t : Tables) (owner : InterfaceType) (types : List (Option InterfaceType)) : Type 0 where
  pub each : (i : ℕ) (m : InterfaceType) → slice_get types i ≡ Some (Some m) → IsMemberOf t m owner

-- A type has members as told, each of them lower than the type.
pub record HasNode (t : Tables) (ty : InterfaceType) (x : Node) : Type 0 where
  pub shaped : (s : Shape) → HasShape t ty s → IsOfKind t x.kind x.names x.types s
  pub within : AreLower t ty x.types

-- A type has members as told, or it has none.
abbrev pub IsNodeOf : Tables → InterfaceType → Option Node → Type 0
IsNodeOf t ty None = (s : Shape) → HasShape t ty s → s ≡ s_plain ty
IsNodeOf t ty (Some x) = HasNode t ty x

-- ---- the members of entries
abbrev pub field_types : List RecordField → List (Option InterfaceType)
field_types fs = map (λ f. Some f.ty) fs

abbrev pub field_names_of : List RecordField → List (List ℕ)
field_names_of fs = map (λ f. f.name) fs
