-- Shapes between which code moves values: a scalar and the same one, strings, flags of at most 32 names and enums with as many
-- names, tuples member by member, records whose members can be moved by name, variants, options and results of which each case can
-- be moved to the case of its name, lists and maps whose elements can be moved, and handles of one kind.
use Rattle.std.specs.Prelude.{◌≡◌, ◌<◌, ◌≤◌, ◌⊎◌, ℕ, Bool, true, false, Some, None}
use Rattle.std.specs.Str.{bytes_eq}
use Rattle.fact_types.specs.declared.interface.InterfaceType.{InterfaceType}
use Rattle.fact_types.specs.declared.interface.InterfaceType.TheVariants as ty
use Rattle.fact_types.specs.Agrees.{chosen, names_of}
use Rattle.fact_types.specs.Fields.{field_of}
use Rattle.fact_types.specs.Layout.{payloads, record_layout}
use Rattle.fact_types.specs.Shapes.{Kind, k_record, k_variant, k_list, k_tuple, k_map, k_flags, k_enum, k_fixed, k_option, k_result, k_future, k_stream, Shape, s_plain, s_node, Members, no_members, bare, typed, layout_of, layouts_of}
use Rattle.fact_types.specs.Sound.{TakesBytes}
use Rattle.fact_types.specs.Valid.{AreDistinct}
use Rattle.fact_values.specs.Canonical.{ThereIs}
use Rattle.fact_values.specs.Limits.{CaseType, case_type}
use Rattle.fact_values.specs.Places.{count_of_members}

-- a type of one number
abbrev pub is_scalar : InterfaceType → Bool
is_scalar ty.Bool = true
is_scalar ty.S8 = true
is_scalar ty.U8 = true
is_scalar ty.S16 = true
is_scalar ty.U16 = true
is_scalar ty.S32 = true
is_scalar ty.U32 = true
is_scalar ty.S64 = true
is_scalar ty.U64 = true
is_scalar ty.Float32 = true
is_scalar ty.Float64 = true
is_scalar ty.Char = true
is_scalar _ = false

-- handles of one kind that are plain
abbrev pub CanTransfer : InterfaceType → InterfaceType → Type 0
CanTransfer (ty.Own i) (ty.Own j) = Unit {0}
CanTransfer (ty.Borrow i) (ty.Borrow j) = Unit {0}
CanTransfer (ty.ErrorContext i) (ty.ErrorContext j) = Unit {0}
CanTransfer _ _ = ⊥

abbrev pub CanMovePlain : Shape → InterfaceType → Type 0
CanMovePlain (s_plain a) b = ((a ≡ b) × (is_scalar a ≡ true)) ⊎ (((a ≡ ty.String) × (b ≡ ty.String)) ⊎ CanTransfer a b)
CanMovePlain (s_node k ms) b = ⊥

-- flags of as many names, at least one and at most 32, each once
pub record CanMoveFlags (ms ns : Members) : Type 0 where
  pub same : count_of_members ns ≡ count_of_members ms
  pub some : 0 < count_of_members ms
  pub few : count_of_members ms ≤ 32
  pub alone : AreDistinct (names_of ms)

-- Elements of lists, and entries of maps, are moved member by member. They take at least one byte, as values of valid types do.
pub record CanMoveElements (ms ns : Members) (Fields : Type 0) : Type 0 where
  pub fields : Fields
  pub from_bytes : TakesBytes (record_layout (payloads (layouts_of ms)))
  pub to_bytes : TakesBytes (record_layout (payloads (layouts_of ns)))

-- Members and payloads are moved from types that take at least one byte to types that do, as values of valid types do.
pub record BothTakeBytes (t u : Shape) (Moves : Type 0) : Type 0 where
  pub moves : Moves
  pub from_bytes : TakesBytes (layout_of t)
  pub to_bytes : TakesBytes (layout_of u)

-- each case of a source
abbrev pub EachCaseOf : Members → (CaseType → Type 0) → Type 0
EachCaseOf ms Case = (n : ℕ) (c : CaseType) → case_type ms n ≡ Some c → Case c

abbrev pub CanMoveNode : Shape → Kind → Members → (Members → Type 0) → (CaseType → Type 0) → Type 0
CanMoveNode (s_node k_record ms) k_record ns Fields Case = Fields ms
CanMoveNode (s_node k_tuple ms) k_tuple ns Fields Case = Fields ms
CanMoveNode (s_node k_list ms) k_list ns Fields Case = CanMoveElements ms ns (Fields ms)
CanMoveNode (s_node k_map ms) k_map ns Fields Case = CanMoveElements ms ns (Fields ms)
CanMoveNode (s_node (k_fixed m) ms) (k_fixed n) ns Fields Case = (m ≡ n) × CanMoveElements ms ns (Fields ms)
CanMoveNode (s_node k_flags ms) k_flags ns Fields Case = CanMoveFlags ms ns
CanMoveNode (s_node k_enum ms) k_enum ns Fields Case = count_of_members ns ≡ count_of_members ms
CanMoveNode (s_node k_variant ms) k_variant ns Fields Case = EachCaseOf ms Case
CanMoveNode (s_node k_option ms) k_option ns Fields Case = EachCaseOf ms Case
CanMoveNode (s_node k_result ms) k_result ns Fields Case = EachCaseOf ms Case
CanMoveNode (s_node (k_future t i) ms) (k_future u j) ns Fields Case = Unit {0}
CanMoveNode (s_node (k_stream t i) ms) (k_stream u j) ns Fields Case = Unit {0}
CanMoveNode _ _ ns Fields Case = ⊥

abbrev mutual
  pub CanMove : Shape → Shape → Type 0
  CanMove t (s_plain u) = CanMovePlain t u
  CanMove t (s_node k ns) = CanMoveNode t k ns (λ ms. CanMoveFields ms ns) (λ c. CanMoveCase c ns)

  -- each member of the destination that has a type can be moved from the source member of its name
  pub CanMoveFields : Members → Members → Type 0
  CanMoveFields ms no_members = Unit {0}
  CanMoveFields ms (bare x ns) = CanMoveFields ms ns
  CanMoveFields ms (typed x u ns) = ThereIs (field_of x ms) (λ f. BothTakeBytes f.shape u (CanMove f.shape u)) × CanMoveFields ms ns

  -- a case can be moved to the first case of its name: both have a payload that can be moved, or neither has one
  pub CanMoveCase : CaseType → Members → Type 0
  CanMoveCase c no_members = ⊥
  CanMoveCase c (bare x ns) = chosen (bytes_eq x c.name) (c.payload ≡ None) (CanMoveCase c ns)
  CanMoveCase c (typed x u ns) = chosen (bytes_eq x c.name) (ThereIs c.payload (λ p. BothTakeBytes p u (CanMove p u))) (CanMoveCase c ns)

-- a member or a payload
abbrev pub CanMoveMember : Shape → Shape → Type 0
CanMoveMember t u = BothTakeBytes t u (CanMove t u)

-- each case of the source can be moved
abbrev pub CanMoveCases : Members → Members → Type 0
CanMoveCases ms ns = EachCaseOf ms (λ c. CanMoveCase c ns)
