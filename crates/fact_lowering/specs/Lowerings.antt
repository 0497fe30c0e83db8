-- The steps by which values are lowered.
use Rattle.std.specs.Prelude.{◌≡◌, ℕ, ◌%◌, ◌^◌, ◌<◌, ◌≤◌, Bool, All, List, [], ◌∷◌, ◌++◌, length, map, sum_by, Option, Some, None}
use Rattle.fact_machine.specs.declared.types.CoreValue.{CoreValue}
use Rattle.fact_machine.specs.declared.types.CoreValue.TheVariants as core
use Rattle.fact_machine.specs.World.{number_at}
use Rattle.fact_types.specs.declared.flats.FlatType.{FlatType}
use Rattle.fact_types.specs.declared.flats.FlatType.TheVariants.{I32, I64, F32, F64}
use Rattle.fact_types.specs.declared.interface.InterfaceType.{InterfaceType}
use Rattle.fact_types.specs.declared.interface.InterfaceType.TheVariants.{S64, U64}
use Rattle.fact_types.specs.Layout.{extent, flags_extent, flags_flat, flags_size}
use Rattle.fact_types.specs.declared.extents.MemoryWidth.{MemoryWidth}
use Rattle.fact_types.specs.Shapes.{Members, s_node, plain_layout}
use Rattle.fact_types.specs.Tables.{Tables, HasShape}
use Rattle.fact_abi.specs.declared.nodes.Node.{Node}
use Rattle.fact_abi.specs.Nodes.{kind_of}
use Rattle.fact_values.specs.declared.side.SideAbi.{SideAbi}
use Rattle.fact_values.specs.declared.value.Value.{Value}
use Rattle.fact_values.specs.declared.value.Value.TheVariants as value
use Rattle.fact_values.specs.Lift.{lift_case}
use Rattle.fact_values.specs.Load.{load_case, load_variant}
use Rattle.fact_values.specs.Numbers.{flags_of_number, number_of_words, plain_of, text, value_of_number}
use Rattle.fact_lowering.specs.Lowered.{own_measure, own_rooms}
use Rattle.fact_lowering.specs.Room.{measured_fields, measured_payload, shape_named}
use Rattle.fact_lowering.specs.TextForms.{IsCaseByForm, IsCaseByFormAt, IsVariantByFormAt}

-- a type of the kind of a node has these members
abbrev pub HasNodeShape : Tables → InterfaceType → Node → Members → Type 0
HasNodeShape t ty x ms = HasShape t ty (s_node (kind_of x.kind) ms)

-- the room behind pointers of fields, of entries, and of the payload of a case
abbrev pub own_fields : SideAbi → Members → List (List ℕ × Value) → ℕ
own_fields side ms fs = measured_fields (own_measure side) ms fs ms

abbrev pub own_entries : SideAbi → Members → List (Value × Value) → ℕ
own_entries side ms es = sum_by (λ e. own_rooms side ms (e.0 ∷ e.1 ∷ [])) es

abbrev pub own_case : SideAbi → Members → List ℕ → List Value → ℕ
own_case side ms x vs = measured_payload (own_measure side) ms x vs (shape_named x ms)

-- a case is read at a place, and as core values behind its discriminant
abbrev pub ReadsCase : SideAbi → Members → List ℕ → List Value → (place : ℕ) → List ℕ → Type 0
ReadsCase side ms x vs place bytes =
    (load_variant side bytes ms (λ n b. load_case side bytes ms n b) place ≡ Some (value.Case x vs)) × IsVariantByFormAt side bytes ms (λ n b. IsCaseByFormAt side bytes ms n b) place

abbrev pub ReadsCaseAs : SideAbi → Members → (number : ℕ) → List ℕ → List Value → List CoreValue → List ℕ → Type 0
ReadsCaseAs side ms n x vs cores bytes =
    (more : List CoreValue) → (lift_case side bytes ms n (cores ++ more) ≡ Some (value.Case x vs)) × IsCaseByForm side bytes ms n (cores ++ more)

-- numbers as core values of flat types, one by one
abbrev pub core_of : FlatType → ℕ → CoreValue
core_of I32 n = core.I32 (n % 2 ^ 32)
core_of I64 n = core.I64 n
core_of F32 n = core.F32 (n % 2 ^ 32)
core_of F64 n = core.F64 n

abbrev pub cores_of : List FlatType → List ℕ → List CoreValue
cores_of [] ns = []
cores_of (f ∷ fs) [] = []
cores_of (f ∷ fs) (n ∷ ns) = core_of f n ∷ cores_of fs ns

-- how many numbers the core value of an integer type has
abbrev pub numbers_of_core : InterfaceType → ℕ
numbers_of_core S64 = 2 ^ 64
numbers_of_core U64 = 2 ^ 64
numbers_of_core ty = 2 ^ 32

-- A number stands for a value of a type without members: by as many of its lowest bytes as the type has in memory, and whole. That of
-- a type of at most 4 bytes has 32 bits.
pub record IsNumberOf (ty : InterfaceType) (v : Value) (n : ℕ) : Type 0 where
  pub in_memory : (w : MemoryWidth) → value_of_number (plain_of ty) (n % 256 ^ (extent w (plain_layout ty)).size) ≡ Some v
  pub whole : value_of_number (plain_of ty) n ≡ Some v
  pub small : n < 2 ^ 64
  pub half : (plain_layout ty).size32 ≤ 4 → n < 2 ^ 32

-- texts alone have no number
abbrev pub IsNumberFor : InterfaceType → Value → Option ℕ → Type 0
IsNumberFor ty v None = plain_of ty ≡ text
IsNumberFor ty v (Some n) = IsNumberOf ty v n

-- bytes, and words of 32 bits, that stand for flags
abbrev pub AreFlagBytes : List (List ℕ × Bool) → List ℕ → Type 0
AreFlagBytes flags bytes =
    (length bytes ≡ (flags_extent (flags_size (length flags))).size) × (flags_of_number (map (λ f. f.0) flags) (number_at (length bytes) bytes 0) ≡ flags)

abbrev pub AreFlagWords : List (List ℕ × Bool) → List ℕ → Type 0
AreFlagWords flags words =
    (length words ≡ flags_flat (flags_size (length flags))) × All (λ w. w < 2 ^ 32) words × (flags_of_number (map (λ f. f.0) flags) (number_of_words words) ≡ flags)
