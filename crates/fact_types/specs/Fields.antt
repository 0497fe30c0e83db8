-- The members of a record or a tuple by name: where each of them stands, in memory and among the flat types.
use Rattle.std.specs.Prelude.{◌≡◌, ℕ, ◌+◌, ◌≤◌, List, length, Option, Some, None, if◌then◌else◌}
use Rattle.std.specs.Str.{bytes_eq}
use Rattle.fact_types.specs.declared.fields.FieldPlace.{FieldPlace}
use Rattle.fact_types.specs.declared.extents.MemoryWidth.TheVariants.{Memory32, Memory64}
use Rattle.fact_types.specs.Flat.{flat_within}
use Rattle.fact_types.specs.FlatShapes.{flat, AreCounted}
use Rattle.fact_types.specs.Shapes.{Shape, Members, no_members, bare, typed, layout_of, place_of, next_of, ends_of}
use Rattle.fact_types.specs.Tables.{Tables, IsLive, HasShape}

-- A member: its shape, how many flat types stand before it, and its place in bytes in either memory.
pub record Field : Type 0 where
  pub shape : Shape
  pub flat_place : ℕ
  pub place32 : ℕ
  pub place64 : ℕ

-- The first member of a name, behind so many flat types and so many bytes in either memory.
abbrev pub find : List ℕ → Members → ℕ → ℕ → ℕ → Option Field
find x no_members f a b = None
find x (bare n ms) f a b = find x ms f a b
find x (typed n s ms) f a b =
    if bytes_eq n x then
    Some (record { shape = s; flat_place = f; place32 = place_of Memory32 s a; place64 = place_of Memory64 s b })
    else find x ms (f + length (flat Memory32 s)) (next_of Memory32 s a) (next_of Memory64 s b)

-- The member of a name in a whole record or tuple.
abbrev pub field_of : List ℕ → Members → Option Field
field_of x ms = find x ms 0 0 0

-- A field that was found is the member: its type stands for the member's shape, its places are those of the member, and
-- it ends within the record. Flat types are counted where layouts count them.
pub record IsFound (t : Tables) (ms : Members) (f : FieldPlace) (g : Field) : Type 0 where
  pub live : IsLive t f.ty
  pub shaped : HasShape t f.ty g.shape
  pub flat_place : AreCounted ms → f.flat_place ≡ flat_within g.flat_place
  pub place32 : f.place32 ≡ g.place32
  pub place64 : f.place64 ≡ g.place64
  pub within32 : g.place32 + (layout_of g.shape).size32 ≤ ends_of Memory32 ms 0
  pub within64 : g.place64 + (layout_of g.shape).size64 ≤ ends_of Memory64 ms 0

abbrev pub Finds : Tables → Members → Option FieldPlace → Option Field → Type 0
Finds t ms None None = Unit {0}
Finds t ms None (Some g) = ⊥
Finds t ms (Some f) None = ⊥
Finds t ms (Some f) (Some g) = IsFound t ms f g
