-- What the functions that move values of types ensure.
use Rattle.std.specs.Prelude.{◌≡◌, ℕ, suc, ◌≤◌, Bool, List, [], ◌∷◌, length, Option, Some, None}
use Rattle.fact_types.specs.declared.fields.FieldPlace.{FieldPlace}
use Rattle.fact_types.specs.declared.interface.InterfaceType.{InterfaceType}
use Rattle.fact_types.specs.declared.extents.MemoryWidth.{MemoryWidth}
use Rattle.fact_types.specs.Fields.{Field, Finds}
use Rattle.fact_types.specs.FlatShapes.{flat, IsCounted, AreCounted}
use Rattle.fact_types.specs.Heights.{height}
use Rattle.fact_types.specs.Layout.{extent}
use Rattle.fact_types.specs.Shapes.{Shape, Members, layout_of}
use Rattle.fact_types.specs.Signatures.{width}
use Rattle.fact_types.specs.Tables.{Tables, HasShape, IsLive}
use Rattle.fact_actions.specs.Outlining.{translates}
use Rattle.fact_code_laws.specs.Places.{From, To}
use Rattle.fact_emit.specs.declared.places.Sides.{Sides}
use Rattle.fact_emit.specs.declared.writer.Writer.{Writer}
use Rattle.fact_emit.specs.Asked.{AskedHelper}
use Rattle.fact_emit.specs.Checks.{ChecksPlaces}
use Rattle.fact_emit.specs.Emits.{Grew, GrewAsking, Emits, EmitsAsking}
use Rattle.fact_emit.specs.Fitting.{MovesShape, MovesNode, MovesTuple}
use Rattle.fact_emit.specs.Movable.{CanMove, CanMoveMember}
use Rattle.fact_emit.specs.Parts.{from_behind, bytes_by}
use Rattle.fact_emit.specs.Writers.{taken_in}
use Rattle.fact_kinds.specs.declared.fuel.Fuel.{Fuel}
use Rattle.fact_kinds.specs.Asks.{AreAsked, MovesHelped, helper_key}
use Rattle.fact_kinds.specs.Translations.{TranslatesAs, translates_in_place, translates_inside}

-- Code was written that moves values of a type behind the checks of their places, to all shapes that they can be moved to.
pub record MovedFrom (t : Tables) (from : InterfaceType) (sides : Sides) (src : From) (dst : To) (old new : Writer) : Type 0 where
  pub grew : Grew old new
  pub emits : (s u : Shape) → HasShape t from s → CanMove s u → Emits old new (MovesNode sides src dst (taken_in old) s u)

-- The same to places of another type, where its shape is one that they can be moved to.
pub record MovedBetween (t : Tables) (from to : InterfaceType) (sides : Sides) (src : From) (dst : To) (old new : Writer) : Type 0 where
  pub grew : Grew old new
  pub emits : (s u : Shape) → HasShape t from s → HasShape t to u → CanMove s u → Emits old new (MovesNode sides src dst (taken_in old) s u)

-- The same of values that may have members. The code asks for helpers of lower types alone: for those that the
-- translation of the two shapes asks for, behind its cost, and it leaves such fuel.
pub record MovedNode (t : Tables) (from to : InterfaceType) (sides : Sides) (src : From) (dst : To) (before after : Fuel) (old new : Writer) : Type 0 where
  pub asks : List AskedHelper
  pub grew : GrewAsking asks old new
  pub asked : AreAsked t sides (height t to) new.sections asks
  pub emits : (s u : Shape) → HasShape t from s → HasShape t to u → IsCounted s → IsCounted u → CanMove s u → EmitsAsking asks old new (MovesNode sides src dst (taken_in old) s u)
  pub translated : (s u : Shape) → HasShape t from s → HasShape t to u → IsCounted s → IsCounted u → CanMove s u → TranslatesAs t sides src dst before after asks (λ i r. translates_inside i r s u)

-- The same of tuples, whose own weight takes no steps.
pub record MovedTuple (t : Tables) (from to : InterfaceType) (sides : Sides) (src : From) (dst : To) (before after : Fuel) (old new : Writer) : Type 0 where
  pub asks : List AskedHelper
  pub grew : GrewAsking asks old new
  pub asked : AreAsked t sides (height t to) new.sections asks
  pub emits : (s u : Shape) → HasShape t from s → HasShape t to u → IsCounted s → IsCounted u → CanMove s u → EmitsAsking asks old new (MovesTuple sides src dst (taken_in old) s u)
  pub translated : (s u : Shape) → HasShape t from s → HasShape t to u → IsCounted s → IsCounted u → CanMove s u → TranslatesAs t sides src dst before after asks (λ i r. translates_inside i r s u)

-- Values of a type have at most 4,294,967,295 bytes in a width of memory.
abbrev pub AreSmall : Tables → InterfaceType → Bool → Type 0
AreSmall t y memory64 = (s : Shape) → HasShape t y s → (extent (width memory64) (layout_of s)).size ≤ 4294967295

-- With the checks of the places, and the cost.
pub record MovedInPlace (t : Tables) (from to : InterfaceType) (sides : Sides) (src : From) (dst : To) (before after : Fuel) (old new : Writer) : Type 0 where
  pub asks : List AskedHelper
  pub grew : GrewAsking asks old new
  pub asked : AreAsked t sides (height t to) new.sections asks
  pub emits : (s u : Shape) → HasShape t from s → HasShape t to u → IsCounted s → IsCounted u → CanMove s u → EmitsAsking asks old new (MovesShape sides src dst (taken_in old) s u)
  pub translated : (s u : Shape) → HasShape t from s → HasShape t to u → IsCounted s → IsCounted u → CanMove s u → TranslatesAs t sides src dst before after asks (λ i r. translates_in_place i r s u)
  pub from_small : AreSmall t from sides.from.memory64
  pub to_small : AreSmall t to sides.to.memory64

-- The same of values that a helper may move, of their type or a lower one.
pub record MovedValue (t : Tables) (from to : InterfaceType) (sides : Sides) (src : From) (dst : To) (before after : Fuel) (old new : Writer) : Type 0 where
  pub asks : List AskedHelper
  pub grew : GrewAsking asks old new
  pub asked : AreAsked t sides (suc (height t to)) new.sections asks
  pub emits : (s u : Shape) → HasShape t from s → HasShape t to u → IsCounted s → IsCounted u → CanMoveMember s u → EmitsAsking asks old new (MovesHelped sides src dst (taken_in old) s u)
  pub translated : (s u : Shape) → HasShape t from s → HasShape t to u → IsCounted s → IsCounted u → CanMoveMember s u → TranslatesAs t sides src dst before after asks (λ i r. translates i r s u)

-- A helper was called, which moves such values.
pub record CalledHelper (t : Tables) (from to : InterfaceType) (sides : Sides) (src : From) (dst : To) (old new : Writer) : Type 0 where
  pub helper : AskedHelper
  pub key : helper.key ≡ helper_key sides from to src dst
  pub grew : GrewAsking (helper ∷ []) old new
  pub asked : AreAsked t sides (suc (height t to)) new.sections (helper ∷ [])
  pub emits : (s u : Shape) → HasShape t from s → HasShape t to u → IsCounted s → IsCounted u → CanMoveMember s u → EmitsAsking (helper ∷ []) old new (MovesHelped sides src dst (taken_in old) s u)

-- The checks were written.
pub record CheckedPlaces (t : Tables) (from to : InterfaceType) (sides : Sides) (src : From) (dst : To) (old new : Writer) : Type 0 where
  pub grew : Grew old new
  pub emits : (s u : Shape) → HasShape t from s → HasShape t to u
      → Emits old new (ChecksPlaces sides.debug sides.from.memory64 sides.to.memory64 (extent (width sides.from.memory64) (layout_of s)).align (extent (width sides.to.memory64) (layout_of u)).align src dst)
  pub from_small : AreSmall t from sides.from.memory64
  pub to_small : AreSmall t to sides.to.memory64

-- ---- members

abbrev pub IsLiveFound : Tables → Option FieldPlace → Type 0
IsLiveFound t None = Unit {0}
IsLiveFound t (Some f) = IsLive t f.ty

-- Code was written that moves a field of a source: from a part with the numbers of the field.
pub record EmitsField (asks : List AskedHelper) (sides : Sides) (f : Field) (u : Shape) (src : From) (dst : To) (old new : Writer) : Type 0 where
  pub skip : ℕ
  pub count : ℕ
  pub bytes : ℕ
  pub skip_is : f.flat_place ≤ 16 → skip ≡ f.flat_place
  pub count_is : (w : MemoryWidth) → length (flat w f.shape) ≤ 16 → count ≡ length (flat w f.shape)
  pub bytes_is : bytes ≡ bytes_by (width sides.from.memory64) f.place32 f.place64
  pub emits : EmitsAsking asks old new (MovesHelped sides (from_behind skip count bytes src) dst (taken_in old) f.shape u)

-- the same of a member of a destination, where the source member that was found can be moved to it
pub record MovedMember (t : Tables) (found : Option FieldPlace) (to : InterfaceType) (sides : Sides) (src : From) (dst : To) (before after : Fuel) (old new : Writer) : Type 0 where
  pub asks : List AskedHelper
  pub grew : GrewAsking asks old new
  pub asked : AreAsked t sides (suc (height t to)) new.sections asks
  pub emits : (ms : Members) (f : Field) (u : Shape) → Finds t ms found (Some f) → HasShape t to u → AreCounted ms → IsCounted f.shape → IsCounted u → CanMoveMember f.shape u
      → EmitsField asks sides f u src dst old new
  pub translated : (ms : Members) (f : Field) (u : Shape) → Finds t ms found (Some f) → HasShape t to u → AreCounted ms → IsCounted f.shape → IsCounted u → CanMoveMember f.shape u
      → TranslatesAs t sides src dst before after asks (λ i r. translates i r f.shape u)
