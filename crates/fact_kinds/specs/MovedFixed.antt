-- What the functions that move the elements of lists of fixed length ensure.
use Rattle.std.specs.Prelude.{◌≡◌, ℕ, suc, ◌<◌, List, []}
use Rattle.fact_types.specs.declared.interface.InterfaceType.{InterfaceType}
use Rattle.fact_types.specs.FlatShapes.{IsCounted}
use Rattle.fact_types.specs.Heights.{height}
use Rattle.fact_types.specs.Layout.{extent}
use Rattle.fact_types.specs.Shapes.{k_fixed, Shape, s_node, no_members, typed, layout_of}
use Rattle.fact_types.specs.Signatures.{width}
use Rattle.fact_types.specs.Tables.{Tables, HasShape}
use Rattle.fact_actions.specs.Outlining.{translates, translates_times}
use Rattle.fact_code_laws.specs.Places.{From, To}
use Rattle.fact_emit.specs.declared.places.Sides.{Sides}
use Rattle.fact_emit.specs.declared.writer.Writer.{Writer}
use Rattle.fact_emit.specs.Asked.{AskedHelper}
use Rattle.fact_emit.specs.Emits.{GrewAsking, EmitsAsking}
use Rattle.fact_emit.specs.Fitting.{MovesNode}
use Rattle.fact_emit.specs.Movable.{CanMoveMember}
use Rattle.fact_emit.specs.Writers.{taken_in}
use Rattle.fact_kinds.specs.Asks.{AreAsked}
use Rattle.fact_kinds.specs.declared.fixed.FixedElements.{FixedElements}
use Rattle.fact_kinds.specs.declared.fuel.Fuel.{Fuel}
use Rattle.fact_kinds.specs.Translations.{TranslatesAs}

-- There is at least one element, and they take so many bytes, at least one.
pub record AreFixedElements (sides : Sides) (e : FixedElements) (s u : Shape) : Type 0 where
  pub some : 0 < e.count
  pub from : e.from_size ≡ (extent (width sides.from.memory64) (layout_of s)).size
  pub to : e.to_size ≡ (extent (width sides.to.memory64) (layout_of u)).size
  pub from_some : 0 < e.from_size
  pub to_some : 0 < e.to_size

-- a list of so many elements
abbrev pub fixed_of : ℕ → Shape → Shape
fixed_of n s = s_node (k_fixed n) (typed [] s no_members)

-- Code was written that moves lists of so many elements behind the checks of their places, where the elements can be moved. That of an element stands in it so
-- many times.
pub record MovedElements (t : Tables) (from to : InterfaceType) (e : FixedElements) (turns : ℕ) (sides : Sides) (src : From) (dst : To) (before after : Fuel) (old new : Writer) : Type 0 where
  pub asks : List AskedHelper
  pub grew : GrewAsking asks old new
  pub asked : AreAsked t sides (suc (height t to)) new.sections asks
  pub emits : (s u : Shape) → HasShape t from s → HasShape t to u → IsCounted s → IsCounted u → CanMoveMember s u → AreFixedElements sides e s u
      → EmitsAsking asks old new (MovesNode sides src dst (taken_in old) (fixed_of e.count s) (fixed_of e.count u))
  pub translated : (s u : Shape) → HasShape t from s → HasShape t to u → IsCounted s → IsCounted u → CanMoveMember s u
      → TranslatesAs t sides src dst before after asks (λ i r. translates_times turns (translates i r s u))
