-- What the functions that move variants, options and results ensure.
use Rattle.std.specs.Prelude.{◌≡◌, ℕ, suc, ◌≤◌, Bool, List, ◌++◌, length, Option, Some, None, slice_get}
use Rattle.fact_wasm.specs.declared.types.ValType.{ValType}
use Rattle.fact_wasm.specs.declared.types.ValType.TheVariants as val
use Rattle.fact_wasm.specs.declared.instr.Instr.{Instr}
use Rattle.fact_wasm.specs.declared.module.WasmModule.{WasmModule}
use Rattle.fact_types.specs.declared.interface.InterfaceType.{InterfaceType}
use Rattle.fact_types.specs.declared.variants.VariantInfo.{VariantInfo}
use Rattle.fact_types.specs.declared.extents.MemoryWidth.{MemoryWidth}
use Rattle.fact_types.specs.FlatShapes.{flat, IsCounted, AreCounted}
use Rattle.fact_types.specs.Heights.{height}
use Rattle.fact_types.specs.Layout.{variant_info}
use Rattle.fact_types.specs.Shapes.{Kind, k_variant, Shape, s_node, Members, layouts_of}
use Rattle.fact_types.specs.Signatures.{width}
use Rattle.fact_types.specs.Tables.{Tables, IsLiveMember, HasShape, HasMembers}
use Rattle.fact_values.specs.Limits.{CaseType, case_type}
use Rattle.fact_actions.specs.Moves.{move_case}
use Rattle.fact_actions.specs.Outlining.{Route, Translating, translates, translates_case, translates_cases, translates_if, translates_none}
use Rattle.fact_actions.specs.Running.{ImportPlaces}
use Rattle.fact_actions.specs.Sides.{LiftLowerOptions}
use Rattle.fact_code_laws.specs.Cases.{zero_code}
use Rattle.fact_code_laws.specs.Places.{From, To, Rooms, transfer, Moves, to_past}
use Rattle.fact_emit.specs.declared.places.Sides.{Sides}
use Rattle.fact_emit.specs.declared.writer.Writer.{Writer}
use Rattle.fact_emit.specs.Asked.{AskedHelper, HasHelpers}
use Rattle.fact_emit.specs.Choices.{code_of_bodies}
use Rattle.fact_emit.specs.Emits.{GrewAsking, GrewAsideAsking, EmitsAsking, Later}
use Rattle.fact_emit.specs.Fitting.{FitsShapes, node_moves, MovesNode}
use Rattle.fact_emit.specs.Movable.{CanMoveMember, CanMoveCase, CanMoveCases}
use Rattle.fact_emit.specs.MovesValue.{MovesValue, except, HasLocal}
use Rattle.fact_emit.specs.Parts.{from_behind, to_behind, bytes_by}
use Rattle.fact_emit.specs.Places.{setting_of, Using}
use Rattle.fact_emit.specs.Writers.{taken_in}
use Rattle.fact_kinds.specs.Asks.{AreAsked, MovesHelped}
use Rattle.fact_kinds.specs.declared.fuel.Fuel.{Fuel}
use Rattle.fact_kinds.specs.declared.sums.NumberedCase.{NumberedCase}
use Rattle.fact_kinds.specs.declared.sums.PairedCase.{PairedCase}
use Rattle.fact_kinds.specs.Sums.{case_at_name}
use Rattle.fact_kinds.specs.Translations.{TranslatesAs, translates_first}

-- ---- payloads

-- a type that may be missing is live
abbrev pub IsLiveNumbered : Tables → Option NumberedCase → Type 0
IsLiveNumbered t None = Unit {0}
IsLiveNumbered t (Some c) = IsLiveMember t c.payload

-- a payload has a shape, or there is none
abbrev pub HasPayloadShape : Tables → Option InterfaceType → Option Shape → Type 0
HasPayloadShape t None None = Unit {0}
HasPayloadShape t None (Some s) = ⊥
HasPayloadShape t (Some y) None = ⊥
HasPayloadShape t (Some y) (Some s) = HasShape t y s

-- code that moves a payload from behind a discriminant to behind one, and zeros in the slots that it leaves over
pub record MovesPayload (sides : Sides) (p u : Shape) (from_count bytes to_count place : ℕ) (src : From) (dst : To) (taken : ℕ → Bool) (M : WasmModule) (q : ImportPlaces) (locals : List ValType) (code : List Instr) : Type 0 where
  pub payload : List Instr
  pub is : code ≡ payload ++ zero_code (to_past to_count (to_past 1 dst))
  pub moves : MovesHelped sides (from_behind 1 from_count bytes src) (to_behind 0 to_count place (to_past 1 dst)) taken p u M q locals payload

-- It was written, with the numbers of flat types that the two layouts tell.
pub record EmitsPayload (asks : List AskedHelper) (sides : Sides) (from to : VariantInfo) (p u : Shape) (src : From) (dst : To) (old new : Writer) : Type 0 where
  pub from_count : ℕ
  pub to_count : ℕ
  pub from_count_is : (w : MemoryWidth) → length (flat w p) ≤ 16 → from_count ≡ length (flat w p)
  pub to_count_is : (w : MemoryWidth) → length (flat w u) ≤ 16 → to_count ≡ length (flat w u)
  pub emits : EmitsAsking asks old new (MovesPayload sides p u from_count (bytes_by (width sides.from.memory64) from.payload_offset32 from.payload_offset64) to_count (bytes_by (width sides.to.memory64) to.payload_offset32 to.payload_offset64) src dst (taken_in old))

-- of types that are there
pub record MovedSome (t : Tables) (source destination : VariantInfo) (from to : InterfaceType) (sides : Sides) (src : From) (dst : To) (before after : Fuel) (old new : Writer) : Type 0 where
  pub asks : List AskedHelper
  pub grew : GrewAsking asks old new
  pub asked : AreAsked t sides (suc (height t to)) new.sections asks
  pub emits : (p u : Shape) → HasShape t from p → HasShape t to u → IsCounted p → IsCounted u → CanMoveMember p u → EmitsPayload asks sides source destination p u src dst old new
  pub translated : (p u : Shape) → HasShape t from p → HasShape t to u → IsCounted p → IsCounted u → CanMoveMember p u → TranslatesAs t sides src dst before after asks (λ i r. translates i r p u)

-- more than the height of a type, where there is one
abbrev pub payload_height : Tables → Option InterfaceType → ℕ
payload_height t None = 0
payload_height t (Some y) = suc (height t y)

abbrev pub numbered_height : Tables → Option NumberedCase → ℕ
numbered_height t None = 0
numbered_height t (Some f) = payload_height t f.payload

-- of types that may be missing: both are there, or neither is
pub record MovedPayload (t : Tables) (source destination : VariantInfo) (from to : Option InterfaceType) (sides : Sides) (src : From) (dst : To) (before after : Fuel) (old new : Writer) : Type 0 where
  pub asks : List AskedHelper
  pub grew : GrewAsking asks old new
  pub asked : AreAsked t sides (payload_height t to) new.sections asks
  pub some : (y z : InterfaceType) → from ≡ Some y → to ≡ Some z
      → (p u : Shape) → HasShape t y p → HasShape t z u → IsCounted p → IsCounted u → CanMoveMember p u → EmitsPayload asks sides source destination p u src dst old new
  pub none : from ≡ None → to ≡ None → EmitsAsking asks old new (λ M p locals code. code ≡ zero_code (to_past 1 dst))
  pub translated_some : (y z : InterfaceType) → from ≡ Some y → to ≡ Some z
      → (p u : Shape) → HasShape t y p → HasShape t z u → IsCounted p → IsCounted u → CanMoveMember p u → TranslatesAs t sides src dst before after asks (λ i r. translates i r p u)
  pub translated_none : from ≡ None → to ≡ None → TranslatesAs t sides src dst before after asks (λ i r. translates_none)

-- ---- cases

-- code that moves a case of a source to the case of its name at a destination
pub record MovesCaseOf (sides : Sides) (src : From) (dst : To) (taken : ℕ → Bool) (ms ns : Members) (c : CaseType) (M : WasmModule) (p : ImportPlaces) (locals : List ValType) (code : List Instr) : Type 0 where
  pub moves : (a b : LiftLowerOptions) (rooms : Rooms) (used : ℕ → Bool) → Using taken used src dst → FitsShapes sides (setting_of sides a b rooms M p locals) (s_node k_variant ms) (s_node k_variant ns) src dst
      → Moves (setting_of sides a b rooms M p locals) used 300 0 src dst (λ s d. move_case (transfer (setting_of sides a b rooms M p locals)) ms ns c ns 0 s d) code

-- a case of these members of a source, with the case of its name among the members of a destination
pub record IsCaseOf (t : Tables) (ms ns : Members) (paired : PairedCase) (c : CaseType) : Type 0 where
  pub place : ℕ
  pub there : case_type ms place ≡ Some c
  pub payload : HasPayloadShape t paired.payload c.payload
  pub members : List (List ℕ × Option InterfaceType)
  pub has : HasMembers t members ns
  pub found : paired.found ≡ case_at_name c.name 0 members

-- what is translated of a case: its payload, if it has one
abbrev pub translates_by_case : (initial : ℕ) → Route → CaseType → Members → Translating
translates_by_case i r c ns = translates_if c.payload (λ s m. translates_case i r c.name s ns m)

-- Code was written that moves a case, where it can be moved.
pub record MovedCase (t : Tables) (source destination : VariantInfo) (paired : PairedCase) (sides : Sides) (src : From) (dst : To) (before after : Fuel) (old new : Writer) : Type 0 where
  pub asks : List AskedHelper
  pub grew : GrewAsking asks old new
  pub asked : AreAsked t sides (numbered_height t paired.found) new.sections asks
  pub emits : (ms ns : Members) (c : CaseType) → source ≡ variant_info (layouts_of ms) → destination ≡ variant_info (layouts_of ns) → IsCaseOf t ms ns paired c → AreCounted ms → AreCounted ns → CanMoveCase c ns
      → EmitsAsking asks old new (MovesCaseOf sides src dst (taken_in old) ms ns c)
  pub translated : (ms ns : Members) (c : CaseType) → IsCaseOf t ms ns paired c → AreCounted ms → AreCounted ns → CanMoveCase c ns → TranslatesAs t sides src dst before after asks (λ i r. translates_by_case i r c ns)

-- bodies of the first cases of members, one for each
pub record AreCaseBodies (sides : Sides) (src : From) (dst : To) (taken : ℕ → Bool) (ms ns : Members) (bodies : List (List Instr)) (M : WasmModule) (p : ImportPlaces) (locals : List ValType) : Type 0 where
  pub each : (n : ℕ) (body : List Instr) → slice_get bodies n ≡ Some body → (c : CaseType) → case_type ms n ≡ Some c → MovesCaseOf sides src dst taken ms ns c M p locals body

-- The bodies of all cases were written aside.
pub record WroteBodies (t : Tables) (from to : InterfaceType) (sides : Sides) (src : From) (dst : To) (count : ℕ) (bodies : List (List Instr)) (before after : Fuel) (old new : Writer) : Type 0 where
  pub asks : List AskedHelper
  pub grew : GrewAsideAsking asks old new (code_of_bodies bodies)
  pub all : length bodies ≡ count
  pub asked : AreAsked t sides (height t to) new.sections asks
  pub does : (k l : Kind) (ms ns : Members) → HasShape t from (s_node k ms) → HasShape t to (s_node l ns) → AreCounted ms → AreCounted ns → CanMoveCases ms ns
      → (M : WasmModule) (p : ImportPlaces) (locals : List ValType) → Later new M p locals → HasHelpers M p asks → AreCaseBodies sides src dst (taken_in old) ms ns bodies M p locals
  pub translated : (k l : Kind) (ms ns : Members) → HasShape t from (s_node k ms) → HasShape t to (s_node l ns) → AreCounted ms → AreCounted ns → CanMoveCases ms ns
      → TranslatesAs t sides src dst before after asks (λ i r. translates_first count ms (λ x s. translates_case i r x s ns))

-- ---- sums

-- Code was written that moves values of cases, with the discriminant in a local, which is kept by nobody.
pub record MovedSumBy (t : Tables) (from to : InterfaceType) (local : ℕ) (sides : Sides) (src : From) (dst : To) (before after : Fuel) (old new : Writer) : Type 0 where
  pub asks : List AskedHelper
  pub grew : GrewAsking asks old new
  pub asked : AreAsked t sides (height t to) new.sections asks
  pub emits : (k l : Kind) (ms ns : Members) → HasShape t from (s_node k ms) → HasShape t to (s_node l ns) → AreCounted ms → AreCounted ns → CanMoveCases ms ns
      → EmitsAsking asks old new (MovesValue sides src dst (except local (taken_in old)) 516 (λ S. FitsShapes sides S (s_node k_variant ms) (s_node k_variant ns) src dst × HasLocal local val.I32 S) (node_moves (s_node k_variant ms) (s_node k_variant ns)))
  pub translated : (k l : Kind) (ms ns : Members) → HasShape t from (s_node k ms) → HasShape t to (s_node l ns) → AreCounted ms → AreCounted ns → CanMoveCases ms ns
      → TranslatesAs t sides src dst before after asks (λ i r. translates_cases ms (λ x s. translates_case i r x s ns))

pub record MovedSum (t : Tables) (from to : InterfaceType) (sides : Sides) (src : From) (dst : To) (before after : Fuel) (old new : Writer) : Type 0 where
  pub asks : List AskedHelper
  pub grew : GrewAsking asks old new
  pub asked : AreAsked t sides (height t to) new.sections asks
  pub emits : (k l : Kind) (ms ns : Members) → HasShape t from (s_node k ms) → HasShape t to (s_node l ns) → AreCounted ms → AreCounted ns → CanMoveCases ms ns
      → EmitsAsking asks old new (MovesNode sides src dst (taken_in old) (s_node k_variant ms) (s_node k_variant ns))
  pub translated : (k l : Kind) (ms ns : Members) → HasShape t from (s_node k ms) → HasShape t to (s_node l ns) → AreCounted ms → AreCounted ns → CanMoveCases ms ns
      → TranslatesAs t sides src dst before after asks (λ i r. translates_cases ms (λ x s. translates_case i r x s ns))
