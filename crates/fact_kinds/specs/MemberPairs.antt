-- The members of records and tuples: the places of those of a source, and which of them goes to which of a destination.
use Rattle.std.specs.Prelude.{◌≡◌, ℕ, ◌+◌, List, [], length, Option, Some, None, slice_get}
use Rattle.std.specs.Str.{bytes_eq}
use Rattle.indexmap.specs.IndexMap.{IndexMap, get_by}
use Rattle.fact_types.specs.declared.abi.CanonicalAbiInfo.{CanonicalAbiInfo}
use Rattle.fact_types.specs.declared.fields.FieldPlace.{FieldPlace}
use Rattle.fact_types.specs.declared.interface.InterfaceType.{InterfaceType}
use Rattle.fact_types.specs.declared.kinds.RecordField.{RecordField}
use Rattle.fact_types.specs.Fields.{field_of, Finds}
use Rattle.fact_types.specs.Flat.{add_flat}
use Rattle.fact_types.specs.FlatShapes.{AreCounted}
use Rattle.fact_types.specs.Heights.{IsMemberOf, height}
use Rattle.fact_types.specs.Layout.{aligned}
use Rattle.fact_types.specs.Shapes.{Kind, k_record, s_node, Members, layout_of, IsWithin}
use Rattle.fact_types.specs.Tables.{Tables, Node, node_of, HasShape, HasMembers}
use Rattle.fact_actions.specs.Outlining.{translates_fields}
use Rattle.fact_code_laws.specs.Places.{From, To}
use Rattle.fact_emit.specs.declared.places.Sides.{Sides}
use Rattle.fact_emit.specs.declared.writer.Writer.{Writer}
use Rattle.fact_emit.specs.Asked.{AskedHelper}
use Rattle.fact_emit.specs.Emits.{GrewAsking, EmitsAsking}
use Rattle.fact_emit.specs.Fitting.{MovesFields}
use Rattle.fact_emit.specs.Movable.{CanMoveFields}
use Rattle.fact_emit.specs.Writers.{taken_in}
use Rattle.fact_kinds.specs.Asks.{AreAsked}
use Rattle.fact_kinds.specs.declared.fuel.Fuel.{Fuel}
use Rattle.fact_kinds.specs.declared.members.MemberPair.{MemberPair}
use Rattle.fact_kinds.specs.declared.members.MembersEnd.{MembersEnd}
use Rattle.fact_kinds.specs.Moved.{IsLiveFound}
use Rattle.fact_kinds.specs.Translations.{TranslatesAs}
use denote.Ref.{Bor}

-- ---- places

-- What a map of places has at a name.
abbrev pub place_named : {S : Type 0} → IndexMap (Bor (List ℕ)) FieldPlace S → List ℕ → Option FieldPlace
place_named m x = get_by (λ k. bytes_eq x k.now) m

-- The place of a member of a type that is laid out so, behind others, and where the next one begins.
abbrev pub place_behind : MembersEnd → CanonicalAbiInfo → InterfaceType → FieldPlace
place_behind end abi ty = record {
  ty = ty;
  flat_place = end.flat_place;
  place32 = aligned end.bytes32 abi.align32;
  place64 = aligned end.bytes64 abi.align64;
}

abbrev pub end_behind : MembersEnd → CanonicalAbiInfo → MembersEnd
end_behind end abi = record {
  flat_place = add_flat end.flat_place abi.flat_count;
  bytes32 = aligned end.bytes32 abi.align32 + abi.size32;
  bytes64 = aligned end.bytes64 abi.align64 + abi.size64;
}

-- ---- pairs

-- A member: its name, and its type where it has one.
abbrev pub Member : Type 0
Member = List ℕ × Option InterfaceType

abbrev pub members_of_node : Option Node → List Member
members_of_node None = []
members_of_node (Some n) = n.members

-- The members of a type.
abbrev pub members_at : Tables → InterfaceType → List Member
members_at t ty = members_of_node (node_of t ty)

-- The pair of a field, by what was found at its name.
abbrev pub pair_named : (List ℕ → Option FieldPlace) → RecordField → MemberPair
pair_named found f = record { found = found f.name; ty = f.ty }

-- There is a pair for each member, and this holds of both.
pub record EachPair (R : Member → MemberPair → Type 0) (xs : List Member) (pairs : List MemberPair) : Type 0 where
  pub count : length pairs ≡ length xs
  pub each : (i : ℕ) (x : Member) (p : MemberPair) → slice_get xs i ≡ Some x → slice_get pairs i ≡ Some p → R x p

-- A pair of a member of a destination: it has the member's type, and what was found has a live type.
pub record IsPair (t : Tables) (to : InterfaceType) (x : Member) (p : MemberPair) : Type 0 where
  pub has_type : x.1 ≡ Some p.ty
  pub within : IsMemberOf t p.ty to
  pub found_live : IsLiveFound t p.found

-- The pairs of a destination, which takes at most 4,294,967,295 bytes.
pub record ArePairs (t : Tables) (to : InterfaceType) (pairs : List MemberPair) : Type 0 where
  pub members : EachPair (IsPair t to) (members_at t to) pairs
  pub whole : (ns : Members) × HasMembers t (members_at t to) ns × IsWithin (layout_of (s_node k_record ns))

-- What was found for each member is the member of its name of a source.
abbrev pub FindsEach : Tables → Members → InterfaceType → List MemberPair → Type 0
FindsEach t ms to pairs = EachPair (λ x p. Finds t ms p.found (field_of x.0 ms)) (members_at t to) pairs

-- The pairs of a destination with what a source of a kind has.
pub record ArePairsOf (t : Tables) (from to : InterfaceType) (kind : Kind) (pairs : List MemberPair) : Type 0 where
  pub are : ArePairs t to pairs
  pub found : (ms : Members) → HasShape t from (s_node kind ms) → FindsEach t ms to pairs

-- ---- moves

-- Code was written that moves members to those of a destination, from the places that were found in a source.
pub record MovedPairs (t : Tables) (to : InterfaceType) (pairs : List MemberPair) (sides : Sides) (src : From) (dst : To) (before after : Fuel) (old new : Writer) : Type 0 where
  pub asks : List AskedHelper
  pub grew : GrewAsking asks old new
  pub asked : AreAsked t sides (height t to) new.sections asks
  pub emits : (ms ns : Members) → FindsEach t ms to pairs → HasMembers t (members_at t to) ns → AreCounted ms → AreCounted ns → CanMoveFields ms ns
      → EmitsAsking asks old new (MovesFields sides src dst (taken_in old) ms ns 0)
  pub translated : (ms ns : Members) → FindsEach t ms to pairs → HasMembers t (members_at t to) ns → AreCounted ms → AreCounted ns → CanMoveFields ms ns
      → TranslatesAs t sides src dst before after asks (λ i r. translates_fields i r ms ns)
