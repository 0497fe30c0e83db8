-- Cited by private clauses alone.
-- Answers that are right: whether types agree, and their members.
use Rattle.std.specs.Prelude.{◌≡◌, ℕ, ◌↔◌, List, Option, Some, None, Bool, IsTrue, map, All}
use Rattle.fact_types.specs.declared.interface.InterfaceType.{InterfaceType}
use Rattle.fact_types.specs.declared.kinds.RecordField.{RecordField}
use Rattle.fact_types.specs.Agrees.{Agrees, AgreeFields, AgreesFields, EachCase, AgreesCase}
use Rattle.fact_types.specs.Functions.{HaveShapes}
use Rattle.fact_types.specs.Shapes.{Shape, Members}
use Rattle.fact_types.specs.Tables.{Tables, HasShape, HasMembers, IsLiveMember}
use Rattle.fact_agreement.specs.Lists.{AgreeAll}

-- Whether a source type agrees with a destination type.
abbrev pub Tells : Tables → InterfaceType → InterfaceType → Bool → Type 0
Tells t from to b = (s d : Shape) → HasShape t from s → HasShape t to d → (IsTrue b ↔ Agrees s d)

-- What is known of pairs of types.
abbrev pub AllTold : Tables → (InterfaceType × InterfaceType → Option Bool) → Type 0
AllTold t known = (from to : InterfaceType) (b : Bool) → known (from, to) ≡ Some b → Tells t from to b

-- Members that are live.
abbrev pub AreLive : Tables → List (List ℕ × Option InterfaceType) → Type 0
AreLive t xs = All (λ m. IsLiveMember t m.1) xs

-- Lists of types, one by one.
abbrev pub TellsAll : Tables → List InterfaceType → List InterfaceType → Bool → Type 0
TellsAll t xs ys b = (ss ds : List Shape) → HaveShapes t xs ss → HaveShapes t ys ds → (IsTrue b ↔ AgreeAll ss ds)

-- Payloads, which need not be there: both are there and agree, or neither is there.
abbrev pub HasPayload : Tables → Option InterfaceType → Option Shape → Type 0
HasPayload t None None = Unit {0}
HasPayload t None (Some s) = ⊥
HasPayload t (Some ty) None = ⊥
HasPayload t (Some ty) (Some s) = HasShape t ty s

abbrev pub AgreePayload : Option Shape → Option Shape → Type 0
AgreePayload None None = Unit {0}
AgreePayload None (Some d) = ⊥
AgreePayload (Some s) None = ⊥
AgreePayload (Some s) (Some d) = Agrees s d

abbrev pub TellsPayload : Tables → Option InterfaceType → Option InterfaceType → Bool → Type 0
TellsPayload t p q b = (o e : Option Shape) → HasPayload t p o → HasPayload t q e → (IsTrue b ↔ AgreePayload o e)

-- Two payloads of a source, each with one of a destination.
abbrev pub TellsBoth : Tables → Option InterfaceType × Option InterfaceType → Option InterfaceType × Option InterfaceType → Bool → Type 0
TellsBoth t p q b =
    (o e : Option Shape) → HasPayload t p.0 o → HasPayload t p.1 e → (u v : Option Shape) → HasPayload t q.0 u → HasPayload t q.1 v
    → (IsTrue b ↔ (AgreePayload o e × AgreePayload u v))

-- Fields as members.
abbrev pub of_fields : List RecordField → List (List ℕ × Option InterfaceType)
of_fields fs = map (λ f. (f.name, Some f.ty)) fs

-- The fields of a destination, each with the one of its name.
abbrev pub TellsFields : Tables → List RecordField → List RecordField → Bool → Type 0
TellsFields t fs gs b = (ms ns : Members) → HasMembers t (of_fields fs) ms → HasMembers t (of_fields gs) ns → (IsTrue b ↔ AgreesFields ms ns)

-- Two records.
abbrev pub TellsRecords : Tables → List RecordField → List RecordField → Bool → Type 0
TellsRecords t fs gs b = (ms ns : Members) → HasMembers t (of_fields fs) ms → HasMembers t (of_fields gs) ns → (IsTrue b ↔ AgreeFields ms ns (AgreesFields ms ns))

-- The cases of two variants.
abbrev pub TellsCases : Tables → List (List ℕ × Option InterfaceType) → List (List ℕ × Option InterfaceType) → Bool → Type 0
TellsCases t xs ys b = (ms ns : Members) → HasMembers t xs ms → HasMembers t ys ns → (IsTrue b ↔ EachCase ms (λ x p. AgreesCase x p ns))
