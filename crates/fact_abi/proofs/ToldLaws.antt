-- What is told of a type with members holds of each shape that the type stands for.
use Rattle.std.proofs.Common.{◌≡◌, ℕ, zero, suc, List, [], ◌∷◌, map, Option, Some, None, refl, sym, ◌∙◌, ap, subst}
use Rattle.std.specs.Prelude.{slice_get}
use Rattle.fact_types.specs.declared.interface.InterfaceType.{InterfaceType}
use Rattle.fact_types.specs.declared.kinds.RecordField.{RecordField}
use Rattle.fact_types.specs.Shapes.{Shape, s_plain, s_node, Members, no_members, bare, typed}
use Rattle.fact_types.specs.Tables as tables
use Rattle.fact_types.specs.Tables.{Tables, node_of, IsLive, HasShape, HasMembers, IsSound, placed}
use Rattle.fact_types.proofs.HeightLaws.{member_within}
use Rattle.fact_types.proofs.ShapeLaws.{same_some, none_some, no_node, more}
use Rattle.fact_abi.specs.declared.nodes.Node.{Node}
use Rattle.fact_values.specs.Places.{typed_names}
use Rattle.fact_abi.specs.Nodes.{kind_of, AreOf, AreTold, IsOfKind, HasNode}

abbrev Pairs : Type 0
Pairs = List (List ℕ × Option InterfaceType)

pub types_told : (t : Tables) (xs : Pairs) (ms : Members) → HasMembers t xs ms → AreOf t (map (λ m. m.1) xs) ms
types_told t [] no_members h = tt
types_told t (x ∷ xs) no_members h = absurd h
types_told t [] (bare n ms) h = absurd h
types_told t (x ∷ xs) (bare n ms) h = (h.1, types_told t xs ms h.2)
types_told t [] (typed n s ms) h = absurd h
types_told t (x ∷ xs) (typed n s ms) h = (h.1, types_told t xs ms h.2)

-- the fields of a record all have a type
pub fields_told : (t : Tables) (fs : List RecordField) (ms : Members) → HasMembers t (map (λ f. (f.name, Some f.ty)) fs) ms → map (λ (f : RecordField). f.name) fs ≡ typed_names ms
fields_told t [] no_members h = refl
fields_told t (f ∷ fs) no_members h = absurd h
fields_told t [] (bare n ms) h = absurd h
fields_told t (f ∷ fs) (bare n ms) h = absurd (none_some (Some f.ty) f.ty h.1 refl)
fields_told t [] (typed n s ms) h = absurd h
fields_told t (f ∷ fs) (typed n s ms) h = more f.name n (map (λ (f : RecordField). f.name) fs) (typed_names ms) h.0 (fields_told t fs ms h.2)

-- a type that is told is that of a member
pub member_told : (xs : Pairs) (i : ℕ) (m : InterfaceType) → slice_get (map (λ x. x.1) xs) i ≡ Some (Some m) → (n : List ℕ) × (slice_get xs i ≡ Some (n, Some m))
member_told [] i m e = absurd (none_some None (Some m) refl e)
member_told (x ∷ xs) zero m e = (x.0, ap (λ (o : Option InterfaceType). Some (x.0, o)) (same_some (Some x.1) x.1 (Some m) refl e))
member_told (x ∷ xs) (suc i) m e = member_told xs i m e

pub no_types : (n : tables.Node) (i : ℕ) (m : InterfaceType) → slice_get [] i ≡ Some (Some m) → (x : List ℕ) × (slice_get n.members i ≡ Some (x, Some m))
no_types n i m e = absurd (none_some None (Some m) refl e)

-- the entry of a type
pub told : (t : Tables) → IsSound t → (ty : InterfaceType) (n : tables.Node) (x : Node) → IsLive t ty → node_of t ty ≡ Some n → kind_of x.kind ≡ n.kind
    → ((ms : Members) → HasMembers t n.members ms → AreTold x.kind t x.names x.types ms)
    → ((i : ℕ) (m : InterfaceType) → slice_get x.types i ≡ Some (Some m) → (y : List ℕ) × (slice_get n.members i ≡ Some (y, Some m)))
    → HasNode t ty x
told t k ty n x live is kind each found = record { shaped = shaped; within = record { each = λ i m e. let (y, at) = found i m e in member_within t k ty n live is i y m at } }
  where
    shaped : (s : Shape) → HasShape t ty s → IsOfKind t x.kind x.names x.types s
    shaped (s_plain p) h = absurd (none_some (node_of t ty) n (ap (node_of t) h.0 ∙ no_node t p h.1) is)
    shaped (s_node j ms) h =
        let same : h.0 ≡ n = same_some (node_of t ty) h.0 n h.1 is in
        record {
          members = ms;
          is = ap (λ j. s_node j ms) (sym h.2 ∙ ap (λ (n : tables.Node). n.kind) same ∙ sym kind);
          told = each ms (subst (λ (n : tables.Node). HasMembers t n.members ms) same h.3);
        }

-- a live type without an entry is plain
pub plain_told : (t : Tables) (ty : InterfaceType) → node_of t ty ≡ None → (s : Shape) → HasShape t ty s → s ≡ s_plain ty
plain_told t ty is (s_plain p) h = ap s_plain (sym h.0)
plain_told t ty is (s_node k ms) h = absurd (none_some (node_of t ty) h.0 is h.1)

-- ---- members as they stand in entries
pub field_types_are : (fs : List RecordField) → map (λ (f : RecordField). Some f.ty) fs ≡ map (λ (m : List ℕ × Option InterfaceType). m.1) (map (λ (f : RecordField). (f.name, Some f.ty)) fs)
field_types_are [] = refl
field_types_are (f ∷ fs) = more _ _ _ _ refl (field_types_are fs)

pub field_names_are : (fs : List RecordField) → map (λ (f : RecordField). f.name) fs ≡ map (λ (m : List ℕ × Option InterfaceType). m.0) (map (λ (f : RecordField). (f.name, Some f.ty)) fs)
field_names_are [] = refl
field_names_are (f ∷ fs) = more _ _ _ _ refl (field_names_are fs)

pub placed_types_are : (n : ℕ) (ys : List InterfaceType) → map (λ (y : InterfaceType). Some y) ys ≡ map (λ (m : List ℕ × Option InterfaceType). m.1) (placed n ys)
placed_types_are n [] = refl
placed_types_are n (y ∷ ys) = more _ _ _ _ refl (placed_types_are (suc n) ys)

pub bare_types_are : (ns : List (List ℕ)) → map (λ (n : List ℕ). None) ns ≡ map (λ (m : List ℕ × Option InterfaceType). m.1) (map (λ (n : List ℕ). (n, None)) ns)
bare_types_are [] = refl
bare_types_are (n ∷ ns) = more _ _ _ _ refl (bare_types_are ns)

pub bare_names_are : (ns : List (List ℕ)) → ns ≡ map (λ (m : List ℕ × Option InterfaceType). m.0) (map (λ (n : List ℕ). (n, None)) ns)
bare_names_are [] = refl
bare_names_are (n ∷ ns) = more _ _ _ _ refl (bare_names_are ns)
