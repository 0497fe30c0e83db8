-- Cited by private clauses alone.
-- What is left to compare of two types: members that are live and lower than the source type, and that tell whether the
-- types agree.
use Rattle.std.specs.Prelude.{ℕ, ◌+◌, ◌≤◌, max, List, [], ◌∷◌, Option, Some, None, Bool}
use Rattle.fact_types.specs.declared.interface.InterfaceType.{InterfaceType}
use Rattle.fact_types.specs.Heights.{height}
use Rattle.fact_types.specs.Tables.{Tables, placed, IsLiveMember}
use Rattle.fact_agreement.specs.declared.comparison.Comparison.{Comparison}
use Rattle.fact_agreement.specs.declared.comparison.Comparison.TheVariants.{Decided, Records, Variants, Tuples, Payloads}
use Rattle.fact_agreement.specs.Told.{AreLive, of_fields, Tells, TellsAll, TellsBoth, TellsRecords, TellsCases}

-- One more than the height of a type, 0 where there is none.
abbrev pub over : Tables → Option InterfaceType → ℕ
over t None = 0
over t (Some ty) = height t ty + 1

-- The greatest of those of members.
abbrev pub above : Tables → List (List ℕ × Option InterfaceType) → ℕ
above t [] = 0
above t (x ∷ xs) = max (over t x.1) (above t xs)

-- Members xs of the source and ys of the destination, and when an answer for them is right.
pub record IsLeft (t : Tables) (from to : InterfaceType) (xs ys : List (List ℕ × Option InterfaceType)) (IsRight : Bool → Type 0) : Type 0 where
  pub from_live : AreLive t xs
  pub to_live : AreLive t ys
  pub lower : above t xs ≤ height t from
  pub tells : (b : Bool) → IsRight b → Tells t from to b

-- Two payloads of the source, each with one of the destination.
pub record AreLeft (t : Tables) (from to : InterfaceType) (p q : Option InterfaceType × Option InterfaceType) : Type 0 where
  pub first_live : IsLiveMember t p.0 × IsLiveMember t p.1
  pub second_live : IsLiveMember t q.0 × IsLiveMember t q.1
  pub first_lower : over t p.0 ≤ height t from
  pub second_lower : over t q.0 ≤ height t from
  pub tells : (b : Bool) → TellsBoth t p q b → Tells t from to b

abbrev pub LeavesToTell : Tables → InterfaceType → InterfaceType → Comparison → Type 0
LeavesToTell t from to (Decided b) = Tells t from to b
LeavesToTell t from to (Records fs gs) = IsLeft t from to (of_fields fs.now) (of_fields gs.now) (TellsRecords t fs.now gs.now)
LeavesToTell t from to (Variants f g) = IsLeft t from to f.now.entries g.now.entries (TellsCases t f.now.entries g.now.entries)
LeavesToTell t from to (Tuples xs ys) = IsLeft t from to (placed 0 xs.now) (placed 0 ys.now) (TellsAll t xs.now ys.now)
LeavesToTell t from to (Payloads p q) = AreLeft t from to p q
