-- What a change of an entry through a reference makes of a table.
use Rattle.std.specs.Prelude.{ℕ, List, Bool, Option, slice_set}
use Rattle.std.specs.Borrow.{LendsIf, MutBor, Fml, RattleType}
use Rattle.fact_entity.specs.contracts.map.PrimaryMap.{the_row}

-- What a table is told of its keys: what is hashed of them, their test, and their numbers.
abbrev pub KeyMembers : Type 0 → Type 0
KeyMembers K = record { hash_input : K → List (List ℕ); eq : K → K → Bool; number : K → ℕ; key : ℕ → K }

-- The table ends with what was left behind r in the place of the entry, and as it was where there is no entry.
abbrev pub LendsEntry : (K V : RattleType) → KeyMembers K.Denot → MutBor (List V.Denot) → ℕ → Option (MutBor V.Denot) → Fml
LendsEntry K V k s i r = LendsIf (the_row K V (record { number = k.number; key = k.key }) (record { eq = k.eq }) (record { hash_input = k.hash_input })) V s r (λ w. slice_set s.now i w) s.now
