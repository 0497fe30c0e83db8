-- Parts of places are within the room behind the addresses that they are found by.
use Rattle.std.proofs.Common.{ℕ, ◌+◌, ◌≤◌, arith}
use Rattle.fact_code_laws.specs.Places.{From, InLocals, InMemory, To, ToLocals, ToMemory, Rooms, to_past}
use Rattle.fact_code_laws.proofs.FieldMoves.{from_part, to_spot}
use Rattle.fact_emit.specs.Fitting.{FromWithin, ToWithin, AreWithin}

module _ (room n m : ℕ) where
  pub from_within_less : (src : From) → m ≤ n → FromWithin room src n → FromWithin room src m
  from_within_less (InLocals slots) le h = tt
  from_within_less (InMemory memory base offset) le h = omega (arith, le, h)

  pub to_within_less : (dst : To) → m ≤ n → ToWithin room dst n → ToWithin room dst m
  to_within_less (ToLocals slots) le h = tt
  to_within_less (ToMemory memory base offset) le h = omega (arith, le, h)

  pub part_within : (count place bytes : ℕ) (src : From) → bytes + m ≤ n → FromWithin room src n → FromWithin room (from_part count place bytes src) m
  part_within count place bytes (InLocals slots) le h = tt
  part_within count place bytes (InMemory memory base offset) le h = omega (arith, le, h)

  pub spot_within : (count bytes : ℕ) (dst : To) → bytes + m ≤ n → ToWithin room dst n → ToWithin room (to_spot count bytes dst) m
  spot_within count bytes (ToLocals slots) le h = tt
  spot_within count bytes (ToMemory memory base offset) le h = omega (arith, le, h)

pub past_within : (room n count : ℕ) (dst : To) → ToWithin room dst n → ToWithin room (to_past count dst) n
past_within room n count (ToLocals slots) h = tt
past_within room n count (ToMemory memory base offset) h = h

pub within_less : {rooms : Rooms} {n m n' m' : ℕ} (src : From) (dst : To) → m ≤ n → m' ≤ n' → AreWithin rooms src dst n n' → AreWithin rooms src dst m m'
within_less {rooms} {n} {m} {n'} {m'} src dst le le' h = record { source = from_within_less rooms.from n m src le h.source; target = to_within_less rooms.to n' m' dst le' h.target }
