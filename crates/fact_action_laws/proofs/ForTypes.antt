-- The laws of texts, as the induction over types takes them.
use Rattle.std.proofs.Common.{◌≡◌, Option, Some, None, refl}
use Rattle.fact_types.specs.declared.outside.CoreDef.{CoreDef}
use Rattle.fact_types.specs.declared.outside.MemoryOption.{MemoryOption}
use Rattle.fact_action_laws.specs.MoveTerms.{HasPointers}
use Rattle.fact_action_laws.specs.Places.{IsGrounded, HasKnownMemory}
use Rattle.fact_action_laws.specs.Regions.{TransferSetting}
use Rattle.fact_action_laws.proofs.Equipped.{IsEquipped}
use Rattle.fact_action_laws.proofs.Fine.{known_at}
use Rattle.fact_action_laws.proofs.TextLaw.{SideIsThere, text_law}
use Rattle.fact_action_laws.proofs.Unread.{text_refuses}
use Rattle.fact_action_laws.specs.MoveLaws.{Texts}

-- something that is there
record Found {A : Type 0} (o : Option A) : Type 0 where
  it : A
  is : o ≡ Some it

abbrev HasOne : Option CoreDef → Type 0
HasOne o = elim o [ None ↦ ⊥ | Some f ↦ Unit {0} ]

found_memory : (o : Option MemoryOption) → SideIsThere o → Found o
found_memory None h = absurd h
found_memory (Some m) h = record { it = m; is = refl }

found_realloc : (o : Option CoreDef) → HasOne o → Found o
found_realloc None h = absurd h
found_realloc (Some f) h = record { it = f; is = refl }

pub equipped : (c : TransferSetting) → HasPointers c.transfer.from c.transfer.to → HasKnownMemory c.places c.transfer.from.memory → HasKnownMemory c.places c.transfer.to.memory → IsEquipped c
equipped c has from_known to_known =
    let f = found_memory c.transfer.from.memory has.from in
    let t = found_memory c.transfer.to.memory has.to in
    let r = found_realloc c.transfer.to.realloc has.realloc in
    let kf = known_at c.places c.transfer.from.memory f.it f.is from_known in
    let kt = known_at c.places c.transfer.to.memory t.it t.is to_known in
    record { from = f.it; to = t.it; realloc = r.it; from_page = kf.page; to_page = kt.page; from_is = f.is; to_is = t.is; realloc_is = r.is; from_known = kf.is; to_known = kt.is }

pub texts : (c : TransferSetting) → IsGrounded c → HasKnownMemory c.places c.transfer.from.memory → HasKnownMemory c.places c.transfer.to.memory → Texts c
texts c g from_known to_known = record {
  carries = λ has. text_law c g (equipped c has from_known to_known);
  refuses = λ has. text_refuses c g (equipped c has from_known to_known);
}
