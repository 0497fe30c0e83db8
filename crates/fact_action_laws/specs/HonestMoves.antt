-- Honest answers to the calls of a transfer, as the laws of moves take them: by a setting and its live regions. What promises ask of a host is
-- `AreHonestSync` and the like (`Honest.antt` of fact_actions), which comes to this (`Honestly.antt` among the proofs).
use Rattle.std.specs.Prelude.{◌≡◌, ℕ, ◌+◌, ◌*◌, ◌%◌, ◌<◌, ◌≤◌, List, [], ◌∷◌, length, take, drop, map, get_or}
use Rattle.fact_types.specs.declared.outside.Transcode.{Transcode}
use Rattle.fact_machine.specs.declared.types.MachineState.{MachineState}
use Rattle.fact_machine.specs.declared.types.CoreValue.{CoreValue}
use Rattle.fact_machine.specs.declared.types.Answer.{Answer}
use Rattle.fact_machine.specs.declared.types.Answer.TheVariants.{Returns, Traps, Throws}
use Rattle.fact_types.specs.declared.import.Import.{Import}
use Rattle.fact_types.specs.declared.import.Import.TheVariants as import
use Rattle.fact_actions.specs.Running.{Call}
use Rattle.fact_values.specs.Lift.{bits_of}
use Rattle.fact_actions.specs.Sides.{first_bits}
use Rattle.fact_values.specs.Texts.{unit_bytes}
use Rattle.fact_actions.specs.Transcoders.{from_encoding, IsHonestTranscoding, transcode_kind}
use Rattle.fact_actions.specs.Regions.{Region, IsIn, without, byte}
use Rattle.fact_action_laws.specs.Regions.{TransferSetting, IsInHand, request_by, old_region, region_from, regions_by}
use Rattle.fact_actions.specs.Requests.{Request}
use Rattle.fact_actions.specs.Calls.{side_memory, arg_number, results, state_after}
use Rattle.fact_actions.specs.Honest.{room_of}

-- An honest answer q of realloc, beside live regions: the new region is aligned and lies in the memory, apart from the
-- others and from the return area, which keep their bytes; it begins with what stood in the old one; and the memory of the
-- source is as before.
pub record IsHonestRealloc (c : TransferSetting) (gs : List Region) (r : Request) (q : ℕ) (before after : MachineState) : Type 0 where
  pub aligned : q % r.align ≡ 0
  pub inside : q + r.new_size ≤ length (side_memory c.places c.transfer.to after)
  pub apart : (j : ℕ) → IsIn (region_from r q) j → IsInHand c (without (old_region r) gs) j → ⊥
  pub holds : (j : ℕ) → j < r.old_size → j < r.new_size → get_or (side_memory c.places c.transfer.to after) (q + j) 0 ≡ get_or (side_memory c.places c.transfer.to before) (r.old + j) 0
  pub others : (j : ℕ) → IsInHand c (without (old_region r) gs) j → get_or (side_memory c.places c.transfer.to after) j 0 ≡ get_or (side_memory c.places c.transfer.to before) j 0
  pub source : side_memory c.places c.transfer.from after ≡ side_memory c.places c.transfer.from before

-- An honest answer of a transcoder between the memories of the two sides: it does to the units that it reads what its operation
-- says, and changes no byte but those that it writes.
pub record IsTranscoded (c : TransferSetting) (o : Transcode) (x : Call) : Type 0 where
  pub wrote : List ℕ
  pub says : IsHonestTranscoding o
      (room_of (transcode_kind o) x (drop (arg_number x 2) (side_memory c.places c.transfer.to x.before)))
      (take (unit_bytes (from_encoding o) * arg_number x 1) (drop (arg_number x 0) (side_memory c.places c.transfer.from x.before)))
      wrote (map bits_of (results x))
  pub inside : arg_number x 2 + length wrote ≤ length (side_memory c.places c.transfer.to (state_after x))
  pub stands : (j : ℕ) → j < length wrote → byte (side_memory c.places c.transfer.to (state_after x)) (arg_number x 2 + j) ≡ byte wrote j
  pub others : (j : ℕ) → (IsIn (record { at = arg_number x 2; size = length wrote; align = 1 }) j → ⊥) → byte (side_memory c.places c.transfer.to (state_after x)) j ≡ byte (side_memory c.places c.transfer.to x.before) j
  pub source : side_memory c.places c.transfer.from (state_after x) ≡ side_memory c.places c.transfer.from x.before

-- Every other function of the outside changes no memory.
abbrev pub IsHonestResult : TransferSetting → List Region → Import → (args results : List CoreValue) → (before after : MachineState) → Type 0
IsHonestResult c gs (import.CoreDef f) args rs before after = IsHonestRealloc c gs (request_by args) (first_bits rs) before after
IsHonestResult c gs (import.Transcode o from from64 to to64) args rs before after =
    IsTranscoded c o (record { what = import.Transcode o from from64 to to64; args = args; before = before; answer = Returns rs after })
IsHonestResult c gs _ args rs before after = after.memories ≡ before.memories

-- an honest answer that is no trap and no throw
abbrev pub IsHonestAnswer : TransferSetting → List Region → Import → List CoreValue → MachineState → Answer → Type 0
IsHonestAnswer c gs i args before (Returns rs after) = IsHonestResult c gs i args rs before after
IsHonestAnswer c gs i args before Traps = ⊥
IsHonestAnswer c gs i args before Throws = ⊥

-- calls from live regions on, all with honest answers
abbrev pub AreHonestCalls : TransferSetting → List Region → List Call → Type 0
AreHonestCalls c gs [] = Unit {0}
AreHonestCalls c gs (x ∷ cs) = IsHonestAnswer c gs x.what x.args x.before x.answer × AreHonestCalls c (regions_by x.what x.args x.answer gs) cs
