-- Which calls of transcoders can be answered: there is an answer that returns and is honest, or what they are to read is no text, and so a trap is
-- honest.
use Rattle.std.specs.Prelude.{◌≡◌, ◌*◌, ◌⊎◌, ℕ, Bool, true, ◌&&◌, List, [], ◌∷◌, take, drop, get_or}
use Rattle.fact_types.specs.declared.import.Import.{Import}
use Rattle.fact_types.specs.declared.import.Import.TheVariants as import
use Rattle.fact_types.specs.declared.outside.CoreDef.{CoreDef}
use Rattle.fact_types.specs.declared.outside.FixedEncoding.{FixedEncoding}
use Rattle.fact_types.specs.declared.outside.Transcode.{Transcode}
use Rattle.fact_machine.specs.declared.types.Answer.TheVariants.{Returns}
use Rattle.fact_machine.specs.declared.types.CoreValue.{CoreValue}
use Rattle.fact_machine.specs.declared.types.MachineState.{MachineState}
use Rattle.fact_machine.specs.Typed.{are_values, is_grown}
use Rattle.fact_values.specs.Texts.{AreSpelled, spelled_text, unit_bytes}
use Rattle.fact_actions.specs.Calls.{arg_number}
use Rattle.fact_actions.specs.Honest.{IsHonestTranscode}
use Rattle.fact_actions.specs.Running.{ImportPlaces, Call, is_state}
use Rattle.fact_actions.specs.Transcoders.{from_encoding, transcode_kind, transcode_types}

-- the bytes of the units that a transcoder is to read
abbrev pub bytes_to_read : ImportPlaces → Transcode → (from : CoreDef) → Call → List ℕ
bytes_to_read p o from c = take (unit_bytes (from_encoding o) * arg_number c 1) (drop (arg_number c 0) (get_or c.before.memories (p.memory from) []))

-- bytes that spell no text
abbrev pub IsMalformed : FixedEncoding → (bytes : List ℕ) → Type 0
IsMalformed e bytes = (text : List ℕ) → AreSpelled e text → bytes ≡ spelled_text e text → ⊥

-- An honest answer to a call of a transcoder between memories of these widths: values of its types, and a state that is typed where the one before is.
pub record HasHonestAnswer (p : ImportPlaces) (o : Transcode) (from : CoreDef) (from64 : Bool) (to : CoreDef) (to64 : Bool) (c : Call) : Type 0 where
  pub values : List CoreValue
  pub after : MachineState
  pub typed : are_values values (transcode_types (transcode_kind o) from64 to64) ≡ true
  pub state_typed : is_state p c.before ≡ true → (is_state p after && is_grown c.before.memories after.memories) ≡ true
  pub honest : IsHonestTranscode p o from to (record c { answer = Returns values after })

-- A call of a transcoder has one, or it is to read malformed text. Of any other call nothing is asked.
abbrev pub CanBeAnsweredBy : Import → ImportPlaces → Call → Type 0
CanBeAnsweredBy (import.Transcode o from from64 to to64) p c = HasHonestAnswer p o from from64 to to64 c ⊎ IsMalformed (from_encoding o) (bytes_to_read p o from c)
CanBeAnsweredBy _ p c = Unit {0}

abbrev pub CanBeAnswered : ImportPlaces → List Call → Type 0
CanBeAnswered p [] = Unit {0}
CanBeAnswered p (c ∷ cs) = CanBeAnsweredBy c.what p c × CanBeAnswered p cs
