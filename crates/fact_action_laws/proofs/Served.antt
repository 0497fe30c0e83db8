-- What is known of each transcoder that is called while a transfer is under way: it stays in its ranges, and there is room for what is there
-- and for the rest.
use Rattle.std.proofs.Common.{◌+◌, ◌≤◌, ◌<◌, ◌^◌, List, [], ◌∷◌}
use Rattle.fact_types.specs.declared.import.Import.{Import}
use Rattle.fact_types.specs.declared.import.Import.TheVariants as import
use Rattle.fact_types.specs.declared.outside.Transcode.{Transcode}
use Rattle.fact_machine.specs.declared.types.CoreValue.{CoreValue}
use Rattle.fact_actions.specs.Calls.{nth_number}
use Rattle.fact_actions.specs.Confined.{IsRanged, IsRangedBy, AreRangedCalls, room_bytes}
use Rattle.fact_actions.specs.Order.{IsMemoryOf}
use Rattle.fact_actions.specs.Regions.{Position}
use Rattle.fact_actions.specs.Running.{ImportPlaces, Call}
use Rattle.fact_actions.specs.Transcoders.{TranscodeKind, AllUnits, Counted, Fitting, Narrow, Tagged, Widening, transcode_kind}

-- The bytes that are to be made units, and a unit for each one of the rest, are no more than there is room for.
abbrev pub Fits : TranscodeKind → List CoreValue → Type 0
Fits Widening args = nth_number args 4 + nth_number args 1 ≤ nth_number args 3
Fits AllUnits args = Unit {0}
Fits Counted args = Unit {0}
Fits Fitting args = Unit {0}
Fits Narrow args = Unit {0}
Fits Tagged args = Unit {0}

pub record IsServed (p : ImportPlaces) (x : Position) (o : Transcode) (c : Call) : Type 0 where
  pub ranged : IsRanged p x o c
  pub small : room_bytes o c < 2 ^ 32
  pub fits : Fits (transcode_kind o) c.args

-- So is a call of a transcoder between the memories of the transfer's two sides.
abbrev pub IsServedBy : Import → ImportPlaces → Position → Call → Type 0
IsServedBy (import.Transcode o from from64 to to64) p x c = IsMemoryOf x.landing.from from from64 × IsMemoryOf x.landing.to to to64 × IsServed p x o c
IsServedBy _ p x c = Unit {0}

abbrev pub AreServedCalls : ImportPlaces → (next : Call → Position → Position) → Position → List Call → Type 0
AreServedCalls p next x [] = Unit {0}
AreServedCalls p next x (c ∷ cs) = IsServedBy c.what p x c × AreServedCalls p next (next c x) cs

ranged_by : (i : Import) (p : ImportPlaces) (x : Position) (c : Call) → IsServedBy i p x c → IsRangedBy i p x c
ranged_by (import.Transcode o from from64 to to64) p x c h = (h.0, h.1, h.2.ranged)
ranged_by _ p x c h = tt

pub ranged_calls : (p : ImportPlaces) (next : Call → Position → Position) (x : Position) (cs : List Call) → AreServedCalls p next x cs → AreRangedCalls p next x cs
ranged_calls p next x [] h = tt
ranged_calls p next x (c ∷ cs) h = (ranged_by c.what p x c h.0, ranged_calls p next (next c x) cs h.1)
