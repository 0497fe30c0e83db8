-- The places at which a module imports what actions name, found by what the imports are.
use Rattle.std.specs.Prelude.{ℕ, Bool, true, false, ◌&&◌, not, List, Option, None, Some, if◌then◌else◌}
use Rattle.std.specs.List.{filter_map, position_or_len}
use Rattle.fact_machine.specs.Typed.{type_of_global, type_of_memory}
use Rattle.fact_types.specs.declared.outside.CoreDef.{CoreDef}
use Rattle.fact_types.specs.declared.outside.CoreDef.TheVariants as def
use Rattle.fact_types.specs.declared.import.Import.{Import}
use Rattle.fact_types.specs.declared.import.Import.TheVariants as known
use Rattle.fact_types.specs.contracts.outside.CoreDefPartialEq.TheImpl as def_eq
use Rattle.fact_types.specs.contracts.outside.TranscodePartialEq.TheImpl as transcode_eq
use Rattle.fact_types.specs.contracts.outside.TrapPartialEq.TheImpl as trap_eq
use Rattle.fact_types.specs.contracts.outside.UnsafeIntrinsicPartialEq.TheImpl as intrinsic_eq
use Rattle.fact_actions.specs.Running.{ImportPlaces}
use Rattle.fact_emit.specs.States.{ModuleSoFar, functions_of, globals_of, memories_of}

abbrev pub same_bool : Bool → Bool → Bool
same_bool true b = b
same_bool false b = not b

abbrev pub same_option : Option CoreDef → Option CoreDef → Bool
same_option None None = true
same_option (Some d) (Some e) = def_eq.ghosts.eq d e
same_option _ _ = false

abbrev pub same_import : Import → Import → Bool
same_import (known.CoreDef d) (known.CoreDef e) = def_eq.ghosts.eq d e
same_import (known.Transcode op d wide e wide') (known.Transcode op' d' wide'' e' wide''') =
    transcode_eq.ghosts.eq op op' && (def_eq.ghosts.eq d d' && (same_bool wide wide'' && (def_eq.ghosts.eq e e' && same_bool wide' wide''')))
same_import known.ResourceTransferOwn known.ResourceTransferOwn = true
same_import known.ResourceTransferBorrow known.ResourceTransferBorrow = true
same_import (known.PrepareCall m) (known.PrepareCall n) = same_option m n
same_import (known.StartCall c p) (known.StartCall d q) = same_option c d && same_option p q
same_import known.FutureTransfer known.FutureTransfer = true
same_import known.StreamTransfer known.StreamTransfer = true
same_import known.ErrorContextTransfer known.ErrorContextTransfer = true
same_import (known.Trap t) (known.Trap u) = trap_eq.ghosts.eq t u
same_import known.EnterSyncCall known.EnterSyncCall = true
same_import known.ExitSyncCall known.ExitSyncCall = true
same_import (known.UnsafeIntrinsic f) (known.UnsafeIntrinsic g) = intrinsic_eq.ghosts.eq f g
same_import _ _ = false

-- the first place of an import, or the number of imports where it is not there
abbrev pub place_among : Import → List Import → ℕ
place_among i is = position_or_len (same_import i) is

-- The same places, but that an import is at this one: of those that are not made once there may be more than one in a module.
abbrev pub with_place : Import → ℕ → ImportPlaces → ImportPlaces
with_place i n p = record p { function = λ j. if same_import i j then n else p.function j }

abbrev pub import_places : ModuleSoFar → ImportPlaces
import_places s = record {
  memory = λ d. place_among (known.CoreDef d) (memories_of s);
  flags = λ n. place_among (known.CoreDef (def.InstanceFlags (record { table = _; number = n }))) (globals_of s);
  function = λ i. place_among i (functions_of s);
  memory_types = filter_map type_of_memory s.section;
  global_types = filter_map type_of_global s.section;
}
