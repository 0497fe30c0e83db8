use Rattle.std.proofs.Common.{◌≡◌, drop}
use Rattle.fact_values.specs.Handles.{flag_named}
use Rattle.fact_abi.proofs.carrying.flag_of_name.Given as goal

abbrev pub invariant-loop-flag : goal.invariant-loop-flag
invariant-loop-flag l = flag_named l.name l.flags ≡ flag_named l.name (drop l.flag-index l.flags)
