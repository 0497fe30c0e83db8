use Rattle.fact_emit.proofs.RangedCode.{unreachable_ranged}
use Rattle.fact_kinds.proofs.FlagMoves.{flags_alone}
use Rattle.fact_kinds.proofs.NodeMoves.{between_from, between_kinds, scalar_moved}
use Rattle.fact_kinds.proofs.StringMoves.{string_alone, string_moved}
use Rattle.fact_kinds.proofs.leaves.move_leaf.Goals as goal

pub returns-in_ok-move_flags-in-Flags-to : goal.returns-in_ok-move_flags-in-Flags-to
returns-in_ok-move_flags-in-Flags-to c = between_kinds c.in-Flags.is c.in-Flags-to.is c.in_ok-move_flags-in-Flags-to.ensures

pub returns-in_ok-put-in_default-to : goal.returns-in_ok-put-in_default-to
returns-in_ok-put-in_default-to c = flags_alone unreachable_ranged c.in-Flags.i c.args.to c.in-Flags.is c.in_default-to.not-Flags c.in_ok-put-in_default-to.ensures

pub returns-in_ok-move_enum-in-Enum : goal.returns-in_ok-move_enum-in-Enum
returns-in_ok-move_enum-in-Enum c = between_from c.in-Enum.is c.in_ok-move_enum-in-Enum.ensures

pub returns-in_ok-move_string-in-String-to : goal.returns-in_ok-move_string-in-String-to
returns-in_ok-move_string-in-String-to c = string_moved c.in-String.is c.in-String-to.is c.in_ok-move_string-in-String-to.ensures

pub returns-in_ok-put-in_default-to-2 : goal.returns-in_ok-put-in_default-to-2
returns-in_ok-put-in_default-to-2 c = string_alone unreachable_ranged c.args.to c.in-String.is c.in_default-to-2.not-String c.in_ok-put-in_default-to-2.ensures

pub returns-in_ok-move_scalar-in_default : goal.returns-in_ok-move_scalar-in_default
returns-in_ok-move_scalar-in_default c =
    scalar_moved c.requires.leaf c.in_default.not-Flags c.in_default.not-Enum c.in_default.not-String c.requires.no_handle c.in_ok-move_scalar-in_default.ensures
