use Rattle.std.proofs.Common.{sym, ◌∙◌}
use Rattle.fact_compound.proofs.WaitingHelpers.{get_in, room_behind, turn_by}
use Rattle.fact_compound.proofs.helpers.write_next.Goals as goal

pub write_helper-requires : goal.write_helper-requires
write_helper-requires c = c.requires.writable.all _ (get_in _ _ _ (sym c.helper_at.ensures ∙ c.in-Some.is))

pub add_waiting-requires : goal.add_waiting-requires
add_waiting-requires c = room_behind _ _ _ c.in_ok-function.ensures c.requires.count c.set.ensures.is

pub returns : goal.returns
returns c =
    turn_by (sym c.helper_at.ensures ∙ c.in-Some.is) c.in_ok-function.ensures c.requires.first c.requires.place c.requires.count c.set.ensures.is
    c.in_ok-add_waiting.ensures.count c.in_ok-add_waiting.ensures.small c.in_ok-add_waiting.ensures.same c.in_ok-add_waiting.ensures.waits
