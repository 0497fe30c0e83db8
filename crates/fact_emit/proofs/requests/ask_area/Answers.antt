use Rattle.std.proofs.Common.{◌∙◌}
use Rattle.fact_emit.proofs.NewAreaMoves.{bytes_taken, first_taken, length_taken, new_area_around, pointer_taken, second_taken}
use Rattle.fact_emit.proofs.RequestRanged.{realloc_same}
use Rattle.fact_emit.proofs.requests.ask_area.Goals as goal

pub ask_area_by-requires : goal.ask_area_by-requires
ask_area_by-requires c = record {
  aligned = c.requires.aligned;
  realloc = realloc_same (c.in_ok-second.ensures.imports ∙ c.in_ok-first.ensures.imports ∙ c.in_ok-length.ensures.imports ∙ c.in_ok-bytes.ensures.imports ∙ c.in_ok-pointer.ensures.imports) c.requires.realloc;
}

pub free_local-requires : goal.free_local-requires
free_local-requires c = second_taken c.in_ok-pointer.ensures c.in_ok-bytes.ensures c.in_ok-length.ensures c.in_ok-first.ensures c.in_ok-second.ensures c.in_ok-ask_area_by.ensures

pub free_local-requires-2 : goal.free_local-requires-2
free_local-requires-2 c = first_taken c.in_ok-pointer.ensures c.in_ok-bytes.ensures c.in_ok-length.ensures c.in_ok-first.ensures c.in_ok-second.ensures c.in_ok-ask_area_by.ensures c.in_ok-free_local.ensures

pub free_local-requires-3 : goal.free_local-requires-3
free_local-requires-3 c = length_taken c.in_ok-pointer.ensures c.in_ok-bytes.ensures c.in_ok-length.ensures c.in_ok-first.ensures c.in_ok-second.ensures c.in_ok-ask_area_by.ensures c.in_ok-free_local.ensures c.in_ok-free_local-2.ensures

pub free_local-requires-4 : goal.free_local-requires-4
free_local-requires-4 c = bytes_taken c.in_ok-pointer.ensures c.in_ok-bytes.ensures c.in_ok-length.ensures c.in_ok-first.ensures c.in_ok-second.ensures c.in_ok-ask_area_by.ensures c.in_ok-free_local.ensures c.in_ok-free_local-2.ensures c.in_ok-free_local-3.ensures

pub free_local-requires-5 : goal.free_local-requires-5
free_local-requires-5 c = pointer_taken c.in_ok-pointer.ensures c.in_ok-bytes.ensures c.in_ok-length.ensures c.in_ok-first.ensures c.in_ok-second.ensures c.in_ok-ask_area_by.ensures c.in_ok-free_local.ensures c.in_ok-free_local-2.ensures c.in_ok-free_local-3.ensures c.in_ok-free_local-4.ensures

pub returns : goal.returns
returns c =
    new_area_around _ _ c.in_ok-pointer.ensures c.in_ok-bytes.ensures c.in_ok-length.ensures c.in_ok-first.ensures c.in_ok-second.ensures c.in_ok-ask_area_by.ensures
    c.in_ok-free_local.ensures c.in_ok-free_local-2.ensures c.in_ok-free_local-3.ensures c.in_ok-free_local-4.ensures c.in_ok-free_local-5.ensures
