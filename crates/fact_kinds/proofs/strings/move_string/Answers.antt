use Rattle.fact_emit.proofs.SidesImported.{sides_same}
use Rattle.fact_kinds.proofs.StringMoves.{string_emits, string_taken}
use Rattle.fact_kinds.proofs.strings.move_string.Goals as goal

pub move_string_by-requires : goal.move_string_by-requires
move_string_by-requires c = record { sides = sides_same c.in_ok-locals.ensures.imports c.requires.sides }

pub free_string_locals-requires : goal.free_string_locals-requires
free_string_locals-requires c =
    let h = string_taken c.in_ok-locals.ensures c.in_ok-move_string_by.ensures.grew in
    record { taken = h.0; distinct = h.1 }

pub returns : goal.returns
returns c = string_emits c.in_ok-locals.ensures c.in_ok-move_string_by.ensures c.in_ok-free_string_locals.ensures
