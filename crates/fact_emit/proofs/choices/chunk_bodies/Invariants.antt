use Rattle.std.proofs.Common.{◌≡◌, List, [], ◌∷◌, ◌++◌}
use Rattle.fact_wasm.specs.declared.instr.Instr.{Instr}
use Rattle.fact_wasm.specs.declared.instr.Instr.TheVariants as I
use Rattle.fact_emit.specs.Choices.{HasChunks}
use Rattle.fact_emit.proofs.choices.chunk_bodies.Given as goal

abbrev pub invariant-loop-body : goal.invariant-loop-body
invariant-loop-body l = record {
  can_next : (goal.iterator-loop-body).can_next l.body-iterator;
  is_finite : (goal.iterator-loop-body).is_finite l.body-iterator;
  so_far : (done : List (List Instr)) × (l.fn.bodies.items ≡ done ++ l.body-iterator.rest.items) × HasChunks (I.LocalGet l.fn.local ∷ []) done l.codes.items l.chunk.items;
}
