use Rattle.std.proofs.Common.{◌≡◌, ℕ, true, ◌∙◌}
use Rattle.fact_wasm.specs.declared.types.ValType.TheVariants as val
use Rattle.fact_emit.specs.declared.writer.Writer.{Writer}
use Rattle.fact_emit.specs.Emits.{Emits}
use Rattle.fact_emit.specs.Pieces.{Piece}
use Rattle.fact_emit.specs.Writers.{taken_in, Took, Freed}
use Rattle.fact_emit.proofs.AreaMoves.{area_around, bytes_length, pointer_bytes, pointer_length}
use Rattle.fact_emit.proofs.pointers.check_area.Goals as goal

-- the three locals are in use behind the code, each until it is freed
module _ {a b c d e : Writer} {P : Piece} {x y z : ℕ} (tx : Took a b val.I64 x) (ty : Took b c val.I64 y) (tz : Took c d val.I64 z) (k : Emits d e P) where
  length_kept : taken_in e z ≡ true
  length_kept = k.grew.still z ∙ tz.taken

  bytes_kept : {f : Writer} → Freed e f z → taken_in f y ≡ true
  bytes_kept fz = fz.others y (bytes_length tx ty tz) ∙ k.grew.still y ∙ tz.others y (bytes_length tx ty tz) ∙ ty.taken

  pointer_kept : {f g : Writer} → Freed e f z → Freed f g y → taken_in g x ≡ true
  pointer_kept fz fy =
      fy.others x (pointer_bytes tx ty tz) ∙ fz.others x (pointer_length tx ty tz) ∙ k.grew.still x ∙ tz.others x (pointer_length tx ty tz) ∙ ty.others x (pointer_bytes tx ty tz) ∙ tx.taken

pub free_local-requires : goal.free_local-requires
free_local-requires c = length_kept c.in_ok-pointer.ensures c.in_ok-bytes.ensures c.in_ok-length.ensures c.in_ok-check_area_by.ensures

pub free_local-requires-2 : goal.free_local-requires-2
free_local-requires-2 c = bytes_kept c.in_ok-pointer.ensures c.in_ok-bytes.ensures c.in_ok-length.ensures c.in_ok-check_area_by.ensures c.in_ok-free_local.ensures

pub free_local-requires-3 : goal.free_local-requires-3
free_local-requires-3 c = pointer_kept c.in_ok-pointer.ensures c.in_ok-bytes.ensures c.in_ok-length.ensures c.in_ok-check_area_by.ensures c.in_ok-free_local.ensures c.in_ok-free_local-2.ensures

pub returns : goal.returns
returns c = area_around _ c.in_ok-pointer.ensures c.in_ok-bytes.ensures c.in_ok-length.ensures c.in_ok-check_area_by.ensures c.in_ok-free_local.ensures c.in_ok-free_local-2.ensures c.in_ok-free_local-3.ensures
