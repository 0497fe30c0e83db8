-- The points of an instruction by its outermost layer, at which the definitions compute.
use Rattle.std.proofs.Common.{◌≡◌, List, sym, ap, ◌∙◌}
use Rattle.fact_wasm.specs.declared.instr.Instr.{Instr, Instr-F, roll-Instr, map-Instr, fold-roll-Instr}
use Rattle.fact_wasm.specs.Ranges.{Point, points, points_row}

module _ (i : Instr) (x : Instr-F Instr) (e : roll-Instr x ≡ i) where
  pub points-layer : points i ≡ points_row (map-Instr Instr (List Point) points x)
  points-layer = ap points (sym e) ∙ fold-roll-Instr (List Point) points_row x
