use Rattle.std.proofs.Common.{◌≡◌, ◌∷◌, ◌++◌, string_bytes, take}
use Rattle.std.specs.List.{flat_map}
use Rattle.fact_explain.specs.CoreTypes.{val_text}
use Rattle.fact_explain.proofs.core_types.with_more.Given as goal

abbrev pub invariant-loop-ty : goal.invariant-loop-ty
invariant-loop-ty l = string_bytes l.text ≡ string_bytes l.initial.text ++ flat_map (λ u. 32 ∷ val_text u) (take l.ty-index l.types)
