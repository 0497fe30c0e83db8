-- Core types as they are printed: `(i32 i64) -> (f32)`.
use Rattle.std.specs.Prelude.{ℕ, List, [], ◌∷◌, ◌++◌, codes}
use Rattle.std.specs.List.{flat_map}
use Rattle.fact_wasm.specs.declared.types.ValType.{ValType}
use Rattle.fact_wasm.specs.declared.types.ValType.TheVariants as val
use Rattle.fact_types.specs.declared.signature.Signature.{Signature}

abbrev pub val_text : ValType → List ℕ
val_text val.I32 = codes "i32"
val_text val.I64 = codes "i64"
val_text val.F32 = codes "f32"
val_text val.F64 = codes "f64"
val_text val.FuncRef = codes "funcref"

-- value types with spaces between them
abbrev pub listed : List ValType → List ℕ
listed [] = []
listed (t ∷ ts) = val_text t ++ flat_map (λ u. 32 ∷ val_text u) ts

abbrev pub core_text : (params results : List ValType) → List ℕ
core_text ps rs = codes "(" ++ (listed ps ++ (codes ") -> (" ++ (listed rs ++ codes ")")))

abbrev pub signature_text : Signature → List ℕ
signature_text s = core_text s.params s.results
