-- The sections of a module, one after another.
use Rattle.std.proofs.Common.{◌≡◌, ℕ, ◌<◌, ◌^◌, List, [], ◌∷◌, ◌++◌, length, refl, ◌∙◌, subst, append_assoc}
use Rattle.std.specs.List.{AllByRecursion}
use Rattle.fact_wasm.specs.declared.instr.Instr.{Instr}
use Rattle.fact_wasm.specs.declared.module.WasmFunc.{WasmFunc}
use Rattle.fact_wasm.specs.declared.module.WasmModule.{WasmModule}
use Rattle.fact_binary.specs.Encode.{IsAligned, ArePlaced}
use Rattle.fact_wasm.specs.Ranges.{Point, Named, Placed, Otherwise, points, IsPoint, AreRanged, AreBodiesRanged, imported_functions}
use Rattle.fact_binary.specs.Numbers.{unsigned}
use Rattle.fact_binary.specs.Grammar.{list, IsList}
use Rattle.fact_binary.specs.Spelling.{header, section, func_type, import_item, export_item, Spells, IsFuncType, code_item, IsCode, IsImport, HasTypeIndex, IsExport}

-- a body whose alignments are below 64 has an immediate of the format in each row
pub placed_points : (i d : ℕ) (ps : List Point) → AllByRecursion (IsPoint i d) ps → AllByRecursion IsAligned ps
placed_points i d [] p = tt
placed_points i d (Named f ∷ ps) p = (tt, placed_points i d ps p.1)
placed_points i d (Placed m ∷ ps) p = (p.0, placed_points i d ps p.1)
placed_points i d (Otherwise n ∷ ps) p = (tt, placed_points i d ps p.1)

pub placed_body : (i d : ℕ) (is : List Instr) → AreRanged i d is → ArePlaced is
placed_body i d [] p = tt
placed_body i d (x ∷ xs) p = (placed_points i d (points x) p.0, placed_body i d xs p.1)

pub placed_bodies : (n i d : ℕ) (fs : List WasmFunc) → AreBodiesRanged i d fs → AllByRecursion (λ f. ArePlaced f.body → IsCode n f) fs → AllByRecursion (IsCode n) fs
placed_bodies n i d [] p q = tt
placed_bodies n i d (f ∷ fs) p q = (q.0 (placed_body i d f.body p.0), placed_bodies n i d fs p.1 q.1)

-- what is known of a section that was written
pub record Written {T : Type 0} (id : ℕ) (f : T → List ℕ) (P : T → Type 0) (xs : List T) (old new : List ℕ) : Type 0 where
  pub size : length (list f xs) < 2 ^ 32
  pub items : IsList P xs
  pub bytes : new ≡ old ++ section id (list f xs)

pub five : (o a b c d e u v w x y : List ℕ) → a ≡ o ++ u → b ≡ a ++ v → c ≡ b ++ w → d ≡ c ++ x → e ≡ d ++ y → e ≡ o ++ (u ++ (v ++ (w ++ (x ++ y))))
five o a b c d e u v w x y p q r s t =
    rw (t, s, r, q, p)
    (append_assoc (((o ++ u) ++ v) ++ w) x y
    ∙ append_assoc ((o ++ u) ++ v) w (x ++ y)
    ∙ append_assoc (o ++ u) v (w ++ (x ++ y))
    ∙ append_assoc o u (v ++ (w ++ (x ++ y))))

pub assembled : (m : WasmModule) (n : ℕ) (o o1 o2 o3 o4 o5 : List ℕ) → n ≡ imported_functions m → o ≡ header
    → Written 0x01 func_type IsFuncType m.types o o1
    → Written 0x02 import_item IsImport m.imports o1 o2
    → Written 0x03 (λ f. unsigned f.ty) HasTypeIndex m.funcs o2 o3
    → Written 0x07 (export_item n) (IsExport n) m.exports o3 o4
    → Written 0x0A (code_item n) (λ f. ArePlaced f.body → IsCode n f) m.funcs o4 o5
    → AreBodiesRanged (imported_functions m) (length m.funcs) m.funcs
    → Spells o5 m
assembled m n o o1 o2 o3 o4 o5 count start types imports functions exports bodies ranged =
    let exports : Written 0x07 (export_item (imported_functions m)) (IsExport (imported_functions m)) m.exports o3 o4 =
    subst (λ (k : ℕ). Written 0x07 (export_item k) (IsExport k) m.exports o3 o4) count exports in
    let bodies : Written 0x0A (code_item (imported_functions m)) (λ f. ArePlaced f.body → IsCode (imported_functions m) f) m.funcs o4 o5 =
    subst (λ (k : ℕ). Written 0x0A (code_item k) (λ f. ArePlaced f.body → IsCode k f) m.funcs o4 o5) count bodies in
    record {
      fits = record {
        type_bytes = types.size;
        import_bytes = imports.size;
        function_bytes = functions.size;
        export_bytes = exports.size;
        code_bytes = bodies.size;
        types = types.items;
        imports = imports.items;
        functions = functions.items;
        exports = exports.items;
        bodies = (bodies.items.0, placed_bodies (imported_functions m) (imported_functions m) (length m.funcs) m.funcs ranged bodies.items.1);
      };
      bytes_are = five o o1 o2 o3 o4 o5 _ _ _ _ _ types.bytes imports.bytes functions.bytes exports.bytes bodies.bytes ∙ rw start refl;
    }
