-- An instruction in range is the one that its tree stands for, so that two of one tree are one.
use Rattle.std.proofs.Common.{◌≡◌, ℕ, ◌+◌, ◌-◌, ◌<◌, List, [], ◌∷◌, map, length, Some, None, refl, ap, ◌∙◌, subst, arith}
use Rattle.std.proofs.lemmas.Bool.{lt-ltb, le-ltb}
use Rattle.std.proofs.lemmas.List.{length-map}
use Rattle.std.specs.List.{flat_map, AllByRecursion}
use Rattle.fact_wasm.specs.declared.instr.Instr.{Instr, roll-Instr, fold-roll-Instr, ind-Instr, map-Instr}
use Rattle.fact_wasm.specs.declared.instr.Instr.TheOpen as o
use Rattle.fact_wasm.specs.declared.instr.Instr.TheOpen.{Instr-F}
use Rattle.fact_wasm.specs.declared.instr.FuncName.{FuncName}
use Rattle.fact_wasm.specs.declared.instr.FuncName.TheVariants as func
use Rattle.fact_binary.specs.Grammar.{InstrNode, node, nodes, body_nodes, instr_node, function_index}
use Rattle.fact_wasm.specs.Ranges.{Point, IsPoint, HasFunction, points, points_row, AreRanged}
use Rattle.fact_binary.specs.Rebuild.{instr_of, instrs_of, name_of, other_of}
use Rattle.fact_wasm.proofs.Ranged.{all-first, all-second}

abbrev pub IsRebuilt : ℕ → ℕ → Instr → Type 0
IsRebuilt n m i = AllByRecursion (IsPoint n m) (points i) → instr_of n (node n i) ≡ i

pub named-back : (n m : ℕ) (f : FuncName) → HasFunction n m f → name_of n (function_index n f) ≡ f
named-back n m (func.Import k) h = rw (lt-ltb k n h) refl
named-back n m (func.Defined k) h = let e : k + n - n ≡ k = omega arith in rw (le-ltb (k + n) n (omega arith), e) refl

other-back : (is js : List Instr) → is ≡ js → 0 < length js → other_of is ≡ Some js
other-back is [] e h = absurd (omega arith)
other-back is (j ∷ js) e h = rw e refl

module _ (n m : ℕ) {Z : Type 0} (f : Z → Instr) (each : (z : Z) → IsRebuilt n m (f z)) where
  bodies_rebuilt : (zs : List Z) → AllByRecursion (IsPoint n m) (flat_map (λ ps. ps) (map points (map f zs))) → instrs_of n (nodes (map (node n) (map f zs))) ≡ map f zs
  unfolding instr_of
  bodies_rebuilt [] p = refl
  bodies_rebuilt (z ∷ zs) p =
      let one = each z (all-first (IsPoint n m) (points (f z)) _ p) in
      let rest = bodies_rebuilt zs (all-second (IsPoint n m) (points (f z)) _ p) in
      cc

  layer : (y : Instr-F Z) → AllByRecursion (IsPoint n m) (points_row (map-Instr Instr (List Point) points (map-Instr Z Instr f y)))
      → instr_of n (instr_node n (map-Instr Instr InstrNode (node n) (map-Instr Z Instr f y))) ≡ roll-Instr (map-Instr Z Instr f y)
  unfolding instr_of
  layer (o.Block t body) p = ap (λ (b : List Instr). roll-Instr (o.Block t b)) (bodies_rebuilt body p)
  layer (o.Loop t body) p = ap (λ (b : List Instr). roll-Instr (o.Loop t b)) (bodies_rebuilt body p)
  layer (o.TryTable t ls body) p = ap (λ (b : List Instr). roll-Instr (o.TryTable t ls b)) (bodies_rebuilt body p)
  layer (o.If t body None) p = ap (λ (b : List Instr). roll-Instr (o.If t b None)) (bodies_rebuilt body p)
  layer (o.If t body (Some other)) p =
      let bs = flat_map (λ (ps : List Point). ps) (map points (map f body)) in
      let os = flat_map (λ (ps : List Point). ps) (map points (map f other)) in
      let a = bodies_rebuilt body (all-first (IsPoint n m) bs os p.1) in
      let some : 0 < length (map f other) = omega (arith, p.0, length-map (map f other) points) in
      let b = other-back _ _ (bodies_rebuilt other (all-second (IsPoint n m) bs os p.1)) some in
      cc
  layer (o.Call g) p = ap (λ (g : FuncName). roll-Instr (o.Call g)) (named-back n m g p.0)
  layer (o.RefFunc g) p = ap (λ (g : FuncName). roll-Instr (o.RefFunc g)) (named-back n m g p.0)
  layer _ p = refl

pub rebuilt : (n m : ℕ) (i : Instr) → IsRebuilt n m i
rebuilt n m = ind-Instr (IsRebuilt n m) (λ x y is. subst (λ (z : Instr-F Instr). IsRebuilt n m (roll-Instr z)) is (λ p.
    let z = map-Instr _ Instr (λ e. e.0) y in
    ap (instr_of n) (fold-roll-Instr InstrNode (instr_node n) z) ∙ layer n m (λ e. e.0) (λ e. e.1) y (rw (fold-roll-Instr (List Point) points_row z) at p)))

pub body_rebuilt : (n m : ℕ) (is : List Instr) → AreRanged n m is → instrs_of n (body_nodes n is) ≡ is
unfolding instr_of
body_rebuilt n m [] p = refl
body_rebuilt n m (i ∷ is) p = let one = rebuilt n m i p.0 in let rest = body_rebuilt n m is p.1 in cc
