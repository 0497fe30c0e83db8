-- What code names, and that it is in range, piece by piece; and numbers that come once.
use Rattle.std.proofs.Common.{◌≡◌, ℕ, zero, suc, ◌+◌, ◌<◌, ◌≤◌, Bool, true, false, List, [], ◌∷◌, ◌++◌, Some, None, refl, sym, ap, ◌∙◌, subst, arith, length, slice_get, get_or, append_assoc, append-nil, nat_eq}
use Rattle.std.specs.Prelude.{cond}
use Rattle.std.specs.List.{AllByRecursion, filter_map, list_any, range_with_len}
use Rattle.std.proofs.lemmas.Bool.{eqb-true, eq-eqb}
use Rattle.std.proofs.lemmas.List.Elements.{filter_map-append}
use Rattle.std.proofs.lemmas.List.Folds.{Any-from_list_any}
use Rattle.std.proofs.lemmas.List.FromFn.{get_or-range_with_len, length-range_with_len}
use Rattle.std.proofs.lemmas.Map.Keys.{any_passes_from_place}
use Rattle.std.proofs.lemmas.Option.{slice_get-get_or, get_or_from_slice_get, slice_get_within}
use Rattle.fact_wasm.specs.declared.instr.BlockType.{BlockType}
use Rattle.fact_wasm.specs.declared.instr.FuncName.TheVariants as func
use Rattle.fact_wasm.specs.declared.instr.Instr.{Instr}
use Rattle.fact_wasm.specs.declared.instr.Instr.TheVariants as I
use Rattle.fact_wasm.specs.Ranges.{AreRanged, IsPoint, Named, Otherwise, Placed, Point, body_points, points}
use Rattle.fact_wasm.proofs.Ranged.{all-append, apart, together, points-block, points-else, points-if, points-loop, points-try_table}
use Rattle.fact_emit.specs.NamedFunctions.{all_added_once, defined_named, defined_place, functions_named, imported_named, imported_place, name_at}

-- ---- numbers, each once

pub added_on : (ns xs ys : List ℕ) → all_added_once ns (xs ++ ys) ≡ all_added_once (all_added_once ns xs) ys
added_on ns [] ys = refl
added_on ns (x ∷ xs) ys = added_on (all_added_once ns (x ∷ [])) xs ys

pub number_in : (ns : List ℕ) (n m : ℕ) → slice_get ns m ≡ Some n → all_added_once ns (n ∷ []) ≡ ns
number_in ns n m e = rw (any_passes_from_place (λ k. nat_eq k n) ns m n e (eq-eqb n n refl)) refl

pub number_out : (ns : List ℕ) (n : ℕ) → ((m : ℕ) → slice_get ns m ≡ Some n → ⊥) → all_added_once ns (n ∷ []) ≡ ns ++ n ∷ []
number_out ns n absent = by-cases (list_any (λ k. nat_eq k n) ns) refl
  where
    by-cases : (b : Bool) → list_any (λ k. nat_eq k n) ns ≡ b → cond b ns (ns ++ n ∷ []) ≡ ns ++ n ∷ []
    by-cases false e = refl
    by-cases true e =
        let (k, r, within, is, same) = Any-from_list_any (λ k. nat_eq k n) ns e in
        let there : slice_get ns k ≡ Some n = slice_get-get_or ns k r within ∙ ap Some is ∙ ap Some (eqb-true r n same) in
        absurd (absent k there)

-- the numbers below n, and what is added to them
range_get : (n k : ℕ) → k < n → slice_get (range_with_len 0 n) k ≡ Some k
range_get n k lt =
    let is : get_or (range_with_len 0 n) k 0 ≡ k = omega (arith, get_or-range_with_len 0 n k 0 lt) in
    slice_get-get_or (range_with_len 0 n) k 0 (omega (arith, lt, length-range_with_len 0 n)) ∙ ap Some is

range_below : (n m k : ℕ) → slice_get (range_with_len 0 n) m ≡ Some k → k < n
range_below n m k e =
    let within : m < n = omega (arith, slice_get_within (range_with_len 0 n) m k e, length-range_with_len 0 n) in
    omega (arith, within, get_or_from_slice_get (range_with_len 0 n) m k 0 e, get_or-range_with_len 0 n m 0 within)

range_last : (a n : ℕ) → range_with_len a (suc n) ≡ range_with_len a n ++ (a + n) ∷ []
range_last a zero = let same : a ≡ a + 0 = omega arith in ap (λ k. k ∷ []) same
range_last a (suc n) = let same : a + 1 + n ≡ a + suc n = omega arith in ap (λ l. a ∷ l) (range_last (a + 1) n ∙ ap (λ k. range_with_len (a + 1) n ++ k ∷ []) same)

pub below_added : (n : ℕ) (ks : List ℕ) → AllByRecursion (λ k. k < n) ks → all_added_once (range_with_len 0 n) ks ≡ range_with_len 0 n
below_added n [] h = refl
below_added n (k ∷ ks) h = ap (λ ns. all_added_once ns ks) (number_in (range_with_len 0 n) k k (range_get n k h.0)) ∙ below_added n ks h.1

pub next_added : (n : ℕ) → all_added_once (range_with_len 0 n) (n ∷ []) ≡ range_with_len 0 (suc n)
next_added n =
    let last : 0 + n ≡ n = omega arith in
    number_out (range_with_len 0 n) n (λ m e. let below = range_below n m n e in omega (arith, below)) ∙ sym (range_last 0 n ∙ ap (λ k. range_with_len 0 n ++ k ∷ []) last)

-- ---- code behind code

pub points_append : (a b : List Instr) → body_points (a ++ b) ≡ body_points a ++ body_points b
points_append [] b = refl
points_append (x ∷ a) b = ap (λ l. points x ++ l) (points_append a b) ∙ sym (append_assoc (points x) (body_points a) (body_points b))

pub named_append : (a b : List Instr) → functions_named (a ++ b) ≡ functions_named a ++ functions_named b
named_append a b = ap (filter_map name_at) (points_append a b) ∙ filter_map-append name_at (body_points a) (body_points b)

pub imported_append : (a b : List Instr) → imported_named (a ++ b) ≡ imported_named a ++ imported_named b
imported_append a b = ap (filter_map imported_place) (named_append a b) ∙ filter_map-append imported_place (functions_named a) (functions_named b)

pub defined_append : (a b : List Instr) → defined_named (a ++ b) ≡ defined_named a ++ defined_named b
defined_append a b = ap (filter_map defined_place) (named_append a b) ∙ filter_map-append defined_place (functions_named a) (functions_named b)

-- ---- code in range

pub ranged_append : (imports funcs : ℕ) (a b : List Instr) → AreRanged imports funcs a → AreRanged imports funcs b → AreRanged imports funcs (a ++ b)
ranged_append imports funcs a b = all-append (λ i. AllByRecursion (IsPoint imports funcs) (points i)) a b

-- Code in range names functions that there are.
points_imported : (n m : ℕ) (ps : List Point) → AllByRecursion (IsPoint n m) ps → AllByRecursion (λ k. k < n) (filter_map imported_place (filter_map name_at ps))
points_imported n m [] h = tt
points_imported n m (Named (func.Import k) ∷ ps) h = (h.0, points_imported n m ps h.1)
points_imported n m (Named (func.Defined k) ∷ ps) h = points_imported n m ps h.1
points_imported n m (Placed k ∷ ps) h = points_imported n m ps h.1
points_imported n m (Otherwise k ∷ ps) h = points_imported n m ps h.1

points_defined : (n m : ℕ) (ps : List Point) → AllByRecursion (IsPoint n m) ps → AllByRecursion (λ k. k < m) (filter_map defined_place (filter_map name_at ps))
points_defined n m [] h = tt
points_defined n m (Named (func.Import k) ∷ ps) h = points_defined n m ps h.1
points_defined n m (Named (func.Defined k) ∷ ps) h = (h.0, points_defined n m ps h.1)
points_defined n m (Placed k ∷ ps) h = points_defined n m ps h.1
points_defined n m (Otherwise k ∷ ps) h = points_defined n m ps h.1

pub ranged_named : (n m : ℕ) (code : List Instr) → AreRanged n m code → AllByRecursion (λ k. k < n) (imported_named code)
ranged_named n m code h = points_imported n m (body_points code) (together (IsPoint n m) code h)

pub ranged_defined : (n m : ℕ) (code : List Instr) → AreRanged n m code → AllByRecursion (λ k. k < m) (defined_named code)
ranged_defined n m code h = points_defined n m (body_points code) (together (IsPoint n m) code h)

-- Where there are none it names none.
below_zero : (ks : List ℕ) → AllByRecursion (λ k. k < 0) ks → ks ≡ []
below_zero [] h = refl
below_zero (k ∷ ks) h = absurd (omega (arith, h.0))

pub defined_none : (n : ℕ) (code : List Instr) → AreRanged n 0 code → defined_named code ≡ []
defined_none n code h = below_zero (defined_named code) (ranged_defined n 0 code h)

points_none : (ps : List Point) → AllByRecursion (IsPoint 0 0) ps → filter_map name_at ps ≡ []
points_none [] h = refl
points_none (Named (func.Import k) ∷ ps) h = absurd (omega (arith, h.0))
points_none (Named (func.Defined k) ∷ ps) h = absurd (omega (arith, h.0))
points_none (Placed k ∷ ps) h = points_none ps h.1
points_none (Otherwise k ∷ ps) h = points_none ps h.1

pub names_none : (code : List Instr) → AreRanged 0 0 code → functions_named code ≡ []
names_none code h = points_none (body_points code) (together (IsPoint 0 0) code h)

-- with more functions
point_more : (m n k l : ℕ) → m ≤ n → k ≤ l → (p : Point) → IsPoint m k p → IsPoint n l p
point_more m n k l le le' (Named (func.Import i)) h = omega (arith, le, h)
point_more m n k l le le' (Named (func.Defined i)) h = omega (arith, le', h)
point_more m n k l le le' (Placed a) h = h
point_more m n k l le le' (Otherwise i) h = h

points_more : (m n k l : ℕ) → m ≤ n → k ≤ l → (ps : List Point) → AllByRecursion (IsPoint m k) ps → AllByRecursion (IsPoint n l) ps
points_more m n k l le le' [] h = tt
points_more m n k l le le' (p ∷ ps) h = (point_more m n k l le le' p h.0, points_more m n k l le le' ps h.1)

pub ranged_in : (m n k l : ℕ) → m ≤ n → k ≤ l → (code : List Instr) → AreRanged m k code → AreRanged n l code
ranged_in m n k l le le' [] h = tt
ranged_in m n k l le le' (i ∷ is) h = (points_more m n k l le le' (points i) h.0, ranged_in m n k l le le' is h.1)

pub ranged_more : (m n : ℕ) → m ≤ n → (code : List Instr) → AreRanged m 0 code → AreRanged n 0 code
ranged_more m n le code h = ranged_in m n 0 0 le (omega arith) code h

-- code without such points
pub ranged_none : (imports funcs : ℕ) (code : List Instr) → body_points code ≡ [] → AreRanged imports funcs code
ranged_none imports funcs code e = apart (IsPoint imports funcs) code (subst (AllByRecursion (IsPoint imports funcs)) (sym e) tt)

-- ---- a body within an instruction

one_instruction : (i : Instr) {ps : List Point} → points i ≡ ps → functions_named (i ∷ []) ≡ filter_map name_at ps
one_instruction i e = ap (filter_map name_at) (append-nil (points i) ∙ e)

ranged_body : (imports funcs : ℕ) (i : Instr) (body : List Instr) → points i ≡ body_points body → AreRanged imports funcs body → AreRanged imports funcs (i ∷ [])
ranged_body imports funcs i body e h = (subst (AllByRecursion (IsPoint imports funcs)) (sym e) (together (IsPoint imports funcs) body h), tt)

pub named_block : (t : BlockType) (body : List Instr) → functions_named (I.Block t body ∷ []) ≡ functions_named body
named_block t body = one_instruction (I.Block t body) (points-block t body)

pub ranged_block : (imports funcs : ℕ) (t : BlockType) (body : List Instr) → AreRanged imports funcs body → AreRanged imports funcs (I.Block t body ∷ [])
ranged_block imports funcs t body = ranged_body imports funcs (I.Block t body) body (points-block t body)

pub named_loop : (t : BlockType) (body : List Instr) → functions_named (I.Loop t body ∷ []) ≡ functions_named body
named_loop t body = one_instruction (I.Loop t body) (points-loop t body)

pub ranged_loop : (imports funcs : ℕ) (t : BlockType) (body : List Instr) → AreRanged imports funcs body → AreRanged imports funcs (I.Loop t body ∷ [])
ranged_loop imports funcs t body = ranged_body imports funcs (I.Loop t body) body (points-loop t body)

pub named_try_table : (t : BlockType) (labels : List ℕ) (body : List Instr) → functions_named (I.TryTable t labels body ∷ []) ≡ functions_named body
named_try_table t labels body = one_instruction (I.TryTable t labels body) (points-try_table t labels body)

pub ranged_try_table : (imports funcs : ℕ) (t : BlockType) (labels : List ℕ) (body : List Instr) → AreRanged imports funcs body → AreRanged imports funcs (I.TryTable t labels body ∷ [])
ranged_try_table imports funcs t labels body = ranged_body imports funcs (I.TryTable t labels body) body (points-try_table t labels body)

pub named_if : (t : BlockType) (body : List Instr) → functions_named (I.If t body None ∷ []) ≡ functions_named body
named_if t body = one_instruction (I.If t body None) (points-if t body)

pub ranged_if : (imports funcs : ℕ) (t : BlockType) (body : List Instr) → AreRanged imports funcs body → AreRanged imports funcs (I.If t body None ∷ [])
ranged_if imports funcs t body = ranged_body imports funcs (I.If t body None) body (points-if t body)

pub named_else : (t : BlockType) (body other : List Instr) → functions_named (I.If t body (Some other) ∷ []) ≡ functions_named body ++ functions_named other
named_else t body other = one_instruction (I.If t body (Some other)) (points-else t body other) ∙ filter_map-append name_at (body_points body) (body_points other)

pub ranged_else : (imports funcs : ℕ) (t : BlockType) (body other : List Instr) → 0 < length other → AreRanged imports funcs body → AreRanged imports funcs other → AreRanged imports funcs (I.If t body (Some other) ∷ [])
ranged_else imports funcs t body other some x y =
    let P = IsPoint imports funcs in
    (subst (AllByRecursion P) (sym (points-else t body other)) (some, all-append P (body_points body) (body_points other) (together P body x) (together P other y)), tt)
