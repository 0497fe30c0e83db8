-- What is written for a row.
use Rattle.std.proofs.Common.{◌≡◌, ℕ, zero, suc, ◌+◌, ◌<◌, ◌≤◌, List, [], ◌∷◌, ◌++◌, length, drop, get_or, map, arith, refl, sym, ap, ◌∙◌, append_assoc, append-nil, length-append, subst}
use Rattle.std.proofs.lemmas.List.{drop_more, drop_all}
use Rattle.std.proofs.lemmas.List.Concat.{flat_map-cons}
use Rattle.std.specs.List.{AllByRecursion}
use Rattle.fact_wasm.specs.declared.instr.Instr.{Instr}
use Rattle.fact_binary.specs.Encode.{IsAligned, ArePlaced}
use Rattle.fact_wasm.specs.Ranges.{points}
use Rattle.fact_binary.specs.Grammar.{Arg, IsArg, arg, args, kind, shape, Flat, Body, Bodies, InstrNode, Leaf, Nest, Choice, Nodes, Nil, Cons, IsNode, AreNodes, node, body_nodes, code, codes, choice_end, opcode}

pub args-one : (a : Arg) → args (a ∷ []) ≡ arg a
args-one a = flat_map-cons arg a [] ∙ append-nil (arg a)

pub args-two : (a b : Arg) → args (a ∷ b ∷ []) ≡ arg a ++ arg b
args-two a b = flat_map-cons arg a (b ∷ []) ∙ ap (λ (r : List ℕ). arg a ++ r) (args-one b)

-- two and more writes in a row
pub two : (first a b x y : List ℕ) → a ≡ first ++ x → b ≡ a ++ y → b ≡ first ++ (x ++ y)
two first a b x y p q = q ∙ ap (λ (t : List ℕ). t ++ y) p ∙ append_assoc first x y

pub three : (first a b c x y z : List ℕ) → a ≡ first ++ x → b ≡ a ++ y → c ≡ b ++ z → c ≡ first ++ (x ++ (y ++ z))
three first a b c x y z p q r = two first a c x (y ++ z) p (two a b c y z q r)

pub four : (first a b c x y u z : List ℕ) → a ≡ first ++ x → b ≡ a ++ (y ++ u) → c ≡ b ++ z → c ≡ first ++ (x ++ (y ++ (u ++ z)))
four first a b c x y u z p q r = three first a b c x (y ++ u) z p q r ∙ ap (λ (t : List ℕ). first ++ (x ++ t)) (append_assoc y u z)

-- the first byte and what stands behind it
pub wrote : (out first new : List ℕ) (nd : InstrNode) (b : ℕ) (rest : List ℕ) → first ≡ out ++ b ∷ [] → code nd ≡ b ∷ rest → new ≡ first ++ rest → new ≡ out ++ code nd
wrote out first new nd b rest p q r = r ∙ rw p (append_assoc out (b ∷ []) rest) ∙ ap (λ (t : List ℕ). out ++ t) (sym q)

pub code-leaf : (nd : InstrNode) (b : ℕ) (xs : List Arg) → opcode nd ≡ b → nd ≡ Leaf (opcode nd) xs → code nd ≡ b ∷ args xs
unfolding code
code-leaf nd b xs e f = ap code f ∙ rw e refl

pub code-nest : (nd : InstrNode) (b : ℕ) (xs : List Arg) (body : Nodes) → opcode nd ≡ b → nd ≡ Nest (opcode nd) xs body → code nd ≡ b ∷ (args xs ++ (codes body ++ 0x0B ∷ []))
unfolding code
code-nest nd b xs body e f = ap code f ∙ rw e refl

pub code-choice : (nd : InstrNode) (b : ℕ) (xs : List Arg) (body other : Nodes) → opcode nd ≡ b → nd ≡ Choice (opcode nd) xs body other → code nd ≡ b ∷ (args xs ++ (codes body ++ choice_end other (codes other)))
unfolding code
code-choice nd b xs body other e f = ap code f ∙ rw e refl

-- the measures
pub smaller-nest : (nd : InstrNode) (b : ℕ) (xs : List Arg) (body : Nodes) → opcode nd ≡ b → nd ≡ Nest (opcode nd) xs body → length (codes body) + 1 < length (code nd)
smaller-nest nd b xs body e f = let c = code-nest nd b xs body e f in
    omega (arith, ap length c, length-append (args xs) (codes body ++ 0x0B ∷ []), length-append (codes body) (0x0B ∷ []))

choice_longer : (other : Nodes) → (0 < length (choice_end other (codes other))) × (length (codes other) < length (choice_end other (codes other)))
unfolding codes
choice_longer Nil = (omega arith, omega arith)
choice_longer (Cons i is) = let l = length-append (codes (Cons i is)) (0x0B ∷ []) in (omega arith, omega (arith, l))

pub smaller-choice : (nd : InstrNode) (b : ℕ) (xs : List Arg) (body other : Nodes) → opcode nd ≡ b → nd ≡ Choice (opcode nd) xs body other
    → (length (codes body) + 1 < length (code nd)) × (length (codes other) + 1 < length (code nd))
smaller-choice nd b xs body other e f =
    let c = code-choice nd b xs body other e f in
    let l = choice_longer other in
    let s = length-append (args xs) (codes body ++ choice_end other (codes other)) in
    let t = length-append (codes body) (choice_end other (codes other)) in
    (omega (arith, ap length c, l.0, s, t), omega (arith, ap length c, l.1, s, t))

-- how a choice ends
pub ends_at : (n : ℕ) (is : List Instr) → length is ≡ 0 → choice_end (body_nodes n is) (codes (body_nodes n is)) ≡ 0x0B ∷ []
ends_at n [] h = refl
ends_at n (i ∷ is) h = absurd (omega arith)

pub goes_on : (n : ℕ) (is : List Instr) → (length is ≡ 0 → ⊥) → choice_end (body_nodes n is) (codes (body_nodes n is)) ≡ 0x05 ∷ (codes (body_nodes n is) ++ 0x0B ∷ [])
goes_on n [] h = absurd (h refl)
goes_on n (i ∷ is) h = refl

-- the bytes from a place of a body on
pub codes_from : (n : ℕ) (is : List Instr) (k : ℕ) (d : Instr) → k < length is → codes (body_nodes n (drop k is)) ≡ code (node n (get_or is k d)) ++ codes (body_nodes n (drop (k + 1) is))
unfolding codes
codes_from n is k d h = rw (drop_more is k d h) refl

pub item_smaller : (n : ℕ) (is : List Instr) (k : ℕ) (d : Instr) → k < length is → length (code (node n (get_or is k d))) < length (codes (body_nodes n is)) + 1
unfolding codes
item_smaller n [] k d h = absurd (omega arith)
item_smaller n (i ∷ is) zero d h = omega (arith, length-append (code (node n i)) (codes (body_nodes n is)))
item_smaller n (i ∷ is) (suc k) d h = omega (arith, item_smaller n is k d (omega arith), length-append (code (node n i)) (codes (body_nodes n is)))

pub codes_end : (n : ℕ) (is : List Instr) (k : ℕ) → length is ≤ k → codes (body_nodes n (drop k is)) ≡ []
unfolding codes
codes_end n is k h = rw (drop_all k is h) refl

-- a row of the table with numbers in range
pub node-leaf : (nd : InstrNode) (xs : List Arg) → nd ≡ Leaf (opcode nd) xs → shape (opcode nd) ≡ Flat (map kind xs) → AllByRecursion IsArg xs → IsNode nd
unfolding IsNode
node-leaf nd xs e s a = subst IsNode (sym e) (s, a)

pub node-choice : (nd : InstrNode) (xs : List Arg) (body other : Nodes) → nd ≡ Choice (opcode nd) xs body other → shape (opcode nd) ≡ Bodies (map kind xs) → AllByRecursion IsArg xs → AreNodes body → AreNodes other → IsNode nd
unfolding IsNode
node-choice nd xs body other e s a b c = subst IsNode (sym e) (s, a, b, c)

pub node-nest : (nd : InstrNode) (xs : List Arg) (body : Nodes) → nd ≡ Nest (opcode nd) xs body → shape (opcode nd) ≡ Body (map kind xs) → AllByRecursion IsArg xs → AreNodes body → IsNode nd
unfolding IsNode
node-nest nd xs body e s a b = subst IsNode (sym e) (s, a, b)

-- the nodes up to one place further
pub nodes_more : (n : ℕ) (is : List Instr) (i : Instr) → AreNodes (body_nodes n is) → IsNode (node n i) → AreNodes (body_nodes n (is ++ i ∷ []))
unfolding IsNode
nodes_more n [] i a b = (b, tt)
nodes_more n (j ∷ is) i a b = (a.0, nodes_more n is i a.1 b)

pub nodes_none : (n : ℕ) → AreNodes (body_nodes n [])
unfolding IsNode
nodes_none n = tt

pub nodes_empty : (n : ℕ) (is : List Instr) → length is ≡ 0 → AreNodes (body_nodes n is)
unfolding IsNode
nodes_empty n [] h = tt
nodes_empty n (i ∷ is) h = absurd (omega arith)

pub placed_more : (is : List Instr) (i : Instr) → ArePlaced (is ++ i ∷ []) → ArePlaced is × AllByRecursion IsAligned (points i)
placed_more [] i p = (tt, p.0)
placed_more (j ∷ is) i p = let rest = placed_more is i p.1 in ((p.0, rest.0), rest.1)
