-- What bytes begin with, by the first byte.
use Rattle.std.proofs.Common.{◌≡◌, ◌⊎◌, ℕ, ◌<◌, List, [], ◌∷◌, ◌++◌, length, map, Option, Some, None, arith, refl, sym, ap, ◌∙◌, subst, append_assoc, append-nil, length-append, inl, inr}
use Rattle.std.specs.List.{AllByRecursion}
use Rattle.fact_wasm.specs.declared.instr.BlockType.{BlockType}
use Rattle.fact_wasm.specs.declared.instr.Instr.{Instr, roll-Instr}
use Rattle.fact_wasm.specs.declared.instr.Instr.TheVariants.{If}
use Rattle.fact_wasm.specs.declared.instr.Instr.TheVariants as v
use Rattle.fact_wasm.specs.declared.instr.Instr.TheOpen as o
use Rattle.fact_binary.specs.declared.forms.LeafRow.{LeafRow}
use Rattle.fact_binary.specs.Answers.{IsEnd}
use Rattle.fact_binary.specs.Forms.{leaf_op, leaf_kinds, operands, IsLeafAt, IsInstrAt, IsBodyAt}
use Rattle.fact_binary.specs.Grammar.{Arg, Typ, ImmediateKind, ATyp, kind, block_type, args, IsBlockType, IsArg, InstrNode, Leaf, Nest, Choice, Nodes, Nil, Cons, choice_end, code, codes, Flat, Body, Bodies, NoShape, shape, IsNode, AreNodes, node, body_nodes}
use Rattle.fact_binary.specs.Rebuild.{instr_of, instrs_of}
use Rattle.fact_binary.proofs.Layers.{node-layer}
use Rattle.fact_binary.proofs.Unique.{code-unique, code-begins}
use Rattle.fact_binary.proofs.Written.{args-one, goes_on}
use Rattle.fact_binary.proofs.Leaves.{a_type}

pub flat : (i : InstrNode) (op : ℕ) (tail rest : List ℕ) (ks : List ImmediateKind) → shape op ≡ Flat ks → IsNode i → op ∷ tail ≡ code i ++ rest
    → (xs : List Arg) × (i ≡ Leaf op xs) × (map kind xs ≡ ks) × AllByRecursion IsArg xs × (tail ≡ args xs ++ rest)
unfolding code IsNode
flat (Leaf o xs) op tail rest ks s p e = (xs, (cc), (cc), p.1, (cc))
flat (Nest o xs a) op tail rest ks s p e = absurd cc
flat (Choice o xs a b) op tail rest ks s p e = absurd cc

pub body : (i : InstrNode) (op : ℕ) (tail rest : List ℕ) (ks : List ImmediateKind) → shape op ≡ Body ks → IsNode i → op ∷ tail ≡ code i ++ rest
    → (xs : List Arg) × (a : Nodes) × (i ≡ Nest op xs a) × (map kind xs ≡ ks) × AllByRecursion IsArg xs × AreNodes a × (tail ≡ args xs ++ (codes a ++ 0x0B ∷ rest))
unfolding code IsNode
body (Leaf o xs) op tail rest ks s p e = absurd cc
body (Nest o xs a) op tail rest ks s p e =
    let t : tail ≡ (args xs ++ (codes a ++ 0x0B ∷ [])) ++ rest = cc in
    (xs, a, (cc), (cc), p.1, p.2, t ∙ append_assoc (args xs) (codes a ++ 0x0B ∷ []) rest ∙ ap (λ (r : List ℕ). args xs ++ r) (append_assoc (codes a) (0x0B ∷ []) rest))
body (Choice o xs a b) op tail rest ks s p e = absurd cc

pub bodies : (i : InstrNode) (op : ℕ) (tail rest : List ℕ) (ks : List ImmediateKind) → shape op ≡ Bodies ks → IsNode i → op ∷ tail ≡ code i ++ rest
    → (xs : List Arg) × (a : Nodes) × (b : Nodes) × (i ≡ Choice op xs a b) × (map kind xs ≡ ks) × AllByRecursion IsArg xs × AreNodes a × AreNodes b × (tail ≡ args xs ++ (codes a ++ (choice_end b (codes b) ++ rest)))
unfolding code IsNode
bodies (Leaf o xs) op tail rest ks s p e = absurd cc
bodies (Nest o xs a) op tail rest ks s p e = absurd cc
bodies (Choice o xs a b) op tail rest ks s p e =
    let t : tail ≡ (args xs ++ (codes a ++ choice_end b (codes b))) ++ rest = cc in
    (xs, a, b, (cc), (cc), p.1, p.2, p.3, t ∙ append_assoc (args xs) (codes a ++ choice_end b (codes b)) rest ∙ ap (λ (r : List ℕ). args xs ++ r) (append_assoc (codes a) (choice_end b (codes b)) rest))

pub nothing : (i : InstrNode) (op : ℕ) (tail rest : List ℕ) → shape op ≡ NoShape → IsNode i → op ∷ tail ≡ code i ++ rest → ⊥
unfolding code IsNode
nothing (Leaf o xs) op tail rest s p e = cc
nothing (Nest o xs a) op tail rest s p e = cc
nothing (Choice o xs a b) op tail rest s p e = cc

pub some : (i : InstrNode) (rest : List ℕ) → code i ++ rest ≡ [] → ⊥
unfolding code
some (Leaf o xs) rest e = cc
some (Nest o xs a) rest e = cc
some (Choice o xs a b) rest e = cc

-- the first byte of an instruction
pub first : (i : InstrNode) → (op : ℕ) × (tail : List ℕ) × (code i ≡ op ∷ tail)
unfolding code
first (Leaf o xs) = (o, args xs, refl)
first (Nest o xs a) = (o, args xs ++ (codes a ++ 0x0B ∷ []), refl)
first (Choice o xs a b) = (o, args xs ++ (codes a ++ choice_end b (codes b)), refl)

-- what is left of a body behind what was read of it
pub remaining : (done is : Nodes) (left : List ℕ) (b : ℕ) (rest : List ℕ) → IsEnd b → AreNodes done → AreNodes is → codes done ++ left ≡ codes is ++ b ∷ rest
    → (js : Nodes) × AreNodes js × (left ≡ codes js ++ b ∷ rest)
unfolding codes AreNodes
remaining Nil is left b rest end p q e = (is, q, e)
remaining (Cons d ds) Nil left b rest end p q e = absurd (code-begins d (codes ds ++ left) rest b end p.0 (sym (append_assoc (code d) (codes ds) left) ∙ e))
remaining (Cons d ds) (Cons i is) left b rest end p q e =
    let u = code-unique d i (codes ds ++ left) (codes is ++ b ∷ rest) p.0 q.0 (sym (append_assoc (code d) (codes ds) left) ∙ e ∙ append_assoc (code i) (codes is) (b ∷ rest)) in
    remaining ds is left b rest end p.1 q.1 u.1

-- bytes that don't begin with an end begin with an instruction
pub next : (js : Nodes) (op b : ℕ) (tail rest : List ℕ) → (IsEnd op → ⊥) → IsEnd b → AreNodes js → op ∷ tail ≡ codes js ++ b ∷ rest
    → (j : InstrNode) × (more : List ℕ) × IsNode j × (op ∷ tail ≡ code j ++ more)
unfolding codes AreNodes
next Nil op b tail rest not end p e = absurd (not (subst IsEnd (heads op b tail rest e) end))
  where
    heads : (x y : ℕ) (s t : List ℕ) → x ∷ s ≡ y ∷ t → y ≡ x
    heads x y s t f = cc
next (Cons j js) op b tail rest not end p e = (j, codes js ++ b ∷ rest, p.0, e ∙ append_assoc (code j) (codes js) (b ∷ rest))

-- one more instruction at the end of a body
pub instrs-push : (n : ℕ) (is : List Instr) (i : Instr) → instrs_of n (body_nodes n is) ≡ is → instr_of n (node n i) ≡ i → instrs_of n (body_nodes n (is ++ i ∷ [])) ≡ is ++ i ∷ []
unfolding instr_of
instrs-push n [] i p q = ap (λ (x : Instr). x ∷ []) q
instrs-push n (j ∷ is) i p q =
    let head : instr_of n (node n j) ≡ j = cc in
    let tail : instrs_of n (body_nodes n is) ≡ is = cc in
    let rest = instrs-push n is i tail q in
    cc

pub codes-push : (n : ℕ) (is : List Instr) (i : Instr) → codes (body_nodes n (is ++ i ∷ [])) ≡ codes (body_nodes n is) ++ code (node n i)
unfolding codes
codes-push n [] i = append-nil (code (node n i))
codes-push n (j ∷ is) i = ap (λ (r : List ℕ). code (node n j) ++ r) (codes-push n is i) ∙ sym (append_assoc (code (node n j)) (codes (body_nodes n is)) (code (node n i)))

pub nodes-push : (n : ℕ) (is : List Instr) (i : Instr) → AreNodes (body_nodes n is) → IsNode (node n i) → AreNodes (body_nodes n (is ++ i ∷ []))
unfolding AreNodes
nodes-push n [] i p q = (q, tt)
nodes-push n (j ∷ is) i p q = (p.0, nodes-push n is i p.1 q)

-- ---- what was read is in the grammar

pub found_plain : (n : ℕ) (bytes rest : List ℕ) (op : ℕ) (i : Instr) → bytes ≡ op ∷ rest → shape op ≡ Flat [] → node n i ≡ Leaf op [] → instr_of n (Leaf op []) ≡ i → IsInstrAt n bytes i rest
unfolding code IsNode
found_plain n bytes rest op i b s e o = record { fits = rw e (s, tt); own = ap (instr_of n) e ∙ o; spelled = rw e b }

pub found_leaf : (n : ℕ) (r : LeafRow) (bytes rest0 rest : List ℕ) (op : ℕ) (i : Instr) → bytes ≡ op ∷ rest0 → shape op ≡ Flat (leaf_kinds r) → leaf_op r ≡ op → IsLeafAt n r rest0 i rest → IsInstrAt n bytes i rest
unfolding code IsNode
found_leaf n r bytes rest0 rest op i b s o f =
    let xs = operands (node n i) in
    let row : shape (leaf_op r) ≡ Flat (map kind xs) = ap shape o ∙ s ∙ ap Flat (sym f.kinds) in
    let same : code (node n i) ≡ leaf_op r ∷ args xs = ap code f.row in
    record {
      fits = subst IsNode (sym f.row) (row, f.fits);
      own = f.own;
      spelled = rw (same, o) (b ∙ ap (λ (t : List ℕ). op ∷ t) f.spelled);
    }

pub found_body : (n : ℕ) (bytes rest0 rest1 rest2 : List ℕ) (op : ℕ) (xs : List Arg) (is : List Instr) (i : Instr) → bytes ≡ op ∷ rest0 → shape op ≡ Body (map kind xs) → AllByRecursion IsArg xs → rest0 ≡ args xs ++ rest1
    → IsBodyAt n rest1 is 0x0B rest2 → node n i ≡ Nest op xs (body_nodes n is) → instr_of n (Nest op xs (body_nodes n is)) ≡ i → IsInstrAt n bytes i rest2
unfolding code IsNode
found_body n bytes rest0 rest1 rest2 op xs is i b s h r f e o = record {
  fits = rw e (s, h, f.fits);
  own = ap (instr_of n) e ∙ o;
  spelled = rw e (b ∙ ap (λ (t : List ℕ). op ∷ t) (r ∙ ap (λ (t : List ℕ). args xs ++ t) (f.spelled ∙ sym (append_assoc (codes (body_nodes n is)) (0x0B ∷ []) rest2)) ∙ sym (append_assoc (args xs) (codes (body_nodes n is) ++ 0x0B ∷ []) rest2)));
}

pub found_choice : (n : ℕ) (bytes rest0 rest1 rest2 : List ℕ) (op : ℕ) (t : BlockType) (a b : Nodes) (i : Instr) → bytes ≡ op ∷ rest0 → shape op ≡ Bodies (ATyp ∷ []) → IsBlockType t → rest0 ≡ block_type t ++ rest1
    → AreNodes a → AreNodes b → rest1 ≡ codes a ++ (choice_end b (codes b) ++ rest2) → node n i ≡ Choice op (Typ t ∷ []) a b → instr_of n (Choice op (Typ t ∷ []) a b) ≡ i → IsInstrAt n bytes i rest2
unfolding code IsNode
found_choice n bytes rest0 rest1 rest2 op t a b i e s h r p p2 q is o = record {
  fits = rw is (s, (h, tt), p, p2);
  own = ap (instr_of n) is ∙ o;
  spelled = rw is (e ∙ ap (λ (t : List ℕ). op ∷ t) (r ∙ rw (q, args-one (Typ t)) (ap (λ (u : List ℕ). block_type t ++ u) (sym (append_assoc (codes a) (choice_end b (codes b)) rest2)) ∙ sym (append_assoc (block_type t) (codes a ++ choice_end b (codes b)) rest2))));
}

-- and is all that is
pub only : (n : ℕ) (bytes rest1 : List ℕ) (i : Instr) → IsInstrAt n bytes i rest1 → (nd : InstrNode) (rest : List ℕ) → IsNode nd → bytes ≡ code nd ++ rest → (node n i ≡ nd) × (rest1 ≡ rest)
only n bytes rest1 i f nd rest p e = code-unique (node n i) nd rest1 rest f.fits p (sym f.spelled ∙ e)

-- what stands behind the first byte
pub after_flat : (i : InstrNode) (op : ℕ) (bytes tail rest : List ℕ) (ks : List ImmediateKind) → shape op ≡ Flat ks → bytes ≡ op ∷ tail → IsNode i → bytes ≡ code i ++ rest
    → (xs : List Arg) × (i ≡ Leaf op xs) × (map kind xs ≡ ks) × AllByRecursion IsArg xs × (tail ≡ args xs ++ rest)
after_flat i op bytes tail rest ks s f p e = flat i op tail rest ks s p (sym f ∙ e)

pub after_body : (i : InstrNode) (op : ℕ) (bytes tail rest : List ℕ) (ks : List ImmediateKind) → shape op ≡ Body ks → bytes ≡ op ∷ tail → IsNode i → bytes ≡ code i ++ rest
    → (xs : List Arg) × (a : Nodes) × (i ≡ Nest op xs a) × (map kind xs ≡ ks) × AllByRecursion IsArg xs × AreNodes a × (tail ≡ args xs ++ (codes a ++ 0x0B ∷ rest))
after_body i op bytes tail rest ks s f p e = body i op tail rest ks s p (sym f ∙ e)

pub after_bodies : (i : InstrNode) (op : ℕ) (bytes tail rest : List ℕ) → shape op ≡ Bodies (ATyp ∷ []) → bytes ≡ op ∷ tail → IsNode i → bytes ≡ code i ++ rest
    → (t : BlockType) × (a : Nodes) × (b : Nodes) × IsBlockType t × AreNodes a × AreNodes b × (i ≡ Choice op (Typ t ∷ []) a b) × (tail ≡ block_type t ++ (codes a ++ (choice_end b (codes b) ++ rest)))
after_bodies i op bytes tail rest s f p e =
    let v = bodies i op tail rest (ATyp ∷ []) s p (sym f ∙ e) in
    let u = a_type tail (codes v.1 ++ (choice_end v.2 (codes v.2) ++ rest)) v.0 v.4 v.5 v.8 in
    (u.0, v.1, v.2, u.1, v.6, v.7, v.3 ∙ ap (λ (xs : List Arg). Choice op xs v.1 v.2) u.2, u.3)

-- the end of a choice begins with an end
pub choice_begins : (b : Nodes) (rest : List ℕ) → (e : ℕ) × (more : List ℕ) × IsEnd e × (choice_end b (codes b) ++ rest ≡ e ∷ more)
choice_begins Nil rest = (0x0B, rest, inr refl, refl)
choice_begins (Cons i is) rest = (0x05, (codes (Cons i is) ++ 0x0B ∷ []) ++ rest, inl refl, refl)

-- a choice whose first body ends by 0x05 has another body
pub other-body : (b : Nodes) (rest more : List ℕ) → choice_end b (codes b) ++ rest ≡ 0x05 ∷ more → (i : InstrNode) × (is : Nodes) × (b ≡ Cons i is) × (more ≡ codes b ++ 0x0B ∷ rest)
other-body Nil rest more e = absurd cc
other-body (Cons i is) rest more e = (i, is, refl, (cc) ∙ append_assoc (codes (Cons i is)) (0x0B ∷ []) rest)

pub ends-one : (b end : ℕ) → IsEnd b → end ≡ b → (end ≡ 0x0B → ⊥) → b ≡ 0x05
ends-one b end (inl h) e n = h
ends-one b end (inr h) e n = absurd (n (e ∙ h))

pub no-end : (b : ℕ) → (b ≡ 0x05 → ⊥) → (b ≡ 0x0B → ⊥) → IsEnd b → ⊥
no-end b p q (inl h) = p h
no-end b p q (inr h) = q h

pub empty-body : (n : ℕ) (is : List Instr) (j : InstrNode) (js : Nodes) → length is ≡ 0 → body_nodes n is ≡ Cons j js → ⊥
empty-body n [] j js h e = cc
empty-body n (i ∷ is) j js h e = omega arith

pub begins : (js : Nodes) (b : ℕ) (rest : List ℕ) → (op : ℕ) × (tail : List ℕ) × (codes js ++ b ∷ rest ≡ op ∷ tail)
unfolding codes
begins Nil b rest = (b, rest, refl)
begins (Cons j js) b rest = let f = first j in (f.0, (f.1 ++ codes js) ++ b ∷ rest, rw f.2 refl)

pub code-longer : (i : InstrNode) (rest : List ℕ) → length rest < length (code i ++ rest)
code-longer i rest = let f = first i in omega (arith, length-append (code i) rest, ap length f.2)

pub choice-bytes : (n : ℕ) (is : List Instr) (end last : ℕ) (rest0 rest1 : List ℕ) → (length is ≡ 0 → ⊥) → end ≡ 0x05 → last ≡ 0x0B → rest0 ≡ codes (body_nodes n is) ++ last ∷ rest1
    → end ∷ rest0 ≡ choice_end (body_nodes n is) (codes (body_nodes n is)) ++ rest1
choice-bytes n is end last rest0 rest1 h e l r =
    rw (goes_on n is h, e, r, l) (ap (λ (t : List ℕ). 0x05 ∷ t) (sym (append_assoc (codes (body_nodes n is)) (0x0B ∷ []) rest1)))

pub end-five : (b : ℕ) → IsEnd b → (b ≡ 0x0B → ⊥) → b ≡ 0x05
end-five b (inl h) n = h
end-five b (inr h) n = absurd (n h)

pub is-end : (b : ℕ) → (b ≡ 0x05) ⊎ ((b ≡ 0x05 → ⊥) × (b ≡ 0x0B)) → IsEnd b
is-end b (inl h) = inl h
is-end b (inr h) = inr h.1

-- a choice that was read, back from its tree
roll-if : (t : BlockType) (is : List Instr) (x : Option (List Instr)) → roll-Instr (o.If t is x) ≡ If t is x
roll-if t is x = v.rolls-If t is x

pub own_choice : (n op : ℕ) (t : BlockType) (is js : List Instr) → instrs_of n (body_nodes n is) ≡ is → instrs_of n (body_nodes n js) ≡ js → (length js ≡ 0 → ⊥)
    → instr_of n (Choice op (Typ t ∷ []) (body_nodes n is) (body_nodes n js)) ≡ If t is (Some js)
unfolding instr_of
own_choice n op t is [] p q h = absurd (h refl)
own_choice n op t is (j ∷ js) p q h =
    ap (λ (x : List Instr). roll-Instr (o.If t x (Some (instrs_of n (body_nodes n (j ∷ js)))))) p ∙ ap (λ (x : List Instr). roll-Instr (o.If t is (Some x))) q ∙ roll-if t is (Some (j ∷ js))

pub own_if : (n op : ℕ) (t : BlockType) (is : List Instr) → instrs_of n (body_nodes n is) ≡ is → instr_of n (Choice op (Typ t ∷ []) (body_nodes n is) Nil) ≡ If t is None
unfolding instr_of
own_if n op t is p = ap (λ (x : List Instr). roll-Instr (o.If t x None)) p ∙ roll-if t is None

pub node-if : (n : ℕ) (t : BlockType) (is : List Instr) → node n (If t is None) ≡ Choice 0x04 (Typ t ∷ []) (body_nodes n is) Nil
node-if n t is = node-layer _ _ (v.rolls-If t is None) n

pub node-else : (n : ℕ) (t : BlockType) (is js : List Instr) → node n (If t is (Some js)) ≡ Choice 0x04 (Typ t ∷ []) (body_nodes n is) (body_nodes n js)
node-else n t is js = node-layer _ _ (v.rolls-If t is (Some js)) n
