use Rattle.std.proofs.Common.{rules, arith, ◌≡◌, ℕ, ◌+◌, ◌*◌, ◌++◌, ◌<◌, [], ◌∷◌, List, length, take, drop, sym, ap, ◌∙◌, append_assoc, append-nil, subst}
use Rattle.std.proofs.lemmas.List.{take_more, take_all}
use Rattle.fact_wasm.specs.declared.instr.Instr.{Instr}
use Rattle.fact_binary.specs.Encode.{immediates}
use Rattle.fact_binary.specs.Grammar.{args, node, body_nodes, code, codes}
use Rattle.fact_binary.proofs.Written.{wrote, code-leaf, code-nest, code-choice, smaller-nest, smaller-choice, codes_from, item_smaller, codes_end, two, four, node-leaf, node-nest, node-choice, nodes_more, nodes_none, nodes_empty, placed_more, ends_at, goes_on}
use Rattle.fact_binary.proofs.code.+push.Goals as goal

pub push_instr-returns-in-None-clause-bytes : goal.push_instr-returns-in-None-clause-bytes
push_instr-returns-in-None-clause-bytes t c =
    let n = c.args.imports in
    let nd = node n c.args.instr.now in
    let xs = immediates n c.operands_of-operands.result in
    let row = c.in-None.ensures.row n nd (c.operands_of-operands.ensures.shown n) in
    wrote c.args.out.now.items c.push.new.self.items c.push_immediates.new.out.items nd c.opcode.result (args xs) c.in_ok-push.ensures.items (code-leaf nd c.opcode.result xs (c.opcode.ensures n) row.0) c.in_ok-push_immediates.ensures.bytes

pub push_instr-returns-in-None-clause-fit : goal.push_instr-returns-in-None-clause-fit
push_instr-returns-in-None-clause-fit t c = λ h.
    let n = c.args.imports in
    let nd = node n c.args.instr.now in
    let xs = immediates n c.operands_of-operands.result in
    let row = c.in-None.ensures.row n nd (c.operands_of-operands.ensures.shown n) in
    node-leaf nd xs row.0 row.1 (c.in_ok-push_immediates.ensures.fit (rw c.operands_of-operands.ensures.points h))

pub push_instr-push_ended-requires : goal.push_instr-push_ended-requires
push_instr-push_ended-requires t c =
    let n = c.args.imports in
    let nd = node n c.args.instr.now in
    let row = c.in-One.ensures.row n nd (c.operands_of-operands.ensures.shown n) in
    let less = smaller-nest nd c.opcode.result (immediates n c.operands_of-operands.result) (body_nodes n c.in-One.body.now) (c.opcode.ensures n) row.0 in
    let small : 2 * length (codes (body_nodes n c.in-One.body.now)) + 2 < 2 * length (code nd) = omega (arith, less) in
    search rules

pub push_instr-returns-in_ok-push_ended-in-One-clause-bytes : goal.push_instr-returns-in_ok-push_ended-in-One-clause-bytes
push_instr-returns-in_ok-push_ended-in-One-clause-bytes t c =
    let n = c.args.imports in
    let nd = node n c.args.instr.now in
    let xs = immediates n c.operands_of-operands.result in
    let row = c.in-One.ensures.row n nd (c.operands_of-operands.ensures.shown n) in
    wrote c.args.out.now.items c.push.new.self.items c.push_ended.new.out.items nd c.opcode.result _ c.in_ok-push.ensures.items (code-nest nd c.opcode.result xs (body_nodes n c.in-One.body.now) (c.opcode.ensures n) row.0)
    (two _ _ _ _ _ c.in_ok-push_immediates.ensures.bytes c.in_ok-push_ended-in-One.ensures.bytes)

pub push_instr-returns-in_ok-push_ended-in-One-clause-fit : goal.push_instr-returns-in_ok-push_ended-in-One-clause-fit
push_instr-returns-in_ok-push_ended-in-One-clause-fit t c = λ h.
    let n = c.args.imports in
    let nd = node n c.args.instr.now in
    let xs = immediates n c.operands_of-operands.result in
    let row = c.in-One.ensures.row n nd (c.operands_of-operands.ensures.shown n) in
    node-nest nd xs (body_nodes n c.in-One.body.now) row.0 row.1 (c.in_ok-push_immediates.ensures.fit (rw c.operands_of-operands.ensures.points h)) (c.in_ok-push_ended-in-One.ensures.fit (c.in-One.ensures.placed (rw c.operands_of-operands.ensures.points h)))

-- two bodies: the measures, the bytes with the second body empty and with one, the rows

pub push_instr-push_ended-requires-in-Two-default-empty : goal.push_instr-push_ended-requires-in-Two-default-empty
push_instr-push_ended-requires-in-Two-default-empty t c =
    let n = c.args.imports in
    let a = c.in-Two-default-empty in
    let row = a.ensures.row n (node n c.args.instr.now) (c.operands_of-operands.ensures.shown n) in
    let less = smaller-choice (node n c.args.instr.now) c.opcode.result (immediates n c.operands_of-operands.result) (body_nodes n a.body.now) (body_nodes n a.field-1.now) (c.opcode.ensures n) row.0 in
    let small : 2 * length (codes (body_nodes n a.body.now)) + 2 < 2 * length (code (node n c.args.instr.now)) = omega (arith, less.0) in
    search rules

pub push_instr-push_ended-requires-in-Two : goal.push_instr-push_ended-requires-in-Two
push_instr-push_ended-requires-in-Two t c =
    let n = c.args.imports in
    let a = c.in-Two in
    let row = a.ensures.row n (node n c.args.instr.now) (c.operands_of-operands.ensures.shown n) in
    let less = smaller-choice (node n c.args.instr.now) c.opcode.result (immediates n c.operands_of-operands.result) (body_nodes n a.body.now) (body_nodes n a.other.now) (c.opcode.ensures n) row.0 in
    let small : 2 * length (codes (body_nodes n a.body.now)) + 2 < 2 * length (code (node n c.args.instr.now)) = omega (arith, less.0) in
    search rules

pub push_instr-push_ended-requires-in-Two-2 : goal.push_instr-push_ended-requires-in-Two-2
push_instr-push_ended-requires-in-Two-2 t c =
    let n = c.args.imports in
    let a = c.in-Two in
    let row = a.ensures.row n (node n c.args.instr.now) (c.operands_of-operands.ensures.shown n) in
    let less = smaller-choice (node n c.args.instr.now) c.opcode.result (immediates n c.operands_of-operands.result) (body_nodes n a.body.now) (body_nodes n a.other.now) (c.opcode.ensures n) row.0 in
    let small : 2 * length (codes (body_nodes n a.other.now)) + 2 < 2 * length (code (node n c.args.instr.now)) = omega (arith, less.1) in
    search rules

pub push_instr-returns-in_ok-push_ended-in-Two-default-empty-clause-bytes : goal.push_instr-returns-in_ok-push_ended-in-Two-default-empty-clause-bytes
push_instr-returns-in_ok-push_ended-in-Two-default-empty-clause-bytes t c =
    let n = c.args.imports in
    let nd = node n c.args.instr.now in
    let xs = immediates n c.operands_of-operands.result in
    let a = c.in-Two-default-empty in
    let row = a.ensures.row n nd (c.operands_of-operands.ensures.shown n) in
    let none : length a.field-1.now ≡ 0 = let below = a.len_below in omega arith in
    wrote c.args.out.now.items c.push.new.self.items c.push_ended-in-Two-default-empty.new.out.items nd c.opcode.result _ c.in_ok-push.ensures.items (code-choice nd c.opcode.result xs (body_nodes n a.body.now) (body_nodes n a.field-1.now) (c.opcode.ensures n) row.0)
    (rw (ends_at n a.field-1.now none) (two _ _ _ _ _ c.in_ok-push_immediates.ensures.bytes c.in_ok-push_ended-in-Two-default-empty.ensures.bytes))

pub push_instr-returns-in_ok-push_ended-in-Two-2-clause-bytes : goal.push_instr-returns-in_ok-push_ended-in-Two-2-clause-bytes
push_instr-returns-in_ok-push_ended-in-Two-2-clause-bytes t c =
    let n = c.args.imports in
    let nd = node n c.args.instr.now in
    let xs = immediates n c.operands_of-operands.result in
    let a = c.in-Two in
    let row = a.ensures.row n nd (c.operands_of-operands.ensures.shown n) in
    let some : length a.other.now ≡ 0 → ⊥ = λ e. let least = a.len_at_least in omega arith in
    wrote c.args.out.now.items c.push.new.self.items c.push_ended-in-Two-2.new.out.items nd c.opcode.result _ c.in_ok-push.ensures.items (code-choice nd c.opcode.result xs (body_nodes n a.body.now) (body_nodes n a.other.now) (c.opcode.ensures n) row.0)
    (rw (goes_on n a.other.now some) (four _ _ _ _ _ _ (0x05 ∷ []) _ c.in_ok-push_immediates.ensures.bytes c.in_ok-push_ended-in-Two.ensures.bytes c.in_ok-push_ended-in-Two-2.ensures.bytes))

pub push_instr-returns-in_ok-push_ended-in-Two-default-empty-clause-fit : goal.push_instr-returns-in_ok-push_ended-in-Two-default-empty-clause-fit
push_instr-returns-in_ok-push_ended-in-Two-default-empty-clause-fit t c = λ h.
    let n = c.args.imports in
    let nd = node n c.args.instr.now in
    let a = c.in-Two-default-empty in
    let row = a.ensures.row n nd (c.operands_of-operands.ensures.shown n) in
    let none : length a.field-1.now ≡ 0 = let below = a.len_below in omega arith in
    let placed = a.ensures.placed (rw c.operands_of-operands.ensures.points h) in
    node-choice nd (immediates n c.operands_of-operands.result) (body_nodes n a.body.now) (body_nodes n a.field-1.now) row.0 row.1 (c.in_ok-push_immediates.ensures.fit (rw c.operands_of-operands.ensures.points h)) (c.in_ok-push_ended-in-Two-default-empty.ensures.fit placed.0) (nodes_empty n a.field-1.now none)

pub push_instr-returns-in_ok-push_ended-in-Two-2-clause-fit : goal.push_instr-returns-in_ok-push_ended-in-Two-2-clause-fit
push_instr-returns-in_ok-push_ended-in-Two-2-clause-fit t c = λ h.
    let n = c.args.imports in
    let nd = node n c.args.instr.now in
    let a = c.in-Two in
    let row = a.ensures.row n nd (c.operands_of-operands.ensures.shown n) in
    let placed = a.ensures.placed (rw c.operands_of-operands.ensures.points h) in
    node-choice nd (immediates n c.operands_of-operands.result) (body_nodes n a.body.now) (body_nodes n a.other.now) row.0 row.1 (c.in_ok-push_immediates.ensures.fit (rw c.operands_of-operands.ensures.points h)) (c.in_ok-push_ended-in-Two.ensures.fit placed.0) (c.in_ok-push_ended-in-Two-2.ensures.fit placed.1)

-- ---- a body and its end

pub push_ended-push_body-requires : goal.push_ended-push_body-requires
push_ended-push_body-requires t c =
    let small : 2 * length (codes (body_nodes c.args.imports c.args.body.now)) + 1 < 2 * length (codes (body_nodes c.args.imports c.args.body.now)) + 2 = omega arith in
    search rules

pub push_ended-returns-clause-bytes : goal.push_ended-returns-clause-bytes
push_ended-returns-clause-bytes t c = two _ _ _ _ _ c.in_ok-push_body.ensures.bytes c.in_ok-push.ensures.items

pub push_ended-returns-clause-fit : goal.push_ended-returns-clause-fit
push_ended-returns-clause-fit t c = c.in_ok-push_body.ensures.fit

-- ---- a body

pub push_body-push_instr-requires : goal.push_body-push_instr-requires
push_body-push_instr-requires t c =
    let is = c.args.body.now in
    let k = c.loop-instr.instr-index in
    let smaller : length (code (node c.args.imports c.instr-item.result)) < length (codes (body_nodes c.args.imports is)) + 1 =
    subst (λ (i : Instr). length (code (node c.args.imports i)) < length (codes (body_nodes c.args.imports is)) + 1) (sym c.instr-item.is) (item_smaller c.args.imports is k c.instr-item.result c.loop-instr-test.true) in
    let small : 2 * length (code (node c.args.imports c.instr-item.result)) < 2 * length (codes (body_nodes c.args.imports is)) + 1 = omega (arith, smaller) in
    search rules

pub push_body-loop-instr-init : goal.push_body-loop-instr-init
push_body-loop-instr-init t c = record { rows = λ p. nodes_none c.args.imports; bytes = search rules }

pub push_body-loop-instr-preserved : goal.push_body-loop-instr-preserved
push_body-loop-instr-preserved t c =
    let n = c.args.imports in
    let is = c.args.body.now in
    let x = c.instr-item.result in
    let k = c.loop-instr.instr-index in
    let later = codes (body_nodes n (drop (k + 1) is)) in
    let here : codes (body_nodes n (drop k is)) ≡ code (node n x) ++ later =
    codes_from n is k x c.loop-instr-test.true ∙ ap (λ (i : Instr). code (node n i) ++ later) (sym c.instr-item.is) in
    let more : take (k + 1) is ≡ take k is ++ x ∷ [] = take_more is k x c.loop-instr-test.true ∙ ap (λ (y : Instr). take k is ++ y ∷ []) (sym c.instr-item.is) in
    record {
      rows = rw more (λ p. let split = placed_more (take k is) x p in nodes_more n (take k is) x (c.loop-instr.invariant.rows split.0) (c.in_ok-push_instr.ensures.fit split.1));
      bytes = ap (λ (t : List ℕ). t ++ later) c.in_ok-push_instr.ensures.bytes ∙ append_assoc c.loop-instr.out.items (code (node n x)) later ∙ ap (λ (t : List ℕ). c.loop-instr.out.items ++ t) (sym here) ∙ c.loop-instr.invariant.bytes;
    }

pub push_body-returns-clause-bytes : goal.push_body-returns-clause-bytes
push_body-returns-clause-bytes t c =
    sym (append-nil c.loop-instr.out.items) ∙ ap (λ (t : List ℕ). c.loop-instr.out.items ++ t) (sym (codes_end c.args.imports c.args.body.now c.loop-instr.instr-index c.loop-instr-test.false)) ∙ c.loop-instr.invariant.bytes

pub push_body-returns-clause-fit : goal.push_body-returns-clause-fit
push_body-returns-clause-fit t c =
    let all : take c.loop-instr.instr-index c.args.body.now ≡ c.args.body.now = take_all c.loop-instr.instr-index c.args.body.now c.loop-instr-test.false in
    rw all at c.loop-instr.invariant.rows
