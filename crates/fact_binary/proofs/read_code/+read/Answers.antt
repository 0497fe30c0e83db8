use Rattle.std.proofs.Common.{arith, rules, ◌≡◌, ◌<◌, ◌≤◌, ◌+◌, ◌*◌, ℕ, List, [], ◌∷◌, ◌++◌, length, length-append, Some, None, refl, sym, ap, ◌∙◌, append_assoc, inr}
use Rattle.std.proofs.lemmas.Result.{err_from_is_err_and}
use Rattle.fact_wasm.specs.declared.instr.Instr.TheVariants.{If}
use Rattle.fact_binary.specs.declared.forms.BodyRow.{BodyRow}
use Rattle.fact_binary.specs.declared.forms.BodyRow.TheVariants as nest
use Rattle.fact_binary.specs.Grammar.{ATyp, Body, Bodies, Nil, shape, args, block_type, code, codes, choice_end, node, body_nodes, AreNodes}
use Rattle.fact_binary.specs.Forms.{head_args, body_op, body_kinds}
use Rattle.fact_binary.specs.Rebuild.{instrs_of}
use Rattle.fact_binary.proofs.Items.{passes}
use Rattle.fact_binary.proofs.Unique.{codes-unique}
use Rattle.fact_binary.proofs.Read.{nothing, remaining, next, codes-push, nodes-push, instrs-push, found_plain, found_leaf, found_body, found_choice, only, after_flat, after_body, after_bodies, first, ends-one, choice_begins, other-body, choice-bytes, end-five, is-end, empty-body, begins, no-end, code-longer, own_choice, own_if, node-if, node-else}
use Rattle.fact_binary.proofs.read_code.+read.Goals as goal

-- ---- a body

pub body_at-loop-body-init : goal.body_at-loop-body-init
unfolding codes AreNodes instrs_of
body_at-loop-body-init t c = rw c.new-body.ensures (record { bytes = refl; fit = tt; own = refl })

pub body_at-loop-body-preserved : goal.body_at-loop-body-preserved
body_at-loop-body-preserved t c =
    let n = c.args.imports in
    let f = c.in_ok-instr.ensures.found in
    let is = c.loop-body.body in
    rw c.in_ok-push.ensures.ok (record {
      bytes = c.loop-body.invariant.bytes ∙ ap (λ (r : List ℕ). codes (body_nodes n is) ++ r) f.spelled ∙ sym (append_assoc (codes (body_nodes n is)) (code (node n c.in_ok-instr.instr)) c.in_ok-instr.next.now) ∙ ap (λ (r : List ℕ). r ++ c.in_ok-instr.next.now) (sym (codes-push n is c.in_ok-instr.instr));
      fit = nodes-push n is c.in_ok-instr.instr c.loop-body.invariant.fit f.fits;
      own = instrs-push n is c.in_ok-instr.instr c.loop-body.invariant.own f.own;
    })

pub body_at-loop-body-smaller : goal.body_at-loop-body-smaller
body_at-loop-body-smaller t c = let s = code-longer (node c.args.imports c.in_ok-instr.instr) c.in_ok-instr.next.now in omega (arith, s, ap length c.in_ok-instr.ensures.found.spelled)

pub body_at-returns-in_err-byte-clause-only : goal.body_at-returns-in_err-byte-clause-only
body_at-returns-in_err-byte-clause-only t c is b rest end p e =
    let q = err_from_is_err_and c.from_residual.result c.from_residual.ensures.1 in
    let js = remaining (body_nodes c.args.imports c.loop-body.body) is c.loop-body.left.now b rest end c.loop-body.invariant.fit p (sym c.loop-body.invariant.bytes ∙ e) in
    let f = begins js.0 b rest in
    rw (q.1, q.2) (passes c.in_err-byte.field-0.0 _ _ (c.in_err-byte.ensures.only f.0 f.1 (js.2 ∙ f.2)))

pub body_at-returns-then-byte-eq5-clause-found : goal.body_at-returns-then-byte-eq5-clause-found
body_at-returns-then-byte-eq5-clause-found t c =
    let done = body_nodes c.args.imports c.loop-body.body in
    record {
      ends = is-end c.in_ok-byte.byte c.then-byte-eq5.either;
      fits = c.loop-body.invariant.fit;
      own = c.loop-body.invariant.own;
      spelled = c.loop-body.invariant.bytes ∙ ap (λ (t : List ℕ). codes done ++ t) c.in_ok-byte.ensures.found;
    }

pub body_at-returns-then-byte-eq5-clause-only : goal.body_at-returns-then-byte-eq5-clause-only
body_at-returns-then-byte-eq5-clause-only t c is b rest end p e =
    let done = body_nodes c.args.imports c.loop-body.body in
    codes-unique done is c.in_ok-byte.byte b c.in_ok-byte.after.now rest (is-end c.in_ok-byte.byte c.then-byte-eq5.either) end c.loop-body.invariant.fit p
    (sym (c.loop-body.invariant.bytes ∙ ap (λ (t : List ℕ). codes done ++ t) c.in_ok-byte.ensures.found) ∙ e)

pub body_at-returns-in_err-instr-clause-only : goal.body_at-returns-in_err-instr-clause-only
body_at-returns-in_err-instr-clause-only t c is b rest end p e =
    let q = err_from_is_err_and c.from_residual-in_err-instr.result c.from_residual-in_err-instr.ensures.1 in
    let js = remaining (body_nodes c.args.imports c.loop-body.body) is c.loop-body.left.now b rest end c.loop-body.invariant.fit p (sym c.loop-body.invariant.bytes ∙ e) in
    let j = next js.0 c.in_ok-byte.byte b c.in_ok-byte.after.now rest (no-end c.in_ok-byte.byte c.if-byte-eq5.false c.if-byte-eq11.false) end js.1 (sym c.in_ok-byte.ensures.found ∙ js.2) in
    rw (q.1, q.2) (passes c.in_err-instr.field-0.0 _ _ (c.in_err-instr.ensures.only j.0 j.1 j.2 (c.in_ok-byte.ensures.found ∙ j.3)))

-- ---- an instruction

pub instr_at-returns-in_err-op-clause-only : goal.instr_at-returns-in_err-op-clause-only
instr_at-returns-in_err-op-clause-only t c i rest p e =
    let q = err_from_is_err_and c.from_residual.result c.from_residual.ensures.1 in
    let f = first i in
    rw (q.1, q.2) (passes c.in_err-op.field-0.0 _ _ (c.in_err-op.ensures.only f.0 (f.1 ++ rest) (e ∙ ap (λ (r : List ℕ). r ++ rest) f.2)))

pub instr_at-returns-in-Unknown-clause-only : goal.instr_at-returns-in-Unknown-clause-only
instr_at-returns-in-Unknown-clause-only t c i rest p e = nothing i c.in_ok-op.op c.in_ok-op.rest.now rest c.in-Unknown.ensures p (sym c.in_ok-op.ensures.found ∙ e)

pub instr_at-returns-in-Plain-clause-found : goal.instr_at-returns-in-Plain-clause-found
instr_at-returns-in-Plain-clause-found t c =
    let f = c.in-Plain.ensures.1 c.args.imports in
    found_plain c.args.imports c.args.bytes.now c.in_ok-op.rest.now c.in_ok-op.op c.in-Plain.instr c.in_ok-op.ensures.found c.in-Plain.ensures.0 f.0 f.1

pub instr_at-returns-in-Plain-clause-only : goal.instr_at-returns-in-Plain-clause-only
instr_at-returns-in-Plain-clause-only t c = only c.args.imports c.args.bytes.now c.in_ok-op.rest.now c.in-Plain.instr (instr_at-returns-in-Plain-clause-found t c)

pub instr_at-returns-in_err-instr-in-Leaf-clause-only : goal.instr_at-returns-in_err-instr-in-Leaf-clause-only
instr_at-returns-in_err-instr-in-Leaf-clause-only t c i rest p e =
    let q = err_from_is_err_and c.from_residual-in_err-instr-in-Leaf.result c.from_residual-in_err-instr-in-Leaf.ensures.1 in
    let v = after_flat i c.in_ok-op.op c.args.bytes.now c.in_ok-op.rest.now rest _ c.in-Leaf.ensures.0 c.in_ok-op.ensures.found p e in
    rw (q.1, q.2) (passes c.in_err-instr-in-Leaf.field-0.0 _ _ (c.in_err-instr-in-Leaf.ensures.only v.0 rest v.2 v.3 v.4))

pub instr_at-returns-in_ok-instr-in-Leaf-clause-found : goal.instr_at-returns-in_ok-instr-in-Leaf-clause-found
instr_at-returns-in_ok-instr-in-Leaf-clause-found t c =
    found_leaf c.args.imports c.in-Leaf.row c.args.bytes.now c.in_ok-op.rest.now c.in_ok-instr-in-Leaf.rest.now c.in_ok-op.op c.in_ok-instr-in-Leaf.instr c.in_ok-op.ensures.found c.in-Leaf.ensures.0 c.in-Leaf.ensures.1 c.in_ok-instr-in-Leaf.ensures.found

pub instr_at-returns-in_ok-instr-in-Leaf-clause-only : goal.instr_at-returns-in_ok-instr-in-Leaf-clause-only
instr_at-returns-in_ok-instr-in-Leaf-clause-only t c = only c.args.imports c.args.bytes.now c.in_ok-instr-in-Leaf.rest.now c.in_ok-instr-in-Leaf.instr (instr_at-returns-in_ok-instr-in-Leaf-clause-found t c)

pub instr_at-returns-in-Body-clause-found : goal.instr_at-returns-in-Body-clause-found
instr_at-returns-in-Body-clause-found t c = rw (c.in_ok-op.ensures.found, ← c.in-Body.ensures.1) c.nest_at.ensures.found

pub instr_at-returns-in-Body-clause-only : goal.instr_at-returns-in-Body-clause-only
instr_at-returns-in-Body-clause-only t c i rest p e =
    c.nest_at.ensures.only i rest p (ap (λ (op : ℕ). op ∷ c.in_ok-op.rest.now) c.in-Body.ensures.1 ∙ sym c.in_ok-op.ensures.found ∙ e)

pub instr_at-returns-in-If-clause-found : goal.instr_at-returns-in-If-clause-found
instr_at-returns-in-If-clause-found t c = rw (c.in_ok-op.ensures.found, c.in-If.ensures.1) c.choice_at.ensures.found

pub instr_at-returns-in-If-clause-only : goal.instr_at-returns-in-If-clause-only
instr_at-returns-in-If-clause-only t c i rest p e =
    c.choice_at.ensures.only i rest p (ap (λ (op : ℕ). op ∷ c.in_ok-op.rest.now) (sym c.in-If.ensures.1) ∙ sym c.in_ok-op.ensures.found ∙ e)

-- ---- a row with one body

body-shape : (r : BodyRow) → shape (body_op r) ≡ Body (body_kinds r)
unfolding shape
body-shape nest.Block = refl
body-shape nest.Loop = refl
body-shape nest.TryTable = refl

pub nest_at-returns-in_err-ty-clause-only : goal.nest_at-returns-in_err-ty-clause-only
nest_at-returns-in_err-ty-clause-only t c i rest p e =
    let q = err_from_is_err_and c.from_residual.result c.from_residual.ensures.1 in
    let v = after_body i (body_op c.args.row) (body_op c.args.row ∷ c.args.bytes.now) c.args.bytes.now rest _ (body-shape c.args.row) refl p e in
    rw (q.1, q.2) (passes c.in_err-ty.field-0.0 _ _ (c.in_err-ty.ensures.only v.0 (codes v.1 ++ 0x0B ∷ rest) v.3 v.4 v.6))

pub nest_at-returns-in-Err-clause-only : goal.nest_at-returns-in-Err-clause-only
nest_at-returns-in-Err-clause-only t c i rest p e =
    let v = after_body i (body_op c.args.row) (body_op c.args.row ∷ c.args.bytes.now) c.args.bytes.now rest _ (body-shape c.args.row) refl p e in
    let u = c.in_ok-ty.ensures.only v.0 (codes v.1 ++ 0x0B ∷ rest) v.3 v.4 v.6 in
    passes c.in-Err.error _ _ (c.in-Err.ensures.only v.1 0x0B rest (inr refl) v.5 u.1)

pub nest_at-returns-then-end-ne11-clause-only : goal.nest_at-returns-then-end-ne11-clause-only
nest_at-returns-then-end-ne11-clause-only t c i rest p e =
    let v = after_body i (body_op c.args.row) (body_op c.args.row ∷ c.args.bytes.now) c.args.bytes.now rest _ (body-shape c.args.row) refl p e in
    let u = c.in_ok-ty.ensures.only v.0 (codes v.1 ++ 0x0B ∷ rest) v.3 v.4 v.6 in
    let w = c.in-Ok.ensures.only v.1 0x0B rest (inr refl) v.5 u.1 in
    c.if-end-ne11.true w.1

pub nest_at-returns-else-end-ne11-clause-found : goal.nest_at-returns-else-end-ne11-clause-found
nest_at-returns-else-end-ne11-clause-found t c =
    let n = c.args.imports in
    let xs = head_args c.args.row c.in_ok-ty.ty c.in_ok-ty.labels in
    let is = c.in-Ok.body in
    let h = c.in_ok-ty.ensures.found in
    let body = rw c.if-end-ne11.false at c.in-Ok.ensures.found in
    found_body n (body_op c.args.row ∷ c.args.bytes.now) c.args.bytes.now c.in_ok-ty.rest.now c.in-Ok.rest.now (body_op c.args.row) xs is c.body_instr.result refl
    ((body-shape c.args.row) ∙ ap Body (sym c.in_ok-ty.ensures.kinds)) h.0 h.1 body (c.body_instr.ensures.node n) (c.body_instr.ensures.own n c.in-Ok.ensures.found.own)

pub nest_at-returns-else-end-ne11-clause-only : goal.nest_at-returns-else-end-ne11-clause-only
nest_at-returns-else-end-ne11-clause-only t c = only c.args.imports (body_op c.args.row ∷ c.args.bytes.now) c.in-Ok.rest.now c.body_instr.result (nest_at-returns-else-end-ne11-clause-found t c)

-- ---- a choice

choice-shape : shape 0x04 ≡ Bodies (ATyp ∷ [])
unfolding shape
choice-shape = refl

pub choice_at-returns-in_err-ty-clause-only : goal.choice_at-returns-in_err-ty-clause-only
choice_at-returns-in_err-ty-clause-only t c i rest p e =
    let q = err_from_is_err_and c.from_residual.result c.from_residual.ensures.1 in
    let v = after_bodies i 0x04 (0x04 ∷ c.args.bytes.now) c.args.bytes.now rest choice-shape refl p e in
    rw (q.1, q.2) (passes c.in_err-ty.field-0.0 _ _ (c.in_err-ty.ensures.only v.0 (codes v.1 ++ (choice_end v.2 (codes v.2) ++ rest)) v.3 v.7))

pub choice_at-returns-in_err-body-clause-only : goal.choice_at-returns-in_err-body-clause-only
choice_at-returns-in_err-body-clause-only t c i rest p e =
    let q = err_from_is_err_and c.from_residual-in_err-body.result c.from_residual-in_err-body.ensures.1 in
    let v = after_bodies i 0x04 (0x04 ∷ c.args.bytes.now) c.args.bytes.now rest choice-shape refl p e in
    let u = c.in_ok-ty.ensures.only v.0 (codes v.1 ++ (choice_end v.2 (codes v.2) ++ rest)) v.3 v.7 in
    let b = choice_begins v.2 rest in
    rw (q.1, q.2) (passes c.in_err-body.field-0.0 _ _ (c.in_err-body.ensures.only v.1 b.0 b.1 b.2 v.4 (u.1 ∙ ap (λ (r : List ℕ). codes v.1 ++ r) b.3)))

pub choice_at-returns-then-end-eq11-clause-found : goal.choice_at-returns-then-end-eq11-clause-found
unfolding AreNodes
choice_at-returns-then-end-eq11-clause-found t c =
    let n = c.args.imports in
    let ty = c.in_ok-ty.ty in
    let is = c.in_ok-body.body in
    let b = c.in_ok-body.ensures.found in
    let y = c.in_ok-ty.ensures.found in
    let spelled = b.spelled ∙ ap (λ (e : ℕ). codes (body_nodes n is) ++ e ∷ c.in_ok-body.rest.now) c.if-end-eq11.true in
    found_choice n (0x04 ∷ c.args.bytes.now) c.args.bytes.now c.in_ok-ty.rest.now c.in_ok-body.rest.now 0x04 ty (body_nodes n is) Nil (If ty is None)
    refl choice-shape y.0 y.1 b.fits tt spelled (node-if n ty is) (own_if n 0x04 ty is b.own)

pub choice_at-returns-then-end-eq11-clause-only : goal.choice_at-returns-then-end-eq11-clause-only
choice_at-returns-then-end-eq11-clause-only t c =
    only c.args.imports (0x04 ∷ c.args.bytes.now) c.in_ok-body.rest.now (If c.in_ok-ty.ty c.in_ok-body.body None) (choice_at-returns-then-end-eq11-clause-found t c)

pub choice_at-returns-in-Err-clause-only : goal.choice_at-returns-in-Err-clause-only
choice_at-returns-in-Err-clause-only t c i rest p e =
    let v = after_bodies i 0x04 (0x04 ∷ c.args.bytes.now) c.args.bytes.now rest choice-shape refl p e in
    let u = c.in_ok-ty.ensures.only v.0 (codes v.1 ++ (choice_end v.2 (codes v.2) ++ rest)) v.3 v.7 in
    let b = choice_begins v.2 rest in
    let w = c.in_ok-body.ensures.only v.1 b.0 b.1 b.2 v.4 (u.1 ∙ ap (λ (r : List ℕ). codes v.1 ++ r) b.3) in
    let five = ends-one b.0 c.in_ok-body.end b.2 w.1 c.if-end-eq11.false in
    let o = other-body v.2 rest b.1 (b.3 ∙ ap (λ (x : ℕ). x ∷ b.1) five) in
    passes c.in-Err.error _ _ (c.in-Err.ensures.only v.2 0x0B rest (inr refl) v.5 (w.2 ∙ o.3))

pub choice_at-returns-then-len-eq0-clause-only : goal.choice_at-returns-then-len-eq0-clause-only
choice_at-returns-then-len-eq0-clause-only t c i rest p e =
    let v = after_bodies i 0x04 (0x04 ∷ c.args.bytes.now) c.args.bytes.now rest choice-shape refl p e in
    let u = c.in_ok-ty.ensures.only v.0 (codes v.1 ++ (choice_end v.2 (codes v.2) ++ rest)) v.3 v.7 in
    let b = choice_begins v.2 rest in
    let w = c.in_ok-body.ensures.only v.1 b.0 b.1 b.2 v.4 (u.1 ∙ ap (λ (r : List ℕ). codes v.1 ++ r) b.3) in
    let five = ends-one b.0 c.in_ok-body.end b.2 w.1 c.if-end-eq11.false in
    let o = other-body v.2 rest b.1 (b.3 ∙ ap (λ (x : ℕ). x ∷ b.1) five) in
    let z = c.in-Ok.ensures.only v.2 0x0B rest (inr refl) v.5 (w.2 ∙ o.3) in
    empty-body c.args.imports c.in-Ok.other o.0 o.1 (omega (arith, c.len.ensures)) (z.0 ∙ o.2)

pub choice_at-returns-then-last-ne11-clause-only : goal.choice_at-returns-then-last-ne11-clause-only
choice_at-returns-then-last-ne11-clause-only t c i rest p e =
    let v = after_bodies i 0x04 (0x04 ∷ c.args.bytes.now) c.args.bytes.now rest choice-shape refl p e in
    let u = c.in_ok-ty.ensures.only v.0 (codes v.1 ++ (choice_end v.2 (codes v.2) ++ rest)) v.3 v.7 in
    let b = choice_begins v.2 rest in
    let w = c.in_ok-body.ensures.only v.1 b.0 b.1 b.2 v.4 (u.1 ∙ ap (λ (r : List ℕ). codes v.1 ++ r) b.3) in
    let five = ends-one b.0 c.in_ok-body.end b.2 w.1 c.if-end-eq11.false in
    let o = other-body v.2 rest b.1 (b.3 ∙ ap (λ (x : ℕ). x ∷ b.1) five) in
    let z = c.in-Ok.ensures.only v.2 0x0B rest (inr refl) v.5 (w.2 ∙ o.3) in
    c.if-last-ne11.true z.1

pub choice_at-returns-else-last-ne11-clause-found : goal.choice_at-returns-else-last-ne11-clause-found
choice_at-returns-else-last-ne11-clause-found t c =
    let n = c.args.imports in
    let ty = c.in_ok-ty.ty in
    let is = c.in_ok-body.body in
    let js = c.in-Ok.other in
    let b = c.in_ok-body.ensures.found in
    let d = c.in-Ok.ensures.found in
    let y = c.in_ok-ty.ensures.found in
    let some : length js ≡ 0 → ⊥ = λ h. c.if-len-eq0.false (c.len.ensures ∙ h) in
    let spelled = b.spelled ∙ ap (λ (e : List ℕ). codes (body_nodes n is) ++ e) (choice-bytes n js c.in_ok-body.end c.in-Ok.last c.in_ok-body.rest.now c.in-Ok.rest.now some (end-five c.in_ok-body.end b.ends c.if-end-eq11.false) c.if-last-ne11.false d.spelled) in
    found_choice n (0x04 ∷ c.args.bytes.now) c.args.bytes.now c.in_ok-ty.rest.now c.in-Ok.rest.now 0x04 ty (body_nodes n is) (body_nodes n js) (If ty is (Some js))
    refl choice-shape y.0 y.1 b.fits d.fits spelled (node-else n ty is js) (own_choice n 0x04 ty is js b.own d.own some)

pub choice_at-returns-else-last-ne11-clause-only : goal.choice_at-returns-else-last-ne11-clause-only
choice_at-returns-else-last-ne11-clause-only t c =
    only c.args.imports (0x04 ∷ c.args.bytes.now) c.in-Ok.rest.now (If c.in_ok-ty.ty c.in_ok-body.body (Some c.in-Ok.other)) (choice_at-returns-else-last-ne11-clause-found t c)

-- ---- what is read next is no longer

shorter : (front rest bytes : List ℕ) → bytes ≡ front ++ rest → length rest ≤ length bytes
shorter front rest bytes e = omega (arith, length-append front rest, ap length e)

pub nest_at-body_at-requires : goal.nest_at-body_at-requires
nest_at-body_at-requires t c =
    let left : length c.in_ok-ty.rest.now ≤ length c.args.bytes.now = shorter (args (head_args c.args.row c.in_ok-ty.ty c.in_ok-ty.labels)) c.in_ok-ty.rest.now c.args.bytes.now c.in_ok-ty.ensures.found.1 in
    let small : 3 * length c.in_ok-ty.rest.now + 1 < 3 * length c.args.bytes.now + 2 = omega arith in
    search rules

pub choice_at-body_at-requires : goal.choice_at-body_at-requires
choice_at-body_at-requires t c =
    let left : length c.in_ok-ty.rest.now ≤ length c.args.bytes.now = shorter (block_type c.in_ok-ty.ty) c.in_ok-ty.rest.now c.args.bytes.now c.in_ok-ty.ensures.found.1 in
    let small : 3 * length c.in_ok-ty.rest.now + 1 < 3 * length c.args.bytes.now + 2 = omega arith in
    search rules

pub choice_at-body_at-requires-2 : goal.choice_at-body_at-requires-2
choice_at-body_at-requires-2 t c =
    let left : length c.in_ok-ty.rest.now ≤ length c.args.bytes.now = shorter (block_type c.in_ok-ty.ty) c.in_ok-ty.rest.now c.args.bytes.now c.in_ok-ty.ensures.found.1 in
    let ended : length (c.in_ok-body.end ∷ c.in_ok-body.rest.now) ≤ length c.in_ok-ty.rest.now = shorter (codes (body_nodes c.args.imports c.in_ok-body.body)) (c.in_ok-body.end ∷ c.in_ok-body.rest.now) c.in_ok-ty.rest.now c.in_ok-body.ensures.found.spelled in
    let small : 3 * length c.in_ok-body.rest.now + 1 < 3 * length c.args.bytes.now + 2 = omega arith in
    search rules

pub instr_at-nest_at-requires : goal.instr_at-nest_at-requires
instr_at-nest_at-requires t c =
    let left = ap length c.in_ok-op.ensures.found in
    let small : 3 * length c.in_ok-op.rest.now + 2 < 3 * length c.args.bytes.now = omega arith in
    search rules

pub instr_at-choice_at-requires : goal.instr_at-choice_at-requires
instr_at-choice_at-requires t c =
    let left = ap length c.in_ok-op.ensures.found in
    let small : 3 * length c.in_ok-op.rest.now + 2 < 3 * length c.args.bytes.now = omega arith in
    search rules

pub body_at-instr_at-requires : goal.body_at-instr_at-requires
body_at-instr_at-requires t c =
    let left : length c.loop-body.left.now ≤ length c.args.bytes.now = shorter (codes (body_nodes c.args.imports c.loop-body.body)) c.loop-body.left.now c.args.bytes.now c.loop-body.invariant.bytes in
    let small : 3 * length c.loop-body.left.now < 3 * length c.args.bytes.now + 1 = omega arith in
    search rules
