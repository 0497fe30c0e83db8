-- What stands around the code of a running machine.
use Rattle.std.proofs.Common.{◌≡◌, List, [], ◌∷◌, ◌++◌, refl, sym, ap, ◌∙◌, Option, Some, None, ℕ, suc, Bool, true, false, length, reverse, Bor, arith}
use Rattle.std.proofs.lemmas.Bool.Decides.{nat_tests}
use Rattle.std.specs.Bool.{◌==◌}
use Rattle.fact_wasm.specs.declared.instr.Instr.{Instr}
use Rattle.fact_wasm.specs.declared.instr.BlockType.{BlockType}
use Rattle.fact_wasm.specs.declared.types.ValType.{ValType}
use Rattle.fact_wasm.specs.declared.types.FuncType.{FuncType}
use Rattle.fact_machine.specs.declared.types.CoreValue.{CoreValue}
use Rattle.fact_machine.specs.declared.types.End.TheVariants.{Stuck}
use Rattle.fact_interpreter.specs.declared.running.Entry.{Entry}
use Rattle.fact_interpreter.specs.declared.running.Entry.TheVariants as entry
use Rattle.fact_interpreter.specs.declared.running.Running.{Running}
use Rattle.fact_interpreter.specs.Cut.{IsCut}
use Rattle.fact_machine.specs.Machine.{Around, Bottom, Label, Breaks, leaving, have_types, next_in, next, Goes, Ends, At, branch, grab, or_stuck, block_arity, enter, Did}
use Rattle.fact_interpreter.specs.Running.{put, around_of, world_of, config_of, at, branching}
use Rattle.fact_interpreter.proofs.Cuts.{cut_is_none, cut_is_some}

-- the last entry is innermost
pub around_push : (es : List Entry) (e : Entry) (k : Around) → around_of (es ++ e ∷ []) k ≡ put e (around_of es k)
around_push [] e k = refl
around_push (d ∷ es) e k = around_push es e (put d k)

around_pop : (r : Running) (es : List Entry) (e d : Entry) → r.around ≡ es ++ e ∷ [] → e ≡ d → around_of r.around Bottom ≡ put d (around_of es Bottom)
around_pop r es e d ha he = ap (λ l. around_of l Bottom) ha ∙ around_push es e Bottom ∙ ap (λ x. put x (around_of es Bottom)) he

-- ---- ends of bodies

empty_of : {A : Type 0} → (xs : List A) → true ≡ (length xs == 0) → xs ≡ []
empty_of [] h = refl
empty_of (x ∷ xs) h = let e : suc (length xs) ≡ 0 = grind (arith, nat_tests, sym h) in absurd (omega arith)

next_around : (r : Running) (k : Around) → true ≡ (length r.code.now == 0) → around_of r.around Bottom ≡ k → next (config_of r) ≡ next_in (world_of r) r.stack r.locals [] k
next_around r k hc hk = ap (λ c. next_in (world_of r) r.stack r.locals c (around_of r.around Bottom)) (empty_of r.code.now hc) ∙ ap (λ x. next_in (world_of r) r.stack r.locals [] x) hk

pub left_label : (r : Running) (us below : List CoreValue) (es : List Entry) (e : Entry) (a : ℕ) (to rest : Bor (List Instr)) (cs : Bor (List ℕ))
    → true ≡ (length r.code.now == 0) → r.around ≡ es ++ e ∷ [] → e ≡ entry.Label a below to rest cs → us ≡ r.stack ++ below
    → next_in (world_of r) us r.locals rest.now (around_of es Bottom) ≡ next (config_of r)
left_label r us below es e a to rest cs hc ha he hu =
    ap (λ v. next_in (world_of r) v r.locals rest.now (around_of es Bottom)) hu ∙ sym (next_around r _ hc (around_pop r es e (entry.Label a below to rest cs) ha he))

-- the end of a call's body, which ended in these values
frame_end : (r : Running) (below vs : List CoreValue) (ls : List (Option CoreValue)) (es : List Entry) (e : Entry) (ts : Bor (List ValType)) (rest : Bor (List Instr)) (b : Bool)
    → true ≡ (length r.code.now == 0) → r.around ≡ es ++ e ∷ [] → e ≡ entry.Frame ts ls below rest → vs ≡ reverse r.stack → b ≡ have_types vs ts.now
    → next (config_of r) ≡ leaving b (world_of r) (next_in (world_of r) (r.stack ++ below) ls rest.now (around_of es Bottom))
frame_end r below vs ls es e ts rest b hc ha he hv hb =
    next_around r _ hc (around_pop r es e (entry.Frame ts ls below rest) ha he)
    ∙ ap (λ b. leaving b (world_of r) (next_in (world_of r) (r.stack ++ below) ls rest.now (around_of es Bottom))) (sym (hb ∙ ap (λ us. have_types us ts.now) hv))

pub left_frame : (r : Running) (us below vs : List CoreValue) (ls : List (Option CoreValue)) (es : List Entry) (e : Entry) (ts : Bor (List ValType)) (rest : Bor (List Instr))
    → true ≡ (length r.code.now == 0) → r.around ≡ es ++ e ∷ [] → e ≡ entry.Frame ts ls below rest → vs ≡ reverse r.stack → true ≡ have_types vs ts.now → us ≡ r.stack ++ below
    → next_in (world_of r) us ls rest.now (around_of es Bottom) ≡ next (config_of r)
left_frame r us below vs ls es e ts rest hc ha he hv hb hu =
    ap (λ v. next_in (world_of r) v ls rest.now (around_of es Bottom)) hu ∙ sym (frame_end r below vs ls es e ts rest true hc ha he hv hb)

pub broken_frame : (r : Running) (below vs : List CoreValue) (ls : List (Option CoreValue)) (es : List Entry) (e : Entry) (ts : Bor (List ValType)) (rest : Bor (List Instr))
    → true ≡ (length r.code.now == 0) → r.around ≡ es ++ e ∷ [] → e ≡ entry.Frame ts ls below rest → vs ≡ reverse r.stack → false ≡ have_types vs ts.now → Breaks (world_of r) ≡ next (config_of r)
broken_frame r below vs ls es e ts rest hc ha he hv hb = sym (frame_end r below vs ls es e ts rest false hc ha he hv hb)

-- ---- branches

branch_around : (r : Running) (k : Around) (l : ℕ) → around_of r.around Bottom ≡ k → at r (branching l) ≡ branch (world_of r) l r.stack r.locals k
branch_around r k l h = ap (λ x. branch (world_of r) l r.stack r.locals x) h

pub frame_branch : (r : Running) (es : List Entry) (e : Entry) (ts : Bor (List ValType)) (ls : List (Option CoreValue)) (below : List CoreValue) (rest : Bor (List Instr)) (l : ℕ)
    → r.around ≡ es ++ e ∷ [] → e ≡ entry.Frame ts ls below rest → Ends Stuck (world_of r) ≡ at r (branching l)
frame_branch r es e ts ls below rest l ha he = sym (branch_around r _ l (around_pop r es e (entry.Frame ts ls below rest) ha he))

pub label_out : (r : Running) (es : List Entry) (e : Entry) (a : ℕ) (below : List CoreValue) (to rest : Bor (List Instr)) (cs : Bor (List ℕ)) (m l : ℕ)
    → r.around ≡ es ++ e ∷ [] → e ≡ entry.Label a below to rest cs → l ≡ suc m → branch (world_of r) m r.stack r.locals (around_of es Bottom) ≡ at r (branching l)
label_out r es e a below to rest cs m l ha he hl =
    sym (ap (λ n. at r (branching n)) hl ∙ branch_around r _ (suc m) (around_pop r es e (entry.Label a below to rest cs) ha he))

pub here_none : (r : Running) (es : List Entry) (e : Entry) (a : ℕ) (below : List CoreValue) (to rest : Bor (List Instr)) (cs : Bor (List ℕ)) (top : Option (List CoreValue)) (s : List CoreValue)
    → r.around ≡ es ++ e ∷ [] → e ≡ entry.Label a below to rest cs → IsCut (grab a r.stack) top s → top ≡ None → Ends Stuck (world_of r) ≡ at r (branching 0)
here_none r es e a below to rest cs top s ha he hc ht =
    sym (branch_around r _ 0 (around_pop r es e (entry.Label a below to rest cs) ha he)
    ∙ ap (λ o. or_stuck (world_of r) o (λ p. Goes (At (world_of r) (p.0 ++ below) r.locals to.now (around_of es Bottom)))) (cut_is_none _ _ _ hc ht))

pub here_some : (r : Running) (es : List Entry) (e : Entry) (a : ℕ) (below us t : List CoreValue) (to rest : Bor (List Instr)) (cs : Bor (List ℕ)) (top : Option (List CoreValue)) (s : List CoreValue)
    → r.around ≡ es ++ e ∷ [] → e ≡ entry.Label a below to rest cs → IsCut (grab a r.stack) top s → top ≡ Some t → us ≡ t ++ below → Goes (At (world_of r) us r.locals to.now (around_of es Bottom)) ≡ at r (branching 0)
here_some r es e a below us t to rest cs top s ha he hc ht hu =
    ap (λ v. Goes (At (world_of r) v r.locals to.now (around_of es Bottom))) hu
    ∙ sym (branch_around r _ 0 (around_pop r es e (entry.Label a below to rest cs) ha he)
    ∙ ap (λ o. or_stuck (world_of r) o (λ p. Goes (At (world_of r) (p.0 ++ below) r.locals to.now (around_of es Bottom)))) (cut_is_some _ _ _ _ hc ht))

-- ---- blocks

-- A label is entered: `pick` says whether a branch to it takes the parameters or the results.
pub entered_label : (pick : ℕ → ℕ → ℕ) (r : Running) (types : List FuncType) (bt : BlockType) (o : Option (ℕ × ℕ)) (m n : ℕ) (cut : Option (List CoreValue)) (left top us below : List CoreValue) (after : List Entry) (to rest body : Bor (List Instr)) (cs : Bor (List ℕ))
    → o ≡ block_arity types bt → o ≡ Some (m, n) → IsCut (grab m r.stack) cut left → cut ≡ Some top → us ≡ top → below ≡ left → after ≡ r.around ++ entry.Label (pick m n) below to rest cs ∷ []
    → Goes (At (world_of r) us r.locals body.now (around_of after Bottom)) ≡ enter types bt (world_of r) r.stack (λ m n t b. Goes (At (world_of r) t r.locals body.now (Label (pick m n) b to.now rest.now cs.now (around_of r.around Bottom))))
entered_label pick r types bt o m n cut left top us below after to rest body cs ho hs hc ht hu hb hp =
    let go : ℕ → ℕ → List CoreValue → List CoreValue → Did = λ m n t b. Goes (At (world_of r) t r.locals body.now (Label (pick m n) b to.now rest.now cs.now (around_of r.around Bottom))) in
    let k : around_of after Bottom ≡ Label (pick m n) left to.now rest.now cs.now (around_of r.around Bottom)
    = ap (λ l. around_of l Bottom) hp ∙ around_push r.around (entry.Label (pick m n) below to rest cs) Bottom ∙ ap (λ b. Label (pick m n) b to.now rest.now cs.now (around_of r.around Bottom)) hb in
    ap (λ s. Goes (At (world_of r) s r.locals body.now (around_of after Bottom))) hu ∙ ap (λ q. Goes (At (world_of r) top r.locals body.now q)) k
    ∙ sym (ap (λ q. or_stuck (world_of r) q (λ a. or_stuck (world_of r) (grab a.0 r.stack) (λ p. go a.0 a.1 p.0 p.1))) (sym ho ∙ hs)
    ∙ ap (λ q. or_stuck (world_of r) q (λ p. go m n p.0 p.1)) (cut_is_some _ _ _ _ hc ht))
