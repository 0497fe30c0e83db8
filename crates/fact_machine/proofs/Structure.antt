-- Blocks, branches and calls.
use Rattle.std.proofs.Common.{◌≡◌, ◌≢◌, ℕ, zero, suc, ◌+◌, ◌-◌, ◌≤◌, ◌<◌, ◌⊎◌, inl, inr, List, [], ◌∷◌, ◌++◌, Option, Some, None, refl, ap, ◌∙◌, arith, append-nil, Bool, true, false, ◌&&◌, length, reverse}
use Rattle.std.proofs.lemmas.Bool.{cases_lt}
use Rattle.std.proofs.lemmas.List.{reverse-reverse, length-reverse}
use Rattle.fact_wasm.specs.declared.types.ValType.{ValType}
use Rattle.fact_wasm.specs.declared.types.FuncType.{FuncType}
use Rattle.fact_wasm.specs.declared.instr.BlockType.{BlockType}
use Rattle.fact_wasm.specs.declared.instr.BlockType.TheVariants.{Empty}
use Rattle.fact_wasm.specs.declared.instr.FuncName.TheVariants.{Defined}
use Rattle.fact_wasm.specs.declared.instr.Instr.{Instr, out-Instr}
use Rattle.fact_wasm.specs.declared.instr.Instr.TheVariants as I
use Rattle.fact_wasm.specs.declared.module.WasmFunc.{WasmFunc}
use Rattle.fact_wasm.specs.declared.module.WasmModule.{WasmModule}
use Rattle.fact_machine.specs.declared.types.CoreValue.{CoreValue}
use Rattle.fact_machine.specs.declared.types.CoreValue.TheVariants.{I32}
use Rattle.fact_machine.specs.declared.types.End.TheVariants.{Going}
use Rattle.fact_machine.specs.World.{World}
use Rattle.fact_machine.specs.Machine.{Around, Label, Frame, At, Did, Goes, act, onto, grab, or_stuck, have_types, has_type, call_inside, enter, or_empty, throw, leaving, next_in}
use Rattle.fact_machine.specs.Trace.{Reached, reach, reached_after}
use Rattle.fact_machine.specs.Exits.{Exit, Falls, Branches, Throws, Halts, leads, Leaves, Enters, or_halts, block_exit, catch_exit, try_exit, IsOut, nest, Calls, entry_locals, results_exit, call_exit}
use Rattle.fact_machine.proofs.Laws.{same_next, reach_broken, leaves_whole, leaves_whole_going, leaves_as, leaves_early, leaves_steps}

-- ---- into code that stands in other code

-- the instruction enters the code of a body
pub record Within (M : WasmModule) (i : Instr) (w : World) (vs : List CoreValue) (ls : List (Option CoreValue)) (rest : List Instr) (k : Around) (top : List CoreValue) (inner : List (Option CoreValue)) (body : List Instr) (k' : Around) : Type 0 where
  pub enters : act M (out-Instr i) w vs ls rest k ≡ Goes (At w top inner body k')

module _ {M : WasmModule} {i : Instr} {w : World} {vs : List CoreValue} {ls : List (Option CoreValue)} {rest : List Instr} {k : Around} {top : List CoreValue} {inner : List (Option CoreValue)} {body : List Instr} {k' : Around} {t : ℕ} {x : Exit} where
  -- then it is left as the body is, one step later
  pub within : Within M i w vs ls rest k top inner body k' → Leaves M t body w top inner x → (j : ℕ) → reach M (suc t + j) (At w vs ls (i ∷ rest) k) ≡ reached_after (reach M j) (leads x [] k')
  within h p j =
      let e : suc t + j ≡ suc (t + j) = omega arith in
      ap (λ n. reach M n (At w vs ls (i ∷ rest) k)) e ∙ ap (reached_after (reach M (t + j))) h.enters ∙ leaves_whole p k' j

  -- and goes on until then
  pub within_going : Within M i w vs ls rest k top inner body k' → Leaves M t body w top inner x → (n : ℕ) → n < suc t → (reach M n (At w vs ls (i ∷ rest) k)).end ≡ Going
  within_going h p zero lt = refl
  within_going h p (suc n) lt = let less : n < t = omega arith in ap (λ d. (reached_after (reach M n) d).end) h.enters ∙ leaves_whole_going p k' n less

-- ---- blocks

halts_same : (w : World) (o : Option (List CoreValue × List CoreValue)) (below : List CoreValue) (ls : List (Option CoreValue)) (rest : List Instr) (k : Around)
    → or_stuck w o (λ p. Goes (At w (p.0 ++ below) ls rest k)) ≡ leads (or_halts w o (λ p. Falls w (p.0 ++ below) ls)) rest k
halts_same w None below ls rest k = refl
halts_same w (Some p) below ls rest k = refl

under_block : (M : WasmModule) (n : ℕ) (below : List CoreValue) (x : Exit) (rest : List Instr) (k : Around) (j : ℕ)
    → reached_after (reach M j) (leads x [] (Label n below rest rest [] k)) ≡ reached_after (reach M j) (leads (block_exit n below x) rest k)
under_block M n below (Falls w vs ls) rest k j = same_next M j _ _ refl
under_block M n below (Branches w zero vs ls) rest k j = ap (reached_after (reach M j)) (halts_same w (grab n vs) below ls rest k)
under_block M n below (Branches w (suc l) vs ls) rest k j = refl
under_block M n below (Throws w ls) rest k j = refl
under_block M n below (Halts e w) rest k j = refl

-- a block that takes and gives nothing
pub enters_empty : {M : WasmModule} {vs : List CoreValue} → Enters M Empty vs 0 0 [] vs
enters_empty = record { arity = refl; cut = refl }

enter_is : (M : WasmModule) (bt : BlockType) (w : World) (vs : List CoreValue) (m n : ℕ) (top below : List CoreValue) (go : ℕ → ℕ → List CoreValue → List CoreValue → Did)
    → Enters M bt vs m n top below → enter M.types bt w vs go ≡ go m n top below
enter_is M bt w vs m n top below go h =
    ap (λ o. or_stuck w o (λ a. or_stuck w (grab a.0 vs) (λ p. go a.0 a.1 p.0 p.1))) h.arity
    ∙ ap (λ o. or_stuck w o (λ p. go m n p.0 p.1)) h.cut

module _ {M : WasmModule} {bt : BlockType} {body : List Instr} {w : World} {vs : List CoreValue} {ls : List (Option CoreValue)} {m n : ℕ} {top below : List CoreValue} where
  in_block : Enters M bt vs m n top below → (rest : List Instr) (k : Around) → Within M (I.Block bt body) w vs ls rest k top ls body (Label n below rest rest [] k)
  in_block h rest k = record {
    enters =
        ap (λ o. act M o w vs ls rest k) (I.outs-Block bt body)
        ∙ enter_is M bt w vs m n top below (λ m n top below. Goes (At w top ls body (Label n below rest rest [] k))) h;
  }

  -- a block is left as its body is, with the stack below it
  pub leaves_block : {t : ℕ} {x : Exit} → Enters M bt vs m n top below → Leaves M t body w top ls x → Leaves M (suc t) (I.Block bt body ∷ []) w vs ls (block_exit n below x)
  leaves_block {x = x} h p =
      record {
        by = λ rest k j. within (in_block h rest k) p j ∙ under_block M n below x rest k j;
        going = λ rest k j lt. within_going (in_block h rest k) p j lt;
      }

  -- a branch to a block's label goes on behind the block, with as many values as the block gives
  pub leaves_block_target : {t : ℕ} {w' : World} {us : List CoreValue} {ls' : List (Option CoreValue)} {taken dropped : List CoreValue} → Enters M bt vs m n top below
      → Leaves M t body w top ls (Branches w' 0 us ls') → grab n us ≡ Some (taken, dropped) → Leaves M (suc t) (I.Block bt body ∷ []) w vs ls (Falls w' (taken ++ below) ls')
  leaves_block_target {w' = w'} {ls' = ls'} h p g = leaves_as (ap (λ o. or_halts w' o (λ p. Falls w' (p.0 ++ below) ls')) g) (leaves_block h p)

-- ---- conditions, loops, handlers

module _ (body : List Instr) (other : Option (List Instr)) {M : WasmModule} {bt : BlockType} {w : World} {vs : List CoreValue} {ls : List (Option CoreValue)} {m n : ℕ} {top below : List CoreValue} where
  in_if : (c : ℕ) → c ≢ 0 → Enters M bt vs m n top below → (rest : List Instr) (k : Around) → Within M (I.If bt body other) w (I32 c ∷ vs) ls rest k top ls body (Label n below rest rest [] k)
  in_if zero taken h rest k = absurd (taken refl)
  in_if (suc c) taken h rest k = record {
    enters =
        ap (λ o. act M o w (I32 (suc c) ∷ vs) ls rest k) (I.outs-If bt body other)
        ∙ enter_is M bt w vs m n top below (λ m n top below. Goes (At w top ls body (Label n below rest rest [] k))) h;
  }

  in_else : Enters M bt vs m n top below → (rest : List Instr) (k : Around) → Within M (I.If bt body other) w (I32 0 ∷ vs) ls rest k top ls (or_empty other) (Label n below rest rest [] k)
  in_else h rest k = record {
    enters =
        ap (λ o. act M o w (I32 0 ∷ vs) ls rest k) (I.outs-If bt body other)
        ∙ enter_is M bt w vs m n top below (λ m n top below. Goes (At w top ls (or_empty other) (Label n below rest rest [] k))) h;
  }

  -- an if whose condition is not 0 is left as a block of its first body
  pub leaves_if : (c : ℕ) {t : ℕ} {x : Exit} → c ≢ 0 → Enters M bt vs m n top below → Leaves M t body w top ls x → Leaves M (suc t) (I.If bt body other ∷ []) w (I32 c ∷ vs) ls (block_exit n below x)
  leaves_if c {x = x} taken h p =
      record {
        by = λ rest k j. within (in_if c taken h rest k) p j ∙ under_block M n below x rest k j;
        going = λ rest k j lt. within_going (in_if c taken h rest k) p j lt;
      }

  -- and one whose condition is 0 as a block of its second one
  pub leaves_else : {t : ℕ} {x : Exit} → Enters M bt vs m n top below → Leaves M t (or_empty other) w top ls x → Leaves M (suc t) (I.If bt body other ∷ []) w (I32 0 ∷ vs) ls (block_exit n below x)
  leaves_else {x = x} h p =
      record {
        by = λ rest k j. within (in_else h rest k) p j ∙ under_block M n below x rest k j;
        going = λ rest k j lt. within_going (in_else h rest k) p j lt;
      }

catch_same : (catches : List ℕ) (n : ℕ) (w : World) (below : List CoreValue) (ls : List (Option CoreValue)) (rest : List Instr) (k : Around)
    → throw w ls (Label n below rest rest catches k) ≡ leads (catch_exit catches w ls) rest k
catch_same [] n w below ls rest k = refl
catch_same (l ∷ more) n w below ls rest k = refl

under_try : (M : WasmModule) (n : ℕ) (catches : List ℕ) (below : List CoreValue) (x : Exit) (rest : List Instr) (k : Around) (j : ℕ)
    → reached_after (reach M j) (leads x [] (Label n below rest rest catches k)) ≡ reached_after (reach M j) (leads (try_exit n catches below x) rest k)
under_try M n catches below (Falls w vs ls) rest k j = same_next M j _ _ refl
under_try M n catches below (Branches w zero vs ls) rest k j = ap (reached_after (reach M j)) (halts_same w (grab n vs) below ls rest k)
under_try M n catches below (Branches w (suc l) vs ls) rest k j = refl
under_try M n catches below (Throws w ls) rest k j = ap (reached_after (reach M j)) (catch_same catches n w below ls rest k)
under_try M n catches below (Halts e w) rest k j = refl

module _ {M : WasmModule} {bt : BlockType} {body : List Instr} {w : World} {vs : List CoreValue} {ls : List (Option CoreValue)} {m n : ℕ} {top below : List CoreValue} where
  in_try : (catches : List ℕ) → Enters M bt vs m n top below → (rest : List Instr) (k : Around) → Within M (I.TryTable bt catches body) w vs ls rest k top ls body (Label n below rest rest catches k)
  in_try catches h rest k = record {
    enters =
        ap (λ o. act M o w vs ls rest k) (I.outs-TryTable bt catches body)
        ∙ enter_is M bt w vs m n top below (λ m n top below. Goes (At w top ls body (Label n below rest rest catches k))) h;
  }

  -- a block with handlers: a throw in it becomes a branch to its first handler's label, with nothing on the stack
  pub leaves_try : (catches : List ℕ) {t : ℕ} {x : Exit} → Enters M bt vs m n top below → Leaves M t body w top ls x
      → Leaves M (suc t) (I.TryTable bt catches body ∷ []) w vs ls (try_exit n catches below x)
  leaves_try catches {x = x} h p =
      record {
        by = λ rest k j. within (in_try catches h rest k) p j ∙ under_try M n catches below x rest k j;
        going = λ rest k j lt. within_going (in_try catches h rest k) p j lt;
      }

  in_loop : Enters M bt vs m n top below → (rest : List Instr) (k : Around) → Within M (I.Loop bt body) w vs ls rest k top ls body (Label m below (I.Loop bt body ∷ rest) rest [] k)
  in_loop h rest k = record {
    enters =
        ap (λ o. act M o w vs ls rest k) (I.outs-Loop bt body)
        ∙ enter_is M bt w vs m n top below (λ m n top below. Goes (At w top ls body (Label m below (I.Loop bt body ∷ rest) rest [] k))) h;
  }

under_loop : (M : WasmModule) (m n : ℕ) (below : List CoreValue) (x : Exit) (to rest : List Instr) (k : Around) (j : ℕ) → IsOut x
    → reached_after (reach M j) (leads x [] (Label m below to rest [] k)) ≡ reached_after (reach M j) (leads (block_exit n below x) rest k)
under_loop M m n below (Falls w vs ls) to rest k j out = same_next M j _ _ refl
under_loop M m n below (Branches w zero vs ls) to rest k j out = absurd out
under_loop M m n below (Branches w (suc l) vs ls) to rest k j out = refl
under_loop M m n below (Throws w ls) to rest k j out = refl
under_loop M m n below (Halts e w) to rest k j out = refl

module _ {M : WasmModule} {bt : BlockType} {body : List Instr} {w : World} {vs : List CoreValue} {ls : List (Option CoreValue)} {m n : ℕ} {top below : List CoreValue} where
  -- a loop whose body is left otherwise than by a branch to the loop is left so
  pub leaves_loop : {t : ℕ} {x : Exit} → Enters M bt vs m n top below → IsOut x → Leaves M t body w top ls x → Leaves M (suc t) (I.Loop bt body ∷ []) w vs ls (block_exit n below x)
  leaves_loop {x = x} h out p =
      record {
        by = λ rest k j. within (in_loop h rest k) p j ∙ under_loop M m n below x (I.Loop bt body ∷ rest) rest k j out;
        going = λ rest k j lt. within_going (in_loop h rest k) p j lt;
      }

  again_going : {t u : ℕ} {w' : World} {us taken dropped : List CoreValue} {ls' : List (Option CoreValue)} {x : Exit} → Enters M bt vs m n top below
      → Leaves M t body w top ls (Branches w' 0 us ls') → grab m us ≡ Some (taken, dropped) → Leaves M u (I.Loop bt body ∷ []) w' (taken ++ below) ls' x
      → (rest : List Instr) (k : Around) (j : ℕ) → j < suc t + u → (j < suc t) ⊎ (suc t ≤ j) → (reach M j (At w vs ls (I.Loop bt body ∷ rest) k)).end ≡ Going
  again_going h p g q rest k j lt (inl less) = within_going (in_loop h rest k) p j less
  again_going {t} {u} {w'} {ls' = ls'} h p g q rest k j lt (inr le) =
      let e : j ≡ suc t + (j - suc t) = omega arith in
      ap (λ i. (reach M i (At w vs ls (I.Loop bt body ∷ rest) k)).end) e
      ∙ ap (λ (r : Reached). r.end) (within (in_loop h rest k) p (j - suc t)
      ∙ ap (λ o. reached_after (reach M (j - suc t)) (or_stuck w' o (λ p. Goes (At w' (p.0 ++ below) ls' (I.Loop bt body ∷ rest) k)))) g)
      ∙ q.going rest k (j - suc t) (omega arith)

  -- a branch to the loop begins it again, with its parameters, and after these steps and those of the rest it is left as then
  pub leaves_loop_again : {t u : ℕ} {w' : World} {us taken dropped : List CoreValue} {ls' : List (Option CoreValue)} {x : Exit} → Enters M bt vs m n top below
      → Leaves M t body w top ls (Branches w' 0 us ls') → grab m us ≡ Some (taken, dropped) → Leaves M u (I.Loop bt body ∷ []) w' (taken ++ below) ls' x
      → Leaves M (suc t + u) (I.Loop bt body ∷ []) w vs ls x
  leaves_loop_again {t} {u} {w'} {us} {ls' = ls'} h p g q =
      record {
        by = λ rest k j.
            let e : suc t + u + j ≡ suc t + (u + j) = omega arith in
            ap (λ i. reach M i (At w vs ls (I.Loop bt body ∷ rest) k)) e
            ∙ within (in_loop h rest k) p (u + j)
            ∙ ap (λ o. reached_after (reach M (u + j)) (or_stuck w' o (λ p. Goes (At w' (p.0 ++ below) ls' (I.Loop bt body ∷ rest) k)))) g
            ∙ q.by rest k j;
        going = λ rest k j lt. again_going h p g q rest k j lt (cases_lt j (suc t));
      }

-- ---- nested blocks

-- a branch out of nested blocks leaves them all, and what stands behind each is not run
pub leaves_nest : (blocks : List (List Instr)) {M : WasmModule} {t : ℕ} {code : List Instr} {w w' : World} {l : ℕ} {us : List CoreValue} {ls ls' : List (Option CoreValue)}
    → Leaves M t code w [] ls (Branches w' (length blocks + l) us ls') → Leaves M (length blocks + t) (nest blocks code) w [] ls (Branches w' l us ls')
leaves_nest [] {w' = w'} {l} {us} {ls' = ls'} p =
    let e : 0 + l ≡ l = omega arith in
    leaves_as (ap (λ n. Branches w' n us ls') e) (leaves_steps (omega arith) p)
leaves_nest (behind ∷ more) {w' = w'} {l} {us} {ls' = ls'} p =
    let e : suc (length more) + l ≡ suc (length more + l) = omega arith in
    let q = leaves_block enters_empty (leaves_as (ap (λ n. Branches w' n us ls') e) p) in
    leaves_steps (omega arith) (leaves_nest more (leaves_early behind tt q))

-- a nest in a nest
pub nest_append : (a b : List (List Instr)) (code : List Instr) → nest (a ++ b) code ≡ nest b (nest a code)
nest_append [] b code = refl
nest_append (behind ∷ more) b code = nest_append more b (I.Block Empty code ∷ behind)

-- ---- operands

-- as many values as are wanted
pub grab_all : (us vs : List CoreValue) → grab (length us) (us ++ vs) ≡ Some (us, vs)
grab_all [] vs = refl
grab_all (a ∷ us) vs = ap (onto a) (grab_all us vs)

and_right : (a b : Bool) → (a && b) ≡ true → b ≡ true
and_right true b h = h
and_right false b h = cc

-- values that have types are as many
pub have_types_length : (vs : List CoreValue) (ts : List ValType) → have_types vs ts ≡ true → length vs ≡ length ts
have_types_length [] [] h = refl
have_types_length [] (t ∷ ts) h = cc
have_types_length (v ∷ vs) [] h = cc
have_types_length (v ∷ vs) (t ∷ ts) h = ap suc (have_types_length vs ts (and_right (has_type v t) (have_types vs ts) h))

-- the operands of a call, the last on top
pub grab_args : (args vs : List CoreValue) (ts : List ValType) → have_types args ts ≡ true → grab (length ts) (reverse args ++ vs) ≡ Some (reverse args, vs)
grab_args args vs ts h = rw (← have_types_length args ts h, ← length-reverse args) (grab_all (reverse args) vs)

-- ---- calls of the module's own functions

-- such a call goes on with the function's body
pub call_inside_is : (M : WasmModule) (f : ℕ) (w : World) (args vs : List CoreValue) (ls : List (Option CoreValue)) (rest : List Instr) (k : Around) (func : WasmFunc) (ty : FuncType)
    → Calls M f args func ty
    → call_inside M f w (reverse args ++ vs) ls rest k ≡ Goes (At w [] (entry_locals func args) func.body (Label (length ty.results) [] [] [] [] (Frame ty.results ls vs rest k)))
call_inside_is M f w args vs ls rest k func ty h =
    let cut : grab (length ty.params) (reverse args ++ vs) ≡ Some (reverse args, vs) = grab_args args vs ty.params h.typed in
    rw (h.func_is, h.type_is, cut, reverse-reverse args, h.typed) refl

frame_ends : (M : WasmModule) (j : ℕ) (w : World) (us : List CoreValue) (results : List ValType) (below : List CoreValue) (ls outer : List (Option CoreValue)) (rest : List Instr) (k : Around) (b : Bool)
    → have_types (reverse us) results ≡ b → reach M j (At w us ls [] (Frame results outer below rest k)) ≡ reached_after (reach M j) (leads (results_exit b w (Falls w (us ++ below) outer)) rest k)
frame_ends M j w us results below ls outer rest k true h = same_next M j _ _ (ap (λ b. leaving b w (next_in w (us ++ below) outer rest k)) h)
frame_ends M j w us results below ls outer rest k false h = reach_broken M j _ w (ap (λ b. leaving b w (next_in w (us ++ below) outer rest k)) h)

call_same : (M : WasmModule) (j : ℕ) (w : World) (o : Option (List CoreValue × List CoreValue)) (results : List ValType) (below : List CoreValue) (ls outer : List (Option CoreValue)) (rest : List Instr) (k : Around)
    → reached_after (reach M j) (or_stuck w o (λ p. Goes (At w (p.0 ++ []) ls [] (Frame results outer below rest k))))
    ≡ reached_after (reach M j) (leads (or_halts w o (λ p. results_exit (have_types (reverse p.0) results) w (Falls w (p.0 ++ below) outer))) rest k)
call_same M j w None results below ls outer rest k = refl
call_same M j w (Some p) results below ls outer rest k =
    ap (λ s. reach M j (At w s ls [] (Frame results outer below rest k))) (append-nil p.0) ∙ frame_ends M j w p.0 results below ls outer rest k _ refl

under_call : (M : WasmModule) (results : List ValType) (below : List CoreValue) (outer : List (Option CoreValue)) (x : Exit) (rest : List Instr) (k : Around) (j : ℕ)
    → reached_after (reach M j) (leads x [] (Label (length results) [] [] [] [] (Frame results outer below rest k))) ≡ reached_after (reach M j) (leads (call_exit results below outer x) rest k)
under_call M results below outer (Falls w vs ls) rest k j =
    same_next M j _ (At w vs ls [] (Frame results outer below rest k)) (ap (λ s. next_in w s ls [] (Frame results outer below rest k)) (append-nil vs))
    ∙ frame_ends M j w vs results below ls outer rest k _ refl
under_call M results below outer (Branches w zero vs ls) rest k j = call_same M j w (grab (length results) vs) results below ls outer rest k
under_call M results below outer (Branches w (suc l) vs ls) rest k j = refl
under_call M results below outer (Throws w ls) rest k j = refl
under_call M results below outer (Halts e w) rest k j = refl

module _ {M : WasmModule} {f : ℕ} {args : List CoreValue} {func : WasmFunc} {ty : FuncType} {w : World} {ls : List (Option CoreValue)} (vs : List CoreValue) where
  in_call : Calls M f args func ty → (rest : List Instr) (k : Around)
      → Within M (I.Call (Defined f)) w (reverse args ++ vs) ls rest k [] (entry_locals func args) func.body (Label (length ty.results) [] [] [] [] (Frame ty.results ls vs rest k))
  in_call h rest k = record { enters = ap (λ o. act M o w (reverse args ++ vs) ls rest k) (I.outs-Call (Defined f)) ∙ call_inside_is M f w args vs ls rest k func ty h }

  -- a call is left as the function's body is, with the caller's locals and the stack below the arguments
  pub leaves_call : {t : ℕ} {x : Exit} → Calls M f args func ty → Leaves M t func.body w [] (entry_locals func args) x
      → Leaves M (suc t) (I.Call (Defined f) ∷ []) w (reverse args ++ vs) ls (call_exit ty.results vs ls x)
  leaves_call {x = x} h p =
      record {
        by = λ rest k j. within (in_call h rest k) p j ∙ under_call M ty.results vs ls x rest k j;
        going = λ rest k j lt. within_going (in_call h rest k) p j lt;
      }
