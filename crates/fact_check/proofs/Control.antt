-- Blocks, branches, references and calls, in a typed machine.
use Rattle.std.proofs.Common.{◌≡◌, ◌≤◌, ℕ, zero, suc, Bool, true, false, ◌&&◌, List, [], ◌∷◌, ◌++◌, Option, Some, None, refl, sym, ap, ◌∙◌, subst, length, map, reverse, slice_get, append-nil}
use Rattle.std.specs.Prelude.{is_some, nat_eq, option_and_then, option_map}
use Rattle.std.specs.List.{AllZip, list_all}
use Rattle.std.proofs.lemmas.List.{reverse-reverse, length-reverse}
use Rattle.std.proofs.lemmas.List.Elements.{All-pop, All-same}
use Rattle.std.proofs.lemmas.Bool.{false≢true}
use Rattle.fact_wasm.specs.declared.types.ValType.{ValType}
use Rattle.fact_wasm.specs.declared.types.ValType.TheVariants as val
use Rattle.fact_wasm.specs.declared.types.FuncType.{FuncType}
use Rattle.fact_wasm.specs.declared.instr.BlockType.{BlockType}
use Rattle.fact_wasm.specs.declared.instr.BlockType.TheVariants.{Empty, Result, FunctionType}
use Rattle.fact_wasm.specs.declared.instr.FuncName.{FuncName}
use Rattle.fact_wasm.specs.declared.instr.FuncName.TheVariants as func
use Rattle.fact_wasm.specs.declared.instr.Instr.{Instr, map-Instr}
use Rattle.fact_wasm.specs.declared.instr.Instr.TheVariants as whole
use Rattle.fact_wasm.specs.declared.instr.Instr.TheOpen as o
use Rattle.fact_wasm.specs.declared.module.WasmFunc.{WasmFunc}
use Rattle.fact_wasm.specs.declared.module.WasmModule.{WasmModule}
use Rattle.fact_machine.specs.declared.types.CoreValue.{CoreValue}
use Rattle.fact_machine.specs.declared.types.CoreValue.TheVariants as value
use Rattle.fact_machine.specs.declared.types.Answer.{Answer}
use Rattle.fact_machine.specs.declared.types.Answer.TheVariants.{Returns, Traps, Throws}
use Rattle.fact_machine.specs.declared.types.Event.{Event}
use Rattle.fact_machine.specs.declared.types.TraceEntry.TheVariants.{Called}
use Rattle.fact_machine.specs.World.{World, calls, asked}
use Rattle.fact_machine.specs.Machine.{Around, Label, Frame, At, Did, Goes, or_stuck, check, on_res, have_types, some_of, locals_of, grab, func_import, block_arity, enter, block, loop, try_table, branch, call, call_inside, call_import, call_outside, ref_func, label_at}
use Rattle.fact_machine.specs.Typed.{IsValue, TypedState, TypedAnswer, AreResults, type_of_import}
use Rattle.fact_machine.specs.Typing.{Operands, Known, Typing, only_if, pop_all, change, jump, ends, types_of_block, function_type, is_exported, is_body, in_block, is_target, is_catch, code_typing, typing, typing_row, local_types, declares_numbers, is_typed_body, is_typed_function}
use Rattle.fact_machine.proofs.Tests.{first_of, second_of, both}
use Rattle.fact_machine.proofs.TypingRows.{typing_is}
use Rattle.fact_machine.proofs.Traces.{calls-append}
use Rattle.fact_check.specs.Soundness.{HasTypedAnswers}
use Rattle.fact_check.proofs.Known.{GoesOn, pops, changes, jumps, found, allowed, ends_with, Cut, cuts, reversed, joined}
use Rattle.fact_check.proofs.Invariant.{context, Behind, InLabel, InFrame, IsAround, Stands, LeadsOn}
use Rattle.fact_check.proofs.States.{arguments, declared, typed_has}
use Rattle.fact_check.proofs.Branches.{branches, throws}

-- ---- block types

-- the numbers of a block's parameters and results are those of its types
arities : (types : List FuncType) (bt : BlockType) → block_arity types bt ≡ option_map (λ (t : List ValType × List ValType). (length t.0, length t.1)) (types_of_block types bt)
arities types Empty = refl
arities types (Result t) = refl
arities types (FunctionType n) = by_type (slice_get types n)
  where
    by_type : (x : Option FuncType) → elim x as (λ (x : Option FuncType). Option (ℕ × ℕ)) [ None ↦ None | Some t ↦ Some (length t.params, length t.results) ]
        ≡ option_map (λ (t : List ValType × List ValType). (length t.0, length t.1)) (option_map (λ (t : FuncType). (t.params, t.results)) x)
    by_type None = refl
    by_type (Some t) = refl

-- ---- functions

-- a function that is there is typed
pub function_at : (M : WasmModule) (fs : List WasmFunc) (n : ℕ) (f : WasmFunc) → list_all (is_typed_function M) fs ≡ true → slice_get fs n ≡ Some f → is_typed_function M f ≡ true
function_at M [] n f h e = cc
function_at M (g ∷ fs) zero f h e = let same : g ≡ f = cc in subst (λ x. is_typed_function M x ≡ true) same (first_of (is_typed_function M g) (list_all (is_typed_function M) fs) h)
function_at M (g ∷ fs) (suc n) f h e = function_at M fs n f (second_of (is_typed_function M g) (list_all (is_typed_function M) fs) h) e

-- its body is typed by its type
pub body_at : (M : WasmModule) (f : WasmFunc) (t : FuncType) → is_typed_function M f ≡ true → slice_get M.types f.ty ≡ Some t → is_typed_body M f t ≡ true
body_at M f t h e =
    let x = second_of (list_all declares_numbers f.locals) (elim (slice_get M.types f.ty) as (λ (x : Option FuncType). Bool) [ None ↦ false | Some t ↦ is_typed_body M f t ]) h in
    subst (λ (x : Option FuncType). elim x as (λ (x : Option FuncType). Bool) [ None ↦ false | Some t ↦ is_typed_body M f t ] ≡ true) e x

pub locals_at : (M : WasmModule) (f : WasmFunc) → is_typed_function M f ≡ true → list_all declares_numbers f.locals ≡ true
locals_at M f h = first_of (list_all declares_numbers f.locals) (elim (slice_get M.types f.ty) as (λ (x : Option FuncType). Bool) [ None ↦ false | Some t ↦ is_typed_body M f t ]) h

-- results of an import's type, and a state that is typed
answered_types : (vs : List CoreValue) (ts : List ValType) → AllZip (λ v t. IsValue v t) vs ts → have_types vs ts ≡ true
answered_types [] [] h = refl
answered_types [] (t ∷ ts) h = absurd h
answered_types (v ∷ vs) [] h = absurd h
answered_types (v ∷ vs) (t ∷ ts) h = both h.0.0 (answered_types vs ts h.1)

-- the last answer in a log
last_answer : (M : WasmModule) (w : World) (e : Event) → HasTypedAnswers M (calls (w.trace ++ Called e ∷ [])) → TypedAnswer M e.func e.before e.answer
last_answer M w e h =
    let P : Event → Type 0 = λ e. TypedAnswer M e.func e.before e.answer in
    (All-pop P (calls w.trace ++ e ∷ []) (calls w.trace) (Some e) refl (All-same P (calls w.trace ++ e ∷ []) (calls (w.trace ++ Called e ∷ [])) (sym (calls-append w.trace (Called e ∷ []))) h)).1

module _ (M : WasmModule) (valid : list_all (is_typed_function M) M.funcs ≡ true) (w : World) (ls : List (Option CoreValue)) (rest : List Instr) (k : Around) (locals : List ValType) (labels : List (List ValType)) (gives : List ValType) (s : Stands M w ls k locals labels gives) where
  abbrev pub go : Operands → Option Operands
  go z = code_typing (context M locals labels) rest z

  abbrev OnFrom : List ValType → Type 0
  OnFrom us = ends gives (go (Known us)) ≡ true

  there : {A : Type 0} (o : Option A) (a : A) (f : A → Did) → o ≡ Some a → LeadsOn M (f a) → LeadsOn M (or_stuck w o f)
  there o a f e h = subst (λ x. LeadsOn M (or_stuck w x f)) (sym e) h

  goes : (vs : List CoreValue) (us : List ValType) → have_types vs us ≡ true → OnFrom us → LeadsOn M (Goes (At w vs ls rest k))
  goes vs us h e typed = record { locals = locals; labels = labels; gives = gives; operands = us; stands = s; values = h; behind = e }

  -- ---- blocks

  -- what a block takes, with what is left below, and what goes on behind it
  record Enters (bt : BlockType) (us : List ValType) (are : List ValType → List ValType → Bool) : Type 0 where
    params : List ValType
    results : List ValType
    left : List ValType
    types : types_of_block M.types bt ≡ Some (params, results)
    bodies : are params results ≡ true
    operands : us ≡ reverse params ++ left
    on : OnFrom (reverse results ++ left)

  entered : (bt : BlockType) (us : List ValType) (are : List ValType → List ValType → Bool) → GoesOn gives go (in_block (context M locals labels) bt are (Known us)) → Enters bt us are
  entered bt us are e =
      let f = found gives go (λ (t : List ValType × List ValType). only_if (are t.0 t.1) (change (reverse t.0) (reverse t.1) (Known us))) (types_of_block M.types bt) e in
      let a = allowed gives go (are f.0.0 f.0.1) (change (reverse f.0.0) (reverse f.0.1) (Known us)) f.2 in
      let r = changes gives (reverse f.0.0) (reverse f.0.1) us go a.1 in
      record { params = f.0.0; results = f.0.1; left = r.0; types = f.1; bodies = a.0; operands = r.1; on = r.2 }

  -- where bodies are typed, some of them are
  pub weaker : (bt : BlockType) (us : List ValType) (are some : List ValType → List ValType → Bool) → ((params results : List ValType) → are params results ≡ true → some params results ≡ true)
      → GoesOn gives go (in_block (context M locals labels) bt are (Known us)) → GoesOn gives go (in_block (context M locals labels) bt some (Known us))
  weaker bt us are some each e =
      let f = found gives go (λ (t : List ValType × List ValType). only_if (are t.0 t.1) (change (reverse t.0) (reverse t.1) (Known us))) (types_of_block M.types bt) e in
      let a = allowed gives go (are f.0.0 f.0.1) (change (reverse f.0.0) (reverse f.0.1) (Known us)) f.2 in
      subst (λ x. GoesOn gives go (option_and_then (λ (t : List ValType × List ValType). only_if (some t.0 t.1) (change (reverse t.0) (reverse t.1) (Known us))) x)) (sym f.1)
      (subst (λ b. GoesOn gives go (only_if b (change (reverse f.0.0) (reverse f.0.1) (Known us)))) (sym (each f.0.0 f.0.1 a.0)) a.1)

  -- the code of a block begins with the block's parameters
  begins : (bt : BlockType) (params results left : List ValType) (vs : List CoreValue) (f : ℕ → ℕ → List CoreValue → List CoreValue → Did) → types_of_block M.types bt ≡ Some (params, results) → have_types vs (reverse params ++ left) ≡ true
      → ((top below : List CoreValue) → have_types top (reverse params) ≡ true → have_types below left ≡ true → LeadsOn M (f (length params) (length results) top below)) → LeadsOn M (enter M.types bt w vs f)
  begins bt params results left vs f e h each =
      let c : Cut vs (reverse params) left = cuts vs (reverse params) left h in
      let many : block_arity M.types bt ≡ Some (length params, length results) = arities M.types bt ∙ ap (option_map (λ (t : List ValType × List ValType). (length t.0, length t.1))) e in
      there (block_arity M.types bt) (length params, length results) (λ a. or_stuck w (grab a.0 vs) (λ p. f a.0 a.1 p.0 p.1)) many
      (there (grab (length params) vs) (c.top, c.below) (λ p. f (length params) (length results) p.0 p.1) (ap (λ n. grab n vs) (sym (length-reverse params)) ∙ c.cut) (each c.top c.below c.tops c.belows))

  -- code in a label, whose end goes on behind the block
  inside : (takes params results left : List ValType) (arity : ℕ) (body to : List Instr) (catches : List ℕ) (top below : List CoreValue)
      → length takes ≡ arity → have_types top (reverse params) ≡ true → have_types below left ≡ true → Behind M locals (takes ∷ labels) body (reverse params) results → OnFrom (reverse results ++ left)
      → Behind M locals labels to (reverse takes ++ left) gives → list_all (is_catch (context M locals labels)) catches ≡ true → LeadsOn M (Goes (At w top ls body (Label arity below to rest catches k)))
  inside takes params results left arity body to catches top below many h h' typed_body on branch caught typed =
      let around : InLabel M locals takes labels results arity below to rest catches (λ outer. IsAround M k locals labels outer) =
      record { many = many; outer_gives = gives; below_types = left; below_typed = h'; at_branch = branch; at_end = on; caught = caught; outer = s.around } in
      record { locals = locals; labels = takes ∷ labels; gives = results; operands = reverse params; stands = record { state = s.state; holds = s.holds; around = around }; values = h; behind = typed_body }

  pub blocks : (bt : BlockType) (body : List Instr) (vs : List CoreValue) (us : List ValType) → have_types vs us ≡ true
      → GoesOn gives go (in_block (context M locals labels) bt (λ params results. is_body (context M locals labels) results params results (map typing body)) (Known us)) → LeadsOn M (block M bt body w vs ls rest k)
  blocks bt body vs us h e =
      let b = entered bt us (λ params results. is_body (context M locals labels) results params results (map typing body)) e in
      begins bt b.params b.results b.left vs (λ m n top below. Goes (At w top ls body (Label n below rest rest [] k))) b.types (subst (λ l. have_types vs l ≡ true) b.operands h) (λ top below p q.
      inside b.results b.params b.results b.left (length b.results) body rest [] top below refl p q b.bodies b.on b.on refl)

  -- a handler's labels are outside of its block
  pub tries : (bt : BlockType) (catches : List ℕ) (body : List Instr) (vs : List CoreValue) (us : List ValType) → have_types vs us ≡ true
      → GoesOn gives go (in_block (context M locals labels) bt (λ params results. list_all (is_catch (context M locals labels)) catches && is_body (context M locals labels) results params results (map typing body)) (Known us))
      → LeadsOn M (try_table M bt catches body w vs ls rest k)
  tries bt catches body vs us h e =
      let b = entered bt us (λ params results. list_all (is_catch (context M locals labels)) catches && is_body (context M locals labels) results params results (map typing body)) e in
      let caught = first_of (list_all (is_catch (context M locals labels)) catches) (is_body (context M locals labels) b.results b.params b.results (map typing body)) b.bodies in
      let typed = second_of (list_all (is_catch (context M locals labels)) catches) (is_body (context M locals labels) b.results b.params b.results (map typing body)) b.bodies in
      begins bt b.params b.results b.left vs (λ m n top below. Goes (At w top ls body (Label n below rest rest catches k))) b.types (subst (λ l. have_types vs l ≡ true) b.operands h) (λ top below p q.
      inside b.results b.params b.results b.left (length b.results) body rest catches top below refl p q typed b.on b.on caught)

  -- a branch to a loop's label begins it again
  pub loops : (bt : BlockType) (body : List Instr) (vs : List CoreValue) (us : List ValType) → have_types vs us ≡ true
      → GoesOn gives go (typing_row (map-Instr Instr Typing typing (o.Loop bt body)) (context M locals labels) (Known us)) → LeadsOn M (loop M bt body w vs ls rest k)
  loops bt body vs us h e =
      let b = entered bt us (λ params results. is_body (context M locals labels) params params results (map typing body)) e in
      let row : typing (whole.Loop bt body) ≡ typing_row (map-Instr Instr Typing typing (o.Loop bt body)) = typing_is (whole.Loop bt body) ∙ ap (λ i. typing_row (map-Instr Instr Typing typing i)) (whole.outs-Loop bt body) in
      let again : Behind M locals labels (whole.Loop bt body ∷ rest) us gives = subst (λ (x : Typing). GoesOn gives go (x (context M locals labels) (Known us))) (sym row) e in
      begins bt b.params b.results b.left vs (λ m n top below. Goes (At w top ls body (Label m below (whole.Loop bt body ∷ rest) rest [] k))) b.types (subst (λ l. have_types vs l ≡ true) b.operands h) (λ top below p q.
      inside b.params b.params b.results b.left (length b.params) body (whole.Loop bt body ∷ rest) [] top below refl p q b.bodies b.on (subst (λ l. Behind M locals labels (whole.Loop bt body ∷ rest) l gives) b.operands again) refl)

  -- ---- branches

  pub jumps_to : (l : ℕ) (vs : List CoreValue) (us : List ValType) → have_types vs us ≡ true → GoesOn gives go (option_and_then (λ ts. jump (reverse ts) (Known us)) (slice_get labels l)) → LeadsOn M (branch w l vs ls k)
  jumps_to l vs us h e =
      let f = found gives go (λ ts. jump (reverse ts) (Known us)) (slice_get labels l) e in
      let r = jumps gives (reverse f.0) us go f.2 in
      branches M l k w vs ls locals labels gives f.0 r.0 s f.1 (subst (λ x. have_types vs x ≡ true) r.1 h)

  -- where it is not taken, the operands stay
  pub may_jump : (l : ℕ) (vs : List CoreValue) (ts us : List ValType) → slice_get labels l ≡ Some ts → have_types vs us ≡ true → GoesOn gives go (change (reverse ts) (reverse ts) (Known us)) → LeadsOn M (branch w l vs ls k) × LeadsOn M (Goes (At w vs ls rest k))
  may_jump l vs ts us at h e =
      let r = changes gives (reverse ts) (reverse ts) us go e in
      let h' : have_types vs (reverse ts ++ r.0) ≡ true = subst (λ x. have_types vs x ≡ true) r.1 h in
      (branches M l k w vs ls locals labels gives ts r.0 s at h', goes vs (reverse ts ++ r.0) h' r.2)

  -- a label of a table
  targets : (l arity : ℕ) (vs : List CoreValue) (us : List ValType) → have_types vs us ≡ true → is_target (context M locals labels) arity (Known us) l ≡ true → LeadsOn M (branch w l vs ls k)
  targets l arity vs us h e = by_label (slice_get labels l) refl e
    where
      by_operands : (ts : List ValType) (x : Option Operands) → slice_get labels l ≡ Some ts → pop_all (reverse ts) (Known us) ≡ x → is_some x ≡ true → LeadsOn M (branch w l vs ls k)
      by_operands ts None at p q = absurd (false≢true q)
      by_operands ts (Some z) at p q = let r = pops (reverse ts) us z p in branches M l k w vs ls locals labels gives ts r.0 s at (subst (λ x. have_types vs x ≡ true) r.1 h)

      by_label : (x : Option (List ValType)) → slice_get labels l ≡ x → elim x as (λ (x : Option (List ValType)). Bool) [ None ↦ false | Some ts ↦ nat_eq (length ts) arity && is_some (pop_all (reverse ts) (Known us)) ] ≡ true → LeadsOn M (branch w l vs ls k)
      by_label None at p = absurd (false≢true p)
      by_label (Some ts) at p = by_operands ts (pop_all (reverse ts) (Known us)) at refl (second_of (nat_eq (length ts) arity) (is_some (pop_all (reverse ts) (Known us))) p)

  -- the label at a place of a table, or the last one
  from_table : (table : List ℕ) (last i arity : ℕ) (vs : List CoreValue) (us : List ValType) → have_types vs us ≡ true → list_all (is_target (context M locals labels) arity (Known us)) table ≡ true → LeadsOn M (branch w last vs ls k) → LeadsOn M (branch w (label_at table last i) vs ls k)
  from_table [] last i arity vs us h e d = d
  from_table (l ∷ table) last zero arity vs us h e d = targets l arity vs us h (first_of (is_target (context M locals labels) arity (Known us) l) (list_all (is_target (context M locals labels) arity (Known us)) table) e)
  from_table (l ∷ table) last (suc i) arity vs us h e d = from_table table last i arity vs us h (second_of (is_target (context M locals labels) arity (Known us) l) (list_all (is_target (context M locals labels) arity (Known us)) table) e) d

  pub by_table : (table : List ℕ) (last i : ℕ) (vs : List CoreValue) (ts us : List ValType) → slice_get labels last ≡ Some ts → have_types vs us ≡ true
      → GoesOn gives go (only_if (list_all (is_target (context M locals labels) (length ts) (Known us)) table) (jump (reverse ts) (Known us))) → LeadsOn M (branch w (label_at table last i) vs ls k)
  by_table table last i vs ts us at h e =
      let a = allowed gives go (list_all (is_target (context M locals labels) (length ts) (Known us)) table) (jump (reverse ts) (Known us)) e in
      let r = jumps gives (reverse ts) us go a.1 in
      from_table table last i (length ts) vs us h a.0 (branches M last k w vs ls locals labels gives ts r.0 s at (subst (λ x. have_types vs x ≡ true) r.1 h))

  -- ---- calls

  passes : (b : Bool) (d : Did) → b ≡ true → LeadsOn M d → LeadsOn M (check w b d)
  passes b d e h = subst (λ x. LeadsOn M (check w x d)) (sym e) h

  -- arguments that are taken off the operands, in their order
  fitting : (top : List CoreValue) (params : List ValType) → have_types top (reverse params) ≡ true → have_types (reverse top) params ≡ true
  fitting top params h = subst (λ x. have_types (reverse top) x ≡ true) (reverse-reverse params) (reversed top (reverse params) h)

  -- a body that begins, with its arguments and its declared locals
  framed : (f : WasmFunc) (t : FuncType) (args below : List CoreValue) (left : List ValType) → is_typed_function M f ≡ true → slice_get M.types f.ty ≡ Some t → have_types args t.params ≡ true → have_types below left ≡ true → OnFrom (reverse t.results ++ left)
      → LeadsOn M (Goes (At w [] (map some_of args ++ locals_of f.locals) f.body (Label (length t.results) [] [] [] [] (Frame t.results ls below rest k))))
  framed f t args below left typed_function at p q on typed =
      let own : List ValType = t.params ++ local_types f.locals in
      let frame : InFrame M t.results t.results ls below rest (λ ts more outer. IsAround M k ts more outer) =
      record { same = refl; outer_locals = locals; outer_labels = labels; outer_gives = gives; locals_typed = s.holds; below_types = left; below_typed = q; at_end = on; outer = s.around } in
      let nothing : Behind M own [] [] (reverse t.results ++ []) t.results = ends_with t.results (reverse t.results ++ []) (append-nil (reverse t.results)) in
      let around : InLabel M own t.results [] t.results (length t.results) [] [] [] [] (λ outer. IsAround M (Frame t.results ls below rest k) own [] outer) =
      record { many = refl; outer_gives = t.results; below_types = []; below_typed = refl; at_branch = nothing; at_end = nothing; caught = refl; outer = frame } in
      record {
        locals = own;
        labels = t.results ∷ [];
        gives = t.results;
        operands = [];
        stands = record { state = s.state; holds = arguments args t.params (locals_of f.locals) (local_types f.locals) p (declared f.locals (locals_at M f typed_function)); around = around };
        values = refl;
        behind = body_at M f t typed_function at;
      }

  pub calls_inside : (n : ℕ) (f : WasmFunc) (t : FuncType) (vs : List CoreValue) (left : List ValType) → slice_get M.funcs n ≡ Some f → slice_get M.types f.ty ≡ Some t → have_types vs (reverse t.params ++ left) ≡ true → OnFrom (reverse t.results ++ left) → LeadsOn M (call_inside M n w vs ls rest k)
  calls_inside n f t vs left at type_at h on =
      let c : Cut vs (reverse t.params) left = cuts vs (reverse t.params) left h in
      let fits : have_types (reverse c.top) t.params ≡ true = fitting c.top t.params c.tops in
      let last : WasmFunc → FuncType → List CoreValue × List CoreValue → Did = λ f t p. check w (have_types (reverse p.0) t.params) (Goes (At w [] (map some_of (reverse p.0) ++ locals_of f.locals) f.body (Label (length t.results) [] [] [] [] (Frame t.results ls p.1 rest k)))) in
      there (slice_get M.funcs n) f (λ f. or_stuck w (slice_get M.types f.ty) (λ t. or_stuck w (grab (length t.params) vs) (λ p. last f t p))) at
      (there (slice_get M.types f.ty) t (λ t. or_stuck w (grab (length t.params) vs) (λ p. last f t p)) type_at
      (there (grab (length t.params) vs) (c.top, c.below) (λ p. last f t p) (ap (λ n. grab n vs) (sym (length-reverse t.params)) ∙ c.cut)
      (passes (have_types (reverse c.top) t.params) (Goes (At w [] (map some_of (reverse c.top) ++ locals_of f.locals) f.body (Label (length t.results) [] [] [] [] (Frame t.results ls c.below rest k)))) fits
      (framed f t (reverse c.top) c.below left (function_at M M.funcs n f valid at) type_at fits c.belows on))))

  -- whatever is answered
  answers : (n : ℕ) (t : FuncType) (args below : List CoreValue) (left : List ValType) (coming : List Answer) → type_of_import M n ≡ Some t → have_types below left ≡ true → OnFrom (reverse t.results ++ left)
      → LeadsOn M (on_res (asked n args w coming) ls k (λ results w'. Goes (At w' (reverse results ++ below) ls rest k)))
  answers n t args below left [] at h on = tt
  answers n t args below left (Returns results state ∷ more) at h on = λ typed.
      let e : Event = record { func = n; args = args; before = w.state; answer = Returns results state } in
      let a : AreResults (type_of_import M n) results × TypedState M state × AllZip (λ old new. length old ≤ length new) w.state.memories state.memories = last_answer M w e typed in
      let are : AreResults (Some t) results = subst (λ x. AreResults x results) at a.0 in
      record {
        locals = locals;
        labels = labels;
        gives = gives;
        operands = reverse t.results ++ left;
        stands = record { state = typed_has M state a.1; holds = s.holds; around = s.around };
        values = joined (reverse results) below (reverse t.results) left (reversed results t.results (answered_types results t.results are)) h;
        behind = on;
      }
  answers n t args below left (Traps ∷ more) at h on = tt
  answers n t args below left (Throws ∷ more) at h on = throws M k (record { state = w.state; answers = more; trace = w.trace ++ Called (record { func = n; args = args; before = w.state; answer = Throws }) ∷ [] }) ls locals labels gives (record { state = s.state; holds = s.holds; around = s.around })

  -- an imported function is there where its type is
  import_at : (n : ℕ) (t : FuncType) (x : Option ℕ) → func_import M.imports n ≡ x → elim x as (λ (x : Option ℕ). Option FuncType) [ None ↦ None | Some i ↦ slice_get M.types i ] ≡ Some t → (i : ℕ) × (func_import M.imports n ≡ Some i) × (slice_get M.types i ≡ Some t)
  import_at n t None e h = cc
  import_at n t (Some i) e h = (i, e, h)

  calls_import : (n : ℕ) (t : FuncType) (vs : List CoreValue) (left : List ValType) → type_of_import M n ≡ Some t → have_types vs (reverse t.params ++ left) ≡ true → OnFrom (reverse t.results ++ left) → LeadsOn M (call_import M n w vs ls rest k)
  calls_import n t vs left at h on =
      let i = import_at n t (func_import M.imports n) refl at in
      let c : Cut vs (reverse t.params) left = cuts vs (reverse t.params) left h in
      let last : FuncType → List CoreValue × List CoreValue → Did = λ t p. check w (have_types (reverse p.0) t.params) (call_outside n (reverse p.0) w p.1 ls rest k) in
      there (func_import M.imports n) i.0 (λ i. or_stuck w (slice_get M.types i) (λ t. or_stuck w (grab (length t.params) vs) (λ p. last t p))) i.1
      (there (slice_get M.types i.0) t (λ t. or_stuck w (grab (length t.params) vs) (λ p. last t p)) i.2
      (there (grab (length t.params) vs) (c.top, c.below) (λ p. last t p) (ap (λ n. grab n vs) (sym (length-reverse t.params)) ∙ c.cut)
      (passes (have_types (reverse c.top) t.params) (call_outside n (reverse c.top) w c.below ls rest k) (fitting c.top t.params c.tops) (answers n t (reverse c.top) c.below left w.answers at c.belows on))))

  -- a defined function is there where its type is
  defined_at : (n : ℕ) (t : FuncType) (x : Option WasmFunc) → slice_get M.funcs n ≡ x → option_and_then (λ (f : WasmFunc). slice_get M.types f.ty) x ≡ Some t → (f : WasmFunc) × (slice_get M.funcs n ≡ Some f) × (slice_get M.types f.ty ≡ Some t)
  defined_at n t None e h = cc
  defined_at n t (Some f) e h = (f, e, h)

  by_name : (f : FuncName) (t : FuncType) (vs : List CoreValue) (left : List ValType) → function_type M f ≡ Some t → have_types vs (reverse t.params ++ left) ≡ true → OnFrom (reverse t.results ++ left) → LeadsOn M (call M f w vs ls rest k)
  by_name (func.Import n) t vs left at h on = calls_import n t vs left at h on
  by_name (func.Defined n) t vs left at h on = let f = defined_at n t (slice_get M.funcs n) refl at in calls_inside n f.0 t vs left f.1 f.2 h on

  pub does_call : (f : FuncName) (vs : List CoreValue) (us : List ValType) → have_types vs us ≡ true → GoesOn gives go (option_and_then (λ t. change (reverse t.params) (reverse t.results) (Known us)) (function_type M f)) → LeadsOn M (call M f w vs ls rest k)
  does_call f vs us h e =
      let t = found gives go (λ (t : FuncType). change (reverse t.params) (reverse t.results) (Known us)) (function_type M f) e in
      let r = changes gives (reverse t.0.params) (reverse t.0.results) us go t.2 in
      by_name f t.0 vs r.0 t.1 (subst (λ x. have_types vs x ≡ true) r.1 h) r.2

  -- ---- references

  refers_to : (f : FuncName) (t : FuncType) (vs : List CoreValue) → function_type M f ≡ Some t → LeadsOn M (Goes (At w (value.Func f ∷ vs) ls rest k)) → LeadsOn M (ref_func M f w vs ls rest k)
  refers_to (func.Import n) t vs at d = let i = import_at n t (func_import M.imports n) refl at in there (func_import M.imports n) i.0 (λ i. Goes (At w (value.Func (func.Import n) ∷ vs) ls rest k)) i.1 d
  refers_to (func.Defined n) t vs at d = let f = defined_at n t (slice_get M.funcs n) refl at in there (slice_get M.funcs n) f.0 (λ f. Goes (At w (value.Func (func.Defined n) ∷ vs) ls rest k)) f.1 d

  pub refers : (f : FuncName) (vs : List CoreValue) (us : List ValType) → have_types vs us ≡ true → GoesOn gives go (option_and_then (λ t. only_if (is_exported f M.exports) (change [] (val.FuncRef ∷ []) (Known us))) (function_type M f)) → LeadsOn M (ref_func M f w vs ls rest k)
  refers f vs us h e =
      let t = found gives go (λ (t : FuncType). only_if (is_exported f M.exports) (change [] (val.FuncRef ∷ []) (Known us))) (function_type M f) e in
      let a = allowed gives go (is_exported f M.exports) (change [] (val.FuncRef ∷ []) (Known us)) t.2 in
      let r = changes gives [] (val.FuncRef ∷ []) us go a.1 in
      refers_to f t.0 vs t.1 (goes (value.Func f ∷ vs) (val.FuncRef ∷ r.0) (subst (λ x. have_types vs x ≡ true) r.1 h) r.2)
