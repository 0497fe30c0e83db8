-- Ends of bodies, branches and throws of a typed machine.
use Rattle.std.proofs.Common.{◌≡◌, ℕ, zero, suc, Bool, true, false, List, [], ◌∷◌, ◌++◌, Option, Some, None, refl, sym, ap, ◌∙◌, subst, length, reverse, slice_get, arith}
use Rattle.std.specs.Prelude.{nat_eq}
use Rattle.std.specs.List.{list_all}
use Rattle.std.proofs.lemmas.List.{reverse-reverse, length-reverse}
use Rattle.std.proofs.lemmas.Bool.{eqb-true}
use Rattle.fact_wasm.specs.declared.types.ValType.{ValType}
use Rattle.fact_wasm.specs.declared.instr.Instr.{Instr}
use Rattle.fact_wasm.specs.declared.module.WasmModule.{WasmModule}
use Rattle.fact_machine.specs.declared.types.CoreValue.{CoreValue}
use Rattle.fact_machine.specs.World.{World}
use Rattle.fact_machine.specs.Machine.{Around, Bottom, Label, Frame, At, Goes, branch, throw, grab, or_stuck, have_types, leaving, next_in}
use Rattle.fact_machine.specs.Typing.{is_catch}
use Rattle.fact_machine.proofs.Tests.{first_of}
use Rattle.fact_check.proofs.Known.{Cut, cuts, joined, reversed, ends_in}
use Rattle.fact_check.proofs.Invariant.{context, Behind, InLabel, InFrame, IsAround, Stands, LeadsOn, ComesTyped}

module _ (M : WasmModule) where
  -- ---- the ends of bodies

  -- the end of a body leaves just its results
  all_left : (vs : List CoreValue) (us gives : List ValType) (locals : List ValType) (labels : List (List ValType)) → have_types vs us ≡ true → Behind M locals labels [] us gives → have_types vs (reverse gives) ≡ true
  all_left vs us gives locals labels h e = subst (λ l. have_types vs l ≡ true) (ends_in gives us e) h

  -- what comes next is typed
  pub comes : (k : Around) (code : List Instr) (w : World) (vs : List CoreValue) (ls : List (Option CoreValue)) (locals : List ValType) (labels : List (List ValType)) (gives us : List ValType)
      → Stands M w ls k locals labels gives → have_types vs us ≡ true → Behind M locals labels code us gives → ComesTyped M (next_in w vs ls code k)
  comes k (i ∷ rest) w vs ls locals labels gives us s h e = record { locals = locals; labels = labels; gives = gives; operands = us; stands = s; values = h; behind = e }
  comes Bottom [] w vs ls locals labels gives us s h e = tt
  comes (Label a below to rest catches k) [] w vs ls locals [] gives us s h e = absurd s.around
  comes (Label a below to rest catches k) [] w vs ls locals (l ∷ labels) gives us s h e =
      let a : InLabel M locals l labels gives a below to rest catches (λ outer. IsAround M k locals labels outer) = s.around in
      comes k rest w (vs ++ below) ls locals labels a.outer_gives (reverse gives ++ a.below_types) (record { state = s.state; holds = s.holds; around = a.outer })
      (joined vs below (reverse gives) a.below_types (all_left vs us gives locals (l ∷ labels) h e) a.below_typed) a.at_end
  comes (Frame results outer below rest k) [] w vs ls locals (l ∷ labels) gives us s h e = absurd s.around
  comes (Frame results outer below rest k) [] w vs ls locals [] gives us s h e =
      let a : InFrame M gives results outer below rest (λ ts labels g. IsAround M k ts labels g) = s.around in
      let all : have_types vs (reverse results) ≡ true = subst (λ g. have_types vs (reverse g) ≡ true) a.same (all_left vs us gives locals [] h e) in
      let fits : have_types (reverse vs) results ≡ true = subst (λ g. have_types (reverse vs) g ≡ true) (reverse-reverse results) (reversed vs (reverse results) all) in
      let n : ComesTyped M (next_in w (vs ++ below) outer rest k) =
      comes k rest w (vs ++ below) outer a.outer_locals a.outer_labels a.outer_gives (reverse results ++ a.below_types) (record { state = s.state; holds = a.locals_typed; around = a.outer })
      (joined vs below (reverse results) a.below_types all a.below_typed) a.at_end
      in subst (λ b. ComesTyped M (leaving b w (next_in w (vs ++ below) outer rest k))) (sym fits) n

  -- ---- branches

  -- a branch to a label that is there, with the operands that it takes
  pub branches : (l : ℕ) (k : Around) (w : World) (vs : List CoreValue) (ls : List (Option CoreValue)) (locals : List ValType) (labels : List (List ValType)) (gives takes left : List ValType)
      → Stands M w ls k locals labels gives → slice_get labels l ≡ Some takes → have_types vs (reverse takes ++ left) ≡ true → LeadsOn M (branch w l vs ls k)
  branches l Bottom w vs ls locals [] gives takes left s e h = cc
  branches l Bottom w vs ls locals (t ∷ labels) gives takes left s e h = absurd s.around
  branches l (Frame results outer below rest k) w vs ls locals [] gives takes left s e h = cc
  branches l (Frame results outer below rest k) w vs ls locals (t ∷ labels) gives takes left s e h = absurd s.around
  branches l (Label a below to rest catches k) w vs ls locals [] gives takes left s e h = cc
  branches zero (Label arity below to rest catches k) w vs ls locals (t ∷ labels) gives takes left s e h =
      let a : InLabel M locals t labels gives arity below to rest catches (λ outer. IsAround M k locals labels outer) = s.around in
      let is : t ≡ takes = cc in
      let c : Cut vs (reverse t) left = cuts vs (reverse t) left (subst (λ r. have_types vs (reverse r ++ left) ≡ true) (sym is) h) in
      let taken : grab arity vs ≡ Some (c.top, c.below) = ap (λ n. grab n vs) (sym (length-reverse t ∙ a.many)) ∙ c.cut in
      subst (λ o. LeadsOn M (or_stuck w o (λ p. Goes (At w (p.0 ++ below) ls to k)))) (sym taken) (λ typed.
      record {
        locals = locals;
        labels = labels;
        gives = a.outer_gives;
        operands = reverse t ++ a.below_types;
        stands = record { state = s.state; holds = s.holds; around = a.outer };
        values = joined c.top below (reverse t) a.below_types c.tops a.below_typed;
        behind = a.at_branch;
      })
  branches (suc l) (Label arity below to rest catches k) w vs ls locals (t ∷ labels) gives takes left s e h =
      let a : InLabel M locals t labels gives arity below to rest catches (λ outer. IsAround M k locals labels outer) = s.around in
      branches l k w vs ls locals labels a.outer_gives takes left (record { state = s.state; holds = s.holds; around = a.outer }) e h

  -- ---- throws

  -- a label that a handler may go to takes nothing
  catch_takes : (l : ℕ) (locals : List ValType) (labels : List (List ValType)) → is_catch (context M locals labels) l ≡ true → slice_get labels l ≡ Some []
  catch_takes l locals labels h = by_label (slice_get labels l) refl h
    where
      nothing : (ts : List ValType) → nat_eq (length ts) 0 ≡ true → slice_get labels l ≡ Some ts → slice_get labels l ≡ Some []
      nothing [] e k = k
      nothing (t ∷ ts) e k = let z : length (t ∷ ts) ≡ 0 = eqb-true (length (t ∷ ts)) 0 e in absurd (omega arith)

      by_label : (o : Option (List ValType)) → slice_get labels l ≡ o → elim o as (λ (o : Option (List ValType)). Bool) [ None ↦ false | Some ts ↦ nat_eq (length ts) 0 ] ≡ true → slice_get labels l ≡ Some []
      by_label None e k = cc
      by_label (Some ts) e k = nothing ts k e

  pub throws : (k : Around) (w : World) (ls : List (Option CoreValue)) (locals : List ValType) (labels : List (List ValType)) (gives : List ValType) → Stands M w ls k locals labels gives → LeadsOn M (throw w ls k)
  throws Bottom w ls locals labels gives s = tt
  throws (Frame results outer below rest k) w ls locals [] gives s =
      let a : InFrame M gives results outer below rest (λ ts labels g. IsAround M k ts labels g) = s.around in
      throws k w outer a.outer_locals a.outer_labels a.outer_gives (record { state = s.state; holds = a.locals_typed; around = a.outer })
  throws (Frame results outer below rest k) w ls locals (l ∷ labels) gives s = absurd s.around
  throws (Label arity below to rest catches k) w ls locals [] gives s = absurd s.around
  throws (Label arity below to rest [] k) w ls locals (l ∷ labels) gives s =
      let a : InLabel M locals l labels gives arity below to rest [] (λ outer. IsAround M k locals labels outer) = s.around in
      throws k w ls locals labels a.outer_gives (record { state = s.state; holds = s.holds; around = a.outer })
  throws (Label arity below to rest (c ∷ catches) k) w ls locals (l ∷ labels) gives s =
      let a : InLabel M locals l labels gives arity below to rest (c ∷ catches) (λ outer. IsAround M k locals labels outer) = s.around in
      let at : slice_get labels c ≡ Some [] = catch_takes c locals labels (first_of (is_catch (context M locals labels) c) (list_all (is_catch (context M locals labels)) catches) a.caught) in
      branches c k w [] ls locals labels a.outer_gives [] [] (record { state = s.state; holds = s.holds; around = a.outer }) at refl
