-- Code that is typed is typed above more operands, and where more labels stand around it.
use Rattle.std.proofs.Common.{◌≡◌, ℕ, Bool, true, false, ◌&&◌, List, [], ◌∷◌, ◌++◌, Option, Some, None, refl, sym, ap, ◌∙◌, subst, append_assoc, append-nil, length, map, reverse, slice_get}
use Rattle.std.specs.Prelude.{nat_eq, is_some, option_and_then}
use Rattle.std.specs.List.{list_all}
use Rattle.fact_wasm.specs.declared.types.ValType.{ValType}
use Rattle.fact_wasm.specs.declared.types.ValType.TheVariants.{I32, I64, F32, F64, FuncRef}
use Rattle.fact_wasm.specs.declared.instr.BlockType.{BlockType}
use Rattle.fact_wasm.specs.declared.instr.MemArg.{MemArg}
use Rattle.fact_wasm.specs.declared.instr.Instr.{Instr, roll-Instr, fold-roll-Instr, ind-Instr, map-Instr}
use Rattle.fact_wasm.specs.declared.instr.Instr.TheOpen as o
use Rattle.fact_wasm.specs.declared.instr.Instr.TheOpen.{Instr-F}
use Rattle.fact_machine.specs.Machine.{memory_import}
use Rattle.fact_machine.specs.Typing.{Operands, Known, Open, only_if, same_type, is_number, matches, pop, pop_all, push_all, change, jump, ends, drop_operand, common_number, choose, instruction_type, Context, inside, Typing, chain, types_of_block, function_type, is_exported, address_type, address_at, is_body, in_block, is_target, is_catch, load_typing, store_typing, global_import, typing_row, typing, code_typing}
use Rattle.fact_machine.specs.TypingLaws.{above_operands, outward}
use Rattle.fact_machine.proofs.TypingRows.{plain_row}
use Rattle.fact_machine.proofs.Tests.{first_of, second_of, both, all_of, get_append}

-- ---- options

some_of : {A B : Type 0} (x : Option A) (f : A → Option B) (b : B) → option_and_then f x ≡ Some b → (a : A) × (x ≡ Some a) × (f a ≡ Some b)
some_of None f b h = cc
some_of (Some a) f b h = (a, refl, h)

some_if : {A : Type 0} (b : Bool) (x : Option A) (a : A) → only_if b x ≡ Some a → (b ≡ true) × (x ≡ Some a)
some_if true x a h = (refl, h)
some_if false x a h = cc

-- ---- operands above others

above_none : (s : Operands) → above_operands [] s ≡ s
above_none (Known us) = ap Known (append-nil us)
above_none (Open us) = refl

module _ (st : List ValType) where
  pop_above : (t : ValType) (s s' : Operands) → pop t s ≡ Some s' → pop t (above_operands st s) ≡ Some (above_operands st s')
  pop_above t (Known []) s' h = cc
  pop_above t (Known (u ∷ us)) s' h =
      let x = some_if (same_type t u) (Some (Known us)) s' h in
      ap (λ b. only_if b (Some (Known (us ++ st)))) x.0 ∙ ap (λ o. option_and_then (λ z. Some (above_operands st z)) o) x.1
  pop_above t (Open []) s' h = ap (λ o. option_and_then (λ z. Some (above_operands st z)) o) h
  pop_above t (Open (u ∷ us)) s' h =
      let x = some_if (matches t u) (Some (Open us)) s' h in
      ap (λ b. only_if b (Some (Open us))) x.0 ∙ ap (λ o. option_and_then (λ z. Some (above_operands st z)) o) x.1

  pop_all_above : (ts : List ValType) (s s' : Operands) → pop_all ts s ≡ Some s' → pop_all ts (above_operands st s) ≡ Some (above_operands st s')
  pop_all_above [] s s' h = ap (λ o. option_and_then (λ z. Some (above_operands st z)) o) h
  pop_all_above (t ∷ ts) s s' h =
      let x = some_of (pop t s) (λ z. pop_all ts z) s' h in
      ap (λ o. option_and_then (λ z. pop_all ts z) o) (pop_above t s x.0 x.1) ∙ pop_all_above ts x.0 s' x.2

  push_above : (ts : List ValType) (s : Operands) → push_all ts (above_operands st s) ≡ above_operands st (push_all ts s)
  push_above ts (Known us) = ap Known (sym (append_assoc ts us st))
  push_above ts (Open us) = refl

  change_above : (ins outs : List ValType) (s s' : Operands) → change ins outs s ≡ Some s' → change ins outs (above_operands st s) ≡ Some (above_operands st s')
  change_above ins outs s s' h =
      let x = some_of (pop_all ins s) (λ z. Some (push_all outs z)) s' h in
      ap (λ o. option_and_then (λ z. Some (push_all outs z)) o) (pop_all_above ins s x.0 x.1)
      ∙ ap (λ z. Some z) (push_above outs x.0) ∙ ap (λ o. option_and_then (λ z. Some (above_operands st z)) o) x.2

  jump_above : (ins : List ValType) (s s' : Operands) → jump ins s ≡ Some s' → jump ins (above_operands st s) ≡ Some (above_operands st s')
  jump_above ins s s' h =
      let x = some_of (pop_all ins s) (λ z. Some (Open [])) s' h in
      ap (λ o. option_and_then (λ z. Some (Open [])) o) (pop_all_above ins s x.0 x.1) ∙ ap (λ o. option_and_then (λ z. Some (above_operands st z)) o) x.2

  drop_above : (s s' : Operands) → drop_operand s ≡ Some s' → drop_operand (above_operands st s) ≡ Some (above_operands st s')
  drop_above (Known []) s' h = cc
  drop_above (Known (t ∷ ts)) s' h = ap (λ o. option_and_then (λ z. Some (above_operands st z)) o) h
  drop_above (Open []) s' h = ap (λ o. option_and_then (λ z. Some (above_operands st z)) o) h
  drop_above (Open (t ∷ ts)) s' h = ap (λ o. option_and_then (λ z. Some (above_operands st z)) o) h

  open_above : {A : Type 0} (x : Option A) (f : A → Operands) (s' : Operands) → ((a : A) → above_operands st (f a) ≡ f a) → option_and_then (λ a. Some (f a)) x ≡ Some s' → option_and_then (λ a. Some (f a)) x ≡ Some (above_operands st s')
  open_above None f s' e h = cc
  open_above (Some a) f s' e h = ap (λ z. Some z) (sym (e a)) ∙ ap (λ o. option_and_then (λ z. Some (above_operands st z)) o) h

  choose_above : (s s' : Operands) → choose s ≡ Some s' → choose (above_operands st s) ≡ Some (above_operands st s')
  choose_above (Known []) s' h = cc
  choose_above (Known (t ∷ [])) s' h = cc
  choose_above (Known (t ∷ u ∷ us)) s' h =
      let x = some_if (is_number t && same_type t u) (Some (Known (t ∷ us))) s' h in
      ap (λ b. only_if b (Some (Known (t ∷ (us ++ st))))) x.0 ∙ ap (λ o. option_and_then (λ z. Some (above_operands st z)) o) x.1
  choose_above (Open []) s' h = ap (λ o. option_and_then (λ z. Some (above_operands st z)) o) h
  choose_above (Open (t ∷ [])) s' h = open_above (common_number t None) (λ x. Open (x ∷ [])) s' (λ a. refl) h
  choose_above (Open (t ∷ u ∷ us)) s' h = open_above (common_number t u) (λ x. Open (x ∷ us)) s' (λ a. refl) h

-- ---- what is framed

-- typed in a context, it is typed so above any operands and where any more labels stand around
pub record Framed (x : Typing) : Type 0 where
  pub by : (G : Context) (s s' : Operands) (more : List (List ValType)) (st : List ValType) → x G s ≡ Some s' → x (outward more G) (above_operands st s) ≡ Some (above_operands st s')

-- an option that looks at nothing that changes
found_above : {A : Type 0} (st : List ValType) (x : Option A) (s s' : Operands) (f : A → Operands → Option Operands) → ((a : A) (z z' : Operands) → f a z ≡ Some z' → f a (above_operands st z) ≡ Some (above_operands st z')) → option_and_then (λ a. f a s) x ≡ Some s' → option_and_then (λ a. f a (above_operands st s)) x ≡ Some (above_operands st s')
found_above st None s s' f e h = cc
found_above st (Some a) s s' f e h = e a s s' h

-- one that is a label's
label_above : (G : Context) (more : List (List ValType)) (st : List ValType) (l : ℕ) (s s' : Operands) (f f' : List ValType → Operands → Option Operands) → ((ts : List ValType) (z z' : Operands) → f ts z ≡ Some z' → f' ts (above_operands st z) ≡ Some (above_operands st z'))
    → option_and_then (λ ts. f ts s) (slice_get G.labels l) ≡ Some s' → option_and_then (λ ts. f' ts (above_operands st s)) (slice_get (G.labels ++ more) l) ≡ Some (above_operands st s')
label_above G more st l s s' f f' e h =
    let x = some_of (slice_get G.labels l) (λ ts. f ts s) s' h in
    ap (λ o. option_and_then (λ ts. f' ts (above_operands st s)) o) (get_append G.labels more l x.0 x.1) ∙ e x.0 s s' x.2

targets_above : (G : Context) (more : List (List ValType)) (st : List ValType) (arity : ℕ) (s : Operands) (l : ℕ) → is_target G arity s l ≡ true → is_target (outward more G) arity (above_operands st s) l ≡ true
targets_above G more st arity s l h = by_label (slice_get G.labels l) refl h
  where
    by_operands : (ts : List ValType) (o : Option Operands) → pop_all (reverse ts) s ≡ o → is_some o ≡ true → is_some (pop_all (reverse ts) (above_operands st s)) ≡ true
    by_operands ts None e h = cc
    by_operands ts (Some s') e h = ap (λ (o : Option Operands). is_some o) (pop_all_above st (reverse ts) s s' e)

    by_label : (o : Option (List ValType)) → slice_get G.labels l ≡ o → elim o as (λ (o : Option (List ValType)). Bool) [ None ↦ false | Some ts ↦ nat_eq (length ts) arity && is_some (pop_all (reverse ts) s) ] ≡ true
        → is_target (outward more G) arity (above_operands st s) l ≡ true
    by_label None e h = cc
    by_label (Some ts) e h =
        let all = first_of (nat_eq (length ts) arity) (is_some (pop_all (reverse ts) s)) h in
        let there = second_of (nat_eq (length ts) arity) (is_some (pop_all (reverse ts) s)) h in
        ap (λ o. elim o as (λ (o : Option (List ValType)). Bool) [ None ↦ false | Some ts ↦ nat_eq (length ts) arity && is_some (pop_all (reverse ts) (above_operands st s)) ]) (get_append G.labels more l ts e)
        ∙ both all (by_operands ts (pop_all (reverse ts) s) refl there)

catches_above : (G : Context) (more : List (List ValType)) (l : ℕ) → is_catch G l ≡ true → is_catch (outward more G) l ≡ true
catches_above G more l h = by_label (slice_get G.labels l) refl h
  where
    by_label : (o : Option (List ValType)) → slice_get G.labels l ≡ o → elim o as (λ (o : Option (List ValType)). Bool) [ None ↦ false | Some ts ↦ nat_eq (length ts) 0 ] ≡ true → is_catch (outward more G) l ≡ true
    by_label None e h = cc
    by_label (Some ts) e h = ap (λ o. elim o as (λ (o : Option (List ValType)). Bool) [ None ↦ false | Some ts ↦ nat_eq (length ts) 0 ]) (get_append G.labels more l ts e) ∙ h

block_above : (G : Context) (more : List (List ValType)) (st : List ValType) (bt : BlockType) (s s' : Operands) (k k' : List ValType → List ValType → Bool) → ((ps rs : List ValType) → k ps rs ≡ true → k' ps rs ≡ true)
    → in_block G bt k s ≡ Some s' → in_block (outward more G) bt k' (above_operands st s) ≡ Some (above_operands st s')
block_above G more st bt s s' k k' e h =
    let x = some_of (types_of_block G.whole.types bt) (λ t. only_if (k t.0 t.1) (change (reverse t.0) (reverse t.1) s)) s' h in
    let y = some_if (k x.0.0 x.0.1) (change (reverse x.0.0) (reverse x.0.1) s) s' x.2 in
    ap (λ o. option_and_then (λ t. only_if (k' t.0 t.1) (change (reverse t.0) (reverse t.1) (above_operands st s))) o) x.1
    ∙ ap (λ b. only_if b (change (reverse x.0.0) (reverse x.0.1) (above_operands st s))) (e x.0.0 x.0.1 y.0) ∙ change_above st (reverse x.0.0) (reverse x.0.1) s s' y.1

load_above : (natural : ℕ) (t : ValType) (m : MemArg) (G : Context) (more : List (List ValType)) (st : List ValType) (s s' : Operands) → load_typing natural t m G s ≡ Some s' → load_typing natural t m (outward more G) (above_operands st s) ≡ Some (above_operands st s')
load_above natural t m G more st s s' h = found_above st (address_at G natural m) s s' (λ a z. change (a ∷ []) (t ∷ []) z) (λ a z z' e. change_above st (a ∷ []) (t ∷ []) z z' e) h

store_above : (natural : ℕ) (t : ValType) (m : MemArg) (G : Context) (more : List (List ValType)) (st : List ValType) (s s' : Operands) → store_typing natural t m G s ≡ Some s' → store_typing natural t m (outward more G) (above_operands st s) ≡ Some (above_operands st s')
store_above natural t m G more st s s' h = found_above st (address_at G natural m) s s' (λ a z. change (t ∷ a ∷ []) [] z) (λ a z z' e. change_above st (t ∷ a ∷ []) [] z z' e) h

-- ---- rows

module _ {Z : Type 0} (f : Z → Instr) (each : (z : Z) → Framed (typing (f z))) where
  bodies : (zs : List Z) → Framed (chain (map typing (map f zs)))
  bodies [] = record { by = λ G s s' more st h. ap (λ o. option_and_then (λ z. Some (above_operands st z)) o) h }
  bodies (z ∷ zs) = record {
    by = λ G s s' more st h.
        let x = some_of (typing (f z) G s) (λ s1. chain (map typing (map f zs)) G s1) s' h in
        ap (λ o. option_and_then (λ s1. chain (map typing (map f zs)) (outward more G) s1) o) ((each z).by G s x.0 more st x.1) ∙ (bodies zs).by G x.0 s' more st x.2;
  }

  is_body_above : (zs : List Z) (G : Context) (more : List (List ValType)) (label ps rs : List ValType) → is_body G label ps rs (map typing (map f zs)) ≡ true → is_body (outward more G) label ps rs (map typing (map f zs)) ≡ true
  is_body_above zs G more label ps rs h = by_end (chain (map typing (map f zs)) (inside label G) (Known (reverse ps))) refl h
    where
      by_end : (o : Option Operands) → chain (map typing (map f zs)) (inside label G) (Known (reverse ps)) ≡ o → ends rs o ≡ true → ends rs (chain (map typing (map f zs)) (outward more (inside label G)) (Known (reverse ps))) ≡ true
      by_end None e h = cc
      by_end (Some s') e h =
          let c = (bodies zs).by (inside label G) (Known (reverse ps)) s' more [] e in
          ap (λ s. ends rs (chain (map typing (map f zs)) (outward more (inside label G)) s)) (sym (above_none (Known (reverse ps))))
          ∙ ap (ends rs) (c ∙ ap (λ z. Some z) (above_none s')) ∙ h

  abbrev framed_row : Instr-F Z → Typing
  framed_row y = typing_row (map-Instr Instr Typing typing (map-Instr Z Instr f y))

  by_condition : (bt : BlockType) (body other : List Z) (G : Context) (s s' : Operands) (more : List (List ValType)) (st : List ValType)
      → option_and_then (λ z. in_block G bt (λ ps rs. is_body G rs ps rs (map typing (map f body)) && is_body G rs ps rs (map typing (map f other))) z) (pop I32 s) ≡ Some s'
      → option_and_then (λ z. in_block (outward more G) bt (λ ps rs. is_body (outward more G) rs ps rs (map typing (map f body)) && is_body (outward more G) rs ps rs (map typing (map f other))) z) (pop I32 (above_operands st s)) ≡ Some (above_operands st s')
  by_condition bt body other G s s' more st h =
      let k : List ValType → List ValType → Bool = λ ps rs. is_body G rs ps rs (map typing (map f body)) && is_body G rs ps rs (map typing (map f other)) in
      let k' : List ValType → List ValType → Bool = λ ps rs. is_body (outward more G) rs ps rs (map typing (map f body)) && is_body (outward more G) rs ps rs (map typing (map f other)) in
      let x = some_of (pop I32 s) (λ z. in_block G bt k z) s' h in
      ap (λ o. option_and_then (λ z. in_block (outward more G) bt k' z) o) (pop_above st I32 s x.0 x.1)
      ∙ block_above G more st bt x.0 s' k k' (λ ps rs e.
      both (is_body_above body G more rs ps rs (first_of (is_body G rs ps rs (map typing (map f body))) (is_body G rs ps rs (map typing (map f other))) e))
      (is_body_above other G more rs ps rs (second_of (is_body G rs ps rs (map typing (map f body))) (is_body G rs ps rs (map typing (map f other))) e))) x.2

  -- an instruction with parts, or one that looks at its context
  by_parts : (y : Instr-F Z) → instruction_type (map-Instr Instr Typing typing (map-Instr Z Instr f y)) ≡ None → (G : Context) (s s' : Operands) (more : List (List ValType)) (st : List ValType) → framed_row y G s ≡ Some s' → framed_row y (outward more G) (above_operands st s) ≡ Some (above_operands st s')
  by_parts o.Unreachable n G s s' more st h = ap (λ o. option_and_then (λ z. Some (above_operands st z)) o) h
  by_parts (o.Block bt body) n G s s' more st h = block_above G more st bt s s' _ _ (λ ps rs e. is_body_above body G more rs ps rs e) h
  by_parts (o.Loop bt body) n G s s' more st h = block_above G more st bt s s' _ _ (λ ps rs e. is_body_above body G more ps ps rs e) h
  by_parts (o.If bt body None) n G s s' more st h = by_condition bt body [] G s s' more st h
  by_parts (o.If bt body (Some other)) n G s s' more st h = by_condition bt body other G s s' more st h
  by_parts (o.TryTable bt catches body) n G s s' more st h =
      block_above G more st bt s s' _ _ (λ ps rs e. both (all_of (λ l. is_catch G l) (λ l. is_catch (outward more G) l) (λ l q. catches_above G more l q) catches (first_of (list_all (is_catch G) catches) _ e)) (is_body_above body G more rs ps rs (second_of (list_all (is_catch G) catches) _ e))) h
  by_parts (o.Br l) n G s s' more st h = label_above G more st l s s' (λ ts z. jump (reverse ts) z) (λ ts z. jump (reverse ts) z) (λ ts z z' e. jump_above st (reverse ts) z z' e) h
  by_parts (o.BrIf l) n G s s' more st h =
      label_above G more st l s s' (λ ts z. option_and_then (λ z'. change (reverse ts) (reverse ts) z') (pop I32 z)) (λ ts z. option_and_then (λ z'. change (reverse ts) (reverse ts) z') (pop I32 z)) (λ ts z z' e. conditional ts z z' e) h
    where
      conditional : (ts : List ValType) (z z' : Operands) → option_and_then (λ z'. change (reverse ts) (reverse ts) z') (pop I32 z) ≡ Some z' → option_and_then (λ z'. change (reverse ts) (reverse ts) z') (pop I32 (above_operands st z)) ≡ Some (above_operands st z')
      conditional ts z z' e =
          let x = some_of (pop I32 z) (λ z'. change (reverse ts) (reverse ts) z') z' e in
          ap (λ o. option_and_then (λ z'. change (reverse ts) (reverse ts) z') o) (pop_above st I32 z x.0 x.1) ∙ change_above st (reverse ts) (reverse ts) x.0 z' x.2
  by_parts (o.BrTable labels last) n G s s' more st h =
      label_above G more st last s s' (λ ts z. option_and_then (λ z'. only_if (list_all (is_target G (length ts) z') labels) (jump (reverse ts) z')) (pop I32 z))
      (λ ts z. option_and_then (λ z'. only_if (list_all (is_target (outward more G) (length ts) z') labels) (jump (reverse ts) z')) (pop I32 z)) (λ ts z z' e. by_table ts z z' e) h
    where
      by_table : (ts : List ValType) (z z' : Operands) → option_and_then (λ z'. only_if (list_all (is_target G (length ts) z') labels) (jump (reverse ts) z')) (pop I32 z) ≡ Some z'
          → option_and_then (λ z'. only_if (list_all (is_target (outward more G) (length ts) z') labels) (jump (reverse ts) z')) (pop I32 (above_operands st z)) ≡ Some (above_operands st z')
      by_table ts z z' e =
          let x = some_of (pop I32 z) (λ z'. only_if (list_all (is_target G (length ts) z') labels) (jump (reverse ts) z')) z' e in
          let y = some_if (list_all (is_target G (length ts) x.0) labels) (jump (reverse ts) x.0) z' x.2 in
          ap (λ o. option_and_then (λ z'. only_if (list_all (is_target (outward more G) (length ts) z') labels) (jump (reverse ts) z')) o) (pop_above st I32 z x.0 x.1)
          ∙ ap (λ b. only_if b (jump (reverse ts) (above_operands st x.0))) (all_of (λ l. is_target G (length ts) x.0 l) (λ l. is_target (outward more G) (length ts) (above_operands st x.0) l) (λ l q. targets_above G more st (length ts) x.0 l q) labels y.0) ∙ jump_above st (reverse ts) x.0 z' y.1
  by_parts (o.Call g) n G s s' more st h = found_above st (function_type G.whole g) s s' (λ t z. change (reverse t.params) (reverse t.results) z) (λ t z z' e. change_above st (reverse t.params) (reverse t.results) z z' e) h
  by_parts (o.RefFunc g) n G s s' more st h =
      found_above st (function_type G.whole g) s s' (λ t z. only_if (is_exported g G.whole.exports) (change [] (FuncRef ∷ []) z)) (λ t z z' e. exported z z' e) h
    where
      exported : (z z' : Operands) → only_if (is_exported g G.whole.exports) (change [] (FuncRef ∷ []) z) ≡ Some z' → only_if (is_exported g G.whole.exports) (change [] (FuncRef ∷ []) (above_operands st z)) ≡ Some (above_operands st z')
      exported z z' e = let x = some_if (is_exported g G.whole.exports) (change [] (FuncRef ∷ []) z) z' e in ap (λ b. only_if b (change [] (FuncRef ∷ []) (above_operands st z))) x.0 ∙ change_above st [] (FuncRef ∷ []) z z' x.1
  by_parts o.Drop n G s s' more st h = drop_above st s s' h
  by_parts o.Select n G s s' more st h = let x = some_of (pop I32 s) choose s' h in ap (λ o. option_and_then choose o) (pop_above st I32 s x.0 x.1) ∙ choose_above st x.0 s' x.2
  by_parts (o.LocalGet i) n G s s' more st h = found_above st (slice_get G.locals i) s s' (λ t z. change [] (t ∷ []) z) (λ t z z' e. change_above st [] (t ∷ []) z z' e) h
  by_parts (o.LocalSet i) n G s s' more st h = found_above st (slice_get G.locals i) s s' (λ t z. change (t ∷ []) [] z) (λ t z z' e. change_above st (t ∷ []) [] z z' e) h
  by_parts (o.LocalTee i) n G s s' more st h = found_above st (slice_get G.locals i) s s' (λ t z. change (t ∷ []) (t ∷ []) z) (λ t z z' e. change_above st (t ∷ []) (t ∷ []) z z' e) h
  by_parts (o.GlobalGet i) n G s s' more st h = found_above st (global_import G.whole.imports i) s s' (λ g z. change [] (g.0 ∷ []) z) (λ g z z' e. change_above st [] (g.0 ∷ []) z z' e) h
  by_parts (o.GlobalSet i) n G s s' more st h = found_above st (global_import G.whole.imports i) s s' (λ g z. only_if g.1 (change (g.0 ∷ []) [] z)) (λ g z z' e. settable g z z' e) h
    where
      settable : (g : ValType × Bool) (z z' : Operands) → only_if g.1 (change (g.0 ∷ []) [] z) ≡ Some z' → only_if g.1 (change (g.0 ∷ []) [] (above_operands st z)) ≡ Some (above_operands st z')
      settable g z z' e = let x = some_if g.1 (change (g.0 ∷ []) [] z) z' e in ap (λ b. only_if b (change (g.0 ∷ []) [] (above_operands st z))) x.0 ∙ change_above st (g.0 ∷ []) [] z z' x.1
  by_parts (o.I32Load m) n G s s' more st h = load_above 2 I32 m G more st s s' h
  by_parts (o.I64Load m) n G s s' more st h = load_above 3 I64 m G more st s s' h
  by_parts (o.F32Load m) n G s s' more st h = load_above 2 F32 m G more st s s' h
  by_parts (o.F64Load m) n G s s' more st h = load_above 3 F64 m G more st s s' h
  by_parts (o.I32Load8S m) n G s s' more st h = load_above 0 I32 m G more st s s' h
  by_parts (o.I32Load8U m) n G s s' more st h = load_above 0 I32 m G more st s s' h
  by_parts (o.I32Load16S m) n G s s' more st h = load_above 1 I32 m G more st s s' h
  by_parts (o.I32Load16U m) n G s s' more st h = load_above 1 I32 m G more st s s' h
  by_parts (o.I32Store m) n G s s' more st h = store_above 2 I32 m G more st s s' h
  by_parts (o.I64Store m) n G s s' more st h = store_above 3 I64 m G more st s s' h
  by_parts (o.F32Store m) n G s s' more st h = store_above 2 F32 m G more st s s' h
  by_parts (o.F64Store m) n G s s' more st h = store_above 3 F64 m G more st s s' h
  by_parts (o.I32Store8 m) n G s s' more st h = store_above 0 I32 m G more st s s' h
  by_parts (o.I32Store16 m) n G s s' more st h = store_above 1 I32 m G more st s s' h
  by_parts (o.MemorySize i) n G s s' more st h = found_above st (memory_import G.whole.imports i) s s' (λ k z. change [] (address_type k.0 ∷ []) z) (λ k z z' e. change_above st [] (address_type k.0 ∷ []) z z' e) h
  by_parts _ n G s s' more st h = cc

  rows : (y : Instr-F Z) (t : Option (List ValType × ValType)) → instruction_type (map-Instr Instr Typing typing (map-Instr Z Instr f y)) ≡ t → Framed (framed_row y)
  rows y None e = record { by = λ G s s' more st h. by_parts y e G s s' more st h }
  rows y (Some t) e = record {
    by = λ G s s' more st h.
        plain_row (map-Instr Instr Typing typing (map-Instr Z Instr f y)) t (outward more G) (above_operands st s) e
        ∙ change_above st t.0 (t.1 ∷ []) s s' (sym (plain_row (map-Instr Instr Typing typing (map-Instr Z Instr f y)) t G s e) ∙ h);
  }

-- ---- every instruction, and code

instr_framed : (i : Instr) → Framed (typing i)
instr_framed = ind-Instr (λ i. Framed (typing i)) (λ x y is. subst (λ (z : Instr-F Instr). Framed (typing (roll-Instr z))) is
    (subst Framed (sym (fold-roll-Instr Typing typing_row (map-Instr _ Instr (λ e. e.0) y))) (rows (λ e. e.0) (λ e. e.1) y _ refl)))

-- Code that is typed in a context is typed above any operands, and where any more labels stand around that context's.
pub code_framed : (code : List Instr) (G : Context) (s s' : Operands) (more : List (List ValType)) (st : List ValType) → code_typing G code s ≡ Some s' → code_typing (outward more G) code (above_operands st s) ≡ Some (above_operands st s')
code_framed [] G s s' more st h = ap (λ o. option_and_then (λ z. Some (above_operands st z)) o) h
code_framed (i ∷ code) G s s' more st h =
    let x = some_of (typing i G s) (λ s1. code_typing G code s1) s' h in
    ap (λ o. option_and_then (λ s1. code_typing (outward more G) code s1) o) ((instr_framed i).by G s x.0 more st x.1) ∙ code_framed code (G) x.0 s' more st x.2

-- operands alone below
pub below_kept : (code : List Instr) (G : Context) (s s' : Operands) (st : List ValType) → code_typing G code s ≡ Some s' → code_typing G code (above_operands st s) ≡ Some (above_operands st s')
below_kept code G s s' st h = ap (λ (ls : List (List ValType)). code_typing (record G { labels = ls }) code (above_operands st s)) (sym (append-nil G.labels)) ∙ code_framed code G s s' [] st h

-- labels alone around
pub outside_kept : (code : List Instr) (G : Context) (s s' : Operands) (more : List (List ValType)) → code_typing G code s ≡ Some s' → code_typing (outward more G) code s ≡ Some s'
outside_kept code G s s' more h = ap (code_typing (outward more G) code) (sym (above_none s)) ∙ code_framed code G s s' more [] h ∙ ap (λ z. Some z) (above_none s')
