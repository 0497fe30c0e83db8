-- The parts of a module, and its imports as items.
use Rattle.std.proofs.Common.{◌≡◌, ℕ, suc, ◌+◌, Bool, true, false, List, [], ◌∷◌, ◌++◌, Some, None, Option, refl, sym, ap, ◌∙◌, subst, arith, length, length-append, map, append-nil, append_assoc}
use Rattle.std.specs.Prelude.{cond}
use Rattle.std.specs.List.{filter_map, flat_map, range_with_len}
use Rattle.std.proofs.lemmas.Grind.{flat_map-append}
use Rattle.std.proofs.lemmas.List.Elements.{filter_map-append}
use Rattle.fact_wasm.specs.declared.module.WasmImport.{WasmImport}
use Rattle.fact_types.specs.Adapters.{LinkedAdapter}
use Rattle.fact_types.specs.declared.import.Import.{Import}
use Rattle.fact_emit.specs.ImportSection.{Mention, a_function, adapter_mentions, imports_of, is_of, with_mentions}
use Rattle.fact_emit.proofs.Mentions.{mentions-on}
use Rattle.fact_assembly.specs.Order.{AreParts, Definition, IsModulePart, Item, ModulePart, Other, functions_of_part, item_of, items, items_in, own_places}

-- ---- parts

pub flat_map-push : {X Y : Type 0} (f : X → List Y) (xs : List X) (x : X) → flat_map f (xs ++ x ∷ []) ≡ flat_map f xs ++ f x
flat_map-push f xs x = flat_map-append f xs (x ∷ []) ∙ ap (λ l. flat_map f xs ++ l) (append-nil (f x))

pub parts-push : (imported : List Import) (before : List ModulePart) (adapters : List LinkedAdapter) (parts : List ModulePart) (a : LinkedAdapter) (p : ModulePart)
    → AreParts imported before adapters parts → IsModulePart imported (before ++ parts) a p → AreParts imported before (adapters ++ a ∷ []) (parts ++ p ∷ [])
parts-push imported before [] [] a p h i = (subst (λ b. IsModulePart imported b a p) (append-nil before) i, tt)
parts-push imported before [] (q ∷ parts) a p h i = absurd h
parts-push imported before (b ∷ adapters) [] a p h i = absurd h
parts-push imported before (b ∷ adapters) (q ∷ parts) a p h i =
    (h.0, parts-push imported (before ++ q ∷ []) adapters parts a p h.1 (subst (λ b. IsModulePart imported b a p) (sym (append_assoc before (q ∷ []) parts)) i))

abbrev pub defs_in : ModulePart → List Mention
defs_in p = p.defs

-- all first mentions are the parts'
pub parts-mention : (imported : List Import) (before : List ModulePart) (adapters : List LinkedAdapter) (parts : List ModulePart) → AreParts imported before adapters parts
    → with_mentions (flat_map defs_in before) (flat_map adapter_mentions adapters) ≡ flat_map defs_in before ++ flat_map defs_in parts
parts-mention imported before [] [] h = sym (append-nil (flat_map defs_in before))
parts-mention imported before [] (q ∷ parts) h = absurd h
parts-mention imported before (b ∷ adapters) [] h = absurd h
parts-mention imported before (a ∷ adapters) (p ∷ parts) h =
    let one = flat_map-push defs_in before p in
    mentions-on (flat_map defs_in before) (adapter_mentions a) (flat_map adapter_mentions adapters)
    ∙ ap (λ ms. with_mentions ms (flat_map adapter_mentions adapters)) (h.0.defs ∙ sym one)
    ∙ parts-mention imported (before ++ p ∷ []) adapters parts h.1
    ∙ ap (λ l. l ++ flat_map defs_in parts) one
    ∙ append_assoc (flat_map defs_in before) p.defs (flat_map defs_in parts)

pub own-push : (n : ℕ) (parts : List ModulePart) (p : ModulePart) → own_places n (parts ++ p ∷ []) ≡ own_places n parts ++ range_with_len (n + length (flat_map functions_of_part parts)) (length p.own)
own-push n [] p = let e : n ≡ n + 0 = omega arith in append-nil (range_with_len n (length p.own)) ∙ ap (λ k. range_with_len k (length p.own)) e
own-push n (q ∷ parts) p =
    let e : n + length (functions_of_part q) + length (flat_map functions_of_part parts) ≡ n + length (flat_map functions_of_part (q ∷ parts)) = omega (arith, length-append (functions_of_part q) (flat_map functions_of_part parts)) in
    ap (λ l. range_with_len n (length q.own) ++ l) (own-push (n + length (functions_of_part q)) parts p ∙ ap (λ k. own_places (n + length (functions_of_part q)) parts ++ range_with_len k (length p.own)) e)
    ∙ sym (append_assoc (range_with_len n (length q.own)) (own_places (n + length (functions_of_part q)) parts) _)

-- ---- imports as items

pub items-append : (n : ℕ) (ws vs : List WasmImport) (is js : List Import) → length ws ≡ length is → items n (ws ++ vs) (is ++ js) ≡ items n ws is ++ items (n + length (imports_of a_function ws is)) vs js
items-append n [] vs [] js e = let same : n ≡ n + 0 = omega arith in ap (λ k. items k vs js) same
items-append n [] vs (i ∷ is) js e = absurd (omega arith)
items-append n (w ∷ ws) vs [] js e = absurd (omega arith)
items-append n (w ∷ ws) vs (i ∷ is) js e = ap (λ l. item_of n i ∷ l) (step (is_of a_function w) (λ k. items-append k ws vs is js (omega arith)))
  where
    step : (b : Bool) → ((k : ℕ) → items k (ws ++ vs) (is ++ js) ≡ items k ws is ++ items (k + length (imports_of a_function ws is)) vs js)
        → items (cond b (suc n) n) (ws ++ vs) (is ++ js) ≡ items (cond b (suc n) n) ws is ++ items (n + length (cond b (i ∷ imports_of a_function ws is) (imports_of a_function ws is))) vs js
    step true rest = let same : suc n + length (imports_of a_function ws is) ≡ n + suc (length (imports_of a_function ws is)) = omega arith in rest (suc n) ∙ ap (λ k. items (suc n) ws is ++ items k vs js) same
    step false rest = rest n

abbrev pub other_number : Item → Option ℕ
other_number (Definition d) = None
other_number (Other n) = Some n

-- the numbers of the imports that are no core definitions
abbrev pub numbers_of : List Item → List ℕ
numbers_of xs = filter_map other_number xs

pub numbers-defs : (ms : List Mention) → numbers_of (map (λ (r : Mention). Definition r.def) ms) ≡ []
numbers-defs [] = refl
numbers-defs (r ∷ ms) = numbers-defs ms

pub numbers-others : (ns : List ℕ) → numbers_of (map Other ns) ≡ ns
numbers-others [] = refl
numbers-others (n ∷ ns) = ap (λ l. n ∷ l) (numbers-others ns)

abbrev pub others_in : ModulePart → List ℕ
others_in p = p.others

pub numbers-parts : (parts : List ModulePart) → numbers_of (flat_map items_in parts) ≡ flat_map others_in parts
numbers-parts [] = refl
numbers-parts (p ∷ parts) =
    filter_map-append other_number (items_in p) (flat_map items_in parts)
    ∙ (λ k. one k ++ numbers-parts parts k)
  where
    one : numbers_of (items_in p) ≡ p.others
    one = filter_map-append other_number (map (λ (r : Mention). Definition r.def) p.defs) (map Other p.others) ∙ (λ k. numbers-defs p.defs k ++ numbers-others p.others k)
