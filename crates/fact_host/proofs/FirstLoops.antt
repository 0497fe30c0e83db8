-- The first state is made import by import, and the cursors memory by memory.
use Rattle.std.proofs.Common.{◌≡◌, ℕ, suc, ◌+◌, ◌<◌, ◌≤◌, Bool, All, List, [], ◌∷◌, ◌++◌, Option, Some, None, sym, ap, ◌∙◌, subst, arith, length, drop, get_or, append_assoc, length-append, drop-cons}
use Rattle.std.specs.List.{AllZip, cons_option, filter_map}
use Rattle.std.proofs.lemmas.List.{append-nil, drop_all}
use Rattle.std.proofs.lemmas.List.Elements.{All-nil, All-push}
use Rattle.fact_wasm.specs.declared.types.ValType.{ValType}
use Rattle.fact_wasm.specs.declared.module.ImportType.{ImportType}
use Rattle.fact_wasm.specs.declared.module.ImportType.TheVariants as import
use Rattle.fact_wasm.specs.declared.module.WasmImport.{WasmImport}
use Rattle.fact_machine.specs.declared.types.CoreValue.{CoreValue}
use Rattle.fact_machine.specs.Typed.{type_of_global, type_of_memory}
use Rattle.fact_host.specs.declared.calling.HostCall.{HostCall}
use Rattle.fact_host.specs.Begun.{AreMade, IsFirstState, first_length, first_value}
use Rattle.fact_host.proofs.Loops.{lengths_next}

-- ---- imports of a kind

-- so many bytes of zeros in each memory
abbrev pub AreZeros : List ℕ → Type 0
AreZeros bytes = All (λ b. b ≡ 0) bytes

memory_type : (w : WasmImport) (x : ImportType) → w.ty ≡ x
    → type_of_memory w ≡ elim x as (λ (x : ImportType). Option (Bool × Option ℕ)) [ import.Func t ↦ None | import.Memory least wide page ↦ Some (wide, page) | import.Global t mutable ↦ None ]
memory_type w x e = ap (λ (x : ImportType). elim x as (λ (x : ImportType). Option (Bool × Option ℕ)) [ import.Func t ↦ None | import.Memory least wide page ↦ Some (wide, page) | import.Global t mutable ↦ None ]) e

global_type : (w : WasmImport) (x : ImportType) → w.ty ≡ x
    → type_of_global w ≡ elim x as (λ (x : ImportType). Option ValType) [ import.Func t ↦ None | import.Memory least wide page ↦ None | import.Global t mutable ↦ Some t ]
global_type w x e = ap (λ (x : ImportType). elim x as (λ (x : ImportType). Option ValType) [ import.Func t ↦ None | import.Memory least wide page ↦ None | import.Global t mutable ↦ Some t ]) e

-- what stands at a place, and behind it
here_at : (ws : List WasmImport) (i : ℕ) (w : WasmImport) → i < length ws → w ≡ get_or ws i w → drop i ws ≡ w ∷ drop (suc i) ws
here_at ws i w lt e = drop-cons ws i w lt ∙ ap (λ x. x ∷ drop (suc i) ws) (sym e)

kinds_by : {B : Type 0} (h : WasmImport → Option B) (ws : List WasmImport) (i : ℕ) (w : WasmImport) (o : Option B) → i < length ws → w ≡ get_or ws i w → h w ≡ o → filter_map h (drop i ws) ≡ cons_option o (filter_map h (drop (suc i) ws))
kinds_by h ws i w o lt is e = ap (filter_map h) (here_at ws i w lt is) ∙ ap (λ x. cons_option x (filter_map h (drop (suc i) ws))) e

pub made_none : (c : HostCall) (ws : List WasmImport) → AreMade c ws 0 [] []
made_none c ws = record {
  count = omega arith;
  lengths = λ n lt. absurd (omega (arith, lt));
  zeros = All-nil AreZeros;
  globals = λ rest h. h;
}

module _ (c : HostCall) (ws : List WasmImport) (i j : ℕ) (next : j ≡ i + 1) (w : WasmImport) (lt : i < length ws) (is : w ≡ get_or ws i w) where
  at_next : j ≡ suc i
  at_next = omega (arith, next)

  memories_by : (o : Option (Bool × Option ℕ)) → type_of_memory w ≡ o → filter_map type_of_memory (drop i ws) ≡ cons_option o (filter_map type_of_memory (drop j ws))
  memories_by o e = kinds_by type_of_memory ws i w o lt is e ∙ ap (λ k. cons_option o (filter_map type_of_memory (drop k ws))) (sym at_next)

  globals_by : (o : Option ValType) → type_of_global w ≡ o → filter_map type_of_global (drop i ws) ≡ cons_option o (filter_map type_of_global (drop j ws))
  globals_by o e = kinds_by type_of_global ws i w o lt is e ∙ ap (λ k. cons_option o (filter_map type_of_global (drop k ws))) (sym at_next)

  same_globals : (gs : List CoreValue) → type_of_global w ≡ None → ((rest : List CoreValue) → AllZip (λ t v. v ≡ first_value t) (filter_map type_of_global (drop i ws)) rest → AllZip (λ t v. v ≡ first_value t) (filter_map type_of_global ws) (gs ++ rest))
      → (rest : List CoreValue) → AllZip (λ t v. v ≡ first_value t) (filter_map type_of_global (drop j ws)) rest → AllZip (λ t v. v ≡ first_value t) (filter_map type_of_global ws) (gs ++ rest)
  same_globals gs e all rest h = all rest (subst (λ ts. AllZip (λ t v. v ≡ first_value t) ts rest) (sym (globals_by None e)) h)

  pub made_function : (ms : List (List ℕ)) (gs : List CoreValue) (t : ℕ) → w.ty ≡ import.Func t → AreMade c ws i ms gs → AreMade c ws j ms gs
  made_function ms gs t e m = record {
    count = ap (λ l. length ms + length l) (sym (memories_by None (memory_type w (import.Func t) e))) ∙ m.count;
    lengths = m.lengths;
    zeros = m.zeros;
    globals = same_globals gs (global_type w (import.Func t) e) m.globals;
  }

  pub made_memory : (ms : List (List ℕ)) (gs : List CoreValue) (least : ℕ) (wide : Bool) (page : Option ℕ) (bytes : List ℕ) → w.ty ≡ import.Memory least wide page → length bytes ≡ first_length c (length ms) → AreZeros bytes
      → AreMade c ws i ms gs → AreMade c ws j (ms ++ bytes ∷ []) gs
  made_memory ms gs least wide page bytes e long zeros m =
      let more : filter_map type_of_memory (drop i ws) ≡ (wide, page) ∷ filter_map type_of_memory (drop j ws) = memories_by (Some (wide, page)) (memory_type w (import.Memory least wide page) e) in
      record {
        count = omega (arith, m.count, ap length more, length-append ms (bytes ∷ []));
        lengths = lengths_next (first_length c) ms bytes long m.lengths;
        zeros = All-push AreZeros ms bytes m.zeros zeros;
        globals = same_globals gs (global_type w (import.Memory least wide page) e) m.globals;
      }

  pub made_global : (ms : List (List ℕ)) (gs : List CoreValue) (t : ValType) (mutable : Bool) (v : CoreValue) → w.ty ≡ import.Global t mutable → v ≡ first_value t → AreMade c ws i ms gs → AreMade c ws j ms (gs ++ v ∷ [])
  made_global ms gs t mutable v e is_first m =
      let more : filter_map type_of_global (drop i ws) ≡ t ∷ filter_map type_of_global (drop j ws) = globals_by (Some t) (global_type w (import.Global t mutable) e) in
      record {
        count = ap (λ l. length ms + length l) (sym (memories_by None (memory_type w (import.Global t mutable) e))) ∙ m.count;
        lengths = m.lengths;
        zeros = m.zeros;
        globals = λ rest h.
            subst (AllZip (λ t v. v ≡ first_value t) (filter_map type_of_global ws)) (sym (append_assoc gs (v ∷ []) rest))
            (m.globals (v ∷ rest) (subst (λ ts. AllZip (λ t v. v ≡ first_value t) ts (v ∷ rest)) (sym more) (is_first, h)));
      }

pub made_all : (c : HostCall) (ws : List WasmImport) (i : ℕ) (ms : List (List ℕ)) (gs : List CoreValue) → length ws ≤ i → AreMade c ws i ms gs → IsFirstState c ws (record { memories = ms; globals = gs })
made_all c ws i ms gs le m =
    let none : drop i ws ≡ [] = drop_all i ws le in
    let count : length ms + length (filter_map type_of_memory (drop i ws)) ≡ length (filter_map type_of_memory ws) = m.count in
    let no_more : length (filter_map type_of_memory (drop i ws)) ≡ 0 = ap (λ l. length (filter_map type_of_memory l)) none in
    record {
      count = omega (arith, count, no_more);
      lengths = m.lengths;
      zeros = m.zeros;
      globals = subst (AllZip (λ t v. v ≡ first_value t) (filter_map type_of_global ws)) (append-nil gs) (m.globals [] (subst (λ l. AllZip (λ t v. v ≡ first_value t) (filter_map type_of_global l) []) (sym none) tt));
    }
