-- Helpers behind an adapter's own functions: what is imported for them, what their code is the first to name and to ask for, and that they were
-- written in turn.
use Rattle.std.proofs.Common.{◌≡◌, ℕ, zero, suc, ◌+◌, ◌-◌, ◌≤◌, Bool, List, [], ◌∷◌, ◌++◌, Option, Some, None, refl, sym, ap, ◌∙◌, subst, arith, inl, inr, Contains, length, length-append, map, slice_get}
use Rattle.std.specs.List.{AllByRecursion, range_with_len}
use Rattle.std.proofs.lemmas.List.{map-append}
use Rattle.std.proofs.lemmas.List.FromFn.{length-range_with_len}
use Rattle.fact_wasm.specs.declared.module.WasmFunc.{WasmFunc}
use Rattle.fact_wasm.specs.declared.module.WasmImport.{WasmImport}
use Rattle.fact_wasm.specs.declared.types.FuncType.{FuncType}
use Rattle.fact_types.specs.Adapters.{LinkedAdapter}
use Rattle.fact_types.specs.Tables.{Tables}
use Rattle.fact_types.specs.declared.import.Import.{Import}
use Rattle.fact_emit.specs.declared.helpers.Helper.{Helper}
use Rattle.fact_emit.specs.ImportSection.{Mention, adapter_mentions}
use Rattle.fact_emit.specs.AdapterImports.{AdapterImports, IsAdapterImported}
use Rattle.fact_emit.specs.Imports.{Extended}
use Rattle.fact_emit.specs.DefImports.{HasTypeIfAny}
use Rattle.fact_emit.specs.Listed.{AreImportedInTurn, ListsMentions}
use Rattle.fact_emit.specs.States.{IsImported, KeepsDefined, ModuleSoFar, next_number}
use Rattle.fact_emit.proofs.BroughtLaws.{brought_counts}
use Rattle.fact_emit.proofs.DefinedKept.{defined_import, defined_on, defined_same, defined_type}
use Rattle.fact_emit.proofs.ImportLaws.{extended_on}
use Rattle.fact_emit.proofs.ImportedInTurn.{imported_adapter}
use Rattle.fact_emit.proofs.ListedLaws.{listed_called, listed_even, listed_type}
use Rattle.fact_compound.specs.Helpers.{AreWrittenInTurn, HelpersAreThere, NoneWaits as NoHelperWaits, OneIsNext, WroteHelper}
use Rattle.fact_compound.proofs.AsksLaws.{writable_later}
use Rattle.fact_assembly.specs.Order.{AreWritten, LastComes, NoneWaits, newly_asked}
use Rattle.fact_assembly.proofs.FirstAsked.{AreFirstAsked, asked-brought, asked-on, asked-type, newly-are, type-helpers, type-number}
use Rattle.fact_assembly.proofs.NewNamed.{AreFirstNamed, first-brought, first-on, first-type}
use Rattle.fact_assembly.proofs.OwnLaws.{known_of}

-- ---- the functions and exports stay

kept_if_any : (old new : ModuleSoFar) (ty : Option FuncType) → HasTypeIfAny old new ty → KeepsDefined old new
kept_if_any old new None same = defined_same same
kept_if_any old new (Some ty) has = defined_type has

pub kept_imported : (rs : List Mention) (old new : ModuleSoFar) → AreImportedInTurn old new rs → KeepsDefined old new
kept_imported [] old new l = defined_same l
kept_imported (r ∷ rs) old new l = defined_on (kept_if_any old l.2.typed _ l.2.types) (defined_on (defined_import l.2.imported) (kept_imported rs l.0 new l.3))

-- ---- helpers stay while an adapter is imported

pub record KeepsHelpers (old new : ModuleSoFar) : Type 0 where
  pub helpers : new.helpers ≡ old.helpers
  pub numbered : new.numbered ≡ old.numbered

keeps-same : {old new : ModuleSoFar} → new ≡ old → KeepsHelpers old new
keeps-same e = record { helpers = ap (λ (s : ModuleSoFar). s.helpers) e; numbered = ap (λ (s : ModuleSoFar). s.numbered) e }

keeps-on : {a b c : ModuleSoFar} → KeepsHelpers a b → KeepsHelpers b c → KeepsHelpers a c
keeps-on x y = record { helpers = y.helpers ∙ x.helpers; numbered = y.numbered ∙ x.numbered }

keeps-if-any : (old new : ModuleSoFar) (ty : Option FuncType) → HasTypeIfAny old new ty → KeepsHelpers old new
keeps-if-any old new None same = keeps-same same
keeps-if-any old new (Some ty) (inl same) = keeps-same same
keeps-if-any old new (Some ty) (inr anew) = record { helpers = ap (λ (s : ModuleSoFar). s.helpers) anew.1; numbered = ap (λ (s : ModuleSoFar). s.numbered) anew.1 }

keeps-import : {old new : ModuleSoFar} {w : WasmImport} {i : Import} {place : ℕ} → IsImported old new w i place → KeepsHelpers old new
keeps-import h = elim h.step [
  | inl there ↦ keeps-same there.0
  | inr anew ↦ record { helpers = ap (λ (s : ModuleSoFar). s.helpers) anew.0; numbered = ap (λ (s : ModuleSoFar). s.numbered) anew.0 }
]

pub keeps-imported : (rs : List Mention) (old new : ModuleSoFar) → AreImportedInTurn old new rs → KeepsHelpers old new
keeps-imported [] old new l = keeps-same l
keeps-imported (r ∷ rs) old new l = keeps-on (keeps-if-any old l.2.typed _ l.2.types) (keeps-on (keeps-import l.2.imported) (keeps-imported rs l.0 new l.3))

-- each helper has its function still
pub helpers-still : {t : Tables} {debug concurrency : Bool} {fuel : ℕ} {old new : ModuleSoFar} → Extended old new → KeepsDefined old new → KeepsHelpers old new → HelpersAreThere t debug concurrency fuel old → HelpersAreThere t debug concurrency fuel new
helpers-still {old = old} {new} later kept keeps h = record {
  all = λ e c.
      let was = h.all e (before e c) in
      record { function = was.function; there = ap (λ fs. slice_get fs e.1) kept.functions ∙ was.there; before = was.before; written = was.written; wrote = was.wrote; later = extended_on was.later later };
  writable = record {
    all = λ e c. writable_later later (h.writable.all e (before e c));
    below = λ e c. let lt = h.writable.below e (before e c) in omega (arith, lt, keeps.numbered, ap length kept.functions);
  };
  numbered = omega (arith, h.numbered, keeps.numbered, ap length kept.functions);
}
  where
    before : (e : Helper × ℕ) → Contains new.helpers e → Contains old.helpers e
    before e c = subst (λ es. Contains es e) keeps.helpers c

-- Where what an adapter names was imported each helper has its function still.
pub helpers-imported : {t : Tables} {debug concurrency : Bool} {fuel : ℕ} {old new : ModuleSoFar} (a : LinkedAdapter) (places : AdapterImports) → IsAdapterImported old new a places → Extended old new → HelpersAreThere t debug concurrency fuel old → HelpersAreThere t debug concurrency fuel new
helpers-imported {old = old} {new} a places is_imported later h =
    let in-turn = imported_adapter old new a places is_imported in
    helpers-still later (kept_imported (adapter_mentions a) old new in-turn) (keeps-imported (adapter_mentions a) old new in-turn) h

-- ---- one helper

module _ {t : Tables} {debug concurrency : Bool} {fuel : ℕ} {key : Helper} {old new : ModuleSoFar} {f : WasmFunc} (w : WroteHelper t debug concurrency fuel key old new f) where
  asked-wrote : AreFirstAsked old new (f ∷ [])
  asked-wrote = asked-on {fs = []} (asked-type w.declares) (asked-brought f w.brought)

  -- as many numbers are taken as helpers are new
  wrote-counts : next_number new + length old.helpers ≡ next_number old + length new.helpers
  wrote-counts = let counts = brought_counts w.brought in let same = type-number w.declares in let helpers = type-helpers w.declares in omega (arith, counts, same, helpers)

  module _ (ms : List Mention) (adapters : List LinkedAdapter) (lists : ListsMentions old ms adapters) where
    lists-declared : ListsMentions w.declared ms adapters
    lists-declared = listed_type old w.declared ms adapters _ w.declares lists

    listed-wrote : ListsMentions new ms adapters
    listed-wrote = listed_called w.brought.called w.declared new ms adapters w.brought.imported lists-declared

    first-wrote : AreFirstNamed old new (f ∷ [])
    first-wrote = first-on {fs = []} (first-type (listed_even old ms adapters lists) w.declares) (first-brought ms f (known_of lists-declared) (known_of listed-wrote) w.brought)

-- ---- all of them, in turn

abbrev pub functions-written : List (ℕ × WasmFunc) → List WasmFunc
functions-written order = map (λ (e : ℕ × WasmFunc). e.1) order

module _ {t : Tables} {debug concurrency : Bool} {fuel : ℕ} {end : ModuleSoFar} (ms : List Mention) (adapters : List LinkedAdapter) where
  pub listed-turns : {s : ModuleSoFar} {waiting : List ℕ} {order : List (ℕ × WasmFunc)} → AreWrittenInTurn t debug concurrency fuel end s waiting order → ListsMentions s ms adapters → ListsMentions end ms adapters
  listed-turns NoHelperWaits lists = lists
  listed-turns (OneIsNext s s' waiting place e f order at w rest) lists = listed-turns rest (listed-wrote w ms adapters lists)

  pub first-turns : {s : ModuleSoFar} {waiting : List ℕ} {order : List (ℕ × WasmFunc)} → AreWrittenInTurn t debug concurrency fuel end s waiting order → ListsMentions s ms adapters → AreFirstNamed s end (functions-written order)
  first-turns NoHelperWaits lists = first-type {ty = record { params = []; results = [] }} (listed_even end ms adapters lists) (inl refl)
  first-turns (OneIsNext s s' waiting place e f order at w rest) lists = first-on {fs = f ∷ []} (first-wrote w ms adapters lists) (first-turns rest (listed-wrote w ms adapters lists))

-- ---- the order

-- Places of helpers have their functions' numbers: those from a place on stand behind so many functions.
module _ (first base : ℕ) where
  abbrev pub number_of : ℕ → ℕ
  number_of place = base + (place - first)

  pub numbers-range : (n m : ℕ) → first ≤ n → map number_of (range_with_len n m) ≡ range_with_len (number_of n) m
  numbers-range n zero le = refl
  numbers-range n (suc m) le =
      let next : number_of (n + 1) ≡ number_of n + 1 = omega (arith, le) in
      ap (λ ks. number_of n ∷ ks) (numbers-range (n + 1) m (omega (arith, le)) ∙ ap (λ k. range_with_len k m) next)

module _ {t : Tables} {debug concurrency : Bool} {fuel : ℕ} {end : ModuleSoFar} (first base : ℕ) (functions : List WasmFunc) where
  pub written-in-turn : {s : ModuleSoFar} {waiting : List ℕ} {order : List (ℕ × WasmFunc)} → AreWrittenInTurn t debug concurrency fuel end s waiting order → first ≤ length s.helpers → next_number s ≡ number_of first base (length s.helpers)
      → AllByRecursion (λ (e : ℕ × WasmFunc). slice_get functions (number_of first base e.0) ≡ Some e.1) order → AreWritten functions (map (number_of first base) waiting) (next_number s) (functions-written order)
  written-in-turn NoHelperWaits le next there = NoneWaits (next_number end)
  written-in-turn (OneIsNext s s' waiting place e f order at w rest) le next there =
      let asked = asked-wrote w in
      let counts = wrote-counts w in
      let count : ℕ = length s'.helpers - length s.helpers in
      let more : next_number s' - next_number s ≡ count = omega (arith, counts, asked.numbers) in
      let newly : newly_asked (next_number s) (f ∷ []) ≡ range_with_len (next_number s) count = newly-are asked ∙ ap (range_with_len (next_number s)) more in
      let waits : map (number_of first base) (waiting ++ range_with_len (length s.helpers) count) ≡ map (number_of first base) waiting ++ newly_asked (next_number s) (f ∷ []) =
      map-append (number_of first base) waiting (range_with_len (length s.helpers) count)
      ∙ ap (λ ks. map (number_of first base) waiting ++ ks) (numbers-range first base (length s.helpers) count le ∙ ap (λ k. range_with_len k count) (sym next) ∙ sym newly) in
      let grown = ap length w.imports.helpers.is ∙ length-append s.helpers w.imports.helpers.more in
      let last : next_number s' ≡ next_number s + length (newly_asked (next_number s) (f ∷ [])) = omega (arith, counts, asked.numbers, ap length newly, length-range_with_len (next_number s) count, grown) in
      let behind = written-in-turn rest (omega (arith, le, grown)) (omega (arith, next, counts, grown, le)) there.1 in
      subst (λ ks. AreWritten functions ks (next_number s) (f ∷ functions-written order)) (sym (map-append (number_of first base) waiting (place ∷ [])))
      (LastComes (map (number_of first base) waiting) (next_number s) (number_of first base place) f (functions-written order) there.0
      (subst (λ n. AreWritten functions (map (number_of first base) waiting ++ newly_asked (next_number s) (f ∷ [])) n (functions-written order)) last
      (subst (λ ks. AreWritten functions ks (next_number s') (functions-written order)) waits behind)))
