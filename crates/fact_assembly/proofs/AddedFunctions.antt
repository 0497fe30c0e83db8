-- What an adapter's functions add to what a module defines and exports: they stand behind the others, and their exports behind the exports.
use Rattle.std.proofs.Common.{◌≡◌, ℕ, ◌+◌, Bool, true, false, List, [], ◌∷◌, ◌++◌, Option, refl, sym, ap, ◌∙◌, subst, arith, length, length-append, append-nil, append_assoc, inl, inr}
use Rattle.fact_wasm.specs.declared.instr.FuncName.TheVariants as func
use Rattle.fact_wasm.specs.declared.module.WasmExport.{WasmExport}
use Rattle.fact_wasm.specs.declared.module.WasmFunc.{WasmFunc}
use Rattle.fact_wasm.specs.declared.types.ValType.{ValType}
use Rattle.fact_entity.specs.declared.id.Id.{Id}
use Rattle.fact_entity.specs.declared.table.Memories.{Memories}
use Rattle.fact_types.specs.Adapters.{LinkedAdapter}
use Rattle.fact_types.specs.Tables.{Tables}
use Rattle.fact_actions.specs.Adapters.{AdapterTunables}
use Rattle.fact_emit.specs.ImportSection.{is_awaited}
use Rattle.fact_emit.specs.States.{KeepsDefined, ModuleSoFar, export_as, with_callee, with_exported, with_numbered}
use Rattle.fact_emit.specs.TaskCalls.{IsPrepareCallImported, IsStartCallImported}
use Rattle.fact_emit.specs.declared.task_calls.StartCall.{StartCall}
use Rattle.fact_emit.proofs.DefinedKept.{defined_brought, defined_on, defined_same, defined_type}
use Rattle.fact_compound.specs.AsyncParts.{callee_name, part_name}
use Rattle.fact_compound.specs.Entries.{CompiledEntry}
use Rattle.fact_compound.specs.Helpers.{CompiledHelpers}
use Rattle.fact_compound.specs.Puts.{PutsFunction}
use Rattle.fact_compound.specs.declared.adapters.AdapterData.{AdapterData}
use Rattle.fact_compound.specs.declared.asyncs.AsyncPart.TheVariants as part
use Rattle.fact_assembly.specs.Adding.{AsParts, AsSync, AsTrap, CompiledAs, own_functions}
use Rattle.fact_assembly.specs.Holding.{named_from, own_names}
use Rattle.fact_assembly.proofs.CompiledLaws.{not-awaited-sync, not-awaited-within}
use Rattle.fact_assembly.proofs.WholeExports.{named-behind}

-- ---- functions and exports behind others

pub record AddsBehind (old new : ModuleSoFar) (fs : List WasmFunc) (names : List (List ℕ)) (callees : List WasmExport) : Type 0 where
  pub functions : new.functions ≡ old.functions ++ fs
  pub exports : new.exports ≡ old.exports ++ named_from (length old.functions) names
  pub callees_are : new.callees ≡ old.callees ++ callees

one-behind : {old written new : ModuleSoFar} (name : List ℕ) (f : WasmFunc) → KeepsDefined old written → new ≡ with_exported written name f → AddsBehind old new (f ∷ []) (name ∷ []) []
one-behind {old} name f kept is = record {
  functions = ap (λ (s : ModuleSoFar). s.functions) is ∙ ap (λ fs. fs ++ f ∷ []) kept.functions;
  exports = ap (λ (s : ModuleSoFar). s.exports) is ∙ (λ k. kept.exports k ++ export_as name (func.Defined (length (kept.functions k))) ∷ []);
  callees_are = ap (λ (s : ModuleSoFar). s.callees) is ∙ kept.callees ∙ sym (append-nil old.callees);
}

callee-behind : {old new : ModuleSoFar} (name : List ℕ) (place : ℕ) → new ≡ with_callee old name place → AddsBehind old new [] [] (export_as name (func.Import place) ∷ [])
callee-behind {old} name place is = record {
  functions = ap (λ (s : ModuleSoFar). s.functions) is ∙ sym (append-nil old.functions);
  exports = ap (λ (s : ModuleSoFar). s.exports) is ∙ sym (append-nil old.exports);
  callees_are = ap (λ (s : ModuleSoFar). s.callees) is;
}

pub behind-kept : {a b c : ModuleSoFar} {fs : List WasmFunc} {names : List (List ℕ)} {callees : List WasmExport} → KeepsDefined a b → AddsBehind b c fs names callees → AddsBehind a c fs names callees
behind-kept {fs = fs} {names} {callees} kept x = record {
  functions = x.functions ∙ ap (λ gs. gs ++ fs) kept.functions;
  exports = x.exports ∙ (λ k. kept.exports k ++ named_from (length (kept.functions k)) names);
  callees_are = x.callees_are ∙ ap (λ es. es ++ callees) kept.callees;
}

behind-on : {a b c : ModuleSoFar} {fs gs : List WasmFunc} {xs ys : List (List ℕ)} {cs ds : List WasmExport} → length fs ≡ length xs → AddsBehind a b fs xs cs → AddsBehind b c gs ys ds → AddsBehind a c (fs ++ gs) (xs ++ ys) (cs ++ ds)
behind-on {a} {b} {fs = fs} {gs} {xs} {ys} {cs} {ds} even x y =
    let count : length b.functions ≡ length a.functions + length xs = omega (arith, ap length x.functions, length-append a.functions fs, even) in
    record {
      functions = y.functions ∙ ap (λ hs. hs ++ gs) x.functions ∙ append_assoc a.functions fs gs;
      exports = y.exports ∙ (λ k. x.exports k ++ named_from (count k) ys) ∙ append_assoc a.exports (named_from (length a.functions) xs) (named_from (length a.functions + length xs) ys)
          ∙ ap (λ es. a.exports ++ es) (sym (named-behind (length a.functions) xs ys));
      callees_are = y.callees_are ∙ ap (λ es. es ++ ds) x.callees_are ∙ append_assoc a.callees cs ds;
    }

-- ---- what is kept until a function is put there

put-behind : {name : List ℕ} {old new : ModuleSoFar} {f : WasmFunc} → PutsFunction name old new f → AddsBehind old new (f ∷ []) (name ∷ []) []
put-behind {name} {f = f} x = one-behind name f (defined_on (defined_type x.declares) (defined_brought x.brought)) x.is_last

start-kept : {old new : ModuleSoFar} {adapter : List ℕ} {c : StartCall} {results : List ValType} {place : ℕ} → IsStartCallImported old new adapter c results place → KeepsDefined old new
start-kept x = elim x.step [
  | inl there ↦ defined_on (defined_type x.types) (defined_same there.0)
  | inr anew ↦ defined_on (defined_type x.types) (record { functions = ap (λ (s : ModuleSoFar). s.functions) anew.0; exports = ap (λ (s : ModuleSoFar). s.exports) anew.0; callees = ap (λ (s : ModuleSoFar). s.callees) anew.0 })
]

prepare-kept : {old new : ModuleSoFar} {adapter : List ℕ} {m : Option (Id Memories)} {params : List ValType} {place : ℕ} → IsPrepareCallImported old new adapter m params place → KeepsDefined old new
prepare-kept x = defined_on (defined_type x.types) (record { functions = ap (λ (s : ModuleSoFar). s.functions) x.is_new; exports = ap (λ (s : ModuleSoFar). s.exports) x.is_new; callees = ap (λ (s : ModuleSoFar). s.callees) x.is_new })

entry-behind : {t : Tables} (d : AdapterData) {start return : ℕ} {old new : ModuleSoFar} (c : CompiledEntry t d start return old new) → AddsBehind old new (c.function ∷ []) (d.name ∷ []) []
entry-behind d c = one-behind d.name c.function (defined_on (defined_type c.declares) (defined_on (start-kept c.calls.starts) (prepare-kept c.calls.prepares))) c.is_last

-- ---- an adapter

-- the callees that it exports
abbrev pub own_callees : {end : ModuleSoFar} {t : Tables} {d : AdapterData} {u : AdapterTunables} {a : LinkedAdapter} {old new : ModuleSoFar} → CompiledAs end t d u a old new → List WasmExport
own_callees (AsTrap within c) = []
own_callees (AsSync crosses sync c) = []
own_callees {d = d} {a = a} (AsParts awaited c) = export_as (callee_name a.name) (func.Import d.callee.number) ∷ []

single-name : (a : LinkedAdapter) → is_awaited a ≡ false → a.name ∷ [] ≡ own_names a
single-name a none = rw none refl

three-names : (a : LinkedAdapter) → is_awaited a ≡ true → part_name part.Start a.name ∷ part_name part.Return a.name ∷ a.name ∷ [] ≡ own_names a
three-names a awaited = rw awaited refl

pub compiled-behind : {end : ModuleSoFar} {t : Tables} {d : AdapterData} {u : AdapterTunables} {a : LinkedAdapter} {old new : ModuleSoFar} → d.name ≡ a.name → (c : CompiledAs end t d u a old new) → AddsBehind old new (own_functions c) (own_names a) (own_callees c)
compiled-behind {d = d} {a = a} {old} {new} name (AsTrap within c) =
    subst (λ xs. AddsBehind old new (c.function ∷ []) xs []) (single-name a (not-awaited-within a within))
    (subst (λ n. AddsBehind old new (c.function ∷ []) (n ∷ []) []) name (one-behind d.name c.function (defined_on (defined_type c.declares) (defined_brought c.brought)) c.is_last))
compiled-behind {d = d} {a = a} {old} {new} name (AsSync crosses sync c) =
    subst (λ xs. AddsBehind old new (c.function ∷ []) xs []) (single-name a (not-awaited-sync a sync))
    (subst (λ n. AddsBehind old new (c.function ∷ []) (n ∷ []) []) name (one-behind d.name c.function (defined_on (defined_type c.declares) (defined_brought c.brought)) c.is_last))
compiled-behind {d = d} {a = a} {old} {new} name (AsParts awaited c) =
    let own : List WasmFunc = c.start.function ∷ c.return.function ∷ c.entry.function ∷ [] in
    let parts : AddsBehind old c.returned (c.start.function ∷ c.return.function ∷ []) (part_name part.Start d.name ∷ part_name part.Return d.name ∷ []) [] = behind-on refl (put-behind c.start.puts) (put-behind c.return.puts) in
    let all : AddsBehind old c.entered own (part_name part.Start d.name ∷ part_name part.Return d.name ∷ d.name ∷ []) [] = behind-on refl parts (entry-behind d c.entry) in
    let whole : AddsBehind old new own (part_name part.Start d.name ∷ part_name part.Return d.name ∷ d.name ∷ []) (export_as (callee_name d.name) (func.Import d.callee.number) ∷ []) =
    behind-on refl all (callee-behind (callee_name d.name) d.callee.number c.callee) in
    subst (λ xs. AddsBehind old new own xs (export_as (callee_name a.name) (func.Import d.callee.number) ∷ [])) (three-names a awaited)
    (subst (λ n. AddsBehind old new own (part_name part.Start n ∷ part_name part.Return n ∷ n ∷ []) (export_as (callee_name n) (func.Import d.callee.number) ∷ [])) name whole)

-- ---- helpers

-- numbers that are taken ahead change nothing of it
pub numbers-kept : (s : ModuleSoFar) (count : ℕ) → KeepsDefined s (with_numbered s count)
numbers-kept s count = record { functions = refl; exports = refl; callees = refl }

-- the helpers stand behind an adapter's own functions
pub helpers-behind : {t : Tables} {debug concurrency : Bool} {fuel first : ℕ} {old own new : ModuleSoFar} {fs : List WasmFunc} {names : List (List ℕ)} {callees : List WasmExport}
    → AddsBehind old own fs names callees → (h : CompiledHelpers t debug concurrency fuel first own new) → AddsBehind old new (fs ++ h.written) names callees
helpers-behind {old = old} {fs = fs} x h = record {
  functions = ap (λ (s : ModuleSoFar). s.functions) h.is ∙ ap (λ gs. gs ++ h.written) (h.wrote.kept.functions ∙ x.functions) ∙ append_assoc old.functions fs h.written;
  exports = ap (λ (s : ModuleSoFar). s.exports) h.is ∙ h.wrote.kept.exports ∙ x.exports;
  callees_are = ap (λ (s : ModuleSoFar). s.callees) h.is ∙ h.wrote.kept.callees ∙ x.callees_are;
}
