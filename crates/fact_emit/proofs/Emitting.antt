-- How pieces of code that were written compose: one function after another, and a local in use around it.
use Rattle.std.proofs.Common.{◌≡◌, ℕ, suc, Bool, true, false, List, [], ◌∷◌, ◌++◌, Option, Some, refl, sym, ap, ◌∙◌, subst, arith, append_assoc, append-nil, map, slice_get}
use Rattle.std.specs.Prelude.{length, nat_eq}
use Rattle.std.specs.List.{filter_map}
use Rattle.std.proofs.lemmas.Bool.{eqb-true, eqb-false}
use Rattle.std.proofs.lemmas.List.{map-append}
use Rattle.fact_wasm.specs.declared.types.ValType.{ValType}
use Rattle.fact_wasm.specs.declared.instr.Instr.{Instr}
use Rattle.fact_wasm.specs.declared.module.WasmModule.{WasmModule}
use Rattle.fact_wasm.specs.Ranges.{AreRanged}
use Rattle.fact_wasm.proofs.Ranged.{all-first, all-second}
use Rattle.fact_types.specs.declared.import.Import.{Import}
use Rattle.fact_types.specs.declared.import.Import.TheVariants as known
use Rattle.fact_types.specs.declared.outside.CoreDef.{CoreDef}
use Rattle.fact_types.specs.declared.outside.MemoryOption.{MemoryOption}
use Rattle.fact_machine.specs.Trace.{Grows}
use Rattle.fact_actions.specs.Running.{ImportPlaces}
use Rattle.fact_actions.specs.Sides.{LiftLowerOptions}
use Rattle.fact_code_laws.specs.Knows.{KnowsFunction}
use Rattle.fact_code_laws.specs.Places.{SideMemory}
use Rattle.fact_emit.specs.declared.imported.RuntimeFunction.{RuntimeFunction}
use Rattle.fact_emit.specs.declared.transcoders.Transcoder.{Transcoder}
use Rattle.fact_emit.specs.declared.writer.Local.{Local}
use Rattle.fact_emit.specs.declared.writer.Writer.{Writer}
use Rattle.fact_emit.specs.Asked.{AskedHelper, HasHelper, HasHelpers}
use Rattle.fact_emit.specs.Emits.{Later, Grew, GrewAsking, Emits, EmitsAsking}
use Rattle.fact_emit.specs.Brought.{Brought}
use Rattle.fact_emit.specs.ImportSection.{is_made_once}
use Rattle.fact_emit.specs.Imports.{HasImport, HasMemory, HasTranscoder, Extended, AreOnce, Serves}
use Rattle.fact_emit.specs.NamedFunctions.{defined_named, defined_place, functions_named, imported_named}
use Rattle.fact_emit.specs.Pieces.{Piece, Is, Both}
use Rattle.fact_emit.specs.Runtime.{import_of, type_of_runtime}
use Rattle.fact_emit.specs.States.{ModuleSoFar, functions_of, next_number, type_of_transcoder}
use Rattle.fact_emit.specs.Writers.{AreNumberTypes, types_of_locals, is_local_in_use, taken_in, Wrote, Took, Freed, TookRuntime, TookTranscoder}
use Rattle.fact_emit.proofs.BroughtLaws.{brought_as, brought_before, brought_between, brought_on, brought_runtime, brought_transcoder}
use Rattle.fact_emit.proofs.NamedLaws.{defined_append, defined_none, ranged_in, ranged_more}
use Rattle.fact_emit.proofs.ImportLaws.{extended_none, extended_on, grown_get, grows_none, grows_on}
use Rattle.fact_emit.proofs.ServingLaws.{serves_sooner}
use Rattle.fact_emit.proofs.ExactItems.{runtime-made-once}

-- ---- growing

code_on : (xs ys zs us vs : List Instr) → ys ≡ xs ++ us → zs ≡ ys ++ vs → zs ≡ xs ++ (us ++ vs)
code_on xs ys zs us vs e f = f ∙ ap (λ l. l ++ vs) e ∙ append_assoc xs us vs

pub grew_on : {first second : List AskedHelper} {a b c : Writer} → GrewAsking first a b → GrewAsking second b c → GrewAsking (first ++ second) a c
grew_on {first} {second} {a} {b} {c} x y = record {
  added = x.added ++ y.added;
  code = code_on a.code.items b.code.items c.code.items x.added y.added x.code y.code;
  calls = defined_append x.added y.added ∙ (λ i. x.calls i ++ y.calls i) ∙ sym (map-append (λ (h : AskedHelper). h.number) first second);
  brought = brought_on x.brought y.brought;
  imports = extended_on x.imports y.imports;
  once = λ o. y.once (x.once o);
  locals = grows_on x.locals y.locals;
  numbers = λ n. y.numbers (x.numbers n);
  still = λ i. y.still i ∙ x.still i;
}

-- what is later than a writer is later than the writer before
pub sooner : {a b : Writer} {M : WasmModule} {p : ImportPlaces} {locals : List ValType} → Extended a.sections b.sections → Grows (types_of_locals a) (types_of_locals b) → Later b M p locals → Later a M p locals
sooner imports grows l = record {
  serves = serves_sooner imports l.serves;
  begin = grows_on grows l.begin;
}

pub same_types : (a b : Writer) → b.locals ≡ a.locals → types_of_locals b ≡ types_of_locals a
same_types a b e = ap (λ v. map (λ (l : Local). l.ty) v.items) e

pub same_locals : (a b : Writer) → b.locals ≡ a.locals → Grows (types_of_locals a) (types_of_locals b)
same_locals a b e = grows_none (same_types a b e)

pub still_numbers : (a b : Writer) → types_of_locals b ≡ types_of_locals a → AreNumberTypes (types_of_locals a) → AreNumberTypes (types_of_locals b)
still_numbers a b e n = subst AreNumberTypes (sym e) n

-- ---- one after another

module _ {P Q R : Piece} where
  -- What one function has written and what another one has written behind it. It asks for what both ask for.
  pub emits_then : {first second : List AskedHelper} {a b c : Writer} → ((M : WasmModule) (p : ImportPlaces) (locals : List ValType) (x y : List Instr) → P M p locals x → Q M p locals y → R M p locals (x ++ y))
      → EmitsAsking first a b P → EmitsAsking second b c Q → EmitsAsking (first ++ second) a c R
  unfolding grew_on
  emits_then {first} {second} join x y = record {
    grew = grew_on x.grew y.grew;
    does = λ M p locals l h.
        join M p locals x.grew.added y.grew.added
        (x.does M p locals (sooner y.grew.imports y.grew.locals l) (all-first (HasHelper M p) first second h)) (y.does M p locals l (all-second (HasHelper M p) first second h));
  }

-- both, of which no more is said yet
pub emits_both : {first second : List AskedHelper} {P Q : Piece} {a b c : Writer} → EmitsAsking first a b P → EmitsAsking second b c Q → EmitsAsking (first ++ second) a c (Both P Q)
emits_both x y = emits_then (λ M p locals c k h g. record { first = c; second = k; first_holds = h; second_holds = g; is = refl }) x y

-- more is known of it
pub emits_as : {asks : List AskedHelper} {P Q : Piece} {a b : Writer} → ((M : WasmModule) (p : ImportPlaces) (locals : List ValType) (x : List Instr) → P M p locals x → Q M p locals x) → EmitsAsking asks a b P → EmitsAsking asks a b Q
emits_as f x = record { grew = x.grew; does = λ M p locals l h. f M p locals x.grew.added (x.does M p locals l h) }

-- ---- exact code

pub same_still : (a b : Writer) → b.locals ≡ a.locals → (i : ℕ) → taken_in b i ≡ taken_in a i
same_still a b e i = ap (λ v. is_local_in_use (slice_get v.items i)) e

-- instructions that were put there, in range with the functions that were imported before
pub grew_before : {a b : Writer} {xs : List Instr} → AreRanged (length (functions_of a.sections)) 0 xs → Wrote a b xs → Grew a b
grew_before {a} {b} {xs} ranged w = record {
  added = xs;
  code = w.code;
  calls = defined_none (length (functions_of a.sections)) xs ranged;
  brought = brought_before w.imports (ranged_in (length (functions_of a.sections)) (length (functions_of a.sections)) 0 (next_number a.sections) (omega arith) (omega arith) xs ranged);
  imports = extended_none w.imports;
  once = λ o. subst AreOnce (sym w.imports) o;
  locals = same_locals a b w.locals;
  numbers = still_numbers a b (same_types a b w.locals);
  still = same_still a b w.locals;
}

pub emits_before : {a b : Writer} {xs : List Instr} → AreRanged (length (functions_of a.sections)) 0 xs → Wrote a b xs → Emits a b (Is xs)
unfolding grew_before
emits_before ranged w = record { grew = grew_before ranged w; does = λ M p locals l h. refl }

-- they name no function
pub grew_wrote : {a b : Writer} {xs : List Instr} → AreRanged 0 0 xs → Wrote a b xs → Grew a b
grew_wrote {a} {xs = xs} ranged w = grew_before (ranged_more 0 (length (functions_of a.sections)) (omega arith) xs ranged) w

pub emits_wrote : {a b : Writer} {xs : List Instr} → AreRanged 0 0 xs → Wrote a b xs → Emits a b (Is xs)
unfolding grew_before grew_wrote
emits_wrote ranged w = record { grew = grew_wrote ranged w; does = λ M p locals l h. refl }

pub wrote_then : {a b c : Writer} {xs ys : List Instr} → Wrote a b xs → Wrote b c ys → Wrote a c (xs ++ ys)
wrote_then {a} {b} {c} {xs} {ys} x y = record { code = code_on a.code.items b.code.items c.code.items xs ys x.code y.code; locals = y.locals ∙ x.locals; imports = y.imports ∙ x.imports }

pub wrote_none : (a : Writer) → Wrote a a []
wrote_none a = record { code = sym (append-nil a.code.items); locals = refl; imports = refl }

-- no code, and nothing changed
pub grew_nothing : (a : Writer) → Grew a a
grew_nothing a = grew_wrote tt (wrote_none a)

pub emits_nothing : {a : Writer} {P : Piece} → ((M : WasmModule) (p : ImportPlaces) (locals : List ValType) → P M p locals []) → Emits a a P
unfolding grew_before grew_wrote grew_nothing
emits_nothing {a} d = record { grew = grew_nothing a; does = λ M p locals l h. d M p locals }

-- ---- imports

-- of what is made once the place is known
pub serves_imported : {M : WasmModule} {p : ImportPlaces} {s : ModuleSoFar} {i : Import} {place : ℕ} {params results : List ValType} → is_made_once i ≡ true → Serves M p s → HasImport s i place params results → KnowsFunction M p i place params results
serves_imported made s i = s.functions _ _ _ _ made i

-- the memory of a side that was imported
pub serves_side : {M : WasmModule} {p : ImportPlaces} {s : ModuleSoFar} {place : ℕ} {log2 : Option ℕ} (o : LiftLowerOptions) (m : MemoryOption) → Serves M p s → HasMemory s m.def place m.memory64 log2 → o.memory ≡ Some m → SideMemory M p o m.memory64 place
serves_side {log2 = log2} o m s i is = record { option = m; is = is; wide = refl; log2 = log2; has = s.memories _ _ _ _ i }

-- A function was imported, or a helper asked for, and then code was put there that names it, and no other one.
module _ {a b c : Writer} {xs : List Instr} (code : b.code.items ≡ a.code.items) (locals : b.locals ≡ a.locals) (imports : Extended a.sections b.sections) (once : AreOnce a.sections → AreOnce b.sections)
    (brought : Brought a.sections b.sections xs) (y : Wrote b c xs) {asks : List AskedHelper} (calls : defined_named xs ≡ map (λ h. h.number) asks) where
  pub grew_naming : GrewAsking asks a c
  grew_naming = record {
    added = xs;
    code = y.code ∙ ap (λ l. l ++ xs) code;
    calls = calls;
    brought = brought_between refl (sym y.imports) brought;
    imports = extended_on imports (extended_none y.imports);
    once = λ o. subst AreOnce (sym y.imports) (once o);
    locals = grows_on (same_locals a b locals) (same_locals b c y.locals);
    numbers = λ n. still_numbers b c (same_types b c y.locals) (still_numbers a b (same_types a b locals) n);
    still = λ i. same_still b c y.locals i ∙ same_still a b locals i;
  }

  pub emits_naming : {P : Piece} → ((M : WasmModule) (p : ImportPlaces) (locals : List ValType) → Serves M p b.sections → HasHelpers M p asks → P M p locals xs) → EmitsAsking asks a c P
  unfolding grew_naming
  emits_naming d = record { grew = grew_naming; does = λ M p locals l h. d M p locals (sooner {a = b} (extended_none y.imports) (same_locals b c y.locals) l).serves h }

-- a function of the runtime
pub emits_taking : {a b c : Writer} {f : RuntimeFunction} {place : ℕ} {xs : List Instr} → imported_named xs ≡ place ∷ [] → AreRanged (suc place) 0 xs → TookRuntime a b f place → Wrote b c xs
    → {P : Piece} → ((M : WasmModule) (p : ImportPlaces) (locals : List ValType) → KnowsFunction M p (import_of f) place (type_of_runtime f).params (type_of_runtime f).results → P M p locals xs) → Emits a c P
emits_taking {f = f} {place} {xs} names ranged x y d = emits_naming x.code x.locals x.imports x.once (brought_runtime names ranged x.imported) y {asks = []} (defined_none (suc place) xs ranged) (λ M p locals serves none. d M p locals (serves_imported (runtime-made-once f) serves x.there))

-- The import of a transcoder is that between the definitions of the memories, whichever have their places.
abbrev pub KnowsTranscoder : WasmModule → ImportPlaces → Transcoder → (place : ℕ) → Type 0
KnowsTranscoder M p t place =
    (d e : CoreDef) → p.memory d ≡ t.from_memory.number → p.memory e ≡ t.to_memory.number
    → KnowsFunction M p (known.Transcode t.op d t.from_memory64 e t.to_memory64) place (type_of_transcoder t).params (type_of_transcoder t).results

pub serves_transcoder : {M : WasmModule} {p : ImportPlaces} {s : ModuleSoFar} (t : Transcoder) (place : ℕ) → Serves M p s → HasTranscoder s t place → KnowsTranscoder M p t place
serves_transcoder {M} {p} t place s h d e at at' =
    let from : d ≡ h.from = s.one_memory d h.from t.from_memory.number at h.from_there in
    let to : e ≡ h.to = s.one_memory e h.to t.to_memory.number at' h.to_there in
    subst (λ x. KnowsFunction M p x place (type_of_transcoder t).params (type_of_transcoder t).results) (λ k. known.Transcode t.op (sym from k) t.from_memory64 (sym to k) t.to_memory64) (serves_imported refl s h.has)

-- a transcoder
pub emits_transcoding : {a b c : Writer} {t : Transcoder} {place : ℕ} {xs : List Instr} → imported_named xs ≡ place ∷ [] → AreRanged (suc place) 0 xs → TookTranscoder a b t place → Wrote b c xs
    → {P : Piece} → ((M : WasmModule) (p : ImportPlaces) (locals : List ValType) → KnowsTranscoder M p t place → P M p locals xs) → Emits a c P
emits_transcoding {t = t} {place} {xs} names ranged x y d = emits_naming x.code x.locals x.imports x.once (brought_transcoder names ranged x.imported) y {asks = []} (defined_none (suc place) xs ranged) (λ M p locals serves none. d M p locals (serves_transcoder t place serves x.there))

-- ---- a body that is written aside

-- the code is what was written where there was none
pub body_is : {asks : List AskedHelper} {b c : Writer} → b.code.items ≡ [] → (x : GrewAsking asks b c) → c.code.items ≡ x.added
body_is empty x = x.code ∙ ap (λ l. l ++ x.added) empty

-- The code was set aside (a, b), a body was written (b, c), and one instruction with this body was put behind the code from
-- before (c, d). The instruction names what the body names, and is in range where the body is.
module _ {a b c d : Writer} (i : Instr) (empty : b.code.items ≡ []) (locals : b.locals ≡ a.locals) (imports : b.sections ≡ a.sections)
    (code : d.code.items ≡ a.code.items ++ i ∷ []) (locals' : d.locals ≡ c.locals) (imports' : d.sections ≡ c.sections)
    (names : functions_named (i ∷ []) ≡ functions_named c.code.items) (ranged : (imports funcs : ℕ) → AreRanged imports funcs c.code.items → AreRanged imports funcs (i ∷ [])) where
  pub grew_aside : {asks : List AskedHelper} → GrewAsking asks b c → GrewAsking asks a d
  grew_aside x = record {
    added = i ∷ [];
    code = code;
    calls = ap (filter_map defined_place) names ∙ ap defined_named (body_is empty x) ∙ x.calls;
    brought = brought_as names ranged (subst (Brought a.sections d.sections) (sym (body_is empty x)) (brought_between imports (sym imports') x.brought));
    imports = extended_on (extended_none imports) (extended_on x.imports (extended_none imports'));
    once = λ o. subst AreOnce (sym imports') (x.once (subst AreOnce (sym imports) o));
    locals = grows_on (same_locals a b locals) (grows_on x.locals (same_locals c d locals'));
    numbers = λ n. still_numbers c d (same_types c d locals') (x.numbers (still_numbers a b (same_types a b locals) n));
    still = λ j. same_still c d locals' j ∙ x.still j ∙ same_still a b locals j;
  }

  pub emits_aside : {asks : List AskedHelper} {P Q : Piece} → ((M : WasmModule) (p : ImportPlaces) (locals : List ValType) → P M p locals c.code.items → Q M p locals (i ∷ [])) → EmitsAsking asks b c P → EmitsAsking asks a d Q
  unfolding grew_aside
  emits_aside {P} f x = record {
    grew = grew_aside x.grew;
    does = λ M p ls l h. f M p ls (subst (P M p ls) (sym (body_is empty x.grew)) (x.does M p ls (sooner {a = c} (extended_none imports') (same_locals c d locals') l) h));
  }

-- ---- a local that is in use around a piece of code

-- the local of this number has this type
abbrev pub IsLocal : ℕ → ValType → List ValType → Type 0
IsLocal i t locals = slice_get locals i ≡ Some t

pub grew_around : {asks : List AskedHelper} {a b c d : Writer} {t : ValType} {i : ℕ} → Took a b t i → GrewAsking asks b c → Freed c d i → GrewAsking asks a d
grew_around {a = a} {b} {c} {d} {i = i} took x freed = record {
  added = x.added;
  code = freed.code ∙ x.code ∙ ap (λ l. l ++ x.added) took.code;
  calls = x.calls;
  brought = brought_between took.imports (sym freed.imports) x.brought;
  imports = extended_on (extended_none took.imports) (extended_on x.imports (extended_none freed.imports));
  once = λ o. subst AreOnce (sym freed.imports) (x.once (subst AreOnce (sym took.imports) o));
  locals = grows_on took.grows (grows_on x.locals (grows_none freed.types));
  numbers = λ n. still_numbers c d freed.types (x.numbers (took.numbers n));
  still = λ j. still j (nat_eq j i) refl;
}
  where
    still : (j : ℕ) (q : Bool) → nat_eq j i ≡ q → taken_in d j ≡ taken_in a j
    still j true q =
        let is : j ≡ i = eqb-true j i q in
        ap (taken_in d) is ∙ freed.free ∙ sym took.was_free ∙ ap (taken_in a) (sym is)
    still j false q = let ne = eqb-false j i q in freed.others j ne ∙ x.still j ∙ took.others j ne

pub emits_around : {asks : List AskedHelper} {P Q : Piece} {a b c d : Writer} {t : ValType} {i : ℕ}
    → ((M : WasmModule) (p : ImportPlaces) (locals : List ValType) (x : List Instr) → IsLocal i t locals → P M p locals x → Q M p locals x)
    → Took a b t i → EmitsAsking asks b c P → Freed c d i → EmitsAsking asks a d Q
unfolding grew_around
emits_around {a = a} {b} {c} {d} {i = i} f took x freed = record {
  grew = grew_around took x.grew freed;
  does = λ M p locals l h.
      let before : Later c M p locals = sooner (extended_none freed.imports) (grows_none freed.types) l in
      f M p locals x.grew.added (grown_get (grows_on x.grew.locals (grows_on (grows_none freed.types) l.begin)) i _ took.typed) (x.does M p locals before h);
}
