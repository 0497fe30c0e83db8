-- What pieces of code that were written one behind the other ask for.
use Rattle.std.proofs.Common.{◌≡◌, ℕ, zero, suc, ◌+◌, ◌<◌, ◌≤◌, ◌⊎◌, Bool, true, false, Option, List, [], ◌∷◌, ◌++◌, refl, sym, ap, ◌∙◌, subst, arith, map, inl, inr, append-nil, append_assoc, length, length-append}
use Rattle.std.specs.Prelude.{if◌then◌else◌, max, nat_eq}
use Rattle.std.specs.List.{AllByRecursion, Contains, list_any, range_with_len}
use Rattle.std.proofs.lemmas.Bool.{cases_lt}
use Rattle.std.proofs.lemmas.Bool.Decides.{eqb_tells}
use Rattle.std.proofs.lemmas.List.Elements.{Contains-append_cases, Contains-append_left, Contains-append_right}
use Rattle.std.proofs.lemmas.List.{map-append}
use Rattle.fact_wasm.proofs.Ranged.{all-append}
use Rattle.fact_wasm.specs.declared.instr.Instr.{Instr}
use Rattle.fact_wasm.specs.declared.module.WasmFunc.{WasmFunc}
use Rattle.fact_wasm.specs.declared.module.WasmImport.{WasmImport}
use Rattle.fact_wasm.specs.declared.types.FuncType.{FuncType}
use Rattle.fact_wasm.specs.declared.types.ValType.{ValType}
use Rattle.fact_entity.specs.declared.id.Id.{Id}
use Rattle.fact_entity.specs.declared.table.Memories.{Memories}
use Rattle.fact_types.specs.Tables.{Tables}
use Rattle.fact_types.specs.declared.import.Import.{Import}
use Rattle.fact_emit.specs.declared.helpers.Helper.{Helper}
use Rattle.fact_emit.specs.declared.imported.RuntimeFunction.{RuntimeFunction}
use Rattle.fact_emit.specs.declared.writer.Writer.{Writer}
use Rattle.fact_emit.specs.declared.places.Sides.{Sides}
use Rattle.fact_emit.specs.Asked.{AskedHelper}
use Rattle.fact_emit.specs.Brought.{AreCalledImported, Brought, CalledFunction, Helping, IsCalledImported, Runtime, Transcoding}
use Rattle.fact_emit.specs.Emits.{Emits, GrewAsking}
use Rattle.fact_emit.specs.NamedFunctions.{added_once, all_added_once, defined_named}
use Rattle.fact_emit.specs.Pieces.{Piece}
use Rattle.fact_emit.specs.Imports.{Extended}
use Rattle.fact_emit.specs.ImportSection.{imports_of, sort_of}
use Rattle.fact_emit.specs.States.{HasType, IsImported, IsRuntimeImported, ModuleSoFar, next_number, with_helper, with_import}
use Rattle.fact_compound.specs.Asks.{AreNewAsked, AsksFor, CanBeWritten, IsAskedHere, helpers_from}
use Rattle.fact_emit.specs.TaskCalls.{IsPrepareCallImported, IsStartCallImported}
use Rattle.fact_emit.specs.declared.task_calls.StartCall.{StartCall}
use Rattle.fact_emit.proofs.DefinedKept.{extended_defined}
use Rattle.fact_emit.proofs.ImportLaws.{extended_on}
use Rattle.fact_emit.proofs.KnownLaws.{extended_type}
use Rattle.fact_emit.proofs.SidesImported.{sides_later}
use Rattle.fact_compound.specs.Entries.{CompiledEntry}
use Rattle.fact_compound.specs.declared.adapters.AdapterData.{AdapterData}
use Rattle.fact_kinds.specs.Asks.{AreAsked, IsAsked}

-- ---- what is new

from_append : (n : ℕ) (xs ys : List Helper) → helpers_from n (xs ++ ys) ≡ helpers_from n xs ++ helpers_from (n + length xs) ys
from_append n [] ys = let e : n ≡ n + 0 = omega arith in ap (λ k. helpers_from k ys) e
from_append n (x ∷ xs) ys =
    let e : suc n + length xs ≡ n + length (x ∷ xs) = omega arith in
    ap (λ es. (x, n) ∷ es) (from_append (suc n) xs ys ∙ ap (λ k. helpers_from (suc n) xs ++ helpers_from k ys) e)

-- the helpers are the same, and so is the next number
pub new_alike : {old new : ModuleSoFar} → new.helpers ≡ old.helpers → next_number new ≡ next_number old → AreNewAsked [] old new
new_alike {old} {new} same next = record {
  more = [];
  helpers = same ∙ sym (append-nil old.helpers);
  next = next ∙ (let e : next_number old ≡ next_number old + 0 = omega arith in e);
  asked = λ n le lt. absurd (omega (arith, le, lt, next));
}

pub new_none : {old new : ModuleSoFar} → new ≡ old → AreNewAsked [] old new
new_none same = new_alike (ap (λ (s : ModuleSoFar). s.helpers) same) (ap next_number same)

abbrev numbers : List AskedHelper → List ℕ
numbers asks = map (λ (a : AskedHelper). a.number) asks

numbers_on : (first second : List AskedHelper) → numbers (first ++ second) ≡ numbers first ++ numbers second
numbers_on first second = map-append (λ (a : AskedHelper). a.number) first second

pub new_on : {first second : List AskedHelper} {a b c : ModuleSoFar} → AreNewAsked first a b → AreNewAsked second b c → AreNewAsked (first ++ second) a c
new_on {first} {second} {a} {b} {c} x y =
    let more : helpers_from (next_number a) (x.more ++ y.more) ≡ helpers_from (next_number a) x.more ++ helpers_from (next_number b) y.more =
    from_append (next_number a) x.more y.more ∙ ap (λ k. helpers_from (next_number a) x.more ++ helpers_from k y.more) (sym x.next) in
    record {
      more = x.more ++ y.more;
      helpers = y.helpers ∙ ap (λ l. l ++ helpers_from (next_number b) y.more) x.helpers ∙ append_assoc a.helpers (helpers_from (next_number a) x.more) (helpers_from (next_number b) y.more) ∙ ap (λ l. a.helpers ++ l) (sym more);
      next = omega (arith, x.next, y.next, length-append x.more y.more);
      asked = λ n le lt. subst (λ ns. Contains ns n) (sym (numbers_on first second)) (elim (cases_lt n (next_number b)) [
        | inl before ↦ Contains-append_left (numbers first) (numbers second) n (x.asked n le before)
        | inr behind ↦ Contains-append_right (numbers first) (numbers second) n (y.asked n behind lt)
      ]);
    }

-- ---- steps that leave the helpers as they were

-- the helpers stay, and so do the numbers of functions
pub record KeepsNumbers (old new : ModuleSoFar) : Type 0 where
  pub helpers : new.helpers ≡ old.helpers
  pub numbered : new.numbered ≡ old.numbered
  pub functions : new.functions ≡ old.functions

numbers_same : {old new : ModuleSoFar} → new ≡ old → KeepsNumbers old new
numbers_same e = record { helpers = ap (λ (s : ModuleSoFar). s.helpers) e; numbered = ap (λ (s : ModuleSoFar). s.numbered) e; functions = ap (λ (s : ModuleSoFar). s.functions) e }

pub numbers_then : {a b c : ModuleSoFar} → KeepsNumbers a b → KeepsNumbers b c → KeepsNumbers a c
numbers_then x y = record { helpers = y.helpers ∙ x.helpers; numbered = y.numbered ∙ x.numbered; functions = y.functions ∙ x.functions }

numbers_next : {old new : ModuleSoFar} → KeepsNumbers old new → next_number new ≡ next_number old
numbers_next k = λ i. max (k.numbered i) (length (k.functions i))

numbers_new : {old new : ModuleSoFar} → KeepsNumbers old new → AreNewAsked [] old new
numbers_new k = new_alike k.helpers (numbers_next k)

pub numbers_type : {old new : ModuleSoFar} {ty : FuncType} → HasType old new ty → KeepsNumbers old new
numbers_type (inl e) = numbers_same e
numbers_type (inr e) = record { helpers = ap (λ (s : ModuleSoFar). s.helpers) e.1; numbered = ap (λ (s : ModuleSoFar). s.numbered) e.1; functions = ap (λ (s : ModuleSoFar). s.functions) e.1 }

numbers_with : {old new : ModuleSoFar} (w : WasmImport) (i : Import) → new ≡ with_import old w i → KeepsNumbers old new
numbers_with w i e = record { helpers = ap (λ (s : ModuleSoFar). s.helpers) e; numbered = ap (λ (s : ModuleSoFar). s.numbered) e; functions = ap (λ (s : ModuleSoFar). s.functions) e }

pub numbers_import : {old new : ModuleSoFar} {w : WasmImport} {i : Import} {place : ℕ} → IsImported old new w i place → KeepsNumbers old new
numbers_import {old} {new} {w} {i} h = go h.step
  where
    go : ((new ≡ old) × Contains (imports_of (sort_of w.ty) old.section old.imports) i) ⊎ ((new ≡ with_import old w i) × (Contains (imports_of (sort_of w.ty) old.section old.imports) i → ⊥)) → KeepsNumbers old new
    go (inl e) = numbers_same e.0
    go (inr e) = numbers_with w i e.0

pub numbers_runtime : {old new : ModuleSoFar} {f : RuntimeFunction} {place : ℕ} → IsRuntimeImported old new f place → KeepsNumbers old new
numbers_runtime h = numbers_then (numbers_type h.types) (numbers_import h.imported)

pub type_new : {old new : ModuleSoFar} {ty : FuncType} → HasType old new ty → AreNewAsked [] old new
type_new h = numbers_new (numbers_type h)

pub runtime_new : {old new : ModuleSoFar} {f : RuntimeFunction} {place : ℕ} → IsRuntimeImported old new f place → AreNewAsked [] old new
runtime_new h = numbers_new (numbers_runtime h)

-- ---- what code brings in

-- Functions that are called leave the others, and the helpers among them get the next numbers.
record Brings (old new : ModuleSoFar) : Type 0 where
  more : List Helper
  helpers : new.helpers ≡ old.helpers ++ helpers_from (next_number old) more
  next : next_number new ≡ next_number old + length more

brings_none : {old new : ModuleSoFar} → new.helpers ≡ old.helpers → next_number new ≡ next_number old → Brings old new
brings_none {old} same next = record { more = []; helpers = same ∙ sym (append-nil old.helpers); next = next ∙ (let e : next_number old ≡ next_number old + 0 = omega arith in e) }

brings_on : {a b c : ModuleSoFar} → Brings a b → Brings b c → Brings a c
brings_on {a} {b} {c} x y =
    let more : helpers_from (next_number a) (x.more ++ y.more) ≡ helpers_from (next_number a) x.more ++ helpers_from (next_number b) y.more =
    from_append (next_number a) x.more y.more ∙ ap (λ k. helpers_from (next_number a) x.more ++ helpers_from k y.more) (sym x.next) in
    record {
      more = x.more ++ y.more;
      helpers = y.helpers ∙ ap (λ l. l ++ helpers_from (next_number b) y.more) x.helpers ∙ append_assoc a.helpers (helpers_from (next_number a) x.more) (helpers_from (next_number b) y.more) ∙ ap (λ l. a.helpers ++ l) (sym more);
      next = omega (arith, x.next, y.next, length-append x.more y.more);
    }

one_brings : {old new : ModuleSoFar} (f : CalledFunction) (number : ℕ) → IsCalledImported old new f number → Brings old new
one_brings (Runtime f) number x = let k = numbers_runtime x in brings_none k.helpers (numbers_next k)
one_brings (Transcoding f) number x = let k = numbers_then (numbers_type x.types) (numbers_import x.imported) in brings_none k.helpers (numbers_next k)
one_brings {old} {new} (Helping key) number x = elim x.step [
  | inl same ↦ brings_none (ap (λ (s : ModuleSoFar). s.helpers) same) (ap next_number same)
  | inr anew ↦ record {
    more = key ∷ [];
    helpers = ap (λ (s : ModuleSoFar). s.helpers) anew.0;
    next = ap next_number anew.0 ∙ (let e : next_number (with_helper old key) ≡ next_number old + 1 = omega arith in e);
  }
]

all_bring : {old new : ModuleSoFar} (fs : List CalledFunction) → AreCalledImported old new fs → Brings old new
all_bring [] same = brings_none (ap (λ (s : ModuleSoFar). s.helpers) same) (ap next_number same)
all_bring (f ∷ fs) h = brings_on {b = h.0} (one_brings f h.1 h.2) (all_bring fs h.3)

added_cases : (ns xs : List ℕ) (k : ℕ) → Contains (all_added_once ns xs) k → Contains ns k ⊎ Contains xs k
added_cases ns [] k c = inl c
added_cases ns (x ∷ xs) k c = elim (added_cases (added_once ns x) xs k c) [
  | inl before ↦ one (list_any (λ j. nat_eq j x) ns) before
  | inr later ↦ inr (Contains-append_right (x ∷ []) xs k later)
]
  where
    one : (b : Bool) → Contains (if b then ns else ns ++ x ∷ []) k → Contains ns k ⊎ Contains (x ∷ xs) k
    one true c = inl c
    one false c = elim (Contains-append_cases ns (x ∷ []) k c) [
      | inl before ↦ inl before
      | inr here ↦ inr (Contains-append_left (x ∷ []) xs k here)
    ]

range_top : (n m k : ℕ) → Contains (range_with_len n m) k → k < n + m
range_top n zero k (i, l, e) = absurd (omega (arith, l))
range_top n (suc m) k (zero, l, e) = omega (arith, e)
range_top n (suc m) k (suc i, l, e) = let lt = range_top (n + 1) m k (i, omega (arith, l), e) in omega (arith, lt)

range_has : (n m k : ℕ) → n ≤ k → k < n + m → Contains (range_with_len n m) k
range_has n zero k le lt = absurd (omega (arith, le, lt))
range_has n (suc m) k le lt = elim (eqb_tells k n) [
  | inl e ↦ subst (Contains (range_with_len n (suc m))) (sym e.1) (0, omega arith, refl)
  | inr e ↦ Contains-append_right (n ∷ []) (range_with_len (n + 1) m) k (range_has (n + 1) m k (omega (arith, le, e.1)) (omega (arith, lt)))
]

-- Code that names just the functions of these helpers, of those that the module defines, asks for these.
pub brought_new : {old new : ModuleSoFar} {code : List Instr} (asks : List AskedHelper) → Brought old new code → defined_named code ≡ numbers asks → AreNewAsked asks old new
brought_new {old} {new} {code} asks b calls =
    let x : Brings old new = all_bring b.called b.imported in
    record {
      more = x.more;
      helpers = x.helpers;
      next = x.next;
      asked = λ n le lt. elim (added_cases (range_with_len 0 (next_number old)) (defined_named code) n (subst (λ ns. Contains ns n) (sym b.asked) (range_has 0 (next_number new) n (omega arith) (omega (arith, lt))))) [
        | inl before ↦ absurd (let top = range_top 0 (next_number old) n before in omega (arith, top, le))
        | inr named ↦ subst (λ ns. Contains ns n) calls named
      ];
    }

pub emits_new : {a b : Writer} {P : Piece} → Emits a b P → AreNewAsked [] a.sections b.sections
emits_new x = brought_new [] x.grew.brought x.grew.calls

-- ---- what is asked for is asked for later

contains_later : {old new : ModuleSoFar} {e : Helper × ℕ} → Extended old new → Contains old.helpers e → Contains new.helpers e
contains_later {old} {e = e} x c = subst (λ es. Contains es e) (sym x.helpers.is) (Contains-append_left old.helpers x.helpers.more e c)

pub writable_later : {t : Tables} {debug concurrency : Bool} {old new : ModuleSoFar} {k : Helper} → Extended old new → CanBeWritten t debug concurrency old k → CanBeWritten t debug concurrency new k
writable_later x w = record { from_live = w.from_live; to_live = w.to_live; imported = sides_later x w.imported }

asked_later : {t : Tables} {debug concurrency : Bool} {old new : ModuleSoFar} {a : AskedHelper} → Extended old new → IsAskedHere t debug concurrency old a → IsAskedHere t debug concurrency new a
asked_later x h = record { tables = h.tables; debug_is = h.debug_is; concurrency_is = h.concurrency_is; there = contains_later x h.there; writable = writable_later x h.writable }

all_later : (t : Tables) (debug concurrency : Bool) {old new : ModuleSoFar} (asks : List AskedHelper) → Extended old new → AllByRecursion (IsAskedHere t debug concurrency old) asks → AllByRecursion (IsAskedHere t debug concurrency new) asks
all_later t debug concurrency [] x h = tt
all_later t debug concurrency (a ∷ asks) x h = (asked_later x h.0, all_later t debug concurrency asks x h.1)

-- ---- one behind the other

module _ {t : Tables} {debug concurrency : Bool} {a b c : ModuleSoFar} where
  pub asks_on : {first second : List AskedHelper} → Extended b c → AsksFor t debug concurrency first a b → AsksFor t debug concurrency second b c → AsksFor t debug concurrency (first ++ second) a c
  asks_on {first} {second} x f g = record {
    asked = all-append (IsAskedHere t debug concurrency c) first second (all_later t debug concurrency first x f.asked) g.asked;
    new_asked = new_on f.new_asked g.new_asked;
  }

  -- before code that asks for some there is code that asks for none
  pub asks_behind : {asks : List AskedHelper} → AreNewAsked [] a b → AsksFor t debug concurrency asks b c → AsksFor t debug concurrency asks a c
  asks_behind none f = record { asked = f.asked; new_asked = new_on none f.new_asked }

  -- or behind it
  pub asks_before : {asks : List AskedHelper} → Extended b c → AsksFor t debug concurrency asks a b → AreNewAsked [] b c → AsksFor t debug concurrency (asks ++ []) a c
  asks_before x f none = asks_on x f (record { asked = tt; new_asked = none })

-- behind it there is code that asks for none, and that is all that is asked for
pub asks_kept : {t : Tables} {debug concurrency : Bool} {asks : List AskedHelper} {a b c : ModuleSoFar} → Extended b c → AsksFor t debug concurrency asks a b → AreNewAsked [] b c → AsksFor t debug concurrency asks a c
asks_kept {t} {debug} {concurrency} {asks} {a} {b} {c} x f none = subst (λ xs. AsksFor t debug concurrency xs a c) (append-nil asks) (asks_before x f none)

pub asks_none : {t : Tables} {debug concurrency : Bool} {a b : ModuleSoFar} → AreNewAsked [] a b → AsksFor t debug concurrency [] a b
asks_none none = record { asked = tt; new_asked = none }

-- the module is the same
pub asks_same : {t : Tables} {debug concurrency : Bool} {asks : List AskedHelper} {a b c e : ModuleSoFar} → b ≡ a → c ≡ e → AsksFor t debug concurrency asks b c → AsksFor t debug concurrency asks a e
asks_same {t} {debug} {concurrency} {asks} {a} {b} {c} {e} before after f = subst (λ s. AsksFor t debug concurrency asks s e) before (subst (λ s. AsksFor t debug concurrency asks b s) after f)

-- ---- what the moves of values ask for

asked_here : (t : Tables) (sides : Sides) (below : ℕ) (s : ModuleSoFar) (asks : List AskedHelper) → AllByRecursion (IsAsked t sides below s) asks → AllByRecursion (IsAskedHere t sides.debug sides.concurrency s) asks
asked_here t sides below s [] h = tt
asked_here t sides below s (a ∷ asks) h =
    let x : IsAsked t sides below s a = h.0 in
    (record { tables = x.tables; debug_is = x.debug; concurrency_is = x.concurrency; there = x.there; writable = record { from_live = x.from_live; to_live = x.to_live; imported = record { realloc = x.imported.realloc; from_memory = x.imported.from_memory; to_memory = x.imported.to_memory; from_wide = x.imported.from_wide; to_wide = x.imported.to_wide } } }, asked_here t sides below s asks h.1)

pub asks_of_moves : {t : Tables} {sides : Sides} {below : ℕ} {asks : List AskedHelper} {old new : Writer} → AreAsked t sides below new.sections asks → GrewAsking asks old new
    → AsksFor t sides.debug sides.concurrency asks old.sections new.sections
asks_of_moves {t} {sides} {below} {asks} {new = new} h grew = record { asked = asked_here t sides below new.sections asks h.each; new_asked = brought_new asks grew.brought grew.calls }

-- ---- the function that hands a call on

numbers_start : {old new : ModuleSoFar} {adapter : List ℕ} {c : StartCall} {results : List ValType} {place : ℕ} → IsStartCallImported old new adapter c results place → KeepsNumbers old new
numbers_start x = elim x.step [
  | inl there ↦ numbers_then (numbers_type x.types) (numbers_same there.0)
  | inr anew ↦ numbers_then (numbers_type x.types) (record { helpers = ap (λ (s : ModuleSoFar). s.helpers) anew.0; numbered = ap (λ (s : ModuleSoFar). s.numbered) anew.0; functions = ap (λ (s : ModuleSoFar). s.functions) anew.0 })
]

numbers_prepare : {old new : ModuleSoFar} {adapter : List ℕ} {m : Option (Id Memories)} {params : List ValType} {place : ℕ} → IsPrepareCallImported old new adapter m params place → KeepsNumbers old new
numbers_prepare x =
    numbers_then (numbers_type x.types) (record { helpers = ap (λ (s : ModuleSoFar). s.helpers) x.is_new; numbered = ap (λ (s : ModuleSoFar). s.numbered) x.is_new; functions = ap (λ (s : ModuleSoFar). s.functions) x.is_new })

numbers_entry : {t : Tables} {d : AdapterData} {start return : ℕ} {old new : ModuleSoFar} (c : CompiledEntry t d start return old new) → KeepsNumbers old c.written
numbers_entry c = numbers_then (numbers_type c.declares) (numbers_then (numbers_start c.calls.starts) (numbers_prepare c.calls.prepares))

-- before its function is put there the module defines what it did
pub entry_functions : {t : Tables} {d : AdapterData} {start return : ℕ} {old new : ModuleSoFar} (c : CompiledEntry t d start return old new) → c.written.functions ≡ old.functions
entry_functions c = (numbers_entry c).functions

pub entry_numbers : {t : Tables} {d : AdapterData} {start return : ℕ} {old new : ModuleSoFar} (c : CompiledEntry t d start return old new) → next_number c.written ≡ next_number old
entry_numbers c = numbers_next (numbers_entry c)

pub entry_helpers : {t : Tables} {d : AdapterData} {start return : ℕ} {old new : ModuleSoFar} (c : CompiledEntry t d start return old new) → c.written.helpers ≡ old.helpers
entry_helpers c = (numbers_entry c).helpers

-- it asks for no helper
pub entry_new : {t : Tables} {d : AdapterData} {start return : ℕ} {old new : ModuleSoFar} (c : CompiledEntry t d start return old new) → AreNewAsked [] old c.written
entry_new c = new_alike (entry_helpers c) (entry_numbers c)

pub entry_later : {t : Tables} {d : AdapterData} {start return : ℕ} {old new : ModuleSoFar} → CompiledEntry t d start return old new → Extended old new
entry_later c =
    extended_on (extended_type c.ty c.declares) (extended_on c.calls.imports
    (extended_defined (ap (λ (s : ModuleSoFar). s.types) c.is_last) (ap (λ (s : ModuleSoFar). s.section) c.is_last) (ap (λ (s : ModuleSoFar). s.imports) c.is_last) (ap (λ (s : ModuleSoFar). s.helpers) c.is_last) (ap (λ (s : ModuleSoFar). s.numbered) c.is_last)))

-- ---- functions that were numbered ahead

-- One that was numbered ahead is put behind the others: the next number stays.
pub defined_new : {old new : ModuleSoFar} (f : WasmFunc) → new.helpers ≡ old.helpers → new.numbered ≡ old.numbered → new.functions ≡ old.functions ++ f ∷ [] → length old.functions < old.numbered → AreNewAsked [] old new
defined_new {old} {new} f helpers numbered functions lt =
    new_alike helpers (let n : next_number new ≡ next_number old = omega (arith, numbered, ap length functions, length-append old.functions (f ∷ []), lt) in n)
