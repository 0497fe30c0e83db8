-- An adapter's own functions, and the helpers behind them, as they are put into a module.
use Rattle.std.proofs.Common.{◌≡◌, ◌≢◌, ℕ, zero, suc, ◌+◌, ◌-◌, ◌<◌, ◌≤◌, Bool, true, false, List, [], ◌∷◌, ◌++◌, Some, refl, sym, ap, ◌∙◌, subst, arith, inl, inr, Contains, append_assoc, length, length-append, slice_get, get_or}
use Rattle.std.proofs.lemmas.Bool.{cases_lt}
use Rattle.std.proofs.lemmas.Option.{slice_get-get_or}
use Rattle.fact_wasm.specs.declared.module.WasmFunc.{WasmFunc}
use Rattle.fact_wasm.specs.declared.module.WasmModule.{WasmModule}
use Rattle.fact_machine.proofs.Tests.{get_append}
use Rattle.fact_types.specs.Tables.{Tables}
use Rattle.fact_actions.specs.Running.{ImportPlaces}
use Rattle.fact_emit.specs.Asked.{AskedHelper, HasHelpers}
use Rattle.fact_emit.specs.Imports.{Extended}
use Rattle.fact_emit.specs.States.{ModuleSoFar, next_number, with_numbered}
use Rattle.fact_emit.specs.declared.helpers.Helper.{Helper}
use Rattle.fact_emit.proofs.DefinedKept.{extended_defined}
use Rattle.fact_emit.proofs.ImportLaws.{extended_none, extended_on}
use Rattle.fact_compound.specs.Asks.{AsksFor, Having, IsLaterModule, helpers_from}
use Rattle.fact_compound.specs.Asyncs.{AskingAsync, CompiledAsync}
use Rattle.fact_compound.specs.Compiled.{Compiled, CompiledOwn}
use Rattle.fact_compound.specs.Described.{is_async_data}
use Rattle.fact_compound.specs.Functions.{AskingSync, CompiledSync}
use Rattle.fact_compound.specs.Helpers.{AreWritable, CompiledHelpers, HasFunctionOf, HelpersAreThere}
use Rattle.fact_compound.specs.SameInstance.{CompiledSameInstance}
use Rattle.fact_compound.specs.declared.adapters.AdapterData.{AdapterData}
use Rattle.fact_compound.proofs.AsksLaws.{asks_none, asks_on, entry_later, writable_later}
use Rattle.fact_compound.proofs.AsyncFunctions.{part_within}
use Rattle.fact_compound.proofs.HelpersThere.{have_asked}
use Rattle.fact_compound.proofs.WaitingHelpers.{get_in, in_get, writable_on}

-- ---- what code asks of a module

-- where a module has more, it has that
abbrev pub sync_within : {Has All : Having} {t : Tables} {d : AdapterData} {debug concurrency exceptions : Bool} {old new : ModuleSoFar} → ((M : WasmModule) (p : ImportPlaces) → All M p → Has M p) → CompiledSync Has t d debug concurrency exceptions old new
    → CompiledSync All t d debug concurrency exceptions old new
sync_within has c = record {
  function = c.function;
  ty = c.ty;
  declared = c.declared;
  declares = c.declares;
  written = c.written;
  brought = c.brought;
  is_last = c.is_last;
  functions = c.functions;
  exports = c.exports;
  once = c.once;
  typed = c.typed;
  writes = record { imports = c.writes.imports; is = λ u a h set M p serves all links. c.writes.is u a h set M p serves (has M p all) links };
}

abbrev pub async_within : {Has All : Having} {t : Tables} {d : AdapterData} {debug concurrency : Bool} {old new : ModuleSoFar} → ((M : WasmModule) (p : ImportPlaces) → All M p → Has M p) → CompiledAsync Has t d debug concurrency old new → CompiledAsync All t d debug concurrency old new
async_within has c = record {
  started = c.started;
  returned = c.returned;
  entered = c.entered;
  start = part_within has c.start;
  return = part_within has c.return;
  entry = c.entry;
  callee = c.callee;
}

-- ---- an adapter's own functions

-- so many functions are numbered ahead
pub numbered_later : (s : ModuleSoFar) (count : ℕ) → Extended s (with_numbered s count)
numbered_later s count = record {
  types = (extended_none {a = s} {b = s} refl).types;
  section = (extended_none {a = s} {b = s} refl).section;
  imports = (extended_none {a = s} {b = s} refl).imports;
  functions = (extended_none {a = s} {b = s} refl).functions;
  memories = (extended_none {a = s} {b = s} refl).memories;
  globals = (extended_none {a = s} {b = s} refl).globals;
  helpers = (extended_none {a = s} {b = s} refl).helpers;
  numbered = omega arith;
}

pub are_ahead : (s : ModuleSoFar) (count : ℕ) → 1 ≤ count → length s.functions < (with_numbered s count).numbered
are_ahead s count le = omega (arith, le)

module _ {t : Tables} {d : AdapterData} {debug concurrency exceptions : Bool} {fuel : ℕ} {old new : ModuleSoFar} where
  pub own_within : d.lift.instance.number ≡ d.lower.instance.number → CompiledSameInstance t d (with_numbered old 1) new → CompiledOwn t d debug concurrency exceptions fuel old new
  own_within same c = record {
    count = 1;
    more = c.function ∷ [];
    functions = c.functions;
    count_is = refl;
    imports = extended_on (numbered_later old 1) c.imports;
    ahead = c.imports;
    asks = [];
    asked = asks_none (c.none_asked (are_ahead old 1 (omega arith)));
    within = λ e. c;
    in_sync = λ other sync. absurd (other same);
    in_parts = λ other async. absurd (other same);
    sync_keys = λ other sync. absurd (other same);
    part_keys = λ other async. absurd (other same);
    none_asked = λ e. refl;
  }

  pub own_in_sync : d.lift.instance.number ≢ d.lower.instance.number → is_async_data t d ≡ false → AskingSync t d debug concurrency exceptions fuel (with_numbered old 1) new → CompiledOwn t d debug concurrency exceptions fuel old new
  own_in_sync other sync c = record {
    count = 1;
    more = c.compiled.function ∷ [];
    functions = c.compiled.functions;
    count_is = refl;
    imports = extended_on (numbered_later old 1) c.compiled.writes.imports;
    ahead = c.compiled.writes.imports;
    asks = c.asks;
    asked = c.asked;
    within = λ same. absurd (other same);
    in_sync = λ e f. c.compiled;
    in_parts = λ e async. absurd (let no : false ≡ true = sym sync ∙ async in cc);
    sync_keys = λ e f. c.keys;
    part_keys = λ e async. absurd (let no : false ≡ true = sym sync ∙ async in cc);
    none_asked = λ same. absurd (other same);
  }

  pub own_in_parts : d.lift.instance.number ≢ d.lower.instance.number → is_async_data t d ≡ true → AskingAsync t d debug concurrency fuel (with_numbered old 3) new → CompiledOwn t d debug concurrency exceptions fuel old new
  own_in_parts other async c =
      let x = c.compiled in
      let called : Extended x.entered new = extended_defined (ap (λ (s : ModuleSoFar). s.types) x.callee) (ap (λ (s : ModuleSoFar). s.section) x.callee) (ap (λ (s : ModuleSoFar). s.imports) x.callee) (ap (λ (s : ModuleSoFar). s.helpers) x.callee) (ap (λ (s : ModuleSoFar). s.numbered) x.callee) in
      record {
        count = 3;
        more = x.start.function ∷ x.return.function ∷ x.entry.function ∷ [];
        functions = ap (λ (s : ModuleSoFar). s.functions) x.callee ∙ x.entry.functions
            ∙ ap (λ fs. fs ++ x.entry.function ∷ []) (x.return.puts.functions ∙ ap (λ fs. fs ++ x.return.function ∷ []) x.start.puts.functions)
            ∙ ap (λ fs. fs ++ x.entry.function ∷ []) (append_assoc old.functions (x.start.function ∷ []) (x.return.function ∷ [])) ∙ append_assoc old.functions (x.start.function ∷ x.return.function ∷ []) (x.entry.function ∷ []);
        count_is = refl;
        imports = extended_on (numbered_later old 3) (extended_on x.start.puts.imports (extended_on x.return.puts.imports (extended_on (entry_later x.entry) called)));
        ahead = extended_on x.start.puts.imports (extended_on x.return.puts.imports (extended_on (entry_later x.entry) called));
        asks = c.asks;
        asked = c.asked;
        within = λ same. absurd (other same);
        in_sync = λ e sync. absurd (let no : false ≡ true = sym sync ∙ async in cc);
        in_parts = λ e f. x;
        sync_keys = λ e sync. absurd (let no : false ≡ true = sym sync ∙ async in cc);
        part_keys = λ e f. c.keys;
        none_asked = λ same. absurd (other same);
      }

-- its helpers and those before can be written
pub own_writable : {t : Tables} {d : AdapterData} {debug concurrency exceptions : Bool} {fuel : ℕ} {old own : ModuleSoFar} → HelpersAreThere t debug concurrency fuel old → CompiledOwn t d debug concurrency exceptions fuel old own → AreWritable t debug concurrency own
own_writable {t} {debug = debug} {concurrency} {old = old} {own} h x =
    let ahead : AreWritable t debug concurrency (with_numbered old x.count) = record {
      all = λ e c. writable_later (numbered_later old x.count) (h.writable.all e c);
      below = λ e c. let lt = h.writable.below e c in omega (arith, lt);
    } in
    writable_on x.ahead x.asked ahead

-- so many numbers are taken ahead as it has functions
own_numbers : {t : Tables} {d : AdapterData} {debug concurrency exceptions : Bool} {fuel : ℕ} {old own : ModuleSoFar} (x : CompiledOwn t d debug concurrency exceptions fuel old own) → length own.functions - length old.functions ≡ x.count
own_numbers {old = old} x = omega (arith, ap length x.functions, length-append old.functions x.more, x.count_is)

-- ---- the helpers behind them

number_at : (n : ℕ) (ks : List Helper) (i : ℕ) (e : Helper × ℕ) → slice_get (helpers_from n ks) i ≡ Some e → e.1 ≡ n + i
number_at n [] i e at = cc
number_at n (k ∷ ks) zero e at = let is : (k, n) ≡ e = cc in sym (ap (λ (x : Helper × ℕ). x.1) is) ∙ (let z : n ≡ n + 0 = omega arith in z)
number_at n (k ∷ ks) (suc i) e at = number_at (suc n) ks i e at ∙ (let z : suc n + i ≡ n + suc i = omega arith in z)

from_length : (n : ℕ) (ks : List Helper) → length (helpers_from n ks) ≡ length ks
from_length n [] = refl
from_length n (k ∷ ks) = ap suc (from_length (suc n) ks)

get_behind : {X : Type 0} (xs ys : List X) (i : ℕ) (x : X) → length xs ≤ i → slice_get (xs ++ ys) i ≡ Some x → slice_get ys (i - length xs) ≡ Some x
get_behind [] ys i x le at = let e : i ≡ i - 0 = omega arith in ap (slice_get ys) (sym e) ∙ at
get_behind (z ∷ xs) ys zero x le at = absurd (omega (arith, le))
get_behind (z ∷ xs) ys (suc i) x le at =
    let e : suc i - length (z ∷ xs) ≡ i - length xs = omega arith in
    ap (slice_get ys) e ∙ get_behind xs ys i x (omega (arith, le)) at

get_front : {X : Type 0} (xs ys : List X) (i : ℕ) (x y : X) → slice_get xs i ≡ Some y → slice_get (xs ++ ys) i ≡ Some x → slice_get xs i ≡ Some x
get_front xs ys i x y there at = there ∙ sym (get_append xs ys i y there) ∙ at

pub get_back : {X : Type 0} (xs ys : List X) (i : ℕ) (y : X) → slice_get ys i ≡ Some y → slice_get (xs ++ ys) (length xs + i) ≡ Some y
get_back [] ys i y at = let e : i ≡ 0 + i = omega arith in ap (slice_get ys) (sym e) ∙ at
get_back (x ∷ xs) ys i y at = let e : length (x ∷ xs) + i ≡ suc (length xs + i) = omega arith in ap (slice_get (x ∷ (xs ++ ys))) e ∙ get_back xs ys i y at

module _ {t : Tables} {d : AdapterData} {debug concurrency exceptions : Bool} {fuel : ℕ} {old own new : ModuleSoFar} (h : HelpersAreThere t debug concurrency fuel old) (x : CompiledOwn t d debug concurrency exceptions fuel old own)
    (y : CompiledHelpers t debug concurrency fuel (length old.helpers) own new) where
  abbrev ahead : ModuleSoFar
  ahead = with_numbered old x.count

  last : Extended y.last new
  last = extended_defined (ap (λ (s : ModuleSoFar). s.types) y.is) (ap (λ (s : ModuleSoFar). s.section) y.is) (ap (λ (s : ModuleSoFar). s.imports) y.is) (ap (λ (s : ModuleSoFar). s.helpers) y.is) (ap (λ (s : ModuleSoFar). s.numbered) y.is)

  all_asked : AsksFor t debug concurrency (x.asks ++ y.wrote.asks) ahead y.last
  all_asked = asks_on y.wrote.imports x.asked y.wrote.asked

  functions : new.functions ≡ own.functions ++ y.written
  functions = ap (λ (s : ModuleSoFar). s.functions) y.is ∙ ap (λ fs. fs ++ y.written) y.wrote.kept.functions

  -- those that were numbered have functions, and all others that are numbered are helpers
  first_number : next_number ahead ≡ length own.functions
  first_number = omega (arith, ap length x.functions, length-append old.functions x.more, x.count_is, h.numbered)

  helpers : y.last.helpers ≡ old.helpers ++ helpers_from (next_number ahead) all_asked.new_asked.more
  helpers = all_asked.new_asked.helpers

  there_new : (k : ℕ) (e : Helper × ℕ) → length old.helpers ≤ k → slice_get y.last.helpers k ≡ Some e → HasFunctionOf t debug concurrency fuel new e
  there_new k e le at =
      let done = y.wrote.all k e le at in
      let number : e.1 ≡ length own.functions + (k - length old.helpers) =
      number_at (next_number ahead) all_asked.new_asked.more (k - length old.helpers) e (get_behind old.helpers (helpers_from (next_number ahead) all_asked.new_asked.more) k e le (ap (λ es. slice_get es k) (sym helpers) ∙ at))
      ∙ ap (λ n. n + (k - length old.helpers)) first_number in
      record {
        function = done.0;
        there = ap (slice_get new.functions) number ∙ ap (λ fs. slice_get fs (length own.functions + (k - length old.helpers))) functions ∙ get_back own.functions y.written (k - length old.helpers) done.0 done.1;
        before = done.2.before;
        written = done.2.written;
        wrote = done.2.wrote;
        later = extended_on done.2.later last;
      }

  keep : (n : ℕ) (g : WasmFunc) → slice_get old.functions n ≡ Some g → slice_get new.functions n ≡ Some g
  keep n g at = ap (λ fs. slice_get fs n) functions ∙ get_append own.functions y.written n g (ap (λ fs. slice_get fs n) x.functions ∙ get_append old.functions x.more n g at)

  grown : Extended old y.last
  grown = extended_on x.imports y.wrote.imports

  there_old : (e : Helper × ℕ) → Contains old.helpers e → HasFunctionOf t debug concurrency fuel new e
  there_old e c =
      let was = h.all e c in
      record { function = was.function; there = keep e.1 was.function was.there; before = was.before; written = was.written; wrote = was.wrote; later = extended_on was.later (extended_on grown last) }

  there_before : (k : ℕ) (e : Helper × ℕ) → k < length old.helpers → slice_get y.last.helpers k ≡ Some e → HasFunctionOf t debug concurrency fuel new e
  there_before k e lt at =
      let before = slice_get-get_or old.helpers k e lt in
      there_old e (get_in old.helpers k e (get_front old.helpers (helpers_from (next_number ahead) all_asked.new_asked.more) k e (get_or old.helpers k e) before (ap (λ es. slice_get es k) (sym helpers) ∙ at)))

  -- Each helper of the module has its function.
  pub helpers_there : HelpersAreThere t debug concurrency fuel new
  helpers_there = record {
    all = λ e c.
        let at = in_get new.helpers e c in
        let here : slice_get y.last.helpers at.0 ≡ Some e = ap (λ (s : ModuleSoFar). slice_get s.helpers at.0) (sym y.is) ∙ at.1 in
        elim (cases_lt at.0 (length old.helpers)) [ inl before ↦ there_before at.0 e before here | inr behind ↦ there_new at.0 e behind here ];
    writable = record {
      all = λ e c. writable_later last (y.wrote.writable.all e (subst (λ (s : ModuleSoFar). Contains s.helpers e) y.is c));
      below = λ e c. let lt = y.wrote.writable.below e (subst (λ (s : ModuleSoFar). Contains s.helpers e) y.is c) in omega (arith, lt, ap (λ (s : ModuleSoFar). s.numbered) y.is, ap length functions, length-append own.functions y.written, ap length y.wrote.kept.functions);
    };
    numbered = omega (
      arith,
      ap (λ (s : ModuleSoFar). s.numbered) y.is,
      all_asked.new_asked.next,
      first_number,
      ap length functions,
      length-append own.functions y.written,
      y.wrote.count,
      ap length helpers,
      length-append old.helpers (helpers_from (next_number ahead) all_asked.new_asked.more),
      from_length (next_number ahead) all_asked.new_asked.more,
    );
  }

  -- The adapter was compiled.
  pub compiled_adapter : Compiled t d debug concurrency exceptions fuel old new
  compiled_adapter =
      let there : HelpersAreThere t debug concurrency fuel new = helpers_there in
      let has : (M : WasmModule) (p : ImportPlaces) → IsLaterModule M p new → HasHelpers M p x.asks = λ M p later. have_asked there later (extended_on y.wrote.imports last) x.asks x.asked.asked in
      record {
        own = own;
        asks = x.asks;
        asked = subst (λ n. AsksFor t debug concurrency x.asks (with_numbered old n) own) (sym (own_numbers x)) x.asked;
        within = x.within;
        in_sync = λ other sync. sync_within has (x.in_sync other sync);
        in_parts = λ other async. async_within has (x.in_parts other async);
        sync_keys = x.sync_keys;
        part_keys = x.part_keys;
        none_asked = x.none_asked;
        helpers = y;
        there = there;
      }
