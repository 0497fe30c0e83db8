-- What the functions of an adapter ask for: helpers that are there, of the keys that its translations ask for, in that order.
use Rattle.std.proofs.Common.{◌≡◌, ℕ, zero, suc, ◌+◌, Bool, true, false, List, [], ◌∷◌, ◌++◌, refl, sym, ap, ◌∙◌, subst, arith, append-nil, append_assoc, length, length-append, map, Contains}
use Rattle.std.specs.List.{AllByRecursion, AllZip, filter_map, flat_map, range_with_len}
use Rattle.std.proofs.lemmas.List.{map-append}
use Rattle.std.proofs.lemmas.List.Elements.{Contains-append_left, filter_map-append}
use Rattle.fact_wasm.specs.declared.instr.FuncName.TheVariants as func
use Rattle.fact_wasm.specs.declared.instr.Instr.{Instr, the_lemmas}
use Rattle.fact_wasm.specs.declared.instr.Instr.TheVariants as I
use Rattle.fact_wasm.specs.declared.module.WasmFunc.{WasmFunc}
use Rattle.fact_machine.specs.Trace.{Grows}
use Rattle.fact_types.specs.Adapters.{LinkedAdapter, is_async, is_crossing}
use Rattle.fact_types.specs.Tables.{Tables}
use Rattle.fact_actions.specs.Adapters.{AdapterTunables, lift_signature_of, lower_signature_of}
use Rattle.fact_actions.specs.Outlining.{HelperKey, OutlinedFunction, own_asks, own_function}
use Rattle.fact_actions.proofs.States.{and_left, and_right}
use Rattle.fact_code_laws.specs.Code.{trap_code}
use Rattle.fact_emit.specs.Asked.{AskedHelper, entry_of}
use Rattle.fact_emit.specs.ImportSection.{is_awaited}
use Rattle.fact_emit.specs.NamedFunctions.{all_added_once, defined_named, defined_place}
use Rattle.fact_emit.specs.States.{ModuleSoFar, next_number}
use Rattle.fact_emit.specs.declared.helpers.Helper.{Helper}
use Rattle.fact_compound.specs.Asks.{IsAskedHere}
use Rattle.fact_compound.specs.Entries.{arguments_code, call_facts, callee_facts, constants_code, entry_code, tuple_of_results}
use Rattle.fact_compound.specs.Keys.{IsKeyOfAdapter, part_asks, sync_asks}
use Rattle.fact_compound.specs.Puts.{PutsFunction}
use Rattle.fact_compound.specs.declared.asyncs.AsyncPart.TheVariants as part
use Rattle.fact_compound.specs.declared.entries.EntryPlaces.{EntryPlaces}
use Rattle.fact_compound.proofs.AsksLaws.{entry_helpers, numbers_type}
use Rattle.fact_assembly.specs.Sound.{IsSoundAdapter}
use Rattle.fact_assembly.specs.Adding.{Adds, AsParts, AsSync, AsTrap, CompiledAs, Given, OwnKeys, numbered_for, own_functions}
use Rattle.fact_assembly.specs.Order.{names}
use Rattle.fact_assembly.specs.Outlines.{defined_calls, defined_calls_of}
use Rattle.fact_assembly.proofs.CompiledLaws.{describes, describes-entry, describes-transfers}
use Rattle.fact_assembly.proofs.FirstAsked.{AreFirstAsked, asked-on}
use Rattle.fact_assembly.proofs.NewKeys.{AreOnceThere}
use Rattle.fact_assembly.proofs.OnceAsked.{once-brought, once-same}
use Rattle.fact_assembly.proofs.OwnLaws.{asked_put, entry_number, sync_put, within_put}

-- ---- functions and what they ask for

module _ (IsKey : Helper → HelperKey → Type 0) where
  -- Code names, of the functions of the module, helpers alone that are there, and these have the keys that it asks for; or it calls none.
  pub data AsksHelpers (s : ModuleSoFar) (f : WasmFunc) (x : OutlinedFunction) : Type 0 where
    ByName : (asks : List AskedHelper) → defined_named f.body ≡ map (λ (a : AskedHelper). a.number) asks → AllZip (λ (a : AskedHelper) k. IsKey a.key k) asks x.asks → AllByRecursion (λ (a : AskedHelper). Contains s.helpers (entry_of a)) asks → AsksHelpers s f x
    CallsNone : defined_calls f.body ≡ [] → x.asks ≡ [] → AsksHelpers s f x

  there-later : (s later : ModuleSoFar) → Grows s.helpers later.helpers → (asks : List AskedHelper) → AllByRecursion (λ (a : AskedHelper). Contains s.helpers (entry_of a)) asks → AllByRecursion (λ (a : AskedHelper). Contains later.helpers (entry_of a)) asks
  there-later s later grown [] h = tt
  there-later s later grown (a ∷ asks) h = (subst (λ es. Contains es (entry_of a)) (sym grown.is) (Contains-append_left s.helpers grown.more (entry_of a) h.0), there-later s later grown asks h.1)

  pub asks-later : (s later : ModuleSoFar) → Grows s.helpers later.helpers → (f : WasmFunc) (x : OutlinedFunction) → AsksHelpers s f x → AsksHelpers later f x
  asks-later s later grown f x (ByName asks named keys there) = ByName asks named keys (there-later s later grown asks there)
  asks-later s later grown f x (CallsNone calls none) = CallsNone calls none

pub asked-there : (t : Tables) (debug concurrency : Bool) (s : ModuleSoFar) (asks : List AskedHelper) → AllByRecursion (IsAskedHere t debug concurrency s) asks → AllByRecursion (λ (a : AskedHelper). Contains s.helpers (entry_of a)) asks
asked-there t debug concurrency s [] h = tt
asked-there t debug concurrency s (a ∷ asks) h = (h.0.there, asked-there t debug concurrency s asks h.1)

all-front : {X : Type 0} (P : X → Type 0) (xs ys : List X) → AllByRecursion P (xs ++ ys) → AllByRecursion P xs
all-front P [] ys h = tt
all-front P (x ∷ xs) ys h = (h.0, all-front P xs ys h.1)

all-behind : {X : Type 0} (P : X → Type 0) (xs ys : List X) → AllByRecursion P (xs ++ ys) → AllByRecursion P ys
all-behind P [] ys h = h
all-behind P (x ∷ xs) ys h = all-behind P xs ys h.1

zip-both : {X Y : Type 0} (R : X → Y → Type 0) (xs xs' : List X) (ys ys' : List Y) → AllZip R xs ys → AllZip R xs' ys' → AllZip R (xs ++ xs') (ys ++ ys')
zip-both R [] xs' [] ys' h g = g
zip-both R [] xs' (y ∷ ys) ys' h g = absurd h
zip-both R (x ∷ xs) xs' [] ys' h g = absurd h
zip-both R (x ∷ xs) xs' (y ∷ ys) ys' h g = (h.0, zip-both R xs xs' ys ys' h.1 g)

-- ---- code that calls none

trap-names-none : (place : ℕ) → defined_named (trap_code place) ≡ []
trap-names-none place = simp the_lemmas

calls-append : (a b : List Instr) → defined_calls (a ++ b) ≡ defined_calls a ++ defined_calls b
calls-append [] b = refl
calls-append (i ∷ a) b = ap (λ ks. defined_calls_of i ++ ks) (calls-append a b) ∙ sym (append_assoc (defined_calls_of i) (defined_calls a) (defined_calls b))

import-called : (k : ℕ) → defined_calls_of (I.Call (func.Import k)) ≡ []
import-called k = simp the_lemmas

start-referred : (k : ℕ) → defined_calls_of (I.RefFunc (func.Defined k)) ≡ []
start-referred k = simp the_lemmas

import-referred : (k : ℕ) → defined_calls_of (I.RefFunc (func.Import k)) ≡ []
import-referred k = simp the_lemmas

constant-calls : (n : ℕ) → defined_calls_of (I.I32Const n) ≡ []
constant-calls n = simp the_lemmas

argument-calls : (n : ℕ) → defined_calls_of (I.LocalGet n) ≡ []
argument-calls n = simp the_lemmas

constants-call-none : (ns : List ℕ) → defined_calls (constants_code ns) ≡ []
constants-call-none [] = refl
constants-call-none (n ∷ ns) = (λ k. constant-calls n k ++ constants-call-none ns k)

arguments-call-none : (first count : ℕ) → defined_calls (arguments_code first count) ≡ []
arguments-call-none first zero = refl
arguments-call-none first (suc count) = (λ k. argument-calls first k ++ arguments-call-none (suc first) count k)

module _ (e : EntryPlaces) (told : List ℕ) (params : ℕ) (started : List ℕ) where
  entry-calls-none : defined_calls (entry_code e told params started) ≡ []
  entry-calls-none =
      (λ k. start-referred e.start k ++ (start-referred e.return_ k ++ defined_calls (constants_code told ++ (arguments_code 0 params ++ behind))))
      ∙ behind-none (constants_code told) (arguments_code 0 params ++ behind) (constants-call-none told)
      ∙ behind-none (arguments_code 0 params) behind (arguments-call-none 0 params)
      ∙ (λ k. import-called e.prepare_call k ++ (import-referred e.callee k ++ defined_calls (constants_code started ++ last)))
      ∙ behind-none (constants_code started) last (constants-call-none started)
      ∙ (λ k. import-called e.start_call k ++ [])
    where
      last : List Instr
      last = I.Call (func.Import e.start_call) ∷ []

      behind : List Instr
      behind = I.Call (func.Import e.prepare_call) ∷ I.RefFunc (func.Import e.callee) ∷ (constants_code started ++ last)

      behind-none : (a b : List Instr) → defined_calls a ≡ [] → defined_calls (a ++ b) ≡ defined_calls b
      behind-none a b none = calls-append a b ∙ ap (λ ks. ks ++ defined_calls b) none

-- ---- which keys an adapter's functions ask for

within-asks : (fuel : ℕ) (a : LinkedAdapter) → is_crossing a ≡ false → own_asks fuel a ≡ [] ∷ []
within-asks fuel a within = rw within refl

sync-asks : (fuel : ℕ) (a : LinkedAdapter) → is_crossing a ≡ true → is_async a ≡ false → own_asks fuel a ≡ sync_asks fuel a ∷ []
sync-asks fuel a crosses sync = rw (crosses, sync) refl

parts-ask : (fuel : ℕ) (a : LinkedAdapter) → is_awaited a ≡ true → own_asks fuel a ≡ part_asks part.Start fuel a ∷ part_asks part.Return fuel a ∷ [] ∷ []
parts-ask fuel a awaited =
    let crosses : is_crossing a ≡ true = and_right (is_async a) (is_crossing a) awaited in
    let async : is_async a ≡ true = and_left (is_async a) (is_crossing a) awaited in
    rw (crosses, async) refl

-- ---- of an adapter that was added

-- it names what one function of it asks for
one-order : {old new : ModuleSoFar} (f : WasmFunc) (ns : List ℕ) → AreFirstAsked old new (f ∷ []) → defined_named f.body ≡ ns → all_added_once (range_with_len 0 (next_number old)) ns ≡ range_with_len 0 (next_number new)
one-order {old} f ns x named =
    ap (all_added_once (range_with_len 0 (next_number old))) (sym named ∙ ap (filter_map defined_place) (sym (append-nil (names f)))) ∙ x.in_order

two-order : {old new : ModuleSoFar} (f g : WasmFunc) (ns ms : List ℕ) → AreFirstAsked old new (f ∷ g ∷ []) → defined_named f.body ≡ ns → defined_named g.body ≡ ms
    → all_added_once (range_with_len 0 (next_number old)) (ns ++ ms) ≡ range_with_len 0 (next_number new)
two-order {old} f g ns ms x is-f is-g =
    let both : ns ++ ms ≡ filter_map defined_place (names f ++ (names g ++ [])) =
    (λ k. sym is-f k ++ sym is-g k) ∙ sym (filter_map-append defined_place (names f) (names g)) ∙ ap (λ fs. filter_map defined_place (names f ++ fs)) (sym (append-nil (names g))) in
    ap (all_added_once (range_with_len 0 (next_number old))) both ∙ x.in_order

once-put : {name : List ℕ} {old new : ModuleSoFar} {f : WasmFunc} (x : PutsFunction name old new f) → AreOnceThere old.helpers → AreOnceThere new.helpers
once-put {old = old} {new} x once = once-same x.written new (ap (λ (s : ModuleSoFar). s.helpers) x.is_last) (once-brought x.declared x.written x.brought (once-same old x.declared (numbers_type x.declares).helpers once))

module _ (IsKey : Helper → HelperKey → Type 0) {t : Tables} {u : AdapterTunables} {given : Given} {old new : ModuleSoFar} {a : LinkedAdapter} {tuple : ℕ} (add : Adds t u given old new a tuple) (sound : IsSoundAdapter a)
    (have-keys : (xs : List AskedHelper) (ks : List HelperKey) → AllZip (IsKeyOfAdapter t add.«data» u.debug u.concurrency a) xs ks → AllZip (λ (x : AskedHelper) k. IsKey x.key k) xs ks) where
  abbrev ahead : ModuleSoFar
  ahead = numbered_for a add.imported

  -- The adapter's own functions ask for these helpers, which have the keys that they are to ask for, in that order, and are new in that order.
  pub record HasOwnAsks (fs : List WasmFunc) (keys : List (List HelperKey)) : Type 0 where
    pub each : AllZip (AsksHelpers IsKey add.own) fs (map own_function keys)
    pub all : AllZip (λ (x : AskedHelper) k. IsKey x.key k) add.asks (flat_map (λ ks. ks) keys)
    pub order : all_added_once (range_with_len 0 (next_number ahead)) (map (λ (x : AskedHelper). x.number) add.asks) ≡ range_with_len 0 (next_number add.own)
    pub once : AreOnceThere ahead.helpers → AreOnceThere add.own.helpers

  pub own-asked : ahead.numbered ≡ length ahead.functions + length (own_functions add.compiled) → HasOwnAsks (own_functions add.compiled) (own_asks given.fuel a)
  own-asked = by add.compiled add.keys
    where
      there : AllByRecursion (λ (x : AskedHelper). Contains add.own.helpers (entry_of x)) add.asks
      there = asked-there t u.debug u.concurrency add.own add.asks add.asked.asked

      by : (c : CompiledAs new t add.«data» u a ahead add.own) → OwnKeys given.fuel add.asks c → ahead.numbered ≡ length ahead.functions + length (own_functions c) → HasOwnAsks (own_functions c) (own_asks given.fuel a)
      by (AsTrap within c) none first =
          let named : defined_named c.function.body ≡ [] = ap defined_named c.body ∙ trap-names-none c.place in
          let lone : AllZip (λ (x : AskedHelper) k. IsKey x.key k) [] [] = tt in
          subst (HasOwnAsks (c.function ∷ [])) (sym (within-asks given.fuel a within)) (record {
            each = (ByName [] named tt tt, tt);
            all = subst (λ xs. AllZip (λ (x : AskedHelper) k. IsKey x.key k) xs []) (sym none) lone;
            order = ap (λ xs. all_added_once (range_with_len 0 (next_number ahead)) (map (λ (x : AskedHelper). x.number) xs)) none ∙ one-order c.function [] (asked_put (within_put c) (omega (arith, first))) named;
            once = λ o. once-put (within_put c) o;
          })
      by (AsSync crosses sync c) keys first =
          let told = keys (describes add sound sync) in
          let are = have-keys add.asks (sync_asks given.fuel a) told.are in
          subst (HasOwnAsks (c.function ∷ [])) (sym (sync-asks given.fuel a crosses sync)) (record {
            each = (ByName add.asks told.named are there, tt);
            all = subst (λ ks. AllZip (λ (x : AskedHelper) k. IsKey x.key k) add.asks ks) (sym (append-nil (sync_asks given.fuel a))) are;
            order = one-order c.function (map (λ (x : AskedHelper). x.number) add.asks) (asked_put (sync_put c) (omega (arith, first))) told.named;
            once = λ o. once-put (sync_put c) o;
          })
      by (AsParts awaited c) keys first =
          let start = keys.starts u a (describes-transfers add sound) in
          let return = keys.returns u a (describes-transfers add sound) in
          let starts = have-keys keys.first (part_asks part.Start given.fuel a) start.are in
          let returns = have-keys keys.second (part_asks part.Return given.fuel a) return.are in
          let all-there = subst (AllByRecursion (λ (x : AskedHelper). Contains add.own.helpers (entry_of x))) keys.is there in
          let Is : AskedHelper → Type 0 = λ x. Contains add.own.helpers (entry_of x) in
          let one : length c.started.functions ≡ suc (length ahead.functions) = omega (arith, ap length c.start.puts.functions, length-append ahead.functions (c.start.function ∷ [])) in
          let two : length c.returned.functions ≡ suc (length c.started.functions) = omega (arith, ap length c.return.puts.functions, length-append c.started.functions (c.return.function ∷ [])) in
          let moved : AreFirstAsked ahead c.returned (c.start.function ∷ c.return.function ∷ []) =
          asked-on {fs = c.start.function ∷ []} (asked_put c.start.puts (omega (arith, first))) (asked_put c.return.puts (omega (arith, first, one, c.start.puts.imports.numbered))) in
          let last : next_number c.entered ≡ next_number c.returned = entry_number c.entry (omega (arith, first, one, two, c.start.puts.imports.numbered, c.return.puts.imports.numbered)) in
          let end : next_number add.own ≡ next_number c.returned = ap next_number c.callee ∙ last in
          let nums : map (λ (x : AskedHelper). x.number) add.asks ≡ map (λ (x : AskedHelper). x.number) keys.first ++ map (λ (x : AskedHelper). x.number) keys.second =
          ap (λ xs. map (λ (x : AskedHelper). x.number) xs) keys.is ∙ map-append (λ (x : AskedHelper). x.number) keys.first keys.second in
          let calls : defined_calls c.entry.function.body ≡ [] =
          ap defined_calls (c.entry.body a (describes-entry add sound))
          ∙ entry-calls-none c.entry.places (call_facts a (tuple_of_results t add.«data».lift.ty)) (length (lower_signature_of a).params) (callee_facts add.«data» (lift_signature_of a)) in
          let asked : part_asks part.Return given.fuel a ++ ([] ++ []) ≡ part_asks part.Return given.fuel a = append-nil (part_asks part.Return given.fuel a) in
          subst (HasOwnAsks (c.start.function ∷ c.return.function ∷ c.entry.function ∷ [])) (sym (parts-ask given.fuel a awaited)) (record {
            each = (ByName keys.first start.named starts (all-front Is keys.first keys.second all-there), (ByName keys.second return.named returns (all-behind Is keys.first keys.second all-there), (CallsNone calls refl, tt)));
            all = subst (λ xs. AllZip (λ (x : AskedHelper) k. IsKey x.key k) xs (part_asks part.Start given.fuel a ++ (part_asks part.Return given.fuel a ++ ([] ++ [])))) (sym keys.is)
                (subst (λ ks. AllZip (λ (x : AskedHelper) k. IsKey x.key k) (keys.first ++ keys.second) (part_asks part.Start given.fuel a ++ ks)) (sym asked)
                (zip-both (λ (x : AskedHelper) k. IsKey x.key k) keys.first keys.second (part_asks part.Start given.fuel a) (part_asks part.Return given.fuel a) starts returns));
            order = ap (all_added_once (range_with_len 0 (next_number ahead))) nums
                ∙ two-order c.start.function c.return.function (map (λ (x : AskedHelper). x.number) keys.first) (map (λ (x : AskedHelper). x.number) keys.second) moved start.named return.named ∙ ap (range_with_len 0) (sym end);
            once = λ o.
                let entered : c.entered.helpers ≡ c.returned.helpers = ap (λ (s : ModuleSoFar). s.helpers) c.entry.is_last ∙ entry_helpers c.entry in
                once-same c.entered add.own (ap (λ (s : ModuleSoFar). s.helpers) c.callee) (once-same c.returned c.entered entered (once-put c.return.puts (once-put c.start.puts o)));
          })
