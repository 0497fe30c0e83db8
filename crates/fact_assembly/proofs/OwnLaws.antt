-- The functions of one adapter, put into a module that has all that the adapter names: what is imported for them, what their code names, and that it
-- is in range.
use Rattle.std.proofs.Common.{◌≡◌, ℕ, zero, suc, ◌+◌, ◌<◌, ◌≤◌, Bool, true, List, [], ◌∷◌, ◌++◌, Option, Some, refl, sym, ap, ◌∙◌, subst, arith, length, length-append, slice_get, append-nil}
use Rattle.std.specs.List.{AllByRecursion, filter_map, range_with_len}
use Rattle.std.proofs.lemmas.Option.{slice_get_within}
use Rattle.fact_entity.specs.declared.id.Id.{Id}
use Rattle.fact_entity.specs.declared.table.Memories.{Memories}
use Rattle.fact_wasm.specs.declared.instr.FuncName.{FuncName}
use Rattle.fact_wasm.specs.declared.instr.FuncName.TheVariants as func
use Rattle.fact_wasm.specs.declared.instr.Instr.{Instr, the_lemmas}
use Rattle.fact_wasm.specs.declared.instr.Instr.TheVariants as I
use Rattle.fact_wasm.specs.declared.module.WasmFunc.{WasmFunc}
use Rattle.fact_wasm.specs.declared.types.FuncType.{FuncType}
use Rattle.fact_wasm.specs.declared.types.ValType.{ValType}
use Rattle.fact_wasm.specs.Ranges.{AreBodiesRanged, AreRanged, IsPoint, Named, Otherwise, Placed, Point, body_points, points}
use Rattle.fact_wasm.proofs.Ranged.{apart}
use Rattle.fact_types.specs.Adapters.{LinkedAdapter}
use Rattle.fact_types.specs.Tables.{Tables}
use Rattle.fact_types.specs.declared.import.Import.TheVariants as known
use Rattle.fact_types.specs.declared.signature.Signature.{Signature}
use Rattle.fact_actions.specs.Adapters.{AdapterTunables, def_of_memory, lift_signature_of, lower_signature_of}
use Rattle.fact_actions.specs.Sides.{options_of}
use Rattle.fact_emit.specs.declared.task_calls.StartCall.{StartCall}
use Rattle.fact_emit.specs.Imports.{Extended}
use Rattle.fact_emit.specs.ImportSection.{Mention, is_awaited}
use Rattle.fact_emit.specs.Known.{AreKnown}
use Rattle.fact_emit.specs.Listed.{ListsMentions}
use Rattle.fact_emit.specs.NamedFunctions.{all_added_once, defined_named, defined_place, imported_named, imported_place, name_at}
use Rattle.fact_emit.specs.States.{ModuleSoFar, functions_of, next_number}
use Rattle.fact_emit.specs.TaskCalls.{IsPrepareCallImported, IsStartCallImported}
use Rattle.fact_emit.proofs.BroughtLaws.{brought_counts}
use Rattle.fact_emit.proofs.ImportLaws.{extended_on, grown_get}
use Rattle.fact_emit.proofs.KnownLaws.{extended_type}
use Rattle.fact_emit.proofs.ListedCalls.{listed_calls}
use Rattle.fact_emit.proofs.ListedLaws.{listed_called, listed_even, listed_type, listed_unawaited}
use Rattle.fact_emit.proofs.NamedLaws.{below_added, points_append}
use Rattle.fact_compound.specs.Asks.{Having}
use Rattle.fact_compound.specs.Asyncs.{CompiledAsync}
use Rattle.fact_compound.specs.Described.{DescribesEntry}
use Rattle.fact_compound.specs.Entries.{CompiledEntry, NamesLift, arguments_code, call_facts, callee_facts, constants_code, entry_code, tuple_of_results}
use Rattle.fact_compound.specs.Functions.{CompiledSync}
use Rattle.fact_compound.specs.Puts.{PutsFunction}
use Rattle.fact_compound.specs.SameInstance.{CompiledSameInstance}
use Rattle.fact_compound.specs.declared.adapters.AdapterData.{AdapterData}
use Rattle.fact_compound.specs.declared.entries.EntryPlaces.{EntryPlaces}
use Rattle.fact_compound.proofs.AsksLaws.{entry_functions, entry_helpers, entry_numbers}
use Rattle.fact_assembly.specs.Adding.{AsParts, AsSync, AsTrap, CompiledAs, own_functions}
use Rattle.fact_assembly.specs.Order.{names as names_in}
use Rattle.fact_assembly.proofs.CompiledLaws.{callee-extended, entry-extended, not-awaited-sync, not-awaited-within}
use Rattle.fact_assembly.proofs.EntryCalls.{prepares-memory, starts-callback, starts-post-return}
use Rattle.fact_assembly.proofs.FirstAsked.{AreFirstAsked, asked-brought, asked-on, asked-same, asked-type, type-helpers, type-number}
use Rattle.fact_assembly.proofs.LiftNamed.{lift-later}
use Rattle.fact_assembly.proofs.NewNamed.{AreFirstNamed, first-brought, first-entry, first-on, first-same, first-type}

-- ---- bodies in range

points_more : (m n k l : ℕ) → m ≤ n → k ≤ l → (ps : List Point) → AllByRecursion (IsPoint m k) ps → AllByRecursion (IsPoint n l) ps
points_more m n k l imports funcs [] h = tt
points_more m n k l imports funcs (Named (func.Import j) ∷ ps) h = (omega (arith, imports, h.0), points_more m n k l imports funcs ps h.1)
points_more m n k l imports funcs (Named (func.Defined j) ∷ ps) h = (omega (arith, funcs, h.0), points_more m n k l imports funcs ps h.1)
points_more m n k l imports funcs (Placed a ∷ ps) h = (h.0, points_more m n k l imports funcs ps h.1)
points_more m n k l imports funcs (Otherwise j ∷ ps) h = (h.0, points_more m n k l imports funcs ps h.1)

pub body_more : (m n k l : ℕ) → m ≤ n → k ≤ l → (code : List Instr) → AreRanged m k code → AreRanged n l code
body_more m n k l imports funcs [] h = tt
body_more m n k l imports funcs (i ∷ is) h = (points_more m n k l imports funcs (points i) h.0, body_more m n k l imports funcs is h.1)

-- with more imported functions, and with more that the module defines
pub bodies_more : (m n k l : ℕ) → m ≤ n → k ≤ l → (fs : List WasmFunc) → AreBodiesRanged m k fs → AreBodiesRanged n l fs
bodies_more m n k l imports funcs [] h = tt
bodies_more m n k l imports funcs (f ∷ fs) h = (body_more m n k l imports funcs f.body h.0, bodies_more m n k l imports funcs fs h.1)

pub more_functions : {old new : ModuleSoFar} → Extended old new → length (functions_of old) ≤ length (functions_of new)
more_functions {old} e = omega (arith, ap length e.functions.is, length-append (functions_of old) e.functions.more)

-- ---- one function whose code was brought in

pub known_of : {s : ModuleSoFar} {ms : List Mention} {adapters : List LinkedAdapter} → ListsMentions s ms adapters → AreKnown s ms
known_of h = record { named = h.named; transcoders = h.transcoders }

-- what a module defines and exports is not looked at
pub listed_same : {old new : ModuleSoFar} {ms : List Mention} {adapters : List LinkedAdapter} → new.types ≡ old.types → new.section ≡ old.section → new.imports ≡ old.imports → ListsMentions old ms adapters → ListsMentions new ms adapters
listed_same types section imports h = record {
  defs = rw imports h.defs;
  named = rw (types, section, imports) h.named;
  transcoders = rw (types, section, imports) h.transcoders;
  task_calls = rw (types, section, imports) h.task_calls;
  once = rw imports h.once;
  signatures = rw types h.signatures;
}

module _ {name : List ℕ} {old new : ModuleSoFar} {f : WasmFunc} (x : PutsFunction name old new f) (ms : List Mention) (adapters : List LinkedAdapter) (lists : ListsMentions old ms adapters) where
  lists_declared : ListsMentions x.declared ms adapters
  lists_declared = listed_type old x.declared ms adapters _ x.declares lists

  lists_written : ListsMentions x.written ms adapters
  lists_written = listed_called x.brought.called x.declared x.written ms adapters x.brought.imported lists_declared

  listed_put : ListsMentions new ms adapters
  listed_put = listed_same {old = x.written} (ap (λ (s : ModuleSoFar). s.types) x.is_last) (ap (λ (s : ModuleSoFar). s.section) x.is_last) (ap (λ (s : ModuleSoFar). s.imports) x.is_last) lists_written

  first_put : AreFirstNamed old new (f ∷ [])
  first_put =
      first-same {new = x.written} (ap (λ (s : ModuleSoFar). s.section) x.is_last) (ap (λ (s : ModuleSoFar). s.imports) x.is_last)
      (first-on {fs = []} (first-type (listed_even old ms adapters lists) x.declares) (first-brought ms f (known_of lists_declared) (known_of lists_written) x.brought))

-- up to a number behind those that are taken
ranged_put : {name : List ℕ} {old new : ModuleSoFar} {f : WasmFunc} (x : PutsFunction name old new f) (n : ℕ) → new.numbered ≤ n → length new.functions ≤ n → AreRanged (length (functions_of new)) n f.body
ranged_put {new = new} {f} x n numbered functions =
    let count : ℕ = length (functions_of x.written) in
    let below : next_number x.written ≤ n =
    omega (arith, numbered, functions, ap (λ (s : ModuleSoFar). s.numbered) x.is_last, ap (λ (s : ModuleSoFar). length s.functions) x.is_last, length-append x.written.functions (f ∷ [])) in
    subst (λ s. AreRanged (length (functions_of s)) n f.body) (sym x.is_last) (body_more count count (next_number x.written) n (omega arith) below f.body x.brought.ranged)

-- its own number was taken ahead
put_number : {name : List ℕ} {old new : ModuleSoFar} {f : WasmFunc} (x : PutsFunction name old new f) → length old.functions < old.numbered → next_number new ≡ next_number x.written
put_number {old = old} {new} {f} x ahead =
    omega (
      arith,
      ap (λ (s : ModuleSoFar). s.numbered) x.is_last,
      ap length x.functions,
      length-append old.functions (f ∷ []),
      ap (λ (s : ModuleSoFar). length s.functions) x.is_last,
      length-append x.written.functions (f ∷ []),
      ahead,
      x.imports.numbered,
    )

-- it asks for the helpers that are new with it
pub asked_put : {name : List ℕ} {old new : ModuleSoFar} {f : WasmFunc} (x : PutsFunction name old new f) → length old.functions < old.numbered → AreFirstAsked old new (f ∷ [])
asked_put {old = old} {new} {f} x ahead =
    asked-same (put_number x ahead) (asked-on {fs = []} (asked-type x.declares) (asked-brought f x.brought))

pub within_put : {t : Tables} {d : AdapterData} {old new : ModuleSoFar} (c : CompiledSameInstance t d old new) → PutsFunction d.name old new c.function
within_put c = record { ty = c.ty; declared = c.declared; declares = c.declares; written = c.written; brought = c.brought; is_last = c.is_last; functions = c.functions; imports = c.imports }

pub sync_put : {Has : Having} {t : Tables} {d : AdapterData} {debug concurrency exceptions : Bool} {old new : ModuleSoFar} (c : CompiledSync Has t d debug concurrency exceptions old new) → PutsFunction d.name old new c.function
sync_put c = record { ty = c.ty; declared = c.declared; declares = c.declares; written = c.written; brought = c.brought; is_last = c.is_last; functions = c.functions; imports = c.writes.imports }

-- what hands a call on takes no number that is not taken ahead
pub entry_number : {t : Tables} {d : AdapterData} {start return : ℕ} {old new : ModuleSoFar} (c : CompiledEntry t d start return old new) → length old.functions < old.numbered → next_number new ≡ next_number old
entry_number {old = old} {new} c ahead =
    omega (arith, ahead, entry_numbers c, ap (λ (s : ModuleSoFar). s.numbered) c.is_last, ap (λ (s : ModuleSoFar). length s.functions) c.is_last, length-append c.written.functions (c.function ∷ []), ap length (entry_functions c))

-- as many numbers are taken as helpers are new
counts_put : {name : List ℕ} {old new : ModuleSoFar} {f : WasmFunc} (x : PutsFunction name old new f) → length old.functions < old.numbered → next_number new + length old.helpers ≡ next_number old + length new.helpers
counts_put {old = old} {new} {f} x ahead =
    omega (arith, brought_counts x.brought, type-number x.declares, type-helpers x.declares, ap (λ (s : ModuleSoFar). length s.helpers) x.is_last, put_number x ahead)

counts_entry : {t : Tables} {d : AdapterData} {start return : ℕ} {old new : ModuleSoFar} (c : CompiledEntry t d start return old new) → length old.functions < old.numbered → next_number new + length old.helpers ≡ next_number old + length new.helpers
counts_entry c ahead = omega (arith, entry_number c ahead, ap length (entry_helpers c), ap (λ (s : ModuleSoFar). length s.helpers) c.is_last)

-- ---- what the code of a function names that hands a call on

call_points : (f : FuncName) → points (I.Call f) ≡ Named f ∷ []
call_points f = simp the_lemmas

reference_points : (f : FuncName) → points (I.RefFunc f) ≡ Named f ∷ []
reference_points f = simp the_lemmas

constant_points : (n : ℕ) → points (I.I32Const n) ≡ []
constant_points n = simp the_lemmas

argument_points : (n : ℕ) → points (I.LocalGet n) ≡ []
argument_points n = simp the_lemmas

constants_pointless : (ns : List ℕ) → body_points (constants_code ns) ≡ []
constants_pointless [] = refl
constants_pointless (n ∷ ns) = (λ k. constant_points n k ++ constants_pointless ns k)

arguments_pointless : (first count : ℕ) → body_points (arguments_code first count) ≡ []
arguments_pointless first zero = refl
arguments_pointless first (suc count) = (λ k. argument_points first k ++ arguments_pointless (suc first) count k)

-- what a piece of code names, and that it is in range, by its points
module _ (e : EntryPlaces) (told : List ℕ) (params : ℕ) (started : List ℕ) where
  entry_points : body_points (entry_code e told params started) ≡ Named (func.Defined e.start) ∷ Named (func.Defined e.return_) ∷ Named (func.Import e.prepare_call) ∷ Named (func.Import e.callee) ∷ Named (func.Import e.start_call) ∷ []
  entry_points =
      (λ k. reference_points (func.Defined e.start) k ++ (reference_points (func.Defined e.return_) k ++ body_points (constants_code told ++ (arguments_code 0 params ++ behind))))
      ∙ ap (λ ps. Named (func.Defined e.start) ∷ Named (func.Defined e.return_) ∷ ps) (pointless (constants_code told) (arguments_code 0 params ++ behind) (constants_pointless told)
      ∙ pointless (arguments_code 0 params) behind (arguments_pointless 0 params)
      ∙ (λ k. call_points (func.Import e.prepare_call) k ++ (reference_points (func.Import e.callee) k ++ body_points (constants_code started ++ last)))
      ∙ ap (λ ps. Named (func.Import e.prepare_call) ∷ Named (func.Import e.callee) ∷ ps) (pointless (constants_code started) last (constants_pointless started)
      ∙ (λ k. call_points (func.Import e.start_call) k ++ [])))
    where
      last : List Instr
      last = I.Call (func.Import e.start_call) ∷ []

      behind : List Instr
      behind = I.Call (func.Import e.prepare_call) ∷ I.RefFunc (func.Import e.callee) ∷ (constants_code started ++ last)

      pointless : (a b : List Instr) → body_points a ≡ [] → body_points (a ++ b) ≡ body_points b
      pointless a b none = points_append a b ∙ ap (λ ps. ps ++ body_points b) none

  entry_named : imported_named (entry_code e told params started) ≡ e.prepare_call ∷ e.callee ∷ e.start_call ∷ []
  entry_named = ap (λ ps. filter_map imported_place (filter_map name_at ps)) entry_points

  entry_defined : defined_named (entry_code e told params started) ≡ e.start ∷ e.return_ ∷ []
  entry_defined = ap (λ ps. filter_map defined_place (filter_map name_at ps)) entry_points

  entry_ranged : (m n : ℕ) → e.start < n → e.return_ < n → e.prepare_call < m → e.callee < m → e.start_call < m → AreRanged m n (entry_code e told params started)
  entry_ranged m n start return prepare callee call = apart (IsPoint m n) (entry_code e told params started) (subst (AllByRecursion (IsPoint m n)) (sym entry_points) (start, (return, (prepare, (callee, (call, tt))))))

-- ---- the function that hands a call on

module _ (old between new : ModuleSoFar) (ms : List Mention) (adapters : List LinkedAdapter) (a : LinkedAdapter) (c : StartCall) (m : Option (Id Memories)) (start prepare : ℕ) where
  -- with both calls imported the module lists those of the adapter too
  abbrev Lists : (name : List ℕ) → (params results : List ValType) → Type 0
  Lists name params results =
      (s : IsStartCallImported old between name c results start) → s.callback ≡ a.lift.callback → s.post_return ≡ a.lift.post_return
      → (p : IsPrepareCallImported between new name m params prepare) → p.memory ≡ def_of_memory (options_of a.lift) → ListsMentions new ms (adapters ++ a ∷ [])

  calls_listed : is_awaited a ≡ true → (name : List ℕ) (params results : List ValType) → ListsMentions old ms adapters → name ≡ a.name → params ≡ a.lower.core_type.params → results ≡ a.lower.core_type.results → Lists name params results
  calls_listed awaited name params results lists name_is params_are results_are =
      subst (λ n. Lists n params results) (sym name_is) (subst (λ ps. Lists a.name ps results) (sym params_are) (subst (λ rs. Lists a.name a.lower.core_type.params rs) (sym results_are)
      (λ s callback_is post_return_is p memory_is. listed_calls old between ms adapters a awaited c start s callback_is post_return_is lists new m prepare p memory_is)))

module _ {t : Tables} (d : AdapterData) {start return : ℕ} {old new : ModuleSoFar} (c : CompiledEntry t d start return old new) (ms : List Mention) (adapters : List LinkedAdapter) (a : LinkedAdapter) (awaited : is_awaited a ≡ true)
    (name : d.name ≡ a.name) (core_type : a.lower.core_type ≡ record { params = (lower_signature_of a).params; results = (lower_signature_of a).results }) (describes : DescribesEntry t d a) (names : NamesLift old d a)
    (callee : slice_get (functions_of old) d.callee.number ≡ Some (known.CoreDef a.callee)) (lists : ListsMentions old ms adapters) where
  entry_declared : ListsMentions c.declared ms adapters
  entry_declared = listed_type old c.declared ms adapters _ c.declares lists

  to_declared : Extended old c.declared
  to_declared = extended_type c.ty c.declares

  to_written : Extended old c.written
  to_written = extended_on to_declared c.calls.imports

  entry_written : ListsMentions c.written ms (adapters ++ a ∷ [])
  entry_written =
      let lower = c.lower_is a describes in
      let there = lift-later to_declared d a names in
      calls_listed c.declared c.calls.between c.written ms adapters a (record { callback = d.lift.options.callback; post_return = d.lift.post_return }) d.lift.options.linear.memory c.places.start_call c.places.prepare_call
      awaited d.name c.lower.params c.lower.results entry_declared name
      (ap (λ (s : Signature). s.params) lower ∙ sym (ap (λ (ty : FuncType). ty.params) core_type)) (ap (λ (s : Signature). s.results) lower ∙ sym (ap (λ (ty : FuncType). ty.results) core_type))
      c.calls.starts (starts-callback c.calls a there) (starts-post-return c.calls a there) c.calls.prepares (prepares-memory c.calls a there)

  listed_entry : ListsMentions new ms (adapters ++ a ∷ [])
  listed_entry = listed_same {old = c.written} (ap (λ (s : ModuleSoFar). s.types) c.is_last) (ap (λ (s : ModuleSoFar). s.section) c.is_last) (ap (λ (s : ModuleSoFar). s.imports) c.is_last) entry_written

  callee_at : slice_get (functions_of c.written) c.places.callee ≡ Some (known.CoreDef a.callee)
  callee_at = ap (slice_get (functions_of c.written)) c.calls.callee_is ∙ grown_get to_written.functions d.callee.number (known.CoreDef a.callee) callee

  first_entry : AreFirstNamed old new (c.function ∷ [])
  first_entry =
      let named : imported_named c.function.body ≡ c.places.prepare_call ∷ c.places.callee ∷ c.places.start_call ∷ [] =
      ap imported_named (c.body a describes) ∙ entry_named c.places (call_facts a (tuple_of_results t d.lift.ty)) (length (lower_signature_of a).params) (callee_facts d (lift_signature_of a)) in
      first-same {new = c.written} (ap (λ (s : ModuleSoFar). s.section) c.is_last) (ap (λ (s : ModuleSoFar). s.imports) c.is_last)
      (first-on {fs = []} (first-type (listed_even old ms adapters lists) c.declares)
      (first-entry ms c.function (known_of entry_declared) (known_of entry_written) c.calls.starts c.calls.prepares c.calls.prepared.functions callee_at named))

  -- it names the two other functions, whose numbers are taken, and asks for nothing
  asked_entry : start < next_number old → return < next_number old → length old.functions < old.numbered → AreFirstAsked old new (c.function ∷ [])
  asked_entry start_there return_there ahead =
      let named : defined_named c.function.body ≡ c.places.start ∷ c.places.return_ ∷ [] =
      ap defined_named (c.body a describes) ∙ entry_defined c.places (call_facts a (tuple_of_results t d.lift.ty)) (length (lower_signature_of a).params) (callee_facts d (lift_signature_of a)) in
      let same : next_number new ≡ next_number old = entry_number c ahead in
      record {
        in_order = ap (λ ks. all_added_once (range_with_len 0 (next_number old)) (filter_map defined_place ks)) (append-nil (names_in c.function)) ∙ ap (all_added_once (range_with_len 0 (next_number old))) named
            ∙ below_added (next_number old) (c.places.start ∷ c.places.return_ ∷ []) (omega (arith, start_there, c.calls.start_is), (omega (arith, return_there, c.calls.return_is), tt)) ∙ ap (range_with_len 0) (sym same);
        numbers = omega (arith, same);
      }

  ranged_entry : (n : ℕ) → start < n → return < n → AreRanged (length (functions_of new)) n c.function.body
  ranged_entry n start_there return_there =
      let m : ℕ = length (functions_of c.written) in
      let call = grown_get c.calls.prepared.functions c.places.start_call _ c.calls.starts.has.there in
      let within = entry_ranged c.places (call_facts a (tuple_of_results t d.lift.ty)) (length (lower_signature_of a).params) (callee_facts d (lift_signature_of a)) m n
      (omega (arith, start_there, c.calls.start_is)) (omega (arith, return_there, c.calls.return_is))
      (slice_get_within (functions_of c.written) c.places.prepare_call _ c.calls.prepares.has.there) (slice_get_within (functions_of c.written) c.places.callee _ callee_at)
      (slice_get_within (functions_of c.written) c.places.start_call _ call) in
      subst (λ s. AreRanged (length (functions_of s)) n c.function.body) (sym c.is_last) (subst (AreRanged m n) (sym (c.body a describes)) within)

-- ---- all functions of an adapter

-- A module has all that the functions of an adapter ask for by its data.
pub record IsReadyFor (t : Tables) (d : AdapterData) (a : LinkedAdapter) (imported : ModuleSoFar) : Type 0 where
  pub name : d.name ≡ a.name
  pub core_type : a.lower.core_type ≡ record { params = (lower_signature_of a).params; results = (lower_signature_of a).results }
  pub describes : DescribesEntry t d a
  pub lift : NamesLift imported d a
  pub callee : slice_get (functions_of imported) d.callee.number ≡ Some (known.CoreDef a.callee)

pub ready_later : {t : Tables} {d : AdapterData} {a : LinkedAdapter} {old new : ModuleSoFar} → Extended old new → IsReadyFor t d a old → IsReadyFor t d a new
ready_later {d = d} {a} e x = record { name = x.name; core_type = x.core_type; describes = x.describes; lift = lift-later e d a x.lift; callee = grown_get e.functions d.callee.number (known.CoreDef a.callee) x.callee }

module _ {Has : Having} {t : Tables} (d : AdapterData) {debug concurrency : Bool} {old new : ModuleSoFar} (c : CompiledAsync Has t d debug concurrency old new) (ms : List Mention) (adapters : List LinkedAdapter) (a : LinkedAdapter) (awaited : is_awaited a ≡ true)
    (ready : IsReadyFor t d a old) (lists : ListsMentions old ms adapters) where
  lists_started : ListsMentions c.started ms adapters
  lists_started = listed_put c.start.puts ms adapters lists

  lists_returned : ListsMentions c.returned ms adapters
  lists_returned = listed_put c.return.puts ms adapters lists_started

  there : IsReadyFor t d a c.returned
  there = ready_later (extended_on c.start.puts.imports c.return.puts.imports) ready

  listed_parts : ListsMentions new ms (adapters ++ a ∷ [])
  listed_parts =
      listed_same {old = c.entered} (ap (λ (s : ModuleSoFar). s.types) c.callee) (ap (λ (s : ModuleSoFar). s.section) c.callee) (ap (λ (s : ModuleSoFar). s.imports) c.callee)
      (listed_entry d c.entry ms adapters a awaited there.name there.core_type there.describes there.lift there.callee lists_returned)

  first_parts : AreFirstNamed old new (c.start.function ∷ c.return.function ∷ c.entry.function ∷ [])
  first_parts =
      first-same {new = c.entered} (ap (λ (s : ModuleSoFar). s.section) c.callee) (ap (λ (s : ModuleSoFar). s.imports) c.callee)
      (first-on {fs = c.start.function ∷ []} (first_put c.start.puts ms adapters lists) (first-on {fs = c.return.function ∷ []} (first_put c.return.puts ms adapters lists_started)
      (first_entry d c.entry ms adapters a awaited there.name there.core_type there.describes there.lift there.callee lists_returned)))

  asked_parts : length old.functions + 2 < old.numbered → AreFirstAsked old new (c.start.function ∷ c.return.function ∷ c.entry.function ∷ [])
  asked_parts ahead =
      let first : length c.started.functions ≡ suc (length old.functions) = omega (arith, ap length c.start.puts.functions, length-append old.functions (c.start.function ∷ [])) in
      let second : length c.returned.functions ≡ suc (length c.started.functions) = omega (arith, ap length c.return.puts.functions, length-append c.started.functions (c.return.function ∷ [])) in
      let last : next_number new ≡ next_number c.entered = ap next_number c.callee in
      asked-on {fs = c.start.function ∷ []} (asked_put c.start.puts (omega (arith, ahead)))
      (asked-on {fs = c.return.function ∷ []} (asked_put c.return.puts (omega (arith, ahead, first, c.start.puts.imports.numbered)))
      (asked-same last (asked_entry d c.entry ms adapters a awaited there.name there.core_type there.describes there.lift there.callee lists_returned (omega (arith, ahead, c.start.puts.imports.numbered, c.return.puts.imports.numbered))
      (omega (arith, ahead, c.start.puts.imports.numbered, c.return.puts.imports.numbered)) (omega (arith, ahead, first, second, c.start.puts.imports.numbered, c.return.puts.imports.numbered)))))

  counts_parts : length old.functions + 2 < old.numbered → next_number new + length old.helpers ≡ next_number old + length new.helpers
  counts_parts ahead =
      let first : length c.started.functions ≡ suc (length old.functions) = omega (arith, ap length c.start.puts.functions, length-append old.functions (c.start.function ∷ [])) in
      let second : length c.returned.functions ≡ suc (length c.started.functions) = omega (arith, ap length c.return.puts.functions, length-append c.started.functions (c.return.function ∷ [])) in
      let start = counts_put c.start.puts (omega (arith, ahead)) in
      let return = counts_put c.return.puts (omega (arith, ahead, first, c.start.puts.imports.numbered)) in
      let entry = counts_entry c.entry (omega (arith, ahead, first, second, c.start.puts.imports.numbered, c.return.puts.imports.numbered)) in
      omega (arith, start, return, entry, ap next_number c.callee, ap (λ (s : ModuleSoFar). length s.helpers) c.callee)

  ranged_parts : (n : ℕ) → new.numbered ≤ n → length new.functions ≤ n → length old.functions + 3 ≤ n → AreBodiesRanged (length (functions_of new)) n (c.start.function ∷ c.return.function ∷ c.entry.function ∷ [])
  ranged_parts n numbered functions count =
      let last = callee-extended c in
      let returned = extended_on (entry-extended c.entry) last in
      let started = extended_on c.return.puts.imports returned in
      let same : n ≤ n = omega arith in
      let first : length c.started.functions ≡ suc (length old.functions) = omega (arith, ap length c.start.puts.functions, length-append old.functions (c.start.function ∷ [])) in
      let second : length c.returned.functions ≡ suc (length c.started.functions) = omega (arith, ap length c.return.puts.functions, length-append c.started.functions (c.return.function ∷ [])) in
      let entry = body_more (length (functions_of c.entered)) (length (functions_of new)) n n (more_functions last) same c.entry.function.body
      (ranged_entry d c.entry ms adapters a awaited there.name there.core_type there.describes there.lift there.callee lists_returned n (omega (arith, count)) (omega (arith, count))) in (
        body_more (length (functions_of c.started)) (length (functions_of new)) n n (more_functions started) same c.start.function.body (ranged_put c.start.puts n (omega (arith, numbered, started.numbered)) (omega (arith, first, count))),
        (body_more (length (functions_of c.returned)) (length (functions_of new)) n n (more_functions returned) same c.return.function.body (ranged_put c.return.puts n (omega (arith, numbered, returned.numbered)) (omega (arith, first, second, count))), (entry, tt)),
      )

module _ {end : ModuleSoFar} {t : Tables} {d : AdapterData} {u : AdapterTunables} {a : LinkedAdapter} {imported new : ModuleSoFar} (c : CompiledAs end t d u a imported new) (ms : List Mention) (adapters : List LinkedAdapter) (ready : IsReadyFor t d a imported)
    (lists : ListsMentions imported ms adapters) where
  pub listed_own : ListsMentions new ms (adapters ++ a ∷ [])
  listed_own = by c
    where
      by : CompiledAs end t d u a imported new → ListsMentions new ms (adapters ++ a ∷ [])
      by (AsTrap within x) = listed_unawaited new ms adapters a (not-awaited-within a within) (listed_put (within_put x) ms adapters lists)
      by (AsSync crosses sync x) = listed_unawaited new ms adapters a (not-awaited-sync a sync) (listed_put (sync_put x) ms adapters lists)
      by (AsParts awaited x) = listed_parts d x ms adapters a awaited ready lists

  pub first_own : AreFirstNamed imported new (own_functions c)
  first_own = by c
    where
      by : (c : CompiledAs end t d u a imported new) → AreFirstNamed imported new (own_functions c)
      by (AsTrap within x) = first_put (within_put x) ms adapters lists
      by (AsSync crosses sync x) = first_put (sync_put x) ms adapters lists
      by (AsParts awaited x) = first_parts d x ms adapters a awaited ready lists

  -- They ask for the helpers that are new with them, where their own numbers are taken ahead.
  pub asked_own : imported.numbered ≡ length imported.functions + length (own_functions c) → AreFirstAsked imported new (own_functions c)
  asked_own = by c
    where
      by : (c : CompiledAs end t d u a imported new) → imported.numbered ≡ length imported.functions + length (own_functions c) → AreFirstAsked imported new (own_functions c)
      by (AsTrap within x) ahead = asked_put (within_put x) (omega (arith, ahead))
      by (AsSync crosses sync x) ahead = asked_put (sync_put x) (omega (arith, ahead))
      by (AsParts awaited x) ahead = asked_parts d x ms adapters a awaited ready lists (omega (arith, ahead))

  pub counts_own : imported.numbered ≡ length imported.functions + length (own_functions c) → next_number new + length imported.helpers ≡ next_number imported + length new.helpers
  counts_own = by c
    where
      by : (c : CompiledAs end t d u a imported new) → imported.numbered ≡ length imported.functions + length (own_functions c) → next_number new + length imported.helpers ≡ next_number imported + length new.helpers
      by (AsTrap within x) ahead = counts_put (within_put x) (omega (arith, ahead))
      by (AsSync crosses sync x) ahead = counts_put (sync_put x) (omega (arith, ahead))
      by (AsParts awaited x) ahead = counts_parts d x ms adapters a awaited ready lists (omega (arith, ahead))

  pub ranged_own : (n : ℕ) → new.numbered ≤ n → length new.functions ≤ n → new.functions ≡ imported.functions ++ own_functions c → AreBodiesRanged (length (functions_of new)) n (own_functions c)
  ranged_own n numbered count = by c
    where
      by : (c : CompiledAs end t d u a imported new) → new.functions ≡ imported.functions ++ own_functions c → AreBodiesRanged (length (functions_of new)) n (own_functions c)
      by (AsTrap within x) functions = (ranged_put (within_put x) n numbered count, tt)
      by (AsSync crosses sync x) functions = (ranged_put (sync_put x) n numbered count, tt)
      by (AsParts awaited x) functions = ranged_parts d x ms adapters a awaited ready lists n numbered count (omega (arith, count, ap length functions, length-append imported.functions (x.start.function ∷ x.return.function ∷ x.entry.function ∷ [])))
