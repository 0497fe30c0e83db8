-- The function of an async adapter that has the adapter's name, and the module that it is put into.
use Rattle.std.proofs.Common.{◌≡◌, ℕ, zero, suc, ◌+◌, ◌*◌, ◌≤◌, Bool, true, false, ◌⊎◌, inl, inr, List, [], ◌∷◌, ◌++◌, Option, Some, None, refl, sym, ap, ◌∙◌, subst, arith, append-nil, append_assoc, length, length-append, map, reverse, slice_get}
use Rattle.std.specs.Prelude.{if◌then◌else◌}
use Rattle.fact_wasm.specs.CoreTypes.{signature}
use Rattle.fact_wasm.specs.declared.instr.FuncName.TheVariants as func
use Rattle.fact_wasm.specs.declared.instr.Instr.{Instr}
use Rattle.fact_wasm.specs.declared.instr.Instr.TheVariants as I
use Rattle.fact_wasm.specs.declared.module.WasmFunc.{WasmFunc}
use Rattle.fact_wasm.specs.declared.module.WasmImport.{WasmImport}
use Rattle.fact_wasm.specs.declared.module.WasmModule.{WasmModule}
use Rattle.fact_wasm.specs.declared.types.ValType.{ValType}
use Rattle.fact_entity.specs.declared.id.Id.{Id}
use Rattle.fact_entity.specs.declared.table.Funcs.{Funcs}
use Rattle.fact_entity.specs.declared.table.Memories.{Memories}
use Rattle.fact_machine.specs.Exits.{entry_locals}
use Rattle.fact_machine.specs.Machine.{locals_of}
use Rattle.fact_machine.specs.Numerics.{truth}
use Rattle.std.specs.List.{list_all}
use Rattle.fact_machine.specs.Typing.{declares_numbers, local_types}
use Rattle.fact_machine.specs.declared.types.CoreValue.{CoreValue}
use Rattle.fact_machine.specs.declared.types.CoreValue.TheVariants.{Func, I32}
use Rattle.fact_types.specs.Adapters.{LinkedAdapter, is_wide}
use Rattle.fact_types.specs.Functions.{HasSignature}
use Rattle.fact_types.specs.Shapes.{Shape}
use Rattle.fact_types.specs.Signatures.{address, flat_or, flat_params, flat_values, lift_by, lift_signature, lower_by, lower_limit, lower_pointer, lower_signature, unless_flat}
use Rattle.fact_types.specs.Tables.{Tables}
use Rattle.fact_types.specs.declared.import.Import.{Import}
use Rattle.fact_types.specs.declared.import.Import.TheVariants as known
use Rattle.fact_types.specs.declared.outside.CoreDef.{CoreDef}
use Rattle.fact_types.specs.declared.signature.SideSig.{SideSig}
use Rattle.fact_types.specs.declared.signature.Signature.{Signature}
use Rattle.fact_actions.specs.Actions.{◌>>=◌}
use Rattle.fact_actions.specs.Adapters.{async_call, def_of_memory, lift_signature_of, lower_signature_of, make_call, prepare_args, start_args}
use Rattle.fact_actions.specs.Running.{ImportPlaces}
use Rattle.fact_actions.specs.Sides.{options_of}
use Rattle.fact_code_laws.specs.Does.{Onward, Does}
use Rattle.fact_code_laws.specs.Knows.{KnowsFunction}
use Rattle.fact_code_laws.specs.PieceLaws.{HaveResultTypes}
use Rattle.fact_code_laws.specs.Places.{AreLocals}
use Rattle.fact_code_laws.specs.Typed.{OnStack, IsTyped}
use Rattle.fact_code_laws.proofs.TypedShapes.{typed_body}
use Rattle.fact_emit.specs.Imports.{AreOnce, Extended, Serves}
use Rattle.fact_emit.specs.PlacesOf.{with_place}
use Rattle.fact_emit.specs.States.{HasType, KeepsDefined, ModuleSoFar, export_as, functions_of, globals_of, memories_of, with_import}
use Rattle.fact_emit.specs.TaskCalls.{IsFunctionThere, IsMemoryThere}
use Rattle.fact_emit.specs.TaskTypes.{prepare_call_type, start_call_type}
use Rattle.fact_emit.proofs.DefinedKept.{defined_on, defined_same, defined_type, extended_defined}
use Rattle.fact_emit.proofs.ImportLaws.{extended_on, grown_get}
use Rattle.fact_emit.proofs.PlacesOfLaws.{import_self}
use Rattle.fact_emit.proofs.ServingLaws.{serves_sooner}
use Rattle.fact_compound.specs.Described.{DescribesEntry, side_sig}
use Rattle.fact_compound.specs.Entries.{CompiledEntry, HasReferences, ImportsCalls, IsEntryFunction, IsHandedOn, NamesLift, WroteEntry, arguments_code, call_facts, callee_facts, entry_code, handed_on, tuple_of_results, with_task_calls}
use Rattle.fact_compound.specs.Functions.{slots_from}
use Rattle.fact_compound.specs.Syncs.{lower_type_of}
use Rattle.fact_compound.specs.declared.adapters.AdapterData.{AdapterData}
use Rattle.fact_compound.specs.declared.entries.EntryPlaces.{EntryPlaces}
use Rattle.fact_compound.proofs.EntrySteps.{entry_does, entry_typed, started_args, told_args}
use Rattle.fact_compound.proofs.Flats.{params_flat}
use Rattle.fact_compound.proofs.SlotsFrom.{args_held, locals_from, same_place}
use Rattle.fact_compound.proofs.SyncBodies.{flat_few}
use Rattle.fact_compound.proofs.WholeFunctions.{once_same, typed_within}

-- ---- what is there has one definition

function_one : {s s' : ModuleSoFar} → Extended s s' → (o : Option (Id Funcs)) (x y : Option CoreDef) → IsFunctionThere s o x → IsFunctionThere s' o y → y ≡ x
function_one e None None None h k = refl
function_one e None (Some x) y h k = absurd h
function_one e None None (Some y) h k = absurd k
function_one e (Some f) None y h k = absurd h
function_one e (Some f) (Some x) None h k = absurd k
function_one {s} {s'} e (Some f) (Some x) (Some y) h k =
    let same : Some (known.CoreDef y) ≡ Some (known.CoreDef x) = sym k ∙ grown_get e.functions f.number (known.CoreDef x) h in
    let one : y ≡ x = cc in
    ap (λ d. Some d) one

memory_one : {s s' : ModuleSoFar} → Extended s s' → (o : Option (Id Memories)) (x y : Option CoreDef) → IsMemoryThere s o x → IsMemoryThere s' o y → y ≡ x
memory_one e None None None h k = refl
memory_one e None (Some x) y h k = absurd h
memory_one e None None (Some y) h k = absurd k
memory_one e (Some m) None y h k = absurd h
memory_one e (Some m) (Some x) None h k = absurd k
memory_one {s} {s'} e (Some m) (Some x) (Some y) h k =
    let same : Some (known.CoreDef y) ≡ Some (known.CoreDef x) = sym k ∙ grown_get e.memories m.number (known.CoreDef x) h in
    let one : y ≡ x = cc in
    ap (λ d. Some d) one

-- ---- the places of the two calls

module _ (a : LinkedAdapter) (prepare start : ℕ) (p : ImportPlaces) where
  abbrev prepare_is : Import
  prepare_is = known.PrepareCall (def_of_memory (options_of a.lift))

  abbrev start_is : Import
  start_is = known.StartCall a.lift.callback a.lift.post_return

  prepare_placed : (with_task_calls a prepare start p).function prepare_is ≡ prepare
  prepare_placed = ap (λ b. if b then prepare else (with_place start_is start p).function prepare_is) (import_self prepare_is)

  start_placed : (with_task_calls a prepare start p).function start_is ≡ start
  start_placed = ap (λ b. if b then start else p.function start_is) (import_self start_is)

-- ---- the core parameters are few

pointer_few : (mark m : Bool) (rs : List Shape) → length (lower_pointer mark m rs) ≤ 1
pointer_few true m [] = omega arith
pointer_few true m (r ∷ rs) = omega arith
pointer_few false m rs = go (flat_values m 1 rs)
  where
    go : (o : Option (List ValType)) → length (unless_flat (address m ∷ []) o) ≤ 1
    go None = omega arith
    go (Some fs) = omega arith

params_few : (m mark : Bool) (ps : List Shape) → length (flat_params m (lower_limit mark) ps) ≤ 16
params_few m mark ps = go (flat_values m (lower_limit mark) ps) refl
  where
    go : (o : Option (List ValType)) → flat_values m (lower_limit mark) ps ≡ o → length (flat_or (address m ∷ []) o) ≤ 16
    go None e = omega arith
    go (Some fs) e = flat_few m 16 fs (params_flat m mark ps fs e)

lower_params_are : (mark m : Bool) (ps rs : List Shape) → (lower_by mark m ps rs).params ≡ flat_params m (lower_limit mark) ps ++ lower_pointer mark m rs
lower_params_are true m ps rs = refl
lower_params_are false m ps rs = refl

pub lower_few : (a : LinkedAdapter) → length (lower_signature_of a).params ≤ 17
lower_few a =
    let m = is_wide a.lower.memory in
    let mark = a.lower.async_side in
    let front = flat_params m (lower_limit mark) a.lower.params in
    let pointer = lower_pointer mark m a.lower.results in
    omega (arith, ap length (lower_params_are mark m a.lower.params a.lower.results), length-append front pointer, params_few m mark a.lower.params, pointer_few mark m a.lower.results)

-- ---- the function

module _ {d : AdapterData} (a : LinkedAdapter) (t : Tables) (h : DescribesEntry t d a) {start return : ℕ} {old declared written : ModuleSoFar} {e : EntryPlaces} {lower : Signature} (lower_is : lower ≡ lower_signature_of a) (names : NamesLift old d a) (grown : Extended old declared) (calls : ImportsCalls d lower start return declared written e)
    (f : WasmFunc) (no_locals : f.locals ≡ []) (body_is : f.body ≡ entry_code e (call_facts a (tuple_of_results t d.lift.ty)) (length (lower_signature_of a).params) (callee_facts d (lift_signature_of a))) {M : WasmModule} {p : ImportPlaces} (serves : Serves M p written) where
  abbrev tuple : ℕ
  tuple = tuple_of_results t d.lift.ty

  abbrev places : ImportPlaces
  places = with_task_calls a e.prepare_call e.start_call p

  abbrev told : List ℕ
  told = call_facts a tuple

  abbrev started : List ℕ
  started = callee_facts d (lift_signature_of a)

  abbrev params : List ValType
  params = (lower_signature_of a).params

  abbrev results : List ValType
  results = (lower_signature_of a).results

  prepares : KnowsFunction M places (prepare_is a e.prepare_call e.start_call p) e.prepare_call (prepare_call_type params).params []
  prepares =
      let x = calls.prepares in
      let memory : x.memory ≡ def_of_memory (options_of a.lift) = memory_one (extended_on grown calls.started) d.lift.options.linear.memory (def_of_memory (options_of a.lift)) x.memory names.memory x.memory_is in
      let has = serves.imports (known.PrepareCall x.memory) e.prepare_call (prepare_call_type lower.params).params [] x.has in
      record { type_at = has.type_at; placed = prepare_placed a e.prepare_call e.start_call p; imported = has.imported; type_is = has.type_is ∙ ap (λ (s : Signature). Some (prepare_call_type s.params)) lower_is }

  starts : KnowsFunction M places (start_is a e.prepare_call e.start_call p) e.start_call (start_call_type results).params results
  starts =
      let x = calls.starts in
      let has = (serves_sooner calls.prepared serves).imports (known.StartCall x.callback x.post_return) e.start_call (start_call_type lower.results).params lower.results x.has in
      record { type_at = has.type_at; placed = start_placed a e.prepare_call e.start_call p; imported = has.imported; type_is = has.type_is ∙ ap (λ (s : Signature). Some (start_call_type s.results)) lower_is }

  module _ (refs : HasReferences M (handed_on d start return tuple)) where
    gives : IsHandedOn M (func.Defined e.start)
    gives = subst (λ n. IsHandedOn M (func.Defined n)) (sym calls.start_is) refs.start

    takes : IsHandedOn M (func.Defined e.return_)
    takes = subst (λ n. IsHandedOn M (func.Defined n)) (sym calls.return_is) refs.return

    callee : IsHandedOn M (func.Import e.callee)
    callee = subst (λ n. IsHandedOn M (func.Import n)) (sym calls.callee_is) refs.callee

    -- what is handed to the two calls
    prepared_is : (args : List CoreValue) → told_args e told started refl refl prepares starts gives takes callee args ≡ prepare_args a (handed_on d start return tuple) args
    prepared_is args = λ i.
        Func (func.Defined (calls.start_is i)) ∷ Func (func.Defined (calls.return_is i)) ∷ (map (λ n. I32 n) told ++ args)

    started_is : started_args e told started refl refl prepares starts gives takes callee ≡ start_args a (handed_on d start return tuple)
    started_is = λ i.
        Func (func.Import (calls.callee_is i)) ∷ I32 (length (lift_signature_of a).params) ∷ I32 (length (lift_signature_of a).results) ∷ I32 (truth (sym h.lift.mark i) + 2 * truth (sym h.lower.mark i)) ∷ []

  pub is_entry : IsEntryFunction a (handed_on d start return tuple) M places f
  is_entry = record {
    does = λ refs args h'.
        let held = args_held args params (locals_of f.locals) h' in
        let few : length params ≤ 80 = omega (arith, lower_few a) in
        let code = entry_does e told started refl refl prepares starts (gives refs) (takes refs) (callee refs) (entry_locals f args) args few h' held in
        subst (λ k. Does M places Onward 100 0 [] (entry_locals f args) k (async_call a (handed_on d start return tuple) args) reverse (HaveResultTypes (lower_type_of a))) (sym body_is)
        (subst (λ q. Does M places Onward 100 0 [] (entry_locals f args) (entry_code e told (length params) started) q reverse (HaveResultTypes (lower_type_of a)))
        (λ i. make_call (prepare_is a e.prepare_call e.start_call p) (prepared_is refs args i) [] >>= (λ (rs : List CoreValue). make_call (start_is a e.prepare_call e.start_call p) (started_is refs i) results)) code);
    typed = λ refs there.
        let none : local_types f.locals ≡ [] = ap local_types no_locals in
        let locals : params ++ local_types f.locals ≡ params = ap (λ ts. params ++ ts) none ∙ append-nil params in
        let local : AreLocals params (slots_from 0 params) = locals_from params 0 params (λ i t e. ap (slice_get params) (same_place i) ∙ e) in
        let code = entry_typed e told started refl refl prepares starts (gives refs) (takes refs) (callee refs) params local in
        typed_body f (lower_type_of a) there (ap (λ ls. list_all declares_numbers ls) no_locals)
        (typed_within (subst (λ ts. IsTyped M ts [] f.body [] (OnStack (reverse results))) (sym locals) (subst (λ k. IsTyped M params [] k [] (OnStack (reverse results))) (sym body_is) code)));
  }

-- ---- the module

-- the two calls are imported, and no function is defined
calls_kept : {d : AdapterData} {lower : Signature} {start return : ℕ} {old new : ModuleSoFar} {e : EntryPlaces} → ImportsCalls d lower start return old new e → KeepsDefined old new
calls_kept {old = old} {new} {e} x = defined_on (defined_type x.starts.types) (defined_on (started _ _ x.starts.step) (defined_on (defined_type x.prepares.types) prepared))
  where
    prepared : KeepsDefined x.prepares.typed new
    prepared = record { functions = ap (λ (s : ModuleSoFar). s.functions) x.prepares.is_new; exports = ap (λ (s : ModuleSoFar). s.exports) x.prepares.is_new; callees = ap (λ (s : ModuleSoFar). s.callees) x.prepares.is_new }

    started : (w : WasmImport) (i : Import) {P Q : Type 0} → ((x.between ≡ x.starts.typed) × P) ⊎ ((x.between ≡ with_import x.starts.typed w i) × Q) → KeepsDefined x.starts.typed x.between
    started w i (inl same) = defined_same same.0
    started w i (inr added) = record { functions = ap (λ (s : ModuleSoFar). s.functions) added.0; exports = ap (λ (s : ModuleSoFar). s.exports) added.0; callees = ap (λ (s : ModuleSoFar). s.callees) added.0 }

-- The function was put into the module.
pub compiled_entry : {t : Tables} {d : AdapterData} {start return : ℕ} {lower lift : Signature} {s0 s1 s2 s3 s4 : ModuleSoFar} {n k : ℕ} {f : WasmFunc}
    → ((ps rs : List Shape) → HasSignature t d.lower.ty ps rs → lower ≡ lower_signature (side_sig d.lower) ps rs) → ((ps rs : List Shape) → HasSignature t d.lift.ty ps rs → lift ≡ lift_signature (side_sig d.lift) ps rs)
    → slice_get s1.types n ≡ Some (signature lower.params lower.results) → HasType s0 s1 (signature lower.params lower.results) → Extended s0 s1 → (AreOnce s0 → AreOnce s1)
    → WroteEntry t d lower lift start return n s1 s2 f → k ≡ length s2.functions → s3 ≡ record s2 { functions = s2.functions ++ f ∷ [] } → s4 ≡ record s3 { exports = s3.exports ++ export_as d.name (func.Defined k) ∷ [] } → CompiledEntry t d start return s0 s4
compiled_entry {t} {d} {start} {return} {lower} {lift} {s0} {s1} {s2} {s3} {s4} {n} {k} {f} lower_are lift_are place has keeps once w number defined exported =
    let same : s4 ≡ record s2 { functions = s2.functions ++ f ∷ []; exports = s2.exports ++ export_as d.name (func.Defined k) ∷ [] } = exported ∙ ap (λ (s : ModuleSoFar). record s { exports = s.exports ++ export_as d.name (func.Defined k) ∷ [] }) defined in
    let before : KeepsDefined s0 s1 = defined_type has in
    let kept : KeepsDefined s1 s2 = calls_kept w.calls in
    let last : Extended s2 s4 = extended_defined (ap (λ (s : ModuleSoFar). s.types) same) (ap (λ (s : ModuleSoFar). s.section) same) (ap (λ (s : ModuleSoFar). s.imports) same) (ap (λ (s : ModuleSoFar). s.helpers) same) (ap (λ (s : ModuleSoFar). s.numbered) same) in
    record {
      function = f;
      ty = signature lower.params lower.results;
      declared = s1;
      declares = has;
      written = s2;
      lower = lower;
      lower_is = λ a h. lower_of a h;
      places = w.places;
      calls = w.calls;
      is_last = same ∙ ap (λ j. record s2 { functions = s2.functions ++ f ∷ []; exports = s2.exports ++ export_as d.name (func.Defined j) ∷ [] }) number;
      functions = ap (λ (s : ModuleSoFar). s.functions) same ∙ ap (λ fs. fs ++ f ∷ []) (kept.functions ∙ before.functions);
      once = λ o. once_same (ap functions_of same) (ap memories_of same) (ap globals_of same) (ap (λ (s : ModuleSoFar). s.types) same) (ap (λ (s : ModuleSoFar). s.section) same) (w.calls.once (once o));
      body = λ a h. body_of a h;
      typed = λ a h.
          let at : slice_get s4.types n ≡ Some (signature lower.params lower.results) = grown_get last.types n _ (grown_get w.calls.imports.types n _ place) in
          ap (slice_get s4.types) w.ty ∙ at ∙ ap (λ (s : Signature). Some (signature s.params s.results)) (lower_of a h);
      is = λ a h names M p serves. is_entry a t h (lower_of a h) names keeps w.calls f w.locals (body_of a h) (serves_sooner last serves);
    }
  where
    lower_of : (a : LinkedAdapter) → DescribesEntry t d a → lower ≡ lower_signature_of a
    lower_of a h = lower_are a.lower.params a.lower.results h.lower.signature ∙ sym (λ i. lower_by (h.lower.mark i) (h.lower.wide i) a.lower.params a.lower.results)

    lift_of : (a : LinkedAdapter) → DescribesEntry t d a → lift ≡ lift_signature_of a
    lift_of a h = lift_are a.lift.params a.lift.results h.lift.signature ∙ sym (λ i. lift_by (h.lift.mark i) (h.lift_callback i) (h.lift.wide i) a.lift.params a.lift.results)

    body_of : (a : LinkedAdapter) → DescribesEntry t d a → f.body ≡ entry_code w.places (call_facts a (tuple_of_results t d.lift.ty)) (length (lower_signature_of a).params) (callee_facts d (lift_signature_of a))
    body_of a h = w.body a h ∙ (λ i. entry_code w.places (call_facts a (tuple_of_results t d.lift.ty)) (length (lower_of a h i).params) (callee_facts d (lift_of a h i)))

-- the signatures that were made are those of the data
pub entry_lower : {t : Tables} (d : AdapterData) {side : SideSig} {lower : Signature} → side ≡ side_sig d.lower → ((ps rs : List Shape) → HasSignature t side.ty ps rs → lower ≡ lower_signature side ps rs) → (ps rs : List Shape) → HasSignature t d.lower.ty ps rs → lower ≡ lower_signature (side_sig d.lower) ps rs
entry_lower {t} d {lower = lower} e h ps rs k = subst (λ s. lower ≡ lower_signature s ps rs) e (h ps rs (subst (λ (s : SideSig). HasSignature t s.ty ps rs) (sym e) k))

pub entry_lift : {t : Tables} (d : AdapterData) {side : SideSig} {lift : Signature} → side ≡ side_sig d.lift → ((ps rs : List Shape) → HasSignature t side.ty ps rs → lift ≡ lift_signature side ps rs) → (ps rs : List Shape) → HasSignature t d.lift.ty ps rs → lift ≡ lift_signature (side_sig d.lift) ps rs
entry_lift {t} d {lift = lift} e h ps rs k = subst (λ s. lift ≡ lift_signature s ps rs) e (h ps rs (subst (λ (s : SideSig). HasSignature t s.ty ps rs) (sym e) k))

-- ---- the code as it is written

-- one piece behind the other
pub entry_joined : (a b : Instr) (xs ys : List Instr) (c r : Instr) (zs : List Instr) (s : Instr) → (((((((a ∷ []) ++ b ∷ []) ++ xs) ++ ys) ++ c ∷ []) ++ r ∷ []) ++ zs) ++ s ∷ [] ≡ a ∷ b ∷ (xs ++ (ys ++ c ∷ r ∷ (zs ++ s ∷ [])))
entry_joined a b xs ys c r zs s =
    let front : List Instr = a ∷ b ∷ [] in
    append_assoc ((((front ++ xs) ++ ys) ++ c ∷ []) ++ r ∷ []) zs (s ∷ []) ∙ append_assoc (((front ++ xs) ++ ys) ++ c ∷ []) (r ∷ []) (zs ++ s ∷ []) ∙ append_assoc ((front ++ xs) ++ ys) (c ∷ []) (r ∷ (zs ++ s ∷ []))
    ∙ append_assoc (front ++ xs) ys (c ∷ r ∷ (zs ++ s ∷ [])) ∙ append_assoc front xs (ys ++ c ∷ r ∷ (zs ++ s ∷ []))

-- one more argument behind the others
arguments_behind : (k n : ℕ) → arguments_code k (suc n) ≡ arguments_code k n ++ I.LocalGet (k + n) ∷ []
arguments_behind k zero = let same : k ≡ k + 0 = omega arith in ap (λ j. I.LocalGet j ∷ []) same
arguments_behind k (suc n) = let same : suc k + n ≡ k + suc n = omega arith in ap (λ c. I.LocalGet k ∷ c) (arguments_behind (suc k) n ∙ ap (λ j. arguments_code (suc k) n ++ I.LocalGet j ∷ []) same)

pub arguments_next : {old new : List Instr} (first : List Instr) (n : ℕ) → new ≡ old ++ I.LocalGet n ∷ [] → old ≡ first ++ arguments_code 0 n → new ≡ first ++ arguments_code 0 (n + 1)
arguments_next first n e h =
    let more : n + 1 ≡ suc n = omega arith in
    let here : 0 + n ≡ n = omega arith in
    e ∙ ap (λ c. c ++ I.LocalGet n ∷ []) h ∙ append_assoc first (arguments_code 0 n) (I.LocalGet n ∷ []) ∙ ap (λ c. first ++ c) (ap (λ j. arguments_code 0 n ++ I.LocalGet j ∷ []) (sym here) ∙ sym (arguments_behind 0 n) ∙ ap (arguments_code 0) (sym more))

-- What is told is that of every adapter that the data describe.
pub wrote_entry : {t : Tables} {d : AdapterData} {lower lift : Signature} {start return ty : ℕ} {old new : ModuleSoFar} {e : EntryPlaces} {told started : List ℕ} {params : ℕ} {f : WasmFunc} → f.ty ≡ ty → ImportsCalls d lower start return old new e
    → ((a : LinkedAdapter) → DescribesEntry t d a → told ≡ call_facts a (tuple_of_results t d.lift.ty)) → started ≡ callee_facts d lift → params ≡ length lower.params → f.body ≡ entry_code e told params started → f.locals ≡ [] → WroteEntry t d lower lift start return ty old new f
wrote_entry {e = e} ty_is calls facts starts counted body_is none = record {
  ty = ty_is;
  places = e;
  calls = calls;
  locals = none;
  body = λ a h. body_is ∙ (λ i. entry_code e (facts a h i) (counted i) (starts i));
}
