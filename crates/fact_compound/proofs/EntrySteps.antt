-- The code that hands a call to the runtime makes the two calls of an async adapter, and is typed.
use Rattle.std.proofs.Common.{◌≡◌, ℕ, suc, ◌+◌, ◌≤◌, true, List, [], ◌∷◌, ◌++◌, Option, Some, None, refl, sym, ap, ◌∙◌, subst, arith, append-nil, append_assoc, length, map, reverse, slice_get}
use Rattle.std.specs.Prelude.{option_and_then}
use Rattle.std.proofs.lemmas.List.{length-map, reverse-append}
use Rattle.fact_wasm.specs.declared.instr.FuncName.{FuncName}
use Rattle.fact_wasm.specs.declared.instr.FuncName.TheVariants as func
use Rattle.fact_wasm.specs.declared.instr.Instr.{Instr}
use Rattle.fact_wasm.specs.declared.instr.Instr.TheVariants as I
use Rattle.fact_wasm.specs.declared.instr.Instr.TheOpen as op
use Rattle.fact_wasm.specs.declared.module.WasmModule.{WasmModule}
use Rattle.fact_wasm.specs.declared.types.FuncType.{FuncType}
use Rattle.fact_wasm.specs.declared.types.ValType.{ValType}
use Rattle.fact_wasm.specs.declared.types.ValType.TheVariants as val
use Rattle.fact_machine.specs.Machine.{func_import, have_types}
use Rattle.fact_machine.specs.Typed.{are_values, is_value}
use Rattle.fact_machine.specs.Typing.{Known, change, is_exported, only_if}
use Rattle.fact_machine.specs.declared.types.CoreValue.{CoreValue}
use Rattle.fact_machine.specs.declared.types.CoreValue.TheVariants.{Func, I32}
use Rattle.fact_machine.proofs.RowLaws.{leaves_i32_const, leaves_ref_defined, leaves_ref_import}
use Rattle.fact_machine.proofs.Tests.{both, first_of, second_of}
use Rattle.fact_types.specs.declared.import.Import.{Import}
use Rattle.fact_actions.specs.Actions.{Action, ◌>>=◌}
use Rattle.fact_actions.specs.Adapters.{make_call}
use Rattle.fact_actions.specs.Running.{ImportPlaces}
use Rattle.fact_code_laws.specs.Does.{Locals, Onward, Does, PushesValue}
use Rattle.fact_code_laws.specs.Knows.{KnowsFunction}
use Rattle.fact_code_laws.specs.Places.{AreHeld, AreLocals}
use Rattle.fact_code_laws.specs.Typed.{OnStack, IsTyped}
use Rattle.fact_code_laws.proofs.Numbers.{value_type}
use Rattle.fact_code_laws.proofs.Primitives.{ask}
use Rattle.fact_code_laws.proofs.Rules.{done, pushing, within}
use Rattle.fact_code_laws.proofs.Slots.{ask_none}
use Rattle.fact_code_laws.proofs.TypedRows.{takes_import, takes_plain}
use Rattle.fact_code_laws.proofs.TypingLaws.{Takes, by_row, typed_done, typed_next, typed_one, typed_then}
use Rattle.fact_emit.specs.TaskTypes.{prepare_call_type, prepare_fixed_types, start_call_type}
use Rattle.fact_steps.specs.Code.{pushed_code}
use Rattle.fact_compound.specs.Entries.{IsHandedOn, arguments_code, constants_code, entry_code}
use Rattle.fact_compound.specs.Functions.{slots_from}
use Rattle.fact_compound.specs.declared.entries.EntryPlaces.{EntryPlaces}
use Rattle.fact_compound.proofs.LocalsAdded.{types_from}
use Rattle.fact_compound.proofs.StepRules.{pushes, reversed_cons}
use Rattle.fact_compound.proofs.SyncTyping.{reversed_types, typed_pushed}

-- ---- values on the stack

abbrev numbers : List ℕ → List CoreValue
numbers ns = map (λ n. I32 n) ns

abbrev pub number_types : List ℕ → List ValType
number_types ns = map (λ (n : ℕ). val.I32) ns

abbrev pub six_numbers : List ValType
six_numbers = val.I32 ∷ val.I32 ∷ val.I32 ∷ val.I32 ∷ val.I32 ∷ val.I32 ∷ []

abbrev pub three_numbers : List ValType
three_numbers = val.I32 ∷ val.I32 ∷ val.I32 ∷ []

reversed_all : {X : Type 0} (xs ys ins : List X) → reverse (xs ++ ys) ++ ins ≡ reverse ys ++ (reverse xs ++ ins)
reversed_all xs ys ins = ap (λ us. us ++ ins) (reverse-append xs ys) ∙ append_assoc (reverse ys) (reverse xs) ins

values_typed : (vs : List CoreValue) (ts : List ValType) → are_values vs ts ≡ true → have_types vs ts ≡ true
values_typed [] [] h = refl
values_typed [] (t ∷ ts) h = cc
values_typed (v ∷ vs) [] h = cc
values_typed (v ∷ vs) (t ∷ ts) h = both (value_type v t (first_of (is_value v t) (are_values vs ts) h)) (values_typed vs ts (second_of (is_value v t) (are_values vs ts) h))

numbers_typed : (ns : List ℕ) (vs : List CoreValue) (ts : List ValType) → have_types vs ts ≡ true → have_types (numbers ns ++ vs) (number_types ns ++ ts) ≡ true
numbers_typed [] vs ts h = h
numbers_typed (n ∷ ns) vs ts h = numbers_typed ns vs ts h

all_numbers : (ns : List ℕ) → have_types (numbers ns) (number_types ns) ≡ true
all_numbers [] = refl
all_numbers (n ∷ ns) = all_numbers ns

-- so many parameters are the first locals
arguments_are : (k : ℕ) (ts : List ValType) → arguments_code k (length ts) ≡ pushed_code (slots_from k ts)
arguments_are k [] = refl
arguments_are k (t ∷ ts) = ap (λ c. I.LocalGet k ∷ c) (arguments_are (suc k) ts)

-- a function that a module has is there when a reference to it is taken
option_some : {X Y : Type 0} (o : Option X) (f : X → Option Y) {y : Y} → option_and_then f o ≡ Some y → (x : X) × (o ≡ Some x)
option_some None f h = cc
option_some (Some x) f h = (x, refl)

pushes_ref : {M : WasmModule} {ls : Locals} (f : FuncName) → IsHandedOn M f → PushesValue M 1 ls (I.RefFunc f ∷ []) (Func f)
pushes_ref {M} (func.Defined n) h = let (f, there) = option_some (slice_get M.funcs n) _ h.there in record { by = λ w vs. leaves_ref_defined there }
pushes_ref {M} {ls} (func.Import n) h = go (func_import M.imports n) refl h.there
  where
    go : (o : Option ℕ) → func_import M.imports n ≡ o → elim o as (λ (o : Option ℕ). Option FuncType) [ None ↦ None | Some t ↦ slice_get M.types t ] ≡ Some h.ty → PushesValue M 1 ls (I.RefFunc (func.Import n) ∷ []) (Func (func.Import n))
    go None e k = cc
    go (Some t) e k = record { by = λ w vs. leaves_ref_import e }

module _ {A : Type 0} {M : WasmModule} {p : ImportPlaces} {extra : ℕ} {c : List Instr} {q : Action A} {out : A → List CoreValue} {Holds : A → Locals → Type 0} {ls : Locals} where
  pushes_numbers : (ns : List ℕ) (ins : List CoreValue) → Does M p Onward extra 0 (reverse (numbers ns) ++ ins) ls c q out Holds → Does M p Onward (length ns + extra) 0 ins ls (constants_code ns ++ c) q out Holds
  pushes_numbers [] ins d = within (omega arith) d
  pushes_numbers (n ∷ ns) ins d =
      within (omega arith) (pushing {a = I.I32Const n ∷ []} {t = 1} (record { by = λ w vs. leaves_i32_const }) (pushes_numbers ns (I32 n ∷ ins) (subst (λ us. Does M p Onward extra 0 us ls c q out Holds) (reversed_cons (I32 n) (numbers ns) ins) d)))

-- ---- the two calls

module _ {M : WasmModule} {p : ImportPlaces} (e : EntryPlaces) {prepare start : Import} {params results : List ValType} (told started : List ℕ) (told_types : number_types told ≡ six_numbers) (started_types : number_types started ≡ three_numbers) (prepares : KnowsFunction M p prepare e.prepare_call (prepare_call_type params).params [])
    (starts : KnowsFunction M p start e.start_call (start_call_type results).params results) (gives : IsHandedOn M (func.Defined e.start)) (takes : IsHandedOn M (func.Defined e.return_)) (callee : IsHandedOn M (func.Import e.callee)) where
  abbrev pub told_args : List CoreValue → List CoreValue
  told_args args = Func (func.Defined e.start) ∷ Func (func.Defined e.return_) ∷ (numbers told ++ args)

  abbrev pub started_args : List CoreValue
  started_args = Func (func.Import e.callee) ∷ numbers started

  abbrev started_code : List Instr
  started_code = I.RefFunc (func.Import e.callee) ∷ (constants_code started ++ I.Call (func.Import e.start_call) ∷ [])

  -- they have their types
  told_typed : (args : List CoreValue) → are_values args params ≡ true → have_types (told_args args) (prepare_call_type params).params ≡ true
  told_typed args h = subst (λ ts. have_types (numbers told ++ args) (ts ++ params) ≡ true) told_types (numbers_typed told args params (values_typed args params h))

  started_typed : have_types started_args (start_call_type results).params ≡ true
  started_typed = subst (λ ts. have_types (numbers started) ts ≡ true) started_types (all_numbers started)

  abbrev Given : List CoreValue → Locals → Type 0
  Given vs ls = have_types vs results ≡ true

  starts_call : (ls : Locals) → Does M p Onward 5 0 [] ls started_code (make_call start started_args results) reverse Given
  starts_call ls =
      let called : Does M p Onward 1 0 (reverse started_args ++ []) ls (I.Call (func.Import e.start_call) ∷ []) (make_call start started_args results) reverse Given =
      ask started_args starts started_typed (λ rs h. done (sym (append-nil (reverse rs))) (values_typed rs results h)) in
      within (omega (arith, sym (length-map started (λ (n : ℕ). val.I32)) ∙ ap length started_types)) (pushing {a = I.RefFunc (func.Import e.callee) ∷ []} {t = 1} (pushes_ref (func.Import e.callee) callee)
      (pushes_numbers started (Func (func.Import e.callee) ∷ []) (subst (λ us. Does M p Onward 1 0 us ls (I.Call (func.Import e.start_call) ∷ []) (make_call start started_args results) reverse Given) (reversed_cons (Func (func.Import e.callee)) (numbers started) []) called)))

  -- The code makes the two calls, and returns what the second gave.
  pub entry_does : (ls : Locals) (args : List CoreValue) → length params ≤ 80 → are_values args params ≡ true → AreHeld ls (slots_from 0 params) args
      → Does M p Onward 100 0 [] ls (entry_code e told (length params) started) (make_call prepare (told_args args) [] >>= (λ (rs : List CoreValue). make_call start started_args results)) reverse Given
  entry_does ls args few h held =
      let q : Action (List CoreValue) = make_call prepare (told_args args) [] >>= (λ (rs : List CoreValue). make_call start started_args results) in
      let refs : List CoreValue = Func (func.Defined e.return_) ∷ Func (func.Defined e.start) ∷ [] in
      let rest : List Instr = I.Call (func.Import e.prepare_call) ∷ started_code in
      let called : Does M p Onward 6 0 (reverse (told_args args) ++ []) ls rest q reverse Given = ask_none (told_args args) prepares (told_typed args h) (starts_call ls) in
      let stack : reverse (told_args args) ++ [] ≡ reverse args ++ (reverse (numbers told) ++ refs) =
      reversed_cons (Func (func.Defined e.start)) (Func (func.Defined e.return_) ∷ (numbers told ++ args)) []
      ∙ reversed_cons (Func (func.Defined e.return_)) (numbers told ++ args) (Func (func.Defined e.start) ∷ [])
      ∙ reversed_all (numbers told) args refs in
      let arguments : Does M p Onward (length (slots_from 0 params) + 6) 0 (reverse (numbers told) ++ refs) ls (arguments_code 0 (length params) ++ rest) q reverse Given =
      subst (λ c. Does M p Onward (length (slots_from 0 params) + 6) 0 (reverse (numbers told) ++ refs) ls (c ++ rest) q reverse Given) (sym (arguments_are 0 params))
      (pushes (slots_from 0 params) args (reverse (numbers told) ++ refs) held (subst (λ us. Does M p Onward 6 0 us ls rest q reverse Given) stack called)) in
      within (omega (arith, few, sym (length-map told (λ (n : ℕ). val.I32)) ∙ ap length told_types, long 0 params)) (pushing {a = I.RefFunc (func.Defined e.start) ∷ []} {t = 1} (pushes_ref (func.Defined e.start) gives) (pushing {a = I.RefFunc (func.Defined e.return_) ∷ []} {t = 1} (pushes_ref (func.Defined e.return_) takes)
      (pushes_numbers told refs arguments)))
    where
      long : (k : ℕ) (ts : List ValType) → length (slots_from k ts) ≡ length ts
      long k [] = refl
      long k (t ∷ ts) = ap suc (long (suc k) ts)

  -- ---- its types

  takes_ref : {locals : List ValType} {labels : List (List ValType)} {ins : List ValType} (f : FuncName) → IsHandedOn M f → Takes M locals labels (I.RefFunc f) ins (OnStack (val.FuncRef ∷ ins))
  takes_ref {ins = ins} f h =
      by_row (op.RefFunc f) (I.outs-RefFunc f) (λ outer below.
      ap (λ x. option_and_then (λ (t : FuncType). only_if (is_exported f M.exports) (change [] (val.FuncRef ∷ []) (Known (ins ++ below)))) x) h.there ∙ ap (λ b. only_if b (change [] (val.FuncRef ∷ []) (Known (ins ++ below)))) h.exported)

  typed_numbers : {locals : List ValType} (ns : List ℕ) (ins : List ValType) → IsTyped M locals [] (constants_code ns) ins (OnStack (reverse (number_types ns) ++ ins))
  typed_numbers [] ins = typed_done
  typed_numbers {locals} (n ∷ ns) ins =
      typed_next (takes_plain (op.I32Const n) (I.outs-I32Const n) refl) (subst (λ us. IsTyped M locals [] (constants_code ns) (val.I32 ∷ ins) (OnStack us)) (reversed_types val.I32 (number_types ns) ins) (typed_numbers ns (val.I32 ∷ ins)))

  pub entry_typed : (locals : List ValType) → AreLocals locals (slots_from 0 params) → IsTyped M locals [] (entry_code e told (length params) started) [] (OnStack (reverse results))
  entry_typed locals l =
      let refs : List ValType = val.FuncRef ∷ val.FuncRef ∷ [] in
      let stack : reverse params ++ (reverse (number_types told) ++ refs) ≡ reverse (prepare_call_type params).params ++ [] =
      ap (λ ts. reverse params ++ (reverse ts ++ refs)) told_types ∙ sym (append-nil (reverse (prepare_fixed_types ++ params)) ∙ reverse-append prepare_fixed_types params) in
      let stack' : reverse (number_types started) ++ (val.FuncRef ∷ []) ≡ reverse (start_call_type results).params ++ [] = ap (λ ts. reverse ts ++ (val.FuncRef ∷ [])) started_types in
      let starting : IsTyped M locals [] started_code [] (OnStack (reverse results ++ [])) =
      typed_next (takes_ref (func.Import e.callee) callee) (typed_then (typed_numbers started (val.FuncRef ∷ []))
      (subst (λ us. IsTyped M locals [] (I.Call (func.Import e.start_call) ∷ []) us (OnStack (reverse results ++ []))) (sym stack') (typed_one (takes_import [] starts)))) in
      let calls : IsTyped M locals [] (I.Call (func.Import e.prepare_call) ∷ started_code) (reverse params ++ (reverse (number_types told) ++ refs)) (OnStack (reverse results ++ [])) =
      subst (λ us. IsTyped M locals [] (I.Call (func.Import e.prepare_call) ∷ started_code) us (OnStack (reverse results ++ []))) (sym stack) (typed_next (takes_import [] prepares) starting) in
      let arguments : IsTyped M locals [] (arguments_code 0 (length params)) (reverse (number_types told) ++ refs) (OnStack (reverse params ++ (reverse (number_types told) ++ refs))) =
      subst (λ c. IsTyped M locals [] c (reverse (number_types told) ++ refs) (OnStack (reverse params ++ (reverse (number_types told) ++ refs)))) (sym (arguments_are 0 params))
      (subst (λ ts. IsTyped M locals [] (pushed_code (slots_from 0 params)) (reverse (number_types told) ++ refs) (OnStack (reverse ts ++ (reverse (number_types told) ++ refs)))) (types_from 0 params) (typed_pushed (slots_from 0 params) (reverse (number_types told) ++ refs) l)) in
      subst (λ us. IsTyped M locals [] (entry_code e told (length params) started) [] (OnStack us)) (append-nil (reverse results))
      (typed_next (takes_ref (func.Defined e.start) gives) (typed_next (takes_ref (func.Defined e.return_) takes) (typed_then (typed_numbers told refs) (typed_then arguments calls))))
