-- Each outside call in the log of a run is of a function that the module imports, whatever code runs.
use Rattle.std.proofs.Common.{◌≡◌, ℕ, zero, suc, ◌+◌, ◌/◌, Bool, true, false, List, [], ◌∷◌, ◌++◌, Option, Some, None, refl, sym, ap, ◌∙◌, subst, length, reverse, slice_get, slice_set, nat_le, All, append-nil}
use Rattle.std.specs.Prelude.{if◌then◌else◌}
use Rattle.std.proofs.lemmas.List.Elements.{All-nil, All-push}
use Rattle.fact_wasm.specs.declared.types.FuncType.{FuncType}
use Rattle.fact_wasm.specs.declared.instr.BlockType.{BlockType}
use Rattle.fact_wasm.specs.declared.instr.FuncName.{FuncName}
use Rattle.fact_wasm.specs.declared.instr.FuncName.TheVariants.{Import, Defined}
use Rattle.fact_wasm.specs.declared.instr.Instr.{Instr, out-Instr}
use Rattle.fact_wasm.specs.declared.instr.Instr.TheOpen as instr
use Rattle.fact_wasm.specs.declared.instr.Instr.TheOpen.{Instr-F}
use Rattle.fact_wasm.specs.declared.instr.MemArg.{MemArg}
use Rattle.fact_wasm.specs.declared.module.WasmModule.{WasmModule}
use Rattle.fact_machine.specs.declared.types.Answer.{Answer}
use Rattle.fact_machine.specs.declared.types.Answer.TheVariants.{Returns, Traps, Throws}
use Rattle.fact_machine.specs.declared.types.CoreValue.{CoreValue}
use Rattle.fact_machine.specs.declared.types.CoreValue.TheVariants.{I32, I64, F32, F64, Func}
use Rattle.fact_machine.specs.declared.types.Event.{Event}
use Rattle.fact_machine.specs.declared.types.MachineState.{MachineState}
use Rattle.fact_machine.specs.declared.types.TraceEntry.{TraceEntry}
use Rattle.fact_machine.specs.declared.types.TraceEntry.TheVariants.{Called, Stored, GlobalSet}
use Rattle.fact_machine.specs.Machine.{Around, Bottom, Config, At, Did, Goes, Ends, Next, Begins, Finished, Breaks, act, begin, block, block_arity, branch, call_import, call_inside, check, enter, func_import, grab, has_type, have_types, i32_of, i64_of, f32_of, f64_of, label_at, load, may_follow, memory_import, next, on_res, or_empty, or_stuck, page_bytes, ref_func, run_of, set_local, size_value, start, store, takes, throw, type_of, when, with_address, with_i32, with_i64, with_top}
use Rattle.fact_machine.specs.Operands.{operate}
use Rattle.fact_machine.specs.Trace.{reach, reached_after, reached_at_rest}
use Rattle.fact_machine.specs.World.{World, Done, Halt, Trap, asked, calls, written}
use Rattle.fact_machine.proofs.Grows.{run_log}
use Rattle.fact_machine.proofs.Traces.{calls-append}
use Rattle.fact_machine.proofs.Worlds.{config_world, did_world, next_world, branch_world, throw_world, next_keeps}

-- an event is of an imported function
abbrev pub IsOfImport : WasmModule → Event → Type 0
IsOfImport M e = (t : ℕ) × (func_import M.imports e.func ≡ Some t)

module _ (M : WasmModule) where
  -- so are all those of a trace
  abbrev AreOfImports : List TraceEntry → Type 0
  AreOfImports trace = All (IsOfImport M) (calls trace)

  abbrev Told : Did → Type 0
  Told d = AreOfImports (did_world d).trace

  -- ---- what is no call

  told_same : (d : Did) (w : World) → did_world d ≡ w → AreOfImports w.trace → Told d
  told_same d w e h = subst (λ (x : World). AreOfImports x.trace) (sym e) h

  or_told : {A : Type 0} (w : World) (o : Option A) (go : A → Did) → AreOfImports w.trace → ((x : A) → o ≡ Some x → Told (go x)) → Told (or_stuck w o go)
  or_told w None go h each = h
  or_told w (Some x) go h each = each x refl

  check_told : (w : World) (b : Bool) (d : Did) → AreOfImports w.trace → Told d → Told (check w b d)
  check_told w true d h t = t
  check_told w false d h t = h

  top_told : (w : World) (vs : List CoreValue) (go : CoreValue → List CoreValue → Did) → AreOfImports w.trace → ((v : CoreValue) (us : List CoreValue) → Told (go v us)) → Told (with_top w vs go)
  top_told w [] go h each = h
  top_told w (v ∷ vs) go h each = each v vs

  i32_told : (w : World) (vs : List CoreValue) (go : ℕ → List CoreValue → Did) → AreOfImports w.trace → ((n : ℕ) (us : List CoreValue) → Told (go n us)) → Told (with_i32 w vs go)
  i32_told w [] go h each = h
  i32_told w (I32 n ∷ vs) go h each = each n vs
  i32_told w (I64 n ∷ vs) go h each = h
  i32_told w (F32 n ∷ vs) go h each = h
  i32_told w (F64 n ∷ vs) go h each = h
  i32_told w (Func n ∷ vs) go h each = h

  i64_told : (w : World) (vs : List CoreValue) (go : ℕ → List CoreValue → Did) → AreOfImports w.trace → ((n : ℕ) (us : List CoreValue) → Told (go n us)) → Told (with_i64 w vs go)
  i64_told w [] go h each = h
  i64_told w (I32 n ∷ vs) go h each = h
  i64_told w (I64 n ∷ vs) go h each = each n vs
  i64_told w (F32 n ∷ vs) go h each = h
  i64_told w (F64 n ∷ vs) go h each = h
  i64_told w (Func n ∷ vs) go h each = h

  address_told : (b : Bool) (w : World) (vs : List CoreValue) (go : ℕ → List CoreValue → Did) → AreOfImports w.trace → ((n : ℕ) (us : List CoreValue) → Told (go n us)) → Told (with_address b w vs go)
  address_told true w vs go h each = i64_told w vs go h each
  address_told false w vs go h each = i32_told w vs go h each

  when_told : (n : ℕ) (on off : Did) → Told on → Told off → Told (when n on off)
  when_told zero on off h g = g
  when_told (suc n) on off h g = h

  enter_told : (types : List FuncType) (bt : BlockType) (w : World) (vs : List CoreValue) (go : ℕ → ℕ → List CoreValue → List CoreValue → Did)
      → AreOfImports w.trace → ((m n : ℕ) (top below : List CoreValue) → Told (go m n top below)) → Told (enter types bt w vs go)
  enter_told types bt w vs go h each = or_told w (block_arity types bt) _ h (λ b e. or_told w (grab b.0 vs) _ h (λ p e'. each b.0 b.1 p.0 p.1))

  local_told : (w : World) (n : ℕ) (v : CoreValue) (ls : List (Option CoreValue)) (go : List (Option CoreValue) → Did) → AreOfImports w.trace → ((l : List (Option CoreValue)) → Told (go l)) → Told (set_local w n v ls go)
  local_told w n v ls go h each = or_told w (slice_get ls n) _ h (λ old e. check_told w (may_follow old v) (go (slice_set ls n (Some v))) h (each (slice_set ls n (Some v))))

  -- a primitive that goes on where a test holds, and traps where it does not
  tested_told : {A : Type 0} (b : Bool) (x : A) (w w' : World) (ls : List (Option CoreValue)) (k : Around) (go : A → World → Did)
      → AreOfImports w.trace → Told (go x w') → Told (on_res (if b then Done x w' else Halt Trap w) ls k go)
  tested_told true x w w' ls k go h t = t
  tested_told false x w w' ls k go h t = h

  branch_told : (w : World) (l : ℕ) (vs : List CoreValue) (ls : List (Option CoreValue)) (k : Around) → AreOfImports w.trace → Told (branch w l vs ls k)
  branch_told w l vs ls k h = told_same (branch w l vs ls k) w (branch_world w l vs ls k) h

  block_told : (bt : BlockType) (body : List Instr) (w : World) (vs : List CoreValue) (ls : List (Option CoreValue)) (rest : List Instr) (k : Around) → AreOfImports w.trace → Told (block M bt body w vs ls rest k)
  block_told bt body w vs ls rest k h = enter_told M.types bt w vs _ h (λ m n top below. h)

  load_told : (n : ℕ) (value : ℕ → CoreValue) (a : MemArg) (w : World) (vs : List CoreValue) (ls : List (Option CoreValue)) (rest : List Instr) (k : Around) → AreOfImports w.trace → Told (load M n value a w vs ls rest k)
  load_told n value a w vs ls rest k h =
      or_told w (memory_import M.imports a.memory_index) _ h (λ t e. address_told t.0 w vs _ h (λ base us. or_told w (slice_get w.state.memories a.memory_index) _ h (λ bytes there.
      tested_told (nat_le (base + a.offset + n) (length bytes)) _ w w ls k (λ number w'. Goes (At w' (value number ∷ us) ls rest k)) h h)))

  other_told : (w : World) (e : TraceEntry) → calls (e ∷ []) ≡ [] → AreOfImports w.trace → AreOfImports (w.trace ++ e ∷ [])
  other_told w e none h = subst (All (IsOfImport M)) (sym (calls-append w.trace (e ∷ []) ∙ ap (λ l. calls w.trace ++ l) none ∙ append-nil (calls w.trace))) h

  store_told : (n : ℕ) (number : CoreValue → Option ℕ) (a : MemArg) (w : World) (vs : List CoreValue) (ls : List (Option CoreValue)) (rest : List Instr) (k : Around) → AreOfImports w.trace → Told (store M n number a w vs ls rest k)
  store_told n number a w vs ls rest k h =
      top_told w vs _ h (λ v us. or_told w (number v) _ h (λ value e. or_told w (memory_import M.imports a.memory_index) _ h (λ t e'. address_told t.0 w us _ h (λ base us'.
      or_told w (slice_get w.state.memories a.memory_index) _ h (λ bytes there.
      tested_told (nat_le (base + a.offset + n) (length bytes)) tt w (written n a.memory_index bytes (base + a.offset) value w) ls k (λ done w'. Goes (At w' us' ls rest k)) h (other_told w (Stored a.memory_index (base + a.offset) n _) refl h))))))

  inside_told : (n : ℕ) (w : World) (vs : List CoreValue) (ls : List (Option CoreValue)) (rest : List Instr) (k : Around) → AreOfImports w.trace → Told (call_inside M n w vs ls rest k)
  inside_told n w vs ls rest k h =
      or_told w (slice_get M.funcs n) _ h (λ f e. or_told w (slice_get M.types f.ty) _ h (λ t e'. or_told w (grab (length t.params) vs) _ h (λ p e''. check_told w (have_types (reverse p.0) t.params) _ h h)))

  ref_told : (f : FuncName) (w : World) (vs : List CoreValue) (ls : List (Option CoreValue)) (rest : List Instr) (k : Around) → AreOfImports w.trace → Told (ref_func M f w vs ls rest k)
  ref_told (Import n) w vs ls rest k h = or_told w (func_import M.imports n) _ h (λ t e. h)
  ref_told (Defined n) w vs ls rest k h = or_told w (slice_get M.funcs n) _ h (λ f e. h)

  -- ---- calls

  called_told : (w : World) (e : Event) → IsOfImport M e → AreOfImports w.trace → AreOfImports (w.trace ++ Called e ∷ [])
  called_told w e i h = subst (All (IsOfImport M)) (sym (calls-append w.trace (Called e ∷ []))) (All-push (IsOfImport M) (calls w.trace) e h i)

  outside_told : (n : ℕ) (args : List CoreValue) (w : World) (left : List Answer) (vs : List CoreValue) (ls : List (Option CoreValue)) (rest : List Instr) (k : Around)
      → (t : ℕ) × (func_import M.imports n ≡ Some t) → AreOfImports w.trace → Told (on_res (asked n args w left) ls k (λ results w'. Goes (At w' (reverse results ++ vs) ls rest k)))
  outside_told n args w [] vs ls rest k i h = h
  outside_told n args w (Returns results after ∷ more) vs ls rest k i h = called_told w _ i h
  outside_told n args w (Traps ∷ more) vs ls rest k i h = called_told w _ i h
  outside_told n args w (Throws ∷ more) vs ls rest k i h = told_same (throw _ ls k) _ (throw_world _ ls k) (called_told w _ i h)

  import_told : (n : ℕ) (w : World) (vs : List CoreValue) (ls : List (Option CoreValue)) (rest : List Instr) (k : Around) → AreOfImports w.trace → Told (call_import M n w vs ls rest k)
  import_told n w vs ls rest k h =
      or_told w (func_import M.imports n) _ h (λ ty there. or_told w (slice_get M.types ty) _ h (λ t e. or_told w (grab (length t.params) vs) _ h (λ p e'. check_told w (have_types (reverse p.0) t.params) _ h
      (outside_told n (reverse p.0) w w.answers p.1 ls rest k (ty, there) h))))

  -- ---- the table

  act_told : (i : Instr-F Instr) (w : World) (vs : List CoreValue) (ls : List (Option CoreValue)) (rest : List Instr) (k : Around) → AreOfImports w.trace → Told (act M i w vs ls rest k)
  act_told instr.Unreachable w vs ls rest k h = h
  act_told (instr.Block bt body) w vs ls rest k h = block_told bt body w vs ls rest k h
  act_told (instr.Loop bt body) w vs ls rest k h = enter_told M.types bt w vs _ h (λ m n top below. h)
  act_told (instr.If bt body other) w vs ls rest k h = i32_told w vs _ h (λ c us. when_told c _ _ (block_told bt body w us ls rest k h) (block_told bt (or_empty other) w us ls rest k h))
  act_told (instr.TryTable bt catches body) w vs ls rest k h = enter_told M.types bt w vs _ h (λ m n top below. h)
  act_told (instr.Br l) w vs ls rest k h = branch_told w l vs ls k h
  act_told (instr.BrIf l) w vs ls rest k h = i32_told w vs _ h (λ c us. when_told c _ _ (branch_told w l us ls k h) h)
  act_told (instr.BrTable labels last) w vs ls rest k h = i32_told w vs _ h (λ i us. branch_told w (label_at labels last i) us ls k h)
  act_told (instr.Call (Import n)) w vs ls rest k h = import_told n w vs ls rest k h
  act_told (instr.Call (Defined n)) w vs ls rest k h = inside_told n w vs ls rest k h
  act_told (instr.RefFunc f) w vs ls rest k h = ref_told f w vs ls rest k h
  act_told (instr.LocalGet n) w vs ls rest k h = or_told w (slice_get ls n) _ h (λ o e. or_told w o _ h (λ v e'. h))
  act_told (instr.LocalSet n) w vs ls rest k h = top_told w vs _ h (λ v us. local_told w n v ls (λ l. Goes (At w us l rest k)) h (λ l. h))
  act_told (instr.LocalTee n) w vs ls rest k h = top_told w vs _ h (λ v us. local_told w n v ls (λ l. Goes (At w vs l rest k)) h (λ l. h))
  act_told (instr.GlobalGet n) w vs ls rest k h = or_told w (slice_get w.state.globals n) _ h (λ v e. h)
  act_told (instr.GlobalSet n) w vs ls rest k h =
      top_told w vs _ h (λ v us. or_told w (slice_get w.state.globals n) _ h (λ old e. check_told w (has_type v (type_of old)) _ h (other_told w (GlobalSet n v) refl h)))
  act_told (instr.I32Load m) w vs ls rest k h = load_told 4 _ m w vs ls rest k h
  act_told (instr.I64Load m) w vs ls rest k h = load_told 8 _ m w vs ls rest k h
  act_told (instr.F32Load m) w vs ls rest k h = load_told 4 _ m w vs ls rest k h
  act_told (instr.F64Load m) w vs ls rest k h = load_told 8 _ m w vs ls rest k h
  act_told (instr.I32Load8S m) w vs ls rest k h = load_told 1 _ m w vs ls rest k h
  act_told (instr.I32Load8U m) w vs ls rest k h = load_told 1 _ m w vs ls rest k h
  act_told (instr.I32Load16S m) w vs ls rest k h = load_told 2 _ m w vs ls rest k h
  act_told (instr.I32Load16U m) w vs ls rest k h = load_told 2 _ m w vs ls rest k h
  act_told (instr.I32Store m) w vs ls rest k h = store_told 4 i32_of m w vs ls rest k h
  act_told (instr.I64Store m) w vs ls rest k h = store_told 8 i64_of m w vs ls rest k h
  act_told (instr.F32Store m) w vs ls rest k h = store_told 4 f32_of m w vs ls rest k h
  act_told (instr.F64Store m) w vs ls rest k h = store_told 8 f64_of m w vs ls rest k h
  act_told (instr.I32Store8 m) w vs ls rest k h = store_told 1 i32_of m w vs ls rest k h
  act_told (instr.I32Store16 m) w vs ls rest k h = store_told 2 i32_of m w vs ls rest k h
  act_told (instr.MemorySize n) w vs ls rest k h = or_told w (memory_import M.imports n) _ h (λ t e. or_told w (slice_get w.state.memories n) _ h (λ bytes e'. or_told w (size_value t.0 (length bytes / page_bytes t.1)) _ h (λ v e''. h)))
  act_told i w vs ls rest k h = or_told w (operate i vs) (λ us. Goes (At w us ls rest k)) h (λ us e. h)

  -- ---- runs

  begin_told : (x : Next) → AreOfImports (next_world x).trace → Told (begin M x)
  begin_told (Begins w vs ls i rest k) h = act_told (out-Instr i) w vs ls rest k h
  begin_told (Finished w vs) h = h
  begin_told (Breaks w) h = h

  next_told : (c : Config) → AreOfImports (config_world c).trace → AreOfImports (next_world (next c)).trace
  next_told (At w vs ls code k) h = subst (λ (x : World). AreOfImports x.trace) (sym (next_keeps w vs ls code k)) h

  rest_told : (x : Next) → AreOfImports (next_world x).trace → AreOfImports (reached_at_rest x).world.trace
  rest_told (Begins w vs ls i rest k) h = h
  rest_told (Finished w vs) h = h
  rest_told (Breaks w) h = h

  after_told : (n : ℕ) (d : Did) → ((c : Config) → AreOfImports (config_world c).trace → AreOfImports (reach M n c).world.trace) → Told d → AreOfImports (reached_after (reach M n) d).world.trace
  after_told n (Goes c) each h = each c h
  after_told n (Ends e w) each h = h

  reach_told : (n : ℕ) (c : Config) → AreOfImports (config_world c).trace → AreOfImports (reach M n c).world.trace
  reach_told zero c h = rest_told (next c) (next_told c h)
  reach_told (suc n) c h = after_told n (begin M (next c)) (reach_told n) (begin_told (next c) (next_told c h))

  start_told : (f : ℕ) (args : List CoreValue) (state : MachineState) (answers : List Answer) → Told (start M f args state answers)
  start_told f args state answers =
      let w : World = record { state = state; answers = answers; trace = [] } in
      let none : AreOfImports w.trace = All-nil (IsOfImport M) in
      check_told w (takes M f args) _ none (inside_told f w (reverse args) [] [] Bottom none)

  pub run_told : (f : ℕ) (args : List CoreValue) (state : MachineState) (answers : List Answer) (n : ℕ) → All (IsOfImport M) (run_of M f args state answers n).log
  run_told f args state answers n =
      subst (All (IsOfImport M)) (sym (run_log M f args state answers n)) (after_told n (start M f args state answers) (reach_told n) (start_told f args state answers))
