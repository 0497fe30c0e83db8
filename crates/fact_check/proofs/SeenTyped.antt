-- What the outside sees of a run is typed.
use Rattle.std.proofs.Common.{◌≡◌, ℕ, zero, suc, ◌+◌, ◌/◌, ◌%◌, ◌^◌, ◌<◌, Bool, true, false, List, [], ◌∷◌, ◌++◌, Option, Some, None, refl, sym, ap, ◌∙◌, subst, arith, length, map, reverse, slice_get, append_assoc, append-nil}
use Rattle.std.specs.Prelude.{nat_le, slice_set, if◌then◌else◌}
use Rattle.std.proofs.lemmas.Bool.{leb-true}
use Rattle.std.proofs.lemmas.List.{append_cancel_left}
use Rattle.fact_wasm.specs.declared.types.FuncType.{FuncType}
use Rattle.fact_wasm.specs.declared.instr.BlockType.{BlockType}
use Rattle.fact_wasm.specs.declared.instr.FuncName.{FuncName}
use Rattle.fact_wasm.specs.declared.instr.FuncName.TheVariants.{Import, Defined}
use Rattle.fact_wasm.specs.declared.instr.MemArg.{MemArg}
use Rattle.fact_wasm.specs.declared.instr.Instr.{Instr, out-Instr}
use Rattle.fact_wasm.specs.declared.instr.Instr.TheVariants as whole
use Rattle.fact_wasm.specs.declared.instr.Instr.TheOpen as instr
use Rattle.fact_wasm.specs.declared.instr.Instr.TheOpen.{Instr-F}
use Rattle.fact_wasm.specs.declared.module.WasmModule.{WasmModule}
use Rattle.fact_machine.specs.declared.types.CoreValue.{CoreValue}
use Rattle.fact_machine.specs.declared.types.CoreValue.TheVariants.{I32, I64, F32, F64, Func}
use Rattle.fact_machine.specs.declared.types.Answer.{Answer}
use Rattle.fact_machine.specs.declared.types.Answer.TheVariants.{Returns, Traps, Throws}
use Rattle.fact_machine.specs.declared.types.End.{End}
use Rattle.fact_machine.specs.declared.types.Event.{Event}
use Rattle.fact_machine.specs.declared.types.TraceEntry.TheVariants.{Called, Stored, GlobalSet}
use Rattle.fact_machine.specs.World.{World, Done, Halt, Trap, calls, log_of, asked, with_number, written}
use Rattle.fact_machine.specs.Machine.{Around, Bottom, Label, Frame, Config, At, Did, Goes, Ends, Next, Begins, Finished, Breaks, or_stuck, check, grab, has_type, have_types, type_of, some_of, locals_of, block_arity, func_import, memory_import, branch, throw, on_res, call_inside, call_import, enter, with_top, with_i32, with_i64, with_address, when, set_local, block, label_at, ref_func, i32_of, i64_of, f32_of, f64_of, load, store, page_bytes, size_value, act, leaving, next_in, begin, start, takes, run_of}
use Rattle.fact_machine.specs.Operands.{operate}
use Rattle.fact_machine.specs.Numerics.{extend_s}
use Rattle.fact_machine.specs.Trace.{reach, reached_after, world_at}
use Rattle.fact_machine.specs.Typed.{IsBits, TypedState, TypedAnswer, type_of_import}
use Rattle.fact_machine.proofs.Grows.{calls_grow, run_log, trace_grows}
use Rattle.fact_machine.proofs.Places.{store_keeps_length}
use Rattle.fact_machine.proofs.Traces.{calls-append}
use Rattle.fact_machine.proofs.Worlds.{config_world, did_world, next_world, next_keeps, throw_world, world_at_zero}
use Rattle.fact_check.specs.Constants.{AreBits, HasTypedConstants}
use Rattle.fact_check.specs.Soundness.{AreArguments, SeeTyped, RunsSeeTyped}
use Rattle.fact_check.proofs.Bits.{AreHeld, IsHeld, AroundIs, IsCode, IsSized, arguments_held, are_typed, at_place, body_constants, code_first, code_rest, code_with, cut, declared_held, front, behind, function_code, in_place, joined, results_bits, reversed, row_constants}
use Rattle.fact_check.proofs.BitRows.{extended_16, extended_8, number_at_below, operated, size_bits, with_number_bytes}
use Rattle.fact_check.proofs.TypedStates.{global_bits, global_with, memory_bytes, memory_with}

-- what goes on is of the right size
abbrev Then : WasmModule → Did → Type 0
Then M (Goes (At w vs ls code k)) = IsSized M w.state vs ls code k
Then M (Ends e w) = Unit {0}

-- no call of the outside, and what goes on is of the right size
record Fine (M : WasmModule) (w : World) (d : Did) : Type 0 where
  quiet : log_of (did_world d) ≡ log_of w
  leads : Then M d

-- one call of the outside
record Calls (M : WasmModule) (w : World) (d : Did) : Type 0 where
  event : Event
  logged : log_of (did_world d) ≡ log_of w ++ event ∷ []
  state : TypedState M event.before
  arguments : AreArguments (type_of_import M event.func) event.args
  leads : TypedAnswer M event.func event.before event.answer → Then M d

data Leads (M : WasmModule) (w : World) (d : Did) : Type 0 where
  Quiet : Fine M w d → Leads M w d
  Loud : Calls M w d → Leads M w d

-- ---- what leads on

module _ (M : WasmModule) (w : World) (typed : TypedState M w.state) where
  ends : (e : End) → Fine M w (Ends e w)
  ends e = record { quiet = refl; leads = tt }

  or_fine : {A : Type 0} → (o : Option A) (go : A → Did) → ((x : A) → o ≡ Some x → Fine M w (go x)) → Fine M w (or_stuck w o go)
  or_fine None go h = record { quiet = refl; leads = tt }
  or_fine (Some x) go h = h x refl

  check_fine : (b : Bool) (d : Did) → (b ≡ true → Fine M w d) → Fine M w (check w b d)
  check_fine true d h = h refl
  check_fine false d h = record { quiet = refl; leads = tt }

  top_fine : (vs : List CoreValue) (go : CoreValue → List CoreValue → Did) → AreBits vs → ((v : CoreValue) (us : List CoreValue) → IsBits v → AreBits us → Fine M w (go v us)) → Fine M w (with_top w vs go)
  top_fine [] go b h = record { quiet = refl; leads = tt }
  top_fine (v ∷ vs) go b h = h v vs b.0 b.1

  i32_fine : (vs : List CoreValue) (go : ℕ → List CoreValue → Did) → AreBits vs → ((n : ℕ) (us : List CoreValue) → AreBits us → Fine M w (go n us)) → Fine M w (with_i32 w vs go)
  i32_fine [] go b h = record { quiet = refl; leads = tt }
  i32_fine (I32 n ∷ vs) go b h = h n vs b.1
  i32_fine (I64 n ∷ vs) go b h = record { quiet = refl; leads = tt }
  i32_fine (F32 n ∷ vs) go b h = record { quiet = refl; leads = tt }
  i32_fine (F64 n ∷ vs) go b h = record { quiet = refl; leads = tt }
  i32_fine (Func n ∷ vs) go b h = record { quiet = refl; leads = tt }

  i64_fine : (vs : List CoreValue) (go : ℕ → List CoreValue → Did) → AreBits vs → ((n : ℕ) (us : List CoreValue) → AreBits us → Fine M w (go n us)) → Fine M w (with_i64 w vs go)
  i64_fine [] go b h = record { quiet = refl; leads = tt }
  i64_fine (I32 n ∷ vs) go b h = record { quiet = refl; leads = tt }
  i64_fine (I64 n ∷ vs) go b h = h n vs b.1
  i64_fine (F32 n ∷ vs) go b h = record { quiet = refl; leads = tt }
  i64_fine (F64 n ∷ vs) go b h = record { quiet = refl; leads = tt }
  i64_fine (Func n ∷ vs) go b h = record { quiet = refl; leads = tt }

  address_fine : (wide : Bool) (vs : List CoreValue) (go : ℕ → List CoreValue → Did) → AreBits vs → ((n : ℕ) (us : List CoreValue) → AreBits us → Fine M w (go n us)) → Fine M w (with_address wide w vs go)
  address_fine true vs go b h = i64_fine vs go b h
  address_fine false vs go b h = i32_fine vs go b h

  when_fine : (n : ℕ) (on off : Did) → Fine M w on → Fine M w off → Fine M w (when n on off)
  when_fine zero on off h g = g
  when_fine (suc n) on off h g = h

  enter_fine : (types : List FuncType) (bt : BlockType) (vs : List CoreValue) (go : ℕ → ℕ → List CoreValue → List CoreValue → Did) → AreBits vs → ((m n : ℕ) (top below : List CoreValue) → AreBits top → AreBits below → Fine M w (go m n top below)) → Fine M w (enter types bt w vs go)
  enter_fine types bt vs go b h = or_fine (block_arity types bt) (λ a. or_stuck w (grab a.0 vs) (λ p. go a.0 a.1 p.0 p.1)) (λ a e. or_fine (grab a.0 vs) (λ p. go a.0 a.1 p.0 p.1) (λ p q. let c = cut a.0 vs p b q in h a.0 a.1 p.0 p.1 c.0 c.1))

  local_fine : (i : ℕ) (v : CoreValue) (ls : List (Option CoreValue)) (go : List (Option CoreValue) → Did) → IsBits v → AreHeld ls → ((l : List (Option CoreValue)) → AreHeld l → Fine M w (go l)) → Fine M w (set_local w i v ls go)
  local_fine i v ls go b held h = or_fine (slice_get ls i) _ (λ old e. check_fine _ _ (λ q. h (slice_set ls i (Some v)) (in_place IsHeld ls i (Some v) held b)))

  tested_fine : {A : Type 0} → (test : Bool) (x : A) (after : World) (ls : List (Option CoreValue)) (k : Around) (go : A → World → Did) → (test ≡ true → Fine M w (go x after)) → Fine M w (on_res (if test then Done x after else Halt Trap w) ls k go)
  tested_fine true x after ls k go h = h refl
  tested_fine false x after ls k go h = record { quiet = refl; leads = tt }

  branch_fine : (l : ℕ) (vs : List CoreValue) (ls : List (Option CoreValue)) (k : Around) → AreBits vs → AreHeld ls → AroundIs k → Fine M w (branch w l vs ls k)
  branch_fine l vs ls Bottom b held h = record { quiet = refl; leads = tt }
  branch_fine l vs ls (Frame ts f below rest k) b held h = record { quiet = refl; leads = tt }
  branch_fine zero vs ls (Label a below to rest cs k) b held h =
      or_fine (grab a vs) (λ p. Goes (At w (p.0 ++ below) ls to k)) (λ p e. record { quiet = refl; leads = record { state = typed; values = joined IsBits p.0 below (cut a vs p b e).0 h.0; locals = held; code_is = h.1; around = h.3 } })
  branch_fine (suc l) vs ls (Label a below to rest cs k) b held h = branch_fine l vs ls k b held h.3

  throw_fine : (ls : List (Option CoreValue)) (k : Around) → AreHeld ls → AroundIs k → Fine M w (throw w ls k)
  throw_fine ls Bottom held h = record { quiet = refl; leads = tt }
  throw_fine ls (Frame ts f below rest k) held h = throw_fine f k h.0 h.3
  throw_fine ls (Label a below to rest [] k) held h = throw_fine ls k held h.3
  throw_fine ls (Label a below to rest (c ∷ cs) k) held h = branch_fine c [] ls k tt held h.3

-- ---- rows

module _ (M : WasmModule) (constants : HasTypedConstants M) (w : World) (typed : TypedState M w.state) (ls : List (Option CoreValue)) (rest : List Instr) (k : Around) (held : AreHeld ls) (code : IsCode rest) (around : AroundIs k) where
  goes : (vs : List CoreValue) → AreBits vs → Fine M w (Goes (At w vs ls rest k))
  goes vs b = record { quiet = refl; leads = record { state = typed; values = b; locals = held; code_is = code; around = around } }

  -- into a block
  into : (m : ℕ) (top below : List CoreValue) (body to : List Instr) (cs : List ℕ) → AreBits top → AreBits below → IsCode body → IsCode to → Fine M w (Goes (At w top ls body (Label m below to rest cs k)))
  into m top below body to cs t b c d = record { quiet = refl; leads = record { state = typed; values = t; locals = held; code_is = c; around = (b, d, code, around) } }

  blocks : (bt : BlockType) (body : List Instr) (vs : List CoreValue) → IsCode body → AreBits vs → Fine M w (block M bt body w vs ls rest k)
  blocks bt body vs c b = enter_fine M w typed M.types bt vs _ b (λ m n top below p q. into n top below body rest [] p q c code)

  loads : (n : ℕ) (value : ℕ → CoreValue) → ((i : ℕ) → i < 256 ^ n → IsBits (value i)) → (m : MemArg) (vs : List CoreValue) → AreBits vs → Fine M w (load M n value m w vs ls rest k)
  loads n value each m vs b =
      or_fine M w typed (memory_import M.imports m.memory_index) _ (λ t e. address_fine M w typed t.0 vs _ b (λ base us c. or_fine M w typed (slice_get w.state.memories m.memory_index) _ (λ bytes there.
      tested_fine M w typed (nat_le (base + m.offset + n) (length bytes)) _ w ls k (λ number v. Goes (At v (value number ∷ us) ls rest k)) (λ q.
      goes _ (each _ (number_at_below n bytes (base + m.offset) (memory_bytes M w.state typed m.memory_index bytes there) (leb-true (base + m.offset + n) (length bytes) q)), c)))))

  stores : (n : ℕ) (number : CoreValue → Option ℕ) (m : MemArg) (vs : List CoreValue) → AreBits vs → Fine M w (store M n number m w vs ls rest k)
  stores n number m vs b =
      top_fine M w typed vs _ b (λ v us p c. or_fine M w typed (number v) _ (λ value e. or_fine M w typed (memory_import M.imports m.memory_index) _ (λ t f. address_fine M w typed t.0 us _ c (λ base us' d.
      or_fine M w typed (slice_get w.state.memories m.memory_index) _ (λ bytes there.
      tested_fine M w typed (nat_le (base + m.offset + n) (length bytes)) tt (written n m.memory_index bytes (base + m.offset) value w) ls k (λ done v. Goes (At v us' ls rest k)) (λ q. record {
        quiet = calls-append w.trace (Stored m.memory_index (base + m.offset) n (value % 256 ^ n) ∷ []) ∙ append-nil (calls w.trace);
        leads = record {
          state = memory_with M w.state typed m.memory_index bytes (with_number n bytes (base + m.offset) value) there (with_number_bytes n bytes (base + m.offset) value (memory_bytes M w.state typed m.memory_index bytes there))
              (store_keeps_length bytes n (base + m.offset) value (leb-true (base + m.offset + n) (length bytes) q));
          values = d;
          locals = held;
          code_is = code;
          around = around;
        };
      }))))))

  sizes : (n : ℕ) (vs : List CoreValue) → AreBits vs → Fine M w (act M (instr.MemorySize n) w vs ls rest k)
  sizes n vs b =
      or_fine M w typed (memory_import M.imports n) _ (λ t e. or_fine M w typed (slice_get w.state.memories n) _ (λ bytes there. or_fine M w typed (size_value t.0 (length bytes / page_bytes t.1)) _ (λ v q. goes (v ∷ vs) (size_bits t.0 (length bytes / page_bytes t.1) v q, b))))

  refers : (f : FuncName) (vs : List CoreValue) → AreBits vs → Fine M w (ref_func M f w vs ls rest k)
  refers (Import n) vs b = or_fine M w typed (func_import M.imports n) _ (λ ty e. goes _ (tt, b))
  refers (Defined n) vs b = or_fine M w typed (slice_get M.funcs n) _ (λ f e. goes _ (tt, b))

  calls_inside : (n : ℕ) (vs : List CoreValue) → AreBits vs → Fine M w (call_inside M n w vs ls rest k)
  calls_inside n vs b =
      or_fine M w typed (slice_get M.funcs n) _ (λ f e. or_fine M w typed (slice_get M.types f.ty) _ (λ t g. or_fine M w typed (grab (length t.params) vs) _ (λ p q. check_fine M w typed (have_types (reverse p.0) t.params) _ (λ h.
      let c = cut (length t.params) vs p b q in
      record {
        quiet = refl;
        leads = record {
          state = typed;
          values = tt;
          locals = joined IsHeld (map some_of (reverse p.0)) (locals_of f.locals) (arguments_held (reverse p.0) (reversed IsBits p.0 c.0)) (declared_held f.locals);
          code_is = function_code M n f constants e;
          around = (tt, tt, tt, (held, c.1, code, around));
        };
      }))))

  sets_global : (n : ℕ) (vs : List CoreValue) → AreBits vs → Fine M w (act M (instr.GlobalSet n) w vs ls rest k)
  sets_global n vs b =
      top_fine M w typed vs _ b (λ v us p c. or_fine M w typed (slice_get w.state.globals n) _ (λ old e. check_fine M w typed (has_type v (type_of old)) _ (λ h. record {
        quiet = calls-append w.trace (GlobalSet n v ∷ []) ∙ append-nil (calls w.trace);
        leads = record { state = global_with M w.state typed n old v e h p; values = c; locals = held; code_is = code; around = around };
      })))

  gets_local : (n : ℕ) (vs : List CoreValue) → AreBits vs → Fine M w (act M (instr.LocalGet n) w vs ls rest k)
  gets_local n vs b = or_fine M w typed (slice_get ls n) _ (λ o e. or_fine M w typed o _ (λ v q. goes (v ∷ vs) (subst IsHeld q (at_place IsHeld ls n o held e), b)))

  sets_local : (n : ℕ) (vs us : List CoreValue) (v : CoreValue) → IsBits v → AreBits us → Fine M w (set_local w n v ls (λ l. Goes (At w us l rest k)))
  sets_local n vs us v p b = local_fine M w typed n v ls (λ l. Goes (At w us l rest k)) p held (λ l h. record { quiet = refl; leads = record { state = typed; values = b; locals = h; code_is = code; around = around } })

  conditional : (bt : BlockType) (body : List Instr) (other : Option (List Instr)) (vs : List CoreValue) → AreBits (row_constants (instr.If bt body other)) → AreBits vs → Fine M w (act M (instr.If bt body other) w vs ls rest k)
  conditional bt body None vs c b = i32_fine M w typed vs _ b (λ n us d. when_fine M w typed n _ _ (blocks bt body us c d) (blocks bt [] us tt d))
  conditional bt body (Some other) vs c b =
      i32_fine M w typed vs _ b (λ n us d. when_fine M w typed n _ _ (blocks bt body us (front IsBits (body_constants body) (body_constants other) c) d) (blocks bt other us (behind IsBits (body_constants body) (body_constants other) c) d))

  loops : (bt : BlockType) (body : List Instr) (vs : List CoreValue) → IsCode body → AreBits vs → Fine M w (act M (instr.Loop bt body) w vs ls rest k)
  loops bt body vs c b =
      let again : AreBits (row_constants (out-Instr (whole.Loop bt body))) = subst (λ y. AreBits (row_constants y)) (sym (whole.outs-Loop bt body)) c in
      enter_fine M w typed M.types bt vs _ b (λ m n top below p q. into m top below body (whole.Loop bt body ∷ rest) [] p q c (code_with (whole.Loop bt body) rest again code))

  quietly : (y : Instr-F Instr) (vs : List CoreValue) → AreBits (row_constants y) → AreBits vs → Fine M w (or_stuck w (operate y vs) (λ us. Goes (At w us ls rest k)))
  quietly y vs c b = or_fine M w typed (operate y vs) _ (λ us e. goes us (operated y vs us c b e))

  -- ---- calls of the outside

  asks : (n : ℕ) (args vs : List CoreValue) (left : List Answer) → AreArguments (type_of_import M n) args → AreBits vs → Leads M w (on_res (asked n args w left) ls k (λ results v. Goes (At v (reverse results ++ vs) ls rest k)))
  asks n args vs [] are b = Quiet (record { quiet = refl; leads = tt })
  asks n args vs (Returns results state ∷ more) are b =
      let e : Event = record { func = n; args = args; before = w.state; answer = Returns results state } in
      Loud (record {
        event = e;
        logged = calls-append w.trace (Called e ∷ []);
        state = typed;
        arguments = are;
        leads = λ h. record { state = h.1; values = joined IsBits (reverse results) vs (reversed IsBits results (results_bits (type_of_import M n) results h.0)) b; locals = held; code_is = code; around = around };
      })
  asks n args vs (Traps ∷ more) are b =
      let e : Event = record { func = n; args = args; before = w.state; answer = Traps } in
      Loud (record { event = e; logged = calls-append w.trace (Called e ∷ []); state = typed; arguments = are; leads = λ h. tt })
  asks n args vs (Throws ∷ more) are b =
      let e : Event = record { func = n; args = args; before = w.state; answer = Throws } in
      let v : World = record { state = w.state; answers = more; trace = w.trace ++ Called e ∷ [] } in
      Loud (record { event = e; logged = ap log_of (throw_world v ls k) ∙ calls-append w.trace (Called e ∷ []); state = typed; arguments = are; leads = λ h. (throw_fine M v typed ls k held around).leads })

  or_leads : {A : Type 0} → (o : Option A) (go : A → Did) → ((x : A) → o ≡ Some x → Leads M w (go x)) → Leads M w (or_stuck w o go)
  or_leads None go h = Quiet (record { quiet = refl; leads = tt })
  or_leads (Some x) go h = h x refl

  check_leads : (b : Bool) (d : Did) → (b ≡ true → Leads M w d) → Leads M w (check w b d)
  check_leads true d h = h refl
  check_leads false d h = Quiet (record { quiet = refl; leads = tt })

  calls_import : (n : ℕ) (vs : List CoreValue) → AreBits vs → Leads M w (call_import M n w vs ls rest k)
  calls_import n vs b =
      or_leads (func_import M.imports n) _ (λ ty e. or_leads (slice_get M.types ty) _ (λ t g. or_leads (grab (length t.params) vs) _ (λ p q. check_leads (have_types (reverse p.0) t.params) _ (λ h.
      let c = cut (length t.params) vs p b q in
      let is : type_of_import M n ≡ Some t = ap (λ (o : Option ℕ). elim o as (λ (o : Option ℕ). Option FuncType) [ None ↦ None | Some i ↦ slice_get M.types i ]) e ∙ g in
      asks n (reverse p.0) p.1 w.answers (subst (λ o. AreArguments o (reverse p.0)) (sym is) (are_typed (reverse p.0) t.params h (reversed IsBits p.0 c.0))) c.1))))

  acts : (y : Instr-F Instr) (vs : List CoreValue) → AreBits (row_constants y) → AreBits vs → Leads M w (act M y w vs ls rest k)
  acts instr.Unreachable vs c b = Quiet (record { quiet = refl; leads = tt })
  acts (instr.Block bt body) vs c b = Quiet (blocks bt body vs c b)
  acts (instr.Loop bt body) vs c b = Quiet (loops bt body vs c b)
  acts (instr.If bt body other) vs c b = Quiet (conditional bt body other vs c b)
  acts (instr.TryTable bt catches body) vs c b = Quiet (enter_fine M w typed M.types bt vs _ b (λ m n top below p q. into n top below body rest catches p q c code))
  acts (instr.Br l) vs c b = Quiet (branch_fine M w typed l vs ls k b held around)
  acts (instr.BrIf l) vs c b = Quiet (i32_fine M w typed vs _ b (λ n us d. when_fine M w typed n _ _ (branch_fine M w typed l us ls k d held around) (goes us d)))
  acts (instr.BrTable labels last) vs c b = Quiet (i32_fine M w typed vs _ b (λ i us d. branch_fine M w typed (label_at labels last i) us ls k d held around))
  acts (instr.Call (Import n)) vs c b = calls_import n vs b
  acts (instr.Call (Defined n)) vs c b = Quiet (calls_inside n vs b)
  acts (instr.RefFunc f) vs c b = Quiet (refers f vs b)
  acts (instr.LocalGet n) vs c b = Quiet (gets_local n vs b)
  acts (instr.LocalSet n) vs c b = Quiet (top_fine M w typed vs _ b (λ v us p d. sets_local n vs us v p d))
  acts (instr.LocalTee n) vs c b = Quiet (top_fine M w typed vs _ b (λ v us p d. sets_local n vs vs v p b))
  acts (instr.GlobalGet n) vs c b = Quiet (or_fine M w typed (slice_get w.state.globals n) _ (λ v e. goes (v ∷ vs) (global_bits M w.state typed n v e, b)))
  acts (instr.GlobalSet n) vs c b = Quiet (sets_global n vs b)
  acts (instr.I32Load m) vs c b = Quiet (loads 4 (λ n. I32 n) (λ i h. h) m vs b)
  acts (instr.I64Load m) vs c b = Quiet (loads 8 (λ n. I64 n) (λ i h. h) m vs b)
  acts (instr.F32Load m) vs c b = Quiet (loads 4 (λ n. F32 n) (λ i h. h) m vs b)
  acts (instr.F64Load m) vs c b = Quiet (loads 8 (λ n. F64 n) (λ i h. h) m vs b)
  acts (instr.I32Load8S m) vs c b = Quiet (loads 1 (λ n. I32 (extend_s 8 32 n)) (λ i h. extended_8 i) m vs b)
  acts (instr.I32Load8U m) vs c b = Quiet (loads 1 (λ n. I32 n) (λ i h. omega (arith, h)) m vs b)
  acts (instr.I32Load16S m) vs c b = Quiet (loads 2 (λ n. I32 (extend_s 16 32 n)) (λ i h. extended_16 i) m vs b)
  acts (instr.I32Load16U m) vs c b = Quiet (loads 2 (λ n. I32 n) (λ i h. omega (arith, h)) m vs b)
  acts (instr.I32Store m) vs c b = Quiet (stores 4 i32_of m vs b)
  acts (instr.I64Store m) vs c b = Quiet (stores 8 i64_of m vs b)
  acts (instr.F32Store m) vs c b = Quiet (stores 4 f32_of m vs b)
  acts (instr.F64Store m) vs c b = Quiet (stores 8 f64_of m vs b)
  acts (instr.I32Store8 m) vs c b = Quiet (stores 1 i32_of m vs b)
  acts (instr.I32Store16 m) vs c b = Quiet (stores 2 i32_of m vs b)
  acts (instr.MemorySize n) vs c b = Quiet (sizes n vs b)
  acts y vs c b = Quiet (quietly y vs c b)

-- ---- steps

-- what comes next is of the right size
abbrev Comes : WasmModule → Next → Type 0
Comes M (Begins w vs ls i rest k) = IsSized M w.state vs ls (i ∷ rest) k
Comes M (Finished w vs) = Unit {0}
Comes M (Breaks w) = Unit {0}

module _ (M : WasmModule) (constants : HasTypedConstants M) where
  leaving_comes : (b : Bool) (w : World) (x : Next) → Comes M x → Comes M (leaving b w x)
  leaving_comes true w x h = h
  leaving_comes false w x h = tt

  comes : (w : World) (vs : List CoreValue) (ls : List (Option CoreValue)) (code : List Instr) (k : Around) → IsSized M w.state vs ls code k → Comes M (next_in w vs ls code k)
  comes w vs ls (i ∷ rest) k h = h
  comes w vs ls [] Bottom h = tt
  comes w vs ls [] (Label a below to rest cs k) h = comes w (vs ++ below) ls rest k (record { state = h.state; values = joined IsBits vs below h.values h.around.0; locals = h.locals; code_is = h.around.2; around = h.around.3 })
  comes w vs ls [] (Frame ts f below rest k) h =
      leaving_comes (have_types (reverse vs) ts) w (next_in w (vs ++ below) f rest k)
      (comes w (vs ++ below) f rest k (record { state = h.state; values = joined IsBits vs below h.values h.around.1; locals = h.around.0; code_is = h.around.2; around = h.around.3 }))

  begins : (x : Next) → Comes M x → Leads M (next_world x) (begin M x)
  begins (Begins w vs ls i rest k) h = acts M constants w h.state ls rest k h.locals (code_rest i rest h.code_is) h.around (out-Instr i) vs (code_first i rest h.code_is) h.values
  begins (Finished w vs) h = Quiet (record { quiet = refl; leads = tt })
  begins (Breaks w) h = Quiet (record { quiet = refl; leads = tt })

  -- what so many steps add to the log sees typed states
  abbrev Sees : ℕ → Config → Type 0
  Sees n c = (more : List Event) → log_of (world_at M n c) ≡ log_of (config_world c) ++ more → SeeTyped M more

  abbrev SeesWhere : ℕ → Config → Type 0
  SeesWhere n (At w vs ls code k) = IsSized M w.state vs ls code k → Sees n (At w vs ls code k)

  nothing_more : (w v : World) (more : List Event) → log_of v ≡ log_of w → log_of v ≡ log_of w ++ more → SeeTyped M more
  nothing_more w v more same e = subst (SeeTyped M) (append_cancel_left (log_of w) [] more (append-nil (log_of w) ∙ sym same ∙ e)) tt

  after_sees : (n : ℕ) (w : World) (d : Did) → ((c : Config) → SeesWhere n c) → Leads M w d → (more : List Event) → log_of (reached_after (reach M n) d).world ≡ log_of w ++ more → SeeTyped M more
  after_sees n w (Goes (At v vs ls code k)) each (Quiet f) more e = each (At v vs ls code k) f.leads more (e ∙ ap (λ l. l ++ more) (sym f.quiet))
  after_sees n w (Goes (At v vs ls code k)) each (Loud f) more e =
      let g = calls_grow (trace_grows M n (At v vs ls code k)) in
      let all : log_of (world_at M n (At v vs ls code k)) ≡ log_of w ++ f.event ∷ g.more = g.is ∙ ap (λ l. l ++ g.more) f.logged ∙ append_assoc (log_of w) (f.event ∷ []) g.more in
      subst (SeeTyped M) (append_cancel_left (log_of w) (f.event ∷ g.more) more (sym all ∙ e)) (f.state, f.arguments, λ h. each (At v vs ls code k) (f.leads h) g.more g.is)
  after_sees n w (Ends end v) each (Quiet f) more e = nothing_more w v more f.quiet e
  after_sees n w (Ends end v) each (Loud f) more e = subst (SeeTyped M) (append_cancel_left (log_of w) (f.event ∷ []) more (sym f.logged ∙ e)) (f.state, f.arguments, λ h. tt)

  steps_see : (n : ℕ) (c : Config) → SeesWhere n c
  steps_see zero (At w vs ls code k) = λ h more e. nothing_more w (world_at M 0 (At w vs ls code k)) more (ap log_of (world_at_zero M (Goes (At w vs ls code k)))) e
  steps_see (suc n) (At w vs ls code k) = λ h more e.
      after_sees n w (begin M (next_in w vs ls code k)) (steps_see n) (subst (λ v. Leads M v (begin M (next_in w vs ls code k))) (next_keeps w vs ls code k) (begins (next_in w vs ls code k) (comes w vs ls code k h))) more e

pub runs_see_typed : RunsSeeTyped
runs_see_typed M f args state answers n constants bits typed =
    let w : World = record { state = state; answers = answers; trace = [] } in
    after_sees M constants n w (start M f args state answers) (steps_see M constants n)
    (Quiet (check_fine M w typed (takes M f args) (call_inside M f w (reverse args) [] [] Bottom) (λ h. calls_inside M constants w typed [] [] Bottom tt tt tt f (reverse args) (reversed IsBits args bits))))
    (run_of M f args state answers n).log (sym (run_log M f args state answers n))
