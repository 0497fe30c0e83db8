-- A call of a helper moves values from one place to another.
use Rattle.std.proofs.Common.{◌≡◌, ℕ, zero, suc, ◌+◌, ◌*◌, ◌≤◌, ◌<◌, ◌^◌, Bool, true, false, List, [], ◌∷◌, ◌++◌, map, length, Some, refl, sym, ap, ◌∙◌, subst, arith, append_assoc, append-nil, reverse, slice_get}
use Rattle.std.specs.Prelude.{option_and_then}
use Rattle.std.specs.List.{AllByRecursion}
use Rattle.std.proofs.lemmas.Bool.{ltb-true, lt-ltb}
use Rattle.std.proofs.lemmas.List.{reverse-append, reverse-reverse}
use Rattle.fact_wasm.specs.declared.types.ValType.{ValType}
use Rattle.fact_wasm.specs.declared.types.ValType.TheVariants as val
use Rattle.fact_wasm.specs.declared.types.FuncType.{FuncType}
use Rattle.fact_wasm.specs.declared.instr.FuncName.TheVariants.{Defined}
use Rattle.fact_wasm.specs.declared.instr.Instr.{Instr}
use Rattle.fact_wasm.specs.declared.instr.Instr.TheVariants as I
use Rattle.fact_wasm.specs.declared.instr.Instr.TheOpen as o
use Rattle.fact_wasm.specs.declared.module.WasmFunc.{WasmFunc}
use Rattle.fact_wasm.specs.declared.module.WasmModule.{WasmModule}
use Rattle.fact_types.specs.FlatShapes.{flat}
use Rattle.fact_types.specs.Shapes.{Shape}
use Rattle.fact_machine.specs.declared.types.CoreValue.{CoreValue}
use Rattle.fact_machine.specs.declared.types.CoreValue.TheVariants.{I32, I64, F32, F64, Func}
use Rattle.fact_machine.specs.Exits.{Falls, Calls, entry_locals}
use Rattle.fact_machine.specs.Machine.{have_types}
use Rattle.fact_machine.specs.Typed.{is_value}
use Rattle.fact_machine.specs.Typing.{is_number, function_type, address_bits, address_operand, address_type}
use Rattle.fact_machine.proofs.Tests.{both}
use Rattle.fact_machine.proofs.Laws.{leaves_none, leaves_next, leaves_then, leaves_as}
use Rattle.fact_machine.proofs.RowLaws.{leaves_local_get}
use Rattle.fact_values.specs.Lift.{bits_of}
use Rattle.fact_actions.specs.Actions.{Action, Give, ◌>>=◌}
use Rattle.fact_actions.specs.Alike.{as_i64, source_as_i64, IsSourceInRange, AreSlotsAlike, HaveSameBits, AreEndsAlike, HaveValueTypes, IfGiven, CanFill}
use Rattle.fact_actions.specs.Moves.{move}
use Rattle.fact_actions.specs.Running.{ImportPlaces, Ended, Gave, Halted, Strayed, run, then_ended}
use Rattle.fact_actions.specs.Sides.{Source, Values, AtAddress, Target, Slots, Into, core_value, width_of_side}
use Rattle.fact_actions.proofs.AlikeRuns.{moves_are_alike}
use Rattle.fact_actions.proofs.Binds.{binds_run}
use Rattle.fact_actions.proofs.GivenSlots.{moves_fill_slots}
use Rattle.fact_code_laws.specs.Does.{Locals, Onward, Does, EndsOn}
use Rattle.fact_code_laws.specs.Helpers.{HelperBodiesMove, HelperCallsMove, get_code, bits_as_i64, to_slot, set_code, push_as_i64, take_code, based_code, push_from, push_to, take_to, helper_code, AreRoomFor, IsRoomFor, AreValues, AreNumberSlots, args_of_source, args_of_target, params_of_source, params_of_target, results_of_target, SourceHasRoom, TargetHasRoom, IsSourceOf, IsHelper, IsCallSource, IsCallTarget}
use Rattle.fact_code_laws.specs.Places.{Slot, From, InLocals, InMemory, To, ToLocals, ToMemory, AreHeld, AreFree, StandsAt, MayGo, Stood, KeepsLocals, AreLocals, InRooms, Setting, transfer, limit_of}
use Rattle.fact_code_laws.specs.Tests.{pointer_of_width}
use Rattle.fact_code_laws.specs.Typed.{OnStack, IsTyped}
use Rattle.fact_code_laws.proofs.Blocks.{weaker}
use Rattle.fact_code_laws.proofs.HelperCalls.{PushesAll, retyped, reverse_front, pushes_as_i64, values_in_range, calls_pushed, calls_into_slots, does_alike, room_number}
use Rattle.fact_code_laws.proofs.Keeping.{keeps_all}
use Rattle.fact_code_laws.proofs.ListCode.{pushes_wrapped}
use Rattle.fact_code_laws.proofs.Numbers.{value_type}
use Rattle.fact_code_laws.proofs.ListTyped.{takes_const, takes_add}
use Rattle.fact_code_laws.proofs.Rules.{within, stretch, in_turn, done}
use Rattle.fact_code_laws.proofs.Runs.{then_given}
use Rattle.fact_code_laws.proofs.TypedRows.{takes_call, takes_local_get, takes_local_set, takes_plain}
use Rattle.fact_code_laws.proofs.TypingLaws.{typed_done, typed_next, typed_one, typed_then}

-- ---- what is pushed

bits_limit : (memory64 : Bool) → limit_of (pointer_of_width memory64) ≡ 2 ^ address_bits memory64
bits_limit true = refl
bits_limit false = refl

module _ {M : WasmModule} {ls : Locals} where
  pushes_none : PushesAll M ls 0 [] []
  pushes_none = record { steps = 0; few = omega arith; leaves = λ w below. leaves_none }

  pushes_both : {m n : ℕ} {c k : List Instr} {vs us : List CoreValue} → PushesAll M ls m c vs → PushesAll M ls n k us → PushesAll M ls (m + n) (c ++ k) (vs ++ us)
  pushes_both {vs = vs} {us} x y = record {
    steps = x.steps + y.steps;
    few = omega (arith, x.few, y.few);
    leaves = λ w below.
        let e : reverse us ++ (reverse vs ++ below) ≡ reverse (vs ++ us) ++ below = sym (ap (λ l. l ++ below) (reverse-append vs us) ∙ append_assoc (reverse us) (reverse vs) below) in
        leaves_then (x.leaves w below) (leaves_as (ap (λ l. Falls w l ls) e) (y.leaves w (reverse vs ++ below)));
  }

  -- an address that does not wrap
  pushes_address : (memory64 : Bool) (base offset start : ℕ) → slice_get ls base ≡ Some (Some (address_operand memory64 start)) → start + offset < 2 ^ address_bits memory64
      → PushesAll M ls 3 (based_code memory64 base offset) (address_operand memory64 (start + offset) ∷ [])
  pushes_address memory64 base zero start there lt =
      record { steps = 1; few = omega arith; leaves = λ w below. leaves_as (ap (λ n. Falls w (address_operand memory64 n ∷ below) ls) (let e : start ≡ start + 0 = omega arith in e)) (leaves_next (leaves_local_get there) leaves_none) }
  pushes_address memory64 base (suc n) start there lt =
      let x = pushes_wrapped {M = M} {ls = ls} memory64 base start (suc n) there in
      let same : x.0 ≡ start + suc n = x.2 (subst (λ m. start + suc n < m) (sym (bits_limit memory64)) lt) in
      record { steps = 3; few = omega arith; leaves = λ w below. leaves_as (ap (λ m. Falls w (address_operand memory64 m ∷ below) ls) same) (x.1.by w below) }

pushes_within : {M : WasmModule} {ls : Locals} {m n : ℕ} {c : List Instr} {vs : List CoreValue} → m ≤ n → PushesAll M ls m c vs → PushesAll M ls n c vs
pushes_within le x = record { steps = x.steps; few = omega (arith, le, x.few); leaves = x.leaves }

-- ---- values of types

values_on : (vs : List CoreValue) (ts : List ValType) (us : List CoreValue) (rs : List ValType) → AreValues vs ts → AreValues us rs → AreValues (vs ++ us) (ts ++ rs)
values_on [] [] us rs h g = g
values_on [] (t ∷ ts) us rs h g = absurd h
values_on (v ∷ vs) [] us rs h g = absurd h
values_on (v ∷ vs) (t ∷ ts) us rs h g = (h.0, values_on vs ts us rs h.1 g)

values_typed : (vs : List CoreValue) (ts : List ValType) → AreValues vs ts → have_types vs ts ≡ true
values_typed [] [] h = refl
values_typed [] (t ∷ ts) h = absurd h
values_typed (v ∷ vs) [] h = absurd h
values_typed (v ∷ vs) (t ∷ ts) h = both (value_type v t h.0) (values_typed vs ts h.1)

value_as_i64 : (v : CoreValue) (t : ValType) → is_number t ≡ true → is_value v t ≡ true → is_value (as_i64 v) val.I64 ≡ true
value_as_i64 (I32 n) val.I32 h e = let lt : n < 2 ^ 32 = ltb-true n (2 ^ 32) e in lt-ltb n (2 ^ 64) (omega (arith, lt))
value_as_i64 (F32 n) val.F32 h e = let lt : n < 2 ^ 32 = ltb-true n (2 ^ 32) e in lt-ltb n (2 ^ 64) (omega (arith, lt))
value_as_i64 (I64 n) val.I64 h e = e
value_as_i64 (F64 n) val.F64 h e = e
value_as_i64 (I32 n) _ h e = cc
value_as_i64 (F32 n) _ h e = cc
value_as_i64 (I64 n) _ h e = cc
value_as_i64 (F64 n) _ h e = cc
value_as_i64 (Func f) val.I32 h e = cc
value_as_i64 (Func f) val.I64 h e = cc
value_as_i64 (Func f) val.F32 h e = cc
value_as_i64 (Func f) val.F64 h e = cc
value_as_i64 (Func f) val.FuncRef h e = cc

values_as_i64 : (ls : Locals) (ss : List Slot) (vs : List CoreValue) → AreNumberSlots ss → AreHeld ls ss vs → AreValues (map as_i64 vs) (map (λ s. val.I64) ss)
values_as_i64 ls [] [] n h = tt
values_as_i64 ls [] (v ∷ vs) n h = absurd h
values_as_i64 ls (s ∷ ss) [] n h = absurd h
values_as_i64 ls (s ∷ ss) (v ∷ vs) n h = (value_as_i64 v s.1 n.0 h.0.value, values_as_i64 ls ss vs n.1 h.1)

address_value : (memory64 : Bool) (a : ℕ) → a < 2 ^ address_bits memory64 → is_value (address_operand memory64 a) (address_type memory64) ≡ true
address_value true a lt = lt-ltb a (2 ^ 64) lt
address_value false a lt = lt-ltb a (2 ^ 32) lt

-- ---- the source and the target of a call

record SourceTaken (S : Setting) (ls : Locals) (from : From) (bytes : ℕ) (s : Source) : Type 0 where
  pushes : PushesAll S.whole ls 48 (push_from S.from64 from) (args_of_source S.from64 s)
  within : IsSourceInRange s
  values : AreValues (args_of_source S.from64 s) (params_of_source S.from64 from)
  room : SourceHasRoom S.from64 bytes s

source_taken : (S : Setting) (ls : Locals) (from : From) (to : To) (bytes : ℕ) (s : Source) → IsCallSource S from bytes → StandsAt ls S.from64 from s → InRooms S ls from to → SourceTaken S ls from bytes s
source_taken S ls (InLocals ss) to bytes (Values vs) c st r = record {
  pushes = pushes_within (omega (arith, c.2)) (pushes_as_i64 ss vs c.0 st);
  within = values_in_range ls ss vs st;
  values = values_as_i64 ls ss vs c.0 st;
  room = tt;
}
source_taken S ls (InLocals ss) to bytes (AtAddress a) c st r = absurd st
source_taken S ls (InMemory memory base offset) to bytes (Values vs) c st r = absurd st
source_taken S ls (InMemory memory base offset) to bytes (AtAddress a) c st r =
    let behind : st.start + S.rooms.from ≤ 2 ^ address_bits S.from64 = r.source.within st.start st.there in
    let lt : st.start + offset < 2 ^ address_bits S.from64 = omega (arith, behind, c.1, c.2) in
    let is : a ≡ st.start + offset = st.is in
    record {
      pushes = pushes_within (omega arith) (subst (λ x. PushesAll S.whole ls 3 (based_code S.from64 base offset) (address_operand S.from64 x ∷ [])) (sym is) (pushes_address S.from64 base offset st.start st.there lt));
      within = tt;
      values = (address_value S.from64 a (subst (λ x. x < 2 ^ address_bits S.from64) (sym is) lt), tt);
      room = omega (arith, behind, c.1, is);
    }

record TargetTaken (S : Setting) (ls : Locals) (to : To) (bytes : ℕ) (d : Target) : Type 0 where
  pushes : PushesAll S.whole ls 3 (push_to S.to64 to) (args_of_target S.to64 d)
  values : AreValues (args_of_target S.to64 d) (params_of_target S.to64 to)
  room : TargetHasRoom S.to64 bytes d

target_taken : (S : Setting) (used : ℕ → Bool) (ls : Locals) (from : From) (to : To) (bytes : ℕ) (flats : List ValType) (d : Target) → IsCallTarget S to bytes flats → MayGo used ls S.to64 to d → InRooms S ls from to → TargetTaken S ls to bytes d
target_taken S used ls from (ToLocals ss) bytes flats (Slots ts) c go r = record { pushes = pushes_within (omega arith) pushes_none; values = tt; room = tt }
target_taken S used ls from (ToLocals ss) bytes flats (Into a) c go r = absurd go
target_taken S used ls from (ToMemory memory base offset) bytes flats (Slots ts) c go r = absurd go
target_taken S used ls from (ToMemory memory base offset) bytes flats (Into a) c go r =
    let behind : go.start + S.rooms.to ≤ 2 ^ address_bits S.to64 = r.target.within go.start go.there in
    let lt : go.start + offset < 2 ^ address_bits S.to64 = omega (arith, behind, c.1, c.2) in
    let is : a ≡ go.start + offset = go.is in
    record {
      pushes = subst (λ x. PushesAll S.whole ls 3 (based_code S.to64 base offset) (address_operand S.to64 x ∷ [])) (sym is) (pushes_address S.to64 base offset go.start go.there lt);
      values = (address_value S.to64 a (subst (λ x. x < 2 ^ address_bits S.to64) (sym is) lt), tt);
      room = omega (arith, behind, c.1, is);
    }

-- ---- slots

flat_number : (f t : ValType) → IsRoomFor f t → is_number f ≡ true
flat_number val.I32 val.I32 h = refl
flat_number val.I32 val.I64 h = refl
flat_number val.I64 val.I64 h = refl
flat_number val.F32 val.F32 h = refl
flat_number val.F32 val.I32 h = refl
flat_number val.F32 val.I64 h = refl
flat_number val.F64 val.F64 h = refl
flat_number val.F64 val.I64 h = refl
flat_number _ _ h = absurd h

-- Slots of the flat types, and others that they have room in: as many, all of numbers.
record AreSlots (flats ts : List ValType) (ss : List Slot) : Type 0 where
  alike : AreSlotsAlike ts flats
  count : length ts ≡ length flats
  numbers : AllByRecursion (λ t. is_number t ≡ true) ts
  types : map (λ s. s.1) ss ≡ ts

slots_of : (used : ℕ → Bool) (ls : Locals) (flats : List ValType) (ss : List Slot) (ts : List ValType) → AreRoomFor flats ss → AreFree used ls ss ts → AreSlots flats ts ss
slots_of used ls [] [] [] r f = record { alike = tt; count = refl; numbers = tt; types = refl }
slots_of used ls [] (s ∷ ss) ts r f = absurd r
slots_of used ls (g ∷ flats) [] ts r f = absurd r
slots_of used ls [] [] (t ∷ ts) r f = absurd f
slots_of used ls (g ∷ flats) (s ∷ ss) [] r f = absurd f
slots_of used ls (g ∷ flats) (s ∷ ss) (t ∷ ts) r f =
    let rest = slots_of used ls flats ss ts r.1 f.3 in
    let number : is_number t ≡ true = subst (λ x. is_number x ≡ true) f.0 (room_number g s.1 r.0) in
    record {
      alike = ((number, flat_number g s.1 r.0), rest.alike);
      count = ap suc rest.count;
      numbers = (number, rest.numbers);
      types = ap (λ x. x ∷ map (λ s. s.1) ss) f.0 ∙ ap (λ xs. t ∷ xs) rest.types;
    }

-- the same numbers of the slots' types are the same values
same_retyped : (ss : List Slot) (ts : List ValType) (vs us : List CoreValue) → map (λ s. s.1) ss ≡ ts → HaveValueTypes vs ts → HaveSameBits vs us → vs ≡ retyped ss us
same_retyped [] [] [] us e h b = refl
same_retyped (s ∷ ss) (t ∷ ts) (v ∷ vs) (u ∷ us) e h b =
    let first : bits_of v ≡ bits_of u = ap (λ l. head_or l (bits_of v)) b in
    let type_is : s.1 ≡ t = ap (λ l. head_or l t) e in
    let here : v ≡ core_value s.1 (bits_of u) = h.0 ∙ ap (λ n. core_value t n) first ∙ ap (λ x. core_value x (bits_of u)) (sym type_is) in
    ap (λ x. x ∷ vs) here ∙ ap (λ xs. core_value s.1 (bits_of u) ∷ xs) (same_retyped ss ts vs us (ap tail e) h.1 (ap tail b))
  where
    head_or : {X : Type 0} → List X → X → X
    head_or [] x = x
    head_or (y ∷ ys) x = y

    tail : {X : Type 0} → List X → List X
    tail [] = []
    tail (y ∷ ys) = ys
same_retyped (s ∷ ss) (t ∷ ts) (v ∷ vs) [] e h b = cc
same_retyped [] (t ∷ ts) vs us e h b = cc
same_retyped (s ∷ ss) [] vs us e h b = cc
same_retyped [] [] (v ∷ vs) us e h b = absurd h
same_retyped (s ∷ ss) (t ∷ ts) [] us e h b = absurd h

none_same : (vs us : List CoreValue) → HaveSameBits vs us → us ≡ [] → vs ≡ []
none_same [] us b e = refl
none_same (v ∷ vs) [] b e = cc
none_same (v ∷ vs) (u ∷ us) b e = cc

-- an end behind which what is given is given in other types
retyped_ends : (ss : List Slot) (ts : List ValType) (e f : Ended (List CoreValue)) → map (λ s. s.1) ss ≡ ts → AreEndsAlike HaveSameBits e f → IfGiven (λ vs. HaveValueTypes vs ts) e
    → AreEndsAlike (λ (vs us : List CoreValue). vs ≡ us) e (then_ended f (λ us w. Gave 0 [] (retyped ss us) w))
retyped_ends ss ts (Gave n cs vs w) (Gave m ds us x) types h g = (h.0 ∙ (let e : m ≡ m + 0 = omega arith in e), h.1 ∙ sym (append-nil ds), same_retyped ss ts vs us types g h.2, h.3)
retyped_ends ss ts (Halted n cs s w) (Halted m ds r x) types h g = h
retyped_ends ss ts (Strayed n cs w) (Strayed m ds x) types h g = h
retyped_ends ss ts (Gave n cs vs w) (Halted m ds r x) types h g = absurd h
retyped_ends ss ts (Gave n cs vs w) (Strayed m ds x) types h g = absurd h
retyped_ends ss ts (Halted n cs s w) (Gave m ds us x) types h g = absurd h
retyped_ends ss ts (Halted n cs s w) (Strayed m ds x) types h g = absurd h
retyped_ends ss ts (Strayed n cs w) (Gave m ds us x) types h g = absurd h
retyped_ends ss ts (Strayed n cs w) (Halted m ds r x) types h g = absurd h

-- ---- the effect

-- what stands at a place is a source of it
source_of : (ls : Locals) (memory64 : Bool) (from : From) (s : Source) → StandsAt ls memory64 from s → IsSourceOf from s
source_of ls memory64 (InLocals slots) (Values vs) st = tt
source_of ls memory64 (InMemory memory base offset) (AtAddress a) st = tt
source_of ls memory64 (InLocals slots) (AtAddress a) st = absurd st
source_of ls memory64 (InMemory memory base offset) (Values vs) st = absurd st

abbrev CallCode : Setting → From → To → List ValType → ℕ → List Instr
CallCode S from to flats number = helper_code S.from64 S.to64 from to flats number

calls : (S : Setting) (from : From) (to : To) (from_bytes to_bytes : ℕ) (t u : Shape) (flats : List ValType) (number : ℕ) (s : Source) (d : Target) (h : IsHelper S.whole S.places S.from64 S.to64 from to from_bytes to_bytes flats number (move (transfer S) t u))
    → AreValues (args_of_source S.from64 s ++ args_of_target S.to64 d) (params_of_source S.from64 from ++ params_of_target S.to64 to)
    → Calls S.whole number (args_of_source S.from64 s ++ args_of_target S.to64 d) h.func (record { params = params_of_source S.from64 from ++ params_of_target S.to64 to; results = results_of_target flats to })
calls S from to from_bytes to_bytes t u flats number s d h v = record { func_is = h.there; type_is = h.typed; typed = values_typed _ _ v }

effect : (S : Setting) (used : ℕ → Bool) (from : From) (to : To) (from_bytes to_bytes : ℕ) (t u : Shape) (flats : List ValType) (number : ℕ)
    → IsHelper S.whole S.places S.from64 S.to64 from to from_bytes to_bytes flats number (move (transfer S) t u) → IsCallSource S from from_bytes → IsCallTarget S to to_bytes flats → CanFill t u → length flats ≡ length (flat (width_of_side S.to) u)
    → (ls : Locals) (s : Source) (d : Target) → StandsAt ls S.from64 from s → MayGo used ls S.to64 to d → InRooms S ls from to
    → Does S.whole S.places Onward 0 100 [] ls (CallCode S from to flats number) (move (transfer S) t u s d) (λ vs. []) (λ vs ls'. Stood ls' to vs × KeepsLocals used ls ls')
effect S used from (ToLocals ss) from_bytes to_bytes t u flats number h cs ct fill count ls s (Into a) st go r = absurd go
effect S used from (ToMemory memory base offset) from_bytes to_bytes t u flats number h cs ct fill count ls s (Slots ts) st go r = absurd go
effect S used from (ToLocals ss) from_bytes to_bytes t u flats number h cs ct fill count ls s (Slots ts) st go r =
    let tr = transfer S in
    let x = source_taken S ls from (ToLocals ss) from_bytes s cs st r in
    let y = target_taken S used ls from (ToLocals ss) to_bytes flats (Slots ts) ct go r in
    let slots = slots_of used ls flats ss ts ct.0 go in
    let values = values_on _ _ _ _ x.values y.values in
    let typed : (vs : List CoreValue) → AreValues vs flats → have_types (reverse (reverse vs)) flats ≡ true = λ vs v. subst (λ us. have_types us flats ≡ true) (sym (reverse-reverse vs)) (values_typed vs flats v) in
    let body : Does S.whole S.places Onward 0 (48 + 3 + (3 * length ss + 100) + 1) [] (entry_locals h.func (args_of_source S.from64 s ++ [])) h.func.body (move tr t u (source_as_i64 s) (Slots flats)) reverse (λ vs ls'. AreValues vs flats) =
    within (omega (arith, ct.3)) (h.does s (Slots ts) (source_of ls S.from64 from s st) tt values x.room y.room) in
    let called = calls_into_slots used flats ss ts ct.0 ct.1 go (pushes_both x.pushes y.pushes) (calls S from (ToLocals ss) from_bytes to_bytes t u flats number s (Slots ts) h values) typed body in
    let moved : Does S.whole S.places Onward 0 100 [] ls (((push_from S.from64 from ++ []) ++ I.Call (Defined number) ∷ []) ++ take_code flats ss) (move tr t u s (Slots ts)) (λ vs. []) (λ vs ls'. AreHeld ls' ss vs × KeepsLocals used ls ls') =
    does_alike {R = λ (vs us : List CoreValue). vs ≡ us}
    (λ w. record {
      by =
          subst (λ e. AreEndsAlike (λ (vs us : List CoreValue). vs ≡ us) (run S.places (move tr t u s (Slots ts)) w) e) (sym (binds_run S.places (move tr t u (source_as_i64 s) (Slots flats)) (λ us. Give (retyped ss us)) w))
          (retyped_ends ss ts (run S.places (move tr t u s (Slots ts)) w) (run S.places (move tr t u (source_as_i64 s) (Slots flats)) w) slots.types (moves_are_alike tr t u s (Slots ts) (Slots flats) S.places w x.within slots.alike) (moves_fill_slots tr t u s ts S.places w fill slots.numbers (slots.count ∙ count)));
    })
    (λ vs us e. refl) (λ vs us ls' e k. subst (λ xs. AreHeld ls' ss xs × KeepsLocals used ls ls') (sym e) k) called in
    subst (λ c. Does S.whole S.places Onward 0 100 [] ls c (move tr t u s (Slots ts)) (λ vs. []) (λ vs ls'. AreHeld ls' ss vs × KeepsLocals used ls ls')) (append_assoc (push_from S.from64 from ++ []) (I.Call (Defined number) ∷ []) (take_code flats ss)) moved
effect S used from (ToMemory memory base offset) from_bytes to_bytes t u flats number h cs ct fill count ls s (Into a) st go r =
    let tr = transfer S in
    let to = ToMemory memory base offset in
    let x = source_taken S ls from to from_bytes s cs st r in
    let y = target_taken S used ls from to to_bytes flats (Into a) ct go r in
    let values = values_on _ _ _ _ x.values y.values in
    let body : Does S.whole S.places Onward 0 (48 + 3 + 100 + 1) [] (entry_locals h.func (args_of_source S.from64 s ++ args_of_target S.to64 (Into a))) h.func.body (move tr t u (source_as_i64 s) (Into a)) (λ vs. []) (λ vs ls'. vs ≡ []) =
    within (omega arith) (h.does s (Into a) (source_of ls S.from64 from s st) tt values x.room y.room) in
    let called = calls_pushed (pushes_both x.pushes y.pushes) (calls S from to from_bytes to_bytes t u flats number s (Into a) h values) (λ vs ls' e. refl) body in
    does_alike {R = HaveSameBits}
    (λ w. record { by = moves_are_alike tr t u s (Into a) (Into a) S.places w x.within refl })
    (λ vs us e. refl) (λ vs us ls' b k. (none_same vs us b k.1.1, subst (λ l. KeepsLocals used ls l) (sym k.0) keeps_all)) called

-- ---- the types of operands

module _ {M : WasmModule} {locals : List ValType} where
  typed_bits_as_i64 : (t : ValType) (ins : List ValType) → is_number t ≡ true → IsTyped M locals [] (bits_as_i64 t) (t ∷ ins) (OnStack (val.I64 ∷ ins))
  typed_bits_as_i64 val.I32 ins n = typed_one (takes_plain o.I64ExtendI32U I.outs-I64ExtendI32U refl)
  typed_bits_as_i64 val.I64 ins n = typed_done
  typed_bits_as_i64 val.F32 ins n = typed_next (takes_plain o.I32ReinterpretF32 I.outs-I32ReinterpretF32 refl) (typed_one (takes_plain o.I64ExtendI32U I.outs-I64ExtendI32U refl))
  typed_bits_as_i64 val.F64 ins n = typed_one (takes_plain o.I64ReinterpretF64 I.outs-I64ReinterpretF64 refl)
  typed_bits_as_i64 val.FuncRef ins n = cc

  typed_as_i64 : (ss : List Slot) (ins : List ValType) → AreNumberSlots ss → AreLocals locals ss → IsTyped M locals [] (push_as_i64 ss) ins (OnStack (reverse (map (λ s. val.I64) ss) ++ ins))
  typed_as_i64 [] ins n l = typed_done
  typed_as_i64 (s ∷ ss) ins n l =
      typed_next (takes_local_get l.0) (typed_then (typed_bits_as_i64 s.1 ins n.0) (subst (λ ts. IsTyped M locals [] (push_as_i64 ss) (val.I64 ∷ ins) (OnStack ts)) (reverse_front val.I64 (map (λ s. val.I64) ss) ins) (typed_as_i64 ss (val.I64 ∷ ins) n.1 l.1)))

  typed_based : (memory64 : Bool) (base offset : ℕ) (ins : List ValType) → slice_get locals base ≡ Some (address_type memory64) → IsTyped M locals [] (based_code memory64 base offset) ins (OnStack (address_type memory64 ∷ ins))
  typed_based memory64 base zero ins l = typed_one (takes_local_get l)
  typed_based memory64 base (suc n) ins l = typed_next (takes_local_get l) (typed_next (takes_const memory64 (suc n)) (typed_one (takes_add memory64)))

  typed_to_slot : (f t : ValType) (ins : List ValType) → IsRoomFor f t → IsTyped M locals [] (to_slot f t) (f ∷ ins) (OnStack (t ∷ ins))
  typed_to_slot val.I32 val.I32 ins r = typed_done
  typed_to_slot val.I32 val.I64 ins r = typed_one (takes_plain o.I64ExtendI32U I.outs-I64ExtendI32U refl)
  typed_to_slot val.I64 val.I64 ins r = typed_done
  typed_to_slot val.F32 val.F32 ins r = typed_done
  typed_to_slot val.F32 val.I32 ins r = typed_one (takes_plain o.I32ReinterpretF32 I.outs-I32ReinterpretF32 refl)
  typed_to_slot val.F32 val.I64 ins r = typed_next (takes_plain o.I32ReinterpretF32 I.outs-I32ReinterpretF32 refl) (typed_one (takes_plain o.I64ExtendI32U I.outs-I64ExtendI32U refl))
  typed_to_slot val.F64 val.F64 ins r = typed_done
  typed_to_slot val.F64 val.I64 ins r = typed_one (takes_plain o.I64ReinterpretF64 I.outs-I64ReinterpretF64 refl)
  typed_to_slot _ _ ins r = absurd r

  typed_take : (fs : List ValType) (ss : List Slot) (ins : List ValType) → AreRoomFor fs ss → AreLocals locals ss → IsTyped M locals [] (take_code fs ss) (reverse fs ++ ins) (OnStack ins)
  typed_take [] [] ins r l = typed_done
  typed_take [] (s ∷ ss) ins r l = absurd r
  typed_take (g ∷ fs) [] ins r l = absurd r
  typed_take (g ∷ fs) (s ∷ ss) ins r l =
      subst (λ ts. IsTyped M locals [] (take_code fs ss ++ set_code g s) ts (OnStack ins)) (reverse_front g fs ins)
      (typed_then (typed_take fs ss (g ∷ ins) r.1 l.1) (typed_then (typed_to_slot g s.1 ins r.0) (typed_one (takes_local_set l.0))))

typed_from : (S : Setting) (from : From) (bytes : ℕ) (ins : List ValType) → IsCallSource S from bytes → IsTyped S.whole S.locals [] (push_from S.from64 from) ins (OnStack (reverse (params_of_source S.from64 from) ++ ins))
typed_from S (InLocals ss) bytes ins c = typed_as_i64 ss ins c.0 c.1
typed_from S (InMemory memory base offset) bytes ins c = typed_based S.from64 base offset ins c.0.local

typed_to : (S : Setting) (to : To) (bytes : ℕ) (flats ins : List ValType) → IsCallTarget S to bytes flats → IsTyped S.whole S.locals [] (push_to S.to64 to) ins (OnStack (reverse (params_of_target S.to64 to) ++ ins))
typed_to S (ToLocals ss) bytes flats ins c = typed_done
typed_to S (ToMemory memory base offset) bytes flats ins c = typed_based S.to64 base offset ins c.0.local

typed_given : (S : Setting) (to : To) (bytes : ℕ) (flats : List ValType) → IsCallTarget S to bytes flats → IsTyped S.whole S.locals [] (take_to flats to) (reverse (results_of_target flats to) ++ []) (OnStack [])
typed_given S (ToLocals ss) bytes flats c = typed_take flats ss [] c.0 c.2
typed_given S (ToMemory memory base offset) bytes flats c = typed_done

typed_call : (S : Setting) (from : From) (to : To) (from_bytes to_bytes : ℕ) (t u : Shape) (flats : List ValType) (number : ℕ)
    → IsHelper S.whole S.places S.from64 S.to64 from to from_bytes to_bytes flats number (move (transfer S) t u) → IsCallSource S from from_bytes → IsCallTarget S to to_bytes flats
    → IsTyped S.whole S.locals [] (CallCode S from to flats number) [] (OnStack [])
typed_call S from to from_bytes to_bytes t u flats number h cs ct =
    let ty : FuncType = record { params = params_of_source S.from64 from ++ params_of_target S.to64 to; results = results_of_target flats to } in
    let type_is : function_type S.whole (Defined number) ≡ Some ty = ap (λ x. option_and_then (λ (f : WasmFunc). slice_get S.whole.types f.ty) x) h.there ∙ h.typed in
    let e : reverse (params_of_target S.to64 to) ++ (reverse (params_of_source S.from64 from) ++ []) ≡ reverse (params_of_source S.from64 from ++ params_of_target S.to64 to) ++ [] =
    sym (ap (λ l. l ++ []) (reverse-append (params_of_source S.from64 from) (params_of_target S.to64 to)) ∙ append_assoc (reverse (params_of_target S.to64 to)) (reverse (params_of_source S.from64 from)) []) in
    let pushed : IsTyped S.whole S.locals [] (push_from S.from64 from ++ push_to S.to64 to) [] (OnStack (reverse ty.params ++ [])) =
    subst (λ ts. IsTyped S.whole S.locals [] (push_from S.from64 from ++ push_to S.to64 to) [] (OnStack ts)) e (typed_then (typed_from S from from_bytes [] cs) (typed_to S to to_bytes flats (reverse (params_of_source S.from64 from) ++ []) ct)) in
    typed_then pushed (typed_next (takes_call [] (Defined number) ty type_is) (typed_given S to to_bytes flats ct))

pub helper_calls_move : HelperCallsMove
helper_calls_move S used from to from_bytes to_bytes t u flats number h cs ct fill count = record {
  effect = λ ls s d types st go r. effect S used from to from_bytes to_bytes t u flats number h cs ct fill count ls s d st go r;
  typed = typed_call S from to from_bytes to_bytes t u flats number h cs ct;
}

-- ---- the body of a helper

-- what is given is given on
given_on : {A : Type 0} {M : WasmModule} {p : ImportPlaces} {extra spare : ℕ} {ins : List CoreValue} {ls : Locals} {code : List Instr} {q : Action A} {out : A → List CoreValue} {Holds : A → Locals → Type 0}
    → Does M p Onward extra spare ins ls code (q >>= (λ a. Give a)) out Holds → Does M p Onward extra spare ins ls code q out Holds
given_on {M = M} {p} {extra} {spare} {ins} {ls} {code} {q} {out} {Holds} d = record {
  by = λ w. record { by = λ ty below. subst (EndsOn M p Onward extra spare w (ins ++ below) ls code below out Holds) (binds_run p q (λ a. Give a) w ∙ then_given (run p q w)) ((d.by w).by ty below) };
}

pushes_held : {M : WasmModule} {ls : Locals} (ss : List Slot) (vs : List CoreValue) → AreHeld ls ss vs → PushesAll M ls (length ss) (get_code ss) vs
pushes_held [] [] h = record { steps = 0; few = omega arith; leaves = λ w below. leaves_none }
pushes_held [] (v ∷ vs) h = absurd h
pushes_held (s ∷ ss) [] h = absurd h
pushes_held {M} {ls} (s ∷ ss) (v ∷ vs) h =
    let rest : PushesAll M ls (length ss) (get_code ss) vs = pushes_held {M = M} {ls = ls} ss vs h.1 in
    record {
      steps = suc rest.steps;
      few = omega (arith, rest.few);
      leaves = λ w below. leaves_next (leaves_local_get h.0.there) (leaves_as (ap (λ us. Falls w us ls) (reverse_front v vs below)) (rest.leaves w (v ∷ below)));
    }

held_values : (ls : Locals) (ss : List Slot) (vs : List CoreValue) → AreHeld ls ss vs → AreValues vs (map (λ s. s.1) ss)
held_values ls [] [] h = tt
held_values ls [] (v ∷ vs) h = absurd h
held_values ls (s ∷ ss) [] h = absurd h
held_values ls (s ∷ ss) (v ∷ vs) h = (h.0.value, held_values ls ss vs h.1)

pub helper_bodies_move : HelperBodiesMove
helper_bodies_move S used from (ToLocals ss) t u flats code ls s (Into a) m few e = absurd e.goes
helper_bodies_move S used from (ToMemory memory base offset) t u flats code ls s (Slots ts) m few e = absurd e.goes
helper_bodies_move S used from (ToLocals ss) t u flats code ls s (Slots ts) m few e =
    given_on (within (omega (arith, few.1)) (in_turn {out = reverse} {Holds = λ vs ls'. AreValues vs flats} (m.effect ls (source_as_i64 s) (Slots flats) e.types e.stands e.goes e.rooms) (λ vs ls' k.
    let pushed : PushesAll S.whole ls' (length ss) (get_code ss) vs = pushes_held {M = S.whole} {ls = ls'} ss vs k.0 in
    let result : Does S.whole S.places Onward (pushed.steps + 0) 0 [] ls' (get_code ss ++ []) (Give vs) reverse (λ us ls1. AreValues us flats) =
    stretch {t = pushed.steps} (λ w below. pushed.leaves w below) (done refl (subst (AreValues vs) few.0 (held_values ls' ss vs k.0))) in
    subst (λ c. Does S.whole S.places Onward (length ss) 0 [] ls' c (Give vs) reverse (λ us ls1. AreValues us flats)) (append-nil (get_code ss)) (within (omega (arith, pushed.few)) result))))
helper_bodies_move S used from (ToMemory memory base offset) t u flats code ls s (Into a) m few e =
    subst (λ c. Does S.whole S.places Onward 0 484 [] ls c (move (transfer S) t u (source_as_i64 s) (Into a)) (λ vs. []) (λ vs ls'. vs ≡ [])) (sym (append-nil code))
    (within (omega arith) (weaker (λ vs. refl) (λ vs ls' k. k.0) (m.effect ls (source_as_i64 s) (Into a) e.types e.stands e.goes e.rooms)))
