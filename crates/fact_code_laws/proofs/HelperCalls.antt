-- The effect of a call of a helper.
use Rattle.std.proofs.Common.{◌≡◌, ℕ, suc, ◌+◌, ◌*◌, ◌≤◌, ◌<◌, ◌^◌, Bool, true, false, List, [], ◌∷◌, ◌++◌, map, length, Some, refl, sym, ap, ◌∙◌, subst, arith, append_assoc, reverse, slice_get}
use Rattle.std.specs.List.{AllByRecursion}
use Rattle.std.proofs.lemmas.Bool.{ltb-true, lt-ltb}
use Rattle.std.proofs.lemmas.List.{reverse-append}
use Rattle.fact_wasm.specs.declared.types.ValType.{ValType}
use Rattle.fact_wasm.specs.declared.types.ValType.TheVariants as val
use Rattle.fact_wasm.specs.declared.instr.Instr.{Instr}
use Rattle.fact_wasm.specs.declared.instr.Instr.TheVariants as I
use Rattle.fact_wasm.specs.declared.module.WasmModule.{WasmModule}
use Rattle.fact_machine.specs.declared.types.CoreValue.{CoreValue}
use Rattle.fact_machine.specs.declared.types.CoreValue.TheVariants.{I32, I64, F32, F64}
use Rattle.fact_machine.specs.Exits.{Falls, Leaves, Calls, entry_locals}
use Rattle.fact_machine.specs.Machine.{has_type, have_types}
use Rattle.fact_machine.specs.Typed.{is_bits, is_value}
use Rattle.fact_machine.specs.Typing.{is_number}
use Rattle.fact_machine.specs.World.{World}
use Rattle.fact_machine.proofs.Tests.{second_of}
use Rattle.fact_machine.proofs.Laws.{leaves_none, leaves_next, leaves_then, leaves_as}
use Rattle.fact_machine.proofs.NumericLaws.{leaves_i64_extend_i32_u, leaves_i32_reinterpret_f32, leaves_i64_reinterpret_f64}
use Rattle.fact_machine.proofs.RowLaws.{leaves_local_get}
use Rattle.fact_values.specs.Lift.{bits_of}
use Rattle.fact_wasm.specs.declared.instr.FuncName.TheVariants.{Defined}
use Rattle.fact_wasm.specs.declared.module.WasmFunc.{WasmFunc}
use Rattle.fact_wasm.specs.declared.types.FuncType.{FuncType}
use Rattle.fact_actions.specs.Actions.{Action, Give, ◌>>=◌}
use Rattle.fact_actions.specs.Alike.{as_i64}
use Rattle.fact_actions.proofs.AlikeRuns.{EndsAlike}
use Rattle.fact_actions.specs.Running.{ImportPlaces, Ended, Gave, Halted, Strayed, run}
use Rattle.fact_actions.specs.Sides.{core_value}
use Rattle.fact_code_laws.specs.Does.{Locals, held_types, Onward, Way, exit, Does, EndsOn}
use Rattle.fact_code_laws.specs.Helpers.{bits_as_i64, push_as_i64, to_slot, set_code, take_code, IsRoomFor, AreRoomFor, AreValues, AreNumberSlots}
use Rattle.fact_code_laws.specs.Places.{Slot, AreHeld, AreFree, AreDistinctSlots, KeepsLocals, IsNone}
use Rattle.fact_code_laws.proofs.Blocks.{weaker}
use Rattle.fact_code_laws.proofs.Functions.{calls_helper}
use Rattle.fact_code_laws.proofs.FieldMoves.{with_slots, slots_other, slots_here}
use Rattle.fact_code_laws.proofs.Keeping.{keeps_all, keeps_then, held_kept}
use Rattle.fact_code_laws.proofs.Numbers.{value_type, set_keeps}
use Rattle.fact_code_laws.proofs.Rules.{within, stretch, framed, in_turn, local_set, done}

-- ---- what a helper takes

-- a value is one by bits of its type
value_in_range : (v : CoreValue) (t : ValType) → is_value v t ≡ true → is_bits v ≡ true
value_in_range v t h = second_of (has_type v t) (is_bits v) h

pub values_in_range : (ls : Locals) (ss : List Slot) (vs : List CoreValue) → AreHeld ls ss vs → AllByRecursion (λ v. is_bits v ≡ true) vs
values_in_range ls [] [] h = tt
values_in_range ls [] (v ∷ vs) h = absurd h
values_in_range ls (s ∷ ss) [] h = absurd h
values_in_range ls (s ∷ ss) (v ∷ vs) h = (value_in_range v s.1 h.0.value, values_in_range ls ss vs h.1)

-- code that makes one value of another in at most two steps
pub record Makes (M : WasmModule) (ls : Locals) (code : List Instr) (u v : CoreValue) : Type 0 where
  pub steps : ℕ
  pub few : steps ≤ 2
  pub leaves : (w : World) (vs : List CoreValue) → Leaves M steps code w (u ∷ vs) ls (Falls w (v ∷ vs) ls)

-- code that pushes values, the last on top, in at most so many steps
pub record PushesAll (M : WasmModule) (ls : Locals) (most : ℕ) (code : List Instr) (vs : List CoreValue) : Type 0 where
  pub steps : ℕ
  pub few : steps ≤ most
  pub leaves : (w : World) (below : List CoreValue) → Leaves M steps code w below ls (Falls w (reverse vs ++ below) ls)

pub reverse_front : {X : Type 0} (x : X) (xs below : List X) → reverse xs ++ (x ∷ below) ≡ reverse (x ∷ xs) ++ below
reverse_front x xs below = sym (ap (λ l. l ++ below) (reverse-append (x ∷ []) xs) ∙ append_assoc (reverse xs) (x ∷ []) below)

module _ {M : WasmModule} {ls : Locals} where
  makes_i64 : (t : ValType) (v : CoreValue) → is_number t ≡ true → has_type v t ≡ true → Makes M ls (bits_as_i64 t) v (as_i64 v)
  makes_i64 val.I32 (I32 n) h e = record { steps = 1; few = omega arith; leaves = λ w vs. leaves_i64_extend_i32_u }
  makes_i64 val.I64 (I64 n) h e = record { steps = 0; few = omega arith; leaves = λ w vs. leaves_none }
  makes_i64 val.F32 (F32 n) h e = record { steps = 2; few = omega arith; leaves = λ w vs. leaves_next leaves_i32_reinterpret_f32 leaves_i64_extend_i32_u }
  makes_i64 val.F64 (F64 n) h e = record { steps = 1; few = omega arith; leaves = λ w vs. leaves_i64_reinterpret_f64 }
  makes_i64 _ _ h e = cc

  pub pushes_as_i64 : (ss : List Slot) (vs : List CoreValue) → AreNumberSlots ss → AreHeld ls ss vs → PushesAll M ls (3 * length ss) (push_as_i64 ss) (map as_i64 vs)
  pushes_as_i64 [] [] n h = record { steps = 0; few = omega arith; leaves = λ w below. leaves_none }
  pushes_as_i64 [] (v ∷ vs) n h = absurd h
  pushes_as_i64 (s ∷ ss) [] n h = absurd h
  pushes_as_i64 (s ∷ ss) (v ∷ vs) n h =
      let one = makes_i64 s.1 v n.0 (value_type v s.1 h.0.value) in
      let rest = pushes_as_i64 ss vs n.1 h.1 in
      record {
        steps = suc (one.steps + rest.steps);
        few = omega (arith, one.few, rest.few);
        leaves = λ w below. leaves_next (leaves_local_get h.0.there) (leaves_then (one.leaves w below) (leaves_as (ap (λ us. Falls w us ls) (reverse_front (as_i64 v) (map as_i64 vs) below)) (rest.leaves w (as_i64 v ∷ below))));
      }

-- ---- what it gives

module _ {M : WasmModule} {ls : Locals} where
  retypes : (f t : ValType) (v : CoreValue) → IsRoomFor f t → has_type v f ≡ true → Makes M ls (to_slot f t) v (core_value t (bits_of v))
  retypes val.I32 val.I32 (I32 n) h e = record { steps = 0; few = omega arith; leaves = λ w vs. leaves_none }
  retypes val.I32 val.I32 _ h e = cc
  retypes val.I32 val.I64 (I32 n) h e = record { steps = 1; few = omega arith; leaves = λ w vs. leaves_i64_extend_i32_u }
  retypes val.I32 val.I64 _ h e = cc
  retypes val.I32 val.F32 v h e = absurd h
  retypes val.I32 val.F64 v h e = absurd h
  retypes val.I32 val.FuncRef v h e = absurd h
  retypes val.I64 val.I32 v h e = absurd h
  retypes val.I64 val.I64 (I64 n) h e = record { steps = 0; few = omega arith; leaves = λ w vs. leaves_none }
  retypes val.I64 val.I64 _ h e = cc
  retypes val.I64 val.F32 v h e = absurd h
  retypes val.I64 val.F64 v h e = absurd h
  retypes val.I64 val.FuncRef v h e = absurd h
  retypes val.F32 val.I32 (F32 n) h e = record { steps = 1; few = omega arith; leaves = λ w vs. leaves_i32_reinterpret_f32 }
  retypes val.F32 val.I32 _ h e = cc
  retypes val.F32 val.I64 (F32 n) h e = record { steps = 2; few = omega arith; leaves = λ w vs. leaves_next leaves_i32_reinterpret_f32 leaves_i64_extend_i32_u }
  retypes val.F32 val.I64 _ h e = cc
  retypes val.F32 val.F32 (F32 n) h e = record { steps = 0; few = omega arith; leaves = λ w vs. leaves_none }
  retypes val.F32 val.F32 _ h e = cc
  retypes val.F32 val.F64 v h e = absurd h
  retypes val.F32 val.FuncRef v h e = absurd h
  retypes val.F64 val.I32 v h e = absurd h
  retypes val.F64 val.I64 (F64 n) h e = record { steps = 1; few = omega arith; leaves = λ w vs. leaves_i64_reinterpret_f64 }
  retypes val.F64 val.I64 _ h e = cc
  retypes val.F64 val.F32 v h e = absurd h
  retypes val.F64 val.F64 (F64 n) h e = record { steps = 0; few = omega arith; leaves = λ w vs. leaves_none }
  retypes val.F64 val.F64 _ h e = cc
  retypes val.F64 val.FuncRef v h e = absurd h
  retypes val.FuncRef val.I32 v h e = absurd h
  retypes val.FuncRef val.I64 v h e = absurd h
  retypes val.FuncRef val.F32 v h e = absurd h
  retypes val.FuncRef val.F64 v h e = absurd h
  retypes val.FuncRef val.FuncRef v h e = absurd h

pub room_number : (f t : ValType) → IsRoomFor f t → is_number t ≡ true
room_number val.I32 val.I32 h = refl
room_number val.I32 val.I64 h = refl
room_number val.I64 val.I64 h = refl
room_number val.F32 val.F32 h = refl
room_number val.F32 val.I32 h = refl
room_number val.F32 val.I64 h = refl
room_number val.F64 val.F64 h = refl
room_number val.F64 val.I64 h = refl
room_number _ _ h = absurd h

-- it is one of the slot's type
retyped_value : (f t : ValType) (v : CoreValue) → IsRoomFor f t → is_value v f ≡ true → is_value (core_value t (bits_of v)) t ≡ true
retyped_value val.I32 val.I32 (I32 n) h e = e
retyped_value val.I32 val.I32 _ h e = cc
retyped_value val.I32 val.I64 (I32 n) h e = let lt : n < 2 ^ 32 = ltb-true n (2 ^ 32) e in lt-ltb n (2 ^ 64) (omega (arith, lt))
retyped_value val.I32 val.I64 _ h e = cc
retyped_value val.I32 val.F32 v h e = absurd h
retyped_value val.I32 val.F64 v h e = absurd h
retyped_value val.I32 val.FuncRef v h e = absurd h
retyped_value val.I64 val.I32 v h e = absurd h
retyped_value val.I64 val.I64 (I64 n) h e = e
retyped_value val.I64 val.I64 _ h e = cc
retyped_value val.I64 val.F32 v h e = absurd h
retyped_value val.I64 val.F64 v h e = absurd h
retyped_value val.I64 val.FuncRef v h e = absurd h
retyped_value val.F32 val.I32 (F32 n) h e = e
retyped_value val.F32 val.I32 _ h e = cc
retyped_value val.F32 val.I64 (F32 n) h e = let lt : n < 2 ^ 32 = ltb-true n (2 ^ 32) e in lt-ltb n (2 ^ 64) (omega (arith, lt))
retyped_value val.F32 val.I64 _ h e = cc
retyped_value val.F32 val.F32 (F32 n) h e = e
retyped_value val.F32 val.F32 _ h e = cc
retyped_value val.F32 val.F64 v h e = absurd h
retyped_value val.F32 val.FuncRef v h e = absurd h
retyped_value val.F64 val.I32 v h e = absurd h
retyped_value val.F64 val.I64 (F64 n) h e = e
retyped_value val.F64 val.I64 _ h e = cc
retyped_value val.F64 val.F32 v h e = absurd h
retyped_value val.F64 val.F64 (F64 n) h e = e
retyped_value val.F64 val.F64 _ h e = cc
retyped_value val.F64 val.FuncRef v h e = absurd h
retyped_value val.FuncRef val.I32 v h e = absurd h
retyped_value val.FuncRef val.I64 v h e = absurd h
retyped_value val.FuncRef val.F32 v h e = absurd h
retyped_value val.FuncRef val.F64 v h e = absurd h
retyped_value val.FuncRef val.FuncRef v h e = absurd h

-- A value of a flat type, on the stack, goes into its slot.
sets_one : {M : WasmModule} {p : ImportPlaces} (used : ℕ → Bool) (ls : Locals) (f : ValType) (s : Slot) (u : CoreValue) (ss : List Slot) (vs : List CoreValue) → IsRoomFor f s.1 → is_value u f ≡ true → IsNone s.0 ss
    → slice_get (held_types ls) s.0 ≡ Some s.1 → used s.0 ≡ false → AreHeld ls ss vs
    → Does M p Onward 3 0 (u ∷ []) ls (set_code f s) (Give (core_value s.1 (bits_of u) ∷ vs)) (λ us. []) (λ us ls'. AreHeld ls' (s ∷ ss) us × KeepsLocals used ls ls')
sets_one {M} {p} used ls f s u ss vs r e none there free held =
    let made = retypes {M = M} {ls = ls} f s.1 u r (value_type u f e) in
    let value : is_value (core_value s.1 (bits_of u)) s.1 ≡ true = retyped_value f s.1 u r e in
    within (omega (arith, made.few)) (stretch {a = to_slot f s.1} {t = made.steps} (λ w below. made.leaves w below)
    (local_set s.1 there (value_type (core_value s.1 (bits_of u)) s.1 value) (λ ls' set.
    let more : KeepsLocals (with_slots used ss) ls ls' = set_keeps (slots_other used ss s.0 none free) set in
    done refl ((record { there = set.here; value = value }, held_kept more ss vs (slots_here used ss) held), set_keeps free set))))

-- the same numbers as values of the slots' types
abbrev pub retyped : List Slot → List CoreValue → List CoreValue
retyped (s ∷ ss) (v ∷ vs) = core_value s.1 (bits_of v) ∷ retyped ss vs
retyped _ _ = []

-- Values of flat types go from the stack into their slots.
takes_all : {M : WasmModule} {p : ImportPlaces} (used : ℕ → Bool) (ls : Locals) (fs : List ValType) (ss : List Slot) (us : List CoreValue) (ts : List ValType) → AreRoomFor fs ss → AreValues us fs → AreDistinctSlots ss → AreFree used ls ss ts
    → Does M p Onward (3 * length ss) 0 (reverse us) ls (take_code fs ss) (Give (retyped ss us)) (λ vs. []) (λ vs ls'. AreHeld ls' ss vs × KeepsLocals used ls ls')
takes_all used ls [] [] [] ts r v d f = within (omega arith) (done refl (tt, keeps_all))
takes_all used ls [] [] (u ∷ us) ts r v d f = absurd v
takes_all used ls [] (s ∷ ss) us ts r v d f = absurd r
takes_all used ls (g ∷ fs) [] us ts r v d f = absurd r
takes_all used ls (g ∷ fs) (s ∷ ss) [] ts r v d f = absurd v
takes_all used ls (g ∷ fs) (s ∷ ss) (u ∷ us) [] r v d f = absurd f
takes_all {M} {p} used ls (g ∷ fs) (s ∷ ss) (u ∷ us) (t ∷ ts) r v d f =
    let le : 3 * length ss + 3 + 0 ≤ 3 * suc (length ss) + 0 = omega arith in
    let first : Does M p Onward (3 * length ss) 0 (reverse us ++ u ∷ []) ls (take_code fs ss) (Give (retyped ss us)) (λ vs. u ∷ []) (λ vs ls'. AreHeld ls' ss vs × KeepsLocals used ls ls') =
    framed (u ∷ []) (takes_all used ls fs ss us ts r.1 v.1 d.1 f.3) in
    let both : Does M p Onward (3 * length ss + 3) 0 (reverse us ++ u ∷ []) ls (take_code fs ss ++ set_code g s) (Give (core_value s.1 (bits_of u) ∷ retyped ss us)) (λ vs. []) (λ vs ls'. AreHeld ls' (s ∷ ss) vs × KeepsLocals used ls ls') =
    in_turn first (λ vs ls1 h.
    let at : slice_get (held_types ls1) s.0 ≡ Some s.1 = ap (λ l. slice_get l s.0) h.1.types ∙ f.1 ∙ ap (λ x. Some x) (sym f.0) in
    weaker (λ us. refl) (λ us ls2 k. (k.0, keeps_then h.1 k.1)) (sets_one used ls1 g s u ss vs r.0 v.0 d.0 at f.2 h.0)) in
    within le (subst (λ vs. Does M p Onward (3 * length ss + 3) 0 vs ls (take_code fs ss ++ set_code g s) (Give (core_value s.1 (bits_of u) ∷ retyped ss us)) (λ vs. []) (λ vs ls'. AreHeld ls' (s ∷ ss) vs × KeepsLocals used ls ls')) (sym (reverse-append (u ∷ []) us)) both)

-- ---- the call

-- Code that pushes arguments and calls a function, whose body does an action and spares 500 of the steps of its weight: the call does it, and spares so
-- many less.
pub calls_pushed : {A : Type 0} {M : WasmModule} {p : ImportPlaces} {f : ℕ} {args : List CoreValue} {func : WasmFunc} {ty : FuncType} {ls : Locals} {out : A → List CoreValue} {Holds : A → Locals → Type 0} {q : Action A} {pushed : List Instr} {most spare : ℕ}
    → PushesAll M ls most pushed args → Calls M f args func ty → ((a : A) (ls' : Locals) → Holds a ls' → have_types (reverse (out a)) ty.results ≡ true)
    → Does M p Onward 0 (most + spare + 1) [] (entry_locals func args) func.body q out Holds
    → Does M p Onward 0 spare [] ls (pushed ++ I.Call (Defined f) ∷ []) q out (λ a ls'. (ls' ≡ ls) × ((inner : Locals) × Holds a inner))
calls_pushed {most = most} {spare} l h typed d = within (omega (arith, l.few)) (stretch {t = l.steps} (λ w below. l.leaves w below) (calls_helper h typed d))

-- ---- actions whose runs are alike

ends_alike : {A B : Type 0} {M : WasmModule} {p : ImportPlaces} {way : Way} {extra spare : ℕ} {w : World} {vs below : List CoreValue} {ls : Locals} {code : List Instr} {R : A → B → Type 0} {out : A → List CoreValue} {out' : B → List CoreValue}
    {Holds : A → Locals → Type 0} {Holds' : B → Locals → Type 0} (e : Ended A) (f : Ended B) → EndsAlike R e f → ((a : A) (b : B) → R a b → out a ≡ out' b) → ((a : A) (b : B) (ls' : Locals) → R a b → Holds' b ls' → Holds a ls')
    → EndsOn M p way extra spare w vs ls code below out' Holds' f → EndsOn M p way extra spare w vs ls code below out Holds e
ends_alike {M = M} {p} {way} {extra} {spare} {w} {vs} {below} {ls} {code} {R} {out} {out'} {Holds} {Holds'} (Gave n cs a w1) (Gave m ds b w2) h o k d =
    subst (λ x. EndsOn M p way extra spare w vs ls code below out Holds (Gave n cs a x)) (sym h.by.3) (subst (λ i. EndsOn M p way extra spare w vs ls code below out Holds (Gave i cs a w2)) (sym h.by.0) (record {
      by = record {
        steps = d.by.steps;
        locals = d.by.locals;
        under = d.by.under;
        holds = k a b d.by.locals h.by.2 d.by.holds;
        typed = d.by.typed;
        bound = d.by.bound;
        leaves = leaves_as (ap (λ us. exit way w2 us below d.by.under d.by.locals) (sym (o a b h.by.2))) d.by.leaves;
      };
    }))
ends_alike {M = M} {p} {way} {extra} {spare} {w} {vs} {below} {ls} {code} {R} {out} {out'} {Holds} {Holds'} (Halted n cs s w1) (Halted m ds r w2) h o k d =
    subst (λ x. EndsOn M p way extra spare w vs ls code below out Holds (Halted n cs s x)) (sym h.by.3) (subst (λ i. EndsOn M p way extra spare w vs ls code below out Holds (Halted n cs i w2)) (sym h.by.2) (record { by = record { steps = d.by.steps; locals = d.by.locals; typed = d.by.typed; leaves = d.by.leaves } }))
ends_alike {M = M} {p} {way} {extra} {spare} {w} {vs} {below} {ls} {code} {R} {out} {out'} {Holds} {Holds'} (Strayed n cs w1) (Strayed m ds w2) h o k d =
    subst (λ x. EndsOn M p way extra spare w vs ls code below out Holds (Strayed n cs x)) (sym h.by.2) (record { by = d.by })
ends_alike (Gave n cs a w1) (Halted m ds r w2) h o k d = absurd h.by
ends_alike (Gave n cs a w1) (Strayed m ds w2) h o k d = absurd h.by
ends_alike (Halted n cs s w1) (Gave m ds b w2) h o k d = absurd h.by
ends_alike (Halted n cs s w1) (Strayed m ds w2) h o k d = absurd h.by
ends_alike (Strayed n cs w1) (Gave m ds b w2) h o k d = absurd h.by
ends_alike (Strayed n cs w1) (Halted m ds r w2) h o k d = absurd h.by

-- Code that does an action does any other one whose runs are alike.
pub does_alike : {A B : Type 0} {M : WasmModule} {p : ImportPlaces} {way : Way} {extra spare : ℕ} {ins : List CoreValue} {ls : Locals} {code : List Instr} {q : Action A} {r : Action B} {R : A → B → Type 0} {out : A → List CoreValue} {out' : B → List CoreValue}
    {Holds : A → Locals → Type 0} {Holds' : B → Locals → Type 0} → ((w : World) → EndsAlike R (run p q w) (run p r w)) → ((a : A) (b : B) → R a b → out a ≡ out' b) → ((a : A) (b : B) (ls' : Locals) → R a b → Holds' b ls' → Holds a ls')
    → Does M p way extra spare ins ls code r out' Holds' → Does M p way extra spare ins ls code q out Holds
does_alike {p = p} {q = q} {r} h o k d = record { by = λ w. record { by = λ ty below. ends_alike (run p q w) (run p r w) (h w) o k ((d.by w).by ty below) } }

-- A call that moves a value: the arguments are pushed, the function does the move into slots of the flat types, and what it gives goes into the slots.
pub calls_into_slots : {M : WasmModule} {p : ImportPlaces} {f most spare : ℕ} {args : List CoreValue} {func : WasmFunc} {ty : FuncType} {ls : Locals} {q : Action (List CoreValue)} {pushed : List Instr} (used : ℕ → Bool) (fs : List ValType) (ss : List Slot) (ts : List ValType)
    → AreRoomFor fs ss → AreDistinctSlots ss → AreFree used ls ss ts → PushesAll M ls most pushed args → Calls M f args func ty
    → ((vs : List CoreValue) → AreValues vs fs → have_types (reverse (reverse vs)) ty.results ≡ true)
    → Does M p Onward 0 (most + (3 * length ss + spare) + 1) [] (entry_locals func args) func.body q reverse (λ vs ls'. AreValues vs fs)
    → Does M p Onward 0 spare [] ls ((pushed ++ I.Call (Defined f) ∷ []) ++ take_code fs ss) (q >>= (λ vs. Give (retyped ss vs))) (λ vs. []) (λ vs ls'. AreHeld ls' ss vs × KeepsLocals used ls ls')
calls_into_slots {M} {p} {f} {most} {spare} {args} {func} {ty} {ls} {q} {pushed} used fs ss ts r d free l h typed does =
    let call : Does M p Onward 0 (3 * length ss + spare) [] ls (pushed ++ I.Call (Defined f) ∷ []) q reverse (λ vs ls'. (ls' ≡ ls) × ((inner : Locals) × AreValues vs fs)) =
    calls_pushed l h (λ vs ls' v. typed vs v) does in
    within (omega arith) (in_turn call (λ vs ls' k.
    subst (λ x. Does M p Onward (3 * length ss) 0 (reverse vs) x (take_code fs ss) (Give (retyped ss vs)) (λ us. []) (λ us ls1. AreHeld ls1 ss us × KeepsLocals used ls ls1)) (sym k.0) (takes_all used ls fs ss vs ts r k.1.1 d free)))
