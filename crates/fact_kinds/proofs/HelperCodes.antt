-- The code of a call of a helper, as loops write it.
use Rattle.std.proofs.Common.{◌≡◌, ℕ, zero, suc, ◌+◌, ◌<◌, ◌≤◌, Bool, true, false, nat_le, min, List, [], ◌∷◌, ◌++◌, length, drop, get_or, refl, sym, ap, ◌∙◌, subst, add-one, arith, append_assoc, append-nil}
use Rattle.std.specs.List.{filter_map}
use Rattle.std.proofs.lemmas.List.{drop_all}
use Rattle.std.proofs.lemmas.Bool.Decides.{nat_tests}
use Rattle.std.proofs.Math.Seq.{drop-cons}
use Rattle.fact_wasm.specs.declared.instr.Instr.{Instr, the_lemmas}
use Rattle.fact_wasm.specs.declared.instr.Instr.TheVariants as I
use Rattle.fact_wasm.specs.declared.instr.FuncName.TheVariants as func
use Rattle.fact_wasm.specs.declared.types.ValType.{ValType}
use Rattle.fact_wasm.specs.declared.types.ValType.TheVariants as val
use Rattle.fact_wasm.specs.Ranges.{Named, AreRanged, body_points}
use Rattle.fact_types.specs.declared.interface.InterfaceType.{InterfaceType}
use Rattle.fact_types.specs.Shapes.{Shape}
use Rattle.fact_types.specs.Tables.{Tables, HasShape}
use Rattle.fact_code_laws.specs.Places.{Slot, From, InLocals, InMemory, To, ToLocals, ToMemory}
use Rattle.fact_emit.specs.declared.places.LinearMemory.{LinearMemory}
use Rattle.fact_emit.specs.declared.places.Sides.{Sides}
use Rattle.fact_emit.specs.declared.places.TypedLocal.{TypedLocal}
use Rattle.fact_emit.specs.declared.writer.Writer.{Writer}
use Rattle.fact_emit.specs.NamedFunctions.{functions_named, name_at}
use Rattle.fact_emit.specs.Places.{slots_of_locals}
use Rattle.fact_emit.specs.Writers.{Wrote}
use Rattle.fact_emit.proofs.Emitting.{wrote_then, wrote_none}
use Rattle.fact_emit.proofs.NamedLaws.{points_append, ranged_append, ranged_none}
use Rattle.fact_code_laws.specs.Helpers.{based_code, bits_as_i64, helper_code, push_as_i64, push_from, push_to, set_code, take_code, take_to, to_slot}
use Rattle.fact_emit.specs.Asked.{flats_given}
use Rattle.fact_kinds.specs.Asks.{TookGiven, WroteCall}

-- The code of some locals was written, behind which that of those that are left is that of all.
pub record PushedSoFar (old new : Writer) (all left : List TypedLocal) : Type 0 where
  pub code : List Instr
  pub wrote : Wrote old new code
  pub rest : code ++ push_as_i64 (slots_of_locals left) ≡ push_as_i64 (slots_of_locals all)

pub pushed_begin : (w : Writer) (all : List TypedLocal) → PushedSoFar w w all (drop 0 all)
pushed_begin w all = record { code = []; wrote = wrote_none w; rest = refl }

pub pushed_step : (old now new : Writer) (all : List TypedLocal) (k : ℕ) (d : TypedLocal) → k < length all → PushedSoFar old now all (drop k all)
    → Wrote now new (I.LocalGet (get_or all k d).local ∷ bits_as_i64 (get_or all k d).ty) → PushedSoFar old new all (drop (k + 1) all)
pushed_step old now new all k d lt p w =
    let l = get_or all k d in
    let left : drop k all ≡ l ∷ drop (k + 1) all = drop-cons all k d lt ∙ ap (λ j. l ∷ drop j all) (sym (add-one k)) in
    let one = I.LocalGet l.local ∷ bits_as_i64 l.ty in
    record {
      code = p.code ++ one;
      wrote = wrote_then p.wrote w;
      rest = append_assoc p.code one (push_as_i64 (slots_of_locals (drop (k + 1) all))) ∙ ap (λ ls. p.code ++ push_as_i64 (slots_of_locals ls)) (sym left) ∙ p.rest;
    }

pub pushed_end : (old new : Writer) (all : List TypedLocal) (k : ℕ) → length all ≤ k → PushedSoFar old new all (drop k all) → Wrote old new (push_as_i64 (slots_of_locals all))
pushed_end old new all k ge p =
    subst (Wrote old new) (sym (append-nil p.code) ∙ ap (λ ls. p.code ++ push_as_i64 (slots_of_locals ls)) (sym (drop_all k all ge)) ∙ p.rest) p.wrote

-- The last values were taken off, down to a number of those that are left.
pub record TookDown (old new : Writer) (flats : List ValType) (locals : List TypedLocal) (left : ℕ) : Type 0 where
  pub wrote : Wrote old new (take_code (drop left flats) (slots_of_locals (drop left locals)))
  pub few_flats : left ≤ length flats
  pub few : left ≤ length locals

take_nothing : (flats : List ValType) → take_code flats [] ≡ []
take_nothing [] = refl
take_nothing (f ∷ fs) = refl

none_left : (flats : List ValType) (locals : List TypedLocal) (n : ℕ) → n ≡ min (length flats) (length locals) → take_code (drop n flats) (slots_of_locals (drop n locals)) ≡ []
none_left flats locals n is = go (nat_le (length flats) (length locals)) refl
  where
    go : (q : Bool) → nat_le (length flats) (length locals) ≡ q → take_code (drop n flats) (slots_of_locals (drop n locals)) ≡ []
    go true e = ap (λ fs. take_code fs (slots_of_locals (drop n locals))) (drop_all n flats (grind (arith, nat_tests, is, e)))
    go false e = ap (λ ls. take_code (drop n flats) (slots_of_locals ls)) (drop_all n locals (grind (arith, nat_tests, is, e))) ∙ take_nothing (drop n flats)

pub took_begin : (w : Writer) (flats : List ValType) (locals : List TypedLocal) (n : ℕ) → n ≡ min (length flats) (length locals) → TookDown w w flats locals n
took_begin w flats locals n is = record {
  wrote = subst (Wrote w w) (sym (none_left flats locals n is)) (wrote_none w);
  few_flats = omega (arith, is);
  few = omega (arith, is);
}

pub took_step : (old now new : Writer) (flats : List ValType) (locals : List TypedLocal) (n k : ℕ) (f : ValType) (d : TypedLocal) → k + 1 ≡ n
    → TookDown old now flats locals n → Wrote now new (set_code (get_or flats k f) ((get_or locals k d).local, (get_or locals k d).ty)) → TookDown old new flats locals k
took_step old now new flats locals n k f d next t w =
    let few : k < length locals = omega (arith, next, t.few) in
    let few_flats : k < length flats = omega (arith, next, t.few_flats) in
    let types : drop k flats ≡ get_or flats k f ∷ drop (k + 1) flats = drop-cons flats k f few_flats ∙ ap (λ j. get_or flats k f ∷ drop j flats) (sym (add-one k)) in
    let slots : drop k locals ≡ get_or locals k d ∷ drop (k + 1) locals = drop-cons locals k d few ∙ ap (λ j. get_or locals k d ∷ drop j locals) (sym (add-one k)) in
    let before : Wrote old now (take_code (drop (k + 1) flats) (slots_of_locals (drop (k + 1) locals))) = subst (λ j. Wrote old now (take_code (drop j flats) (slots_of_locals (drop j locals)))) (sym next) t.wrote in
    record {
      wrote =
          subst (λ fs. Wrote old new (take_code fs (slots_of_locals (drop k locals)))) (sym types)
          (subst (λ ls. Wrote old new (take_code (get_or flats k f ∷ drop (k + 1) flats) (slots_of_locals ls))) (sym slots) (wrote_then before w));
      few_flats = omega (arith, few_flats);
      few = omega (arith, few);
    }

-- ---- what is given, and the whole call

-- A target in slots gets what a helper gives.
pub took_given : {t : Tables} {m : LinearMemory} {to : InterfaceType} {dst : To} {a b : Writer} {flats : List ValType} (slots : List Slot) → dst ≡ ToLocals slots → ((u : Shape) → HasShape t to u → flats ≡ flats_given m.memory64 u)
    → Wrote a b (take_code flats slots) → TookGiven t m to dst a b
took_given {t} {m} {to} {dst} {a} {b} {flats} slots is given w = record {
  flats = flats;
  wrote = subst (λ d. Wrote a b (take_to flats d)) (sym is) w;
  given = λ u h. ap (λ fs. take_to fs dst) (given u h);
}

-- In memory it gives nothing.
pub took_none : {t : Tables} {m : LinearMemory} {to : InterfaceType} {dst : To} {a : Writer} (memory base offset : ℕ) → dst ≡ ToMemory memory base offset → TookGiven t m to dst a a
took_none {t} {m} {to} {dst} {a} memory base offset is = subst (λ d. TookGiven t m to d a a) (sym is) (record { flats = []; wrote = wrote_none a; given = λ u h. refl })

pub wrote_call : {t : Tables} {sides : Sides} {to : InterfaceType} {number : ℕ} {src : From} {dst : To} {a b c d e : Writer} → Wrote a b (push_from sides.from.memory64 src) → Wrote b c (push_to sides.to.memory64 dst)
    → Wrote c d (I.Call (func.Defined number) ∷ []) → TookGiven t sides.to to dst d e → WroteCall t sides to number src dst a e
wrote_call {sides = sides} {number = number} {src} {dst} {a} {e = e} x y z g =
    let front = push_from sides.from.memory64 src ++ push_to sides.to.memory64 dst in
    record {
      flats = g.flats;
      wrote = subst (Wrote a e) (append_assoc front (I.Call (func.Defined number) ∷ []) (take_to g.flats dst)) (wrote_then (wrote_then (wrote_then x y) z) g.wrote);
      given = λ u h. ap (λ xs. front ++ (I.Call (func.Defined number) ∷ xs)) (g.given u h);
    }

-- ---- what it names

bits_points : (t : ValType) → body_points (bits_as_i64 t) ≡ []
bits_points val.I32 = simp the_lemmas
bits_points val.I64 = refl
bits_points val.F32 = simp the_lemmas
bits_points val.F64 = simp the_lemmas
bits_points val.FuncRef = refl

none_then : (xs ys : List Instr) → body_points xs ≡ [] → body_points ys ≡ [] → body_points (xs ++ ys) ≡ []
none_then xs ys e f = points_append xs ys ∙ ap (λ ps. ps ++ body_points ys) e ∙ f

get_points : (i : ℕ) → body_points (I.LocalGet i ∷ []) ≡ []
get_points i = simp the_lemmas

set_points : (i : ℕ) → body_points (I.LocalSet i ∷ []) ≡ []
set_points i = simp the_lemmas

pushed_points : (ss : List Slot) → body_points (push_as_i64 ss) ≡ []
pushed_points [] = refl
pushed_points (s ∷ ss) = none_then (I.LocalGet s.0 ∷ []) (bits_as_i64 s.1 ++ push_as_i64 ss) (get_points s.0) (none_then (bits_as_i64 s.1) (push_as_i64 ss) (bits_points s.1) (pushed_points ss))

based_points : (memory64 : Bool) (base offset : ℕ) → body_points (based_code memory64 base offset) ≡ []
based_points memory64 base zero = get_points base
based_points true base (suc n) = simp the_lemmas
based_points false base (suc n) = simp the_lemmas

slot_points : (f t : ValType) → body_points (to_slot f t) ≡ []
slot_points val.I32 val.I64 = simp the_lemmas
slot_points val.F32 val.I32 = simp the_lemmas
slot_points val.F32 val.I64 = simp the_lemmas
slot_points val.F64 val.I64 = simp the_lemmas
slot_points _ _ = refl

taken_points : (fs : List ValType) (ss : List Slot) → body_points (take_code fs ss) ≡ []
taken_points [] ss = refl
taken_points (f ∷ fs) [] = refl
taken_points (f ∷ fs) (s ∷ ss) = none_then (take_code fs ss) (set_code f s) (taken_points fs ss) (none_then (to_slot f s.1) (I.LocalSet s.0 ∷ []) (slot_points f s.1) (set_points s.0))

from_points : (memory64 : Bool) (src : From) → body_points (push_from memory64 src) ≡ []
from_points memory64 (InLocals slots) = pushed_points slots
from_points memory64 (InMemory memory base offset) = based_points memory64 base offset

to_points : (memory64 : Bool) (dst : To) → body_points (push_to memory64 dst) ≡ []
to_points memory64 (ToLocals slots) = refl
to_points memory64 (ToMemory memory base offset) = based_points memory64 base offset

given_points : (flats : List ValType) (dst : To) → body_points (take_to flats dst) ≡ []
given_points flats (ToLocals slots) = taken_points flats slots
given_points flats (ToMemory memory base offset) = refl

front_points : (from64 to64 : Bool) (src : From) (dst : To) → body_points (push_from from64 src ++ push_to to64 dst) ≡ []
front_points from64 to64 src dst = none_then (push_from from64 src) (push_to to64 dst) (from_points from64 src) (to_points to64 dst)

call_points : (from64 to64 : Bool) (src : From) (dst : To) (flats : List ValType) (number : ℕ) → body_points (helper_code from64 to64 src dst flats number) ≡ Named (func.Defined number) ∷ []
call_points from64 to64 src dst flats number =
    let front = push_from from64 src ++ push_to to64 dst in
    let none : body_points front ≡ [] = front_points from64 to64 src dst in
    let call = I.Call (func.Defined number) ∷ [] in
    points_append front (I.Call (func.Defined number) ∷ take_to flats dst) ∙ (λ i. none i ++ points_append call (take_to flats dst) i) ∙ (λ i. alone i ++ given_points flats dst i)
  where
    alone : body_points (I.Call (func.Defined number) ∷ []) ≡ Named (func.Defined number) ∷ []
    alone = simp the_lemmas

-- A call names the helper's function alone, and is in range where that is.
pub call_named : (from64 to64 : Bool) (src : From) (dst : To) (flats : List ValType) (number : ℕ) → functions_named (helper_code from64 to64 src dst flats number) ≡ func.Defined number ∷ []
call_named from64 to64 src dst flats number = ap (filter_map name_at) (call_points from64 to64 src dst flats number)

pub call_ranged : (from64 to64 : Bool) (src : From) (dst : To) (flats : List ValType) (number : ℕ) → AreRanged 0 (suc number) (helper_code from64 to64 src dst flats number)
call_ranged from64 to64 src dst flats number =
    let front = push_from from64 src ++ push_to to64 dst in
    ranged_append 0 (suc number) front (I.Call (func.Defined number) ∷ take_to flats dst)
    (ranged_none 0 (suc number) front (front_points from64 to64 src dst)) (simp the_lemmas (omega arith, tt), ranged_none 0 (suc number) (take_to flats dst) (given_points flats dst))
