-- Slots whose locals have the numbers from one on: their types, that they are in use and distinct, and what they hold.
use Rattle.std.proofs.Common.{◌≡◌, ℕ, zero, suc, ◌+◌, ◌-◌, ◌<◌, Bool, true, List, [], ◌∷◌, ◌++◌, Option, Some, None, refl, sym, ap, ◌∙◌, arith, append-nil, length, map, take, slice_get}
use Rattle.std.specs.Prelude.{is_some, replicate}
use Rattle.std.proofs.lemmas.Bool.{ne_eqb}
use Rattle.std.proofs.lemmas.List.{length-append, map-append}
use Rattle.fact_wasm.specs.declared.types.ValType.{ValType}
use Rattle.fact_wasm.specs.declared.types.ValType.TheVariants as val
use Rattle.fact_types.specs.Signatures.{unless_flat}
use Rattle.fact_machine.specs.Machine.{has_type, type_of, some_of, several, zero_of, locals_of}
use Rattle.fact_machine.specs.Typed.{is_value, are_values}
use Rattle.fact_machine.specs.Typing.{local_types}
use Rattle.fact_machine.proofs.Tests.{first_of, second_of, get_append}
use Rattle.fact_machine.specs.declared.types.CoreValue.{CoreValue}
use Rattle.fact_machine.specs.declared.types.CoreValue.TheVariants as value
use Rattle.fact_code_laws.specs.Does.{Locals, held_type, held_types}
use Rattle.fact_code_laws.specs.Places.{Slot, AreHeld, AreLocals, AreUsed, IsNone}
use Rattle.fact_code_laws.proofs.Numbers.{value_type}
use Rattle.fact_emit.specs.Places.{AreDistinctSlots}
use Rattle.fact_emit.specs.Writers.{used_local_of}
use Rattle.fact_emit.specs.declared.writer.Local.{Local}
use Rattle.fact_emit.proofs.Locals.{get_map}
use Rattle.fact_compound.specs.Code.{slot_types}
use Rattle.fact_compound.specs.Functions.{slots_from, params_among}
use Rattle.fact_compound.proofs.LocalsAdded.{slots_append, types_from}

-- ---- what each of them is

next_place : (i n : ℕ) → i + suc n ≡ suc i + n
next_place i n = omega arith

pub same_place : (i : ℕ) → i + 0 ≡ i
same_place i = omega arith

first_place : (n : ℕ) → n ≡ 0 + n
first_place n = omega arith

pub locals_from : (locals : List ValType) (n : ℕ) (ts : List ValType) → ((i : ℕ) (t : ValType) → slice_get ts i ≡ Some t → slice_get locals (i + n) ≡ Some t) → AreLocals locals (slots_from n ts)
locals_from locals n [] f = tt
locals_from locals n (t ∷ ts) f = (ap (slice_get locals) (first_place n) ∙ f 0 t refl, locals_from locals (suc n) ts (λ i u e. ap (slice_get locals) (next_place i n) ∙ f (suc i) u e))

pub used_from : (used : ℕ → Bool) (n : ℕ) (ts : List ValType) → ((i : ℕ) (t : ValType) → slice_get ts i ≡ Some t → used (i + n) ≡ true) → AreUsed used (slots_from n ts)
used_from used n [] f = tt
used_from used n (t ∷ ts) f = (ap used (first_place n) ∙ f 0 t refl, used_from used (suc n) ts (λ i u e. ap used (next_place i n) ∙ f (suc i) u e))

none_from : (i n : ℕ) (ts : List ValType) → i < n → IsNone i (slots_from n ts)
none_from i n [] lt = tt
none_from i n (t ∷ ts) lt = (ne_eqb i n (λ e. omega (arith, e, lt)), none_from i (suc n) ts (omega (arith, lt)))

pub distinct_from : (n : ℕ) (ts : List ValType) → AreDistinctSlots (slots_from n ts)
distinct_from n [] = tt
distinct_from n (t ∷ ts) = (none_from n (suc n) ts (omega arith), distinct_from (suc n) ts)

pub held_from : (ls : Locals) (n : ℕ) (ts : List ValType) (vs : List CoreValue) → are_values vs ts ≡ true → ((i : ℕ) (v : CoreValue) → slice_get vs i ≡ Some v → slice_get ls (i + n) ≡ Some (Some v)) → AreHeld ls (slots_from n ts) vs
held_from ls n [] [] h f = tt
held_from ls n [] (v ∷ vs) h f = cc
held_from ls n (t ∷ ts) [] h f = cc
held_from ls n (t ∷ ts) (v ∷ vs) h f =
    (record { there = ap (slice_get ls) (first_place n) ∙ f 0 v refl; value = first_of (is_value v t) (are_values vs ts) h }, held_from ls (suc n) ts vs (second_of (is_value v t) (are_values vs ts) h) (λ i u e. ap (slice_get ls) (next_place i n) ∙ f (suc i) u e))

-- the types of locals in use
pub used_types : (ts : List ValType) → map (λ (l : Local). l.ty) (map used_local_of ts) ≡ ts
used_types [] = refl
used_types (t ∷ ts) = ap (λ us. t ∷ us) (used_types ts)

-- ---- the locals of a function at its start

has_its_type : (v : CoreValue) (t : ValType) → has_type v t ≡ true → type_of v ≡ t
has_its_type (value.I32 n) val.I32 h = refl
has_its_type (value.I64 n) val.I64 h = refl
has_its_type (value.F32 n) val.F32 h = refl
has_its_type (value.F64 n) val.F64 h = refl
has_its_type (value.Func f) val.FuncRef h = refl
has_its_type (value.I32 n) _ h = cc
has_its_type (value.I64 n) _ h = cc
has_its_type (value.F32 n) _ h = cc
has_its_type (value.F64 n) _ h = cc
has_its_type (value.Func f) _ h = cc

held_args : (vs : List CoreValue) (ts : List ValType) → are_values vs ts ≡ true → held_types (map some_of vs) ≡ ts
held_args [] [] h = refl
held_args [] (t ∷ ts) h = cc
held_args (v ∷ vs) [] h = cc
held_args (v ∷ vs) (t ∷ ts) h =
    let here : type_of v ≡ t = has_its_type v t (value_type v t (first_of (is_value v t) (are_values vs ts) h)) in
    λ i. here i ∷ held_args vs ts (second_of (is_value v t) (are_values vs ts) h) i

zero_type : (t : ValType) → held_type (zero_of t) ≡ t
zero_type val.I32 = refl
zero_type val.I64 = refl
zero_type val.F32 = refl
zero_type val.F64 = refl
zero_type val.FuncRef = refl

held_several : (n : ℕ) (t : ValType) → held_types (several n (zero_of t) []) ≡ replicate n t
held_several zero t = refl
held_several (suc n) t = λ i. zero_type t i ∷ held_several n t i

held_declared : (runs : List (ℕ × ValType)) → held_types (locals_of runs) ≡ local_types runs
held_declared [] = refl
held_declared (r ∷ runs) = map-append held_type (several r.0 (zero_of r.1) []) (locals_of runs) ∙ (λ i. held_several r.0 r.1 i ++ held_declared runs i)

pub held_entry : (vs : List CoreValue) (ts : List ValType) (runs : List (ℕ × ValType)) → are_values vs ts ≡ true → held_types (map some_of vs ++ locals_of runs) ≡ ts ++ local_types runs
held_entry vs ts runs h = map-append held_type (map some_of vs) (locals_of runs) ∙ (λ i. held_args vs ts h i ++ held_declared runs i)

pub args_held : (vs : List CoreValue) (ts : List ValType) (more : Locals) → are_values vs ts ≡ true → AreHeld (map some_of vs ++ more) (slots_from 0 ts) vs
args_held vs ts more h = held_from (map some_of vs ++ more) 0 ts vs h (λ i v e. ap (slice_get (map some_of vs ++ more)) (same_place i) ∙ get_append (map some_of vs) more i (Some v) (get_map some_of vs i v e))

-- ---- the return pointer

pub take_long : (xs ys : List Slot) → take (length xs) (xs ++ ys) ≡ xs
take_long [] ys = refl
take_long (x ∷ xs) ys = ap (λ zs. x ∷ zs) (take_long xs ys)

last_off : (xs : List Slot) (x : Slot) → take (length (xs ++ x ∷ []) - 1) (xs ++ x ∷ []) ≡ xs
last_off xs x =
    let long : length (xs ++ x ∷ []) - 1 ≡ length xs = omega (arith, length-append xs (x ∷ [])) in
    ap (λ n. take n (xs ++ x ∷ [])) long ∙ take_long xs (x ∷ [])

-- arguments that are parameters and a return pointer where results are not flat
pub record IsSplit (flats : Option (List ValType)) (pointer : ValType) (types : List ValType) (args params : List Slot) : Type 0 where
  pub rest : List Slot
  pub args_are : args ≡ params ++ rest
  pub params_types : slot_types params ≡ types
  pub rest_types : slot_types rest ≡ unless_flat (pointer ∷ []) flats

pub split : (flats : Option (List ValType)) (pointer : ValType) (types : List ValType) (args params : List Slot) → args ≡ slots_from 0 (types ++ unless_flat (pointer ∷ []) flats) → params ≡ params_among (is_some flats) args → IsSplit flats pointer types args params
split (Some fs) pointer types args params e f = record {
  rest = [];
  args_are = sym f ∙ sym (append-nil params);
  params_types = ap slot_types (f ∙ e) ∙ types_from 0 (types ++ []) ∙ append-nil types;
  rest_types = refl;
}
split None pointer types args params e f =
    let both : args ≡ slots_from 0 types ++ (length types + 0, pointer) ∷ [] = e ∙ slots_append 0 types (pointer ∷ []) in
    let front : params ≡ slots_from 0 types = f ∙ ap (λ ss. take (length ss - 1) ss) both ∙ last_off (slots_from 0 types) (length types + 0, pointer) in
    record {
      rest = (length types + 0, pointer) ∷ [];
      args_are = both ∙ ap (λ ss. ss ++ (length types + 0, pointer) ∷ []) (sym front);
      params_types = ap slot_types front ∙ types_from 0 types;
      rest_types = refl;
    }
