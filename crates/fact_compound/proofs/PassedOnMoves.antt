-- Parameters that are handed on as they are: their move gives just the arguments.
use Rattle.std.proofs.Common.{◌≡◌, ◌≢◌, ℕ, zero, suc, ◌+◌, ◌%◌, ◌^◌, Bool, true, false, List, [], ◌∷◌, ◌++◌, Option, Some, refl, sym, ap, ◌∙◌, subst, arith, append_assoc, length, map, take, drop}
use Rattle.std.specs.Prelude.{nat_lt, if◌then◌else◌}
use Rattle.std.specs.List.{list_all}
use Rattle.std.proofs.lemmas.Bool.{ltb-true}
use Rattle.std.proofs.Math.Nat.{mod-eq_of_lt}
use Rattle.std.proofs.lemmas.List.{length-append, map-append}
use Rattle.fact_wasm.specs.declared.types.ValType.{ValType}
use Rattle.fact_wasm.specs.declared.types.ValType.TheVariants as val
use Rattle.fact_types.specs.declared.interface.InterfaceType.{InterfaceType}
use Rattle.fact_types.specs.declared.interface.InterfaceType.TheVariants as ty
use Rattle.fact_types.specs.declared.extents.MemoryWidth.{MemoryWidth}
use Rattle.fact_types.specs.declared.extents.MemoryWidth.TheVariants.{Memory32, Memory64}
use Rattle.fact_types.specs.Adapters.{LinkedAdapter, is_wide}
use Rattle.fact_types.specs.Fields.{Field, find}
use Rattle.fact_types.specs.Flat.{value_type}
use Rattle.fact_types.specs.FlatShapes.{flat, flat_members}
use Rattle.fact_types.specs.Shapes.{Shape, s_plain, next_of, place_of}
use Rattle.fact_types.specs.Signatures.{width, flat_values}
use Rattle.fact_types.specs.Tuples.{members_from, tuple_members}
use Rattle.fact_machine.specs.declared.types.CoreValue.{CoreValue}
use Rattle.fact_machine.specs.declared.types.CoreValue.TheVariants as value
use Rattle.fact_machine.specs.Typed.{is_value, are_values}
use Rattle.fact_machine.proofs.Tests.{first_of, second_of, both}
use Rattle.fact_actions.specs.Actions.{Action, Give, Visit, ◌>>=◌}
use Rattle.fact_actions.specs.Adapters.{AdapterTunables, params_transfer, move_params}
use Rattle.fact_actions.specs.Moves.{aligned_source, aligned_target, part, spot, past, with_field, move, move_fields}
use Rattle.fact_actions.specs.Sides.{LiftLowerOptions, Transfer, Values, Slots, low_half, width_of_side}
use Rattle.fact_kinds.proofs.SourceMembers.{same_place, other_place}
use Rattle.fact_steps.specs.PassedOn.{ArePassedOn, is_passed_on}
use Rattle.fact_compound.specs.PassedOn.{core_type_of, visits}
use Rattle.fact_compound.proofs.Flats.{are_flat}
use Rattle.fact_compound.proofs.ParamMoves.{params_are}

-- ---- one number

not_aligned : {A : Type 0} (debug : Bool) (o o' : LiftLowerOptions) (t u : Shape) (vs : List CoreValue) (ts : List ValType) (q : Action A) → aligned_source debug o t (Values vs) (aligned_target debug o' u (Slots ts) q) ≡ q
not_aligned true o o' t u vs ts q = refl
not_aligned false o o' t u vs ts q = refl

bits_below : (n : ℕ) → nat_lt n (2 ^ 32) ≡ true → n % 2 ^ 32 ≡ n
bits_below n h = mod-eq_of_lt (ltb-true n (2 ^ 32) h)

low_i32 : {A : Type 0} (debug : Bool) (n : ℕ) (k : ℕ → Action A) → nat_lt n (2 ^ 32) ≡ true → low_half debug (value.I32 n) k ≡ k n
low_i32 true n k h = ap k (bits_below n h)
low_i32 false n k h = ap k (bits_below n h)

low_f32 : {A : Type 0} (debug : Bool) (n : ℕ) (k : ℕ → Action A) → nat_lt n (2 ^ 32) ≡ true → low_half debug (value.F32 n) k ≡ k n
low_f32 true n k h = ap k (bits_below n h)
low_f32 false n k h = ap k (bits_below n h)

-- the values of a type
as_i32 : (v : CoreValue) → is_value v val.I32 ≡ true → (n : ℕ) × (v ≡ value.I32 n) × (nat_lt n (2 ^ 32) ≡ true)
as_i32 (value.I32 n) h = (n, refl, h)
as_i32 (value.I64 n) h = cc
as_i32 (value.F32 n) h = cc
as_i32 (value.F64 n) h = cc
as_i32 (value.Func f) h = cc

as_i64 : (v : CoreValue) → is_value v val.I64 ≡ true → (n : ℕ) × (v ≡ value.I64 n)
as_i64 (value.I64 n) h = (n, refl)
as_i64 (value.I32 n) h = cc
as_i64 (value.F32 n) h = cc
as_i64 (value.F64 n) h = cc
as_i64 (value.Func f) h = cc

as_f32 : (v : CoreValue) → is_value v val.F32 ≡ true → (n : ℕ) × (v ≡ value.F32 n) × (nat_lt n (2 ^ 32) ≡ true)
as_f32 (value.F32 n) h = (n, refl, h)
as_f32 (value.I32 n) h = cc
as_f32 (value.I64 n) h = cc
as_f32 (value.F64 n) h = cc
as_f32 (value.Func f) h = cc

as_f64 : (v : CoreValue) → is_value v val.F64 ≡ true → (n : ℕ) × (v ≡ value.F64 n)
as_f64 (value.F64 n) h = (n, refl)
as_f64 (value.I32 n) h = cc
as_f64 (value.I64 n) h = cc
as_f64 (value.F32 n) h = cc
as_f64 (value.Func f) h = cc

abbrev GivesIt : Transfer → InterfaceType → CoreValue → Type 0
GivesIt c t v = move c (s_plain t) (s_plain t) (Values (v ∷ [])) (Slots (core_type_of t ∷ [])) ≡ Visit 1 (Give (v ∷ []))

s32_moves : (tr : Transfer) (n : ℕ) → nat_lt n (2 ^ 32) ≡ true → GivesIt tr ty.S32 (value.I32 n)
unfolding move
s32_moves tr n h = not_aligned tr.debug tr.from tr.to (s_plain ty.S32) (s_plain ty.S32) (value.I32 n ∷ []) (val.I32 ∷ []) (Visit 1 (low_half tr.debug (value.I32 n) (λ m. Give (value.I32 m ∷ [])))) ∙ ap (λ q. Visit 1 q) (low_i32 tr.debug n (λ m. Give (value.I32 m ∷ [])) h)

u32_moves : (tr : Transfer) (n : ℕ) → nat_lt n (2 ^ 32) ≡ true → GivesIt tr ty.U32 (value.I32 n)
unfolding move
u32_moves tr n h = not_aligned tr.debug tr.from tr.to (s_plain ty.U32) (s_plain ty.U32) (value.I32 n ∷ []) (val.I32 ∷ []) (Visit 1 (low_half tr.debug (value.I32 n) (λ m. Give (value.I32 m ∷ [])))) ∙ ap (λ q. Visit 1 q) (low_i32 tr.debug n (λ m. Give (value.I32 m ∷ [])) h)

f32_moves : (tr : Transfer) (n : ℕ) → nat_lt n (2 ^ 32) ≡ true → GivesIt tr ty.Float32 (value.F32 n)
unfolding move
f32_moves tr n h = not_aligned tr.debug tr.from tr.to (s_plain ty.Float32) (s_plain ty.Float32) (value.F32 n ∷ []) (val.F32 ∷ []) (Visit 1 (low_half tr.debug (value.F32 n) (λ m. Give (value.F32 m ∷ [])))) ∙ ap (λ q. Visit 1 q) (low_f32 tr.debug n (λ m. Give (value.F32 m ∷ [])) h)

s64_moves : (tr : Transfer) (n : ℕ) → GivesIt tr ty.S64 (value.I64 n)
unfolding move
s64_moves tr n = not_aligned tr.debug tr.from tr.to (s_plain ty.S64) (s_plain ty.S64) (value.I64 n ∷ []) (val.I64 ∷ []) (Visit 1 (Give (value.I64 n ∷ [])))

u64_moves : (tr : Transfer) (n : ℕ) → GivesIt tr ty.U64 (value.I64 n)
unfolding move
u64_moves tr n = not_aligned tr.debug tr.from tr.to (s_plain ty.U64) (s_plain ty.U64) (value.I64 n ∷ []) (val.I64 ∷ []) (Visit 1 (Give (value.I64 n ∷ [])))

f64_moves : (tr : Transfer) (n : ℕ) → GivesIt tr ty.Float64 (value.F64 n)
unfolding move
f64_moves tr n = not_aligned tr.debug tr.from tr.to (s_plain ty.Float64) (s_plain ty.Float64) (value.F64 n ∷ []) (val.F64 ∷ []) (Visit 1 (Give (value.F64 n ∷ [])))

-- a number of these types is given as it is
number_moves : (tr : Transfer) (t : InterfaceType) (v : CoreValue) → is_passed_on t ≡ true → is_value v (core_type_of t) ≡ true → GivesIt tr t v
number_moves tr ty.S32 v p h = let x = as_i32 v h in subst (λ v. GivesIt tr ty.S32 v) (sym x.1) (s32_moves tr x.0 x.2)
number_moves tr ty.U32 v p h = let x = as_i32 v h in subst (λ v. GivesIt tr ty.U32 v) (sym x.1) (u32_moves tr x.0 x.2)
number_moves tr ty.S64 v p h = let x = as_i64 v h in subst (λ v. GivesIt tr ty.S64 v) (sym x.1) (s64_moves tr x.0)
number_moves tr ty.U64 v p h = let x = as_i64 v h in subst (λ v. GivesIt tr ty.U64 v) (sym x.1) (u64_moves tr x.0)
number_moves tr ty.Float32 v p h = let x = as_f32 v h in subst (λ v. GivesIt tr ty.Float32 v) (sym x.1) (f32_moves tr x.0 x.2)
number_moves tr ty.Float64 v p h = let x = as_f64 v h in subst (λ v. GivesIt tr ty.Float64 v) (sym x.1) (f64_moves tr x.0)
number_moves tr _ v p h = cc

-- ---- flat types

one_flat : (w : MemoryWidth) (t : InterfaceType) → is_passed_on t ≡ true → map value_type (flat w (s_plain t)) ≡ core_type_of t ∷ []
one_flat w ty.S32 p = refl
one_flat w ty.U32 p = refl
one_flat w ty.S64 p = refl
one_flat w ty.U64 p = refl
one_flat w ty.Float32 p = refl
one_flat w ty.Float64 p = refl
one_flat w _ p = cc

-- each has one, whatever the width
one_long : (w : MemoryWidth) (t : InterfaceType) → is_passed_on t ≡ true → length (flat w (s_plain t)) ≡ 1
one_long w ty.S32 p = refl
one_long w ty.U32 p = refl
one_long w ty.S64 p = refl
one_long w ty.U64 p = refl
one_long w ty.Float32 p = refl
one_long w ty.Float64 p = refl
one_long w _ p = cc

abbrev plains : List InterfaceType → List Shape
plains ts = map (λ t. s_plain t) ts

abbrev core_types_of : List InterfaceType → List ValType
core_types_of ts = map core_type_of ts

pub flats_are : (w : MemoryWidth) (n : ℕ) (ts : List InterfaceType) → list_all is_passed_on ts ≡ true → map value_type (flat_members w (members_from n (plains ts))) ≡ core_types_of ts
flats_are w n [] h = refl
flats_are w n (t ∷ ts) h =
    map-append value_type (flat w (s_plain t)) (flat_members w (members_from (suc n) (plains ts)))
    ∙ (λ i. one_flat w t (first_of (is_passed_on t) (list_all is_passed_on ts) h) i ++ flats_are w (suc n) ts (second_of (is_passed_on t) (list_all is_passed_on ts) h) i)

-- ---- the member of a place

pub record IsAt (t : InterfaceType) (place : ℕ) (found : Option Field) : Type 0 where
  pub field : Field
  pub is : found ≡ Some field
  pub shape : field.shape ≡ s_plain t
  pub flat_place : field.flat_place ≡ place

found_at : (pre : List InterfaceType) (t : InterfaceType) (post : List InterfaceType) (i k f a b : ℕ) → k ≡ length pre + i → list_all is_passed_on pre ≡ true → IsAt t (f + length pre) (find (k ∷ []) (members_from i (plains (pre ++ t ∷ post))) f a b)
found_at [] t post i k f a b e h =
    let here : i ≡ k = omega (arith, e) in
    record {
      field = record { shape = s_plain t; flat_place = f; place32 = place_of Memory32 (s_plain t) a; place64 = place_of Memory64 (s_plain t) b };
      is = ap (λ (q : Bool). if q then Some (record { shape = s_plain t; flat_place = f; place32 = place_of Memory32 (s_plain t) a; place64 = place_of Memory64 (s_plain t) b })
          else find (k ∷ []) (members_from (suc i) (plains post)) (f + length (flat Memory32 (s_plain t))) (next_of Memory32 (s_plain t) a) (next_of Memory64 (s_plain t) b)) (same_place i k here);
      shape = refl;
      flat_place = omega arith;
    }
found_at (p ∷ pre) t post i k f a b e h =
    let ne : i ≢ k = λ same. omega (arith, same, e) in
    let long : length (flat Memory32 (s_plain p)) ≡ 1 = one_long Memory32 p (first_of (is_passed_on p) (list_all is_passed_on pre) h) in
    let rest = found_at pre t post (suc i) k (f + length (flat Memory32 (s_plain p))) (next_of Memory32 (s_plain p) a) (next_of Memory64 (s_plain p) b) (omega (arith, e)) (second_of (is_passed_on p) (list_all is_passed_on pre) h) in
    record {
      field = rest.field;
      is = ap (λ (q : Bool). if q then Some (record { shape = s_plain p; flat_place = f; place32 = place_of Memory32 (s_plain p) a; place64 = place_of Memory64 (s_plain p) b })
          else find (k ∷ []) (members_from (suc i) (plains (pre ++ t ∷ post))) (f + length (flat Memory32 (s_plain p))) (next_of Memory32 (s_plain p) a) (next_of Memory64 (s_plain p) b)) (other_place i k ne) ∙ rest.is;
      shape = rest.shape;
      flat_place = rest.flat_place ∙ omega (arith, long);
    }

-- ---- all of them

all_front : (pre post : List InterfaceType) → list_all is_passed_on (pre ++ post) ≡ true → list_all is_passed_on pre ≡ true
all_front [] post h = refl
all_front (p ∷ pre) post h = both (first_of (is_passed_on p) (list_all is_passed_on (pre ++ post)) h) (all_front pre post (second_of (is_passed_on p) (list_all is_passed_on (pre ++ post)) h))

all_behind : (pre post : List InterfaceType) → list_all is_passed_on (pre ++ post) ≡ true → list_all is_passed_on post ≡ true
all_behind [] post h = h
all_behind (p ∷ pre) post h = all_behind pre post (second_of (is_passed_on p) (list_all is_passed_on (pre ++ post)) h)

take_first : (us : List CoreValue) (v : CoreValue) (ws : List CoreValue) (n : ℕ) → n ≡ length us → take 1 (drop n (us ++ v ∷ ws)) ≡ v ∷ []
take_first us v ws n e = ap (λ n. take 1 (drop n (us ++ v ∷ ws))) e ∙ go us
  where
    go : (us : List CoreValue) → take 1 (drop (length us) (us ++ v ∷ ws)) ≡ v ∷ []
    go [] = refl
    go (u ∷ us) = go us

visits_then : {A B : Type 0} (n : ℕ) (q : Action A) (f : A → Action B) → (visits n q >>= f) ≡ visits n (q >>= f)
visits_then zero q f = refl
visits_then (suc n) q f = ap (λ q. Visit 1 q) (visits_then n q f)

-- From a member on: those before it and the values before theirs are left out.
all_moved : (tr : Transfer) (ts pre post : List InterfaceType) (k end : ℕ) (ws us vs more : List CoreValue) → ts ≡ pre ++ post → list_all is_passed_on ts ≡ true → k ≡ length pre → ws ≡ us ++ (vs ++ more) → length us ≡ length pre → are_values vs (core_types_of post) ≡ true
    → move_fields tr (members_from 0 (plains ts)) (members_from k (plains post)) end (Values ws) (Slots (core_types_of post)) ≡ visits (length post) (Give vs)
unfolding move_fields
all_moved tr ts pre [] k end ws us [] more e all ke we long h = refl
all_moved tr ts pre [] k end ws us (v ∷ vs) more e all ke we long h = cc
all_moved tr ts pre (t ∷ post) k end ws us [] more e all ke we long h = cc
all_moved tr ts pre (t ∷ post) k end ws us (v ∷ vs) more e all ke we long h =
    let every : list_all is_passed_on (pre ++ t ∷ post) ≡ true = ap (list_all is_passed_on) (sym e) ∙ all in
    let one : is_passed_on t ≡ true = first_of (is_passed_on t) (list_all is_passed_on post) (all_behind pre (t ∷ post) every) in
    let at = found_at pre t post 0 k 0 0 0 (ke ∙ omega arith) (all_front pre (t ∷ post) every) in
    let there : find (k ∷ []) (members_from 0 (plains ts)) 0 0 0 ≡ Some at.field = ap (λ ts. find (k ∷ []) (members_from 0 (plains ts)) 0 0 0) e ∙ at.is in
    let source : part tr.from at.field (Values ws) ≡ Values (v ∷ []) =
    ap Values ((λ i. take (length (flat (width_of_side tr.from) (at.shape i))) (drop at.field.flat_place (we i))) ∙ ap (λ n. take n (drop at.field.flat_place (us ++ v ∷ (vs ++ more)))) (one_long (width_of_side tr.from) t one)
    ∙ take_first us v (vs ++ more) at.field.flat_place (omega (arith, at.flat_place, long))) in
    let spot_is : spot tr.to (s_plain t) end (Slots (core_type_of t ∷ core_types_of post)) ≡ Slots (core_type_of t ∷ []) = ap (λ n. Slots (take n (core_type_of t ∷ core_types_of post))) (one_long (width_of_side tr.to) t one) in
    let past_is : past tr.to (s_plain t) (Slots (core_type_of t ∷ core_types_of post)) ≡ Slots (core_types_of post) = ap (λ n. Slots (drop n (core_type_of t ∷ core_types_of post))) (one_long (width_of_side tr.to) t one) in
    let first : move tr at.field.shape (s_plain t) (part tr.from at.field (Values ws)) (spot tr.to (s_plain t) end (Slots (core_type_of t ∷ core_types_of post))) ≡ Visit 1 (Give (v ∷ [])) =
    (λ i. move tr (at.shape i) (s_plain t) (source i) (spot_is i)) ∙ number_moves tr t v one (first_of (is_value v (core_type_of t)) (are_values vs (core_types_of post)) h) in
    let rest = all_moved tr ts (pre ++ t ∷ []) post (suc k) (next_of (width_of_side tr.to) (s_plain t) end) ws (us ++ v ∷ []) vs more (e ∙ sym (append_assoc pre (t ∷ []) post)) all (omega (arith, ke, length-append pre (t ∷ []))) (we ∙ sym (append_assoc us (v ∷ []) (vs ++ more)))
    (omega (arith, long, length-append us (v ∷ []), length-append pre (t ∷ []))) (second_of (is_value v (core_type_of t)) (are_values vs (core_types_of post)) h) in
    let last : (λ (us : List CoreValue). move_fields tr (members_from 0 (plains ts)) (members_from (suc k) (plains post)) (next_of (width_of_side tr.to) (s_plain t) end) (Values ws) (past tr.to (s_plain t) (Slots (core_type_of t ∷ core_types_of post))) >>= (λ ws. Give (us ++ ws)))
    ≡ (λ (us : List CoreValue). visits (length post) (Give vs) >>= (λ ws. Give (us ++ ws))) =
    λ i us. ((λ j. move_fields tr (members_from 0 (plains ts)) (members_from (suc k) (plains post)) (next_of (width_of_side tr.to) (s_plain t) end) (Values ws) (past_is j)) ∙ rest) i >>= (λ ws. Give (us ++ ws)) in
    (λ i. with_field (there i) (λ f.
    move tr f.shape (s_plain t) (part tr.from f (Values ws)) (spot tr.to (s_plain t) end (Slots (core_type_of t ∷ core_types_of post))) >>= (λ us.
    move_fields tr (members_from 0 (plains ts)) (members_from (suc k) (plains post)) (next_of (width_of_side tr.to) (s_plain t) end) (Values ws) (past tr.to (s_plain t) (Slots (core_type_of t ∷ core_types_of post))) >>= (λ ws. Give (us ++ ws)))))
    ∙ (λ i. first i >>= last i)
    ∙ ap (λ q. Visit 1 q) (visits_then (length post) (Give vs) (λ ws. Give (v ∷ ws)))

-- The move of such parameters visits them and gives the arguments, whatever stands behind them.
pub passed_on : (u : AdapterTunables) (a : LinkedAdapter) (args front rest : List CoreValue) {fs gs : List ValType} → a.lower.async_side ≡ false → (x : ArePassedOn a.lower.params a.lift.params)
    → flat_values (is_wide a.lower.memory) 16 a.lower.params ≡ Some fs → flat_values (is_wide a.lift.memory) 16 a.lift.params ≡ Some gs → args ≡ front ++ rest → are_values front (core_types_of x.types) ≡ true
    → move_params u a args ≡ visits (length x.types) (Give front)
passed_on u a args front rest {fs} {gs} sync x e f split h =
    let gs_are : gs ≡ core_types_of x.types =
    (are_flat (is_wide a.lift.memory) 16 a.lift.params gs f).are ∙ ap (λ ss. map value_type (flat_members (width (is_wide a.lift.memory)) (tuple_members ss))) x.to_are ∙ flats_are (width (is_wide a.lift.memory)) 0 x.types x.all in
    sym (params_are u a args sync e f)
    ∙ (λ i. move_fields (params_transfer u a) (tuple_members (x.from_are i)) (tuple_members (x.to_are i)) 0 (Values args) (Slots (gs_are i)))
    ∙ all_moved (params_transfer u a) x.types [] x.types 0 0 args [] front rest refl x.all refl split refl h
