-- Slots for joined flat types hold each of them.
use Rattle.std.proofs.Common.{◌≡◌, ℕ, zero, suc, true, List, [], ◌∷◌, length, take, drop, refl, sym, ap, ◌∙◌, subst}
use Rattle.std.proofs.lemmas.Bool.{false≢true}
use Rattle.fact_wasm.specs.declared.types.ValType.{ValType}
use Rattle.fact_wasm.specs.declared.types.ValType.TheVariants as val
use Rattle.fact_types.specs.declared.flats.FlatType.{FlatType}
use Rattle.fact_types.specs.declared.flats.FlatType.TheVariants.{I32, I64, F32, F64}
use Rattle.fact_types.specs.Flat.{join}
use Rattle.fact_types.specs.FlatShapes.{joined}
use Rattle.fact_types.proofs.JoinLaws.{join_swaps, join_joins, join_absorbs}
use Rattle.fact_machine.specs.Typed.{is_value, are_values}
use Rattle.fact_actions.specs.Sides.{core_value, zeros}
use Rattle.fact_values.specs.Lift.{is_same}
use Rattle.fact_action_laws.specs.Places.{can_hold, can_hold_all}
use Rattle.fact_action_laws.proofs.Targets.{both_true, left_true, right_true}

same_flat : (a b : FlatType) → is_same a b ≡ true → a ≡ b
same_flat I32 I32 h = refl
same_flat I64 I64 h = refl
same_flat F32 F32 h = refl
same_flat F64 F64 h = refl
same_flat a b h = absurd (false≢true h)

flat_same : (a b : FlatType) → a ≡ b → is_same a b ≡ true
flat_same a b e = subst (λ c. is_same a c ≡ true) e (itself a)
  where
    itself : (a : FlatType) → is_same a a ≡ true
    itself I32 = refl
    itself I64 = refl
    itself F32 = refl
    itself F64 = refl

-- what a join is below, each of its parts is below
join_left : (a b g : FlatType) → is_same (join (join a b) g) g ≡ true → is_same (join a g) g ≡ true
join_left a b g h =
    let e : join (join a b) g ≡ g = same_flat (join (join a b) g) g h in
    flat_same (join a g) g (ap (join a) (sym e) ∙ sym (join_joins a (join a b) g) ∙ ap (λ x. join x g) (join_absorbs a b) ∙ e)

join_right : (a b g : FlatType) → is_same (join (join a b) g) g ≡ true → is_same (join b g) g ≡ true
join_right a b g h = join_left b a g (subst (λ x. is_same (join x g) g ≡ true) (join_swaps a b) h)

hold_left : (a b : FlatType) (t : ValType) → can_hold (join a b) t ≡ true → can_hold a t ≡ true
hold_left a b val.I32 h = join_left a b I32 h
hold_left a b val.I64 h = join_left a b I64 h
hold_left a b val.F32 h = join_left a b F32 h
hold_left a b val.F64 h = join_left a b F64 h
hold_left a b val.FuncRef h = h

hold_right : (a b : FlatType) (t : ValType) → can_hold (join a b) t ≡ true → can_hold b t ≡ true
hold_right a b val.I32 h = join_right a b I32 h
hold_right a b val.I64 h = join_right a b I64 h
hold_right a b val.F32 h = join_right a b F32 h
hold_right a b val.F64 h = join_right a b F64 h
hold_right a b val.FuncRef h = h

-- the leading slots can hold flat types
abbrev pub HoldFirst : List FlatType → List ValType → Type 0
HoldFirst [] ts = Unit {0}
HoldFirst (f ∷ fs) [] = ⊥
HoldFirst (f ∷ fs) (t ∷ ts) = (can_hold f t ≡ true) × HoldFirst fs ts

pub all_first : (fs : List FlatType) (ts : List ValType) → can_hold_all fs ts ≡ true → HoldFirst fs ts
all_first [] ts h = tt
all_first (f ∷ fs) [] h = absurd (false≢true h)
all_first (f ∷ fs) (t ∷ ts) h = (left_true (can_hold f t) _ h, all_first fs ts (right_true (can_hold f t) _ h))

pub first_all : (fs : List FlatType) (ts : List ValType) → HoldFirst fs ts → can_hold_all fs (take (length fs) ts) ≡ true
first_all [] ts h = refl
first_all (f ∷ fs) [] h = absurd h
first_all (f ∷ fs) (t ∷ ts) h = both_true (can_hold f t) (can_hold_all fs (take (length fs) ts)) h.0 (first_all fs ts h.1)

pub joined_left : (xs ys : List FlatType) (ts : List ValType) → HoldFirst (joined xs ys) ts → HoldFirst xs ts
joined_left [] ys ts h = tt
joined_left (x ∷ xs) [] ts h = h
joined_left (x ∷ xs) (y ∷ ys) [] h = h
joined_left (x ∷ xs) (y ∷ ys) (t ∷ ts) h = (hold_left x y t h.0, joined_left xs ys ts h.1)

pub joined_right : (xs ys : List FlatType) (ts : List ValType) → HoldFirst (joined xs ys) ts → HoldFirst ys ts
joined_right [] ys ts h = h
joined_right (x ∷ xs) [] ts h = tt
joined_right (x ∷ xs) (y ∷ ys) [] h = h
joined_right (x ∷ xs) (y ∷ ys) (t ∷ ts) h = (hold_right x y t h.0, joined_right xs ys ts h.1)

-- zeros are values of slots that can hold something
zero_value : (f : FlatType) (t : ValType) → can_hold f t ≡ true → is_value (core_value t 0) t ≡ true
zero_value f val.I32 h = refl
zero_value f val.I64 h = refl
zero_value f val.F32 h = refl
zero_value f val.F64 h = refl
zero_value f val.FuncRef h = absurd (false≢true h)

pub zero_values : (fs : List FlatType) (ts : List ValType) (k : ℕ) → can_hold_all fs ts ≡ true → are_values (zeros (drop k ts)) (drop k ts) ≡ true
zero_values [] [] zero h = refl
zero_values [] [] (suc k) h = refl
zero_values [] (t ∷ ts) k h = absurd (false≢true h)
zero_values (f ∷ fs) [] k h = absurd (false≢true h)
zero_values (f ∷ fs) (t ∷ ts) zero h = both_true (is_value (core_value t 0) t) (are_values (zeros ts) ts) (zero_value f t (left_true (can_hold f t) _ h)) (zero_values fs ts 0 (right_true (can_hold f t) _ h))
zero_values (f ∷ fs) (t ∷ ts) (suc k) h = zero_values fs ts k (right_true (can_hold f t) _ h)
