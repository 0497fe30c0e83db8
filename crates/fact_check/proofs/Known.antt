-- Operands whose types are known, and values of these types.
use Rattle.std.proofs.Common.{◌≡◌, suc, Bool, true, false, List, [], ◌∷◌, ◌++◌, Option, Some, None, refl, sym, ap, ◌∙◌, subst, length, reverse, append-nil}
use Rattle.std.specs.Prelude.{option_and_then}
use Rattle.std.proofs.lemmas.List.{reverse-append}
use Rattle.fact_wasm.specs.declared.types.ValType.{ValType}
use Rattle.fact_wasm.specs.declared.types.ValType.TheVariants.{I32, I64, F32, F64, FuncRef}
use Rattle.fact_machine.specs.declared.types.CoreValue.{CoreValue}
use Rattle.fact_machine.specs.Machine.{has_type, have_types, grab, onto}
use Rattle.fact_machine.specs.Typing.{Operands, Known, Open, only_if, same_type, pop, pop_all, push_all, change, jump, ends, is_empty}
use Rattle.fact_machine.proofs.Tests.{first_of, second_of, both}
use Rattle.fact_machine.proofs.TypingRows.{popped}

-- ---- options

pub some_of : {A B : Type 0} (x : Option A) (f : A → Option B) (b : B) → option_and_then f x ≡ Some b → (a : A) × (x ≡ Some a) × (f a ≡ Some b)
some_of None f b h = cc
some_of (Some a) f b h = (a, refl, h)

pub some_if : {A : Type 0} (b : Bool) (x : Option A) (a : A) → only_if b x ≡ Some a → (b ≡ true) × (x ≡ Some a)
some_if true x a h = (refl, h)
some_if false x a h = cc

-- ---- operands

pub same_is : (t u : ValType) → same_type t u ≡ true → t ≡ u
same_is I32 I32 h = refl
same_is I64 I64 h = refl
same_is F32 F32 h = refl
same_is F64 F64 h = refl
same_is FuncRef FuncRef h = refl
same_is _ _ h = cc

-- operands that are taken were there
pub pops : (ins us : List ValType) (s : Operands) → pop_all ins (Known us) ≡ Some s → (left : List ValType) × (us ≡ ins ++ left) × (s ≡ Known left)
pops [] us s h = (us, refl, cc)
pops (t ∷ ins) [] s h = cc
pops (t ∷ ins) (u ∷ us) s h =
    let x = some_of (only_if (same_type t u) (Some (Known us))) (λ z. pop_all ins z) s h in
    let y = some_if (same_type t u) (Some (Known us)) x.0 x.1 in
    let e : x.0 ≡ Known us = cc in
    let r = pops ins us s (subst (λ z. pop_all ins z ≡ Some s) e x.2) in
    (r.0, ap (λ v. v ∷ us) (sym (same_is t u y.0)) ∙ ap (λ l. t ∷ l) r.1, r.2)

-- What stands behind an instruction goes on from what that one makes of the operands, to results of these types.
abbrev pub GoesOn : List ValType → (Operands → Option Operands) → Option Operands → Type 0
GoesOn gives go s = ends gives (option_and_then go s) ≡ true

pub changes : (gives ins outs us : List ValType) (go : Operands → Option Operands) → GoesOn gives go (change ins outs (Known us)) → (left : List ValType) × (us ≡ ins ++ left) × (ends gives (go (Known (outs ++ left))) ≡ true)
changes gives ins outs us go h = by_pop (pop_all ins (Known us)) refl h
  where
    by_pop : (o : Option Operands) → pop_all ins (Known us) ≡ o → GoesOn gives go (option_and_then (λ s. Some (push_all outs s)) o) → (left : List ValType) × (us ≡ ins ++ left) × (ends gives (go (Known (outs ++ left))) ≡ true)
    by_pop None e k = cc
    by_pop (Some s) e k = let r = pops ins us s e in (r.0, r.1, subst (λ z. ends gives (go (push_all outs z)) ≡ true) r.2 k)

pub jumps : (gives ins us : List ValType) (go : Operands → Option Operands) → GoesOn gives go (jump ins (Known us)) → (left : List ValType) × (us ≡ ins ++ left)
jumps gives ins us go h = by_pop (pop_all ins (Known us)) refl h
  where
    by_pop : (o : Option Operands) → pop_all ins (Known us) ≡ o → GoesOn gives go (option_and_then (λ s. Some (Open [])) o) → (left : List ValType) × (us ≡ ins ++ left)
    by_pop None e k = cc
    by_pop (Some s) e k = let r = pops ins us s e in (r.0, r.1)

-- one operand is taken before more is done
pub takes_one : (gives : List ValType) (t : ValType) (us : List ValType) (go more : Operands → Option Operands) → GoesOn gives go (option_and_then more (pop t (Known us))) → (left : List ValType) × (us ≡ t ∷ left) × GoesOn gives go (more (Known left))
takes_one gives t [] go more h = cc
takes_one gives t (u ∷ us) go more h = by_test (same_type t u) refl h
  where
    by_test : (b : Bool) → same_type t u ≡ b → GoesOn gives go (option_and_then more (only_if b (Some (Known us)))) → (left : List ValType) × (u ∷ us ≡ t ∷ left) × GoesOn gives go (more (Known left))
    by_test true e k = (us, ap (λ v. v ∷ us) (sym (same_is t u e)), k)
    by_test false e k = cc

-- what is looked up is there
pub found : {A : Type 0} (gives : List ValType) (go : Operands → Option Operands) (f : A → Option Operands) (x : Option A) → GoesOn gives go (option_and_then f x) → (a : A) × (x ≡ Some a) × GoesOn gives go (f a)
found gives go f None h = cc
found gives go f (Some a) h = (a, refl, h)

-- what is tested holds
pub allowed : (gives : List ValType) (go : Operands → Option Operands) (b : Bool) (x : Option Operands) → GoesOn gives go (only_if b x) → (b ≡ true) × GoesOn gives go x
allowed gives go true x h = (refl, h)
allowed gives go false x h = cc

-- code that ends in results leaves just these
pub ends_in : (gives us : List ValType) → ends gives (Some (Known us)) ≡ true → us ≡ reverse gives
ends_in gives us h = by_pop (pop_all (reverse gives) (Known us)) refl h
  where
    by_left : (left : List ValType) → us ≡ reverse gives ++ left → is_empty (Known left) ≡ true → us ≡ reverse gives
    by_left [] e k = e ∙ append-nil (reverse gives)
    by_left (t ∷ left) e k = cc

    by_pop : (o : Option Operands) → pop_all (reverse gives) (Known us) ≡ o → elim o as (λ (o : Option Operands). Bool) [ None ↦ false | Some s ↦ is_empty s ] ≡ true → us ≡ reverse gives
    by_pop None e k = cc
    by_pop (Some s) e k = let r = pops (reverse gives) us s e in by_left r.0 r.1 (subst (λ z. is_empty z ≡ true) r.2 k)

pub ends_with : (gives us : List ValType) → us ≡ reverse gives → ends gives (Some (Known us)) ≡ true
ends_with gives us e =
    ap (λ o. elim o as (λ (o : Option Operands). Bool) [ None ↦ false | Some s ↦ is_empty s ])
    (ap (λ l. pop_all (reverse gives) (Known l)) (e ∙ sym (append-nil (reverse gives))) ∙ popped (reverse gives) [])

-- ---- values

-- values of these types above others
pub record Cut (vs : List CoreValue) (ts us : List ValType) : Type 0 where
  pub top : List CoreValue
  pub below : List CoreValue
  pub cut : grab (length ts) vs ≡ Some (top, below)
  pub tops : have_types top ts ≡ true
  pub belows : have_types below us ≡ true

pub cuts : (vs : List CoreValue) (ts us : List ValType) → have_types vs (ts ++ us) ≡ true → Cut vs ts us
cuts vs [] us h = record { top = []; below = vs; cut = refl; tops = refl; belows = h }
cuts [] (t ∷ ts) us h = cc
cuts (v ∷ vs) (t ∷ ts) us h =
    let c = cuts vs ts us (second_of (has_type v t) (have_types vs (ts ++ us)) h) in
    record { top = v ∷ c.top; below = c.below; cut = ap (onto v) c.cut; tops = both (first_of (has_type v t) (have_types vs (ts ++ us)) h) c.tops; belows = c.belows }

pub joined : (vs ws : List CoreValue) (ts us : List ValType) → have_types vs ts ≡ true → have_types ws us ≡ true → have_types (vs ++ ws) (ts ++ us) ≡ true
joined [] ws [] us h k = k
joined [] ws (t ∷ ts) us h k = cc
joined (v ∷ vs) ws [] us h k = cc
joined (v ∷ vs) ws (t ∷ ts) us h k = both (first_of (has_type v t) (have_types vs ts) h) (joined vs ws ts us (second_of (has_type v t) (have_types vs ts) h) k)

pub reversed : (vs : List CoreValue) (ts : List ValType) → have_types vs ts ≡ true → have_types (reverse vs) (reverse ts) ≡ true
reversed [] [] h = refl
reversed [] (t ∷ ts) h = cc
reversed (v ∷ vs) [] h = cc
reversed (v ∷ vs) (t ∷ ts) h =
    let last : have_types (v ∷ []) (t ∷ []) ≡ true = both (first_of (has_type v t) (have_types vs ts) h) refl in
    ap (λ l. have_types l (reverse (t ∷ ts))) (reverse-append (v ∷ []) vs) ∙ ap (λ l. have_types (reverse vs ++ v ∷ []) l) (reverse-append (t ∷ []) ts)
    ∙ joined (reverse vs) (v ∷ []) (reverse ts) (t ∷ []) (reversed vs ts (second_of (has_type v t) (have_types vs ts) h)) last

pub same_many : (vs : List CoreValue) (ts : List ValType) → have_types vs ts ≡ true → length vs ≡ length ts
same_many [] [] h = refl
same_many [] (t ∷ ts) h = cc
same_many (v ∷ vs) [] h = cc
same_many (v ∷ vs) (t ∷ ts) h = ap suc (same_many vs ts (second_of (has_type v t) (have_types vs ts) h))
