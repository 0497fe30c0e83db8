-- Places of function types in a list that has each of them once.
use Rattle.std.proofs.Common.{◌≡◌, ℕ, zero, suc, List, [], ◌∷◌, ◌++◌, Option, Some, None, IfSome, ◌⊎◌, inl, inr, sym, ap, ◌∙◌, slice_get}
use Rattle.fact_entity.specs.declared.id.Id.{Id}
use Rattle.fact_entity.specs.Places.{IsInterned}
use Rattle.fact_wasm.specs.CoreTypes.{IsOnlyPlaceOfType, HasNoTwins}
use Rattle.fact_wasm.specs.declared.types.FuncType.{FuncType}
use Rattle.fact_wasm.specs.contracts.types.FuncTypePartialEq.TheImpl as func_eq
use Rattle.fact_wasm.specs.contracts.types.FuncTypeEq.TheImpl.Laws.{laws-law}
use Rattle.fact_wasm.proofs.Signatures.{exact_func}

-- an interned type stands at its place alone
pub only_place : (old new : List FuncType) (ty : FuncType) (i : ℕ) → IsInterned func_eq.ghosts.eq old new ty i → IsOnlyPlaceOfType new ty i
only_place old new ty i h =
    let (x, there, e) = h.only.holds in record {
      holds = there ∙ ap Some (sym (exact_func ty x e));
      only = λ k at. h.only.only k ty at (laws-law.refl ty);
    }

pub found_alone : {T : Type 0} (key : Option (Id T)) (ts : List FuncType) (ty : FuncType) → IfSome key (λ k. IsInterned func_eq.ghosts.eq ts ts ty k.number) → IfSome key (λ k. IsOnlyPlaceOfType ts ty k.number)
found_alone None ts ty h = h
found_alone (Some k) ts ty h = only_place ts ts ty k.number h

-- what stands in a list that got one more stood there, or is the one more
in_pushed : (ts : List FuncType) (ty t : FuncType) (k : ℕ) → slice_get (ts ++ ty ∷ []) k ≡ Some t → (slice_get ts k ≡ Some t) ⊎ (t ≡ ty)
in_pushed [] ty t zero e = inr (cc)
in_pushed [] ty t (suc k) e = cc
in_pushed (x ∷ ts) ty t zero e = inl e
in_pushed (x ∷ ts) ty t (suc k) e = in_pushed ts ty t k e

-- a type that stands at one place makes no twins
pub no_twins_pushed : (ts : List FuncType) (ty : FuncType) (i : ℕ) → HasNoTwins ts → IsOnlyPlaceOfType (ts ++ ty ∷ []) ty i → HasNoTwins (ts ++ ty ∷ [])
no_twins_pushed ts ty i h o =
    let one : (j k : ℕ) (t : FuncType) → t ≡ ty → slice_get (ts ++ ty ∷ []) j ≡ Some t → slice_get (ts ++ ty ∷ []) k ≡ Some t → j ≡ k =
    λ j k t e p q. o.only j (p ∙ ap Some e) ∙ sym (o.only k (q ∙ ap Some e)) in
    record {
      apart = λ j k t p q. elim (in_pushed ts ty t j p) [
        | inr e ↦ one j k t e p q
        | inl a ↦ elim (in_pushed ts ty t k q) [ inr e ↦ one j k t e p q | inl b ↦ h.apart j k t a b ]
      ];
    }
