-- Core types that are interned one by one.
use Rattle.std.proofs.Common.{◌≡◌, ◌<◌, ◌+◌, ℕ, List, [], ◌∷◌, ◌++◌, length, take, get_or, Some, sym, ◌∙◌, ap, subst}
use Rattle.std.specs.Prelude.{slice_get}
use Rattle.std.specs.List.{AllZip}
use Rattle.std.proofs.lemmas.List.{take_more}
use Rattle.fact_entity.specs.Places.{IsInterned}
use Rattle.fact_entity.specs.declared.id.Id.{Id}
use Rattle.fact_entity.specs.declared.table.ModuleInternedTypes.{ModuleInternedTypes}
use Rattle.fact_wasm.proofs.Signatures.{exact_func}
use Rattle.fact_wasm.specs.declared.types.FuncType.{FuncType}
use Rattle.fact_wasm.specs.contracts.types.FuncTypePartialEq.TheImpl as func_eq
use Rattle.fact_plan_types.proofs.HandleLaws.{zip_map, zip_push}

abbrev pub IsAt : List FuncType → Id ModuleInternedTypes → FuncType → Type 0
IsAt types i ty = slice_get types i.number ≡ Some ty

interned_at : (old new : List FuncType) (v : FuncType) (i : ℕ) → IsInterned func_eq.ghosts.eq old new v i → slice_get new i ≡ Some v
interned_at old new v i d = let h = d.only.holds in h.1 ∙ ap Some (sym (exact_func v h.0 h.2))

pub interned_next : (old new : List FuncType) (ids more : List (Id ModuleInternedTypes)) (k : Id ModuleInternedTypes) (v x : FuncType) (types : List FuncType) (i : ℕ)
    → AllZip (IsAt old) ids (take i types) → IsInterned func_eq.ghosts.eq old new v k.number → v ≡ x → x ≡ get_or types i x → i < length types → more ≡ ids ++ k ∷ [] → AllZip (IsAt new) more (take (i + 1) types)
interned_next old new ids more k v x types i z d same is within e =
    let kept = zip_map (IsAt old) (IsAt new) (λ j ty h. d.keeps j.number ty h) ids (take i types) z in
    let taken : take (i + 1) types ≡ take i types ++ x ∷ [] = take_more types i x within ∙ ap (λ (y : FuncType). take i types ++ y ∷ []) (sym is) in
    subst (λ (us : List (Id ModuleInternedTypes)). AllZip (IsAt new) us (take (i + 1) types)) (sym e)
    (subst (λ (us : List FuncType). AllZip (IsAt new) (ids ++ k ∷ []) us) (sym taken)
    (zip_push (IsAt new) ids (take i types) k x kept (interned_at old new v k.number d ∙ ap Some same)))
