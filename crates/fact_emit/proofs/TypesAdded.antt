-- Types that were added where an import was refused.
use Rattle.std.proofs.Common.{◌≡◌, [], ◌∷◌, ◌++◌, sym, ap, ◌∙◌, inl, inr}
use Rattle.std.specs.Prelude.{Err, Ok, OnErr, Result}
use Rattle.fact_wasm.specs.declared.types.FuncType.{FuncType}
use Rattle.fact_emit.specs.States.{HasType, ModuleSoFar, OnlyTypesAdded}

-- a type that was added, and nothing else
pub only_types_added : {a b c : ModuleSoFar} {t : FuncType} → HasType a b t → c ≡ b → OnlyTypesAdded a c
only_types_added {a} {b} {c} (inl same) e = let s : c ≡ a = e ∙ same in s ∙ ap (λ (m : ModuleSoFar). record a { types = m.types }) (sym s)
only_types_added {a} {b} {c} {t} (inr more) e = let s : c ≡ record a { types = a.types ++ t ∷ [] } = e ∙ more.1 in s ∙ ap (λ (m : ModuleSoFar). record a { types = m.types }) (sym s)

-- what holds in any case holds after a refusal
pub on_any : {T E : Type 0} (r : Result T E) {X : Type 0} → X → OnErr r X
on_any (Ok v) x = tt
on_any (Err e) x = x
