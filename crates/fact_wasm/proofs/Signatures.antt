-- Value types, lists of them and function types that are equal by `==` are one.
use Rattle.std.proofs.Common.{◌≡◌, List, Bool, true, refl}
use Rattle.std.proofs.lemmas.Slice.Eq.{slice_eq-Decides}
use Rattle.std.specs.Bool.{Decides}
use Rattle.std.specs.Cmp.{first_so, second_so}
use Rattle.std.specs.Cmp.Lexicographic.{pointwise}
use denote.Enum.Bare.{same_true, true_same}
use Rattle.fact_wasm.specs.contracts.types.ValType.{the_type}
use Rattle.fact_wasm.specs.contracts.types.ValTypePartialEq.TheImpl as value_eq
use Rattle.fact_wasm.specs.contracts.types.FuncTypePartialEq.TheImpl as func_eq
use Rattle.fact_wasm.specs.declared.types.FuncType.{FuncType}
use Rattle.fact_wasm.specs.declared.types.ValType.{ValType}

one_value : (a b : ValType) → Decides (value_eq.ghosts.eq a b) (a ≡ b)
one_value a b = (λ h. same_true the_type tt a b h, λ e. true_same the_type a b e)

one_list : (xs ys : List ValType) (b : Bool) → b ≡ pointwise value_eq.ghosts.eq xs ys → Decides b (xs ≡ ys)
one_list = slice_eq-Decides one_value

pub exact_value : (a b : ValType) → value_eq.ghosts.eq a b ≡ true → a ≡ b
exact_value a b h = (one_value a b).0 h

pub exact_func : (a b : FuncType) → func_eq.ghosts.eq a b ≡ true → a ≡ b
exact_func a b h =
    let params : a.params ≡ b.params = (one_list a.params b.params _ refl).0 (first_so _ _ h) in
    let results : a.results ≡ b.results = (one_list a.results b.results _ refl).0 (second_so _ _ h) in
    λ i. record { params = params i; results = results i }
