-- Tests of function types against a signature.
use Rattle.std.proofs.Common.{◌≡◌, List, Bool, true, false, sym, ap, ◌∙◌}
use Rattle.std.proofs.lemmas.Bool.{false≢true}
use Rattle.std.proofs.lemmas.Slice.Eq.{slice_eq-Decides}
use Rattle.std.specs.Bool.{Decides}
use Rattle.std.specs.Cmp.Lexicographic.{pointwise}
use denote.Enum.Bare.{same_true, true_same}
use Rattle.fact_wasm.specs.CoreTypes.{signature}
use Rattle.fact_wasm.specs.contracts.types.ValType.{the_type}
use Rattle.fact_wasm.specs.contracts.types.ValTypePartialEq.TheImpl as same
use Rattle.fact_wasm.specs.declared.types.FuncType.{FuncType}
use Rattle.fact_wasm.specs.declared.types.ValType.{ValType}

one_value : (a b : ValType) → Decides (same.eq-value.it a b) (a ≡ b)
one_value a b = (λ h. same_true the_type tt a b h, λ e. true_same the_type a b e)

one_list : (xs ys : List ValType) (b : Bool) → b ≡ pointwise same.eq-value.it xs ys → Decides b (xs ≡ ys)
one_list = slice_eq-Decides one_value

-- where the parameters are others, it is another type
pub other_params : (ty : FuncType) (ps rs xs : List ValType) (p : Bool) → xs ≡ ty.params → p ≡ pointwise same.eq-value.it xs ps → p ≡ false → Decides p (ty ≡ signature ps rs)
other_params ty ps rs xs p shown eq differs = (λ t. absurd (false≢true (sym differs ∙ t)), λ e. (one_list xs ps p eq).1 (shown ∙ ap (λ (t : FuncType). t.params) e))

-- where they are these, the results decide
pub results_decide : (ty : FuncType) (ps rs xs ys : List ValType) (p r : Bool) → xs ≡ ty.params → ys ≡ ty.results → p ≡ pointwise same.eq-value.it xs ps → p ≡ true → r ≡ pointwise same.eq-value.it ys rs → Decides r (ty ≡ signature ps rs)
results_decide ty ps rs xs ys p r shown shows eq here eqr =
    let params : ty.params ≡ ps = sym shown ∙ (one_list xs ps p eq).0 here in (
      λ t. let results : ty.results ≡ rs = sym shows ∙ (one_list ys rs r eqr).0 t in λ i. record { params = params i; results = results i },
      λ e. (one_list ys rs r eqr).1 (shows ∙ ap (λ (t : FuncType). t.results) e),
    )
