-- What definitions are used as: equal by `==` where it is the same, and gathered of an adapter.
use Rattle.std.proofs.Common.{◌≡◌, true, Bool, List, [], ◌∷◌, ◌++◌, Option, Some, refl, sym, ap, ◌∙◌}
use Rattle.std.proofs.lemmas.List.{append_assoc}
use Rattle.std.specs.Bool.{beq}
use Rattle.std.specs.Cmp.{first_so, second_so}
use Rattle.std.proofs.lemmas.Bool.{eqb-true, true≢false}
use Rattle.fact_wasm.specs.declared.types.FuncType.{FuncType}
use Rattle.fact_wasm.proofs.Signatures.{exact_func}
use Rattle.fact_types.specs.Exact.{exact_bool}
use Rattle.fact_adapter_rules.specs.declared.uses.Use.{Use}
use Rattle.fact_adapter_rules.specs.declared.uses.Use.TheVariants.{FlagGlobal, Memory, Function}
use Rattle.fact_types.specs.declared.outside.CoreDef.{CoreDef}
use Rattle.fact_builder.specs.Builder.{Builder}
use Rattle.fact_adapter_rules.specs.AdapterRules.{bound, callee_uses, def_in, memory_use, side_uses, uses_of}
use Rattle.fact_adapter_rules.specs.Linked.{IsSideOf}
use Rattle.fact_adapter_rules.specs.declared.adapter.AdapterOptionsDfg.{AdapterOptionsDfg}
use Rattle.fact_entity.specs.declared.id.Id.{Id}
use Rattle.fact_entity.specs.declared.table.TypeFuncs.{TypeFuncs}
use Rattle.fact_types.specs.Adapters.{LinkedAdapter, Side, is_wide}
use Rattle.fact_types.specs.ImportTypes.{callback_type, realloc_type}
use Rattle.fact_types.specs.declared.outside.CoreDef.TheVariants as def
use Rattle.fact_adapter_rules.specs.contracts.uses.UsePartialEq.TheImpl as use_eq

pub exact_use : (a b : Use) → use_eq.ghosts.eq a b ≡ true → a ≡ b
exact_use FlagGlobal FlagGlobal h = refl
exact_use (Memory w p) (Memory x q) h =
    let e1 = exact_bool w x (first_so _ _ h) in
    let e2 = eqb-true p q (second_so (beq w x) _ h) in
    λ i. Memory (e1 i) (e2 i)
exact_use (Function f) (Function g) h = let e = exact_func f g h in λ i. Function (e i)
exact_use a b h = absurd (true≢false (sym h))

-- all that an adapter uses, in the order in which it is gathered
pub uses-gathered : (a : LinkedAdapter) (p q r s : List (CoreDef × Use)) (callee : CoreDef) (ty : FuncType) (post_return : Option CoreDef) (o : Option FuncType)
    → p ≡ [] → q ≡ p ++ side_uses a.lift → r ≡ q ++ side_uses a.lower → s ≡ r ++ callee_uses callee ty post_return
    → a.callee ≡ callee → o ≡ Some ty → o ≡ Some a.lift.core_type → a.lift.post_return ≡ post_return → s ≡ uses_of a
uses-gathered a p q r s callee ty post_return o none lift lower rest is_callee found is_ty is_post_return =
    let x = side_uses a.lift in
    let y = side_uses a.lower in
    let same_ty : ty ≡ a.lift.core_type = inside (sym found ∙ is_ty) in
    rest ∙ ap (λ l. l ++ callee_uses callee ty post_return) (lower ∙ ap (λ l. l ++ y) (lift ∙ ap (λ l. l ++ x) none)) ∙ append_assoc x y (callee_uses callee ty post_return)
    ∙ λ i. x ++ (y ++ callee_uses (sym is_callee i) (same_ty i) (sym is_post_return i))
  where
    inside : {X : Type 0} {m n : X} → Some m ≡ Some n → m ≡ n
    inside e = cc

-- what options are used for, as it is pushed part by part
abbrev option_uses : AdapterOptionsDfg → List (CoreDef × Use)
option_uses o =
    (def.InstanceFlags o.instance, FlagGlobal)
    ∷ (bound (def_in o.memory) (memory_use o.memory) ++ (bound o.realloc (Function (realloc_type (is_wide o.memory))) ++ bound o.callback (Function callback_type)))

side_uses-options : (b : Builder) (ty : Id TypeFuncs) (o : AdapterOptionsDfg) (s : Side) → IsSideOf b ty o s → side_uses s ≡ option_uses o
side_uses-options b ty o s h = simp (h.instance, h.memory, h.realloc, h.callback)

pub side-gathered : (o : AdapterOptionsDfg) (old p q r new : List (CoreDef × Use)) (x : Use) (wide : Bool) (realloc callback : FuncType)
    → p ≡ old ++ (def.InstanceFlags o.instance, FlagGlobal) ∷ [] → q ≡ p ++ bound (def_in o.memory) x → r ≡ q ++ bound o.realloc (Function realloc) → new ≡ r ++ bound o.callback (Function callback)
    → x ≡ memory_use o.memory → wide ≡ is_wide o.memory → realloc ≡ realloc_type wide → callback ≡ callback_type
    → (b : Builder) (ty : Id TypeFuncs) (s : Side) → IsSideOf b ty o s → new ≡ old ++ side_uses s
side-gathered o old p q r new x wide realloc callback first second third last is_use is_wide is_realloc is_callback b ty s h =
    simp (last, third, second, first, is_use, is_realloc, is_wide, is_callback, side_uses-options b ty o s h, append_assoc)
