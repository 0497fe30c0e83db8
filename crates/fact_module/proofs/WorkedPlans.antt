-- The plans of worked modules: what they promise is looked up.
use Rattle.std.proofs.Common.{◌≡◌, ℕ, List, [], ◌∷◌, Some, refl, ap, ◌∙◌, subst, not, ◌&&◌, All, IsTrue}
use Rattle.std.proofs.lemmas.List.Elements.{All-head}
use Rattle.fact_wasm.specs.declared.instr.FuncName.TheVariants as func
use Rattle.fact_wasm.specs.declared.module.WasmModule.{WasmModule}
use Rattle.fact_types.specs.declared.import.Import.{Import}
use Rattle.fact_types.specs.Adapters.{LinkedAdapter, is_async, is_crossing}
use Rattle.fact_plan.specs.declared.plan.FusePlan.{FusePlan}
use Rattle.fact_adapter_rules.specs.Adapters.{adapters_of}
use Rattle.fact_actions.specs.Adapters.{AdapterTunables}
use Rattle.fact_function_laws.specs.Runs.{Behaves}
use Rattle.fact_function_laws.specs.Worked.{u32_adapter, u32_imports, u32_module}
use Rattle.fact_function_laws.specs.WorkedTexts.{texts_adapter, texts_imports, texts_module}
use Rattle.fact_module.specs.declared.fusion.Fused.{Fused}
use Rattle.fact_assembly.specs.Exports.{exported_as}
use Rattle.fact_assembly.specs.Faithful.{adapter_tunables}
use Rattle.fact_module.specs.Fused.{features_of, tunables_of}
use Rattle.fact_module.specs.WorkedPlans.{IsWorkedPlan, OneNumberIsPromised, OneTextIsPromised, texts_plan, u32_plan}

module _ (p : FusePlan) (m : WasmModule) (is : List Import) (a : LinkedAdapter) where
  abbrev u : AdapterTunables
  u = adapter_tunables (tunables_of p) (features_of p)

  -- an adapter of a fused module behaves where its name is that of an export
  abbrev BehavesIn : Fused → LinkedAdapter → Type 0
  BehavesIn f b = IsTrue (not (is_async b) && is_crossing b) → (k : ℕ) → exported_as b.name f.module.exports ≡ Some (func.Defined k) → Behaves f.module f.imports u b k

  looked_up : adapters_of p ≡ a ∷ [] → IsTrue (not (is_async a) && is_crossing a) → exported_as a.name m.exports ≡ Some (func.Defined 0) → IsWorkedPlan p m is a
  looked_up one sync exported = record {
    adapters = one;
    behaves = λ f fused e i.
        let all : All (BehavesIn f) (a ∷ []) = subst (All (BehavesIn f)) one fused.promised.faithful.behaves in
        let here = All-head (BehavesIn f) a [] all sync 0 (ap (λ (m : WasmModule). exported_as a.name m.exports) e ∙ exported) in
        subst (λ (m : WasmModule). Behaves m is u a 0) e (subst (λ (is : List Import). Behaves f.module is u a 0) i here);
  }

pub one_number_is_promised : OneNumberIsPromised
one_number_is_promised = looked_up u32_plan u32_module u32_imports u32_adapter refl refl refl

pub one_text_is_promised : OneTextIsPromised
one_text_is_promised = looked_up texts_plan texts_module texts_imports texts_adapter refl refl refl
