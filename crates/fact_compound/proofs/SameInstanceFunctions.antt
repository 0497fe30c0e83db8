-- The function of an adapter within one instance, and the module that it is put into.
use Rattle.std.proofs.Common.{◌≡◌, ℕ, suc, Bool, true, false, List, [], ◌∷◌, ◌++◌, Option, Some, None, refl, sym, ap, ◌∙◌, subst, arith, length, reverse, slice_get}
use Rattle.std.specs.List.{list_all}
use Rattle.fact_wasm.specs.CoreTypes.{signature}
use Rattle.fact_wasm.specs.declared.instr.FuncName.TheVariants as func
use Rattle.fact_wasm.specs.declared.instr.Instr.{the_lemmas}
use Rattle.fact_wasm.specs.declared.module.WasmFunc.{WasmFunc}
use Rattle.fact_wasm.specs.declared.module.WasmModule.{WasmModule}
use Rattle.fact_wasm.specs.declared.types.FuncType.{FuncType}
use Rattle.fact_wasm.specs.declared.types.ValType.{ValType}
use Rattle.fact_wasm.specs.Ranges.{AreRanged}
use Rattle.fact_types.specs.Adapters.{LinkedAdapter}
use Rattle.fact_types.specs.Functions.{HasSignature}
use Rattle.fact_types.specs.Shapes.{Shape}
use Rattle.fact_types.specs.Signatures.{lower_by, lower_signature}
use Rattle.fact_types.specs.Tables.{Tables}
use Rattle.fact_types.specs.declared.import.Import.TheVariants as import
use Rattle.fact_types.specs.declared.outside.Trap.TheVariants.{CannotEnterComponent}
use Rattle.fact_types.specs.declared.signature.SideSig.{SideSig}
use Rattle.fact_types.specs.declared.signature.Signature.{Signature}
use Rattle.fact_machine.specs.Exits.{entry_locals}
use Rattle.fact_machine.specs.Typing.{Operands, Open, declares_numbers, ends, is_empty, is_typed_body, is_typed_function, local_types, pop_all}
use Rattle.fact_machine.proofs.Tests.{both}
use Rattle.fact_actions.specs.Adapters.{lower_signature_of, same_instance}
use Rattle.fact_actions.specs.Running.{ImportPlaces}
use Rattle.fact_code_laws.specs.Code.{trap_code}
use Rattle.fact_code_laws.specs.Does.{Onward, Does}
use Rattle.fact_code_laws.specs.Knows.{KnowsFunction}
use Rattle.fact_code_laws.specs.PieceLaws.{HaveResultTypes}
use Rattle.fact_code_laws.specs.Typed.{Never, IsTyped}
use Rattle.fact_code_laws.proofs.Primitives.{calls_trap}
use Rattle.fact_code_laws.proofs.TypedShapes.{typed_trap}
use Rattle.fact_emit.specs.Imports.{AreOnce, Extended, HasImport}
use Rattle.fact_emit.specs.NamedFunctions.{imported_named}
use Rattle.fact_emit.specs.States.{HasType, IsTrapImported, KeepsDefined, ModuleSoFar, export_as, functions_of, globals_of, memories_of}
use Rattle.fact_emit.proofs.BroughtLaws.{brought_runtime}
use Rattle.fact_emit.proofs.DefinedKept.{defined_brought, defined_type, extended_defined}
use Rattle.fact_emit.proofs.Emitting.{serves_imported}
use Rattle.fact_emit.proofs.ImportLaws.{extended_on, grown_get}
use Rattle.fact_emit.proofs.ServingLaws.{serves_sooner}
use Rattle.fact_compound.specs.SameInstance.{CompiledSameInstance, DescribesLower, IsSameInstanceFunction, TrapFunction}
use Rattle.fact_compound.specs.Syncs.{lower_type_of}
use Rattle.fact_compound.specs.declared.adapters.AdapterData.{AdapterData}
use Rattle.fact_compound.proofs.WholeFunctions.{once_same}
use Rattle.fact_compound.proofs.AsksLaws.{defined_new, new_on, runtime_new, type_new}

-- ---- the function

-- code that is not reached has any results at its end
any_results : (ts : List ValType) → pop_all ts (Open []) ≡ Some (Open [])
any_results [] = refl
any_results (t ∷ ts) = any_results ts

never_ends : (ts : List ValType) → ends ts (Some (Open [])) ≡ true
never_ends ts = ap (λ o. elim o as (λ (o : Option Operands). Bool) [ None ↦ false | Some s ↦ is_empty s ]) (any_results (reverse ts))

module _ {M : WasmModule} {p : ImportPlaces} {place : ℕ} (has : KnowsFunction M p (import.Trap CannotEnterComponent) place [] []) (f : WasmFunc) (none : f.locals ≡ []) (is : f.body ≡ trap_code place) where
  trap_typed : (t : FuncType) → slice_get M.types f.ty ≡ Some t → is_typed_function M f ≡ true
  trap_typed t there =
      let code : IsTyped M (t.params ++ local_types f.locals) (t.results ∷ []) f.body [] Never = subst (λ c. IsTyped M (t.params ++ local_types f.locals) (t.results ∷ []) c [] Never) (sym is) (typed_trap has) in
      let body : is_typed_body M f t ≡ true = ap (ends t.results) (code.by [] []) ∙ never_ends t.results in
      both (ap (list_all declares_numbers) none) (ap (λ o. elim o as (λ (o : Option FuncType). Bool) [ None ↦ false | Some t ↦ is_typed_body M f t ]) there ∙ body)

  is_same_instance : (a : LinkedAdapter) → IsSameInstanceFunction a M p f
  is_same_instance a = record {
    does = λ args h. subst (λ c. Does M p Onward 1 0 [] (entry_locals f args) c same_instance reverse (HaveResultTypes (lower_type_of a))) (sym is) (calls_trap has);
    typed = λ there. trap_typed (lower_type_of a) there;
  }

pub trap_function : {old new : ModuleSoFar} {ty place : ℕ} {f : WasmFunc} → IsTrapImported old new CannotEnterComponent place → HasImport new (import.Trap CannotEnterComponent) place [] [] → Extended old new → (AreOnce old → AreOnce new)
    → f.ty ≡ ty → f.locals ≡ [] → f.body ≡ trap_code place → TrapFunction ty old new f
trap_function {place = place} {f} imported there imports once ty none is = record {
  place = place;
  imported = imported;
  imports = imports;
  once = once;
  serves = λ M p s a. is_same_instance (serves_imported refl s there) f none is a;
  ty = ty;
  locals = none;
  body = is;
}

-- ---- the module

trap_named : (place : ℕ) → imported_named (trap_code place) ≡ place ∷ []
trap_named place = simp the_lemmas

trap_ranged : (place : ℕ) → AreRanged (suc place) 0 (trap_code place)
trap_ranged place = (simp the_lemmas (omega arith, tt), (simp the_lemmas tt, tt))

-- what the core signature of a lower side hangs on
pub record IsLowerSide (s : SideSig) (d : AdapterData) : Type 0 where
  pub ty_is : s.ty ≡ d.lower.ty
  pub mark : s.async_ ≡ d.lower.options.async_
  pub wide : s.memory64 ≡ d.lower.options.linear.memory64

module _ {t : Tables} {d : AdapterData} {lower : Signature} (side : SideSig) (lower_are : (ps rs : List Shape) → HasSignature t side.ty ps rs → lower ≡ lower_signature side ps rs) (of : IsLowerSide side d) where
  lower_of : {a : LinkedAdapter} → DescribesLower t d a → lower ≡ lower_signature_of a
  lower_of {a} h =
      lower_are a.lower.params a.lower.results (subst (λ i. HasSignature t i a.lower.params a.lower.results) (sym of.ty_is) h.signature)
      ∙ (λ i. lower_by ((of.mark ∙ sym h.mark) i) ((of.wide ∙ sym h.wide) i) a.lower.params a.lower.results)

  pub compiled_same_instance : {s0 s1 s2 s3 s4 : ModuleSoFar} {n k : ℕ} {f : WasmFunc} → slice_get s1.types n ≡ Some (signature lower.params lower.results) → HasType s0 s1 (signature lower.params lower.results) → Extended s0 s1 → (AreOnce s0 → AreOnce s1)
      → TrapFunction n s1 s2 f → k ≡ length s2.functions → s3 ≡ record s2 { functions = s2.functions ++ f ∷ [] } → s4 ≡ record s3 { exports = s3.exports ++ export_as d.name (func.Defined k) ∷ [] } → CompiledSameInstance t d s0 s4
  compiled_same_instance {s0} {s1} {s2} {s3} {s4} {n} {k} {f} place has keeps once w number defined exported =
      let same : s4 ≡ record s2 { functions = s2.functions ++ f ∷ []; exports = s2.exports ++ export_as d.name (func.Defined k) ∷ [] } = exported ∙ ap (λ (s : ModuleSoFar). record s { exports = s.exports ++ export_as d.name (func.Defined k) ∷ [] }) defined in
      let brought = brought_runtime (ap imported_named w.body ∙ trap_named w.place) (subst (AreRanged (suc w.place) 0) (sym w.body) (trap_ranged w.place)) w.imported in
      let before : KeepsDefined s0 s1 = defined_type has in
      let kept : KeepsDefined s1 s2 = defined_brought brought in
      let count : k ≡ length s0.functions = number ∙ ap length (kept.functions ∙ before.functions) in
      let last : Extended s2 s4 = extended_defined (ap (λ (s : ModuleSoFar). s.types) same) (ap (λ (s : ModuleSoFar). s.section) same) (ap (λ (s : ModuleSoFar). s.imports) same) (ap (λ (s : ModuleSoFar). s.helpers) same) (ap (λ (s : ModuleSoFar). s.numbered) same) in
      record {
        function = f;
        ty = signature lower.params lower.results;
        declared = s1;
        declares = has;
        written = s2;
        brought = brought;
        place = w.place;
        body = w.body;
        is_last = same ∙ ap (λ j. record s2 { functions = s2.functions ++ f ∷ []; exports = s2.exports ++ export_as d.name (func.Defined j) ∷ [] }) number;
        functions = ap (λ (s : ModuleSoFar). s.functions) same ∙ ap (λ fs. fs ++ f ∷ []) (kept.functions ∙ before.functions);
        exports = ap (λ (s : ModuleSoFar). s.exports) same ∙ ap (λ es. es ++ export_as d.name (func.Defined k) ∷ []) (kept.exports ∙ before.exports) ∙ ap (λ j. s0.exports ++ export_as d.name (func.Defined j) ∷ []) count;
        imports = extended_on keeps (extended_on w.imports last);
        none_asked = λ ahead. new_on (type_new has) (new_on (runtime_new w.imported)
            (defined_new f (ap (λ (s : ModuleSoFar). s.helpers) same) (ap (λ (s : ModuleSoFar). s.numbered) same) (ap (λ (s : ModuleSoFar). s.functions) same) (omega (arith, ahead, ap length (kept.functions ∙ before.functions), keeps.numbered, w.imports.numbered))));
        once = λ o. once_same (ap functions_of same) (ap memories_of same) (ap globals_of same) (ap (λ (s : ModuleSoFar). s.types) same) (ap (λ (s : ModuleSoFar). s.section) same) (w.once (once o));
        typed = λ a h.
            let at : slice_get s4.types n ≡ Some (signature lower.params lower.results) = grown_get last.types n _ (grown_get w.imports.types n _ place) in
            ap (slice_get s4.types) w.ty ∙ at ∙ ap (λ (s : Signature). Some (signature s.params s.results)) (lower_of h);
        is = λ a h M p serves. w.serves M p (serves_sooner last serves) a;
      }
