-- The module's functions are those that its adapters have with its fuel, and each calls the helpers that it asks for.
use Rattle.std.proofs.Common.{◌≡◌, ℕ, zero, suc, ◌||◌, false, List, [], ◌∷◌, ◌++◌, Some, All, refl, sym, ap, ◌∙◌, subst, arith, map, slice_get, Contains}
use Rattle.std.specs.List.{AllByRecursion, AllZip, flat_map}
use Rattle.std.proofs.lemmas.List.Elements.{Contains-append_left, Contains-push}
use Rattle.std.proofs.lemmas.List.Folds.{list_any-append}
use Rattle.fact_wasm.specs.declared.instr.FuncName.TheVariants as func
use Rattle.fact_wasm.specs.declared.module.WasmExport.{WasmExport}
use Rattle.fact_wasm.specs.declared.module.WasmFunc.{WasmFunc}
use Rattle.fact_wasm.specs.declared.types.FuncType.{FuncType}
use Rattle.fact_machine.specs.Typing.{is_exported, same_function}
use Rattle.fact_types.specs.Adapters.{LinkedAdapter}
use Rattle.fact_types.specs.Tables.{Tables}
use Rattle.fact_adapter_rules.specs.Bindings.{AreConsistent}
use Rattle.fact_adapter_rules.specs.AdapterRules.{uses_of}
use Rattle.fact_actions.specs.Adapters.{AdapterTunables}
use Rattle.fact_actions.specs.Outlining.{HelperKey, IsHelperAt, OutlinedFunction, helper_function}
use Rattle.fact_emit.specs.Asked.{AskedHelper, entry_of}
use Rattle.fact_emit.specs.ImportSection.{mentions}
use Rattle.fact_emit.specs.Imports.{AreOnce, Extended}
use Rattle.fact_emit.specs.States.{ModuleSoFar, module_of}
use Rattle.fact_emit.specs.declared.helpers.Helper.{Helper}
use Rattle.fact_emit.specs.declared.tunables.Tunables.{Tunables}
use Rattle.fact_emit.specs.declared.tunables.WasmFeatures.{WasmFeatures}
use Rattle.fact_emit.proofs.ImportLaws.{extended_none, extended_on}
use Rattle.fact_compound.proofs.WaitingHelpers.{in_get}
use Rattle.fact_assembly.specs.Sound.{IsSoundAdapter}
use Rattle.fact_assembly.specs.Adding.{Given}
use Rattle.fact_assembly.specs.Faithful.{adapter_tunables}
use Rattle.fact_assembly.specs.Holding.{AreAdded, HasNoSharedMemory, HoldTypesOnce, Holds, NoneAdded, OneMore}
use Rattle.fact_assembly.specs.Outlines.{CallsAsked, IsOutlined, defined_calls}
use Rattle.fact_assembly.proofs.CompiledLaws.{added-extended}
use Rattle.fact_assembly.proofs.KeyedHelpers.{IsKey, one-key}
use Rattle.fact_assembly.proofs.LiftNamed.{imported-grown}
use Rattle.fact_assembly.proofs.OutlinedAdded.{IsOutlinedUpto, NoneCame, functions-are, outlined-more}
use Rattle.fact_assembly.proofs.OwnAsks.{AsksHelpers, ByName, CallsNone}
use Rattle.fact_assembly.proofs.OwnLaws.{known_of}
use Rattle.fact_assembly.proofs.TypedCalls.{AreHidden, typed-calls}
use Rattle.fact_assembly.proofs.WholeEntries.{each_typed}
use Rattle.fact_assembly.proofs.WholeExports.{all-at}
use Rattle.fact_assembly.proofs.WholeFunctions.{once as imports-once}

none-there : (e : Helper × ℕ) → Contains [] e → ⊥
none-there e c = omega (arith, c.1)

-- ---- whichever adapters were added

module _ (t : Tables) (u : AdapterTunables) (given : Given) (s : ModuleSoFar) (adapters : List LinkedAdapter) (sound : All IsSoundAdapter adapters) (types : HoldTypesOnce t given.cores) (once : AreOnce s) (unshared : All HasNoSharedMemory adapters) where
  pub outlined-upto : {end : ModuleSoFar} {few : List LinkedAdapter} → AreAdded t u given end few → Extended end s → ((b : LinkedAdapter) → Contains few b → Contains adapters b) → IsOutlinedUpto t u given s types once end few
  outlined-upto NoneAdded later inside = record {
    known = [];
    functions = [];
    are = NoneCame [];
    state = record { keyed = tt; once = λ k m n c d. absurd (none-there (k, m) c); below = λ e c. absurd (none-there e c) };
    numbered = omega arith;
    placed = tt;
    each = tt;
    hidden = λ e c. absurd (none-there e c);
    ahead = λ k le. refl;
    uncalled = λ k. refl;
  }
  outlined-upto (OneMore old new before a tuple added lists adds) later inside =
      let grown : Extended old new = extended_on (imported-grown adds (mentions before) (known_of lists)) (added-extended adds) in
      let at = in_get adapters a (inside a (Contains-push before a)) in
      outlined-more t u given s types once lists adds later (all-at IsSoundAdapter adapters sound at.0 a at.1) (all-at HasNoSharedMemory adapters unshared at.0 a at.1)
      (outlined-upto added (extended_on grown later) (λ b c. inside b (Contains-append_left before (a ∷ []) b c)))

-- ---- the whole module

record HasPlaced (K : Helper → HelperKey → Type 0) (fuel : ℕ) (functions : List OutlinedFunction) (h : Helper) (n : ℕ) : Type 0 where
  key : HelperKey
  is : K h key
  there : slice_get functions n ≡ Some (helper_function fuel key)

module _ (K : Helper → HelperKey → Type 0) (one : (h : Helper) (k l : HelperKey) → K h k → K h l → k ≡ l) (fuel : ℕ) (functions : List OutlinedFunction) where
  placed-at : (es : List (Helper × ℕ)) (ks : List HelperKey) → AllZip (λ (e : Helper × ℕ) k. K e.0 k) es ks → AllZip (λ (e : Helper × ℕ) k. slice_get functions e.1 ≡ Some (helper_function fuel k)) es ks
      → (h : Helper) (n i : ℕ) → slice_get es i ≡ Some (h, n) → HasPlaced K fuel functions h n
  placed-at [] ks keyed placed h n i e = cc
  placed-at (x ∷ es) [] keyed placed h n i e = absurd keyed
  placed-at (x ∷ es) (k ∷ ks) keyed placed h n zero e =
      let same : x ≡ (h, n) = cc in
      subst (λ (y : Helper × ℕ). HasPlaced K fuel functions y.0 y.1) same (record { key = k; is = keyed.0; there = placed.0 })
  placed-at (x ∷ es) (k ∷ ks) keyed placed h n (suc i) e = placed-at es ks keyed.1 placed.1 h n i e

  module _ (es : List (Helper × ℕ)) (ks : List HelperKey) (keyed : AllZip (λ (e : Helper × ℕ) k. K e.0 k) es ks) (placed : AllZip (λ (e : Helper × ℕ) k. slice_get functions e.1 ≡ Some (helper_function fuel k)) es ks) where
    helpers-at : (asks : List AskedHelper) (ls : List HelperKey) → AllZip (λ (a : AskedHelper) k. K a.key k) asks ls → AllByRecursion (λ (a : AskedHelper). Contains es (entry_of a)) asks
        → AllZip (IsHelperAt functions) (map (λ (a : AskedHelper). a.number) asks) ls
    helpers-at [] [] h c = tt
    helpers-at [] (l ∷ ls) h c = absurd h
    helpers-at (a ∷ asks) [] h c = absurd h
    helpers-at (a ∷ asks) (l ∷ ls) h c =
        let at = in_get es (entry_of a) c.0 in
        let x = placed-at es ks keyed placed a.key a.number at.0 at.1 in
        let same : x.key ≡ l = one a.key x.key l x.is h.0 in
        (record { function = helper_function fuel x.key; there = x.there; is = ap Some same }, helpers-at asks ls h.1 c.1)

all-hidden : (s : ModuleSoFar) → ((e : Helper × ℕ) → Contains s.helpers e → is_exported (func.Defined e.1) (s.exports ++ s.callees) ≡ false) → (asks : List AskedHelper) → AllByRecursion (λ (a : AskedHelper). Contains s.helpers (entry_of a)) asks
    → AreHidden (module_of s) (map (λ (a : AskedHelper). a.number) asks)
all-hidden s h [] c = tt
all-hidden s h (a ∷ asks) c = (h (entry_of a) c.0, all-hidden s h asks c.1)

-- each function by its place
zip-places : {X Y : Type 0} (R S : X → Y → Type 0) (xs : List X) (ys : List Y) → AllZip R xs ys → ((k : ℕ) (x : X) (y : Y) → slice_get xs k ≡ Some x → R x y → S x y) → AllZip S xs ys
zip-places R S [] [] h f = tt
zip-places R S [] (y ∷ ys) h f = absurd h
zip-places R S (x ∷ xs) [] h f = absurd h
zip-places R S (x ∷ xs) (y ∷ ys) h f = (f 0 x y refl h.0, zip-places R S xs ys h.1 (λ k z w e r. f (suc k) z w e r))

pub outlined-module : (t : Tables) (tunables : Tunables) (features : WasmFeatures) (s : ModuleSoFar) (adapters : List LinkedAdapter) (tuples : ℕ → ℕ) (cores : List FuncType) → Holds t (adapter_tunables tunables features) (record { fuel = tunables.fuel; cores = cores }) s adapters tuples → All IsSoundAdapter adapters
    → AreConsistent (flat_map uses_of adapters) → HoldTypesOnce t cores → All HasNoSharedMemory adapters → IsOutlined (module_of s) tunables.fuel adapters
outlined-module t tunables features s adapters tuples cores h sound consistent types unshared =
    let u : AdapterTunables = adapter_tunables tunables features in
    let given : Given = record { fuel = tunables.fuel; cores = cores } in
    let once : AreOnce s = imports-once t u given s adapters tuples h sound consistent in
    let x = outlined-upto t u given s adapters sound types once unshared h.added (extended_none refl) (λ b c. c) in
    record { functions = x.functions; are_functions = functions-are x.are; one_by_one = zip-places (AsksHelpers (λ e k. IsKey t cores s e k) s) (CallsAsked x.functions) s.functions x.functions x.each (λ k f y e asks. by x k f y e asks) }
  where
    by : (x : IsOutlinedUpto t (adapter_tunables tunables features) (record { fuel = tunables.fuel; cores = cores }) s types (imports-once t (adapter_tunables tunables features) (record { fuel = tunables.fuel; cores = cores }) s adapters tuples h sound consistent) s adapters)
        → (k : ℕ) (f : WasmFunc) (y : OutlinedFunction) → slice_get s.functions k ≡ Some f → AsksHelpers (λ e k. IsKey t cores s e k) s f y → CallsAsked x.functions f y
    by x k f y e (CallsNone none nothing) =
        let lone : AllZip (IsHelperAt x.functions) [] [] = tt in
        record { calls = subst (λ ns. AllZip (IsHelperAt x.functions) ns y.asks) (sym none) (subst (λ ks. AllZip (IsHelperAt x.functions) [] ks) (sym nothing) lone) }
    by x k f y e (ByName asks named keys there) =
        let typed = (each_typed t (adapter_tunables tunables features) (record { fuel = tunables.fuel; cores = cores }) s adapters tuples h sound consistent k f e).typed in
        let out : (z : Helper × ℕ) → Contains s.helpers z → is_exported (func.Defined z.1) (s.exports ++ s.callees) ≡ false =
        λ z c. list_any-append (λ (v : WasmExport). same_function (func.Defined z.1) v.func) s.exports s.callees ∙ (λ i. x.hidden z c i || x.uncalled z.1 i) in
        let hidden = subst (AreHidden (module_of s)) (sym named) (all-hidden s out asks there) in
        let calls : defined_calls f.body ≡ map (λ (a : AskedHelper). a.number) asks = typed-calls (module_of s) f typed hidden ∙ named in
        record {
          calls = subst (λ ns. AllZip (IsHelperAt x.functions) ns y.asks) (sym calls)
              (helpers-at (λ e k. IsKey t cores s e k) (one-key t cores s) tunables.fuel x.functions s.helpers x.known x.state.keyed x.placed asks y.asks keys there);
        }
