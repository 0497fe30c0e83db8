-- In a later module each helper that was asked for does its moves: those that it asks for itself are of lower types.
use Rattle.std.proofs.Common.{◌≡◌, ℕ, zero, suc, ◌<◌, Bool, List, [], ◌∷◌, refl, sym, ap, subst, arith, Contains, slice_get}
use Rattle.std.specs.List.{AllByRecursion}
use Rattle.std.proofs.lemmas.List.Elements.{Contains-append_left}
use Rattle.fact_wasm.specs.declared.module.WasmModule.{WasmModule}
use Rattle.fact_types.specs.Heights.{height}
use Rattle.fact_types.specs.Tables.{Tables}
use Rattle.fact_actions.specs.Running.{ImportPlaces}
use Rattle.fact_emit.specs.Asked.{AskedHelper, HasHelper, HasHelpers, entry_of}
use Rattle.fact_emit.specs.Imports.{Extended}
use Rattle.fact_emit.specs.States.{ModuleSoFar}
use Rattle.fact_emit.specs.declared.helpers.Helper.{Helper}
use Rattle.fact_emit.proofs.ImportLaws.{grown_get, grows_on}
use Rattle.fact_emit.proofs.ServingLaws.{serves_sooner}
use Rattle.fact_compound.specs.Asks.{IsAskedHere, IsLaterModule}
use Rattle.fact_compound.specs.Helpers.{AreLower, HasFunctionOf, HasTypedHelper, HelpersAreThere, asked_as}

-- what is asked for is what the module has a number for
asked_is : {t : Tables} {debug concurrency : Bool} {s : ModuleSoFar} (a : AskedHelper) → IsAskedHere t debug concurrency s a → asked_as t debug concurrency (entry_of a) ≡ a
asked_is a h = λ i. record { tables = sym h.tables i; key = a.key; number = a.number; debug = sym h.debug_is i; concurrency = sym h.concurrency_is i }

module _ {t : Tables} {debug concurrency : Bool} {fuel : ℕ} {s : ModuleSoFar} (h : HelpersAreThere t debug concurrency fuel s) {M : WasmModule} {p : ImportPlaces} (later : IsLaterModule M p s) where
  -- those that were asked for in a state from which the module goes on
  all_asked : (k : Helper) {at : ModuleSoFar} → Extended at s → (asks : List AskedHelper) → AllByRecursion (IsAskedHere t debug concurrency at) asks → AreLower t k asks
      → ((e : Helper × ℕ) → Contains s.helpers e → height t e.0.dst.ty < height t k.dst.ty → HasHelper M p (asked_as t debug concurrency e)) → HasHelpers M p asks
  all_asked k x [] asked lower has = tt
  all_asked k {at} x (a ∷ asks) asked lower has =
      let there : Contains s.helpers (entry_of a) = subst (λ es. Contains es (entry_of a)) (sym x.helpers.is) (Contains-append_left at.helpers x.helpers.more (entry_of a) asked.0.there) in
      (subst (HasHelper M p) (asked_is a asked.0) (has (entry_of a) there lower.0), all_asked k x asks asked.1 lower.1 has)

  upto : (n : ℕ) (e : Helper × ℕ) (c : Contains s.helpers e) → height t e.0.dst.ty < n → HasTypedHelper M p (asked_as t debug concurrency e) (h.all e c).function
  upto zero e c lt = absurd (omega (arith, lt))
  upto (suc n) e c lt =
      let x : HasFunctionOf t debug concurrency fuel s e = h.all e c in
      x.wrote.is e.1 M p (serves_sooner x.later later.serves) (grows_on x.later.types later.types) (grown_get later.functions e.1 x.function x.there)
      (all_asked e.0 x.later x.wrote.asks x.wrote.asked.asked x.wrote.lower (λ e' c' lt'. (upto n e' c' (omega (arith, lt, lt'))).has))

  -- Each helper is there, and typed.
  pub typed_helper : (e : Helper × ℕ) (c : Contains s.helpers e) → HasTypedHelper M p (asked_as t debug concurrency e) (h.all e c).function
  typed_helper e c = upto (suc (height t e.0.dst.ty)) e c (omega arith)

  -- All that code asks for is there.
  pub have_asked : {at : ModuleSoFar} → Extended at s → (asks : List AskedHelper) → AllByRecursion (IsAskedHere t debug concurrency at) asks → HasHelpers M p asks
  have_asked x [] asked = tt
  have_asked {at} x (a ∷ asks) asked =
      let there : Contains s.helpers (entry_of a) = subst (λ es. Contains es (entry_of a)) (sym x.helpers.is) (Contains-append_left at.helpers x.helpers.more (entry_of a) asked.0.there) in
      (subst (HasHelper M p) (asked_is a asked.0) (typed_helper (entry_of a) there).has, have_asked x asks asked.1)
