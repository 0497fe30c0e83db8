-- The functions of a module to which adapters are added are those that these have with its fuel: adapter by adapter its own, and the helpers that these,
-- and helpers in turn, are the first to ask for.
use Rattle.std.proofs.Common.{◌≡◌, ℕ, zero, suc, ◌+◌, ◌-◌, ◌<◌, ◌≤◌, ◌⊎◌, false, ◌||◌, List, [], ◌∷◌, ◌++◌, Some, refl, sym, ap, ◌∙◌, subst, arith, inl, inr, append-nil, append_assoc, length, length-append, map, nat_eq, slice_get, Contains}
use Rattle.std.specs.List.{AllZip, flat_map, range_with_len}
use Rattle.std.proofs.lemmas.Bool.Decides.{eqb_tells}
use Rattle.std.proofs.lemmas.List.Elements.{Contains-append_cases}
use Rattle.std.proofs.lemmas.List.Folds.{list_any-append}
use Rattle.fact_wasm.specs.declared.instr.FuncName.TheVariants as func
use Rattle.fact_wasm.specs.declared.module.WasmExport.{WasmExport}
use Rattle.fact_wasm.specs.declared.module.WasmFunc.{WasmFunc}
use Rattle.fact_machine.specs.Trace.{Grows}
use Rattle.fact_machine.specs.Typing.{is_exported, same_function}
use Rattle.fact_machine.proofs.Tests.{get_append}
use Rattle.fact_types.specs.Adapters.{LinkedAdapter}
use Rattle.fact_types.specs.Tables.{Tables}
use Rattle.fact_actions.specs.Adapters.{AdapterTunables}
use Rattle.fact_actions.specs.Outlining.{AdapterComes, AreFollowing, AreFunctions, AreNew, HelperKey, NoAdapters, OutlinedFunction, helper_asks, helper_function, own_asks, own_function}
use Rattle.fact_plan_types.proofs.HandleLaws.{there as get-within}
use Rattle.fact_emit.specs.Asked.{AskedHelper}
use Rattle.fact_emit.specs.ImportSection.{adapter_mentions, mentions}
use Rattle.fact_emit.specs.Imports.{AreOnce, Extended}
use Rattle.fact_emit.specs.Listed.{AreImportedInTurn, ListsMentions}
use Rattle.fact_emit.specs.States.{KeepsDefined, ModuleSoFar, next_number}
use Rattle.fact_emit.specs.declared.helpers.Helper.{Helper}
use Rattle.fact_emit.proofs.ImportLaws.{extended_on}
use Rattle.fact_emit.proofs.ImportedInTurn.{imported_adapter}
use Rattle.fact_compound.specs.Asks.{helpers_from}
use Rattle.fact_compound.specs.Helpers.{WroteHelper}
use Rattle.fact_compound.specs.declared.adapters.AdapterData.{AdapterData}
use Rattle.fact_compound.proofs.HelpersUsed.{among}
use Rattle.fact_assembly.specs.Sound.{IsSoundAdapter}
use Rattle.fact_assembly.specs.Adding.{Adds, AsParts, AsSync, AsTrap, CompiledAs, Given, helper_functions, numbered_for, own_functions}
use Rattle.fact_assembly.specs.Exports.{exported_functions_of}
use Rattle.fact_assembly.specs.Holding.{HasNoSharedMemory, HoldTypesOnce, named_from, own_names}
use Rattle.fact_assembly.specs.ImportedData.{imports_of_data}
use Rattle.fact_assembly.proofs.AddedFunctions.{AddsBehind, behind-kept, compiled-behind, helpers-behind, numbers-kept, own_callees}
use Rattle.fact_assembly.proofs.CompiledLaws.{helpers-extended, own-count}
use Rattle.fact_assembly.proofs.FollowingKeys.{HasAskedKeys, HasFollowing, IsKeyedState, asked-keys, behind-at, following, zip-at, zip-count, zip-more, zip-on}
use Rattle.fact_assembly.proofs.HelperHistory.{helpers-end}
use Rattle.fact_assembly.proofs.HelperParts.{KeepsHelpers, keeps-imported, kept_imported}
use Rattle.fact_assembly.proofs.KeyedAsks.{helper-keys, own-keys}
use Rattle.fact_assembly.proofs.KeyedHelpers.{IsKey, one-helper, one-key}
use Rattle.fact_assembly.proofs.NameLaws.{get-behind}
use Rattle.fact_assembly.proofs.NewKeys.{AreOnceThere, HaveKeys}
use Rattle.fact_assembly.proofs.OnceAsked.{once-wrote}
use Rattle.fact_assembly.proofs.OwnAsks.{AsksHelpers, ByName, HasOwnAsks, asked-there, asks-later, own-asked}
use Rattle.fact_assembly.proofs.OwnLaws.{known_of}
use Rattle.fact_assembly.proofs.WholeExports.{names-counted}

-- ---- functions, adapter by adapter

-- The functions of adapters, where these keys were asked for before, and these then.
pub data AreFunctionsUpto (fuel : ℕ) : (known : List HelperKey) → List LinkedAdapter → List OutlinedFunction → (all : List HelperKey) → Type 0 where
  NoneCame : (known : List HelperKey) → AreFunctionsUpto fuel known [] [] known
  OneCame : (known : List HelperKey) (a : LinkedAdapter) (adapters : List LinkedAdapter) (new middle behind : List HelperKey) (functions : List OutlinedFunction) (all : List HelperKey)
      → AreNew known (flat_map (λ ks. ks) (own_asks fuel a)) new → AreFollowing fuel (known ++ new) new middle behind → AreFunctionsUpto fuel middle adapters functions all
      → AreFunctionsUpto fuel known (a ∷ adapters) (map own_function (own_asks fuel a) ++ (map (helper_function fuel) (new ++ behind) ++ functions)) all

pub functions-are : {fuel : ℕ} {known all : List HelperKey} {adapters : List LinkedAdapter} {functions : List OutlinedFunction} → AreFunctionsUpto fuel known adapters functions all → AreFunctions fuel known adapters functions
functions-are (NoneCame known) = NoAdapters known
functions-are {fuel} (OneCame known a adapters new middle behind functions all are follow rest) =
    subst (λ fs. AreFunctions fuel known (a ∷ adapters) fs) (append_assoc (map own_function (own_asks fuel a)) (map (helper_function fuel) (new ++ behind)) functions)
    (AdapterComes known a adapters new middle behind functions are follow (functions-are rest))

-- those of one adapter, with its helpers
abbrev functions-of : (fuel : ℕ) → LinkedAdapter → List HelperKey → List OutlinedFunction
functions-of fuel a keys = map own_function (own_asks fuel a) ++ map (helper_function fuel) keys

one-came : {fuel : ℕ} {known all : List HelperKey} {adapters : List LinkedAdapter} {functions : List OutlinedFunction} → AreFunctionsUpto fuel known adapters functions all → (a : LinkedAdapter) (new last behind : List HelperKey)
    → AreNew all (flat_map (λ ks. ks) (own_asks fuel a)) new → AreFollowing fuel (all ++ new) new last behind → AreFunctionsUpto fuel known (adapters ++ a ∷ []) (functions ++ functions-of fuel a (new ++ behind)) last
one-came {fuel} (NoneCame known) a new last behind are follow =
    let end : map (helper_function fuel) (new ++ behind) ++ [] ≡ map (helper_function fuel) (new ++ behind) = append-nil (map (helper_function fuel) (new ++ behind)) in
    subst (λ fs. AreFunctionsUpto fuel known (a ∷ []) (map own_function (own_asks fuel a) ++ fs) last) end (OneCame known a [] new last behind [] last are follow (NoneCame last))
one-came {fuel} {all = all} (OneCame known b adapters first middle thence functions all' came follows rest) a new last behind are follow =
    let more : List OutlinedFunction = functions-of fuel a (new ++ behind) in
    let own : List OutlinedFunction = map own_function (own_asks fuel b) in
    let helpers : List OutlinedFunction = map (helper_function fuel) (first ++ thence) in
    let moved : (own ++ (helpers ++ functions)) ++ more ≡ own ++ (helpers ++ (functions ++ more)) = append_assoc own (helpers ++ functions) more ∙ ap (λ fs. own ++ fs) (append_assoc helpers functions more) in
    subst (λ fs. AreFunctionsUpto fuel known (b ∷ (adapters ++ a ∷ [])) fs last) (sym moved) (OneCame known b (adapters ++ a ∷ []) first middle thence (functions ++ more) last came follows (one-came rest a new last behind are follow))

-- ---- lists

zip-by-places : {X Y : Type 0} (R : X → Y → Type 0) (xs : List X) (ys : List Y) → length xs ≡ length ys → ((i : ℕ) (x : X) (y : Y) → slice_get xs i ≡ Some x → slice_get ys i ≡ Some y → R x y) → AllZip R xs ys
zip-by-places R [] [] even h = tt
zip-by-places R [] (y ∷ ys) even h = absurd (omega (arith, even))
zip-by-places R (x ∷ xs) [] even h = absurd (omega (arith, even))
zip-by-places R (x ∷ xs) (y ∷ ys) even h = (h 0 x y refl refl, zip-by-places R xs ys (omega (arith, even)) (λ i z w e g. h (suc i) z w e g))

zip-mapped : {X Y Z : Type 0} (R : X → Z → Type 0) (f : Y → Z) (xs : List X) (ys : List Y) → AllZip (λ x y. R x (f y)) xs ys → AllZip R xs (map f ys)
zip-mapped R f [] [] h = tt
zip-mapped R f [] (y ∷ ys) h = absurd h
zip-mapped R f (x ∷ xs) [] h = absurd h
zip-mapped R f (x ∷ xs) (y ∷ ys) h = (h.0, zip-mapped R f xs ys h.1)

helpers-joined : (n : ℕ) (ks ls : List Helper) → helpers_from n ks ++ helpers_from (n + length ks) ls ≡ helpers_from n (ks ++ ls)
helpers-joined n [] ls = let same : n + length {A = Helper} [] ≡ n = omega arith in ap (λ m. helpers_from m ls) same
helpers-joined n (k ∷ ks) ls = let next : n + length (k ∷ ks) ≡ suc n + length ks = omega arith in ap (λ es. (k, n) ∷ es) (ap (λ m. helpers_from (suc n) ks ++ helpers_from m ls) next ∙ helpers-joined (suc n) ks ls)

helpers-count : (n : ℕ) (ks : List Helper) → length (helpers_from n ks) ≡ length ks
helpers-count n [] = refl
helpers-count n (k ∷ ks) = ap suc (helpers-count (suc n) ks)

-- helpers that stand behind so many functions have theirs in the places of their numbers
placed-behind : (fuel n : ℕ) (front : List OutlinedFunction) (more : List Helper) (ks : List HelperKey) → length front ≡ n → length more ≡ length ks
    → AllZip (λ (e : Helper × ℕ) k. slice_get (front ++ map (helper_function fuel) ks) e.1 ≡ Some (helper_function fuel k)) (helpers_from n more) ks
placed-behind fuel n front [] [] count even = tt
placed-behind fuel n front [] (k ∷ ks) count even = absurd (omega (arith, even))
placed-behind fuel n front (h ∷ more) [] count even = absurd (omega (arith, even))
placed-behind fuel n front (h ∷ more) (k ∷ ks) count even =
    let all : List OutlinedFunction = front ++ map (helper_function fuel) (k ∷ ks) in
    let at : n ≡ length front + 0 = omega (arith, count) in
    let here : slice_get all n ≡ Some (helper_function fuel k) = ap (slice_get all) at ∙ get-behind front (map (helper_function fuel) (k ∷ ks)) 0 in
    let moved : (front ++ helper_function fuel k ∷ []) ++ map (helper_function fuel) ks ≡ all = append_assoc front (helper_function fuel k ∷ []) (map (helper_function fuel) ks) in
    let rest = placed-behind fuel (suc n) (front ++ helper_function fuel k ∷ []) more ks (omega (arith, count, length-append front (helper_function fuel k ∷ []))) (omega (arith, even)) in
    (here, subst (λ fs. AllZip (λ (e : Helper × ℕ) l. slice_get fs e.1 ≡ Some (helper_function fuel l)) (helpers_from (suc n) more) ks) moved rest)

-- ---- exports

other-number : (k n : ℕ) → (k ≡ n → ⊥) → nat_eq k n ≡ false
other-number k n other = elim (eqb_tells k n) [
  | inl e ↦ absurd (other e.1)
  | inr e ↦ e.0
]

named-out : (k n : ℕ) (names : List (List ℕ)) → (k < n) ⊎ (n + length names ≤ k) → is_exported (func.Defined k) (named_from n names) ≡ false
named-out k n [] out = refl
named-out k n (x ∷ names) out =
    let first : nat_eq k n ≡ false = other-number k n (λ same. elim out [ inl lt ↦ omega (arith, lt, same) | inr ge ↦ omega (arith, ge, same) ]) in
    let rest : is_exported (func.Defined k) (named_from (suc n) names) ≡ false = named-out k (suc n) names (elim out [ inl lt ↦ inl (omega (arith, lt)) | inr ge ↦ inr (omega (arith, ge)) ]) in
    (λ i. first i || rest i)

unexported-both : (k : ℕ) (xs ys : List WasmExport) → is_exported (func.Defined k) xs ≡ false → is_exported (func.Defined k) ys ≡ false → is_exported (func.Defined k) (xs ++ ys) ≡ false
unexported-both k xs ys g h = list_any-append (λ (e : WasmExport). same_function (func.Defined k) e.func) xs ys ∙ (λ i. g i || h i)

callees-out : (k : ℕ) {end : ModuleSoFar} {t : Tables} {d : AdapterData} {u : AdapterTunables} {a : LinkedAdapter} {old new : ModuleSoFar} (c : CompiledAs end t d u a old new) → is_exported (func.Defined k) (own_callees c) ≡ false
callees-out k (AsTrap within c) = refl
callees-out k (AsSync crosses sync c) = refl
callees-out k (AsParts awaited c) = refl

-- ---- a module so far

module _ (t : Tables) (u : AdapterTunables) (given : Given) (s : ModuleSoFar) (types : HoldTypesOnce t given.cores) (once : AreOnce s) where
  abbrev IsKeyHere : Helper → HelperKey → Type 0
  IsKeyHere h k = IsKey t given.cores s h k

  abbrev keys-once : (h : Helper) (k l : HelperKey) → IsKeyHere h k → IsKeyHere h l → k ≡ l
  keys-once = one-key t given.cores s

  abbrev helpers-once : (h g : Helper) (k : HelperKey) → IsKeyHere h k → IsKeyHere g k → h ≡ g
  helpers-once = one-helper t given.cores s types once

  -- The functions of a module so far are those of these adapters: each helper has its place by its number, each function asks for helpers that are there,
  -- and none of these is exported.
  pub record IsOutlinedUpto (m : ModuleSoFar) (adapters : List LinkedAdapter) : Type 0 where
    pub known : List HelperKey
    pub functions : List OutlinedFunction
    pub are : AreFunctionsUpto given.fuel [] adapters functions known
    pub state : IsKeyedState IsKeyHere keys-once helpers-once m known
    pub numbered : m.numbered ≤ length m.functions
    pub placed : AllZip (λ (e : Helper × ℕ) k. slice_get functions e.1 ≡ Some (helper_function given.fuel k)) m.helpers known
    pub each : AllZip (AsksHelpers IsKeyHere m) m.functions functions
    pub hidden : (e : Helper × ℕ) → Contains m.helpers e → is_exported (func.Defined e.1) m.exports ≡ false
    pub ahead : (k : ℕ) → length m.functions ≤ k → is_exported (func.Defined k) m.exports ≡ false
    pub uncalled : (k : ℕ) → is_exported (func.Defined k) m.callees ≡ false

  module _ {old new : ModuleSoFar} {before : List LinkedAdapter} {a : LinkedAdapter} {tuple : ℕ} (lists : ListsMentions old (mentions before) before) (add : Adds t u given old new a tuple) (later : Extended new s) (sound : IsSoundAdapter a) (unshared : HasNoSharedMemory a)
      (x : IsOutlinedUpto old before) where
    in-turn : AreImportedInTurn old add.imported (adapter_mentions a)
    in-turn = imported_adapter old add.imported a (imports_of_data add.«data») add.is_imported

    keeps : KeepsHelpers old add.imported
    keeps = keeps-imported (adapter_mentions a) old add.imported in-turn

    kept : KeepsDefined old add.imported
    kept = kept_imported (adapter_mentions a) old add.imported in-turn

    abbrev start : ModuleSoFar
    start = numbered_for a add.imported

    abbrev own-fs : List WasmFunc
    own-fs = own_functions add.compiled

    abbrev written : List WasmFunc
    written = helper_functions add

    abbrev last : ModuleSoFar
    last = add.helpers.last

    start-numbers : start.numbered ≡ length start.functions + length own-fs
    start-numbers = omega (arith, own-count add.compiled, x.numbered, ap length kept.functions, keeps.numbered)

    start-state : IsKeyedState IsKeyHere keys-once helpers-once start x.known
    start-state = record {
      keyed = subst (λ es. HaveKeys IsKeyHere keys-once helpers-once es x.known) (sym keeps.helpers) x.state.keyed;
      once = subst AreOnceThere (sym keeps.helpers) x.state.once;
      below = λ e c. let lt = x.state.below e (subst (λ es. Contains es e) keeps.helpers c) in omega (arith, lt, keeps.numbered, ap length kept.functions);
    }

    abbrev asked-for : List HelperKey
    asked-for = flat_map (λ ks. ks) (own_asks given.fuel a)

    own : HasOwnAsks IsKeyHere add sound (own-keys add (mentions before) (known_of lists) later unshared) own-fs (own_asks given.fuel a)
    own = own-asked IsKeyHere add sound (own-keys add (mentions before) (known_of lists) later unshared) start-numbers

    asked : HasAskedKeys IsKeyHere keys-once helpers-once start add.own x.known asked-for
    asked = asked-keys IsKeyHere keys-once helpers-once add.asks x.known asked-for add.asked own.order (own.once start-state.once) start-state own.all

    -- the keys that its functions ask for anew wait in the places of their helpers
    waiting : AllZip (λ p k. slice_get (x.known ++ asked.fresh) p ≡ Some k) (range_with_len (length add.imported.helpers) (length add.own.helpers - length add.imported.helpers)) asked.fresh
    waiting =
        let first : length add.imported.helpers ≡ length x.known = zip-count (λ (e : Helper × ℕ) k. IsKeyHere e.0 k) add.imported.helpers x.known start-state.keyed in
        let all : length add.own.helpers ≡ length (x.known ++ asked.fresh) = zip-count (λ (e : Helper × ℕ) k. IsKeyHere e.0 k) add.own.helpers (x.known ++ asked.fresh) asked.state.keyed in
        let count : length add.own.helpers - length add.imported.helpers ≡ length asked.fresh = omega (arith, first, all, length-append x.known asked.fresh) in
        subst (λ n. AllZip (λ p k. slice_get (x.known ++ asked.fresh) p ≡ Some k) (range_with_len (length add.imported.helpers) n) asked.fresh) (sym count)
        (subst (λ n. AllZip (λ p k. slice_get (x.known ++ asked.fresh) p ≡ Some k) (range_with_len n (length asked.fresh)) asked.fresh) (sym first) (behind-at x.known asked.fresh))

    abbrev keys-of-helper : (h : Helper) (o n : ModuleSoFar) (f : WasmFunc) (w : WroteHelper t u.debug u.concurrency given.fuel h o n f) (key : HelperKey) → IsKeyHere h key → AllZip (λ (y : AskedHelper) k. IsKeyHere y.key k) w.asks (helper_asks given.fuel key)
    keys-of-helper = helper-keys t given.cores s

    abbrev once-still : (h : Helper) (o n : ModuleSoFar) (f : WasmFunc) → WroteHelper t u.debug u.concurrency given.fuel h o n f → AreOnceThere o.helpers → AreOnceThere n.helpers
    once-still h o n f w = once-wrote w

    follows : HasFollowing IsKeyHere keys-once helpers-once keys-of-helper once-still last (x.known ++ asked.fresh) asked.fresh
    follows = following IsKeyHere keys-once helpers-once keys-of-helper once-still (x.known ++ asked.fresh) asked.fresh add.helpers.wrote.in_turn asked.state waiting

    abbrev fresh : List HelperKey
    fresh = asked.fresh ++ follows.behind

    all-known : follows.all ≡ x.known ++ fresh
    all-known = follows.all_is ∙ append_assoc x.known asked.fresh follows.behind

    -- ---- its functions

    added : AddsBehind old new (own-fs ++ written) (own_names a) (own_callees add.compiled)
    added = helpers-behind (behind-kept kept (behind-kept (numbers-kept add.imported (length (exported_functions_of a))) (compiled-behind add.name add.compiled))) add.helpers

    abbrev own-part : List OutlinedFunction
    own-part = map own_function (own_asks given.fuel a)

    abbrev outlined : List OutlinedFunction
    outlined = x.functions ++ functions-of given.fuel a fresh

    old-count : length old.functions ≡ length x.functions
    old-count = zip-count (AsksHelpers IsKeyHere old) old.functions x.functions x.each

    own-even : length own-fs ≡ length own-part
    own-even = zip-count (AsksHelpers IsKeyHere add.own) own-fs own-part own.each

    start-next : next_number start ≡ length (x.functions ++ own-part)
    start-next = omega (arith, start-numbers, ap length kept.functions, old-count, own-even, length-append x.functions own-part)

    -- ---- its helpers

    abbrev more : List Helper
    more = add.asked.new_asked.more ++ add.helpers.wrote.asked.new_asked.more

    new-helpers : new.helpers ≡ add.imported.helpers ++ helpers_from (next_number start) more
    new-helpers =
        let first : List Helper = add.asked.new_asked.more in
        let second : List Helper = add.helpers.wrote.asked.new_asked.more in
        let n : ℕ = next_number start in
        ap (λ (q : ModuleSoFar). q.helpers) add.helpers.is ∙ add.helpers.wrote.asked.new_asked.helpers ∙ ap (λ es. es ++ helpers_from (next_number add.own) second) add.asked.new_asked.helpers
        ∙ append_assoc add.imported.helpers (helpers_from n first) (helpers_from (next_number add.own) second)
        ∙ ap (λ es. add.imported.helpers ++ es) (ap (λ m. helpers_from n first ++ helpers_from m second) add.asked.new_asked.next ∙ helpers-joined n first second)

    new-keyed : HaveKeys IsKeyHere keys-once helpers-once new.helpers follows.all
    new-keyed = subst (λ es. HaveKeys IsKeyHere keys-once helpers-once es follows.all) (sym (ap (λ (q : ModuleSoFar). q.helpers) add.helpers.is)) follows.state.keyed

    known-count : length add.imported.helpers ≡ length x.known
    known-count = zip-count (λ (e : Helper × ℕ) k. IsKeyHere e.0 k) add.imported.helpers x.known start-state.keyed

    fresh-count : length more ≡ length fresh
    fresh-count =
        let all : length new.helpers ≡ length follows.all = zip-count (λ (e : Helper × ℕ) k. IsKeyHere e.0 k) new.helpers follows.all new-keyed in
        omega (arith, all, ap length new-helpers, length-append add.imported.helpers (helpers_from (next_number start) more), helpers-count (next_number start) more, ap length all-known, length-append x.known fresh, known-count)

    new-state : IsKeyedState IsKeyHere keys-once helpers-once new follows.all
    new-state = record {
      keyed = new-keyed;
      once = subst AreOnceThere (sym (ap (λ (q : ModuleSoFar). q.helpers) add.helpers.is)) follows.state.once;
      below = λ e c. add.there.writable.below e c;
    }

    new-placed : AllZip (λ (e : Helper × ℕ) k. slice_get outlined e.1 ≡ Some (helper_function given.fuel k)) new.helpers follows.all
    new-placed =
        let Is : Helper × ℕ → HelperKey → Type 0 = λ e k. slice_get outlined e.1 ≡ Some (helper_function given.fuel k) in
        let was : AllZip Is old.helpers x.known = zip-more (λ (e : Helper × ℕ) k. slice_get x.functions e.1 ≡ Some (helper_function given.fuel k)) Is (λ e k h. get_append x.functions (functions-of given.fuel a fresh) e.1 (helper_function given.fuel k) h) old.helpers x.known x.placed in
        let was-imported : AllZip Is add.imported.helpers x.known = subst (λ es. AllZip Is es x.known) (sym keeps.helpers) was in
        let moved : (x.functions ++ own-part) ++ map (helper_function given.fuel) fresh ≡ outlined = append_assoc x.functions own-part (map (helper_function given.fuel) fresh) in
        let anew : AllZip Is (helpers_from (next_number start) more) fresh =
        subst (λ fs. AllZip (λ (e : Helper × ℕ) k. slice_get fs e.1 ≡ Some (helper_function given.fuel k)) (helpers_from (next_number start) more) fresh) moved
        (placed-behind given.fuel (next_number start) (x.functions ++ own-part) more fresh (sym start-next) fresh-count) in
        subst (λ es. AllZip Is es follows.all) (sym new-helpers)
        (subst (λ ks. AllZip Is (add.imported.helpers ++ helpers_from (next_number start) more) ks) (sym all-known)
        (zip-on Is add.imported.helpers (helpers_from (next_number start) more) x.known fresh was-imported anew))

    -- ---- what they ask for

    from-old : Grows old.helpers new.helpers
    from-old = record { more = helpers_from (next_number start) more; is = new-helpers ∙ ap (λ es. es ++ helpers_from (next_number start) more) keeps.helpers }

    helper-asks : (i : ℕ) (f : WasmFunc) (k : HelperKey) → slice_get written i ≡ Some f → slice_get fresh i ≡ Some k → AsksHelpers IsKeyHere new f (helper_function given.fuel k)
    helper-asks i f k e g =
        let first : ℕ = length add.imported.helpers in
        let key : slice_get follows.all (first + i) ≡ Some k = (λ j. slice_get (all-known j) (known-count j + i)) ∙ get-behind x.known fresh i ∙ g in
        let within = slice-within written i f e in
        let entry = get-within last.helpers (first + i) (omega (arith, within, add.helpers.wrote.count)) in
        let wrote = add.helpers.wrote.all (first + i) entry.0 (omega arith) entry.1 in
        let back : (first + i) - first ≡ i = omega arith in
        let alike : Some wrote.0 ≡ Some f = sym wrote.1 ∙ ap (slice_get written) back ∙ e in
        let same : wrote.0 ≡ f = cc in
        let is : IsKeyHere entry.0.0 k = zip-at (λ (y : Helper × ℕ) l. IsKeyHere y.0 l) last.helpers follows.all (first + i) entry.0 k follows.state.keyed entry.1 key in
        let w = wrote.2.wrote in
        let grown = extended_on wrote.2.later (helpers-end add.helpers) in
        subst (λ h. AsksHelpers IsKeyHere new h (helper_function given.fuel k)) same
        (asks-later IsKeyHere wrote.2.written new grown.helpers wrote.0 (helper_function given.fuel k) (ByName w.asks w.named (keys-of-helper entry.0.0 wrote.2.before wrote.2.written wrote.0 w k is) (asked-there t u.debug u.concurrency wrote.2.written w.asks w.asked.asked)))
      where
        slice-within : {X : Type 0} (xs : List X) (n : ℕ) (y : X) → slice_get xs n ≡ Some y → n < length xs
        slice-within [] n y h = cc
        slice-within (z ∷ xs) zero y h = omega arith
        slice-within (z ∷ xs) (suc n) y h = let rest = slice-within xs n y h in omega (arith, rest)

    new-each : AllZip (AsksHelpers IsKeyHere new) new.functions outlined
    new-each =
        let Asks : WasmFunc → OutlinedFunction → Type 0 = AsksHelpers IsKeyHere new in
        let were : AllZip Asks old.functions x.functions = zip-more (AsksHelpers IsKeyHere old) Asks (λ f y h. asks-later IsKeyHere old new from-old f y h) old.functions x.functions x.each in
        let owns : AllZip Asks own-fs own-part = zip-more (AsksHelpers IsKeyHere add.own) Asks (λ f y h. asks-later IsKeyHere add.own new (helpers-extended add.helpers).helpers f y h) own-fs own-part own.each in
        let even : length written ≡ length fresh =
        omega (arith, add.helpers.wrote.count, ap (λ (q : ModuleSoFar). length q.helpers) add.helpers.is, zip-count (λ (e : Helper × ℕ) k. IsKeyHere e.0 k) new.helpers follows.all new-keyed, ap length all-known, length-append x.known fresh, known-count) in
        let helped : AllZip Asks written (map (helper_function given.fuel) fresh) = zip-mapped Asks (helper_function given.fuel) written fresh (zip-by-places (λ f k. Asks f (helper_function given.fuel k)) written fresh even helper-asks) in
        subst (λ fs. AllZip Asks fs outlined) (sym added.functions)
        (zip-on Asks old.functions (own-fs ++ written) x.functions (own-part ++ map (helper_function given.fuel) fresh) were (zip-on Asks own-fs written own-part (map (helper_function given.fuel) fresh) owns helped))

    -- ---- what is exported

    unexported : (k : ℕ) → is_exported (func.Defined k) old.exports ≡ false → (k < length old.functions) ⊎ (length old.functions + length (own_names a) ≤ k) → is_exported (func.Defined k) new.exports ≡ false
    unexported k was out = ap (is_exported (func.Defined k)) added.exports ∙ unexported-both k old.exports (named_from (length old.functions) (own_names a)) was (named-out k (length old.functions) (own_names a) out)

    counted : length (own_names a) ≡ length own-fs
    counted = names-counted a ∙ sym (own-count add.compiled)

    new-hidden : (e : Helper × ℕ) → Contains new.helpers e → is_exported (func.Defined e.1) new.exports ≡ false
    new-hidden e c = elim (Contains-append_cases add.imported.helpers (helpers_from (next_number start) more) e (subst (λ es. Contains es e) new-helpers c)) [
      | inl was ↦
          let before-it = subst (λ es. Contains es e) keeps.helpers was in
          let lt = x.state.below e before-it in
          unexported e.1 (x.hidden e before-it) (inl (omega (arith, lt, x.numbered)))
      | inr anew ↦
          let at = among (next_number start) more e anew in
          let high : length old.functions + length (own_names a) ≤ e.1 = omega (arith, at.number, start-numbers, ap length kept.functions, counted) in
          unexported e.1 (x.ahead e.1 (omega (arith, high))) (inr high)
    ]

    new-ahead : (k : ℕ) → length new.functions ≤ k → is_exported (func.Defined k) new.exports ≡ false
    new-ahead k le =
        let high : length old.functions + length (own_names a) ≤ k = omega (arith, le, ap length added.functions, length-append old.functions (own-fs ++ written), length-append own-fs written, counted) in
        unexported k (x.ahead k (omega (arith, high))) (inr high)

    -- With one adapter more they are those of all.
    pub outlined-more : IsOutlinedUpto new (before ++ a ∷ [])
    outlined-more = record {
      known = follows.all;
      functions = outlined;
      are = one-came x.are a asked.fresh follows.all follows.behind (subst (λ ks. AreNew x.known asked-for ks) asked.fresh_is asked.new_keys.are) follows.are;
      state = new-state;
      numbered = add.there.numbered;
      placed = new-placed;
      each = new-each;
      hidden = new-hidden;
      ahead = new-ahead;
      uncalled = λ k. ap (is_exported (func.Defined k)) added.callees_are ∙ unexported-both k old.callees (own_callees add.compiled) (x.uncalled k) (callees-out k add.compiled);
    }
