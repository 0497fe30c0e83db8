-- A module that holds adapters, and one more.
use Rattle.std.proofs.Common.{◌≡◌, ◌≢◌, ℕ, zero, suc, ◌+◌, ◌<◌, ◌≤◌, List, [], ◌∷◌, ◌++◌, Some, AllPairs, refl, sym, ap, ◌∙◌, subst, arith, length, length-append, slice_get, append-nil, inl, inr, Contains}
use Rattle.std.specs.List.{flat_map}
use Rattle.std.proofs.lemmas.Option.{slice_get_within}
use Rattle.fact_wasm.specs.declared.instr.FuncName.{FuncName}
use Rattle.fact_wasm.specs.declared.module.WasmFunc.{WasmFunc}
use Rattle.fact_machine.proofs.Tests.{get_append}
use Rattle.fact_adapter_rules.specs.Bindings.{AreConsistent}
use Rattle.fact_adapter_rules.specs.AdapterRules.{export_names, uses_of}
use Rattle.fact_types.specs.Adapters.{LinkedAdapter}
use Rattle.fact_types.specs.Tables.{Tables}
use Rattle.fact_actions.specs.Adapters.{AdapterTunables}
use Rattle.fact_emit.specs.ImportSection.{adapter_mentions, mentions}
use Rattle.fact_emit.specs.Imports.{Extended}
use Rattle.fact_emit.specs.Known.{AreUsedAlike}
use Rattle.fact_emit.specs.Listed.{AreImportedInTurn}
use Rattle.fact_emit.specs.States.{ModuleSoFar, module_of, nothing_so_far}
use Rattle.fact_emit.specs.declared.helpers.Helper.{Helper}
use Rattle.fact_emit.proofs.ImportLaws.{extended_none, extended_on, grows_none, grows_on}
use Rattle.fact_emit.proofs.ImportedInTurn.{imported_adapter}
use Rattle.fact_emit.proofs.ImportLists.{last-or-before}
use Rattle.fact_assembly.specs.Sound.{IsSoundAdapter}
use Rattle.fact_assembly.specs.Adding.{Adds, Given, helper_functions, own_functions}
use Rattle.fact_assembly.specs.Exports.{exported_as, exported_functions_of}
use Rattle.fact_assembly.specs.Holding.{HasAdded, Holds, NoneAdded, OneMore, count_at, counts_behind, first_count, first_function, function_count, named_from, numbered, own_names}
use Rattle.fact_assembly.specs.ImportedData.{imports_of_data}
use Rattle.fact_assembly.proofs.AddedFunctions.{AddsBehind, behind-kept, compiled-behind, helpers-behind, numbers-kept, own_callees}
use Rattle.fact_assembly.proofs.AlikeLaws.{alike_next}
use Rattle.fact_assembly.proofs.CompiledLaws.{added-extended, own-count}
use Rattle.fact_assembly.proofs.HelperParts.{kept_imported}
use Rattle.fact_assembly.proofs.LiftNamed.{imported-grown}
use Rattle.fact_assembly.proofs.NameLaws.{exported-still, get-behind}
use Rattle.fact_assembly.proofs.OwnLaws.{known_of}
use Rattle.fact_assembly.proofs.PartLaws.{bodies_adapter, callees_adapter, in_parts_adapter, in_parts_nothing, listed_adapter, listed_nothing}
use Rattle.fact_assembly.proofs.WholeExports.{numbered-behind}

pub holds-nothing : (t : Tables) (u : AdapterTunables) (given : Given) (tuples : ℕ → ℕ) → Holds t u given nothing_so_far [] tuples
holds-nothing t u given tuples = record {
  added = NoneAdded;
  lists = listed_nothing;
  in_parts = in_parts_nothing;
  bodies = tt;
  counts = [];
  each_counted = refl;
  exports = refl;
  callees = tt;
  count = refl;
  helpers = record {
    all = λ e c. absurd (none-there e c);
    writable = record { all = λ e c. absurd (none-there e c); below = λ e c. absurd (none-there e c) };
    numbered = omega arith;
  };
  placed = λ k a e. cc;
}
  where
    none-there : (e : Helper × ℕ) → Contains [] e → ⊥
    none-there e c = omega (arith, c.1)

-- ---- how many functions adapters have

function-count-behind : (cs ds : List ℕ) (xs ys : List LinkedAdapter) → length cs ≡ length xs → function_count (cs ++ ds) (xs ++ ys) ≡ function_count cs xs + function_count ds ys
function-count-behind [] ds [] ys even = omega arith
function-count-behind [] ds (x ∷ xs) ys even = absurd (omega (arith, even))
function-count-behind (c ∷ cs) ds [] ys even = absurd (omega (arith, even))
function-count-behind (c ∷ cs) ds (x ∷ xs) ys even = let rest = function-count-behind cs ds xs ys (omega (arith, even)) in omega (arith, rest)

-- the first functions of adapters stay where others come behind
first-stays : (counts more : List ℕ) (adapters others : List LinkedAdapter) (k : ℕ) → length counts ≡ length adapters → k ≤ length adapters → first_function (counts ++ more) (adapters ++ others) k ≡ first_function counts adapters k
first-stays counts more adapters others zero even h = refl
first-stays [] more [] others (suc k) even h = absurd (omega (arith, h))
first-stays [] more (x ∷ adapters) others (suc k) even h = absurd (omega (arith, even))
first-stays (c ∷ counts) more [] others (suc k) even h = absurd (omega (arith, even))
first-stays (c ∷ counts) more (x ∷ adapters) others (suc k) even h = ap (λ n. length (exported_functions_of x) + c + n) (first-stays counts more adapters others k (omega (arith, even)) (omega (arith, h)))

first-all : (counts : List ℕ) (adapters : List LinkedAdapter) → first_function counts adapters (length adapters) ≡ function_count counts adapters
first-all counts [] = refl
first-all counts (x ∷ adapters) = ap (λ n. length (exported_functions_of x) + first_count counts + n) (first-all (counts_behind counts) adapters)

-- so do their counts
count-stays : (counts more : List ℕ) (k : ℕ) → k < length counts → count_at (counts ++ more) k ≡ count_at counts k
count-stays [] more k h = absurd (omega (arith, h))
count-stays (c ∷ counts) more zero h = refl
count-stays (c ∷ counts) more (suc k) h = count-stays counts more k (omega (arith, h))

count-last : (counts : List ℕ) (n k : ℕ) → length counts ≡ k → count_at (counts ++ n ∷ []) k ≡ n
count-last [] n zero h = refl
count-last [] n (suc k) h = absurd (omega (arith, h))
count-last (c ∷ counts) n zero h = absurd (omega (arith, h))
count-last (c ∷ counts) n (suc k) h = count-last counts n k (omega (arith, h))

-- ---- one adapter more

module _ (t : Tables) (u : AdapterTunables) (given : Given) (old new : ModuleSoFar) (adapters : List LinkedAdapter) (a : LinkedAdapter) (tuples : ℕ → ℕ) {tuple : ℕ} (consistent : AreConsistent (flat_map uses_of (adapters ++ a ∷ [])))
    (h : Holds t u given old adapters tuples) (add : Adds t u given old new a tuple) where
  in-turn : AreImportedInTurn old add.imported (adapter_mentions a)
  in-turn = imported_adapter old add.imported a (imports_of_data add.«data») add.is_imported

  -- what was there stays there
  pub grown-adds : Extended old new
  grown-adds = extended_on (imported-grown add (mentions adapters) (known_of h.lists)) (added-extended add)

  alike-here : AreUsedAlike (mentions adapters ++ adapter_mentions a)
  alike-here = alike_next adapters a consistent

  abbrev functions : List WasmFunc
  functions = own_functions add.compiled ++ helper_functions add

  -- its functions stand behind the others, with their exports, and then its helpers
  pub added : AddsBehind old new (own_functions add.compiled ++ helper_functions add) (own_names a) (own_callees add.compiled)
  added =
      helpers-behind
      (behind-kept (kept_imported (adapter_mentions a) old add.imported in-turn) (behind-kept (numbers-kept add.imported (length (exported_functions_of a))) (compiled-behind add.name add.compiled)))
      add.helpers

  pub functions-more : new.functions ≡ old.functions ++ (own_functions add.compiled ++ helper_functions add)
  functions-more = added.functions

  -- What was exported under a name still is, as no name is exported twice.
  pub exports-more : AllPairs (λ x y. x ≢ y) (flat_map export_names (adapters ++ a ∷ [])) → (name : List ℕ) (f : FuncName) → exported_as name (old.exports ++ old.callees) ≡ Some f → exported_as name (new.exports ++ new.callees) ≡ Some f
  exports-more distinct name f e =
      ap (exported_as name) (λ k. added.exports k ++ added.callees_are k)
      ∙ exported-still (module_of old) old.imports adapters a distinct old.exports old.callees (own_callees add.compiled) (length old.functions) h.callees name f e

  last-placed : HasAdded t u given new a (length old.functions) (length (helper_functions add)) tuple
  last-placed = record {
    old = old;
    new = new;
    before = adapters;
    lists = h.lists;
    adds = add;
    first_is = refl;
    count_is = refl;
    later = extended_none refl;
    functions_there = λ i f e.
        ap (λ fs. slice_get fs (length old.functions + i)) added.functions ∙ get-behind old.functions functions i ∙ get_append (own_functions add.compiled) (helper_functions add) i f e;
    functions_later = grows_none refl;
  }

  placed-more : (b : LinkedAdapter) (first count number : ℕ) → HasAdded t u given old b first count number → HasAdded t u given new b first count number
  placed-more b first count number p = record {
    old = p.old;
    new = p.new;
    before = p.before;
    lists = p.lists;
    adds = p.adds;
    first_is = p.first_is;
    count_is = p.count_is;
    later = extended_on p.later grown-adds;
    functions_there = λ i f e. ap (λ fs. slice_get fs (first + i)) added.functions ∙ get_append old.functions functions (first + i) f (p.functions_there i f e);
    functions_later = grows_on p.functions_later (record { more = functions; is = added.functions });
  }

  placed-as : (b : LinkedAdapter) {first first' count count' number number' : ℕ} → first ≡ first' → count ≡ count' → number ≡ number' → HasAdded t u given new b first count number → HasAdded t u given new b first' count' number'
  placed-as b {first} {first'} {count} {count'} {number} {number'} f c n p =
      subst (λ k. HasAdded t u given new b first' count' k) n (subst (λ k. HasAdded t u given new b first' k number) c (subst (λ k. HasAdded t u given new b k count number) f p))

  abbrev all_counts : List ℕ
  all_counts = h.counts ++ length (helper_functions add) ∷ []

  -- The module of all, where the tuples of those before keep their numbers and the last one has its own.
  pub holds-more : IsSoundAdapter a → (numbers : ℕ → ℕ) → ((k : ℕ) → k < length adapters → numbers k ≡ tuples k) → numbers (length adapters) ≡ tuple → Holds t u given new (adapters ++ a ∷ []) numbers
  holds-more sound numbers kept last = record {
    added = OneMore old new adapters a tuple h.added h.lists add;
    lists = listed_adapter t u given old new adapters a tuple h.lists add in-turn alike-here sound added h.helpers;
    in_parts = in_parts_adapter t u given old new adapters a tuple h.lists add in-turn alike-here sound added h.helpers h.in_parts;
    bodies = bodies_adapter t u given old new adapters a tuple h.lists add in-turn alike-here sound added h.helpers h.bodies;
    counts = h.counts ++ length (helper_functions add) ∷ [];
    each_counted = omega (arith, h.each_counted, length-append h.counts (length (helper_functions add) ∷ []), length-append adapters (a ∷ []));
    exports =
        let counted : length old.functions ≡ 0 + function_count h.counts adapters = omega (arith, h.count) in
        added.exports ∙ (λ k. h.exports k ++ named_from (counted k) (own_names a))
        ∙ ap (λ es. numbered 0 h.counts adapters ++ es) (sym (append-nil (named_from (0 + function_count h.counts adapters) (own_names a))))
        ∙ sym (numbered-behind 0 h.counts (length (helper_functions add) ∷ []) adapters (a ∷ []) h.each_counted);
    callees = callees_adapter t u given old new adapters a tuple h.lists add in-turn alike-here sound added h.helpers grown-adds h.callees;
    count =
        let more = ap length added.functions in
        let own = own-count add.compiled in
        omega (arith, more, length-append old.functions functions, length-append (own_functions add.compiled) (helper_functions add), h.count, own, function-count-behind h.counts (length (helper_functions add) ∷ []) adapters (a ∷ []) h.each_counted);
    helpers = add.there;
    placed = λ k b e. elim (last-or-before adapters a k b e) [
      | inl there ↦
          let within = slice_get_within adapters k b there in
          let first : first_function h.counts adapters k ≡ first_function all_counts (adapters ++ a ∷ []) k = sym (first-stays h.counts (length (helper_functions add) ∷ []) adapters (a ∷ []) k h.each_counted (omega (arith, within))) in
          let count : count_at h.counts k ≡ count_at all_counts k = sym (count-stays h.counts (length (helper_functions add) ∷ []) k (omega (arith, within, h.each_counted))) in
          placed-as b first count (sym (kept k within)) (placed-more b (first_function h.counts adapters k) (count_at h.counts k) (tuples k) (h.placed k b there))
      | inr at_last ↦
          let first : length old.functions ≡ first_function all_counts (adapters ++ a ∷ []) (length adapters) =
          h.count ∙ sym (first-all h.counts adapters) ∙ sym (first-stays h.counts (length (helper_functions add) ∷ []) adapters (a ∷ []) (length adapters) h.each_counted (omega arith)) in
          let count : length (helper_functions add) ≡ count_at all_counts (length adapters) = sym (count-last h.counts (length (helper_functions add)) (length adapters) h.each_counted) in
          let here : HasAdded t u given new a (first_function all_counts (adapters ++ a ∷ []) (length adapters)) (count_at all_counts (length adapters)) (numbers (length adapters)) = placed-as a first count (sym last) last-placed in
          subst (λ n. HasAdded t u given new b (first_function all_counts (adapters ++ a ∷ []) n) (count_at all_counts n) (numbers n)) (sym at_last.0)
          (subst (λ x. HasAdded t u given new x (first_function all_counts (adapters ++ a ∷ []) (length adapters)) (count_at all_counts (length adapters)) (numbers (length adapters))) at_last.1 here)
    ];
  }
