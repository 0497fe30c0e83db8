-- An adapter's parts have the places that its data say, in every module that knows what was imported for it.
use Rattle.std.proofs.Common.{◌≡◌, ℕ, Bool, true, false, List, [], ◌∷◌, Option, Some, None, refl, sym, ap, ◌∙◌, subst}
use Rattle.std.specs.Prelude.{is_some}
use Rattle.fact_entity.specs.declared.id.Id.{Id}
use Rattle.fact_entity.specs.declared.table.Funcs.{Funcs}
use Rattle.fact_wasm.specs.declared.module.WasmModule.{WasmModule}
use Rattle.fact_wasm.specs.declared.types.FuncType.{FuncType}
use Rattle.fact_wasm.specs.declared.types.ValType.{ValType}
use Rattle.fact_types.specs.Adapters.{Side, LinkedAdapter, is_wide}
use Rattle.fact_types.specs.Signatures.{address, flat_values, lift_results_limit, lower_limit}
use Rattle.fact_machine.specs.Typing.{address_type}
use Rattle.fact_actions.specs.Sides.{options_of}
use Rattle.fact_types.specs.declared.import.Import.TheVariants as import
use Rattle.fact_types.specs.ImportTypes.{post_return_type}
use Rattle.fact_types.specs.declared.outside.CoreDef.{CoreDef}
use Rattle.fact_types.proofs.ShapeLaws.{same_some}
use Rattle.fact_actions.specs.Adapters.{flat_results, lift_signature_of}
use Rattle.fact_actions.specs.Running.{ImportPlaces}
use Rattle.fact_code_laws.specs.Knows.{KnowsFlags, KnowsFunction, KnowsMemory}
use Rattle.fact_emit.specs.Areas.{IsLinearMemoryOf}
use Rattle.fact_emit.specs.Requests.{IsReallocOf}
use Rattle.fact_emit.specs.AdapterImports.{AdapterImports, SideImports}
use Rattle.fact_emit.specs.ImportSection.{custom_page_size}
use Rattle.fact_emit.specs.KnownAdapters.{KnowsAdapter, KnowsFunctionAt, KnowsSide}
use Rattle.fact_emit.specs.Options.{number_if_any}
use Rattle.fact_emit.proofs.KnownImports.{linear_memory_of}
use Rattle.fact_compound.specs.Described.{HasNewTupleMemory, HasTupleMemory, KnowsAdapterData, KnowsPostReturn, KnowsSideData, linear_of}
use Rattle.fact_compound.specs.Placed.{AreOptionsOf, HasMemoriesFor, HasMemoryOption, HasReallocOption, IsDataOf}
use Rattle.fact_compound.specs.declared.adapters.AdapterOptions.{AdapterOptions}
use Rattle.fact_compound.specs.declared.adapters.AdapterData.{AdapterData}

wide_address : (m : Bool) → address m ≡ address_type m
wide_address true = refl
wide_address false = refl

-- the post-return takes what the callee gives
knows_post : (M : WasmModule) (p : ImportPlaces) {given results : List ValType} (n : Option (Id Funcs)) (o : Option CoreDef) (place : Option ℕ) → is_some n ≡ is_some o → number_if_any n ≡ place → results ≡ given
    → ((f : CoreDef) → o ≡ Some f → KnowsFunctionAt M p f (post_return_type results) place) → KnowsPostReturn M p given n o
knows_post M p None None place e at same knows = tt
knows_post M p {results = results} (Some n) (Some f) place e at same knows =
    let k = knows f refl in
    let number : n.number ≡ k.number = same_some (number_if_any (Some n)) n.number k.number refl (at ∙ k.place_is) in
    subst (λ ts. KnowsFunction M p (import.CoreDef f) n.number ts []) same (subst (λ i. KnowsFunction M p (import.CoreDef f) i (post_return_type results).params (post_return_type results).results) (sym number) k.knows)
knows_post M p None (Some f) place e at same knows = absurd (let no : false ≡ true = e in cc)
knows_post M p (Some n) None place e at same knows = absurd (let no : true ≡ false = e in cc)

module _ (M : WasmModule) (p : ImportPlaces) where
  module _ (s : Side) (at : SideImports) (o : AdapterOptions) (knows : KnowsSide M p s at) (options : AreOptionsOf s at o) where
    -- the memory of a side that has one
    side_memory : HasMemoryOption s → IsLinearMemoryOf M p (options_of s) (linear_of o)
    side_memory (m, is) =
        let here = knows.memory m is in
        let placed : Some here.number ≡ Some (linear_of o).memory = sym here.place_is ∙ options.memory m is in
        let same : here.number ≡ (linear_of o).memory = cc in
        linear_memory_of s m (linear_of o) is options.wide (options.page_size m is) (options.has_memory m is) options.encoding (subst (λ n. KnowsMemory M p m.def n m.memory64 (custom_page_size m.page_size_log2)) same here.knows)

    -- the realloc of a side that has one
    side_realloc : HasReallocOption s → IsReallocOf M p (options_of s) (linear_of o)
    side_realloc (f, is) =
        let here = knows.realloc f is in
        let typed : address (is_wide s.memory) ≡ address_type (linear_of o).memory64 = ap address options.wide ∙ wide_address (linear_of o).memory64 in
        record { place = here.number; is = options.realloc ∙ here.place_is; def = f; given = is; knows = subst (λ t. KnowsFunction M p (import.CoreDef f) here.number (t ∷ t ∷ t ∷ t ∷ []) (t ∷ [])) typed here.knows }

    tuple_memory : (f : Option (List ValType)) → (f ≡ None → HasMemoryOption s) → HasTupleMemory M p o s f
    tuple_memory (Some flats) needs = tt
    tuple_memory None needs = side_memory (needs refl)

    new_tuple_memory : (f : Option (List ValType)) → (f ≡ None → HasMemoryOption s × HasReallocOption s) → HasNewTupleMemory M p o s f
    new_tuple_memory (Some flats) needs = tt
    new_tuple_memory None needs = (side_memory (needs refl).0, side_realloc (needs refl).1)

    links_side : KnowsSideData M p o s
    links_side = record { flags = subst (λ n. KnowsFlags M p s.instance n) (sym options.flags) knows.flags }

  -- The callee's core type is that of the lift side's signature.
  pub links_adapter : (a : LinkedAdapter) (at : AdapterImports) (d : AdapterData) → KnowsAdapter M p a at → IsDataOf a at d
      → a.lift.core_type ≡ record { params = (lift_signature_of a).params; results = (lift_signature_of a).results } → HasMemoriesFor a → KnowsAdapterData M p d a
  links_adapter a at d knows is signature needs =
      let lift_memory = side_memory a.lift at.lift d.lift knows.lift is.lift in
      let lower_memory = side_memory a.lower at.lower d.lower knows.lower is.lower in
      record {
        lift = links_side a.lift at.lift d.lift knows.lift is.lift;
        lower = links_side a.lower at.lower d.lower knows.lower is.lower;
        results_memory = tuple_memory a.lift at.lift d.lift knows.lift is.lift (flat_values (is_wide a.lift.memory) (lift_results_limit a.lift.async_side) a.lift.results) needs.lift_results;
        return_memory = tuple_memory a.lower at.lower d.lower knows.lower is.lower (flat_results a.lower) needs.lower_results;
        params_memory = tuple_memory a.lower at.lower d.lower knows.lower is.lower (flat_values (is_wide a.lower.memory) (lower_limit a.lower.async_side) a.lower.params) needs.lower_params;
        params_area = new_tuple_memory a.lift at.lift d.lift knows.lift is.lift (flat_values (is_wide a.lift.memory) 16 a.lift.params) needs.lift_params;
        params_lists = λ some. let n = needs.params_lists some in record { from_memory = lower_memory n.0; to_memory = lift_memory n.1; realloc = side_realloc a.lift at.lift d.lift knows.lift is.lift n.2 };
        results_lists = λ some. let n = needs.results_lists some in record { from_memory = lift_memory n.0; to_memory = lower_memory n.1; realloc = side_realloc a.lower at.lower d.lower knows.lower is.lower n.2 };
        callee =
            let typed = subst (λ (ty : FuncType). KnowsFunction M p (import.CoreDef a.callee) at.callee ty.params ty.results) signature knows.callee in
            subst (λ n. KnowsFunction M p (import.CoreDef a.callee) n (lift_signature_of a).params (lift_signature_of a).results) (sym is.callee) typed;
        post_return = knows_post M p d.lift.post_return a.lift.post_return at.post_return is.has_post_return is.post_return (ap (λ (ty : FuncType). ty.results) signature) knows.post_return;
      }
