-- What is imported for an adapter, by what is imported for the options of its sides, and the data that say where.
use Rattle.std.proofs.Common.{◌≡◌, ◌<◌, ◌-◌, ℕ, Bool, true, false, List, Option, None, Some, refl, sym, ap, ◌∙◌, subst, arith, length, length-append, slice_get}
use Rattle.std.specs.Prelude.{is_some}
use Rattle.std.proofs.lemmas.Bool.{false≢true}
use Rattle.std.proofs.lemmas.Option.{slice_get_within}
use Rattle.fact_entity.specs.declared.id.Id.{Id}
use Rattle.fact_entity.specs.declared.table.Funcs.{Funcs}
use Rattle.fact_entity.specs.declared.table.Memories.{Memories}
use Rattle.fact_entity.specs.declared.table.TypeFuncs.{TypeFuncs}
use Rattle.fact_wasm.specs.declared.types.FuncType.{FuncType}
use Rattle.fact_wasm.specs.declared.types.ValType.{ValType}
use Rattle.fact_builder.specs.Builder.{Builder}
use Rattle.fact_types.specs.Adapters.{LinkedAdapter, Side, is_wide}
use Rattle.fact_types.specs.Functions.{HasSignature}
use Rattle.fact_types.specs.declared.kinds.TypeFunc.{TypeFunc}
use Rattle.fact_types.specs.declared.outside.CoreDef.{CoreDef}
use Rattle.fact_types.specs.declared.outside.MemoryOption.{MemoryOption}
use Rattle.fact_types.specs.declared.import.Import.TheVariants as known
use Rattle.fact_adapter_rules.specs.declared.adapter.AdapterOptionsDfg.{AdapterOptionsDfg}
use Rattle.fact_adapter_rules.specs.declared.sides.Candidate.{Candidate}
use Rattle.fact_adapter_rules.specs.Linked.{IsLinked, IsSideOf}
use Rattle.fact_actions.specs.Adapters.{AdapterTunables}
use Rattle.fact_emit.specs.AdapterImports.{AdapterImports, IsAdapterImported, IsImportedIfAny, IsSideImported}
use Rattle.fact_emit.specs.ImportSection.{Callee, HasMemoryWidth, PostReturn, Realloc, Storage}
use Rattle.fact_emit.specs.Imports.{Extended}
use Rattle.fact_emit.specs.DefImports.{IsDefImported}
use Rattle.fact_emit.specs.Options.{memory_place, number_if_any}
use Rattle.fact_emit.specs.States.{ModuleSoFar, functions_of, memories_of, with_numbered}
use Rattle.fact_emit.specs.StringPieces.{IsMemoryWide}
use Rattle.fact_emit.proofs.ImportLaws.{grown_get}
use Rattle.fact_emit.proofs.KnownLaws.{imported_at}
use Rattle.fact_emit.proofs.MemoryWidths.{IsSideWide, sides_wide}
use Rattle.fact_compound.specs.Described.{AreOptionsWide, is_marked_type, linear_of}
use Rattle.fact_compound.specs.Compiled.{Compiled}
use Rattle.fact_compound.specs.Entries.{tuple_of_results}
use Rattle.fact_compound.specs.declared.adapters.AdapterData.{AdapterData}
use Rattle.fact_compound.specs.declared.adapters.AdapterOptions.{AdapterOptions}
use Rattle.fact_compound.specs.Asks.{AsksFor}
use Rattle.fact_assembly.specs.Adding.{Adds, HasSideData, own_functions}
use Rattle.fact_assembly.specs.Exports.{exported_functions_of}
use Rattle.fact_assembly.specs.ImportedData.{CanBeImported, IsDataOfCandidate, IsDataOfSide, NamesOf, imports_of_data, page_size_log2_of, side_imports_of}
use Rattle.fact_assembly.proofs.AddedFunctions.{compiled-behind}
use Rattle.fact_assembly.proofs.CompiledLaws.{compiled-as, own-count}

-- ---- a side

names-of : {b : Builder} {ty : Id TypeFuncs} {o : AdapterOptionsDfg} {s : Side} → IsSideOf b ty o s → NamesOf o s
names-of h = record { instance = h.instance; memory = h.memory; realloc = h.realloc; callback = h.callback }

mark_of : Option TypeFunc → Bool
mark_of found = elim found [ None ↦ false | Some f ↦ f.async_ ]

side-data : {b : Builder} {ty : Id TypeFuncs} {o : AdapterOptionsDfg} {s : Side} {d : AdapterOptions} → IsSideOf b ty o s → IsDataOfSide ty o d → HasSideData b.tables b.module_types s d
unfolding mark_of
side-data {b} {s = s} h fits = record {
  instance = ap (λ i. i.number) fits.instance ∙ sym h.instance;
  signature = subst (λ ty. HasSignature b.tables ty s.params s.results) (sym fits.ty_is) h.signature;
  async_side = fits.async_ ∙ sym h.async_side;
  marked = ap (is_marked_type b.tables) fits.ty_is ∙ ap mark_of (h.signature.func_there) ∙ sym h.async_type;
  encoding = fits.encoding ∙ sym h.encoding;
  memory64 = fits.memory64 ∙ ap is_wide (sym h.memory);
  page_size_log2 = fits.page_size_log2 ∙ ap page_size_log2_of (sym h.memory);
  core_type = ap (λ i. slice_get b.module_types i.number) fits.core_type ∙ h.core_type;
}

-- ---- an adapter

-- A function that was imported is among the imported functions of a later module.
pub function-below : {old new last : ModuleSoFar} {d : CoreDef} {place : ℕ} (name : List ℕ) (ty : FuncType) → IsDefImported old new (Callee name ty) d place → Extended new last → place < length (functions_of last)
function-below {last = last} {d} {place} name ty imported later =
    slice_get_within (functions_of last) place (known.CoreDef d) (grown_get later.functions place (known.CoreDef d) (imported_at (Callee name ty) imported))

-- So is a realloc.
pub realloc-below : {old new : ModuleSoFar} {d : CoreDef} {i : Id Funcs} {place n : ℕ} (memory64 : Bool) → IsDefImported old new (Realloc memory64) d place → i.number ≡ place → number_if_any (Some i) ≡ Some n → n < length (functions_of new)
realloc-below {new = new} {d} {place = place} {n} memory64 imported there is =
    let same : place ≡ n = cc in
    let below = slice_get_within (functions_of new) place (known.CoreDef d) (imported_at (Realloc memory64) imported) in
    omega (arith, below, same)

-- And a memory is among the imported memories.
pub memory-below : {old new : ModuleSoFar} {d : CoreDef} {i : Id Memories} {place n : ℕ} (memory64 : Bool) (page_size_log2 : ℕ) → IsDefImported old new (Storage memory64 page_size_log2) d place → i.number ≡ place → number_if_any (Some i) ≡ Some n → n < length (memories_of new)
memory-below {new = new} {d} {place = place} {n} memory64 page_size_log2 imported there is =
    let same : place ≡ n = cc in
    let below = slice_get_within (memories_of new) place (known.CoreDef d) (imported_at (Storage memory64 page_size_log2) imported) in
    omega (arith, below, same)

-- So is the memory of a side, where it has one.
pub memory-there : (s : ModuleSoFar) (memory : Option (Id Memories)) → ((n : ℕ) → number_if_any memory ≡ Some n → n < length (memories_of s)) → is_some memory ≡ true → memory_place memory < length (memories_of s)
memory-there s None h there = absurd (false≢true there)
memory-there s (Some m) h there = h m.number refl

-- A post-return is among the imported functions.
pub post-return-below : {old new : ModuleSoFar} {d : CoreDef} {n place : ℕ} (name : List ℕ) (results : List ValType) → IsDefImported old new (PostReturn name results) d place → n ≡ place → n < length (functions_of new)
post-return-below {new = new} {d} {place = place} name results imported there =
    let below = slice_get_within (functions_of new) place (known.CoreDef d) (imported_at (PostReturn name results) imported) in
    omega (arith, below, there)

module _ {b : Builder} {c : Candidate} {a : LinkedAdapter} (is : IsLinked b c a) where
  -- What an adapter names is imported where what its options name is.
  pub adapter-imported : {old lifted lowered called new : ModuleSoFar} (at : AdapterImports) (ty : FuncType) → slice_get b.module_types c.adapter.now.lift_options.core_type.number ≡ Some ty
      → ((s : Side) → NamesOf c.adapter.now.lift_options s → IsSideImported old lifted s at.lift) → ((s : Side) → NamesOf c.adapter.now.lower_options s → IsSideImported lifted lowered s at.lower)
      → IsDefImported lowered called (Callee c.name.now ty) c.adapter.now.func at.callee
      → IsImportedIfAny called new (PostReturn c.name.now ty.results) c.adapter.now.lift_options.post_return at.post_return
      → IsAdapterImported old new a at
  adapter-imported {old} {lifted} {lowered} {called} {new} at ty there lift lower callee post_return =
      let same : ty ≡ a.lift.core_type = let e : Some ty ≡ Some a.lift.core_type = sym there ∙ is.sides.lift.core_type in cc in
      record {
        lifted = lifted;
        lowered = lowered;
        called = called;
        lift = lift a.lift (names-of is.sides.lift);
        lower = lower a.lower (names-of is.sides.lower);
        callee = subst (λ d. IsDefImported lowered called (Callee a.name a.lift.core_type) d at.callee) (sym is.sides.callee)
            (subst (λ n. IsDefImported lowered called (Callee n a.lift.core_type) c.adapter.now.func at.callee) (sym is.name)
            (subst (λ t. IsDefImported lowered called (Callee c.name.now t) c.adapter.now.func at.callee) same callee));
        post_return = subst (λ d. IsImportedIfAny called new (PostReturn a.name a.lift.core_type.results) d at.post_return) (sym is.sides.lift.post_return)
            (subst (λ n. IsImportedIfAny called new (PostReturn n a.lift.core_type.results) c.adapter.now.lift_options.post_return at.post_return) (sym is.name)
            (subst (λ (t : FuncType). IsImportedIfAny called new (PostReturn c.name.now t.results) c.adapter.now.lift_options.post_return at.post_return) same post_return));
      }

  -- A module with all that an adapter names, and then with the functions that its data ask for, has the adapter added.
  pub adapter-added : (u : AdapterTunables) {fuel : ℕ} {old imported new : ModuleSoFar} (d : AdapterData) → IsDataOfCandidate c d → IsAdapterImported old imported a (imports_of_data d)
      → Compiled b.tables d u.debug u.concurrency u.exceptions fuel imported new → Adds b.tables u (record { fuel = fuel; cores = b.module_types }) old new a (tuple_of_results b.tables c.adapter.now.lift_ty)
  adapter-added u {imported = imported} {new} d fits is_imported compiled =
      let lift = side-data is.sides.lift fits.lift in
      let lower = side-data is.sides.lower fits.lower in
      let made = compiled-as u d a lift lower compiled in
      let count : length compiled.own.functions - length imported.functions ≡ length (exported_functions_of a) =
      omega (arith, ap length (compiled-behind (fits.name ∙ sym is.name) made.0).functions, length-append imported.functions (own_functions made.0), own-count made.0) in
      record {
        «data» = d;
        name = fits.name ∙ sym is.name;
        transparent = fits.transparent ∙ sym is.transparent;
        lift = lift;
        tuple_is = ap (tuple_of_results b.tables) fits.lift.ty_is;
        lower = lower;
        imported = imported;
        is_imported = is_imported;
        own = compiled.own;
        compiled = made.0;
        asks = compiled.asks;
        asked = subst (λ n. AsksFor b.tables u.debug u.concurrency compiled.asks (with_numbered imported n) compiled.own) count compiled.asked;
        keys = made.1;
        helpers = compiled.helpers;
        there = compiled.there;
      }

-- ---- the widths of memories

-- The memory of a side has the width of its data.
wide-side : (s : ModuleSoFar) (side : Side) (d : AdapterOptions) → d.options.linear.memory64 ≡ is_wide side.memory → IsSideWide s side (side_imports_of d) → IsMemoryWide (linear_of d) s
wide-side s side d same h = record { wide = go d.options.linear.memory side.memory refl refl }
  where
    go : (place : Option (Id Memories)) (m : Option MemoryOption) → d.options.linear.memory ≡ place → side.memory ≡ m → is_some place ≡ true → HasMemoryWidth s.section (memory_place place) d.options.linear.memory64
    go None m e is there = absurd (false≢true there)
    go (Some i) None e is there = let none : Some i.number ≡ None = sym (ap number_if_any e) ∙ h.none is in cc
    go (Some i) (Some m) e is there =
        let (n, at, wide) = h.some m is in
        let number : Some i.number ≡ Some n = sym (ap number_if_any e) ∙ at in
        let place : i.number ≡ n = cc in
        let width : m.memory64 ≡ d.options.linear.memory64 = sym (same ∙ ap is_wide is) in
        subst (λ k. HasMemoryWidth s.section k d.options.linear.memory64) (sym place) (subst (HasMemoryWidth s.section n) width wide)

-- So have the memories of an adapter that was imported, whose data have the widths of its options.
pub options-wide : {b : Builder} {c : Candidate} {old new : ModuleSoFar} → CanBeImported b c old → (d : AdapterData)
    → d.lift.options.linear.memory64 ≡ is_wide c.adapter.now.lift_options.memory → d.lower.options.linear.memory64 ≡ is_wide c.adapter.now.lower_options.memory
    → ((a : LinkedAdapter) → IsLinked b c a → IsAdapterImported old new a (imports_of_data d)) → AreOptionsWide d new
options-wide {old = old} {new} can d lift lower is_imported =
    let sides = sides_wide old new can.before can.adapter (imports_of_data d) can.known can.alike (is_imported can.adapter can.is) in
    record {
      lift = wide-side new can.adapter.lift d.lift (lift ∙ ap is_wide (sym can.is.sides.lift.memory)) sides.0;
      lower = wide-side new can.adapter.lower d.lower (lower ∙ ap is_wide (sym can.is.sides.lower.memory)) sides.1;
    }
