-- The functions that are compiled for an adapter: that of one within one instance, of a sync one between two, or those of an async one.
use Rattle.std.proofs.Common.{◌≡◌, ℕ, Bool, true, false, ◌&&◌, ◌||◌, List, [], ◌∷◌, Option, Some, None, refl, sym, ap, ◌∙◌, subst, length, slice_get, inl, inr}
use Rattle.std.specs.Prelude.{is_some, not}
use Rattle.std.specs.List.{AllZip}
use Rattle.std.proofs.lemmas.Bool.{true≢false}
use Rattle.std.proofs.lemmas.Bool.Decides.{eqb_tells}
use Rattle.fact_entity.specs.declared.id.Id.{Id}
use Rattle.fact_entity.specs.declared.table.Funcs.{Funcs}
use Rattle.fact_wasm.specs.declared.module.WasmFunc.{WasmFunc}
use Rattle.fact_wasm.specs.declared.types.FuncType.{FuncType}
use Rattle.fact_types.specs.Adapters.{LinkedAdapter, Side, is_async, is_crossing}
use Rattle.fact_types.specs.Tables.{Tables}
use Rattle.fact_types.specs.declared.outside.CoreDef.{CoreDef}
use Rattle.fact_actions.specs.Adapters.{AdapterTunables}
use Rattle.fact_emit.specs.AdapterImports.{IsImportedIfAny}
use Rattle.fact_emit.specs.ImportSection.{Callback, PostReturn, Role, is_awaited}
use Rattle.fact_emit.specs.Imports.{Extended}
use Rattle.fact_emit.specs.Options.{number_if_any}
use Rattle.fact_emit.specs.States.{ModuleSoFar, with_numbered}
use Rattle.fact_emit.proofs.DefinedKept.{extended_defined}
use Rattle.fact_emit.proofs.ImportLaws.{extended_on, grown_get}
use Rattle.fact_emit.proofs.KnownLaws.{extended_type}
use Rattle.fact_plan_types.proofs.HandleLaws.{zip_map}
use Rattle.fact_compound.specs.Asks.{Having, IsLaterModule}
use Rattle.fact_compound.specs.AsyncParts.{part_type}
use Rattle.fact_compound.specs.Asyncs.{CompiledAsync}
use Rattle.fact_compound.specs.Compiled.{Compiled}
use Rattle.fact_compound.specs.Described.{DescribesAdapter, DescribesEntry, DescribesSide, DescribesTransfers, is_async_data}
use Rattle.fact_compound.specs.Entries.{CompiledEntry}
use Rattle.fact_compound.specs.Functions.{CompiledSync}
use Rattle.fact_compound.specs.Helpers.{CompiledHelpers}
use Rattle.fact_compound.specs.SameInstance.{CompiledSameInstance, DescribesLower}
use Rattle.fact_compound.specs.Syncs.{lower_type_of}
use Rattle.fact_compound.specs.declared.adapters.AdapterData.{AdapterData}
use Rattle.fact_compound.specs.declared.adapters.AdapterOptions.{AdapterOptions}
use Rattle.fact_compound.specs.declared.asyncs.AsyncPart.TheVariants as part
use Rattle.fact_compound.proofs.CompiledAdapters.{numbered_later}
use Rattle.fact_assembly.specs.Sound.{IsSoundAdapter}
use Rattle.fact_assembly.proofs.Written.{sound_are_writable}
use Rattle.fact_compound.specs.Keys.{AsksKeys, PartsAskKeys, sync_asks}
use Rattle.fact_assembly.specs.Adding.{Adds, AsParts, AsSync, AsTrap, CompiledAs, Given, HasSideData, OwnKeys, numbered_for, own_functions}
use Rattle.fact_assembly.specs.Exports.{exported_functions_of}

-- ---- instances

pub crossing-apart : (a : LinkedAdapter) → is_crossing a ≡ true → a.lift.instance ≡ a.lower.instance → ⊥
crossing-apart a crosses same = elim (eqb_tells a.lift.instance a.lower.instance) [
  | inl e ↦ true≢false (sym crosses ∙ ap not e.0)
  | inr e ↦ e.1 same
]

pub one-instance : (a : LinkedAdapter) → is_crossing a ≡ false → a.lift.instance ≡ a.lower.instance
one-instance a within = elim (eqb_tells a.lift.instance a.lower.instance) [
  | inl e ↦ e.1
  | inr e ↦ absurd (true≢false (sym (ap not e.0) ∙ within))
]

-- ---- marks of async

four-marks : (a b c d : Bool) → ((a || b) || (c || d)) ≡ (a || b || c || d)
four-marks true b c d = refl
four-marks false true c d = refl
four-marks false false true d = refl
four-marks false false false d = refl

pub none-marked : (a b c d : Bool) → (a || b || c || d) ≡ false → (a ≡ false) × (b ≡ false) × (c ≡ false) × (d ≡ false)
none-marked true b c d h = absurd (true≢false h)
none-marked false true c d h = absurd (true≢false h)
none-marked false false true d h = absurd (true≢false h)
none-marked false false false d h = (refl, refl, refl, h)

-- an adapter is awaited where it is async and between two instances
pub not-awaited-within : (a : LinkedAdapter) → is_crossing a ≡ false → is_awaited a ≡ false
not-awaited-within a within = by (is_async a) (is_crossing a) within
  where
    by : (x y : Bool) → y ≡ false → (x && y) ≡ false
    by true y h = h
    by false y h = refl

pub not-awaited-sync : (a : LinkedAdapter) → is_async a ≡ false → is_awaited a ≡ false
not-awaited-sync a sync = ap (λ x. x && is_crossing a) sync

-- ---- how an adapter was compiled

-- the data of an adapter are of an async one where it is
same-mark : {t : Tables} {cores : List FuncType} (d : AdapterData) (a : LinkedAdapter) → HasSideData t cores a.lift d.lift → HasSideData t cores a.lower d.lower → is_async_data t d ≡ is_async a
same-mark d a lift lower =
    (λ k. (lift.async_side k || lower.async_side k) || (lift.marked k || lower.marked k)) ∙ four-marks a.lift.async_side a.lower.async_side a.lift.async_type a.lower.async_type

pub compiled-as : {t : Tables} {cores : List FuncType} (u : AdapterTunables) {fuel : ℕ} {old new : ModuleSoFar} (d : AdapterData) (a : LinkedAdapter) → HasSideData t cores a.lift d.lift → HasSideData t cores a.lower d.lower
    → (c : Compiled t d u.debug u.concurrency u.exceptions fuel old new) → (x : CompiledAs new t d u a (numbered_for a old) c.own) × OwnKeys fuel c.asks x
compiled-as {t} u {fuel} {old} {new} d a lift lower compiled = by (is_crossing a) refl (is_async a) refl
  where
    -- it has as many functions as were numbered
    one : is_awaited a ≡ false → 1 ≡ length (exported_functions_of a)
    one none = rw none refl

    three : is_awaited a ≡ true → 3 ≡ length (exported_functions_of a)
    three awaited = rw awaited refl

    apart : is_crossing a ≡ true → d.lift.instance.number ≡ d.lower.instance.number → ⊥
    apart crosses same = crossing-apart a crosses (sym lift.instance ∙ same ∙ lower.instance)

    by : (b : Bool) → is_crossing a ≡ b → (c : Bool) → is_async a ≡ c → (x : CompiledAs new t d u a (numbered_for a old) compiled.own) × OwnKeys fuel compiled.asks x
    by false within c marks =
        let same : d.lift.instance.number ≡ d.lower.instance.number = lift.instance ∙ one-instance a within ∙ sym lower.instance in
        (AsTrap within (subst (λ n. CompiledSameInstance t d (with_numbered old n) compiled.own) (one (not-awaited-within a within)) (compiled.within same)), compiled.none_asked same)
    by true crosses false sync =
        let mark : is_async_data t d ≡ false = same-mark d a lift lower ∙ sync in
        let there = subst (λ n. (x : CompiledSync (λ M p. IsLaterModule M p new) t d u.debug u.concurrency u.exceptions (with_numbered old n) compiled.own) × (DescribesAdapter t d u.debug u a → AsksKeys t d u.debug u.concurrency a compiled.asks x.function (sync_asks fuel a)))
        (one (not-awaited-sync a sync)) (compiled.in_sync (apart crosses) mark, λ h. compiled.sync_keys (apart crosses) mark u a h) in
        (AsSync crosses sync there.0, there.1)
    by true crosses true awaited =
        let handed : is_awaited a ≡ true = (λ k. awaited k && crosses k) in
        let mark : is_async_data t d ≡ true = same-mark d a lift lower ∙ awaited in
        let there = subst (λ n. (x : CompiledAsync (λ M p. IsLaterModule M p new) t d u.debug u.concurrency (with_numbered old n) compiled.own) × PartsAskKeys t d u.debug u.concurrency fuel compiled.asks x.start.function x.return.function)
        (three handed) (compiled.in_parts (apart crosses) mark, compiled.part_keys (apart crosses) mark) in
        (AsParts handed there.0, there.1)

-- it has as many functions as it exports
pub own-count : {end : ModuleSoFar} {t : Tables} {d : AdapterData} {u : AdapterTunables} {a : LinkedAdapter} {old new : ModuleSoFar} (c : CompiledAs end t d u a old new) → length (own_functions c) ≡ length (exported_functions_of a)
own-count {a = a} (AsTrap within c) = let none = not-awaited-within a within in rw none refl
own-count {a = a} (AsSync crosses sync c) = let none = not-awaited-sync a sync in rw none refl
own-count {a = a} (AsParts awaited c) = rw awaited refl

-- the types of its functions
abbrev pub own_types : {end : ModuleSoFar} {t : Tables} {d : AdapterData} {u : AdapterTunables} {a : LinkedAdapter} {old new : ModuleSoFar} → CompiledAs end t d u a old new → List FuncType
own_types {a = a} (AsTrap within c) = lower_type_of a ∷ []
own_types {a = a} (AsSync crosses sync c) = lower_type_of a ∷ []
own_types {a = a} (AsParts awaited c) = part_type part.Start a ∷ part_type part.Return a ∷ lower_type_of a ∷ []

-- the function that hands a call on grows the module as well
pub entry-extended : {t : Tables} {d : AdapterData} {start return : ℕ} {old new : ModuleSoFar} → CompiledEntry t d start return old new → Extended old new
entry-extended c =
    extended_on (extended_type c.ty c.declares) (extended_on c.calls.imports
    (extended_defined (ap (λ (s : ModuleSoFar). s.types) c.is_last) (ap (λ (s : ModuleSoFar). s.section) c.is_last) (ap (λ (s : ModuleSoFar). s.imports) c.is_last) (ap (λ (s : ModuleSoFar). s.helpers) c.is_last) (ap (λ (s : ModuleSoFar). s.numbered) c.is_last)))

-- and so does the module when the callee is exported
pub callee-extended : {Has : Having} {t : Tables} {d : AdapterData} {debug concurrency : Bool} {old new : ModuleSoFar} (c : CompiledAsync Has t d debug concurrency old new) → Extended c.entered new
callee-extended c = extended_defined (ap (λ (s : ModuleSoFar). s.types) c.callee) (ap (λ (s : ModuleSoFar). s.section) c.callee) (ap (λ (s : ModuleSoFar). s.imports) c.callee) (ap (λ (s : ModuleSoFar). s.helpers) c.callee) (ap (λ (s : ModuleSoFar). s.numbered) c.callee)

-- what was there stays there
pub compiled-extended : {end : ModuleSoFar} {t : Tables} {d : AdapterData} {u : AdapterTunables} {a : LinkedAdapter} {old new : ModuleSoFar} → CompiledAs end t d u a old new → Extended old new
compiled-extended (AsTrap within c) = c.imports
compiled-extended (AsSync crosses sync c) = c.writes.imports
compiled-extended (AsParts awaited c) = extended_on c.start.puts.imports (extended_on c.return.puts.imports (extended_on (entry-extended c.entry) (callee-extended c)))

-- when the helpers come behind
pub helpers-extended : {t : Tables} {debug concurrency : Bool} {fuel first : ℕ} {own new : ModuleSoFar} → CompiledHelpers t debug concurrency fuel first own new → Extended own new
helpers-extended h =
    extended_on h.wrote.imports
    (extended_defined (ap (λ (s : ModuleSoFar). s.types) h.is) (ap (λ (s : ModuleSoFar). s.section) h.is) (ap (λ (s : ModuleSoFar). s.imports) h.is) (ap (λ (s : ModuleSoFar). s.helpers) h.is) (ap (λ (s : ModuleSoFar). s.numbered) h.is))

-- and when its functions are numbered, and all of them are compiled
pub added-extended : {t : Tables} {u : AdapterTunables} {given : Given} {old new : ModuleSoFar} {a : LinkedAdapter} {tuple : ℕ} (add : Adds t u given old new a tuple) → Extended add.imported new
added-extended {a = a} add = extended_on (numbered_later add.imported (length (exported_functions_of a))) (extended_on (compiled-extended add.compiled) (helpers-extended add.helpers))

-- ---- the data of an adapter

imported-there : (old new : ModuleSoFar) (role : Role) (o : Option CoreDef) (n : Option (Id Funcs)) → IsImportedIfAny old new role o (number_if_any n) → is_some n ≡ is_some o
imported-there old new role None None l = refl
imported-there old new role None (Some n) l = absurd (let no : Some n.number ≡ None = l.1 in cc)
imported-there old new role (Some f) None l = absurd (let no : None ≡ Some l.number = l.place_is in cc)
imported-there old new role (Some f) (Some n) l = refl

side-described : {t : Tables} {cores : List FuncType} {s : Side} {d : AdapterOptions} → HasSideData t cores s d → DescribesSide t d s
side-described h = record { signature = h.signature; wide = sym h.memory64; mark = sym h.async_side }

module _ {t : Tables} {u : AdapterTunables} {given : Given} {old new : ModuleSoFar} {a : LinkedAdapter} {tuple : ℕ} (add : Adds t u given old new a tuple) where
  -- it has a post-return where its lift side has one
  pub has-post-return : is_some add.«data».lift.post_return ≡ is_some a.lift.post_return
  has-post-return = imported-there add.is_imported.called add.imported (PostReturn a.name a.lift.core_type.results) a.lift.post_return add.«data».lift.post_return add.is_imported.post_return

  -- and a callback likewise
  has-callback : is_some add.«data».lift.options.callback ≡ is_some a.lift.callback
  has-callback = imported-there add.is_imported.lift.supplied add.is_imported.lifted Callback a.lift.callback add.«data».lift.options.callback add.is_imported.lift.callback

  pub describes-lower : DescribesLower t add.«data» a
  describes-lower = record { signature = add.lower.signature; wide = sym add.lower.memory64; mark = sym add.lower.async_side }

  module _ (sound : IsSoundAdapter a) where
    pub describes-transfers : DescribesTransfers t add.«data» u.debug u a
    describes-transfers =
        let w = sound_are_writable a sound in
        record { lift = side-described add.lift; lower = side-described add.lower; same_debug = refl; params = w.params; results = w.results }

    pub describes : is_async a ≡ false → DescribesAdapter t add.«data» u.debug u a
    describes sync =
        let unmarked = none-marked a.lift.async_side a.lower.async_side a.lift.async_type a.lower.async_type sync in
        record {
          transfers = describes-transfers;
          lift_sync = unmarked.0;
          lower_sync = unmarked.1;
          unmarked = unmarked.2;
          instance = add.lift.instance;
          transparent = add.transparent;
          post_return = has-post-return;
        }

    pub describes-entry : DescribesEntry t add.«data» a
    describes-entry = record {
      lift = side-described add.lift;
      lower = side-described add.lower;
      lift_callback = sym has-callback;
      lift_instance = add.lift.instance;
      lower_instance = add.lower.instance;
      encoding = add.lift.encoding;
      marked = sym add.lift.marked;
      counted = let w = sound_are_writable a sound in w.counted.lower_results;
      valid = sound.lower_results.valid;
    }

    -- its functions have their types
    pub types-added : AllZip (λ (f : WasmFunc) ty. slice_get new.types f.ty ≡ Some ty) (own_functions add.compiled) (own_types add.compiled)
    types-added = zip_map _ _ (λ f ty e. grown_get (helpers-extended add.helpers).types f.ty ty e) _ _ (by add.compiled)
      where
        by : (c : CompiledAs new t add.«data» u a (numbered_for a add.imported) add.own) → AllZip (λ (f : WasmFunc) ty. slice_get add.own.types f.ty ≡ Some ty) (own_functions c) (own_types c)
        by (AsTrap within c) = (c.typed a describes-lower, tt)
        by (AsSync crosses sync c) = (c.typed u a (describes sync), tt)
        by (AsParts awaited c) =
            let last : Extended c.entered add.own = callee-extended c in
            let returned : Extended c.returned add.own = extended_on (entry-extended c.entry) last in
            let started : Extended c.started add.own = extended_on c.return.puts.imports returned in (
              grown_get started.types _ _ (c.start.typed u a describes-transfers),
              (grown_get returned.types _ _ (c.return.typed u a describes-transfers), (grown_get last.types _ _ (c.entry.typed a describes-entry), tt)),
            )
