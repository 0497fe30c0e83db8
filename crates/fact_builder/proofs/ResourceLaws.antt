-- What comes of the resources of a builder whose parts lie open, as the builder's own.
use Rattle.std.proofs.Common.{◌≡◌, ◌<◌, ◌+◌, ℕ, true, length, Option, Some, None, refl, sym, ◌∙◌, ap, subst, inl, inr}
use Rattle.std.specs.Prelude.{is_some, Result, Ok, Err, IfOk, IfErr, OnOk}
use Rattle.fact_entity.specs.declared.id.Id.{Id}
use Rattle.fact_entity.specs.declared.table.AbstractResources.{AbstractResources}
use Rattle.fact_entity.specs.declared.table.SourceResources.{SourceResources}
use Rattle.fact_entity.specs.declared.table.TypeResourceTables.{TypeResourceTables}
use Rattle.fact_types.specs.Tables.{Tables}
use Rattle.fact_builder.specs.declared.error.BuildError.{BuildError}
use Rattle.fact_builder.specs.declared.error.BuildError.TheVariants as build
use Rattle.fact_builder.specs.declared.registration.Registration.{Registration}
use Rattle.fact_builder.specs.declared.registration.Registration.TheVariants as is
use Rattle.fact_builder.specs.Known.{KnownResources, AreKeptLive, MakesTable, MayRefuseTable, kept_table, registration, with_registration}
use Rattle.fact_builder.proofs.TableLaws.{kept_is_live, kept_last, made_keeps_live}
use Rattle.fact_builder.specs.Builder.{Builder}
use Rattle.fact_builder.specs.Registering.{MayRefuseNext, RegistersNext, TakesTable}

-- ---- tables

-- a table that was made is taken, and is kept from then on
pub table_taken : (a z : Builder) → a ≡ z → (id : Id SourceResources) (u : KnownResources) (v : Tables) (i : Id TypeResourceTables) → MakesTable a.resources a.tables id u v i → TakesTable z id None (record a { tables = v; resources = u })
table_taken a z e id u v i made = subst (λ (y : Builder). TakesTable y id None (record a { tables = v; resources = u })) e (i, made, refl)

pub table_kept : (a z : Builder) → a ≡ z → (id : Id SourceResources) (u : KnownResources) (v : Tables) (i : Id TypeResourceTables) → kept_table z.resources id ≡ None → MakesTable a.resources a.tables id u v i → kept_table u id ≡ Some i
table_kept a z e id u v i none made = ap (λ (r : KnownResources). kept_table r id) made.kept ∙ kept_last a.resources id i (subst (λ (y : Builder). kept_table y.resources id ≡ None) (sym e) none)

-- a builder that is refused one is as it was
pub table_refused : (a z : Builder) → a ≡ z → (id : Id SourceResources) (u : KnownResources) (v : Tables) (r : Result (Id TypeResourceTables) BuildError) (e : BuildError) → (y : BuildError) × (r ≡ Err y) × (y ≡ e) → (u ≡ a.resources) × (v ≡ a.tables) × MayRefuseTable a.resources a.tables id e
    → IfErr r (λ x. (record a { tables = v; resources = u } ≡ z) × MayRefuseTable z.resources z.tables id x)
table_refused a z same id u v r e (y, at, cause) (back, tables, why) =
    subst (λ q. IfErr q (λ x. (record a { tables = v; resources = u } ≡ z) × MayRefuseTable z.resources z.tables id x)) (sym at)
    ((λ i. record a { tables = tables i; resources = back i }) ∙ same, subst (λ (w : Builder). MayRefuseTable w.resources w.tables id y) same (subst (MayRefuseTable a.resources a.tables id) (sym cause) why))

-- the tables that are kept are live still, and so is the one that was asked for
taken_live : (a b : Builder) (id : Id SourceResources) (o : Option (Id TypeResourceTables)) → TakesTable a id o b → AreKeptLive a.resources a.tables → AreKeptLive b.resources b.tables
taken_live a b id (Some t) same live = subst (λ (z : Builder). AreKeptLive z.resources z.tables) (sym same) live
taken_live a b id None (i, made, rest) live = made_keeps_live a.resources b.resources a.tables b.tables id (Ok i) made tt live

pub tables_live : (a b : Builder) (id : Id SourceResources) (o : Option (Id TypeResourceTables)) (r : Result (Id TypeResourceTables) BuildError) → OnOk r (TakesTable a id o b) → IfErr r (λ e. (b ≡ a) × MayRefuseTable a.resources a.tables id e) → AreKeptLive a.resources a.tables → AreKeptLive b.resources b.tables
tables_live a b id o (Ok i) taken refused live = taken_live a b id o taken live
tables_live a b id o (Err e) taken (same, why) live = subst (λ (z : Builder). AreKeptLive z.resources z.tables) (sym same) live

pub table_live : (b : Builder) (id : Id SourceResources) (r : Result (Id TypeResourceTables) BuildError) → IfOk r (λ i. kept_table b.resources id ≡ Some i) → AreKeptLive b.resources b.tables → IfOk r (λ i. i.number < length b.tables.resource_tables)
table_live b id (Ok i) kept live = kept_is_live b.resources b.tables id i live kept
table_live b id (Err e) kept live = tt

-- all else is as it was
pub others_stay : (a b : Builder) → b ≡ a → b ≡ record a { tables = b.tables; resources = b.resources }
others_stay a b e = λ i. record { source = (e i).source; tables = b.tables; module_types = (e i).module_types; resources = b.resources; abstracts = (e i).abstracts }

taken_alone : (a b : Builder) (id : Id SourceResources) (o : Option (Id TypeResourceTables)) → TakesTable a id o b → b ≡ record a { tables = b.tables; resources = b.resources }
taken_alone a b id (Some t) same = others_stay a b same
taken_alone a b id None (i, made, rest) = rest

pub table_alone : (a b : Builder) (id : Id SourceResources) (o : Option (Id TypeResourceTables)) (r : Result (Id TypeResourceTables) BuildError) → OnOk r (TakesTable a id o b) → IfErr r (λ e. (b ≡ a) × MayRefuseTable a.resources a.tables id e) → b ≡ record a { tables = b.tables; resources = b.resources }
table_alone a b id o (Ok i) taken refused = taken_alone a b id o taken
table_alone a b id o (Err e) taken (same, why) = others_stay a b same

-- a refusal, with what was known before
pub refused_none : (a b : Builder) (id : Id SourceResources) (r : Result (Id TypeResourceTables) BuildError) → kept_table a.resources id ≡ None → IfErr r (λ e. (b ≡ a) × MayRefuseTable a.resources a.tables id e) → IfErr r (λ e. (b ≡ a) × (kept_table a.resources id ≡ None) × MayRefuseTable a.resources a.tables id e)
refused_none a b id (Ok i) none h = tt
refused_none a b id (Err e) none (same, why) = (same, none, why)

-- ---- registrations

pub was_registered : (a z : Builder) → a ≡ z → (id : Id SourceResources) → is_some (registration a.resources id) ≡ true → RegistersNext z id (registration z.resources id) z
was_registered a z e id h = subst (λ (y : Builder). RegistersNext y id (registration y.resources id) y) e (there (registration a.resources id) h)
  where
    there : (o : Option Registration) → is_some o ≡ true → RegistersNext a id o a
    there None h = cc
    there (Some k) h = refl

pub registered_next : (a z : Builder) → a ≡ z → (id : Id SourceResources) (i : Id AbstractResources) (next : ℕ) (u : KnownResources) → registration a.resources id ≡ None → i.number ≡ a.abstracts + 1 → a.abstracts < 4294967295 → next ≡ a.abstracts + 1 → u ≡ with_registration a.resources id (is.Abstract i)
    → RegistersNext z id (registration z.resources id) (record a { resources = u; abstracts = next })
registered_next a z e id i next u none place room n w =
    let b : Builder = record a { resources = u; abstracts = next } in
    subst (λ (y : Builder). RegistersNext y id (registration y.resources id) b) e
    (subst (λ o. RegistersNext a id o b) (sym none) (i, place, room, λ j. record a { resources = w j; abstracts = n j }))

pub none_numbered : (a z : Builder) → a ≡ z → (id : Id SourceResources) → registration a.resources id ≡ None → a.abstracts ≡ 4294967295 → MayRefuseNext z id build.TooLarge
none_numbered a z e id none full = subst (λ (y : Builder). MayRefuseNext y id build.TooLarge) e (none, inr (refl, full))

pub none_registered : {X : Type 0} (a z : Builder) → a ≡ z → (id : Id SourceResources) (u : KnownResources) (r : Result X BuildError) → u ≡ a.resources → registration a.resources id ≡ None → (y : BuildError) × (r ≡ Err y) × (y ≡ build.OutOfMemory)
    → IfErr r (λ x. (record a { resources = u } ≡ z) × MayRefuseNext z id x)
none_registered a z e id u r back none (y, at, memory) =
    subst (λ q. IfErr q (λ x. (record a { resources = u } ≡ z) × MayRefuseNext z id x)) (sym at)
    ((λ i. record a { resources = back i }) ∙ e, subst (λ (w : Builder). MayRefuseNext w id y) e (none, inl memory))
