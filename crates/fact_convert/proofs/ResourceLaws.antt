-- What comes of a resource: that it is registered, and that it has a table.
use Rattle.std.proofs.Common.{◌≡◌, ◌≢◌, ◌<◌, ◌≤◌, ◌+◌, ◌⊎◌, ℕ, Bool, true, false, List, [], ◌∷◌, ◌++◌, length, length-append, Option, Some, None, refl, sym, ◌∙◌, ap, subst, arith, inl, inr, eqb-true}
use Rattle.std.specs.Prelude.{slice_get, cond, nat_eq, Result, Ok, Err, IfErr, IfOk, OnOk}
use Rattle.std.specs.Map.{lookup}
use Rattle.std.proofs.lemmas.List.Elements.{All-push}
use Rattle.fact_entity.specs.declared.id.Id.{Id}
use Rattle.fact_entity.specs.declared.table.AbstractResources.{AbstractResources}
use Rattle.fact_entity.specs.declared.table.RuntimeComponentInstances.{RuntimeComponentInstances}
use Rattle.fact_entity.specs.declared.table.SourceResources.{SourceResources}
use Rattle.fact_entity.specs.declared.table.TypeResourceTables.{TypeResourceTables}
use Rattle.fact_source.specs.SourceTables.{SourceTables}
use Rattle.fact_types.specs.declared.kinds.TypeResourceTable.{TypeResourceTable}
use Rattle.fact_types.specs.Tables.{Tables}
use Rattle.fact_builder.specs.Builder.{Builder}
use Rattle.fact_builder.specs.Keeps.{Keeps}
use Rattle.fact_builder.specs.declared.error.BuildError.{BuildError}
use Rattle.fact_builder.specs.declared.error.BuildError.TheVariants as build
use Rattle.fact_builder.specs.declared.registration.Registration.{Registration}
use Rattle.fact_builder.specs.declared.registration.Registration.TheVariants as is
use Rattle.fact_builder.specs.Known.{KnownResources, kept_table, registration, with_table, with_registration, new_table, new_table_of, MakesTable, MayRefuseTable}
use Rattle.fact_builder.proofs.TableLaws.{found_last, kept_last}
use Rattle.fact_convert.specs.Conversion.{BuilderGrows}
use Rattle.fact_convert.specs.BuilderTables.{tables_of}
use Rattle.fact_builder.specs.Registering.{MayRefuseNext, RegistersNext, TakesTable}
use Rattle.fact_convert.specs.Progress.{Comes}
use Rattle.fact_convert.specs.Tasks.{registers, takes_table}
use Rattle.fact_convert.proofs.Adding.{all_keep, kept_still, adds_resource_table, one_more_keeps}
use Rattle.fact_convert.proofs.Coming.{comes_by, comes_at_once, comes_to_nothing}
use Rattle.fact_convert.proofs.GrowthLaws.{grows_none}

-- ---- one more pair behind the others

found_on : {V : Type 0} (b : Bool) (y v w : V) (o p : Option V) → (o ≡ Some v → p ≡ Some v) → cond b (Some y) o ≡ Some v → cond b (Some y) p ≡ Some v
found_on true y v w o p f h = h
found_on false y v w o p f h = f h

-- what was found is found still
pub found_still : {K V : Type 0} (test : K → Bool) (xs : List (K × V)) (x : K × V) (v : V) → lookup test xs ≡ Some v → lookup test (xs ++ x ∷ []) ≡ Some v
found_still test [] x v h = cc
found_still test (y ∷ ys) x v h = found_on (test y.0) y.1 v v (lookup test ys) (lookup test (ys ++ x ∷ [])) (found_still test ys x v) h

passed_last : {V : Type 0} (b : Bool) (x v : V) → cond b (Some x) None ≡ Some v → (b ≡ true) × (x ≡ v)
passed_last true x v h = (refl, cc)
passed_last false x v h = cc

le_refl : (n : ℕ) → n ≤ n
le_refl n = omega arith

none_some : {X : Type 0} (x : X) (o : Option X) → o ≡ None → o ≡ Some x → ⊥
none_some x o h k = let both : None ≡ Some x = sym h ∙ k in cc

-- ---- a resource is registered as the next abstract one

numbers_next : (m : ℕ) → m < m + 1
numbers_next m = omega arith

more_counted : (m : ℕ) → m ≤ m + 1
more_counted m = omega arith

last_registered : (r : KnownResources) (id q : Id SourceResources) (i : Id AbstractResources) (k : Registration) → registration r q ≡ None → registration (with_registration r id (is.Abstract i)) q ≡ Some k → k ≡ is.Abstract i
last_registered r id q i k n h = sym (passed_last (nat_eq q.number id.number) (is.Abstract i) k (sym (found_last (λ z. nat_eq q.number z.number) r.registered (id, is.Abstract i) n) ∙ h)).1

registered_grows : (a : Builder) (id : Id SourceResources) (i : Id AbstractResources) → i.number ≡ a.abstracts + 1 → BuilderGrows a (record a { resources = with_registration a.resources id (is.Abstract i); abstracts = a.abstracts + 1 })
registered_grows a id i e = record {
  source = refl;
  types = (grows_none a).types;
  tables = (grows_none a).tables;
  core = all_keep a.module_types;
  registered = λ r k h. found_still (λ z. nat_eq r.number z.number) a.resources.registered (id, is.Abstract i) k h;
  numbered = λ r k h q. (i, last_registered a.resources id r i k h q, subst (λ n. a.abstracts < n) (sym e) (numbers_next a.abstracts), subst (λ n. n ≤ a.abstracts + 1) (sym e) (le_refl _));
  kept = λ r t h. h;
  taken = λ r t h q. absurd (none_some t _ h q);
  instance = refl;
  counted = more_counted a.abstracts;
}

was_registered : (s : SourceTables) (a : Builder) (id : Id SourceResources) (o : Option Registration) → registration a.resources id ≡ o → (o ≡ None → ⊥) → Comes s a (registers id ∷ []) (λ c x. Unit {0}) a (Ok (tt {0}))
was_registered s a id None e n = absurd (n refl)
was_registered s a id (Some k) e n = comes_by s a a (registers id) (λ c x. Unit {0}) (tt {0}) (subst (λ o. RegistersNext a id o a) (sym e) refl) (grows_none a) (λ k. k) (tt {0})

registered_next : (s : SourceTables) (a : Builder) (id : Id SourceResources) (i : Id AbstractResources) (next : ℕ) (u : KnownResources) → registration a.resources id ≡ None → i.number ≡ a.abstracts + 1 → a.abstracts < 4294967295 → next ≡ a.abstracts + 1 → u ≡ with_registration a.resources id (is.Abstract i) → Comes s a (registers id ∷ []) (λ c x. Unit {0}) (record a { resources = u; abstracts = next }) (Ok (tt {0}))
registered_next s a id i next u none e l n w =
    let c : Builder = record a { resources = with_registration a.resources id (is.Abstract i); abstracts = a.abstracts + 1 } in
    subst (λ z. Comes s a (registers id ∷ []) (λ c x. Unit {0}) z (Ok (tt {0}))) (λ j. record a { resources = sym w j; abstracts = sym n j })
    (comes_by s a c (registers id) (λ c x. Unit {0}) (tt {0}) (subst (λ o. RegistersNext a id o c) (sym none) (i, e, l, refl)) (registered_grows a id i e) (λ k. k) (tt {0}))

none_numbered : (s : SourceTables) (a : Builder) (id : Id SourceResources) → registration a.resources id ≡ None → a.abstracts ≡ 4294967295 → Comes {X = Unit {0}} s a (registers id ∷ []) (λ c x. Unit {0}) a (Err build.TooLarge)
none_numbered s a id n e = comes_at_once s a (registers id ∷ []) (λ c x. Unit {0}) build.TooLarge (n, e)

-- ---- a resource has a table

table_kept : (s : SourceTables) (a : Builder) (id : Id SourceResources) (i : Id TypeResourceTables) → kept_table a.resources id ≡ Some i → Comes s a (takes_table id ∷ []) (λ c i. kept_table c.resources id ≡ Some i) a (Ok i)
table_kept s a id i h = comes_by s a a (takes_table id) (λ c i. kept_table c.resources id ≡ Some i) i (subst (λ o. TakesTable a id o a) (sym h) refl) (grows_none a) (λ k. k) h

last_taken : (r : KnownResources) (id q : Id SourceResources) (i t : Id TypeResourceTables) → kept_table r q ≡ None → kept_table (with_table r id i) q ≡ Some t → (q.number ≡ id.number) × (i ≡ t)
last_taken r id q i t n h =
    let (same, last) = passed_last (nat_eq q.number id.number) i t (sym (found_last (λ z. nat_eq q.number z.number) r.tables (id, i) n) ∙ h) in
    (eqb-true q.number id.number same, last)

last_place : (ts : List TypeResourceTable) (e : TypeResourceTable) → slice_get (ts ++ e ∷ []) (length ts) ≡ Some e
last_place [] e = refl
last_place (t ∷ ts) e = last_place ts e

taken_as : (r : KnownResources) (ts : List TypeResourceTable) (e : TypeResourceTable) (id q : Id SourceResources) (i t : Id TypeResourceTables) → new_table r id ≡ Ok e → i.number ≡ length ts → kept_table r q ≡ None → kept_table (with_table r id i) q ≡ Some t → (x : TypeResourceTable) × (new_table_of (registration r q) r.instance ≡ Ok x) × (slice_get (ts ++ e ∷ []) t.number ≡ Some x)
taken_as r ts e id q i t asked place n h =
    let (same, last) = last_taken r id q i t n h in (
      e,
      ap (λ m. new_table_of (lookup (λ (z : Id SourceResources). nat_eq m z.number) r.registered) r.instance) same ∙ asked,
      ap (λ (z : Id TypeResourceTables). slice_get (ts ++ e ∷ []) z.number) (sym last) ∙ ap (λ m. slice_get (ts ++ e ∷ []) m) place ∙ last_place ts e,
    )

within_more : (n : ℕ) (ts : List TypeResourceTable) (e : TypeResourceTable) → n ≡ length ts → n < length (ts ++ e ∷ [])
within_more n ts e h = omega (arith, h, length-append ts (e ∷ []))

table_made : (s : SourceTables) (a : Builder) (b : Builder) (id : Id SourceResources) (i : Id TypeResourceTables) (e : TypeResourceTable) (u : KnownResources) → kept_table a.resources id ≡ None → new_table a.resources id ≡ Ok e → i.number ≡ length (tables_of a).resource_tables → length (tables_of a).resource_tables ≢ 4294967295
    → u ≡ with_table a.resources id i → b ≡ record a { tables = record a.tables { resource_tables = a.tables.resource_tables ++ e ∷ [] } } → Keeps a.tables b.tables → Comes s a (takes_table id ∷ []) (λ c i. kept_table c.resources id ≡ Some i) (record b { resources = u }) (Ok i)
table_made s a b id i e u none asked place room w rest keeps =
    let ts = (tables_of a).resource_tables in
    let t : Tables = record (tables_of a) { resource_tables = ts ++ e ∷ [] } in
    let c : Builder = record a { tables = t; resources = with_table a.resources id i } in
    let g : BuilderGrows a c = record {
      source = refl;
      types = subst (λ (z : Builder). Keeps a.tables z.tables) rest keeps;
      tables = adds_resource_table (tables_of a) e;
      core = all_keep a.module_types;
      registered = λ r k h. h;
      numbered = λ r k h q. absurd (none_some k _ h q);
      kept = λ r t h. found_still (λ z. nat_eq r.number z.number) a.resources.tables (id, i) t h;
      taken = λ r t h q. taken_as a.resources ts e id r i t asked place h q;
      instance = refl;
      counted = le_refl _;
    } in
    let made : MakesTable a.resources (tables_of a) id c.resources t i = record { table = e; asked = asked; room = room; place = place; kept = refl; added = refl } in
    subst (λ z. Comes s a (takes_table id ∷ []) (λ c i. kept_table c.resources id ≡ Some i) z (Ok i)) (λ j. record (sym rest j) { resources = sym w j })
    (comes_by s a c (takes_table id) (λ c i. kept_table c.resources id ≡ Some i) i (subst (λ o. TakesTable a id o c) (sym none) (i, made, refl)) g
    (λ k. All-push (λ (x : Id SourceResources × Id TypeResourceTables). x.1.number < length t.resource_tables) a.resources.tables (id, i) (kept_still a.resources (tables_of a) t (one_more_keeps ts e) k) (within_more i.number ts e place))
    (kept_last a.resources id i none))

-- why a table is not made: the resource is unknown, or has no instance
abbrev IsOther : BuildError → Type 0
IsOther build.UnknownResource = ⊥
IsOther build.NoInstance = ⊥
IsOther e = Unit {0}

no_other : (n : Option (Id RuntimeComponentInstances)) (o : Option Registration) (e : BuildError) → new_table_of o n ≡ Err e → IsOther e → ⊥
no_other n None e h k = let same : build.UnknownResource ≡ e = cc in subst IsOther (sym same) k
no_other n (Some (is.Abstract i)) e h k = cc
no_other None (Some (is.Concrete i)) e h k = let same : build.NoInstance ≡ e = cc in subst IsOther (sym same) k
no_other (Some n) (Some (is.Concrete i)) e h k = cc

none_made : {X : Type 0} (s : SourceTables) (a : Builder) (id : Id SourceResources) (F : Builder → X → Type 0) (e : BuildError) → kept_table a.resources id ≡ None → new_table a.resources id ≡ Err e → Comes s a (takes_table id ∷ []) F a (Err e)
none_made s a id F build.OutOfMemory k n = comes_at_once s a (takes_table id ∷ []) F build.OutOfMemory tt
none_made s a id F build.UnknownResource k n = comes_at_once s a (takes_table id ∷ []) F build.UnknownResource (k, n)
none_made s a id F build.NoInstance k n = comes_at_once s a (takes_table id ∷ []) F build.NoInstance (k, n)
none_made s a id F build.TooLarge k n = absurd (no_other a.resources.instance (registration a.resources id) build.TooLarge n tt)
none_made s a id F build.UnsupportedTypeExport k n = absurd (no_other a.resources.instance (registration a.resources id) build.UnsupportedTypeExport n tt)
none_made s a id F build.ValuesNotSupported k n = absurd (no_other a.resources.instance (registration a.resources id) build.ValuesNotSupported n tt)
none_made s a id F build.CustomDescriptors k n = absurd (no_other a.resources.instance (registration a.resources id) build.CustomDescriptors n tt)

-- ---- what the builder does for a resource, as a task

none_some_table : (s : SourceTables) (a b : Builder) (id : Id SourceResources) (i : Id TypeResourceTables) → kept_table a.resources id ≡ None → kept_table b.resources id ≡ Some i → TakesTable a id None b → Keeps a.tables b.tables
    → Comes s a (takes_table id ∷ []) (λ c i. kept_table c.resources id ≡ Some i) b (Ok i)
none_some_table s a b id i none kept (j, made, rest) keeps =
    let t : Tables = record a.tables { resource_tables = a.tables.resource_tables ++ made.table ∷ [] } in
    let c : Builder = record a { tables = t } in
    let u : KnownResources = with_table a.resources id j in
    let became : b ≡ record c { resources = u } = rest ∙ (λ k. record a { tables = made.added k; resources = made.kept k }) in
    let last : kept_table u id ≡ Some j = kept_last a.resources id j none in
    let same : i ≡ j = some_same (sym kept ∙ ap (λ r. kept_table r id) made.kept ∙ last) in
    subst (λ y. Comes s a (takes_table id ∷ []) (λ c i. kept_table c.resources id ≡ Some i) b (Ok y)) (sym same)
    (subst (λ z. Comes s a (takes_table id ∷ []) (λ c i. kept_table c.resources id ≡ Some i) z (Ok j)) (sym became)
    (table_made s a c id j made.table u none made.asked made.place made.room refl refl (subst (λ z. Keeps a.tables z) made.added keeps)))
  where
    some_same : {X : Type 0} {x y : X} → Some x ≡ Some y → x ≡ y
    some_same e = cc

pub table_comes : (s : SourceTables) (a b : Builder) (id : Id SourceResources) (r : Result (Id TypeResourceTables) BuildError)
    → IfOk r (λ i. kept_table b.resources id ≡ Some i) → OnOk r (TakesTable a id (kept_table a.resources id) b)
    → IfErr r (λ e. (b ≡ a) × (kept_table a.resources id ≡ None) × MayRefuseTable a.resources a.tables id e) → Keeps a.tables b.tables
    → Comes s a (takes_table id ∷ []) (λ c i. kept_table c.resources id ≡ Some i) b r
table_comes s a b id (Ok i) kept taken refused keeps = go (kept_table a.resources id) refl taken
  where
    go : (o : Option (Id TypeResourceTables)) → kept_table a.resources id ≡ o → TakesTable a id o b → Comes s a (takes_table id ∷ []) (λ c i. kept_table c.resources id ≡ Some i) b (Ok i)
    go (Some t) e same = subst (λ z. Comes s a (takes_table id ∷ []) (λ c i. kept_table c.resources id ≡ Some i) z (Ok i)) (sym same) (table_kept s a id i (subst (λ (z : Builder). kept_table z.resources id ≡ Some i) same kept))
    go None e took = none_some_table s a b id i e kept took keeps
table_comes s a b id (Err e) kept taken (same, none, why) keeps =
    subst (λ z. Comes s a (takes_table id ∷ []) (λ c i. kept_table c.resources id ≡ Some i) z (Err e)) (sym same) (go why)
  where
    go : MayRefuseTable a.resources a.tables id e → Comes s a (takes_table id ∷ []) (λ c i. kept_table c.resources id ≡ Some i) a (Err e)
    go (inl h) = subst (λ x. Comes s a (takes_table id ∷ []) (λ c i. kept_table c.resources id ≡ Some i) a (Err x)) (sym h) (comes_to_nothing s a (takes_table id ∷ []) (λ c i. kept_table c.resources id ≡ Some i))
    go (inr (inl (h, there, full))) = subst (λ x. Comes s a (takes_table id ∷ []) (λ c i. kept_table c.resources id ≡ Some i) a (Err x)) (sym h) (comes_at_once s a (takes_table id ∷ []) (λ c i. kept_table c.resources id ≡ Some i) build.TooLarge (there.0, none, there.1, full))
    go (inr (inr h)) = none_made s a id (λ c i. kept_table c.resources id ≡ Some i) e none h

pub registration_comes : (s : SourceTables) (a b : Builder) (id : Id SourceResources) (r : Result (Unit {0}) BuildError)
    → OnOk r (RegistersNext a id (registration a.resources id) b)
    → IfErr r (λ e. (b ≡ a) × MayRefuseNext a id e)
    → Comes s a (registers id ∷ []) (λ c x. Unit {0}) b r
registration_comes s a b id (Ok x) registered refused = go (registration a.resources id) refl registered
  where
    go : (o : Option Registration) → registration a.resources id ≡ o → RegistersNext a id o b → Comes s a (registers id ∷ []) (λ c x. Unit {0}) b (Ok x)
    go (Some k) e same = subst (λ z. Comes s a (registers id ∷ []) (λ c x. Unit {0}) z (Ok x)) (sym same) (was_registered s a id (Some k) e (λ h. cc))
    go None e (i, place, room, changed) = subst (λ z. Comes s a (registers id ∷ []) (λ c x. Unit {0}) z (Ok x)) (sym changed) (registered_next s a id i (a.abstracts + 1) (with_registration a.resources id (is.Abstract i)) e place room refl refl)
registration_comes s a b id (Err e) registered (same, (none, why)) =
    subst (λ z. Comes {X = Unit {0}} s a (registers id ∷ []) (λ c x. Unit {0}) z (Err e)) (sym same) (go why)
  where
    go : (e ≡ build.OutOfMemory) ⊎ ((e ≡ build.TooLarge) × (a.abstracts ≡ 4294967295)) → Comes {X = Unit {0}} s a (registers id ∷ []) (λ c x. Unit {0}) a (Err e)
    go (inl h) = subst (λ y. Comes {X = Unit {0}} s a (registers id ∷ []) (λ c x. Unit {0}) a (Err y)) (sym h) (comes_to_nothing s a (registers id ∷ []) (λ c x. Unit {0}))
    go (inr (h, full)) = subst (λ y. Comes {X = Unit {0}} s a (registers id ∷ []) (λ c x. Unit {0}) a (Err y)) (sym h) (none_numbered s a id none full)
