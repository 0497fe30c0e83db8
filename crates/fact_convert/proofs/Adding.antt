-- A builder grows by what is added to its tables.
use Rattle.std.proofs.Common.{◌≡◌, ◌≤◌, ◌<◌, ℕ, zero, suc, List, [], ◌∷◌, ◌++◌, length, Option, Some, None, refl, sym, ◌∙◌, ap, subst, arith, inl, inr}
use Rattle.std.proofs.lemmas.Option.{slice_get_within, slice_get-get_or}
use Rattle.fact_wasm.specs.declared.types.FuncType.{FuncType}
use Rattle.fact_types.specs.declared.kinds.TypeErrorContextTable.{TypeErrorContextTable}
use Rattle.fact_types.specs.declared.kinds.TypeFunc.{TypeFunc}
use Rattle.fact_types.specs.declared.kinds.TypeFuture.{TypeFuture}
use Rattle.fact_types.specs.declared.kinds.TypeFutureTable.{TypeFutureTable}
use Rattle.fact_types.specs.declared.kinds.TypeStream.{TypeStream}
use Rattle.fact_types.specs.declared.kinds.TypeStreamTable.{TypeStreamTable}
use Rattle.fact_types.specs.declared.kinds.TypeResourceTable.{TypeResourceTable}
use Rattle.fact_types.specs.Externs.{ModuleType, ComponentType, InstanceType}
use Rattle.fact_types.specs.Shapes.{Kind, k_record, k_variant, k_list, k_tuple, k_map, k_flags, k_enum, k_option, k_result, k_fixed, k_future, k_stream}
use Rattle.fact_types.specs.Tables.{Tables}
use Rattle.fact_builder.specs.Builder.{Builder}
use Rattle.fact_builder.specs.Keeps.{Keeps}
use Rattle.fact_builder.specs.Makes.{with_table_of}
use Rattle.fact_builder.specs.Known.{KnownResources, kept_table, registration, AreKeptLive}
use Rattle.fact_convert.specs.Conversion.{KeepsEntries, OnlyAdds, BuilderGrows}
use Rattle.fact_convert.specs.BuilderTables.{tables_of}
use Rattle.fact_convert.specs.Interning.{Interns}

-- ---- entries keep their places

pub all_keep : {X : Type 0} (xs : List X) → KeepsEntries xs xs
all_keep xs i x h = h

pub one_more_keeps : {X : Type 0} (xs : List X) (y : X) → KeepsEntries xs (xs ++ y ∷ [])
one_more_keeps [] y i x h = cc
one_more_keeps (z ∷ zs) y zero x h = h
one_more_keeps (z ∷ zs) y (suc i) x h = one_more_keeps zs y i x h

pub same_keep : {X : Type 0} (xs ys : List X) → ys ≡ xs → KeepsEntries xs ys
same_keep xs ys e = subst (KeepsEntries xs) (sym e) (all_keep xs)

pub interning_keeps : {X : Type 0} (xs ys : List X) (v : X) → Interns xs v ys → KeepsEntries xs ys
interning_keeps xs ys v (inl (h, e)) = same_keep xs ys e
interning_keeps xs ys v (inr (h, l, e)) = subst (KeepsEntries xs) (sym e) (one_more_keeps xs v)

pub no_shorter : {X : Type 0} (xs ys : List X) → KeepsEntries xs ys → (i : ℕ) → i < length xs → i < length ys
no_shorter [] ys k i l = absurd (omega (arith, l))
no_shorter (x ∷ xs) ys k i l = slice_get_within ys i _ (k i _ (slice_get-get_or (x ∷ xs) i x l))

-- ---- the tables that are kept are still there

pub kept_still : (r : KnownResources) (t u : Tables) → KeepsEntries t.resource_tables u.resource_tables → AreKeptLive r t → AreKeptLive r u
kept_still r t u k a i d l = no_shorter t.resource_tables u.resource_tables k _ (a i d l)

-- ---- a builder with the same resources grows by the entries that it gains

le_refl : (n : ℕ) → n ≤ n
le_refl n = omega arith

none_some : {X : Type 0} (x : X) (o : Option X) → o ≡ None → o ≡ Some x → ⊥
none_some x o h k = let both : None ≡ Some x = sym h ∙ k in cc

-- a builder that gains entries
pub record Gains (old new : Builder) : Type 0 where
  pub source : new.source ≡ old.source
  pub types : Keeps old.tables new.tables
  pub tables : OnlyAdds old.tables new.tables
  pub core : KeepsEntries old.module_types new.module_types
  pub resources : new.resources ≡ old.resources
  pub abstracts : new.abstracts ≡ old.abstracts

pub gains_grow : (a b : Builder) → Gains a b → BuilderGrows a b
gains_grow a b g = record {
  source = g.source;
  types = g.types;
  tables = g.tables;
  core = g.core;
  registered = λ r k h. ap (λ (u : KnownResources). registration u r) g.resources ∙ h;
  numbered = λ r k h q. absurd (none_some k _ h (ap (λ (u : KnownResources). registration u r) (sym g.resources) ∙ q));
  kept = λ r t h. ap (λ (u : KnownResources). kept_table u r) g.resources ∙ h;
  taken = λ r t h q. absurd (none_some t _ h (ap (λ (u : KnownResources). kept_table u r) (sym g.resources) ∙ q));
  instance = ap (λ (u : KnownResources). u.instance) g.resources;
  counted = subst (λ n. a.abstracts ≤ n) (sym g.abstracts) (le_refl a.abstracts);
}

pub gains_kept : (a b : Builder) → Gains a b → AreKeptLive a.resources (tables_of a) → AreKeptLive b.resources (tables_of b)
gains_kept a b g k = subst (λ (u : KnownResources). AreKeptLive u b.tables) (sym g.resources) (kept_still a.resources a.tables b.tables g.tables.resource_tables k)

-- ---- tables whose entries are no types that are made of members

abbrev pub with_plain : Tables → List ModuleType → List ComponentType → List InstanceType → List TypeFunc → List TypeFuture → List TypeFutureTable → List TypeStream → List TypeStreamTable → List TypeErrorContextTable → List TypeResourceTable → Tables
with_plain t ms cs is fs us uts ss sts es rs = record t { modules = ms; components = cs; component_instances = is; functions = fs; futures = us; future_tables = uts; streams = ss; stream_tables = sts; error_context_tables = es; resource_tables = rs }

adds : (t : Tables) (ms : List ModuleType) (cs : List ComponentType) (is : List InstanceType) (fs : List TypeFunc) (us : List TypeFuture) (uts : List TypeFutureTable) (ss : List TypeStream) (sts : List TypeStreamTable) (es : List TypeErrorContextTable) (rs : List TypeResourceTable)
    → KeepsEntries t.modules ms → KeepsEntries t.components cs → KeepsEntries t.component_instances is → KeepsEntries t.functions fs → KeepsEntries t.futures us → KeepsEntries t.future_tables uts → KeepsEntries t.streams ss → KeepsEntries t.stream_tables sts → KeepsEntries t.error_context_tables es → KeepsEntries t.resource_tables rs
    → OnlyAdds t (with_plain t ms cs is fs us uts ss sts es rs)
adds t ms cs is fs us uts ss sts es rs k0 k1 k2 k3 k4 k5 k6 k7 k8 k9 = record { modules = k0; components = k1; component_instances = k2; functions = k3; futures = k4; future_tables = k5; streams = k6; stream_tables = k7; error_context_tables = k8; resource_tables = k9; module_types = refl }

gains_tables : (a : Builder) (u : Tables) → Keeps a.tables u → OnlyAdds a.tables u → Gains a (record a { tables = u })
gains_tables a u k o = record { source = refl; types = k; tables = o; core = all_keep a.module_types; resources = refl; abstracts = refl }

pub gains_module : (a : Builder) (e : ModuleType) → Keeps a.tables (record a.tables { modules = a.tables.modules ++ e ∷ [] }) → Gains a (record a { tables = record a.tables { modules = a.tables.modules ++ e ∷ [] } })
gains_module a e k =
    let t = a.tables in
    gains_tables a _ k (adds t (t.modules ++ e ∷ []) t.components t.component_instances t.functions t.futures t.future_tables t.streams t.stream_tables t.error_context_tables t.resource_tables (one_more_keeps t.modules e) (all_keep _) (all_keep _) (all_keep _) (all_keep _) (all_keep _) (all_keep _) (all_keep _) (all_keep _) (all_keep _))

pub gains_component : (a : Builder) (e : ComponentType) → Keeps a.tables (record a.tables { components = a.tables.components ++ e ∷ [] }) → Gains a (record a { tables = record a.tables { components = a.tables.components ++ e ∷ [] } })
gains_component a e k =
    let t = a.tables in
    gains_tables a _ k (adds t t.modules (t.components ++ e ∷ []) t.component_instances t.functions t.futures t.future_tables t.streams t.stream_tables t.error_context_tables t.resource_tables (all_keep _) (one_more_keeps t.components e) (all_keep _) (all_keep _) (all_keep _) (all_keep _) (all_keep _) (all_keep _) (all_keep _) (all_keep _))

pub gains_instance : (a : Builder) (e : InstanceType) → Keeps a.tables (record a.tables { component_instances = a.tables.component_instances ++ e ∷ [] }) → Gains a (record a { tables = record a.tables { component_instances = a.tables.component_instances ++ e ∷ [] } })
gains_instance a e k =
    let t = a.tables in
    gains_tables a _ k (adds t t.modules t.components (t.component_instances ++ e ∷ []) t.functions t.futures t.future_tables t.streams t.stream_tables t.error_context_tables t.resource_tables (all_keep _) (all_keep _) (one_more_keeps t.component_instances e) (all_keep _) (all_keep _) (all_keep _) (all_keep _) (all_keep _) (all_keep _) (all_keep _))

pub gains_func : (a : Builder) (e : TypeFunc) (xs : List TypeFunc) → Interns a.tables.functions e xs → Keeps a.tables (record a.tables { functions = xs }) → Gains a (record a { tables = record a.tables { functions = xs } })
gains_func a e xs n k =
    let t = a.tables in
    gains_tables a _ k (adds t t.modules t.components t.component_instances xs t.futures t.future_tables t.streams t.stream_tables t.error_context_tables t.resource_tables (all_keep _) (all_keep _) (all_keep _) (interning_keeps t.functions xs e n) (all_keep _) (all_keep _) (all_keep _) (all_keep _) (all_keep _) (all_keep _))

pub gains_future : (a : Builder) (e : TypeFuture) (xs : List TypeFuture) → Interns a.tables.futures e xs → Keeps a.tables (record a.tables { futures = xs }) → Gains a (record a { tables = record a.tables { futures = xs } })
gains_future a e xs n k =
    let t = a.tables in
    gains_tables a _ k (adds t t.modules t.components t.component_instances t.functions xs t.future_tables t.streams t.stream_tables t.error_context_tables t.resource_tables (all_keep _) (all_keep _) (all_keep _) (all_keep _) (interning_keeps t.futures xs e n) (all_keep _) (all_keep _) (all_keep _) (all_keep _) (all_keep _))

pub gains_future_table : (a : Builder) (e : TypeFutureTable) (xs : List TypeFutureTable) → Interns a.tables.future_tables e xs → Keeps a.tables (record a.tables { future_tables = xs }) → Gains a (record a { tables = record a.tables { future_tables = xs } })
gains_future_table a e xs n k =
    let t = a.tables in
    gains_tables a _ k (adds t t.modules t.components t.component_instances t.functions t.futures xs t.streams t.stream_tables t.error_context_tables t.resource_tables (all_keep _) (all_keep _) (all_keep _) (all_keep _) (all_keep _) (interning_keeps t.future_tables xs e n) (all_keep _) (all_keep _) (all_keep _) (all_keep _))

pub gains_stream : (a : Builder) (e : TypeStream) (xs : List TypeStream) → Interns a.tables.streams e xs → Keeps a.tables (record a.tables { streams = xs }) → Gains a (record a { tables = record a.tables { streams = xs } })
gains_stream a e xs n k =
    let t = a.tables in
    gains_tables a _ k (adds t t.modules t.components t.component_instances t.functions t.futures t.future_tables xs t.stream_tables t.error_context_tables t.resource_tables (all_keep _) (all_keep _) (all_keep _) (all_keep _) (all_keep _) (all_keep _) (interning_keeps t.streams xs e n) (all_keep _) (all_keep _) (all_keep _))

pub gains_stream_table : (a : Builder) (e : TypeStreamTable) (xs : List TypeStreamTable) → Interns a.tables.stream_tables e xs → Keeps a.tables (record a.tables { stream_tables = xs }) → Gains a (record a { tables = record a.tables { stream_tables = xs } })
gains_stream_table a e xs n k =
    let t = a.tables in
    gains_tables a _ k (adds t t.modules t.components t.component_instances t.functions t.futures t.future_tables t.streams xs t.error_context_tables t.resource_tables (all_keep _) (all_keep _) (all_keep _) (all_keep _) (all_keep _) (all_keep _) (all_keep _) (interning_keeps t.stream_tables xs e n) (all_keep _) (all_keep _))

pub gains_error_context_table : (a : Builder) (e : TypeErrorContextTable) (xs : List TypeErrorContextTable) → Interns a.tables.error_context_tables e xs → Keeps a.tables (record a.tables { error_context_tables = xs }) → Gains a (record a { tables = record a.tables { error_context_tables = xs } })
gains_error_context_table a e xs n k =
    let t = a.tables in
    gains_tables a _ k (adds t t.modules t.components t.component_instances t.functions t.futures t.future_tables t.streams t.stream_tables xs t.resource_tables (all_keep _) (all_keep _) (all_keep _) (all_keep _) (all_keep _) (all_keep _) (all_keep _) (all_keep _) (interning_keeps t.error_context_tables xs e n) (all_keep _))

pub adds_resource_table : (t : Tables) (e : TypeResourceTable) → OnlyAdds t (record t { resource_tables = t.resource_tables ++ e ∷ [] })
adds_resource_table t e = adds t t.modules t.components t.component_instances t.functions t.futures t.future_tables t.streams t.stream_tables t.error_context_tables (t.resource_tables ++ e ∷ []) (all_keep _) (all_keep _) (all_keep _) (all_keep _) (all_keep _) (all_keep _) (all_keep _) (all_keep _) (all_keep _) (one_more_keeps t.resource_tables e)

types_same : (t : Tables) → Keeps t t
types_same t = record { live = λ ty l. l; shapes = λ ty s h. h; signatures = λ i ps rs h. h }

pub gains_core : (a : Builder) (e : FuncType) (xs : List FuncType) → Interns a.module_types e xs → Gains a (record a { module_types = xs })
gains_core a e xs n =
    let t = a.tables in record {
      source = refl;
      types = types_same t;
      tables = adds t t.modules t.components t.component_instances t.functions t.futures t.future_tables t.streams t.stream_tables t.error_context_tables t.resource_tables (all_keep _) (all_keep _) (all_keep _) (all_keep _) (all_keep _) (all_keep _) (all_keep _) (all_keep _) (all_keep _) (all_keep _);
      core = interning_keeps a.module_types xs e n;
      resources = refl;
      abstracts = refl;
    }

-- ---- a type that is made of members is put into the table of its kind alone

-- a builder without the tables of types that are made of members
pub record Plain : Type 0 where
  pub source : ℕ
  pub tables : Tables
  pub core : List FuncType
  pub resources : KnownResources
  pub abstracts : ℕ

abbrev pub plain_of : Builder → Plain
plain_of b = record { source = b.source; tables = record b.tables { records = []; variants = []; lists = []; tuples = []; maps = []; flags = []; enums = []; options = []; results = []; fixed_length_lists = [] }; core = b.module_types; resources = b.resources; abstracts = b.abstracts }

pub same_plain : (k : Kind) (old new : Builder) → new ≡ with_table_of k old new → plain_of new ≡ plain_of old
same_plain k_record old new r = ap plain_of r
same_plain k_variant old new r = ap plain_of r
same_plain k_list old new r = ap plain_of r
same_plain k_tuple old new r = ap plain_of r
same_plain k_map old new r = ap plain_of r
same_plain k_flags old new r = ap plain_of r
same_plain k_enum old new r = ap plain_of r
same_plain k_option old new r = ap plain_of r
same_plain k_result old new r = ap plain_of r
same_plain (k_fixed size) old new r = ap plain_of r
same_plain (k_future table instance) old new r = ap plain_of r
same_plain (k_stream table instance) old new r = ap plain_of r

-- the tables alone are changed
pub only_tables : (k : Kind) (old new : Builder) → new ≡ with_table_of k old new → new ≡ record old { tables = new.tables }
only_tables k old new r = λ i. let p = same_plain k old new r i in record { source = p.source; tables = new.tables; module_types = p.core; resources = p.resources; abstracts = p.abstracts }

pub gains_made : (k : Kind) (old new : Builder) → new ≡ with_table_of k old new → Keeps old.tables new.tables → Gains old new
gains_made k old new r keeps =
    let e = same_plain k old new r in record {
      source = ap (λ (p : Plain). p.source) e;
      types = keeps;
      tables = record {
        modules = same_keep _ _ (ap (λ (p : Plain). p.tables.modules) e);
        components = same_keep _ _ (ap (λ (p : Plain). p.tables.components) e);
        component_instances = same_keep _ _ (ap (λ (p : Plain). p.tables.component_instances) e);
        functions = same_keep _ _ (ap (λ (p : Plain). p.tables.functions) e);
        futures = same_keep _ _ (ap (λ (p : Plain). p.tables.futures) e);
        future_tables = same_keep _ _ (ap (λ (p : Plain). p.tables.future_tables) e);
        streams = same_keep _ _ (ap (λ (p : Plain). p.tables.streams) e);
        stream_tables = same_keep _ _ (ap (λ (p : Plain). p.tables.stream_tables) e);
        error_context_tables = same_keep _ _ (ap (λ (p : Plain). p.tables.error_context_tables) e);
        resource_tables = same_keep _ _ (ap (λ (p : Plain). p.tables.resource_tables) e);
        module_types = ap (λ (p : Plain). p.tables.module_types) e;
      };
      core = same_keep _ _ (ap (λ (p : Plain). p.core) e);
      resources = ap (λ (p : Plain). p.resources) e;
      abstracts = ap (λ (p : Plain). p.abstracts) e;
    }
