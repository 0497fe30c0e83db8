-- Tables that are kept for resources are there, and stay there; what is known of one more resource; why a table is refused.
use Rattle.std.proofs.Common.{◌≡◌, ◌<◌, ◌↔◌, inl, inr, ℕ, suc, Bool, true, false, List, [], ◌∷◌, ◌++◌, length, Option, Some, None, All, arith, length-append, subst, sym, refl, ap, ◌∙◌, eq-eqb}
use Rattle.std.specs.Prelude.{IfSome, Result, Ok, Err, IfOk, IfErr, cond, nat_eq, if◌then◌else◌}
use Rattle.std.specs.Map.{lookup}
use Rattle.std.proofs.lemmas.List.Elements.{All-push}
use Rattle.indexmap.specs.IndexMap.{insert_entry}
use Rattle.fact_entity.specs.declared.error.PushError.{PushError}
use Rattle.fact_entity.specs.declared.error.PushError.TheVariants as push
use Rattle.fact_entity.specs.declared.id.Id.{Id}
use Rattle.fact_entity.specs.declared.table.SourceResources.{SourceResources}
use Rattle.fact_entity.specs.declared.table.TypeResourceTables.{TypeResourceTables}
use Rattle.fact_types.specs.declared.kinds.TypeResourceTable.{TypeResourceTable}
use Rattle.fact_types.specs.Tables.{Tables}
use Rattle.fact_builder.specs.declared.error.BuildError.{BuildError}
use Rattle.fact_builder.specs.declared.error.BuildError.TheVariants as build
use Rattle.fact_builder.specs.Errors.{build_error}
use Rattle.fact_builder.specs.Known.{KnownResources, kept_table, with_table, new_table, AreKeptLive, MakesTable, MayRefuseTable}

-- ---- a new key goes last
next_entry : {V : Type 0} (b : Bool) (y : Id SourceResources × V) (v : V) (o : Option V) (es rest more : List (Id SourceResources × V)) → cond b (Some y.1) o ≡ None → (o ≡ None → rest ≡ es ++ more) → (if b then (y.0, v) ∷ es else y ∷ rest) ≡ y ∷ es ++ more
next_entry true y v o es rest more h q = cc
next_entry false y v o es rest more h q = ap (λ xs. y ∷ xs) (q h)

pub new_entry : {V : Type 0} (eq : Id SourceResources → Id SourceResources → Bool) (es : List (Id SourceResources × V)) (k : Id SourceResources) (v : V) → lookup (eq k) es ≡ None → insert_entry eq es k v ≡ es ++ (k, v) ∷ []
new_entry eq [] k v h = refl
new_entry eq (e ∷ es) k v h = next_entry (eq k e.0) e v (lookup (eq k) es) es (insert_entry eq es k v) ((k, v) ∷ []) h (new_entry eq es k v)

-- ---- what holds of all values that are known holds of the one that is found
found_next : {V : Type 0} (P : V → Type 0) (b : Bool) (y : V) (o : Option V) (v : V) → P y → (o ≡ Some v → P v) → cond b (Some y) o ≡ Some v → P v
found_next P true y o v p q h = subst (λ z. IfSome z P) h p
found_next P false y o v p q h = q h

found_holds : {V : Type 0} (P : V → Type 0) (test : Id SourceResources → Bool) (xs : List (Id SourceResources × V)) (v : V) → All (λ x. P x.1) xs → lookup test xs ≡ Some v → P v
found_holds P test [] v a h = cc
found_holds P test (x ∷ xs) v a h = found_next P (test x.0) x.1 (lookup test xs) v (a 0 x (omega arith)) (found_holds P test xs v (λ j d l. a (suc j) d (omega (arith, l)))) h

pub kept_is_live : (r : KnownResources) (t : Tables) (id : Id SourceResources) (i : Id TypeResourceTables) → AreKeptLive r t → kept_table r id ≡ Some i → i.number < length t.resource_tables
kept_is_live r t id i a h = found_holds (λ (j : Id TypeResourceTables). j.number < length t.resource_tables) _ r.tables i a h

-- ---- where nothing was found, the last pair is, if its key passes
missed_on : {V : Type 0} (b : Bool) (y : V) (o p q : Option V) → (o ≡ None → p ≡ q) → cond b (Some y) o ≡ None → cond b (Some y) p ≡ q
missed_on true y o p q f h = cc
missed_on false y o p q f h = f h

pub found_last : {K V : Type 0} (test : K → Bool) (xs : List (K × V)) (x : K × V) → lookup test xs ≡ None → lookup test (xs ++ x ∷ []) ≡ cond (test x.0) (Some x.1) None
found_last test [] x h = refl
found_last test (y ∷ ys) x h = missed_on (test y.0) y.1 (lookup test ys) (lookup test (ys ++ x ∷ [])) (cond (test x.0) (Some x.1) None) (found_last test ys x) h

-- so a table is found that was kept last
pub kept_last : (r : KnownResources) (id : Id SourceResources) (i : Id TypeResourceTables) → kept_table r id ≡ None → kept_table (with_table r id i) id ≡ Some i
kept_last r id i none = found_last (λ (z : Id SourceResources). nat_eq id.number z.number) r.tables (id, i) none ∙ ap (λ b. cond b (Some i) None) (eq-eqb id.number id.number refl)

-- ---- a table that was made is live, and so are those that were kept before it
longer : (n : ℕ) (ts : List TypeResourceTable) (e : TypeResourceTable) → n < length ts → n < length (ts ++ e ∷ [])
longer n ts e l = omega (arith, l, length-append ts (e ∷ []))

last_live : (n : ℕ) (ts : List TypeResourceTable) (e : TypeResourceTable) → n ≡ length ts → n < length (ts ++ e ∷ [])
last_live n ts e l = omega (arith, l, length-append ts (e ∷ []))

pub made_is_live : (r u : KnownResources) (t v : Tables) (id : Id SourceResources) (res : Result (Id TypeResourceTables) BuildError) → IfOk res (MakesTable r t id u v) → IfOk res (λ i. i.number < length v.resource_tables)
made_is_live r u t v id (Ok i) m = subst (λ (w : Tables). i.number < length w.resource_tables) (sym m.added) (last_live i.number t.resource_tables m.table m.place)
made_is_live r u t v id (Err x) h = tt

pub made_keeps_live : (r u : KnownResources) (t v : Tables) (id : Id SourceResources) (res : Result (Id TypeResourceTables) BuildError) → IfOk res (MakesTable r t id u v) → IfErr res (λ e. (u ≡ r) × (v ≡ t) × MayRefuseTable r t id e) → AreKeptLive r t → AreKeptLive u v
made_keeps_live r u t v id (Ok i) m o a =
    subst (λ (w : Tables). AreKeptLive u w) (sym m.added) (subst (λ (w : KnownResources). AreKeptLive w (record t { resource_tables = t.resource_tables ++ m.table ∷ [] })) (sym m.kept)
    (All-push (λ (x : Id SourceResources × Id TypeResourceTables). x.1.number < length (t.resource_tables ++ m.table ∷ [])) r.tables (id, i) (λ j d k. longer _ t.resource_tables m.table (a j d k)) (last_live i.number t.resource_tables m.table m.place)))
made_keeps_live r u t v id (Err x) h (p, q, m) a = subst (λ (w : Tables). AreKeptLive u w) (sym q) (subst (λ (w : KnownResources). AreKeptLive w t) (sym p) a)

-- ---- why a table is refused
pub refused_for_memory : (r : KnownResources) (t : Tables) (id : Id SourceResources) → MayRefuseTable r t id build.OutOfMemory
refused_for_memory r t id = inl refl

pub refused_anew : (r : KnownResources) (t : Tables) (id : Id SourceResources) (e : BuildError) → new_table r id ≡ Err e → MayRefuseTable r t id e
refused_anew r t id e h = inr (inr h)

pub refused_by_table : (r : KnownResources) (t : Tables) (id : Id SourceResources) (x : TypeResourceTable) (res : Result (Id TypeResourceTables) PushError) (e : PushError) → new_table r id ≡ Ok x → res ≡ Err e → (res ≡ Err push.TooLarge ↔ (length t.resource_tables ≡ 4294967295)) → MayRefuseTable r t id (build_error e)
refused_by_table r t id x res push.OutOfMemory h q l = inl refl
refused_by_table r t id x res push.TooLarge h q l = inr (inl (refl, (x, h), l.0 q))
