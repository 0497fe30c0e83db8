-- A builder grows into itself, and by one growth after another.
use Rattle.std.proofs.Common.{◌≡◌, ◌≤◌, ◌<◌, ℕ, List, Option, Some, None, refl, sym, ◌∙◌, subst, arith}
use Rattle.std.specs.Prelude.{slice_get, Ok}
use Rattle.fact_entity.specs.declared.id.Id.{Id}
use Rattle.fact_entity.specs.declared.table.AbstractResources.{AbstractResources}
use Rattle.fact_entity.specs.declared.table.RuntimeComponentInstances.{RuntimeComponentInstances}
use Rattle.fact_entity.specs.declared.table.TypeResourceTables.{TypeResourceTables}
use Rattle.fact_types.specs.declared.kinds.TypeResourceTable.{TypeResourceTable}
use Rattle.fact_types.specs.Tables.{Tables}
use Rattle.fact_builder.specs.Keeps.{Keeps}
use Rattle.fact_builder.specs.declared.registration.Registration.{Registration}
use Rattle.fact_builder.specs.declared.registration.Registration.TheVariants as is
use Rattle.fact_builder.specs.Known.{kept_table, registration, new_table_of}
use Rattle.fact_convert.specs.Conversion.{OnlyAdds, BuilderGrows}
use Rattle.fact_convert.specs.BuilderTables.{tables_of}
use Rattle.fact_builder.specs.Builder.{Builder}

le_refl : (n : ℕ) → n ≤ n
le_refl n = omega arith

le_trans : (a b c : ℕ) → a ≤ b → b ≤ c → a ≤ c
le_trans a b c h k = omega (arith, h, k)

-- ---- tables

types_same : (t : Tables) → Keeps t t
types_same t = record { live = λ ty l. l; shapes = λ ty s h. h; signatures = λ i ps rs h. h }

types_on : (t u v : Tables) → Keeps t u → Keeps u v → Keeps t v
types_on t u v h k = record { live = λ ty l. k.live ty (h.live ty l); shapes = λ ty s p. k.shapes ty s (h.shapes ty s p); signatures = λ i ps rs p. k.signatures i ps rs (h.signatures i ps rs p) }

tables_same : (t : Tables) → OnlyAdds t t
tables_same t = record {
  modules = λ i x h. h;
  components = λ i x h. h;
  component_instances = λ i x h. h;
  functions = λ i x h. h;
  futures = λ i x h. h;
  future_tables = λ i x h. h;
  streams = λ i x h. h;
  stream_tables = λ i x h. h;
  error_context_tables = λ i x h. h;
  resource_tables = λ i x h. h;
  module_types = refl;
}

tables_on : (t u v : Tables) → OnlyAdds t u → OnlyAdds u v → OnlyAdds t v
tables_on t u v a b = record {
  modules = λ i x h. b.modules i x (a.modules i x h);
  components = λ i x h. b.components i x (a.components i x h);
  component_instances = λ i x h. b.component_instances i x (a.component_instances i x h);
  functions = λ i x h. b.functions i x (a.functions i x h);
  futures = λ i x h. b.futures i x (a.futures i x h);
  future_tables = λ i x h. b.future_tables i x (a.future_tables i x h);
  streams = λ i x h. b.streams i x (a.streams i x h);
  stream_tables = λ i x h. b.stream_tables i x (a.stream_tables i x h);
  error_context_tables = λ i x h. b.error_context_tables i x (a.error_context_tables i x h);
  resource_tables = λ i x h. b.resource_tables i x (a.resource_tables i x h);
  module_types = b.module_types ∙ a.module_types;
}

-- ---- registrations: one that was made in between, or later

abbrev IsNumbered : ℕ → ℕ → Registration → Type 0
IsNumbered m n k = (i : Id AbstractResources) × (k ≡ is.Abstract i) × (m < i.number) × (i.number ≤ n)

none_some : {X : Type 0} (x : X) (o : Option X) → o ≡ None → o ≡ Some x → ⊥
none_some x o h k = let both : None ≡ Some x = sym h ∙ k in cc

same_some : {X : Type 0} (x y : X) (o : Option X) → o ≡ Some x → o ≡ Some y → x ≡ y
same_some x y o h k = let both : Some x ≡ Some y = sym h ∙ k in cc

wider : (m n p q : ℕ) (k : Registration) → m ≤ n → p ≤ q → IsNumbered n p k → IsNumbered m q k
wider m n p q k h l (i, e, a, b) = (i, e, omega (arith, h, a), omega (arith, l, b))

numbered_at : (m n p : ℕ) (between : Option Registration) (k : Registration) → m ≤ n → n ≤ p
    → ((j : Registration) → between ≡ Some j → IsNumbered m n j) → (between ≡ None → IsNumbered n p k) → ((j : Registration) → between ≡ Some j → k ≡ j) → IsNumbered m p k
numbered_at m n p None k h l a b c = wider m n p p k h (le_refl p) (b refl)
numbered_at m n p (Some j) k h l a b c = subst (IsNumbered m p) (sym (c j refl)) (wider m m n p j (le_refl m) l (a j refl))

-- ---- tables of resources: taken in between, or later

abbrev IsTakenAs : Option Registration → Option (Id RuntimeComponentInstances) → List TypeResourceTable → ℕ → Type 0
IsTakenAs k n ts t = (e : TypeResourceTable) × (new_table_of k n ≡ Ok e) × (slice_get ts t ≡ Some e)

-- what a table was asked for by a registration stays so where the registration stays
asked_still : (j k : Option Registration) (n : Option (Id RuntimeComponentInstances)) (e : TypeResourceTable) → ((x : Registration) → j ≡ Some x → k ≡ Some x) → new_table_of j n ≡ Ok e → new_table_of k n ≡ Ok e
asked_still None k n e s h = cc
asked_still (Some x) k n e s h = subst (λ o. new_table_of o n ≡ Ok e) (sym (s x refl)) h

pub grows_none : (a : Builder) → BuilderGrows a a
grows_none a = record {
  source = refl;
  types = types_same _;
  tables = tables_same _;
  core = λ i x h. h;
  registered = λ r k h. h;
  numbered = λ r k h q. absurd (none_some k _ h q);
  kept = λ r t h. h;
  taken = λ r t h q. absurd (none_some t _ h q);
  instance = refl;
  counted = le_refl _;
}

taken_at : (j k : Option Registration) (m n : Option (Id RuntimeComponentInstances)) (ts us : List TypeResourceTable) (between : Option (Id TypeResourceTables)) (t : Id TypeResourceTables)
    → m ≡ n → ((x : Registration) → j ≡ Some x → k ≡ Some x) → ((i : ℕ) (e : TypeResourceTable) → slice_get ts i ≡ Some e → slice_get us i ≡ Some e)
    → (between ≡ None → IsTakenAs k m us t.number) → ((u : Id TypeResourceTables) → between ≡ Some u → IsTakenAs j n ts u.number) → ((u : Id TypeResourceTables) → between ≡ Some u → t ≡ u) → IsTakenAs k n us t.number
taken_at j k m n ts us None t e s h later before same = subst (λ o. IsTakenAs k o us t.number) e (later refl)
taken_at j k m n ts us (Some u) t e s h later before same =
    let (x, asked, at) = before u refl in
    (x, asked_still j k n x s asked, h t.number x (subst (λ (w : Id TypeResourceTables). slice_get ts w.number ≡ Some x) (sym (same u refl)) at))

pub grows_on : (a b c : Builder) → BuilderGrows a b → BuilderGrows b c → BuilderGrows a c
grows_on a b c g h = record {
  source = h.source ∙ g.source;
  types = types_on _ _ _ g.types h.types;
  tables = tables_on _ _ _ g.tables h.tables;
  core = λ i x p. h.core i x (g.core i x p);
  registered = λ r k p. h.registered r k (g.registered r k p);
  numbered = λ r k n p. numbered_at a.abstracts b.abstracts c.abstracts (registration b.resources r) k g.counted h.counted (λ j q. g.numbered r j n q) (λ q. h.numbered r k q p) (λ j q. same_some k j (registration c.resources r) p (h.registered r j q));
  kept = λ r t p. h.kept r t (g.kept r t p);
  taken = λ r t n p. taken_at (registration b.resources r) (registration c.resources r) b.resources.instance a.resources.instance (tables_of b).resource_tables (tables_of c).resource_tables (kept_table b.resources r) t g.instance (λ x q. h.registered r x q) (λ i e q. h.tables.resource_tables i e q) (λ q. h.taken r t q p) (λ u q. g.taken r u n q) (λ u q. same_some t u (kept_table c.resources r) p (h.kept r u q));
  instance = h.instance ∙ g.instance;
  counted = le_trans _ _ _ g.counted h.counted;
}
