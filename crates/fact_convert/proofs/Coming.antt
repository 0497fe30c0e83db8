-- How far a conversion has come: one part after another, and want of memory between them.
use Rattle.std.proofs.Common.{◌≡◌, List, [], ◌∷◌, ◌++◌, refl, sym, ◌∙◌, ap, subst, append-nil}
use Rattle.std.specs.Prelude.{Result, Ok, Err, IfOk}
use Rattle.fact_entity.specs.declared.error.PushError.{PushError}
use Rattle.fact_entity.specs.declared.error.PushError.TheVariants as push
use Rattle.fact_source.specs.SourceTables.{SourceTables}
use Rattle.fact_builder.specs.declared.error.BuildError.{BuildError}
use Rattle.fact_builder.specs.declared.error.BuildError.TheVariants.{OutOfMemory, TooLarge}
use Rattle.fact_builder.specs.Errors.{build_error}
use Rattle.fact_builder.specs.Known.{AreKeptLive}
use Rattle.fact_convert.specs.Conversion.{BuilderGrows, IsReadyFor}
use Rattle.fact_convert.specs.BuilderTables.{tables_of}
use Rattle.fact_builder.specs.Builder.{Builder}
use Rattle.fact_convert.specs.Performing.{Performs, Fails, EndsBefore}
use Rattle.fact_convert.specs.Progress.{Comes}
use Rattle.fact_convert.specs.Tasks.{Task}
use Rattle.fact_convert.proofs.Composing.{performs_more, performs_one, ends_in_first, ends_in_second, ends_at_once}
use Rattle.fact_convert.proofs.GrowthLaws.{grows_none, grows_on}

-- ---- nothing was done

pub comes_none : {X : Type 0} (s : SourceTables) (a : Builder) (F : Builder → X → Type 0) (x : X) → F a x → Comes s a [] F a (Ok x)
comes_none s a F x h = record { converts = (refl, h); grows = grows_none a; kept_live = λ k. k }

pub comes_at_once : {X : Type 0} (s : SourceTables) (a : Builder) (ms : List Task) (F : Builder → X → Type 0) (e : BuildError) → EndsBefore s a ms e → Comes s a ms F a (Err e)
comes_at_once s a ms F e h = record { converts = ends_at_once s a ms e h; grows = grows_none a; kept_live = λ k. k }

pub comes_to_nothing : {X : Type 0} (s : SourceTables) (a : Builder) (ms : List Task) (F : Builder → X → Type 0) → Comes s a ms F a (Err OutOfMemory)
comes_to_nothing s a ms F = comes_at_once s a ms F OutOfMemory tt

-- the builder took no entry
pub comes_refused : {X : Type 0} (s : SourceTables) (a : Builder) (m : Task) (ms : List Task) (F : Builder → X → Type 0) (e : PushError) → (e ≡ push.TooLarge → Fails s a m TooLarge) → Comes s a (m ∷ ms) F a (Err (build_error e))
comes_refused s a m ms F push.OutOfMemory h = comes_to_nothing s a (m ∷ ms) F
comes_refused s a m ms F push.TooLarge h = comes_at_once s a (m ∷ ms) F TooLarge (h refl)

-- ---- one task was performed

pub comes_by : {X : Type 0} (s : SourceTables) (a b : Builder) (m : Task) (F : Builder → X → Type 0) (x : X) → Performs s a m b → BuilderGrows a b → (AreKeptLive a.resources (tables_of a) → AreKeptLive b.resources (tables_of b)) → F b x → Comes s a (m ∷ []) F b (Ok x)
comes_by s a b m F x h g k f = record { converts = (performs_one s a b m h, f); grows = g; kept_live = k }

-- ---- one part after another

pub comes_then : {X Y : Type 0} (s : SourceTables) (a b c : Builder) (ms ns : List Task) (F : Builder → X → Type 0) (G : Builder → Y → Type 0) (x : X) (r : Result Y BuildError) → Comes s a ms F b (Ok x) → Comes s b ns G c r → Comes s a (ms ++ ns) G c r
comes_then s a b c ms ns F G x (Ok y) p q = record {
  converts = (performs_more s a b c ms ns p.converts.0 q.converts.0, q.converts.1);
  grows = grows_on a b c p.grows q.grows;
  kept_live = λ k. q.kept_live (p.kept_live k);
}
comes_then s a b c ms ns F G x (Err e) p q = record {
  converts = ends_in_second s a b c ms ns e p.converts.0 q.converts;
  grows = grows_on a b c p.grows q.grows;
  kept_live = λ k. q.kept_live (p.kept_live k);
}

pub comes_not : {X Y : Type 0} (s : SourceTables) (a b : Builder) (ms ns : List Task) (F : Builder → X → Type 0) (G : Builder → Y → Type 0) (e : BuildError) → Comes s a ms F b (Err e) → Comes s a (ms ++ ns) G b (Err e)
comes_not s a b ms ns F G e p = record { converts = ends_in_first s a b ms ns e p.converts; grows = p.grows; kept_live = p.kept_live }

-- for want of memory
pub comes_short : {X Y : Type 0} (s : SourceTables) (a b : Builder) (ms ns : List Task) (F : Builder → X → Type 0) (G : Builder → Y → Type 0) (x : X) → Comes s a ms F b (Ok x) → Comes s a (ms ++ ns) G b (Err OutOfMemory)
comes_short s a b ms ns F G x p = comes_then s a b b ms ns F G x (Err OutOfMemory) p (comes_to_nothing s b ns G)

-- all was performed, and there was no memory for the answer
pub comes_lost : {X Y : Type 0} (s : SourceTables) (a b : Builder) (ms : List Task) (F : Builder → X → Type 0) (G : Builder → Y → Type 0) (x : X) → Comes s a ms F b (Ok x) → Comes s a ms G b (Err OutOfMemory)
comes_lost s a b ms F G x p = subst (λ ns. Comes s a ns G b (Err OutOfMemory)) (append-nil ms) (comes_short s a b ms [] F G x p)

-- ---- the same tasks and answers in other words

pub comes_as : {X : Type 0} (s : SourceTables) (a b : Builder) (ms ns : List Task) (F : Builder → X → Type 0) (r : Result X BuildError) → ms ≡ ns → Comes s a ms F b r → Comes s a ns F b r
comes_as s a b ms ns F r e p = subst (λ xs. Comes s a xs F b r) e p

pub comes_with : {X Y : Type 0} (s : SourceTables) (a b : Builder) (ms : List Task) (F : Builder → X → Type 0) (G : Builder → Y → Type 0) (x : X) (y : Y) → (F b x → G b y) → Comes s a ms F b (Ok x) → Comes s a ms G b (Ok y)
comes_with s a b ms F G x y f p = record { converts = (p.converts.0, f p.converts.1); grows = p.grows; kept_live = p.kept_live }

pub comes_failed : {X Y : Type 0} (s : SourceTables) (a b : Builder) (ms : List Task) (F : Builder → X → Type 0) (G : Builder → Y → Type 0) (e : BuildError) → Comes s a ms F b (Err e) → Comes s a ms G b (Err e)
comes_failed s a b ms F G e p = record { converts = p.converts; grows = p.grows; kept_live = p.kept_live }

-- all answers at once, where what is said of one implies what is said of the other
pub comes_for : {X : Type 0} (s : SourceTables) (a b : Builder) (ms : List Task) (F G : Builder → X → Type 0) (r : Result X BuildError) → ((x : X) → F b x → G b x) → Comes s a ms F b r → Comes s a ms G b r
comes_for s a b ms F G (Ok x) f p = comes_with s a b ms F G x x (f x) p
comes_for s a b ms F G (Err e) f p = comes_failed s a b ms F G e p

-- ---- what `?` hands on
pub comes_out : {X : Type 0} (s : SourceTables) (a b : Builder) (ms : List Task) (F : Builder → X → Type 0) (r : Result X BuildError) (e : BuildError) → (y : BuildError) × (r ≡ Err y) × (y ≡ e) → Comes s a ms F b (Err e) → Comes s a ms F b r
comes_out s a b ms F r e (y, q, same) p = subst (λ z. Comes s a ms F b z) (sym (q ∙ ap Err same)) p

-- ---- what holds of what was answered
pub comes_live : {X : Type 0} (s : SourceTables) (a b : Builder) (ms : List Task) (F : Builder → X → Type 0) (r : Result X BuildError) (P : X → Type 0) → ((x : X) → F b x → P x) → Comes s a ms F b r → IfOk r P
comes_live s a b ms F (Ok x) P f p = f x p.converts.1
comes_live s a b ms F (Err e) P f p = tt

-- the builder is still one for types of the source
pub comes_ready : {X : Type 0} (s : SourceTables) (a b : Builder) (ms : List Task) (F : Builder → X → Type 0) (r : Result X BuildError) → Comes s a ms F b r → IsReadyFor s a → IsReadyFor s b
comes_ready s a b ms F r p h = record { source = h.source ∙ sym p.grows.source; kept = p.kept_live h.kept }
