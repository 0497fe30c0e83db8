-- What came of a conversion, in other words for what was converted and for what was answered.
use Rattle.std.proofs.Common.{◌≡◌, List, ◌++◌, sym, subst}
use Rattle.std.specs.Prelude.{Result, Ok, Err}
use Rattle.fact_source.specs.SourceTables.{SourceTables}
use Rattle.fact_builder.specs.Builder.{Builder}
use Rattle.fact_builder.specs.declared.error.BuildError.{BuildError}
use Rattle.fact_convert.specs.Progress.{Comes}
use Rattle.fact_convert.specs.Tasks.{Task}
use Rattle.fact_convert.proofs.Coming.{comes_not}

-- ---- the same of what was found: an import or export by its type, a type, a core type and an answer

pub comes_named : {I X : Type 0} (s : SourceTables) (a b : Builder) (tasks : I → List Task) (F : I → Builder → X → Type 0) (i j : I) (r : Result X BuildError) → j ≡ i → Comes s a (tasks i) (F i) b r → Comes s a (tasks j) (F j) b r
comes_named s a b tasks F i j r e p = subst (λ k. Comes s a (tasks k) (F k) b r) (sym e) p

pub comes_to : {X : Type 0} (s : SourceTables) (a b : Builder) (ms : List Task) (F : Builder → X → Type 0) (x y : X) → y ≡ x → Comes s a ms F b (Ok x) → Comes s a ms F b (Ok y)
comes_to s a b ms F x y e p = subst (λ z. Comes s a ms F b (Ok z)) (sym e) p

pub comes_told : {X : Type 0} (s : SourceTables) (a b : Builder) (ms : List Task) (F : Builder → X → Type 0) (q r : Result X BuildError) → r ≡ q → Comes s a ms F b q → Comes s a ms F b r
comes_told s a b ms F q r e p = subst (λ y. Comes s a ms F b y) (sym e) p

-- a builder that was refused is as it was
pub comes_still : {X : Type 0} (s : SourceTables) (a z b : Builder) (ms : List Task) (F : Builder → X → Type 0) (r : Result X BuildError) → b ≡ z → Comes s a ms F z r → Comes s a ms F b r
comes_still s a z b ms F r e p = subst (λ (y : Builder). Comes s a ms F y r) (sym e) p

-- ---- the first of three parts failed
pub first_failed : {X Y : Type 0} (s : SourceTables) (a b : Builder) (ms ns ps : List Task) (F : Builder → X → Type 0) (H : Builder → Y → Type 0) (e : BuildError) → Comes s a ms F b (Err e) → Comes s a (ms ++ ns ++ ps) H b (Err e)
first_failed s a b ms ns ps F H e p = comes_not s a b (ms ++ ns) ps F H e (comes_not s a b ms ns F F e p)
