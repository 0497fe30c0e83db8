-- Tasks performed one list after another, and a conversion that ends early in the one or in the other.
use Rattle.std.proofs.Common.{List, [], ◌∷◌, ◌++◌, refl, sym, ap, ◌∙◌, subst, append_assoc}
use Rattle.fact_source.specs.SourceTables.{SourceTables}
use Rattle.fact_builder.specs.declared.error.BuildError.{BuildError}
use Rattle.fact_builder.specs.declared.error.BuildError.TheVariants as build
use Rattle.fact_builder.specs.Builder.{Builder}
use Rattle.fact_convert.specs.Performing.{Performs, PerformsAll, EndsBefore, EndsEarly}
use Rattle.fact_convert.specs.Tasks.{Task}

pub performs_more : (s : SourceTables) (a b c : Builder) (ms ns : List Task) → PerformsAll s a ms b → PerformsAll s b ns c → PerformsAll s a (ms ++ ns) c
performs_more s a b c [] ns p q = subst (λ d. PerformsAll s d ns c) p q
performs_more s a b c (m ∷ ms) ns (d, h, p) q = (d, h, performs_more s d b c ms ns p q)

-- what ends a conversion before some tasks ends it before more of them
ends_before_more : (s : SourceTables) (c : Builder) (ms ns : List Task) (e : BuildError) → EndsBefore s c ms e → EndsBefore s c (ms ++ ns) e
ends_before_more s c ms ns build.OutOfMemory h = tt
ends_before_more s c [] ns build.TooLarge h = absurd h
ends_before_more s c [] ns build.UnsupportedTypeExport h = absurd h
ends_before_more s c [] ns build.ValuesNotSupported h = absurd h
ends_before_more s c [] ns build.CustomDescriptors h = absurd h
ends_before_more s c [] ns build.UnknownResource h = absurd h
ends_before_more s c [] ns build.NoInstance h = absurd h
ends_before_more s c (m ∷ ms) ns build.TooLarge h = h
ends_before_more s c (m ∷ ms) ns build.UnsupportedTypeExport h = h
ends_before_more s c (m ∷ ms) ns build.ValuesNotSupported h = h
ends_before_more s c (m ∷ ms) ns build.CustomDescriptors h = h
ends_before_more s c (m ∷ ms) ns build.UnknownResource h = h
ends_before_more s c (m ∷ ms) ns build.NoInstance h = h

pub ends_in_first : (s : SourceTables) (a b : Builder) (ms ns : List Task) (e : BuildError) → EndsEarly s a ms e b → EndsEarly s a (ms ++ ns) e b
ends_in_first s a b ms ns e h = record {
  before = h.before;
  left = h.left ++ ns;
  in_order = ap (λ xs. xs ++ ns) h.in_order ∙ append_assoc h.before h.left ns;
  performed = h.performed;
  ended = ends_before_more s b h.left ns e h.ended;
}

pub ends_in_second : (s : SourceTables) (a b c : Builder) (ms ns : List Task) (e : BuildError) → PerformsAll s a ms b → EndsEarly s b ns e c → EndsEarly s a (ms ++ ns) e c
ends_in_second s a b c ms ns e p h = record {
  before = ms ++ h.before;
  left = h.left;
  in_order = ap (λ xs. ms ++ xs) h.in_order ∙ sym (append_assoc ms h.before h.left);
  performed = performs_more s a b c ms h.before p h.performed;
  ended = h.ended;
}

-- one task
pub performs_one : (s : SourceTables) (a b : Builder) (m : Task) → Performs s a m b → PerformsAll s a (m ∷ []) b
performs_one s a b m h = (b, h, refl)

-- nothing was done: want of memory, or the first task fails
pub ends_at_once : (s : SourceTables) (a : Builder) (ms : List Task) (e : BuildError) → EndsBefore s a ms e → EndsEarly s a ms e a
ends_at_once s a ms e h = record { before = []; left = ms; in_order = refl; performed = refl; ended = h }
