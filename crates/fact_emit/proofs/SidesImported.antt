-- What code of moves between two sides calls and names is imported still when more is.
use Rattle.std.proofs.Common.{◌≡◌, ◌≤◌, ℕ, Bool, List, length, sym, ap, ◌∙◌, subst, arith, length-append}
use Rattle.fact_machine.specs.Trace.{Grows}
use Rattle.fact_emit.specs.declared.places.LinearMemory.{LinearMemory}
use Rattle.fact_emit.specs.declared.places.Sides.{Sides}
use Rattle.fact_emit.specs.declared.writer.Writer.{Writer}
use Rattle.fact_emit.specs.Emits.{Grew}
use Rattle.fact_emit.specs.ImportSection.{HasMemoryWidth}
use Rattle.fact_emit.specs.Imports.{Extended}
use Rattle.fact_emit.specs.Requests.{IsReallocImported}
use Rattle.fact_emit.specs.States.{ModuleSoFar}
use Rattle.fact_emit.specs.StringPieces.{AreSidesImported, IsMemoryImported, IsMemoryWide}
use Rattle.fact_emit.proofs.TranscodersNamed.{width-more}

grown_length : {A : Type 0} {a b : List A} → Grows a b → length a ≤ length b
grown_length {a = a} g = omega (arith, ap length g.is ∙ length-append a g.more)

pub realloc_later : {m : LinearMemory} {s s' : ModuleSoFar} → Extended s s' → IsReallocImported m s → IsReallocImported m s'
realloc_later x h = record { below = λ place e. omega (arith, h.below place e, grown_length x.functions) }

pub memory_later : {m : LinearMemory} {s s' : ModuleSoFar} → Extended s s' → IsMemoryImported m s → IsMemoryImported m s'
memory_later x h = record { below = λ there. omega (arith, h.below there, grown_length x.memories) }

pub width_later : {s s' : ModuleSoFar} {place : ℕ} {memory64 : Bool} → Extended s s' → HasMemoryWidth s.section place memory64 → HasMemoryWidth s'.section place memory64
width_later {place = place} {memory64} x h = subst (λ ws. HasMemoryWidth ws place memory64) (sym x.section.is) (width-more x.section.more h)

pub wide_later : {m : LinearMemory} {s s' : ModuleSoFar} → Extended s s' → IsMemoryWide m s → IsMemoryWide m s'
wide_later x h = record { wide = λ there. width_later x (h.wide there) }

pub sides_later : {sides : Sides} {s s' : ModuleSoFar} → Extended s s' → AreSidesImported sides s → AreSidesImported sides s'
sides_later x h = record {
  realloc = realloc_later x h.realloc;
  from_memory = memory_later x h.from_memory;
  to_memory = memory_later x h.to_memory;
  from_wide = wide_later x h.from_wide;
  to_wide = wide_later x h.to_wide;
}

-- behind code that was put there
pub sides_on : {sides : Sides} {a b : Writer} → AreSidesImported sides a.sections → Grew a b → AreSidesImported sides b.sections
sides_on h x = sides_later x.imports h

pub sides_same : {sides : Sides} {s s' : ModuleSoFar} → s' ≡ s → AreSidesImported sides s → AreSidesImported sides s'
sides_same {sides} e h = subst (AreSidesImported sides) (sym e) h
