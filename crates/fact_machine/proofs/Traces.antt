-- The outside calls of a trace.
use Rattle.std.proofs.Common.{◌≡◌, List, [], ◌∷◌, ◌++◌, refl, sym, ap, ◌∙◌, append-nil}
use Rattle.fact_machine.specs.declared.types.Event.{Event}
use Rattle.fact_machine.specs.declared.types.TraceEntry.{TraceEntry}
use Rattle.fact_machine.specs.declared.types.TraceEntry.TheVariants.{Called, Stored, GlobalSet}
use Rattle.fact_machine.specs.World.{calls}

pub calls-append : (es fs : List TraceEntry) → calls (es ++ fs) ≡ calls es ++ calls fs
calls-append [] fs = refl
calls-append (Called e ∷ es) fs = ap (λ l. e ∷ l) (calls-append es fs)
calls-append (Stored m a s v ∷ es) fs = calls-append es fs
calls-append (GlobalSet i v ∷ es) fs = calls-append es fs

pub calls_called : (es : List TraceEntry) (e : TraceEntry) (x : Event) (log more : List Event) → e ≡ Called x → log ≡ calls es → more ≡ log ++ x ∷ [] → more ≡ calls (es ++ e ∷ [])
calls_called es e x log more he hl hm = hm ∙ ap (λ l. l ++ x ∷ []) hl ∙ sym (ap (λ d. calls (es ++ d ∷ [])) he ∙ calls-append es (Called x ∷ []))

calls_one : (e : TraceEntry) → ((x : Event) → e ≡ Called x → ⊥) → calls (e ∷ []) ≡ []
calls_one (Called x) h = absurd (h x refl)
calls_one (Stored m a s v) h = refl
calls_one (GlobalSet i v) h = refl

pub calls_other : (es : List TraceEntry) (e : TraceEntry) (log : List Event) → ((x : Event) → e ≡ Called x → ⊥) → log ≡ calls es → log ≡ calls (es ++ e ∷ [])
calls_other es e log he hl = hl ∙ sym (calls-append es (e ∷ []) ∙ ap (λ l. calls es ++ l) (calls_one e he) ∙ append-nil (calls es))
