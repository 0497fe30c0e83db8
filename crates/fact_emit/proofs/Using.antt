-- Locals in use, and a local around a piece of code.
use Rattle.std.proofs.Common.{◌≡◌, ◌≢◌, ℕ, Bool, true, false, List, [], ◌∷◌, refl, sym, ap, ◌∙◌}
use Rattle.std.specs.Prelude.{nat_eq, if◌then◌else◌}
use Rattle.std.proofs.lemmas.Bool.{eqb-true, eq-eqb}
use Rattle.fact_wasm.specs.declared.types.ValType.{ValType}
use Rattle.fact_code_laws.specs.Places.{From, To, ToLocals, ToMemory, Slot, AreUsed, Setting}
use Rattle.fact_emit.specs.declared.places.Sides.{Sides}
use Rattle.fact_emit.specs.declared.writer.Writer.{Writer}
use Rattle.fact_emit.specs.Asked.{AskedHelper}
use Rattle.fact_emit.specs.Emits.{EmitsAsking}
use Rattle.fact_emit.specs.MovesValue.{Act, MovesValue, except, HasLocal}
use Rattle.fact_emit.specs.Places.{TargetTaken, Using}
use Rattle.fact_emit.specs.Writers.{taken_in, Took, Freed}
use Rattle.fact_emit.proofs.Emitting.{emits_around}

pub used_more : {u v : ℕ → Bool} → ((i : ℕ) → u i ≡ true → v i ≡ true) → (slots : List Slot) → AreUsed u slots → AreUsed v slots
used_more h [] x = tt
used_more h (s ∷ ss) x = (h s.0 x.0, used_more h ss x.1)

-- more locals are in use in the writer
pub using_more : {u v used : ℕ → Bool} {src : From} {dst : To} → ((i : ℕ) → u i ≡ true → v i ≡ true) → Using u used src dst → Using v used src dst
using_more {u} {v} {dst = dst} h x = record { within = λ i e. h i (x.within i e); from = x.from; to = x.to; target = target dst x.target; distinct = x.distinct }
  where
    target : (dst : To) → TargetTaken u dst → TargetTaken v dst
    target (ToLocals slots) t = used_more h slots t
    target (ToMemory memory base offset) t = tt

except_self : (i : ℕ) (u : ℕ → Bool) → except i u i ≡ false
except_self i u = ap (λ b. if b then false else u i) (eq-eqb i i refl)

except_other : (i j : ℕ) (u : ℕ → Bool) → j ≢ i → except i u j ≡ u j
except_other i j u ne = go (nat_eq j i) refl
  where
    go : (b : Bool) → nat_eq j i ≡ b → (if nat_eq j i then false else u j) ≡ u j
    go true e = absurd (ne (eqb-true j i e))
    go false e = ap (λ b. if b then false else u j) e

-- the local that is left out is not kept
pub free_except : {i : ℕ} (u : ℕ → Bool) {used : ℕ → Bool} {src : From} {dst : To} → Using (except i u) used src dst → used i ≡ false
free_except {i} u {used} x = go (used i) refl
  where
    go : (b : Bool) → used i ≡ b → used i ≡ false
    go true e = absurd (let no : false ≡ true = sym (except_self i u) ∙ x.within i e in cc)
    go false e = e

-- A local was taken, code was written that may change it, and it was freed.
pub moves_around : {asks : List AskedHelper} {a b c d : Writer} {t : ValType} {i : ℕ} {sides : Sides} {src : From} {dst : To} {spare : ℕ} {Fit : Setting → Type 0} {act : Act}
    → Took a b t i → EmitsAsking asks b c (MovesValue sides src dst (except i (taken_in b)) spare (λ S. Fit S × HasLocal i t S) act) → Freed c d i → EmitsAsking asks a d (MovesValue sides src dst (taken_in a) spare Fit act)
moves_around {a} {b} {i = i} took x freed =
    emits_around (λ M p locals code h m. record { moves = λ o o' rooms used using fit. m.moves o o' rooms used (using_more more using) (fit, h) }) took x freed
  where
    more : (j : ℕ) → taken_in a j ≡ true → except i (taken_in b) j ≡ true
    more j e =
        let ne : j ≢ i = λ is. absurd (let no : false ≡ true = sym took.was_free ∙ ap (taken_in a) (sym is) ∙ e in cc) in
        except_other i j (taken_in b) ne ∙ took.others j ne ∙ e
