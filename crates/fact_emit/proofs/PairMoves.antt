-- Functions that read and write a pointer and a length.
use Rattle.std.proofs.Common.{◌≡◌, ℕ, Bool, ◌++◌, subst}
use Rattle.fact_code_laws.specs.Lists.{put_code}
use Rattle.fact_code_laws.specs.Places.{From, To}
use Rattle.fact_emit.specs.declared.writer.Writer.{Writer}
use Rattle.fact_emit.specs.Checks.{ReadsPointer}
use Rattle.fact_emit.specs.Emits.{Emits}
use Rattle.fact_emit.specs.Pairs.{ReadsPair, length_from, length_to, put_pair_code}
use Rattle.fact_emit.specs.Writers.{Wrote}
use Rattle.fact_emit.proofs.Emitting.{emits_then, wrote_then}

pub pair_read : {a b c : Writer} {debug memory64 : Bool} {start units : ℕ} {from second : From} → second ≡ length_from memory64 from → Emits a b (ReadsPointer debug memory64 from start) → Emits b c (ReadsPointer debug memory64 second units)
    → Emits a c (ReadsPair debug memory64 start units from)
pair_read {b = b} {c} {debug} {memory64} {units = units} e x y =
    emits_then (λ M p locals c k r s. record { is = (λ i. r.is i ++ s.is i); has_pointer = r.has; has_length = s.has }) x (subst (λ f. Emits b c (ReadsPointer debug memory64 f units)) e y)

pub pair_written : {a b c : Writer} {second : To} (memory64 : Bool) (start units : ℕ) (dst : To) → second ≡ length_to memory64 dst → Wrote a b (put_code memory64 start dst) → Wrote b c (put_code memory64 units second)
    → Wrote a c (put_pair_code memory64 start units dst)
pair_written {b = b} {c} memory64 start units dst e x y = wrote_then x (subst (λ d. Wrote b c (put_code memory64 units d)) e y)
