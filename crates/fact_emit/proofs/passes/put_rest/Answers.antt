use Rattle.std.proofs.Common.{◌≡◌, ℕ, Bool, subst}
use Rattle.fact_code_laws.specs.StringCode.{times_code}
use Rattle.fact_emit.specs.declared.writer.Writer.{Writer}
use Rattle.fact_emit.specs.Writers.{Wrote}
use Rattle.fact_emit.proofs.Emitting.{wrote_then}
use Rattle.fact_emit.proofs.passes.put_rest.Goals as goal

times_put : {a b : Writer} {n n' : ℕ} (memory64 : Bool) (local : ℕ) → n ≡ n' → Wrote a b (times_code memory64 n local) → Wrote a b (times_code memory64 n' local)
times_put {a} {b} memory64 local is x = subst (λ n. Wrote a b (times_code memory64 n local)) is x

pub returns : goal.returns
returns c = λ p d e.
    wrote_then c.in_ok-put.ensures (wrote_then (times_put c.args.sides.from.memory64 c.args.l.read c.source_unit_bytes.ensures c.in_ok-put_times.ensures)
    (wrote_then c.in_ok-put-2.ensures (wrote_then c.in_ok-to_address.ensures (wrote_then c.in_ok-put-3.ensures (wrote_then c.in_ok-put-4.ensures (wrote_then c.in_ok-put-5.ensures c.in_ok-to_address-2.ensures))))))
