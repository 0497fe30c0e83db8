use Rattle.std.proofs.Common.{◌≡◌, ◌-◌, ◌≤◌, ◌<◌, ◌^◌, ap, ◌∙◌, subst, arith, length}
use Rattle.fact_interpreter.specs.Running.{load_length}
use Rattle.fact_machine.proofs.Bytes.{length-part}
use Rattle.fact_interpreter.proofs.memory.load_at.Goals as goal

pub value-requires : goal.value-requires
value-requires c =
    let there : c.in-Some-place.end ≤ length c.as_slice.result.now = omega (arith, c.in-Some-place.ensures, ap length c.as_slice.ensures, c.len.ensures) in
    let whole : c.in-Some-place.end - c.in-Some-place.start ≡ load_length c.args.kind = omega (arith, c.in-Some-place.ensures, c.loaded_bytes.ensures) in
    subst (λ n. c.number_of_bytes-read.result < 256 ^ n) (length-part c.as_slice.result.now c.in-Some-place.start c.in-Some-place.end there ∙ whole) c.number_of_bytes-read.ensures.below
