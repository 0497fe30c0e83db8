use Rattle.std.proofs.Common.{refl}
use Rattle.fact_emit.proofs.ImportLaws.{extended_on}
use Rattle.fact_compound.proofs.entries.import_calls.Goals as goal

pub returns : goal.returns
returns c =
    let starts = rw (c.as_str-name.ensures, c.as_slice.ensures) at c.in_ok-start_call.ensures.imported in
    let prepares = rw (c.as_str-name.ensures, c.as_slice-2.ensures) at c.in_ok-prepare_call.ensures.imported in
    record {
      between = _;
      starts = starts;
      prepares = prepares;
      started = c.in_ok-start_call.ensures.keeps;
      prepared = c.in_ok-prepare_call.ensures.keeps;
      imports = extended_on c.in_ok-start_call.ensures.keeps c.in_ok-prepare_call.ensures.keeps;
      once = λ o. c.in_ok-prepare_call.ensures.once (c.in_ok-start_call.ensures.once o);
      start_is = refl;
      return_is = refl;
      callee_is = refl;
    }
