use Rattle.fact_compound.proofs.helpers.compile_helpers.Goals as goal

pub returns-in_ok-define_all-in-Ok : goal.returns-in_ok-define_all-in-Ok
returns-in_ok-define_all-in-Ok c = record {
  last = c.write_waiting-all_written.new.sections;
  written = c.write_waiting-all_written.new.written;
  wrote = rw c.in-Ok.is at c.write_waiting-all_written.ensures;
  is = c.in_ok-define_all-in-Ok.ensures;
}
