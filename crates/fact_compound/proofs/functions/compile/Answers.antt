use Rattle.std.proofs.Common.{ap, arith, length, length-append}
use Rattle.fact_compound.proofs.CompiledAdapters.{compiled_adapter, own_writable}
use Rattle.fact_compound.proofs.functions.compile.Goals as goal

pub compile_helpers-requires : goal.compile_helpers-requires
compile_helpers-requires c = record {
  writable = own_writable c.requires.helpers c.in_ok-compile_own.ensures.own;
  first =
      let own = c.in_ok-compile_own.ensures.own in
      omega (arith, c.helper_count-helpers.ensures, ap length own.imports.helpers.is, length-append c.args.state.now.sections.helpers own.imports.helpers.more);
}

pub returns-clause-compiled : goal.returns-clause-compiled
returns-clause-compiled c =
    let helpers = rw c.helper_count-helpers.ensures at c.in_ok-compile_helpers.ensures in
    compiled_adapter c.requires.helpers c.in_ok-compile_own.ensures.own helpers
