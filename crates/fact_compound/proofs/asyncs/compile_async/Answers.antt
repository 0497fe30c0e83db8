use Rattle.std.proofs.Common.{◌∷◌, [], ap, arith, length, length-append}
use Rattle.fact_compound.proofs.AsyncFunctions.{compiled_async}
use Rattle.fact_compound.proofs.OptionsImported.{options_later}
use Rattle.fact_compound.proofs.asyncs.compile_async.Goals as goal

pub compile_part-requires-2-clause-options_imported : goal.compile_part-requires-2-clause-options_imported
compile_part-requires-2-clause-options_imported c = options_later c.in_ok-start.ensures.compiled.compiled.puts.imports c.requires.options_imported

pub compile_part-requires-2-clause-ahead : goal.compile_part-requires-2-clause-ahead
compile_part-requires-2-clause-ahead c =
    let put = c.in_ok-start.ensures.compiled.compiled.puts in
    omega (arith, c.requires.ahead, ap length put.functions, length-append c.args.sections.now.functions (c.in_ok-start.ensures.compiled.compiled.function ∷ []), put.imports.numbered)

pub returns : goal.returns
returns c = compiled_async c.requires.ahead c.in_ok-start.ensures.number c.in_ok-start.ensures.compiled c.in_ok-return_.ensures.number c.in_ok-return_.ensures.compiled c.in_ok-compile_entry.ensures c.in_ok-export_callee.ensures
