use Rattle.std.proofs.Common.{◌≡◌, ◌++◌, map}
use Rattle.fact_binary.specs.Owned.{type_index, body_of}
use Rattle.fact_binary.proofs.decoder.funcs_of.Given as goal

abbrev pub invariant-loop-code : goal.invariant-loop-code
invariant-loop-code l = record {
  types : map type_index l.funcs ++ l.left ≡ l.types;
  bodies : map body_of l.funcs ++ l.code-iterator.rest.items ≡ l.fn.bodies;
}
