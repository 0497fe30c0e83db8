use Rattle.std.proofs.Common.{◌≡◌, ◌++◌, drop, encode_utf8_all, string_bytes}
use Rattle.fact_value_json.proofs.scalars.print_string.Given as goal

abbrev pub invariant-loop-c : goal.invariant-loop-c
invariant-loop-c l = encode_utf8_all l.chars ≡ string_bytes l.text ++ encode_utf8_all (drop l.c-index l.chars)
