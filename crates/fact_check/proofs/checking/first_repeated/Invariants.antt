use Rattle.std.proofs.Common.{◌≡◌, ◌<◌, ℕ, List, take}
use Rattle.std.specs.List.{list_any}
use Rattle.std.specs.Str.{bytes_eq}
use Rattle.std.specs.Ordering.{nat_cmp}
use Rattle.std.specs.Cmp.Lexicographic.{slice_cmp}
use Rattle.std.specs.BTreeSet.{contains_by}
use Rattle.fact_check.specs.Accepted.{IsRepeatedExport}
use Rattle.fact_check.proofs.checking.first_repeated.Given as goal

abbrev pub invariant-loop-export : goal.invariant-loop-export
invariant-loop-export l = record {
  place : l.place ≡ l.export-index;
  names : (q : List ℕ) → contains_by (λ k. slice_cmp nat_cmp q k.now) l.names ≡ list_any (λ e. bytes_eq q e.name) (take l.export-index l.exports);
  before : (k : ℕ) → k < l.export-index → IsRepeatedExport l.exports k → ⊥;
}
