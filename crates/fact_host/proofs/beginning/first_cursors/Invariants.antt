use Rattle.std.proofs.Common.{◌≡◌, ◌<◌, ℕ, get_or, length}
use Rattle.fact_host.specs.Begun.{first_cursor}
use Rattle.fact_host.proofs.beginning.first_cursors.Given as goal

abbrev pub invariant-loop-number : goal.invariant-loop-number
invariant-loop-number l = record { count : length l.cursors ≡ l.number; each : (n : ℕ) → n < l.number → get_or l.cursors n 0 ≡ first_cursor l.memory l.cursor n }
