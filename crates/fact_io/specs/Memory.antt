-- A source and a sink in memory.
use Rattle.std.specs.Prelude.{ℕ, List}

-- what a source in memory goes by
pub record SourceState : Type 0 where
  -- the bytes that are left
  pub left : List ℕ
  -- the most bytes that a call takes
  pub piece : ℕ
  -- the numbers of the calls that are to fail, counted from 1
  pub failing : List ℕ
  -- how many calls were made
  pub calls : ℕ
  -- how many calls failed
  pub faults : ℕ

-- what a sink in memory goes by
pub record SinkState : Type 0 where
  -- the bytes that were written
  pub written : List ℕ
  -- how many more bytes there is room for
  pub room : ℕ
  -- the most bytes that a call takes
  pub piece : ℕ
  -- the numbers of the calls that are to fail, counted from 1
  pub failing : List ℕ
  -- how many calls were made
  pub calls : ℕ
  -- how many calls failed
  pub faults : ℕ
