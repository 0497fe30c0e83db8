-- A reader as a source, and a writer as a sink.
use Rattle.std.specs.Prelude.{ℕ, List, Option}

-- the bytes that the reader has left, where it tells them, and how many reads failed
pub record ReaderState : Type 0 where
  pub left : Option (List ℕ)
  pub faults : ℕ

-- the bytes that the writer holds, where it tells them, and how many writes failed
pub record WriterState : Type 0 where
  pub written : Option (List ℕ)
  pub faults : ℕ
