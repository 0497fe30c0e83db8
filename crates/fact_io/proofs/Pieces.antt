-- What a piece of a transfer does to the bytes that are known.
use Rattle.std.proofs.Common.{◌≡◌, ℕ, ◌+◌, ◌≤◌, List, ◌++◌, length, take, drop, Option, Result, Ok, Err, OnErr, sym, arith, take-append-drop, length-append, drop-drop}
use Rattle.std.proofs.Math.Seq.{take-add}
use Rattle.std.specs.Io.KnownBytes.{Appends, Consumes, Keeps}
use Rattle.std.proofs.KnownBytes.{Appends-trans, Appends-kept, Consumes-trans}
use Rattle.fact_io.specs.Transfers.{AppendsFront, TakesUpTo}

-- what always holds, after an error
pub on_err : {T E P : Type 0} (r : Result T E) → P → OnErr r P
on_err (Ok x) p = tt
on_err (Err e) p = p

-- a write that failed after the first bytes of a text
pub AppendsFront-kept : (old mid new : Option (List ℕ)) (text : List ℕ) (at : ℕ) → Appends old mid (take at text) → Keeps mid new → AppendsFront old new text
AppendsFront-kept old mid new text at before kept = record {
  front = take at text;
  rest = drop at text;
  split = sym (take-append-drop at text);
  appended = Appends-kept old mid new _ before kept;
}

-- a write that took n more bytes of a text
pub Appends-more : (old mid new : Option (List ℕ)) (text : List ℕ) (at n : ℕ) → Appends old mid (take at text) → Appends mid new (take n (drop at text)) → Appends old new (take (at + n) text)
Appends-more old mid new text at n before more = rw (take-add at n text) (Appends-trans old mid new _ _ before more)

-- bytes that were taken, and then at most so many more
pub TakesUpTo-more : (old mid new : Option (List ℕ)) (bytes : List ℕ) (most all : ℕ) → Consumes old mid bytes → TakesUpTo mid new most → length bytes + most ≤ all → TakesUpTo old new all
TakesUpTo-more old mid new bytes most all before more fits = record {
  bytes = bytes ++ more.bytes;
  taken = Consumes-trans old mid new bytes more.bytes before more.taken;
  within = omega (arith, length-append bytes more.bytes, more.within);
}

-- n bytes that are left, at the front of a buffer
pub Consumes-front : (bytes buf : List ℕ) (at n : ℕ) → take n buf ≡ take n (drop at bytes) → drop at bytes ≡ take n buf ++ drop (at + n) bytes
Consumes-front bytes buf at n e = rw (e, ← drop-drop n at bytes) (sym (take-append-drop n (drop at bytes)))
