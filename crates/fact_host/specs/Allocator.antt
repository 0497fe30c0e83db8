-- Cited by private clauses alone.
-- Memories that are stored to, and requests of realloc of one memory.
use Rattle.std.specs.Prelude.{◌≡◌, ◌≢◌, ℕ, true, false, List, [], ◌∷◌, ◌+◌, ◌≤◌, length}
use Rattle.fact_host.specs.declared.allocator.Region.{Region}
use Rattle.fact_host.specs.declared.allocator.Request.{Request}
use Rattle.fact_host.specs.declared.known.Known.{Known}
use Rattle.fact_host.specs.Rules.{AskedRegion, is_old_live, stays, next_region, given_at, bytes_after_region, after_region, cursor_of}

-- a host with one memory
abbrev pub alone : ℕ → List Region → Known
alone cursor live = record { cursors = cursor ∷ []; live = live; returned = false; transfers = 0 }

abbrev pub asked_by : Request → AskedRegion
asked_by r = record { old = r.old; align = r.align; size = r.size }

-- The request is met at a place: nothing refuses it, and the cursor and the bytes are as the rules say.
pub record GivesRegion (cursor : ℕ) (live : List Region) (bytes : List ℕ) (q : AskedRegion) (at cursor_after : ℕ) (bytes_after : List ℕ) : Type 0 where
  pub aligns : q.align ≢ 0
  pub old_live : is_old_live (alone cursor live) q ≡ true
  pub room : stays q ≡ false → next_region (alone cursor live) 0 q + q.size ≤ length bytes
  pub at_is : at ≡ given_at (alone cursor live) 0 q
  pub cursor_is : cursor_after ≡ cursor_of (after_region (alone cursor live) 0 q) 0
  pub bytes_are : bytes_after ≡ bytes_after_region (alone cursor live) 0 q bytes
