-- What a path does to texts alone, without memory and without calls: at each step what is known of the source, of the
-- region and of what is written there.
use Rattle.std.specs.Prelude.{◌≡◌, ℕ, ◌+◌, ◌*◌, ◌-◌, ◌/◌, ◌%◌, ◌^◌, ◌<◌, ◌≤◌, ◌⊎◌, List, [], ◌++◌, length, take, drop, min, get_or, Bool, true, false, if◌then◌else◌}
use Rattle.fact_types.specs.declared.outside.FixedEncoding.{FixedEncoding}
use Rattle.fact_types.specs.declared.outside.FixedEncoding.TheVariants.{Utf8, Utf16, Latin1}
use Rattle.fact_types.specs.declared.outside.StringEncoding.{StringEncoding}
use Rattle.fact_types.specs.declared.outside.StringEncoding.TheVariants as string
use Rattle.fact_values.specs.Texts.{unit_bytes, AreSpelled, spelled_text, units_of_text}
use Rattle.fact_actions.specs.Transcoders.{TranscodeKind, AllUnits, Counted, Fitting, Narrow, Tagged, Widening, transcode_kind, from_encoding, to_encoding, Room, IsHonestPass}
use Rattle.fact_actions.specs.Paths.{Amount, SourceUnits, WrittenUnits, Test, AllRead, WrittenIs, HasNoTag, KeepsUnits, Path, End, Limit, Resize, Pass, If, Tag, Assert}
use Rattle.fact_actions.specs.Strings.{most_string_bytes}
use Rattle.fact_action_laws.proofs.Spelled.{SpellsText}

-- How far a path has come: the units read and what is written, the size of the region, whether realloc gave it, and the bytes
-- that are known to stand at its start.
pub record Stage : Type 0 where
  pub read : ℕ
  pub written : ℕ
  pub size : ℕ
  pub given : Bool
  pub have : List ℕ

abbrev pub beginning : Stage
beginning = record { read = 0; written = 0; size = 0; given = false; have = [] }

-- The source has n units.
module _ (n : ℕ) where
  abbrev pub amount_at : Amount → Stage → ℕ
  amount_at (SourceUnits c) s = c * n
  amount_at (WrittenUnits c) s = c * s.written

  abbrev pub TestHolds : Test → Stage → Type 0
  TestHolds AllRead s = s.read ≡ n
  TestHolds (WrittenIs c) s = s.written ≡ c * n
  TestHolds HasNoTag s = s.written < 2 ^ 31
  TestHolds KeepsUnits s = s.written % 2 ^ 31 ≡ n

  -- what a test rests on
  abbrev pub Testable : Test → Stage → Type 0
  Testable AllRead s = Unit {0}
  Testable (WrittenIs c) s = c * n < 2 ^ 32
  Testable HasNoTag s = s.written < 2 ^ 32
  Testable KeepsUnits s = Unit {0}

  -- where in the region a pass writes, and the room that it is told
  abbrev pub offset : TranscodeKind → (rest : Bool) → Stage → ℕ
  offset Fitting true s = s.written
  offset _ _ s = 0

  abbrev pub room_at : TranscodeKind → (rest : Bool) → (room : ℕ) → Stage → Room
  room_at k rest c s = record { room = c * n - offset k rest s; latin1_bytes = take s.written s.have }

  abbrev pub skipped : (rest : Bool) → Stage → ℕ
  skipped b s = if b then s.read else 0

  abbrev pub after_pass : TranscodeKind → (rest : Bool) → Stage → (bytes numbers : List ℕ) → Stage
  after_pass AllUnits b s bytes ns = record s { written = n; have = bytes }
  after_pass Fitting true s bytes ns = record s { read = s.read + get_or ns 0 0; written = s.written + get_or ns 1 0; have = take s.written s.have ++ bytes }
  after_pass Fitting false s bytes ns = record s { read = get_or ns 0 0; written = get_or ns 1 0; have = bytes }
  after_pass Narrow b s bytes ns = record s { read = get_or ns 0 0; written = get_or ns 1 0; have = bytes }
  after_pass Counted b s bytes ns = record s { written = get_or ns 0 0; have = bytes }
  after_pass Tagged b s bytes ns = record s { written = get_or ns 0 0; have = bytes }
  after_pass Widening b s bytes ns = record s { written = get_or ns 0 0; have = bytes }

  -- a second pass has something to read, and not too much
  abbrev pub SomeLeft : (rest : Bool) → Stage → Type 0
  SomeLeft true s = (s.read < n) × (n < 2 ^ 32)
  SomeLeft false s = Unit {0}

  -- the numbers that a pass is told are those that are meant, and one into Latin-1 is no second pass
  abbrev pub IsReadyFor : TranscodeKind → (rest : Bool) → (room : ℕ) → Stage → Type 0
  IsReadyFor Fitting true c s = (s.written ≤ length s.have) × (s.written < c * n) × (c * n ≡ s.size)
  IsReadyFor Fitting false c s = c * n ≡ s.size
  IsReadyFor Widening b c s = (s.written ≤ length s.have) × (c * n ≤ s.size) × (s.written + (n - skipped b s) ≤ c * n)
  IsReadyFor Narrow b c s = b ≡ false
  IsReadyFor _ b c s = Unit {0}

  -- the region has room for what a pass may write
  abbrev pub HasSpace : TranscodeKind → FixedEncoding → (room : ℕ) → Stage → Type 0
  HasSpace Fitting t c s = Unit {0}
  HasSpace Widening t c s = unit_bytes t * (c * n) ≤ s.size
  HasSpace _ t c s = unit_bytes t * n ≤ s.size

  -- A pass reads whole units of the source, writes within the region, and leads on.
  abbrev pub PassLeads : TranscodeKind → (from to : FixedEncoding) → (rest : Bool) → (room : ℕ) → (source : List ℕ) → Stage → (Next : List ℕ → Stage → Type 0) → Type 0
  PassLeads k from to b c us s Next =
      (length us ≡ unit_bytes from * n) × (s.given ≡ true) × SomeLeft b s × IsReadyFor k b c s × HasSpace k to c s
      × ((bytes numbers : List ℕ) → IsHonestPass k from to (room_at k b c s) (drop (unit_bytes from * skipped b s) us) bytes numbers
      → (offset k b s + length bytes ≤ s.size) × Next us (after_pass k b s bytes numbers))

  -- A path comes to a source and a stage of which P holds, whatever honest transcoders answer; if Good, it stops nowhere. Kept
  -- says that realloc keeps the source and what stands in the region; without it both may change at each call of realloc, but
  -- not their lengths.
  abbrev pub Leads : (Kept Good : Type 0) → Path → (source : List ℕ) → Stage → (List ℕ → Stage → Type 0) → Type 0
  Leads Kept Good End us s P = P us s
  Leads Kept Good (Limit f p) us s P = (Good → n ≤ most_string_bytes / f) × (n ≤ most_string_bytes / f → Leads Kept Good p us s P)
  Leads Kept Good (Resize x y p) us s P =
      (amount_at x s ≡ s.size) × (amount_at y s < 2 ^ 32)
      × ((us2 have : List ℕ) → length us2 ≡ length us → length have ≡ min (amount_at y s) (length s.have) → (Kept → us2 ≡ us) → (Kept → have ≡ take (amount_at y s) s.have)
      → Leads Kept Good p us2 (record s { size = amount_at y s; given = true; have = have }) P)
  Leads Kept Good (Pass o b c p) us s P = PassLeads (transcode_kind o) (from_encoding o) (to_encoding o) b c us s (λ us1 s1. Leads Kept Good p us1 s1 P)
  Leads Kept Good (If t q r p) us s P =
      Testable t s × (TestHolds t s → Leads Kept Good q us s (λ us1 s1. Leads Kept Good p us1 s1 P)) × ((TestHolds t s → ⊥) → Leads Kept Good r us s (λ us1 s1. Leads Kept Good p us1 s1 P))
  Leads Kept Good (Tag p) us s P = (s.written < 2 ^ 31) × Leads Kept Good p us (record s { written = s.written + 2 ^ 31 }) P
  Leads Kept Good (Assert t test p) us s P = Testable test s × (Kept → TestHolds test s) × Leads Kept Good p us s P

-- The text stands in an encoding, in so many units, at the start of the region.
pub record StandsIn (e : FixedEncoding) (text : List ℕ) (units : ℕ) (s : Stage) : Type 0 where
  pub can : AreSpelled e text
  pub units_are : units ≡ units_of_text e text
  pub bytes_are : take (unit_bytes e * units) s.have ≡ spelled_text e text
  pub room : unit_bytes e * units ≤ s.size

-- It stands as a side's encoding has it: compact texts are Latin-1, or UTF-16 with the tag in their length.
abbrev pub StandsAs : StringEncoding → List ℕ → Stage → Type 0
StandsAs string.Utf8 text s = StandsIn Utf8 text s.written s
StandsAs string.Utf16 text s = StandsIn Utf16 text s.written s
StandsAs string.CompactUtf16 text s =
    (StandsIn Latin1 text s.written s × (s.written < 2 ^ 31)) ⊎ ((u : ℕ) × (s.written ≡ u + 2 ^ 31) × (u < 2 ^ 31) × StandsIn Utf16 text u s)

-- The source spells a text, which stands in the region that realloc gave.
pub record Moved (from : FixedEncoding) (to : StringEncoding) (us : List ℕ) (s : Stage) : Type 0 where
  pub text : List ℕ
  pub given : s.given ≡ true
  pub source : SpellsText from us text
  pub stands : StandsAs to text s
