-- Texts that are longer than the limits of their forms and of the encodings that they go to: which limits those of paths make, and
-- how a run ends that moves such a text (the limits are this project's).
use Rattle.std.specs.Prelude.{◌≡◌, ◌⊎◌, ℕ, ◌<◌, List, [], ◌∷◌, Some, max}
use Rattle.fact_types.specs.declared.import.Import.{Import}
use Rattle.fact_types.specs.declared.import.Import.TheVariants as import
use Rattle.fact_types.specs.declared.outside.FixedEncoding.TheVariants.{Utf8, Latin1}
use Rattle.fact_types.specs.declared.outside.StringEncoding.{StringEncoding}
use Rattle.fact_types.specs.declared.outside.StringEncoding.TheVariants as string
use Rattle.fact_types.specs.declared.outside.Trap.{Trap as TrapCode}
use Rattle.fact_machine.specs.declared.types.Answer.{Answer}
use Rattle.fact_machine.specs.declared.types.CoreValue.{CoreValue}
use Rattle.fact_machine.specs.declared.types.MachineState.{MachineState}
use Rattle.fact_machine.specs.World.{Lack}
use Rattle.fact_values.specs.Limits.{most_units}
use Rattle.fact_values.specs.Places.{Pair}
use Rattle.fact_values.specs.Texts.{AreSpelled, form_of, text_at, units_of_text}
use Rattle.fact_actions.specs.Paths.{Path, End, Limit, Resize, Pass, If, Tag, Assert, TextForm, AsUtf8, AsUtf16, AsCompactLatin1, AsCompactUtf16}
use Rattle.fact_actions.specs.Regions.{Region}
use Rattle.fact_actions.specs.Running.{Call, Ended, Gave, Halted, Strayed}
use Rattle.fact_actions.specs.Strings.{form_in}
use Rattle.fact_action_laws.specs.HonestMoves.{IsHonestAnswer}
use Rattle.fact_action_laws.specs.Regions.{TransferSetting, regions_by}

-- ---- the limits of paths

-- the factor of the limit with which a path begins, and the greatest of all its limits
abbrev pub first_factor : Path → ℕ
first_factor (Limit factor p) = factor
first_factor p = 0

abbrev pub greatest_factor : Path → ℕ
greatest_factor End = 0
greatest_factor (Limit factor p) = max factor (greatest_factor p)
greatest_factor (Resize x y p) = greatest_factor p
greatest_factor (Pass o rest room p) = greatest_factor p
greatest_factor (If test q r p) = max (max (greatest_factor q) (greatest_factor r)) (greatest_factor p)
greatest_factor (Tag p) = greatest_factor p
greatest_factor (Assert t test p) = greatest_factor p

-- ---- texts past them

-- A text of so many code units is not moved by the first pass of its path: into UTF-8 it takes more bytes than the source has units,
-- and into the compact form it is none of Latin-1. Where a path has one limit alone, any text of that length is none.
abbrev pub OutgrowsFirst : TextForm → StringEncoding → (text : List ℕ) → (units : ℕ) → Type 0
OutgrowsFirst AsUtf16 string.Utf8 text n = n < units_of_text Utf8 text
OutgrowsFirst AsCompactUtf16 string.Utf8 text n = n < units_of_text Utf8 text
OutgrowsFirst AsCompactLatin1 string.Utf8 text n = n < units_of_text Utf8 text
OutgrowsFirst AsUtf8 string.CompactUtf16 text n = AreSpelled Latin1 text → ⊥
OutgrowsFirst f to text n = Unit {0}

-- A pointer and a length at a source name a text that is longer than the limit.
pub record IsPastLimit (c : TransferSetting) (q : Pair) : Type 0 where
  pub text : List ℕ
  pub stands : text_at c.transfer.from.encoding c.source q.pointer q.count ≡ Some text
  pub long : most_units (form_of c.transfer.from.encoding q.count).encoding c.transfer.to.encoding < (form_of c.transfer.from.encoding q.count).units
  pub outgrows : OutgrowsFirst (form_in c.transfer.from.encoding q.count) c.transfer.to.encoding text (form_of c.transfer.from.encoding q.count).units

-- ---- ends

-- Traps may be answered in any way, and all else honestly.
abbrev pub IsHonestOrTrap : TransferSetting → List Region → Import → List CoreValue → MachineState → Answer → Type 0
IsHonestOrTrap c gs (import.Trap t) args before answer = Unit {0}
IsHonestOrTrap c gs i args before answer = IsHonestAnswer c gs i args before answer

abbrev pub AreHonestOrTraps : TransferSetting → List Region → List Call → Type 0
AreHonestOrTraps c gs [] = Unit {0}
AreHonestOrTraps c gs (x ∷ cs) = IsHonestOrTrap c gs x.what x.args x.before x.answer × AreHonestOrTraps c (regions_by x.what x.args x.answer gs) cs

-- the last of calls is that of a trap
abbrev pub IsLastOf : TrapCode → List Call → Type 0
IsLastOf t [] = ⊥
IsLastOf t (x ∷ []) = x.what ≡ import.Trap t
IsLastOf t (x ∷ (y ∷ cs)) = IsLastOf t (y ∷ cs)

-- An end in which all but traps were honest: nothing is given, and it stopped for want of an answer, or at this trap.
abbrev pub EndsAtTrap : TransferSetting → TrapCode → {A : Type 0} → List Region → Ended A → Type 0
EndsAtTrap c t gs (Gave n cs a w) = AreHonestOrTraps c gs cs → ⊥
EndsAtTrap c t gs (Halted n cs s w) = AreHonestOrTraps c gs cs → (s ≡ Lack) ⊎ IsLastOf t cs
EndsAtTrap c t gs (Strayed n cs w) = Unit {0}
