-- Texts that stand at a source, alone and among the parts of values.
use Rattle.std.specs.Prelude.{◌≡◌, ℕ, ◌+◌, ◌*◌, ◌%◌, ◌≤◌, List, [], ◌∷◌, ◌++◌, length, take, drop}
use Rattle.fact_values.specs.Texts.{unit_bytes}
use Rattle.fact_actions.specs.Paths.{TextForm}
use Rattle.fact_actions.specs.Requests.{RequestPart, RegionPart, TextPart}
use Rattle.fact_action_laws.specs.MoveTerms.{HasPointers}
use Rattle.fact_action_laws.specs.Regions.{TransferSetting}
use Rattle.fact_action_laws.proofs.Spelled.{SpellsText, form_align, form_encoding}

-- A text of so many units in a form stands at a pointer.
pub record TextStands (bytes : List ℕ) (form : TextForm) (p units : ℕ) : Type 0 where
  pub text : List ℕ
  pub aligned : p % form_align form ≡ 0
  pub inside : p + unit_bytes (form_encoding form) * units ≤ length bytes
  pub spells : SpellsText (form_encoding form) (take (unit_bytes (form_encoding form) * units) (drop p bytes)) text

-- It does at the source of a transfer, whose sides have what texts need.
pub record IsTextThere (c : TransferSetting) (form : TextForm) (p units : ℕ) : Type 0 where
  pub supplied : HasPointers c.transfer.from c.transfer.to
  pub stands : TextStands c.source form p units

-- So it is with all texts among parts.
abbrev pub AreTextsThere : TransferSetting → List RequestPart → Type 0
AreTextsThere c [] = Unit {0}
AreTextsThere c (RegionPart align size ∷ xs) = AreTextsThere c xs
AreTextsThere c (TextPart form p units ∷ xs) = IsTextThere c form p units × AreTextsThere c xs

pub there_join : (c : TransferSetting) (xs ys : List RequestPart) → AreTextsThere c xs → AreTextsThere c ys → AreTextsThere c (xs ++ ys)
there_join c [] ys h k = k
there_join c (RegionPart align size ∷ xs) ys h k = there_join c xs ys h k
there_join c (TextPart form p units ∷ xs) ys h k = (h.0, there_join c xs ys h.1 k)

pub there_parts : (c : TransferSetting) (xs ys : List RequestPart) → AreTextsThere c (xs ++ ys) → AreTextsThere c xs × AreTextsThere c ys
there_parts c [] ys h = (tt, h)
there_parts c (RegionPart align size ∷ xs) ys h = there_parts c xs ys h
there_parts c (TextPart form p units ∷ xs) ys h = let r = there_parts c xs ys h.1 in ((h.0, r.0), r.1)
