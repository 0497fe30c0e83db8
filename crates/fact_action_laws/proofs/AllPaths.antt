-- Every path moves the text, and what then stands at the destination is read as that text.
use Rattle.std.proofs.Common.{◌≡◌, ℕ, ◌*◌, ◌/◌, ◌^◌, ◌≤◌, ◌<◌, List, refl, arith, length}
use Rattle.fact_types.specs.declared.outside.StringEncoding.{StringEncoding}
use Rattle.fact_types.specs.declared.outside.StringEncoding.TheVariants as string
use Rattle.fact_values.specs.Texts.{unit_bytes}
use Rattle.fact_actions.specs.Paths.{Path, Limit, TextForm, AsUtf8, AsUtf16, AsCompactLatin1, AsCompactUtf16, path, Amount, Resize}
use Rattle.fact_actions.specs.Strings.{most_string_bytes}
use Rattle.fact_values.specs.Limits.{most_units}
use Rattle.fact_action_laws.proofs.Stages.{beginning, Leads, Moved}
use Rattle.fact_action_laws.proofs.Copies.{utf8_copies, utf16_copies, latin1_copies, latin1_widens, utf8_to_utf16}
use Rattle.fact_action_laws.proofs.IntoUtf8.{utf16_to_utf8, latin1_to_utf8}
use Rattle.fact_action_laws.proofs.IntoCompact.{units16, utf16_untags, utf8_to_compact, utf16_to_compact}
use Rattle.fact_action_laws.proofs.Spelled.{form_encoding}

module _ (Kept Good : Type 0) (n : ℕ) (us : List ℕ) where
  pub path_leads : (form : TextForm) (to : StringEncoding) → (Good → n ≤ most_units (form_encoding form) to) → length us ≡ unit_bytes (form_encoding form) * n
      → Leads n Kept Good (path form to) us beginning (λ u s. Kept → Moved (form_encoding form) to u s)
  path_leads AsUtf8 string.Utf8 good long = utf8_copies Kept Good n us good long
  path_leads AsUtf8 string.Utf16 good long = utf8_to_utf16 Kept Good n us good long
  path_leads AsUtf8 string.CompactUtf16 good long = utf8_to_compact Kept Good n us good long
  path_leads AsUtf16 string.Utf8 good long = utf16_to_utf8 Kept Good n us good long
  path_leads AsUtf16 string.Utf16 good long = utf16_copies Kept Good n us good long
  path_leads AsUtf16 string.CompactUtf16 good long = utf16_to_compact Kept Good n us good long
  path_leads AsCompactLatin1 string.Utf8 good long = latin1_to_utf8 Kept Good n us good long
  path_leads AsCompactLatin1 string.Utf16 good long = latin1_widens Kept Good n us units16 good long
  path_leads AsCompactLatin1 string.CompactUtf16 good long = latin1_copies Kept Good n us good long
  path_leads AsCompactUtf16 string.Utf8 good long = utf16_to_utf8 Kept Good n us good long
  path_leads AsCompactUtf16 string.Utf16 good long = utf16_copies Kept Good n us good long
  path_leads AsCompactUtf16 string.CompactUtf16 good long = utf16_untags Kept Good n us good long

-- Every path begins with a limit, within which the bytes of the source do not wrap; and then asks for a region.
pub record Limited (form : TextForm) (to : StringEncoding) : Type 0 where
  pub most : ℕ
  pub rest : Path
  pub none : Amount
  pub size : Amount
  pub behind : Path
  pub begins : rest ≡ Resize none size behind
  pub is : path form to ≡ Limit most rest
  pub small : (n : ℕ) → n ≤ most_string_bytes / most → unit_bytes (form_encoding form) * n < 2 ^ 32

pub limited : (form : TextForm) (to : StringEncoding) → Limited form to
limited AsUtf8 string.Utf8 = record { most = 1; rest = _; none = _; size = _; behind = _; begins = refl; is = refl; small = λ n h. omega (arith, h) }
limited AsUtf8 string.Utf16 = record { most = 2; rest = _; none = _; size = _; behind = _; begins = refl; is = refl; small = λ n h. omega (arith, h) }
limited AsUtf8 string.CompactUtf16 = record { most = 1; rest = _; none = _; size = _; behind = _; begins = refl; is = refl; small = λ n h. omega (arith, h) }
limited AsUtf16 string.Utf8 = record { most = 2; rest = _; none = _; size = _; behind = _; begins = refl; is = refl; small = λ n h. omega (arith, h) }
limited AsUtf16 string.Utf16 = record { most = 2; rest = _; none = _; size = _; behind = _; begins = refl; is = refl; small = λ n h. omega (arith, h) }
limited AsUtf16 string.CompactUtf16 = record { most = 2; rest = _; none = _; size = _; behind = _; begins = refl; is = refl; small = λ n h. omega (arith, h) }
limited AsCompactLatin1 string.Utf8 = record { most = 1; rest = _; none = _; size = _; behind = _; begins = refl; is = refl; small = λ n h. omega (arith, h) }
limited AsCompactLatin1 string.Utf16 = record { most = 2; rest = _; none = _; size = _; behind = _; begins = refl; is = refl; small = λ n h. omega (arith, h) }
limited AsCompactLatin1 string.CompactUtf16 = record { most = 1; rest = _; none = _; size = _; behind = _; begins = refl; is = refl; small = λ n h. omega (arith, h) }
limited AsCompactUtf16 string.Utf8 = record { most = 2; rest = _; none = _; size = _; behind = _; begins = refl; is = refl; small = λ n h. omega (arith, h) }
limited AsCompactUtf16 string.Utf16 = record { most = 2; rest = _; none = _; size = _; behind = _; begins = refl; is = refl; small = λ n h. omega (arith, h) }
limited AsCompactUtf16 string.CompactUtf16 = record { most = 2; rest = _; none = _; size = _; behind = _; begins = refl; is = refl; small = λ n h. omega (arith, h) }
