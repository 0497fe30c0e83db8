-- Texts in the forms in which they stand at their source, and bytes that spell a text.
-- The Unicode Standard, "Encoding Forms"; Component Model, canonical ABI, "Loading" (`load_string_from_range`).
use Rattle.std.specs.Prelude.{◌≡◌, ℕ, List}
use Rattle.fact_types.specs.declared.outside.FixedEncoding.{FixedEncoding}
use Rattle.fact_types.specs.declared.outside.FixedEncoding.TheVariants.{Utf8, Utf16, Latin1}
use Rattle.fact_values.specs.Texts.{Form, AreSpelled, spelled_text}
use Rattle.fact_actions.specs.Paths.{TextForm, AsUtf8, AsUtf16, AsCompactLatin1, AsCompactUtf16}

-- the encoding of a text in a form, and its alignment
abbrev pub form_encoding : TextForm → FixedEncoding
form_encoding AsUtf8 = Utf8
form_encoding AsUtf16 = Utf16
form_encoding AsCompactLatin1 = Latin1
form_encoding AsCompactUtf16 = Utf16

abbrev pub form_align : TextForm → ℕ
form_align AsUtf8 = 1
form_align AsUtf16 = 2
form_align AsCompactLatin1 = 2
form_align AsCompactUtf16 = 2

-- a text of so many units in a form
abbrev pub in_form : TextForm → (units : ℕ) → Form
in_form f n = record { encoding = form_encoding f; align = form_align f; units = n }

-- Bytes spell a text.
pub record SpellsText (e : FixedEncoding) (bytes text : List ℕ) : Type 0 where
  pub can : AreSpelled e text
  pub is : bytes ≡ spelled_text e text
