-- What `value_in` gives, by what `serde_json` answered.
use Rattle.std.proofs.Common.{◌≡◌, ℕ, List, Option, Some, None, Bool, true, false, cond, refl, sym}
use Rattle.std.specs.Str.{is_utf8, IsUtf8}
use Rattle.std.proofs.lemmas.Str.{IsUtf8-from_is_utf8, is_utf8-from_IsUtf8}
use Rattle.serde_json.specs.Data.{Data}
use Rattle.serde_json.specs.Read.{read}
use Rattle.fact_plan.specs.Reading.{value_in}

pub value_in-read : (bytes : List ℕ) (d : Data) → IsUtf8 bytes → read bytes ≡ Some d → Some d ≡ value_in bytes
unfolding value_in
value_in-read bytes d utf8 found = rw (is_utf8-from_IsUtf8 bytes utf8) (sym found)

none_at : (b : Bool) (o : Option Data) → (b ≡ true → o ≡ None) → None ≡ cond b o None
none_at true o h = sym (h refl)
none_at false o h = refl

pub value_in-none : (bytes : List ℕ) → (IsUtf8 bytes → read bytes ≡ None) → None ≡ value_in bytes
unfolding value_in
value_in-none bytes h = none_at (is_utf8 bytes) (read bytes) (λ e. h (IsUtf8-from_is_utf8 bytes e))
