use Rattle.std.proofs.lemmas.Result.{on_ok_weaker}
use Rattle.fact_emit.proofs.StringTexts.{compact_put, utf16_put, utf8_put}
use Rattle.fact_emit.proofs.strings.put_encoded.Goals as goal

pub returns-in-Utf8 : goal.returns-in-Utf8
returns-in-Utf8 c = on_ok_weaker _ (utf8_put c.in-Utf8.is) c.put_text.ensures

pub returns-in-Utf16 : goal.returns-in-Utf16
returns-in-Utf16 c = on_ok_weaker _ (utf16_put c.in-Utf16.is) c.put_text-in-Utf16.ensures

pub returns-in-CompactUtf16 : goal.returns-in-CompactUtf16
returns-in-CompactUtf16 c = on_ok_weaker _ (compact_put c.in-CompactUtf16.is) c.put_compact.ensures
