use Rattle.std.proofs.Common.{ℕ, Vec, Global, ◌≡◌, ◌∙◌, ◌+◌, ◌/◌, ◌≤◌, ap, sym, length, arith}
use Rattle.fact_values.specs.Texts.{spelled_text}
use Rattle.fact_lowering.specs.TextForms.{stored_in}
use Rattle.fact_lowering.proofs.SpellingLaws.{stored_narrow}
use Rattle.fact_lowering.proofs.StoredTexts.{text_lacks, text_steps}
use Rattle.fact_lowering.proofs.StoreLeaves.{none_is, taken, text_align_some}
use Rattle.fact_lowering.proofs.storing.store_text.Goals as goal

pub spelled-requires : goal.spelled-requires
spelled-requires c = λ e. stored_narrow c.args.to.now.side.encoding c.args.text.now (sym c.stored_encoding-encoding.ensures ∙ e)

pub returns-in_default : goal.returns-in_default
returns-in_default c =
    let long : length c.in_ok-bytes.bytes.items ≡ length (spelled_text (stored_in c.args.to.now.side.encoding c.args.text.now) c.args.text.now) = ap length c.in_ok-bytes.ensures ∙ ap (λ e. length (spelled_text e c.args.text.now)) c.stored_encoding-encoding.ensures in
    let lacks = c.take.ensures.lacks (none_is c.take.result c.in_default.is) in
    text_lacks c.args.to.now.side c.args.text.now c.args.store.now.cursor c.args.store.now.bytes.items (omega (arith, lacks, c.align_of_text.ensures, c.len-size.ensures, long))

pub returns : goal.returns
returns c =
    let some : 1 ≤ c.align_of_text.result = omega (arith, c.align_of_text.ensures, text_align_some c.args.to.now.side.encoding) in
    let q = taken c.args.store.now.cursor c.align_of_text.result c.in-Some.pointer c.in-Some.ensures.at some in
    text_steps c.args.to.now.side c.args.text.now c.args.store.now.cursor c.args.store.now.bytes.items c.take.new.self.bytes.items c.put.new.self.bytes.items c.stored_encoding-encoding.result c.in_ok-bytes.bytes.items c.as_slice.result.now c.align_of_text.result c.len-size.result c.in-Some.pointer
    c.take.new.self.cursor c.put.new.self.cursor c.unit_bytes.result _ c.tagged-count.result c.stored_encoding-encoding.ensures c.in_ok-bytes.ensures c.as_slice.ensures.value c.align_of_text.ensures (omega (arith, c.len-size.ensures)) c.requires.scalars c.requires.can q.0 q.1
    q.2 c.in-Some.ensures.fits c.in-Some.ensures.rises c.put.ensures.cursor (ap (λ (b : Vec ℕ Global). b.items) c.in-Some.ensures.bytes) c.put.ensures.bytes c.unit_bytes.ensures.value (λ i. c.len-size.result / c.unit_bytes.result) c.tagged-count.ensures
