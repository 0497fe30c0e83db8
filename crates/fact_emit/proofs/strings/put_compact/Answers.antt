use Rattle.std.proofs.Common.{◌∙◌, subst, sym}
use Rattle.fact_wasm.specs.Ranges.{AreRanged}
use Rattle.fact_code_laws.specs.StringCode.{no_tag_code}
use Rattle.fact_emit.proofs.SidesImported.{sides_on, sides_same}
use Rattle.fact_emit.proofs.StringRanged.{no_tag_ranged}
use Rattle.fact_emit.proofs.StringTexts.{either_put, untagged_put}
use Rattle.fact_emit.proofs.strings.put_compact.Goals as goal

pub put_text-requires : goal.put_text-requires
put_text-requires c = record { sides = sides_same (c.in_ok-put_untag.ensures.imports ∙ c.begin-outer.ensures.imports ∙ c.in_ok-test.ensures.aside.imports) c.requires.sides }

pub put_text-requires-2 : goal.put_text-requires-2
put_text-requires-2 c =
    let before = sides_same (c.in_ok-put_untag.ensures.imports ∙ c.begin-outer.ensures.imports ∙ c.in_ok-test.ensures.aside.imports) c.requires.sides in
    record { sides = sides_same (c.begin-outer-2.ensures.imports ∙ c.end-wide.ensures.imports) (sides_on before c.in_ok-put_text.ensures.grew) }

pub returns : goal.returns
returns c =
    let test = c.in_ok-test.ensures in
    either_put {T = λ m. no_tag_code m.temporaries.units} (subst (AreRanged 0 0) (sym test.is) (no_tag_ranged _)) (record { is = λ p d e. test.is }) test.aside c.begin-outer.ensures (untagged_put c.in_ok-put_untag.ensures c.in_ok-put_text.ensures) c.end-wide.ensures
    c.begin-outer-2.ensures c.in_ok-put_text-2.ensures c.end-narrow.ensures c.in_ok-put_either.ensures
