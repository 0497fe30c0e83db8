use Rattle.std.proofs.Common.{◌≡◌, ap, ◌∙◌, rules}
use Rattle.std.proofs.lemmas.List.{take_all}
use Rattle.std.proofs.lemmas.Str.{chars_from_encodes}
use Rattle.std.specs.List.{flat_map}
use Rattle.std.specs.Str.{chars}
use Rattle.fact_explain.specs.Shown.{shown_char}
use Rattle.fact_explain.proofs.shown.shown_text.Goals as goal

pub returns : goal.returns
returns c =
    let read : c.in_ok-chars.chars.items ≡ chars c.args.text.now = search (rules, chars_from_encodes) in
    c.loop-c.invariant ∙ ap (flat_map shown_char) (take_all c.loop-c.c-index _ c.loop-c-test.false ∙ c.as_slice-c-items.ensures.value ∙ read)
