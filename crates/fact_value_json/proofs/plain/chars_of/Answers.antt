use Rattle.std.proofs.Common.{◌≡◌, ◌∙◌, rules}
use Rattle.std.specs.Str.{chars}
use Rattle.std.proofs.lemmas.Str.{chars_from_encodes}
use Rattle.fact_value_json.proofs.plain.chars_of.Goals as goal

pub returns : goal.returns
returns c = let read : c.in_ok-chars.chars.items ≡ chars c.args.text.now = search (rules, chars_from_encodes) in c.from_vec.ensures ∙ read
