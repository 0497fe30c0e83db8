use Rattle.std.proofs.Common.{List, ℕ, string_bytes, subst}
use Rattle.fact_records.specs.Texts.{Grows, HasTextAt}
use Rattle.fact_records.proofs.Later.{grows-by, grows-on, stands-later}
use Rattle.fact_records.proofs.records.import_record.Goals as goal

pub returns-clause-names : goal.returns-clause-names
returns-clause-names c =
    let first = string_bytes c.add_text.new.text in
    let second = string_bytes c.add_text-2.new.text in
    let last = string_bytes c.definitions_of.new.text in
    let after : Grows second last = grows-on second (string_bytes c.add_line.new.text) last c.in_ok-line.ensures.grown c.in_ok-first.ensures.grown in
    let all : Grows first last = grows-on first second last (grows-by first second c.as_str-2.result.now c.in_ok-name.ensures.grown) after in
    record {
      origin = stands-later first last c.in_ok-origin.origin c.args.named.now.module all (subst (λ (s : List ℕ). HasTextAt first c.in_ok-origin.origin s) c.as_str.ensures c.in_ok-origin.ensures.stands);
      own = stands-later second last c.in_ok-name.name c.args.named.now.name after (subst (λ (s : List ℕ). HasTextAt second c.in_ok-name.name s) c.as_str-2.ensures c.in_ok-name.ensures.stands);
    }
