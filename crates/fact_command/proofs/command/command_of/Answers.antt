use Rattle.std.proofs.Common.{◌∙◌, ◌≤◌, sym, subst, string_bytes, map, List, ℕ, codes, IfSome}
use Rattle.std.proofs.lemmas.Result.{IfOk-weaker}
use Rattle.std.specs.Str.{bytes_eq}
use Rattle.clap.specs.Matches.{found_of}
use Rattle.clap.specs.Walk.{rows_of}
use Rattle.clap.proofs.WalkLemmas.{list_any-map}
use Rattle.fact_generate.specs.Generated.{most_generated}
use Rattle.fact_command.specs.Command.{HasOneMode}
use Rattle.fact_command.specs.declared.command.CommandOptions.{CommandOptions}
use Rattle.fact_command.proofs.Words.{bare-unread, has-fuel, has-mode, has-number, read}
use Rattle.fact_command.proofs.command.command_of.Goals as goal

pub returns-then-has_bare_dashes-clause-reading : goal.returns-then-has_bare_dashes-clause-reading
returns-then-has_bare_dashes-clause-reading c =
    bare-unread (map string_bytes c.args.words.now) (sym (list_any-map (λ (word : List ℕ). bytes_eq word (codes "--")) string_bytes c.args.words.now) ∙ sym c.has_bare_dashes.ensures ∙ c.if-has_bare_dashes.true)

pub returns-in-Ok : goal.returns-in-Ok
returns-in-Ok c =
    let words = map string_bytes c.args.words.now in
    let bare = sym (list_any-map (λ (word : List ℕ). bytes_eq word (codes "--")) string_bytes c.args.words.now) ∙ sym c.has_bare_dashes.ensures ∙ c.if-has_bare_dashes.false in
    let is = read _ words (rows_of (found_of c.in-Ok.matches)) c.in_ok-command.ensures bare c.in-Ok.ensures.kinds (λ h. (c.in-Ok.ensures.matches h).0) in
    record {
      reading = IfOk-weaker c.options_in.result _ _ (λ o e. e ∙ is) c.options_in.ensures;
      fuel = IfOk-weaker c.options_in.result _ _ (λ o e. subst (λ x. IfSome x (λ (y : CommandOptions). 1 ≤ y.fuel)) (sym (e ∙ is)) (has-fuel words)) c.options_in.ensures;
      generate = IfOk-weaker c.options_in.result _ _ (λ o e. subst (λ x. IfSome x (λ (y : CommandOptions). IfSome y.generate (λ n. n ≤ most_generated))) (sym (e ∙ is)) (has-number words)) c.options_in.ensures;
      one = IfOk-weaker c.options_in.result _ _ (λ o e. subst (λ x. IfSome x HasOneMode) (sym (e ∙ is)) (has-mode words)) c.options_in.ensures;
    }
