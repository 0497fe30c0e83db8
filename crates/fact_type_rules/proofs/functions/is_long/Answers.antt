use Rattle.std.proofs.Common.{inl, sym, ◌∙◌}
use Rattle.std.proofs.lemmas.Bool.{false≢true}
use Rattle.fact_type_rules.proofs.FunctionLaws.{none-before}
use Rattle.fact_type_rules.proofs.functions.is_long.Goals as goal

pub returns-then-has_many_names : goal.returns-then-has_many_names
returns-then-has_many_names c = λ ps rs s. (λ b. inl ((c.has_many_names.ensures ps rs s).0 c.if-has_many_names.true), λ f. c.if-has_many_names.true)

pub returns-else-has_many_names : goal.returns-else-has_many_names
returns-else-has_many_names c = λ ps rs s.
    none-before _ _ c.has_many_types.result (c.has_many_types.ensures ps rs s) (λ n. false≢true (sym c.if-has_many_names.false ∙ (c.has_many_names.ensures ps rs s).1 n))
