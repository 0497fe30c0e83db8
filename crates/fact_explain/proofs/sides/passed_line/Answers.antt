use Rattle.std.proofs.Common.{ℕ, List, [], ◌∷◌, ◌++◌, ap, sym, codes, ◌∙◌}
use Rattle.fact_types.specs.Tuples.{tuple_of}
use Rattle.fact_adapter_rules.proofs.Decisions.{mapped}
use Rattle.fact_explain.specs.Layouts.{layout_text}
use Rattle.fact_explain.proofs.Passing.{some-passed}
use Rattle.fact_explain.proofs.sides.passed_line.Goals as goal

pub returns-in_ok-room : goal.returns-in_ok-room
returns-in_ok-room c =
    mapped c.format.result _ _ (λ t told ss have is. rw c.if-by_pointer.true (told
    ∙ ap (λ (l : List ℕ). codes "    " ++ (c.args.what.now ++ (codes " through a pointer to " ++ (l ++ 10 ∷ [])))) (c.in_ok-room.ensures ∙ ap (layout_text c.args.wide) (c.canonical_abi.ensures.laid (tuple_of ss) is)))) c.format.ensures.ok

pub returns-else-is_empty : goal.returns-else-is_empty
returns-else-is_empty c =
    mapped c.format-else-is_empty.result _ _ (λ t told ss have is. rw c.if-by_pointer.false (told
    ∙ some-passed c.args.builder.now.tables _ ss c.args.what.now c.args.wide (sym c.is_empty.ensures ∙ c.if-is_empty.false) have)) c.format-else-is_empty.ensures.ok
