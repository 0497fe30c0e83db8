use Rattle.std.proofs.Common.{length, min, sym, ap, ◌∙◌, subst}
use Rattle.fact_types.specs.Tables.{HasShape}
use Rattle.fact_actions.specs.Outlining.{cost_of_flags}
use Rattle.fact_kinds.proofs.Costs.{record_cost, tuple_cost, variant_cost, enum_cost, flags_cost, fixed_cost}
use Rattle.fact_kinds.proofs.fuel.cost.Goals as goal

pub returns-in-Flags : goal.returns-in-Flags
returns-in-Flags c = λ s h.
    c.flags_cost.ensures ∙ ap (λ n. min (cost_of_flags n) 4294967295) (c.len.ensures.len ∙ ap (λ f. length f.names) c.behind-types.view_is)
    ∙ ap (λ n. min n 4294967295) (sym (flags_cost c.args.types.now c.in-Flags.i c.index.result.now c.index.ensures s (subst (λ a. HasShape c.args.types.now a s) c.in-Flags.is h)))

pub returns-in-Record : goal.returns-in-Record
returns-in-Record c = λ s h.
    c.counted.ensures ∙ ap (λ n. min n 4294967295) c.len-in-Record.ensures
    ∙ ap (λ n. min n 4294967295) (sym (record_cost c.args.types.now c.in-Record.i c.index-in-Record.result.now c.index-in-Record.ensures s (subst (λ a. HasShape c.args.types.now a s) c.in-Record.is h)))

pub returns-in-Tuple : goal.returns-in-Tuple
returns-in-Tuple c = λ s h.
    c.counted-in-Tuple.ensures ∙ ap (λ n. min n 4294967295) c.len-in-Tuple.ensures
    ∙ ap (λ n. min n 4294967295) (sym (tuple_cost c.args.types.now c.in-Tuple.i c.index-in-Tuple.result.now c.index-in-Tuple.ensures s (subst (λ a. HasShape c.args.types.now a s) c.in-Tuple.is h)))

pub returns-in-Variant : goal.returns-in-Variant
returns-in-Variant c = λ s h.
    c.counted-in-Variant.ensures ∙ ap (λ n. min n 4294967295) (c.len-in-Variant.ensures.len ∙ ap (λ f. length f.cases) c.behind-types-in-Variant.view_is)
    ∙ ap (λ n. min n 4294967295) (sym (variant_cost c.args.types.now c.in-Variant.i c.index-in-Variant.result.now c.index-in-Variant.ensures s (subst (λ a. HasShape c.args.types.now a s) c.in-Variant.is h)))

pub returns-in-Enum : goal.returns-in-Enum
returns-in-Enum c = λ s h.
    c.counted-in-Enum.ensures ∙ ap (λ n. min n 4294967295) (c.len-in-Enum.ensures.len ∙ ap (λ f. length f.names) c.behind-types-in-Enum.view_is)
    ∙ ap (λ n. min n 4294967295) (sym (enum_cost c.args.types.now c.in-Enum.i c.index-in-Enum.result.now c.index-in-Enum.ensures s (subst (λ a. HasShape c.args.types.now a s) c.in-Enum.is h)))

pub returns-in-FixedLengthList : goal.returns-in-FixedLengthList
returns-in-FixedLengthList c = λ s h.
    c.elements_cost.ensures
    ∙ ap (λ n. min n 4294967295) (sym (fixed_cost c.args.types.now c.in-FixedLengthList.i c.index-in-FixedLengthList.result.now c.index-in-FixedLengthList.ensures s (subst (λ a. HasShape c.args.types.now a s) c.in-FixedLengthList.is h)))
