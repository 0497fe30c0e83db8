use Rattle.std.proofs.Common.{sym, subst, ◌∙◌, inl}
use Rattle.std.proofs.lemmas.Bool.{false≢true}
use Rattle.fact_types.specs.Shapes.{IsWithin}
use Rattle.fact_types.specs.Tables.{HasShape}
use Rattle.fact_type_rules.specs.Walk.{IsLongType}
use Rattle.fact_type_rules.proofs.EntryLaws.{large-by-nesting, long-entry}
use Rattle.fact_type_rules.proofs.rules.is_large_type.Goals as goal

pub returns-then-is_long_entry : goal.returns-then-is_long_entry
returns-then-is_long_entry c = λ s h.
    let t = c.args.builder.now.tables in
    let long = subst (λ t. IsLongType t c.args.ty.now) c.component_types-2.ensures (c.is_long_entry.ensures.0 c.if-is_long_entry.true) in
    (λ b. inl ((long-entry t c.args.ty.now s h).0 long), λ f. c.if-is_long_entry.true)

pub returns-else-is_long_entry : goal.returns-else-is_long_entry
returns-else-is_long_entry c = λ s h.
    let t = c.args.builder.now.tables in
    large-by-nesting t c.args.ty.now s c.nesting.result h
    (subst IsWithin (c.canonical_abi-abi.ensures.laid s h) c.canonical_abi-abi.ensures.within)
    (c.reveal_entry.ensures s (subst (λ t. HasShape t c.args.ty.now s) (sym c.component_types.ensures) h))
    (λ long. false≢true (sym c.if-is_long_entry.false ∙ c.is_long_entry.ensures.1 (subst (λ t. IsLongType t c.args.ty.now) (sym c.component_types-2.ensures) long)))
    (c.nesting.ensures s h)
