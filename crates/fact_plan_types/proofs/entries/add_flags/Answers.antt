use Rattle.std.proofs.Common.{ℕ, List, None, Err, map, refl, ap, ◌∙◌, sym, subst, inl, inr}
use Rattle.std.proofs.lemmas.Result.{err_from_is_err_and}
use Rattle.fact_types.specs.Shapes.{k_flags}
use Rattle.fact_types.specs.Tables.{HasMembers}
use Rattle.fact_builder.specs.Builder.{Builder}
use Rattle.fact_plan.specs.declared.plan.PlanType.TheVariants as entry
use Rattle.fact_plan_types.specs.PlanShapes.{names_alone}
use Rattle.fact_plan_types.proofs.AddLaws.{makes_adds, no_tuples}
use Rattle.fact_plan_types.proofs.MemberLaws.{names_members}
use Rattle.fact_plan_types.proofs.ReadyLaws.{few_flags, no_memory_adds}
use Rattle.fact_plan_types.proofs.entries.add_flags.Goals as goal

pub set_of_names-requires : goal.set_of_names-requires
set_of_names-requires c = λ d. c.requires.good (inr (inl d))

pub returns-in_err-names : goal.returns-in_err-names
returns-in_err-names c =
    let p = err_from_is_err_and c.from_residual.result c.from_residual.ensures.1 in
    no_memory_adds _ _ _ _ _ (p.1 ∙ ap Err p.2)

pub returns : goal.returns
returns c =
    let t = c.args.builder.now.tables in
    makes_adds _ _ c.args.types.now (entry.Flags c.args.names.now) k_flags _ (λ ss. names_alone c.args.names.now) _ c.make_flags.ensures.makes
    (λ ss h. subst (λ (ns : List (List ℕ)). HasMembers t (map (λ n. (n, None)) ns) (names_alone c.args.names.now)) (sym c.in_ok-names.ensures) (names_members t c.args.names.now))
    (λ ss h. refl) (λ ss h. refl) (λ ss. few_flags c.args.names.now (λ l. c.requires.good (inr (inr (inl l)))))
    (no_tuples _ _ c.args.types.now k_flags _ (λ ss. names_alone c.args.names.now) _ c.make_flags.ensures.makes (ap (λ (b : Builder). b.tables.tuples) c.make_flags.ensures.makes.rest) (λ ts ss. refl))
