use Rattle.std.proofs.Common.{refl, ap}
use Rattle.fact_types.specs.Shapes.{k_result, no_members, ok_name, error_name}
use Rattle.fact_builder.specs.Builder.{Builder}
use Rattle.fact_plan.specs.declared.plan.PlanType.TheVariants as entry
use Rattle.fact_plan_types.specs.PlanShapes.{member_of}
use Rattle.fact_plan_types.proofs.AddLaws.{makes_adds, no_tuples}
use Rattle.fact_plan_types.proofs.MemberLaws.{payload_members}
use Rattle.fact_plan_types.proofs.ReadyLaws.{not_ok, not_err}
use Rattle.fact_plan_types.proofs.entries.add_result.Goals as goal

pub payload_of-requires : goal.payload_of-requires
payload_of-requires c = not_ok _ c.args.ok c.args.err c.requires.known

pub payload_of-requires-2 : goal.payload_of-requires-2
payload_of-requires-2 c = not_err _ c.args.ok c.args.err c.requires.known

pub make_result-requires : goal.make_result-requires
make_result-requires c = record { ok = c.payload_of.ensures.live c.args.builder.now.tables c.requires.live; err = c.payload_of-2.ensures.live c.args.builder.now.tables c.requires.live }

pub returns : goal.returns
returns c =
    makes_adds _ _ c.args.types.now (entry.Result c.args.ok c.args.err) k_result _ (λ ss. member_of ss ok_name c.args.ok (member_of ss error_name c.args.err no_members)) _ c.make_result.ensures.makes
    (λ ss h. payload_members c.args.builder.now.tables _ ss c.args.ok ok_name _ _ (c.payload_of.ensures.shaped c.args.builder.now.tables ss h) (payload_members c.args.builder.now.tables _ ss c.args.err error_name _ no_members (c.payload_of-2.ensures.shaped c.args.builder.now.tables ss h) tt))
    (λ ss h. refl) (λ ss h. refl) (λ ss. tt)
    (no_tuples _ _ c.args.types.now k_result _ (λ ss. member_of ss ok_name c.args.ok (member_of ss error_name c.args.err no_members)) _ c.make_result.ensures.makes (ap (λ (b : Builder). b.tables.tuples) c.make_result.ensures.makes.rest) (λ ts ss. refl))
