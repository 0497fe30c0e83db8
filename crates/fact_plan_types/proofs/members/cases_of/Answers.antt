use Rattle.std.proofs.Common.{subst, List, ℕ, Option}
use Rattle.std.proofs.lemmas.List.{take_all}
use Rattle.fact_types.specs.declared.interface.InterfaceType.{InterfaceType}
use Rattle.fact_types.specs.Tables.{HasMembers, IsLiveMember}
use Rattle.fact_plan_types.specs.PlanShapes.{cases_of}
use Rattle.fact_plan_types.proofs.ListedLaws.{next_case, next_case_names, put_case}
use Rattle.fact_plan_types.proofs.ShapeLists.{all-more}
use Rattle.fact_plan_types.proofs.members.cases_of.Goals as goal

pub loop-name-preserved : goal.loop-name-preserved
loop-name-preserved c =
    let variant_cases = c.loop-name.variant_cases.entries in
    let more = c.insert.new.self.entries in
    let p = c.payload_of.result in
    let cs = c.args.cases.now in
    let i = c.loop-name.name-index in
    let x = c.loop-name-item.result in
    let within = c.loop-name-test.true in
    let put = put_case variant_cases more _ p cs i x c.requires.distinct within c.loop-name-item.is c.in_ok-try_clone.ensures c.loop-name.invariant.names c.in_ok-insert.ensures.entries in
    record {
      names = next_case_names variant_cases more p cs i x put within c.loop-name-item.is c.loop-name.invariant.names;
      shaped = λ t ss h. next_case t ss variant_cases more p cs i x put within c.loop-name-item.is (c.loop-name.invariant.shaped t ss h) (c.payload_of.ensures.shaped t ss h);
      live = λ t h. all-more (λ (m : List ℕ × Option InterfaceType). IsLiveMember t m.1) variant_cases more (x.0, p) put (c.loop-name.invariant.live t h) (c.payload_of.ensures.live t h);
    }

pub returns : goal.returns
returns c =
    let all = take_all c.loop-name.name-index c.args.cases.now c.loop-name-test.false in
    record {
      shaped = λ t ss h. subst (λ (cs : List _). HasMembers t c.loop-name.variant_cases.entries (cases_of ss cs)) all (c.loop-name.invariant.shaped t ss h);
      live = c.loop-name.invariant.live;
    }
