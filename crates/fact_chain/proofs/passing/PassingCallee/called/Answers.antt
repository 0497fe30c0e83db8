use Rattle.std.proofs.Common.{subst, sym}
use Rattle.fact_chain.specs.Between.{HasPassedOn, passed_results}
use Rattle.fact_chain.specs.Passing.{number_of_answer}
use Rattle.fact_chain.proofs.PassedLaws.{answers_none, answers_so, tells_error, tells_none}
use Rattle.fact_chain.proofs.passing.PassingCallee.called.Goals as goal

pub returns-clause-ready : goal.returns-clause-ready
returns-clause-ready c = c.requires

pub returns-clause-given : goal.returns-clause-given
returns-clause-given c = c.second_call-passed.ensures.given_is

pub returns-clause-answers : goal.returns-clause-answers
returns-clause-answers c = answers_so (passed_results c.second_call-passed.result.outcome) c.second_call-passed.result.answer c.second_call-passed.ensures.answer_is

pub returns-clause-no_error : goal.returns-clause-no_error
returns-clause-no_error c = tells_none c.number_told-self.result c.second_call-passed.result.answer c.number_told-self.ensures

pub returns-clause-no_answer : goal.returns-clause-no_answer
returns-clause-no_answer c = answers_none (passed_results c.second_call-passed.result.outcome) c.second_call-passed.result.answer c.second_call-passed.ensures.answer_is

pub returns-clause-error : goal.returns-clause-error
returns-clause-error c = tells_error c.number_told-self.result c.second_call-passed.result.answer c.number_told-self.ensures

pub returns-clause-stays : goal.returns-clause-stays
returns-clause-stays c = λ first h.
    let p = c.args.self.now in
    let passed = c.second_call-passed.result in
    record {
      same = record { code = h.same.code; types = h.same.types; second_is = h.same.second_is; results_are = h.same.results_are };
      holds =
          subst (λ n. HasPassedOn p.module.now p.types.now p.second.now p.results passed.given passed.outcome n) (sym c.number_told-self.ensures)
          (subst (λ rs. HasPassedOn p.module.now p.types.now p.second.now rs passed.given passed.outcome (number_of_answer passed.answer)) c.as_slice.ensures c.second_call-passed.ensures.holds);
    }
