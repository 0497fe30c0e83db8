use Rattle.std.proofs.Common.{◌∙◌, arith, subst, sym}
use Rattle.std.proofs.lemmas.Option.{slice_get-get_or}
use Rattle.std.proofs.Common.{ap, Some, ◌+◌}
use Rattle.std.specs.Int.{next_multiple_of}
use Rattle.fact_abi.specs.Loading.{Aligning}
use Rattle.fact_abi.proofs.PartLaws.{aligning_starts, aligning_past, aligning_on, aligning_ends, offset_told}
use Rattle.fact_lowering.proofs.places.Lowering.payload_place.Goals as goal
use Rattle.fact_lowering.proofs.places.Lowering.payload_place.Goals.{in-Some, in_default}

pub loop-case-init : goal.loop-case-init
loop-case-init c = (omega arith, λ ms h. aligning_starts c.args.self.now.types.now c.args.self.now.side ms c.args.cases.now h)

pub extent-size-requires : goal.extent-size-requires
extent-size-requires c = c.requires.live.each _ _ (slice_get-get_or c.args.cases.now c.loop-case.case-index _ c.loop-case-test.true ∙ ap Some c.in-Some.is)

pub loop-case-preserved : goal.loop-case-preserved
loop-case-preserved c = elim c.match-case.branch [
  | in-Some w ↦ (
    omega (arith, w.greatest-is, w.max-greatest.ensures, w.extent-size.ensures.aligned),
    λ ms h.
        aligning_on c.args.self.now.types.now c.args.self.now.side ms c.args.cases.now c.loop-case.case-index c.loop-case.greatest w.extent-size.result.1 c.match-case.greatest w.in-Some.ty c.loop-case-test.true w.in-Some.is
        w.extent-size.ensures.align (w.greatest-is ∙ w.max-greatest.ensures) (c.loop-case.invariant.1 ms h),
  )
  | in_default w ↦ (
    omega (arith, w.greatest-is, c.loop-case.invariant.0),
    λ ms h.
        subst (λ a. Aligning c.args.self.now.types.now c.args.self.now.side ms c.args.cases.now (c.loop-case.case-index + 1) a) (sym w.greatest-is)
        (aligning_past c.args.self.now.types.now c.args.self.now.side ms c.args.cases.now c.loop-case.case-index c.loop-case.greatest c.loop-case-test.true w.in_default.is (c.loop-case.invariant.1 ms h)),
  )
]

pub returns : goal.returns
returns c = λ ms are. offset_told _ c.args.size c.loop-case.greatest _ (c.next_multiple_of.ensures.value ∙ ap (λ a. next_multiple_of c.args.size a) c.from.ensures) c.loop-case.invariant.0 (aligning_ends c.args.self.now.types.now c.args.self.now.side ms c.args.cases.now c.loop-case.case-index c.loop-case.greatest (omega (arith, c.loop-case-test.false)) c.loop-case.invariant.0 (c.loop-case.invariant.1 ms are))
