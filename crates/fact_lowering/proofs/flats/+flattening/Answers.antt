use Rattle.std.proofs.Common.{◌≡◌, ◌∙◌, ◌++◌, ◌∷◌, List, None, ap, get_or, subst, refl, arith}
use Rattle.std.specs.Prelude.{slice_get}
use Rattle.fact_types.specs.FlatShapes.{flat_types, joined, upto}
use Rattle.fact_types.specs.declared.flats.FlatType.{FlatType}
use Rattle.fact_types.specs.declared.flats.FlatType.TheVariants.{I32}
use Rattle.fact_types.specs.Signatures.{width}
use Rattle.fact_abi.specs.declared.nodes.NodeKind.TheVariants as is
use Rattle.fact_abi.specs.Nodes.{AreOf}
use Rattle.fact_abi.proofs.KindLaws.{if_ok}
use Rattle.fact_abi.proofs.LoadLaws.{by_kind, member_within, of_kind}
use Rattle.fact_lowering.proofs.FlatLaws.{all_widened, fixed_list_is, flags_are, flattened_on, not_flattened, not_widened, widened_on}
use Rattle.fact_lowering.proofs.flats.+flattening.Goals as goal

pub flat_of_node-flat_elements-requires : goal.flat_of_node-flat_elements-requires
flat_of_node-flat_elements-requires t c =
    let (s, h, d) = c.canonical_abi-whole.ensures.shaped in
    let q = of_kind c.args.types.now c.args.ty.now c.args.node.now (is.FixedList c.in-FixedList.count c.in-FixedList.element) s c.requires.told c.in-FixedList.is h in
    (omega (arith, c.decreases), c.requires.told.within.each 0 c.in-FixedList.element (ap (λ xs. slice_get xs 0) q.told.0))

pub flat_of_node-returns-in-FixedList : goal.flat_of_node-returns-in-FixedList
flat_of_node-returns-in-FixedList t c =
    if_ok _ _ c.flat_elements.result (λ o e. by_kind c.args.types.now c.args.ty.now c.args.node.now (is.FixedList c.in-FixedList.count c.in-FixedList.element) (λ s. o ≡ flat_types (width c.args.memory64) s) c.requires.told c.in-FixedList.is (λ ms told. fixed_list_is c.args.types.now (width c.args.memory64) c.in-FixedList.element c.in-FixedList.count ms o (subst (λ xs. AreOf c.args.types.now xs ms) told.0 told.1) e)) c.flat_elements.ensures

pub flat_of_node-returns-in-Flags : goal.flat_of_node-returns-in-Flags
flat_of_node-returns-in-Flags t c =
    if_ok _ _ c.flat_flags.result (λ o e. by_kind c.args.types.now c.args.ty.now c.args.node.now is.Flags (λ s. o ≡ flat_types (width c.args.memory64) s) c.requires.told c.in-Flags.is (λ ms told. flags_are (width c.args.memory64) ms c.args.node.now.names c.len.result o told c.len.ensures e)) c.flat_flags.ensures

pub flat_cases-flat_member-requires : goal.flat_cases-flat_member-requires
flat_cases-flat_member-requires t c = (omega (arith, c.decreases), λ y e. member_within c.args.types.now c.args.owner.now c.args.cases.now c.loop-case.case-index y c.requires c.loop-case-test.true e)

pub flat_cases-returns-in_default : goal.flat_cases-returns-in_default
flat_cases-returns-in_default t c =
    λ ms are. not_widened c.args.types.now (width c.args.memory64) ms c.args.cases.now c.loop-case.case-index c.loop-case.any c.in_ok-flat.field-0 c.loop-case-test.true (get_or c.args.cases.now c.loop-case.case-index None) refl (c.in_ok-flat.ensures.none, c.in_ok-flat.ensures.some) c.in_default.is (c.loop-case.invariant ms are)

pub flat_cases-loop-case-preserved : goal.flat_cases-loop-case-preserved
flat_cases-loop-case-preserved t c =
    λ ms are. widened_on c.args.types.now (width c.args.memory64) ms c.args.cases.now c.loop-case.case-index c.loop-case.any c.in_ok-flat.field-0 c.loop-case-test.true (get_or c.args.cases.now c.loop-case.case-index None) refl (c.in_ok-flat.ensures.none, c.in_ok-flat.ensures.some) c.in-Some.flat c.in-Some.is c.in_ok-any.any
    (c.in_ok-any.ensures ∙ (λ i. joined (c.as_slice.ensures i) (c.as_slice-in-loop-case.ensures i))) (c.loop-case.invariant ms are)

pub flat_cases-returns : goal.flat_cases-returns
flat_cases-returns t c =
    if_ok _ _ c.behind_discriminant.result (λ o e ms are. e ∙ ap (λ (fs : List FlatType). upto 16 (I32 ∷ fs)) (c.as_slice-2.ensures ∙ all_widened c.args.types.now (width c.args.memory64) ms c.args.cases.now c.loop-case.case-index c.loop-case.any (omega (arith, c.loop-case-test.false)) (c.loop-case.invariant ms are))) c.behind_discriminant.ensures

pub flat_members-flat_member-requires : goal.flat_members-flat_member-requires
flat_members-flat_member-requires t c = (omega (arith, c.decreases), λ y e. member_within c.args.types.now c.args.owner.now c.args.members.now c.loop-member.member-index y c.requires c.loop-member-test.true e)

pub flat_members-returns-in_default : goal.flat_members-returns-in_default
flat_members-returns-in_default t c =
    λ ms are. not_flattened c.args.types.now (width c.args.memory64) ms c.args.members.now c.loop-member.member-index c.loop-member.all.items c.in_ok-flat.field-0 c.loop-member-test.true (get_or c.args.members.now c.loop-member.member-index None) refl (c.in_ok-flat.ensures.none, c.in_ok-flat.ensures.some) c.in_default.is (c.loop-member.invariant.1 ms are)

pub flat_members-loop-member-preserved : goal.flat_members-loop-member-preserved
flat_members-loop-member-preserved t c = (
  omega (arith, c.if-len-gt-MAX_FLAT_TYPES.false, c.len.ensures),
  λ ms are. flattened_on c.args.types.now (width c.args.memory64) ms c.args.members.now c.loop-member.member-index c.loop-member.all.items c.in_ok-flat.field-0 c.loop-member-test.true (get_or c.args.members.now c.loop-member.member-index None) refl (c.in_ok-flat.ensures.none, c.in_ok-flat.ensures.some) c.in-Some.flat c.in-Some.is c.extend_from_slice.new.self.items
      (c.in_ok-extend_from_slice.ensures.items ∙ ap (λ l. c.loop-member.all.items ++ l) c.as_slice.ensures) (c.loop-member.invariant.1 ms are),
)
