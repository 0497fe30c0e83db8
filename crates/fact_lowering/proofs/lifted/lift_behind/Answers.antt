use Rattle.std.proofs.Common.{◌≡◌, ◌∙◌, ◌+◌, ◌%◌, ◌≤◌, None, length, ap, sym, arith}
use Rattle.fact_types.specs.Tuples.{tuple_of}
use Rattle.fact_values.specs.Places.{extent_on}
use Rattle.fact_abi.proofs.KindLaws.{if_ok}
use Rattle.fact_lowering.proofs.TupleBehind.{tuple_ends}
use Rattle.fact_lowering.proofs.TupleLifts.{behind_pointer, no_pointer, tuple_not_aligned, tuple_not_there, tuple_there}
use Rattle.fact_lowering.proofs.lifted.lift_behind.Goals as goal

pub returns-in_default : goal.returns-in_default
returns-in_default c = λ ss h. no_pointer c.args.from.now.side c.args.bytes.now ss c.args.pointer.now c.in_default.ensures

pub returns-then-address-from-ne0 : goal.returns-then-address-from-ne0
returns-then-address-from-ne0 c = λ ss h.
    behind_pointer c.args.from.now.side c.args.bytes.now ss c.args.pointer.now c.in-Some.address None c.in-Some.ensures
    (tuple_not_aligned c.args.from.now.side c.args.bytes.now ss c.in-Some.address (λ e. c.if-address-from-ne0.true (ap (λ n. c.in-Some.address % n) (c.from.ensures ∙ c.tuple_extent-size.ensures.align ss h) ∙ e)))

pub returns-then-end-bytes : goal.returns-then-end-bytes
returns-then-end-bytes c = λ ss h.
    behind_pointer c.args.from.now.side c.args.bytes.now ss c.args.pointer.now c.in-Some.address None c.in-Some.ensures
    (tuple_not_there c.args.from.now.side c.args.bytes.now ss c.in-Some.address (omega (arith, c.if-end-bytes.true, c.tuple_extent-size.ensures.size ss h)))

pub load_all-requires-clause-there : goal.load_all-requires-clause-there
load_all-requires-clause-there c = λ ss h. omega (arith, c.if-end-bytes.false, c.tuple_extent-size.ensures.size ss h, tuple_ends c.args.from.now.side ss)

pub returns : goal.returns
returns c =
    if_ok _ _ c.load_all.result (λ o e ss h.
    let aligned : c.in-Some.address % (extent_on c.args.from.now.side (tuple_of ss)).align ≡ 0 = ap (λ n. c.in-Some.address % n) (sym (c.from.ensures ∙ c.tuple_extent-size.ensures.align ss h)) ∙ c.if-address-from-ne0.false in
    let there : c.in-Some.address + (extent_on c.args.from.now.side (tuple_of ss)).size ≤ length c.args.bytes.now = omega (arith, c.if-end-bytes.false, c.tuple_extent-size.ensures.size ss h) in
    behind_pointer c.args.from.now.side c.args.bytes.now ss c.args.pointer.now c.in-Some.address o c.in-Some.ensures (tuple_there c.args.from.now.side c.args.bytes.now ss c.in-Some.address o aligned there (e ss h))) c.load_all.ensures
