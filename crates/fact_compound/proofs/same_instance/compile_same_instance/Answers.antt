use Rattle.std.proofs.Common.{ap}
use Rattle.fact_types.specs.declared.signature.SideSig.{SideSig}
use Rattle.fact_compound.proofs.SameInstanceFunctions.{IsLowerSide, compiled_same_instance}
use Rattle.fact_compound.proofs.same_instance.compile_same_instance.Goals as goal

pub returns : goal.returns
returns c =
    let place = rw (c.as_slice.ensures, c.as_slice-2.ensures) at c.in_ok-ty.ensures.place in
    let has = rw (c.as_slice.ensures, c.as_slice-2.ensures) at c.in_ok-ty.ensures.types in
    let exported = rw c.as_str.ensures at c.in_ok-export.ensures.exported in
    let sig = c.side_sig.ensures in
    let of : IsLowerSide c.side_sig.result c.args.adapter.now = record { ty_is = ap (λ (s : SideSig). s.ty) sig; mark = ap (λ (s : SideSig). s.async_) sig; wide = ap (λ (s : SideSig). s.memory64) sig } in
    compiled_same_instance c.side_sig.result c.in_ok-lower.ensures of place has c.in_ok-ty.ensures.keeps c.in_ok-ty.ensures.once c.in_ok-function.ensures c.in_ok-number.ensures.number c.in_ok-number.ensures.defined exported
