use Rattle.std.proofs.Common.{◌+◌, arith, sym, subst, drop, List}
use Rattle.fact_wasm.specs.declared.types.ValType.{ValType}
use Rattle.fact_types.specs.declared.interface.InterfaceType.{InterfaceType}
use Rattle.fact_builder.proofs.FlattenLaws.{Going, going_on, going_over, left_at}
use Rattle.fact_builder.proofs.builder.ComponentTypesBuilder.flatten_types.Goals as goal

pub returns-then-len-max : goal.returns-then-len-max
returns-then-len-max c = λ ss h.
    going_over c.args.self.now.tables c.args.memory64 c.args.max c.args.tys.now (drop (c.loop-ty.ty-index + 1) c.args.tys.now) c.push_flat.new.values
    (subst (λ (vs : List ValType). Going c.args.self.now.tables c.args.memory64 c.args.max c.args.tys.now (drop (c.loop-ty.ty-index + 1) c.args.tys.now) vs) (sym c.in_ok-push_flat.ensures)
    (going_on c.args.self.now.tables c.args.memory64 c.args.max c.args.tys.now _ _ c.loop-ty.values c.in-Some.types.now
    (subst (λ (tys : List InterfaceType). Going c.args.self.now.tables c.args.memory64 c.args.max c.args.tys.now tys c.loop-ty.values) (left_at c.args.tys.now c.loop-ty.ty-index _ c.loop-ty-test.true) c.loop-ty.invariant.going)
    c.in-Some.ensures))
    (omega (arith, c.if-len-max.true, c.len.ensures)) ss h

pub loop-ty-preserved : goal.loop-ty-preserved
loop-ty-preserved c = record {
  going =
      subst (λ (vs : List ValType). Going c.args.self.now.tables c.args.memory64 c.args.max c.args.tys.now (drop (c.loop-ty.ty-index + 1) c.args.tys.now) vs) (sym c.in_ok-push_flat.ensures)
      (going_on c.args.self.now.tables c.args.memory64 c.args.max c.args.tys.now _ _ c.loop-ty.values c.in-Some.types.now
      (subst (λ (tys : List InterfaceType). Going c.args.self.now.tables c.args.memory64 c.args.max c.args.tys.now tys c.loop-ty.values) (left_at c.args.tys.now c.loop-ty.ty-index _ c.loop-ty-test.true) c.loop-ty.invariant.going)
      c.in-Some.ensures);
  few = omega (arith, c.if-len-max.false, c.len.ensures);
}
