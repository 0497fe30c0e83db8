use Rattle.std.proofs.Common.{sym}
use Rattle.fact_explain.proofs.Live.{at-none, at-some}
use Rattle.fact_explain.proofs.LiveShapes.{dead-layout}
use Rattle.fact_explain.proofs.layouts.entry_layout.Goals as goal

pub returns-in_default : goal.returns-in_default
returns-in_default c = λ ss h. at-none _ _ ss _ h (sym c.in_default.ensures.value)

pub returns-then-is_live : goal.returns-then-is_live
returns-then-is_live c = λ ss h. c.canonical_abi.ensures.laid _ (at-some _ _ ss _ _ h (sym c.in-Some.ensures.value))

pub returns-else-is_live : goal.returns-else-is_live
returns-else-is_live c = λ ss h.
    dead-layout _ c.component_types.result.now _ _ c.is_live.result c.if-is_live.false c.component_types.ensures c.is_live.ensures (at-some _ _ ss _ _ h (sym c.in-Some.ensures.value))
