use Rattle.std.proofs.Common.{Some, ap, refl, sym, ◌∙◌}
use Rattle.std.specs.Option.{option_copied}
use Rattle.fact_emit.specs.contracts.sections.ModuleSections.{the_view}
use Rattle.fact_emit.proofs.StateLaws.{memory-there, memory-untold}
use Rattle.fact_emit.proofs.sections.ModuleSections.memory_def.Goals as goal

pub unreachable-requires : goal.unreachable-requires
unreachable-requires c =
    memory-untold _ _ _ _ c.self.invariant _ c.args.place.number (sym c.get.ensures.value ∙ ap option_copied c.in-Some-Runtime.is ∙ ap Some c.in-Some-Runtime.field-0-is) _ refl

pub unreachable-requires-in-Some-Transcoder : goal.unreachable-requires-in-Some-Transcoder
unreachable-requires-in-Some-Transcoder c =
    memory-untold _ _ _ _ c.self.invariant _ c.args.place.number (sym c.get.ensures.value ∙ ap option_copied c.in-Some-Transcoder.is ∙ ap Some c.in-Some-Transcoder.field-0-is) _ refl

pub unreachable-requires-in-Some-StartCall : goal.unreachable-requires-in-Some-StartCall
unreachable-requires-in-Some-StartCall c =
    memory-untold _ _ _ _ c.self.invariant _ c.args.place.number (sym c.get.ensures.value ∙ ap option_copied c.in-Some-StartCall.is ∙ ap Some c.in-Some-StartCall.field-0-is) _ refl

pub unreachable-requires-in-Some-PrepareCall : goal.unreachable-requires-in-Some-PrepareCall
unreachable-requires-in-Some-PrepareCall c =
    memory-untold _ _ _ _ c.self.invariant _ c.args.place.number (sym c.get.ensures.value ∙ ap option_copied c.in-Some-PrepareCall.is ∙ ap Some c.in-Some-PrepareCall.field-0-is) _ refl

pub returns : goal.returns
returns c = memory-there (the_view c.self.inside) c.args.self.now c.self.view_is _ _ _ c.self.invariant c.in-Some-Def.def c.args.place.number (sym c.get.ensures.value ∙ ap option_copied c.in-Some-Def.is ∙ ap Some c.in-Some-Def.field-0-is)
