use Rattle.std.proofs.Common.{◌∙◌, sym}
use Rattle.fact_values.specs.Places.{width_of}
use Rattle.fact_abi.proofs.KindLaws.{if_ok}
use Rattle.fact_lowering.proofs.TuplesDone.{behind_or_lacks, each_flat, flat_or_lacks}
use Rattle.fact_lowering.proofs.tuples.lower_tuple.Goals as goal

pub lower_flat-requires-clause-flat : goal.lower_flat-requires-clause-flat
lower_flat-requires-clause-flat c = λ ss h. (_, each_flat (width_of c.args.to.now.side) c.args.limit ss _ (sym c.in-Some.is ∙ c.in_ok-_flat.ensures ss h))

pub returns-in-Some : goal.returns-in-Some
returns-in-Some c =
    if_ok _ _ c.lower_flat.result (λ o e ss h. flat_or_lacks c.args.to.now.side c.args.limit ss c.args.values.now _ o c.args.store.now.cursor c.lower_flat.new.store.cursor c.args.store.now.bytes.items c.lower_flat.new.store.bytes.items (sym c.in-Some.is ∙ c.in_ok-_flat.ensures ss h) (e ss h)) c.lower_flat.ensures

pub returns-in-None : goal.returns-in-None
returns-in-None c =
    if_ok _ _ c.lower_behind.result (λ o e ss h. behind_or_lacks c.args.to.now.side c.args.limit ss c.args.values.now o c.args.store.now.cursor c.lower_behind.new.store.cursor c.args.store.now.bytes.items c.lower_behind.new.store.bytes.items (sym c.in-None.is ∙ c.in_ok-_flat.ensures ss h) (e ss h)) c.lower_behind.ensures
