use Rattle.std.proofs.Common.{length, refl}
use Rattle.std.proofs.lemmas.Option.{slice_get_read, slice_get_within}
use Rattle.fact_call_mode.proofs.ReplyLaws.{few_before, linked_at}
use Rattle.fact_call_mode.proofs.WantsOfMemory.{adapter_wants}
use Rattle.fact_call_mode.proofs.adapters.adapter_at.Goals as goal

pub linked_adapter-requires-clause-few : goal.linked_adapter-requires-clause-few
linked_adapter-requires-clause-few c = few_before c.args.plan.now c.requires.at.0 c.args.place c.requires.faultless c.requires.at.1

pub returns-in-Ok : goal.returns-in-Ok
returns-in-Ok c = λ name at.
    linked_at c.args.plan.now name c.args.types.now c.args.place _ c.in-Ok.adapter c.requires.faultless c.requires.types at
    (slice_get_read c.args.plan.now.adapters (length c.args.plan.now.adapters) c.args.place _ refl (slice_get_within c.args.plan.now.adapters c.args.place _ c.requires.at.1.there) (rw c.as_slice.ensures at c.index-as_slice-place.is)) c.in-Ok.ensures.links

pub want_of_memory-requires : goal.want_of_memory-requires
want_of_memory-requires c = adapter_wants c.args.plan.now c.requires.faultless c.args.place c.in-Err.error c.in-Err.ensures.refused
