use Rattle.std.proofs.Common.{refl}
use Rattle.std.proofs.lemmas.Option.{slice_get-get_or}
use Rattle.fact_adapter_rules.proofs.LinkLaws.{core_type-there, side-links}
use Rattle.fact_adapter_rules.proofs.linking.options_of.Goals as goal

pub bounds-as_slice-side : goal.bounds-as_slice-side
bounds-as_slice-side c = rw c.as_slice.ensures (core_type-there _ _ c.args.side.now c.requires.types c.requires.there)

pub returns : goal.returns
returns c = λ ty at.
    side-links _ _ _ ty _ c.requires.types at (rw c.as_slice.ensures (slice_get-get_or _ _ _ (core_type-there _ _ c.args.side.now c.requires.types c.requires.there)))
    c.in_ok-memory.ensures c.in-Ok.ensures c.in-Ok-def_of.ensures c.in-Ok-def_of-2.ensures (rw c.from_u32.ensures refl) refl refl
