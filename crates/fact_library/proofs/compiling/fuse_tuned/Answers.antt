use Rattle.std.proofs.Common.{subst}
use Rattle.fact_module.specs.Fused.{IsFused}
use Rattle.fact_library.proofs.compiling.fuse_tuned.Goals as goal

pub returns-in-Ok : goal.returns-in-Ok
returns-in-Ok c = λ p debug fuel is.
    let f = c.in-Ok.fused in
    let made = subst (IsFused f) is c.in-Ok.ensures.fused in
    record {
      fused = made;
      is_only = λ m r s. c.bytes_spell_one_module.ensures f.bytes m f.«module» r made.in_range s made.spelled;
      accepted = c.in-Ok.ensures.accepted;
    }
