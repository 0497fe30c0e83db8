use Rattle.std.proofs.Common.{◌∙◌, ap, sym, None, Some}
use Rattle.fact_values.specs.Handles.{flags_named}
use Rattle.fact_abi.proofs.WalkLaws.{flags_gives}
use Rattle.fact_abi.proofs.carrying.cross_flags.Goals as goal

pub returns-in-None : goal.returns-in-None
returns-in-None c =
    λ ns left n. flags_gives c.args.value.now c.in-Flags.flags c.args.names.now ns None left c.in-Flags.is n
    (sym c.in-None.is ∙ c.in_ok-ordered.ensures ∙ ap (λ x. flags_named x c.as_slice-flags.result.now) c.as_slice-names.ensures ∙ ap (flags_named c.args.names.now) c.as_slice-flags.ensures)

pub returns-in-Some : goal.returns-in-Some
returns-in-Some c =
    λ ns left n. flags_gives c.args.value.now c.in-Flags.flags c.args.names.now ns (Some c.in-Some.ordered) left c.in-Flags.is n
    (sym c.in-Some.is ∙ c.in_ok-ordered.ensures ∙ ap (λ x. flags_named x c.as_slice-flags.result.now) c.as_slice-names.ensures ∙ ap (flags_named c.args.names.now) c.as_slice-flags.ensures)
