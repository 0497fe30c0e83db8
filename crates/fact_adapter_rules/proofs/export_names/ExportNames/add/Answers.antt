use Rattle.std.specs.Str.{bytes_eq}
use Rattle.std.proofs.Common.{sym, subst, ◌∙◌, Contains}
use Rattle.std.proofs.lemmas.Bool.{not-false}
use Rattle.std.proofs.lemmas.Map.Made.{AllPairs-from_IsDistinct}
use Rattle.std.proofs.lemmas.Slice.Eq.{bytes_eq-Decides}
use Rattle.indexmap.proofs.CallerLemmas.{Contains-list_any}
use Rattle.fact_adapter_rules.proofs.export_names.ExportNames.add.Goals as goal

pub returns-in_err-insert-clause-distinct : goal.returns-in_err-insert-clause-distinct
returns-in_err-insert-clause-distinct c = AllPairs-from_IsDistinct bytes_eq-Decides c.insert.new.self.keys c.insert.ensures.unique

pub returns-clause-distinct : goal.returns-clause-distinct
returns-clause-distinct c = AllPairs-from_IsDistinct bytes_eq-Decides c.insert.new.self.keys c.insert.ensures.unique

pub returns-clause-known : goal.returns-clause-known
returns-clause-known c = λ known.
    let any = not-false _ (sym c.in_ok-insert.ensures.added ∙ known) in
    subst (λ names. Contains names c.args.name) c.self.view_is (Contains-list_any bytes_eq (λ x y. (bytes_eq-Decides x y).0) c.self.inside.names.keys c.args.name any)
