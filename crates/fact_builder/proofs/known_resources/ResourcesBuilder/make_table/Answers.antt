use Rattle.std.proofs.Common.{sym, ◌∙◌, ◌≡◌, ap, arith}
use Rattle.std.specs.Prelude.{Ok, Err, nat_eq}
use Rattle.indexmap.specs.IndexMap.{insert_entry}
use Rattle.fact_entity.specs.declared.error.PushError.TheVariants.{TooLarge}
use Rattle.fact_builder.proofs.RegisterLaws.{on_ok, put_table}
use Rattle.fact_builder.proofs.known_resources.ResourcesBuilder.make_table.Goals as goal

pub returns-clause-made : goal.returns-clause-made
returns-clause-made c =
    let put = on_ok _ c.insert.result (c.insert.ensures.succeeds (omega (arith, c.in_ok-reserve.ensures.ok))) c.insert.ensures.entries in record {
      table = c.in_ok-table.table;
      asked = sym c.in_ok-table.ensures;
      room = λ full. let both : Ok c.in_ok-index.index ≡ Err TooLarge = c.in_ok-index.ensures.too_large.1 full in cc;
      place = c.in_ok-index.ensures.key;
      kept = put_table _ _ c.self.view_is _ c.args.id _ c.requires (put ∙ ap (λ es. insert_entry (λ a b. nat_eq a.number b.number) es c.args.id c.in_ok-index.index) c.in_ok-reserve.ensures.entries);
      added = c.in_ok-index.ensures.table;
    }
