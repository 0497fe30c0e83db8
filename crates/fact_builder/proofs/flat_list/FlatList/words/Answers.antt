use Rattle.std.proofs.Common.{sym, ◌∙◌, ap, arith}
use Rattle.std.specs.Prelude.{Some, replicate}
use Rattle.fact_types.specs.declared.flats.FlatType.TheVariants.{I32}
use Rattle.fact_builder.proofs.FlatLaws.{first_words, word_count, within}
use Rattle.fact_builder.proofs.flat_list.FlatList.words.Goals as goal

pub returns : goal.returns
returns c =
    let few = c.if-count-gt-MAX_FLAT_TYPES.false in
    ap Some (first_words c.args.count 16 I32 few) ∙ sym (within (replicate c.args.count I32) (omega (arith, few, word_count c.args.count I32)))
