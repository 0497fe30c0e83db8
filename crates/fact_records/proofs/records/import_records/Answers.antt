use Rattle.std.proofs.Common.{◌<◌, arith, length, string_bytes}
use Rattle.fact_records.proofs.Later.{next-means, next-names}
use Rattle.fact_records.proofs.records.import_records.Goals as goal

pub loop-place-preserved : goal.loop-place-preserved
loop-place-preserved c =
    let within : c.loop-place.place < length c.args.section.now = omega (arith, c.requires, c.loop-place-test.true) in
    record {
      names =
          next-names (string_bytes c.loop-place.text) (string_bytes c.import_record.new.text) c.loop-place.records.items c.push.new.self.items c.args.section.now c.loop-place.place c.in_ok-told.told
          c.index-section-place.result c.in_ok-told.ensures.grown c.loop-place.invariant.names c.in_ok-told.ensures.names c.in_ok-push.ensures.items c.index-section-place.is within;
      means =
          next-means (string_bytes c.loop-place.text) (string_bytes c.import_record.new.text) c.loop-place.records.items c.push.new.self.items c.args.imports.now c.loop-place.place c.in_ok-told.told
          c.index-imports-place.result c.in_ok-told.ensures.grown c.loop-place.invariant.means c.in_ok-told.ensures.means c.in_ok-push.ensures.items c.index-imports-place.is c.loop-place-test.true;
    }
