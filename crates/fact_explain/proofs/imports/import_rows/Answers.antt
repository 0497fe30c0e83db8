use Rattle.std.proofs.Common.{refl, string_bytes, zip}
use Rattle.std.proofs.lemmas.Option.{slice_get_read}
use Rattle.fact_explain.specs.Imports.{IsImportRow}
use Rattle.fact_explain.proofs.Parted.{parts-all, parts-next, parts-stay, zip-short, zip-past, zip-some}
use Rattle.fact_explain.proofs.imports.import_rows.Goals.{in-Some+in_ok-row+in_ok-push_str, in_default}
use Rattle.fact_explain.proofs.imports.import_rows.Goals as goal

pub loop-k-preserved : goal.loop-k-preserved
loop-k-preserved c = elim c.match-get.branch [
  | in-Some+in_ok-row+in_ok-push_str w ↦
      let here = slice_get_read c.args.imports.now _ _ _ refl c.loop-k-test.true c.index-imports-k.is in
      let told = parts-next (IsImportRow c.args.types.now) c.loop-k.k (zip c.args.imports.now c.args.known.now) (c.index-imports-k.result, w.in-Some.known.now) (string_bytes c.loop-k.text) (string_bytes w.in_ok-row.row) _
      c.loop-k.invariant (zip-some c.args.imports.now c.args.known.now c.loop-k.k _ _ here (slice_get_read c.args.known.now _ _ _ refl w.in-Some.ensures.lookup.3.0 w.in-Some.ensures.lookup.1)) w.in_ok-row.ensures (rw w.deref.ensures at w.in_ok-push_str.ensures.bytes) in
      rw w.text-is told
  | in_default w ↦ rw w.text-is (parts-stay (IsImportRow c.args.types.now) c.loop-k.k (zip c.args.imports.now c.args.known.now) (string_bytes c.loop-k.text) (zip-short c.args.imports.now c.args.known.now c.loop-k.k w.in_default.ensures.lookup.3) c.loop-k.invariant)
]

pub returns : goal.returns
returns c = parts-all (IsImportRow c.args.types.now) c.loop-k.k (zip c.args.imports.now c.args.known.now) _ (zip-past c.args.imports.now c.args.known.now c.loop-k.k c.loop-k-test.false) c.loop-k.invariant
