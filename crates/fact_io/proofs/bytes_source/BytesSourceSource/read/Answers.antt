use Rattle.std.proofs.Common.{◌+◌, arith, drop-drop}
use Rattle.std.proofs.lemmas.Grind.{common_steps}
use Rattle.std.proofs.lemmas.List.{drop_all, take_rest}
use Rattle.fact_io.proofs.Pieces.{Consumes-front}
use Rattle.fact_io.proofs.bytes_source.BytesSourceSource.read.Goals as goal

pub returns-clause-bytes : goal.returns-clause-bytes
returns-clause-bytes c =
    let bytes = c.self.inside.bytes.items in
    rw (← c.self.view_is) (
      Consumes-front bytes _ c.self.inside.at c.copy_front-count.result (grind (arith, common_steps)),
      λ none some. drop_all (c.self.inside.at + c.copy_front-count.result) bytes (grind (arith, common_steps)),
    )

pub returns-clause-count : goal.returns-clause-count
returns-clause-count c =
    rw (← c.self.view_is, ← c.deref-2.ensures.value, ← take_rest c.deref-2.result.now c.self.inside.at) c.copy_front-count.ensures.count

pub returns-clause-ok : goal.returns-clause-ok
returns-clause-ok c =
    rw (← c.self.view_is) (cc (drop-drop c.copy_front-count.result c.self.inside.at c.self.inside.bytes.items, c.count_call.ensures.counted))
