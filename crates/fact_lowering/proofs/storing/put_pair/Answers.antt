use Rattle.fact_lowering.proofs.StoreLeaves.{on_ok, pair_put}
use Rattle.fact_lowering.proofs.storing.put_pair.Goals as goal

pub returns-clause-written : goal.returns-clause-written
returns-clause-written c =
    on_ok c.put_number-2.result
    (λ e. pair_put c.args.to.now.side c.args.store.now.bytes.items c.put_number.new.self.bytes.items c.put_number-2.new.self.bytes.items c.args.address c.args.pair.pointer c.args.pair.count c.args.store.now.cursor c.pointer_size-size.result c.pointer_size-size.ensures c.requires.room c.requires.pointer c.requires.count
    c.in_ok-put_number.ensures.bytes e) c.put_number-2.ensures.bytes
