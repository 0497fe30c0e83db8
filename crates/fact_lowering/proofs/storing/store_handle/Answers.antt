use Rattle.fact_lowering.proofs.StoreLeaves.{handle_stored}
use Rattle.fact_lowering.proofs.storing.store_handle.Goals as goal

pub returns : goal.returns
returns c = handle_stored c.args.value.now c.in-Handle.kind c.in-Handle.table c.in-Handle.number c.from.result c.args.address c.args.store.now.cursor c.put_number.new.self.cursor c.args.store.now.bytes.items c.put_number.new.self.bytes.items c.in-Handle.is c.from.ensures c.requires.room
    c.in_ok-put_number.ensures.bytes c.in_ok-put_number.ensures.cursor
