use Rattle.fact_machine.proofs.Places.{digits, load_after_store, store_keeps_others, store_keeps_length, load_apart, stores_commute}
use Rattle.fact_machine.proofs.memory_laws.laws_of_memory.Goals as goal

pub returns : goal.returns
returns c = record {
  digits = digits;
  load_after_store = load_after_store;
  store_keeps_others = store_keeps_others;
  store_keeps_length = store_keeps_length;
  load_apart = load_apart;
  stores_commute = stores_commute;
}
