use Rattle.fact_wasm.specs.declared.instr.Instr.TheVariants as v
use Rattle.fact_binary.specs.Rebuild.{instr_of}
use Rattle.fact_binary.proofs.Layers.{node-layer}
use Rattle.fact_binary.proofs.forms.memory_instr.Goals as goal

pub returns-in-I32Load-clause-node : goal.returns-in-I32Load-clause-node
returns-in-I32Load-clause-node c = rw c.in-I32Load.is (node-layer _ _ (v.rolls-I32Load c.args.place))

pub returns-in-I32Load-clause-own : goal.returns-in-I32Load-clause-own
unfolding instr_of
returns-in-I32Load-clause-own c = rw c.in-I32Load.is (λ m. v.rolls-I32Load c.args.place)

pub returns-in-I64Load-clause-node : goal.returns-in-I64Load-clause-node
returns-in-I64Load-clause-node c = rw c.in-I64Load.is (node-layer _ _ (v.rolls-I64Load c.args.place))

pub returns-in-I64Load-clause-own : goal.returns-in-I64Load-clause-own
unfolding instr_of
returns-in-I64Load-clause-own c = rw c.in-I64Load.is (λ m. v.rolls-I64Load c.args.place)

pub returns-in-F32Load-clause-node : goal.returns-in-F32Load-clause-node
returns-in-F32Load-clause-node c = rw c.in-F32Load.is (node-layer _ _ (v.rolls-F32Load c.args.place))

pub returns-in-F32Load-clause-own : goal.returns-in-F32Load-clause-own
unfolding instr_of
returns-in-F32Load-clause-own c = rw c.in-F32Load.is (λ m. v.rolls-F32Load c.args.place)

pub returns-in-F64Load-clause-node : goal.returns-in-F64Load-clause-node
returns-in-F64Load-clause-node c = rw c.in-F64Load.is (node-layer _ _ (v.rolls-F64Load c.args.place))

pub returns-in-F64Load-clause-own : goal.returns-in-F64Load-clause-own
unfolding instr_of
returns-in-F64Load-clause-own c = rw c.in-F64Load.is (λ m. v.rolls-F64Load c.args.place)

pub returns-in-I32Load8S-clause-node : goal.returns-in-I32Load8S-clause-node
returns-in-I32Load8S-clause-node c = rw c.in-I32Load8S.is (node-layer _ _ (v.rolls-I32Load8S c.args.place))

pub returns-in-I32Load8S-clause-own : goal.returns-in-I32Load8S-clause-own
unfolding instr_of
returns-in-I32Load8S-clause-own c = rw c.in-I32Load8S.is (λ m. v.rolls-I32Load8S c.args.place)

pub returns-in-I32Load8U-clause-node : goal.returns-in-I32Load8U-clause-node
returns-in-I32Load8U-clause-node c = rw c.in-I32Load8U.is (node-layer _ _ (v.rolls-I32Load8U c.args.place))

pub returns-in-I32Load8U-clause-own : goal.returns-in-I32Load8U-clause-own
unfolding instr_of
returns-in-I32Load8U-clause-own c = rw c.in-I32Load8U.is (λ m. v.rolls-I32Load8U c.args.place)

pub returns-in-I32Load16S-clause-node : goal.returns-in-I32Load16S-clause-node
returns-in-I32Load16S-clause-node c = rw c.in-I32Load16S.is (node-layer _ _ (v.rolls-I32Load16S c.args.place))

pub returns-in-I32Load16S-clause-own : goal.returns-in-I32Load16S-clause-own
unfolding instr_of
returns-in-I32Load16S-clause-own c = rw c.in-I32Load16S.is (λ m. v.rolls-I32Load16S c.args.place)

pub returns-in-I32Load16U-clause-node : goal.returns-in-I32Load16U-clause-node
returns-in-I32Load16U-clause-node c = rw c.in-I32Load16U.is (node-layer _ _ (v.rolls-I32Load16U c.args.place))

pub returns-in-I32Load16U-clause-own : goal.returns-in-I32Load16U-clause-own
unfolding instr_of
returns-in-I32Load16U-clause-own c = rw c.in-I32Load16U.is (λ m. v.rolls-I32Load16U c.args.place)

pub returns-in-I32Store-clause-node : goal.returns-in-I32Store-clause-node
returns-in-I32Store-clause-node c = rw c.in-I32Store.is (node-layer _ _ (v.rolls-I32Store c.args.place))

pub returns-in-I32Store-clause-own : goal.returns-in-I32Store-clause-own
unfolding instr_of
returns-in-I32Store-clause-own c = rw c.in-I32Store.is (λ m. v.rolls-I32Store c.args.place)

pub returns-in-I64Store-clause-node : goal.returns-in-I64Store-clause-node
returns-in-I64Store-clause-node c = rw c.in-I64Store.is (node-layer _ _ (v.rolls-I64Store c.args.place))

pub returns-in-I64Store-clause-own : goal.returns-in-I64Store-clause-own
unfolding instr_of
returns-in-I64Store-clause-own c = rw c.in-I64Store.is (λ m. v.rolls-I64Store c.args.place)

pub returns-in-F32Store-clause-node : goal.returns-in-F32Store-clause-node
returns-in-F32Store-clause-node c = rw c.in-F32Store.is (node-layer _ _ (v.rolls-F32Store c.args.place))

pub returns-in-F32Store-clause-own : goal.returns-in-F32Store-clause-own
unfolding instr_of
returns-in-F32Store-clause-own c = rw c.in-F32Store.is (λ m. v.rolls-F32Store c.args.place)

pub returns-in-F64Store-clause-node : goal.returns-in-F64Store-clause-node
returns-in-F64Store-clause-node c = rw c.in-F64Store.is (node-layer _ _ (v.rolls-F64Store c.args.place))

pub returns-in-F64Store-clause-own : goal.returns-in-F64Store-clause-own
unfolding instr_of
returns-in-F64Store-clause-own c = rw c.in-F64Store.is (λ m. v.rolls-F64Store c.args.place)

pub returns-in-I32Store8-clause-node : goal.returns-in-I32Store8-clause-node
returns-in-I32Store8-clause-node c = rw c.in-I32Store8.is (node-layer _ _ (v.rolls-I32Store8 c.args.place))

pub returns-in-I32Store8-clause-own : goal.returns-in-I32Store8-clause-own
unfolding instr_of
returns-in-I32Store8-clause-own c = rw c.in-I32Store8.is (λ m. v.rolls-I32Store8 c.args.place)

pub returns-in-I32Store16-clause-node : goal.returns-in-I32Store16-clause-node
returns-in-I32Store16-clause-node c = rw c.in-I32Store16.is (node-layer _ _ (v.rolls-I32Store16 c.args.place))

pub returns-in-I32Store16-clause-own : goal.returns-in-I32Store16-clause-own
unfolding instr_of
returns-in-I32Store16-clause-own c = rw c.in-I32Store16.is (λ m. v.rolls-I32Store16 c.args.place)
