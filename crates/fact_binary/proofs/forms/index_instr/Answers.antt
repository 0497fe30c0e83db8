use Rattle.fact_wasm.specs.declared.instr.Instr.TheVariants as v
use Rattle.fact_binary.specs.Rebuild.{instr_of}
use Rattle.fact_binary.proofs.Layers.{node-layer}
use Rattle.fact_binary.proofs.forms.index_instr.Goals as goal

pub returns-in-Br-clause-node : goal.returns-in-Br-clause-node
returns-in-Br-clause-node c = rw c.in-Br.is (node-layer _ _ (v.rolls-Br c.args.n))

pub returns-in-Br-clause-own : goal.returns-in-Br-clause-own
unfolding instr_of
returns-in-Br-clause-own c = rw c.in-Br.is (λ m. v.rolls-Br c.args.n)

pub returns-in-BrIf-clause-node : goal.returns-in-BrIf-clause-node
returns-in-BrIf-clause-node c = rw c.in-BrIf.is (node-layer _ _ (v.rolls-BrIf c.args.n))

pub returns-in-BrIf-clause-own : goal.returns-in-BrIf-clause-own
unfolding instr_of
returns-in-BrIf-clause-own c = rw c.in-BrIf.is (λ m. v.rolls-BrIf c.args.n)

pub returns-in-LocalGet-clause-node : goal.returns-in-LocalGet-clause-node
returns-in-LocalGet-clause-node c = rw c.in-LocalGet.is (node-layer _ _ (v.rolls-LocalGet c.args.n))

pub returns-in-LocalGet-clause-own : goal.returns-in-LocalGet-clause-own
unfolding instr_of
returns-in-LocalGet-clause-own c = rw c.in-LocalGet.is (λ m. v.rolls-LocalGet c.args.n)

pub returns-in-LocalSet-clause-node : goal.returns-in-LocalSet-clause-node
returns-in-LocalSet-clause-node c = rw c.in-LocalSet.is (node-layer _ _ (v.rolls-LocalSet c.args.n))

pub returns-in-LocalSet-clause-own : goal.returns-in-LocalSet-clause-own
unfolding instr_of
returns-in-LocalSet-clause-own c = rw c.in-LocalSet.is (λ m. v.rolls-LocalSet c.args.n)

pub returns-in-LocalTee-clause-node : goal.returns-in-LocalTee-clause-node
returns-in-LocalTee-clause-node c = rw c.in-LocalTee.is (node-layer _ _ (v.rolls-LocalTee c.args.n))

pub returns-in-LocalTee-clause-own : goal.returns-in-LocalTee-clause-own
unfolding instr_of
returns-in-LocalTee-clause-own c = rw c.in-LocalTee.is (λ m. v.rolls-LocalTee c.args.n)

pub returns-in-GlobalGet-clause-node : goal.returns-in-GlobalGet-clause-node
returns-in-GlobalGet-clause-node c = rw c.in-GlobalGet.is (node-layer _ _ (v.rolls-GlobalGet c.args.n))

pub returns-in-GlobalGet-clause-own : goal.returns-in-GlobalGet-clause-own
unfolding instr_of
returns-in-GlobalGet-clause-own c = rw c.in-GlobalGet.is (λ m. v.rolls-GlobalGet c.args.n)

pub returns-in-GlobalSet-clause-node : goal.returns-in-GlobalSet-clause-node
returns-in-GlobalSet-clause-node c = rw c.in-GlobalSet.is (node-layer _ _ (v.rolls-GlobalSet c.args.n))

pub returns-in-GlobalSet-clause-own : goal.returns-in-GlobalSet-clause-own
unfolding instr_of
returns-in-GlobalSet-clause-own c = rw c.in-GlobalSet.is (λ m. v.rolls-GlobalSet c.args.n)

pub returns-in-MemorySize-clause-node : goal.returns-in-MemorySize-clause-node
returns-in-MemorySize-clause-node c = rw c.in-MemorySize.is (node-layer _ _ (v.rolls-MemorySize c.args.n))

pub returns-in-MemorySize-clause-own : goal.returns-in-MemorySize-clause-own
unfolding instr_of
returns-in-MemorySize-clause-own c = rw c.in-MemorySize.is (λ m. v.rolls-MemorySize c.args.n)
