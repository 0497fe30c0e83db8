use Rattle.std.proofs.Common.{◌≡◌, ◌⊎◌, ℕ, List, refl, sym, ◌∙◌, inl, inr}
use Rattle.fact_binary.specs.declared.code.Operands.{Operands}
use Rattle.fact_binary.specs.declared.code.Operands.TheVariants as o
use Rattle.fact_wasm.specs.declared.instr.Instr.{Instr, Instr-F, out-Instr, roll-Instr, roll-out-Instr, map-Instr}
use Rattle.fact_wasm.specs.declared.instr.Instr.TheVariants as v
use Rattle.fact_wasm.specs.declared.instr.Instr.TheOpen as layer
use Rattle.fact_binary.specs.Encode.{Shown, points_of}
use Rattle.fact_wasm.specs.Ranges.{Point, points, points_row}
use Rattle.fact_binary.specs.Grammar.{InstrNode, shape, instr_node, node}
use Rattle.fact_wasm.proofs.Layers.{points-layer}
use Rattle.fact_binary.proofs.Layers.{node-layer}
use Rattle.fact_binary.proofs.code.operands_of.Goals as goal
use Rattle.fact_binary.proofs.code.operands_of.Goals.{In_default}

-- what both clauses say
abbrev IsSeen : Operands → Instr → Type 0
IsSeen os i = ((n : ℕ) → Shown n os (node n i)) × (points_of os ≡ points i)

-- of an instruction by its outermost layer
row : {i j : Instr} (os : Operands) (x : Instr-F Instr) → roll-Instr x ≡ j → ((n : ℕ) → Shown n os (instr_node n (map-Instr Instr InstrNode (node n) x)))
    → points_of os ≡ points_row (map-Instr Instr (List Point) points x) → i ≡ j → IsSeen os i
row os x r s p e = (λ n. rw (node-layer _ _ (r ∙ sym e) n) (s n), p ∙ sym (points-layer _ _ (r ∙ sym e)))

infixr 10 ◌or◌
◌or◌ : {A B C : Type 0} → (A → C) → (B → C) → A ⊎ B → C
◌or◌ f g (inl a) = f a
◌or◌ f g (inr b) = g b

seen-index : (c : goal.After-row_known-in-Br-1) → IsSeen (o.Index c.in-Br.n) c.args.instr.now
unfolding shape
seen-index c =
    let os = o.Index c.in-Br.n in
    (row os _ (v.rolls-Br _) (λ n. (refl, refl)) refl
    or row os _ (v.rolls-BrIf _) (λ n. (refl, refl)) refl
    or row os _ (v.rolls-LocalGet _) (λ n. (refl, refl)) refl
    or row os _ (v.rolls-LocalSet _) (λ n. (refl, refl)) refl
    or row os _ (v.rolls-LocalTee _) (λ n. (refl, refl)) refl
    or row os _ (v.rolls-GlobalGet _) (λ n. (refl, refl)) refl
    or row os _ (v.rolls-GlobalSet _) (λ n. (refl, refl)) refl
    or row os _ (v.rolls-MemorySize _) (λ n. (refl, refl)) refl) c.in-Br.is

pub returns-in-Br-clause-shown : goal.returns-in-Br-clause-shown
returns-in-Br-clause-shown c = (seen-index c).0

pub returns-in-Br-clause-points : goal.returns-in-Br-clause-points
returns-in-Br-clause-points c = (seen-index c).1

seen-func : (c : goal.After-result-in-Call-1) → IsSeen (o.Func c.in-Call.func) c.args.instr.now
unfolding shape
seen-func c =
    let os = o.Func c.in-Call.func in
    (row os _ (v.rolls-Call _) (λ n. (refl, refl)) refl
    or row os _ (v.rolls-RefFunc _) (λ n. (refl, refl)) refl) c.in-Call.is

pub returns-in-Call-clause-shown : goal.returns-in-Call-clause-shown
returns-in-Call-clause-shown c = (seen-func c).0

pub returns-in-Call-clause-points : goal.returns-in-Call-clause-points
returns-in-Call-clause-points c = (seen-func c).1

seen-memory : (c : goal.After-result-in-I32Load-1) → IsSeen (o.Memory c.in-I32Load.place) c.args.instr.now
unfolding shape
seen-memory c =
    let os = o.Memory c.in-I32Load.place in
    (row os _ (v.rolls-I32Load _) (λ n. (refl, refl)) refl
    or row os _ (v.rolls-I64Load _) (λ n. (refl, refl)) refl
    or row os _ (v.rolls-F32Load _) (λ n. (refl, refl)) refl
    or row os _ (v.rolls-F64Load _) (λ n. (refl, refl)) refl
    or row os _ (v.rolls-I32Load8S _) (λ n. (refl, refl)) refl
    or row os _ (v.rolls-I32Load8U _) (λ n. (refl, refl)) refl
    or row os _ (v.rolls-I32Load16S _) (λ n. (refl, refl)) refl
    or row os _ (v.rolls-I32Load16U _) (λ n. (refl, refl)) refl
    or row os _ (v.rolls-I32Store _) (λ n. (refl, refl)) refl
    or row os _ (v.rolls-I64Store _) (λ n. (refl, refl)) refl
    or row os _ (v.rolls-F32Store _) (λ n. (refl, refl)) refl
    or row os _ (v.rolls-F64Store _) (λ n. (refl, refl)) refl
    or row os _ (v.rolls-I32Store8 _) (λ n. (refl, refl)) refl
    or row os _ (v.rolls-I32Store16 _) (λ n. (refl, refl)) refl) c.in-I32Load.is

pub returns-in-I32Load-clause-shown : goal.returns-in-I32Load-clause-shown
returns-in-I32Load-clause-shown c = (seen-memory c).0

pub returns-in-I32Load-clause-points : goal.returns-in-I32Load-clause-points
returns-in-I32Load-clause-points c = (seen-memory c).1

pub returns-in-I32Const-clause-shown : goal.returns-in-I32Const-clause-shown
unfolding shape
returns-in-I32Const-clause-shown c = (row (o.Int32 c.in-I32Const.x) _ (v.rolls-I32Const _) (λ n. (refl, refl)) refl c.in-I32Const.is).0

pub returns-in-I32Const-clause-points : goal.returns-in-I32Const-clause-points
unfolding shape
returns-in-I32Const-clause-points c = (row (o.Int32 c.in-I32Const.x) _ (v.rolls-I32Const _) (λ n. (refl, refl)) refl c.in-I32Const.is).1

pub returns-in-I64Const-clause-shown : goal.returns-in-I64Const-clause-shown
unfolding shape
returns-in-I64Const-clause-shown c = (row (o.Int64 c.in-I64Const.x) _ (v.rolls-I64Const _) (λ n. (refl, refl)) refl c.in-I64Const.is).0

pub returns-in-I64Const-clause-points : goal.returns-in-I64Const-clause-points
unfolding shape
returns-in-I64Const-clause-points c = (row (o.Int64 c.in-I64Const.x) _ (v.rolls-I64Const _) (λ n. (refl, refl)) refl c.in-I64Const.is).1

pub returns-in-F32Const-clause-shown : goal.returns-in-F32Const-clause-shown
unfolding shape
returns-in-F32Const-clause-shown c = (row (o.Float32 c.in-F32Const.x) _ (v.rolls-F32Const _) (λ n. (refl, refl)) refl c.in-F32Const.is).0

pub returns-in-F32Const-clause-points : goal.returns-in-F32Const-clause-points
unfolding shape
returns-in-F32Const-clause-points c = (row (o.Float32 c.in-F32Const.x) _ (v.rolls-F32Const _) (λ n. (refl, refl)) refl c.in-F32Const.is).1

pub returns-in-F64Const-clause-shown : goal.returns-in-F64Const-clause-shown
unfolding shape
returns-in-F64Const-clause-shown c = (row (o.Float64 c.in-F64Const.x) _ (v.rolls-F64Const _) (λ n. (refl, refl)) refl c.in-F64Const.is).0

pub returns-in-F64Const-clause-points : goal.returns-in-F64Const-clause-points
unfolding shape
returns-in-F64Const-clause-points c = (row (o.Float64 c.in-F64Const.x) _ (v.rolls-F64Const _) (λ n. (refl, refl)) refl c.in-F64Const.is).1

-- what no arm takes is a row of its opcode alone
seen-none : (c : In_default) (x : Instr-F Instr) → c.args.instr.now ≡ roll-Instr x → IsSeen o.None c.args.instr.now
unfolding shape
seen-none c (layer.Block t b) e = absurd (c.in_default.not-Block t b (e ∙ v.rolls-Block t b))
seen-none c (layer.Loop t b) e = absurd (c.in_default.not-Loop t b (e ∙ v.rolls-Loop t b))
seen-none c (layer.If t b u) e = absurd (c.in_default.not-If t b u (e ∙ v.rolls-If t b u))
seen-none c (layer.TryTable t ls b) e = absurd (c.in_default.not-TryTable t ls b (e ∙ v.rolls-TryTable t ls b))
seen-none c (layer.Br n) e = absurd (c.in_default.not-Br n (e ∙ v.rolls-Br n))
seen-none c (layer.BrIf n) e = absurd (c.in_default.not-BrIf n (e ∙ v.rolls-BrIf n))
seen-none c (layer.LocalGet n) e = absurd (c.in_default.not-LocalGet n (e ∙ v.rolls-LocalGet n))
seen-none c (layer.LocalSet n) e = absurd (c.in_default.not-LocalSet n (e ∙ v.rolls-LocalSet n))
seen-none c (layer.LocalTee n) e = absurd (c.in_default.not-LocalTee n (e ∙ v.rolls-LocalTee n))
seen-none c (layer.GlobalGet n) e = absurd (c.in_default.not-GlobalGet n (e ∙ v.rolls-GlobalGet n))
seen-none c (layer.GlobalSet n) e = absurd (c.in_default.not-GlobalSet n (e ∙ v.rolls-GlobalSet n))
seen-none c (layer.MemorySize n) e = absurd (c.in_default.not-MemorySize n (e ∙ v.rolls-MemorySize n))
seen-none c (layer.BrTable ls l) e = absurd (c.in_default.not-BrTable ls l (e ∙ v.rolls-BrTable ls l))
seen-none c (layer.Call f) e = absurd (c.in_default.not-Call f (e ∙ v.rolls-Call f))
seen-none c (layer.RefFunc f) e = absurd (c.in_default.not-RefFunc f (e ∙ v.rolls-RefFunc f))
seen-none c (layer.I32Load m) e = absurd (c.in_default.not-I32Load m (e ∙ v.rolls-I32Load m))
seen-none c (layer.I64Load m) e = absurd (c.in_default.not-I64Load m (e ∙ v.rolls-I64Load m))
seen-none c (layer.F32Load m) e = absurd (c.in_default.not-F32Load m (e ∙ v.rolls-F32Load m))
seen-none c (layer.F64Load m) e = absurd (c.in_default.not-F64Load m (e ∙ v.rolls-F64Load m))
seen-none c (layer.I32Load8S m) e = absurd (c.in_default.not-I32Load8S m (e ∙ v.rolls-I32Load8S m))
seen-none c (layer.I32Load8U m) e = absurd (c.in_default.not-I32Load8U m (e ∙ v.rolls-I32Load8U m))
seen-none c (layer.I32Load16S m) e = absurd (c.in_default.not-I32Load16S m (e ∙ v.rolls-I32Load16S m))
seen-none c (layer.I32Load16U m) e = absurd (c.in_default.not-I32Load16U m (e ∙ v.rolls-I32Load16U m))
seen-none c (layer.I32Store m) e = absurd (c.in_default.not-I32Store m (e ∙ v.rolls-I32Store m))
seen-none c (layer.I64Store m) e = absurd (c.in_default.not-I64Store m (e ∙ v.rolls-I64Store m))
seen-none c (layer.F32Store m) e = absurd (c.in_default.not-F32Store m (e ∙ v.rolls-F32Store m))
seen-none c (layer.F64Store m) e = absurd (c.in_default.not-F64Store m (e ∙ v.rolls-F64Store m))
seen-none c (layer.I32Store8 m) e = absurd (c.in_default.not-I32Store8 m (e ∙ v.rolls-I32Store8 m))
seen-none c (layer.I32Store16 m) e = absurd (c.in_default.not-I32Store16 m (e ∙ v.rolls-I32Store16 m))
seen-none c (layer.I32Const x) e = absurd (c.in_default.not-I32Const x (e ∙ v.rolls-I32Const x))
seen-none c (layer.I64Const x) e = absurd (c.in_default.not-I64Const x (e ∙ v.rolls-I64Const x))
seen-none c (layer.F32Const x) e = absurd (c.in_default.not-F32Const x (e ∙ v.rolls-F32Const x))
seen-none c (layer.F64Const x) e = absurd (c.in_default.not-F64Const x (e ∙ v.rolls-F64Const x))
seen-none c x e = row o.None x refl (λ n. (refl, refl)) refl e

pub returns-in_default-clause-shown : goal.returns-in_default-clause-shown
returns-in_default-clause-shown c = (seen-none c (out-Instr c.args.instr.now) (sym (roll-out-Instr c.args.instr.now))).0

pub returns-in_default-clause-points : goal.returns-in_default-clause-points
returns-in_default-clause-points c = (seen-none c (out-Instr c.args.instr.now) (sym (roll-out-Instr c.args.instr.now))).1
