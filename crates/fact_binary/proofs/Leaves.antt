-- The immediates of a row, by its kinds.
use Rattle.std.proofs.Common.{◌≡◌, ℕ, ◌<◌, ◌^◌, List, [], ◌∷◌, ◌++◌, map, refl, sym, ap, ◌∙◌, append_assoc}
use Rattle.std.specs.List.{AllByRecursion}
use Rattle.std.specs.Int.{w32, w64, cast_signed, to_le_bytes}
use Rattle.fact_wasm.specs.declared.instr.BlockType.{BlockType}
use Rattle.fact_wasm.specs.declared.instr.MemArg.{MemArg}
use Rattle.fact_wasm.specs.declared.instr.Instr.{Instr}
use Rattle.fact_wasm.specs.declared.instr.Instr.TheVariants.{I32Const, I64Const, F32Const, F64Const, BrTable}
use Rattle.fact_wasm.specs.declared.instr.Instr.TheVariants as v
use Rattle.fact_binary.specs.declared.forms.LeafRow.{LeafRow}
use Rattle.fact_binary.specs.Numbers.{unsigned, signed}
use Rattle.fact_binary.specs.declared.forms.BodyRow.{BodyRow}
use Rattle.fact_binary.specs.declared.forms.BodyRow.TheVariants as nest
use Rattle.fact_binary.specs.Forms.{body_kinds, leaf_op, leaf_kinds, operands, IsLeafAt}
use Rattle.fact_binary.specs.Grammar.{Arg, Index, Int32, Int64, Float32, Float64, Typ, Memory, Labels, Catches, AnIndex, AnInt32, AnInt64, AFloat32, AFloat64, ATyp, AMemory, SomeLabels, SomeCatches, kind, arg, args, list, catch_all, block_type, memarg, IsArg, IsIndex, IsList, IsBlockType, IsMemArg, Leaf, node}
use Rattle.fact_binary.specs.Rebuild.{instr_of}
use Rattle.fact_binary.proofs.Written.{args-one, args-two}
use Rattle.fact_binary.proofs.Layers.{node-layer}
use Rattle.fact_binary.proofs.Unique.{args-unique}

-- ---- what one or two immediates of given kinds are

module _ (bytes rest : List ℕ) where
  pub one : (a : Arg) (xs : List Arg) → xs ≡ a ∷ [] → bytes ≡ args xs ++ rest → bytes ≡ arg a ++ rest
  one a xs e p = p ∙ ap (λ (ys : List Arg). args ys ++ rest) e ∙ ap (λ (t : List ℕ). t ++ rest) (args-one a)

  pub two : (a b : Arg) (xs : List Arg) → xs ≡ a ∷ b ∷ [] → bytes ≡ args xs ++ rest → bytes ≡ arg a ++ (arg b ++ rest)
  two a b xs e p = p ∙ ap (λ (ys : List Arg). args ys ++ rest) e ∙ ap (λ (t : List ℕ). t ++ rest) (args-two a b) ∙ append_assoc (arg a) (arg b) rest

  pub an_index : (xs : List Arg) → map kind xs ≡ AnIndex ∷ [] → AllByRecursion IsArg xs → bytes ≡ args xs ++ rest → (n : ℕ) × (n < 2 ^ 32) × (bytes ≡ unsigned n ++ rest)
  an_index [] k _ _ = absurd cc
  an_index (Index n ∷ []) k h e = (n, h.0, one (Index n) _ refl e)
  an_index (_ ∷ _) k _ _ = absurd cc

  pub a_memory : (xs : List Arg) → map kind xs ≡ AMemory ∷ [] → AllByRecursion IsArg xs → bytes ≡ args xs ++ rest → (m : MemArg) × IsMemArg m × (bytes ≡ memarg m ++ rest)
  a_memory [] k _ _ = absurd cc
  a_memory (Memory m ∷ []) k h e = (m, h.0, one (Memory m) _ refl e)
  a_memory (_ ∷ _) k _ _ = absurd cc

  pub an_int32 : (xs : List Arg) → map kind xs ≡ AnInt32 ∷ [] → AllByRecursion IsArg xs → bytes ≡ args xs ++ rest → (n : ℕ) × (n < 2 ^ 32) × (bytes ≡ signed (cast_signed w32 n) ++ rest)
  an_int32 [] k _ _ = absurd cc
  an_int32 (Int32 n ∷ []) k h e = (n, h.0, one (Int32 n) _ refl e)
  an_int32 (_ ∷ _) k _ _ = absurd cc

  pub an_int64 : (xs : List Arg) → map kind xs ≡ AnInt64 ∷ [] → AllByRecursion IsArg xs → bytes ≡ args xs ++ rest → (n : ℕ) × (n < 2 ^ 64) × (bytes ≡ signed (cast_signed w64 n) ++ rest)
  an_int64 [] k _ _ = absurd cc
  an_int64 (Int64 n ∷ []) k h e = (n, h.0, one (Int64 n) _ refl e)
  an_int64 (_ ∷ _) k _ _ = absurd cc

  pub a_float32 : (xs : List Arg) → map kind xs ≡ AFloat32 ∷ [] → AllByRecursion IsArg xs → bytes ≡ args xs ++ rest → (n : ℕ) × (n < 2 ^ 32) × (bytes ≡ to_le_bytes w32 n ++ rest)
  a_float32 [] k _ _ = absurd cc
  a_float32 (Float32 n ∷ []) k h e = (n, h.0, one (Float32 n) _ refl e)
  a_float32 (_ ∷ _) k _ _ = absurd cc

  pub a_float64 : (xs : List Arg) → map kind xs ≡ AFloat64 ∷ [] → AllByRecursion IsArg xs → bytes ≡ args xs ++ rest → (n : ℕ) × (n < 2 ^ 64) × (bytes ≡ to_le_bytes w64 n ++ rest)
  a_float64 [] k _ _ = absurd cc
  a_float64 (Float64 n ∷ []) k h e = (n, h.0, one (Float64 n) _ refl e)
  a_float64 (_ ∷ _) k _ _ = absurd cc

  pub some_labels : (xs : List Arg) → map kind xs ≡ SomeLabels ∷ AnIndex ∷ [] → AllByRecursion IsArg xs → bytes ≡ args xs ++ rest
      → (ls : List ℕ) × (n : ℕ) × IsList IsIndex ls × (n < 2 ^ 32) × (bytes ≡ list unsigned ls ++ (unsigned n ++ rest))
  some_labels [] k _ _ = absurd cc
  some_labels (Labels ls ∷ Index n ∷ []) k h e = (ls, n, h.0, h.1.0, two (Labels ls) (Index n) _ refl e)
  some_labels (_ ∷ _) k _ _ = absurd cc

  pub a_type : (xs : List Arg) → map kind xs ≡ ATyp ∷ [] → AllByRecursion IsArg xs → bytes ≡ args xs ++ rest → (t : BlockType) × IsBlockType t × (xs ≡ Typ t ∷ []) × (bytes ≡ block_type t ++ rest)
  a_type [] k _ _ = absurd cc
  a_type (Typ t ∷ []) k h e = (t, h.0, refl, one (Typ t) _ refl e)
  a_type (_ ∷ _) k _ _ = absurd cc

  pub some_catches : (xs : List Arg) → map kind xs ≡ ATyp ∷ SomeCatches ∷ [] → AllByRecursion IsArg xs → bytes ≡ args xs ++ rest
      → (t : BlockType) × (ls : List ℕ) × IsBlockType t × IsList IsIndex ls × (xs ≡ Typ t ∷ Catches ls ∷ []) × (bytes ≡ block_type t ++ (list catch_all ls ++ rest))
  some_catches [] k _ _ = absurd cc
  some_catches (Typ t ∷ Catches ls ∷ []) k h e = (t, ls, h.0, h.1.0, refl, two (Typ t) (Catches ls) _ refl e)
  some_catches (_ ∷ _) k _ _ = absurd cc

  -- the type before a body
  pub head_type : (r : BodyRow) (xs : List Arg) → map kind xs ≡ body_kinds r → AllByRecursion IsArg xs → bytes ≡ args xs ++ rest → (t : BlockType) × (more : List ℕ) × IsBlockType t × (bytes ≡ block_type t ++ more)
  head_type nest.Block xs k h e = let a = a_type xs k h e in (a.0, rest, a.1, a.3)
  head_type nest.Loop xs k h e = let a = a_type xs k h e in (a.0, rest, a.1, a.3)
  head_type nest.TryTable xs k h e = let a = some_catches xs k h e in (a.0, list catch_all a.1 ++ rest, a.2, a.5)

-- ---- a row that was read, and no other

pub leaf_found : (n : ℕ) (r : LeafRow) (bytes rest : List ℕ) (i : Instr) (xs : List Arg) → node n i ≡ Leaf (leaf_op r) xs → instr_of n (Leaf (leaf_op r) xs) ≡ i
    → map kind xs ≡ leaf_kinds r → AllByRecursion IsArg xs → bytes ≡ args xs ++ rest → IsLeafAt n r bytes i rest
leaf_found n r bytes rest i xs e o k h b =
    let same : operands (node n i) ≡ xs = ap operands e in
    record {
      row = e ∙ ap (Leaf (leaf_op r)) (sym same);
      kinds = ap (map kind) same ∙ k;
      fits = rw same h;
      own = ap (instr_of n) e ∙ o;
      spelled = b ∙ ap (λ (ys : List Arg). args ys ++ rest) (sym same);
    }

pub leaf_only : (n : ℕ) (r : LeafRow) (bytes rest : List ℕ) (i : Instr) → IsLeafAt n r bytes i rest
    → (ys : List Arg) (more : List ℕ) → map kind ys ≡ leaf_kinds r → AllByRecursion IsArg ys → bytes ≡ args ys ++ more → (node n i ≡ Leaf (leaf_op r) ys) × (rest ≡ more)
leaf_only n r bytes rest i f ys more k h b =
    let u = args-unique (operands (node n i)) ys rest more (f.kinds ∙ sym k) f.fits h (sym f.spelled ∙ b) in
    (f.row ∙ ap (Leaf (leaf_op r)) u.0, u.1)

pub node-I32Const : (n x : ℕ) → node n (I32Const x) ≡ Leaf 0x41 (Int32 x ∷ [])
node-I32Const n x = node-layer _ _ (v.rolls-I32Const x) n

pub node-I64Const : (n x : ℕ) → node n (I64Const x) ≡ Leaf 0x42 (Int64 x ∷ [])
node-I64Const n x = node-layer _ _ (v.rolls-I64Const x) n

pub node-F32Const : (n x : ℕ) → node n (F32Const x) ≡ Leaf 0x43 (Float32 x ∷ [])
node-F32Const n x = node-layer _ _ (v.rolls-F32Const x) n

pub node-F64Const : (n x : ℕ) → node n (F64Const x) ≡ Leaf 0x44 (Float64 x ∷ [])
node-F64Const n x = node-layer _ _ (v.rolls-F64Const x) n

pub node-BrTable : (n : ℕ) (ls : List ℕ) (l : ℕ) → node n (BrTable ls l) ≡ Leaf 0x0E (Labels ls ∷ Index l ∷ [])
node-BrTable n ls l = node-layer _ _ (v.rolls-BrTable ls l) n

pub own-I32Const : (n x : ℕ) → instr_of n (Leaf 0x41 (Int32 x ∷ [])) ≡ I32Const x
unfolding instr_of
own-I32Const n x = v.rolls-I32Const x

pub own-I64Const : (n x : ℕ) → instr_of n (Leaf 0x42 (Int64 x ∷ [])) ≡ I64Const x
unfolding instr_of
own-I64Const n x = v.rolls-I64Const x

pub own-F32Const : (n x : ℕ) → instr_of n (Leaf 0x43 (Float32 x ∷ [])) ≡ F32Const x
unfolding instr_of
own-F32Const n x = v.rolls-F32Const x

pub own-F64Const : (n x : ℕ) → instr_of n (Leaf 0x44 (Float64 x ∷ [])) ≡ F64Const x
unfolding instr_of
own-F64Const n x = v.rolls-F64Const x

pub own-BrTable : (n : ℕ) (ls : List ℕ) (l : ℕ) → instr_of n (Leaf 0x0E (Labels ls ∷ Index l ∷ [])) ≡ BrTable ls l
unfolding instr_of
own-BrTable n ls l = v.rolls-BrTable ls l
