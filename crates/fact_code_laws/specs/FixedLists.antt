-- The code of lists of fixed length from memory to memory: an i32 counts down, and addresses go on.
use Rattle.std.specs.Prelude.{ℕ, Bool, List, [], ◌∷◌, ◌++◌}
use Rattle.fact_wasm.specs.declared.instr.BlockType.TheVariants.{Empty}
use Rattle.fact_wasm.specs.declared.instr.Instr.{Instr}
use Rattle.fact_wasm.specs.declared.instr.Instr.TheVariants as I
use Rattle.fact_code_laws.specs.Lists.{const_code, add_code, bump_code}

-- the address that is so far from another, into a local
abbrev pub offset_code : Bool → (base offset local : ℕ) → List Instr
offset_code memory64 base offset local = I.LocalGet base ∷ const_code memory64 offset ∷ add_code memory64 ∷ I.LocalSet local ∷ []

-- One turn less is left, and where any is, the loop begins again. The number that is added is -1.
abbrev pub again_code : (left : ℕ) → List Instr
again_code left = I.LocalGet left ∷ I.I32Const 4294967295 ∷ I.I32Add ∷ I.LocalTee left ∷ I.BrIf 0 ∷ []

-- a body as many times as a local says, which is at least once
abbrev pub countdown_code : (left : ℕ) → (body : List Instr) → List Instr
countdown_code left body = I.Loop Empty (body ++ again_code left) ∷ []

-- A list of fixed length that is moved from memory to memory: how many elements it has, the bytes from one to the next on both sides,
-- the places of the memories, where the list stands and goes in them, and three locals: for the address of an element at the source,
-- for that at the destination, and for how many elements are left.
pub record FixedMove : Type 0 where
  pub count : ℕ
  pub size1 : ℕ
  pub size2 : ℕ
  pub memory1 : ℕ
  pub base1 : ℕ
  pub offset1 : ℕ
  pub memory2 : ℕ
  pub base2 : ℕ
  pub offset2 : ℕ
  pub source : ℕ
  pub target : ℕ
  pub left : ℕ

-- an element, both addresses go on
abbrev pub fixed_turn : (from64 to64 : Bool) → FixedMove → (element : List Instr) → List Instr
fixed_turn from64 to64 l element = element ++ (bump_code from64 l.source l.size1 ++ bump_code to64 l.target l.size2)

-- its code, by that of an element
abbrev pub fixed_code : (from64 to64 : Bool) → FixedMove → (element : List Instr) → List Instr
fixed_code from64 to64 l element =
    offset_code from64 l.base1 l.offset1 l.source
    ++ (offset_code to64 l.base2 l.offset2 l.target ++ (I.I32Const l.count ∷ I.LocalSet l.left ∷ countdown_code l.left (fixed_turn from64 to64 l element)))
