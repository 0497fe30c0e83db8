-- Cited by private clauses alone.
-- What the encoder and the ranges see of an instruction.
use Rattle.std.specs.Prelude.{◌≡◌, ℕ, List, [], ◌∷◌, ◌++◌, ◌<◌, length, map}
use Rattle.std.specs.List.{AllByRecursion}
use Rattle.fact_binary.specs.declared.code.Operands.{Operands}
use Rattle.fact_binary.specs.declared.code.Operands.TheVariants as o
use Rattle.fact_binary.specs.declared.code.Bodies.{Bodies}
use Rattle.fact_binary.specs.declared.code.Bodies.TheVariants as b
use Rattle.fact_wasm.specs.declared.instr.Instr.{Instr}
use Rattle.fact_wasm.specs.Ranges.{Point, Named, Placed, Otherwise, body_points, points}
use Rattle.fact_binary.specs.Grammar.{Arg, InstrNode, Nodes, Nil, Leaf, Nest, Choice, Typ, Index, Int32, Int64, Float32, Float64, Memory, Labels, Catches, Flat, Body, Bodies as TwoBodies, kind, body_nodes, function_index, opcode, shape}

abbrev pub immediates : ℕ → Operands → List Arg
immediates n o.None = []
immediates n (o.Index k) = Index k ∷ []
immediates n (o.Func f) = Index (function_index n f) ∷ []
immediates n (o.Int32 x) = Int32 x ∷ []
immediates n (o.Int64 x) = Int64 x ∷ []
immediates n (o.Float32 x) = Float32 x ∷ []
immediates n (o.Float64 x) = Float64 x ∷ []
immediates n (o.Memory m) = Memory m ∷ []
immediates n (o.Labels ls l) = Labels ls.now ∷ Index l ∷ []
immediates n (o.Body t body) = Typ t ∷ []
immediates n (o.Catching t ls body) = Typ t ∷ Catches ls.now ∷ []
immediates n (o.If t body) = Typ t ∷ []
immediates n (o.IfElse t body other) = Typ t ∷ []

-- the node is the row of its opcode with these immediates, and the table has this row
abbrev IsLeaf : List Arg → InstrNode → Type 0
IsLeaf xs nd = (nd ≡ Leaf (opcode nd) xs) × (shape (opcode nd) ≡ Flat (map kind xs))

abbrev IsNest : List Arg → Nodes → InstrNode → Type 0
IsNest xs body nd = (nd ≡ Nest (opcode nd) xs body) × (shape (opcode nd) ≡ Body (map kind xs))

abbrev IsChoice : List Arg → Nodes → Nodes → InstrNode → Type 0
IsChoice xs body other nd = (nd ≡ Choice (opcode nd) xs body other) × (shape (opcode nd) ≡ TwoBodies (map kind xs))

abbrev pub Shown : ℕ → Operands → InstrNode → Type 0
Shown n (o.Body t body) nd = IsNest (Typ t ∷ []) (body_nodes n body.now) nd
Shown n (o.Catching t ls body) nd = IsNest (Typ t ∷ Catches ls.now ∷ []) (body_nodes n body.now) nd
Shown n (o.If t body) nd = IsChoice (Typ t ∷ []) (body_nodes n body.now) Nil nd
Shown n (o.IfElse t body other) nd = IsChoice (Typ t ∷ []) (body_nodes n body.now) (body_nodes n other.now) nd
Shown n os nd = IsLeaf (immediates n os) nd

-- the same by the number of bodies
abbrev pub IsEncodedRow : ℕ → List Arg → Bodies → InstrNode → Type 0
IsEncodedRow n xs b.None nd = IsLeaf xs nd
IsEncodedRow n xs (b.One body) nd = IsNest xs (body_nodes n body.now) nd
IsEncodedRow n xs (b.Two body other) nd = IsChoice xs (body_nodes n body.now) (body_nodes n other.now) nd

-- what of the operands has a range of its own
abbrev pub points_of : Operands → List Point
points_of (o.Func f) = Named f ∷ []
points_of (o.Memory m) = Placed m ∷ []
points_of (o.Body t body) = body_points body.now
points_of (o.Catching t labels body) = body_points body.now
points_of (o.If t body) = body_points body.now
points_of (o.IfElse t body other) = Otherwise (length other.now) ∷ (body_points body.now ++ body_points other.now)
points_of _ = []

-- each alignment's exponent is below 64
abbrev pub IsAligned : Point → Type 0
IsAligned (Placed m) = m.align < 64
IsAligned _ = Unit {0}

abbrev pub ArePlaced : List Instr → Type 0
ArePlaced is = AllByRecursion (λ i. AllByRecursion IsAligned (points i)) is

abbrev pub AreBodiesPlaced : Bodies → Type 0
AreBodiesPlaced b.None = Unit {0}
AreBodiesPlaced (b.One body) = ArePlaced body.now
AreBodiesPlaced (b.Two body other) = ArePlaced body.now × ArePlaced other.now
