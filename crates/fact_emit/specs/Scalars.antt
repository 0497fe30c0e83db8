-- Numbers that are made canonical, and numbers that are tested; moves of scalars.
use Rattle.std.specs.Prelude.{◌≡◌, ◌≢◌, ℕ, ◌-◌, ◌%◌, ◌^◌, ◌≤◌, nat_lt, Bool, List, [], ◌∷◌, true}
use Rattle.fact_wasm.specs.declared.instr.Instr.{Instr}
use Rattle.fact_wasm.specs.declared.instr.Instr.TheVariants as I
use Rattle.fact_types.specs.declared.interface.InterfaceType.{InterfaceType}
use Rattle.fact_types.specs.declared.interface.InterfaceType.TheVariants as ty
use Rattle.fact_types.specs.declared.outside.Trap.{Trap}
use Rattle.fact_types.specs.declared.outside.Trap.TheVariants.{InvalidChar, InvalidDiscriminant}
use Rattle.fact_types.specs.Shapes.{s_plain}
use Rattle.fact_values.specs.Numbers.{is_scalar_value}
use Rattle.fact_actions.specs.Actions.{Visit, unless}
use Rattle.fact_actions.specs.Moves.{canonical_number, move_number}
use Rattle.fact_actions.specs.Sides.{read_number, write_number}
use Rattle.fact_code_laws.specs.Places.{Number, N8, N16, N32, N64, size_of, From, To}
use Rattle.fact_code_laws.specs.Tests.{scalar_test, case_test}
use Rattle.fact_emit.specs.declared.places.Sides.{Sides}
use Rattle.fact_emit.specs.declared.scalars.Canonical.{Canonical}
use Rattle.fact_emit.specs.declared.scalars.Canonical.TheVariants.{AsIs, Truth, Signed8, Signed16, Low}
use Rattle.fact_emit.specs.declared.scalars.NumberTest.{NumberTest}
use Rattle.fact_emit.specs.declared.scalars.NumberTest.TheVariants.{ScalarValue, CaseBelow}
use Rattle.fact_emit.specs.declared.writer.Writer.{Writer}
use Rattle.fact_emit.specs.Emits.{Grew, Emits}
use Rattle.fact_emit.specs.Fitting.{MovesNode}
use Rattle.fact_emit.specs.Movable.{is_scalar}
use Rattle.fact_emit.specs.MovesValue.{Act}
use Rattle.fact_emit.specs.Writers.{taken_in}

-- ---- canonical numbers

abbrev pub canonical_code : Canonical → List Instr
canonical_code AsIs = []
canonical_code Truth = I.I32Const 0 ∷ I.I32Ne ∷ []
canonical_code Signed8 = I.I32Extend8S ∷ []
canonical_code Signed16 = I.I32Extend16S ∷ []
canonical_code (Low bits) = I.I32Const (2 ^ bits - 1) ∷ I.I32And ∷ []

abbrev pub canonical_of : Canonical → ℕ → ℕ
canonical_of AsIs n = n
canonical_of Truth n = canonical_number ty.Bool n
canonical_of Signed8 n = canonical_number ty.S8 n
canonical_of Signed16 n = canonical_number ty.S16 n
canonical_of (Low bits) n = n % 2 ^ bits

-- numbers that it makes canonical
abbrev pub IsCanonicalFor : Canonical → Number → Type 0
IsCanonicalFor AsIs n = Unit {0}
IsCanonicalFor Truth n = n ≡ N8
IsCanonicalFor Signed8 n = n ≡ N8
IsCanonicalFor Signed16 n = n ≡ N16
IsCanonicalFor (Low bits) n = (n ≢ N64) × (bits ≤ 32)

-- a node that is one number
abbrev pub number_moves : Number → (ℕ → ℕ) → Act
number_moves n f tr s d = Visit 1 (move_number tr (size_of n) (size_of n) f s d)

-- ---- numbers that are tested

abbrev pub passes_test : NumberTest → ℕ → Bool
passes_test ScalarValue n = is_scalar_value n
passes_test (CaseBelow cases) n = nat_lt n cases

abbrev pub code_of_test : NumberTest → (local : ℕ) → List Instr
code_of_test ScalarValue local = scalar_test local
code_of_test (CaseBelow cases) local = case_test cases local

abbrev pub trap_of_test : NumberTest → Trap
trap_of_test ScalarValue = InvalidChar
trap_of_test (CaseBelow cases) = InvalidDiscriminant

-- a node that is one number, with a trap where it does not pass a test
abbrev pub tested_moves : Number → NumberTest → Act
tested_moves n t tr s d = Visit 1 (read_number tr.debug tr.from (size_of n) s (λ x. unless (trap_of_test t) (passes_test t x) (write_number tr.to (size_of n) d x)))

-- ---- scalar types

abbrev pub size_of_type : InterfaceType → Number
size_of_type ty.Bool = N8
size_of_type ty.S8 = N8
size_of_type ty.U8 = N8
size_of_type ty.S16 = N16
size_of_type ty.U16 = N16
size_of_type ty.S64 = N64
size_of_type ty.U64 = N64
size_of_type ty.Float64 = N64
size_of_type _ = N32

abbrev pub canonical_for : InterfaceType → Canonical
canonical_for ty.Bool = Truth
canonical_for ty.S8 = Signed8
canonical_for ty.U8 = Low 8
canonical_for ty.S16 = Signed16
canonical_for ty.U16 = Low 16
canonical_for _ = AsIs

-- Code was written that moves values of a type behind the checks of their places, where it is a scalar.
pub record MovedScalar (a : InterfaceType) (sides : Sides) (src : From) (dst : To) (old new : Writer) : Type 0 where
  pub grew : Grew old new
  pub emits : is_scalar a ≡ true → Emits old new (MovesNode sides src dst (taken_in old) (s_plain a) (s_plain a))
