-- A fault of a plan, and what a reader answers.
use Rattle.std.specs.Prelude.{ℕ, ◌≡◌, List, [], ◌∷◌, ◌++◌, codes, Result, Ok, Err, MatchResult}
use Rattle.std.specs.Fmt.{decimal}
use Rattle.fact_plan.specs.declared.fault.PlanFault.{PlanFault}
use Rattle.fact_plan.specs.declared.fault.PlanFault.TheVariants.{OutOfMemory, Missing, UnknownKey, WrongKind, OutOfRange}

-- the same fault, with a path that begins with `front`
abbrev pub under : List ℕ → PlanFault → PlanFault
under front OutOfMemory = OutOfMemory
under front (Missing path) = Missing (front ++ path)
under front (UnknownKey path) = UnknownKey (front ++ path)
under front (WrongKind path) = WrongKind (front ++ path)
under front (OutOfRange path) = OutOfRange (front ++ path)

-- the step of a path into the value of a key: a dot and the key
abbrev pub key_step : List ℕ → List ℕ
key_step key = 46 ∷ key

-- the step of a path into the item at a place: a dot and the place in decimal
abbrev pub place_step : ℕ → List ℕ
place_step n = 46 ∷ decimal n

-- what was read one step inside, seen from outside
abbrev pub at_step : {T : Type 0} → List ℕ → Result T PlanFault → Result T PlanFault
at_step front (Ok x) = Ok x
at_step front (Err e) = Err (under front e)

-- what is read first, and then what is read after it, where that had no fault
infixl 10 ◌>>=◌
abbrev pub ◌>>=◌ : {A B : Type 0} → Result A PlanFault → (A → Result B PlanFault) → Result B PlanFault
Ok x >>= f = f x
Err e >>= f = Err e

-- said of each fault but want of memory
abbrev pub UnlessMemory : PlanFault → Type 0 → Type 0
UnlessMemory OutOfMemory P = Unit {0}
UnlessMemory (Missing path) P = P
UnlessMemory (UnknownKey path) P = P
UnlessMemory (WrongKind path) P = P
UnlessMemory (OutOfRange path) P = P

-- the result is what is wanted, or want of memory
abbrev pub Gives : {T : Type 0} → Result T PlanFault → Result T PlanFault → Type 0
Gives wanted result = MatchResult result (λ x. wanted ≡ Ok x) (λ e. UnlessMemory e (wanted ≡ Err e))

-- a fault that the value has
abbrev pub IsNotMemory : PlanFault → Type 0
IsNotMemory OutOfMemory = ⊥
IsNotMemory (Missing path) = Unit {0}
IsNotMemory (UnknownKey path) = Unit {0}
IsNotMemory (WrongKind path) = Unit {0}
IsNotMemory (OutOfRange path) = Unit {0}

-- `bad WHAT: KIND at PATH` and a newline
abbrev pub told_line : (what kind path : List ℕ) → List ℕ
told_line what kind path = codes "bad " ++ (what ++ (codes ": " ++ (kind ++ (codes " at " ++ (path ++ 10 ∷ [])))))

-- the line that tells a fault of a plan or of a value, which of the two is said by the first word; want of memory has none
abbrev pub fault_line : (what : List ℕ) → PlanFault → List ℕ
fault_line what OutOfMemory = []
fault_line what (Missing path) = told_line what (codes "Missing") path
fault_line what (UnknownKey path) = told_line what (codes "UnknownKey") path
fault_line what (WrongKind path) = told_line what (codes "WrongKind") path
fault_line what (OutOfRange path) = told_line what (codes "OutOfRange") path
