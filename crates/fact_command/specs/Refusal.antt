-- The line that tells why a plan is refused.
use Rattle.std.specs.Prelude.{ℕ, List, [], ◌∷◌, ◌++◌, codes}
use Rattle.std.specs.Fmt.{decimal}
use Rattle.fact_plan_types.specs.declared.error.Place.{Place}
use Rattle.fact_plan_types.specs.declared.error.Place.TheVariants.{TypeEntry, Func, Adapter}
use Rattle.fact_plan_types.specs.Faults.{Fault, unknown_index, bad_type, too_large, bad_options, type_mismatch, bad_memory, bad_signature, import_conflict, duplicate_name}

-- the name of a fault
abbrev pub fault_name : Fault → List ℕ
fault_name unknown_index = codes "UnknownIndex"
fault_name bad_type = codes "BadType"
fault_name too_large = codes "TooLarge"
fault_name bad_options = codes "BadOptions"
fault_name type_mismatch = codes "TypeMismatch"
fault_name bad_memory = codes "BadMemory"
fault_name bad_signature = codes "BadSignature"
fault_name import_conflict = codes "ImportConflict"
fault_name duplicate_name = codes "DuplicateName"

-- `refused: NAME at LIST N` and a newline, N in decimal
abbrev pub place_line : List ℕ → Place → List ℕ
place_line name (TypeEntry n) = codes "refused: " ++ (name ++ (codes " at type " ++ (decimal n ++ 10 ∷ [])))
place_line name (Func n) = codes "refused: " ++ (name ++ (codes " at function " ++ (decimal n ++ 10 ∷ [])))
place_line name (Adapter n) = codes "refused: " ++ (name ++ (codes " at adapter " ++ (decimal n ++ 10 ∷ [])))

-- the line that tells a fault at a place
abbrev pub refusal_line : Fault → Place → List ℕ
refusal_line f place = place_line (fault_name f) place
