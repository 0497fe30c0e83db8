-- Cited by private clauses alone.
-- The types of fields by their names.
use Rattle.std.specs.Prelude.{◌≡◌, ℕ, List, [], ◌∷◌, Option, Some, None, map, if◌then◌else◌}
use Rattle.std.specs.Str.{bytes_eq}
use Rattle.indexmap.specs.IndexMap.{IndexMap, get_by}
use Rattle.fact_types.specs.declared.interface.InterfaceType.{InterfaceType}
use Rattle.fact_types.specs.declared.kinds.RecordField.{RecordField}
use denote.Ref.{Bor}

-- The names of fields, in order.
abbrev pub field_names : List RecordField → List (List ℕ)
field_names fs = map (λ f. f.name) fs

-- The type of the first field of a name.
abbrev pub type_named : List ℕ → List RecordField → Option InterfaceType
type_named x [] = None
type_named x (f ∷ fs) = if bytes_eq x f.name then Some f.ty else type_named x fs

-- What a map has at a name.
abbrev pub at_name : {S : Type 0} → IndexMap (Bor (List ℕ)) InterfaceType S → List ℕ → Option InterfaceType
at_name m x = get_by (λ k. bytes_eq x k.now) m

-- A map has at each name the type of the first field of it.
abbrev pub IsByName : {S : Type 0} → List RecordField → IndexMap (Bor (List ℕ)) InterfaceType S → Type 0
IsByName fs m = (x : List ℕ) → at_name m x ≡ type_named x fs
