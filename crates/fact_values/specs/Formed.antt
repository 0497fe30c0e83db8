-- What the shapes of types have beside their members: the cases of options and results have their names, and enums have no
-- payloads. Component Model, canonical ABI, "Despecialization".
use Rattle.std.specs.Prelude.{◌≡◌, [], ◌∷◌}
use Rattle.fact_types.specs.Agrees.{names_of}
use Rattle.fact_types.specs.Shapes.{Kind, k_enum, k_option, k_result, Shape, s_plain, s_node, Members, no_members, bare, typed, none_name, some_name, ok_name, error_name}

-- No member has a type.
abbrev pub AreBare : Members → Type 0
AreBare no_members = Unit {0}
AreBare (bare n ms) = AreBare ms
AreBare (typed n s ms) = ⊥

abbrev pub IsFormedBy : Kind → Members → Type 0
IsFormedBy k_enum ms = AreBare ms
IsFormedBy k_option ms = names_of ms ≡ none_name ∷ some_name ∷ []
IsFormedBy k_result ms = names_of ms ≡ ok_name ∷ error_name ∷ []
IsFormedBy _ ms = Unit {0}

abbrev mutual
  pub IsFormed : Shape → Type 0
  IsFormed (s_plain p) = Unit {0}
  IsFormed (s_node k ms) = IsFormedBy k ms × AreFormed ms

  pub AreFormed : Members → Type 0
  AreFormed no_members = Unit {0}
  AreFormed (bare n ms) = AreFormed ms
  AreFormed (typed n s ms) = IsFormed s × AreFormed ms
