-- The places of the bits of flags, by their names.
use Rattle.std.specs.Prelude.{ℕ, List, map, Option, Some, None, if◌then◌else◌, nat_lt, position}
use Rattle.std.specs.Str.{bytes_eq}

-- a place among the first 32
abbrev pub below_32 : Option ℕ → Option ℕ
below_32 None = None
below_32 (Some i) = if nat_lt i 32 then Some i else None

-- the place of the first of some names that is this one
abbrev pub bit_place_of : (names : List (List ℕ)) → List ℕ → Option ℕ
bit_place_of names x = below_32 (position (bytes_eq x) names)

-- the place of each of other names among them
abbrev pub bit_places_of : (names others : List (List ℕ)) → List (Option ℕ)
bit_places_of names others = map (bit_place_of names) others
