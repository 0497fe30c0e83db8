-- Lists that begin others.
use Rattle.std.specs.Prelude.{◌≡◌, List, length, take}

-- The new list begins with the old one, so that it is the old one again where it is cut to the old length.
abbrev pub IsFront : {X : Type 0} → List X → List X → Type 0
IsFront old new = take (length old) new ≡ old
