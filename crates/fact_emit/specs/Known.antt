-- What modules that import definitions in some roles know of them.
use Rattle.std.specs.Prelude.{◌≡◌, ℕ, Bool, List, [], ◌∷◌, Contains, Option, Some, None}
use Rattle.fact_emit.specs.ImportSection.{AreNamed, AreTranscodersNamed, Mention, Role, Storage, custom_page_size}
use Rattle.fact_emit.specs.DefImports.{IsDefImported, type_of_role}
use Rattle.fact_emit.specs.States.{ModuleSoFar}

-- the width and the custom page size of a memory that is used so
abbrev pub memory_of_role : Role → Option (Bool × Option ℕ)
memory_of_role (Storage wide page_size_log2) = Some (wide, custom_page_size page_size_log2)
memory_of_role _ = None

-- Two roles want an import of the same type.
pub record IsUsedAlike (q r : Role) : Type 0 where
  pub function : type_of_role q ≡ type_of_role r
  pub memory : memory_of_role q ≡ memory_of_role r

-- No definition is mentioned in two roles that want different types.
pub record AreUsedAlike (ms : List Mention) : Type 0 where
  pub alike : (q r : Mention) → Contains ms q → Contains ms r → q.def ≡ r.def → IsUsedAlike q.role r.role

-- Each import so far has the names and the type of what it is: a core definition those of a role in which it is mentioned here.
pub record AreKnown (s : ModuleSoFar) (ms : List Mention) : Type 0 where
  pub named : AreNamed s.types ms [] s.section s.imports
  pub transcoders : AreTranscodersNamed s.types s.section s.imports

-- Definitions were imported in the roles in which they are mentioned, one after another, and have these places.
abbrev pub AreImportedAt : (old new : ModuleSoFar) → List Mention → List ℕ → Type 0
AreImportedAt old new [] [] = new ≡ old
AreImportedAt old new (m ∷ ms) (n ∷ ns) = (mid : ModuleSoFar) × IsDefImported old mid m.role m.def n × AreImportedAt mid new ms ns
AreImportedAt old new [] (n ∷ ns) = ⊥
AreImportedAt old new (m ∷ ms) [] = ⊥
