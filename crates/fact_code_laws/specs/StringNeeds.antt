-- What the code of strings calls, in a module whose imports have these places, between the memories of these definitions.
use Rattle.std.specs.Prelude.{◌≡◌, ℕ, nat_eq, true, List, [], ◌∷◌}
use Rattle.std.specs.List.{AllByRecursion}
use Rattle.fact_wasm.specs.declared.module.WasmModule.{WasmModule}
use Rattle.fact_types.specs.declared.outside.CoreDef.{CoreDef}
use Rattle.fact_types.specs.declared.outside.StringEncoding.{StringEncoding}
use Rattle.fact_types.specs.declared.outside.StringEncoding.TheVariants as string
use Rattle.fact_types.specs.declared.outside.Transcode.{Transcode}
use Rattle.fact_types.specs.declared.outside.Trap.{Trap}
use Rattle.fact_types.specs.declared.outside.Trap.TheVariants.{StringOutOfBounds, UnalignedPointer}
use Rattle.fact_types.specs.declared.import.Import.TheVariants as import
use Rattle.fact_actions.specs.Paths.{Path, End, Limit, Resize, Pass, If, Tag, Assert, TextForm, AsUtf8, AsUtf16, AsCompactLatin1, AsCompactUtf16, align_of, path}
use Rattle.fact_actions.specs.Running.{ImportPlaces}
use Rattle.fact_code_laws.specs.Context.{HasSlotsIf}
use Rattle.fact_code_laws.specs.Knows.{KnowsFunction}
use Rattle.fact_code_laws.specs.Places.{is_on}
use Rattle.fact_code_laws.specs.StringCode.{StringMove, align_of_form, transcoder_type}
use Rattle.fact_code_laws.specs.Tests.{HasUnaligned}

-- What is said of the functions that a part of the code calls.
abbrev pub Needs : Type 1
Needs = StringMove → WasmModule → ImportPlaces → (from to : CoreDef) → Type 0

-- a part that calls none
abbrev pub NeedsNone : Needs
NeedsNone m M p d e = Unit {0}

abbrev pub NeedsTrap : Trap → Needs
NeedsTrap t m M p d e = KnowsFunction M p (import.Trap t) (m.trap t) [] []

-- the check of a region with this alignment
pub record NeedsRegion (align : ℕ) (m : StringMove) (M : WasmModule) (p : ImportPlaces) (from to : CoreDef) : Type 0 where
  pub outside : KnowsFunction M p (import.Trap StringOutOfBounds) (m.trap StringOutOfBounds) [] []
  pub unaligned : HasUnaligned (nat_eq align 1) M p (m.trap UnalignedPointer)

-- a request of memory with this alignment
pub record NeedsRequest (align : ℕ) (m : StringMove) (M : WasmModule) (p : ImportPlaces) (from to : CoreDef) : Type 0 where
  pub slots : HasSlotsIf m.concurrency M p m.slots
  pub region : NeedsRegion align m M p from to

-- a transcoder between these memories
abbrev pub NeedsTranscoder : Transcode → Needs
NeedsTranscoder o m M p d e =
    KnowsFunction M p (import.Transcode o d m.from64 e m.to64) (m.transcoder o) (transcoder_type o m.from64 m.to64).params (transcoder_type o m.from64 m.to64).results

-- what a path calls, to a text that is written with this alignment
abbrev pub NeedsPath : (align : ℕ) → Path → Needs
NeedsPath align End m M p d e = Unit {0}
NeedsPath align (Limit factor q) m M p d e = NeedsTrap StringOutOfBounds m M p d e × NeedsPath align q m M p d e
NeedsPath align (Resize x y q) m M p d e = NeedsRequest align m M p d e × NeedsPath align q m M p d e
NeedsPath align (Pass o rest room q) m M p d e = NeedsTranscoder o m M p d e × NeedsPath align q m M p d e
NeedsPath align (If test q r s) m M p d e = NeedsPath align q m M p d e × NeedsPath align r m M p d e × NeedsPath align s m M p d e
NeedsPath align (Tag q) m M p d e = NeedsPath align q m M p d e
NeedsPath align (Assert t test q) m M p d e = (is_on m.checks ≡ true → NeedsTrap t m M p d e) × NeedsPath align q m M p d e

-- what a text of a form calls on its way to an encoding
pub record NeedsText (f : TextForm) (to : StringEncoding) (m : StringMove) (M : WasmModule) (p : ImportPlaces) (from_memory to_memory : CoreDef) : Type 0 where
  pub source : NeedsRegion (align_of_form f) m M p from_memory to_memory
  pub path : NeedsPath (align_of to) (path f to) m M p from_memory to_memory

-- the forms in which texts of an encoding stand at their source
abbrev pub forms_of : StringEncoding → List TextForm
forms_of string.Utf8 = AsUtf8 ∷ []
forms_of string.Utf16 = AsUtf16 ∷ []
forms_of string.CompactUtf16 = AsCompactLatin1 ∷ AsCompactUtf16 ∷ []

-- what a text of an encoding calls
abbrev pub NeedsEncoded : (from to : StringEncoding) → Needs
NeedsEncoded from to m M p d e = AllByRecursion (λ f. NeedsText f to m M p d e) (forms_of from)
