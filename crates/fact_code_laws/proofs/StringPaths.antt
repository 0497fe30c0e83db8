-- Paths of strings: the code of a path does what its steps come to, by one recursion over the path.
use Rattle.std.proofs.Common.{◌≡◌, ℕ, ◌+◌, ◌/◌, ◌<◌, ◌≤◌, Bool, true, false, List, [], ◌∷◌, ◌++◌, Some, refl, sym, subst, arith, slice_get}
use Rattle.std.specs.Prelude.{nat_le, bit_or, max, if◌then◌else◌}
use Rattle.std.proofs.lemmas.Bool.{leb-true}
use Rattle.std.proofs.Math.Nat.{le-max_left, le-max_right, div-le_self}
use Rattle.fact_wasm.specs.declared.types.ValType.TheVariants as val
use Rattle.fact_wasm.specs.declared.instr.Instr.{Instr}
use Rattle.fact_wasm.specs.declared.instr.Instr.TheVariants as I
use Rattle.fact_wasm.specs.declared.module.WasmModule.{WasmModule}
use Rattle.fact_types.specs.declared.outside.MemoryOption.{MemoryOption}
use Rattle.fact_types.specs.declared.outside.StringEncoding.{StringEncoding}
use Rattle.fact_types.specs.declared.outside.StringEncoding.TheVariants as string
use Rattle.fact_types.specs.declared.outside.Transcode.{Transcode}
use Rattle.fact_types.specs.declared.outside.Trap.{Trap}
use Rattle.fact_types.specs.declared.import.Import.TheVariants as import
use Rattle.fact_machine.specs.declared.types.CoreValue.{CoreValue}
use Rattle.fact_machine.specs.declared.types.CoreValue.TheVariants.{I32, I64}
use Rattle.fact_machine.specs.Numerics.{truth}
use Rattle.fact_machine.proofs.NumericLaws.{leaves_i64_const}
use Rattle.fact_values.specs.Texts.{utf16_tag}
use Rattle.fact_actions.specs.Actions.{Action}
use Rattle.fact_actions.specs.Paths.{Amount, Path, End, Limit, Resize, Pass, If, Tag, Assert, TextForm, AsUtf8, AsUtf16, AsCompactLatin1, AsCompactUtf16, align_of, path}
use Rattle.fact_actions.specs.Running.{ImportPlaces}
use Rattle.fact_actions.specs.Strings.{PathPoint, path_start, with_tag, holds, asserted, choose_action, walk, most_string_bytes}
use Rattle.fact_code_laws.specs.Code.{guard_code}
use Rattle.fact_code_laws.specs.Does.{Locals, Way, Onward, held_types, Does, PushesValue}
use Rattle.fact_code_laws.specs.Knows.{KnowsFunction}
use Rattle.fact_code_laws.specs.Places.{Setting, KeepsLocals, is_on, limit_of}
use Rattle.fact_code_laws.specs.StringCode.{StringMove, either_code, begin_path_code, path_code}
use Rattle.fact_code_laws.specs.StringNeeds.{NeedsRequest, NeedsTranscoder, NeedsPath}
use Rattle.fact_code_laws.specs.Tests.{pointer_of_width}
use Rattle.fact_code_laws.proofs.Rules.{within, in_turn, pushing, local_set, done}
use Rattle.fact_code_laws.proofs.Blocks.{guard, cases}
use Rattle.fact_code_laws.proofs.Temporaries.{Standing, temp_type, set_temp}
use Rattle.fact_code_laws.proofs.StringNumbers.{PushesWithin, tagged_below, pushes_limit, pushes_tagged, pushes_test}
use Rattle.fact_code_laws.proofs.StringPoints.{string_temp, string_transfer, IsStringMove, AtPoint, point_stands, point_here, point_written, resize_steps, pass_steps, test_steps, DoesPass, DoesResize}

-- ---- choices and checks

-- One of two codes, by a test.
pub either_does : {A : Type 0} {M : WasmModule} {p : ImportPlaces} {ls : Locals} {q r : Action A} {Holds : A → Locals → Type 0} {extra few : ℕ} {test if_true if_false : List Instr} (b : Bool) → PushesWithin M few ls test (I32 (truth b))
    → (b ≡ true → Does M p Onward extra 0 [] ls if_true q (λ a. []) Holds) → (b ≡ false → Does M p Onward extra 0 [] ls if_false r (λ a. []) Holds)
    → Does M p Onward (extra + few + 5) 0 [] ls (either_code test if_true if_false) (choose_action b q r) (λ a. []) Holds
either_does {if_true = if_true} {if_false} true n f g = within (omega (arith, n.few)) (cases (0 ∷ []) 1 1 (if_false ∷ if_true ∷ []) n.pushes refl (f refl))
either_does {if_true = if_true} {if_false} false n f g = within (omega (arith, n.few)) (cases (0 ∷ []) 1 0 (if_false ∷ if_true ∷ []) n.pushes refl (g refl))

-- a test of debug checks alone, in front of other code
asserts : {A : Type 0} {M : WasmModule} {p : ImportPlaces} {way : Way} {extra few place : ℕ} {ins : List CoreValue} {ls : Locals} {condition c : List Instr} {q : Action A} {out : A → List CoreValue} {Holds : A → Locals → Type 0} (debug : Bool) (t : Trap) (b : Bool)
    → (debug ≡ true → KnowsFunction M p (import.Trap t) place [] []) → PushesWithin M few ls condition (I32 (truth b)) → Does M p way extra 0 ins ls c q out Holds
    → Does M p way (2 + few + extra) 0 ins ls ((if debug then guard_code condition place else []) ++ c) (asserted debug t b q) out Holds
asserts false t b h n d = within (omega arith) d
asserts true t b h n d = within (omega (arith, n.few)) (guard b (h refl) n.pushes (λ good. d))

-- ---- steps

-- the most steps that a path takes: of two paths that it may go, those of the longer one
abbrev pub most_steps : Path → ℕ
most_steps End = 0
most_steps (Limit factor p) = 5 + most_steps p
most_steps (Resize x y p) = resize_steps + most_steps p
most_steps (Pass o rest room p) = pass_steps o rest + most_steps p
most_steps (If test q r p) = max (most_steps q) (most_steps r) + test_steps test + 5 + most_steps p
most_steps (Tag p) = 4 + most_steps p
most_steps (Assert t test p) = 2 + test_steps test + most_steps p

-- No path takes more.
few_steps : (f : TextForm) (to : StringEncoding) → most_steps (path f to) ≤ 259
few_steps AsUtf8 string.Utf8 = omega arith
few_steps AsUtf8 string.Utf16 = omega arith
few_steps AsUtf8 string.CompactUtf16 = omega arith
few_steps AsUtf16 string.Utf8 = omega arith
few_steps AsUtf16 string.Utf16 = omega arith
few_steps AsUtf16 string.CompactUtf16 = omega arith
few_steps AsCompactLatin1 string.Utf8 = omega arith
few_steps AsCompactLatin1 string.Utf16 = omega arith
few_steps AsCompactLatin1 string.CompactUtf16 = omega arith
few_steps AsCompactUtf16 string.Utf8 = omega arith
few_steps AsCompactUtf16 string.Utf16 = omega arith
few_steps AsCompactUtf16 string.CompactUtf16 = omega arith

-- each path of a text begins with the test of the length
abbrev BeginsWithLimit : Path → Type 0
BeginsWithLimit p = (factor : ℕ) × (q : Path) × (0 < factor) × (p ≡ Limit factor q)

path_begins : (f : TextForm) (to : StringEncoding) → BeginsWithLimit (path f to)
path_begins AsUtf8 string.Utf8 = (_, _, omega arith, refl)
path_begins AsUtf8 string.Utf16 = (_, _, omega arith, refl)
path_begins AsUtf8 string.CompactUtf16 = (_, _, omega arith, refl)
path_begins AsUtf16 string.Utf8 = (_, _, omega arith, refl)
path_begins AsUtf16 string.Utf16 = (_, _, omega arith, refl)
path_begins AsUtf16 string.CompactUtf16 = (_, _, omega arith, refl)
path_begins AsCompactLatin1 string.Utf8 = (_, _, omega arith, refl)
path_begins AsCompactLatin1 string.Utf16 = (_, _, omega arith, refl)
path_begins AsCompactLatin1 string.CompactUtf16 = (_, _, omega arith, refl)
path_begins AsCompactUtf16 string.Utf8 = (_, _, omega arith, refl)
path_begins AsCompactUtf16 string.Utf16 = (_, _, omega arith, refl)
path_begins AsCompactUtf16 string.CompactUtf16 = (_, _, omega arith, refl)

-- ---- the recursion

module _ {S : Setting} {used : ℕ → Bool} {m : StringMove} {a b : MemoryOption} (h : IsStringMove S used m a b) {first : Locals} (e : held_types first ≡ S.locals)
    (passes : (o : Transcode) (rest : Bool) (room : ℕ) → NeedsTranscoder o m S.whole S.places a.def b.def → DoesPass S used m first o rest room)
    (resizes : NeedsRequest (align_of S.to.encoding) m S.whole S.places a.def b.def → (x y : Amount) → DoesResize S used m first (align_of S.to.encoding) x y) where
  -- From any point behind the test of the length a path's code does what its steps come to.
  pub walks : (path : Path) (v : PathPoint) (ls : Locals) → AtPoint used m first v ls → NeedsPath (align_of S.to.encoding) path m S.whole S.places a.def b.def
      → Does S.whole S.places Onward (most_steps path) 0 [] ls (path_code m (align_of S.to.encoding) path) (walk (string_transfer S m) path v) (λ u. []) (λ u ls'. AtPoint used m first u ls')
  walks End v ls at n = done refl at
  walks (Limit factor p) v ls at n = within (omega arith) (guard (nat_le v.length (most_string_bytes / factor)) n.0 (pushes_limit m.temporaries.units v.length factor at.units) (λ good. walks p v ls at n.1))
  walks (Resize x y p) v ls at n =
      resizes n.0 x y v ls (most_steps p) (path_code m (align_of S.to.encoding) p) (λ q. walk (string_transfer S m) p (record v { region = q })) at (λ q ls' at'. walks p (record v { region = q }) ls' at' n.1)
  walks (Pass o rest room p) v ls at n = in_turn (passes o rest room n.0 v ls at) (λ u ls' at'. walks p u ls' at' n.1)
  walks (If test q r p) v ls at n =
      in_turn (either_does (holds (string_transfer S m) test v) (pushes_test S h.side2 at test)
      (λ yes. within (omega (arith, le-max_left (most_steps q) (most_steps r))) (walks q v ls at n.0))
      (λ no. within (omega (arith, le-max_right (most_steps q) (most_steps r))) (walks r v ls at n.1)))
      (λ u ls' at'. walks p u ls' at' n.2)
  walks (Tag p) v ls at n =
      within (omega arith) (pushing (pushes_tagged m.temporaries.written v.written at.written) (local_set val.I64 (temp_type h.temps e 4 (omega arith) (point_stands at)) refl (λ ls' set.
      walks p (with_tag v) ls' (point_written m h.temps at (bit_or v.written utf16_tag) (tagged_below m.to64 v.written at.written_below) set) n)))
  walks (Assert t test p) v ls at n = asserts (is_on m.checks) t (holds (string_transfer S m) test v) n.0 (pushes_test S h.side2 at test) (walks p v ls at n.1)

  -- A path that begins with the test of the length, from its start on: behind the test there is a point.
  begins_path : (factor : ℕ) (p : Path) → 0 < factor → (source length : ℕ) (ls : Locals) → KeepsLocals used first ls → slice_get ls m.temporaries.source ≡ Some (Some (I64 source)) → slice_get ls m.temporaries.units ≡ Some (Some (I64 length))
      → source < limit_of (pointer_of_width m.from64) → NeedsPath (align_of S.to.encoding) (Limit factor p) m S.whole S.places a.def b.def
      → Does S.whole S.places Onward (6 + most_steps (Limit factor p)) 0 [] ls (begin_path_code m ++ path_code m (align_of S.to.encoding) (Limit factor p)) (walk (string_transfer S m) (Limit factor p) (path_start source length)) (λ u. []) (λ u ls'. AtPoint used m first u ls')
  begins_path factor p some source length ls k hs hl lt n =
      let begin : Standing used 10 (string_temp m) first ls ((1, I64 length) ∷ (0, I64 source) ∷ []) = record { keeps = k; below = (omega arith, (omega arith, tt)); holds = (hl, (hs, tt)) } in
      within (omega arith) (pushing pushes_zero (set_temp h.temps e 2 (omega arith) refl begin (λ ls1 s1.
      pushing pushes_zero (set_temp h.temps e 3 (omega arith) refl s1 (λ ls2 s2.
      pushing pushes_zero (set_temp h.temps e 4 (omega arith) refl s2 (λ ls3 s3.
      guard (nat_le length (most_string_bytes / factor)) n.0 (pushes_limit m.temporaries.units length factor s3.holds.1.1.1.0) (λ good.
      let few : length ≤ most_string_bytes / factor = leb-true length (most_string_bytes / factor) good in
      walks p (path_start source length) ls3 (point_here s3 (omega (arith, few, div-le_self most_string_bytes factor)) lt (some_below m.from64) (some_below m.to64) (some_below m.to64)) n.1))))))))
    where
      pushes_zero : {ls : Locals} → PushesValue S.whole 1 ls (I.I64Const 0 ∷ []) (I64 0)
      pushes_zero = record { by = λ w vs. leaves_i64_const }

      some_below : (memory64 : Bool) → 0 < limit_of (pointer_of_width memory64)
      some_below true = omega arith
      some_below false = omega arith

  -- what a path's code does from its start on
  abbrev WalksFrom : Path → (source length : ℕ) → Locals → Type 0
  WalksFrom p source length ls =
      NeedsPath (align_of S.to.encoding) p m S.whole S.places a.def b.def
      → Does S.whole S.places Onward (6 + most_steps p) 0 [] ls (begin_path_code m ++ path_code m (align_of S.to.encoding) p) (walk (string_transfer S m) p (path_start source length)) (λ u. []) (λ u ls'. AtPoint used m first u ls')

  pub texts_walk : (f : TextForm) (source length : ℕ) (ls : Locals) → KeepsLocals used first ls → slice_get ls m.temporaries.source ≡ Some (Some (I64 source)) → slice_get ls m.temporaries.units ≡ Some (Some (I64 length))
      → source < limit_of (pointer_of_width m.from64) → NeedsPath (align_of S.to.encoding) (path f S.to.encoding) m S.whole S.places a.def b.def
      → Does S.whole S.places Onward 265 0 [] ls (begin_path_code m ++ path_code m (align_of S.to.encoding) (path f S.to.encoding)) (walk (string_transfer S m) (path f S.to.encoding) (path_start source length)) (λ u. []) (λ u ls'. AtPoint used m first u ls')
  texts_walk f source length ls k hs hl lt n =
      let start = path_begins f S.to.encoding in
      within (omega (arith, few_steps f S.to.encoding)) (subst (λ p. WalksFrom p source length ls) (sym start.3) (begins_path start.0 start.1 start.2 source length ls k hs hl lt) n)
