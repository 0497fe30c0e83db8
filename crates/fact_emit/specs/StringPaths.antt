-- The paths of texts that the code makes, as those of moves.
use Rattle.std.specs.Prelude.{ℕ, ◌<◌, true}
use Rattle.fact_types.specs.declared.outside.Transcode.{Transcode}
use Rattle.fact_types.specs.declared.outside.Trap.TheVariants.{DebugAssertStringEncodingFinished}
use Rattle.fact_actions.specs.Paths as of_moves
use Rattle.fact_actions.specs.Transcoders as of_kinds
use Rattle.fact_emit.specs.declared.paths.Amount.{Amount}
use Rattle.fact_emit.specs.declared.paths.Amount.TheVariants as amount
use Rattle.fact_emit.specs.declared.paths.PathTest.{PathTest}
use Rattle.fact_emit.specs.declared.paths.PathTest.TheVariants as test
use Rattle.fact_emit.specs.declared.paths.Path.{Path}
use Rattle.fact_emit.specs.declared.paths.Path.TheVariants as step
use Rattle.fact_emit.specs.declared.paths.TextForm.{TextForm}
use Rattle.fact_emit.specs.declared.paths.TextForm.TheVariants as form
use Rattle.fact_emit.specs.declared.paths.TranscodeKind.{TranscodeKind}
use Rattle.fact_emit.specs.declared.paths.TranscodeKind.TheVariants as kind

abbrev pub amount_of : Amount → of_moves.Amount
amount_of (amount.SourceUnits factor) = of_moves.SourceUnits factor
amount_of (amount.WrittenUnits factor) = of_moves.WrittenUnits factor

abbrev pub path_test_of : PathTest → of_moves.Test
path_test_of test.AllRead = of_moves.AllRead
path_test_of (test.WrittenIs factor) = of_moves.WrittenIs factor
path_test_of test.HasNoTag = of_moves.HasNoTag
path_test_of test.KeepsUnits = of_moves.KeepsUnits

-- a box of a path stands there as the place before it, and the path
abbrev pub path_of : Path → of_moves.Path
path_of step.End = of_moves.End
path_of (step.Limit' factor at p) = of_moves.Limit factor (path_of p)
path_of (step.Resize' x y at p) = of_moves.Resize (amount_of x) (amount_of y) (path_of p)
path_of (step.Pass' pass at p) = of_moves.Pass pass.op pass.rest pass.room (path_of p)
path_of (step.If' t at1 q at2 r at3 p) = of_moves.If (path_test_of t) (path_of q) (path_of r) (path_of p)
path_of (step.Tag' at p) = of_moves.Tag (path_of p)
path_of (step.Assert' trap t at p) = of_moves.Assert trap (path_test_of t) (path_of p)

-- the second pass into UTF-8, into the most bytes that the text can take, which are so many for each unit of the source
abbrev pub second_to_utf8 : (most : ℕ) → Transcode → of_moves.Path
second_to_utf8 most o =
    of_moves.Limit most (of_moves.Resize (of_moves.SourceUnits 1) (of_moves.SourceUnits most) (of_moves.Pass o true most (of_moves.Assert DebugAssertStringEncodingFinished of_moves.AllRead
    (of_moves.If (of_moves.WrittenIs most) of_moves.End (of_moves.Resize (of_moves.SourceUnits most) (of_moves.WrittenUnits 1) of_moves.End) of_moves.End))))

-- each limit is of one or more times the length
abbrev pub AreLimitsSome : of_moves.Path → Type 0
AreLimitsSome of_moves.End = Unit {0}
AreLimitsSome (of_moves.Limit factor p) = (0 < factor) × AreLimitsSome p
AreLimitsSome (of_moves.Resize x y p) = AreLimitsSome p
AreLimitsSome (of_moves.Pass o rest room p) = AreLimitsSome p
AreLimitsSome (of_moves.If t q r p) = AreLimitsSome q × AreLimitsSome r × AreLimitsSome p
AreLimitsSome (of_moves.Tag p) = AreLimitsSome p
AreLimitsSome (of_moves.Assert trap t p) = AreLimitsSome p

abbrev pub text_form_of : TextForm → of_moves.TextForm
text_form_of form.Utf8 = of_moves.AsUtf8
text_form_of form.Utf16 = of_moves.AsUtf16
text_form_of form.CompactLatin1 = of_moves.AsCompactLatin1
text_form_of form.CompactUtf16 = of_moves.AsCompactUtf16

-- the kinds of transcoders
abbrev pub kind_named : TranscodeKind → of_kinds.TranscodeKind
kind_named kind.AllUnits = of_kinds.AllUnits
kind_named kind.Counted = of_kinds.Counted
kind_named kind.Fitting = of_kinds.Fitting
kind_named kind.Narrow = of_kinds.Narrow
kind_named kind.Tagged = of_kinds.Tagged
kind_named kind.Widening = of_kinds.Widening
