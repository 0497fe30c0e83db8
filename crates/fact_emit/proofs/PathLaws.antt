-- Paths of texts: each limit is of one or more times the length; how long they are; and alignments.
use Rattle.std.proofs.Common.{◌≡◌, ℕ, suc, ◌+◌, ◌<◌, sym, subst, arith, rules}
use Rattle.fact_types.specs.declared.outside.StringEncoding.{StringEncoding}
use Rattle.fact_types.specs.declared.outside.StringEncoding.TheVariants as string
use Rattle.fact_actions.specs.Paths.{Path, End, Limit, Resize, Pass, If, Tag, Assert, TextForm, AsUtf8, AsUtf16, AsCompactLatin1, AsCompactUtf16, align_of, path}
use Rattle.fact_code_laws.specs.StringCode.{align_of_form}
use Rattle.fact_emit.specs.StringPaths.{AreLimitsSome}

limits_some : (f : TextForm) (e : StringEncoding) → AreLimitsSome (path f e)
limits_some AsUtf8 string.Utf8 = search rules
limits_some AsUtf8 string.Utf16 = search rules
limits_some AsUtf8 string.CompactUtf16 = search rules
limits_some AsUtf16 string.Utf8 = search rules
limits_some AsUtf16 string.Utf16 = search rules
limits_some AsUtf16 string.CompactUtf16 = search rules
limits_some AsCompactLatin1 string.Utf8 = search rules
limits_some AsCompactLatin1 string.Utf16 = search rules
limits_some AsCompactLatin1 string.CompactUtf16 = search rules
limits_some AsCompactUtf16 string.Utf8 = search rules
limits_some AsCompactUtf16 string.Utf16 = search rules
limits_some AsCompactUtf16 string.CompactUtf16 = search rules

pub limits_of : {q : Path} (f : TextForm) (e : StringEncoding) → q ≡ path f e → AreLimitsSome q
limits_of f e is = subst AreLimitsSome (sym is) (limits_some f e)

-- ---- how long a path is, which the functions that write its code count down

abbrev pub path_size : Path → ℕ
path_size End = 1
path_size (Limit factor p) = suc (path_size p)
path_size (Resize x y p) = suc (path_size p)
path_size (Pass o rest room p) = suc (path_size p)
path_size (If t q r p) = suc (path_size q + path_size r + path_size p)
path_size (Tag p) = suc (path_size p)
path_size (Assert trap t p) = suc (path_size p)

-- ---- alignments

pub align_some : (e : StringEncoding) → 0 < align_of e
align_some string.Utf8 = omega arith
align_some string.Utf16 = omega arith
align_some string.CompactUtf16 = omega arith

pub form_align_some : (f : TextForm) → 0 < align_of_form f
form_align_some AsUtf8 = omega arith
form_align_some AsUtf16 = omega arith
form_align_some AsCompactLatin1 = omega arith
form_align_some AsCompactUtf16 = omega arith
