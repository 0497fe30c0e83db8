use Rattle.std.proofs.Common.{[], ◌∷◌, ◌++◌, Some, None, sym, ◌∙◌, arith}
use Rattle.std.specs.Prelude.{codes}
use Rattle.std.specs.Fmt.{decimal}
use Rattle.std.proofs.lemmas.List.{append_cancel_left}
use Rattle.std.proofs.lemmas.Str.Pattern.{split_parts, strip_suffix_char}
use Rattle.fact_check.proofs.Transcoders.{second_text, opened, unsplit, divided, closed}
use Rattle.fact_check.proofs.imports.memories_of.Goals as goal

pub returns-in_default-split_once : goal.returns-in_default-split_once
returns-in_default-split_once c from to a b e =
    let more = c.in-Some.text.now in
    unsplit more (decimal from) (second_text to) (split_parts 32 more None c.in_default-split_once.ensures.cases (omega arith)) (opened c.args.text.now more from to c.in-Some.ensures e)

pub returns-in_default-behind : goal.returns-in_default-behind
returns-in_default-behind c from to a b e =
    let more = c.in-Some.text.now in
    let x = c.in-Some-split_once in
    let s = split_parts 32 more (Some (x.from, x.text)) x.ensures.cases (omega arith) in
    c.in_default-behind.ensures (decimal to ++ 41 ∷ []) (divided more x.from.now x.text.now from to a s.0 s.1 (opened c.args.text.now more from to c.in-Some.ensures e)).1

pub returns-in_default-strip_suffix : goal.returns-in_default-strip_suffix
returns-in_default-strip_suffix c from to a b e =
    let more = c.in-Some.text.now in
    let x = c.in-Some-split_once in
    let s = split_parts 32 more (Some (x.from, x.text)) x.ensures.cases (omega arith) in
    let d = divided more x.from.now x.text.now from to a s.0 s.1 (opened c.args.text.now more from to c.in-Some.ensures e) in
    let after = c.in-Some-behind.text.now in
    strip_suffix_char 41 after None c.in_default-strip_suffix.ensures.cases (omega arith) (decimal to)
    (append_cancel_left (codes "=> mem") after (decimal to ++ 41 ∷ []) (sym c.in-Some-behind.ensures ∙ d.1))

pub returns-in_default-number : goal.returns-in_default-number
returns-in_default-number c from to a b e =
    let more = c.in-Some.text.now in
    let x = c.in-Some-split_once in
    let s = split_parts 32 more (Some (x.from, x.text)) x.ensures.cases (omega arith) in
    c.in_default-number.ensures from a (divided more x.from.now x.text.now from to a s.0 s.1 (opened c.args.text.now more from to c.in-Some.ensures e)).0

pub returns-in_default-number-2 : goal.returns-in_default-number-2
returns-in_default-number-2 c from to a b e =
    let more = c.in-Some.text.now in
    let x = c.in-Some-split_once in
    let s = split_parts 32 more (Some (x.from, x.text)) x.ensures.cases (omega arith) in
    let d = divided more x.from.now x.text.now from to a s.0 s.1 (opened c.args.text.now more from to c.in-Some.ensures e) in
    let after = c.in-Some-behind.text.now in
    let last = c.in-Some-strip_suffix.to in
    c.in_default-number-2.ensures to b (closed x.text.now after last.now to c.in-Some-behind.ensures (strip_suffix_char 41 after (Some last) c.in-Some-strip_suffix.ensures.cases (omega arith)) d.1)
