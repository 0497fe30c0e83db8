use Rattle.std.proofs.Common.{◌≡◌, ◌++◌, ℕ, true, false, refl, List, Result, Ok, Err, IfOk, is_ok, codes, sym, ap, ◌∙◌, if◌then◌else◌}
use Rattle.std.specs.Char.{encode_utf8, is_control}
use Rattle.std.specs.Fmt.{digits}
use Rattle.fact_explain.specs.Shown.{shown_char}
use Rattle.fact_explain.proofs.shown.push_shown.Goals as goal

pushed : {T E : Type 0} (r : Result T E) (old more new wanted : List ℕ) → new ≡ (if is_ok r then old ++ more else old) → more ≡ wanted → IfOk r (λ done. new ≡ old ++ wanted)
pushed (Ok x) old more new wanted e same = e ∙ ap (λ (l : List ℕ). old ++ l) same
pushed (Err x) old more new wanted e same = tt

escaped : (c : ℕ) (more : List ℕ) → is_control c ≡ true → more ≡ codes "\\u{" ++ (digits 16 false c ++ codes "}") → more ≡ shown_char c
escaped c more h e = rw h e

plain : (c : ℕ) → is_control c ≡ false → encode_utf8 c ≡ shown_char c
plain c h = rw h refl

pub returns-in_ok-escape : goal.returns-in_ok-escape
returns-in_ok-escape c =
    pushed c.push_str.result _ _ _ (shown_char c.args.c) c.push_str.ensures.bytes
    (escaped c.args.c _ (sym c.is_control.ensures ∙ c.if-is_control.true) (c.deref.ensures ∙ rw c.in_radix.ensures at c.in_ok-escape.ensures.ok))

pub returns-else-is_control : goal.returns-else-is_control
returns-else-is_control c = pushed c.push.result _ _ _ (shown_char c.args.c) c.push.ensures.bytes (plain c.args.c (sym c.is_control.ensures ∙ c.if-is_control.false))
