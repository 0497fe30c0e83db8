-- What the proofs on the words cite.
use Rattle.std.proofs.Common.{◌≡◌, ◌∙◌, ◌<◌, ◌≤◌, ◌^◌, ap, sym, refl, List, [], ◌∷◌, get_or, length, ℕ, Option, Some, None, Result, rules, arith, inl, inr, true≢false}
use Rattle.std.specs.Char.{is_ascii_digit}
use Rattle.std.proofs.lemmas.Bool.{and_parts, leb-true, cases_lt}
use Rattle.std.specs.List.{list_all}
use Rattle.std.specs.Result.{OkIff}
use Rattle.std.specs.Str.Parse.{ParsesUnsigned, digits_value}
use Rattle.std.proofs.lemmas.Str.Parse.{IsNumeralModel, numerals_by_value, parse_digits}
use Rattle.std.specs.List.{find, list_any}
use Rattle.std.specs.Prelude.{option_and_then, option_map}
use Rattle.std.specs.Option.{option_map_or}
use Rattle.std.specs.Str.{bytes_eq}
use Rattle.clap.specs.Facts.{Entry}
use Rattle.clap.specs.Matches.{first_value, matched_of}
use Rattle.clap.specs.Walk.{Row, Rule, first_of, row_of, rows_of}
use Rattle.clap.specs.declared.parser.matches.Found.{Found}
use Rattle.clap.specs.declared.parser.matches.MatchedArg.{MatchedArg}
use Rattle.clap.specs.declared.parser.matches.ValueSource.{ValueSource}
use Rattle.std.proofs.lemmas.Bool.Decides.{nat_tests}
use Rattle.clap.proofs.WalkLemmas.{find_row, first_value-rows}
use Rattle.clap.proofs.OnLiterals.{clap_on_literals}
use Rattle.clap.specs.Simple.{App, is_simple, matches_of, with_rule}
use Rattle.clap.specs.Faults.{fault_of, is_simple_and_free}
use Rattle.std.specs.Prelude.{Bool, true, false, ◌&&◌, codes, if◌then◌else◌, is_some, IfSome}
use Rattle.fact_types.proofs.ShapeLaws.{none_some}
use Rattle.fact_command.specs.declared.command.CommandOptions.{CommandOptions}
use Rattle.fact_generate.specs.Generated.{most_generated}
use Rattle.fact_command.specs.Command.{HasOneMode, are_several, are_taken, bare_command, command, flag, fuel_or_default, generated_in, in_one_mode, is_from_words, is_decimal, is_plain_number, is_used, least_fuel, most_fuel, decimal_in, option, options_in, reading, source_of}

source-rows : (f : Found) (id : List ℕ) → option_and_then (λ (a : MatchedArg). a.source) (matched_of f id) ≡ source_of id (rows_of f)
source-rows f id = go (find (λ (e : Entry). bytes_eq e.0.now id) f.entries.items) ∙ ap (option_and_then (λ (r : Row). r.source)) (sym (find_row f.entries.items id))
  where
    go : (o : Option Entry) → option_and_then (λ (a : MatchedArg). a.source) (option_map (λ e. e.1) o) ≡ option_and_then (λ (r : Row). r.source) (option_map row_of o)
    go None = refl
    go (Some e) = refl

-- whether a flag is used, by its source
pub used : (f : Found) (id : List ℕ) (o : Option ValueSource) → o ≡ option_and_then (λ (a : MatchedArg). a.source) (matched_of f id) → option_map_or is_from_words o false ≡ is_used id (rows_of f)
used f id o e = ap (λ (s : Option ValueSource). option_map_or is_from_words s false) (e ∙ source-rows f id)

-- the command by its options
pub with-options : (a b c d e f g h : App) (p q r s t u v : Rule) → a ≡ bare_command → p ≡ flag (codes "debug") → b ≡ with_rule a p → q ≡ option (codes "fuel") → c ≡ with_rule b q
    → r ≡ flag (codes "imports") → d ≡ with_rule c r → s ≡ option (codes "generate") → e ≡ with_rule d s → t ≡ flag (codes "check") → f ≡ with_rule e t
    → u ≡ option (codes "call") → g ≡ with_rule f u → v ≡ flag (codes "chain") → h ≡ with_rule g v → h ≡ command
with-options a b c d e f g h p q r s t u v bare debug with_debug fuel with_fuel imports with_imports generate with_generate check with_check call with_call chain with_chain =
    let with_all : h ≡ with_rule (with_rule (with_rule (with_rule (with_rule (with_rule (with_rule bare_command (flag (codes "debug"))) (option (codes "fuel"))) (flag (codes "imports"))) (option (codes "generate"))) (flag (codes "check"))) (option (codes "call"))) (flag (codes "chain")) =
    cc in
    with_all

pub simple : is_simple command ≡ true
unfolding clap_on_literals
simple = refl

pub free : is_simple_and_free command ≡ true
unfolding clap_on_literals
free = refl

numerals : IsNumeralModel (λ ds. list_all is_ascii_digit ds ≡ true) (digits_value 10)
numerals = numerals_by_value _ (search rules)

digits-of : (text : List ℕ) → is_plain_number text ≡ true → (list_all is_ascii_digit text ≡ true) × (0 < length text)
digits-of [] h = absurd (true≢false (sym h))
digits-of (d ∷ []) h = (rw h refl, omega arith)
digits-of (d ∷ e ∷ ds) h = ((and_parts _ _ h).1, omega arith)

-- and the other way round
pub plain-of : (text : List ℕ) → 2 ≤ length text → (get_or text 0 0 ≡ 48 → ⊥) → list_all is_ascii_digit text ≡ is_plain_number text
plain-of [] some first = absurd (omega arith)
plain-of (d ∷ []) some first = absurd (omega arith)
plain-of (d ∷ e ∷ ds) some first = grind (arith, nat_tests)

-- what such a text is parsed to
pub parsed : {E : Type 0} (text : List ℕ) (r : Result ℕ E) → is_plain_number text ≡ true → ParsesUnsigned 32 10 text r → OkIff r ((0 < length text) × (digits_value 10 text < 2 ^ 32)) (digits_value 10 text)
parsed text r h p = parse_digits numerals 32 text r p (digits-of text h).0

-- a number that is too large for its type is past each bound
pub too-large : (least most : ℕ) (text : List ℕ) → most < 2 ^ 32 → is_plain_number text ≡ true → ((0 < length text) × (digits_value 10 text < 2 ^ 32) → ⊥) → None ≡ decimal_in least most text
too-large least most text small h large =
    let past : most < digits_value 10 text = elim (cases_lt (digits_value 10 text) (2 ^ 32)) [
      | inl low ↦ absurd (large ((digits-of text h).1, low))
      | inr high ↦ omega arith
    ] in
    grind (arith, nat_tests)

-- the words are read where `clap` finds no fault
pub read : (a : App) (words : List (List ℕ)) (rows : List Row) → a ≡ command → list_any (λ word. bytes_eq word (codes "--")) words ≡ false
    → (is_simple_and_free a ≡ true → fault_of a words ≡ []) → (is_simple a ≡ true → rows ≡ matches_of a words) → options_in rows ≡ reading words
unfolding reading
read a words rows is bare sound matches =
    let fault : fault_of command words ≡ [] = ap (λ (b : App). fault_of b words) (sym is) ∙ sound (ap is_simple_and_free is ∙ free) in
    let e : rows ≡ matches_of command words = matches (ap is_simple is ∙ simple) ∙ ap (λ (b : App). matches_of b words) is in
    rw (bare, fault, e) refl

pub bare-unread : (words : List (List ℕ)) → list_any (λ word. bytes_eq word (codes "--")) words ≡ true → None ≡ reading words
unfolding reading
bare-unread words bare = rw bare refl

-- the fuel, by what stands behind its option
pub fuel : (f : Found) (o : Option (List ℕ)) → o ≡ first_value f (codes "fuel") → fuel_or_default o ≡ fuel_or_default (first_of (codes "fuel") (rows_of f))
fuel f o e = ap fuel_or_default (e ∙ first_value-rows f (codes "fuel"))

-- and so the number of adapters to generate
pub generated-behind : (f : Found) (o : Option (List ℕ)) → o ≡ first_value f (codes "generate") → generated_in o ≡ generated_in (first_of (codes "generate") (rows_of f))
generated-behind f o e = ap generated_in (e ∙ first_value-rows f (codes "generate"))

-- the name that stands behind its option
pub call-behind : (f : Found) (o : Option (List ℕ)) → o ≡ first_value f (codes "call") → o ≡ first_of (codes "call") (rows_of f)
call-behind f o e = e ∙ first_value-rows f (codes "call")

-- ---- the numbers are within their bounds

abbrev IsWithinBounds : CommandOptions → Type 0
IsWithinBounds o = (1 ≤ o.fuel) × IfSome o.generate (λ n. n ≤ most_generated) × HasOneMode o

number-within : (least most : ℕ) (text : List ℕ) → IfSome (decimal_in least most text) (λ n. (least ≤ n) × (n ≤ most))
number-within least most text = go (is_decimal least most text) refl
  where
    go : (b : Bool) → is_decimal least most text ≡ b → IfSome (if b then Some (digits_value 10 text) else None) (λ n. (least ≤ n) × (n ≤ most))
    go true e = let bounds = and_parts _ _ (and_parts _ _ e).1 in (leb-true least (digits_value 10 text) bounds.0, leb-true (digits_value 10 text) most bounds.1)
    go false e = tt

fuel-behind : (o : Option (List ℕ)) → IfSome (fuel_or_default o) (λ n. 1 ≤ n)
fuel-behind None = omega arith
fuel-behind (Some text) = go (decimal_in least_fuel most_fuel text) (number-within least_fuel most_fuel text)
  where
    go : (o : Option ℕ) → IfSome o (λ n. (least_fuel ≤ n) × (n ≤ most_fuel)) → IfSome o (λ n. 1 ≤ n)
    go None h = tt
    go (Some n) h = h.0

number-behind : (o : Option (List ℕ)) → IfSome (generated_in o) (λ g. IfSome g (λ n. n ≤ most_generated))
number-behind None = tt
number-behind (Some text) = go (decimal_in 0 most_generated text) (number-within 0 most_generated text)
  where
    go : (o : Option ℕ) → IfSome o (λ n. (0 ≤ n) × (n ≤ most_generated)) → IfSome (option_map Some o) (λ g. IfSome g (λ n. n ≤ most_generated))
    go None h = tt
    go (Some n) h = h.1

in-mode : (o : CommandOptions) → 1 ≤ o.fuel → IfSome o.generate (λ n. n ≤ most_generated) → IfSome (in_one_mode o) IsWithinBounds
in-mode o h k = go o.check o.generate o.call o.chain refl refl refl refl
  where
    not-so : {A : Type 0} (b : Bool) → b ≡ false → b ≡ true → A
    not-so b c e = absurd (true≢false (sym e ∙ c))

    uncalled : {A : Type 0} (x : List ℕ) → o.call ≡ None → o.call ≡ Some x → A
    uncalled x n e = absurd (none_some o.call x n e)

    go : (check : Bool) (generate : Option ℕ) (call : Option (List ℕ)) (chain : Bool) → o.check ≡ check → o.generate ≡ generate → o.call ≡ call → o.chain ≡ chain
        → IfSome (if are_several check (is_some generate) (is_some call) chain then None else Some o) IsWithinBounds
    go true None None false c g n l = (h, k, record { check = λ e. (g, n, l); call = λ x e. uncalled x n e; chain = λ e. not-so o.chain l e })
    go true None None true c g n l = tt
    go true None (Some x) chain c g n l = tt
    go true (Some m) call chain c g n l = tt
    go false None None false c g n l = (h, k, record { check = λ e. not-so o.check c e; call = λ x e. uncalled x n e; chain = λ e. not-so o.chain l e })
    go false None None true c g n l = (h, k, record { check = λ e. not-so o.check c e; call = λ x e. uncalled x n e; chain = λ e. (g, c, n) })
    go false None (Some x) false c g n l = (h, k, record { check = λ e. not-so o.check c e; call = λ y e. (g, c, l); chain = λ e. not-so o.chain l e })
    go false None (Some x) true c g n l = tt
    go false (Some m) None false c g n l = (h, k, record { check = λ e. not-so o.check c e; call = λ x e. uncalled x n e; chain = λ e. not-so o.chain l e })
    go false (Some m) None true c g n l = tt
    go false (Some m) (Some x) chain c g n l = tt

with-numbers : (fuel : Option ℕ) (generate : Option (Option ℕ)) (debug imports check : Bool) (call : Option (List ℕ)) (chain : Bool) → IfSome fuel (λ n. 1 ≤ n) → IfSome generate (λ g. IfSome g (λ n. n ≤ most_generated))
    → IfSome (option_and_then (λ n. option_and_then (λ g. in_one_mode (record { debug = debug; imports = imports; fuel = n; generate = g; check = check; call = call; chain = chain })) generate) fuel) IsWithinBounds
with-numbers None generate debug imports check call chain h k = tt
with-numbers (Some n) None debug imports check call chain h k = tt
with-numbers (Some n) (Some g) debug imports check call chain h k = in-mode (record { debug = debug; imports = imports; fuel = n; generate = g; check = check; call = call; chain = chain }) h k

where-taken : (b : Bool) (o : Option CommandOptions) → IfSome o IsWithinBounds → IfSome (if b then o else None) IsWithinBounds
where-taken true o h = h
where-taken false o h = tt

within : (words : List (List ℕ)) → IfSome (reading words) IsWithinBounds
unfolding reading
within words =
    let rows = matches_of command words in
    where-taken (are_taken words) (options_in rows) (with-numbers (fuel_or_default (first_of (codes "fuel") rows)) (generated_in (first_of (codes "generate") rows))
    (is_used (codes "debug") rows) (is_used (codes "imports") rows) (is_used (codes "check") rows) (first_of (codes "call") rows) (is_used (codes "chain") rows) (fuel-behind (first_of (codes "fuel") rows)) (number-behind (first_of (codes "generate") rows)))

pub has-fuel : (words : List (List ℕ)) → IfSome (reading words) (λ options. 1 ≤ options.fuel)
has-fuel words = go (reading words) (within words)
  where
    go : (o : Option CommandOptions) → IfSome o IsWithinBounds → IfSome o (λ options. 1 ≤ options.fuel)
    go None h = tt
    go (Some o) h = h.0

pub has-number : (words : List (List ℕ)) → IfSome (reading words) (λ options. IfSome options.generate (λ n. n ≤ most_generated))
has-number words = go (reading words) (within words)
  where
    go : (o : Option CommandOptions) → IfSome o IsWithinBounds → IfSome o (λ options. IfSome options.generate (λ n. n ≤ most_generated))
    go None h = tt
    go (Some o) h = h.1

pub has-mode : (words : List (List ℕ)) → IfSome (reading words) HasOneMode
has-mode words = go (reading words) (within words)
  where
    go : (o : Option CommandOptions) → IfSome o IsWithinBounds → IfSome o HasOneMode
    go None h = tt
    go (Some o) h = h.2
