-- What the words of the command line ask for: `clap`'s reading of them as one simple command.
use Rattle.std.specs.Prelude.{ℕ, ◌≡◌, ◌==◌, ◌&&◌, ◌||◌, nat_le, not, Bool, true, false, List, [], ◌∷◌, Option, Some, None, codes, find, if◌then◌else◌, is_some, length, option_and_then, option_map}
use Rattle.std.specs.List.{list_all, list_any}
use Rattle.std.specs.Char.{is_ascii_digit}
use Rattle.std.specs.Option.{option_map_or}
use Rattle.std.specs.Str.{bytes_eq}
use Rattle.std.specs.Str.Parse.{digits_value}
use Rattle.clap.specs.Walk.{Row, Rule, first_of}
use Rattle.clap.specs.Simple.{App, matches_of, new_rule, new_shape}
use Rattle.clap.specs.Faults.{fault_of}
use Rattle.clap.specs.declared.builder.action.ArgAction.TheVariants.{Set, SetTrue}
use Rattle.clap.specs.declared.parser.matches.ValueSource.{ValueSource}
use Rattle.clap.specs.declared.parser.matches.ValueSource.TheVariants as source
use Rattle.fact_generate.specs.Generated.{most_generated}
use Rattle.fact_command.specs.declared.command.CommandOptions.{CommandOptions}

-- ---- the command

-- `--name`, and `--name VALUE` or `--name=VALUE`
abbrev pub flag : List ℕ → Rule
flag name = record (new_rule name) { long = Some name; action = Some SetTrue }

abbrev pub option : List ℕ → Rule
option name = record (new_rule name) { long = Some name; action = Some Set }

-- the command without its options: neither help nor a version
abbrev pub bare_command : App
bare_command = record {
  top = record (new_shape (codes "factc")) { no_binary_name = true; disable_help_flag = true; disable_version_flag = true };
  subs = [];
}

-- all that the command knows: neither help nor a version
abbrev pub command : App
command = record {
  top = record (new_shape (codes "factc")) {
    rules = flag (codes "debug") ∷ option (codes "fuel") ∷ flag (codes "imports") ∷ option (codes "generate") ∷ flag (codes "check") ∷ option (codes "call") ∷ flag (codes "chain") ∷ [];
    no_binary_name = true;
    disable_help_flag = true;
    disable_version_flag = true;
  };
  subs = [];
}

-- ---- numbers behind options

abbrev pub least_fuel : ℕ
least_fuel = 1

abbrev pub most_fuel : ℕ
most_fuel = 1_000_000

abbrev pub default_fuel : ℕ
default_fuel = 1000

-- decimal digits, without a sign and without a leading zero
abbrev pub is_plain_number : List ℕ → Bool
is_plain_number [] = false
is_plain_number (d ∷ []) = is_ascii_digit d
is_plain_number (d ∷ e ∷ ds) = not (d == 48) && list_all is_ascii_digit (d ∷ e ∷ ds)

abbrev pub is_decimal : (least most : ℕ) → List ℕ → Bool
is_decimal least most text = is_plain_number text && (nat_le least (digits_value 10 text) && nat_le (digits_value 10 text) most)

-- the number that a text is, where it is within bounds
abbrev pub decimal_in : (least most : ℕ) → List ℕ → Option ℕ
decimal_in least most text = if is_decimal least most text then Some (digits_value 10 text) else None

abbrev pub fuel_or_default : Option (List ℕ) → Option ℕ
fuel_or_default None = Some default_fuel
fuel_or_default (Some text) = decimal_in least_fuel most_fuel text

-- how many adapters are generated, where any number of them is asked for
abbrev pub generated_in : Option (List ℕ) → Option (Option ℕ)
generated_in None = Some None
generated_in (Some text) = option_map Some (decimal_in 0 most_generated text)

-- ---- the reading

abbrev pub is_from_words : ValueSource → Bool
is_from_words source.CommandLine = true
is_from_words source.DefaultValue = false

abbrev pub source_of : List ℕ → List Row → Option ValueSource
source_of name rows = option_and_then (λ r. r.source) (find (λ r. bytes_eq r.id name) rows)

-- the words themselves have the flag
abbrev pub is_used : List ℕ → List Row → Bool
is_used name rows = option_map_or is_from_words (source_of name rows) false

-- whether more than one of four is so
abbrev pub are_several : (a b c d : Bool) → Bool
are_several true b c d = b || (c || d)
are_several false true c d = c || d
are_several false false c d = c && d

-- not two modes: bytes are checked, or a plan is generated, or an adapter is called, or two are chained, or a plan is read
abbrev pub in_one_mode : CommandOptions → Option CommandOptions
in_one_mode o = if are_several o.check (is_some o.generate) (is_some o.call) o.chain then None else Some o

-- Where bytes are checked, nothing is generated, called or chained, and so where an adapter is called, and where two are chained.
pub record HasOneMode (o : CommandOptions) : Type 0 where
  pub check : o.check ≡ true → (o.generate ≡ None) × (o.call ≡ None) × (o.chain ≡ false)
  pub call : (name : List ℕ) → o.call ≡ Some name → (o.generate ≡ None) × (o.check ≡ false) × (o.chain ≡ false)
  pub chain : o.chain ≡ true → (o.generate ≡ None) × (o.check ≡ false) × (o.call ≡ None)

-- what the matches ask for, where the numbers have their form
abbrev pub options_in : List Row → Option CommandOptions
options_in rows = option_and_then (λ fuel. option_and_then (λ generate. in_one_mode (record {
  debug = is_used (codes "debug") rows;
  imports = is_used (codes "imports") rows;
  fuel = fuel;
  generate = generate;
  check = is_used (codes "check") rows;
  call = first_of (codes "call") rows;
  chain = is_used (codes "chain") rows;
})) (generated_in (first_of (codes "generate") rows))) (fuel_or_default (first_of (codes "fuel") rows))

-- `clap` finds no fault in the words, and none is a bare `--`
abbrev pub are_taken : List (List ℕ) → Bool
are_taken words = not (list_any (λ word. bytes_eq word (codes "--")) words) && length (fault_of command words) == 0

-- the one reading of the words, where they have one
unfoldable pub reading : List (List ℕ) → Option CommandOptions
reading words = if are_taken words then options_in (matches_of command words) else None
