-- Which calls of transcoders read whole texts: the units that they are to read spell a text in their encoding, and where they widen what is there,
-- there is room for it and for the text.
use Rattle.std.specs.Prelude.{◌≡◌, ℕ, ◌+◌, ◌≤◌, List, [], ◌∷◌, ◌++◌, Some}
use Rattle.fact_types.specs.Adapters.{LinkedAdapter}
use Rattle.fact_types.specs.declared.import.Import.{Import}
use Rattle.fact_types.specs.declared.import.Import.TheVariants as import
use Rattle.fact_types.specs.declared.outside.CoreDef.{CoreDef}
use Rattle.fact_types.specs.declared.outside.FixedEncoding.TheVariants.{Utf16}
use Rattle.fact_types.specs.declared.outside.Transcode.{Transcode}
use Rattle.fact_machine.specs.declared.types.CoreValue.{CoreValue}
use Rattle.fact_machine.specs.declared.types.MachineState.{MachineState}
use Rattle.fact_values.specs.declared.value.Value.{Value}
use Rattle.fact_values.specs.Texts.{AreSpelled, spelled_text, units_of_text}
use Rattle.fact_actions.specs.Calls.{arg_number}
use Rattle.fact_actions.specs.Honest.{HasReturned}
use Rattle.fact_actions.specs.Running.{ImportPlaces, Call}
use Rattle.fact_actions.specs.Transcoders.{Widening, from_encoding, transcode_kind}
use Rattle.fact_action_laws.specs.Faithful.{params_given, results_answered}
use Rattle.fact_action_laws.specs.Answerable.{bytes_to_read}

-- A call of a transcoder is to read a whole text.
pub record ReadsText (p : ImportPlaces) (o : Transcode) (from : CoreDef) (c : Call) : Type 0 where
  pub text : List ℕ
  pub can : AreSpelled (from_encoding o) text
  pub is : bytes_to_read p o from c ≡ spelled_text (from_encoding o) text
  pub fits : transcode_kind o ≡ Widening → arg_number c 4 + units_of_text Utf16 text ≤ arg_number c 3

-- Of any other call nothing is asked.
abbrev pub ReadsTextBy : Import → ImportPlaces → Call → Type 0
ReadsTextBy (import.Transcode o from from64 to to64) p c = ReadsText p o from c
ReadsTextBy _ p c = Unit {0}

abbrev pub ReadTexts : ImportPlaces → List Call → Type 0
ReadTexts p [] = Unit {0}
ReadTexts p (c ∷ cs) = ReadsTextBy c.what p c × ReadTexts p cs

-- The values of a sync adapter's run are there, on the side that they come from: its parameters, and the results of the callee where that returned.
pub record AreValuesThere (p : ImportPlaces) (a : LinkedAdapter) (args : List CoreValue) (first : MachineState) (calls : List Call) : Type 0 where
  pub params : List Value
  pub params_are : params_given p a args first ≡ Some params
  pub results : (before : List Call) (callee : Call) (behind : List Call) → calls ≡ before ++ (callee ∷ behind) → callee.what ≡ import.CoreDef a.callee → HasReturned callee
      → (values : List Value) × (results_answered p a callee ≡ Some values)
