-- Moves from and to core values that hold the same numbers in other types: as the joined slots of cases hold them, or as a helper takes
-- them, a function that moves values for others.
use Rattle.std.specs.Prelude.{◌≡◌, ℕ, true, List, length, map, Some}
use Rattle.std.specs.List.{AllByRecursion, AllZip}
use Rattle.std.specs.Str.{bytes_eq}
use Rattle.fact_wasm.specs.declared.types.ValType.{ValType}
use Rattle.fact_machine.specs.declared.types.CoreValue.{CoreValue}
use Rattle.fact_machine.specs.declared.types.CoreValue.TheVariants.{I64}
use Rattle.fact_machine.specs.Typed.{is_bits}
use Rattle.fact_machine.specs.Typing.{is_number}
use Rattle.fact_machine.specs.World.{World}
use Rattle.fact_types.specs.FlatShapes.{flat}
use Rattle.fact_types.specs.Layout.{flags_flat, flags_size}
use Rattle.fact_types.specs.declared.interface.InterfaceType.{InterfaceType}
use Rattle.fact_types.specs.declared.interface.InterfaceType.TheVariants as ty
use Rattle.fact_types.specs.Agrees.{chosen}
use Rattle.fact_types.specs.Fields.{field_of}
use Rattle.fact_values.specs.Limits.{CaseType, case_type, Where}
use Rattle.fact_types.specs.Shapes.{Kind, k_record, k_variant, k_tuple, k_flags, k_option, k_result, k_fixed, Shape, s_plain, s_node, Members, no_members, bare, typed, layouts_of}
use Rattle.fact_values.specs.Lift.{bits_of}
use Rattle.fact_actions.specs.Moves.{move}
use Rattle.fact_actions.specs.Running.{ImportPlaces, Ended, Gave, Halted, Strayed, run}
use Rattle.fact_actions.specs.Sides.{Transfer, Source, Values, AtAddress, Target, Slots, Into, core_value, width_of_side}

-- a number as an i64
abbrev pub as_i64 : CoreValue → CoreValue
as_i64 v = I64 (bits_of v)

-- core values by bits of their types
abbrev pub IsSourceInRange : Source → Type 0
IsSourceInRange (Values vs) = AllByRecursion (λ v. is_bits v ≡ true) vs
IsSourceInRange (AtAddress a) = Unit {0}

-- the same source, its core values as i64
abbrev pub source_as_i64 : Source → Source
source_as_i64 (Values vs) = Values (map as_i64 vs)
source_as_i64 (AtAddress a) = AtAddress a

-- as many slots, all of them of numbers
abbrev pub AreSlotsAlike : List ValType → List ValType → Type 0
AreSlotsAlike ts us = AllZip (λ t u. (is_number t ≡ true) × (is_number u ≡ true)) ts us

abbrev pub AreTargetsAlike : Target → Target → Type 0
AreTargetsAlike (Slots ts) (Slots us) = AreSlotsAlike ts us
AreTargetsAlike (Into a) (Into b) = a ≡ b
AreTargetsAlike (Slots ts) (Into b) = ⊥
AreTargetsAlike (Into a) (Slots us) = ⊥

-- the same numbers, in order
abbrev pub HaveSameBits : List CoreValue → List CoreValue → Type 0
HaveSameBits vs us = map bits_of vs ≡ map bits_of us

-- Two ends are the same but for what is given, of which something holds.
abbrev pub AreEndsAlike : {A B : Type 0} → (A → B → Type 0) → Ended A → Ended B → Type 0
AreEndsAlike R (Gave n cs a w) (Gave m ds b x) = (n ≡ m) × (cs ≡ ds) × R a b × (w ≡ x)
AreEndsAlike R (Halted n cs s w) (Halted m ds r x) = (n ≡ m) × (cs ≡ ds) × (s ≡ r) × (w ≡ x)
AreEndsAlike R (Strayed n cs w) (Strayed m ds x) = (n ≡ m) × (cs ≡ ds) × (w ≡ x)
AreEndsAlike R _ _ = ⊥

-- A move out of core values comes to what it comes to out of the same numbers as i64, and so it does into slots of other types, which
-- then hold the same numbers.
abbrev pub MovesAreAlike : Type 0
MovesAreAlike =
    (tr : Transfer) (t u : Shape) (s : Source) (d e : Target) (p : ImportPlaces) (w : World)
    → IsSourceInRange s → AreTargetsAlike d e
    → AreEndsAlike HaveSameBits (run p (move tr t u s d) w) (run p (move tr t u (source_as_i64 s) e) w)

-- ---- what moves give

-- values of these types, one for each
abbrev pub HaveValueTypes : List CoreValue → List ValType → Type 0
HaveValueTypes vs ts = AllZip (λ v t. v ≡ core_value t (bits_of v)) vs ts

-- A destination gets as many core values as it has flat types: a text of a text, flags of at most 32 names, members and payloads that do.
abbrev pub CanFillPlain : Shape → InterfaceType → Type 0
CanFillPlain t ty.String = t ≡ s_plain ty.String
CanFillPlain t u = Unit {0}

abbrev pub EachCaseCan : Members → (CaseType → Type 0) → Type 0
EachCaseCan ms Case = (n : ℕ) (c : CaseType) → case_type ms n ≡ Some c → Case c

abbrev pub CanFillNode : Shape → Kind → Members → (Members → Type 0) → (CaseType → Type 0) → Type 0
CanFillNode (s_node k_record ms) k_record ns Fields Case = Fields ms
CanFillNode (s_node k_tuple ms) k_tuple ns Fields Case = Fields ms
CanFillNode (s_node (k_fixed m) ms) (k_fixed n) ns Fields Case = Fields ms
CanFillNode (s_node k_flags ms) k_flags ns Fields Case = flags_flat (flags_size (length (layouts_of ns))) ≡ 1
CanFillNode (s_node k_variant ms) k_variant ns Fields Case = EachCaseCan ms Case
CanFillNode (s_node k_option ms) k_option ns Fields Case = EachCaseCan ms Case
CanFillNode (s_node k_result ms) k_result ns Fields Case = EachCaseCan ms Case
CanFillNode _ _ ns Fields Case = Unit {0}

abbrev mutual
  pub CanFill : Shape → Shape → Type 0
  CanFill t (s_plain u) = CanFillPlain t u
  CanFill t (s_node k ns) = CanFillNode t k ns (λ ms. CanFillFields ms ns) (λ c. CanFillCase c ns)

  pub CanFillFields : Members → Members → Type 0
  CanFillFields ms no_members = Unit {0}
  CanFillFields ms (bare x ns) = CanFillFields ms ns
  CanFillFields ms (typed x u ns) = Where (field_of x ms) (λ f. CanFill f.shape u) × CanFillFields ms ns

  pub CanFillCase : CaseType → Members → Type 0
  CanFillCase c no_members = Unit {0}
  CanFillCase c (bare x ns) = chosen (bytes_eq x c.name) (Unit {0}) (CanFillCase c ns)
  CanFillCase c (typed x u ns) = chosen (bytes_eq x c.name) (Where c.payload (λ p. CanFill p u)) (CanFillCase c ns)

-- what holds of all that is given
abbrev pub IfGiven : {A : Type 0} → (A → Type 0) → Ended A → Type 0
IfGiven P (Gave n cs a w) = P a
IfGiven P (Halted n cs s w) = Unit {0}
IfGiven P (Strayed n cs w) = Unit {0}

-- A move into as many slots as its destination has flat types gives values of their types.
abbrev pub MovesFillSlots : Type 0
MovesFillSlots =
    (tr : Transfer) (t u : Shape) (s : Source) (ts : List ValType) (p : ImportPlaces) (w : World)
    → CanFill t u → AllByRecursion (λ x. is_number x ≡ true) ts → length ts ≡ length (flat (width_of_side tr.to) u)
    → IfGiven (λ vs. HaveValueTypes vs ts) (run p (move tr t u s (Slots ts)) w)
