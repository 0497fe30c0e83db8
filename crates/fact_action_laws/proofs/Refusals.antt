-- What does not lift at its source is never moved: plain types, flags, enums and handles.
use Rattle.std.proofs.Common.{◌≡◌, ℕ, ◌%◌, ◌^◌, Bool, true, false, List, [], ◌∷◌, length, Option, Some, None, refl, sym, ap, ◌∙◌, subst}
use Rattle.std.specs.Prelude.{if◌then◌else◌}
use Rattle.std.proofs.lemmas.Bool.{false≢true}
use Rattle.fact_types.specs.declared.flats.FlatType.{FlatType}
use Rattle.fact_types.specs.declared.flats.FlatType.TheVariants as flat_type
use Rattle.fact_types.specs.declared.interface.InterfaceType.{InterfaceType}
use Rattle.fact_types.specs.declared.interface.InterfaceType.TheVariants as ty
use Rattle.fact_types.specs.declared.extents.MemoryWidth.TheVariants.{Memory32}
use Rattle.fact_types.specs.declared.outside.Trap.TheVariants.{InvalidChar}
use Rattle.fact_types.specs.FlatShapes.{flat_members}
use Rattle.fact_types.specs.Shapes.{s_plain, Members}
use Rattle.fact_types.proofs.ShapeLaws.{none_some}
use Rattle.fact_machine.specs.World.{World}
use Rattle.fact_actions.specs.Actions.{Action, Visit, unless}
use Rattle.fact_actions.specs.Moves.{move, move_fields, move_number, move_plain, move_char, plain_size, canonical_number}
use Rattle.fact_values.specs.Numbers.{is_scalar_value, number_in, plain_of, value_of_number}
use Rattle.fact_actions.specs.Sides.{Source, Values, AtAddress, Target, width_of_side, write_number}
use Rattle.fact_values.specs.Lift.{bits_of, lift_leading, lift_number, number_as}
use Rattle.fact_values.specs.declared.value.Value.TheVariants as V
use Rattle.fact_values.specs.Load.{load}
use Rattle.fact_types.specs.Options.{◌>>=◌}
use Rattle.fact_values.specs.Places.{extent_on}
use Rattle.fact_action_laws.specs.Places.{from_side, value_at_source, IsSource, HoldsMemories, IsGrounded}
use Rattle.fact_actions.specs.Regions.{Region}
use Rattle.fact_action_laws.specs.Regions.{TransferSetting, IsInHand, AreBytesOf}
use Rattle.fact_action_laws.proofs.Judges.{does_visit, does_more}
use Rattle.fact_action_laws.proofs.MoveLaws.{IsMembersTarget}
use Rattle.fact_action_laws.proofs.Never.{never_number, never_unless}
use Rattle.fact_action_laws.proofs.Numbers.{number_at_source, reads_number}
use Rattle.fact_action_laws.proofs.Numeric.{IsNumeric, IsScalar, char_is}
use Rattle.fact_action_laws.proofs.Plain.{does_aligned, reads_flat}
use Rattle.fact_action_laws.specs.Judged.{GivesNothing}
use Rattle.fact_action_laws.specs.MoveLaws.{Refuses}

-- Fields of which not all lift are never moved.
pub record RefusesFields (c : TransferSetting) (ms ns : Members) (e : ℕ) (Some_fail : Source → Type 0) : Type 0 where
  pub by : (s : Source) (d : Target) (gs : List Region) (w : World) (m : List ℕ)
      → IsSource c (length (flat_members (width_of_side c.transfer.from) ms)) s → Some_fail s → HoldsMemories c m w
      → IsMembersTarget c ns e (IsInHand c gs) m d → GivesNothing c gs (move_fields c.transfer ms ns e s d) w

-- a visit and what stands around it
pub never_visit : {c : TransferSetting} {gs : List Region} {A : Type 0} (n : ℕ) (q : Action A) (w : World) → GivesNothing c gs q w → GivesNothing c gs (Visit n q) w
never_visit n q w h = does_visit (does_more (λ s cs o k. k) (λ k cs a w' o x. x) h)

-- ---- numbers

-- a number at a source: there is none, or the value is that of it
pub data NumberAt (c : TransferSetting) (p : InterfaceType) (size : ℕ) (s : Source) : Type 0 where
  no_number : number_at_source c size s ≡ None → NumberAt c p size s
  of_number : (x : ℕ) → number_at_source c size s ≡ Some x → value_at_source c (s_plain p) s ≡ value_of_number (plain_of p) x → NumberAt c p size s

pub number_or_none : (c : TransferSetting) (p : InterfaceType) (size : ℕ) (f : FlatType) → IsNumeric p size f → (s : Source) → NumberAt c p size s
unfolding load lift_leading
number_or_none c p size f n (AtAddress a) = go (number_in c.source size a) refl
  where
    here : (q : Option ℕ) → number_in c.source size a ≡ q → number_in c.source (extent_on (from_side c) (s_plain p)).size a ≡ q
    here q e = ap (λ z. number_in c.source z a) (n.sized (width_of_side c.transfer.from)) ∙ e

    go : (q : Option ℕ) → number_in c.source size a ≡ q → NumberAt c p size (AtAddress a)
    go None e = no_number e
    go (Some x) e = of_number x e (n.loads (from_side c) c.source a ∙ ap (λ o. o >>= (λ k. value_of_number (plain_of p) k)) (here (Some x) e))
number_or_none c p size f n (Values []) = no_number refl
number_or_none c p size f n (Values (v ∷ vs)) =
    of_number (number_as f v) (ap (λ b. Some (if b then bits_of v else bits_of v % 2 ^ 32)) n.wide ∙ ap (λ y. Some y) (reads_flat f v))
    (n.lifts (from_side c) c.source (v ∷ vs) ∙ ap (λ fs. lift_number (plain_of p) fs (v ∷ vs)) (n.flats (width_of_side c.transfer.from)))

-- types of which each number is a value
pub scalar_refuses : (c : TransferSetting) → IsGrounded c → (p : InterfaceType) → (n : IsScalar p) → ((x : ℕ) → value_of_number (plain_of p) x ≡ None → ⊥) → Refuses c (s_plain p) (s_plain p)
unfolding move
scalar_refuses c g p n total = record {
  by = λ s d gs w m is h ready target.
      does_aligned g (s_plain p) (s_plain p) s d (Visit 1 (move_plain c.transfer p p s d)) w
      (never_visit 1 (move_plain c.transfer p p s d) w
      (subst (λ q. GivesNothing c gs q w) (sym (n.silent.moves c.transfer s d))
      (go s d gs w (subst (λ fs. IsSource c (length fs) s) (n.numeric.flats (width_of_side c.transfer.from)) is) h ready.from (number_or_none c p n.size n.flat n.numeric s))));
}
  where
    go : (s : Source) (d : Target) (gs : List Region) (w : World) → IsSource c 1 s → value_at_source c (s_plain p) s ≡ None → AreBytesOf c.places c.transfer.from w.state c.source → NumberAt c p n.size s → GivesNothing c gs (move_number c.transfer (plain_size p) (plain_size p) (canonical_number p) s d) w
    go s d gs w is h from (no_number e) = never_number g (plain_size p) 0 s (λ k. write_number c.transfer.to (plain_size p) d (canonical_number p k)) w is from (ap (λ z. number_at_source c z s) (n.numeric.sized Memory32) ∙ e)
    go s d gs w is h from (of_number x e t) = absurd (total x (sym t ∙ h))

pub char_refuses : (c : TransferSetting) → IsGrounded c → Refuses c (s_plain ty.Char) (s_plain ty.Char)
unfolding move
char_refuses c g = record {
  by = λ s d gs w m is h ready target.
      does_aligned g (s_plain ty.Char) (s_plain ty.Char) s d (Visit 1 (move_char c.transfer s d)) w
      (never_visit 1 (move_char c.transfer s d) w (go s d gs w m is h ready (number_or_none c ty.Char 4 flat_type.I32 char_is s)));
}
  where
    not_scalar : (b : Bool) (x : ℕ) → (if b then Some (V.Char x) else None) ≡ None → b ≡ true → ⊥
    not_scalar true x h e = none_some None (V.Char x) refl (sym h)
    not_scalar false x h e = false≢true e

    go : (s : Source) (d : Target) (gs : List Region) (w : World) (m : List ℕ) → IsSource c 1 s → value_at_source c (s_plain ty.Char) s ≡ None → HoldsMemories c m w → NumberAt c ty.Char 4 s → GivesNothing c gs (move_char c.transfer s d) w
    go s d gs w m is h ready (no_number e) = never_number g 4 0 s (λ n. unless InvalidChar (is_scalar_value n) (write_number c.transfer.to 4 d n)) w is ready.from e
    go s d gs w m is h ready (of_number x e t) =
        reads_number g 4 x 1 s (λ n. unless InvalidChar (is_scalar_value n) (write_number c.transfer.to 4 d n)) w is ready.from e
        (never_unless InvalidChar (is_scalar_value x) (write_number c.transfer.to 4 d x) w (λ b. absurd (not_scalar (is_scalar_value x) x (sym t ∙ h) b)))
