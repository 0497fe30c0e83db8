-- Actions that never give anything.
use Rattle.std.proofs.Common.{◌≡◌, ℕ, suc, ◌+◌, ◌%◌, ◌≤◌, Bool, true, false, List, [], ◌∷◌, length, Option, Some, None, refl, sym, subst, arith}
use Rattle.std.specs.Prelude.{slice_get, nat_le, nat_eq, if◌then◌else◌}
use Rattle.std.proofs.lemmas.Bool.{eqb-true, leb-true}
use Rattle.fact_types.specs.declared.outside.CoreDef.{CoreDef}
use Rattle.fact_types.specs.declared.outside.Trap.{Trap as TrapCode}
use Rattle.fact_types.proofs.ShapeLaws.{none_some}
use Rattle.fact_machine.specs.World.{World, Done, Halt, Stop, Trap, read, number_at}
use Rattle.fact_actions.specs.Actions.{Action, Read, ◌>>=◌, unless, trap}
use Rattle.fact_actions.specs.Running.{Call, Ended, Gave, Halted, Strayed, or_strayed, ended, run}
use Rattle.fact_actions.specs.Sides.{LiftLowerOptions, Source, Values, AtAddress, with_memory, read_number, check_region}
use Rattle.fact_types.specs.declared.outside.MemoryOption.{MemoryOption}
use Rattle.fact_values.specs.Numbers.{number_in}
use Rattle.fact_action_laws.specs.Places.{HasSideMemory, IsSource, IsGrounded}
use Rattle.fact_actions.specs.Regions.{Region}
use Rattle.fact_action_laws.specs.Regions.{TransferSetting, AreBytesOf, regions_after}
use Rattle.fact_action_laws.proofs.Judges.{does_bind, does_trap, does_length}
use Rattle.fact_action_laws.proofs.Numbers.{number_at_source}
use Rattle.fact_action_laws.specs.Judged.{Judged, Judges, RunsHonestly, GivesNothing}

module _ {c : TransferSetting} {A : Type 0} {gs : List Region} where
  -- a property that holds whatever is given
  pub does_always : {P : ℕ → List Call → A → World → Type 0} (q : Action A) (w : World) → ((n : ℕ) (cs : List Call) (a : A) (w' : World) → P n cs a w') → RunsHonestly c gs (λ s cs. Unit {0}) P q w
  does_always {P} q w h = record { judged = record { by = go (run c.places q w) } }
    where
      go : (e : Ended A) → Judged c gs (λ s cs. Unit {0}) P e
      go (Gave n cs a w') = λ o. h n cs a w'
      go (Halted n cs s w') = λ o. tt
      go (Strayed n cs w') = tt

  pub never_trap : {t : TrapCode} {w : World} → GivesNothing c {A = A} gs (trap t) w
  never_trap = does_trap tt (λ cs. tt)

  pub never_unless : (t : TrapCode) (b : Bool) (q : Action A) (w : World) → (b ≡ true → GivesNothing c gs q w) → GivesNothing c gs (unless t b q) w
  never_unless t true q w h = h refl
  never_unless t false q w h = never_trap

  pub never_read : {n a : ℕ} {m : CoreDef} {k : ℕ → Action A} {w : World} {bytes : List ℕ} → slice_get w.state.memories (c.places.memory m) ≡ Some bytes → number_in bytes n a ≡ None → GivesNothing c gs (Read n m a k) w
  never_read {n} {a} {m} {k} {w} {bytes} e i =
      record { judged = subst (λ o. Judges c gs (λ s cs. Unit {0}) (λ n cs a w'. ⊥) (or_strayed w o (λ bytes. ended (read n bytes a w) (λ x w'. run c.places (k x) w')))) (sym e) (go (nat_le (a + n) (length bytes)) i) }
    where
      go : (b : Bool) → (if b then Some (number_at n bytes a) else None) ≡ None → Judges c gs (λ s cs. Unit {0}) (λ n cs a w'. ⊥) (ended (if b then Done (number_at n bytes a) w else Halt Trap w) (λ x w'. run c.places (k x) w'))
      go true h = absurd (none_some None (number_at n bytes a) refl (sym h))
      go false h = record { by = λ o. tt }

  never_in : (o : LiftLowerOptions) (m : Option MemoryOption) (size a : ℕ) (k : ℕ → Action A) (w : World) → HasSideMemory (record o { memory = m }) → AreBytesOf c.places (record o { memory = m }) w.state c.source → number_in c.source size a ≡ None
      → GivesNothing c gs (with_memory (record o { memory = m }) (λ n. Read size n.def a k)) w
  never_in o None size a k w there are i = absurd there
  never_in o (Some n) size a k w there are i = never_read are i

  -- a number that is not there
  pub never_number : IsGrounded c → (size n : ℕ) (s : Source) (k : ℕ → Action A) (w : World) → IsSource c (suc n) s → AreBytesOf c.places c.transfer.from w.state c.source → number_at_source c size s ≡ None
      → GivesNothing c gs (read_number c.transfer.debug c.transfer.from size s k) w
  never_number g size n s k w is are i = subst (λ b. GivesNothing c gs (read_number b c.transfer.from size s k) w) (sym g.quiet) (go s is i)
    where
      go : (s : Source) → IsSource c (suc n) s → number_at_source c size s ≡ None → GivesNothing c gs (read_number false c.transfer.from size s k) w
      go (AtAddress a) is i = never_in c.transfer.from c.transfer.from.memory size a k w is are i
      go (Values []) is i = absurd (omega (arith, is.0))
      go (Values (v ∷ vs)) is i = absurd (none_some None _ refl (sym i))

  -- a region that is not in order
  pub never_check : (o : LiftLowerOptions) (m : Option MemoryOption) (t : TrapCode) (pointer bytes align : ℕ) (q : Action A) (w : World) (l : List ℕ) → AreBytesOf c.places (record o { memory = m }) w.state l → HasSideMemory (record o { memory = m })
      → (pointer % align ≡ 0 → pointer + bytes ≤ length l → GivesNothing c gs q w) → GivesNothing c gs (check_region (record o { memory = m }) t pointer bytes align q) w
  never_check o None t pointer bytes align q w l are there h = absurd there
  never_check o (Some n) t pointer bytes align q w l are there h =
      never_unless _ (nat_eq (pointer % align) 0) _ w (λ e. does_length are (never_unless t (nat_le (pointer + bytes) (length l)) q w (λ f. h (eqb-true (pointer % align) 0 e) (leb-true (pointer + bytes) (length l) f))))

-- what never gives is never followed
pub never_first : {c : TransferSetting} {A B : Type 0} {gs : List Region} (q : Action A) (f : A → Action B) (w : World) → GivesNothing c gs q w → GivesNothing c gs (q >>= f) w
never_first q f w h = does_bind q f w h (λ s cs k. tt) (λ n cs a w' o k. absurd k)

-- something is done, and what follows never gives
pub never_after : {c : TransferSetting} {A B : Type 0} {gs : List Region} {H : Stop → List Call → Type 0} {P : ℕ → List Call → A → World → Type 0} (q : Action A) (f : A → Action B) (w : World) → RunsHonestly c gs H P q w
    → ((n : ℕ) (cs : List Call) (a : A) (w' : World) → P n cs a w' → GivesNothing c (regions_after gs cs) (f a) w') → GivesNothing c gs (q >>= f) w
never_after q f w h g = does_bind q f w h (λ s cs k. tt) (λ n cs a w' o k. g n cs a w' k)
