-- What is done while the flags of an instance are 0 comes to the same but for flags.
use Rattle.std.proofs.Common.{◌≡◌, ℕ, ◌+◌, Option, Some, None, refl, sym, ap, ◌∙◌, subst, add-zero, append-nil}
use Rattle.std.specs.Prelude.{slice_get}
use Rattle.fact_machine.specs.declared.types.CoreValue.{CoreValue}
use Rattle.fact_machine.specs.declared.types.CoreValue.TheVariants.{I32}
use Rattle.fact_machine.specs.Machine.{i32_of}
use Rattle.fact_machine.specs.World.{World, set_global}
use Rattle.fact_actions.specs.Actions.{Action, Give, SetFlags, ◌>>=◌}
use Rattle.fact_actions.specs.Adapters.{get_flags, cleared}
use Rattle.fact_actions.specs.Running.{ImportPlaces, Ended, Gave, Halted, Strayed, heavier, later, then_ended, or_strayed, run}
use Rattle.fact_actions.proofs.Binds.{binds_run}

-- An end is another one, but for the flags then; of one that went astray nothing is said.
abbrev pub IsButForFlags : {A : Type 0} → Ended A → Ended A → Type 0
IsButForFlags (Gave n cs a w) f = (w' : World) × (f ≡ Gave n cs a w') × (w.state.memories ≡ w'.state.memories)
IsButForFlags (Halted n cs s w) f = f ≡ Halted n cs s w
IsButForFlags (Strayed n cs w) f = Unit {0}

abbrev pub without_flags : ImportPlaces → ℕ → World → World
without_flags p i w = set_global (p.flags i) (I32 0) w

module _ {A : Type 0} (p : ImportPlaces) (i : ℕ) where
  -- behind what is done the flags are set
  set_back : (saved : ℕ) (e : Ended A) → IsButForFlags (then_ended e (λ a w. run p (SetFlags i saved (Give a)) w)) e
  set_back saved (Gave n cs a w) = go (slice_get w.state.globals (p.flags i))
    where
      go : (o : Option CoreValue) → IsButForFlags (heavier n (later cs (or_strayed w o (λ v. run p (Give a) (set_global (p.flags i) (I32 saved) w))))) (Gave n cs a w)
      go None = tt
      go (Some v) = (w, ap (λ m. Gave m cs a w) (sym (add-zero n)) ∙ ap (λ l. Gave (n + 0) l a w) (sym (append-nil cs)), refl)
  set_back saved (Halted n cs s w) = refl
  set_back saved (Strayed n cs w) = tt

  -- An action, with the flags of an instance 0 meanwhile.
  pub cleared_is : (q : Action A) (w : World) → IsButForFlags (run p (get_flags i >>= (λ saved. cleared i saved q)) w) (run p q (without_flags p i w))
  cleared_is q w = flags (slice_get w.state.globals (p.flags i)) refl
    where
      meanwhile : (saved : ℕ) → IsButForFlags (run p (q >>= (λ a. SetFlags i saved (Give a))) (without_flags p i w)) (run p q (without_flags p i w))
      meanwhile saved =
          subst (λ e. IsButForFlags e (run p q (without_flags p i w))) (sym (binds_run p q (λ a. SetFlags i saved (Give a)) (without_flags p i w))) (set_back saved (run p q (without_flags p i w)))

      flags : (o : Option CoreValue) → slice_get w.state.globals (p.flags i) ≡ o
          → IsButForFlags (or_strayed w o (λ v. or_strayed w (i32_of v) (λ n. run p (cleared i n q) w))) (run p q (without_flags p i w))
      flags None e = tt
      flags (Some v) e = number (i32_of v)
        where
          number : (o : Option ℕ) → IsButForFlags (or_strayed w o (λ n. run p (cleared i n q) w)) (run p q (without_flags p i w))
          number None = tt
          number (Some n) = subst (λ o. IsButForFlags (or_strayed w o (λ v. run p (q >>= (λ a. SetFlags i n (Give a))) (without_flags p i w))) (run p q (without_flags p i w))) (sym e) (meanwhile n)
