-- Laws of runs: steps add up, an end stays, and how a stretch of code is left.
use Rattle.std.proofs.Common.{◌≡◌, ◌≢◌, ℕ, zero, suc, ◌+◌, ◌-◌, ◌≤◌, ◌<◌, ◌⊎◌, inl, inr, List, [], ◌∷◌, ◌++◌, Option, refl, sym, ap, ◌∙◌, subst, arith, append_assoc, append-nil, reverse}
use Rattle.std.proofs.lemmas.Bool.{cases_lt}
use Rattle.fact_wasm.specs.declared.instr.Instr.{Instr, out-Instr}
use Rattle.fact_wasm.specs.declared.module.WasmModule.{WasmModule}
use Rattle.fact_machine.specs.declared.types.CoreValue.{CoreValue}
use Rattle.fact_machine.specs.declared.types.MachineState.{MachineState}
use Rattle.fact_machine.specs.declared.types.Answer.{Answer}
use Rattle.fact_machine.specs.declared.types.End.{End}
use Rattle.fact_machine.specs.declared.types.End.TheVariants.{Returned, Trapped, Thrown, Lacks, Going, Stuck}
use Rattle.fact_machine.specs.declared.types.Outcome.{Outcome}
use Rattle.fact_machine.specs.World.{World}
use Rattle.fact_machine.specs.Machine.{Around, Config, At, Did, Goes, Ends, Next, Begins, Finished, Breaks, act, next, begin, at_rest, after, exec, start, run_of}
use Rattle.fact_machine.specs.Trace.{Reached, reached, outcome_of, reached_at_rest, reached_after, reach, run_reach}
use Rattle.fact_machine.specs.RunLaws.{LeadsTo}
use Rattle.fact_machine.specs.Exits.{Exit, Falls, Branches, Throws, Halts, leads, Leaves, IsEarly}

-- ---- an outcome is what is reached, without the trace

rest_is : (x : Next) → at_rest x ≡ outcome_of (reached_at_rest x)
rest_is (Begins w vs ls i rest k) = refl
rest_is (Finished w vs) = refl
rest_is (Breaks w) = refl

after_is : (f : Config → Outcome) (g : Config → Reached) (d : Did) → ((c : Config) → f c ≡ outcome_of (g c)) → after f d ≡ outcome_of (reached_after g d)
after_is f g (Goes c) h = h c
after_is f g (Ends e w) h = refl

-- the outcome of at most n steps is what they reach
pub exec_is : (M : WasmModule) (n : ℕ) (c : Config) → exec M n c ≡ outcome_of (reach M n c)
exec_is M zero c = rest_is (next c)
exec_is M (suc n) c = after_is (exec M n) (reach M n) (begin M (next c)) (exec_is M n)

-- so is the outcome from where a step leads
pub after_reach : (M : WasmModule) (n : ℕ) (d : Did) → after (exec M n) d ≡ outcome_of (reached_after (reach M n) d)
after_reach M n d = after_is (exec M n) (reach M n) d (exec_is M n)

-- so is the outcome of a run
pub run_is : (M : WasmModule) (f : ℕ) (args : List CoreValue) (state : MachineState) (answers : List Answer) (n : ℕ) → run_of M f args state answers n ≡ outcome_of (run_reach M f args state answers n)
run_is M f args state answers n = after_reach M n (start M f args state answers)

-- ---- an end stays

-- a run that is over
abbrev pub IsOver : End → Type 0
IsOver Going = ⊥
IsOver _ = Unit {0}

-- each run is over or goes on
pub over_or_going : (e : End) → IsOver e ⊎ (e ≡ Going)
over_or_going Going = inr refl
over_or_going (Returned vs) = inl tt
over_or_going Trapped = inl tt
over_or_going Thrown = inl tt
over_or_going Lacks = inl tt
over_or_going Stuck = inl tt

-- what is not going is over
pub over_of : (e : End) → e ≢ Going → IsOver e
over_of e h = elim (over_or_going e) [ inl over ↦ over | inr going ↦ absurd (h going) ]

over_rest : (M : WasmModule) (m : ℕ) (x : Next) (c : Config) → next c ≡ x → IsOver (reached_at_rest x).end → reach M m c ≡ reached_at_rest x
over_rest M zero x c e h = ap reached_at_rest e
over_rest M (suc m) (Begins w vs ls i rest k) c e h = absurd h
over_rest M (suc m) (Finished w vs) c e h = ap (λ y. reached_after (reach M m) (begin M y)) e
over_rest M (suc m) (Breaks w) c e h = ap (λ y. reached_after (reach M m) (begin M y)) e

-- code with nothing behind it and nothing around it has returned
pub reach_finished : (M : WasmModule) (j : ℕ) (c : Config) (w : World) (vs : List CoreValue) → next c ≡ Finished w vs → reach M j c ≡ reached (Returned (reverse vs)) w
reach_finished M j c w vs e = over_rest M j (Finished w vs) c e tt

-- the body of a call that ends in other values than its results is stuck
pub reach_broken : (M : WasmModule) (j : ℕ) (c : Config) (w : World) → next c ≡ Breaks w → reach M j c ≡ reached Stuck w
reach_broken M j c w e = over_rest M j (Breaks w) c e tt

stays_did : (M : WasmModule) (n m : ℕ) (d : Did) → ((c : Config) → IsOver (reach M n c).end → reach M (n + m) c ≡ reach M n c)
    → IsOver (reached_after (reach M n) d).end → reached_after (reach M (n + m)) d ≡ reached_after (reach M n) d
stays_did M n m (Goes c) ih h = ih c h
stays_did M n m (Ends e w) ih h = refl

stays_add : (M : WasmModule) (n m : ℕ) (c : Config) → IsOver (reach M n c).end → reach M (n + m) c ≡ reach M n c
stays_add M zero m c h = ap (λ n. reach M n c) (omega arith) ∙ over_rest M m (next c) c refl h
stays_add M (suc n) m c h =
    let e : suc n + m ≡ suc (n + m) = omega arith in
    ap (λ k. reach M k c) e ∙ stays_did M n m (begin M (next c)) (stays_add M n m) h

-- where a run is over, more steps change nothing
pub stays : (M : WasmModule) (n m : ℕ) (d : Did) → IsOver (reached_after (reach M n) d).end → n ≤ m → reached_after (reach M m) d ≡ reached_after (reach M n) d
stays M n m d h le =
    let e : m ≡ n + (m - n) = omega arith in
    ap (λ k. reached_after (reach M k) d) e ∙ stays_did M n (m - n) d (stays_add M n (m - n)) h

-- so from a configuration on
pub reach_stays : (M : WasmModule) (n m : ℕ) (c : Config) → (reach M n c).end ≢ Going → n ≤ m → reach M m c ≡ reach M n c
reach_stays M n m c h le = stays M n m (Goes c) (over_of (reach M n c).end h) le

-- two numbers of steps at which a run is over give one end
pub one_end : (M : WasmModule) (n m : ℕ) (d : Did) → IsOver (reached_after (reach M n) d).end → IsOver (reached_after (reach M m) d).end → reached_after (reach M n) d ≡ reached_after (reach M m) d
one_end M n m d hn hm =
    let here : n ≤ n + m = omega arith in
    let there : m ≤ n + m = omega arith in
    sym (stays M n (n + m) d hn here) ∙ stays M m (n + m) d hm there

-- so for outcomes
pub exec_stays : (M : WasmModule) (n m : ℕ) (c : Config) → IsOver (exec M n c).end → n ≤ m → exec M m c ≡ exec M n c
exec_stays M n m c h le = exec_is M m c ∙ ap outcome_of (stays M n m (Goes c) (subst (λ (o : Outcome). IsOver o.end) (exec_is M n c) h) le) ∙ sym (exec_is M n c)

-- what goes on did so after fewer steps
pub was_going : (M : WasmModule) (n m : ℕ) (d : Did) → n ≤ m → (reached_after (reach M m) d).end ≡ Going → (reached_after (reach M n) d).end ≡ Going
was_going M n m d le h =
    elim (over_or_going (reached_after (reach M n) d).end) [
      | inl over ↦ absurd (subst IsOver (ap (λ (r : Reached). r.end) (sym (stays M n m d over le)) ∙ h) over)
      | inr going ↦ going
    ]

-- ---- steps add up

-- no step
pub comes_none : {M : WasmModule} {c : Config} → LeadsTo M 0 c c
comes_none {M} {c} = record { by = λ j. ap (λ n. reach M n c) (omega arith) }

-- steps after steps
pub comes_on : {M : WasmModule} {m n : ℕ} {a b c : Config} → LeadsTo M m a b → LeadsTo M n b c → LeadsTo M (m + n) a c
comes_on {M} {m} {n} {a} p q =
    record { by = λ j. let e : m + n + j ≡ m + (n + j) = omega arith in ap (λ k. reach M k a) e ∙ p.by (n + j) ∙ q.by j }

-- one step
pub comes_one : {M : WasmModule} {a b : Config} → begin M (next a) ≡ Goes b → LeadsTo M 1 a b
comes_one {M} {a} h =
    record { by = λ j. let e : 1 + j ≡ suc j = omega arith in ap (λ k. reach M k a) e ∙ ap (reached_after (reach M j)) h }

-- configurations that differ by silent ends alone reach the same
pub same_next : (M : WasmModule) (j : ℕ) (a b : Config) → next a ≡ next b → reach M j a ≡ reach M j b
same_next M zero a b h = ap reached_at_rest h
same_next M (suc j) a b h = ap (λ x. reached_after (reach M j) (begin M x)) h

-- so nothing but silent ends lies between the two
pub comes_silent : {M : WasmModule} {a b : Config} → next a ≡ next b → LeadsTo M 0 a b
comes_silent {M} {a} {b} h = record { by = λ j. ap (λ n. reach M n a) (omega arith) ∙ same_next M j a b h }

-- outcomes follow
pub comes_exec : {M : WasmModule} {m : ℕ} {c c' : Config} → LeadsTo M m c c' → (j : ℕ) → exec M (m + j) c ≡ exec M j c'
comes_exec {M} {m} {c} {c'} p j = exec_is M (m + j) c ∙ ap outcome_of (p.by j) ∙ sym (exec_is M j c')

-- ---- how a stretch of code is left

module _ {M : WasmModule} {m n : ℕ} {a b : List Instr} {w w' : World} {vs vs' : List CoreValue} {ls ls' : List (Option CoreValue)} {x : Exit} where
  then_goes : Leaves M m a w vs ls (Falls w' vs' ls') → Leaves M n b w' vs' ls' x → (rest : List Instr) (k : Around) (j : ℕ) → j < m + n → (reach M j (At w vs ls (a ++ (b ++ rest)) k)).end ≡ Going
  then_goes p q rest k j h =
      elim (cases_lt j m) [
        | inl less ↦ p.going (b ++ rest) k j less
        | inr le ↦
            let e : j ≡ m + (j - m) = omega arith in
            let left : j - m < n = omega arith in
            ap (λ (t : ℕ). (reach M t (At w vs ls (a ++ (b ++ rest)) k)).end) e
            ∙ ap (λ (r : Reached). r.end) (p.by (b ++ rest) k (j - m))
            ∙ q.going rest k (j - m) left
      ]

  -- one stretch after another
  pub leaves_then : Leaves M m a w vs ls (Falls w' vs' ls') → Leaves M n b w' vs' ls' x → Leaves M (m + n) (a ++ b) w vs ls x
  leaves_then p q =
      record {
        by = λ rest k j.
            let e : m + n + j ≡ m + (n + j) = omega arith in
            ap (λ t. reach M t (At w vs ls ((a ++ b) ++ rest) k)) e
            ∙ ap (λ c. reach M (m + (n + j)) (At w vs ls c k)) (append_assoc a b rest)
            ∙ p.by (b ++ rest) k (n + j) ∙ q.by rest k j;
        going = λ rest k j h. ap (λ c. (reach M j (At w vs ls c k)).end) (append_assoc a b rest) ∙ then_goes p q rest k j h;
      }

early_rest : (x : Exit) (a b : List Instr) (k : Around) → IsEarly x → leads x a k ≡ leads x b k
early_rest (Falls w vs ls) a b k h = absurd h
early_rest (Branches w l vs ls) a b k h = refl
early_rest (Throws w ls) a b k h = refl
early_rest (Halts e w) a b k h = refl

lone : (M : WasmModule) (i : Instr) (w : World) (vs : List CoreValue) (ls : List (Option CoreValue)) (rest : List Instr) (k : Around) (n : ℕ)
    → n < 1 → (reach M n (At w vs ls (i ∷ rest) k)).end ≡ Going
lone M i w vs ls rest k n h = let e : n ≡ 0 = omega arith in ap (λ t. (reach M t (At w vs ls (i ∷ rest) k)).end) e

-- m + j, so that it computes where m is a numeral
abbrev pub more : ℕ → ℕ → ℕ
more zero j = j
more (suc m) j = suc (more m j)

more_is : (m j : ℕ) → m + j ≡ more m j
more_is zero j = omega arith
more_is (suc m) j = let e : suc m + j ≡ suc (m + j) = omega arith in e ∙ ap suc (more_is m j)

-- the run goes on one step before
abbrev pub IsGoingBefore : WasmModule → ℕ → Config → Type 0
IsGoingBefore M zero c = Unit {0}
IsGoingBefore M (suc m) c = (reach M m c).end ≡ Going

before_all : (M : WasmModule) (m : ℕ) (c : Config) → IsGoingBefore M m c → (n : ℕ) → n < m → (reach M n c).end ≡ Going
before_all M zero c h n lt = absurd (omega arith)
before_all M (suc m) c h n lt = let le : n ≤ m = omega arith in was_going M n m (Goes c) le h

module _ {M : WasmModule} {w : World} {vs : List CoreValue} {ls : List (Option CoreValue)} where
  -- no code takes no step
  pub leaves_none : Leaves M 0 [] w vs ls (Falls w vs ls)
  leaves_none =
      record {
        by = λ rest k j. ap (λ n. reach M n (At w vs ls rest k)) (omega arith);
        going = λ rest k n h. absurd (omega arith);
      }

  -- code that is left before its end is so with any code behind it
  pub leaves_early : {m : ℕ} {a : List Instr} {x : Exit} (b : List Instr) → IsEarly x → Leaves M m a w vs ls x → Leaves M m (a ++ b) w vs ls x
  leaves_early {m} {a} {x} b early p =
      record {
        by = λ rest k j.
            ap (λ c. reach M (m + j) (At w vs ls c k)) (append_assoc a b rest)
            ∙ p.by (b ++ rest) k j ∙ ap (reached_after (reach M j)) (early_rest x (b ++ rest) rest k early);
        going = λ rest k n h. ap (λ c. (reach M n (At w vs ls c k)).end) (append_assoc a b rest) ∙ p.going (b ++ rest) k n h;
      }

  -- one instruction
  pub leaves_one : {i : Instr} {x : Exit} → ((rest : List Instr) (k : Around) → act M (out-Instr i) w vs ls rest k ≡ leads x rest k) → Leaves M 1 (i ∷ []) w vs ls x
  leaves_one {i} {x} h =
      record {
        by = λ rest k j.
            let e : 1 + j ≡ suc j = omega arith in
            ap (λ n. reach M n (At w vs ls (i ∷ rest) k)) e ∙ ap (reached_after (reach M j)) (h rest k);
        going = λ rest k n h. lone M i w vs ls rest k n h;
      }

  -- a stretch that is run by computation: `leaves_by 12 (λ rest k. refl) (λ rest k j. refl)` under `unfolding out-Instr out`
  pub leaves_by : {code : List Instr} {x : Exit} (m : ℕ) → ((rest : List Instr) (k : Around) → IsGoingBefore M m (At w vs ls (code ++ rest) k))
      → ((rest : List Instr) (k : Around) (j : ℕ) → reach M (more m j) (At w vs ls (code ++ rest) k) ≡ reached_after (reach M j) (leads x rest k)) → Leaves M m code w vs ls x
  leaves_by {code} m before h =
      record {
        by = λ rest k j. ap (λ n. reach M n (At w vs ls (code ++ rest) k)) (more_is m j) ∙ h rest k j;
        going = λ rest k n lt. before_all M m (At w vs ls (code ++ rest) k) (before rest k) n lt;
      }

  -- one instruction, and what comes after it
  pub leaves_next : {n : ℕ} {i : Instr} {b : List Instr} {w' : World} {vs' : List CoreValue} {ls' : List (Option CoreValue)} {x : Exit}
      → Leaves M 1 (i ∷ []) w vs ls (Falls w' vs' ls') → Leaves M n b w' vs' ls' x → Leaves M (suc n) (i ∷ b) w vs ls x
  leaves_next {n} {i} {b} {x = x} p q = let e : 1 + n ≡ suc n = omega arith in subst (λ t. Leaves M t (i ∷ b) w vs ls x) e (leaves_then p q)

  -- the same number of steps in another form
  pub leaves_steps : {m n : ℕ} {code : List Instr} {x : Exit} → m ≡ n → Leaves M m code w vs ls x → Leaves M n code w vs ls x
  leaves_steps {code = code} {x} e p = subst (λ t. Leaves M t code w vs ls x) e p

  -- the same exit in another form
  pub leaves_as : {m : ℕ} {code : List Instr} {x y : Exit} → x ≡ y → Leaves M m code w vs ls x → Leaves M m code w vs ls y
  leaves_as {m} {code} e p = subst (λ z. Leaves M m code w vs ls z) e p

  -- a stretch with no code behind it
  pub leaves_whole : {m : ℕ} {code : List Instr} {x : Exit} → Leaves M m code w vs ls x → (k : Around) (j : ℕ) → reach M (m + j) (At w vs ls code k) ≡ reached_after (reach M j) (leads x [] k)
  leaves_whole {m} {code} p k j = ap (λ c. reach M (m + j) (At w vs ls c k)) (sym (append-nil code)) ∙ p.by [] k j

  -- it goes on until it is left
  pub leaves_whole_going : {m : ℕ} {code : List Instr} {x : Exit} → Leaves M m code w vs ls x → (k : Around) (n : ℕ) → n < m → (reach M n (At w vs ls code k)).end ≡ Going
  leaves_whole_going {code = code} p k n h = ap (λ c. (reach M n (At w vs ls c k)).end) (sym (append-nil code)) ∙ p.going [] k n h

  -- what a stretch says of outcomes
  pub leaves_exec : {m : ℕ} {code : List Instr} {x : Exit} → Leaves M m code w vs ls x → (rest : List Instr) (k : Around) (j : ℕ)
      → exec M (m + j) (At w vs ls (code ++ rest) k) ≡ after (exec M j) (leads x rest k)
  leaves_exec {m} {code} {x} p rest k j = exec_is M (m + j) (At w vs ls (code ++ rest) k) ∙ ap outcome_of (p.by rest k j) ∙ sym (after_reach M j (leads x rest k))

  -- what a stretch that falls through says of steps
  pub leaves_comes : {m : ℕ} {code : List Instr} {w' : World} {vs' : List CoreValue} {ls' : List (Option CoreValue)}
      → Leaves M m code w vs ls (Falls w' vs' ls') → (rest : List Instr) (k : Around) → LeadsTo M m (At w vs ls (code ++ rest) k) (At w' vs' ls' rest k)
  leaves_comes p rest k = record { by = p.by rest k }
