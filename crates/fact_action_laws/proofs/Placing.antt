-- Footprints one after another.
use Rattle.std.proofs.Common.{ℕ, ◌⊎◌, inl, inr, ⊎_elim, List, ◌++◌, refl, sym, ◌∙◌, subst, arith}
use Rattle.fact_machine.specs.World.{World}
use Rattle.fact_actions.specs.Running.{Call}
use Rattle.fact_actions.specs.Regions.{Region}
use Rattle.fact_action_laws.specs.Regions.{TransferSetting, IsInHand, regions_after}
use Rattle.fact_action_laws.specs.Footprints.{HasPlaced, HasChanged}
use Rattle.fact_action_laws.proofs.Judges.{regions_append}

-- one after another, at places apart
pub placed_then : {m m1 m2 : List ℕ} {Live Live1 Live2 D1 D2 : ℕ → Type 0} {P1 P2 : List ℕ → Type 0}
    → ((j : ℕ) → D1 j → D2 j → ⊥) → ((j : ℕ) → D1 j → Live j) → ((j : ℕ) → D2 j → Live j)
    → HasPlaced m m1 Live Live1 D1 P1 → HasPlaced m1 m2 Live1 Live2 D2 P2 → HasPlaced m m2 Live Live2 (λ j. D1 j ⊎ D2 j) (λ m. P1 m × P2 m)
placed_then {m} {m1} {m2} {Live} {Live1} {Live2} {D1} {D2} {P1} {P2} apart in1 in2 a b = record {
  frame = λ j live out. b.frame j (a.grows j live) (λ d. out (inr d)) ∙ a.frame j live (λ d. out (inl d));
  grows = λ j live. b.grows j (a.grows j live);
  room = omega (arith, a.room, b.room);
  stands = record {
    holds = λ m' g. (
      a.stands.holds m' (record {
        same = λ j. ⊎_elim
            (λ d. g.same j (inl (inl d)) ∙ b.frame j (a.grows j (in1 j d)) (λ d2. apart j d d2))
            (λ new. g.same j (inr (b.grows j new.0, new.1)) ∙ b.frame j new.0 (λ d2. new.1 (in2 j d2)));
        room = omega (arith, b.room, g.room);
      }),
      b.stands.holds m' (record { same = λ j. ⊎_elim (λ d. g.same j (inl (inr d))) (λ new. g.same j (inr (new.0, λ live. new.1 (a.grows j live)))); room = g.room }),
    );
  };
}

-- seen at more addresses, with less said
pub placed_wider : {m m' : List ℕ} {Live Live' D D' : ℕ → Type 0} {P Q : List ℕ → Type 0} → ((j : ℕ) → D j → D' j) → ((x : List ℕ) → P x → Q x) → HasPlaced m m' Live Live' D P → HasPlaced m m' Live Live' D' Q
placed_wider {m} {m'} {Live} {Live'} {D} {D'} f g h = record {
  frame = λ j live out. h.frame j live (λ d. out (f j d));
  grows = h.grows;
  room = h.room;
  stands = record { holds = λ x a. g x (h.stands.holds x (record { same = λ j. ⊎_elim (λ d. a.same j (inl (f j d))) (λ n. a.same j (inr n)); room = a.room })) };
}

-- nothing was done
pub placed_nothing : {m : List ℕ} {Live : ℕ → Type 0} (P : List ℕ → Type 0) → ((x : List ℕ) → P x) → HasPlaced m m Live Live (λ j. ⊥) P
placed_nothing P h = record { frame = λ j live out. refl; grows = λ j live. live; room = omega arith; stands = record { holds = λ x a. h x } }

module _ {c : TransferSetting} {gs : List Region} {m : List ℕ} where
  pub leaves_wider : {D D' : ℕ → Type 0} {P Q : List ℕ → Type 0} {cs : List Call} {w : World} → ((j : ℕ) → D j → D' j) → ((x : List ℕ) → P x → Q x) → HasChanged c gs m D P cs w → HasChanged c gs m D' Q cs w
  leaves_wider f g l = record { now = l.now; ready = l.ready; placed = placed_wider f g l.placed }

  pub leaves_then : {D1 D2 : ℕ → Type 0} {P1 P2 : List ℕ → Type 0} {cs ds : List Call} {w1 w2 : World}
      → ((j : ℕ) → D1 j → D2 j → ⊥) → ((j : ℕ) → D1 j → IsInHand c gs j) → ((j : ℕ) → D2 j → IsInHand c gs j)
      → (a : HasChanged c gs m D1 P1 cs w1) → HasChanged c (regions_after gs cs) a.now D2 P2 ds w2 → HasChanged c gs m (λ j. D1 j ⊎ D2 j) (λ x. P1 x × P2 x) (cs ++ ds) w2
  leaves_then {D1} {D2} {P1} {P2} {cs} {ds} {w1} {w2} apart in1 in2 a b = record {
    now = b.now;
    ready = b.ready;
    placed = subst (λ rs. HasPlaced m b.now (IsInHand c gs) (IsInHand c rs) (λ j. D1 j ⊎ D2 j) (λ x. P1 x × P2 x)) (sym (regions_append gs cs ds)) (placed_then apart in1 in2 a.placed b.placed);
  }
