-- A region that was made, filled, and then pointed to.
use Rattle.std.proofs.Common.{◌≡◌, ℕ, suc, ◌+◌, ◌≤◌, ◌<◌, inr, ⊎_elim, List, [], ◌∷◌, ◌++◌, length, refl, sym, ap, ◌∙◌, subst, arith}
use Rattle.fact_machine.specs.World.{World}
use Rattle.fact_actions.specs.Running.{Call}
use Rattle.fact_action_laws.specs.Footprints.{HasPlaced, HasChanged}
use Rattle.fact_action_laws.specs.Items.{crossing, crossings, number_if, numbers}
use Rattle.fact_actions.specs.Regions.{Region}
use Rattle.fact_action_laws.specs.Regions.{TransferSetting, IsInHand, regions_after}
use Rattle.fact_action_laws.proofs.Judges.{regions_append}
use Rattle.fact_action_laws.proofs.NewRegions.{Made, NewRegion}

-- a move into the region alone: seen from before, it changed nothing that was live
pub placed_new : {m m1 m2 : List ℕ} {Live Live1 Live2 R : ℕ → Type 0} {P : List ℕ → Type 0} → Made m m1 Live Live1 R → HasPlaced m1 m2 Live1 Live2 R P → HasPlaced m m2 Live Live2 (λ j. ⊥) P
placed_new {m} {m1} {m2} {Live} {Live1} {Live2} {R} {P} a b = record {
  frame = λ j live out. b.frame j (a.grows j live) (λ r. (a.fresh j r).1 live) ∙ a.frame j live;
  grows = λ j live. b.grows j (a.grows j live);
  room = omega (arith, a.room, b.room);
  stands = record {
    holds = λ x g. b.stands.holds x (record {
      same = λ j. ⊎_elim (λ r. g.same j (inr (b.grows j (a.fresh j r).0, (a.fresh j r).1))) (λ n. g.same j (inr (n.0, λ live. n.1 (a.grows j live))));
      room = g.room;
    });
  };
}

-- what stands there is as long as the memory was
pub placed_long : {m m' : List ℕ} {Live Live' D : ℕ → Type 0} {P : List ℕ → Type 0} (n : ℕ) → n ≤ length m → HasPlaced m m' Live Live' D P → HasPlaced m m' Live Live' D (λ x. P x × (n ≤ length x))
placed_long n le h = record { frame = h.frame; grows = h.grows; room = h.room; stands = record { holds = λ x a. (h.stands.holds x a, omega (arith, le, h.room, a.room)) } }

-- the region is made and filled
abbrev pub leaves_new : {c : TransferSetting} {gs : List Region} {m : List ℕ} {align size q : ℕ} {cs ds : List Call} {w w' : World} {P : List ℕ → Type 0} (r : NewRegion c gs m align size q cs w)
    → HasChanged c (regions_after gs cs) r.now (λ j. (q ≤ j) × (j < q + size)) P ds w' → HasChanged c gs m (λ j. ⊥) (λ x. P x × (q + size ≤ length x)) (cs ++ ds) w'
leaves_new {c} {gs} {m} {align} {size} {q} {cs} {ds} {w} {w'} {P} r l = record {
  now = l.now;
  ready = l.ready;
  placed = subst (λ rs. HasPlaced m l.now (IsInHand c gs) (IsInHand c rs) (λ j. ⊥) (λ x. P x × (q + size ≤ length x))) (sym (regions_append gs cs ds)) (placed_new r.made (placed_long (q + size) r.inside l.placed));
}

-- calls that move no handle answer no number
nothing : {X : Type 0} (xs ys : List X) → xs ++ ys ≡ [] → (xs ≡ []) × (ys ≡ [])
nothing [] ys h = (refl, h)
nothing (x ∷ xs) ys h = absurd (let e : suc (length (xs ++ ys)) ≡ 0 = ap length h in omega (arith, e))

pub no_numbers : (cs : List Call) → crossings cs ≡ [] → numbers cs ≡ []
no_numbers [] h = refl
no_numbers (x ∷ cs) h =
    let r = nothing (crossing x.what x.args) (crossings cs) h in
    ap (λ l. number_if l x.answer ++ numbers cs) r.0 ∙ no_numbers cs r.1
