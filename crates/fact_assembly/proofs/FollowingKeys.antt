-- The keys of the helpers that follow, where helpers are written in turn.
use Rattle.std.proofs.Common.{◌≡◌, ℕ, zero, suc, ◌+◌, ◌-◌, ◌<◌, Bool, List, [], ◌∷◌, ◌++◌, Some, refl, sym, ap, ◌∙◌, subst, arith, inl, inr, append-nil, append_assoc, length, length-append, map, slice_get, Contains}
use Rattle.std.specs.List.{AllByRecursion, AllZip, range_with_len}
use Rattle.std.proofs.lemmas.List.Elements.{Contains-append_cases}
use Rattle.fact_machine.proofs.Tests.{get_append}
use Rattle.fact_wasm.specs.declared.module.WasmFunc.{WasmFunc}
use Rattle.fact_types.specs.Tables.{Tables}
use Rattle.fact_actions.specs.Outlining.{AreFollowing, AreNew, HelperKey, LastComes, NoneWaits, helper_asks}
use Rattle.fact_emit.specs.Asked.{AskedHelper, entry_of}
use Rattle.fact_emit.specs.NamedFunctions.{all_added_once}
use Rattle.fact_emit.specs.States.{ModuleSoFar, next_number}
use Rattle.fact_emit.specs.declared.helpers.Helper.{Helper}
use Rattle.fact_compound.specs.Asks.{AsksFor, IsAskedHere, helpers_from}
use Rattle.fact_compound.specs.Helpers.{AreWrittenInTurn, NoneWaits as NoHelperWaits, OneIsNext, WroteHelper}
use Rattle.fact_compound.proofs.HelpersUsed.{among}
use Rattle.fact_assembly.proofs.FirstAsked.{type-number}
use Rattle.fact_assembly.proofs.NameLaws.{get-behind}
use Rattle.fact_assembly.proofs.NewKeys.{AreFirst, AreOnceThere, AskKeys, HasNewKeys, HaveKeys, first-asked, keys-behind, new-keys}

-- ---- lists side by side

pub zip-count : {X Y : Type 0} (R : X → Y → Type 0) (xs : List X) (ys : List Y) → AllZip R xs ys → length xs ≡ length ys
zip-count R [] [] h = refl
zip-count R [] (y ∷ ys) h = absurd h
zip-count R (x ∷ xs) [] h = absurd h
zip-count R (x ∷ xs) (y ∷ ys) h = ap suc (zip-count R xs ys h.1)

pub zip-on : {X Y : Type 0} (R : X → Y → Type 0) (xs xs' : List X) (ys ys' : List Y) → AllZip R xs ys → AllZip R xs' ys' → AllZip R (xs ++ xs') (ys ++ ys')
zip-on R [] xs' [] ys' h g = g
zip-on R [] xs' (y ∷ ys) ys' h g = absurd h
zip-on R (x ∷ xs) xs' [] ys' h g = absurd h
zip-on R (x ∷ xs) xs' (y ∷ ys) ys' h g = (h.0, zip-on R xs xs' ys ys' h.1 g)

pub zip-more : {X Y : Type 0} (R S : X → Y → Type 0) → ((x : X) (y : Y) → R x y → S x y) → (xs : List X) (ys : List Y) → AllZip R xs ys → AllZip S xs ys
zip-more R S f [] [] h = tt
zip-more R S f [] (y ∷ ys) h = absurd h
zip-more R S f (x ∷ xs) [] h = absurd h
zip-more R S f (x ∷ xs) (y ∷ ys) h = (f x y h.0, zip-more R S f xs ys h.1)

record IsLastOf {X Y : Type 0} (R : X → Y → Type 0) (xs : List X) (x : X) (ys : List Y) : Type 0 where
  front : List Y
  last : Y
  is : ys ≡ front ++ last ∷ []
  before : AllZip R xs front
  holds : R x last

zip-last : {X Y : Type 0} (R : X → Y → Type 0) (xs : List X) (x : X) (ys : List Y) → AllZip R (xs ++ x ∷ []) ys → IsLastOf R xs x ys
zip-last R [] x [] h = absurd h
zip-last R [] x (y ∷ []) h = record { front = []; last = y; is = refl; before = tt; holds = h.0 }
zip-last R [] x (y ∷ z ∷ ys) h = absurd h.1
zip-last R (w ∷ xs) x [] h = absurd h
zip-last R (w ∷ xs) x (y ∷ ys) h =
    let rest = zip-last R xs x ys h.1 in
    record { front = y ∷ rest.front; last = rest.last; is = ap (λ zs. y ∷ zs) rest.is; before = (h.0, rest.before); holds = rest.holds }

pub zip-at : {X Y : Type 0} (R : X → Y → Type 0) (xs : List X) (ys : List Y) (k : ℕ) (x : X) (y : Y) → AllZip R xs ys → slice_get xs k ≡ Some x → slice_get ys k ≡ Some y → R x y
zip-at R [] ys k x y h e g = cc
zip-at R (w ∷ xs) [] k x y h e g = absurd h
zip-at R (w ∷ xs) (z ∷ ys) zero x y h e g =
    let first : w ≡ x = cc in
    let second : z ≡ y = cc in
    subst (λ v. R v y) first (subst (λ v. R w v) second h.0)
zip-at R (w ∷ xs) (z ∷ ys) (suc k) x y h e g = zip-at R xs ys k x y h.1 e g

-- what stands behind stands in the places behind
pub behind-at : {X : Type 0} (xs ys : List X) → AllZip (λ k y. slice_get (xs ++ ys) k ≡ Some y) (range_with_len (length xs) (length ys)) ys
behind-at xs [] = tt
behind-at xs (y ∷ ys) =
    let here : slice_get (xs ++ y ∷ ys) (length xs) ≡ Some y = (let at : length xs ≡ length xs + 0 = omega arith in ap (slice_get (xs ++ y ∷ ys)) at ∙ get-behind xs (y ∷ ys) 0) in
    let all : (xs ++ y ∷ []) ++ ys ≡ xs ++ y ∷ ys = append_assoc xs (y ∷ []) ys in
    let next : length (xs ++ y ∷ []) ≡ length xs + 1 = length-append xs (y ∷ []) in
    (here, subst (λ n. AllZip (λ k z. slice_get (xs ++ y ∷ ys) k ≡ Some z) (range_with_len n (length ys)) ys) next (subst (λ zs. AllZip (λ k z. slice_get zs k ≡ Some z) (range_with_len (length (xs ++ y ∷ [])) (length ys)) ys) all (behind-at (xs ++ y ∷ []) ys)))

-- ---- states

module _ (IsKey : Helper → HelperKey → Type 0) (one-key : (h : Helper) (k l : HelperKey) → IsKey h k → IsKey h l → k ≡ l) (one-helper : (h g : Helper) (k : HelperKey) → IsKey h k → IsKey g k → h ≡ g) where
  -- The helpers of a module have these keys, each stands there once, and their numbers are taken.
  pub record IsKeyedState (s : ModuleSoFar) (known : List HelperKey) : Type 0 where
    pub keyed : HaveKeys IsKey one-key one-helper s.helpers known
    pub once : AreOnceThere s.helpers
    pub below : (e : Helper × ℕ) → Contains s.helpers e → e.1 < next_number s

  -- Code asks for helpers, and those that are new are new in that order.
  pub record HasAskedKeys (old new : ModuleSoFar) (known asked : List HelperKey) : Type 0 where
    pub fresh : List HelperKey
    pub more : List Helper
    pub helpers : new.helpers ≡ old.helpers ++ helpers_from (next_number old) more
    pub new_keys : HasNewKeys IsKey one-key one-helper known asked (helpers_from (next_number old) more)
    pub fresh_is : new_keys.new ≡ fresh
    pub state : IsKeyedState new (known ++ fresh)

  pub asked-keys : {t : Tables} {debug concurrency : Bool} {old new : ModuleSoFar} (asks : List AskedHelper) (known asked : List HelperKey) → AsksFor t debug concurrency asks old new
      → all_added_once (range_with_len 0 (next_number old)) (map (λ (a : AskedHelper). a.number) asks) ≡ range_with_len 0 (next_number new) → AreOnceThere new.helpers → IsKeyedState old known → AskKeys IsKey one-key one-helper asks asked
      → HasAskedKeys old new known asked
  asked-keys {t} {debug} {concurrency} {old} {new} asks known asked a order once s keys =
      let more : List Helper = a.new_asked.more in
      let fresh : List (Helper × ℕ) = helpers_from (next_number old) more in
      let grown : new.helpers ≡ old.helpers ++ fresh = a.new_asked.helpers in
      let first : AreFirst old.helpers asks fresh =
      first-asked asks (next_number old) more old.helpers (order ∙ ap (range_with_len 0) a.new_asked.next) s.below (subst AreOnceThere grown once) (there asks a.asked) in
      let keyed = new-keys IsKey one-key one-helper known asked first s.keyed keys in
      record {
        fresh = keyed.new;
        more = more;
        helpers = grown;
        new_keys = keyed;
        fresh_is = refl;
        state = record {
          keyed = subst (λ es. HaveKeys IsKey one-key one-helper es (known ++ keyed.new)) (sym grown) (keys-behind IsKey one-key one-helper old.helpers fresh known keyed.new s.keyed keyed.keyed);
          once = once;
          below = λ e c. elim (Contains-append_cases old.helpers fresh e (subst (λ es. Contains es e) grown c)) [
            | inl was ↦ let lt = s.below e was in omega (arith, lt, a.new_asked.next)
            | inr anew ↦ let at = among (next_number old) more e anew in omega (arith, at.number, at.below, a.new_asked.next)
          ];
        };
      }
    where
      there : (xs : List AskedHelper) → AllByRecursion (IsAskedHere t debug concurrency new) xs → AllByRecursion (λ x. Contains (old.helpers ++ helpers_from (next_number old) a.new_asked.more) (entry_of x)) xs
      there [] h = tt
      there (x ∷ xs) h = (subst (λ es. Contains es (entry_of x)) a.new_asked.helpers h.0.there, there xs h.1)

  -- ---- helpers that are written in turn

  module _ {t : Tables} {debug concurrency : Bool} {fuel : ℕ} (asks-keys : (k : Helper) (old new : ModuleSoFar) (f : WasmFunc) (w : WroteHelper t debug concurrency fuel k old new f) (key : HelperKey) → IsKey k key → AskKeys IsKey one-key one-helper w.asks (helper_asks fuel key))
      (once-still : (k : Helper) (old new : ModuleSoFar) (f : WasmFunc) → WroteHelper t debug concurrency fuel k old new f → AreOnceThere old.helpers → AreOnceThere new.helpers) where
    pub record HasFollowing (end : ModuleSoFar) (known waiting : List HelperKey) : Type 0 where
      pub all : List HelperKey
      pub behind : List HelperKey
      pub are : AreFollowing fuel known waiting all behind
      pub all_is : all ≡ known ++ behind
      pub state : IsKeyedState end all

    one-turn : {k : Helper} {old new : ModuleSoFar} {f : WasmFunc} (w : WroteHelper t debug concurrency fuel k old new f) (known : List HelperKey) (key : HelperKey) → IsKey k key → IsKeyedState old known → HasAskedKeys old new known (helper_asks fuel key)
    one-turn {k} {old} {new} {f} w known key is s =
        let order : all_added_once (range_with_len 0 (next_number old)) (map (λ (a : AskedHelper). a.number) w.asks) ≡ range_with_len 0 (next_number new) =
        (λ i. all_added_once (range_with_len 0 (sym (type-number w.declares) i)) (sym w.named i)) ∙ w.brought.asked in
        asked-keys w.asks known (helper_asks fuel key) w.asked order (once-still k old new f w s.once) s (asks-keys k old new f w key is)

    pub following : {end s : ModuleSoFar} {places : List ℕ} {order : List (ℕ × WasmFunc)} (known waiting : List HelperKey) → AreWrittenInTurn t debug concurrency fuel end s places order → IsKeyedState s known
        → AllZip (λ place k. slice_get known place ≡ Some k) places waiting → HasFollowing end known waiting
    following known [] NoHelperWaits s h = record { all = known; behind = []; are = NoneWaits known; all_is = (let none : known ≡ known ++ [] = sym (append-nil known) in none); state = s }
    following known (k ∷ ks) NoHelperWaits s h = absurd h
    following {end} known waiting (OneIsNext s s' places place e f order at w rest) state h =
        let last = zip-last (λ p k. slice_get known p ≡ Some k) places place waiting h in
        let key : HelperKey = last.last in
        let is = zip-at (λ (x : Helper × ℕ) k. IsKey x.0 k) s.helpers known place e key state.keyed at last.holds in
        let turn = one-turn w known key is state in
        let new : List HelperKey = turn.fresh in
        let count : length s.helpers ≡ length known = zip-count (λ (x : Helper × ℕ) k. IsKey x.0 k) s.helpers known state.keyed in
        let count' : length s'.helpers ≡ length (known ++ new) = zip-count (λ (x : Helper × ℕ) k. IsKey x.0 k) s'.helpers (known ++ new) turn.state.keyed in
        let many : length s'.helpers - length s.helpers ≡ length new = omega (arith, count, count', length-append known new) in
        let before = zip-more (λ p k. slice_get known p ≡ Some k) (λ p k. slice_get (known ++ new) p ≡ Some k) (λ p k e'. get_append known new p k e') places last.front last.before in
        let behind : AllZip (λ p k. slice_get (known ++ new) p ≡ Some k) (range_with_len (length s.helpers) (length s'.helpers - length s.helpers)) new =
        subst (λ n. AllZip (λ p k. slice_get (known ++ new) p ≡ Some k) (range_with_len (length s.helpers) n) new) (sym many)
        (subst (λ n. AllZip (λ p k. slice_get (known ++ new) p ≡ Some k) (range_with_len n (length new)) new) (sym count) (behind-at known new)) in
        let more = following (known ++ new) (last.front ++ new) rest turn.state
        (zip-on (λ p k. slice_get (known ++ new) p ≡ Some k) places (range_with_len (length s.helpers) (length s'.helpers - length s.helpers)) last.front new before behind) in
        record {
          all = more.all;
          behind = new ++ more.behind;
          are = subst (λ ks. AreFollowing fuel known ks more.all (new ++ more.behind)) (sym last.is) (LastComes known last.front key new more.all more.behind (subst (λ ns. AreNew known (helper_asks fuel key) ns) turn.fresh_is turn.new_keys.are) more.are);
          all_is = more.all_is ∙ append_assoc known new more.behind;
          state = more.state;
        }
