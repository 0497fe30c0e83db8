-- What translations ask for: nothing, what one asks for and then another one, at other places of the same kinds, in place, and by a helper.
use Rattle.std.proofs.Common.{◌≡◌, ℕ, ◌-◌, ◌≤◌, ◌||◌, ◌&&◌, not, min, nat_eq, nat_le, nat_lt, Bool, true, false, List, [], ◌∷◌, ◌++◌, refl, sym, ap, ◌∙◌, subst, arith, append-nil, append_assoc, inl, inr}
use Rattle.std.specs.Prelude.{if◌then◌else◌}
use Rattle.std.specs.List.{AllZip}
use Rattle.std.proofs.lemmas.Bool.Decides.{eqb_tells}
use Rattle.fact_types.specs.declared.interface.InterfaceType.{InterfaceType}
use Rattle.fact_types.specs.FlatShapes.{IsCounted}
use Rattle.fact_types.specs.Shapes.{Shape, s_plain, s_node}
use Rattle.fact_types.specs.Tables.{Tables, HasShape}
use Rattle.fact_actions.specs.Outlining.{HelperKey, Route, RouteEnd, Translated, Translating, ValuePlace, Stack, Memory, cost, in_memories, is_in_memory, translates, translates_none, translates_pair, translates_then, turns_of}
use Rattle.fact_code_laws.specs.Places.{From, InLocals, InMemory, To, ToLocals, ToMemory, to_past}
use Rattle.fact_emit.specs.declared.places.Sides.{Sides}
use Rattle.fact_emit.specs.Asked.{AskedHelper}
use Rattle.fact_emit.specs.Movable.{CanMoveMember}
use Rattle.fact_emit.specs.Parts.{from_behind, to_behind}
use Rattle.fact_kinds.specs.declared.fuel.Fuel.{Fuel}
use Rattle.fact_kinds.specs.Asks.{helper_key, location_of_source, location_of_target}
use Rattle.fact_kinds.specs.Translations.{AreTranslated, IsFuel, IsKeyOf, IsRouteOf, TranslatesAs, place_of_location, place_of_source, place_of_target, translates_in_place, translates_inside}
use Rattle.fact_kinds.proofs.Costs.{covers_truly, takes_truly}

-- ---- one behind another

zip_append : {A B : Type 0} (R : A → B → Type 0) (xs ys : List A) (us vs : List B) → AllZip R xs us → AllZip R ys vs → AllZip R (xs ++ ys) (us ++ vs)
zip_append R [] ys [] vs h k = k
zip_append R [] ys (u ∷ us) vs h k = absurd h
zip_append R (x ∷ xs) ys [] vs h k = absurd h
zip_append R (x ∷ xs) ys (u ∷ us) vs h k = (h.0, zip_append R xs ys us vs h.1 k)

pub then_none : (v : Translating) (n : ℕ) → translates_then v translates_none n ≡ v n
then_none v n = λ i. record { left = (v n).left; asked = append-nil (v n).asked i }

pub then_behind : (u v w : Translating) (n : ℕ) → translates_then (translates_then u v) w n ≡ translates_then u (translates_then v w) n
then_behind u v w n = λ i. record { left = (w (v (u n).left).left).left; asked = append_assoc (u n).asked (v (u n).left).asked (w (v (u n).left).left).asked i }

module _ {t : Tables} {sides : Sides} {src : From} {dst : To} where
  pub fuel_on : {before after : Fuel} {asks : List AskedHelper} {v : ℕ → Route → Translating} → TranslatesAs t sides src dst before after asks v → IsFuel before → IsFuel after
  fuel_on x f = record { within = omega (arith, x.initial, x.less, f.within); small = omega (arith, x.initial, f.small) }

  -- what asks for nothing and takes nothing
  pub nothing_translated : {before : Fuel} {v : ℕ → Route → Translating} → ((i : ℕ) (r : Route) (n : ℕ) → v i r n ≡ translates_none n) → TranslatesAs t sides src dst before before [] v
  nothing_translated {before} none = record {
    initial = refl;
    less = omega arith;
    along = λ r route fuel. subst (AreTranslated t sides r [] before.left) (sym (none before.initial r before.left)) (record { left = refl; keys = tt });
  }

  pub translated_with : {before after : Fuel} {asks : List AskedHelper} {v w : ℕ → Route → Translating} → ((i : ℕ) (r : Route) (n : ℕ) → IsRouteOf r src dst → v i r n ≡ w i r n)
      → TranslatesAs t sides src dst before after asks v → TranslatesAs t sides src dst before after asks w
  translated_with {before} {after} {asks} same x = record {
    initial = x.initial;
    less = x.less;
    along = λ r route fuel. subst (AreTranslated t sides r asks after.left) (same before.initial r before.left route) (x.along r route fuel);
  }

  pub both_translated : {before between after : Fuel} {xs ys : List AskedHelper} {v w : ℕ → Route → Translating} → TranslatesAs t sides src dst before between xs v → TranslatesAs t sides src dst between after ys w
      → TranslatesAs t sides src dst before after (xs ++ ys) (λ i r. translates_then (v i r) (w i r))
  both_translated {before} {between} {after} {xs} {ys} {v} {w} x y = record {
    initial = y.initial ∙ x.initial;
    less = omega (arith, x.less, y.less);
    along = λ r route fuel.
        let first = x.along r route fuel in
        let at : w between.initial r between.left ≡ w before.initial r (v before.initial r before.left).left = λ i. w (x.initial i) r (sym first.left i) in
        let second : AreTranslated t sides r ys after.left (w before.initial r (v before.initial r before.left).left) = subst (AreTranslated t sides r ys after.left) at (y.along r route (fuel_on x fuel)) in
        record { left = second.left; keys = zip_append (IsKeyOf t sides r) xs ys (v before.initial r before.left).asked (w before.initial r (v before.initial r before.left).left).asked first.keys second.keys };
  }

-- ---- places

pub part_place : (skip count bytes : ℕ) (src : From) → place_of_source (from_behind skip count bytes src) ≡ place_of_source src
part_place skip count bytes (InLocals slots) = refl
part_place skip count bytes (InMemory memory base offset) = refl

pub spot_place : (skip count bytes : ℕ) (dst : To) → place_of_target (to_behind skip count bytes dst) ≡ place_of_target dst
spot_place skip count bytes (ToLocals slots) = refl
spot_place skip count bytes (ToMemory memory base offset) = refl

pub past_place : (count : ℕ) (dst : To) → place_of_target (to_past count dst) ≡ place_of_target dst
past_place count (ToLocals slots) = refl
past_place count (ToMemory memory base offset) = refl

-- at places of the same kinds
pub translated_at : {t : Tables} {sides : Sides} {src part : From} {dst spot : To} {before after : Fuel} {asks : List AskedHelper} {v : ℕ → Route → Translating} → place_of_source part ≡ place_of_source src → place_of_target spot ≡ place_of_target dst
    → TranslatesAs t sides part spot before after asks v → TranslatesAs t sides src dst before after asks v
translated_at from to x = record {
  initial = x.initial;
  less = x.less;
  along = λ r route fuel. x.along r (record { from = route.from ∙ sym from; to = route.to ∙ sym to }) fuel;
}

-- the ends of a route are told apart from their places
keys_along : (t : Tables) (sides : Sides) (r : Route) (asks : List AskedHelper) (keys : List HelperKey) → AllZip (IsKeyOf t sides (in_memories r)) asks keys → AllZip (IsKeyOf t sides r) asks keys
keys_along t sides r [] [] h = tt
keys_along t sides r [] (k ∷ keys) h = absurd h
keys_along t sides r (a ∷ asks) [] h = absurd h
keys_along t sides r (a ∷ asks) (k ∷ keys) h = (
  record {
    source = h.0.source;
    destination = h.0.destination;
    source_counted = h.0.source_counted;
    destination_counted = h.0.destination_counted;
    moves = h.0.moves;
    from_options = h.0.from_options;
    to_options = h.0.to_options;
    from_route = h.0.from_route;
    to_route = h.0.to_route;
  },
  keys_along t sides r asks keys h.1,
)

-- from memory to memory, whatever the places around are
pub translated_in_memories : {t : Tables} {sides : Sides} {src : From} {dst : To} {memory base offset memory' base' offset' : ℕ} {before after : Fuel} {asks : List AskedHelper} {v : ℕ → Route → Translating}
    → TranslatesAs t sides (InMemory memory base offset) (ToMemory memory' base' offset') before after asks v → TranslatesAs t sides src dst before after asks (λ i r. v i (in_memories r))
translated_in_memories {t} {sides} {before = before} {asks = asks} {v} x = record {
  initial = x.initial;
  less = x.less;
  along = λ r route fuel.
      let there = x.along (in_memories r) (record { from = refl; to = refl }) fuel in
      record { left = there.left; keys = keys_along t sides r asks (v before.initial (in_memories r) before.left).asked there.keys };
}

-- ---- turns

-- from memory to memory by a loop
pub turns_in_memories : {src : From} {dst : To} (n : ℕ) → place_of_source src ≡ Memory → place_of_target dst ≡ Memory → (r : Route) → IsRouteOf r src dst → 1 ≡ turns_of r n
turns_in_memories n from to r route =
    let e : is_in_memory r.from.place ≡ true = ap is_in_memory (route.from ∙ from) in
    let f : is_in_memory r.to.place ≡ true = ap is_in_memory (route.to ∙ to) in
    λ i. if sym e i && sym f i then 1 else n

pub turns_from_stack : {src : From} {dst : To} (n : ℕ) → place_of_source src ≡ Stack → (r : Route) → IsRouteOf r src dst → n ≡ turns_of r n
turns_from_stack n from r route =
    let e : is_in_memory r.from.place ≡ false = ap is_in_memory (route.from ∙ from) in
    λ i. if sym e i && is_in_memory r.to.place then 1 else n

pub turns_to_stack : {src : From} {dst : To} (n : ℕ) → place_of_target dst ≡ Stack → (r : Route) → IsRouteOf r src dst → n ≡ turns_of r n
turns_to_stack n to r route =
    let e : is_in_memory r.to.place ≡ false = ap is_in_memory (route.to ∙ to) in
    sym (ap (λ (b : Bool). if is_in_memory r.from.place && b then 1 else n) e ∙ neither (is_in_memory r.from.place))
  where
    neither : (b : Bool) → (if b && false then 1 else n) ≡ n
    neither true = refl
    neither false = refl

-- ---- in place

-- a helper that is asked for, or what is translated in its place
abbrev asks_for : (left : ℕ) → HelperKey → Translated
asks_for n key = record { left = n; asked = key ∷ [] }

abbrev asks_or : ℕ → HelperKey → Translated → Bool → Translated
asks_or n key x b = if b then asks_for n key else x

-- the key of a pair
abbrev key_of : Route → (source destination : Shape) → HelperKey
key_of r s u = record { source = s; destination = u; route = r }

-- a pair as the translation of its kind, or a helper
pair_is : (i : ℕ) (r : Route) (s u : Shape) (n : ℕ) → translates i r s u n ≡ translates_pair i (cost s) (key_of r s u) (translates_inside i r s u) n
unfolding translates
pair_is i r s (s_plain p) n = refl
pair_is i r s (s_node k ns) n = refl

not_true : (b : Bool) → not b ≡ true → b ≡ false
not_true true e = sym e
not_true false e = refl

not_false : (b : Bool) → not b ≡ false → b ≡ true
not_false true e = refl
not_false false e = sym e

in_place_is : (i : ℕ) (r : Route) (s u : Shape) (n : ℕ) → (nat_lt n (cost s) && not (nat_eq n i)) ≡ false → translates i r s u n ≡ translates_in_place i r s u n
in_place_is i r s u n e =
    pair_is i r s u n ∙ ap (asks_or n (key_of r s u) (translates_inside i r s u (n - cost s))) e

asked_is : (i : ℕ) (r : Route) (s u : Shape) (n : ℕ) → (nat_lt n (cost s) && not (nat_eq n i)) ≡ true → translates i r s u n ≡ asks_for n (key_of r s u)
asked_is i r s u n e =
    pair_is i r s u n ∙ ap (asks_or n (key_of r s u) (translates_inside i r s u (n - cost s))) e

-- With all fuel a pair is translated in place.
pub full_in_place : (i : ℕ) (r : Route) (s u : Shape) → translates i r s u i ≡ translates_in_place i r s u i
full_in_place i r s u = in_place_is i r s u i (ap (λ q. nat_lt i (cost s) && not q) (self i) ∙ neither (nat_lt i (cost s)))
  where
    self : (n : ℕ) → nat_eq n n ≡ true
    self n = elim (eqb_tells n n) [ inl e ↦ e.0 | inr e ↦ absurd (e.1 refl) ]

    neither : (b : Bool) → (b && not true) ≡ false
    neither true = refl
    neither false = refl

-- what a type costs, as code knows it
pub record IsCostOf (t : Tables) (from : InterfaceType) (charge : ℕ) : Type 0 where
  pub is : (s : Shape) → HasShape t from s → charge ≡ min (cost s) 4294967295

covered_is : {t : Tables} {from : InterfaceType} {charge : ℕ} (before : Fuel) (s : Shape) {covered : Bool} → IsCostOf t from charge → HasShape t from s → covered ≡ (nat_le charge before.left || nat_eq before.left before.initial) → IsFuel before
    → covered ≡ not (nat_lt before.left (cost s) && not (nat_eq before.left before.initial))
covered_is before s costs hs is fuel = is ∙ ap (λ (c : ℕ). nat_le c before.left || nat_eq before.left before.initial) (costs.is s hs) ∙ covers_truly (cost s) before.left before.initial fuel.within fuel.small

module _ {t : Tables} {from : InterfaceType} {sides : Sides} {src : From} {dst : To} {before after : Fuel} {asks : List AskedHelper} {charge : ℕ} (costs : IsCostOf t from charge) (s u : Shape) (hs : HasShape t from s) where
  -- A pair that the fuel covers is translated in place.
  pub covered_translated : (covered : Bool) → covered ≡ (nat_le charge before.left || nat_eq before.left before.initial) → covered ≡ true
      → TranslatesAs t sides src dst before after asks (λ i r. translates_in_place i r s u) → TranslatesAs t sides src dst before after asks (λ i r. translates i r s u)
  covered_translated covered is holds x = record {
    initial = x.initial;
    less = x.less;
    along = λ r route fuel.
        let short = not_true (nat_lt before.left (cost s) && not (nat_eq before.left before.initial)) (sym (covered_is before s costs hs is fuel) ∙ holds) in
        subst (AreTranslated t sides r asks after.left) (sym (in_place_is before.initial r s u before.left short)) (x.along r route fuel);
  }

  -- Its cost is taken before its members are translated.
  pub charged_translated : {between : Fuel} → between.initial ≡ before.initial → between.left ≡ before.left - charge
      → TranslatesAs t sides src dst between after asks (λ i r. translates_inside i r s u) → TranslatesAs t sides src dst before after asks (λ i r. translates_in_place i r s u)
  charged_translated {between} same left x = record {
    initial = x.initial ∙ same;
    less = omega (arith, x.less, left);
    along = λ r route fuel.
        let small : before.left ≤ 4294967295 = omega (arith, fuel.within, fuel.small) in
        let left_is : between.left ≡ before.left - cost s = left ∙ ap (λ (c : ℕ). before.left - c) (costs.is s hs) ∙ takes_truly (cost s) before.left small in
        let fuel' : IsFuel between = record { within = omega (arith, left, same, fuel.within); small = omega (arith, same, fuel.small) } in
        subst (AreTranslated t sides r asks after.left) (λ i. translates_inside (same i) r s u (left_is i)) (x.along r route fuel');
  }

-- ---- by a helper

end_at : (e : RouteEnd) (p : ValuePlace) → e.place ≡ p → e ≡ record e { place = p }
end_at e p h = λ i. record e { place = h i }

source_location : (src : From) → place_of_source src ≡ place_of_location (location_of_source src)
source_location (InLocals slots) = refl
source_location (InMemory memory base offset) = refl

target_location : (dst : To) → place_of_target dst ≡ place_of_location (location_of_target dst)
target_location (ToLocals slots) = refl
target_location (ToMemory memory base offset) = refl

key_is : (t : Tables) (sides : Sides) (from to : InterfaceType) (src : From) (dst : To) (a : AskedHelper) (r : Route) (s u : Shape) → a.key ≡ helper_key sides from to src dst → IsRouteOf r src dst
    → HasShape t from s → HasShape t to u → IsCounted s → IsCounted u → CanMoveMember s u → IsKeyOf t sides r a (key_of r s u)
key_is t sides from to src dst a r s u key route hs hu cs cu can = record {
  source = subst (λ k. HasShape t k.src.ty s) (sym key) hs;
  destination = subst (λ k. HasShape t k.dst.ty u) (sym key) hu;
  source_counted = cs;
  destination_counted = cu;
  moves = can;
  from_options = ap (λ k. k.src.opts) key;
  to_options = ap (λ k. k.dst.opts) key;
  from_route = end_at r.from (place_of_location a.key.src.loc) (route.from ∙ source_location src ∙ ap (λ k. place_of_location k.src.loc) (sym key));
  to_route = end_at r.to (place_of_location a.key.dst.loc) (route.to ∙ target_location dst ∙ ap (λ k. place_of_location k.dst.loc) (sym key));
}

-- A pair that the fuel does not cover is left to a helper.
pub left_translated : {t : Tables} {from to : InterfaceType} {sides : Sides} {src : From} {dst : To} {before : Fuel} {charge : ℕ} → IsCostOf t from charge → (s u : Shape) → HasShape t from s → HasShape t to u → IsCounted s → IsCounted u → CanMoveMember s u
    → (a : AskedHelper) → a.key ≡ helper_key sides from to src dst → (covered : Bool) → covered ≡ (nat_le charge before.left || nat_eq before.left before.initial) → covered ≡ false
    → TranslatesAs t sides src dst before before (a ∷ []) (λ i r. translates i r s u)
left_translated {t} {from} {to} {sides} {src} {dst} {before} costs s u hs hu cs cu can a key covered is fails = record {
  initial = refl;
  less = omega arith;
  along = λ r route fuel.
      let short = not_false (nat_lt before.left (cost s) && not (nat_eq before.left before.initial)) (sym (covered_is before s costs hs is fuel) ∙ fails) in
      subst (AreTranslated t sides r (a ∷ []) before.left) (sym (asked_is before.initial r s u before.left short)) (record { left = refl; keys = (key_is t sides from to src dst a r s u key route hs hu cs cu can, tt) });
}
