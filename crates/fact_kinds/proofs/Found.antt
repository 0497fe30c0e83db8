-- A field that was found among members: where it stands among the flat types and the bytes of all.
use Rattle.std.proofs.Common.{◌≡◌, ℕ, ◌+◌, ◌≤◌, Bool, true, false, ◌||◌, List, [], ◌++◌, length, Option, Some, None, refl, sym, ap, ◌∙◌, subst, arith, append_assoc}
use Rattle.std.specs.Prelude.{unwrap_or, nat_le, if◌then◌else◌}
use Rattle.std.specs.Str.{bytes_eq}
use Rattle.std.proofs.lemmas.Bool.{le-leb, or_left, or_right}
use Rattle.std.proofs.lemmas.List.{length-append}
use Rattle.fact_types.specs.declared.flats.FlatType.{FlatType}
use Rattle.fact_types.specs.declared.extents.MemoryWidth.{MemoryWidth}
use Rattle.fact_types.specs.declared.extents.MemoryWidth.TheVariants.{Memory32, Memory64}
use Rattle.fact_types.specs.Fields.{Field, find}
use Rattle.fact_types.specs.Flat.{flat_within}
use Rattle.fact_types.specs.FlatShapes.{flat, flat_members, IsCounted, AreCounted}
use Rattle.fact_types.specs.PointerPairs.{has_pointer_pair, have_pointer_pair}
use Rattle.fact_types.specs.Shapes.{Shape, Members, no_members, bare, typed, layout_of, place_of, next_of, ends_of}
use Rattle.fact_types.proofs.CountLaws.{count_is_length}
use Rattle.fact_types.proofs.PlaceLaws.{ends_grow}
use Rattle.fact_emit.specs.Fitting.{bytes_of_shape}
use Rattle.fact_emit.specs.Parts.{bytes_by}

pub some_within : (n : ℕ) → n ≤ 16 → flat_within n ≡ Some n
some_within n h = ap (λ b. if b then Some n else None) (le-leb n 16 h)

pub within_is : (n m : ℕ) → flat_within n ≡ Some m → n ≡ m
within_is n m h = go (nat_le n 16) h
  where
    go : (b : Bool) → (if b then Some n else None) ≡ Some m → n ≡ m
    go true h = cc
    go false h = cc

-- values of a shape have as many flat types in either width
same_length : (w v : MemoryWidth) (s : Shape) → IsCounted s → length (flat w s) ≤ 16 → length (flat v s) ≡ length (flat w s)
same_length w v s c h = within_is (length (flat v s)) (length (flat w s)) (sym (count_is_length v s c) ∙ count_is_length w s c ∙ some_within (length (flat w s)) h)

by_width : (w : MemoryWidth) (s : Shape) (a b : ℕ) → bytes_by w (place_of Memory32 s a) (place_of Memory64 s b) ≡ place_of w s (bytes_by w a b)
by_width Memory32 s a b = refl
by_width Memory64 s a b = refl

next_by_width : (w : MemoryWidth) (s : Shape) (a b : ℕ) → bytes_by w (next_of Memory32 s a) (next_of Memory64 s b) ≡ next_of w s (bytes_by w a b)
next_by_width Memory32 s a b = refl
next_by_width Memory64 s a b = refl

-- A field with so many flat types of the members in front of it.
pub record IsAmong (w : MemoryWidth) (ms : Members) (flats bytes : ℕ) (f : Field) : Type 0 where
  pub front : List FlatType
  pub rest : List FlatType
  pub is : flat_members w ms ≡ front ++ (flat w f.shape ++ rest)
  pub counted : AreCounted ms → IsCounted f.shape
  pub place : AreCounted ms → length (flat_members w ms) ≤ 16 → f.flat_place ≡ flats + length front
  pub within : bytes_by w f.place32 f.place64 + bytes_of_shape w f.shape ≤ ends_of w ms bytes

among_next : (w : MemoryWidth) (n : List ℕ) (s : Shape) (ms : Members) (flats a b : ℕ) (f : Field) → IsAmong w ms (flats + length (flat Memory32 s)) (bytes_by w (next_of Memory32 s a) (next_of Memory64 s b)) f → IsAmong w (typed n s ms) flats (bytes_by w a b) f
among_next w n s ms flats a b f x = record {
  front = flat w s ++ x.front;
  rest = x.rest;
  is = ap (λ l. flat w s ++ l) x.is ∙ sym (append_assoc (flat w s) x.front (flat w f.shape ++ x.rest));
  counted = λ c. x.counted c.1;
  place = λ c few.
      let both = length-append (flat w s) (flat_members w ms) in
      let same = same_length w Memory32 s c.0 (omega (arith, both, few)) in
      let there = x.place c.1 (omega (arith, both, few)) in
      omega (arith, there, same, length-append (flat w s) x.front);
  within = subst (λ e. bytes_by w f.place32 f.place64 + bytes_of_shape w f.shape ≤ ends_of w ms e) (next_by_width w s a b) x.within;
}

pub among : (w : MemoryWidth) (y : List ℕ) (ms : Members) (flats a b : ℕ) (f : Field) → find y ms flats a b ≡ Some f → IsAmong w ms flats (bytes_by w a b) f
among w y no_members flats a b f h = cc
among w y (bare n ms) flats a b f h =
    let x = among w y ms flats a b f h in
    record { front = x.front; rest = x.rest; is = x.is; counted = x.counted; place = x.place; within = x.within }
among w y (typed n s ms) flats a b f h = go (bytes_eq n y) h (among w y ms (flats + length (flat Memory32 s)) (next_of Memory32 s a) (next_of Memory64 s b) f)
  where
    here : Field
    here = record { shape = s; flat_place = flats; place32 = place_of Memory32 s a; place64 = place_of Memory64 s b }

    first : IsAmong w (typed n s ms) flats (bytes_by w a b) here
    first = record {
      front = [];
      rest = flat_members w ms;
      is = refl;
      counted = λ c. c.0;
      place = λ c few. omega arith;
      within = omega (arith, by_width w s a b, ends_grow w ms (next_of w s (bytes_by w a b)));
    }

    go : (q : Bool) → (if q then Some here else find y ms (flats + length (flat Memory32 s)) (next_of Memory32 s a) (next_of Memory64 s b)) ≡ Some f
        → (find y ms (flats + length (flat Memory32 s)) (next_of Memory32 s a) (next_of Memory64 s b) ≡ Some f → IsAmong w ms (flats + length (flat Memory32 s)) (bytes_by w (next_of Memory32 s a) (next_of Memory64 s b)) f)
        → IsAmong w (typed n s ms) flats (bytes_by w a b) f
    go true h rest = let same : here ≡ f = cc in subst (IsAmong w (typed n s ms) flats (bytes_by w a b)) same first
    go false h rest = among_next w n s ms flats a b f (rest h)

-- where it holds a string, a list or a map, they do
pub holds_found : (y : List ℕ) (ms : Members) (flats a b : ℕ) (f : Field) → find y ms flats a b ≡ Some f → has_pointer_pair f.shape ≡ true → have_pointer_pair ms ≡ true
holds_found y no_members flats a b f h holds = cc
holds_found y (bare n ms) flats a b f h holds = holds_found y ms flats a b f h holds
holds_found y (typed n s ms) flats a b f h holds = go (bytes_eq n y) h (λ later. holds_found y ms (flats + length (flat Memory32 s)) (next_of Memory32 s a) (next_of Memory64 s b) f later holds)
  where
    here : Field
    here = record { shape = s; flat_place = flats; place32 = place_of Memory32 s a; place64 = place_of Memory64 s b }

    go : (q : Bool) → (if q then Some here else find y ms (flats + length (flat Memory32 s)) (next_of Memory32 s a) (next_of Memory64 s b)) ≡ Some f
        → (find y ms (flats + length (flat Memory32 s)) (next_of Memory32 s a) (next_of Memory64 s b) ≡ Some f → have_pointer_pair ms ≡ true) → has_pointer_pair s || have_pointer_pair ms ≡ true
    go true h later = let same : f ≡ here = cc in or_left (has_pointer_pair s) (have_pointer_pair ms) (ap (λ (g : Field). has_pointer_pair g.shape) (sym same) ∙ holds)
    go false h later = or_right (has_pointer_pair s) (have_pointer_pair ms) (later h)

-- the count that stands in a layout, where values of the shape have at most 16 flat types
pub flat_is : (w : MemoryWidth) (s : Shape) (count : Option ℕ) → count ≡ (layout_of s).flat_count → IsCounted s → length (flat w s) ≤ 16 → unwrap_or count 0 ≡ length (flat w s)
flat_is w s count e c h = ap (λ o. unwrap_or o 0) (e ∙ count_is_length w s c ∙ some_within (length (flat w s)) h)
