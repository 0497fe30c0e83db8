-- What is written between cursors alone, one part behind the other.
use Rattle.std.proofs.Common.{◌≡◌, ◌⊎◌, inl, inr, ℕ, zero, suc, ◌+◌, ◌<◌, ◌≤◌, List, [], ◌∷◌, ◌++◌, length, map, get_or, refl, sym, ap, ◌∙◌, subst, arith, append_assoc}
use Rattle.std.specs.List.{AllZip}
use Rattle.fact_machine.specs.declared.types.CoreValue.{CoreValue}
use Rattle.fact_machine.specs.Typed.{IsValue}
use Rattle.fact_types.specs.declared.flats.FlatType.{FlatType}
use Rattle.fact_types.specs.Flat.{value_type}
use Rattle.fact_types.specs.Shapes.{Shape}
use Rattle.fact_values.specs.declared.side.SideAbi.{SideAbi}
use Rattle.fact_values.specs.declared.value.Value.{Value}
use Rattle.fact_values.specs.Places.{Pair}
use Rattle.fact_lowering.specs.Lowered.{AgreeWithin, IsChanged, IsWritten, IsLoweredTo, IsPut, ReadsBehind, own_room}

pub below_or_not : (a b : ℕ) → (a < b) ⊎ (b ≤ a)
below_or_not a zero = inr (omega arith)
below_or_not zero (suc b) = inl (omega arith)
below_or_not (suc a) (suc b) = elim (below_or_not a b) [ inl h ↦ inl (omega (arith, h)) | inr h ↦ inr (omega (arith, h)) ]

-- ---- memories that agree

pub agree_part : {a b c d : ℕ} {x y : List ℕ} → AgreeWithin a d x y → a ≤ b → c ≤ d → AgreeWithin b c x y
agree_part {a} {b} {c} {d} {x} {y} g le ge = record { same_length = g.same_length; each = λ j h k. g.each j (omega (arith, le, h)) (omega (arith, ge, k)) }

pub agree_along : {a b : ℕ} {x y z : List ℕ} → AgreeWithin a b x y → AgreeWithin a b y z → AgreeWithin a b x z
agree_along {a} {b} {x} {y} {z} g h = record { same_length = g.same_length ∙ h.same_length; each = λ j p q. g.each j p q ∙ h.each j p q }

-- what stood before a cursor, or behind the one after it, stays
module _ {low high : ℕ} {x y : List ℕ} (g : IsChanged low 0 low high x y) where
  pub core_kept : (j : ℕ) → (j < low) ⊎ (high ≤ j) → get_or x j 0 ≡ get_or y j 0
  core_kept j h = g.kept j (elim (below_or_not j low) [ inl p ↦ inl p | inr p ↦ inr (omega (arith, p)) ]) h

  pub agree_below : {a b : ℕ} → b ≤ low → AgreeWithin a b x y
  agree_below {a} {b} le = record { same_length = g.same_length; each = λ j p q. core_kept j (inl (omega (arith, q, le))) }

pub changed_along : {low mid high : ℕ} {x y z : List ℕ} → low ≤ mid → mid ≤ high → IsChanged low 0 low mid x y → IsChanged mid 0 mid high y z → IsChanged low 0 low high x z
changed_along {low} {mid} {high} {x} {y} {z} up more g h = record {
  same_length = g.same_length ∙ h.same_length;
  kept = λ j p q. core_kept g j (elim q as (λ q. (j < low) ⊎ (mid ≤ j)) [ inl q ↦ inl q | inr q ↦ inr (omega (arith, q, more)) ])
      ∙ core_kept h j (elim q as (λ q. (j < mid) ⊎ (high ≤ j)) [ inl q ↦ inl (omega (arith, q, up)) | inr q ↦ inr q ]);
}

-- ---- what is written

-- nothing was written
pub unwritten : {Reads : List ℕ → Type 0} {low : ℕ} {x : List ℕ} → ((other : List ℕ) → Reads other) → low ≤ length x → IsWritten Reads low 0 low low 0 x x
unwritten {Reads} {low} {x} f le = record {
  reads = λ other g h. f other;
  changed = record { same_length = refl; kept = λ j p q. refl };
  rises = record { up = omega arith; few = omega arith; inside = le };
}

-- another thing is read of the same
pub also_written : {R S : List ℕ → Type 0} {low high most : ℕ} {x y : List ℕ} → ((other : List ℕ) → R other → S other) → IsWritten R low 0 low high most x y → IsWritten S low 0 low high most x y
also_written {R} {S} {low} {high} {most} {x} {y} f w = record { reads = λ other g h. f other (w.reads other g h); changed = w.changed; rises = w.rises }

-- it took no more than more
pub written_within : {R : List ℕ → Type 0} {low high most more : ℕ} {x y : List ℕ} → most ≤ more → IsWritten R low 0 low high most x y → IsWritten R low 0 low high more x y
written_within {R} {low} {high} {most} {more} {x} {y} le w = record {
  reads = w.reads;
  changed = w.changed;
  rises = record { up = w.rises.up; few = omega (arith, w.rises.few, le); inside = w.rises.inside };
}

-- one behind the other
pub both_written : {R S : List ℕ → Type 0} {low mid high most more : ℕ} {x y z : List ℕ} → IsWritten R low 0 low mid most x y → IsWritten S mid 0 mid high more y z → IsWritten (λ other. R other × S other) low 0 low high (most + more) x z
both_written {R} {S} {low} {mid} {high} {most} {more} {x} {y} {z} v w = record {
  reads = λ other g h.
      let kept : AgreeWithin low mid y z = agree_below w.changed (let e : mid ≤ mid = omega arith in e) in
      let same : AgreeWithin low mid z other = agree_part h (let e : low ≤ low = omega arith in e) w.rises.up in
      let here : AgreeWithin low mid y other = agree_along kept same in
      let none : AgreeWithin low (low + 0) y other = agree_part here (let e : low ≤ low = omega arith in e) (let e : low + 0 ≤ mid = omega (arith, v.rises.up) in e) in
      let there : AgreeWithin mid high z other = agree_part h v.rises.up (let e : high ≤ high = omega arith in e) in
      let nothing : AgreeWithin mid (mid + 0) z other = agree_part h v.rises.up (let e : mid + 0 ≤ high = omega (arith, w.rises.up) in e) in
      (v.reads other none here, w.reads other nothing there);
  changed = changed_along v.rises.up w.rises.up v.changed w.changed;
  rises = record { up = omega (arith, v.rises.up, w.rises.up); few = omega (arith, v.rises.few, w.rises.few); inside = w.rises.inside };
}

-- ---- core values

pub zip_behind : {A B : Type 0} (P : A → B → Type 0) (xs ys : List A) (us vs : List B) → AllZip P xs us → AllZip P ys vs → AllZip P (xs ++ ys) (us ++ vs)
zip_behind P [] ys [] vs g h = h
zip_behind P [] ys (u ∷ us) vs g h = absurd g
zip_behind P (x ∷ xs) ys [] vs g h = absurd g
zip_behind P (x ∷ xs) ys (u ∷ us) vs g h = (g.0, zip_behind P xs ys us vs g.1 h)

pub map_behind : {A B : Type 0} (f : A → B) (xs ys : List A) → map f (xs ++ ys) ≡ map f xs ++ map f ys
map_behind f [] ys = refl
map_behind f (x ∷ xs) ys = ap (λ l. f x ∷ l) (map_behind f xs ys)

pub as_many_cores : (cs : List CoreValue) (slots : List FlatType) → AllZip (λ c t. IsValue c t) cs (map value_type slots) → length cs ≡ length slots
as_many_cores [] [] h = refl
as_many_cores [] (f ∷ fs) h = absurd h
as_many_cores (c ∷ cs) [] h = absurd h
as_many_cores (c ∷ cs) (f ∷ fs) h = ap suc (as_many_cores cs fs h.1)

-- no core values for no slots
pub none_lowered : {R : List CoreValue → List ℕ → Type 0} {low : ℕ} {x : List ℕ} {out : List CoreValue} → ((other : List ℕ) → R [] other) → low ≤ length x → IsLoweredTo R [] low low 0 x x out out
none_lowered {R} {low} {x} {out} f le = record { cores = []; pushed = sym (append_nil out); typed = tt; written = unwritten f le }
  where
    append_nil : (xs : List CoreValue) → xs ++ [] ≡ xs
    append_nil [] = refl
    append_nil (x ∷ xs) = ap (λ l. x ∷ l) (append_nil xs)

-- those of two things, one behind the other
pub both_lowered : {R S T : List CoreValue → List ℕ → Type 0} {slots more : List FlatType} {low mid high most rest : ℕ} {x y z : List ℕ} {out out' out'' : List CoreValue}
    → ((c d : List CoreValue) → length c ≡ length slots → length d ≡ length more → (other : List ℕ) → R c other → S d other → T (c ++ d) other)
    → IsLoweredTo R slots low mid most x y out out' → IsLoweredTo S more mid high rest y z out' out'' → IsLoweredTo T (slots ++ more) low high (most + rest) x z out out''
both_lowered {R} {S} {T} {slots} {more} {low} {mid} {high} {most} {rest} {x} {y} {z} {out} {out'} {out''} f v w = record {
  cores = v.cores ++ w.cores;
  pushed = w.pushed ∙ ap (λ l. l ++ w.cores) v.pushed ∙ append_assoc out v.cores w.cores;
  typed = subst (λ ts. AllZip (λ c t. IsValue c t) (v.cores ++ w.cores) ts) (sym (map_behind value_type slots more)) (zip_behind (λ c t. IsValue c t) v.cores w.cores (map value_type slots) (map value_type more) v.typed w.typed);
  written = also_written (λ other g. f v.cores w.cores (as_many_cores v.cores slots v.typed) (as_many_cores w.cores more w.typed) other g.0 g.1) (both_written v.written w.written);
}

pub also_lowered : {R S : List CoreValue → List ℕ → Type 0} {slots : List FlatType} {low high most : ℕ} {x y : List ℕ} {out out' : List CoreValue} → ((c : List CoreValue) (other : List ℕ) → R c other → S c other) → IsLoweredTo R slots low high most x y out out' → IsLoweredTo S slots low high most x y out out'
also_lowered {R} {S} {slots} {low} {high} {most} {x} {y} {out} {out'} f v = record { cores = v.cores; pushed = v.pushed; typed = v.typed; written = also_written (f v.cores) v.written }

pub lowered_within : {R : List CoreValue → List ℕ → Type 0} {slots : List FlatType} {low high most more : ℕ} {x y : List ℕ} {out out' : List CoreValue} → most ≤ more → IsLoweredTo R slots low high most x y out out' → IsLoweredTo R slots low high more x y out out'
lowered_within {R} {slots} {low} {high} {most} {more} {x} {y} {out} {out'} le v = record { cores = v.cores; pushed = v.pushed; typed = v.typed; written = written_within le v.written }

-- core values that stand for something by themselves
pub pushed_lowered : {R : List CoreValue → List ℕ → Type 0} {low : ℕ} {x : List ℕ} {out out' : List CoreValue} (cores : List CoreValue) (slots : List FlatType) → out' ≡ out ++ cores → AllZip (λ c t. IsValue c t) cores (map value_type slots) → ((other : List ℕ) → R cores other) → low ≤ length x
    → IsLoweredTo R slots low low 0 x x out out'
pushed_lowered {R} {low} {x} {out} {out'} cores slots pushed typed f le = record { cores = cores; pushed = pushed; typed = typed; written = unwritten f le }

-- those of what was put behind a pointer
pub put_lowered : {R : List CoreValue → List ℕ → Type 0} {side : SideAbi} {s : Shape} {v : Value} {p : Pair} {low high : ℕ} {x y : List ℕ} {out out' : List CoreValue} (cores : List CoreValue) (slots : List FlatType) → IsPut side s v p low high x y → out' ≡ out ++ cores
    → AllZip (λ c t. IsValue c t) cores (map value_type slots) → ((other : List ℕ) → ReadsBehind side s v p other → R cores other) → IsLoweredTo R slots low high (own_room side s v) x y out out'
put_lowered {R} {side} {s} {v} {p} {low} {high} {x} {y} {out} {out'} cores slots put pushed typed f = record { cores = cores; pushed = pushed; typed = typed; written = also_written f put.written }
