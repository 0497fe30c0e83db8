-- Several locals in use around a piece of code, and freed one after another.
use Rattle.std.proofs.Common.{◌≡◌, ◌≢◌, ℕ, ◌+◌, ◌<◌, ◌≤◌, ◌⊎◌, inl, inr, Bool, true, false, List, [], ◌∷◌, ◌++◌, length, drop, get_or, refl, sym, ap, ◌∙◌, subst, add-one}
use Rattle.std.specs.Prelude.{nat_eq}
use Rattle.std.specs.List.{AllByRecursion}
use Rattle.std.proofs.lemmas.Bool.{eqb-true, eqb-false}
use Rattle.std.proofs.lemmas.List.{drop_all}
use Rattle.std.proofs.Math.Seq.{drop-cons}
use Rattle.fact_wasm.specs.declared.types.ValType.{ValType}
use Rattle.fact_wasm.specs.declared.instr.Instr.{Instr}
use Rattle.fact_wasm.specs.declared.module.WasmModule.{WasmModule}
use Rattle.fact_machine.specs.Trace.{Grows}
use Rattle.fact_actions.specs.Running.{ImportPlaces}
use Rattle.fact_code_laws.specs.Places.{Slot, AreLocals, IsNone}
use Rattle.fact_emit.specs.declared.writer.Writer.{Writer}
use Rattle.fact_emit.specs.Asked.{AskedHelper}
use Rattle.fact_emit.specs.Emits.{GrewAsking, Later, EmitsAsking}
use Rattle.fact_emit.specs.Imports.{AreOnce}
use Rattle.fact_emit.specs.Pieces.{Piece}
use Rattle.fact_emit.specs.Places.{AreDistinctSlots}
use Rattle.fact_emit.specs.Writers.{taken_in, AreDistinctNumbers, IsNoneOf, TookAll, Freed, FreedAll}
use Rattle.fact_emit.proofs.BroughtLaws.{brought_between}
use Rattle.fact_emit.proofs.Emitting.{sooner, still_numbers}
use Rattle.fact_emit.proofs.ImportLaws.{extended_none, extended_on, grown_get, grows_none, grows_on}
use Rattle.fact_emit.proofs.TakenLocals.{not_free}

-- ---- locals that are freed

pub freed_none : {a : Writer} → FreedAll a a []
freed_none = record { code = refl; imports = refl; free = tt; others = λ i h. refl; types = refl }

pub freed_more : {a b c : Writer} {i : ℕ} {ns : List ℕ} → IsNoneOf i ns → Freed a b i → FreedAll b c ns → FreedAll a c (i ∷ ns)
freed_more {i = i} none x xs = record {
  code = xs.code ∙ x.code;
  imports = xs.imports ∙ x.imports;
  free = (xs.others i none ∙ x.free, xs.free);
  others = λ j h. xs.others j h.1 ∙ x.others j (eqb-false j i h.0);
  types = xs.types ∙ x.types;
}

-- where a loop that frees locals stands
pub record FreedSoFar (first now : Writer) (ns rest : List ℕ) : Type 0 where
  pub taken : AllByRecursion (λ i. taken_in now i ≡ true) rest
  pub distinct : AreDistinctNumbers rest
  pub goes_on : (last : Writer) → FreedAll now last rest → FreedAll first last ns

pub freed_begin : {a : Writer} (ns : List ℕ) → AllByRecursion (λ i. taken_in a i ≡ true) ns → AreDistinctNumbers ns → FreedSoFar a a ns (drop 0 ns)
freed_begin ns h d = record { taken = h; distinct = d; goes_on = λ last x. x }

still_taken : (a b : Writer) (i : ℕ) → ((j : ℕ) → j ≢ i → taken_in b j ≡ taken_in a j) → (ns : List ℕ) → IsNoneOf i ns → AllByRecursion (λ n. taken_in a n ≡ true) ns → AllByRecursion (λ n. taken_in b n ≡ true) ns
still_taken a b i others [] n h = tt
still_taken a b i others (m ∷ ns) n h = (others m (λ e. eqb-false i m n.0 (sym e)) ∙ h.0, still_taken a b i others ns n.1 h.1)

module _ (first now : Writer) (ns : List ℕ) (k : ℕ) (lt : k < length ns) where
  abbrev n : ℕ
  n = get_or ns k 0

  rest_is : drop k ns ≡ n ∷ drop (k + 1) ns
  rest_is = drop-cons ns k 0 lt ∙ ap (λ j. n ∷ drop j ns) (sym (add-one k))

  pub freed_next : FreedSoFar first now ns (drop k ns) → taken_in now n ≡ true
  freed_next x = (subst (AllByRecursion (λ i. taken_in now i ≡ true)) rest_is x.taken).0

  pub freed_step : (then' : Writer) → FreedSoFar first now ns (drop k ns) → Freed now then' n → FreedSoFar first then' ns (drop (k + 1) ns)
  freed_step then' x f =
      let taken = subst (AllByRecursion (λ i. taken_in now i ≡ true)) rest_is x.taken in
      let distinct = subst AreDistinctNumbers rest_is x.distinct in
      record {
        taken = still_taken now then' n f.others (drop (k + 1) ns) distinct.0 taken.1;
        distinct = distinct.1;
        goes_on = λ last rest. x.goes_on last (subst (FreedAll now last) (sym rest_is) (freed_more distinct.0 f rest));
      }

pub freed_end : {first last : Writer} {ns : List ℕ} (k : ℕ) → length ns ≤ k → FreedSoFar first last ns (drop k ns) → FreedAll first last ns
freed_end {first} {last} {ns} k ge x = x.goes_on last (subst (FreedAll last last) (sym (drop_all k ns ge)) freed_none)

-- ---- locals in use around a piece of code

abbrev pub numbers_of : List Slot → List ℕ
numbers_of [] = []
numbers_of (s ∷ ss) = s.0 ∷ numbers_of ss

-- a local is one of these, or none of them
one_or_none : (P : ℕ → Type 0) (i : ℕ) (ss : List Slot) → AllByRecursion (λ s. P s.0) ss → P i ⊎ IsNone i ss
one_or_none P i [] h = inr tt
one_or_none P i (s ∷ ss) h = go (nat_eq i s.0) refl (one_or_none P i ss h.1)
  where
    go : (q : Bool) → nat_eq i s.0 ≡ q → P i ⊎ IsNone i ss → P i ⊎ IsNone i (s ∷ ss)
    go true e rest = inl (subst P (sym (eqb-true i s.0 e)) h.0)
    go false e (inl p) = inl p
    go false e (inr n) = inr (e, n)

none_number : (i : ℕ) (ss : List Slot) → IsNone i ss → IsNoneOf i (numbers_of ss)
none_number i [] h = tt
none_number i (s ∷ ss) h = (h.0, none_number i ss h.1)

both_free : (a d : Writer) (ss : List Slot) → AllByRecursion (λ s. taken_in a s.0 ≡ false) ss → AllByRecursion (λ i. taken_in d i ≡ false) (numbers_of ss) → AllByRecursion (λ s. taken_in d s.0 ≡ taken_in a s.0) ss
both_free a d [] h k = tt
both_free a d (s ∷ ss) h k = (k.0 ∙ sym h.0, both_free a d ss h.1 k.1)

pub all_taken : (b c : Writer) (ss : List Slot) → ((i : ℕ) → taken_in c i ≡ taken_in b i) → AllByRecursion (λ s. taken_in b s.0 ≡ true) ss → AllByRecursion (λ i. taken_in c i ≡ true) (numbers_of ss)
all_taken b c [] still h = tt
all_taken b c (s ∷ ss) still h = (still s.0 ∙ h.0, all_taken b c ss still h.1)

pub all_distinct : (ss : List Slot) → AreDistinctSlots ss → AreDistinctNumbers (numbers_of ss)
all_distinct [] h = tt
all_distinct (s ∷ ss) h = (none_number s.0 ss h.0, all_distinct ss h.1)

pub grew_around_all : {asks : List AskedHelper} {a b c d : Writer} {ss : List Slot} → TookAll a b ss → GrewAsking asks b c → FreedAll c d (numbers_of ss) → GrewAsking asks a d
grew_around_all {a = a} {b} {c} {d} {ss} took x freed = record {
  added = x.added;
  code = freed.code ∙ x.code ∙ ap (λ l. l ++ x.added) took.code;
  calls = x.calls;
  brought = brought_between took.imports (sym freed.imports) x.brought;
  imports = extended_on (extended_none took.imports) (extended_on x.imports (extended_none freed.imports));
  once = λ o. subst AreOnce (sym freed.imports) (x.once (subst AreOnce (sym took.imports) o));
  locals = grows_on took.grows (grows_on x.locals (grows_none freed.types));
  numbers = λ n. still_numbers c d freed.types (x.numbers (took.numbers n));
  still = λ j. still j (one_or_none (λ i. taken_in d i ≡ taken_in a i) j ss (both_free a d ss took.were_free freed.free));
}
  where
    still : (j : ℕ) → (taken_in d j ≡ taken_in a j) ⊎ IsNone j ss → taken_in d j ≡ taken_in a j
    still j (inl h) = h
    still j (inr h) = freed.others j (none_number j ss h) ∙ x.still j ∙ took.others j h

locals_later : {xs ys : List ValType} (ss : List Slot) → Grows xs ys → AreLocals xs ss → AreLocals ys ss
locals_later [] g h = tt
locals_later (s ∷ ss) g h = (grown_get g s.0 s.1 h.0, locals_later ss g h.1)

pub emits_around_all : {asks : List AskedHelper} {P Q : Piece} {a b c d : Writer} {ss : List Slot}
    → ((M : WasmModule) (p : ImportPlaces) (locals : List ValType) (x : List Instr) → AreLocals locals ss → P M p locals x → Q M p locals x)
    → TookAll a b ss → EmitsAsking asks b c P → FreedAll c d (numbers_of ss) → EmitsAsking asks a d Q
unfolding grew_around_all
emits_around_all {a = a} {b} {c} {d} {ss} f took x freed = record {
  grew = grew_around_all took x.grew freed;
  does = λ M p locals l h.
      let before : Later c M p locals = sooner (extended_none freed.imports) (grows_none freed.types) l in
      f M p locals x.grew.added (locals_later ss (grows_on x.grew.locals (grows_on (grows_none freed.types) l.begin)) took.typed) (x.does M p locals before h);
}

-- locals in use before are in use behind code that was written with these taken
pub inside_taken : {asks : List AskedHelper} {a b c : Writer} {ss : List Slot} (d : Writer) → TookAll a b ss → GrewAsking asks b c → ((i : ℕ) → taken_in d i ≡ taken_in c i) → (i : ℕ) → taken_in a i ≡ true → taken_in d i ≡ true
inside_taken {a = a} {ss = ss} d took grew same i u = same i ∙ grew.still i ∙ took.others i (not_free a i u ss took.were_free) ∙ u

still_all : (b d : Writer) (ss : List Slot) → ((i : ℕ) → taken_in d i ≡ taken_in b i) → AllByRecursion (λ s. taken_in b s.0 ≡ true) ss → AllByRecursion (λ s. taken_in d s.0 ≡ true) ss
still_all b d [] still h = tt
still_all b d (s ∷ ss) still h = (still s.0 ∙ h.0, still_all b d ss still h.1)

-- and so are these
pub all_inside : {asks : List AskedHelper} {a b c : Writer} {ss : List Slot} (d : Writer) → TookAll a b ss → GrewAsking asks b c → ((i : ℕ) → taken_in d i ≡ taken_in c i) → AllByRecursion (λ s. taken_in d s.0 ≡ true) ss
all_inside {b = b} {ss = ss} d took grew same = still_all b d ss (λ i. same i ∙ grew.still i) took.taken
