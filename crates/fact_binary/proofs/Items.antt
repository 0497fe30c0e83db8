-- A loop over the items of a list that is read.
use Rattle.std.proofs.Common.{◌≡◌, ℕ, ◌<◌, List, [], ◌∷◌, ◌++◌, length, Result, Ok, Err, refl, sym, ap, ◌∙◌, append_assoc, append-nil, arith, length-append}
use Rattle.std.specs.List.{AllByRecursion, flat_map}
use Rattle.std.specs.Prelude.{IsErrOf}
use Rattle.std.proofs.lemmas.List.Concat.{flat_map-cons}
use Rattle.fact_binary.specs.declared.error.DecodeError.{DecodeError}
use Rattle.fact_binary.specs.declared.error.DecodeError.TheVariants as error
use Rattle.fact_binary.specs.Answers.{IfRead}

-- an error that is handed on
pub passes : {X Y : Type 0} (d : DecodeError) (P : X → Type 0) (Q : Y → Type 0) → IfRead (Err d) P → IfRead (Err d) Q
passes error.OutOfMemory P Q h = tt
passes error.NotInGrammar P Q h = absurd h

-- each reading of the bytes goes on with what is left
abbrev pub GoesOn : {T : Type 0} → (T → List ℕ) → (T → Type 0) → ℕ → List ℕ → List T → List ℕ → Type 0
GoesOn code P count bytes done left = (ys : List _) (rest : List ℕ) → length ys ≡ count → AllByRecursion P ys → bytes ≡ flat_map code ys ++ rest
    → (ds : List _) × (ys ≡ done ++ ds) × AllByRecursion P ds × (left ≡ flat_map code ds ++ rest)

module _ {T : Type 0} (code : T → List ℕ) (P : T → Type 0) where
  pub each-push : (xs : List T) (x : T) → AllByRecursion P xs → P x → AllByRecursion P (xs ++ x ∷ [])
  each-push [] x p q = (q, tt)
  each-push (d ∷ xs) x p q = (p.0, each-push xs x p.1 q)

  pub code-push : (xs : List T) (x : T) → flat_map code (xs ++ x ∷ []) ≡ flat_map code xs ++ code x
  code-push [] x = flat_map-cons code x [] ∙ append-nil (code x)
  code-push (d ∷ xs) x = flat_map-cons code d (xs ++ x ∷ []) ∙ ap (λ (r : List ℕ). code d ++ r) (code-push xs x) ∙ sym (append_assoc (code d) (flat_map code xs) (code x)) ∙ ap (λ (r : List ℕ). r ++ code x) (sym (flat_map-cons code d xs))

  pub starts : (count : ℕ) (bytes : List ℕ) → GoesOn code P count bytes [] bytes
  starts count bytes ys rest n p e = (ys, refl, p, e)

  -- one more item
  pub steps : (count : ℕ) (bytes : List ℕ) (done : List T) (left : List ℕ) (x : T) (after : List ℕ) → length done < count → GoesOn code P count bytes done left
      → ((y : T) (rest : List ℕ) → P y → left ≡ code y ++ rest → (x ≡ y) × (after ≡ rest)) → GoesOn code P count bytes (done ++ x ∷ []) after
  steps count bytes done left x after lt so_far only ys rest n p e = go (so_far ys rest n p e)
    where
      go : ((ds : List T) × (ys ≡ done ++ ds) × AllByRecursion P ds × (left ≡ flat_map code ds ++ rest)) → (ds : List T) × (ys ≡ (done ++ x ∷ []) ++ ds) × AllByRecursion P ds × (after ≡ flat_map code ds ++ rest)
      go ([], is, q, l) = absurd (omega (arith, n, ap length is, length-append done []))
      go (d ∷ ds, is, q, l) =
          let o = only d (flat_map code ds ++ rest) q.0 (l ∙ ap (λ (r : List ℕ). r ++ rest) (flat_map-cons code d ds) ∙ append_assoc (code d) (flat_map code ds) rest) in
          (ds, is ∙ ap (λ (z : T). done ++ z ∷ ds) (sym o.0) ∙ sym (append_assoc done (x ∷ []) ds), q.1, o.1)

  -- an item that isn't there
  pub stops : (count : ℕ) (bytes : List ℕ) (done : List T) (left : List ℕ) (ys : List T) (rest : List ℕ) → length done < count → GoesOn code P count bytes done left
      → length ys ≡ count → AllByRecursion P ys → bytes ≡ flat_map code ys ++ rest → (d : T) × (more : List ℕ) × P d × (left ≡ code d ++ more)
  stops count bytes done left ys rest lt so_far n p e = go (so_far ys rest n p e)
    where
      go : ((ds : List T) × (ys ≡ done ++ ds) × AllByRecursion P ds × (left ≡ flat_map code ds ++ rest)) → (d : T) × (more : List ℕ) × P d × (left ≡ code d ++ more)
      go ([], is, q, l) = absurd (omega (arith, n, ap length is, length-append done []))
      go (d ∷ ds, is, q, l) = (d, flat_map code ds ++ rest, q.0, l ∙ ap (λ (r : List ℕ). r ++ rest) (flat_map-cons code d ds) ∙ append_assoc (code d) (flat_map code ds) rest)

  pub ends : (count : ℕ) (bytes : List ℕ) (done : List T) (left : List ℕ) (ys : List T) (rest : List ℕ) → length done ≡ count → GoesOn code P count bytes done left
      → length ys ≡ count → AllByRecursion P ys → bytes ≡ flat_map code ys ++ rest → (done ≡ ys) × (left ≡ rest)
  ends count bytes done left ys rest lt so_far n p e = go (so_far ys rest n p e)
    where
      go : ((ds : List T) × (ys ≡ done ++ ds) × AllByRecursion P ds × (left ≡ flat_map code ds ++ rest)) → (done ≡ ys) × (left ≡ rest)
      go ([], is, q, l) = (sym (is ∙ append-nil done), l)
      go (d ∷ ds, is, q, l) = absurd (omega (arith, n, lt, ap length is, length-append done (d ∷ ds)))

-- where only P answers, an answer that the bytes are not in the grammar is none
pub not_in_grammar : {X : Type 0} (r : Result X DecodeError) (P : X → Type 0) → IfRead r P → IsErrOf r error.NotInGrammar → ⊥
not_in_grammar (Ok x) P h e = cc
not_in_grammar (Err error.OutOfMemory) P h e = cc
not_in_grammar (Err error.NotInGrammar) P h e = h
