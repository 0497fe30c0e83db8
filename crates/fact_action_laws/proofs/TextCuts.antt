-- Where transcoders answer honestly, no region of a text that is cut to what was written grows.
use Rattle.std.proofs.Common.{◌≡◌, ℕ, ◌+◌, ◌*◌, ◌-◌, ◌/◌, ◌%◌, ◌^◌, ◌≤◌, ◌<◌, Bool, true, false, List, [], ◌∷◌, ◌++◌, length, length-append, length-take, take, drop, get_or, map, refl, sym, ap, ◌∙◌, subst, arith}
use Rattle.std.specs.Prelude.{not, bit_or, if◌then◌else◌}
use Rattle.std.proofs.lemmas.Bool.{eq-eqb, leb-true, false≢true}
use Rattle.std.proofs.lemmas.Nat.{or_shifted, or_comm}
use Rattle.fact_types.specs.declared.outside.FixedEncoding.{FixedEncoding}
use Rattle.fact_types.specs.declared.outside.FixedEncoding.TheVariants.{Utf8, Utf16, Latin1}
use Rattle.fact_types.specs.declared.outside.StringEncoding.{StringEncoding}
use Rattle.fact_types.specs.declared.outside.StringEncoding.TheVariants as string
use Rattle.fact_types.specs.declared.outside.Transcode.{Transcode}
use Rattle.fact_types.specs.declared.outside.Transcode.TheVariants as op
use Rattle.fact_types.specs.declared.outside.Trap.TheVariants.{StringOutOfBounds}
use Rattle.fact_types.specs.declared.import.Import.TheVariants as import
use Rattle.fact_machine.specs.declared.types.CoreValue.{CoreValue}
use Rattle.fact_values.specs.Lift.{bits_of}
use Rattle.fact_values.specs.Texts.{unit_bytes, spelled_text, units_of_text, utf16_tag, has_tag}
use Rattle.fact_actions.specs.Actions.{Action}
use Rattle.fact_actions.specs.Calls.{nth_number, results}
use Rattle.fact_actions.specs.Paths.{Amount, SourceUnits, WrittenUnits, Path, End, Limit, Resize, Pass, If, Tag, Assert, TextForm, AsUtf8, AsUtf16, AsCompactLatin1, AsCompactUtf16, align_of, path}
use Rattle.fact_actions.specs.Running.{Call}
use Rattle.fact_actions.specs.Sides.{LiftLowerOptions, Transfer, first_bits, address_value, wrap}
use Rattle.fact_actions.specs.Strings.{PathPoint, minus, amount, holds, with_tag, source_args, target_args, passed, transcode, most_string_bytes, asserted, choose_action, walk}
use Rattle.fact_actions.specs.Transcoders.{transcode_kind, from_encoding, transcode_types, all_latin1, IsHonestTranscoding}
use Rattle.fact_actions.specs.Honest.{room_of}
use Rattle.fact_actions.proofs.OwnParts.{bits_address}
use Rattle.fact_action_laws.specs.Regions.{TransferSetting}
use Rattle.fact_action_laws.specs.Rooms.{DoesNotGrow, OfNext, OfEither, CutsShrink}
use Rattle.fact_action_laws.proofs.Asking.{Answers}
use Rattle.fact_action_laws.proofs.Bounds.{length_text, all_bound}
use Rattle.fact_action_laws.proofs.Cutting.{Tells, tells_give, tells_like, tells_transcode, tells_unless, tells_with, tells_reallocate, tells_bind}
use Rattle.fact_action_laws.proofs.Fine.{HasKnownSides}
use Rattle.fact_action_laws.proofs.Invariant.{wrap_small, minus_is, first_is, second_is}
use Rattle.fact_action_laws.proofs.WalkAsks.{moved, holds_same, passed_same}

-- ---- what a transcoder answers

-- what is written is no more than there was to read, or than there was room for
abbrev pub IsBounded : Transcode → (args results : List CoreValue) → Type 0
IsBounded (op.Copy e) args rs = Unit {0}
IsBounded op.Latin1ToUtf16 args rs = Unit {0}
IsBounded op.Utf8ToUtf16 args rs = first_bits rs ≤ nth_number args 1
IsBounded op.Utf8ToLatin1 args rs = first_bits (drop 1 rs) ≤ nth_number args 1
IsBounded op.Utf16ToLatin1 args rs = first_bits (drop 1 rs) ≤ nth_number args 1
IsBounded op.Latin1ToUtf8 args rs = first_bits (drop 1 rs) ≤ nth_number args 3
IsBounded op.Utf16ToUtf8 args rs = first_bits (drop 1 rs) ≤ nth_number args 3
IsBounded op.Utf8ToCompactUtf16 args rs = first_bits rs ≤ nth_number args 3
IsBounded op.Utf16ToCompactUtf16 args rs = first_bits rs ≤ nth_number args 3
IsBounded op.Utf16ToCompactProbablyUtf16 args rs = nth_number args 1 < 2 ^ 31 → has_tag (first_bits rs) ≡ false → first_bits rs ≤ nth_number args 1

few_taken : (n : ℕ) (xs : List ℕ) → length (take n xs) ≤ n
few_taken n xs = omega (arith, length-take n xs)

-- no more units are read than there are
read_within : (e : FixedEncoding) (n : ℕ) (there text rest : List ℕ) → take (unit_bytes e * n) there ≡ spelled_text e text ++ rest → units_of_text e text ≤ n
read_within e n there text rest h = go e (units_of_text e text) (few_taken (unit_bytes e * n) there) (ap length h ∙ length-append (spelled_text e text) rest) (length_text e text)
  where
    go : (f : FixedEncoding) (u : ℕ) → length (take (unit_bytes e * n) there) ≤ unit_bytes f * n → length (take (unit_bytes e * n) there) ≡ length (spelled_text e text) + length rest → length (spelled_text e text) ≡ unit_bytes f * u → u ≤ n
    go Utf8 u a b c = omega (arith, a, b, c)
    go Utf16 u a b c = omega (arith, a, b, c)
    go Latin1 u a b c = omega (arith, a, b, c)

-- with the tag it has the tag
is_tagged : (u : ℕ) → u < 2 ^ 31 → has_tag (bit_or u (2 ^ 31)) ≡ true
is_tagged u h =
    let s : bit_or u (2 ^ 31) ≡ 2 ^ 31 + u = or_comm u (2 ^ 31) ∙ or_shifted 1 31 u h ∙ omega arith in
    eq-eqb (bit_or u (2 ^ 31) / utf16_tag % 2) 1 (ap (λ x. x / utf16_tag % 2) s ∙ omega (arith, h))

untagged_bound : (b : Bool) (u n x : ℕ) → u ≤ n → x ≡ (if b then u else bit_or u (2 ^ 31)) → n < 2 ^ 31 → has_tag x ≡ false → x ≤ n
untagged_bound true u n x le is small none = omega (arith, le, is)
untagged_bound false u n x le is small none = absurd (false≢true (sym none ∙ ap has_tag is ∙ is_tagged u (omega (arith, le, small))))

module _ (what : Call) (there source wrote : List ℕ) where
  abbrev rs : List CoreValue
  rs = results what

  abbrev Says : Transcode → Type 0
  Says o = IsHonestTranscoding o (room_of (transcode_kind o) what there) (take (unit_bytes (from_encoding o) * nth_number what.args 1) source) wrote (map bits_of rs)

  first_of : (l : List ℕ) → map bits_of rs ≡ l → first_bits rs ≡ get_or l 0 0
  first_of l h = first_is rs ∙ ap (λ l. get_or l 0 0) h

  second_of : (l : List ℕ) → map bits_of rs ≡ l → first_bits (drop 1 rs) ≡ get_or l 1 0
  second_of l h = second_is rs ∙ ap (λ l. get_or l 1 0) h

  pub bounded : (o : Transcode) → Says o → IsBounded o what.args rs
  bounded (op.Copy e) h = tt
  bounded op.Latin1ToUtf16 h = tt
  bounded op.Utf8ToUtf16 h =
      let a : first_bits rs ≡ units_of_text Utf16 h.text = first_of _ h.answers in
      let b = read_within Utf8 (nth_number what.args 1) source h.text h.rest h.reads in
      let d = all_bound Utf8 Utf16 h.text h.can_read h.can_write in
      omega (arith, a, b, d)
  bounded op.Utf8ToLatin1 h =
      let a : first_bits (drop 1 rs) ≡ length (spelled_text Latin1 h.text) = second_of _ h.answers in
      let b = read_within Utf8 (nth_number what.args 1) source h.text h.rest h.reads in
      let d = all_bound Utf8 Latin1 h.text h.can_read h.can_write in
      omega (arith, a, b, d, length_text Latin1 h.text)
  bounded op.Utf16ToLatin1 h =
      let a : first_bits (drop 1 rs) ≡ length (spelled_text Latin1 h.text) = second_of _ h.answers in
      let b = read_within Utf16 (nth_number what.args 1) source h.text h.rest h.reads in
      let d = all_bound Utf16 Latin1 h.text h.can_read h.can_write in
      omega (arith, a, b, d, length_text Latin1 h.text)
  bounded op.Latin1ToUtf8 h = let a : first_bits (drop 1 rs) ≡ length (spelled_text Utf8 h.text) = second_of _ h.answers in let b : length (spelled_text Utf8 h.text) ≤ nth_number what.args 3 = h.stops.0 in omega (arith, a, b)
  bounded op.Utf16ToUtf8 h = let a : first_bits (drop 1 rs) ≡ length (spelled_text Utf8 h.text) = second_of _ h.answers in let b : length (spelled_text Utf8 h.text) ≤ nth_number what.args 3 = h.stops.0 in omega (arith, a, b)
  bounded op.Utf8ToCompactUtf16 h =
      let a : first_bits rs ≡ length (take (nth_number what.args 4) there) + units_of_text Utf16 h.text = first_of _ h.answers in
      let b : length (take (nth_number what.args 4) there) + units_of_text Utf16 h.text ≤ nth_number what.args 3 = h.stops.1 in
      omega (arith, a, b)
  bounded op.Utf16ToCompactUtf16 h =
      let a : first_bits rs ≡ length (take (nth_number what.args 4) there) + units_of_text Utf16 h.text = first_of _ h.answers in
      let b : length (take (nth_number what.args 4) there) + units_of_text Utf16 h.text ≤ nth_number what.args 3 = h.stops.1 in
      omega (arith, a, b)
  bounded op.Utf16ToCompactProbablyUtf16 h =
      untagged_bound (all_latin1 h.text) (units_of_text Utf16 h.text) (nth_number what.args 1) (first_bits rs) (read_within Utf16 (nth_number what.args 1) source h.text h.rest h.reads) (first_of _ h.answers)

-- ---- paths

-- a path begins with a region by the units of its source
abbrev Begins : Path → Type 0
Begins End = ⊥
Begins (Limit n p) = Begins p
Begins (Resize x (SourceUnits k) p) = Unit {0}
Begins (Resize x (WrittenUnits k) p) = ⊥
Begins (Pass o rest room p) = Unit {0}
Begins (If test q r p) = ⊥
Begins (Tag p) = Begins p
Begins (Assert t test p) = Begins p

module _ (tr : Transfer) where
  -- No region that a path cuts grows, where transcoders answer such numbers, and so much holds at its end.
  abbrev pub Shrinks : Path → PathPoint → (PathPoint → Type 0) → Type 0
  Shrinks End v F = F v
  Shrinks (Limit n p) v F = Begins p × (v.length ≤ most_string_bytes / n → Shrinks p v F)
  Shrinks (Resize x y p) v F = DoesNotGrow y (amount tr x v) (amount tr y v) × ((q : ℕ) → Shrinks p (record v { region = q }) F)
  Shrinks (Pass o rest room p) v F = (rs : List CoreValue) → IsBounded o (source_args tr o rest v ++ target_args tr (transcode_kind o) rest room v) rs → Shrinks p (passed tr (transcode_kind o) rest rs v) F
  Shrinks (If test q r p) v F = (holds tr test v ≡ true → Shrinks q v (λ u. Shrinks p u F)) × (holds tr test v ≡ false → Shrinks r v (λ u. Shrinks p u F))
  Shrinks (Tag p) v F = Shrinks p (with_tag v) F
  Shrinks (Assert t test p) v F = Shrinks p v F

  begin_at : (p : Path) (v : PathPoint) (K : PathPoint → Answers → Type 0) → Begins p → CutsShrink tr p v [] K
  begin_at End v K h = absurd h
  begin_at (Limit n p) v K h = begin_at p v K h
  begin_at (Resize x (SourceUnits k) p) v K h = (tt, tt)
  begin_at (Resize x (WrittenUnits k) p) v K h = absurd h
  begin_at (Pass o rest room p) v K h = tt
  begin_at (If test q r p) v K h = absurd h
  begin_at (Tag p) v K h = begin_at p (with_tag v) K h
  begin_at (Assert t test p) v K h = begin_at p v K h

  -- where nothing is answered yet
  start_of : (p : Path) (v : PathPoint) (F : PathPoint → Type 0) (K : PathPoint → Answers → Type 0) → ((u : PathPoint) → F u → K u []) → Shrinks p v F → CutsShrink tr p v [] K
  start_of End v F K k s = k v s
  start_of (Limit n p) v F K k s = begin_at p v K s.0
  start_of (Resize x y p) v F K k s = (s.0, tt)
  start_of (Pass o rest room p) v F K k s = tt
  start_of (If test q r p) v F K k s =
      by_test (holds tr test v) (λ e. start_of q v (λ u. Shrinks p u F) (λ u more. CutsShrink tr p u more K) (λ u f. start_of p u F K k f) (s.0 e))
      (λ e. start_of r v (λ u. Shrinks p u F) (λ u more. CutsShrink tr p u more K) (λ u f. start_of p u F K k f) (s.1 e))
    where
      by_test : (b : Bool) → (b ≡ true → CutsShrink tr q v [] (λ u more. CutsShrink tr p u more K)) → (b ≡ false → CutsShrink tr r v [] (λ u more. CutsShrink tr p u more K))
          → OfEither b (CutsShrink tr q v [] (λ u more. CutsShrink tr p u more K)) (CutsShrink tr r v [] (λ u more. CutsShrink tr p u more K))
      by_test true f g = f refl
      by_test false f g = g refl
  start_of (Tag p) v F K k s = start_of p (with_tag v) F K k s
  start_of (Assert t test p) v F K k s = start_of p v F K k s

  -- ---- the paths of all forms

  wraps_less : (o : LiftLowerOptions) (x y : ℕ) → x ≤ y → y < 2 ^ 32 → wrap o x ≤ wrap o y
  wraps_less o x y le small = subst (λ k. k ≤ wrap o y) (sym (wrap_small o x (omega (arith, le, small)))) (subst (λ k. x ≤ k) (sym (wrap_small o y small)) le)

  -- what is answered is no more than there are units
  within_units : (x n : ℕ) → x ≤ bits_of (address_value tr.from n) → x ≤ n
  within_units x n h = subst (λ k. x ≤ k) (bits_address tr.from n) h

  within_room : (x n : ℕ) → n < 2 ^ 32 → x ≤ bits_of (address_value tr.to (wrap tr.to n)) → x ≤ n
  within_room x n small h = subst (λ k. x ≤ k) (bits_address tr.to (wrap tr.to n) ∙ wrap_small tr.to n small) h

  -- a second pass, behind a first one
  again_less : (top w1 w2 : ℕ) → w1 ≤ top → top < 2 ^ 32 → w2 ≤ bits_of (address_value tr.to (minus tr.to (wrap tr.to top) w1)) → wrap tr.to (1 * wrap tr.to (w1 + w2)) ≤ wrap tr.to top
  again_less top w1 w2 le small h =
      let left : bits_of (address_value tr.to (minus tr.to (wrap tr.to top) w1)) ≡ top - w1 = bits_address tr.to _ ∙ ap (λ x. minus tr.to x w1) (wrap_small tr.to top small) ∙ minus_is tr.to top w1 le small in
      let both : w1 + w2 ≤ top = omega (arith, le, subst (λ k. w2 ≤ k) left h) in
      wraps_less tr.to (1 * wrap tr.to (w1 + w2)) top (subst (λ k. 1 * k ≤ top) (sym (wrap_small tr.to (w1 + w2) (omega (arith, both, small)))) (omega (arith, both))) small

  twice_less : (n w : ℕ) → 2 * n < 2 ^ 32 → w ≤ n → wrap tr.to (2 * w) ≤ wrap tr.to (2 * n)
  twice_less n w small le = wraps_less tr.to (2 * w) (2 * n) (omega (arith, le)) small

  -- of units, each of one byte
  wide_less : (n w : ℕ) → 2 * n < 2 ^ 32 → w ≤ bits_of (address_value tr.to (wrap tr.to (1 * n))) → wrap tr.to (2 * w) ≤ wrap tr.to (2 * n)
  wide_less n w small h = twice_less n w small (omega (arith, within_room w (1 * n) (omega (arith, small)) h))

  once_less : (n w : ℕ) → n < 2 ^ 32 → w ≤ n → wrap tr.to (1 * w) ≤ wrap tr.to (1 * n)
  once_less n w small le = wraps_less tr.to (1 * w) (1 * n) (omega (arith, le)) (omega (arith, small))

  no_tag : (b : Bool) → not b ≡ true → b ≡ false
  no_tag true h = sym h
  no_tag false h = refl

  -- what is known at the end of a path
  abbrev Nothing : PathPoint → Type 0
  Nothing v = Unit {0}

  from_utf16 : (v : PathPoint) → Shrinks (path AsUtf16 string.Utf8) v Nothing
  from_utf16 v = (
    tt,
    λ lim. (
      tt,
      λ q rs g. (
        λ yes. tt,
        λ no. (
          tt,
          λ lim3. (
            tt,
            λ q2 rs2 g2. (
              λ yes. tt,
              λ no. (again_less (3 * v.length) (first_bits (drop 1 rs)) (first_bits (drop 1 rs2)) (omega (arith, within_room (first_bits (drop 1 rs)) (1 * v.length) (omega (arith, lim3)) g)) (omega (arith, lim3)) g2, λ q3. tt),
            ),
          ),
        ),
      ),
    ),
  )

  pub path_shrinks : (f : TextForm) (e : StringEncoding) (v : PathPoint) → Shrinks (path f e) v Nothing
  path_shrinks AsUtf8 string.Utf8 v = (tt, λ lim. (tt, λ q rs g. tt))
  path_shrinks AsUtf8 string.Utf16 v = (tt, λ lim. (tt, λ q rs g. (λ full. tt, λ no_more. (twice_less v.length (first_bits rs) (omega (arith, lim)) (within_units (first_bits rs) v.length g), λ q3. tt))))
  path_shrinks AsUtf8 string.CompactUtf16 v = (
    tt,
    λ lim. (
      tt,
      λ q rs g. (
        λ yes. (λ full. tt, λ no_more. (once_less v.length (first_bits (drop 1 rs)) (omega (arith, lim)) (within_units (first_bits (drop 1 rs)) v.length g), λ q3. tt)),
        λ no. (tt, λ lim2. (tt, λ q2 rs2 g2. (λ full. tt, λ no_more. (wide_less v.length (first_bits rs2) (omega (arith, lim2)) g2, λ q3. tt)))),
      ),
    ),
  )
  path_shrinks AsUtf16 string.Utf8 v = from_utf16 v
  path_shrinks AsUtf16 string.Utf16 v = (tt, λ lim. (tt, λ q rs g. tt))
  path_shrinks AsUtf16 string.CompactUtf16 v = (
    tt,
    λ lim. (
      tt,
      λ q rs g. (
        λ yes. (λ full. tt, λ no_more. (once_less v.length (first_bits (drop 1 rs)) (omega (arith, lim)) (within_units (first_bits (drop 1 rs)) v.length g), λ q3. tt)),
        λ no. (tt, λ q2 rs2 g2. (λ full. tt, λ no_more. (wide_less v.length (first_bits rs2) (omega (arith, lim)) g2, λ q3. tt))),
      ),
    ),
  )
  path_shrinks AsCompactLatin1 string.Utf8 v = (
    tt,
    λ lim. (
      tt,
      λ q rs g. (
        λ yes. tt,
        λ no. (
          tt,
          λ lim2. (
            tt,
            λ q2 rs2 g2. (
              λ yes. tt,
              λ no. (again_less (2 * v.length) (first_bits (drop 1 rs)) (first_bits (drop 1 rs2)) (omega (arith, within_room (first_bits (drop 1 rs)) (1 * v.length) (omega (arith, lim2)) g)) (omega (arith, lim2)) g2, λ q3. tt),
            ),
          ),
        ),
      ),
    ),
  )
  path_shrinks AsCompactLatin1 string.Utf16 v = (tt, λ lim. (tt, λ q rs g. tt))
  path_shrinks AsCompactLatin1 string.CompactUtf16 v = (tt, λ lim. (tt, λ q rs g. tt))
  path_shrinks AsCompactUtf16 string.Utf8 v = from_utf16 v
  path_shrinks AsCompactUtf16 string.Utf16 v = (tt, λ lim. (tt, λ q rs g. tt))
  path_shrinks AsCompactUtf16 string.CompactUtf16 v = (
    tt,
    λ lim. (
      tt,
      λ q rs g. (
        λ yes. (
          let units = bits_address tr.from v.length in
              let less = within_units (first_bits rs) v.length (g (omega (arith, lim, units)) (no_tag (has_tag (first_bits rs)) yes)) in
              wraps_less tr.to (1 * first_bits rs) (2 * v.length) (omega (arith, less)) (omega (arith, lim)),
          λ q2. tt,
        ),
        λ no. tt,
      ),
    ),
  )

-- ---- walks

module _ (c : TransferSetting) (known : HasKnownSides c) where
  passes : (o : Transcode) (rest : Bool) (room : ℕ) (p : Path) (v : PathPoint) (F : PathPoint → Type 0) (K : PathPoint → Answers → Type 0) → ((u : PathPoint) → F u → K u []) → Shrinks c.transfer (Pass o rest room p) v F
      → Tells c known (λ u. Shrinks c.transfer p u F) (λ u more. CutsShrink c.transfer p u more K) (λ l. CutsShrink c.transfer (Pass o rest room p) v l K) (transcode c.transfer o rest room v)
  passes o rest room p v F K k s =
      tells_with c known c.transfer.from tt (λ m is_m. tells_with c known c.transfer.to tt (λ n is_n.
      tells_transcode c known (import.Transcode o m.def m.memory64 n.def n.memory64) _ (transcode_types (transcode_kind o) m.memory64 n.memory64) (λ d. refl) refl tt (λ gs rs before after h.
      let f = s rs (bounded _ _ _ _ o h.says) in
      tells_give c known (passed c.transfer (transcode_kind o) rest rs v) f (start_of c.transfer p (passed c.transfer (transcode_kind o) rest rs v) F K k f) (λ more x. x))))

  either_tells : {F : PathPoint → Type 0} {B : PathPoint → Answers → Type 0} (S R : Answers → Type 0) (b : Bool) (q r : Action PathPoint) → (b ≡ true → Tells c known F B S q) → (b ≡ false → Tells c known F B R r)
      → Tells c known F B (λ l. OfEither b (S l) (R l)) (choose_action b q r)
  either_tells S R true q r h k = h refl
  either_tells S R false q r h k = k refl

  pub walk_tells : (p : Path) (v : PathPoint) (F : PathPoint → Type 0) (K : PathPoint → Answers → Type 0) → ((u : PathPoint) → F u → K u []) → Shrinks c.transfer p v F
      → Tells c known F K (λ l. CutsShrink c.transfer p v l K) (walk c.transfer p v)
  walk_tells End v F K k s = tells_give c known v s (k v s) (λ more x. x)
  walk_tells (Limit n p) v F K k s = tells_unless c known StringOutOfBounds _ (begin_at c.transfer p v K s.0) (λ e. walk_tells p v F K k (s.1 (leb-true v.length (most_string_bytes / n) e)))
  walk_tells (Resize x y p) v F K k s =
      tells_reallocate c known StringOutOfBounds v.region (amount c.transfer x v) (align_of c.transfer.to.encoding) (amount c.transfer y v) (λ q. walk c.transfer p (record v { region = q })) (s.0, tt)
      (λ rs. tells_like c known (λ l h. (s.0, h)) (walk_tells p (record v { region = first_bits rs }) F K k (s.1 (first_bits rs))))
  walk_tells (Pass o rest room p) v F K k s = tells_bind c known (passes o rest room p v F K k s) (λ u f. walk_tells p u F K k f)
  walk_tells (If test q r p) v F K k s =
      tells_bind c known
      (either_tells (λ l. CutsShrink c.transfer q v l (λ u more. CutsShrink c.transfer p u more K)) (λ l. CutsShrink c.transfer r v l (λ u more. CutsShrink c.transfer p u more K)) (holds c.transfer test v) (walk c.transfer q v) (walk c.transfer r v)
      (λ e. walk_tells q v (λ u. Shrinks c.transfer p u F) (λ u more. CutsShrink c.transfer p u more K) (λ u f. start_of c.transfer p u F K k f) (s.0 e))
      (λ e. walk_tells r v (λ u. Shrinks c.transfer p u F) (λ u more. CutsShrink c.transfer p u more K) (λ u f. start_of c.transfer p u F K k f) (s.1 e)))
      (λ u f. walk_tells p u F K k f)
  walk_tells (Tag p) v F K k s = walk_tells p (with_tag v) F K k s
  walk_tells (Assert t test p) v F K k s = by_debug c.transfer.debug (walk_tells p v F K k s)
    where
      by_debug : (b : Bool) → Tells c known F K (λ l. CutsShrink c.transfer p v l K) (walk c.transfer p v) → Tells c known F K (λ l. CutsShrink c.transfer p v l K) (asserted b t (holds c.transfer test v) (walk c.transfer p v))
      by_debug true h = tells_unless c known t (holds c.transfer test v) h.starts (λ e. h)
      by_debug false h = h

-- ---- wherever the source lies

module _ (tr : Transfer) (a : ℕ) where
  grow_apart : (x y : Amount) (v : PathPoint) → DoesNotGrow y (amount tr x (moved tr a v)) (amount tr y (moved tr a v)) → DoesNotGrow y (amount tr x v) (amount tr y v)
  grow_apart x (SourceUnits k) v h = tt
  grow_apart (SourceUnits n) (WrittenUnits k) v h = h
  grow_apart (WrittenUnits n) (WrittenUnits k) v h = h

  of_next : (l : Answers) (P Q : List CoreValue → Answers → Type 0) → ((rs : List CoreValue) (more : Answers) → P rs more → Q rs more) → OfNext l P → OfNext l Q
  of_next [] P Q f h = tt
  of_next (rs ∷ more) P Q f h = f rs more h

  of_either : (b : Bool) (P Q P2 Q2 : Type 0) → (P → P2) → (Q → Q2) → OfEither b P Q → OfEither b P2 Q2
  of_either true P Q P2 Q2 f g h = f h
  of_either false P Q P2 Q2 f g h = g h

  pub cuts_apart : (p : Path) (v : PathPoint) (l : Answers) (K K2 : PathPoint → Answers → Type 0) → ((u : PathPoint) (more : Answers) → K (moved tr a u) more → K2 u more) → CutsShrink tr p (moved tr a v) l K → CutsShrink tr p v l K2
  cuts_apart End v l K K2 k h = k v l h
  cuts_apart (Limit n p) v l K K2 k h = cuts_apart p v l K K2 k h
  cuts_apart (Resize x y p) v l K K2 k h = (grow_apart x y v h.0, of_next l _ _ (λ rs more d. cuts_apart p (record v { region = first_bits rs }) more K K2 k d) h.1)
  cuts_apart (Pass o rest room p) v l K K2 k h =
      of_next l _ _ (λ rs more d. cuts_apart p (passed tr (transcode_kind o) rest rs v) more K K2 k (subst (λ u. CutsShrink tr p u more K) (passed_same tr a (transcode_kind o) rest rs v) d)) h
  cuts_apart (If test q r p) v l K K2 k h =
      of_either (holds tr test v) _ _ _ _ (cuts_apart q v l (λ u more. CutsShrink tr p u more K) (λ u more. CutsShrink tr p u more K2) (λ u more d. cuts_apart p u more K K2 k d))
      (cuts_apart r v l (λ u more. CutsShrink tr p u more K) (λ u more. CutsShrink tr p u more K2) (λ u more d. cuts_apart p u more K K2 k d))
      (subst (λ b. OfEither b (CutsShrink tr q (moved tr a v) l (λ u more. CutsShrink tr p u more K)) (CutsShrink tr r (moved tr a v) l (λ u more. CutsShrink tr p u more K))) (holds_same tr a test v) h)
  cuts_apart (Tag p) v l K K2 k h = cuts_apart p (with_tag v) l K K2 k h
  cuts_apart (Assert t test p) v l K K2 k h = cuts_apart p v l K K2 k h
