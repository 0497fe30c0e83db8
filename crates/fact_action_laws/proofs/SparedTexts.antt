-- Moves of texts call no trap of a debug check where transcoders answer numbers as honest ones do.
use Rattle.std.proofs.Common.{◌≡◌, ◌⊎◌, inl, inr, ⊎_elim, ℕ, ◌+◌, ◌*◌, ◌-◌, ◌/◌, ◌%◌, ◌^◌, ◌≤◌, ◌<◌, Bool, true, false, List, ◌++◌, drop, Option, Some, None, refl, sym, ap, ◌∙◌, subst, arith}
use Rattle.std.specs.Prelude.{nat_eq, nat_le}
use Rattle.std.proofs.lemmas.Bool.{eq-eqb, eqb-true, leb-true}
use Rattle.fact_types.specs.declared.import.Import.{Import}
use Rattle.fact_types.specs.declared.import.Import.TheVariants as import
use Rattle.fact_types.specs.declared.outside.CoreDef.{CoreDef}
use Rattle.fact_types.specs.declared.outside.FixedEncoding.{FixedEncoding}
use Rattle.fact_types.specs.declared.outside.FixedEncoding.TheVariants.{Utf8}
use Rattle.fact_types.specs.declared.outside.MemoryOption.{MemoryOption}
use Rattle.fact_types.specs.declared.outside.StringEncoding.{StringEncoding}
use Rattle.fact_types.specs.declared.outside.StringEncoding.TheVariants as string
use Rattle.fact_types.specs.declared.outside.Transcode.{Transcode}
use Rattle.fact_types.specs.declared.outside.Transcode.TheVariants as op
use Rattle.fact_types.specs.declared.outside.Trap.{Trap as Reason}
use Rattle.fact_types.specs.declared.outside.Trap.TheVariants.{StringOutOfBounds, DebugAssertStringEncodingFinished, DebugAssertEqualCodeUnits}
use Rattle.fact_machine.specs.declared.types.CoreValue.{CoreValue}
use Rattle.fact_values.specs.Texts.{form_of}
use Rattle.fact_actions.specs.Actions.{Action, Give, Ask, Unreachable, ◌>>=◌}
use Rattle.fact_actions.specs.Calls.{nth_number}
use Rattle.fact_actions.specs.Paths.{SourceUnits, WrittenUnits, AllRead, WrittenIs, HasNoTag, KeepsUnits, Path, End, Limit, Resize, Pass, If, Tag, Assert, TextForm, AsUtf8, AsUtf16, AsCompactLatin1, AsCompactUtf16, to_utf8, path}
use Rattle.fact_actions.specs.Sides.{Transfer, Source, Target, nth_part, bytes_of_addresses, wrap, first_bits}
use Rattle.fact_actions.specs.Strings.{PathPoint, path_start, minus, holds, with_tag, source_args, target_args, passed, transcode, most_string_bytes, asserted, choose_action, walk, form_in, move_string}
use Rattle.fact_actions.specs.Transcoders.{TranscodeKind, AllUnits, Counted, Fitting, Narrow, Tagged, Widening, transcode_kind, from_encoding, transcode_types}
use Rattle.fact_actions.proofs.OwnParts.{bits_address}
use Rattle.fact_action_laws.proofs.Bounds.{growth}
use Rattle.fact_action_laws.proofs.Invariant.{wrap_small, minus_is}
use Rattle.fact_action_laws.proofs.Spares.{NumberNarrow, Spares, spares_give, spares_stop, spares_ask, spares_bind, spares_unless, spares_pass, spares_pair, spares_pair_written, spares_region, spares_realloc}

-- ---- the numbers of transcoders

-- Of n units r are read, of which each takes at most F bytes, and w bytes are written into a room of m; where some are left there is
-- no room for all of them.
pub record IsGoodFit (F n m r w : ℕ) : Type 0 where
  pub read : r ≤ n
  pub least : r ≤ w
  pub most : w ≤ F * r
  pub room : w ≤ m
  pub all : (r ≡ n) ⊎ (m < w + F * (n - r))

-- what is told and answered, by a transcoder's kind and by what it reads
abbrev pub IsGoodPass : TranscodeKind → FixedEncoding → (args results : List CoreValue) → Type 0
IsGoodPass Fitting f args rs = IsGoodFit (growth f Utf8) (nth_number args 1) (nth_number args 3) (first_bits rs) (first_bits (drop 1 rs))
IsGoodPass Tagged f args rs = nth_number args 1 < 2 ^ 31 → first_bits rs % 2 ^ 31 ≡ nth_number args 1
IsGoodPass AllUnits f args rs = Unit {0}
IsGoodPass Counted f args rs = Unit {0}
IsGoodPass Narrow f args rs = Unit {0}
IsGoodPass Widening f args rs = Unit {0}

-- the first pass has written as many bytes as there are units, where it has read them all
filled : (F n r w : ℕ) → IsGoodFit F n n r w → r ≡ n → w ≡ n
filled F n r w g e = let a = g.least in let b = g.room in omega (arith, a, b, e)

-- the second one reads all that is left
finished : (n r1 w1 n2 m2 r2 w2 : ℕ) (F : ℕ) → (2 ≡ F) ⊎ (3 ≡ F) → w1 ≤ F * r1 → r1 ≤ n → n2 ≡ n - r1 → m2 ≡ F * n - w1 → IsGoodFit F n2 m2 r2 w2 → r1 + r2 ≡ n
finished n r1 w1 n2 m2 r2 w2 F two_or_three h le en em g =
    ⊎_elim (λ e. omega (arith, e, en, le)) (λ lt. absurd (⊎_elim (λ is. two F is lt g.most g.read h em) (λ is. three F is lt g.most g.read h em) two_or_three)) g.all
  where
    two : (F : ℕ) → 2 ≡ F → m2 < w2 + F * (n2 - r2) → w2 ≤ F * r2 → r2 ≤ n2 → w1 ≤ F * r1 → m2 ≡ F * n - w1 → ⊥
    two F e = subst (λ F. m2 < w2 + F * (n2 - r2) → w2 ≤ F * r2 → r2 ≤ n2 → w1 ≤ F * r1 → m2 ≡ F * n - w1 → ⊥) e (λ a b c d f. omega (arith, a, b, c, d, f, en, le))

    three : (F : ℕ) → 3 ≡ F → m2 < w2 + F * (n2 - r2) → w2 ≤ F * r2 → r2 ≤ n2 → w1 ≤ F * r1 → m2 ≡ F * n - w1 → ⊥
    three F e = subst (λ F. m2 < w2 + F * (n2 - r2) → w2 ≤ F * r2 → r2 ≤ n2 → w1 ≤ F * r1 → m2 ≡ F * n - w1 → ⊥) e (λ a b c d f. omega (arith, a, b, c, d, f, en, le))

module _ (Good : Import → (args results : List CoreValue) → Type 0)
    (numbers : (o : Transcode) (from to : CoreDef) (from64 to64 : Bool) (args rs : List CoreValue) → Good (import.Transcode o from from64 to to64) args rs → IsGoodPass (transcode_kind o) (from_encoding o) args rs)
    (tr : Transfer) where
  abbrev S : {A : Type 0} → Action A → Type 0
  S q = Spares Good q

  spares_asserted : {A : Type 0} (debug : Bool) (t : Reason) (b : Bool) {q : Action A} → b ≡ true → S q → S (asserted debug t b q)
  spares_asserted false t b e h = h
  spares_asserted true t b e h = spares_pass Good t b e h

  spares_branch : {A : Type 0} (b : Bool) {q r : Action A} → (b ≡ true → S q) → (b ≡ false → S r) → S (choose_action b q r)
  spares_branch true h g = h refl
  spares_branch false h g = g refl

  -- a transcoder, and then something for each good answer
  spares_transcode : {A : Type 0} (o : Transcode) (rest : Bool) (room : ℕ) (v : PathPoint) (f : PathPoint → Action A)
      → ((rs : List CoreValue) → IsGoodPass (transcode_kind o) (from_encoding o) (source_args tr o rest v ++ target_args tr (transcode_kind o) rest room v) rs → S (f (passed tr (transcode_kind o) rest rs v)))
      → S (transcode tr o rest room v >>= f)
  spares_transcode {A} o rest room v f h = by_memories tr.from.memory tr.to.memory
    where
      by_memories : (x y : Option MemoryOption) → S (elim x [
        | None ↦ Unreachable
        | Some m ↦ elim y [
          | None ↦ Unreachable
          | Some n ↦
              Ask (import.Transcode o m.def m.memory64 n.def n.memory64)
              (source_args tr o rest v ++ target_args tr (transcode_kind o) rest room v)
              (transcode_types (transcode_kind o) m.memory64 n.memory64)
              (λ rs. Give (passed tr (transcode_kind o) rest rs v))
        ]
      ] >>= f)
      by_memories None y = spares_stop Good
      by_memories (Some m) None = spares_stop Good
      by_memories (Some m) (Some n) = spares_ask Good _ _ _ refl (λ rs g. h rs (numbers o m.def n.def m.memory64 n.memory64 _ rs g))

  -- the same of a kind that is known
  spares_known : {A : Type 0} (k : TranscodeKind) (o : Transcode) (rest : Bool) (room : ℕ) (v : PathPoint) (f : PathPoint → Action A) → transcode_kind o ≡ k
      → ((rs : List CoreValue) → IsGoodPass k (from_encoding o) (source_args tr o rest v ++ target_args tr k rest room v) rs → S (f (passed tr k rest rs v)))
      → S (transcode tr o rest room v >>= f)
  spares_known k o rest room v f e =
      subst (λ k. ((rs : List CoreValue) → IsGoodPass k (from_encoding o) (source_args tr o rest v ++ target_args tr k rest room v) rs → S (f (passed tr k rest rs v))) → S (transcode tr o rest room v >>= f)) e
      (spares_transcode o rest room v f)

  -- ---- paths without checks

  HasNoCheck : Path → Type 0
  HasNoCheck End = Unit {0}
  HasNoCheck (Limit n p) = HasNoCheck p
  HasNoCheck (Resize x y p) = HasNoCheck p
  HasNoCheck (Pass o rest room p) = HasNoCheck p
  HasNoCheck (If test q r p) = HasNoCheck q × HasNoCheck r × HasNoCheck p
  HasNoCheck (Tag p) = HasNoCheck p
  HasNoCheck (Assert t test p) = ⊥

  spares_walk : (p : Path) (v : PathPoint) → HasNoCheck p → S (walk tr p v)
  unfolding HasNoCheck
  spares_walk End v h = spares_give Good v
  spares_walk (Limit n p) v h = spares_unless Good StringOutOfBounds _ refl (λ e. spares_walk p v h)
  spares_walk (Resize x y p) v h = spares_realloc Good tr.concurrency tr.to StringOutOfBounds _ _ _ _ refl (λ q d. spares_walk p (record v { region = q }) h)
  spares_walk (Pass o rest room p) v h = spares_transcode o rest room v (λ u. walk tr p u) (λ rs g. spares_walk p _ h)
  spares_walk (If test q r p) v h = spares_bind Good (spares_branch (holds tr test v) (λ e. spares_walk q v h.0) (λ e. spares_walk r v h.1)) (λ u. spares_walk p u h.2)
  spares_walk (Tag p) v h = spares_walk p (with_tag v) h
  spares_walk (Assert t test p) v h = absurd h

  -- ---- into UTF-8

  module _ (o : Transcode) (k_is : transcode_kind o ≡ Fitting) (most : ℕ) (most_is : (2 ≡ most) ⊎ (3 ≡ most)) (growth_is : growth (from_encoding o) Utf8 ≡ most) where
    abbrev cut_path : Path
    cut_path = If (WrittenIs most) End (Resize (SourceUnits most) (WrittenUnits 1) End) End

    abbrev again : Path
    again = Limit most (Resize (SourceUnits 1) (SourceUnits most) (Pass o true most (Assert DebugAssertStringEncodingFinished AllRead cut_path)))

    spares_cut : (v : PathPoint) → S (walk tr cut_path v)
    unfolding HasNoCheck
    spares_cut v = spares_walk cut_path v (tt, tt, tt)

    small : (n : ℕ) → n ≤ most_string_bytes / most → (most * n < 2 ^ 32) × (n < 2 ^ 32)
    small n = ⊎_elim (λ e. subst (λ most. n ≤ most_string_bytes / most → (most * n < 2 ^ 32) × (n < 2 ^ 32)) e (λ h. (omega (arith, h), omega (arith, h)))) (λ e. subst (λ most. n ≤ most_string_bytes / most → (most * n < 2 ^ 32) × (n < 2 ^ 32)) e (λ h. (omega (arith, h), omega (arith, h)))) most_is

    -- behind a first pass that read r1 units and wrote w1 bytes
    spares_again : (v : PathPoint) → v.read ≤ v.length → v.written ≤ most * v.read → S (walk tr again v)
    spares_again v le h =
        spares_unless Good StringOutOfBounds (nat_le v.length (most_string_bytes / most)) refl (λ yes.
        let few = small v.length (leb-true v.length (most_string_bytes / most) yes) in
        spares_realloc Good tr.concurrency tr.to StringOutOfBounds _ _ _ _ refl (λ q d.
        let u = record v { region = q } in
        spares_known Fitting o true most u (λ x. walk tr (Assert DebugAssertStringEncodingFinished AllRead cut_path) x) k_is (λ rs g.
        let r2 = first_bits rs in
        let left : nth_number (source_args tr o true u ++ target_args tr Fitting true most u) 1 ≡ v.length - v.read = bits_address tr.from _ ∙ minus_is tr.from v.length v.read le few.1 in
        let top : most * v.read ≤ most * v.length = mul_le v.read v.length le in
        let room : nth_number (source_args tr o true u ++ target_args tr Fitting true most u) 3 ≡ most * v.length - v.written =
        bits_address tr.to _ ∙ ap (λ x. minus tr.to x v.written) (wrap_small tr.to (most * v.length) few.0) ∙ minus_is tr.to (most * v.length) v.written (omega (arith, h, top)) few.0 in
        let fit = subst (λ F. IsGoodFit F (nth_number (source_args tr o true u ++ target_args tr Fitting true most u) 1) (nth_number (source_args tr o true u ++ target_args tr Fitting true most u) 3) r2 (first_bits (drop 1 rs))) growth_is g in
        let all : v.read + r2 ≡ v.length = finished v.length v.read v.written _ _ r2 (first_bits (drop 1 rs)) most most_is h le left room fit in
        spares_asserted tr.debug DebugAssertStringEncodingFinished _ (eq-eqb (wrap tr.from (v.read + r2)) v.length (ap (wrap tr.from) all ∙ wrap_small tr.from v.length few.1)) (spares_cut _))))
      where
        mul_le : (a b : ℕ) → a ≤ b → most * a ≤ most * b
        mul_le a b le = ⊎_elim (λ e. subst (λ most. most * a ≤ most * b) e (omega (arith, le))) (λ e. subst (λ most. most * a ≤ most * b) e (omega (arith, le))) most_is

    spares_to_utf8 : (unit : ℕ) (v : PathPoint) → (v.length ≤ most_string_bytes / unit → v.length < 2 ^ 32) → S (walk tr (to_utf8 unit most o) v)
    spares_to_utf8 unit v fits =
        spares_unless Good StringOutOfBounds (nat_le v.length (most_string_bytes / unit)) refl (λ yes.
        let few = fits (leb-true v.length (most_string_bytes / unit) yes) in
        spares_realloc Good tr.concurrency tr.to StringOutOfBounds _ _ _ _ refl (λ q d.
        let u = record v { region = q } in
        spares_known Fitting o false 1 u (λ x. walk tr (If AllRead (Assert DebugAssertStringEncodingFinished (WrittenIs 1) End) again End) x) k_is (λ rs g.
        let r = first_bits rs in
        let w = first_bits (drop 1 rs) in
        let once : wrap tr.to (1 * v.length) ≡ v.length = ap (wrap tr.to) (let e : 1 * v.length ≡ v.length = omega arith in e) ∙ wrap_small tr.to v.length few in
        let units : nth_number (source_args tr o false u ++ target_args tr Fitting false 1 u) 1 ≡ v.length = bits_address tr.from v.length in
        let room : nth_number (source_args tr o false u ++ target_args tr Fitting false 1 u) 3 ≡ v.length = bits_address tr.to _ ∙ once in
        let fit1 = subst (λ F. IsGoodFit F (nth_number (source_args tr o false u ++ target_args tr Fitting false 1 u) 1) (nth_number (source_args tr o false u ++ target_args tr Fitting false 1 u) 3) r w) growth_is g in
        let fit2 = subst (λ n. IsGoodFit most n (nth_number (source_args tr o false u ++ target_args tr Fitting false 1 u) 3) r w) units fit1 in
        let fit = subst (λ m. IsGoodFit most v.length m r w) room fit2 in
        spares_bind Good
        (spares_branch (nat_eq r v.length)
        (λ yes. spares_asserted tr.debug DebugAssertStringEncodingFinished _ (eq-eqb w (wrap tr.to (1 * v.length)) (filled most v.length r w fit (eqb-true r v.length yes) ∙ sym once)) (spares_give Good _))
        (λ no. spares_again (record u { read = r; written = w }) fit.read fit.most))
        (λ x. spares_give Good x))))

  -- ---- from UTF-16 with the tag

  spares_untag : (v : PathPoint) → S (walk tr (path AsCompactUtf16 string.CompactUtf16) v)
  unfolding HasNoCheck
  spares_untag v =
      spares_unless Good StringOutOfBounds (nat_le v.length (most_string_bytes / 2)) refl (λ yes.
      let few = leb-true v.length (most_string_bytes / 2) yes in
      spares_realloc Good tr.concurrency tr.to StringOutOfBounds _ _ _ _ refl (λ q d.
      let u = record v { region = q } in
      spares_known Tagged op.Utf16ToCompactProbablyUtf16 false 0 u (λ x. walk tr (Assert DebugAssertEqualCodeUnits KeepsUnits (If HasNoTag (Resize (SourceUnits 2) (WrittenUnits 1) End) End End)) x) refl (λ rs g.
      let units : nth_number (source_args tr op.Utf16ToCompactProbablyUtf16 false u ++ target_args tr Tagged false 0 u) 1 ≡ v.length = bits_address tr.from v.length in
      spares_asserted tr.debug DebugAssertEqualCodeUnits _ (eq-eqb (first_bits rs % 2 ^ 31) v.length (g (omega (arith, few, units)) ∙ units)) (spares_walk (If HasNoTag (Resize (SourceUnits 2) (WrittenUnits 1) End) End End) _ (tt, tt, tt)))))

  -- ---- all paths

  spares_path : (f : TextForm) (e : StringEncoding) (v : PathPoint) → S (walk tr (path f e) v)
  unfolding HasNoCheck
  spares_path AsUtf8 string.Utf8 v = spares_walk (path AsUtf8 string.Utf8) v tt
  spares_path AsUtf8 string.Utf16 v = spares_walk (path AsUtf8 string.Utf16) v (tt, tt, tt)
  spares_path AsUtf8 string.CompactUtf16 v = spares_walk (path AsUtf8 string.CompactUtf16) v ((tt, tt, tt), (tt, tt, tt), tt)
  spares_path AsUtf16 string.Utf8 v = spares_to_utf8 op.Utf16ToUtf8 refl 3 (inr refl) refl 2 v (λ h. omega (arith, h))
  spares_path AsUtf16 string.Utf16 v = spares_walk (path AsUtf16 string.Utf16) v tt
  spares_path AsUtf16 string.CompactUtf16 v = spares_walk (path AsUtf16 string.CompactUtf16) v ((tt, tt, tt), (tt, tt, tt), tt)
  spares_path AsCompactLatin1 string.Utf8 v = spares_to_utf8 op.Latin1ToUtf8 refl 2 (inl refl) refl 1 v (λ h. omega (arith, h))
  spares_path AsCompactLatin1 string.Utf16 v = spares_walk (path AsCompactLatin1 string.Utf16) v tt
  spares_path AsCompactLatin1 string.CompactUtf16 v = spares_walk (path AsCompactLatin1 string.CompactUtf16) v tt
  spares_path AsCompactUtf16 string.Utf8 v = spares_to_utf8 op.Utf16ToUtf8 refl 3 (inr refl) refl 2 v (λ h. omega (arith, h))
  spares_path AsCompactUtf16 string.Utf16 v = spares_walk (path AsCompactUtf16 string.Utf16) v tt
  spares_path AsCompactUtf16 string.CompactUtf16 v = spares_untag v

  pub spares_string : (s : Source) (d : Target) → NumberNarrow (bytes_of_addresses tr.from) (nth_part 1 (bytes_of_addresses tr.from) 0 s) → NumberNarrow (bytes_of_addresses tr.from) (nth_part 1 (bytes_of_addresses tr.from) 1 s) → S (move_string tr s d)
  spares_string s d c0 c1 =
      spares_pair Good tr.debug tr.from s c0 c1 (λ p n.
      spares_region Good tr.from StringOutOfBounds p _ _ refl (λ is.
      spares_bind Good (spares_path (form_in tr.from.encoding n) tr.to.encoding (path_start p (form_of tr.from.encoding n).units)) (λ v. spares_pair_written Good tr.to d v.region v.written)))
