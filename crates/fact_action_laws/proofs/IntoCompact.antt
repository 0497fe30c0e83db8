-- The paths into compact texts.
use Rattle.std.proofs.Common.{◌≡◌, ℕ, ◌+◌, ◌*◌, ◌-◌, ◌%◌, ◌/◌, ◌^◌, ◌≤◌, ◌<◌, inl, inr, ⊎_elim, List, [], ◌∷◌, ◌++◌, refl, sym, ap, ◌∙◌, subst, arith, length, get_or, length-append, take, drop}
use Rattle.std.specs.Prelude.{Bool, true, false, nat_lt, bit_or, if◌then◌else◌, ◌&&◌}
use Rattle.std.proofs.Math.Utf8.{low_scalar}
use Rattle.std.proofs.Math.Nat.{mod-eq_of_lt}
use Rattle.std.proofs.lemmas.Bool.{ltb-true, lt-ltb, false≢true}
use Rattle.std.proofs.lemmas.Nat.{or_shifted, or_comm}
use Rattle.std.proofs.lemmas.List.{take_all, length-take-le}
use Rattle.fact_types.specs.declared.outside.FixedEncoding.{FixedEncoding}
use Rattle.fact_types.specs.declared.outside.FixedEncoding.TheVariants.{Utf8, Utf16, Latin1}
use Rattle.fact_types.specs.declared.outside.StringEncoding.TheVariants as string
use Rattle.fact_types.specs.declared.outside.Transcode.{Transcode}
use Rattle.fact_types.specs.declared.outside.Transcode.TheVariants as op
use Rattle.fact_types.specs.declared.outside.Trap.TheVariants.{DebugAssertEqualCodeUnits}
use Rattle.fact_values.specs.Texts.{unit_bytes, AreSpelled, char_spelling, spelled_text, units_of_text}
use Rattle.fact_actions.specs.Transcoders.{Narrow, Widening, transcode_kind, from_encoding, to_encoding, Room, all_latin1, widened, IsHonestPass}
use Rattle.fact_actions.specs.Paths.{SourceUnits, WrittenUnits, AllRead, HasNoTag, KeepsUnits, Path, End, Limit, Resize, Pass, If, Tag, Assert, whole, cut, to_compact, to_wide}
use Rattle.fact_actions.specs.Strings.{most_string_bytes}
use Rattle.fact_action_laws.proofs.Bounds.{growth, length_text, all_bound}
use Rattle.fact_action_laws.proofs.Stages.{Stage, beginning, Leads, StandsIn, Moved}
use Rattle.fact_action_laws.proofs.TextTransfers.{whole as all_read, counts, first, stands, text_bytes_append, text_units_append, can_spell_append, left, some_left, enough, fewer_low, none_left, lt_or_eq, fresh, begins, pass_by, moved_to}
use Rattle.fact_action_laws.proofs.Spelled.{SpellsText}

-- Latin-1 bytes made units
pub widened_spelling : (c : ℕ) → c < 256 → char_spelling Utf16 c ≡ c ∷ 0 ∷ []
widened_spelling c h =
    let one : nat_lt c 0x1_0000 ≡ true = lt-ltb c 0x1_0000 (omega (arith, h)) in
    let a : c % 256 ≡ c = mod-eq_of_lt h in
    let b : c / 256 ≡ 0 = omega (arith, h) in
    rw (one, a, b) refl

widened_text : (t : List ℕ) → AreSpelled Latin1 t → widened (spelled_text Latin1 t) ≡ spelled_text Utf16 t
widened_text [] h = refl
widened_text (c ∷ t) h = ap (λ l. c ∷ 0 ∷ l) (widened_text t h.1) ∙ ap (λ l. l ++ spelled_text Utf16 t) (sym (widened_spelling c h.0))

spelled16 : (t : List ℕ) → AreSpelled Latin1 t → AreSpelled Utf16 t
spelled16 [] h = tt
spelled16 (c ∷ t) h = (low_scalar c (let l = h.0 in omega (arith, l)), spelled16 t h.1)

pub units16 : (t : List ℕ) → AreSpelled Latin1 t → units_of_text Utf16 t ≡ units_of_text Latin1 t
units16 [] h = refl
units16 (c ∷ t) h = let one : nat_lt c 0x1_0000 ≡ true = lt-ltb c 0x1_0000 (let l = h.0 in omega (arith, l)) in rw (one) (ap (λ k. 1 + k) (units16 t h.1))

pub low_spelled : (t : List ℕ) → all_latin1 t ≡ true → AreSpelled Latin1 t
low_spelled [] e = tt
low_spelled (c ∷ t) e = go (nat_lt c 256) refl e (low_spelled t)
  where
    go : (b : Bool) → nat_lt c 256 ≡ b → (b && all_latin1 t) ≡ true → (all_latin1 t ≡ true → AreSpelled Latin1 t) → (c < 256) × AreSpelled Latin1 t
    go true l e f = (ltb-true c 256 l, f e)
    go false l e f = absurd (false≢true e)

stands_in : (e : FixedEncoding) (t : List ℕ) (u r w size : ℕ) (have : List ℕ) → AreSpelled e t → u ≡ units_of_text e t → have ≡ spelled_text e t → unit_bytes e * u ≤ size → StandsIn e t u (record { read = r; written = w; size = size; given = true; have = have })
stands_in e t u r w size have h lw hv fits = record { can = h; units_are = lw; bytes_are = stands e t u have lw hv; room = fits }

abbrev After : (Kept : Type 0) → FixedEncoding → List ℕ → Stage → Type 0
After Kept f us s = Kept → Moved f string.CompactUtf16 us s

-- ---- from UTF-16 with the tag

module _ (Kept Good : Type 0) (n : ℕ) where
  abbrev untag_path : Path
  untag_path = If HasNoTag (Resize (SourceUnits 2) (WrittenUnits 1) End) End End

  tagged_leads : (us : List ℕ) (t : List ℕ) → us ≡ spelled_text Utf16 t → AreSpelled Utf16 t → n ≡ units_of_text Utf16 t → n ≤ most_string_bytes / 2 → (b : Bool) → all_latin1 t ≡ b → (bytes numbers : List ℕ)
      → bytes ≡ (if b then spelled_text Latin1 t else spelled_text Utf16 t) → numbers ≡ (if b then units_of_text Utf16 t else 2 ^ 31 + units_of_text Utf16 t) ∷ []
      → (0 + length bytes ≤ 2 * n) × Leads n Kept Good untag_path us (record { read = 0; written = get_or numbers 0 0; size = 2 * n; given = true; have = bytes }) (After Kept Utf16)
  tagged_leads us t all can count lim true low bytes numbers hw ha =
      let sp = low_spelled t low in
      let w : get_or numbers 0 0 ≡ n = ap (λ l. get_or l 0 0) ha ∙ sym count in
      let lw : get_or numbers 0 0 ≡ units_of_text Latin1 t = w ∙ count ∙ units16 t sp in
      let len : length bytes ≡ 1 * units_of_text Latin1 t = ap length hw ∙ length_text Latin1 t in (
        omega (arith, len, lw, w),
        (
          omega (arith, w, lim),
          (λ x. (
            refl,
            omega (arith, w, lim),
            λ us2 have l1 l2 same keeps kept. moved_to Utf16 string.CompactUtf16 us us2 _ (same kept)
                (record { text = t; given = refl; source = record { can = can; is = all }; stands = inl (stands_in Latin1 t (get_or numbers 0 0) 0 _ _ _ sp lw (keeps kept ∙ take_all _ bytes (omega (arith, len, lw)) ∙ hw) (omega arith), omega (arith, w, lim)) }),
          )),
          (λ no1. absurd (no1 (omega (arith, w, lim)))),
        ),
      )
  tagged_leads us t all can count lim false low bytes numbers hw ha =
      let w : get_or numbers 0 0 ≡ 2 ^ 31 + n = ap (λ l. get_or l 0 0) ha ∙ ap (λ k. 2 ^ 31 + k) (sym count) in
      let len : length bytes ≡ 2 * units_of_text Utf16 t = ap length hw ∙ length_text Utf16 t in (
        omega (arith, len, count),
        (
          omega (arith, w, lim),
          (λ x. absurd (omega (arith, w, x))),
          (λ no1 kept. record { text = t; given = refl; source = record { can = can; is = all }; stands = inr (n, omega (arith, w), omega (arith, lim), stands_in Utf16 t n 0 _ _ _ can count hw (omega arith)) }),
        ),
      )

  -- the tag aside, what is written is the length of the source
  units_kept : (b : Bool) (u : ℕ) (numbers : List ℕ) → numbers ≡ (if b then u else 2 ^ 31 + u) ∷ [] → n ≡ u → n ≤ most_string_bytes / 2 → get_or numbers 0 0 % 2 ^ 31 ≡ n
  units_kept true u numbers h count lim = let w = ap (λ l. get_or l 0 0) h in omega (arith, w, count, lim)
  units_kept false u numbers h count lim = let w = ap (λ l. get_or l 0 0) h in omega (arith, w, count, lim)

  -- the tag is added
  tagged_number : (b : Bool) (u : ℕ) → u < 2 ^ 31 → (if b then u else bit_or u (2 ^ 31)) ≡ (if b then u else 2 ^ 31 + u)
  tagged_number true u h = refl
  tagged_number false u h = or_comm u (2 ^ 31) ∙ or_shifted 1 31 u h ∙ omega arith

  pub utf16_untags : (us : List ℕ) → (Good → n ≤ most_string_bytes / 2) → length us ≡ 2 * n
      → Leads n Kept Good (whole 2 op.Utf16ToCompactProbablyUtf16 (Assert DebugAssertEqualCodeUnits KeepsUnits untag_path)) us beginning (After Kept Utf16)
  utf16_untags us good long = begins Kept Good n 2 2 (Pass op.Utf16ToCompactProbablyUtf16 false 0 (Assert DebugAssertEqualCodeUnits KeepsUnits untag_path)) us (After Kept Utf16) good (λ lim. omega (arith, lim))
      (λ lim u same. (
        same ∙ long,
        refl,
        tt,
        tt,
        omega arith,
        λ bytes numbers h.
            let all = all_read Utf16 u h.text h.rest h.reads h.stops in
            let count = counts Utf16 u h.text n (same ∙ long) all in
            let says = h.answers ∙ ap (λ x. x ∷ []) (tagged_number (all_latin1 h.text) (units_of_text Utf16 h.text) (omega (arith, count, lim))) in
            let r = tagged_leads u h.text all h.can_read count lim (all_latin1 h.text) refl bytes numbers h.writes says in
            (r.0, (tt, (λ kept. units_kept (all_latin1 h.text) (units_of_text Utf16 h.text) numbers says count lim), r.1)),
      ))

-- ---- from UTF-8 and UTF-16

pub length_widened : (bs : List ℕ) → length (widened bs) ≡ 2 * length bs
length_widened [] = refl
length_widened (b ∷ bs) = omega (arith, length_widened bs)

module _ (Kept Good : Type 0) (f : FixedEncoding) (n : ℕ) where
  module _ (wide : Transcode) (k_is : transcode_kind wide ≡ Widening) (f_is : from_encoding wide ≡ f) (t_is : to_encoding wide ≡ Utf16) where
    -- behind a second pass, the text is all of it
    wide_text : (us us2 us3 : List ℕ) (g g2 : Room) (a1 b1 : List ℕ) (h1 : IsHonestPass Narrow f Latin1 g us a1 b1) (r1 w1 : ℕ) → r1 ≡ units_of_text f h1.text → w1 ≡ length a1 → length a1 ≤ n
        → (have a2 b2 : List ℕ) → us2 ≡ us → us3 ≡ us → have ≡ take (2 * n) a1 → g2.latin1_bytes ≡ take w1 have → IsHonestPass Widening f Utf16 g2 (drop (unit_bytes f * r1) us2) a2 b2
        → (r w size : ℕ) (final : List ℕ) → w ≡ get_or b2 0 0 + 2 ^ 31 → get_or b2 0 0 ≤ n → n ≤ most_string_bytes / 2 → final ≡ take (2 * get_or b2 0 0) a2 → 2 * get_or b2 0 0 ≤ size
        → Moved f string.CompactUtf16 us3 (record { read = r; written = w; size = size; given = true; have = final })
    wide_text us us2 us3 g g2 a1 b1 h1 r1 w1 lr lw short have a2 b2 same same3 keep room2 h r w size final sw top lim sh fits =
        let h2 = subst (λ l. IsHonestPass Widening f Utf16 g2 l a2 b2) (ap (λ l. drop (unit_bytes f * r1) l) same ∙ left f us h1.text h1.rest r1 lr h1.reads) h in
        let la : length a1 ≡ 1 * units_of_text Latin1 h1.text = ap length h1.writes ∙ length_text Latin1 h1.text in
        let t = h1.text ++ h2.text in
        let u = get_or b2 0 0 in
        let rest2 : h1.rest ≡ spelled_text f h2.text = all_read f h1.rest h2.text h2.rest h2.reads h2.stops.0 in
        let is : us ≡ spelled_text f t = h1.reads ∙ ap (λ l. spelled_text f h1.text ++ l) rest2 ∙ sym (text_bytes_append f h1.text h2.text) in
        let there : g2.latin1_bytes ≡ spelled_text Latin1 h1.text = room2 ∙ ap (λ l. take w1 l) (keep ∙ take_all (2 * n) a1 (omega (arith, short))) ∙ take_all w1 a1 (omega (arith, lw)) ∙ h1.writes in
        let out : a2 ≡ spelled_text Utf16 t = h2.writes ∙ ap (λ l. widened l ++ spelled_text Utf16 h2.text) there ∙ ap (λ l. l ++ spelled_text Utf16 h2.text) (widened_text h1.text h1.can_write) ∙ sym (text_bytes_append Utf16 h1.text h2.text) in
        let lu : u ≡ length g2.latin1_bytes + units_of_text Utf16 h2.text = ap (λ l. get_or l 0 0) h2.answers in
        let count : u ≡ units_of_text Utf16 t = omega (arith, lu, ap length there, length_text Latin1 h1.text, units16 h1.text h1.can_write, text_units_append Utf16 h1.text h2.text) in
        let len : length a2 ≡ 2 * u = ap length out ∙ length_text Utf16 t ∙ ap (λ k. 2 * k) (sym count) in
        moved_to f string.CompactUtf16 us us3 _ same3 (record {
          text = t;
          given = refl;
          source = record { can = can_spell_append f h1.text h2.text h1.can_read h2.can_read; is = is };
          stands = inr (u, sw, omega (arith, top, lim), stands_in Utf16 t u r w size final (can_spell_append Utf16 h1.text h2.text (spelled16 h1.text h1.can_write) h2.can_write) count (sh ∙ take_all (2 * u) a2 (omega (arith, len)) ∙ out) fits);
        })

    -- behind a first pass that stopped at a scalar value above 255
    pub wide_leads : (us : List ℕ) → length us ≡ unit_bytes f * n → n ≤ most_string_bytes / 2 → (g : Room) (a1 b1 : List ℕ) (h1 : IsHonestPass Narrow f Latin1 g us a1 b1) (r1 w1 : ℕ) → r1 ≡ units_of_text f h1.text → w1 ≡ length a1 → r1 < n → length a1 ≤ n
        → Leads n Kept Good (to_wide wide End) us (record { read = r1; written = w1; size = 1 * n; given = true; have = a1 }) (After Kept f)
    wide_leads us long lim g a1 b1 h1 r1 w1 lr lw less short = (
      refl,
      omega (arith, lim),
      λ us2 have l1 l2 same keeps.
          let held : length have ≡ w1 = omega (arith, l2, short, lw) in
          let k : length (take w1 have) ≡ w1 = length-take-le w1 have (omega (arith, held)) in
          let written : length a1 ≡ 1 * units_of_text Latin1 h1.text = ap length h1.writes ∙ length_text Latin1 h1.text in
          let low = fewer_low f h1.text h1.can_read h1.can_write in
          pass_by Kept Good n wide Widening f Utf16 true 1 (cut 2 (Tag End)) us2 (record { read = r1; written = w1; size = 2 * n; given = true; have = have }) (After Kept f) k_is f_is t_is (
            l1 ∙ long,
            refl,
            (less, omega (arith, lim)),
            (omega (arith, held), omega arith, omega (arith, written, low, lr, lw, less)),
            omega arith,
            λ a2 b2 h.
                let lu : get_or b2 0 0 ≡ length (take w1 have) + units_of_text Utf16 h.text = ap (λ l. get_or l 0 0) h.answers in
                let top : get_or b2 0 0 ≤ n = omega (arith, lu, h.stops.1) in
                let len : length a2 ≡ 2 * get_or b2 0 0 =
                ap length h.writes ∙ length-append (widened (take w1 have)) (spelled_text Utf16 h.text) ∙ (let x = length_widened (take w1 have) in let y = length_text Utf16 h.text in omega (arith, x, y, lu)) in (
                  omega (arith, len, top),
                  (
                    omega (arith, lim),
                    (λ eq. (omega (arith, top, lim), λ kept. wide_text us us2 us2 g _ a1 b1 h1 r1 w1 lr lw short have a2 b2 (same kept) (same kept) (keeps kept) refl h _ _ _ _ refl top lim (sym (take_all (2 * get_or b2 0 0) a2 (omega (arith, len)))) (omega (arith, top)))),
                    (λ ne. (
                      refl,
                      omega (arith, top, lim),
                      λ us3 have3 l3 l4 same3 keeps3.
                          (omega (arith, top, lim), λ kept. wide_text us us2 us3 g _ a1 b1 h1 r1 w1 lr lw short have a2 b2 (same kept) (same3 kept ∙ same kept) (keeps kept) refl h _ _ _ _ refl top lim (keeps3 kept) (omega arith)),
                    )),
                  ),
                ),
          ),
    )

  module _ (narrow : Transcode) (k_is : transcode_kind narrow ≡ Narrow) (f_is : from_encoding narrow ≡ f) (t_is : to_encoding narrow ≡ Latin1) where
    pub narrow_leads : (no_path : Path) (us : List ℕ) → growth f Latin1 ≡ 1 → length us ≡ unit_bytes f * n → n ≤ most_string_bytes / 1
        → ((g : Room) (a1 b1 : List ℕ) (h1 : IsHonestPass Narrow f Latin1 g us a1 b1) (r1 w1 : ℕ) → r1 ≡ units_of_text f h1.text → w1 ≡ length a1 → r1 < n → length a1 ≤ n → Leads n Kept Good no_path us (record { read = r1; written = w1; size = 1 * n; given = true; have = a1 }) (After Kept f))
        → Leads n Kept Good (Pass narrow false 0 (If AllRead (cut 1 End) no_path End)) us (fresh (1 * n)) (After Kept f)
    narrow_leads no_path us one long lim other = pass_by Kept Good n narrow Narrow f Latin1 false 0 (If AllRead (cut 1 End) no_path End) us (fresh (1 * n)) (After Kept f) k_is f_is t_is (
      long,
      refl,
      tt,
      refl,
      omega arith,
      λ a1 b1 h.
          let h1 = subst (λ l. IsHonestPass Narrow f Latin1 (record { room = 0 * n - 0; latin1_bytes = [] }) l a1 b1) (first f us) h in
          let r1 = get_or b1 0 0 in
          let w1 = get_or b1 1 0 in
          let lr : r1 ≡ units_of_text f h1.text = ap (λ l. get_or l 0 0) h1.answers in
          let la : length a1 ≡ length (spelled_text Latin1 h1.text) = ap length h1.writes in
          let lw : w1 ≡ length a1 = ap (λ l. get_or l 1 0) h1.answers ∙ sym la in
          let l1 = length_text Latin1 h1.text in
          let s1 = some_left f us h1.text h1.rest n long h1.reads in
          let le : r1 ≤ n = enough f r1 n (let q : unit_bytes f * r1 ≡ unit_bytes f * units_of_text f h1.text = ap (λ k. unit_bytes f * k) lr in omega (arith, s1, q)) in
          let fits : 1 * units_of_text Latin1 h1.text ≤ 1 * units_of_text f h1.text = subst (λ k. 1 * units_of_text Latin1 h1.text ≤ k * units_of_text f h1.text) one (all_bound f Latin1 h1.text h1.can_read h1.can_write) in
          let short : length a1 ≤ n = omega (arith, la, l1, fits, lr, le) in
          let count : w1 ≡ units_of_text Latin1 h1.text = omega (arith, lw, la, l1) in (
            omega (arith, short),
            (
              tt,
              (λ eq.
                  let none = none_left f (units_of_text f h1.text) n h1.rest s1 (sym lr ∙ eq) in
                  let src : SpellsText f us h1.text = record { can = h1.can_read; is = all_read f us h1.text h1.rest h1.reads none } in (
                    omega (arith, lim),
                    (λ e kept. record { text = h1.text; given = refl; source = src; stands = inl (stands_in Latin1 h1.text w1 r1 _ _ _ h1.can_write count h1.writes (omega (arith, e)), omega (arith, e, lim)) }),
                    (λ e. (
                      refl,
                      omega (arith, lw, short, lim),
                      λ us2 have l1 l2 same keeps kept. moved_to f string.CompactUtf16 us us2 _ (same kept)
                          (record { text = h1.text; given = refl; source = src; stands = inl (stands_in Latin1 h1.text w1 r1 _ _ _ h1.can_write count (keeps kept ∙ take_all (1 * w1) a1 (omega (arith, lw)) ∙ h1.writes) (omega arith), omega (arith, lw, short, lim)) }),
                    )),
                  )),
              (λ ne. ends no_path us _ (other _ a1 b1 h1 r1 w1 lr lw (⊎_elim (λ l. l) (λ e. absurd (ne e)) (lt_or_eq r1 n le)) short)),
            ),
          ),
    )
      where
        ends : (p : Path) (us : List ℕ) (s : Stage) → Leads n Kept Good p us s (After Kept f) → Leads n Kept Good p us s (λ us' s'. Leads n Kept Good End us' s' (After Kept f))
        ends p us s h = h

module _ (Kept Good : Type 0) (n : ℕ) (us : List ℕ) where
  pub utf8_to_compact : (Good → n ≤ most_string_bytes / 2) → length us ≡ 1 * n → Leads n Kept Good (to_compact 1 op.Utf8ToLatin1 (λ p. Limit 2 (to_wide op.Utf8ToCompactUtf16 p))) us beginning (After Kept Utf8)
  utf8_to_compact good long =
      begins Kept Good n 1 1 (Pass op.Utf8ToLatin1 false 0 (If AllRead (cut 1 End) (Limit 2 (to_wide op.Utf8ToCompactUtf16 End)) End)) us (After Kept Utf8) (λ g. let l = good g in omega (arith, l)) (λ le. omega (arith, le))
      (λ lim u same. narrow_leads Kept Good Utf8 n op.Utf8ToLatin1 refl refl refl (Limit 2 (to_wide op.Utf8ToCompactUtf16 End)) u refl (same ∙ long) lim
      (λ g a1 b1 h1 r1 w1 lr lw less short. (good, λ l. wide_leads Kept Good Utf8 n op.Utf8ToCompactUtf16 refl refl refl u (same ∙ long) l g a1 b1 h1 r1 w1 lr lw less short)))

  pub utf16_to_compact : (Good → n ≤ most_string_bytes / 2) → length us ≡ 2 * n → Leads n Kept Good (to_compact 2 op.Utf16ToLatin1 (λ p. to_wide op.Utf16ToCompactUtf16 p)) us beginning (After Kept Utf16)
  utf16_to_compact good long =
      begins Kept Good n 2 1 (Pass op.Utf16ToLatin1 false 0 (If AllRead (cut 1 End) (to_wide op.Utf16ToCompactUtf16 End) End)) us (After Kept Utf16) good (λ le. omega (arith, le))
      (λ lim u same. narrow_leads Kept Good Utf16 n op.Utf16ToLatin1 refl refl refl (to_wide op.Utf16ToCompactUtf16 End) u refl (same ∙ long) (omega (arith, lim))
      (λ g a1 b1 h1 r1 w1 lr lw less short. wide_leads Kept Good Utf16 n op.Utf16ToCompactUtf16 refl refl refl u (same ∙ long) lim g a1 b1 h1 r1 w1 lr lw less short))
