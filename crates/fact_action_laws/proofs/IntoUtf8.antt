-- The paths into UTF-8 from UTF-16 and Latin-1: a first pass into as many bytes as the source has units, and where that was
-- not enough, a second one behind it into the most that the text can take.
use Rattle.std.proofs.Common.{◌≡◌, ℕ, ◌+◌, ◌*◌, ◌-◌, ◌/◌, ◌^◌, ◌≤◌, ◌<◌, ⊎_elim, List, [], ◌∷◌, ◌++◌, refl, sym, ap, ◌∙◌, subst, arith, length, get_or, length-append, take, drop}
use Rattle.std.specs.Prelude.{true, false}
use Rattle.std.proofs.Math.Utf8.{low_scalar}
use Rattle.std.proofs.Math.Nat.{mul-le-mul}
use Rattle.std.proofs.lemmas.List.{take_all}
use Rattle.fact_types.specs.declared.outside.FixedEncoding.{FixedEncoding}
use Rattle.fact_types.specs.declared.outside.FixedEncoding.TheVariants.{Utf8, Utf16, Latin1}
use Rattle.fact_types.specs.declared.outside.StringEncoding.TheVariants as string
use Rattle.fact_types.specs.declared.outside.Transcode.{Transcode}
use Rattle.fact_types.specs.declared.outside.Transcode.TheVariants as op
use Rattle.fact_types.specs.declared.outside.Trap.TheVariants.{DebugAssertStringEncodingFinished}
use Rattle.fact_values.specs.Texts.{unit_bytes, IsSpelled, char_spelling, units, spelled_text, units_of_text}
use Rattle.fact_actions.specs.Transcoders.{Fitting, transcode_kind, from_encoding, to_encoding, Room, IsHonestPass}
use Rattle.fact_actions.specs.Paths.{SourceUnits, WrittenUnits, AllRead, WrittenIs, Path, End, Limit, Resize, Pass, If, Assert, to_utf8}
use Rattle.fact_actions.specs.Strings.{most_string_bytes}
use Rattle.fact_action_laws.proofs.Bounds.{growth, length_spelling, length_text, all_bound}
use Rattle.fact_action_laws.proofs.Stages.{Stage, beginning, Leads, Moved}
use Rattle.fact_action_laws.proofs.TextTransfers.{whole, first, stands, text_bytes_append, text_units_append, can_spell_append, left, some_left, enough, none_left, lt_or_eq, fresh, begins, pass_by, moved_to}

pub spelled8 : (f : FixedEncoding) (c : ℕ) → IsSpelled f c → IsSpelled Utf8 c
spelled8 Utf8 c h = h
spelled8 Utf16 c h = h
spelled8 Latin1 c h = low_scalar c (omega (arith, h))

within : (f : FixedEncoding) (n : ℕ) → n ≤ most_string_bytes / growth f Utf8 → growth f Utf8 * n < 2 ^ 31
within Utf8 n h = omega (arith, h)
within Utf16 n h = omega (arith, h)
within Latin1 n h = omega (arith, h)

wider : (f : FixedEncoding) (n : ℕ) → n ≤ growth f Utf8 * n
wider Utf8 n = omega arith
wider Utf16 n = omega arith
wider Latin1 n = omega arith

module _ (f : FixedEncoding) (us : List ℕ) (n : ℕ) (long : length us ≡ unit_bytes f * n) where
  -- with room for the whole text nothing is left by the second pass
  second : (g1 : Room) (a1 b1 a2 b2 : List ℕ) (g2 : Room) (h1 : IsHonestPass Fitting f Utf8 g1 us a1 b1) → (h2 : IsHonestPass Fitting f Utf8 g2 h1.rest a2 b2) → g2.room ≡ growth f Utf8 * n - length a1 → h2.rest ≡ []
  second g1 a1 b1 a2 b2 g2 h1 h2 m = ⊎_elim (λ e. e) (λ x. absurd (
      let c = x.next in
      let F = growth f Utf8 in
      let t1 = all_bound f Utf8 h1.text h1.can_read h1.can_write in
      let t2 = all_bound f Utf8 h2.text h2.can_read h2.can_write in
      let t3 : 1 * (units Utf8 c + 0) ≤ F * (units f c + 0) = all_bound f Utf8 (c ∷ []) (x.can, tt) (spelled8 f c x.can, tt) in
      let l1 : length a1 ≡ 1 * units_of_text Utf8 h1.text = ap length h1.writes ∙ length_text Utf8 h1.text in
      let l2 = length_text Utf8 h2.text in
      let l3 = length_spelling Utf8 c in
      let s1 = some_left f us h1.text h1.rest n long h1.reads in
      let s2 : length h1.rest ≡ unit_bytes f * units_of_text f h2.text + (unit_bytes f * units f c + length x.more) =
      ap length h2.reads ∙ length-append (spelled_text f h2.text) h2.rest ∙ (let q1 = length_text f h2.text in let q2 : length h2.rest ≡ unit_bytes f * units f c + length x.more = ap length x.begins ∙ length-append (char_spelling f c) x.more ∙ ap (λ k. k + length x.more) (length_spelling f c) in omega (arith, q1, q2)) in
      let total : units_of_text f h1.text + (units_of_text f h2.text + units f c) ≤ n = enough f _ n (omega (arith, s1, s2)) in
      let total2 : F * (units_of_text f h1.text + (units_of_text f h2.text + units f c)) ≤ F * n = mul-le-mul (let same : F ≤ F = omega arith in same) total in
      let top = x.full in
      omega (arith, t1, t2, t3, l1, l2, l3, m, top, total2))) h2.stops.1

  all_text : (g1 : Room) (a1 b1 a2 b2 : List ℕ) (g2 : Room) (h1 : IsHonestPass Fitting f Utf8 g1 us a1 b1) → (h2 : IsHonestPass Fitting f Utf8 g2 h1.rest a2 b2) → h2.rest ≡ [] → (r w size : ℕ) (have : List ℕ) → w ≡ length a1 + length a2 → have ≡ a1 ++ a2 → w ≤ size → Moved f string.Utf8 us (record { read = r; written = w; size = size; given = true; have = have })
  all_text g1 a1 b1 a2 b2 g2 h1 h2 none r w size have lw hv fits =
      let t = h1.text ++ h2.text in
      let rest2 : h1.rest ≡ spelled_text f h2.text = whole f h1.rest h2.text h2.rest h2.reads none in
      let is : us ≡ spelled_text f t = h1.reads ∙ ap (λ l. spelled_text f h1.text ++ l) rest2 ∙ sym (text_bytes_append f h1.text h2.text) in
      let out : have ≡ spelled_text Utf8 t = hv ∙ ap (λ l. l ++ a2) h1.writes ∙ ap (λ l. spelled_text Utf8 h1.text ++ l) h2.writes ∙ sym (text_bytes_append Utf8 h1.text h2.text) in
      let count : w ≡ units_of_text Utf8 t = omega (arith, lw, ap length h1.writes, ap length h2.writes, length_text Utf8 h1.text, length_text Utf8 h2.text, text_units_append Utf8 h1.text h2.text) in
      record {
        text = t;
        given = refl;
        source = record { can = can_spell_append f h1.text h2.text h1.can_read h2.can_read; is = is };
        stands = record { can = can_spell_append Utf8 h1.text h2.text h1.can_write h2.can_write; units_are = count; bytes_are = stands Utf8 t w have count out; room = omega (arith, fits) };
      }

  -- both passes together have read all units
  all_units_read : (g1 : Room) (a1 b1 a2 b2 : List ℕ) (g2 : Room) (h1 : IsHonestPass Fitting f Utf8 g1 us a1 b1) → (h2 : IsHonestPass Fitting f Utf8 g2 h1.rest a2 b2) → h2.rest ≡ [] → (r x : ℕ) → r ≡ units_of_text f h1.text → x ≡ units_of_text f h2.text → r + x ≡ n
  all_units_read g1 a1 b1 a2 b2 g2 h1 h2 none r x er ex =
      go f (some_left f us h1.text h1.rest n long h1.reads) (ap length (whole f h1.rest h2.text h2.rest h2.reads none) ∙ length_text f h2.text)
    where
      go : (f1 : FixedEncoding) → unit_bytes f1 * units_of_text f h1.text + length h1.rest ≡ unit_bytes f1 * n → length h1.rest ≡ unit_bytes f1 * units_of_text f h2.text → r + x ≡ n
      go Utf8 a b = omega (arith, a, b, er, ex)
      go Utf16 a b = omega (arith, a, b, er, ex)
      go Latin1 a b = omega (arith, a, b, er, ex)

-- a text that has as few bytes of UTF-8 as units has no fewer
filled : (f : FixedEncoding) (n w u x : ℕ) → w ≡ x → u ≡ n → w ≤ n → unit_bytes f * u ≤ growth Utf8 f * x → w ≡ 1 * n
filled Utf8 n w u x a b le h = omega (arith, a, b, le, h)
filled Utf16 n w u x a b le h = omega (arith, a, b, le, h)
filled Latin1 n w u x a b le h = omega (arith, a, b, le, h)

-- ---- the path

-- F is the most bytes of a unit
module _ (Kept Good : Type 0) (f : FixedEncoding) (o : Transcode) (k_is : transcode_kind o ≡ Fitting) (f_is : from_encoding o ≡ f) (t_is : to_encoding o ≡ Utf8) (two : 2 ≤ growth f Utf8) (n : ℕ) where
  abbrev After : List ℕ → Stage → Type 0
  After us s = Kept → Moved f string.Utf8 us s

  -- the region is cut to what is written
  abbrev cut_path : Path
  cut_path = If (WrittenIs (growth f Utf8)) End (Resize (SourceUnits (growth f Utf8)) (WrittenUnits 1) End) End

  -- the rest of the source, and the first bytes as they stood
  rest_read : (us us2 : List ℕ) (g1 g2 : Room) (a1 b1 a2 b2 : List ℕ) (h1 : IsHonestPass Fitting f Utf8 g1 us a1 b1) (r1 : ℕ) → r1 ≡ units_of_text f h1.text → us2 ≡ us
      → IsHonestPass Fitting f Utf8 g2 (drop (unit_bytes f * r1) us2) a2 b2 → IsHonestPass Fitting f Utf8 g2 h1.rest a2 b2
  rest_read us us2 g1 g2 a1 b1 a2 b2 h1 r1 lr same h =
      subst (λ l. IsHonestPass Fitting f Utf8 g2 l a2 b2) (ap (λ l. drop (unit_bytes f * r1) l) same ∙ left f us h1.text h1.rest r1 lr h1.reads) h

  first_kept : (have a1 a2 : List ℕ) (w1 : ℕ) → have ≡ take (growth f Utf8 * n) a1 → length a1 ≤ growth f Utf8 * n → w1 ≡ length a1 → take w1 have ++ a2 ≡ a1 ++ a2
  first_kept have a1 a2 w1 e le lw = ap (λ l. take w1 l ++ a2) (e ∙ take_all (growth f Utf8 * n) a1 le) ∙ ap (λ l. l ++ a2) (take_all w1 a1 (omega (arith, lw)))

  -- the second pass, behind a first one that left something
  again_leads : (us : List ℕ) → length us ≡ unit_bytes f * n → n ≤ most_string_bytes / growth f Utf8 → (g1 : Room) (a1 b1 : List ℕ) (h1 : IsHonestPass Fitting f Utf8 g1 us a1 b1) (r1 w1 : ℕ) → r1 ≡ units_of_text f h1.text → w1 ≡ length a1 → length a1 ≤ n → r1 < n
      → Leads n Kept Good (Resize (SourceUnits 1) (SourceUnits (growth f Utf8)) (Pass o true (growth f Utf8) (Assert DebugAssertStringEncodingFinished AllRead cut_path))) us (record { read = r1; written = w1; size = 1 * n; given = true; have = a1 }) After
  again_leads us long lim g1 a1 b1 h1 r1 w1 lr lw short lt =
      let F = growth f Utf8 in
      let most : F * n < 2 ^ 31 = within f n lim in
      let small : n ≤ F * n = wider f n in
      let twice : 2 * n ≤ F * n = mul-le-mul two (let same : n ≤ n = omega arith in same) in (
        refl,
        omega (arith, most),
        λ us2 have l1 l2 same keeps.
            let held : length have ≡ w1 = omega (arith, l2, short, small, lw) in
            pass_by Kept Good n o Fitting f Utf8 true F (Assert DebugAssertStringEncodingFinished AllRead cut_path) us2 (record { read = r1; written = w1; size = F * n; given = true; have = have }) After k_is f_is t_is (
              l1 ∙ long,
              refl,
              (lt, omega (arith, most, small)),
              (omega (arith, held), omega (arith, lw, short, lt, twice), refl),
              tt,
              λ a2 b2 h'.
                  let lw2 : get_or b2 1 0 ≡ length a2 = ap (λ l. get_or l 1 0) h'.answers ∙ sym (ap length h'.writes) in
                  let la2 : length a2 ≡ length (spelled_text Utf8 h'.text) = ap length h'.writes in
                  let top = h'.stops.0 in
                  let fits : w1 + length a2 ≤ F * n = omega (arith, la2, top, lw, short, small) in
                  let out : w1 + get_or b2 1 0 ≡ length a1 + length a2 = omega (arith, lw, lw2) in (
                    fits,
                    (
                      tt,
                      (λ kept.
                          let h2 = rest_read us us2 g1 _ a1 b1 a2 b2 h1 r1 lr (same kept) h' in
                          all_units_read f us n long _ a1 b1 a2 b2 _ h1 h2 (second f us n long _ a1 b1 a2 b2 _ h1 h2 (ap (λ k. F * n - k) lw)) r1 (get_or b2 0 0) lr (ap (λ l. get_or l 0 0) h2.answers)),
                      (
                        omega (arith, most),
                        (λ eq kept.
                            let h2 = rest_read us us2 g1 _ a1 b1 a2 b2 h1 r1 lr (same kept) h' in
                            moved_to f string.Utf8 us us2 _ (same kept)
                            (all_text f us n long _ a1 b1 a2 b2 _ h1 h2 (second f us n long _ a1 b1 a2 b2 _ h1 h2 (ap (λ k. F * n - k) lw)) _ _ (F * n) _ out (first_kept have a1 a2 w1 (keeps kept) (omega (arith, short, small)) lw) (omega (arith, eq)))),
                        (λ ne. (
                          refl,
                          omega (arith, fits, lw2, most),
                          λ us3 have3 l3 l4 same3 keeps3 kept.
                              let h2 = rest_read us us2 g1 _ a1 b1 a2 b2 h1 r1 lr (same kept) h' in
                              let hv = first_kept have a1 a2 w1 (keeps kept) (omega (arith, short, small)) lw in
                              moved_to f string.Utf8 us us3 _ (same3 kept ∙ same kept)
                              (all_text f us n long _ a1 b1 a2 b2 _ h1 h2 (second f us n long _ a1 b1 a2 b2 _ h1 h2 (ap (λ k. F * n - k) lw)) _ _ _ _ out (keeps3 kept ∙ take_all _ _ (omega (arith, ap length hv, length-append a1 a2, out)) ∙ hv) (omega arith)),
                        )),
                      ),
                    ),
                  ),
            ),
      )

  abbrev passes : Path
  passes = If AllRead (Assert DebugAssertStringEncodingFinished (WrittenIs 1) End) (Limit (growth f Utf8) (Resize (SourceUnits 1) (SourceUnits (growth f Utf8)) (Pass o true (growth f Utf8) (Assert DebugAssertStringEncodingFinished AllRead cut_path)))) End

  to_utf8_leads : (us : List ℕ) → 1 * n < 2 ^ 32 → (Good → n ≤ most_string_bytes / growth f Utf8) → length us ≡ unit_bytes f * n → Leads n Kept Good (Pass o false 1 passes) us (fresh (1 * n)) After
  to_utf8_leads us small good long =
      pass_by Kept Good n o Fitting f Utf8 false 1 passes us (fresh (1 * n)) After k_is f_is t_is (
        long,
        refl,
        tt,
        refl,
        tt,
        λ a1 b1 h.
            let h1 = subst (λ l. IsHonestPass Fitting f Utf8 (record { room = 1 * n - 0; latin1_bytes = [] }) l a1 b1) (first f us) h in
            let r1 = get_or b1 0 0 in
            let w1 = get_or b1 1 0 in
            let lr : r1 ≡ units_of_text f h1.text = ap (λ l. get_or l 0 0) h1.answers in
            let la : length a1 ≡ length (spelled_text Utf8 h1.text) = ap length h1.writes in
            let lw : w1 ≡ length a1 = ap (λ l. get_or l 1 0) h1.answers ∙ sym la in
            let top = h1.stops.0 in
            let short : length a1 ≤ n = omega (arith, la, top) in
            let s1 = some_left f us h1.text h1.rest n long h1.reads in
            let count : w1 ≡ units_of_text Utf8 h1.text = omega (arith, lw, la, length_text Utf8 h1.text) in (
              omega (arith, short),
              (
                tt,
                (λ eq. (
                  small,
                  (λ kept. filled f n w1 (units_of_text f h1.text) (units_of_text Utf8 h1.text) count (sym lr ∙ eq) (omega (arith, lw, short)) (all_bound Utf8 f h1.text h1.can_write h1.can_read)),
                  λ kept.
                      let none = none_left f (units_of_text f h1.text) n h1.rest s1 (sym lr ∙ eq) in
                      record {
                        text = h1.text;
                        given = refl;
                        source = record { can = h1.can_read; is = whole f us h1.text h1.rest h1.reads none };
                        stands = record { can = h1.can_write; units_are = count; bytes_are = stands Utf8 h1.text w1 a1 count h1.writes; room = omega (arith, lw, short) };
                      },
                )),
                (λ ne. (
                  good,
                  λ lim.
                      let le = enough f r1 n (let q : unit_bytes f * r1 ≡ unit_bytes f * units_of_text f h1.text = ap (λ k. unit_bytes f * k) lr in omega (arith, s1, q)) in
                      let lt : r1 < n = ⊎_elim (λ l. l) (λ e. absurd (ne e)) (lt_or_eq r1 n le) in
                      again_leads us long lim _ a1 b1 h1 r1 w1 lr lw short lt,
                )),
              ),
            ),
      )

  -- with the limit and the region before it
  whole_leads : (unit : ℕ) (us : List ℕ) → (Good → n ≤ most_string_bytes / unit) → (n ≤ most_string_bytes / unit → 1 * n < 2 ^ 32) → (Good → n ≤ most_string_bytes / growth f Utf8) → length us ≡ unit_bytes f * n
      → Leads n Kept Good (Limit unit (Resize (SourceUnits 0) (SourceUnits 1) (Pass o false 1 passes))) us beginning After
  whole_leads unit us first fits good long = begins Kept Good n unit 1 (Pass o false 1 passes) us After first fits (λ le u same. to_utf8_leads u (fits le) good (same ∙ long))

module _ (Kept Good : Type 0) (n : ℕ) (us : List ℕ) where
  pub utf16_to_utf8 : (Good → n ≤ most_string_bytes / 3) → length us ≡ 2 * n → Leads n Kept Good (to_utf8 2 3 op.Utf16ToUtf8) us beginning (λ u s. Kept → Moved Utf16 string.Utf8 u s)
  utf16_to_utf8 good long = whole_leads Kept Good Utf16 op.Utf16ToUtf8 refl refl refl (omega arith) n 2 us (λ g. let l = good g in omega (arith, l)) (λ le. omega (arith, le)) good long

  pub latin1_to_utf8 : (Good → n ≤ most_string_bytes / 2) → length us ≡ 1 * n → Leads n Kept Good (to_utf8 1 2 op.Latin1ToUtf8) us beginning (λ u s. Kept → Moved Latin1 string.Utf8 u s)
  latin1_to_utf8 good long = whole_leads Kept Good Latin1 op.Latin1ToUtf8 refl refl refl (omega arith) n 1 us (λ g. let l = good g in omega (arith, l)) (λ le. omega (arith, le)) good long
