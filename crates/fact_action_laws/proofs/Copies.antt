-- The paths that write the whole source at once.
use Rattle.std.proofs.Common.{◌≡◌, ℕ, ◌+◌, ◌*◌, ◌/◌, ◌≤◌, inl, List, refl, sym, ap, ◌∙◌, subst, arith, length, get_or, take, drop}
use Rattle.std.specs.Prelude.{true, false}
use Rattle.std.proofs.lemmas.List.{take_all}
use Rattle.fact_types.specs.declared.outside.FixedEncoding.{FixedEncoding}
use Rattle.fact_types.specs.declared.outside.FixedEncoding.TheVariants.{Utf8, Utf16, Latin1}
use Rattle.fact_types.specs.declared.outside.StringEncoding.TheVariants as string
use Rattle.fact_types.specs.declared.outside.Transcode.TheVariants as op
use Rattle.fact_values.specs.Texts.{unit_bytes, AreSpelled, units_of_text}
use Rattle.fact_actions.specs.Transcoders.{AllUnits, Room, IsHonestPass}
use Rattle.fact_actions.specs.Paths.{End, Pass, whole, cut}
use Rattle.fact_actions.specs.Strings.{most_string_bytes}
use Rattle.fact_action_laws.proofs.Bounds.{length_text, all_bound}
use Rattle.fact_action_laws.proofs.Stages.{beginning, Leads, StandsIn, Moved}
use Rattle.fact_action_laws.proofs.TextTransfers.{whole as all_read, counts, first, stands, begins}
use Rattle.fact_action_laws.proofs.Spelled.{SpellsText}

-- all of the source was written, unit by unit
record Copied (f t : FixedEncoding) (us bytes : List ℕ) (n : ℕ) : Type 0 where
  text : List ℕ
  source : SpellsText f us text
  fits : 0 + length bytes ≤ unit_bytes t * n
  there : StandsIn t text n (record { read = 0; written = n; size = unit_bytes t * n; given = true; have = bytes })

copied : (f t : FixedEncoding) (us bytes numbers : List ℕ) (n : ℕ) (g : Room) → ((c : List ℕ) → AreSpelled f c → units_of_text t c ≡ units_of_text f c) → length us ≡ unit_bytes f * n
    → IsHonestPass AllUnits f t g (drop (unit_bytes f * 0) us) bytes numbers → Copied f t us bytes n
copied f t us bytes numbers n g same long h =
    let all = all_read f us h.text h.rest (sym (first f us) ∙ h.reads) h.stops in
    let count : n ≡ units_of_text t h.text = counts f us h.text n long all ∙ sym (same h.text h.can_read) in
    let size : length bytes ≡ unit_bytes t * n = ap length h.writes ∙ length_text t h.text ∙ ap (λ k. unit_bytes t * k) (sym count) in
    record {
      text = h.text;
      source = record { can = h.can_read; is = all };
      fits = omega (arith, size);
      there = record { can = h.can_write; units_are = count; bytes_are = stands t h.text n bytes count h.writes; room = omega arith };
    }

module _ (Kept Good : Type 0) (n : ℕ) (us : List ℕ) where
  pub utf8_copies : (Good → n ≤ most_string_bytes / 1) → length us ≡ 1 * n → Leads n Kept Good (whole 1 (op.Copy Utf8) End) us beginning (λ u s. Kept → Moved Utf8 string.Utf8 u s)
  utf8_copies good long = begins Kept Good n 1 1 (Pass (op.Copy Utf8) false 0 End) us (λ u s. Kept → Moved Utf8 string.Utf8 u s) good (λ le. omega (arith, le)) (λ le u same. (
    same ∙ long,
    refl,
    tt,
    tt,
    omega arith,
    λ bytes numbers h.
        let c = copied Utf8 Utf8 u bytes numbers n _ (λ t k. refl) (same ∙ long) h in
        (c.fits, λ kept. record { text = c.text; given = refl; source = c.source; stands = c.there }),
  ))

  pub utf16_copies : (Good → n ≤ most_string_bytes / 2) → length us ≡ 2 * n → Leads n Kept Good (whole 2 (op.Copy Utf16) End) us beginning (λ u s. Kept → Moved Utf16 string.Utf16 u s)
  utf16_copies good long = begins Kept Good n 2 2 (Pass (op.Copy Utf16) false 0 End) us (λ u s. Kept → Moved Utf16 string.Utf16 u s) good (λ le. omega (arith, le)) (λ le u same. (
    same ∙ long,
    refl,
    tt,
    tt,
    omega arith,
    λ bytes numbers h.
        let c = copied Utf16 Utf16 u bytes numbers n _ (λ t k. refl) (same ∙ long) h in
        (c.fits, λ kept. record { text = c.text; given = refl; source = c.source; stands = c.there }),
  ))

  pub latin1_copies : (Good → n ≤ most_string_bytes / 1) → length us ≡ 1 * n → Leads n Kept Good (whole 1 (op.Copy Latin1) End) us beginning (λ u s. Kept → Moved Latin1 string.CompactUtf16 u s)
  latin1_copies good long = begins Kept Good n 1 1 (Pass (op.Copy Latin1) false 0 End) us (λ u s. Kept → Moved Latin1 string.CompactUtf16 u s) good (λ le. omega (arith, le)) (λ le u same. (
    same ∙ long,
    refl,
    tt,
    tt,
    omega arith,
    λ bytes numbers h.
        let c = copied Latin1 Latin1 u bytes numbers n _ (λ t k. refl) (same ∙ long) h in
        (c.fits, λ kept. record { text = c.text; given = refl; source = c.source; stands = inl (c.there, omega (arith, le)) }),
  ))

  -- each unit is as many units
  pub latin1_widens : ((c : List ℕ) → AreSpelled Latin1 c → units_of_text Utf16 c ≡ units_of_text Latin1 c) → (Good → n ≤ most_string_bytes / 2) → length us ≡ 1 * n
      → Leads n Kept Good (whole 2 op.Latin1ToUtf16 End) us beginning (λ u s. Kept → Moved Latin1 string.Utf16 u s)
  latin1_widens units good long = begins Kept Good n 2 2 (Pass op.Latin1ToUtf16 false 0 End) us (λ u s. Kept → Moved Latin1 string.Utf16 u s) good (λ le. omega (arith, le)) (λ le u same. (
    same ∙ long,
    refl,
    tt,
    tt,
    omega arith,
    λ bytes numbers h.
        let c = copied Latin1 Utf16 u bytes numbers n _ units (same ∙ long) h in
        (c.fits, λ kept. record { text = c.text; given = refl; source = c.source; stands = c.there }),
  ))

  -- where fewer units were written, the region is cut to them
  pub utf8_to_utf16 : (Good → n ≤ most_string_bytes / 2) → length us ≡ 1 * n → Leads n Kept Good (whole 2 op.Utf8ToUtf16 (cut 2 End)) us beginning (λ u s. Kept → Moved Utf8 string.Utf16 u s)
  utf8_to_utf16 good long = begins Kept Good n 2 2 (Pass op.Utf8ToUtf16 false 0 (cut 2 End)) us (λ u s. Kept → Moved Utf8 string.Utf16 u s) good (λ le. omega (arith, le)) (λ lim u same. (
    same ∙ long,
    refl,
    tt,
    tt,
    omega arith,
    λ bytes numbers h.
        let all = all_read Utf8 u h.text h.rest h.reads h.stops in
        let count = counts Utf8 u h.text n (omega (arith, same, long)) all in
        let fits : 2 * units_of_text Utf16 h.text ≤ 2 * units_of_text Utf8 h.text = all_bound Utf8 Utf16 h.text h.can_read h.can_write in
        let size : length bytes ≡ 2 * units_of_text Utf16 h.text = ap length h.writes ∙ length_text Utf16 h.text in
        let out : get_or numbers 0 0 ≡ units_of_text Utf16 h.text = ap (λ l. get_or l 0 0) h.answers in
        let source : SpellsText Utf8 u h.text = record { can = h.can_read; is = all } in (
          omega (arith, size, fits, count),
          (
            omega (arith, lim),
            (λ eq kept. record {
              text = h.text;
              given = refl;
              source = source;
              stands = record {
                can = h.can_write;
                units_are = out;
                bytes_are = stands Utf16 h.text (get_or numbers 0 0) bytes out h.writes;
                room = omega (arith, eq);
              };
            }),
            (λ ne. (
              refl,
              omega (arith, out, fits, count, lim),
              λ u2 have l1 l2 same2 keeps kept.
                  record {
                    text = h.text;
                    given = refl;
                    source = subst (λ l. SpellsText Utf8 l h.text) (sym (same2 kept)) source;
                    stands = record {
                      can = h.can_write;
                      units_are = out;
                      bytes_are = (let t : have ≡ bytes = keeps kept ∙ take_all (2 * get_or numbers 0 0) bytes (omega (arith, out, size)) in ap (λ l. take (2 * get_or numbers 0 0) l) t ∙ stands Utf16 h.text (get_or numbers 0 0) bytes out h.writes);
                      room = omega arith;
                    };
                  },
            )),
          ),
        ),
  ))
