-- Texts at work, with honest answers of realloc and of transcoders: what the laws of sync adapters ask of a run holds of each.
use Rattle.std.proofs.Common.{◌≡◌, inl, inr, ℕ, suc, ◌+◌, true, false, List, [], ◌∷◌, ◌++◌, length, refl, ap, arith}
use Rattle.std.specs.Prelude.{codes, replicate}
use Rattle.std.specs.Char.{encode_utf8}
use Rattle.std.specs.Char.Utf16.{utf16_chars}
use Rattle.std.proofs.lemmas.Bool.{leb-true}
use Rattle.fact_entity.specs.declared.id.Id.{Id}
use Rattle.fact_entity.specs.declared.table.RuntimeInstances.{RuntimeInstances}
use Rattle.fact_types.specs.declared.import.Import.{Import}
use Rattle.fact_types.specs.declared.import.Import.TheVariants as import
use Rattle.fact_types.specs.declared.interface.InterfaceType.TheVariants as ty
use Rattle.fact_types.specs.declared.outside.StringEncoding.{StringEncoding}
use Rattle.fact_types.specs.declared.outside.StringEncoding.TheVariants as string
use Rattle.fact_types.specs.declared.outside.Transcode.{Transcode}
use Rattle.fact_types.specs.declared.outside.Transcode.TheVariants as op
use Rattle.fact_types.specs.Adapters.{LinkedAdapter}
use Rattle.fact_types.specs.Layout.{aligned}
use Rattle.fact_types.specs.Shapes.{s_plain}
use Rattle.fact_machine.specs.declared.types.CoreValue.{CoreValue}
use Rattle.fact_machine.specs.declared.types.CoreValue.TheVariants.{I32}
use Rattle.fact_machine.specs.declared.types.MachineState.{MachineState}
use Rattle.fact_machine.specs.declared.types.Answer.{Answer}
use Rattle.fact_machine.specs.declared.types.Answer.TheVariants.{Returns}
use Rattle.fact_machine.specs.declared.types.End.{End}
use Rattle.fact_machine.specs.declared.types.End.TheVariants.{Returned}
use Rattle.fact_values.specs.Lift.{lift_leading}
use Rattle.fact_values.specs.Limits.{AreWithinLimits}
use Rattle.fact_values.specs.declared.value.Value.TheVariants as value
use Rattle.fact_actions.specs.Moves.{move_fields}
use Rattle.fact_actions.specs.Regions.{Region, byte}
use Rattle.fact_actions.specs.Running.{Ended}
use Rattle.std.proofs.lemmas.Str.{chars_past_char}
use Rattle.std.specs.Str.{chars, is_utf8, IsUtf8}
use Rattle.fact_action_laws.proofs.HonestRows.{MeetsLaws, within_by, below_two}
use Rattle.fact_action_laws.proofs.HonestRows as rows
use Rattle.fact_action_laws.proofs.WorkedAdapters.{exported, taking, state, words, string_fine, taking_checked}

module _ (instances : Id RuntimeInstances) where
  abbrev of_run : LinkedAdapter → (args : List CoreValue) → MachineState → (answers : List Answer) → Ended (List CoreValue)
  of_run a args s answers = rows.of_run instances a args s answers

  abbrev shown : Ended (List CoreValue) → End × List (Import × List CoreValue)
  shown e = rows.shown instances e

  abbrev callee_of : List CoreValue → Import × List CoreValue
  callee_of args = rows.callee_of instances args

  abbrev realloc_of : List ℕ → Import × List CoreValue
  realloc_of args = rows.realloc_of instances args

  abbrev IsGivenRegion : LinkedAdapter → (request : List ℕ) → (q : ℕ) → (live : List Region) → (before after : MachineState) → Type 0
  IsGivenRegion a args q live before after = rows.IsGivenRegion instances a args q live before after

  -- ---- from UTF-16 to UTF-8

  abbrev text : (from to : StringEncoding) → LinkedAdapter
  text from to = taking instances from to (s_plain ty.String ∷ []) (s_plain ty.String ∷ [])

  abbrev coded : Transcode → List ℕ → Import × List CoreValue
  coded o args = (import.Transcode o (exported instances 0 (codes "memory")) false (exported instances 1 (codes "memory")) false, words args)

  -- "aé" in UTF-16
  abbrev a_e : (lift_flags : ℕ) → (lift : List ℕ) → MachineState
  a_e n bytes = state n 1 bytes (0x61 ∷ 0 ∷ 0xE9 ∷ 0 ∷ [])

  abbrev moved_text : List ℕ
  moved_text = 0 ∷ 0 ∷ 0x61 ∷ 0xC3 ∷ 0xA9 ∷ 0 ∷ 0 ∷ 0 ∷ []

  -- realloc answers 0, and then 2 for the longer text and again for the cut one
  abbrev utf8_answers : List Answer
  utf8_answers =
      Returns (I32 0 ∷ []) (a_e 0 (replicate 8 0)) ∷ Returns (words (1 ∷ 1 ∷ [])) (a_e 0 (0x61 ∷ replicate 7 0)) ∷ Returns (I32 2 ∷ []) (a_e 0 (0 ∷ 0 ∷ 0x61 ∷ replicate 5 0)) ∷ Returns (words (1 ∷ 2 ∷ [])) (a_e 0 moved_text) ∷ Returns (I32 2 ∷ []) (a_e 0 moved_text)
      ∷ Returns [] (a_e 1 moved_text) ∷ []

  text_arrives : shown (of_run (text string.Utf16 string.Utf8) (words (0 ∷ 2 ∷ [])) (a_e 1 (replicate 8 0)) utf8_answers)
      ≡ (
        Returned [],
        realloc_of (0 ∷ 0 ∷ 1 ∷ 2 ∷ []) ∷ coded op.Utf16ToUtf8 (0 ∷ 2 ∷ 0 ∷ 2 ∷ 1 ∷ []) ∷ realloc_of (0 ∷ 2 ∷ 1 ∷ 6 ∷ []) ∷ coded op.Utf16ToUtf8 (2 ∷ 1 ∷ 3 ∷ 5 ∷ 0 ∷ []) ∷ realloc_of (2 ∷ 6 ∷ 1 ∷ 3 ∷ []) ∷ callee_of (words (2 ∷ 3 ∷ [])) ∷ [],
      )
  unfolding move_fields aligned
  text_arrives = refl

  text_meets : MeetsLaws instances (text string.Utf16 string.Utf8) (words (0 ∷ 2 ∷ [])) (a_e 1 (replicate 8 0)) utf8_answers
  unfolding move_fields aligned lift_leading AreWithinLimits encode_utf8 utf16_chars
  text_meets = record {
    checked = taking_checked instances string.Utf16 string.Utf8 _ _ string_fine string_fine (refl, tt);
    sides = record { lower = refl; lift = refl };
    honest = record {
      state_typed = refl;
      args_typed = refl;
      typed = tt;
      honest = (
        tt,
        (λ e. first, λ e. let bad : false ≡ true = e in cc),
        (
          tt,
          record {
            bytes = 0x61 ∷ [];
            transcoding = record { text = 0x61 ∷ []; rest = 0xE9 ∷ 0 ∷ []; reads = refl; can_read = (refl, tt); can_write = (refl, tt); stops = (leb-true 1 2 refl, inr (record { next = 0xE9; more = []; can = refl; begins = refl; full = leb-true 3 3 refl })); writes = refl; answers = refl };
            inside = leb-true 1 8 refl;
            written = refl;
          },
          (
            tt,
            (λ e. second, λ e. let bad : false ≡ true = e in cc),
            (
              tt,
              record {
                bytes = 0xC3 ∷ 0xA9 ∷ [];
                transcoding = record { text = 0xE9 ∷ []; rest = []; reads = refl; can_read = (refl, tt); can_write = (refl, tt); stops = (leb-true 2 5 refl, inl refl); writes = refl; answers = refl };
                inside = leb-true 5 8 refl;
                written = refl;
              },
              (tt, (λ e. third, λ e. let bad : false ≡ true = e in cc), (tt, (λ e. let bad : false ≡ true = e in cc, λ e. let bad : false ≡ true = e in cc), tt)),
            ),
          ),
        ),
      );
    };
    limits = within_by instances string.Utf16 string.Utf8 _ _ (words (0 ∷ 2 ∷ [])) (replicate 8 0) (0x61 ∷ 0 ∷ 0xE9 ∷ 0 ∷ []) _ (record { values = value.Str (0x61 ∷ 0xE9 ∷ []) ∷ []; there = refl; bounds = (leb-true 2 715827882 refl, tt) })
        (λ e. (let bad : false ≡ true = e in cc), (λ e. (let bad : false ≡ true = e in cc), (λ e. (let bad : false ≡ true = e in cc), (λ e. (let bad : false ≡ true = e in cc), (λ e. (let bad : false ≡ true = e in cc), (λ e. refl, tt))))));
  }
    where
      first : IsGivenRegion (text string.Utf16 string.Utf8) (0 ∷ 0 ∷ 1 ∷ 2 ∷ []) 0 [] (a_e 0 (replicate 8 0)) (a_e 0 (replicate 8 0))
      first = record { sound = record { aligned = refl; inside = leb-true 2 8 refl }; apart = λ j i k. k; holds = λ j i k. omega (arith, i); others = λ j k. absurd k; source = refl }

      second : IsGivenRegion (text string.Utf16 string.Utf8) (0 ∷ 2 ∷ 1 ∷ 6 ∷ []) 2 (record { at = 0; size = 2; align = 1 } ∷ []) (a_e 0 (0x61 ∷ replicate 7 0)) (a_e 0 (0 ∷ 0 ∷ 0x61 ∷ replicate 5 0))
      second = record { sound = record { aligned = refl; inside = leb-true 8 8 refl }; apart = λ j i k. k; holds = λ j i k. below_two instances (λ j. byte (0 ∷ 0 ∷ 0x61 ∷ replicate 5 0) (2 + j) ≡ byte (0x61 ∷ replicate 7 0) (0 + j)) refl refl j i; others = λ j k. absurd k; source = refl }

      third : IsGivenRegion (text string.Utf16 string.Utf8) (2 ∷ 6 ∷ 1 ∷ 3 ∷ []) 2 (record { at = 2; size = 6; align = 1 } ∷ []) (a_e 0 moved_text) (a_e 0 moved_text)
      third = record { sound = record { aligned = refl; inside = leb-true 5 8 refl }; apart = λ j i k. k; holds = λ j i k. refl; others = λ j k. absurd k; source = refl }

  -- "ab" needs no more room than it has at first
  abbrev a_b : (lift_flags : ℕ) → (lift : List ℕ) → MachineState
  a_b n bytes = state n 1 bytes (0x61 ∷ 0 ∷ 0x62 ∷ 0 ∷ [])

  abbrev both_passed : List ℕ
  both_passed = 0 ∷ 0 ∷ 0x61 ∷ 0x62 ∷ []

  abbrev short_answers : List Answer
  short_answers = Returns (I32 2 ∷ []) (a_b 0 (replicate 4 0)) ∷ Returns (words (2 ∷ 2 ∷ [])) (a_b 0 both_passed) ∷ Returns [] (a_b 1 both_passed) ∷ []

  short_arrives : shown (of_run (text string.Utf16 string.Utf8) (words (0 ∷ 2 ∷ [])) (a_b 1 (replicate 4 0)) short_answers)
      ≡ (Returned [], realloc_of (0 ∷ 0 ∷ 1 ∷ 2 ∷ []) ∷ coded op.Utf16ToUtf8 (0 ∷ 2 ∷ 2 ∷ 2 ∷ 1 ∷ []) ∷ callee_of (words (2 ∷ 2 ∷ [])) ∷ [])
  unfolding move_fields aligned
  short_arrives = refl

  short_meets : MeetsLaws instances (text string.Utf16 string.Utf8) (words (0 ∷ 2 ∷ [])) (a_b 1 (replicate 4 0)) short_answers
  unfolding move_fields aligned lift_leading AreWithinLimits encode_utf8 utf16_chars
  short_meets = record {
    checked = taking_checked instances string.Utf16 string.Utf8 _ _ string_fine string_fine (refl, tt);
    sides = record { lower = refl; lift = refl };
    honest = record {
      state_typed = refl;
      args_typed = refl;
      typed = tt;
      honest = (
        tt,
        (λ e. given, λ e. let bad : false ≡ true = e in cc),
        (
          tt,
          record {
            bytes = 0x61 ∷ 0x62 ∷ [];
            transcoding = record { text = 0x61 ∷ 0x62 ∷ []; rest = []; reads = refl; can_read = (refl, (refl, tt)); can_write = (refl, (refl, tt)); stops = (leb-true 2 2 refl, inl refl); writes = refl; answers = refl };
            inside = leb-true 4 4 refl;
            written = refl;
          },
          (tt, (λ e. let bad : false ≡ true = e in cc, λ e. let bad : false ≡ true = e in cc), tt),
        ),
      );
    };
    limits = within_by instances string.Utf16 string.Utf8 _ _ (words (0 ∷ 2 ∷ [])) (replicate 4 0) (0x61 ∷ 0 ∷ 0x62 ∷ 0 ∷ []) _ (record { values = value.Str (0x61 ∷ 0x62 ∷ []) ∷ []; there = refl; bounds = (leb-true 2 715827882 refl, tt) })
        (λ e. (let bad : false ≡ true = e in cc), (λ e. (let bad : false ≡ true = e in cc), (λ e. refl, tt)));
  }
    where
      given : IsGivenRegion (text string.Utf16 string.Utf8) (0 ∷ 0 ∷ 1 ∷ 2 ∷ []) 2 [] (a_b 0 (replicate 4 0)) (a_b 0 (replicate 4 0))
      given = record { sound = record { aligned = refl; inside = leb-true 4 4 refl }; apart = λ j i k. k; holds = λ j i k. omega (arith, i); others = λ j k. absurd k; source = refl }

  -- ---- from UTF-8 to the compact form

  -- the first scalar value that bytes spell, and whether they do
  spells_first : (bytes more : List ℕ) (c : ℕ) → IsUtf8 bytes → bytes ≡ encode_utf8 c ++ more → chars bytes ≡ c ∷ chars more
  spells_first bytes more c is e = chars_past_char bytes more c is e

  abbrev first_or : List ℕ → ℕ
  first_or [] = 0
  first_or (c ∷ cs) = c

  -- two bytes
  abbrev two_bytes : (first second lift_flags : ℕ) → (lift : List ℕ) → MachineState
  two_bytes a b n bytes = state n 1 bytes (a ∷ b ∷ [])

  -- "é" is Latin-1
  abbrev latin1_answers : List Answer
  latin1_answers =
      Returns (I32 2 ∷ []) (two_bytes 0xC3 0xA9 0 (replicate 4 0)) ∷ Returns (words (2 ∷ 1 ∷ [])) (two_bytes 0xC3 0xA9 0 (0 ∷ 0 ∷ 0xE9 ∷ 0 ∷ [])) ∷ Returns (I32 2 ∷ []) (two_bytes 0xC3 0xA9 0 (0 ∷ 0 ∷ 0xE9 ∷ 0 ∷ []))
      ∷ Returns [] (two_bytes 0xC3 0xA9 1 (0 ∷ 0 ∷ 0xE9 ∷ 0 ∷ [])) ∷ []

  latin1_arrives : shown (of_run (text string.Utf8 string.CompactUtf16) (words (0 ∷ 2 ∷ [])) (two_bytes 0xC3 0xA9 1 (replicate 4 0)) latin1_answers)
      ≡ (Returned [], realloc_of (0 ∷ 0 ∷ 2 ∷ 2 ∷ []) ∷ coded op.Utf8ToLatin1 (0 ∷ 2 ∷ 2 ∷ []) ∷ realloc_of (2 ∷ 2 ∷ 2 ∷ 1 ∷ []) ∷ callee_of (words (2 ∷ 1 ∷ [])) ∷ [])
  unfolding move_fields aligned
  latin1_arrives = refl

  latin1_meets : MeetsLaws instances (text string.Utf8 string.CompactUtf16) (words (0 ∷ 2 ∷ [])) (two_bytes 0xC3 0xA9 1 (replicate 4 0)) latin1_answers
  unfolding move_fields aligned lift_leading AreWithinLimits encode_utf8 chars is_utf8
  latin1_meets = record {
    checked = taking_checked instances string.Utf8 string.CompactUtf16 _ _ string_fine string_fine (refl, tt);
    sides = record { lower = refl; lift = refl };
    honest = record {
      state_typed = refl;
      args_typed = refl;
      typed = tt;
      honest = (
        tt,
        (λ e. given, λ e. let bad : false ≡ true = e in cc),
        (
          tt,
          record {
            bytes = 0xE9 ∷ [];
            transcoding = record { text = 0xE9 ∷ []; rest = []; reads = refl; can_read = (refl, tt); can_write = (leb-true 234 256 refl, tt); stops = λ c more a b e. (let l : 0 ≡ suc (length (chars more)) = ap length (spells_first [] more c ([], (refl, refl)) e) in omega (arith, l)); writes = refl; answers = refl };
            inside = leb-true 3 4 refl;
            written = refl;
          },
          (tt, (λ e. cut, λ e. let bad : false ≡ true = e in cc), (tt, (λ e. let bad : false ≡ true = e in cc, λ e. let bad : false ≡ true = e in cc), tt)),
        ),
      );
    };
    limits = within_by instances string.Utf8 string.CompactUtf16 _ _ (words (0 ∷ 2 ∷ [])) (replicate 4 0) (0xC3 ∷ 0xA9 ∷ []) _ (record { values = value.Str (0xE9 ∷ []) ∷ []; there = refl; bounds = (leb-true 2 1073741823 refl, tt) })
        (λ e. (let bad : false ≡ true = e in cc), (λ e. (let bad : false ≡ true = e in cc), (λ e. (let bad : false ≡ true = e in cc), (λ e. refl, tt))));
  }
    where
      given : IsGivenRegion (text string.Utf8 string.CompactUtf16) (0 ∷ 0 ∷ 2 ∷ 2 ∷ []) 2 [] (two_bytes 0xC3 0xA9 0 (replicate 4 0)) (two_bytes 0xC3 0xA9 0 (replicate 4 0))
      given = record { sound = record { aligned = refl; inside = leb-true 4 4 refl }; apart = λ j i k. k; holds = λ j i k. omega (arith, i); others = λ j k. absurd k; source = refl }

      cut : IsGivenRegion (text string.Utf8 string.CompactUtf16) (2 ∷ 2 ∷ 2 ∷ 1 ∷ []) 2 (record { at = 2; size = 2; align = 2 } ∷ []) (two_bytes 0xC3 0xA9 0 (0 ∷ 0 ∷ 0xE9 ∷ 0 ∷ [])) (two_bytes 0xC3 0xA9 0 (0 ∷ 0 ∷ 0xE9 ∷ 0 ∷ []))
      cut = record { sound = record { aligned = refl; inside = leb-true 3 4 refl }; apart = λ j i k. k; holds = λ j i k. refl; others = λ j k. absurd k; source = refl }

  -- "ł" is not
  abbrev wide_text : List ℕ
  wide_text = 0 ∷ 0 ∷ 0x42 ∷ 1 ∷ 0 ∷ 0 ∷ []

  abbrev wide_answers : List Answer
  wide_answers =
      Returns (I32 2 ∷ []) (two_bytes 0xC5 0x82 0 (replicate 6 0)) ∷ Returns (words (0 ∷ 0 ∷ [])) (two_bytes 0xC5 0x82 0 (replicate 6 0)) ∷ Returns (I32 2 ∷ []) (two_bytes 0xC5 0x82 0 (replicate 6 0)) ∷ Returns (I32 1 ∷ []) (two_bytes 0xC5 0x82 0 wide_text)
      ∷ Returns (I32 2 ∷ []) (two_bytes 0xC5 0x82 0 wide_text) ∷ Returns [] (two_bytes 0xC5 0x82 1 wide_text) ∷ []

  wide_arrives : shown (of_run (text string.Utf8 string.CompactUtf16) (words (0 ∷ 2 ∷ [])) (two_bytes 0xC5 0x82 1 (replicate 6 0)) wide_answers)
      ≡ (
        Returned [],
        realloc_of (0 ∷ 0 ∷ 2 ∷ 2 ∷ []) ∷ coded op.Utf8ToLatin1 (0 ∷ 2 ∷ 2 ∷ []) ∷ realloc_of (2 ∷ 2 ∷ 2 ∷ 4 ∷ []) ∷ coded op.Utf8ToCompactUtf16 (0 ∷ 2 ∷ 2 ∷ 2 ∷ 0 ∷ []) ∷ realloc_of (2 ∷ 4 ∷ 2 ∷ 2 ∷ []) ∷ callee_of (words (2 ∷ 0x8000_0001 ∷ [])) ∷ [],
      )
  unfolding move_fields aligned
  wide_arrives = refl

  wide_meets : MeetsLaws instances (text string.Utf8 string.CompactUtf16) (words (0 ∷ 2 ∷ [])) (two_bytes 0xC5 0x82 1 (replicate 6 0)) wide_answers
  unfolding move_fields aligned lift_leading AreWithinLimits encode_utf8 chars is_utf8
  wide_meets = record {
    checked = taking_checked instances string.Utf8 string.CompactUtf16 _ _ string_fine string_fine (refl, tt);
    sides = record { lower = refl; lift = refl };
    honest = record {
      state_typed = refl;
      args_typed = refl;
      typed = tt;
      honest = (
        tt,
        (λ e. given, λ e. let bad : false ≡ true = e in cc),
        (
          tt,
          record {
            bytes = [];
            transcoding = record { text = []; rest = 0xC5 ∷ 0x82 ∷ []; reads = refl; can_read = tt; can_write = tt; stops = λ c more a lt e. (let is : 0x142 ≡ c = ap first_or (spells_first (0xC5 ∷ 0x82 ∷ []) more c (0x142 ∷ [], (refl, refl)) e) in omega (arith, is, lt)); writes = refl; answers = refl };
            inside = leb-true 2 6 refl;
            written = refl;
          },
          (
            tt,
            (λ e. longer, λ e. let bad : false ≡ true = e in cc),
            (
              tt,
              record {
                bytes = 0x42 ∷ 1 ∷ [];
                transcoding = record { text = 0x142 ∷ []; rest = []; reads = refl; can_read = (refl, tt); can_write = (refl, tt); stops = (refl, leb-true 1 2 refl); writes = refl; answers = refl };
                inside = leb-true 4 6 refl;
                written = refl;
              },
              (tt, (λ e. cut, λ e. let bad : false ≡ true = e in cc), (tt, (λ e. let bad : false ≡ true = e in cc, λ e. let bad : false ≡ true = e in cc), tt)),
            ),
          ),
        ),
      );
    };
    limits = within_by instances string.Utf8 string.CompactUtf16 _ _ (words (0 ∷ 2 ∷ [])) (replicate 6 0) (0xC5 ∷ 0x82 ∷ []) _ (record { values = value.Str (0x142 ∷ []) ∷ []; there = refl; bounds = (leb-true 2 1073741823 refl, tt) })
        (λ e. (let bad : false ≡ true = e in cc), (λ e. (let bad : false ≡ true = e in cc), (λ e. (let bad : false ≡ true = e in cc), (λ e. (let bad : false ≡ true = e in cc), (λ e. (let bad : false ≡ true = e in cc), (λ e. refl, tt))))));
  }
    where
      given : IsGivenRegion (text string.Utf8 string.CompactUtf16) (0 ∷ 0 ∷ 2 ∷ 2 ∷ []) 2 [] (two_bytes 0xC5 0x82 0 (replicate 6 0)) (two_bytes 0xC5 0x82 0 (replicate 6 0))
      given = record { sound = record { aligned = refl; inside = leb-true 4 6 refl }; apart = λ j i k. k; holds = λ j i k. omega (arith, i); others = λ j k. absurd k; source = refl }

      longer : IsGivenRegion (text string.Utf8 string.CompactUtf16) (2 ∷ 2 ∷ 2 ∷ 4 ∷ []) 2 (record { at = 2; size = 2; align = 2 } ∷ []) (two_bytes 0xC5 0x82 0 (replicate 6 0)) (two_bytes 0xC5 0x82 0 (replicate 6 0))
      longer = record { sound = record { aligned = refl; inside = leb-true 6 6 refl }; apart = λ j i k. k; holds = λ j i k. refl; others = λ j k. absurd k; source = refl }

      cut : IsGivenRegion (text string.Utf8 string.CompactUtf16) (2 ∷ 4 ∷ 2 ∷ 2 ∷ []) 2 (record { at = 2; size = 4; align = 2 } ∷ []) (two_bytes 0xC5 0x82 0 wide_text) (two_bytes 0xC5 0x82 0 wide_text)
      cut = record { sound = record { aligned = refl; inside = leb-true 4 6 refl }; apart = λ j i k. k; holds = λ j i k. refl; others = λ j k. absurd k; source = refl }
