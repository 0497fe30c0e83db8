-- Functions that write a barrier around a body that was written aside.
use Rattle.std.proofs.Common.{◌≡◌, ℕ, suc, List, [], ◌∷◌, ◌++◌, refl, sym, ap, ◌∙◌, subst, arith, append-nil}
use Rattle.std.specs.List.{AllByRecursion, filter_map}
use Rattle.fact_wasm.specs.declared.instr.BlockType.TheVariants.{Empty}
use Rattle.fact_wasm.specs.declared.instr.Instr.{Instr, the_lemmas}
use Rattle.fact_wasm.specs.declared.instr.Instr.TheVariants as I
use Rattle.fact_wasm.specs.Ranges.{AreRanged, IsPoint, points}
use Rattle.fact_wasm.proofs.Ranged.{all-first, all-second}
use Rattle.fact_types.specs.declared.outside.Trap.TheVariants.{UncaughtException}
use Rattle.fact_code_laws.specs.Code.{barrier_code, trap_code}
use Rattle.fact_emit.specs.declared.writer.Writer.{Writer}
use Rattle.fact_emit.specs.Asked.{AskedHelper}
use Rattle.fact_emit.specs.Barriers.{Barred, WroteBarrier}
use Rattle.fact_emit.specs.Brought.{Brought}
use Rattle.fact_emit.specs.Emits.{EmitsAsking, GrewAsking, Later}
use Rattle.fact_emit.specs.Imports.{AreOnce}
use Rattle.fact_emit.specs.NamedFunctions.{defined_named, defined_place, functions_named, imported_named}
use Rattle.fact_emit.specs.Writers.{Began, EndedBody, TookTrap, Wrote}
use Rattle.fact_emit.specs.States.{ModuleSoFar}
use Rattle.fact_emit.specs.Pieces.{Piece}
use Rattle.fact_emit.proofs.BroughtLaws.{brought_as, brought_between, brought_on, brought_runtime}
use Rattle.fact_emit.proofs.Emitting.{body_is, same_locals, same_still, same_types, serves_imported, sooner, still_numbers}
use Rattle.fact_emit.proofs.ImportLaws.{extended_none, extended_on, grows_on}
use Rattle.fact_emit.proofs.NamedLaws.{defined_append, defined_none, named_append, named_block, named_try_table, ranged_append, ranged_block, ranged_none, ranged_try_table}

-- ---- what a barrier names

trap_named : (place : ℕ) → imported_named (trap_code place) ≡ place ∷ []
trap_named place = simp the_lemmas

one_trap_ranged : (place : ℕ) → AreRanged (suc place) 0 (trap_code place)
one_trap_ranged place = (simp the_lemmas (omega arith, tt), (simp the_lemmas tt, tt))

abbrev tried_code : List Instr → List Instr
tried_code body = I.TryTable Empty (0 ∷ []) body ∷ I.Br 1 ∷ []

branch_named : functions_named (I.Br 1 ∷ []) ≡ []
branch_named = simp the_lemmas

branch_ranged : (imports funcs : ℕ) → AreRanged imports funcs (I.Br 1 ∷ [])
branch_ranged imports funcs = ranged_none imports funcs (I.Br 1 ∷ []) (simp the_lemmas)

-- what its body names, and its trap
barrier_named : (body : List Instr) (place : ℕ) → functions_named (barrier_code body place) ≡ functions_named (body ++ trap_code place)
barrier_named body place =
    let tried : functions_named (tried_code body) ≡ functions_named body =
    named_append (I.TryTable Empty (0 ∷ []) body ∷ []) (I.Br 1 ∷ []) ∙ (λ i. named_try_table Empty (0 ∷ []) body i ++ branch_named i) ∙ append-nil (functions_named body) in
    named_block Empty (I.Block Empty (tried_code body) ∷ trap_code place) ∙ named_append (I.Block Empty (tried_code body) ∷ []) (trap_code place)
    ∙ ap (λ ns. ns ++ functions_named (trap_code place)) (named_block Empty (tried_code body) ∙ tried) ∙ sym (named_append body (trap_code place))

barrier_ranged : (imports funcs : ℕ) (body : List Instr) (place : ℕ) → AreRanged imports funcs (body ++ trap_code place) → AreRanged imports funcs (barrier_code body place)
barrier_ranged imports funcs body place h =
    let P = λ (i : Instr). AllByRecursion (IsPoint imports funcs) (points i) in
    let inner : AreRanged imports funcs body = all-first P body (trap_code place) h in
    let behind : AreRanged imports funcs (trap_code place) = all-second P body (trap_code place) h in
    ranged_block imports funcs Empty (I.Block Empty (tried_code body) ∷ trap_code place)
    (ranged_append imports funcs (I.Block Empty (tried_code body) ∷ []) (trap_code place)
    (ranged_block imports funcs Empty (tried_code body)
    (ranged_append imports funcs (I.TryTable Empty (0 ∷ []) body ∷ []) (I.Br 1 ∷ []) (ranged_try_table imports funcs Empty (0 ∷ []) body inner) (branch_ranged imports funcs))) behind)

-- what a body brought, and then its barrier's trap
barrier_brought : {a b c : ModuleSoFar} {body : List Instr} {place : ℕ} → Brought a b body → Brought b c (trap_code place) → Brought a c (barrier_code body place)
barrier_brought {body = body} {place} x y = brought_as (barrier_named body place) (λ n k. barrier_ranged n k body place) (brought_on x y)

-- the trap was imported, and then the barrier was put there
pub barrier_written : {a b c : Writer} {place : ℕ} {body : List Instr} {i : Instr} → TookTrap a b UncaughtException place → i ∷ [] ≡ barrier_code body place → Wrote b c (i ∷ []) → WroteBarrier a c body
barrier_written {b = b} {c} {place} took same wrote = record { place = place; middle = b; took = took; wrote = subst (Wrote b c) same wrote }

-- ---- a barrier around a body

-- The code was set aside (a, b), a body was written (b, c), the code from before was put back (c, d), and behind it the barrier (d, e).
module _ {a b c d e : Writer} {out body : List Instr} (began : Began a b out) (ended : EndedBody c d out body) (barrier : WroteBarrier d e body) where
  abbrev place : ℕ
  place = barrier.place

  pub grew_barrier : {asks : List AskedHelper} → GrewAsking asks b c → GrewAsking asks a e
  grew_barrier x =
      let is : body ≡ x.added = ended.body ∙ body_is began.code x in
      record {
        added = barrier_code body place;
        code = barrier.wrote.code ∙ ap (λ l. l ++ barrier_code body place) (barrier.took.code ∙ ended.code ∙ began.outer);
        calls =
            ap (filter_map defined_place) (barrier_named body place) ∙ defined_append body (trap_code place) ∙ ap (λ ns. defined_named body ++ ns) (defined_none (suc place) (trap_code place) (one_trap_ranged place))
            ∙ append-nil (defined_named body) ∙ ap defined_named is ∙ x.calls;
        brought = barrier_brought (subst (Brought a.sections d.sections) (sym is) (brought_between began.imports (sym ended.imports) x.brought)) (brought_between refl (sym barrier.wrote.imports) (brought_runtime (trap_named place) (one_trap_ranged place) barrier.took.imported));
        imports = extended_on (extended_none began.imports) (extended_on x.imports (extended_on (extended_none ended.imports) (extended_on barrier.took.imports (extended_none barrier.wrote.imports))));
        once = λ o. subst AreOnce (sym barrier.wrote.imports) (barrier.took.once (subst AreOnce (sym ended.imports) (x.once (subst AreOnce (sym began.imports) o))));
        locals = grows_on (same_locals a b began.locals) (grows_on x.locals (same_locals c e (barrier.wrote.locals ∙ barrier.took.locals ∙ ended.locals)));
        numbers = λ n. still_numbers c e (same_types c e (barrier.wrote.locals ∙ barrier.took.locals ∙ ended.locals)) (x.numbers (still_numbers a b (same_types a b began.locals) n));
        still = λ j. same_still c e (barrier.wrote.locals ∙ barrier.took.locals ∙ ended.locals) j ∙ x.still j ∙ same_still a b began.locals j;
      }

  pub barrier_emits : {asks : List AskedHelper} {P : Piece} → EmitsAsking asks b c P → EmitsAsking asks a e (Barred P)
  unfolding grew_barrier
  barrier_emits {P = P} x = record {
    grew = grew_barrier x.grew;
    does = λ M p ls l h.
        let before : Later barrier.middle M p ls = sooner {a = barrier.middle} (extended_none barrier.wrote.imports) (same_locals barrier.middle e barrier.wrote.locals) l in
        let within : Later c M p ls = sooner {a = c} (extended_on (extended_none ended.imports) barrier.took.imports) (same_locals c barrier.middle (barrier.took.locals ∙ ended.locals)) before in
        record {
          place = place;
          body = body;
          has = serves_imported refl before.serves barrier.took.there;
          is = refl;
          inner = subst (P M p ls) (sym (ended.body ∙ body_is began.code x.grew)) (x.does M p ls within h);
        };
  }
