-- The requests of parts take no more bytes than the parts.
use Rattle.std.proofs.Common.{◌≡◌, ℕ, ◌+◌, ◌*◌, ◌%◌, ◌^◌, ◌≤◌, Bool, true, false, List, [], ◌∷◌, refl, ap, ◌∙◌, subst, arith}
use Rattle.std.specs.Prelude.{nat_le, if◌then◌else◌}
use Rattle.std.proofs.lemmas.Bool.{le-leb}
use Rattle.fact_types.specs.Adapters.{is_wide}
use Rattle.fact_machine.specs.declared.types.CoreValue.{CoreValue}
use Rattle.fact_actions.specs.Paths.{Amount, SourceUnits, WrittenUnits, Path, End, Limit, Resize, Pass, If, Tag, Assert, align_of, path}
use Rattle.fact_actions.specs.Requests.{Request, RequestPart, RegionPart, TextPart, next_answer, either, path_requests, parts_requests}
use Rattle.fact_actions.specs.Sides.{LiftLowerOptions, Transfer, first_bits, wrap}
use Rattle.fact_machine.specs.Typing.{address_bits}
use Rattle.fact_actions.specs.Strings.{PathPoint, path_start, amount, holds, with_tag, passed}
use Rattle.fact_actions.specs.Transcoders.{TranscodeKind, Fitting, Widening, AllUnits, Counted, Narrow, Tagged, transcode_kind}
use Rattle.fact_action_laws.specs.AdapterValueLaws.{RequestsTakeNoMore}
use Rattle.fact_action_laws.specs.Rooms.{region_bytes, path_bytes, parts_bytes, request_bytes, requests_bytes, DoesNotGrow, OfNext, OfEither, CutsShrink, AllCutsShrink}

-- ---- one request

wrap_less : (o : LiftLowerOptions) (n : ℕ) → wrap o n ≤ n
wrap_less o n = by_width (is_wide o.memory)
  where
    by_width : (b : Bool) → n % 2 ^ address_bits b ≤ n
    by_width true = omega arith
    by_width false = omega arith

new_takes : (b : Bool) (align size most : ℕ) → size ≤ most → (if b then 0 else align + size) ≤ align + most
new_takes true align size most h = omega arith
new_takes false align size most h = omega (arith, h)

resize_takes : (tr : Transfer) (x y : Amount) (v : PathPoint) (old align : ℕ) → DoesNotGrow y (amount tr x v) (amount tr y v)
    → request_bytes (record { old = old; old_size = amount tr x v; align = align; new_size = amount tr y v }) ≤ region_bytes align y v.length
resize_takes tr x (SourceUnits k) v old align h = new_takes (nat_le (amount tr (SourceUnits k) v) (amount tr x v)) align (amount tr (SourceUnits k) v) (k * v.length) (wrap_less tr.to (k * v.length))
resize_takes tr x (WrittenUnits k) v old align h =
    let e = ap (λ b. if b then 0 else align + amount tr (WrittenUnits k) v) (le-leb (amount tr (WrittenUnits k) v) (amount tr x v) h) in
    omega (arith, e)

-- ---- paths

passed_length : (tr : Transfer) (kind : TranscodeKind) (rest : Bool) (rs : List CoreValue) (v : PathPoint) → (passed tr kind rest rs v).length ≡ v.length
passed_length tr AllUnits rest rs v = refl
passed_length tr Fitting false rs v = refl
passed_length tr Fitting true rs v = refl
passed_length tr Narrow rest rs v = refl
passed_length tr Counted rest rs v = refl
passed_length tr Tagged rest rs v = refl
passed_length tr Widening rest rs v = refl

next_takes : (answers : List (List CoreValue)) (f : List CoreValue → List (List CoreValue) → List Request) (K : List CoreValue → List (List CoreValue) → Type 0) (most : ℕ) → OfNext answers K
    → ((rs : List CoreValue) (more : List (List CoreValue)) → K rs more → requests_bytes (f rs more) ≤ most) → requests_bytes (next_answer answers f) ≤ most
next_takes [] f K most h g = omega arith
next_takes (rs ∷ more) f K most h g = g rs more h

module _ (tr : Transfer) where
  abbrev Rest : Type 0
  Rest = PathPoint → List (List CoreValue) → List Request

  abbrev P : Path → ℕ → ℕ
  P p n = path_bytes (align_of tr.to.encoding) p n

  path_takes : (p : Path) (v : PathPoint) (answers : List (List CoreValue)) (k : Rest) (K : PathPoint → List (List CoreValue) → Type 0) (most : ℕ) → CutsShrink tr p v answers K
      → ((u : PathPoint) (more : List (List CoreValue)) → u.length ≡ v.length → K u more → requests_bytes (k u more) ≤ most) → requests_bytes (path_requests tr p v answers k) ≤ P p v.length + most
  path_takes End v answers k K most c f = let r = f v answers refl c in omega (arith, r)
  path_takes (Limit factor p) v answers k K most c f = path_takes p v answers k K most c f
  path_takes (Resize x y p) v answers k K most c f =
      let here = resize_takes tr x y v v.region (align_of tr.to.encoding) c.0 in
      let more = next_takes answers (λ rs more. path_requests tr p (record v { region = first_bits rs }) more k) _ (P p v.length + most) c.1 (λ rs more d. path_takes p (record v { region = first_bits rs }) more k K most d f) in
      omega (arith, here, more)
  path_takes (Pass o rest room p) v answers k K most c f =
      next_takes answers (λ rs more. path_requests tr p (passed tr (transcode_kind o) rest rs v) more k) _ (P p v.length + most) c (λ rs more d.
      let same = passed_length tr (transcode_kind o) rest rs v in
      subst (λ n. requests_bytes (path_requests tr p (passed tr (transcode_kind o) rest rs v) more k) ≤ P p n + most) same (path_takes p (passed tr (transcode_kind o) rest rs v) more k K most d (λ u m e x. f u m (e ∙ same) x)))
  path_takes (If test q r p) v answers k K most c f =
      let behind : (u : PathPoint) (more : List (List CoreValue)) → u.length ≡ v.length → CutsShrink tr p u more K → requests_bytes (path_requests tr p u more k) ≤ P p v.length + most
      = λ u more e d. subst (λ n. requests_bytes (path_requests tr p u more k) ≤ P p n + most) e (path_takes p u more k K most d (λ w m i x. f w m (i ∙ e) x)) in
      by_test (holds tr test v) (λ c. path_takes q v answers (λ u more. path_requests tr p u more k) (λ u more. CutsShrink tr p u more K) (P p v.length + most) c behind)
      (λ c. path_takes r v answers (λ u more. path_requests tr p u more k) (λ u more. CutsShrink tr p u more K) (P p v.length + most) c behind) c
    where
      by_test : (b : Bool) → (CutsShrink tr q v answers (λ u more. CutsShrink tr p u more K) → requests_bytes (path_requests tr q v answers (λ u more. path_requests tr p u more k)) ≤ P q v.length + (P p v.length + most))
          → (CutsShrink tr r v answers (λ u more. CutsShrink tr p u more K) → requests_bytes (path_requests tr r v answers (λ u more. path_requests tr p u more k)) ≤ P r v.length + (P p v.length + most)) → OfEither b (CutsShrink tr q v answers (λ u more. CutsShrink tr p u more K)) (CutsShrink tr r v answers (λ u more. CutsShrink tr p u more K))
          → requests_bytes (either b (path_requests tr q v answers (λ u more. path_requests tr p u more k)) (path_requests tr r v answers (λ u more. path_requests tr p u more k))) ≤ (P q v.length + (P r v.length + P p v.length)) + most
      by_test true g h c = let one = g c in omega (arith, one)
      by_test false g h c = let one = h c in omega (arith, one)
  path_takes (Tag p) v answers k K most c f = path_takes p (with_tag v) answers k K most c f
  path_takes (Assert t test p) v answers k K most c f = path_takes p v answers k K most c f

  -- ---- parts

  parts_take : (parts : List RequestPart) (answers : List (List CoreValue)) → AllCutsShrink tr parts answers → requests_bytes (parts_requests tr parts answers) ≤ parts_bytes tr.to.encoding parts
  parts_take [] answers c = omega arith
  parts_take (RegionPart align size ∷ parts) answers c =
      let here = new_takes (nat_le size 0) align size size (omega arith) in
      let more = next_takes answers (λ rs more. parts_requests tr parts more) _ (parts_bytes tr.to.encoding parts) c (λ rs more d. parts_take parts more d) in
      omega (arith, here, more)
  parts_take (TextPart form p n ∷ parts) answers c =
      path_takes (path form tr.to.encoding) (path_start 0 n) answers (λ v more. parts_requests tr parts more) (λ v more. AllCutsShrink tr parts more) (parts_bytes tr.to.encoding parts) c (λ u more e d. parts_take parts more d)

pub requests_take_no_more : RequestsTakeNoMore
requests_take_no_more tr parts answers c = parts_take tr parts answers c
