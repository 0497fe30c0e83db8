-- What a transfer asks of realloc so far begins what it asks for in the end.
use Rattle.std.proofs.Common.{Bool, true, false, List, [], ◌∷◌, ◌++◌, refl, ap}
use Rattle.fact_machine.specs.declared.types.CoreValue.{CoreValue}
use Rattle.fact_machine.specs.Trace.{Grows}
use Rattle.fact_actions.specs.Paths.{Path, End, Limit, Resize, Pass, If, Tag, Assert, path}
use Rattle.fact_actions.specs.Requests.{Request, RequestPart, RegionPart, TextPart, next_answer, either, path_requests, parts_requests}
use Rattle.fact_actions.specs.Sides.{Transfer, first_bits}
use Rattle.fact_actions.specs.Strings.{PathPoint, path_start, holds, with_tag, passed}
use Rattle.fact_actions.specs.Transcoders.{transcode_kind}

grows_none : (xs : List Request) → Grows [] xs
grows_none xs = record { more = xs; is = refl }

grows_one : (x : Request) {xs ys : List Request} → Grows xs ys → Grows (x ∷ xs) (x ∷ ys)
grows_one x g = record { more = g.more; is = ap (λ l. x ∷ l) g.is }

-- behind more answers
module _ (tr : Transfer) (later : List (List CoreValue)) where
  next_grows : (told : List (List CoreValue)) (k k' : List CoreValue → List (List CoreValue) → List Request)
      → ((rs : List CoreValue) (more : List (List CoreValue)) → Grows (k rs more) (k' rs (more ++ later))) → Grows (next_answer told k) (next_answer (told ++ later) k')
  next_grows [] k k' h = grows_none _
  next_grows (rs ∷ more) k k' h = h rs more

  either_grows : (b : Bool) {x x' y y' : List Request} → Grows x x' → Grows y y' → Grows (either b x y) (either b x' y')
  either_grows true h g = h
  either_grows false h g = g

  path_grows : (p : Path) (v : PathPoint) (told : List (List CoreValue)) (k k' : PathPoint → List (List CoreValue) → List Request)
      → ((u : PathPoint) (more : List (List CoreValue)) → Grows (k u more) (k' u (more ++ later))) → Grows (path_requests tr p v told k) (path_requests tr p v (told ++ later) k')
  path_grows End v told k k' h = h v told
  path_grows (Limit factor p) v told k k' h = path_grows p v told k k' h
  path_grows (Resize x y p) v told k k' h =
      grows_one _ (next_grows told (λ rs more. path_requests tr p (record v { region = first_bits rs }) more k) (λ rs more. path_requests tr p (record v { region = first_bits rs }) more k') (λ rs more. path_grows p (record v { region = first_bits rs }) more k k' h))
  path_grows (Pass o rest room p) v told k k' h =
      next_grows told (λ rs more. path_requests tr p (passed tr (transcode_kind o) rest rs v) more k) (λ rs more. path_requests tr p (passed tr (transcode_kind o) rest rs v) more k') (λ rs more. path_grows p (passed tr (transcode_kind o) rest rs v) more k k' h)
  path_grows (If test q r p) v told k k' h =
      either_grows (holds tr test v)
      (path_grows q v told (λ u more. path_requests tr p u more k) (λ u more. path_requests tr p u more k') (λ u more. path_grows p u more k k' h))
      (path_grows r v told (λ u more. path_requests tr p u more k) (λ u more. path_requests tr p u more k') (λ u more. path_grows p u more k k' h))
  path_grows (Tag p) v told k k' h = path_grows p (with_tag v) told k k' h
  path_grows (Assert t test p) v told k k' h = path_grows p v told k k' h

  parts_grow : (xs ys : List RequestPart) (told : List (List CoreValue)) → Grows (parts_requests tr xs told) (parts_requests tr (xs ++ ys) (told ++ later))
  parts_grow [] ys told = grows_none _
  parts_grow (RegionPart align size ∷ xs) ys told = grows_one _ (next_grows told (λ rs more. parts_requests tr xs more) (λ rs more. parts_requests tr (xs ++ ys) more) (λ rs more. parts_grow xs ys more))
  parts_grow (TextPart f p n ∷ xs) ys told = path_grows (path f tr.to.encoding) (path_start 0 n) told (λ v more. parts_requests tr xs more) (λ v more. parts_requests tr (xs ++ ys) more) (λ v more. parts_grow xs ys more)

pub requests_grow : (tr : Transfer) (xs ys : List RequestPart) (told later : List (List CoreValue)) → Grows (parts_requests tr xs told) (parts_requests tr (xs ++ ys) (told ++ later))
requests_grow tr xs ys told later = parts_grow tr later xs ys told
