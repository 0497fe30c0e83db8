use Rattle.std.proofs.Common.{◌≡◌, ℕ, ◌+◌, ◌<◌, List, [], ◌∷◌, ◌++◌, length, take, drop, get_or, sym, ap, ◌∙◌, append_assoc, append-nil}
use Rattle.std.proofs.lemmas.List.{take_more, take_all, drop_more, drop_all}
use Rattle.std.proofs.lemmas.List.Concat.{flat_map-cons}
use Rattle.std.specs.List.{flat_map, AllByRecursion}
use Rattle.fact_binary.proofs.Items.{each-push}
use Rattle.fact_binary.proofs.list.push_list.Goals as goal

-- one item more
module _ {A : Type 0} (code : A → List ℕ) (P : A → Type 0) (xs : List A) (k : ℕ) (x : A) (below : k < length xs) (is : x ≡ get_or xs k x) where
  fits_more : AllByRecursion P (take k xs) → P x → AllByRecursion P (take (k + 1) xs)
  fits_more p q =
      let e : take (k + 1) xs ≡ take k xs ++ x ∷ [] = take_more xs k x below ∙ ap (λ (y : A). take k xs ++ y ∷ []) (sym is) in
      rw e (each-push code P (take k xs) x p q)

  bytes_more : (out more all : List ℕ) → out ++ flat_map code (drop k xs) ≡ all → more ≡ out ++ code x → more ++ flat_map code (drop (k + 1) xs) ≡ all
  bytes_more out more all e o =
      let later = flat_map code (drop (k + 1) xs) in
      let here : flat_map code (drop k xs) ≡ code x ++ later =
      ap (flat_map code) (drop_more xs k x below) ∙ flat_map-cons code (get_or xs k x) (drop (k + 1) xs) ∙ ap (λ (y : A). code y ++ later) (sym is) in
      ap (λ (t : List ℕ). t ++ later) o ∙ append_assoc out (code x) later ∙ ap (λ (t : List ℕ). out ++ t) (sym here) ∙ e

pub loop-item-preserved : goal.loop-item-preserved
loop-item-preserved g c =
    let code = g.I.Item.code c.args.imports in
    let fits = g.I.Item.fits c.args.imports in
    let xs = c.args.items.now in
    let k = c.loop-item.item-index in
    let x = c.item-item.result in
    record {
      fits = fits_more code fits xs k x c.loop-item-test.true c.item-item.is c.loop-item.invariant.fits c.in_ok-push.ensures.0;
      bytes = bytes_more code fits xs k x c.loop-item-test.true c.item-item.is c.loop-item.out.items _ _ c.loop-item.invariant.bytes c.in_ok-push.ensures.1;
    }

pub returns-clause-fits : goal.returns-clause-fits
returns-clause-fits g c =
    let all = take_all c.loop-item.item-index c.args.items.now c.loop-item-test.false in
    rw all at c.loop-item.invariant.fits

pub returns-clause-bytes : goal.returns-clause-bytes
returns-clause-bytes g c =
    let code = g.I.Item.code c.args.imports in
    let none = drop_all c.loop-item.item-index c.args.items.now c.loop-item-test.false in
    sym (append-nil c.loop-item.out.items) ∙ ap (λ (t : List ℕ). c.loop-item.out.items ++ t) (sym (ap (flat_map code) none)) ∙ c.loop-item.invariant.bytes
