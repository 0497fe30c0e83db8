-- How flags cross by name: all of them are found where the names are the same.
use Rattle.std.proofs.Common.{◌≡◌, ℕ, zero, suc, List, [], ◌∷◌, map, Some, None, refl, sym, ap, ◌∙◌, subst}
use Rattle.std.specs.Prelude.{Bool, true, false, if◌then◌else◌, slice_get}
use Rattle.std.specs.List.{Contains}
use Rattle.std.specs.Str.{bytes_eq}
use Rattle.std.proofs.lemmas.Option.{slice_get_within, get_or_from_slice_get, slice_get-get_or}
use Rattle.fact_types.specs.Agrees.{names_of}
use Rattle.fact_types.specs.Shapes.{Members}
use Rattle.fact_types.specs.Options.{◌>>=◌}
use Rattle.fact_types.proofs.ShapeLaws.{same_some, none_some}
use Rattle.fact_values.specs.declared.value.Value.{Value, out-Value}
use Rattle.fact_values.specs.declared.value.Value.TheOpen.{Value-F}
use Rattle.fact_values.specs.declared.value.Value.TheOpen as o
use Rattle.fact_values.specs.declared.value.Value.TheVariants as value
use Rattle.fact_values.specs.Handles.{flag_named, flags_named}
use Rattle.fact_values.specs.IsA.{IsFlags}
use Rattle.fact_values.specs.Opened.{flags_in}
use Rattle.fact_values.proofs.IsALaws.{bytes_same}

pub flags_held : (ms : Members) (w : Value-F Value) → IsFlags ms w → (fs : List (List ℕ × Bool)) × (flags_in w ≡ Some fs) × (map (λ f. f.0) fs ≡ names_of ms)
flags_held ms (o.Flags fs) h = (fs, refl, h)
flags_held ms _ h = absurd h

pub flags_are : (ns : Members) (fs : List (List ℕ × Bool)) (v : Value) → map (λ f. f.0) fs ≡ names_of ns → v ≡ value.Flags fs → IsFlags ns (out-Value v)
flags_are ns fs v h e = subst (λ v. IsFlags ns (out-Value v)) (sym e) (subst (IsFlags ns) (sym (value.outs-Flags fs)) h)

-- ---- a flag is found by its name

pub flag_found : (fs : List (List ℕ × Bool)) (i : ℕ) (x : List ℕ) → slice_get (map (λ f. f.0) fs) i ≡ Some x → (b : Bool) × (flag_named x fs ≡ Some b)
flag_found [] i x e = absurd (none_some None x refl e)
flag_found ((n, c) ∷ fs) zero x e =
    (c, ap (λ (b : Bool). if b then Some c else flag_named x fs) (ap (λ n. bytes_eq n x) (same_some (Some n) n x refl e) ∙ bytes_same x))
flag_found ((n, c) ∷ fs) (suc i) x e = go (bytes_eq n x) refl (flag_found fs i x e)
  where
    go : (t : Bool) → bytes_eq n x ≡ t → (b : Bool) × (flag_named x fs ≡ Some b) → (b : Bool) × (flag_named x ((n, c) ∷ fs) ≡ Some b)
    go true q r = (c, ap (λ (b : Bool). if b then Some c else flag_named x fs) q)
    go false q (b, there) = (b, ap (λ (b : Bool). if b then Some c else flag_named x fs) q ∙ there)

-- each of some names is one of the names of flags
pub record Named (xs : List (List ℕ)) (fs : List (List ℕ × Bool)) : Type 0 where
  pub flags : List (List ℕ × Bool)
  pub found : flags_named xs fs ≡ Some flags
  pub names : map (λ f. f.0) flags ≡ xs

pub all_named : (xs : List (List ℕ)) (fs : List (List ℕ × Bool)) → ((i : ℕ) (x : List ℕ) → slice_get xs i ≡ Some x → (b : Bool) × (flag_named x fs ≡ Some b)) → Named xs fs
all_named [] fs h = record { flags = []; found = refl; names = refl }
all_named (x ∷ xs) fs h =
    let (b, here) = h 0 x refl in
    let rest = all_named xs fs (λ i y e. h (suc i) y e) in
    record {
      flags = (x, b) ∷ rest.flags;
      found = (λ j. here j >>= (λ b. rest.found j >>= (λ gs. Some ((x, b) ∷ gs))));
      names = ap (λ ys. x ∷ ys) rest.names;
    }

-- flags among whose names these are
pub names_there : (xs : List (List ℕ)) (fs : List (List ℕ × Bool)) → ((x : List ℕ) → Contains xs x → Contains (map (λ f. f.0) fs) x) → Named xs fs
names_there xs fs h = all_named xs fs (λ i x at.
    let c = h x (i, slice_get_within xs i x at, get_or_from_slice_get xs i x x at) in
    flag_found fs c.0 x (slice_get-get_or (map (λ f. f.0) fs) c.0 x c.1 ∙ ap Some c.2))
