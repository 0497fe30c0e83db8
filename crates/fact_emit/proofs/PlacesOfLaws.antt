-- Imports of a kind that stand once have the places at which they are found.
use Rattle.std.proofs.Common.{◌≡◌, ℕ, ◌<◌, Bool, true, false, ◌&&◌, List, Option, Some, None, refl, sym, ap, ◌∙◌, arith, slice_get, get_or}
use Rattle.std.proofs.lemmas.Bool.{true≢false}
use Rattle.std.proofs.lemmas.List.Sums.{passes_at_first, position_or_len_is}
use Rattle.std.proofs.lemmas.Option.{slice_get-get_or, get_or_from_slice_get, slice_get_within}
use Rattle.fact_values.proofs.MemberLaws.{both_true}
use Rattle.fact_types.specs.Exact.{exact_def}
use Rattle.fact_types.specs.declared.outside.CoreDef.{CoreDef}
use Rattle.fact_types.specs.declared.import.Import.{Import}
use Rattle.fact_types.specs.declared.import.Import.TheVariants as known
use Rattle.fact_types.specs.contracts.outside.CoreDefEq.TheImpl.Laws as def_laws
use Rattle.fact_types.specs.contracts.outside.TranscodeEq.TheImpl.Laws as transcode_laws
use Rattle.fact_types.specs.contracts.outside.TrapEq.TheImpl.Laws as trap_laws
use Rattle.fact_types.specs.contracts.outside.UnsafeIntrinsicEq.TheImpl.Laws as intrinsic_laws
use Rattle.fact_emit.specs.ImportedPlaces.{AreImportPlaces}
use Rattle.fact_emit.specs.ImportSection.{is_made_once}
use Rattle.fact_emit.specs.Imports.{AreOnce, StandOnce}
use Rattle.fact_emit.specs.PlacesOf.{import_places, place_among, same_bool, same_import, same_option}
use Rattle.fact_emit.specs.States.{ModuleSoFar, functions_of, memories_of}
use Rattle.fact_emit.proofs.ExactItems.{exact_slot, exact_transcode, exact_trap}

-- ---- imports that are equal are the same

exact_bool : (a b : Bool) → same_bool a b ≡ true → a ≡ b
exact_bool true b h = sym h
exact_bool false false h = refl
exact_bool false true h = cc

exact_option : (a b : Option CoreDef) → same_option a b ≡ true → a ≡ b
exact_option None None h = refl
exact_option (Some d) (Some e) h = ap Some (exact_def d e h)
exact_option None (Some e) h = cc
exact_option (Some d) None h = cc

pub exact_import : (a b : Import) → same_import a b ≡ true → a ≡ b
exact_import (known.CoreDef d) (known.CoreDef e) h = ap known.CoreDef (exact_def d e h)
exact_import (known.Transcode o d v e w) (known.Transcode o' d' v' e' w') h =
    let one = both_true _ _ h in
    let two = both_true _ _ one.1 in
    let three = both_true _ _ two.1 in
    let four = both_true _ _ three.1 in
    let op = exact_transcode o o' one.0 in
    let from = exact_def d d' two.0 in
    let from64 = exact_bool v v' three.0 in
    let to = exact_def e e' four.0 in
    let to64 = exact_bool w w' four.1 in
    λ k. known.Transcode (op k) (from k) (from64 k) (to k) (to64 k)
exact_import known.ResourceTransferOwn known.ResourceTransferOwn h = refl
exact_import known.ResourceTransferBorrow known.ResourceTransferBorrow h = refl
exact_import (known.PrepareCall m) (known.PrepareCall n) h = ap known.PrepareCall (exact_option m n h)
exact_import (known.StartCall c p) (known.StartCall d q) h =
    let both = both_true _ _ h in
    let callback = exact_option c d both.0 in
    let post_return = exact_option p q both.1 in
    λ k. known.StartCall (callback k) (post_return k)
exact_import known.FutureTransfer known.FutureTransfer h = refl
exact_import known.StreamTransfer known.StreamTransfer h = refl
exact_import known.ErrorContextTransfer known.ErrorContextTransfer h = refl
exact_import (known.Trap t) (known.Trap u) h = ap known.Trap (exact_trap t u h)
exact_import known.EnterSyncCall known.EnterSyncCall h = refl
exact_import known.ExitSyncCall known.ExitSyncCall h = refl
exact_import (known.UnsafeIntrinsic f) (known.UnsafeIntrinsic g) h = ap known.UnsafeIntrinsic (exact_slot f g h)
exact_import a b h = absurd (true≢false (sym h))

same_self : (b : Bool) → same_bool b b ≡ true
same_self true = refl
same_self false = refl

option_self : (o : Option CoreDef) → same_option o o ≡ true
option_self None = refl
option_self (Some d) = def_laws.laws-law.refl d

both : {a b : Bool} → a ≡ true → b ≡ true → (a && b) ≡ true
both {a} {b} h g = rw (h, g) refl

pub import_self : (i : Import) → same_import i i ≡ true
import_self (known.CoreDef d) = def_laws.laws-law.refl d
import_self (known.Transcode o d v e w) = both (transcode_laws.laws-law.refl o) (both (def_laws.laws-law.refl d) (both (same_self v) (both (def_laws.laws-law.refl e) (same_self w))))
import_self known.ResourceTransferOwn = refl
import_self known.ResourceTransferBorrow = refl
import_self (known.PrepareCall m) = option_self m
import_self (known.StartCall c p) = both (option_self c) (option_self p)
import_self known.FutureTransfer = refl
import_self known.StreamTransfer = refl
import_self known.ErrorContextTransfer = refl
import_self (known.Trap t) = trap_laws.laws-law.refl t
import_self known.EnterSyncCall = refl
import_self known.ExitSyncCall = refl
import_self (known.UnsafeIntrinsic f) = intrinsic_laws.laws-law.refl f

-- ---- places

-- an import that stands once is found where it stands
found_at : (is : List Import) → StandOnce is → (i : Import) → is_made_once i ≡ true → (n : ℕ) → slice_get is n ≡ Some i → place_among i is ≡ n
found_at is o i made n at =
    let within = slice_get_within is n i at in
    position_or_len_is (same_import i) is n i (omega (arith, within)) (λ k lt. before k lt (same_import i (get_or is k i)) refl) (λ lt. ap (same_import i) (get_or_from_slice_get is n i i at) ∙ import_self i)
  where
    before : (k : ℕ) → k < n → (b : Bool) → same_import i (get_or is k i) ≡ b → same_import i (get_or is k i) ≡ false
    before k lt false e = e
    before k lt true e =
        let within = slice_get_within is n i at in
        let there : slice_get is k ≡ Some i = slice_get-get_or is k i (omega (arith, within, lt)) ∙ ap Some (sym (exact_import i (get_or is k i) e)) in
        let is_n : k ≡ n = o.one k n i made there at in
        absurd (omega (arith, is_n, lt))

def_once : (d e : CoreDef) → known.CoreDef e ≡ known.CoreDef d → d ≡ e
def_once d e h = cc

-- what stands at the place of an import is that import
pub placed_is : (i j : Import) (is : List Import) → slice_get is (place_among i is) ≡ Some j → j ≡ i
placed_is i j is h =
    let found : same_import i (get_or is (place_among i is) j) ≡ true = passes_at_first (same_import i) is j (slice_get_within is (place_among i is) j h) in
    sym (exact_import i j (ap (same_import i) (sym (get_or_from_slice_get is (place_among i is) j j h)) ∙ found))

pub are_import_places : (s : ModuleSoFar) → AreOnce s → AreImportPlaces s (import_places s)
are_import_places s o = record {
  functions = λ i n made at. found_at (functions_of s) o.functions i made n at;
  memories = λ d n at. found_at _ o.memories (known.CoreDef d) refl n at;
  one_memory = λ d e n is at. def_once d e (placed_is (known.CoreDef d) (known.CoreDef e) (memories_of s) (ap (slice_get (memories_of s)) is ∙ at));
  flags = λ i n at. found_at _ o.globals _ refl n at;
  memory_types = refl;
  global_types = refl;
}
