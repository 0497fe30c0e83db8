-- Faults that none is looked for before.
use Rattle.std.proofs.Common.{◌≡◌, ℕ, zero, suc, ◌<◌, ◌+◌, refl, sym, ap, subst, ◌∙◌, inl, inr, arith}
use Rattle.std.proofs.lemmas.Bool.{cases_lt}
use Rattle.fact_plan_types.specs.Faults.{Fault, IsFirstFault, unknown_index, bad_type, too_large, bad_options, type_mismatch, bad_memory, bad_signature, import_conflict, duplicate_name, rank}

-- the fault of a rank
abbrev fault_at : ℕ → Fault
fault_at zero = unknown_index
fault_at (suc zero) = bad_type
fault_at (suc (suc zero)) = too_large
fault_at (suc (suc (suc zero))) = bad_options
fault_at (suc (suc (suc (suc zero)))) = type_mismatch
fault_at (suc (suc (suc (suc (suc zero))))) = bad_memory
fault_at (suc (suc (suc (suc (suc (suc zero)))))) = bad_signature
fault_at (suc (suc (suc (suc (suc (suc (suc zero))))))) = import_conflict
fault_at (suc (suc (suc (suc (suc (suc (suc (suc n)))))))) = duplicate_name

fault_at-rank : (f : Fault) → fault_at (rank f) ≡ f
fault_at-rank unknown_index = refl
fault_at-rank bad_type = refl
fault_at-rank too_large = refl
fault_at-rank bad_options = refl
fault_at-rank type_mismatch = refl
fault_at-rank bad_memory = refl
fault_at-rank bad_signature = refl
fault_at-rank import_conflict = refl
fault_at-rank duplicate_name = refl

-- faults of one rank are one
pub same-rank : (f g : Fault) → rank f ≡ rank g → f ≡ g
same-rank f g e = sym (fault_at-rank f) ∙ ap fault_at e ∙ fault_at-rank g

-- There is no fault up to a rank.
abbrev pub HasNoneBelow : (Fault → Type 0) → ℕ → Type 0
HasNoneBelow Has n = (g : Fault) → rank g < n → Has g → ⊥

-- nor up to the next one
pub none-next : (Has : Fault → Type 0) (f : Fault) → HasNoneBelow Has (rank f) → (Has f → ⊥) → HasNoneBelow Has (rank f + 1)
none-next Has f none absent g below h =
    elim (cases_lt (rank g) (rank f)) [
      | inl less ↦ none g less h
      | inr more ↦ absent (subst Has (same-rank g f (omega (arith, below, more))) h)
    ]

-- numbers neither of which is less
neither-less : (m n : ℕ) → (m < n → ⊥) → (n < m → ⊥) → m ≡ n
neither-less m n less more = omega (arith, less, more)

-- The first fault of a list of entries is one, and stands at one place.
pub one-entry : (Has : ℕ → Fault → Type 0) (j k : ℕ) (f g : Fault) → IsFirstFault Has j f → IsFirstFault Has k g → (f ≡ g) × (j ≡ k)
one-entry Has j k f g a b =
    let same_place = neither-less j k (λ less. b.no_entry_before j f less a.has) (λ less. a.no_entry_before k g less b.has) in
    let a_there : Has k f = subst (λ i. Has i f) same_place a.has in
    let b_there : Has j g = subst (λ i. Has i g) (sym same_place) b.has in
    (same-rank f g (neither-less (rank f) (rank g) (λ less. b.no_rule_before f less a_there) (λ less. a.no_rule_before g less b_there)), same_place)
