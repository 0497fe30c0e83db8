-- The memories and reallocs of an adapter that the checks let pass.
use Rattle.std.proofs.Common.{◌≡◌, ◌≢◌, ℕ, Bool, true, false, List, [], ◌∷◌, Option, Some, None, Contains, refl, sym, ap, ◌∙◌, subst, arith, inl, inr}
use Rattle.std.specs.Prelude.{IsNone, IsSomeAnd, MatchBool, nat_eq, not}
use Rattle.std.specs.List.{flat_map}
use Rattle.std.proofs.lemmas.Bool.{eq-eqb, eqb-true, false≢true}
use Rattle.std.proofs.lemmas.List.Elements.{Contains-append_left, Contains-append_right}
use Rattle.fact_types.specs.declared.outside.CoreDef.{CoreDef}
use Rattle.fact_types.specs.declared.outside.MemoryOption.{MemoryOption}
use Rattle.fact_types.specs.Adapters.{LinkedAdapter, Side, is_crossing}
use Rattle.fact_types.specs.Shapes.{Shape}
use Rattle.fact_adapter_rules.specs.AdapterRules.{CannotUseMemory, IsByPointer, IsOdd, LiftNeedsMemory, LiftNeedsRealloc, LowerNeedsMemory, LowerNeedsRealloc, LowerResultsByPointer, SharesMemory, bound, def_in, adapter_memories, with}
use Rattle.fact_adapter_rules.specs.Bindings.{AreConsistent}
use Rattle.fact_actions.specs.Adapters.{flat_results}
use Rattle.fact_actions.specs.Sides.{LiftLowerOptions, options_of}
use Rattle.fact_action_laws.specs.FaithfulLaws.{HasOwnMemories}
use Rattle.fact_action_laws.specs.MoveTerms.{CanAllocate, HasRealloc}
use Rattle.fact_action_laws.specs.Places.{HasSideMemory}
use Rattle.fact_assembly.specs.Sound.{HasUsualPages}
use Rattle.fact_assembly.proofs.Stable.{stable_nat}
use Rattle.fact_assembly.proofs.Pairs.{contains_last, one_value, stable_consistent}

-- ---- what is there

has_memory : (o : LiftLowerOptions) → (IsNone o.memory → ⊥) → HasSideMemory o
has_memory o h = go o.memory h
  where
    go : (m : Option MemoryOption) → (IsNone m → ⊥) → HasSideMemory (record { encoding = o.encoding; memory = m; realloc = o.realloc })
    go None h = absurd (h refl)
    go (Some m) h = tt

has_realloc : (o : LiftLowerOptions) → (IsNone o.realloc → ⊥) → HasRealloc o
has_realloc o h = go o.realloc h
  where
    go : (r : Option CoreDef) → (IsNone r → ⊥) → HasRealloc (record { encoding = o.encoding; memory = o.memory; realloc = r })
    go None h = absurd (h refl)
    go (Some r) h = tt

-- results of the lower side that are not flat go through a pointer
by_pointer : (s : Side) → flat_results s ≡ None → LowerResultsByPointer s
by_pointer s h = go s.async_side s.results h
  where
    go : (mark : Bool) (ts : List Shape) → flat_results (record s { async_side = mark; results = ts }) ≡ None → MatchBool mark (ts ≢ []) (IsByPointer s.memory 1 ts)
    go false ts h = h
    go true [] h = cc
    go true (t ∷ ts) h = λ e. cc

-- a memory that is not odd has usual pages
usual_pages : (o : Option MemoryOption) → (IsSomeAnd o IsOdd → ⊥) → HasUsualPages o
usual_pages None h = tt
usual_pages (Some m) h = go (nat_eq m.page_size_log2 0) refl
  where
    go : (b : Bool) → nat_eq m.page_size_log2 0 ≡ b → HasUsualPages (Some m)
    go true e = inl (eqb-true m.page_size_log2 0 e)
    go false e = inr (stable_nat m.page_size_log2 16 (λ n. h (inr (λ is_zero. false≢true (sym e ∙ eq-eqb m.page_size_log2 0 is_zero), n))))

module _ (a : LinkedAdapter) (can : CannotUseMemory a → ⊥) where
  pub lift_memory : LiftNeedsMemory a.lift → HasSideMemory (options_of a.lift)
  lift_memory need = has_memory (options_of a.lift) (λ none. can (inl (inl (inl (none, need)))))

  lift_realloc : LiftNeedsRealloc a.lift → HasRealloc (options_of a.lift)
  lift_realloc need = has_realloc (options_of a.lift) (λ none. can (inl (inl (inr (none, need)))))

  pub lower_memory : LowerNeedsMemory a.lower → HasSideMemory (options_of a.lower)
  lower_memory need = has_memory (options_of a.lower) (λ none. can (inl (inr (inl (none, need)))))

  lower_realloc : LowerNeedsRealloc a.lower → HasRealloc (options_of a.lower)
  lower_realloc need = has_realloc (options_of a.lower) (λ none. can (inl (inr (inr (none, need)))))

  -- each side has what its own types need
  pub own_memories : HasOwnMemories a
  own_memories = record {
    lower_params = λ h. lower_memory (inr (inr (inl h)));
    lower_results = λ h. record { memory = lower_memory (inr (inr (inr h))); realloc = lower_realloc h };
    lift_params = λ h. record { memory = lift_memory (inr (inr (inl h))); realloc = lift_realloc (inr h) };
    lift_results = λ h. lift_memory (inr (inr (inr h)));
  }

  pub lift_can_allocate : LiftNeedsMemory a.lift → LiftNeedsRealloc a.lift → CanAllocate (options_of a.lift)
  lift_can_allocate memory realloc = record { memory = lift_memory memory; realloc = lift_realloc realloc }

  pub results_into_memory : flat_results a.lower ≡ None → HasSideMemory (options_of a.lower)
  results_into_memory h = lower_memory (inr (inl (by_pointer a.lower h)))

  pub lift_pages : HasUsualPages a.lift.memory
  lift_pages = usual_pages a.lift.memory (λ odd. can (inr (inl (inr odd))))

  pub lower_pages : HasUsualPages a.lower.memory
  lower_pages = usual_pages a.lower.memory (λ odd. can (inr (inr (inr odd))))

-- ---- two instances have two memories

bound_there : (o : Option MemoryOption) (m : MemoryOption) (v : ℕ) → o ≡ Some m → Contains (bound (def_in o) v) (m.def, v)
bound_there o m v e = subst (λ o. Contains (bound (def_in o) v) (m.def, v)) (sym e) (0, omega arith, refl)

-- memories of two instances are two definitions
pub two_definitions : (before : List LinkedAdapter) (a : LinkedAdapter) → (SharesMemory before a → ⊥) → is_crossing a ≡ true → (m n : MemoryOption) → a.lower.memory ≡ Some m → a.lift.memory ≡ Some n → m.def ≢ n.def
two_definitions before a apart crossing m n is_m is_n same =
    let all = flat_map adapter_memories (with before a) in
    let consistent : AreConsistent all = stable_consistent stable_nat all (λ none. apart (inl none)) in
    let lower : Contains all (m.def, a.lower.instance) =
    contains_last adapter_memories before a (m.def, a.lower.instance)
    (Contains-append_right (bound (def_in a.lift.memory) a.lift.instance) (bound (def_in a.lower.memory) a.lower.instance) (m.def, a.lower.instance) (bound_there a.lower.memory m a.lower.instance is_m)) in
    let lift : Contains all (n.def, a.lift.instance) =
    contains_last adapter_memories before a (n.def, a.lift.instance)
    (Contains-append_left (bound (def_in a.lift.memory) a.lift.instance) (bound (def_in a.lower.memory) a.lower.instance) (n.def, a.lift.instance) (bound_there a.lift.memory n a.lift.instance is_n)) in
    let one : a.lower.instance ≡ a.lift.instance = one_value all (m.def, a.lower.instance) (n.def, a.lift.instance) consistent lower lift same in
    false≢true (sym (ap not (eq-eqb a.lift.instance a.lower.instance (sym one))) ∙ crossing)
