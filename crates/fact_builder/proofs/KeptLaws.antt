-- What is kept of types, when a table gets one more entry.
use Rattle.std.proofs.Common.{◌≡◌, ◌<◌, ℕ, zero, suc, List, [], ◌∷◌, length, map, Option, Some, None, Bool, true, false, refl, sym, ◌∙◌, ap, subst, arith, inl, inr, ◌⊎◌, true≢false}
use Rattle.std.specs.Prelude.{option_map, slice_get, unwrap_or, All, cond}
use Rattle.fact_types.specs.declared.interface.InterfaceType.{InterfaceType}
use Rattle.fact_types.specs.declared.interface.InterfaceType.TheVariants.{Record as t_record, Variant as t_variant, List as t_list, Tuple as t_tuple, Map as t_map, Flags as t_flags, Enum as t_enum, Option as t_option, Result as t_result, Future as t_future, Stream as t_stream, FixedLengthList as t_fixed_length_list}
use Rattle.fact_types.specs.contracts.interface.InterfaceTypePartialEq.TheImpl as type_eq
use Rattle.fact_types.specs.contracts.interface.InterfaceTypeEq.TheImpl.Laws.{laws-law as type_laws}
use Rattle.fact_types.specs.Exact.{exact_type}
use Rattle.fact_types.specs.Tables.{Tables, Node, record_node, variant_node, list_node, tuple_node, map_node, flags_node, enum_node, option_node, result_node, fixed_length_list_node, future_node, stream_node, node_of, is_plain, IsLive, IsLiveMember, Stands, IsSound}
use Rattle.fact_builder.specs.declared.information.TypeInformation.{TypeInformation}
use Rattle.fact_builder.specs.Information.{plain_information, information_by, known, known_members, AllKept}

abbrev pub Kept : Type 0
Kept = InterfaceType → Option TypeInformation

-- a map that has the same is as good
pub same_map : (t : Tables) (kept others : Kept) → AllKept t kept → ((q : InterfaceType) → others q ≡ kept q) → AllKept t others
same_map t kept others a h = subst (AllKept t) (sym (λ i q. h q i)) a

-- tables that have the same entries are as good
pub same_entries : (t u : Tables) (kept : Kept) → ((ty : InterfaceType) → node_of u ty ≡ node_of t ty) → AllKept t kept → AllKept u kept
same_entries t u kept e a = record { entries = λ ty n h. a.entries ty n (sym (e ty) ∙ h); others = a.others }

-- ---- one more entry, which is named by key
-- what a type names among the tables u, which have one more entry than t: what it named before, or the new entry
abbrev pub Splits : Tables → Tables → InterfaceType → Node → Type 0
Splits t u key new = (ty : InterfaceType) (n : Node) → node_of u ty ≡ Some n → ((node_of t ty ≡ Some n) × IsLive t ty) ⊎ ((ty ≡ key) × (n ≡ new))

decided : (b : Bool) → (b ≡ true) ⊎ (b ≡ false)
decided true = inl refl
decided false = inr refl

-- a live type is another one than the key, which is not live
other_than : (t : Tables) (key ty : InterfaceType) → (IsLive t key → ⊥) → IsLive t ty → type_eq.ghosts.eq key ty ≡ false
other_than t key ty dead live = elim (decided (type_eq.ghosts.eq key ty)) [
  | inl e ↦ absurd (dead (subst (IsLive t) (sym (exact_type key ty e)) live))
  | inr e ↦ e
]

-- a map with one more entry, or another one, by a key
abbrev pub Updated : Kept → Kept → InterfaceType → TypeInformation → Type 0
Updated kept news key information = (q : InterfaceType) → news q ≡ cond (type_eq.ghosts.eq key q) (Some information) (kept q)

-- an entry that is there is live
there : {X : Type 0} (f : X → Node) (xs : List X) (i : ℕ) (n : Node) → option_map f (slice_get xs i) ≡ Some n → i < length xs
there f [] i n h = cc
there f (x ∷ xs) zero n h = omega arith
there f (x ∷ xs) (suc i) n h = omega (arith, there f xs i n h)

pub live_kept : (t : Tables) (ty : InterfaceType) (n : Node) → node_of t ty ≡ Some n → IsLive t ty
live_kept t (t_record i) n h = there record_node t.records i.number n h
live_kept t (t_variant i) n h = there variant_node t.variants i.number n h
live_kept t (t_list i) n h = there list_node t.lists i.number n h
live_kept t (t_tuple i) n h = there tuple_node t.tuples i.number n h
live_kept t (t_map i) n h = there map_node t.maps i.number n h
live_kept t (t_flags i) n h = there flags_node t.flags i.number n h
live_kept t (t_enum i) n h = there enum_node t.enums i.number n h
live_kept t (t_option i) n h = there option_node t.options i.number n h
live_kept t (t_result i) n h = there result_node t.results i.number n h
live_kept t (t_fixed_length_list i) n h = there fixed_length_list_node t.fixed_length_lists i.number n h
live_kept t (t_future i) n h = there (future_node t.futures i.number) t.future_tables i.number n h
live_kept t (t_stream i) n h = there (stream_node t.streams i.number) t.stream_tables i.number n h
live_kept t ty n h = cc

-- what is kept of a key that is not live changes nothing
module _ (t : Tables) (kept news : Kept) (key : InterfaceType) (information : TypeInformation) (a : AllKept t kept) (sound : IsSound t) (dead : IsLive t key → ⊥) (is : is_plain key ≡ false) (updates : Updated kept news key information) where
  stays : (ty : InterfaceType) → IsLive t ty → news ty ≡ kept ty
  stays ty l = updates ty ∙ (λ i. cond (other_than t key ty dead l i) (Some information) (kept ty))

  member_stays : (o : Option InterfaceType) → IsLiveMember t o → option_map (known news) o ≡ option_map (known kept) o
  member_stays None l = refl
  member_stays (Some ty) l = λ i. Some (unwrap_or (stays ty l i) (plain_information ty))

  members_stay : (xs : List (List ℕ × Option InterfaceType)) → All (λ m. IsLiveMember t m.1) xs → map (λ m. option_map (known news) m.1) xs ≡ map (λ m. option_map (known kept) m.1) xs
  members_stay [] l = refl
  members_stay (x ∷ xs) l = λ i. member_stays x.1 (l 0 x (omega arith)) i ∷ members_stay xs (λ k d m. l (suc k) d (omega (arith, m))) i

  same_information : (n : Node) → Stands t n → information_by n.kind (known_members kept n) ≡ information_by n.kind (known_members news n)
  same_information n s = λ i. information_by n.kind (sym (members_stay n.members s.live) i)

  old_kept : (ty : InterfaceType) (n : Node) → node_of t ty ≡ Some n → IsLive t ty → news ty ≡ Some (information_by n.kind (known_members news n))
  old_kept ty n h l = stays ty l ∙ a.entries ty n h ∙ ap Some (same_information n (sound.stands ty n h))

  others_stay : (ty : InterfaceType) → is_plain ty ≡ true → news ty ≡ None
  others_stay ty k = updates ty ∙ (λ i. cond (apart ty k i) (Some information) (kept ty)) ∙ a.others ty k
    where
      apart : (ty : InterfaceType) → is_plain ty ≡ true → type_eq.ghosts.eq key ty ≡ false
      apart ty k = elim (decided (type_eq.ghosts.eq key ty)) [
        | inl e ↦ absurd (true≢false (sym k ∙ ap is_plain (sym (exact_type key ty e)) ∙ is))
        | inr e ↦ e
      ]

  pub still_kept : AllKept t news
  still_kept = record { entries = λ ty n h. old_kept ty n h (live_kept t ty n h); others = others_stay }

  module _ (u : Tables) (new : Node) (stands : Stands t new) (splits : Splits t u key new) (told : information ≡ information_by new.kind (known_members kept new)) where
    entry_kept : (ty : InterfaceType) (n : Node) → ((node_of t ty ≡ Some n) × IsLive t ty) ⊎ ((ty ≡ key) × (n ≡ new)) → news ty ≡ Some (information_by n.kind (known_members news n))
    entry_kept ty n (inl (h, l)) = old_kept ty n h l
    entry_kept ty n (inr (e, f)) =
        ap news e ∙ updates key ∙ (λ i. cond (type_laws.refl key i) (Some information) (kept key)) ∙ ap Some (told ∙ same_information new stands)
        ∙ (λ i. Some (information_by (sym f i).kind (known_members news (sym f i))))

    pub one_more : AllKept u news
    one_more = record { entries = λ ty n h. entry_kept ty n (splits ty n h); others = others_stay }
