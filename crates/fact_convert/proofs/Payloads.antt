-- The types of payloads that may be there: of one, and of two that stand one behind the other.
use Rattle.std.proofs.Common.{◌≡◌, ◌<◌, ◌-◌, ℕ, All, ap, ◌∙◌, List, [], ◌∷◌, ◌++◌, length, Option, Some, None, refl, sym, subst}
use Rattle.std.specs.Prelude.{slice_get, option_to_list, Result}
use Rattle.std.specs.List.{AllZip}
use Rattle.std.specs.Option.{option_and}
use Rattle.std.proofs.lemmas.Option.{get_or_from_slice_get, slice_get_within}
use Rattle.fact_source.specs.declared.defined.ComponentDefinedType.{ComponentDefinedType}
use Rattle.fact_source.specs.declared.defined.ComponentDefinedType.TheVariants as ty
use Rattle.fact_source.specs.declared.defined.ComponentValType.{ComponentValType}
use Rattle.fact_source.specs.SourceTables.{SourceTables}
use Rattle.fact_types.specs.declared.interface.InterfaceType.{InterfaceType}
use Rattle.fact_types.specs.Tables.{Tables, IsLive, IsLiveMember}
use Rattle.fact_builder.specs.declared.error.BuildError.{BuildError}
use Rattle.fact_convert.specs.Converted.{IsTypeFrom}
use Rattle.fact_builder.specs.Builder.{Builder}
use Rattle.fact_convert.specs.Performing.{IsMemberFrom}
use Rattle.fact_convert.specs.Progress.{Comes, IsMadeFrom}
use Rattle.fact_convert.specs.Tasks.{member_types, own_tasks}
use Rattle.fact_convert.proofs.Making.{first_from, second_from}

-- ---- they are from their source

-- the first type is that of the payload, where there is one
pub payload_from : (s : SourceTables) (c : Builder) (p : Option ComponentValType) (q : Option InterfaceType) (ts : List InterfaceType) → q ≡ slice_get ts 0 → AllZip (IsTypeFrom s c) (option_to_list p) ts → IsMemberFrom s c p q
payload_from s c None q [] e a = subst (IsMemberFrom s c None) (sym e) tt
payload_from s c None q (t ∷ ts) e a = absurd a
payload_from s c (Some v) q [] e a = absurd a
payload_from s c (Some v) q (t ∷ ts) e (h, a) = subst (IsMemberFrom s c (Some v)) (sym e) h

-- of two, the first type is that of the first
pub first_from_two : (s : SourceTables) (c : Builder) (p r : Option ComponentValType) (q : Option InterfaceType) (ts : List InterfaceType) → q ≡ option_and p (slice_get ts 0) → AllZip (IsTypeFrom s c) (option_to_list p ++ option_to_list r) ts → IsMemberFrom s c p q
first_from_two s c None r q ts e a = subst (IsMemberFrom s c None) (sym e) tt
first_from_two s c (Some v) r q [] e a = absurd a
first_from_two s c (Some v) r q (t ∷ ts) e (h, a) = subst (IsMemberFrom s c (Some v)) (sym e) h

-- and the last type is that of the second
pub last_from_two : (s : SourceTables) (c : Builder) (p r : Option ComponentValType) (q : Option InterfaceType) (ts : List InterfaceType) → q ≡ option_and r (slice_get ts (length ts - 1)) → AllZip (IsTypeFrom s c) (option_to_list p ++ option_to_list r) ts → IsMemberFrom s c r q
last_from_two s c p None q ts e a = subst (IsMemberFrom s c None) (sym e) tt
last_from_two s c None (Some w) q [] e a = absurd a
last_from_two s c None (Some w) q (t ∷ []) e (h, a) = subst (IsMemberFrom s c (Some w)) (sym e) h
last_from_two s c None (Some w) q (t ∷ u ∷ ts) e (h, a) = absurd a
last_from_two s c (Some v) (Some w) q [] e a = absurd a
last_from_two s c (Some v) (Some w) q (t ∷ []) e (h, a) = absurd a
last_from_two s c (Some v) (Some w) q (t ∷ u ∷ []) e (h, (k, a)) = subst (IsMemberFrom s c (Some w)) (sym e) k
last_from_two s c (Some v) (Some w) q (t ∷ u ∷ x ∷ ts) e (h, (k, a)) = absurd a

-- ---- and live

at_live : (t : Tables) (ts : List InterfaceType) (n : ℕ) (o : Option InterfaceType) → slice_get ts n ≡ o → All (IsLive t) ts → IsLiveMember t o
at_live t ts n None e a = tt
at_live t ts n (Some ty) e a = subst (IsLive t) (get_or_from_slice_get ts n ty ty e) (a n ty (slice_get_within ts n ty e))

pub payload_live : (t : Tables) (ts : List InterfaceType) (q : Option InterfaceType) → q ≡ slice_get ts 0 → All (IsLive t) ts → IsLiveMember t q
payload_live t ts q e a = subst (IsLiveMember t) (sym e) (at_live t ts 0 (slice_get ts 0) refl a)

pub live_where_any : (t : Tables) (p : Option ComponentValType) (ts : List InterfaceType) (n : ℕ) (q : Option InterfaceType) → q ≡ option_and p (slice_get ts n) → All (IsLive t) ts → IsLiveMember t q
live_where_any t None ts n q e a = subst (IsLiveMember t) (sym e) tt
live_where_any t (Some v) ts n q e a = subst (IsLiveMember t) (sym e) (at_live t ts n (slice_get ts n) refl a)

-- ---- an entry by its kind, and its members

pub made_of : (s : SourceTables) (a c : Builder) (e d : ComponentDefinedType) (r : Result InterfaceType BuildError) → e ≡ d → Comes s a (own_tasks d) (λ c t. IsMadeFrom s c d t) c r → Comes s a (own_tasks e) (λ c t. IsMadeFrom s c e t) c r
made_of s a c e d r is p = subst (λ x. Comes s a (own_tasks x) (λ c t. IsMadeFrom s c x t) c r) (sym is) p

pub types_of : (s : SourceTables) (a : Builder) (e d : ComponentDefinedType) (ts : List InterfaceType) → e ≡ d → AllZip (IsTypeFrom s a) (member_types e) ts → AllZip (IsTypeFrom s a) (member_types d) ts
types_of s a e d ts is h = subst (λ x. AllZip (IsTypeFrom s a) (member_types x) ts) is h

-- one with one member
pub single_entry : (D : ComponentValType → ComponentDefinedType) → ((v : ComponentValType) → member_types (D v) ≡ v ∷ []) → (s : SourceTables) (a c : Builder) (e : ComponentDefinedType) (v : ComponentValType) (ts : List InterfaceType) (x : InterfaceType) (r : Result InterfaceType BuildError)
    → e ≡ D v → AllZip (IsTypeFrom s a) (member_types e) ts → slice_get ts 0 ≡ Some x → ((v : ComponentValType) → IsTypeFrom s a v x → Comes s a (own_tasks (D v)) (λ c t. IsMadeFrom s c (D v) t) c r) → Comes s a (own_tasks e) (λ c t. IsMadeFrom s c e t) c r
single_entry D one s a c e v ts x r is h at f =
    let types = subst (λ vs. AllZip (IsTypeFrom s a) vs ts) (ap member_types is ∙ one v) h in
    made_of s a c e (D v) r is (f v (subst (IsTypeFrom s a v) (get_or_from_slice_get ts 0 x x at) (first_from (IsTypeFrom s a) v [] ts x types)))

-- a map
pub map_entry : (s : SourceTables) (a c : Builder) (e : ComponentDefinedType) (k v : ComponentValType) (ts : List InterfaceType) (x y : InterfaceType) (r : Result InterfaceType BuildError)
    → e ≡ ty.Map k v → AllZip (IsTypeFrom s a) (member_types e) ts → slice_get ts 0 ≡ Some x → slice_get ts 1 ≡ Some y → ((k v : ComponentValType) → IsTypeFrom s a k x → IsTypeFrom s a v y → Comes s a (own_tasks (ty.Map k v)) (λ c t. IsMadeFrom s c (ty.Map k v) t) c r) → Comes s a (own_tasks e) (λ c t. IsMadeFrom s c e t) c r
map_entry s a c e k v ts x y r is h at by f =
    let types = types_of s a e (ty.Map k v) ts is h in
    made_of s a c e (ty.Map k v) r is (f k v (subst (IsTypeFrom s a k) (get_or_from_slice_get ts 0 x x at) (first_from (IsTypeFrom s a) k (v ∷ []) ts x types)) (subst (IsTypeFrom s a v) (get_or_from_slice_get ts 1 y y by) (second_from (IsTypeFrom s a) k v [] ts y types)))

-- ---- a member at a place

-- there are as many types as members
pub type_there : (ts : List InterfaceType) (e d : ComponentDefinedType) → length ts ≡ length (member_types e) → e ≡ d → (n : ℕ) → n < length (member_types d) → n < length ts
type_there ts e d many is n l = subst (λ m. n < m) (sym (many ∙ ap (λ x. length (member_types x)) is)) l

pub type_live_at : (t : Tables) (ts : List InterfaceType) (n : ℕ) (x : InterfaceType) → slice_get ts n ≡ Some x → All (IsLive t) ts → IsLive t x
type_live_at t ts n x is a = at_live t ts n (Some x) is a
