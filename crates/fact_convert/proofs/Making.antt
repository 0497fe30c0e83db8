-- A type was made of members that were converted before, or could not be.
use Rattle.std.proofs.Common.{◌≡◌, ℕ, zero, suc, All, arith, List, [], ◌∷◌, length, map, Option, Some, None, refl, sym, ◌∙◌, ap, subst, get_or}
use Rattle.std.specs.Prelude.{Result, Ok, Err, flat_map, option_to_list, nat_eq}
use Rattle.std.specs.List.{AllZip}
use Rattle.std.specs.Cmp.Lexicographic.{pointwise}
use Rattle.fact_entity.specs.declared.error.PushError.{PushError}
use Rattle.fact_entity.specs.declared.id.Id.{Id}
use Rattle.fact_entity.specs.declared.table.TypeTuples.{TypeTuples}
use Rattle.fact_source.specs.declared.defined.ComponentDefinedType.{ComponentDefinedType}
use Rattle.fact_source.specs.declared.defined.ComponentValType.{ComponentValType}
use Rattle.fact_source.specs.SourceTables.{SourceTables}
use Rattle.fact_types.specs.declared.interface.InterfaceType.{InterfaceType}
use Rattle.fact_types.specs.declared.interface.InterfaceType.TheVariants as plain
use Rattle.fact_types.specs.declared.kinds.RecordField.{RecordField}
use Rattle.fact_types.specs.Shapes.{Kind, k_tuple, s_node}
use Rattle.fact_types.specs.Tables.{Tables, placed, IsLive, IsLiveMember}
use Rattle.fact_builder.specs.Builder.{Builder}
use Rattle.fact_builder.specs.Makes.{Makes}
use Rattle.fact_builder.specs.declared.error.BuildError.{BuildError}
use Rattle.fact_builder.specs.declared.error.BuildError.TheVariants.{TooLarge}
use Rattle.fact_builder.specs.Errors.{build_error}
use Rattle.fact_convert.specs.Conversion.{BuilderGrows}
use Rattle.fact_convert.specs.Converted.{IsTypeFrom, IsTupleFrom}
use Rattle.fact_convert.specs.Merging.{merged, merged_names}
use Rattle.fact_convert.specs.Performing.{Performs, Fails, MakesFrom, CannotBeMadeFrom, MakesType, LacksRoomForType, AreMembersFrom, IsMemberFrom}
use Rattle.fact_convert.specs.SourceShapes.{SourceNode, of_kind, source_node, placed_values}
use Rattle.fact_convert.specs.Progress.{Comes, IsMadeFrom, answer_of, fields_with, cases_with}
use Rattle.fact_convert.specs.Tasks.{Task, makes_type, makes_tuple}
use Rattle.fact_convert.proofs.Adding.{gains_made, gains_grow, gains_kept, only_tables}
use Rattle.fact_convert.proofs.Coming.{comes_by, comes_refused, comes_with, comes_failed}
use Rattle.fact_convert.proofs.Growing.{members_stay}
use Rattle.fact_convert.proofs.Opening.{comes_told}
use Rattle.fact_convert.proofs.Merged.{Each, each_merged, each_all, both_merged}
use Rattle.fact_convert.proofs.Shaping.{members_shaped}

-- ---- by a task that makes a type of a kind with members from these

made_by : (s : SourceTables) (a : Builder) (b : Builder) (m : Task) (k : Kind) (xs : List (List ℕ × Option ComponentValType)) (ms : List (List ℕ × Option InterfaceType)) (res : Result InterfaceType PushError) (F : Builder → InterfaceType → Type 0)
    → ((c : Builder) → MakesFrom s a k xs c → Performs s a m c) → (CannotBeMadeFrom s a k xs → Fails s a m TooLarge) → ((c : Builder) → BuilderGrows a c → (n : MakesFrom s a k xs c) → F c n.ty)
    → AreMembersFrom s a xs ms → Makes a b k ms res → Comes s a (m ∷ []) F b (answer_of res)
made_by s a b m k xs ms (Ok t) F performs cannot from are makes =
    let made : MakesFrom s a k xs b = record { members = ms; from = are; ty = t; makes = makes; rest = only_tables k a b makes.rest } in
    let g = gains_made k a b makes.rest makes.keeps in
    comes_by s a b m F t (performs b made) (gains_grow a b g) (gains_kept a b g) (from b (gains_grow a b g) made)
made_by s a b m k xs ms (Err e) F performs cannot from are makes =
    subst (λ z. Comes s a (m ∷ []) F z (answer_of (Err e))) (sym makes.refused)
    (comes_refused s a m [] F e (λ q. cannot (record { members = ms; from = are; cannot = makes.too_large (ap Err q) })))

node_with : Kind → List (List ℕ × Option ComponentValType) → SourceNode
node_with k xs = record { kind = of_kind k; members = xs }

-- a defined type that is no handle
pub made_entry : (s : SourceTables) (a : Builder) (b : Builder) (d : ComponentDefinedType) (k : Kind) (xs : List (List ℕ × Option ComponentValType)) (ms : List (List ℕ × Option InterfaceType)) (res : Result InterfaceType PushError)
    → source_node d ≡ Some (record { kind = of_kind k; members = xs }) → AreMembersFrom s a xs ms → Makes a b k ms res → Comes s a (makes_type d ∷ []) (λ c t. IsMadeFrom s c d t) b (answer_of res)
made_entry s a b d k xs ms res e are makes =
    made_by s a b (makes_type d) k xs ms res (λ c t. IsMadeFrom s c d t)
    (λ c n. subst (λ o. MakesType s a o c) (sym e) n)
    (λ n. subst (λ o. LacksRoomForType s a o) (sym e) n)
    (λ c g n. let (sh, h, q) = members_shaped s a xs n.members n.from in (s_node k sh, n.makes.shaped sh h, (record { kind = of_kind k; members = xs }, e, refl, members_stay s a c g xs sh q)))
    are makes

-- the same where a function answers it
pub made_answer : (s : SourceTables) (a b : Builder) (d : ComponentDefinedType) (k : Kind) (xs : List (List ℕ × Option ComponentValType)) (ms : List (List ℕ × Option InterfaceType)) (res : Result InterfaceType PushError) (r : Result InterfaceType BuildError)
    → r ≡ answer_of res → source_node d ≡ Some (record { kind = of_kind k; members = xs }) → AreMembersFrom s a xs ms → Makes a b k ms res → Comes s a (makes_type d ∷ []) (λ c t. IsMadeFrom s c d t) b r
made_answer s a b d k xs ms res r told e are makes = comes_told s a _ _ _ _ _ told (made_entry s a b d k xs ms res e are makes)

-- the tuple of parameters or results
made_tuple : (s : SourceTables) (a : Builder) (b : Builder) (vs : List ComponentValType) (ms : List (List ℕ × Option InterfaceType)) (res : Result InterfaceType PushError)
    → AreMembersFrom s a (placed_values 0 vs) ms → Makes a b k_tuple ms res → Comes s a (makes_tuple vs ∷ []) (λ c t. IsTupleFrom s c vs t) b (answer_of res)
made_tuple s a b vs ms res are makes =
    made_by s a b (makes_tuple vs) k_tuple (placed_values 0 vs) ms res (λ c t. IsTupleFrom s c vs t)
    (λ c n. n) (λ n. n)
    (λ c g n. let (sh, h, q) = members_shaped s a (placed_values 0 vs) n.members n.from in (sh, n.makes.shaped sh h, members_stay s a c g (placed_values 0 vs) sh q))
    are makes

-- its index, or why there is none
pub tuple_at : (s : SourceTables) (a b : Builder) (vs : List ComponentValType) (ms : List (List ℕ × Option InterfaceType)) (t : InterfaceType) (i : Id TypeTuples)
    → t ≡ plain.Tuple i → AreMembersFrom s a (placed_values 0 vs) ms → Makes a b k_tuple ms (Ok t) → Comes s a (makes_tuple vs ∷ []) (λ c i. IsTupleFrom s c vs (plain.Tuple i)) b (Ok i)
tuple_at s a b vs ms t i is are makes =
    comes_with s a b (makes_tuple vs ∷ []) (λ c t. IsTupleFrom s c vs t) (λ c i. IsTupleFrom s c vs (plain.Tuple i)) t i
    (λ h. subst (λ u. IsTupleFrom s b vs u) is h) (made_tuple s a b vs ms (Ok t) are makes)

pub tuple_refused : {Y : Type 0} (s : SourceTables) (a b : Builder) (vs : List ComponentValType) (ms : List (List ℕ × Option InterfaceType)) (x : PushError) (F : Builder → Y → Type 0)
    → AreMembersFrom s a (placed_values 0 vs) ms → Makes a b k_tuple ms (Err x) → Comes s a (makes_tuple vs ∷ []) F b (Err (build_error x))
tuple_refused s a b vs ms x F are makes = comes_failed s a b (makes_tuple vs ∷ []) (λ c t. IsTupleFrom s c vs t) F (build_error x) (made_tuple s a b vs ms (Err x) are makes)

-- ---- members of each kind

pub placed_from : (s : SourceTables) (c : Builder) (n : ℕ) (vs : List ComponentValType) (ts : List InterfaceType) → AllZip (IsTypeFrom s c) vs ts → AreMembersFrom s c (placed_values n vs) (placed n ts)
placed_from s c n [] [] a = tt
placed_from s c n [] (t ∷ ts) a = absurd a
placed_from s c n (v ∷ vs) [] a = absurd a
placed_from s c n (v ∷ vs) (t ∷ ts) (h, a) = ((refl, h), placed_from s c (suc n) vs ts a)

pub fields_from : (s : SourceTables) (c : Builder) (fields : List (List ℕ × ComponentValType)) (ts : List InterfaceType) → AllZip (IsTypeFrom s c) (map (λ f. f.1) fields) ts → AreMembersFrom s c (map (λ f. (f.0, Some f.1)) fields) (map (λ (f : RecordField). (f.name, Some f.ty)) (fields_with fields ts))
fields_from s c [] ts a = tt
fields_from s c (f ∷ fs) [] a = absurd a
fields_from s c (f ∷ fs) (t ∷ ts) (h, a) = ((refl, h), fields_from s c fs ts a)

each_case_from : (s : SourceTables) (c : Builder) (cases : List (List ℕ × Option ComponentValType)) (ts : List InterfaceType) → AllZip (IsTypeFrom s c) (flat_map (λ x. option_to_list x.1) cases) ts → AreMembersFrom s c cases (cases_with cases ts)
each_case_from s c [] ts a = tt
each_case_from s c ((n, None) ∷ xs) ts a = ((refl, tt), each_case_from s c xs ts a)
each_case_from s c ((n, Some v) ∷ xs) [] a = absurd a
each_case_from s c ((n, Some v) ∷ xs) (t ∷ ts) (h, a) = ((refl, h), each_case_from s c xs ts a)

-- repeated names are merged behind the conversion as they are in the source
pub cases_from : (s : SourceTables) (c : Builder) (cases : List (List ℕ × Option ComponentValType)) (ts : List InterfaceType) → AllZip (IsTypeFrom s c) (flat_map (λ x. option_to_list x.1) cases) ts → AreMembersFrom s c (merged cases) (merged (cases_with cases ts))
cases_from s c cases ts a = both_merged (pointwise nat_eq) (IsMemberFrom s c) [] cases [] (cases_with cases ts) tt (each_case_from s c cases ts a)

pub names_from : (s : SourceTables) (c : Builder) (names : List (List ℕ)) → AreMembersFrom s c (map (λ n. (n, None)) names) (map (λ n. (n, None)) names)
names_from s c [] = tt
names_from s c (n ∷ names) = ((refl, tt), names_from s c names)

-- ---- lists of one or two types

pub first_from : (R : ComponentValType → InterfaceType → Type 0) (v : ComponentValType) (vs : List ComponentValType) (ts : List InterfaceType) (d : InterfaceType) → AllZip R (v ∷ vs) ts → R v (get_or ts 0 d)
first_from R v vs [] d a = absurd a
first_from R v vs (t ∷ ts) d (h, a) = h

pub second_from : (R : ComponentValType → InterfaceType → Type 0) (v w : ComponentValType) (vs : List ComponentValType) (ts : List InterfaceType) (d : InterfaceType) → AllZip R (v ∷ w ∷ vs) ts → R w (get_or ts 1 d)
second_from R v w vs [] d a = absurd a
second_from R v w vs (t ∷ []) d (h, a) = absurd a
second_from R v w vs (t ∷ u ∷ ts) d (h, (k, a)) = k

pub many_from : {V T : Type 0} (R : V → T → Type 0) (vs : List V) (ts : List T) → AllZip R vs ts → length ts ≡ length vs
many_from R [] [] a = refl
many_from R [] (t ∷ ts) a = absurd a
many_from R (v ∷ vs) [] a = absurd a
many_from R (v ∷ vs) (t ∷ ts) (h, a) = ap suc (many_from R vs ts a)

-- ---- fields and cases of these names, with these types

fields_all : (t : Tables) (fs : List (List ℕ × ComponentValType)) (ts : List InterfaceType) → All (IsLive t) ts → All (λ (f : RecordField). IsLive t f.ty) (fields_with fs ts)
fields_all t [] ts a i d l = absurd (omega (arith, l))
fields_all t (f ∷ fs) [] a i d l = absurd (omega (arith, l))
fields_all t (f ∷ fs) (y ∷ ts) a zero d l = a 0 y (omega arith)
fields_all t (f ∷ fs) (y ∷ ts) a (suc i) d l = fields_all t fs ts (λ j e m. a (suc j) e (omega (arith, m))) i d (omega (arith, l))

pub fields_live : (t : Tables) (fs : List (List ℕ × ComponentValType)) (ts : List InterfaceType) (made : List RecordField) → made ≡ fields_with fs ts → All (IsLive t) ts → All (λ (f : RecordField). IsLive t f.ty) made
fields_live t fs ts made e l = subst (All (λ (f : RecordField). IsLive t f.ty)) (sym e) (fields_all t fs ts l)

pub fields_now : (s : SourceTables) (c : Builder) (fs : List (List ℕ × ComponentValType)) (ts : List InterfaceType) (shown : List (List ℕ × ComponentValType)) (made : List RecordField) → made ≡ fields_with shown ts → shown ≡ fs → AllZip (IsTypeFrom s c) (map (λ f. f.1) fs) ts → AreMembersFrom s c (map (λ f. (f.0, Some f.1)) fs) (map (λ (f : RecordField). (f.name, Some f.ty)) made)
fields_now s c fs ts shown made e q a = subst (λ ms. AreMembersFrom s c (map (λ f. (f.0, Some f.1)) fs) (map (λ (f : RecordField). (f.name, Some f.ty)) ms)) (sym (e ∙ ap (λ ws. fields_with ws ts) q)) (fields_from s c fs ts a)

cases_each : (t : Tables) (cases : List (List ℕ × Option ComponentValType)) (ts : List InterfaceType) → All (IsLive t) ts → Each (IsLiveMember t) (cases_with cases ts)
cases_each t [] ts a = tt
cases_each t ((n, None) ∷ xs) ts a = (tt, cases_each t xs ts a)
cases_each t ((n, Some v) ∷ xs) [] a = (tt, cases_each t xs [] a)
cases_each t ((n, Some v) ∷ xs) (y ∷ ts) a = (a 0 y (omega arith), cases_each t xs ts (λ j e m. a (suc j) e (omega (arith, m))))

pub cases_live : (t : Tables) (cases : List (List ℕ × Option ComponentValType)) (ts : List InterfaceType) (made : List (List ℕ × Option InterfaceType)) → made ≡ merged (cases_with cases ts) → All (IsLive t) ts → All (λ x. IsLiveMember t x.1) made
cases_live t cases ts made e l =
    subst (All (λ x. IsLiveMember t x.1)) (sym e) (each_all (IsLiveMember t) (merged (cases_with cases ts)) (each_merged (pointwise nat_eq) (IsLiveMember t) [] (cases_with cases ts) tt (cases_each t cases ts l)))

-- types as they are named
pub all_live : (t : Tables) (ts made : List InterfaceType) → made ≡ ts → All (IsLive t) ts → All (IsLive t) made
all_live t ts made e l = subst (All (IsLive t)) (sym e) l

pub cases_now : (s : SourceTables) (c : Builder) (cases : List (List ℕ × Option ComponentValType)) (ts : List InterfaceType) (shown : List (List ℕ × Option ComponentValType)) (made : List (List ℕ × Option InterfaceType)) → made ≡ merged (cases_with shown ts) → shown ≡ cases → AllZip (IsTypeFrom s c) (flat_map (λ x. option_to_list x.1) cases) ts → AreMembersFrom s c (merged cases) made
cases_now s c cases ts shown made e q a = subst (AreMembersFrom s c (merged cases)) (sym (e ∙ ap (λ ws. merged (cases_with ws ts)) q)) (cases_from s c cases ts a)

pub names_now : (s : SourceTables) (c : Builder) (names shown made : List (List ℕ)) → made ≡ merged_names shown → shown ≡ names → AreMembersFrom s c (map (λ n. (n, None)) (merged_names names)) (map (λ n. (n, None)) made)
names_now s c names shown made e q = subst (λ ms. AreMembersFrom s c (map (λ n. (n, None)) (merged_names names)) (map (λ n. (n, None)) ms)) (sym (e ∙ ap merged_names q)) (names_from s c (merged_names names))

pub types_now : (s : SourceTables) (c : Builder) (vs : List ComponentValType) (ts made : List InterfaceType) → made ≡ ts → AllZip (IsTypeFrom s c) vs ts → AreMembersFrom s c (placed_values 0 vs) (placed 0 made)
types_now s c vs ts made e a = subst (λ ms. AreMembersFrom s c (placed_values 0 vs) (placed 0 ms)) (sym e) (placed_from s c 0 vs ts a)

-- as many as there are fields
pub mapped_many : (fs : List (List ℕ × ComponentValType)) → length (map (λ f. f.1) fs) ≡ length fs
mapped_many [] = refl
mapped_many (f ∷ fs) = ap suc (mapped_many fs)
