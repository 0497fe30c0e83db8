-- The fields of records by their names.
use Rattle.std.proofs.Common.{◌≡◌, ◌↔◌, ◌<◌, ◌+◌, ℕ, zero, suc, List, [], ◌∷◌, ◌++◌, length, take, get_or, Option, Some, None, Bool, true, false, cond, refl, sym, ◌∙◌, ap, subst, arith, Contains, true≢false}
use Rattle.std.specs.Prelude.{if◌then◌else◌, IsTrue, is_some}
use Rattle.std.specs.Str.{bytes_eq}
use Rattle.std.specs.List.{list_all}
use Rattle.std.specs.Cmp.Lexicographic.{nat_list_eq_equiv}
use Rattle.std.proofs.lemmas.Bool.{and_parts, and_from}
use Rattle.std.proofs.lemmas.List.{take_more}
use Rattle.std.proofs.lemmas.Slice.Eq.{bytes_eq-Decides}
use Rattle.fact_types.specs.declared.interface.InterfaceType.{InterfaceType}
use Rattle.fact_types.specs.declared.kinds.RecordField.{RecordField}
use Rattle.fact_types.specs.Agrees.{Agrees, names_of, first_of, named, BothThere}
use Rattle.fact_types.specs.Shapes.{Shape, Members, no_members, bare, typed}
use Rattle.fact_types.specs.Tables.{Tables, HasShape, HasMembers}
use Rattle.fact_types.proofs.ShapeLaws.{same_some, none_some, more}
use Rattle.fact_agreement.specs.Named.{type_named, field_names}
use Rattle.fact_agreement.specs.Told.{of_fields, HasPayload, AgreePayload, TellsFields, TellsRecords}
use Rattle.fact_agreement.proofs.MemberLaws.{is_not, yes_says, no_says}

-- ---- a map from names to types, made one field after another
-- what is found of one more field
or_else : Option InterfaceType → Option InterfaceType → Option InterfaceType
or_else None q = q
or_else (Some ty) q = Some ty

by_first : (b : Bool) (ty : InterfaceType) (p q : Option InterfaceType) → (if b then Some ty else or_else p q) ≡ or_else (if b then Some ty else p) q
unfolding or_else
by_first true ty p q = refl
by_first false ty p q = refl

one_more : (x : List ℕ) (fs : List RecordField) (f : RecordField) → type_named x (fs ++ f ∷ []) ≡ or_else (type_named x fs) (if bytes_eq x f.name then Some f.ty else None)
unfolding or_else
one_more x [] f = refl
one_more x (g ∷ fs) f = ap (λ (o : Option InterfaceType). if bytes_eq x g.name then Some g.ty else o) (one_more x fs f) ∙ by_first (bytes_eq x g.name) g.ty (type_named x fs) (if bytes_eq x f.name then Some f.ty else None)

abbrev Found : Type 0
Found = List ℕ → Option InterfaceType

-- a field whose name is known already
kept : (x y : List ℕ) (ty : InterfaceType) (o : Option InterfaceType) (b : Bool) → bytes_eq x y ≡ b → (x ≡ y → is_some o ≡ true) → o ≡ or_else o (if b then Some ty else None)
unfolding or_else
kept x y ty (Some z) b e k = refl
kept x y ty None false e k = refl
kept x y ty None true e k = absurd (true≢false (sym (k ((bytes_eq-Decides x y).0 e))))

pub known_name : (found : Found) (fs : List RecordField) (f : RecordField) → ((x : List ℕ) → found x ≡ type_named x fs) → is_some (found f.name) ≡ true → (x : List ℕ) → found x ≡ type_named x (fs ++ f ∷ [])
known_name found fs f k there x = k x ∙ kept x f.name f.ty (type_named x fs) (bytes_eq x f.name) refl (λ e. ap (λ y. is_some (type_named y fs)) e ∙ ap is_some (sym (k f.name)) ∙ there) ∙ sym (one_more x fs f)

-- a field with a new name
put : (x y : List ℕ) (ty : InterfaceType) (o : Option InterfaceType) (b c : Bool) → bytes_eq y x ≡ b → b ≡ c → (x ≡ y → is_some o ≡ false) → cond b (Some ty) o ≡ or_else o (if c then Some ty else None)
unfolding or_else
put x y ty None true true d e k = refl
put x y ty None false false d e k = refl
put x y ty None true false d e k = absurd (true≢false e)
put x y ty None false true d e k = absurd (true≢false (sym e))
put x y ty (Some z) true c d e k = absurd (true≢false (k (sym ((bytes_eq-Decides y x).0 d))))
put x y ty (Some z) false c d e k = refl

pub new_name : (found then_found : Found) (fs : List RecordField) (f : RecordField) → ((x : List ℕ) → found x ≡ type_named x fs) → is_some (found f.name) ≡ false
    → ((x : List ℕ) → then_found x ≡ cond (bytes_eq f.name x) (Some f.ty) (found x)) → (x : List ℕ) → then_found x ≡ type_named x (fs ++ f ∷ [])
new_name found then_found fs f k absent puts x =
    puts x ∙ ap (λ o. cond (bytes_eq f.name x) (Some f.ty) o) (k x)
    ∙ put x f.name f.ty (type_named x fs) (bytes_eq f.name x) (bytes_eq x f.name) refl (nat_list_eq_equiv.symm f.name x) (λ e. ap (λ y. is_some (type_named y fs)) e ∙ ap is_some (sym (k f.name)) ∙ absent)
    ∙ sym (one_more x fs f)

pub next_field : (found : Found) (fs : List RecordField) (i : ℕ) (f : RecordField) → i < length fs → f ≡ get_or fs i f → ((x : List ℕ) → found x ≡ type_named x (take i fs ++ f ∷ [])) → (x : List ℕ) → found x ≡ type_named x (take (i + 1) fs)
next_field found fs i f lt is k x = k x ∙ ap (type_named x) (ap (λ (g : RecordField). take i fs ++ g ∷ []) is ∙ sym (take_more fs i f lt))

-- ---- names among names
has_name : (x : List ℕ) (gs : List RecordField) → is_some (type_named x gs) ≡ true → Contains (field_names gs) x
has_name x [] h = absurd (true≢false (sym h))
has_name x (g ∷ gs) h = go (bytes_eq x g.name) refl h (has_name x gs)
  where
    go : (b : Bool) → bytes_eq x g.name ≡ b → is_some (if b then Some g.ty else type_named x gs) ≡ true → (is_some (type_named x gs) ≡ true → Contains (field_names gs) x) → Contains (field_names (g ∷ gs)) x
    go true e k rest = (0, omega arith, sym ((bytes_eq-Decides x g.name).0 e))
    go false e k rest = let r = rest k in (suc r.0, omega (arith, r.1), r.2)

named_there : (x : List ℕ) (gs : List RecordField) (i : ℕ) → i < length (field_names gs) → get_or (field_names gs) i x ≡ x → is_some (type_named x gs) ≡ true
named_there x [] i lt at = absurd (omega (arith, lt))
named_there x (g ∷ gs) zero lt at = ap (λ b. is_some (if b then Some g.ty else type_named x gs)) ((bytes_eq-Decides x g.name).1 (sym at))
named_there x (g ∷ gs) (suc i) lt at = go (bytes_eq x g.name) (named_there x gs i (omega (arith, lt)) at)
  where
    go : (b : Bool) → is_some (type_named x gs) ≡ true → is_some (if b then Some g.ty else type_named x gs) ≡ true
    go true k = refl
    go false k = k

all_found : (found : Found) (fs : List RecordField) → list_all (λ f. is_some (found f.name)) fs ≡ true → (x : List ℕ) (i : ℕ) → i < length (field_names fs) → get_or (field_names fs) i x ≡ x → is_some (found x) ≡ true
all_found found [] h x i lt at = absurd (omega (arith, lt))
all_found found (f ∷ fs) h x zero lt at = ap (λ y. is_some (found y)) (sym at) ∙ (and_parts _ _ h).0
all_found found (f ∷ fs) h x (suc i) lt at = all_found found fs (and_parts (is_some (found f.name)) _ h).1 x i (omega (arith, lt)) at

found_all : (found : Found) (fs : List RecordField) → ((x : List ℕ) → Contains (field_names fs) x → is_some (found x) ≡ true) → list_all (λ f. is_some (found f.name)) fs ≡ true
found_all found [] h = refl
found_all found (f ∷ fs) h = and_from _ _ (h f.name (0, omega arith, refl)) (found_all found fs (λ x k. h x (suc k.0, omega (arith, k.1), k.2)))

pub names_among : (found : Found) (fs gs : List RecordField) (b : Bool) → ((x : List ℕ) → found x ≡ type_named x gs) → b ≡ list_all (λ f. is_some (found f.name)) fs
    → (IsTrue b ↔ ((x : List ℕ) → Contains (field_names fs) x → Contains (field_names gs) x))
names_among found fs gs b k is = (
  λ h x c. has_name x gs (ap is_some (sym (k x)) ∙ all_found found fs (sym is ∙ h) x c.0 c.1 c.2),
  λ h. is ∙ found_all found fs (λ x c. let g = h x c in ap is_some (k x) ∙ named_there x gs g.0 g.1 g.2),
)

-- ---- the members of a record
-- the names of the members are those of the fields
pub names_are : (t : Tables) (fs : List RecordField) (ms : Members) → HasMembers t (of_fields fs) ms → names_of ms ≡ field_names fs
names_are t [] no_members h = refl
names_are t [] (bare n ms) h = absurd h
names_are t [] (typed n s ms) h = absurd h
names_are t (f ∷ fs) no_members h = absurd h
names_are t (f ∷ fs) (bare n ms) h = absurd (none_some (Some f.ty) f.ty h.1 refl)
names_are t (f ∷ fs) (typed n s ms) h = more n f.name (names_of ms) (field_names fs) (sym h.0) (names_are t fs ms h.2)

-- the first field of a name has the shape of the first member of it
by_test : (t : Tables) (p : Option InterfaceType) (ty : InterfaceType) (o : Option Shape) (s : Shape) (b : Bool) → HasShape t ty s → HasPayload t p o → HasPayload t (if b then Some ty else p) (first_of b (Some s) o)
by_test t p ty o s true h k = h
by_test t p ty o s false h k = k

pub named_has : (t : Tables) (x : List ℕ) (fs : List RecordField) (ms : Members) → HasMembers t (of_fields fs) ms → HasPayload t (type_named x fs) (named x ms)
named_has t x [] no_members h = tt
named_has t x [] (bare n ms) h = absurd h
named_has t x [] (typed n s ms) h = absurd h
named_has t x (f ∷ fs) no_members h = absurd h
named_has t x (f ∷ fs) (bare n ms) h = absurd (none_some (Some f.ty) f.ty h.1 refl)
named_has t x (f ∷ fs) (typed n s ms) h =
    let shaped : HasShape t f.ty s = subst (λ ty. HasShape t ty s) (sym (same_some (Some f.ty) f.ty h.1.0 refl h.1.1)) h.1.2 in
    let same : bytes_eq x f.name ≡ bytes_eq n x = nat_list_eq_equiv.symm x f.name ∙ ap (λ y. bytes_eq y x) h.0 in
    subst (λ b. HasPayload t (type_named x (f ∷ fs)) (first_of b (Some s) (named x ms))) same (by_test t (type_named x fs) f.ty (named x ms) s (bytes_eq x f.name) shaped (named_has t x fs ms h.2))

-- a field that is there and agrees
pub both_there : (o : Option Shape) (d : Shape) (R : Type 0) → (BothThere o (λ s. Agrees s d) × R) ↔ (AgreePayload o (Some d) × R)
both_there None d R = (λ a. a, λ a. a)
both_there (Some s) d R = (λ a. a, λ a. a)

-- ---- two records
-- the answer whether each name of some fields is one of others
abbrev pub AreAmong : Bool → List RecordField → List RecordField → Type 0
AreAmong b fs gs = IsTrue b ↔ ((x : List ℕ) → Contains (field_names fs) x → Contains (field_names gs) x)

-- a name of the source is none of the destination
pub no_records : (t : Tables) (fs gs : List RecordField) (b : Bool) → AreAmong b fs gs → b ≡ false → TellsRecords t fs gs false
no_records t fs gs b among fails ms ns h k =
    is_not (λ a. no_says b among fails (λ x c. subst (λ names. Contains names x) (names_are t gs ns k) (a.names x (subst (λ names. Contains names x) (sym (names_are t fs ms h)) c))))

-- each name of the source is one of the destination
pub by_fields : (t : Tables) (fs gs : List RecordField) (b : Bool) → AreAmong b fs gs → b ≡ true → (c : Bool) → TellsFields t fs gs c → TellsRecords t fs gs c
by_fields t fs gs b among holds c told ms ns h k =
    let r = told ms ns h k in
    let names = yes_says b among holds in (
      λ e. record { fields = r.0 e; names = λ x m. subst (λ names. Contains names x) (sym (names_are t gs ns k)) (names x (subst (λ names. Contains names x) (names_are t fs ms h) m)) },
      λ a. r.1 a.fields,
    )
