-- Registering one list of resources and then another, how far it has come, and one more registration or table.
use Rattle.std.proofs.Common.{◌≡◌, ◌≤◌, ◌<◌, ◌+◌, ℕ, List, [], ◌∷◌, ◌++◌, Some, None, Option, length, take, drop, get_or, refl, sym, ◌∙◌, ap, subst, inl, inr, false}
use Rattle.std.specs.Prelude.{Result, Ok, Err, OnOk, OnErr, IsOk, is_some, nat_eq}
use Rattle.indexmap.specs.IndexMap.{insert_entry}
use Rattle.std.proofs.lemmas.List.{take_all, take_more, take-append-drop}
use Rattle.fact_entity.specs.declared.id.Id.{Id}
use Rattle.fact_entity.specs.declared.table.SourceResources.{SourceResources}
use Rattle.fact_entity.specs.declared.table.TypeResourceTables.{TypeResourceTables}
use Rattle.fact_builder.specs.declared.registration.Registration.{Registration}
use Rattle.fact_builder.specs.Known.{KnownResources, KeepsTables, kept_table, registration, with_table, with_registration}
use Rattle.fact_builder.proofs.TableLaws.{new_entry}
use Rattle.fact_builder.specs.Walk.{ExportPath, RegistersEach, RegistersFirst}

-- those of both lists were registered, where those of the second were behind those of the first
pub registers_more : {F : Type 0} (Step : F → ExportPath → Registration → F → Type 0) (f h g : F) (r m n : KnownResources) (xs ys : List (ExportPath × Id SourceResources)) → RegistersEach Step f r xs h m → RegistersEach Step h m ys g n → RegistersEach Step f r (xs ++ ys) g n
registers_more Step f h g r m n [] ys a b = subst (λ p. RegistersEach Step p r ys g n) a.0 (subst (λ k. RegistersEach Step h k ys g n) a.1 b)
registers_more Step f h g r m n (x ∷ xs) ys (inl (k, a)) b = inl (k, registers_more Step f h g r m n xs ys a b)
registers_more Step f h g r m n (x ∷ xs) ys (inr (q, (k, p, s, a))) b = inr (q, (k, p, s, registers_more Step p h g (with_registration r x.1 k) m n xs ys a b))

-- ---- how far a list of found resources was registered
pub record RegisteredTo {F : Type 0} (Step : F → ExportPath → Registration → F → Type 0) (f : F) (r : KnownResources) (seen : List (ExportPath × Id SourceResources)) (g : F) (n : KnownResources) : Type 0 where
  pub each : RegistersEach Step f r seen g n
  pub rest : KeepsTables r n

pub none_registered : {F : Type 0} (Step : F → ExportPath → Registration → F → Type 0) (f : F) (r : KnownResources) → RegisteredTo Step f r [] f r
none_registered Step f r = record { each = (refl, refl); rest = record { tables = refl; instance = refl } }

pub one_more_registered : {F : Type 0} (Step : F → ExportPath → Registration → F → Type 0) (f h g : F) (r m n : KnownResources) (xs : List (ExportPath × Id SourceResources)) (i : ℕ) (x : ExportPath × Id SourceResources)
    → i < length xs → x ≡ get_or xs i x → RegisteredTo Step f r (take i xs) h m → RegistersEach Step h m (x ∷ []) g n → KeepsTables m n → RegisteredTo Step f r (take (i + 1) xs) g n
one_more_registered Step f h g r m n xs i x l is a b k =
    let there : take (i + 1) xs ≡ take i xs ++ x ∷ [] = take_more xs i x l ∙ ap (λ y. take i xs ++ y ∷ []) (sym is) in record {
      each = subst (λ ys. RegistersEach Step f r ys g n) (sym there) (registers_more Step f h g r m n (take i xs) (x ∷ []) a.each b);
      rest = record { tables = k.tables ∙ a.rest.tables; instance = k.instance ∙ a.rest.instance };
    }

pub all_registered : {F : Type 0} (Step : F → ExportPath → Registration → F → Type 0) (f g : F) (r n : KnownResources) (xs : List (ExportPath × Id SourceResources)) (i : ℕ) → length xs ≤ i → RegisteredTo Step f r (take i xs) g n → RegistersEach Step f r xs g n
all_registered Step f g r n xs i l a = subst (λ ys. RegistersEach Step f r ys g n) (take_all i xs l) a.each

pub first_registered : {F : Type 0} (Step : F → ExportPath → Registration → F → Type 0) (f g : F) (r n : KnownResources) (xs : List (ExportPath × Id SourceResources)) (i : ℕ) → RegisteredTo Step f r (take i xs) g n → RegistersFirst Step f r xs g n
first_registered Step f g r n xs i a = (take i xs, drop i xs, sym (take-append-drop i xs), a.each)

-- the walk ended early at one that was refused, which changed nothing
pub stopped_registered : {F : Type 0} (Step : F → ExportPath → Registration → F → Type 0) (f g h : F) (r n m : KnownResources) (xs : List (ExportPath × Id SourceResources)) (i : ℕ) → RegisteredTo Step f r (take i xs) g n → (h ≡ g) × (m ≡ n) → RegistersFirst Step f r xs h m
stopped_registered Step f g h r n m xs i a e = subst (λ p. RegistersFirst Step f r xs p m) (sym e.0) (subst (λ q. RegistersFirst Step f r xs g q) (sym e.1) (first_registered Step f g r n xs i a))

-- ---- one more registration

pub none_of : {X : Type 0} (o : Option X) → is_some o ≡ false → o ≡ None
none_of None h = refl
none_of (Some x) h = cc

pub on_err : {A E : Type 0} (P : Type 0) (r : Result A E) → P → OnErr r P
on_err P (Ok x) p = tt
on_err P (Err e) p = p

pub on_ok : {A E : Type 0} (P : Type 0) (r : Result A E) → IsOk r → OnOk r P → P
on_ok P (Ok x) h p = p
on_ok P (Err e) h p = cc

pub put_registration : (r v : KnownResources) → r ≡ v → (es : List (Id SourceResources × Registration)) (id : Id SourceResources) (k : Registration) → registration v id ≡ None → es ≡ insert_entry (λ a b. nat_eq a.number b.number) r.registered id k → (record r { registered = es }) ≡ with_registration v id k
put_registration r v w es id k n e =
    let none : registration r id ≡ None = subst (λ (z : KnownResources). registration z id ≡ None) (sym w) n in
    let made : List (Id SourceResources × Registration) → KnownResources = λ xs. record r { registered = xs } in
    subst (λ (z : KnownResources). (record r { registered = es }) ≡ with_registration z id k) w (ap made (e ∙ new_entry (λ a b. nat_eq a.number b.number) r.registered id k none))

pub put_table : (r v : KnownResources) → r ≡ v → (es : List (Id SourceResources × Id TypeResourceTables)) (id : Id SourceResources) (t : Id TypeResourceTables) → kept_table v id ≡ None → es ≡ insert_entry (λ a b. nat_eq a.number b.number) r.tables id t → (record r { tables = es }) ≡ with_table v id t
put_table r v w es id t n e =
    let none : kept_table r id ≡ None = subst (λ (z : KnownResources). kept_table z id ≡ None) (sym w) n in
    let made : List (Id SourceResources × Id TypeResourceTables) → KnownResources = λ xs. record r { tables = xs } in
    subst (λ (z : KnownResources). (record r { tables = es }) ≡ with_table z id t) w (ap made (e ∙ new_entry (λ a b. nat_eq a.number b.number) r.tables id t none))
