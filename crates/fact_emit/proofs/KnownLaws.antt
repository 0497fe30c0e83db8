-- Imports are known by their roles, whatever is imported behind them.
use Rattle.std.proofs.Common.{◌≡◌, ℕ, List, [], ◌∷◌, ◌++◌, Contains, Option, Some, None, refl, sym, ap, subst, length, append_assoc, append-nil, slice_get, inl, inr, arith}
use Rattle.std.proofs.lemmas.List.Elements.{Contains-push}
use Rattle.fact_wasm.specs.declared.types.FuncType.{FuncType}
use Rattle.fact_wasm.specs.declared.module.ImportType.TheVariants as import
use Rattle.fact_wasm.specs.declared.module.WasmImport.{WasmImport}
use Rattle.fact_types.specs.declared.outside.CoreDef.{CoreDef}
use Rattle.fact_types.specs.declared.import.Import.{Import}
use Rattle.fact_types.specs.declared.import.Import.TheVariants as known
use Rattle.fact_emit.specs.ImportSection.{AreNamed, IsNamed, IsNamedIfTranscoder, Mention, Role, StandsFor, imports_of}
use Rattle.fact_emit.specs.Imports.{Extended}
use Rattle.fact_emit.specs.declared.imported.RuntimeFunction.{RuntimeFunction}
use Rattle.fact_emit.specs.declared.transcoders.Transcoder.{Transcoder}
use Rattle.fact_emit.specs.Known.{AreKnown, AreImportedAt}
use Rattle.fact_emit.specs.DefImports.{HasTypeIfAny, IsDefImported, type_of_role}
use Rattle.fact_emit.specs.Runtime.{name_of_runtime, origin_of_runtime}
use Rattle.fact_emit.specs.States.{HasType, IsImported, IsRuntimeImported, IsTranscoderImported, ModuleSoFar, import_as, memories_of, nothing_so_far}
use Rattle.fact_emit.proofs.ImportLaws.{extended_none, extended_on, grows_none}
use Rattle.fact_emit.proofs.RuntimeNamed.{runtime-named}
use Rattle.fact_emit.proofs.Named.{named-lengths, named-more, named-push, sort_for, stands-sort}
use Rattle.fact_emit.proofs.StateLaws.{extended-by}
use Rattle.fact_emit.proofs.TranscodersNamed.{runtime-as, transcoder-as, transcoders-push, transcoders-typed}

-- ---- what keeps them known

pub known_nothing : AreKnown nothing_so_far []
known_nothing = record { named = tt; transcoders = record { each = λ k w i at is_at. absurd (cc) } }

module _ {old new : ModuleSoFar} {ms : List Mention} where
  -- a type that comes
  pub known_type : (ty : FuncType) → HasType old new ty → AreKnown old ms → AreKnown new ms
  known_type ty (inl there) h = subst (λ s. AreKnown s ms) (sym there) h
  known_type ty (inr anew) h =
      subst (λ s. AreKnown s ms) (sym anew.1)
      (record {
        named = subst (λ ns. AreNamed (old.types ++ ty ∷ []) ns [] old.section old.imports) (append-nil ms) (named-more old.types (ty ∷ []) ms [] [] old.section old.imports h.named);
        transcoders = transcoders-typed old.types (ty ∷ []) old.section old.imports h.transcoders;
      })

  -- an import that has the names and the type of what it is
  known_import : {w : WasmImport} {i : Import} {place : ℕ} → IsImported old new w i place → IsNamed old.types ms old.section w i → IsNamedIfTranscoder old.types old.section (memories_of old) w i → AreKnown old ms → AreKnown new ms
  known_import {w} {i} x n m h =
      elim x.step [
        | inl there ↦ subst (λ s. AreKnown s ms) (sym there.0) h
        | inr anew ↦ subst (λ s. AreKnown s ms) (sym anew.0) (record {
          named = named-push old.types ms [] old.section old.imports w i h.named n;
          transcoders = transcoders-push old.types old.section old.imports w i (named-lengths old.types ms [] old.section old.imports h.named) h.transcoders m;
        })
      ]

known_type_if_any : (old new : ModuleSoFar) {ms : List Mention} (o : Option FuncType) → HasTypeIfAny old new o → AreKnown old ms → AreKnown new ms
known_type_if_any old new {ms} None there h = subst (λ s. AreKnown s ms) (sym there) h
known_type_if_any old new (Some ty) has h = known_type ty has h

-- more mentions
known_more : (s : ModuleSoFar) (ms ns : List Mention) → AreKnown s ms → AreKnown s (ms ++ ns)
known_more s ms ns h = record { named = subst (λ ts. AreNamed ts (ms ++ ns) [] s.section s.imports) (append-nil s.types) (named-more s.types [] ms ns [] s.section s.imports h.named); transcoders = h.transcoders }

-- mentions that are among these
pub known_within : (s : ModuleSoFar) (ms ns : List Mention) → ((m : Mention) → Contains ms m → Contains ns m) → AreKnown s ms → AreKnown s ns
known_within s ms ns within h = record { named = go [] s.section s.imports h.named; transcoders = h.transcoders }
  where
    one : (before : List WasmImport) (w : WasmImport) (i : Import) → IsNamed s.types ms before w i → IsNamed s.types ns before w i
    one before w (known.CoreDef d) n = (n.0, within _ n.1, n.2)
    one before w (known.Trap t) n = n
    one before w known.ResourceTransferOwn n = n
    one before w known.ResourceTransferBorrow n = n
    one before w known.FutureTransfer n = n
    one before w known.StreamTransfer n = n
    one before w known.ErrorContextTransfer n = n
    one before w known.EnterSyncCall n = n
    one before w known.ExitSyncCall n = n
    one before w (known.UnsafeIntrinsic s) n = n
    one before w (known.Transcode a b c d e) n = n
    one before w (known.PrepareCall a) n = n
    one before w (known.StartCall a b) n = n

    go : (before ws : List WasmImport) (is : List Import) → AreNamed s.types ms before ws is → AreNamed s.types ns before ws is
    go before [] [] n = tt
    go before [] (i ∷ is) n = absurd n
    go before (w ∷ ws) [] n = absurd n
    go before (w ∷ ws) (i ∷ is) n = (one before w i n.0, go (before ++ w ∷ []) ws is n.1)

-- a function of the runtime
pub known_runtime : {old new : ModuleSoFar} {ms : List Mention} (f : RuntimeFunction) (place : ℕ) → IsRuntimeImported old new f place → AreKnown old ms → AreKnown new ms
known_runtime {ms = ms} f place x h = known_import x.imported (runtime-named x.typed.types ms x.typed.section (import_as (origin_of_runtime f) (name_of_runtime f) (import.Func x.ty)) f (record { is_from = refl; is_named = refl; is_typed = x.ty_there })) (runtime-as _ _ _ _ f) (known_type _ x.types h)

-- a transcoder
pub known_transcoder : {old new : ModuleSoFar} {ms : List Mention} (t : Transcoder) (place : ℕ) → IsTranscoderImported old new t place → AreKnown old ms → AreKnown new ms
known_transcoder t place x h = known_import x.imported x.ty_there (transcoder-as x) (known_type _ x.types h)

-- only types come with a type
same_section : (old new : ModuleSoFar) (o : Option FuncType) → HasTypeIfAny old new o → new.section ≡ old.section
same_section old new None there = ap (λ (s : ModuleSoFar). s.section) there
same_section old new (Some ty) (inl there) = ap (λ (s : ModuleSoFar). s.section) there
same_section old new (Some ty) (inr anew) = ap (λ (s : ModuleSoFar). s.section) anew.1

-- a definition in the role in which it is mentioned
pub known_def : {old new : ModuleSoFar} {ms : List Mention} (m : Mention) (place : ℕ) → IsDefImported old new m.role m.def place → AreKnown old ms → AreKnown new (ms ++ m ∷ [])
known_def {old} {new} {ms} m place l h =
    let typed : AreKnown l.typed ms = known_type_if_any old l.typed (type_of_role m.role) l.types h in
    let stands : StandsFor l.typed.types l.typed.section m.role l.import = subst (λ ws. StandsFor l.typed.types ws m.role l.import) (sym (same_section old l.typed (type_of_role m.role) l.types)) l.stands in
    known_import l.imported (m.role, Contains-push ms m, stands) tt (known_more l.typed ms (m ∷ []) typed)

pub known_defs : (old new : ModuleSoFar) (ms xs : List Mention) (places : List ℕ) → AreImportedAt old new xs places → AreKnown old ms → AreKnown new (ms ++ xs)
known_defs old new ms [] [] l h = subst (λ s. AreKnown s (ms ++ [])) (sym l) (known_more old ms [] h)
known_defs old new ms (x ∷ xs) (n ∷ ns) l h = subst (AreKnown new) (append_assoc ms (x ∷ []) xs) (known_defs l.0 new (ms ++ x ∷ []) xs ns l.2 (known_def x n l.1 h))
known_defs old new ms [] (n ∷ ns) l h = absurd l
known_defs old new ms (x ∷ xs) [] l h = absurd l

-- ---- the module grows meanwhile

pub extended_type : {old new : ModuleSoFar} (ty : FuncType) → HasType old new ty → Extended old new
extended_type ty (inl there) = extended_none there
extended_type {old} ty (inr anew) = subst (Extended old) (sym anew.1) (record {
  types = record { more = ty ∷ []; is = refl };
  section = grows_none refl;
  imports = grows_none refl;
  functions = grows_none refl;
  memories = grows_none refl;
  globals = grows_none refl;
  helpers = grows_none refl;
  numbered = omega arith;
})

extended_type_if_any : (old new : ModuleSoFar) (o : Option FuncType) → HasTypeIfAny old new o → Extended old new
extended_type_if_any old new None there = extended_none there
extended_type_if_any old new (Some ty) has = extended_type ty has

extended_import : {old new : ModuleSoFar} {w : WasmImport} {i : Import} {place : ℕ} → length old.section ≡ length old.imports → IsImported old new w i place → Extended old new
extended_import {old} {new} {w} {i} even x =
    elim x.step [
      | inl there ↦ extended_none there.0
      | inr anew ↦ subst (Extended old) (sym anew.0) (extended-by old even w i)
    ]

pub extended_def : {old new : ModuleSoFar} {ms : List Mention} {role : Role} {d : CoreDef} {place : ℕ} → AreKnown old ms → IsDefImported old new role d place → Extended old new
extended_def {old} {ms = ms} {role} h l =
    let even = named-lengths l.typed.types ms [] l.typed.section l.typed.imports (known_type_if_any old l.typed (type_of_role role) l.types h).named in
    extended_on (extended_type_if_any old l.typed (type_of_role role) l.types) (extended_import even l.imported)

pub extended_defs : (old new : ModuleSoFar) (ms xs : List Mention) (places : List ℕ) → AreImportedAt old new xs places → AreKnown old ms → Extended old new
extended_defs old new ms [] [] l h = extended_none l
extended_defs old new ms (x ∷ xs) (n ∷ ns) l h = extended_on (extended_def h l.1) (extended_defs l.0 new (ms ++ x ∷ []) xs ns l.2 (known_def x n l.1 h))
extended_defs old new ms [] (n ∷ ns) l h = absurd l
extended_defs old new ms (x ∷ xs) [] l h = absurd l

-- imports one after another
pub imports_on : (a b c : ModuleSoFar) (xs ys : List Mention) (ns ms : List ℕ) → AreImportedAt a b xs ns → AreImportedAt b c ys ms → AreImportedAt a c (xs ++ ys) (ns ++ ms)
imports_on a b c [] ys [] ms l k = subst (λ s. AreImportedAt s c ys ms) l k
imports_on a b c (x ∷ xs) ys (n ∷ ns) ms l k = (l.0, l.1, imports_on l.0 b c xs ys ns ms l.2 k)
imports_on a b c [] ys (n ∷ ns) ms l k = absurd l
imports_on a b c (x ∷ xs) ys [] ms l k = absurd l

-- a definition has its place among the imports of its kind
pub imported_at : {old new : ModuleSoFar} {d : CoreDef} {place : ℕ} (role : Role) → IsDefImported old new role d place → slice_get (imports_of (sort_for role) new.section new.imports) place ≡ Some (known.CoreDef d)
imported_at {old} {new} {d} {place} role l = subst (λ q. slice_get (imports_of q new.section new.imports) place ≡ Some (known.CoreDef d)) (stands-sort l.typed.types old.section role l.import l.stands) l.imported.there
