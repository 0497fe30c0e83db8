-- What texts and records say stays so as more texts come behind.
use Rattle.std.proofs.Common.{◌≡◌, ℕ, ◌+◌, ◌<◌, List, [], ◌∷◌, ◌++◌, Option, Some, None, sym, ◌∙◌, ap, subst, length, take, get_or, append_assoc}
use Rattle.std.proofs.lemmas.List.{take_more}
use Rattle.std.specs.List.{AllZip}
use Rattle.fact_types.specs.declared.outside.CoreDef.{CoreDef}
use Rattle.fact_types.specs.declared.outside.CoreDef.TheVariants as def
use Rattle.fact_types.specs.declared.import.Import.{Import}
use Rattle.fact_types.specs.declared.import.Import.TheVariants as known
use Rattle.fact_wasm.specs.declared.module.WasmImport.{WasmImport}
use Rattle.fact_records.specs.declared.spans.TextSpan.{TextSpan}
use Rattle.fact_records.specs.declared.definitions.Definition.{Definition}
use Rattle.fact_records.specs.declared.records.ImportRecord.{ImportRecord}
use Rattle.fact_records.specs.Texts.{Grows, HasTextAt}
use Rattle.fact_records.specs.Records.{Means, Names, TellsBoth, TellsDef, TellsOptional, width_of}

-- ---- texts

pub grows-by : (old new more : List ℕ) → new ≡ old ++ more → Grows old new
grows-by old new more e = record { more = more; is = e }

pub grows-on : (old mid new : List ℕ) → Grows old mid → Grows mid new → Grows old new
grows-on old mid new a b = record {
  more = a.more ++ b.more;
  is = b.is ∙ ap (λ (t : List ℕ). t ++ b.more) a.is ∙ append_assoc old a.more b.more;
}

pub stands-later : (old new : List ℕ) (place : TextSpan) (other : List ℕ) → Grows old new → HasTextAt old place other → HasTextAt new place other
stands-later old new place other g h = record {
  before = h.before;
  after = h.after ++ g.more;
  is = g.is ∙ ap (λ (t : List ℕ). t ++ g.more) h.is ∙ append_assoc h.before (other ++ h.after) g.more ∙ ap (λ (t : List ℕ). h.before ++ t) (append_assoc other h.after g.more);
  begins = h.begins;
  ends = h.ends;
}

-- ---- definitions and records

pub def-later : (old new : List ℕ) (width : ℕ) (x : CoreDef) (d : Definition) → Grows old new → TellsDef old width x d → TellsDef new width x d
def-later old new width (def.Export i name) d g h = record {
  kind = h.kind;
  number = h.number;
  width = h.width;
  name = stands-later old new d.name name g h.name;
}
def-later old new width (def.InstanceFlags i) d g h = h
def-later old new width (def.Trampoline t) d g h = h

pub optional-later : (old new : List ℕ) (x : Option CoreDef) (d : Definition) → Grows old new → TellsOptional old x d → TellsOptional new x d
optional-later old new None d g h = h
optional-later old new (Some x) d g h = def-later old new 0 x d g h

both-later : (old new : List ℕ) (i : Import) (first second : Definition) → Grows old new → TellsBoth old i first second → TellsBoth new i first second
both-later old new (known.CoreDef x) first second g h = (def-later old new 0 x first g h.0, h.1)
both-later old new (known.Transcode how from from64 to to64) first second g h = (def-later old new (width_of from64) from first g h.0, def-later old new (width_of to64) to second g h.1)
both-later old new known.ResourceTransferOwn first second g h = h
both-later old new known.ResourceTransferBorrow first second g h = h
both-later old new (known.PrepareCall memory) first second g h = (optional-later old new memory first g h.0, h.1)
both-later old new (known.StartCall callback post_return) first second g h = (optional-later old new callback first g h.0, optional-later old new post_return second g h.1)
both-later old new known.FutureTransfer first second g h = h
both-later old new known.StreamTransfer first second g h = h
both-later old new known.ErrorContextTransfer first second g h = h
both-later old new (known.Trap t) first second g h = h
both-later old new known.EnterSyncCall first second g h = h
both-later old new known.ExitSyncCall first second g h = h
both-later old new (known.UnsafeIntrinsic i) first second g h = h

pub names-later : (old new : List ℕ) (r : ImportRecord) (w : WasmImport) → Grows old new → Names old r w → Names new r w
names-later old new r w g h = record { origin = stands-later old new r.module w.module g h.origin; own = stands-later old new r.name w.name g h.own }

pub means-later : (old new : List ℕ) (r : ImportRecord) (i : Import) → Grows old new → Means old r i → Means new r i
means-later old new r i g h = record {
  kind = h.kind;
  operation = h.operation;
  both = both-later old new i r.first r.second g h.both;
  line = stands-later old new r.line _ g h.line;
}

-- ---- lists of records

-- one more at the end of both lists
all-end : {A B : Type 0} (R : A → B → Type 0) (xs : List A) (ys : List B) (x : A) (y : B) → AllZip R xs ys → R x y → AllZip R (xs ++ x ∷ []) (ys ++ y ∷ [])
all-end R [] [] x y a h = (h, tt)
all-end R [] (z ∷ ys) x y a h = absurd a
all-end R (z ∷ xs) [] x y a h = absurd a
all-end R (z ∷ xs) (w ∷ ys) x y a h = (a.0, all-end R xs ys x y a.1 h)

-- what holds of each pair makes another hold of each
all-then : {A B : Type 0} (R S : A → B → Type 0) (xs : List A) (ys : List B) → ((x : A) (y : B) → R x y → S x y) → AllZip R xs ys → AllZip S xs ys
all-then R S [] [] f a = tt
all-then R S [] (y ∷ ys) f a = absurd a
all-then R S (x ∷ xs) [] f a = absurd a
all-then R S (x ∷ xs) (y ∷ ys) f a = (f x y a.0, all-then R S xs ys f a.1)

-- one more record, of the next of the others
next : {B : Type 0} (R S : ImportRecord → B → Type 0) (rs rs' : List ImportRecord) (ys : List B) (k : ℕ) (r : ImportRecord) (y : B) → ((x : ImportRecord) (z : B) → R x z → S x z)
    → AllZip R rs (take k ys) → S r y → rs' ≡ rs ++ r ∷ [] → y ≡ get_or ys k y → k < length ys → AllZip S rs' (take (k + 1) ys)
next {B = B} R S rs rs' ys k r y f a h e at within =
    let taken : take (k + 1) ys ≡ take k ys ++ y ∷ [] = take_more ys k y within ∙ ap (λ (z : B). take k ys ++ z ∷ []) (sym at) in
    subst (λ (us : List ImportRecord). AllZip S us (take (k + 1) ys)) (sym e)
    (subst (λ (us : List B). AllZip S (rs ++ r ∷ []) us) (sym taken) (all-end S rs (take k ys) r y (all-then R S rs (take k ys) f a) h))

pub next-names : (old new : List ℕ) (rs rs' : List ImportRecord) (ws : List WasmImport) (k : ℕ) (r : ImportRecord) (w : WasmImport) → Grows old new
    → AllZip (Names old) rs (take k ws) → Names new r w → rs' ≡ rs ++ r ∷ [] → w ≡ get_or ws k w → k < length ws → AllZip (Names new) rs' (take (k + 1) ws)
next-names old new rs rs' ws k r w g a h e at within = next (Names old) (Names new) rs rs' ws k r w (λ x y. names-later old new x y g) a h e at within

pub next-means : (old new : List ℕ) (rs rs' : List ImportRecord) (is : List Import) (k : ℕ) (r : ImportRecord) (i : Import) → Grows old new
    → AllZip (Means old) rs (take k is) → Means new r i → rs' ≡ rs ++ r ∷ [] → i ≡ get_or is k i → k < length is → AllZip (Means new) rs' (take (k + 1) is)
next-means old new rs rs' is k r i g a h e at within = next (Means old) (Means new) rs rs' is k r i (λ x y. means-later old new x y g) a h e at within
