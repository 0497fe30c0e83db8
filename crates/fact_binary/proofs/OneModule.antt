-- At most one module in range is spelled by given bytes.
use Rattle.std.proofs.Common.{◌≡◌, ℕ, List, [], ◌∷◌, ◌++◌, length, map, refl, sym, ap, subst, ◌∙◌, append-nil}
use Rattle.std.proofs.lemmas.List.{length-map}
use Rattle.std.specs.List.{flat_map, AllByRecursion}
use Rattle.std.proofs.lemmas.List.Concat.{flat_map-cons}
use Rattle.std.specs.Prelude.{count_by}
use Rattle.fact_wasm.specs.declared.types.FuncType.{FuncType}
use Rattle.fact_wasm.specs.declared.module.WasmImport.{WasmImport}
use Rattle.fact_wasm.specs.declared.module.WasmExport.{WasmExport}
use Rattle.fact_wasm.specs.declared.module.WasmFunc.{WasmFunc}
use Rattle.fact_wasm.specs.declared.module.WasmModule.{WasmModule}
use Rattle.fact_binary.specs.declared.decoder.CodeBody.{CodeBody}
use Rattle.fact_binary.specs.Numbers.{unsigned}
use Rattle.fact_binary.specs.Grammar.{list, IsIndex, function_index}
use Rattle.fact_wasm.specs.Ranges.{InRange, AreBodiesRanged, AreExportsNamed, is_function, imported_functions}
use Rattle.fact_binary.specs.Spelling.{func_type, IsFuncType, import_item, IsImport, export_item, IsExport, HasTypeIndex, code_item, IsCode, function_section, export_section, code_section, header, section, Fits, Spells}
use Rattle.fact_binary.specs.Rebuild.{name_of}
use Rattle.fact_binary.specs.Owned.{IsModuleFront, IsBack, IsOwnExport, IsOwnBody, IsOwnCode, IsOwn, code_of, type_index, body_of}
use Rattle.fact_binary.proofs.Rebuilt.{named-back, body_rebuilt}
use Rattle.fact_binary.proofs.Unique.{index_unique}
use Rattle.fact_binary.proofs.Parts.{split, func_type_unique, import_unique, export_unique, code_unique, section_unique}

-- ---- a module in range is what its spelling stands for

own_exports : (n m : ℕ) (es : List WasmExport) → AreExportsNamed n m es → AllByRecursion (λ e. name_of n (function_index n e.func) ≡ e.func) es
own_exports n m [] p = tt
own_exports n m (e ∷ es) p = (named-back n m e.func p.0, own_exports n m es p.1)

own_bodies : (n m : ℕ) (fs : List WasmFunc) → AreBodiesRanged n m fs → AllByRecursion (λ f. IsOwnBody n f.body) fs
own_bodies n m [] p = tt
own_bodies n m (f ∷ fs) p = (body_rebuilt n m f.body p.0, own_bodies n m fs p.1)

pub own : (m : WasmModule) → InRange m → IsOwn m
own m r = record {
  exports = own_exports (imported_functions m) (length m.funcs) m.exports r.exports;
  bodies = own_bodies (imported_functions m) (length m.funcs) m.funcs r.bodies;
}

-- ---- the parts of functions, section by section

pub exports_fit : (n : ℕ) (es : List WasmExport) → AllByRecursion (IsExport n) es → AllByRecursion (λ e. name_of n (function_index n e.func) ≡ e.func) es → AllByRecursion (IsOwnExport n) es
exports_fit n [] p q = tt
exports_fit n (e ∷ es) p q = ((p.0, q.0), exports_fit n es p.1 q.1)

pub types_fit : (fs : List WasmFunc) → AllByRecursion HasTypeIndex fs → AllByRecursion IsIndex (map type_index fs)
types_fit [] p = tt
types_fit (f ∷ fs) p = (p.0, types_fit fs p.1)

pub bodies_fit : (n : ℕ) (fs : List WasmFunc) → AllByRecursion (IsCode n) fs → AllByRecursion (λ f. IsOwnBody n f.body) fs → AllByRecursion (IsOwnCode n) (map body_of fs)
bodies_fit n [] p q = tt
bodies_fit n (f ∷ fs) p q = ((p.0, q.0), bodies_fit n fs p.1 q.1)

module _ {A B : Type 0} (f : A → List ℕ) (g : B → List ℕ) (key : A → B) (same : (x : A) → f x ≡ g (key x)) where
  flat_map-key : (xs : List A) → flat_map f xs ≡ flat_map g (map key xs)
  flat_map-key [] = refl
  flat_map-key (x ∷ xs) =
      let one = same x in
      let rest = flat_map-key xs in
      let both : f x ++ flat_map f xs ≡ g (key x) ++ flat_map g (map key xs) = cc in
      flat_map-cons f x xs ∙ both ∙ sym (flat_map-cons g (key x) (map key xs))

  list-key : (xs : List A) → list f xs ≡ list g (map key xs)
  list-key xs = rw (length-map xs key) (ap (λ (t : List ℕ). unsigned (length xs) ++ t) (flat_map-key xs))

pub types_list : (m : WasmModule) → function_section m ≡ list unsigned (map type_index m.funcs)
types_list m = list-key (λ f. unsigned f.ty) unsigned type_index (λ x. refl) m.funcs

pub codes_list : (n : ℕ) (fs : List WasmFunc) → list (code_item n) fs ≡ list (code_of n) (map body_of fs)
codes_list n fs = list-key (code_item n) (code_of n) body_of (λ x. refl) fs

pub funcs_same : (fs gs : List WasmFunc) → map type_index fs ≡ map type_index gs → map body_of fs ≡ map body_of gs → fs ≡ gs
funcs_same [] [] p q = refl
funcs_same [] (g ∷ gs) p q = absurd cc
funcs_same (f ∷ fs) [] p q = absurd cc
funcs_same (f ∷ fs) (g ∷ gs) p q =
    let ty : f.ty ≡ g.ty = cc in
    let body : body_of f ≡ body_of g = cc in
    let types : map type_index fs ≡ map type_index gs = cc in
    let bodies : map body_of fs ≡ map body_of gs = cc in
    let rest = funcs_same fs gs types bodies in
    let head : f ≡ g = λ i. record { ty = ty i; locals = (body i).locals; body = (body i).body } in
    cc

-- ---- the sections

pub rest_of : WasmModule → List ℕ
rest_of m = section 0x03 (function_section m) ++ (section 0x07 (export_section m) ++ section 0x0A (code_section m))

pub front_of : (bytes : List ℕ) (m : WasmModule) → Spells bytes m → IsModuleFront bytes m.types m.imports (rest_of m)
unfolding rest_of
front_of bytes m s = record {
  type_bytes = s.fits.type_bytes;
  import_bytes = s.fits.import_bytes;
  types = s.fits.types;
  imports = s.fits.imports;
  spelled = s.bytes_are;
}

pub back_of : (n : ℕ) (m : WasmModule) → n ≡ imported_functions m → IsOwn m → Fits m → IsBack n (rest_of m) (map type_index m.funcs) m.exports (map body_of m.funcs)
unfolding rest_of
back_of n m e o f = rw e (record {
  function_bytes = rw (← types_list m) f.function_bytes;
  export_bytes = f.export_bytes;
  code_bytes = rw (← codes_list (imported_functions m) m.funcs) f.code_bytes;
  functions = (rw (length-map m.funcs type_index) f.functions.0, types_fit m.funcs f.functions.1);
  exports = (f.exports.0, exports_fit (imported_functions m) m.exports f.exports.1 o.exports);
  bodies = (rw (length-map m.funcs body_of) f.bodies.0, bodies_fit (imported_functions m) m.funcs f.bodies.1 o.bodies);
  spelled = rw (← types_list m, ← codes_list (imported_functions m) m.funcs) refl;
})

pub front_unique : (bytes : List ℕ) (ts us : List FuncType) (is js : List WasmImport) (r s : List ℕ) → IsModuleFront bytes ts is r → IsModuleFront bytes us js s → (ts ≡ us) × (is ≡ js) × (r ≡ s)
front_unique bytes ts us is js r s p q =
    let e = split header header (section 0x01 (list func_type ts) ++ (section 0x02 (list import_item is) ++ r)) (section 0x01 (list func_type us) ++ (section 0x02 (list import_item js) ++ s)) refl (sym p.spelled ∙ q.spelled) in
    let t = section_unique func_type IsFuncType func_type_unique 0x01 ts us (section 0x02 (list import_item is) ++ r) (section 0x02 (list import_item js) ++ s) p.type_bytes q.type_bytes p.types q.types e.1 in
    let i = section_unique import_item IsImport import_unique 0x02 is js r s p.import_bytes q.import_bytes p.imports q.imports t.1 in
    (t.0, i.0, i.1)

pub back_unique : (n : ℕ) (bytes : List ℕ) (fs gs : List ℕ) (es xs : List WasmExport) (bs cs : List CodeBody) → IsBack n bytes fs es bs → IsBack n bytes gs xs cs → (fs ≡ gs) × (es ≡ xs) × (bs ≡ cs)
back_unique n bytes fs gs es xs bs cs p q =
    let f = section_unique unsigned IsIndex index_unique 0x03 fs gs (section 0x07 (list (export_item n) es) ++ section 0x0A (list (code_of n) bs)) (section 0x07 (list (export_item n) xs) ++ section 0x0A (list (code_of n) cs)) p.function_bytes q.function_bytes p.functions q.functions (sym p.spelled ∙ q.spelled) in
    let x = section_unique (export_item n) (IsOwnExport n) (export_unique n) 0x07 es xs (section 0x0A (list (code_of n) bs)) (section 0x0A (list (code_of n) cs)) p.export_bytes q.export_bytes p.exports q.exports f.1 in
    let b = section_unique (code_of n) (IsOwnCode n) (code_unique n) 0x0A bs cs [] [] p.code_bytes q.code_bytes p.bodies q.bodies (append-nil (section 0x0A (list (code_of n) bs)) ∙ x.1 ∙ sym (append-nil (section 0x0A (list (code_of n) cs)))) in
    (f.0, x.0, b.0)

-- the parts of a module that was read, back to the module

exports_back : (n : ℕ) (es : List WasmExport) → AllByRecursion (IsOwnExport n) es → AllByRecursion (IsExport n) es × AllByRecursion (λ e. name_of n (function_index n e.func) ≡ e.func) es
exports_back n [] p = (tt, tt)
exports_back n (e ∷ es) p = let rest = exports_back n es p.1 in ((p.0.0, rest.0), (p.0.1, rest.1))

types_back : (fs : List WasmFunc) → AllByRecursion IsIndex (map type_index fs) → AllByRecursion HasTypeIndex fs
types_back [] p = tt
types_back (f ∷ fs) p = (p.0, types_back fs p.1)

bodies_back : (n : ℕ) (fs : List WasmFunc) → AllByRecursion (IsOwnCode n) (map body_of fs) → AllByRecursion (IsCode n) fs × AllByRecursion (λ f. IsOwnBody n f.body) fs
bodies_back n [] p = (tt, tt)
bodies_back n (f ∷ fs) p = let rest = bodies_back n fs p.1 in ((p.0.0, rest.0), (p.0.1, rest.1))

pub module_back : (bytes rest : List ℕ) (n : ℕ) (m : WasmModule) → n ≡ imported_functions m → IsModuleFront bytes m.types m.imports rest → IsBack n rest (map type_index m.funcs) m.exports (map body_of m.funcs) → IsOwn m × Spells bytes m
module_back bytes rest n m e f b = go (subst (λ (k : ℕ). IsBack k rest (map type_index m.funcs) m.exports (map body_of m.funcs)) e b)
  where
    go : IsBack (imported_functions m) rest (map type_index m.funcs) m.exports (map body_of m.funcs) → IsOwn m × Spells bytes m
    go b =
        let xs = exports_back (imported_functions m) m.exports b.exports.1 in
        let bs = bodies_back (imported_functions m) m.funcs b.bodies.1 in (
          record { exports = xs.1; bodies = bs.1 },
          record {
            fits = record {
              type_bytes = f.type_bytes;
              import_bytes = f.import_bytes;
              function_bytes = rw types_list b.function_bytes;
              export_bytes = b.export_bytes;
              code_bytes = rw codes_list b.code_bytes;
              types = f.types;
              imports = f.imports;
              functions = (rw (length-map m.funcs type_index) at b.functions.0, types_back m.funcs b.functions.1);
              exports = (b.exports.0, xs.0);
              bodies = (rw (length-map m.funcs body_of) at b.bodies.0, bs.0);
            };
            bytes_are = f.spelled ∙ rw (types_list m, codes_list (imported_functions m) m.funcs) (ap (λ (r : List ℕ). header ++ (section 0x01 (list func_type m.types) ++ (section 0x02 (list import_item m.imports) ++ r))) b.spelled);
          },
        )

-- ---- the law

pub one_module : (bytes : List ℕ) (m n : WasmModule) → IsOwn m → IsOwn n → Spells bytes m → Spells bytes n → m ≡ n
one_module bytes m n om on sm sn =
    let k = imported_functions m in
    let f = front_unique bytes m.types n.types m.imports n.imports (rest_of m) (rest_of n) (front_of bytes m sm) (front_of bytes n sn) in
    let count : k ≡ imported_functions n = ap (count_by is_function) f.1 in
    let b = back_unique k (rest_of m) (map type_index m.funcs) (map type_index n.funcs) m.exports n.exports (map body_of m.funcs) (map body_of n.funcs) (back_of k m refl om sm.fits) (subst (λ (r : List ℕ). IsBack k r (map type_index n.funcs) n.exports (map body_of n.funcs)) (sym f.2) (back_of k n count on sn.fits)) in
    let funcs = funcs_same m.funcs n.funcs b.0 b.2 in
    λ x. record { types = f.0 x; imports = f.1 x; funcs = funcs x; exports = b.1 x }

pub in_range_one : (bytes : List ℕ) (m n : WasmModule) → InRange m → InRange n → Spells bytes m → Spells bytes n → m ≡ n
in_range_one bytes m n rm rn = one_module bytes m n (own m rm) (own n rn)
