-- The types that handles are values of, and their moves.
use Rattle.std.proofs.Common.{◌≡◌, ℕ, [], ◌∷◌, Option, Some, None, refl, sym, ap, ◌∙◌, subst, true}
use Rattle.fact_types.specs.declared.flats.FlatType.TheVariants as flat_type
use Rattle.fact_types.specs.declared.interface.InterfaceType.{InterfaceType}
use Rattle.fact_types.specs.declared.interface.InterfaceType.TheVariants as ty
use Rattle.fact_types.specs.declared.extents.MemoryWidth.{MemoryWidth}
use Rattle.fact_types.specs.FlatShapes.{flat}
use Rattle.fact_types.specs.Shapes.{Shape, s_plain, s_node, k_future, k_stream, Members}
use Rattle.fact_types.specs.Tables.{Tables, HasShape}
use Rattle.fact_types.proofs.ShapeLaws.{same_some, none_some}
use Rattle.fact_actions.specs.Sides.{Source, Target, Transfer}
use Rattle.fact_code_laws.specs.Places.{From, To, N32, transfer}
use Rattle.fact_emit.specs.declared.handles.HandleTransfer.{HandleTransfer}
use Rattle.fact_emit.specs.declared.imported.RuntimeFunction.TheVariants as runtime
use Rattle.fact_emit.specs.declared.places.Sides.{Sides}
use Rattle.fact_emit.specs.declared.writer.Writer.{Writer}
use Rattle.fact_emit.specs.Emits.{Emits}
use Rattle.fact_emit.specs.Fitting.{node_moves}
use Rattle.fact_emit.specs.Handles.{handle_moves, handle_transfer, transfer_by}
use Rattle.fact_emit.specs.Movable.{CanTransfer}
use Rattle.fact_emit.specs.MovesValue.{MovesValue}
use Rattle.fact_emit.specs.Numbers.{FitsUnchecked}
use Rattle.fact_emit.specs.Writers.{taken_in}
use Rattle.fact_emit.proofs.Emitting.{emits_as}
use Rattle.fact_emit.proofs.ScalarMoves.{fits_one, moves_as}
use Rattle.fact_kinds.specs.Kinds.{is_leaf}
use Rattle.fact_kinds.specs.Moved.{MovedNode}
use Rattle.fact_kinds.specs.declared.fuel.Fuel.{Fuel}
use Rattle.fact_kinds.proofs.TypeKinds.{future_kind, future_type, plain_only, stream_kind, stream_type}
use Rattle.fact_kinds.proofs.TranslatedShapes.{leaf_translated}

-- Values of two shapes are handles that are taken over so.
record AreHandles (s u : Shape) (h : HandleTransfer) : Type 0 where
  flat_s : (w : MemoryWidth) → flat w s ≡ flat_type.I32 ∷ []
  flat_u : (w : MemoryWidth) → flat w u ≡ flat_type.I32 ∷ []
  same : (tr : Transfer) (src : Source) (dst : Target) → handle_moves h tr src dst ≡ node_moves s u tr src dst

module _ (t : Tables) (s u : Shape) (h : HandleTransfer) where
  -- by what their shapes are, and their transfer
  are_so : (s' u' : Shape) (h' : HandleTransfer) → s ≡ s' → u ≡ u' → h' ≡ h → AreHandles s' u' h' → AreHandles s u h
  are_so s' u' h' is_s is_u is_h x = subst (AreHandles s u) is_h (subst (λ s. AreHandles s u h') (sym is_s) (subst (λ u. AreHandles s' u h') (sym is_u) x))

  are_handles : (from to : InterfaceType) → handle_transfer from to ≡ Some h → HasShape t from s → HasShape t to u → AreHandles s u h
  are_handles (ty.Own i) (ty.Own j) e hs hu =
      are_so (s_plain (ty.Own i)) (s_plain (ty.Own j)) (transfer_by runtime.ResourceTransferOwn i.number j.number) (plain_only t (ty.Own i) refl s hs) (plain_only t (ty.Own j) refl u hu) (same_some _ _ h refl e)
      (record { flat_s = λ w. refl; flat_u = λ w. refl; same = λ tr src dst. refl })
  are_handles (ty.Borrow i) (ty.Borrow j) e hs hu =
      are_so (s_plain (ty.Borrow i)) (s_plain (ty.Borrow j)) (transfer_by runtime.ResourceTransferBorrow i.number j.number) (plain_only t (ty.Borrow i) refl s hs) (plain_only t (ty.Borrow j) refl u hu) (same_some _ _ h refl e)
      (record { flat_s = λ w. refl; flat_u = λ w. refl; same = λ tr src dst. refl })
  are_handles (ty.ErrorContext i) (ty.ErrorContext j) e hs hu =
      are_so (s_plain (ty.ErrorContext i)) (s_plain (ty.ErrorContext j)) (transfer_by runtime.ErrorContextTransfer i.number j.number) (plain_only t (ty.ErrorContext i) refl s hs) (plain_only t (ty.ErrorContext j) refl u hu) (same_some _ _ h refl e)
      (record { flat_s = λ w. refl; flat_u = λ w. refl; same = λ tr src dst. refl })
  are_handles (ty.Future i) (ty.Future j) e hs hu =
      let (m, ms, is_s) = future_kind t i s hs in
      let (n, ns, is_u) = future_kind t j u hu in
      are_so (s_node (k_future i.number m) ms) (s_node (k_future j.number n) ns) (transfer_by runtime.FutureTransfer i.number j.number) is_s is_u (same_some _ _ h refl e) (record { flat_s = λ w. refl; flat_u = λ w. refl; same = λ tr src dst. refl })
  are_handles (ty.Stream i) (ty.Stream j) e hs hu =
      let (m, ms, is_s) = stream_kind t i s hs in
      let (n, ns, is_u) = stream_kind t j u hu in
      are_so (s_node (k_stream i.number m) ms) (s_node (k_stream j.number n) ns) (transfer_by runtime.StreamTransfer i.number j.number) is_s is_u (same_some _ _ h refl e) (record { flat_s = λ w. refl; flat_u = λ w. refl; same = λ tr src dst. refl })
  are_handles _ _ e hs hu = cc

-- a handle has no members
handle_leaf : (t : Tables) (s : Shape) (h : HandleTransfer) (from to : InterfaceType) → handle_transfer from to ≡ Some h → HasShape t from s → is_leaf s ≡ true
handle_leaf t s h (ty.Own i) (ty.Own j) e hs = ap is_leaf (plain_only t (ty.Own i) refl s hs)
handle_leaf t s h (ty.Borrow i) (ty.Borrow j) e hs = ap is_leaf (plain_only t (ty.Borrow i) refl s hs)
handle_leaf t s h (ty.ErrorContext i) (ty.ErrorContext j) e hs = ap is_leaf (plain_only t (ty.ErrorContext i) refl s hs)
handle_leaf t s h (ty.Future i) (ty.Future j) e hs = let (m, ms, is_s) = future_kind t i s hs in ap is_leaf is_s
handle_leaf t s h (ty.Stream i) (ty.Stream j) e hs = let (m, ms, is_s) = stream_kind t i s hs in ap is_leaf is_s
handle_leaf t s h _ _ e hs = cc

-- A handle is moved, whatever the shapes of its types are.
pub handle_moved : {t : Tables} {from to : InterfaceType} {sides : Sides} {src : From} {dst : To} {a b : Writer} {before : Fuel} {o : Option HandleTransfer} (h : HandleTransfer) → o ≡ handle_transfer from to → o ≡ Some h
    → Emits a b (MovesValue sides src dst (taken_in a) 516 (FitsUnchecked N32 src dst) (handle_moves h)) → MovedNode t from to sides src dst before before a b
handle_moved {t} {from} {to} {sides} {src} {dst} h is is_h x = record {
  grew = x.grew;
  asks = [];
  asked = record { each = tt };
  emits = λ s u hs hu cs cu can.
      let are = are_handles t s u h from to (sym is ∙ is_h) hs hu in
      emits_as (λ M p locals code m. moves_as (λ S f. fits_one sides S flat_type.I32 N32 (λ v m. m) are.flat_s are.flat_u f) (λ S s' d'. are.same (transfer S) s' d') m) x;
  translated = λ s u hs hu cs cu can. leaf_translated s u (handle_leaf t s h from to (sym is ∙ is_h) hs);
}

-- where types are no handles of one kind, their values are none
pub no_transfer : (a b : InterfaceType) → handle_transfer a b ≡ None → CanTransfer a b → ⊥
no_transfer (ty.Own i) (ty.Own j) e c = cc
no_transfer (ty.Borrow i) (ty.Borrow j) e c = cc
no_transfer (ty.ErrorContext i) (ty.ErrorContext j) e c = cc
no_transfer _ _ e c = c

-- futures and streams alone have shapes of theirs
pub no_future : (t : Tables) (a b : InterfaceType) (ms ns : Members) {m n m' n' : ℕ} → handle_transfer a b ≡ None → HasShape t a (s_node (k_future m n) ms) → HasShape t b (s_node (k_future m' n') ns) → ⊥
no_future t a b ms ns e ha hb = let (i, is) = future_type t a ms ha in let (j, js) = future_type t b ns hb in none_some (handle_transfer (ty.Future i) (ty.Future j)) _ (ap (λ a. handle_transfer a (ty.Future j)) (sym is) ∙ ap (handle_transfer a) (sym js) ∙ e) refl

pub no_stream : (t : Tables) (a b : InterfaceType) (ms ns : Members) {m n m' n' : ℕ} → handle_transfer a b ≡ None → HasShape t a (s_node (k_stream m n) ms) → HasShape t b (s_node (k_stream m' n') ns) → ⊥
no_stream t a b ms ns e ha hb = let (i, is) = stream_type t a ms ha in let (j, js) = stream_type t b ns hb in none_some (handle_transfer (ty.Stream i) (ty.Stream j)) _ (ap (λ a. handle_transfer a (ty.Stream j)) (sym is) ∙ ap (handle_transfer a) (sym js) ∙ e) refl
