-- The members of a record or of a tuple, one after another: what is left of them, and that code for what is left completes that
-- for all.
use Rattle.std.proofs.Common.{◌≡◌, ℕ, suc, ◌+◌, ◌<◌, ◌≤◌, Bool, List, [], ◌∷◌, ◌++◌, drop, get_or, Option, Some, None, refl, sym, ap, ◌∙◌, subst, arith, add-one, append_assoc, append-nil}
use Rattle.std.specs.Prelude.{unwrap_or, slice_get}
use Rattle.std.proofs.Math.Seq.{drop-cons}
use Rattle.std.proofs.lemmas.Option.{slice_get-get_or, slice_get_within}
use Rattle.fact_types.specs.declared.abi.CanonicalAbiInfo.{CanonicalAbiInfo}
use Rattle.fact_types.specs.declared.fields.FieldPlace.{FieldPlace}
use Rattle.fact_types.specs.declared.interface.InterfaceType.{InterfaceType}
use Rattle.fact_types.specs.declared.extents.MemoryWidth.{MemoryWidth}
use Rattle.fact_types.specs.declared.extents.MemoryWidth.TheVariants.{Memory32, Memory64}
use Rattle.fact_types.specs.Fields.{Field, field_of, Finds}
use Rattle.fact_types.specs.Fits.{FieldFits}
use Rattle.fact_types.specs.FlatShapes.{AreCounted}
use Rattle.fact_types.specs.Heights.{height}
use Rattle.fact_types.specs.Layout.{extent, aligned}
use Rattle.fact_types.specs.Shapes.{k_record, Shape, s_node, Members, no_members, bare, typed, layout_of, place_of, next_of, ends_of, IsWithin}
use Rattle.fact_types.specs.Signatures.{width}
use Rattle.fact_types.specs.Tables.{Tables, HasShape, HasMembers}
use Rattle.fact_types.proofs.PlaceLaws.{ends_grow, ends_within, sound_in}
use Rattle.fact_types.proofs.ShapeLaws.{same_some, none_some}
use Rattle.fact_wasm.specs.declared.types.ValType.{ValType}
use Rattle.fact_wasm.specs.declared.module.WasmModule.{WasmModule}
use Rattle.fact_values.specs.Canonical.{ThereIs}
use Rattle.fact_actions.specs.Moves.{move_fields}
use Rattle.fact_actions.specs.Running.{ImportPlaces}
use Rattle.fact_actions.specs.Sides.{LiftLowerOptions}
use Rattle.fact_actions.specs.Outlining.{translates, translates_fields}
use Rattle.fact_code_laws.specs.Does.{Locals}
use Rattle.fact_code_laws.specs.Places.{From, To, ToLocals, ToMemory, Stood, to_past}
use Rattle.fact_code_laws.proofs.Keeping.{keeps_all}
use Rattle.fact_code_laws.proofs.Rules.{done}
use Rattle.fact_code_laws.proofs.TypingLaws.{typed_done}
use Rattle.fact_emit.specs.declared.places.Sides.{Sides}
use Rattle.fact_emit.specs.declared.writer.Writer.{Writer}
use Rattle.fact_emit.specs.Asked.{AskedHelper}
use Rattle.fact_emit.specs.Emits.{GrewAsking, Emits, EmitsAsking}
use Rattle.fact_emit.specs.Fitting.{CanWrite, MovesFields}
use Rattle.fact_emit.specs.Movable.{CanMoveMember, CanMoveFields}
use Rattle.fact_emit.specs.Parts.{from_behind, to_behind}
use Rattle.fact_emit.specs.Writers.{taken_in}
use Rattle.fact_emit.proofs.Emitting.{emits_then, emits_nothing, grew_nothing, grew_on}
use Rattle.fact_kinds.specs.declared.members.MemberPair.{MemberPair}
use Rattle.fact_kinds.specs.Asks.{AreAsked, MovesHelped}
use Rattle.fact_kinds.specs.MemberPairs.{Member, members_at, FindsEach, MovedPairs}
use Rattle.fact_kinds.specs.Moved.{MovedMember}
use Rattle.fact_kinds.specs.declared.fuel.Fuel.{Fuel}
use Rattle.fact_kinds.specs.Translations.{TranslatesAs, place_of_target}
use Rattle.fact_kinds.proofs.Asking.{asked_below, asked_both}
use Rattle.fact_kinds.proofs.FieldJoin.{fields_join}
use Rattle.fact_kinds.proofs.Found.{among, flat_is}
use Rattle.fact_kinds.proofs.Translating.{both_translated, nothing_translated, past_place, spot_place, translated_at, translated_with}
use Rattle.fact_kinds.proofs.TranslatedShapes.{fields_are, named_found, no_fields}

-- the member of a place stands in front of those behind it
abbrev pub IsAt : List Member → ℕ → List ℕ → InterfaceType → Type 0
IsAt xs i name y = drop i xs ≡ (name, Some y) ∷ drop (i + 1) xs

pub member_at : (xs : List Member) (i : ℕ) (name : List ℕ) (y : InterfaceType) → slice_get xs i ≡ Some (name, Some y) → IsAt xs i name y
member_at xs i name y h =
    let lt = slice_get_within xs i (name, Some y) h in
    let e : get_or xs i (name, Some y) ≡ (name, Some y) = same_some (slice_get xs i) (get_or xs i (name, Some y)) (name, Some y) (slice_get-get_or xs i (name, Some y) lt) h in
    drop-cons xs i (name, Some y) lt ∙ ap (λ z. z ∷ drop (suc i) xs) e ∙ ap (λ k. (name, Some y) ∷ drop k xs) (sym (add-one i))

-- ---- members that are left

pub record MembersLeft (t : Tables) (xs : List Member) (ns : Members) (i : ℕ) (v : MemoryWidth) (end : ℕ) : Type 0 where
  pub rest : Members
  pub has : HasMembers t (drop i xs) rest
  pub ends : ends_of v ns 0 ≡ ends_of v rest end

-- the first of them
pub record NextMember (t : Tables) (xs : List Member) (i : ℕ) (name : List ℕ) (y : InterfaceType) (rest : Members) : Type 0 where
  pub shape : Shape
  pub more : Members
  pub is : rest ≡ typed name shape more
  pub shaped : HasShape t y shape
  pub has : HasMembers t (drop (i + 1) xs) more

pub open_next : (t : Tables) (xs : List Member) (i : ℕ) (name : List ℕ) (y : InterfaceType) (rest : Members) → HasMembers t ((name, Some y) ∷ drop (i + 1) xs) rest → NextMember t xs i name y rest
open_next t xs i name y no_members h = absurd h
open_next t xs i name y (bare m ns) h = absurd (none_some (Some y) y h.1 refl)
open_next t xs i name y (typed m s ns) h = record {
  shape = s;
  more = ns;
  is = ap (λ m. typed m s ns) (sym h.0);
  shaped = subst (λ y. HasShape t y s) (sym (same_some (Some y) y h.1.0 refl h.1.1)) h.1.2;
  has = h.2;
}

pub next_member : {t : Tables} {xs : List Member} {i : ℕ} {name : List ℕ} {y : InterfaceType} (rest : Members) → IsAt xs i name y → HasMembers t (drop i xs) rest → NextMember t xs i name y rest
next_member {t} {xs} {i} {name} {y} rest at h = open_next t xs i name y rest (subst (λ xs. HasMembers t xs rest) at h)

bound_in : (v : MemoryWidth) (c : CanonicalAbiInfo) → IsWithin c → (extent v c).size ≤ 4294967295
bound_in Memory32 c h = h.memory32
bound_in Memory64 c h = h.memory64

-- a member ends within the record or the tuple
pub next_fits : {t : Tables} {xs : List Member} {ns : Members} {i end : ℕ} {v : MemoryWidth} {name : List ℕ} {y : InterfaceType} (abi : CanonicalAbiInfo) → IsWithin (layout_of (s_node k_record ns)) → (l : MembersLeft t xs ns i v end) → (f : NextMember t xs i name y l.rest) → abi ≡ layout_of f.shape → FieldFits (extent v abi) end
next_fits {ns = ns} {end = end} {v} abi whole l f is =
    subst (λ (abi : CanonicalAbiInfo). FieldFits (extent v abi) end) (sym is) (record {
      power = (sound_in v f.shape).power;
      within = omega (arith, ends_grow v f.more (next_of v f.shape end), ap (λ r. ends_of v r end) f.is, l.ends, ends_within v ns, bound_in v (layout_of (s_node k_record ns)) whole);
    })

-- ---- code that is left

pub record MembersGoOn (asks : List AskedHelper) (sides : Sides) (src : From) (dst spots : To) (first now : Writer) (ms ns rest : Members) (end : ℕ) : Type 0 where
  pub counted : AreCounted rest
  pub movable : CanMoveFields ms rest
  pub still : (i : ℕ) → taken_in now i ≡ taken_in first i
  pub goes_on : (later : List AskedHelper) (last : Writer) → EmitsAsking later now last (MovesFields sides src spots (taken_in first) ms rest end) → EmitsAsking (asks ++ later) first last (MovesFields sides src dst (taken_in first) ms ns 0)

-- where a loop over the members stands, with the spots that are left
pub record MembersRun (t : Tables) (to : InterfaceType) (pairs : List MemberPair) (i end : ℕ) (sides : Sides) (src : From) (dst spots : To) (before between : Fuel) (first now : Writer) : Type 0 where
  pub asks : List AskedHelper
  pub grew : GrewAsking asks first now
  pub asked : AreAsked t sides (height t to) now.sections asks
  pub left : (ns : Members) → HasMembers t (members_at t to) ns → MembersLeft t (members_at t to) ns i (width sides.to.memory64) end
  pub going : (ms ns : Members) (h : HasMembers t (members_at t to) ns) → FindsEach t ms to pairs → AreCounted ms → AreCounted ns → CanMoveFields ms ns → MembersGoOn asks sides src dst spots first now ms ns (left ns h).rest end
  pub place : place_of_target spots ≡ place_of_target dst
  pub translated : (ms ns : Members) (h : HasMembers t (members_at t to) ns) → FindsEach t ms to pairs → AreCounted ms → AreCounted ns → CanMoveFields ms ns → (later : List AskedHelper) (after : Fuel)
      → TranslatesAs t sides src dst between after later (λ i r. translates_fields i r ms (left ns h).rest) → TranslatesAs t sides src dst before after (asks ++ later) (λ i r. translates_fields i r ms ns)

pub members_begin : {t : Tables} {to : InterfaceType} {pairs : List MemberPair} {sides : Sides} {src : From} {dst : To} {first : Writer} {before : Fuel} → MembersRun t to pairs 0 0 sides src dst dst before before first first
members_begin {first = first} = record {
  grew = grew_nothing first;
  asks = [];
  asked = record { each = tt };
  left = λ ns h. record { rest = ns; has = h; ends = refl };
  going = λ ms ns h s c d a. record { counted = d; movable = a; still = λ i. refl; goes_on = λ later last x. x };
  place = refl;
  translated = λ ms ns h s c d a later after x. x;
}

there_is : {A : Type 0} (o : Option A) (P : A → Type 0) → ThereIs o P → (a : A) × (o ≡ Some a) × P a
there_is None P h = absurd h
there_is (Some a) P h = (a, refl, h)

-- A member was moved.
pub member_passed : {t : Tables} {to : InterfaceType} {pairs : List MemberPair} {i end next place count : ℕ} {sides : Sides} {src : From} {dst spots spots' spot : To} {first now then' : Writer} {before between after : Fuel} {abi : CanonicalAbiInfo} {found : Option FieldPlace} (name : List ℕ) (y : InterfaceType)
    → IsAt (members_at t to) i name y → height t y < height t to → ((ms : Members) → FindsEach t ms to pairs → Finds t ms found (field_of name ms))
    → ((s : Shape) → HasShape t y s → abi ≡ layout_of s) → ((s : Shape) → HasShape t y s → count ≡ unwrap_or (layout_of s).flat_count 0)
    → place ≡ aligned end (extent (width sides.to.memory64) abi).align → next ≡ aligned end (extent (width sides.to.memory64) abi).align + (extent (width sides.to.memory64) abi).size
    → spot ≡ to_behind 0 count place spots → spots' ≡ to_past count spots → MovedMember t found y sides src spot between after now then'
    → MembersRun t to pairs i end sides src dst spots before between first now → MembersRun t to pairs (i + 1) next sides src dst spots' before after first then'
member_passed {t} {to} {pairs} {i} {end} {next} {place} {count} {sides} {src} {dst} {spots} {spots'} {spot} {first} {now} {then'} {before} {between} {after} {abi} {found} name y at lower finds laid counts place_is next_is spot_is past_is moved r =
    record { grew = grew_on r.grew moved.grew; asks = r.asks ++ moved.asks; asked = asked_both moved.grew.imports r.asks moved.asks r.asked (asked_below (omega (arith, lower)) moved.asks moved.asked); left = later; going = going; place = ap place_of_target past_is ∙ past_place count spots ∙ r.place; translated = translated }
  where
    v : MemoryWidth
    v = width sides.to.memory64

    opened : (ns : Members) (h : HasMembers t (members_at t to) ns) → NextMember t (members_at t to) i name y (r.left ns h).rest
    opened ns h = next_member (r.left ns h).rest at (r.left ns h).has

    next_at : (u : Shape) → HasShape t y u → next ≡ next_of v u end
    next_at u h = next_is ∙ ap (λ (c : CanonicalAbiInfo). aligned end (extent v c).align + (extent v c).size) (laid u h)

    later : (ns : Members) → HasMembers t (members_at t to) ns → MembersLeft t (members_at t to) ns (i + 1) v next
    later ns h =
        let f = opened ns h in
        record { rest = f.more; has = f.has; ends = (r.left ns h).ends ∙ ap (λ m. ends_of v m end) f.is ∙ ap (ends_of v f.more) (sym (next_at f.shape f.shaped)) }

    going : (ms ns : Members) (h : HasMembers t (members_at t to) ns) → FindsEach t ms to pairs → AreCounted ms → AreCounted ns → CanMoveFields ms ns → MembersGoOn (r.asks ++ moved.asks) sides src dst spots' first then' ms ns (later ns h).rest next
    going ms ns h hs c d a =
        let f = opened ns h in
        let g = r.going ms ns h hs c d a in
        let counted = subst AreCounted f.is g.counted in
        let movable = subst (CanMoveFields ms) f.is g.movable in
        let (k, field_is, can) = there_is (field_of name ms) (λ (k : Field). CanMoveMember k.shape f.shape) movable.0 in
        let m = moved.emits ms k f.shape (subst (Finds t ms found) field_is (finds ms hs)) f.shaped c ((among Memory32 name ms 0 0 0 k field_is).counted c) counted.0 can in
        let used : taken_in now ≡ taken_in first = λ j. λ x. (g.still x) j in
        let place_at : place ≡ place_of v f.shape end = place_is ∙ ap (λ (c : CanonicalAbiInfo). aligned end (extent v c).align) (laid f.shape f.shaped) in
        record {
          counted = counted.1;
          movable = movable.1;
          still = λ x. m.emits.grew.still x ∙ g.still x;
          goes_on = λ more last rest. subst (λ asks. EmitsAsking asks first last (MovesFields sides src dst (taken_in first) ms ns 0)) (sym (append_assoc r.asks moved.asks more)) (g.goes_on (moved.asks ++ more) last (subst (λ n. EmitsAsking (moved.asks ++ more) now last (MovesFields sides src spots (taken_in first) ms n end)) (sym f.is) (emits_then {P = MovesHelped sides (from_behind m.skip m.count m.bytes src) spot (taken_in first) k.shape f.shape}
              (fields_join {psrc = from_behind m.skip m.count m.bytes src} m.skip m.count m.bytes count place field_is c (refl {a = from_behind m.skip m.count m.bytes src}) spot_is past_is m.skip_is m.count_is m.bytes_is (λ w few. counts f.shape f.shaped ∙ flat_is w f.shape (layout_of f.shape).flat_count refl counted.0 few) place_at (next_at f.shape f.shaped))
              (subst (λ u. EmitsAsking moved.asks now then' (MovesHelped sides (from_behind m.skip m.count m.bytes src) spot u k.shape f.shape)) used m.emits) rest)));
        }

    translated : (ms ns : Members) (h : HasMembers t (members_at t to) ns) → FindsEach t ms to pairs → AreCounted ms → AreCounted ns → CanMoveFields ms ns → (more : List AskedHelper) (last : Fuel)
        → TranslatesAs t sides src dst after last more (λ i r. translates_fields i r ms (later ns h).rest) → TranslatesAs t sides src dst before last ((r.asks ++ moved.asks) ++ more) (λ i r. translates_fields i r ms ns)
    translated ms ns h hs c d a more last x =
        let f = opened ns h in
        let g = r.going ms ns h hs c d a in
        let counted = subst AreCounted f.is g.counted in
        let movable = subst (CanMoveFields ms) f.is g.movable in
        let (k, field_is, can) = there_is (field_of name ms) (λ (k : Field). CanMoveMember k.shape f.shape) movable.0 in
        let one = moved.translated ms k f.shape (subst (Finds t ms found) field_is (finds ms hs)) f.shaped c ((among Memory32 name ms 0 0 0 k field_is).counted c) counted.0 can in
        let here : TranslatesAs t sides src dst between after moved.asks (λ i r. translates i r k.shape f.shape) = translated_at refl (ap place_of_target spot_is ∙ spot_place 0 count place spots ∙ r.place) one in
        let both : TranslatesAs t sides src dst between last (moved.asks ++ more) (λ i r. translates_fields i r ms (typed name f.shape f.more)) =
        translated_with (λ i r n route. fields_are i r ms name k.shape f.shape f.more n (named_found name ms 0 0 0 k field_is)) (both_translated here x) in
        subst (λ asks. TranslatesAs t sides src dst before last asks (λ i r. translates_fields i r ms ns)) (sym (append_assoc r.asks moved.asks more))
        (r.translated ms ns h hs c d a (moved.asks ++ more) last (subst (λ n. TranslatesAs t sides src dst between last (moved.asks ++ more) (λ i r. translates_fields i r ms n)) (sym f.is) both))

pub none_left : (t : Tables) (rest : Members) → HasMembers t [] rest → rest ≡ no_members
none_left t no_members h = refl
none_left t (bare m ns) h = absurd h
none_left t (typed m s ns) h = absurd h

pub nothing_moves : {sides : Sides} {src : From} {dst : To} {taken : ℕ → Bool} {ms : Members} {end : ℕ} (M : WasmModule) (p : ImportPlaces) (locals : List ValType) → MovesFields sides src dst taken ms no_members end M p locals []
unfolding move_fields
nothing_moves {dst = dst} M p locals = record {
  moves = λ a b rooms used using fit. record {
    effect = λ ls s d e st g r. done refl (stood b _ _ dst ls fit.writes, keeps_all);
    typed = typed_done;
  };
}
  where
    stood : (o : LiftLowerOptions) (memory64 : Bool) (bytes : ℕ) (dst : To) (ls : Locals) → CanWrite M p locals o memory64 dst [] bytes → Stood ls dst []
    stood o memory64 bytes (ToLocals []) ls c = tt
    stood o memory64 bytes (ToLocals (s ∷ ss)) ls c = absurd c.room
    stood o memory64 bytes (ToMemory memory base offset) ls c = refl

-- All members were moved.
members_moved : {t : Tables} {to : InterfaceType} {pairs : List MemberPair} {i end : ℕ} {sides : Sides} {src : From} {dst spots : To} {first last : Writer} {before after : Fuel} → drop i (members_at t to) ≡ [] → (r : MembersRun t to pairs i end sides src dst spots before after first last)
    → (ms ns : Members) → FindsEach t ms to pairs → HasMembers t (members_at t to) ns → AreCounted ms → AreCounted ns → CanMoveFields ms ns → EmitsAsking r.asks first last (MovesFields sides src dst (taken_in first) ms ns 0)
members_moved {t} {to} {pairs} {i} {end} {sides} {src} {dst} {spots} {first} {last} none r ms ns hs h c d a =
    let g = r.going ms ns h hs c d a in
    let rest = none_left t (r.left ns h).rest (subst (λ xs. HasMembers t xs (r.left ns h).rest) none (r.left ns h).has) in
    subst (λ asks. EmitsAsking asks first last (MovesFields sides src dst (taken_in first) ms ns 0)) (append-nil r.asks)
    (g.goes_on [] last (subst (λ m. Emits last last (MovesFields sides src spots (taken_in first) ms m end)) (sym rest) (emits_nothing (λ M p locals. nothing_moves M p locals))))

members_translated : {t : Tables} {to : InterfaceType} {pairs : List MemberPair} {i end : ℕ} {sides : Sides} {src : From} {dst spots : To} {first last : Writer} {before after : Fuel} → drop i (members_at t to) ≡ [] → (r : MembersRun t to pairs i end sides src dst spots before after first last)
    → (ms ns : Members) → FindsEach t ms to pairs → HasMembers t (members_at t to) ns → AreCounted ms → AreCounted ns → CanMoveFields ms ns → TranslatesAs t sides src dst before after r.asks (λ i r. translates_fields i r ms ns)
members_translated {t} {sides = sides} {src} {dst} {before = before} {after} none r ms ns hs h c d a =
    let rest = none_left t (r.left ns h).rest (subst (λ xs. HasMembers t xs (r.left ns h).rest) none (r.left ns h).has) in
    subst (λ asks. TranslatesAs t sides src dst before after asks (λ i r. translates_fields i r ms ns)) (append-nil r.asks)
    (r.translated ms ns h hs c d a [] after (subst (λ m. TranslatesAs t sides src dst after after [] (λ i r. translates_fields i r ms m)) (sym rest) (nothing_translated (λ i r n. no_fields i r ms n))))

pub pairs_moved : {t : Tables} {to : InterfaceType} {pairs : List MemberPair} {i end : ℕ} {sides : Sides} {src : From} {dst spots : To} {first last : Writer} {before after : Fuel} → drop i (members_at t to) ≡ [] → MembersRun t to pairs i end sides src dst spots before after first last
    → MovedPairs t to pairs sides src dst before after first last
pairs_moved none r = record {
  grew = r.grew;
  asks = r.asks;
  asked = r.asked;
  emits = λ ms ns found h c d a. members_moved none r ms ns found h c d a;
  translated = λ ms ns found h c d a. members_translated none r ms ns found h c d a;
}
