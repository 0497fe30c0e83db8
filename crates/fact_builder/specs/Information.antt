-- Cited by private clauses alone.
-- What is known of a type, and how it is worked out from what is known of its members.
use Rattle.std.specs.Prelude.{◌≡◌, ℕ, zero, suc, true, false, ◌||◌, List, [], ◌∷◌, ◌+◌, max, min, length, map, replicate, Option, Some, None, option_map, unwrap_or}
use Rattle.fact_types.specs.declared.flats.FlatType.{FlatType}
use Rattle.fact_types.specs.declared.flats.FlatType.TheVariants.{I32}
use Rattle.fact_types.specs.declared.interface.InterfaceType.{InterfaceType}
use Rattle.fact_types.specs.declared.kinds.RecordField.{RecordField}
use Rattle.fact_types.specs.declared.extents.MemoryWidth.{MemoryWidth}
use Rattle.fact_types.specs.declared.extents.MemoryWidth.TheVariants.{Memory32, Memory64}
use Rattle.fact_types.specs.FlatShapes.{pointer, joined, times, flat_plain, flat_types, upto, after_flat, when_upto}
use Rattle.fact_types.specs.Layout.{payloads, flags_size, flags_flat}
use Rattle.fact_types.specs.Shapes.{Kind, k_record, k_variant, k_list, k_tuple, k_map, k_flags, k_enum, k_option, k_result, k_fixed, k_future, k_stream, Shape}
use Rattle.fact_types.specs.Tables.{Tables, Node, node_of, is_plain}
use Rattle.fact_types.specs.Valid.{nesting}
use Rattle.fact_builder.specs.declared.information.TypeInformation.{TypeInformation}
use Rattle.fact_types.specs.Handles.{is_handle, is_borrow, has_handle, has_borrow}
use Rattle.fact_types.specs.PointerPairs.{is_string, has_pointer_pair}

-- What a shape says of a type. Of types that nest deeper than 101, it is 101 that is known.
abbrev pub information_of : Shape → TypeInformation
information_of s = record {
  flat32 = flat_types Memory32 s;
  flat64 = flat_types Memory64 s;
  has_handle = has_handle s;
  has_borrow = has_borrow s;
  has_pointer_pair = has_pointer_pair s;
  nesting = min (nesting s) 101;
}

-- ---- the same, worked out from members

-- A type with these flat types in 32-bit and in 64-bit memories, that holds nothing.
abbrev pub flat_as : (MemoryWidth → Option (List FlatType)) → TypeInformation
flat_as f = record { flat32 = f Memory32; flat64 = f Memory64; has_handle = false; has_borrow = false; has_pointer_pair = false; nesting = 0 }

-- A plain type: it has no members.
abbrev pub plain_information : InterfaceType → TypeInformation
plain_information p = record {
  flat32 = upto 16 (flat_plain Memory32 p);
  flat64 = upto 16 (flat_plain Memory64 p);
  has_handle = is_handle p;
  has_borrow = is_borrow p;
  has_pointer_pair = is_string p;
  nesting = 1;
}

-- No members.
abbrev pub nothing : TypeInformation
nothing = flat_as (λ w. Some [])

-- Members one after another.
abbrev pub followed : TypeInformation → TypeInformation → TypeInformation
followed a b = record {
  flat32 = when_upto 16 (after_flat a.flat32 b.flat32);
  flat64 = when_upto 16 (after_flat a.flat64 b.flat64);
  has_handle = a.has_handle || b.has_handle;
  has_borrow = a.has_borrow || b.has_borrow;
  has_pointer_pair = a.has_pointer_pair || b.has_pointer_pair;
  nesting = max a.nesting b.nesting;
}

abbrev pub product_from : TypeInformation → List TypeInformation → TypeInformation
product_from a [] = a
product_from a (m ∷ ms) = product_from (followed a m) ms

-- Members joined place by place.
abbrev pub joined_flat : Option (List FlatType) → Option (List FlatType) → Option (List FlatType)
joined_flat None b = None
joined_flat (Some a) None = None
joined_flat (Some a) (Some b) = Some (joined a b)

abbrev pub joined_information : TypeInformation → TypeInformation → TypeInformation
joined_information a b = record {
  flat32 = joined_flat a.flat32 b.flat32;
  flat64 = joined_flat a.flat64 b.flat64;
  has_handle = a.has_handle || b.has_handle;
  has_borrow = a.has_borrow || b.has_borrow;
  has_pointer_pair = a.has_pointer_pair || b.has_pointer_pair;
  nesting = max a.nesting b.nesting;
}

-- A member that may have no type.
abbrev pub joined_member : TypeInformation → Option TypeInformation → TypeInformation
joined_member a None = a
joined_member a (Some m) = joined_information a m

abbrev pub sum_from : TypeInformation → List (Option TypeInformation) → TypeInformation
sum_from a [] = a
sum_from a (m ∷ ms) = sum_from (joined_member a m) ms

-- Other flat types in the place of those of the members.
abbrev pub with_flat : (MemoryWidth → Option (List FlatType)) → TypeInformation → TypeInformation
with_flat f a = record { flat32 = f Memory32; flat64 = f Memory64; has_handle = a.has_handle; has_borrow = a.has_borrow; has_pointer_pair = a.has_pointer_pair; nesting = a.nesting }

-- A discriminant and then the payloads.
abbrev pub tagged_flat : Option (List FlatType) → Option (List FlatType)
tagged_flat None = None
tagged_flat (Some xs) = upto 16 (I32 ∷ xs)

abbrev pub tagged : TypeInformation → TypeInformation
tagged a = record { flat32 = tagged_flat a.flat32; flat64 = tagged_flat a.flat64; has_handle = a.has_handle; has_borrow = a.has_borrow; has_pointer_pair = a.has_pointer_pair; nesting = a.nesting }

-- A member so many times.
abbrev pub repeated_flat : ℕ → Option (List FlatType) → Option (List FlatType)
repeated_flat zero a = Some []
repeated_flat (suc n) None = None
repeated_flat (suc n) (Some xs) = upto 16 (times (suc n) xs)

abbrev pub repeated : ℕ → TypeInformation → TypeInformation
repeated n a = record { flat32 = repeated_flat n a.flat32; flat64 = repeated_flat n a.flat64; has_handle = a.has_handle; has_borrow = a.has_borrow; has_pointer_pair = a.has_pointer_pair; nesting = a.nesting }

-- A pointer and a length, in the place of the members.
abbrev pub pointer_pair : MemoryWidth → Option (List FlatType)
pointer_pair w = Some (pointer w ∷ pointer w ∷ [])

abbrev pub as_pointer_pair : TypeInformation → TypeInformation
as_pointer_pair a = record (with_flat pointer_pair a) { has_pointer_pair = true }

-- So many words of 32 bits.
abbrev pub words : ℕ → MemoryWidth → Option (List FlatType)
words n w = upto 16 (replicate n I32)

-- A handle that is no borrow, in the place of the members, which it does not hold.
abbrev pub as_handle : TypeInformation → TypeInformation
as_handle a = record { flat32 = Some (I32 ∷ []); flat64 = Some (I32 ∷ []); has_handle = true; has_borrow = false; has_pointer_pair = false; nesting = a.nesting }

-- A kind of type over what is known of its members, none of those without a type; it nests as deep as they do.
abbrev pub made_of : Kind → List (Option TypeInformation) → TypeInformation
made_of k_record ms = product_from nothing (payloads ms)
made_of k_tuple ms = product_from nothing (payloads ms)
made_of k_variant ms = tagged (sum_from nothing ms)
made_of k_option ms = tagged (sum_from nothing ms)
made_of k_result ms = tagged (sum_from nothing ms)
made_of k_list ms = as_pointer_pair (sum_from nothing ms)
made_of k_map ms = as_pointer_pair (sum_from nothing ms)
made_of k_flags ms = with_flat (words (flags_flat (flags_size (length ms)))) (sum_from nothing ms)
made_of k_enum ms = with_flat (words 1) (sum_from nothing ms)
made_of (k_fixed n) ms = repeated n (product_from nothing (payloads ms))
made_of (k_future table instance) ms = as_handle (sum_from nothing ms)
made_of (k_stream table instance) ms = as_handle (sum_from nothing ms)

-- One deeper, up to 101.
abbrev pub deeper : TypeInformation → TypeInformation
deeper a = record a { nesting = min (1 + a.nesting) 101 }

abbrev pub information_by : Kind → List (Option TypeInformation) → TypeInformation
information_by k ms = deeper (made_of k ms)

-- ---- what is kept beside the tables

-- What is known of a type: what is kept of it, and of a plain type what it tells alone.
abbrev pub known : (InterfaceType → Option TypeInformation) → InterfaceType → TypeInformation
known kept ty = unwrap_or (kept ty) (plain_information ty)

-- What is known of a field, and of a payload.
abbrev pub known_field : (InterfaceType → Option TypeInformation) → RecordField → TypeInformation
known_field kept f = known kept f.ty

abbrev pub known_payload : (InterfaceType → Option TypeInformation) → Option InterfaceType → Option TypeInformation
known_payload kept o = option_map (known kept) o

-- What is known of the members of an entry.
abbrev pub known_members : (InterfaceType → Option TypeInformation) → Node → List (Option TypeInformation)
known_members kept n = map (λ m. option_map (known kept) m.1) n.members

-- Of each entry it is kept what its members make of it, and nothing of plain types.
pub record AllKept (t : Tables) (kept : InterfaceType → Option TypeInformation) : Type 0 where
  pub entries : (ty : InterfaceType) (n : Node) → node_of t ty ≡ Some n → kept ty ≡ Some (information_by n.kind (known_members kept n))
  pub others : (ty : InterfaceType) → is_plain ty ≡ true → kept ty ≡ None
