use Rattle.std.proofs.Common.{◌≡◌, ◌↔◌, Bool, sym, subst}
use Rattle.std.specs.Prelude.{IsTrue}
use Rattle.fact_types.specs.declared.interface.InterfaceType.{InterfaceType}
use Rattle.fact_types.specs.Tables.{Tables, IsLive}
use Rattle.fact_types.proofs.tables.ComponentTypes.is_live.Goals as goal

-- the answer for a type is that for the variant that it is
told : (t u : Tables) (ty v : InterfaceType) (b : Bool) → t ≡ u → ty ≡ v → (IsTrue b ↔ IsLive t v) → (IsTrue b ↔ IsLive u ty)
told t u ty v b same is h = subst (λ u. IsTrue b ↔ IsLive u ty) same (subst (λ ty. IsTrue b ↔ IsLive t ty) (sym is) h)

pub returns-in-Record : goal.returns-in-Record
returns-in-Record c = told _ c.args.self.now c.args.ty _ c.is_key.result c.self.view_is c.in-Record.is c.is_key.ensures

pub returns-in-Variant : goal.returns-in-Variant
returns-in-Variant c = told _ c.args.self.now c.args.ty _ c.is_key-in-Variant.result c.self.view_is c.in-Variant.is c.is_key-in-Variant.ensures

pub returns-in-List : goal.returns-in-List
returns-in-List c = told _ c.args.self.now c.args.ty _ c.is_key-in-List.result c.self.view_is c.in-List.is c.is_key-in-List.ensures

pub returns-in-Tuple : goal.returns-in-Tuple
returns-in-Tuple c = told _ c.args.self.now c.args.ty _ c.is_key-in-Tuple.result c.self.view_is c.in-Tuple.is c.is_key-in-Tuple.ensures

pub returns-in-Map : goal.returns-in-Map
returns-in-Map c = told _ c.args.self.now c.args.ty _ c.is_key-in-Map.result c.self.view_is c.in-Map.is c.is_key-in-Map.ensures

pub returns-in-Flags : goal.returns-in-Flags
returns-in-Flags c = told _ c.args.self.now c.args.ty _ c.is_key-in-Flags.result c.self.view_is c.in-Flags.is c.is_key-in-Flags.ensures

pub returns-in-Enum : goal.returns-in-Enum
returns-in-Enum c = told _ c.args.self.now c.args.ty _ c.is_key-in-Enum.result c.self.view_is c.in-Enum.is c.is_key-in-Enum.ensures

pub returns-in-Option : goal.returns-in-Option
returns-in-Option c = told _ c.args.self.now c.args.ty _ c.is_key-in-Option.result c.self.view_is c.in-Option.is c.is_key-in-Option.ensures

pub returns-in-Result : goal.returns-in-Result
returns-in-Result c = told _ c.args.self.now c.args.ty _ c.is_key-in-Result.result c.self.view_is c.in-Result.is c.is_key-in-Result.ensures

pub returns-in-Future : goal.returns-in-Future
returns-in-Future c = told _ c.args.self.now c.args.ty _ c.is_key-in-Future.result c.self.view_is c.in-Future.is c.is_key-in-Future.ensures

pub returns-in-Stream : goal.returns-in-Stream
returns-in-Stream c = told _ c.args.self.now c.args.ty _ c.is_key-in-Stream.result c.self.view_is c.in-Stream.is c.is_key-in-Stream.ensures

pub returns-in-ErrorContext : goal.returns-in-ErrorContext
returns-in-ErrorContext c = told _ c.args.self.now c.args.ty _ c.is_key-in-ErrorContext.result c.self.view_is c.in-ErrorContext.is c.is_key-in-ErrorContext.ensures

pub returns-in-FixedLengthList : goal.returns-in-FixedLengthList
returns-in-FixedLengthList c = told _ c.args.self.now c.args.ty _ c.is_key-in-FixedLengthList.result c.self.view_is c.in-FixedLengthList.is c.is_key-in-FixedLengthList.ensures
