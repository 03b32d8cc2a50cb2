-- A struct whose one field is a pointer: its machine value. Assumes `Logic`.
use Rattle.std.proofs.Common.{◌≡◌, List, [], ◌∷◌, refl, Option, None, Some, is_some, true}
use lib.Dec.{T}
use seplogic.Ra.Ura.{Ura}
use mir.Syntax.{ty_ptr, Sym, ty_struct}
use mir.Val.{Val, WT, has_ty, vcons, vnil, vstruct}
use types.Logic.{Logic}
use denote.RawPtr.{Ptr, ptr_val, rawptr_Lawful}
use denote.Builtin.{RawPtr}
use denote.Laws.{Is}
use denote.RattleType.{RattleType}
use denote.Steps.{owned}
use denote.Struct.Struct.{Shape, Struct, Struct-Makes, as_fields, to_tys}
use types.Kit.{Goal, Item, Step, ‵}

abbrev pub pointer_val : Ptr → Val
pointer_val at = vstruct (vcons (ptr_val at) vnil)

module _ {M : Type 1} {𝓤 : Ura M} (𝓛 : Logic 𝓤) (at : Ptr) where
  -- the pointer has its type, and so has the struct
  pub pointer_fits : T (has_ty ty_ptr (ptr_val at)) × WT (ptr_val at)
  pointer_fits = ((rawptr_Lawful 𝓛).typed at (ptr_val at ∷ []) refl).0

  pub struct_fits : (name : Sym) → T (has_ty (ty_struct name (to_tys (ty_ptr ∷ []))) (pointer_val at)) × WT (pointer_val at)
  struct_fits name = as_fields (ty_ptr ∷ []) (ptr_val at ∷ []) (pointer_fits, tt)

-- a struct of this name
abbrev pub shape_of : Sym → List RattleType → Shape
shape_of name types = record { name = name; args = []; types = types; fields = RawPtr ∷ [] }

module _ {M : Type 1} {𝓤 : Ura M} {𝓛 : Logic 𝓤} {K : Type 0} {Γ : List (Item 𝓤)} {G : Goal 𝓤 𝓛.H} where
  -- the field itself owns nothing
  pub pointer_in : K → (name : Sym) (types : List RattleType) (at : Ptr)
      → Step K 𝓛 (‵ ((Struct (shape_of name types)).own_val (at, tt) (pointer_val at ∷ [])) ∷ Γ) G Γ G
  pointer_in t name types at =
      let S = shape_of name types in
      owned t (Struct S) (Is (Struct S)) (Struct-Makes 𝓛 S ((λ p vs. tt), tt)) (at, tt) (pointer_val at ∷ []) ((ptr_val at ∷ [], tt), (refl, (refl, tt)))

pub value_of : {X : Type 0} (value : Option X) → is_some value ≡ true → (x : X) × (value ≡ Some x)
value_of None some = cc
value_of (Some x) some = (x, refl)
