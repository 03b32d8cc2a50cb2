-- A shared `Refusing` as its two fields: the inner allocator, and the cell with the number of growths. Assumes `Logic`.
use Rattle.std.proofs.Common.{Bor, false, List, [], refl, ◌∷◌, ℕ, ◌+◌, ◌<◌, ◌^◌, w64}
use Rattle.std.proofs.alloc.Calls.{Al, Answer, Answer-typed, answer_val, seen, α}
use base.Fml.{Lft, Fml, fsep, ftrue}
use base.Logic.{emp, ent, sep}
use denote.Builtin.{RefOf, unit, usize}
use denote.Memory.{hidden_shr}
use denote.Opens.{unhide}
use denote.Param.{bounded, layout, param}
use denote.RattleType.{RattleType}
use denote.Ref.{shr_vals}
use denote.Signature.{Slot, plain, type_at}
use denote.Plain.{uint_vals}
use lib.Dec.{T}
use mir.Val.{Val, WT, has_ty, vint, vunit}
use mir.Syntax.{Args, Opd as Operand, a_type, ty_int, dcons, dnil}
use prog.Memory.{align, size, up}
use seplogic.Ra.Ura.{Ura}
use denote.Steps.{nothing}
use types.Kit.{ !, Item, done, drop, feq_i, fjoin, fsplit, keep, move, qed, ‵, ◌$◌, ◌∵◌}
use types.Logic.{Logic, sem}
use types.Run.{Opd, Opds, and_then, no_more}
use prog.Wp.{Env}
use Rattle.std.specs.contracts.cell.Cell as cell
use Rattle.yaml_test_allocator.specs.contracts.Refusing as handle

abbrev pub Count : RattleType
Count = cell.the_row usize

module _ (Z : Al) where
  abbrev pub self : Slot 2
  self = RefOf (0 ∷ []) tt (plain (λ _. handle.the_row (param 0 Z.row))) (λ _. tt)

  module _ (r : Bor (handle.the_row Z.row).Denot) where
    abbrev pub inner_place : ℕ × ℕ
    inner_place = (r.ref_ptr.0, r.ref_ptr.1 + up (align (α Z)) 0)

    abbrev pub count_place : ℕ × ℕ
    count_place = (r.ref_ptr.0, r.ref_ptr.1 + up 8 (up (align (α Z)) 0 + size (α Z)))

    module _ {M : Type 1} {𝓤 : Ura M} (𝓛 : Logic 𝓤) (κ ρ : Lft) where
      pub parts : ent 𝓤 (sem 𝓛 ((type_at self (κ, (ρ, tt))).own_val r (shr_vals r)))
          (sep 𝓤 (sem 𝓛 (seen Z κ inner_place r.now.inner)) (sem 𝓛 (hidden_shr Count κ (record { value = tt }) count_place.0 count_place.1)))
      parts =
          qed 𝓛 (‵ ((type_at self (κ, (ρ, tt))).own_val r (shr_vals r)) ∷ []) ∵ fsplit ! $ drop ! $ unhide ! $ fsplit ! $ fsplit ! $ move ! (1 ∷ []) $ fsplit ! $
          -- [the count; nothing; the inner allocator; the struct's own part]
          keep ! (2 ∷ 0 ∷ []) $ done !

-- the impl's functions at one inner allocator
abbrev pub instance : Al → Args
instance Z = bounded (a_type ∷ []) (Z.row, tt) (dcons Z.d (dcons Z.drops dnil))

-- a number as it is passed and stored
abbrev pub Number : Slot 2
Number = plain (λ _. usize)

abbrev pub stored_number : ℕ → List Val
stored_number = uint_vals w64

pub number_typed : (n : ℕ) → n < 2 ^ 64 → T (has_ty (ty_int w64) (vint w64 n)) × WT (vint w64 n)
number_typed n small = (tt, record { fits = small })

-- four parameters of which nothing is left
abbrev pub all_dropped : Fml
all_dropped = fsep ftrue (fsep ftrue (fsep ftrue (fsep ftrue ftrue)))

pub returns_unit : {M : Type 1} {𝓤 : Ura M} (𝓛 : Logic 𝓤) → ent 𝓤 (emp 𝓤) (sep 𝓤 (sem 𝓛 all_dropped) (sep 𝓤 (sem 𝓛 (unit.own_val tt (vunit ∷ []))) (emp 𝓤)))
returns_unit 𝓛 =
    qed 𝓛 [] ∵ nothing ! $ feq_i ! _ (vunit ∷ []) _ refl $
    nothing ! $ nothing ! $ fjoin ! $ nothing ! $ fjoin ! $ nothing ! $ fjoin ! $ nothing ! $ fjoin ! $ done !

-- four operands of a call
pub four_values : {K : Type 0} {M : Type 1} {𝓤 : Ura M} {𝓛 : Logic 𝓤} {E : Env 𝓤 𝓛.H} {Γ : List (Item 𝓤)} {a b c d : Operand} {u v w x : Val} → K
    → Opd K 𝓛 Γ E a u → Opd K 𝓛 Γ E b v → Opd K 𝓛 Γ E c w → Opd K 𝓛 Γ E d x → Opds K 𝓛 Γ E (a ∷ b ∷ c ∷ d ∷ []) (u ∷ v ∷ w ∷ x ∷ [])
four_values step first second third fourth = and_then step first (and_then step second (and_then step third (and_then step fourth (no_more step))))

-- a refusal as it is stored
abbrev pub failure : Val
failure = answer_val false 0 0

pub failure_typed : T (has_ty (layout Answer) failure) × WT failure
failure_typed = Answer-typed false 0 0
