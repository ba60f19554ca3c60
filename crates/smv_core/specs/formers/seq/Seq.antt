-- How a sequence holds its values, for types that hold themselves through one: as a list, in their order.
use mathlib.Core.Path.{◌≡◌, refl, sym}
use mathlib.Core.List.{List, []}
use mathlib.Core.Former.{Former, this, list, via, children}
use base.Stored.{code_map}
use denote.RattleType.{RattleType}
use denote.HoleLaws.{Alike}
use denote.HolePlaces.{Recodes, struct_places, laid}
use denote.Hole.Carrier.{listed, list-listed}
use denote.Hole.Fix.{over}
use denote.Param.Weighed.{Weighed, w_list}
use denote.Model.Placed.{view_places}
use Rattle.std.specs.formers.vec.Vec as vector
use Rattle.std.specs.declared.alloc.Global.{Global}
use Rattle.std.specs.contracts.alloc.Global as global
use Rattle.std.specs.contracts.impls.GlobalAllocator.TheImpl.{ghosts}
use Rattle.smv_core.specs.declared.seq.Seq.TheInside.{Inside}
use Rattle.smv_core.specs.declared.seq.Seq.TheView.{view, invariant}
use Rattle.smv_core.specs.contracts.seq.Seq as outside
use Rattle.smv_core.specs.contracts.seq.Seq.TheInside as inside

abbrev pub the_former : Former {0} → Former {0}
the_former value = list value

abbrev pub the_weighed : {value : Former {0}} → Weighed value → Weighed (the_former value)
the_weighed weight = w_list weight

-- a sequence of no values
pub the_empty : List ⊥
the_empty = []

abbrev pub the_items : (X : Type 0) → List X → List X
the_items X values = values

pub the_items_listed : (X : Type 0) (values : List X) → listed _ (children (the_former this) X values) ≡ the_items X values
the_items_listed X values = list-listed X values

-- the one field, a vector
abbrev field : Former {0}
field = via (vector.the_former this Global) Inside (λ X it. it.values) (λ X values. record { values = values }) (λ X it. refl) (λ X values. refl)

module _ (From To : RattleType) (along : From.Denot → To.Denot) where
  pub the_places : Alike From To along → Alike (outside.the_row From) (outside.the_row To) ((the_former this).map From.Denot To.Denot along)
  the_places alike = view_places field (list this) view (λ X Y k it. refl) (λ X it. refl) From.Denot To.Denot along (outside.the_row From).coded (outside.the_row To).coded
      (invariant From.Denot) (invariant To.Denot) (λ it p q. refl) (λ it p q. refl) (λ it e. tt) (λ it e. tt)
      (over (inside.the_row From)) (over (inside.the_row To))
      (struct_places (inside.the_type From) (inside.the_type To) (vector.mapped along, tt) _ (λ it. refl) refl (laid _ _ _ (vector.the_places global.the_row ghosts From To along alike), tt))

  pub the_codes_placed : Recodes From To along → Recodes (outside.the_row From) (outside.the_row To) ((the_former this).map From.Denot To.Denot along)
  the_codes_placed recodes values = sym (code_map From.coded.code To.coded.code along (λ x. sym (recodes x)) values)
