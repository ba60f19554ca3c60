-- How a box holds its value, for types that hold themselves through one: as the value alone, apart from the place where it lies.
use mathlib.Core.Path.{refl}
use mathlib.Core.Former.{Former, this, const, pair, via}
use base.Stored.{gnil}
use base.Fml.{ftrue}
use denote.RattleType.{RattleType}
use denote.Memory.{part_of}
use denote.RawPtr.{Ptr}
use denote.Sharing.{nothing}
use denote.HoleLaws.{Alike}
use denote.HolePlaces.{Recodes, struct_places, laid, one_value}
use denote.Hole.Fix.{over}
use denote.Param.Weighed.{Weighed}
use denote.Model.Placed.{view_places}
use Rattle.std.specs.declared.boxed.Box.{Box}
use Rattle.std.specs.contracts.boxed.Box as owner
use Rattle.std.specs.declared.alloc.Global.{Global}
use Rattle.std.specs.contracts.alloc.Global as global
use Rattle.std.specs.contracts.impls.GlobalAllocator.TheImpl.{ghosts}
use Rattle.smv_core.specs.declared.boxed.Boxed.TheInside.{Inside}
use Rattle.smv_core.specs.declared.boxed.Boxed.TheView.{view, invariant}
use Rattle.smv_core.specs.contracts.boxed.Boxed as outside
use Rattle.smv_core.specs.contracts.boxed.Boxed.TheInside as inside

abbrev pub the_former : Former {0} → Former {0}
the_former value = value

abbrev pub the_weighed : {value : Former {0}} → Weighed value → Weighed (the_former value)
the_weighed weight = weight

-- a box is its address, its allocator and its value
abbrev field : Former {0}
field = via (pair (const (Ptr × Global)) this) Inside (λ X it. ((it.held.ptr, it.held.alloc), it.held.value))
    (λ X parts. record { held = record { ptr = parts.0.0; alloc = parts.0.1; value = parts.1 } }) (λ X it. refl) (λ X parts. refl)

abbrev holding : {X Y : Type 0} → Box X Global → Y → Box Y Global
holding it value = record { ptr = it.ptr; alloc = it.alloc; value = value }

abbrev row_of : RattleType → RattleType
row_of T = owner.the_row T global.the_row ghosts

module _ (From To : RattleType) (along : From.Denot → To.Denot) where
  held_places : Alike From To along → Alike (row_of From) (row_of To) (λ it. holding it (along it.value))
  unfolding part_of
  held_places alike = record {
    mir_same = λ i. (row_of (one_value From (alike.mir_same i) (λ _. ftrue) (λ _ _. nothing) gnil)).mir;
    own_same = λ it i. (row_of (one_value From (alike.mir_same i) (alike.own_same it.value i) (alike.shr_same it.value i) gnil)).own_val (holding it tt);
    shr_same = λ it i. (row_of (one_value From (alike.mir_same i) (alike.own_same it.value i) (alike.shr_same it.value i) gnil)).shr_at (holding it tt);
  }

  pub the_places : Alike From To along → Alike (outside.the_row From) (outside.the_row To) ((the_former this).map From.Denot To.Denot along)
  the_places alike = view_places field this view (λ X Y k it. refl) (λ X it. refl) From.Denot To.Denot along (outside.the_row From).coded (outside.the_row To).coded
      (invariant From.Denot) (invariant To.Denot) (λ it p q. refl) (λ it p q. refl) (λ it e. tt) (λ it e. tt)
      (over (inside.the_row From)) (over (inside.the_row To))
      (struct_places (inside.the_type From) (inside.the_type To) ((λ it. holding it (along it.value)), tt) _ (λ it. refl) refl (laid _ _ _ (held_places alike), tt))

  pub the_codes_placed : Recodes From To along → Recodes (outside.the_row From) (outside.the_row To) ((the_former this).map From.Denot To.Denot along)
  the_codes_placed recodes value = recodes value
