-- What signals lead to, by the first constant of their lists.
use Rattle.std.proofs.Common.{◌≡◌, ℕ, zero, suc, List, [], ◌∷◌, take, refl, ap, sym, ◌∙◌}
use Rattle.std.specs.Prelude.{Option, None, Some, option_and_then, slice_get}
use Rattle.std.specs.List.{AllByRecursion}
use Rattle.smv_core.specs.Values.{Name}
use Rattle.smv_core.specs.declared.tree.Text.{Text}
use Rattle.smv_core.specs.declared.tree.Part.{Part, Field, At}
use Rattle.smv_core.specs.declared.tree.Top.{Top}
use Rattle.smv_core.specs.declared.tree.Top.TheVariants.{SetType, Alias, Module as ModuleOf}
use Rattle.smv_core.specs.Types.{find_name}
use Rattle.smv_mentions.specs.Scopes.{Own, pieces, constants}
use Rattle.smv_core.specs.declared.tree.Role.{Role}
use Rattle.smv_core.specs.declared.tree.TypeExpr.{TypeExpr}
use Rattle.smv_mentions.specs.Mentions.{What, signal}
use Rattle.law_designs.specs.Types.{Types, Whole, leads, value_kind, index_kind, types_after}
use Rattle.law_designs.specs.References.{Module, modules_from, behind, signal_at}
use Rattle.law_designs.specs.Owned.{IsOwned, LeadsOwned}
use Rattle.smv_expression_kinds.specs.declared.lookups.Scope.{Scope as HeldScope}
use Rattle.smv_expression_kinds.specs.Forms.{types_from, module_in, AreOwned}
use Rattle.smv_expression_kinds.specs.Found.{scope_of}

-- what holds of each module of some tops, and of a module without names, holds of what the top of a number is
in-module : (P : Module → Type 0) → ((m : Module) → m.own ≡ [] → P m) → (types : Types) (tops : List Top) (i : ℕ) → AllByRecursion (λ (name, m). P m) (modules_from types tops) → P (module_in (types_from types (take i tops)) (slice_get tops i))
in-module P none types [] i h = none (module_in (types_from types (take i [])) (slice_get [] i)) refl
in-module P none types (SetType word ordered span at ∷ tops) zero h = none _ refl
in-module P none types (Alias word of at ∷ tops) zero h = none _ refl
in-module P none types (ModuleOf word formals body at ∷ tops) zero h = h.0
in-module P none types (SetType word ordered span at ∷ tops) (suc i) h = in-module P none (types_after types (SetType word ordered span at)) tops i h
in-module P none types (Alias word of at ∷ tops) (suc i) h = in-module P none (types_after types (Alias word of at)) tops i h
in-module P none types (ModuleOf word formals body at ∷ tops) (suc i) h = in-module P none types tops i h.1

unnamed : (text : Text) (m : Module) → m.own ≡ [] → LeadsOwned text m
unfolding LeadsOwned
unnamed text m none [] w h = absurd (cc (h))
unnamed text m none (At e ∷ parts) w h = absurd (cc (h))
unnamed text m none (Field word ∷ parts) w h =
    let gone : option_and_then (λ (own : Own). behind (modules_from [] text.tops) m.types own.what parts) (find_name m.own word.name) ≡ None =
    ap (λ l. option_and_then (λ (own : Own). behind (modules_from [] text.tops) m.types own.what parts) (find_name l word.name)) none in
    let both : None ≡ Some w = sym gone ∙ h in absurd (cc (both))

pub owned-signals : (text : Text) → AllByRecursion (λ (name, m). LeadsOwned text m) (modules_from [] text.tops) → AreOwned text
owned-signals text h place = in-module (LeadsOwned text) (unnamed text) [] text.tops place h

pub ruleset owned = (owned-signals)

-- the value of a signal of the scope
pub value-owned : (scope : HeldScope) (parts : List Part) (whole : Whole) → AreOwned scope.tables.now.names.text.now → Some whole ≡ signal_at (scope_of scope) parts → IsOwned (constants (pieces scope.tables.now.names.text.now)) whole.value
unfolding LeadsOwned scope_of
value-owned scope parts whole h e = h scope.place parts whole (sym e)

pub ruleset values = (value-owned)

-- a name of the module that is declared as a signal
pub formal-owned : (scope : HeldScope) (name : Name) (role : Role) (of : TypeExpr) (own : Own) → AreOwned scope.tables.now.names.text.now → find_name (scope_of scope).here.own name ≡ Some own → own.what ≡ signal role of
    → IsOwned (constants (pieces scope.tables.now.names.text.now)) (index_kind (scope_of scope).here.types of)
unfolding LeadsOwned scope_of
formal-owned scope name role of own h found is = by_whole (leads (scope_of scope).here.types of []) refl
  where
    after : What → Option Whole
    after what = behind (modules_from [] scope.tables.now.names.text.now.tops) (scope_of scope).here.types what []

    by_whole : (o : Option Whole) → leads (scope_of scope).here.types of [] ≡ o → IsOwned (constants (pieces scope.tables.now.names.text.now)) (value_kind o)
    by_whole None e = tt
    by_whole (Some w) e = h scope.place (Field (record { name = name; at = 0 }) ∷ []) w (ap (option_and_then (λ (own : Own). after own.what)) found ∙ ap after is ∙ e)
