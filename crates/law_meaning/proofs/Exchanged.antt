-- What the exchange of scalarset values leaves alone, in the words of the laws.
use Rattle.std.proofs.Common.{◌≡◌, ℕ, zero, suc, List, [], ◌∷◌, ◌++◌, flat_map, length, Some, None, inl, inr, refl, sym, get_or, Contains, ◌<◌, arith}
use Rattle.std.proofs.lemmas.List.Elements.{Contains-append_left, Contains-append_right}
use Rattle.smv_core.specs.Values.{Name, Value, number, Simple, values_of}
use Rattle.smv_core.specs.Outcome.{State, Scene, Bindings, allowed_by}
use Rattle.smv_core.specs.Walk.{Element, Walk, walk, steps_of}
use Rattle.smv_core.specs.Assignments.{Around, any, loop, Assigned, assignments, assignments_of, assignments_held, assignments_arms}
use Rattle.smv_core.specs.Conflicts.{Agrees, AreWhole, HasNoConflict, HaveNoConflict, HeldHasNoConflict, ArmsHaveNoConflict, HasVariables, HaveVariables, HeldHasVariables, ArmsHaveVariables}
use Rattle.smv_core.specs.declared.tree.Kind.{Kind}
use Rattle.smv_core.specs.declared.tree.Expr.{Expr}
use Rattle.smv_core.specs.declared.tree.Stmt.{Stmt, Assign, Block', If', Switch', Default', For', Forall', Held-Stmt-If-2, None', Some', Row_of-Stmt, end_of-Stmt, more_of-Stmt, Row_of-Arm, end_of-Arm, more_of-Arm}
use Rattle.law_meaning.specs.Exchange.{Exchanges, exchanged, exchanged_bindings, exchanged_element, AreExchangedStates, AreExchangedValues, AreExchangedWalks}
use Rattle.law_meaning.proofs.AtMostOne.{at_most_one}
use Rattle.law_meaning.proofs.ConflictLaws.{apart-forall}
use Rattle.law_meaning.proofs.Symmetry.{Has, Pictured, PicturedWalk, IsSingleIn, AreSingleIn, HeldIsSingle, ArmsAreSingle, allowed_by-ren, walk-ren}

pub has : {X : Type 0} (xs : List X) (x : X) → Contains xs x → Has xs x
has [] x p = absurd (omega (arith, p.1))
has {X} (y ∷ ys) x p = at_place p.0 p.1 p.2 (has ys x)
  where
    at_place : (n : ℕ) → n < length (y ∷ ys) → get_or (y ∷ ys) n x ≡ x → (Contains ys x → Has ys x) → Has (y ∷ ys) x
    at_place zero h e rest = inl e
    at_place (suc n) h e rest = inr (rest (n, omega (arith, h), e))

pub contains : {X : Type 0} (xs : List X) (x : X) → Has xs x → Contains xs x
contains [] x p = absurd p
contains (y ∷ ys) x (inl e) = (0, omega arith, e)
contains (y ∷ ys) x (inr p) = Contains-append_right (y ∷ []) ys x (contains ys x p)

module _ (scene : Scene) (f g : Name → ℕ → ℕ) (ex : Exchanges scene.sizes f g) (s t : State) (are : AreExchangedStates f s t) (target : Simple) where
  values : (vs ws : List Value) → Pictured scene.sizes f g ex vs ws → AreExchangedValues f vs ws
  values vs ws p = (λ v q. contains ws (exchanged f v) (p.0 v (has vs v q)), λ w q. let r = p.1 w (has ws w q) in (r.0, contains vs r.0 r.1, r.2))

  walks : (v w : Walk) → PicturedWalk scene.sizes f g ex target scene.types scene.families scene.instance s t are v w → AreExchangedWalks f v w
  walks None None p = tt
  walks (Some vs) (Some ws) p = values vs ws p
  walks None (Some ws) p = absurd p
  walks (Some vs) None p = absurd p

  pub right_side : (e : Expr) (b : Bindings) → AreExchangedValues f (allowed_by scene s (values_of scene.sizes target) e b) (allowed_by scene t (values_of scene.sizes target) e (exchanged_bindings f b))
  right_side e b = values _ _ (allowed_by-ren scene.sizes f g ex target scene.types scene.families scene.instance s t are e b)

  module _ (kind : Kind) (x : Element) where
    abbrev IsSingle : Stmt → Bindings → Type 0
    IsSingle act b = IsSingleIn scene.sizes f g ex target scene.types scene.families scene.instance s t are kind x act b

    abbrev Whole : List Assigned → Type 0
    Whole all = AreWhole kind x all

    left-whole : (as' bs : List Assigned) → Whole (as' ++ bs) → Whole as'
    left-whole as' bs h a p = h a (Contains-append_left as' bs a p)

    right-whole : (as' bs : List Assigned) → Whole (as' ++ bs) → Whole bs
    right-whole as' bs h a p = h a (Contains-append_right as' bs a p)

    turn-whole : (F : ℕ → List Assigned) (ns : List ℕ) → Whole (flat_map F ns) → (n : ℕ) → Contains ns n → Whole (F n)
    turn-whole F ns h n p = by_has ns h (has ns n p)
      where
        by_has : (ns : List ℕ) → Whole (flat_map F ns) → Has ns n → Whole (F n)
        by_has [] h q = absurd q
        by_has (m ∷ ns) h (inl e) = rw (sym e) (left-whole (F m) (flat_map F ns) h)
        by_has (m ∷ ns) h (inr q) = by_has ns (right-whole (F m) (flat_map F ns) h) q

    mutual
      single : (act : Stmt) (around : Around) (b : Bindings) → Agrees around b → HasNoConflict scene.instance act around → HasVariables act around → Whole (assignments scene.instance act around) → IsSingle act b
      single (Assign which left value at) around b h c v w = tt
      single (Block' shape parts) around b h c v w = singles parts around b h c v w
      single (If' test l (more_of-Stmt left end_of-Stmt) right at) around b h c v w = (
        single left around b h c.0 v.0 (left-whole (assignments scene.instance left around) (assignments_held scene.instance right around) w),
        single-held right around b h c.1 v.1 (right-whole (assignments scene.instance left around) (assignments_held scene.instance right around) w),
      )
      single (Switch' on shape arms other at) around b h c v w = (
        single-held other around b h c.0 v.0 (right-whole (assignments_arms scene.instance arms around) (assignments_held scene.instance other around) w),
        single-arms arms (assignments_held scene.instance other around) around b h c.1 v.1 (left-whole (assignments_arms scene.instance arms around) (assignments_held scene.instance other around) w),
      )
      single (Default' l (more_of-Stmt left end_of-Stmt) r (more_of-Stmt right end_of-Stmt) at) around b h c v w = (
        single left around b h c.0 v.0 (left-whole (assignments scene.instance left around) (assignments scene.instance right around) w),
        single right around b h c.1 v.1 (right-whole (assignments scene.instance left around) (assignments scene.instance right around) w),
      )
      single (For' var from to closed step shape (more_of-Stmt body end_of-Stmt) at) around b h c v w =
          λ n p. single body ((var.name, loop n) ∷ around) ((var.name, number n) ∷ b) (refl, refl, h) (c.0 n p) (v n p)
          (turn-whole (λ m. assignments scene.instance body ((var.name, loop m) ∷ around)) (steps_of from to closed step) w n p)
      single (Forall' var over shape (more_of-Stmt body end_of-Stmt) at) around b h c v w = (
        λ u. single body ((var.name, any) ∷ around) ((var.name, u) ∷ b) (refl, h) c v w,
        at_most_one scene s kind x (values_of scene.sizes target) var body around b h (apart-forall scene.instance var body around c v) w,
      )

      singles : {m : _} (parts : Row_of-Stmt m) (around : Around) (b : Bindings) → Agrees around b → HaveNoConflict scene.instance parts around → HaveVariables parts around → Whole (assignments_of scene.instance parts around) →
          AreSingleIn scene.sizes f g ex target scene.types scene.families scene.instance s t are kind x parts b
      singles end_of-Stmt around b h c v w = tt
      singles (more_of-Stmt part rest) around b h c v w = (
        single part around b h c.0 v.0 (left-whole (assignments scene.instance part around) (assignments_of scene.instance rest around) w),
        singles rest around b h c.1 v.1 (right-whole (assignments scene.instance part around) (assignments_of scene.instance rest around) w),
      )

      single-held : (part : Held-Stmt-If-2) (around : Around) (b : Bindings) → Agrees around b → HeldHasNoConflict scene.instance part around → HeldHasVariables part around → Whole (assignments_held scene.instance part around) →
          HeldIsSingle scene.sizes f g ex target scene.types scene.families scene.instance s t are kind x part b
      single-held None' around b h c v w = tt
      single-held (Some' shape (more_of-Stmt part end_of-Stmt)) around b h c v w = single part around b h c v w

      single-arms : {m : _} (arms : Row_of-Arm m) (others : List Assigned) (around : Around) (b : Bindings) → Agrees around b → ArmsHaveNoConflict scene.instance arms around others → ArmsHaveVariables arms around →
          Whole (assignments_arms scene.instance arms around) → ArmsAreSingle scene.sizes f g ex target scene.types scene.families scene.instance s t are kind x arms b
      single-arms end_of-Arm others around b h c v w = tt
      single-arms (more_of-Arm labels body rest) others around b h c v w = (
        single body around b h c.0 v.0 (left-whole (assignments scene.instance body around) (assignments_arms scene.instance rest around) w),
        single-arms rest others around b h c.1 v.1 (right-whole (assignments scene.instance body around) (assignments_arms scene.instance rest around) w),
      )

    pub walked : (act : Stmt) (around : Around) (b : Bindings) → Agrees around b → HasNoConflict scene.instance act around → HasVariables act around → Whole (assignments scene.instance act around) →
        AreExchangedWalks f (walk scene s kind x (values_of scene.sizes target) act b) (walk scene t kind (exchanged_element f x) (values_of scene.sizes target) act (exchanged_bindings f b))
    walked act around b h c v w = walks _ _ (walk-ren scene.sizes f g ex target scene.types scene.families scene.instance s t are kind x act b (single act around b h c v w))
