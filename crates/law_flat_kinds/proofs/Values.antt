-- In a module the right sides, labels and left sides without faults have kinds in the flattened text.
use Rattle.law_designs.proofs.Opening.{opening}
use Rattle.std.proofs.Common.{◌≡◌, List, [], ◌∷◌, ◌++◌, map, flat_map, Some, None, true, cond, ◌&&◌, refl, ap, ◌∙◌}
use Rattle.smv_core.specs.Assignments.{Around, any}
use Rattle.smv_core.specs.declared.tree.Word.{Word}
use Rattle.smv_core.specs.declared.tree.Expr.{Expr, Number, Signal', Not', And', Or', Implies', Iff', Compare', Within', Sum', Modulo', Choose', All', Any', List', Each', Held-Expr-Each-2, None', Some', end_of-Expr, more_of-Expr, Row_of-Member, end_of-Member, more_of-Member}
use Rattle.smv_core.specs.declared.tree.Member.{One, Span as SpanOf}
use Rattle.smv_core.specs.declared.flat.FlatText.{FlatText}
use Rattle.smv_core.specs.declared.flat.FlatMember as member
use Rattle.smv_mentions.specs.Mentions as said
use Rattle.smv_mentions.specs.NameFaults.{place_if}
use Rattle.smv_mentions.specs.FirstFault.{faults_at}
use Rattle.law_designs.specs.Kinds.{no_kind, takes_number, alike, kind_with, number_at}
use Rattle.law_designs.specs.Types.{index_faults, is_reversed}
use Rattle.law_designs.specs.References as kinds
use Rattle.law_designs.specs.References.{Vars}
use Rattle.law_designs.specs.Operands.{bind, operand, members, condition_faults, value}
use Rattle.law_designs.specs.FlatKinds as typed
use Rattle.law_designs.specs.FlatKinds.{kind_of, kind_in, value_in, is_binder, inside, common}
use Rattle.law_designs.specs.Numbers.{Scope, bound_in, flat_over}
use Rattle.law_designs.specs.Statements.{flat_expr, flat_members, flat_condition}
use Rattle.law_designs.specs.Written.{IsWritten, AreWritten, ConditionIsWritten, HasMember}
use Rattle.law_designs.proofs.Faultless.{empty-both, each-front, each-behind, IsFine, AreFine, number-fine, alike-fine}
use Rattle.law_flat_kinds.proofs.Relation.{HasKind, HaveKinds, number-kept, common-kept, chosen-kept}
use Rattle.law_flat_kinds.proofs.Boxes.{member_kind, condition_fits, value-List, value-Choose, value-Each}
use Rattle.law_flat_kinds.proofs.Variables.{AreApart, SignalsAreKinded, ConstantsAreKinded, IndexesAreKinded, AreVars, kinds_bound, binder-kinded}
use Rattle.law_flat_kinds.proofs.Expressions.{HasItsKind, expression-kinded, signal-kinded, members-kinded}

module _ (flat_text : FlatText) (scope : kinds.Scope) (flat : Scope) (signals : SignalsAreKinded flat_text scope flat) (named : ConstantsAreKinded flat_text scope flat) (over_kinded : IndexesAreKinded flat_text scope flat) where
  abbrev pub ValueHasKind : Vars → Around → Expr → Type 0
  ValueHasKind vars around e = HasKind flat (value_in flat_text (kinds_bound flat_text scope flat vars around) (flat_expr flat around e)) (value scope vars e).kind

  plain-value : (words : List Word) (vars : Vars) (around : Around) → AreVars flat_text scope flat vars around → (e : Expr) → IsWritten e → AreApart flat_text scope flat (said.in_expr words e) → IsFine (operand scope vars e) → HasItsKind flat_text scope flat signals named over_kinded vars around e
  plain-value words vars around same e written apart fine = expression-kinded flat_text scope flat signals named over_kinded words vars around same e written apart fine

  list-kinded : {m : _} (vars : Vars) (around : Around) (row : Row_of-Member m) → HasMember row → HaveKinds flat (map (member_kind flat_text (kinds_bound flat_text scope flat vars around)) (flat_members flat around row)) (members scope vars row) →
      alike (members scope vars row) ≡ [] → HasKind flat (common (map (member_kind flat_text (kinds_bound flat_text scope flat vars around)) (flat_members flat around row))) (kind_with no_kind (members scope vars row))
  unfolding opening
  list-kinded vars around end_of-Member one given fine = absurd one
  list-kinded vars around (more_of-Member (One e) rest) one given fine = common-kept flat (operand scope vars e) (members scope vars rest) _ (map (member_kind flat_text (kinds_bound flat_text scope flat vars around)) (flat_members flat around rest)) given fine
  list-kinded vars around (more_of-Member (SpanOf span at) rest) one given fine = common-kept flat (number_at at (faults_at (13, place_if (is_reversed span) at))) (members scope vars rest) _ (map (member_kind flat_text (kinds_bound flat_text scope flat vars around)) (flat_members flat around rest)) given fine

  condition-kinded : (words : List Word) (vars : Vars) (around : Around) → AreVars flat_text scope flat vars around → (cond : Held-Expr-Each-2) → ConditionIsWritten cond → AreApart flat_text scope flat (said.in_held words cond) → condition_faults scope vars cond ≡ [] → (over : _) (before : typed.FlatVars) →
      inside before over ≡ kinds_bound flat_text scope flat vars around → condition_fits flat_text before over (flat_condition flat around cond) ≡ true
  unfolding opening said.in_expr
  condition-kinded words vars around same None' written apart fine over before e = refl
  condition-kinded words vars around same (Some' shape (more_of-Expr cond end_of-Expr)) written apart fine over before e =
      ap (λ fv. typed.takes typed.number (kind_in flat_text fv (flat_expr flat around cond))) e ∙ number-kept flat (operand scope vars cond) _ (plain-value words vars around same cond written apart (number-fine _ fine)) fine

  -- a right side
  pub value-kinded : (words : List Word) (vars : Vars) (around : Around) → AreVars flat_text scope flat vars around → (e : Expr) → IsWritten e → AreApart flat_text scope flat (said.in_expr words e) → IsFine (value scope vars e) → ValueHasKind vars around e
  unfolding opening said.in_expr
  value-kinded words vars around same (List' shape row at) written apart fine =
      let given = members-kinded flat_text scope flat signals named over_kinded words vars around same row written.1 apart (alike-fine (members scope vars row) fine) in
      let own = list-kinded vars around row written.0 given fine in
      (value-List flat_text (kinds_bound flat_text scope flat vars around) (flat_members flat around row) at ∙ own.0, own.1)
  value-kinded words vars around same (Each' var over held at) written apart fine =
      let both = empty-both (index_faults scope.here.types over) (condition_faults scope (bind scope vars var over) held) fine in
      let own = over_kinded over written.1 both.0 in
      let rest = each-behind _ (said.in_type over) (said.in_held (words ++ var ∷ []) held) apart.1 in
      let bound : AreVars flat_text scope flat (bind scope vars var over) ((var.name, any) ∷ around) = (refl, own.2, apart.0, same) in
      let test : (is_binder flat_text (kinds_bound flat_text scope flat vars around) (bound_in around) (flat_over flat over) && condition_fits flat_text (kinds_bound flat_text scope flat vars around) (flat_over flat over) (flat_condition flat ((var.name, any) ∷ around) held)) ≡ true =
      binder-kinded flat_text scope flat over_kinded vars around same over written.1 both.0 (λ fv. condition_fits flat_text (kinds_bound flat_text scope flat vars around) (flat_over flat over) (flat_condition flat ((var.name, any) ∷ around) held))
      (condition-kinded (words ++ var ∷ []) (bind scope vars var over) ((var.name, any) ∷ around) bound held written.0 rest both.1 (flat_over flat over) (kinds_bound flat_text scope flat vars around) (ap (λ k. kinds_bound flat_text scope flat vars around ++ k ∷ []) own.1)) in
      (value-Each flat_text (kinds_bound flat_text scope flat vars around) (bound_in around) (flat_over flat over) (flat_condition flat ((var.name, any) ∷ around) held) at ∙ ap (λ b. cond b (Some (kind_of (flat_over flat over))) None) test ∙ ap Some own.1, own.2)
  value-kinded words vars around same (Choose' c (more_of-Expr test end_of-Expr) l (more_of-Expr left end_of-Expr) r (more_of-Expr right end_of-Expr)) written apart fine =
      let both = empty-both (takes_number (operand scope vars test)) (alike (value scope vars left ∷ value scope vars right ∷ [])) fine in
      let each : AreFine (value scope vars left ∷ value scope vars right ∷ []) = alike-fine (value scope vars left ∷ value scope vars right ∷ []) both.1 in
      let front = each-front _ (said.in_expr words test ++ said.in_expr words left) (said.in_expr words right) apart in
      let own = plain-value words vars around same test written.0 (each-front _ (said.in_expr words test) (said.in_expr words left) front) (number-fine _ both.0) in
      let first : ValueHasKind vars around left = value-kinded words vars around same left written.1 (each-behind _ (said.in_expr words test) (said.in_expr words left) front) each.0 in
      let second : ValueHasKind vars around right = value-kinded words vars around same right written.2 (each-behind _ (said.in_expr words test ++ said.in_expr words left) (said.in_expr words right) apart) each.1.0 in
      let all = chosen-kept flat (operand scope vars test) (value scope vars left) (value scope vars right) _ _ _ own first second fine in
      (value-Choose flat_text (kinds_bound flat_text scope flat vars around) (flat_expr flat around test) (flat_expr flat around left) (flat_expr flat around right) ∙ all.0, all.1)
  value-kinded words vars around same (Signal' shape parts at) written apart fine =
      let p = signal-kinded flat_text scope flat signals named over_kinded words vars around same parts at written apart.1 fine in
      (p.1 ∙ p.0.0, p.0.1)
  value-kinded words vars around same (Number value at) written apart fine = plain-value words vars around same (Number value at) written apart fine
  value-kinded words vars around same (Not' shape (more_of-Expr e end_of-Expr) at) written apart fine = plain-value words vars around same (Not' shape (more_of-Expr e end_of-Expr) at) written apart fine
  value-kinded words vars around same (And' shape parts) written apart fine = plain-value words vars around same (And' shape parts) written apart fine
  value-kinded words vars around same (Or' shape parts) written apart fine = plain-value words vars around same (Or' shape parts) written apart fine
  value-kinded words vars around same (Implies' shape parts) written apart fine = plain-value words vars around same (Implies' shape parts) written apart fine
  value-kinded words vars around same (Iff' l (more_of-Expr left end_of-Expr) r (more_of-Expr right end_of-Expr)) written apart fine = plain-value words vars around same (Iff' l (more_of-Expr left end_of-Expr) r (more_of-Expr right end_of-Expr)) written apart fine
  value-kinded words vars around same (Compare' op l (more_of-Expr left end_of-Expr) r (more_of-Expr right end_of-Expr)) written apart fine =
      plain-value words vars around same (Compare' op l (more_of-Expr left end_of-Expr) r (more_of-Expr right end_of-Expr)) written apart fine
  value-kinded words vars around same (Within' l (more_of-Expr left end_of-Expr) r (more_of-Expr set end_of-Expr)) written apart fine =
      plain-value words vars around same (Within' l (more_of-Expr left end_of-Expr) r (more_of-Expr set end_of-Expr)) written apart fine
  value-kinded words vars around same (Sum' f (more_of-Expr first end_of-Expr) shape more) written apart fine = plain-value words vars around same (Sum' f (more_of-Expr first end_of-Expr) shape more) written apart fine
  value-kinded words vars around same (Modulo' shape (more_of-Expr e end_of-Expr) by at) written apart fine = plain-value words vars around same (Modulo' shape (more_of-Expr e end_of-Expr) by at) written apart fine
  value-kinded words vars around same (All' shape (more_of-Expr body end_of-Expr) var over at) written apart fine = plain-value words vars around same (All' shape (more_of-Expr body end_of-Expr) var over at) written apart fine
  value-kinded words vars around same (Any' shape (more_of-Expr body end_of-Expr) var over at) written apart fine = plain-value words vars around same (Any' shape (more_of-Expr body end_of-Expr) var over at) written apart fine

  -- labels, and the indexes of a left side
  pub are-kinded : (words : List Word) (vars : Vars) (around : Around) → AreVars flat_text scope flat vars around → (es : List Expr) → AreWritten es → AreApart flat_text scope flat (flat_map (said.in_expr words) es) → AreFine (map (operand scope vars) es) →
      HaveKinds flat (map (kind_in flat_text (kinds_bound flat_text scope flat vars around)) (map (flat_expr flat around) es)) (map (operand scope vars) es)
  are-kinded words vars around same [] written apart fine = tt
  are-kinded words vars around same (e ∷ es) written apart fine = (
    plain-value words vars around same e written.0 (each-front _ (said.in_expr words e) (flat_map (said.in_expr words) es) apart) fine.0,
    are-kinded words vars around same es written.1 (each-behind _ (said.in_expr words e) (flat_map (said.in_expr words) es) apart) fine.1,
  )

  pub labels-kinded : (words : List Word) (vars : Vars) (around : Around) → AreVars flat_text scope flat vars around → (es : List Expr) → AreWritten es → AreApart flat_text scope flat (flat_map (said.in_expr words) es) → AreFine (map (operand scope vars) es) →
      HaveKinds flat (map (member_kind flat_text (kinds_bound flat_text scope flat vars around)) (map (λ label. member.One (flat_expr flat around label)) es)) (map (operand scope vars) es)
  labels-kinded words vars around same [] written apart fine = tt
  labels-kinded words vars around same (e ∷ es) written apart fine = (
    plain-value words vars around same e written.0 (each-front _ (said.in_expr words e) (flat_map (said.in_expr words) es) apart) fine.0,
    labels-kinded words vars around same es written.1 (each-behind _ (said.in_expr words e) (flat_map (said.in_expr words) es) apart) fine.1,
  )
