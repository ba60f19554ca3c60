-- The statements of the flattened text are those of the text, one for one, in their layers and with the families that they assign.
use Rattle.std.proofs.Common.{◌≡◌, ℕ, ◌+◌, List, [], ◌∷◌, zip, length, flat_map, option_map, Some, Bool, true, false, ◌&&◌, ◌||◌, nat_eq, refl, sym, ap, ◌∙◌, subst}
use Rattle.std.specs.List.{list_any, list_all, AllZip}
use Rattle.smv_core.specs.Values.{Path, Value}
use Rattle.smv_core.specs.FlatOrder.{Met, said, claimed, Said, design_of}
use Rattle.smv_core.specs.Outcome.{family_at, same_path}
use Rattle.smv_core.specs.Walk.{Element, same_kind}
use Rattle.smv_core.specs.Allowed.{said_in}
use Rattle.smv_core.specs.Assignments.{Assigned, assignments, fits, concerns}
use Rattle.smv_core.specs.declared.tree.Kind.{Kind}
use Rattle.smv_core.specs.declared.tree.Kind.TheVariants.{Comb, Init, Next}
use Rattle.smv_core.specs.declared.tree.Text.{Text}
use Rattle.smv_core.specs.declared.flat.FlatStmt.{FlatStmt}
use Rattle.smv_core.specs.declared.flat.FlatItem.{FlatItem}
use Rattle.smv_core.specs.declared.flat.FlatItem.TheVariants as item
use Rattle.law_designs.specs.Numbers.{family_number}
use Rattle.law_designs.specs.Statements.{flat_stmt}
use Rattle.law_designs.specs.Entries.{claim, split, using, Entry, layer, statement, goal, entries}
use Rattle.law_designs.specs.Flattening.{FlatAssigned, flat_assignments, scope_in, flatten, flat_entry, with_places, layers_of, layer_number}
use Rattle.law_designs.specs.FlatTextAllowed.{flat_concerns}
use Rattle.law_designs.specs.SameActs.{layered_acts, IsSameAct}
use Rattle.law_designs.proofs.SameFamilies.{families-same}
use Rattle.law_designs.proofs.SameConcerns.{concerned-same}
use Rattle.law_designs.proofs.Entries.{AreAlike, entries-alike}

-- ---- the families that are assigned, whatever the kind

-- a test of families by a test for each kind
three : (own : Bool) (comb init next : Bool) (b c d f : Bool) → own ≡ (comb || (init || next)) → b ≡ (c || (d || f)) → (own || b) ≡ ((comb || c) || ((init || d) || (next || f)))
three true true init next b c d f h k = refl
three true false true next b c d f h k = or-true c ((true || d) || (next || f)) refl
  where
    or-true : (x y : Bool) → y ≡ true → true ≡ (x || y)
    or-true true y e = refl
    or-true false y e = sym e
three true false false true b c d f h k = or-true c (d || true) (or-end d)
  where
    or-true : (x y : Bool) → y ≡ true → true ≡ (x || y)
    or-true true y e = refl
    or-true false y e = sym e

    or-end : (x : Bool) → (x || true) ≡ true
    or-end true = refl
    or-end false = refl
three true false false false b c d f h k = absurd (cc (h))
three false true init next b c d f h k = absurd (cc (h))
three false false true next b c d f h k = absurd (cc (h))
three false false false true b c d f h k = absurd (cc (h))
three false false false false b c d f h k = k

all-fit : {I : Type 0} (test : I → Value → Bool) (is : List I) → list_all (λ (i, v). test i v) (zip is []) ≡ true
all-fit test [] = refl
all-fit test (i ∷ is) = refl

-- a kind, and two tests that are both met
each-kind : (kind : Kind) (own fit : Bool) → fit ≡ true → own ≡ ((same_kind kind Comb && (own && fit)) || ((same_kind kind Init && (own && fit)) || (same_kind kind Next && (own && fit))))
each-kind Comb true fit e = ap (λ b. b || false) (sym e)
each-kind Comb false fit e = refl
each-kind Init true fit e = ap (λ b. b || false) (sym e)
each-kind Init false fit e = refl
each-kind Next true fit e = sym e
each-kind Next false fit e = refl

flat-kinds : (k : ℕ) (as' : List FlatAssigned) →
    list_any (λ (a : FlatAssigned). nat_eq a.family k) as' ≡ (list_any (flat_concerns Comb (record { family = k; indexes = [] })) as' || (list_any (flat_concerns Init (record { family = k; indexes = [] })) as' || list_any (flat_concerns Next (record { family = k; indexes = [] })) as'))
flat-kinds k [] = refl
flat-kinds k (a ∷ as') =
    three (nat_eq a.family k) (flat_concerns Comb (record { family = k; indexes = [] }) a) (flat_concerns Init (record { family = k; indexes = [] }) a) (flat_concerns Next (record { family = k; indexes = [] }) a) _ _ _ _
    (each-kind a.kind (nat_eq a.family k) (list_all (λ (i, v). fits i v) (zip a.indexes [])) (all-fit fits a.indexes)) (flat-kinds k as')

tree-kinds : (path : Path) (as' : List Assigned) →
    list_any (λ (a : Assigned). same_path a.path path) as' ≡ (list_any (concerns Comb (record { path = path; indexes = [] })) as' || (list_any (concerns Init (record { path = path; indexes = [] })) as' || list_any (concerns Next (record { path = path; indexes = [] })) as'))
tree-kinds path [] = refl
tree-kinds path (a ∷ as') =
    three (same_path a.path path) (concerns Comb (record { path = path; indexes = [] }) a) (concerns Init (record { path = path; indexes = [] }) a) (concerns Next (record { path = path; indexes = [] }) a) _ _ _ _
    (each-kind a.kind (same_path a.path path) (list_all (λ (i, v). fits i v) (zip a.indexes [])) (all-fit fits a.indexes)) (tree-kinds path as')

-- ---- statements

acts-kept : (k : ℕ) (items : List FlatItem) → layered_acts (with_places k items) ≡ layered_acts items
acts-kept k [] = refl
acts-kept k (item.Act number act ∷ items) = ap (λ l. (number, act) ∷ l) (acts-kept (k + length (flat_assignments act)) items)
acts-kept k (item.Claim c ∷ items) = acts-kept (k + 1) items
acts-kept k (item.Split c ∷ items) = acts-kept k items
acts-kept k (item.Using c ∷ items) = acts-kept k items

module _ (text : Text) where
  -- a statement of an instance, and one that is like it
  same-act : (y z : Said) → y.layer ≡ z.layer → ((around : List _) → assignments y.instance y.act around ≡ assignments z.instance z.act around) →
      IsSameAct text (option_map (layer_number (layers_of (entries text))) y.layer, flat_stmt (scope_in text y.instance) [] y.act) z
  same-act y z e alike = (
    ap (option_map (layer_number (layers_of (entries text)))) e,
    λ path f found.
        let own : family_at (scope_in text y.instance).families path ≡ Some f = subst (λ fs. family_at fs path ≡ Some f) (sym (families-same text)) found in
        let k : ℕ = family_number (scope_in text []) path in
        let x : Element = record { path = path; indexes = [] } in
        let act : FlatStmt = flat_stmt (scope_in text y.instance) [] y.act in
        flat-kinds k (flat_assignments act)
        ∙ (ap (λ b. b || (list_any (flat_concerns Init (record { family = k; indexes = [] })) (flat_assignments act) || list_any (flat_concerns Next (record { family = k; indexes = [] })) (flat_assignments act))) (concerned-same (scope_in text y.instance) Comb x f own [] y.act)
        ∙ (ap (λ b. list_any (concerns Comb x) (assignments y.instance y.act []) || (b || list_any (flat_concerns Next (record { family = k; indexes = [] })) (flat_assignments act))) (concerned-same (scope_in text y.instance) Init x f own [] y.act)
        ∙ (ap (λ b. list_any (concerns Comb x) (assignments y.instance y.act []) || (list_any (concerns Init x) (assignments y.instance y.act []) || b)) (concerned-same (scope_in text y.instance) Next x f own [] y.act)
        ∙ (sym (tree-kinds path (assignments y.instance y.act []))
        ∙ ap (list_any (λ (a : Assigned). same_path a.path path)) (alike []))))),
  )

  acts-same : (es : List Entry) (ms : List Met) → AreAlike es ms → AllZip (IsSameAct text) (layered_acts (flat_map (flat_entry text (layers_of (entries text))) es)) (flat_map said_in ms)
  acts-same [] [] h = tt
  acts-same [] (m ∷ ms) h = absurd h
  acts-same (layer name ∷ es) ms h = acts-same es ms h
  acts-same (goal i binders (split word vars of pairs at) ∷ es) ms h = acts-same es ms h
  acts-same (goal i binders (using uses proves at) ∷ es) ms h = acts-same es ms h
  acts-same (goal i binders (claim word vars body at) ∷ es) [] h = absurd h
  acts-same (goal i binders (claim word vars body at) ∷ es) (said y ∷ ms) h = absurd h
  acts-same (goal i binders (claim word vars body at) ∷ es) (claimed d ∷ ms) h = acts-same es ms h.4
  acts-same (statement y ∷ es) [] h = absurd h
  acts-same (statement y ∷ es) (claimed d ∷ ms) h = absurd h
  acts-same (statement y ∷ es) (said z ∷ ms) h = (same-act y z h.0 (λ around. h.2.1 y.instance around ∙ ap (λ i. assignments i z.act around) h.1), acts-same es ms h.3)

  pub acts-of-text : AllZip (IsSameAct text) (layered_acts (flatten text).items) (flat_map said_in (design_of text).met)
  acts-of-text =
      subst (λ acts. AllZip (IsSameAct text) acts (flat_map said_in (design_of text).met)) (sym (acts-kept 0 (flat_map (flat_entry text (layers_of (entries text))) (entries text))))
      (acts-same (entries text) (design_of text).met (entries-alike text))
