-- Each definition of the design is of a family to which some assignment assigns.
use Rattle.std.proofs.Common.{◌≡◌, ℕ, List, [], ◌∷◌, ◌++◌, map, zip, All, Some, refl, sym, subst, slice_get}
use Rattle.std.specs.List.{flat_map}
use Rattle.std.proofs.lemmas.List.Elements.{All-head, All-tail}
use Rattle.smv_core.specs.Values.{numbers_from}
use Rattle.smv_core.specs.declared.flat.Def.{Def}
use Rattle.smv_core.specs.declared.flat.Family.{Family}
use Rattle.smv_core.specs.declared.flat.FlatText.{FlatText}
use Rattle.law_obligations.specs.Sets.{Has, first, later}
use Rattle.law_obligations.specs.FlatConflicts.{IsConflictFree}
use Rattle.law_obligations.proofs.Members.{Has-from_map}
use Rattle.law_obligations.proofs.OneOfEach.{Has-from_flat_map}
use Rattle.law_designs.specs.Standing.{count, Statement, statements_of, Standing, assigned_by}
use Rattle.law_designs.specs.Definitions.{Head, head, heads_of, same_definition, first_heads, def_of, design_of_flat_text}
use Rattle.law_sound_texts.specs.Placed.{IsFree}
use Rattle.law_sound_texts.specs.Exact.{LeftSidesAreExact, DefinitionsAreFree}
use Rattle.law_sound_texts.proofs.Counts.{count-is}
use Rattle.law_flat_kinds.proofs.Lists.{Has-from_different}

Has-left : {X : Type 0} (xs ys : List X) {x : X} → Has xs x → Has (xs ++ ys) x
Has-left [] ys h = elim h [ ]
Has-left (x ∷ xs) ys first = first
Has-left (x ∷ xs) ys (later h) = later (Has-left xs ys h)

Has-right : {X : Type 0} (xs ys : List X) {y : X} → Has ys y → Has (xs ++ ys) y
Has-right [] ys h = h
Has-right (x ∷ xs) ys h = later (Has-right xs ys h)

Has-flat_map : {X Y : Type 0} (f : X → List Y) (xs : List X) {x : X} {y : Y} → Has xs x → Has (f x) y → Has (flat_map f xs) y
Has-flat_map f [] h k = elim h [ ]
Has-flat_map f (x ∷ xs) first k = Has-left (f x) (flat_map f xs) k
Has-flat_map f (x ∷ xs) (later h) k = Has-right (f x) (flat_map f xs) (Has-flat_map f xs h k)

-- the head of an assignment has its family
head_family : (as' : List Standing) (ks : List ℕ) {h : Head} → Has (map (λ (a, k). head a k) (zip as' ks)) h → (a : Standing) × Has as' a × (h.family ≡ a.family)
head_family [] ks h = elim h [ ]
head_family (a ∷ as') [] h = elim h [ ]
head_family (a ∷ as') (k ∷ ks) first = (a, first, refl)
head_family (a ∷ as') (k ∷ ks) (later h) = let r = head_family as' ks h in (r.0, later r.1, r.2)

all-has : {X : Type 0} (P : X → Type 0) (xs : List X) → All P xs → {x : X} → Has xs x → P x
all-has P [] h k = elim k [ ]
all-has P (x ∷ xs) h first = All-head P x xs h
all-has P (x ∷ xs) h (later k) = all-has P xs (All-tail P x xs h) k

module _ (flat_text : FlatText) (exact : LeftSidesAreExact flat_text) where
  of-head : (h : Head) → Has (first_heads flat_text) h → (f : Family) × (slice_get flat_text.families h.family ≡ Some f)
  of-head h p =
      let s : (s : Statement) × Has (statements_of flat_text) s × Has (heads_of s) h = Has-from_flat_map heads_of (statements_of flat_text) (Has-from_different same_definition (flat_map heads_of (statements_of flat_text)) p) in
      let a : (a : Standing) × Has (assigned_by s.0) a × (h.family ≡ a.family) = head_family (assigned_by s.0) (numbers_from s.0.place (count s.0.act)) s.2 in
      let f = exact a.0 (Has-flat_map assigned_by (statements_of flat_text) s.1 a.1) in
      (f.0, subst (λ k. slice_get flat_text.families k ≡ Some f.0) (sym a.2) f.1)

  pub are_free : All (IsFree flat_text) (design_of_flat_text flat_text).defs → DefinitionsAreFree (design_of_flat_text flat_text)
  are_free free def p =
      let h : (h : Head) × Has (first_heads flat_text) h × (def ≡ def_of flat_text h) = Has-from_map (def_of flat_text) (first_heads flat_text) p in
      let f : (f : Family) × (slice_get flat_text.families h.0.family ≡ Some f) = of-head h.0 h.1 in
      let there : slice_get flat_text.families def.family ≡ Some f.0 = subst (λ (def : Def). slice_get flat_text.families def.family ≡ Some f.0) (sym h.2) f.1 in
      (f.0, there, subst (λ n. IsConflictFree n def) (count-is flat_text def.family f.0 there) (all-has (IsFree flat_text) (design_of_flat_text flat_text).defs free p))
