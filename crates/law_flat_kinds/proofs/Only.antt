-- In a text without a fault of names what stands behind a name of an instance is declared by that name there.
use Rattle.std.proofs.Common.{◌≡◌, ℕ, List, [], ◌∷◌, ◌++◌, Option, Some, None, Bool, true, false, cond, find, inl, inr, refl, sym, ◌∙◌, subst}
use Rattle.std.specs.List.{flat_map, AllByRecursion}
use Rattle.std.proofs.lemmas.List.{append_assoc}
use Rattle.smv_core.specs.Values.{Name, Path}
use Rattle.smv_core.specs.Types.{Types, Family, find_name}
use Rattle.smv_core.specs.FlatOrder.{Body, families_of_item, families_in}
use Rattle.smv_core.specs.Outcome.{family_at, same_path}
use Rattle.smv_core.specs.declared.tree.Word.{Word}
use Rattle.smv_core.specs.declared.tree.Item.{Item}
use Rattle.smv_mentions.specs.Mentions.{Mention, declares, binds, follows, names_type, lists_constants, has_fields, instantiates, in_item}
use Rattle.smv_mentions.specs.Scopes.{Own, Constant}
use Rattle.smv_mentions.specs.NameFaults.{declared_words}
use Rattle.law_designs.proofs.TypeNumbers.{paths-decide}
use Rattle.law_designs.proofs.Lookups.{find-passes}
use Rattle.law_designs.proofs.Modules.{IsApart}
use Rattle.law_obligations.specs.Sets.{Has, first, later}
use Rattle.law_obligations.proofs.Members.{Has-left, Has-right, Has-cases}
use Rattle.law_flat_kinds.proofs.FamiliesFound.{AreDisjoint, AreBehind, AllApart, BodyIsFine, own_words, AreThere, same-name, items-once, items-behind, families-there}

find-Has : {X : Type 0} (p : X → Bool) (xs : List X) (x : X) → find p xs ≡ Some x → Has xs x
find-Has p [] x e = absurd (cc (e))
find-Has {X} p (y ∷ xs) x e = by_test (p y) e (find-Has p xs x)
  where
    by_test : (b : Bool) → cond b (Some y) (find p xs) ≡ Some x → (find p xs ≡ Some x → Has xs x) → Has (y ∷ xs) x
    by_test true e rest = let same : y ≡ x = cc in subst (Has (y ∷ xs)) same first
    by_test false e rest = later (rest e)

-- a name that is declared is no constant
declared-apart : (own : List (Name × Own)) (constants : List (Name × Constant)) (ms : List Mention) → AllByRecursion (IsApart own constants) ms → (w : Word) → Has (declared_words ms) w → find_name constants w.name ≡ None
declared-apart own constants [] h w i = elim i [ ]
declared-apart own constants (declares word what ∷ ms) h _ first = h.0
declared-apart own constants (declares word what ∷ ms) h w (later i) = declared-apart own constants ms h.1 w i
declared-apart own constants (binds o word ∷ ms) h w i = declared-apart own constants ms h.1 w i
declared-apart own constants (follows o parts ∷ ms) h w i = declared-apart own constants ms h.1 w i
declared-apart own constants (names_type word ∷ ms) h w i = declared-apart own constants ms h.1 w i
declared-apart own constants (lists_constants words ∷ ms) h w i = declared-apart own constants ms h.1 w i
declared-apart own constants (has_fields words ∷ ms) h w i = declared-apart own constants ms h.1 w i
declared-apart own constants (instantiates word args ∷ ms) h w i = declared-apart own constants ms h.1 w i

module _ (fs : List Family) where
  -- what of these families stands there behind one of these words is in this list
  abbrev pub OwnsBehind : Path → List Word → List Family → Type 0
  OwnsBehind here ws list = (f : Family) (w : Word) (rest : Path) → Has ws w → Has fs f → f.path ≡ here ++ w.name ∷ rest → Has list f

  pub owns-parts : (here : Path) (ws vs : List Word) (list others : List Family) → AreBehind here ws list → AreBehind here vs others → AreDisjoint ws vs → OwnsBehind here (ws ++ vs) (list ++ others) → OwnsBehind here ws list × OwnsBehind here vs others
  owns-parts here ws vs list others p q apart h = (
    λ f w rest i there e. elim (Has-cases list others (h f w rest (Has-left vs i) there e)) [
      | inl k ↦ k
      | inr k ↦ let s = q f k in absurd (apart w s.0 i s.1 (same-name here w.name s.0.name rest s.2.0 (sym e ∙ s.2.1)))
    ],
    λ f w rest i there e. elim (Has-cases list others (h f w rest (Has-right ws i) there e)) [
      | inl k ↦ let s = p f k in absurd (apart s.0 w s.1 i (same-name here s.0.name w.name s.2.0 rest (sym s.2.1 ∙ e)))
      | inr k ↦ k
    ],
  )

  -- what stands inside an instance is in this list
  abbrev pub Owns : Path → List Family → Type 0
  Owns here list = (f : Family) (q : Name) (rest : Path) → Has fs f → f.path ≡ here ++ q ∷ rest → Has list f

  pub owns-words : (here : Path) (ws : List Word) (list : List Family) → Owns here list → OwnsBehind here ws list
  owns-words here ws list h f w rest i there e = h f w.name rest there e

  pub owns-one : (here : Path) (w : Word) (list : List Family) → OwnsBehind here (w ∷ []) list → Owns (here ++ w.name ∷ []) list
  owns-one here w list h f q rest there e = h f w (q ∷ rest) first there (e ∙ append_assoc here (w.name ∷ []) (q ∷ rest))

  -- a name that is declared by none of these words is no family
  pub no_family : (here : Path) (ws : List Word) (list : List Family) → Owns here list → AreBehind here ws list → (name : Name) → ((w : Word) → Has ws w → w.name ≡ name → ⊥) → family_at fs (here ++ name ∷ []) ≡ None
  no_family here ws list owns behind name none = by_found (family_at fs (here ++ name ∷ [])) refl
    where
      by_found : (o : Option Family) → family_at fs (here ++ name ∷ []) ≡ o → o ≡ None
      by_found None e = refl
      by_found (Some f) e =
          let path : f.path ≡ here ++ name ∷ [] = (paths-decide f.path (here ++ name ∷ [])).0 (find-passes (λ (g : Family). same_path g.path (here ++ name ∷ [])) fs f e) in
          let s = behind f (owns f name [] (find-Has (λ (g : Family). same_path g.path (here ++ name ∷ [])) fs f e) path) in
          absurd (none s.0 s.1 (same-name here s.0.name name s.2.0 [] (sym s.2.1 ∙ path)))

  module _ (types : Types) (all : AllApart types) (bodies : List (Name × Body)) (bodies_fine : (entry : Name × Body) → Has bodies entry → BodyIsFine types all bodies entry.1) where
    abbrev families : ℕ → Path → Name → List Family
    families k here name = families_in types bodies k here name

    abbrev of_item : ℕ → Path → Item → List Family
    of_item k here part = families_of_item types bodies (families_in types bodies k) here part

    there : (k : ℕ) → AreThere types all bodies (families_in types bodies k)
    there k = families-there types all bodies bodies_fine k

    abbrev ItemsAreFine : List Item → Type 0
    ItemsAreFine items = BodyIsFine types all bodies (record { formals = []; items = items })

    -- a constant is no family of an instance
    pub constant-no_family : (k : ℕ) (here : Path) (items : List Item) → ItemsAreFine items → Owns here (flat_map (of_item k here) items) → (own : List (Name × Own)) (constants : List (Name × Constant)) → AllByRecursion (IsApart own constants) (flat_map (in_item []) items) →
        (name : Name) (c : Constant) → find_name constants name ≡ Some c → family_at fs (here ++ name ∷ []) ≡ None
    constant-no_family k here items fine owns own constants apart name c found =
        let once = items-once items fine.0 in
        no_family here (flat_map own_words items) (flat_map (of_item k here) items) owns (items-behind types all bodies (families_in types bodies k) (there k) here items fine.1 once.0).1 name
        (λ w i same. let none : find_name constants name ≡ None = subst (λ n. find_name constants n ≡ None) same (declared-apart own constants (flat_map (in_item []) items) apart w (once.1 w i)) in cc (none, found))
