-- Where a design has no fault of uses, choices name each family and claim once.
use Rattle.std.proofs.Common.{◌≡◌, ℕ, List, [], ◌∷◌, ◌++◌, map, Bool, true, false, not, refl, sym, ap, subst, ◌∙◌, Option, Some, None, filter, find, cond, nat_eq}
use Rattle.std.specs.Option.{option_to_list}
use Rattle.law_lists.proofs.Lists.{filter-map}
use Rattle.smv_core.specs.declared.fault.Fault.{Fault}
use Rattle.smv_mentions.specs.FirstFault.{faults_at}
use Rattle.smv_core.specs.declared.tree.Ref.{Ref}
use Rattle.smv_core.specs.declared.flat.Design.{Design}
use Rattle.smv_core.specs.declared.flat.FlatUsing.{FlatUsing}
use Rattle.smv_core.specs.declared.flat.Leaf.{Leaf}
use Rattle.smv_core.specs.declared.flat.Pick.{Pick}
use Rattle.smv_core.specs.declared.flat.Assumed.{Assumed}
use Rattle.law_obligations.specs.Sets.{Has, first, later as behind}
use Rattle.law_obligations.proofs.Members.{Has-from_map, Has-left, Has-right, Has-map, Has-flat_map}
use Rattle.law_obligations.proofs.OneOfEach.{Has-from_flat_map}
use Rattle.law_obligations.specs.Units.{units_of}
use Rattle.law_obligations.proofs.Lookups.{find-some}
use Rattle.law_splits.specs.Leaves.{named_by, leaves_of}
use Rattle.law_splits.proofs.Params.{same_name}
use Rattle.law_uses.specs.Uses.{picks_in, assumed_in}
use Rattle.law_uses.specs.Choices.{Proof, proofs_in, names_leaf, own_map, is_own, choice_by, choice_of}
use Rattle.law_uses.specs.UseFaults.{later, leaf_named, proved_again, same_map, chosen_again, proved_leaves, picked_again, assumed_again, kept_again, use_faults, faults_of_uses}
use Rattle.law_uses.specs.Laws.{AreNamedApart, IsOfOnes, ChoicesAreOfOnes}

-- ---- lists

none_there : {X : Type 0} (xs : List X) → ((x : X) → Has xs x → ⊥) → xs ≡ []
none_there [] none = refl
none_there (x ∷ xs) none = absurd (none x first)

find_there : {X : Type 0} (p : X → Bool) {xs : List X} {x : X} → Has xs x → p x ≡ true → (y : X) × (find p xs ≡ Some y)
find_there p (first {x = x}) e = (x, rw e refl)
find_there {X} p (behind {y = y} {xs = xs} h) e = at (p y) (find_there p h e)
  where
    at : (b : Bool) → (z : X) × (find p xs ≡ Some z) → (z : X) × (cond b (Some y) (find p xs) ≡ Some z)
    at true r = (y, refl)
    at false r = r

map_joined : {X Y : Type 0} (f : X → Y) (xs ys : List X) → map f xs ++ map f ys ≡ map f (xs ++ ys)
map_joined f [] ys = refl
map_joined f (x ∷ xs) ys = ap (λ zs. f x ∷ zs) (map_joined f xs ys)

later_map : {X Y : Type 0} (clash : Y → Y → Bool) (f : X → Y) (xs : List X) → later clash (map f xs) ≡ map f (later (λ a b. clash (f a) (f b)) xs)
later_map clash f [] = refl
later_map clash f (x ∷ xs) =
    ap (λ ys. ys ++ later clash (map f xs)) (filter-map (clash (f x)) f xs)
    ∙ (ap (λ ys. map f (filter (λ b. clash (f x) (f b)) xs) ++ ys) (later_map clash f xs)
    ∙ map_joined f (filter (λ b. clash (f x) (f b)) xs) (later (λ a b. clash (f a) (f b)) xs))

-- ---- faults

module _ (d : Design) (none : faults_of_uses d ≡ []) where
  no_fault : (f : Fault) → Has (faults_of_uses d) f → ⊥
  no_fault f h = elim (subst (λ fs. Has fs f) none h) [ ]

  abbrev again : FlatUsing → List ℕ
  again using = picked_again d (units_of d) (leaves_of d) using ++ assumed_again d using ++ kept_again d using

  no_again : (using : FlatUsing) → Has d.uses using → (at : ℕ) → Has (again using) at → ⊥
  no_again using u at h = no_fault (record { number = 27; at = at })
      (Has-flat_map faults_at {xs = use_faults d (units_of d) (leaves_of d)} (behind first) (Has-map (λ at. record { number = 27; at = at }) (Has-right (proved_again d (leaves_of d)) (Has-flat_map again u h))))

  no_pick : (using : FlatUsing) → Has d.uses using → (leaf : Leaf) → Has (proved_leaves d (units_of d) (leaves_of d) using) leaf → (x : ℕ × Pick) → Has (chosen_again d (units_of d) (leaves_of d) using leaf) x → ⊥
  no_pick using u leaf l x h = no_again using u x.0 (Has-left (kept_again d using) (Has-left (assumed_again d using)
      (Has-map (λ (x : ℕ × Pick). x.0) (Has-right (later same_map (picks_in d using.uses)) (Has-flat_map (chosen_again d (units_of d) (leaves_of d) using) l h)))))

  no_claim : (using : FlatUsing) → Has d.uses using → (x : ℕ × Assumed) → Has (later (λ (x y : ℕ × Assumed). nat_eq x.1.claim y.1.claim) (assumed_in d using.uses)) x → ⊥
  no_claim using u x h = no_again using u x.0 (Has-left (kept_again d using) (Has-right (picked_again d (units_of d) (leaves_of d) using) (Has-map (λ (x : ℕ × Assumed). x.0) h)))

  module _ (apart : AreNamedApart (leaves_of d)) where
    only : (of : Ref) (leaf : Leaf) → Has (leaves_of d) leaf → names_leaf of leaf ≡ true → leaf_named (leaves_of d) of ≡ Some leaf
    only of leaf h e =
        let r = find_there (names_leaf of) h e in
        let q = find-some (names_leaf of) (leaves_of d) r.1 in
        let i = apart r.0 leaf q.0 h (sym (same_name (named_by of) r.0.name q.1) ∙ same_name (named_by of) leaf.name e) in
        r.1 ∙ ap (λ l. Some l) i

    ones : (leaf : Leaf) → Has (leaves_of d) leaf → (o : Option Proof) → find (λ proof. names_leaf proof.of leaf) (proofs_in d.uses) ≡ o → IsOfOnes (choice_by d (units_of d) leaf o)
    ones leaf h None e = record { picks = refl; claims = refl }
    ones leaf h (Some proof) e =
        let f = find-some (λ proof. names_leaf proof.of leaf) (proofs_in d.uses) e in
        let u = Has-from_flat_map (λ using. map (λ of. record { using = using; of = of }) using.proves) d.uses f.0 in
        let v = Has-from_map _ u.0.proves u.2 in
        let same : u.0 ≡ proof.using = sym (ap (λ (proof : Proof). proof.using) v.2) in
        let named : v.0 ≡ proof.of = sym (ap (λ (proof : Proof). proof.of) v.2) in
        let is_used : Has d.uses proof.using = subst (Has d.uses) same u.1 in
        let is_proved : Has proof.using.proves proof.of = subst (λ (using : FlatUsing). Has using.proves proof.of) same (subst (Has u.0.proves) named v.1) in
        let is_leaf : Has (proved_leaves d (units_of d) (leaves_of d) proof.using) leaf =
        Has-flat_map (λ of. option_to_list (leaf_named (leaves_of d) of)) is_proved (subst (λ o. Has (option_to_list o) leaf) (sym (only proof.of leaf h f.1)) first) in
        let own = own_map d (units_of d) leaf in
        record {
          picks = ap (later (λ (p q : Pick). nat_eq p.family q.family)) (filter-map (λ p. not (is_own own p)) (λ (x : ℕ × Pick). x.1) (picks_in d proof.using.uses))
              ∙ (later_map (λ (p q : Pick). nat_eq p.family q.family) (λ (x : ℕ × Pick). x.1) (filter (λ x. not (is_own own x.1)) (picks_in d proof.using.uses))
              ∙ ap (map (λ (x : ℕ × Pick). x.1)) (none_there (chosen_again d (units_of d) (leaves_of d) proof.using leaf) (no_pick proof.using is_used leaf is_leaf)));
          claims = later_map (λ (a b : Assumed). nat_eq a.claim b.claim) (λ (x : ℕ × Assumed). x.1) (assumed_in d proof.using.uses)
              ∙ ap (map (λ (x : ℕ × Assumed). x.1)) (none_there (later (λ (x y : ℕ × Assumed). nat_eq x.1.claim y.1.claim) (assumed_in d proof.using.uses)) (no_claim proof.using is_used));
        }

pub choices_are_of_ones : ChoicesAreOfOnes
choices_are_of_ones d apart none c h =
    let r = Has-from_map (choice_of d (units_of d)) (leaves_of d) h in
    subst IsOfOnes (sym r.2) (ones d none apart r.0 r.1 (find (λ proof. names_leaf proof.of r.0) (proofs_in d.uses)) refl)
