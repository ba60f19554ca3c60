-- The schedule from the first function to ring 0 as a run of operations.
use Rattle.std.proofs.Common.{◌≡◌, ℕ, suc, ◌+◌, ◌<◌, inl, inr, List, [], ◌∷◌, ◌++◌, map, length, take, get_or, refl, sym, ◌∙◌, ap, subst, arith, append_assoc}
use Rattle.std.proofs.Math.Seq.{take-suc}
use Rattle.bdd_store.specs.declared.Ref.{Ref}
use Rattle.bdd_store.specs.Diagram.{Diagram, IsLive, AreLive, table}
use Rattle.smv_rings.specs.declared.Rel.{Rel}
use Rattle.smv_rings.specs.Lists.{lists_of, refs_of}
use Rattle.smv_rings.specs.Schedule.Act.{Join, Look_at}
use Rattle.smv_rings.specs.declared.ops.Op.{Op}
use Rattle.smv_rings.specs.declared.ops.Op.TheVariants.{And, Look}
use Rattle.smv_rings.specs.Ops.{IsOneOf, acts_of, refs_in_all}
use Rattle.smv_rings.proofs.Whole.{map_append}
use Rattle.smv_rings.proofs.Refs.{one_append, one_at, each_live, in_now_first, in_before_first, in_broken_first}
use Rattle.smv_rings.proofs.Plans.{refs_append}
use Rattle.smv_rings.proofs.Kept.{acts_append}
use Rattle.smv_search.specs.Runs.{behind_first, opening}

-- one more conjunction
pub acts_and : (d : Diagram) (k : ℕ) (old ops new : List Op) (fs : List Ref) (i : ℕ) (o : Ref) → i < length fs → new ≡ ops ++ (And (get_or fs i o) ∷ []) → acts_of d k ops ≡ acts_of d k old ++ map Join (map (table d) (take i fs)) → acts_of d k new ≡ acts_of d k old ++ map Join (map (table d) (take (i + 1) fs))
acts_and d k old ops new fs i o lt pushed is =
    let e : suc i ≡ i + 1 = omega arith in
    ap (acts_of d k) pushed ∙ acts_append d k ops (And (get_or fs i o) ∷ []) ∙ ap (λ acts. acts ++ (Join (table d (get_or fs i o)) ∷ [])) is
    ∙ append_assoc (acts_of d k old) (map Join (map (table d) (take i fs))) (Join (table d (get_or fs i o)) ∷ [])
    ∙ ap (λ acts. acts_of d k old ++ acts) (sym (ap (λ gs. map Join gs) (map_append (table d) (take i fs) (get_or fs i o ∷ [])) ∙ map_append Join (map (table d) (take i fs)) (table d (get_or fs i o) ∷ [])))
    ∙ ap (λ rs. acts_of d k old ++ map Join (map (table d) rs)) (sym (take-suc fs i o lt) ∙ ap (λ j. take j fs) e)

pub refs_and : (old ops new : List Op) (fs : List Ref) (i : ℕ) (o : Ref) → i < length fs → new ≡ ops ++ (And (get_or fs i o) ∷ []) → refs_in_all ops ≡ refs_in_all old ++ take i fs → refs_in_all new ≡ refs_in_all old ++ take (i + 1) fs
refs_and old ops new fs i o lt pushed is =
    let e : suc i ≡ i + 1 = omega arith in
    ap refs_in_all pushed ∙ refs_append ops (And (get_or fs i o) ∷ []) ∙ ap (λ rs. rs ++ (get_or fs i o ∷ [])) is
    ∙ append_assoc (refs_in_all old) (take i fs) (get_or fs i o ∷ [])
    ∙ ap (λ rs. refs_in_all old ++ rs) (sym (take-suc fs i o lt) ∙ ap (λ j. take j fs) e)

behind_map : {A B : Type 0} → (f : A → B) (xs : List A) → behind_first (map f xs) ≡ map f (behind_first xs)
behind_map f [] = refl
behind_map f (x ∷ xs) = refl

in_behind : (r : Ref) (rs : List Ref) → IsOneOf r (behind_first rs) → IsOneOf r rs
in_behind r [] one = one
in_behind r (x ∷ xs) one = inr one

-- what these operations are
module _ (rel : Rel) (o1 o2 o3 : List Op) (e2 : o2 ≡ o1 ++ (Look rel.broken_first ∷ [])) where
  pub opening_acts : (d : Diagram) → acts_of d 0 o1 ≡ map Join (map (table d) (behind_first rel.now_first.items)) → acts_of d 0 o3 ≡ acts_of d 0 o2 ++ map Join (map (table d) rel.before_first.items) → acts_of d 0 o3 ≡ opening (lists_of d rel)
  unfolding lists_of
  opening_acts d e1 e3 =
      e3
      ∙ ap (λ acts. acts ++ map Join (map (table d) rel.before_first.items)) (ap (acts_of d 0) e2 ∙ acts_append d 0 o1 (Look rel.broken_first ∷ []))
      ∙ append_assoc (acts_of d 0 o1) (Look_at 0 (table d rel.broken_first) ∷ []) (map Join (map (table d) rel.before_first.items))
      ∙ ap (λ acts. acts ++ (Look_at 0 (table d rel.broken_first) ∷ map Join (map (table d) rel.before_first.items))) (e1 ∙ ap (λ fs. map Join fs) (sym (behind_map (table d) rel.now_first.items)))

  pub opening_refs : refs_in_all o1 ≡ behind_first rel.now_first.items → refs_in_all o3 ≡ refs_in_all o2 ++ rel.before_first.items → (r : Ref) → IsOneOf r (refs_in_all o3) → IsOneOf r (refs_of rel)
  opening_refs e1 e3 r one = elim (one_append r (refs_in_all o2) rel.before_first.items (subst (IsOneOf r) e3 one)) [
    | inr before ↦ in_before_first rel r before
    | inl two ↦ elim (one_append r (refs_in_all o1) (rel.broken_first ∷ []) (subst (IsOneOf r) (ap refs_in_all e2 ∙ refs_append o1 (Look rel.broken_first ∷ [])) two)) [
      | inl first ↦ in_now_first rel r (in_behind r rel.now_first.items (subst (IsOneOf r) e1 first))
      | inr broken ↦ elim broken [ inl e ↦ in_broken_first rel r e | inr none ↦ absurd none ]
    ]
  ]

pub first_live : (d : Diagram) (rel : Rel) (o : Ref) → AreLive d (refs_of rel) → 0 < length rel.now_first.items → IsLive d (get_or rel.now_first.items 0 o)
first_live d rel o live lt = each_live d (refs_of rel) live (get_or rel.now_first.items 0 o) (in_now_first rel (get_or rel.now_first.items 0 o) (one_at rel.now_first.items 0 o lt))
