-- Images, by a turn over the lists in which these functions alone hold in a step.
use Rattle.std.proofs.Common.{◌≡◌, ◌↔◌, ℕ, ◌*◌, true, List, [], ◌∷◌, ◌++◌, map, refl, sym, ◌∙◌, ap, subst, inl, inr}
use Rattle.bdd_store.specs.declared.Ref.{Ref}
use Rattle.bdd_store.specs.Diagram.{Diagram, IsLive, AreLive, IsConstant, table}
use Rattle.smv_rings.specs.Functions.{DependsBelow}
use Rattle.smv_rings.specs.declared.Rel.{Rel}
use Rattle.smv_rings.specs.declared.ops.Op.{Op}
use Rattle.smv_rings.specs.Lists.{State, both, at, all_of, AllCurrent, IsCurrent, IsRel, lists_of, refs_of}
use Rattle.smv_rings.specs.Paths.{Steps}
use Rattle.smv_rings.specs.Schedule.{after, turn}
use Rattle.smv_rings.specs.Ops.{IsOneOf, acts_of, refs_in_all, FitsActs}
use Rattle.smv_rings.proofs.Fits.{turn_fits}
use Rattle.smv_rings.proofs.Image.{image_to, image_from, image_current}
use Rattle.smv_rings.proofs.Refs.{one_append, each_live, live_each}
use Rattle.smv_rings.proofs.Rels.{lists_ok}
use Rattle.smv_rings.proofs.Tables.{table_below}
use Rattle.smv_ring_paths.specs.Steps.{IsStep}

constant_current : (d : Diagram) (r : Ref) → IsConstant d r true → IsCurrent (table d r)
constant_current d r constant b a = constant _ ∙ sym (constant _)

module _ (d : Diagram) (rel : Rel) (fs : List Ref) (now_first : rel.now_first.items ≡ []) (before_first : rel.before_first.items ≡ []) (now_step : rel.now_step.items ≡ fs) (before_step : rel.before_step.items ≡ []) where
  refs_are : refs_of rel ≡ rel.broken_first ∷ (fs ++ (rel.broken_step ∷ []))
  unfolding refs_of
  refs_are =
      ap (λ rs. rs ++ (rel.before_first.items ++ (rel.broken_first ∷ (rel.now_step.items ++ (rel.before_step.items ++ (rel.broken_step ∷ [])))))) now_first
      ∙ ap (λ rs. rs ++ (rel.broken_first ∷ (rel.now_step.items ++ (rel.before_step.items ++ (rel.broken_step ∷ []))))) before_first
      ∙ ap (λ rs. rel.broken_first ∷ (rs ++ (rel.before_step.items ++ (rel.broken_step ∷ [])))) now_step
      ∙ ap (λ rs. rel.broken_first ∷ (fs ++ (rs ++ (rel.broken_step ∷ [])))) before_step

  one_live : IsLive d rel.broken_first → IsLive d rel.broken_step → AreLive d fs → (r : Ref) → IsOneOf r (rel.broken_first ∷ (fs ++ (rel.broken_step ∷ []))) → IsLive d r
  one_live first step live r one = elim one [
    | inl e ↦ subst (IsLive d) (sym e) first
    | inr more ↦ elim (one_append r fs (rel.broken_step ∷ []) more) [
      | inl here ↦ each_live d fs live r here
      | inr last ↦ elim last [ inl e ↦ subst (IsLive d) (sym e) step | inr none ↦ absurd none ]
    ]
  ]

  pub alone_rel : IsLive d rel.broken_first → IsConstant d rel.broken_first true → IsLive d rel.broken_step → AreLive d fs → d.vars ≡ 2 * rel.bits → IsRel d rel
  alone_rel first constant step live vars = record {
    vars = vars;
    live = subst (AreLive d) (sym refs_are) (live_each d (rel.broken_first ∷ (fs ++ (rel.broken_step ∷ []))) (one_live first step live));
    now_first = subst (λ (rs : List Ref). AllCurrent (map (table d) rs)) (sym now_first) tt;
    before_first = subst (λ (rs : List Ref). AllCurrent (map (table d) rs)) (sym before_first) tt;
    broken_first = constant_current d rel.broken_first constant;
  }

-- a turn over these lists makes the image
module _ (d : Diagram) (rel : Rel) (fs : List Ref) (set : Ref) (ops : List Op) (ok : IsRel d rel) (now_step : rel.now_step.items ≡ fs) (before_step : rel.before_step.items ≡ []) (current : IsCurrent (table d set))
    (acts : acts_of d 1 ops ≡ turn (lists_of d rel) 0) where
  set_below : DependsBelow (2 * rel.bits) (table d set)
  set_below = subst (λ (n : ℕ). DependsBelow n (table d set)) ok.vars (table_below d set)

  pub image_fits : FitsActs d.vars (table d set) (acts_of d 1 ops)
  unfolding lists_of
  image_fits =
      subst (λ (n : ℕ). FitsActs n (table d set) (acts_of d 1 ops)) (sym ok.vars)
      (subst (FitsActs (2 * rel.bits) (table d set)) (sym acts) (turn_fits (lists_of d rel) (lists_ok d rel ok) (table d set) 0 set_below))

  pub image_refs : ((r : Ref) → IsOneOf r (refs_in_all ops) → IsOneOf r (refs_of rel)) → (r : Ref) → IsOneOf r (refs_in_all ops) → IsLive d r
  image_refs refs r one = each_live d (refs_of rel) ok.live r (refs r one)

  steps_to : (s t : State) → Steps (lists_of d rel) s t → all_of (map (table d) fs) (both s t) ≡ true
  unfolding lists_of
  steps_to s t steps = subst (λ (rs : List Ref). all_of (map (table d) rs) (both s t) ≡ true) now_step steps.0

  steps_from : (s t : State) → all_of (map (table d) fs) (both s t) ≡ true → Steps (lists_of d rel) s t
  unfolding lists_of
  steps_from s t holds = (
    subst (λ (rs : List Ref). all_of (map (table d) rs) (both s t) ≡ true) (sym now_step) holds,
    subst (λ (rs : List Ref). all_of (map (table d) rs) (both s t) ≡ true) (sym before_step) refl,
  )

  module _ (e : Diagram) (made : Ref) (is : table e made ≡ after (table d set) (acts_of d 1 ops)) where
    made_is : table e made ≡ after (table d set) (turn (lists_of d rel) 0)
    made_is = is ∙ ap (after (table d set)) acts

    pub image_is_current : IsCurrent (table e made)
    unfolding lists_of
    image_is_current = subst IsCurrent (sym made_is) (image_current (lists_of d rel) (lists_ok d rel ok) (table d set) 0 set_below)

    pub image_means : (s : State) → (table e made (at s) ≡ true) ↔ ((old : State) × IsStep (table d set) (map (table d) fs) old s)
    unfolding lists_of
    image_means s = (
      (λ t. let found = image_to (lists_of d rel) (lists_ok d rel ok) (table d set) 0 set_below current s (sym (ap (λ f. f (at s)) made_is) ∙ t) in (found.0, record { is_from = found.1; holds = steps_to found.0 s found.2 })),
      λ (old, step). ap (λ f. f (at s)) made_is ∙ image_from (lists_of d rel) (lists_ok d rel ok) (table d set) 0 set_below current old s step.is_from (steps_from old s step.holds),
    )
