-- The instances of a claim, parameter by parameter.
use Rattle.std.proofs.Common.{◌≡◌, ℕ, suc, ◌+◌, ◌<◌, ◌≤◌, List, [], ◌∷◌, ◌++◌, map, length, drop, refl, sym, ap, ◌∙◌, arith}
use Rattle.std.specs.List.{flat_map, slice_index_or}
use Rattle.std.proofs.lemmas.List.{append-nil}
use Rattle.law_lists.proofs.Lists.{append_again, map-flat_map, flat_map_alike, map-map}
use Rattle.law_lists.proofs.Places.{drop_past}
use Rattle.smv_core.specs.declared.flat.Param.{Param}
use Rattle.smv_core.specs.declared.flat.FlatExpr.{FlatExpr}
use Rattle.law_obligations.specs.Sets.{one_of_each}
use Rattle.smv_problem.specs.declared.problem.Demand.{Demand}
use Rattle.smv_problem.specs.declared.problem.Demand.TheVariants.{Holds}
use Rattle.smv_spots.specs.declared.spots.Spot.{Spot}
use Rattle.smv_cone.specs.declared.parts.Part.{Part}
use Rattle.smv_obligations.specs.Demands.{spots_of, held_from}
use Rattle.smv_obligations.proofs.Lists.{drop-more}

module _ (p : Part) (front : List Spot) (body : FlatExpr) where
  instances-end : held_from p front [] body ≡ Holds body front ∷ []
  unfolding held_from
  instances-end = ap (λ (ss : List Spot). Holds body ss ∷ []) (append-nil front)

  instances-more : (param : Param) (more : List Param) → held_from p front (param ∷ more) body ≡ flat_map (λ s. held_from p (front ++ s ∷ []) more body) (spots_of p param.over)
  unfolding held_from
  instances-more param more =
      let each = one_of_each (map (λ (q : Param). spots_of p q.over) more) in
      map-flat_map (λ (b : List Spot). Holds body (front ++ b)) (λ (s : Spot). map (λ (b : List Spot). s ∷ b) each) (spots_of p param.over)
      ∙ flat_map_alike (λ (s : Spot). map (λ (b : List Spot). Holds body (front ++ b)) (map (λ (b : List Spot). s ∷ b) each)) (λ (s : Spot). map (λ (b : List Spot). Holds body ((front ++ s ∷ []) ++ b)) each) (spots_of p param.over)
      (λ s. map-map (λ (b : List Spot). Holds body (front ++ b)) (λ (b : List Spot). s ∷ b) each ∙ same s each)
    where
      same : (s : Spot) (bs : List (List Spot)) → map (λ (b : List Spot). Holds body (front ++ s ∷ b)) bs ≡ map (λ (b : List Spot). Holds body ((front ++ s ∷ []) ++ b)) bs
      same s [] = refl
      same s (b ∷ bs) = ap (λ (ss : List Spot). Holds body ss ∷ map (λ (b : List Spot). Holds body (front ++ s ∷ b)) bs) (sym (append_again front b s)) ∙ ap (λ (ds : List Demand). Holds body ((front ++ s ∷ []) ++ b) ∷ ds) (same s bs)

-- from a place on
pub instances-at : (p : Part) (front : List Spot) (body : FlatExpr) (params : List Param) (k : ℕ) (param : Param) (spots : List Spot) → k < length params → param ≡ slice_index_or params k param → spots ≡ spots_of p param.over →
    flat_map (λ s. held_from p (front ++ s ∷ []) (drop (k + 1) params) body) spots ≡ held_from p front (drop k params) body
instances-at p front body params k param spots l i e =
    let next : k + 1 ≡ suc k = omega arith in
    ap (λ (n : ℕ). flat_map (λ s. held_from p (front ++ s ∷ []) (drop n params) body) spots) next
    ∙ (ap (flat_map (λ s. held_from p (front ++ s ∷ []) (drop (suc k) params) body)) e ∙ sym (ap (λ (ps : List Param). held_from p front ps body) (drop-more params k param l i) ∙ instances-more p front body param (drop (suc k) params)))

pub instances-over : (p : Part) (front : List Spot) (body : FlatExpr) (params : List Param) (k : ℕ) → length params ≤ k → Holds body front ∷ [] ≡ held_from p front (drop k params) body
instances-over p front body params k l = sym (ap (λ (ps : List Param). held_from p front ps body) (drop_past params k l) ∙ instances-end p front body)
