-- What an expression reads, where variables take all places of their types.
use Rattle.std.proofs.Common.{◌≡◌, ℕ, zero, suc, ◌+◌, ◌<◌, ◌≤◌, List, [], ◌∷◌, ◌++◌, map, length, drop, refl, sym, ap, ◌∙◌, arith}
use Rattle.std.specs.List.{flat_map, slice_index_or}
use Rattle.std.proofs.lemmas.List.{map-append, append-nil}
use Rattle.std.proofs.lemmas.List.Folds.{flat_map-map}
use Rattle.law_lists.proofs.Lists.{append_again, flat_map-flat_map, map-flat_map, flat_map_alike}
use Rattle.smv_core.specs.declared.flat.Param.{Param}
use Rattle.smv_core.specs.declared.flat.FlatExpr.{FlatExpr}
use Rattle.law_obligations.specs.Sets.{one_of_each}
use Rattle.law_obligations.specs.Places.{Place, named_in}
use Rattle.law_obligations.specs.Cones.{AbsElement, elements_read}
use Rattle.smv_problem.specs.Written.{written_element}
use Rattle.smv_spots.specs.declared.spots.Spot.{Spot}
use Rattle.smv_reads.specs.declared.bindings.View.{View}
use Rattle.smv_reads.specs.Views.{world_of, place_in, places}
use Rattle.smv_reads.specs.Reading.{read_in}
use Rattle.smv_cone.specs.Begins.{read_instances}

module _ (v : View) (front : List Spot) (body : FlatExpr) where
  pub instances-end : read_instances v front [] body ≡ read_in v front body
  unfolding read_instances read_in
  instances-end = ap (map written_element) (append-nil (elements_read (world_of v) body (places v front ++ [])) ∙ ap (elements_read (world_of v) body) (append-nil (places v front)))

  pub instances-more : (param : Param) (more : List Param) (spots : List Spot) → places v spots ≡ named_in (world_of v) param.over → read_instances v front (param ∷ more) body ≡ flat_map (λ p. read_instances v (front ++ p ∷ []) more body) spots
  unfolding read_instances
  instances-more param more spots e =
      let pss = map (λ (p : Param). named_in (world_of v) p.over) more in
      let f : List Place → List AbsElement = λ b. elements_read (world_of v) body (places v front ++ b) in
      let g : Place → List AbsElement = λ q. flat_map (λ b. elements_read (world_of v) body ((places v front ++ q ∷ []) ++ b)) (one_of_each pss) in
      ap (map written_element)
      (flat_map-flat_map f (λ q. map (λ b. q ∷ b) (one_of_each pss)) (named_in (world_of v) param.over)
      ∙ flat_map_alike (λ q. flat_map f (map (λ b. q ∷ b) (one_of_each pss))) g (named_in (world_of v) param.over) (λ q.
      flat_map-map f (λ b. q ∷ b) (one_of_each pss)
      ∙ flat_map_alike (λ b. f (q ∷ b)) (λ b. elements_read (world_of v) body ((places v front ++ q ∷ []) ++ b)) (one_of_each pss) (λ b. ap (elements_read (world_of v) body) (sym (append_again (places v front) b q)))))
      ∙ (map-flat_map written_element g (named_in (world_of v) param.over)
      ∙ (ap (flat_map (λ q. map written_element (g q))) (sym e)
      ∙ (flat_map-map (λ q. map written_element (g q)) (place_in v) spots
      ∙ flat_map_alike (λ s. map written_element (g (place_in v s))) (λ s. read_instances v (front ++ s ∷ []) more body) spots (λ s.
      ap (λ (ps : List Place). map written_element (flat_map (λ b. elements_read (world_of v) body (ps ++ b)) (one_of_each pss))) (sym (map-append (place_in v) front (s ∷ [])))))))

drop-more : (params : List Param) (k : ℕ) (param : Param) → k < length params → param ≡ slice_index_or params k param → drop k params ≡ param ∷ drop (suc k) params
drop-more [] k param l e = absurd (omega arith)
drop-more (p ∷ params) zero param l e = ap (λ (q : Param). q ∷ params) (sym e)
drop-more (p ∷ params) (suc k) param l e = drop-more params k param (omega arith) e

drop-all : (params : List Param) (k : ℕ) → length params ≤ k → drop k params ≡ []
drop-all [] zero l = refl
drop-all [] (suc k) l = refl
drop-all (p ∷ params) zero l = absurd (omega arith)
drop-all (p ∷ params) (suc k) l = drop-all params k (omega arith)

-- from a place on
pub instances-at : (v : View) (front : List Spot) (body : FlatExpr) (params : List Param) (k : ℕ) (param : Param) (spots : List Spot) → k < length params → param ≡ slice_index_or params k param → places v spots ≡ named_in (world_of v) param.over →
    flat_map (λ p. read_instances v (front ++ p ∷ []) (drop (k + 1) params) body) spots ≡ read_instances v front (drop k params) body
instances-at v front body params k param spots l i e =
    let next : k + 1 ≡ suc k = omega arith in
    ap (λ (n : ℕ). flat_map (λ p. read_instances v (front ++ p ∷ []) (drop n params) body) spots) next
    ∙ sym (ap (λ (ps : List Param). read_instances v front ps body) (drop-more params k param l i) ∙ instances-more v front body param (drop (suc k) params) spots e)

pub instances-over : (v : View) (front : List Spot) (body : FlatExpr) (params : List Param) (k : ℕ) → length params ≤ k → read_in v front body ≡ read_instances v front (drop k params) body
instances-over v front body params k l = sym (ap (λ (ps : List Param). read_instances v front ps body) (drop-all params k l) ∙ instances-end v front body)
