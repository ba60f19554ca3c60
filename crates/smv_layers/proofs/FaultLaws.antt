-- The first of several faults, put together.
use Rattle.std.proofs.Common.{◌≡◌, List, [], ◌∷◌, ◌++◌, map, Bool, true, false, refl, ap, sym, ◌∙◌}
use Rattle.std.specs.Prelude.{Option, Some, None, filter, slice_get, cond}
use Rattle.std.specs.List.{flat_map}
use Rattle.smv_core.specs.declared.fault.Fault.{Fault}
use Rattle.smv_core.specs.declared.flat.Family.{Family}
use Rattle.smv_mentions.specs.FirstFault.{first_of, faults_at}
use Rattle.smv_first_fault.specs.Firsts.{earlier_of}
use Rattle.smv_first_fault.proofs.FirstLaws.{earlier-assoc, earlier-comm, earlier-none}
use Rattle.law_designs.specs.Reading.{Reference}
use Rattle.smv_layers.specs.Leaks.{is_abstract, first_among, first_read, fault_if_abstract}

pub among-append : (xs ys : List (Option Fault)) → first_among (xs ++ ys) ≡ earlier_of (first_among xs) (first_among ys)
among-append [] ys = refl
among-append (x ∷ xs) ys = ap (earlier_of x) (among-append xs ys) ∙ sym (earlier-assoc x (first_among xs) (first_among ys))

-- a b and c d, put together, are a c and b d
pub crossed : (a b c d : Option Fault) → earlier_of (earlier_of a b) (earlier_of c d) ≡ earlier_of (earlier_of a c) (earlier_of b d)
crossed a b c d =
    earlier-assoc a b (earlier_of c d)
    ∙ ap (earlier_of a) (sym (earlier-assoc b c d) ∙ ap (λ f. earlier_of f d) (earlier-comm b c) ∙ earlier-assoc c b d)
    ∙ sym (earlier-assoc a c (earlier_of b d))

module _ (families : List Family) where
  pub read-cons : (r : Reference) (rs : List Reference) → first_read families (r ∷ rs) ≡ earlier_of (fault_if_abstract families 19 r.family r.at) (first_read families rs)
  read-cons r rs = by (is_abstract (slice_get families r.family))
    where
      by : (b : Bool) → first_of (faults_at (19, map (λ (r : Reference). r.at) (cond b (r ∷ filter (λ (r : Reference). is_abstract (slice_get families r.family)) rs) (filter (λ (r : Reference). is_abstract (slice_get families r.family)) rs))))
          ≡ earlier_of (cond b (Some (record { number = 19; at = r.at })) None) (first_read families rs)
      by true = refl
      by false = refl

  pub read-append : (xs ys : List Reference) → first_read families (xs ++ ys) ≡ earlier_of (first_read families xs) (first_read families ys)
  read-append [] ys = refl
  read-append (x ∷ xs) ys =
      read-cons x (xs ++ ys) ∙ ap (earlier_of (fault_if_abstract families 19 x.family x.at)) (read-append xs ys)
      ∙ sym (earlier-assoc (fault_if_abstract families 19 x.family x.at) (first_read families xs) (first_read families ys))
      ∙ ap (λ f. earlier_of f (first_read families ys)) (sym (read-cons x xs))

  pub read-flat_map : {X : Type 0} (f : X → List Reference) (xs : List X) → first_read families (flat_map f xs) ≡ first_among (map (λ x. first_read families (f x)) xs)
  read-flat_map f [] = refl
  read-flat_map f (x ∷ xs) = read-append (f x) (flat_map f xs) ∙ ap (earlier_of (first_read families (f x))) (read-flat_map f xs)

pub ruleset in_turn = (earlier-assoc, earlier-none)
