-- The first fault of layers is that of the definitions, one after the other.
use Rattle.std.proofs.Common.{◌≡◌, List, [], ◌∷◌, ◌++◌, map, Bool, true, false, refl, ap, ◌∙◌}
use Rattle.std.specs.Prelude.{Option, Some, None, filter, slice_get, cond, is_none}
use Rattle.std.specs.List.{flat_map}
use Rattle.std.proofs.lemmas.List.{map-append, append-nil}
use Rattle.smv_core.specs.declared.fault.Fault.{Fault}
use Rattle.smv_core.specs.declared.flat.Family.{Family}
use Rattle.smv_core.specs.declared.flat.Def.{Def}
use Rattle.smv_core.specs.declared.flat.DefBody.{DefBody}
use Rattle.smv_core.specs.declared.flat.Design.{Design}
use Rattle.smv_mentions.specs.FirstFault.{first_of, faults_at}
use Rattle.smv_first_fault.specs.Firsts.{earlier_of}
use Rattle.smv_first_fault.proofs.FirstLaws.{earlier-assoc, first-both}
use Rattle.law_designs.specs.Reading.{Reference, Reading, readings}
use Rattle.law_designs.specs.LayerFaults.{assignments_of, outside_layers}
use Rattle.law_designs.specs.FirstFault.{first_fault_of_layers}
use Rattle.smv_layers.specs.Leaks.{is_abstract, first_among, first_read, fault_if_abstract, part_fault, def_fault}
use Rattle.smv_layers.proofs.FaultLaws.{read-append, among-append, crossed}
use Rattle.smv_layers.proofs.PartLaws.{reading_fault, part-reads}

module _ (fs : List Family) where
  -- the first fault 20 of some assignments
  abbrev first_assigned : List Reading → Option Fault
  first_assigned as_ = first_of (faults_at (20, map (λ (a : Reading). a.at) (filter (λ (a : Reading). is_abstract (slice_get fs a.family)) as_)))

  assigned-cons : (a : Reading) (more : List Reading) → first_assigned (a ∷ more) ≡ earlier_of (fault_if_abstract fs 20 a.family a.at) (first_assigned more)
  assigned-cons a more = by (is_abstract (slice_get fs a.family))
    where
      by : (b : Bool) → first_of (faults_at (20, map (λ (a : Reading). a.at) (cond b (a ∷ filter (λ (a : Reading). is_abstract (slice_get fs a.family)) more) (filter (λ (a : Reading). is_abstract (slice_get fs a.family)) more))))
          ≡ earlier_of (cond b (Some (record { number = 20; at = a.at })) None) (first_assigned more)
      by true = refl
      by false = refl

  -- reading and assigning, put together
  together : (all : List Reading) → earlier_of (first_read fs (flat_map (λ (a : Reading). a.reads) all)) (first_assigned all) ≡ first_among (map (reading_fault fs) all)
  together [] = refl
  together (a ∷ more) =
      ap (λ f. earlier_of f (first_assigned (a ∷ more))) (read-append fs a.reads (flat_map (λ (a : Reading). a.reads) more))
      ∙ ap (earlier_of (earlier_of (first_read fs a.reads) (first_read fs (flat_map (λ (a : Reading). a.reads) more)))) (assigned-cons a more)
      ∙ crossed (first_read fs a.reads) (first_read fs (flat_map (λ (a : Reading). a.reads) more)) (fault_if_abstract fs 20 a.family a.at) (first_assigned more)
      ∙ ap (earlier_of (reading_fault fs a)) (together more)

  -- the assignments of a definition
  of_def : (def : Def) → first_among (map (reading_fault fs) (assignments_of def))
      ≡ earlier_of (part_fault fs def.family None def.init) (earlier_of (part_fault fs def.family None def.next) (part_fault fs def.family None def.comb))
  of_def def =
      let part : DefBody → List Reading = readings def.family [] in
      both (part def.init ++ part def.next) (part def.comb) ∙ ap (λ f. earlier_of f (first_among (map (reading_fault fs) (part def.comb)))) (both (part def.init) (part def.next))
      ∙ earlier-assoc (first_among (map (reading_fault fs) (part def.init))) (first_among (map (reading_fault fs) (part def.next))) (first_among (map (reading_fault fs) (part def.comb)))
      ∙ ap (λ f. earlier_of f (earlier_of (first_among (map (reading_fault fs) (part def.next))) (first_among (map (reading_fault fs) (part def.comb))))) (part-reads fs def.family [] def.init)
      ∙ ap (λ f. earlier_of (part_fault fs def.family None def.init) (earlier_of f (first_among (map (reading_fault fs) (part def.comb))))) (part-reads fs def.family [] def.next)
      ∙ ap (λ f. earlier_of (part_fault fs def.family None def.init) (earlier_of (part_fault fs def.family None def.next) f)) (part-reads fs def.family [] def.comb)
    where
      both : (xs ys : List Reading) → first_among (map (reading_fault fs) (xs ++ ys)) ≡ earlier_of (first_among (map (reading_fault fs) xs)) (first_among (map (reading_fault fs) ys))
      both xs ys = ap first_among (map-append (reading_fault fs) xs ys) ∙ among-append (map (reading_fault fs) xs) (map (reading_fault fs) ys)

  of_defs : (defs : List Def) → first_among (map (reading_fault fs) (flat_map assignments_of (filter (λ def. is_none def.layer) defs))) ≡ first_among (map (def_fault fs) defs)
  of_defs [] = refl
  of_defs (def ∷ defs) = by (is_none def.layer) (of_defs defs)
    where
      by : (b : Bool) → first_among (map (reading_fault fs) (flat_map assignments_of (filter (λ def. is_none def.layer) defs))) ≡ first_among (map (def_fault fs) defs)
          → first_among (map (reading_fault fs) (flat_map assignments_of (cond b (def ∷ filter (λ def. is_none def.layer) defs) (filter (λ def. is_none def.layer) defs))))
          ≡ earlier_of (cond b (earlier_of (part_fault fs def.family None def.init) (earlier_of (part_fault fs def.family None def.next) (part_fault fs def.family None def.comb))) None) (first_among (map (def_fault fs) defs))
      by true rest =
          ap first_among (map-append (reading_fault fs) (assignments_of def) (flat_map assignments_of (filter (λ def. is_none def.layer) defs)))
          ∙ among-append (map (reading_fault fs) (assignments_of def)) (map (reading_fault fs) (flat_map assignments_of (filter (λ def. is_none def.layer) defs)))
          ∙ ap (λ f. earlier_of f (first_among (map (reading_fault fs) (flat_map assignments_of (filter (λ def. is_none def.layer) defs))))) (of_def def)
          ∙ ap (earlier_of (earlier_of (part_fault fs def.family None def.init) (earlier_of (part_fault fs def.family None def.next) (part_fault fs def.family None def.comb)))) rest
      by false rest = rest

-- the first fault of layers
pub of_definitions : (d : Design) → first_fault_of_layers d ≡ first_among (map (def_fault d.families) d.defs)
of_definitions d =
    let all : List Reading = outside_layers d in
    first-both (faults_at (19, map (λ (r : Reference). r.at) (filter (λ (r : Reference). is_abstract (slice_get d.families r.family)) (flat_map (λ (a : Reading). a.reads) all)))) (faults_at (20, map (λ (a : Reading). a.at) (filter (λ (a : Reading). is_abstract (slice_get d.families a.family)) all)) ++ [])
    ∙ ap (λ (l : List Fault). earlier_of (first_read d.families (flat_map (λ (a : Reading). a.reads) all)) (first_of l)) (append-nil (faults_at (20, map (λ (a : Reading). a.at) (filter (λ (a : Reading). is_abstract (slice_get d.families a.family)) all))))
    ∙ together d.families all ∙ of_defs d.families d.defs
