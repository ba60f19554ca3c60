-- The first fault in a part of a definition, on parts that are made of lists and values; and that it is the first fault of the part's assignments.
use Rattle.std.proofs.Common.{◌≡◌, ℕ, List, ◌++◌, map, refl, ap, ◌∙◌}
use Rattle.std.specs.Prelude.{Option, None}
use Rattle.std.specs.List.{flat_map}
use Rattle.std.proofs.lemmas.List.{map-append}
use Rattle.smv_core.specs.declared.fault.Fault.{Fault}
use Rattle.smv_core.specs.declared.flat.Simple.{Simple}
use Rattle.smv_core.specs.declared.flat.Family.{Family}
use Rattle.smv_core.specs.declared.flat.FlatExpr.{FlatExpr}
use Rattle.smv_core.specs.declared.flat.DefBody.{DefBody, Nothing, Assign, If, If', First, First', Forall, Forall', Row_of-DefBody, end_of-DefBody, more_of-DefBody, items-the_row-DefBody, items_hidden-the_row-DefBody-1}
use mathlib.Core.Former.{Count}
use Rattle.smv_first_fault.specs.Firsts.{earlier_of}
use Rattle.law_designs.specs.Reading.{Reference, Reading, references, readings, readings_of}
use Rattle.smv_layers.specs.Leaks.{first_among, first_read, read_fault, fault_if_abstract, assigned_fault, part_fault, parts_fault}
use Rattle.smv_layers.proofs.FaultLaws.{read-append, read-flat_map, among-append}
use Rattle.smv_first_fault.proofs.FirstLaws.{earlier-none}

unfoldable boxes : Unit {0}
unfolding Rattle.smv_core.specs.declared.flat.DefBody.TheBlock.hidden-the_row-DefBody-0 Rattle.smv_core.specs.declared.flat.DefBody.TheBlock.shape-the_row-DefBody-0 denote.Hole.Carrier.hidden
boxes = tt

-- the first fault of an assignment
abbrev pub reading_fault : List Family → Reading → Option Fault
reading_fault fs a = earlier_of (first_read fs a.reads) (fault_if_abstract fs 20 a.family a.at)

module _ (fs : List Family) (family : ℕ) where
  parts-row : (around : Option Fault) (n : _) (row : Row_of-DefBody n) → parts_fault fs family around row ≡ first_among (map (part_fault fs family around) (items-the_row-DefBody n row))
  unfolding part_fault
  parts-row around n end_of-DefBody = refl
  parts-row around n (more_of-DefBody part rest) = ap (earlier_of (part_fault fs family around part)) (parts-row around _ rest)

  abbrev parts_in : DefBody → (k : Count) × Row_of-DefBody k
  parts_in (First' shape row) = (_, row)
  parts_in _ = (_, end_of-DefBody)

  pub part-Nothing : (around : Option Fault) → part_fault fs family around Nothing ≡ None
  unfolding part_fault
  part-Nothing around = refl

  pub part-Assign : (around : Option Fault) (left : List FlatExpr) (value : FlatExpr) (place at : ℕ) → part_fault fs family around (Assign left value place at) ≡ assigned_fault fs family around left value at
  unfolding part_fault
  part-Assign around left value place at = refl

  pub part-If : (around : Option Fault) (cond : FlatExpr) (left right : DefBody) →
      part_fault fs family around (If cond left right) ≡ earlier_of (part_fault fs family (earlier_of around (read_fault fs cond)) left) (part_fault fs family (earlier_of around (read_fault fs cond)) right)
  unfolding part_fault boxes
  part-If around cond left right = refl

  pub part-First : (around : Option Fault) (parts : List DefBody) → part_fault fs family around (First parts) ≡ first_among (map (part_fault fs family around) parts)
  unfolding part_fault
  part-First around parts =
      parts-row around (parts_in (First parts)).0 (parts_in (First parts)).1 ∙ ap (λ l. first_among (map (part_fault fs family around) l)) (items_hidden-the_row-DefBody-1 parts)

  pub part-Forall : (around : Option Fault) (var : ℕ) (over : Simple) (body : DefBody) → part_fault fs family around (Forall var over body) ≡ part_fault fs family around body
  unfolding part_fault boxes
  part-Forall around var over body = refl

  indexes-read : (left : List FlatExpr) → first_read fs (flat_map references left) ≡ first_among (map (read_fault fs) left)
  unfolding read_fault
  indexes-read left = read-flat_map fs references left

  assigned-reads : (reads : List Reference) (left : List FlatExpr) (value : FlatExpr) →
      first_read fs (reads ++ flat_map references left ++ references value) ≡ earlier_of (earlier_of (first_read fs reads) (first_among (map (read_fault fs) left))) (read_fault fs value)
  unfolding read_fault
  assigned-reads reads left value =
      read-append fs (reads ++ flat_map references left) (references value)
      ∙ ap (λ f. earlier_of f (read_fault fs value)) (read-append fs reads (flat_map references left) ∙ ap (earlier_of (first_read fs reads)) (indexes-read left))

  condition-reads : (reads : List Reference) (cond : FlatExpr) → first_read fs (reads ++ references cond) ≡ earlier_of (first_read fs reads) (read_fault fs cond)
  unfolding read_fault
  condition-reads reads cond = read-append fs reads (references cond)

  both : (xs ys : List Reading) (f g : Option Fault) → first_among (map (reading_fault fs) xs) ≡ f → first_among (map (reading_fault fs) ys) ≡ g → first_among (map (reading_fault fs) (xs ++ ys)) ≡ earlier_of f g
  both xs ys f g x y =
      ap first_among (map-append (reading_fault fs) xs ys) ∙ among-append (map (reading_fault fs) xs) (map (reading_fault fs) ys)
      ∙ ap (λ h. earlier_of h (first_among (map (reading_fault fs) ys))) x ∙ ap (earlier_of f) y

  mutual
    unfolding part_fault

    pub part-reads : (reads : List Reference) (part : DefBody) → first_among (map (reading_fault fs) (readings family reads part)) ≡ part_fault fs family (first_read fs reads) part
    part-reads reads Nothing = refl
    part-reads reads (Assign left value place at) = earlier-none _ ∙ ap (λ f. earlier_of f (fault_if_abstract fs 20 family at)) (assigned-reads reads left value)
    part-reads reads (If' cond l (more_of-DefBody left end_of-DefBody) r (more_of-DefBody right end_of-DefBody)) =
        both (readings family (reads ++ references cond) left) (readings family (reads ++ references cond) right) _ _
        (part-reads (reads ++ references cond) left ∙ ap (λ f. part_fault fs family f left) (condition-reads reads cond))
        (part-reads (reads ++ references cond) right ∙ ap (λ f. part_fault fs family f right) (condition-reads reads cond))
    part-reads reads (First' shape parts) = parts-read reads _ parts
    part-reads reads (Forall' var over shape (more_of-DefBody body end_of-DefBody)) = part-reads reads body

    parts-read : (reads : List Reference) (m : _) (row : Row_of-DefBody m) → first_among (map (reading_fault fs) (readings_of family reads row)) ≡ parts_fault fs family (first_read fs reads) row
    parts-read reads m end_of-DefBody = refl
    parts-read reads m (more_of-DefBody part rest) = both (readings family reads part) (readings_of family reads rest) _ _ (part-reads reads part) (parts-read reads _ rest)

pub ruleset equations = (part-Nothing, part-Assign, part-If, part-First, part-Forall)
