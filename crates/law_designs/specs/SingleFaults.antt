-- The faults of single assignment, each as the list of the places where its rule is broken.
use Rattle.std.specs.Prelude.{ℕ, List, [], ◌∷◌, ◌++◌, map, flat_map, filter, zip, Option, Bool, false, not, ◌&&◌, if◌then◌else◌, nat_eq}
use Rattle.std.specs.List.{list_any, list_all}
use Rattle.smv_core.specs.Types.{names_of}
use Rattle.smv_core.specs.Outcome.{same_path}
use Rattle.smv_core.specs.Walk.{same_kind}
use Rattle.smv_core.specs.Assignments.{Index}
use Rattle.smv_core.specs.Conflicts.{are_two_constants, are_both}
use Rattle.smv_core.specs.FlatMeaning.{flat_index}
use Rattle.smv_core.specs.declared.fault.Fault.{Fault}
use Rattle.smv_core.specs.declared.tree.Kind.{Kind}
use Rattle.smv_core.specs.declared.tree.Kind.TheVariants.{Comb}
use Rattle.smv_core.specs.declared.flat.Claim.{Claim}
use Rattle.smv_core.specs.declared.flat.FlatText.{FlatText}
use Rattle.smv_core.specs.declared.flat.FlatExpr.{FlatExpr, Var}
use Rattle.smv_core.specs.declared.flat.FlatStmt.{FlatStmt, Assign, If', Block', Default', Forall', Row_of-FlatStmt, end_of-FlatStmt, more_of-FlatStmt}
use Rattle.smv_mentions.specs.NameFaults.{place_if}
use Rattle.smv_mentions.specs.FirstFault.{faults_at, first_of}
use Rattle.law_designs.specs.WholeText.{is_one_layer, claims_of}
use Rattle.law_designs.specs.Standing.{Statement, statements_of, Standing, standing, standing_in, assigned_by}
use Rattle.smv_core.specs.Rows.{one_flat_stmt}

-- the indexes of the two left sides, side by side
abbrev pub beside : Standing → Standing → List (Index × Index)
beside a b = zip (map flat_index a.left) (map flat_index b.left)

-- two left sides differ at some index in two constants
abbrev pub differ : Standing → Standing → Bool
differ a b = list_any (λ (i, j). are_two_constants i j) (beside a b)

-- of one definition set and family, and not told apart by two constants
abbrev pub may_meet : Standing → Standing → Bool
may_meet a b = is_one_layer a.layer b.layer && (nat_eq a.family b.family && not (differ a b))

-- the places of those of the later ones that clash with an earlier one
abbrev pub later_places : (Standing → Standing → Bool) → List Standing → List Standing → List ℕ
later_places clash earlier later = flat_map (λ a. map (λ (b : Standing). b.at) (filter (clash a) later)) earlier

-- ---- fault 15: a conflict of two assignments (a choice of this project)

-- of one definition set, family and kind, and not told apart by two constants
abbrev pub meet : Standing → Standing → Bool
meet a b = same_kind a.kind b.kind && may_meet a b

-- the variable stands bare at one index of both
abbrev pub share : Standing → Standing → ℕ → Bool
share a b k = list_any (λ (i, j). are_both k i j) (beside a b)

-- in different branches of an `if` or parts of a `default` inside these `forall` variables: they meet, and do not share each of the variables
abbrev pub cross : List ℕ → Standing → Standing → Bool
cross around a b = meet a b && not (list_all (share a b) around)

module _ (layer : Option ℕ) where
  abbrev mutual
    -- the places of the later ones of two conflicting assignments of a statement of a layer, inside these `forall` variables
    pub conflicts : List ℕ → FlatStmt → List ℕ
    conflicts around (Assign kind family left value at) = []
    conflicts around (If' cond l (one_flat_stmt left) r (one_flat_stmt right)) =
        conflicts around left ++ conflicts around right ++ later_places (cross around) (standing layer around left) (standing layer around right)
    conflicts around (Block' shape parts) = conflicts_in around parts
    conflicts around (Default' l (one_flat_stmt left) r (one_flat_stmt right)) =
        conflicts around left ++ conflicts around right ++ later_places (cross around) (standing layer around left) (standing layer around right)
    conflicts around (Forall' var over shape (one_flat_stmt body)) = conflicts (var ∷ around) body

    pub conflicts_in : {m : _} → List ℕ → Row_of-FlatStmt m → List ℕ
    conflicts_in around end_of-FlatStmt = []
    conflicts_in around (more_of-FlatStmt part rest) = conflicts around part ++ conflicts_in around rest ++ later_places meet (standing layer around part) (standing_in layer around rest)

-- those of the statements of a text
abbrev pub conflicting : List Statement → List ℕ
conflicting [] = []
conflicting (s ∷ more) = conflicts s.layer [] s.act ++ conflicting more ++ later_places meet (assigned_by s) (flat_map assigned_by more)

-- ---- fault 16: `:=` beside `init` or `next`

abbrev pub is_comb : Kind → Bool
is_comb kind = same_kind kind Comb

-- a `:=` and an `init` or `next` of one definition set and family, not told apart by two constants
abbrev pub are_mixed : Standing → Standing → Bool
are_mixed a b = (if is_comb a.kind then not (is_comb b.kind) else is_comb b.kind) && may_meet a b

-- the places of the later ones
abbrev pub mixed : List Standing → List ℕ
mixed [] = []
mixed (a ∷ more) = later_places are_mixed (a ∷ []) more ++ mixed more

-- ---- fault 17: a left side or a claim without its variables

-- the variable alone
abbrev pub is_variable : ℕ → FlatExpr → Bool
is_variable k (Var var at) = nat_eq var k
is_variable k _ = false

-- each `forall` variable around it is a bare index of the left side
abbrev pub has_variables : Standing → Bool
has_variables a = list_all (λ k. list_any (is_variable k) a.left) a.around

abbrev pub lacking : Standing → List ℕ
lacking a = place_if (not (has_variables a)) a.at

-- the names in the brackets are exactly the variables of the `forall`s around the claim, from the outside in
abbrev pub unnamed : Claim → List ℕ
unnamed c = place_if (not (same_path (names_of c.vars) (map (λ p. p.name) c.params))) c.at

-- ---- the faults of a flattened text

-- the assignments in flat order
abbrev pub assigned_in : FlatText → List Standing
assigned_in flat_text = flat_map assigned_by (statements_of flat_text)

-- all places of each fault of single assignment, each with its number
abbrev pub single_faults : FlatText → List (ℕ × List ℕ)
single_faults flat_text =
    (15, conflicting (statements_of flat_text))
    ∷ (16, mixed (assigned_in flat_text))
    ∷ (17, flat_map lacking (assigned_in flat_text) ++ flat_map unnamed (claims_of flat_text.items)) ∷ []

abbrev pub faults_of_single : FlatText → List Fault
faults_of_single flat_text = flat_map faults_at (single_faults flat_text)

-- The first fault of a flattened text among 15 to 17. A text with an earlier fault is not asked for.
abbrev pub first_fault_of_single : FlatText → Option Fault
first_fault_of_single flat_text = first_of (faults_of_single flat_text)
