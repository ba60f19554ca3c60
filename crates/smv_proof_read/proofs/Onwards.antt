-- What is read of bytes, line by line.
use Rattle.std.proofs.Common.{◌≡◌, ◌∙◌, ℕ, ◌-◌, ◌<◌, List, [], ◌∷◌, ◌++◌, length, Option, Some, None, Result, Err, Bool, if◌then◌else◌, refl, sym, ap, subst, arith}
use Rattle.std.specs.Result.{IsErrAnd}
use Rattle.law_lists.proofs.Numbers.{nat_eq-apart}
use Rattle.smv_proof.specs.declared.proof.Node.{Node}
use Rattle.smv_proof.specs.declared.proof.KeptSet.{KeptSet}
use Rattle.smv_proof.specs.Readings.{pieces, cut, node_of, Begun, begun_by, grown, Reading, settled, with_line, followed, sets_from}
use Rattle.smv_proof.proofs.Pieces.{pieces_behind, pieces_uncut, some_pieces}
use Rattle.smv_proof_read.specs.Onward.{onward, begun_at, between, with_lines, with_set}

abbrev state : List KeptSet → Option Begun → Reading
state sets begun = record { sets = sets; begun = begun }

sets_cons : (r : Reading) (l : List ℕ) (ls : List (List ℕ)) → (p : List ℕ) × (more : List (List ℕ)) × (ls ≡ p ∷ more) → sets_from r (l ∷ ls) ≡ followed (with_line r.sets r.begun (pieces 32 l)) (λ next. sets_from next ls)
sets_cons r l [] some = let bad : ⊥ = cc (some.2) in absurd bad
sets_cons r l (p ∷ more) some = refl

-- a line, and the bytes behind it
line_on : (sets : List KeptSet) (begun : Option Begun) (bytes line rest : List ℕ) → cut 10 bytes ≡ Some (line, rest) → onward (Some (state sets begun)) bytes ≡ onward (with_line sets begun (pieces 32 line)) rest
line_on sets begun bytes line rest e = ap (sets_from (state sets begun)) (pieces_behind 10 bytes line rest e) ∙ sets_cons (state sets begun) line (pieces 10 rest) (some_pieces 10 rest)

due_on : (sets : List KeptSet) (set : KeptSet) (nodes : List Node) (due : ℕ) (bytes : List ℕ) → 0 < due → onward (settled sets (Some (begun_at set nodes due))) bytes ≡ onward (Some (state sets (Some (begun_at set nodes due)))) bytes
due_on sets set nodes due bytes lt =
    ap (λ (t : Bool). onward (if t then Some (state (sets ++ with_lines set nodes ∷ []) None) else Some (state sets (Some (begun_at set nodes due)))) bytes) (nat_eq-apart due 0 (λ e. absurd (omega (arith, lt, e))))

-- ---- the lines of a set

pub node_on : (sets : List KeptSet) (set : KeptSet) (nodes : List Node) (due : ℕ) (bytes line rest : List ℕ) (node : Node) → 0 < due → cut 10 bytes ≡ Some (line, rest) → node_of nodes (pieces 32 line) ≡ Some node →
    onward (settled sets (Some (begun_at set nodes due))) bytes ≡ onward (settled sets (Some (begun_at set (nodes ++ node ∷ []) (due - 1)))) rest
node_on sets set nodes due bytes line rest node lt e f =
    due_on sets set nodes due bytes lt ∙ (line_on sets (Some (begun_at set nodes due)) bytes line rest e ∙ ap (λ (o : Option Node). onward (settled sets (grown (begun_at set nodes due) o)) rest) f)

pub node_stops : (sets : List KeptSet) (set : KeptSet) (nodes : List Node) (due : ℕ) (bytes line rest : List ℕ) → 0 < due → cut 10 bytes ≡ Some (line, rest) → node_of nodes (pieces 32 line) ≡ None →
    onward (settled sets (Some (begun_at set nodes due))) bytes ≡ None
node_stops sets set nodes due bytes line rest lt e f =
    due_on sets set nodes due bytes lt ∙ (line_on sets (Some (begun_at set nodes due)) bytes line rest e ∙ ap (λ (o : Option Node). onward (settled sets (grown (begun_at set nodes due) o)) rest) f)

pub node_lacks : (sets : List KeptSet) (set : KeptSet) (nodes : List Node) (due : ℕ) (bytes : List ℕ) → 0 < due → cut 10 bytes ≡ None → onward (settled sets (Some (begun_at set nodes due))) bytes ≡ None
node_lacks sets set nodes due bytes lt e = due_on sets set nodes due bytes lt ∙ ap (sets_from (state sets (Some (begun_at set nodes due)))) (pieces_uncut 10 bytes e)

-- no line is due
pub nodes_whole : (sets : List KeptSet) (set : KeptSet) (nodes : List Node) (due : ℕ) (bytes : List ℕ) → due ≡ 0 → onward (settled sets (Some (begun_at set nodes due))) bytes ≡ onward (with_set sets set nodes) bytes
nodes_whole sets set nodes due bytes e = ap (λ (n : ℕ). onward (settled sets (Some (begun_at set nodes n))) bytes) e

-- ---- the sets

pub set_lacks : (sets : List KeptSet) (bytes : List ℕ) → 0 < length bytes → cut 10 bytes ≡ None → onward (between sets) bytes ≡ None
set_lacks sets [] lt e = absurd (omega (arith, lt))
set_lacks sets (b ∷ bytes) lt e = ap (sets_from (state sets None)) (pieces_uncut 10 (b ∷ bytes) e)

pub set_on : (sets : List KeptSet) (bytes line rest : List ℕ) → cut 10 bytes ≡ Some (line, rest) → onward (between sets) bytes ≡ onward (settled sets (begun_by (pieces 32 line))) rest
set_on sets bytes line rest e = line_on sets None bytes line rest e

pub sets_end : (sets : List KeptSet) (bytes : List ℕ) → bytes ≡ [] → onward (between sets) bytes ≡ Some sets
sets_end sets bytes e = ap (onward (between sets)) e

-- a set that is read is put behind the others
pub set_put : (sets new : List KeptSet) (unit given : List ℕ) (number root : ℕ) (nodes put : List Node) (rest : List ℕ) →
    new ≡ sets ++ record { unit = given; number = number; root = root; nodes = put } ∷ [] → given ≡ unit → put ≡ nodes →
    onward (with_set sets (record { unit = unit; number = number; root = root; nodes = [] }) nodes) rest ≡ onward (between new) rest
set_put sets new unit given number root nodes put rest e f g =
    (λ i. onward (between (sets ++ record { unit = sym f i; number = number; root = root; nodes = sym g i } ∷ [])) rest) ∙ ap (λ (all : List KeptSet). onward (between all) rest) (sym e)

-- an error that is handed on is the same one
pub same_error : {A E : Type 0} {x : E} (r : Result A E) (e : E) → r ≡ Err x → IsErrAnd r (λ y. y ≡ e) → e ≡ x
same_error {A} {E} r e h is = sym (subst (λ (q : Result A E). IsErrAnd q (λ y. y ≡ e)) h is)
