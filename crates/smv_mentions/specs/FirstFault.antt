-- The first fault of a text among those of its names, and then of its size.
use Rattle.std.specs.Prelude.{ℕ, List, [], ◌∷◌, map, flat_map, Option, Some, None, Bool, ◌&&◌, ◌||◌, if◌then◌else◌, nat_lt, nat_eq}
use Rattle.smv_core.specs.Types.{find_name}
use Rattle.smv_core.specs.FlatOrder.{main}
use Rattle.smv_core.specs.declared.fault.Fault.{Fault}
use Rattle.smv_core.specs.declared.tree.Text.{Text}
use Rattle.smv_mentions.specs.Scopes.{Piece, pieces}
use Rattle.smv_mentions.specs.NameFaults.{name_faults}
use Rattle.smv_mentions.specs.Sizes.{is_too_large}

-- a fault comes before another: by its place, and at one place by its number
abbrev pub comes_before : Fault → Fault → Bool
comes_before f g = nat_lt f.at g.at || nat_eq f.at g.at && nat_lt f.number g.number

abbrev pub earlier : Fault → Option Fault → Option Fault
earlier f None = Some f
earlier f (Some g) = if comes_before g f then Some g else Some f

-- the first of some faults
abbrev pub first_of : List Fault → Option Fault
first_of [] = None
first_of (f ∷ faults) = earlier f (first_of faults)

-- a fault of this number at each place
abbrev pub faults_at : ℕ × List ℕ → List Fault
faults_at (number, places) = map (λ at. record { number = number; at = at }) places

-- all faults of the names of a text
abbrev pub faults_of_names : Text → List Fault
faults_of_names text = flat_map faults_at (name_faults (pieces text))

-- fault 25 stands at the word `main` of its module
abbrev pub fault_at_main : Option Piece → Option Fault
fault_at_main None = None
fault_at_main (Some piece) = Some (record { number = 25; at = piece.word.at })

abbrev pub fault_of_size : Text → Option Fault
fault_of_size text = if is_too_large text then fault_at_main (find_name (map (λ piece. (piece.word.name, piece)) (pieces text)) main) else None

-- the size is looked at where no name has a fault
abbrev pub or_else : Option Fault → Option Fault → Option Fault
or_else None g = g
or_else (Some f) g = Some f

-- the first fault of a text among 7 to 11, in every module, and then 25
abbrev pub first_fault : Text → Option Fault
first_fault text = or_else (first_of (faults_of_names text)) (fault_of_size text)
