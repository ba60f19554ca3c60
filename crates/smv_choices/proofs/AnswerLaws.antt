-- The answer of the whole pass, from those of its parts.
use Rattle.std.proofs.Common.{◌≡◌, List, map, ap, sym, ◌∙◌, Some, None}
use Rattle.smv_core.specs.declared.fault.Fault.{Fault}
use Rattle.smv_core.specs.declared.tree.Ref.{Ref}
use Rattle.smv_core.specs.declared.flat.Design.{Design}
use Rattle.smv_core.specs.declared.flat.FlatUsing.{FlatUsing}
use Rattle.smv_core.specs.declared.flat.Unit.{Unit as FlatUnit}
use Rattle.smv_core.specs.declared.flat.Leaf.{Leaf}
use Rattle.smv_core.specs.declared.flat.Choice.{Choice}
use Rattle.smv_core.specs.declared.flat.Pick.{Pick}
use Rattle.smv_core.specs.declared.flat.Assumed.{Assumed}
use Rattle.std.specs.Prelude.{ℕ, Option}
use Rattle.law_obligations.specs.Units.{units_of}
use Rattle.law_splits.specs.Leaves.{leaves_of}
use Rattle.law_uses.specs.Choices.{choices_of}
use Rattle.law_uses.specs.UseFaults.{first_fault_of_uses}
use Rattle.smv_choices.specs.declared.keeps.Kept.{Kept}
use Rattle.smv_choices.specs.Readings.{Said, reading_in, first_fault, proofs, choice_of}
use Rattle.smv_choices.proofs.PartLaws.{choices-made}
use Rattle.smv_choices.proofs.FaultLaws.{uses-first}

abbrev said : FlatUsing → List (ℕ × Pick) → List (ℕ × Assumed) → Option ℕ → List (Ref × Leaf) → Option ℕ → List Kept → Said
said using' picks claims unknown proved no_leaf kept = record { using = using'; picks = picks; claims = claims; unknown = unknown; proved = proved; no_leaf = no_leaf; kept = kept }

-- what is said of a `using`, part by part
pub same-said : {u v : FlatUsing} {p q : List (ℕ × Pick)} {a b : List (ℕ × Assumed)} {i j : Option ℕ} {l m : List (Ref × Leaf)} {n o : Option ℕ} {r s : List Kept} → u ≡ v → p ≡ q → a ≡ b → i ≡ j → l ≡ m → n ≡ o → r ≡ s →
    said u p a i l n r ≡ said v q b j m o s
same-said c e f g h k t = cc

module _ (d e : Design) (units : List FlatUnit) (leaves : List Leaf) (all : List Said) (same : e ≡ d) (us : units ≡ units_of d) (ls : leaves ≡ leaves_of d) (read : all ≡ map (reading_in e leaves) e.uses) where
  read-so : all ≡ map (reading_in d leaves) d.uses
  read-so = read ∙ ap (λ (d : Design). map (reading_in d leaves) d.uses) same

  pub first-is : first_fault e units all ≡ first_fault_of_uses d
  first-is = ap (λ (d : Design). first_fault d units all) same ∙ uses-first d units all us (read-so ∙ ap (λ ls. map (reading_in d ls) d.uses) ls)

  pub answered-fault : (fault : Fault) → Some fault ≡ first_fault e units all → first_fault_of_uses d ≡ Some fault
  answered-fault fault h = sym (h ∙ first-is)

  pub answered-choices : (choices : List Choice) → None ≡ first_fault e units all → choices ≡ map (choice_of e units (proofs all)) leaves → (first_fault_of_uses d ≡ None) × (choices ≡ choices_of d)
  answered-choices choices h made = (sym (h ∙ first-is), made ∙ ap (λ (d : Design). map (choice_of d units (proofs all)) leaves) same ∙ choices-made d units leaves all us ls read-so)
