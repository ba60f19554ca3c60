use Rattle.std.proofs.Common.{◌≡◌, subst, sym, None}
use Rattle.smv_core.specs.declared.flat.Design.{Design}
use Rattle.smv_mentions.specs.FirstFault.{first_of}
use Rattle.law_valid_texts.specs.Faults.{faults_of_cases}
use Rattle.law_valid_texts.proofs.Rooms.{in_parts, no_cases_fault}
use Rattle.law_valid_texts.proofs.parts_of_texts.leaves_have_few_cases.Goals as goal

pub returns : goal.returns
returns c tree faultless plan is stated u leaf choice at_leaf at_choice =
    no_cases_fault plan.design (subst (λ (d : Design). first_of (faults_of_cases d) ≡ None) (sym is.design) faultless.cases) leaf choice (in_parts tree plan is stated u leaf choice at_leaf at_choice)
