-- An offset of a strengthened text is carried back into the text that was read, and what a refusal of an induction tells.
use Rattle.std.proofs.Common.{◌≡◌, ◌≤◌, ◌+◌, ◌-◌, ℕ, List, [], ◌∷◌, ◌++◌, length, filter, Bool, true, false, if◌then◌else◌, nat_lt, Option, Some, None, refl, sym, ap, subst, ◌∙◌, ◌⊎◌, inl, inr, true≢false, arith}
use Rattle.std.specs.List.{AllByRecursion, flat_map, list_any}
use Rattle.std.specs.Option.{option_map}
use Rattle.std.specs.Str.{bytes_eq}
use Rattle.law_lists.proofs.Each.{each_append, each_filter, each_flat_map}
use Rattle.law_lists.proofs.Numbers.{nat_lt-is}
use Rattle.law_lists.proofs.Options.{some_is}
use Rattle.smv_core.specs.Values.{Name}
use Rattle.smv_core.specs.FlatOrder.{main}
use Rattle.smv_core.specs.declared.tree.Word.{Word}
use Rattle.smv_core.specs.declared.tree.TypeExpr.{TypeExpr}
use Rattle.smv_core.specs.declared.tree.Item.{Item, Declare, Instance, Layer, Forall', Block', Claim, Split, Using, Act, Row_of-Item, end_of-Item, more_of-Item}
use Rattle.smv_core.specs.declared.tree.Top.{Top}
use Rattle.smv_core.specs.declared.tree.Top.TheVariants.{SetType, Alias, Module}
use Rattle.smv_core.specs.declared.tree.Text.{Text}
use Rattle.smv_bits.specs.declared.Bits.TheVariants.{Declared}
use Rattle.smv_problem.specs.declared.report.Budgets.{Budgets}
use Rattle.smv_report.specs.Lines.{fault_text}
use Rattle.smv_command.specs.declared.commands.Command.TheVariants.{Prove}
use Rattle.smv_command.specs.declared.exit.Status.{Status}
use Rattle.law_strengthened_texts.specs.Stronger.{Found, Stronger, IsStrengthened, all_claims_in, back, claims_in, if_only, if_parameter, induction, innermost, main_claims, ordset_named}
use Rattle.law_strengthened_texts.specs.Laws.{StrongerIsPlaced}
use Rattle.law_strengthened_texts.proofs.Lengths.{lengths}
use Rattle.law_induct_answers.specs.Dues.{IsInductDue, inducted, refused_text, no_induction, refused_stronger}
use Rattle.law_fault_places.specs.TreePlaces.{ItemIsWithin, ItemsAreWithin, TopIsWithin, TextIsWithin}
use Rattle.law_fault_places.specs.PassFaults.{IsFaultWithin}
use Rattle.law_fault_places.specs.FaultsOfTexts.{FaultsAreWithin, PlacesAreCarriedBack, TreesOfTextsAreWithin}
use Rattle.law_fault_places.proofs.Refusals.{as-fault, is_refused, open-not}

-- ---- the claim of an induction stands within the text

module _ (n : ℕ) where
  abbrev Placed : Found → Type 0
  Placed c = c.word.at ≤ n

  mutual
    claim-within : (around : List (Word × TypeExpr)) (x : Item) → ItemIsWithin n x → AllByRecursion Placed (claims_in around x)
    claim-within around (Declare role words of at) h = tt
    claim-within around (Instance words name args at) h = tt
    claim-within around (Layer name body at) h = tt
    claim-within around (Forall' word over shape (more_of-Item body end_of-Item) at) h =
        each_append Placed (claims_in (around ++ (word, over) ∷ []) body) [] (claim-within (around ++ (word, over) ∷ []) body h.3) tt
    claim-within around (Block' shape items) h = claims-within around items h
    claim-within around (Claim word vars body at) h = (h.0, tt)
    claim-within around (Split name vars of pairs at) h = tt
    claim-within around (Using uses proves at) h = tt
    claim-within around (Act act) h = tt

    claims-within : {m : _} → (around : List (Word × TypeExpr)) (row : Row_of-Item m) → ItemsAreWithin n row → AllByRecursion Placed (all_claims_in around row)
    claims-within around end_of-Item h = tt
    claims-within around (more_of-Item x rest) h = each_append Placed (claims_in around x) (all_claims_in around rest) (claim-within around x h.0) (claims-within around rest h.1)

  tops-within : (tops : List Top) → AllByRecursion (TopIsWithin n) tops → AllByRecursion Placed (main_claims tops)
  tops-within [] h = tt
  tops-within (SetType word ordered span at ∷ tops) h = tops-within tops h.1
  tops-within (Alias word of at ∷ tops) h = tops-within tops h.1
  tops-within (Module word formals body at ∷ tops) h =
      each_append Placed (if bytes_eq word.name main then flat_map (claims_in []) body else []) (main_claims tops)
      (by_test (bytes_eq word.name main) (each_flat_map (ItemIsWithin n) Placed (claims_in []) (claim-within []) body h.0.2)) (tops-within tops h.1)
    where
      by_test : (b : Bool) → AllByRecursion Placed (flat_map (claims_in []) body) → AllByRecursion Placed (if b then flat_map (claims_in []) body else [])
      by_test true own = own
      by_test false own = tt

  parameter-is : (tops : List Top) (var : Name) (d c : Found) (set : Name) → if_parameter tops var d ≡ Some (c, set) → d ≡ c
  parameter-is tops var d c set e = by_test (list_any (λ word. bytes_eq word.name var) d.vars) (ordset_named tops (innermost var d.binders)) e
    where
      by_test : (b : Bool) (o : Option Name) → (if b then option_map {U = Found × Name} (λ set. (d, set)) o else None) ≡ Some (c, set) → d ≡ c
      by_test true (Some s) q = ap (λ (p : Found × Name). p.0) (some_is q)
      by_test true None q = absurd (cc (q))
      by_test false o q = absurd (cc (q))

  only-within : (tops : List Top) (var : Name) (cs : List Found) (c : Found) (set : Name) → AllByRecursion Placed cs → if_only tops var cs ≡ Some (c, set) → c.word.at ≤ n
  only-within tops var [] c set h e = absurd (cc (e))
  only-within tops var (d ∷ []) c set h e = subst Placed (parameter-is tops var d c set e) h.0
  only-within tops var (d ∷ b ∷ cs) c set h e = absurd (cc (e))

  found-within : (x : Text) (name var : Name) (c : Found) (set : Name) → TextIsWithin n x → induction x.tops name var ≡ Some (c, set) → c.word.at ≤ n
  found-within x name var c set h e =
      only-within x.tops var (filter (λ (c : Found). bytes_eq c.word.name name) (main_claims x.tops)) c set (each_filter Placed (λ (c : Found). bytes_eq c.word.name name) (main_claims x.tops) (tops-within x.tops h)) e

-- ---- back

back-within : (s : Stronger) (n at : ℕ) → s.from + s.new ≤ length s.text → length s.text + s.old ≡ n + s.new → s.at ≤ n → at ≤ length s.text → back s at ≤ n
back-within s n at placed long own within = by_front (nat_lt at s.from) refl (nat_lt at (s.from + s.new))
  where
    by_front : (b : Bool) → nat_lt at s.from ≡ b → (d : Bool) → (if b then at else if d then s.at else at - s.new + s.old) ≤ n
    by_front true e d = let low = nat_lt-is at s.from e in omega (arith, low, placed, long)
    by_front false e true = own
    by_front false e false = omega (arith, placed, long, within)

pub carried-back : TreesOfTextsAreWithin → StrongerIsPlaced → PlacesAreCarriedBack
carried-back trees law text name var s at h within =
    let long = lengths law text name var s h in
    let place : s.at ≡ h.2.word.at = ap (λ (z : Stronger). z.at) h.7 in
    let own : h.2.word.at ≤ length text = found-within (length text) h.1 name var h.2 h.3 (trees text h.1 (h.0, h.4, h.5)) h.6 in
    back-within s (length text) at long.0 long.1 (subst (λ k. k ≤ length text) (sym place) own) within

-- ---- what a refusal of an induction tells

abbrev Tells : List ℕ → List ℕ → Type 0
Tells text answer = ((number : ℕ) × (at : ℕ) × IsFaultWithin (length text) number at × (answer ≡ fault_text text number at)) ⊎ (answer ≡ fault_text text 36 0)

pub induction-refusal-tells : FaultsAreWithin → PlacesAreCarriedBack → (proved : Status) → is_refused proved ≡ false → (name var : Name) (budgets : Budgets) (text : List ℕ) (due : Status) (answer : List ℕ) → IsInductDue proved name var budgets text due answer →
    is_refused due ≡ true → Tells text answer
induction-refusal-tells within carried _ not _ _ _ text _ _ (inducted proved name var budgets tree s report valid is right) e = absurd (true≢false (sym e ∙ open-not proved report not))
induction-refusal-tells within carried _ not _ _ _ text _ _ (refused_text proved name var budgets number at fault) e =
    inl (number, at, within (Prove Declared (record { nodes = 1; steps = 1 })) text number at (as-fault text number at fault), refl)
induction-refusal-tells within carried _ not _ _ _ text _ _ (no_induction proved name var budgets tree valid none) e = inr refl
induction-refusal-tells within carried _ not _ _ _ text _ _ (refused_stronger proved name var budgets tree s number at valid is fault) e =
    let w = within (Prove Declared (record { nodes = 1; steps = 1 })) s.text number at (as-fault s.text number at fault) in
    inl (number, back s at, record { lowest = w.lowest; highest = w.highest; place = carried text name var s at is w.place }, refl)
