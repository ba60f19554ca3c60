-- The first fault of splits stands at a place of the design.
use Rattle.std.proofs.Common.{◌≡◌, ◌≤◌, ℕ, zero, suc, Bool, true, not, ◌&&◌, cond, List, [], ◌∷◌, ◌++◌, map, filter, zip, length, nat_eq, IfSome, refl}
use Rattle.std.specs.Str.{bytes_eq}
use Rattle.std.specs.List.{AllByRecursion, flat_map, list_any}
use Rattle.law_lists.proofs.Each.{each_flat_map, each_in_any, each_filter, each_append}
use Rattle.smv_core.specs.Values.{Name}
use Rattle.smv_core.specs.declared.tree.Word.{Word}
use Rattle.smv_core.specs.declared.flat.Design.{Design}
use Rattle.smv_core.specs.declared.flat.Unit.{Unit}
use Rattle.smv_core.specs.declared.flat.Family.{Family}
use Rattle.smv_core.specs.declared.flat.Param.{Param}
use Rattle.smv_core.specs.declared.flat.FlatSplit.{FlatSplit}
use Rattle.smv_core.specs.declared.flat.FlatPair.{FlatPair}
use Rattle.smv_core.specs.declared.flat.FlatMember.{One, Span as SpanOf}
use Rattle.smv_core.specs.declared.flat.FlatExpr.{FlatExpr, Number, Read', Var, Loop, Constant, Not', And', Or', Implies', Iff', Compare', Within', Sum', Modulo', Choose', All', Any', List', Each', Held-FlatExpr-Each-2, None', Some', Row_of-FlatExpr, end_of-FlatExpr, more_of-FlatExpr, Row_of-FlatMember, end_of-FlatMember, more_of-FlatMember, Row_of-FlatSigned, end_of-FlatSigned, more_of-FlatSigned}
use Rattle.smv_mentions.specs.NameFaults.{place_if}
use Rattle.law_designs.proofs.Faultless.{each-map}
use Rattle.law_obligations.specs.Outlines.{unit_in}
use Rattle.law_obligations.specs.Units.{units_of}
use Rattle.law_splits.specs.Variables.{Occurrence, readings, readings_each, readings_signed, readings_members, readings_held}
use Rattle.law_splits.specs.Leaves.{named_by, with_name, name_of, own_params, splits_of, Cut, cut, all_params, onward}
use Rattle.law_splits.specs.SplitFaults.{leads_to_unit, astray, split_again, names_one, bracketed, unbound, doubled, equations_of, not_in_one, not_new, is_of_kind, other_kind, is_stray, strays, miscounted, is_of_variables, same_type, other_type, misfits, mismatches, cuts, cuts_of, split_faults, faults_of_splits, first_fault_of_splits}
use Rattle.law_fault_places.specs.TreePlaces.{WordIsWithin, WordsAreWithin}
use Rattle.law_fault_places.specs.FaultPlaces.{IsFaultOf}
use Rattle.law_fault_places.proofs.TreeLists.{all-zipped}
use Rattle.law_fault_places.proofs.Firsts.{first-one, AreUpTo, placed-if, lists-placed}
use Rattle.law_fault_places.specs.FlatPlaces.{FlatExprIsWithin, FlatRowIsWithin, FlatTermsAreWithin, FlatMembersAreWithin, FlatConditionIsWithin, FlatPairIsWithin, SplitIsWithin, DesignIsWithin}
use Rattle.law_fault_places.specs.ProofFaultPlaces.{numbers_of_splits}

module _ (n : ℕ) where
  abbrev IsUpTo : ℕ → Type 0
  IsUpTo at = at ≤ n

  both : (xs ys : List ℕ) → AreUpTo n xs → AreUpTo n ys → AreUpTo n (xs ++ ys)
  both xs ys h g = each_append IsUpTo xs ys h g

  -- ---- variables that are read

  abbrev ReadingsAreWithin : List Occurrence → Type 0
  ReadingsAreWithin rs = AllByRecursion (λ (r : Occurrence). r.at ≤ n) rs

  join : (xs ys : List Occurrence) → ReadingsAreWithin xs → ReadingsAreWithin ys → ReadingsAreWithin (xs ++ ys)
  join xs ys h g = each_append (λ (r : Occurrence). r.at ≤ n) xs ys h g

  mutual
    readings-within : (e : FlatExpr) → FlatExprIsWithin n e → ReadingsAreWithin (readings e)
    readings-within (Number value at) h = tt
    readings-within (Read' family shape indexes at) h = row-within indexes h.1
    readings-within (Var var at) h = (h, tt)
    readings-within (Loop value at) h = tt
    readings-within (Constant list value at) h = tt
    readings-within (Not' shape (more_of-FlatExpr e end_of-FlatExpr) at) h = readings-within e h.1
    readings-within (And' shape parts) h = row-within parts h
    readings-within (Or' shape parts) h = row-within parts h
    readings-within (Implies' shape parts) h = row-within parts h
    readings-within (Iff' l (more_of-FlatExpr left end_of-FlatExpr) r (more_of-FlatExpr right end_of-FlatExpr)) h = join (readings left) (readings right) (readings-within left h.0) (readings-within right h.1)
    readings-within (Compare' op l (more_of-FlatExpr left end_of-FlatExpr) r (more_of-FlatExpr right end_of-FlatExpr)) h = join (readings left) (readings right) (readings-within left h.0) (readings-within right h.1)
    readings-within (Within' l (more_of-FlatExpr left end_of-FlatExpr) r (more_of-FlatExpr set end_of-FlatExpr)) h = join (readings left) (readings set) (readings-within left h.0) (readings-within set h.1)
    readings-within (Sum' f (more_of-FlatExpr head end_of-FlatExpr) shape more) h = join (readings head) (readings_signed more) (readings-within head h.0) (signed-within more h.1)
    readings-within (Modulo' shape (more_of-FlatExpr e end_of-FlatExpr) by at) h = readings-within e h.1
    readings-within (Choose' c (more_of-FlatExpr cond end_of-FlatExpr) l (more_of-FlatExpr left end_of-FlatExpr) r (more_of-FlatExpr right end_of-FlatExpr)) h =
        join ((readings cond) ++ (readings left)) (readings right) (join (readings cond) (readings left) (readings-within cond h.0) (readings-within left h.1)) (readings-within right h.2)
    readings-within (All' shape (more_of-FlatExpr body end_of-FlatExpr) var over at) h = readings-within body h.1
    readings-within (Any' shape (more_of-FlatExpr body end_of-FlatExpr) var over at) h = readings-within body h.1
    readings-within (List' shape members at) h = members-within members h.1
    readings-within (Each' var over cond at) h = held-within cond h.1

    row-within : {m : _} (row : Row_of-FlatExpr m) → FlatRowIsWithin n row → ReadingsAreWithin (readings_each row)
    row-within end_of-FlatExpr h = tt
    row-within (more_of-FlatExpr e others) h = join (readings e) (readings_each others) (readings-within e h.0) (row-within others h.1)

    signed-within : {m : _} (row : Row_of-FlatSigned m) → FlatTermsAreWithin n row → ReadingsAreWithin (readings_signed row)
    signed-within end_of-FlatSigned h = tt
    signed-within (more_of-FlatSigned minus e others) h = join (readings e) (readings_signed others) (readings-within e h.0) (signed-within others h.1)

    members-within : {m : _} (row : Row_of-FlatMember m) → FlatMembersAreWithin n row → ReadingsAreWithin (readings_members row)
    members-within end_of-FlatMember h = tt
    members-within (more_of-FlatMember (One e) others) h = join (readings e) (readings_members others) (readings-within e h.0) (members-within others h.1)
    members-within (more_of-FlatMember (SpanOf span at) others) h = members-within others h.1

    held-within : (cond : Held-FlatExpr-Each-2) → FlatConditionIsWithin n cond → ReadingsAreWithin (readings_held cond)
    held-within None' h = tt
    held-within (Some' shape (more_of-FlatExpr cond end_of-FlatExpr)) h = readings-within cond h

  -- ---- fault 23

  astray-within : (d : Design) (s : FlatSplit) → SplitIsWithin n s → AreUpTo n (astray d s)
  astray-within d s h = placed-if n (not (leads_to_unit d (length d.splits) (named_by s.of))) s.of.at h.1.3

  again-within : (splits : List FlatSplit) → AllByRecursion (SplitIsWithin n) splits → AreUpTo n (split_again splits)
  again-within [] h = tt
  again-within (s ∷ more) h =
      let test = λ (t : FlatSplit). bytes_eq (named_by t.of) (named_by s.of) in
      both (map (λ (t : FlatSplit). t.of.at) (filter test more)) (split_again more)
      (each-map (SplitIsWithin n) IsUpTo (λ (t : FlatSplit). t.of.at) (λ t own. own.1.3) (filter test more) (each_filter (SplitIsWithin n) test more h.1)) (again-within more h.1)

  -- ---- fault 24

  -- a place for each word
  pub words-placed : (test : Word → Bool) (words : List Word) → WordsAreWithin n words → AreUpTo n (flat_map (λ (word : Word). place_if (test word) word.at) words)
  words-placed test words h = each_flat_map (WordIsWithin n) IsUpTo (λ (word : Word). place_if (test word) word.at) (λ word own. placed-if n (test word) word.at own) words h

  pairs-placed : (test : FlatPair → Bool) (pairs : List FlatPair) → AllByRecursion (FlatPairIsWithin n) pairs → AreUpTo n (flat_map (λ (pair : FlatPair). place_if (test pair) pair.right.at) pairs)
  pairs-placed test pairs h = each_flat_map (FlatPairIsWithin n) IsUpTo (λ (pair : FlatPair). place_if (test pair) pair.right.at) (λ pair own. placed-if n (test pair) pair.right.at own.1) pairs h

  pub doubled-within : (words : List Word) → WordsAreWithin n words → AreUpTo n (doubled words)
  doubled-within [] h = tt
  doubled-within (word ∷ more) h =
      let test = λ (other : Word). bytes_eq other.name word.name in
      both (map (λ (other : Word). other.at) (filter test more)) (doubled more)
      (each-map (WordIsWithin n) IsUpTo (λ (other : Word). other.at) (λ word own. own) (filter test more) (each_filter (WordIsWithin n) test more h.1)) (doubled-within more h.1)

  pub miscounted-within : (count : ℕ) (words : List Word) → WordsAreWithin n words → AreUpTo n (miscounted count words)
  miscounted-within count [] h = tt
  miscounted-within count (word ∷ more) h = placed-if n (not (nat_eq (length (word ∷ more)) count)) word.at h.0

  strays-within : (s : FlatSplit) → AllByRecursion (FlatPairIsWithin n) s.pairs → AreUpTo n (strays s)
  strays-within s h =
      each_flat_map (FlatPairIsWithin n) IsUpTo (λ (pair : FlatPair). map (λ (r : Occurrence). r.at) (filter (is_stray s) (readings pair.left)))
      (λ pair own. each-map (λ (r : Occurrence). r.at ≤ n) IsUpTo (λ (r : Occurrence). r.at) (λ r le. le) (filter (is_stray s) (readings pair.left))
      (each_filter (λ (r : Occurrence). r.at ≤ n) (is_stray s) (readings pair.left) (readings-within pair.left own.0))) s.pairs h

  misfits-within : (families : List Family) (s : FlatSplit) → SplitIsWithin n s → AreUpTo n (misfits families s)
  misfits-within families s h =
      let brackets : WordsAreWithin n (bracketed s) = each_append (WordIsWithin n) s.vars s.of.names h.0 h.1.1 in
      both ((unbound s) ++ (doubled (bracketed s)) ++ (not_in_one s) ++ (not_new s) ++ (other_kind families s)) (strays s)
      (both ((unbound s) ++ (doubled (bracketed s)) ++ (not_in_one s) ++ (not_new s)) (other_kind families s)
      (both ((unbound s) ++ (doubled (bracketed s)) ++ (not_in_one s)) (not_new s)
      (both ((unbound s) ++ (doubled (bracketed s))) (not_in_one s)
      (both (unbound s) (doubled (bracketed s)) (words-placed (λ word. not (names_one s.bound word)) (bracketed s) brackets) (doubled-within (bracketed s) brackets)) (words-placed (λ word. not (nat_eq (length (equations_of s.pairs word)) 1)) s.vars h.0)) (pairs-placed (λ pair. not (list_any (λ (word : Word). bytes_eq word.name pair.right.name) s.vars)) s.pairs h.2)) (pairs-placed (λ pair. list_any (λ (p : Param). not (is_of_kind families s.bound p.over pair.left)) (with_name s.bound pair.right)) s.pairs h.2)) (strays-within s h.2)

  abbrev CutIsWithin : Cut → Type 0
  CutIsWithin c = SplitIsWithin n c.split

  other_type-within : (c : Cut) → CutIsWithin c → AreUpTo n (other_type c)
  other_type-within c h =
      each_flat_map (λ (p : Word × Param). WordIsWithin n p.0) IsUpTo (λ (p : Word × Param). place_if (is_of_variables p.1.over && list_any (λ (b : Param). not (same_type b.over p.1.over)) (with_name c.split.bound p.0)) p.0.at)
      (λ p own. placed-if n (is_of_variables p.1.over && list_any (λ (b : Param). not (same_type b.over p.1.over)) (with_name c.split.bound p.0)) p.0.at own)
      (zip c.split.of.names c.params) (all-zipped (WordIsWithin n) c.split.of.names c.params h.1.1)

  mismatches-within : (c : Cut) → CutIsWithin c → AreUpTo n (mismatches c)
  mismatches-within c h = both (miscounted (length c.params) c.split.of.names) (other_type c) (miscounted-within (length c.params) c.split.of.names h.1.1) (other_type-within c h)

  -- ---- the design

  module _ (d : Design) (h : DesignIsWithin n d) where
    cuts-within : (k : ℕ) (name : Name) (params : List Param) → AllByRecursion CutIsWithin (cuts d k name params)
    cuts-within zero name params = tt
    cuts-within (suc k) name params =
        each_flat_map (SplitIsWithin n) CutIsWithin (onward (cuts d k) params) (λ s own. (own, cuts-within k s.name (all_params (cut params s)))) (splits_of d name)
        (each_filter (SplitIsWithin n) (λ (s : FlatSplit). bytes_eq (named_by s.of) name) d.splits h.splits)

    cuts_of-within : AllByRecursion CutIsWithin (cuts_of d)
    cuts_of-within = each_in_any CutIsWithin (λ (unit : Unit). cuts d (length d.splits) (name_of d (unit_in d unit)) (own_params d (unit_in d unit))) (λ unit. cuts-within (length d.splits) (name_of d (unit_in d unit)) (own_params d (unit_in d unit))) (units_of d)

    splits-placed : AllByRecursion (λ (p : ℕ × List ℕ). (list_any (nat_eq p.0) numbers_of_splits ≡ true) × AreUpTo n p.1) (split_faults d)
    splits-placed = (
      (refl, both (flat_map (astray d) d.splits) (split_again d.splits) (each_flat_map (SplitIsWithin n) IsUpTo (astray d) (astray-within d) d.splits h.splits) (again-within d.splits h.splits)),
      (
        (
          refl,
          both (flat_map (misfits d.families) d.splits) (flat_map mismatches (cuts_of d)) (each_flat_map (SplitIsWithin n) IsUpTo (misfits d.families) (misfits-within d.families) d.splits h.splits)
              (each_flat_map CutIsWithin IsUpTo mismatches mismatches-within (cuts_of d) cuts_of-within),
        ),
        tt,
      ),
    )

  pub first-within : (d : Design) → DesignIsWithin n d → IfSome (first_fault_of_splits d) (IsFaultOf numbers_of_splits n)
  first-within d h = first-one (IsFaultOf numbers_of_splits n) (faults_of_splits d) (lists-placed numbers_of_splits n (split_faults d) (splits-placed d h))
