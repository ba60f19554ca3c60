-- What the plan of a text has at the place of a unit.
use Rattle.std.proofs.Common.{◌≡◌, ◌<◌, ℕ, zero, suc, List, [], ◌∷◌, ◌++◌, ◌+◌, map, take, length, slice_get, Option, Some, None, Bool, true, false, if◌then◌else◌, option_map, refl, sym, ap, subst, ◌∙◌, append_assoc, append-nil, arith}
use Rattle.std.specs.Prelude.{find, unwrap_or}
use Rattle.law_lists.proofs.Options.{some_is}
use Rattle.smv_core.specs.Values.{Name}
use Rattle.smv_core.specs.declared.flat.Design.{Design}
use Rattle.smv_core.specs.declared.flat.FlatSplit.{FlatSplit}
use Rattle.smv_core.specs.declared.flat.Param.{Param}
use Rattle.smv_core.specs.declared.flat.Unit.{Unit}
use Rattle.law_obligations.specs.Outlines.{place_of, unit_in}
use Rattle.smv_core.specs.Values.{Sizes}
use Rattle.smv_core.specs.declared.flat.Leaf.{Leaf}
use Rattle.smv_core.specs.declared.flat.Unit.TheVariants.{Claim}
use Rattle.smv_core.specs.declared.tree.Text.{Text}
use Rattle.law_lists.proofs.Lists.{length_map}
use Rattle.law_obligations.specs.Outlines.{names_of}
use Rattle.law_obligations.specs.Soundness.{AreSizes, FlatUnit, claim_of, map_of, over_of, params_of}
use Rattle.law_obligations.specs.Units.{units_of}
use Rattle.law_splits.specs.Leaves.{all_params, chain, cut, leaf_of, leaves_from, name_of, nameless, new, numbered, onward_if, own_params, params_after}
use Rattle.law_sized_texts.specs.Laws.{DesignsAreExact}
use Rattle.law_concrete.specs.Runs.{IsExact}
use Rattle.law_valid_texts.specs.Joined.{flat_design}
use Rattle.law_valid_texts.specs.PlanLaws.{ValidTextsAreFaultless}
use Rattle.law_valid_texts.specs.Reports.{IsValid}
use Rattle.law_valid_texts.specs.Rooms.{IsWholePlan}
use Rattle.smv_problem.specs.declared.report.Plan.{Plan}
use Rattle.smv_front.specs.Plans.{IsPlan}
use Rattle.smv_confirm.specs.Ready.{IsReady, leaf_at, own_of, unit_at}
use Rattle.smv_confirm.proofs.Plans.{part, take-front}

-- the first that passes a test stands at the place of the first that does
abbrev pub IsFoundAt : {X : Type 0} → (X → Bool) → List X → ℕ → Type 0
IsFoundAt {X} test xs k = (x : X) × (slice_get xs k ≡ Some x) × (find test xs ≡ Some x)

pub found-at : {X : Type 0} (test : X → Bool) (xs : List X) (k : ℕ) → place_of test xs ≡ Some k → IsFoundAt test xs k
found-at test [] k e = absurd (cc (e))
found-at {X} test (x ∷ xs) k e = at (test x) refl e (λ j q. found-at test xs j q)
  where
    behind : (o : Option ℕ) → place_of test xs ≡ o → option_map (λ k. suc k) o ≡ Some k → test x ≡ false → ((j : ℕ) → place_of test xs ≡ Some j → IsFoundAt test xs j) → IsFoundAt test (x ∷ xs) k
    behind None q e t rec = absurd (cc (e))
    behind (Some j) q e t rec = let r = rec j q in (r.0, ap (slice_get (x ∷ xs)) (sym (some_is e)) ∙ r.1, ap (λ b. if b then Some x else find test xs) t ∙ r.2)

    at : (b : Bool) → test x ≡ b → (if b then Some 0 else option_map (λ k. suc k) (place_of test xs)) ≡ Some k → ((j : ℕ) → place_of test xs ≡ Some j → IsFoundAt test xs j) → IsFoundAt test (x ∷ xs) k
    at true t e rec = (x, ap (slice_get (x ∷ xs)) (sym (some_is e)), ap (λ b. if b then Some x else find test xs) t)
    at false t e rec = behind (place_of test xs) refl e t rec

pub none-found : {X : Type 0} (test : X → Bool) (xs : List X) → place_of test xs ≡ None → find test xs ≡ None
none-found test [] e = refl
none-found {X} test (x ∷ xs) e = at (test x) refl e (λ q. none-found test xs q)
  where
    behind : (o : Option ℕ) → place_of test xs ≡ o → option_map (λ k. suc k) o ≡ None → place_of test xs ≡ None
    behind None q e = q
    behind (Some j) q e = absurd (cc (e))

    at : (b : Bool) → test x ≡ b → (if b then Some 0 else option_map (λ k. suc k) (place_of test xs)) ≡ None → (place_of test xs ≡ None → find test xs ≡ None) → find test (x ∷ xs) ≡ None
    at true t e rec = absurd (cc (e))
    at false t e rec = ap (λ b. if b then Some x else find test xs) t ∙ rec (behind (place_of test xs) refl e)

-- the parameters at the end of a chain begin with those at its front
chain-front : (d : Design) (n : ℕ) (name : Name) (params : List Param) → (more : List Param) × (params_after params (chain d n name params) ≡ params ++ more)
chain-front d zero name params = ([], sym (append-nil params))
chain-front d (suc n) name params = at _ (λ next ps. chain-front d n next ps)
  where
    at : (o : Option FlatSplit) → ((next : Name) (ps : List Param) → (more : List Param) × (params_after ps (chain d n next ps) ≡ ps ++ more)) → (more : List Param) × (params_after params (onward_if (chain d n) params o) ≡ params ++ more)
    at None rec = ([], sym (append-nil params))
    at (Some s) rec = let r = rec s.name (all_params (cut params s)) in (new (cut params s) ++ r.0, r.1 ∙ append_assoc params (new (cut params s)) r.0)

-- so those of the unit itself are the first of its leaf
pub own-are : (d : Design) (u k : ℕ) (unit : Unit) → k ≡ length (own_params d (unit_in d unit)) → take k (leaf_of d u (unit_in d unit)).params ≡ own_params d (unit_in d unit)
own-are d u k unit e =
    let r = chain-front d (length d.splits) (name_of d (unit_in d unit)) (own_params d (unit_in d unit)) in
    ap (λ k. take k (leaf_of d u (unit_in d unit)).params) e ∙ (ap (take (length (own_params d (unit_in d unit)))) r.1 ∙ take-front (own_params d (unit_in d unit)) r.0)

-- the leaf at the place of a unit
pub leaf-there : (d : Design) (u k : ℕ) (units : List Unit) (unit : Unit) → slice_get units k ≡ Some unit → slice_get (leaves_from d u units) k ≡ Some (leaf_of d (k + u) (unit_in d unit))
leaf-there d u k [] unit e = absurd (cc (e))
leaf-there d u zero (x ∷ units) unit e = ap (λ (x : Unit). Some (leaf_of d u (unit_in d x))) (some_is e) ∙ ap (λ j. Some (leaf_of d j (unit_in d unit))) (omega arith)
leaf-there d u (suc k) (x ∷ units) unit e = leaf-there d (suc u) k units unit e ∙ ap (λ j. Some (leaf_of d j (unit_in d unit))) (omega arith)

-- ---- the plan of a valid text

-- it is ready to be decided at given sizes
pub ready-plan : ValidTextsAreFaultless → DesignsAreExact → (text : List ℕ) (tree : Text) → IsValid text tree → (plan : Plan) → plan.design ≡ flat_design tree → IsWholePlan plan → (place : ℕ) → place < length plan.units → IsReady plan
ready-plan faultless exact text tree valid plan design whole place there =
    let f = (faultless text tree valid).0 in
    let p = part plan whole place there in record {
      is_whole = whole;
      is_design = record {
        is_exact = subst (λ (d : Design). (sizes : Sizes) → AreSizes (names_of d) sizes → IsExact d sizes) (sym design) (exact tree f.kinds f.single f.sets);
        is_fit = p.is_fit;
        are_apart = p.is_checked.are_apart;
        have_values = p.have_values;
        sizes = p.sizes;
      };
    }

numbered-long : (k : ℕ) (params : List Param) → length (numbered k params) ≡ length params
numbered-long k [] = refl
numbered-long k (p ∷ params) = ap (λ n. suc n) (numbered-long (suc k) params)

own-long : (d : Design) (unit : FlatUnit) → length (params_of (names_of d) unit) ≡ length (own_params d unit)
own-long d (map_of def) = sym (numbered-long 0 (map nameless (over_of (slice_get d.families def.family))) ∙ length_map nameless (over_of (slice_get d.families def.family)))
own-long d (claim_of claim) = length_map (λ (q : Param). q.over) claim.params

pub unit-there : (d : Design) (plan : Plan) → IsPlan d plan → (place : ℕ) (unit : Unit) → slice_get (units_of d) place ≡ Some unit → unit_at plan place ≡ unit
unit-there d plan h place unit e = ap (λ (us : List Unit). unwrap_or (slice_get us place) (Claim 0)) h.units ∙ ap (λ (o : Option Unit). unwrap_or o (Claim 0)) e

abbrev no_leaf : Leaf
no_leaf = record { unit = 0; name = []; params = []; guards = [] }

abbrev own_by : Design → Unit → Leaf → List Param
own_by d unit leaf = take (length (params_of (names_of d) (unit_in d unit))) leaf.params

-- the parameters that are shown are those of the unit itself
pub own-shown : (d : Design) (plan : Plan) → IsPlan d plan → (place : ℕ) (unit : Unit) → slice_get (units_of d) place ≡ Some unit → (own_of plan place).params ≡ own_params d (unit_in d unit)
own-shown d plan h place unit e = (λ i. own_by (h.design i) (unit-there d plan h place unit e i) (leaf-is i)) ∙ own-are d (place + 0) (length (params_of (names_of d) (unit_in d unit))) unit (own-long d (unit_in d unit))
  where
    leaf-is : leaf_at plan place ≡ leaf_of d (place + 0) (unit_in d unit)
    leaf-is = ap (λ (ls : List Leaf). unwrap_or (slice_get ls place) no_leaf) h.leaves ∙ ap (λ (o : Option Leaf). unwrap_or o no_leaf) (leaf-there d 0 place (units_of d) unit e)
