-- The items of a text by their sorts, one more at a time.
use Rattle.std.proofs.Common.{◌≡◌, ℕ, ◌+◌, List, [], ◌∷◌, ◌++◌, refl, sym, ap, ◌∙◌}
use Rattle.std.proofs.lemmas.List.{append-nil, append_assoc}
use Rattle.smv_core.specs.declared.flat.FlatItem.{FlatItem}
use Rattle.smv_core.specs.declared.flat.FlatItem.TheVariants as item
use Rattle.smv_core.specs.declared.flat.Claim.{Claim}
use Rattle.smv_core.specs.declared.flat.FlatSplit.{FlatSplit}
use Rattle.smv_core.specs.declared.flat.FlatUsing.{FlatUsing}
use Rattle.law_designs.specs.WholeText.{claims_of}
use Rattle.law_designs.specs.Standing.{Statement, statements_from}
use Rattle.law_designs.specs.Definitions.{Head, splits_of, uses_of}
use Rattle.smv_design.specs.Parts.{size}
use Rattle.smv_design.specs.Acts.{heads_in, heads_from, place_behind}

statements-step : (k : ℕ) (x : FlatItem) (rest : List FlatItem) → statements_from k (x ∷ rest) ≡ statements_from k (x ∷ []) ++ statements_from (place_behind k x) rest
unfolding size
statements-step k (item.Act layer act) rest = refl
statements-step k (item.Claim c) rest = refl
statements-step k (item.Split c) rest = refl
statements-step k (item.Using c) rest = refl

heads-step : (k : ℕ) (x : FlatItem) (rest : List FlatItem) → heads_from k (x ∷ rest) ≡ heads_from k (x ∷ []) ++ heads_from (place_behind k x) rest
unfolding size
heads-step k (item.Act layer act) rest = ap (λ l. l ++ heads_from (k + size act) rest) (sym (append-nil (heads_in layer k act)))
heads-step k (item.Claim c) rest = refl
heads-step k (item.Split c) rest = refl
heads-step k (item.Using c) rest = refl

claims-step : (x : FlatItem) (rest : List FlatItem) → claims_of (x ∷ rest) ≡ claims_of (x ∷ []) ++ claims_of rest
claims-step (item.Act layer act) rest = refl
claims-step (item.Claim c) rest = refl
claims-step (item.Split c) rest = refl
claims-step (item.Using c) rest = refl

splits-step : (x : FlatItem) (rest : List FlatItem) → splits_of (x ∷ rest) ≡ splits_of (x ∷ []) ++ splits_of rest
splits-step (item.Act layer act) rest = refl
splits-step (item.Claim c) rest = refl
splits-step (item.Split c) rest = refl
splits-step (item.Using c) rest = refl

uses-step : (x : FlatItem) (rest : List FlatItem) → uses_of (x ∷ rest) ≡ uses_of (x ∷ []) ++ uses_of rest
uses-step (item.Act layer act) rest = refl
uses-step (item.Claim c) rest = refl
uses-step (item.Split c) rest = refl
uses-step (item.Using c) rest = refl

-- one more item of a loop
one-more : {X : Type 0} (found found' one rest whole all : List X) → found' ≡ found ++ one → whole ≡ one ++ rest → found ++ whole ≡ all → found' ++ rest ≡ all
one-more found found' one rest whole all new split old = ap (λ l. l ++ rest) new ∙ append_assoc found one rest ∙ ap (λ l. found ++ l) (sym split) ∙ old

pub more-statements : (found found' : List Statement) (k k' : ℕ) (x : FlatItem) (rest : List FlatItem) (all : List Statement) → found' ≡ found ++ statements_from k (x ∷ []) → k' ≡ place_behind k x
    → found ++ statements_from k (x ∷ rest) ≡ all → found' ++ statements_from k' rest ≡ all
more-statements found found' k k' x rest all new behind old = ap (λ j. found' ++ statements_from j rest) behind ∙ one-more found found' _ _ _ all new (statements-step k x rest) old

pub more-heads : (found found' : List Head) (k k' : ℕ) (x : FlatItem) (rest : List FlatItem) (all : List Head) → found' ≡ found ++ heads_from k (x ∷ []) → k' ≡ place_behind k x
    → found ++ heads_from k (x ∷ rest) ≡ all → found' ++ heads_from k' rest ≡ all
more-heads found found' k k' x rest all new behind old = ap (λ j. found' ++ heads_from j rest) behind ∙ one-more found found' _ _ _ all new (heads-step k x rest) old

pub more-claims : (found found' : List Claim) (x : FlatItem) (rest : List FlatItem) (all : List Claim) → found' ≡ found ++ claims_of (x ∷ []) → found ++ claims_of (x ∷ rest) ≡ all → found' ++ claims_of rest ≡ all
more-claims found found' x rest all new old = one-more found found' _ _ _ all new (claims-step x rest) old

pub more-splits : (found found' : List FlatSplit) (x : FlatItem) (rest : List FlatItem) (all : List FlatSplit) → found' ≡ found ++ splits_of (x ∷ []) → found ++ splits_of (x ∷ rest) ≡ all → found' ++ splits_of rest ≡ all
more-splits found found' x rest all new old = one-more found found' _ _ _ all new (splits-step x rest) old

pub more-uses : (found found' : List FlatUsing) (x : FlatItem) (rest : List FlatItem) (all : List FlatUsing) → found' ≡ found ++ uses_of (x ∷ []) → found ++ uses_of (x ∷ rest) ≡ all → found' ++ uses_of rest ≡ all
more-uses found found' x rest all new old = one-more found found' _ _ _ all new (uses-step x rest) old
