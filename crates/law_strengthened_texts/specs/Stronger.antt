-- The strengthened text of a claim and one of its parameters: in place of the claim's expression E stands `& [ v < VAR -> ( E2 ) : v in T ] -> ( E )`.
use Rattle.std.specs.Prelude.{◌≡◌, ◌+◌, ◌-◌, ℕ, zero, suc, List, [], ◌∷◌, ◌++◌, flat_map, filter, take, drop, length, codes, Option, Some, None, Ok, Bool, false, ◌&&◌, if◌then◌else◌, nat_lt}
use Rattle.std.specs.Option.{option_or, option_map}
use Rattle.std.specs.List.{list_any}
use Rattle.std.specs.Str.{bytes_eq}
use Rattle.std.specs.Fmt.{decimal}
use Rattle.smv_core.specs.Values.{Name}
use Rattle.smv_core.specs.FlatOrder.{main}
use Rattle.smv_core.specs.declared.tree.Word.{Word}
use Rattle.smv_core.specs.declared.tree.Text.{Text}
use Rattle.smv_core.specs.declared.tree.Top.{Top}
use Rattle.smv_core.specs.declared.tree.Top.TheVariants.{SetType, Module}
use Rattle.smv_core.specs.declared.tree.TypeExpr.{TypeExpr, Named}
use Rattle.smv_core.specs.declared.tree.Item.{Item, Forall', Block', Claim, Row_of-Item, end_of-Item, more_of-Item}
use Rattle.smv_core.specs.Notation.{Tokens}
use Rattle.smv_core.specs.Spelling.{Spells}
use Rattle.smv_lex.specs.Lexing.{lexed}
use Rattle.law_lexed_parts.specs.Parts.{begin_of, end_of_all}
use Rattle.law_exchanged.specs.Claims.{body_tokens}
use Rattle.law_strengthened_claims.specs.Renaming.{is_name, between, renamed_bytes}
use Rattle.law_strengthened_claims.specs.Replacement.{replacement}

-- ---- which claim, over which ordset

-- a claim: its name, the names in its brackets, and the binders around it from the outside in
pub record Found : Type 0 where
  pub word : Word
  pub vars : List Word
  pub binders : List (Word × TypeExpr)

abbrev mutual
  -- the claims of an item inside these binders, under binders and blocks
  pub claims_in : List (Word × TypeExpr) → Item → List Found
  claims_in around (Forall' word over shape items at) = all_claims_in (around ++ (word, over) ∷ []) items
  claims_in around (Block' shape items) = all_claims_in around items
  claims_in around (Claim word vars body at) = record { word = word; vars = vars; binders = around } ∷ []
  claims_in around _ = []

  pub all_claims_in : {m : _} → List (Word × TypeExpr) → Row_of-Item m → List Found
  all_claims_in around end_of-Item = []
  all_claims_in around (more_of-Item item rest) = claims_in around item ++ all_claims_in around rest

-- those of each module `main`
abbrev pub main_claims : List Top → List Found
main_claims [] = []
main_claims (Module word formals body at ∷ tops) = (if bytes_eq word.name main then flat_map (claims_in []) body else []) ++ main_claims tops
main_claims (_ ∷ tops) = main_claims tops

-- the type of the innermost binder of a name
abbrev pub innermost : Name → List (Word × TypeExpr) → Option TypeExpr
innermost var [] = None
innermost var ((word, over) ∷ binders) = option_or (innermost var binders) (if bytes_eq word.name var then Some over else None)

-- an `ordset` declares the name
abbrev pub is_ordset : Name → Top → Bool
is_ordset name (SetType word ordered span at) = ordered && bytes_eq word.name name
is_ordset name _ = false

-- a name that an `ordset` declares, and no name of such a type
abbrev pub ordset_named : List Top → Option TypeExpr → Option Name
ordset_named tops (Some (Named word at)) = if list_any (is_ordset word.name) tops then Some word.name else None
ordset_named tops _ = None

abbrev pub if_parameter : List Top → Name → Found → Option (Found × Name)
if_parameter tops var c = if list_any (λ word. bytes_eq word.name var) c.vars then option_map (λ set. (c, set)) (ordset_named tops (innermost var c.binders)) else None

abbrev pub if_only : List Top → Name → List Found → Option (Found × Name)
if_only tops var (c ∷ []) = if_parameter tops var c
if_only tops var _ = None

-- the one claim of this name in `main`, with the ordset over which the parameter runs; None is fault 36
abbrev pub induction : List Top → Name → Name → Option (Found × Name)
induction tops name var = if_only tops var (filter (λ c. bytes_eq c.word.name name) (main_claims tops))

-- ---- the new name

-- `below0`, `below1` and so on
abbrev pub below_name : ℕ → Name
below_name k = codes "below" ++ decimal k

-- the first of them, from the k-th on, that is no token; there are no more taken than there are tokens
abbrev pub first_free : Tokens → ℕ → ℕ → Name
first_free ts zero k = below_name k
first_free ts (suc more) k = if list_any (λ t. is_name (below_name k) t.kind) ts then first_free ts more (k + 1) else below_name k

abbrev pub fresh_name : Tokens → Name
fresh_name ts = first_free ts (length ts) 0

-- ---- the bytes

-- The strengthened text, the offset of E, the lengths of E and of what stands in its place, and the offset of the claim's name.
pub record Stronger : Type 0 where
  pub text : List ℕ
  pub from : ℕ
  pub old : ℕ
  pub new : ℕ
  pub at : ℕ

-- in place of the bytes from one offset up to another
abbrev pub put : List ℕ → ℕ → ℕ → List ℕ → ℕ → Stronger
put text from to new at = record { text = take from text ++ (new ++ drop to text); from = from; old = to - from; new = length new; at = at }

abbrev pub strengthened_by : List ℕ → Name → Name → Name → Tokens → ℕ → Stronger
strengthened_by text var set fresh es at =
    let from = begin_of es in
    let to = end_of_all text es in
    put text from to (replacement var fresh set (renamed_bytes text var fresh from to false es) (between text from to)) at

-- that of a text with these tokens, for the claim whose name stands at this offset
abbrev pub strengthened : List ℕ → Tokens → Name → Name → ℕ → Stronger
strengthened text ts var set at = strengthened_by text var set (fresh_name ts) (body_tokens at ts) at

-- ---- back

-- Where an offset of the strengthened text stands in the text that was read: before the replacement at itself, inside it at the claim's name, and behind it as far from the end.
abbrev pub back : Stronger → ℕ → ℕ
back s at = if nat_lt at s.from then at else if nat_lt at (s.from + s.new) then s.at else at - s.new + s.old

-- ---- when a text is strengthened

-- how many levels may be open at one token
abbrev pub levels : ℕ
levels = 64

-- The text is one tree, the induction is over an ordset, and this is the strengthened text.
abbrev pub IsStrengthened : List ℕ → Name → Name → Stronger → Type 0
IsStrengthened text name var s = (ts : Tokens) × (x : Text) × (c : Found) × (set : Name) × (lexed text ≡ Ok ts) × Spells levels ts x × (induction x.tops name var ≡ Some (c, set)) × (s ≡ strengthened text ts var set c.word.at)

-- Fault 36: the text is one tree, and no induction of it is this one.
abbrev pub HasNoInduction : List ℕ → Name → Name → Type 0
HasNoInduction text name var = (ts : Tokens) × (x : Text) × (lexed text ≡ Ok ts) × Spells levels ts x × (induction x.tops name var ≡ None)
