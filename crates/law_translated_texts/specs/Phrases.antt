-- What is written for one formula: its claim, and the declarations and definitions of its monitors, piece by piece. Each piece is a token or the bytes of a part of the formula.
use Rattle.std.specs.Prelude.{ℕ, List, [], ◌∷◌, ◌++◌, map, flat_map, codes, Option, Some, None}
use Rattle.smv_core.specs.Values.{Name}
use Rattle.law_translated_texts.specs.Parts.{Phrase, Now, Next, When, Weak}

-- ---- pieces

abbrev pub Pieces : Type 0
Pieces = List (List ℕ)

abbrev pub in_parens : Pieces → Pieces
in_parens ps = codes "(" ∷ ps ++ codes ")" ∷ []

-- a condition or an expression in parentheses
abbrev pub whole : List ℕ → Pieces
whole bytes = in_parens (bytes ∷ [])

-- one and more, joined by a sign
abbrev pub joined : List ℕ → Pieces → List Pieces → Pieces
joined sign ps more = ps ++ flat_map (λ qs. sign ∷ qs) more

-- joined by `->`; no list of a claim is empty
abbrev pub implied : List Pieces → Pieces
implied [] = codes "1" ∷ []
implied (ps ∷ more) = joined (codes "->") ps more

-- `~ ( ( c ) = 0 )`
abbrev pub lasting : List ℕ → Pieces
lasting c = codes "~" ∷ in_parens (whole c ++ codes "=" ∷ codes "0" ∷ [])

-- ---- the claim and the definitions of one formula

-- a place in a formula: the monitor of the X before it, or none, and the conditions since
pub record Stage : Type 0 where
  pub start : Option Name
  pub conditions : Pieces

-- the place before the whole formula
abbrev pub outset : Stage
outset = record { start = None; conditions = [] }

-- behind one more condition
abbrev pub under : Stage → List ℕ → Stage
under stage c = record stage { conditions = stage.conditions ++ c ∷ [] }

-- behind an X
abbrev pub behind : Name → Stage
behind m = record { start = Some m; conditions = [] }

-- under a claim whose parameters have these names, from the outside in
module _ (vars : List Name) where
  -- a monitor at the claim's parameters
  abbrev pub monitor : Name → Pieces
  monitor m = m ∷ flat_map (λ var. codes "[" ∷ var ∷ codes "]" ∷ []) vars

  -- 1, or the monitor of the X before the stage
  abbrev pub started : Option Name → Pieces
  started None = codes "1" ∷ []
  started (Some m) = monitor m

  -- the stage was reached, and none of its conditions is out
  abbrev pub reached : Stage → Pieces
  reached stage = joined (codes "&") (started stage.start) (map lasting stage.conditions)

  -- it was, or the monitor of the W says so
  abbrev pub reached_or : Name → Stage → Pieces
  reached_or w stage = in_parens (reached stage ++ codes "|" ∷ monitor w)

  -- the monitor before the conditions of the last stage, where there is one
  abbrev pub front_of : Option Name → List Pieces
  front_of None = []
  front_of (Some m) = monitor m ∷ []

  -- what each monitor is at the next time
  abbrev pub definitions : List Name → Stage → Phrase (List ℕ) → List (Name × Pieces)
  definitions names stage (Now e) = []
  definitions [] stage (Next f) = []
  definitions (m ∷ names) stage (Next f) = (m, reached stage) ∷ definitions names (behind m) f
  definitions names stage (When c f) = definitions names (under stage c) f
  definitions [] stage (Weak p q) = []
  definitions (w ∷ names) stage (Weak p q) = (w, reached_or w stage ++ codes "&" ∷ codes "~" ∷ whole q) ∷ []

  -- what is claimed of each time
  abbrev pub claim_of : List Name → Stage → Phrase (List ℕ) → Pieces
  claim_of names stage (Now e) = implied (front_of stage.start ++ map whole stage.conditions ++ whole e ∷ [])
  claim_of [] stage (Next f) = codes "1" ∷ []
  claim_of (m ∷ names) stage (Next f) = claim_of names (behind m) f
  claim_of names stage (When c f) = claim_of names (under stage c) f
  claim_of [] stage (Weak p q) = codes "1" ∷ []
  claim_of (w ∷ names) stage (Weak p q) = reached_or w stage ++ codes "->" ∷ in_parens (whole q ++ codes "|" ∷ whole p)

-- ---- behind the claim's binders

-- the names that are bound around a claim, from the outside in, and the tokens of their types
abbrev pub Binders : Type 0
Binders = List (Name × Pieces)

abbrev pub names_in : Binders → List Name
names_in binders = map (λ b. b.0) binders

-- `array T of .. boolean`
abbrev pub type_of : Binders → Pieces
type_of binders = flat_map (λ b. codes "array" ∷ b.1 ++ codes "of" ∷ []) binders ++ codes "boolean" ∷ []

-- `forall ( i in T ) ..`
abbrev pub within : Binders → Pieces → Pieces
within binders ps = flat_map (λ b. codes "forall" ∷ in_parens (b.0 ∷ codes "in" ∷ b.1)) binders ++ ps

-- `init ( path ) := value ;`, or `next`
abbrev pub assigned : List ℕ → Pieces → Pieces → Pieces
assigned word path value = word ∷ in_parens path ++ codes ":=" ∷ value ++ codes ";" ∷ []

-- both definitions of a monitor
abbrev pub defining : Binders → Name × Pieces → Pieces
defining binders (m, value) =
    let path = monitor (names_in binders) m in
    within binders (assigned (codes "init") path (codes "0" ∷ [])) ++ within binders (assigned (codes "next") path value)

-- the declarations of monitors
abbrev pub declared : Binders → List Name → Pieces
declared binders monitors = flat_map (λ m. codes "abstract" ∷ m ∷ codes ":" ∷ type_of binders ++ codes ";" ∷ []) monitors

-- the definitions of a formula's monitors
abbrev pub defined : Binders → List Name → Phrase (List ℕ) → Pieces
defined binders monitors f = flat_map (defining binders) (definitions (names_in binders) monitors outset f)
