-- The tokens of a text that is read stand within it, no two of them at one offset; so do its claims and its formulas.
use Rattle.std.proofs.Common.{◌≡◌, ◌≤◌, ◌<◌, ◌+◌, ℕ, List, [], ◌∷◌, ◌++◌, map, length, nat_eq, false, Ok, refl, arith}
use Rattle.std.specs.List.{AllByRecursion, list_any}
use Rattle.std.proofs.lemmas.Bool.{or_from}
use Rattle.law_lists.proofs.Each.{each_weaker}
use Rattle.law_lists.proofs.Numbers.{nat_eq-below}
use Rattle.smv_core.specs.declared.token.Token.{Token}
use Rattle.smv_core.specs.Notation.{Tokens}
use Rattle.smv_core.specs.Spelling.{place_of_rest}
use Rattle.smv_lex.specs.Lexing.{lexed}
use Rattle.law_lexed_parts.proofs.Parted.{From, Rising, rising, within-text}
use Rattle.law_formulas.specs.Formulas.{FormulaText}
use Rattle.law_fresh_monitors.specs.Spots.{NoneTwice}
use Rattle.law_formula_texts.specs.Spelled.{SpellsFormulas}
use Rattle.law_formula_grammar.proofs.Back.{back-text}
use Rattle.law_formula_places.proofs.Claims.{TopStands}
use Rattle.law_formula_places.proofs.Standing.{Stands, FormulasStand, text-stands}

other-offsets : (at : ℕ) (ts : Tokens) → From (at + 1) ts → list_any (nat_eq at) (map (λ (t : Token). t.at) ts) ≡ false
other-offsets at [] h = refl
other-offsets at (t ∷ ts) h = let low = h.0 in or_from (nat_eq at t.at) (list_any (nat_eq at) (map (λ (u : Token). u.at) ts)) (nat_eq-below at t.at (omega (arith, low))) (other-offsets at ts h.1)

each-once : (ts : Tokens) → Rising ts → NoneTwice (map (λ (t : Token). t.at) ts)
each-once [] h = tt
each-once (t ∷ ts) h = (other-offsets t.at ts h.0, each-once ts h.1)

pub tokens-stand : (text : List ℕ) (ts : Tokens) → lexed text ≡ Ok ts → Stands (length text) ts
tokens-stand text ts read = each_weaker (λ (t : Token). t.at < 0 + length text) (λ (t : Token). t.at ≤ length text) (λ t low. omega (arith, low)) ts (within-text 0 0 text ts read)

-- and so does what they spell
pub spelled-stands : (n : ℕ) (text : List ℕ) (ts : Tokens) (ft : FormulaText) → lexed text ≡ Ok ts → SpellsFormulas n ts ft → AllByRecursion (TopStands (length text)) ft.text.tops × FormulasStand (length text) ft.formulas
spelled-stands n text ts ft read spelled = text-stands (length text) n ts ft (tokens-stand text ts read) (back-text n ts ft (each-once ts (rising 0 0 text ts read)) spelled)

-- what is left of tokens begins where they stand, or at the end
pub rest-stands : (n : ℕ) (front rest : Tokens) → Stands n (front ++ rest) → place_of_rest n rest ≤ n
rest-stands n [] [] h = omega arith
rest-stands n [] (t ∷ rest) h = h.0
rest-stands n (t ∷ front) rest h = rest-stands n front rest h.1
