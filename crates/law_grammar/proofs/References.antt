-- The laws of references, splits and uses.
use Rattle.std.proofs.Common.{◌≡◌, ◌-◌, ◌<◌, ℕ, Bool, true, false, List, [], ◌∷◌, ◌++◌, Option, Some, None, inl, inr, refl}
use Rattle.smv_core.specs.declared.token.Token.{Token}
use Rattle.smv_core.specs.declared.tree.Word.{Word}
use Rattle.smv_core.specs.declared.tree.Expr.{Expr}
use Rattle.smv_core.specs.declared.tree.Item.TheVariants as item
use Rattle.smv_core.specs.declared.tree.Ref.{Ref}
use Rattle.smv_core.specs.declared.tree.Use.{Use}
use Rattle.smv_core.specs.declared.tree.Use.TheVariants as uses
use Rattle.smv_core.specs.Signs.{open_paren, close_paren, open_bracket, close_bracket, open_brace, close_brace, semicolon, comma, dot, equal, arrow, slashes}
use Rattle.smv_core.specs.Signs as w
use Rattle.smv_core.specs.Notation.{Tokens, Rule, nothing, ◌>>=◌, ◌>>◌, ◌<|>◌, many, token, name, placed, separated_or_none}
use Rattle.smv_core.specs.Grammar as g
use Rattle.smv_core.specs.Grammar.{below, dotted, bracketed}
use Rattle.law_grammar.specs.Parsing.{Parser, bind, pure, take, take_open, loop, starts}
use Rattle.law_grammar.specs.Lawful.{Levels, Lawful}
use Rattle.law_grammar.specs.Marks.{Mark, any_name, exactly, begins, stops_by}
use Rattle.law_grammar.specs.Readers.{a_token, a_name, maybe, first_at, noting, read_separated_or_none}
use Rattle.law_grammar.specs.Expressions.{prim_marks, expr_readers, read_sum}
use Rattle.law_grammar.specs.References as p
use Rattle.law_grammar.proofs.Tokens.{pure-law, nothing-lawful, same-lawful}
use Rattle.law_grammar.proofs.Forms.{Begins, begins-then, begins-either, begins-wider, leads-nothing, leads-many, leads-maybe, leads-then, token-begins, opener-begins, token-lawful, level, name-begins, name-lawful, closed, next, next-led, repeated, at-most-once, alternative, continued, made, separated-lawful, next-begun, ended}
use Rattle.law_grammar.proofs.Second.{Second, second-one, second-then, begins2-one, not-so, accepts-take, accepts-then}
use Rattle.law_grammar.proofs.Ahead.{Accepts, chosen-ahead}
use Rattle.law_grammar.proofs.Noted.{noted, noted-lawful}
use Rattle.law_grammar.proofs.Types.{names-lawful}
use Rattle.law_grammar.proofs.Expressions.{At, after_path, after_sum, names, name-token, sum-begins, sum-lawful, inner-laws}

-- ---- names in brackets, and layers

pub in-brackets-lawful : {C : Type 0} (n : ℕ) → Lawful C (At g.in_brackets) n (p.read_in_brackets n) (stops_by closed)
unfolding p.read_in_brackets
in-brackets-lawful n = level open_bracket refl (λ _. next name-lawful (λ x. next (token-lawful close_bracket refl) (λ _. nothing-lawful _)))

pub in-brackets-begins : Begins (exactly open_bracket ∷ []) (At g.in_brackets)
in-brackets-begins = begins-then (opener-begins open_bracket)

layer-name-lawful : {C : Type 0} {n : ℕ} → Lawful C (λ floor m. g.layer_name) n p.read_layer_name (stops_by closed)
unfolding p.read_layer_name
layer-name-lawful = next name-lawful (λ l. nothing-lawful _)

layer-or-free-lawful : {C : Type 0} {n : ℕ} → Lawful C (λ floor m. g.layer_name <|> g.free) n p.read_layer_or_free (stops_by closed)
unfolding p.read_layer_or_free
layer-or-free-lawful = alternative (any_name ∷ []) (exactly w.word_free ∷ []) layer-name-lawful (next (token-lawful w.word_free refl) (λ _. nothing-lawful _)) (begins-then name-begins) (begins-then (token-begins w.word_free)) refl

-- ---- references

abbrev pub after_ref : List Mark
after_ref = exactly slashes ∷ after_path

pub ref-part-begins : Begins after_path (At g.ref_part)
ref-part-begins = begins-either (begins-wider (exactly dot ∷ []) _ refl (begins-then (token-begins dot))) (begins-wider (exactly open_bracket ∷ []) _ refl (begins-then in-brackets-begins))

pub ref-part-lawful : {C : Type 0} (n : ℕ) → Lawful C (At g.ref_part) n (p.read_ref_part n) (stops_by closed)
unfolding p.read_ref_part
ref-part-lawful n = alternative (exactly dot ∷ []) (exactly open_bracket ∷ []) (next (token-lawful dot refl) (λ _. next name-lawful (λ x. nothing-lawful _)))
    (next (in-brackets-lawful n) (λ x. nothing-lawful _)) (begins-then (token-begins dot)) (begins-then in-brackets-begins) refl

-- a reference with such a layer
abbrev ref_with : Rule (Option Word × Bool) → Levels Ref
ref_with layer floor m = g.ref_by floor m (below floor m) ((token slashes >> layer) <|> nothing (None, false))

abbrev ref_of : Word → List g.RefPart → Option Word × Bool → Ref
ref_of x parts l = record { path = x ∷ dotted parts; names = bracketed parts; layer = l.0; free = l.1; at = x.at }

module _ (C : Type 0) (n : ℕ) (layer : Rule (Option Word × Bool)) (q : Parser (Option Word × Bool)) (f : Lawful C (λ floor m. layer) n q (stops_by closed)) where
  abbrev behind_name : Word → Levels Ref
  behind_name x floor m = many (At g.ref_part floor m) >>= λ parts. ((token slashes >> layer) <|> nothing (None, false)) >>= λ l. nothing (ref_of x parts l)

  behind-lawful : (x : Word) → Lawful C (behind_name x) n
      (bind (loop (begins after_path) (p.read_ref_part n)) (λ parts.
      bind (maybe (exactly slashes ∷ []) (bind (take (a_token slashes)) (λ _. q)) (None, false)) (λ l. pure (ref_of x parts l)))) (stops_by (λ r. after_ref))
  behind-lawful x = next-led (exactly slashes ∷ []) (λ parts. after_path) (λ r. after_ref) (repeated after_path closed after_path (ref-part-lawful n) ref-part-begins (λ a. refl) refl (λ a. refl))
      (λ parts. made after_ref (ref_of x parts) (at-most-once (exactly slashes ∷ []) closed (λ l. after_ref) (None, false) (next (token-lawful slashes refl) (λ _. f)) (begins-then (token-begins slashes)) refl (λ a. refl)))
      (λ parts. leads-then (leads-maybe (None, false) (begins-then (token-begins slashes))) (λ l. leads-nothing _)) (λ parts. refl) (λ parts r. refl)

  ref-by-lawful : Lawful C (ref_with layer) n (p.read_ref_by n q) (stops_by (λ r. after_ref))
  unfolding p.read_ref_by
  ref-by-lawful = next name-lawful behind-lawful

  ref-by-accepts : C → (t : Token) → begins names t ≡ true → Accepts (p.read_ref_by n q) t
  unfolding p.read_ref_by
  ref-by-accepts c t e = let x = name-token t e in accepts-take {S = behind_name} {n = n} {st = stops_by (λ r. after_ref)} a_name (λ x. (behind-lawful x).law c) t x.0 x.1

-- what is behind the name of a reference
ref-second : (layer : Rule (Option Word × Bool)) → Second names after_ref (ref_with layer)
ref-second layer = second-then (second-one a_name) (λ x. leads-then (leads-many (begins-wider after_path after_ref refl ref-part-begins))
    (λ parts. leads-then (leads-maybe (None, false) (begins-wider (exactly slashes ∷ []) after_ref refl (begins-then (token-begins slashes)))) (λ l. leads-nothing _)))

ref-begins : (layer : Rule (Option Word × Bool)) → Begins names (ref_with layer)
ref-begins layer = begins-then name-begins

pub ref-lawful : {C : Type 0} (n : ℕ) → Lawful C (At g.ref) n (p.read_ref n) (stops_by (λ r. after_ref))
unfolding p.read_ref
ref-lawful {C = C} n = ref-by-lawful C n g.layer_name p.read_layer_name layer-name-lawful

pub used-lawful : {C : Type 0} (n : ℕ) → Lawful C (At g.ref_rule) n (p.read_used n) (stops_by (λ r. after_ref))
unfolding p.read_used
used-lawful {C = C} n = ref-by-lawful C n (g.layer_name <|> g.free) p.read_layer_or_free layer-or-free-lawful

used-accepts : {C : Type 0} (n : ℕ) → C → (t : Token) → begins names t ≡ true → Accepts (p.read_used n) t
unfolding p.read_used
used-accepts {C = C} n c t e = ref-by-accepts C n (g.layer_name <|> g.free) p.read_layer_or_free layer-or-free-lawful c t e

-- ---- uses

-- a use is also no name before an arrow
abbrev after_use : List Mark
after_use = exactly arrow ∷ after_ref

abbrev keep_tail : Word → Levels Use
keep_tail x floor m = token arrow >> g.opening floor m (below floor m) open_brace >> separated_or_none name >>= λ names. token close_brace >> nothing (uses.Keep x names x.at)

abbrev keep_rule : Levels Use
keep_rule floor m = name >>= λ x. keep_tail x floor m

abbrev plain_rule : Levels Use
plain_rule floor m = At g.ref_rule floor m >>= λ r. nothing (uses.Plain r)

abbrev early_rule : Levels Use
early_rule floor m = g.opening floor m (below floor m) open_paren >> (below floor m).ref >>= λ r. token close_paren >> nothing (uses.Early r)

pub names-or-none-lawful : {C : Type 0} {n : ℕ} → Lawful C (λ floor m. separated_or_none name) n (read_separated_or_none (any_name ∷ []) (take a_name)) (stops_by (λ names. any_name ∷ exactly comma ∷ []))
names-or-none-lawful = at-most-once (any_name ∷ []) (λ names. exactly comma ∷ []) (λ names. any_name ∷ exactly comma ∷ []) [] names-lawful (begins-then name-begins) refl (λ a. refl)

module _ (C : Type 0) (n : ℕ) (inner : Parser Ref) (law : Lawful (0 < n) (At g.ref_rule) (n - 1) inner (stops_by (λ r. after_ref))) where
  keep-tail-lawful : (x : Word) → Lawful C (keep_tail x) n
      (bind (take (a_token arrow)) (λ _. take_open (a_token open_brace) n (λ _. bind (read_separated_or_none (any_name ∷ []) (take a_name)) (λ names. bind (take (a_token close_brace)) (λ _. pure (uses.Keep x names x.at))))))
      (stops_by (λ u. after_use))
  keep-tail-lawful x = next (token-lawful arrow refl) (λ _. level open_brace refl (λ _. ended (any_name ∷ exactly comma ∷ []) close_brace (λ names. uses.Keep x names x.at) refl refl names-or-none-lawful))

  keep-lawful : Lawful C keep_rule n (p.read_keep n) (stops_by (λ u. after_use))
  unfolding p.read_keep
  keep-lawful = next name-lawful keep-tail-lawful

  keep-accepts : C → (t : Token) → begins names t ≡ true → Accepts (p.read_keep n) t
  unfolding p.read_keep
  keep-accepts c t e = let x = name-token t e in accepts-take {S = keep_tail} {n = n} {st = stops_by (λ u. after_use)} a_name (λ x. (keep-tail-lawful x).law c) t x.0 x.1

  plain-lawful : Lawful C plain_rule n (bind (p.read_used n) (λ r. pure (uses.Plain r))) (stops_by (λ u. after_use))
  plain-lawful = continued (λ u. after_ref) (λ u. after_use) (λ u. refl) (made after_ref uses.Plain (used-lawful n))

  plain-accepts : C → (t : Token) → begins names t ≡ true → Accepts (bind (p.read_used n) (λ r. pure (uses.Plain r))) t
  plain-accepts c t e = accepts-then {S = λ r floor m. nothing (uses.Plain r)} {n = n} {st = λ x o. true} (λ r. pure-law n (uses.Plain r) (λ x o. true)) t (used-accepts n c t e)

  early-lawful : Lawful C early_rule n (p.read_early n inner) (stops_by (λ u. after_use))
  unfolding p.read_early
  early-lawful = level open_paren refl (λ _. ended after_ref close_paren uses.Early refl refl law)

  named-begins : Begins names (λ floor m. keep_rule floor m <|> plain_rule floor m)
  named-begins = begins-either (begins-then name-begins) (begins-then (begins-then name-begins))

  arranged : Lawful C (λ floor m. early_rule floor m <|> keep_rule floor m <|> plain_rule floor m) n (p.read_use n inner) (stops_by (λ u. after_use))
  unfolding p.read_use
  arranged = alternative (exactly open_paren ∷ []) names early-lawful
      (chosen-ahead (begins names) (begins (exactly arrow ∷ [])) keep-lawful plain-lawful (begins2-one a_name name-begins (λ x. begins-then (token-begins arrow))).holds
      (not-so (exactly arrow ∷ []) (λ u. after_use) (second-then (ref-second (g.layer_name <|> g.free)) (λ r. leads-nothing _)) refl (λ u. refl)) keep-accepts plain-accepts)
      (begins-then (opener-begins open_paren)) named-begins refl

  pub use-lawful : Lawful C (At g.use_rule) n (p.read_use n inner) (stops_by (λ u. after_use))
  use-lawful = same-lawful to from (λ a t e. e) arranged
    where
      to : (floor : ℕ → ℕ) (m : ℕ) (ts : Tokens) (u : Use) (rest : Tokens) → (early_rule floor m <|> keep_rule floor m <|> plain_rule floor m) ts u rest → At g.use_rule floor m ts u rest
      to floor m ts u rest (inl h) = inr (inl h)
      to floor m ts u rest (inr (inl h)) = inr (inr h)
      to floor m ts u rest (inr (inr h)) = inl h

      from : (floor : ℕ → ℕ) (m : ℕ) (ts : Tokens) (u : Use) (rest : Tokens) → At g.use_rule floor m ts u rest → (early_rule floor m <|> keep_rule floor m <|> plain_rule floor m) ts u rest
      from floor m ts u rest (inl h) = inr (inr h)
      from floor m ts u rest (inr (inl h)) = inl h
      from floor m ts u rest (inr (inr h)) = inr (inl h)

  pub using-lawful : Lawful C (At g.using) n (p.read_using n inner) (stops_by closed)
  unfolding p.read_using
  using-lawful = next (token-lawful w.word_using refl) (λ at. next-begun (exactly w.word_prove ∷ []) (λ us. exactly comma ∷ after_use)
      (separated-lawful (λ u. after_use) (exactly comma ∷ after_use) use-lawful (λ u. refl) refl (λ u. refl))
      (λ us. next (token-lawful w.word_prove refl) (λ _. ended (exactly comma ∷ after_ref) semicolon (λ proves. item.Using us proves at) refl refl
      (separated-lawful (λ r. after_ref) (exactly comma ∷ after_ref) (ref-lawful n) (λ r. refl) refl (λ r. refl))))
      (λ us. begins-then (token-begins w.word_prove)) (λ us. refl))

-- ---- splits

-- the place of what begins with a token
first-steady : (floor : ℕ → ℕ) (m : ℕ) (front : Tokens) (x : Expr) → At g.sum floor m (front ++ []) x [] → (z : Tokens) → first_at (front ++ z) ≡ first_at front
first-steady floor m [] x h z = absurd (let e : starts (begins prim_marks) [] ≡ true = sum-begins.holds floor m [] x [] h in cc)
first-steady floor m (t ∷ front) x h z = refl

placed-sum : {C : Type 0} (n : ℕ) → Lawful C (λ floor m. placed (At g.sum floor m)) n (noting first_at (read_sum n (expr_readers n))) (stops_by (λ x. after_sum))
placed-sum {C = C} n = same-lawful to from stops (noted-lawful first_at first-steady (sum-lawful C n (expr_readers n) (inner-laws n)))
  where
    to : (floor : ℕ → ℕ) (m : ℕ) (ts : Tokens) (v : Expr × ℕ) (rest : Tokens) → noted first_at (At g.sum floor m) ts v rest → placed (At g.sum floor m) ts v rest
    to floor m [] v rest h = absurd (let e : starts (begins prim_marks) [] ≡ true = sum-begins.holds floor m [] v.0 rest h.0 in cc)
    to floor m (t ∷ ts) v rest h = h

    from : (floor : ℕ → ℕ) (m : ℕ) (ts : Tokens) (v : Expr × ℕ) (rest : Tokens) → placed (At g.sum floor m) ts v rest → noted first_at (At g.sum floor m) ts v rest
    from floor m [] v rest h = absurd h
    from floor m (t ∷ ts) v rest h = h

    stops : (v : Expr × ℕ) (t : Option Token) → stops_by (λ (x : Expr × ℕ). after_sum) v t ≡ true → stops_by (λ (x : Expr). after_sum) v.0 t ≡ true
    stops v None e = refl
    stops v (Some t) e = e

pub pair-lawful : {C : Type 0} (n : ℕ) → Lawful C (At g.pair) n (p.read_pair n) (stops_by closed)
unfolding p.read_pair
pair-lawful n = next-begun (exactly equal ∷ []) (λ x. after_sum) (placed-sum n) (λ x. next (token-lawful equal refl) (λ _. next name-lawful (λ y. nothing-lawful _))) (λ x. begins-then (token-begins equal)) (λ x. refl)

pub split-lawful : {C : Type 0} (n : ℕ) → Lawful C (At g.split) n (p.read_split n) (stops_by closed)
unfolding p.read_split
split-lawful n = next (token-lawful w.word_subcase refl) (λ at. next name-lawful (λ x. next-begun (exactly w.word_of ∷ []) (λ vars. exactly open_bracket ∷ [])
    (repeated (exactly open_bracket ∷ []) closed (exactly open_bracket ∷ []) (in-brackets-lawful n) in-brackets-begins (λ a. refl) refl (λ a. refl))
    (λ vars. next (token-lawful w.word_of refl) (λ _. next-begun (exactly w.word_for ∷ []) (λ r. after_ref) (ref-lawful n)
    (λ of. next (token-lawful w.word_for refl) (λ _. ended (exactly comma ∷ []) semicolon (λ pairs. item.Split x vars of pairs at) refl refl
    (separated-lawful closed (exactly comma ∷ []) (pair-lawful n) (λ a. refl) refl (λ a. refl))))
    (λ of. begins-then (token-begins w.word_for)) (λ r. refl)))
    (λ vars. begins-then (token-begins w.word_of)) (λ vars. refl)))
