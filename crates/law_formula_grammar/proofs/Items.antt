-- The laws of items: what begins with a name is read name first, and then by what follows it.
use Rattle.std.proofs.Common.{◌≡◌, ℕ, true, List, [], ◌∷◌, Option, Some, None, ◌⊎◌, inl, inr, refl, sym, ◌∙◌, ap, subst}
use Rattle.smv_core.specs.declared.tree.Word.{Word}
use Rattle.smv_core.specs.declared.tree.Part.{Part}
use Rattle.smv_core.specs.declared.tree.Path.{Path, out-Path}
use Rattle.smv_core.specs.declared.tree.Stmt.{Stmt}
use Rattle.smv_core.specs.declared.tree.Stmt.TheVariants as stmt
use Rattle.smv_core.specs.declared.tree.Kind.TheVariants as kind
use Rattle.smv_core.specs.declared.tree.Item.{Item}
use Rattle.smv_core.specs.declared.tree.Item.TheVariants as item
use Rattle.smv_core.specs.Signs.{open_brace, close_brace, colon, semicolon, comma, becomes}
use Rattle.smv_core.specs.Signs as w
use Rattle.smv_core.specs.Notation.{Tokens, nothing, ◌>>=◌, ◌>>◌, ◌<|>◌, many, placed, token, name, opener}
use Rattle.smv_core.specs.Grammar as g
use Rattle.smv_core.specs.Grammar.{below, named}
use Rattle.law_grammar.specs.Parsing.{starts}
use Rattle.law_grammar.specs.Lawful.{Levels, Lawful}
use Rattle.law_grammar.specs.Marks.{exactly, begins, stops_by}
use Rattle.law_grammar.specs.Items.{MarkedPart, parts_of, vars_of, vars_of_some, other_marks, item_marks}
use Rattle.law_grammar.proofs.Tokens.{nothing-lawful}
use Rattle.law_grammar.proofs.Forms.{Begins, begins-then, begins-either, begins-wider, starts-wider, token-begins, opener-begins, token-lawful, name-begins, name-lawful, closed, next, repeated, alternative, next-begun, made, ended}
use Rattle.law_grammar.proofs.Types.{type_marks}
use Rattle.law_grammar.proofs.Statements.{else_marks, value-lawful, worded_marks, worded-begins}
use Rattle.law_grammar.proofs.Items.{of_names, worded, from_using, from_split, from_block, of-names-lawful, of-names-begins}
use Rattle.law_grammar.proofs.Marked.{marked, marked-begins, marked-lawful, parts-marked, marked-parts, brackets-marked, marked-brackets}
use Rattle.law_grammar.proofs.Expressions.{At, after_path, after_expr, names}
use Rattle.law_formula_grammar.specs.Grammar.{With, bare, without, claim_of, forall_of, block_of, formula_at, claim, item_rule, item_below}
use Rattle.law_formula_grammar.specs.Readers as p
use Rattle.law_formula_grammar.proofs.Formulas.{placed-lawful}

-- ---- what stands behind the name of a claim or an assignment

-- a claim from its `assert` on
abbrev pub claim_tail : Word → List Word → Levels (With Item)
claim_tail x vars floor m = token w.word_assert >> token w.word_G >> placed (formula_at floor m) >>= λ f. token semicolon >> nothing (claim_of x vars f)

-- an assignment from its `:=` on
abbrev assign_tail : Word → List Part → Levels (With Item)
assign_tail x more floor m = At g.value floor m >>= λ v. nothing (bare (item.Act (stmt.Assign kind.Comb (named x more) v (out-Path (named x more)).at)))

abbrev tail : Word → List MarkedPart → Option (List Word) → Levels (With Item)
tail x ms None floor m = assign_tail x (parts_of ms) floor m
tail x ms (Some vars) floor m = (token colon >> claim_tail x vars floor m) <|> assign_tail x (parts_of ms) floor m

abbrev pub behind : (List MarkedPart → Option (List Word)) → Word → Levels (With Item)
behind vars x floor m = many (marked floor m) >>= λ ms. tail x ms (vars ms) floor m

module _ (C : Type 0) (n : ℕ) where
  claim-tail-lawful : (x : Word) (vars : List Word) → Lawful C (claim_tail x vars) n (p.read_claimed n x vars) (stops_by (λ i. else_marks))
  unfolding p.read_claimed
  claim-tail-lawful x vars = next (token-lawful w.word_assert refl) (λ _. next (token-lawful w.word_G refl) (λ _. ended after_expr semicolon (claim_of x vars) refl refl (placed-lawful n)))

  assign-tail-lawful : (x : Word) (more : List Part) → Lawful C (assign_tail x more) n (p.read_assigned n x more) (stops_by (λ i. else_marks))
  unfolding p.read_assigned
  assign-tail-lawful x more = next (value-lawful n) (λ v. nothing-lawful _)

  assign-tail-begins : (x : Word) (more : List Part) → Begins (exactly becomes ∷ []) (assign_tail x more)
  assign-tail-begins x more = begins-then (begins-then (token-begins becomes))

  tail-lawful : (x : Word) (ms : List MarkedPart) (vars : Option (List Word)) → Lawful C (tail x ms vars) n (p.read_claim_or_assignment n x ms vars) (stops_by (λ i. else_marks))
  unfolding p.read_claim_or_assignment
  tail-lawful x ms None = assign-tail-lawful x (parts_of ms)
  tail-lawful x ms (Some vars) = alternative (exactly colon ∷ []) (exactly becomes ∷ []) (next (token-lawful colon refl) (λ _. claim-tail-lawful x vars)) (assign-tail-lawful x (parts_of ms))
      (begins-then (token-begins colon)) (assign-tail-begins x (parts_of ms)) refl

  tail-begins : (x : Word) (ms : List MarkedPart) (vars : Option (List Word)) → Begins (exactly colon ∷ exactly becomes ∷ []) (tail x ms vars)
  tail-begins x ms None = begins-wider (exactly becomes ∷ []) _ refl (assign-tail-begins x (parts_of ms))
  tail-begins x ms (Some vars) = begins-either (begins-wider (exactly colon ∷ []) _ refl (begins-then (token-begins colon))) (begins-wider (exactly becomes ∷ []) _ refl (assign-tail-begins x (parts_of ms)))

  pub behind-lawful : (vars : List MarkedPart → Option (List Word)) (x : Word) → Lawful C (behind vars x) n (p.read_behind n vars x) (stops_by (λ i. else_marks))
  unfolding p.read_behind
  behind-lawful vars x = next-begun (exactly colon ∷ exactly becomes ∷ []) (λ ms. after_path) (repeated after_path closed after_path (marked-lawful n) marked-begins (λ a. refl) refl (λ a. refl))
      (λ ms. tail-lawful x ms (vars ms)) (λ ms. tail-begins x ms (vars ms)) (λ ms. refl)

-- ---- what stands behind the name that begins a body

abbrev pub behind_colon : Word → List Word → Levels (With Item)
behind_colon x [] floor m = claim_tail x [] floor m <|> without (of_names (x ∷ []) floor m)
behind_colon x (y ∷ more) floor m = without (of_names (x ∷ y ∷ more) floor m)

abbrev pub listed : Word → Levels (With Item)
listed x floor m = many (token comma >> name) >>= λ more. token colon >> behind_colon x more floor m

abbrev pub named_body : Levels (With Item)
named_body floor m = name >>= λ x. listed x floor m <|> behind vars_of_some x floor m

abbrev pub named_item : Levels (With Item)
named_item floor m = name >>= λ x. behind vars_of x floor m

module _ (C : Type 0) (n : ℕ) where
  behind-colon-lawful : (x : Word) (more : List Word) → Lawful C (behind_colon x more) n (p.read_behind_colon n x more) (stops_by (λ i. else_marks))
  unfolding p.read_behind_colon
  behind-colon-lawful x [] = alternative (exactly w.word_assert ∷ []) type_marks (claim-tail-lawful C n x []) (made else_marks bare (of-names-lawful C n (x ∷ []))) (begins-then (token-begins w.word_assert)) (begins-then (of-names-begins C n (x ∷ []))) refl
  behind-colon-lawful x (y ∷ more) = made else_marks bare (of-names-lawful C n (x ∷ y ∷ more))

  listed-lawful : (x : Word) → Lawful C (listed x) n (p.read_listed n x) (stops_by (λ i. else_marks))
  unfolding p.read_listed
  listed-lawful x = next-begun (exactly colon ∷ []) (λ more. exactly comma ∷ [])
      (repeated (exactly comma ∷ []) closed (exactly comma ∷ []) (next (token-lawful comma refl) (λ _. name-lawful)) (begins-then (token-begins comma)) (λ a. refl) refl (λ a. refl))
      (λ more. next (token-lawful colon refl) (λ _. behind-colon-lawful x more)) (λ more. begins-then (token-begins colon)) (λ more. refl)

  comma-begins : Begins (exactly comma ∷ exactly colon ∷ []) (λ floor m. token comma >> name)
  comma-begins = begins-wider (exactly comma ∷ []) _ refl (begins-then (token-begins comma))

  listed-begins : (x : Word) → Begins (exactly comma ∷ exactly colon ∷ []) (listed x)
  listed-begins x = record { holds = λ floor m ts a rest h. go floor m ts h.1 h.0 h.2 ((token-begins colon).holds floor m h.1 h.3.0 h.3.1 h.3.2) }
    where
      go : (floor : ℕ → ℕ) (m : ℕ) (ts middle : Tokens) (more : List Word) → many (token comma >> name) ts more middle → starts (begins (exactly colon ∷ [])) middle ≡ true → starts (begins (exactly comma ∷ exactly colon ∷ [])) ts ≡ true
      go floor m ts middle [] h e = rw h (starts-wider (exactly colon ∷ []) (exactly comma ∷ exactly colon ∷ []) middle refl e)
      go floor m ts middle (y ∷ more) h e = comma-begins.holds floor m ts y h.0 h.1

  some-begins : (x : Word) → Begins (exactly becomes ∷ after_path) (behind vars_of_some x)
  some-begins x = record { holds = λ floor m ts a rest h. go floor m ts h.1 a rest h.0 h.2 h.3 }
    where
      go : (floor : ℕ → ℕ) (m : ℕ) (ts middle : Tokens) (a : With Item) (rest : Tokens) (ms : List MarkedPart) → many (marked floor m) ts ms middle → tail x ms (vars_of_some ms) floor m middle a rest → starts (begins (exactly becomes ∷ after_path)) ts ≡ true
      go floor m ts middle a rest [] h e = rw h (starts-wider (exactly becomes ∷ []) (exactly becomes ∷ after_path) middle refl ((assign-tail-begins C n x []).holds floor m middle a rest e))
      go floor m ts middle a rest (u ∷ ms) h e = starts-wider after_path (exactly becomes ∷ after_path) ts refl (marked-begins.holds floor m ts u h.0 h.1)

  pub named-body-lawful : Lawful C named_body n (p.read_named_body n) (stops_by (λ i. else_marks))
  unfolding p.read_named_body
  named-body-lawful = next name-lawful (λ x. alternative (exactly comma ∷ exactly colon ∷ []) (exactly becomes ∷ after_path) (listed-lawful x) (behind-lawful C n vars_of_some x) (listed-begins x) (some-begins x) refl)

  pub named-lawful : Lawful C named_item n (p.read_named n) (stops_by (λ i. else_marks))
  unfolding p.read_named
  named-lawful = next name-lawful (behind-lawful C n vars_of)

-- ---- items that begin with no name

abbrev pub forall_item : Levels (With Item)
forall_item floor m = opener floor m w.word_forall >>= λ at. (below floor m).binder >>= λ b. item_below floor m >>= λ body. nothing (forall_of b at body)

abbrev pub block_item : Levels (With Item)
block_item floor m = opener floor m open_brace >> many (item_below floor m) >>= λ items. token close_brace >> nothing (block_of items)

-- a statement that begins with a reserved word
abbrev acted : Levels (With Item)
acted floor m = worded floor m >>= λ x. nothing (bare (item.Act x))

abbrev pub other_item : Levels (With Item)
other_item floor m = forall_item floor m <|> block_item floor m <|> without (At g.split floor m) <|> without (At g.using floor m) <|> acted floor m

abbrev pub factored_item : Levels (With Item)
factored_item floor m = named_item floor m <|> other_item floor m

pub from-using-begins : Begins from_using (λ floor m. without (At g.using floor m) <|> acted floor m)
from-using-begins = begins-either (begins-wider (exactly w.word_using ∷ []) _ refl (begins-then (begins-then (token-begins w.word_using)))) (begins-wider worded_marks _ refl (begins-then worded-begins))

pub from-split-begins : Begins from_split (λ floor m. without (At g.split floor m) <|> without (At g.using floor m) <|> acted floor m)
from-split-begins = begins-either (begins-wider (exactly w.word_subcase ∷ []) _ refl (begins-then (begins-then (token-begins w.word_subcase)))) (begins-wider from_using _ refl from-using-begins)

pub from-block-begins : Begins from_block (λ floor m. block_item floor m <|> without (At g.split floor m) <|> without (At g.using floor m) <|> acted floor m)
from-block-begins = begins-either (begins-wider (exactly open_brace ∷ []) _ refl (begins-then (opener-begins open_brace))) (begins-wider from_split _ refl from-split-begins)

pub other-begins : Begins other_marks other_item
other-begins = begins-either (begins-wider (exactly w.word_forall ∷ []) _ refl (begins-then (opener-begins w.word_forall))) (begins-wider from_block _ refl from-block-begins)

factored-item-begins : Begins item_marks factored_item
factored-item-begins = begins-either (begins-wider names _ refl (begins-then name-begins)) (begins-wider other_marks _ refl other-begins)

-- ---- an item, name first

abbrev pub item_at : Levels (With Item)
item_at floor m = item_rule floor m (item_below floor m)

module _ (x : Word) (floor : ℕ → ℕ) (m : ℕ) where
  abbrev pub assigned : With Item → Tokens → Tokens → Type 0
  assigned a ts rest = (At g.simple floor m >>= λ s. nothing (bare (item.Act s))) ts a rest

  -- an assignment whose path has these parts
  to-assignment : (ts middle : Tokens) (ms : List MarkedPart) (a : With Item) (rest : Tokens) (start : Tokens) → name start x ts → many (marked floor m) ts ms middle → assign_tail x (parts_of ms) floor m middle a rest → assigned a start rest
  to-assignment ts middle ms a rest start nm h t =
      let s : Stmt = stmt.Assign kind.Comb (named x (parts_of ms)) t.0 (out-Path (named x (parts_of ms))).at in
      (s, t.1, inl (named x (parts_of ms), middle, (x, ts, nm, (parts_of ms, middle, marked-parts floor m ts ms middle h, (refl, refl))), (t.0, t.1, t.2, (refl, refl))), t.3)

  -- a claim with these names
  to-claim : (ts middle : Tokens) (ms : List MarkedPart) (vs : List Word) (a : With Item) (rest : Tokens) (start : Tokens) → name start x ts → vars_of ms ≡ Some vs → many (marked floor m) ts ms middle
      → (token colon >> claim_tail x vs floor m) middle a rest → claim floor m start a rest
  to-claim ts middle ms vs a rest start nm e h t = (x, ts, nm, (vs, middle, marked-brackets floor m ts ms vs middle e h, t))

  pub to-either : (ts middle : Tokens) (ms : List MarkedPart) (o : Option (List Word)) → ((vs : List Word) → o ≡ Some vs → vars_of ms ≡ Some vs) → (a : With Item) (rest start : Tokens) → name start x ts
      → many (marked floor m) ts ms middle → tail x ms o floor m middle a rest → claim floor m start a rest ⊎ assigned a start rest
  to-either ts middle ms None k a rest start nm h t = inr (to-assignment ts middle ms a rest start nm h t)
  to-either ts middle ms (Some vs) k a rest start nm h (inl t) = inl (to-claim ts middle ms vs a rest start nm (k vs refl) h t)
  to-either ts middle ms (Some vs) k a rest start nm h (inr t) = inr (to-assignment ts middle ms a rest start nm h t)

  assign-any : (ms : List MarkedPart) (o : Option (List Word)) (middle : Tokens) (a : With Item) (rest : Tokens) → assign_tail x (parts_of ms) floor m middle a rest → tail x ms o floor m middle a rest
  assign-any ms None middle a rest t = t
  assign-any ms (Some vs) middle a rest t = inr t

  -- what stands behind the name of an assignment
  from-parts : (vars : List MarkedPart → Option (List Word)) (ts middle : Tokens) (ps : List Part) (a : With Item) (rest : Tokens) → many (At g.part_rule floor m) ts ps middle → assign_tail x ps floor m middle a rest → behind vars x floor m ts a rest
  from-parts vars ts middle ps a rest h t =
      let u = parts-marked floor m ts ps middle h in
      let P : List Part → Type 0 = λ z. assign_tail x z floor m middle a rest in
      (u.items, middle, u.spelled, assign-any u.items (vars u.items) middle a rest (subst P (sym u.same) t))

  -- what stands behind the name of a claim
  pub from-brackets : (vars : List MarkedPart → Option (List Word)) (ts middle : Tokens) (vs : List Word) (a : With Item) (rest : Tokens) → ((ms : List MarkedPart) → vars_of ms ≡ Some vs → vars ms ≡ Some vs)
      → many (At g.in_brackets floor m) ts vs middle → (token colon >> claim_tail x vs floor m) middle a rest → behind vars x floor m ts a rest
  from-brackets vars ts middle vs a rest k h t =
      let u = brackets-marked floor m ts vs middle h in
      let P : Option (List Word) → Type 0 = λ o. tail x u.items o floor m middle a rest in
      (u.items, middle, u.spelled, subst P (sym (k u.items u.same)) (inl t))

-- what stands behind the first name of an assignment
pub assigned-behind : (vars : List MarkedPart → Option (List Word)) (floor : ℕ → ℕ) (m : ℕ) (ts : Tokens) (s : Stmt) (middle : Tokens) (a : With Item) (rest : Tokens) → At g.assignment floor m ts s middle → bare (item.Act s) ≡ a → middle ≡ rest
    → (name >>= λ x. behind vars x floor m) ts a rest
assigned-behind vars floor m ts s middle a rest h e q =
    -- h.2 is the path, and h.3 the value
    let path = h.2 in
    let same : named path.0 path.3.0 ≡ h.0 = path.3.3.0 in
    let P : Tokens → Type 0 = λ z. At g.value floor m z h.3.0 h.3.1 in
    let make : Path → With Item = λ z. bare (item.Act (stmt.Assign kind.Comb z h.3.0 (out-Path z).at)) in
    let act : Stmt → With Item = λ z. bare (item.Act z) in
    let made_so : make (named path.0 path.3.0) ≡ a = ap make same ∙ (ap act h.3.3.0 ∙ e) in
    (path.0, path.1, path.2, from-parts path.0 floor m vars path.1 path.3.1 path.3.0 a rest path.3.2 (h.3.0, h.3.1, subst P (sym path.3.3.1) h.3.2, (made_so, h.3.3.1 ∙ q)))

pub item-to : (floor : ℕ → ℕ) (m : ℕ) (ts : Tokens) (a : With Item) (rest : Tokens) → factored_item floor m ts a rest → item_at floor m ts a rest
item-to floor m ts a rest (inr (inl h)) = inl h
item-to floor m ts a rest (inr (inr (inl h))) = inr (inl h)
item-to floor m ts a rest (inr (inr (inr (inl h)))) = inr (inr (inr (inl h)))
item-to floor m ts a rest (inr (inr (inr (inr (inl h))))) = inr (inr (inr (inr (inl h))))
item-to floor m ts a rest (inr (inr (inr (inr (inr h))))) = inr (inr (inr (inr (inr (h.0, h.1, inr h.2, h.3)))))
item-to floor m ts a rest (inl h) = go (to-either h.0 floor m h.1 h.3.1 h.3.0 (vars_of h.3.0) (λ vs e. e) a rest ts h.2 h.3.2 h.3.3)
  where
    go : claim floor m ts a rest ⊎ assigned h.0 floor m a ts rest → item_at floor m ts a rest
    go (inl t) = inr (inr (inl t))
    go (inr t) = inr (inr (inr (inr (inr t))))

pub item-from : (floor : ℕ → ℕ) (m : ℕ) (ts : Tokens) (a : With Item) (rest : Tokens) → item_at floor m ts a rest → factored_item floor m ts a rest
item-from floor m ts a rest (inl h) = inr (inl h)
item-from floor m ts a rest (inr (inl h)) = inr (inr (inl h))
item-from floor m ts a rest (inr (inr (inl h))) = inl (h.0, h.1, h.2, from-brackets h.0 floor m vars_of h.1 h.3.1 h.3.0 a rest (λ ms e. e) h.3.2 h.3.3)
item-from floor m ts a rest (inr (inr (inr (inl h)))) = inr (inr (inr (inl h)))
item-from floor m ts a rest (inr (inr (inr (inr (inl h))))) = inr (inr (inr (inr (inl h))))
item-from floor m ts a rest (inr (inr (inr (inr (inr h))))) = go h.2
  where
    go : At g.simple floor m ts h.0 h.1 → factored_item floor m ts a rest
    go (inl s) = inl (assigned-behind vars_of floor m ts h.0 h.1 a rest s h.3.0 h.3.1)
    go (inr s) = inr (inr (inr (inr (inr (h.0, h.1, s, h.3)))))

pub item-begins : Begins item_marks item_at
item-begins = record { holds = λ floor m ts a rest h. factored-item-begins.holds floor m ts a rest (item-from floor m ts a rest h) }
