-- The laws of items: what begins with a name is read name first, and then by what follows it.
use Rattle.std.proofs.Common.{◌≡◌, ◌-◌, ◌<◌, ℕ, true, false, List, [], ◌∷◌, Option, Some, None, ◌⊎◌, inl, inr, refl, sym, ◌∙◌, ap, subst}
use Rattle.smv_core.specs.declared.token.Token.{Token}
use Rattle.smv_core.specs.declared.tree.Word.{Word}
use Rattle.smv_core.specs.declared.tree.TypeExpr.TheVariants as type
use Rattle.smv_core.specs.declared.tree.Part.{Part}
use Rattle.smv_core.specs.declared.tree.Path.{Path, out-Path}
use Rattle.smv_core.specs.declared.tree.Stmt.{Stmt}
use Rattle.smv_core.specs.declared.tree.Stmt.TheVariants as stmt
use Rattle.smv_core.specs.declared.tree.Kind.TheVariants as kind
use Rattle.smv_core.specs.declared.tree.Item.{Item}
use Rattle.smv_core.specs.declared.tree.Item.TheVariants as item
use Rattle.smv_core.specs.declared.tree.Role.{Role}
use Rattle.smv_core.specs.declared.tree.Role.TheVariants as role
use Rattle.smv_core.specs.Signs.{open_paren, close_paren, open_brace, close_brace, colon, semicolon, comma, becomes}
use Rattle.smv_core.specs.Signs as w
use Rattle.smv_core.specs.Notation.{Tokens, nothing, ◌>>=◌, ◌>>◌, ◌<|>◌, many, token, name, one_of, separated_or_none}
use Rattle.smv_core.specs.Grammar as g
use Rattle.smv_core.specs.Grammar.{below, named, place_of}
use Rattle.law_grammar.specs.Parsing.{bind, pure, take, take_open, starts, starts2}
use Rattle.law_grammar.specs.Lawful.{Levels, Lawful}
use Rattle.law_grammar.specs.Marks.{Mark, any_name, any_number, exactly, begins, stops_by}
use Rattle.law_grammar.specs.Readers.{a_token, a_name, read_separated_or_none}
use Rattle.law_grammar.specs.Expressions.{expr_marks, expr_readers}
use Rattle.law_grammar.specs.Statements.{stmt_marks}
use Rattle.law_grammar.specs.Items.{MarkedPart, parts_of, vars_of, vars_of_some, roles, other_marks, item_marks}
use Rattle.law_grammar.specs.Items as p
use Rattle.law_grammar.proofs.Tokens.{nothing-lawful}
use Rattle.law_grammar.proofs.Forms.{Begins, begins-then, begins-either, begins-wider, starts-wider, token-begins, opener-begins, token-lawful, level, name-begins, name-lawful, entry-lawful, closed, next, repeated, at-most-once, alternative, separated-lawful, next-begun, ended}
use Rattle.law_grammar.proofs.Second.{begins2-one, not-so-then, accepts-take, accepts-law}
use Rattle.law_grammar.proofs.Ahead.{Accepts, chosen-ahead}
use Rattle.law_grammar.proofs.Types.{names-lawful, types, type_marks, type-begins, type-second}
use Rattle.law_grammar.proofs.Statements.{else_marks, after_stmt, open-covered, apart-open, value-lawful, worded_marks, worded-begins, stmt-begins, stmt-laws}
use Rattle.smv_core.specs.OpenIf.{ends_in_open_if}
use Rattle.law_grammar.proofs.Marked.{marked, marked-begins, marked-lawful, parts-marked, marked-parts, brackets-marked, marked-brackets}
use Rattle.law_grammar.proofs.Expressions.{At, after_path, after_expr, names, name-token, expr-begins, expr-lawful, inner-laws}

-- ---- what stands behind the name of a claim or an assignment

-- a claim from its `assert` on
abbrev pub claim_tail : Word → List Word → Levels Item
claim_tail x vars floor m = token w.word_assert >> token w.word_G >> At g.expr_rule floor m >>= λ body. token semicolon >> nothing (item.Claim x vars body x.at)

-- an assignment from its `:=` on
abbrev assign_tail : Word → List Part → Levels Item
assign_tail x more floor m = At g.value floor m >>= λ v. nothing (item.Act (stmt.Assign kind.Comb (named x more) v (out-Path (named x more)).at))

abbrev tail : Word → List MarkedPart → Option (List Word) → Levels Item
tail x ms None floor m = assign_tail x (parts_of ms) floor m
tail x ms (Some vars) floor m = (token colon >> claim_tail x vars floor m) <|> assign_tail x (parts_of ms) floor m

abbrev pub behind : (List MarkedPart → Option (List Word)) → Word → Levels Item
behind vars x floor m = many (marked floor m) >>= λ ms. tail x ms (vars ms) floor m

module _ (C : Type 0) (n : ℕ) where
  claim-tail-lawful : (x : Word) (vars : List Word) → Lawful C (claim_tail x vars) n (p.read_claimed n x vars) (stops_by (λ i. else_marks))
  unfolding p.read_claimed
  claim-tail-lawful x vars = next (token-lawful w.word_assert refl) (λ _. next (token-lawful w.word_G refl) (λ _. ended after_expr semicolon (λ body. item.Claim x vars body x.at) refl refl (expr-lawful C n (expr_readers n) (inner-laws n))))

  assign-tail-lawful : (x : Word) (more : List Part) → Lawful C (assign_tail x more) n (p.read_assigned n x more) (stops_by (λ i. else_marks))
  unfolding p.read_assigned
  assign-tail-lawful x more = next (value-lawful n) (λ v. nothing-lawful _)

  assign-tail-begins : (x : Word) (more : List Part) → Begins (exactly becomes ∷ []) (assign_tail x more)
  assign-tail-begins x more = begins-then (begins-then (token-begins becomes))

  tail-lawful : (x : Word) (ms : List MarkedPart) (vars : Option (List Word)) → Lawful C (tail x ms vars) n (p.read_claim_or_assignment n x ms vars) (stops_by (λ i. else_marks))
  unfolding p.read_claim_or_assignment
  tail-lawful x ms None = assign-tail-lawful x (parts_of ms)
  tail-lawful x ms (Some vars) = alternative (exactly colon ∷ []) (exactly becomes ∷ []) (next (token-lawful colon refl) (λ _. claim-tail-lawful x vars)) (assign-tail-lawful x (parts_of ms))
      (begins-then (token-begins colon)) (assign-tail-begins x (parts_of ms)) refl

  tail-begins : (x : Word) (ms : List MarkedPart) (vars : Option (List Word)) → Begins (exactly colon ∷ exactly becomes ∷ []) (tail x ms vars)
  tail-begins x ms None = begins-wider (exactly becomes ∷ []) _ refl (assign-tail-begins x (parts_of ms))
  tail-begins x ms (Some vars) = begins-either (begins-wider (exactly colon ∷ []) _ refl (begins-then (token-begins colon))) (begins-wider (exactly becomes ∷ []) _ refl (assign-tail-begins x (parts_of ms)))

  pub behind-lawful : (vars : List MarkedPart → Option (List Word)) (x : Word) → Lawful C (behind vars x) n (p.read_behind n vars x) (stops_by (λ i. else_marks))
  unfolding p.read_behind
  behind-lawful vars x = next-begun (exactly colon ∷ exactly becomes ∷ []) (λ ms. after_path) (repeated after_path closed after_path (marked-lawful n) marked-begins (λ a. refl) refl (λ a. refl))
      (λ ms. tail-lawful x ms (vars ms)) (λ ms. tail-begins x ms (vars ms)) (λ ms. refl)

-- ---- declarations and instances

abbrev pub declared_tail : Role → List Word → ℕ → Levels Item
declared_tail how names at floor m = At g.type_rule floor m >>= λ of. token semicolon >> nothing (item.Declare how names of at)

abbrev instance_args : List Word → Word → Levels Item
instance_args names x floor m = g.opening floor m (below floor m) open_paren >> separated_or_none (below floor m).expr >>= λ args. token close_paren >> token semicolon >> nothing (item.Instance names x args (place_of names))

abbrev pub instance_tail : List Word → Levels Item
instance_tail names floor m = name >>= λ x. instance_args names x floor m

abbrev pub of_names : List Word → Levels Item
of_names names floor m = instance_tail names floor m <|> declared_tail role.Plain names (place_of names) floor m

abbrev pub behind_colon : Word → List Word → Levels Item
behind_colon x [] floor m = claim_tail x [] floor m <|> of_names (x ∷ []) floor m
behind_colon x (y ∷ more) floor m = of_names (x ∷ y ∷ more) floor m

abbrev pub listed : Word → Levels Item
listed x floor m = many (token comma >> name) >>= λ more. token colon >> behind_colon x more floor m

abbrev pub named_body : Levels Item
named_body floor m = name >>= λ x. listed x floor m <|> behind vars_of_some x floor m

abbrev pub named_item : Levels Item
named_item floor m = name >>= λ x. behind vars_of x floor m

-- a declaration with a role
abbrev pub with_role : Levels Item
with_role floor m = one_of roles >>= λ r. g.declared floor m (below floor m) r.0 (λ names. r.1)

abbrev args_marks : List Mark
args_marks = any_number ∷ any_name ∷ exactly open_paren ∷ exactly open_brace ∷ exactly w.tilde ∷ exactly comma ∷ after_expr

module _ (C : Type 0) (n : ℕ) where
  declared-lawful : (how : Role) (names : List Word) (at : ℕ) → Lawful C (declared_tail how names at) n (p.read_declared n how names at) (stops_by (λ i. else_marks))
  unfolding p.read_declared
  declared-lawful how names at = ended [] semicolon (λ of. item.Declare how names of at) refl refl (types n)

  args-lawful : Lawful (0 < n) (λ floor m. separated_or_none (At g.expr_rule floor m)) (n - 1) (read_separated_or_none expr_marks ((expr_readers n).expr)) (stops_by (λ args. args_marks))
  args-lawful = at-most-once expr_marks (λ args. exactly comma ∷ after_expr) (λ args. args_marks) [] (separated-lawful (λ x. after_expr) (exactly comma ∷ after_expr) (inner-laws n).expr (λ x. refl) refl (λ x. refl))
      (begins-then expr-begins) refl (λ a. refl)

  instance-args-lawful : (names : List Word) (x : Word) → Lawful C (instance_args names x) n
      (take_open (a_token open_paren) n (λ _. bind (read_separated_or_none expr_marks ((expr_readers n).expr)) (λ args. bind (take (a_token close_paren)) (λ _. bind (take (a_token semicolon)) (λ _. pure (item.Instance names x args (place_of names)))))))
      (stops_by (λ i. else_marks))
  instance-args-lawful ws x = level open_paren refl (λ _. next-begun (exactly close_paren ∷ []) (λ args. args_marks) args-lawful
      (λ args. next (token-lawful close_paren refl) (λ _. next (token-lawful semicolon refl) (λ _. nothing-lawful _))) (λ args. begins-then (token-begins close_paren)) (λ args. refl))

  instance-lawful : (names : List Word) → Lawful C (instance_tail names) n (p.read_instance n names) (stops_by (λ i. else_marks))
  unfolding p.read_instance
  instance-lawful names = next name-lawful (instance-args-lawful names)

  instance-accepts : (ws : List Word) → C → (t : Token) → begins names t ≡ true → Accepts (p.read_instance n ws) t
  unfolding p.read_instance
  instance-accepts ws c t e = let x = name-token t e in accepts-take {S = instance_args ws} {n = n} {st = stops_by (λ i. else_marks)} a_name (λ x. (instance-args-lawful ws x).law c) t x.0 x.1

  declared-accepts : (ws : List Word) → C → (t : Token) → begins names t ≡ true → Accepts (p.read_declared n role.Plain ws (place_of ws)) t
  declared-accepts ws c t e =
      let x = name-token t e in
      let end : Token = record { kind = semicolon; at = 0 } in
      accepts-law type_marks ((declared-lawful role.Plain ws (place_of ws)).law c) (begins-then type-begins) t (end ∷ []) (item.Declare role.Plain ws (type.Named x.0 x.0.at) (place_of ws))
      (type.Named x.0 x.0.at, end ∷ [], inl (inr (inr (x.0, end ∷ [], (x.1, refl), (refl, refl)))), (0, [], (refl, refl), (refl, refl))) refl

  declared-not : (ws : List Word) (floor : ℕ → ℕ) (m : ℕ) (ts : Tokens) (a : Item) (rest : Tokens) → declared_tail role.Plain ws (place_of ws) floor m ts a rest → starts2 (begins names) (begins (exactly open_paren ∷ [])) ts ≡ false
  declared-not ws = not-so-then {S = λ of floor m. token semicolon >> nothing (item.Declare role.Plain ws of (place_of ws))} (exactly open_paren ∷ []) (type-second (exactly semicolon ∷ [])) (λ of. begins-then (token-begins semicolon)) refl

  pub of-names-lawful : (ws : List Word) → Lawful C (of_names ws) n (p.read_of_names n ws) (stops_by (λ i. else_marks))
  unfolding p.read_of_names
  of-names-lawful ws = chosen-ahead (begins names) (begins (exactly open_paren ∷ [])) (instance-lawful ws) (declared-lawful role.Plain ws (place_of ws))
      (begins2-one a_name name-begins (λ x. begins-then (opener-begins open_paren))).holds (λ floor m ts a rest h stop. declared-not ws floor m ts a rest h) (instance-accepts ws) (declared-accepts ws)

  pub of-names-begins : (ws : List Word) → Begins type_marks (of_names ws)
  of-names-begins ws = begins-either (begins-wider names _ refl (begins-then name-begins)) (begins-then type-begins)

  behind-colon-lawful : (x : Word) (more : List Word) → Lawful C (behind_colon x more) n (p.read_behind_colon n x more) (stops_by (λ i. else_marks))
  unfolding p.read_behind_colon
  behind-colon-lawful x [] = alternative (exactly w.word_assert ∷ []) type_marks (claim-tail-lawful C n x []) (of-names-lawful (x ∷ [])) (begins-then (token-begins w.word_assert)) (of-names-begins (x ∷ [])) refl
  behind-colon-lawful x (y ∷ more) = of-names-lawful (x ∷ y ∷ more)

  listed-lawful : (x : Word) → Lawful C (listed x) n (p.read_listed n x) (stops_by (λ i. else_marks))
  unfolding p.read_listed
  listed-lawful x = next-begun (exactly colon ∷ []) (λ more. exactly comma ∷ [])
      (repeated (exactly comma ∷ []) closed (exactly comma ∷ []) (next (token-lawful comma refl) (λ _. name-lawful)) (begins-then (token-begins comma)) (λ a. refl) refl (λ a. refl))
      (λ more. next (token-lawful colon refl) (λ _. behind-colon-lawful x more)) (λ more. begins-then (token-begins colon)) (λ more. refl)

  comma-begins : Begins (exactly comma ∷ exactly colon ∷ []) (λ floor m. token comma >> name)
  comma-begins = begins-wider (exactly comma ∷ []) _ refl (begins-then (token-begins comma))

  listed-begins : (x : Word) → Begins (exactly comma ∷ exactly colon ∷ []) (listed x)
  listed-begins x = record { holds = λ floor m ts a rest h. go floor m ts h.1 h.0 h.2 ((token-begins colon).holds floor m h.1 h.3.0 h.3.1 h.3.2) }
    where
      go : (floor : ℕ → ℕ) (m : ℕ) (ts middle : Tokens) (more : List Word) → many (token comma >> name) ts more middle → starts (begins (exactly colon ∷ [])) middle ≡ true → starts (begins (exactly comma ∷ exactly colon ∷ [])) ts ≡ true
      go floor m ts middle [] h e = rw h (starts-wider (exactly colon ∷ []) (exactly comma ∷ exactly colon ∷ []) middle refl e)
      go floor m ts middle (y ∷ more) h e = comma-begins.holds floor m ts y h.0 h.1

  some-begins : (x : Word) → Begins (exactly becomes ∷ after_path) (behind vars_of_some x)
  some-begins x = record { holds = λ floor m ts a rest h. go floor m ts h.1 a rest h.0 h.2 h.3 }
    where
      go : (floor : ℕ → ℕ) (m : ℕ) (ts middle : Tokens) (a : Item) (rest : Tokens) (ms : List MarkedPart) → many (marked floor m) ts ms middle → tail x ms (vars_of_some ms) floor m middle a rest → starts (begins (exactly becomes ∷ after_path)) ts ≡ true
      go floor m ts middle a rest [] h e = rw h (starts-wider (exactly becomes ∷ []) (exactly becomes ∷ after_path) middle refl ((assign-tail-begins C n x []).holds floor m middle a rest e))
      go floor m ts middle a rest (u ∷ ms) h e = starts-wider after_path (exactly becomes ∷ after_path) ts refl (marked-begins.holds floor m ts u h.0 h.1)

  pub named-body-lawful : Lawful C named_body n (p.read_named_body n) (stops_by (λ i. else_marks))
  unfolding p.read_named_body
  named-body-lawful = next name-lawful (λ x. alternative (exactly comma ∷ exactly colon ∷ []) (exactly becomes ∷ after_path) (listed-lawful x) (behind-lawful C n vars_of_some x) (listed-begins x) (some-begins x) refl)

  pub named-lawful : Lawful C named_item n (p.read_named n) (stops_by (λ i. else_marks))
  unfolding p.read_named
  named-lawful = next name-lawful (behind-lawful C n vars_of)

  pub with-role-lawful : Lawful C with_role n (p.read_with_role n) (stops_by (λ i. else_marks))
  unfolding p.read_with_role
  with-role-lawful = next (entry-lawful w.word_abstract role.Abstract ((w.word_input, role.Input) ∷ (w.word_output, role.Output) ∷ []) refl)
      (λ r. next-begun (exactly colon ∷ []) (λ ws. exactly comma ∷ []) names-lawful (λ ws. next (token-lawful colon refl) (λ _. declared-lawful r.0 ws r.1)) (λ ws. begins-then (token-begins colon)) (λ ws. refl))

  pub layer-lawful : Lawful C (At g.layer) n (p.read_layer n) (stops_by (λ i. else_marks))
  unfolding p.read_layer
  layer-lawful = next (token-lawful w.word_layer refl) (λ at. next name-lawful (λ x. next (token-lawful colon refl) (λ _. level open_brace refl (λ _.
      ended (exactly w.word_else ∷ stmt_marks) close_brace (λ body. item.Layer x body at) refl refl
      (repeated stmt_marks after_stmt (exactly w.word_else ∷ stmt_marks) (stmt-laws n).stmt stmt-begins (λ x. apart-open stmt_marks refl refl (ends_in_open_if x)) refl
      (λ x. open-covered (exactly w.word_else ∷ stmt_marks) refl (ends_in_open_if x)))))))

-- ---- items that begin with no name

abbrev pub forall_item : Levels Item
forall_item floor m = g.opening floor m (below floor m) w.word_forall >>= λ at. (below floor m).binder >>= λ b. (below floor m).item >>= λ body. nothing (item.Forall b.0 b.1 body at)

abbrev pub block_item : Levels Item
block_item floor m = g.opening floor m (below floor m) open_brace >> many (below floor m).item >>= λ items. token close_brace >> nothing (item.Block items)

-- a statement that begins with a reserved word
abbrev pub worded : Levels Stmt
worded floor m = At g.timed floor m <|> At g.if_rule floor m <|> At g.switch floor m <|> At g.default floor m <|> At g.for floor m

abbrev pub acted : Levels Item
acted floor m = worded floor m >>= λ x. nothing (item.Act x)

abbrev pub other_item : Levels Item
other_item floor m = forall_item floor m <|> block_item floor m <|> At g.split floor m <|> At g.using floor m <|> acted floor m

abbrev pub factored_item : Levels Item
factored_item floor m = named_item floor m <|> other_item floor m

abbrev pub from_using : List Mark
from_using = exactly w.word_using ∷ worded_marks

abbrev pub from_split : List Mark
from_split = exactly w.word_subcase ∷ from_using

abbrev pub from_block : List Mark
from_block = exactly open_brace ∷ from_split

pub from-using-begins : Begins from_using (λ floor m. At g.using floor m <|> acted floor m)
from-using-begins = begins-either (begins-wider (exactly w.word_using ∷ []) _ refl (begins-then (token-begins w.word_using))) (begins-wider worded_marks _ refl (begins-then worded-begins))

pub from-split-begins : Begins from_split (λ floor m. At g.split floor m <|> At g.using floor m <|> acted floor m)
from-split-begins = begins-either (begins-wider (exactly w.word_subcase ∷ []) _ refl (begins-then (token-begins w.word_subcase))) (begins-wider from_using _ refl from-using-begins)

pub from-block-begins : Begins from_block (λ floor m. block_item floor m <|> At g.split floor m <|> At g.using floor m <|> acted floor m)
from-block-begins = begins-either (begins-wider (exactly open_brace ∷ []) _ refl (begins-then (opener-begins open_brace))) (begins-wider from_split _ refl from-split-begins)

pub other-begins : Begins other_marks other_item
other-begins = begins-either (begins-wider (exactly w.word_forall ∷ []) _ refl (begins-then (opener-begins w.word_forall))) (begins-wider from_block _ refl from-block-begins)

named-item-begins : Begins names named_item
named-item-begins = begins-then name-begins

factored-item-begins : Begins item_marks factored_item
factored-item-begins = begins-either (begins-wider names _ refl named-item-begins) (begins-wider other_marks _ refl other-begins)

-- ---- an item, name first

module _ (x : Word) (floor : ℕ → ℕ) (m : ℕ) where
  abbrev pub assigned : Item → Tokens → Tokens → Type 0
  assigned a ts rest = (At g.simple floor m >>= λ s. nothing (item.Act s)) ts a rest

  -- an assignment whose path has these parts
  to-assignment : (ts middle : Tokens) (ms : List MarkedPart) (a : Item) (rest : Tokens) (start : Tokens) → name start x ts → many (marked floor m) ts ms middle → assign_tail x (parts_of ms) floor m middle a rest → assigned a start rest
  to-assignment ts middle ms a rest start nm h t =
      let s : Stmt = stmt.Assign kind.Comb (named x (parts_of ms)) t.0 (out-Path (named x (parts_of ms))).at in
      (s, t.1, inl (named x (parts_of ms), middle, (x, ts, nm, (parts_of ms, middle, marked-parts floor m ts ms middle h, (refl, refl))), (t.0, t.1, t.2, (refl, refl))), t.3)

  -- a claim with these names
  to-claim : (ts middle : Tokens) (ms : List MarkedPart) (vs : List Word) (a : Item) (rest : Tokens) (start : Tokens) → name start x ts → vars_of ms ≡ Some vs → many (marked floor m) ts ms middle
      → (token colon >> claim_tail x vs floor m) middle a rest → At g.claim floor m start a rest
  to-claim ts middle ms vs a rest start nm e h t = (x, ts, nm, (vs, middle, marked-brackets floor m ts ms vs middle e h, t))

  pub to-either : (ts middle : Tokens) (ms : List MarkedPart) (o : Option (List Word)) → ((vs : List Word) → o ≡ Some vs → vars_of ms ≡ Some vs) → (a : Item) (rest start : Tokens) → name start x ts
      → many (marked floor m) ts ms middle → tail x ms o floor m middle a rest → At g.claim floor m start a rest ⊎ assigned a start rest
  to-either ts middle ms None k a rest start nm h t = inr (to-assignment ts middle ms a rest start nm h t)
  to-either ts middle ms (Some vs) k a rest start nm h (inl t) = inl (to-claim ts middle ms vs a rest start nm (k vs refl) h t)
  to-either ts middle ms (Some vs) k a rest start nm h (inr t) = inr (to-assignment ts middle ms a rest start nm h t)

  assign-any : (ms : List MarkedPart) (o : Option (List Word)) (middle : Tokens) (a : Item) (rest : Tokens) → assign_tail x (parts_of ms) floor m middle a rest → tail x ms o floor m middle a rest
  assign-any ms None middle a rest t = t
  assign-any ms (Some vs) middle a rest t = inr t

  -- what stands behind the name of an assignment
  from-parts : (vars : List MarkedPart → Option (List Word)) (ts middle : Tokens) (ps : List Part) (a : Item) (rest : Tokens) → many (At g.part_rule floor m) ts ps middle → assign_tail x ps floor m middle a rest → behind vars x floor m ts a rest
  from-parts vars ts middle ps a rest h t =
      let u = parts-marked floor m ts ps middle h in
      let P : List Part → Type 0 = λ z. assign_tail x z floor m middle a rest in
      (u.items, middle, u.spelled, assign-any u.items (vars u.items) middle a rest (subst P (sym u.same) t))

  -- what stands behind the name of a claim
  pub from-brackets : (vars : List MarkedPart → Option (List Word)) (ts middle : Tokens) (vs : List Word) (a : Item) (rest : Tokens) → ((ms : List MarkedPart) → vars_of ms ≡ Some vs → vars ms ≡ Some vs)
      → many (At g.in_brackets floor m) ts vs middle → (token colon >> claim_tail x vs floor m) middle a rest → behind vars x floor m ts a rest
  from-brackets vars ts middle vs a rest k h t =
      let u = brackets-marked floor m ts vs middle h in
      let P : Option (List Word) → Type 0 = λ o. tail x u.items o floor m middle a rest in
      (u.items, middle, u.spelled, subst P (sym (k u.items u.same)) (inl t))

-- what stands behind the first name of an assignment
pub assigned-behind : (vars : List MarkedPart → Option (List Word)) (floor : ℕ → ℕ) (m : ℕ) (ts : Tokens) (s : Stmt) (middle : Tokens) (a : Item) (rest : Tokens) → At g.assignment floor m ts s middle → item.Act s ≡ a → middle ≡ rest
    → (name >>= λ x. behind vars x floor m) ts a rest
assigned-behind vars floor m ts s middle a rest h e q =
    -- h.2 is the path, and h.3 the value
    let path = h.2 in
    let same : named path.0 path.3.0 ≡ h.0 = path.3.3.0 in
    let P : Tokens → Type 0 = λ z. At g.value floor m z h.3.0 h.3.1 in
    let make : Path → Item = λ z. item.Act (stmt.Assign kind.Comb z h.3.0 (out-Path z).at) in
    let made_so : make (named path.0 path.3.0) ≡ a = ap make same ∙ (ap (λ (z : Stmt). item.Act z) h.3.3.0 ∙ e) in
    (path.0, path.1, path.2, from-parts path.0 floor m vars path.1 path.3.1 path.3.0 a rest path.3.2 (h.3.0, h.3.1, subst P (sym path.3.3.1) h.3.2, (made_so, h.3.3.1 ∙ q)))

pub item-to : (floor : ℕ → ℕ) (m : ℕ) (ts : Tokens) (a : Item) (rest : Tokens) → factored_item floor m ts a rest → At g.item_rule floor m ts a rest
item-to floor m ts a rest (inr (inl h)) = inl h
item-to floor m ts a rest (inr (inr (inl h))) = inr (inl h)
item-to floor m ts a rest (inr (inr (inr (inl h)))) = inr (inr (inr (inl h)))
item-to floor m ts a rest (inr (inr (inr (inr (inl h))))) = inr (inr (inr (inr (inl h))))
item-to floor m ts a rest (inr (inr (inr (inr (inr h))))) = inr (inr (inr (inr (inr (h.0, h.1, inr h.2, h.3)))))
item-to floor m ts a rest (inl h) = go (to-either h.0 floor m h.1 h.3.1 h.3.0 (vars_of h.3.0) (λ vs e. e) a rest ts h.2 h.3.2 h.3.3)
  where
    go : At g.claim floor m ts a rest ⊎ assigned h.0 floor m a ts rest → At g.item_rule floor m ts a rest
    go (inl t) = inr (inr (inl t))
    go (inr t) = inr (inr (inr (inr (inr t))))

pub item-from : (floor : ℕ → ℕ) (m : ℕ) (ts : Tokens) (a : Item) (rest : Tokens) → At g.item_rule floor m ts a rest → factored_item floor m ts a rest
item-from floor m ts a rest (inl h) = inr (inl h)
item-from floor m ts a rest (inr (inl h)) = inr (inr (inl h))
item-from floor m ts a rest (inr (inr (inl h))) = inl (h.0, h.1, h.2, from-brackets h.0 floor m vars_of h.1 h.3.1 h.3.0 a rest (λ ms e. e) h.3.2 h.3.3)
item-from floor m ts a rest (inr (inr (inr (inl h)))) = inr (inr (inr (inl h)))
item-from floor m ts a rest (inr (inr (inr (inr (inl h))))) = inr (inr (inr (inr (inl h))))
item-from floor m ts a rest (inr (inr (inr (inr (inr h))))) = go h.2
  where
    go : At g.simple floor m ts h.0 h.1 → factored_item floor m ts a rest
    go (inl s) = inl (assigned-behind vars_of floor m ts h.0 h.1 a rest s h.3.0 h.3.1)
    go (inr s) = inr (inr (inr (inr (inr (h.0, h.1, s, h.3)))))

pub item-begins : Begins item_marks (At g.item_rule)
item-begins = record { holds = λ floor m ts a rest h. factored-item-begins.holds floor m ts a rest (item-from floor m ts a rest h) }
