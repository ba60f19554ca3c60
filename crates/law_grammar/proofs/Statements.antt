-- The laws of statements.
use Rattle.std.proofs.Common.{◌≡◌, ◌-◌, ◌<◌, ℕ, zero, suc, Bool, true, false, cond, List, [], ◌∷◌, Option, Some, None, Ok, Err, inl, inr, refl, sym, ◌∙◌, ap, subst, arith}
use Rattle.smv_core.specs.declared.token.Token.{Token}
use Rattle.smv_core.specs.declared.token.TokenKind.TheVariants.{Ident, Number}
use Rattle.smv_core.specs.declared.tree.Word.{Word}
use Rattle.smv_core.specs.declared.tree.Expr.{Expr}
use Rattle.smv_core.specs.declared.tree.Stmt.{Stmt}
use Rattle.smv_core.specs.declared.tree.Stmt.TheVariants as stmt
use Rattle.smv_core.specs.declared.tree.Arm.{roll-Arm}
use Rattle.smv_core.specs.declared.tree.Kind.TheVariants as kind
use Rattle.smv_core.specs.Signs.{open_paren, close_paren, open_brace, close_brace, colon, semicolon, comma, becomes, equal, less, at_most, plus}
use Rattle.smv_core.specs.Signs as w
use Rattle.smv_core.specs.Notation.{Tokens, nothing, ◌>>=◌, ◌>>◌, ◌<|>◌, many, one, token, number_of, with_place, optional, positive}
use Rattle.smv_core.specs.Grammar as g
use Rattle.smv_core.specs.Grammar.{below, named}
use Rattle.smv_core.specs.OpenIf.{ends_in_open_if}
use Rattle.law_grammar.specs.Parsing.{Outcome, Parser, and_then, bind, pure, take, starts, loop}
use Rattle.law_grammar.specs.Lawful.{Levels, first, Finishes, Lawful}
use Rattle.law_grammar.specs.Marks.{Mark, any_name, any_number, exactly, begins, stops_by}
use Rattle.law_grammar.specs.Readers.{a_token, an_entry}
use Rattle.law_grammar.specs.Expressions.{read_path, read_condition, expr_readers}
use Rattle.law_grammar.specs.Statements.{StmtReaders, at_least_one, a_positive, moments, simple_marks, stmt_marks}
use Rattle.law_grammar.specs.Statements as p
use Rattle.law_grammar.proofs.Sequence.{followed}
use Rattle.law_grammar.proofs.Tokens.{nothing-lawful, one-lawful, same-law, same-lawful}
use Rattle.law_grammar.proofs.Marks.{apart, covered, stops-not}
use Rattle.law_grammar.proofs.Forms.{Begins, begins-then, begins-either, begins-wider, begins-after, leads-maybe, token-begins, opener-begins, token-lawful, level, name-begins, name-lawful, number-begins, number-lawful, entry-begins, entry-lawful, closed, next, repeated, alternative, continued, optionally, made, separated-lawful, next-begun, ended}
use Rattle.law_grammar.proofs.Shift.{outside}
use Rattle.law_grammar.proofs.Greedy.{Greedy, greedy-pure, greedy-then, greedy-made, greedy-open, greedy-fork, greedy-maybe}
use Rattle.law_grammar.proofs.OpenIf.{if-alone, if-else, default-open, for-open, forall-open, assign-closed, block-closed, switch-closed}
use Rattle.law_grammar.proofs.Expressions.{At, after_path, after_expr, index-lawful, path-begins, path-lawful, condition-lawful, expr-lawful, same-name-lawful, inner-laws}

-- ---- what goes on with a statement

abbrev pub else_marks : List Mark
else_marks = exactly w.word_else ∷ []

abbrev pub after_open : Bool → List Mark
after_open true = else_marks
after_open false = []

-- an `else` goes on with a statement that ends in an `if` without one
abbrev pub after_stmt : Stmt → List Mark
after_stmt x = after_open (ends_in_open_if x)

-- what goes on with an `else`, or where none stands
abbrev pub after_else : Option Stmt → List Mark
after_else None = else_marks
after_else (Some y) = after_stmt y

pub apart-open : (xs : List Mark) → apart xs else_marks ≡ true → apart xs [] ≡ true → (b : Bool) → apart xs (after_open b) ≡ true
apart-open xs e f true = e
apart-open xs e f false = f

pub open-covered : (zs : List Mark) → covered else_marks zs ≡ true → (b : Bool) → covered (after_open b) zs ≡ true
open-covered zs e true = e
open-covered zs e false = refl

open-self : (b : Bool) → covered (after_open b) (after_open b) ≡ true
open-self true = refl
open-self false = refl

-- X, of which a tree is made that goes on as X does
pub made-as : {C A B : Type 0} {F : Levels A} {n : ℕ} {p : Parser A} (ys : A → List Mark) (zs : B → List Mark) (make : A → B) → ((a : A) → zs (make a) ≡ ys a) → Lawful C F n p (stops_by ys)
    → Lawful C (λ floor m. F floor m >>= λ a. nothing (make a)) n (bind p (λ a. pure (make a))) (stops_by zs)
made-as {A = A} {B = B} ys zs make e f = followed f (λ a. nothing-lawful (make a)) (λ floor m a b middle rest h stop. go a b middle rest h.0 h.1 stop)
  where
    by : (a : A) (t : Option Token) → stops_by zs (make a) t ≡ true → stops_by ys a t ≡ true
    by a None s = refl
    by a (Some t) s = rw (← e a) s

    go : (a : A) (b : B) (middle rest : Tokens) → make a ≡ b → middle ≡ rest → stops_by zs b (first rest) ≡ true → stops_by ys a (first middle) ≡ true
    go a b middle rest q r stop =
        let P : B → Type 0 = λ z. stops_by zs z (first rest) ≡ true in
        let Q : Tokens → Type 0 = λ z. stops_by ys a (first z) ≡ true in
        subst Q (sym r) (by a (first rest) (subst P (sym q) stop))

-- ---- small pieces

pub label-lawful : {C : Type 0} {n : ℕ} → Lawful C (λ floor m. g.label) n p.read_label (stops_by closed)
unfolding p.read_label
label-lawful = alternative (any_number ∷ []) (any_name ∷ []) (next number-lawful (λ k. nothing-lawful _)) (next name-lawful (λ x. nothing-lawful _)) (begins-then number-begins) (begins-then name-begins) refl

label-begins : Begins (any_number ∷ any_name ∷ []) (λ floor m. g.label)
label-begins = begins-either (begins-wider (any_number ∷ []) _ refl (begins-then number-begins)) (begins-wider (any_name ∷ []) _ refl (begins-then name-begins))

pub binder-lawful : {C : Type 0} (n : ℕ) → Lawful C (At g.binder_rule) n (p.read_binder n) (stops_by closed)
unfolding p.read_binder
binder-lawful n = level open_paren refl (λ _. next name-lawful (λ x. next (token-lawful w.word_in refl) (λ _. next index-lawful (λ over. next (token-lawful close_paren refl) (λ _. nothing-lawful _)))))

positive-read : (o : Option ℕ) (k : ℕ) → at_least_one o ≡ Some k → (o ≡ Some k) × (0 < k)
positive-read None k e = absurd cc
positive-read (Some zero) k e = absurd cc
positive-read (Some (suc j)) k e = let i : suc j ≡ k = cc in (e, let P : ℕ → Type 0 = λ z. 0 < z in subst P i (omega arith))

positive-is : (o : Option ℕ) (k : ℕ) → o ≡ Some k → 0 < k → at_least_one o ≡ Some k
positive-is None k e l = absurd cc
positive-is (Some zero) k e l = absurd (let i : zero ≡ k = cc in omega arith)
positive-is (Some (suc j)) k e l = e

with-place : (at : ℕ) (o : Option ℕ) (k : ℕ) → o ≡ Some k → with_place at o ≡ Some (k, at)
with-place at o k e = rw e refl

without-place : (at : ℕ) (o : Option ℕ) (k : ℕ × ℕ) → with_place at o ≡ Some k → o ≡ Some k.0
without-place at None k e = absurd cc
without-place at (Some j) k e = let i : (j, at) ≡ k = cc in let f : ℕ × ℕ → ℕ = λ z. z.0 in ap Some (ap f i)

positive-to : (ts : Tokens) (k : ℕ) (rest : Tokens) → one a_positive ts k rest → positive ts k rest
positive-to [] k rest h = absurd h
positive-to (t ∷ ts) k rest h = let u = positive-read (number_of t.kind) k h.0 in ((k, t.at), ts, (with-place t.at (number_of t.kind) k u.0, refl), (u.1, (refl, h.1)))

positive-from : (ts : Tokens) (k : ℕ) (rest : Tokens) → positive ts k rest → one a_positive ts k rest
positive-from [] k rest h = absurd h.2
positive-from (t ∷ ts) k rest h =
    let e = without-place t.at (number_of t.kind) h.0 h.2.0 in
    let P : ℕ → Type 0 = λ z. a_positive t ≡ Some z in
    (subst P h.3.1.0 (positive-is (number_of t.kind) h.0.0 e h.3.0), h.2.1 ∙ h.3.1.1)

positive-lawful : {C : Type 0} {n : ℕ} {st : ℕ → Option Token → Bool} → Lawful C (λ floor m. positive) n (take a_positive) st
positive-lawful = same-lawful (λ floor m ts v rest h. positive-to ts v rest h) (λ floor m ts v rest h. positive-from ts v rest h) (λ a t e. e)
    (one-lawful a_positive (record { token = record { kind = Number 1; at = 0 }; value = 1; reads = refl }))

pub turns-lawful : {C : Type 0} (n : ℕ) → Lawful C (At g.turns_rule) n (p.read_turns n) (stops_by closed)
unfolding p.read_turns p.read_bound
turns-lawful n = level open_paren refl (λ _. next name-lawful (λ x. next (token-lawful equal refl) (λ _. next number-lawful (λ from. next (token-lawful semicolon refl) (λ _.
    next (same-name-lawful x) (λ _. next (entry-lawful less false ((at_most, true) ∷ []) refl) (λ closed. next number-lawful (λ to. next (token-lawful semicolon refl) (λ _.
    next (same-name-lawful x) (λ _. next (token-lawful equal refl) (λ _. next (same-name-lawful x) (λ _. next (token-lawful plus refl) (λ _. next positive-lawful (λ step. next (token-lawful close_paren refl) (λ _. nothing-lawful _)))))))))))))))

pub value-lawful : {C : Type 0} (n : ℕ) → Lawful C (At g.value) n (p.read_value n) (stops_by closed)
unfolding p.read_value
value-lawful {C = C} n = next (token-lawful becomes refl) (λ _. ended after_expr semicolon (λ x. x) refl refl (expr-lawful C n (expr_readers n) (inner-laws n)))

pub assignment-lawful : {C : Type 0} (n : ℕ) → Lawful C (At g.assignment) n (p.read_assignment n) (stops_by closed)
unfolding p.read_assignment
assignment-lawful {C = C} n = next-begun (exactly becomes ∷ []) (λ x. after_path) (path-lawful C n (expr_readers n) (inner-laws n))
    (λ p. next (value-lawful n) (λ x. nothing-lawful _)) (λ p. begins-then (begins-then (token-begins becomes))) (λ x. refl)

-- ---- how statements begin

timed-begins : Begins (exactly w.word_init ∷ exactly w.word_next ∷ []) (At g.timed)
timed-begins = begins-then (entry-begins moments)

if-begins : Begins (exactly w.word_if ∷ []) (At g.if_rule)
if-begins = begins-then (opener-begins w.word_if)

switch-begins : Begins (exactly w.word_switch ∷ []) (At g.switch)
switch-begins = begins-then (opener-begins w.word_switch)

default-begins : Begins (exactly w.word_default ∷ []) (At g.default)
default-begins = begins-then (opener-begins w.word_default)

for-begins : Begins (exactly w.word_for ∷ []) (At g.for)
for-begins = begins-then (opener-begins w.word_for)

abbrev from_default : List Mark
from_default = exactly w.word_default ∷ exactly w.word_for ∷ []

abbrev from_switch : List Mark
from_switch = exactly w.word_switch ∷ from_default

abbrev from_if : List Mark
from_if = exactly w.word_if ∷ from_switch

abbrev pub worded_marks : List Mark
worded_marks = exactly w.word_init ∷ exactly w.word_next ∷ from_if

from-default-begins : Begins from_default (λ floor m. At g.default floor m <|> At g.for floor m)
from-default-begins = begins-either (begins-wider (exactly w.word_default ∷ []) _ refl default-begins) (begins-wider (exactly w.word_for ∷ []) _ refl for-begins)

from-switch-begins : Begins from_switch (λ floor m. At g.switch floor m <|> At g.default floor m <|> At g.for floor m)
from-switch-begins = begins-either (begins-wider (exactly w.word_switch ∷ []) _ refl switch-begins) (begins-wider from_default _ refl from-default-begins)

from-if-begins : Begins from_if (λ floor m. At g.if_rule floor m <|> At g.switch floor m <|> At g.default floor m <|> At g.for floor m)
from-if-begins = begins-either (begins-wider (exactly w.word_if ∷ []) _ refl if-begins) (begins-wider from_switch _ refl from-switch-begins)

pub worded-begins : Begins worded_marks (λ floor m. At g.timed floor m <|> At g.if_rule floor m <|> At g.switch floor m <|> At g.default floor m <|> At g.for floor m)
worded-begins = begins-either (begins-wider (exactly w.word_init ∷ exactly w.word_next ∷ []) _ refl timed-begins) (begins-wider from_if _ refl from-if-begins)

assignment-begins : Begins (any_name ∷ []) (At g.assignment)
assignment-begins = begins-then path-begins

pub simple-begins : Begins simple_marks (At g.simple)
simple-begins = begins-either (begins-wider (any_name ∷ []) _ refl assignment-begins) (begins-wider worded_marks _ refl worded-begins)

abbrev forall_rule : Levels Stmt
forall_rule floor m = g.opening floor m (below floor m) w.word_forall >>= λ at. (below floor m).binder >>= λ b. (below floor m).stmt >>= λ body. nothing (stmt.Forall b.0 b.1 body at)

abbrev block_rule : Levels Stmt
block_rule floor m = g.opening floor m (below floor m) open_brace >> many (below floor m).stmt >>= λ parts. token close_brace >> nothing (stmt.Block parts)

block-begins : Begins (exactly open_brace ∷ simple_marks) (λ floor m. block_rule floor m <|> At g.simple floor m)
block-begins = begins-either (begins-wider (exactly open_brace ∷ []) _ refl (begins-then (opener-begins open_brace))) (begins-wider simple_marks _ refl simple-begins)

pub stmt-begins : Begins stmt_marks (At g.stmt_rule)
stmt-begins = begins-either (begins-wider (exactly w.word_forall ∷ []) _ refl (begins-then (opener-begins w.word_forall))) (begins-wider (exactly open_brace ∷ simple_marks) _ refl block-begins)

-- ---- what stands inside an opened level, where there is one

pub record StmtLaws (n : ℕ) (inner : StmtReaders) : Type 0 where
  pub path : Lawful (0 < n) (At g.path_rule) (n - 1) inner.path (stops_by (λ x. after_path))
  pub condition : Lawful (0 < n) (At g.condition_rule) (n - 1) inner.condition (stops_by closed)
  pub binder : Lawful (0 < n) (At g.binder_rule) (n - 1) inner.binder (stops_by closed)
  pub stmt : Lawful (0 < n) (At g.stmt_rule) (n - 1) inner.stmt (stops_by after_stmt)
  pub arms : Lawful (0 < n) (At g.arms_rule) (n - 1) inner.arms (stops_by closed)
  pub turns : Lawful (0 < n) (At g.turns_rule) (n - 1) inner.turns (stops_by closed)
  pub greedy : Greedy inner.stmt after_stmt

-- ---- the nearest `else`

module _ (n : ℕ) (inner : StmtReaders) (law : StmtLaws n inner) where
  abbrev else_rule : Stmt → Levels (Option Stmt)
  else_rule x floor m = optional (g.otherwise floor (suc m) (below floor (suc m)) x)

  -- an `else`, where it would not belong to the statement before it
  abbrev else_unless : Bool → Parser (Option Stmt)
  else_unless b = cond b (pure None) (p.read_else n inner)

  any-else : Lawful (0 < n) (λ floor m. optional (token w.word_else >> (below floor (suc m)).stmt)) (n - 1) (p.read_else n inner) (stops_by after_else)
  unfolding p.read_else
  any-else = optionally else_marks after_stmt after_else (next (token-lawful w.word_else refl) (λ _. law.stmt)) (begins-then (token-begins w.word_else)) refl (λ y. open-self (ends_in_open_if y))

  else-by : (x : Stmt) (b : Bool) → ends_in_open_if x ≡ b → Lawful (0 < n) (else_rule x) (n - 1) (else_unless b) (stops_by after_else)
  else-by x false e = same-lawful to from (λ a t s. s) any-else
    where
      to : (floor : ℕ → ℕ) (m : ℕ) (ts : Tokens) (y : Option Stmt) (rest : Tokens) → optional (token w.word_else >> (below floor (suc m)).stmt) ts y rest → else_rule x floor m ts y rest
      to floor m ts y rest (inl h) = inl (h.0, h.1, (e, h.2), h.3)
      to floor m ts y rest (inr h) = inr h

      from : (floor : ℕ → ℕ) (m : ℕ) (ts : Tokens) (y : Option Stmt) (rest : Tokens) → else_rule x floor m ts y rest → optional (token w.word_else >> (below floor (suc m)).stmt) ts y rest
      from floor m ts y rest (inl h) = inl (h.0, h.1, h.2.1, h.3)
      from floor m ts y rest (inr h) = inr h
  else-by x true e = same-lawful to from (λ a t s. s) (nothing-lawful None)
    where
      to : (floor : ℕ → ℕ) (m : ℕ) (ts : Tokens) (y : Option Stmt) (rest : Tokens) → nothing None ts y rest → else_rule x floor m ts y rest
      to floor m ts y rest h = inr h

      from : (floor : ℕ → ℕ) (m : ℕ) (ts : Tokens) (y : Option Stmt) (rest : Tokens) → else_rule x floor m ts y rest → nothing None ts y rest
      from floor m ts y rest (inl h) = absurd (let q = h.2.0 in let z : true ≡ false = sym e ∙ q in cc)
      from floor m ts y rest (inr h) = h

  -- the two branches of an `if`, where it is looked whether an `else` belongs to the first
  abbrev tested : Expr → ℕ → Parser Stmt
  tested c at = bind inner.stmt (λ x. bind (else_unless (ends_in_open_if x)) (λ y. pure (stmt.If c x y at)))

  abbrev branches : Expr → ℕ → Levels Stmt
  branches c at floor m = (below floor (suc m)).stmt >>= λ x. else_rule x floor m >>= λ y. nothing (stmt.If c x y at)

  after-if : (c : Expr) (x : Stmt) (at : ℕ) (y : Option Stmt) → after_stmt (stmt.If c x y at) ≡ after_else y
  after-if c x at None = ap after_open (if-alone c x at)
  after-if c x at (Some y) = ap after_open (if-else c x y at)

  tested-lawful : (c : Expr) (at : ℕ) → Lawful (0 < n) (branches c at) (n - 1) (tested c at) (stops_by after_stmt)
  tested-lawful c at = followed law.stmt (λ x. made-as after_else after_stmt (λ y. stmt.If c x y at) (after-if c x at) (else-by x (ends_in_open_if x) refl))
      (λ floor m x b middle rest h stop. follow floor m x b middle rest h.0 h.1 h.2 h.3.0 h.3.1 stop)
    where
      none : (b : Bool) (t : Option Token) → stops_by (λ (i : ℕ). else_marks) 0 t ≡ true → stops_by (λ (i : ℕ). after_open b) 0 t ≡ true
      none b None s = refl
      none true (Some t) s = s
      none false (Some t) s = refl

      alike : (x : Stmt) (t : Option Token) → stops_by (λ (i : ℕ). after_open (ends_in_open_if x)) 0 t ≡ true → stops_by after_stmt x t ≡ true
      alike x None s = refl
      alike x (Some t) s = s

      here : (x : Stmt) (t : Option Token) → stops_by after_stmt (stmt.If c x None at) t ≡ true → stops_by after_stmt x t ≡ true
      here x None s = refl
      here x (Some t) s =
          let P : List Mark → Type 0 = λ ys. stops_by (λ (i : ℕ). ys) 0 (Some t) ≡ true in
          alike x (Some t) (none (ends_in_open_if x) (Some t) (subst P (after-if c x at None) s))

      closed-so : (x : Stmt) (t : Option Token) → ends_in_open_if x ≡ false → stops_by after_stmt x t ≡ true
      closed-so x None e = refl
      closed-so x (Some t) e = rw e refl

      follow : (floor : ℕ → ℕ) (m : ℕ) (x b : Stmt) (middle rest : Tokens) (y : Option Stmt) (end : Tokens) → else_rule x floor m middle y end → stmt.If c x y at ≡ b → end ≡ rest
          → stops_by after_stmt b (first rest) ≡ true → stops_by after_stmt x (first middle) ≡ true
      follow floor m x b middle rest y end (inl h) q r stop = closed-so x (first middle) h.2.0
      follow floor m x b middle rest y end (inr h) q r stop =
          let same : middle ≡ rest = h.1 ∙ r in
          let q' : stmt.If c x None at ≡ b = ap (λ (z : Option Stmt). stmt.If c x z at) h.0 ∙ q in
          let P : Stmt → Type 0 = λ z. stops_by after_stmt z (first rest) ≡ true in
          let Q : Tokens → Type 0 = λ z. stops_by after_stmt x (first z) ≡ true in
          subst Q (sym same) (here x (first rest) (subst P (sym q') stop))

  -- No `else` follows a statement to which it would belong, so none has to be looked for.
  untested : (c : Expr) (at : ℕ) (ts : Tokens) → bind inner.stmt (λ x. bind (p.read_else n inner) (λ y. pure (stmt.If c x y at))) ts ≡ tested c at ts
  unfolding p.read_else
  untested c at ts = go (inner.stmt ts) refl
    where
      by : (x : Stmt) (b : Bool) → ends_in_open_if x ≡ b → (rest : Tokens) → stops_by after_stmt x (first rest) ≡ true
          → and_then (p.read_else n inner rest) (λ y. pure (stmt.If c x y at)) ≡ and_then (else_unless b rest) (λ y. pure (stmt.If c x y at))
      by x false e rest s = refl
      by x true e rest s =
          let i : covered else_marks (after_stmt x) ≡ true = rw e refl in
          let q : starts (begins else_marks) rest ≡ false = stops-not after_stmt x else_marks rest i s in
          rw q refl

      go : (o : Outcome Stmt) → inner.stmt ts ≡ o
          → and_then o (λ x. bind (p.read_else n inner) (λ y. pure (stmt.If c x y at))) ≡ and_then o (λ x. bind (else_unless (ends_in_open_if x)) (λ y. pure (stmt.If c x y at)))
      go (Err h) q = refl
      go (Ok (x, rest)) q = by x (ends_in_open_if x) refl rest (law.greedy.holds ts x rest q)

  branches-lawful : (c : Expr) (at : ℕ) → Lawful (0 < n) (branches c at) (n - 1) (bind inner.stmt (λ x. bind (p.read_else n inner) (λ y. pure (stmt.If c x y at)))) (stops_by after_stmt)
  branches-lawful c at = let f = tested-lawful c at in record {
    finishes = f.finishes;
    law = λ l. same-law (branches c at) (branches c at) (λ floor m ts a rest h. h) (λ floor m ts a rest h. h) (n - 1) (tested c at) _ (stops_by after_stmt) (stops_by after_stmt) (untested c at) (λ a t s. s) (f.law l);
  }

  -- ---- statements, of which the readers of the next level are given

  pub arm-lawful : Lawful (0 < n) (λ floor m. At g.arm floor (suc m)) (n - 1) (p.read_arm n inner) (stops_by (λ x. else_marks))
  unfolding p.read_arm
  arm-lawful = next-begun (exactly colon ∷ []) (λ x. exactly comma ∷ []) (separated-lawful closed (exactly comma ∷ []) label-lawful (λ x. refl) refl (λ x. refl))
      (λ labels. next (token-lawful colon refl) (λ _. made else_marks (λ body. roll-Arm (record { labels = labels; body = body }))
      (continued after_stmt (λ x. else_marks) (λ x. open-covered else_marks refl (ends_in_open_if x)) law.stmt)))
      (λ labels. begins-then (token-begins colon)) (λ labels. refl)

  pub arm-begins : Begins (any_number ∷ any_name ∷ []) (λ floor m. At g.arm floor (suc m))
  arm-begins = begins-then (begins-then label-begins)

  other-lawful : Lawful (0 < n) (λ floor m. optional (token w.word_default >> token colon >> (below floor (suc m)).stmt)) (n - 1) (p.read_other n inner) (stops_by (λ o. exactly w.word_default ∷ else_marks))
  unfolding p.read_other
  other-lawful = optionally (exactly w.word_default ∷ []) after_stmt (λ o. exactly w.word_default ∷ else_marks) (next (token-lawful w.word_default refl) (λ _. next (token-lawful colon refl) (λ _. law.stmt)))
      (begins-then (token-begins w.word_default)) refl (λ y. open-covered (exactly w.word_default ∷ else_marks) refl (ends_in_open_if y))

  abbrev in_arms : List Mark
  in_arms = any_number ∷ any_name ∷ else_marks

module _ (C : Type 0) (n : ℕ) (inner : StmtReaders) (law : StmtLaws n inner) where
  pub arms-lawful : Lawful C (At g.arms_rule) n (p.read_arms n inner) (stops_by closed)
  unfolding p.read_arms
  arms-lawful = level open_brace refl (λ _. next-begun (exactly w.word_default ∷ exactly close_brace ∷ []) (λ x. in_arms n inner law)
      (repeated (any_number ∷ any_name ∷ []) (λ x. else_marks) (in_arms n inner law) (arm-lawful n inner law) (arm-begins n inner law) (λ a. refl) refl (λ a. refl))
      (λ arms. ended (exactly w.word_default ∷ else_marks) close_brace (λ other. (arms, other)) refl refl (other-lawful n inner law))
      (λ arms. begins-after (leads-maybe None (begins-wider (exactly w.word_default ∷ []) _ refl (begins-then (begins-then (token-begins w.word_default)))))
      (λ other. begins-wider (exactly close_brace ∷ []) _ refl (begins-then (token-begins close_brace)))) (λ arms. refl))

  timed-lawful : Lawful C (At g.timed) n (p.read_timed n inner) (stops_by closed)
  unfolding p.read_timed
  timed-lawful = next (entry-lawful w.word_init kind.Init ((w.word_next, kind.Next) ∷ []) refl) (λ k. level open_paren refl (λ _. next-begun (exactly close_paren ∷ []) (λ x. after_path) law.path
      (λ p. next (token-lawful close_paren refl) (λ _. next (outside (value-lawful n)) (λ x. nothing-lawful _))) (λ p. begins-then (token-begins close_paren)) (λ p. refl)))

  if-lawful : Lawful C (At g.if_rule) n (p.read_if n inner) (stops_by after_stmt)
  unfolding p.read_if
  if-lawful = level w.word_if refl (λ at. next law.condition (λ c. branches-lawful n inner law c at))

  switch-lawful : Lawful C (At g.switch) n (p.read_switch n inner) (stops_by closed)
  unfolding p.read_switch
  switch-lawful = level w.word_switch refl (λ at. next law.condition (λ x. next law.arms (λ a. nothing-lawful _)))

  default-lawful : Lawful C (At g.default) n (p.read_default n inner) (stops_by after_stmt)
  unfolding p.read_default
  default-lawful = level w.word_default refl (λ at. next-begun (exactly w.word_in ∷ []) after_stmt law.stmt
      (λ x. next (token-lawful w.word_in refl) (λ _. made-as after_stmt after_stmt (λ y. stmt.Default x y at) (λ y. ap after_open (default-open x y at)) law.stmt))
      (λ x. begins-then (token-begins w.word_in)) (λ x. apart-open (exactly w.word_in ∷ []) refl refl (ends_in_open_if x)))

  for-lawful : Lawful C (At g.for) n (p.read_for n inner) (stops_by after_stmt)
  unfolding p.read_for
  for-lawful = level w.word_for refl (λ at. next law.turns (λ t. made-as after_stmt after_stmt (λ body. stmt.For t.var t.from t.to t.closed t.step body at)
      (λ body. ap after_open (for-open t.var t.from t.to t.closed t.step body at)) law.stmt))

  forall-lawful : Lawful C forall_rule n (p.read_forall n inner) (stops_by after_stmt)
  unfolding p.read_forall
  forall-lawful = level w.word_forall refl (λ at. next law.binder (λ b. made-as after_stmt after_stmt (λ body. stmt.Forall b.0 b.1 body at) (λ body. ap after_open (forall-open b.0 b.1 body at)) law.stmt))

  block-lawful : Lawful C block_rule n (p.read_block n inner) (stops_by closed)
  unfolding p.read_block
  block-lawful = level open_brace refl (λ _. ended (exactly w.word_else ∷ stmt_marks) close_brace stmt.Block refl refl
      (repeated stmt_marks after_stmt (exactly w.word_else ∷ stmt_marks) law.stmt stmt-begins (λ x. apart-open stmt_marks refl refl (ends_in_open_if x)) refl
      (λ x. open-covered (exactly w.word_else ∷ stmt_marks) refl (ends_in_open_if x))))

  -- nothing goes on with it
  shut : {F : Levels Stmt} {q : Parser Stmt} → Lawful C F n q (stops_by closed) → Lawful C F n q (stops_by after_stmt)
  shut f = continued closed after_stmt (λ x. refl) f

  pub worded-lawful : Lawful C (λ floor m. At g.timed floor m <|> At g.if_rule floor m <|> At g.switch floor m <|> At g.default floor m <|> At g.for floor m) n (p.read_worded n inner) (stops_by after_stmt)
  unfolding p.read_worded
  worded-lawful = alternative (exactly w.word_init ∷ exactly w.word_next ∷ []) from_if (shut timed-lawful)
      (alternative (exactly w.word_if ∷ []) from_switch if-lawful
      (alternative (exactly w.word_switch ∷ []) from_default (shut switch-lawful)
      (alternative (exactly w.word_default ∷ []) (exactly w.word_for ∷ []) default-lawful for-lawful default-begins for-begins refl)
      switch-begins from-default-begins refl) if-begins from-switch-begins refl) timed-begins from-if-begins refl

  pub simple-lawful : Lawful C (At g.simple) n (p.read_simple n inner) (stops_by after_stmt)
  unfolding p.read_simple
  simple-lawful = alternative (any_name ∷ []) worded_marks (shut (assignment-lawful n)) worded-lawful assignment-begins worded-begins refl

  pub stmt-lawful : Lawful C (At g.stmt_rule) n (p.read_stmt n inner) (stops_by after_stmt)
  unfolding p.read_stmt
  stmt-lawful = alternative (exactly w.word_forall ∷ []) (exactly open_brace ∷ simple_marks) forall-lawful
      (alternative (exactly open_brace ∷ []) simple_marks (shut block-lawful) simple-lawful (begins-then (opener-begins open_brace)) simple-begins refl)
      (begins-then (opener-begins w.word_forall)) block-begins refl

-- ---- what is read is followed by no `else` that it could take

module _ (n : ℕ) (inner : StmtReaders) (greedy : Greedy inner.stmt after_stmt) where
  assignment-greedy : Greedy (p.read_assignment n) after_stmt
  unfolding p.read_assignment
  assignment-greedy = greedy-then (read_path n (expr_readers n)) (λ q. greedy-then (p.read_value n) (λ x. greedy-pure _ (ap after_open (assign-closed _ _ _ _))))

  timed-greedy : Greedy (p.read_timed n inner) after_stmt
  unfolding p.read_timed
  timed-greedy = greedy-then (take (an_entry moments)) (λ k. greedy-open (a_token open_paren) n (λ _. greedy-then inner.path (λ q. greedy-then (take (a_token close_paren)) (λ _. greedy-then (p.read_value n) (λ x. greedy-pure _ (ap after_open (assign-closed _ _ _ _)))))))

  else-greedy : Greedy (p.read_else n inner) after_else
  unfolding p.read_else
  else-greedy = greedy-maybe None refl (greedy-made Some (λ y. refl) (greedy-then (take (a_token w.word_else)) (λ _. greedy)))

  after-some : (c : Expr) (x : Stmt) (at : ℕ) (y : Option Stmt) → after_stmt (stmt.If c x y at) ≡ after_else y
  after-some c x at None = ap after_open (if-alone c x at)
  after-some c x at (Some y) = ap after_open (if-else c x y at)

  if-greedy : Greedy (p.read_if n inner) after_stmt
  unfolding p.read_if
  if-greedy = greedy-open (a_token w.word_if) n (λ at. greedy-then inner.condition (λ c. greedy-then inner.stmt (λ x. greedy-made (λ y. stmt.If c x y at) (after-some c x at) else-greedy)))

  switch-greedy : Greedy (p.read_switch n inner) after_stmt
  unfolding p.read_switch
  switch-greedy = greedy-open (a_token w.word_switch) n (λ at. greedy-then inner.condition (λ x. greedy-then inner.arms (λ a. greedy-pure _ (ap after_open (switch-closed _ _ _ _)))))

  default-greedy : Greedy (p.read_default n inner) after_stmt
  unfolding p.read_default
  default-greedy = greedy-open (a_token w.word_default) n (λ at. greedy-then inner.stmt (λ x. greedy-then (take (a_token w.word_in)) (λ _. greedy-made (λ y. stmt.Default x y at) (λ y. ap after_open (default-open x y at)) greedy)))

  for-greedy : Greedy (p.read_for n inner) after_stmt
  unfolding p.read_for
  for-greedy = greedy-open (a_token w.word_for) n (λ at. greedy-then inner.turns (λ t. greedy-made (λ body. stmt.For t.var t.from t.to t.closed t.step body at) (λ body. ap after_open (for-open t.var t.from t.to t.closed t.step body at)) greedy))

  forall-greedy : Greedy (p.read_forall n inner) after_stmt
  unfolding p.read_forall
  forall-greedy = greedy-open (a_token w.word_forall) n (λ at. greedy-then inner.binder (λ b. greedy-made (λ body. stmt.Forall b.0 b.1 body at) (λ body. ap after_open (forall-open b.0 b.1 body at)) greedy))

  block-greedy : Greedy (p.read_block n inner) after_stmt
  unfolding p.read_block
  block-greedy = greedy-open (a_token open_brace) n (λ _. greedy-then (loop (begins stmt_marks) inner.stmt) (λ parts. greedy-then (take (a_token close_brace)) (λ _. greedy-pure _ (ap after_open (block-closed parts)))))

  simple-greedy : Greedy (p.read_simple n inner) after_stmt
  unfolding p.read_simple p.read_worded
  simple-greedy = greedy-fork assignment-greedy (greedy-fork timed-greedy (greedy-fork if-greedy (greedy-fork switch-greedy (greedy-fork default-greedy for-greedy))))

  pub stmt-greedy : Greedy (p.read_stmt n inner) after_stmt
  unfolding p.read_stmt
  stmt-greedy = greedy-fork forall-greedy (greedy-fork block-greedy simple-greedy)

-- ---- for each number of levels

path-finishes : (place : ℕ) → Finishes (At g.path_rule) place
path-finishes place =
    let x : Word = record { name = []; at = place } in
    record { more = record { kind = Ident []; at = place } ∷ []; value = named x []; enough = 0; spelled = λ floor m z e r. (x, r, (refl, refl), ([], r, refl, (refl, refl))) }

stmt-finishes : (place : ℕ) → Finishes (At g.stmt_rule) place
stmt-finishes place =
    let x = (assignment-lawful {C = Unit {0}} 0).finishes place in
    record { more = x.more; value = x.value; enough = x.enough; spelled = λ floor m z e r. inr (inr (inl (x.spelled floor m z e r))) }

arms-finishes : (place : ℕ) → Finishes (At g.arms_rule) place
arms-finishes place = record {
  more = record { kind = open_brace; at = place } ∷ record { kind = close_brace; at = place } ∷ [];
  value = ([], None);
  enough = 1;
  spelled = λ floor m z e r.
      let last : Tokens = record { kind = close_brace; at = place } ∷ r in
      let l : floor place < m = omega arith in
      (place, last, (place, last, (refl, refl), (tt, last, (l, (refl, refl)), (refl, refl))), ([], last, refl, (None, last, inr (refl, refl), (place, r, (refl, refl), (refl, refl)))));
}

pub stmt-laws : (n : ℕ) → StmtLaws n (p.stmt_readers n)
stmt-laws zero = record {
  path = record { finishes = path-finishes; law = λ c. absurd (omega arith) };
  condition = record { finishes = (condition-lawful (Unit {0}) 0 (expr_readers 0) (inner-laws 0)).finishes; law = λ c. absurd (omega arith) };
  binder = record { finishes = (binder-lawful {C = Unit {0}} 0).finishes; law = λ c. absurd (omega arith) };
  stmt = record { finishes = stmt-finishes; law = λ c. absurd (omega arith) };
  arms = record { finishes = arms-finishes; law = λ c. absurd (omega arith) };
  turns = record { finishes = (turns-lawful {C = Unit {0}} 0).finishes; law = λ c. absurd (omega arith) };
  greedy = record { holds = λ ts a rest h. absurd cc };
}
stmt-laws (suc n) =
    let x = stmt-laws n in
    let e : n ≡ suc n - 1 = omega arith in
    record {
      path = let P : ℕ → Type 0 = λ k. Lawful (0 < suc n) (At g.path_rule) k (read_path n (expr_readers n)) (stops_by (λ x. after_path)) in subst P e (path-lawful (0 < suc n) n (expr_readers n) (inner-laws n));
      condition = let P : ℕ → Type 0 = λ k. Lawful (0 < suc n) (At g.condition_rule) k (read_condition n (expr_readers n)) (stops_by closed) in
          subst P e (condition-lawful (0 < suc n) n (expr_readers n) (inner-laws n));
      binder = let P : ℕ → Type 0 = λ k. Lawful (0 < suc n) (At g.binder_rule) k (p.read_binder n) (stops_by closed) in subst P e (binder-lawful n);
      stmt = let P : ℕ → Type 0 = λ k. Lawful (0 < suc n) (At g.stmt_rule) k (p.read_stmt n (p.stmt_readers n)) (stops_by after_stmt) in subst P e (stmt-lawful (0 < suc n) n (p.stmt_readers n) x);
      arms = let P : ℕ → Type 0 = λ k. Lawful (0 < suc n) (At g.arms_rule) k (p.read_arms n (p.stmt_readers n)) (stops_by closed) in subst P e (arms-lawful (0 < suc n) n (p.stmt_readers n) x);
      turns = let P : ℕ → Type 0 = λ k. Lawful (0 < suc n) (At g.turns_rule) k (p.read_turns n) (stops_by closed) in subst P e (turns-lawful n);
      greedy = stmt-greedy n (p.stmt_readers n) x.greedy;
    }

-- the parser of statements within n levels has its law
pub statements : {C : Type 0} (n : ℕ) → Lawful C (At g.stmt_rule) n (p.read_stmt n (p.stmt_readers n)) (stops_by after_stmt)
statements {C = C} n = stmt-lawful C n (p.stmt_readers n) (stmt-laws n)
