-- What the code of a parser goes by: the steps of a loop, and the readers of the next level.
use Rattle.std.proofs.Common.{◌≡◌, ◌-◌, ◌<◌, ◌≤◌, ℕ, zero, suc, Bool, true, false, cond, List, [], ◌∷◌, ◌++◌, length, length-append, Option, Some, None, Ok, Err, refl, sym, ap, append_assoc, append-nil, arith}
use Rattle.smv_core.specs.declared.token.Token.{Token}
use Rattle.smv_core.specs.Notation.{Tokens}
use Rattle.law_grammar.specs.Parsing.{Halt, Outcome, Parser, and_then, pure, opened, take_open, starts, turns, loop}
use Rattle.law_grammar.specs.Lawful.{Levels, Reads, Law}
use Rattle.law_grammar.specs.Marks.{Mark, begins}
use Rattle.law_grammar.specs.Expressions.{read_expr, read_negation, read_member, read_path, read_condition, expr_readers}
use Rattle.law_grammar.specs.Types.{read_type, read_field, type_readers}
use Rattle.law_grammar.specs.Statements.{read_stmt, read_arms, read_turns, read_binder, stmt_readers}
use Rattle.law_grammar.specs.References.{read_used}
use Rattle.law_grammar.specs.Items.{read_item, read_body, item_readers}
use Rattle.law_grammar.proofs.Many.{Takes}
use Rattle.law_grammar.proofs.Forms.{Begins}

-- ---- a parser that reads a value takes a token

pub takes : {A : Type 0} {F : Levels A} {n : ℕ} {p : Parser A} {st : A → Option Token → Bool} (xs : List Mark) → Law F n p st → Begins xs F → Takes p
takes {A = A} {F = F} {n = n} {p = p} xs law begun ts a rest e = go (law.reads ts a rest e)
  where
    by : (front : Tokens) → ts ≡ front ++ rest → F (λ i. 0) n (front ++ []) a [] → length rest < length ts
    by [] split h = absurd (let q : starts (begins xs) [] ≡ true = begun.holds (λ i. 0) n [] a [] h in cc)
    by (t ∷ front) split h = rw split (rw length-append (omega arith))

    go : Reads F n p ts a rest → length rest < length ts
    go u = by u.front u.split (u.spelled (λ i. 0) n (λ i. omega arith) [])

-- ---- the steps of a loop

-- a loop that has read these values already
abbrev pub resumed : {A : Type 0} → List A → Outcome (List A) → Outcome (List A)
resumed items o = and_then o (λ more end. Ok (items ++ more, end))

module _ {A : Type 0} (test : Token → Bool) (p : Parser A) (shrinks : Takes p) where
  abbrev after : Outcome A → ℕ → Outcome (List A)
  after o k = and_then o (λ a rest. and_then (turns test p k rest) (λ more end. Ok (a ∷ more, end)))

  -- it does not count how many turns more are allowed than there are tokens
  enough : (k j : ℕ) (ts : Tokens) → length ts ≤ k → length ts ≤ j → turns test p k ts ≡ turns test p j ts
  enough zero zero ts l m = refl
  enough zero (suc j) [] l m = refl
  enough zero (suc j) (t ∷ ts) l m = absurd (omega arith)
  enough (suc k) zero [] l m = refl
  enough (suc k) zero (t ∷ ts) l m = absurd (omega arith)
  enough (suc k) (suc j) ts l m = go (λ rest l m. enough k j rest l m) (starts test ts)
    where
      go : ((rest : Tokens) → length rest ≤ k → length rest ≤ j → turns test p k rest ≡ turns test p j rest) → (b : Bool) → cond b (after (p ts) k) (Ok ([], ts)) ≡ cond b (after (p ts) j) (Ok ([], ts))
      go ih false = refl
      go ih true = item (p ts) refl
        where
          item : (o : Outcome A) → p ts ≡ o → after o k ≡ after o j
          item (Err x) q = refl
          item (Ok (a, rest)) q = let less = shrinks ts a rest q in rw (ih rest (omega arith) (omega arith)) refl

  first-turn : (ts : Tokens) → starts test ts ≡ true → loop test p ts ≡ after (p ts) (length ts - 1)
  first-turn [] e = absurd cc
  first-turn (t ∷ ts) e = let l : length ts ≡ length (t ∷ ts) - 1 = omega arith in rw e (ap (λ (k : ℕ). after (p (t ∷ ts)) k) l)

  pub loop_ends : (items : List A) (ts : Tokens) → starts test ts ≡ false → resumed items (loop test p ts) ≡ Ok (items, ts)
  loop_ends items [] e = rw append-nil refl
  loop_ends items (t ∷ ts) e = rw e (rw append-nil refl)

  pub loop_halts : (items : List A) (ts : Tokens) (h : Halt) → starts test ts ≡ true → p ts ≡ Err h → resumed items (loop test p ts) ≡ Err h
  loop_halts items ts h e q = rw (first-turn ts e) (rw q refl)

  pub loop_goes_on : (items : List A) (ts : Tokens) (a : A) (rest : Tokens) → starts test ts ≡ true → p ts ≡ Ok (a, rest) → resumed items (loop test p ts) ≡ resumed (items ++ a ∷ []) (loop test p rest)
  loop_goes_on items ts a rest e q = rw (first-turn ts e) (rw q (rw same (go (loop test p rest))))
    where
      same : turns test p (length ts - 1) rest ≡ loop test p rest
      same = let less = shrinks ts a rest q in enough (length ts - 1) (length rest) rest (omega arith) (omega arith)

      go : (o : Outcome (List A)) → resumed items (and_then o (λ more end. Ok (a ∷ more, end))) ≡ resumed (items ++ a ∷ []) o
      go (Err x) = refl
      go (Ok (more, end)) = ap (λ (z : List A). Ok (z, end)) (sym (append_assoc items (a ∷ []) more))

-- ---- the readers of the next level

pub next_expr : (n : ℕ) → 0 < n → (expr_readers n).expr ≡ read_expr (n - 1) (expr_readers (n - 1))
next_expr zero l = absurd (omega arith)
next_expr (suc n) l = let e : n ≡ suc n - 1 = omega arith in rw (← e) refl

pub next_negation : (n : ℕ) → 0 < n → (expr_readers n).negation ≡ read_negation (n - 1) (expr_readers (n - 1))
next_negation zero l = absurd (omega arith)
next_negation (suc n) l = let e : n ≡ suc n - 1 = omega arith in rw (← e) refl

pub next_member : (n : ℕ) → 0 < n → (expr_readers n).member ≡ read_member (n - 1) (expr_readers (n - 1))
next_member zero l = absurd (omega arith)
next_member (suc n) l = let e : n ≡ suc n - 1 = omega arith in rw (← e) refl

pub next_type : (n : ℕ) → 0 < n → (type_readers n).type ≡ read_type (n - 1) (type_readers (n - 1))
next_type zero l = absurd (omega arith)
next_type (suc n) l = let e : n ≡ suc n - 1 = omega arith in rw (← e) refl

pub next_field : (n : ℕ) → 0 < n → (type_readers n).field ≡ read_field (n - 1) (type_readers (n - 1))
next_field zero l = absurd (omega arith)
next_field (suc n) l = let e : n ≡ suc n - 1 = omega arith in rw (← e) refl

pub next_path : (n : ℕ) → 0 < n → (stmt_readers n).path ≡ read_path (n - 1) (expr_readers (n - 1))
next_path zero l = absurd (omega arith)
next_path (suc n) l = let e : n ≡ suc n - 1 = omega arith in rw (← e) refl

pub next_condition : (n : ℕ) → 0 < n → (stmt_readers n).condition ≡ read_condition (n - 1) (expr_readers (n - 1))
next_condition zero l = absurd (omega arith)
next_condition (suc n) l = let e : n ≡ suc n - 1 = omega arith in rw (← e) refl

pub next_binder : (n : ℕ) → 0 < n → (stmt_readers n).binder ≡ read_binder (n - 1)
next_binder zero l = absurd (omega arith)
next_binder (suc n) l = let e : n ≡ suc n - 1 = omega arith in rw (← e) refl

pub next_stmt : (n : ℕ) → 0 < n → (stmt_readers n).stmt ≡ read_stmt (n - 1) (stmt_readers (n - 1))
next_stmt zero l = absurd (omega arith)
next_stmt (suc n) l = let e : n ≡ suc n - 1 = omega arith in rw (← e) refl

pub next_arms : (n : ℕ) → 0 < n → (stmt_readers n).arms ≡ read_arms (n - 1) (stmt_readers (n - 1))
next_arms zero l = absurd (omega arith)
next_arms (suc n) l = let e : n ≡ suc n - 1 = omega arith in rw (← e) refl

pub next_turns : (n : ℕ) → 0 < n → (stmt_readers n).turns ≡ read_turns (n - 1)
next_turns zero l = absurd (omega arith)
next_turns (suc n) l = let e : n ≡ suc n - 1 = omega arith in rw (← e) refl

pub next_ref : (n : ℕ) → 0 < n → (item_readers n).ref ≡ read_used (n - 1)
next_ref zero l = absurd (omega arith)
next_ref (suc n) l = let e : n ≡ suc n - 1 = omega arith in rw (← e) refl

pub next_item : (n : ℕ) → 0 < n → (item_readers n).item ≡ read_item (n - 1) (item_readers (n - 1))
next_item zero l = absurd (omega arith)
next_item (suc n) l = let e : n ≡ suc n - 1 = omega arith in rw (← e) refl

pub next_body : (n : ℕ) → 0 < n → (item_readers n).body ≡ read_body (n - 1) (item_readers (n - 1))
next_body zero l = absurd (omega arith)
next_body (suc n) l = let e : n ≡ suc n - 1 = omega arith in rw (← e) refl

-- ---- a level

-- a token that opens a level, and then what stands in it
pub open_then : {X A : Type 0} (read : Token → Option X) (n : ℕ) (f : X → Parser A) (ts : Tokens) → take_open read n f ts ≡ and_then (take_open read n (λ x. pure x) ts) f
open_then {X = X} read n f [] = refl
open_then {X = X} read n f (t ∷ ts) = go (read t) n
  where
    go : (o : Option X) (n : ℕ) → opened o n (t ∷ ts) f ts ≡ and_then (opened o n (t ∷ ts) (λ x. pure x) ts) f
    go None n = refl
    go (Some x) zero = refl
    go (Some x) (suc n) = refl
