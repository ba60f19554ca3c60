-- Parts of a path, and which of them are names in brackets.
use Rattle.std.proofs.Common.{◌≡◌, ◌<◌, ℕ, zero, suc, Bool, true, false, ◌||◌, cond, List, [], ◌∷◌, ◌++◌, length, length-append, Option, Some, None, Ok, ◌⊎◌, inl, inr, refl, sym, ◌∙◌, ap, subst, arith}
use Rattle.smv_core.specs.declared.token.Token.{Token}
use Rattle.smv_core.specs.declared.tree.Word.{Word}
use Rattle.smv_core.specs.declared.tree.Expr.{Expr}
use Rattle.smv_core.specs.declared.tree.Expr.TheVariants as expr
use Rattle.smv_core.specs.declared.tree.Part.{Part}
use Rattle.smv_core.specs.declared.tree.Part.TheVariants as part
use Rattle.smv_core.specs.Signs.{open_bracket, close_bracket, dot}
use Rattle.smv_core.specs.Notation.{Tokens, nothing, ◌>>=◌, ◌>>◌, ◌<|>◌, many, token, name, same_kind}
use Rattle.smv_core.specs.Grammar as g
use Rattle.smv_core.specs.Grammar.{below, named}
use Rattle.law_grammar.specs.Parsing.{starts}
use Rattle.law_grammar.specs.Lawful.{Levels, first, Reads, IsDeep, Lawful}
use Rattle.law_grammar.specs.Marks.{exactly, begins, stops_by}
use Rattle.law_grammar.specs.Readers.{a_name}
use Rattle.law_grammar.specs.Expressions.{expr_marks, read_expr, expr_readers}
use Rattle.law_grammar.specs.Items.{MarkedPart, name_alone, parts_of, put_before, vars_of, vars_of_some}
use Rattle.law_grammar.specs.Items as p
use Rattle.law_grammar.proofs.Lists.{same_ok}
use Rattle.law_grammar.proofs.Tokens.{nothing-lawful}
use Rattle.law_grammar.proofs.Marks.{stops-starts}
use Rattle.law_grammar.proofs.Forms.{Begins, begins-then, begins-either, begins-wider, token-begins, opener-begins, token-lawful, level, name-lawful, closed, next, alternative, ended}
use Rattle.law_grammar.proofs.Noted.{noted, noted-lawful}
use Rattle.law_grammar.proofs.Expressions.{At, after_path, after_expr, expr-begins, prim-expr, name-prim, inner-laws, expressions}

-- ---- expressions

-- no tokens are no expression
pub no-expr : (floor : ℕ → ℕ) (m : ℕ) (x : Expr) (rest : Tokens) → At g.expr_rule floor m [] x rest → ⊥
no-expr floor m x rest h = let e : starts (begins expr_marks) [] ≡ true = expr-begins.holds floor m [] x rest h in cc

-- with as many levels as the rule has, it is read
expr-read : (floor : ℕ → ℕ) (m : ℕ) (ts : Tokens) (x : Expr) (rest : Tokens) → At g.expr_rule floor m ts x rest → stops_by (λ (x : Expr). after_expr) x (first rest) ≡ true → read_expr m (expr_readers m) ts ≡ Ok (x, rest)
expr-read floor m ts x rest h stop = go (((expressions m).law tt).complete floor m ts x rest h stop)
  where
    go : (read_expr m (expr_readers m) ts ≡ Ok (x, rest)) ⊎ IsDeep m floor m (read_expr m (expr_readers m) ts) → read_expr m (expr_readers m) ts ≡ Ok (x, rest)
    go (inl e) = e
    go (inr d) = absurd (let l = d.forbidden in omega arith)

-- an expression takes a token
expr-takes : (floor : ℕ → ℕ) (m : ℕ) (ts : Tokens) (x : Expr) (rest : Tokens) → At g.expr_rule floor m ts x rest → stops_by (λ (x : Expr). after_expr) x (first rest) ≡ true → length rest < length ts
expr-takes floor m ts x rest h stop = go (((expressions m).law tt).reads ts x rest (expr-read floor m ts x rest h stop))
  where
    by : (front : Tokens) → ts ≡ front ++ rest → At g.expr_rule (λ i. 0) m (front ++ []) x [] → length rest < length ts
    by [] split h = absurd (no-expr (λ i. 0) m x [] h)
    by (t ∷ front) split h = rw split (rw length-append (omega arith))

    go : Reads (At g.expr_rule) m (read_expr m (expr_readers m)) ts x rest → length rest < length ts
    go u = by u.front u.split (u.spelled (λ i. 0) m (λ i. omega arith) [])

-- two expressions at the same tokens are the same
expr-same : (floor : ℕ → ℕ) (m : ℕ) (ts : Tokens) (x y : Expr) (r s : Tokens) → At g.expr_rule floor m ts x r → stops_by (λ (x : Expr). after_expr) x (first r) ≡ true
    → At g.expr_rule floor m ts y s → stops_by (λ (x : Expr). after_expr) y (first s) ≡ true → (x ≡ y) × (r ≡ s)
expr-same floor m ts x y r s h e k q = same_ok x y r s _ (expr-read floor m ts x r h e) (expr-read floor m ts y s k q)

-- ---- one part

-- an index and its bracket
abbrev pub index_tail : Levels Part
index_tail floor m = At g.expr_rule floor m >>= λ x. token close_bracket >> nothing (part.At x)

-- a part of a path, and the name that it is in brackets, where it is one
abbrev pub marked : Levels MarkedPart
marked floor m = (token dot >> name >>= λ x. nothing (part.Field x, None))
    <|> (g.opening floor m (below floor m) open_bracket >> noted name_alone ((below floor m).expr >>= λ x. token close_bracket >> nothing (part.At x)))

closes : (ts : Tokens) (at : ℕ) (rest : Tokens) (x : Expr) → token close_bracket ts at rest → stops_by (λ (x : Expr). after_expr) x (first ts) ≡ true
closes ts at rest x h = stops-starts (λ (x : Expr). after_expr) x (exactly close_bracket ∷ []) ts refl ((token-begins close_bracket).holds (λ i. 0) 0 ts at rest h)

name-steady : (floor : ℕ → ℕ) (m : ℕ) (front : Tokens) (a : Part) → index_tail floor m (front ++ []) a [] → (z : Tokens) → name_alone (front ++ z) ≡ name_alone front
name-steady floor m [] a h z = absurd (no-expr floor m h.0 h.1 h.2)
name-steady floor m (t ∷ []) a h z = absurd (go h.1 h.2 h.3.2)
  where
    go : (middle : Tokens) → At g.expr_rule floor m (t ∷ []) h.0 middle → token close_bracket middle h.3.0 h.3.1 → ⊥
    go [] x c = c
    go (u ∷ middle) x c = let l = expr-takes floor m (t ∷ []) h.0 (u ∷ middle) x (closes (u ∷ middle) h.3.0 h.3.1 h.0 c) in omega arith
name-steady floor m (t ∷ u ∷ front) a h z = refl

pub marked-begins : Begins after_path marked
marked-begins = begins-either (begins-wider (exactly dot ∷ []) _ refl (begins-then (token-begins dot))) (begins-wider (exactly open_bracket ∷ []) _ refl (begins-then (opener-begins open_bracket)))

pub marked-lawful : {C : Type 0} (n : ℕ) → Lawful C marked n (p.read_marked n) (stops_by closed)
unfolding p.read_marked
marked-lawful n = alternative (exactly dot ∷ []) (exactly open_bracket ∷ []) (next (token-lawful dot refl) (λ _. next name-lawful (λ x. nothing-lawful _)))
    (level open_bracket refl (λ _. noted-lawful {st = stops_by closed} name_alone name-steady (ended after_expr close_bracket part.At refl refl (inner-laws n).expr)))
    (begins-then (token-begins dot)) (begins-then (opener-begins open_bracket)) refl

-- ---- parts with and without what is seen of them

marked-part : (floor : ℕ → ℕ) (m : ℕ) (ts : Tokens) (v : MarkedPart) (rest : Tokens) → marked floor m ts v rest → At g.part_rule floor m ts v.0 rest
marked-part floor m ts v rest (inl h) = let f : MarkedPart → Part = λ u. u.0 in inl (h.0, h.1, h.2, (h.3.0, h.3.1, h.3.2, (ap f h.3.3.0, h.3.3.1)))
marked-part floor m ts v rest (inr h) = inr (h.0, h.1, h.2, h.3.0)

part-marked : (floor : ℕ → ℕ) (m : ℕ) (ts : Tokens) (a : Part) (rest : Tokens) → At g.part_rule floor m ts a rest → (o : Option Word) × marked floor m ts (a, o) rest
part-marked floor m ts a rest (inl h) = let f : Part → MarkedPart = λ u. (u, None) in (None, inl (h.0, h.1, h.2, (h.3.0, h.3.1, h.3.2, (ap f h.3.3.0, h.3.3.1))))
part-marked floor m ts a rest (inr h) = (name_alone h.1, inr (h.0, h.1, h.2, (h.3, refl)))

is-close : (u : Token) (ts : Tokens) (at : ℕ) (rest : Tokens) → token close_bracket (u ∷ ts) at rest → same_kind u.kind close_bracket ≡ true
is-close u ts at rest h = go (same_kind u.kind close_bracket) refl ((token-begins close_bracket).holds (λ i. 0) 0 (u ∷ ts) at rest h)
  where
    go : (b : Bool) → same_kind u.kind close_bracket ≡ b → (b || false) ≡ true → same_kind u.kind close_bracket ≡ true
    go true q e = q
    go false q e = absurd cc

is-alone : (ts middle : Tokens) (x : Word) (at : ℕ) (rest : Tokens) → name ts x middle → token close_bracket middle at rest → name_alone ts ≡ Some x
is-alone [] middle x at rest h c = absurd h
is-alone (t ∷ ts) [] x at rest h c = absurd c
is-alone (t ∷ ts) (u ∷ middle) x at rest h c =
    let e = is-close u middle at rest c in
    let P : Tokens → Type 0 = λ z. name_alone (t ∷ z) ≡ Some x in
    subst P (sym h.1) (rw e h.0)

name-expr : (floor : ℕ → ℕ) (m : ℕ) (ts : Tokens) (x : Word) (rest : Tokens) → name ts x rest → At g.expr_rule floor m ts (expr.Signal (named x [])) rest
name-expr floor m [] x rest h = absurd h
name-expr floor m (t ∷ ts) x rest h =
    let P : Tokens → Type 0 = λ z. At g.expr_rule floor m (t ∷ z) (expr.Signal (named x [])) rest in
    subst P (sym h.1) (prim-expr floor m (t ∷ rest) (expr.Signal (named x [])) rest (name-prim floor m t x rest h.0))

bracket-marked : (floor : ℕ → ℕ) (m : ℕ) (ts : Tokens) (x : Word) (rest : Tokens) → At g.in_brackets floor m ts x rest → marked floor m ts (part.At (expr.Signal (named x [])), Some x) rest
bracket-marked floor zero ts x rest h = absurd (let l = h.2.3.2.0 in omega arith)
bracket-marked floor (suc k) ts x rest h =
    let i = h.3 in
    let e : i.0 ≡ x = i.3.3.0 in
    let f : Word → Part = λ w. part.At (expr.Signal (named w [])) in
    inr (
      h.0,
      h.1,
      h.2,
      (
        (expr.Signal (named i.0 []), i.1, name-expr floor k h.1 i.0 i.1 i.2, (i.3.0, i.3.1, i.3.2, (ap f e, i.3.3.1))),
        sym (is-alone h.1 i.1 i.0 i.3.0 i.3.1 i.2 i.3.2 ∙ ap Some e),
      ),
    )

marked-bracket : (floor : ℕ → ℕ) (m : ℕ) (ts : Tokens) (v : MarkedPart) (x : Word) (rest : Tokens) → v.1 ≡ Some x → marked floor m ts v rest → At g.in_brackets floor m ts x rest
marked-bracket floor m ts v x rest s (inl h) = absurd (let f : MarkedPart → Option Word = λ u. u.1 in let e : None ≡ v.1 = ap f h.3.3.0 in let q : None ≡ Some x = e ∙ s in cc)
marked-bracket floor zero ts v x rest s (inr h) = absurd (let l = h.2.3.2.0 in omega arith)
marked-bracket floor (suc k) ts v x rest s (inr h) = go h.1 h.2 h.3.0 (sym h.3.1 ∙ s)
  where
    go : (ms : Tokens) → g.opening floor (suc k) (below floor (suc k)) open_bracket ts h.0 ms → index_tail floor k ms v.0 rest → name_alone ms ≡ Some x → At g.in_brackets floor (suc k) ts x rest
    go [] o i e = absurd cc
    go (t ∷ []) o i e = absurd cc
    go (t ∷ u ∷ ms) o i e = by (same_kind u.kind close_bracket) refl e
      where
        by : (b : Bool) → same_kind u.kind close_bracket ≡ b → cond b (a_name t) None ≡ Some x → At g.in_brackets floor (suc k) ts x rest
        by false q e = absurd cc
        by true q e =
            let c : token close_bracket (u ∷ ms) u.at ms = (rw q refl, refl) in
            let same = expr-same floor k (t ∷ u ∷ ms) i.0 (expr.Signal (named x [])) i.1 (u ∷ ms) i.2 (closes i.1 i.3.0 i.3.1 i.0 i.3.2)
            (name-expr floor k (t ∷ u ∷ ms) x (u ∷ ms) (e, refl)) (closes (u ∷ ms) u.at ms (expr.Signal (named x [])) c) in
            let P : Tokens → Type 0 = λ z. token close_bracket z i.3.0 i.3.1 in
            (h.0, t ∷ u ∷ ms, o, (x, u ∷ ms, (e, refl), (i.3.0, i.3.1, subst P same.1 i.3.2, (refl, i.3.3.1))))

-- ---- any number of parts

pub marked-parts : (floor : ℕ → ℕ) (m : ℕ) (ts : Tokens) (ms : List MarkedPart) (rest : Tokens) → many (marked floor m) ts ms rest → many (At g.part_rule floor m) ts (parts_of ms) rest
marked-parts floor m ts [] rest h = h
marked-parts floor m ts (u ∷ ms) rest h = (h.0, marked-part floor m ts u h.0 h.1, marked-parts floor m h.0 ms rest h.2)

-- parts of a path, with what is seen of them
pub record Parts (floor : ℕ → ℕ) (m : ℕ) (ts : Tokens) (ps : List Part) (rest : Tokens) : Type 0 where
  pub items : List MarkedPart
  pub same : parts_of items ≡ ps
  pub spelled : many (marked floor m) ts items rest

pub parts-marked : (floor : ℕ → ℕ) (m : ℕ) (ts : Tokens) (ps : List Part) (rest : Tokens) → many (At g.part_rule floor m) ts ps rest → Parts floor m ts ps rest
parts-marked floor m ts [] rest h = record { items = []; same = refl; spelled = h }
parts-marked floor m ts (a ∷ ps) rest h =
    let u = part-marked floor m ts a h.0 h.1 in
    let x = parts-marked floor m h.0 ps rest h.2 in
    record { items = (a, u.0) ∷ x.items; same = ap (λ (z : List Part). a ∷ z) x.same; spelled = (h.0, u.1, x.spelled) }

-- names in brackets, as parts of a path
pub record Vars (floor : ℕ → ℕ) (m : ℕ) (ts : Tokens) (vs : List Word) (rest : Tokens) : Type 0 where
  pub items : List MarkedPart
  pub same : vars_of items ≡ Some vs
  pub spelled : many (marked floor m) ts items rest

pub brackets-marked : (floor : ℕ → ℕ) (m : ℕ) (ts : Tokens) (vs : List Word) (rest : Tokens) → many (At g.in_brackets floor m) ts vs rest → Vars floor m ts vs rest
brackets-marked floor m ts [] rest h = record { items = []; same = refl; spelled = h }
brackets-marked floor m ts (v ∷ vs) rest h =
    let u = bracket-marked floor m ts v h.0 h.1 in
    let x = brackets-marked floor m h.0 vs rest h.2 in
    let e = x.same in
    record { items = (part.At (expr.Signal (named v [])), Some v) ∷ x.items; same = rw e refl; spelled = (h.0, u, x.spelled) }

put-both : (a : Option Word) (b : Option (List Word)) (vs : List Word) → put_before a b ≡ Some vs → (x : Word) × (xs : List Word) × (a ≡ Some x) × (b ≡ Some xs) × (x ∷ xs ≡ vs)
put-both None b vs e = absurd cc
put-both (Some x) None vs e = absurd cc
put-both (Some x) (Some xs) vs e = (x, xs, refl, refl, cc)

pub marked-brackets : (floor : ℕ → ℕ) (m : ℕ) (ts : Tokens) (ms : List MarkedPart) (vs : List Word) (rest : Tokens) → vars_of ms ≡ Some vs → many (marked floor m) ts ms rest → many (At g.in_brackets floor m) ts vs rest
marked-brackets floor m ts [] vs rest e h =
    let q : [] ≡ vs = cc in
    let P : List Word → Type 0 = λ z. many (At g.in_brackets floor m) ts z rest in
    subst P q h
marked-brackets floor m ts (u ∷ ms) vs rest e h =
    let x = put-both u.1 (vars_of ms) vs e in
    let P : List Word → Type 0 = λ z. many (At g.in_brackets floor m) ts z rest in
    subst P x.4 (h.0, marked-bracket floor m ts u x.0 h.0 x.2 h.1, marked-brackets floor m h.0 ms x.1 rest x.3 h.2)

-- where there is a name, there is a part
pub some-vars : (ms : List MarkedPart) (v : Word) (vs : List Word) → vars_of ms ≡ Some (v ∷ vs) → vars_of_some ms ≡ Some (v ∷ vs)
some-vars [] v vs e = absurd cc
some-vars (u ∷ ms) v vs e = e

pub vars-some : (ms : List MarkedPart) (vs : List Word) → vars_of_some ms ≡ Some vs → vars_of ms ≡ Some vs
vars-some [] vs e = absurd cc
vars-some (u ∷ ms) vs e = e
