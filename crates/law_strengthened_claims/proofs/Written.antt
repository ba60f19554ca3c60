-- The tokens that stand in place of a claim's expression spell the strengthened expression.
use Rattle.std.proofs.Common.{◌≡◌, ◌+◌, ℕ, suc, [], ◌∷◌, ◌++◌, inl, inr, refl, sym, ap, ◌∙◌, arith}
use Rattle.smv_core.specs.Values.{Name}
use Rattle.smv_core.specs.declared.token.Token.{Token}
use Rattle.smv_core.specs.declared.token.TokenKind.{TokenKind}
use Rattle.smv_core.specs.declared.token.TokenKind.TheVariants.{Ident}
use Rattle.smv_core.specs.declared.tree.Op.TheVariants as op
use Rattle.smv_core.specs.declared.tree.TypeExpr.TheVariants as type
use Rattle.smv_core.specs.declared.tree.Expr.{Expr}
use Rattle.smv_core.specs.declared.tree.Expr.TheVariants as expr
use Rattle.smv_core.specs.Signs.{open_paren, close_paren, open_bracket, close_bracket, colon, less, ampersand, arrow, word_in}
use Rattle.smv_core.specs.Notation.{Tokens}
use Rattle.smv_core.specs.Grammar as g
use Rattle.law_grammar.specs.Laws.{SpellsExpr}
use Rattle.law_grammar.proofs.Expressions.{At, name-prim}
use Rattle.law_places.specs.Placeless.{placeless}
use Rattle.law_spelled_alike.specs.Local.{kinds_of}
use Rattle.law_spelled_alike.proofs.Combining.{kinds-append}
use Rattle.law_spelled_alike.proofs.Alike.{spelled-alike}
use Rattle.law_exchanged.proofs.Before.{spelled-before, more-levels}
use Rattle.law_induction.specs.Renamed.{renamed}
use Rattle.law_induction.specs.Strengthened.{word_of, variable, stronger}
use Rattle.law_strengthened_claims.specs.Replacement.{written}
use Rattle.law_strengthened_claims.proofs.Joined.{strong, placeless-put, placeless-stronger}

abbrev zeros : ℕ → ℕ
zeros at = 0

abbrev tk : TokenKind → Token
tk kind = record { kind = kind; at = 0 }

-- a primary as what stands between two arrows, and as what is compared
prim-modulo : (m : ℕ) (ts : Tokens) (x : Expr) (rest : Tokens) → At g.prim zeros m ts x rest → At g.modulo zeros m ts x rest
prim-modulo m ts x rest h = (x, rest, (x, rest, h, ([], rest, refl, (refl, refl))), inr (refl, refl))

comparison-disjunction : (m : ℕ) (ts : Tokens) (x : Expr) (rest : Tokens) → At g.comparison zeros m ts x rest → At g.disjunction zeros m ts x rest
comparison-disjunction m ts x rest h = (x, rest, (x, rest, inr h, ([], rest, refl, (refl, refl))), ([], rest, refl, (refl, refl)))

prim-disjunction : (m : ℕ) (ts : Tokens) (x : Expr) (rest : Tokens) → At g.prim zeros m ts x rest → At g.disjunction zeros m ts x rest
prim-disjunction m ts x rest h = comparison-disjunction m ts x rest (x, rest, prim-modulo m ts x rest h, inr (inr (refl, refl)))

-- one arrow
arrow-expr : (m : ℕ) (ts : Tokens) (a b : Expr) (middle rest : Tokens) → At g.disjunction zeros m ts a (tk arrow ∷ middle) → At g.disjunction zeros m middle b rest → At g.expr_rule zeros m ts (expr.Implies (a ∷ b ∷ [])) rest
arrow-expr m ts a b middle rest h k =
    let x = expr.Implies (a ∷ b ∷ []) in
    (x, rest, (x, rest, (a, tk arrow ∷ middle, h, (b ∷ [], rest, (rest, (0, middle, (refl, refl), k), refl), (refl, refl))), inr (refl, refl)), inr (refl, refl))

-- ( e )
in-parentheses : (m : ℕ) (ts : Tokens) (x : Expr) (rest : Tokens) → SpellsExpr m ts x → At g.prim zeros (suc m) (tk open_paren ∷ ts ++ (tk close_paren ∷ rest)) x rest
in-parentheses m ts x rest h =
    inr (inr (inl (
      0,
      ts ++ (tk close_paren ∷ rest),
      (0, ts ++ (tk close_paren ∷ rest), (refl, refl), (tt, ts ++ (tk close_paren ∷ rest), (omega arith, (refl, refl)), (refl, refl))),
      (x, tk close_paren ∷ rest, spelled-before m m (omega arith) ts x h (tk close_paren ∷ rest), (0, rest, (refl, refl), (refl, refl))),
    )))

module _ (var fresh set : Name) where
  -- v < VAR
  smaller-spelled : (m : ℕ) (rest : Tokens) → At g.disjunction zeros m (tk (Ident fresh) ∷ tk less ∷ tk (Ident var) ∷ rest) (expr.Compare op.Less (variable fresh) (variable var)) rest
  smaller-spelled m rest = comparison-disjunction m (tk (Ident fresh) ∷ tk less ∷ tk (Ident var) ∷ rest) (expr.Compare op.Less (variable fresh) (variable var)) rest (
    variable fresh,
    tk less ∷ tk (Ident var) ∷ rest,
    prim-modulo m (tk (Ident fresh) ∷ tk less ∷ tk (Ident var) ∷ rest) (variable fresh) (tk less ∷ tk (Ident var) ∷ rest) (name-prim zeros m (tk (Ident fresh)) (word_of fresh) (tk less ∷ tk (Ident var) ∷ rest) refl),
    inl ((op.Less, 0), tk (Ident var) ∷ rest, (refl, refl), (variable var, rest, prim-modulo m (tk (Ident var) ∷ rest) (variable var) rest (name-prim zeros m (tk (Ident var)) (word_of var) rest refl), (refl, refl))),
  )

  -- & [ v < VAR -> ( E2 ) : v in T ]
  abbrev for_smaller_tokens : Tokens → Tokens → Tokens
  for_smaller_tokens s rest =
      tk ampersand ∷ tk open_bracket ∷ tk (Ident fresh) ∷ tk less ∷ tk (Ident var) ∷ tk arrow ∷ tk open_paren ∷ s ++ (tk close_paren ∷ tk colon ∷ tk (Ident fresh) ∷ tk word_in ∷ tk (Ident set) ∷ tk close_bracket ∷ rest)

  abbrev for_smaller_of : Expr → Expr
  for_smaller_of e2 = expr.All (expr.Implies (expr.Compare op.Less (variable fresh) (variable var) ∷ e2 ∷ [])) (word_of fresh) (type.Named (word_of set) 0) 0

  for_smaller-spelled : (n : ℕ) (s : Tokens) (e2 : Expr) (rest : Tokens) → SpellsExpr n s e2 → At g.prim zeros (suc (suc n)) (for_smaller_tokens s rest) (for_smaller_of e2) rest
  for_smaller-spelled n s e2 rest h =
      let behind : Tokens = tk colon ∷ tk (Ident fresh) ∷ tk word_in ∷ tk (Ident set) ∷ tk close_bracket ∷ rest in
      let inside : Tokens = tk open_paren ∷ s ++ (tk close_paren ∷ behind) in
      let body = arrow-expr (suc n) (tk (Ident fresh) ∷ tk less ∷ tk (Ident var) ∷ tk arrow ∷ inside) (expr.Compare op.Less (variable fresh) (variable var)) e2 inside behind
      (smaller-spelled (suc n) (tk arrow ∷ inside)) (prim-disjunction (suc n) inside e2 behind (in-parentheses n s e2 behind h))
      in
      inr (inr (inr (inr (
        (expr.All, 0),
        tk open_bracket ∷ tk (Ident fresh) ∷ tk less ∷ tk (Ident var) ∷ tk arrow ∷ inside,
        (refl, refl),
        (
          0,
          tk (Ident fresh) ∷ tk less ∷ tk (Ident var) ∷ tk arrow ∷ inside,
          (0, tk (Ident fresh) ∷ tk less ∷ tk (Ident var) ∷ tk arrow ∷ inside, (refl, refl), (tt, tk (Ident fresh) ∷ tk less ∷ tk (Ident var) ∷ tk arrow ∷ inside, (omega arith, (refl, refl)), (refl, refl))),
          (
            expr.Implies (expr.Compare op.Less (variable fresh) (variable var) ∷ e2 ∷ []),
            behind,
            body,
            (
              0,
              tk (Ident fresh) ∷ tk word_in ∷ tk (Ident set) ∷ tk close_bracket ∷ rest,
              (refl, refl),
              (
                word_of fresh,
                tk word_in ∷ tk (Ident set) ∷ tk close_bracket ∷ rest,
                (refl, refl),
                (
                  0,
                  tk (Ident set) ∷ tk close_bracket ∷ rest,
                  (refl, refl),
                  (
                    type.Named (word_of set) 0,
                    tk close_bracket ∷ rest,
                    inr (inr (word_of set, tk close_bracket ∷ rest, (refl, refl), (refl, refl))),
                    (0, rest, (refl, refl), (refl, refl)),
                  ),
                ),
              ),
            ),
          ),
        ),
      ))))

  -- and then -> ( E )
  pub stronger-spelled : (n : ℕ) (s t : Tokens) (e2 e : Expr) → SpellsExpr n s e2 → SpellsExpr n t e →
      SpellsExpr (suc (suc n)) (for_smaller_tokens s (tk arrow ∷ tk open_paren ∷ t ++ (tk close_paren ∷ []))) (expr.Implies (for_smaller_of e2 ∷ e ∷ []))
  stronger-spelled n s t e2 e h k =
      let ends : Tokens = tk open_paren ∷ t ++ (tk close_paren ∷ []) in
      arrow-expr (suc (suc n)) (for_smaller_tokens s (tk arrow ∷ ends)) (for_smaller_of e2) e ends []
      (prim-disjunction (suc (suc n)) (for_smaller_tokens s (tk arrow ∷ ends)) (for_smaller_of e2) (tk arrow ∷ ends) (for_smaller-spelled n s e2 (tk arrow ∷ ends) h))
      (prim-disjunction (suc (suc n)) ends e [] (in-parentheses (suc n) t e [] (more-levels n (suc n) (omega arith) t e k)))

kinds-whole : (var fresh set : Name) (s t : Tokens) → kinds_of (for_smaller_tokens var fresh set s (tk arrow ∷ tk open_paren ∷ t ++ (tk close_paren ∷ []))) ≡ written var fresh set (kinds_of s) (kinds_of t)
kinds-whole var fresh set s t =
    ap (λ l. ampersand ∷ open_bracket ∷ Ident fresh ∷ less ∷ Ident var ∷ arrow ∷ open_paren ∷ l)
    (kinds-append s (tk close_paren ∷ tk colon ∷ tk (Ident fresh) ∷ tk word_in ∷ tk (Ident set) ∷ tk close_bracket ∷ tk arrow ∷ tk open_paren ∷ t ++ (tk close_paren ∷ []))
    ∙ ap (λ l. kinds_of s ++ (close_paren ∷ colon ∷ Ident fresh ∷ word_in ∷ Ident set ∷ close_bracket ∷ arrow ∷ open_paren ∷ l)) (kinds-append t (tk close_paren ∷ [])))

pub written-spells : (n : ℕ) (var fresh set : Name) (s t us : Tokens) (e2 e : Expr) → SpellsExpr n s e2 → SpellsExpr n t e → placeless e2 ≡ placeless (renamed var fresh e) → kinds_of us ≡ written var fresh set (kinds_of s) (kinds_of t) →
    (y : Expr) × SpellsExpr (n + 2) us y × (placeless y ≡ placeless (stronger var fresh set e))
written-spells n var fresh set s t us e2 e h k same kinds =
    let v = spelled-alike (suc (suc n)) (n + 2) (omega arith) (for_smaller_tokens var fresh set s (tk arrow ∷ tk open_paren ∷ t ++ (tk close_paren ∷ []))) us (expr.Implies (for_smaller_of var fresh set e2 ∷ e ∷ [])) (stronger-spelled var fresh set n s t e2 e h k) (kinds ∙ sym (kinds-whole var fresh set s t)) in
    (v.0, v.1, sym v.2 ∙ placeless-put var fresh set e2 e ∙ ap (λ r. strong var fresh set r (placeless e)) same ∙ sym (placeless-stronger var fresh set e))
