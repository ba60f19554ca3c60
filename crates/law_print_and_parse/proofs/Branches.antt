-- What the rules of statements spell within any number of levels is spelled again.
use Rattle.std.proofs.Common.{◌≡◌, ℕ, zero, suc, ◌<◌, Bool, true, false, if◌then◌else◌, List, [], ◌∷◌, ◌++◌, Option, Some, None, map, inl, inr, refl, ap, sym, ◌∙◌, subst, append_assoc, arith}
use Rattle.std.specs.List.{flat_map}
use Rattle.std.specs.Option.{option_map}
use Rattle.smv_core.specs.declared.token.TokenKind.{TokenKind}
use Rattle.smv_core.specs.declared.token.TokenKind.TheVariants.{Number}
use Rattle.smv_core.specs.declared.tree.Word.{Word}
use Rattle.smv_core.specs.declared.tree.Expr.{Expr}
use Rattle.smv_core.specs.declared.tree.Stmt.{Stmt}
use Rattle.smv_core.specs.declared.tree.Stmt.TheVariants as stmt
use Rattle.smv_core.specs.declared.tree.Arm.{Arm, roll-Arm}
use Rattle.smv_core.specs.Signs.{open_paren, close_paren, open_brace, close_brace, colon, comma, less, at_most}
use Rattle.smv_core.specs.Signs as w
use Rattle.smv_core.specs.OpenIf.{ends_in_open_if}
use Rattle.smv_core.specs.Notation.{Tokens, Rule, optional, one_of, token, number, separated, positive, ◌>>◌}
use Rattle.smv_core.specs.Grammar as g
use Rattle.smv_core.specs.Grammar.{Turns}
use Rattle.smv_print.specs.Written.{Kinds}
use Rattle.smv_print.specs.Written as s
use Rattle.smv_print.specs.Expressions.{expr_kinds}
use Rattle.smv_print.specs.Statements.{stmt_kinds, arm_kinds, turns, otherwise, other_arm}
use Rattle.smv_print.proofs.StatementLaws as k
use Rattle.law_print_and_parse.specs.Aside.{word_aside, expr_aside, stmt_aside, arm_aside}
use Rattle.law_print_and_parse.proofs.AsideStatements as a
use Rattle.law_print_and_parse.proofs.Again.{Again, next, made, ended, left, right, regroup, sign, level, a-name, a-number, a-same-name, an-entry}
use Rattle.law_print_and_parse.proofs.Keeps.{Keeps, keeps-many, keeps-separated}
use Rattle.law_print_and_parse.proofs.Types.{word-same}
use Rattle.law_print_and_parse.proofs.Levels.{f, inner, SameExpr}
use Rattle.law_print_and_parse.proofs.Statements.{keeps-label, condition_kinds, keeps-condition, binder_aside, binder_kinds, keeps-binder, SameStmt, KeepsStmt}

-- ---- what stands inside an opened level

inner-condition : (n : ℕ) → Keeps (inner n).condition condition_kinds expr_aside
inner-condition zero ts z rest h = absurd h
inner-condition (suc n) ts z rest h = keeps-condition n ts z rest h

pub inner-binder : (n : ℕ) → Keeps (inner n).binder binder_kinds binder_aside
inner-binder zero ts z rest h = absurd h
inner-binder (suc n) ts z rest h = keeps-binder n ts z rest h

abbrev make : Word → ℕ → ℕ → Bool → ℕ → Turns
make x from to closed step = record { var = x; from = from; to = to; closed = closed; step = step }

abbrev pub turns_aside : Turns → Turns
turns_aside t = make (word_aside t.var) t.from t.to t.closed t.step

abbrev pub turns_kinds : Turns → Kinds
turns_kinds t = turns t.var.name t.from t.to t.closed t.step

a-positive : (value : ℕ) → 0 < value → Again positive (Number value ∷ []) (λ y. y ≡ value)
a-positive value some = record {
  run = λ us rest w h.
      let n : Again number (Number value ∷ []) (λ y. y.0 ≡ value) = a-number value in
      let y = n.run us rest w h in
      let e = y.2 in
      (y.0.0, (y.0, rest, y.1, (omega arith, (refl, refl))), e);
}

abbrev bounds : List (TokenKind × Bool)
bounds = (less, false) ∷ (at_most, true) ∷ []

bound-again : (closed : Bool) → Again (one_of bounds) ((if closed then at_most else less) ∷ []) (λ y. y.0 ≡ closed)
bound-again true = an-entry bounds refl
bound-again false = an-entry bounds refl

turns-same : (x y : Word) (from a to b : ℕ) (closed c : Bool) (step d : ℕ) → y.name ≡ x.name → a ≡ from → c ≡ closed → b ≡ to → d ≡ step → turns_aside (make y a b c d) ≡ turns_aside (make x from to closed step)
turns-same x y from a to b closed c step d e1 e2 e3 e4 e5 =
    ap (λ (z : Word). make z a b c d) (word-same x y e1) ∙ ap (λ (z : ℕ). make (word_aside x) z b c d) e2 ∙ ap (λ (z : Bool). make (word_aside x) from b z d) e3
    ∙ ap (λ (z : ℕ). make (word_aside x) from z closed d) e4 ∙ ap (λ (z : ℕ). make (word_aside x) from to closed z) e5

turns-again : (n : ℕ) (x : Word) (from to : ℕ) (closed : Bool) (step : ℕ) → 0 < n → 0 < step
    → Again (g.turns_rule f n (inner n)) (turns x.name from to closed step) (λ t. turns_aside t ≡ turns_aside (make x from to closed step))
turns-again n x from to closed step some least =
    level some refl (λ _. next (a-name x.name) (λ y p. sign refl (λ _. next (a-number from) (λ a d. sign refl (λ _. next (a-same-name x.name y p) (λ _ _. next (bound-again closed) (λ c q.
    next (a-number to) (λ b r. sign refl (λ _. next (a-same-name x.name y p) (λ _ _. sign refl (λ _. next (a-same-name x.name y p) (λ _ _. sign refl (λ _. next (a-positive step least) (λ s t.
    sign refl (λ _. ended (turns-same x y from a.0 to b.0 closed c.0 step s p d q r t))))))))))))))))

keeps-turns : (n : ℕ) → Keeps (g.turns_rule f n (inner n)) turns_kinds turns_aside
keeps-turns n ts z rest (at, m0, (a1, m1, ht, (u, m2, (some, q), e0)), (x, m3, h3, (a4, m4, h4, (from, m5, h5, (a6, m6, h6, (x7, m7, h7, (closed, m8, h8, (to, m9, h9, (a10, m10, h10, (x11, m11, h11, (a12, m12, h12, (x13, m13, h13, (a14, m14, h14, (step, m15, (k, m16, h16, (least, (same, r0))), (a17, m17, h17, (e, r)))))))))))))))) =
    let P : Turns → Type 0 = λ z. Again (g.turns_rule f n (inner n)) (turns_kinds z) (λ y. turns_aside y ≡ turns_aside z) in
    subst P e (turns-again n x from.0 to.0 closed.0 step some (omega arith))

pub inner-turns : (n : ℕ) → Keeps (inner n).turns turns_kinds turns_aside
inner-turns zero ts z rest h = absurd h
inner-turns (suc n) ts z rest h = keeps-turns n ts z rest h

-- ---- if

-- how a second branch ends
abbrev ends : Option Stmt → Bool
ends None = true
ends (Some y) = ends_in_open_if y

open-If : (c : Expr) (x : Stmt) (y : Option Stmt) (at : ℕ) → ends_in_open_if (stmt.If c x y at) ≡ ends y
open-If c x None at = a.open-If_without c x at
open-If c x (Some y) at = a.open-If_with c x y at

abbrev SameBranch : Option Stmt → Option Stmt → Type 0
SameBranch x y = (option_map stmt_aside y ≡ option_map stmt_aside x) × (ends y ≡ ends x)

-- the second branch is read again, and belongs to this `if`
abbrev BranchAgain : ℕ → Stmt → Option Stmt → Type 0
BranchAgain n x None = Unit {0}
BranchAgain n x (Some y) = (ends_in_open_if x ≡ false) × Again (inner n).stmt (stmt_kinds y) (SameStmt y)

branch-again : (n : ℕ) (x v : Stmt) (y : Option Stmt) → BranchAgain n x y → ends_in_open_if v ≡ ends_in_open_if x
    → Again (optional (g.otherwise f n (inner n) v)) (otherwise (option_map stmt_kinds y)) (SameBranch y)
branch-again n x v None h e = right (ended (refl, refl))
branch-again n x v (Some y) h e =
    let q : Again (token w.word_else >> (inner n).stmt) (w.word_else ∷ stmt_kinds y) (SameStmt y) = sign refl (λ _. h.1) in
    let one : Again (g.otherwise f n (inner n) v) (w.word_else ∷ stmt_kinds y) (SameStmt y) = record { run = λ us rest w k. let r = q.run us rest w k in (r.0, (e ∙ h.0, r.1), r.2) } in
    left (made one (λ z d. (ap (λ (s : Stmt). let o : Option Stmt = Some s in o) d.0, d.1)))

if-same : (c d : Expr) (x v : Stmt) (y z : Option Stmt) (at at' : ℕ) → SameExpr c d → SameStmt x v → SameBranch y z → SameStmt (stmt.If c x y at) (stmt.If d v z at')
if-same c d x v y z at at' p q r = (
  a.stmt-If d v z at' ∙ ap (λ (u : Expr). stmt.If u (stmt_aside v) (option_map stmt_aside z) 0) p ∙ ap (λ (u : Stmt). stmt.If (expr_aside c) u (option_map stmt_aside z) 0) q.0
      ∙ ap (λ (u : Option Stmt). stmt.If (expr_aside c) (stmt_aside x) u 0) r.0 ∙ sym (a.stmt-If c x y at),
  open-If d v z at' ∙ r.1 ∙ sym (open-If c x y at),
)

pub if-kinds : (c : Expr) (x : Stmt) (y : Option Stmt) (at : ℕ) → stmt_kinds (stmt.If c x y at) ≡ w.word_if ∷ condition_kinds c ++ (stmt_kinds x ++ otherwise (option_map stmt_kinds y))
if-kinds c x y at =
    k.stmt-If c x y at ∙ append_assoc (w.word_if ∷ open_paren ∷ expr_kinds c) (close_paren ∷ stmt_kinds x) (otherwise (option_map stmt_kinds y))
    ∙ sym (append_assoc (w.word_if ∷ open_paren ∷ expr_kinds c) (close_paren ∷ []) (stmt_kinds x ++ otherwise (option_map stmt_kinds y)))

if-again : (n : ℕ) (c : Expr) (x : Stmt) (y : Option Stmt) (at : ℕ) → 0 < n → Again (inner n).condition (condition_kinds c) (SameExpr c) → Again (inner n).stmt (stmt_kinds x) (SameStmt x) → BranchAgain n x y
    → Again (g.if_rule f n (inner n)) (stmt_kinds (stmt.If c x y at)) (SameStmt (stmt.If c x y at))
if-again n c x y at some h q r =
    regroup (sym (if-kinds c x y at)) (level some refl (λ at'. next h (λ d e. next q (λ v b. made (branch-again n x v y r b.1) (λ z t. if-same c d x v y z at at' e b t)))))

branch-from : (n : ℕ) → KeepsStmt (inner n).stmt → (x : Stmt) (ts : Tokens) (y : Option Stmt) (rest : Tokens) → optional (g.otherwise f n (inner n) x) ts y rest → BranchAgain n x y
branch-from n h x ts y rest (inl (z, mid, (ends, (at, after, ht, hs)), (e, r))) = subst (BranchAgain n x) e (ends, h after z mid hs)
branch-from n h x ts y rest (inr (e, r)) = subst (BranchAgain n x) e tt

pub if-kept : (n : ℕ) → KeepsStmt (inner n).stmt → KeepsStmt (g.if_rule f n (inner n))
if-kept n h ts z rest (at, m0, (a1, m1, ht, (u, m2, (some, q), e0)), (c, m3, hc, (x, m4, hx, (y, m5, hy, (e, r))))) =
    let P : Stmt → Type 0 = λ z. Again (g.if_rule f n (inner n)) (stmt_kinds z) (SameStmt z) in
    subst P e (if-again n c x y at some (inner-condition n m0 c m3 hc) (h m3 x m4 hx) (branch-from n h x m4 y m5 hy))

-- ---- switch

arm-again : (n : ℕ) (labels : List Expr) (body : Stmt) → Again (separated g.label) (s.separated comma (map expr_kinds labels)) (λ ys. map expr_aside ys ≡ map expr_aside labels)
    → Again (inner n).stmt (stmt_kinds body) (SameStmt body)
    → Again (g.arm f n (inner n)) (arm_kinds (roll-Arm (record { labels = labels; body = body }))) (λ y. arm_aside y ≡ arm_aside (roll-Arm (record { labels = labels; body = body })))
arm-again n labels body h q = regroup (sym (a.arm-rolled labels body)) (next h (λ ys d. sign refl (λ _. made q (λ v e.
    a.arm-aside ys v ∙ ap (λ (z : List Expr). roll-Arm (record { labels = z; body = stmt_aside v })) d ∙ ap (λ (z : Stmt). roll-Arm (record { labels = map expr_aside labels; body = z })) e.0
    ∙ sym (a.arm-aside labels body)))))

keeps-arm : (n : ℕ) → KeepsStmt (inner n).stmt → Keeps (g.arm f n (inner n)) arm_kinds arm_aside
keeps-arm n h ts z rest (labels, m0, hl, (a1, m1, h1, (body, m2, hb, (e, r)))) =
    let P : Arm → Type 0 = λ z. Again (g.arm f n (inner n)) (arm_kinds z) (λ y. arm_aside y ≡ arm_aside z) in
    subst P e (arm-again n labels body (keeps-separated {r = g.label} expr_kinds expr_aside keeps-label ts labels m0 hl) (h m1 body m2 hb))

abbrev pub Last : ℕ → Rule (Option Stmt)
Last n = optional (token w.word_default >> token colon >> (inner n).stmt)

keeps-last : (n : ℕ) → KeepsStmt (inner n).stmt → Keeps (Last n) (λ o. other_arm (option_map stmt_kinds o)) (option_map stmt_aside)
keeps-last n h ts z rest (inl (x, mid, (at, m0, ht, (at2, m1, hc, hx)), (e, r))) =
    let P : Option Stmt → Type 0 = λ z. Again (Last n) (other_arm (option_map stmt_kinds z)) (λ y. option_map stmt_aside y ≡ option_map stmt_aside z) in
    let q : Again (token w.word_default >> token colon >> (inner n).stmt) (w.word_default ∷ colon ∷ stmt_kinds x) (SameStmt x) = sign refl (λ _. sign refl (λ _. h m1 x mid hx)) in
    subst P e (left (made q (λ y d. ap (λ (s : Stmt). let o : Option Stmt = Some s in o) d.0)))
keeps-last n h ts z rest (inr (e, r)) =
    let P : Option Stmt → Type 0 = λ z. Again (Last n) (other_arm (option_map stmt_kinds z)) (λ y. option_map stmt_aside y ≡ option_map stmt_aside z) in
    subst P e (right (ended refl))

abbrev pub Arms : Type 0
Arms = List Arm × Option Stmt

abbrev pub arms_aside : Arms → Arms
arms_aside x = (map arm_aside x.0, option_map stmt_aside x.1)

abbrev pub arms_kinds : Arms → Kinds
arms_kinds x = open_brace ∷ flat_map arm_kinds x.0 ++ other_arm (option_map stmt_kinds x.1) ++ close_brace ∷ []

pub arms-kept : (n : ℕ) → KeepsStmt (inner n).stmt → Keeps (g.arms_rule f n (inner n)) arms_kinds arms_aside
arms-kept n h ts z rest (at, m0, (a1, m1, ht, (u, m2, (some, q), e0)), (arms, m3, ha, (last, m4, hl, (a5, m5, h5, (e, r))))) =
    let P : Arms → Type 0 = λ z. Again (g.arms_rule f n (inner n)) (arms_kinds z) (λ y. arms_aside y ≡ arms_aside z) in
    subst P e (regroup (sym (append_assoc (open_brace ∷ flat_map arm_kinds arms) (other_arm (option_map stmt_kinds last)) (close_brace ∷ [])))
    (level some refl (λ _. next (keeps-many {r = g.arm f n (inner n)} arm_kinds arm_aside (keeps-arm n h) m0 arms m3 ha) (λ ys d. next (keeps-last n h m3 last m4 hl) (λ y b. sign refl (λ _. ended
    (ap (λ (zs : List Arm). let t : Arms = (zs, option_map stmt_aside y) in t) d ∙ ap (λ (o : Option Stmt). let t : Arms = (map arm_aside arms, o) in t) b)))))))

switch-same : (x y : Expr) (t v : Arms) (at at' : ℕ) → SameExpr x y → arms_aside v ≡ arms_aside t → SameStmt (stmt.Switch x t.0 t.1 at) (stmt.Switch y v.0 v.1 at')
switch-same x y t v at at' p q = (
  a.stmt-Switch y v.0 v.1 at' ∙ ap (λ (u : Expr). stmt.Switch u (map arm_aside v.0) (option_map stmt_aside v.1) 0) p ∙ ap (λ (u : Arms). stmt.Switch (expr_aside x) u.0 u.1 0) q ∙ sym (a.stmt-Switch x t.0 t.1 at),
  closed y v.0 v.1 at' ∙ sym (closed x t.0 t.1 at),
)
  where
    closed : (x : Expr) (arms : List Arm) (o : Option Stmt) (at : ℕ) → ends_in_open_if (stmt.Switch x arms o at) ≡ false
    closed x arms None at = a.open-Switch_without x arms at
    closed x arms (Some y) at = a.open-Switch_with x arms y at

pub switch-kinds : (x : Expr) (t : Arms) (at : ℕ) → stmt_kinds (stmt.Switch x t.0 t.1 at) ≡ w.word_switch ∷ condition_kinds x ++ arms_kinds t
switch-kinds x t at =
    let o : Kinds = other_arm (option_map stmt_kinds t.1) in
    k.stmt-Switch x t.0 t.1 at
    ∙ ap (λ (ks : Kinds). ks ++ close_brace ∷ []) (append_assoc (w.word_switch ∷ open_paren ∷ expr_kinds x) (close_paren ∷ open_brace ∷ flat_map arm_kinds t.0) o)
    ∙ append_assoc (w.word_switch ∷ open_paren ∷ expr_kinds x) (close_paren ∷ open_brace ∷ flat_map arm_kinds t.0 ++ o) (close_brace ∷ [])
    ∙ sym (append_assoc (w.word_switch ∷ open_paren ∷ expr_kinds x) (close_paren ∷ []) (arms_kinds t))

pub switch-kept : (n : ℕ) → Keeps (inner n).arms arms_kinds arms_aside → KeepsStmt (g.switch f n (inner n))
switch-kept n h ts z rest (at, m0, (a1, m1, ht, (u, m2, (some, q), e0)), (x, m3, hx, (t, m4, ha, (e, r)))) =
    let P : Stmt → Type 0 = λ z. Again (g.switch f n (inner n)) (stmt_kinds z) (SameStmt z) in
    subst P e (regroup (sym (switch-kinds x t at)) (level some refl (λ at'. next (inner-condition n m0 x m3 hx) (λ y d. made (h m3 t m4 ha) (λ v b. switch-same x y t v at at' d b)))))
