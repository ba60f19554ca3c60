-- Where the paths that are read give the same in two designs and states, outcomes and walks are the same.
use Rattle.law_lists.proofs.Lists.{map_agree}
use Rattle.std.proofs.Common.{◌≡◌, ◌+◌, ◌-◌, List, [], ◌∷◌, ◌++◌, map, filter, Some, None, Bool, ◌&&◌, cond, refl, ap, ◌∙◌}
use Rattle.std.specs.List.{AllByRecursion}
use Rattle.smv_core.specs.Values.{Path, Value, number, numbers_from, Sizes, Outcome, truth, bit, not_of, conjunction, disjunction, implication, equal, add, modulo}
use Rattle.smv_core.specs.Types.{Types, Family, values_over}
use Rattle.smv_core.specs.Outcome.{State, Bindings, Scene, outcome, truths, indexes, sum_with, listed, members_of, fields_of, family_at, is_true, fit, meets, allowed_by, variable_at, or_signal, read, same_path}
use Rattle.smv_core.specs.Walk.{Element, Walk, walk, walk_parts, walk_held, walk_arms, first, assigned, indexes_of, same_kind, steps_of}
use Rattle.smv_core.specs.declared.tree.Kind.{Kind}
use Rattle.smv_core.specs.declared.tree.Path.{out-Path}
use Rattle.smv_core.specs.declared.tree.Part.{Field, At}
use Rattle.smv_core.specs.declared.tree.Member.{One, Span as SpanOf}
use Rattle.smv_core.specs.declared.tree.Expr.{Expr, Number, Signal', Not', And', Or', Implies', Iff', Compare', Within', Sum', Modulo', Choose', All', Any', List', Each', Held-Expr-Each-2, None', Some', Row_of-Expr, end_of-Expr, more_of-Expr, Row_of-Part, end_of-Part, more_of-Part, Row_of-Member, end_of-Member, more_of-Member, Row_of-Signed, end_of-Signed, more_of-Signed, items-the_row-Part}
use Rattle.smv_core.specs.declared.tree.Stmt as stmt
use Rattle.smv_core.specs.declared.tree.Stmt.{Stmt, Assign, Block', If', Switch', Default', For', Forall', Held-Stmt-If-2, Row_of-Stmt, end_of-Stmt, more_of-Stmt, Row_of-Arm, end_of-Arm, more_of-Arm}
use Rattle.law_watched_runs.specs.Paths.{EachRead, PartsRead, IndexesRead, TermsRead, MembersRead, ConditionRead, EachReadIn, EachReadAmong, BranchReads, ArmsRead}

filter-same : {X : Type 0} (F G : X → Bool) → ((x : X) → F x ≡ G x) → (xs : List X) → filter F xs ≡ filter G xs
filter-same F G h [] = refl
filter-same F G h (x ∷ xs) = rw (h x, filter-same F G h xs) refl

-- the paths of which P is known give the same
module _ (P : Path → Type 0) (types : Types) (families families' : List Family) (sizes : Sizes) (instance : Path) (s s' : State)
    (same : (p : Path) → P p → (us : List Outcome) → or_signal sizes s' None (family_at families' (instance ++ p)) p us ≡ or_signal sizes s None (family_at families (instance ++ p)) p us) where
  abbrev old : Scene
  old = record { types = types; families = families; sizes = sizes; instance = instance }

  abbrev new : Scene
  new = record { types = types; families = families'; sizes = sizes; instance = instance }

  read-same : (b : Bindings) (p : Path) → P p → (us : List Outcome) → read new s' b p us ≡ read old s b p us
  read-same b p h us = by_variable (variable_at b p)
    where
      by_variable : (o : Outcome) → or_signal sizes s' o (family_at families' (instance ++ p)) p us ≡ or_signal sizes s o (family_at families (instance ++ p)) p us
      by_variable (Some v) = refl
      by_variable None = same p h us

  mutual
    pub outcome-same : (e : Expr) (b : Bindings) → EachRead P e → outcome new s' e b ≡ outcome old s e b
    outcome-same (Number value at) b h = refl
    outcome-same (Signal' shape parts at) b h =
        ap (read new s' b (fields_of (items-the_row-Part _ parts))) (indexes-same parts b h.1) ∙ read-same b (fields_of (items-the_row-Part _ parts)) h.0 (indexes old s parts b)
    outcome-same (Not' shape (more_of-Expr e end_of-Expr) at) b h = ap (λ u. bit (not_of (truth u))) (outcome-same e b h)
    outcome-same (And' shape parts) b h = ap (λ l. bit (conjunction l)) (truths-same parts b h)
    outcome-same (Or' shape parts) b h = ap (λ l. bit (disjunction l)) (truths-same parts b h)
    outcome-same (Implies' shape parts) b h = ap (λ l. bit (implication l)) (truths-same parts b h)
    outcome-same (Iff' l (more_of-Expr left end_of-Expr) r (more_of-Expr right end_of-Expr)) b h = rw (outcome-same left b h.0, outcome-same right b h.1) refl
    outcome-same (Compare' op l (more_of-Expr left end_of-Expr) r (more_of-Expr right end_of-Expr)) b h = rw (outcome-same left b h.0, outcome-same right b h.1) refl
    outcome-same (Within' l (more_of-Expr left end_of-Expr) r (more_of-Expr set end_of-Expr)) b h = rw (outcome-same left b h.0, listed-same set b h.1) refl
    outcome-same (Sum' f (more_of-Expr first end_of-Expr) shape more) b h = sum-same more (outcome new s' first b) (outcome old s first b) b (outcome-same first b h.0) h.1
    outcome-same (Modulo' shape (more_of-Expr e end_of-Expr) by at) b h = ap (λ u. modulo u by) (outcome-same e b h)
    outcome-same (Choose' c (more_of-Expr test end_of-Expr) l (more_of-Expr left end_of-Expr) r (more_of-Expr right end_of-Expr)) b h = rw (outcome-same test b h.0, outcome-same left b h.1, outcome-same right b h.2) refl
    outcome-same (All' shape (more_of-Expr body end_of-Expr) var over at) b h =
        ap (λ l. bit (conjunction l)) (map_agree (λ v. truth (outcome new s' body ((var.name, v) ∷ b))) (λ v. truth (outcome old s body ((var.name, v) ∷ b))) (λ v. ap truth (outcome-same body ((var.name, v) ∷ b) h)) (values_over types sizes over))
    outcome-same (Any' shape (more_of-Expr body end_of-Expr) var over at) b h =
        ap (λ l. bit (disjunction l)) (map_agree (λ v. truth (outcome new s' body ((var.name, v) ∷ b))) (λ v. truth (outcome old s body ((var.name, v) ∷ b))) (λ v. ap truth (outcome-same body ((var.name, v) ∷ b) h)) (values_over types sizes over))
    outcome-same (List' shape members at) b h = refl
    outcome-same (Each' var over test at) b h = refl

    truths-same : {m : _} (parts : Row_of-Expr m) (b : Bindings) → PartsRead P parts → truths new s' parts b ≡ truths old s parts b
    truths-same end_of-Expr b h = refl
    truths-same (more_of-Expr e rest) b h = rw (outcome-same e b h.0, truths-same rest b h.1) refl

    indexes-same : {m : _} (parts : Row_of-Part m) (b : Bindings) → IndexesRead P parts → indexes new s' parts b ≡ indexes old s parts b
    indexes-same end_of-Part b h = refl
    indexes-same (more_of-Part (Field word) rest) b h = indexes-same rest b h
    indexes-same (more_of-Part (At index) rest) b h = rw (outcome-same index b h.0, indexes-same rest b h.1) refl

    sum-same : {m : _} (more : Row_of-Signed m) (u w : Outcome) (b : Bindings) → u ≡ w → TermsRead P more → sum_with new s' more u b ≡ sum_with old s more w b
    sum-same end_of-Signed u w b e h = e
    sum-same (more_of-Signed minus x rest) u w b e h = sum-same rest (add minus u (outcome new s' x b)) (add minus w (outcome old s x b)) b (rw (e, outcome-same x b h.0) refl) h.1

    listed-same : (set : Expr) (b : Bindings) → EachRead P set → listed new s' set b ≡ listed old s set b
    listed-same (List' shape members at) b h = members-same members b h
    listed-same _ b h = refl

    members-same : {m : _} (members : Row_of-Member m) (b : Bindings) → MembersRead P members → members_of new s' members b ≡ members_of old s members b
    members-same end_of-Member b h = refl
    members-same (more_of-Member (One e) rest) b h = rw (outcome-same e b h.0, members-same rest b h.1) refl
    members-same (more_of-Member (SpanOf span at) rest) b h = ap (λ l. map (λ n. Some (number n)) (numbers_from span.low (span.high + 1 - span.low)) ++ l) (members-same rest b h)

  meets-same : (test : Held-Expr-Each-2) (b : Bindings) → ConditionRead P test → meets new s' test b ≡ meets old s test b
  meets-same None' b h = refl
  meets-same (Some' shape (more_of-Expr test end_of-Expr)) b h = ap (λ u. is_true (truth u)) (outcome-same test b h)

  pub allowed-same : (every : List Value) (e : Expr) (b : Bindings) → EachRead P e → allowed_by new s' every e b ≡ allowed_by old s every e b
  allowed-same every (List' shape members at) b h = ap (fit every) (members-same members b h)
  allowed-same every (Each' var over test at) b h =
      ap (λ l. fit every (map Some l)) (filter-same (λ v. meets new s' test ((var.name, v) ∷ b)) (λ v. meets old s test ((var.name, v) ∷ b)) (λ v. meets-same test ((var.name, v) ∷ b) h) (values_over types sizes over))
  allowed-same every (Choose' c (more_of-Expr test end_of-Expr) l (more_of-Expr left end_of-Expr) r (more_of-Expr right end_of-Expr)) b h =
      rw (outcome-same test b h.0, allowed-same every left b h.1, allowed-same every right b h.2) refl
  allowed-same every e b h = ap (λ u. fit every (u ∷ [])) (outcome-same e b h)

  outcomes-same : (es : List Expr) (b : Bindings) → AllByRecursion (EachRead P) es → map (λ e. outcome new s' e b) es ≡ map (λ e. outcome old s e b) es
  outcomes-same [] b h = refl
  outcomes-same (e ∷ es) b h = rw (outcome-same e b h.0, outcomes-same es b h.1) refl

  labels-same : (on : Outcome) (labels : List Expr) (b : Bindings) → AllByRecursion (EachRead P) labels → map (λ label. equal on (outcome new s' label b)) labels ≡ map (λ label. equal on (outcome old s label b)) labels
  labels-same on [] b h = refl
  labels-same on (e ∷ labels) b h = rw (outcome-same e b h.0, labels-same on labels b h.1) refl

  module _ (kind : Kind) (x : Element) (every : List Value) where
    assigned-same : (es : List Expr) (value : Expr) (b : Bindings) → AllByRecursion (EachRead P) es → EachRead P value →
        assigned new s' kind x every (map (λ e. outcome new s' e b) es) value b ≡ assigned old s kind x every (map (λ e. outcome old s e b) es) value b
    assigned-same es value b h k = rw (outcomes-same es b h, allowed-same every value b k) refl

    mutual
      pub walk-same : (act : Stmt) (b : Bindings) → EachReadIn P act → walk new s' kind x every act b ≡ walk old s kind x every act b
      walk-same (Assign which left value at) b h =
          ap (λ w. cond (same_kind which kind && same_path (instance ++ fields_of (out-Path left).parts) x.path) w None) (assigned-same (indexes_of (out-Path left).parts) value b h.0 h.1)
      walk-same (Block' shape parts) b h = parts-same parts b h
      walk-same (If' test l (more_of-Stmt left end_of-Stmt) right at) b h = rw (outcome-same test b h.0, walk-same left b h.1, held-same right b h.2) refl
      walk-same (Switch' on shape arms other at) b h = rw (outcome-same on b h.0, held-same other b h.2) (arms-same arms (outcome old s on b) (walk_held old s kind x every other b) b h.1)
      walk-same (Default' l (more_of-Stmt left end_of-Stmt) r (more_of-Stmt right end_of-Stmt) at) b h = rw (walk-same left b h.0, walk-same right b h.1) refl
      walk-same (For' var from to closed step shape (more_of-Stmt body end_of-Stmt) at) b h =
          ap first (map_agree (λ n. walk new s' kind x every body ((var.name, number n) ∷ b)) (λ n. walk old s kind x every body ((var.name, number n) ∷ b)) (λ n. walk-same body ((var.name, number n) ∷ b) h) (steps_of from to closed step))
      walk-same (Forall' var over shape (more_of-Stmt body end_of-Stmt) at) b h =
          ap first (map_agree (λ v. walk new s' kind x every body ((var.name, v) ∷ b)) (λ v. walk old s kind x every body ((var.name, v) ∷ b)) (λ v. walk-same body ((var.name, v) ∷ b) h) (values_over types sizes over))

      parts-same : {m : _} (parts : Row_of-Stmt m) (b : Bindings) → EachReadAmong P parts → walk_parts new s' kind x every parts b ≡ walk_parts old s kind x every parts b
      parts-same end_of-Stmt b h = refl
      parts-same (more_of-Stmt part rest) b h = rw (walk-same part b h.0, parts-same rest b h.1) refl

      held-same : (part : Held-Stmt-If-2) (b : Bindings) → BranchReads P part → walk_held new s' kind x every part b ≡ walk_held old s kind x every part b
      held-same stmt.None' b h = refl
      held-same (stmt.Some' shape (more_of-Stmt part end_of-Stmt)) b h = walk-same part b h

      arms-same : {m : _} (arms : Row_of-Arm m) (on : Outcome) (w : Walk) (b : Bindings) → ArmsRead P arms → walk_arms new s' kind x every arms on w b ≡ walk_arms old s kind x every arms on w b
      arms-same end_of-Arm on w b h = refl
      arms-same (more_of-Arm labels body rest) on w b h = rw (labels-same on labels b h.0, walk-same body b h.1, arms-same rest on w b h.2) refl
