-- The laws of items and of what stands in the body of a module.
use Rattle.std.proofs.Common.{◌≡◌, ◌-◌, ◌<◌, ℕ, zero, suc, List, [], ◌∷◌, ◌⊎◌, inl, inr, refl, sym, subst, arith}
use Rattle.smv_core.specs.declared.tree.Word.{Word}
use Rattle.smv_core.specs.declared.tree.Stmt.{Stmt}
use Rattle.smv_core.specs.declared.tree.Item.{Item}
use Rattle.smv_core.specs.declared.tree.Item.TheVariants as item
use Rattle.smv_core.specs.Signs.{open_brace, close_brace, colon, comma}
use Rattle.smv_core.specs.Signs as w
use Rattle.smv_core.specs.Notation.{Tokens, ◌>>◌, ◌<|>◌, many, token, name, separated}
use Rattle.smv_core.specs.Grammar as g
use Rattle.smv_core.specs.OpenIf.{ends_in_open_if}
use Rattle.law_grammar.specs.Parsing.{Parser}
use Rattle.law_grammar.specs.Lawful.{Levels, Finishes, Lawful}
use Rattle.law_grammar.specs.Marks.{exactly, stops_by}
use Rattle.law_grammar.specs.Statements.{stmt_readers}
use Rattle.law_grammar.specs.Items.{vars_of_some, role_marks, roles, other_marks, item_marks, body_marks, item_readers}
use Rattle.law_grammar.proofs.Tokens.{same-lawful}
use Rattle.law_grammar.proofs.Forms.{Begins, begins-then, begins-either, begins-wider, token-begins, opener-begins, name-begins, entry-begins, level, closed, next, repeated, alternative, continued, made, ended}
use Rattle.law_grammar.proofs.Statements.{else_marks, after_stmt, open-covered, worded_marks, worded-begins, worded-lawful, stmt-laws}
use Rattle.law_grammar.proofs.References.{split-lawful, using-lawful}
use Rattle.law_grammar.proofs.Marked.{some-vars, vars-some}
use Rattle.law_grammar.proofs.Items.{with_role, of_names, from_using, from_split, from_block, with-role-lawful, layer-lawful}
use Rattle.law_grammar.proofs.Bodies.{item-laws}
use Rattle.law_grammar.proofs.Expressions.{At, names}
use Rattle.law_formula_grammar.specs.Grammar.{With, bare, without, forall_of, block_of, claim, item_below, body_rule}
use Rattle.law_formula_grammar.specs.Readers as p
use Rattle.law_formula_grammar.proofs.Items.{claim_tail, listed, behind, behind_colon, named_body, forall_item, block_item, other_item, item_at, assigned, assigned-behind, to-either, from-brackets}
use Rattle.law_formula_grammar.proofs.Items.{from-using-begins, from-split-begins, from-block-begins, other-begins, item-begins, item-to, item-from, named-lawful, named-body-lawful}

-- ---- a body, name first

abbrev pub body_at : Levels (With Item)
body_at floor m = body_rule floor m (item_below floor m)

abbrev factored_body : Levels (With Item)
factored_body floor m = without (with_role floor m) <|> without (At g.layer floor m) <|> named_body floor m <|> other_item floor m

module _ (floor : ℕ → ℕ) (m : ℕ) (a : With Item) (rest : Tokens) where
  -- names, a colon, and a declaration or an instance
  of-names-to : (ts names_end behind_colon : Tokens) (ws : List Word) (at : ℕ) → separated name ts ws names_end → token colon names_end at behind_colon → without (of_names ws floor m) behind_colon a rest → body_at floor m ts a rest
  of-names-to ts names_end behind ws at h c (x, end, inl t, same) = inr (inl (x, end, (ws, names_end, h, (at, behind, c, t)), same))
  of-names-to ts names_end behind ws at h c (x, end, inr t, same) = inl (x, end, inr (ws, names_end, h, (at, behind, c, t)), same)

  listed-to : (ts start middle behind : Tokens) (x : Word) (more : List Word) (at : ℕ) → name ts x start → many (token comma >> name) start more middle → token colon middle at behind → behind_colon x more floor m behind a rest
      → body_at floor m ts a rest
  listed-to ts start middle behind x [] at nm h c (inl t) = inr (inr (inr (inr (inr (inl (x, start, nm, ([], middle, h, (at, behind, c, t))))))))
  listed-to ts start middle behind x [] at nm h c (inr t) = of-names-to ts middle behind (x ∷ []) at (x, start, nm, ([], middle, h, (refl, refl))) c t
  listed-to ts start middle behind x (y ∷ more) at nm h c t = of-names-to ts middle behind (x ∷ y ∷ more) at (x, start, nm, (y ∷ more, middle, h, (refl, refl))) c t

  colon-names : (x : Word) (more : List Word) (ts : Tokens) → without (of_names (x ∷ more) floor m) ts a rest → behind_colon x more floor m ts a rest
  colon-names x [] ts h = inr h
  colon-names x (y ∷ more) ts h = h

  -- names, and what they declare
  from-names : (ts middle behind : Tokens) (ws : List Word) (at : ℕ) → separated name ts ws middle → token colon middle at behind → without (of_names ws floor m) behind a rest → named_body floor m ts a rest
  from-names ts middle behind ws at h c t =
      let l = h.3 in
      let P : Tokens → Type 0 = λ z. token colon z at behind in
      let Q : List Word → Type 0 = λ z. without (of_names z floor m) behind a rest in
      (h.0, h.1, h.2, inl (l.0, l.1, l.2, (at, behind, subst P (sym l.3.1) c, colon-names h.0 l.0 behind (subst Q (sym l.3.0) t))))

  from-claim : (ts start middle : Tokens) (x : Word) (vs : List Word) → name ts x start → many (At g.in_brackets floor m) start vs middle
      → (token colon >> claim_tail x vs floor m) middle a rest → named_body floor m ts a rest
  from-claim ts start middle x [] nm h t = (x, start, nm, inl ([], middle, h, (t.0, t.1, t.2, inl t.3)))
  from-claim ts start middle x (v ∷ vs) nm h t = (x, start, nm, inr (from-brackets x floor m vars_of_some start middle (v ∷ vs) a rest (λ ms e. some-vars ms v vs e) h t))

body-to : (floor : ℕ → ℕ) (m : ℕ) (ts : Tokens) (a : With Item) (rest : Tokens) → factored_body floor m ts a rest → body_at floor m ts a rest
body-to floor m ts a rest (inl h) = inl (h.0, h.1, inl h.2, h.3)
body-to floor m ts a rest (inr (inl h)) = inr (inr (inl h))
body-to floor m ts a rest (inr (inr (inr h))) = inr (inr (inr (item-to floor m ts a rest (inr h))))
body-to floor m ts a rest (inr (inr (inl h))) = go h.3
  where
    go : (listed h.0 floor m <|> behind vars_of_some h.0 floor m) h.1 a rest → body_at floor m ts a rest
    go (inl l) = let c = l.3 in listed-to floor m a rest ts h.1 l.1 c.1 h.0 l.0 c.0 h.2 l.2 c.2 c.3
    go (inr b) = by (to-either h.0 floor m h.1 b.1 b.0 (vars_of_some b.0) (λ vs e. vars-some b.0 vs e) a rest ts h.2 b.2 b.3)
      where
        by : claim floor m ts a rest ⊎ assigned h.0 floor m a ts rest → body_at floor m ts a rest
        by (inl t) = inr (inr (inr (inr (inr (inl t)))))
        by (inr t) = inr (inr (inr (inr (inr (inr (inr (inr t)))))))

body-from : (floor : ℕ → ℕ) (m : ℕ) (ts : Tokens) (a : With Item) (rest : Tokens) → body_at floor m ts a rest → factored_body floor m ts a rest
body-from floor m ts a rest (inl (x, end, inl h, same)) = inl (x, end, h, same)
body-from floor m ts a rest (inl (x, end, inr h, same)) = let c = h.3 in inr (inr (inl (from-names floor m a rest ts h.1 c.1 h.0 c.0 h.2 c.2 (x, end, inr c.3, same))))
body-from floor m ts a rest (inr (inl (x, end, h, same))) = let c = h.3 in inr (inr (inl (from-names floor m a rest ts h.1 c.1 h.0 c.0 h.2 c.2 (x, end, inl c.3, same))))
body-from floor m ts a rest (inr (inr (inl h))) = inr (inl h)
body-from floor m ts a rest (inr (inr (inr h))) = go h
  where
    acting : (s : Stmt) (middle : Tokens) → At g.simple floor m ts s middle → bare (item.Act s) ≡ a → middle ≡ rest → factored_body floor m ts a rest
    acting s middle (inl t) e q = let b = assigned-behind vars_of_some floor m ts s middle a rest t e q in inr (inr (inl (b.0, b.1, b.2, inr b.3)))
    acting s middle (inr t) e q = inr (inr (inr (inr (inr (inr (inr (s, middle, t, (e, q))))))))

    go : item_at floor m ts a rest → factored_body floor m ts a rest
    go (inl t) = inr (inr (inr (inl t)))
    go (inr (inl t)) = inr (inr (inr (inr (inl t))))
    go (inr (inr (inl t))) = let b = t.3 in inr (inr (inl (from-claim floor m a rest ts t.1 b.1 t.0 b.0 t.2 b.2 b.3)))
    go (inr (inr (inr (inl t)))) = inr (inr (inr (inr (inr (inl t)))))
    go (inr (inr (inr (inr (inl t))))) = inr (inr (inr (inr (inr (inr (inl t))))))
    go (inr (inr (inr (inr (inr t))))) = acting t.0 t.1 t.2 t.3.0 t.3.1

with-role-begins : Begins role_marks (λ floor m. without (with_role floor m))
with-role-begins = begins-then (begins-then (entry-begins roles))

from-name-begins : Begins item_marks (λ floor m. named_body floor m <|> other_item floor m)
from-name-begins = begins-either (begins-wider names _ refl (begins-then name-begins)) (begins-wider other_marks _ refl other-begins)

from-layer-begins : Begins (exactly w.word_layer ∷ item_marks) (λ floor m. without (At g.layer floor m) <|> named_body floor m <|> other_item floor m)
from-layer-begins = begins-either (begins-wider (exactly w.word_layer ∷ []) _ refl (begins-then (begins-then (token-begins w.word_layer)))) (begins-wider item_marks _ refl from-name-begins)

pub body-begins : Begins body_marks body_at
body-begins = record { holds = λ floor m ts a rest h. factored.holds floor m ts a rest (body-from floor m ts a rest h) }
  where
    factored : Begins body_marks factored_body
    factored = begins-either (begins-wider role_marks _ refl with-role-begins) (begins-wider (exactly w.word_layer ∷ item_marks) _ refl from-layer-begins)

-- ---- what stands inside an opened level, where there is one

abbrev pub ItemLaw : ℕ → Parser (With Item) → Type 0
ItemLaw n inner = Lawful (0 < n) item_at (n - 1) inner (stops_by (λ i. else_marks))

module _ (C : Type 0) (n : ℕ) (inner : Parser (With Item)) (law : ItemLaw n inner) where
  forall-lawful : Lawful C forall_item n (p.read_forall_item n inner) (stops_by (λ i. else_marks))
  unfolding p.read_forall_item
  forall-lawful = level w.word_forall refl (λ at. next (stmt-laws n).binder (λ b. made else_marks (forall_of b at) law))

  block-lawful : Lawful C block_item n (p.read_block_item n inner) (stops_by (λ i. else_marks))
  unfolding p.read_block_item
  block-lawful = level open_brace refl (λ _. ended (exactly w.word_else ∷ item_marks) close_brace block_of refl refl
      (repeated item_marks (λ i. else_marks) (exactly w.word_else ∷ item_marks) law item-begins (λ a. refl) refl (λ a. refl)))

  other-lawful : Lawful C other_item n (p.read_other_item n inner) (stops_by (λ i. else_marks))
  unfolding p.read_other_item
  other-lawful = alternative (exactly w.word_forall ∷ []) from_block forall-lawful
      (alternative (exactly open_brace ∷ []) from_split block-lawful
      (alternative (exactly w.word_subcase ∷ []) from_using (made else_marks bare (continued closed (λ i. else_marks) (λ i. refl) (split-lawful n)))
      (alternative (exactly w.word_using ∷ []) worded_marks (made else_marks bare (continued closed (λ i. else_marks) (λ i. refl) (using-lawful C n (item_readers n).ref (item-laws n).ref)))
      (made else_marks (λ x. bare (item.Act x)) (continued after_stmt (λ x. else_marks) (λ x. open-covered else_marks refl (ends_in_open_if x)) (worded-lawful C n (stmt_readers n) (stmt-laws n))))
      (begins-then (begins-then (token-begins w.word_using))) (begins-then worded-begins) refl)
      (begins-then (begins-then (token-begins w.word_subcase))) from-using-begins refl)
      (begins-then (opener-begins open_brace)) from-split-begins refl)
      (begins-then (opener-begins w.word_forall)) from-block-begins refl

  pub item-lawful : Lawful C item_at n (p.read_item n inner) (stops_by (λ i. else_marks))
  unfolding p.read_item
  item-lawful = same-lawful item-to item-from (λ a t e. e) (alternative names other_marks (named-lawful C n) other-lawful (begins-then name-begins) other-begins refl)

  pub body-lawful : Lawful C body_at n (p.read_body n inner) (stops_by (λ i. else_marks))
  unfolding p.read_body
  body-lawful = same-lawful body-to body-from (λ a t e. e) (alternative role_marks (exactly w.word_layer ∷ item_marks) (made else_marks bare (with-role-lawful C n))
      (alternative (exactly w.word_layer ∷ []) item_marks (made else_marks bare (layer-lawful C n))
      (alternative names other_marks (named-body-lawful C n) other-lawful (begins-then name-begins) other-begins refl)
      (begins-then (begins-then (token-begins w.word_layer))) from-name-begins refl) with-role-begins from-layer-begins refl)

-- ---- for each number of levels

item-finishes : (place : ℕ) → Finishes item_at place
item-finishes place =
    let x = (named-lawful (Unit {0}) 0).finishes place in
    record { more = x.more; value = x.value; enough = x.enough; spelled = λ floor m z e rest. item-to floor m _ x.value rest (inl (x.spelled floor m z e rest)) }

body-finishes : (place : ℕ) → Finishes body_at place
body-finishes place = let x = item-finishes place in record { more = x.more; value = x.value; enough = x.enough; spelled = λ floor m z e rest. inr (inr (inr (x.spelled floor m z e rest))) }

-- what stands in an opened level
pub items-law : (n : ℕ) → ItemLaw n (p.item_reader n)
items-law zero = record { finishes = item-finishes; law = λ c. absurd (omega arith) }
items-law (suc n) =
    let e : n ≡ suc n - 1 = omega arith in
    let P : ℕ → Type 0 = λ k. Lawful (0 < suc n) item_at k (p.read_item n (p.item_reader n)) (stops_by (λ i. else_marks)) in
    subst P e (item-lawful (0 < suc n) n (p.item_reader n) (items-law n))

-- what stands in a body that stands in an opened level
pub bodies-law : (n : ℕ) → Lawful (0 < n) body_at (n - 1) (p.body_reader n) (stops_by (λ i. else_marks))
bodies-law zero = record { finishes = body-finishes; law = λ c. absurd (omega arith) }
bodies-law (suc n) =
    let e : n ≡ suc n - 1 = omega arith in
    let P : ℕ → Type 0 = λ k. Lawful (0 < suc n) body_at k (p.read_body n (p.item_reader n)) (stops_by (λ i. else_marks)) in
    subst P e (body-lawful (0 < suc n) n (p.item_reader n) (items-law n))
