-- The loops of the parser: where each ends, halts and goes on, with the formulas beside the trees.
use Rattle.std.proofs.Common.{◌≡◌, ◌<◌, ℕ, Bool, true, false, List, [], ◌∷◌, ◌++◌, length, Ok, Err, refl, sym, ◌∙◌, append_assoc, append-nil}
use Rattle.smv_core.specs.declared.tree.Word.{Word}
use Rattle.smv_core.specs.declared.tree.Item.{Item}
use Rattle.smv_core.specs.declared.tree.Item.TheVariants as item
use Rattle.smv_core.specs.declared.tree.Top.{Top}
use Rattle.smv_core.specs.declared.tree.Top.TheVariants as top
use Rattle.smv_core.specs.Signs.{close_brace}
use Rattle.smv_core.specs.Notation.{Tokens}
use Rattle.law_grammar.specs.Parsing.{Halt, Outcome, Parser, and_then, bind, pure, take, starts, loop}
use Rattle.law_grammar.specs.Marks.{Mark, begins}
use Rattle.law_grammar.specs.Readers.{a_token}
use Rattle.law_grammar.specs.Items.{item_marks, body_marks, top_marks}
use Rattle.law_grammar.proofs.Many.{Takes}
use Rattle.law_grammar.proofs.Steps.{takes, resumed, loop_ends, loop_halts, loop_goes_on}
use Rattle.law_formulas.specs.Formulas.{FormulaText}
use Rattle.law_formula_grammar.specs.Grammar.{Formulas, With, trees, all_formulas, block_of, module_of}
use Rattle.law_formula_grammar.specs.Readers.{read_item, item_reader, read_body, read_top, read_tops}
use Rattle.law_formula_grammar.proofs.Items.{item-begins}
use Rattle.law_formula_grammar.proofs.Bodies.{items-law, item-lawful, body-lawful, body-begins}
use Rattle.law_formula_grammar.proofs.Texts.{top-lawful, top-begins}
use Rattle.smv_parse_expressions.proofs.Loops.{not_begun}
use Rattle.smv_parse_formulas.specs.declared.tree.Placed.{Placed}
use Rattle.smv_parse_formulas.specs.Trees.{meanings}
use Rattle.smv_parse_formulas.specs.Pieces.{apart, read_all, gathered}

-- the formulas of two lists
meanings-join : (xs ys : List Placed) → meanings (xs ++ ys) ≡ meanings xs ++ meanings ys
meanings-join [] ys = refl
meanings-join (x ∷ xs) ys = rw (meanings-join xs ys) refl

module _ {A : Type 0} (marks : List Mark) (p : Parser (With A)) (shrinks : Takes p) where
  abbrev more : Parser (List (With A))
  more = loop (begins marks) p

  begin : (ts : Tokens) → read_all marks p ts ≡ gathered [] [] (more ts)
  begin ts = go (more ts)
    where
      go : (o : Outcome (List (With A))) → and_then o (λ xs. pure (apart xs)) ≡ gathered [] [] o
      go (Err h) = refl
      go (Ok (xs, rest)) = refl

  end : (items : List A) (list : Formulas) (ts : Tokens) → starts (begins marks) ts ≡ false → gathered items list (more ts) ≡ Ok ((items, list), ts)
  end items list ts e =
      let d : more ts ≡ Ok ([], ts) = sym (not_begun (more ts)) ∙ loop_ends (begins marks) p shrinks [] ts e in
      rw d (rw append-nil (rw append-nil refl))

  halt : (items : List A) (list : Formulas) (ts : Tokens) (h : Halt) → starts (begins marks) ts ≡ true → p ts ≡ Err h → gathered items list (more ts) ≡ Err h
  halt items list ts h e k =
      let d : more ts ≡ Err h = sym (not_begun (more ts)) ∙ loop_halts (begins marks) p shrinks [] ts h e k in
      rw d refl

  go_on : (items : List A) (list : Formulas) (ts : Tokens) (x : With A) (rest : Tokens) → starts (begins marks) ts ≡ true → p ts ≡ Ok (x, rest) → gathered items list (more ts) ≡ gathered (items ++ x.0 ∷ []) (list ++ x.1) (more rest)
  go_on items list ts x rest e k =
      let d : more ts ≡ resumed (x ∷ []) (more rest) = sym (not_begun (more ts)) ∙ loop_goes_on (begins marks) p shrinks [] ts x rest e k in
      rw d (go (more rest))
    where
      go : (o : Outcome (List (With A))) → gathered items list (resumed (x ∷ []) o) ≡ gathered (items ++ x.0 ∷ []) (list ++ x.1) o
      go (Err h) = refl
      go (Ok (xs, end)) = rw (append_assoc items (x.0 ∷ []) (trees xs)) (rw (append_assoc list x.1 (all_formulas xs)) refl)

  go_on_seen : (items : List A) (list : List Placed) (ts : Tokens) (x : A) (added : List Placed) (rest : Tokens) → starts (begins marks) ts ≡ true → p ts ≡ Ok ((x, meanings added), rest)
      → gathered items (meanings list) (more ts) ≡ gathered (items ++ x ∷ []) (meanings (list ++ added)) (more rest)
  go_on_seen items list ts x added rest e k = rw (meanings-join list added) (go_on items (meanings list) ts (x, meanings added) rest e k)

-- ---- items

abbrev pub more_items : ℕ → Parser (List (With Item))
more_items n = loop (begins item_marks) (read_item n (item_reader n))

items_take : (n : ℕ) → Takes (read_item n (item_reader n))
items_take n = takes item_marks ((item-lawful (Unit {0}) n (item_reader n) (items-law n)).law tt) item-begins

pub items_begin : (n : ℕ) (ts : Tokens) → read_all item_marks (read_item n (item_reader n)) ts ≡ gathered [] [] (more_items n ts)
items_begin n ts = begin item_marks (read_item n (item_reader n)) (items_take n) ts

pub items_end : (n : ℕ) (items : List Item) (list : Formulas) (ts : Tokens) (b : Bool) → b ≡ starts (begins item_marks) ts → b ≡ false → gathered items list (more_items n ts) ≡ Ok ((items, list), ts)
items_end n items list ts b e q = end item_marks (read_item n (item_reader n)) (items_take n) items list ts (sym e ∙ q)

pub items_halt : (n : ℕ) (items : List Item) (list : Formulas) (ts : Tokens) (h : Halt) (b : Bool) → b ≡ starts (begins item_marks) ts → b ≡ true → read_item n (item_reader n) ts ≡ Err h → gathered items list (more_items n ts) ≡ Err h
items_halt n items list ts h b e q k = halt item_marks (read_item n (item_reader n)) (items_take n) items list ts h (sym e ∙ q) k

pub items_go_on : (n : ℕ) (items : List Item) (list : List Placed) (ts : Tokens) (x : Item) (added : List Placed) (rest : Tokens) (b : Bool) → b ≡ starts (begins item_marks) ts → b ≡ true → read_item n (item_reader n) ts ≡ Ok ((x, meanings added), rest)
    → gathered items (meanings list) (more_items n ts) ≡ gathered (items ++ x ∷ []) (meanings (list ++ added)) (more_items n rest)
items_go_on n items list ts x added rest b e q k = go_on_seen item_marks (read_item n (item_reader n)) (items_take n) items list ts x added rest (sym e ∙ q) k

pub items_shrink : (n : ℕ) (ts : Tokens) (x : With Item) (rest : Tokens) → read_item n (item_reader n) ts ≡ Ok (x, rest) → length rest < length ts
items_shrink n ts x rest k = items_take n ts x rest k

-- ---- what stands in a body

abbrev pub more_bodies : ℕ → Parser (List (With Item))
more_bodies n = loop (begins body_marks) (read_body n (item_reader n))

bodies_take : (n : ℕ) → Takes (read_body n (item_reader n))
bodies_take n = takes body_marks ((body-lawful (Unit {0}) n (item_reader n) (items-law n)).law tt) body-begins

pub bodies_begin : (n : ℕ) (ts : Tokens) → read_all body_marks (read_body n (item_reader n)) ts ≡ gathered [] [] (more_bodies n ts)
bodies_begin n ts = begin body_marks (read_body n (item_reader n)) (bodies_take n) ts

pub bodies_end : (n : ℕ) (items : List Item) (list : Formulas) (ts : Tokens) (b : Bool) → b ≡ starts (begins body_marks) ts → b ≡ false → gathered items list (more_bodies n ts) ≡ Ok ((items, list), ts)
bodies_end n items list ts b e q = end body_marks (read_body n (item_reader n)) (bodies_take n) items list ts (sym e ∙ q)

pub bodies_halt : (n : ℕ) (items : List Item) (list : Formulas) (ts : Tokens) (h : Halt) (b : Bool) → b ≡ starts (begins body_marks) ts → b ≡ true → read_body n (item_reader n) ts ≡ Err h → gathered items list (more_bodies n ts) ≡ Err h
bodies_halt n items list ts h b e q k = halt body_marks (read_body n (item_reader n)) (bodies_take n) items list ts h (sym e ∙ q) k

pub bodies_go_on : (n : ℕ) (items : List Item) (list : List Placed) (ts : Tokens) (x : Item) (added : List Placed) (rest : Tokens) (b : Bool) → b ≡ starts (begins body_marks) ts → b ≡ true → read_body n (item_reader n) ts ≡ Ok ((x, meanings added), rest)
    → gathered items (meanings list) (more_bodies n ts) ≡ gathered (items ++ x ∷ []) (meanings (list ++ added)) (more_bodies n rest)
bodies_go_on n items list ts x added rest b e q k = go_on_seen body_marks (read_body n (item_reader n)) (bodies_take n) items list ts x added rest (sym e ∙ q) k

pub bodies_shrink : (n : ℕ) (ts : Tokens) (x : With Item) (rest : Tokens) → read_body n (item_reader n) ts ≡ Ok (x, rest) → length rest < length ts
bodies_shrink n ts x rest k = bodies_take n ts x rest k

-- ---- tops

abbrev pub more_tops : ℕ → Parser (List (With Top))
more_tops n = loop (begins top_marks) (read_top n)

tops_take : (n : ℕ) → Takes (read_top n)
tops_take n = takes top_marks ((top-lawful (Unit {0}) n).law tt) top-begins

pub tops_begin : (n : ℕ) (ts : Tokens) → read_all top_marks (read_top n) ts ≡ gathered [] [] (more_tops n ts)
tops_begin n ts = begin top_marks (read_top n) (tops_take n) ts

pub tops_end : (n : ℕ) (items : List Top) (list : Formulas) (ts : Tokens) (b : Bool) → b ≡ starts (begins top_marks) ts → b ≡ false → gathered items list (more_tops n ts) ≡ Ok ((items, list), ts)
tops_end n items list ts b e q = end top_marks (read_top n) (tops_take n) items list ts (sym e ∙ q)

pub tops_halt : (n : ℕ) (items : List Top) (list : Formulas) (ts : Tokens) (h : Halt) (b : Bool) → b ≡ starts (begins top_marks) ts → b ≡ true → read_top n ts ≡ Err h → gathered items list (more_tops n ts) ≡ Err h
tops_halt n items list ts h b e q k = halt top_marks (read_top n) (tops_take n) items list ts h (sym e ∙ q) k

pub tops_go_on : (n : ℕ) (items : List Top) (list : List Placed) (ts : Tokens) (x : Top) (added : List Placed) (rest : Tokens) (b : Bool) → b ≡ starts (begins top_marks) ts → b ≡ true → read_top n ts ≡ Ok ((x, meanings added), rest)
    → gathered items (meanings list) (more_tops n ts) ≡ gathered (items ++ x ∷ []) (meanings (list ++ added)) (more_tops n rest)
tops_go_on n items list ts x added rest b e q k = go_on_seen top_marks (read_top n) (tops_take n) items list ts x added rest (sym e ∙ q) k

pub tops_shrink : (n : ℕ) (ts : Tokens) (x : With Top) (rest : Tokens) → read_top n ts ≡ Ok (x, rest) → length rest < length ts
tops_shrink n ts x rest k = tops_take n ts x rest k

-- ---- what is read, put together

-- what stands behind what is read one after another goes by the trees and their formulas
through : {A B : Type 0} (o : Outcome (List (With A))) (f : List A × Formulas → Parser B) → and_then o (λ xs. f (apart xs)) ≡ and_then (and_then o (λ xs. pure (apart xs))) f
through (Err h) f = refl
through (Ok (xs, rest)) f = refl

pub block_by : (q : Parser (With Item)) (ts : Tokens) → bind (loop (begins item_marks) q) (λ items. bind (take (a_token close_brace)) (λ _. pure (block_of items))) ts
    ≡ bind (read_all item_marks q) (λ x. bind (take (a_token close_brace)) (λ _. pure (item.Block x.0, x.1))) ts
block_by q ts = through (loop (begins item_marks) q ts) (λ x. bind (take (a_token close_brace)) (λ _. pure (item.Block x.0, x.1)))

pub module_by : (at : ℕ) (name : Word) (formals : List Word) (q : Parser (With Item)) (ts : Tokens) → bind (loop (begins body_marks) q) (λ items. bind (take (a_token close_brace)) (λ _. pure (module_of at name formals items))) ts
    ≡ bind (read_all body_marks q) (λ x. bind (take (a_token close_brace)) (λ _. pure (top.Module name formals x.0 at, x.1))) ts
module_by at name formals q ts = through (loop (begins body_marks) q ts) (λ x. bind (take (a_token close_brace)) (λ _. pure (top.Module name formals x.0 at, x.1)))

abbrev text_from : List Top × Formulas → FormulaText
text_from x = record { text = record { tops = x.0 }; formulas = x.1 }

pub tops_by : (n : ℕ) (ts : Tokens) → read_tops n ts ≡ bind (read_all top_marks (read_top n)) (λ x. pure (record { text = record { tops = x.0 }; formulas = x.1 })) ts
unfolding read_tops
tops_by n ts = through (loop (begins top_marks) (read_top n) ts) (λ x. pure (text_from x))
