-- The tokens of one claim's expression exchanged for others, in a whole text.
use Rattle.std.proofs.Common.{◌≡◌, ◌+◌, ℕ, [], ◌++◌, Bool, refl, sym, ap, ◌∙◌, subst, arith}
use Rattle.std.proofs.lemmas.List.{append-nil}
use Rattle.smv_core.specs.declared.tree.Word.{Word}
use Rattle.smv_core.specs.declared.tree.Expr.{Expr}
use Rattle.smv_core.specs.declared.tree.Text.{Text}
use Rattle.smv_core.specs.Notation.{Tokens}
use Rattle.smv_core.specs.Grammar.{text_rule}
use Rattle.smv_core.specs.Spelling.{Spells}
use Rattle.law_grammar.specs.Laws.{SpellsExpr}
use Rattle.law_grammar.proofs.Only.{one-text}
use Rattle.law_places.specs.Placeless.{placeless, placeless_top, placeless_text}
use Rattle.law_spelled_alike.specs.Local.{kinds_of}
use Rattle.law_exchanged.specs.Changed.{changed_top, put_in, count_tops}
use Rattle.law_exchanged.specs.Laws.{IsWith, IsPlaced}
use Rattle.law_lists.proofs.Lists.{map-map}
use Rattle.law_exchanged.proofs.Before.{SpellsUpTo, spelled-before, more-levels, spelled-alone}
use Rattle.law_exchanged.proofs.Pierced.{Pierced, PutTops, pierced-text}

module _ (n gap : ℕ) (within test : Word → Bool) (ts : Tokens) (x : Text) (h : text_rule (λ at. 0) n ts x.tops []) (e : count_tops within test x.tops ≡ 1) where
  abbrev v : Pierced test gap {X = Unit {0}} (PutTops test gap within) (λ _. text_rule (λ at. 0) (n + gap)) ts x.tops []
  v = pierced-text test gap within n (n + gap) refl ts x.tops [] h e

  end : v.behind ++ [] ≡ v.behind
  end = append-nil v.behind

  split : ts ≡ v.front ++ (v.es ++ v.behind)
  split = v.split ∙ ap (λ l. v.front ++ (v.es ++ l)) end

  abbrev alone : (y : Expr) × SpellsExpr v.levels v.es y × (placeless v.body ≡ placeless y)
  alone = spelled-alone v.levels v.es v.behind v.body (subst (λ l. SpellsUpTo v.levels v.es v.body l) end v.spelled)

  exchanged : (us vs ws : Tokens) (y : Expr) → kinds_of us ≡ kinds_of v.front → SpellsExpr (v.levels + gap) vs y → kinds_of ws ≡ kinds_of v.behind → (new : Text) × text_rule (λ at. 0) (n + gap) (us ++ (vs ++ ws)) new.tops [] × IsWith within test x y new
  exchanged us vs ws y a k b =
      let new = v.again tt us vs ws [] a b y (λ q. spelled-before (v.levels + gap) v.more_levels (let apart = v.apart in omega (arith, apart)) vs y k q) in (
        record { tops = new.0 },
        subst (λ l. text_rule (λ at. 0) (n + gap) l new.0 []) (ap (λ l. us ++ (vs ++ l)) (append-nil ws)) new.1,
        ap (λ l. record { tops = l }) (map-map placeless_top (changed_top within (put_in test y)) x.tops ∙ new.2),
      )

  own : IsWith within test x alone.0 x
  unfolding Spells
  own =
      let new = exchanged v.front v.es v.behind alone.0 refl (more-levels v.levels (v.levels + gap) (omega arith) v.es alone.0 alone.1) refl in
      let same : new.0 ≡ x = one-text (n + gap) n ts new.0 x (subst (λ l. text_rule (λ at. 0) (n + gap) l new.0.tops []) (sym split) new.1) h in
      new.2 ∙ ap placeless_text same

  pub placed : IsPlaced n gap within test ts x
  unfolding Spells
  placed = record {
    front = v.front;
    middle = v.es;
    behind = v.behind;
    split = split;
    word = v.word;
    chosen = v.chosen;
    headed = v.headed;
    closed = v.closed;
    levels = v.levels;
    body = alone.0;
    spelled = alone.1;
    own = own;
    exchanged = exchanged;
  }

pub one-exchanged : (n gap : ℕ) (within test : Word → Bool) (ts : Tokens) (x : Text) → Spells n ts x → count_tops within test x.tops ≡ 1 → IsPlaced n gap within test ts x
unfolding Spells
one-exchanged n gap within test ts x h e = placed n gap within test ts x h e
