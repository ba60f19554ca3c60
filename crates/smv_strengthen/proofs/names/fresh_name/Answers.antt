use Rattle.std.proofs.Common.{◌≡◌, List, true, false, is_some, length, sym, ap, ◌∙◌}
use Rattle.std.specs.List.{list_any}
use Rattle.smv_core.specs.Values.{Name}
use Rattle.smv_core.specs.declared.token.Token.{Token}
use Rattle.name_index.specs.Position.{position}
use Rattle.law_strengthened_claims.specs.Renaming.{is_name}
use Rattle.law_strengthened_texts.specs.Stronger.{below_name}
use Rattle.smv_strengthen.proofs.NameLaws.{taken-is, taken-passed, free-found}
use Rattle.smv_strengthen.proofs.names.fresh_name.Goals as goal

pub returns-then-not-is_taken : goal.returns-then-not-is_taken
returns-then-not-is_taken c =
    let ts = c.args.tokens.now in
    let k = c.loop-k.k in
    let free : list_any (λ (t : Token). is_name (below_name k) t.kind) ts ≡ false =
    taken-is ts (below_name k) ∙ ap (λ (names : List Name). is_some (position names (below_name k))) (sym c.in_ok-names.ensures) ∙ ap (λ (n : Name). is_some (position c.in_ok-names.names n)) (sym c.in_ok-name.ensures) ∙ sym c.is_taken.ensures ∙ c.if-not-is_taken.true in
    c.in_ok-name.ensures ∙ sym (free-found ts (length ts) k c.loop-k-test.true free) ∙ c.loop-k.invariant

pub loop-k-preserved : goal.loop-k-preserved
loop-k-preserved c =
    let ts = c.args.tokens.now in
    let k = c.loop-k.k in
    let taken : list_any (λ (t : Token). is_name (below_name k) t.kind) ts ≡ true =
    taken-is ts (below_name k) ∙ ap (λ (names : List Name). is_some (position names (below_name k))) (sym c.in_ok-names.ensures) ∙ ap (λ (n : Name). is_some (position c.in_ok-names.names n)) (sym c.in_ok-name.ensures) ∙ sym c.is_taken.ensures ∙ c.if-not-is_taken.false in
    sym (taken-passed ts (length ts) k c.loop-k-test.true taken) ∙ c.loop-k.invariant
