-- Tokens of the same kinds spell the same expression, places aside, and no expression has a `;`.
use Rattle.std.proofs.Common.{◌≡◌, ◌≤◌, arith, ℕ, [], false, sym, ap, ◌∙◌, subst}
use Rattle.std.proofs.lemmas.List.{append-nil}
use Rattle.smv_core.specs.declared.tree.Expr.{Expr}
use Rattle.smv_core.specs.Notation.{Tokens, same_kind}
use Rattle.smv_core.specs.Signs.{semicolon}
use Rattle.law_places.specs.Placeless.{placeless}
use Rattle.law_spelled_alike.specs.Local.{kinds_of, AllKinds}
use Rattle.law_grammar.specs.Laws.{SpellsExpr}
use Rattle.law_spelled_alike.proofs.Plain.{same-expression}

pub spelled-alike : (n m : ℕ) → n ≤ m → (ts us : Tokens) (x : Expr) → SpellsExpr n ts x → kinds_of us ≡ kinds_of ts → (y : Expr) × SpellsExpr m us y × (placeless x ≡ placeless y)
spelled-alike n m le ts us x h e =
    let u = same-expression (λ k. Unit {0}) (λ k q. tt) n m le ts x [] h in
    let v = u.again us [] (e ∙ ap kinds_of (u.split ∙ append-nil u.front)) in
    (v.0, subst (λ l. SpellsExpr m l v.0) (append-nil us) v.1, v.2)

pub no-semicolon : (n : ℕ) (ts : Tokens) (x : Expr) → SpellsExpr n ts x → AllKinds (λ k. same_kind k semicolon ≡ false) ts
no-semicolon n ts x h =
    let u = same-expression (λ k. same_kind k semicolon ≡ false) (λ k q. q) n n (omega arith) ts x [] h in
    subst (AllKinds (λ k. same_kind k semicolon ≡ false)) (sym (u.split ∙ append-nil u.front)) u.each
