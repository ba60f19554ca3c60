-- Diagrams that keep what is live.
use Rattle.std.proofs.Common.{◌≡◌, suc, List, [], ◌∷◌, map, refl, ◌∙◌, ap, arith}
use Rattle.bdd_store.specs.declared.Ref.{Ref}
use Rattle.bdd_store.specs.Diagram.{Diagram, IsLive, AreLive, Keeps, table, ref_at}

pub keeps_self : (d : Diagram) → Keeps d d
keeps_self d = record { vars = refl; live = λ r live. live; tables = λ r live a. refl; reached = λ f r f_live live reaches. reaches; firsts = λ r live. refl }

pub keeps_then : (d e f : Diagram) → Keeps d e → Keeps e f → Keeps d f
keeps_then d e f k m = record {
  vars = m.vars ∙ k.vars;
  live = λ r live. m.live r (k.live r live);
  tables = λ r live a. m.tables r (k.live r live) a ∙ k.tables r live a;
  reached = λ q r q_live live reaches. m.reached q r (k.live q q_live) (k.live r live) (k.reached q r q_live live reaches);
  firsts = λ r live. m.firsts r (k.live r live) ∙ k.firsts r live;
}

-- a Ref that keeps its table keeps it as a function
pub table_kept : (d e : Diagram) (r : Ref) → Keeps d e → IsLive d r → table e r ≡ table d r
table_kept d e r keeps live = λ i a. keeps.tables r live a i

pub functions_kept : (d e : Diagram) (rs : List Ref) → Keeps d e → AreLive d rs → map (table e) rs ≡ map (table d) rs
functions_kept d e [] keeps live = refl
functions_kept d e (r ∷ rs) keeps live =
    ap (λ f. f ∷ map (table e) rs) (table_kept d e r keeps (live 0 (omega arith)))
    ∙ ap (λ fs. table d r ∷ fs) (functions_kept d e rs keeps (λ i lt. live (suc i) (omega arith)))

pub live_kept : (d e : Diagram) (rs : List Ref) → Keeps d e → AreLive d rs → AreLive e rs
live_kept d e rs keeps live i lt = keeps.live (ref_at rs i) (live i lt)
