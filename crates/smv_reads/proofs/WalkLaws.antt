-- A table of expressions whose elements have been put.
use Rattle.std.proofs.Common.{◌≡◌, List, [], ◌∷◌, ◌++◌, map, sym, ap, subst, ◌∙◌, inl, inr}
use Rattle.smv_core.specs.declared.flat.Element.{Element}
use Rattle.smv_core.specs.declared.flat.FlatExpr.{FlatExpr}
use Rattle.law_obligations.specs.Sets.{Has}
use Rattle.law_obligations.proofs.Members.{Has-cases, Has-uncons}
use Rattle.smv_problem.specs.Written.{written_element}
use Rattle.smv_elements.specs.Elements.{put_all}
use Rattle.smv_spots.specs.declared.spots.Spot.{Spot}
use Rattle.smv_free_variables.specs.Placeless.{placeless}
use Rattle.smv_free_variables.specs.Known.{IsKnownOf}
use Rattle.smv_free_variables.specs.declared.known.Entry.{Entry}
use Rattle.smv_free_variables.proofs.PlaceLaws.{elements_same}
use Rattle.smv_reads.specs.declared.bindings.View.{View}
use Rattle.smv_reads.specs.Views.{world_of, places}
use Rattle.smv_reads.specs.Reading.{read_in, AreWalked}
use Rattle.smv_reads.proofs.Again.{put-again, put-later}
use Rattle.smv_reads.proofs.FreeLaws.{read-alike}

-- expressions that differ by their places in the text alone
read-same : (v : View) (b : List Spot) (d e : FlatExpr) → placeless d ≡ placeless e → read_in v b d ≡ read_in v b e
unfolding read_in
read-same v b d e same = ap (map written_element) (elements_same (world_of v) d e (places v b) same)

module _ {A : Type 0} (v : View) where
  pub none-walked : (found : List Element) (entries : List (Entry A)) → entries ≡ [] → AreWalked v found entries
  unfolding AreWalked
  none-walked found entries e x h = absurd (nothing (subst (λ l. Has l x) e h))
    where
      nothing : {x : Entry A} → Has [] x → ⊥
      nothing h = elim h [ ]

  -- when more is put
  pub walked-kept : (found new xs : List Element) (entries : List (Entry A)) → new ≡ put_all found xs → AreWalked v found entries → AreWalked v new entries
  unfolding AreWalked
  walked-kept found new xs entries e h x there = subst (λ l. put_all l (read_in v x.bindings x.of.now) ≡ l) (sym e) (put-later found xs (read_in v x.bindings x.of.now) (h x there))

  -- what is known puts nothing
  pub known-walked : (found : List Element) (entries : List (Entry A)) (e : FlatExpr) (b : List Spot) (answer : A) → AreWalked v found entries → IsKnownOf entries e b answer → found ≡ put_all found (read_in v b e)
  unfolding AreWalked
  known-walked found entries e b answer h known =
      let x : Entry A = known.0 in
      let says = known.1.1.0 in
      sym (ap (put_all found) (sym (read-same v x.bindings x.of.now e says.same ∙ read-alike v e x.bindings b says.agree)) ∙ h x known.1.0)

  -- one more
  pub more-walked : (start found : List Element) (entries new : List (Entry A)) (x : Entry A) → new ≡ entries ++ x ∷ [] → found ≡ put_all start (read_in v x.bindings x.of.now) → AreWalked v found entries → AreWalked v found new
  unfolding AreWalked
  more-walked start found entries new x e put h y there = elim (Has-cases entries (x ∷ []) (subst (λ l. Has l y) e there)) [
    | inl l ↦ h y l
    | inr r ↦ elim (Has-uncons r) [
      | inl here ↦ subst (λ z. put_all found (read_in v z.bindings z.of.now) ≡ found) (sym here) (subst (λ l. put_all l (read_in v x.bindings x.of.now) ≡ l) (sym put) (put-again start (read_in v x.bindings x.of.now)))
      | inr m ↦ elim m [ ]
    ]
  ]

pub ruleset none_walked = (none-walked)

pub ruleset put_more = (walked-kept)
