-- Searches.
use Rattle.std.proofs.Common.{◌≡◌, ℕ, ◌+◌, ◌<◌, ◌≤◌, List, [], ◌++◌, length, Bool, true, sym, ap, subst, ◌∙◌, ◌⊎◌, inl, inr, Some, arith}
use Rattle.std.specs.List.{slice_get, list_any}
use Rattle.std.proofs.lemmas.Option.{slice_get_within}
use Rattle.std.proofs.lemmas.List.{append-nil}
use Rattle.law_lists.proofs.Options.{some_is}
use Rattle.law_obligations.specs.Sets.{Has}
use Rattle.law_obligations.proofs.Members.{Has-left, Has-cases, any-found, any-some}
use Rattle.law_obligations.proofs.OneOfEach.{Has_get, get_Has, get_before}
use Rattle.law_obligations.specs.Reached.{IsLeast}
use Rattle.law_problems.specs.Search.{IsSearch}

below_or_at : (k n : ℕ) → k < n + 1 → (k < n) ⊎ (k ≡ n)
below_or_at k n l = grind arith

module _ {X : Type 0} (next : X → List X) (from set : List X) (least : IsLeast next from set) where
  pub search-begun : (found : List X) → ((x : X) → Has from x → Has found x) → ((x : X) → Has found x → Has from x) → IsSearch next from set found 0
  search-begun found there back = record { begins = there; within = λ x h. least.begins x (back x h); closed = λ k x l. absurd (omega arith) }

  pub search-turn : (found more : List X) (turn : ℕ) (x : X) → IsSearch next from set found turn → slice_get found turn ≡ Some x → ((y : X) → Has more y → Has (next x) y) → ((y : X) → Has (next x) y → Has (found ++ more) y) →
      IsSearch next from set (found ++ more) (turn + 1)
  search-turn found more turn x s at fresh all = record {
    begins = λ y h. Has-left more (s.begins y h);
    within = λ y h. elim (Has-cases found more h) [ inl l ↦ s.within y l | inr r ↦ least.goes_on x y (s.within x (get_Has found turn x at)) (fresh y r) ];
    closed = closed;
  }
    where
      in_front : (k : ℕ) (z : X) → k < length found → slice_get (found ++ more) k ≡ Some z → slice_get found k ≡ Some z
      in_front k z l e = ap (λ xs. slice_get xs k) (sym (append-nil found)) ∙ (get_before found [] more k l ∙ e)

      closed : (k : ℕ) (z : X) → k < turn + 1 → slice_get (found ++ more) k ≡ Some z → (y : X) → Has (next z) y → Has (found ++ more) y
      closed k z l e y h = elim (below_or_at k turn l) [
        | inl less ↦ let past = slice_get_within found turn x at in Has-left more (s.closed k z less (in_front k z (omega (arith, past, less)) e) y h)
        | inr same ↦ let past = slice_get_within found turn x at in
            all y (subst (λ z. Has (next z) y) (some_is (sym (in_front k z (omega (arith, past, same)) e) ∙ (ap (slice_get found) same ∙ at))) h)
      ]

  pub search-over : (same : X → X → Bool) → ((x y : X) → same x y ≡ true → x ≡ y) → ((x : X) → same x x ≡ true) → (found : List X) (turn : ℕ) → IsSearch next from set found turn → length found ≤ turn → (x : X) → Has set x → Has found x
  search-over same equal itself found turn s over x h = is_there x (least.is_least (λ y. list_any (same y) found) (λ y k. among y (s.begins y k)) step x h)
    where
      among : (y : X) → Has found y → list_any (same y) found ≡ true
      among y k = any-found (same y) k (itself y)

      is_there : (y : X) → list_any (same y) found ≡ true → Has found y
      is_there y e = let r = any-some (same y) found e in subst (Has found) (sym (equal y r.0 r.2)) r.1

      step : (y z : X) → list_any (same y) found ≡ true → Has (next y) z → list_any (same z) found ≡ true
      step y z e k = let g = Has_get (is_there y e) in let past = slice_get_within found g.0 y g.1 in among z (s.closed g.0 y (omega (arith, past, over)) g.1 z k)
