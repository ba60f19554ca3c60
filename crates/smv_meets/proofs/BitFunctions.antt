-- The functions of the bits, one after the other.
use Rattle.std.proofs.Common.{◌≡◌, ◌∙◌, ◌⊎◌, inl, inr, ℕ, ◌+◌, ◌*◌, ◌<◌, List, [], ◌∷◌, ◌++◌, length, Bool, true, false, if◌then◌else◌, refl, sym, ap, subst, arith, length-append}
use Rattle.std.specs.Prelude.{get_or}
use Rattle.std.proofs.lemmas.List.{get_or_append_left, get_or_push}
use Rattle.bdd_store.specs.declared.Ref.{Ref}
use Rattle.bdd_store.specs.Diagram.{Diagram, IsLive, Keeps, table, ref_at, first_var}
use Rattle.law_obligations.specs.Sets.{Has}
use Rattle.smv_orders.proofs.Orders.{has_at}
use Rattle.smv_meets.specs.Bits.{AreBitsAt}

-- those of so many places
pub record AreUpTo (old d : Diagram) (places : List ℕ) (n : ℕ) (bits : List Ref) : Type 0 where
  pub keeps : Keeps old d
  pub count : length bits ≡ n
  pub live : (b : ℕ) → b < n → IsLive d (ref_at bits b)
  pub tables : (b : ℕ) → b < n → (a : ℕ → Bool) → table d (ref_at bits b) a ≡ a (2 * get_or places b 0)

-- the variable of a place is one of the store, and stands before those on which a constant depends
module _ (old d : Diagram) (places : List ℕ) (i place : ℕ) (keeps : Keeps old d) (within : (p : ℕ) → Has places p → 2 * p < old.vars) (lt : i < length places) (same : place ≡ get_or places i 0) where
  in_old : 2 * place < old.vars
  in_old = let there = within (get_or places i 0) (has_at places i lt) in omega (arith, there, same)

  pub is_variable : 2 * place < d.vars
  is_variable = let there = in_old in let vars = keeps.vars in omega (arith, there, vars)

  pub is_before : (r : Ref) → IsLive old r → first_var old r ≡ old.vars → 2 * place < first_var d r
  is_before r live first = let there = in_old in let kept = keeps.firsts r live in omega (arith, there, kept, first)

pub own_bit : (t : Bool) → (if t then true else false) ≡ t
own_bit true = refl
own_bit false = refl

before_or_at : (b n : ℕ) → b < n + 1 → (b < n) ⊎ (n ≡ b)
before_or_at b n lt = grind arith

module _ (old d e : Diagram) (places : List ℕ) (n : ℕ) (bits : List Ref) (made : Ref) (are : AreUpTo old d places n bits) where
  old_ref : (b : ℕ) → b < n → ref_at (bits ++ made ∷ []) b ≡ ref_at bits b
  old_ref b lt = let count = are.count in get_or_append_left bits (made ∷ []) (record { place = 0 }) b (omega (arith, lt, count))

  new_ref : ref_at (bits ++ made ∷ []) n ≡ made
  new_ref = get_or_push bits made (record { place = 0 }) n are.count

  each : (P : ℕ → Type 0) → ((b : ℕ) → b < n → P b) → P n → (b : ℕ) → b < n + 1 → P b
  each P before here b lt = elim (before_or_at b n lt) [ inl less ↦ before b less | inr same ↦ subst P same here ]

  pub one_more : Keeps old e → Keeps d e → IsLive e made → ((a : ℕ → Bool) → table e made a ≡ a (2 * get_or places n 0)) → AreUpTo old e places (n + 1) (bits ++ made ∷ [])
  one_more all keeps live is = record {
    keeps = all;
    count = let count = are.count in let r : length (bits ++ made ∷ []) ≡ length bits + 1 = length-append bits (made ∷ []) in omega (arith, count, r);
    live = each (λ (b : ℕ). IsLive e (ref_at (bits ++ made ∷ []) b)) (λ b lt. subst (IsLive e) (sym (old_ref b lt)) (keeps.live (ref_at bits b) (are.live b lt))) (subst (IsLive e) (sym new_ref) live);
    tables = each (λ (b : ℕ). (a : ℕ → Bool) → table e (ref_at (bits ++ made ∷ []) b) a ≡ a (2 * get_or places b 0))
        (λ b lt a. ap (λ (r : Ref). table e r a) (old_ref b lt) ∙ (keeps.tables (ref_at bits b) (are.live b lt) a ∙ are.tables b lt a))
        (λ a. ap (λ (r : Ref). table e r a) new_ref ∙ is a);
  }

pub all_bits : (old d : Diagram) (places : List ℕ) (n : ℕ) (bits : List Ref) → AreUpTo old d places n bits → n ≡ length places → AreBitsAt d places bits
all_bits old d places n bits are same = record {
  count = are.count ∙ same;
  live = λ b lt. are.live b (omega (arith, lt, same));
  tables = λ b lt a. are.tables b (omega (arith, lt, same)) a;
}
