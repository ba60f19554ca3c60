-- Bindings that agree, by their last variables.
use Rattle.std.proofs.Common.{◌≡◌, ◌↔◌, ℕ, suc, length, List, [], ◌∷◌, ◌++◌, Bool, true, false, not, IsTrue, Some, arith, refl, sym, ap, subst, true≢false}
use Rattle.smv_spots.specs.declared.spots.Spot.{Spot}
use Rattle.law_obligations.specs.FreeReads.{Agree}
use Rattle.smv_free_variables.specs.Alike.{AllAgree}

-- a variable that is read, or not, where the spots are apart
pub read_apart : (read : Bool) (p q : Spot) → (Some p ≡ Some q → ⊥) → IsTrue (not read) ↔ (read ≡ true → p ≡ q)
read_apart true p q apart = (λ no. absurd (true≢false (sym no)), λ same. absurd (apart (ap Some (same refl))))
read_apart false p q apart = (λ no read. absurd (true≢false (sym read)), λ same. refl)

-- one variable more
pub agree_last : {X : Type 0} (f : ℕ → Bool) (b c : List X) (p q : X) → Agree f b c → (f (length b) ≡ true → p ≡ q) → Agree f (b ++ p ∷ []) (c ++ q ∷ [])
agree_last f [] [] p q h e = (e, tt)
agree_last f [] (y ∷ c) p q h e = absurd h
agree_last f (x ∷ b) [] p q h e = absurd h
agree_last f (x ∷ b) (y ∷ c) p q h e = (h.0, agree_last (λ k. f (suc k)) b c p q h.1 e)

pub agree_none : {X : Type 0} (f : ℕ → Bool) (b c : List X) → length b ≡ 0 → c ≡ [] → Agree f b c
agree_none f [] [] d e = tt
agree_none f [] (y ∷ c) d e = absurd (omega (arith, ap length e))
agree_none f (x ∷ b) c d e = absurd (omega arith)

-- one variable less
last_agree : {X : Type 0} (f : ℕ → Bool) (b c : List X) (p q : X) → Agree f (b ++ p ∷ []) (c ++ q ∷ []) → Agree f b c × (f (length b) ≡ true → p ≡ q)
last_agree f [] [] p q h = (tt, h.0)
last_agree f [] (y ∷ []) p q h = absurd h.1
last_agree f [] (y ∷ z ∷ c) p q h = absurd h.1
last_agree f (x ∷ []) [] p q h = absurd h.1
last_agree f (x ∷ z ∷ b) [] p q h = absurd h.1
last_agree f (x ∷ b) (y ∷ c) p q h = let rest = last_agree (λ k. f (suc k)) b c p q h.1 in ((h.0, rest.0), rest.1)

pub none_agree : {X : Type 0} (f : ℕ → Bool) (b c : List X) → length b ≡ 0 → Agree f b c → c ≡ []
none_agree f [] [] d h = refl
none_agree f [] (y ∷ c) d h = absurd h
none_agree f (x ∷ b) c d h = absurd (omega arith)

pub some_agree : {X : Type 0} (f : ℕ → Bool) (b c ps : List X) (p : X) → b ≡ ps ++ p ∷ [] → length c ≡ 0 → Agree f b c → ⊥
some_agree f b [] [] p d e h = subst (λ l. Agree f l []) d h
some_agree f b [] (x ∷ ps) p d e h = subst (λ l. Agree f l []) d h
some_agree f b (y ∷ c) ps p d e h = omega arith

pub agree_by_last : {X : Type 0} (f : ℕ → Bool) (b c ps qs : List X) (p q : X) → b ≡ ps ++ p ∷ [] → c ≡ qs ++ q ∷ [] → Agree f ps qs → (f (length ps) ≡ true → p ≡ q) → Agree f b c
agree_by_last f b c ps qs p q d e h same = subst (λ l. Agree f l c) (sym d) (subst (λ l. Agree f (ps ++ p ∷ []) l) (sym e) (agree_last f ps qs p q h same))

pub last_of_both : {X : Type 0} (f : ℕ → Bool) (b c ps qs : List X) (p q : X) → b ≡ ps ++ p ∷ [] → c ≡ qs ++ q ∷ [] → Agree f b c → Agree f ps qs × (f (length ps) ≡ true → p ≡ q)
last_of_both f b c ps qs p q d e h = last_agree f ps qs p q (subst (λ l. Agree f (ps ++ p ∷ []) l) e (subst (λ l. Agree f l c) d h))

pub all_none : (f : ℕ → Bool) (first : List Spot) (bs : List (List Spot)) → length bs ≡ 0 → AllAgree f first bs
all_none f first [] e = tt
all_none f first (b ∷ bs) e = absurd (omega arith)

pub all_more : (f : ℕ → Bool) (first b shown : List Spot) (bs others : List (List Spot)) → bs ≡ b ∷ others → shown ≡ b → Agree f first shown → AllAgree f first others → AllAgree f first bs
all_more f first b shown bs others d e h k = subst (AllAgree f first) (sym d) (subst (Agree f first) e h, k)

pub more_all : (f : ℕ → Bool) (first b shown : List Spot) (bs others : List (List Spot)) → bs ≡ b ∷ others → shown ≡ b → AllAgree f first bs → Agree f first shown × AllAgree f first others
more_all f first b shown bs others d e h = let both = subst (AllAgree f first) d h in (subst (Agree f first) (sym e) both.0, both.1)
