-- What `&&`, `||` and equations of tests say.
use Rattle.std.proofs.Common.{◌≡◌, Bool, true, false, ◌&&◌, ◌||◌, refl, sym, ◌∙◌, ap}

-- no test is both
pub clash : {b : Bool} → b ≡ true → b ≡ false → ⊥
clash p q = cc

-- so anything follows from both
pub impossible : {A : Type 0} (b : Bool) → b ≡ true → b ≡ false → A
impossible b p q = absurd (cc)

pub left_of : (a b : Bool) → a && b ≡ true → a ≡ true
left_of true b e = refl
left_of false b e = e

pub right_of : (a b : Bool) → a && b ≡ true → b ≡ true
right_of true b e = e
right_of false b e = cc

-- a choice that is false has no true part
pub not_left : (a b : Bool) → a || b ≡ false → a ≡ false
not_left true b e = e
not_left false b e = refl

pub not_right : (a b : Bool) → a || b ≡ false → b ≡ false
not_right true b e = absurd (cc)
not_right false b e = e

-- both parts, where the tests are known from the facts
pub and_both : {a b : Bool} → a ≡ true → b ≡ true → a && b ≡ true
and_both p q = cc

pub either_left : {a : Bool} (b : Bool) → a ≡ true → a || b ≡ true
either_left b p = cc

pub either_right : (a : Bool) {b : Bool} → b ≡ true → a || b ≡ true
either_right true p = refl
either_right false p = p

-- tests that follow from each other are the same
pub same_tests : (a b : Bool) → (a ≡ true → b ≡ true) → (b ≡ true → a ≡ true) → a ≡ b
same_tests true b f g = sym (f refl)
same_tests false true f g = g refl
same_tests false false f g = refl

pub and_alike : (a b c d : Bool) → a ≡ c → b ≡ d → a && b ≡ c && d
and_alike a b c d e g = ap (λ x. x && b) e ∙ ap (λ x. c && x) g

pub or_alike : (a b c d : Bool) → a ≡ c → b ≡ d → a || b ≡ c || d
or_alike a b c d e g = ap (λ x. x || b) e ∙ ap (λ x. c || x) g

pub and_assoc : (a b c : Bool) → (a && b) && c ≡ a && (b && c)
and_assoc true b c = refl
and_assoc false b c = refl
