-- What tries may tell.
use Rattle.std.proofs.Common.{◌≡◌, ℕ, false, refl, sym, subst}
use Rattle.smv_rings.specs.Lists.{Lists}
use Rattle.law_events.specs.Events.{Event, IsFirstEvent}
use Rattle.law_events.specs.Events.Event.{Counted, Reached, Shut, Images}
use Rattle.law_obligations.specs.Readings.{PosedCase, IsCase}
use Rattle.law_reports.specs.Verdicts.{MayBeTold}
use Rattle.law_reports.proofs.Shortest.{same_steps, not_both}
use Rattle.law_arrangements.specs.Arrangements.{declared}
use Rattle.law_arrangements.specs.ArrangedLists.{lists_over}
use Rattle.law_arrangements.specs.Tries.{is_counted, TriesMayBeTold, DeclaredMayBeTold, OneIsTold}
use Rattle.law_arrangements.proofs.Declared.{declared_is_arrangement, declared_is_today}
use Rattle.law_arrangements.proofs.Events.{shut_is_none, reached_is_shortest}
use Rattle.law_arrangements.proofs.Spent.{images_are_spent}

pub tries_may_be_told : TriesMayBeTold
tries_may_be_told c is o ok nodes part steps (Counted n) e v = absurd (cc)
tries_may_be_told c is o ok nodes part steps (Reached k) e v = reached_is_shortest c is o ok part steps k v
tries_may_be_told c is o ok nodes part steps (Shut k) e v = shut_is_none c is o ok part steps k v
tries_may_be_told c is o ok nodes part steps Images e v = images_are_spent c is o ok part steps v

over_declared : (c : PosedCase) → IsCase c → (nodes steps : ℕ) (v : Event) → is_counted v ≡ false → IsFirstEvent (lists_over c (declared c)) nodes steps v → MayBeTold nodes steps c v
over_declared c is nodes steps v e first = tries_may_be_told c is (declared c) (declared_is_arrangement c is) nodes nodes steps v e first

pub declared_may_be_told : DeclaredMayBeTold
declared_may_be_told c is nodes steps (Counted n) first = first
declared_may_be_told c is nodes steps (Reached k) first = over_declared c is nodes steps (Reached k) refl (subst (λ (l : Lists). IsFirstEvent l nodes steps (Reached k)) (sym (declared_is_today c is)) first)
declared_may_be_told c is nodes steps (Shut k) first = over_declared c is nodes steps (Shut k) refl (subst (λ (l : Lists). IsFirstEvent l nodes steps (Shut k)) (sym (declared_is_today c is)) first)
declared_may_be_told c is nodes steps Images first = over_declared c is nodes steps Images refl (subst (λ (l : Lists). IsFirstEvent l nodes steps Images) (sym (declared_is_today c is)) first)

pub one_is_told : OneIsTold
one_is_told c nodes steps (Shut j) (Shut k) a b e g = tt
one_is_told c nodes steps (Shut j) (Reached k) a b e g = absurd (not_both c k b.0 a b.1)
one_is_told c nodes steps (Reached j) (Shut k) a b e g = absurd (not_both c j a.0 b a.1)
one_is_told c nodes steps (Reached j) (Reached k) a b e g = same_steps c j k a.0 b.0 a.1 b.1
one_is_told c nodes steps (Counted n) w a b e g = absurd (cc (e))
one_is_told c nodes steps Images w a b e g = absurd (cc (e))
one_is_told c nodes steps (Shut j) (Counted n) a b e g = absurd (cc (g))
one_is_told c nodes steps (Shut j) Images a b e g = absurd (cc (g))
one_is_told c nodes steps (Reached j) (Counted n) a b e g = absurd (cc (g))
one_is_told c nodes steps (Reached j) Images a b e g = absurd (cc (g))
