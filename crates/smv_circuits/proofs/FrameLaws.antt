-- The frames of a circuit.
use Rattle.std.proofs.Common.{◌≡◌, ◌∙◌, ℕ, suc, ◌+◌, ◌/◌, ◌%◌, ◌<◌, ◌≤◌, Bool, true, false, ◌&&◌, ◌==◌, if◌then◌else◌, List, [], ◌∷◌, ◌++◌, length, map, refl, sym, ap, ap₂, subst, arith}
use Rattle.std.proofs.lemmas.List.{length-append}
use Rattle.bdd_store.specs.declared.Ref.{Ref}
use Rattle.bdd_store.specs.Diagram.{Diagram, table}
use Rattle.smv_rings.specs.declared.Rel.{Rel}
use Rattle.smv_rings.specs.Lists.{all_of, at, both, lists_of}
use Rattle.smv_circuits.specs.declared.circuit.Literal.{Literal}
use Rattle.smv_circuits.specs.declared.circuit.Gate.{Gate}
use Rattle.smv_circuits.specs.Circuits.{Adds, IsCircuit, IsIn, Keeps, value}
use Rattle.smv_circuits.specs.Readings.{first_gate, input_of, latch_of, read_by, started_of}
use Rattle.smv_circuits.specs.Frames.{AreNext, Becomes, IsFrames, Tells, breaks_in_frame, goes_in_frame, new_in, old_in}
use Rattle.smv_circuits.proofs.Values.{input_value}
use Rattle.smv_circuits.proofs.Adds.{in_then, keeps_self, keeps_then}

-- ---- a circuit without gates

pub no_gates : (first : ℕ) (gates : List Gate) → gates ≡ [] → 0 < first → first ≤ 1073741824 → IsCircuit first gates
no_gates first gates e some few = subst (IsCircuit first) (sym e) (record { some = some; few = omega (arith, few); gates = tt })

-- ---- what is told of a new state

module _ (c0 c1 c2 c3 c4 c5 : ℕ) (g0 g1 g2 g3 g4 g5 : List Gate) (met kept violated goes breaks : Literal) (F G H : (ℕ → Bool) → Bool) where
  pub tells : Adds c0 g0 c1 g1 met F → Adds c1 g1 c2 g2 kept G → Adds c2 g2 c3 g3 violated H → Adds c3 g3 c4 g4 goes (λ a. value c3 g3 a met && value c3 g3 a kept) → Adds c4 g4 c5 g5 breaks (λ a. value c4 g4 a met && value c4 g4 a violated) →
      Tells c0 g0 c5 g5 goes breaks (λ a. F a && G a) (λ a. F a && H a)
  tells one two three four five = record {
    circuit = five.circuit;
    keeps = keeps_then c0 c3 c5 g0 g3 g5 (keeps_then c0 c1 c3 g0 g1 g3 one.keeps from_one) from_three;
    goes_in = in_then c4 c5 g4 g5 goes five.keeps four.within;
    breaks_in = five.within;
    goes = λ a.
        five.keeps.same goes four.within a
        ∙ (four.value a ∙ ap₂ ◌&&◌ (from_one.same met one.within a ∙ one.value a) (three.keeps.same kept two.within a ∙ two.value a));
    breaks = λ a.
        five.value a
        ∙ ap₂ ◌&&◌ (four.keeps.same met (in_then c1 c3 g1 g3 met from_one one.within) a ∙ (from_one.same met one.within a ∙ one.value a)) (four.keeps.same violated three.within a ∙ three.value a);
  }
    where
      from_one : Keeps c1 g1 c3 g3
      from_one = keeps_then c1 c2 c3 g1 g2 g3 two.keeps three.keeps

      from_three : Keeps c3 g3 c5 g5
      from_three = keeps_then c3 c4 c5 g3 g4 g5 four.keeps five.keeps

-- the same of what slices show
pub shown_tells : (d : Diagram) (step : Bool) (c0 c1 : ℕ) (g0 g1 : List Gate) (goes breaks : Literal) (n bits : ℕ) (shown_now now shown_before before : List Ref) (target : Ref) → n ≡ bits → shown_now ≡ now → shown_before ≡ before →
    Tells c0 g0 c1 g1 goes breaks (λ a. all_of (map (table d) shown_now) (read_by n step a) && all_of (map (table d) shown_before) (read_by n step a)) (λ a. all_of (map (table d) shown_now) (read_by n step a) && table d target (read_by n step a)) →
    Tells c0 g0 c1 g1 goes breaks (λ a. all_of (map (table d) now) (read_by bits step a) && all_of (map (table d) before) (read_by bits step a)) (λ a. all_of (map (table d) now) (read_by bits step a) && table d target (read_by bits step a))
shown_tells d step c0 c1 g0 g1 goes breaks n bits shown_now now shown_before before target same e f is =
    subst (λ (m : ℕ). Tells c0 g0 c1 g1 goes breaks (λ a. all_of (map (table d) now) (read_by m step a) && all_of (map (table d) before) (read_by m step a)) (λ a. all_of (map (table d) now) (read_by m step a) && table d target (read_by m step a))) same
    (subst (λ (xs : List Ref). Tells c0 g0 c1 g1 goes breaks (λ a. all_of (map (table d) xs) (read_by n step a) && all_of (map (table d) before) (read_by n step a)) (λ a. all_of (map (table d) xs) (read_by n step a) && table d target (read_by n step a))) e
    (subst (λ (xs : List Ref). Tells c0 g0 c1 g1 goes breaks (λ a. all_of (map (table d) shown_now) (read_by n step a) && all_of (map (table d) xs) (read_by n step a)) (λ a. all_of (map (table d) shown_now) (read_by n step a) && table d target (read_by n step a))) f is))

-- ---- what latches become

pub next_then : (first end : ℕ) (old new : List Gate) (test : (ℕ → Bool) → Bool) (bit : ℕ) (ls : List Literal) → Keeps first old end new → AreNext first old test bit ls → AreNext end new test bit ls
next_then first end old new test bit [] keeps are = tt
next_then first end old new test bit (l ∷ ls) keeps ((within, same), more) =
    ((in_then first end old new l keeps within, λ a. keeps.same l within a ∙ same a), next_then first end old new test (suc bit) ls keeps more)

pub next_more : (first : ℕ) (gates : List Gate) (test : (ℕ → Bool) → Bool) (bit : ℕ) (ls : List Literal) (l : Literal) → AreNext first gates test bit ls → IsIn first gates l →
    ((a : ℕ → Bool) → value first gates a l ≡ (test a && a (input_of (bit + length ls)))) → AreNext first gates test bit (ls ++ l ∷ [])
next_more first gates test bit [] l are within same = ((within, λ a. same a ∙ ap (λ (n : ℕ). test a && a (input_of n)) here), tt)
  where
    here : bit + 0 ≡ bit
    here = omega arith
next_more first gates test bit (x ∷ ls) l (own, more) within same =
    (own, next_more first gates test (suc bit) ls l more within (λ a. same a ∙ ap (λ (n : ℕ). test a && a (input_of n)) further))
  where
    further : bit + suc (length ls) ≡ suc bit + length ls
    further = omega arith

pub next_alike : (first : ℕ) (gates : List Gate) (test other : (ℕ → Bool) → Bool) (bit : ℕ) (ls : List Literal) → ((a : ℕ → Bool) → test a ≡ other a) → AreNext first gates test bit ls → AreNext first gates other bit ls
next_alike first gates test other bit [] same are = tt
next_alike first gates test other bit (l ∷ ls) same ((within, is), more) = ((within, λ a. is a ∙ ap (λ (x : Bool). x && a (input_of bit)) (same a)), next_alike first gates test other (suc bit) ls same more)

pub none_become : (first : ℕ) (gates : List Gate) (test : (ℕ → Bool) → Bool) (ls : List Literal) → IsCircuit first gates → ls ≡ [] → Becomes first gates first gates test 0 ls
none_become first gates test ls is e = subst (Becomes first gates first gates test 0) (sym e) (record { circuit = is; keeps = keeps_self first gates; count = refl; next = tt })

-- one latch more
pub one_becomes : (c0 c1 c2 : ℕ) (g0 g1 g2 : List Gate) (test input made : Literal) (bits : ℕ) (ls more : List Literal) → IsIn c0 g0 test → Becomes c0 g0 c1 g1 (λ a. value c0 g0 a test) bits ls →
    Adds c1 g1 c2 g2 made (λ a. value c1 g1 a test && value c1 g1 a input) → ((a : ℕ → Bool) → value c1 g1 a input ≡ a (input_of bits)) → more ≡ ls ++ made ∷ [] → Becomes c0 g0 c2 g2 (λ a. value c0 g0 a test) (bits + 1) more
one_becomes c0 c1 c2 g0 g1 g2 test input made bits ls more within be adds plain e = subst (Becomes c0 g0 c2 g2 (λ a. value c0 g0 a test) (bits + 1)) (sym e) (record {
  circuit = adds.circuit;
  keeps = keeps_then c0 c1 c2 g0 g1 g2 be.keeps adds.keeps;
  count = let long = length-append ls (made ∷ []) in let count = be.count in omega (arith, long, count);
  next = next_more c2 g2 (λ a. value c0 g0 a test) 0 ls made (next_then c1 c2 g1 g2 (λ a. value c0 g0 a test) 0 ls adds.keeps be.next) adds.within
      (λ a. adds.value a ∙ ap₂ ◌&&◌ (be.keeps.same test within a) (plain a ∙ ap (λ (n : ℕ). a (input_of n)) from_zero));
})
  where
    from_zero : bits ≡ 0 + length ls
    from_zero = let count = be.count in omega (arith, count)

-- ---- the variables of a frame

read_old : (bits : ℕ) (a : ℕ → Bool) (v : ℕ) (t : Bool) → a (if t then latch_of bits (v / 2) else input_of (v / 2)) ≡ (if t then old_in bits a (v / 2) else new_in a (v / 2))
read_old bits a v true = refl
read_old bits a v false = refl

pub read_step : (bits : ℕ) (a : ℕ → Bool) → read_by bits true a ≡ both (old_in bits a) (new_in a)
read_step bits a = λ i v. read_old bits a v (v % 2 == 0) i

read_new : (a : ℕ → Bool) (v : ℕ) (t : Bool) → a (input_of (v / 2)) ≡ (if t then new_in a (v / 2) else new_in a (v / 2))
read_new a v true = refl
read_new a v false = refl

pub read_first : (bits : ℕ) (a : ℕ → Bool) → read_by bits false a ≡ at (new_in a)
read_first bits a = λ i v. read_new a v (v % 2 == 0) i

-- ---- all of it

abbrev first_goes : Diagram → Rel → (ℕ → Bool) → Bool
first_goes d rel a = all_of (map (table d) rel.now_first.items) (read_by rel.bits false a) && all_of (map (table d) rel.before_first.items) (read_by rel.bits false a)

abbrev first_breaks : Diagram → Rel → (ℕ → Bool) → Bool
first_breaks d rel a = all_of (map (table d) rel.now_first.items) (read_by rel.bits false a) && table d rel.broken_first (read_by rel.bits false a)

abbrev step_goes : Diagram → Rel → (ℕ → Bool) → Bool
step_goes d rel a = all_of (map (table d) rel.now_step.items) (read_by rel.bits true a) && all_of (map (table d) rel.before_step.items) (read_by rel.bits true a)

abbrev step_breaks : Diagram → Rel → (ℕ → Bool) → Bool
step_breaks d rel a = all_of (map (table d) rel.now_step.items) (read_by rel.bits true a) && table d rel.broken_step (read_by rel.bits true a)

pub bits_is : (d : Diagram) (rel : Rel) → (lists_of d rel).bits ≡ rel.bits
unfolding lists_of
bits_is d rel = refl

goes_is : (d : Diagram) (rel : Rel) (a : ℕ → Bool) → (if a (started_of rel.bits) then step_goes d rel a else first_goes d rel a) ≡ goes_in_frame (lists_of d rel) a
unfolding lists_of
goes_is d rel a =
    ap₂ (λ (x y : ℕ → Bool). if a (started_of rel.bits) then all_of (map (table d) rel.now_step.items) x && all_of (map (table d) rel.before_step.items) x
    else all_of (map (table d) rel.now_first.items) y && all_of (map (table d) rel.before_first.items) y) (read_step rel.bits a) (read_first rel.bits a)

breaks_is : (d : Diagram) (rel : Rel) (a : ℕ → Bool) → (if a (started_of rel.bits) then step_breaks d rel a else first_breaks d rel a) ≡ breaks_in_frame (lists_of d rel) a
unfolding lists_of
breaks_is d rel a =
    ap₂ (λ (x y : ℕ → Bool). if a (started_of rel.bits) then all_of (map (table d) rel.now_step.items) x && table d rel.broken_step x
    else all_of (map (table d) rel.now_first.items) y && table d rel.broken_first y) (read_step rel.bits a) (read_first rel.bits a)

-- the latch of `started`
pub started_in : (bits first : ℕ) (gates : List Gate) (l : Literal) → first ≡ first_gate bits → l.variable ≡ started_of bits → IsIn first gates l
started_in bits first gates l e at = omega (arith, e, at)

started_value : (bits first : ℕ) (gates : List Gate) (l : Literal) → first ≡ first_gate bits → l.variable ≡ started_of bits → l.inverted ≡ false → (a : ℕ → Bool) → value first gates a l ≡ a (started_of bits)
started_value bits first gates l e at plain a = input_value first gates a l (omega (arith, e, at)) (λ z. absurd (omega (arith, z, at))) plain ∙ ap a at

pub input_in : (bits bit first : ℕ) (gates : List Gate) (l : Literal) → bit < bits → first ≡ first_gate bits → l.variable ≡ bit + 1 → IsIn first gates l
input_in bits bit first gates l lt e at = omega (arith, lt, e, at)

pub input_is : (bits bit first : ℕ) (gates : List Gate) (l : Literal) → bit < bits → first ≡ first_gate bits → l.variable ≡ bit + 1 → l.inverted ≡ false → (a : ℕ → Bool) → value first gates a l ≡ a (input_of bit)
input_is bits bit first gates l lt e at plain a = input_value first gates a l (omega (arith, lt, e, at)) (λ z. absurd (omega (arith, z, at))) plain ∙ ap a at

pick : (t u x y v w : Bool) → t ≡ u → x ≡ y → v ≡ w → (if t then x else v) ≡ (if u then y else w)
pick t u x y v w e f g = ap₂ (λ (p q : Bool). if p then q else v) e f ∙ ap (λ (q : Bool). if u then y else q) g

module _ (d : Diagram) (rel : Rel) (c0 c1 c2 c3 c4 c5 : ℕ) (g0 g1 g2 g3 g4 g5 : List Gate) (is_started fgoes fbreaks sgoes sbreaks started broken : Literal) (next : List Literal) where
  pub frames_are : c0 ≡ first_gate rel.bits → is_started.variable ≡ started_of rel.bits → is_started.inverted ≡ false →
      Tells c0 g0 c1 g1 fgoes fbreaks (first_goes d rel) (first_breaks d rel) → Tells c1 g1 c2 g2 sgoes sbreaks (step_goes d rel) (step_breaks d rel) →
      Adds c2 g2 c3 g3 started (λ a. if value c2 g2 a is_started then value c2 g2 a sgoes else value c2 g2 a fgoes) →
      Adds c3 g3 c4 g4 broken (λ a. if value c3 g3 a is_started then value c3 g3 a sbreaks else value c3 g3 a fbreaks) →
      Becomes c4 g4 c5 g5 (λ a. value c4 g4 a started) rel.bits next → IsFrames (lists_of d rel) g5 next started broken
  unfolding lists_of
  frames_are ready at plain one two three four five = record {
    circuit = subst (λ (n : ℕ). IsCircuit n g5) at5 five.circuit;
    count = five.count;
    next = next_alike (first_gate rel.bits) g5 (λ a. value c4 g4 a started) (goes_in_frame (lists_of d rel)) 0 next goes_at4 (subst (λ (n : ℕ). AreNext n g5 (λ a. value c4 g4 a started) 0 next) at5 five.next);
    started_in = subst (λ (n : ℕ). IsIn n g5 started) at5 (in_then c4 c5 g4 g5 started five.keeps (in_then c3 c4 g3 g4 started four.keeps three.within));
    started = λ a.
        subst (λ (n : ℕ). value n g5 a started ≡ goes_in_frame (lists_of d rel) a) at5
        (five.keeps.same started (in_then c3 c4 g3 g4 started four.keeps three.within) a ∙ goes_at4 a);
    broken_in = subst (λ (n : ℕ). IsIn n g5 broken) at5 (in_then c4 c5 g4 g5 broken five.keeps four.within);
    broken = λ a. subst (λ (n : ℕ). value n g5 a broken ≡ breaks_in_frame (lists_of d rel) a) at5 (five.keeps.same broken four.within a ∙ breaks_at4 a);
  }
    where
      at2 : c2 ≡ first_gate rel.bits
      at2 = two.keeps.stays ∙ (one.keeps.stays ∙ ready)

      at3 : c3 ≡ first_gate rel.bits
      at3 = three.keeps.stays ∙ at2

      at5 : c5 ≡ first_gate rel.bits
      at5 = five.keeps.stays ∙ (four.keeps.stays ∙ at3)

      goes_at4 : (a : ℕ → Bool) → value c4 g4 a started ≡ goes_in_frame (lists_of d rel) a
      goes_at4 a =
          four.keeps.same started three.within a
          ∙ (three.value a
          ∙ (pick (value c2 g2 a is_started) (a (started_of rel.bits)) (value c2 g2 a sgoes) (step_goes d rel a) (value c2 g2 a fgoes) (first_goes d rel a) (started_value rel.bits c2 g2 is_started at2 at plain a) (two.goes a)
          (two.keeps.same fgoes one.goes_in a ∙ one.goes a) ∙ goes_is d rel a))

      breaks_at4 : (a : ℕ → Bool) → value c4 g4 a broken ≡ breaks_in_frame (lists_of d rel) a
      breaks_at4 a =
          four.value a
          ∙ (pick (value c3 g3 a is_started) (a (started_of rel.bits)) (value c3 g3 a sbreaks) (step_breaks d rel a) (value c3 g3 a fbreaks) (first_breaks d rel a) (started_value rel.bits c3 g3 is_started at3 at plain a)
          (three.keeps.same sbreaks two.breaks_in a ∙ two.breaks a)
          (three.keeps.same fbreaks (in_then c1 c2 g1 g2 fbreaks two.keeps one.breaks_in) a ∙ (two.keeps.same fbreaks one.breaks_in a ∙ one.breaks a))
          ∙ breaks_is d rel a)
