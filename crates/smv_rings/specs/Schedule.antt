-- The functions that a search appends, in order, each with the functions that are live when it is appended.
use Rattle.std.specs.Prelude.{ℕ, zero, suc, ◌*◌, Bool, true, ◌&&◌, not, List, [], ◌∷◌, ◌++◌, map}
use Rattle.std.specs.List.{filter}
use Rattle.bdd_ops.specs.Functions.{Function, some_at, lowered, depends}
use Rattle.smv_rings.specs.Functions.{always, conj, disj}
use Rattle.smv_rings.specs.Lists.{Lists}

-- what is looked at when a function is appended
pub data Look : Type 0 where
  Pass : Look  -- nothing
  Broken : ℕ → Look  -- if the function isn't false, a violating path of so many steps exists
  Ring : ℕ → Function → Look  -- the function is the ring after so many images, and this is the ring before it

pub record Line : Type 0 where
  pub kept : List Function  -- the functions of the lists so far, and the rings so far
  pub source : List Function  -- what the function was made from: one function or none
  pub made : Function
  pub look : Look

-- the functions that are counted
abbrev pub live : Line → List Function
live line = line.kept ++ (line.source ++ (line.made ∷ []))

-- what is done to P, the set that the acts carry along
pub data Act : Type 0 where
  Join : Function → Act  -- the conjunction with a function
  Out : ℕ → Act  -- a variable is quantified out
  Look_at : ℕ → Function → Act  -- the conjunction with a function, which is looked at and given up
  Lower : Act  -- next variables become current ones

abbrev pub made_by : Act → Function → Function
made_by (Join f) p = conj p f
made_by (Out v) p = some_at v p
made_by (Look_at k f) p = conj p f
made_by Lower p = lowered p

-- P after the act
abbrev pub left_by : Act → Function → Function
left_by (Join f) p = conj p f
left_by (Out v) p = some_at v p
left_by (Look_at k f) p = p
left_by Lower p = lowered p

abbrev pub look_of : Act → Look
look_of (Join f) = Pass
look_of (Out v) = Pass
look_of (Look_at k f) = Broken k
look_of Lower = Pass

-- the lines of acts on p, and what they leave
abbrev pub lines : List Function → Function → List Act → List Line
lines kept p [] = []
lines kept p (act ∷ acts) = record { kept = kept; source = p ∷ []; made = made_by act p; look = look_of act } ∷ lines kept (left_by act p) acts

abbrev pub after : Function → List Act → Function
after p [] = p
after p (act ∷ acts) = after (left_by act p) acts

-- first the functions of the lists, each behind those before it
abbrev pub functions : Lists → List Function
functions l = l.now_first ++ (l.before_first ++ (l.broken_first ∷ (l.now_step ++ (l.before_step ++ (l.broken_step ∷ [])))))

abbrev pub one_by_one : List Function → List Function → List Line
one_by_one kept [] = []
one_by_one kept (f ∷ fs) = record { kept = kept; source = []; made = f; look = Pass } ∷ one_by_one (kept ++ (f ∷ [])) fs

-- then the conjunctions of the first one, two and more functions of what holds now
abbrev pub first_lines : List Function → List Function → List Line
first_lines kept [] = []
first_lines kept (f ∷ fs) = record { kept = kept; source = []; made = f; look = Pass } ∷ lines kept f (map Join fs)

abbrev pub first_all : List Function → Function
first_all [] = always
first_all (f ∷ fs) = after f (map Join fs)

-- the current variables
abbrev pub evens : ℕ → List ℕ
evens zero = []
evens (suc b) = evens b ++ (2 * b ∷ [])

abbrev pub reads_none : ℕ → List Function → ℕ → Bool
reads_none n [] v = true
reads_none n (f ∷ fs) v = not (depends n f v) && reads_none n fs v

module _ (l : Lists) where
  abbrev pub vars : ℕ
  vars = 2 * l.bits

  -- the current variables that f is the last function to depend on, where `later` come behind it
  abbrev pub outs : Function → List Function → List Act
  outs f later = map Out (filter (λ v. depends vars f v && reads_none vars later v) (evens l.bits))

  -- conjunctions with functions, each with the quantifications that belong to it, where `later` come behind them
  abbrev pub joins : List Function → List Function → List Act
  joins [] later = []
  joins (f ∷ fs) later = Join f ∷ (outs f (fs ++ later) ++ joins fs later)

  -- the quantification of current variables that belong to no function
  abbrev pub unread : List Act
  unread = map Out (filter (reads_none vars (l.now_step ++ (l.broken_step ∷ l.before_step))) (evens l.bits))

  -- what a turn does before it looks for a violating path, and after
  abbrev pub forth : List Act
  forth = unread ++ joins l.now_step (l.broken_step ∷ l.before_step)

  abbrev pub back : List Act
  back = outs l.broken_step l.before_step ++ (joins l.before_step [] ++ (Lower ∷ []))

  -- one turn, where k images were made before
  abbrev pub turn : ℕ → List Act
  turn k = forth ++ (Look_at (suc k) l.broken_step ∷ back)

  abbrev pub ring : ℕ → Function
  ring zero = after (first_all l.now_first) (map Join l.before_first)
  ring (suc k) = disj (after (ring k) (turn k)) (ring k)

  -- the functions of the lists and rings 0 to k
  abbrev pub kept_at : ℕ → List Function
  kept_at zero = functions l ++ (ring zero ∷ [])
  kept_at (suc k) = kept_at k ++ (ring (suc k) ∷ [])

  abbrev pub turn_lines : ℕ → List Line
  turn_lines k =
      lines (kept_at k) (ring k) (turn k)
      ++ (record { kept = kept_at k; source = after (ring k) (turn k) ∷ []; made = ring (suc k); look = Ring (suc k) (ring k) } ∷ [])

  -- the schedule up to and with image k
  abbrev pub schedule : ℕ → List Line
  schedule zero =
      one_by_one [] (functions l)
      ++ (first_lines (functions l) l.now_first
      ++ (lines (functions l) (first_all l.now_first) (Look_at 0 l.broken_first ∷ map Join l.before_first)))
  schedule (suc k) = schedule k ++ turn_lines k

  -- the function that is looked at for a violating path of so many steps
  abbrev pub looked : ℕ → Function
  looked zero = conj (first_all l.now_first) l.broken_first
  looked (suc k) = conj (after (ring k) forth) l.broken_step
