-- A case has one verdict.
use Rattle.std.proofs.Common.{◌≡◌, ℕ, ◌<◌, ◌≤◌, ◌⊎◌, inl, inr, List, [], ◌∷◌, ◌++◌, refl, sym, ◌∙◌, ap, subst, arith}
use Rattle.bdd_ops.specs.Functions.{Function}
use Rattle.smv_rings.specs.Schedule.{Look, Line}
use Rattle.smv_rings.specs.Schedule.Look.{Pass, Broken, Ring}
use Rattle.law_events.specs.Events.{Budget, Event, count, told, Goes, Settles, IsUneventful, Decides, AllUneventful, First}
use Rattle.law_events.specs.Events.Event.{Counted, Reached, Shut, Images}

settles_once : (images : ℕ) (f : Function) (look : Look) (v w : Event) → Settles images f look v → Settles images f look w → v ≡ w
settles_once images f Pass v w s t = absurd s
settles_once images f (Broken k) (Reached i) (Reached j) s t = ap Reached (s.1 ∙ sym t.1)
settles_once images f (Broken k) (Reached i) (Counted j) s t = absurd t
settles_once images f (Broken k) (Reached i) (Shut j) s t = absurd t
settles_once images f (Broken k) (Reached i) Images s t = absurd t
settles_once images f (Broken k) (Counted i) w s t = absurd s
settles_once images f (Broken k) (Shut i) w s t = absurd s
settles_once images f (Broken k) Images w s t = absurd s
settles_once images f (Ring k old) (Shut i) (Shut j) s t = ap Shut (omega (arith, s.1, t.1))
settles_once images f (Ring k old) (Shut i) Images s t = absurd (t.0 s.0)
settles_once images f (Ring k old) (Shut i) (Counted j) s t = absurd t
settles_once images f (Ring k old) (Shut i) (Reached j) s t = absurd t
settles_once images f (Ring k old) Images (Shut j) s t = absurd (s.0 t.0)
settles_once images f (Ring k old) Images Images s t = refl
settles_once images f (Ring k old) Images (Counted j) s t = absurd t
settles_once images f (Ring k old) Images (Reached j) s t = absurd t
settles_once images f (Ring k old) (Counted i) w s t = absurd s
settles_once images f (Ring k old) (Reached i) w s t = absurd s

goes_not : (images : ℕ) (f : Function) (look : Look) (v : Event) → Goes images f look → Settles images f look v → ⊥
goes_not images f Pass v goes s = s
goes_not images f (Broken k) (Reached i) goes s = s.0 goes
goes_not images f (Broken k) (Counted i) goes s = s
goes_not images f (Broken k) (Shut i) goes s = s
goes_not images f (Broken k) Images goes s = s
goes_not images f (Ring k old) (Shut i) goes s = goes.0 s.0
goes_not images f (Ring k old) Images goes s = goes.1 s.1
goes_not images f (Ring k old) (Counted i) goes s = s
goes_not images f (Ring k old) (Reached i) goes s = s

-- a verdict other than by the count
abbrev settled : Budget → Line → Event → Type 0
settled b line v = (count b.vars line ≤ b.nodes) × Settles b.images line.made line.look v

by_kind : (b : Budget) (line : Line) (v : Event) → Decides b line v → ((b.nodes < count b.vars line) × (v ≡ Counted (told b.nodes (count b.vars line)))) ⊎ settled b line v
by_kind b line (Counted n) d = inl (d.0, ap Counted d.1)
by_kind b line (Reached k) d = inr d
by_kind b line (Shut k) d = inr d
by_kind b line Images d = inr d

decides_once : (b : Budget) (line : Line) (v w : Event) → Decides b line v → Decides b line w → v ≡ w
decides_once b line v w d e = elim (by_kind b line v d) [
  | inl many ↦ elim (by_kind b line w e) [
    | inl also ↦ many.1 ∙ sym also.1
    | inr few ↦ absurd (omega (arith, many.0, few.0))
  ]
  | inr few ↦ elim (by_kind b line w e) [
    | inl many ↦ absurd (omega (arith, many.0, few.0))
    | inr also ↦ settles_once b.images line.made line.look v w few.1 also.1
  ]
]

passes_not : (b : Budget) (line : Line) (v : Event) → IsUneventful b line → Decides b line v → ⊥
passes_not b line v pass d = elim (by_kind b line v d) [
  | inl many ↦ omega (arith, many.0, pass.0)
  | inr few ↦ goes_not b.images line.made line.look v pass.1 few.1
]

-- the first event, line by line
abbrev Begins : Budget → List Line → Event → Type 0
Begins b [] v = ⊥
Begins b (line ∷ lines) v = Decides b line v ⊎ (IsUneventful b line × Begins b lines v)

begins_at : (b : Budget) (before : List Line) (line : Line) (behind : List Line) (v : Event) → AllUneventful b before → Decides b line v → Begins b (before ++ (line ∷ behind)) v
unfolding AllUneventful
begins_at b [] line behind v pass d = inl d
begins_at b (first ∷ before) line behind v pass d = inr (pass.0, begins_at b before line behind v pass.1 d)

begins_of : (b : Budget) (lines : List Line) (v : Event) → First b lines v → Begins b lines v
unfolding First
begins_of b lines v (before, line, behind, is, pass, d) = subst (λ ls. Begins b ls v) (sym is) (begins_at b before line behind v pass d)

begins_once : (b : Budget) (lines : List Line) (v w : Event) → Begins b lines v → Begins b lines w → v ≡ w
begins_once b [] v w x y = absurd x
begins_once b (line ∷ lines) v w x y = elim x [
  | inl d ↦ elim y [ inl e ↦ decides_once b line v w d e | inr more ↦ absurd (passes_not b line v more.0 d) ]
  | inr more ↦ elim y [ inl e ↦ absurd (passes_not b line w more.0 e) | inr also ↦ begins_once b lines v w more.1 also.1 ]
]

pub first_once : (b : Budget) (lines : List Line) (v w : Event) → First b lines v → First b lines w → v ≡ w
first_once b lines v w first also = begins_once b lines v w (begins_of b lines v first) (begins_of b lines w also)
