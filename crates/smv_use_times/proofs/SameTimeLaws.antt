-- What a search marks is the same-time set.
use Rattle.std.proofs.Common.{◌≡◌, ℕ, zero, suc, ◌<◌, ◌≤◌, List, [], ◌∷◌, map, length, get_or, replicate, Bool, false, ap, sym, subst, ◌∙◌, inl, inr, arith}
use Rattle.std.specs.List.{Contains}
use Rattle.std.specs.Prelude.{slice_index_or}
use Rattle.std.proofs.lemmas.List.{length-replicate}
use Rattle.std.proofs.lemmas.Option.{slice_get-get_or, slice_get_past}
use Rattle.std.proofs.lemmas.Bool.{cases_lt}
use Rattle.smv_core.specs.declared.flat.Family.{Family}
use Rattle.smv_core.specs.declared.flat.Pick.{Pick}
use Rattle.law_obligations.specs.Sets.{Has}
use Rattle.law_obligations.specs.Outlines.{Entry, Outline, chosen, unit_in}
use Rattle.law_obligations.specs.Times.{is_member, families_at_once, first_families, next_families, same_time}
use Rattle.graph_search.specs.Walks.{Walk, here, step, follow, list_at}
use Rattle.graph_search.specs.Searches.{IsSeen, IsExplored, Saw}
use Rattle.graph_search.proofs.ReachedLaws.{came, marked_queue, from_none}
use Rattle.law_use_times.specs.Found.{nodes_of, IsFound}
use Rattle.law_use_times.proofs.Lists.{Contains-Has, Has-Contains}
use Rattle.law_use_times.proofs.SameTimes.{first_within, family_node, once_within, marks_set}
use Rattle.smv_unit_tables.specs.Reads.{def_reads}
use Rattle.smv_use_times.specs.Tables.{AreChosen}
use Rattle.smv_use_times.proofs.TableLaws.{def_list}

seen_within : (marks : List Bool) (x : ℕ) → IsSeen marks x → x < length marks
seen_within [] x e = absurd (cc (e))
seen_within (b ∷ marks) zero e = omega arith
seen_within (b ∷ marks) (suc x) e = omega (arith, seen_within marks x e)

-- what is read at once by the definition that is chosen for a family, in the tables
module _ (o : Outline) (entry : Entry) (table : List (List ℕ)) (next : List ℕ)
    (is : table ≡ map (def_reads o.design.families) o.design.defs) (choice : AreChosen o entry.choice.picks (nodes_of o.design (unit_in o.design entry.unit)) next) where
  abbrev fs : List Family
  fs = o.design.families

  abbrev nodes : ℕ
  nodes = nodes_of o.design (unit_in o.design entry.unit)

  follows : (x : ℕ) → x < nodes → follow table next x ≡ next_families o entry x
  follows x h =
      ap (list_at table) (slice_get-get_or next x (length o.design.defs) (let r = choice.room in omega (arith, h, r)))
      ∙ def_list fs table o.design.defs (get_or next x (length o.design.defs)) is
      ∙ ap (families_at_once fs) (choice.each x h)

  past : (x : ℕ) → nodes ≤ x → follow table next x ≡ []
  past x h = ap (list_at table) (slice_get_past next x (let r = choice.room in omega (arith, h, r)))

  none_in : {P : Type 0} (x : ℕ) → Contains [] x → P
  none_in x c = let l = c.1 in absurd (omega (arith, l))

  followed : (x y : ℕ) → Contains (follow table next x) y → x < nodes
  followed x y c = elim (cases_lt x nodes) [ inl l ↦ l | inr p ↦ none_in y (subst (λ l. Contains l y) (past x p) c) ]

  pub follow_within : (x y : ℕ) → Contains (follow table next x) y → y < nodes
  follow_within x y c = family_node o (unit_in o.design entry.unit) y (once_within fs (chosen o entry.choice.picks x) y (Contains-Has _ y (subst (λ l. Contains l y) (follows x (followed x y c)) c)))

  on : {q x : ℕ} → Walk (follow table next) q x → Walk (next_families o entry) q x
  on here = here
  on (step {x = x} {y = y} c w) = step (subst (λ l. Contains l y) (follows x (followed x y c)) c) (on w)

  module _ (first : List ℕ) (seen marks : List Bool) (queue longer : List ℕ)
      (saw : Saw first (replicate nodes false) seen [] queue) (all : IsExplored (follow table next) seen marks queue longer) where
    found_in : (x : ℕ) → IsSeen marks x → Contains longer x
    found_in x m = elim (all.told x m) [ inl old ↦ all.front x (marked_queue nodes first seen queue saw x old) | inr there ↦ there ]

    room : length marks ≡ nodes
    room = all.room ∙ (saw.room ∙ length-replicate nodes false)

    goes : (x y : ℕ) → IsSeen marks x → Has (next_families o entry x) y → IsSeen marks y
    goes x y m h = all.closed x y (found_in x m) (subst (λ l. Contains l y) (sym (follows x (let l = seen_within marks x m in let r = room in omega (arith, l, r)))) (Has-Contains h))

    leads : (x : ℕ) → IsSeen marks x → (q : ℕ) × Has first q × Walk (next_families o entry) q x
    leads x m = let r = all.reached x (found_in x m) in (r.0, Contains-Has first r.0 ((came nodes first seen queue saw r.0).0 r.1), on r.2)

    is_found : IsFound (next_families o entry) first marks
    is_found = record { begins = λ x h. all.kept x (saw.each x (Has-Contains h)); goes_on = goes; led = leads }

  pub marks_are : (u : ℕ) (first : List ℕ) (begun seen marks : List Bool) (none queue longer : List ℕ) → first ≡ first_families o u entry → begun ≡ replicate nodes false → none ≡ [] →
      Saw first begun seen none queue → IsExplored (follow table next) seen marks queue longer → (x : ℕ) → slice_index_or marks x false ≡ is_member (same_time o u entry) x
  marks_are u first begun seen marks none queue longer e b n saw all = marks_set o u entry marks
      (subst (λ l. IsFound (next_families o entry) l marks) e (is_found first seen marks queue longer (from_none nodes first begun seen none queue b n saw) all))

-- with what it begins are such numbers
pub first_below : (o : Outline) (u : ℕ) (entry : Entry) (first : List ℕ) → first ≡ first_families o u entry → (x : ℕ) → Contains first x → x < nodes_of o.design (unit_in o.design entry.unit)
first_below o u entry first e x c = first_within o u entry x (subst (λ l. Has l x) e (Contains-Has first x c))

pub chosen_same : (o : Outline) (picks others : List Pick) (m n : ℕ) (next same : List ℕ) → picks ≡ others → m ≡ n → same ≡ next → AreChosen o picks m next → AreChosen o others n same
chosen_same o picks others m n next same p q r known = subst (λ ps. AreChosen o ps n same) p (subst (λ k. AreChosen o picks k same) q (subst (AreChosen o picks m) (sym r) known))
