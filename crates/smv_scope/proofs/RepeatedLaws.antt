-- Words whose name stands before in their list.
use Rattle.std.proofs.Common.{◌≡◌, ℕ, suc, ◌+◌, ◌<◌, ◌≤◌, List, [], ◌∷◌, ◌++◌, length, get_or, drop, Bool, true, false, cond, ◌||◌, refl, ap, sym, ◌∙◌, Bor}
use Rattle.std.specs.Prelude.{Option, Some, None, option_map, is_some}
use Rattle.std.specs.List.{list_any}
use Rattle.std.specs.Str.{bytes_eq}
use Rattle.std.proofs.lemmas.Slice.Eq.{bytes_eq-Decides}
use Rattle.law_lists.proofs.Places.{drop_past, drop_read_one}
use Rattle.smv_core.specs.Values.{Name}
use Rattle.smv_core.specs.declared.tree.Word.{Word}
use Rattle.smv_mentions.specs.Scopes.{first_of_places}
use Rattle.smv_mentions.specs.NameFaults.{place_if, repeated}
use Rattle.smv_mentions.specs.Said.{words_at}
use Rattle.name_index.specs.Position.{position}
use Rattle.smv_first_fault.specs.Firsts.{least}
use Rattle.smv_scope.specs.Rules.{repeated_after}
use Rattle.smv_first_fault.proofs.LeastLaws.{from_here, least-append, first-assoc, first-none}

bytes-flip : (x y : Name) → bytes_eq x y ≡ bytes_eq y x
bytes-flip x y = by (bytes_eq x y) (bytes_eq y x) refl refl
  where
    by : (a b : Bool) → bytes_eq x y ≡ a → bytes_eq y x ≡ b → a ≡ b
    by true true p q = refl
    by false false p q = refl
    by true false p q = sym p ∙ ap (λ z. bytes_eq x z) (sym ((bytes_eq-Decides x y).0 p)) ∙ ap (λ z. bytes_eq z x) ((bytes_eq-Decides x y).0 p) ∙ q
    by false true p q = sym p ∙ ap (λ z. bytes_eq x z) ((bytes_eq-Decides y x).0 q) ∙ ap (λ z. bytes_eq z x) (sym ((bytes_eq-Decides y x).0 q)) ∙ q

known-push : (names : List Name) (x q : Name) → is_some (position (names ++ x ∷ []) q) ≡ (bytes_eq q x || is_some (position names q))
known-push [] x q = ap (λ b. is_some (cond b (Some 0) (option_map suc None))) (bytes-flip x q) ∙ by (bytes_eq q x)
  where
    by : (b : Bool) → is_some (cond b (Some 0) (option_map suc None)) ≡ (b || false)
    by true = refl
    by false = refl
known-push (y ∷ names) x q = by (bytes_eq y q) (position (names ++ x ∷ []) q) (position names q) (bytes_eq q x) (known-push names x q)
  where
    by : (a : Bool) (o p : Option ℕ) (c : Bool) → is_some o ≡ (c || is_some p) → is_some (cond a (Some 0) (option_map suc o)) ≡ (c || is_some (cond a (Some 0) (option_map suc p)))
    by true o p true e = refl
    by true o p false e = refl
    by false None None c e = e
    by false None (Some i) c e = e
    by false (Some i) None c e = e
    by false (Some i) (Some j) c e = e

pub repeated-same : (seen names : List Name) → ((q : Name) → list_any (bytes_eq q) seen ≡ is_some (position names q)) → (words : List Word) → repeated seen words ≡ repeated_after names words
repeated-same seen names same [] = refl
repeated-same seen names same (word ∷ words) =
    ap (λ b. place_if b word.at ++ repeated (word.name ∷ seen) words) (same word.name)
    ∙ ap (λ l. place_if (is_some (position names word.name)) word.at ++ l)
    (repeated-same (word.name ∷ seen) (names ++ word.name ∷ []) (λ q. ap (λ b. bytes_eq q word.name || b) (same q) ∙ sym (known-push names word.name q)) words)

map-drop : (xs : List (Bor Word)) (n : ℕ) (x : Bor Word) → n < length xs → x ≡ get_or xs n x → words_at (drop n xs) ≡ x.now ∷ words_at (drop (n + 1) xs)
map-drop xs n x below here = ap words_at (drop_read_one xs n x below here)

pub repeated-step : (seen seen' : List Name) (words : List (Bor Word)) (n : ℕ) (x : Bor Word) (a b new whole : Option ℕ) → n < length words → x ≡ get_or words n x
    → b ≡ least (place_if (is_some (position seen x.now.name)) x.now.at) → seen' ≡ seen ++ x.now.name ∷ [] → new ≡ first_of_places a b
    → first_of_places a (least (repeated_after seen (words_at (drop n words)))) ≡ whole → first_of_places new (least (repeated_after seen' (words_at (drop (n + 1) words)))) ≡ whole
repeated-step seen seen' words n x a b new whole below here at more is known =
    let rest : List Word = words_at (drop (n + 1) words) in
    let one : List ℕ = place_if (is_some (position seen x.now.name)) x.now.at in
    ap (λ s. first_of_places new (least (repeated_after s (words_at (drop (n + 1) words))))) more
    ∙ ap (λ o. first_of_places o (least (repeated_after (seen ++ x.now.name ∷ []) (words_at (drop (n + 1) words))))) (is ∙ ap (first_of_places a) at)
    ∙ first-assoc a (least (place_if (is_some (position seen x.now.name)) x.now.at)) (least (repeated_after (seen ++ x.now.name ∷ []) (words_at (drop (n + 1) words))))
    ∙ ap (first_of_places a) (sym (least-append (place_if (is_some (position seen x.now.name)) x.now.at) (repeated_after (seen ++ x.now.name ∷ []) (words_at (drop (n + 1) words))))
    ∙ ap (λ l. least (repeated_after seen l)) (sym (map-drop words n x below here))) ∙ known

-- at the end of the list
pub repeated-end : (words : List (Bor Word)) (seen : List Name) (n : ℕ) (a : Option ℕ) → length words ≤ n
    → first_of_places a (least (repeated_after seen (words_at (drop n words)))) ≡ least (repeated_after [] (words_at words)) → a ≡ least (repeated [] (words_at words))
repeated-end words seen n a past known =
    sym (first-none a) ∙ ap (λ l. first_of_places a (least (repeated_after seen (words_at l)))) (sym (drop_past words n past)) ∙ known ∙ ap least (sym (repeated-same [] [] (λ q. refl) (words_at words)))
