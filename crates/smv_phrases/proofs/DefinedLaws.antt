-- The definitions of a monitor, piece by piece.
use Rattle.std.proofs.Common.{◌≡◌, ℕ, List, [], ◌∷◌, ◌++◌, codes, sym, ap, ◌∙◌, append_assoc}
use Rattle.smv_core.specs.Values.{Name}
use Rattle.law_translated_texts.specs.Phrases.{Pieces, Binders, monitor, names_in, in_parens, within, assigned, defining, whole}
use Rattle.law_translated_texts.specs.Translation.{spaced}
use Rattle.smv_phrases.specs.Seen.{names, binders_of}
use Rattle.smv_phrases.specs.Defined.{binding, defining_front}
use Rattle.smv_phrases.specs.declared.monitors.Binder.{Binder}
use Rattle.smv_phrases.proofs.StageLaws.{spaced_append, names_are}

-- the front where the path of the monitor is this one
abbrev front_by : Binders → Pieces → Pieces
front_by binders path = within binders (assigned (codes "init") path (codes "0" ∷ [])) ++ (binding binders ++ codes "next" ∷ in_parens path ++ codes ":=" ∷ [])

closed : (path more last : Pieces) → spaced (((path ++ codes ")" ∷ []) ++ more) ++ last) ≡ spaced path ++ (codes " )" ++ (spaced more ++ spaced last))
closed path more last =
    let inner = path ++ codes ")" ∷ [] in
    spaced_append (inner ++ more) last ∙ ap (λ l. l ++ spaced last) (spaced_append inner more ∙ ap (λ l. l ++ spaced more) (spaced_append path (codes ")" ∷ [])))
    ∙ append_assoc (spaced path ++ codes " )") (spaced more) (spaced last) ∙ append_assoc (spaced path) (codes " )") (spaced more ++ spaced last)

assigned-is : (word : List ℕ) (path value : Pieces) → spaced (assigned word path value) ≡ (codes " " ++ word) ++ (codes " (" ++ (spaced path ++ (codes " )" ++ (spaced (codes ":=" ∷ value) ++ codes " ;"))))
assigned-is word path value = ap (λ l. (codes " " ++ word) ++ (codes " (" ++ l)) (closed path (codes ":=" ∷ value) (codes ";" ∷ []))

next-is : (path : Pieces) → spaced (codes "next" ∷ in_parens path) ≡ codes " next (" ++ (spaced path ++ codes " )")
next-is path = ap (λ l. codes " next (" ++ l) (spaced_append path (codes ")" ∷ []))

-- the first definition, and what stands before the value of the second
abbrev first_of : Binders → Pieces → Pieces
first_of binders path = within binders (assigned (codes "init") path (codes "0" ∷ []))

abbrev second_of : Binders → Pieces → Pieces
second_of binders path = (binding binders ++ codes "next" ∷ in_parens path) ++ codes ":=" ∷ []

first-is : (binders : Binders) (path : Pieces) → spaced (first_of binders path) ≡ spaced (binding binders) ++ (codes " init (" ++ (spaced path ++ codes " ) := 0 ;"))
first-is binders path = spaced_append (binding binders) (assigned (codes "init") path (codes "0" ∷ [])) ∙ ap (λ l. spaced (binding binders) ++ l) (assigned-is (codes "init") path (codes "0" ∷ []))

second-is : (binders : Binders) (path : Pieces) → spaced (second_of binders path) ≡ (spaced (binding binders) ++ (codes " next (" ++ (spaced path ++ codes " )"))) ++ codes " :="
second-is binders path =
    spaced_append (binding binders ++ codes "next" ∷ in_parens path) (codes ":=" ∷ [])
    ∙ ap (λ l. l ++ codes " :=") (spaced_append (binding binders) (codes "next" ∷ in_parens path) ∙ ap (λ l. spaced (binding binders) ++ l) (next-is path))

pieced : (b i p r n c d : List ℕ) → (b ++ (i ++ (p ++ r))) ++ ((b ++ (n ++ (p ++ c))) ++ d) ≡ b ++ (i ++ (p ++ (r ++ (b ++ (n ++ (p ++ (c ++ d)))))))
pieced b i p r n c d = simp append_assoc

front-is : (binders : Binders) (path : Pieces) → spaced (front_by binders path) ≡ spaced (binding binders) ++ (codes " init (" ++ (spaced path ++ (codes " ) := 0 ;" ++ (spaced (binding binders) ++ (codes " next (" ++ (spaced path ++ codes " ) :="))))))
front-is binders path =
    spaced_append (first_of binders path) (second_of binders path) ∙ ap (λ l. l ++ spaced (second_of binders path)) (first-is binders path)
    ∙ ap (λ l. (spaced (binding binders) ++ (codes " init (" ++ (spaced path ++ codes " ) := 0 ;"))) ++ l) (second-is binders path)
    ∙ pieced (spaced (binding binders)) (codes " init (") (spaced path) (codes " ) := 0 ;") (codes " next (") (codes " )") (codes " :=")

gathered : (o a b c d e f : List ℕ) → (((((((o ++ a) ++ b) ++ c) ++ d) ++ a) ++ e) ++ c) ++ f ≡ o ++ (a ++ (b ++ (c ++ (d ++ (a ++ (e ++ (c ++ f)))))))
gathered o a b c d e f = simp append_assoc

module _ (text : List ℕ) (bs : List Binder) (m : Name) where
  abbrev bound : List ℕ
  bound = spaced (binding (binders_of text bs))

  abbrev path : Pieces
  path = monitor (names bs) m

  pub front-written : (old o1 o2 o3 o4 o5 o6 o7 : List ℕ) → o1 ≡ old ++ bound → o2 ≡ o1 ++ codes " init (" → o3 ≡ o2 ++ spaced path → o4 ≡ o3 ++ codes " ) := 0 ;" → o5 ≡ o4 ++ bound → o6 ≡ o5 ++ codes " next (" → o7 ≡ o6 ++ spaced path →
      o7 ++ codes " ) :=" ≡ old ++ spaced (defining_front (binders_of text bs) m)
  front-written old o1 o2 o3 o4 o5 o6 o7 e1 e2 e3 e4 e5 e6 e7 =
      ap (λ l. l ++ codes " ) :=") (e7 ∙ ap (λ l. l ++ spaced path) (e6 ∙ ap (λ l. l ++ codes " next (") (e5 ∙ ap (λ l. l ++ bound) (e4 ∙ ap (λ l. l ++ codes " ) := 0 ;") (e3 ∙ ap (λ l. l ++ spaced path) (e2 ∙ ap (λ l. l ++ codes " init (") e1))))))
      ∙ gathered old bound (codes " init (") (spaced path) (codes " ) := 0 ;") (codes " next (") (codes " ) :=")
      ∙ ap (λ l. old ++ l) (sym (front-is (binders_of text bs) path)) ∙ ap (λ (ns : List Name). old ++ spaced (front_by (binders_of text bs) (monitor ns m))) (sym (names_are text bs))

-- ---- with a value

pieced_more : (w b n p c d v e : List ℕ) → (w ++ ((b ++ (n ++ (p ++ c))) ++ d)) ++ (v ++ e) ≡ w ++ (b ++ (n ++ (p ++ (c ++ ((d ++ v) ++ e)))))
pieced_more w b n p c d v e = simp append_assoc

defining-is : (binders : Binders) (m : Name) (value : Pieces) → spaced (defining binders (m, value)) ≡ spaced (defining_front binders m) ++ (spaced value ++ codes " ;")
defining-is binders m value =
    let path : Pieces = monitor (names_in binders) m in
    let first : Pieces = first_of binders path in
    spaced_append first (binding binders ++ assigned (codes "next") path value)
    ∙ ap (λ l. spaced first ++ l) (spaced_append (binding binders) (assigned (codes "next") path value) ∙ ap (λ l. spaced (binding binders) ++ l) (assigned-is (codes "next") path value))
    ∙ sym (pieced_more (spaced first) (spaced (binding binders)) (codes " next (") (spaced path) (codes " )") (codes " :=") (spaced value) (codes " ;"))
    ∙ sym (ap (λ l. l ++ (spaced value ++ codes " ;")) (spaced_append first (second_of binders path) ∙ ap (λ l. spaced first ++ l) (second-is binders path)))

until-is : (value : Pieces) (until : List ℕ) → spaced (value ++ codes "&" ∷ codes "~" ∷ whole until) ≡ spaced value ++ (codes " & ~" ++ spaced (whole until))
until-is value until = spaced_append value (codes "&" ∷ codes "~" ∷ whole until)

grouped : (o a b c d e : List ℕ) → ((((o ++ a) ++ b) ++ c) ++ d) ++ e ≡ o ++ (a ++ ((b ++ (c ++ d)) ++ e))
grouped o a b c d e = simp append_assoc

pub unless-written : (binders : Binders) (m : Name) (value : Pieces) (until : List ℕ) (old o1 o2 o3 o4 : List ℕ) → o1 ≡ old ++ spaced (defining_front binders m) → o2 ≡ o1 ++ spaced value → o3 ≡ o2 ++ codes " & ~" → o4 ≡ o3 ++ spaced (whole until) →
    o4 ++ codes " ;" ≡ old ++ spaced (defining binders (m, value ++ codes "&" ∷ codes "~" ∷ whole until))
unless-written binders m value until old o1 o2 o3 o4 e1 e2 e3 e4 =
    let front = spaced (defining_front binders m) in
    ap (λ l. l ++ codes " ;") (e4 ∙ ap (λ l. l ++ spaced (whole until)) (e3 ∙ ap (λ l. l ++ codes " & ~") (e2 ∙ ap (λ l. l ++ spaced value) e1)))
    ∙ grouped old front (spaced value) (codes " & ~") (spaced (whole until)) (codes " ;") ∙ ap (λ l. old ++ (front ++ (l ++ codes " ;"))) (sym (until-is value until))
    ∙ ap (λ l. old ++ l) (sym (defining-is binders m (value ++ codes "&" ∷ codes "~" ∷ whole until)))
