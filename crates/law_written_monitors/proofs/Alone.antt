-- Each piece that is written is read alone.
use Rattle.std.proofs.Common.{ℕ, List, [], ◌∷◌, ◌++◌, map, flat_map, codes, Option, Some, None, refl}
use Rattle.std.specs.List.{AllByRecursion}
use Rattle.law_lists.proofs.Each.{each_append, each_flat_map}
use Rattle.smv_core.specs.Values.{Name}
use Rattle.smv_lex.specs.Lexing as l
use Rattle.law_translated_texts.specs.Parts.{Phrase, Now, Next, When, Weak}
use Rattle.law_translated_texts.specs.Phrases.{Pieces, in_parens, whole, joined, implied, lasting, Stage, outset, under, behind, monitor, started, reached, reached_or, front_of, definitions, claim_of, Binders, names_in, type_of, within, assigned, defining, declared}
use Rattle.law_written_formulas.specs.Laws.{IsWhole}
use Rattle.law_written_monitors.specs.Monitored.{Monitored, declarations_of, definitions_of, PartsAre}
use Rattle.law_written_monitors.specs.Laws.{ClaimsAreWhole, IsReadAlone, MonitorsAreWhole}

-- ---- signs and words

open-alone : IsWhole (codes "(")
unfolding l.word_kind l.word_front l.number_front l.sign_front l.front_of
open-alone = (_, ((λ e. absurd (cc (e)), tt), refl))

close-alone : IsWhole (codes ")")
unfolding l.word_kind l.word_front l.number_front l.sign_front l.front_of
close-alone = (_, ((λ e. absurd (cc (e)), tt), refl))

bracket-alone : IsWhole (codes "[")
unfolding l.word_kind l.word_front l.number_front l.sign_front l.front_of
bracket-alone = (_, ((λ e. absurd (cc (e)), tt), refl))

end-alone : IsWhole (codes "]")
unfolding l.word_kind l.word_front l.number_front l.sign_front l.front_of
end-alone = (_, ((λ e. absurd (cc (e)), tt), refl))

equal-alone : IsWhole (codes "=")
unfolding l.word_kind l.word_front l.number_front l.sign_front l.front_of
equal-alone = (_, ((λ e. absurd (cc (e)), tt), refl))

not-alone : IsWhole (codes "~")
unfolding l.word_kind l.word_front l.number_front l.sign_front l.front_of
not-alone = (_, ((λ e. absurd (cc (e)), tt), refl))

and-alone : IsWhole (codes "&")
unfolding l.word_kind l.word_front l.number_front l.sign_front l.front_of
and-alone = (_, ((λ e. absurd (cc (e)), tt), refl))

or-alone : IsWhole (codes "|")
unfolding l.word_kind l.word_front l.number_front l.sign_front l.front_of
or-alone = (_, ((λ e. absurd (cc (e)), tt), refl))

arrow-alone : IsWhole (codes "->")
unfolding l.word_kind l.word_front l.number_front l.sign_front l.front_of
arrow-alone = (_, ((λ e. absurd (cc (e)), tt), refl))

zero-alone : IsWhole (codes "0")
unfolding l.word_kind l.word_front l.number_front l.sign_front l.front_of
zero-alone = (_, ((λ e. absurd (cc (e)), tt), refl))

one-alone : IsWhole (codes "1")
unfolding l.word_kind l.word_front l.number_front l.sign_front l.front_of
one-alone = (_, ((λ e. absurd (cc (e)), tt), refl))

becomes-alone : IsWhole (codes ":=")
unfolding l.word_kind l.word_front l.number_front l.sign_front l.front_of
becomes-alone = (_, ((λ e. absurd (cc (e)), tt), refl))

semicolon-alone : IsWhole (codes ";")
unfolding l.word_kind l.word_front l.number_front l.sign_front l.front_of
semicolon-alone = (_, ((λ e. absurd (cc (e)), tt), refl))

colon-alone : IsWhole (codes ":")
unfolding l.word_kind l.word_front l.number_front l.sign_front l.front_of
colon-alone = (_, ((λ e. absurd (cc (e)), tt), refl))

brace-alone : IsWhole (codes "{")
unfolding l.word_kind l.word_front l.number_front l.sign_front l.front_of
brace-alone = (_, ((λ e. absurd (cc (e)), tt), refl))

last-alone : IsWhole (codes "}")
unfolding l.word_kind l.word_front l.number_front l.sign_front l.front_of
last-alone = (_, ((λ e. absurd (cc (e)), tt), refl))

boolean-alone : IsWhole (codes "boolean")
unfolding l.word_kind l.word_front l.number_front l.sign_front l.front_of
boolean-alone = (_, ((λ e. absurd (cc (e)), tt), refl))

array-alone : IsWhole (codes "array")
unfolding l.word_kind l.word_front l.number_front l.sign_front l.front_of
array-alone = (_, ((λ e. absurd (cc (e)), tt), refl))

of-alone : IsWhole (codes "of")
unfolding l.word_kind l.word_front l.number_front l.sign_front l.front_of
of-alone = (_, ((λ e. absurd (cc (e)), tt), refl))

forall-alone : IsWhole (codes "forall")
unfolding l.word_kind l.word_front l.number_front l.sign_front l.front_of
forall-alone = (_, ((λ e. absurd (cc (e)), tt), refl))

in-alone : IsWhole (codes "in")
unfolding l.word_kind l.word_front l.number_front l.sign_front l.front_of
in-alone = (_, ((λ e. absurd (cc (e)), tt), refl))

init-alone : IsWhole (codes "init")
unfolding l.word_kind l.word_front l.number_front l.sign_front l.front_of
init-alone = (_, ((λ e. absurd (cc (e)), tt), refl))

next-alone : IsWhole (codes "next")
unfolding l.word_kind l.word_front l.number_front l.sign_front l.front_of
next-alone = (_, ((λ e. absurd (cc (e)), tt), refl))

abstract-alone : IsWhole (codes "abstract")
unfolding l.word_kind l.word_front l.number_front l.sign_front l.front_of
abstract-alone = (_, ((λ e. absurd (cc (e)), tt), refl))

layer-alone : IsWhole (codes "layer")
unfolding l.word_kind l.word_front l.number_front l.sign_front l.front_of
layer-alone = (_, ((λ e. absurd (cc (e)), tt), refl))

-- ---- what is put together

abbrev All : Pieces → Type 0
All ps = AllByRecursion IsWhole ps

both : (ps qs : Pieces) → All ps → All qs → All (ps ++ qs)
both = each_append IsWhole

parens : (ps : Pieces) → All ps → All (in_parens ps)
parens ps h = (open-alone, both ps (codes ")" ∷ []) h (close-alone, tt))

part : (bytes : List ℕ) → IsWhole bytes → All (whole bytes)
part bytes h = parens (bytes ∷ []) (h, tt)

last : (c : List ℕ) → IsWhole c → All (lasting c)
last c h = (not-alone, parens (whole c ++ codes "=" ∷ codes "0" ∷ []) (both (whole c) (codes "=" ∷ codes "0" ∷ []) (part c h) (equal-alone, (zero-alone, tt))))

all-joined : (sign : List ℕ) → IsWhole sign → (ps : Pieces) (more : List Pieces) → All ps → AllByRecursion All more → All (joined sign ps more)
all-joined sign s ps more h k = both ps (flat_map (λ qs. sign ∷ qs) more) h (each_flat_map All IsWhole (λ (qs : Pieces). sign ∷ qs) (λ qs q. (s, q)) more k)

all-implied : (more : List Pieces) → AllByRecursion All more → All (implied more)
all-implied [] h = (one-alone, tt)
all-implied (ps ∷ more) h = all-joined (codes "->") arrow-alone ps more h.0 h.1

each-map : (f : List ℕ → Pieces) → ((bytes : List ℕ) → IsWhole bytes → All (f bytes)) → (ps : Pieces) → All ps → AllByRecursion All (map f ps)
each-map f u [] h = tt
each-map f u (p ∷ ps) h = (u p h.0, each-map f u ps h.1)

-- ---- the claim and the definitions

abbrev Start : Option Name → Type 0
Start None = Unit {0}
Start (Some m) = IsWhole m

record IsAlone (s : Stage) : Type 0 where
  start : Start s.start
  conditions : All s.conditions

module _ (vars : List Name) (named : All vars) where
  at-monitor : (m : Name) → IsWhole m → All (monitor vars m)
  at-monitor m h = (h, each_flat_map IsWhole IsWhole (λ (var : Name). codes "[" ∷ var ∷ codes "]" ∷ []) (λ var v. (bracket-alone, (v, (end-alone, tt)))) vars named)

  at-start : (o : Option Name) → Start o → All (started vars o)
  at-start None h = (one-alone, tt)
  at-start (Some m) h = at-monitor m h

  at-front : (o : Option Name) → Start o → AllByRecursion All (front_of vars o)
  at-front None h = tt
  at-front (Some m) h = (at-monitor m h, tt)

  at-reached : (s : Stage) → IsAlone s → All (reached vars s)
  at-reached s h = all-joined (codes "&") and-alone (started vars s.start) (map lasting s.conditions) (at-start s.start h.start) (each-map lasting last s.conditions h.conditions)

  at-reached_or : (w : Name) → IsWhole w → (s : Stage) → IsAlone s → All (reached_or vars w s)
  at-reached_or w k s h = parens (reached vars s ++ codes "|" ∷ monitor vars w) (both (reached vars s) (codes "|" ∷ monitor vars w) (at-reached s h) (or-alone, at-monitor w k))

  at-under : (s : Stage) (c : List ℕ) → IsAlone s → IsWhole c → IsAlone (under s c)
  at-under s c h k = record { start = h.start; conditions = both s.conditions (c ∷ []) h.conditions (k, tt) }

  at-behind : (m : Name) → IsWhole m → IsAlone (behind m)
  at-behind m h = record { start = h; conditions = tt }

  at-claim : (names : List Name) → All names → (p : Phrase (List ℕ)) → PartsAre IsWhole p → (s : Stage) → IsAlone s → All (claim_of vars names s p)
  at-claim names n (Now e) p s h = all-implied (front_of vars s.start ++ map whole s.conditions ++ whole e ∷ [])
      (each_append All (front_of vars s.start ++ map whole s.conditions) (whole e ∷ []) (each_append All (front_of vars s.start) (map whole s.conditions) (at-front s.start h.start) (each-map whole part s.conditions h.conditions)) (part e p, tt))
  at-claim [] n (Next f) p s h = (one-alone, tt)
  at-claim (m ∷ names) n (Next f) p s h = at-claim names n.1 f p (behind m) (at-behind m n.0)
  at-claim names n (When c f) p s h = at-claim names n f p.1 (under s c) (at-under s c h p.0)
  at-claim [] n (Weak e d) p s h = (one-alone, tt)
  at-claim (w ∷ names) n (Weak e d) p s h = both (reached_or vars w s) (codes "->" ∷ in_parens (whole d ++ codes "|" ∷ whole e)) (at-reached_or w n.0 s h)
      (arrow-alone, parens (whole d ++ codes "|" ∷ whole e) (both (whole d) (codes "|" ∷ whole e) (part d p.1) (or-alone, part e p.0)))

  abbrev Defined : Name × Pieces → Type 0
  Defined d = IsWhole d.0 × All d.1

  at-definitions : (names : List Name) → All names → (p : Phrase (List ℕ)) → PartsAre IsWhole p → (s : Stage) → IsAlone s → AllByRecursion Defined (definitions vars names s p)
  at-definitions names n (Now e) p s h = tt
  at-definitions [] n (Next f) p s h = tt
  at-definitions (m ∷ names) n (Next f) p s h = ((n.0, at-reached s h), at-definitions names n.1 f p (behind m) (at-behind m n.0))
  at-definitions names n (When c f) p s h = at-definitions names n f p.1 (under s c) (at-under s c h p.0)
  at-definitions [] n (Weak e d) p s h = tt
  at-definitions (w ∷ names) n (Weak e d) p s h = ((n.0, both (reached_or vars w s) (codes "&" ∷ codes "~" ∷ whole d) (at-reached_or w n.0 s h) (and-alone, (not-alone, part d p.1))), tt)

at-outset : IsAlone outset
at-outset = record { start = tt; conditions = tt }

pub claims-whole : ClaimsAreWhole
claims-whole vars names p v n h = at-claim vars v names n p h outset at-outset

-- ---- behind binders

abbrev Bound : Name × Pieces → Type 0
Bound b = IsWhole b.0 × All b.1

at-names : (bs : Binders) → AllByRecursion Bound bs → All (names_in bs)
at-names [] h = tt
at-names (b ∷ bs) h = (h.0.0, at-names bs h.1)

at-type : (bs : Binders) → AllByRecursion Bound bs → All (type_of bs)
at-type bs h = both (flat_map (λ (b : Name × Pieces). codes "array" ∷ b.1 ++ codes "of" ∷ []) bs) (codes "boolean" ∷ [])
    (each_flat_map Bound IsWhole (λ (b : Name × Pieces). codes "array" ∷ b.1 ++ codes "of" ∷ []) (λ b k. (array-alone, both b.1 (codes "of" ∷ []) k.1 (of-alone, tt))) bs h) (boolean-alone, tt)

at-within : (bs : Binders) → AllByRecursion Bound bs → (ps : Pieces) → All ps → All (within bs ps)
at-within bs h ps k = both (flat_map (λ (b : Name × Pieces). codes "forall" ∷ in_parens (b.0 ∷ codes "in" ∷ b.1)) bs) ps
    (each_flat_map Bound IsWhole (λ (b : Name × Pieces). codes "forall" ∷ in_parens (b.0 ∷ codes "in" ∷ b.1)) (λ b q. (forall-alone, parens (b.0 ∷ codes "in" ∷ b.1) (q.0, (in-alone, q.1)))) bs h) k

at-assigned : (word : List ℕ) → IsWhole word → (path value : Pieces) → All path → All value → All (assigned word path value)
at-assigned word w path value p v = both (word ∷ in_parens path ++ codes ":=" ∷ value) (codes ";" ∷ []) (both (word ∷ in_parens path) (codes ":=" ∷ value) (w, parens path p) (becomes-alone, v)) (semicolon-alone, tt)

at-defining : (bs : Binders) → AllByRecursion Bound bs → (d : Name × Pieces) → IsWhole d.0 × All d.1 → All (defining bs d)
at-defining bs h d k =
    let path = at-monitor (names_in bs) (at-names bs h) d.0 k.0 in
    both (within bs (assigned (codes "init") (monitor (names_in bs) d.0) (codes "0" ∷ []))) (within bs (assigned (codes "next") (monitor (names_in bs) d.0) d.1))
    (at-within bs h _ (at-assigned (codes "init") init-alone (monitor (names_in bs) d.0) (codes "0" ∷ []) path (zero-alone, tt)))
    (at-within bs h _ (at-assigned (codes "next") next-alone (monitor (names_in bs) d.0) d.1 path k.1))

at-declared : (bs : Binders) → AllByRecursion Bound bs → (names : List Name) → All names → All (declared bs names)
at-declared bs h names n = each_flat_map IsWhole IsWhole (λ (m : Name). codes "abstract" ∷ m ∷ codes ":" ∷ type_of bs ++ codes ";" ∷ [])
    (λ m k. (abstract-alone, (k, (colon-alone, both (type_of bs) (codes ";" ∷ []) (at-type bs h) (semicolon-alone, tt))))) names n

declarations-alone : (c : Monitored) → IsReadAlone c → All (declarations_of c)
declarations-alone c h = at-declared c.binders h.binders c.watched.monitors h.monitors

definitions-alone : (c : Monitored) → IsReadAlone c → All (definitions_of c)
definitions-alone c h =
    let ds = at-definitions (names_in c.binders) (at-names c.binders h.binders) c.watched.monitors h.monitors c.phrase h.parts outset at-outset in
    each_flat_map (λ (d : Name × Pieces). IsWhole d.0 × All d.1) IsWhole (defining c.binders) (at-defining c.binders h.binders) (definitions (names_in c.binders) c.watched.monitors outset c.phrase) ds

pub monitors-whole : MonitorsAreWhole
monitors-whole layer cs named h = both (flat_map declarations_of cs) (codes "layer" ∷ layer ∷ codes ":" ∷ codes "{" ∷ flat_map definitions_of cs ++ codes "}" ∷ [])
    (each_flat_map IsReadAlone IsWhole declarations_of declarations-alone cs h)
    (layer-alone, (named, (colon-alone, (brace-alone, both (flat_map definitions_of cs) (codes "}" ∷ []) (each_flat_map IsReadAlone IsWhole definitions_of definitions-alone cs h) (last-alone, tt)))))
