-- What the lexer reads of bytes that are put together.
use Rattle.std.specs.Prelude.{◌≡◌, ◌≤◌, ◌+◌, ◌-◌, ℕ, zero, suc, List, [], ◌∷◌, ◌++◌, map, length, drop, codes, Ok, Err, Bool, true, false, ◌&&◌, ◌||◌}
use Rattle.std.specs.List.{list_any}
use Rattle.std.specs.Str.{bytes_eq}
use Rattle.smv_core.specs.declared.token.Token.{Token}
use Rattle.smv_lex.specs.declared.front.Front.{Front}
use Rattle.smv_lex.specs.declared.front.Front.TheVariants.{Passed, Whole, Broken}
use Rattle.smv_lex.specs.Lexing.{Lexed, is_name_byte, begins, front_of}

-- each offset greater by so much
abbrev pub moved_token : ℕ → Token → Token
moved_token d t = record { kind = t.kind; at = t.at + d }

abbrev pub moved_tokens : ℕ → List Token → List Token
moved_tokens d ts = map (moved_token d) ts

abbrev pub moved : ℕ → Lexed → Lexed
moved d (Ok ts) = Ok (moved_tokens d ts)
moved d (Err f) = Err (record { number = f.number; at = f.at + d })

-- these tokens, and then what comes after them
abbrev pub behind : List Token → Lexed → Lexed
behind ts (Ok us) = Ok (ts ++ us)
behind ts (Err f) = Err f

-- ---- where the lexer begins anew

-- what is told of the bytes that something takes, and of nothing where it is broken
abbrev pub ByFront : Front → (ℕ → Type 0) → Type 0
ByFront (Passed n) P = P n
ByFront (Whole kind n) P = P n
ByFront (Broken number) P = ⊥

-- Behind so many bytes that belong to what stands before, the lexer goes through the first bytes, in front of the others, and begins anew with the others. A line comment among the first ends there.
abbrev pub IsCut : ℕ → List ℕ → List ℕ → Type 0
IsCut zero [] more = Unit {0}
IsCut (suc skip) [] more = ⊥
IsCut (suc skip) (b ∷ bytes) more = IsCut skip bytes more
IsCut zero (b ∷ bytes) more = ByFront (front_of (b ∷ bytes ++ more)) (λ n. (begins (b ∷ bytes ++ more) (codes "--") ≡ true → n ≤ length bytes) × IsCut (n - 1) bytes more)

abbrev pub with_front : ℕ → Front → (ℕ → List Token) → List Token
with_front at (Passed n) rest = rest n
with_front at (Whole kind n) rest = record { kind = kind; at = at } ∷ rest n
with_front at (Broken number) rest = []

-- the tokens of the first bytes, in front of the others
abbrev pub tokens_before : ℕ → ℕ → List ℕ → List ℕ → List Token
tokens_before at skip [] more = []
tokens_before at (suc skip) (b ∷ bytes) more = tokens_before (at + 1) skip bytes more
tokens_before at zero (b ∷ bytes) more = with_front at (front_of (b ∷ bytes ++ more)) (λ n. tokens_before (at + 1) (n - 1) bytes more)

-- The bytes are read as these tokens, where a blank comes behind them.
abbrev pub IsReadAs : List ℕ → List Token → Type 0
IsReadAs bytes ts = IsCut 0 bytes (codes " ") × (tokens_before 0 0 bytes (codes " ") ≡ ts)

-- ---- which bytes go together

-- how longer signs and comments begin
abbrev pub pairs : List (List ℕ)
pairs = codes ".." ∷ codes ":=" ∷ codes "~=" ∷ codes "<=" ∷ codes ">=" ∷ codes "->" ∷ codes "<-" ∷ codes "//" ∷ codes "--" ∷ codes "/*" ∷ []

-- whether the lexer may read two bytes together: both are bytes of names and numbers, or they begin a longer sign or a comment
abbrev pub are_joined : ℕ → ℕ → Bool
are_joined a b = is_name_byte a && is_name_byte b || list_any (λ pair. bytes_eq pair (a ∷ b ∷ [])) pairs

-- the last byte of the first and the first byte of the second do not go together
abbrev pub AreApart : List ℕ → List ℕ → Type 0
AreApart [] other = Unit {0}
AreApart (a ∷ []) [] = Unit {0}
AreApart (a ∷ []) (b ∷ other) = are_joined a b ≡ false
AreApart (a ∷ c ∷ bytes) other = AreApart (c ∷ bytes) other

-- ---- where tokens begin and end

-- how many bytes a token has that stands at the front
abbrev pub size_of : Front → ℕ
size_of (Whole kind n) = n
size_of (Passed n) = 0
size_of (Broken number) = 0

-- where a token ends
abbrev pub end_of : List ℕ → Token → ℕ
end_of text t = t.at + size_of (front_of (drop t.at text))

-- the place of the first token, and the end of the last
abbrev pub begin_of : List Token → ℕ
begin_of [] = 0
begin_of (t ∷ ts) = t.at

abbrev pub end_of_all : List ℕ → List Token → ℕ
end_of_all text [] = 0
end_of_all text (t ∷ []) = end_of text t
end_of_all text (t ∷ u ∷ ts) = end_of_all text (u ∷ ts)
