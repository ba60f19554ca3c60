-- The rules of faults, each in one sentence.
use Rattle.std.specs.Prelude.{ℕ, List, [], ◌∷◌, codes, get_or}

-- the sentence of each fault at the place of its number; there is no fault 0
abbrev pub rules : List (List ℕ)
rules =
    [] ∷
    codes "a byte begins no token" ∷
    codes "a number is above 511" ∷
    codes "a word has more than 64 bytes" ∷
    codes "a `/*` is not closed" ∷
    codes "after this token no text can go on" ∷
    codes "a 65th level is opened" ∷
    codes "a name or a field is not declared" ∷
    codes "a name is declared twice" ∷
    codes "there is no module `main`" ∷
    codes "a module contains itself" ∷
    codes "an instance has too many or too few arguments" ∷
    codes "kinds do not fit" ∷
    codes "a range begins above its end, or ends above 255" ∷
    codes "a set stands where none may" ∷
    codes "two assignments of one signal conflict" ∷
    codes "a signal has a value of now and `init` or `next` besides" ∷
    codes "a left side or a claim lacks the variables around it" ∷
    codes "a signal reads itself without a delay" ∷
    codes "the implementation reads an abstract signal" ∷
    codes "an abstract signal is assigned outside layers" ∷
    codes "a number meets a value of a set type, or a scalarset is compared by its order" ∷
    codes "the variable of a `for` meets a value of a set type" ∷
    codes "what is split is nothing that can be split" ∷
    codes "the names of a split do not fit" ∷
    codes "the design passes a limit" ∷
    codes "what is used, or proved, is not there" ∷
    codes "something is chosen twice" ∷
    codes "names after `prove` or in the braces of a use do not fit" ∷
    codes "a unit has too many parameters or too many cases" ∷
    codes "a case has more than 1,024 state bits" ∷
    codes "the text has more than 1,048,576 bytes" ∷
    []

-- the sentence of a fault, by its number
abbrev pub rule : ℕ → List ℕ
rule number = get_or rules number []
