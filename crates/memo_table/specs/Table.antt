-- How a Memo keeps its results: entries in one list, and for each hash the chain of those that have it. A chain begins at
-- the last one and leads to earlier ones; it passes none that has its hash.
use Rattle.std.specs.Prelude.{◌≡◌, ◌≢◌, ℕ, zero, suc, ◌+◌, ◌*◌, ◌-◌, ◌%◌, ◌/◌, ◌^◌, ◌<◌, ◌≤◌, List, [], ◌∷◌, length, slice_index_or, bit_and}
use Rattle.bdd_store.specs.declared.Ref.{Ref}
use Rattle.memo_table.specs.declared.Entry.{Entry}
use Rattle.memo_table.specs.Results.{Results}

-- a number that depends on all digits of both
unfoldable pub mixed_of : ℕ → ℕ → ℕ
mixed_of first second = ((first * 0x9E37_79B9_7F4A_7C15) % 2 ^ 64 + (second * 0xC2B2_AE3D_27D4_EB4F) % 2 ^ 64) % 2 ^ 64

-- the chain of a pair among len chains
unfoldable pub bucket_of : ℕ → Ref → Ref → ℕ
bucket_of len first second = bit_and (mixed_of first.place second.place / 2 ^ 32) (len - 1)

abbrev pub no_entry : Entry
no_entry = record { first = record { place = 0 }; second = record { place = 0 }; answer = record { place = 0 }; next = 0 }

abbrev pub entry_at : List Entry → ℕ → Entry
entry_at es i = slice_index_or es i no_entry

-- the chain of an entry
abbrev pub bucket_at : ℕ → List Entry → ℕ → ℕ
bucket_at len es i = bucket_of len (entry_at es i).first (entry_at es i).second

abbrev pub next_at : List Entry → ℕ → ℕ
next_at es i = (entry_at es i).next

abbrev pub head_at : List ℕ → ℕ → ℕ
head_at heads b = slice_index_or heads b 0

-- an entry's operands and result
abbrev pub result_at : List Entry → ℕ → (Ref × Ref) × Ref
result_at es i = (((entry_at es i).first, (entry_at es i).second), (entry_at es i).answer)

-- the results of the first n entries, the last one first
unfoldable pub kept : List Entry → ℕ → Results
kept es zero = []
kept es (suc i) = result_at es i ∷ kept es i

-- from x, which is an entry's number counted from 1 or 0, to n no entry is of chain b, and the one before x is
pub record LeadsTo (len : ℕ) (es : List Entry) (b n x : ℕ) : Type 0 where
  pub within : x ≤ n
  pub passed : (j : ℕ) → x ≤ j → j < n → bucket_at len es j ≢ b
  pub here : 0 < x → bucket_at len es (x - 1) ≡ b

-- the first n entries stand in their chains
pub record Chained (len : ℕ) (es : List Entry) (heads : List ℕ) (n : ℕ) : Type 0 where
  pub starts : (b : ℕ) → b < len → LeadsTo len es b n (head_at heads b)
  pub links : (i : ℕ) → i < n → LeadsTo len es (bucket_at len es i) i (next_at es i)

-- the same results in the same order
pub record SameResults (old new : List Entry) : Type 0 where
  pub count : length new ≡ length old
  pub results : (i : ℕ) → result_at new i ≡ result_at old i

-- What the fields of a Memo keep. Where there are no chains there are few entries.
pub record IsTable (es : List Entry) (heads : List ℕ) : Type 0 where
  pub chained : 0 < length heads → Chained (length heads) es heads (length es)
  pub room : 0 < length heads → length es ≤ length heads
  pub small : length heads ≡ 0 → length es ≤ 16
  pub few : length heads < 0x1_0000_0000
