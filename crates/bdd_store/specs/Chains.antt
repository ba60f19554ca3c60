-- How a Store keeps its nodes: each place past the constants stands once, in the chain that is its home. That of a
-- node is named by its hash; that of a place that was given back is the free list. Places fall along each chain.
use Rattle.std.specs.Prelude.{◌≡◌, ◌≢◌, ℕ, zero, suc, ◌+◌, ◌*◌, ◌-◌, ◌^◌, ◌<◌, ◌≤◌, ◌⊎◌, Bool, true, false, List, length, slice_index_or, bit_and, nat_lt, if◌then◌else◌}
use Rattle.std.specs.List.{count_by}
use Rattle.bdd_store.specs.declared.chains.Node.{Node}
use Rattle.bdd_store.specs.declared.results.Entry.{Entry}
use Rattle.bdd_store.specs.Seen.{flag}
use Rattle.bdd_store.specs.Results.{AreResults, diagram_of}
use Rattle.bdd_store.specs.Graph.{node_at, var_at, low_at, high_at, next_at, Live, Reduced}

-- the chain of a node among len chains: nodes of one variable whose children stand close to each other have chains
-- that do, too
unfoldable pub bucket_of : ℕ → ℕ → ℕ → ℕ → ℕ
bucket_of var low high len = bit_and (low + 37 * high + 0x1E37_79B1 * var) (len - 1)

-- a power of two
abbrev pub IsPower : ℕ → Type 0
IsPower m = (k : ℕ) × (m ≡ 2 ^ k)

-- the chain in which a place is to stand; the free list is chain number len
unfoldable pub home : ℕ → List Node → ℕ → ℕ → ℕ
home n ns len r = if nat_lt (var_at ns r) n then bucket_of (var_at ns r) (low_at ns r) (high_at ns r) len else len

-- the first place of a chain, or 0
abbrev pub start : List ℕ → ℕ → ℕ → ℕ
start heads free c = slice_index_or heads c free

-- the place that is n links after r
unfoldable pub after : List Node → ℕ → ℕ → ℕ
after ns zero r = r
after ns (suc n) r = after ns n (next_at ns r)

-- the chain from x leads to r
abbrev pub InChain : List Node → ℕ → ℕ → Type 0
InChain ns x r = (n : ℕ) × (after ns n x ≡ r)

-- the chain from x ends, since its places fall
abbrev pub IsFalling : List Node → ℕ → Type 0
IsFalling ns x = (r : ℕ) → 0 < r → InChain ns x r → (r < length ns) × (next_at ns r < r)

-- every place, and every place but one
abbrev pub AllOf : List Node → ℕ → Type 0
AllOf ns r = r < length ns

abbrev pub AllBut : List Node → ℕ → ℕ → Type 0
AllBut ns f r = (r < length ns) × (r ≢ f)

-- the places that are to be chained are exactly those in the chains, each in its home
pub record Chained (n : ℕ) (ns : List Node) (heads : List ℕ) (free : ℕ) (IsIn : ℕ → Type 0) : Type 0 where
  pub power : IsPower (length heads)
  pub ends : next_at ns 0 ≡ 0
  pub falls : (r : ℕ) → 2 ≤ r → IsIn r → next_at ns r < r
  pub listed : (r : ℕ) → 2 ≤ r → IsIn r → InChain ns (start heads free (home n ns (length heads) r)) r
  pub only : (c r : ℕ) → c ≤ length heads → 0 < r → InChain ns (start heads free c) r → (2 ≤ r) × IsIn r × (home n ns (length heads) r ≡ c)

-- the node that is wanted
abbrev pub Matches : List Node → ℕ → ℕ → ℕ → ℕ → Type 0
Matches ns r var low high = (var_at ns r ≡ var) × (low_at ns r ≡ low) × (high_at ns r ≡ high)

-- the same nodes but for their links
pub record SameGraph (old new : List Node) : Type 0 where
  pub count : length new ≡ length old
  pub vars : (r : ℕ) → var_at new r ≡ var_at old r
  pub lows : (r : ℕ) → low_at new r ≡ low_at old r
  pub highs : (r : ℕ) → high_at new r ≡ high_at old r

-- the number of nodes
unfoldable pub node_count : ℕ → List Node → ℕ
node_count n ns = count_by (λ (x : Node). nat_lt x.var n) ns

-- the place f gets a node, and all else stays but for links
pub record Puts (n : ℕ) (old new : List Node) (f var low high : ℕ) : Type 0 where
  pub live : Live n new f
  pub here : Matches new f var low high
  pub same : (r : ℕ) → Live n old r → Live n new r × Matches new r (var_at old r) (low_at old r) (high_at old r)
  pub only : (r : ℕ) → Live n new r → Live n old r ⊎ (r ≡ f)

-- the nodes that are not marked were given back
pub record GivesBack (n : ℕ) (old new : List Node) (marks : List Bool) : Type 0 where
  pub count : length new ≡ length old
  pub kept : (r : ℕ) → (r < 2) ⊎ (flag marks r ≡ true) → node_at new r ≡ node_at old r
  pub gone : (r : ℕ) → 2 ≤ r → r < length old → flag marks r ≡ false → var_at new r ≡ n

-- what the fields of a Store keep
pub record Stored (n : ℕ) (ns : List Node) (heads : List ℕ) (free held : ℕ) (marks : List Bool) (marked : ℕ) (results : List Entry) : Type 0 where
  pub reduced : Reduced n ns
  pub chained : Chained n ns heads free (AllOf ns)
  pub few : length ns ≤ 0x1_0000_0000
  pub held_counted : held ≡ node_count n ns
  pub flags : length marks ≡ length ns
  pub marks_counted : marked ≡ count_by (λ (s : Bool). s) marks
  pub known : AreResults (diagram_of n ns) results
