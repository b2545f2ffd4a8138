-- Graphs, given by their edges, and what the edges lead to.
use Rattle.std.specs.Prelude.{◌≡◌, ◌≢◌, ◌⊎◌, ℕ, suc, ◌+◌, ◌*◌, ◌<◌, ◌≤◌, Bool, true, false, not, List, length, get_or, All, Contains, count_by}
use Rattle.kb_fsa.specs.declared.links.Links.{Links}

-- the thing is marked
abbrev pub IsMarked : List Bool → ℕ → Type 0
IsMarked marks x = get_or marks x false ≡ true

-- a path of edges leads from a seed to the thing
pub data IsReached (edges : List (ℕ × ℕ)) (seeds : List Bool) : ℕ → Type 0 where
  at_seed : {x : ℕ} → IsMarked seeds x → IsReached edges seeds x
  along : {x y : ℕ} → IsReached edges seeds x → Contains edges (x, y) → IsReached edges seeds y

-- where the edge at a place begins
abbrev pub source : List (ℕ × ℕ) → ℕ → ℕ
source edges place = (get_or edges place (0, 0)).0

-- where it ends
abbrev pub end : List (ℕ × ℕ) → ℕ → ℕ
end edges place = (get_or edges place (0, 0)).1

-- The first edges, as many as are done, are linked by what they lead from: the last edge from each thing is known, and
-- for each edge the one before it. Edges are numbered from 1, and 0 stands for none.
pub record AreLinked (edges : List (ℕ × ℕ)) (done count : ℕ) (last earlier : List ℕ) : Type 0 where
  pub one_each : length last ≡ count
  pub all_done : length earlier ≡ done
  pub last_is : (x place : ℕ) → get_or last x 0 ≡ suc place
      → (place < done) × (source edges place ≡ x)
  pub none_later : (x place : ℕ) → x < count → get_or last x 0 ≤ place → place < done
      → source edges place ≢ x
  pub earlier_is : (place other : ℕ) → place < done → get_or earlier place 0 ≡ suc other
      → (other < place) × (source edges other ≡ source edges place)
  pub none_between : (place other : ℕ) → place < done → get_or earlier place 0 ≤ other
      → other < place
      → source edges other ≢ source edges place

-- all edges are linked, for things below the count
abbrev pub AreLinksOf : List (ℕ × ℕ) → ℕ → Links → Type 0
AreLinksOf edges count links =
    AreLinked edges (length edges) count links.last.items links.earlier.items

-- The marked things are reached. The edges from them end in marked things, but for those from what is pending and the
-- first edges from one thing, up to the one of the number.
pub record IsMarking (edges : List (ℕ × ℕ)) (seeds : List Bool) (from number : ℕ)
    (marks : List Bool) (pending : List ℕ) : Type 0 where
  pub one_each : length marks ≡ length seeds
  pub sound : (x : ℕ) → IsMarked marks x → IsReached edges seeds x
  pub begun : (x : ℕ) → IsMarked seeds x → IsMarked marks x
  pub marked : All (IsMarked marks) pending
  pub next : (place : ℕ) → number ≡ suc place
      → (place < length edges) × (source edges place ≡ from) × IsMarked marks from
  pub closed : (place : ℕ) → place < length edges → IsMarked marks (source edges place)
      → ((place < number) × (source edges place ≡ from))
      ⊎ (Contains pending (source edges place) ⊎ IsMarked marks (end edges place))

-- the list has the marked things below the bound
pub record IsListing (marks : List Bool) (bound : ℕ) (listed : List ℕ) : Type 0 where
  pub marked : All (IsMarked marks) listed
  pub each : (x : ℕ) → x < bound → IsMarked marks x → Contains listed x

-- what is still to be done: it falls with each thing that is taken, and doesn't rise where a thing is marked and added
abbrev pub weight : List Bool → List ℕ → ℕ
weight marks pending = 2 * count_by not marks + length pending

-- Along the links, from the last edge on, the edges from a thing are done down to the one of the number, if any.
pub record IsWalk (edges : List (ℕ × ℕ)) (from number : ℕ) (Done : ℕ → Type 0) : Type 0 where
  pub next : (place : ℕ) → number ≡ suc place → (place < length edges) × (source edges place ≡ from)
  pub done : (place : ℕ) → number ≤ place → place < length edges → source edges place ≡ from
      → Done place
