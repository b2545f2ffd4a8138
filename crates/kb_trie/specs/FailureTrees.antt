-- The tree of failure links: for each state the list of the states that it is the link of, latest first.
use Rattle.std.specs.Prelude.{◌≡◌, ℕ, ◌<◌, ◌≤◌, List, length, get_or}
use Rattle.kb_trie.specs.declared.failure_tree.FailureTree.{FailureTree}

-- the last state before the bound that has this link, or 0 where there is none
pub record IsLastLinked (links : List ℕ) (link bound state : ℕ) : Type 0 where
  pub before : 0 < state → state < bound
  pub linked : 0 < state → get_or links state 0 ≡ link
  pub last : (other : ℕ) → 0 < other → other < bound → get_or links other 0 ≡ link → other ≤ state

-- the first state after this one and before the bound that has this link, or 0 where there is none
pub record IsNextLinked (links : List ℕ) (link after bound state : ℕ) : Type 0 where
  pub behind : 0 < state → after < state
  pub before : 0 < state → state < bound
  pub linked : 0 < state → get_or links state 0 ≡ link
  pub some : (other : ℕ) → after < other → other < bound → get_or links other 0 ≡ link → 0 < state
  pub next : (other : ℕ) → after < other → other < bound → get_or links other 0 ≡ link
      → state ≤ other

-- The states with one link in a list, each with the next and the previous one. A state whose link is none of the
-- states stands in no list.
pub record AreFailureChildren (count : ℕ) (links firsts nexts previous : List ℕ) : Type 0 where
  pub link_room : count ≤ length links
  pub first_room : count ≤ length firsts
  pub next_room : count ≤ length nexts
  pub previous_room : count ≤ length previous
  pub first : (state : ℕ) → state < count → IsLastLinked links state count (get_or firsts state 0)
  pub next : (state : ℕ) → 0 < state → state < count → get_or links state 0 < count
      → IsLastLinked links (get_or links state 0) state (get_or nexts state 0)
  pub back : (state : ℕ) → 0 < state → state < count → get_or links state 0 < count
      → IsNextLinked links (get_or links state 0) state count (get_or previous state 0)

abbrev pub IsFailureTree : FailureTree → Type 0
IsFailureTree tree =
    AreFailureChildren tree.count tree.links.items tree.firsts.items tree.nexts.items
    tree.previous.items
